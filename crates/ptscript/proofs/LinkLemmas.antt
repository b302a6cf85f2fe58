-- What a terminal has met and sent on one link, chunk after chunk.
use Rattle.std.proofs.Common.{◌≡◌, ℕ, Bool, List, [], ◌∷◌, ◌++◌, Option, None, Some, Result, Ok, Err, refl, sym, ap, subst, ◌∙◌, append_assoc, append-nil}
use Rattle.std.specs.Prelude.{◌||◌, if◌then◌else◌}
use Rattle.gw_bytes.specs.Bytes.{IsPrefix}
use Rattle.zvt_apdu.specs.Grammar.{ApduValue}
use Rattle.zvt_apdu.specs.Decode.{DecodedApdu, decode_apdu}
use Rattle.zvt_apdu.specs.DecodeStream.{DecodedApdus, decode_apdus}
use Rattle.pt_core.specs.Serving.{TerminalValue, is_bad}
use Rattle.pt_core.specs.History.{Setting, Met, NewLink, Chunk, earlier, handled, has_cut, is_cut_by, link_bytes, sent_for, sent_on_link, terminal_account, terminal_after}
use Rattle.ptscript.specs.declared.played.LinkState.{LinkState}
use Rattle.ptscript.specs.declared.played.LinkState.TheVariants as link
use Rattle.ptscript.specs.inner.Link.{AreSent, IsCutByTerminal, IsHeard, IsPartWritten, IsWritten, Reacts, ServesLink}

-- ---- by the requests before the link and the bytes on it

abbrev cut_by : Setting → List ApduValue → List ℕ → Bool
cut_by setting before bytes = is_cut_by setting before (decode_apdus bytes).apdus || is_bad (decode_apdu (decode_apdus bytes).rest)

abbrev terminal_by : Setting → List ApduValue → List ℕ → TerminalValue
terminal_by setting before bytes = record {
  account = terminal_account setting (handled setting before (decode_apdus bytes).apdus);
  connection = if cut_by setting before bytes then None else Some (decode_apdus bytes).rest;
}

abbrev sent_by : Setting → List ApduValue → List ℕ → List ℕ
sent_by setting before bytes = sent_for setting before (decode_apdus bytes).apdus

-- bytes in two chunks do the same as at once
two_terminal : (setting : Setting) (met : List Met) (first second : List ℕ) → terminal_after setting (Chunk second ∷ Chunk first ∷ met) ≡ terminal_after setting (Chunk (first ++ second) ∷ met)
two_terminal setting met first second = ap (terminal_by setting (earlier setting met)) (append_assoc (link_bytes met) first second)

two_sent : (setting : Setting) (met : List Met) (first second : List ℕ) → sent_on_link setting (Chunk second ∷ Chunk first ∷ met) ≡ sent_on_link setting (Chunk (first ++ second) ∷ met)
two_sent setting met first second = ap (sent_by setting (earlier setting met)) (append_assoc (link_bytes met) first second)

two_cut : (setting : Setting) (met : List Met) (first second : List ℕ) → has_cut setting (Chunk second ∷ Chunk first ∷ met) ≡ has_cut setting (Chunk (first ++ second) ∷ met)
two_cut setting met first second = ap (cut_by setting (earlier setting met)) (append_assoc (link_bytes met) first second)

-- no bytes do nothing
none_terminal : (setting : Setting) (met : List Met) → terminal_after setting (Chunk [] ∷ met) ≡ terminal_after setting met
none_terminal setting met = ap (terminal_by setting (earlier setting met)) (append-nil (link_bytes met))

none_sent : (setting : Setting) (met : List Met) → sent_on_link setting (Chunk [] ∷ met) ≡ sent_on_link setting met
none_sent setting met = ap (sent_by setting (earlier setting met)) (append-nil (link_bytes met))

-- ---- what is written

pub none_written : (before : Option (List ℕ)) → IsWritten before before []
none_written before bytes is = is ∙ ap (λ (b : List ℕ). let o : Option (List ℕ) = Some b in o) (sym (append-nil bytes))

pub none_part : (before : Option (List ℕ)) → IsPartWritten before before []
none_part before bytes is = ([], ([], refl), none_written before bytes is)

-- after bytes that were written, others are, or a part of them
more_written : (before between after : Option (List ℕ)) (first second : List ℕ) → IsWritten before between first → IsWritten between after second → IsWritten before after (first ++ second)
more_written before between after first second one two bytes is =
    two (bytes ++ first) (one bytes is) ∙ ap (λ (b : List ℕ). let o : Option (List ℕ) = Some b in o) (append_assoc bytes first second)

more_part : (before between after : Option (List ℕ)) (first second : List ℕ) → IsWritten before between first → IsPartWritten between after second → IsPartWritten before after (first ++ second)
more_part before between after first second one two bytes is =
    let found = two (bytes ++ first) (one bytes is) in
    let prefix : IsPrefix found.0 second = found.1 in (
      first ++ found.0,
      (prefix.0, ap (λ (b : List ℕ). first ++ b) prefix.1 ∙ sym (append_assoc first found.0 prefix.0)),
      found.2 ∙ ap (λ (b : List ℕ). let o : Option (List ℕ) = Some b in o) (append_assoc bytes first found.0),
    )

more_sent : {E : Type 0} (result : Result LinkState E) (before between after : Option (List ℕ)) (first second : List ℕ)
    → IsWritten before between first → AreSent result between after second → AreSent result before after (first ++ second)
more_sent (Ok link.Open) before between after first second one two = more_written before between after first second one two
more_sent (Ok link.ClosedByGateway) before between after first second one two = more_written before between after first second one two
more_sent (Ok link.CutByTerminal) before between after first second one two = more_written before between after first second one two
more_sent (Ok link.Failed) before between after first second one two = more_part before between after first second one two
more_sent (Err fault) before between after first second one two = more_part before between after first second one two

more_cut : {E : Type 0} (result : Result LinkState E) (setting : Setting) (met : List Met) (first second : List ℕ)
    → IsCutByTerminal result setting (Chunk second ∷ Chunk first ∷ met) → IsCutByTerminal result setting (Chunk (first ++ second) ∷ met)
more_cut (Ok link.Open) setting met first second is = tt
more_cut (Ok link.ClosedByGateway) setting met first second is = tt
more_cut (Ok link.CutByTerminal) setting met first second is = sym (two_cut setting met first second) ∙ is
more_cut (Ok link.Failed) setting met first second is = tt
more_cut (Err fault) setting met first second is = tt

-- ---- what is heard

-- after bytes that were read, others are, or a part of them
more_prefix : (all first second after : List ℕ) → all ≡ first ++ after → IsPrefix second after → IsPrefix (first ++ second) all
more_prefix all first second after is prefix = (prefix.0, is ∙ ap (λ (b : List ℕ). first ++ b) prefix.1 ∙ sym (append_assoc first second prefix.0))

pub more_heard : {E : Type 0} (result : Result LinkState E) (left between rest : Option (List ℕ)) (first second : List ℕ)
    → IsHeard {E = E} (Ok link.Open) left between first → IsHeard result between rest second → IsHeard result left rest (first ++ second)
more_heard (Ok link.Open) left between rest first second one two = λ all is.
    let found = one all is in
    let next = two found.0 found.2 in
    (next.0, found.1 ∙ ap (λ (b : List ℕ). first ++ b) next.1 ∙ sym (append_assoc first second next.0), next.2)
more_heard (Ok link.ClosedByGateway) left between rest first second one two = λ all is.
    let found = one all is in found.1 ∙ ap (λ (b : List ℕ). first ++ b) (two found.0 found.2)
more_heard (Ok link.CutByTerminal) left between rest first second one two = λ all is.
    let found = one all is in more_prefix all first second found.0 found.1 (two found.0 found.2)
more_heard (Ok link.Failed) left between rest first second one two = λ all is.
    let found = one all is in more_prefix all first second found.0 found.1 (two found.0 found.2)
more_heard (Err fault) left between rest first second one two = λ all is.
    let found = one all is in more_prefix all first second found.0 found.1 (two found.0 found.2)

-- ---- reactions

-- to no bytes
pub unheard : {E : Type 0} (before : Option (List ℕ)) (terminal : TerminalValue) (result : Result LinkState E)
    → AreSent result before before [] → ((setting : Setting) (met : List Met) → IsCutByTerminal result setting met) → Reacts before before terminal terminal result []
unheard before terminal result sent cut = record {
  met = λ setting met is. is ∙ sym (none_terminal setting met);
  sent = λ setting met is. ([], none_sent setting met ∙ sym (append-nil (sent_on_link setting met)), sent);
  cut = λ setting met is. cut setting (Chunk [] ∷ met);
}

-- to no bytes, where nothing changed
pub unchanged : {E : Type 0} (before after : Option (List ℕ)) (old new : TerminalValue) (result : Result LinkState E)
    → after ≡ before → new ≡ old → AreSent result before before [] → ((setting : Setting) (met : List Met) → IsCutByTerminal result setting met) → Reacts before after old new result []
unchanged before after old new result same_output same_terminal sent cut =
    let P : Option (List ℕ) → Type 0 = λ a. Reacts before a old new result [] in
    let Q : TerminalValue → Type 0 = λ t. Reacts before before old t result [] in
    subst P (sym same_output) (subst Q (sym same_terminal) (unheard before old result sent cut))

-- to a chunk after which the program ends, whose bytes are all written
pub all_part : (before after : Option (List ℕ)) (bytes : List ℕ) → IsWritten before after bytes → IsPartWritten before after bytes
all_part before after bytes written first is = (bytes, ([], sym (append-nil bytes)), written first is)

sent_then_ended : {E F : Type 0} (result : Result LinkState E) (fault : F) (before after : Option (List ℕ)) (bytes : List ℕ)
    → AreSent result before after bytes → AreSent {E = F} (Err fault) before after bytes
sent_then_ended (Ok link.Open) fault before after bytes sent = all_part before after bytes sent
sent_then_ended (Ok link.ClosedByGateway) fault before after bytes sent = all_part before after bytes sent
sent_then_ended (Ok link.CutByTerminal) fault before after bytes sent = all_part before after bytes sent
sent_then_ended (Ok link.Failed) fault before after bytes sent = sent
sent_then_ended (Err other) fault before after bytes sent = sent

pub then_ended : {E F : Type 0} (result : Result LinkState E) (fault : F) (before after : Option (List ℕ)) (old new : TerminalValue) (heard : List ℕ)
    → Reacts before after old new result heard → Reacts {E = F} before after old new (Err fault) heard
then_ended result fault before after old new heard reacts = record {
  met = reacts.met;
  sent = λ setting met is. let sent = reacts.sent setting met is in (sent.0, sent.1, sent_then_ended result fault before after sent.0 sent.2);
  cut = λ setting met is. tt;
}

-- to some bytes, and then to others
pub more_reacts : {E : Type 0} (result : Result LinkState E) (before between after : Option (List ℕ)) (old mid new : TerminalValue) (first second : List ℕ)
    → Reacts {E = E} before between old mid (Ok link.Open) first → Reacts between after mid new result second → Reacts before after old new result (first ++ second)
more_reacts result before between after old mid new first second one two = record {
  met = λ setting met is. two.met setting (Chunk first ∷ met) (one.met setting met is) ∙ two_terminal setting met first second;
  sent = λ setting met is.
      let here = one.sent setting met is in
      let next = two.sent setting (Chunk first ∷ met) (one.met setting met is) in (
        here.0 ++ next.0,
        sym (two_sent setting met first second) ∙ next.1 ∙ ap (λ (b : List ℕ). b ++ next.0) here.1 ∙ append_assoc (sent_on_link setting met) here.0 next.0,
        more_sent result before between after here.0 next.0 here.2 next.2,
      );
  cut = λ setting met is. more_cut result setting met first second (two.cut setting (Chunk first ∷ met) (one.met setting met is));
}

-- ---- the link

-- what `law_decode_apdus` says of bytes without a whole APDU
abbrev pub Incomplete : Type 0
Incomplete = (bytes : List ℕ) → decode_apdu bytes ≡ DecodedApdu.Incomplete → decode_apdus bytes ≡ record { apdus = []; rest = bytes }

nothing_sent : Incomplete → (setting : Setting) (met : List Met) → sent_on_link setting (NewLink ∷ met) ≡ []
nothing_sent incomplete setting met = ap (λ (d : DecodedApdus). sent_for setting (earlier setting (NewLink ∷ met)) d.apdus) (incomplete [] refl)

pub whole_link : {E : Type 0} → Incomplete → (result : Result LinkState E) (left rest before after : Option (List ℕ)) (old begun new : TerminalValue) (heard : List ℕ)
    → ((setting : Setting) (met : List Met) → old ≡ terminal_after setting met → begun ≡ terminal_after setting (NewLink ∷ met))
    → IsHeard result left rest heard → Reacts before after begun new result heard → ServesLink left rest before after old new result
whole_link incomplete result left rest before after old begun new heard begin first reacts = record {
  heard = heard;
  first = first;
  met = λ setting met is. reacts.met setting (NewLink ∷ met) (begin setting met is);
  sent = λ setting met is.
      let sent = reacts.sent setting (NewLink ∷ met) (begin setting met is) in
      let P : List ℕ → Type 0 = λ b. AreSent result before after b in
      subst P (sym (sent.1 ∙ ap (λ (b : List ℕ). b ++ sent.0) (nothing_sent incomplete setting met))) sent.2;
  cut = λ setting met is. reacts.cut setting (NewLink ∷ met) (begin setting met is);
}

-- the link after bytes that were heard while it was open, and then others
pub link_after : {E : Type 0} → Incomplete → (result : Result LinkState E) (left between_left rest before between after : Option (List ℕ)) (old begun now same new : TerminalValue) (first second : List ℕ)
    → ((setting : Setting) (met : List Met) → old ≡ terminal_after setting met → begun ≡ terminal_after setting (NewLink ∷ met))
    → IsHeard {E = E} (Ok link.Open) left between_left first → Reacts {E = E} before between begun now (Ok link.Open) first → same ≡ now
    → IsHeard result between_left rest second → Reacts between after same new result second → ServesLink left rest before after old new result
link_after incomplete result left between_left rest before between after old begun now same new first second begin heard_first reacts_first is heard_second reacts_second =
    let P : TerminalValue → Type 0 = λ t. Reacts between after t new result second in
    whole_link incomplete result left rest before after old begun new (first ++ second) begin (more_heard result left between_left rest first second heard_first heard_second)
    (more_reacts result before between after begun now new first second reacts_first (subst P is reacts_second))
