-- What a played terminal that waits for no bytes does at what the gateway sends it: at a whole command, at an acknowledgement, a refusal or a stop, at a first part of any of them, and at a new link.
use Rattle.std.proofs.Common.{◌≡◌, ◌∙◌, ℕ, zero, suc, ◌<◌, ◌≤◌, Bool, true, false, cond, eqb, List, [], ◌∷◌, ◌++◌, length, drop, Option, None, Some, Ok, refl, sym, ap, subst, append_assoc, append-nil, arith, inl, inr}
use Rattle.std.specs.Prelude.{◌⊎◌, ◌&&◌, ◌||◌, map, nat_lt}
use Rattle.std.specs.List.{AllByRecursion}
use Rattle.std.proofs.lemmas.Bool.{ltb-true}
use Rattle.std.proofs.Math.Seq.{drop-append_seam}
use Rattle.gw_bytes.specs.Bytes.{IsPrefix}
use Rattle.zvt_apdu.specs.Grammar.{ApduValue}
use Rattle.zvt_apdu.specs.Decode.{DecodedApdu, decode_apdu}
use Rattle.zvt_apdu.specs.DecodeStream.{DecodedApdus, with_first_apdu, decode_apdus}
use Rattle.zvt_msg.specs.declared.command.Command.{Command}
use Rattle.zvt_msg.specs.CommandCanonical.{canonical_command, command_apdu}
use Rattle.zvt_msg.specs.CommandDecode.{decode_command}
use Rattle.zvt_msg.specs.CommandGrammar.{HasCommandDigits, HasCommandSizes}
use Rattle.zvt_msg.specs.Message.{MessageValue}
use Rattle.zvt_msg.specs.MessageCanonical.{HasPtMessageForm, HasPtMessageSizes, canonical_pt_message, pt_message_read_again}
use Rattle.zvt_msg.specs.MessageDecode.{decode_pt_message}
use Rattle.pt_core.specs.declared.book.BookEntry.{BookEntry}
use Rattle.zvt_msg.specs.declared.command.Command.TheVariants as command
use Rattle.pt_core.specs.declared.play.Play.{Play}
use Rattle.pt_core.specs.declared.play.Play.TheVariants as play
use Rattle.pt_core.specs.Book.{fits_status, is_full, last_book_entry, last_payment, next_entry}
use Rattle.pt_core.specs.Table.{all_canonical, at_other, by_command, bytes_of, cuts, enquiry, entries_of, payment, reported_fits, reversal, status_of_entry}
use Rattle.pt_core.specs.Serving.{is_bad}
use Rattle.pt_core.specs.History.{Setting, Met, NewLink, Chunk, all_handled, book_after, book_of, earlier, handled, has_cut, is_cut_by, link_bytes, play_left, reaction_after, requests, sent_for, sent_on_link}
use Rattle.pt_core.proofs.BookLemmas.{both}
use Rattle.pt_core.proofs.EndLemmas.{read_messages}
use Rattle.pt_core.proofs.GrowthLemmas.{handled_append, sent_append}
use Rattle.pt_core.proofs.HearingLemmas.{AllLaws}
use Rattle.pt_core.proofs.PrefixLemmas.{begins_at_prefix, prefix_bad, prefix_stays}
use Rattle.pt_core.proofs.ReactionLemmas.{ReadLaws, reaction_fits}
use Rattle.pt_core.proofs.SplitLemmas.{Laws}
use Rattle.pt_core.specs.Exchange.{Exchange, Links, Sends, heard_on_link, met_of}
use Rattle.zvt_talk.specs.declared.dialogue_kind.DialogueKind.{DialogueKind}
use Rattle.zvt_talk.specs.declared.dialogue_kind.DialogueKind.TheVariants.{EndOfDay as EndOfDayDialogue, Display as DisplayDialogue}
use Rattle.zvt_talk.specs.Dialogue.{Dialogue, dialogue_kind_of}
use Rattle.zvt_talk.specs.Talk.{TalkFacts, talk_after}
use Rattle.gw_owes.specs.Items.{RoundItem}
use Rattle.gw_owes.specs.declared.terminal.Service.TheVariants.{Transaction, EndOfDay, Display}
use Rattle.gw_owes.specs.declared.terminal.Standing.{Standing}
use Rattle.gw_owes.specs.declared.terminal.Standing.TheVariants.{Unlinked, Registering, Enquiring, Ready, Serving, Aside}
use Rattle.gw_owes.specs.Links.{is_linked}
use Rattle.gw_rules.proofs.StageLemmas.{no-true}
use Rattle.gw_books.specs.Books.{BookedEntry}
use Rattle.gw_books.specs.Past.{SentCommand}
use Rattle.gw_books.proofs.Holding.{charges}
use Rattle.gw_books.proofs.ListLemmas.{In}
use Rattle.gw_played.specs.Played.{PlacedExchange, exchanges_in, booked_by, placed_entry, book_along}
use Rattle.gw_played.proofs.Playing.{met_in, pending, AreMessages, IsLeft, WaitsForNone, IsQuiet, IsTalking, IsLastServed, IsTransacting, IsServing, IsPeerIn, PeerLaws}

-- ---- bytes that come in two parts

-- what was decoded of the first bytes, and what more bytes make of the rest
abbrev pub with_more : DecodedApdus → List ℕ → DecodedApdus
with_more first more = record { apdus = first.apdus ++ (decode_apdus (first.rest ++ more)).apdus; rest = (decode_apdus (first.rest ++ more)).rest }

abbrev Splits : List ℕ → List ℕ → Type 0
Splits bytes more = decode_apdus (bytes ++ more) ≡ with_more (decode_apdus bytes) more

splits-by : Laws → (bytes more : List ℕ) (prefix : DecodedApdu) → ((rest : List ℕ) → length rest < length bytes → Splits rest more) → decode_apdu bytes ≡ prefix → Splits bytes more
splits-by laws bytes more (DecodedApdu.Whole apdu rest) others e =
    let stays = prefix_stays bytes more apdu rest e in
    laws.whole (bytes ++ more) apdu (rest ++ more) stays.0
    ∙ ap (with_first_apdu apdu) (others rest stays.1)
    ∙ ap (λ (d : DecodedApdus). with_more d more) (sym (laws.whole bytes apdu rest e))
splits-by laws bytes more DecodedApdu.Incomplete others e = ap (λ (d : DecodedApdus). with_more d more) (sym (laws.incomplete bytes e))
splits-by laws bytes more (DecodedApdu.TooLong n) others e = ap (λ (d : DecodedApdus). with_more d more) (sym (laws.too_long bytes n e))

splits-within : Laws → (n : ℕ) (bytes more : List ℕ) → length bytes ≤ n → Splits bytes more
splits-within laws zero bytes more few = splits-by laws bytes more (decode_apdu bytes) (λ rest shorter. absurd (omega arith)) refl
splits-within laws (suc n) bytes more few = splits-by laws bytes more (decode_apdu bytes) (λ rest shorter. splits-within laws n rest more (omega arith)) refl

-- the APDUs of bytes in two parts are those of the first part, and those of its rest with the second part
pub decoded-in-parts : Laws → (bytes more : List ℕ) → decode_apdus (bytes ++ more) ≡ with_more (decode_apdus bytes) more
decoded-in-parts laws bytes more = splits-within laws (length bytes) bytes more (omega arith)

none-by : Laws → (bytes : List ℕ) (prefix : DecodedApdu) → decode_apdu bytes ≡ prefix → (decode_apdus bytes).apdus ≡ [] → (decode_apdus bytes).rest ≡ bytes
none-by laws bytes (DecodedApdu.Whole apdu rest) e none = absurd (let n : apdu ∷ (decode_apdus rest).apdus ≡ [] = ap (λ (d : DecodedApdus). d.apdus) (sym (laws.whole bytes apdu rest e)) ∙ none in cc)
none-by laws bytes DecodedApdu.Incomplete e none = ap (λ (d : DecodedApdus). d.rest) (laws.incomplete bytes e)
none-by laws bytes (DecodedApdu.TooLong n) e none = ap (λ (d : DecodedApdus). d.rest) (laws.too_long bytes n e)

-- bytes without a whole APDU are all left
pub none-is-whole : Laws → (bytes : List ℕ) → (decode_apdus bytes).apdus ≡ [] → (decode_apdus bytes).rest ≡ bytes
none-is-whole laws bytes none = none-by laws bytes (decode_apdu bytes) refl none

-- nothing is decoded of no bytes
pub nothing-decoded : Laws → decode_apdus [] ≡ record { apdus = []; rest = [] }
nothing-decoded laws = laws.incomplete [] refl

-- the bytes are this one APDU
abbrev pub IsOneApdu : List ℕ → ApduValue → Type 0
IsOneApdu bytes apdu = decode_apdu bytes ≡ DecodedApdu.Whole apdu []

pub one-decoded : Laws → (bytes : List ℕ) (apdu : ApduValue) → IsOneApdu bytes apdu → decode_apdus bytes ≡ record { apdus = apdu ∷ []; rest = [] }
one-decoded laws bytes apdu one = laws.whole bytes apdu [] one ∙ ap (with_first_apdu apdu) (nothing-decoded laws)

part-by : Laws → (bytes more : List ℕ) (apdu : ApduValue) (prefix : DecodedApdu) → IsOneApdu (bytes ++ more) apdu → decode_apdu bytes ≡ prefix → (more ≡ []) ⊎ (decode_apdus bytes ≡ record { apdus = []; rest = bytes })
part-by laws bytes more apdu (DecodedApdu.Whole other rest) one e = inl (no-rest rest (let same : DecodedApdu.Whole other (rest ++ more) ≡ DecodedApdu.Whole apdu [] = sym (prefix_stays bytes more other rest e).0 ∙ one in cc))
  where
    no-rest : (rest : List ℕ) → rest ++ more ≡ [] → more ≡ []
    no-rest [] is = is
    no-rest (byte ∷ rest) is = absurd cc
part-by laws bytes more apdu DecodedApdu.Incomplete one e = inr (laws.incomplete bytes e)
part-by laws bytes more apdu (DecodedApdu.TooLong n) one e = absurd (let n : DecodedApdu.TooLong n ≡ DecodedApdu.Whole apdu [] = sym (prefix_bad bytes more n e) ∙ one in cc)

-- a first part of one APDU is all of it, or has no whole one
pub part-of-one : Laws → (bytes whole : List ℕ) (apdu : ApduValue) → IsOneApdu whole apdu → IsPrefix bytes whole → (bytes ≡ whole) ⊎ (decode_apdus bytes ≡ record { apdus = []; rest = bytes })
part-of-one laws bytes whole apdu one (more, is) = by_parts (part-by laws bytes more apdu (decode_apdu bytes) (subst (λ (b : List ℕ). IsOneApdu b apdu) is one) refl)
  where
    by_parts : (more ≡ []) ⊎ (decode_apdus bytes ≡ record { apdus = []; rest = bytes }) → (bytes ≡ whole) ⊎ (decode_apdus bytes ≡ record { apdus = []; rest = bytes })
    by_parts (inl none) = inl (sym (append-nil bytes) ∙ ap (λ (m : List ℕ). bytes ++ m) (sym none) ∙ sym is)
    by_parts (inr part) = inr part

-- ---- what a terminal sends is whole messages

-- a message that can be written
abbrev IsWritable : MessageValue → Type 0
IsWritable message = HasPtMessageForm message × HasPtMessageSizes message × (length (canonical_pt_message message) ≤ 512)

status-writable : (entry : BookEntry) → fits_status entry ≡ true → IsWritable (MessageValue.Status (status_of_entry entry))
status-writable entry fits =
    let parts = both (nat_lt entry.number 1000000) (nat_lt entry.receipt 10000 && nat_lt entry.amount 1000000000000) fits in
    let others = both (nat_lt entry.receipt 10000) (nat_lt entry.amount 1000000000000) parts.1 in (
      record {
        amount = omega (arith, ltb-true entry.amount 1000000000000 others.1);
        trace = omega (arith, ltb-true entry.number 1000000 parts.0);
        receipt = omega (arith, ltb-true entry.receipt 10000 others.0);
      },
      tt,
      omega arith,
    )

-- bytes are these messages, whole, whatever comes after them
pub record AreWhole (bytes : List ℕ) (heard : List MessageValue) : Type 0 where
  pub apdus : List ApduValue
  pub are : AreMessages apdus heard
  pub decoded : (rest : List ℕ) → decode_apdus (bytes ++ rest) ≡ record { apdus = apdus ++ (decode_apdus rest).apdus; rest = (decode_apdus rest).rest }

all-whole : Laws → ReadLaws → (all : List MessageValue) → AllByRecursion IsWritable all → AreWhole (all_canonical all) (map pt_message_read_again all)
all-whole laws read [] written = record { apdus = []; are = tt; decoded = λ rest. refl }
all-whole laws read (message ∷ all) written =
    let further : AreWhole (all_canonical all) (map pt_message_read_again all) = all-whole laws read all written.1 in
    let first = read.written message [] (written.0).0 (written.0).1 (written.0).2 in
    let apdu : ApduValue = first.0 in
    let begins : decode_apdu (canonical_pt_message message ++ []) ≡ DecodedApdu.Whole apdu [] = begins_at_prefix (canonical_pt_message message ++ []) apdu [] first.1 in
    let alone : decode_apdu (canonical_pt_message message) ≡ DecodedApdu.Whole apdu [] = ap decode_apdu (sym (append-nil (canonical_pt_message message))) ∙ begins in
    let is : decode_pt_message apdu ≡ Ok (pt_message_read_again message) = (read.read apdu (Ok (pt_message_read_again message))).1 first.2 in
    record {
      apdus = apdu ∷ further.apdus;
      are = (is, further.are);
      decoded = λ rest.
          ap decode_apdus (append_assoc (canonical_pt_message message) (all_canonical all) rest)
          ∙ laws.whole (canonical_pt_message message ++ (all_canonical all ++ rest)) apdu (all_canonical all ++ rest) (prefix_stays (canonical_pt_message message) (all_canonical all ++ rest) apdu [] alone).0
          ∙ ap (with_first_apdu apdu) (further.decoded rest);
    }

module _ (laws : Laws) (read : ReadLaws) where
  none-whole : AreWhole [] []
  none-whole = record { apdus = []; are = tt; decoded = λ rest. refl }

  ack-whole : AreWhole (all_canonical (MessageValue.Ack ∷ [])) (MessageValue.Ack ∷ [])
  ack-whole = all-whole laws read (MessageValue.Ack ∷ []) ((tt, tt, omega arith), tt)

  nack-whole : AreWhole (all_canonical (MessageValue.Nack 0x83 ∷ [])) (MessageValue.Nack 0x83 ∷ [])
  nack-whole = all-whole laws read (MessageValue.Nack 0x83 ∷ []) ((tt, tt, omega arith), tt)

  completed-whole : AreWhole (all_canonical (MessageValue.Ack ∷ MessageValue.Completion ∷ [])) (MessageValue.Ack ∷ MessageValue.Completion ∷ [])
  completed-whole = all-whole laws read (MessageValue.Ack ∷ MessageValue.Completion ∷ []) ((tt, tt, omega arith), ((tt, tt, omega arith), tt))

  aborted-whole : (result_code : ℕ) → AreWhole (bytes_of (enquiry result_code None)) (read_messages 16 (enquiry result_code None))
  aborted-whole result_code = all-whole laws read (MessageValue.Ack ∷ MessageValue.Abort (Some result_code) ∷ []) ((tt, tt, omega arith), ((tt, tt, omega arith), tt))

  status-whole : (entry : BookEntry) → fits_status entry ≡ true → AreWhole (bytes_of (enquiry 0 (Some entry))) (read_messages 16 (enquiry 0 (Some entry)))
  status-whole entry fits =
      all-whole laws read (MessageValue.Ack ∷ MessageValue.Status (status_of_entry entry) ∷ MessageValue.Completion ∷ []) ((tt, tt, omega arith), (status-writable entry fits, ((tt, tt, omega arith), tt)))

  other-whole : (silent : Bool) → let done = cond silent (at_other 0x80) (at_other 0) in AreWhole (bytes_of done) (read_messages 16 done)
  other-whole true = none-whole
  other-whole false = nack-whole

  payment-whole : (full : Bool) (chosen : Play) (book : List BookEntry) (amount : ℕ)
      → let done = cond full (enquiry 0x83 None) (payment chosen book amount) in (reported_fits done ≡ true → AreWhole (bytes_of done) (read_messages 16 done))
  payment-whole true chosen book amount fits = aborted-whole 0x83
  payment-whole false play.Approve book amount fits = status-whole (next_entry book amount false) fits
  payment-whole false (play.Decline result_code) book amount fits = aborted-whole result_code
  payment-whole false play.CutAfterBook book amount fits = ack-whole
  payment-whole false play.DropAtOnce book amount fits = none-whole

  reversal-whole : (full : Bool) (found : Option BookEntry) (book : List BookEntry)
      → let done = cond full (enquiry 0x83 None) (reversal found book) in (reported_fits done ≡ true → AreWhole (bytes_of done) (read_messages 16 done))
  reversal-whole true found book fits = aborted-whole 0x83
  reversal-whole false None book fits = aborted-whole 0xB4
  reversal-whole false (Some paid) book fits = status-whole (next_entry book paid.amount true) fits

  enquiry-whole : (none : ℕ) (last : Option BookEntry) → let done = enquiry none last in (reported_fits done ≡ true → AreWhole (bytes_of done) (read_messages 16 done))
  enquiry-whole none None fits = aborted-whole none
  enquiry-whole none (Some entry) fits = status-whole entry fits

  by-command-whole : (none : ℕ) (chosen : Play) (book : List BookEntry) (class : ℕ) (asked : Option Command)
      → let done = by_command none chosen book class asked in (reported_fits done ≡ true → AreWhole (bytes_of done) (read_messages 16 done))
  by-command-whole none chosen book class None fits = other-whole ((eqb class 0x80) || (eqb class 0x84))
  by-command-whole none chosen book class (Some (command.Register password config currency)) fits = completed-whole
  by-command-whole none chosen book class (Some (command.Authorise amount currency)) fits = payment-whole (is_full book) chosen book amount fits
  by-command-whole none chosen book class (Some (command.Enquire password)) fits = enquiry-whole none (last_book_entry book) fits
  by-command-whole none chosen book class (Some (command.Reverse password receipt)) fits = reversal-whole (is_full book) (last_payment receipt book) book fits
  by-command-whole none chosen book class (Some (command.EndOfDay password)) fits = completed-whole
  by-command-whole none chosen book class (Some command.Stop) fits = none-whole
  by-command-whole none chosen book class (Some (command.Show display_lines)) fits = ack-whole

-- what is sent at a request is the messages of the reaction
pub reaction-whole : (laws : AllLaws) (setting : Setting) (before : List ApduValue) (apdu : ApduValue) → AreWhole (bytes_of (reaction_after setting before apdu)) (read_messages 16 (reaction_after setting before apdu))
reaction-whole laws setting before apdu =
    by-command-whole laws.stream laws.read setting.none (play_left setting.plays before) (book_of setting before) apdu.class (decode_command apdu) (reaction_fits laws.digits setting before apdu)

sent-choice : (laws : AllLaws) (setting : Setting) (before : List ApduValue) (apdu : ApduValue) (more : List ℕ) (cut : Bool) → (decode_apdus more).rest ≡ []
    → (decode_apdus (cond cut (bytes_of (reaction_after setting before apdu)) (bytes_of (reaction_after setting before apdu) ++ more))).rest ≡ []
sent-choice laws setting before apdu more true none =
    let bytes : List ℕ = bytes_of (reaction_after setting before apdu) in
    ap (λ (b : List ℕ). (decode_apdus b).rest) (sym (append-nil bytes))
    ∙ ap (λ (d : DecodedApdus). d.rest) ((reaction-whole laws setting before apdu).decoded [])
    ∙ ap (λ (d : DecodedApdus). d.rest) (nothing-decoded laws.stream)
sent-choice laws setting before apdu more false none = ap (λ (d : DecodedApdus). d.rest) ((reaction-whole laws setting before apdu).decoded more) ∙ none

-- all that a terminal has sent for requests is whole
pub sent-is-whole : (laws : AllLaws) (setting : Setting) (before apdus : List ApduValue) → (decode_apdus (sent_for setting before apdus)).rest ≡ []
sent-is-whole laws setting before [] = ap (λ (d : DecodedApdus). d.rest) (nothing-decoded laws.stream)
sent-is-whole laws setting before (apdu ∷ apdus) =
    sent-choice laws setting before apdu (sent_for setting (apdu ∷ before) apdus) (cuts (reaction_after setting before apdu)) (sent-is-whole laws setting (apdu ∷ before) apdus)

-- ---- one request more

same-choice : {A : Type 0} (test : Bool) (one : A) → cond test one one ≡ one
same-choice true one = refl
same-choice false one = refl

cut-choice : (cut is : Bool) → cond cut true is ≡ (cut || is)
cut-choice true is = refl
cut-choice false is = refl

cut-append : (setting : Setting) (before xs ys : List ApduValue) → is_cut_by setting before (xs ++ ys) ≡ (is_cut_by setting before xs || is_cut_by setting (handled setting before xs) ys)
cut-append setting before [] ys = refl
cut-append setting before (apdu ∷ xs) ys = by_cut (cuts (reaction_after setting before apdu)) (is_cut_by setting (apdu ∷ before) xs) (cut-append setting (apdu ∷ before) xs ys)
  where
    by_cut : (cut is : Bool) → is_cut_by setting (apdu ∷ before) (xs ++ ys) ≡ (is || is_cut_by setting (handled setting (apdu ∷ before) xs) ys)
        → cond cut true (is_cut_by setting (apdu ∷ before) (xs ++ ys)) ≡ (cond cut true is || is_cut_by setting (cond cut (apdu ∷ before) (handled setting (apdu ∷ before) xs)) ys)
    by_cut true is e = refl
    by_cut false is e = e

-- one request more is handled, sent for, and may cut, where the link wasn't cut before
pub record OneMore (setting : Setting) (before apdus : List ApduValue) (apdu : ApduValue) : Type 0 where
  pub handled_is : handled setting before (apdus ++ apdu ∷ []) ≡ apdu ∷ handled setting before apdus
  pub sent_is : sent_for setting before (apdus ++ apdu ∷ []) ≡ sent_for setting before apdus ++ bytes_of (reaction_after setting (handled setting before apdus) apdu)
  pub cut_is : is_cut_by setting before (apdus ++ apdu ∷ []) ≡ cuts (reaction_after setting (handled setting before apdus) apdu)

one-more : (setting : Setting) (before apdus : List ApduValue) (apdu : ApduValue) → is_cut_by setting before apdus ≡ false → OneMore setting before apdus apdu
one-more setting before apdus apdu uncut =
    let here : List ApduValue = handled setting before apdus in
    let done = reaction_after setting here apdu in
    let sent : List ℕ = sent_for setting before apdus in
    record {
      handled_is = handled_append setting before apdus (apdu ∷ []) ∙ ap (λ (c : Bool). cond c here (handled setting here (apdu ∷ []))) uncut ∙ same-choice (cuts done) (apdu ∷ here);
      sent_is = sent_append setting before apdus (apdu ∷ [])
          ∙ ap (λ (c : Bool). cond c sent (sent ++ sent_for setting here (apdu ∷ []))) uncut
          ∙ ap (λ (b : List ℕ). sent ++ cond (cuts done) (bytes_of done) b) (append-nil (bytes_of done))
          ∙ ap (λ (b : List ℕ). sent ++ b) (same-choice (cuts done) (bytes_of done));
      cut_is = cut-append setting before apdus (apdu ∷ []) ∙ ap (λ (c : Bool). c || is_cut_by setting here (apdu ∷ [])) uncut ∙ cut-last (cuts done);
    }
  where
    cut-last : (cut : Bool) → cond cut true false ≡ cut
    cut-last true = refl
    cut-last false = refl

-- and none is where it was cut
pub record NoMore (setting : Setting) (before apdus : List ApduValue) (apdu : ApduValue) : Type 0 where
  pub handled_is : handled setting before (apdus ++ apdu ∷ []) ≡ handled setting before apdus
  pub sent_is : sent_for setting before (apdus ++ apdu ∷ []) ≡ sent_for setting before apdus
  pub cut_is : is_cut_by setting before (apdus ++ apdu ∷ []) ≡ true

no-more : (setting : Setting) (before apdus : List ApduValue) (apdu : ApduValue) → is_cut_by setting before apdus ≡ true → NoMore setting before apdus apdu
no-more setting before apdus apdu cut =
    let here : List ApduValue = handled setting before apdus in
    let sent : List ℕ = sent_for setting before apdus in
    record {
      handled_is = handled_append setting before apdus (apdu ∷ []) ∙ ap (λ (c : Bool). cond c here (handled setting here (apdu ∷ []))) cut;
      sent_is = sent_append setting before apdus (apdu ∷ []) ∙ ap (λ (c : Bool). cond c sent (sent ++ sent_for setting here (apdu ∷ []))) cut;
      cut_is = cut-append setting before apdus (apdu ∷ []) ∙ ap (λ (c : Bool). c || is_cut_by setting here (apdu ∷ [])) cut;
    }

-- ---- bytes are sent to a terminal that waits for none

-- the terminal waits for no further bytes of a request
abbrev pub Waits : List Met → Type 0
Waits met = (decode_apdus (link_bytes met)).rest ≡ []

sent-decoded : Laws → (met : List Met) (bytes : List ℕ) → Waits met → decode_apdus (link_bytes met ++ bytes) ≡ record { apdus = requests met ++ (decode_apdus bytes).apdus; rest = (decode_apdus bytes).rest }
sent-decoded laws met bytes waits =
    decoded-in-parts laws (link_bytes met) bytes
    ∙ ap (λ (b : List ℕ). let d : DecodedApdus = record { apdus = requests met ++ (decode_apdus (b ++ bytes)).apdus; rest = (decode_apdus (b ++ bytes)).rest } in d) waits

-- one APDU more was heard, and the terminal waits for none again
pub record HearsOne (met : List Met) (bytes : List ℕ) (apdu : ApduValue) : Type 0 where
  pub requests_are : requests (Chunk bytes ∷ met) ≡ requests met ++ apdu ∷ []
  pub waits : Waits (Chunk bytes ∷ met)

pub hears-one : Laws → (met : List Met) (bytes : List ℕ) (apdu : ApduValue) → IsOneApdu bytes apdu → Waits met → HearsOne met bytes apdu
hears-one laws met bytes apdu one waits =
    let all : decode_apdus (link_bytes met ++ bytes) ≡ record { apdus = requests met ++ (apdu ∷ []); rest = [] } =
    sent-decoded laws met bytes waits ∙ ap (λ (d : DecodedApdus). let all : DecodedApdus = record { apdus = requests met ++ d.apdus; rest = d.rest } in all) (one-decoded laws bytes apdu one) in
    record { requests_are = ap (λ (d : DecodedApdus). d.apdus) all; waits = ap (λ (d : DecodedApdus). d.rest) all }

-- with nothing that waits the link is cut by a request alone
cut-waiting : (setting : Setting) (met : List Met) → Waits met → has_cut setting met ≡ is_cut_by setting (earlier setting met) (requests met)
cut-waiting setting met waits = ap (λ (b : List ℕ). is_cut_by setting (earlier setting met) (requests met) || is_bad (decode_apdu b)) waits ∙ or-false (is_cut_by setting (earlier setting met) (requests met))
  where
    or-false : (b : Bool) → (b || false) ≡ b
    or-false true = refl
    or-false false = refl

-- a whole request was sent on a link that wasn't cut
pub record IsHandled (setting : Setting) (met : List Met) (bytes : List ℕ) (apdu : ApduValue) : Type 0 where
  pub handled_is : all_handled setting (Chunk bytes ∷ met) ≡ apdu ∷ all_handled setting met
  pub sent_is : sent_on_link setting (Chunk bytes ∷ met) ≡ sent_on_link setting met ++ bytes_of (reaction_after setting (all_handled setting met) apdu)
  pub cut_is : has_cut setting (Chunk bytes ∷ met) ≡ cuts (reaction_after setting (all_handled setting met) apdu)
  pub book_is : book_after setting (Chunk bytes ∷ met) ≡ book_after setting met ++ entries_of (reaction_after setting (all_handled setting met) apdu)
  pub waits : Waits (Chunk bytes ∷ met)

-- it is handled next
pub whole-is-handled : Laws → (setting : Setting) (met : List Met) (bytes : List ℕ) (apdu : ApduValue) → IsOneApdu bytes apdu → Waits met → has_cut setting met ≡ false → IsHandled setting met bytes apdu
whole-is-handled laws setting met bytes apdu one waits uncut =
    let h : HearsOne met bytes apdu = hears-one laws met bytes apdu one waits in
    let before : List ApduValue = earlier setting met in
    let m : OneMore setting before (requests met) apdu = one-more setting before (requests met) apdu (sym (cut-waiting setting met waits) ∙ uncut) in
    let all : all_handled setting (Chunk bytes ∷ met) ≡ apdu ∷ all_handled setting met = ap (handled setting before) h.requests_are ∙ m.handled_is in
    record {
      handled_is = all;
      sent_is = ap (sent_for setting before) h.requests_are ∙ m.sent_is;
      cut_is = cut-waiting setting (Chunk bytes ∷ met) h.waits ∙ ap (is_cut_by setting before) h.requests_are ∙ m.cut_is;
      book_is = ap (book_of setting) all;
      waits = h.waits;
    }

-- what was sent changes nothing of what is sent, booked and cut
pub record ChangesNothing (setting : Setting) (met : List Met) (bytes : List ℕ) : Type 0 where
  pub sent_is : sent_on_link setting (Chunk bytes ∷ met) ≡ sent_on_link setting met
  pub cut_is : has_cut setting (Chunk bytes ∷ met) ≡ has_cut setting met
  pub book_is : book_after setting (Chunk bytes ∷ met) ≡ book_after setting met
  pub waits : Waits (Chunk bytes ∷ met)

-- at the APDU a terminal is silent, whatever was before it
abbrev pub IsSilentAt : ApduValue → Type 0
IsSilentAt apdu = (setting : Setting) (before : List ApduValue) → reaction_after setting before apdu ≡ at_other 0x80

-- so is an APDU at which it is silent
pub silent-changes-nothing : Laws → (setting : Setting) (met : List Met) (bytes : List ℕ) (apdu : ApduValue) → IsOneApdu bytes apdu → IsSilentAt apdu → Waits met → ChangesNothing setting met bytes
silent-changes-nothing laws setting met bytes apdu one silent waits = by_cut (is_cut_by setting (earlier setting met) (requests met)) refl
  where
    before : List ApduValue
    before = earlier setting met

    h : HearsOne met bytes apdu
    h = hears-one laws met bytes apdu one waits

    by_cut : (cut : Bool) → is_cut_by setting (earlier setting met) (requests met) ≡ cut → ChangesNothing setting met bytes
    by_cut true e =
        let m : NoMore setting before (requests met) apdu = no-more setting before (requests met) apdu e in
        record {
          sent_is = ap (sent_for setting before) h.requests_are ∙ m.sent_is;
          cut_is = cut-waiting setting (Chunk bytes ∷ met) h.waits ∙ ap (is_cut_by setting before) h.requests_are ∙ m.cut_is ∙ sym (cut-waiting setting met waits ∙ e);
          book_is = ap (λ (l : List ApduValue). book_of setting (handled setting before l)) h.requests_are ∙ ap (book_of setting) m.handled_is;
          waits = h.waits;
        }
    by_cut false e =
        let is : reaction_after setting (all_handled setting met) apdu ≡ at_other 0x80 = silent setting (all_handled setting met) in
        let w : IsHandled setting met bytes apdu = whole-is-handled laws setting met bytes apdu one waits (cut-waiting setting met waits ∙ e) in
        record {
          sent_is = w.sent_is ∙ ap (λ done. sent_on_link setting met ++ bytes_of done) is ∙ append-nil (sent_on_link setting met);
          cut_is = w.cut_is ∙ ap cuts is ∙ sym (cut-waiting setting met waits ∙ e);
          book_is = w.book_is ∙ ap (λ done. book_after setting met ++ entries_of done) is ∙ append-nil (book_after setting met);
          waits = w.waits;
        }

-- a first part of a request books nothing
pub part-books-none : Laws → (setting : Setting) (met : List Met) (bytes : List ℕ) → decode_apdus bytes ≡ record { apdus = []; rest = bytes } → Waits met → book_after setting (Chunk bytes ∷ met) ≡ book_after setting met
part-books-none laws setting met bytes part waits =
    let all : requests (Chunk bytes ∷ met) ≡ requests met = ap (λ (d : DecodedApdus). d.apdus) (sent-decoded laws met bytes waits) ∙ ap (λ (d : DecodedApdus). requests met ++ d.apdus) part ∙ append-nil (requests met) in
    ap (λ (l : List ApduValue). book_of setting (handled setting (earlier setting met) l)) all

-- ---- commands, acknowledgements, refusals and stops

-- a command is one APDU
pub command-is-one : (laws : PeerLaws) (command : Command) → HasCommandDigits command → HasCommandSizes command → IsOneApdu (canonical_command command) (command_apdu command)
command-is-one laws command digits sizes =
    ap decode_apdu (sym (append-nil (canonical_command command)))
    ∙ begins_at_prefix (canonical_command command ++ []) (command_apdu command) [] (laws.written command [] digits sizes).0

-- and that APDU is the command
pub command-spelled : (laws : PeerLaws) (command : Command) → HasCommandDigits command → HasCommandSizes command → decode_command (command_apdu command) ≡ Some command
command-spelled laws command digits sizes = (laws.decoded (command_apdu command) command).1 (laws.written command [] digits sizes).1

abbrev pub acknowledgement : ApduValue
acknowledgement = record { class = 0x80; instr = 0x00; body = [] }

abbrev pub refusal : ApduValue
refusal = record { class = 0x84; instr = 0x83; body = [] }

pub acknowledgement-is-one : IsOneApdu (canonical_pt_message MessageValue.Ack) acknowledgement
acknowledgement-is-one = refl

pub refusal-is-one : IsOneApdu (canonical_pt_message (MessageValue.Nack 0x83)) refusal
refusal-is-one = refl

pub acknowledgement-silent : IsSilentAt acknowledgement
unfolding decode_command
acknowledgement-silent setting before = refl

pub refusal-silent : IsSilentAt refusal
unfolding decode_command
refusal-silent setting before = refl

pub stop-is-one : IsOneApdu (canonical_command command.Stop) (command_apdu command.Stop)
stop-is-one = refl

pub stop-silent : IsSilentAt (command_apdu command.Stop)
unfolding decode_command
stop-silent setting before = refl

-- ---- on the connection of a played terminal

-- these bytes are sent to it at this place
abbrev pub sends : ℕ → List ℕ → List PlacedExchange → List PlacedExchange
sends place bytes exchanges = record { place = place; exchange = Sends bytes } ∷ exchanges

-- a send books what the book has more after it
pub booked-more : (setting : Setting) (exchanges : List Exchange) (bytes : List ℕ) (more : List BookEntry) → book_after setting (Chunk bytes ∷ met_of exchanges) ≡ book_after setting (met_of exchanges) ++ more
    → booked_by setting exchanges (Sends bytes) ≡ more
booked-more setting exchanges bytes more is = ap (drop (length (book_after setting (met_of exchanges)))) is ∙ drop-append_seam (book_after setting (met_of exchanges)) more

pub booked-none : (setting : Setting) (exchanges : List Exchange) (bytes : List ℕ) → book_after setting (Chunk bytes ∷ met_of exchanges) ≡ book_after setting (met_of exchanges) → booked_by setting exchanges (Sends bytes) ≡ []
booked-none setting exchanges bytes is = booked-more setting exchanges bytes [] (is ∙ sym (append-nil (book_after setting (met_of exchanges))))

-- so the book with its places stays
pub book-stays : (setting : Setting) (poi : List ℕ) (place : ℕ) (bytes : List ℕ) (exchanges : List PlacedExchange) → booked_by setting (exchanges_in exchanges) (Sends bytes) ≡ [] → book_along setting poi (sends place bytes exchanges) ≡ book_along setting poi exchanges
book-stays setting poi place bytes exchanges none =
    ap (λ (entries : List BookEntry). book_along setting poi exchanges ++ map (placed_entry poi place) entries) none ∙ append-nil (book_along setting poi exchanges)

no-messages : (apdus : List ApduValue) → AreMessages apdus [] → apdus ≡ []
no-messages [] are = refl
no-messages (apdu ∷ apdus) are = absurd are

both-none : (one other : List ApduValue) → one ++ other ≡ [] → (one ≡ []) × (other ≡ [])
both-none [] other none = (refl, none)
both-none (apdu ∷ one) other none = absurd cc

-- where no message is left, no item handles one, and all that was sent was heard
record HasNoneLeft (exchanges : List PlacedExchange) (number : ℕ) (items : List RoundItem) (unheard : List ℕ) : Type 0 where
  pending_none : pending number items ≡ []
  bytes_none : (decode_apdus (heard_on_link (exchanges_in exchanges))).rest ++ unheard ≡ []

none-left : (laws : AllLaws) (setting : Setting) (exchanges : List PlacedExchange) (number : ℕ) (items : List RoundItem) (l : IsLeft setting exchanges number items []) → HasNoneLeft exchanges number items l.unheard
none-left laws setting exchanges number items l =
    let heard : List ℕ = heard_on_link (exchanges_in exchanges) in
    let rest : List ℕ = (decode_apdus heard).rest in
    let parts = both-none (pending number items) (decode_apdus (rest ++ l.unheard)).apdus (no-messages (pending number items ++ (decode_apdus (rest ++ l.unheard)).apdus) l.are) in
    let all : (decode_apdus (heard ++ l.unheard)).rest ≡ (decode_apdus (rest ++ l.unheard)).rest = ap (λ (d : DecodedApdus). d.rest) (decoded-in-parts laws.stream heard l.unheard) in
    let whole : (decode_apdus (sent_on_link setting (met_in exchanges))).rest ≡ [] = sent-is-whole laws setting (earlier setting (met_in exchanges)) (requests (met_in exchanges)) in
    record {
      pending_none = parts.0;
      bytes_none = sym (none-is-whole laws.stream (rest ++ l.unheard) parts.1) ∙ sym all ∙ sym (ap (λ (b : List ℕ). (decode_apdus b).rest) l.stream) ∙ whole;
    }

-- and then just the messages are left that are sent more
left-then : (laws : AllLaws) (setting : Setting) (exchanges : List PlacedExchange) (number : ℕ) (items : List RoundItem) (place : ℕ) (bytes sent : List ℕ) (heard : List MessageValue) → IsLeft setting exchanges number items [] → AreWhole sent heard
    → sent_on_link setting (Chunk bytes ∷ met_in exchanges) ≡ sent_on_link setting (met_in exchanges) ++ sent → IsLeft setting (sends place bytes exchanges) number items heard
left-then laws setting exchanges number items place bytes sent heard l whole is =
    record { unheard = l.unheard ++ sent; stream = is ∙ ap (λ (b : List ℕ). b ++ sent) l.stream ∙ append_assoc before l.unheard sent; are = subst (λ (apdus : List ApduValue). AreMessages apdus heard) (sym all) whole.are }
  where
    before : List ℕ
    before = heard_on_link (exchanges_in exchanges)

    rest : List ℕ
    rest = (decode_apdus before).rest

    none : HasNoneLeft exchanges number items l.unheard
    none = none-left laws setting exchanges number items l

    bytes_are : rest ++ (l.unheard ++ sent) ≡ sent ++ []
    bytes_are = sym (append_assoc rest l.unheard sent) ∙ ap (λ (b : List ℕ). b ++ sent) none.bytes_none ∙ sym (append-nil sent)

    all : pending number items ++ (decode_apdus (rest ++ (l.unheard ++ sent))).apdus ≡ whole.apdus
    all =
        ap (λ (apdus : List ApduValue). apdus ++ (decode_apdus (rest ++ (l.unheard ++ sent))).apdus) none.pending_none
        ∙ ap (λ (b : List ℕ). (decode_apdus b).apdus) bytes_are
        ∙ ap (λ (d : DecodedApdus). d.apdus) (whole.decoded [])
        ∙ ap (λ (d : DecodedApdus). whole.apdus ++ d.apdus) (nothing-decoded laws.stream)
        ∙ append-nil whole.apdus

-- a whole command to a terminal that is quiet: its dialogue begins, with all that is sent for the command left
module _ (laws : PeerLaws) (setting : Setting) (exchanges : List PlacedExchange) (number : ℕ) (items : List RoundItem) (place : ℕ) (asked : Command) (quiet : IsQuiet setting exchanges number items) (digits : HasCommandDigits asked) (sizes : HasCommandSizes asked) where
  pub asked-handled : IsHandled setting (met_in exchanges) (canonical_command asked) (command_apdu asked)
  asked-handled = whole-is-handled laws.all.stream setting (met_in exchanges) (canonical_command asked) (command_apdu asked) (command-is-one laws asked digits sizes) quiet.waits quiet.uncut

  pub asked-books : booked_by setting (exchanges_in exchanges) (Sends (canonical_command asked)) ≡ entries_of (reaction_after setting (all_handled setting (met_in exchanges)) (command_apdu asked))
  asked-books = booked-more setting (exchanges_in exchanges) (canonical_command asked) (entries_of (reaction_after setting (all_handled setting (met_in exchanges)) (command_apdu asked))) asked-handled.book_is

  pub begins-talking : (dialogue : Dialogue) (talk : Option TalkFacts) → dialogue_kind_of asked ≡ Some dialogue.dialogue_kind → talk ≡ Some (talk_after dialogue [])
      → IsTalking setting (sends place (canonical_command asked) exchanges) number items talk asked
  begins-talking dialogue talk begins talk_is =
      let w : IsHandled setting (met_in exchanges) (canonical_command asked) (command_apdu asked) = asked-handled in
      let before : List ApduValue = all_handled setting (met_in exchanges) in
      record {
        apdu = command_apdu asked;
        before = before;
        spells = command-spelled laws asked digits sizes;
        book_is = w.book_is;
        dialogue = dialogue;
        begins = begins;
        came = [];
        talk_is = talk_is;
        goes_on = refl;
        left = read_messages 16 (reaction_after setting before (command_apdu asked));
        is_left = left-then laws.all setting exchanges number items place (canonical_command asked) (bytes_of (reaction_after setting before (command_apdu asked))) (read_messages 16 (reaction_after setting before (command_apdu asked))) quiet.none_left
            (reaction-whole laws.all setting before (command_apdu asked)) w.sent_is;
        whole = refl;
        uncut = λ goes_on. w.cut_is ∙ goes_on;
        waits = w.waits;
      }

-- so a payment or a reversal begins whose command the terminal has handled, where the book has just what it books for that
pub begins-transacting : (laws : PeerLaws) (setting : Setting) (poi : List ℕ) (exchanges : List PlacedExchange) (number : ℕ) (items : List RoundItem) (place : ℕ) (asked : Command) (sent : List SentCommand) (dialogue : Dialogue) (talk : Option TalkFacts)
    → charges asked ≡ true → IsQuiet setting exchanges number items → HasCommandDigits asked → HasCommandSizes asked → dialogue_kind_of asked ≡ Some dialogue.dialogue_kind → talk ≡ Some (talk_after dialogue [])
    → IsLastServed setting poi (sends place (canonical_command asked) exchanges) sent (entries_of (reaction_after setting (all_handled setting (met_in exchanges)) (command_apdu asked)))
    → IsTransacting setting poi (sends place (canonical_command asked) exchanges) number items sent talk
unfolding begins-talking
begins-transacting laws setting poi exchanges number items place asked sent dialogue talk charge quiet digits sizes begins talk_is last = record {
  command = asked;
  charging = charge;
  talking = begins-talking laws setting exchanges number items place asked quiet digits sizes dialogue talk begins talk_is;
  last = last;
}

-- ---- what changes nothing of what is sent, booked and cut

module _ (setting : Setting) (poi : List ℕ) (exchanges : List PlacedExchange) (number : ℕ) (items : List RoundItem) (place : ℕ) (bytes : List ℕ) (c : ChangesNothing setting (met_in exchanges) bytes) where
  pub left-still : (left : List MessageValue) → IsLeft setting exchanges number items left → IsLeft setting (sends place bytes exchanges) number items left
  left-still left l = record { unheard = l.unheard; stream = c.sent_is ∙ l.stream; are = l.are }

  pub quiet-still : IsQuiet setting exchanges number items → IsQuiet setting (sends place bytes exchanges) number items
  quiet-still q = record { none_left = left-still [] q.none_left; uncut = c.cut_is ∙ q.uncut; waits = c.waits }

  pub talking-still : (talk : Option TalkFacts) (asked : Command) → IsTalking setting exchanges number items talk asked → IsTalking setting (sends place bytes exchanges) number items talk asked
  talking-still talk asked t = record {
    apdu = t.apdu;
    before = t.before;
    spells = t.spells;
    book_is = c.book_is ∙ t.book_is;
    dialogue = t.dialogue;
    begins = t.begins;
    came = t.came;
    talk_is = t.talk_is;
    goes_on = t.goes_on;
    left = t.left;
    is_left = left-still t.left t.is_left;
    whole = t.whole;
    uncut = λ goes_on. c.cut_is ∙ t.uncut goes_on;
    waits = c.waits;
  }

  pub book-still-along : book_along setting poi (sends place bytes exchanges) ≡ book_along setting poi exchanges
  book-still-along = book-stays setting poi place bytes exchanges (booked-none setting (exchanges_in exchanges) bytes c.book_is)

  last-still : (sent : List SentCommand) (entries : List BookEntry) → IsLastServed setting poi exchanges sent entries → IsLastServed setting poi (sends place bytes exchanges) sent entries
  last-still sent entries l = record {
    command = l.command;
    last = l.last;
    booked = λ entry within. subst (λ (book : List BookedEntry). In (placed_entry poi l.command.place entry) book) (sym book-still-along) (l.booked entry within);
    only = λ entry within cause. l.only entry (subst (λ (book : List BookedEntry). In entry book) book-still-along within) cause;
  }

  serving-still : (talk : Option TalkFacts) (dialogue_kind : DialogueKind) → IsServing setting exchanges number items talk dialogue_kind → IsServing setting (sends place bytes exchanges) number items talk dialogue_kind
  unfolding talking-still
  serving-still talk dialogue_kind s = record { command = s.command; kind_is = s.kind_is; talking = talking-still talk s.command s.talking }

  -- so the terminal's dialogue is as far as it was
  pub peer-still : (sent : List SentCommand) (talk : Option TalkFacts) (standing : Standing) → IsPeerIn setting poi exchanges number items sent talk standing → IsPeerIn setting poi (sends place bytes exchanges) number items sent talk standing
  unfolding talking-still
  peer-still sent talk (Unlinked due) peer = tt
  peer-still sent talk Registering peer = (peer.0, peer.1, peer.2, talking-still talk (command.Register peer.0 peer.1 peer.2) peer.3)
  peer-still sent talk Enquiring peer = (peer.0, talking-still talk (command.Enquire peer.0) peer.1)
  peer-still sent talk (Ready last) peer = quiet-still peer
  peer-still sent talk (Serving (Transaction slot) last) peer = record {
    command = peer.command;
    charging = peer.charging;
    talking = talking-still talk peer.command peer.talking;
    last = last-still sent (entries_of (reaction_after setting peer.talking.before peer.talking.apdu)) peer.last;
  }
  peer-still sent talk (Serving (EndOfDay header period) last) peer = serving-still talk EndOfDayDialogue peer
  peer-still sent talk (Serving (Display header results) last) peer = serving-still talk DisplayDialogue peer
  peer-still sent talk (Aside before reported) peer = quiet-still peer

-- a terminal that is linked, and not about to be asked, waits for no further bytes
pub peer-waits : (setting : Setting) (poi : List ℕ) (exchanges : List PlacedExchange) (number : ℕ) (items : List RoundItem) (sent : List SentCommand) (talk : Option TalkFacts) (standing : Standing)
    → is_linked standing ≡ true → IsPeerIn setting poi exchanges number items sent talk standing → WaitsForNone exchanges
peer-waits setting poi exchanges number items sent talk (Unlinked due) linked peer = no-true linked
peer-waits setting poi exchanges number items sent talk Registering linked peer = (peer.3).waits
peer-waits setting poi exchanges number items sent talk Enquiring linked peer = (peer.1).waits
peer-waits setting poi exchanges number items sent talk (Ready last) linked peer = peer.waits
peer-waits setting poi exchanges number items sent talk (Serving (Transaction slot) last) linked peer = peer.talking.waits
peer-waits setting poi exchanges number items sent talk (Serving (EndOfDay header period) last) linked peer = peer.talking.waits
peer-waits setting poi exchanges number items sent talk (Serving (Display header results) last) linked peer = peer.talking.waits
peer-waits setting poi exchanges number items sent talk (Aside before reported) linked peer = peer.waits

-- ---- a new link

-- nothing was sent, and nothing waits, on a new link: where no item handles an APDU of the terminal it is quiet
pub new-link-quiet : (laws : AllLaws) (setting : Setting) (exchanges : List PlacedExchange) (number : ℕ) (items : List RoundItem) (place : ℕ) → pending number items ≡ [] → IsQuiet setting (record { place = place; exchange = Links } ∷ exchanges) number items
new-link-quiet laws setting exchanges number items place none =
    let empty : decode_apdus [] ≡ record { apdus = []; rest = [] } = nothing-decoded laws.stream in
    let met : List Met = NewLink ∷ met_in exchanges in
    let no_requests : requests met ≡ [] = ap (λ (d : DecodedApdus). d.apdus) empty in
    let no_rest : (decode_apdus []).rest ≡ [] = ap (λ (d : DecodedApdus). d.rest) empty in
    record {
      none_left = record {
        unheard = [];
        stream = ap (sent_for setting (earlier setting met)) no_requests;
        are = subst (λ (apdus : List ApduValue). AreMessages apdus []) (sym (ap (λ (apdus : List ApduValue). apdus ++ (decode_apdus ((decode_apdus []).rest ++ [])).apdus) none
            ∙ ap (λ (b : List ℕ). (decode_apdus (b ++ [])).apdus) no_rest ∙ no_requests)) tt;
      };
      uncut = cut-waiting setting met no_rest ∙ ap (is_cut_by setting (earlier setting met)) no_requests;
      waits = no_rest;
    }
