-- What the gateway hears of a command, and the end that it brings.
use Rattle.std.proofs.Common.{◌≡◌, ℕ, ℤ, ◌+◌, ◌<◌, ◌≤◌, Bool, true, false, cond, List, [], ◌∷◌, ◌++◌, length, drop, Option, None, Some, refl, sym, ap, subst, ◌∙◌, append_assoc, append-nil, arith, inl, inr}
use Rattle.std.specs.Prelude.{◌⊎◌, is_some}
use Rattle.std.specs.List.{filter_map}
use Rattle.std.proofs.lemmas.Bool.{cases_lt}
use Rattle.std.proofs.lemmas.List.{length-append, drop-append-le}
use Rattle.std.proofs.lemmas.List.Elements.{filter_map-append}
use Rattle.std.proofs.Math.Seq.{drop-append_seam}
use Rattle.std.proofs.Math.ListN.{drop_of_length-le}
use Rattle.gw_bytes.specs.Bytes.{IsPrefix}
use Rattle.zvt_apdu.specs.Grammar.{ApduValue}
use Rattle.zvt_apdu.specs.DecodeStream.{DecodedApdus, decode_apdus}
use Rattle.zvt_msg.specs.declared.command.Command.{Command}
use Rattle.zvt_msg.specs.Message.{MessageValue, Ack, Nack, Intermediate, Line, Block, Status, Completion, Abort, Other}
use Rattle.zvt_msg.specs.MessageDecode.{decode_pt_message}
use Rattle.zvt_msg.specs.CommandDecode.{decode_command}
use Rattle.zvt_talk.specs.declared.dialogue_kind.DialogueKind.{DialogueKind}
use Rattle.zvt_talk.specs.declared.meaning.Heard.{Heard}
use Rattle.zvt_talk.specs.Dialogue.{Dialogue, dialogue_kind_of}
use Rattle.zvt_talk.specs.Came.{Came, Message, StopWished, has_ended, messages}
use Rattle.zvt_talk.specs.Talk.{end_of}
use Rattle.pt_core.specs.declared.book.BookEntry.{BookEntry}
use Rattle.pt_core.specs.declared.play.Play.{Play}
use Rattle.pt_core.specs.declared.reaction.Reaction.{Reaction}
use Rattle.pt_core.specs.Table.{at_command, by_command, bytes_of, cuts, entries_of}
use Rattle.pt_core.specs.Ends.{IsTrueEnd}
use Rattle.pt_core.specs.History.{Setting, Met, all_handled, sent_on_link, sent_for, book_of, earlier, handled, is_cut_by, link_bytes, play_left, reaction_after, requests}
use Rattle.pt_core.specs.Exchange.{Exchange, Links, Sends, Hears, AreOnOneLink, BringsEnd, HearsSent, IsTrueHearing, sent_first, handled_first, heard_on_link, message_in, messages_in, met_of}
use Rattle.pt_core.proofs.SplitLemmas.{Laws}
use Rattle.pt_core.proofs.GrowthLemmas.{Follows, added, sent_append, apdus_grow, book_added, handled_append, handled_follows}
use Rattle.pt_core.proofs.ReactionLemmas.{Digits, ReadLaws, reaction_fits, reaction_read}
use Rattle.pt_core.proofs.EndLemmas.{end_stays, read_messages, some_is, taken_first, true_end, whole_reaction}

-- what the laws of the crates below say
pub record AllLaws : Type 0 where
  pub stream : Laws
  pub read : ReadLaws
  pub digits : Digits
  pub ended : (dialogue : Dialogue) (came : List Came) → has_ended dialogue.dialogue_kind (messages came) ≡ is_some (end_of dialogue came)

-- ---- a dialogue whose messages are the first of what is sent for a request, or more

prefix_choice : (xs ys zs : List MessageValue) → IsPrefix xs (ys ++ zs) → IsPrefix xs ys ⊎ IsPrefix ys xs
prefix_choice [] ys zs prefix = inl (ys, refl)
prefix_choice (x ∷ xs) [] zs prefix = inr (x ∷ xs, refl)
prefix_choice (x ∷ xs) (y ∷ ys) zs (rest, e) =
    let head : y ≡ x = cc in
    let tail : ys ++ zs ≡ xs ++ rest = cc in
    elim (prefix_choice xs ys zs (rest, tail)) [
      | inl within ↦ inl (within.0, ap (λ (m : MessageValue). m ∷ ys) head ∙ ap (λ (l : List MessageValue). x ∷ l) within.1)
      | inr beyond ↦ inr (beyond.0, ap (λ (m : MessageValue). m ∷ xs) (sym head) ∙ ap (λ (l : List MessageValue). y ∷ l) beyond.1)
    ]

-- what came until these messages had come
record CameSplit (came : List Came) (heard : List MessageValue) : Type 0 where
  first : List Came
  rest : List Came
  parts : came ≡ first ++ rest
  is : messages first ≡ heard

taken_split : (message : MessageValue) (at : ℤ) (came : List Came) (a : MessageValue) (heard more : List MessageValue) → (message ≡ Other → ⊥)
    → messages (Message message at ∷ came) ≡ a ∷ (heard ++ more) → (messages came ≡ heard ++ more → CameSplit came heard) → CameSplit (Message message at ∷ came) (a ∷ heard)
taken_split message at came a heard more apart e others =
    let taken : message ∷ messages came ≡ a ∷ (heard ++ more) = sym (taken_first message at came apart) ∙ e in
    let head : message ≡ a = cc in
    let tail : messages came ≡ heard ++ more = cc in
    let split = others tail in
    record {
      first = Message message at ∷ split.first;
      rest = split.rest;
      parts = ap (λ (c : List Came). Message message at ∷ c) split.parts;
      is = taken_first message at split.first apart ∙ ap (λ (m : MessageValue). m ∷ messages split.first) head ∙ ap (λ (l : List MessageValue). a ∷ l) split.is;
    }

skipped_split : (what : Came) (came : List Came) (heard : List MessageValue) → ((c : List Came) → messages (what ∷ c) ≡ messages c) → CameSplit came heard → CameSplit (what ∷ came) heard
skipped_split what came heard skipped split = record {
  first = what ∷ split.first;
  rest = split.rest;
  parts = ap (λ (c : List Came). what ∷ c) split.parts;
  is = skipped split.first ∙ split.is;
}

came_split : (came : List Came) (heard more : List MessageValue) → messages came ≡ heard ++ more → CameSplit came heard
came_split came [] more e = record { first = []; rest = came; parts = refl; is = refl }
came_split [] (a ∷ heard) more e = absurd cc
came_split (StopWished ∷ came) (a ∷ heard) more e = skipped_split StopWished came (a ∷ heard) (λ c. refl) (came_split came (a ∷ heard) more e)
came_split (Message Other at ∷ came) (a ∷ heard) more e = skipped_split (Message Other at) came (a ∷ heard) (λ c. refl) (came_split came (a ∷ heard) more e)
came_split (Message Ack at ∷ came) (a ∷ heard) more e = taken_split Ack at came a heard more (λ other. cc) e (came_split came heard more)
came_split (Message (Nack error_code) at ∷ came) (a ∷ heard) more e = taken_split (Nack error_code) at came a heard more (λ other. cc) e (came_split came heard more)
came_split (Message (Intermediate intermediate_status) at ∷ came) (a ∷ heard) more e = taken_split (Intermediate intermediate_status) at came a heard more (λ other. cc) e (came_split came heard more)
came_split (Message (Line text) at ∷ came) (a ∷ heard) more e = taken_split (Line text) at came a heard more (λ other. cc) e (came_split came heard more)
came_split (Message (Block objects) at ∷ came) (a ∷ heard) more e = taken_split (Block objects) at came a heard more (λ other. cc) e (came_split came heard more)
came_split (Message (Status fields) at ∷ came) (a ∷ heard) more e = taken_split (Status fields) at came a heard more (λ other. cc) e (came_split came heard more)
came_split (Message Completion at ∷ came) (a ∷ heard) more e = taken_split Completion at came a heard more (λ other. cc) e (came_split came heard more)
came_split (Message (Abort result_code) at ∷ came) (a ∷ heard) more e = taken_split (Abort result_code) at came a heard more (λ other. cc) e (came_split came heard more)

some_end : (o : Option Heard) → is_some o ≡ true → (end : Heard) × (o ≡ Some end)
some_end None e = absurd cc
some_end (Some end) e = (end, refl)

-- the messages reach beyond what was sent for the command: the dialogue ended with that
beyond_end : AllLaws → (tail own : ℕ) (chosen : Play) (book : List BookEntry) (class : ℕ) (asked : Option Command) (command : Command) (dialogue : Dialogue) (came : List Came) (end : Heard)
    → asked ≡ Some command → dialogue_kind_of command ≡ Some dialogue.dialogue_kind → cuts (by_command own chosen book class asked) ≡ false
    → IsPrefix (read_messages tail (by_command own chosen book class asked)) (messages came) → end_of dialogue came ≡ Some end → IsTrueEnd book (entries_of (by_command own chosen book class asked)) end
beyond_end laws tail own chosen book class asked command dialogue came end spells begins goes_on beyond e =
    let done = by_command own chosen book class asked in
    let split = came_split came (read_messages tail done) beyond.0 beyond.1 in
    let P : Option Command → Type 0 = λ o. cuts (by_command own chosen book class o) ≡ false → has_ended dialogue.dialogue_kind (read_messages tail (by_command own chosen book class o)) ≡ true in
    let whole : has_ended dialogue.dialogue_kind (read_messages tail done) ≡ true =
    subst P (sym spells) (whole_reaction tail own chosen book command dialogue.dialogue_kind begins) goes_on in
    let ended : is_some (end_of dialogue split.first) ≡ true =
    sym (laws.ended dialogue split.first) ∙ ap (λ (l : List MessageValue). has_ended dialogue.dialogue_kind l) split.is ∙ whole in
    let found = some_end (end_of dialogue split.first) ended in
    let still : end_of dialogue came ≡ Some found.0 = ap (end_of dialogue) split.parts ∙ end_stays dialogue [] split.first split.rest found.0 found.1 in
    let same : found.0 ≡ end = some_is found.0 end (sym still ∙ e) in
    let S : Heard → Type 0 = λ h. IsTrueEnd book (entries_of done) h in
    subst S same (true_end tail own chosen book class asked command dialogue split.first found.0 spells begins ([], sym split.is ∙ sym (append-nil (messages split.first))) found.1)

ends_choice : AllLaws → (tail own : ℕ) (chosen : Play) (book : List BookEntry) (class : ℕ) (asked : Option Command) (command : Command) (dialogue : Dialogue) (came : List Came) (end : Heard) (more : List MessageValue) (cut : Bool)
    → cuts (by_command own chosen book class asked) ≡ cut → (cut ≡ true → more ≡ [])
    → asked ≡ Some command → dialogue_kind_of command ≡ Some dialogue.dialogue_kind
    → IsPrefix (messages came) (read_messages tail (by_command own chosen book class asked) ++ more) → end_of dialogue came ≡ Some end → IsTrueEnd book (entries_of (by_command own chosen book class asked)) end
ends_choice laws tail own chosen book class asked command dialogue came end more true cut none spells begins prefix e =
    let here = read_messages tail (by_command own chosen book class asked) in
    let P : List MessageValue → Type 0 = λ l. IsPrefix (messages came) l in
    true_end tail own chosen book class asked command dialogue came end spells begins
    (subst P (ap (λ (l : List MessageValue). here ++ l) (none refl) ∙ append-nil here) prefix) e
ends_choice laws tail own chosen book class asked command dialogue came end more false cut none spells begins prefix e =
    elim (prefix_choice (messages came) (read_messages tail (by_command own chosen book class asked)) more prefix) [
      | inl within ↦ true_end tail own chosen book class asked command dialogue came end spells begins within e
      | inr beyond ↦ beyond_end laws tail own chosen book class asked command dialogue came end spells begins cut beyond e
    ]

-- ---- what was heard on the link

hears_at : (setting : Setting) (after : List Exchange) (bytes : List ℕ) (before : List Exchange) → HearsSent setting (after ++ Hears bytes ∷ before)
    → IsPrefix (heard_on_link before ++ bytes) (sent_on_link setting (met_of before))
hears_at setting [] bytes before hears = hears.0
hears_at setting (Links ∷ after) bytes before hears = hears_at setting after bytes before hears
hears_at setting (Sends more ∷ after) bytes before hears = hears_at setting after bytes before hears
hears_at setting (Hears more ∷ after) bytes before hears = hears_at setting after bytes before hears.1

-- on one link
record OneLink (setting : Setting) (all before : List Exchange) : Type 0 where
  earlier_is : earlier setting (met_of all) ≡ earlier setting (met_of before)
  bytes_grow : IsPrefix (link_bytes (met_of before)) (link_bytes (met_of all))

one_link : (setting : Setting) (after before : List Exchange) → AreOnOneLink after → OneLink setting (after ++ before) before
one_link setting [] before same = record { earlier_is = refl; bytes_grow = ([], sym (append-nil (link_bytes (met_of before)))) }
one_link setting (Links ∷ after) before same = absurd same
one_link setting (Sends bytes ∷ after) before same =
    let others = one_link setting after before same in
    record {
      earlier_is = others.earlier_is;
      bytes_grow = (others.bytes_grow.0 ++ bytes, ap (λ (b : List ℕ). b ++ bytes) others.bytes_grow.1 ∙ append_assoc (link_bytes (met_of before)) others.bytes_grow.0 bytes);
    }
one_link setting (Hears bytes ∷ after) before same =
    let others = one_link setting after before same in record { earlier_is = others.earlier_is; bytes_grow = others.bytes_grow }

heard_split : (after before : List Exchange) → AreOnOneLink after → heard_on_link (after ++ before) ≡ heard_on_link before ++ heard_on_link after
heard_split [] before same = sym (append-nil (heard_on_link before))
heard_split (Links ∷ after) before same = absurd same
heard_split (Sends bytes ∷ after) before same = heard_split after before same
heard_split (Hears bytes ∷ after) before same =
    ap (λ (h : List ℕ). h ++ bytes) (heard_split after before same) ∙ append_assoc (heard_on_link before) (heard_on_link after) bytes

-- where all was heard before, what is heard after what was sent first is what is heard since
pub heard_since : (setting : Setting) (after before : List Exchange) → AreOnOneLink after → heard_on_link before ≡ sent_on_link setting (met_of before)
    → drop (length (sent_first setting (after ++ before) (requests (met_of before)))) (heard_on_link (after ++ before)) ≡ heard_on_link after
heard_since setting after before same all =
    let heard = heard_on_link (after ++ before) in
    let first : sent_first setting (after ++ before) (requests (met_of before)) ≡ heard_on_link before =
    ap (λ (s : List ApduValue). sent_for setting s (requests (met_of before))) (one_link setting after before same).earlier_is ∙ sym all in
    ap (λ (f : List ℕ). drop (length f) heard) first
    ∙ ap (drop (length (heard_on_link before))) (heard_split after before same)
    ∙ drop-append_seam (heard_on_link before) (heard_on_link after)

-- the requests known by then are those before the command, itself and more, or not yet all before it
pub requests_choice : (known new first : List ApduValue) (apdu : ApduValue) (later : List ApduValue) → known ++ new ≡ first ++ apdu ∷ later
    → ((more : List ApduValue) × (known ≡ first ++ apdu ∷ more)) ⊎ ((more : List ApduValue) × (first ≡ known ++ more))
requests_choice [] new first apdu later e = inr (first, refl)
requests_choice (x ∷ known) new [] apdu later e =
    let head : x ≡ apdu = cc in inl (known, ap (λ (a : ApduValue). a ∷ known) head)
requests_choice (x ∷ known) new (y ∷ first) apdu later e =
    let head : x ≡ y = cc in
    let tail : known ++ new ≡ first ++ apdu ∷ later = cc in
    elim (requests_choice known new first apdu later tail) [
      | inl whole ↦ inl (whole.0, ap (λ (a : ApduValue). a ∷ known) head ∙ ap (λ (l : List ApduValue). y ∷ l) whole.1)
      | inr partly ↦ inr (partly.0, ap (λ (a : ApduValue). a ∷ first) (sym head) ∙ ap (λ (l : List ApduValue). x ∷ l) partly.1)
    ]

-- what was heard beyond what was sent for the first requests is of what was sent for the next one, which was handled
record HeardNext (setting : Setting) (before known first : List ApduValue) (apdu : ApduValue) (heard : List ℕ) : Type 0 where
  more : List ApduValue
  handled_is : handled setting before known ≡ handled setting (handled setting before first) (apdu ∷ more)
  part : IsPrefix (drop (length (sent_for setting before first)) heard) (sent_for setting (handled setting before first) (apdu ∷ more))

no_shorter : (cut : Bool) (bytes more : List ℕ) → length bytes ≤ length (cond cut bytes (bytes ++ more))
no_shorter true bytes more = omega arith
no_shorter false bytes more = omega (arith, length-append bytes more)

prefix_size : (heard bytes : List ℕ) → IsPrefix heard bytes → length heard ≤ length bytes
prefix_size heard bytes (rest, is) = omega (arith, ap length is, length-append heard rest)

next_by : (setting : Setting) (before known first : List ApduValue) (apdu : ApduValue) (heard : List ℕ) (more : List ApduValue) (cut : Bool)
    → is_cut_by setting before first ≡ cut → known ≡ first ++ apdu ∷ more → IsPrefix heard (sent_for setting before known)
    → length (sent_for setting before first) < length heard → HeardNext setting before known first apdu heard
next_by setting before known first apdu heard more true cut is prefix beyond =
    let here = sent_for setting before first in
    let all : sent_for setting before known ≡ here =
    ap (sent_for setting before) is ∙ sent_append setting before first (apdu ∷ more)
    ∙ ap (λ (c : Bool). cond c here (here ++ sent_for setting (handled setting before first) (apdu ∷ more))) cut in
    absurd (omega (arith, beyond, prefix_size heard (sent_for setting before known) prefix, ap length all))
next_by setting before known first apdu heard more false cut is (rest, parts) beyond =
    let here = sent_for setting before first in
    let last = handled setting before first in
    let next = sent_for setting last (apdu ∷ more) in
    let all : sent_for setting before known ≡ here ++ next =
    ap (sent_for setting before) is ∙ sent_append setting before first (apdu ∷ more) ∙ ap (λ (c : Bool). cond c here (here ++ next)) cut in
    record {
      more = more;
      handled_is = ap (handled setting before) is ∙ handled_append setting before first (apdu ∷ more) ∙ ap (λ (c : Bool). cond c last (handled setting last (apdu ∷ more))) cut;
      part = (rest, sym (drop-append_seam here next) ∙ ap (drop (length here)) (sym all ∙ parts) ∙ drop-append-le (length here) heard rest (omega (arith, beyond)));
    }

heard_next : (setting : Setting) (before known first : List ApduValue) (apdu : ApduValue) (heard : List ℕ)
    → ((more : List ApduValue) × (known ≡ first ++ apdu ∷ more)) ⊎ ((more : List ApduValue) × (first ≡ known ++ more))
    → IsPrefix heard (sent_for setting before known) → length (sent_for setting before first) < length heard → HeardNext setting before known first apdu heard
heard_next setting before known first apdu heard (inl (more, is)) prefix beyond = next_by setting before known first apdu heard more (is_cut_by setting before first) refl is prefix beyond
heard_next setting before known first apdu heard (inr (more, is)) prefix beyond =
    let here = sent_for setting before known in
    let all : sent_for setting before first ≡ cond (is_cut_by setting before known) here (here ++ sent_for setting (handled setting before known) more) =
    ap (sent_for setting before) is ∙ sent_append setting before known more in
    absurd (omega (arith, beyond, prefix_size heard here prefix, no_shorter (is_cut_by setting before known) here (sent_for setting (handled setting before known) more), ap length all))

-- ---- the messages that were heard

abbrev message_of : ApduValue → Option MessageValue
message_of apdu = message_in (decode_pt_message apdu)

no_messages : Laws → messages_in [] ≡ []
no_messages laws = ap (λ (s : DecodedApdus). filter_map message_of s.apdus) (laws.incomplete [] refl)

messages_grow : Laws → (heard bytes : List ℕ) → IsPrefix heard bytes → IsPrefix (messages_in heard) (messages_in bytes)
messages_grow laws heard bytes (rest, is) =
    let grows = apdus_grow laws heard rest in
    (filter_map message_of grows.0, ap messages_in is ∙ ap (filter_map message_of) grows.1 ∙ filter_map-append message_of (decode_apdus heard).apdus grows.0)

-- the messages that are sent, beginning with those for one request
record NextRead (done : Reaction) (bytes : List ℕ) : Type 0 where
  more : List MessageValue
  none : cuts done ≡ true → more ≡ []
  is : messages_in bytes ≡ read_messages 16 done ++ more

read_by : AllLaws → (setting : Setting) (before : List ApduValue) (apdu : ApduValue) (more : List ApduValue) (cut : Bool) → cuts (reaction_after setting before apdu) ≡ cut
    → NextRead (reaction_after setting before apdu) (cond cut (bytes_of (reaction_after setting before apdu)) (bytes_of (reaction_after setting before apdu) ++ sent_for setting (apdu ∷ before) more))
read_by laws setting before apdu more true cut =
    let done = reaction_after setting before apdu in
    record {
      more = messages_in [];
      none = λ _. no_messages laws.stream;
      is = ap messages_in (sym (append-nil (bytes_of done))) ∙ reaction_read laws.stream laws.read done [] (reaction_fits laws.digits setting before apdu);
    }
read_by laws setting before apdu more false cut =
    let done = reaction_after setting before apdu in
    record {
      more = messages_in (sent_for setting (apdu ∷ before) more);
      none = λ cuts_. absurd (let never : false ≡ true = sym cut ∙ cuts_ in cc);
      is = reaction_read laws.stream laws.read done (sent_for setting (apdu ∷ before) more) (reaction_fits laws.digits setting before apdu);
    }

-- ---- a hearing that brings an end

no_end : AllLaws → (dialogue : Dialogue) (came : List Came) (end : Heard) → end_of dialogue came ≡ Some end → messages came ≡ [] → ⊥
no_end laws dialogue came end e none =
    let never : false ≡ true = sym (ap (λ (l : List MessageValue). has_ended dialogue.dialogue_kind l) none) ∙ laws.ended dialogue came ∙ ap is_some e in cc

size_choice : AllLaws → (dialogue : Dialogue) (came : List Came) (end : Heard) (heard first : List ℕ) → messages came ≡ messages_in (drop (length first) heard) → end_of dialogue came ≡ Some end
    → (length first < length heard) ⊎ (length heard ≤ length first) → length first < length heard
size_choice laws dialogue came end heard first is e (inr within) =
    absurd (no_end laws dialogue came end e (is ∙ ap messages_in (drop_of_length-le heard within) ∙ no_messages laws.stream))
size_choice laws dialogue came end heard first is e (inl beyond) = beyond

follows_next : (cut : Bool) (here last : List ApduValue) → Follows last here → Follows (cond cut here last) here
follows_next true here last follows = ([], refl)
follows_next false here last follows = follows

pub true_hearing : AllLaws → (setting : Setting) (exchanges : List Exchange) → HearsSent setting exchanges → (first : List ApduValue) (apdu : ApduValue) (end : Heard) (before : List Exchange)
    → BringsEnd setting exchanges first apdu end before → IsTrueHearing setting before (handled_first setting exchanges first) apdu end
true_hearing laws setting exchanges hears first apdu end before brings =
    let P : List Exchange → Type 0 = λ x. HearsSent setting x in
    let L : List Exchange → Type 0 = λ x. OneLink setting x (Hears brings.bytes ∷ before) in
    let link : OneLink setting exchanges (Hears brings.bytes ∷ before) = subst L (sym brings.parts) (one_link setting brings.after (Hears brings.bytes ∷ before) brings.one_link) in
    let start = earlier setting (met_of exchanges) in
    let known = requests (met_of before) in
    let heard = heard_on_link before ++ brings.bytes in
    let A : List ApduValue → Type 0 = λ s. IsPrefix heard (sent_for setting s known) in
    let prefix : IsPrefix heard (sent_for setting start known) = subst A (sym link.earlier_is) (hears_at setting brings.after brings.bytes before (subst P brings.parts hears)) in
    let grows = apdus_grow laws.stream (link_bytes (met_of before)) link.bytes_grow.0 in
    let all : known ++ grows.0 ≡ first ++ apdu ∷ brings.later =
    sym grows.1 ∙ ap (λ (b : List ℕ). (decode_apdus b).apdus) (sym link.bytes_grow.1) ∙ brings.sent in
    let beyond = size_choice laws brings.dialogue brings.came end heard (sent_first setting exchanges first) brings.heard brings.ends (cases_lt (length (sent_first setting exchanges first)) (length heard)) in
    let next = heard_next setting start known first apdu heard (requests_choice known grows.0 first apdu brings.later all) prefix beyond in
    let last = handled setting start first in
    let done = reaction_after setting last apdu in
    let read = read_by laws setting last apdu next.more (cuts done) refl in
    let messages_first = messages_grow laws.stream (drop (length (sent_first setting exchanges first)) heard) (sent_for setting last (apdu ∷ next.more)) next.part in
    let M : List MessageValue → Type 0 = λ l. IsPrefix l (read_messages 16 done ++ read.more) in
    let N : List MessageValue → Type 0 = λ l. IsPrefix (messages_in (drop (length (sent_first setting exchanges first)) heard)) l in
    let came_first : IsPrefix (messages brings.came) (read_messages 16 done ++ read.more) = subst M (sym brings.heard) (subst N read.is messages_first) in
    let follows = follows_next (cuts done) (apdu ∷ last) (handled setting (apdu ∷ last) next.more) (handled_follows setting (apdu ∷ last) next.more) in
    let handled_then : all_handled setting (met_of before) ≡ follows.0 ++ apdu ∷ last =
    ap (λ (s : List ApduValue). handled setting s known) (sym link.earlier_is) ∙ next.handled_is ∙ follows.1 in
    record {
      true_end = ends_choice laws 16 setting.none (play_left setting.plays last) (book_of setting last) apdu.class (decode_command apdu) brings.command brings.dialogue brings.came end read.more (cuts done) refl read.none brings.spells brings.begins came_first brings.ends;
      later = follows.0;
      handled_then = handled_then;
      more = added setting follows.0 (apdu ∷ last);
      book_then = ap (book_of setting) handled_then ∙ book_added setting follows.0 (apdu ∷ last);
    }
