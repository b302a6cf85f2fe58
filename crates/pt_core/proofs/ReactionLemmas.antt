-- What a terminal sends fits its fields, and is read as the messages that were written.
use Rattle.std.proofs.Common.{◌≡◌, ℕ, zero, suc, ◌+◌, ◌-◌, ◌^◌, ◌<◌, ◌≤◌, Bool, true, false, cond, eqb, List, [], ◌∷◌, ◌++◌, length, Option, None, Some, Result, Ok, refl, sym, ap, ◌∙◌, append_assoc, arith}
use Rattle.std.specs.Prelude.{◌↔◌, ◌&&◌, IfSome, map, slice_get}
use Rattle.std.specs.List.{AllByRecursion, cons_option, filter_map}
use Rattle.std.proofs.lemmas.Bool.{leb-false, lt-ltb, ltb-true}
use Rattle.std.proofs.lemmas.List.Folds.{list_all-append}
use Rattle.zvt_apdu.specs.Grammar.{ApduValue, BeginsWithApdu}
use Rattle.zvt_apdu.specs.Decode.{DecodedApdu, decode_apdu}
use Rattle.zvt_apdu.specs.DecodeStream.{DecodedApdus, decode_apdus}
use Rattle.zvt_bmp.specs.Canonical.{HasFieldDigits}
use Rattle.zvt_msg.specs.declared.command.Command.{Command}
use Rattle.zvt_msg.specs.declared.command.Command.TheVariants as command
use Rattle.zvt_msg.specs.declared.fault.PtFault.{PtFault}
use Rattle.zvt_msg.specs.CommandDecode.{decode_command}
use Rattle.zvt_msg.specs.CommandGrammar.{HasCommandDigits}
use Rattle.zvt_msg.specs.Message.{MessageValue}
use Rattle.zvt_msg.specs.MessageCanonical.{HasPtMessageForm, HasPtMessageSizes, canonical_pt_message, pt_message_read_again}
use Rattle.zvt_msg.specs.MessageDecode.{decode_pt_message}
use Rattle.zvt_msg.specs.MessageGrammar.{SpellsPtMessage, SpellsPtMessageOrFault}
use Rattle.pt_core.specs.declared.book.BookEntry.{BookEntry}
use Rattle.pt_core.specs.declared.play.Play.{Play}
use Rattle.pt_core.specs.declared.play.Play.TheVariants as play
use Rattle.pt_core.specs.declared.reaction.Reaction.{Reaction}
use Rattle.pt_core.specs.declared.reaction.Reaction.TheVariants as reaction
use Rattle.pt_core.specs.Book.{all_fit, fits_status, is_full, last_book_entry, last_payment, next_entry}
use Rattle.pt_core.specs.Table.{all_canonical, at_other, by_command, bytes_of, enquiry, entries_of, messages_of, payment, reported_fits, reversal, status_of_entry}
use Rattle.pt_core.specs.History.{Setting, book_of, play_left, reaction_after}
use Rattle.pt_core.specs.Exchange.{message_in, messages_in}
use Rattle.pt_core.proofs.PrefixLemmas.{begins_at_prefix}
use Rattle.pt_core.proofs.SplitLemmas.{Laws}
use Rattle.pt_core.proofs.BookLemmas.{both, last_payment_fits, of_both}
use Rattle.pt_core.proofs.EndLemmas.{read_messages}

-- ---- what is sent fits

-- what is said of a reaction
record Fits (done : Reaction) : Type 0 where
  pub reported : reported_fits done ≡ true
  pub booked : all_fit (entries_of done) ≡ true

next_fits : (book : List BookEntry) (amount : ℕ) (is : Bool) → is_full book ≡ false → amount < 100 ^ 6 → fits_status (next_entry book amount is) ≡ true
next_fits book amount is room small =
    let few = leb-false 999999 (length book) room in
    of_both _ _ (lt-ltb (length book + 1) 1000000 (omega (arith, few))) (of_both _ _ (lt-ltb _ 10000 (omega arith)) (lt-ltb amount 1000000000000 (omega (arith, small))))

approved_fits : (entry : BookEntry) → fits_status entry ≡ true → Fits (reaction.Approved entry)
approved_fits entry fits = record { reported = fits; booked = of_both (fits_status entry) true fits refl }

booked_fits : (entry : BookEntry) → fits_status entry ≡ true → Fits (reaction.Booked entry)
booked_fits entry fits = record { reported = refl; booked = of_both (fits_status entry) true fits refl }

payment_fits : (full : Bool) (chosen : Play) (book : List BookEntry) (amount : ℕ) → is_full book ≡ full → amount < 100 ^ 6 → Fits (cond full (reaction.Aborted 0x83) (payment chosen book amount))
payment_fits true chosen book amount room small = record { reported = refl; booked = refl }
payment_fits false play.Approve book amount room small = approved_fits (next_entry book amount false) (next_fits book amount false room small)
payment_fits false (play.Decline result_code) book amount room small = record { reported = refl; booked = refl }
payment_fits false play.CutAfterBook book amount room small = booked_fits (next_entry book amount false) (next_fits book amount false room small)
payment_fits false play.DropAtOnce book amount room small = record { reported = refl; booked = refl }

fits_amount : (entry : BookEntry) → fits_status entry ≡ true → entry.amount < 100 ^ 6
fits_amount entry fits =
    let parts = both _ _ fits in
    omega (arith, ltb-true entry.amount 1000000000000 (both _ _ parts.1).1)

reversal_fits : (full : Bool) (found : Option BookEntry) (book : List BookEntry) → is_full book ≡ full → IfSome found (λ e. fits_status e ≡ true) → Fits (cond full (reaction.Aborted 0x83) (reversal found book))
reversal_fits true found book room fits = record { reported = refl; booked = refl }
reversal_fits false None book room fits = record { reported = refl; booked = refl }
reversal_fits false (Some paid) book room fits = approved_fits (next_entry book paid.amount true) (next_fits book paid.amount true room (fits_amount paid fits))

enquiry_fits : (none : ℕ) (last : Option BookEntry) → IfSome last (λ e. fits_status e ≡ true) → Fits (enquiry none last)
enquiry_fits none None fits = record { reported = refl; booked = refl }
enquiry_fits none (Some entry) fits = record { reported = fits; booked = refl }

other_fits : (silent : Bool) → Fits (cond silent reaction.Silent reaction.Refused)
other_fits true = record { reported = refl; booked = refl }
other_fits false = record { reported = refl; booked = refl }

entry_fits : (book : List BookEntry) (k : ℕ) → all_fit book ≡ true → IfSome (slice_get book k) (λ e. fits_status e ≡ true)
entry_fits [] zero fits = tt
entry_fits [] (suc k) fits = tt
entry_fits (entry ∷ book) zero fits = (both (fits_status entry) (all_fit book) fits).0
entry_fits (entry ∷ book) (suc k) fits = entry_fits book k (both (fits_status entry) (all_fit book) fits).1

command_fits : (none : ℕ) (chosen : Play) (book : List BookEntry) (class : ℕ) (asked : Option Command) → all_fit book ≡ true → IfSome asked HasCommandDigits → Fits (by_command none chosen book class asked)
command_fits none chosen book class None fits digits = other_fits _
command_fits none chosen book class (Some (command.Register password config currency)) fits digits = record { reported = refl; booked = refl }
command_fits none chosen book class (Some (command.Authorise amount currency)) fits digits = payment_fits (is_full book) chosen book amount refl digits.0
command_fits none chosen book class (Some (command.Enquire password)) fits digits = enquiry_fits none (last_book_entry book) (entry_fits book (length book - 1) fits)
command_fits none chosen book class (Some (command.Reverse password receipt)) fits digits = reversal_fits (is_full book) (last_payment receipt book) book refl (last_payment_fits receipt book fits)
command_fits none chosen book class (Some (command.EndOfDay password)) fits digits = record { reported = refl; booked = refl }
command_fits none chosen book class (Some command.Stop) fits digits = record { reported = refl; booked = refl }
command_fits none chosen book class (Some (command.Show display_lines)) fits digits = record { reported = refl; booked = refl }

-- what `law_commands` says of a command that was decoded
abbrev pub Digits : Type 0
Digits = (apdu : ApduValue) (command : Command) → decode_command apdu ≡ Some command → HasCommandDigits command

some_digits : Digits → (apdu : ApduValue) (asked : Option Command) → decode_command apdu ≡ asked → IfSome asked HasCommandDigits
some_digits digits apdu None is = tt
some_digits digits apdu (Some command) is = digits apdu command is

one_fits : Digits → (setting : Setting) (before : List ApduValue) (apdu : ApduValue) → all_fit (book_of setting before) ≡ true → Fits (reaction_after setting before apdu)
one_fits digits setting before apdu fits =
    command_fits setting.none (play_left setting.plays before) (book_of setting before) apdu.class (decode_command apdu) fits (some_digits digits apdu (decode_command apdu) refl)

pub book_fits : Digits → (setting : Setting) (before : List ApduValue) → all_fit (book_of setting before) ≡ true
book_fits digits setting [] = refl
book_fits digits setting (apdu ∷ before) =
    let book = book_of setting before in
    let more = entries_of (reaction_after setting before apdu) in
    list_all-append fits_status book more
    ∙ of_both (all_fit book) (all_fit more) (book_fits digits setting before) (one_fits digits setting before apdu (book_fits digits setting before)).booked

pub reaction_fits : Digits → (setting : Setting) (before : List ApduValue) (apdu : ApduValue) → reported_fits (reaction_after setting before apdu) ≡ true
reaction_fits digits setting before apdu = (one_fits digits setting before apdu (book_fits digits setting before)).reported

-- ---- what is sent is read

-- what the laws of zvt_msg say of a message that is read
pub record ReadLaws : Type 0 where
  pub written : (message : MessageValue) (rest : List ℕ) → HasPtMessageForm message → HasPtMessageSizes message → length (canonical_pt_message message) ≤ 512
      → (apdu : ApduValue) × BeginsWithApdu (canonical_pt_message message ++ rest) apdu rest × SpellsPtMessage apdu (pt_message_read_again message)
  pub read : (apdu : ApduValue) (result : Result MessageValue PtFault) → (decode_pt_message apdu ≡ result) ↔ SpellsPtMessageOrFault apdu result

-- a message that can be written
abbrev IsWritable : MessageValue → Type 0
IsWritable message = HasPtMessageForm message × HasPtMessageSizes message × (length (canonical_pt_message message) ≤ 512)

abbrev message_of : ApduValue → Option MessageValue
message_of apdu = message_in (decode_pt_message apdu)

message_read : Laws → ReadLaws → (message : MessageValue) (rest : List ℕ) → IsWritable message → messages_in (canonical_pt_message message ++ rest) ≡ pt_message_read_again message ∷ messages_in rest
message_read laws read message rest (form, sizes, small) =
    let found = read.written message rest form sizes small in
    let apdu = found.0 in
    let begins = begins_at_prefix (canonical_pt_message message ++ rest) apdu rest found.1 in
    let is : decode_pt_message apdu ≡ Ok (pt_message_read_again message) = (read.read apdu (Ok (pt_message_read_again message))).1 found.2 in
    ap (λ (s : DecodedApdus). filter_map message_of s.apdus) (laws.whole (canonical_pt_message message ++ rest) apdu rest begins)
    ∙ ap (λ (r : Result MessageValue PtFault). cons_option (message_in r) (messages_in rest)) is

all_read : Laws → ReadLaws → (messages : List MessageValue) (rest : List ℕ) → AllByRecursion IsWritable messages → messages_in (all_canonical messages ++ rest) ≡ map pt_message_read_again messages ++ messages_in rest
all_read laws read [] rest writable = refl
all_read laws read (message ∷ messages) rest writable =
    ap messages_in (append_assoc (canonical_pt_message message) (all_canonical messages) rest)
    ∙ message_read laws read message (all_canonical messages ++ rest) writable.0
    ∙ ap (λ (l : List MessageValue). pt_message_read_again message ∷ l) (all_read laws read messages rest writable.1)

status_writable : (entry : BookEntry) → fits_status entry ≡ true → IsWritable (MessageValue.Status (status_of_entry entry))
status_writable entry fits =
    let parts = both _ _ fits in
    let others = both _ _ parts.1 in (
      record {
        amount = omega (arith, ltb-true entry.amount 1000000000000 others.1);
        trace = omega (arith, ltb-true entry.number 1000000 parts.0);
        receipt = omega (arith, ltb-true entry.receipt 10000 others.0);
      },
      tt,
      omega arith,
    )

writable : (done : Reaction) → reported_fits done ≡ true → AllByRecursion IsWritable (messages_of done)
writable reaction.Silent fits = tt
writable reaction.Acknowledged fits = ((tt, tt, omega arith), tt)
writable reaction.Refused fits = ((tt, tt, omega arith), tt)
writable reaction.Completed fits = ((tt, tt, omega arith), ((tt, tt, omega arith), tt))
writable (reaction.Approved entry) fits = ((tt, tt, omega arith), (status_writable entry fits, ((tt, tt, omega arith), tt)))
writable (reaction.Reported entry) fits = ((tt, tt, omega arith), (status_writable entry fits, ((tt, tt, omega arith), tt)))
writable (reaction.Aborted result_code) fits = ((tt, tt, omega arith), ((tt, tt, omega arith), tt))
writable (reaction.Booked entry) fits = ((tt, tt, omega arith), tt)
writable reaction.Dropped fits = tt

-- a status has its tail after 16 bytes
read_again : (done : Reaction) → map pt_message_read_again (messages_of done) ≡ read_messages 16 done
read_again reaction.Silent = refl
read_again reaction.Acknowledged = refl
read_again reaction.Refused = refl
read_again reaction.Completed = refl
read_again (reaction.Approved entry) = refl
read_again (reaction.Reported entry) = refl
read_again (reaction.Aborted result_code) = refl
read_again (reaction.Booked entry) = refl
read_again reaction.Dropped = refl

pub reaction_read : Laws → ReadLaws → (done : Reaction) (rest : List ℕ) → reported_fits done ≡ true → messages_in (bytes_of done ++ rest) ≡ read_messages 16 done ++ messages_in rest
reaction_read laws read done rest fits =
    all_read laws read (messages_of done) rest (writable done fits) ∙ ap (λ (l : List MessageValue). l ++ messages_in rest) (read_again done)
