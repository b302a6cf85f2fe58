-- The book of a played terminal is honest for its connection.
use Rattle.std.proofs.Common.{◌≡◌, ℕ, ◌+◌, ◌≤◌, Bool, true, false, cond, List, [], ◌∷◌, ◌++◌, length, Option, None, Some, refl, sym, ap, subst, ◌∙◌, append_assoc, append-nil, arith}
use Rattle.std.proofs.lemmas.List.{length-append}
use Rattle.std.proofs.lemmas.Bool.{leb-false}
use Rattle.zvt_apdu.specs.Grammar.{ApduValue}
use Rattle.zvt_apdu.specs.DecodeStream.{decode_apdus}
use Rattle.zvt_msg.specs.declared.command.Command.{Command}
use Rattle.zvt_msg.specs.declared.command.Command.TheVariants as command
use Rattle.zvt_msg.specs.CommandDecode.{decode_command}
use Rattle.pt_core.specs.declared.book.BookEntry.{BookEntry}
use Rattle.pt_core.specs.declared.play.Play.{Play}
use Rattle.pt_core.specs.declared.play.Play.TheVariants as play
use Rattle.pt_core.specs.declared.reaction.Reaction.TheVariants as reaction
use Rattle.pt_core.specs.Book.{is_full, last_book_entry, last_payment, next_entry}
use Rattle.pt_core.specs.Table.{by_command, bytes_of, cuts, enquiry, entries_of, payment, reversal}
use Rattle.pt_core.specs.Serving.{AccountValue, Served, TerminalValue, account_after, after_bytes, heard_by_terminal, reaction_by, served, next_terminal}
use Rattle.pt_core.specs.History.{Setting, Met, NewLink, Chunk, book_after, book_of, play_left, reaction_after, terminal_after}
use Rattle.pt_core.specs.Honest.{AreEntriesNumbered, Books, FollowsEntry, BookGrows}

-- ---- what a request books

follows : (book : List BookEntry) (amount : ℕ) (is : Bool) → is_full book ≡ false → FollowsEntry book (next_entry book amount is)
follows book amount is room = record { number = refl; approved = refl; room = leb-false 999999 (length book) room }

authorised : (full : Bool) (chosen : Play) (book : List BookEntry) (amount currency : ℕ) → is_full book ≡ full
    → Books book (Some (command.Authorise amount currency)) (entries_of (cond full (reaction.Aborted 0x83) (payment chosen book amount)))
authorised true chosen book amount currency room = tt
authorised false play.Approve book amount currency room = ((refl, refl), follows book amount false room)
authorised false (play.Decline result_code) book amount currency room = tt
authorised false play.CutAfterBook book amount currency room = ((refl, refl), follows book amount false room)
authorised false play.DropAtOnce book amount currency room = tt

reversed : (full : Bool) (found : Option BookEntry) (book : List BookEntry) (password : List ℕ) (receipt : ℕ) → is_full book ≡ full → last_payment receipt book ≡ found
    → Books book (Some (command.Reverse password receipt)) (entries_of (cond full (reaction.Aborted 0x83) (reversal found book)))
reversed true found book password receipt room is = tt
reversed false None book password receipt room is = tt
reversed false (Some paid) book password receipt room is = ((refl, paid, is, refl), follows book paid.amount true room)

enquired : (none : ℕ) (last : Option BookEntry) (book : List BookEntry) (asked : Option Command) → Books book asked (entries_of (enquiry none last))
enquired none None book asked = tt
enquired none (Some entry) book asked = tt

other : (silent : Bool) (book : List BookEntry) → Books book None (entries_of (cond silent reaction.Silent reaction.Refused))
other true book = tt
other false book = tt

pub booked : (none : ℕ) (chosen : Play) (book : List BookEntry) (class : ℕ) (asked : Option Command) → Books book asked (entries_of (by_command none chosen book class asked))
booked none chosen book class None = other _ book
booked none chosen book class (Some (command.Register password config currency)) = tt
booked none chosen book class (Some (command.Authorise amount currency)) = authorised (is_full book) chosen book amount currency refl
booked none chosen book class (Some (command.Enquire password)) = enquired none (last_book_entry book) book (Some (command.Enquire password))
booked none chosen book class (Some (command.Reverse password receipt)) = reversed (is_full book) (last_payment receipt book) book password receipt refl refl
booked none chosen book class (Some (command.EndOfDay password)) = tt
booked none chosen book class (Some command.Stop) = tt
booked none chosen book class (Some (command.Show display_lines)) = tt

-- ---- the numbers of a book

pub record Numbered (book : List BookEntry) : Type 0 where
  pub numbers : AreEntriesNumbered 1 book
  pub few : length book ≤ 999999

one_more : (from : ℕ) (book : List BookEntry) (entry : BookEntry) → AreEntriesNumbered from book → entry.number ≡ length book + from → AreEntriesNumbered from (book ++ entry ∷ [])
one_more from [] entry numbers is = (omega arith, tt)
one_more from (first ∷ book) entry numbers is = (numbers.0, one_more (from + 1) book entry numbers.1 (omega arith))

longer : (book more : List BookEntry) (asked : Option Command) → Numbered book → Books book asked more → Numbered (book ++ more)
longer book [] asked before books = subst Numbered (sym (append-nil book)) before
longer book (entry ∷ []) asked before books =
    record { numbers = one_more 1 book entry before.numbers (books.1).number; few = omega (arith, length-append book (entry ∷ []), (books.1).room) }
longer book (entry ∷ another ∷ more) asked before books = absurd books

pub all_numbered : (setting : Setting) (before : List ApduValue) → Numbered (book_of setting before)
all_numbered setting [] = record { numbers = tt; few = omega arith }
all_numbered setting (apdu ∷ before) =
    longer (book_of setting before) (entries_of (reaction_after setting before apdu)) (decode_command apdu) (all_numbered setting before)
    (booked setting.none (play_left setting.plays before) (book_of setting before) apdu.class (decode_command apdu))

-- ---- a book grows

abbrev Extends : List BookEntry → List BookEntry → Type 0
Extends old new = (more : List BookEntry) × (new ≡ old ++ more)

extends_through : (a b c : List BookEntry) → Extends a b → Extends b c → Extends a c
extends_through a b c first second =
    (first.0 ++ second.0, second.1 ∙ ap (λ (x : List BookEntry). x ++ second.0) first.1 ∙ append_assoc a first.0 second.0)

served_choice : (cut : Bool) (bytes : List ℕ) (here : AccountValue) (more : Served) (old : List BookEntry)
    → Extends old here.book → Extends here.book more.account.book
    → Extends old (cond cut (let s : Served = record { bytes = bytes; account = here; cut = true } in s) (after_bytes bytes more)).account.book
served_choice true bytes here more old first second = first
served_choice false bytes here more old first second = extends_through old here.book more.account.book first second

served_extends : (account : AccountValue) (apdus : List ApduValue) → Extends account.book (served account apdus).account.book
served_extends account [] = ([], sym (append-nil account.book))
served_extends account (apdu ∷ apdus) =
    served_choice (cuts (reaction_by account apdu)) (bytes_of (reaction_by account apdu)) (account_after account apdu) (served (account_after account apdu) apdus) account.book
    (entries_of (reaction_by account apdu), refl) (served_extends (account_after account apdu) apdus)

rest_extends : (cut is : Bool) (bytes : List ℕ) (account : AccountValue) (old : List BookEntry) → Extends old account.book
    → Extends old (cond cut (let s : Served = record { bytes = bytes; account = account; cut = cut } in s) (record { bytes = bytes; account = account; cut = is })).account.book
rest_extends true is bytes account old extends = extends
rest_extends false is bytes account old extends = extends

heard_extends : (account : AccountValue) (connection : Option (List ℕ)) (bytes : List ℕ) → Extends account.book (heard_by_terminal (record { account = account; connection = connection }) connection bytes).account.book
heard_extends account None bytes = ([], sym (append-nil account.book))
heard_extends account (Some waiting) bytes =
    let done = served account (decode_apdus (waiting ++ bytes)).apdus in
    rest_extends done.cut _ done.bytes done.account account.book (served_extends account (decode_apdus (waiting ++ bytes)).apdus)

pub grows : (setting : Setting) (met : List Met) (what : Met)
    → ((bytes : List ℕ) → next_terminal (terminal_after setting met) bytes ≡ terminal_after setting (Chunk bytes ∷ met))
    → book_after setting (NewLink ∷ met) ≡ book_after setting met → BookGrows setting met what
grows setting met NewLink next_is same = ([], same ∙ sym (append-nil (book_after setting met)))
grows setting met (Chunk bytes) next_is same =
    let terminal = terminal_after setting met in
    let extends = heard_extends terminal.account terminal.connection bytes in
    (extends.0, ap (λ (t : TerminalValue). t.account.book) (sym (next_is bytes)) ∙ extends.1)
