-- What makes the book of a played terminal honest for its connection.
use Rattle.std.specs.Prelude.{◌≡◌, ℕ, ◌+◌, ◌<◌, List, [], ◌∷◌, ◌++◌, length, Option, None, Some, true, false}
use Rattle.zvt_msg.specs.declared.command.Command.{Command}
use Rattle.zvt_msg.specs.declared.command.Command.TheVariants as command
use Rattle.pt_core.specs.declared.book.BookEntry.{BookEntry}
use Rattle.pt_core.specs.Book.{last_trace, last_payment}
use Rattle.pt_core.specs.History.{Setting, Met, book_after}

-- The command causes the entry: an authorisation of its amount, or a reversal of the last payment with the receipt
-- number, whose amount it has.
abbrev pub Causes : List BookEntry → Command → BookEntry → Type 0
Causes book (command.Register password config currency) entry = ⊥
Causes book (command.Authorise amount currency) entry = (entry.reversal ≡ false) × (entry.amount ≡ amount)
Causes book (command.Enquire password) entry = ⊥
Causes book (command.Reverse password receipt) entry = (entry.reversal ≡ true)
    × (paid : BookEntry) × (last_payment receipt book ≡ Some paid) × (entry.amount ≡ paid.amount)
Causes book (command.EndOfDay password) entry = ⊥
Causes book command.Stop entry = ⊥
Causes book (command.Show display_lines) entry = ⊥

-- an APDU that spells this command, if it spells one, causes the entry
abbrev pub IsCausedBy : List BookEntry → Option Command → BookEntry → Type 0
IsCausedBy book None entry = ⊥
IsCausedBy book (Some command) entry = Causes book command entry

-- the entry follows those of the book, which is not full
pub record FollowsEntry (book : List BookEntry) (entry : BookEntry) : Type 0 where
  pub number : entry.number ≡ length book + 1
  pub approved : entry.approved ≡ true
  pub room : length book < last_trace

-- a request books nothing, or the one entry that it causes
abbrev pub Books : List BookEntry → Option Command → List BookEntry → Type 0
Books book command [] = Unit {0}
Books book command (entry ∷ []) = IsCausedBy book command entry × FollowsEntry book entry
Books book command (entry ∷ other ∷ more) = ⊥

-- the entries have the numbers from this one on, one after another
abbrev pub AreEntriesNumbered : ℕ → List BookEntry → Type 0
AreEntriesNumbered trace [] = Unit {0}
AreEntriesNumbered trace (entry ∷ book) = (entry.number ≡ trace) × AreEntriesNumbered (trace + 1) book

-- what is met more adds to the book, and takes nothing back
abbrev pub BookGrows : Setting → List Met → Met → Type 0
BookGrows setting met what = (more : List BookEntry) × (book_after setting (what ∷ met) ≡ book_after setting met ++ more)
