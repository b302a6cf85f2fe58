-- What a dialogue with a played terminal ends with, and what is true of the terminal's book.
use Rattle.std.specs.Prelude.{◌≡◌, ℕ, List, [], ◌∷◌, ◌++◌, Option, None, Some}
use Rattle.gw_base.specs.declared.figures.Figures.{Figures}
use Rattle.zvt_msg.specs.Message.{MessageValue}
use Rattle.zvt_talk.specs.declared.meaning.Heard.{Heard}
use Rattle.zvt_talk.specs.declared.meaning.Heard.TheVariants as heard
use Rattle.pt_core.specs.declared.book.BookEntry.{BookEntry}
use Rattle.pt_core.specs.Book.{last_book_entry}

-- the figures of an entry
abbrev pub entry_figures : BookEntry → Figures
entry_figures entry = record { number = entry.number; receipt = entry.receipt; amount = entry.amount }

-- the last entry of the book is reported, or that there is none
abbrev pub IsReported : Option BookEntry → ℕ → Option Figures → Type 0
IsReported None trace approved = (trace ≡ 0) × (approved ≡ None)
IsReported (Some entry) trace approved = (trace ≡ entry.number) × (approved ≡ Some (entry_figures entry))

-- The end of a dialogue is true of the book before its command and of what the command books: approved, it books the
-- entry with these figures; declined or done, it books nothing, and declined no number is reported; reported, that is the last
-- entry. Each entry is approved (`FollowsEntry`), so that it isn't said again here.
abbrev pub IsTrueEnd : List BookEntry → List BookEntry → Heard → Type 0
IsTrueEnd book booked (heard.Begun stop) = Unit {0}
IsTrueEnd book booked (heard.Note intermediate_status) = Unit {0}
IsTrueEnd book booked heard.Line = Unit {0}
IsTrueEnd book booked heard.Block = Unit {0}
IsTrueEnd book booked heard.Seen = Unit {0}
IsTrueEnd book booked (heard.Approved figures) = (entry : BookEntry) × (booked ≡ entry ∷ []) × (figures ≡ entry_figures entry)
IsTrueEnd book booked heard.Done = booked ≡ []
IsTrueEnd book booked (heard.Told trace approved result_code) = IsReported (last_book_entry book) trace approved
IsTrueEnd book booked (heard.Declined result_code trace) = (booked ≡ []) × (trace ≡ None)
IsTrueEnd book booked heard.Unclear = Unit {0}
IsTrueEnd book booked heard.Stray = Unit {0}
