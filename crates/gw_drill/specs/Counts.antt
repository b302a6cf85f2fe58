-- What a drill counts, and the six lines that say it.
use Rattle.std.specs.Prelude.{◌≤◌, ℕ, List, ◌++◌, IsTrue, codes, length, map}
use Rattle.std.specs.List.{filter, sum}
use Rattle.std.specs.Fmt.{decimal}
use Rattle.gw_ledger.specs.declared.totals.Tally.{Tally}
use Rattle.pt_core.specs.Book.{all_fit, last_trace}
use Rattle.pt_core.specs.declared.book.BookEntry.{BookEntry}
use Rattle.gw_drill.specs.declared.counts.Counts.{Counts}

-- the approved entries of a book
abbrev pub approved_in : List BookEntry → List BookEntry
approved_in book = filter (λ (entry : BookEntry). entry.approved) book

-- the minor units of entries
abbrev pub units_of : List BookEntry → ℕ
units_of entries = sum (map (λ (entry : BookEntry). entry.amount) entries)

-- a book whose numbers have the digits of a status, and which has no more entries than there are trace numbers
pub record IsCountable (book : List BookEntry) : Type 0 where
  pub fit : IsTrue (all_fit book)
  pub few : length book ≤ last_trace

-- what a drill counts: the tally of the records, and the approved entries of both books, with their minor units
abbrev pub counts_of : Tally → List BookEntry → List BookEntry → Counts
counts_of tally first second = record {
  tally = tally;
  entries = length (approved_in (first ++ second));
  units = units_of (approved_in (first ++ second));
}

-- a line: a name and a number
abbrev pub count_line : List ℕ → ℕ → List ℕ
count_line name number = name ++ (codes " " ++ (decimal number ++ codes "\n"))

-- the six lines
abbrev pub counts_text : Counts → List ℕ
counts_text counts =
    count_line (codes "accepted") counts.tally.accepted
    ++ (count_line (codes "approved") counts.tally.approved
    ++ (count_line (codes "declined") counts.tally.declined
    ++ (count_line (codes "open") counts.tally.unresolved
    ++ (count_line (codes "entries") counts.entries
    ++ count_line (codes "sum") counts.units))))
