-- The book of a played terminal: its entries, and what fits the fields of a status.
use Rattle.std.specs.Prelude.{ℕ, ◌+◌, ◌-◌, ◌%◌, List, length, Option, Bool, true, not, ◌&&◌, ◌==◌, nat_le, nat_lt, slice_get, reverse}
use Rattle.std.specs.List.{list_all, find}
use Rattle.pt_core.specs.declared.book.BookEntry.{BookEntry}

-- the numbers of an entry have at most as many digits as their fields in a status
abbrev pub fits_status : BookEntry → Bool
fits_status entry = nat_lt entry.number 1000000 && (nat_lt entry.receipt 10000 && nat_lt entry.amount 1000000000000)

-- each entry does
abbrev pub all_fit : List BookEntry → Bool
all_fit book = list_all fits_status book

-- the last trace number of an entry, the greatest of six digits
abbrev pub last_trace : ℕ
last_trace = 999999

-- a book holds as many entries, and takes no more
abbrev pub is_full : List BookEntry → Bool
is_full book = nat_le last_trace (length book)

-- The entry that a book takes next. Entries are numbered from 1, and the receipt number is the trace number modulo 10,000.
abbrev pub next_entry : List BookEntry → ℕ → Bool → BookEntry
next_entry book amount reversal = record {
  number = length book + 1;
  receipt = (length book + 1) % 10000;
  amount = amount;
  reversal = reversal;
  approved = true;
}

-- the last entry of a book
abbrev pub last_book_entry : List BookEntry → Option BookEntry
last_book_entry book = slice_get book (length book - 1)

-- an approved payment with this receipt number
abbrev pub is_payment_with : ℕ → BookEntry → Bool
is_payment_with receipt entry = (entry.receipt == receipt) && (entry.approved && not entry.reversal)

-- the last approved payment with this receipt number
abbrev pub last_payment : ℕ → List BookEntry → Option BookEntry
last_payment receipt book = find (is_payment_with receipt) (reverse book)
