-- The books of the terminals, and when they are honest for what has happened.
use Rattle.std.specs.Prelude.{◌≡◌, ℕ, Bool, true, nat_lt, nat_le, ◌&&◌, ◌||◌, ◌==◌, not, bytes_eq, List, [], ◌∷◌, filter, Option, Some, None}
use Rattle.std.specs.List.{list_any, list_all, last_or}
use Rattle.std.specs.Option.{option_to_list}
use Rattle.gw_base.specs.declared.figures.Figures.{Figures}
use Rattle.gw_books.specs.Kinds.{BookedKind, is_kind}
use Rattle.gw_books.specs.Past.{Numbering, is_numbering, SentCommand, MadeLink, Ending, Approved, Declined, Reported, HeardEnd, Past}

-- An entry of a terminal's book. With place p it is older than the turn at place p; it may be later than the log's end.
pub record BookedEntry : Type 0 where
  pub numbering : Numbering
  pub place : ℕ
  -- the place of the command that caused it; none: it is older than the log
  pub cause : Option ℕ
  pub kind : BookedKind
  pub number : ℕ
  pub receipt : ℕ
  pub amount : ℕ
  pub approved : Bool

-- A book is a list with the entries of all terminals, those of each in the order of their places.

-- ---- each entry has its command

-- the command at this place is whole, was sent to the terminal with the entry's numbering, and is of the entry's kind
abbrev pub is_cause : BookedEntry → ℕ → SentCommand → Bool
is_cause entry place command =
    command.place == place && (command.whole && (is_numbering command.numbering entry.numbering && is_kind command.kind entry.kind))

-- an entry with this cause is later than its command, which is one that was sent, or is still to come after the log's end; one without is older than the log
abbrev pub is_caused : Past → BookedEntry → Option ℕ → Bool
is_caused past entry None = entry.place == 0
is_caused past entry (Some place) = nat_lt place entry.place && (nat_le past.place place || list_any (is_cause entry place) past.commands)

-- ---- no entry comes after its link was replaced

-- the link is not of the entry's numbering, or it was made before the command or after the entry
abbrev pub leaves_entry : BookedEntry → ℕ → MadeLink → Bool
leaves_entry entry cause link = not (is_numbering link.numbering entry.numbering) || (nat_lt link.place cause || nat_le entry.place link.place)

-- no link of its numbering was made between its command and the entry
abbrev pub is_of_its_link : Past → BookedEntry → Bool
is_of_its_link past entry = list_all (λ cause. list_all (leaves_entry entry cause) past.links) (option_to_list entry.cause)

-- ---- one entry a command, and trace numbers rise

-- the command at this place caused the entry
abbrev pub is_caused_by : ℕ → BookedEntry → Bool
is_caused_by place entry = list_any (λ cause. cause == place) (option_to_list entry.cause)

-- both have the same cause
abbrev pub have_one_cause : BookedEntry → BookedEntry → Bool
have_one_cause one other = list_any (λ cause. is_caused_by cause other) (option_to_list one.cause)

-- of two entries of a terminal, the other one isn't placed before this one, has a greater trace number if both are of one numbering, and has another cause
abbrev pub comes_before : BookedEntry → BookedEntry → Bool
comes_before one other =
    not (bytes_eq one.numbering.poi other.numbering.poi)
    || (nat_le one.place other.place && ((not (is_numbering one.numbering other.numbering) || nat_lt one.number other.number) && not (have_one_cause one other)))

-- each entry comes before those after it
abbrev pub is_ordered : List BookedEntry → Bool
is_ordered [] = true
is_ordered (entry ∷ book) = list_all (comes_before entry) book && is_ordered book

-- ---- ends are true

-- the entry was in the terminal's book at the hearing
abbrev pub was_booked : HeardEnd → BookedEntry → Bool
was_booked end entry = bytes_eq end.numbering.poi entry.numbering.poi && nat_le entry.place end.place

-- an entry of the end's numbering was in the terminal's book at the hearing
abbrev pub was_booked_in_numbering : HeardEnd → BookedEntry → Bool
was_booked_in_numbering end entry = is_numbering end.numbering entry.numbering && nat_le entry.place end.place

-- the entry is approved, with these figures
abbrev pub has_figures : Figures → BookedEntry → Bool
has_figures figures entry = entry.approved && (entry.number == figures.number && (entry.receipt == figures.receipt && entry.amount == figures.amount))

-- no entry of the command comes after the hearing of its end
abbrev pub is_over : List BookedEntry → HeardEnd → ℕ → Bool
is_over book end place = list_all (λ (entry : BookedEntry). not (is_caused_by place entry) || was_booked end entry) book

-- a trace number, but 0, is that of an entry of the end's numbering at the hearing
abbrev pub is_entry_number : List BookedEntry → HeardEnd → ℕ → Bool
is_entry_number book end trace = trace == 0 || list_any (λ (entry : BookedEntry). was_booked_in_numbering end entry && entry.number == trace) book

-- the last entry has this trace number, is approved where figures are reported, and has them; with 0 there is no entry
abbrev pub is_last_entry : ℕ → Option Figures → Option BookedEntry → Bool
is_last_entry trace figures None = trace == 0
is_last_entry trace None (Some entry) = entry.number == trace && not entry.approved
is_last_entry trace (Some figures) (Some entry) = entry.number == trace && has_figures figures entry

-- what an end says is true of the book
abbrev pub is_true : List BookedEntry → HeardEnd → Ending → Bool
is_true book end (Approved place figures) = is_over book end place && list_any (λ (entry : BookedEntry). is_caused_by place entry && has_figures figures entry) book
is_true book end (Declined place trace) =
    is_over book end place && (list_all (λ (entry : BookedEntry). not (is_caused_by place entry && entry.approved)) book && list_all (is_entry_number book end) (option_to_list trace))
is_true book end (Reported trace figures) = is_last_entry trace figures (last_or None (filter (was_booked_in_numbering end) book))

-- ---- honest

-- the book is honest for what has happened
pub record Honest (past : Past) (book : List BookedEntry) : Type 0 where
  -- each entry has its command
  pub caused : list_all (λ (entry : BookedEntry). is_caused past entry entry.cause) book ≡ true
  -- none comes after its link was replaced: a new link drops the command of the one before
  pub linked : list_all (is_of_its_link past) book ≡ true
  -- a terminal's places don't fall, trace numbers rise within each numbering, and a command has one entry at most
  pub ordered : is_ordered book ≡ true
  -- trace numbers are from 1 to 999,999, and receipt numbers have at most four digits
  pub numbered : list_all (λ (entry : BookedEntry). nat_le 1 entry.number && (nat_le entry.number 999999 && nat_le entry.receipt 9999)) book ≡ true
  -- each end of a dialogue is true
  pub true_ends : list_all (λ (end : HeardEnd). is_true book end end.ending) past.ends ≡ true
