-- Closed examples of records and books that match, and of those that don't.
use Rattle.std.specs.Prelude.{◌≡◌, true, false, codes, List, [], ◌∷◌, Some}
use Rattle.std.specs.List.{list_all}
use Rattle.jrn_record.specs.declared.records.Record.{Record}
use Rattle.jrn_record.specs.declared.records.Record.TheVariants.{Intent, Outcome}
use Rattle.gw_rules.specs.Laws.{IsLeanCourse}
use Rattle.gw_rules.specs.Lawful.{turns_of}
use Rattle.gw_books.specs.Kinds.{BookedReversal}
use Rattle.gw_books.specs.Past.{past_of}
use Rattle.gw_books.specs.Books.{BookedEntry, Honest}
use Rattle.gw_books.specs.Example.{kept_approval, kept_decline, paid_entry, paying_intent, refused_course}
use Rattle.gw_books.specs.ReversalExample.{paid_kept, reversed_book, reversed_course, reversed_entry, reversed_kept, reversing_intent}
use Rattle.gw_books.specs.ReversalLaws.{kept_after}
use Rattle.gw_books.specs.TillLaws.{declined_entry}
use Rattle.gw_books.specs.Windows.{IsInWindow, Matches, is_caused_before}

-- ---- windows

-- the window of the payment that is then reversed ends with the trace number before its reversal, above which the reversal's begins
pub record WindowEnds : Type 0 where
  pub lower : ¬ IsInWindow reversed_kept 2 reversing_intent 123
  pub first : IsInWindow reversed_kept 2 reversing_intent 124
  pub last : IsInWindow reversed_kept 0 paying_intent 123
  pub upper : ¬ IsInWindow reversed_kept 0 paying_intent 124

-- ---- what matches

-- the premise holds of the book with the payment and its reversal, both approved, and the records match it
pub record ReversedMatches : Type 0 where
  pub premise : list_all (is_caused_before (past_of reversed_course).place) reversed_book ≡ true
  pub matches : Matches (kept_after reversed_course) reversed_book

-- the records of the declined payment
abbrev pub refused_kept : List Record
refused_kept = Intent paying_intent ∷ Outcome kept_decline ∷ []

-- they match a book with an entry of its command that is not approved
abbrev pub RefusedMatches : Type 0
RefusedMatches = Matches refused_kept (declined_entry ∷ [])

-- ---- what doesn't

-- an approved entry of a command that is sent after the log's end
abbrev pub coming_entry : BookedEntry
coming_entry = record paid_entry { place = 101; cause = Some 100; number = 124 }

-- without the premise the law is false: along the log of the declined payment such a book is honest, since its command may yet be sent, but it doesn't match, since the window of the last Intent has no upper end
pub record ComingDoesNotMatch : Type 0 where
  pub lean : IsLeanCourse (turns_of refused_course) refused_course
  pub honest : Honest (past_of refused_course) (coming_entry ∷ [])
  pub no_premise : list_all (is_caused_before (past_of refused_course).place) (coming_entry ∷ []) ≡ false
  pub apart : ¬ Matches (kept_after refused_course) (coming_entry ∷ [])

-- records and books that don't match, each for one thing alone
pub record UnmatchedBooks : Type 0 where
  -- an Outcome without its Intent
  pub folded : ¬ Matches (Outcome kept_approval ∷ []) []
  -- a trace number that falls from one approved entry to another, or from a declined one, and two entries with the same one
  pub rises : ¬ Matches reversed_kept (reversed_entry ∷ paid_entry ∷ [])
  pub falls : ¬ Matches paid_kept (record declined_entry { number = 124 } ∷ paid_entry ∷ [])
  pub same : ¬ Matches paid_kept (declined_entry ∷ paid_entry ∷ [])
  -- two approved entries in one window
  pub once : ¬ Matches paid_kept reversed_book
  -- an approved payment without an entry, or with one that isn't approved, is another terminal's, or of another kind, number, receipt number or amount
  pub unbooked : ¬ Matches paid_kept []
  pub unapproved : ¬ Matches paid_kept (declined_entry ∷ [])
  pub terminal : ¬ Matches paid_kept (record paid_entry { numbering = record { poi = codes "T2" } } ∷ [])
  pub kind : ¬ Matches paid_kept (record paid_entry { kind = BookedReversal } ∷ [])
  pub number : ¬ Matches paid_kept (record paid_entry { number = 124 } ∷ [])
  pub receipt : ¬ Matches paid_kept (record paid_entry { receipt = 18 } ∷ [])
  pub amount : ¬ Matches paid_kept (record paid_entry { amount = 1000 } ∷ [])
  -- a declined payment with an approved entry, of its kind or of another
  pub declined : ¬ Matches refused_kept (paid_entry ∷ [])
  pub declined_kind : ¬ Matches refused_kept (record paid_entry { kind = BookedReversal } ∷ [])
