-- Closed examples of the six lines: of a drill with no payment, and of one with an approved payment.
use Rattle.std.specs.Prelude.{◌≡◌, [], ◌∷◌, codes, false, true}
use Rattle.gw_ledger.specs.declared.totals.Tally.{Tally}
use Rattle.pt_core.specs.declared.book.BookEntry.{BookEntry}
use Rattle.gw_drill.specs.Counts.{counts_of, counts_text}

-- the ledger has nothing
abbrev pub no_tally : Tally
no_tally = record { accepted = 0; approved = 0; declined = 0; unresolved = 0; sum = 0 }

-- a payment was accepted and approved
abbrev pub one_tally : Tally
one_tally = record { accepted = 1; approved = 1; declined = 0; unresolved = 0; sum = 69549 }

-- an approved payment in a book, and one that is not approved
abbrev pub approved_entry : BookEntry
approved_entry = record { number = 1; receipt = 1; amount = 69549; reversal = false; approved = true }

abbrev pub unapproved_entry : BookEntry
unapproved_entry = record { number = 2; receipt = 2; amount = 300; reversal = false; approved = false }

-- with no payment each number is 0
abbrev pub NothingIsCounted : Type 0
NothingIsCounted = counts_text (counts_of no_tally [] []) ≡ codes "accepted 0\napproved 0\ndeclined 0\nopen 0\nentries 0\nsum 0\n"

-- one payment is approved; an entry that isn't approved counts for nothing
abbrev pub OneIsCounted : Type 0
OneIsCounted = counts_text (counts_of one_tally (unapproved_entry ∷ []) (approved_entry ∷ [])) ≡ codes "accepted 1\napproved 1\ndeclined 0\nopen 0\nentries 1\nsum 69549\n"
