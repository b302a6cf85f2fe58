-- The invariant of the search for a payment, from the last entry on.
use Rattle.std.proofs.Common.{◌≡◌, length}
use Rattle.pt_core.specs.Book.{last_payment}
use Rattle.pt_core.proofs.requests.find_payment.Given as goal

-- the entries after those left are no such payment
abbrev pub invariant-loop-entry : goal.invariant-loop-entry
invariant-loop-entry l = last_payment l.receipt l.rest ≡ last_payment l.receipt l.entries

abbrev pub decreases-loop-entry : goal.decreases-loop-entry
decreases-loop-entry l = length l.rest
