-- Proof of the contract of `serving_transaction`.
use Rattle.std.proofs.lemmas.Int.{to_z-of_z}
use Rattle.gw_base.specs.Moment.{moment_of}
use Rattle.gw_core.proofs.serving.serving_transaction.Goals as goal

pub returns-in-Approved-clause-row : goal.returns-in-Approved-clause-row
returns-in-Approved-clause-row c = λ setup core. rw c.in-Approved.is (simp (to_z-of_z, c.ranges.now) at (c.approved.ensures.row setup core c.args.pt))

pub returns-in-Declined-clause-row : goal.returns-in-Declined-clause-row
returns-in-Declined-clause-row c = λ setup core. rw c.in-Declined.is (simp (to_z-of_z, c.ranges.now) at (c.declined.ensures.row setup core c.args.pt))

pub returns-in-Begun-true-clause-row : goal.returns-in-Begun-true-clause-row
returns-in-Begun-true-clause-row c = λ setup core.
    rw (c.in-Begun-true.is, c.in-Begun-true.stop-test) (c.stop.ensures.row setup c.args.ledger.now.records core (moment_of c.args.now))

pub approved-requires-clause-moment : goal.approved-requires-clause-moment
approved-requires-clause-moment c = simp (to_z-of_z, c.ranges.now) c.requires.moment

pub declined-requires-clause-moment : goal.declined-requires-clause-moment
declined-requires-clause-moment c = simp (to_z-of_z, c.ranges.now) c.requires.moment
