-- Proof of the contract of `serving_day`.
use Rattle.std.proofs.lemmas.Int.{to_z-of_z}
use Rattle.gw_base.specs.Moment.{moment_of}
use Rattle.gw_core.proofs.reconciliations.serving_day.Goals as goal

pub returns-in-Done-clause-row : goal.returns-in-Done-clause-row
returns-in-Done-clause-row c = λ setup core. rw c.in-Done.is (simp (to_z-of_z, c.ranges.now) at (c.day_done.ensures.row setup core c.args.pt))

pub returns-in-Declined-clause-row : goal.returns-in-Declined-clause-row
returns-in-Declined-clause-row c = λ setup core. rw c.in-Declined.is (c.day_declined.ensures.row setup c.args.ledger.now.records core (moment_of c.args.now) c.args.pt)

pub returns-in-Begun-true-clause-row : goal.returns-in-Begun-true-clause-row
returns-in-Begun-true-clause-row c = λ setup core.
    rw (c.in-Begun-true.is, c.in-Begun-true.stop-test) (c.stop.ensures.row setup c.args.ledger.now.records core (moment_of c.args.now))

pub day_done-requires-clause-moment : goal.day_done-requires-clause-moment
day_done-requires-clause-moment c = simp (to_z-of_z, c.ranges.now) c.requires.moment
