-- Proof of the contract of `enquiring`.
use Rattle.std.proofs.lemmas.Int.{to_z-of_z}
use Rattle.gw_core.proofs.handling.enquiring.Goals as goal

pub returns-in-Told-clause-row : goal.returns-in-Told-clause-row
returns-in-Told-clause-row c = λ setup core. rw c.in-Told.is (simp (to_z-of_z, c.ranges.now) at (c.report.ensures.row setup core c.args.pt))

pub report-requires-clause-moment : goal.report-requires-clause-moment
report-requires-clause-moment c = simp (to_z-of_z, c.ranges.now) c.requires.moment
