-- Proof of the contract of `on_moment`.
use Rattle.std.proofs.lemmas.Int.{to_z-of_z}
use Rattle.gw_core.proofs.terminals.Core.on_moment.Goals as goal

pub returns-in-Silence-clause-row : goal.returns-in-Silence-clause-row
returns-in-Silence-clause-row c = λ setup kept. rw c.in-Silence.is (simp (to_z-of_z, c.ranges.now) at (c.on_silence.ensures.row setup kept))

pub returns-in-Link-clause-row : goal.returns-in-Link-clause-row
returns-in-Link-clause-row c = λ setup kept. rw c.in-Link.is (simp (to_z-of_z, c.ranges.now) at (c.on_due.ensures.row setup kept))
