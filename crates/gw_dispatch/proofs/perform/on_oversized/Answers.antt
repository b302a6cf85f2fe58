-- Proof of the contract of `on_oversized`.
use Rattle.std.proofs.Common.{refl}
use Rattle.std.proofs.lemmas.Int.{to_z-of_z}
use Rattle.gw_owes.specs.Items.{Oversized}
use Rattle.gw_dispatch.proofs.perform.on_oversized.Goals as goal

pub returns-clause-triple : goal.returns-clause-triple
returns-clause-triple g c = simp (to_z-of_z, c.ranges.now) at (c.reject.ensures.triple (Oversized c.args.pt) (record { begins = λ scene items. refl; row = λ tills known. refl }))
