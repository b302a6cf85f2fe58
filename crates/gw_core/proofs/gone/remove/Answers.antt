-- Proof of the contract of `remove`.
use Rattle.std.proofs.Common.{arith}
use Rattle.gw_core.proofs.gone.remove.Goals as goal

pub returns-clause-few : goal.returns-clause-few
returns-clause-few g c = omega (arith, c.add.ensures, c.take_counted.ensures.few)
