-- Proof of the contract of `Tills::hear`.
use Rattle.std.proofs.Common.{◌<◌, arith, refl, length}
use Rattle.std.proofs.lemmas.List.{get_or-map, length-map}
use Rattle.std.proofs.lemmas.Grind.{common_steps}
use Rattle.net_site.proofs.tills.Tills.hear.Goals as goal

pub returns-in-Bytes-clause-hears : goal.returns-in-Bytes-clause-hears
returns-in-Bytes-clause-hears c = let h = c.in-Some.ensures in let d = c.deref.ensures.value in let lt : c.args.index < length c.args.self.now.connected = grind (arith, common_steps, length-map) in ((c.args.index, lt, grind (arith, common_steps, get_or-map)), refl)

pub returns-in-End-clause-hears : goal.returns-in-End-clause-hears
returns-in-End-clause-hears c = let h = c.in-Some.ensures in let d = c.deref.ensures.value in let lt : c.args.index < length c.args.self.now.connected = grind (arith, common_steps, length-map) in ((c.args.index, lt, grind (arith, common_steps, get_or-map)), c.close.ensures)
