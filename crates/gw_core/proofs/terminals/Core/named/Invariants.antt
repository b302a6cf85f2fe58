-- What the loop of `named` keeps.
use Rattle.std.proofs.Common.{◌≡◌, drop}
use Rattle.gw_owes.specs.Diagnosis.{named_from, named_terminal}
use Rattle.gw_core.proofs.terminals.Core.named.Given as goal

abbrev pub invariant-loop-pt : goal.invariant-loop-pt
invariant-loop-pt l = named_terminal l.self l.poi ≡ named_from l.pt l.poi (drop l.pt l.self.terminals)
