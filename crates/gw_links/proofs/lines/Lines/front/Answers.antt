-- Proof of the contract of `front`.
use Rattle.std.proofs.Common.{eqb}
use Rattle.gw_links.proofs.FindLemmas.{first_lives}
use Rattle.gw_links.proofs.lines.Lines.front.Goals as goal

pub returns-clause-live : goal.returns-clause-live
returns-clause-live c = rw c.of.ensures (first_lives (λ w. eqb w.item.terminal c.args.terminal) c.args.self.now c.in_ok-id.id c.in_ok-id.ensures)
