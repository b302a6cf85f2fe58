-- Proof of the contract of `write_serve_lines`.
use Rattle.std.proofs.Common.{subst, sym}
use Rattle.gw_run.specs.Serving.{WritesServe}
use Rattle.gw_run.specs.declared.serving.ServeEnding.TheVariants.{Other}
use Rattle.gw_run.proofs.ServeLemmas.{other-lines}
use Rattle.gw_run.proofs.serving.write_serve_lines.Goals as goal

pub returns-in-Other-clause-observed : goal.returns-in-Other-clause-observed
returns-in-Other-clause-observed g c = λ written e.
    let y = c.write_last_lines.ensures.observed written e in
    (y.0, subst (λ ending. WritesServe ending (Other c.write_last_lines.result) y.0) (sym c.in-Other.is) (other-lines c.in-Other.ending c.write_last_lines.result y.0 y.1), y.2)
