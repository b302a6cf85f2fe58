-- Proof of the contract of `catch_up`.
use Rattle.std.proofs.Common.{◌∙◌, ap, get_or}
use Rattle.std.specs.Prelude.{Bool, if◌then◌else◌}
use Rattle.sim_site.proofs.JunkLemmas.{covered_all}
use Rattle.sim_site.proofs.disk.catch_up.Goals as goal

pub returns : goal.returns
returns c = λ i lt.
    c.loop-range.invariant i lt ∙ ap (λ (b : Bool). if b then get_or c.args.file.now i 0 else get_or c.args.stable.now i 0) (covered_all c.args.written.now c.loop-range.range-index i c.loop-range-test.false)
