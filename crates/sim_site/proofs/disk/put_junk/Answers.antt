-- Proof of the contract of `put_junk`.
use Rattle.std.proofs.Common.{◌∙◌, ap, get_or}
use Rattle.std.specs.Prelude.{Bool, if◌then◌else◌}
use Rattle.sim_site.specs.Ranges.{ranges_value}
use Rattle.sim_site.proofs.JunkLemmas.{covered_all, junked_is}
use Rattle.sim_site.proofs.disk.put_junk.Goals as goal

pub returns : goal.returns
returns c =
    junked_is c.args.junk (ranges_value c.args.written.now) c.args.file.now c.loop-range.file c.loop-range.auto.file
    (λ i lt. c.loop-range.invariant i lt ∙ ap (λ (b : Bool). if b then c.args.junk else get_or c.args.file.now i 0) (covered_all c.args.written.now c.loop-range.range-index i c.loop-range-test.false))
