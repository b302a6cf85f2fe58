-- Proof of the contract of `fill`.
use Rattle.sim_site.specs.Ranges.{range_value}
use Rattle.sim_site.proofs.RangeLemmas.{range_filled, range_missed}
use Rattle.sim_site.proofs.disk.fill.Goals as goal

pub returns-then-range-end : goal.returns-then-range-end
returns-then-range-end c = λ i lt. range_filled c.args.file.now c.fill.new.self (range_value c.args.range) c.end_within-end.result c.args.junk i c.end_within-end.ensures c.if-range-end.true c.fill.ensures.len c.fill.ensures.clones lt

pub returns-else-range-end : goal.returns-else-range-end
returns-else-range-end c = λ i lt. range_missed c.args.file.now (range_value c.args.range) c.end_within-end.result c.args.junk i c.end_within-end.ensures c.if-range-end.false lt
