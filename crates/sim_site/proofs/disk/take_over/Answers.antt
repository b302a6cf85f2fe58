-- Proof of the contract of `take_over`.
use Rattle.std.proofs.Common.{◌+◌, ◌∙◌, ap, get_or, sym}
use Rattle.std.specs.Prelude.{min}
use Rattle.sim_site.specs.Ranges.{range_value}
use Rattle.sim_site.proofs.RangeLemmas.{range_missed, range_taken}
use Rattle.sim_site.proofs.disk.take_over.Goals as goal

pub returns-then-range-end : goal.returns-then-range-end
returns-then-range-end c = λ i lt.
    let end = c.end_within-end.ensures ∙ ap (min (c.args.range.offset + c.args.range.size)) (sym c.requires) in
    ap (λ bytes. get_or bytes i 0) c.put.ensures ∙ range_taken c.args.stable.now c.args.file.now (range_value c.args.range) c.end_within-end.result i c.requires end c.if-range-end.true lt

pub returns-else-range-end : goal.returns-else-range-end
returns-else-range-end c = λ i lt.
    let end = c.end_within-end.ensures ∙ ap (min (c.args.range.offset + c.args.range.size)) (sym c.requires) in
    range_missed c.args.stable.now (range_value c.args.range) c.end_within-end.result (get_or c.args.file.now i 0) i end c.if-range-end.false lt
