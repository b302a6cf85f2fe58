-- Proof of the contract of `units_of_parts`.
use Rattle.std.proofs.Common.{◌∙◌, sym}
use Rattle.gw_base.proofs.AmountLemmas.{minor_units_with-large, too_long}
use Rattle.gw_base.proofs.amount.units_of_parts.Goals as goal

pub returns-then-whole-gt10 : goal.returns-then-whole-gt10
returns-then-whole-gt10 c =
    let whole = sym c.is_whole_number.ensures.value ∙ c.if-not-is_whole_number.false in
    sym (minor_units_with-large c.args.whole.now c.args.fraction.now
    (too_long c.args.whole.now c.args.fraction.now whole c.if-whole-gt10.true))
