-- Proof of the contract of `customer_output`.
use Rattle.std.proofs.Common.{◌∙◌, sym}
use Rattle.xlate.proofs.DisplayLemmas.{first_here, none_next}
use Rattle.xlate.proofs.display.customer_output.Goals as goal

pub returns-then-is_for_customer : goal.returns-then-is_for_customer
returns-then-is_for_customer c =
    first_here c.args.outputs.now c.loop-output.output-index c.output-item.result c.loop-output-test.true c.output-item.is
    (sym c.is_for_customer.ensures ∙ c.if-is_for_customer.true) c.loop-output.invariant

pub loop-output-preserved : goal.loop-output-preserved
loop-output-preserved c =
    none_next c.args.outputs.now c.loop-output.output-index c.output-item.result c.loop-output-test.true c.output-item.is
    (sym c.is_for_customer.ensures ∙ c.if-is_for_customer.false) c.loop-output.invariant
