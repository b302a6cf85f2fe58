-- Proof of the contract of `set_verdict`.
use Rattle.std.proofs.Common.{◌∙◌, ap, sym}
use Rattle.std.specs.Prelude.{position}
use Rattle.gw_owes.specs.Displays.{is_customer_result}
use Rattle.gw_core.proofs.DisplayLemmas.{customer-none, customer-there}
use Rattle.gw_core.proofs.displays.set_verdict.Goals as goal

pub returns-in-Some : goal.returns-in-Some
returns-in-Some c =
    c.set_verdict.ensures ∙ customer-there c.args.verdict c.args.results.now c.in-Some.index (sym (c.in-Some.ensures ∙ ap (position is_customer_result) c.as_slice.ensures.value))

pub returns-in_default : goal.returns-in_default
returns-in_default c = sym (customer-none c.args.verdict c.args.results.now (sym (c.in_default.ensures ∙ ap (position is_customer_result) c.as_slice.ensures.value)))
