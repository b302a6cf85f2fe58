-- Proof of the contract of `is_amount`.
use Rattle.json_text.specs.ValueOf.{value_of}
use Rattle.sale_msg.proofs.FormLemmas.{amount_form}
use Rattle.sale_msg.proofs.form.is_amount.Goals as goal

pub returns-in-Some : goal.returns-in-Some
returns-in-Some c =
    let amount = rw c.as_bytes.ensures at c.minor_of.ensures.amount in
    amount_form (value_of c.args.value.now) c.in-Some.numeral.now c.minor_of.result c.is_some.result c.in-Some.ensures amount c.is_some.ensures
