-- Proof of the contract of `is_text_list`.
use Rattle.json_text.specs.ValueOf.{value_of}
use Rattle.sale_msg.proofs.FormLemmas.{text_list_form}
use Rattle.sale_msg.proofs.form.is_text_list.Goals as goal

pub returns-in-Some : goal.returns-in-Some
returns-in-Some c =
    text_list_form value_of (value_of c.args.value.now) c.in-Some.elements.now c.have_texts.result c.in-Some.ensures c.have_texts.ensures
