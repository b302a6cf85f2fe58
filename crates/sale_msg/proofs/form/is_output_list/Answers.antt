-- Proof of the contract of `is_output_list`.
use Rattle.std.proofs.Common.{rules, ◌≤◌, length}
use Rattle.json_text.specs.ValueOf.{value_of}
use Rattle.sale_msg.proofs.FormLemmas.{output_list_form}
use Rattle.sale_msg.proofs.form.is_output_list.Goals as goal

pub returns-then-contains : goal.returns-then-contains
returns-then-contains c =
    let low : 1 ≤ length c.in-Some.elements.now = search rules in
    let high : length c.in-Some.elements.now ≤ 16 = search rules in
    output_list_form value_of (value_of c.args.value.now) c.in-Some.elements.now c.are_objects.result c.in-Some.ensures
    (λ t. (low, high, c.are_objects.ensures.0 t), λ h. c.are_objects.ensures.1 h.2)
