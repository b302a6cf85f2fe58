-- Proof of the contract of `some_tables`.
use Rattle.std.proofs.Common.{◌≡◌, Some, sym, ◌∙◌, ap, refl}
use Rattle.std.specs.Prelude.{option_map}
use Rattle.toml.specs.Data.{as_array}
use Rattle.toml.specs.View.{view, items_view, array_view}
use Rattle.gw_config.proofs.TableLemmas.{tables_among-value_of}
use Rattle.gw_config.proofs.form.some_tables.Goals as goal

pub returns-then-are_tables : goal.returns-then-are_tables
returns-then-are_tables c =
    let is_value : as_array (view c.args.value.now) ≡ Some (items_view c.in_ok-as_array.field-0.now.items) =
    sym c.as_array.ensures ∙ ap (option_map (λ v. array_view v.now)) c.in_ok-as_array.was in
    rw (is_value, ← c.as_slice-values.ensures.value, tables_among-value_of c.as_slice-values.result.now c.are_tables.result c.are_tables.ensures, c.if-are_tables.true) refl

pub returns-else-are_tables : goal.returns-else-are_tables
returns-else-are_tables c =
    let is_value : as_array (view c.args.value.now) ≡ Some (items_view c.in_ok-as_array.field-0.now.items) =
    sym c.as_array.ensures ∙ ap (option_map (λ v. array_view v.now)) c.in_ok-as_array.was in
    rw (is_value, ← c.as_slice-values.ensures.value, tables_among-value_of c.as_slice-values.result.now c.are_tables.result c.are_tables.ensures, c.if-are_tables.false) refl
