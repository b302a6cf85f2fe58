-- Proof of the contract of `identifier`.
use Rattle.std.proofs.Common.{◌≡◌, Some, sym, ◌∙◌, ap}
use Rattle.std.specs.Option.{option_copied}
use Rattle.toml.specs.Data.{as_str}
use Rattle.toml.specs.View.{view}
use Rattle.gw_config.proofs.FormLemmas.{identifier_found}
use Rattle.gw_config.proofs.form.identifier.Goals as goal

pub returns : goal.returns
returns c =
    let is_value : as_str (view c.args.value.now) ≡ Some c.in_ok-as_str.field-0.now =
    sym c.as_str.ensures ∙ ap option_copied c.in_ok-as_str.was in
    rw is_value (identifier_found c.of.result c.in_ok-as_str.field-0.now (rw c.as_bytes.ensures.value at c.of.ensures))
