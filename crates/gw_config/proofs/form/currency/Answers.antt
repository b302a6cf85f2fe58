-- Proof of the contract of `currency`.
use Rattle.std.proofs.Common.{◌≡◌, Some, sym, ◌∙◌, ap}
use Rattle.std.specs.Option.{option_copied}
use Rattle.toml.specs.Data.{as_str}
use Rattle.toml.specs.View.{view}
use Rattle.gw_config.proofs.FormLemmas.{currency_found, three_bytes}
use Rattle.gw_config.proofs.form.currency.Goals as goal

pub returns : goal.returns
returns c =
    let is_value : as_str (view c.args.value.now) ≡ Some c.in_ok-as_str.field-0.now =
    sym c.as_str.ensures ∙ ap option_copied c.in_ok-as_str.was in
    let letters = three_bytes c.as_bytes.result.now c.in-len3.len_at_least c.in-len3.len_below in
    rw (is_value, ← c.as_bytes.ensures.value) (currency_found c.from_code.result c.as_bytes.result.now (rw letters c.from_code.ensures))
