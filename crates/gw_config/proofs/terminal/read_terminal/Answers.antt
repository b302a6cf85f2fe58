-- Proof of the contract of `read_terminal`.
use Rattle.gw_config.proofs.ReadLemmas.{beyond, here, leaves, no_fault}
use Rattle.gw_config.proofs.terminal.read_terminal.Goals as goal

pub returns-in_err-poi : goal.returns-in_err-poi
returns-in_err-poi c = leaves c.from_residual.result _ _ c.in_err-poi.field-0.0 c.from_residual.ensures.1 (here _ _ _ c.in_err-poi.ensures)

pub returns-in_err-address : goal.returns-in_err-address
returns-in_err-address c = leaves c.from_residual-in_err-address.result _ _ c.in_err-address.field-0.0 c.from_residual-in_err-address.ensures.1 (beyond _ _ _ c.in_ok-poi.ensures.sound (here _ _ _ c.in_err-address.ensures))

pub returns-in_err-currency : goal.returns-in_err-currency
returns-in_err-currency c = leaves c.from_residual-in_err-currency.result _ _ c.in_err-currency.field-0.0 c.from_residual-in_err-currency.ensures.1
    (beyond _ _ _ c.in_ok-poi.ensures.sound (beyond _ _ _ c.in_ok-address.ensures.sound c.in_err-currency.ensures))

pub returns : goal.returns
returns c = (
  no_fault _ _ c.in_ok-poi.ensures.sound (no_fault _ _ c.in_ok-address.ensures.sound c.in_ok-currency.ensures.0),
  record {
    poi = c.in_ok-poi.ensures.value;
    address = c.in_ok-address.ensures.value;
    currency = c.in_ok-currency.ensures.1.currency;
    password = c.in_ok-currency.ensures.1.password;
    config = c.in_ok-currency.ensures.1.config;
    none = c.in_ok-currency.ensures.1.none;
    answer = c.in_ok-currency.ensures.1.answer;
    command = c.in_ok-currency.ensures.1.command;
  },
)
