-- Proof of the contract of `read_manner`.
use Rattle.std.proofs.Common.{refl}
use Rattle.gw_config.proofs.ReadLemmas.{beyond, here, leaves, no_fault}
use Rattle.gw_config.proofs.terminal.read_manner.Goals as goal

pub returns-in_err-currency : goal.returns-in_err-currency
returns-in_err-currency c = leaves c.from_residual.result _ _ c.in_err-currency.field-0.0 c.from_residual.ensures.1 (here _ _ _ c.in_err-currency.ensures)

pub returns-in_err-password : goal.returns-in_err-password
returns-in_err-password c = leaves c.from_residual-in_err-password.result _ _ c.in_err-password.field-0.0 c.from_residual-in_err-password.ensures.1 (beyond _ _ _ c.in_ok-currency.ensures.sound (here _ _ _ c.in_err-password.ensures))

pub returns-in_err-config : goal.returns-in_err-config
returns-in_err-config c = leaves c.from_residual-in_err-config.result _ _ c.in_err-config.field-0.0 c.from_residual-in_err-config.ensures.1 (beyond _ _ _ c.in_ok-currency.ensures.sound (beyond _ _ _ c.in_ok-password.ensures.sound (here _ _ _ c.in_err-config.ensures.reads)))

pub returns-in_err-none : goal.returns-in_err-none
returns-in_err-none c = leaves c.from_residual-in_err-none.result _ _ c.in_err-none.field-0.0 c.from_residual-in_err-none.ensures.1 (beyond _ _ _ c.in_ok-currency.ensures.sound (beyond _ _ _ c.in_ok-password.ensures.sound (beyond _ _ _ c.in_ok-config.ensures.reads.sound (here _ _ _ c.in_err-none.ensures.reads))))

pub returns-in_err-answer : goal.returns-in_err-answer
returns-in_err-answer c = leaves c.from_residual-in_err-answer.result _ _ c.in_err-answer.field-0.0 c.from_residual-in_err-answer.ensures.1 (beyond _ _ _ c.in_ok-currency.ensures.sound (beyond _ _ _ c.in_ok-password.ensures.sound (beyond _ _ _ c.in_ok-config.ensures.reads.sound (beyond _ _ _ c.in_ok-none.ensures.reads.sound (here _ _ _ c.in_err-answer.ensures.reads)))))

pub returns-in_err-command : goal.returns-in_err-command
returns-in_err-command c = leaves c.from_residual-in_err-command.result _ _ c.in_err-command.field-0.0 c.from_residual-in_err-command.ensures.1 (beyond _ _ _ c.in_ok-currency.ensures.sound (beyond _ _ _ c.in_ok-password.ensures.sound (beyond _ _ _ c.in_ok-config.ensures.reads.sound (beyond _ _ _ c.in_ok-none.ensures.reads.sound (beyond _ _ _ c.in_ok-answer.ensures.reads.sound (here _ _ _ c.in_err-command.ensures.reads))))))

pub returns : goal.returns
returns c = (
  no_fault _ _ c.in_ok-currency.ensures.sound (no_fault _ _ c.in_ok-password.ensures.sound (no_fault _ _ c.in_ok-config.ensures.reads.sound (no_fault _ _ c.in_ok-none.ensures.reads.sound (no_fault _ _ c.in_ok-answer.ensures.reads.sound (no_fault _ _ c.in_ok-command.ensures.reads.sound refl))))),
  record {
    currency = c.in_ok-currency.ensures.value;
    password = c.in_ok-password.ensures.value;
    config = c.in_ok-config.ensures.reads.value;
    none = c.in_ok-none.ensures.reads.value;
    answer = c.in_ok-answer.ensures.reads.value;
    command = c.in_ok-command.ensures.reads.value;
  },
)
