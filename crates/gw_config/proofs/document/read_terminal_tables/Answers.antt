-- Proof of the contract of `read_terminal_tables`.
use Rattle.std.proofs.Common.{refl}
use Rattle.toml.specs.View.{table_view}
use Rattle.gw_config.proofs.ReadLemmas.{beyond, here, leaves, no_fault, terminals_are}
use Rattle.gw_config.proofs.document.read_terminal_tables.Goals as goal

pub returns-in-Err : goal.returns-in-Err
returns-in-Err c = here _ _ _ c.in-Err.ensures

pub returns-in_err-terminals : goal.returns-in_err-terminals
returns-in_err-terminals c =
    let are = terminals_are (table_view c.args.document.now.table.now) _ c.in-Ok.ensures.value in
    leaves c.from_residual.result _ _ c.in_err-terminals.field-0.0 c.from_residual.ensures.1
    (beyond _ _ _ c.in-Ok.ensures.sound (here _ _ _ (rw (← are) at c.in_err-terminals.ensures)))

pub returns-in_err-check_keys : goal.returns-in_err-check_keys
returns-in_err-check_keys c =
    let are = terminals_are (table_view c.args.document.now.table.now) _ c.in-Ok.ensures.value in
    leaves c.from_residual-in_err-check_keys.result _ _ c.in_err-check_keys.field-0.0 c.from_residual-in_err-check_keys.ensures.1
    (beyond _ _ _ c.in-Ok.ensures.sound (beyond _ _ _ (rw (← are) at c.in_ok-terminals.ensures.0) (here _ _ _ (rw (← are) at c.in_err-check_keys.ensures))))

pub returns : goal.returns
returns c =
    let are = terminals_are (table_view c.args.document.now.table.now) _ c.in-Ok.ensures.value in (
      no_fault _ _ c.in-Ok.ensures.sound (no_fault _ _ (rw (← are) at c.in_ok-terminals.ensures.0) (no_fault _ _ (rw (← are) at c.in_ok-check_keys.ensures) refl)),
      (_, c.in-Ok.ensures.value, c.in_ok-terminals.ensures.1),
    )
