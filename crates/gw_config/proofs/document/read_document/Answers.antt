-- Proof of the contract of `read_document`.
use Rattle.toml.specs.View.{table_view}
use Rattle.gw_config.proofs.ReadLemmas.{among_limits, beyond, beyond_limits, here, leaves, no_fault, no_fault_in_limits}
use Rattle.gw_config.proofs.document.read_document.Goals as goal

pub returns-in_err-listen : goal.returns-in_err-listen
returns-in_err-listen c = leaves c.from_residual.result _ _ c.in_err-listen.field-0.0 c.from_residual.ensures.1 (here _ _ _ c.in_err-listen.ensures)

pub returns-in_err-journal : goal.returns-in_err-journal
returns-in_err-journal c = leaves c.from_residual-in_err-journal.result _ _ c.in_err-journal.field-0.0 c.from_residual-in_err-journal.ensures.1 (beyond _ _ _ c.in_ok-listen.ensures.sound (here _ _ _ c.in_err-journal.ensures))

pub returns-in_err-name : goal.returns-in_err-name
returns-in_err-name c = leaves c.from_residual-in_err-name.result _ _ c.in_err-name.field-0.0 c.from_residual-in_err-name.ensures.1 (beyond _ _ _ c.in_ok-listen.ensures.sound (beyond _ _ _ c.in_ok-journal.ensures.sound (here _ _ _ (rw c.default_name.ensures at c.in_err-name.ensures))))

pub returns-in_err-line : goal.returns-in_err-line
returns-in_err-line c = leaves c.from_residual-in_err-line.result _ _ c.in_err-line.field-0.0 c.from_residual-in_err-line.ensures.1 (beyond _ _ _ c.in_ok-listen.ensures.sound (beyond _ _ _ c.in_ok-journal.ensures.sound (beyond _ _ _ (rw c.default_name.ensures at c.in_ok-name.ensures.sound) (among_limits (table_view c.args.table.now) _ _ c.in_err-line.ensures))))

pub returns-in_err-terminals : goal.returns-in_err-terminals
returns-in_err-terminals c = leaves c.from_residual-in_err-terminals.result _ _ c.in_err-terminals.field-0.0 c.from_residual-in_err-terminals.ensures.1 (beyond _ _ _ c.in_ok-listen.ensures.sound (beyond _ _ _ c.in_ok-journal.ensures.sound (beyond _ _ _ (rw c.default_name.ensures at c.in_ok-name.ensures.sound) (beyond_limits (table_view c.args.table.now) _ _ c.in_ok-line.ensures.0 c.in_err-terminals.ensures))))

pub returns : goal.returns
returns c = (
  no_fault _ _ c.in_ok-listen.ensures.sound (no_fault _ _ c.in_ok-journal.ensures.sound (no_fault _ _ (rw c.default_name.ensures at c.in_ok-name.ensures.sound) (no_fault_in_limits (table_view c.args.table.now) _ c.in_ok-line.ensures.0 c.in_ok-terminals.ensures.0))),
  record {
    listen = c.in_ok-listen.ensures.value;
    journal = c.in_ok-journal.ensures.value;
    name = (rw c.default_name.ensures at c.in_ok-name.ensures.value);
    line = c.in_ok-line.ensures.1.line;
    wait = c.in_ok-line.ensures.1.wait;
    slots = c.in_ok-line.ensures.1.slots;
    terminals = rw c.new.ensures c.in_ok-terminals.ensures.1;
  },
)
