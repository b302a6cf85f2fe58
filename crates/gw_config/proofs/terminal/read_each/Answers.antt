-- Proof of the contract of `read_each`.
use Rattle.std.proofs.Common.{sym, arith}
use Rattle.std.proofs.lemmas.Result.{err_from_is_err_and}
use Rattle.gw_config.proofs.ExitLemmas.{exit}
use Rattle.gw_config.proofs.TableLemmas.{read_one, pass_one, fault_at_one, all_read}
use Rattle.gw_config.proofs.terminal.read_each.Goals as goal
use Rattle.gw_config.proofs.terminal.read_each.Goals.{in-Some+in_ok-read_terminal+in_ok-push, in_default}

pub loop-value-preserved : goal.loop-value-preserved
loop-value-preserved c =
    elim c.match-as_table.branch [
      | in-Some+in_ok-read_terminal+in_ok-push w ↦
          rw (w.pts-is, w.in_ok-push.ensures.items)
          (read_one c.args.values.now c.loop-value.value-index c.value-item.result _ c.loop-value.pts.items w.in_ok-read_terminal.field-0
          (omega arith) c.value-item.is (sym w.in-Some.ensures) w.in_ok-read_terminal.ensures.0 w.in_ok-read_terminal.ensures.1 c.loop-value.invariant)
      | in_default w ↦
          rw w.pts-is
          (pass_one c.args.values.now c.loop-value.value-index c.value-item.result c.loop-value.pts.items
          (omega arith) c.value-item.is (sym w.in_default.ensures) c.loop-value.invariant)
    ]

pub returns-in_err-read_terminal : goal.returns-in_err-read_terminal
returns-in_err-read_terminal c =
    exit c.from_residual.result _ _ c.in_err-read_terminal.field-0.0 (err_from_is_err_and c.from_residual.result c.from_residual.ensures.1)
    (λ other. fault_at_one c.args.values.now c.loop-value.value-index c.value-item.result _ c.loop-value.pts.items c.in_err-read_terminal.field-0.0
    (omega arith) c.value-item.is (sym c.in-Some.ensures) (c.in_err-read_terminal.ensures other) c.loop-value.invariant)

pub returns : goal.returns
returns c = all_read c.args.values.now c.loop-value.value-index c.loop-value.pts.items c.loop-value-test.false c.loop-value.invariant
