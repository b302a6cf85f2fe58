-- Proof of the contract of `abort`.
use Rattle.std.proofs.Common.{◌∙◌, sym, subst, ap}
use Rattle.std.specs.Prelude.{Option, option_map}
use Rattle.gw_owes.specs.Core.{Core as CoreValue}
use Rattle.gw_owes.specs.WaitingRows.{abort_row}
use Rattle.gw_owes.specs.Waits.{waiting_with}
use Rattle.gw_core.specs.IsRow.{IsRow, alone, known_with}
use Rattle.gw_core.specs.Queues.{as_wait}
use Rattle.gw_core.specs.declared.act.Act.{Act}
use Rattle.gw_core.proofs.FirstInQueueLemmas.{none-taken-row, taken-row}
use Rattle.gw_core.proofs.terminals.Core.abort.Goals as goal
use Rattle.gw_core.proofs.terminals.Core.abort.Goals.{in-None, in-Some}

pub returns-clause-wanted : goal.returns-clause-wanted
returns-clause-wanted c = λ pt. elim c.match-take.branch [ in-None w ↦ rw w.result-is tt | in-Some w ↦ rw w.result-is (w.refusal_of.ensures.wanted pt) ]

pub returns-clause-row : goal.returns-clause-row
returns-clause-row c = λ setup kept moment.
    let held : CoreValue = record { terminals = c.self.inside.terminals.items; waits = c.self.inside.queues; logged_out = c.self.inside.sessions; device_requests = c.self.inside.device_requests } in
    subst (λ (now : CoreValue). IsRow kept (abort_row (known_with setup kept now moment) c.args.key.now) (record held { waits = c.take.new.self }) (alone c.match-take.result)) c.self.view_is
    (elim c.match-take.branch [
      | in-None w ↦ subst (λ (wanted : Option Act). IsRow kept (abort_row (known_with setup kept held moment) c.args.key.now) (record held { waits = c.take.new.self }) (alone wanted)) (sym w.result-is)
          (none-taken-row (known_with setup kept held moment) (waiting_with c.args.key.now c.self.inside.queues) c.take.new.self (c.take.ensures.is ∙ ap (option_map as_wait) w.in-None.is) c.take.ensures.others)
      | in-Some w ↦ subst (λ (wanted : Option Act). IsRow kept (abort_row (known_with setup kept held moment) c.args.key.now) (record held { waits = c.take.new.self }) (alone wanted)) (sym w.result-is)
          (taken-row (known_with setup kept held moment) (waiting_with c.args.key.now c.self.inside.queues) (as_wait w.in-Some.item) c.take.new.self w.refusal_of.result (c.take.ensures.is ∙ ap (option_map as_wait) w.in-Some.is) c.take.ensures.others w.refusal_of.ensures.calls)
    ])
