-- Proof of the contract of `overdue`.
use Rattle.std.proofs.Common.{◌∙◌, ℕ, w64, sym, subst, ap}
use Rattle.std.specs.Prelude.{Option, option_map}
use Rattle.std.proofs.lemmas.Int.{to_z-of_z}
use Rattle.gw_base.specs.Moment.{moment_of}
use Rattle.gw_owes.specs.Core.{Core as CoreValue}
use Rattle.gw_core.specs.IsRow.{IsRow, alone, known_with}
use Rattle.gw_core.specs.Queues.{first_overdue, first_overdue_row, as_wait}
use Rattle.gw_core.specs.declared.act.Act.{Act}
use Rattle.gw_core.proofs.FirstInQueueLemmas.{none-taken-row, taken-row}
use Rattle.gw_core.proofs.terminals.Core.overdue.Goals as goal
use Rattle.gw_core.proofs.terminals.Core.overdue.Goals.{in-None, in-Some}

pub returns-clause-wanted : goal.returns-clause-wanted
returns-clause-wanted c = λ pt. elim c.match-take_overdue.branch [ in-None w ↦ rw w.result-is tt | in-Some w ↦ rw w.result-is (w.refusal_of.ensures.wanted pt) ]

pub returns-clause-row : goal.returns-clause-row
returns-clause-row c = λ setup kept.
    let moment : ℕ = moment_of c.args.now in
    let taken = c.take_overdue.ensures moment (to_z-of_z w64 c.to_moment.result (assumption (c.to_moment.type_inv)) ∙ simp (to_z-of_z, c.ranges.now) at c.to_moment.ensures.value) in
    let held : CoreValue = record { terminals = c.self.inside.terminals.items; waits = c.self.inside.queues; logged_out = c.self.inside.sessions; device_requests = c.self.inside.device_requests } in
    subst (λ (now : CoreValue). IsRow kept (first_overdue_row (known_with setup kept now moment)) (record held { waits = c.take_overdue.new.self }) (alone c.match-take_overdue.result)) c.self.view_is
    (elim c.match-take_overdue.branch [
      | in-None w ↦ subst (λ (wanted : Option Act). IsRow kept (first_overdue_row (known_with setup kept held moment)) (record held { waits = c.take_overdue.new.self }) (alone wanted)) (sym w.result-is)
          (none-taken-row (known_with setup kept held moment) (first_overdue moment c.self.inside.queues) c.take_overdue.new.self (taken.is ∙ ap (option_map as_wait) w.in-None.is) taken.others)
      | in-Some w ↦ subst (λ (wanted : Option Act). IsRow kept (first_overdue_row (known_with setup kept held moment)) (record held { waits = c.take_overdue.new.self }) (alone wanted)) (sym w.result-is)
          (taken-row (known_with setup kept held moment) (first_overdue moment c.self.inside.queues) (as_wait w.in-Some.item) c.take_overdue.new.self w.refusal_of.result (taken.is ∙ ap (option_map as_wait) w.in-Some.is) taken.others w.refusal_of.ensures.calls)
    ])
