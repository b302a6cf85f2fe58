-- Proof of the contract of `next`.
use Rattle.std.proofs.Common.{◌≡◌, ◌∙◌, ℤ, w64, Bool, true, [], sym, subst, ap}
use Rattle.std.specs.Prelude.{slice_get, IfSome, Option, Some, option_map}
use Rattle.std.proofs.lemmas.Int.{to_z-of_z}
use Rattle.gw_base.specs.Moment.{moment_of}
use Rattle.gw_owes.specs.Core.{Core as CoreValue, Wait}
use Rattle.gw_owes.specs.Steps.{is_ready_standing}
use Rattle.gw_owes.specs.Waits.{first_waiting, queue_of}
use Rattle.gw_owes.specs.WaitingRows.{next_waiting_row}
use Rattle.gw_owes.specs.declared.terminal.Standing.{Standing}
use Rattle.gw_owes.specs.declared.terminal.Terminal.{Terminal}
use Rattle.gw_core.specs.Beginning.{MayBeNext, leaves_queue}
use Rattle.gw_core.specs.IsRow.{IsRowThen, known_with, next_items}
use Rattle.gw_core.specs.Queues.{as_wait, without_found}
use Rattle.gw_core.specs.declared.act.Acts.{Acts}
use Rattle.gw_core.proofs.FirstInQueueLemmas.{first-row, may-be-next, nothing-left, terminal-there}
use Rattle.gw_core.proofs.terminals.Core.next.Goals as goal

-- the terminal is ready
is-ready : (found : Option Terminal) (standing : Standing) (ready : Bool) (terminal : Terminal) → found ≡ Some terminal → IfSome found (λ (t : Terminal). standing ≡ t.standing) → ready ≡ is_ready_standing standing → ready ≡ true → is_ready_standing terminal.standing ≡ true
is-ready found standing ready terminal is held passes so =
    let same : standing ≡ terminal.standing = subst (λ (f : Option Terminal). IfSome f (λ (t : Terminal). standing ≡ t.standing)) is held in
    ap is_ready_standing (sym same) ∙ sym passes ∙ so

pub begin_waiting-requires-clause-begins : goal.begin_waiting-requires-clause-begins
begin_waiting-requires-clause-begins c =
    let there = terminal-there c.args.self.now.terminals c.args.pt c.requires.there in
    let wait = as_wait c.in-Some.item in
    let ready = is-ready (slice_get c.args.self.now.terminals c.args.pt) c.standing.result.now c.is_ready.result there.terminal there.found c.standing.ensures c.is_ready.ensures c.if-not-is_ready.false in
    let taken = c.take_first.ensures.is ∙ ap (option_map as_wait) c.in-Some.is in
    let first : first_waiting (queue_of c.args.pt c.args.self.now.waits) ≡ Some wait = subst (λ (held : CoreValue). first_waiting (queue_of c.args.pt held.waits) ≡ Some wait) c.self.view_is taken in
    let next : MayBeNext c.args.ledger.now.records (moment_of c.args.now) c.args.pt wait there.terminal =
    may-be-next c.law_waits.ensures.order c.law_waits.ensures.first (known_with c.requires.order.setup c.args.ledger.now.records c.args.self.now (moment_of c.args.now)) c.args.pt there.terminal wait c.requires.order.in_order c.requires.order.waits there.found ready first in
    let found : slice_get c.self.inside.terminals.items c.args.pt ≡ Some there.terminal = subst (λ (held : CoreValue). slice_get held.terminals c.args.pt ≡ Some there.terminal) (sym c.self.view_is) there.found in
    subst (λ (now : ℤ). IfSome (slice_get c.self.inside.terminals.items c.args.pt) (MayBeNext c.args.ledger.now.records (moment_of now) c.args.pt wait)) (sym (to_z-of_z w64 c.args.now c.ranges.now))
    (subst (λ (there : Option Terminal). IfSome there (MayBeNext c.args.ledger.now.records (moment_of c.args.now) c.args.pt wait)) (sym found) next)

pub returns-in-None : goal.returns-in-None
returns-in-None c =
    let held : CoreValue = record { terminals = c.self.inside.terminals.items; waits = c.self.inside.queues; logged_out = c.self.inside.sessions; device_requests = c.self.inside.device_requests } in
    let none = c.take_first.ensures.is ∙ ap (option_map as_wait) c.in-None.is in
    let same = c.take_first.ensures.others ∙ ap (λ (found : Option Wait). without_found found c.self.inside.queues) none in
    record {
      row = λ setup. subst (λ (now : CoreValue). IsRowThen c.args.ledger.now.records (next_waiting_row (known_with setup c.args.ledger.now.records now (moment_of c.args.now)) c.args.pt) (record held { waits = c.take_first.new.self }) c.none-in-None.result []) c.self.view_is
          (subst (λ (acts : Acts). IsRowThen c.args.ledger.now.records (next_waiting_row (known_with setup c.args.ledger.now.records held (moment_of c.args.now)) c.args.pt) (record held { waits = c.take_first.new.self }) acts []) (sym c.none-in-None.ensures)
          (nothing-left (known_with setup c.args.ledger.now.records held (moment_of c.args.now)) c.args.pt c.take_first.new.self none same));
      kept = rw c.none-in-None.ensures tt;
      wanted = rw c.none-in-None.ensures tt;
    }

pub returns-in-Some : goal.returns-in-Some
returns-in-Some c =
    let held : CoreValue = record { terminals = c.self.inside.terminals.items; waits = c.self.inside.queues; logged_out = c.self.inside.sessions; device_requests = c.self.inside.device_requests } in
    let there = terminal-there c.args.self.now.terminals c.args.pt c.requires.there in
    let wait = as_wait c.in-Some.item in
    let ready = is-ready (slice_get c.args.self.now.terminals c.args.pt) c.standing.result.now c.is_ready.result there.terminal there.found c.standing.ensures c.is_ready.ensures c.if-not-is_ready.false in
    let taken = c.take_first.ensures.is ∙ ap (option_map as_wait) c.in-Some.is in
    let new_is = c.take_first.ensures.others ∙ ap (λ (found : Option Wait). without_found found c.self.inside.queues) taken in
    let found : slice_get c.self.inside.terminals.items c.args.pt ≡ Some there.terminal = subst (λ (now : CoreValue). slice_get now.terminals c.args.pt ≡ Some there.terminal) (sym c.self.view_is) there.found in
    record {
      row = λ setup. subst (λ (now : CoreValue). IsRowThen c.args.ledger.now.records (next_waiting_row (known_with setup c.args.ledger.now.records now (moment_of c.args.now)) c.args.pt) c.begin_waiting.new.self c.begin_waiting.result.0 (next_items c.args.pt c.begin_waiting.result.1)) c.self.view_is
          (first-row (known_with setup c.args.ledger.now.records held (moment_of c.args.now)) c.args.pt there.terminal wait c.take_first.new.self c.begin_waiting.new.self c.begin_waiting.result.0 (next_items c.args.pt c.begin_waiting.result.1) found ready taken new_is
          (subst (λ (now : ℤ). IsRowThen c.args.ledger.now.records (leaves_queue (known_with setup c.args.ledger.now.records (record held { waits = c.take_first.new.self }) (moment_of now)) c.args.pt wait there.terminal) c.begin_waiting.new.self c.begin_waiting.result.0 (next_items c.args.pt c.begin_waiting.result.1))
          (to_z-of_z w64 c.args.now c.ranges.now) (c.begin_waiting.ensures.row setup there.terminal found)));
      kept = c.begin_waiting.ensures.kept;
      wanted = c.begin_waiting.ensures.wanted;
    }
