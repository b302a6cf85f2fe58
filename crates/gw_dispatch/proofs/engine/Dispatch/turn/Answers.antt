-- Proof of the contract of `Dispatch::turn`.
use Rattle.std.proofs.Common.{◌≡◌, ◌+◌, ℕ, List, [], length, ap, refl, ◌∙◌, to_z, of_z, w64}
use Rattle.std.specs.Prelude.{ℤ, Ok}
use Rattle.std.specs.Vec.{with_items}
use Rattle.std.proofs.lemmas.Int.{to_z-of_z}
use Rattle.std.proofs.lemmas.List.{with_items_is}
use Rattle.gw_bytes.specs.Bytes.{AreBytes}
use Rattle.gw_base.specs.declared.setup.Setup.{Setup}
use Rattle.gw_site.specs.Observed.{Observed, Grows, IfObserved, IsStep}
use Rattle.gw_site.specs.Outside.{outside_of}
use Rattle.gw_site.specs.Steps.{PollCall}
use Rattle.gw_site.specs.Turns.{PolledTurns, IsPromised, IsWithinBuf}
use Rattle.gw_site.specs.declared.site.Polled.{Polled}
use Rattle.gw_rules.specs.Triple.{Triple}
use Rattle.gw_rules.proofs.TripleLemmas.{triple-then, triple-after, triple-some}
use Rattle.gw_rules.proofs.CallLemmas.{poll-triple}
use Rattle.gw_dispatch.specs.MidRound.{due_items}
use Rattle.gw_dispatch.specs.Rounds.{IsBetweenRounds, IsHandling, IsPolled}
use Rattle.gw_dispatch.specs.declared.engine.Dispatch.{Dispatch}
use Rattle.gw_dispatch.proofs.GrowthLemmas.{goes-then, once-then-calls, polled-for-memory, polled-stands, polls-then-calls, stop-polled, was-polled}
use Rattle.gw_dispatch.proofs.RunStateLemmas.{ready-core, ready-still}
use Rattle.gw_dispatch.proofs.RoundLemmas.{rest-polled, handled-rest}
use Rattle.gw_dispatch.proofs.engine.Dispatch.turn.Goals as goal

-- the poll
polled : (a b : Observed) (setup : Setup) (dispatch : Dispatch) (polls : ℕ) (result : Polled) (now : ℤ) (buf : List ℕ) → now ≡ result.now → Grows a b (PolledTurns result buf) → IsStep a b PollCall →
    IfObserved a (λ log. IsPromised (outside_of log) result.what) → IsWithinBuf result.what → length buf ≡ 4096 → AreBytes buf → Triple a b (IsBetweenRounds setup dispatch polls) (IsPolled setup dispatch polls now result.what buf)
polled a b setup dispatch polls result now buf same turns step promise count long bytes =
    rw same (rest-polled a b setup dispatch polls result.now result.what buf (λ scene. poll-triple scene result buf a b turns step promise count long bytes))

pub returns-in-Ok-Went-clause-triple : goal.returns-in-Ok-Went-clause-triple
returns-in-Ok-Went-clause-triple g c = λ setup polls named.
    let same : to_z w64 (of_z w64 c.poll-now.result.now) ≡ c.poll-now.result.now = to_z-of_z w64 c.poll-now.result.now (assumption (c.poll-now.type_inv)) in
    triple-then _ _ _ _ _ _
    (polled _ _ setup c.args.self.now polls c.poll-now.result (to_z w64 (of_z w64 c.poll-now.result.now)) c.poll-now.new.buf same c.poll-now.ensures.turns c.poll-now.ensures.step c.poll-now.ensures.promise c.poll-now.ensures.count c.poll-now.ensures.buf c.on_event.ensures.bytes)
    (triple-then _ _ _ _ _ _ (rw c.in-Ok-Went.field-0-is at (c.in-Ok-Went.ensures.triple setup polls named))
    (triple-after _ _ _ _ _ (triple-some _ _ (λ keys v. IsHandling setup c.on_event.new.self (polls + 1) (to_z w64 (of_z w64 c.poll-now.result.now)) (due_items (length c.on_event.new.self.state.core.terminals) keys) v) _ []
    (λ keys. rw c.deref_mut.ensures.value at (c.on_due.ensures.triple setup c.on_event.new.self.state.records.ledger.records (polls + 1) keys)))
    (λ v q. handled-rest setup (record { state = record c.on_event.new.self.state { core = c.on_due.new.core }; tills = c.on_due.new.tills; readers = with_items c.on_event.new.self.readers c.on_due.new.readers }) (polls + 1) (to_z w64 (of_z w64 c.poll-now.result.now)) v
    (rw (with_items_is c.on_event.new.self.readers c.on_due.new.readers (c.on_due.auto.readers ∙ c.deref_mut.ensures.len)) q))))

pub on_event-requires-clause-ready : goal.on_event-requires-clause-ready
on_event-requires-clause-ready g c = ready-still c.args.self.now _ _ c.requires.ready (polled-stands _ _ c.poll-now.result c.poll-now.new.buf c.poll-now.ensures.turns)

pub returns-in-Ok-Went-clause-ready : goal.returns-in-Ok-Went-clause-ready
returns-in-Ok-Went-clause-ready g c = ready-core c.on_event.new.self c.on_due.new.core c.on_due.new.readers _ _ _ refl (with_items_is c.on_event.new.self.readers c.on_due.new.readers (c.on_due.auto.readers ∙ c.deref_mut.ensures.len)) c.in-Ok-Went.ensures.ready c.on_due.ensures.still c.on_due.ensures.order c.on_due.ensures.ready c.on_due.ensures.goes_on

pub returns-in-Ok-Went-clause-goes_on : goal.returns-in-Ok-Went-clause-goes_on
returns-in-Ok-Went-clause-goes_on g c = polls-then-calls 1 _ _ _ (was-polled _ _ c.poll-now.result c.poll-now.new.buf c.poll-now.ensures.turns c.poll-now.ensures.cause) (goes-then _ _ _ c.in-Ok-Went.ensures.goes_on c.on_due.ensures.goes_on.goes_on)

pub returns-in-Ok-Stopped-clause-goes_on : goal.returns-in-Ok-Stopped-clause-goes_on
returns-in-Ok-Stopped-clause-goes_on g c = polls-then-calls 1 _ _ _ (was-polled _ _ c.poll-now.result c.poll-now.new.buf c.poll-now.ensures.turns c.poll-now.ensures.cause) c.in-Ok-Stopped.ensures.goes_on

pub returns-in-Ok-Went-clause-polled : goal.returns-in-Ok-Went-clause-polled
returns-in-Ok-Went-clause-polled g c =
    let order = c.requires.ready.well.order in
    once-then-calls _ _ _ c.poll-now.result c.poll-now.new.buf c.poll-now.ensures.turns (goes-then _ _ _ c.in-Ok-Went.ensures.goes_on c.on_due.ensures.goes_on.goes_on)
    (λ dark. (c.on_due.ensures.triple order.setup c.on_event.new.self.state.records.ledger.records 1 []).stays ((c.in-Ok-Went.ensures.triple order.setup 0 order.gateway_is).stays dark))

pub returns-in-Ok-Stopped-clause-polled : goal.returns-in-Ok-Stopped-clause-polled
returns-in-Ok-Stopped-clause-polled g c = stop-polled _ _ _ c.poll-now.result c.poll-now.new.buf c.poll-now.ensures.turns (c.in-Ok-Stopped.ensures.stopped (ap Ok c.in-Ok-Stopped.field-0-is)) (c.in-Ok-Stopped.ensures.still (ap Ok c.in-Ok-Stopped.field-0-is))

pub returns-in-Err-clause-goes_on : goal.returns-in-Err-clause-goes_on
returns-in-Err-clause-goes_on g c = polls-then-calls 1 _ _ _ (was-polled _ _ c.poll-now.result c.poll-now.new.buf c.poll-now.ensures.turns c.poll-now.ensures.cause) c.in-Err.ensures.goes_on

pub returns-in-Err-clause-memory : goal.returns-in-Err-clause-memory
returns-in-Err-clause-memory g c = λ e. polled-for-memory _ _ _ c.poll-now.result c.poll-now.new.buf c.poll-now.ensures.turns (c.in-Err.ensures.memory e) c.in-Err.ensures.goes_on
    (c.in-Err.ensures.triple c.requires.ready.well.order.setup 0 c.requires.ready.well.order.gateway_is).stays

pub returns-in-Ok-Stopped-clause-triple : goal.returns-in-Ok-Stopped-clause-triple
returns-in-Ok-Stopped-clause-triple g c = λ setup polls named.
    let same : to_z w64 (of_z w64 c.poll-now.result.now) ≡ c.poll-now.result.now = to_z-of_z w64 c.poll-now.result.now (assumption (c.poll-now.type_inv)) in
    triple-then _ _ _ _ _ _
    (polled _ _ setup c.args.self.now polls c.poll-now.result (to_z w64 (of_z w64 c.poll-now.result.now)) c.poll-now.new.buf same c.poll-now.ensures.turns c.poll-now.ensures.step c.poll-now.ensures.promise c.poll-now.ensures.count c.poll-now.ensures.buf c.on_event.ensures.bytes)
    (rw c.in-Ok-Stopped.field-0-is at (c.in-Ok-Stopped.ensures.triple setup polls named))

pub returns-in-Err-clause-triple : goal.returns-in-Err-clause-triple
returns-in-Err-clause-triple g c = λ setup polls named.
    let same : to_z w64 (of_z w64 c.poll-now.result.now) ≡ c.poll-now.result.now = to_z-of_z w64 c.poll-now.result.now (assumption (c.poll-now.type_inv)) in
    triple-then _ _ _ _ _ _
    (polled _ _ setup c.args.self.now polls c.poll-now.result (to_z w64 (of_z w64 c.poll-now.result.now)) c.poll-now.new.buf same c.poll-now.ensures.turns c.poll-now.ensures.step c.poll-now.ensures.promise c.poll-now.ensures.count c.poll-now.ensures.buf c.on_event.ensures.bytes)
    (c.in-Err.ensures.triple setup polls named)
