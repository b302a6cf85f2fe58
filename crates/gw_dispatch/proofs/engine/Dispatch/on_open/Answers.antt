-- Proof of the contract of `Dispatch::on_open`.
use Rattle.std.proofs.Common.{◌∙◌, length, arith, refl, subst, sym, ap}
use Rattle.gw_dispatch.specs.Tills.{rank}
use Rattle.gw_dispatch.specs.RunState.{StaysInOrder}
use Rattle.gw_dispatch.specs.MidRound.{AreReady}
use Rattle.gw_dispatch.proofs.GrowthLemmas.{till-was-cut}
use Rattle.gw_dispatch.proofs.ReaderLemmas.{opened-waiting, still-same}
use Rattle.gw_dispatch.proofs.RunStateLemmas.{forgets-order, forgets-ready, ready-core}
use Rattle.gw_dispatch.proofs.RoundLemmas.{no-memory, open-held, open-idle, open-taken, open-crowded}
use Rattle.gw_dispatch.proofs.engine.Dispatch.on_open.Goals as goal

pub returns-in-Some-clause-triple : goal.returns-in-Some-clause-triple
returns-in-Some-clause-triple g c = λ setup polls now. open-held _ setup c.args.self.now polls now c.args.number c.in-Some.field-0 _
    (ap (rank c.args.number) (sym c.deref.ensures.value) ∙ sym c.index_of.ensures.index ∙ c.in-Some.is)

pub returns-then-len-ge-MOST_TILLS-clause-triple : goal.returns-then-len-ge-MOST_TILLS-clause-triple
returns-then-len-ge-MOST_TILLS-clause-triple g c = λ setup polls now. open-crowded _ _ setup c.args.self.now c.forget.new.self c.args.self.now.readers.items polls now c.args.number
    (let e = ap length (sym c.deref.ensures.value) ∙ c.deref.ensures.len in omega (arith, c.len.ensures, c.if-len-ge-MOST_TILLS.true)) c.forget.ensures refl c.cut_till.ensures.turns c.cut_till.ensures.step

pub returns-in-Ok-clause-triple : goal.returns-in-Ok-clause-triple
returns-in-Ok-clause-triple g c = λ setup polls now. open-taken _ setup c.args.self.now _ polls now c.args.number
    (let e = ap length (sym c.deref.ensures.value) ∙ c.deref.ensures.len in omega (arith, c.len.ensures, c.if-len-ge-MOST_TILLS.false)) c.in-Ok.ensures.ok

pub returns-in-Err-clause-triple : goal.returns-in-Err-clause-triple
returns-in-Err-clause-triple g c = λ setup polls now. no-memory _ _ _ (λ v p. open-idle setup c.args.self.now polls now c.args.number v p)

pub returns-then-len-ge-MOST_TILLS-clause-ready : goal.returns-then-len-ge-MOST_TILLS-clause-ready
returns-then-len-ge-MOST_TILLS-clause-ready g c = ready-core c.args.self.now c.forget.new.self c.args.self.now.readers.items _ _ _ refl refl c.requires.ready (still-same c.args.self.now.tills.list.items) (subst (StaysInOrder c.args.self.now.state.core) (sym c.forget.ensures) (forgets-order c.args.number c.args.self.now.state.core)) (subst (λ core. AreReady core c.args.self.now.readers.items) (sym c.forget.ensures) (forgets-ready c.args.self.now.state.core c.args.self.now.readers.items c.args.number c.requires.ready.terminals)) (till-was-cut _ _ c.args.number c.cut_till.ensures.turns c.cut_till.ensures.cause)

pub returns-in-Ok-clause-ready : goal.returns-in-Ok-clause-ready
returns-in-Ok-clause-ready g c = record { well = c.requires.ready.well; tills = opened-waiting c.args.self.now.tills.list.items _ c.args.number c.requires.ready.tills c.in-Ok.ensures.ok; terminals = c.requires.ready.terminals }

pub returns-then-len-ge-MOST_TILLS-clause-goes_on : goal.returns-then-len-ge-MOST_TILLS-clause-goes_on
returns-then-len-ge-MOST_TILLS-clause-goes_on g c = (till-was-cut _ _ c.args.number c.cut_till.ensures.turns c.cut_till.ensures.cause).goes_on
