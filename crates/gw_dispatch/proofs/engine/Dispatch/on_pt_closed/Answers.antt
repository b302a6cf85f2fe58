-- Proof of the contract of `Dispatch::on_pt_closed`.
use Rattle.std.proofs.Common.{arith, refl, ◌∙◌}
use Rattle.std.proofs.lemmas.Int.{to_z-of_z}
use Rattle.gw_dispatch.specs.MidRound.{keys_waiting}
use Rattle.gw_dispatch.specs.Rounds.{due_in}
use Rattle.gw_dispatch.proofs.FitLemmas.{linked-is}
use Rattle.gw_dispatch.proofs.RunStateLemmas.{ready-core}
use Rattle.gw_dispatch.proofs.RoundLemmas.{linked-within, pt-unheld-end, pt-handled}
use Rattle.gw_dispatch.proofs.engine.Dispatch.on_pt_closed.Goals as goal

pub returns-then-pt-count-clause-triple : goal.returns-then-pt-count-clause-triple
returns-then-pt-count-clause-triple g c = λ setup polls. pt-unheld-end _ setup c.args.self.now polls c.args.now c.args.pt _ (linked-within c.args.self.now.state.core.terminals c.args.pt (omega (arith, c.count.ensures.count, c.if-pt-count.true)))

pub returns-then-not-is_linked-clause-triple : goal.returns-then-not-is_linked-clause-triple
returns-then-not-is_linked-clause-triple g c = λ setup polls.
    pt-unheld-end _ setup c.args.self.now polls c.args.now c.args.pt _ (linked-is c.args.self.now.state.core.terminals c.args.pt c.is_linked.result (omega (arith, c.count.ensures.count, c.if-pt-count.false)) c.is_linked.ensures ∙ c.if-not-is_linked.true)

pub returns-clause-triple : goal.returns-clause-triple
returns-clause-triple g c = λ setup polls.
    pt-handled _ _ _ setup c.args.self.now.state.core c.on_closed.new.core c.args.self.now.state.records.ledger.records c.args.self.now.readers.items c.on_closed.new.tills.list.items polls c.args.now c.on_closed.ensures.count (keys_waiting c.args.self.now.state.core)
    (rw c.deref.ensures.value at (simp (to_z-of_z, c.ranges.now) at (c.on_closed.ensures.triple setup c.args.self.now.state.records.ledger.records polls (due_in c.args.self.now))))

pub returns-clause-ready : goal.returns-clause-ready
returns-clause-ready g c = ready-core c.args.self.now c.on_closed.new.core c.args.self.now.readers.items _ _ _ refl refl c.requires.ready c.on_closed.ensures.still c.on_closed.ensures.order
    (rw c.deref.ensures.value at c.on_closed.ensures.ready) c.on_closed.ensures.goes_on
