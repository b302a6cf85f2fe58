-- Proof of the contract of `Dispatch::on_pt_bytes`.
use Rattle.std.proofs.Common.{arith, ◌∙◌}
use Rattle.std.proofs.lemmas.Int.{to_z-of_z}
use Rattle.gw_dispatch.specs.MidRound.{keys_waiting}
use Rattle.gw_dispatch.specs.Rounds.{due_in}
use Rattle.gw_dispatch.proofs.FitLemmas.{linked-is}
use Rattle.gw_dispatch.proofs.RoundLemmas.{linked-within, pt-unheld, pt-handled}
use Rattle.gw_dispatch.proofs.engine.Dispatch.on_pt_bytes.Goals as goal

pub returns-then-pt-count-clause-triple : goal.returns-then-pt-count-clause-triple
returns-then-pt-count-clause-triple g c = λ setup polls. pt-unheld _ setup c.args.self.now polls c.args.now c.args.pt c.args.bytes.now _ (linked-within c.args.self.now.state.core.terminals c.args.pt (omega (arith, c.count.ensures.count, c.if-pt-count.true)))

pub returns-then-not-is_linked-clause-triple : goal.returns-then-not-is_linked-clause-triple
returns-then-not-is_linked-clause-triple g c = λ setup polls.
    pt-unheld _ setup c.args.self.now polls c.args.now c.args.pt c.args.bytes.now _ (linked-is c.args.self.now.state.core.terminals c.args.pt c.is_linked.result (omega (arith, c.count.ensures.count, c.if-pt-count.false)) c.is_linked.ensures ∙ c.if-not-is_linked.true)

pub returns-in-Ok-clause-triple : goal.returns-in-Ok-clause-triple
returns-in-Ok-clause-triple g c = λ setup polls.
    pt-handled _ _ _ setup c.args.self.now.state.core c.on_bytes.new.state.core c.on_bytes.new.state.records.ledger.records c.on_bytes.new.readers.items c.on_bytes.new.tills.list.items polls c.args.now c.in-Ok.ensures.count (keys_waiting c.args.self.now.state.core)
    (simp (to_z-of_z, c.ranges.now) at (c.in-Ok.ensures.triple setup polls (due_in c.args.self.now)))

pub returns-in-Err-clause-triple : goal.returns-in-Err-clause-triple
returns-in-Err-clause-triple g c = λ setup polls. simp (to_z-of_z, c.ranges.now) at (c.in-Err.ensures.triple setup polls (due_in c.args.self.now))
