-- Proof of the contract of `sought`.
use Rattle.std.proofs.Common.{◌∙◌, arith}
use Rattle.sim_site.proofs.SoughtLemmas.{passed_all, passed_last, passed_on, polled_from}
use Rattle.sim_site.proofs.sought.sought.Goals as goal

pub loop-place-preserved : goal.loop-place-preserved
loop-place-preserved c = λ o held.
    let passes = c.in_ok-pass.ensures in
    c.loop-place.invariant o held ∙ passed_on o c.args.lines.now c.loop-place.place c.pass.new.place c.index-lines-place.result (omega arith) c.index-lines-place.is passes.at (rw c.if-branch.false at (passes.passes o held))

pub returns-then-branch-clause-met : goal.returns-then-branch-clause-met
returns-then-branch-clause-met c = λ o held.
    let passes = c.in_ok-pass.ensures in
    polled_from o c.args.lines.now c.args.place.now ∙ c.loop-place.invariant o held ∙ passed_last o c.args.lines.now c.loop-place.place c.pass.new.place c.index-lines-place.result (omega arith) c.index-lines-place.is passes.at (rw c.if-branch.true at (passes.passes o held))

pub returns-clause-met : goal.returns-clause-met
returns-clause-met c = λ o held. polled_from o c.args.lines.now c.args.place.now ∙ c.loop-place.invariant o held ∙ passed_all o c.args.lines.now c.loop-place.place (omega arith)

pub returns-then-branch-clause-unskipped : goal.returns-then-branch-clause-unskipped
returns-then-branch-clause-unskipped c = c.in_ok-pass.ensures.unskipped c.if-branch.true
