-- Proof of the contract of `refused_outputs`.
use Rattle.std.proofs.Common.{ap, ◌∙◌}
use Rattle.sale_reply.specs.declared.reply.Verdict.{Verdict}
use Rattle.gw_owes.specs.Replies.{output_refused}
use Rattle.gw_core.proofs.CoreLemmas.{mapped-more}
use Rattle.gw_core.proofs.refusal.refused_outputs.Goals as goal

pub loop-output-preserved : goal.loop-output-preserved
loop-output-preserved c =
    mapped-more (output_refused c.args.condition) c.args.outputs.now c.loop-output.output-index c.output-item.result c.output_result.result c.loop-output.shown.items c.push.new.self.items
    c.loop-output-test.true c.output-item.is c.loop-output.invariant
    (c.output_result.ensures ∙ ap (λ (verdict : Verdict). record { device = c.output-item.result.device; qualify = c.output-item.result.qualify; verdict = verdict }) c.refusal.ensures) (c.in_ok-push.ensures).items
