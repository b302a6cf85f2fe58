-- Proof of the contract of `OutputResults::set_verdict`.
use Rattle.std.proofs.Common.{◌∙◌, ◌<◌, length, sym, ap, subst}
use Rattle.sale_reply.specs.Outputs.{with_verdict_at}
use Rattle.sale_reply.proofs.OutputLemmas.{set_is}
use Rattle.sale_reply.proofs.outputs.OutputResults.set_verdict.Goals as goal

pub returns : goal.returns
returns c =
    let inside = subst (λ results. c.args.index < length results) (sym c.self.view_is) c.requires in
    set_is c.self.inside.inner.items c.args.index c.args.verdict c.index_mut.result.now inside c.index_mut.ensures.value
    ∙ ap (λ results. with_verdict_at results c.args.index c.args.verdict) c.self.view_is
