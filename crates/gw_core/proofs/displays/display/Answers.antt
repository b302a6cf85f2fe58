-- Proof of the contract of `display`.
use Rattle.std.proofs.Common.{◌≡◌, List, subst}
use Rattle.gw_base.specs.declared.condition.Condition.TheVariants.{UnavailableDevice}
use Rattle.sale_values.specs.declared.request.Output.{Output}
use Rattle.gw_owes.specs.Diagnosis.{named_terminal}
use Rattle.gw_owes.specs.Replies.{display_refusal, refused_results}
use Rattle.gw_core.specs.ReplyOf.{AreSameReplies}
use Rattle.gw_core.proofs.DisplayLemmas.{display-begun, display-refused}
use Rattle.gw_core.proofs.displays.display.Goals as goal

pub returns-in_ok-reply-in-Err : goal.returns-in_ok-reply-in-Err
returns-in_ok-reply-in-Err c = λ known is.
    display-refused c.args.header c.args.outputs (named_terminal c.args.core.now c.args.header.poi) c.in-Err.condition c.replied.result c.in_ok-reply-in-Err.reply c.in-Err.ensures
    (subst (λ (outputs : List Output). AreSameReplies c.in_ok-reply-in-Err.reply (display_refusal c.in-Err.condition c.args.header outputs)) c.as_slice-in-Err.ensures c.in_ok-reply-in-Err.ensures)
    c.replied.ensures.reply c.replied.ensures.none c.replied.ensures.prepared

pub returns-in_ok-results-in-Ok : goal.returns-in_ok-results-in-Ok
returns-in_ok-results-in-Ok c = λ known is.
    display-begun c.args.header c.args.outputs (named_terminal c.args.core.now c.args.header.poi) c.in-Ok.pt c.in-Ok.ensures.0.0 c.in_ok-results-in-Ok.results c.in-Ok.ensures.0.1 c.in-Ok.ensures.1
    (subst (λ (outputs : List Output). c.in_ok-results-in-Ok.results ≡ refused_results UnavailableDevice outputs) c.as_slice.ensures c.in_ok-results-in-Ok.ensures)
