-- Proof of the contract of `end_display`.
use Rattle.std.proofs.Common.{ap, subst, ◌∙◌, [], List, refl}
use Rattle.std.specs.Prelude.{Option, option_map}
use Rattle.sale_reply.specs.declared.reply.Shown.{Shown}
use Rattle.gw_owes.specs.Displays.{with_customer_verdict}
use Rattle.gw_owes.specs.Replies.{display_reply}
use Rattle.gw_owes.specs.Terminals.{with_terminal}
use Rattle.gw_owes.specs.declared.terminal.Terminal.{Terminal}
use Rattle.gw_core.specs.ReplyOf.{AreSameReplies}
use Rattle.gw_core.proofs.ServingLemmas.{owed-limited}
use Rattle.gw_core.proofs.displays.end_display.Goals as goal

pub send_to-act-requires : goal.send_to-act-requires
send_to-act-requires c = owed-limited c.display_reply.result (display_reply c.args.header c.with_customer_verdict.result) c.display_reply.ensures

pub returns-clause-row : goal.returns-clause-row
returns-clause-row c = λ setup kept core moment pt results serves.
    let shown = option_map (with_customer_verdict c.args.verdict) results in
    record {
      core_is = ap (λ (t : Terminal). with_terminal core pt t) c.done.ensures;
      calls_are = c.send_to-act.ensures.calls [] (display_reply c.args.header shown)
          (subst (λ (r : Option (List Shown)). AreSameReplies c.display_reply.result (display_reply c.args.header r))
          (c.with_customer_verdict.ensures ∙ ap (option_map (with_customer_verdict c.args.verdict)) (c.taken_results-results.ensures.results c.args.header results c.args.last serves)) c.display_reply.ensures);
      items_are = refl;
    }
