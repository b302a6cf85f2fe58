-- Proof of the contract of `day_declined`.
use Rattle.std.proofs.Common.{[], ap, refl, subst, ◌∙◌}
use Rattle.std.specs.Prelude.{Some}
use Rattle.gw_base.specs.declared.condition.Condition.{Condition}
use Rattle.xlate.specs.Codes.{condition_of_code}
use Rattle.gw_owes.specs.Replies.{failure_reply}
use Rattle.gw_owes.specs.Serving.{was_stopped}
use Rattle.gw_owes.specs.Terminals.{with_terminal}
use Rattle.gw_owes.specs.declared.terminal.Terminal.{Terminal}
use Rattle.gw_core.specs.ReplyOf.{IsSameReply}
use Rattle.gw_core.proofs.reconciliations.day_declined.Goals as goal

pub returns-clause-row : goal.returns-clause-row
returns-clause-row c = λ setup kept core moment pt. record {
  core_is = ap (λ (t : Terminal). with_terminal core pt t) c.done.ensures;
  calls_are = c.send_to-act.ensures.calls [] (Some (failure_reply c.args.header.now (condition_of_code c.args.result_code (was_stopped c.args.terminal.now.talk))))
      (subst (λ (condition : Condition). IsSameReply c.refused.result (failure_reply c.args.header.now condition))
      (c.condition_of-condition.ensures.condition ∙ ap (condition_of_code c.args.result_code) c.was_stopped.ensures) c.refused.ensures);
  items_are = refl;
}
