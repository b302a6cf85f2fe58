-- Proof of the contract of `serving_display`.
use Rattle.std.proofs.Common.{ap, subst, ◌∙◌}
use Rattle.sale_reply.specs.declared.reply.Verdict.{Verdict}
use Rattle.xlate.specs.Codes.{condition_of_code}
use Rattle.gw_owes.specs.Displays.{display_ends}
use Rattle.gw_owes.specs.Replies.{failure}
use Rattle.gw_owes.specs.Terminals.{with_terminal}
use Rattle.gw_core.specs.IsRow.{IsRow, alone, known_with}
use Rattle.gw_core.proofs.displays.serving_display.Goals as goal

pub returns-in-Done-clause-row : goal.returns-in-Done-clause-row
returns-in-Done-clause-row c = λ setup kept core moment results serves. rw c.in-Done.is
    (subst (λ (verdict : Verdict). IsRow kept (display_ends (known_with setup kept core moment) c.args.pt c.args.terminal.now c.args.last c.args.header results verdict)
    (with_terminal core c.args.pt c.end_display.new.terminal) (alone c.end_display.result)) c.success.ensures (c.end_display.ensures.row setup kept core moment c.args.pt results serves))

pub returns-in-Declined-clause-row : goal.returns-in-Declined-clause-row
returns-in-Declined-clause-row c = λ setup kept core moment results serves. rw c.in-Declined.is
    (subst (λ (verdict : Verdict). IsRow kept (display_ends (known_with setup kept core moment) c.args.pt c.args.terminal.now c.args.last c.args.header results verdict)
    (with_terminal core c.args.pt c.end_display-in-Declined.new.terminal) (alone c.end_display-in-Declined.result))
    (c.refusal-verdict.ensures ∙ ap failure (c.condition_of.ensures.condition ∙ ap (condition_of_code c.in-Declined.code) c.was_stopped.ensures))
    (c.end_display-in-Declined.ensures.row setup kept core moment c.args.pt results serves))
