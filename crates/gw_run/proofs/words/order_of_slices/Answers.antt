-- Proof of the contract of `order_of_slices`.
use Rattle.std.proofs.Common.{◌∙◌, map}
use Rattle.std.proofs.lemmas.Result.{IfOk-weaker}
use Rattle.gw_run.proofs.WordsLemmas.{command-refuses, command-takes, order-refused, order-taken}
use Rattle.gw_run.proofs.words.order_of_slices.Goals as goal

pub returns-in-Ok : goal.returns-in-Ok
returns-in-Ok c = c.order_in.ensures ∙ order-taken (map (λ word. word.now) c.args.words.now) c.in-Ok.matches
    (command-takes c.in_ok-command.command (map (λ word. word.now) c.args.words.now) c.in-Ok.matches c.in_ok-command.ensures c.in-Ok.ensures.matches c.in-Ok.ensures.kinds)

pub returns-in-Err : goal.returns-in-Err
returns-in-Err c = IfOk-weaker c.refused.result _ _
    (λ order refused. refused.0 ∙ order-refused (map (λ word. word.now) c.args.words.now)
    (command-refuses c.in_ok-command.command (map (λ word. word.now) c.args.words.now) c.in-Err.error c.in_ok-command.ensures c.in-Err.ensures.kinds refused.1)) c.refused.ensures
