-- Proof of the contract of `gateway_command`.
use Rattle.std.proofs.Common.{◌∙◌, ap, ap₂, codes}
use Rattle.std.proofs.lemmas.Result.{IfOk-weaker}
use Rattle.clap.specs.Simple.{with_rule}
use Rattle.gw_run.specs.Words.{number_rule}
use Rattle.gw_run.proofs.words.gateway_command.Goals as goal

pub returns : goal.returns
returns c =
    let first = c.in_ok-command.ensures.shape c.mode_word.ensures.local ∙ ap₂ with_rule c.bare_command.ensures c.mode_word.ensures.rule in
    let second = c.in_ok-command-2.ensures ∙ ap (λ app. with_rule app (number_rule (codes "turns") (codes "18446744073709551615"))) first in
    IfOk-weaker c.with_drill_options.result _ _
    (λ command is. is ∙ ap (λ app. with_rule (with_rule app (number_rule (codes "from") (codes "1"))) (number_rule (codes "payments") (codes "100"))) second) c.with_drill_options.ensures
