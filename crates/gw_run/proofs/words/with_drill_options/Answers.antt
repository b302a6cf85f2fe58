-- Proof of the contract of `with_drill_options`.
use Rattle.std.proofs.Common.{◌∙◌, ap, codes}
use Rattle.std.proofs.lemmas.Result.{IfOk-weaker}
use Rattle.clap.specs.Simple.{with_rule}
use Rattle.gw_run.specs.Words.{number_rule}
use Rattle.gw_run.proofs.words.with_drill_options.Goals as goal

pub returns : goal.returns
returns c = IfOk-weaker c.with_option-2.result _ _ (λ more is. is ∙ ap (λ app. with_rule app (number_rule (codes "payments") (codes "100"))) c.in_ok-command.ensures) c.with_option-2.ensures
