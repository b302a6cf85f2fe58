-- Proof of the contract of `with_option`.
use Rattle.std.proofs.Common.{◌∙◌, ap}
use Rattle.std.proofs.lemmas.Result.{IfOk-weaker}
use Rattle.clap.specs.Simple.{app_of, with_rule}
use Rattle.gw_run.proofs.words.with_option.Goals as goal

pub returns : goal.returns
returns c = IfOk-weaker c.arg.result _ _ (λ more added. added.shape c.number_option.ensures.local ∙ ap (with_rule (app_of c.args.command)) c.number_option.ensures.rule) c.arg.ensures
