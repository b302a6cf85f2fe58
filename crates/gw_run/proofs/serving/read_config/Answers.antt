-- Proof of the contract of `read_config`.
use Rattle.std.proofs.Common.{◌∙◌, ap, subst, sym}
use Rattle.std.specs.Prelude.{Err}
use Rattle.std.proofs.lemmas.Result.{IfErr-weaker, IfOk-weaker}
use Rattle.gw_run.specs.Serve.{IsConfigOf}
use Rattle.gw_run.specs.Serving.{IsConfigEnd}
use Rattle.gw_run.specs.Top.{stream_observed}
use Rattle.gw_run.proofs.ServeLemmas.{input-config, text-config}
use Rattle.gw_run.proofs.serving.read_config.Goals as goal

pub returns-in-Ok-clause-setup : goal.returns-in-Ok-clause-setup
returns-in-Ok-clause-setup g c = IfOk-weaker c.setup_of_text.result _ _ (λ setup own. λ all e. let read = c.in-Ok.ensures.bytes all e in (read.1, subst (λ text. IsConfigOf text setup) (c.deref.ensures.value ∙ read.0) own)) c.setup_of_text.ensures.setup

pub returns-in-Ok-clause-fault : goal.returns-in-Ok-clause-fault
returns-in-Ok-clause-fault g c = IfErr-weaker c.setup_of_text.result _ _ (λ ending end. text-config ending _ _ (λ all e. let read = c.in-Ok.ensures.bytes all e in (c.deref.ensures.value ∙ read.0, read.1)) end) c.setup_of_text.ensures.fault

pub returns-in-Err-clause-fault : goal.returns-in-Err-clause-fault
returns-in-Err-clause-fault g c = subst (λ ending. IsConfigEnd ending (stream_observed g.I.Source.left g.I.Source.faults c.args.input.now c.read_input.new.input)) (sym c.input_ending.ensures) (input-config c.in-Err.ending _ c.in-Err.ensures.fault (λ e. c.in-Err.ensures.failed (ap Err e)) c.in-Err.ensures.bytes)
