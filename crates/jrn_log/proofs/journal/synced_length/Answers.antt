-- Proof of the contract of `synced_length`.
use Rattle.std.specs.Prelude.{IfOk, length}
use Rattle.std.proofs.Common.{◌≡◌, refl, inl}
use Rattle.gw_site.specs.Steps.{LengthCall, SyncCall}
use Rattle.gw_site.specs.Turns.{DiskTurns}
use Rattle.jrn_log.specs.JournalSteps.{ToSync, ToMeasure}
use Rattle.jrn_log.proofs.SequenceLemmas.{grows-then, grows-weaker, synced_same}
use Rattle.jrn_log.proofs.StepLemmas.{steps-two, steps-err, rests-call, rests-then}
use Rattle.jrn_log.proofs.TurnLemmas.{sync_then_length}
use Rattle.jrn_log.proofs.journal.synced_length.Goals as goal

pub returns-in-Ok-clause-size : goal.returns-in-Ok-clause-size
returns-in-Ok-clause-size g c = synced_same _ _ (λ file. IfOk c.length.result (λ size. size ≡ length file)) c.in-Ok.ensures.turns c.length.ensures.length

pub returns-in-Ok-clause-turns : goal.returns-in-Ok-clause-turns
returns-in-Ok-clause-turns g c = grows-then _ _ _ _ _ _ c.in-Ok.ensures.turns c.length.ensures.turns (sync_then_length c.length.result)

pub returns-in-Err-clause-turns : goal.returns-in-Err-clause-turns
returns-in-Err-clause-turns g c = grows-weaker _ _ _ _ c.in-Err.ensures.turns (λ turns e. inl e)

pub returns-in-Ok-clause-steps : goal.returns-in-Ok-clause-steps
returns-in-Ok-clause-steps g c = λ rest before e.
    steps-two (ToSync (ToMeasure rest)) SyncCall LengthCall c.length.result DiskTurns before _ _ _ (λ done turns t. t) refl refl c.in-Ok.ensures.turns c.in-Ok.ensures.step c.length.ensures.turns c.length.ensures.step e

pub returns-in-Err-clause-steps : goal.returns-in-Err-clause-steps
returns-in-Err-clause-steps g c = λ rest before e. steps-err (ToSync (ToMeasure rest)) SyncCall _ before _ _ refl c.in-Err.ensures.turns c.in-Err.ensures.step e

pub returns-in-Ok-clause-rests : goal.returns-in-Ok-clause-rests
returns-in-Ok-clause-rests g c = rests-then _ _ _ _ _ c.in-Ok.ensures.turns c.length.ensures.turns (rests-call _ _ _ _ c.in-Ok.ensures.turns c.in-Ok.ensures.step) (rests-call _ _ _ _ c.length.ensures.turns c.length.ensures.step)

pub returns-in-Err-clause-rests : goal.returns-in-Err-clause-rests
returns-in-Err-clause-rests g c = rests-call _ _ _ _ c.in-Err.ensures.turns c.in-Err.ensures.step
