-- Proof of the contract of `write_synced`.
use Rattle.std.proofs.Common.{refl}
use Rattle.gw_site.specs.Steps.{WriteCall, SyncCall}
use Rattle.gw_site.specs.Turns.{SyncedTurns}
use Rattle.jrn_log.specs.JournalSteps.{ToSync, ToWrite}
use Rattle.jrn_log.proofs.SequenceLemmas.{grows-then}
use Rattle.jrn_log.proofs.StepLemmas.{steps-two, steps-err, rests-call, rests-then}
use Rattle.jrn_log.proofs.TurnLemmas.{write_then_sync}
use Rattle.jrn_log.proofs.write.write_synced.Goals as goal

pub returns-in-Ok-clause-turns : goal.returns-in-Ok-clause-turns
returns-in-Ok-clause-turns g c = grows-then _ _ _ _ _ _ c.in-Ok.ensures.turns c.sync.ensures.turns (write_then_sync c.sync.result c.args.offset c.args.bytes.now)

pub returns-in-Ok-clause-steps : goal.returns-in-Ok-clause-steps
returns-in-Ok-clause-steps g c = λ rest before e.
    steps-two (ToWrite c.args.offset c.args.bytes.now (ToSync rest)) (WriteCall c.args.offset c.args.bytes.now) SyncCall c.sync.result SyncedTurns before _ _ _ (λ done turns t. t) refl refl c.in-Ok.ensures.turns c.in-Ok.ensures.step c.sync.ensures.turns c.sync.ensures.step e

pub returns-in-Err-clause-steps : goal.returns-in-Err-clause-steps
returns-in-Err-clause-steps g c = λ rest before e.
    steps-err (ToWrite c.args.offset c.args.bytes.now (ToSync rest)) (WriteCall c.args.offset c.args.bytes.now) _ before _ _ refl c.in-Err.ensures.turns c.in-Err.ensures.step e

pub returns-in-Ok-clause-rests : goal.returns-in-Ok-clause-rests
returns-in-Ok-clause-rests g c = rests-then _ _ _ _ _ c.in-Ok.ensures.turns c.sync.ensures.turns (rests-call _ _ _ _ c.in-Ok.ensures.turns c.in-Ok.ensures.step) (rests-call _ _ _ _ c.sync.ensures.turns c.sync.ensures.step)

pub returns-in-Err-clause-rests : goal.returns-in-Err-clause-rests
returns-in-Err-clause-rests g c = rests-call _ _ _ _ c.in-Err.ensures.turns c.in-Err.ensures.step
