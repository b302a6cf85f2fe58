-- Proof of the contract of `keep_body`.
use Rattle.std.proofs.Common.{◌*◌, ap}
use Rattle.jrn_log.proofs.SequenceLemmas.{grows-then, grows-weaker}
use Rattle.jrn_log.specs.JournalSteps.{Done}
use Rattle.jrn_log.proofs.AppendedLemmas.{keep_then, keep_fails}
use Rattle.jrn_log.proofs.StepLemmas.{steps-keep, steps-keep-fails, rests-then}
use Rattle.jrn_log.proofs.write.keep_body.Goals as goal

pub returns-in-Ok-clause-turns : goal.returns-in-Ok-clause-turns
returns-in-Ok-clause-turns g c = grows-then _ _ _ _ _ _ c.in-Ok.ensures.turns c.write_synced-in-Ok.ensures.turns
    (λ p q. keep_then c.write_synced-in-Ok.result c.args.slot _ c.args.body.now _ p q (ap (λ n. 256 * n) c.from.ensures) c.body_and_gate.ensures)

pub returns-in-Err-clause-turns : goal.returns-in-Err-clause-turns
returns-in-Err-clause-turns g c = grows-weaker _ _ _ _ c.in-Err.ensures.turns (λ p. keep_fails c.in-Err.field-0 c.args.slot _ c.args.body.now _ p (ap (λ n. 256 * n) c.from.ensures) c.body_and_gate.ensures)

pub returns-in-Ok-clause-steps : goal.returns-in-Ok-clause-steps
returns-in-Ok-clause-steps g c = λ before e.
    steps-keep c.write_synced-in-Ok.result c.args.slot _ c.args.body.now _ before _ _ _ (ap (λ n. 256 * n) c.from.ensures) c.body_and_gate.ensures c.in-Ok.ensures.turns.stays c.write_synced-in-Ok.ensures.turns.stays
    (c.in-Ok.ensures.steps _ before e) (λ between f. c.write_synced-in-Ok.ensures.steps Done between f)

pub returns-in-Err-clause-steps : goal.returns-in-Err-clause-steps
returns-in-Err-clause-steps g c = λ before e. steps-keep-fails c.args.slot _ c.args.body.now _ before _ _ (ap (λ n. 256 * n) c.from.ensures) c.body_and_gate.ensures (c.in-Err.ensures.steps _ before e)

pub returns-in-Ok-clause-rests : goal.returns-in-Ok-clause-rests
returns-in-Ok-clause-rests g c = rests-then _ _ _ _ _ c.in-Ok.ensures.turns c.write_synced-in-Ok.ensures.turns c.in-Ok.ensures.rests c.write_synced-in-Ok.ensures.rests
