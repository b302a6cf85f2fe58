-- Proof of the contract of `read_chunk`.
use Rattle.jrn_log.proofs.SequenceLemmas.{grows-weaker}
use Rattle.jrn_log.proofs.ReadLemmas.{no_disk_looks}
use Rattle.jrn_log.proofs.StepLemmas.{steps-read, steps-not-read, rests-call}
use Rattle.jrn_log.proofs.read.read_chunk.Goals as goal

pub returns-in-Ok-clause-turns : goal.returns-in-Ok-clause-turns
returns-in-Ok-clause-turns g c = grows-weaker _ _ _ _ c.in-Ok.ensures.turns (λ turns e. no_disk_looks c.take_slots.result turns c.take_slots.ensures.looked e)

pub returns-in-Ok-clause-disk : goal.returns-in-Ok-clause-disk
returns-in-Ok-clause-disk g c = λ e. absurd (c.take_slots.ensures.looked e)

pub returns-in-Ok-clause-steps : goal.returns-in-Ok-clause-steps
returns-in-Ok-clause-steps g c = λ first is before e. steps-read c.take_slots.result first _ _ before _ _ is c.in-Ok.ensures.turns c.in-Ok.ensures.step e

pub returns-in-Err-clause-steps : goal.returns-in-Err-clause-steps
returns-in-Err-clause-steps g c = λ first is before e. steps-not-read first _ _ _ before _ _ is c.in-Err.ensures.turns c.in-Err.ensures.step e

pub returns-in-Ok-clause-rests : goal.returns-in-Ok-clause-rests
returns-in-Ok-clause-rests g c = rests-call _ _ _ _ c.in-Ok.ensures.turns c.in-Ok.ensures.step

pub returns-in-Err-clause-rests : goal.returns-in-Err-clause-rests
returns-in-Err-clause-rests g c = rests-call _ _ _ _ c.in-Err.ensures.turns c.in-Err.ensures.step
