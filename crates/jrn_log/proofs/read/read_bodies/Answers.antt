-- Proof of the contract of `read_bodies`.
use Rattle.std.proofs.Common.{refl, arith}
use Rattle.gw_site.specs.Outside.{outside_of}
use Rattle.jrn_log.proofs.SequenceLemmas.{grows-then, grows-nothing}
use Rattle.jrn_log.proofs.ReadLemmas.{looks_then, reads_end}
use Rattle.jrn_log.proofs.StepLemmas.{reads-one, reads-more, rests-then}
use Rattle.jrn_log.proofs.read.read_bodies.Goals as goal

pub chunks-preserved : goal.chunks-preserved
chunks-preserved g c = record {
  within = c.in-Ok-More.ensures.within;
  kept = grows-then _ _ _ _ _ _ c.chunks.invariant.kept c.in-Ok-More.ensures.turns (λ p q e f. rw (e, f) refl);
  steps = λ before e. reads-one before _ _ _ c.chunks.invariant.kept.stays c.in-Ok-More.ensures.turns.stays (c.chunks.invariant.steps before e) c.in-Ok-More.ensures.steps;
  rests = rests-then _ _ _ _ _ c.chunks.invariant.kept c.in-Ok-More.ensures.turns c.chunks.invariant.rests c.in-Ok-More.ensures.rests;
  begins = λ log e size. rw c.in-Ok-More.field-0-is at (c.in-Ok-More.ensures.found log (grows-nothing _ _ c.chunks.invariant.kept log e) size (c.chunks.invariant.begins log e size));
  later = omega (arith, c.chunks.invariant.later, c.in-Ok-More.ensures.later);
}

pub returns-in-Ok-End-clause-reads : goal.returns-in-Ok-End-clause-reads
returns-in-Ok-End-clause-reads g c = λ log e size.
    let found = rw c.in-Ok-End.field-0-is at (c.in-Ok-End.ensures.found log (grows-nothing _ _ c.chunks.invariant.kept log e) size (c.chunks.invariant.begins log e size)) in
    reads_end (outside_of log).file c.read_chunk.new.bodies.items c.new.result c.args.size c.new.ensures size (omega (arith, c.in-Ok-End.ensures.within, c.read_chunk.new.bodies.ok)) found

pub returns-in-Err-clause-reads : goal.returns-in-Err-clause-reads
returns-in-Err-clause-reads g c = λ log e size.
    c.in-Err.ensures.found log (grows-nothing _ _ c.chunks.invariant.kept log e) size (c.chunks.invariant.begins log e size)

pub returns-in-Err-clause-turns : goal.returns-in-Err-clause-turns
returns-in-Err-clause-turns g c = grows-then _ _ _ _ _ _ c.chunks.invariant.kept c.in-Err.ensures.turns (looks_then c.in-Err.fault)

pub returns-in-Ok-End-clause-steps : goal.returns-in-Ok-End-clause-steps
returns-in-Ok-End-clause-steps g c = λ before e. reads-more _ before _ _ _ c.chunks.invariant.kept.stays c.in-Ok-End.ensures.turns.stays (c.chunks.invariant.steps before e) c.in-Ok-End.ensures.steps

pub returns-in-Err-clause-steps : goal.returns-in-Err-clause-steps
returns-in-Err-clause-steps g c = λ before e. reads-more _ before _ _ _ c.chunks.invariant.kept.stays c.in-Err.ensures.turns.stays (c.chunks.invariant.steps before e) c.in-Err.ensures.steps

pub returns-in-Ok-End-clause-rests : goal.returns-in-Ok-End-clause-rests
returns-in-Ok-End-clause-rests g c = rests-then _ _ _ _ _ c.chunks.invariant.kept c.in-Ok-End.ensures.turns c.chunks.invariant.rests c.in-Ok-End.ensures.rests

pub returns-in-Err-clause-rests : goal.returns-in-Err-clause-rests
returns-in-Err-clause-rests g c = rests-then _ _ _ _ _ c.chunks.invariant.kept c.in-Err.ensures.turns c.chunks.invariant.rests c.in-Err.ensures.rests
