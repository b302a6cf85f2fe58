-- Proof of the contract of `open`.
use Rattle.std.proofs.Common.{List, ℕ}
use Rattle.std.specs.Prelude.{Ok, Err}
use Rattle.gw_site.specs.Outside.{outside_of}
use Rattle.jrn_log.specs.Journal.{JournalValue}
use Rattle.jrn_log.specs.inner.FileReader.{AreJournalBodies, IsFileFault}
use Rattle.jrn_log.specs.declared.fault.OpenFault.TheVariants.{Disk}
use Rattle.jrn_log.proofs.OpenLemmas.{open_grows, open_turns, open_fails, sync_fails, sized_before, sized_after, opens_with, ok_not_long, ok_not_truncated, fault_long, fault_truncated, opened_rests, opening_images}
use Rattle.jrn_log.proofs.StepLemmas.{steps-opening, rests-then}
use Rattle.jrn_log.proofs.journal.Journal.open.Goals as goal

pub returns-in-Err-clause-images : goal.returns-in-Err-clause-images
returns-in-Err-clause-images g c = opening_images {T = JournalValue} (Err Disk) _ _ (sync_fails _ _ c.in-Err.ensures.turns)

pub returns-in-Err-sized_bodies-clause-too_long : goal.returns-in-Err-sized_bodies-clause-too_long
returns-in-Err-sized_bodies-clause-too_long g c = λ log e.
    fault_long c.args.slots (outside_of log).file c.in-Err-sized_bodies.fault
    (sized_before _ _ c.in-Ok.size (λ file. IsFileFault c.args.slots file c.in-Err-sized_bodies.fault) c.in-Ok.ensures.turns c.in-Ok.ensures.size c.in-Err-sized_bodies.ensures.sized log e)

pub returns-in-Err-sized_bodies-clause-truncated : goal.returns-in-Err-sized_bodies-clause-truncated
returns-in-Err-sized_bodies-clause-truncated g c = λ log e.
    fault_truncated c.args.slots (outside_of log).file c.in-Err-sized_bodies.fault
    (sized_before _ _ c.in-Ok.size (λ file. IsFileFault c.args.slots file c.in-Err-sized_bodies.fault) c.in-Ok.ensures.turns c.in-Ok.ensures.size c.in-Err-sized_bodies.ensures.sized log e)

pub returns-in-Err-sized_bodies-clause-turns : goal.returns-in-Err-sized_bodies-clause-turns
returns-in-Err-sized_bodies-clause-turns g c = open_fails c.in-Err-sized_bodies.fault _ _ _ c.in-Ok.size c.in-Ok.ensures.size c.in-Ok.ensures.turns c.in-Err-sized_bodies.ensures.turns

pub returns-in-Err-sized_bodies-clause-images : goal.returns-in-Err-sized_bodies-clause-images
returns-in-Err-sized_bodies-clause-images g c =
    opening_images {T = JournalValue} (Err c.in-Err-sized_bodies.fault) _ _ (open_fails c.in-Err-sized_bodies.fault _ _ _ c.in-Ok.size c.in-Ok.ensures.size c.in-Ok.ensures.turns c.in-Err-sized_bodies.ensures.turns)

pub returns-in-Ok-sized_bodies-clause-bodies : goal.returns-in-Ok-sized_bodies-clause-bodies
returns-in-Ok-sized_bodies-clause-bodies g c = λ log e.
    opens_with c.args.slots c.in-Ok.size (outside_of log).file c.in-Ok-sized_bodies.bodies c.as_slice.result.now c.as_slice.ensures (c.in-Ok.ensures.size log e)
    (sized_before _ _ c.in-Ok.size (λ file. AreJournalBodies c.args.slots file c.in-Ok-sized_bodies.bodies) c.in-Ok.ensures.turns c.in-Ok.ensures.size c.in-Ok-sized_bodies.ensures.sized log e)

pub returns-in-Ok-sized_bodies-clause-too_long : goal.returns-in-Ok-sized_bodies-clause-too_long
returns-in-Ok-sized_bodies-clause-too_long g c = λ log e.
    ok_not_long c.args.slots (outside_of log).file c.in-Ok-sized_bodies.bodies _
    (sized_before _ _ c.in-Ok.size (λ file. AreJournalBodies c.args.slots file c.in-Ok-sized_bodies.bodies) c.in-Ok.ensures.turns c.in-Ok.ensures.size c.in-Ok-sized_bodies.ensures.sized log e)

pub returns-in-Ok-sized_bodies-clause-truncated : goal.returns-in-Ok-sized_bodies-clause-truncated
returns-in-Ok-sized_bodies-clause-truncated g c = λ log e.
    ok_not_truncated c.args.slots (outside_of log).file c.in-Ok-sized_bodies.bodies _
    (sized_before _ _ c.in-Ok.size (λ file. AreJournalBodies c.args.slots file c.in-Ok-sized_bodies.bodies) c.in-Ok.ensures.turns c.in-Ok.ensures.size c.in-Ok-sized_bodies.ensures.sized log e)

pub returns-in-Ok-sized_bodies-clause-turns : goal.returns-in-Ok-sized_bodies-clause-turns
returns-in-Ok-sized_bodies-clause-turns g c = open_turns c.in-Ok-sized_bodies.bodies _ _ c.in-Ok.size c.in-Ok.ensures.size (open_grows _ _ _ c.in-Ok.size c.in-Ok.ensures.turns c.in-Ok-sized_bodies.ensures.turns)

pub returns-in-Ok-sized_bodies-clause-stands : goal.returns-in-Ok-sized_bodies-clause-stands
returns-in-Ok-sized_bodies-clause-stands g c =
    rw c.as_slice.ensures (opened_rests _ _ c.args.slots c.in-Ok.size c.in-Ok-sized_bodies.bodies (open_grows _ _ _ c.in-Ok.size c.in-Ok.ensures.turns c.in-Ok-sized_bodies.ensures.turns) c.in-Ok.ensures.size
    (sized_before _ _ c.in-Ok.size (λ file. AreJournalBodies c.args.slots file c.in-Ok-sized_bodies.bodies) c.in-Ok.ensures.turns c.in-Ok.ensures.size c.in-Ok-sized_bodies.ensures.sized))

pub returns-in-Ok-sized_bodies-clause-images : goal.returns-in-Ok-sized_bodies-clause-images
returns-in-Ok-sized_bodies-clause-images g c =
    opening_images {T = List (List ℕ)} (Ok c.in-Ok-sized_bodies.bodies) _ _ (open_turns c.in-Ok-sized_bodies.bodies _ _ c.in-Ok.size c.in-Ok.ensures.size (open_grows _ _ _ c.in-Ok.size c.in-Ok.ensures.turns c.in-Ok-sized_bodies.ensures.turns))

pub returns-in-Err-sized_bodies-clause-steps : goal.returns-in-Err-sized_bodies-clause-steps
returns-in-Err-sized_bodies-clause-steps g c = λ before e.
    steps-opening {T = JournalValue} (Err c.in-Err-sized_bodies.fault) c.args.slots c.in-Ok.size (outside_of before).file before _ _ _ (c.in-Ok.ensures.size before e) c.in-Ok.ensures.turns.stays c.in-Err-sized_bodies.ensures.turns.stays
    (c.in-Ok.ensures.steps _ before e) (λ between f. c.in-Err-sized_bodies.ensures.steps between f (sized_after _ _ c.in-Ok.size c.in-Ok.ensures.turns c.in-Ok.ensures.size between f))

pub returns-in-Ok-sized_bodies-clause-steps : goal.returns-in-Ok-sized_bodies-clause-steps
returns-in-Ok-sized_bodies-clause-steps g c = λ before e.
    steps-opening {T = List (List ℕ)} (Ok c.in-Ok-sized_bodies.bodies) c.args.slots c.in-Ok.size (outside_of before).file before _ _ _ (c.in-Ok.ensures.size before e) c.in-Ok.ensures.turns.stays c.in-Ok-sized_bodies.ensures.turns.stays
    (c.in-Ok.ensures.steps _ before e) (λ between f. c.in-Ok-sized_bodies.ensures.steps between f (sized_after _ _ c.in-Ok.size c.in-Ok.ensures.turns c.in-Ok.ensures.size between f))

pub returns-in-Err-sized_bodies-clause-rests : goal.returns-in-Err-sized_bodies-clause-rests
returns-in-Err-sized_bodies-clause-rests g c = rests-then _ _ _ _ _ c.in-Ok.ensures.turns c.in-Err-sized_bodies.ensures.turns c.in-Ok.ensures.rests c.in-Err-sized_bodies.ensures.rests

pub returns-in-Ok-sized_bodies-clause-rests : goal.returns-in-Ok-sized_bodies-clause-rests
returns-in-Ok-sized_bodies-clause-rests g c = rests-then _ _ _ _ _ c.in-Ok.ensures.turns c.in-Ok-sized_bodies.ensures.turns c.in-Ok.ensures.rests c.in-Ok-sized_bodies.ensures.rests
