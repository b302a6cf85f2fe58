-- Proof of the contract of `Records::keep`.
use Rattle.std.proofs.Common.{arith, subst, sym}
use Rattle.std.specs.Prelude.{ℕ, Ok, Err}
use Rattle.jrn_log.specs.Journal.{StandsFor}
use Rattle.gw_site.specs.declared.site.Failed.{Failed}
use Rattle.gw_rules.specs.Triple.{Triple}
use Rattle.gw_dispatch.specs.Keeping.{Kept, OwesKeeping}
use Rattle.gw_dispatch.proofs.GrowthLemmas.{appended}
use Rattle.gw_dispatch.proofs.KeepingLemmas.{append-ends, append-triple}
use Rattle.gw_dispatch.proofs.records.Records.keep.Goals as goal

pub add-requires : goal.add-requires
add-requires g c = record {
  may = c.requires.room.may;
  few = omega (arith, c.requires.room.few, c.requires.room.count, c.requires.room.slot);
  spare = c.requires.room.spare;
}

pub returns-in-Ok-clause-stands : goal.returns-in-Ok-clause-stands
returns-in-Ok-clause-stands g c = subst (λ j. StandsFor j (g.S.Site.observed c.append.new.site)) (sym c.add.ensures.journal) c.in-Ok.ensures.stands

pub returns-in-Ok-clause-triple : goal.returns-in-Ok-clause-triple
returns-in-Ok-clause-triple g c = λ scene calls items.
    subst (λ slot. Triple (g.S.Site.observed c.args.site.now) (g.S.Site.observed c.append.new.site) (OwesKeeping scene slot c.args.the_record.now calls items) (Kept {T = ℕ} {E = Failed} (Ok c.in-Ok.field-0) scene slot c.args.the_record.now calls items)) c.requires.room.count
    (append-triple scene c.args.self.now.journal.len c.args.the_record.now calls items {T = ℕ} {E = Failed} (Ok c.in-Ok.field-0) _ _
    (simp (c.to_body.ensures) at c.in-Ok.ensures.turns) (simp (c.to_body.ensures) at c.in-Ok.ensures.steps) c.append.ensures.rests)

pub returns-in-Ok-clause-goes_on : goal.returns-in-Ok-clause-goes_on
returns-in-Ok-clause-goes_on g c = appended {T = ℕ} {E = Failed} _ _ c.args.self.now.journal.len c.to_body.result (Ok c.in-Ok.field-0) c.in-Ok.ensures.turns c.in-Ok.ensures.cause.later

pub returns-in-Err-Disk-clause-goes_on : goal.returns-in-Err-Disk-clause-goes_on
returns-in-Err-Disk-clause-goes_on g c = appended {T = ℕ} {E = Failed} _ _ c.args.self.now.journal.len c.to_body.result (Err (record {})) c.in-Err-Disk.ensures.turns c.in-Err-Disk.ensures.cause.later

pub returns-in-Err-Disk-clause-failed : goal.returns-in-Err-Disk-clause-failed
returns-in-Err-Disk-clause-failed g c = record {
  rose = c.in-Err-Disk.ensures.cause.failed;
  ends = append-ends c.args.self.now.journal.len c.to_body.result _ _ c.in-Err-Disk.ensures.turns;
}

pub returns-in-Err-Disk-clause-triple : goal.returns-in-Err-Disk-clause-triple
returns-in-Err-Disk-clause-triple g c = λ scene calls items.
    subst (λ slot. Triple (g.S.Site.observed c.args.site.now) (g.S.Site.observed c.append.new.site) (OwesKeeping scene slot c.args.the_record.now calls items) (Kept {T = ℕ} {E = Failed} (Err (record {})) scene slot c.args.the_record.now calls items)) c.requires.room.count
    (append-triple scene c.args.self.now.journal.len c.args.the_record.now calls items {T = ℕ} {E = Failed} (Err (record {})) _ _
    (simp (c.to_body.ensures) at c.in-Err-Disk.ensures.turns) (simp (c.to_body.ensures) at c.in-Err-Disk.ensures.steps) c.append.ensures.rests)
