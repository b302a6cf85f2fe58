-- Proof of the contract of `append`.
use Rattle.std.proofs.Common.{ap, Ok, Err}
use Rattle.gw_site.specs.declared.site.Failed.{Failed}
use Rattle.jrn_log.specs.Journal.{JournalValue}
use Rattle.jrn_log.proofs.AppendedLemmas.{stands_at, grown_images, grown_rests, grown_keeps}
use Rattle.jrn_log.proofs.journal.Journal.append.Goals as goal

pub returns-in-Err-clause-images : goal.returns-in-Err-clause-images
returns-in-Err-clause-images g c =
    grown_images {T = Unit {0}} c.self.inside.len _ _ c.args.body.now (Err c.in-Err.field-0) c.told-body
    (stands_at c.args.self.now c.self.inside.len (g.S.Site.observed c.args.site.now) (ap (λ (journal : JournalValue). journal.len) c.self.view_is) c.requires.stands) c.in-Err.ensures.turns

pub returns-in-Ok-clause-stands : goal.returns-in-Ok-clause-stands
returns-in-Ok-clause-stands g c =
    grown_rests Failed c.self.inside.len _ _ c.args.body.now c.in-Ok.field-0 c.told-body
    (stands_at c.args.self.now c.self.inside.len (g.S.Site.observed c.args.site.now) (ap (λ (journal : JournalValue). journal.len) c.self.view_is) c.requires.stands) c.in-Ok.ensures.turns

pub returns-in-Ok-clause-kept : goal.returns-in-Ok-clause-kept
returns-in-Ok-clause-kept g c =
    grown_keeps Failed c.self.inside.len _ _ c.args.body.now c.in-Ok.field-0 c.told-body
    (stands_at c.args.self.now c.self.inside.len (g.S.Site.observed c.args.site.now) (ap (λ (journal : JournalValue). journal.len) c.self.view_is) c.requires.stands) c.in-Ok.ensures.turns

pub returns-in-Ok-clause-images : goal.returns-in-Ok-clause-images
returns-in-Ok-clause-images g c =
    grown_images {E = Failed} c.self.inside.len _ _ c.args.body.now (Ok c.in-Ok.field-0) c.told-body
    (stands_at c.args.self.now c.self.inside.len (g.S.Site.observed c.args.site.now) (ap (λ (journal : JournalValue). journal.len) c.self.view_is) c.requires.stands) c.in-Ok.ensures.turns
