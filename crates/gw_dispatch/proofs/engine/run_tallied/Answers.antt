-- Proof of the contract of `run_tallied`.
use Rattle.std.proofs.Common.{◌≡◌, ◌∙◌, subst, sym}
use Rattle.std.specs.Prelude.{Err}
use Rattle.gw_site.specs.declared.site.Failed.{Failed}
use Rattle.gw_rules.specs.Acts.{Unopened, Unmeasured}
use Rattle.gw_rules.specs.Triple.{JustBegun}
use Rattle.gw_rules.proofs.RunLemmas.{begun-runs, failed-runs, opened-runs, runs-then-due}
use Rattle.gw_dispatch.specs.RunEnd.{EndedBy, EndsByFound, TalliedBy}
use Rattle.gw_dispatch.specs.declared.engine.Ended.TheVariants.{Done, NotOpened}
use Rattle.gw_dispatch.proofs.RunLemmas.{begun-opened, found, none-began, not-found, opened-for-memory, opened-observed, opened-polls, run-done, run-polls, run-weaker, undone-tallied}
use Rattle.gw_dispatch.proofs.engine.run_tallied.Goals as goal

pub returns-in-Ok-clause-lawful : goal.returns-in-Ok-clause-lawful
returns-in-Ok-clause-lawful g c = begun-runs _ _ c.args.setup.now _ _ (λ v q. q)
    (runs-then-due _ _ _ c.args.setup.now Unopened Unmeasured (JustBegun c.args.setup.now) (TalliedBy c.journaled.result c.args.most) (opened-runs Failed c.args.setup.now _ _ c.requires c.in-Ok.ensures.turns c.in-Ok.ensures.step) c.journaled.ensures.triple)

pub returns-in-Ok-clause-none : goal.returns-in-Ok-clause-none
returns-in-Ok-clause-none g c = λ e. absurd (begun-opened c.journaled.result.ended c.journaled.ensures.begun e)

pub returns-in-Ok-clause-file : goal.returns-in-Ok-clause-file
returns-in-Ok-clause-file g c = found Failed c.args.setup.now.slots c.args.most c.args.setup.now _ _ _ c.journaled.result.ended c.in-Ok.ensures.turns c.journaled.ensures.file c.journaled.ensures.polls

pub returns-in-Ok-clause-failed : goal.returns-in-Ok-clause-failed
returns-in-Ok-clause-failed g c = λ disk. opened-observed _ _ c.in-Ok.ensures.turns (c.journaled.ensures.failed disk)

pub returns-in-Err-clause-lawful : goal.returns-in-Err-clause-lawful
returns-in-Err-clause-lawful g c = run-weaker c.args.setup.now _ _ _ _ _
    (λ v rests. undone-tallied c.untallied.result c.args.most v (λ done. let h : NotOpened ≡ Done = sym c.untallied.ensures ∙ done in cc) (subst (λ ended. EndedBy ended c.args.most v) (sym c.untallied.ensures) rests))
    (failed-runs c.in-Err.field-0 c.args.setup.now _ _ c.in-Err.ensures.turns c.in-Err.ensures.step)

pub returns-in-Err-clause-none : goal.returns-in-Err-clause-none
returns-in-Err-clause-none g c = λ e. none-began c.in-Err.field-0 c.args.setup.now _ _ c.in-Err.ensures.turns

pub returns-in-Err-clause-file : goal.returns-in-Err-clause-file
returns-in-Err-clause-file g c = λ before e. subst (EndsByFound c.args.setup.now.slots before _) (sym c.untallied.ensures) (not-found c.args.setup.now.slots before _)

pub returns-in-Ok-clause-polls : goal.returns-in-Ok-clause-polls
returns-in-Ok-clause-polls g c = run-polls Failed c.args.setup.now c.args.most _ _ (g.S.Site.observed c.journaled.new.site) c.in-Ok.ensures.turns c.journaled.ensures.polls

pub returns-in-Ok-clause-done : goal.returns-in-Ok-clause-done
returns-in-Ok-clause-done g c = λ done. run-done Failed c.args.setup.now c.args.most _ _ (g.S.Site.observed c.journaled.new.site) c.in-Ok.ensures.turns (c.journaled.ensures.done done)

pub returns-in-Ok-clause-memory : goal.returns-in-Ok-clause-memory
returns-in-Ok-clause-memory g c = λ lacks. opened-for-memory Failed c.args.setup.now _ _ (g.S.Site.observed c.journaled.new.site) c.in-Ok.ensures.turns c.journaled.ensures.triple.stays (c.journaled.ensures.memory lacks)

pub returns-in-Err-clause-polls : goal.returns-in-Err-clause-polls
returns-in-Err-clause-polls g c = opened-polls Failed c.args.setup.now (Err c.in-Err.field-0) c.args.most _ _ c.in-Err.ensures.turns
