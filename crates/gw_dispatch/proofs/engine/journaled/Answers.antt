-- Proof of the contract of `journaled`.
use Rattle.std.proofs.Common.{◌∙◌, arith, inr, refl, sym, subst}
use Rattle.gw_site.specs.Outside.{outside_of}
use Rattle.gw_dispatch.specs.RunEnd.{HasBegun, IsEndByFile}
use Rattle.gw_dispatch.proofs.GrowthLemmas.{adds-then, calls-poll-none, calls-then-end, calls-then-ends}
use Rattle.gw_dispatch.proofs.RunLemmas.{cause-by-file, cause-has-begun, cause-undone, opened-run, run-by-file, run-has-begun, unopened-run}
use Rattle.gw_dispatch.proofs.engine.journaled.Goals as goal

pub returns-in-Ok-clause-triple : goal.returns-in-Ok-clause-triple
returns-in-Ok-clause-triple g c = opened-run c.args.setup.now _ _ _ c.in-Ok.records c.args.most c.opened_rounds.result (c.in-Ok.ensures.triple c.args.setup.now refl) c.opened_rounds.ensures.triple

pub returns-in-Ok-clause-begun : goal.returns-in-Ok-clause-begun
returns-in-Ok-clause-begun g c = run-has-begun c.opened_rounds.result.ended c.opened_rounds.ensures.ran

pub returns-in-Ok-clause-file : goal.returns-in-Ok-clause-file
returns-in-Ok-clause-file g c = λ log e. run-by-file c.args.setup.now.slots (outside_of log).file c.in-Ok.records c.opened_rounds.result.ended c.opened_rounds.ensures.ran (c.in-Ok.ensures.file log e) (c.in-Ok.ensures.too_long log e)

pub returns-in-Ok-clause-polls : goal.returns-in-Ok-clause-polls
returns-in-Ok-clause-polls g c = λ before e. adds-then 0 c.args.most c.args.most before (g.S.Site.observed c.open.new.site) (g.S.Site.observed c.opened_rounds.new.site) (omega arith) (calls-poll-none 0 before (g.S.Site.observed c.open.new.site) (c.in-Ok.ensures.adds before e)) c.opened_rounds.ensures.goes_on.adds

pub returns-in-Ok-clause-done : goal.returns-in-Ok-clause-done
returns-in-Ok-clause-done g c = λ done before e. calls-then-end c.args.most before (g.S.Site.observed c.open.new.site) (g.S.Site.observed c.opened_rounds.new.site) (c.in-Ok.ensures.adds before e) (c.opened_rounds.ensures.done done)

pub returns-in-Ok-clause-memory : goal.returns-in-Ok-clause-memory
returns-in-Ok-clause-memory g c = λ lacks before e. calls-then-ends before (g.S.Site.observed c.open.new.site) (g.S.Site.observed c.opened_rounds.new.site) (c.in-Ok.ensures.adds before e) (c.opened_rounds.ensures.memory lacks)

pub returns-in-Err-clause-triple : goal.returns-in-Err-clause-triple
returns-in-Err-clause-triple g c = unopened-run c.args.setup.now _ _ c.in-Err.cause c.untallied.result c.args.most (c.untallied.ensures ∙ c.ended_by.ensures) (c.in-Err.ensures.triple c.args.setup.now refl)

pub returns-in-Err-clause-begun : goal.returns-in-Err-clause-begun
returns-in-Err-clause-begun g c = subst HasBegun (sym (c.untallied.ensures ∙ c.ended_by.ensures)) (cause-has-begun c.in-Err.cause)

pub returns-in-Err-clause-file : goal.returns-in-Err-clause-file
returns-in-Err-clause-file g c = λ log e. subst (IsEndByFile c.args.setup.now.slots (outside_of log).file) (sym (c.untallied.ensures ∙ c.ended_by.ensures))
    (cause-by-file c.args.setup.now.slots (outside_of log).file c.in-Err.cause (c.in-Err.ensures.too_long log e) (c.in-Err.ensures.cut log e) (c.in-Err.ensures.bad log e))

pub returns-in-Err-clause-polls : goal.returns-in-Err-clause-polls
returns-in-Err-clause-polls g c = λ before e. calls-poll-none c.args.most before (g.S.Site.observed c.open.new.site) (c.in-Err.ensures.adds before e)

pub returns-in-Err-clause-done : goal.returns-in-Err-clause-done
returns-in-Err-clause-done g c = λ done. absurd (cause-undone c.in-Err.cause (sym (c.untallied.ensures ∙ c.ended_by.ensures) ∙ done))

pub returns-in-Err-clause-memory : goal.returns-in-Err-clause-memory
returns-in-Err-clause-memory g c = λ lacks before e. inr (c.in-Err.ensures.adds before e)
