-- Proof of the contract of `opened_rounds`.
use Rattle.std.proofs.Common.{◌≡◌, ◌∙◌, inl, inr, subst, sym}
use Rattle.gw_rules.proofs.TripleLemmas.{triple-after, triple-before}
use Rattle.gw_dispatch.specs.RunEnd.{EndedBy}
use Rattle.gw_dispatch.specs.declared.engine.Ended.TheVariants.{Done, NoMemory}
use Rattle.gw_dispatch.proofs.GrowthLemmas.{goes-nowhere, goes-without-poll}
use Rattle.gw_dispatch.proofs.RoundLemmas.{no-memory, opened-lacks}
use Rattle.gw_dispatch.proofs.RunLemmas.{kept-tallied, undone-tallied}
use Rattle.gw_dispatch.proofs.engine.opened_rounds.Goals as goal

pub rounds-ended-requires : goal.rounds-ended-requires
rounds-ended-requires g c = record { ready = c.in-Ok.ensures.ready _ c.requires.stands }

pub returns-in-Ok-clause-triple : goal.returns-in-Ok-clause-triple
returns-in-Ok-clause-triple g c = triple-before _ _ _ _ _ c.in-Ok.ensures.begun (triple-after _ _ _ _ _ (c.rounds-ended.ensures.triple c.args.setup.now c.in-Ok.ensures.gateway) (λ v k. kept-tallied c.rounds-ended.result c.tally.result _ _ v c.tally.ensures k))

pub returns-in-Ok-clause-memory : goal.returns-in-Ok-clause-memory
returns-in-Ok-clause-memory g c = λ lacks before e. inl (c.rounds-ended.ensures.memory lacks before e)

pub returns-in-Err-clause-triple : goal.returns-in-Err-clause-triple
returns-in-Err-clause-triple g c = no-memory _ _ _ (λ v p. undone-tallied c.untallied.result _ v (λ done. absurd (let h : NoMemory ≡ Done = sym c.untallied.ensures ∙ done in cc)) (subst (λ ended. EndedBy ended c.args.most v) (sym c.untallied.ensures) (opened-lacks c.args.setup.now c.args.records v p)))

pub returns-in-Err-clause-memory : goal.returns-in-Err-clause-memory
returns-in-Err-clause-memory g c = λ lacks before e. inr ((goes-nowhere (g.S.Site.observed c.args.site.now)).adds before e)

pub returns-in-Err-clause-goes_on : goal.returns-in-Err-clause-goes_on
returns-in-Err-clause-goes_on g c = goes-without-poll c.args.most _ _ (goes-nowhere _)
