-- Proof of the contract of `cut_till`.
use Rattle.std.proofs.Common.{◌∙◌, refl, sym}
use Rattle.gw_site.specs.Steps.{CutTillCall}
use Rattle.sim_site.proofs.SiteLemmas.{short_there}
use Rattle.sim_site.proofs.StepLemmas.{dark_step, made_step}
use Rattle.sim_site.proofs.site.SimSiteSite.cut_till.Goals as goal

pub returns-then-is_dark-clause-step : goal.returns-then-is_dark-clause-step
returns-then-is_dark-clause-step c =
    let s = c.args.self.now in
    dark_step s.faults s.faults s.played s.played (CutTillCall c.args.till) (sym c.is_dark.ensures.dark ∙ c.if-is_dark.true) refl

pub returns-clause-step : goal.returns-clause-step
returns-clause-step c =
    let s = c.args.self.now in
    made_step s.faults s.faults s.played c.cut_till.new.self c.cut_till.new.self (CutTillCall c.args.till) c.cut_till.result refl (c.is_dark.ensures.lit c.if-is_dark.false) c.cut_till.ensures.made (short_there s.played c.cut_till.new.self c.cut_till.result c.cut_till.ensures.refused)
