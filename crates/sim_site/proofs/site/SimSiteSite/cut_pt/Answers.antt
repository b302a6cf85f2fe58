-- Proof of the contract of `cut_pt`.
use Rattle.std.proofs.Common.{◌∙◌, refl, sym}
use Rattle.gw_site.specs.Steps.{CutPtCall}
use Rattle.sim_site.proofs.SiteLemmas.{short_there}
use Rattle.sim_site.proofs.StepLemmas.{dark_step, made_step}
use Rattle.sim_site.proofs.site.SimSiteSite.cut_pt.Goals as goal

pub returns-then-is_dark-clause-step : goal.returns-then-is_dark-clause-step
returns-then-is_dark-clause-step c =
    let s = c.args.self.now in
    dark_step s.faults s.faults s.played s.played (CutPtCall c.args.pt) (sym c.is_dark.ensures.dark ∙ c.if-is_dark.true) refl

pub returns-clause-step : goal.returns-clause-step
returns-clause-step c =
    let s = c.args.self.now in
    made_step s.faults s.faults s.played c.cut_pt.new.self c.cut_pt.new.self (CutPtCall c.args.pt) c.cut_pt.result refl (c.is_dark.ensures.lit c.if-is_dark.false) c.cut_pt.ensures.made (short_there s.played c.cut_pt.new.self c.cut_pt.result c.cut_pt.ensures.refused)
