-- Proof of the contract of `open`.
use Rattle.sim_site.proofs.StepLemmas.{dark_step, made_step}
use Rattle.std.proofs.Common.{◌∷◌, [], refl, sym, ap, subst, inl, ◌∙◌}
use Rattle.std.specs.Prelude.{if◌then◌else◌, Result}
use Rattle.gw_site.specs.Observed.{GrowsWhole}
use Rattle.gw_site.specs.Turns.{OpenTurns}
use Rattle.gw_site.specs.declared.site.Failed.{Failed}
use Rattle.gw_site.specs.declared.turn.Turn.TheVariants.{OpenFailed, Start}
use Rattle.gw_site.specs.Steps.{OpenCall}
use Rattle.sim_site.specs.Sites.{observed_with}
use Rattle.sim_site.specs.declared.played.Played.{Played}
use Rattle.sim_site.proofs.SiteLemmas.{reported_opens, returned, short_there}
use Rattle.sim_site.proofs.site.SimSiteSite.open.Goals as goal

pub returns-clause-turns : goal.returns-clause-turns
returns-clause-turns c =
    let s = c.args.self.now in
    let test = s.played.place.hazard.open in
    subst (λ (p : Played). GrowsWhole (observed_with s.faults s.played) (observed_with c.report.new.self.faults p) (OpenTurns c.args.setup.now c.report.result)) (sym c.report.ensures.played)
    (reported_opens (λ (r : Result (Unit {0}) Failed). OpenTurns c.args.setup.now r) s.faults c.report.new.self.faults s.played c.open-made.new.self (OpenCall c.args.setup.now) test (OpenFailed ∷ []) c.open-made.result c.report.result (c.is_dark.ensures.lit c.if-is_dark.false)
    c.open-made.ensures.made c.open-made.ensures.fails c.open-made.ensures.refused c.open-made.ensures.same c.report.ensures.reported
    (λ e done. inl (ap (λ b. if b then OpenFailed ∷ [] else Start c.args.setup.now ∷ []) e)) (λ e error. ap (λ b. if b then OpenFailed ∷ [] else Start c.args.setup.now ∷ []) e) (λ error before. refl))

pub returns-clause-result : goal.returns-clause-result
returns-clause-result c = λ lit.
    let s = c.args.self.now in
    returned s.played c.open-made.new.self c.report.new.self.played (OpenCall c.args.setup.now) (s.played.place.hazard.open) c.open-made.result c.report.result c.report.ensures.played c.open-made.ensures.made c.open-made.ensures.fails (short_there s.played c.open-made.new.self c.open-made.result c.open-made.ensures.refused) c.report.ensures.reported

pub returns-then-is_dark-clause-step : goal.returns-then-is_dark-clause-step
returns-then-is_dark-clause-step c =
    let s = c.args.self.now in
    dark_step s.faults c.fail.new.self.faults s.played c.fail.new.self.played (OpenCall c.args.setup.now) (sym c.is_dark.ensures.dark ∙ c.if-is_dark.true) c.fail.ensures.played

pub returns-clause-step : goal.returns-clause-step
returns-clause-step c =
    let s = c.args.self.now in
    made_step s.faults c.report.new.self.faults s.played c.open-made.new.self c.report.new.self.played (OpenCall c.args.setup.now) c.open-made.result c.report.ensures.played (c.is_dark.ensures.lit c.if-is_dark.false) c.open-made.ensures.made (short_there s.played c.open-made.new.self c.open-made.result c.open-made.ensures.refused)
