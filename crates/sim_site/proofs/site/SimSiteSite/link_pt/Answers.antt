-- Proof of the contract of `link_pt`.
use Rattle.sim_site.proofs.StepLemmas.{dark_step, made_step}
use Rattle.std.proofs.Common.{◌∷◌, [], refl, sym, ap, subst, ◌∙◌}
use Rattle.std.specs.Prelude.{if◌then◌else◌, Result}
use Rattle.gw_site.specs.Observed.{Grows}
use Rattle.gw_site.specs.Turns.{LinkTurns}
use Rattle.gw_site.specs.declared.site.Failed.{Failed}
use Rattle.gw_site.specs.declared.turn.Turn.TheVariants.{Linked, LinkFailed}
use Rattle.gw_site.specs.Steps.{LinkCall}
use Rattle.gw_script.specs.site.Hazards.{is_failing}
use Rattle.sim_site.specs.Hazards.{links_value}
use Rattle.sim_site.specs.Sites.{observed_with}
use Rattle.sim_site.specs.declared.played.Played.{Played}
use Rattle.sim_site.proofs.SiteLemmas.{reported_grows, returned, short_there}
use Rattle.sim_site.proofs.site.SimSiteSite.link_pt.Goals as goal

pub returns-clause-turns : goal.returns-clause-turns
returns-clause-turns c =
    let s = c.args.self.now in
    let test = is_failing (links_value s.played.place.hazard.links) c.args.pt in
    subst (λ (p : Played). Grows (observed_with s.faults s.played) (observed_with c.report.new.self.faults p) (LinkTurns c.args.pt c.report.result)) (sym c.report.ensures.played)
    (reported_grows (λ (r : Result (Unit {0}) Failed). LinkTurns c.args.pt r) s.faults c.report.new.self.faults s.played c.link-made.new.self (LinkCall c.args.pt) test (LinkFailed c.args.pt ∷ []) c.link-made.result c.report.result (c.is_dark.ensures.lit c.if-is_dark.false)
    c.link-made.ensures.made c.link-made.ensures.fails c.link-made.ensures.refused c.link-made.ensures.same c.report.ensures.reported
    (λ e done. ap (λ b. if b then LinkFailed c.args.pt ∷ [] else Linked c.args.pt ∷ []) e) (λ e error. ap (λ b. if b then LinkFailed c.args.pt ∷ [] else Linked c.args.pt ∷ []) e) (λ error. refl))

pub returns-clause-result : goal.returns-clause-result
returns-clause-result c = λ lit.
    let s = c.args.self.now in
    returned s.played c.link-made.new.self c.report.new.self.played (LinkCall c.args.pt) (is_failing (links_value s.played.place.hazard.links) c.args.pt) c.link-made.result c.report.result c.report.ensures.played c.link-made.ensures.made c.link-made.ensures.fails (short_there s.played c.link-made.new.self c.link-made.result c.link-made.ensures.refused) c.report.ensures.reported

pub returns-then-is_dark-clause-step : goal.returns-then-is_dark-clause-step
returns-then-is_dark-clause-step c =
    let s = c.args.self.now in
    dark_step s.faults c.fail.new.self.faults s.played c.fail.new.self.played (LinkCall c.args.pt) (sym c.is_dark.ensures.dark ∙ c.if-is_dark.true) c.fail.ensures.played

pub returns-clause-step : goal.returns-clause-step
returns-clause-step c =
    let s = c.args.self.now in
    made_step s.faults c.report.new.self.faults s.played c.link-made.new.self c.report.new.self.played (LinkCall c.args.pt) c.link-made.result c.report.ensures.played (c.is_dark.ensures.lit c.if-is_dark.false) c.link-made.ensures.made (short_there s.played c.link-made.new.self c.link-made.result c.link-made.ensures.refused)
