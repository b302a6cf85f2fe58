-- Proof of the contract of `sync`.
use Rattle.sim_site.proofs.StepLemmas.{dark_step, made_step}
use Rattle.std.proofs.Common.{◌∷◌, [], refl, sym, ap, subst, ◌∙◌}
use Rattle.std.specs.Prelude.{if◌then◌else◌, Result}
use Rattle.gw_site.specs.Observed.{Grows}
use Rattle.gw_site.specs.Turns.{SyncedTurns}
use Rattle.gw_site.specs.declared.site.Failed.{Failed}
use Rattle.gw_site.specs.declared.turn.Turn.TheVariants.{DiskFailed, Synced}
use Rattle.gw_site.specs.Steps.{SyncCall}
use Rattle.sim_site.specs.Sites.{observed_with}
use Rattle.sim_site.specs.declared.played.Played.{Played}
use Rattle.sim_site.proofs.SiteLemmas.{reported_grows, returned, short_there}
use Rattle.sim_site.proofs.site.SimSiteSite.sync.Goals as goal

pub returns-clause-turns : goal.returns-clause-turns
returns-clause-turns c =
    let s = c.args.self.now in
    let test = s.played.place.hazard.sync in
    subst (λ (p : Played). Grows (observed_with s.faults s.played) (observed_with c.report.new.self.faults p) (SyncedTurns c.report.result)) (sym c.report.ensures.played)
    (reported_grows (λ (r : Result (Unit {0}) Failed). SyncedTurns r) s.faults c.report.new.self.faults s.played c.sync-made.new.self SyncCall test (DiskFailed ∷ []) c.sync-made.result c.report.result (c.is_dark.ensures.lit c.if-is_dark.false)
    c.sync-made.ensures.made c.sync-made.ensures.fails c.sync-made.ensures.refused c.sync-made.ensures.same c.report.ensures.reported
    (λ e done. ap (λ b. if b then DiskFailed ∷ [] else Synced ∷ []) e) (λ e error. ap (λ b. if b then DiskFailed ∷ [] else Synced ∷ []) e) (λ error. refl))

pub returns-clause-result : goal.returns-clause-result
returns-clause-result c = λ lit.
    let s = c.args.self.now in
    returned s.played c.sync-made.new.self c.report.new.self.played (SyncCall) (s.played.place.hazard.sync) c.sync-made.result c.report.result c.report.ensures.played c.sync-made.ensures.made c.sync-made.ensures.fails (short_there s.played c.sync-made.new.self c.sync-made.result c.sync-made.ensures.refused) c.report.ensures.reported

pub returns-then-is_dark-clause-step : goal.returns-then-is_dark-clause-step
returns-then-is_dark-clause-step c =
    let s = c.args.self.now in
    dark_step s.faults c.fail.new.self.faults s.played c.fail.new.self.played (SyncCall) (sym c.is_dark.ensures.dark ∙ c.if-is_dark.true) c.fail.ensures.played

pub returns-clause-step : goal.returns-clause-step
returns-clause-step c =
    let s = c.args.self.now in
    made_step s.faults c.report.new.self.faults s.played c.sync-made.new.self c.report.new.self.played (SyncCall) c.sync-made.result c.report.ensures.played (c.is_dark.ensures.lit c.if-is_dark.false) c.sync-made.ensures.made (short_there s.played c.sync-made.new.self c.sync-made.result c.sync-made.ensures.refused)
