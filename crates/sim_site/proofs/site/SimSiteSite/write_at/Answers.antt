-- Proof of the contract of `write_at`.
use Rattle.sim_site.proofs.StepLemmas.{dark_step, made_step}
use Rattle.std.proofs.Common.{sym, subst, ◌∙◌}
use Rattle.gw_site.specs.Observed.{Grows}
use Rattle.gw_site.specs.Turns.{WroteTurns}
use Rattle.sim_site.specs.Sites.{observed_with}
use Rattle.sim_site.specs.declared.played.Played.{Played}
use Rattle.sim_site.proofs.SiteLemmas.{reported_write, returned}
use Rattle.gw_site.specs.Steps.{WriteCall}
use Rattle.sim_site.proofs.site.SimSiteSite.write_at.Goals as goal

pub returns-clause-turns : goal.returns-clause-turns
returns-clause-turns c =
    let s = c.args.self.now in
    subst (λ (p : Played). Grows (observed_with s.faults s.played) (observed_with c.report.new.self.faults p) (WroteTurns c.args.offset c.args.bytes.now c.report.result)) (sym c.report.ensures.played)
    (reported_write s.faults c.report.new.self.faults s.played c.write-made.new.self c.args.offset c.args.bytes.now c.write-made.result c.report.result (c.is_dark.ensures.lit c.if-is_dark.false)
    c.write-made.ensures.made c.write-made.ensures.fails c.write-made.ensures.refused c.write-made.ensures.short c.write-made.ensures.same c.report.ensures.reported)

pub returns-clause-result : goal.returns-clause-result
returns-clause-result c = λ lit.
    let s = c.args.self.now in
    returned s.played c.write-made.new.self c.report.new.self.played (WriteCall c.args.offset c.args.bytes.now) (s.played.place.hazard.write) c.write-made.result c.report.result c.report.ensures.played c.write-made.ensures.made c.write-made.ensures.fails c.write-made.ensures.short c.report.ensures.reported

pub returns-then-is_dark-clause-step : goal.returns-then-is_dark-clause-step
returns-then-is_dark-clause-step c =
    let s = c.args.self.now in
    dark_step s.faults c.fail.new.self.faults s.played c.fail.new.self.played (WriteCall c.args.offset c.args.bytes.now) (sym c.is_dark.ensures.dark ∙ c.if-is_dark.true) c.fail.ensures.played

pub returns-clause-step : goal.returns-clause-step
returns-clause-step c =
    let s = c.args.self.now in
    made_step s.faults c.report.new.self.faults s.played c.write-made.new.self c.report.new.self.played (WriteCall c.args.offset c.args.bytes.now) c.write-made.result c.report.ensures.played (c.is_dark.ensures.lit c.if-is_dark.false) c.write-made.ensures.made c.write-made.ensures.short
