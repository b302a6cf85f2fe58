-- Proof of the contract of `send_till`.
use Rattle.sim_site.proofs.StepLemmas.{dark_step, made_step}
use Rattle.std.proofs.Common.{◌∷◌, [], ◌∙◌, refl, sym, subst, false}
use Rattle.std.specs.Prelude.{Err, is_some, Result}
use Rattle.gw_site.specs.Observed.{Grows}
use Rattle.gw_site.specs.Turns.{SentTillTurns}
use Rattle.gw_site.specs.declared.site.Failed.{Failed}
use Rattle.gw_site.specs.declared.turn.Turn.TheVariants.{SentTill}
use Rattle.gw_site.specs.Steps.{SendTillCall}
use Rattle.gw_script.specs.site.Hazards.{takes_most}
use Rattle.sim_site.specs.Hazards.{sends_value}
use Rattle.sim_site.specs.Sites.{observed_with}
use Rattle.sim_site.specs.declared.played.Played.{Played}
use Rattle.sim_site.proofs.SiteLemmas.{dark_there_grows, reported_grows, returned, short_there, till_cut, till_sent}
use Rattle.sim_site.proofs.site.SimSiteSite.send_till.Goals as goal

pub returns-then-is_dark-clause-turns : goal.returns-then-is_dark-clause-turns
returns-then-is_dark-clause-turns c =
    let s = c.args.self.now in
    dark_there_grows s.faults c.fail.new.self.faults s.played c.fail.new.self.played (SentTillTurns c.args.till c.args.bytes.now (Err c.fail.result)) (SentTill c.args.till [] false ∷ []) c.fail.ensures.played (sym c.is_dark.ensures.dark ∙ c.if-is_dark.true) ([], (c.args.bytes.now, refl), refl)

pub returns-clause-turns : goal.returns-clause-turns
returns-clause-turns c =
    let s = c.args.self.now in
    let most = takes_most (sends_value s.played.place.hazard.tills) c.args.till in
    subst (λ (p : Played). Grows (observed_with s.faults s.played) (observed_with c.report.new.self.faults p) (SentTillTurns c.args.till c.args.bytes.now c.report.result)) (sym c.report.ensures.played)
    (reported_grows (λ (r : Result (Unit {0}) Failed). SentTillTurns c.args.till c.args.bytes.now r) s.faults c.report.new.self.faults s.played c.send_till-made.new.self (SendTillCall c.args.till c.args.bytes.now) (is_some most) (SentTill c.args.till [] false ∷ []) c.send_till-made.result c.report.result (c.is_dark.ensures.lit c.if-is_dark.false)
    c.send_till-made.ensures.made c.send_till-made.ensures.fails c.send_till-made.ensures.refused c.send_till-made.ensures.same c.report.ensures.reported
    (λ e done. till_sent c.args.till c.args.bytes.now most done e) (λ e error. till_cut c.args.till c.args.bytes.now most error e) (λ error. ([], (c.args.bytes.now, refl), refl)))

pub returns-clause-result : goal.returns-clause-result
returns-clause-result c = λ lit.
    let s = c.args.self.now in
    returned s.played c.send_till-made.new.self c.report.new.self.played (SendTillCall c.args.till c.args.bytes.now) (is_some (takes_most (sends_value s.played.place.hazard.tills) c.args.till)) c.send_till-made.result c.report.result c.report.ensures.played c.send_till-made.ensures.made c.send_till-made.ensures.fails (short_there s.played c.send_till-made.new.self c.send_till-made.result c.send_till-made.ensures.refused) c.report.ensures.reported

pub returns-then-is_dark-clause-step : goal.returns-then-is_dark-clause-step
returns-then-is_dark-clause-step c =
    let s = c.args.self.now in
    dark_step s.faults c.fail.new.self.faults s.played c.fail.new.self.played (SendTillCall c.args.till c.args.bytes.now) (sym c.is_dark.ensures.dark ∙ c.if-is_dark.true) c.fail.ensures.played

pub returns-clause-step : goal.returns-clause-step
returns-clause-step c =
    let s = c.args.self.now in
    made_step s.faults c.report.new.self.faults s.played c.send_till-made.new.self c.report.new.self.played (SendTillCall c.args.till c.args.bytes.now) c.send_till-made.result c.report.ensures.played (c.is_dark.ensures.lit c.if-is_dark.false) c.send_till-made.ensures.made (short_there s.played c.send_till-made.new.self c.send_till-made.result c.send_till-made.ensures.refused)
