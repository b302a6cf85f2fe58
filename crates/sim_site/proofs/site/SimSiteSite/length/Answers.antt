-- Proof of the contract of `length`.
use Rattle.sim_site.proofs.StepLemmas.{dark_step, made_step}
use Rattle.std.proofs.Common.{◌∷◌, [], ◌∙◌, refl, sym, ap, subst}
use Rattle.sim_site.proofs.SiteLemmas.{goes_on, reported_grows, returned, returned_ok, returned_err, short_there, was_made}
use Rattle.gw_site.specs.Steps.{LengthCall}
use Rattle.std.specs.Prelude.{if◌then◌else◌, Result, ◌||◌}
use Rattle.gw_site.specs.Observed.{Grows}
use Rattle.gw_site.specs.Turns.{DiskTurns}
use Rattle.gw_site.specs.declared.site.Failed.{Failed}
use Rattle.gw_site.specs.declared.turn.Turn.TheVariants.{DiskFailed}
use Rattle.sim_site.specs.Sites.{observed_with}
use Rattle.sim_site.specs.declared.played.Played.{Played}
use Rattle.sim_site.proofs.site.SimSiteSite.length.Goals as goal

pub returns-in-Ok-clause-result : goal.returns-in-Ok-clause-result
returns-in-Ok-clause-result c = λ lit.
    let s = c.args.self.now in
    returned_ok (s.played.place.hazard.length || c.report.new.self.played.short) c.report.result _ _ c.in-Ok.is (returned s.played c.length-made.new.self c.report.new.self.played (LengthCall) (s.played.place.hazard.length) c.length-made.result c.report.result c.report.ensures.played c.length-made.ensures.made c.length-made.ensures.fails (short_there s.played c.length-made.new.self c.length-made.result c.length-made.ensures.refused) c.report.ensures.reported)

pub returns-in-Err-clause-result : goal.returns-in-Err-clause-result
returns-in-Err-clause-result c = λ lit.
    let s = c.args.self.now in
    returned_err _ (s.played.place.hazard.length || c.report.new.self.played.short) c.report.result _ c.in-Err.is (returned s.played c.length-made.new.self c.report.new.self.played (LengthCall) (s.played.place.hazard.length) c.length-made.result c.report.result c.report.ensures.played c.length-made.ensures.made c.length-made.ensures.fails (short_there s.played c.length-made.new.self c.length-made.result c.length-made.ensures.refused) c.report.ensures.reported)

pub returns-then-is_dark-clause-step : goal.returns-then-is_dark-clause-step
returns-then-is_dark-clause-step c =
    let s = c.args.self.now in
    dark_step s.faults c.fail.new.self.faults s.played c.fail.new.self.played (LengthCall) (sym c.is_dark.ensures.dark ∙ c.if-is_dark.true) c.fail.ensures.played

pub returns-in-Ok-clause-step : goal.returns-in-Ok-clause-step
returns-in-Ok-clause-step c =
    let s = c.args.self.now in
    made_step s.faults c.report.new.self.faults s.played c.length-made.new.self c.report.new.self.played (LengthCall) c.length-made.result c.report.ensures.played (c.is_dark.ensures.lit c.if-is_dark.false) c.length-made.ensures.made (short_there s.played c.length-made.new.self c.length-made.result c.length-made.ensures.refused)

pub returns-in-Err-clause-step : goal.returns-in-Err-clause-step
returns-in-Err-clause-step c =
    let s = c.args.self.now in
    made_step s.faults c.report.new.self.faults s.played c.length-made.new.self c.report.new.self.played (LengthCall) c.length-made.result c.report.ensures.played (c.is_dark.ensures.lit c.if-is_dark.false) c.length-made.ensures.made (short_there s.played c.length-made.new.self c.length-made.result c.length-made.ensures.refused)

pub returns-in-Ok-clause-turns : goal.returns-in-Ok-clause-turns
returns-in-Ok-clause-turns c =
    let s = c.args.self.now in
    let all = subst (λ (p : Played). Grows (observed_with s.faults s.played) (observed_with c.report.new.self.faults p) (DiskTurns {T = Unit {0}} {E = Failed} c.report.result)) (sym c.report.ensures.played)
    (reported_grows (λ (r : Result (Unit {0}) Failed). DiskTurns r) s.faults c.report.new.self.faults s.played c.length-made.new.self LengthCall s.played.place.hazard.length (DiskFailed ∷ []) c.length-made.result c.report.result (c.is_dark.ensures.lit c.if-is_dark.false)
    c.length-made.ensures.made c.length-made.ensures.fails c.length-made.ensures.refused c.length-made.ensures.same c.report.ensures.reported
    (λ e done. ap (λ b. if b then DiskFailed ∷ [] else []) e) (λ e error. ap (λ b. if b then DiskFailed ∷ [] else []) e) (λ error. refl)) in
    subst (λ (r : Result (Unit {0}) Failed). Grows (observed_with s.faults s.played) (observed_with c.report.new.self.faults c.report.new.self.played) (DiskTurns r)) c.in-Ok.is all

pub returns-in-Ok-clause-call : goal.returns-in-Ok-clause-call
returns-in-Ok-clause-call c = λ lit whole.
    let s = c.args.self.now in
    goes_on s c.report.new.self c.length-made.new.self LengthCall c.report.ensures.played (was_made s.played c.length-made.new.self LengthCall c.length-made.result c.length-made.ensures.made (short_there s.played c.length-made.new.self c.length-made.result c.length-made.ensures.refused) (ap (λ (p : Played). p.short) (sym c.report.ensures.played) ∙ whole))

pub returns-in-Err-clause-turns : goal.returns-in-Err-clause-turns
returns-in-Err-clause-turns c =
    let s = c.args.self.now in
    let all = subst (λ (p : Played). Grows (observed_with s.faults s.played) (observed_with c.report.new.self.faults p) (DiskTurns {T = Unit {0}} {E = Failed} c.report.result)) (sym c.report.ensures.played)
    (reported_grows (λ (r : Result (Unit {0}) Failed). DiskTurns r) s.faults c.report.new.self.faults s.played c.length-made.new.self LengthCall s.played.place.hazard.length (DiskFailed ∷ []) c.length-made.result c.report.result (c.is_dark.ensures.lit c.if-is_dark.false)
    c.length-made.ensures.made c.length-made.ensures.fails c.length-made.ensures.refused c.length-made.ensures.same c.report.ensures.reported
    (λ e done. ap (λ b. if b then DiskFailed ∷ [] else []) e) (λ e error. ap (λ b. if b then DiskFailed ∷ [] else []) e) (λ error. refl)) in
    subst (λ (r : Result (Unit {0}) Failed). Grows (observed_with s.faults s.played) (observed_with c.report.new.self.faults c.report.new.self.played) (DiskTurns r)) c.in-Err.is all

pub returns-in-Err-clause-call : goal.returns-in-Err-clause-call
returns-in-Err-clause-call c = λ lit whole.
    let s = c.args.self.now in
    goes_on s c.report.new.self c.length-made.new.self LengthCall c.report.ensures.played (was_made s.played c.length-made.new.self LengthCall c.length-made.result c.length-made.ensures.made (short_there s.played c.length-made.new.self c.length-made.result c.length-made.ensures.refused) (ap (λ (p : Played). p.short) (sym c.report.ensures.played) ∙ whole))
