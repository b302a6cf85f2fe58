-- Proof of the contract of `read_at`.
use Rattle.sim_site.proofs.StepLemmas.{dark_step, made_step}
use Rattle.std.proofs.Common.{◌∷◌, [], ◌∙◌, refl, sym, ap, subst}
use Rattle.std.specs.Prelude.{if◌then◌else◌, length, Result, ◌||◌}
use Rattle.gw_site.specs.Observed.{Grows}
use Rattle.gw_site.specs.Turns.{DiskTurns}
use Rattle.gw_site.specs.Outside.{file_part, outside_of}
use Rattle.gw_site.specs.declared.site.Failed.{Failed}
use Rattle.gw_site.specs.declared.turn.Turn.TheVariants.{DiskFailed}
use Rattle.gw_site.specs.Steps.{ReadCall}
use Rattle.sim_site.specs.Sites.{observed_with}
use Rattle.sim_site.specs.declared.played.Played.{Played}
use Rattle.sim_site.proofs.SiteLemmas.{goes_on, looked, on_ok, reported_grows, returned, returned_err, returned_ok, short_there, some_same, was_made}
use Rattle.sim_site.proofs.site.SimSiteSite.read_at.Goals as goal

pub returns-in-Ok-clause-turns : goal.returns-in-Ok-clause-turns
returns-in-Ok-clause-turns c =
    let s = c.args.self.now in
    let all = subst (λ (p : Played). Grows (observed_with s.faults s.played) (observed_with c.report.new.self.faults p) (DiskTurns {T = Unit {0}} {E = Failed} c.report.result)) (sym c.report.ensures.played)
    (reported_grows (λ (r : Result (Unit {0}) Failed). DiskTurns r) s.faults c.report.new.self.faults s.played c.read-made.new.self (ReadCall c.args.offset (length c.args.buf.now)) s.played.place.hazard.read (DiskFailed ∷ []) c.read-made.result c.report.result (c.is_dark.ensures.lit c.if-is_dark.false)
    (on_ok c.read-made.result (λ made. made c.args.offset (length c.args.buf.now)) c.read-made.ensures.made) c.read-made.ensures.fails c.read-made.ensures.refused c.read-made.ensures.same c.report.ensures.reported
    (λ e done. ap (λ b. if b then DiskFailed ∷ [] else []) e) (λ e error. ap (λ b. if b then DiskFailed ∷ [] else []) e) (λ error. refl)) in
    subst (λ (r : Result (Unit {0}) Failed). Grows (observed_with s.faults s.played) (observed_with c.report.new.self.faults c.report.new.self.played) (DiskTurns r)) c.in-Ok.is all

pub returns-in-Ok-clause-call : goal.returns-in-Ok-clause-call
returns-in-Ok-clause-call c = λ lit whole.
    let s = c.args.self.now in
    goes_on s c.report.new.self c.read-made.new.self (ReadCall c.args.offset (length c.args.buf.now)) c.report.ensures.played (was_made s.played c.read-made.new.self (ReadCall c.args.offset (length c.args.buf.now)) c.read-made.result (on_ok c.read-made.result (λ made. made c.args.offset (length c.args.buf.now)) c.read-made.ensures.made) (short_there s.played c.read-made.new.self c.read-made.result c.read-made.ensures.refused) (ap (λ (p : Played). p.short) (sym c.report.ensures.played) ∙ whole))

pub returns-in-Err-clause-turns : goal.returns-in-Err-clause-turns
returns-in-Err-clause-turns c =
    let s = c.args.self.now in
    let all = subst (λ (p : Played). Grows (observed_with s.faults s.played) (observed_with c.report.new.self.faults p) (DiskTurns {T = Unit {0}} {E = Failed} c.report.result)) (sym c.report.ensures.played)
    (reported_grows (λ (r : Result (Unit {0}) Failed). DiskTurns r) s.faults c.report.new.self.faults s.played c.read-made.new.self (ReadCall c.args.offset (length c.args.buf.now)) s.played.place.hazard.read (DiskFailed ∷ []) c.read-made.result c.report.result (c.is_dark.ensures.lit c.if-is_dark.false)
    (on_ok c.read-made.result (λ made. made c.args.offset (length c.args.buf.now)) c.read-made.ensures.made) c.read-made.ensures.fails c.read-made.ensures.refused c.read-made.ensures.same c.report.ensures.reported
    (λ e done. ap (λ b. if b then DiskFailed ∷ [] else []) e) (λ e error. ap (λ b. if b then DiskFailed ∷ [] else []) e) (λ error. refl)) in
    subst (λ (r : Result (Unit {0}) Failed). Grows (observed_with s.faults s.played) (observed_with c.report.new.self.faults c.report.new.self.played) (DiskTurns r)) c.in-Err.is all

pub returns-in-Err-clause-call : goal.returns-in-Err-clause-call
returns-in-Err-clause-call c = λ lit whole.
    let s = c.args.self.now in
    goes_on s c.report.new.self c.read-made.new.self (ReadCall c.args.offset (length c.args.buf.now)) c.report.ensures.played (was_made s.played c.read-made.new.self (ReadCall c.args.offset (length c.args.buf.now)) c.read-made.result (on_ok c.read-made.result (λ made. made c.args.offset (length c.args.buf.now)) c.read-made.ensures.made) (short_there s.played c.read-made.new.self c.read-made.result c.read-made.ensures.refused) (ap (λ (p : Played). p.short) (sym c.report.ensures.played) ∙ whole))

pub returns-in-Ok-clause-bytes : goal.returns-in-Ok-clause-bytes
returns-in-Ok-clause-bytes c = λ log e.
    let s = c.args.self.now in
    let call = ReadCall c.args.offset (length c.args.buf.now) in
    let made = on_ok c.read-made.result (λ made. made c.args.offset (length c.args.buf.now)) c.read-made.ensures.made in
    let held = looked s.played c.read-made.new.self call s.played.place.hazard.read c.read-made.result c.report.result _ made c.read-made.ensures.fails c.report.ensures.reported c.in-Ok.is (λ f. ap (λ b. if b then DiskFailed ∷ [] else []) f) in
    c.read_part.ensures ∙ ap (λ file. file_part file c.args.offset (length c.args.buf.now)) (c.deref.ensures.value ∙ ap (λ (p : Played). p.disk.file.items) c.report.ensures.played ∙ sym held ∙ ap (λ l. (outside_of l).file) (some_same s.played.log log e))

pub returns-in-Ok-clause-result : goal.returns-in-Ok-clause-result
returns-in-Ok-clause-result c = λ lit.
    let s = c.args.self.now in
    returned_ok (s.played.place.hazard.read || c.report.new.self.played.short) c.report.result _ _ c.in-Ok.is (returned s.played c.read-made.new.self c.report.new.self.played (ReadCall c.args.offset (length c.args.buf.now)) (s.played.place.hazard.read) c.read-made.result c.report.result c.report.ensures.played (on_ok c.read-made.result (λ made. made c.args.offset (length c.args.buf.now)) c.read-made.ensures.made) c.read-made.ensures.fails (short_there s.played c.read-made.new.self c.read-made.result c.read-made.ensures.refused) c.report.ensures.reported)

pub returns-in-Err-clause-result : goal.returns-in-Err-clause-result
returns-in-Err-clause-result c = λ lit.
    let s = c.args.self.now in
    returned_err _ (s.played.place.hazard.read || c.report.new.self.played.short) c.report.result _ c.in-Err.is (returned s.played c.read-made.new.self c.report.new.self.played (ReadCall c.args.offset (length c.args.buf.now)) (s.played.place.hazard.read) c.read-made.result c.report.result c.report.ensures.played (on_ok c.read-made.result (λ made. made c.args.offset (length c.args.buf.now)) c.read-made.ensures.made) c.read-made.ensures.fails (short_there s.played c.read-made.new.self c.read-made.result c.read-made.ensures.refused) c.report.ensures.reported)

pub returns-then-is_dark-clause-step : goal.returns-then-is_dark-clause-step
returns-then-is_dark-clause-step c =
    let s = c.args.self.now in
    dark_step s.faults c.fail.new.self.faults s.played c.fail.new.self.played (ReadCall c.args.offset (length c.args.buf.now)) (sym c.is_dark.ensures.dark ∙ c.if-is_dark.true) c.fail.ensures.played

pub returns-in-Ok-clause-step : goal.returns-in-Ok-clause-step
returns-in-Ok-clause-step c =
    let s = c.args.self.now in
    made_step s.faults c.report.new.self.faults s.played c.read-made.new.self c.report.new.self.played (ReadCall c.args.offset (length c.args.buf.now)) c.read-made.result c.report.ensures.played (c.is_dark.ensures.lit c.if-is_dark.false) (on_ok c.read-made.result (λ made. made c.args.offset (length c.args.buf.now)) c.read-made.ensures.made) (short_there s.played c.read-made.new.self c.read-made.result c.read-made.ensures.refused)

pub returns-in-Err-clause-step : goal.returns-in-Err-clause-step
returns-in-Err-clause-step c =
    let s = c.args.self.now in
    made_step s.faults c.report.new.self.faults s.played c.read-made.new.self c.report.new.self.played (ReadCall c.args.offset (length c.args.buf.now)) c.read-made.result c.report.ensures.played (c.is_dark.ensures.lit c.if-is_dark.false) (on_ok c.read-made.result (λ made. made c.args.offset (length c.args.buf.now)) c.read-made.ensures.made) (short_there s.played c.read-made.new.self c.read-made.result c.read-made.ensures.refused)
