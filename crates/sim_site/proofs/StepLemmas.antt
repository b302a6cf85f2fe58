-- Each call on the site, and whatever happens to it beside, is a step of what it plays.
use Rattle.std.proofs.Common.{◌≡◌, ℕ, List, [], ◌∷◌, ◌++◌, refl, sym, ◌∙◌, ap, subst, true, false, append-nil}
use Rattle.std.proofs.lemmas.List.{append_cancel_left}
use Rattle.std.specs.Prelude.{Bool, not, ◌&&◌, Some, None, Result, Ok, Err, OnOk, OnErr, option_map}
use Rattle.gw_bytes.specs.Bytes.{AreBytes}
use Rattle.gw_site.specs.Image.{Image}
use Rattle.gw_site.specs.Observed.{IsStep, TakesCall}
use Rattle.gw_site.specs.Outside.{outside_of}
use Rattle.gw_site.specs.Steps.{Plan, SiteCall, SiteStep, Made, PowerBack, StopAfter, Holding, ImageKind, Old, New, Junk, Takes}
use Rattle.gw_site.specs.declared.turn.Turn.{Turn}
use Rattle.gw_site.specs.declared.turn.Turn.TheVariants.{Crash}
use Rattle.gw_script.specs.site.Calls.{call_turns, set_to_fail}
use Rattle.gw_script.specs.site.Hazards.{crash_file}
use Rattle.gw_script.specs.site.Playing.{Play, restarted}
use Rattle.gw_script.specs.site.StepTurns.{StepFits, place_after_step, turns_by}
use Rattle.gw_site.proofs.ImageLemmas.{file_image, junk_image, stable_image}
use Rattle.gw_script.proofs.site.StepTurnLemmas.{first-has-its-turns}
use Rattle.sim_script.specs.Values.{image_value, whole_script_value}
use Rattle.sim_script.specs.declared.line.ImageKind.{ImageKind as ReadImageKind}
use Rattle.sim_script.specs.declared.line.Script.{Script as ReadScript}
use Rattle.sim_site.specs.Dark.{is_dark}
use Rattle.sim_site.specs.Made.{IsLit, IsCallMade, IsSameScript, outside_at, play_at}
use Rattle.sim_site.specs.Places.{place_value}
use Rattle.sim_site.specs.Sites.{IsRestarted, observed_with, plan_from, plan_of}
use Rattle.sim_site.specs.Sources.{source_terminals}
use Rattle.sim_site.specs.declared.played.Played.{Played}
use Rattle.sim_site.specs.declared.site.SimSite.{SimSite}
use Rattle.sim_site.proofs.PlayedLemmas.{idle_there}
use Rattle.sim_site.proofs.SiteLemmas.{lit_there, origin_same, was_made}

-- ---- one step

-- the step was taken with these turns
pub record Went (old new : Played) (step : SiteStep) (turns : List Turn) : Type 0 where
  whole : old.short ≡ false
  fits : StepFits old.log (play_at old) step turns
  log : new.log ≡ old.log ++ turns
  place : play_at new ≡ place_after_step old.log (play_at old) step

plan_same : (a b : Plan) → Some a ≡ Some b → a ≡ b
plan_same a b e = cc

known : (short : Bool) (log : List Turn) (place : Play) (later : Plan) → plan_from short log place ≡ Some later → (short ≡ false) × (turns_by log place ≡ later)
known true log place later e = absurd (let h : None ≡ Some later = e in cc)
known false log place later e = (refl, plan_same (turns_by log place) later e)

-- a step that was taken where the log could grow: where it couldn't, no turns are known after it
pub step_taken : (old new : Played) (step : SiteStep) (turns : List Turn) → (new.short ≡ false → Went old new step turns) → Takes (plan_of old) (plan_of new) (record { step = step; turns = turns } ∷ [])
step_taken old new step turns goes = λ later e.
    let (short, is) = known new.short new.log (play_at new) later e in
    let went = goes short in
    let p = play_at old in (
      turns_by old.log p,
      ap (λ s. plan_from s old.log p) went.whole,
      λ more. first-has-its-turns.taken old.log p step turns more went.fits
          ∙ ap (λ log. turns ∷ turns_by log (place_after_step old.log p step) more) (sym went.log)
          ∙ ap (λ place. turns ∷ turns_by new.log place more) (sym went.place)
          ∙ ap (λ (plan : Plan). turns ∷ plan more) is,
    )

-- ---- calls

log_same : (a b : List Turn) → Some a ≡ Some b → a ≡ b
log_same a b e = cc

-- a call on a site that isn't dark, unless its log could not grow
pub call_step : (f g : ℕ) (old new : Played) (call : SiteCall) → IsLit old → (new.short ≡ false → IsCallMade old new call) → IsStep (observed_with f old) (observed_with g new) call
call_step f g old new call lit made = subst (λ dark. TakesCall dark (observed_with f old) (observed_with g new) call) (sym (lit_there old lit)) (λ before added was is.
    step_taken old new (Made call) added (λ whole.
    let m = made whole in
    let turns = call_turns (outside_at old) (play_at old) call in
    let grown : new.log ≡ old.log ++ added = log_same new.log (before ++ added) is ∙ ap (λ log. log ++ added) (sym (log_same old.log before was)) in
    let same : added ≡ turns = append_cancel_left old.log added turns (sym grown ∙ m.log) in
    record { whole = lit.whole; fits = (idle_there old.script.lines.items old.place lit.power, same); log = grown; place = m.place }))

-- a call on a dark site takes no step
pub dark_step : (f g : ℕ) (old new : Played) (call : SiteCall) → is_dark old ≡ true → new ≡ old → IsStep (observed_with f old) (observed_with g new) call
dark_step f g old new call dark same = subst (λ d. TakesCall d (observed_with f old) (observed_with g new) call) (sym dark) (λ later e. (later, ap plan_of (sym same) ∙ e, λ more. refl))

-- a call that was made, or for which memory was refused
pub made_step : {A E : Type 0} (f g : ℕ) (old new last : Played) (call : SiteCall) (made : Result A E) → last ≡ new → IsLit old → OnOk made (IsCallMade old new call) → OnErr made (new.short ≡ true) → IsStep (observed_with f old) (observed_with g last) call
made_step f g old new last call made same lit went refused = subst (λ (p : Played). IsStep (observed_with f old) (observed_with g p) call) (sym same) (call_step f g old new call lit (λ whole. was_made old new call made went refused whole))

-- ---- the power, and what happens beside the script

pub image_there : (kind : ImageKind) (log : List Turn) → Image (outside_of log) (crash_file kind (outside_of log))
image_there Old log = stable_image log
image_there New log = file_image log
image_there (Junk byte) log = junk_image byte log

pub restarted_there : {E : Type 0} (result : Result (Unit {0}) E) (old new : SimSite) (kind : ReadImageKind) → old.played.short ≡ false → old.played.place.off ≡ Some kind → OnOk result (new.played.log ≡ old.played.log ++ Crash (crash_file (image_value kind) (outside_at old.played)) ∷ []) →
    OnOk result (AreBytes (crash_file (image_value kind) (outside_at old.played))) → OnOk result (play_at new.played ≡ restarted (play_at old.played)) → OnOk result (new.played.place.off ≡ None) → new.played.short ≡ false → IsSameScript old.played new.played → OnOk result (IsRestarted old new)
restarted_there (Ok done) old new kind lit off log bytes place power whole same = record {
  kind = image_value kind;
  failed = ap (option_map image_value) off;
  log = log;
  image = image_there (image_value kind) old.played.log;
  bytes = bytes;
  place = place;
  lit = lit_there new.played (record { whole = whole; power = power });
  short = whole;
  taken = step_taken old.played new.played PowerBack (Crash (crash_file (image_value kind) (outside_at old.played)) ∷ []) (λ short. record { whole = lit; fits = (image_value kind, ap (option_map image_value) off, refl); log = log; place = place });
  script = ap whole_script_value same.script;
  terminals = ap source_terminals same.drill;
  origin = origin_same old.played new.played same;
}
restarted_there (Err error) old new kind lit off log bytes place power whole same = tt

-- the log of a site that is dark by a power failure could grow
pub crashed_whole : (short off : Bool) → (not short && off) ≡ true → short ≡ false
crashed_whole true off e = absurd (let h : false ≡ true = e in cc)
crashed_whole false off e = refl

-- a file was put on the disk
pub held_step : {E : Type 0} (result : Result (Unit {0}) E) (old new : Played) (file : List ℕ) → old.log ≡ [] → OnOk result (new.log ≡ old.log ++ Crash file ∷ []) → OnOk result (new.place ≡ old.place) → new.short ≡ old.short → new.script ≡ old.script →
    OnOk result (Takes (plan_of old) (plan_of new) (record { step = Holding file; turns = Crash file ∷ [] } ∷ []))
held_step (Ok done) old new file none log place short script = step_taken old new (Holding file) (Crash file ∷ []) (λ whole. record { whole = sym short ∙ whole; fits = (none, refl); log = log; place = ap (λ (s : ReadScript). place_value s.lines.items new.place) script ∙ ap (place_value old.script.lines.items) place })
held_step (Err error) old new file none log place short script = tt

-- the power was set to fail
pub stopped_step : (old new : Played) (calls : ℕ) (kind : ImageKind) → new.log ≡ old.log → new.short ≡ old.short → play_at new ≡ set_to_fail calls kind (play_at old) → Takes (plan_of old) (plan_of new) (record { step = StopAfter calls kind; turns = [] } ∷ [])
stopped_step old new calls kind log short place = step_taken old new (StopAfter calls kind) [] (λ whole. record { whole = sym short ∙ whole; fits = refl; log = log ∙ sym (append-nil old.log); place = place })
