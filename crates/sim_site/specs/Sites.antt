-- What can be said of a site in memory.
use Rattle.std.specs.Prelude.{◌≡◌, ℕ, Bool, false, not, ◌&&◌, if◌then◌else◌, List, [], ◌∷◌, ◌++◌, Option, Some, None, Ok, is_some, true, ◌||◌, Result, IsOk, IsErr}
use Rattle.gw_bytes.specs.Bytes.{AreBytes}
use Rattle.gw_base.specs.declared.setup.Setup.{Setup}
use Rattle.gw_site.specs.Failures.{HasCause, faults_after}
use Rattle.gw_site.specs.Image.{Image}
use Rattle.gw_site.specs.Observed.{Observed}
use Rattle.gw_site.specs.Outside.{Outside, outside_of}
use Rattle.gw_site.specs.declared.turn.Turn.{Turn}
use Rattle.gw_site.specs.declared.turn.Turn.TheVariants.{Crash}
use Rattle.gw_site.specs.Steps.{SiteCall, ImageKind, Plan, PowerBack, SiteStep, Takes}
use Rattle.gw_script.specs.site.Calls.{IsPlayedTo, call_turns, place_after}
use Rattle.gw_script.specs.site.Decode.{script_of}
use Rattle.gw_script.specs.site.Drill.{drill_given, drill_lines, drill_origin, drill_payments, drill_terminals}
use Rattle.gw_script.specs.site.Hazards.{crash_file}
use Rattle.gw_script.specs.site.Playing.{Play, PlaysLines, restarted}
use Rattle.gw_script.specs.site.ScriptLine.{Script, setup_of}
use Rattle.gw_script.specs.site.StepTurns.{turns_by}
use Rattle.pt_core.specs.Serving.{TerminalValue}
use Rattle.sim_script.specs.Values.{whole_script_value}
use Rattle.sim_site.specs.Dark.{is_dark}
use Rattle.sim_site.specs.Places.{place_value}
use Rattle.sim_site.specs.Sources.{source_origin, source_terminals}
use Rattle.sim_site.specs.Steps.{HasPart, IsPlayedWith}
use Rattle.sim_site.specs.declared.played.Played.{Played}
use Rattle.sim_site.specs.declared.site.SimSite.{SimSite}

-- the origin of a site on which something happened beside the script: a text that no script has
abbrev pub origin_beside : List ℕ
origin_beside = 255 ∷ []

-- what determines what is played: the text or the numbers of the drill, unless the power was set to fail or a file was put on the disk beside it
abbrev pub origin_of : Played → List ℕ
origin_of played = if played.scripted then source_origin played.drill played.text.value else origin_beside

-- the turns of each of further steps after this log, from this place on; none are known where the log could not grow
abbrev pub plan_from : Bool → List Turn → Play → Option Plan
plan_from true log place = None
plan_from false log place = Some (turns_by log place)

-- the turns of each of further steps
abbrev pub plan_of : Played → Option Plan
plan_of played = plan_from played.short played.log (place_value played.script.lines.items played.place)

-- the log that has played the script, how often a call has failed, whether the site is dark, what determines what is played, and the turns of further steps
abbrev pub observed_with : ℕ → Played → Observed
observed_with faults played = record { log = Some played.log; faults = faults; dark = is_dark played; origin = origin_of played; plan = plan_of played }

-- what a proof observes of a site
abbrev pub sim_observed : SimSite → Observed
sim_observed site = observed_with site.faults site.played

-- the log
abbrev pub log_of : SimSite → List Turn
log_of site = site.played.log

-- what the log says of the outside
abbrev pub outside_there : SimSite → Outside
outside_there site = outside_of site.played.log

-- the script that is played
abbrev pub played_script : SimSite → Script
played_script site = whole_script_value site.played.script

-- how far it is played
abbrev pub place_of : SimSite → Play
place_of site = place_value site.played.script.lines.items site.played.place

-- the terminals that are played, before the first turn; none where a text is
abbrev pub first_terminals : SimSite → List TerminalValue
first_terminals site = source_terminals site.played.drill

-- the log could not grow
abbrev pub is_log_full : SimSite → Bool
is_log_full site = site.played.short

-- the site is dark by a power failure
abbrev pub is_crashed : SimSite → Bool
is_crashed site = not site.played.short && is_some site.played.place.off

-- the call was made as the script says: the log has its turns, and the script is played as far as after it
pub record GoesOn (old new : SimSite) (call : SiteCall) : Type 0 where
  pub turns : log_of new ≡ log_of old ++ call_turns (outside_there old) (place_of old) call
  pub place : place_of new ≡ place_after (outside_there old) (place_of old) call

-- so it was, where the site wasn't dark and its log could grow
abbrev pub IsCalled : SimSite → SimSite → SiteCall → Type 0
IsCalled old new call = (sim_observed old).dark ≡ false → is_log_full new ≡ false → GoesOn old new call

-- a failure, or Ok
abbrev pub IsReturned : {T E : Type 0} → Bool → Result T E → Type 0
IsReturned true result = IsErr result
IsReturned false result = IsOk result

-- what a call returns on a site that wasn't dark: a failure exactly where it is to fail or the log could not grow; else Ok, also where the power fails with it
abbrev pub IsResult : {T E : Type 0} → SimSite → SimSite → Bool → Result T E → Type 0
IsResult old new fails result = (sim_observed old).dark ≡ false → IsReturned (fails || is_log_full new) result

-- the count of failures has a cause, and is one more exactly where the call has failed
pub record IsCounted {T E : Type 0} (before now : ℕ) (result : Result T E) : Type 0 where
  pub cause : HasCause before now result
  pub exact : now ≡ faults_after before result

-- nothing was played, and nothing appended
pub record IsStill (old new : SimSite) : Type 0 where
  pub log : log_of new ≡ log_of old
  pub place : place_of new ≡ place_of old
  pub full : is_log_full new ≡ is_log_full old

-- the step was taken, and these are its turns
abbrev pub TakesStep : SimSite → SimSite → SiteStep → List Turn → Type 0
TakesStep old new step turns = Takes (sim_observed old).plan (sim_observed new).plan (record { step = step; turns = turns } ∷ [])

-- the power is there again: the log has its failure with the image that the script says, and the script goes on in the next run
pub record IsRestarted (old new : SimSite) : Type 0 where
  pub kind : ImageKind
  pub failed : (place_of old).off ≡ Some kind
  pub log : log_of new ≡ log_of old ++ Crash (crash_file kind (outside_there old)) ∷ []
  pub image : Image (outside_there old) (crash_file kind (outside_there old))
  pub bytes : AreBytes (crash_file kind (outside_there old))
  pub place : place_of new ≡ restarted (place_of old)
  pub lit : (sim_observed new).dark ≡ false
  pub short : is_log_full new ≡ false
  pub taken : TakesStep old new PowerBack (Crash (crash_file kind (outside_there old)) ∷ [])
  pub script : played_script new ≡ played_script old
  pub terminals : first_terminals new ≡ first_terminals old
  pub origin : (sim_observed new).origin ≡ (sim_observed old).origin

-- all is as it was
pub record IsSame (old new : SimSite) : Type 0 where
  pub observed : sim_observed new ≡ sim_observed old
  pub place : place_of new ≡ place_of old
  pub script : played_script new ≡ played_script old
  pub terminals : first_terminals new ≡ first_terminals old

-- the log plays the script of the text that determines what is played
abbrev pub PlaysOrigin : List ℕ → List Turn → Type 0
PlaysOrigin origin log = (script : Script) → script_of origin ≡ Ok script → ∥ PlaysLines script.lines log ∥₁

-- some calls and power failures have this log, and lead to this place of the script of the text that determines what is played
abbrev pub IsOriginPlayedTo : List ℕ → List Turn → Play → Type 0
IsOriginPlayedTo origin log place = (script : Script) → script_of origin ≡ Ok script → ∥ IsPlayedTo script.lines log place ∥₁

-- some calls and power failures have this log, and lead to this place of the drill whose numbers determine what is played
abbrev pub IsDrillPlayedTo : List ℕ → List Turn → Play → Type 0
IsDrillPlayedTo origin log place = (from payments : ℕ) → origin ≡ drill_origin from payments → ∥ IsPlayedWith (drill_terminals (drill_payments from payments)) (drill_lines (drill_payments from payments)) log place ∥₁

-- the log is a prefix of one that some calls and power failures have in that drill
abbrev pub IsDrillPart : List ℕ → List Turn → Type 0
IsDrillPart origin log = (from payments : ℕ) → origin ≡ drill_origin from payments → ∥ HasPart true (drill_terminals (drill_payments from payments)) (drill_lines (drill_payments from payments)) log ∥₁

-- the setup is that of a drill, if one is played
abbrev pub IsDrillSetup : List ℕ → Setup → Type 0
IsDrillSetup origin setup = (from payments : ℕ) → origin ≡ drill_origin from payments → setup ≡ setup_of drill_given

-- the setup is the one that the script of the text gives which determines what is played
abbrev pub IsOriginSetup : List ℕ → Setup → Type 0
IsOriginSetup origin setup = (script : Script) → script_of origin ≡ Ok script → setup ≡ setup_of script.given
