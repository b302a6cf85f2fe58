-- Inner: what a call on a site that plays a script leaves.
use Rattle.std.specs.Prelude.{◌≡◌, ◌⊎◌, ℕ, Bool, true, false, List, [], ◌∷◌, ◌++◌, Option, Some, None, IsSome, Result, Ok, Err, IsOk, IsErr}
use Rattle.std.specs.Option.{option_to_list}
use Rattle.gw_site.specs.Outside.{Outside, outside_of}
use Rattle.gw_site.specs.Turns.{IsPromised, IsWithinBuf, event_turns}
use Rattle.gw_site.specs.declared.site.What.{What}
use Rattle.gw_site.specs.declared.site.What.TheVariants.{Stopped}
use Rattle.gw_site.specs.declared.turn.Turn.TheVariants.{Polled, Wrote}
use Rattle.gw_site.specs.Steps.{SiteCall}
use Rattle.gw_script.specs.site.Calls.{call_turns, place_after}
use Rattle.gw_script.specs.site.Playing.{Play, after_poll, begins_with}
use Rattle.sim_site.specs.Sources.{source_terminals}
use Rattle.sim_script.specs.Values.{lines_value}
use Rattle.sim_script.specs.declared.line.ScriptLine.{ScriptLine}
use Rattle.sim_site.specs.Connected.{HasConnections, IsFollowed}
use Rattle.sim_site.specs.Places.{place_value}
use Rattle.sim_site.specs.declared.brought.Brought.{Brought}
use Rattle.sim_site.specs.declared.connections.Connections.{Connections}
use Rattle.sim_site.specs.declared.drill.Drill.{Drill}
use Rattle.sim_site.specs.declared.place.Place.{Place}
use Rattle.sim_site.specs.declared.played.Played.{Played}

-- how far the script is played
abbrev pub play_at : Played → Play
play_at played = place_value played.script.lines.items played.place

-- what the log says of the outside
abbrev pub outside_at : Played → Outside
outside_at played = outside_of played.log

-- a call may be made: the log could grow so far, and the power is there
pub record IsLit (played : Played) : Type 0 where
  pub whole : played.short ≡ false
  pub power : played.place.off ≡ None

-- what is played is the same
pub record IsSameScript (old new : Played) : Type 0 where
  pub text : new.text.value ≡ old.text.value
  pub script : new.script ≡ old.script
  pub scripted : new.scripted ≡ old.scripted
  pub drill : new.drill ≡ old.drill

-- the call was made: the log has its turns, and the script is played as far as after it
pub record IsCallMade (old new : Played) (call : SiteCall) : Type 0 where
  pub whole : new.short ≡ false
  pub log : new.log ≡ old.log ++ call_turns (outside_at old) (play_at old) call
  pub place : play_at new ≡ place_after (outside_at old) (play_at old) call

-- memory was refused: the log has no turn more
pub record IsRefused (old new : Played) : Type 0 where
  pub short : new.short ≡ true
  pub log : new.log ≡ old.log

-- nothing has changed
pub record IsUnchanged (old new : Played) : Type 0 where
  pub text : new.text.value ≡ old.text.value
  pub script : new.script ≡ old.script
  pub scripted : new.scripted ≡ old.scripted
  pub drill : new.drill ≡ old.drill
  pub place : new.place ≡ old.place
  pub log : new.log ≡ old.log
  pub short : new.short ≡ old.short

-- nothing is played yet
pub record IsUnplayed (text : List ℕ) (drill : Option Drill) (played : Played) : Type 0 where
  pub text_is : played.text.value ≡ text
  pub scripted : played.scripted ≡ true
  pub drill_is : played.drill ≡ drill
  pub whole : played.short ≡ false
  pub power : played.place.off ≡ None
  pub log : played.log ≡ []
  pub place : play_at played ≡ begins_with (source_terminals drill) (lines_value played.script.lines.items)

-- the poll has brought this: its turn, its bytes in the buffer, and as promised
pub record HasBrought (lines : List ScriptLine) (old new : Place) (before after : Connections) (buf : List ℕ) (brought : Brought) : Type 0 where
  pub power : new.off ≡ None
  pub place : (o : Outside) → HasConnections o before → after_poll o (place_value lines old) ≡ record (place_value lines new) { due = option_to_list brought.turn }
  pub what : event_turns brought.what buf ≡ option_to_list brought.turn
  pub followed : IsFollowed before after brought.what
  pub count : IsWithinBuf brought.what
  pub promise : (o : Outside) → HasConnections o before → IsPromised o brought.what

-- the poll has reached a power failure
pub record HasFallen (lines : List ScriptLine) (old new : Place) (before after : Connections) : Type 0 where
  pub power : IsSome new.off
  pub place : (o : Outside) → HasConnections o before → after_poll o (place_value lines old) ≡ place_value lines new
  pub connections : after ≡ before

-- the poll has brought something, or has reached a power failure
abbrev pub EndsPoll : List ScriptLine → Place → Place → Connections → Connections → List ℕ → Option Brought → Type 0
EndsPoll lines old new before after buf None = HasFallen lines old new before after
EndsPoll lines old new before after buf (Some brought) = HasBrought lines old new before after buf brought

-- a poll was made: the log has its turn and that of what it brings, or the power has failed and it brings the stop
abbrev pub IsPollMade : Played → Played → What → List ℕ → Type 0
IsPollMade old new what buf = ((new.place.off ≡ None) × (new.log ≡ old.log ++ Polled new.place.moment ∷ event_turns what buf)) ⊎ (IsSome new.place.off × (new.log ≡ old.log) × (what ≡ Stopped))

-- memory was refused: the log has at most the turn of the poll more
abbrev pub IsPollRefused : Played → Played → Type 0
IsPollRefused old new = (new.log ≡ old.log) ⊎ (new.log ≡ old.log ++ Polled new.place.moment ∷ [])

-- memory was refused: the log has at most the turn of the write more
abbrev pub IsWriteRefused : Played → Played → ℕ → List ℕ → Type 0
IsWriteRefused old new offset bytes = (new.log ≡ old.log) ⊎ (new.log ≡ old.log ++ Wrote offset bytes ∷ [])

-- a call that fails, or for which memory was refused, is reported as failed, and any other as done
abbrev pub IsCallReported : {E T F : Type 0} → Result Bool E → Result T F → Type 0
IsCallReported (Ok true) result = IsErr result
IsCallReported (Ok false) result = IsOk result
IsCallReported (Err error) result = IsErr result
