-- Inner: what a poll passes, and at which line it ends.
use Rattle.std.specs.Prelude.{◌≡◌, Bool, true, false, List, [], ◌∷◌, Option, Some, None, option_map}
use Rattle.gw_site.specs.Outside.{Outside}
use Rattle.gw_site.specs.declared.turn.Turn.{Turn}
use Rattle.gw_site.specs.declared.turn.Turn.TheVariants.{Stopped}
use Rattle.gw_script.specs.site.Playing.{Play, brings, met}
use Rattle.gw_script.specs.site.ScriptLine.{PlayedLine, At, Poll, Fail, Power, ForgetPower}
use Rattle.sim_script.specs.Values.{image_value}
use Rattle.sim_site.specs.declared.place.Place.{Place}
use Rattle.sim_site.specs.Hazards.{hazard_value}
use Rattle.sim_site.specs.Peering.{peers_value}
use Rattle.sim_site.specs.Places.{left}

-- the place without its lines
abbrev pub bare : Place → Play
bare place = record { lines = []; moment = place.moment; due = []; hazard = hazard_value place.hazard; failing = false; off = option_map image_value place.off; peers = peers_value place.peers }

-- what is due where a poll ends at the line: its event, or nothing where the power fails at once
abbrev pub line_due : PlayedLine → List Turn
line_due (At now) = []
line_due (Poll event) = brings event
line_due (Fail failing) = []
line_due (Power calls kind) = []
line_due ForgetPower = []

-- what is due where a poll ends at the line, or after the last one
abbrev pub met_due : Option PlayedLine → List Turn
met_due None = Stopped ∷ []
met_due (Some line) = line_due line

-- a poll goes on after the line, or ends at it
abbrev pub Passes : Outside → Bool → Place → Place → PlayedLine → Type 0
Passes o true old new line = (lines : List PlayedLine) → met o (bare old) (left old.early (line ∷ lines)) ≡ record (bare new) { lines = left new.early lines; due = line_due line }
Passes o false old new line = (lines : List PlayedLine) → met o (bare old) (left old.early (line ∷ lines)) ≡ met o (bare new) (left new.early lines)
