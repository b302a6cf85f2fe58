-- How far a site has played its script.
use Rattle.std.specs.Prelude.{◌≡◌, Bool, true, false, List, [], drop, option_map}
use Rattle.gw_site.specs.Outside.{Outside}
use Rattle.gw_site.specs.Steps.{SiteCall}
use Rattle.gw_script.specs.site.Playing.{Play, early_lines}
use Rattle.gw_script.specs.site.ScriptLine.{PlayedLine}
use Rattle.gw_script.specs.site.Calls.{place_after}
use Rattle.sim_script.specs.declared.line.ScriptLine.{ScriptLine}
use Rattle.sim_script.specs.Values.{image_value, lines_value}
use Rattle.sim_site.specs.declared.place.Place.{Place}
use Rattle.sim_site.specs.Hazards.{hazard_value}
use Rattle.sim_site.specs.Peering.{peers_value}

-- the lines that are left of these: before the first that polls, without fail lines that took effect before the first run
abbrev pub left : Bool → List PlayedLine → List PlayedLine
left true lines = early_lines lines
left false lines = lines

-- the place in these lines, between two calls
abbrev pub place_value : List ScriptLine → Place → Play
place_value lines place = record {
  lines = left place.early (lines_value (drop place.at lines));
  moment = place.moment;
  due = [];
  hazard = hazard_value place.hazard;
  failing = false;
  off = option_map image_value place.off;
  peers = peers_value place.peers;
}

-- Inner: the place moves as the call says
abbrev pub Moves : Place → Place → SiteCall → Type 0
Moves old new call = (o : Outside) (lines : List ScriptLine) → place_value lines new ≡ place_after o (place_value lines old) call
