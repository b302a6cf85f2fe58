-- Inner: how a poll meets what is still to come of played terminals.
use Rattle.std.specs.Prelude.{◌≡◌, true, List, Option, Some, None}
use Rattle.gw_site.specs.Outside.{Outside}
use Rattle.gw_script.specs.site.Playing.{after_poll, applies, brings}
use Rattle.gw_script.specs.site.ScriptLine.{Event}
use Rattle.sim_script.specs.declared.line.ScriptLine.{ScriptLine}
use Rattle.sim_site.specs.Places.{place_value}
use Rattle.sim_site.specs.declared.place.Place.{Place}

-- a poll meets this event, which isn't skipped, or it goes on from the new place
abbrev pub MeetsComing : Outside → List ScriptLine → Place → Place → Option Event → Type 0
MeetsComing o lines old new None = after_poll o (place_value lines old) ≡ after_poll o (place_value lines new)
MeetsComing o lines old new (Some event) = (applies o event ≡ true) × (after_poll o (place_value lines old) ≡ record (place_value lines new) { due = brings event })
