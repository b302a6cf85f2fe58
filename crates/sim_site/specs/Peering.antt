-- The terminals that a site plays, as the play of a script sees them.
use Rattle.std.specs.Prelude.{◌≡◌, ℕ, Bool, true, false, List, [], map, slice_get, slice_set, Option, Some, None, option_map}
use Rattle.gw_site.specs.Outside.{Outside}
use Rattle.pt_core.specs.Serving.{TerminalValue, heard_by_terminal, next_terminal}
use Rattle.pt_core.specs.declared.terminal.Answer.{Answer}
use Rattle.gw_script.specs.site.Peers.{Peers, peers_after_link}
use Rattle.gw_script.specs.site.Playing.{Play, applies, brings, met_coming, then_coming}
use Rattle.gw_script.specs.site.ScriptLine.{Event}
use Rattle.sim_script.specs.Values.{script_event_value}
use Rattle.sim_script.specs.declared.line.ScriptEvent.{ScriptEvent}
use Rattle.sim_site.specs.declared.peers.Peers.{Peers as HeldPeers}

-- what is still to come
abbrev pub coming_value : List ScriptEvent → List Event
coming_value coming = map script_event_value coming

-- the terminals, and what is still to come of them
abbrev pub peers_value : HeldPeers → Peers
peers_value peers = record { terminals = peers.terminals.items; coming = coming_value peers.coming.items }

-- Inner: an event, if there is one
abbrev pub event_value : Option ScriptEvent → Option Event
event_value event = option_map script_event_value event

-- Inner: the terminals once the one of this number was linked, unless this failed
abbrev pub peers_by_link : Bool → ℕ → Peers → Peers
peers_by_link true pt peers = peers
peers_by_link false pt peers = peers_after_link pt peers

-- Inner: the terminal of this number has a new link
pub record IsRelinked (old : List TerminalValue) (at : ℕ) (new : List TerminalValue) : Type 0 where
  pub terminal : TerminalValue
  pub is : slice_get old at ≡ Some terminal
  pub next : new ≡ slice_set old at (record terminal { connection = Some [] })

-- Inner: the terminal of this number has heard these bytes, and has sent this
pub record IsReply (old : List TerminalValue) (at : ℕ) (bytes : List ℕ) (new : List TerminalValue) (sent : Answer) : Type 0 where
  pub terminal : TerminalValue
  pub is : slice_get old at ≡ Some terminal
  pub next : new ≡ slice_set old at (next_terminal terminal bytes)
  pub bytes_are : sent.bytes ≡ (heard_by_terminal terminal terminal.connection bytes).bytes
  pub cut_is : sent.cut ≡ (heard_by_terminal terminal terminal.connection bytes).cut

-- Inner: of what was to come a poll meets this event, or none
abbrev pub IsNextComing : Outside → List Event → List Event → Option Event → Type 0
IsNextComing o old new None = (p : Play) → met_coming o old p ≡ met_coming o [] p
IsNextComing o old new (Some event) = (applies o event ≡ true) × ((p : Play) → met_coming o old p ≡ record (then_coming new p) { due = brings event })

-- Inner: where no event is met, nothing is to come any more
abbrev pub IsUsedUp : Option Event → List Event → Type 0
IsUsedUp None events = events ≡ []
IsUsedUp (Some event) events = Unit {0}
