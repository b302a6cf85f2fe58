-- How a poll goes on from what is still to come of played terminals.
use Rattle.std.proofs.Common.{◌≡◌, ℕ, List, [], ◌∷◌, refl, sym, ◌∙◌, ap, true, false}
use Rattle.std.specs.Prelude.{Option, Some, None, Result, Ok, Err, IfOk}
use Rattle.gw_site.specs.Outside.{Outside}
use Rattle.gw_script.specs.site.Playing.{Play, after_poll, applies, brings, met, met_coming, then_coming}
use Rattle.gw_script.specs.site.ScriptLine.{Event}
use Rattle.sim_script.specs.declared.line.ScriptLine.{ScriptLine}
use Rattle.sim_site.specs.Connected.{HasConnections}
use Rattle.sim_site.specs.Made.{EndsPoll}
use Rattle.sim_site.specs.Comings.{MeetsComing}
use Rattle.sim_site.specs.Peering.{IsNextComing, IsUsedUp, peers_value}
use Rattle.sim_site.specs.Places.{place_value}
use Rattle.sim_site.specs.declared.brought.Brought.{Brought}
use Rattle.sim_site.specs.declared.connections.Connections.{Connections}
use Rattle.sim_site.specs.declared.peers.Peers.{Peers as HeldPeers}
use Rattle.sim_site.specs.declared.place.Place.{Place}

-- an event of a terminal is met
pub coming_met : (o : Outside) (lines : List ScriptLine) (old : Place) (peers : HeldPeers) (event : Event) → peers.terminals ≡ old.peers.terminals → IsNextComing o (peers_value old.peers).coming (peers_value peers).coming (Some event)
    → after_poll o (place_value lines old) ≡ record (place_value lines (record old { peers = peers })) { due = brings event }
coming_met o lines old peers event same next =
    let p : Play = place_value lines old in
    next.1 p ∙ ap (λ (these : HeldPeers). record p { peers = record { terminals = these.terminals.items; coming = (peers_value peers).coming }; due = brings event }) (ap (λ terminals. record old.peers { terminals = terminals }) (sym same))

-- none is met, and the poll goes on in the lines
pub none_met : (o : Outside) (lines : List ScriptLine) (old : Place) (peers : HeldPeers) → peers.terminals ≡ old.peers.terminals → (peers_value peers).coming ≡ [] → IsNextComing o (peers_value old.peers).coming (peers_value peers).coming None
    → after_poll o (place_value lines old) ≡ after_poll o (place_value lines (record old { peers = peers }))
none_met o lines old peers same none next =
    let p : Play = place_value lines old in
    let q : Play = place_value lines (record old { peers = peers }) in
    next p ∙ ap (λ (these : HeldPeers). met o (record p { peers = record { terminals = these.terminals.items; coming = [] } }) p.lines) (ap (λ terminals. record old.peers { terminals = terminals }) (sym same))
    ∙ ap (λ events. met_coming o events q) (sym none)

-- what the place meets is what its terminals bring
pub place_meets : (o : Outside) (lines : List ScriptLine) (old : Place) (peers : HeldPeers) (event : Option Event) → peers.terminals ≡ old.peers.terminals → IsUsedUp event (peers_value peers).coming
    → IsNextComing o (peers_value old.peers).coming (peers_value peers).coming event → MeetsComing o lines old (record old { peers = peers }) event
place_meets o lines old peers None same left next = none_met o lines old peers same left next
place_meets o lines old peers (Some event) same left next = (next.0, coming_met o lines old peers event same next)

-- a poll from one place ends as from another where both go on alike
pub ends_alike : (lines : List ScriptLine) (old mid new : Place) (before after : Connections) (buf : List ℕ) (brought : Option Brought)
    → ((o : Outside) → HasConnections o before → after_poll o (place_value lines old) ≡ after_poll o (place_value lines mid)) → EndsPoll lines mid new before after buf brought → EndsPoll lines old new before after buf brought
ends_alike lines old mid new before after buf None alike ends = record { power = ends.power; place = λ o held. alike o held ∙ ends.place o held; connections = ends.connections }
ends_alike lines old mid new before after buf (Some brought) alike ends =
    record { power = ends.power; place = λ o held. alike o held ∙ ends.place o held; what = ends.what; followed = ends.followed; count = ends.count; promise = ends.promise }

pub ends_from : {E : Type 0} (lines : List ScriptLine) (old mid new : Place) (before after : Connections) (buf : List ℕ) (result : Result (Option Brought) E)
    → ((o : Outside) → HasConnections o before → after_poll o (place_value lines old) ≡ after_poll o (place_value lines mid)) → IfOk result (λ brought. EndsPoll lines mid new before after buf brought) → IfOk result (λ brought. EndsPoll lines old new before after buf brought)
ends_from lines old mid new before after buf (Ok brought) alike ends = ends_alike lines old mid new before after buf brought alike ends
ends_from lines old mid new before after buf (Err error) alike ends = tt

-- ---- what is still to come, one event after the other

-- the first event is lost with its link
pub coming_lost : (o : Outside) (all : List Event) (event : Event) (events : List Event) → all ≡ event ∷ events → applies o event ≡ false → (p : Play) → met_coming o all p ≡ met_coming o events p
coming_lost o all event events is not p = ap (λ these. met_coming o these p) is ∙ rw not refl

-- the first event is met
pub coming_taken : (o : Outside) (all : List Event) (event : Event) (events : List Event) → all ≡ event ∷ events → applies o event ≡ true → (p : Play) → met_coming o all p ≡ record (then_coming events p) { due = brings event }
coming_taken o all event events is applied p = ap (λ these. met_coming o these p) is ∙ rw applied refl
