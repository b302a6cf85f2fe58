-- What bytes and links do to the terminals that are played.
use Rattle.std.proofs.Common.{◌≡◌, ℕ, ◌≤◌, List, [], ◌∷◌, ◌++◌, length, refl, sym, ◌∙◌, ap}
use Rattle.std.proofs.lemmas.Option.{slice_get_past}
use Rattle.std.specs.Prelude.{Bool, true, false, cond, not, filter, slice_set, Some}
use Rattle.pt_core.specs.Serving.{TerminalValue, heard_by_terminal, next_terminal}
use Rattle.pt_core.specs.declared.terminal.Answer.{Answer}
use Rattle.gw_script.specs.site.Peers.{Peers, coming_of, is_event_of, heard_by_peer, linked_to_peer, peers_after_bytes, peers_after_link}
use Rattle.gw_script.specs.site.ScriptLine.{Event}
use Rattle.sim_script.specs.Values.{script_event_value}
use Rattle.sim_script.specs.declared.line.ScriptEvent.{ScriptEvent}
use Rattle.sim_site.specs.Peering.{IsRelinked, IsReply, coming_value}

-- no terminal of this number is played
pub none_hears : (peers : Peers) (pt : ℕ) (bytes : List ℕ) → length peers.terminals ≤ pt → peers ≡ peers_after_bytes pt bytes peers
none_hears peers pt bytes past = ap (λ terminal. heard_by_peer terminal pt bytes peers) (sym (slice_get_past peers.terminals pt past))

pub none_linked : (peers : Peers) (pt : ℕ) → length peers.terminals ≤ pt → peers ≡ peers_after_link pt peers
none_linked peers pt past = ap (λ terminal. linked_to_peer terminal pt peers) (sym (slice_get_past peers.terminals pt past))

-- the terminal of this number has heard these bytes
pub one_hears : (peers : Peers) (pt : ℕ) (bytes : List ℕ) (terminals : List TerminalValue) (sent : Answer) (coming : List Event) → IsReply peers.terminals pt bytes terminals sent → coming ≡ peers.coming ++ coming_of pt sent.bytes sent.cut →
    record { terminals = terminals; coming = coming } ≡ peers_after_bytes pt bytes peers
one_hears peers pt bytes terminals sent coming reply is =
    let terminal = reply.terminal in
    let heard = heard_by_terminal terminal terminal.connection bytes in
    let added : coming ≡ peers.coming ++ coming_of pt heard.bytes heard.cut = is ∙ ap (λ some. peers.coming ++ coming_of pt some sent.cut) reply.bytes_are ∙ ap (λ cut. peers.coming ++ coming_of pt heard.bytes cut) reply.cut_is in
    let one : ◌≡◌ {A = Peers} (record { terminals = terminals; coming = coming }) (heard_by_peer (Some terminal) pt bytes peers) =
    ap (λ these. record { terminals = these; coming = coming }) reply.next ∙ ap (λ events. record { terminals = slice_set peers.terminals pt (next_terminal terminal bytes); coming = events }) added in
    one ∙ ap (λ found. heard_by_peer found pt bytes peers) (sym reply.is)

-- the terminal of this number has a new link
pub one_linked : (peers : Peers) (pt : ℕ) (terminals : List TerminalValue) (coming : List Event) → IsRelinked peers.terminals pt terminals → coming ≡ filter (λ event. not (is_event_of pt event)) peers.coming →
    record { terminals = terminals; coming = coming } ≡ peers_after_link pt peers
one_linked peers pt terminals coming linked is =
    let one : ◌≡◌ {A = Peers} (record { terminals = terminals; coming = coming }) (linked_to_peer (Some linked.terminal) pt peers) =
    ap (λ these. record { terminals = these; coming = coming }) linked.next ∙ ap (λ events. record { terminals = slice_set peers.terminals pt (record linked.terminal { connection = Some [] }); coming = events }) is in
    one ∙ ap (λ found. linked_to_peer found pt peers) (sym linked.is)

-- what is left without the events of a terminal, as the play of a script sees it
pub filtered_values : (pt : ℕ) (events : List ScriptEvent) → coming_value (filter (λ event. not (is_event_of pt (script_event_value event))) events) ≡ filter (λ event. not (is_event_of pt event)) (coming_value events)
filtered_values pt [] = refl
filtered_values pt (event ∷ events) =
    by_test (not (is_event_of pt (script_event_value event))) (filter (λ other. not (is_event_of pt (script_event_value other))) events) (filter (λ other. not (is_event_of pt other)) (coming_value events)) (filtered_values pt events)
  where
    by_test : (test : Bool) (left : List ScriptEvent) (values : List Event) → coming_value left ≡ values → coming_value (cond test (event ∷ left) left) ≡ cond test (script_event_value event ∷ values) values
    by_test true left values later = ap (λ these. script_event_value event ∷ these) later
    by_test false left values later = later
