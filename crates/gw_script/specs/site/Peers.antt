-- Played terminals of a site: what a new link and bytes do to them, and the events that they bring before the script goes on.
use Rattle.std.specs.Prelude.{ℕ, ◌==◌, nat_le, Bool, true, false, not, if◌then◌else◌, List, [], ◌∷◌, ◌++◌, length, filter, Option, Some, None, slice_get, slice_set, option_map}
use Rattle.pt_core.specs.declared.book.BookEntry.{BookEntry}
use Rattle.pt_core.specs.Serving.{Served, TerminalValue, heard_by_terminal, next_terminal}
use Rattle.gw_script.specs.site.ScriptLine.{Event, Open, Close, FromTill, FromPt, Lose, Tick}

-- the terminals that are played, by their numbers from 0, and what is still to come of them, the first first
pub record Peers : Type 0 where
  pub terminals : List TerminalValue
  pub coming : List Event

-- these terminals, of which nothing is to come
abbrev pub quiet_peers : List TerminalValue → Peers
quiet_peers terminals = record { terminals = terminals; coming = [] }

-- no terminal is played
abbrev pub no_peers : Peers
no_peers = quiet_peers []

-- bytes come at once, where there are any
abbrev pub bytes_coming : ℕ → List ℕ → List Event
bytes_coming pt [] = []
bytes_coming pt (byte ∷ bytes) = FromPt pt (byte ∷ bytes) ∷ []

-- the terminal cuts its link
abbrev pub cut_coming : ℕ → Bool → List Event
cut_coming pt true = Lose pt ∷ []
cut_coming pt false = []

-- what comes of a terminal for one send: its bytes at once and then its cut. More bytes than a poll can hold are lost with the link
abbrev pub coming_of : ℕ → List ℕ → Bool → List Event
coming_of pt bytes cut = if nat_le (length bytes) 4096 then bytes_coming pt bytes ++ cut_coming pt cut else Lose pt ∷ []

-- what comes of it for bytes that it hears
abbrev pub coming_after : ℕ → Served → List Event
coming_after pt done = coming_of pt done.bytes done.cut

-- the terminal of this number, if it is played, has heard these bytes
abbrev pub heard_by_peer : Option TerminalValue → ℕ → List ℕ → Peers → Peers
heard_by_peer None pt bytes peers = peers
heard_by_peer (Some terminal) pt bytes peers = record {
  terminals = slice_set peers.terminals pt (next_terminal terminal bytes);
  coming = peers.coming ++ coming_after pt (heard_by_terminal terminal terminal.connection bytes);
}

-- these bytes were sent to the terminal of this number
abbrev pub peers_after_bytes : ℕ → List ℕ → Peers → Peers
peers_after_bytes pt bytes peers = heard_by_peer (slice_get peers.terminals pt) pt bytes peers

-- it comes of the terminal of this number
abbrev pub is_event_of : ℕ → Event → Bool
is_event_of pt (Open till) = false
is_event_of pt (Close till) = false
is_event_of pt (FromTill till bytes) = false
is_event_of pt (FromPt other bytes) = other == pt
is_event_of pt (Lose other) = other == pt
is_event_of pt Tick = false

-- the terminal of this number, if it is played, has a new link: what was to come on an earlier one is lost
abbrev pub linked_to_peer : Option TerminalValue → ℕ → Peers → Peers
linked_to_peer None pt peers = peers
linked_to_peer (Some terminal) pt peers = record {
  terminals = slice_set peers.terminals pt (record terminal { connection = Some [] });
  coming = filter (λ event. not (is_event_of pt event)) peers.coming;
}

-- the terminal of this number was linked
abbrev pub peers_after_link : ℕ → Peers → Peers
peers_after_link pt peers = linked_to_peer (slice_get peers.terminals pt) pt peers

-- a power failure cuts all links: nothing is to come any more
abbrev pub peers_after_crash : Peers → Peers
peers_after_crash peers = quiet_peers peers.terminals

-- the book of the terminal of this number, if it is played
abbrev pub book_of_peer : Peers → ℕ → Option (List BookEntry)
book_of_peer peers pt = option_map (λ (terminal : TerminalValue). terminal.account.book) (slice_get peers.terminals pt)
