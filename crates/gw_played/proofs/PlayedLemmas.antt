-- Along a lawful course whose terminals are played ones their book is honest: what holds before the first move holds after each.
use Rattle.std.proofs.Common.{◌≡◌, ℕ, true, false, List, [], ◌∷◌, ◌++◌, refl, arith}
use Rattle.std.specs.Prelude.{Some, None, slice_get}
use Rattle.gw_site.specs.declared.turn.Turn.{Turn}
use Rattle.gw_site.specs.declared.turn.Turn.TheVariants.{Start, OpenFailed, Polled, Opened, HeardTill, Closed, HeardPt, Lost, Stopped, Linked, LinkFailed, SentTill, SentPt, CutTill, CutPt, Wrote, Synced, DiskFailed, Crash}
use Rattle.pt_core.specs.Exchange.{HearsSent}
use Rattle.pt_core.specs.History.{Setting}
use Rattle.gw_owes.specs.declared.terminal.Terminal.{Terminal}
use Rattle.gw_owes.specs.Items.{RoundItem}
use Rattle.gw_rules.specs.Lawful.{IsCourse}
use Rattle.gw_rules.specs.Stage.{AtPoll}
use Rattle.gw_rules.specs.View.{View, Move, Begin, Read, Make, begin, after, after_turn, view_from, at_first}
use Rattle.gw_rules.proofs.KeptPhaseLemmas.{busy-off-poll, synced-off-poll, wrote-off-poll}
use Rattle.gw_rules.proofs.RecordOrderLemmas.{Ordered, begin-ordered, read-ordered, turn-ordered, first-ordered}
use Rattle.gw_rules.proofs.RecordRowLemmas.{OrderLaws}
use Rattle.gw_rules.proofs.StageLemmas.{handling-not-polled}
use Rattle.gw_books.specs.Headline.{HonestAgrees}
use Rattle.gw_books.specs.Past.{Past, no_past, past_after, past_from, past_of}
use Rattle.gw_played.specs.Played.{PlacedExchange, exchanges_in, exchanges_after, exchanges_from, exchanges_of, played_book, PlayedIsHonest, PlayedAgrees}
use Rattle.gw_played.proofs.CarriedLemmas.{due-handles-none}
use Rattle.gw_played.proofs.HandlePlaysLemmas.{handle-plays}
use Rattle.gw_played.proofs.ItemPlaysLemmas.{each-item-plays, begin-plays, read-plays}
use Rattle.gw_played.proofs.LinkPlaysLemmas.{cut-pt-plays, link-failed-plays, linked-plays}
use Rattle.gw_played.proofs.Playing.{Plays, PeerLaws, PlaysTurn}
use Rattle.gw_played.proofs.SentPtPlaysLemmas.{sent-pt-plays}
use Rattle.gw_played.proofs.ServePlaysLemmas.{serve-plays}
use Rattle.gw_played.proofs.WaitingPlaysLemmas.{next-waiting-plays, overdue-plays, queue-plays}
use Rattle.gw_played.proofs.TurnPlaysLemmas.{PollsClean, PlaysEvent, closed-plays, crash-plays, cut-till-plays, disk-failed-plays, heard-pt-plays, heard-till-plays, lost-plays, open-failed-plays, opened-plays, polled-plays, sent-till-plays, start-plays, stopped-plays, synced-plays, wrote-plays}
use Rattle.gw_played.proofs.WholeBookLemmas.{hears-back, honest-whole}

-- ---- where an event may come

-- only a poll leads there, and what may be due then handles nothing that a terminal has said
turn-clean : (v : View) (turn : Turn) → PollsClean (after_turn v turn)
turn-clean v (Start setup) e = absurd (let n : (after_turn v (Start setup)).scene.stage ≡ AtPoll = e in cc)
turn-clean v OpenFailed e = refl
turn-clean v (Polled now) e = due-handles-none v.scene.core
turn-clean v (Opened till) e = handling-not-polled e
turn-clean v (HeardTill till bytes) e = handling-not-polled e
turn-clean v (Closed till) e = handling-not-polled e
turn-clean v (HeardPt pt bytes) e = handling-not-polled e
turn-clean v (Lost pt) e = handling-not-polled e
turn-clean v Stopped e = refl
turn-clean v (Linked pt) e = absurd (busy-off-poll v.scene.stage e)
turn-clean v (LinkFailed pt) e = absurd (busy-off-poll v.scene.stage e)
turn-clean v (SentTill till bytes true) e = absurd (busy-off-poll v.scene.stage e)
turn-clean v (SentTill till bytes false) e = absurd (busy-off-poll v.scene.stage e)
turn-clean v (SentPt pt bytes true) e = absurd (busy-off-poll v.scene.stage e)
turn-clean v (SentPt pt bytes false) e = absurd (busy-off-poll v.scene.stage e)
turn-clean v (CutTill till) e = absurd (busy-off-poll v.scene.stage e)
turn-clean v (CutPt pt) e = absurd (busy-off-poll v.scene.stage e)
turn-clean v (Wrote offset bytes) e = absurd (wrote-off-poll v.scene.stage e)
turn-clean v Synced e = absurd (synced-off-poll v.scene.stage e)
turn-clean v DiskFailed e = refl
turn-clean v (Crash file) e = refl

begin-clean : (v : View) → PollsClean (after v Begin)
begin-clean v e = by_items v.items e
  where
    by_items : (items : List RoundItem) → PollsClean (begin v.scene items)
    by_items [] e = refl
    by_items (item ∷ items) e = absurd (busy-off-poll v.scene.stage e)

move-clean : (v : View) (move : Move) → PollsClean (after v move)
move-clean v Begin = begin-clean v
move-clean v (Read as_read) = λ e. absurd (busy-off-poll v.scene.stage e)
move-clean v (Make turn) = turn-clean v turn

-- ---- before the first move

pub first-plays : (settings : List ℕ → Setting) → Plays settings at_first no_past (λ poi. [])
first-plays settings = record {
  peers = λ clear number terminal found linked no_cut. no-terminal number terminal found;
  unlinked = λ number terminal due found standing. no-terminal number terminal found;
  linking = λ number owed. refl;
  heard = λ number terminal found connected. no-terminal number terminal found;
  calm = λ some command sent. absurd sent;
  uncharged = λ some number. refl;
  served = λ some. (0, refl);
  heard_before = omega arith;
  falling = tt;
  ends = λ end within. absurd within;
  made = λ number terminal found linked. no-terminal number terminal found;
  linked_before = λ link within. absurd within;
  places = λ poi one within. absurd within;
  honest = λ poi. record {
    commanded = λ entry within. absurd within;
    caused = λ entry within. absurd within;
    linked = λ entry within. absurd within;
    ordered = refl;
    numbered = λ entry within. absurd within;
    true_ends = λ end within. absurd within;
  };
}
  where
    no-terminal : {A : Type 0} (number : ℕ) (terminal : Terminal) → slice_get [] number ≡ Some terminal → A
    no-terminal number terminal found = absurd (let n : None ≡ Some terminal = found in cc)

-- ---- along a course

-- where no event comes it is no matter what the items are
turn-event : (turn : Turn) → PlaysTurn turn → PlaysEvent turn
turn-event turn plays settings log v past exchanges o clean ok hears h = plays settings log v past exchanges o ok hears h

-- each turn
turn-plays : PeerLaws → (turn : Turn) → PlaysEvent turn
turn-plays laws (Start setup) = turn-event (Start setup) (start-plays setup)
turn-plays laws OpenFailed = turn-event OpenFailed open-failed-plays
turn-plays laws (Polled now) = turn-event (Polled now) (polled-plays now)
turn-plays laws (Opened till) = opened-plays till
turn-plays laws (HeardTill till bytes) = heard-till-plays till bytes
turn-plays laws (Closed till) = closed-plays till
turn-plays laws (HeardPt pt bytes) = heard-pt-plays laws pt bytes
turn-plays laws (Lost pt) = lost-plays pt
turn-plays laws Stopped = stopped-plays
turn-plays laws (Linked pt) = turn-event (Linked pt) (linked-plays laws pt)
turn-plays laws (LinkFailed pt) = turn-event (LinkFailed pt) (link-failed-plays laws pt)
turn-plays laws (SentTill till bytes sent) = turn-event (SentTill till bytes sent) (sent-till-plays till bytes sent)
turn-plays laws (SentPt pt bytes sent) = turn-event (SentPt pt bytes sent) (sent-pt-plays laws pt bytes sent)
turn-plays laws (CutTill till) = turn-event (CutTill till) (cut-till-plays till)
turn-plays laws (CutPt pt) = turn-event (CutPt pt) (cut-pt-plays laws pt)
turn-plays laws (Wrote offset bytes) = turn-event (Wrote offset bytes) (wrote-plays offset bytes)
turn-plays laws Synced = turn-event Synced synced-plays
turn-plays laws DiskFailed = turn-event DiskFailed disk-failed-plays
turn-plays laws (Crash file) = turn-event (Crash file) (crash-plays file)

module _ (orders : OrderLaws) (laws : PeerLaws) (settings : List ℕ → Setting) where
  -- what holds before moves of a lawful course whose terminals are played ones holds after them
  pub course-plays : (log : List Turn) (v : View) (past : Past) (exchanges : List ℕ → List PlacedExchange) (moves : List Move) → Ordered log v → PollsClean v → IsCourse v moves
      → ((poi : List ℕ) → HearsSent (settings poi) (exchanges_in (exchanges_from poi v past.place (exchanges poi) moves))) → Plays settings v past exchanges
      → Plays settings (view_from v moves) (past_from v past moves) (λ poi. exchanges_from poi v past.place (exchanges poi) moves)
  course-plays log v past exchanges [] o clean c hears h = h
  course-plays log v past exchanges (Begin ∷ moves) o clean c hears h =
      let next : Ordered log (after v Begin) = begin-ordered orders log v o c.0 in
      course-plays log (after v Begin) (past_after v past Begin) exchanges moves next (move-clean v Begin) c.1 hears (begin-plays (each-item-plays (handle-plays laws) (serve-plays laws) queue-plays (next-waiting-plays laws) overdue-plays) settings log v past exchanges o next c.0 h)
  course-plays log v past exchanges (Read as_read ∷ moves) o clean c hears h =
      course-plays log (after v (Read as_read)) (past_after v past (Read as_read)) exchanges moves (read-ordered log v as_read o c.0) (move-clean v (Read as_read)) c.1 hears (read-plays settings log v past exchanges as_read o c.0 h)
  course-plays log v past exchanges (Make turn ∷ moves) o clean c hears h =
      course-plays (log ++ turn ∷ []) (after v (Make turn)) (past_after v past (Make turn)) (λ poi. exchanges_after poi v past.place (exchanges poi) (Make turn)) moves (turn-ordered orders log v turn o c.0) (move-clean v (Make turn)) c.1 hears
      (turn-plays laws turn settings log v past exchanges o clean c.0
      (λ poi. hears-back (settings poi) poi (after v (Make turn)) (past_after v past (Make turn)).place (exchanges_after poi v past.place (exchanges poi) (Make turn)) moves (hears poi)) h)

-- ---- the books of played terminals

pub played-is-honest : OrderLaws → PeerLaws → PlayedIsHonest
played-is-honest orders laws log moves settings pois lean played apart linked =
    let h : Plays settings (view_from at_first moves) (past_of moves) (λ poi. exchanges_of poi moves) =
    course-plays orders laws settings [] at_first no_past (λ poi. []) moves first-ordered (λ e. refl) lean.lawful played (first-plays settings) in
    honest-whole settings pois (past_of moves) (λ poi. exchanges_of poi moves) apart linked h.falling h.ends h.honest

-- so the headline holds of them
pub played-agrees : HonestAgrees → PlayedIsHonest → PlayedAgrees
played-agrees headline honest log moves settings pois lean played apart linked =
    headline log (past_of moves) (played_book settings pois moves) (record { moves = moves; lean = lean; past_is = refl }) (honest log moves settings pois lean played apart linked)
