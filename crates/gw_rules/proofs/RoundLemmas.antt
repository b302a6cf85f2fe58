-- What is owed to a terminal in a round is done before the next poll.
use Rattle.std.proofs.Common.{◌≡◌, ◌≢◌, ℕ, List, [], ◌∷◌, ◌++◌, refl, sym, ◌∙◌, ap, subst, true, false, inl, inr}
use Rattle.std.specs.Prelude.{Bool, ℤ, ◌⊎◌, Some, None}
use Rattle.gw_base.specs.declared.setup.Setup.{Setup}
use Rattle.gw_site.specs.Outside.{Outside, is_connected, heard_on, outside_after}
use Rattle.gw_site.specs.Sorts.{AreOfRound, is_sort_of_round, sort_of}
use Rattle.gw_site.specs.declared.turn.Turn.{Turn}
use Rattle.gw_site.specs.declared.turn.Turn.TheVariants.{Start, OpenFailed, Polled, Opened, HeardTill, Closed, HeardPt, Lost, Stopped, Linked, LinkFailed, SentTill, SentPt, CutTill, CutPt, Wrote, Synced, DiskFailed, Crash}
use Rattle.gw_owes.specs.Calls.{OwedCall}
use Rattle.gw_owes.specs.Events.{till_opened_items, till_bytes_items, pt_bytes_items, items_due}
use Rattle.gw_owes.specs.Items.{RoundItem, Crowded, Message, Asked, Unframed, Gone, Greet, Handle, Serve, Queue, NextWaiting, Oversized, LinkLost, Late, Overdue, Due}
use Rattle.gw_owes.specs.Laws.{ends_in_one}
use Rattle.gw_owes.specs.ReadAs.{ReadAs}
use Rattle.gw_rules.specs.Lawful.{first_call, first_message, Begins, IsRead, AllowedTurn, IsCourse, turns_of}
use Rattle.gw_rules.specs.Scene.{Scene, row_at, link_made_at, link_lost_at}
use Rattle.gw_rules.specs.Stage.{Stage, Resting, Opening, Looking, AtPoll, Handling, Over, Broken, busy, is_round, stage_synced, stage_wrote}
use Rattle.gw_rules.specs.View.{View, Move, Begin, Read, Make, begin, read_first, after, after_turn}
use Rattle.gw_rules.proofs.CourseLemmas.{begin-outside, begin-stage, after-outside}
use Rattle.gw_rules.proofs.CutLemmas.{IsAmong, has-after, has-before, is_dead, dead-round, dead-running, dead-turn, none-among}
use Rattle.gw_rules.proofs.LinkStateLemmas.{LinkState, state_in}
use Rattle.gw_rules.proofs.LinkedLemmas.{Agrees, Settled, Losing, OrLost, IsOfLink, is_on, settled-turn, losing-round, begin-agrees, begin-state-settled, begin-state-losing, read-settled, read-losing, turn-state, round-setup}
use Rattle.gw_rules.proofs.OwedLemmas.{begin-ends, turn-ends}
use Rattle.gw_rules.proofs.SetupLemmas.{IsInRun, read-run, turn-run}
use Rattle.gw_rules.proofs.StageLemmas.{no-true, round-busy, handling-not-polled}

-- ---- what a round owes a terminal

-- The terminal of this number, in this state at this moment: items like these owe this call alone; turns like these are what was to be done; and whether the site may still bring an event.
pub record Duty : Type 0 where
  pub pt : ℕ
  pub state : LinkState
  pub moment : ℕ
  pub such : RoundItem → Bool
  pub call : OwedCall
  pub done : Turn → Bool
  pub polls : Bool

-- such an item is among these
abbrev pub HasSuch : Duty → List RoundItem → Type 0
HasSuch d items = (item : RoundItem) × (d.such item ≡ true) × IsAmong item items

such-after : (d : Duty) (more items : List RoundItem) → HasSuch d items → HasSuch d (more ++ items)
such-after d more items (item, p, among) = (item, p, has-after item more items among)

pub such-before : (d : Duty) (items more : List RoundItem) → HasSuch d items → HasSuch d (items ++ more)
such-before d items more (item, p, among) = (item, p, has-before item items more among)

-- an item of the duty owes its call, a turn of the call or of the terminal's link does it, and no event takes the terminal's link
pub record IsDuty (d : Duty) : Type 0 where
  pub owes : (scene : Scene) (setup : Setup) (item : RoundItem) → d.such item ≡ true → scene.setup ≡ Some setup → state_in scene.core d.pt ≡ d.state → scene.outside.moment ≡ d.moment → (row_at scene item).calls ≡ d.call ∷ []
  pub no_message : (till : ℕ) (bytes : List ℕ) → d.such (Message till bytes) ≡ true → ⊥
  pub makes : (v : View) (turn : Turn) → v.scene.stage ≡ Handling → first_call v.calls ≡ Some d.call → AllowedTurn v turn → is_sort_of_round (sort_of turn) ≡ true → d.done turn ≡ true
  pub links : (v : View) (turn : Turn) → Settled v → state_in v.scene.core d.pt ≡ d.state → AllowedTurn v turn → IsOfLink d.pt turn → d.done turn ≡ true
  pub unlost : d.polls ≡ true → is_on d.state ≡ true → ⊥

-- no loss of this terminal's link waits
abbrev pub IsUnlost : ℕ → View → Type 0
IsUnlost pt v = Settled v ⊎ ((l : Losing v) × (pt ≢ l.pt))

-- the call is owed, or will be
pub record Waits (d : Duty) (v : View) : Type 0 where
  pub run : IsInRun v
  pub ends : ends_in_one v.calls ≡ true
  pub unlost : IsUnlost d.pt v
  pub state_is : state_in v.scene.core d.pt ≡ d.state
  pub moment_is : v.scene.outside.moment ≡ d.moment
  pub round : is_round v.scene.stage ≡ true
  pub polled : v.scene.stage ≡ AtPoll → (d.polls ≡ true) × HasSuch d (items_due v.scene.core)
  pub owed : HasSuch d v.items ⊎ ((v.scene.stage ≡ Handling) × (v.calls ≡ d.call ∷ []))

-- or the run has ended
abbrev pub Holds : Duty → View → Type 0
Holds d v = Waits d v ⊎ (is_dead v.scene.stage ≡ true)

-- what one turn of the round leaves: it is what was to be done, or the same holds
abbrev After : Duty → View → Turn → Type 0
After d v turn = (d.done turn ≡ true) ⊎ Holds d (after_turn v turn)

handling-only : {A : Type 0} (stage : Stage) → stage ≡ Handling → stage ≡ AtPoll → A
handling-only stage e f = handling-not-polled (sym e ∙ f)

-- ---- turns

wrote-round : (stage : Stage) → is_round stage ≡ true → stage_wrote stage ≡ Handling
wrote-round Resting e = no-true e
wrote-round (Opening refused) e = no-true e
wrote-round (Looking refused) e = no-true e
wrote-round AtPoll e = refl
wrote-round Handling e = refl
wrote-round Over e = no-true e
wrote-round Broken e = no-true e

synced-round : (stage : Stage) → is_round stage ≡ true → stage_synced stage ≡ Handling
synced-round Resting e = no-true e
synced-round (Opening refused) e = no-true e
synced-round (Looking refused) e = no-true e
synced-round AtPoll e = refl
synced-round Handling e = refl
synced-round Over e = no-true e
synced-round Broken e = no-true e

-- the items stay that are to come, or they are made anew after an event, or the run has ended
abbrev pub Follows : View → Turn → Type 0
Follows v turn =
    ((more : List RoundItem) × ((after_turn v turn).items ≡ more ++ v.items) × ((after_turn v turn).scene.stage ≡ Handling))
    ⊎ (((v.scene.stage ≡ AtPoll) × (more : List RoundItem) × ((after_turn v turn).items ≡ more ++ items_due v.scene.core) × ((after_turn v turn).scene.stage ≡ Handling))
    ⊎ (is_dead (after_turn v turn).scene.stage ≡ true))

pub follows : (v : View) (turn : Turn) → is_round v.scene.stage ≡ true → AllowedTurn v turn → is_sort_of_round (sort_of turn) ≡ true → Follows v turn
follows v (Start setup) r ok e = no-true e
follows v OpenFailed r ok e = no-true e
follows v (Polled now) r ok e = no-true e
follows v (Opened till) r ok e = inr (inl (ok.0, till_opened_items till v.scene.outside.tills, refl, refl))
follows v (HeardTill till bytes) r ok e = inr (inl (ok.0.polled, till_bytes_items till (heard_on v.scene.outside.tills till) bytes, refl, refl))
follows v (Closed till) r ok e = inr (inl (ok.polled, Gone till ∷ [], refl, refl))
follows v (HeardPt pt bytes) r ok e = inr (inl (ok.0.polled, pt_bytes_items pt (heard_on v.scene.outside.links pt) bytes, refl, refl))
follows v (Lost pt) r ok e = inr (inl (ok.polled, LinkLost pt ∷ [], refl, refl))
follows v Stopped r ok e = inr (inr refl)
follows v (Linked pt) r ok e = inl ((link_made_at v.scene pt).items, refl, round-busy v.scene.stage r)
follows v (LinkFailed pt) r ok e = inl ((link_lost_at v.scene pt).items, refl, round-busy v.scene.stage r)
follows v (SentTill till bytes true) r ok e = inl ([], refl, round-busy v.scene.stage r)
follows v (SentTill till bytes false) r ok e = inl ([], refl, round-busy v.scene.stage r)
follows v (SentPt pt bytes true) r ok e = inl ([], refl, round-busy v.scene.stage r)
follows v (SentPt pt bytes false) r ok e = inl ([], refl, round-busy v.scene.stage r)
follows v (CutTill till) r ok e = inl ([], refl, round-busy v.scene.stage r)
follows v (CutPt pt) r ok e = inl ((link_lost_at v.scene pt).items, refl, round-busy v.scene.stage r)
follows v (Wrote offset bytes) r ok e = inl ([], refl, wrote-round v.scene.stage r)
follows v Synced r ok e = inl ([], refl, synced-round v.scene.stage r)
follows v DiskFailed r ok e = inr (inr refl)
follows v (Crash file) r ok e = no-true e

-- the moment stays until the next poll
pub turn-moment : (o : Outside) (turn : Turn) → is_sort_of_round (sort_of turn) ≡ true → (outside_after o turn).moment ≡ o.moment
turn-moment o (Start setup) e = no-true e
turn-moment o OpenFailed e = no-true e
turn-moment o (Polled now) e = no-true e
turn-moment o (Opened till) e = refl
turn-moment o (HeardTill till bytes) e = refl
turn-moment o (Closed till) e = refl
turn-moment o (HeardPt pt bytes) e = refl
turn-moment o (Lost pt) e = refl
turn-moment o Stopped e = refl
turn-moment o (Linked pt) e = refl
turn-moment o (LinkFailed pt) e = refl
turn-moment o (SentTill till bytes sent) e = refl
turn-moment o (SentPt pt bytes sent) e = refl
turn-moment o (CutTill till) e = refl
turn-moment o (CutPt pt) e = refl
turn-moment o (Wrote offset bytes) e = refl
turn-moment o Synced e = refl
turn-moment o DiskFailed e = refl
turn-moment o (Crash file) e = no-true e

-- an event takes the link of no terminal in this state
turn-unlost : (d : Duty) (v : View) (turn : Turn) → IsDuty d → Waits d v → Settled v → AllowedTurn v turn → IsUnlost d.pt (after_turn v turn)
turn-unlost d v turn is w s ok = by_turn (settled-turn v turn w.run w.ends s ok)
  where
    by_turn : Settled (after_turn v turn) ⊎ OrLost v turn → IsUnlost d.pt (after_turn v turn)
    by_turn (inl settled) = inl settled
    by_turn (inr (pt, lost, l, same)) =
        let allowed : AllowedTurn v (Lost pt) = subst (AllowedTurn v) lost ok in
        inr (
          l,
          λ own.
              let number : pt ≡ d.pt = sym same ∙ sym own in
              is.unlost (w.polled allowed.polled).0 (sym (s.linked d.pt ∙ ap is_on w.state_is) ∙ subst (λ n. is_connected v.scene.outside.links n ≡ true) number allowed.connected_is),
        )

waits-turn : (d : Duty) (v : View) (turn : Turn) → IsDuty d → Waits d v → Settled v → AllowedTurn v turn → is_sort_of_round (sort_of turn) ≡ true → After d v turn
waits-turn d v turn is w s ok e = by_owed w.owed (turn-state v turn d.pt w.run ok e) (follows v turn w.round ok e)
  where
    go_on : state_in (after_turn v turn).scene.core d.pt ≡ state_in v.scene.core d.pt → (after_turn v turn).scene.stage ≡ Handling → HasSuch d (after_turn v turn).items → After d v turn
    go_on same at has = inr (inl (record {
      run = turn-run v turn w.run ok;
      ends = turn-ends v turn w.ends ok;
      unlost = turn-unlost d v turn is w s ok;
      state_is = same ∙ w.state_is;
      moment_is = ap (λ (o : Outside). o.moment) (after-outside v turn) ∙ turn-moment v.scene.outside turn e ∙ w.moment_is;
      round = ap is_round at;
      polled = λ polled. handling-only (after_turn v turn).scene.stage at polled;
      owed = inl has;
    }))

    by_owed : HasSuch d v.items ⊎ ((v.scene.stage ≡ Handling) × (v.calls ≡ d.call ∷ [])) → IsOfLink d.pt turn ⊎ (state_in (after_turn v turn).scene.core d.pt ≡ state_in v.scene.core d.pt) → Follows v turn → After d v turn
    by_owed (inr owed) changed next = inl (is.makes v turn owed.0 (ap first_call owed.1) ok e)
    by_owed (inl has) (inl of_link) next = inl (is.links v turn s w.state_is ok of_link)
    by_owed (inl has) (inr same) (inl (more, items, at)) = go_on same at (subst (HasSuch d) (sym items) (such-after d more v.items has))
    by_owed (inl has) (inr same) (inr (inl (polled, more, items, at))) = go_on same at (subst (HasSuch d) (sym items) (such-after d more (items_due v.scene.core) (w.polled polled).1))
    by_owed (inl has) (inr same) (inr (inr dead)) = inr (inr dead)

holds-turn : (d : Duty) (v : View) (turn : Turn) → IsDuty d → Holds d v → AllowedTurn v turn → is_sort_of_round (sort_of turn) ≡ true → After d v turn
holds-turn d v turn is (inr dead) ok e = inr (inr (dead-turn v turn dead ok e))
holds-turn d v turn is (inl w) ok e = by_unlost w.unlost
  where
    by_unlost : IsUnlost d.pt v → After d v turn
    by_unlost (inl s) = waits-turn d v turn is w s ok e
    by_unlost (inr lost) = losing-round v turn lost.0 ok e

-- ---- items that begin

begin-owed : (d : Duty) (scene : Scene) (items : List RoundItem) (setup : Setup) → IsDuty d → scene.setup ≡ Some setup → state_in scene.core d.pt ≡ d.state → scene.outside.moment ≡ d.moment → HasSuch d items
    → HasSuch d (begin scene items).items ⊎ ((begin scene items).calls ≡ d.call ∷ [])
begin-owed d scene [] setup is known state moment (item, p, among) = none-among item [] among refl
begin-owed d scene (first ∷ items) setup is known state moment (item, p, ([], rest, e)) =
    let heads : item ≡ first = (let n : first ∷ items ≡ item ∷ rest = e in cc) in
    inr (is.owes scene setup first (subst (λ i. d.such i ≡ true) heads p) known state moment)
begin-owed d scene (first ∷ items) setup is known state moment (item, p, (x ∷ before, rest, e)) =
    let tails : items ≡ before ++ item ∷ rest = (let n : first ∷ items ≡ x ∷ (before ++ item ∷ rest) = e in cc) in
    inl (such-after d (row_at scene first).items items (item, p, (before, rest, tails)))

holds-begin : (d : Duty) (v : View) → IsDuty d → Holds d v → Begins v → Holds d (after v Begin)
holds-begin d v is (inr dead) b = dead-round v.scene.stage dead b.idle.round
holds-begin d v is (inl w) b = by_owed w.owed
  where
    at : (after v Begin).scene.stage ≡ Handling
    at = begin-stage v.scene v.items ∙ round-busy v.scene.stage b.idle.round

    same : IsUnlost d.pt v → state_in (after v Begin).scene.core d.pt ≡ state_in v.scene.core d.pt
    same (inl s) = begin-state-settled v w.run s b d.pt
    same (inr lost) = begin-state-losing v w.run lost.0 b d.pt lost.1

    agrees : IsUnlost d.pt v → Agrees v
    agrees (inl s) = record { run = w.run; ends = w.ends; links = inl s }
    agrees (inr lost) = record { run = w.run; ends = w.ends; links = inr lost.0 }

    by_begun : HasSuch d (after v Begin).items ⊎ ((after v Begin).calls ≡ d.call ∷ []) → Holds d (after v Begin)
    by_begun owed =
        let a = begin-agrees v (agrees w.unlost) b in
        inl (record {
          run = a.0;
          ends = begin-ends v.scene v.items;
          unlost = inl a.1;
          state_is = same w.unlost ∙ w.state_is;
          moment_is = ap (λ (o : Outside). o.moment) (begin-outside v.scene v.items) ∙ w.moment_is;
          round = ap is_round at;
          polled = λ polled. handling-only (after v Begin).scene.stage at polled;
          owed = by_either owed;
        })
      where
        by_either : HasSuch d (after v Begin).items ⊎ ((after v Begin).calls ≡ d.call ∷ []) → HasSuch d (after v Begin).items ⊎ (((after v Begin).scene.stage ≡ Handling) × ((after v Begin).calls ≡ d.call ∷ []))
        by_either (inl has) = inl has
        by_either (inr owed) = inr (at, owed)

    by_owed : HasSuch d v.items ⊎ ((v.scene.stage ≡ Handling) × (v.calls ≡ d.call ∷ [])) → Holds d (after v Begin)
    by_owed (inr owed) = absurd (let n : [] ≡ d.call ∷ [] = sym b.idle.calls ∙ owed.1 in cc)
    by_owed (inl has) =
        let known = round-setup v w.run b.idle.round in
        by_begun (begin-owed d v.scene v.items known.setup is known.setup_is w.state_is w.moment_is has)

-- ---- messages that are read

read-such : (d : Duty) (as_read : ReadAs) (items : List RoundItem) (bytes : List ℕ) → IsDuty d → first_message items ≡ Some bytes → HasSuch d items → HasSuch d (read_first as_read items)
read-such d as_read [] bytes is m h = absurd (let n : None ≡ Some bytes = m in cc)
read-such d as_read (Message other text ∷ items) bytes is m (item, p, ([], rest, e)) =
    let heads : item ≡ Message other text = (let n : Message other text ∷ items ≡ item ∷ rest = e in cc) in
    absurd (is.no_message other text (subst (λ i. d.such i ≡ true) heads p))
read-such d as_read (Message other text ∷ items) bytes is m (item, p, (x ∷ before, rest, e)) =
    let tails : items ≡ before ++ item ∷ rest = (let n : Message other text ∷ items ≡ x ∷ (before ++ item ∷ rest) = e in cc) in
    (item, p, (Asked other as_read ∷ before, rest, ap (λ l. Asked other as_read ∷ l) tails))
read-such d as_read (Crowded other ∷ items) bytes is m h = h
read-such d as_read (Asked other before ∷ items) bytes is m h = h
read-such d as_read (Unframed other ∷ items) bytes is m h = h
read-such d as_read (Gone other ∷ items) bytes is m h = h
read-such d as_read (Greet pt apdu ∷ items) bytes is m h = h
read-such d as_read (Handle pt apdu ∷ items) bytes is m h = h
read-such d as_read (Serve pt till header request ∷ items) bytes is m h = h
read-such d as_read (Queue pt till header request ∷ items) bytes is m h = h
read-such d as_read (NextWaiting pt ∷ items) bytes is m h = h
read-such d as_read (Oversized pt ∷ items) bytes is m h = h
read-such d as_read (LinkLost pt ∷ items) bytes is m h = h
read-such d as_read (Late pt ∷ items) bytes is m h = h
read-such d as_read (Overdue key ∷ items) bytes is m h = h
read-such d as_read (Due pt ∷ items) bytes is m h = h

holds-read : (d : Duty) (v : View) (as_read : ReadAs) → IsDuty d → Holds d v → IsRead v as_read → Holds d (after v (Read as_read))
holds-read d v as_read is (inr dead) r = dead-round v.scene.stage dead r.idle.round
holds-read d v as_read is (inl w) r = by_both w.unlost w.owed
  where
    by_both : IsUnlost d.pt v → HasSuch d v.items ⊎ ((v.scene.stage ≡ Handling) × (v.calls ≡ d.call ∷ [])) → Holds d (after v (Read as_read))
    by_both (inr lost) owed = read-losing v as_read lost.0 r
    by_both (inl s) (inr owed) = absurd (let n : [] ≡ d.call ∷ [] = sym r.idle.calls ∙ owed.1 in cc)
    by_both (inl s) (inl has) = inl (record {
      run = read-run v as_read w.run r.idle.round;
      ends = refl;
      unlost = inl (read-settled v as_read s);
      state_is = w.state_is;
      moment_is = w.moment_is;
      round = ap is_round (round-busy v.scene.stage r.idle.round);
      polled = λ polled. handling-only (busy v.scene.stage) (round-busy v.scene.stage r.idle.round) polled;
      owed = inl (read-such d as_read v.items r.bytes is r.message has);
    })

-- ---- along the course

holds-polled : {A : Type 0} (d : Duty) (v : View) (now : ℤ) → Holds d v → AllowedTurn v (Polled now) → A
holds-polled d v now (inr dead) ok = dead-running v.scene.stage dead ok.running
holds-polled {A} d v now (inl w) ok = by_owed w.owed
  where
    by_owed : HasSuch d v.items ⊎ ((v.scene.stage ≡ Handling) × (v.calls ≡ d.call ∷ [])) → A
    by_owed (inl (item, p, among)) = none-among item v.items among ok.items
    by_owed (inr owed) = absurd (let n : [] ≡ d.call ∷ [] = sym ok.calls ∙ owed.1 in cc)

-- a turn that does it is among these
abbrev pub IsDoneIn : Duty → List Turn → Type 0
IsDoneIn d turns = (first : List Turn) × (turn : Turn) × (rest : List Turn) × (turns ≡ first ++ turn ∷ rest) × (d.done turn ≡ true)

done-later : (d : Duty) (turn : Turn) (turns : List Turn) → IsDoneIn d turns → IsDoneIn d (turn ∷ turns)
done-later d turn turns (first, done, rest, e, is) = (turn ∷ first, done, rest, ap (λ l. turn ∷ l) e, is)

-- where the duty holds it is done before the next poll
pub done-before-poll : (d : Duty) (now : ℤ) (rest : List Turn) (v : View) (moves : List Move) (inside : List Turn) → IsDuty d → Holds d v → IsCourse v moves → turns_of moves ≡ inside ++ Polled now ∷ rest → AreOfRound inside → IsDoneIn d inside
done-before-poll d now rest v [] [] is h c e a = absurd (let n : [] ≡ Polled now ∷ rest = e in cc)
done-before-poll d now rest v [] (turn ∷ inside) is h c e a = absurd (let n : [] ≡ turn ∷ (inside ++ Polled now ∷ rest) = e in cc)
done-before-poll d now rest v (Begin ∷ moves) inside is h c e a = done-before-poll d now rest (after v Begin) moves inside is (holds-begin d v is h c.0) c.1 e a
done-before-poll d now rest v (Read as_read ∷ moves) inside is h c e a = done-before-poll d now rest (after v (Read as_read)) moves inside is (holds-read d v as_read is h c.0) c.1 e a
done-before-poll d now rest v (Make turn ∷ moves) [] is h c e a =
    let heads : turn ≡ Polled now = (let n : turn ∷ turns_of moves ≡ Polled now ∷ rest = e in cc) in
    holds-polled d v now h (subst (AllowedTurn v) heads c.0)
done-before-poll d now rest v (Make turn ∷ moves) (other ∷ inside) is h c e a =
    let heads : turn ≡ other = (let n : turn ∷ turns_of moves ≡ other ∷ (inside ++ Polled now ∷ rest) = e in cc) in
    let tails : turns_of moves ≡ inside ++ Polled now ∷ rest = (let n : turn ∷ turns_of moves ≡ other ∷ (inside ++ Polled now ∷ rest) = e in cc) in
    by_after (λ holds. done-before-poll d now rest (after_turn v turn) moves inside is holds c.1 tails a.1) heads (holds-turn d v turn is h c.0 (ap (λ t. is_sort_of_round (sort_of t)) heads ∙ a.0))
  where
    by_after : (Holds d (after_turn v turn) → IsDoneIn d inside) → turn ≡ other → After d v turn → IsDoneIn d (other ∷ inside)
    by_after more heads (inl done) = ([], other, inside, refl, ap d.done (sym heads) ∙ done)
    by_after more heads (inr holds) = done-later d other inside (more holds)
