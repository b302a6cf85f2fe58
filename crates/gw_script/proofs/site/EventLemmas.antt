-- A log of one run that plays lines to the end has the events and polls of these lines.
use Rattle.std.proofs.Common.{◌≡◌, ℕ, zero, suc, ◌≤◌, List, [], ◌∷◌, ◌++◌, length, refl, sym, ◌∙◌, ap, subst, arith, append_assoc, inl, inr, true, false}
use Rattle.std.specs.List.{flat_map}
use Rattle.std.specs.Prelude.{◌⊎◌, ℤ, pos, ◌-◌, nat_le, Bool, ◌==◌, if◌then◌else◌, map, Option, Some, None}
use Rattle.gw_site.specs.Outside.{Outside, outside_after, nothing_yet}
use Rattle.gw_site.specs.declared.turn.Turn.{Turn}
use Rattle.gw_site.specs.declared.turn.Turn.TheVariants.{Start, OpenFailed, Polled, Opened, HeardTill, Closed, HeardPt, Lost, Stopped, Linked, LinkFailed, SentTill, SentPt, CutTill, CutPt, Wrote, Synced, DiskFailed, Crash}
use Rattle.gw_site.specs.Steps.{ImageKind}
use Rattle.gw_script.specs.site.ByLines.{IsRunToStop}
use Rattle.gw_script.specs.site.Events.{Timed, timed, last_moment_of, AreSomeOf, event_of, poll_of, HasEventsFrom, RunHasEvents}
use Rattle.gw_script.specs.site.Hazards.{Armed, armed, is_reached, links_without, sends_without}
use Rattle.gw_script.specs.site.ScriptLine.{Failing, Event, Open, Close, FromTill, FromPt, Lose, Tick, PlayedLine, At, Poll, Fail, Power, ForgetPower}
use Rattle.gw_script.specs.site.Playing.{DiskCall, Write, Sync, Length, Read, Leads, Play, applies, begins, brings, brought, counted, disk_failed, early_lines, fails_next, is_early, is_off, linked_to_pt, met, met_coming, one_call_less, play_after, power_forgotten, powered, send_failed_pt, send_failed_till, sent_to_pt, then_coming}
use Rattle.gw_script.specs.site.Peers.{Peers, no_peers, peers_after_bytes, peers_after_link}
use Rattle.gw_script.proofs.site.ByLinesLemmas.{none_due, only_due, the_stop}

-- ---- calls

-- as many lines are left, at the same moment, the same event is due, and the terminals that are played are the same
abbrev IsSamePlace : Play → Play → Type 0
IsSamePlace p q = (q.lines ≡ p.lines) × (q.moment ≡ p.moment) × (q.due ≡ p.due) × (q.peers ≡ p.peers)

counted_same : (p : Play) → IsSamePlace p (counted p)
counted_same p = by_power p.hazard.power
  where
    by_last : (armed : Armed) (last : Bool) → IsSamePlace p (if last then is_off armed.kind p else powered (armed.calls - 1) armed.kind p)
    by_last armed true = (refl, refl, refl, refl)
    by_last armed false = (refl, refl, refl, refl)

    by_power : (power : Option Armed) → IsSamePlace p (one_call_less power p)
    by_power None = (refl, refl, refl, refl)
    by_power (Some armed) = by_last armed (nat_le armed.calls 1)

till_same : (p : Play) (till : ℕ) (ok : Bool) → IsSamePlace p (send_failed_till till ok p)
till_same p till true = counted_same p
till_same p till false = counted_same (record p { hazard = record p.hazard { fail_tills = sends_without p.hazard.fail_tills till } })

pt_same : (p : Play) (pt : ℕ) (ok : Bool) → IsSamePlace p (send_failed_pt pt ok p)
pt_same p pt true = counted_same p
pt_same p pt false = counted_same (record p { hazard = record p.hazard { fail_pts = sends_without p.hazard.fail_pts pt } })

disk_same : (p : Play) (call : DiskCall) → IsSamePlace p (disk_failed call p)
disk_same p Write = (refl, refl, refl, refl)
disk_same p Sync = counted_same (record p { hazard = record p.hazard { fail_sync = false } })
disk_same p Length = (refl, refl, refl, refl)
disk_same p Read = (refl, refl, refl, refl)

-- where no terminal is played, a link and a send change no terminal
link_same : (p : Play) (pt : ℕ) → p.peers ≡ no_peers → IsSamePlace p (counted (linked_to_pt pt p))
link_same p pt none =
    let same = counted_same (linked_to_pt pt p) in
    (same.0, same.1, same.2, same.3 ∙ ap (peers_after_link pt) none ∙ sym none)

send_same : (p : Play) (pt : ℕ) (bytes : List ℕ) (ok : Bool) → p.peers ≡ no_peers → IsSamePlace p (send_failed_pt pt ok (sent_to_pt pt bytes p))
send_same p pt bytes ok none =
    let same = pt_same (sent_to_pt pt bytes p) pt ok in
    (same.0, same.1, same.2, same.3 ∙ ap (peers_after_bytes pt bytes) none ∙ sym none)

-- ---- what a poll meets

-- it meets an event of these lines, and some lines are left
abbrev MeetsEvent : ℤ → List PlayedLine → Play → Type 0
MeetsEvent moment lines m = (event : Event) × (m.due ≡ brings event) × ((played : List Timed) → AreSomeOf played (timed m.moment m.lines) → AreSomeOf (record { moment = m.moment; event = event } ∷ played) (timed moment lines)) × (last_moment_of m.moment m.lines ≡ last_moment_of moment lines)

-- it meets the end
abbrev MeetsEnd : ℤ → List PlayedLine → Play → Type 0
MeetsEnd moment lines m = (m.due ≡ Stopped ∷ []) × (m.moment ≡ last_moment_of moment lines)

-- it meets a power failure
abbrev MeetsPower : Play → Type 0
MeetsPower m = (kind : ImageKind) × (m.off ≡ Some kind)

abbrev Meets : ℤ → List PlayedLine → Play → Type 0
Meets moment lines m = MeetsEvent moment lines m ⊎ (MeetsEnd moment lines m ⊎ MeetsPower m)

-- a line that is skipped
meets_later : (moment : ℤ) (event : Event) (lines : List PlayedLine) (m : Play) → Meets moment lines m → Meets moment (Poll event ∷ lines) m
meets_later moment event lines m (inl (met_event, due, some, last)) = inl (met_event, due, λ played are. inr (some played are), last)
meets_later moment event lines m (inr other) = inr other

meets : (o : Outside) (lines : List PlayedLine) (p : Play) → Meets p.moment lines (met o p lines)
meets o [] p = inr (inl (refl, refl))
meets o (At now ∷ lines) p = meets o lines (record p { moment = now })
meets o (Poll event ∷ lines) p = by_test (applies o event) (meets o lines p)
  where
    by_test : (test : Bool) → Meets p.moment lines (met o p lines) → Meets p.moment (Poll event ∷ lines) (if test then record p { lines = lines; due = brings event } else met o p lines)
    by_test true later = inl (event, refl, λ played are. inl (refl, are), refl)
    by_test false later = meets_later p.moment event lines (met o p lines) later
meets o (Fail failing ∷ lines) p = by_test (is_reached o failing) (meets o lines (record p { hazard = armed failing p.hazard })) (meets o lines p)
  where
    by_test : (test : Bool) → Meets p.moment lines (met o (record p { hazard = armed failing p.hazard }) lines) → Meets p.moment lines (met o p lines)
        → Meets p.moment (Fail failing ∷ lines) (met o (if test then record p { hazard = armed failing p.hazard } else p) lines)
    by_test true reached passed = reached
    by_test false reached passed = passed
meets o (Power calls kind ∷ lines) p = by_test (calls == 0) (meets o lines (powered calls kind p))
  where
    by_test : (test : Bool) → Meets p.moment lines (met o (powered calls kind p) lines) → Meets p.moment (Power calls kind ∷ lines) (if test then is_off kind (record p { lines = lines }) else met o (powered calls kind p) lines)
    by_test true later = inr (inr (kind, refl))
    by_test false later = later
meets o (ForgetPower ∷ lines) p = meets o lines (power_forgotten p)

-- it leaves the terminals that are played
passed_peers : (o : Outside) (failing : Failing) (p : Play) → (fails_next o failing p).peers ≡ p.peers
passed_peers o failing p = by_test (is_reached o failing)
  where
    by_test : (test : Bool) → (if test then record p { hazard = armed failing p.hazard } else p).peers ≡ p.peers
    by_test true = refl
    by_test false = refl

met_peers : (o : Outside) (p : Play) (lines : List PlayedLine) → (met o p lines).peers ≡ p.peers
met_peers o p [] = refl
met_peers o p (At now ∷ lines) = met_peers o (record p { moment = now }) lines
met_peers o p (Poll event ∷ lines) = by_test (applies o event) (met_peers o p lines)
  where
    by_test : (test : Bool) → (met o p lines).peers ≡ p.peers → (if test then record p { lines = lines; due = brings event } else met o p lines).peers ≡ p.peers
    by_test true later = refl
    by_test false later = later
met_peers o p (Fail failing ∷ lines) = met_peers o (fails_next o failing p) lines ∙ passed_peers o failing p
met_peers o p (Power calls kind ∷ lines) = by_test (calls == 0) (met_peers o (powered calls kind p) lines)
  where
    by_test : (test : Bool) → (met o (powered calls kind p) lines).peers ≡ p.peers → (if test then is_off kind (record p { lines = lines }) else met o (powered calls kind p) lines).peers ≡ p.peers
    by_test true later = refl
    by_test false later = later
met_peers o p (ForgetPower ∷ lines) = met_peers o (power_forgotten p) lines

-- where no terminal is played, a poll goes on in the lines
plain_poll : (o : Outside) (p : Play) → p.peers ≡ no_peers → met_coming o p.peers.coming p ≡ met o (then_coming [] p) p.lines
plain_poll o p none = ap (λ (peers : Peers). met_coming o peers.coming p) none

plain_met : (o : Outside) (p : Play) → p.peers ≡ no_peers → (met o (then_coming [] p) p.lines).peers ≡ no_peers
plain_met o p none = met_peers o (then_coming [] p) p.lines ∙ ap (λ (peers : Peers). record peers { coming = [] }) none

-- ---- the turns after a place between two calls

-- the claim for so many turns
abbrev Claim : ℕ → Type 0
Claim n = (o : Outside) (p : Play) (turns : List Turn) (q : Play) → length turns ≤ n → p.due ≡ [] → p.peers ≡ no_peers → Leads o p turns q → IsRunToStop turns → HasEventsFrom p.moment p.lines turns

-- a call adds no event and no poll
after_call : (n : ℕ) → Claim n → (o : Outside) (p next : Play) (turn : Turn) (turns : List Turn) (q : Play) → event_of turn ≡ [] → poll_of turn ≡ [] → IsSamePlace p next → length turns ≤ n → p.due ≡ [] → p.peers ≡ no_peers → Leads o next turns q → IsRunToStop turns → HasEventsFrom p.moment p.lines (turn ∷ turns)
after_call n claim o p next turn turns q no_event no_poll same le due none leads run =
    let g : HasEventsFrom p.moment p.lines turns = subst (λ moment. HasEventsFrom moment p.lines turns) same.1 (subst (λ lines. HasEventsFrom next.moment lines turns) same.0 (claim o next turns q le (same.2 ∙ due) (same.3 ∙ none) leads run)) in
    record {
      played = g.played;
      of_lines = g.of_lines;
      events = ap (λ first. first ++ flat_map event_of turns) no_event ∙ g.events;
      polls = ap (λ first. first ++ flat_map poll_of turns) no_poll ∙ g.polls;
    }

-- the event comes, and then turns
record Heard (m : Play) (event : Event) (turns : List Turn) : Type 0 where
  later : List Turn
  events : flat_map event_of turns ≡ brings event ++ flat_map event_of later
  polls : flat_map poll_of turns ≡ flat_map poll_of later
  gives : HasEventsFrom m.moment m.lines later

-- an event that has a turn
record HasTurn (event : Event) (turn : Turn) : Type 0 where
  brings_is : brings event ≡ turn ∷ []
  is_brought : (o : Outside) (call : DiskCall) (p : Play) → play_after o call p turn ≡ brought p
  runs_on : (more : List Turn) → IsRunToStop (turn ∷ more) → IsRunToStop more
  is_event : event_of turn ≡ turn ∷ []
  no_poll : poll_of turn ≡ []

heard_one : (n : ℕ) → Claim n → (o : Outside) (m : Play) (event : Event) (turn : Turn) (turns : List Turn) (q : Play) → HasTurn event turn → length turns ≤ n → m.due ≡ brings event → m.peers ≡ no_peers → Leads o m turns q → IsRunToStop turns → Heard m event turns
heard_one n claim o m event turn [] q has le due none leads run = absurd run
heard_one n claim o m event turn (first ∷ turns) q has le due none (c, f, leads) run =
    let same = only_due o c m first turn (due ∙ has.brings_is) f in
    let l : Leads (outside_after o turn) (play_after o c m turn) turns q = subst (λ t. Leads (outside_after o t) (play_after o c m t) turns q) same leads in
    record {
      later = turns;
      events = ap (λ t. event_of t ++ flat_map event_of turns) same ∙ ap (λ these. these ++ flat_map event_of turns) (has.is_event ∙ sym has.brings_is);
      polls = ap (λ t. poll_of t ++ flat_map poll_of turns) same ∙ ap (λ these. these ++ flat_map poll_of turns) has.no_poll;
      gives = claim (outside_after o turn) (brought m) turns q (omega (arith, le)) refl none (subst (λ p. Leads (outside_after o turn) p turns q) (has.is_brought o c m) l)
          (has.runs_on turns (subst (λ t. IsRunToStop (t ∷ turns)) same run));
    }

heard : (n : ℕ) → Claim n → (o : Outside) (m : Play) (event : Event) (turns : List Turn) (q : Play) → length turns ≤ n → m.due ≡ brings event → m.peers ≡ no_peers → Leads o m turns q → IsRunToStop turns → Heard m event turns
heard n claim o m (Open till) turns q le due none leads run = heard_one n claim o m (Open till) (Opened till) turns q (record { brings_is = refl; is_brought = λ o call p. refl; runs_on = λ more r. r; is_event = refl; no_poll = refl }) le due none leads run
heard n claim o m (Close till) turns q le due none leads run = heard_one n claim o m (Close till) (Closed till) turns q (record { brings_is = refl; is_brought = λ o call p. refl; runs_on = λ more r. r; is_event = refl; no_poll = refl }) le due none leads run
heard n claim o m (FromTill till bytes) turns q le due none leads run = heard_one n claim o m (FromTill till bytes) (HeardTill till bytes) turns q (record { brings_is = refl; is_brought = λ o call p. refl; runs_on = λ more r. r; is_event = refl; no_poll = refl }) le due none leads run
heard n claim o m (FromPt pt bytes) turns q le due none leads run = heard_one n claim o m (FromPt pt bytes) (HeardPt pt bytes) turns q (record { brings_is = refl; is_brought = λ o call p. refl; runs_on = λ more r. r; is_event = refl; no_poll = refl }) le due none leads run
heard n claim o m (Lose pt) turns q le due none leads run = heard_one n claim o m (Lose pt) (Lost pt) turns q (record { brings_is = refl; is_brought = λ o call p. refl; runs_on = λ more r. r; is_event = refl; no_poll = refl }) le due none leads run
heard n claim o m Tick turns q le due none leads run = record { later = turns; events = refl; polls = refl; gives = claim o m turns q le due none leads run }

-- a poll, and what it meets
polled_event : (moment : ℤ) (lines : List PlayedLine) (m : Play) (now : ℤ) (turns : List Turn) → now ≡ m.moment → (x : MeetsEvent moment lines m) → Heard m x.0 turns → HasEventsFrom moment lines (Polled now ∷ turns)
polled_event moment lines m now turns is (event, due, some, last) h =
    let line : Timed = record { moment = m.moment; event = event } in
    record {
      played = line ∷ h.gives.played;
      of_lines = some h.gives.played h.gives.of_lines;
      events = h.events ∙ ap (λ these. brings event ++ these) h.gives.events ∙ sym (append_assoc (brings event) (flat_map (λ (other : Timed). brings other.event) h.gives.played) (Stopped ∷ []));
      polls = ap (λ these. Polled now ∷ these) (h.polls ∙ h.gives.polls ∙ ap (λ end. map (λ (other : Timed). Polled other.moment) h.gives.played ++ Polled end ∷ []) last)
          ∙ ap (λ at. Polled at ∷ (map (λ (other : Timed). Polled other.moment) h.gives.played ++ Polled (last_moment_of moment lines) ∷ [])) is;
    }

polled : (n : ℕ) → Claim n → (o : Outside) (moment : ℤ) (lines : List PlayedLine) (m : Play) (now : ℤ) (turns : List Turn) (q : Play) → Meets moment lines m → length turns ≤ n → m.off ≡ None → m.peers ≡ no_peers → now ≡ m.moment → Leads o m turns q → IsRunToStop turns → HasEventsFrom moment lines (Polled now ∷ turns)
polled n claim o moment lines m now turns q (inl x) le on none is leads run = polled_event moment lines m now turns is x (heard n claim o m x.0 turns q le x.1 none leads run)
polled n claim o moment lines m now turns q (inr (inl (due, last))) le on none is leads run =
    let stop = the_stop o m turns q due leads run in
    record { played = []; of_lines = tt; events = ap (flat_map event_of) stop; polls = ap (λ these. Polled now ∷ flat_map poll_of these) stop ∙ ap (λ at. Polled at ∷ []) (is ∙ last) }
polled n claim o moment lines m now turns q (inr (inr (kind, off))) le on none is leads run = absurd (let h : None ≡ Some kind = sym on ∙ off in cc)

gives : (n : ℕ) → Claim n
gives n o p [] q le due none leads run = absurd run
gives zero o p (turn ∷ turns) q le due none leads run = absurd (omega (arith, le))
gives (suc n) o p (Start setup ∷ turns) q le due none leads run = absurd run
gives (suc n) o p (OpenFailed ∷ turns) q le due none leads run = absurd run
gives (suc n) o p (Polled now ∷ turns) q le due none (c, f, leads) run =
    let there = outside_after o (Polled now) in
    let m = met o (then_coming [] p) p.lines in
    let same : met_coming o p.peers.coming p ≡ m = plain_poll o p none in
    polled n (gives n) there p.moment p.lines m now turns q (meets o p.lines (then_coming [] p)) (omega (arith, le))
    (ap (λ (x : Play). x.off) (sym same) ∙ f.1) (plain_met o p none) (f.2 ∙ ap (λ (x : Play). x.moment) same) (subst (λ x. Leads there x turns q) same leads) run
gives (suc n) o p (Opened till ∷ turns) q le due none (c, f, leads) run = none_due p (Opened till) due f
gives (suc n) o p (HeardTill till bytes ∷ turns) q le due none (c, f, leads) run = none_due p (HeardTill till bytes) due f
gives (suc n) o p (Closed till ∷ turns) q le due none (c, f, leads) run = none_due p (Closed till) due f
gives (suc n) o p (HeardPt pt bytes ∷ turns) q le due none (c, f, leads) run = none_due p (HeardPt pt bytes) due f
gives (suc n) o p (Lost pt ∷ turns) q le due none (c, f, leads) run = none_due p (Lost pt) due f
gives (suc n) o p (Stopped ∷ turns) q le due none (c, f, leads) run = none_due p Stopped due f
gives (suc n) o p (Linked pt ∷ turns) q le due none (c, f, leads) run = after_call n (gives n) _ p _ (Linked pt) turns q refl refl (link_same p pt none) (omega (arith, le)) due none leads run
gives (suc n) o p (LinkFailed pt ∷ turns) q le due none (c, f, leads) run = after_call n (gives n) _ p _ (LinkFailed pt) turns q refl refl (counted_same (record p { hazard = record p.hazard { fail_links = links_without p.hazard.fail_links pt } })) (omega (arith, le)) due none leads run
gives (suc n) o p (SentTill till bytes ok ∷ turns) q le due none (c, f, leads) run = after_call n (gives n) _ p _ (SentTill till bytes ok) turns q refl refl (till_same p till ok) (omega (arith, le)) due none leads run
gives (suc n) o p (SentPt pt bytes ok ∷ turns) q le due none (c, f, leads) run = after_call n (gives n) _ p _ (SentPt pt bytes ok) turns q refl refl (send_same p pt bytes ok none) (omega (arith, le)) due none leads run
gives (suc n) o p (CutTill till ∷ turns) q le due none (c, f, leads) run = after_call n (gives n) _ p _ (CutTill till) turns q refl refl (counted_same p) (omega (arith, le)) due none leads run
gives (suc n) o p (CutPt pt ∷ turns) q le due none (c, f, leads) run = after_call n (gives n) _ p _ (CutPt pt) turns q refl refl (counted_same p) (omega (arith, le)) due none leads run
gives (suc n) o p (Wrote offset bytes ∷ turns) q le due none (c, f, leads) run = after_call n (gives n) _ p _ (Wrote offset bytes) turns q refl refl (counted_same (record p { failing = p.hazard.fail_write; hazard = record p.hazard { fail_write = false } })) (omega (arith, le)) due none leads run
gives (suc n) o p (Synced ∷ turns) q le due none (c, f, leads) run = after_call n (gives n) _ p _ Synced turns q refl refl (counted_same p) (omega (arith, le)) due none leads run
gives (suc n) o p (DiskFailed ∷ turns) q le due none (c, f, leads) run = after_call n (gives n) _ p _ DiskFailed turns q refl refl (disk_same p c) (omega (arith, le)) due none leads run
gives (suc n) o p (Crash file ∷ turns) q le due none leads run = absurd run

-- ---- the first place

-- lines that take effect before the first run poll nothing, and set no moment
early_timed : (lines : List PlayedLine) (moment : ℤ) → timed moment (early_lines lines) ≡ timed moment lines
early_timed [] moment = refl
early_timed (At now ∷ lines) moment = early_timed lines now
early_timed (Poll event ∷ lines) moment = refl
early_timed (Fail failing ∷ lines) moment = by_test (is_early failing) (early_timed lines moment)
  where
    by_test : (test : Bool) → timed moment (early_lines lines) ≡ timed moment lines → timed moment (if test then early_lines lines else Fail failing ∷ early_lines lines) ≡ timed moment lines
    by_test true e = e
    by_test false e = e
early_timed (Power calls kind ∷ lines) moment = early_timed lines moment
early_timed (ForgetPower ∷ lines) moment = early_timed lines moment

early_last : (lines : List PlayedLine) (moment : ℤ) → last_moment_of moment (early_lines lines) ≡ last_moment_of moment lines
early_last [] moment = refl
early_last (At now ∷ lines) moment = early_last lines now
early_last (Poll event ∷ lines) moment = refl
early_last (Fail failing ∷ lines) moment = by_test (is_early failing) (early_last lines moment)
  where
    by_test : (test : Bool) → last_moment_of moment (early_lines lines) ≡ last_moment_of moment lines → last_moment_of moment (if test then early_lines lines else Fail failing ∷ early_lines lines) ≡ last_moment_of moment lines
    by_test true e = e
    by_test false e = e
early_last (Power calls kind ∷ lines) moment = early_last lines moment
early_last (ForgetPower ∷ lines) moment = early_last lines moment

pub run-has-events : RunHasEvents
run-has-events lines setup turns run (q, (c, f, leads)) =
    let g = after_call (length turns) (gives (length turns)) (outside_after nothing_yet (Start setup)) (begins lines) (counted (begins lines)) (Start setup) turns q refl refl (counted_same (begins lines)) (omega arith) refl refl leads run in
    record {
      played = g.played;
      of_lines = subst (AreSomeOf g.played) (early_timed lines (pos 0)) g.of_lines;
      events = g.events;
      polls = g.polls ∙ ap (λ end. map (λ (line : Timed). Polled line.moment) g.played ++ Polled end ∷ []) (early_last lines (pos 0));
    }
