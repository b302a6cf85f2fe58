-- From a lawful log that goes by lines without failures to the acts of it: each turn of a call is the outcome of the call that is owed, and the file is looked at once it was synced.
use Rattle.std.proofs.Common.{◌≡◌, ℕ, zero, suc, ◌≤◌, length, arith, List, [], ◌∷◌, ◌++◌, refl, sym, ◌∙◌, ap, subst, inl, inr, true, false, append-nil}
use Rattle.std.specs.Prelude.{◌⊎◌, ℤ, pos, Bool, Some, None, if◌then◌else◌, map}
use Rattle.gw_base.specs.declared.setup.Setup.{Setup}
use Rattle.gw_site.specs.Outside.{Outside, outside_after, outside_of, nothing_yet}
use Rattle.gw_site.specs.Sorts.{IsQuiet, is_between}
use Rattle.gw_site.specs.Steps.{SiteCall, OpenCall, PollCall, LengthCall, ReadCall, Made, PowerBack, turns_of_steps, steps_of}
use Rattle.gw_site.specs.declared.turn.Turn.{Turn}
use Rattle.gw_site.specs.declared.turn.Turn.TheVariants.{Start, OpenFailed, Polled, Opened, HeardTill, Closed, HeardPt, Lost, Stopped, Linked, LinkFailed, SentTill, SentPt, CutTill, CutPt, Wrote, Synced, DiskFailed, Crash}
use Rattle.gw_site.proofs.OutsideLemmas.{outside_of-append, outside_of_more}
use Rattle.gw_script.specs.site.ByLines.{HasNoFailures}
use Rattle.gw_script.specs.site.Calls.{CallFits, call_turns, place_after, polled_place, polled_turns}
use Rattle.gw_script.specs.site.Hazards.{Hazard, no_hazard}
use Rattle.gw_script.specs.site.Playing as playing
use Rattle.gw_script.specs.site.Playing.{DiskCall, DiskFails, Fits, Leads, Play, PlaysLines, after_poll, applies, begins, brings, brought, early_hazard, early_lines, met, play_after, rests}
use Rattle.gw_script.specs.site.ScriptLine.{Event, Open, Close, FromTill, FromPt, Lose, Tick, PlayedLine, At, Poll, Fail, Power, ForgetPower}
use Rattle.gw_script.specs.site.StepTurns.{turns_by}
use Rattle.gw_script.proofs.site.ByLinesLemmas.{none_due, only_due}
use Rattle.gw_script.proofs.site.StepTurnLemmas.{first-has-its-turns}
use Rattle.gw_owes.specs.Calls as owed
use Rattle.gw_owes.specs.Calls.{OwedCall, SendTill, SendPt, LinkPt, WriteBody, WriteGate, WriteFirstGate, Sync, sending_bytes, site_call, write_turn}
use Rattle.gw_owes.specs.ReadAs.{ReadAs}
use Rattle.gw_rules.specs.Acts.{Act, ToBegin, ToRead, ToTake, Look, Unopened, Unmeasured, Measured, Looked, IsDueCall, IsMeasuring, IsOwedCall, is_to_read, look_after_call, moves_of, taken_of}
use Rattle.gw_rules.specs.Lawful.{Allowed, AllowedTurn, IsCourse, IsNext, MayPoll, turns_of}
use Rattle.gw_rules.specs.Stage.{Handling, AtPoll, busy, is_looking}
use Rattle.gw_rules.specs.View.{View, Move, Begin, Read, Make, after, after_turn, at_first, view_from}
use Rattle.gw_rules.proofs.CourseLemmas.{begin-stage, course-append}
use Rattle.gw_rules.proofs.StageLemmas.{handling-not-polled, no-true, round-busy}
use Rattle.gw_run.specs.ScriptLog.{IsStopped}
use Rattle.gw_run.proofs.EndLemmas.{stops-later}
use Rattle.gw_run.proofs.OneLogKeptLemmas.{owed-looks}
use Rattle.gw_run.proofs.OneLogStepLemmas.{Goes, turns-before}

-- between two calls, where nothing fails
abbrev pub calm : List PlayedLine → ℤ → Play
calm lines moment = rests lines moment no_hazard

-- ---- acts along a log

-- acts from here on with this log, which leave no power failure
pub record ActsFor (own : Setup) (v : View) (look : Look) (past : List Turn) (p : Play) (log : List Turn) : Type 0 where
  pub acts : List Act
  pub goes : Goes own v look past p acts
  pub parts : turns_by past p (steps_of (taken_of acts)) ≡ turns_of_steps (taken_of acts)
  pub log_is : turns_of (moves_of acts) ≡ log

no-more : (own : Setup) (v : View) (look : Look) (past : List Turn) (lines : List PlayedLine) (moment : ℤ) → ActsFor own v look past (calm lines moment) []
no-more own v look past lines moment = record { acts = []; goes = record { lawful = tt; due = tt; turns = refl }; parts = refl; log_is = refl }

begin-more : (own : Setup) (v : View) (look : Look) (past : List Turn) (p : Play) (log : List Turn) → Allowed v Begin → ActsFor own (after v Begin) look past p log → ActsFor own v look past p log
begin-more own v look past p log ok a = record { acts = ToBegin ∷ a.acts; goes = record { lawful = (ok, a.goes.lawful); due = (tt, a.goes.due); turns = a.goes.turns }; parts = a.parts; log_is = a.log_is }

read-more : (own : Setup) (v : View) (look : Look) (past : List Turn) (p : Play) (as_read : ReadAs) (log : List Turn) → Allowed v (Read as_read) → ActsFor own (after v (Read as_read)) look past p log → ActsFor own v look past p log
read-more own v look past p as_read log ok a = record { acts = ToRead as_read ∷ a.acts; goes = record { lawful = (ok, a.goes.lawful); due = (tt, a.goes.due); turns = a.goes.turns }; parts = a.parts; log_is = a.log_is }

-- a call comes first
pub call-more : (own : Setup) (v : View) (look : Look) (past : List Turn) (p : Play) (call : SiteCall) (turns log : List Turn) → IsDueCall own v look call → CallFits (outside_of past) p call turns → IsCourse v (map Make turns)
    → ActsFor own (view_from v (map Make turns)) (look_after_call own v look call) (past ++ turns) (place_after (outside_of past) p call) log → ActsFor own v look past p (turns ++ log)
call-more own v look past p call turns log due fits lawful a = record {
  acts = ToTake (record { step = Made call; turns = turns }) ∷ a.acts;
  goes = record {
    lawful = course-append v (map Make turns) (moves_of a.acts) lawful a.goes.lawful;
    due = (due, a.goes.due);
    turns = first-has-its-turns.taken past p (Made call) turns (steps_of (taken_of a.acts) ++ PowerBack ∷ []) fits ∙ ap (λ parts. turns ∷ parts) a.goes.turns;
  };
  parts = first-has-its-turns.taken past p (Made call) turns (steps_of (taken_of a.acts)) fits ∙ ap (λ parts. turns ∷ parts) a.parts;
  log_is = turns-before turns (moves_of a.acts) ∙ ap (λ l. turns ++ l) a.log_is;
}

-- ---- looks

-- the file need not be looked at now
abbrev pub IsSettled : View → Look → Type 0
IsSettled v look = (look ≡ Looked) ⊎ ((look ≡ Unmeasured) × (is_looking v.scene.stage ≡ false))

settled-due : (own : Setup) (v : View) (look : Look) (call : SiteCall) → IsSettled v look → IsOwedCall v call → IsDueCall own v look call
settled-due own v look call (inl e) owed = subst (λ l. IsDueCall own v l call) (sym e) (inl owed)
settled-due own v look call (inr (e, f)) owed = subst (λ l. IsDueCall own v l call) (sym e) (subst (λ looks. IsMeasuring looks v call) (sym f) owed)

-- in a round nothing changes of that
settled-round : (v w : View) (look : Look) → w.scene.stage ≡ Handling → IsSettled v look → IsSettled w look
settled-round v w look handles (inl e) = inl e
settled-round v w look handles (inr (e, f)) = inr (e, ap is_looking handles)

-- a look at the file leaves no turn
look-more : (own : Setup) (v : View) (look : Look) (past : List Turn) (lines : List PlayedLine) (moment : ℤ) (log : List Turn) (call : SiteCall) → IsDueCall own v look call → call_turns (outside_of past) (calm lines moment) call ≡ [] → place_after (outside_of past) (calm lines moment) call ≡ calm lines moment
    → ActsFor own v (look_after_call own v look call) past (calm lines moment) log → ActsFor own v look past (calm lines moment) log
look-more own v look past lines moment log call due none same a =
    call-more own v look past (calm lines moment) call [] log due (record { no_event = refl; no_failure = refl; power = refl }, sym none) tt
    (subst (λ p. ActsFor own v (look_after_call own v look call) (past ++ []) p log) (sym same) (subst (λ l. ActsFor own v (look_after_call own v look call) l (calm lines moment) log) (sym (append-nil past)) a))

measured : (own : Setup) (v : View) (past : List Turn) (lines : List PlayedLine) (moment : ℤ) (log : List Turn) → is_looking v.scene.stage ≡ true → ActsFor own v Looked past (calm lines moment) log → ActsFor own v Unmeasured past (calm lines moment) log
measured own v past lines moment log looks a =
    look-more own v Unmeasured past lines moment log LengthCall (subst (λ l. IsMeasuring l v LengthCall) (sym looks) refl) refl refl (by_test (is_to_read own.slots v) refl)
  where
    by_test : (test : Bool) → is_to_read own.slots v ≡ test → ActsFor own v (if test then Measured else Looked) past (calm lines moment) log
    by_test true e = look-more own v Measured past lines moment log (ReadCall 0 1) (record { to_read = e; offset = 0; size = 1; call_is = refl }) refl refl a
    by_test false e = a

-- the acts from any look on, by those from a look that is settled
settle : (own : Setup) (v : View) (look : Look) (past : List Turn) (lines : List PlayedLine) (moment : ℤ) (log : List Turn) → (look ≡ Looked) ⊎ (look ≡ Unmeasured) → ((settled : Look) → IsSettled v settled → ActsFor own v settled past (calm lines moment) log) → ActsFor own v look past (calm lines moment) log
settle own v look past lines moment log (inl e) again = again look (inl e)
settle own v look past lines moment log (inr e) again = subst (λ l. ActsFor own v l past (calm lines moment) log) (sym e) (by_looks (is_looking v.scene.stage) refl)
  where
    by_looks : (looks : Bool) → is_looking v.scene.stage ≡ looks → ActsFor own v Unmeasured past (calm lines moment) log
    by_looks true f = measured own v past lines moment log f (again Looked (inl refl))
    by_looks false f = again Unmeasured (inr (refl, f))

some-look : (v : View) (look : Look) → IsSettled v look → (look ≡ Looked) ⊎ (look ≡ Unmeasured)
some-look v look (inl e) = inl e
some-look v look (inr (e, f)) = inr e

-- ---- calls that are owed

owed-more : (own : Setup) (v : View) (look : Look) (past : List Turn) (lines : List PlayedLine) (moment : ℤ) (log : List Turn) (call : OwedCall) (turn : Turn) → IsSettled v look → IsNext v call → AllowedTurn v turn
    → call_turns (outside_of past) (calm lines moment) (site_call call) ≡ turn ∷ [] → place_after (outside_of past) (calm lines moment) (site_call call) ≡ calm lines moment
    → ((settled : Look) → IsSettled (after_turn v turn) settled → ActsFor own (after_turn v turn) settled (past ++ turn ∷ []) (calm lines moment) log) → ActsFor own v look past (calm lines moment) (turn ∷ log)
owed-more own v look past lines moment log call turn settled next ok turns same again =
    let is_owed : IsOwedCall v (site_call call) = inl (call, next, refl) in
    let there = settle own (after_turn v turn) look (past ++ turn ∷ []) lines moment log (some-look v look settled) again in
    call-more own v look past (calm lines moment) (site_call call) (turn ∷ []) log (settled-due own v look (site_call call) settled is_owed) (record { no_event = refl; no_failure = refl; power = refl }, sym turns) (ok, tt)
    (subst (λ l. ActsFor own (after_turn v turn) l (past ++ turn ∷ []) (place_after (outside_of past) (calm lines moment) (site_call call)) log) (sym (owed-looks own v look (site_call call) is_owed))
    (subst (λ p. ActsFor own (after_turn v turn) look (past ++ turn ∷ []) p log) (sym same) there))

some-turn : (first turn : Turn) → Some first ≡ Some turn → first ≡ turn
some-turn first turn e = cc

no-turn : {A : Type 0} (turn : Turn) → None ≡ Some turn → A
no-turn turn e = absurd (let h : None ≡ Some turn = e in cc)

-- a write has its turn
write-turns : (o : Outside) (lines : List PlayedLine) (moment : ℤ) (call : OwedCall) (turn : Turn) → write_turn call ≡ Some turn → (call_turns o (calm lines moment) (site_call call) ≡ turn ∷ []) × (place_after o (calm lines moment) (site_call call) ≡ calm lines moment)
write-turns o lines moment (SendTill till reply) turn e = no-turn turn e
write-turns o lines moment (SendPt pt sending) turn e = no-turn turn e
write-turns o lines moment (owed.CutTill till) turn e = no-turn turn e
write-turns o lines moment (owed.CutPt pt) turn e = no-turn turn e
write-turns o lines moment (LinkPt pt) turn e = no-turn turn e
write-turns o lines moment (WriteBody slot the_record) turn e = (ap (λ t. t ∷ []) (some-turn _ turn e), refl)
write-turns o lines moment (WriteGate slot the_record) turn e = (ap (λ t. t ∷ []) (some-turn _ turn e), refl)
write-turns o lines moment WriteFirstGate turn e = (ap (λ t. t ∷ []) (some-turn _ turn e), refl)
write-turns o lines moment Sync turn e = no-turn turn e

-- ---- polls

-- the turn is an event: it comes right after a poll, and then it was brought, and the file isn't looked at
record IsEvent (turn : Turn) : Type 0 where
  at_poll : (v : View) → AllowedTurn v turn → v.scene.stage ≡ AtPoll
  brought_is : (o : Outside) (call : DiskCall) (m : Play) → play_after o call m turn ≡ brought m
  away : (v : View) → is_looking (after_turn v turn).scene.stage ≡ false

-- one event is due, or none
abbrev OneEvent : List Turn → Type 0
OneEvent due = (due ≡ []) ⊎ ((turn : Turn) × (due ≡ turn ∷ []) × IsEvent turn)

-- what a poll has met: lines without failures are left
record IsMet (m : Play) : Type 0 where
  lines : List PlayedLine
  moment : ℤ
  due : List Turn
  plain : HasNoFailures lines
  met_is : m ≡ record (calm lines moment) { due = due }
  event : OneEvent due

brings-event : (event : Event) → OneEvent (brings event)
brings-event (Open till) = inr (Opened till, refl, record { at_poll = λ v ok. ok.0; brought_is = λ o call m. refl; away = λ v. refl })
brings-event (Close till) = inr (Closed till, refl, record { at_poll = λ v ok. ok.polled; brought_is = λ o call m. refl; away = λ v. refl })
brings-event (FromTill till bytes) = inr (HeardTill till bytes, refl, record { at_poll = λ v ok. ok.0.polled; brought_is = λ o call m. refl; away = λ v. refl })
brings-event (FromPt pt bytes) = inr (HeardPt pt bytes, refl, record { at_poll = λ v ok. ok.0.polled; brought_is = λ o call m. refl; away = λ v. refl })
brings-event (Lose pt) = inr (Lost pt, refl, record { at_poll = λ v ok. ok.polled; brought_is = λ o call m. refl; away = λ v. refl })
brings-event Tick = inl refl

is-met : (o : Outside) (all : List PlayedLine) (moment : ℤ) (lines : List PlayedLine) → HasNoFailures lines → IsMet (met o (calm all moment) lines)
is-met o all moment [] plain = record { lines = []; moment = moment; due = Stopped ∷ []; plain = tt; met_is = refl; event = inr (Stopped, refl, record { at_poll = λ v ok. ok; brought_is = λ o call m. refl; away = λ v. refl }) }
is-met o all moment (At now ∷ lines) plain = is-met o all now lines plain
is-met o all moment (Poll event ∷ lines) plain = by_test (applies o event) (is-met o all moment lines plain)
  where
    by_test : (test : Bool) → IsMet (met o (calm all moment) lines) → IsMet (if test then record (calm all moment) { lines = lines; due = brings event } else met o (calm all moment) lines)
    by_test true later = record { lines = lines; moment = moment; due = brings event; plain = plain; met_is = refl; event = brings-event event }
    by_test false later = later
is-met o all moment (Fail failing ∷ lines) plain = absurd plain
is-met o all moment (Power calls kind ∷ lines) plain = absurd plain
is-met o all moment (ForgetPower ∷ lines) plain = absurd plain

none-stops : (prefix : List Turn) → [] ≡ prefix ++ Stopped ∷ [] → ⊥
none-stops [] e = cc
none-stops (turn ∷ prefix) e = cc

-- no event comes once an item has begun
no-late-event : (o : Outside) (m : Play) (event : Turn) (q : Play) (v : View) (moves : List Move) → m.due ≡ event ∷ [] → IsEvent event → v.scene.stage ≡ Handling → IsCourse v moves → Leads o m (turns_of moves) q → IsStopped (turns_of moves) → ⊥
no-late-event o m event q v [] due is handles h leads (prefix, e) = none-stops prefix e
no-late-event o m event q v (Begin ∷ moves) due is handles h leads stops = no-late-event o m event q (after v Begin) moves due is (begin-stage v.scene v.items ∙ ap busy handles) h.1 leads stops
no-late-event o m event q v (Read as_read ∷ moves) due is handles h leads stops = no-late-event o m event q (after v (Read as_read)) moves due is (ap busy handles) h.1 leads stops
no-late-event o m event q v (Make turn ∷ moves) due is handles h (c, fits, leads) stops =
    let same = only_due o c m turn event due fits in
    let polled : v.scene.stage ≡ AtPoll = is.at_poll v (subst (AllowedTurn v) same h.0) in
    handling-not-polled (sym handles ∙ polled)

-- a poll with what it has met
poll-more : (own : Setup) (v : View) (look : Look) (past : List Turn) (lines : List PlayedLine) (moment : ℤ) (now : ℤ) (due log : List Turn) (x : IsMet (after_poll (outside_of past) (calm lines moment))) → now ≡ x.moment → due ≡ x.due → IsSettled v look → MayPoll v → IsCourse (after_turn v (Polled now)) (map Make due)
    → ActsFor own (view_from (after_turn v (Polled now)) (map Make due)) look (past ++ Polled now ∷ due) (calm x.lines x.moment) log → ActsFor own v look past (calm lines moment) (Polled now ∷ (due ++ log))
poll-more own v look past lines moment now due log x now_is due_is settled may lawful a =
    let turns : Polled now ∷ due ≡ call_turns (outside_of past) (calm lines moment) PollCall = ap (λ n. Polled n ∷ due) now_is ∙ ap (λ d. Polled x.moment ∷ d) due_is ∙ sym (ap (λ (m : Play). polled_turns m m.off) x.met_is) in
    call-more own v look past (calm lines moment) PollCall (Polled now ∷ due) log (settled-due own v look PollCall settled (inr (may, refl))) (record { no_event = refl; no_failure = refl; power = refl }, turns) (may, lawful)
    (subst (λ p. ActsFor own (view_from (after_turn v (Polled now)) (map Make due)) look (past ++ Polled now ∷ due) p log) (sym (ap (λ (m : Play). polled_place m m.off) x.met_is)) a)

-- ---- the acts of a log

-- no more than so many moves lead along a log that plays lines without failures to the stop: there are acts of it
abbrev Along : ℕ → Type 0
Along n = (own : Setup) (v : View) (look : Look) (past : List Turn) (lines : List PlayedLine) (moment : ℤ) (q : Play) (moves : List Move) → length moves ≤ n → IsSettled v look → IsCourse v moves → Leads (outside_of past) (calm lines moment) (turns_of moves) q → IsStopped (turns_of moves) → IsQuiet (turns_of moves) → HasNoFailures lines
    → ActsFor own v look past (calm lines moment) (turns_of moves)

later-leads : (past : List Turn) (turn : Turn) (p : Play) (turns : List Turn) (q : Play) → Leads (outside_after (outside_of past) turn) p turns q → Leads (outside_of (past ++ turn ∷ [])) p turns q
later-leads past turn p turns q leads = subst (λ o. Leads o p turns q) (sym (outside_of_more past turn)) leads

-- after the turn of a call
after-call : (n : ℕ) → Along n → (own : Setup) (v : View) (past : List Turn) (lines : List PlayedLine) (moment : ℤ) (q : Play) (turn : Turn) (moves : List Move) → length moves ≤ n → IsCourse (after_turn v turn) moves → Leads (outside_after (outside_of past) turn) (calm lines moment) (turns_of moves) q
    → (turn ≡ Stopped → ⊥) → IsStopped (turn ∷ turns_of moves) → IsQuiet (turns_of moves) → HasNoFailures lines → (settled : Look) → IsSettled (after_turn v turn) settled → ActsFor own (after_turn v turn) settled (past ++ turn ∷ []) (calm lines moment) (turns_of moves)
after-call n again own v past lines moment q turn moves size h leads other stops quiet plain settled is =
    again own (after_turn v turn) settled (past ++ turn ∷ []) lines moment q moves size is h (later-leads past turn (calm lines moment) (turns_of moves) q leads) (stops-later turn (turns_of moves) other stops) quiet plain

-- where the file isn't looked at, nothing need be
settled-away : (v w : View) (look : Look) → is_looking w.scene.stage ≡ false → IsSettled v look → IsSettled w look
settled-away v w look away (inl e) = inl e
settled-away v w look away (inr (e, f)) = inr (e, away)

-- after an event
after-event : (n : ℕ) → Along n → (own : Setup) (v : View) (look : Look) (past : List Turn) (lines : List PlayedLine) (moment : ℤ) (q : Play) (event : Turn) (moves : List Move) → length moves ≤ n → IsCourse v moves → Leads (outside_of past) (calm lines moment) (turns_of moves) q → IsSettled v look
    → IsStopped (event ∷ turns_of moves) → IsQuiet (turns_of moves) → HasNoFailures lines → ActsFor own v look past (calm lines moment) (turns_of moves)
after-event n again own v look past lines moment q event moves size h leads settled ([], e) quiet plain =
    let n : event ∷ turns_of moves ≡ Stopped ∷ [] = e in
    let none : turns_of moves ≡ [] = cc in
    subst (ActsFor own v look past (calm lines moment)) (sym none) (no-more own v look past lines moment)
after-event n again own v look past lines moment q event moves size h leads settled (first ∷ prefix, e) quiet plain =
    let n : event ∷ turns_of moves ≡ first ∷ (prefix ++ Stopped ∷ []) = e in
    let rest : turns_of moves ≡ prefix ++ Stopped ∷ [] = cc in
    again own v look past lines moment q moves size settled h leads (prefix, rest) quiet plain

-- a poll that has met an event, which comes next
with-event : (n : ℕ) → Along n → (own : Setup) (v : View) (look : Look) (past : List Turn) (lines : List PlayedLine) (moment : ℤ) (q : Play) (now : ℤ) (moves : List Move) (x : IsMet (after_poll (outside_of past) (calm lines moment))) (event : Turn) → x.due ≡ event ∷ [] → IsEvent event → now ≡ x.moment
    → length moves ≤ n → IsSettled v look → MayPoll v → IsCourse (after_turn v (Polled now)) moves → Leads (outside_after (outside_of past) (Polled now)) (after_poll (outside_of past) (calm lines moment)) (turns_of moves) q → IsStopped (turns_of moves) → IsQuiet (turns_of moves)
    → ActsFor own v look past (calm lines moment) (Polled now ∷ turns_of moves)
with-event n again own v look past lines moment q now [] x event due is now_is size settled may h leads (prefix, e) quiet = absurd (none-stops prefix e)
with-event n again own v look past lines moment q now (Begin ∷ moves) x event due is now_is size settled may h leads stops quiet =
    absurd (no-late-event (outside_after (outside_of past) (Polled now)) (after_poll (outside_of past) (calm lines moment)) event q (after (after_turn v (Polled now)) Begin) moves (ap (λ (m : Play). m.due) x.met_is ∙ due) is (begin-stage (after_turn v (Polled now)).scene (after_turn v (Polled now)).items) h.1 leads stops)
with-event n again own v look past lines moment q now (Read as_read ∷ moves) x event due is now_is size settled may h leads stops quiet =
    absurd (no-late-event (outside_after (outside_of past) (Polled now)) (after_poll (outside_of past) (calm lines moment)) event q (after (after_turn v (Polled now)) (Read as_read)) moves (ap (λ (m : Play). m.due) x.met_is ∙ due) is refl h.1 leads stops)
with-event n again own v look past lines moment q now (Make turn ∷ moves) x event due is now_is size settled may h (c, fits, leads) stops quiet =
    let m = after_poll (outside_of past) (calm lines moment) in
    let there = outside_after (outside_of past) (Polled now) in
    let w = after_turn (after_turn v (Polled now)) turn in
    let same = only_due there c m turn event (ap (λ (m : Play). m.due) x.met_is ∙ due) fits in
    let place : play_after there c m turn ≡ calm x.lines x.moment = ap (play_after there c m) same ∙ is.brought_is there c m ∙ ap brought x.met_is in
    let rest : Leads (outside_after there turn) (calm x.lines x.moment) (turns_of moves) q = subst (λ p. Leads (outside_after there turn) p (turns_of moves) q) place leads in
    let out : outside_of (past ++ Polled now ∷ turn ∷ []) ≡ outside_after there turn = outside_of-append past (Polled now ∷ turn ∷ []) in
    let away : is_looking w.scene.stage ≡ false = subst (λ t. is_looking (after_turn (after_turn v (Polled now)) t).scene.stage ≡ false) (sym same) (is.away (after_turn v (Polled now))) in
    poll-more own v look past lines moment now (turn ∷ []) (turns_of moves) x now_is (ap (λ t. t ∷ []) same ∙ sym due) settled may (h.0, tt)
    (after-event n again own w look (past ++ Polled now ∷ turn ∷ []) x.lines x.moment q turn moves (omega (arith, size)) h.1 (subst (λ o. Leads o (calm x.lines x.moment) (turns_of moves) q) (sym out) rest) (settled-away v w look away settled) stops quiet.1 x.plain)

polled : (n : ℕ) → Along n → (own : Setup) (v : View) (look : Look) (past : List Turn) (lines : List PlayedLine) (moment : ℤ) (q : Play) (now : ℤ) (moves : List Move) (x : IsMet (after_poll (outside_of past) (calm lines moment))) → OneEvent x.due → now ≡ x.moment → length moves ≤ n → IsSettled v look → MayPoll v
    → IsCourse (after_turn v (Polled now)) moves → Leads (outside_after (outside_of past) (Polled now)) (after_poll (outside_of past) (calm lines moment)) (turns_of moves) q → IsStopped (turns_of moves) → IsQuiet (turns_of moves) → ActsFor own v look past (calm lines moment) (Polled now ∷ turns_of moves)
polled n again own v look past lines moment q now moves x (inr (event, due, is)) now_is size settled may h leads stops quiet = with-event n again own v look past lines moment q now moves x event due is now_is size settled may h leads stops quiet
polled n again own v look past lines moment q now moves x (inl none) now_is size settled may h leads stops quiet =
    let place : after_poll (outside_of past) (calm lines moment) ≡ calm x.lines x.moment = x.met_is ∙ ap (λ due. record (calm x.lines x.moment) { due = due }) none in
    let rest = later-leads past (Polled now) (calm x.lines x.moment) (turns_of moves) q (subst (λ p. Leads (outside_after (outside_of past) (Polled now)) p (turns_of moves) q) place leads) in
    poll-more own v look past lines moment now [] (turns_of moves) x now_is (sym none) settled may tt
    (again own (after_turn v (Polled now)) look (past ++ Polled now ∷ []) x.lines x.moment q moves size (settled-away v (after_turn v (Polled now)) look refl settled) h rest stops quiet x.plain)

disk-fits : {A : Type 0} (lines : List PlayedLine) (moment : ℤ) (call : DiskCall) → DiskFails call (calm lines moment) → A
disk-fits lines moment playing.Write f = no-true f.1
disk-fits lines moment playing.Sync f = no-true f.1
disk-fits lines moment playing.Length f = no-true f.1
disk-fits lines moment playing.Read f = no-true f.1

next-call : (n : ℕ) → Along n → (own : Setup) (v : View) (look : Look) (past : List Turn) (lines : List PlayedLine) (moment : ℤ) (q : Play) (turn : Turn) (moves : List Move) → length moves ≤ n → IsSettled v look → AllowedTurn v turn → IsCourse (after_turn v turn) moves → (c : DiskCall) → Fits (outside_of past) c (calm lines moment) turn
    → Leads (outside_after (outside_of past) turn) (play_after (outside_of past) c (calm lines moment) turn) (turns_of moves) q → IsStopped (turn ∷ turns_of moves) → is_between turn ≡ false → IsQuiet (turns_of moves) → HasNoFailures lines → ActsFor own v look past (calm lines moment) (turn ∷ turns_of moves)
next-call n again own v look past lines moment q (Start setup) moves size settled ok h c f leads stops between quiet plain = absurd (let x : true ≡ false = between in cc)
next-call n again own v look past lines moment q OpenFailed moves size settled ok h c f leads stops between quiet plain = absurd (let x : true ≡ false = between in cc)
next-call n again own v look past lines moment q (Polled now) moves size settled ok h c f leads stops between quiet plain =
    let x = is-met (outside_of past) lines moment lines plain in
    polled n again own v look past lines moment q now moves x x.event (f.2 ∙ ap (λ (m : Play). m.moment) x.met_is) size settled ok h leads (stops-later (Polled now) (turns_of moves) (λ e. cc) stops) quiet
next-call n again own v look past lines moment q (Opened till) moves size settled ok h c f leads stops between quiet plain = none_due (calm lines moment) (Opened till) refl f
next-call n again own v look past lines moment q (HeardTill till bytes) moves size settled ok h c f leads stops between quiet plain = none_due (calm lines moment) (HeardTill till bytes) refl f
next-call n again own v look past lines moment q (Closed till) moves size settled ok h c f leads stops between quiet plain = none_due (calm lines moment) (Closed till) refl f
next-call n again own v look past lines moment q (HeardPt pt bytes) moves size settled ok h c f leads stops between quiet plain = none_due (calm lines moment) (HeardPt pt bytes) refl f
next-call n again own v look past lines moment q (Lost pt) moves size settled ok h c f leads stops between quiet plain = none_due (calm lines moment) (Lost pt) refl f
next-call n again own v look past lines moment q Stopped moves size settled ok h c f leads stops between quiet plain = none_due (calm lines moment) Stopped refl f
next-call n again own v look past lines moment q (Linked pt) moves size settled ok h c f leads stops between quiet plain =
    owed-more own v look past lines moment (turns_of moves) (LinkPt pt) (Linked pt) settled ok ok refl refl (after-call n again own v past lines moment q (Linked pt) moves size h leads (λ e. cc) stops quiet plain)
next-call n again own v look past lines moment q (LinkFailed pt) moves size settled ok h c f leads stops between quiet plain = no-true f.1
next-call n again own v look past lines moment q (SentTill till bytes true) moves size settled ok h c f leads stops between quiet plain =
    owed-more own v look past lines moment (turns_of moves) (SendTill till ok.0) (SentTill till bytes true) settled ok.1 ok (ap (λ b. SentTill till b true ∷ []) (sym ok.2)) refl (after-call n again own v past lines moment q (SentTill till bytes true) moves size h leads (λ e. cc) stops quiet plain)
next-call n again own v look past lines moment q (SentTill till bytes false) moves size settled ok h c f leads stops between quiet plain = absurd f.1
next-call n again own v look past lines moment q (SentPt pt bytes true) moves size settled ok h c f leads stops between quiet plain =
    owed-more own v look past lines moment (turns_of moves) (SendPt pt ok.0) (SentPt pt bytes true) settled ok.1 ok (ap (λ b. SentPt pt b true ∷ []) (sym ok.2)) refl (after-call n again own v past lines moment q (SentPt pt bytes true) moves size h leads (λ e. cc) stops quiet plain)
next-call n again own v look past lines moment q (SentPt pt bytes false) moves size settled ok h c f leads stops between quiet plain = absurd f.1
next-call n again own v look past lines moment q (CutTill till) moves size settled ok h c f leads stops between quiet plain =
    owed-more own v look past lines moment (turns_of moves) (owed.CutTill till) (CutTill till) settled ok ok refl refl (after-call n again own v past lines moment q (CutTill till) moves size h leads (λ e. cc) stops quiet plain)
next-call n again own v look past lines moment q (CutPt pt) moves size settled ok h c f leads stops between quiet plain =
    owed-more own v look past lines moment (turns_of moves) (owed.CutPt pt) (CutPt pt) settled ok ok refl refl (after-call n again own v past lines moment q (CutPt pt) moves size h leads (λ e. cc) stops quiet plain)
next-call n again own v look past lines moment q (Wrote offset bytes) moves size settled ok h c f leads stops between quiet plain =
    let made = write-turns (outside_of past) lines moment ok.0 (Wrote offset bytes) ok.2 in
    owed-more own v look past lines moment (turns_of moves) ok.0 (Wrote offset bytes) settled ok.1 ok made.0 made.1 (after-call n again own v past lines moment q (Wrote offset bytes) moves size h leads (λ e. cc) stops quiet plain)
next-call n again own v look past lines moment q Synced moves size settled ok h c f leads stops between quiet plain =
    owed-more own v look past lines moment (turns_of moves) Sync Synced settled ok ok refl refl (after-call n again own v past lines moment q Synced moves size h leads (λ e. cc) stops quiet plain)
next-call n again own v look past lines moment q DiskFailed moves size settled ok h c f leads stops between quiet plain = disk-fits lines moment c f
next-call n again own v look past lines moment q (Crash file) moves size settled ok h c f leads stops between quiet plain = absurd (let x : true ≡ false = between in cc)

along : (n : ℕ) → Along n
along n own v look past lines moment q [] size settled h leads (prefix, e) quiet plain = absurd (none-stops prefix e)
along zero own v look past lines moment q (move ∷ moves) size settled h leads stops quiet plain = absurd (omega (arith, size))
along (suc n) own v look past lines moment q (Begin ∷ moves) size settled h leads stops quiet plain =
    begin-more own v look past (calm lines moment) (turns_of moves) h.0
    (along n own (after v Begin) look past lines moment q moves (omega (arith, size)) (settled-round v (after v Begin) look (begin-stage v.scene v.items ∙ round-busy v.scene.stage h.0.idle.round) settled) h.1 leads stops quiet plain)
along (suc n) own v look past lines moment q (Read as_read ∷ moves) size settled h leads stops quiet plain =
    read-more own v look past (calm lines moment) as_read (turns_of moves) h.0
    (along n own (after v (Read as_read)) look past lines moment q moves (omega (arith, size)) (settled-round v (after v (Read as_read)) look (round-busy v.scene.stage h.0.idle.round) settled) h.1 leads stops quiet plain)
along (suc n) own v look past lines moment q (Make turn ∷ moves) size settled h (c, f, leads) stops quiet plain =
    next-call n (along n) own v look past lines moment q turn moves (omega (arith, size)) settled h.0 h.1 c f leads stops quiet.0 quiet.1 plain

-- ---- from the beginning

plain-lines : (lines : List PlayedLine) → HasNoFailures lines → early_lines lines ≡ lines
plain-lines [] plain = refl
plain-lines (At now ∷ lines) plain = ap (λ ls. At now ∷ ls) (plain-lines lines plain)
plain-lines (Poll event ∷ lines) plain = refl
plain-lines (Fail failing ∷ lines) plain = absurd plain
plain-lines (Power calls kind ∷ lines) plain = absurd plain
plain-lines (ForgetPower ∷ lines) plain = absurd plain

plain-hazard : (h : Hazard) (lines : List PlayedLine) → HasNoFailures lines → early_hazard h lines ≡ h
plain-hazard h [] plain = refl
plain-hazard h (At now ∷ lines) plain = plain-hazard h lines plain
plain-hazard h (Poll event ∷ lines) plain = refl
plain-hazard h (Fail failing ∷ lines) plain = absurd plain
plain-hazard h (Power calls kind ∷ lines) plain = absurd plain
plain-hazard h (ForgetPower ∷ lines) plain = absurd plain

pub begins-calm : (lines : List PlayedLine) → HasNoFailures lines → begins lines ≡ calm lines (pos 0)
begins-calm lines plain = ap (λ ls. rests ls (pos 0) (early_hazard no_hazard lines)) (plain-lines lines plain) ∙ ap (rests lines (pos 0)) (plain-hazard no_hazard lines plain)

-- the acts of one run to the stop, in which nothing fails
pub acts-of-run : (own : Setup) (lines : List PlayedLine) (moves : List Move) → HasNoFailures lines → AllowedTurn at_first (Start own) → IsCourse (after_turn at_first (Start own)) moves → PlaysLines lines (Start own ∷ turns_of moves) → IsStopped (turns_of moves) → IsQuiet (turns_of moves)
    → ActsFor own at_first Unopened [] (begins lines) (Start own ∷ turns_of moves)
acts-of-run own lines moves plain ok h (q, leads) stops quiet =
    let v = after_turn at_first (Start own) in
    let start = subst (λ p. Leads nothing_yet p (Start own ∷ turns_of moves) q) (begins-calm lines plain) leads in
    let later = along (length moves) own v Unmeasured (Start own ∷ []) lines (pos 0) q moves (omega arith) (inr (refl, refl)) h start.2 stops quiet plain in
    subst (λ p. ActsFor own at_first Unopened [] p (Start own ∷ turns_of moves)) (sym (begins-calm lines plain))
    (call-more own at_first Unopened [] (calm lines (pos 0)) (OpenCall own) (Start own ∷ []) (turns_of moves) refl (record { no_event = refl; no_failure = refl; power = refl }, refl) (ok, tt) later)
