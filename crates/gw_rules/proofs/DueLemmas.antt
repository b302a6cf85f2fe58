-- A terminal that is due is linked, or can't be, before the next poll.
use Rattle.std.proofs.Common.{◌≡◌, ◌≢◌, ℕ, ◌+◌, ◌≤◌, zero, suc, List, [], ◌∷◌, ◌++◌, refl, sym, ◌∙◌, ap, subst, true, false, inl, inr, eqb-true, arith}
use Rattle.std.proofs.lemmas.Bool.{eq-eqb, le-leb, leb-true}
use Rattle.std.specs.Prelude.{Bool, ℤ, ◌⊎◌, ◌==◌, map, slice_get, Option, Some, None}
use Rattle.gw_base.specs.Moment.{moment_of}
use Rattle.gw_base.specs.declared.setup.Pt.{Pt}
use Rattle.gw_base.specs.declared.setup.Setup.{Setup}
use Rattle.gw_site.specs.Outside.{Outside, is_connected, outside_after, outside_from, outside_of}
use Rattle.gw_site.specs.Sorts.{IsQuiet, AreOfRound, is_sort_of_round, sort_of}
use Rattle.gw_site.specs.declared.turn.Turn.{Turn}
use Rattle.gw_site.specs.declared.turn.Turn.TheVariants.{Start, OpenFailed, Polled, Opened, HeardTill, Closed, HeardPt, Lost, Stopped, Linked, LinkFailed, SentTill, SentPt, CutTill, CutPt, Wrote, Synced, DiskFailed, Crash}
use Rattle.gw_site.proofs.OutsideLemmas.{outside_of-append}
use Rattle.zvt_talk.specs.Talk.{TalkFacts}
use Rattle.gw_owes.specs.Calls.{SendTill, SendPt, LinkPt, Sync, write_turn, CutTill as OwedCutTill, CutPt as OwedCutPt}
use Rattle.gw_owes.specs.Core.{Core, Wait}
use Rattle.gw_owes.specs.Deadlines.{is_due, is_due_by}
use Rattle.gw_owes.specs.Events.{for_each_terminal, waits_by_deadline, items_due}
use Rattle.gw_owes.specs.Items.{RoundItem, Crowded, Message, Asked, Unframed, Gone, Greet, Handle, Serve, Queue, NextWaiting, Oversized, LinkLost, Late, Overdue, Due}
use Rattle.gw_owes.specs.TerminalLaws.{settings_of}
use Rattle.gw_owes.specs.declared.terminal.Standing.{Standing}
use Rattle.gw_owes.specs.declared.terminal.Standing.TheVariants.{Unlinked, Registering, Enquiring, Ready, Serving, Aside}
use Rattle.gw_owes.specs.declared.terminal.Terminal.{Terminal}
use Rattle.gw_owes.proofs.TerminalLemmas.{due-is-linked}
use Rattle.gw_rules.specs.Lawful.{first_call, AllowedTurn}
use Rattle.gw_rules.specs.LinkLaws.{EndsLink, EndsNone, IsTriedIn, DueIsTried, TriedOnceRested}
use Rattle.gw_rules.specs.Scene.{Scene, known_in, row_at}
use Rattle.gw_rules.specs.Stage.{Handling, is_looking}
use Rattle.gw_rules.specs.View.{View, after_turn, view_from, at_first}
use Rattle.gw_rules.proofs.CutLemmas.{IsAmong, has-after}
use Rattle.gw_rules.proofs.LinkLawLemmas.{same-call}
use Rattle.gw_rules.proofs.LinkStateLemmas.{LinkState, Absent, On, Off, Odd, standing_state, state_of, state_in}
use Rattle.gw_rules.proofs.LinkedLemmas.{Agrees, Settled, OrLost, IsOfLink, AreConfigured, is_on, settled-turn, polled-settled, call-settled, first-fits, course-agrees, turn-agrees}
use Rattle.gw_rules.proofs.OutsideCutLemmas.{in-owes}
use Rattle.gw_rules.proofs.PrefixLemmas.{Along}
use Rattle.gw_rules.proofs.RestLemmas.{HasEnded, Rests, start-rests, moves-rest, none-split, same-last}
use Rattle.gw_rules.proofs.RoundLemmas.{Duty, IsDuty, HasSuch, Waits, done-before-poll}
use Rattle.gw_rules.proofs.SetupLemmas.{turn-run}
use Rattle.gw_rules.proofs.SplitLemmas.{split-at, split-log, split-agrees, split-outside, moves-setup}
use Rattle.gw_rules.proofs.StageLemmas.{no-true, handling-not-polled}

-- ---- the duty

abbrev is_due_item : ℕ → RoundItem → Bool
is_due_item pt (Crowded till) = false
is_due_item pt (Message till bytes) = false
is_due_item pt (Asked till as_read) = false
is_due_item pt (Unframed till) = false
is_due_item pt (Gone till) = false
is_due_item pt (Greet other apdu) = false
is_due_item pt (Handle other apdu) = false
is_due_item pt (Serve other till header request) = false
is_due_item pt (Queue other till header request) = false
is_due_item pt (NextWaiting other) = false
is_due_item pt (Oversized other) = false
is_due_item pt (LinkLost other) = false
is_due_item pt (Late other) = false
is_due_item pt (Overdue key) = false
is_due_item pt (Due other) = other == pt

abbrev is_try : ℕ → Turn → Bool
is_try pt (Start setup) = false
is_try pt OpenFailed = false
is_try pt (Polled now) = false
is_try pt (Opened till) = false
is_try pt (HeardTill till bytes) = false
is_try pt (Closed till) = false
is_try pt (HeardPt other bytes) = false
is_try pt (Lost other) = false
is_try pt Stopped = false
is_try pt (Linked other) = other == pt
is_try pt (LinkFailed other) = other == pt
is_try pt (SentTill till bytes sent) = false
is_try pt (SentPt other bytes sent) = false
is_try pt (CutTill till) = false
is_try pt (CutPt other) = false
is_try pt (Wrote offset bytes) = false
is_try pt Synced = false
is_try pt DiskFailed = false
is_try pt (Crash file) = false

try-is : (pt : ℕ) (turn : Turn) → is_try pt turn ≡ true → (turn ≡ Linked pt) ⊎ (turn ≡ LinkFailed pt)
try-is pt (Start setup) e = no-true e
try-is pt OpenFailed e = no-true e
try-is pt (Polled now) e = no-true e
try-is pt (Opened till) e = no-true e
try-is pt (HeardTill till bytes) e = no-true e
try-is pt (Closed till) e = no-true e
try-is pt (HeardPt other bytes) e = no-true e
try-is pt (Lost other) e = no-true e
try-is pt Stopped e = no-true e
try-is pt (Linked other) e = inl (ap Linked (eqb-true other pt e))
try-is pt (LinkFailed other) e = inr (ap LinkFailed (eqb-true other pt e))
try-is pt (SentTill till bytes sent) e = no-true e
try-is pt (SentPt other bytes sent) e = no-true e
try-is pt (CutTill till) e = no-true e
try-is pt (CutPt other) e = no-true e
try-is pt (Wrote offset bytes) e = no-true e
try-is pt Synced e = no-true e
try-is pt DiskFailed e = no-true e
try-is pt (Crash file) e = no-true e

abbrev due_duty : ℕ → ℕ → Option ℕ → Duty
due_duty pt moment due = record { pt = pt; state = Off due; moment = moment; such = is_due_item pt; call = LinkPt pt; done = is_try pt; polls = true }

-- ---- what is owed

off-standing : (standing : Standing) (talk : Option TalkFacts) (due : Option ℕ) → standing_state standing talk ≡ Off due → standing ≡ Unlinked due
off-standing (Unlinked other) None due e = let n : Off other ≡ Off due = e in cc
off-standing (Unlinked other) (Some talk) due e = absurd (let n : Odd ≡ Off due = e in cc)
off-standing Registering talk due e = absurd (let n : On ≡ Off due = e in cc)
off-standing Enquiring talk due e = absurd (let n : On ≡ Off due = e in cc)
off-standing (Ready last) talk due e = absurd (let n : On ≡ Off due = e in cc)
off-standing (Serving service last) talk due e = absurd (let n : On ≡ Off due = e in cc)
off-standing (Aside before reported) talk due e = absurd (let n : On ≡ Off due = e in cc)

found-off : (due : Option ℕ) (found : Option Terminal) → state_of found ≡ Off due → (terminal : Terminal) × (found ≡ Some terminal) × (terminal.standing ≡ Unlinked due)
found-off due None e = absurd (let n : Absent ≡ Off due = e in cc)
found-off due (Some terminal) e = (terminal, refl, off-standing terminal.standing terminal.talk due e)

due-owes : (pt moment : ℕ) (due : Option ℕ) → is_due_by moment due ≡ true → (scene : Scene) (setup : Setup) (item : RoundItem) → is_due_item pt item ≡ true → scene.setup ≡ Some setup → state_in scene.core pt ≡ Off due → scene.outside.moment ≡ moment → (row_at scene item).calls ≡ LinkPt pt ∷ []
due-owes pt moment due comes scene setup (Crowded till) e is off at = no-true e
due-owes pt moment due comes scene setup (Message till bytes) e is off at = no-true e
due-owes pt moment due comes scene setup (Asked till as_read) e is off at = no-true e
due-owes pt moment due comes scene setup (Unframed till) e is off at = no-true e
due-owes pt moment due comes scene setup (Gone till) e is off at = no-true e
due-owes pt moment due comes scene setup (Greet other apdu) e is off at = no-true e
due-owes pt moment due comes scene setup (Handle other apdu) e is off at = no-true e
due-owes pt moment due comes scene setup (Serve other till header request) e is off at = no-true e
due-owes pt moment due comes scene setup (Queue other till header request) e is off at = no-true e
due-owes pt moment due comes scene setup (NextWaiting other) e is off at = no-true e
due-owes pt moment due comes scene setup (Oversized other) e is off at = no-true e
due-owes pt moment due comes scene setup (LinkLost other) e is off at = no-true e
due-owes pt moment due comes scene setup (Late other) e is off at = no-true e
due-owes pt moment due comes scene setup (Overdue key) e is off at = no-true e
due-owes pt moment due comes scene setup (Due other) e is off at =
    let found = found-off due (slice_get scene.core.terminals pt) off in
    let due_now : is_due scene.outside.moment found.0.standing ≡ true = ap (is_due scene.outside.moment) found.2 ∙ ap (λ m. is_due_by m due) at ∙ comes in
    ap (λ n. (row_at scene (Due n)).calls) (eqb-true other pt e) ∙ in-owes scene setup (Due pt) (LinkPt pt ∷ []) is (due-is-linked (known_in scene setup) pt found.0 found.1 due_now)

-- ---- what does it

-- where the link is owed, nothing but its two outcomes comes in the round
due-makes : (pt : ℕ) (v : View) (turn : Turn) → v.scene.stage ≡ Handling → first_call v.calls ≡ Some (LinkPt pt) → AllowedTurn v turn → is_sort_of_round (sort_of turn) ≡ true → is_try pt turn ≡ true
due-makes pt v (Start setup) at next ok e = no-true e
due-makes pt v OpenFailed at next ok e = no-true e
due-makes pt v (Polled now) at next ok e = no-true e
due-makes pt v (Opened till) at next ok e = handling-not-polled (sym at ∙ ok.0)
due-makes pt v (HeardTill till bytes) at next ok e = handling-not-polled (sym at ∙ ok.0.polled)
due-makes pt v (Closed till) at next ok e = handling-not-polled (sym at ∙ ok.polled)
due-makes pt v (HeardPt other bytes) at next ok e = handling-not-polled (sym at ∙ ok.0.polled)
due-makes pt v (Lost other) at next ok e = handling-not-polled (sym at ∙ ok.polled)
due-makes pt v Stopped at next ok e = handling-not-polled (sym at ∙ ok)
due-makes pt v (Linked other) at next ok e =
    let n = same-call v.calls (LinkPt pt) (LinkPt other) next ok in
    let same : other ≡ pt = cc in
    eq-eqb other pt same
due-makes pt v (LinkFailed other) at next ok e =
    let n = same-call v.calls (LinkPt pt) (LinkPt other) next ok in
    let same : other ≡ pt = cc in
    eq-eqb other pt same
due-makes pt v (SentTill till bytes true) at next ok e = absurd (let n = same-call v.calls (LinkPt pt) (SendTill till ok.0) next ok.1 in cc)
due-makes pt v (SentTill till bytes false) at next ok e = absurd (let n = same-call v.calls (LinkPt pt) (SendTill till ok.0) next ok.1 in cc)
due-makes pt v (SentPt other bytes true) at next ok e = absurd (let n = same-call v.calls (LinkPt pt) (SendPt other ok.0) next ok.1 in cc)
due-makes pt v (SentPt other bytes false) at next ok e = absurd (let n = same-call v.calls (LinkPt pt) (SendPt other ok.0) next ok.1 in cc)
due-makes pt v (CutTill till) at next ok e = absurd (let n = same-call v.calls (LinkPt pt) (OwedCutTill till) next ok in cc)
due-makes pt v (CutPt other) at next ok e = absurd (let n = same-call v.calls (LinkPt pt) (OwedCutPt other) next ok in cc)
due-makes pt v (Wrote offset bytes) at next ok e = absurd (let n = same-call v.calls (LinkPt pt) ok.0 next ok.1 in let none : None ≡ Some (Wrote offset bytes) = ap write_turn n ∙ ok.2 in cc)
due-makes pt v Synced at next ok e = absurd (let n = same-call v.calls (LinkPt pt) Sync next ok in cc)
due-makes pt v DiskFailed at next (inl sync) e = absurd (let n = same-call v.calls (LinkPt pt) Sync next sync in cc)
due-makes pt v DiskFailed at next (inr looking) e = no-true (sym (ap is_looking at) ∙ looking)
due-makes pt v (Crash file) at next ok e = no-true e

due-links : (pt : ℕ) (due : Option ℕ) (v : View) (turn : Turn) → Settled v → state_in v.scene.core pt ≡ Off due → AllowedTurn v turn → IsOfLink pt turn → is_try pt turn ≡ true
due-links pt due v turn s off ok (inl linked) = ap (is_try pt) linked ∙ eq-eqb pt pt refl
due-links pt due v turn s off ok (inr (inl failed)) = ap (is_try pt) failed ∙ eq-eqb pt pt refl
due-links pt due v turn s off ok (inr (inr cut)) =
    let next : AllowedTurn v (CutPt pt) = subst (AllowedTurn v) cut ok in
    let on = first-fits v.scene.outside.moment v.scene.core v.calls (OwedCutPt pt) s.fits next in
    absurd (let n : Off due ≡ On = sym off ∙ on in cc)

due-is-duty : (pt moment : ℕ) (due : Option ℕ) → is_due_by moment due ≡ true → IsDuty (due_duty pt moment due)
due-is-duty pt moment due comes = record {
  owes = λ scene setup item such is off at. due-owes pt moment due comes scene setup item such is off at;
  no_message = λ till bytes such. no-true such;
  makes = λ v turn at next ok e. due-makes pt v turn at next ok e;
  links = λ v turn s off ok of_link. due-links pt due v turn s off ok of_link;
  unlost = λ polls on. no-true on;
}

-- ---- what a poll brings

due-each : (terminals : List Terminal) (first number at : ℕ) (terminal : Terminal) → slice_get terminals number ≡ Some terminal → at ≡ first + number → IsAmong (Due at) (for_each_terminal first Due terminals)
due-each [] first number at terminal e is = absurd (let n : None ≡ Some terminal = e in cc)
due-each (one ∷ terminals) first zero at terminal e is =
    let same : first ≡ at = omega (arith, is) in
    ([], for_each_terminal (first + 1) Due terminals, ap (λ n. Due n ∷ for_each_terminal (first + 1) Due terminals) same)
due-each (one ∷ terminals) first (suc number) at terminal e is =
    let later : at ≡ (first + 1) + number = omega (arith, is) in
    has-after (Due at) (Due first ∷ []) (for_each_terminal (first + 1) Due terminals) (due-each terminals (first + 1) number at terminal e later)

due-among : (core : Core) (pt : ℕ) (terminal : Terminal) → slice_get core.terminals pt ≡ Some terminal → IsAmong (Due pt) (items_due core)
due-among core pt terminal found =
    has-after (Due pt) (for_each_terminal 0 Late core.terminals) (map (λ (wait : Wait). Overdue wait.key) (waits_by_deadline core.waits) ++ for_each_terminal 0 Due core.terminals)
    (has-after (Due pt) (map (λ (wait : Wait). Overdue wait.key) (waits_by_deadline core.waits)) (for_each_terminal 0 Due core.terminals) (due-each core.terminals 0 pt pt terminal found (omega arith)))

-- ---- when it is due

get-terminal : (terminals : List Terminal) (number : ℕ) (settings : Pt) → slice_get (map (λ (terminal : Terminal). terminal.pt) terminals) number ≡ Some settings → (terminal : Terminal) × (slice_get terminals number ≡ Some terminal)
get-terminal [] number settings e = absurd (let n : None ≡ Some settings = e in cc)
get-terminal (terminal ∷ terminals) zero settings e = (terminal, refl)
get-terminal (terminal ∷ terminals) (suc number) settings e = get-terminal terminals number settings e

-- a terminal that is there and isn't linked
off-by : (state : LinkState) → state ≢ Absent → state ≢ Odd → is_on state ≡ false → (due : Option ℕ) × (state ≡ Off due)
off-by Absent there even off = absurd (there refl)
off-by On there even off = absurd (let n : true ≡ false = off in cc)
off-by (Off due) there even off = (due, refl)
off-by Odd there even off = absurd (even refl)

standing-there : (standing : Standing) (talk : Option TalkFacts) → standing_state standing talk ≢ Absent
standing-there (Unlinked due) None e = absurd (let n : Off due ≡ Absent = e in cc)
standing-there (Unlinked due) (Some talk) e = absurd (let n : Odd ≡ Absent = e in cc)
standing-there Registering talk e = absurd (let n : On ≡ Absent = e in cc)
standing-there Enquiring talk e = absurd (let n : On ≡ Absent = e in cc)
standing-there (Ready last) talk e = absurd (let n : On ≡ Absent = e in cc)
standing-there (Serving service last) talk e = absurd (let n : On ≡ Absent = e in cc)
standing-there (Aside before reported) talk e = absurd (let n : On ≡ Absent = e in cc)

-- where it has rested it is due
rested-due : (o : Outside) (run : List Turn) (v : View) (pt moment : ℕ) (due : Option ℕ) → Rests o run v → state_in v.scene.core pt ≡ Off due
    → ((first rest : List Turn) (turn : Turn) → run ≡ first ++ turn ∷ rest → EndsLink pt turn → EndsNone pt rest → (outside_from o first).moment + 5 ≤ moment) → is_due_by moment due ≡ true
rested-due o run v pt moment None r off rested = refl
rested-due o run v pt moment (Some due) r off rested =
    let ended : HasEnded o run pt due = r.states pt due off in
    let before = rested ended.0 ended.2 ended.1 ended.3 ended.4 ended.5 in
    le-leb due moment (subst (λ d. d ≤ moment) (sym ended.6) before)

polled-waits : (v : View) (now : ℤ) (pt : ℕ) (terminal : Terminal) (due : Option ℕ) → Agrees v → AllowedTurn v (Polled now) → slice_get v.scene.core.terminals pt ≡ Some terminal → state_in v.scene.core pt ≡ Off due → Waits (due_duty pt (moment_of now) due) (after_turn v (Polled now))
polled-waits v now pt terminal due a ok found off =
    let s = polled-settled v a ok.items in
    let has : HasSuch (due_duty pt (moment_of now) due) (items_due v.scene.core) = (Due pt, eq-eqb pt pt refl, due-among v.scene.core pt terminal found) in
    record {
      run = turn-run v (Polled now) a.run ok;
      ends = refl;
      unlost = inl (by_turn (settled-turn v (Polled now) a.run a.ends s ok));
      state_is = off;
      moment_is = refl;
      round = refl;
      polled = λ polled. (refl, has);
      owed = inl has;
    }
  where
    by_turn : Settled (after_turn v (Polled now)) ⊎ OrLost v (Polled now) → Settled (after_turn v (Polled now))
    by_turn (inl settled) = settled
    by_turn (inr (other, lost, l, same)) = absurd (let n : Polled now ≡ Lost other = lost in cc)

-- from a view in a run with this setup
tried-from : (o : Outside) (run inside rest : List Turn) (v : View) (setup : Setup) (settings : Pt) (pt : ℕ) (now later : ℤ) → Agrees v → Rests o run v → v.scene.setup ≡ Some setup → AllowedTurn v (Polled now)
    → Along (after_turn v (Polled now)) (inside ++ Polled later ∷ rest) → AreOfRound inside → slice_get setup.terminals pt ≡ Some settings → is_connected v.scene.outside.links pt ≡ false
    → ((first rest : List Turn) (turn : Turn) → run ≡ first ++ turn ∷ rest → EndsLink pt turn → EndsNone pt rest → (outside_from o first).moment + 5 ≤ moment_of now) → IsTriedIn pt inside
tried-from o run inside rest v setup settings pt now later a r is ok onward round configured unlinked rested =
    let s = polled-settled v a ok.items in
    let same : settings_of v.scene.core ≡ setup.terminals = subst (λ o. AreConfigured o v.scene.core) is s.settings in
    let found = get-terminal v.scene.core.terminals pt settings (ap (λ l. slice_get l pt) same ∙ configured) in
    let there : state_in v.scene.core pt ≢ Absent = λ absent. standing-there found.0.standing found.0.talk (sym (ap state_of found.1) ∙ absent) in
    let off = off-by (state_in v.scene.core pt) there (s.even pt) (sym (s.linked pt) ∙ unlinked) in
    let comes = rested-due o run v pt (moment_of now) off.0 r off.1 rested in
    let waits = polled-waits v now pt found.0 off.0 a ok found.1 off.1 in
    let done = done-before-poll (due_duty pt (moment_of now) off.0) later rest (after_turn v (Polled now)) onward.moves inside (due-is-duty pt (moment_of now) off.0 comes) (inl waits) onward.lawful onward.turns_are round in
    (done.0, done.1, done.2, done.3, try-is pt done.1 done.4)

pub due-is-tried : DueIsTried
due-is-tried before run inside rest setup settings pt now later lawful quiet round configured unlinked rested =
    let turns = run ++ Polled now ∷ (inside ++ Polled later ∷ rest) in
    let x = split-log before (Start setup) turns lawful in
    let v = view_from at_first x.first in
    let began = after_turn v (Start setup) in
    let y = split-at began x.onward.moves run (Polled now) (inside ++ Polled later ∷ rest) x.onward.turns_are x.onward.lawful in
    let agrees = turn-agrees v (Start setup) (split-agrees before (Start setup) turns x) x.allowed in
    let u = view_from began y.first in
    let o : Outside = began.scene.outside in
    let outside_is : o ≡ outside_of (before ++ Start setup ∷ []) = ap (λ o. outside_after o (Start setup)) (split-outside before (Start setup) turns x) ∙ sym (outside_of-append before (Start setup ∷ [])) in
    let rests = moves-rest o [] began y.first agrees (start-rests v setup) y.lawful (subst IsQuiet (sym y.first_are) quiet) in
    let rests_run : Rests o run u = subst (λ l. Rests o l u) y.first_are rests in
    let u_outside : u.scene.outside ≡ outside_of (before ++ Start setup ∷ run) =
    rests_run.outside_is ∙ ap (λ o. outside_from (outside_after o (Start setup)) run) (split-outside before (Start setup) turns x) ∙ sym (outside_of-append before (Start setup ∷ run)) in
    let rested_run : (first rest : List Turn) (turn : Turn) → run ≡ first ++ turn ∷ rest → EndsLink pt turn → EndsNone pt rest → (outside_from o first).moment + 5 ≤ moment_of now =
    λ first rest turn e ends none. subst (λ (o : Outside). o.moment + 5 ≤ moment_of now) (outside_of-append (before ++ Start setup ∷ []) first ∙ ap (λ o. outside_from o first) (sym outside_is)) (rested first rest turn e ends none) in
    tried-from o run inside rest u setup settings pt now later (course-agrees began y.first agrees y.lawful) rests_run (moves-setup began y.first (subst IsQuiet (sym y.first_are) quiet)) y.allowed y.onward round configured
    (ap (λ (o : Outside). is_connected o.links pt) u_outside ∙ unlinked) rested_run

-- ---- and not before

-- where it is due at this moment, it has rested
due-rested : (o : Outside) (run : List Turn) (v : View) (pt moment : ℕ) (due : Option ℕ) → Rests o run v → state_in v.scene.core pt ≡ Off due → is_due_by moment due ≡ true
    → (first rest : List Turn) (turn : Turn) → run ≡ first ++ turn ∷ rest → EndsLink pt turn → EndsNone pt rest → (outside_from o first).moment + 5 ≤ moment
due-rested o run v pt moment None r off comes first rest turn e ends none = none-split pt run first turn rest (r.never pt off) e ends
due-rested o run v pt moment (Some due) r off comes first rest turn e ends none =
    let ended : HasEnded o run pt due = r.states pt due off in
    let same : ended.0 ≡ first = same-last pt ended.0 ended.1 ended.2 first turn rest (sym ended.3 ∙ e) ended.4 ended.5 ends none in
    subst (λ d. d ≤ moment) (ended.6 ∙ ap (λ l. (outside_from o l).moment + 5) same) (leb-true due moment comes)

-- the link of the terminal is owed where its turn comes
link-owed : (v : View) (pt : ℕ) (turn : Turn) → AllowedTurn v turn → (turn ≡ Linked pt) ⊎ (turn ≡ LinkFailed pt) → first_call v.calls ≡ Some (LinkPt pt)
link-owed v pt turn ok (inl linked) = let next : AllowedTurn v (Linked pt) = subst (AllowedTurn v) linked ok in next
link-owed v pt turn ok (inr failed) = let next : AllowedTurn v (LinkFailed pt) = subst (AllowedTurn v) failed ok in next

pub tried-once-rested : TriedOnceRested
tried-once-rested before run rest setup pt turn lawful quiet of_link first more end e ends none =
    let turns = run ++ turn ∷ rest in
    let x = split-log before (Start setup) turns lawful in
    let v = view_from at_first x.first in
    let began = after_turn v (Start setup) in
    let y = split-at began x.onward.moves run turn rest x.onward.turns_are x.onward.lawful in
    let agrees = turn-agrees v (Start setup) (split-agrees before (Start setup) turns x) x.allowed in
    let u = view_from began y.first in
    let o : Outside = began.scene.outside in
    let outside_is : o ≡ outside_of (before ++ Start setup ∷ []) = ap (λ o. outside_after o (Start setup)) (split-outside before (Start setup) turns x) ∙ sym (outside_of-append before (Start setup ∷ [])) in
    let rests = moves-rest o [] began y.first agrees (start-rests v setup) y.lawful (subst IsQuiet (sym y.first_are) quiet) in
    let rests_run : Rests o run u = subst (λ l. Rests o l u) y.first_are rests in
    let u_outside : u.scene.outside ≡ outside_of (before ++ Start setup ∷ run) =
    rests_run.outside_is ∙ ap (λ o. outside_from (outside_after o (Start setup)) run) (split-outside before (Start setup) turns x) ∙ sym (outside_of-append before (Start setup ∷ run)) in
    let next = link-owed u pt turn y.allowed of_link in
    let s = call-settled u (LinkPt pt) (course-agrees began y.first agrees y.lawful) next in
    let fit = first-fits u.scene.outside.moment u.scene.core u.calls (LinkPt pt) s.fits next in
    let rested : (outside_from o first).moment + 5 ≤ u.scene.outside.moment = due-rested o run u pt u.scene.outside.moment fit.0 rests_run fit.1 fit.2 first more end e ends none in
    let first_outside : outside_of ((before ++ Start setup ∷ []) ++ first) ≡ outside_from o first = outside_of-append (before ++ Start setup ∷ []) first ∙ ap (λ o. outside_from o first) (sym outside_is) in
    subst (λ (p : Outside). p.moment + 5 ≤ (outside_of (before ++ Start setup ∷ run)).moment) (sym first_outside) (subst (λ (p : Outside). (outside_from o first).moment + 5 ≤ p.moment) u_outside rested)
