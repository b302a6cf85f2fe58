-- A log of one run that plays lines without failing calls and power failures goes by them, line by line; and one that goes by lines plays them.
use Rattle.std.proofs.Common.{◌≡◌, ℕ, zero, suc, ◌≤◌, List, [], ◌∷◌, ◌++◌, length, refl, sym, ◌∙◌, ap, subst, arith, inl, inr, true, false}
use Rattle.std.proofs.lemmas.Bool.Decides.{nat_tests}
use Rattle.std.specs.List.{AllByRecursion}
use Rattle.std.specs.Prelude.{◌⊎◌, ℤ, pos, Bool}
use Rattle.gw_site.specs.Outside.{Outside, outside_after, outside_from, nothing_yet}
use Rattle.gw_site.specs.declared.turn.Turn.{Turn}
use Rattle.gw_site.specs.declared.turn.Turn.TheVariants.{Start, OpenFailed, Polled, Opened, HeardTill, Closed, HeardPt, Lost, Stopped, Linked, LinkFailed, SentTill, SentPt, CutTill, CutPt, Wrote, Synced, DiskFailed, Crash}
use Rattle.gw_script.specs.site.ByLines.{GoesBy, GoingByLinesPlays, IsCall, HasNoFailures, IsPlayed, IsRunToStop, IsSkipped, PlainLinesGoOn}
use Rattle.gw_script.specs.site.Hazards.{Hazard, no_hazard}
use Rattle.gw_script.specs.site.ScriptLine.{Event, Open, Close, FromTill, FromPt, Lose, Tick, PlayedLine, At, Poll, Fail, Power, ForgetPower}
use Rattle.gw_script.specs.site.Playing.{DiskCall, Write, Sync, Length, Read, Fits, Leads, Play, applies, begins, brings, counted, early_hazard, early_lines, met, play_after, rests}

pub by_value : (b : Bool) → (b ≡ true) ⊎ (b ≡ false)
by_value true = inl refl
by_value false = inr refl

false_true : {A : Type 0} → false ≡ true → A
false_true e = absurd (cc)

-- ---- an event that is due

pub none_due : {A : Type 0} (p : Play) (event : Turn) → p.due ≡ [] → p.due ≡ event ∷ [] → A
none_due p event none due = absurd (let h : [] ≡ event ∷ [] = sym none ∙ due in cc)

one_due : (p : Play) (turn event : Turn) → p.due ≡ turn ∷ [] → p.due ≡ event ∷ [] → turn ≡ event
one_due p turn event is due = let h : turn ∷ [] ≡ event ∷ [] = sym is ∙ due in cc

-- where an event is due no other turn fits
pub only_due : (o : Outside) (call : DiskCall) (p : Play) (turn event : Turn) → p.due ≡ event ∷ [] → Fits o call p turn → turn ≡ event
only_due o call p (Start setup) event due f = none_due p event f.0.no_event due
only_due o call p OpenFailed event due f = none_due p event f.0.no_event due
only_due o call p (Polled now) event due f = none_due p event f.0.no_event due
only_due o call p (Opened till) event due f = one_due p (Opened till) event f due
only_due o call p (HeardTill till bytes) event due f = one_due p (HeardTill till bytes) event f due
only_due o call p (Closed till) event due f = one_due p (Closed till) event f due
only_due o call p (HeardPt pt bytes) event due f = one_due p (HeardPt pt bytes) event f due
only_due o call p (Lost pt) event due f = one_due p (Lost pt) event f due
only_due o call p Stopped event due f = one_due p Stopped event f due
only_due o call p (Linked pt) event due f = none_due p event f.0.no_event due
only_due o call p (LinkFailed pt) event due f = none_due p event f.0.no_event due
only_due o call p (SentTill till bytes ok) event due f = none_due p event f.0.no_event due
only_due o call p (SentPt pt bytes ok) event due f = none_due p event f.0.no_event due
only_due o call p (CutTill till) event due f = none_due p event f.no_event due
only_due o call p (CutPt pt) event due f = none_due p event f.no_event due
only_due o call p (Wrote offset bytes) event due f = none_due p event f.no_event due
only_due o call p Synced event due f = none_due p event f.0.no_event due
only_due o Write p DiskFailed event due f = none_due p event f.0 due
only_due o Sync p DiskFailed event due f = none_due p event f.0.no_event due
only_due o Length p DiskFailed event due f = none_due p event f.0.no_event due
only_due o Read p DiskFailed event due f = none_due p event f.0.no_event due
only_due o call p (Crash file) event due f = none_due p event f.no_event due

pub the_stop : (o : Outside) (p : Play) (turns : List Turn) (q : Play) → p.due ≡ Stopped ∷ [] → Leads o p turns q → IsRunToStop turns → turns ≡ Stopped ∷ []
the_stop o p [] q due leads run = absurd run
the_stop o p (turn ∷ turns) q due (c, f, leads) run =
    let same = only_due o c p turn Stopped due f in
    let none : turns ≡ [] = subst (λ t. IsRunToStop (t ∷ turns)) same run in
    ap (λ t. t ∷ turns) same ∙ ap (λ ts. Stopped ∷ ts) none

-- ---- lines

skipped : (o : Outside) (event : Event) → applies o event ≡ false → IsSkipped o event
skipped o (Open till) e = grind (arith, nat_tests)
skipped o (Close till) e = e
skipped o (FromTill till bytes) e = e
skipped o (FromPt pt bytes) e = e
skipped o (Lose pt) e = e
skipped o Tick e = false_true (sym e)

both : {A : Type 0} (b : Bool) → b ≡ true → b ≡ false → A
both b is not_ = false_true (sym not_ ∙ is)

not_skipped : (o : Outside) (event : Event) → applies o event ≡ true → ¬ IsSkipped o event
not_skipped o (Open till) e s = grind (arith, nat_tests)
not_skipped o (Close till) e s = both (applies o (Close till)) e s
not_skipped o (FromTill till bytes) e s = both (applies o (FromTill till bytes)) e s
not_skipped o (FromPt pt bytes) e s = both (applies o (FromPt pt bytes)) e s
not_skipped o (Lose pt) e s = both (applies o (Lose pt)) e s
not_skipped o Tick e s = s

-- a poll that meets plain lines doesn't meet a power failure
stays_on : (o : Outside) (p : Play) (lines : List PlayedLine) → HasNoFailures lines → (met o p lines).off ≡ p.off
stays_on o p [] plain = refl
stays_on o p (At now ∷ lines) plain = stays_on o (record p { moment = now }) lines plain
stays_on o p (Poll event ∷ lines) plain = elim (by_value (applies o event)) [
  | inl e ↦ rw e refl
  | inr e ↦ rw e (stays_on o p lines plain)
]
stays_on o p (Fail failing ∷ lines) plain = absurd plain
stays_on o p (Power calls kind ∷ lines) plain = absurd plain
stays_on o p (ForgetPower ∷ lines) plain = absurd plain

plain_lines : (lines : List PlayedLine) → HasNoFailures lines → early_lines lines ≡ lines
plain_lines [] plain = refl
plain_lines (At now ∷ lines) plain = ap (λ ls. At now ∷ ls) (plain_lines lines plain)
plain_lines (Poll event ∷ lines) plain = refl
plain_lines (Fail failing ∷ lines) plain = absurd plain
plain_lines (Power calls kind ∷ lines) plain = absurd plain
plain_lines (ForgetPower ∷ lines) plain = absurd plain

plain_hazard : (h : Hazard) (lines : List PlayedLine) → HasNoFailures lines → early_hazard h lines ≡ h
plain_hazard h [] plain = refl
plain_hazard h (At now ∷ lines) plain = plain_hazard h lines plain
plain_hazard h (Poll event ∷ lines) plain = refl
plain_hazard h (Fail failing ∷ lines) plain = absurd plain
plain_hazard h (Power calls kind ∷ lines) plain = absurd plain
plain_hazard h (ForgetPower ∷ lines) plain = absurd plain

-- ---- calls, and then a poll

-- between two calls, where nothing fails
abbrev calm : List PlayedLine → ℤ → Play
calm lines moment = rests lines moment no_hazard

-- some calls, and then what the lines give
record CallsThen (o : Outside) (moment : ℤ) (lines : List PlayedLine) (turns : List Turn) : Type 0 where
  calls : List Turn
  later : List Turn
  is : turns ≡ calls ++ later
  are : AllByRecursion IsCall calls
  goes : GoesBy (outside_from o calls) moment lines later

one_call : (o : Outside) (moment : ℤ) (lines : List PlayedLine) (turn : Turn) (turns : List Turn) → IsCall turn → CallsThen (outside_after o turn) moment lines turns → CallsThen o moment lines (turn ∷ turns)
one_call o moment lines turn turns call x = record { calls = turn ∷ x.calls; later = x.later; is = ap (λ ts. turn ∷ ts) x.is; are = (call, x.are); goes = x.goes }

-- the claim for so many turns
abbrev Again : ℕ → Type 0
Again n = (o : Outside) (moment : ℤ) (lines : List PlayedLine) (turns : List Turn) (q : Play) → length turns ≤ n → HasNoFailures lines → Leads o (calm lines moment) turns q → IsRunToStop turns → CallsThen o moment lines turns

-- what is left after a poll that has met this event
abbrev met_event : List PlayedLine → ℤ → Event → Play
met_event lines moment event = record (calm lines moment) { due = brings event }

abbrev Played : Outside → ℤ → Event → List PlayedLine → List Turn → Type 0
Played o moment event lines turns = IsPlayed o moment event turns (λ after later. GoesBy after moment lines later)

-- the event comes, and then calls
brought_then : (n : ℕ) → Again n → (o : Outside) (moment : ℤ) (lines : List PlayedLine) (event : Event) (turn : Turn) (turns : List Turn) (q : Play)
    → brings event ≡ turn ∷ [] → ¬ IsSkipped o event
    → ((c : DiskCall) → play_after (outside_after o (Polled moment)) c (met_event lines moment event) turn ≡ calm lines moment)
    → ((more : List Turn) → IsRunToStop (turn ∷ more) → IsRunToStop more)
    → length turns ≤ n → HasNoFailures lines → Leads (outside_after o (Polled moment)) (met_event lines moment event) turns q → IsRunToStop turns
    → Played o moment event lines (Polled moment ∷ turns)
brought_then n again o moment lines event turn [] q brings_is kept leads_on rest le plain leads run = absurd run
brought_then n again o moment lines event turn (first ∷ turns) q brings_is kept leads_on rest le plain (c, f, leads) run =
    let before = outside_after o (Polled moment) in
    let p = met_event lines moment event in
    let same = only_due before c p first turn brings_is f in
    let l : Leads (outside_after before turn) (play_after before c p turn) turns q = subst (λ t. Leads (outside_after before t) (play_after before c p t) turns q) same leads in
    let l2 : Leads (outside_after before turn) (calm lines moment) turns q = subst (λ p. Leads (outside_after before turn) p turns q) (leads_on c) l in
    let r = rest turns (subst (λ t. IsRunToStop (t ∷ turns)) same run) in
    let x = again (outside_after before turn) moment lines turns q (omega (arith, le)) plain l2 r in
    record {
      calls = x.calls;
      later = x.later;
      not_skipped = kept;
      are_calls = x.are;
      turns_are = ap (λ t. Polled moment ∷ t ∷ turns) same ∙ ap (λ ts. Polled moment ∷ turn ∷ ts) x.is ∙ ap (λ b. Polled moment ∷ (b ++ (x.calls ++ x.later))) (sym brings_is);
      goes_on = subst (λ b. GoesBy (outside_from o (Polled moment ∷ (b ++ x.calls))) moment lines x.later) (sym brings_is) x.goes;
    }

played : (n : ℕ) → Again n → (o : Outside) (moment : ℤ) (lines : List PlayedLine) (event : Event) (turns : List Turn) (q : Play) → ¬ IsSkipped o event
    → length turns ≤ n → HasNoFailures lines → Leads (outside_after o (Polled moment)) (met_event lines moment event) turns q → IsRunToStop turns
    → Played o moment event lines (Polled moment ∷ turns)
played n again o moment lines (Open till) turns q kept le plain leads run = brought_then n again o moment lines (Open till) (Opened till) turns q refl kept (λ c. refl) (λ more r. r) le plain leads run
played n again o moment lines (Close till) turns q kept le plain leads run = brought_then n again o moment lines (Close till) (Closed till) turns q refl kept (λ c. refl) (λ more r. r) le plain leads run
played n again o moment lines (FromTill till bytes) turns q kept le plain leads run = brought_then n again o moment lines (FromTill till bytes) (HeardTill till bytes) turns q refl kept (λ c. refl) (λ more r. r) le plain leads run
played n again o moment lines (FromPt pt bytes) turns q kept le plain leads run = brought_then n again o moment lines (FromPt pt bytes) (HeardPt pt bytes) turns q refl kept (λ c. refl) (λ more r. r) le plain leads run
played n again o moment lines (Lose pt) turns q kept le plain leads run = brought_then n again o moment lines (Lose pt) (Lost pt) turns q refl kept (λ c. refl) (λ more r. r) le plain leads run
played n again o moment lines Tick turns q kept le plain leads run =
    let x = again (outside_after o (Polled moment)) moment lines turns q le plain leads run in
    record { calls = x.calls; later = x.later; not_skipped = kept; are_calls = x.are; turns_are = ap (λ ts. Polled moment ∷ ts) x.is; goes_on = x.goes }

-- a poll at the moment that these lines set
polled : (n : ℕ) → Again n → (o : Outside) (all : List PlayedLine) (moment : ℤ) (lines : List PlayedLine) (now : ℤ) (turns : List Turn) (q : Play)
    → length turns ≤ n → HasNoFailures lines → now ≡ (met o (calm all moment) lines).moment → Leads (outside_after o (Polled now)) (met o (calm all moment) lines) turns q → IsRunToStop turns
    → GoesBy o moment lines (Polled now ∷ turns)
polled n again o all moment [] now turns q le plain is leads run =
    ap (λ m. Polled m ∷ turns) is ∙ ap (λ ts. Polled moment ∷ ts) (the_stop (outside_after o (Polled now)) (met o (calm all moment) []) turns q refl leads run)
polled n again o all moment (At later ∷ lines) now turns q le plain is leads run = polled n again o all later lines now turns q le plain is leads run
polled n again o all moment (Poll event ∷ lines) now turns q le plain is leads run = elim (by_value (applies o event)) [
  | inl e ↦ (
      let same : now ≡ moment = rw e at is in
      let l : Leads (outside_after o (Polled now)) (met_event lines moment event) turns q = rw e at leads in
      inr (subst (λ m. Played o moment event lines (Polled m ∷ turns)) (sym same)
      (played n again o moment lines event turns q (not_skipped o event e) le plain (subst (λ m. Leads (outside_after o (Polled m)) (met_event lines moment event) turns q) same l) run)))
  | inr e ↦ inl (skipped o event e, polled n again o all moment lines now turns q le plain (rw e at is) (rw e at leads) run)
]
polled n again o all moment (Fail failing ∷ lines) now turns q le plain is leads run = absurd plain
polled n again o all moment (Power calls kind ∷ lines) now turns q le plain is leads run = absurd plain
polled n again o all moment (ForgetPower ∷ lines) now turns q le plain is leads run = absurd plain

calls_then : (n : ℕ) → Again n
calls_then n o moment lines [] q le plain leads run = absurd run
calls_then zero o moment lines (turn ∷ turns) q le plain leads run = absurd (omega (arith, le))
calls_then (suc n) o moment lines (Start setup ∷ turns) q le plain leads run = absurd run
calls_then (suc n) o moment lines (OpenFailed ∷ turns) q le plain leads run = absurd run
calls_then (suc n) o moment lines (Polled now ∷ turns) q le plain (c, f, leads) run =
    record { calls = []; later = Polled now ∷ turns; is = refl; are = tt; goes = polled n (calls_then n) o lines moment lines now turns q (omega (arith, le)) plain f.2 leads run }
calls_then (suc n) o moment lines (Opened till ∷ turns) q le plain (c, f, leads) run = none_due (calm lines moment) (Opened till) refl f
calls_then (suc n) o moment lines (HeardTill till bytes ∷ turns) q le plain (c, f, leads) run = none_due (calm lines moment) (HeardTill till bytes) refl f
calls_then (suc n) o moment lines (Closed till ∷ turns) q le plain (c, f, leads) run = none_due (calm lines moment) (Closed till) refl f
calls_then (suc n) o moment lines (HeardPt pt bytes ∷ turns) q le plain (c, f, leads) run = none_due (calm lines moment) (HeardPt pt bytes) refl f
calls_then (suc n) o moment lines (Lost pt ∷ turns) q le plain (c, f, leads) run = none_due (calm lines moment) (Lost pt) refl f
calls_then (suc n) o moment lines (Stopped ∷ turns) q le plain (c, f, leads) run = none_due (calm lines moment) Stopped refl f
calls_then (suc n) o moment lines (Linked pt ∷ turns) q le plain (c, f, leads) run = one_call o moment lines (Linked pt) turns tt (calls_then n (outside_after o (Linked pt)) moment lines turns q (omega (arith, le)) plain leads run)
calls_then (suc n) o moment lines (LinkFailed pt ∷ turns) q le plain (c, f, leads) run = false_true f.1
calls_then (suc n) o moment lines (SentTill till bytes true ∷ turns) q le plain (c, f, leads) run = one_call o moment lines (SentTill till bytes true) turns refl (calls_then n (outside_after o (SentTill till bytes true)) moment lines turns q (omega (arith, le)) plain leads run)
calls_then (suc n) o moment lines (SentTill till bytes false ∷ turns) q le plain (c, f, leads) run = absurd f.1
calls_then (suc n) o moment lines (SentPt pt bytes true ∷ turns) q le plain (c, f, leads) run = one_call o moment lines (SentPt pt bytes true) turns refl (calls_then n (outside_after o (SentPt pt bytes true)) moment lines turns q (omega (arith, le)) plain leads run)
calls_then (suc n) o moment lines (SentPt pt bytes false ∷ turns) q le plain (c, f, leads) run = absurd f.1
calls_then (suc n) o moment lines (CutTill till ∷ turns) q le plain (c, f, leads) run = one_call o moment lines (CutTill till) turns tt (calls_then n (outside_after o (CutTill till)) moment lines turns q (omega (arith, le)) plain leads run)
calls_then (suc n) o moment lines (CutPt pt ∷ turns) q le plain (c, f, leads) run = one_call o moment lines (CutPt pt) turns tt (calls_then n (outside_after o (CutPt pt)) moment lines turns q (omega (arith, le)) plain leads run)
calls_then (suc n) o moment lines (Wrote offset bytes ∷ turns) q le plain (c, f, leads) run = one_call o moment lines (Wrote offset bytes) turns tt (calls_then n (outside_after o (Wrote offset bytes)) moment lines turns q (omega (arith, le)) plain leads run)
calls_then (suc n) o moment lines (Synced ∷ turns) q le plain (c, f, leads) run = one_call o moment lines Synced turns tt (calls_then n (outside_after o Synced) moment lines turns q (omega (arith, le)) plain leads run)
calls_then (suc n) o moment lines (DiskFailed ∷ turns) q le plain (Write, f, leads) run = false_true f.1
calls_then (suc n) o moment lines (DiskFailed ∷ turns) q le plain (Sync, f, leads) run = false_true f.1
calls_then (suc n) o moment lines (DiskFailed ∷ turns) q le plain (Length, f, leads) run = false_true f.1
calls_then (suc n) o moment lines (DiskFailed ∷ turns) q le plain (Read, f, leads) run = false_true f.1
calls_then (suc n) o moment lines (Crash file ∷ turns) q le plain leads run = absurd run

begins_calm : (lines : List PlayedLine) → HasNoFailures lines → begins lines ≡ calm lines (pos 0)
begins_calm lines plain = ap (λ ls. rests ls (pos 0) (early_hazard no_hazard lines)) (plain_lines lines plain) ∙ ap (rests lines (pos 0)) (plain_hazard no_hazard lines plain)

pub plain-lines-go-on : PlainLinesGoOn
plain-lines-go-on lines setup turns plain run (q, (c, f, leads)) =
    let l : Leads (outside_after nothing_yet (Start setup)) (calm lines (pos 0)) turns q = subst (λ p. Leads (outside_after nothing_yet (Start setup)) (counted p) turns q) (begins_calm lines plain) leads in
    let x = calls_then (length turns) (outside_after nothing_yet (Start setup)) (pos 0) lines turns q (omega arith) plain l run in
    record { setup = setup; calls = x.calls; later = x.later; are_calls = x.are; log_is = ap (λ ts. Start setup ∷ ts) x.is; goes_on = x.goes }

-- ---- from the lines to the play

skips : (o : Outside) (event : Event) → IsSkipped o event → applies o event ≡ false
skips o event is = elim (by_value (applies o event)) [
  | inl e ↦ absurd (not_skipped o event e is)
  | inr e ↦ e
]

plays_it : (o : Outside) (event : Event) → ¬ IsSkipped o event → applies o event ≡ true
plays_it o event kept = elim (by_value (applies o event)) [
  | inl e ↦ e
  | inr e ↦ absurd (kept (skipped o event e))
]

-- where lines go by turns none of them makes a call or the power fail
goes_plain : (lines : List PlayedLine) (o : Outside) (moment : ℤ) (turns : List Turn) → GoesBy o moment lines turns → HasNoFailures lines
goes_plain [] o moment turns goes = tt
goes_plain (At now ∷ lines) o moment turns goes = goes_plain lines o now turns goes
goes_plain (Poll event ∷ lines) o moment turns (inl (is, goes)) = goes_plain lines o moment turns goes
goes_plain (Poll event ∷ lines) o moment turns (inr x) = goes_plain lines (outside_from o (Polled moment ∷ (brings event ++ x.calls))) moment x.later x.goes_on
goes_plain (Fail failing ∷ lines) o moment turns goes = absurd goes
goes_plain (Power calls kind ∷ lines) o moment turns goes = absurd goes
goes_plain (ForgetPower ∷ lines) o moment turns goes = absurd goes

-- a call leads from between two calls to there again
record Stays (o : Outside) (lines : List PlayedLine) (moment : ℤ) (turn : Turn) : Type 0 where
  fits : Fits o Sync (calm lines moment) turn
  place : play_after o Sync (calm lines moment) turn ≡ calm lines moment

call_stays : (o : Outside) (lines : List PlayedLine) (moment : ℤ) (turn : Turn) → IsCall turn → Stays o lines moment turn
call_stays o lines moment (Start setup) is = absurd is
call_stays o lines moment OpenFailed is = absurd is
call_stays o lines moment (Polled now) is = absurd is
call_stays o lines moment (Opened till) is = absurd is
call_stays o lines moment (HeardTill till bytes) is = absurd is
call_stays o lines moment (Closed till) is = absurd is
call_stays o lines moment (HeardPt pt bytes) is = absurd is
call_stays o lines moment (Lost pt) is = absurd is
call_stays o lines moment Stopped is = absurd is
call_stays o lines moment (Linked pt) is = record { fits = (record { no_event = refl; no_failure = refl; power = refl }, refl); place = refl }
call_stays o lines moment (LinkFailed pt) is = absurd is
call_stays o lines moment (SentTill till bytes true) is = record { fits = (record { no_event = refl; no_failure = refl; power = refl }, tt); place = refl }
call_stays o lines moment (SentTill till bytes false) is = false_true is
call_stays o lines moment (SentPt pt bytes true) is = record { fits = (record { no_event = refl; no_failure = refl; power = refl }, tt); place = refl }
call_stays o lines moment (SentPt pt bytes false) is = false_true is
call_stays o lines moment (CutTill till) is = record { fits = record { no_event = refl; no_failure = refl; power = refl }; place = refl }
call_stays o lines moment (CutPt pt) is = record { fits = record { no_event = refl; no_failure = refl; power = refl }; place = refl }
call_stays o lines moment (Wrote offset bytes) is = record { fits = record { no_event = refl; no_failure = refl; power = refl }; place = refl }
call_stays o lines moment Synced is = record { fits = (record { no_event = refl; no_failure = refl; power = refl }, refl); place = refl }
call_stays o lines moment DiskFailed is = absurd is
call_stays o lines moment (Crash file) is = absurd is

-- the turns lead somewhere
abbrev LeadsOn : Outside → Play → List Turn → Type 0
LeadsOn o p turns = (q : Play) × Leads o p turns q

calls_lead : (calls later : List Turn) (o : Outside) (lines : List PlayedLine) (moment : ℤ) → AllByRecursion IsCall calls → LeadsOn (outside_from o calls) (calm lines moment) later → LeadsOn o (calm lines moment) (calls ++ later)
calls_lead [] later o lines moment are leads = leads
calls_lead (call ∷ calls) later o lines moment are leads =
    let s = call_stays o lines moment call are.0 in
    let (q, rest) = calls_lead calls later (outside_after o call) lines moment are.1 leads in
    (q, (Sync, s.fits, subst (λ p. Leads (outside_after o call) p (calls ++ later) q) (sym s.place) rest))

event_leads : (event : Event) (later : List Turn) (o : Outside) (lines : List PlayedLine) (moment : ℤ) → LeadsOn (outside_from o (brings event)) (calm lines moment) later → LeadsOn o (met_event lines moment event) (brings event ++ later)
event_leads (Open till) later o lines moment (q, leads) = (q, (Sync, refl, leads))
event_leads (Close till) later o lines moment (q, leads) = (q, (Sync, refl, leads))
event_leads (FromTill till bytes) later o lines moment (q, leads) = (q, (Sync, refl, leads))
event_leads (FromPt pt bytes) later o lines moment (q, leads) = (q, (Sync, refl, leads))
event_leads (Lose pt) later o lines moment (q, leads) = (q, (Sync, refl, leads))
event_leads Tick later o lines moment leads = leads

outside_brought : (event : Event) (calls : List Turn) (o : Outside) → outside_from o (brings event ++ calls) ≡ outside_from (outside_from o (brings event)) calls
outside_brought (Open till) calls o = refl
outside_brought (Close till) calls o = refl
outside_brought (FromTill till bytes) calls o = refl
outside_brought (FromPt pt bytes) calls o = refl
outside_brought (Lose pt) calls o = refl
outside_brought Tick calls o = refl

-- the turns begin with a poll at which these lines are met, and lead on from there
record PollLeads (o : Outside) (all : List PlayedLine) (moment : ℤ) (lines : List PlayedLine) (turns : List Turn) : Type 0 where
  now : ℤ
  rest : List Turn
  turns_are : turns ≡ Polled now ∷ rest
  now_is : now ≡ (met o (calm all moment) lines).moment
  leads : LeadsOn (outside_after o (Polled now)) (met o (calm all moment) lines) rest

-- they lead from before that poll
poll_leads : (o : Outside) (moment : ℤ) (lines : List PlayedLine) (turns : List Turn) → HasNoFailures lines → PollLeads o lines moment lines turns → LeadsOn o (calm lines moment) turns
poll_leads o moment lines turns plain p =
    let (q, leads) = p.leads in (
      q,
      subst (λ ts. Leads o (calm lines moment) ts q) (sym p.turns_are)
          (Sync, (record { no_event = refl; no_failure = refl; power = refl }, stays_on o (calm lines moment) lines plain, p.now_is), leads),
    )

-- a line that is passed leaves what is met
same_met : (o : Outside) (all : List PlayedLine) (moment : ℤ) (line : PlayedLine) (lines : List PlayedLine) (turns : List Turn) → met o (calm all moment) (line ∷ lines) ≡ met o (calm all moment) lines → PollLeads o all moment lines turns → PollLeads o all moment (line ∷ lines) turns
same_met o all moment line lines turns same p =
    record { now = p.now; rest = p.rest; turns_are = p.turns_are; now_is = p.now_is ∙ ap (λ (q : Play). q.moment) (sym same); leads = subst (λ q. LeadsOn (outside_after o (Polled p.now)) q p.rest) (sym same) p.leads }

played_leads : (o : Outside) (all : List PlayedLine) (moment : ℤ) (event : Event) (lines : List PlayedLine) (turns : List Turn) → (x : Played o moment event lines turns)
    → LeadsOn (outside_from o (Polled moment ∷ (brings event ++ x.calls))) (calm lines moment) x.later → PollLeads o all moment (Poll event ∷ lines) turns
played_leads o all moment event lines turns x later =
    let test = plays_it o event x.not_skipped in
    let met_is : met o (calm all moment) (Poll event ∷ lines) ≡ met_event lines moment event = rw test refl in
    let there = outside_after o (Polled moment) in
    let calls = calls_lead x.calls x.later (outside_from there (brings event)) lines moment x.are_calls (subst (λ after. LeadsOn after (calm lines moment) x.later) (outside_brought event x.calls there) later) in
    record {
      now = moment;
      rest = brings event ++ (x.calls ++ x.later);
      turns_are = x.turns_are;
      now_is = ap (λ (q : Play). q.moment) (sym met_is);
      leads = subst (λ q. LeadsOn there q (brings event ++ (x.calls ++ x.later))) (sym met_is) (event_leads event (x.calls ++ x.later) there lines moment calls);
    }

goes_lead : (lines : List PlayedLine) (o : Outside) (all : List PlayedLine) (moment : ℤ) (turns : List Turn) → GoesBy o moment lines turns → PollLeads o all moment lines turns
goes_lead [] o all moment turns goes = record { now = moment; rest = Stopped ∷ []; turns_are = goes; now_is = refl; leads = (_, (Sync, refl, refl)) }
goes_lead (At now ∷ lines) o all moment turns goes =
    let p = goes_lead lines o all now turns goes in
    record { now = p.now; rest = p.rest; turns_are = p.turns_are; now_is = p.now_is; leads = p.leads }
goes_lead (Poll event ∷ lines) o all moment turns (inl (is, goes)) =
    same_met o all moment (Poll event) lines turns (rw (skips o event is) refl) (goes_lead lines o all moment turns goes)
goes_lead (Poll event ∷ lines) o all moment turns (inr x) =
    let there = outside_from o (Polled moment ∷ (brings event ++ x.calls)) in
    played_leads o all moment event lines turns x (poll_leads there moment lines x.later (goes_plain lines there moment x.later x.goes_on) (goes_lead lines there lines moment x.later x.goes_on))
goes_lead (Fail failing ∷ lines) o all moment turns goes = absurd goes
goes_lead (Power calls kind ∷ lines) o all moment turns goes = absurd goes
goes_lead (ForgetPower ∷ lines) o all moment turns goes = absurd goes

pub going-by-lines-plays : GoingByLinesPlays
going-by-lines-plays lines log g =
    let there = outside_after nothing_yet (Start g.setup) in
    let here = outside_from there g.calls in
    let plain = goes_plain lines here (pos 0) g.later g.goes_on in
    let (q, leads) = calls_lead g.calls g.later there lines (pos 0) g.are_calls (poll_leads here (pos 0) lines g.later plain (goes_lead lines here lines (pos 0) g.later g.goes_on)) in
    let start : Leads nothing_yet (calm lines (pos 0)) (Start g.setup ∷ (g.calls ++ g.later)) q = (Sync, (record { no_event = refl; no_failure = refl; power = refl }, refl), leads) in
    (q, subst (λ p. Leads nothing_yet p log q) (sym (begins_calm lines plain)) (subst (λ turns. Leads nothing_yet (calm lines (pos 0)) turns q) (sym g.log_is) start))
