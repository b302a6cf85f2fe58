-- The turns of calls fit one after the other, and calls determine them.
use Rattle.std.proofs.Common.{◌≡◌, ℕ, List, [], ◌∷◌, ◌++◌, take, drop, refl, sym, ◌∙◌, ap, subst, inl, inr, true, false, length-take, take-append-drop, append-nil, append_assoc}
use Rattle.std.specs.Prelude.{◌⊎◌, Bool, nat_le, ◌==◌, ◌-◌, if◌then◌else◌, not, Option, Some, None, is_some}
use Rattle.gw_base.specs.declared.setup.Setup.{Setup}
use Rattle.gw_site.specs.Outside.{Outside, outside_after, outside_from, outside_of}
use Rattle.gw_site.specs.declared.turn.Turn.{Turn}
use Rattle.gw_site.specs.declared.turn.Turn.TheVariants.{Start, OpenFailed, Polled, Linked, LinkFailed, SentTill, SentPt, CutTill, CutPt, Wrote, Synced, DiskFailed, Crash}
use Rattle.gw_site.proofs.OutsideLemmas.{outside_of-append, outside_of_more}
use Rattle.gw_site.specs.Steps.{ImageKind, SiteCall, OpenCall, PollCall, SendTillCall, SendPtCall, LinkCall, CutTillCall, CutPtCall, LengthCall, ReadCall, WriteCall, SyncCall, SiteStep, Made, PowerBack, StopAfter, Holding}
use Rattle.gw_script.specs.site.ScriptLine.{Failing, Event, Open, Close, FromTill, FromPt, Lose, Tick, PlayedLine, At, Poll, Fail, Power, ForgetPower}
use Rattle.gw_script.specs.site.Hazards.{Armed, Hazard, armed, crash_file, is_failing, is_reached, links_without, sends_without, sent_of, takes_most}
use Rattle.gw_script.specs.site.Playing.{DiskCall, Write, Sync, Length, Read, Fits, Idle, Leads, Play, after_poll, applies, begins, brings, brought, counted, fails_next, fallen, is_off, linked_to_pt, met, met_coming, one_call_less, play_after, power_forgotten, powered, restarted, sent_to_pt, then_coming}
use Rattle.gw_script.specs.site.Calls.{CallFits, LeadsBy, are_scripted, place_after, play_from, polled_place, polled_turns, call_turns, set_to_fail}
use Rattle.gw_script.specs.site.Laws.{CallsGoOn, CallsPlay, GoesOnBeside, IsCutTo, OneLogOfCalls, PowerGoesOn, SendsAreCut}
use Rattle.gw_script.proofs.site.LeadsLemmas.{sends-take-theirs}

-- no event and no failure of the disk is due
pub record IsQuiet (p : Play) : Type 0 where
  pub no_event : p.due ≡ []
  pub no_failure : p.failing ≡ false

-- ---- what counting leaves

less_quiet : (armed : Option Armed) (p : Play) → IsQuiet p → IsQuiet (one_call_less armed p)
less_quiet None p q = q
less_quiet (Some armed) p q = by_test (nat_le armed.calls 1)
  where
    by_test : (test : Bool) → IsQuiet (if test then is_off armed.kind p else powered (armed.calls - 1) armed.kind p)
    by_test true = record { no_event = q.no_event; no_failure = q.no_failure }
    by_test false = record { no_event = q.no_event; no_failure = q.no_failure }

less_due : (armed : Option Armed) (p : Play) → (one_call_less armed p).due ≡ p.due
less_due None p = refl
less_due (Some armed) p = by_test (nat_le armed.calls 1)
  where
    by_test : (test : Bool) → (if test then is_off armed.kind p else powered (armed.calls - 1) armed.kind p).due ≡ p.due
    by_test true = refl
    by_test false = refl

less_failing : (armed : Option Armed) (p : Play) → (one_call_less armed p).failing ≡ p.failing
less_failing None p = refl
less_failing (Some armed) p = by_test (nat_le armed.calls 1)
  where
    by_test : (test : Bool) → (if test then is_off armed.kind p else powered (armed.calls - 1) armed.kind p).failing ≡ p.failing
    by_test true = refl
    by_test false = refl

pub counted_quiet : (p : Play) → IsQuiet p → IsQuiet (counted p)
counted_quiet p q = less_quiet p.hazard.power p q

pub idle_quiet : (p : Play) → Idle p → IsQuiet p
idle_quiet p idle = record { no_event = idle.no_event; no_failure = idle.no_failure }

-- ---- the turns of one call

-- the turns lead to a place at which nothing is due
pub record Goes (o : Outside) (p : Play) (turns : List Turn) (after : Play) : Type 0 where
  pub leads : Leads o p turns after
  pub quiet : IsQuiet after

none_goes : (o : Outside) (p : Play) (call : DiskCall) → IsQuiet p → Goes o p [] (play_from o call p [])
none_goes o p call quiet = record { leads = refl; quiet = quiet }

one_goes : (o : Outside) (p : Play) (call : DiskCall) (turn : Turn) → Fits o call p turn → IsQuiet (play_after o call p turn) → Goes o p (turn ∷ []) (play_from o call p (turn ∷ []))
one_goes o p call turn fits quiet = record { leads = (call, fits, refl); quiet = quiet }

pub open_goes : (o : Outside) (p : Play) (setup : Setup) (test : Bool) → p.hazard.fail_open ≡ test → Idle p →
    Goes o p (if test then OpenFailed ∷ [] else Start setup ∷ []) (play_from o Sync p (if test then OpenFailed ∷ [] else Start setup ∷ []))
open_goes o p setup true e idle = one_goes o p Sync OpenFailed (idle, e) (counted_quiet (record p { hazard = record p.hazard { fail_open = false } }) (record { no_event = idle.no_event; no_failure = idle.no_failure }))
open_goes o p setup false e idle = one_goes o p Sync (Start setup) (idle, e) (counted_quiet p (idle_quiet p idle))

pub link_goes : (o : Outside) (p : Play) (pt : ℕ) (test : Bool) → is_failing p.hazard.fail_links pt ≡ test → Idle p →
    Goes o p (if test then LinkFailed pt ∷ [] else Linked pt ∷ []) (play_from o Sync p (if test then LinkFailed pt ∷ [] else Linked pt ∷ []))
link_goes o p pt true e idle = one_goes o p Sync (LinkFailed pt) (idle, e) (counted_quiet (record p { hazard = record p.hazard { fail_links = links_without p.hazard.fail_links pt } }) (record { no_event = idle.no_event; no_failure = idle.no_failure }))
link_goes o p pt false e idle = one_goes o p Sync (Linked pt) (idle, e) (counted_quiet (linked_to_pt pt p) (record { no_event = idle.no_event; no_failure = idle.no_failure }))

pub till_quiet : (p : Play) (till : ℕ) (bytes : List ℕ) (ok : Bool) (o : Outside) → Idle p → IsQuiet (play_after o Sync p (SentTill till bytes ok))
till_quiet p till bytes true o idle = counted_quiet p (idle_quiet p idle)
till_quiet p till bytes false o idle = counted_quiet (record p { hazard = record p.hazard { fail_tills = sends_without p.hazard.fail_tills till } }) (record { no_event = idle.no_event; no_failure = idle.no_failure })

pub pt_quiet : (p : Play) (pt : ℕ) (bytes : List ℕ) (ok : Bool) (o : Outside) → Idle p → IsQuiet (play_after o Sync p (SentPt pt bytes ok))
pt_quiet p pt bytes true o idle = counted_quiet (sent_to_pt pt bytes p) (record { no_event = idle.no_event; no_failure = idle.no_failure })
pt_quiet p pt bytes false o idle = counted_quiet (record (sent_to_pt pt bytes p) { hazard = record p.hazard { fail_pts = sends_without p.hazard.fail_pts pt } }) (record { no_event = idle.no_event; no_failure = idle.no_failure })

pub length_goes : (o : Outside) (p : Play) (test : Bool) → p.hazard.fail_length ≡ test → Idle p → Goes o p (if test then DiskFailed ∷ [] else []) (play_from o Length p (if test then DiskFailed ∷ [] else []))
length_goes o p true e idle = one_goes o p Length DiskFailed (idle, e) (record { no_event = idle.no_event; no_failure = idle.no_failure })
length_goes o p false e idle = none_goes o p Length (idle_quiet p idle)

pub read_goes : (o : Outside) (p : Play) (test : Bool) → p.hazard.fail_read ≡ test → Idle p → Goes o p (if test then DiskFailed ∷ [] else []) (play_from o Read p (if test then DiskFailed ∷ [] else []))
read_goes o p true e idle = one_goes o p Read DiskFailed (idle, e) (record { no_event = idle.no_event; no_failure = idle.no_failure })
read_goes o p false e idle = none_goes o p Read (idle_quiet p idle)

pub write_goes : (o : Outside) (p : Play) (offset : ℕ) (bytes : List ℕ) (test : Bool) → p.hazard.fail_write ≡ test → Idle p →
    Goes o p (if test then Wrote offset bytes ∷ DiskFailed ∷ [] else Wrote offset bytes ∷ []) (play_from o Write p (if test then Wrote offset bytes ∷ DiskFailed ∷ [] else Wrote offset bytes ∷ []))
write_goes o p offset bytes true e idle =
    let h : Hazard = record p.hazard { fail_write = false } in
    let due : (play_after o Write p (Wrote offset bytes)).due ≡ [] = less_due h.power (record p { failing = p.hazard.fail_write; hazard = h }) ∙ idle.no_event in
    let failing : (play_after o Write p (Wrote offset bytes)).failing ≡ true = less_failing h.power (record p { failing = p.hazard.fail_write; hazard = h }) ∙ e in
    record { leads = (Write, idle, (Write, (due, failing), refl)); quiet = record { no_event = due; no_failure = refl } }
write_goes o p offset bytes false e idle = one_goes o p Write (Wrote offset bytes) idle (counted_quiet (record p { failing = p.hazard.fail_write; hazard = record p.hazard { fail_write = false } }) (record { no_event = idle.no_event; no_failure = e }))

pub sync_goes : (o : Outside) (p : Play) (test : Bool) → p.hazard.fail_sync ≡ test → Idle p → Goes o p (if test then DiskFailed ∷ [] else Synced ∷ []) (play_from o Sync p (if test then DiskFailed ∷ [] else Synced ∷ []))
sync_goes o p true e idle = one_goes o p Sync DiskFailed (idle, e) (counted_quiet (record p { hazard = record p.hazard { fail_sync = false } }) (record { no_event = idle.no_event; no_failure = idle.no_failure }))
sync_goes o p false e idle = one_goes o p Sync Synced (idle, e) (counted_quiet p (idle_quiet p idle))

-- ---- polls

-- the turn is that of an event: it comes where it is due, and then nothing is due
abbrev pub IsEvent : Turn → Type 0
IsEvent turn = (o : Outside) (p : Play) → p.due ≡ turn ∷ [] → Fits o Sync p turn × (play_after o Sync p turn ≡ brought p)

-- at most one turn, which is that of an event
abbrev AreEvent : List Turn → Type 0
AreEvent [] = Unit {0}
AreEvent (turn ∷ turns) = IsEvent turn × (turns ≡ [])

brings_event : (event : Event) → AreEvent (brings event)
brings_event (Open till) = (λ o p due. (due, refl), refl)
brings_event (Close till) = (λ o p due. (due, refl), refl)
brings_event (FromTill till bytes) = (λ o p due. (due, refl), refl)
brings_event (FromPt pt bytes) = (λ o p due. (due, refl), refl)
brings_event (Lose pt) = (λ o p due. (due, refl), refl)
brings_event Tick = tt

pub passed_due : (o : Outside) (failing : Failing) (p : Play) → (fails_next o failing p).due ≡ p.due
passed_due o failing p = by_test (is_reached o failing)
  where
    by_test : (test : Bool) → (if test then record p { hazard = armed failing p.hazard } else p).due ≡ p.due
    by_test true = refl
    by_test false = refl

passed_failing : (o : Outside) (failing : Failing) (p : Play) → (fails_next o failing p).failing ≡ p.failing
passed_failing o failing p = by_test (is_reached o failing)
  where
    by_test : (test : Bool) → (if test then record p { hazard = armed failing p.hazard } else p).failing ≡ p.failing
    by_test true = refl
    by_test false = refl

met_event : (o : Outside) (p : Play) (lines : List PlayedLine) → p.due ≡ [] → AreEvent (met o p lines).due
met_event o p [] none = (λ o p due. (due, refl), refl)
met_event o p (At now ∷ lines) none = met_event o (record p { moment = now }) lines none
met_event o p (Poll event ∷ lines) none = by_test (applies o event) (met_event o p lines none)
  where
    by_test : (test : Bool) → AreEvent (met o p lines).due → AreEvent (if test then record p { lines = lines; due = brings event } else met o p lines).due
    by_test true later = brings_event event
    by_test false later = later
met_event o p (Fail failing ∷ lines) none = met_event o (fails_next o failing p) lines (passed_due o failing p ∙ none)
met_event o p (Power calls kind ∷ lines) none = by_test (calls == 0) (met_event o (powered calls kind p) lines none)
  where
    by_test : (test : Bool) → AreEvent (met o (powered calls kind p) lines).due → AreEvent (if test then is_off kind (record p { lines = lines }) else met o (powered calls kind p) lines).due
    by_test true later = subst AreEvent (sym none) tt
    by_test false later = later
met_event o p (ForgetPower ∷ lines) none = met_event o (power_forgotten p) lines none

-- so it is with what is still to come of played terminals
coming_event : (o : Outside) (p : Play) (events : List Event) → p.due ≡ [] → AreEvent (met_coming o events p).due
coming_event o p [] none = met_event o (then_coming [] p) p.lines none
coming_event o p (event ∷ events) none = by_test (applies o event) (coming_event o p events none)
  where
    by_test : (test : Bool) → AreEvent (met_coming o events p).due → AreEvent (if test then record (then_coming events p) { due = brings event } else met_coming o events p).due
    by_test true later = brings_event event
    by_test false later = later

met_failing : (o : Outside) (p : Play) (lines : List PlayedLine) → (met o p lines).failing ≡ p.failing
met_failing o p [] = refl
met_failing o p (At now ∷ lines) = met_failing o (record p { moment = now }) lines
met_failing o p (Poll event ∷ lines) = by_test (applies o event) (met_failing o p lines)
  where
    by_test : (test : Bool) → (met o p lines).failing ≡ p.failing → (if test then record p { lines = lines; due = brings event } else met o p lines).failing ≡ p.failing
    by_test true later = refl
    by_test false later = later
met_failing o p (Fail failing ∷ lines) = met_failing o (fails_next o failing p) lines ∙ passed_failing o failing p
met_failing o p (Power calls kind ∷ lines) = by_test (calls == 0) (met_failing o (powered calls kind p) lines)
  where
    by_test : (test : Bool) → (met o (powered calls kind p) lines).failing ≡ p.failing → (if test then is_off kind (record p { lines = lines }) else met o (powered calls kind p) lines).failing ≡ p.failing
    by_test true later = refl
    by_test false later = later
met_failing o p (ForgetPower ∷ lines) = met_failing o (power_forgotten p) lines

pub coming_failing : (o : Outside) (p : Play) (events : List Event) → (met_coming o events p).failing ≡ p.failing
coming_failing o p [] = met_failing o (then_coming [] p) p.lines
coming_failing o p (event ∷ events) = by_test (applies o event) (coming_failing o p events)
  where
    by_test : (test : Bool) → (met_coming o events p).failing ≡ p.failing → (if test then record (then_coming events p) { due = brings event } else met_coming o events p).failing ≡ p.failing
    by_test true later = refl
    by_test false later = later

-- the event that is due comes
due_leads : (o : Outside) (p : Play) (due : List Turn) → p.due ≡ due → AreEvent due → Leads o p due (brought p)
due_leads o p [] is event = ap (λ d. record p { due = d }) is
due_leads o p (turn ∷ turns) is event =
    let only : p.due ≡ turn ∷ [] = is ∙ ap (λ ts. turn ∷ ts) event.1 in
    let (fits, after) = event.0 o p only in
    subst (λ ts. Leads o p (turn ∷ ts) (brought p)) (sym event.1) (Sync, fits, after)

pub poll_goes : (o : Outside) (p : Play) → Idle p → (after_poll o p).off ≡ None → Goes o p (Polled (after_poll o p).moment ∷ (after_poll o p).due) (brought (after_poll o p))
poll_goes o p idle on =
    let q = after_poll o p in
    record {
      leads = (Sync, (idle, on, refl), due_leads (outside_after o (Polled q.moment)) q q.due refl (coming_event o p p.peers.coming idle.no_event));
      quiet = record { no_event = refl; no_failure = coming_failing o p p.peers.coming ∙ idle.no_failure };
    }

-- ---- calls and power failures

-- the last poll has reached a power failure, which the log doesn't show yet
record Fell (o : Outside) (p q : Play) : Type 0 where
  kind : ImageKind
  idle : Idle q
  off : (after_poll o q).off ≡ Some kind
  is : p ≡ after_poll o q

-- the place of the site, and that which the log shows: they are one, but after a poll that has reached a power failure
abbrev AreAt : Outside → Play → Play → Type 0
AreAt o p q = ((q ≡ p) × IsQuiet p) ⊎ Fell o p q

leads_append : (o : Outside) (p : Play) (xs ys : List Turn) (q r : Play) → Leads o p xs q → Leads (outside_from o xs) q ys r → Leads o p (xs ++ ys) r
leads_append o p [] ys q r same rest = subst (λ x. Leads o x ys r) (sym same) rest
leads_append o p (x ∷ xs) ys q r (call, fits, more) rest = (call, fits, leads_append (outside_after o x) (play_after o call p x) xs ys q r more rest)

-- what these steps have left leads somewhere
abbrev Again : List SiteStep → Type 0
Again steps = (past : List Turn) (p q : Play) (turns : List Turn) (after : Play) → AreAt (outside_of past) p q → LeadsBy past p steps turns after → (final : Play) × Leads (outside_of past) q turns final

made_then : (steps : List SiteStep) → Again steps → (past : List Turn) (p : Play) (made later turns : List Turn) (place after : Play) → Goes (outside_of past) p made place → turns ≡ made ++ later → LeadsBy (past ++ made) place steps later after →
    (final : Play) × Leads (outside_of past) p turns final
made_then steps again past p made later turns place after goes is rest =
    let (final, leads) = again (past ++ made) place place later after (inl (refl, goes.quiet)) rest in
    let from : Leads (outside_from (outside_of past) made) place later final = subst (λ o. Leads o place later final) (outside_of-append past made) leads in
    (final, subst (λ t. Leads (outside_of past) p t final) (sym is) (leads_append (outside_of past) p made later place final goes.leads from))

poll_then : (steps : List SiteStep) → Again steps → (past : List Turn) (p : Play) (later turns : List Turn) (after : Play) → Idle p → (off : Option ImageKind) → (after_poll (outside_of past) p).off ≡ off →
    turns ≡ polled_turns (after_poll (outside_of past) p) off ++ later → LeadsBy (past ++ polled_turns (after_poll (outside_of past) p) off) (polled_place (after_poll (outside_of past) p) off) steps later after → (final : Play) × Leads (outside_of past) p turns final
poll_then steps again past p later turns after idle None off is rest =
    let q = after_poll (outside_of past) p in
    made_then steps again past p (Polled q.moment ∷ q.due) later turns (brought q) after (poll_goes (outside_of past) p idle off) is rest
poll_then steps again past p later turns after idle (Some kind) off is rest =
    let q = after_poll (outside_of past) p in
    let (final, leads) = again past q p later after (inr (record { kind = kind; idle = idle; off = off; is = refl })) (subst (λ l. LeadsBy l q steps later after) (append-nil past) rest) in
    (final, subst (λ t. Leads (outside_of past) p t final) (sym is) leads)

call_then : (steps : List SiteStep) → Again steps → (past : List Turn) (p : Play) (call : SiteCall) (later turns : List Turn) (after : Play) → Idle p →
    turns ≡ call_turns (outside_of past) p call ++ later → LeadsBy (past ++ call_turns (outside_of past) p call) (place_after (outside_of past) p call) steps later after → (final : Play) × Leads (outside_of past) p turns final
call_then steps again past p (OpenCall setup) later turns after idle is rest = made_then steps again past p _ later turns _ after (open_goes (outside_of past) p setup p.hazard.fail_open refl idle) is rest
call_then steps again past p PollCall later turns after idle is rest = poll_then steps again past p later turns after idle (after_poll (outside_of past) p).off refl is rest
call_then steps again past p (SendTillCall till bytes) later turns after idle is rest =
    let o = outside_of past in
    let most = takes_most p.hazard.fail_tills till in
    made_then steps again past p _ later turns _ after (one_goes o p Sync (SentTill till (sent_of most bytes) (not (is_some most))) (idle, sends-take-theirs most bytes) (till_quiet p till (sent_of most bytes) (not (is_some most)) o idle)) is rest
call_then steps again past p (SendPtCall pt bytes) later turns after idle is rest =
    let o = outside_of past in
    let most = takes_most p.hazard.fail_pts pt in
    made_then steps again past p _ later turns _ after (one_goes o p Sync (SentPt pt (sent_of most bytes) (not (is_some most))) (idle, sends-take-theirs most bytes) (pt_quiet p pt (sent_of most bytes) (not (is_some most)) o idle)) is rest
call_then steps again past p (LinkCall pt) later turns after idle is rest = made_then steps again past p _ later turns _ after (link_goes (outside_of past) p pt (is_failing p.hazard.fail_links pt) refl idle) is rest
call_then steps again past p (CutTillCall till) later turns after idle is rest = made_then steps again past p _ later turns _ after (one_goes (outside_of past) p Sync (CutTill till) idle (counted_quiet p (idle_quiet p idle))) is rest
call_then steps again past p (CutPtCall pt) later turns after idle is rest = made_then steps again past p _ later turns _ after (one_goes (outside_of past) p Sync (CutPt pt) idle (counted_quiet p (idle_quiet p idle))) is rest
call_then steps again past p LengthCall later turns after idle is rest = made_then steps again past p _ later turns _ after (length_goes (outside_of past) p p.hazard.fail_length refl idle) is rest
call_then steps again past p (ReadCall offset size) later turns after idle is rest = made_then steps again past p _ later turns _ after (read_goes (outside_of past) p p.hazard.fail_read refl idle) is rest
call_then steps again past p (WriteCall offset bytes) later turns after idle is rest = made_then steps again past p _ later turns _ after (write_goes (outside_of past) p offset bytes p.hazard.fail_write refl idle) is rest
call_then steps again past p SyncCall later turns after idle is rest = made_then steps again past p _ later turns _ after (sync_goes (outside_of past) p p.hazard.fail_sync refl idle) is rest

-- the power failure that the log shows is the one that the script has reached
crash_then : (steps : List SiteStep) → Again steps → (past : List Turn) (p q : Play) (kind : ImageKind) (later turns : List Turn) (after : Play) → q.due ≡ [] → q.failing ≡ false → fallen (outside_of past) q.off q ≡ p → p.off ≡ Some kind →
    turns ≡ Crash (crash_file kind (outside_of past)) ∷ later → LeadsBy (past ++ Crash (crash_file kind (outside_of past)) ∷ []) (restarted p) steps later after → (final : Play) × Leads (outside_of past) q turns final
crash_then steps again past p q kind later turns after none failing same off is rest =
    let o = outside_of past in
    let file = crash_file kind o in
    let (final, leads) = again (past ++ Crash file ∷ []) (restarted p) (restarted p) later after (inl (refl, record { no_event = refl; no_failure = refl })) rest in
    let there : Leads (outside_after o (Crash file)) (restarted p) later final = subst (λ x. Leads x (restarted p) later final) (outside_of_more past (Crash file)) leads in
    let from : Leads (outside_after o (Crash file)) (restarted (fallen o q.off q)) later final = subst (λ x. Leads (outside_after o (Crash file)) (restarted x) later final) (sym same) there in
    (final, subst (λ t. Leads o q t final) (sym is) (Sync, record { kind = kind; no_event = none; no_failure = failing; off = ap (λ (x : Play). x.off) same ∙ off; file_is = refl }, from))

goes_by : (steps : List SiteStep) → are_scripted steps ≡ true → Again steps
goes_by [] own past p q turns after at (none, same) = (q, subst (λ t. Leads (outside_of past) q t q) (sym none) refl)
goes_by (Made call ∷ steps) own past p q turns after (inl (same, quiet)) (made, later, (idle, made_is), is, rest) =
    let (final, leads) = call_then steps (goes_by steps own) past p call later turns after idle (is ∙ ap (λ m. m ++ later) made_is) (subst (λ m. LeadsBy (past ++ m) (place_after (outside_of past) p call) steps later after) made_is rest) in
    (final, subst (λ x. Leads (outside_of past) x turns final) (sym same) leads)
goes_by (Made call ∷ steps) own past p q turns after (inr fell) (made, later, (idle, made_is), is, rest) = absurd (let e : Some fell.kind ≡ None = sym fell.off ∙ sym (ap (λ (x : Play). x.off) fell.is) ∙ idle.power in cc)
goes_by (PowerBack ∷ steps) own past p q turns after (inl (same, quiet)) (kind, later, off, is, rest) =
    let stays : fallen (outside_of past) p.off p ≡ p = ap (λ x. fallen (outside_of past) x p) off in
    let (final, leads) = crash_then steps (goes_by steps own) past p p kind later turns after quiet.no_event quiet.no_failure stays off is rest in
    (final, subst (λ x. Leads (outside_of past) x turns final) (sym same) leads)
goes_by (PowerBack ∷ steps) own past p q turns after (inr fell) (kind, later, off, is, rest) =
    crash_then steps (goes_by steps own) past p q kind later turns after fell.idle.no_event fell.idle.no_failure (ap (λ x. fallen (outside_of past) x q) fell.idle.power ∙ sym fell.is) off is rest
goes_by (StopAfter calls kind ∷ steps) own past p q turns after at rest = absurd (let h : false ≡ true = own in cc)
goes_by (Holding file ∷ steps) own past p q turns after at rest = absurd (let h : false ≡ true = own in cc)

begins_quiet : (lines : List PlayedLine) → IsQuiet (begins lines)
begins_quiet lines = record { no_event = refl; no_failure = refl }

pub calls-play : CallsPlay
calls-play lines steps log own (after, leads) = goes_by steps own [] (begins lines) (begins lines) log after (inl (refl, begins_quiet lines)) leads

-- ---- one log

some_same : (a b : ImageKind) → Some a ≡ Some b → a ≡ b
some_same a b e = cc

one_log : (steps : List SiteStep) (past : List Turn) (p : Play) (turns other : List Turn) (after end : Play) → LeadsBy past p steps turns after → LeadsBy past p steps other end → turns ≡ other
one_log [] past p turns other after end h k = h.0 ∙ sym k.0
one_log (Made call ∷ steps) past p turns other after end (made, later, (idle, made_is), is, rest) (made2, later2, (idle2, made_is2), is2, rest2) =
    let same : made ≡ made2 = made_is ∙ sym made_is2 in
    let more = one_log steps (past ++ made2) (place_after (outside_of past) p call) later later2 after end (subst (λ m. LeadsBy (past ++ m) (place_after (outside_of past) p call) steps later after) same rest) rest2 in
    is ∙ ap (λ m. m ++ later) same ∙ ap (λ l. made2 ++ l) more ∙ sym is2
one_log (PowerBack ∷ steps) past p turns other after end (kind, later, off, is, rest) (kind2, later2, off2, is2, rest2) =
    let o = outside_of past in
    let same : kind ≡ kind2 = some_same kind kind2 (sym off ∙ off2) in
    let more = one_log steps (past ++ Crash (crash_file kind2 o) ∷ []) (restarted p) later later2 after end (subst (λ k. LeadsBy (past ++ Crash (crash_file k o) ∷ []) (restarted p) steps later after) same rest) rest2 in
    is ∙ ap (λ k. Crash (crash_file k o) ∷ later) same ∙ ap (λ l. Crash (crash_file kind2 o) ∷ l) more ∙ sym is2
one_log (StopAfter calls kind ∷ steps) past p turns other after end h k = one_log steps past (set_to_fail calls kind p) turns other after end h k
one_log (Holding file ∷ steps) past p turns other after end (later, none, is, rest) (later2, none2, is2, rest2) =
    let more = one_log steps (past ++ Crash file ∷ []) p later later2 after end rest rest2 in
    is ∙ ap (λ l. Crash file ∷ l) more ∙ sym is2

pub one-log-of-calls : OneLogOfCalls
one-log-of-calls lines steps log other (after, h) (end, k) = one_log steps [] (begins lines) log other after end h k

-- ---- steps after others

pub leads_by_append : (steps : List SiteStep) (past : List Turn) (p : Play) (turns : List Turn) (place : Play) (more : List SiteStep) (later : List Turn) (after : Play) → LeadsBy past p steps turns place → LeadsBy (past ++ turns) place more later after →
    LeadsBy past p (steps ++ more) (turns ++ later) after
leads_by_append [] past p turns place more later after (none, same) last =
    let there : past ++ turns ≡ past = ap (λ t. past ++ t) none ∙ append-nil past in
    let from : LeadsBy past p more later after = subst (λ l. LeadsBy l p more later after) there (subst (λ x. LeadsBy (past ++ turns) x more later after) (sym same) last) in
    subst (λ t. LeadsBy past p more (t ++ later) after) (sym none) from
leads_by_append (Made call ∷ steps) past p turns place more later after (made, mid, fits, is, rest) last =
    let there : past ++ turns ≡ (past ++ made) ++ mid = ap (λ t. past ++ t) is ∙ sym (append_assoc past made mid) in
    (made, mid ++ later, fits, ap (λ t. t ++ later) is ∙ append_assoc made mid later, leads_by_append steps (past ++ made) (place_after (outside_of past) p call) mid place more later after rest (subst (λ l. LeadsBy l place more later after) there last))
leads_by_append (PowerBack ∷ steps) past p turns place more later after (kind, mid, off, is, rest) last =
    let crash = Crash (crash_file kind (outside_of past)) ∷ [] in
    let there : past ++ turns ≡ (past ++ crash) ++ mid = ap (λ t. past ++ t) is ∙ sym (append_assoc past crash mid) in
    (kind, mid ++ later, off, ap (λ t. t ++ later) is, leads_by_append steps (past ++ crash) (restarted p) mid place more later after rest (subst (λ l. LeadsBy l place more later after) there last))
leads_by_append (StopAfter calls kind ∷ steps) past p turns place more later after first last = leads_by_append steps past (set_to_fail calls kind p) turns place more later after first last
leads_by_append (Holding file ∷ steps) past p turns place more later after (mid, none, is, rest) last =
    let there : past ++ turns ≡ (past ++ Crash file ∷ []) ++ mid = ap (λ t. past ++ t) is ∙ sym (append_assoc past (Crash file ∷ []) mid) in
    (mid ++ later, none, ap (λ t. t ++ later) is, leads_by_append steps (past ++ Crash file ∷ []) p mid place more later after rest (subst (λ l. LeadsBy l place more later after) there last))

-- the steps before others lead somewhere
pub leads_by_part : (steps : List SiteStep) (past : List Turn) (p : Play) (more : List SiteStep) (turns : List Turn) (after : Play) → LeadsBy past p (steps ++ more) turns after → (made : List Turn) × (middle : Play) × LeadsBy past p steps made middle
leads_by_part [] past p more turns after leads = ([], p, (refl, refl))
leads_by_part (Made call ∷ steps) past p more turns after (made, later, fits, is, rest) =
    let (mid, place, leads) = leads_by_part steps (past ++ made) (place_after (outside_of past) p call) more later after rest in
    (made ++ mid, place, (made, mid, fits, refl, leads))
leads_by_part (PowerBack ∷ steps) past p more turns after (kind, later, off, is, rest) =
    let crash = Crash (crash_file kind (outside_of past)) in
    let (mid, place, leads) = leads_by_part steps (past ++ crash ∷ []) (restarted p) more later after rest in
    (crash ∷ mid, place, (kind, mid, off, refl, leads))
leads_by_part (StopAfter calls kind ∷ steps) past p more turns after leads = leads_by_part steps past (set_to_fail calls kind p) more turns after leads
leads_by_part (Holding file ∷ steps) past p more turns after (later, none, is, rest) =
    let (mid, place, leads) = leads_by_part steps (past ++ Crash file ∷ []) p more later after rest in
    (Crash file ∷ mid, place, (mid, none, refl, leads))

-- from any first place on
pub calls_on : (first : Play) (steps : List SiteStep) (log : List Turn) (place : Play) (call : SiteCall) (made : List Turn) → LeadsBy [] first steps log place → CallFits (outside_of log) place call made →
    LeadsBy [] first (steps ++ Made call ∷ []) (log ++ made) (place_after (outside_of log) place call)
calls_on first steps log place call made leads fits =
    leads_by_append steps [] first log place (Made call ∷ []) made (place_after (outside_of log) place call) leads (made, [], fits, sym (append-nil made), (refl, refl))

pub power_on : (first : Play) (steps : List SiteStep) (log : List Turn) (place : Play) (kind : ImageKind) → LeadsBy [] first steps log place → place.off ≡ Some kind →
    LeadsBy [] first (steps ++ PowerBack ∷ []) (log ++ Crash (crash_file kind (outside_of log)) ∷ []) (restarted place)
power_on first steps log place kind leads off =
    leads_by_append steps [] first log place (PowerBack ∷ []) (Crash (crash_file kind (outside_of log)) ∷ []) (restarted place) leads (kind, [], off, refl, (refl, refl))

pub stop_on : (first : Play) (steps : List SiteStep) (log : List Turn) (place : Play) (calls : ℕ) (kind : ImageKind) → LeadsBy [] first steps log place →
    LeadsBy [] first (steps ++ StopAfter calls kind ∷ []) log (set_to_fail calls kind place)
stop_on first steps log place calls kind leads =
    subst (λ l. LeadsBy [] first (steps ++ StopAfter calls kind ∷ []) l (set_to_fail calls kind place)) (append-nil log) (leads_by_append steps [] first log place (StopAfter calls kind ∷ []) [] (set_to_fail calls kind place) leads (refl, refl))

pub file_on : (first : Play) (steps : List SiteStep) (place : Play) (file : List ℕ) → LeadsBy [] first steps [] place → LeadsBy [] first (steps ++ Holding file ∷ []) (Crash file ∷ []) place
file_on first steps place file leads = leads_by_append steps [] first [] place (Holding file ∷ []) (Crash file ∷ []) place leads ([], refl, refl, (refl, refl))

pub calls-go-on : CallsGoOn
calls-go-on lines steps log place call made leads fits = calls_on (begins lines) steps log place call made leads fits

pub power-goes-on : PowerGoesOn
power-goes-on lines steps log place kind leads off = power_on (begins lines) steps log place kind leads off

pub goes-on-beside : GoesOnBeside
goes-on-beside = record {
  stop = λ lines steps log place calls kind leads. stop_on (begins lines) steps log place calls kind leads;
  file = λ lines steps place file leads. file_on (begins lines) steps place file leads;
}

-- steps that were not beside the script, and one more of them
pub scripted_append : (steps more : List SiteStep) → are_scripted steps ≡ true → are_scripted more ≡ true → are_scripted (steps ++ more) ≡ true
scripted_append [] more own other = other
scripted_append (Made call ∷ steps) more own other = scripted_append steps more own other
scripted_append (PowerBack ∷ steps) more own other = scripted_append steps more own other
scripted_append (StopAfter calls kind ∷ steps) more own other = absurd (let h : false ≡ true = own in cc)
scripted_append (Holding file ∷ steps) more own other = absurd (let h : false ≡ true = own in cc)

-- ---- sends

cut_to : (most : ℕ) (bytes : List ℕ) → IsCutTo most bytes (take most bytes)
cut_to most bytes = record { prefix = (drop most bytes, sym (take-append-drop most bytes)); size = length-take most bytes }

pub sends-are-cut : SendsAreCut
sends-are-cut = record {
  tills = λ o p till most bytes turns named fits. (take most bytes, cut_to most bytes, fits.1 ∙ ap (λ n. SentTill till (sent_of n bytes) (not (is_some n)) ∷ []) named);
  pts = λ o p pt most bytes turns named fits. (take most bytes, cut_to most bytes, fits.1 ∙ ap (λ n. SentPt pt (sent_of n bytes) (not (is_some n)) ∷ []) named);
}
