-- An enquiry that reports the last transaction makes its terminal ready, and resolves what is open.
use Rattle.std.proofs.Common.{◌≡◌, ℕ, List, [], ◌∷◌, refl, sym, ◌∙◌, ap, subst, true, false, inl, inr}
use Rattle.std.proofs.lemmas.Bool.{and_parts, le-leb}
use Rattle.std.specs.Prelude.{Bool, ◌⊎◌, ◌≤◌, nat_le, not, if◌then◌else◌, slice_get, Option, Some, None}
use Rattle.std.specs.Option.{option_map}
use Rattle.gw_base.specs.declared.setup.Pt.{Pt}
use Rattle.gw_base.specs.declared.setup.Setup.{Setup}
use Rattle.gw_site.specs.Sorts.{AreOfRound, is_sort_of_round, sort_of}
use Rattle.gw_site.specs.declared.turn.Turn.{Turn}
use Rattle.gw_site.specs.declared.turn.Turn.TheVariants.{HeardPt}
use Rattle.zvt_apdu.specs.Grammar.{ApduValue}
use Rattle.zvt_talk.specs.Talk.{is_end}
use Rattle.zvt_talk.specs.declared.meaning.Heard.{Heard}
use Rattle.zvt_talk.specs.declared.meaning.Heard.TheVariants as heard
use Rattle.jrn_record.specs.declared.records.Record.{Record}
use Rattle.gw_ledger.specs.declared.entry.Entry.{Entry as TheEntry}
use Rattle.gw_owes.specs.Core.{Core, Wait}
use Rattle.gw_owes.specs.Handling.{meaning_at, taking, enquiring, consequence, handle_row}
use Rattle.gw_owes.specs.Items.{RoundItem, Crowded, Message, Asked, Unframed, Gone, Greet, Handle, Serve, Queue, NextWaiting, Oversized, LinkLost, Late, Overdue, Due}
use Rattle.gw_owes.specs.ReadAs.{ReadAs}
use Rattle.gw_owes.specs.Reports.{Report, OnRecord, on_record, least_against, least_reported, standing_reported, outcome_reported, report_of_open, report_against, report_row}
use Rattle.gw_owes.specs.Row.{Known, Row, owing_nothing, owing_where}
use Rattle.gw_owes.specs.Rows.{row_of}
use Rattle.gw_owes.specs.Serving.{at_rest, staying, done_with, resolves}
use Rattle.gw_owes.specs.Steps.{is_ready_standing}
use Rattle.gw_owes.specs.TerminalLaws.{GoesOnTo, ReportsAt}
use Rattle.gw_owes.specs.Terminals.{terminal_at, terminal_becomes}
use Rattle.gw_owes.specs.WaitingRows.{next_waiting_row}
use Rattle.gw_owes.specs.Waits.{first_waiting, queue_of}
use Rattle.gw_owes.specs.declared.terminal.Standing.{Standing}
use Rattle.gw_owes.specs.declared.terminal.Standing.TheVariants.{Enquiring, Ready, Aside}
use Rattle.gw_owes.specs.declared.terminal.Terminal.{Terminal}
use Rattle.gw_owes.proofs.HandlingLemmas.{each-handled, reported-leads}
use Rattle.gw_owes.proofs.SetLemmas.{new-is-there, same-some}
use Rattle.gw_owes.proofs.TerminalLemmas.{row-changes-alone}
use Rattle.gw_rules.specs.Lawful.{MayPoll, Begins, IsRead, AllowedTurn, IsCourse, turns_of}
use Rattle.gw_rules.specs.LinkLaws.{EndsLink, EndsNone}
use Rattle.gw_rules.specs.DialogueLaws.{HasStanding, IsReport, LooksWhileReady, view_along, ReportMakesReady}
use Rattle.gw_rules.specs.Scene.{known_in, row_in, row_at}
use Rattle.gw_rules.specs.Stage.{Handling}
use Rattle.gw_rules.specs.View.{View, Move, Begin, Read, Make, after, after_turn, view_from}
use Rattle.gw_rules.proofs.CourseLemmas.{begin-stage}
use Rattle.gw_rules.proofs.CutLemmas.{is_dead, dead-round, dead-running, dead-turn}
use Rattle.gw_rules.proofs.KeptLemmas.{kept_in, without_asker, changes, at-kept, by-equal, other-number, BeginsFirst, begins-first}
use Rattle.gw_rules.proofs.LinkStateLemmas.{On, state_of, may_begin_some, loses}
use Rattle.gw_rules.proofs.LinkedLemmas.{Agrees, Settled, lose_none, begin-agrees, read-settled, turn-agrees, move-agrees, round-setup}
use Rattle.gw_rules.proofs.PendingLemmas.{WillEnd, asks, ask_none, BeginsAlone, begins-alone, read-asks-none, GoesOnIn, Pending, Ended, begin-pending, turn-pending, read-pending, heard-pending, round-settled, turn-core, SameItems, turn-items, kept-linked}
use Rattle.gw_rules.proofs.SetupLemmas.{HasSetup}
use Rattle.gw_rules.proofs.SilenceLemmas.{found-kept}
use Rattle.gw_rules.proofs.StageLemmas.{no-true, not-true, round-busy}

-- ---- rows of the terminal

-- the standing of the terminal, but for the till that asked
abbrev StandingKept : Core → ℕ → Standing → Type 0
StandingKept core pt standing = (terminal : Terminal) × (kept_in core pt ≡ Some terminal) × (terminal.standing ≡ standing)

stands-kept : (core : Core) (pt : ℕ) (standing : Standing) → HasStanding core pt standing → StandingKept core pt standing
stands-kept core pt standing (terminal, found, is) = (without_asker terminal, ap (option_map without_asker) found, is)

-- a message of a terminal that is ready leaves it so
ready-stays : (known : Known) (pt : ℕ) (apdu : ApduValue) (last : ℕ) → HasStanding known.core pt (Ready last) → HasStanding (handle_row known pt apdu).core pt (Ready last)
ready-stays known pt apdu last (own, found, ready) =
    each-handled (λ (row : Row). HasStanding row.core pt (Ready last)) known pt apdu (own, found, ready)
    (λ terminal message there linked is taken.
    let same : terminal ≡ own = same-some terminal own (sym there ∙ found) in
    let standing : terminal.standing ≡ Ready last = ap (λ (t : Terminal). t.standing) same ∙ ready in
    subst (λ s. HasStanding (consequence known pt (taking terminal message known.moment) (meaning_at terminal message) s).core pt (Ready last)) (sym standing)
    (taking terminal message known.moment, new-is-there known.core.terminals pt terminal (taking terminal message known.moment) there, standing))
    (λ terminal message there linked is taken at stays. stays)

-- a message that doesn't end an enquiry leaves it going on
enquiring-stays : (known : Known) (pt : ℕ) (terminal : Terminal) (meant : Heard) → is_end meant ≡ false → enquiring known pt terminal meant ≡ staying known pt terminal
enquiring-stays known pt terminal (heard.Begun stop) e = refl
enquiring-stays known pt terminal (heard.Note intermediate_status) e = refl
enquiring-stays known pt terminal heard.Line e = refl
enquiring-stays known pt terminal heard.Block e = refl
enquiring-stays known pt terminal heard.Seen e = refl
enquiring-stays known pt terminal (heard.Approved figures) e = no-true (sym e)
enquiring-stays known pt terminal heard.Done e = no-true (sym e)
enquiring-stays known pt terminal (heard.Told reported approved result_code) e = no-true (sym e)
enquiring-stays known pt terminal (heard.Declined result_code reported) e = no-true (sym e)
enquiring-stays known pt terminal heard.Unclear e = no-true (sym e)
enquiring-stays known pt terminal heard.Stray e = refl

-- the row of a report that isn't below the least leaves the terminal ready: with something open it resolves that
module _ (known : Known) (pt : ℕ) (old terminal : Terminal) (report : Report) (found : terminal_at known pt ≡ Some old) where
  open-ready : (entry : TheEntry) → entry.intent.before ≤ report.trace → GoesOnTo pt (Ready report.trace) (report_of_open known pt terminal report entry).calls (report_of_open known pt terminal report entry)
  open-ready entry least = by_test (nat_le entry.intent.before report.trace) (le-leb entry.intent.before report.trace least)
    where
      row : Bool → Row
      row test = if test then resolves known pt terminal (Ready report.trace) (outcome_reported entry report known.moment) else terminal_becomes known pt (at_rest terminal (Aside entry.intent.before report.trace)) []

      by_test : (test : Bool) → test ≡ true → GoesOnTo pt (Ready report.trace) (row test).calls (row test)
      by_test true is = record { terminal = done_with terminal (Ready report.trace); found = new-is-there known.core.terminals pt old (done_with terminal (Ready report.trace)) found; standing_is = refl; calls_are = refl }
      by_test false is = no-true is

  against-ready : (opened : Option TheEntry) (last : ℕ) → least_against opened last ≤ report.trace → GoesOnTo pt (Ready report.trace) (report_against opened last known pt terminal report).calls (report_against opened last known pt terminal report)
  against-ready None last least = record {
    terminal = at_rest terminal (standing_reported last report.trace);
    found = new-is-there known.core.terminals pt old (at_rest terminal (standing_reported last report.trace)) found;
    standing_is = ap (λ b. if b then Ready report.trace else Aside last report.trace) (le-leb last report.trace least);
    calls_are = refl;
  }
  against-ready (Some entry) last least = open-ready entry least

-- so a message with such a report does
report-leaves-ready : (known : Known) (pt : ℕ) (apdu : ApduValue) (terminal : Terminal) (report : Report) → ReportsAt known pt apdu terminal report → least_reported (on_record known.kept terminal.pt.poi) ≤ report.trace
    → HasStanding (handle_row known pt apdu).core pt (Ready report.trace)
report-leaves-ready known pt apdu terminal report reports least =
    let records : OnRecord = on_record known.kept terminal.pt.poi in
    let taken : Terminal = taking terminal reports.message known.moment in
    let row : Row = report_row records known pt taken report in
    let leads = reported-leads known pt (Ready report.trace) row.calls apdu terminal report reports (against-ready known pt terminal taken report reports.found records.opened records.last least) in
    (leads.terminal, leads.found, leads.standing_is)

enquiring-goes-on : GoesOnIn Enquiring
enquiring-goes-on = record {
  unready = refl;
  linked = refl;
  on = λ terminal is. rw is refl;
  stays = λ known pt terminal meant goes. enquiring-stays known pt terminal meant goes;
  keyless = λ kept. refl;
}

-- ---- in the round

-- the terminal is ready with the trace number
record IsReady (pt moment reported : ℕ) (v : View) : Type 0 where
  agrees : Agrees v
  settled : Settled v
  stage : v.scene.stage ≡ Handling
  none : ask_none v.items ≡ true
  ready : StandingKept v.scene.core pt (Ready reported)

-- or will be, or the run has ended
abbrev OrOver : Pt → List Record → ℕ → ℕ → ℕ → View → Type 0
OrOver settings records pt moment reported v = (IsReady pt moment reported v ⊎ Pending (IsReport reported) Enquiring settings records pt moment v) ⊎ (is_dead v.scene.stage ≡ true)

-- by the records the terminal with these settings may report this trace number
abbrev MayReport : Pt → List Record → ℕ → Type 0
MayReport settings records reported = least_reported (on_record records settings.poi) ≤ reported

-- with the end of its enquiry it is
ended-ready : (settings : Pt) (records : List Record) (pt moment reported : ℕ) (w : View) → MayReport settings records reported → Ended (IsReport reported) Enquiring settings records pt moment w → IsReady pt moment reported w
ended-ready settings records pt moment reported w may e =
    let report : Report = record { trace = reported; approved = e.means.0; result_code = e.means.1 } in
    let reports : ReportsAt e.known pt e.apdu e.own report = record { found = e.found; standing_is = e.standing_is; message = e.message; decoded = e.decoded; means = e.means.2 } in
    let own_record : on_record e.known.kept e.own.pt.poi ≡ on_record records settings.poi = ap (λ kept. on_record kept e.own.pt.poi) e.kept_is ∙ ap (λ (p : Pt). on_record records p.poi) e.settings_are in
    let least = subst (λ (r : OnRecord). least_reported r ≤ reported) (sym own_record) may in
    record {
      agrees = e.agrees;
      settled = e.settled;
      stage = e.stage;
      none = e.none;
      ready = subst (λ c. StandingKept c pt (Ready reported)) (sym e.core_is) (stands-kept (handle_row e.known pt e.apdu).core pt (Ready reported) (report-leaves-ready e.known pt e.apdu e.own report reports least));
    }

-- the first request that waits for it is looked at while it is ready with the trace number
record Looks (pt reported : ℕ) (v : View) : Type 0 where
  rest : List RoundItem
  items_are : v.items ≡ NextWaiting pt ∷ rest
  ready : HasStanding v.scene.core pt (Ready reported)
  wait : Wait
  first_is : first_waiting (queue_of pt v.scene.core.waits) ≡ Some wait

where-nothing : (test : Bool) (known : Known) → owing_where test known (owing_nothing known) ≡ owing_nothing known
where-nothing true known = refl
where-nothing false known = refl

-- where nobody waits for it nothing is owed
pub none-waiting : (known : Known) (number : ℕ) (terminal : Terminal) → terminal_at known number ≡ Some terminal → first_waiting (queue_of number known.core.waits) ≡ None → next_waiting_row known number ≡ owing_nothing known
none-waiting known number terminal found none = rw (found, none) (where-nothing (is_ready_standing terminal.standing) known)

-- and stays so with each item, or with this one the first that waits is looked at
begin-ready : (pt moment reported : ℕ) (v : View) → IsReady pt moment reported v → Begins v → IsReady pt moment reported (after v Begin) ⊎ Looks pt reported v
begin-ready pt moment reported v r b = by_next (by_item first.item first.items_are core none alone.none)
  where
    first : BeginsFirst v
    first = begins-first v r.agrees b

    alone : BeginsAlone v first
    alone = begins-alone v first r.none

    run : HasSetup v.scene
    run = round-setup v r.agrees.run b.idle.round

    known : Known
    known = known_in v.scene run.setup

    none : loses first.item ≡ false
    none = not-true (loses first.item) (and_parts (not (loses first.item)) (lose_none first.rest) (subst (λ l. lose_none l ≡ true) first.items_are r.settled.none)).0

    core : (after v Begin).scene.core ≡ (row_at v.scene first.item).core
    core = ap (λ l. (after (record v { items = l }) Begin).scene.core) first.items_are

    same : (item : RoundItem) → (after v Begin).scene.core ≡ (row_at v.scene item).core → may_begin_some item ≡ false → changes pt item ≡ false → StandingKept (after v Begin).scene.core pt (Ready reported) ⊎ Looks pt reported v
    same item core other unchanged = inl (r.ready.0, ap (λ c. kept_in c pt) core ∙ at-kept v.scene item pt other unchanged ∙ r.ready.1, r.ready.2)

    found : (own : Terminal) × (slice_get v.scene.core.terminals pt ≡ Some own) × (without_asker own ≡ r.ready.0)
    found = found-kept (slice_get v.scene.core.terminals pt) r.ready.0 r.ready.1

    standing : found.0.standing ≡ Ready reported
    standing = ap (λ (t : Terminal). t.standing) found.2 ∙ r.ready.2

    handle : (apdu : ApduValue) → (after v Begin).scene.core ≡ (handle_row known pt apdu).core → StandingKept (after v Begin).scene.core pt (Ready reported) ⊎ Looks pt reported v
    handle apdu core =
        inl (subst (λ c. StandingKept c pt (Ready reported)) (sym core) (stands-kept (handle_row known pt apdu).core pt (Ready reported) (ready-stays known pt apdu reported (found.0, found.1, standing))))

    row_of_next : (number : ℕ) → row_at v.scene (NextWaiting number) ≡ next_waiting_row known number
    row_of_next number = ap (λ (o : Option Setup). row_in v.scene (λ known. row_of v.scene.outside.tills known (NextWaiting number)) o) run.setup_is

    next : (other : ℕ) → v.items ≡ NextWaiting other ∷ first.rest → (after v Begin).scene.core ≡ (row_at v.scene (NextWaiting other)).core → StandingKept (after v Begin).scene.core pt (Ready reported) ⊎ Looks pt reported v
    next other items core = by-equal pt other
        (λ number. by_first (items ∙ ap (λ n. NextWaiting n ∷ first.rest) number) (core ∙ ap (λ n. (row_at v.scene (NextWaiting n)).core) number) (first_waiting (queue_of pt v.scene.core.waits)) refl)
        (λ differs.
        inl (r.ready.0, ap (λ c. kept_in c pt) (core ∙ ap (λ (row : Row). row.core) (row_of_next other)) ∙ ap (option_map without_asker) ((row-changes-alone known (NextWaiting other) other refl).others pt (other-number pt other differs)) ∙ r.ready.1, r.ready.2))
      where
        by_first : v.items ≡ NextWaiting pt ∷ first.rest → (after v Begin).scene.core ≡ (row_at v.scene (NextWaiting pt)).core → (waits : Option Wait) → first_waiting (queue_of pt v.scene.core.waits) ≡ waits
            → StandingKept (after v Begin).scene.core pt (Ready reported) ⊎ Looks pt reported v
        by_first items core None e = inl (r.ready.0, ap (λ c. kept_in c pt) (core ∙ ap (λ (row : Row). row.core) (row_of_next pt ∙ none-waiting known pt found.0 found.1 e)) ∙ r.ready.1, r.ready.2)
        by_first items core (Some wait) e = inr (record { rest = first.rest; items_are = items; ready = (found.0, found.1, standing); wait = wait; first_is = e })

    by_item : (item : RoundItem) → v.items ≡ item ∷ first.rest → (after v Begin).scene.core ≡ (row_at v.scene item).core → loses item ≡ false → asks item ≡ false → StandingKept (after v Begin).scene.core pt (Ready reported) ⊎ Looks pt reported v
    by_item (Crowded till) items core none apart = same (Crowded till) core refl refl
    by_item (Message till bytes) items core none apart = no-true (sym apart)
    by_item (Asked till as_read) items core none apart = no-true (sym apart)
    by_item (Unframed till) items core none apart = same (Unframed till) core refl refl
    by_item (Gone till) items core none apart = same (Gone till) core refl refl
    by_item (Greet other apdu) items core none apart = same (Greet other apdu) core refl refl
    by_item (Handle other apdu) items core none apart = by-equal pt other
        (λ number. handle apdu (core ∙ ap (λ n. (row_at v.scene (Handle n apdu)).core) number ∙ ap (λ (o : Option Setup). (row_in v.scene (λ known. row_of v.scene.outside.tills known (Handle pt apdu)) o).core) run.setup_is))
        (λ differs. same (Handle other apdu) core refl differs)
    by_item (Serve other till header request) items core none apart = no-true (sym apart)
    by_item (Queue other till header request) items core none apart = same (Queue other till header request) core refl refl
    by_item (NextWaiting other) items core none apart = next other items core
    by_item (Oversized other) items core none apart = same (Oversized other) core refl refl
    by_item (LinkLost other) items core none apart = no-true (sym none)
    by_item (Late other) items core none apart = same (Late other) core refl refl
    by_item (Overdue key) items core none apart = same (Overdue key) core refl refl
    by_item (Due other) items core none apart = same (Due other) core refl refl

    ready : StandingKept (after v Begin).scene.core pt (Ready reported) → IsReady pt moment reported (after v Begin)
    ready stands = record {
      agrees = move-agrees v Begin r.agrees b;
      settled = (begin-agrees v r.agrees b).1;
      stage = begin-stage v.scene v.items ∙ round-busy v.scene.stage b.idle.round;
      none = alone.left;
      ready = stands;
    }

    by_next : StandingKept (after v Begin).scene.core pt (Ready reported) ⊎ Looks pt reported v → IsReady pt moment reported (after v Begin) ⊎ Looks pt reported v
    by_next (inl stands) = inl (ready stands)
    by_next (inr looks) = inr looks

-- and with each turn, unless its link ends
turn-ready : (pt moment reported : ℕ) (v : View) (turn : Turn) → IsReady pt moment reported v → AllowedTurn v turn → is_sort_of_round (sort_of turn) ≡ true → (EndsLink pt turn → ⊥) → IsReady pt moment reported (after_turn v turn) ⊎ (is_dead (after_turn v turn).scene.stage ≡ true)
turn-ready pt moment reported v turn r ok e lasts = by_items (turn-items v turn r.agrees r.stage ok e)
  where
    on : state_of (Some r.ready.0) ≡ On
    on = rw r.ready.2 refl

    by_items : SameItems v turn → IsReady pt moment reported (after_turn v turn) ⊎ (is_dead (after_turn v turn).scene.stage ≡ true)
    by_items (inr dead) = inr dead
    by_items (inl (items, at)) = inl (record {
      agrees = turn-agrees v turn r.agrees ok;
      settled = round-settled v turn r.agrees r.settled r.stage ok;
      stage = at;
      none = ap ask_none items ∙ r.none;
      ready = (r.ready.0, turn-core v turn pt r.agrees (kept-linked v.scene.core pt r.ready.0 r.ready.1 on) r.settled ok e lasts ∙ r.ready.1, r.ready.2);
    })

-- ---- along the course

begin-over : (settings : Pt) (records : List Record) (pt moment reported : ℕ) (v : View) → MayReport settings records reported → OrOver settings records pt moment reported v → Begins v → OrOver settings records pt moment reported (after v Begin) ⊎ Looks pt reported v
begin-over settings records pt moment reported v may (inr dead) b = dead-round v.scene.stage dead b.idle.round
begin-over settings records pt moment reported v may (inl (inl r)) b = by_next (begin-ready pt moment reported v r b)
  where
    by_next : IsReady pt moment reported (after v Begin) ⊎ Looks pt reported v → OrOver settings records pt moment reported (after v Begin) ⊎ Looks pt reported v
    by_next (inl ready) = inl (inl (inl ready))
    by_next (inr looks) = inr looks
begin-over settings records pt moment reported v may (inl (inr p)) b = by_end (begin-pending (IsReport reported) Enquiring settings records pt moment v enquiring-goes-on p b)
  where
    by_end : Pending (IsReport reported) Enquiring settings records pt moment (after v Begin) ⊎ Ended (IsReport reported) Enquiring settings records pt moment (after v Begin) → OrOver settings records pt moment reported (after v Begin) ⊎ Looks pt reported v
    by_end (inl pending) = inl (inl (inr pending))
    by_end (inr ended) = inl (inl (inl (ended-ready settings records pt moment reported (after v Begin) may ended)))

read-over : (settings : Pt) (records : List Record) (pt moment reported : ℕ) (v : View) (as_read : ReadAs) → OrOver settings records pt moment reported v → IsRead v as_read → OrOver settings records pt moment reported (after v (Read as_read))
read-over settings records pt moment reported v as_read (inr dead) r = dead-round v.scene.stage dead r.idle.round
read-over settings records pt moment reported v as_read (inl (inr p)) r = inl (inr (read-pending (IsReport reported) Enquiring settings records pt moment v as_read p r))
read-over settings records pt moment reported v as_read (inl (inl ready)) r = inl (inl (record {
  agrees = move-agrees v (Read as_read) ready.agrees r;
  settled = read-settled v as_read ready.settled;
  stage = round-busy v.scene.stage r.idle.round;
  none = read-asks-none as_read v.items ready.none;
  ready = ready.ready;
}))

turn-over : (settings : Pt) (records : List Record) (pt moment reported : ℕ) (v : View) (turn : Turn) → OrOver settings records pt moment reported v → AllowedTurn v turn → is_sort_of_round (sort_of turn) ≡ true → (EndsLink pt turn → ⊥) → OrOver settings records pt moment reported (after_turn v turn)
turn-over settings records pt moment reported v turn (inr dead) ok e lasts = inr (dead-turn v turn dead ok e)
turn-over settings records pt moment reported v turn (inl (inl r)) ok e lasts = by_next (turn-ready pt moment reported v turn r ok e lasts)
  where
    by_next : IsReady pt moment reported (after_turn v turn) ⊎ (is_dead (after_turn v turn).scene.stage ≡ true) → OrOver settings records pt moment reported (after_turn v turn)
    by_next (inl ready) = inl (inl ready)
    by_next (inr dead) = inr dead
turn-over settings records pt moment reported v turn (inl (inr p)) ok e lasts = by_next (turn-pending (IsReport reported) Enquiring settings records pt moment v turn enquiring-goes-on p ok e lasts)
  where
    by_next : Pending (IsReport reported) Enquiring settings records pt moment (after_turn v turn) ⊎ (is_dead (after_turn v turn).scene.stage ≡ true) → OrOver settings records pt moment reported (after_turn v turn)
    by_next (inl pending) = inl (inr pending)
    by_next (inr dead) = inr dead

-- it is looked at in these moves after this one
later-looks : (pt reported : ℕ) (v : View) (move : Move) (moves : List Move) → LooksWhileReady (after v move) moves pt reported → LooksWhileReady v (move ∷ moves) pt reported
later-looks pt reported v move moves l = record {
  earlier = move ∷ l.earlier;
  later = l.later;
  moves_are = ap (λ m. move ∷ m) l.moves_are;
  rest = l.rest;
  items_are = l.items_are;
  ready = l.ready;
  wait = l.wait;
  first_is = l.first_is;
}

moves-over : (settings : Pt) (records : List Record) (pt moment reported : ℕ) (v : View) (moves : List Move) → MayReport settings records reported → OrOver settings records pt moment reported v → IsCourse v moves → AreOfRound (turns_of moves) → EndsNone pt (turns_of moves)
    → OrOver settings records pt moment reported (view_from v moves) ⊎ LooksWhileReady v moves pt reported
moves-over settings records pt moment reported v [] may h c a lasts = inl h
moves-over settings records pt moment reported v (Begin ∷ moves) may h c a lasts = by_next (λ over. moves-over settings records pt moment reported (after v Begin) moves may over c.1 a lasts) (begin-over settings records pt moment reported v may h c.0)
  where
    onward : OrOver settings records pt moment reported (view_from (after v Begin) moves) ⊎ LooksWhileReady (after v Begin) moves pt reported → OrOver settings records pt moment reported (view_from (after v Begin) moves) ⊎ LooksWhileReady v (Begin ∷ moves) pt reported
    onward (inl over) = inl over
    onward (inr looks) = inr (later-looks pt reported v Begin moves looks)

    by_next : (OrOver settings records pt moment reported (after v Begin) → OrOver settings records pt moment reported (view_from (after v Begin) moves) ⊎ LooksWhileReady (after v Begin) moves pt reported)
        → OrOver settings records pt moment reported (after v Begin) ⊎ Looks pt reported v → OrOver settings records pt moment reported (view_from (after v Begin) moves) ⊎ LooksWhileReady v (Begin ∷ moves) pt reported
    by_next more (inl over) = onward (more over)
    by_next more (inr looks) = inr (record { earlier = []; later = moves; moves_are = refl; rest = looks.rest; items_are = looks.items_are; ready = looks.ready; wait = looks.wait; first_is = looks.first_is })
moves-over settings records pt moment reported v (Read as_read ∷ moves) may h c a lasts =
    onward (moves-over settings records pt moment reported (after v (Read as_read)) moves may (read-over settings records pt moment reported v as_read h c.0) c.1 a lasts)
  where
    onward : OrOver settings records pt moment reported (view_from (after v (Read as_read)) moves) ⊎ LooksWhileReady (after v (Read as_read)) moves pt reported
        → OrOver settings records pt moment reported (view_from (after v (Read as_read)) moves) ⊎ LooksWhileReady v (Read as_read ∷ moves) pt reported
    onward (inl over) = inl over
    onward (inr looks) = inr (later-looks pt reported v (Read as_read) moves looks)
moves-over settings records pt moment reported v (Make turn ∷ moves) may h c a lasts =
    onward (moves-over settings records pt moment reported (after_turn v turn) moves may (turn-over settings records pt moment reported v turn h c.0 a.0 lasts.0) c.1 a.1 lasts.1)
  where
    onward : OrOver settings records pt moment reported (view_from (after_turn v turn) moves) ⊎ LooksWhileReady (after_turn v turn) moves pt reported
        → OrOver settings records pt moment reported (view_from (after_turn v turn) moves) ⊎ LooksWhileReady v (Make turn ∷ moves) pt reported
    onward (inl over) = inl over
    onward (inr looks) = inr (later-looks pt reported v (Make turn) moves looks)

-- once the next poll may come it is ready
over-ready : (settings : Pt) (records : List Record) (pt moment reported : ℕ) (v : View) → OrOver settings records pt moment reported v → MayPoll v → HasStanding v.scene.core pt (Ready reported)
over-ready settings records pt moment reported v (inr dead) may = dead-running v.scene.stage dead may.running
over-ready settings records pt moment reported v (inl (inr p)) may = absurd (subst (WillEnd (IsReport reported) pt moment p.terminal) may.items p.will)
over-ready settings records pt moment reported v (inl (inl r)) may =
    let found = found-kept (slice_get v.scene.core.terminals pt) r.ready.0 r.ready.1 in
    (found.0, found.1, ap (λ (t : Terminal). t.standing) found.2 ∙ r.ready.2)

pub report-makes-ready : ReportMakesReady
report-makes-ready log v moves pt terminal reported e least =
    let p = heard-pending (IsReport reported) Enquiring log v moves pt terminal e in
    let moment : ℕ = v.scene.outside.moment in
    by_end (moves-over terminal.pt v.scene.kept pt moment reported (after_turn v (HeardPt pt e.chunk)) moves least (inl (inr p)) e.lawful.1 e.round e.lasts)
  where
    by_end : OrOver terminal.pt v.scene.kept pt v.scene.outside.moment reported (view_along v pt e.chunk moves) ⊎ LooksWhileReady (after_turn v (HeardPt pt e.chunk)) moves pt reported
        → HasStanding (view_along v pt e.chunk moves).scene.core pt (Ready reported) ⊎ LooksWhileReady (after_turn v (HeardPt pt e.chunk)) moves pt reported
    by_end (inl over) = inl (over-ready terminal.pt v.scene.kept pt v.scene.outside.moment reported (view_along v pt e.chunk moves) over e.may_poll)
    by_end (inr looks) = inr looks
