-- How much memory the records take that a row keeps, and the ends of day that are served then.
use Rattle.std.proofs.Common.{◌≡◌, ◌≤◌, ℕ, ◌+◌, Bool, true, false, eqb, ltb, leb, not, List, [], ◌∷◌, ◌++◌, length, refl, sym, ap, subst, arith}
use Rattle.std.specs.Prelude.{Option, Some, None, if◌then◌else◌}
use Rattle.gw_base.specs.declared.figures.Figures.{Figures}
use Rattle.sale_values.specs.declared.header.Header.{Header}
use Rattle.sale_values.specs.declared.names.Period.{Period}
use Rattle.sale_values.specs.declared.request.SaleRequest.{SaleRequest}
use Rattle.sale_reply.specs.declared.reply.Shown.{Shown}
use Rattle.zvt_talk.specs.declared.meaning.Heard.{Heard}
use Rattle.zvt_talk.specs.declared.meaning.Heard.TheVariants as heard
use Rattle.jrn_record.specs.declared.records.How.TheVariants as hows
use Rattle.jrn_record.specs.declared.records.Outcome.{Outcome as TheOutcome}
use Rattle.jrn_record.specs.declared.records.Settled.{Settled as TheSettled}
use Rattle.jrn_record.specs.declared.records.Record.{Record}
use Rattle.jrn_record.specs.declared.records.Record.TheVariants.{Outcome, Settled}
use Rattle.gw_ledger.specs.declared.entry.Entry.{Entry as TheEntry}
use Rattle.gw_owes.specs.declared.terminal.Service.{Service}
use Rattle.gw_owes.specs.declared.terminal.Service.TheVariants.{Transaction, EndOfDay, Display}
use Rattle.gw_owes.specs.declared.terminal.Standing.{Standing}
use Rattle.gw_owes.specs.declared.terminal.Standing.TheVariants.{Unlinked, Registering, Enquiring, Ready, Serving, Aside}
use Rattle.gw_owes.specs.declared.terminal.Terminal.{Terminal}
use Rattle.gw_owes.specs.Awaited.{one_more_awaited}
use Rattle.gw_owes.specs.Calls.{OwedCall, CutPt, keep_calls, records_kept}
use Rattle.gw_owes.specs.Displays.{asked_to_show, serving_display}
use Rattle.gw_owes.specs.Handling.{consequence, enquires, enquiring, meaning_at, registering, serving, taking}
use Rattle.gw_owes.specs.Links.{is_linked}
use Rattle.gw_owes.specs.Payments.{asked_for, serve_row}
use Rattle.gw_owes.specs.RecordLaws.{EachMessageTakesItsMemory, EachRequestTakesOne, EachTillGoneLeavesDays, memory_after, memory_of, memory_taken}
use Rattle.gw_owes.specs.Reconciliations.{asked_for_day, day_done, reply_to_settled, serving_day, settled_of}
use Rattle.gw_owes.specs.Reply.{ReplyValue}
use Rattle.gw_owes.specs.Reports.{Report, on_record, outcome_reported, report_against}
use Rattle.gw_owes.specs.Row.{Known, Row}
use Rattle.gw_owes.specs.Serving.{approved_outcome, approved_row, at_rest, breaking, declined_outcome, done_with, last_after_decline, reply_to_outcome, resolves, serving_transaction, staying, stops, was_stopped}
use Rattle.gw_owes.specs.Stops.{wishing}
use Rattle.gw_owes.specs.Terminals.{reply_calls_to, terminal_at, terminal_becomes}
use Rattle.gw_owes.specs.Core.{Wait}
use Rattle.gw_owes.specs.Waits.{memory_reserved}
use Rattle.gw_owes.proofs.DayLemmas.{days-forgotten, days-no-more, days-one-more, days-set, days_in}
use Rattle.gw_owes.proofs.HandlingLemmas.{each-handled}
use Rattle.gw_owes.proofs.KeepingLemmas.{KeepNothing, no-calls, replies-keep-nothing}
use Rattle.gw_owes.proofs.NextOrderLemmas.{few-pass, queues-take-one}
use Rattle.gw_owes.proofs.PaymentLemmas.{each-served}

-- calls that keep no record take no memory
none-taken : (calls : List OwedCall) → KeepNothing calls → memory_taken (records_kept calls) ≡ 0
none-taken calls nothing = ap memory_taken nothing.no_records

-- a terminal becomes another; the records that are kept, and the end of day that this serves, take no more memory than an end of day of this standing would
record Spends (known : Known) (number : ℕ) (standing : Standing) (row : Row) : Type 0 where
  new : Terminal
  calls : List OwedCall
  row_is : row ≡ terminal_becomes known number new calls
  least : memory_taken (records_kept calls) + days_in new.standing ≤ days_in standing

-- it keeps nothing, and serves no end of day that wasn't served
spends-none : (known : Known) (number : ℕ) (standing : Standing) (new : Terminal) (calls : List OwedCall) → KeepNothing calls → days_in new.standing ≤ days_in standing → Spends known number standing (terminal_becomes known number new calls)
spends-none known number standing new calls nothing least = let none = none-taken calls nothing in record { new = new; calls = calls; row_is = refl; least = omega (arith, none, least) }

-- it keeps one record, and serves no end of day any more
spends-record : (known : Known) (number : ℕ) (standing : Standing) (new : Terminal) (next : Record) (tail : List OwedCall) → KeepNothing tail → memory_of next + days_in new.standing ≤ days_in standing
    → Spends known number standing (terminal_becomes known number new (keep_calls (length known.kept) next ++ tail))
spends-record known number standing new next tail nothing least = let none = none-taken tail nothing in record { new = new; calls = keep_calls (length known.kept) next ++ tail; row_is = refl; least = omega (arith, none, least) }

module _ (known : Known) (number : ℕ) (now : Terminal) where
  abbrev Is : Row → Type 0
  Is row = Spends known number now.standing row

  -- it stays as it is
  stays-so : Is (staying known number now)
  stays-so = spends-none known number now.standing now [] no-calls (omega arith)

  -- its connection is cut
  breaks-so : Is (breaking known number now)
  breaks-so = record { new = now; calls = CutPt number ∷ []; row_is = refl; least = omega arith }

  -- it is sent the stop
  stops-so : Is (stops known number now)
  stops-so = spends-none known number now.standing (record now { awaited = one_more_awaited now.awaited }) _ (record { no_records = refl; no_cut = refl }) (omega arith)

  -- it is enquired
  enquires-so : Is (enquires known number now)
  enquires-so = spends-none known number now.standing _ _ (record { no_records = refl; no_cut = refl }) (omega arith)

  -- no dialogue runs any more, and it serves nothing
  rests-so : (standing : Standing) → days_in standing ≡ 0 → Is (terminal_becomes known number (at_rest now standing) [])
  rests-so standing none = spends-none known number now.standing (at_rest now standing) [] no-calls (omega (arith, none))

  -- so it is once its till has its reply
  done-so : (last : ℕ) (reply : Option ReplyValue) → Is (terminal_becomes known number (done_with now (Ready last)) (reply_calls_to now.asker reply))
  done-so last reply = spends-none known number now.standing (done_with now (Ready last)) (reply_calls_to now.asker reply) (replies-keep-nothing now.asker reply) (omega arith)

  -- an Outcome is kept
  resolves-so : (ready : ℕ) (outcome : TheOutcome) → Is (resolves known number now (Ready ready) outcome)
  resolves-so ready outcome =
      spends-record known number now.standing (done_with now (Ready ready)) (Outcome outcome) (reply_calls_to now.asker (reply_to_outcome known.kept outcome.slot outcome))
      (replies-keep-nothing now.asker (reply_to_outcome known.kept outcome.slot outcome)) (omega arith)

  -- a Settled is, of an end of day
  settles-so : (header : Header) (period : Period) (last : ℕ) → now.standing ≡ Serving (EndOfDay header period) last → Is (day_done known number now last header)
  settles-so header period last standing =
      let settled : TheSettled = settled_of hows.Acquirer header now.pt.currency known.moment in
      let counted : days_in now.standing ≡ 1 = ap days_in standing in
      spends-record known number now.standing (done_with now (Ready last)) (Settled settled) (reply_calls_to now.asker (reply_to_settled known.kept settled)) (replies-keep-nothing now.asker (reply_to_settled known.kept settled)) (omega (arith, counted))

  approved-so : (slot last : ℕ) (figures : Figures) → Is (approved_row known number now slot last figures)
  approved-so slot last figures = by-test (ltb last figures.number)
    where
      by-test : (b : Bool) → Is (if b then resolves known number now (Ready figures.number) (approved_outcome slot figures known.moment) else terminal_becomes known number (at_rest now (Aside last figures.number)) [])
      by-test true = resolves-so figures.number (approved_outcome slot figures known.moment)
      by-test false = rests-so (Aside last figures.number) refl

  reported-so : (opened : Option TheEntry) (last : ℕ) (report : Report) → Is (report_against opened last known number now report)
  reported-so None last report = by-test (leb last report.trace)
    where
      by-test : (b : Bool) → Is (terminal_becomes known number (at_rest now (if b then Ready report.trace else Aside last report.trace)) [])
      by-test true = rests-so (Ready report.trace) refl
      by-test false = rests-so (Aside last report.trace) refl
  reported-so (Some entry) last report = by-test (leb entry.intent.before report.trace)
    where
      by-test : (b : Bool) → Is (if b then resolves known number now (Ready report.trace) (outcome_reported entry report known.moment) else terminal_becomes known number (at_rest now (Aside entry.intent.before report.trace)) [])
      by-test true = resolves-so report.trace (outcome_reported entry report known.moment)
      by-test false = rests-so (Aside entry.intent.before report.trace) refl

  registering-so : (meant : Heard) → Is (registering known number now meant)
  registering-so (heard.Begun stop) = stays-so
  registering-so (heard.Note intermediate_status) = stays-so
  registering-so heard.Line = stays-so
  registering-so heard.Block = stays-so
  registering-so heard.Seen = stays-so
  registering-so (heard.Approved figures) = stays-so
  registering-so heard.Done = enquires-so
  registering-so (heard.Told reported approved result_code) = stays-so
  registering-so (heard.Declined result_code reported) = breaks-so
  registering-so heard.Unclear = breaks-so
  registering-so heard.Stray = stays-so

  enquiring-so : (meant : Heard) → Is (enquiring known number now meant)
  enquiring-so (heard.Begun stop) = stays-so
  enquiring-so (heard.Note intermediate_status) = stays-so
  enquiring-so heard.Line = stays-so
  enquiring-so heard.Block = stays-so
  enquiring-so heard.Seen = stays-so
  enquiring-so (heard.Approved figures) = stays-so
  enquiring-so heard.Done = stays-so
  enquiring-so (heard.Told trace approved result_code) =
      reported-so (on_record known.kept now.pt.poi).opened (on_record known.kept now.pt.poi).last (record { trace = trace; approved = approved; result_code = result_code })
  enquiring-so (heard.Declined result_code reported) = breaks-so
  enquiring-so heard.Unclear = breaks-so
  enquiring-so heard.Stray = stays-so

  transaction-so : (slot last : ℕ) (meant : Heard) → Is (serving_transaction known number now slot last meant)
  transaction-so slot last (heard.Begun true) = stops-so
  transaction-so slot last (heard.Begun false) = stays-so
  transaction-so slot last (heard.Note intermediate_status) = stays-so
  transaction-so slot last heard.Line = stays-so
  transaction-so slot last heard.Block = stays-so
  transaction-so slot last heard.Seen = stays-so
  transaction-so slot last (heard.Approved figures) = approved-so slot last figures
  transaction-so slot last heard.Done = stays-so
  transaction-so slot last (heard.Told reported approved result_code) = stays-so
  transaction-so slot last (heard.Declined result_code reported) = resolves-so (last_after_decline last reported) (declined_outcome slot result_code (was_stopped now.talk) known.moment)
  transaction-so slot last heard.Unclear = breaks-so
  transaction-so slot last heard.Stray = stays-so

  day-so : (header : Header) (period : Period) (last : ℕ) (meant : Heard) → now.standing ≡ Serving (EndOfDay header period) last → Is (serving_day known number now last header meant)
  day-so header period last (heard.Begun true) standing = stops-so
  day-so header period last (heard.Begun false) standing = stays-so
  day-so header period last (heard.Note intermediate_status) standing = stays-so
  day-so header period last heard.Line standing = stays-so
  day-so header period last heard.Block standing = stays-so
  day-so header period last heard.Seen standing = stays-so
  day-so header period last (heard.Approved figures) standing = stays-so
  day-so header period last heard.Done standing = settles-so header period last standing
  day-so header period last (heard.Told reported approved result_code) standing = stays-so
  day-so header period last (heard.Declined result_code reported) standing = done-so last _
  day-so header period last heard.Unclear standing = breaks-so
  day-so header period last heard.Stray standing = stays-so

  display-so : (header : Header) (results : Option (List Shown)) (last : ℕ) (meant : Heard) → Is (serving_display known number now last header results meant)
  display-so header results last (heard.Begun stop) = stays-so
  display-so header results last (heard.Note intermediate_status) = stays-so
  display-so header results last heard.Line = stays-so
  display-so header results last heard.Block = stays-so
  display-so header results last heard.Seen = stays-so
  display-so header results last (heard.Approved figures) = stays-so
  display-so header results last heard.Done = done-so last _
  display-so header results last (heard.Told reported approved result_code) = stays-so
  display-so header results last (heard.Declined result_code reported) = done-so last _
  display-so header results last heard.Unclear = breaks-so
  display-so header results last heard.Stray = stays-so

  serving-so : (service : Service) (last : ℕ) (meant : Heard) → now.standing ≡ Serving service last → Is (serving known number now service last meant)
  serving-so (Transaction slot) last meant standing = transaction-so slot last meant
  serving-so (EndOfDay header period) last meant standing = day-so header period last meant standing
  serving-so (Display header results) last meant standing = display-so header results last meant

  -- in each standing; of one that isn't linked nothing is asked
  consequence-so : (meant : Heard) (standing : Standing) → is_linked standing ≡ true → now.standing ≡ standing → Is (consequence known number now meant standing)
  consequence-so meant (Unlinked due) linked is = absurd cc
  consequence-so meant Registering linked is = registering-so meant
  consequence-so meant Enquiring linked is = enquiring-so meant
  consequence-so meant (Ready last) linked is = stays-so
  consequence-so meant (Serving service last) linked is = serving-so service last meant is
  consequence-so meant (Aside before reported) linked is = stays-so

-- the terminal was there
spent : (known : Known) (number : ℕ) (old : Terminal) (row : Row) → terminal_at known number ≡ Some old → Spends known number old.standing row → memory_after row ≤ memory_reserved known.core
spent known number old row found spends =
    let days = days-set known.core.terminals number old spends.new found in
    let least = spends.least in
    subst (λ (r : Row). memory_after r ≤ memory_reserved known.core) (sym spends.row_is) (omega (arith, days, least))

-- ---- the laws

pub messages-take-theirs : EachMessageTakesItsMemory
messages-take-theirs known number apdu =
    each-handled (λ (row : Row). memory_after row ≤ memory_reserved known.core) known number apdu (omega arith)
    (λ terminal message found linked is taken.
    spent known number terminal _ found (consequence-so known number (taking terminal message known.moment) (meaning_at terminal message) terminal.standing linked refl))
    (λ terminal message found linked is taken at stays. stays)

-- what begins takes one more at most
serves-take-one : (known : Known) (number till : ℕ) (header : Header) (request : SaleRequest) → memory_after (serve_row known number till header request) ≤ memory_reserved known.core + 1
serves-take-one known number till header request =
    each-served (λ (row : Row). memory_after row ≤ memory_reserved known.core + 1) known number till header request (record {
      none = omega arith;
      begins = λ terminal last asking at. let days = days-set known.core.terminals number terminal (asked_for known till terminal last asking.intent asking.original) at.found in omega (arith, days);
      sent = λ terminal talk at may. let days = days-no-more known.core.terminals number terminal (record (wishing terminal talk) { awaited = one_more_awaited terminal.awaited }) at.found (omega arith) in omega (arith, days);
      wished = λ terminal talk at may. let days = days-no-more known.core.terminals number terminal (wishing terminal talk) at.found (omega arith) in omega (arith, days);
      session = λ success. omega arith;
      settles = λ terminal at.
          let reply = reply_to_settled known.kept (settled_of hows.Sale header terminal.pt.currency known.moment) in
          let none : memory_taken (records_kept (reply_calls_to (Some till) reply)) ≡ 0 = none-taken (reply_calls_to (Some till) reply) (replies-keep-nothing (Some till) reply) in
          omega (arith, none);
      day = λ terminal last at. let days = days-one-more known.core.terminals number terminal (asked_for_day known till terminal last header) at.found (omega arith) in omega (arith, days);
      displays = λ terminal last outputs command at. let days = days-no-more known.core.terminals number terminal (asked_to_show known till terminal last header outputs command) at.found (omega arith) in omega (arith, days);
    })

pub requests-take-one : EachRequestTakesOne
requests-take-one known number till header request = (serves-take-one known number till header request, queues-take-one known number till header request)

pub gone-leaves-days : EachTillGoneLeavesDays
gone-leaves-days core till = (days-forgotten till core.terminals, few-pass (λ (wait : Wait). not (eqb wait.till till)) core.waits)
