-- A request that begins: its terminal has what it needs, its Intent may be kept next, and what is wanted is what its row says.
use Rattle.std.proofs.Common.{◌≡◌, ◌<◌, ◌≤◌, ◌+◌, ◌*◌, append-nil, ℕ, zero, suc, Bool, true, false, ◌&&◌, ◌||◌, List, [], ◌∷◌, ◌++◌, append_assoc, length, is_some, not, refl, sym, ◌∙◌, ap, subst, arith}
use Rattle.std.specs.Prelude.{All, IfSome, IsTrue, slice_get, pos, Option, Some, None, option_map, option_and_then, if◌then◌else◌}
use Rattle.std.proofs.lemmas.Bool.{le-ltb, ltb-false}
use Rattle.std.proofs.lemmas.List.Elements.{All-nil, All-cons}
use Rattle.std.proofs.lemmas.Option.{same_Some}
use Rattle.gw_base.specs.Moment.{IsMoment}
use Rattle.gw_base.specs.declared.condition.Condition.TheVariants.{Busy, UnavailableDevice}
use Rattle.gw_base.specs.declared.key.Key.{Key}
use Rattle.gw_base.specs.Setup.{IsPt, IsSetup}
use Rattle.gw_base.specs.declared.setup.Pt.{Pt}
use Rattle.gw_base.specs.declared.setup.Setup.{Setup}
use Rattle.jrn_record.specs.Limits.{IsOutcome, IsRecord}
use Rattle.jrn_record.specs.declared.records.How.TheVariants as hows
use Rattle.jrn_record.specs.declared.records.Intent.{Intent as TheIntent}
use Rattle.jrn_record.specs.declared.records.Outcome.{Outcome as TheOutcome}
use Rattle.jrn_record.specs.declared.records.Record.{Record}
use Rattle.jrn_record.specs.declared.records.Record.TheVariants.{Intent}
use Rattle.gw_ledger.specs.declared.entry.Entry.{Entry as TheEntry}
use Rattle.gw_ledger.specs.Accounts.{is_settled}
use Rattle.gw_ledger.specs.Fold.{AreFolded, FitBy, fits, found_of}
use Rattle.gw_ledger.specs.Laws.{EntriesAreWithin, NamedIsEntry, SettledFits}
use Rattle.gw_ledger.specs.Slots.{is_reversible, is_reversed}
use Rattle.gw_ledger.specs.Sums.{one_if, open_count_of}
use Rattle.gw_ledger.specs.Transaction.{named_of}
use Rattle.sale_values.specs.Key.{key_of}
use Rattle.sale_values.specs.declared.header.Header.{Header}
use Rattle.sale_values.specs.declared.names.Period.{Period}
use Rattle.sale_values.specs.declared.names.Period.TheVariants.{SaleReconciliation, AcquirerSynchronisation, AcquirerReconciliation, PreviousReconciliation}
use Rattle.sale_values.specs.declared.request.Output.{Output}
use Rattle.sale_values.specs.declared.request.PaymentAsk.{PaymentAsk}
use Rattle.sale_values.specs.declared.request.Reference.{Reference}
use Rattle.sale_values.specs.declared.request.ReversalAsk.{ReversalAsk}
use Rattle.sale_values.specs.declared.request.SaleRequest.{SaleRequest}
use Rattle.sale_values.specs.declared.request.SaleRequest.TheVariants as requests
use Rattle.xlate.specs.Ask.{IsApproval, IsOriginalWithinLimits}
use Rattle.xlate.specs.Display.{show}
use Rattle.gw_owes.specs.Calls.{records_kept}
use Rattle.gw_owes.specs.Content.{is_same_amount}
use Rattle.gw_owes.specs.Core.{Core as CoreValue, no_core}
use Rattle.gw_owes.specs.Days.{day_served, days_served, is_day, is_day_key, is_key_of_day}
use Rattle.gw_owes.specs.Diagnosis.{NamedTerminal, named_terminal}
use Rattle.gw_owes.specs.Displays.{display_items, display_result, display_row, shows_in}
use Rattle.gw_owes.specs.Items.{Serve}
use Rattle.gw_owes.specs.KeptReplies.{own_key}
use Rattle.gw_owes.specs.Payments.{Asking, asking_of, beginning_row, begins_asking, begins_in, begins_request, payment_asking, payment_intent, reversal_asking, serve_row}
use Rattle.gw_owes.specs.ReadAs.{Request}
use Rattle.gw_owes.specs.RecordLaws.{AreTerminalsInOrder, EachRowKeepsInOrder, IsInOrder, IsReadFromTill, IsTerminalInOrder, poi_asked}
use Rattle.gw_owes.specs.Reconciliations.{begins_period, reconciliation_row, settled_of}
use Rattle.gw_owes.specs.Requests.{abort_items, begun_by}
use Rattle.gw_owes.specs.Reversals.{is_irreversible, is_whole_of, may_be_reversed, original_of, reversal_intent}
use Rattle.gw_owes.specs.Row.{Known, Row, owing_where}
use Rattle.gw_owes.specs.SessionRows.{session_items, session_result}
use Rattle.gw_owes.specs.Sessions.{is_session}
use Rattle.gw_owes.specs.Steps.{StepResult, Begins, Fails, is_out_of_service, is_ready_standing, lacks_room, service_items, is_beginning, step_result}
use Rattle.gw_owes.specs.Stops.{serves_key, stops_key, wishes_stop}
use Rattle.gw_owes.specs.TerminalLaws.{owes_cut}
use Rattle.gw_owes.specs.Terminals.{of_terminal, with_terminal}
use Rattle.gw_owes.specs.Waits.{slots_reserved, waiting_for, waiting_with}
use Rattle.gw_owes.specs.declared.terminal.LoggedOut.{LoggedOut}
use Rattle.gw_owes.specs.declared.terminal.Standing.{Standing}
use Rattle.gw_owes.specs.declared.terminal.Standing.TheVariants.{Unlinked, Registering, Enquiring, Ready, Serving, Aside}
use Rattle.gw_owes.specs.declared.terminal.Terminal.{Terminal}
use Rattle.gw_owes.proofs.LimitLemmas.{own-key-is, reconciliation-within, settled-key-is, settled-within}
use Rattle.gw_owes.proofs.PaymentLemmas.{PassesSteps, passes-steps}
use Rattle.gw_core.specs.Beginning.{MayBegin, MayPay, MayBeginPeriod, MayReverse, MayShow, begun_row}
use Rattle.gw_core.specs.IsRow.{IsRow, MayBeKept, known_with}
use Rattle.gw_core.specs.ReplyOf.{BeginsAt, IsKnownAt}
use Rattle.gw_core.specs.declared.act.Acts.{Acts}
use Rattle.gw_core.specs.declared.gateway.Gateway.{Gateway}
use Rattle.gw_core.proofs.BegunLemmas.{ServesNamed, StopsNamed, serves-named, stop-of-abort, stops-named}
use Rattle.gw_core.proofs.CoreLemmas.{zero-least}
use Rattle.gw_core.proofs.NamedLemmas.{named-poi, named-there, there-within}

-- ---- records

-- the last of records that are folded lies within its limits, and may come after those before it
last-fits : (before kept : List Record) (the_record : Record) → FitBy fits before (kept ++ the_record ∷ []) → IsTrue (fits (before ++ kept) the_record)
last-fits before [] the_record fit = subst (λ (records : List Record). IsTrue (fits records the_record)) (sym (append-nil before)) fit.0
last-fits before (first ∷ kept) the_record fit =
    subst (λ (records : List Record). IsTrue (fits records the_record)) (append_assoc before (first ∷ []) kept) (last-fits (before ++ first ∷ []) kept the_record fit.1)

last-within : (kept : List Record) (the_record : Record) → All IsRecord (kept ++ the_record ∷ []) → IsRecord the_record
last-within [] the_record each = each 0 the_record (omega arith)
last-within (first ∷ kept) the_record each = last-within kept the_record (λ k d inside. each (suc k) d (omega arith))

pub may-be-kept : (kept : List Record) (the_record : Record) → AreFolded (kept ++ the_record ∷ []) → MayBeKept kept the_record
may-be-kept kept the_record folded = record { within = last-within kept the_record folded.within; fitting = last-fits [] kept the_record folded.fit }

-- ---- the row of a beginning

-- a terminal that is ready begins what is asked for, where the steps say so
begins-asked : (known : Known) (number till : ℕ) (header : Header) (request : SaleRequest) (terminal : Terminal) (last : ℕ) (asking : Asking)
    → step_result known header request (Some (record { number = number; terminal = terminal })) ≡ Begins → terminal.standing ≡ Ready last → asking_of known header request terminal last ≡ Some asking
    → begins_request known number till header request terminal ≡ beginning_row known number till terminal last asking.intent asking.original
begins-asked known number till header request terminal last asking begin ready asks =
    ap (λ (result : StepResult). owing_where (is_beginning result) known (begins_in known number till header request terminal terminal.standing)) begin
    ∙ ap (begins_in known number till header request terminal) ready
    ∙ ap (begins_asking known number till terminal last) asks

-- a payment at a terminal that is ready
pub payment-begins : (known : Known) (pt till : ℕ) (header : Header) (payment : PaymentAsk) (terminal : Terminal) (last : ℕ) (intent : TheIntent) → terminal.standing ≡ Ready last
    → intent ≡ payment_intent header payment terminal.pt.currency last known.moment
    → beginning_row known pt till terminal intent.before intent None ≡ begins_in known pt till header (requests.Payment payment) terminal terminal.standing
payment-begins known pt till header payment terminal last intent ready intent_is =
    ap (λ (i : TheIntent). beginning_row known pt till terminal i.before i None) intent_is ∙ sym (ap (begins_in known pt till header (requests.Payment payment) terminal) ready)

-- a reversal there, whose original is this
pub reversal-begins : (known : Known) (pt till : ℕ) (header : Header) (reversal : ReversalAsk) (terminal : Terminal) (last : ℕ) (intent : TheIntent) (original : TheEntry) → terminal.standing ≡ Ready last
    → original_of known.kept header.poi reversal ≡ Some original → intent ≡ reversal_intent header original last known.moment
    → beginning_row known pt till terminal intent.before intent (Some original) ≡ begins_in known pt till header (requests.Reversal reversal) terminal terminal.standing
reversal-begins known pt till header reversal terminal last intent original ready named intent_is =
    ap (λ (i : TheIntent). beginning_row known pt till terminal i.before i (Some original)) intent_is
    ∙ sym (ap (begins_in known pt till header (requests.Reversal reversal) terminal) ready ∙ ap (λ (o : Option TheEntry). begins_asking known pt till terminal last (option_map (reversal_asking known header last) o)) named)

-- a ready standing has its last trace number
pub record IsReady (standing : Standing) : Type 0 where
  pub last : ℕ
  pub ready : standing ≡ Ready last

pub ready-last : (standing : Standing) → is_ready_standing standing ≡ true → IsReady standing
ready-last (Unlinked due) is = absurd cc
ready-last Registering is = absurd cc
ready-last Enquiring is = absurd cc
ready-last (Ready last) is = record { last = last; ready = refl }
ready-last (Serving service last) is = absurd cc
ready-last (Aside before reported) is = absurd cc

-- ---- the original of a reversal

-- there is an entry
pub record IsThere (found : Option TheEntry) : Type 0 where
  pub entry : TheEntry
  pub is : found ≡ Some entry

pub some-there : (found : Option TheEntry) → not (is_some found) ≡ false → IsThere found
some-there None none = absurd cc
some-there (Some entry) none = record { entry = entry; is = refl }

both-hold : (a b : Bool) → (a && b) ≡ true → a ≡ true
both-hold true b is = refl
both-hold false b is = absurd cc

second-holds : (a b : Bool) → (a && b) ≡ true → b ≡ true
second-holds true b is = is
second-holds false b is = absurd cc

not-false : (a : Bool) → not a ≡ false → a ≡ true
not-false true is = refl
not-false false is = absurd cc

whole-approved : (amount : Option ℕ) (result : Option TheOutcome) → is_whole_of amount result ≡ true → IsApproval result
whole-approved amount None whole = absurd cc
whole-approved amount (Some outcome) whole = both-hold outcome.approved (is_same_amount amount outcome.amount) whole

-- one that is named lies within its limits
pub named-within : (records : List Record) (poi text : List ℕ) (entry : TheEntry) → NamedIsEntry → EntriesAreWithin → AreFolded records → named_of records poi text ≡ Some entry → IsOriginalWithinLimits (Some entry)
named-within records poi text entry names within folded named = λ outcome result.
    let of_entry = (within records folded).0 entry.slot entry (names records poi text entry named).0 in
    subst (λ (o : Option TheOutcome). IfSome o IsOutcome) result of_entry.result

-- one that may be reversed is approved
pub reversible-approved : (kept : List Record) (reversal : ReversalAsk) (entry : TheEntry) → is_irreversible kept reversal (Some entry) ≡ false → IsApproval entry.result
reversible-approved kept reversal entry reversible =
    let may = not-false (may_be_reversed kept reversal entry) reversible in
    whole-approved reversal.amount entry.result
    (second-holds (is_reversible entry.intent.what) (is_whole_of reversal.amount entry.result)
    (both-hold (is_reversible entry.intent.what && is_whole_of reversal.amount entry.result) (not (is_reversed kept entry.slot) && not (is_settled kept entry.slot)) may))

-- ---- the Intent

-- a gateway with this terminal alone, in which these are logged out
abbrev with_one : List Record → List LoggedOut → Terminal → ℕ → ℕ → Known
with_one kept pairs terminal slots moment = record {
  setup = record { name = terminal.pt.poi; listen = []; journal = []; line = 0; wait = 1; slots = slots; terminals = terminal.pt ∷ [] };
  core = record no_core { terminals = terminal ∷ []; logged_out = pairs };
  kept = kept;
  moment = moment;
}

-- the terminal alone, in a gateway whose records are in order
pub record IsAlone (kept : List Record) (terminal : Terminal) (slots moment : ℕ) : Type 0 where
  pub rows : EachRowKeepsInOrder
  pub settled : SettledFits
  pub folded : AreFolded kept
  pub settings : IsPt terminal.pt
  pub order : IsTerminalInOrder kept terminal
  pub greatest : slots ≤ 1000000
  pub at : IsMoment (pos moment)

-- one terminal serves one end of day at most, which is one of those that are served
one-at-most : (terminal : Terminal) → days_served (terminal ∷ []) ≤ 1
one-at-most terminal = by-test (is_day (day_served terminal.standing))
  where
    by-test : (test : Bool) → one_if test + 0 ≤ 1
    by-test true = omega arith
    by-test false = omega arith

one-of-days : (terminals : List Terminal) (number : ℕ) (terminal : Terminal) → slice_get terminals number ≡ Some terminal → days_served (terminal ∷ []) ≤ days_served terminals
one-of-days [] number terminal found = absurd cc
one-of-days (first ∷ others) zero terminal found = subst (λ (t : Terminal). days_served (t ∷ []) ≤ days_served (first ∷ others)) (same_Some first terminal found) (omega arith)
one-of-days (first ∷ others) (suc number) terminal found = let rest = one-of-days others number terminal found in omega (arith, rest)

-- which number a terminal has is nothing to the key of the end of day that it serves
same-day-key : (own : Option Key) (number other : ℕ) (terminal : Terminal)
    → is_key_of_day own (Some (record { number = number; terminal = terminal })) ≡ is_key_of_day own (Some (record { number = other; terminal = terminal }))
same-day-key None number other terminal = refl
same-day-key (Some key) number other terminal = refl

-- no more is reserved where one terminal is alone
fewer-reserved : (slots kept unresolved days one waits : ℕ) → one ≤ days → kept + (unresolved + ((days + 2 * waits) + 2)) ≤ slots → kept + (unresolved + ((one + 2 * 0) + 2)) ≤ slots
fewer-reserved slots kept unresolved days one waits fewer room = omega (arith, fewer, room)

least-room : (slots kept unresolved reserved : ℕ) → kept + (unresolved + (reserved + 2)) ≤ slots → kept + (unresolved + 2) ≤ slots
least-room slots kept unresolved reserved room = omega (arith, room)

first-fails : (a b : Bool) → (a || b) ≡ false → a ≡ false
first-fails true b is = absurd cc
first-fails false b is = refl

-- where none waits none waits under a key
none-of-none : (own : Option Key) → option_and_then (λ (key : Key). waiting_with key []) own ≡ None
none-of-none None = refl
none-of-none (Some key) = refl

-- the steps of a payment or a reversal that begins let it begin where the terminal is alone
module _ (setup : Setup) (kept : List Record) (core : CoreValue) (moment number : ℕ) (header : Header) (terminal : Terminal) (found : slice_get core.terminals number ≡ Some terminal) where
  abbrev alone : Known
  alone = with_one kept core.logged_out terminal setup.slots moment

  abbrev named : Option NamedTerminal
  named = Some (record { number = number; terminal = terminal })

  abbrev first : Option NamedTerminal
  first = Some (record { number = 0; terminal = terminal })

  room-alone : (request : SaleRequest) → PassesSteps (known_with setup kept core moment) header request named → lacks_room setup.slots kept alone.core ≡ false
  room-alone request passes =
      let room = ltb-false setup.slots (length kept + (open_count_of kept + (slots_reserved core + 2))) passes.room in
      let fewer = one-of-days core.terminals number terminal found in
      le-ltb setup.slots (length kept + (open_count_of kept + (slots_reserved alone.core + 2)))
      (fewer-reserved setup.slots (length kept) (open_count_of kept) (days_served core.terminals) (days_served (terminal ∷ [])) (length core.waits) fewer room)

  day-alone : (request : SaleRequest) → PassesSteps (known_with setup kept core moment) header request named → is_day_key header first ≡ false
  day-alone request passes = same-day-key (own_key header) 0 number terminal ∙ first-fails (is_day_key header named) (is_some (waiting_for core header)) passes.not_pending

  none-alone : waiting_for alone.core header ≡ None
  none-alone = none-of-none (own_key header)

  payment-alone : (payment : PaymentAsk) (last : ℕ) → terminal.standing ≡ Ready last → PassesSteps (known_with setup kept core moment) header (requests.Payment payment) named
      → step_result alone header (requests.Payment payment) first ≡ Begins
  payment-alone payment last ready passes =
      rw (passes.unknown, day-alone (requests.Payment payment) passes, none-alone, passes.logged_in, passes.served, passes.currency, passes.number_left, room-alone (requests.Payment payment) passes, ready) refl

  reversal-alone : (reversal : ReversalAsk) (last : ℕ) → terminal.standing ≡ Ready last → PassesSteps (known_with setup kept core moment) header (requests.Reversal reversal) named
      → step_result alone header (requests.Reversal reversal) first ≡ Begins
  reversal-alone reversal last ready passes =
      rw (passes.unknown, day-alone (requests.Reversal reversal) passes, none-alone, passes.logged_in, passes.original, passes.reversible, passes.number_left, room-alone (requests.Reversal reversal) passes, ready) refl

  -- room is left for both of its records
  room-left : (request : SaleRequest) → PassesSteps (known_with setup kept core moment) header request named → length kept + (open_count_of kept + 2) ≤ setup.slots
  room-left request passes =
      let room = ltb-false setup.slots (length kept + (open_count_of kept + (slots_reserved core + 2))) passes.room in
      least-room setup.slots (length kept) (open_count_of kept) (slots_reserved core) room

module _ (kept : List Record) (pairs : List LoggedOut) (terminal : Terminal) (slots moment : ℕ) (is : IsAlone kept terminal slots moment) where
  one-setup : 2 ≤ slots → IsSetup (with_one kept pairs terminal slots moment).setup
  one-setup least = let settings = is.settings in record {
    name = settings.poi;
    line = omega arith;
    wait = (omega arith, omega arith);
    slots = (least, is.greatest);
    count = omega arith;
    each = All-cons IsPt terminal.pt [] settings (All-nil IsPt);
    distinct = (All-nil _, tt);
  }

  one-in-order : AreTerminalsInOrder kept (with_one kept pairs terminal slots moment).core
  one-in-order zero one found = subst (IsTerminalInOrder kept) (same_Some terminal one found) is.order
  one-in-order (suc number) one found = absurd cc

  -- what such a gateway knows is in order, where there is room
  one-known : length kept + (open_count_of kept + 2) ≤ slots → IsInOrder (with_one kept pairs terminal slots moment)
  one-known room = record {
    folded = is.folded;
    room = let most = one-at-most terminal in omega (arith, room, most);
    of_setup = record { within = one-setup (omega arith); settings = refl };
    moment = is.at;
    terminals = one-in-order;
    numbered = zero-least;
  }

  -- the Intent of what begins may be kept next
  asking-kept : (header : Header) (request : SaleRequest) (last : ℕ) (asking : Asking) → length kept + (open_count_of kept + 2) ≤ slots → IsReadFromTill (Request header request) → terminal.pt.poi ≡ poi_asked header request
      → serve_row (with_one kept pairs terminal slots moment) 0 0 header request ≡ beginning_row (with_one kept pairs terminal slots moment) 0 0 terminal last asking.intent asking.original → MayBeKept kept (Intent asking.intent)
  asking-kept header request last asking room read names row =
      let rows = is.rows in
      let keeps = rows (with_one kept pairs terminal slots moment) (Serve 0 0 header request) (λ number same. absurd cc) (one-known room)
      (record { read = read; names = λ pt found. ap (λ (p : Pt). p.poi) (sym (same_Some terminal.pt pt found)) ∙ names }) (ap (λ (r : Row). owes_cut r.calls) row) in
      may-be-kept kept (Intent asking.intent) (subst (λ (r : Row). AreFolded (kept ++ records_kept r.calls)) row keeps.folded)

-- what begins at a terminal that is there
module _ (setup : Setup) (kept : List Record) (core : CoreValue) (moment number : ℕ) (header : Header) (terminal : Terminal) (found : slice_get core.terminals number ≡ Some terminal)
    (is : IsAlone kept terminal setup.slots moment) where
  abbrev whole : Known
  whole = known_with setup kept core moment

  abbrev there : Option NamedTerminal
  there = Some (record { number = number; terminal = terminal })

  -- a payment that the steps begin may be paid
  may-pay : (payment : PaymentAsk) → step_result whole header (requests.Payment payment) there ≡ Begins → IsReadFromTill (Request header (requests.Payment payment)) → terminal.pt.poi ≡ header.poi
      → MayPay kept moment header payment terminal
  may-pay payment begin read names =
      let passes = passes-steps whole header (requests.Payment payment) there (ap is_beginning begin) in
      let is_ready = ready-last terminal.standing passes.ready in
      let known : Known = with_one kept core.logged_out terminal setup.slots moment in
      let asking : Asking = payment_asking known header payment terminal is_ready.last in
      let begins = payment-alone setup kept core moment number header terminal found payment is_ready.last is_ready.ready passes in
      record {
        last = is_ready.last;
        ready = is_ready.ready;
        next = asking-kept kept core.logged_out terminal setup.slots moment is header (requests.Payment payment) is_ready.last asking
            (room-left setup kept core moment number header terminal found (requests.Payment payment) passes) read names
            (begins-asked known 0 0 header (requests.Payment payment) terminal is_ready.last asking begins is_ready.ready refl);
      }

  -- a reversal that the steps begin may be made
  may-reverse : (reversal : ReversalAsk) → step_result whole header (requests.Reversal reversal) there ≡ Begins → IsReadFromTill (Request header (requests.Reversal reversal)) → terminal.pt.poi ≡ header.poi
      → MayReverse kept moment header reversal terminal
  may-reverse reversal begin read names =
      let passes = passes-steps whole header (requests.Reversal reversal) there (ap is_beginning begin) in
      let is_ready = ready-last terminal.standing passes.ready in
      let original = some-there (original_of kept header.poi reversal) passes.original in
      let known : Known = with_one kept core.logged_out terminal setup.slots moment in
      let asking : Asking = reversal_asking known header is_ready.last original.entry in
      let begins = reversal-alone setup kept core moment number header terminal found reversal is_ready.last is_ready.ready passes in
      record {
        last = is_ready.last;
        ready = is_ready.ready;
        original = original.entry;
        named = original.is;
        approved = reversible-approved kept reversal original.entry (subst (λ (o : Option TheEntry). is_irreversible kept reversal o ≡ false) original.is passes.reversible);
        next = asking-kept kept core.logged_out terminal setup.slots moment is header (requests.Reversal reversal) is_ready.last asking
            (room-left setup kept core moment number header terminal found (requests.Reversal reversal) passes) read names
            (begins-asked known 0 0 header (requests.Reversal reversal) terminal is_ready.last asking begins is_ready.ready (ap (option_map (reversal_asking known header is_ready.last)) original.is));
      }

  -- a reconciliation that the steps begin may be settled, or its end of day begun
  may-reconcile : (period : Period) → step_result whole header (requests.Reconciliation period) there ≡ Begins → IsReadFromTill (Request header (requests.Reconciliation period))
      → MayBeginPeriod kept moment header period terminal
  may-reconcile SaleReconciliation begin read =
      let passes = passes-steps whole header (requests.Reconciliation SaleReconciliation) there (ap is_beginning begin) in
      let heading = reconciliation-within header SaleReconciliation read in
      let own = own-key-is header heading in
      let settled = settled_of hows.Sale header terminal.pt.currency moment in
      let fits = is.settled in
      record {
        within = settled-within hows.Sale header terminal.pt.currency moment heading is.at;
        fitting = fits kept is.folded settled
            (ap (found_of kept) (settled-key-is hows.Sale header terminal.pt.currency moment _ own) ∙ sym (ap (option_and_then (found_of kept)) own) ∙ passes.unknown);
      }
  may-reconcile AcquirerSynchronisation begin read =
      let passes = passes-steps whole header (requests.Reconciliation AcquirerSynchronisation) there (ap is_beginning begin) in
      let served = passes.served in
      absurd cc
  may-reconcile AcquirerReconciliation begin read = (passes-steps whole header (requests.Reconciliation AcquirerReconciliation) there (ap is_beginning begin)).ready
  may-reconcile PreviousReconciliation begin read =
      let passes = passes-steps whole header (requests.Reconciliation PreviousReconciliation) there (ap is_beginning begin) in
      let served = passes.served in
      absurd cc

-- what a Display shows that begins, at a terminal that is ready
may-show : (outputs : List Output) (number : ℕ) (terminal : Terminal) → display_result outputs (Some (record { number = number; terminal = terminal })) ≡ Begins → MayShow outputs terminal
may-show outputs number terminal begin =
    let parts = both (is_some (show outputs)) (is_out_of_service terminal.standing) (is_ready_standing terminal.standing) begin in
    record { ready = parts.1; shows = parts.0 }
  where
    both : (shows away ready : Bool) → (if not shows then Fails UnavailableDevice else (if away then Fails UnavailableDevice else (if ready then Begins else Fails Busy))) ≡ Begins → (shows ≡ true) × (ready ≡ true)
    both true false true begin = (refl, refl)
    both true false false begin = absurd cc
    both true true ready begin = absurd cc
    both false away ready begin = absurd cc

-- ---- what begins at a terminal

-- what is known says that the service begins at the terminal of this number, which has the POIID of the request
record ServiceBegins (known : Known) (pt : ℕ) (header : Header) (request : SaleRequest) (terminal : Terminal) : Type 0 where
  poi : terminal.pt.poi ≡ header.poi
  begins : step_result known header request (Some (record { number = pt; terminal = terminal })) ≡ Begins

service-begins : (known : Known) (pt : ℕ) (header : Header) (request : SaleRequest) (terminal : Terminal) → slice_get known.core.terminals pt ≡ Some terminal
    → service_items known 0 header request (named_terminal known.core header.poi) ≡ Serve pt 0 header request ∷ [] → ServiceBegins known pt header request terminal
service-begins known pt header request terminal found begun =
    let serves : ServesNamed header header request request pt (named_terminal known.core header.poi) (step_result known header request (named_terminal known.core header.poi)) =
    serves-named 0 pt header header request request (named_terminal known.core header.poi) (step_result known header request (named_terminal known.core header.poi)) begun in
    let same : serves.terminal ≡ terminal = same_Some serves.terminal terminal (sym (named-there known.core header.poi pt serves.terminal serves.named_is) ∙ found) in
    record {
      poi = subst (λ (t : Terminal). t.pt.poi ≡ header.poi) same (named-poi known.core header.poi pt serves.terminal serves.named_is);
      begins = subst (λ (t : Terminal). step_result known header request (Some (record { number = pt; terminal = t })) ≡ Begins) same
          (ap (step_result known header request) (sym serves.named_is) ∙ serves.result_is);
    }

-- so it is of a Display
display-begins : (known : Known) (pt : ℕ) (header : Header) (outputs : List Output) (terminal : Terminal) → slice_get known.core.terminals pt ≡ Some terminal
    → display_items 0 header outputs (named_terminal known.core header.poi) ≡ Serve pt 0 header (requests.Display outputs) ∷ [] → display_result outputs (Some (record { number = pt; terminal = terminal })) ≡ Begins
display-begins known pt header outputs terminal found begun =
    let serves : ServesNamed header header (requests.Display outputs) (requests.Display outputs) pt (named_terminal known.core header.poi) (display_result outputs (named_terminal known.core header.poi)) =
    serves-named 0 pt header header (requests.Display outputs) (requests.Display outputs) (named_terminal known.core header.poi) (display_result outputs (named_terminal known.core header.poi)) begun in
    let same : serves.terminal ≡ terminal = same_Some serves.terminal terminal (sym (named-there known.core header.poi pt serves.terminal serves.named_is) ∙ found) in
    subst (λ (t : Terminal). display_result outputs (Some (record { number = pt; terminal = t })) ≡ Begins) same (ap (display_result outputs) (sym serves.named_is) ∙ serves.result_is)

-- what is known says that the terminal of this number serves the key that an Abort names
key-served : (known : Known) (pt : ℕ) (header : Header) (reference : Reference) (terminal : Terminal) → slice_get known.core.terminals pt ≡ Some terminal
    → abort_items known 0 header reference (waiting_with (key_of header reference) known.core.waits) ≡ Serve pt 0 header (requests.Abort reference) ∷ [] → serves_key known.kept (key_of header reference) terminal ≡ true
key-served known pt header reference terminal found aborts =
    let key = key_of header reference in
    let begun = stop-of-abort known 0 pt header header reference (requests.Abort reference) (waiting_with key known.core.waits) aborts in
    let stops : StopsNamed known.kept header header reference (requests.Abort reference) pt (named_terminal known.core key.poi) =
    stops-named known 0 pt header header reference (requests.Abort reference) (named_terminal known.core key.poi) begun in
    let same : stops.terminal ≡ terminal = same_Some stops.terminal terminal (sym (named-there known.core key.poi pt stops.terminal stops.named_is) ∙ found) in
    subst (λ (t : Terminal). serves_key known.kept key t ≡ true) same stops.serves

-- the terminal at which a service begins is there
service-there : (known : Known) (pt : ℕ) (header : Header) (request : SaleRequest) → service_items known 0 header request (named_terminal known.core header.poi) ≡ Serve pt 0 header request ∷ [] → pt < length known.core.terminals
service-there known pt header request begun =
    let serves = serves-named 0 pt header header request request (named_terminal known.core header.poi) (step_result known header request (named_terminal known.core header.poi)) begun in
    there-within known.core.terminals pt serves.terminal (named-there known.core header.poi pt serves.terminal serves.named_is)

-- so is that of a session
session-there : (known : Known) (pt : ℕ) (header : Header) (request : SaleRequest) → session_items known 0 header request (named_terminal known.core header.poi) ≡ Serve pt 0 header request ∷ [] → pt < length known.core.terminals
session-there known pt header request begun =
    let serves = serves-named 0 pt header header request request (named_terminal known.core header.poi) (session_result known header request (named_terminal known.core header.poi)) begun in
    there-within known.core.terminals pt serves.terminal (named-there known.core header.poi pt serves.terminal serves.named_is)

-- and that of a Display
display-there : (known : Known) (pt : ℕ) (header : Header) (outputs : List Output) → display_items 0 header outputs (named_terminal known.core header.poi) ≡ Serve pt 0 header (requests.Display outputs) ∷ [] → pt < length known.core.terminals
display-there known pt header outputs begun =
    let serves = serves-named 0 pt header header (requests.Display outputs) (requests.Display outputs) (named_terminal known.core header.poi) (display_result outputs (named_terminal known.core header.poi)) begun in
    there-within known.core.terminals pt serves.terminal (named-there known.core header.poi pt serves.terminal serves.named_is)

-- and so is every terminal at which a request begins
begun-there : (known : Known) (pt : ℕ) (header : Header) (request : SaleRequest) → begun_by known 0 (Request header request) ≡ Serve pt 0 header request ∷ [] → pt < length known.core.terminals
begun-there known pt header requests.Login begun = session-there known pt header requests.Login begun
begun-there known pt header requests.Logout begun = session-there known pt header requests.Logout begun
begun-there known pt header (requests.Payment payment) begun = service-there known pt header (requests.Payment payment) begun
begun-there known pt header (requests.Reversal reversal) begun = service-there known pt header (requests.Reversal reversal) begun
begun-there known pt header (requests.Abort reference) aborts =
    let key = key_of header reference in
    let begun = stop-of-abort known 0 pt header header reference (requests.Abort reference) (waiting_with key known.core.waits) aborts in
    let stops = stops-named known 0 pt header header reference (requests.Abort reference) (named_terminal known.core key.poi) begun in
    there-within known.core.terminals pt stops.terminal (named-there known.core key.poi pt stops.terminal stops.named_is)
begun-there known pt header (requests.Status reference) begun = absurd cc
begun-there known pt header (requests.Reconciliation period) begun = service-there known pt header (requests.Reconciliation period) begun
begun-there known pt header (requests.Display outputs) begun = display-there known pt header outputs begun
begun-there known pt header (requests.Print qualifier) begun = absurd cc
begun-there known pt header requests.Diagnosis begun = absurd cc

-- a gateway that remembers and keeps this
abbrev pub known_kept : Gateway → List Record → CoreValue → ℕ → Known
known_kept gateway kept core moment =
    known_with (record { name = gateway.name; listen = []; journal = []; line = gateway.line; wait = gateway.wait; slots = gateway.slots; terminals = [] }) kept core moment

module _ (gateway : Gateway) (kept : List Record) (core : CoreValue) (moment pt : ℕ) (header : Header) where
  pub begins-own : (request : SaleRequest) → BeginsAt gateway kept core moment pt header request → begun_by (known_kept gateway kept core moment) 0 (Request header request) ≡ Serve pt 0 header request ∷ []
  begins-own request at = at.begins (known_kept gateway kept core moment) (record { name_is = refl; slots_is = refl; line_is = refl; wait_is = refl; kept_is = refl; core_is = refl; moment_is = refl }) 0

  -- the terminal is there
  pub begins-within : (request : SaleRequest) → BeginsAt gateway kept core moment pt header request → pt < length core.terminals
  begins-within request at = begun-there (known_kept gateway kept core moment) pt header request (begins-own request at)

  -- it has what it needs for what begins there, other than a session
  pub begins-may : (request : SaleRequest) → is_session request ≡ false → BeginsAt gateway kept core moment pt header request → (terminal : Terminal) → slice_get core.terminals pt ≡ Some terminal → IsAlone kept terminal gateway.slots moment
      → MayBegin kept moment header request terminal
  begins-may requests.Login other at terminal found alone = absurd cc
  begins-may requests.Logout other at terminal found alone = absurd cc
  begins-may (requests.Payment payment) other at terminal found alone =
      let begin = service-begins (known_kept gateway kept core moment) pt header (requests.Payment payment) terminal found (begins-own (requests.Payment payment) at) in
      may-pay (known_kept gateway kept core moment).setup kept core moment pt header terminal found alone payment begin.begins at.read begin.poi
  begins-may (requests.Reversal reversal) other at terminal found alone =
      let begin = service-begins (known_kept gateway kept core moment) pt header (requests.Reversal reversal) terminal found (begins-own (requests.Reversal reversal) at) in
      may-reverse (known_kept gateway kept core moment).setup kept core moment pt header terminal found alone reversal begin.begins at.read begin.poi
  begins-may (requests.Abort reference) other at terminal found alone = tt
  begins-may (requests.Status reference) other at terminal found alone = let begun = begins-own (requests.Status reference) at in absurd cc
  begins-may (requests.Reconciliation period) other at terminal found alone =
      let begin = service-begins (known_kept gateway kept core moment) pt header (requests.Reconciliation period) terminal found (begins-own (requests.Reconciliation period) at) in
      may-reconcile (known_kept gateway kept core moment).setup kept core moment pt header terminal found alone period begin.begins at.read
  begins-may (requests.Display outputs) other at terminal found alone =
      may-show outputs pt terminal (display-begins (known_kept gateway kept core moment) pt header outputs terminal found (begins-own (requests.Display outputs) at))
  begins-may (requests.Print qualifier) other at terminal found alone = let begun = begins-own (requests.Print qualifier) at in absurd cc
  begins-may requests.Diagnosis other at terminal found alone = let begun = begins-own requests.Diagnosis at in absurd cc

  -- what is known is this, beside the setup
  pub known-is : (known : Known) → IsKnownAt gateway kept core moment known → known_with known.setup kept core moment ≡ known
  known-is known is =
      ap (λ (c : CoreValue). known_with known.setup kept c moment) (sym is.core_is)
      ∙ ap (λ (records : List Record). known_with known.setup records known.core moment) (sym is.kept_is)
      ∙ ap (λ (m : ℕ). known_with known.setup known.kept known.core m) (sym is.moment_is)

  -- at the terminal that is there, the row of a service that begins is that of what begins there
  service-row : (known : Known) (till : ℕ) (request : SaleRequest) (terminal : Terminal) → slice_get known.core.terminals pt ≡ Some terminal
      → service_items known 0 header request (named_terminal known.core header.poi) ≡ Serve pt 0 header request ∷ []
      → of_terminal known (begins_request known pt till header request) (slice_get known.core.terminals pt) ≡ begins_in known pt till header request terminal terminal.standing
  service-row known till request terminal found begun =
      let begin = service-begins known pt header request terminal found begun in
      ap (of_terminal known (begins_request known pt till header request)) found
      ∙ ap (λ (result : StepResult). owing_where (is_beginning result) known (begins_in known pt till header request terminal terminal.standing)) begin.begins

  -- and so it is of each request that begins, other than a session
  begun-is : (known : Known) (till : ℕ) (request : SaleRequest) (terminal : Terminal) → is_session request ≡ false → slice_get known.core.terminals pt ≡ Some terminal
      → begun_by known 0 (Request header request) ≡ Serve pt 0 header request ∷ [] → serve_row known pt till header request ≡ begun_row known pt till header terminal request
  begun-is known till requests.Login terminal other found begun = absurd cc
  begun-is known till requests.Logout terminal other found begun = absurd cc
  begun-is known till (requests.Payment payment) terminal other found begun = service-row known till (requests.Payment payment) terminal found begun
  begun-is known till (requests.Reversal reversal) terminal other found begun = service-row known till (requests.Reversal reversal) terminal found begun
  begun-is known till (requests.Abort reference) terminal other found begun =
      let serves = key-served known pt header reference terminal found begun in
      ap (of_terminal known (stops_key known pt (key_of header reference))) found
      ∙ ap (λ (test : Bool). owing_where test known (wishes_stop known pt terminal terminal.talk)) serves
  begun-is known till (requests.Status reference) terminal other found begun = refl
  begun-is known till (requests.Reconciliation period) terminal other found begun =
      let begin = service-begins known pt header (requests.Reconciliation period) terminal found begun in
      ap (of_terminal known (reconciliation_row known pt till header period)) found
      ∙ ap (λ (result : StepResult). owing_where (is_beginning result) known (begins_period known pt till header period terminal)) begin.begins
  begun-is known till (requests.Display outputs) terminal other found begun =
      ap (of_terminal known (display_row known pt till header outputs)) found
      ∙ ap (λ (result : StepResult). owing_where (is_beginning result) known (shows_in known pt till header outputs terminal terminal.standing)) (display-begins known pt header outputs terminal found begun)
  begun-is known till (requests.Print qualifier) terminal other found begun = refl
  begun-is known till requests.Diagnosis terminal other found begun = refl

  -- what the terminal begins is what the row says
  pub begins-row : (request : SaleRequest) → is_session request ≡ false → BeginsAt gateway kept core moment pt header request → (till : ℕ) (terminal new : Terminal) (acts : Acts) → slice_get core.terminals pt ≡ Some terminal
      → ((setup : Setup) → IsRow kept (begun_row (known_with setup kept core moment) pt till header terminal request) (with_terminal core pt new) acts)
      → (known : Known) → IsKnownAt gateway kept core moment known → IsRow kept (serve_row known pt till header request) (with_terminal core pt new) acts
  begins-row request other at till terminal new acts found begun known is =
      let own : Known = known_with known.setup kept core moment in
      let row = begun-is own till request terminal other found (at.begins own (record { name_is = is.name_is; slots_is = is.slots_is; line_is = is.line_is; wait_is = is.wait_is; kept_is = refl; core_is = refl; moment_is = refl }) 0) in
      subst (λ (k : Known). IsRow kept (serve_row k pt till header request) (with_terminal core pt new) acts) (known-is known is)
      (subst (λ (r : Row). IsRow kept r (with_terminal core pt new) acts) (sym row) (begun known.setup))
