-- What a terminal begins to serve, what is settled, and a stop keep what is known in order, and what a till's message begins was read and names its terminal.
use Rattle.std.proofs.Common.{◌≡◌, ◌∙◌, ℕ, suc, ◌+◌, ◌^◌, ◌<◌, ◌≤◌, max, Bool, true, false, ◌&&◌, eqb, List, [], ◌∷◌, ◌++◌, length, not, refl, sym, ap, subst, arith}
use Rattle.std.specs.Prelude.{All, IfSome, is_some, slice_get, map, Option, Some, None, option_and_then, option_map, if◌then◌else◌, bytes_eq, unwrap_or}
use Rattle.std.proofs.lemmas.Bool.{and_parts, eqb-true, eqb-false, ltb-false, not-true, not-false, or_parts}
use Rattle.std.proofs.lemmas.List.{length-map}
use Rattle.std.proofs.lemmas.List.Elements.{All-nil, All-cons}
use Rattle.std.proofs.lemmas.Option.{same_Some}
use Rattle.std.proofs.lemmas.Slice.Eq.{bytes_eq-Decides}
use Rattle.gw_base.specs.declared.condition.Condition.{Condition}
use Rattle.gw_base.specs.declared.condition.Condition.TheVariants.{UnavailableDevice}
use Rattle.gw_base.specs.declared.key.Key.{Key}
use Rattle.gw_base.specs.declared.setup.Pt.{Pt}
use Rattle.json_text.specs.Tree.{Tree}
use Rattle.sale_values.specs.declared.header.Header.{Header}
use Rattle.sale_values.specs.declared.names.Period.TheVariants.{SaleReconciliation, AcquirerReconciliation}
use Rattle.sale_values.specs.declared.request.Output.{Output}
use Rattle.sale_values.specs.declared.request.PaymentAsk.{PaymentAsk}
use Rattle.sale_values.specs.declared.request.Reference.{Reference}
use Rattle.sale_values.specs.declared.request.ReversalAsk.{ReversalAsk}
use Rattle.sale_values.specs.declared.request.SaleRequest.{SaleRequest}
use Rattle.sale_values.specs.declared.request.SaleRequest.TheVariants as requests
use Rattle.sale_values.specs.Key.{key_of}
use Rattle.sale_msg.specs.declared.category.Category.TheVariants as categories
use Rattle.sale_msg.specs.declared.table.Envelope.TheVariants as envelopes
use Rattle.sale_msg.specs.Grammar.{Asks, HasBody, parts_of}
use Rattle.sale_reply.specs.declared.reply.Shown.{Shown}
use Rattle.zvt_msg.specs.declared.command.Command.{Command}
use Rattle.zvt_talk.specs.declared.phase.Phase.{Phase}
use Rattle.zvt_talk.specs.declared.phase.Phase.TheVariants.{Asked, Begun, Ended}
use Rattle.zvt_talk.specs.Talk.{TalkFacts}
use Rattle.zvt_talk.specs.TalkSteps.{phase_after_stop_wished}
use Rattle.jrn_record.specs.Limits.{IsIntent, IsOutcome}
use Rattle.jrn_record.specs.declared.records.How.TheVariants as hows
use Rattle.jrn_record.specs.declared.records.Settled.{Settled as TheSettled}
use Rattle.jrn_record.specs.declared.records.Deal.{Deal}
use Rattle.jrn_record.specs.declared.records.Deal.TheVariants as deals
use Rattle.jrn_record.specs.declared.records.Intent.{Intent as TheIntent}
use Rattle.jrn_record.specs.declared.records.Outcome.{Outcome as TheOutcome}
use Rattle.jrn_record.specs.declared.records.Record.TheVariants.{Intent, Settled}
use Rattle.gw_ledger.specs.declared.entry.Entry.{Entry as TheEntry}
use Rattle.gw_ledger.specs.Accounts.{is_settled, last_number_of}
use Rattle.gw_ledger.specs.Fold.{fits, found_of, open_entry}
use Rattle.gw_ledger.specs.History.{same_text}
use Rattle.gw_ledger.specs.Keys.{intent_key, is_key, settled_key}
use Rattle.gw_ledger.specs.Laws.{HasApproval, IsEntryWithin}
use Rattle.gw_ledger.specs.Slots.{is_reversible, is_reversed}
use Rattle.gw_ledger.specs.Sums.{open_count_of}
use Rattle.gw_ledger.specs.Transaction.{is_text, text_of}
use Rattle.xlate.specs.Ask.{HasItsOriginal, IsApproval, IsOriginalWithinLimits, ask}
use Rattle.gw_owes.specs.declared.terminal.Standing.TheVariants.{Ready}
use Rattle.gw_owes.specs.declared.terminal.Terminal.{Terminal}
use Rattle.gw_owes.specs.Awaited.{one_more_awaited}
use Rattle.gw_owes.specs.Content.{is_same_amount}
use Rattle.gw_owes.specs.Core.{Wait}
use Rattle.gw_owes.specs.Days.{day_served, has_key, is_day_key, is_key_of_day}
use Rattle.gw_owes.specs.Diagnosis.{NamedTerminal, named_from, named_terminal}
use Rattle.gw_owes.specs.Displays.{asked_to_show}
use Rattle.gw_owes.specs.Items.{RoundItem, Serve, Queue}
use Rattle.gw_owes.specs.KeptReplies.{found_for, own_key}
use Rattle.gw_owes.specs.Payments.{Asking, asked_for, beginning_row, payment_asking, payment_intent, reversal_asking, serve_row}
use Rattle.gw_owes.specs.ReadAs.{ReadAs, Request, Silent, NoMessage, NoJson}
use Rattle.gw_owes.specs.Reconciliations.{asked_for_day, day_command, reply_to_settled, settled_of}
use Rattle.gw_owes.specs.RecordLaws.{AreOfSetup, AreRecordsOf, AreResultsWithinLimits, HasNoneOpen, HasReadStatuses, IsInOrder, IsReadFromTill, IsReadItem, IsReadRequest, IsTalkRead, IsTerminalInOrder, poi_asked}
use Rattle.gw_owes.specs.Replies.{is_response_required, output_refused, refused_results}
use Rattle.gw_owes.specs.Requests.{abort_items, begun_by}
use Rattle.gw_owes.specs.Reversals.{amount_in, is_irreversible, is_whole_of, may_be_reversed, original_of, reversal_intent}
use Rattle.gw_owes.specs.Row.{Known, Row}
use Rattle.gw_owes.specs.Serving.{staying, stops}
use Rattle.gw_owes.specs.Steps.{StepResult, KeptReply, Fails, Begins, Waits, items_of_result}
use Rattle.gw_owes.specs.Stops.{serves_key, stop_items_at, wishing}
use Rattle.gw_owes.specs.Terminals.{reply_calls_to, terminal_at}
use Rattle.gw_owes.specs.TerminalLaws.{owes_cut}
use Rattle.gw_owes.specs.Waits.{slots_reserved, waiting_for, waiting_with}
use Rattle.gw_owes.proofs.DayLemmas.{days-no-more, days-one-more}
use Rattle.gw_owes.proofs.HeardLemmas.{of-both}
use Rattle.gw_owes.proofs.KeepingLemmas.{LeavesDay, RowKeeps, apart-pois, becomes-keeps, begins-with, command-read, in-order-keeps, no-calls, nothing-keeps, other-leaves-day, owing-keeps, record-keeps, replies-keep-nothing, setting-there}
use Rattle.gw_owes.proofs.LimitLemmas.{IsHeaderWithin, IsPaymentWithin, intent-within, own-key-is, payment-within, reconciliation-within, reversal-intent-within, reversal-within, settled-within}
use Rattle.gw_owes.proofs.PaymentLemmas.{BeginsAt, BeginsDayAt, PassesSteps, SettlesAt, ShowsAt, StopsAt, day_row, each-served, passes-steps, settled_row, shown_row}
use Rattle.gw_owes.proofs.ReadLimitLemmas.{all-refused-within, few-outputs, header-read}
use Rattle.gw_owes.proofs.RecordLemmas.{LedgerLaws, apart-keys-turned, entry-of-open, entry-parts, intent-number, intent-opens, intent-within as intent-inside, open_entry_of, same-text-is, settled-leaves}

-- ---- what is asked of a terminal that is ready

-- two slots are free beside those of what is still to come
abbrev pub HasRoomToBegin : Known → Type 0
HasRoomToBegin known = length known.kept + (open_count_of known.kept + (slots_reserved known.core + 2)) ≤ known.setup.slots

-- the Intent of what this terminal is asked for may come next
pub record IsAskedAnew (known : Known) (header : Header) (terminal : Terminal) (last : ℕ) (asking : Asking) : Type 0 where
  -- the request names the terminal, whose Intent it is, with its last trace number
  pub names : terminal.pt.poi ≡ header.poi
  pub poi_is : asking.intent.poi ≡ terminal.pt.poi
  pub before_is : asking.intent.before ≡ last
  -- its key is unknown
  pub unknown : found_of known.kept (intent_key asking.intent) ≡ None
  -- it lies within its limits, fits the records, and leaves room for its Outcome
  pub within : IsIntent asking.intent
  pub fitting : fits known.kept (Intent asking.intent) ≡ true
  pub room : HasRoomToBegin known
  -- a reversal has its original, within its limits
  pub its_original : HasItsOriginal asking.intent.what asking.intent.original asking.original
  pub original_within : IsOriginalWithinLimits asking.original

is-payment : (what : Deal) → is_reversible what ≡ true → what ≡ deals.Payment
is-payment deals.Payment is = refl
is-payment deals.Reversal is = absurd cc

-- the Outcome is there and approves
record IsApproved (result : Option TheOutcome) : Type 0 where
  has : HasApproval (amount_in result) result
  is : IsApproval result

whole-approved : (amount : Option ℕ) (result : Option TheOutcome) → is_whole_of amount result ≡ true → IsApproved result
whole-approved amount None whole = absurd cc
whole-approved amount (Some outcome) whole = let parts = and_parts outcome.approved (is_same_amount amount outcome.amount) whole in record { has = (parts.0, refl); is = parts.0 }

-- the key of a request is unknown
key-unknown : (known : Known) (header : Header) → IsHeaderWithin header → found_for known.kept header ≡ None → found_of known.kept (record { sale = header.sale; poi = header.poi; service = unwrap_or header.service [] }) ≡ None
key-unknown known header heading unknown =
    ap (λ (service : Option (List ℕ)). found_of known.kept (record { sale = header.sale; poi = header.poi; service = unwrap_or service [] })) heading.service_is
    ∙ sym (ap (λ (service : Option (List ℕ)). option_and_then (found_of known.kept) (option_map (λ (s : List ℕ). record { sale = header.sale; poi = header.poi; service = s }) service)) heading.service_is)
    ∙ unknown

-- what is known as a request begins that was read and passes the steps
module _ (laws : LedgerLaws) (known : Known) (order : IsInOrder known) (header : Header) (terminal : Terminal) (last : ℕ) (heading : IsHeaderWithin header) (names : terminal.pt.poi ≡ header.poi)
    (unknown : found_for known.kept header ≡ None) (room : HasRoomToBegin known) (has : HasNoneOpen known.kept header.poi last) where
  pub payment-anew : (payment : PaymentAsk) → IsPaymentWithin header payment → IsAskedAnew known header terminal last (payment_asking known header payment terminal last)
  payment-anew payment asks = record {
    names = names;
    poi_is = sym names;
    before_is = refl;
    unknown = key-unknown known header heading unknown;
    within = intent-within header payment terminal.pt.currency last known.moment asks has.within order.moment;
    fitting = laws.payment known.kept order.folded (payment_intent header payment terminal.pt.currency last known.moment) refl (key-unknown known header heading unknown) has.none_open has.not_below;
    room = room;
    its_original = tt;
    original_within = tt;
  }

  pub reversal-anew : (reversal : ReversalAsk) (original : TheEntry) → original_of known.kept header.poi reversal ≡ Some original → may_be_reversed known.kept reversal original ≡ true
      → IsAskedAnew known header terminal last (reversal_asking known header last original)
  reversal-anew reversal original named may =
      let entry = laws.named known.kept header.poi reversal.transaction original named in
      let at_poi = (and_parts (same_text header.poi original.intent.poi) (is_text reversal.transaction (text_of original)) entry.1).0 in
      let parts = and_parts (is_reversible original.intent.what && is_whole_of reversal.amount original.result) (not (is_reversed known.kept original.slot) && not (is_settled known.kept original.slot)) may in
      let paid = and_parts (is_reversible original.intent.what) (is_whole_of reversal.amount original.result) parts.0 in
      let still = and_parts (not (is_reversed known.kept original.slot)) (not (is_settled known.kept original.slot)) parts.1 in
      let approved = whole-approved reversal.amount original.result paid.1 in
      let within : IsEntryWithin original = (laws.within known.kept order.folded).0 original.slot original entry.0 in
      let inside : original.slot < length known.kept = intent-inside known.kept original.slot original.intent (entry-parts known.kept original.slot original entry.0).1 in
      let most : known.setup.slots ≤ 1000000 = order.of_setup.within.slots.1 in
      let small : original.slot < 2 ^ 32 = omega (arith, inside, room, most) in
      record {
        names = names;
        poi_is = sym names;
        before_is = refl;
        unknown = key-unknown known header heading unknown;
        within = reversal-intent-within header original last known.moment heading within approved.is small has.within order.moment;
        fitting = laws.reversal known.kept order.folded (reversal_intent header original last known.moment) original.slot original refl (key-unknown known header heading unknown) has.none_open has.not_below entry.0
            (record { what = is-payment original.intent.what paid.0; poi = sym (same-text-is header.poi original.intent.poi at_poi); currency = refl; approved = approved.has })
            (not-true (is_reversed known.kept original.slot) still.0) (not-true (is_settled known.kept original.slot) still.1);
        room = room;
        its_original = (refl, approved.is);
        original_within = λ outcome is. subst (λ (result : Option TheOutcome). IfSome result IsOutcome) is within.result;
      }

-- ---- a display

-- the results of a Display that was read, in which no output is shown, lie within their limits
pub refused-within : (body : Tree) (condition : Condition) (outputs : List Output) → HasBody categories.Display body → Asks body (requests.Display outputs) → IfSome (refused_results condition outputs) AreResultsWithinLimits
refused-within body condition outputs has asks =
    of-both (λ (results : Option (List Shown)). IfSome results AreResultsWithinLimits) (is_response_required outputs) (Some (map (output_refused condition) outputs)) None
    (omega (arith, length-map outputs (output_refused condition), few-outputs body outputs has.members asks), all-refused-within condition (parts_of categories.Display body) outputs has.parts asks) tt

-- ---- a stop that is wished

-- nothing is reported with it
wished-read : (phase : Phase) → HasReadStatuses phase → HasReadStatuses (phase_after_stop_wished phase)
wished-read (Asked stop_wished) read = tt
wished-read (Begun stop_sent statuses) read = read
wished-read (Ended stop_sent) read = tt

-- ---- the beginning

module _ (laws : LedgerLaws) (known : Known) (order : IsInOrder known) (number till : ℕ) (header : Header) where
  -- the terminal of a request that was read has the POIID that this is about
  pub asked-names : (request : SaleRequest) (terminal : Terminal) → IsReadRequest known.setup number header request → terminal_at known number ≡ Some terminal → terminal.pt.poi ≡ poi_asked header request
  asked-names request terminal read here =
      read.names terminal.pt (subst (λ (pts : List Pt). slice_get pts number ≡ Some terminal.pt) order.of_setup.settings (setting-there known.core.terminals number terminal here))

  -- what the records have of the terminal
  pub ready-records : (terminal : Terminal) (last : ℕ) → terminal_at known number ≡ Some terminal → terminal.standing ≡ Ready last → terminal.pt.poi ≡ header.poi → HasNoneOpen known.kept header.poi last
  ready-records terminal last here standing names =
      subst (λ (p : List ℕ). HasNoneOpen known.kept p last) names (subst (AreRecordsOf known.kept terminal.pt.poi) standing (order.terminals number terminal here).records)

  -- and room is left
  room-left : (request : SaleRequest) (named : Option NamedTerminal) → PassesSteps known header request named → HasRoomToBegin known
  room-left request named passes = ltb-false known.setup.slots (length known.kept + (open_count_of known.kept + (slots_reserved known.core + 2))) passes.room

  payment-begins-anew : (payment : PaymentAsk) (terminal : Terminal) (last : ℕ) (asking : Asking) → IsReadRequest known.setup number header (requests.Payment payment)
      → BeginsAt known number header (requests.Payment payment) terminal last asking → IsAskedAnew known header terminal last asking
  payment-begins-anew payment terminal last asking read at =
      let named : Option NamedTerminal = Some (record { number = number; terminal = terminal }) in
      let passes = passes-steps known header (requests.Payment payment) named at.begins_is in
      let names = asked-names (requests.Payment payment) terminal read at.found in
      let asks = payment-within header payment read.read in
      subst (IsAskedAnew known header terminal last) (same_Some (payment_asking known header payment terminal last) asking at.asking_is)
      (payment-anew laws known order header terminal last asks.heading names passes.unknown (room-left (requests.Payment payment) named passes) (ready-records terminal last at.found at.standing_is names) payment asks)

  reversal-begins-anew : (reversal : ReversalAsk) (terminal : Terminal) (last : ℕ) (asking : Asking) → IsReadRequest known.setup number header (requests.Reversal reversal)
      → BeginsAt known number header (requests.Reversal reversal) terminal last asking → IsAskedAnew known header terminal last asking
  reversal-begins-anew reversal terminal last asking read at = by-original (original_of known.kept header.poi reversal) refl at.asking_is passes.reversible
    where
      named : Option NamedTerminal
      named = Some (record { number = number; terminal = terminal })

      passes : PassesSteps known header (requests.Reversal reversal) named
      passes = passes-steps known header (requests.Reversal reversal) named at.begins_is

      names : terminal.pt.poi ≡ header.poi
      names = asked-names (requests.Reversal reversal) terminal read at.found

      by-original : (found : Option TheEntry) → original_of known.kept header.poi reversal ≡ found → option_map (reversal_asking known header last) found ≡ Some asking → is_irreversible known.kept reversal found ≡ false
          → IsAskedAnew known header terminal last asking
      by-original None is asks may = absurd cc
      by-original (Some original) is asks may =
          subst (IsAskedAnew known header terminal last) (same_Some (reversal_asking known header last original) asking asks)
          (reversal-anew laws known order header terminal last (reversal-within header reversal read.read) names passes.unknown (room-left (requests.Reversal reversal) named passes)
          (ready-records terminal last at.found at.standing_is names) reversal original is (not-false (may_be_reversed known.kept reversal original) may))

  -- what a request asks for that begins may come next
  pub begins-anew : (request : SaleRequest) (terminal : Terminal) (last : ℕ) (asking : Asking) → IsReadRequest known.setup number header request → BeginsAt known number header request terminal last asking
      → IsAskedAnew known header terminal last asking
  begins-anew requests.Login terminal last asking read at = let none = at.asking_is in absurd cc
  begins-anew requests.Logout terminal last asking read at = let none = at.asking_is in absurd cc
  begins-anew (requests.Payment payment) terminal last asking read at = payment-begins-anew payment terminal last asking read at
  begins-anew (requests.Reversal reversal) terminal last asking read at = reversal-begins-anew reversal terminal last asking read at
  begins-anew (requests.Abort reference) terminal last asking read at = let none = at.asking_is in absurd cc
  begins-anew (requests.Status reference) terminal last asking read at = let none = at.asking_is in absurd cc
  begins-anew (requests.Reconciliation period) terminal last asking read at = let none = at.asking_is in absurd cc
  begins-anew (requests.Display outputs) terminal last asking read at = let none = at.asking_is in absurd cc
  begins-anew (requests.Print qualifier) terminal last asking read at = let none = at.asking_is in absurd cc
  begins-anew requests.Diagnosis terminal last asking read at = let none = at.asking_is in absurd cc

  -- its Intent is kept
  pub begins-keeps : (terminal : Terminal) (last : ℕ) (asking : Asking) → terminal_at known number ≡ Some terminal → terminal.standing ≡ Ready last → IsAskedAnew known header terminal last asking
      → RowKeeps known number (beginning_row known number till terminal last asking.intent asking.original)
  begins-keeps terminal last asking here standing anew =
      let intent : TheIntent = asking.intent in
      let was : IsTerminalInOrder known.kept terminal = order.terminals number terminal here in
      let has : HasNoneOpen known.kept terminal.pt.poi last = subst (AreRecordsOf known.kept terminal.pt.poi) standing was.records in
      let not_below : last_number_of known.kept intent.poi ≤ last = subst (λ (p : List ℕ). last_number_of known.kept p ≤ last) (sym anew.poi_is) has.not_below in
      let after : last_number_of (known.kept ++ Intent intent ∷ []) intent.poi ≡ max (last_number_of known.kept intent.poi) intent.before = intent-number laws known.kept intent in
      let before : intent.before ≡ last = anew.before_is in
      let room = anew.room in
      let new : Terminal = asked_for known till terminal last intent asking.original in
      let days = days-no-more known.core.terminals number terminal new here (omega arith) in
      record-keeps known order number laws (Intent intent) anew.within anew.fitting terminal new _ (record { no_records = refl; no_cut = refl }) here (omega (arith, room, days)) (ap Some anew.poi_is)
      (record {
        records = record {
          intent = intent;
          is_open = subst (λ (p : List ℕ). open_entry (known.kept ++ Intent intent ∷ []) p ≡ Some (open_entry_of (length known.kept) intent)) anew.poi_is
              (entry-of-open (known.kept ++ Intent intent ∷ []) intent.poi (length known.kept) intent (intent-opens laws known.kept intent));
          before = anew.before_is;
          not_below = subst (λ (p : List ℕ). last_number_of (known.kept ++ Intent intent ∷ []) p ≤ last) anew.poi_is (omega (arith, not_below, after, before));
        };
        read = command-read terminal.pt (ask intent asking.original terminal.pt) known.moment;
      })

  -- ---- what is settled

  -- a reconciliation of the till's own is settled: whatever the terminal serves isn't finished with it
  settles-keeps : (terminal : Terminal) (request : SaleRequest) → IsReadRequest known.setup number header request → SettlesAt known number header request terminal → RowKeeps known number (settled_row known till header terminal)
  settles-keeps terminal request read at =
      owing-keeps known order number laws (Settled settled) (settled-within hows.Sale header terminal.pt.currency known.moment heading order.moment)
      (laws.settled known.kept order.folded settled (key-unknown known header heading passes.unknown)) (reply_calls_to (Some till) (reply_to_settled known.kept settled)) (replies-keep-nothing (Some till) (reply_to_settled known.kept settled))
      (let room = room-left request named passes in omega (arith, room)) (λ other left found. (settled-leaves laws known.kept settled left.pt.poi, leaves-day other left found))
    where
      settled : TheSettled
      settled = settled_of hows.Sale header terminal.pt.currency known.moment

      named : Option NamedTerminal
      named = Some (record { number = number; terminal = terminal })

      read-as : IsReadRequest known.setup number header (requests.Reconciliation SaleReconciliation)
      read-as = subst (IsReadRequest known.setup number header) at.request_is read

      heading : IsHeaderWithin header
      heading = reconciliation-within header SaleReconciliation read-as.read

      passes : PassesSteps known header request named
      passes = passes-steps known header request named at.begins_is

      -- the key of the Settled
      key_is : own_key header ≡ Some (settled_key settled)
      key_is = own-key-is header heading ∙ ap (λ (service : Option (List ℕ)). Some (record { sale = header.sale; poi = header.poi; service = unwrap_or service [] })) (sym heading.service_is)

      -- isn't that of an end of day that the terminal serves
      own-day : LeavesDay terminal.standing (Settled settled)
      own-day served key day its_key =
          let not_day : is_day_key header named ≡ false = (or_parts (is_day_key header named) (is_some (waiting_for known.core header)) passes.not_pending).0 in
          let no_day : has_key (settled_key settled) (day_served terminal.standing) ≡ false = sym (ap (λ (k : Option Key). is_key_of_day k named) key_is) ∙ not_day in
          apart-keys-turned (settled_key settled) key (sym (ap (is_key (settled_key settled)) its_key) ∙ sym (ap (has_key (settled_key settled)) day) ∙ no_day)

      -- nor that of another
      leaves-day : (other : ℕ) (left : Terminal) → terminal_at known other ≡ Some left → LeavesDay left.standing (Settled settled)
      leaves-day other left found = by-number (eqb other number) refl
        where
          by-number : (b : Bool) → eqb other number ≡ b → LeavesDay left.standing (Settled settled)
          by-number true same =
              subst (λ (t : Terminal). LeavesDay t.standing (Settled settled)) (same_Some terminal left (sym at.found ∙ ap (terminal_at known) (sym (eqb-true other number same)) ∙ found)) own-day
          by-number false apart =
              other-leaves-day known.kept (Settled settled) left.pt.poi left.standing
              (subst (λ (poi : List ℕ). same_text left.pt.poi poi ≡ false) (asked-names (requests.Reconciliation SaleReconciliation) terminal read-as at.found)
              (apart-pois known number other terminal left order.of_setup (eqb-false other number apart) at.found found)) (order.terminals other left found).records

  -- ---- ends of day and displays

  -- an end of day is begun that was read, whose key is unknown, so that its Settled may come next
  pub day-anew-keeps : (terminal : Terminal) (last : ℕ) → IsReadRequest known.setup number header (requests.Reconciliation AcquirerReconciliation) → terminal_at known number ≡ Some terminal → terminal.standing ≡ Ready last
      → found_for known.kept header ≡ None → HasRoomToBegin known → RowKeeps known number (day_row known number till header terminal last)
  day-anew-keeps terminal last read found standing unknown room =
      let message = read.read.1 in
      let is = message.read in
      let heading : IsHeaderWithin header = reconciliation-within header AcquirerReconciliation read.read in
      let names = asked-names (requests.Reconciliation AcquirerReconciliation) terminal read found in
      let days = days-one-more known.core.terminals number terminal (asked_for_day known till terminal last header) found (omega arith) in
      begins-with known order number (asked_for_day known till terminal last header) _ (record { no_records = refl; no_cut = refl }) (omega (arith, room, days)) (record {
        records = record {
          rests = subst (λ (poi : List ℕ). HasNoneOpen known.kept poi last) (sym names) (ready-records terminal last found standing names);
          heading = header-read envelopes.Request is.0 header is.1.request_of.header_is;
          names = sym names;
          period_is = refl;
          key = record { sale = header.sale; poi = header.poi; service = heading.service };
          key_is = own-key-is header heading;
          unknown = sym (ap (option_and_then (found_of known.kept)) (own-key-is header heading)) ∙ unknown;
        };
        read = command-read terminal.pt (day_command terminal.pt) known.moment;
      })

  -- so it is where the steps say so
  day-keeps : (terminal : Terminal) (last : ℕ) (request : SaleRequest) → IsReadRequest known.setup number header request → BeginsDayAt known number header request terminal last → RowKeeps known number (day_row known number till header terminal last)
  day-keeps terminal last request read at =
      let passes = passes-steps known header request (Some (record { number = number; terminal = terminal })) at.begins_is in
      day-anew-keeps terminal last (subst (IsReadRequest known.setup number header) at.request_is read) at.found at.standing_is passes.unknown (room-left request (Some (record { number = number; terminal = terminal })) passes)

  -- a display is begun
  display-keeps : (terminal : Terminal) (last : ℕ) (outputs : List Output) (command : Command) (request : SaleRequest) → IsReadRequest known.setup number header request → ShowsAt known number header request terminal last outputs command
      → RowKeeps known number (shown_row known number till header terminal last outputs command)
  display-keeps terminal last outputs command request read at =
      let read-as : IsReadRequest known.setup number header (requests.Display outputs) = subst (IsReadRequest known.setup number header) at.request_is read in
      let message = read-as.read.1 in
      let is = message.read in
      let names = asked-names (requests.Display outputs) terminal read-as at.found in
      becomes-keeps known order number terminal (asked_to_show known till terminal last header outputs command) _ at.found (record { no_records = refl; no_cut = refl }) (omega arith) (record {
        records = record {
          rests = subst (λ (poi : List ℕ). HasNoneOpen known.kept poi last) (sym names) (ready-records terminal last at.found at.standing_is names);
          heading = header-read envelopes.Request is.0 header is.1.request_of.header_is;
          results_within = refused-within is.0 UnavailableDevice outputs is.1.members is.1.asks;
        };
        read = command-read terminal.pt command known.moment;
      })

  -- ---- a stop

  -- the terminal is in order once a stop is wished
  stopped-in-order : (request : SaleRequest) (terminal : Terminal) (talk : TalkFacts) → StopsAt known number header request terminal talk → IsTerminalInOrder known.kept (wishing terminal talk)
  stopped-in-order request terminal talk at =
      let was = order.terminals number terminal at.found in
      record { records = was.records; read = wished-read talk.phase (subst IsTalkRead at.talk_is was.read) }

  sent-keeps : (request : SaleRequest) (terminal : Terminal) (talk : TalkFacts) → StopsAt known number header request terminal talk → RowKeeps known number (stops known number (wishing terminal talk))
  sent-keeps request terminal talk at =
      let stopped = stopped-in-order request terminal talk at in
      becomes-keeps known order number terminal (record (wishing terminal talk) { awaited = one_more_awaited terminal.awaited }) _ at.found (record { no_records = refl; no_cut = refl }) (omega arith) (record { records = stopped.records; read = stopped.read })

  wished-keeps : (request : SaleRequest) (terminal : Terminal) (talk : TalkFacts) → StopsAt known number header request terminal talk → RowKeeps known number (staying known number (wishing terminal talk))
  wished-keeps request terminal talk at = becomes-keeps known order number terminal (wishing terminal talk) [] at.found no-calls (omega arith) (stopped-in-order request terminal talk at)

  -- a request that begins, one that is settled, one that stops, and a Login or Logout
  pub serve-keeps : (request : SaleRequest) → IsReadRequest known.setup number header request → RowKeeps known number (serve_row known number till header request)
  serve-keeps request read =
      each-served (RowKeeps known number) known number till header request (record {
        none = nothing-keeps known order number;
        begins = λ terminal last asking at. begins-keeps terminal last asking at.found at.standing_is (begins-anew request terminal last asking read at);
        sent = λ terminal talk at may. sent-keeps request terminal talk at;
        wished = λ terminal talk at may. wished-keeps request terminal talk at;
        session = λ success. in-order-keeps known order number _ (record { no_records = refl; no_cut = refl }) order.room order.numbered order.terminals refl;
        settles = λ terminal at. settles-keeps terminal request read at;
        day = λ terminal last at. day-keeps terminal last request read at;
        displays = λ terminal last outputs command at. display-keeps terminal last outputs command request read at;
      })

-- and it cuts nothing
pub serve-never-cuts : (known : Known) (number till : ℕ) (header : Header) (request : SaleRequest) → owes_cut (serve_row known number till header request).calls ≡ false
serve-never-cuts known number till header request =
    each-served (λ (row : Row). owes_cut row.calls ≡ false) known number till header request (record {
      none = refl;
      begins = λ terminal last asking at. refl;
      sent = λ terminal talk at may. refl;
      wished = λ terminal talk at may. refl;
      session = λ success. refl;
      settles = λ terminal at. (replies-keep-nothing (Some till) (reply_to_settled known.kept (settled_of hows.Sale header terminal.pt.currency known.moment))).no_cut;
      day = λ terminal last at. refl;
      displays = λ terminal last outputs command at. refl;
    })

-- ---- what a till's message begins

-- the terminal that a POIID names has it
record IsNamed (poi : List ℕ) (from : ℕ) (terminals : List Terminal) (number : ℕ) : Type 0 where
  at : ℕ
  number_is : number ≡ from + at
  has : (pt : Pt) → slice_get (map (λ (t : Terminal). t.pt) terminals) at ≡ Some pt → pt.poi ≡ poi

named-has : (poi : List ℕ) (from : ℕ) (terminals : List Terminal) (named : NamedTerminal) → named_from from poi terminals ≡ Some named → IsNamed poi from terminals named.number
named-has poi from [] named is = absurd cc
named-has poi from (terminal ∷ terminals) named is = by-test (bytes_eq terminal.pt.poi poi) refl is (λ later. named-has poi (from + 1) terminals named later)
  where
    by-test : (b : Bool) → bytes_eq terminal.pt.poi poi ≡ b → (if b then Some (record { number = from; terminal = terminal }) else named_from (from + 1) poi terminals) ≡ Some named
        → (named_from (from + 1) poi terminals ≡ Some named → IsNamed poi (from + 1) terminals named.number) → IsNamed poi from (terminal ∷ terminals) named.number
    by-test true same here more =
        let is_it : record { number = from; terminal = terminal } ≡ named = same_Some (record { number = from; terminal = terminal }) named here in
        record {
          at = 0;
          number_is = sym (ap (λ (n : NamedTerminal). n.number) is_it) ∙ omega arith;
          has = λ pt found. ap (λ (p : Pt). p.poi) (sym (same_Some terminal.pt pt found)) ∙ (bytes_eq-Decides terminal.pt.poi poi).0 same;
        }
    by-test false apart later more =
        let rest = more later in
        let number_is = rest.number_is in
        record { at = suc rest.at; number_is = omega arith; has = rest.has }

module _ (known : Known) (of_setup : AreOfSetup known.core known.setup) (till : ℕ) (header : Header) where
  -- the settings of a terminal that is named have the POIID
  setting-names : (poi : List ℕ) (named : NamedTerminal) → named_terminal known.core poi ≡ Some named → (pt : Pt) → slice_get known.setup.terminals named.number ≡ Some pt → pt.poi ≡ poi
  setting-names poi named is pt there =
      let found : IsNamed poi 0 known.core.terminals named.number = named-has poi 0 known.core.terminals named is in
      let number_is = found.number_is in
      let at : named.number ≡ found.at = omega arith in
      found.has pt (subst (λ (pts : List Pt). slice_get pts found.at ≡ Some pt) (sym of_setup.settings) (subst (λ (n : ℕ). slice_get known.setup.terminals n ≡ Some pt) at there))

  -- the Serve item of a request that is about a terminal that is named was read
  serve-read : (request : SaleRequest) (named : NamedTerminal) → named_terminal known.core (poi_asked header request) ≡ Some named → IsReadFromTill (Request header request)
      → All (IsReadItem known.setup) (Serve named.number till header request ∷ [])
  serve-read request named is read = All-cons (IsReadItem known.setup) _ [] (record { read = read; names = setting-names (poi_asked header request) named is }) (All-nil (IsReadItem known.setup))

  -- so was the Queue item
  queue-read : (request : SaleRequest) (named : NamedTerminal) → named_terminal known.core (poi_asked header request) ≡ Some named → IsReadFromTill (Request header request)
      → All (IsReadItem known.setup) (Queue named.number till header request ∷ [])
  queue-read request named is read = All-cons (IsReadItem known.setup) _ [] (record { read = read; names = λ none. setting-names (poi_asked header request) named is }) (All-nil (IsReadItem known.setup))

  named-read : (request : SaleRequest) (named : Option NamedTerminal) (result : StepResult) → named_terminal known.core (poi_asked header request) ≡ named → IsReadFromTill (Request header request)
      → All (IsReadItem known.setup) (items_of_result till header request named result)
  named-read request None result is read = All-nil (IsReadItem known.setup)
  named-read request (Some named) KeptReply is read = All-nil (IsReadItem known.setup)
  named-read request (Some named) (Fails condition) is read = All-nil (IsReadItem known.setup)
  named-read request (Some named) Begins is read = serve-read request named is read
  named-read request (Some named) Waits is read = queue-read request named is read

  -- so was that of an Abort
  stop-read : (reference : Reference) (named : Option NamedTerminal) → named_terminal known.core (key_of header reference).poi ≡ named → IsReadFromTill (Request header (requests.Abort reference))
      → All (IsReadItem known.setup) (stop_items_at known till header reference named)
  stop-read reference None is read = All-nil (IsReadItem known.setup)
  stop-read reference (Some named) is read =
      of-both (λ (items : List RoundItem). All (IsReadItem known.setup) items) (serves_key known.kept (key_of header reference) named.terminal) (Serve named.number till header (requests.Abort reference) ∷ []) []
      (serve-read (requests.Abort reference) named is read) (All-nil (IsReadItem known.setup))

  -- of what waits, or of what is served
  abort-read : (reference : Reference) (waiting : Option Wait) → IsReadFromTill (Request header (requests.Abort reference)) → All (IsReadItem known.setup) (abort_items known till header reference waiting)
  abort-read reference None read = stop-read reference (named_terminal known.core (key_of header reference).poi) refl read
  abort-read reference (Some wait) read = All-cons (IsReadItem known.setup) _ [] (record { read = read; names = λ other. absurd (other reference refl) }) (All-nil (IsReadItem known.setup))

  request-read : (request : SaleRequest) → IsReadFromTill (Request header request) → All (IsReadItem known.setup) (begun_by known till (Request header request))
  request-read requests.Login read = named-read requests.Login (named_terminal known.core header.poi) _ refl read
  request-read requests.Logout read = named-read requests.Logout (named_terminal known.core header.poi) _ refl read
  request-read (requests.Payment payment) read = named-read (requests.Payment payment) (named_terminal known.core header.poi) _ refl read
  request-read (requests.Reversal reversal) read = named-read (requests.Reversal reversal) (named_terminal known.core header.poi) _ refl read
  request-read (requests.Abort reference) read = abort-read reference (waiting_with (key_of header reference) known.core.waits) read
  request-read (requests.Status reference) read = All-nil (IsReadItem known.setup)
  request-read (requests.Reconciliation period) read = named-read (requests.Reconciliation period) (named_terminal known.core header.poi) _ refl read
  request-read (requests.Display outputs) read = named-read (requests.Display outputs) (named_terminal known.core header.poi) _ refl read
  request-read (requests.Print qualifier) read = All-nil (IsReadItem known.setup)
  request-read requests.Diagnosis read = All-nil (IsReadItem known.setup)

-- what a message begins was read
pub begun-read : (known : Known) (till : ℕ) (as_read : ReadAs) → AreOfSetup known.core known.setup → IsReadFromTill as_read → All (IsReadItem known.setup) (begun_by known till as_read)
begun-read known till (Request header request) of_setup read = request-read known of_setup till header request read
begun-read known till Silent of_setup read = All-nil (IsReadItem known.setup)
begun-read known till (NoMessage fault) of_setup read = All-nil (IsReadItem known.setup)
begun-read known till (NoJson fault) of_setup read = All-nil (IsReadItem known.setup)
