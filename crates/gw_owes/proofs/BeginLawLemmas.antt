-- How payments and reversals begin: an Intent is kept, and then its terminal is asked, and by no other row.
use Rattle.std.proofs.Common.{◌≡◌, ◌⊎◌, ℕ, List, [], ◌∷◌, refl, sym, ◌∙◌, ap, subst, inl, inr, Bool, true, false}
use Rattle.std.specs.Prelude.{◌&&◌, ◌||◌, if◌then◌else◌, unwrap_or, option_map, slice_get, Option, Some, None, Result, Ok, Err, ◌++◌, length}
use Rattle.gw_base.specs.declared.condition.Condition.TheVariants.{NotAllowed, NotFound, UnavailableService}
use Rattle.gw_base.specs.declared.key.Key.{Key}
use Rattle.gw_site.specs.Outside.{Connection, is_connected}
use Rattle.sale_values.specs.declared.header.Header.{Header}
use Rattle.sale_values.specs.declared.request.Output.{Output}
use Rattle.sale_values.specs.declared.request.PaymentAsk.{PaymentAsk}
use Rattle.sale_values.specs.declared.request.SaleRequest.{SaleRequest}
use Rattle.sale_values.specs.declared.request.SaleRequest.TheVariants as requests
use Rattle.zvt_apdu.specs.Grammar.{ApduValue}
use Rattle.zvt_msg.specs.declared.fault.PtFault.{PtFault}
use Rattle.zvt_msg.specs.Message.{MessageValue, Ack, Nack, Intermediate, Line, Block, Status, Completion, Abort, Other}
use Rattle.zvt_msg.specs.MessageDecode.{decode_pt_message}
use Rattle.jrn_record.specs.declared.records.How.TheVariants as hows
use Rattle.jrn_record.specs.declared.records.Outcome.{Outcome as TheOutcome}
use Rattle.jrn_record.specs.declared.records.Settled.{Settled as TheSettled}
use Rattle.jrn_record.specs.declared.records.Record.{Record}
use Rattle.jrn_record.specs.declared.records.Record.TheVariants.{Intent, Outcome}
use Rattle.gw_ledger.specs.Sums.{is_intent}
use Rattle.gw_owes.specs.declared.terminal.Standing.{Standing}
use Rattle.gw_owes.specs.declared.terminal.Standing.TheVariants.{Ready}
use Rattle.gw_owes.specs.declared.terminal.Terminal.{Terminal}
use Rattle.gw_owes.specs.Calls.{OwedCall, LinkPt, CutTill, records_kept, Ask, SendPt, keep_calls}
use Rattle.gw_owes.specs.Core.{Wait}
use Rattle.gw_owes.specs.Deadlines.{is_late, is_due, late_row, due_row}
use Rattle.gw_owes.specs.Diagnosis.{NamedTerminal}
use Rattle.gw_owes.specs.Greeting.{greeting, sending_calls, greet_decoded}
use Rattle.gw_owes.specs.Handling.{handle_row}
use Rattle.gw_owes.specs.Items.{RoundItem, Crowded, Message, Asked, Unframed, Gone, Greet, Handle, Serve, Queue, NextWaiting, Oversized, LinkLost, Late, Overdue, Due}
use Rattle.gw_owes.specs.KeptReplies.{found_for}
use Rattle.gw_owes.specs.Links.{cutting}
use Rattle.gw_owes.specs.Payments.{payment_intent, asked_for, beginning_row, begins_in, serve_row, Asking, payment_asking, reversal_asking, asking_of, begins_asking, begins_request}
use Rattle.gw_owes.specs.ReadAs.{ReadAs}
use Rattle.gw_owes.specs.Reconciliations.{settle_calls, settled_of}
use Rattle.gw_owes.specs.Reply.{ReplyValue}
use Rattle.gw_owes.specs.Reports.{outcome_reported}
use Rattle.gw_owes.specs.Requests.{reply_to}
use Rattle.gw_owes.specs.Row.{Known, Row, owing, owing_nothing, owing_where}
use Rattle.gw_owes.specs.Rows.{row_of, asked_row}
use Rattle.gw_owes.specs.Steps.{StepResult, Begins, asks_transaction, is_beginning, is_ready_standing, is_used_up, refused_again, step_result}
use Rattle.gw_owes.specs.Terminals.{terminal_at, of_terminal, unlinks, reply_calls_to, reply_to_lost}
use Rattle.gw_owes.specs.WaitingRows.{begins_from_queue, first_waiting_row, looks_at_first, next_waiting_row, of_waiting, overdue_row, queue_row}
use Rattle.gw_owes.specs.Waits.{first_waiting, is_pending_key, queue_of}
use Rattle.gw_owes.specs.PaymentLaws.{asks_for_transaction, is_transaction_command, BeginsPayment, BeginsToServe, EachBegunIsServed, EachNextIsReversed, EachNextIsServed, IsFirstInQueue, EachIntentIsAsked, outcome_calls, SendsTillOf, SaysWhatIsAsked, SaysWhatIsReversed, IsReversible, BeginsReversal, BeginsTransaction, BeginsToReverse, EachBegunIsReversed, EachTransactionIsKeptFirst}
use Rattle.gw_owes.proofs.HandlingLemmas.{by-where, each-terminal, each-linked}
use Rattle.gw_owes.proofs.NextLemmas.{BeginsWaiting, each-next, each-overdue, each-queued, known_without}
use Rattle.gw_owes.proofs.PaymentLemmas.{each-served, passes-steps, BeginsAt}
use Rattle.gw_owes.proofs.SetLemmas.{new-is-there, same-some}
use Rattle.sale_values.specs.declared.request.ReversalAsk.{ReversalAsk}
use Rattle.zvt_msg.specs.declared.command.Command.{Command}
use Rattle.zvt_msg.specs.declared.command.Command.TheVariants as commands
use Rattle.gw_ledger.specs.declared.entry.Entry.{Entry as TheEntry}
use Rattle.xlate.specs.Ask.{ask, receipt_in}
use Rattle.xlate.specs.Display.{customer_output, display_lines, show, show_lines}
use Rattle.gw_owes.specs.Reversals.{original_of, amount_in, names_irreversible, names_none, reversal_intent}
use Rattle.gw_owes.proofs.PaymentLawLemmas.{IsPlainOrEnds, reply-asks, reply-keeps, handle-resolves, apart, none-more}
use Rattle.gw_owes.proofs.ReversalLemmas.{HasOriginal, names-original}

-- ---- the rows that begin a payment

-- no payment is begun: no terminal is asked for one, and no Intent is kept
record BeginsNone (row : Row) : Type 0 where
  pub asks : asks_for_transaction row.calls ≡ false
  pub keeps : (the_record : Record) (more : List Record) → records_kept row.calls ≡ the_record ∷ more → is_intent the_record ≡ true → ⊥

none-kept : (row : Row) → asks_for_transaction row.calls ≡ false → records_kept row.calls ≡ [] → BeginsNone row
none-kept row asks none = record { asks = asks; keeps = λ the_record more kept intent. none-more the_record more (sym none ∙ kept) }

nothing-begins : (known : Known) → BeginsNone (owing_nothing known)
nothing-begins known = none-kept (owing_nothing known) refl refl

reply-begins : (known : Known) (asker : Option ℕ) (reply : Option ReplyValue) (row : Row) → row.calls ≡ reply_calls_to asker reply → BeginsNone row
reply-begins known asker reply row is = none-kept row (ap asks_for_transaction is ∙ reply-asks asker reply) (ap records_kept is ∙ reply-keeps asker reply)

greet-begins : (known : Known) (number : ℕ) (decoded : Result MessageValue PtFault) → BeginsNone (greet_decoded known number decoded)
greet-begins known number (Ok message) =
    each-linked BeginsNone known number (λ terminal. owing known (sending_calls number (greeting message))) (nothing-begins known) (λ terminal found linked. by-message message)
  where
    by-message : (message : MessageValue) → BeginsNone (owing known (sending_calls number (greeting message)))
    by-message Ack = none-kept _ refl refl
    by-message (Nack error_code) = none-kept _ refl refl
    by-message (Intermediate intermediate_status) = none-kept _ refl refl
    by-message (Line text) = none-kept _ refl refl
    by-message (Block objects) = none-kept _ refl refl
    by-message (Status fields) = none-kept _ refl refl
    by-message Completion = none-kept _ refl refl
    by-message (Abort result_code) = none-kept _ refl refl
    by-message Other = none-kept _ refl refl
greet-begins known number (Err fault) = each-linked BeginsNone known number (λ terminal. cutting known number) (nothing-begins known) (λ terminal found linked. none-kept _ refl refl)

not-intent : (outcome : TheOutcome) (the_record : Record) (more others : List Record) → Outcome outcome ∷ others ≡ the_record ∷ more → is_intent the_record ≡ true → ⊥
not-intent outcome (Intent intent) more others kept is = cc
not-intent outcome (Outcome other) more others kept is = cc
not-intent outcome (Record.Settled settled) more others kept is = cc

settled-no-intent : (settled : TheSettled) (the_record : Record) (more others : List Record) → Record.Settled settled ∷ others ≡ the_record ∷ more → is_intent the_record ≡ true → ⊥
settled-no-intent settled (Intent intent) more others kept is = cc
settled-no-intent settled (Outcome other) more others kept is = cc
settled-no-intent settled (Record.Settled other) more others kept is = cc

-- an Outcome is kept, and then its reply is sent
outcome-begins : (known : Known) (row : Row) (terminal : Terminal) (outcome : TheOutcome) → row.calls ≡ outcome_calls known terminal outcome → BeginsNone row
outcome-begins known row terminal outcome is = record {
  asks = ap asks_for_transaction is ∙ reply-asks terminal.asker _;
  keeps = λ the_record more kept intent. not-intent outcome the_record more _ (sym (ap records_kept is) ∙ kept) intent;
}

-- so a Settled is
settled-begins : (known : Known) (row : Row) (asker : Option ℕ) (settled : TheSettled) → row.calls ≡ settle_calls known.kept asker settled → BeginsNone row
settled-begins known row asker settled is = record {
  asks = ap asks_for_transaction is ∙ reply-asks asker _;
  keeps = λ the_record more kept intent. settled-no-intent settled the_record more _ (sym (ap records_kept is) ∙ kept) intent;
}

sends-begins : (known : Known) (number : ℕ) (apdu : ApduValue) (row : Row) → SendsTillOf known number apdu row.calls → BeginsNone row
sends-begins known number apdu row (inl (inl (inl ends))) = outcome-begins known row ends.terminal ends.outcome ends.calls_are
sends-begins known number apdu row (inl (inl (inr reports))) = outcome-begins known row reports.terminal (outcome_reported reports.entry reports.report known.moment) reports.calls_are
sends-begins known number apdu row (inl (inr day)) = settled-begins known row day.terminal.asker (settled_of hows.Acquirer day.header day.terminal.pt.currency known.moment) day.calls_are
sends-begins known number apdu row (inr (inl replies)) = reply-begins known (Some replies.till) (Some replies.reply) row replies.calls_are
sends-begins known number apdu row (inr (inr device)) = reply-begins known (Some device.till) (Some device.request) row device.calls_are

handle-begins : (known : Known) (number : ℕ) (apdu : ApduValue) → BeginsNone (handle_row known number apdu)
handle-begins known number apdu = by-either (handle-resolves known number apdu)
  where
    by-either : IsPlainOrEnds known number apdu (handle_row known number apdu) → BeginsNone (handle_row known number apdu)
    by-either (inl plain) = none-kept _ plain.asks plain.keeps
    by-either (inr (sends, items)) = sends-begins known number apdu _ sends

-- the key of a request is that of its Intent
key-is : (sale poi : List ℕ) (service : Option (List ℕ)) (key : Key) → option_map (λ (s : List ℕ). record { sale = sale; poi = poi; service = s }) service ≡ Some key → record { sale = sale; poi = poi; service = unwrap_or service [] } ≡ key
key-is sale poi None key is = absurd cc
key-is sale poi (Some service) key is = same-some _ key is

-- ---- what a request asks for

-- a reversal asks for what its original has
reversal-asks : (known : Known) (header : Header) (reversal : ReversalAsk) (last : ℕ) (original : TheEntry) (asking : Asking) → original_of known.kept header.poi reversal ≡ Some original
    → option_map (reversal_asking known header last) (original_of known.kept header.poi reversal) ≡ Some asking → reversal_asking known header last original ≡ asking
reversal-asks known header reversal last original asking named asks =
    same-some (reversal_asking known header last original) asking (sym (ap (option_map (reversal_asking known header last)) named) ∙ asks)

-- the steps of a reversal that begins: its key is unknown, and its text names an entry that may be reversed
record ReversalPasses (known : Known) (header : Header) (reversal : ReversalAsk) (named : Option NamedTerminal) : Type 0 where
  pub unknown : found_for known.kept header ≡ None
  pub not_pending : is_pending_key known.core header named ≡ false
  pub names : HasOriginal known.kept header.poi reversal

reversal-passes : (known : Known) (header : Header) (reversal : ReversalAsk) (named : Option NamedTerminal) → is_beginning (step_result known header (requests.Reversal reversal) named) ≡ true → ReversalPasses known header reversal named
reversal-passes known header reversal named begins_is =
    let passed = passes-steps known header (requests.Reversal reversal) named begins_is in
    record { unknown = passed.unknown; not_pending = passed.not_pending; names = names-original known.kept header.poi reversal passed.original passed.reversible }

payment-says : (known : Known) (header : Header) (payment : PaymentAsk) (terminal : Terminal) (last : ℕ)
    → SaysWhatIsAsked known.moment header payment terminal last (payment_intent header payment terminal.pt.currency last known.moment)
payment-says known header payment terminal last =
    record { what = refl; amount = refl; currency = refl; key = λ key own. key-is header.sale header.poi header.service key own; transaction = refl; stamp = refl; before = refl; original = refl; moment_is = refl }

reversal-says : (known : Known) (header : Header) (reversal : ReversalAsk) (original : TheEntry) (approval : TheOutcome) (last : ℕ) → IsReversible known.kept reversal original approval
    → SaysWhatIsReversed known.moment header original approval last (reversal_intent header original last known.moment)
reversal-says known header reversal original approval last reversible = record {
  what = refl;
  original_is = refl;
  amount = ap amount_in reversible.result;
  currency = refl;
  key = λ key own. key-is header.sale header.poi header.service key own;
  transaction = refl;
  stamp = refl;
  before = refl;
  moment_is = refl;
}

-- ---- the row of what begins

-- the calls of what begins
abbrev calls-of : Known → ℕ → Terminal → Asking → List OwedCall
calls-of known number terminal asking = keep_calls (length known.kept) (Intent asking.intent) ++ SendPt number (Ask (ask asking.intent asking.original terminal.pt)) ∷ []

payment-begins : (known : Known) (number till : ℕ) (header : Header) (payment : PaymentAsk) (terminal : Terminal) (last : ℕ) (asking : Asking) → BeginsAt known number header (requests.Payment payment) terminal last asking
    → BeginsPayment known (Serve number till header (requests.Payment payment)) (calls-of known number terminal asking)
payment-begins known number till header payment terminal last asking at =
    let passed = passes-steps known header (requests.Payment payment) (Some (record { number = number; terminal = terminal })) at.begins_is in
    record {
      number = number;
      till = till;
      header = header;
      payment = payment;
      terminal = terminal;
      comes = inl (record { item_is = refl; unknown = passed.unknown; not_pending = passed.not_pending; currency = passed.currency });
      found = at.found;
      last = last;
      ready = at.standing_is;
      intent = payment_intent header payment terminal.pt.currency last known.moment;
      says = payment-says known header payment terminal last;
      calls_are = ap (calls-of known number terminal) (sym (same-some (payment_asking known header payment terminal last) asking at.asking_is));
    }

-- the calls of a reversal ask by the receipt number of its original's approval
reversal-calls : (known : Known) (number : ℕ) (header : Header) (original : TheEntry) (approval : TheOutcome) (terminal : Terminal) (last : ℕ) → original.result ≡ Some approval
    → calls-of known number terminal (reversal_asking known header last original)
    ≡ keep_calls (length known.kept) (Intent (reversal_intent header original last known.moment)) ++ SendPt number (Ask (commands.Reverse terminal.pt.password approval.receipt)) ∷ []
reversal-calls known number header original approval terminal last result =
    ap (λ (found : Option TheOutcome). keep_calls (length known.kept) (Intent (reversal_intent header original last known.moment)) ++ SendPt number (Ask (commands.Reverse terminal.pt.password (receipt_in found))) ∷ []) result

reversal-begins : (known : Known) (number till : ℕ) (header : Header) (reversal : ReversalAsk) (terminal : Terminal) (last : ℕ) (asking : Asking) → BeginsAt known number header (requests.Reversal reversal) terminal last asking
    → BeginsReversal known (Serve number till header (requests.Reversal reversal)) (calls-of known number terminal asking)
reversal-begins known number till header reversal terminal last asking at =
    let passed = reversal-passes known header reversal (Some (record { number = number; terminal = terminal })) at.begins_is in
    record {
      number = number;
      till = till;
      header = header;
      reversal = reversal;
      terminal = terminal;
      comes = inl (record { item_is = refl; unknown = passed.unknown; not_pending = passed.not_pending; currency = refl });
      found = at.found;
      last = last;
      ready = at.standing_is;
      original = passed.names.original;
      named = passed.names.named;
      approval = passed.names.approval;
      reversible = passed.names.reversible;
      intent = reversal_intent header passed.names.original last known.moment;
      says = reversal-says known header reversal passed.names.original passed.names.approval last passed.names.reversible;
      calls_are =
          ap (calls-of known number terminal) (sym (reversal-asks known header reversal last passed.names.original asking passed.names.named at.asking_is))
          ∙ reversal-calls known number header passed.names.original passed.names.approval terminal last passed.names.reversible.result;
    }

no-asking : (asking : Asking) → None ≡ Some asking → ⊥
no-asking asking e = cc

-- by the request: no other asks for anything
transaction-begins : (known : Known) (number till : ℕ) (header : Header) (request : SaleRequest) (terminal : Terminal) (last : ℕ) (asking : Asking) → BeginsAt known number header request terminal last asking
    → BeginsTransaction known (Serve number till header request) (calls-of known number terminal asking)
transaction-begins known number till header requests.Login terminal last asking at = absurd (no-asking asking at.asking_is)
transaction-begins known number till header requests.Logout terminal last asking at = absurd (no-asking asking at.asking_is)
transaction-begins known number till header (requests.Payment payment) terminal last asking at = inl (payment-begins known number till header payment terminal last asking at)
transaction-begins known number till header (requests.Reversal reversal) terminal last asking at = inr (reversal-begins known number till header reversal terminal last asking at)
transaction-begins known number till header (requests.Abort reference) terminal last asking at = absurd (no-asking asking at.asking_is)
transaction-begins known number till header (requests.Status reference) terminal last asking at = absurd (no-asking asking at.asking_is)
transaction-begins known number till header (requests.Reconciliation period) terminal last asking at = absurd (no-asking asking at.asking_is)
transaction-begins known number till header (requests.Display outputs) terminal last asking at = absurd (no-asking asking at.asking_is)
transaction-begins known number till header (requests.Print qualifier) terminal last asking at = absurd (no-asking asking at.asking_is)
transaction-begins known number till header requests.Diagnosis terminal last asking at = absurd (no-asking asking at.asking_is)

-- what shows outputs asks for no payment and no reversal
shown-asks : (outputs : List Output) (command : Command) → show outputs ≡ Some command → (is_transaction_command command || false) ≡ false
shown-asks outputs command is = by-output (customer_output outputs) is
  where
    by-output : (output : Option Output) → option_map (λ (o : Output). show_lines (display_lines o.texts)) output ≡ Some command → (is_transaction_command command || false) ≡ false
    by-output None none = absurd cc
    by-output (Some output) some = ap (λ (c : Command). is_transaction_command c || false) (sym (same-some _ command some))

-- what a terminal begins to serve or to stop: only a request that asks for something begins
served-begins : (known : Known) (number till : ℕ) (header : Header) (request : SaleRequest)
    → BeginsNone (serve_row known number till header request) ⊎ BeginsTransaction known (Serve number till header request) (serve_row known number till header request).calls
served-begins known number till header request =
    each-served (λ (row : Row). BeginsNone row ⊎ BeginsTransaction known (Serve number till header request) row.calls) known number till header request (record {
      none = inl (nothing-begins known);
      begins = λ terminal last asking at. inr (transaction-begins known number till header request terminal last asking at);
      sent = λ terminal talk at may. inl (none-kept _ refl refl);
      wished = λ terminal talk at may. inl (none-kept _ refl refl);
      session = λ success. inl (none-kept _ refl refl);
      settles = λ terminal at. inl (settled-begins known _ (Some till) (settled_of hows.Sale header terminal.pt.currency known.moment) refl);
      day = λ terminal last at. inl (none-kept _ refl refl);
      displays = λ terminal last outputs command at. inl (none-kept _ (shown-asks outputs command at.shown_is) refl);
    })

-- ---- what has waited

-- the steps that are asked again, where none refuses what has waited
record PassesAgain (known : Known) (header : Header) (request : SaleRequest) (named : Option NamedTerminal) : Type 0 where
  pub original : names_none known.kept header.poi request ≡ false
  pub reversible : names_irreversible known.kept header.poi request ≡ false

passes-again : (known : Known) (header : Header) (request : SaleRequest) (named : Option NamedTerminal) → refused_again known header request named ≡ None → PassesAgain known header request named
passes-again known header request named passes =
    let p = by-tests (names_none known.kept header.poi request) (names_irreversible known.kept header.poi request) (asks_transaction request && is_used_up known.kept header.poi named) passes in
    record { original = p.0; reversible = p.1 }
  where
    by-tests : (none irreversible used_up : Bool) → (if none then Some NotFound else (if irreversible then Some NotAllowed else (if used_up then Some UnavailableService else None))) ≡ None → (none ≡ false) × (irreversible ≡ false)
    by-tests true irreversible used_up e = absurd cc
    by-tests false true used_up e = absurd cc
    by-tests false false used_up e = (refl, refl)

-- a request that has waited is this one
queued-of : (known : Known) (number : ℕ) (terminal : Terminal) (last : ℕ) (wait : Wait) (asking : Asking) → BeginsWaiting known number terminal last wait asking → (request : SaleRequest) → wait.request ≡ request
    → IsFirstInQueue known (NextWaiting number) number wait.till wait.header request terminal
queued-of known number terminal last wait asking at request is = record {
  item_is = refl;
  wait = wait;
  first = at.first.first_is;
  till_is = refl;
  header_is = refl;
  request_is = is;
  passes = subst (λ (r : SaleRequest). refused_again known wait.header r (Some (record { number = number; terminal = terminal })) ≡ None) is at.passes;
}

queued-payment : (known : Known) (number : ℕ) (terminal : Terminal) (last : ℕ) (wait : Wait) (asking : Asking) (payment : PaymentAsk) → BeginsWaiting known number terminal last wait asking → wait.request ≡ requests.Payment payment
    → BeginsPayment known (NextWaiting number) (calls-of known number terminal asking)
queued-payment known number terminal last wait asking payment at is = record {
  number = number;
  till = wait.till;
  header = wait.header;
  payment = payment;
  terminal = terminal;
  comes = inr (queued-of known number terminal last wait asking at (requests.Payment payment) is);
  found = at.first.found;
  last = last;
  ready = at.first.standing_is;
  intent = payment_intent wait.header payment terminal.pt.currency last known.moment;
  says = payment-says known wait.header payment terminal last;
  calls_are =
      ap (calls-of known number terminal)
      (sym (same-some (payment_asking known wait.header payment terminal last) asking (sym (ap (λ (r : SaleRequest). asking_of (known_without known wait) wait.header r terminal last) is) ∙ at.asking_is)));
}

-- the original of a reversal that has waited
queued-original : (known : Known) (number : ℕ) (terminal : Terminal) (wait : Wait) (reversal : ReversalAsk) → refused_again known wait.header wait.request (Some (record { number = number; terminal = terminal })) ≡ None
    → wait.request ≡ requests.Reversal reversal → HasOriginal known.kept wait.header.poi reversal
queued-original known number terminal wait reversal passes is =
    let passed = passes-again known wait.header (requests.Reversal reversal) (Some (record { number = number; terminal = terminal }))
    (subst (λ (r : SaleRequest). refused_again known wait.header r (Some (record { number = number; terminal = terminal })) ≡ None) is passes) in
    names-original known.kept wait.header.poi reversal passed.original passed.reversible

queued-reversal : (known : Known) (number : ℕ) (terminal : Terminal) (last : ℕ) (wait : Wait) (asking : Asking) (reversal : ReversalAsk) → BeginsWaiting known number terminal last wait asking → wait.request ≡ requests.Reversal reversal
    → BeginsReversal known (NextWaiting number) (calls-of known number terminal asking)
queued-reversal known number terminal last wait asking reversal at is =
    let names = queued-original known number terminal wait reversal at.passes is in
    record {
      number = number;
      till = wait.till;
      header = wait.header;
      reversal = reversal;
      terminal = terminal;
      comes = inr (queued-of known number terminal last wait asking at (requests.Reversal reversal) is);
      found = at.first.found;
      last = last;
      ready = at.first.standing_is;
      original = names.original;
      named = names.named;
      approval = names.approval;
      reversible = names.reversible;
      intent = reversal_intent wait.header names.original last known.moment;
      says = reversal-says known wait.header reversal names.original names.approval last names.reversible;
      calls_are =
          ap (calls-of known number terminal)
          (sym (reversal-asks known wait.header reversal last names.original asking names.named (sym (ap (λ (r : SaleRequest). asking_of (known_without known wait) wait.header r terminal last) is) ∙ at.asking_is)))
          ∙ reversal-calls known number wait.header names.original names.approval terminal last names.reversible.result;
    }

-- by the request: no other asks for anything
queued-begins : (known : Known) (number : ℕ) (terminal : Terminal) (last : ℕ) (wait : Wait) (asking : Asking) → BeginsWaiting known number terminal last wait asking
    → BeginsTransaction known (NextWaiting number) (calls-of known number terminal asking)
queued-begins known number terminal last wait asking at = by-request wait.request refl
  where
    none : (request : SaleRequest) → wait.request ≡ request → asking_of (known_without known wait) wait.header request terminal last ≡ None → BeginsTransaction known (NextWaiting number) (calls-of known number terminal asking)
    none request is nothing =
        absurd (no-asking asking (sym nothing ∙ (sym (ap (λ (r : SaleRequest). asking_of (known_without known wait) wait.header r terminal last) is) ∙ at.asking_is)))

    by-request : (request : SaleRequest) → wait.request ≡ request → BeginsTransaction known (NextWaiting number) (calls-of known number terminal asking)
    by-request requests.Login is = none requests.Login is refl
    by-request requests.Logout is = none requests.Logout is refl
    by-request (requests.Payment payment) is = inl (queued-payment known number terminal last wait asking payment at is)
    by-request (requests.Reversal reversal) is = inr (queued-reversal known number terminal last wait asking reversal at is)
    by-request (requests.Abort reference) is = none (requests.Abort reference) is refl
    by-request (requests.Status reference) is = none (requests.Status reference) is refl
    by-request (requests.Reconciliation period) is = none (requests.Reconciliation period) is refl
    by-request (requests.Display outputs) is = none (requests.Display outputs) is refl
    by-request (requests.Print qualifier) is = none (requests.Print qualifier) is refl
    by-request requests.Diagnosis is = none requests.Diagnosis is refl

next-begins : (known : Known) (number : ℕ) → BeginsNone (next_waiting_row known number) ⊎ BeginsTransaction known (NextWaiting number) (next_waiting_row known number).calls
next-begins known number = each-next (λ (row : Row). BeginsNone row ⊎ BeginsTransaction known (NextWaiting number) row.calls) known number (record {
  none = inl (nothing-begins known);
  refused = λ terminal last wait condition first refused. inl (none-kept _ refl refl);
  begins = λ terminal last wait asking at. inr (queued-begins known number terminal last wait asking at);
  day = λ terminal last wait at. inl (none-kept _ refl refl);
  left = λ terminal last wait first. inl (none-kept _ refl refl);
})

queue-begins : (known : Known) (number till : ℕ) (header : Header) (request : SaleRequest) → BeginsNone (queue_row known number till header request)
queue-begins known number till header request = each-queued BeginsNone known number till header request (record {
  none = nothing-begins known;
  joins = λ terminal key at. none-kept _ refl refl;
  taken = λ wait at. none-kept _ refl refl;
})

overdue-begins : (known : Known) (key : Key) → BeginsNone (overdue_row known key)
overdue-begins known key = each-overdue BeginsNone known key (record { none = nothing-begins known; taken = λ wait waits overdue. none-kept _ refl refl })

-- ---- a terminal that is ready serves what is asked

-- the row of a terminal that begins what a request asks for
begun-row : (known : Known) (number till : ℕ) (header : Header) (request : SaleRequest) (terminal : Terminal) (last : ℕ) (asking : Asking) → terminal_at known number ≡ Some terminal → terminal.standing ≡ Ready last
    → step_result known header request (Some (record { number = number; terminal = terminal })) ≡ Begins → asking_of known header request terminal last ≡ Some asking
    → of_terminal known (begins_request known number till header request) (terminal_at known number) ≡ beginning_row known number till terminal last asking.intent asking.original
begun-row known number till header request terminal last asking found ready accepted asks =
    ap (of_terminal known (begins_request known number till header request)) found
    ∙ ap (λ (result : StepResult). owing_where (is_beginning result) known (begins_in known number till header request terminal terminal.standing)) accepted
    ∙ ap (begins_in known number till header request terminal) ready
    ∙ ap (begins_asking known number till terminal last) asks

-- the terminal then serves it
there-it-serves : (known : Known) (number till : ℕ) (terminal : Terminal) (last : ℕ) (asking : Asking) → terminal_at known number ≡ Some terminal
    → slice_get (beginning_row known number till terminal last asking.intent asking.original).core.terminals number ≡ Some (asked_for known till terminal last asking.intent asking.original)
there-it-serves known number till terminal last asking found = new-is-there known.core.terminals number terminal (asked_for known till terminal last asking.intent asking.original) found

pub each-begun-served : EachBegunIsServed
each-begun-served tills known till header payment number terminal last found ready accepted =
    let asking : Asking = payment_asking known header payment terminal last in
    let there = there-it-serves known number till terminal last asking found in
    subst (BeginsToServe known till header payment number terminal last) (sym (begun-row known number till header (requests.Payment payment) terminal last asking found ready accepted refl))
    (record {
      intent = payment_intent header payment terminal.pt.currency last known.moment;
      says = payment-says known header payment terminal last;
      goes_on = record { terminal = asked_for known till terminal last asking.intent asking.original; found = there; standing_is = refl; calls_are = refl };
      for_till = ap (option_map (λ (serving : Terminal). serving.asker)) there;
      none_more = refl;
    })

pub each-begun-reversed : EachBegunIsReversed
each-begun-reversed tills known till header reversal number terminal last found ready accepted =
    let passed = reversal-passes known header reversal (Some (record { number = number; terminal = terminal })) (ap is_beginning accepted) in
    let asking : Asking = reversal_asking known header last passed.names.original in
    let there = there-it-serves known number till terminal last asking found in
    subst (BeginsToReverse known till header reversal number terminal last)
    (sym (begun-row known number till header (requests.Reversal reversal) terminal last asking found ready accepted (ap (option_map (reversal_asking known header last)) passed.names.named)))
    (record {
      original = passed.names.original;
      named = passed.names.named;
      approval = passed.names.approval;
      reversible = passed.names.reversible;
      intent = asking.intent;
      says = reversal-says known header reversal passed.names.original passed.names.approval last passed.names.reversible;
      goes_on = record {
        terminal = asked_for known till terminal last asking.intent asking.original;
        found = there;
        standing_is = refl;
        calls_are = reversal-calls known number header passed.names.original passed.names.approval terminal last passed.names.reversible.result;
      };
      for_till = ap (option_map (λ (serving : Terminal). serving.asker)) there;
      none_more = refl;
    })

-- ---- so it serves what has waited

-- the row of a terminal that is ready, by what is first in its queue
row-from-queue : (known : Known) (number : ℕ) (terminal : Terminal) (last : ℕ) (wait : Wait) → terminal_at known number ≡ Some terminal → terminal.standing ≡ Ready last → first_waiting (queue_of number known.core.waits) ≡ Some wait
    → refused_again known wait.header wait.request (Some (record { number = number; terminal = terminal })) ≡ None
    → next_waiting_row known number ≡ begins_from_queue (known_without known wait) number wait.till wait.header wait.request terminal
row-from-queue known number terminal last wait found ready first passes =
    ap (of_terminal known (λ (t : Terminal). owing_where (is_ready_standing t.standing) known (of_waiting known (looks_at_first known number t) (first_waiting (queue_of number known.core.waits))))) found
    ∙ (ap (λ (standing : Standing). owing_where (is_ready_standing standing) known (of_waiting known (looks_at_first known number terminal) (first_waiting (queue_of number known.core.waits)))) ready
    ∙ (ap (of_waiting known (looks_at_first known number terminal)) first ∙ ap (first_waiting_row known number terminal wait) passes))

-- where it asks for this
queued-beginning : (known : Known) (number : ℕ) (terminal : Terminal) (last : ℕ) (wait : Wait) (asking : Asking) → terminal.standing ≡ Ready last → asking_of known wait.header wait.request terminal last ≡ Some asking
    → asks_transaction wait.request ≡ true
    → begins_from_queue (known_without known wait) number wait.till wait.header wait.request terminal ≡ beginning_row (known_without known wait) number wait.till terminal last asking.intent asking.original
queued-beginning known number terminal last wait asking ready asks transaction = by-request wait.request transaction asks
  where
    begun : (request : SaleRequest) → asking_of known wait.header request terminal last ≡ Some asking
        → begins_in (known_without known wait) number wait.till wait.header request terminal terminal.standing ≡ beginning_row (known_without known wait) number wait.till terminal last asking.intent asking.original
    begun request asked = ap (begins_in (known_without known wait) number wait.till wait.header request terminal) ready ∙ ap (begins_asking (known_without known wait) number wait.till terminal last) asked

    by-request : (request : SaleRequest) → asks_transaction request ≡ true → asking_of known wait.header request terminal last ≡ Some asking
        → begins_from_queue (known_without known wait) number wait.till wait.header request terminal ≡ beginning_row (known_without known wait) number wait.till terminal last asking.intent asking.original
    by-request requests.Login is asked = absurd cc
    by-request requests.Logout is asked = absurd cc
    by-request (requests.Payment payment) is asked = begun (requests.Payment payment) asked
    by-request (requests.Reversal reversal) is asked = begun (requests.Reversal reversal) asked
    by-request (requests.Abort reference) is asked = absurd cc
    by-request (requests.Status reference) is asked = absurd cc
    by-request (requests.Reconciliation period) is asked = absurd cc
    by-request (requests.Display outputs) is asked = absurd cc
    by-request (requests.Print qualifier) is asked = absurd cc
    by-request requests.Diagnosis is asked = absurd cc

pub each-next-served : EachNextIsServed
each-next-served tills known wait payment number terminal last found ready first is passes =
    let asking : Asking = payment_asking known wait.header payment terminal last in
    let there = there-it-serves (known_without known wait) number wait.till terminal last asking found in
    subst (BeginsToServe known wait.till wait.header payment number terminal last)
    (sym (row-from-queue known number terminal last wait found ready first passes
    ∙ queued-beginning known number terminal last wait asking ready (ap (λ (r : SaleRequest). asking_of known wait.header r terminal last) is) (ap asks_transaction is)))
    (record {
      intent = payment_intent wait.header payment terminal.pt.currency last known.moment;
      says = payment-says known wait.header payment terminal last;
      goes_on = record { terminal = asked_for known wait.till terminal last asking.intent asking.original; found = there; standing_is = refl; calls_are = refl };
      for_till = ap (option_map (λ (serving : Terminal). serving.asker)) there;
      none_more = refl;
    })

pub each-next-reversed : EachNextIsReversed
each-next-reversed tills known wait reversal number terminal last found ready first is passes =
    let names = queued-original known number terminal wait reversal passes is in
    let asking : Asking = reversal_asking known wait.header last names.original in
    let there = there-it-serves (known_without known wait) number wait.till terminal last asking found in
    subst (BeginsToReverse known wait.till wait.header reversal number terminal last)
    (sym (row-from-queue known number terminal last wait found ready first passes
    ∙ queued-beginning known number terminal last wait asking ready
    (ap (λ (r : SaleRequest). asking_of known wait.header r terminal last) is ∙ ap (option_map (reversal_asking known wait.header last)) names.named) (ap asks_transaction is)))
    (record {
      original = names.original;
      named = names.named;
      approval = names.approval;
      reversible = names.reversible;
      intent = asking.intent;
      says = reversal-says known wait.header reversal names.original names.approval last names.reversible;
      goes_on = record {
        terminal = asked_for known wait.till terminal last asking.intent asking.original;
        found = there;
        standing_is = refl;
        calls_are = reversal-calls known number wait.header names.original names.approval terminal last names.reversible.result;
      };
      for_till = ap (option_map (λ (serving : Terminal). serving.asker)) there;
      none_more = refl;
    })

-- ---- every other row

lost-begins : (known : Known) (number : ℕ) → BeginsNone (of_terminal known (unlinks known number) (terminal_at known number))
lost-begins known number = each-terminal BeginsNone known number (unlinks known number) (nothing-begins known) (λ terminal found. reply-begins known terminal.asker (reply_to_lost terminal.standing) _ refl)

late-begins : (known : Known) (number : ℕ) → BeginsNone (late_row known number)
late-begins known number = each-terminal BeginsNone known number (λ terminal. owing_where (is_late known.moment terminal.talk) known (cutting known number)) (nothing-begins known)
    (λ terminal found. by-where BeginsNone known (cutting known number) (is_late known.moment terminal.talk) (nothing-begins known) (λ late. none-kept _ refl refl))

due-begins : (known : Known) (number : ℕ) → BeginsNone (due_row known number)
due-begins known number = each-terminal BeginsNone known number (λ terminal. owing_where (is_due known.moment terminal.standing) known (owing known (LinkPt number ∷ []))) (nothing-begins known)
    (λ terminal found. by-where BeginsNone known (owing known (LinkPt number ∷ [])) (is_due known.moment terminal.standing) (nothing-begins known) (λ due. none-kept _ refl refl))

asked-begins-none : (tills : List Connection) (known : Known) (till : ℕ) (as_read : ReadAs) → BeginsNone (row_of tills known (Asked till as_read))
asked-begins-none tills known till as_read =
    by-where BeginsNone known (asked_row known till as_read) (is_connected tills till) (nothing-begins known) (λ there. reply-begins known (Some till) (reply_to known as_read) _ refl)

row-begins : (tills : List Connection) (known : Known) (item : RoundItem) → BeginsNone (row_of tills known item) ⊎ BeginsTransaction known item (row_of tills known item).calls
row-begins tills known (Crowded till) = inl (none-kept _ refl refl)
row-begins tills known (Message till bytes) = inl (nothing-begins known)
row-begins tills known (Asked till as_read) = inl (asked-begins-none tills known till as_read)
row-begins tills known (Unframed till) = inl (by-where BeginsNone known (owing known (CutTill till ∷ [])) (is_connected tills till) (nothing-begins known) (λ there. none-kept _ refl refl))
row-begins tills known (Gone till) = inl (none-kept _ refl refl)
row-begins tills known (Greet number apdu) = inl (greet-begins known number (decode_pt_message apdu))
row-begins tills known (Handle number apdu) = inl (handle-begins known number apdu)
row-begins tills known (Serve number till header request) = served-begins known number till header request
row-begins tills known (Queue number till header request) = inl (queue-begins known number till header request)
row-begins tills known (NextWaiting number) = next-begins known number
row-begins tills known (Oversized number) = inl (each-linked BeginsNone known number (λ terminal. cutting known number) (nothing-begins known) (λ terminal found linked. none-kept _ refl refl))
row-begins tills known (LinkLost number) = inl (lost-begins known number)
row-begins tills known (Late number) = inl (late-begins known number)
row-begins tills known (Overdue key) = inl (overdue-begins known key)
row-begins tills known (Due number) = inl (due-begins known number)

pub each-kept-first : EachTransactionIsKeptFirst
each-kept-first tills known item asks = by-either (row-begins tills known item)
  where
    by-either : BeginsNone (row_of tills known item) ⊎ BeginsTransaction known item (row_of tills known item).calls → BeginsTransaction known item (row_of tills known item).calls
    by-either (inl none) = absurd (apart (sym none.asks ∙ asks))
    by-either (inr begins) = begins

pub each-intent-asked : EachIntentIsAsked
each-intent-asked tills known item the_record more kept intent = by-either (row-begins tills known item)
  where
    by-either : BeginsNone (row_of tills known item) ⊎ BeginsTransaction known item (row_of tills known item).calls → BeginsTransaction known item (row_of tills known item).calls
    by-either (inl none) = absurd (none.keeps the_record more kept intent)
    by-either (inr begins) = begins
