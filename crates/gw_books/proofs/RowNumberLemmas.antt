-- What an item that isn't a message of a terminal's dialogue leaves of trace numbers, and the order of items and links.
use Rattle.std.proofs.Common.{◌≡◌, ℕ, Bool, true, false, List, [], ◌∷◌, ◌++◌, refl, sym, ◌∙◌, ap, subst, inl, inr, eqb-true, append-nil, eqb, length, Option, Some, None, ◌⊎◌}
use Rattle.std.proofs.lemmas.Bool.{eqb-false, eqb-true, ne_eqb, or_parts}
use Rattle.std.specs.Prelude.{◌⊎◌, ◌==◌, slice_get, Option, Some, None, Result, Ok, Err, ◌&&◌, ◌||◌}
use Rattle.std.specs.List.{list_any}
use Rattle.gw_base.specs.declared.setup.Pt.{Pt}
use Rattle.gw_site.specs.declared.turn.Turn.{Turn}
use Rattle.gw_site.specs.Outside.{is_connected, Connection}
use Rattle.sale_values.specs.declared.header.Header.{Header}
use Rattle.sale_values.specs.declared.request.SaleRequest.{SaleRequest}
use Rattle.zvt_apdu.specs.Grammar.{ApduValue}
use Rattle.zvt_msg.specs.declared.command.Command.{Command}
use Rattle.zvt_msg.specs.declared.command.Command.TheVariants as commands
use Rattle.zvt_msg.specs.declared.fault.PtFault.{PtFault}
use Rattle.zvt_msg.specs.Message.{MessageValue, Ack, Nack, Intermediate, Line, Block, Status, Completion, Abort, Other}
use Rattle.zvt_msg.specs.MessageDecode.{decode_pt_message}
use Rattle.jrn_record.specs.declared.records.Intent.{Intent as TheIntent}
use Rattle.jrn_record.specs.declared.records.Record.{Record}
use Rattle.jrn_record.specs.declared.records.How.TheVariants as hows
use Rattle.jrn_record.specs.declared.records.Record.TheVariants.{Intent, Settled}
use Rattle.jrn_record.specs.declared.records.Settled.{Settled as TheSettled}
use Rattle.gw_ledger.specs.Keys.{intent_key}
use Rattle.xlate.specs.Ask.{ask}
use Rattle.gw_owes.specs.declared.terminal.Standing.{Standing}
use Rattle.gw_owes.specs.declared.terminal.Standing.TheVariants.{Unlinked, Ready}
use Rattle.gw_owes.specs.declared.terminal.Terminal.{Terminal}
use Rattle.gw_owes.specs.Calls.{OwedCall, LinkPt, CutTill, records_kept, SendTill, SendPt, WriteBody, WriteGate, WriteFirstGate, Sync, CutPt, Ask, keep_calls}
use Rattle.gw_owes.specs.Awaited.{one_more_awaited}
use Rattle.gw_owes.specs.Deadlines.{is_late, is_due, late_row, due_row}
use Rattle.gw_owes.specs.Displays.{asked_to_show}
use Rattle.gw_owes.specs.Greeting.{greeting, sending_calls, greet_decoded}
use Rattle.gw_owes.specs.Handling.{handle_row}
use Rattle.gw_owes.specs.Items.{RoundItem, Crowded, Message, Asked, Unframed, Gone, Greet, Queue, NextWaiting, Oversized, LinkLost, Late, Overdue, Due, Serve, Handle}
use Rattle.gw_owes.specs.Links.{cutting}
use Rattle.gw_owes.specs.Payments.{Asking, asked_for, beginning_row, serve_row}
use Rattle.gw_owes.specs.ReadAs.{ReadAs}
use Rattle.gw_owes.specs.Reconciliations.{asked_for_day, day_command, reply_to_settled, settled_of}
use Rattle.gw_owes.specs.RecordLaws.{IsReadItem}
use Rattle.gw_owes.specs.Reply.{ReplyValue}
use Rattle.gw_owes.specs.Requests.{reply_to, begun_by}
use Rattle.gw_owes.specs.Core.{Wait}
use Rattle.gw_owes.specs.Row.{Known, Row, owing, owing_nothing, owing_where}
use Rattle.gw_owes.specs.WaitingRows.{next_waiting_row, taken_out}
use Rattle.gw_owes.specs.Waits.{core_without_wait}
use Rattle.gw_owes.specs.Rows.{asked_row, gone_row, row_of}
use Rattle.gw_owes.specs.Serving.{reply_to_outcome, staying, stops}
use Rattle.gw_owes.specs.Stops.{wishing}
use Rattle.gw_owes.specs.Terminals.{with_terminal, reply_calls_to, reply_to_lost, terminal_at, terminal_becomes, unlinks, link_lost}
use Rattle.gw_owes.proofs.BeginLemmas.{IsAskedAnew, begins-anew}
use Rattle.gw_owes.proofs.HandlingLemmas.{by-where, each-terminal, each-linked}
use Rattle.gw_owes.proofs.KeepingLemmas.{replies-keep-nothing}
use Rattle.gw_owes.proofs.NextLemmas.{each-next, each-overdue, each-queued, known_without}
use Rattle.gw_owes.proofs.NextOrderLemmas.{begun-anew}
use Rattle.gw_owes.proofs.PaymentLemmas.{day_row, each-served, settled_row}
use Rattle.gw_owes.proofs.RecordLemmas.{LedgerLaws}
use Rattle.gw_owes.proofs.SetLemmas.{new-is-there, same-some}
use Rattle.gw_rules.specs.Lawful.{Begins, may_begin}
use Rattle.gw_rules.specs.LedgerRules.{ledger_rules}
use Rattle.gw_rules.specs.RecordOrder.{records_coming}
use Rattle.gw_rules.specs.Scene.{Scene, known_in, row_at}
use Rattle.gw_rules.specs.View.{View, Begin, after, begun}
use Rattle.gw_rules.proofs.KeptFileLemmas.{owned}
use Rattle.gw_rules.proofs.KeptLawLemmas.{holds}
use Rattle.gw_rules.proofs.KeptPhaseLemmas.{round-runs}
use Rattle.gw_rules.proofs.KeptTurnLemmas.{idle-rests, no-more}
use Rattle.gw_rules.proofs.LinkedLemmas.{round-setup}
use Rattle.gw_rules.proofs.RecordOrderLemmas.{Ordered, first-was-read, row-is}
use Rattle.gw_rules.proofs.RowFormLemmas.{form-handled, form-begun}
use Rattle.gw_rules.proofs.SetupLemmas.{HasSetup}
use Rattle.gw_rules.proofs.StageLemmas.{no-true}
use Rattle.gw_books.specs.Books.{BookedEntry, Honest}
use Rattle.gw_books.specs.Past.{Past, past_after, Numbering, numbering_at, numbering_of}
use Rattle.gw_books.proofs.BeginHoldsLemmas.{between-holds, between-numbered}
use Rattle.gw_books.proofs.HandledLemmas.{IsItemHandled}
use Rattle.gw_books.proofs.Holding.{begun_past, charge_owed, charges, charges_terminal, is_deed, sending_charges, HoldsBetween, deed_owed, is_handle}
use Rattle.gw_books.proofs.Numbering.{AreLinkedBeforeHearing, AreRecordsNumbered, BeginNumbers, IsQuiet as IsQuietAt, IsReadyNumber, IsStandingNumbered, Numbered, NumberedAfterRow, NumberedBetween, RowHolds, RowNumbers, RowOrders, handles_after_due, is_due_item, link_owed}
use Rattle.gw_books.proofs.NumberStepLemmas.{standings-set}
use Rattle.gw_books.proofs.QuietRowLemmas.{IsQuiet, asked-handles-none, gone-calm, overdue-quiet, queue-quiet, same-calm, session-quiet, stopped-quiet, taken-quiet, unlinks-quiet, waits-calm}
use Rattle.gw_books.proofs.WaitingRowLemmas.{between-without}
use Rattle.gw_books.proofs.RecordNumberLemmas.{numbered-with-intent, numbered-with-settled}
use Rattle.gw_books.proofs.ServeLemmas.{key-unsent, show-free}

-- ---- rows that leave each standing, or lose a link

-- a command that may charge a card is a deed
pub charge-is-deed : (number : ℕ) (calls : List OwedCall) → charge_owed number calls ≡ true → deed_owed calls ≡ true
charge-is-deed number [] owed = owed
charge-is-deed number (call ∷ calls) owed = by-call call (charge-is-deed number calls) owed
  where
    by-charge : (own charge : Bool) → (charge_owed number calls ≡ true → deed_owed calls ≡ true) → ((own && charge) || charge_owed number calls) ≡ true → (charge || deed_owed calls) ≡ true
    by-charge own true more owed = refl
    by-charge true false more owed = more owed
    by-charge false false more owed = more owed

    by-call : (call : OwedCall) → (charge_owed number calls ≡ true → deed_owed calls ≡ true) → (charges_terminal number call || charge_owed number calls) ≡ true → (is_deed call || deed_owed calls) ≡ true
    by-call (SendTill till reply) more owed = more owed
    by-call (SendPt pt sending) more owed = by-charge (pt == number) (sending_charges sending) more owed
    by-call (LinkPt pt) more owed = more owed
    by-call (WriteBody slot the_record) more owed = refl
    by-call (WriteGate slot the_record) more owed = refl
    by-call WriteFirstGate more owed = refl
    by-call Sync more owed = more owed
    by-call (CutTill till) more owed = more owed
    by-call (CutPt pt) more owed = more owed

-- what a quiet row leaves
pub quiet-numbers : (known : Known) (past : Past) (book : List BookedEntry) (row : Row) → NumberedBetween known past book → IsQuiet known row → NumberedAfterRow known past book row
quiet-numbers known past book row n q = record {
  records = subst (λ (records : List Record). AreRecordsNumbered book past.commands past.place records) (sym (ap (λ l. known.kept ++ l) q.none_kept ∙ append-nil known.kept)) n.records;
  standings = λ number terminal found.
      let was = q.calm.was number terminal found in
      subst (λ (pt : Pt). IsStandingNumbered past.links past.commands past.place book (numbering_at pt) terminal.standing) (sym was.pt_is) (calm-numbered past book (numbering_at was.old.pt) was.old.standing terminal.standing was.standing_is (n.standings number was.old was.found));
  asked = λ number terminal found owed. no-true (sym q.no_deed ∙ charge-is-deed number row.calls owed);
}
  where
    calm-numbered : (past : Past) (book : List BookedEntry) (numbering : Numbering) (old new : Standing) → (new ≡ old) ⊎ ((due : Option ℕ) × (new ≡ Unlinked due)) → IsStandingNumbered past.links past.commands past.place book numbering old → IsStandingNumbered past.links past.commands past.place book numbering new
    calm-numbered past book numbering old new (inl same) is = subst (IsStandingNumbered past.links past.commands past.place book numbering) (sym same) is
    calm-numbered past book numbering old new (inr lost) is = subst (IsStandingNumbered past.links past.commands past.place book numbering) (sym lost.1) tt

-- a row that owes these calls and changes nothing
owing-quiet : (known : Known) (calls : List OwedCall) (items : List RoundItem) → records_kept calls ≡ [] → deed_owed calls ≡ false → list_any is_handle items ≡ false → IsQuiet known (record { core = known.core; calls = calls; items = items })
owing-quiet known calls items none_kept no_deed handles_none = record { calm = same-calm known.core; none_kept = none_kept; no_deed = no_deed; handles_none = handles_none }

pub nothing-quiet : (known : Known) → IsQuiet known (owing known [])
nothing-quiet known = owing-quiet known [] [] refl refl refl

cut-quiet : (known : Known) (number : ℕ) → IsQuiet known (cutting known number)
cut-quiet known number = owing-quiet known (CutPt number ∷ []) [] refl refl refl

asked-quiet : (known : Known) (till : ℕ) (as_read : ReadAs) → IsQuiet known (asked_row known till as_read)
asked-quiet known till as_read = by-reply (reply_to known as_read)
  where
    by-reply : (reply : Option ReplyValue) → IsQuiet known (record { core = known.core; calls = reply_calls_to (Some till) reply; items = begun_by known till as_read })
    by-reply None = owing-quiet known [] (begun_by known till as_read) refl refl (asked-handles-none known till as_read)
    by-reply (Some reply) = owing-quiet known (reply_calls_to (Some till) (Some reply)) (begun_by known till as_read) refl refl (asked-handles-none known till as_read)

greeted-quiet : (known : Known) (number : ℕ) (message : MessageValue) → IsQuiet known (owing known (sending_calls number (greeting message)))
greeted-quiet known number Ack = nothing-quiet known
greeted-quiet known number (Nack error_code) = nothing-quiet known
greeted-quiet known number (Intermediate intermediate_status) = owing-quiet known _ [] refl refl refl
greeted-quiet known number (Line text) = owing-quiet known _ [] refl refl refl
greeted-quiet known number (Block objects) = owing-quiet known _ [] refl refl refl
greeted-quiet known number (Status fields) = owing-quiet known _ [] refl refl refl
greeted-quiet known number Completion = owing-quiet known _ [] refl refl refl
greeted-quiet known number (Abort result_code) = owing-quiet known _ [] refl refl refl
greeted-quiet known number Other = owing-quiet known _ [] refl refl refl

greet-quiet : (known : Known) (number : ℕ) (decoded : Result MessageValue PtFault) → IsQuiet known (greet_decoded known number decoded)
greet-quiet known number (Ok message) =
    each-linked (IsQuiet known) known number (λ terminal. owing known (sending_calls number (greeting message))) (nothing-quiet known) (λ terminal found linked. greeted-quiet known number message)
greet-quiet known number (Err fault) = each-linked (IsQuiet known) known number (λ terminal. cutting known number) (nothing-quiet known) (λ terminal found linked. cut-quiet known number)

late-quiet : (known : Known) (number : ℕ) → IsQuiet known (late_row known number)
late-quiet known number =
    each-terminal (IsQuiet known) known number (λ terminal. owing_where (is_late known.moment terminal.talk) known (cutting known number)) (nothing-quiet known)
    (λ terminal found. by-where (IsQuiet known) known (cutting known number) (is_late known.moment terminal.talk) (nothing-quiet known) (λ late. cut-quiet known number))

due-quiet : (known : Known) (number : ℕ) → IsQuiet known (due_row known number)
due-quiet known number =
    each-terminal (IsQuiet known) known number (λ terminal. owing_where (is_due known.moment terminal.standing) known (owing known (LinkPt number ∷ []))) (nothing-quiet known)
    (λ terminal found. by-where (IsQuiet known) known (owing known (LinkPt number ∷ [])) (is_due known.moment terminal.standing) (nothing-quiet known) (λ due. owing-quiet known (LinkPt number ∷ []) [] refl refl refl))

lost-quiet : (known : Known) (number : ℕ) → IsQuiet known (link_lost known number)
lost-quiet known number = each-terminal (IsQuiet known) known number (unlinks known number) (nothing-quiet known) (λ terminal found. unlinks-quiet known number terminal found)

-- ---- a payment or a reversal begins

-- the terminal serves what its last trace number and its quiet allow
begun-numbers : (known : Known) (past : Past) (book : List BookedEntry) (number till : ℕ) (header : Header) (terminal : Terminal) (last : ℕ) (asking : Asking) → HoldsBetween known past book → NumberedBetween known past book
    → terminal_at known number ≡ Some terminal → terminal.standing ≡ Ready last → IsAskedAnew known header terminal last asking → NumberedAfterRow known past book (beginning_row known number till terminal last asking.intent asking.original)
begun-numbers known past book number till header terminal last asking between n there_is standing_is anew = record {
  records = numbered-with-intent known.kept intent book past.commands past.place n.records before (key-unsent known past book between (intent_key intent) anew.unknown);
  standings = standings-set past book known.core number terminal new there_is (λ other one apart found. n.standings other one found) tt;
  asked = λ other one found owed. by-number other one found owed (eqb other number) refl;
}
  where
    intent : TheIntent
    intent = asking.intent

    new : Terminal
    new = asked_for known till terminal last intent asking.original

    ready : IsReadyNumber book past.commands (numbering_at terminal.pt) past.place last
    ready = subst (IsStandingNumbered past.links past.commands past.place book (numbering_at terminal.pt)) standing_is (n.standings number terminal there_is)

    before : IsReadyNumber book past.commands (numbering_of intent) past.place intent.before
    before = subst (λ (numbering : Numbering). IsReadyNumber book past.commands numbering past.place intent.before) (ap (λ (poi : List ℕ). record { poi = poi }) (sym anew.poi_is)) (subst (IsReadyNumber book past.commands (numbering_at terminal.pt) past.place) (sym anew.before_is) ready)

    by-number : (other : ℕ) (one : Terminal) → slice_get (with_terminal known.core number new).terminals other ≡ Some one
        → charge_owed other (keep_calls (length known.kept) (Intent intent) ++ SendPt number (Ask (ask intent asking.original terminal.pt)) ∷ []) ≡ true → (b : Bool) → eqb other number ≡ b → IsQuietAt book past.commands (numbering_at one.pt) past.place
    by-number other one found owed true is =
        let there : slice_get (with_terminal known.core number new).terminals number ≡ Some one = subst (λ (at : ℕ). slice_get (with_terminal known.core number new).terminals at ≡ Some one) (eqb-true other number is) found in
        subst (λ (t : Terminal). IsQuietAt book past.commands (numbering_at t.pt) past.place) (same-some new one (sym (new-is-there known.core.terminals number terminal new there_is) ∙ there)) ready.quiet
    by-number other one found owed false is =
        let apart : (number == other) ≡ false = ne_eqb number other (λ same. eqb-false other number is (sym same)) in
        no-true (sym (ap (λ (b : Bool). (b && sending_charges (Ask (ask intent asking.original terminal.pt))) || false) apart) ∙ owed)

-- what a row leaves, with the past before its item
abbrev RowLeaves : RoundItem → Type 0
RowLeaves item =
    (scene : Scene) (tills : List Connection) (known : Known) (past : Past) (book : List BookedEntry) → scene.core ≡ known.core → HoldsBetween known past book → NumberedBetween known past book
    → (is_handle item ≡ true → AreLinkedBeforeHearing past) → IsReadItem known.setup item → Honest (begun_past scene past item) book → NumberedAfterRow known past book (row_of tills known item)

-- its item changes nothing of what numbers are about
pub numbers-begun : (scene : Scene) (known : Known) (past : Past) (book : List BookedEntry) (item : RoundItem) (row : Row) → NumberedAfterRow known past book row → NumberedAfterRow known (begun_past scene past item) book row
numbers-begun scene known past book item row r = record { records = r.records; standings = r.standings; asked = r.asked }

-- ---- a reconciliation and a display

-- what is settled changes no terminal
settled-numbers : (laws : LedgerLaws) (known : Known) (past : Past) (book : List BookedEntry) (till : ℕ) (header : Header) (terminal : Terminal) → NumberedBetween known past book → NumberedAfterRow known past book (settled_row known till header terminal)
settled-numbers laws known past book till header terminal n =
    let settled : TheSettled = settled_of hows.Sale header terminal.pt.currency known.moment in
    let reply : Option ReplyValue = reply_to_settled known.kept settled in
    record {
      records = subst (λ (records : List Record). AreRecordsNumbered book past.commands past.place records)
          (sym (ap (λ (rest : List Record). known.kept ++ Settled settled ∷ rest) (replies-keep-nothing (Some till) reply).no_records))
          (numbered-with-settled laws known.kept settled book past.commands past.place n.records);
      standings = n.standings;
      asked = λ number one found owed. absurd cc;
    }

-- a terminal that is ready serves what has no trace number
beside-numbers : (known : Known) (past : Past) (book : List BookedEntry) (number : ℕ) (terminal new : Terminal) (last : ℕ) (command : Command) → NumberedBetween known past book → terminal_at known number ≡ Some terminal → terminal.standing ≡ Ready last
    → new.pt ≡ terminal.pt → charges command ≡ false → (IsReadyNumber book past.commands (numbering_at terminal.pt) past.place last → IsStandingNumbered past.links past.commands past.place book (numbering_at terminal.pt) new.standing)
    → NumberedAfterRow known past book (terminal_becomes known number new (SendPt number (Ask command) ∷ []))
beside-numbers known past book number terminal new last command n found standing same free stands = record {
  records = subst (λ (records : List Record). AreRecordsNumbered book past.commands past.place records) (sym (append-nil known.kept)) n.records;
  standings = standings-set past book known.core number terminal new found (λ other one apart there. n.standings other one there)
      (subst (λ (pt : Pt). IsStandingNumbered past.links past.commands past.place book (numbering_at pt) new.standing) (sym same)
      (stands (subst (IsStandingNumbered past.links past.commands past.place book (numbering_at terminal.pt)) standing (n.standings number terminal found))));
  asked = λ other one there owed. no-true (sym (ap (λ (b : Bool). b || false) free) ∙ charge-is-deed other (SendPt number (Ask command) ∷ []) owed);
}

serve-numbers : (laws : LedgerLaws) (number till : ℕ) (header : Header) (request : SaleRequest) → RowLeaves (Serve number till header request)
serve-numbers laws number till header request scene tills known past book same between n linked read honest =
    each-served (NumberedAfterRow known past book) known number till header request (record {
      none = quiet-numbers known past book (owing known []) n (nothing-quiet known);
      begins = λ terminal last asking at. begun-numbers known past book number till header terminal last asking between n at.found at.standing_is (begins-anew laws known between.in_order number till header request terminal last asking read at);
      sent = λ terminal talk at may.
          quiet-numbers known past book (stops known number (wishing terminal talk)) n (stopped-quiet known number header request terminal talk (one_more_awaited terminal.awaited) (SendPt number (Ask commands.Stop) ∷ []) at refl refl);
      wished = λ terminal talk at may. quiet-numbers known past book (staying known number (wishing terminal talk)) n (stopped-quiet known number header request terminal talk terminal.awaited [] at refl refl);
      session = λ success. quiet-numbers known past book _ n (session-quiet known till header request);
      settles = λ terminal at. settled-numbers laws known past book till header terminal n;
      day = λ terminal last at. beside-numbers known past book number terminal (asked_for_day known till terminal last header) last (day_command terminal.pt) n at.found at.standing_is refl refl (λ ready. ready);
      displays = λ terminal last outputs command at.
          beside-numbers known past book number terminal (asked_to_show known till terminal last header outputs command) last command n at.found at.standing_is refl (show-free outputs command at.shown_is) (λ ready. ready);
    })

-- what a row leaves of numbers is so whatever waited before it
numbers-without : (known : Known) (past : Past) (book : List BookedEntry) (wait : Wait) (row : Row) → NumberedAfterRow (known_without known wait) past book row → NumberedAfterRow known past book row
numbers-without known past book wait row r = record { records = r.records; standings = r.standings; asked = r.asked }

-- a request that has waited
next-numbers : (laws : LedgerLaws) (known : Known) (past : Past) (book : List BookedEntry) (number : ℕ) → HoldsBetween known past book → NumberedBetween known past book → NumberedAfterRow known past book (next_waiting_row known number)
next-numbers laws known past book number between n =
    each-next (NumberedAfterRow known past book) known number (record {
      none = quiet-numbers known past book (owing known []) n (nothing-quiet known);
      refused = λ terminal last wait condition at refuses. quiet-numbers known past book (record (taken_out known condition wait) { items = NextWaiting number ∷ [] }) n (taken-quiet known condition wait (NextWaiting number ∷ []) refl);
      begins = λ terminal last wait asking at. numbers-without known past book wait (beginning_row (known_without known wait) number wait.till terminal last asking.intent asking.original)
          (begun-numbers (known_without known wait) past book number wait.till wait.header terminal last asking (between-without known past book wait between) (record { records = n.records; standings = n.standings })
          at.first.found at.first.standing_is (begun-anew laws known between.in_order between.waits number terminal last wait asking at));
      day = λ terminal last wait at. numbers-without known past book wait (day_row (known_without known wait) number wait.till wait.header terminal last)
          (beside-numbers (known_without known wait) past book number terminal (asked_for_day (known_without known wait) wait.till terminal last wait.header) last (day_command terminal.pt) (record { records = n.records; standings = n.standings })
          at.first.found at.first.standing_is refl refl (λ ready. ready));
      left = λ terminal last wait at.
          quiet-numbers known past book (owing_nothing (known_without known wait)) n (record { calm = waits-calm known.core (core_without_wait known.core wait.key).waits; none_kept = refl; no_deed = refl; handles_none = refl });
    })

-- each item but a message of a terminal's dialogue
row-leaves : (laws : LedgerLaws) (item : RoundItem) → is_handle item ≡ false → RowLeaves item
row-leaves laws (Crowded till) other scene tills known past book same between n linked read honest = quiet-numbers known past book _ n (owing-quiet known (CutTill till ∷ []) [] refl refl refl)
row-leaves laws (Message till bytes) other scene tills known past book same between n linked read honest = quiet-numbers known past book _ n (nothing-quiet known)
row-leaves laws (Asked till as_read) other scene tills known past book same between n linked read honest =
    by-where (λ (row : Row). NumberedAfterRow known past book row) known (asked_row known till as_read) (is_connected tills till) (quiet-numbers known past book (owing known []) n (nothing-quiet known))
    (λ there. quiet-numbers known past book (asked_row known till as_read) n (asked-quiet known till as_read))
row-leaves laws (Unframed till) other scene tills known past book same between n linked read honest =
    by-where (λ (row : Row). NumberedAfterRow known past book row) known (owing known (CutTill till ∷ [])) (is_connected tills till) (quiet-numbers known past book (owing known []) n (nothing-quiet known))
    (λ there. quiet-numbers known past book (owing known (CutTill till ∷ [])) n (owing-quiet known (CutTill till ∷ []) [] refl refl refl))
row-leaves laws (Gone till) other scene tills known past book same between n linked read honest =
    quiet-numbers known past book (gone_row known till) n (record { calm = gone-calm known.core till; none_kept = refl; no_deed = refl; handles_none = refl })
row-leaves laws (Greet number apdu) other scene tills known past book same between n linked read honest = quiet-numbers known past book _ n (greet-quiet known number (decode_pt_message apdu))
row-leaves laws (Handle number apdu) other scene tills known past book same between n linked read honest = no-true (sym other)
row-leaves laws (Serve number till header request) other scene tills known past book same between n linked read honest =
    serve-numbers laws number till header request scene tills known past book same between n linked read honest
row-leaves laws (Queue number till header request) other scene tills known past book same between n linked read honest = quiet-numbers known past book _ n (queue-quiet known number till header request)
row-leaves laws (NextWaiting number) other scene tills known past book same between n linked read honest = next-numbers laws known past book number between n
row-leaves laws (Oversized number) other scene tills known past book same between n linked read honest =
    quiet-numbers known past book _ n (each-linked (IsQuiet known) known number (λ terminal. cutting known number) (nothing-quiet known) (λ terminal found is_linked. cut-quiet known number))
row-leaves laws (LinkLost number) other scene tills known past book same between n linked read honest = quiet-numbers known past book _ n (lost-quiet known number)
row-leaves laws (Late number) other scene tills known past book same between n linked read honest = quiet-numbers known past book _ n (late-quiet known number)
row-leaves laws (Overdue key) other scene tills known past book same between n linked read honest = quiet-numbers known past book _ n (overdue-quiet known key)
row-leaves laws (Due number) other scene tills known past book same between n linked read honest = quiet-numbers known past book _ n (due-quiet known number)

-- and with the past as its item has begun
pub row-numbers : (laws : LedgerLaws) (item : RoundItem) → is_handle item ≡ false → RowNumbers item
row-numbers laws item other scene tills known past book same between n linked read honest =
    numbers-begun scene known past book item (row_of tills known item) (row-leaves laws item other scene tills known past book same between n linked read honest)

-- ---- the order of items and links

-- the row owes no link and brings no item
record IsOrderly (row : Row) : Type 0 where
  unlinked : link_owed row.calls ≡ false
  no_items : row.items ≡ []

of-orderly : (tills : List Connection) (known : Known) (item : RoundItem) → IsOrderly (row_of tills known item) → RowOrders tills known item
of-orderly tills known item is = record { links = λ owed. no-true (sym is.unlinked ∙ owed); items = ap (list_any is_due_item) is.no_items; none = λ due. is.no_items }

replies-unlinked : (asker : Option ℕ) (reply : Option ReplyValue) → link_owed (reply_calls_to asker reply) ≡ false
replies-unlinked None reply = refl
replies-unlinked (Some till) None = refl
replies-unlinked (Some till) (Some reply) = refl

greeting-unlinked : (known : Known) (number : ℕ) (message : MessageValue) → IsOrderly (owing known (sending_calls number (greeting message)))
greeting-unlinked known number Ack = record { unlinked = refl; no_items = refl }
greeting-unlinked known number (Nack error_code) = record { unlinked = refl; no_items = refl }
greeting-unlinked known number (Intermediate intermediate_status) = record { unlinked = refl; no_items = refl }
greeting-unlinked known number (Line text) = record { unlinked = refl; no_items = refl }
greeting-unlinked known number (Block objects) = record { unlinked = refl; no_items = refl }
greeting-unlinked known number (Status fields) = record { unlinked = refl; no_items = refl }
greeting-unlinked known number Completion = record { unlinked = refl; no_items = refl }
greeting-unlinked known number (Abort result_code) = record { unlinked = refl; no_items = refl }
greeting-unlinked known number Other = record { unlinked = refl; no_items = refl }

greet-orderly : (known : Known) (number : ℕ) (decoded : Result MessageValue PtFault) → IsOrderly (greet_decoded known number decoded)
greet-orderly known number (Ok message) =
    each-linked IsOrderly known number (λ terminal. owing known (sending_calls number (greeting message))) (record { unlinked = refl; no_items = refl }) (λ terminal found is_linked. greeting-unlinked known number message)
greet-orderly known number (Err fault) =
    each-linked IsOrderly known number (λ terminal. cutting known number) (record { unlinked = refl; no_items = refl }) (λ terminal found is_linked. record { unlinked = refl; no_items = refl })

handle-orderly : (known : Known) (number : ℕ) (apdu : ApduValue) → IsOrderly (handle_row known number apdu)
handle-orderly known number apdu = form-handled IsOrderly known number apdu (record { unlinked = refl; no_items = refl }) (λ terminal message found is_linked is taken. record {
  nothing = record { unlinked = refl; no_items = refl };
  stays = record { unlinked = refl; no_items = refl };
  cuts = record { unlinked = refl; no_items = refl };
  stops = record { unlinked = refl; no_items = refl };
  enquires = record { unlinked = refl; no_items = refl };
  rests = λ standing stands. record { unlinked = refl; no_items = refl };
  resolves = λ standing outcome stands. record { unlinked = replies-unlinked terminal.asker (reply_to_outcome known.kept outcome.slot outcome); no_items = refl };
  settles = λ last settled. record { unlinked = replies-unlinked terminal.asker (reply_to_settled known.kept settled); no_items = refl };
  replies = λ last reply. record { unlinked = replies-unlinked terminal.asker reply; no_items = refl };
  requests = λ till request asker. record { unlinked = refl; no_items = refl };
})

serve-orderly : (known : Known) (number till : ℕ) (header : Header) (request : SaleRequest) → IsOrderly (serve_row known number till header request)
serve-orderly known number till header request =
    each-served IsOrderly known number till header request (record {
      none = record { unlinked = refl; no_items = refl };
      begins = λ terminal last asking at. record { unlinked = refl; no_items = refl };
      sent = λ terminal talk at may. record { unlinked = refl; no_items = refl };
      wished = λ terminal talk at may. record { unlinked = refl; no_items = refl };
      session = λ success. record { unlinked = refl; no_items = refl };
      settles = λ terminal at. record { unlinked = refl; no_items = refl };
      day = λ terminal last at. record { unlinked = refl; no_items = refl };
      displays = λ terminal last outputs command at. record { unlinked = refl; no_items = refl };
    })

late-orderly : (known : Known) (number : ℕ) → IsOrderly (late_row known number)
late-orderly known number =
    each-terminal IsOrderly known number (λ terminal. owing_where (is_late known.moment terminal.talk) known (cutting known number)) (record { unlinked = refl; no_items = refl })
    (λ terminal found. by-where IsOrderly known (cutting known number) (is_late known.moment terminal.talk) (record { unlinked = refl; no_items = refl }) (λ late. record { unlinked = refl; no_items = refl }))

lost-orderly : (known : Known) (number : ℕ) → IsOrderly (link_lost known number)
lost-orderly known number =
    each-terminal IsOrderly known number (unlinks known number) (record { unlinked = refl; no_items = refl }) (λ terminal found. record { unlinked = replies-unlinked terminal.asker (reply_to_lost terminal.standing); no_items = refl })

due-brings-none : (known : Known) (number : ℕ) → (due_row known number).items ≡ []
due-brings-none known number =
    each-terminal (λ (row : Row). row.items ≡ []) known number (λ terminal. owing_where (is_due known.moment terminal.standing) known (owing known (LinkPt number ∷ []))) refl
    (λ terminal found. by-where (λ (row : Row). row.items ≡ []) known (owing known (LinkPt number ∷ [])) (is_due known.moment terminal.standing) refl (λ due. refl))

pub row-orders : (tills : List Connection) (known : Known) (item : RoundItem) → RowOrders tills known item
row-orders tills known (Crowded till) = of-orderly tills known (Crowded till) (record { unlinked = refl; no_items = refl })
row-orders tills known (Message till bytes) = of-orderly tills known (Message till bytes) (record { unlinked = refl; no_items = refl })
row-orders tills known (Asked till as_read) = record {
  links = λ owed. no-true (sym (by-where (λ (row : Row). link_owed row.calls ≡ false) known (asked_row known till as_read) (is_connected tills till) refl (λ there. replies-unlinked (Some till) (reply_to known as_read))) ∙ owed);
  items = by-where (λ (row : Row). list_any is_due_item row.items ≡ false) known (asked_row known till as_read) (is_connected tills till) refl
      (λ there. form-begun (λ (items : List RoundItem). list_any is_due_item items ≡ false) known till refl as_read (λ number header request is. refl) (λ number header request is. refl));
  none = λ due. no-true due;
}
row-orders tills known (Unframed till) = of-orderly tills known (Unframed till)
    (by-where IsOrderly known (owing known (CutTill till ∷ [])) (is_connected tills till) (record { unlinked = refl; no_items = refl }) (λ there. record { unlinked = refl; no_items = refl }))
row-orders tills known (Gone till) = of-orderly tills known (Gone till) (record { unlinked = refl; no_items = refl })
row-orders tills known (Greet number apdu) = of-orderly tills known (Greet number apdu) (greet-orderly known number (decode_pt_message apdu))
row-orders tills known (Handle number apdu) = of-orderly tills known (Handle number apdu) (handle-orderly known number apdu)
row-orders tills known (Serve number till header request) = of-orderly tills known (Serve number till header request) (serve-orderly known number till header request)
row-orders tills known (Queue number till header request) = of-orderly tills known (Queue number till header request)
    (each-queued IsOrderly known number till header request (record {
      none = record { unlinked = refl; no_items = refl };
      joins = λ terminal key at. record { unlinked = refl; no_items = refl };
      taken = λ wait at. record { unlinked = refl; no_items = refl };
    }))
row-orders tills known (NextWaiting number) = record {
  links = λ owed. no-true (sym (each-next (λ (row : Row). link_owed row.calls ≡ false) known number (record {
    none = refl;
    refused = λ terminal last wait condition at refuses. refl;
    begins = λ terminal last wait asking at. refl;
    day = λ terminal last wait at. refl;
    left = λ terminal last wait at. refl;
  })) ∙ owed);
  items = each-next (λ (row : Row). list_any is_due_item row.items ≡ false) known number (record {
    none = refl;
    refused = λ terminal last wait condition at refuses. refl;
    begins = λ terminal last wait asking at. refl;
    day = λ terminal last wait at. refl;
    left = λ terminal last wait at. refl;
  });
  none = λ due. no-true due;
}
row-orders tills known (Oversized number) = of-orderly tills known (Oversized number)
    (each-linked IsOrderly known number (λ terminal. cutting known number) (record { unlinked = refl; no_items = refl }) (λ terminal found is_linked. record { unlinked = refl; no_items = refl }))
row-orders tills known (LinkLost number) = of-orderly tills known (LinkLost number) (lost-orderly known number)
row-orders tills known (Late number) = of-orderly tills known (Late number) (late-orderly known number)
row-orders tills known (Overdue key) = of-orderly tills known (Overdue key)
    (each-overdue IsOrderly known key (record { none = record { unlinked = refl; no_items = refl }; taken = λ wait found overdue. record { unlinked = refl; no_items = refl } }))
row-orders tills known (Due number) = record { links = λ owed. refl; items = ap (list_any is_due_item) (due-brings-none known number); none = λ due. due-brings-none known number }

-- ---- an item begins

-- none of the first list passes
any-after : (test : RoundItem → Bool) (first second : List RoundItem) → list_any test first ≡ false → list_any test (first ++ second) ≡ list_any test second
any-after test [] second none = refl
any-after test (item ∷ first) second none =
    let parts = or_parts (test item) (list_any test first) none in
    ap (λ (b : Bool). b || list_any test (first ++ second)) parts.0 ∙ any-after test first second parts.1

-- with items that may link nothing before them, items are ordered as they were
orders-after : (first second : List RoundItem) → list_any is_due_item first ≡ false → handles_after_due (first ++ second) ≡ handles_after_due second
orders-after [] second none = refl
orders-after (item ∷ first) second none =
    let parts = or_parts (is_due_item item) (list_any is_due_item first) none in
    ap (λ (b : Bool). (b && list_any is_handle (first ++ second)) || handles_after_due (first ++ second)) parts.0 ∙ orders-after first second parts.1

-- what a row leaves holds along the course
row-numbered : (log : List Turn) (v : View) (past : Past) (book : List BookedEntry) (item : RoundItem) (rest : List RoundItem) (row : Row) → Ordered log v → Begins v → Numbered v past book → (k : HasSetup v.scene) → v.items ≡ item ∷ rest
    → row_of v.scene.outside.tills (known_in v.scene k.setup) item ≡ row → list_any is_handle row.items ≡ false → NumberedAfterRow (known_in v.scene k.setup) (begun_past v.scene past item) book row
    → Numbered (begun v.scene row rest) (begun_past v.scene past item) book
row-numbered log v past book item rest row o b n k e is handles_none r =
    let none : v.scene.flight ≡ None = (idle-rests (owned ledger_rules) log v (holds ledger_rules log v o.keeps) (round-runs v.scene.stage b.idle.round) b.idle.calls).is_open.no_flight in
    let coming : records_coming (begun v.scene row rest) ≡ v.scene.kept ++ records_kept row.calls = ap (λ l. l ++ records_kept row.calls) (no-more v.scene.kept v.scene.flight none) in
    let orders : RowOrders v.scene.outside.tills (known_in v.scene k.setup) item = row-orders v.scene.outside.tills (known_in v.scene k.setup) item in
    let no_dues : list_any is_due_item row.items ≡ false = ap (λ (row : Row). list_any is_due_item row.items) (sym is) ∙ orders.items in
    let ordered : ((is_due_item item && list_any is_handle rest) || handles_after_due rest) ≡ false = sym (ap handles_after_due e) ∙ n.ordered in
    let parts = or_parts (is_due_item item && list_any is_handle rest) (handles_after_due rest) ordered in
    let handles : list_any is_handle (row.items ++ rest) ≡ list_any is_handle rest = any-after is_handle row.items rest handles_none in
    record {
      kept = n.kept;
      coming = subst (λ (records : List Record). AreRecordsNumbered book past.commands past.place records) (sym coming) r.records;
      standings = r.standings;
      asked = r.asked;
      made = n.made;
      ordered = orders-after row.items rest no_dues ∙ parts.1;
      linking = λ owed. handles ∙ after-due (is_due_item item) (orders.links (ap (λ (row : Row). link_owed row.calls) is ∙ owed)) parts.0;
      linked = λ some. n.linked (ap (list_any is_handle) e ∙ or-right (is_handle item) (list_any is_handle rest) (sym handles ∙ some));
    }
  where
    or-right : (one other : Bool) → other ≡ true → (one || other) ≡ true
    or-right true other is = refl
    or-right false other is = is

    after-due : (due : Bool) → due ≡ true → (due && list_any is_handle rest) ≡ false → list_any is_handle rest ≡ false
    after-due true is none = none
    after-due false is none = no-true is

-- where each row keeps what holds, so does the beginning of an item
pub begin-numbers : ((item : RoundItem) → IsItemHandled item → RowHolds item) → ((item : RoundItem) → RowNumbers item) → BeginNumbers
begin-numbers holding rows log v past book o b handled h n honest = by_items v.items refl
  where
    by_items : (items : List RoundItem) → v.items ≡ items → Numbered (after v Begin) (past_after v past Begin) book
    by_items [] e = no-true (sym (ap (may_begin v.scene) e) ∙ b.first)
    by_items (item ∷ rest) e =
        let k = round-setup v o.agrees.run b.idle.round in
        let known : Known = known_in v.scene k.setup in
        let book_honest : Honest (begun_past v.scene past item) book = subst (λ (items : List RoundItem). Honest (past_after (record v { items = items }) past Begin) book) e honest in
        let between = between-holds log v past book o b h k in
        let numbered = between-numbered v past book n k.setup in
        let linked : is_handle item ≡ true → AreLinkedBeforeHearing past = (λ handles. n.linked (ap (list_any is_handle) e ∙ ap (λ (b : Bool). b || list_any is_handle rest) handles)) in
        let read = first-was-read log v item rest o k e in
        let held = holding item (handled item rest e) v.scene v.scene.outside.tills known past book refl between numbered linked read book_honest in
        let r = rows item v.scene v.scene.outside.tills known past book refl between numbered linked read book_honest in
        subst (λ (items : List RoundItem). Numbered (after (record v { items = items }) Begin) (past_after (record v { items = items }) past Begin) book) (sym e)
        (row-numbered log v past book item rest (row_at v.scene item) o b n k e (sym (row-is v.scene k item)) (ap (λ (row : Row). list_any is_handle row.items) (row-is v.scene k item) ∙ held.handles_none)
        (subst (NumberedAfterRow known (begun_past v.scene past item) book) (sym (row-is v.scene k item)) r))
