-- Whose what a terminal serves is: each row keeps the terminal's till, or needs none, or begins for one, and what it owes any till goes to it.
use Rattle.gw_ledger.specs.History.{history}
use Rattle.zvt_apdu.specs.DecodeStream.{decode_apdus, decode_apdus_within}
use Rattle.std.proofs.Common.{◌≡◌, ◌≢◌, ◌⊎◌, ℕ, ◌+◌, List, [], ◌∷◌, ◌++◌, refl, sym, ◌∙◌, ap, subst, inl, inr, Bool, true, false}
use Rattle.std.proofs.lemmas.Bool.{eq-eqb, eqb-true}
use Rattle.std.proofs.lemmas.Option.{slice_get-map}
use Rattle.std.specs.Prelude.{length, nat_le, nat_lt, set, slice_get, ◌==◌, Option, Some, None, Result, Ok, Err, if◌then◌else◌}
use Rattle.std.specs.Option.{option_map}
use Rattle.gw_base.specs.declared.figures.Figures.{Figures}
use Rattle.gw_base.specs.declared.key.Key.{Key}
use Rattle.gw_site.specs.Outside.{is_connected}
use Rattle.sale_reply.specs.declared.reply.Shown.{Shown}
use Rattle.sale_values.specs.declared.header.Header.{Header}
use Rattle.sale_values.specs.declared.request.SaleRequest.{SaleRequest}
use Rattle.zvt_apdu.specs.Grammar.{ApduValue}
use Rattle.zvt_msg.specs.declared.fault.PtFault.{PtFault}
use Rattle.zvt_msg.specs.Message.{MessageValue}
use Rattle.zvt_msg.specs.MessageDecode.{decode_pt_message}
use Rattle.zvt_talk.specs.declared.meaning.Heard.{Heard}
use Rattle.zvt_talk.specs.declared.meaning.Heard.TheVariants as heard
use Rattle.jrn_record.specs.declared.records.How.TheVariants as hows
use Rattle.jrn_record.specs.declared.records.Outcome.{Outcome as TheOutcome}
use Rattle.jrn_record.specs.declared.records.Record.{Record}
use Rattle.jrn_record.specs.declared.records.Record.TheVariants.{Outcome, Settled}
use Rattle.gw_ledger.specs.declared.entry.Entry.{Entry as TheEntry}
use Rattle.gw_owes.specs.AskerLaws.{KeepsTill, IsOver, NeedsNoTill, IsAboutRequestOf, BeginsFor, EachItemKeepsTill, EachServedKeepsTill, EachLinkKeepsTill, EachGoneIsForgotten, GoneLeavesRest, tills_sent, SendsItsTill, SendsAsking, EachSendIsToIts, EachLinkSendsIts, ExampleTill}
use Rattle.gw_owes.specs.Calls.{OwedCall, CutPt, CutTill, LinkPt, Sending, SendTill, SendPt, Ask, keep_calls}
use Rattle.gw_owes.specs.Core.{Wait, Core}
use Rattle.gw_owes.specs.Deadlines.{is_due, is_late, due_row, late_row}
use Rattle.gw_owes.specs.Displays.{serving_display}
use Rattle.gw_owes.specs.Greeting.{greet_decoded, greet_row, greeting, oversized_row, sending_calls}
use Rattle.gw_owes.specs.Handling.{consequence, enquires, enquiring, handle_row, meaning_at, registering, serving, taking}
use Rattle.gw_owes.specs.Items.{RoundItem, Crowded, Message, Asked, Unframed, Gone, Greet, Handle, Serve, Queue, NextWaiting, Oversized, LinkLost, Late, Overdue, Due}
use Rattle.gw_owes.specs.Links.{LinkEvent, LinkIsMade, LinkHasFailed, LinkIsLost, cutting, is_linked, link_row}
use Rattle.gw_owes.specs.Payments.{serve_row}
use Rattle.gw_owes.specs.Reconciliations.{reply_to_settled, serving_day, settled_of}
use Rattle.gw_owes.specs.SessionRows.{success_reply}
use Rattle.gw_owes.specs.Reply.{ReplyValue}
use Rattle.gw_owes.specs.Reports.{Report, on_record, outcome_reported, report_against, report_of_open, standing_reported}
use Rattle.gw_owes.specs.Row.{Known, Row, becoming, owing, owing_nothing, owing_where}
use Rattle.gw_owes.specs.Rows.{asked_row}
use Rattle.gw_owes.specs.Serving.{approved_outcome, approved_row, at_rest, breaking, declined_outcome, done_with, last_after_decline, reply_to_outcome, resolves, serving_transaction, staying, stops, was_stopped}
use Rattle.gw_owes.specs.Sessions.{pairs_after}
use Rattle.gw_owes.specs.TerminalLaws.{HasNoTrace}
use Rattle.gw_owes.specs.TerminalRows.{terminal_of, terminal_row}
use Rattle.gw_owes.specs.Terminals.{after_command, asker_but, asker_of_lost, forgets_till, registers, registration, reply_calls_to, reply_to_lost, terminal_at, terminal_becomes, unlinked_terminal, unlinks}
use Rattle.gw_owes.specs.WaitingRows.{next_waiting_row, overdue_row, queue_row}
use Rattle.gw_owes.specs.Waits.{queue_of, first_waiting}
use Rattle.gw_owes.specs.declared.terminal.Service.{Service}
use Rattle.gw_owes.specs.declared.terminal.Service.TheVariants.{Transaction, EndOfDay, Display}
use Rattle.gw_owes.specs.declared.terminal.Standing.{Standing}
use Rattle.gw_owes.specs.declared.terminal.Standing.TheVariants.{Unlinked, Registering, Enquiring, Ready, Serving, Aside}
use Rattle.gw_owes.specs.declared.terminal.Terminal.{Terminal}
use Rattle.gw_owes.proofs.HandlingLemmas.{by-where, each-handled, each-linked, each-terminal}
use Rattle.gw_owes.proofs.NextLemmas.{WaitsFirst, each-next, each-overdue, each-queued, known_without}
use Rattle.gw_owes.proofs.PaymentLemmas.{each-served, settled_row}
use Rattle.gw_owes.proofs.SetLemmas.{new-is-there, others-stay, same-some}

-- ---- what a message leaves

-- the new terminal has the old one's till and serves nothing more, or has none and is ready
abbrev LeftBy : Option ℕ → Standing → Terminal → Type 0
LeftBy asker standing new =
    ((new.asker ≡ asker) × ((service : Service) (last : ℕ) → new.standing ≡ Serving service last → standing ≡ Serving service last)) ⊎ ((new.asker ≡ None) × ((last : ℕ) × (new.standing ≡ Ready last)))

-- these calls send nothing to any till but this one
abbrev SendsOnly : Option ℕ → List OwedCall → Type 0
SendsOnly asker calls = (tills_sent calls ≡ []) ⊎ ((till : ℕ) × (asker ≡ Some till) × (tills_sent calls ≡ till ∷ []))

-- the row of a terminal with this standing
record Leaves (known : Known) (number : ℕ) (terminal : Terminal) (standing : Standing) (row : Row) : Type 0 where
  new : Terminal
  calls : List OwedCall
  row_is : row ≡ terminal_becomes known number new calls
  left : LeftBy terminal.asker standing new
  sends : SendsOnly terminal.asker calls

reply-sends : (asker : Option ℕ) (reply : Option ReplyValue) → SendsOnly asker (reply_calls_to asker reply)
reply-sends None reply = inl refl
reply-sends (Some till) None = inl refl
reply-sends (Some till) (Some reply) = inr (till, refl, refl)

module _ (known : Known) (number : ℕ) (terminal : Terminal) (standing : Standing) (is : terminal.standing ≡ standing) where
  stays : Leaves known number terminal standing (staying known number terminal)
  stays = record { new = terminal; calls = []; row_is = refl; left = inl (refl, λ service last e. sym is ∙ e); sends = inl refl }

  breaks : Leaves known number terminal standing (breaking known number terminal)
  breaks = record { new = terminal; calls = CutPt number ∷ []; row_is = refl; left = inl (refl, λ service last e. sym is ∙ e); sends = inl refl }

  stopped : Leaves known number terminal standing (stops known number terminal)
  stopped = record { new = _; calls = _; row_is = refl; left = inl (refl, λ service last e. sym is ∙ e); sends = inl refl }

  enquired : Leaves known number terminal standing (enquires known number terminal)
  enquired = record { new = _; calls = _; row_is = refl; left = inl (refl, λ service last e. absurd cc); sends = inl refl }

  -- it has another standing, and serves nothing
  rests : (after : Standing) → ((service : Service) (last : ℕ) → after ≢ Serving service last) → Leaves known number terminal standing (terminal_becomes known number (at_rest terminal after) [])
  rests after idle = record { new = at_rest terminal after; calls = []; row_is = refl; left = inl (refl, λ service last e. absurd (idle service last e)); sends = inl refl }

  -- it is ready, and its till gets a reply
  replied : (last : ℕ) (reply : Option ReplyValue) → Leaves known number terminal standing (terminal_becomes known number (done_with terminal (Ready last)) (reply_calls_to terminal.asker reply))
  replied last reply = record { new = done_with terminal (Ready last); calls = _; row_is = refl; left = inr (refl, (last, refl)); sends = reply-sends terminal.asker reply }

  -- and a record is kept before
  keeps : (last slot : ℕ) (the_record : Record) (reply : Option ReplyValue)
      → Leaves known number terminal standing (terminal_becomes known number (done_with terminal (Ready last)) (keep_calls slot the_record ++ reply_calls_to terminal.asker reply))
  keeps last slot the_record reply = record { new = done_with terminal (Ready last); calls = _; row_is = refl; left = inr (refl, (last, refl)); sends = reply-sends terminal.asker reply }

  resolved : (last : ℕ) (outcome : TheOutcome) → Leaves known number terminal standing (resolves known number terminal (Ready last) outcome)
  resolved last outcome = keeps last (length known.kept) (Outcome outcome) (reply_to_outcome known.kept outcome.slot outcome)

  by-open : (report : Report) (entry : TheEntry) → Leaves known number terminal standing (report_of_open known number terminal report entry)
  by-open report entry = by-number (nat_le entry.intent.before report.trace)
    where
      by-number : (least : Bool) → Leaves known number terminal standing (if least then resolves known number terminal (Ready report.trace) (outcome_reported entry report known.moment) else terminal_becomes known number (at_rest terminal (Aside entry.intent.before report.trace)) [])
      by-number true = resolved report.trace (outcome_reported entry report known.moment)
      by-number false = rests (Aside entry.intent.before report.trace) (λ service last e. cc)

  reported : (opened : Option TheEntry) (least : ℕ) (report : Report) → Leaves known number terminal standing (report_against opened least known number terminal report)
  reported None least report = rests (standing_reported least report.trace) (by-number (nat_le least report.trace))
    where
      by-number : (fits : Bool) (service : Service) (last : ℕ) → (if fits then Ready report.trace else Aside least report.trace) ≢ Serving service last
      by-number true service last e = cc
      by-number false service last e = cc
  reported (Some entry) least report = by-open report entry

  registering-leaves : (meant : Heard) → Leaves known number terminal standing (registering known number terminal meant)
  registering-leaves (heard.Begun stop) = stays
  registering-leaves (heard.Note intermediate_status) = stays
  registering-leaves heard.Line = stays
  registering-leaves heard.Block = stays
  registering-leaves heard.Seen = stays
  registering-leaves (heard.Approved figures) = stays
  registering-leaves heard.Done = enquired
  registering-leaves (heard.Told trace reported_approved result_code) = stays
  registering-leaves (heard.Declined result_code trace) = breaks
  registering-leaves heard.Unclear = breaks
  registering-leaves heard.Stray = stays

  enquiring-leaves : (meant : Heard) → Leaves known number terminal standing (enquiring known number terminal meant)
  enquiring-leaves (heard.Begun stop) = stays
  enquiring-leaves (heard.Note intermediate_status) = stays
  enquiring-leaves heard.Line = stays
  enquiring-leaves heard.Block = stays
  enquiring-leaves heard.Seen = stays
  enquiring-leaves (heard.Approved figures) = stays
  enquiring-leaves heard.Done = stays
  enquiring-leaves (heard.Told trace reported_approved result_code) = reported (on_record known.kept terminal.pt.poi).opened (on_record known.kept terminal.pt.poi).last (record { trace = trace; approved = reported_approved; result_code = result_code })
  enquiring-leaves (heard.Declined result_code trace) = breaks
  enquiring-leaves heard.Unclear = breaks
  enquiring-leaves heard.Stray = stays

  day-leaves : (last : ℕ) (header : Header) (meant : Heard) → Leaves known number terminal standing (serving_day known number terminal last header meant)
  day-leaves last header (heard.Begun true) = stopped
  day-leaves last header (heard.Begun false) = stays
  day-leaves last header (heard.Note intermediate_status) = stays
  day-leaves last header heard.Line = stays
  day-leaves last header heard.Block = stays
  day-leaves last header heard.Seen = stays
  day-leaves last header (heard.Approved figures) = stays
  day-leaves last header heard.Done = keeps last (length known.kept) (Settled (settled_of hows.Acquirer header terminal.pt.currency known.moment)) (reply_to_settled known.kept (settled_of hows.Acquirer header terminal.pt.currency known.moment))
  day-leaves last header (heard.Told trace reported_approved result_code) = stays
  day-leaves last header (heard.Declined result_code trace) = replied last _
  day-leaves last header heard.Unclear = breaks
  day-leaves last header heard.Stray = stays

  display-leaves : (last : ℕ) (header : Header) (results : Option (List Shown)) (meant : Heard) → Leaves known number terminal standing (serving_display known number terminal last header results meant)
  display-leaves last header results (heard.Begun stop) = stays
  display-leaves last header results (heard.Note intermediate_status) = stays
  display-leaves last header results heard.Line = stays
  display-leaves last header results heard.Block = stays
  display-leaves last header results heard.Seen = stays
  display-leaves last header results (heard.Approved figures) = stays
  display-leaves last header results heard.Done = replied last _
  display-leaves last header results (heard.Told trace reported_approved result_code) = stays
  display-leaves last header results (heard.Declined result_code trace) = replied last _
  display-leaves last header results heard.Unclear = breaks
  display-leaves last header results heard.Stray = stays

  approved : (slot last : ℕ) (figures : Figures) → Leaves known number terminal standing (approved_row known number terminal slot last figures)
  approved slot last figures = by-number (nat_lt last figures.number)
    where
      by-number : (above : Bool) → Leaves known number terminal standing (if above then resolves known number terminal (Ready figures.number) (approved_outcome slot figures known.moment) else terminal_becomes known number (at_rest terminal (Aside last figures.number)) [])
      by-number true = resolved figures.number (approved_outcome slot figures known.moment)
      by-number false = rests (Aside last figures.number) (λ service later e. cc)

  transaction-leaves : (slot last : ℕ) (meant : Heard) → Leaves known number terminal standing (serving_transaction known number terminal slot last meant)
  transaction-leaves slot last (heard.Begun true) = stopped
  transaction-leaves slot last (heard.Begun false) = stays
  transaction-leaves slot last (heard.Note intermediate_status) = stays
  transaction-leaves slot last heard.Line = stays
  transaction-leaves slot last heard.Block = stays
  transaction-leaves slot last heard.Seen = stays
  transaction-leaves slot last (heard.Approved figures) = approved slot last figures
  transaction-leaves slot last heard.Done = stays
  transaction-leaves slot last (heard.Told trace reported_approved result_code) = stays
  transaction-leaves slot last (heard.Declined result_code trace) = resolved (last_after_decline last trace) (declined_outcome slot result_code (was_stopped terminal.talk) known.moment)
  transaction-leaves slot last heard.Unclear = breaks
  transaction-leaves slot last heard.Stray = stays

  service-leaves : (service : Service) (last : ℕ) (meant : Heard) → Leaves known number terminal standing (serving known number terminal service last meant)
  service-leaves (Transaction slot) last meant = transaction-leaves slot last meant
  service-leaves (EndOfDay header period) last meant = day-leaves last header meant
  service-leaves (Display header results) last meant = display-leaves last header results meant

consequence-leaves : (known : Known) (number : ℕ) (terminal : Terminal) (meant : Heard) (standing : Standing) → terminal.standing ≡ standing → is_linked standing ≡ true
    → Leaves known number terminal standing (consequence known number terminal meant standing)
consequence-leaves known number terminal meant (Unlinked due) is linked = absurd cc
consequence-leaves known number terminal meant Registering is linked = registering-leaves known number terminal Registering is meant
consequence-leaves known number terminal meant Enquiring is linked = enquiring-leaves known number terminal Enquiring is meant
consequence-leaves known number terminal meant (Ready last) is linked = stays known number terminal (Ready last) is
consequence-leaves known number terminal meant (Serving service last) is linked = service-leaves known number terminal (Serving service last) is service last meant
consequence-leaves known number terminal meant (Aside before reported) is linked = stays known number terminal (Aside before reported) is

-- ---- what a row leaves

-- what the row of this terminal leaves: each terminal keeps its till, or needs none, or begins for one
abbrev After : Known → RoundItem → Row → Type 0
After known item row =
    (number : ℕ) (new : Terminal) → slice_get row.core.terminals number ≡ Some new → KeepsTill known.core number new ⊎ (NeedsNoTill known.core number new ⊎ BeginsFor known.core item number new)

-- no terminal changes
unchanged : (known : Known) (item : RoundItem) (number : ℕ) (new : Terminal) → slice_get known.core.terminals number ≡ Some new → KeepsTill known.core number new ⊎ (NeedsNoTill known.core number new ⊎ BeginsFor known.core item number new)
unchanged known item number new found = inl (record { old = new; found = found; same = refl; served = λ service last e. e })

same-after : (known : Known) (item : RoundItem) (row : Row) → row.core.terminals ≡ known.core.terminals → After known item row
same-after known item row same number new found =
    inl (record { old = new; found = subst (λ (terminals : List Terminal). slice_get terminals number ≡ Some new) same found; same = refl; served = λ service last e. e })

-- one terminal becomes another
set-after : (known : Known) (item : RoundItem) (at : ℕ) (old next : Terminal) (calls : List OwedCall) → terminal_at known at ≡ Some old
    → (KeepsTill known.core at next ⊎ (NeedsNoTill known.core at next ⊎ BeginsFor known.core item at next)) → After known item (terminal_becomes known at next calls)
set-after known item at old next calls there left number new found = by-number (number == at) refl
  where
    by-number : (same : Bool) → (number == at) ≡ same → KeepsTill known.core number new ⊎ (NeedsNoTill known.core number new ⊎ BeginsFor known.core item number new)
    by-number true e =
        let n : number ≡ at = eqb-true number at e in
        let t : next ≡ new = same-some next new (sym (new-is-there known.core.terminals at old next there) ∙ sym (ap (slice_get (set known.core.terminals at next)) n) ∙ found) in
        subst (λ (k : ℕ). KeepsTill known.core k new ⊎ (NeedsNoTill known.core k new ⊎ BeginsFor known.core item k new)) (sym n)
        (subst (λ (k : Terminal). KeepsTill known.core at k ⊎ (NeedsNoTill known.core at k ⊎ BeginsFor known.core item at k)) t left)
    by-number false e =
        inl (record {
          old = new;
          found = sym (others-stay known.core.terminals at number next (λ n. let f : true ≡ false = sym (eq-eqb number at n) ∙ e in cc)) ∙ found;
          same = refl;
          served = λ service last s. s;
        })

-- what the row owes any till goes to the terminal's, or to the one that asks
abbrev Sends : Known → RoundItem → ℕ → Row → Type 0
Sends known item number row = (tills_sent row.calls ≡ []) ⊎ (SendsItsTill known number row.calls ⊎ SendsAsking known.core item number row.calls)

sends-its : (known : Known) (number : ℕ) (terminal : Terminal) (calls : List OwedCall) → terminal_at known number ≡ Some terminal → SendsOnly terminal.asker calls → (tills_sent calls ≡ []) ⊎ SendsItsTill known number calls
sends-its known number terminal calls found (inl none) = inl none
sends-its known number terminal calls found (inr (till, asks, sent)) = inr (record { terminal = terminal; found = found; till = till; asker_is = asks; sent = sent })

sends-in : (known : Known) (item : RoundItem) (number : ℕ) (row : Row) → (tills_sent row.calls ≡ []) ⊎ SendsItsTill known number row.calls → Sends known item number row
sends-in known item number row (inl none) = inl none
sends-in known item number row (inr its) = inr (inl its)

-- both
record IsWell (known : Known) (item : RoundItem) (number : ℕ) (row : Row) : Type 0 where
  after : After known item row
  sends : Sends known item number row

same-well : (known : Known) (item : RoundItem) (number : ℕ) (row : Row) → row.core ≡ known.core → tills_sent row.calls ≡ [] → IsWell known item number row
same-well known item number row same none = record { after = same-after known item row (ap (λ (core : Core). core.terminals) same); sends = inl none }

nothing-well : (known : Known) (item : RoundItem) (number : ℕ) → IsWell known item number (owing_nothing known)
nothing-well known item number = same-well known item number (owing_nothing known) refl refl

left-in : (known : Known) (item : RoundItem) (number : ℕ) (old new : Terminal) → terminal_at known number ≡ Some old → LeftBy old.asker old.standing new
    → KeepsTill known.core number new ⊎ (NeedsNoTill known.core number new ⊎ BeginsFor known.core item number new)
left-in known item number old new found (inl (same, served)) = inl (record { old = old; found = found; same = same; served = served })
left-in known item number old new found (inr (none, ready)) = inr (inl (record { old = old; found = found; none = none; over = inl ready }))

-- the row of a message
leaves-well : (known : Known) (item : RoundItem) (number : ℕ) (old terminal : Terminal) (row : Row) → terminal_at known number ≡ Some old → terminal.asker ≡ old.asker → Leaves known number terminal old.standing row
    → IsWell known item number row
leaves-well known item number old terminal row found same leaves =
    subst (IsWell known item number) (sym leaves.row_is) (record {
      after = set-after known item number old leaves.new leaves.calls found (left-in known item number old leaves.new found (subst (λ (asker : Option ℕ). LeftBy asker old.standing leaves.new) same leaves.left));
      sends = sends-in known item number (terminal_becomes known number leaves.new leaves.calls) (sends-its known number old leaves.calls found (subst (λ (asker : Option ℕ). SendsOnly asker leaves.calls) same leaves.sends));
    })

handle-well : (known : Known) (number : ℕ) (apdu : ApduValue) → IsWell known (Handle number apdu) number (handle_row known number apdu)
handle-well known number apdu =
    each-handled (IsWell known (Handle number apdu) number) known number apdu (nothing-well known (Handle number apdu) number)
    (λ terminal message found linked is taken. leaves-well known (Handle number apdu) number terminal (taking terminal message known.moment) _ found refl (consequence-leaves known number (taking terminal message known.moment) (meaning_at terminal message) terminal.standing refl linked))
    (λ terminal message found linked is taken at stays. record { after = stays.after; sends = inr (inl (record { terminal = terminal; found = found; till = at.till; asker_is = at.asker_is; sent = refl })) })

-- ---- what a request leaves

serve-well : (known : Known) (number till : ℕ) (header : Header) (request : SaleRequest) → IsWell known (Serve number till header request) number (serve_row known number till header request)
serve-well known number till header request = each-served (IsWell known item number) known number till header request (record {
  none = nothing-well known item number;
  begins = λ terminal last asking at. begun terminal last _ _ at.found at.standing_is refl refl;
  sent = λ terminal talk at may. kept terminal _ _ at.found refl refl refl;
  wished = λ terminal talk at may. kept terminal _ _ at.found refl refl refl;
  session = λ success. record { after = same-after known item (becoming (record known.core { logged_out = pairs_after known.core header request }) (SendTill till (success_reply header) ∷ [])) refl; sends = inr (inr (record { till = till; asked = asks; sent = refl })) };
  settles = λ terminal at. record { after = same-after known item (settled_row known till header terminal) refl; sends = replies (reply_to_settled known.kept (settled_of hows.Sale header terminal.pt.currency known.moment)) (settled_row known till header terminal) refl };
  day = λ terminal last at. begun terminal last _ _ at.found at.standing_is refl refl;
  displays = λ terminal last outputs command at. begun terminal last _ _ at.found at.standing_is refl refl;
})
  where
    item : RoundItem
    item = Serve number till header request

    asks : IsAboutRequestOf known.core item number till
    asks = inl (record { header = header; request = request; item_is = refl })

    begun : (terminal : Terminal) (last : ℕ) (new : Terminal) (calls : List OwedCall) → terminal_at known number ≡ Some terminal → terminal.standing ≡ Ready last → new.asker ≡ Some till → tills_sent calls ≡ []
        → IsWell known item number (terminal_becomes known number new calls)
    begun terminal last new calls found ready for_till none = record {
      after = set-after known item number terminal new calls found
          (inr (inr (record { old = terminal; last = last; found = found; ready = ready; till = till; asked = asks; for_till = for_till })));
      sends = inl none;
    }

    kept : (terminal new : Terminal) (calls : List OwedCall) → terminal_at known number ≡ Some terminal → new.asker ≡ terminal.asker → new.standing ≡ terminal.standing → tills_sent calls ≡ []
        → IsWell known item number (terminal_becomes known number new calls)
    kept terminal new calls found same stands none = record {
      after = set-after known item number terminal new calls found (inl (record { old = terminal; found = found; same = same; served = λ service last e. sym stands ∙ e }));
      sends = inl none;
    }

    replies : (reply : Option ReplyValue) (row : Row) → tills_sent row.calls ≡ tills_sent (reply_calls_to (Some till) reply) → Sends known item number row
    replies None row same = inl same
    replies (Some reply) row same = inr (inr (record { till = till; asked = asks; sent = same }))

-- ---- what becomes of a request that waits

next-well : (known : Known) (number : ℕ) → IsWell known (NextWaiting number) number (next_waiting_row known number)
next-well known number = each-next (IsWell known item number) known number (record {
  none = nothing-well known item number;
  refused = λ terminal last wait condition first is. record { after = unchanged known item; sends = inr (inr (record { till = wait.till; asked = asks wait first.first_is; sent = refl })) };
  begins = λ terminal last wait asking at. begun terminal last wait _ _ at.first refl refl;
  day = λ terminal last wait at. begun terminal last wait _ _ at.first refl refl;
  left = λ terminal last wait first. record { after = unchanged known item; sends = inl refl };
})
  where
    item : RoundItem
    item = NextWaiting number

    asks : (wait : Wait) → first_waiting (queue_of number known.core.waits) ≡ Some wait → IsAboutRequestOf known.core item number wait.till
    asks wait first_is = inr (record { wait = wait; item_is = refl; first_is = first_is; till_is = refl })

    begun : (terminal : Terminal) (last : ℕ) (wait : Wait) (new : Terminal) (calls : List OwedCall) → WaitsFirst known number terminal last wait → new.asker ≡ Some wait.till → tills_sent calls ≡ []
        → IsWell known item number (terminal_becomes (known_without known wait) number new calls)
    begun terminal last wait new calls first for_till none = record {
      after = set-after known item number terminal new calls first.found
          (inr (inr (record { old = terminal; last = last; found = first.found; ready = first.standing_is; till = wait.till; asked = asks wait first.first_is; for_till = for_till })));
      sends = inl none;
    }

-- what waits changes, and no terminal
queue-keeps : (known : Known) (at till : ℕ) (header : Header) (request : SaleRequest) → After known (Queue at till header request) (queue_row known at till header request)
queue-keeps known at till header request =
    each-queued (After known (Queue at till header request)) known at till header request
    (record { none = unchanged known (Queue at till header request); joins = λ terminal key why. unchanged known (Queue at till header request); taken = λ wait why. unchanged known (Queue at till header request) })

overdue-keeps : (known : Known) (key : Key) → After known (Overdue key) (overdue_row known key)
overdue-keeps known key = each-overdue (After known (Overdue key)) known key (record { none = unchanged known (Overdue key); taken = λ wait waits overdue. unchanged known (Overdue key) })

-- ---- links

-- what the loss of its link leaves of a terminal
lost-left : (core : Core) (number moment : ℕ) (terminal : Terminal) (standing : Standing) → slice_get core.terminals number ≡ Some terminal → terminal.standing ≡ standing
    → KeepsTill core number (unlinked_terminal terminal moment) ⊎ NeedsNoTill core number (unlinked_terminal terminal moment)
lost-left core number moment terminal standing found is = by-standing standing is
  where
    kept : (unlinked_terminal terminal moment).asker ≡ terminal.asker → KeepsTill core number (unlinked_terminal terminal moment) ⊎ NeedsNoTill core number (unlinked_terminal terminal moment)
    kept same = inl (record { old = terminal; found = found; same = same; served = λ service last e. absurd cc })

    over : (service : Service) (last : ℕ) → terminal.standing ≡ Serving service last → HasNoTrace service → (unlinked_terminal terminal moment).asker ≡ None
        → KeepsTill core number (unlinked_terminal terminal moment) ⊎ NeedsNoTill core number (unlinked_terminal terminal moment)
    over service last serves no_trace none =
        inr (record { old = terminal; found = found; none = none; over = inr (service, last, Some (moment + 5), serves, no_trace, refl) })

    by-standing : (of_it : Standing) → terminal.standing ≡ of_it → KeepsTill core number (unlinked_terminal terminal moment) ⊎ NeedsNoTill core number (unlinked_terminal terminal moment)
    by-standing (Unlinked due) e = kept (ap (asker_of_lost terminal.asker) e)
    by-standing Registering e = kept (ap (asker_of_lost terminal.asker) e)
    by-standing Enquiring e = kept (ap (asker_of_lost terminal.asker) e)
    by-standing (Ready last) e = kept (ap (asker_of_lost terminal.asker) e)
    by-standing (Serving (Transaction slot) last) e = kept (ap (asker_of_lost terminal.asker) e)
    by-standing (Serving (EndOfDay header period) last) e = over (EndOfDay header period) last e (record {}) (ap (asker_of_lost terminal.asker) e)
    by-standing (Serving (Display header results) last) e = over (Display header results) last e (record {}) (ap (asker_of_lost terminal.asker) e)
    by-standing (Aside before reported) e = kept (ap (asker_of_lost terminal.asker) e)

-- the row of a link that is lost, whatever the item
wider : (known : Known) (item : RoundItem) (number : ℕ) (new : Terminal) → KeepsTill known.core number new ⊎ NeedsNoTill known.core number new
    → KeepsTill known.core number new ⊎ (NeedsNoTill known.core number new ⊎ BeginsFor known.core item number new)
wider known item number new (inl kept) = inl kept
wider known item number new (inr none) = inr (inl none)

lost-well : (known : Known) (item : RoundItem) (number : ℕ) → IsWell known item number (link_row known number LinkIsLost)
lost-well known item number =
    each-terminal (IsWell known item number) known number (unlinks known number) (nothing-well known item number) (λ terminal found. record {
      after = set-after known item number terminal (unlinked_terminal terminal known.moment) (reply_calls_to terminal.asker (reply_to_lost terminal.standing)) found (wider known item number (unlinked_terminal terminal known.moment) (lost-left known.core number known.moment terminal terminal.standing found refl));
      sends = sends-in known item number (unlinks known number terminal) (sends-its known number terminal (reply_calls_to terminal.asker (reply_to_lost terminal.standing)) found (reply-sends terminal.asker (reply_to_lost terminal.standing)));
    })

made-well : (known : Known) (item : RoundItem) (number : ℕ) → IsWell known item number (link_row known number LinkIsMade)
made-well known item number =
    each-terminal (IsWell known item number) known number (registers known number) (nothing-well known item number) (λ terminal found. record {
      after = set-after known item number terminal (after_command (record terminal { awaited = 0 }) (registration terminal.pt) Registering known.moment) (SendPt number (Ask (registration terminal.pt)) ∷ []) found (inl (record { old = terminal; found = found; same = refl; served = λ service last e. absurd cc }));
      sends = inl refl;
    })

link-well : (known : Known) (item : RoundItem) (number : ℕ) (event : LinkEvent) → IsWell known item number (link_row known number event)
link-well known item number LinkIsMade = made-well known item number
link-well known item number LinkHasFailed = lost-well known item number
link-well known item number LinkIsLost = lost-well known item number

-- ---- every other item

greets-none : (number : ℕ) (sending : Option Sending) → tills_sent (sending_calls number sending) ≡ []
greets-none number None = refl
greets-none number (Some sending) = refl

greet-well : (known : Known) (item : RoundItem) (number : ℕ) (decoded : Result MessageValue PtFault) → IsWell known item number (greet_decoded known number decoded)
greet-well known item number (Ok message) =
    each-linked (IsWell known item number) known number (λ terminal. owing known (sending_calls number (greeting message))) (nothing-well known item number)
    (λ terminal found linked. same-well known item number _ refl (greets-none number (greeting message)))
greet-well known item number (Err fault) =
    each-linked (IsWell known item number) known number (λ terminal. cutting known number) (nothing-well known item number) (λ terminal found linked. same-well known item number _ refl refl)

late-well : (known : Known) (item : RoundItem) (number : ℕ) → IsWell known item number (late_row known number)
late-well known item number =
    each-terminal (IsWell known item number) known number (λ terminal. owing_where (is_late known.moment terminal.talk) known (cutting known number)) (nothing-well known item number)
    (λ terminal found. by-where (IsWell known item number) known (cutting known number) (is_late known.moment terminal.talk) (nothing-well known item number) (λ late. same-well known item number _ refl refl))

due-well : (known : Known) (item : RoundItem) (number : ℕ) → IsWell known item number (due_row known number)
due-well known item number =
    each-terminal (IsWell known item number) known number (λ terminal. owing_where (is_due known.moment terminal.standing) known (owing known (LinkPt number ∷ []))) (nothing-well known item number)
    (λ terminal found. by-where (IsWell known item number) known (owing known (LinkPt number ∷ [])) (is_due known.moment terminal.standing) (nothing-well known item number) (λ due. same-well known item number _ refl refl))

-- the row of each item of a terminal
terminal-well : (known : Known) (item : RoundItem) (number : ℕ) → terminal_of item ≡ Some number → IsWell known item number (terminal_row known item)
terminal-well known (Crowded till) number is = absurd cc
terminal-well known (Message till bytes) number is = absurd cc
terminal-well known (Asked till as_read) number is = absurd cc
terminal-well known (Unframed till) number is = absurd cc
terminal-well known (Gone till) number is = absurd cc
terminal-well known (Greet at apdu) number is = let e : at ≡ number = cc in subst (λ n. IsWell known (Greet at apdu) n (greet_row known at apdu)) e (greet-well known (Greet at apdu) at (decode_pt_message apdu))
terminal-well known (Handle at apdu) number is = let e : at ≡ number = cc in subst (λ n. IsWell known (Handle at apdu) n (handle_row known at apdu)) e (handle-well known at apdu)
terminal-well known (Serve at till header request) number is =
    let e : at ≡ number = cc in subst (λ n. IsWell known (Serve at till header request) n (serve_row known at till header request)) e (serve-well known at till header request)
terminal-well known (Queue at till header request) number is = absurd cc
terminal-well known (NextWaiting at) number is = let e : at ≡ number = cc in subst (λ n. IsWell known (NextWaiting at) n (next_waiting_row known at)) e (next-well known at)
terminal-well known (Oversized at) number is = let e : at ≡ number = cc in subst (λ n. IsWell known (Oversized at) n (oversized_row known at)) e
    (each-linked (IsWell known (Oversized at) at) known at (λ terminal. cutting known at) (nothing-well known (Oversized at) at) (λ terminal found linked. same-well known (Oversized at) at _ refl refl))
terminal-well known (LinkLost at) number is = let e : at ≡ number = cc in subst (λ n. IsWell known (LinkLost at) n (link_row known at LinkIsLost)) e (lost-well known (LinkLost at) at)
terminal-well known (Late at) number is = let e : at ≡ number = cc in subst (λ n. IsWell known (Late at) n (late_row known at)) e (late-well known (Late at) at)
terminal-well known (Overdue key) number is = absurd cc
terminal-well known (Due at) number is = let e : at ≡ number = cc in subst (λ n. IsWell known (Due at) n (due_row known at)) e (due-well known (Due at) at)

-- ---- the laws

pub each-item-keeps-till : EachItemKeepsTill
each-item-keeps-till tills known (Crowded till) number new stays found = unchanged known (Crowded till) number new found
each-item-keeps-till tills known (Message till bytes) number new stays found = unchanged known (Message till bytes) number new found
each-item-keeps-till tills known (Asked till as_read) number new stays found =
    by-where (After known (Asked till as_read)) known (asked_row known till as_read) (is_connected tills till) (unchanged known (Asked till as_read)) (λ there. unchanged known (Asked till as_read)) number new found
each-item-keeps-till tills known (Unframed till) number new stays found =
    by-where (After known (Unframed till)) known (owing known (CutTill till ∷ [])) (is_connected tills till) (unchanged known (Unframed till)) (λ there. unchanged known (Unframed till)) number new found
each-item-keeps-till tills known (Gone till) number new stays found = absurd cc
each-item-keeps-till tills known (Greet at apdu) number new stays found = IsWell.after (terminal-well known (Greet at apdu) at refl) number new found
each-item-keeps-till tills known (Handle at apdu) number new stays found = IsWell.after (terminal-well known (Handle at apdu) at refl) number new found
each-item-keeps-till tills known (Serve at till header request) number new stays found = IsWell.after (terminal-well known (Serve at till header request) at refl) number new found
each-item-keeps-till tills known (Queue at till header request) number new stays found = queue-keeps known at till header request number new found
each-item-keeps-till tills known (NextWaiting at) number new stays found = IsWell.after (terminal-well known (NextWaiting at) at refl) number new found
each-item-keeps-till tills known (Oversized at) number new stays found = IsWell.after (terminal-well known (Oversized at) at refl) number new found
each-item-keeps-till tills known (LinkLost at) number new stays found = IsWell.after (terminal-well known (LinkLost at) at refl) number new found
each-item-keeps-till tills known (Late at) number new stays found = IsWell.after (terminal-well known (Late at) at refl) number new found
each-item-keeps-till tills known (Overdue key) number new stays found = overdue-keeps known key number new found
each-item-keeps-till tills known (Due at) number new stays found = IsWell.after (terminal-well known (Due at) at refl) number new found

pub each-served-keeps-till : EachServedKeepsTill
each-served-keeps-till tills known item number old new service other last later stays found serves there served = by-left (each-item-keeps-till tills known item number new stays there)
  where
    by-over : (before : Terminal) → IsOver before new → new.asker ≡ old.asker
    by-over before (inl (number_then, ready)) = let e : Ready number_then ≡ Serving other later = sym ready ∙ served in absurd cc
    by-over before (inr (was, number_then, due, stood, no_trace, unlinked)) = let e : Unlinked due ≡ Serving other later = sym unlinked ∙ served in absurd cc

    by-left : KeepsTill known.core number new ⊎ (NeedsNoTill known.core number new ⊎ BeginsFor known.core item number new) → new.asker ≡ old.asker
    by-left (inl keeps) = keeps.same ∙ ap (λ (t : Terminal). t.asker) (same-some keeps.old old (sym keeps.found ∙ found))
    by-left (inr (inl none)) = by-over none.old none.over
    by-left (inr (inr begins)) =
        let t : begins.old ≡ old = same-some begins.old old (sym begins.found ∙ found) in
        let e : Ready begins.last ≡ Serving service last = sym begins.ready ∙ (ap (λ (s : Terminal). s.standing) t ∙ serves) in absurd cc

-- an item of no terminal is about no request of a till
none-asked : (core : Core) (key : Key) (number till : ℕ) → IsAboutRequestOf core (Overdue key) number till → ⊥
none-asked core key number till (inl now) = let e = now.item_is in cc
none-asked core key number till (inr first) = let e = first.item_is in cc

pub each-link-keeps-till : EachLinkKeepsTill
each-link-keeps-till known at event number new found = by-left (IsWell.after (link-well known (Overdue (record { sale = []; poi = []; service = [] })) at event) number new found)
  where
    by-left : KeepsTill known.core number new ⊎ (NeedsNoTill known.core number new ⊎ BeginsFor known.core (Overdue (record { sale = []; poi = []; service = [] })) number new) → KeepsTill known.core number new ⊎ NeedsNoTill known.core number new
    by-left (inl keeps) = inl keeps
    by-left (inr (inl none)) = inr none
    by-left (inr (inr begins)) = absurd (none-asked known.core _ number begins.till begins.asked)

-- the till of a terminal once this one is gone
but-own : (till : ℕ) (asker : Option ℕ) → asker ≡ Some till → asker_but till asker ≡ None
but-own till None own = absurd cc
but-own till (Some asker) own = ap (λ (b : Bool). if b then None else Some asker) (eq-eqb asker till (same-some asker till own))

but-other : (till : ℕ) (asker : Option ℕ) → asker ≢ Some till → asker_but till asker ≡ asker
but-other till None other = refl
but-other till (Some asker) other = by-test (asker == till) refl
  where
    by-test : (same : Bool) → (asker == till) ≡ same → (if same then None else Some asker) ≡ Some asker
    by-test true e = absurd (other (ap (λ (n : ℕ). Some n) (eqb-true asker till e)))
    by-test false e = refl

pub each-gone-forgotten : EachGoneIsForgotten
each-gone-forgotten core till number old found = record {
  new = forgets_till till old;
  found = slice_get-map (forgets_till till) core.terminals number ∙ ap (option_map (forgets_till till)) found;
  forgets = record { own = but-own till old.asker; other = but-other till old.asker; standing = refl };
}

pub gone-leaves-rest : GoneLeavesRest
gone-leaves-rest tills known till = refl

pub each-send-to-its : EachSendIsToIts
each-send-to-its tills known (Crowded till) number is = absurd cc
each-send-to-its tills known (Message till bytes) number is = absurd cc
each-send-to-its tills known (Asked till as_read) number is = absurd cc
each-send-to-its tills known (Unframed till) number is = absurd cc
each-send-to-its tills known (Gone till) number is = absurd cc
each-send-to-its tills known (Greet at apdu) number is = IsWell.sends (terminal-well known (Greet at apdu) number is)
each-send-to-its tills known (Handle at apdu) number is = IsWell.sends (terminal-well known (Handle at apdu) number is)
each-send-to-its tills known (Serve at till header request) number is = IsWell.sends (terminal-well known (Serve at till header request) number is)
each-send-to-its tills known (Queue at till header request) number is = absurd cc
each-send-to-its tills known (NextWaiting at) number is = IsWell.sends (terminal-well known (NextWaiting at) number is)
each-send-to-its tills known (Oversized at) number is = IsWell.sends (terminal-well known (Oversized at) number is)
each-send-to-its tills known (LinkLost at) number is = IsWell.sends (terminal-well known (LinkLost at) number is)
each-send-to-its tills known (Late at) number is = IsWell.sends (terminal-well known (Late at) number is)
each-send-to-its tills known (Overdue key) number is = absurd cc
each-send-to-its tills known (Due at) number is = IsWell.sends (terminal-well known (Due at) number is)

pub each-link-sends-its : EachLinkSendsIts
each-link-sends-its known number event = by-sends (IsWell.sends (link-well known (Overdue (record { sale = []; poi = []; service = [] })) number event))
  where
    by-sends : Sends known (Overdue (record { sale = []; poi = []; service = [] })) number (link_row known number event) → (tills_sent (link_row known number event).calls ≡ []) ⊎ SendsItsTill known number (link_row known number event).calls
    by-sends (inl none) = inl none
    by-sends (inr (inl its)) = inr its
    by-sends (inr (inr asking)) = absurd (none-asked known.core _ number asking.till asking.asked)

pub example-till : ExampleTill
unfolding decode_apdus decode_apdus_within decode_pt_message history
example-till = record { begins = refl; beside = refl; other_gone = refl; gone = refl; over = refl; lost = refl; status = refl; reply = refl; none = refl }
