-- Ends of day along lawful logs: which item keeps the Settled of one, and what the end of a link leaves.
use Rattle.std.proofs.Common.{◌≡◌, ℕ, List, [], ◌∷◌, ◌++◌, refl, sym, ◌∙◌, ap, subst, true, false, inl, inr, append_assoc, append-nil}
use Rattle.std.specs.Prelude.{Bool, ◌⊎◌, slice_get, Option, Some, None, Ok}
use Rattle.gw_base.specs.declared.condition.Condition.TheVariants.{UnavailableDevice}
use Rattle.gw_site.specs.Outside.{Connection, Outside, is_connected}
use Rattle.gw_site.specs.declared.turn.Turn.{Turn}
use Rattle.gw_site.specs.declared.turn.Turn.TheVariants.{Start, OpenFailed, Polled, Opened, HeardTill, Closed, HeardPt, Lost, Stopped, Linked, LinkFailed, SentTill, SentPt, CutTill, CutPt, Wrote, Synced, DiskFailed, Crash}
use Rattle.sale_values.specs.declared.header.Header.{Header}
use Rattle.sale_values.specs.declared.names.Period.{Period}
use Rattle.sale_values.specs.declared.request.SaleRequest.{SaleRequest}
use Rattle.zvt_apdu.specs.Grammar.{ApduValue}
use Rattle.zvt_msg.specs.Message.{Completion}
use Rattle.jrn_record.specs.declared.records.How.TheVariants as hows
use Rattle.jrn_record.specs.declared.records.Settled.{Settled as TheSettled}
use Rattle.jrn_record.specs.declared.records.Record.{Record}
use Rattle.jrn_record.specs.declared.records.Record.TheVariants.{Settled}
use Rattle.gw_owes.specs.Calls.{OwedCall, SendTill, SendPt, LinkPt, WriteBody, WriteGate, WriteFirstGate, Sync, records_kept, CutTill as OwedCutTill, CutPt as OwedCutPt}
use Rattle.gw_owes.specs.Handling.{handle_row, meaning_at}
use Rattle.gw_owes.specs.Items.{RoundItem, Crowded, Message, Asked, Unframed, Gone, Greet, Handle, Serve, Queue, NextWaiting, Oversized, LinkLost, Late, Overdue, Due}
use Rattle.gw_owes.specs.PaymentLaws.{EndsDay, KeepsAtEnd}
use Rattle.gw_owes.specs.Payments.{serve_row}
use Rattle.gw_owes.specs.Reconciliations.{settle_calls, settled_of}
use Rattle.gw_owes.specs.RecordLaws.{AreRecordsOf, IsDayServed, IsInOrder}
use Rattle.gw_owes.specs.Replies.{failure_reply}
use Rattle.gw_owes.specs.Row.{Known, Row}
use Rattle.gw_owes.specs.Rows.{row_of}
use Rattle.gw_owes.specs.Terminals.{of_terminal, reply_calls_to, reply_to_lost, unlinks, link_lost}
use Rattle.gw_owes.specs.Transcript.{Carried, EachRowFollowsTranscript, FollowsTranscript, as_carried}
use Rattle.gw_owes.specs.WaitingRows.{next_waiting_row}
use Rattle.gw_owes.specs.declared.terminal.Service.TheVariants.{EndOfDay}
use Rattle.gw_owes.specs.declared.terminal.Standing.TheVariants.{Serving}
use Rattle.gw_owes.specs.declared.terminal.Terminal.{Terminal}
use Rattle.gw_owes.proofs.PaymentLawLemmas.{each-record-of-an-end}
use Rattle.gw_owes.proofs.NextLemmas.{each-next}
use Rattle.gw_owes.proofs.PaymentLemmas.{each-served}
use Rattle.gw_owes.proofs.SetLemmas.{same-some}
use Rattle.gw_rules.specs.CutCauses.{HasSaidApdu}
use Rattle.gw_rules.specs.DayLogs.{last_but_stops, EachDayKeptWasCompleted, CutDayFails, LostDayFails}
use Rattle.gw_rules.specs.JournalFiles.{spare_disk}
use Rattle.gw_rules.specs.Lawful.{first_call, Begins, IsNext, IsCourse, turns_of, Stands}
use Rattle.gw_rules.specs.Scene.{known_in, row_in, link_made_at, link_lost_at, records_of}
use Rattle.gw_rules.specs.LinkLaws.{is_linked_after}
use Rattle.gw_rules.specs.Stage.{is_round}
use Rattle.gw_rules.specs.TranscriptLaws.{transcript_of}
use Rattle.gw_rules.specs.View.{View, Move, Begin, Read, Make, after, after_turn, view_from, at_first, later}
use Rattle.gw_rules.proofs.CourseLemmas.{stands-more, stands-outside}
use Rattle.gw_rules.proofs.CutCauseLemmas.{IsBrought, AreBrought, HasCauses, moves-causes}
use Rattle.gw_rules.proofs.KeptLemmas.{BeginsFirst, begins-first}
use Rattle.gw_rules.proofs.KeptPhaseLemmas.{round-runs}
use Rattle.gw_rules.proofs.LinkLawLemmas.{get-setting}
use Rattle.gw_rules.proofs.LinkStateLemmas.{standing_state, state_of}
use Rattle.gw_rules.proofs.LinkedLemmas.{Agrees, Losing, is_on, round-setup, first-agrees, course-agrees, call-setup, Settled as IsSettled}
use Rattle.gw_rules.proofs.OpensLemmas.{opens-all}
use Rattle.gw_rules.proofs.OutsideCutLemmas.{in-owes}
use Rattle.gw_rules.proofs.OwedLemmas.{call-last}
use Rattle.gw_rules.proofs.OwingLemmas.{clear-where}
use Rattle.gw_rules.proofs.RecordOrderLemmas.{each-log-is-in-order, configured}
use Rattle.gw_rules.proofs.RecordRowLemmas.{OrderLaws}
use Rattle.gw_rules.proofs.SentLemmas.{commands-sent}
use Rattle.gw_rules.proofs.SetupLemmas.{HasSetup}
use Rattle.gw_rules.proofs.SpareLemmas.{KeepsOne, begin-keeps-one, made-at-spares, lost-at-spares, others-spare}
use Rattle.gw_rules.proofs.StageLemmas.{no-true}
use Rattle.gw_rules.proofs.TranscriptLogLemmas.{idle-follows}
use Rattle.gw_rules.proofs.DayTranscriptLemmas.{is_day_standing, is_day_any, IsDayAsked, day-asked, done-completes}

-- ---- bodies that are to be written

-- none of these calls writes a body
abbrev no_body : List OwedCall → Bool
no_body [] = true
no_body (SendTill till reply ∷ calls) = no_body calls
no_body (SendPt pt sending ∷ calls) = no_body calls
no_body (OwedCutTill till ∷ calls) = no_body calls
no_body (OwedCutPt pt ∷ calls) = no_body calls
no_body (LinkPt pt ∷ calls) = no_body calls
no_body (WriteBody slot the_record ∷ calls) = false
no_body (WriteGate slot the_record ∷ calls) = no_body calls
no_body (WriteFirstGate ∷ calls) = no_body calls
no_body (Sync ∷ calls) = no_body calls

spare-no-body : (calls : List OwedCall) → spare_disk calls ≡ true → no_body calls ≡ true
spare-no-body [] e = refl
spare-no-body (SendTill till reply ∷ calls) e = spare-no-body calls e
spare-no-body (SendPt pt sending ∷ calls) e = spare-no-body calls e
spare-no-body (OwedCutTill till ∷ calls) e = spare-no-body calls e
spare-no-body (OwedCutPt pt ∷ calls) e = spare-no-body calls e
spare-no-body (LinkPt pt ∷ calls) e = spare-no-body calls e
spare-no-body (WriteBody slot the_record ∷ calls) e = no-true e
spare-no-body (WriteGate slot the_record ∷ calls) e = no-true e
spare-no-body (WriteFirstGate ∷ calls) e = no-true e
spare-no-body (Sync ∷ calls) e = no-true e

append-no-body : (calls more : List OwedCall) → no_body calls ≡ true → no_body more ≡ true → no_body (calls ++ more) ≡ true
append-no-body [] more h k = k
append-no-body (SendTill till reply ∷ calls) more h k = append-no-body calls more h k
append-no-body (SendPt pt sending ∷ calls) more h k = append-no-body calls more h k
append-no-body (OwedCutTill till ∷ calls) more h k = append-no-body calls more h k
append-no-body (OwedCutPt pt ∷ calls) more h k = append-no-body calls more h k
append-no-body (LinkPt pt ∷ calls) more h k = append-no-body calls more h k
append-no-body (WriteBody slot the_record ∷ calls) more h k = no-true h
append-no-body (WriteGate slot the_record ∷ calls) more h k = append-no-body calls more h k
append-no-body (WriteFirstGate ∷ calls) more h k = append-no-body calls more h k
append-no-body (Sync ∷ calls) more h k = append-no-body calls more h k

later-no-body : (calls : List OwedCall) → no_body calls ≡ true → no_body (later calls) ≡ true
later-no-body [] e = e
later-no-body (SendTill till reply ∷ calls) e = e
later-no-body (SendPt pt sending ∷ calls) e = e
later-no-body (OwedCutTill till ∷ calls) e = e
later-no-body (OwedCutPt pt ∷ calls) e = e
later-no-body (LinkPt pt ∷ calls) e = e
later-no-body (WriteBody slot the_record ∷ calls) e = no-true e
later-no-body (WriteGate slot the_record ∷ calls) e = e
later-no-body (WriteFirstGate ∷ calls) e = e
later-no-body (Sync ∷ calls) e = e

-- no body is the first of such calls
first-no-body : {A : Type 0} (calls : List OwedCall) (slot : ℕ) (the_record : Record) → no_body calls ≡ true → first_call calls ≡ Some (WriteBody slot the_record) → A
first-no-body [] slot the_record none e = absurd (let n : None ≡ Some (WriteBody slot the_record) = e in cc)
first-no-body (call ∷ calls) slot the_record none e =
    let same : call ≡ WriteBody slot the_record = (let n : Some call ≡ Some (WriteBody slot the_record) = e in cc) in
    no-true (sym (ap (λ c. no_body (c ∷ calls)) same) ∙ none)

-- an item has just begun
record HasJustBegun (log : List Turn) (v : View) : Type 0 where
  before : View
  along : Stands log before
  begins : Begins before
  view_is : after before Begin ≡ v

-- no body is to be written, or an item has just begun
abbrev NoneOrBegun : List Turn → View → Type 0
NoneOrBegun log v = (no_body v.calls ≡ true) ⊎ HasJustBegun log v

kept-no-body : (kept : List Record) (calls : List OwedCall) → KeepsOne kept calls → no_body (later calls) ≡ true
kept-no-body kept calls (inl spares) = later-no-body calls (spare-no-body calls spares)
kept-no-body kept calls (inr k) = ap (λ c. no_body (later c)) k.calls_are ∙ spare-no-body k.more k.spares

-- so none is once the first call was made
later-clean : (log : List Turn) (v : View) → NoneOrBegun log v → no_body (later v.calls) ≡ true
later-clean log v (inl none) = later-no-body v.calls none
later-clean log v (inr b) = subst (λ (w : View). no_body (later w.calls) ≡ true) b.view_is (kept-no-body b.before.scene.kept (after b.before Begin).calls (begin-keeps-one b.before.scene b.before.items))

turn-clean : (v : View) (turn : Turn) → no_body (later v.calls) ≡ true → no_body (after_turn v turn).calls ≡ true
turn-clean v (Start setup) h = opens-all (λ calls. no_body calls ≡ true) refl refl setup v.scene.outside.file (records_of v.scene)
turn-clean v OpenFailed h = refl
turn-clean v (Polled now) h = refl
turn-clean v (Opened till) h = refl
turn-clean v (HeardTill till bytes) h = refl
turn-clean v (Closed till) h = refl
turn-clean v (HeardPt pt bytes) h = refl
turn-clean v (Lost pt) h = refl
turn-clean v Stopped h = refl
turn-clean v (Linked pt) h = append-no-body (link_made_at v.scene pt).calls (later v.calls) (spare-no-body (link_made_at v.scene pt).calls (made-at-spares v.scene pt)) h
turn-clean v (LinkFailed pt) h = append-no-body (link_lost_at v.scene pt).calls [] (spare-no-body (link_lost_at v.scene pt).calls (lost-at-spares v.scene pt)) refl
turn-clean v (SentTill till bytes true) h = h
turn-clean v (SentTill till bytes false) h = refl
turn-clean v (SentPt pt bytes true) h = h
turn-clean v (SentPt pt bytes false) h = refl
turn-clean v (CutTill till) h = h
turn-clean v (CutPt pt) h = append-no-body (link_lost_at v.scene pt).calls (later v.calls) (spare-no-body (link_lost_at v.scene pt).calls (lost-at-spares v.scene pt)) h
turn-clean v (Wrote offset bytes) h = h
turn-clean v Synced h = h
turn-clean v DiskFailed h = refl
turn-clean v (Crash file) h = refl

moves-begun : (log : List Turn) (v : View) (moves : List Move) → Stands log v → NoneOrBegun log v → IsCourse v moves → NoneOrBegun (log ++ turns_of moves) (view_from v moves)
moves-begun log v [] s h c = subst (λ l. NoneOrBegun l v) (sym (append-nil log)) h
moves-begun log v (Begin ∷ moves) s h c =
    moves-begun log (after v Begin) moves (subst (λ l. Stands l (after v Begin)) (append-nil log) (stands-more log v (Begin ∷ []) s (c.0, tt))) (inr (record { before = v; along = s; begins = c.0; view_is = refl })) c.1
moves-begun log v (Read as_read ∷ moves) s h c = moves-begun log (after v (Read as_read)) moves (subst (λ l. Stands l (after v (Read as_read))) (append-nil log) (stands-more log v (Read as_read ∷ []) s (c.0, tt))) (inl refl) c.1
moves-begun log v (Make turn ∷ moves) s h c =
    subst (λ l. NoneOrBegun l (view_from (after_turn v turn) moves)) (append_assoc log (turn ∷ []) (turns_of moves))
    (moves-begun (log ++ turn ∷ []) (after_turn v turn) moves (stands-more log v (Make turn ∷ []) s (c.0, tt)) (inl (turn-clean v turn (later-clean log v h))) c.1)

-- where the body of a record is to be written next, an item has just begun
body-begun : (log : List Turn) (v : View) (slot : ℕ) (the_record : Record) → Stands log v → IsNext v (WriteBody slot the_record) → HasJustBegun log v
body-begun log v slot the_record s next = by_calls (subst (NoneOrBegun log) s.view_is (subst (λ l. NoneOrBegun l (view_from at_first s.course)) s.log_is (moves-begun [] at_first s.course (record { course = []; log_is = refl; lawful = tt; view_is = refl }) (inl refl) s.lawful)))
  where
    by_calls : NoneOrBegun log v → HasJustBegun log v
    by_calls (inl none) = first-no-body v.calls slot the_record none next
    by_calls (inr begun) = begun

-- ---- the item that keeps the Settled of an end of day

-- the calls keep that of an end of day first
record KeepsFirst (calls : List OwedCall) (slot : ℕ) (settled : TheSettled) : Type 0 where
  first : first_call calls ≡ Some (WriteBody slot (Settled settled))
  how : settled.how ≡ hows.Acquirer

abbrev KeepsNoDay : Row → Type 0
KeepsNoDay row = (slot : ℕ) (settled : TheSettled) → KeepsFirst row.calls slot settled → ⊥

clean-no-day : (calls : List OwedCall) → no_body calls ≡ true → (slot : ℕ) (settled : TheSettled) → KeepsFirst calls slot settled → ⊥
clean-no-day calls none slot settled k = first-no-body calls slot (Settled settled) none k.first

other-record : (slot other : ℕ) (the_record : Record) (settled : TheSettled) → Some (WriteBody other the_record) ≡ Some (WriteBody slot (Settled settled)) → the_record ≡ Settled settled
other-record slot other the_record settled e = cc

sale-no-day : (settled other : TheSettled) → other.how ≡ hows.Sale → Settled other ≡ Settled settled → settled.how ≡ hows.Acquirer → ⊥
sale-no-day settled other sale e how =
    let same : other ≡ settled = cc in
    let n : hows.Sale ≡ hows.Acquirer = sym sale ∙ ap (λ (s : TheSettled). s.how) same ∙ how in
    cc

-- no request keeps one as it begins to be served
serve-no-day : (known : Known) (number till : ℕ) (header : Header) (request : SaleRequest) → KeepsNoDay (serve_row known number till header request)
serve-no-day known number till header request = each-served KeepsNoDay known number till header request (record {
  none = λ slot settled k. first-no-body [] slot (Settled settled) refl k.first;
  begins = λ terminal last asking at slot settled k. absurd (let n = other-record slot _ _ settled k.first in cc);
  sent = λ terminal talk at may. clean-no-day _ refl;
  wished = λ terminal talk at may. clean-no-day _ refl;
  session = λ success. clean-no-day _ refl;
  settles = λ terminal at slot settled k. sale-no-day settled (settled_of hows.Sale header terminal.pt.currency known.moment) refl (other-record slot _ _ settled k.first) k.how;
  day = λ terminal last at. clean-no-day _ refl;
  displays = λ terminal last outputs command at. clean-no-day _ refl;
})

-- nor does one that has waited
next-no-day : (known : Known) (number : ℕ) → KeepsNoDay (next_waiting_row known number)
next-no-day known number = each-next KeepsNoDay known number (record {
  none = clean-no-day _ refl;
  refused = λ terminal last wait condition first is. clean-no-day _ refl;
  begins = λ terminal last wait asking at slot settled k. absurd (let n = other-record slot _ _ settled k.first in cc);
  day = λ terminal last wait at. clean-no-day _ refl;
  left = λ terminal last wait first. clean-no-day _ refl;
})

-- the item handles a message of a terminal
record IsHandled (item : RoundItem) : Type 0 where
  number : ℕ
  apdu : ApduValue
  item_is : item ≡ Handle number apdu

other-handles : {A : Type 0} (tills : List Connection) (known : Known) (item : RoundItem) (slot : ℕ) (settled : TheSettled) → KeepsFirst (row_of tills known item).calls slot settled → spare_disk (row_of tills known item).calls ≡ true → A
other-handles tills known item slot settled k spares = first-no-body (row_of tills known item).calls slot (Settled settled) (spare-no-body (row_of tills known item).calls spares) k.first

keeping-handles : (tills : List Connection) (known : Known) (item : RoundItem) (slot : ℕ) (settled : TheSettled) → KeepsFirst (row_of tills known item).calls slot settled → IsHandled item
keeping-handles tills known (Crowded till) slot settled k = other-handles tills known (Crowded till) slot settled k refl
keeping-handles tills known (Message till bytes) slot settled k = other-handles tills known (Message till bytes) slot settled k refl
keeping-handles tills known (Asked till as_read) slot settled k = other-handles tills known (Asked till as_read) slot settled k (others-spare tills known (Asked till as_read) refl refl)
keeping-handles tills known (Unframed till) slot settled k = other-handles tills known (Unframed till) slot settled k (others-spare tills known (Unframed till) refl refl)
keeping-handles tills known (Gone till) slot settled k = other-handles tills known (Gone till) slot settled k refl
keeping-handles tills known (Greet number apdu) slot settled k = other-handles tills known (Greet number apdu) slot settled k (others-spare tills known (Greet number apdu) refl refl)
keeping-handles tills known (Handle number apdu) slot settled k = record { number = number; apdu = apdu; item_is = refl }
keeping-handles tills known (Serve number till header request) slot settled k = absurd (serve-no-day known number till header request slot settled k)
keeping-handles tills known (Queue number till header request) slot settled k = other-handles tills known (Queue number till header request) slot settled k (others-spare tills known (Queue number till header request) refl refl)
keeping-handles tills known (NextWaiting number) slot settled k = absurd (next-no-day known number slot settled k)
keeping-handles tills known (Oversized number) slot settled k = other-handles tills known (Oversized number) slot settled k (others-spare tills known (Oversized number) refl refl)
keeping-handles tills known (LinkLost number) slot settled k = other-handles tills known (LinkLost number) slot settled k (others-spare tills known (LinkLost number) refl refl)
keeping-handles tills known (Late number) slot settled k = other-handles tills known (Late number) slot settled k (others-spare tills known (Late number) refl refl)
keeping-handles tills known (Overdue key) slot settled k = other-handles tills known (Overdue key) slot settled k (others-spare tills known (Overdue key) refl refl)
keeping-handles tills known (Due number) slot settled k = other-handles tills known (Due number) slot settled k (others-spare tills known (Due number) refl refl)

-- a message that keeps one ends the end of day of its terminal
keeping-ends : (known : Known) (number : ℕ) (apdu : ApduValue) (slot : ℕ) (settled : TheSettled) → KeepsOne known.kept (handle_row known number apdu).calls → KeepsFirst (handle_row known number apdu).calls slot settled
    → EndsDay known number apdu (handle_row known number apdu).calls
keeping-ends known number apdu slot settled (inl spares) k = first-no-body (handle_row known number apdu).calls slot (Settled settled) (spare-no-body (handle_row known number apdu).calls spares) k.first
keeping-ends known number apdu slot settled (inr one) k = by_end (each-record-of-an-end known number apdu one.the_record (records_kept one.more) (ap records_kept one.calls_are))
  where
    by_end : KeepsAtEnd known number apdu (handle_row known number apdu).calls → EndsDay known number apdu (handle_row known number apdu).calls
    by_end (inl (inl ends)) = absurd (let n = other-record slot _ _ settled (sym (ap first_call ends.calls_are) ∙ k.first) in cc)
    by_end (inl (inr reports)) = absurd (let n = other-record slot _ _ settled (sym (ap first_call reports.calls_are) ∙ k.first) in cc)
    by_end (inr day) = day

-- ---- what is kept

first-stands : Stands [] at_first
first-stands = record { course = []; log_is = refl; lawful = tt; view_is = refl }

pub stands-agree : (log : List Turn) (v : View) → Stands log v → Agrees v
stands-agree log v s = subst Agrees s.view_is (course-agrees at_first s.course first-agrees s.lawful)

stands-causes : (log : List Turn) (v : View) → Stands log v → HasCauses log v
stands-causes log v s =
    subst (HasCauses log) s.view_is (subst (λ l. HasCauses l (view_from at_first s.course)) s.log_is (moves-causes [] at_first s.course first-stands first-agrees (record { items = tt; calls = inl refl }) s.lawful))

pub day-kept : EachRowFollowsTranscript → OrderLaws → EachDayKeptWasCompleted
day-kept rows laws log v slot settled s next how = record {
  pt = number;
  completed = record {
    linked = linked;
    password = asked.password;
    asked = ap last_but_stops (sym (commands-sent log u b.along number linked)) ∙ asked.asked;
    apdu = apdu;
    said = brought;
    completion = day.means.decoded ∙ ap Ok completes;
  };
  setup = run.setup;
  setup_is = ap (λ (w : View). w.scene.setup) (sym b.view_is) ∙ ap (λ l. (after (record u { items = l }) Begin).scene.setup) first.items_are ∙ run.setup_is;
  settings = terminal.pt;
  settings_are = ap (λ l. slice_get l number) (sym (configured u run.setup agrees run.setup_is)) ∙ get-setting u.scene.core.terminals number terminal day.means.found;
  poi_is = ap (λ (t : TheSettled). t.poi) (sym same_settled) ∙ served.names;
  asker = terminal.asker;
  calls_are = v_calls ∙ day.calls_are ∙ ap (settle_calls u.scene.kept terminal.asker) same_settled ∙ ap (λ kept. settle_calls kept terminal.asker settled) (sym v_kept);
}
  where
    b : HasJustBegun log v
    b = body-begun log v slot (Settled settled) s next

    u : View
    u = b.before

    agrees : Agrees u
    agrees = stands-agree log u b.along

    first : BeginsFirst u
    first = begins-first u agrees b.begins

    run : HasSetup u.scene
    run = round-setup u agrees.run b.begins.idle.round

    known : Known
    known = known_in u.scene run.setup

    tills : List Connection
    tills = u.scene.outside.tills

    begun_calls : (after u Begin).calls ≡ (row_of tills known first.item).calls
    begun_calls = ap (λ l. (after (record u { items = l }) Begin).calls) first.items_are ∙ in-owes u.scene run.setup first.item (row_of tills known first.item).calls run.setup_is refl

    item_calls : v.calls ≡ (row_of tills known first.item).calls
    item_calls = ap (λ (w : View). w.calls) (sym b.view_is) ∙ begun_calls

    handled : IsHandled first.item
    handled = keeping-handles tills known first.item slot settled (record { first = ap first_call (sym item_calls) ∙ next; how = how })

    number : ℕ
    number = handled.number

    apdu : ApduValue
    apdu = handled.apdu

    v_calls : v.calls ≡ (handle_row known number apdu).calls
    v_calls = item_calls ∙ ap (λ item. (row_of tills known item).calls) handled.item_is

    v_kept : v.scene.kept ≡ u.scene.kept
    v_kept = ap (λ (w : View). w.scene.kept) (sym b.view_is) ∙ ap (λ l. (after (record u { items = l }) Begin).scene.kept) first.items_are

    one : KeepsOne known.kept (handle_row known number apdu).calls
    one = subst (KeepsOne u.scene.kept) (begun_calls ∙ ap (λ item. (row_of tills known item).calls) handled.item_is) (begin-keeps-one u.scene u.items)

    day : EndsDay known number apdu (handle_row known number apdu).calls
    day = keeping-ends known number apdu slot settled one (record { first = ap first_call (sym v_calls) ∙ next; how = how })

    terminal : Terminal
    terminal = day.terminal

    kept_settled : TheSettled
    kept_settled = settled_of hows.Acquirer day.header terminal.pt.currency known.moment

    same_record : Settled kept_settled ≡ Settled settled
    same_record = other-record slot _ (Settled kept_settled) settled (sym (ap first_call (v_calls ∙ day.calls_are)) ∙ next)

    same_settled : kept_settled ≡ settled
    same_settled = let e = same_record in cc

    brought : HasSaidApdu log number apdu
    brought = subst (IsBrought log) handled.item_is (subst (AreBrought log) first.items_are (stands-causes log u b.along).items).0

    settled_links : IsSettled u
    settled_links = by_links agrees.links
      where
        by_links : IsSettled u ⊎ Losing u → IsSettled u
        by_links (inl links) = links
        by_links (inr l) = absurd (let n : Handle number apdu ∷ first.rest ≡ LinkLost l.pt ∷ l.rest = sym (first.items_are ∙ ap (λ item. item ∷ first.rest) handled.item_is) ∙ l.items_are in cc)

    linked : is_linked_after log number ≡ true
    linked =
        ap (λ (o : Outside). is_connected o.links number) (sym (stands-outside log u b.along)) ∙ settled_links.linked number ∙ ap (λ (t : Option Terminal). is_on (state_of t)) day.means.found
        ∙ ap (λ standing. is_on (standing_state standing terminal.talk)) day.means.standing_is

    transcript : List Carried
    transcript = transcript_of number b.along.course

    follows : FollowsTranscript number transcript u.scene.core
    follows = idle-follows rows log u b.along number terminal day.means.found (clear-where u.scene.stage is_round refl b.begins.idle.round) b.begins.idle.calls

    same : follows.terminal ≡ terminal
    same = same-some follows.terminal terminal (sym follows.found ∙ day.means.found)

    asked : IsDayAsked follows.terminal.pt transcript
    asked = day-asked follows.terminal.pt transcript (sym (ap is_day_any follows.standing_is) ∙ ap (λ (t : Terminal). is_day_standing (as_carried t.standing)) same ∙ ap (λ standing. is_day_standing (as_carried standing)) day.means.standing_is)

    completes : day.means.message ≡ Completion
    completes = done-completes transcript follows.terminal day.means.message asked follows.talk_is (ap (λ (t : Terminal). meaning_at t day.means.message) same ∙ day.means.means)

    order : IsInOrder known
    order = each-log-is-in-order laws log u run.setup b.along run.setup_is (record { running = round-runs u.scene.stage b.begins.idle.round; calls = b.begins.idle.calls })

    served : IsDayServed known.kept terminal.pt.poi day.last day.header day.period
    served = subst (AreRecordsOf known.kept terminal.pt.poi) day.means.standing_is (order.terminals number terminal day.means.found).records

-- ---- a link that ends

unlinks-fails : (known : Known) (pt : ℕ) (terminal : Terminal) (header : Header) (period : Period) (last : ℕ) → terminal.standing ≡ Serving (EndOfDay header period) last
    → (unlinks known pt terminal).calls ≡ reply_calls_to terminal.asker (Some (failure_reply header UnavailableDevice))
unlinks-fails known pt terminal header period last serving = ap (λ standing. reply_calls_to terminal.asker (reply_to_lost standing)) serving

pub cut-day-fails : CutDayFails
cut-day-fails log v pt terminal header period last s found serving ok =
    let agrees = stands-agree log v s in
    let run : HasSetup v.scene = call-setup v (OwedCutPt pt) agrees.run ok in
    let known : Known = known_in v.scene run.setup in
    let row_is : link_lost_at v.scene pt ≡ unlinks known pt terminal = ap (row_in v.scene (λ known. link_lost known pt)) run.setup_is ∙ ap (of_terminal known (unlinks known pt)) found in
    record {
      calls_are =
          ap (λ (row : Row). row.calls ++ later v.calls) row_is ∙ ap (λ l. (unlinks known pt terminal).calls ++ l) (call-last v.calls (OwedCutPt pt) (λ more. refl) ok agrees.ends) ∙ append-nil (unlinks known pt terminal).calls
          ∙ unlinks-fails known pt terminal header period last serving;
      kept_is = refl;
      flight_is = refl;
    }

pub lost-day-fails : LostDayFails
lost-day-fails log v pt items terminal header period last s found serving b e =
    let agrees = stands-agree log v s in
    let run : HasSetup v.scene = round-setup v agrees.run b.idle.round in
    let known : Known = known_in v.scene run.setup in
    let row_is : row_of v.scene.outside.tills known (LinkLost pt) ≡ unlinks known pt terminal = ap (of_terminal known (unlinks known pt)) found in
    record {
      calls_are =
          ap (λ l. (after (record v { items = l }) Begin).calls) e ∙ in-owes v.scene run.setup (LinkLost pt) (unlinks known pt terminal).calls run.setup_is (ap (λ (row : Row). row.calls) row_is) ∙ unlinks-fails known pt terminal header period last serving;
      kept_is = ap (λ l. (after (record v { items = l }) Begin).scene.kept) e;
      flight_is = ap (λ l. (after (record v { items = l }) Begin).scene.flight) e;
    }
