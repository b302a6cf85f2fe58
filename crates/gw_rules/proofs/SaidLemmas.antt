-- Each message of a terminal's transcript was said by it in a round of the log.
use Rattle.std.proofs.Common.{◌≡◌, ℕ, List, [], ◌∷◌, ◌++◌, refl, sym, ◌∙◌, ap, subst, true, false, inl, append_assoc, append-nil, eqb-true}
use Rattle.std.specs.Prelude.{Bool, ◌==◌, if◌then◌else◌, Option, Some, None, Result, Ok, Err}
use Rattle.gw_base.specs.declared.setup.Setup.{Setup}
use Rattle.gw_site.specs.Outside.{outside_of}
use Rattle.gw_site.specs.declared.turn.Turn.{Turn}
use Rattle.gw_site.specs.declared.turn.Turn.TheVariants.{Start, OpenFailed, Polled, Opened, HeardTill, Closed, HeardPt, Lost, Stopped, Linked, LinkFailed, SentTill, SentPt, CutTill, CutPt, Wrote, Synced, DiskFailed, Crash}
use Rattle.sale_values.specs.declared.header.Header.{Header}
use Rattle.sale_values.specs.declared.request.SaleRequest.{SaleRequest}
use Rattle.sale_values.specs.declared.request.SaleRequest.TheVariants as requests
use Rattle.sale_values.specs.Key.{key_of}
use Rattle.zvt_apdu.specs.Grammar.{ApduValue}
use Rattle.zvt_msg.specs.Message.{MessageValue}
use Rattle.zvt_msg.specs.MessageDecode.{decode_pt_message}
use Rattle.zvt_msg.specs.declared.fault.PtFault.{PtFault}
use Rattle.zvt_talk.specs.Came.{is_taken}
use Rattle.gw_owes.specs.Calls.{Sending, Ask, Acknowledge, Refuse, OwedCall, SendTill, LinkPt, WriteBody, WriteGate, WriteFirstGate, Sync, SendPt as OwedSendPt, CutTill as OwedCutTill, CutPt as OwedCutPt}
use Rattle.gw_owes.specs.Items.{RoundItem, Crowded, Message, Asked, Unframed, Gone, Greet, Handle, Serve, Queue, NextWaiting, Oversized, LinkLost, Late, Overdue, Due}
use Rattle.gw_owes.specs.Links.{is_linked}
use Rattle.gw_owes.specs.ReadAs.{Request}
use Rattle.gw_owes.specs.Reports.{on_record, least_reported}
use Rattle.gw_owes.specs.Row.{Known}
use Rattle.gw_owes.specs.Stops.{serves_key}
use Rattle.gw_owes.specs.TerminalRows.{terminal_of, is_link_lost}
use Rattle.gw_owes.specs.Terminals.{terminal_at}
use Rattle.gw_owes.specs.Transcript.{Carried, Commanded, Took, Wished, commanded, took_decoded, took_of, wished_of, wished_for, took_by, is_number}
use Rattle.gw_owes.specs.declared.terminal.Terminal.{Terminal}
use Rattle.gw_rules.specs.CutCauses.{HasSaidApdu}
use Rattle.gw_rules.specs.Lawful.{IsCourse, turns_of, Stands}
use Rattle.gw_rules.specs.Scene.{known_in}
use Rattle.gw_rules.specs.TranscriptLaws.{command_to, command_next, transcript_with, transcript_in, transcript_begun, transcript_made, transcript_from, AreSaid, EachMessageWasSaid}
use Rattle.gw_rules.specs.TillRounds.{HasAsked}
use Rattle.gw_rules.specs.View.{View, Move, Begin, Read, Make, after, after_turn, at_first}
use Rattle.gw_rules.proofs.CourseLemmas.{stands-more, stands-outside}
use Rattle.gw_rules.proofs.CutCauseLemmas.{IsBrought, AreBrought, HasCauses, moves-causes}
use Rattle.gw_rules.proofs.LinkedLemmas.{Agrees, first-agrees, move-agrees}

-- ---- logs that go on

said-on : (log more : List Turn) (pt : ℕ) (transcript : List Carried) → AreSaid log pt transcript → AreSaid (log ++ more) pt transcript
said-on log more pt [] said = tt
said-on log more pt (Commanded command moment ∷ earlier) said = said-on log more pt earlier said
said-on log more pt (Took message moment last ∷ earlier) said =
    let first = said.0 in (
      record { before = first.before; rest = first.rest ++ more; log_is = ap (λ l. l ++ more) first.log_is ∙ append_assoc first.before first.rest more; moment_is = first.moment_is; apdu = first.apdu; said = first.said; decoded = first.decoded },
      said-on log more pt earlier said.1,
    )
said-on log more pt (Wished ∷ earlier) said =
    let first = said.0 in
    (record { before = first.before; rest = first.rest ++ more; log_is = ap (λ l. l ++ more) first.log_is ∙ append_assoc first.before first.rest more; till = first.till; header = first.header; reference = first.reference; asked = first.asked }, said-on log more pt earlier said.1)

-- ---- items that begin

-- a message that is handled, at the moment of the log
handled-said : (log : List Turn) (pt : ℕ) (known : Known) (apdu : ApduValue) (terminal : Option Terminal) (transcript : List Carried) → (outside_of log).moment ≡ known.moment → HasSaidApdu log pt apdu → AreSaid log pt transcript
    → AreSaid log pt (took_of known terminal (decode_pt_message apdu) ++ transcript)
handled-said log pt known apdu None transcript now said h = h
handled-said log pt known apdu (Some terminal) transcript now said h = by_linked (is_linked terminal.standing)
  where
    least : ℕ
    least = least_reported (on_record known.kept terminal.pt.poi)

    by_taken : (message : MessageValue) → decode_pt_message apdu ≡ Ok message → (taken : Bool) → AreSaid log pt ((if taken then Took message known.moment least ∷ [] else []) ++ transcript)
    by_taken message is true = (record { before = log; rest = []; log_is = sym (append-nil log); moment_is = now; apdu = apdu; said = said; decoded = is }, h)
    by_taken message is false = h

    by_decoded : (decoded : Result MessageValue PtFault) → decode_pt_message apdu ≡ decoded → AreSaid log pt (took_decoded known.moment least decoded ++ transcript)
    by_decoded (Ok message) is = by_taken message is (is_taken message)
    by_decoded (Err fault) is = h

    by_linked : (linked : Bool) → AreSaid log pt ((if linked then took_decoded known.moment least (decode_pt_message apdu) else []) ++ transcript)
    by_linked true = by_decoded (decode_pt_message apdu) refl
    by_linked false = h

-- a stop that is wished
wished-said : (log : List Turn) (pt : ℕ) (known : Known) (number till : ℕ) (header : Header) (request : SaleRequest) (transcript : List Carried) → HasAsked log till (Request header request) → AreSaid log pt transcript
    → AreSaid log pt (wished_for known number header request ++ transcript)
wished-said log pt known number till header requests.Login transcript asked h = h
wished-said log pt known number till header requests.Logout transcript asked h = h
wished-said log pt known number till header (requests.Payment ask) transcript asked h = h
wished-said log pt known number till header (requests.Reversal ask) transcript asked h = h
wished-said log pt known number till header (requests.Abort reference) transcript asked h = by_terminal (terminal_at known number)
  where
    by_serves : (serves : Bool) → AreSaid log pt ((if serves then Wished ∷ [] else []) ++ transcript)
    by_serves true = (record { before = log; rest = []; log_is = sym (append-nil log); till = till; header = header; reference = reference; asked = asked }, h)
    by_serves false = h

    by_terminal : (terminal : Option Terminal) → AreSaid log pt (wished_of known.kept (key_of header reference) terminal ++ transcript)
    by_terminal None = h
    by_terminal (Some terminal) = by_serves (serves_key known.kept (key_of header reference) terminal)
wished-said log pt known number till header (requests.Status reference) transcript asked h = h
wished-said log pt known number till header (requests.Reconciliation period) transcript asked h = h
wished-said log pt known number till header (requests.Display outputs) transcript asked h = h
wished-said log pt known number till header (requests.Print qualifier) transcript asked h = h
wished-said log pt known number till header requests.Diagnosis transcript asked h = h

took-said : (log : List Turn) (pt : ℕ) (known : Known) (item : RoundItem) (transcript : List Carried) → (outside_of log).moment ≡ known.moment → is_number pt (terminal_of item) ≡ true → IsBrought log item → AreSaid log pt transcript
    → AreSaid log pt (took_by known item ++ transcript)
took-said log pt known (Crowded till) transcript now own brought h = h
took-said log pt known (Message till bytes) transcript now own brought h = h
took-said log pt known (Asked till as_read) transcript now own brought h = h
took-said log pt known (Unframed till) transcript now own brought h = h
took-said log pt known (Gone till) transcript now own brought h = h
took-said log pt known (Greet number apdu) transcript now own brought h = h
took-said log pt known (Handle number apdu) transcript now own brought h =
    handled-said log pt known apdu (terminal_at known number) transcript now (subst (λ n. HasSaidApdu log n apdu) (eqb-true number pt own) brought) h
took-said log pt known (Serve number till header request) transcript now own brought h = wished-said log pt known number till header request transcript brought h
took-said log pt known (Queue number till header request) transcript now own brought h = h
took-said log pt known (NextWaiting number) transcript now own brought h = h
took-said log pt known (Oversized number) transcript now own brought h = h
took-said log pt known (LinkLost number) transcript now own brought h = h
took-said log pt known (Late number) transcript now own brought h = h
took-said log pt known (Overdue key) transcript now own brought h = h
took-said log pt known (Due number) transcript now own brought h = h

begin-said : (log : List Turn) (pt : ℕ) (v : View) (items : List RoundItem) (transcript : List Carried) → Stands log v → AreBrought log items → AreSaid log pt transcript → AreSaid log pt (transcript_begun pt v.scene items transcript)
begin-said log pt v [] transcript s brought h = h
begin-said log pt v (item ∷ rest) transcript s brought h = by_setup v.scene.setup
  where
    by_lost : (known : Known) (lost : Bool) → AreSaid log pt (took_by known item ++ transcript) → AreSaid log pt (if lost then [] else took_by known item ++ transcript)
    by_lost known true said = tt
    by_lost known false said = said

    by_own : (setup : Setup) (own : Bool) → is_number pt (terminal_of item) ≡ own → AreSaid log pt (if own then transcript_with (known_in v.scene setup) item transcript else transcript)
    by_own setup true e = by_lost (known_in v.scene setup) (is_link_lost item) (took-said log pt (known_in v.scene setup) item transcript (ap (λ o. o.moment) (sym (stands-outside log v s))) e brought.0 h)
    by_own setup false e = h

    by_setup : (setup : Option Setup) → AreSaid log pt (transcript_in pt v.scene item transcript setup)
    by_setup None = h
    by_setup (Some setup) = by_own setup (is_number pt (terminal_of item)) refl

-- ---- turns

anew-said : (log : List Turn) (pt : ℕ) (transcript : List Carried) (own : Bool) → AreSaid log pt transcript → AreSaid log pt (if own then [] else transcript)
anew-said log pt transcript true h = tt
anew-said log pt transcript false h = h

sending-said : (log : List Turn) (pt moment : ℕ) (sending : Sending) (transcript : List Carried) → AreSaid log pt transcript → AreSaid log pt (commanded moment sending ++ transcript)
sending-said log pt moment (Ask command) transcript h = h
sending-said log pt moment Acknowledge transcript h = h
sending-said log pt moment Refuse transcript h = h

call-said : (log : List Turn) (pt moment : ℕ) (call : OwedCall) (transcript : List Carried) → AreSaid log pt transcript → AreSaid log pt (command_to pt moment call ++ transcript)
call-said log pt moment (SendTill till reply) transcript h = h
call-said log pt moment (OwedSendPt number sending) transcript h = by_test (number == pt)
  where
    by_test : (test : Bool) → AreSaid log pt ((if test then commanded moment sending else []) ++ transcript)
    by_test true = sending-said log pt moment sending transcript h
    by_test false = h
call-said log pt moment (OwedCutTill till) transcript h = h
call-said log pt moment (OwedCutPt number) transcript h = h
call-said log pt moment (LinkPt number) transcript h = h
call-said log pt moment (WriteBody slot the_record) transcript h = h
call-said log pt moment (WriteGate slot the_record) transcript h = h
call-said log pt moment WriteFirstGate transcript h = h
call-said log pt moment Sync transcript h = h

next-said : (log : List Turn) (pt moment : ℕ) (calls : List OwedCall) (transcript : List Carried) → AreSaid log pt transcript → AreSaid log pt (command_next pt moment calls ++ transcript)
next-said log pt moment [] transcript h = h
next-said log pt moment (call ∷ calls) transcript h = call-said log pt moment call transcript h

turn-said : (log : List Turn) (pt : ℕ) (v : View) (turn : Turn) (transcript : List Carried) → AreSaid log pt transcript → AreSaid log pt (transcript_made pt v turn transcript)
turn-said log pt v (Start setup) transcript h = tt
turn-said log pt v OpenFailed transcript h = tt
turn-said log pt v (Polled now) transcript h = h
turn-said log pt v (Opened till) transcript h = h
turn-said log pt v (HeardTill till bytes) transcript h = h
turn-said log pt v (Closed till) transcript h = h
turn-said log pt v (HeardPt number bytes) transcript h = h
turn-said log pt v (Lost number) transcript h = h
turn-said log pt v Stopped transcript h = h
turn-said log pt v (Linked number) transcript h = anew-said log pt transcript (number == pt) h
turn-said log pt v (LinkFailed number) transcript h = anew-said log pt transcript (number == pt) h
turn-said log pt v (SentTill till bytes ok) transcript h = h
turn-said log pt v (SentPt number bytes true) transcript h = next-said log pt v.scene.outside.moment v.calls transcript h
turn-said log pt v (SentPt number bytes false) transcript h = h
turn-said log pt v (CutTill till) transcript h = h
turn-said log pt v (CutPt number) transcript h = anew-said log pt transcript (number == pt) h
turn-said log pt v (Wrote offset bytes) transcript h = h
turn-said log pt v Synced transcript h = h
turn-said log pt v DiskFailed transcript h = h
turn-said log pt v (Crash file) transcript h = tt

-- ---- along a course

moves-said : (log : List Turn) (pt : ℕ) (transcript : List Carried) (v : View) (moves : List Move) → Stands log v → Agrees v → HasCauses log v → IsCourse v moves → AreSaid log pt transcript
    → AreSaid (log ++ turns_of moves) pt (transcript_from pt v transcript moves)
moves-said log pt transcript v [] s a h c said = subst (λ l. AreSaid l pt transcript) (sym (append-nil log)) said
moves-said log pt transcript v (Begin ∷ moves) s a h c said =
    moves-said log pt (transcript_begun pt v.scene v.items transcript) (after v Begin) moves (subst (λ l. Stands l (after v Begin)) (append-nil log) (stands-more log v (Begin ∷ []) s (c.0, tt))) (move-agrees v Begin a c.0)
    (subst (λ l. HasCauses l (after v Begin)) (append-nil log) (moves-causes log v (Begin ∷ []) s a h (c.0, tt))) c.1 (begin-said log pt v v.items transcript s h.items said)
moves-said log pt transcript v (Read as_read ∷ moves) s a h c said =
    moves-said log pt transcript (after v (Read as_read)) moves (subst (λ l. Stands l (after v (Read as_read))) (append-nil log) (stands-more log v (Read as_read ∷ []) s (c.0, tt))) (move-agrees v (Read as_read) a c.0)
    (subst (λ l. HasCauses l (after v (Read as_read))) (append-nil log) (moves-causes log v (Read as_read ∷ []) s a h (c.0, tt))) c.1 said
moves-said log pt transcript v (Make turn ∷ moves) s a h c said =
    subst (λ l. AreSaid l pt (transcript_from pt (after_turn v turn) (transcript_made pt v turn transcript) moves)) (append_assoc log (turn ∷ []) (turns_of moves))
    (moves-said (log ++ turn ∷ []) pt (transcript_made pt v turn transcript) (after_turn v turn) moves (stands-more log v (Make turn ∷ []) s (c.0, tt)) (move-agrees v (Make turn) a c.0)
    (moves-causes log v (Make turn ∷ []) s a h (c.0, tt)) c.1 (turn-said (log ++ turn ∷ []) pt v turn transcript (said-on log (turn ∷ []) pt transcript said)))

pub messages-said : EachMessageWasSaid
messages-said log v s pt =
    subst (λ l. AreSaid l pt (transcript_from pt at_first [] s.course)) s.log_is
    (moves-said [] pt [] at_first s.course (record { course = []; log_is = refl; lawful = tt; view_is = refl }) first-agrees (record { items = tt; calls = inl refl }) s.lawful tt)
