-- Stops along lawful logs: `06 B0` is owed only once the command was acknowledged and a stop was wished, and once a dialogue.
use Rattle.std.proofs.Common.{◌≡◌, ℕ, List, [], ◌∷◌, ◌++◌, refl, sym, ◌∙◌, ap, subst, true, false, inl, inr, append_assoc, append-nil, eqb-true}
use Rattle.std.proofs.lemmas.Bool.{and_parts, eq-eqb}
use Rattle.std.specs.Prelude.{pos, Bool, ◌&&◌, ◌||◌, ◌==◌, ◌⊎◌, not, if◌then◌else◌, option_and_then, Option, Some, None, Result, Ok, Err}
use Rattle.std.specs.List.{list_any}
use Rattle.gw_base.specs.declared.key.Key.{Key}
use Rattle.gw_base.specs.declared.setup.Pt.{Pt}
use Rattle.gw_base.specs.declared.setup.Setup.{Setup}
use Rattle.gw_site.specs.Outside.{Connection, is_connected}
use Rattle.gw_site.specs.declared.turn.Turn.{Turn}
use Rattle.gw_site.specs.declared.turn.Turn.TheVariants.{Start, OpenFailed, Polled, Opened, HeardTill, Closed, HeardPt, Lost, Stopped, Linked, LinkFailed, SentTill, SentPt, CutTill, CutPt, Wrote, Synced, DiskFailed, Crash}
use Rattle.sale_values.specs.declared.header.Header.{Header}
use Rattle.sale_values.specs.declared.request.SaleRequest.{SaleRequest}
use Rattle.sale_values.specs.declared.request.SaleRequest.TheVariants as requests
use Rattle.sale_values.specs.declared.request.Reference.{Reference}
use Rattle.sale_values.specs.Key.{key_of}
use Rattle.zvt_apdu.specs.Grammar.{ApduValue}
use Rattle.zvt_msg.specs.CommandCanonical.{canonical_command}
use Rattle.zvt_msg.specs.Message.{MessageValue, Ack, Nack, Intermediate, Line, Block, Status, Completion, Abort, Other}
use Rattle.zvt_msg.specs.MessageDecode.{decode_pt_message}
use Rattle.zvt_msg.specs.declared.command.Command.{Command}
use Rattle.zvt_msg.specs.declared.fault.PtFault.{PtFault}
use Rattle.zvt_msg.specs.declared.command.Command.TheVariants as commands
use Rattle.zvt_talk.specs.declared.dialogue_kind.DialogueKind.{DialogueKind}
use Rattle.zvt_talk.specs.declared.meaning.Heard.{Heard}
use Rattle.zvt_talk.specs.declared.meaning.Heard.TheVariants as heard
use Rattle.zvt_talk.specs.declared.phase.Phase.TheVariants as phases
use Rattle.zvt_talk.specs.declared.statuses.Statuses.{Statuses}
use Rattle.zvt_talk.specs.Came.{Came, Message as CameMessage, is_taken, is_ack, is_completion_or_abort, messages, is_asked, was_begun, is_begun, is_stop_wished, is_stop_sent}
use Rattle.zvt_talk.specs.Dialogue.{Dialogue, is_display}
use Rattle.zvt_talk.specs.Talk.{TalkFacts, phase_of, statuses_of, talk_after, talk_goes_on}
use Rattle.zvt_talk.specs.TalkSteps.{may_send_stop}
use Rattle.zvt_talk.proofs.StepLemmas.{messages_more, messages_same, messages_stop_wished, stop_wished_message, stop_wished_more}
use Rattle.jrn_record.specs.declared.records.How.TheVariants as hows
use Rattle.gw_owes.specs.AbortLaws.{is_stop_asked, owes_stop, stop_calls}
use Rattle.gw_owes.specs.Calls.{Sending, Ask, Acknowledge, Refuse, OwedCall, SendTill, LinkPt, WriteBody, WriteGate, WriteFirstGate, Sync, SendPt as OwedSendPt, CutTill as OwedCutTill, CutPt as OwedCutPt, sending_bytes}
use Rattle.gw_owes.specs.Handling.{taken_as, meaning_for, meaning_at, taking, consequence, handle_row}
use Rattle.gw_owes.specs.Items.{RoundItem, Crowded, Message, Asked, Unframed, Gone, Greet, Handle, Serve, Queue, NextWaiting, Oversized, LinkLost, Late, Overdue, Due}
use Rattle.gw_owes.specs.Links.{is_linked, cutting}
use Rattle.gw_owes.specs.Payments.{serve_row}
use Rattle.gw_owes.specs.Reconciliations.{reply_to_settled, settled_of}
use Rattle.gw_owes.specs.Reports.{on_record, least_reported}
use Rattle.gw_owes.specs.Requests.{reply_to}
use Rattle.gw_owes.specs.Row.{Known, Row, owing}
use Rattle.gw_owes.specs.Rows.{row_of, asked_row}
use Rattle.gw_owes.specs.Serving.{reply_to_outcome}
use Rattle.gw_owes.specs.Stops.{serves_key}
use Rattle.gw_owes.specs.TerminalRows.{terminal_of, is_link_lost}
use Rattle.gw_owes.specs.Terminals.{terminal_at, registers, link_made, link_lost}
use Rattle.gw_owes.specs.Transcript.{Carried, Commanded, Took, Wished, awaited_by, dialogue_by, came_by, talk_going_on, talk_by, EachRowFollowsTranscript, FollowsTranscript, commanded, took_decoded, took_of, took_by, is_number}
use Rattle.gw_owes.specs.WaitingRows.{next_waiting_row, overdue_row, queue_row}
use Rattle.gw_owes.specs.declared.terminal.Service.TheVariants.{Transaction, EndOfDay, Display}
use Rattle.gw_owes.specs.declared.terminal.Standing.{Standing}
use Rattle.gw_owes.specs.declared.terminal.Standing.TheVariants.{Unlinked, Registering, Enquiring, Ready, Serving, Aside}
use Rattle.gw_owes.specs.declared.terminal.Terminal.{Terminal}
use Rattle.gw_owes.proofs.HandlingLemmas.{by-where, each-terminal, each-linked, each-handled}
use Rattle.gw_owes.proofs.NextLemmas.{each-next, each-overdue, each-queued, known_without}
use Rattle.gw_owes.proofs.PaymentLemmas.{each-served}
use Rattle.gw_owes.proofs.SetLemmas.{same-some}
use Rattle.gw_owes.proofs.StopLemmas.{never, reply-no-stop, greet-no-stop, lost-no-stop, late-no-stop, due-no-stop, registering-no-stop, enquiring-no-stop, transaction-stop, day-stop, display-no-stop, begun-no-stop, shown-no-stop, meets-wish, handed-ack, NoStop}
use Rattle.gw_rules.specs.Lawful.{first_call, Begins, Allowed, IsNext, IsCourse, turns_of, Stands}
use Rattle.gw_rules.specs.Scene.{Scene, row_in, known_in, link_made_at, link_lost_at, records_of}
use Rattle.gw_rules.specs.Stage.{is_round}
use Rattle.gw_rules.specs.StopLogs.{since_command, has_ack, has_wish, has_stop, EachStopIsWishedOnce, StopIsSentOnce, ExampleStops}
use Rattle.gw_rules.specs.TranscriptLaws.{command_next, transcript_with, transcript_in, transcript_begun, transcript_made, transcript_moved, transcript_from, transcript_of}
use Rattle.gw_rules.specs.View.{View, Move, Begin, Read, Make, after, after_turn, view_from, at_first, later}
use Rattle.gw_rules.proofs.CourseLemmas.{view_from-append, course-append}
use Rattle.gw_rules.proofs.DayLogLemmas.{stands-agree}
use Rattle.gw_rules.proofs.KeptLemmas.{BeginsFirst, begins-first}
use Rattle.gw_rules.proofs.LinkedLemmas.{round-setup, Agrees}
use Rattle.gw_rules.proofs.OpensLemmas.{opens-all}
use Rattle.gw_rules.proofs.OutsideCutLemmas.{in-owes}
use Rattle.gw_rules.proofs.OwingLemmas.{clear-where}
use Rattle.gw_rules.proofs.RowFormLemmas.{EachForm, form-handled, form-wished}
use Rattle.gw_rules.proofs.SetupLemmas.{HasSetup}
use Rattle.gw_rules.proofs.SplitLemmas.{split-log, split-stands}
use Rattle.gw_rules.proofs.StageLemmas.{no-true, not-true}
use Rattle.gw_rules.proofs.TranscriptLogLemmas.{idle-follows}

-- ---- transcripts

-- the command was acknowledged first
abbrev first_acked : List MessageValue → Bool
first_acked [] = false
first_acked (message ∷ more) = is_ack message

-- since the last command that begins a dialogue the transcript has what came in that
came-wished : (transcript : List Carried) → is_stop_wished (came_by transcript) ≡ true → has_wish (since_command transcript) ≡ true
came-wished [] e = no-true e
came-wished (Commanded (commands.Register password config currency) moment ∷ earlier) e = no-true e
came-wished (Commanded (commands.Authorise amount currency) moment ∷ earlier) e = no-true e
came-wished (Commanded (commands.Enquire password) moment ∷ earlier) e = no-true e
came-wished (Commanded (commands.Reverse password receipt) moment ∷ earlier) e = no-true e
came-wished (Commanded (commands.EndOfDay password) moment ∷ earlier) e = no-true e
came-wished (Commanded commands.Stop moment ∷ earlier) e = came-wished earlier e
came-wished (Commanded (commands.Show texts) moment ∷ earlier) e = no-true e
came-wished (Took message moment least ∷ earlier) e = came-wished earlier (sym (stop_wished_message (came_by earlier) (taken_as (awaited_by earlier) message) (pos moment)) ∙ e)
came-wished (Wished ∷ earlier) e = refl

-- the first of the messages, with one more
first-more : (taken : List MessageValue) (message : MessageValue) → first_acked (taken ++ message ∷ []) ≡ true → (first_acked taken ≡ true) ⊎ (is_ack message ≡ true)
first-more [] message e = inr e
first-more (first ∷ more) message e = inl e

handed-is-ack : (awaited : ℕ) (message : MessageValue) → is_ack (taken_as awaited message) ≡ true → is_ack message ≡ true
handed-is-ack awaited Ack e = e
handed-is-ack awaited (Nack error_code) e = no-true e
handed-is-ack awaited (Intermediate intermediate_status) e = e
handed-is-ack awaited (Line text) e = e
handed-is-ack awaited (Block objects) e = e
handed-is-ack awaited (Status fields) e = e
handed-is-ack awaited Completion e = e
handed-is-ack awaited (Abort result_code) e = e
handed-is-ack awaited Other e = e

-- a message that is taken, or one outside the table, which isn't
by-taken : (P : Type 0) (message : MessageValue) → (is_taken message ≡ true → P) → (message ≡ Other → P) → P
by-taken P Ack taken other = taken refl
by-taken P (Nack error_code) taken other = taken refl
by-taken P (Intermediate intermediate_status) taken other = taken refl
by-taken P (Line text) taken other = taken refl
by-taken P (Block objects) taken other = taken refl
by-taken P (Status fields) taken other = taken refl
by-taken P Completion taken other = taken refl
by-taken P (Abort result_code) taken other = taken refl
by-taken P Other taken other = other refl

message-acked : (came : List Came) (message : MessageValue) (moment : ℕ) → first_acked (messages (came ++ CameMessage message (pos moment) ∷ [])) ≡ true → (first_acked (messages came) ≡ true) ⊎ (is_ack message ≡ true)
message-acked came message moment e = by-taken _ message
    (λ taken. first-more (messages came) message (ap first_acked (sym (messages_more came message (pos moment) taken)) ∙ e))
    (λ other. inl (ap first_acked (sym (messages_same came (pos moment))) ∙ subst (λ m. first_acked (messages (came ++ CameMessage m (pos moment) ∷ [])) ≡ true) other e))

or-first : (one other : Bool) → one ≡ true → (one || other) ≡ true
or-first true other e = refl
or-first false other e = no-true e

or-second : (one other : Bool) → other ≡ true → (one || other) ≡ true
or-second true other e = refl
or-second false other e = e

came-acked : (transcript : List Carried) → first_acked (messages (came_by transcript)) ≡ true → has_ack (since_command transcript) ≡ true
came-acked [] e = no-true e
came-acked (Commanded (commands.Register password config currency) moment ∷ earlier) e = no-true e
came-acked (Commanded (commands.Authorise amount currency) moment ∷ earlier) e = no-true e
came-acked (Commanded (commands.Enquire password) moment ∷ earlier) e = no-true e
came-acked (Commanded (commands.Reverse password receipt) moment ∷ earlier) e = no-true e
came-acked (Commanded (commands.EndOfDay password) moment ∷ earlier) e = no-true e
came-acked (Commanded commands.Stop moment ∷ earlier) e = came-acked earlier e
came-acked (Commanded (commands.Show texts) moment ∷ earlier) e = no-true e
came-acked (Took message moment least ∷ earlier) e = by_case (came-acked earlier) (message-acked (came_by earlier) (taken_as (awaited_by earlier) message) moment e)
  where
    by_case : (first_acked (messages (came_by earlier)) ≡ true → has_ack (since_command earlier) ≡ true) → (first_acked (messages (came_by earlier)) ≡ true) ⊎ (is_ack (taken_as (awaited_by earlier) message) ≡ true)
        → (is_ack message || has_ack (since_command earlier)) ≡ true
    by_case more (inl before) = or-second (is_ack message) (has_ack (since_command earlier)) (more before)
    by_case more (inr own) = or-first (is_ack message) (has_ack (since_command earlier)) (handed-is-ack (awaited_by earlier) message own)
came-acked (Wished ∷ earlier) e = came-acked earlier (ap first_acked (sym (messages_stop_wished (came_by earlier))) ∙ e)

-- in the dialogue a stop was wished, and its command was acknowledged first
record IsStoppable (transcript : List Carried) : Type 0 where
  acked : first_acked (messages (came_by transcript)) ≡ true
  wished : is_stop_wished (came_by transcript) ≡ true

-- so it is wherever one was sent since the last command that begins a dialogue
abbrev IsSound : List Carried → Type 0
IsSound transcript = has_stop (since_command transcript) ≡ true → IsStoppable transcript

-- these stay
first-stays : (taken : List MessageValue) (message : MessageValue) → first_acked taken ≡ true → first_acked (taken ++ message ∷ []) ≡ true
first-stays [] message e = no-true e
first-stays (first ∷ more) message e = e

message-stays : (came : List Came) (message : MessageValue) (moment : ℕ) → first_acked (messages came) ≡ true → first_acked (messages (came ++ CameMessage message (pos moment) ∷ [])) ≡ true
message-stays came message moment e = by-taken _ message
    (λ taken. ap first_acked (messages_more came message (pos moment) taken) ∙ first-stays (messages came) message e)
    (λ other. subst (λ m. first_acked (messages (came ++ CameMessage m (pos moment) ∷ [])) ≡ true) (sym other) (ap first_acked (messages_same came (pos moment)) ∙ e))

took-sound : (message : MessageValue) (moment least : ℕ) (transcript : List Carried) → IsSound transcript → IsSound (Took message moment least ∷ transcript)
took-sound message moment least transcript sound stopped =
    let before = sound stopped in
    record {
      acked = message-stays (came_by transcript) (taken_as (awaited_by transcript) message) moment before.acked;
      wished = stop_wished_message (came_by transcript) (taken_as (awaited_by transcript) message) (pos moment) ∙ before.wished;
    }

wished-sound : (transcript : List Carried) → IsSound transcript → IsSound (Wished ∷ transcript)
wished-sound transcript sound stopped =
    let before = sound stopped in
    record {
      acked = ap first_acked (messages_stop_wished (came_by transcript)) ∙ before.acked;
      wished = stop_wished_more (came_by transcript) ∙ or-first (is_stop_wished (came_by transcript)) _ before.wished;
    }

-- a command that begins a dialogue begins anew, and a stop is sent where it may be
commanded-sound : (command : Command) (moment : ℕ) (transcript : List Carried) → IsSound transcript → (command ≡ commands.Stop → IsStoppable transcript) → IsSound (Commanded command moment ∷ transcript)
commanded-sound (commands.Register password config currency) moment transcript sound may stopped = no-true stopped
commanded-sound (commands.Authorise amount currency) moment transcript sound may stopped = no-true stopped
commanded-sound (commands.Enquire password) moment transcript sound may stopped = no-true stopped
commanded-sound (commands.Reverse password receipt) moment transcript sound may stopped = no-true stopped
commanded-sound (commands.EndOfDay password) moment transcript sound may stopped = no-true stopped
commanded-sound commands.Stop moment transcript sound may stopped = let now = may refl in record { acked = now.acked; wished = now.wished }
commanded-sound (commands.Show texts) moment transcript sound may stopped = no-true stopped

-- ---- phases

-- a stop may be sent next: it may be, and none was
record StopsNow (transcript : List Carried) : Type 0 where
  stoppable : IsStoppable transcript
  first : has_stop (since_command transcript) ≡ false

-- the command isn't acknowledged, and a stop is wished
asked-phase : (taken : List MessageValue) (wished begun sent : Bool) (statuses : Statuses) → (if is_asked taken then phases.Asked wished else (if begun then phases.Begun sent statuses else phases.Ended sent)) ≡ phases.Asked true → (taken ≡ []) × (wished ≡ true)
asked-phase [] wished begun sent statuses e = (refl, cc)
asked-phase (message ∷ more) wished true sent statuses e = absurd cc
asked-phase (message ∷ more) wished false sent statuses e = absurd cc

-- the command was acknowledged, and no stop was sent
sendable-phase : (dialogue_kind : DialogueKind) (taken : List MessageValue) (wished sent : Bool) (statuses : Statuses)
    → may_send_stop (if is_asked taken then phases.Asked wished else (if is_begun dialogue_kind taken then phases.Begun sent statuses else phases.Ended sent)) ≡ true → (is_begun dialogue_kind taken ≡ true) × (sent ≡ false)
sendable-phase dialogue_kind [] wished sent statuses e = no-true e
sendable-phase dialogue_kind (message ∷ more) wished sent statuses e = by_begun (is_begun dialogue_kind (message ∷ more)) e
  where
    by_begun : (begun : Bool) → may_send_stop (if begun then phases.Begun sent statuses else phases.Ended sent) ≡ true → (begun ≡ true) × (sent ≡ false)
    by_begun true e = (refl, not-true sent e)
    by_begun false e = no-true e

first-of-begun : (dialogue_kind : DialogueKind) (taken : List MessageValue) → is_begun dialogue_kind taken ≡ true → (first_acked taken ≡ true) × ((was_begun dialogue_kind taken ≡ true) × (not (list_any is_completion_or_abort taken) ≡ true))
first-of-begun dialogue_kind [] e = no-true e
first-of-begun dialogue_kind (message ∷ more) e =
    let p = and_parts (is_ack message && not (is_display dialogue_kind)) (not (list_any is_completion_or_abort (message ∷ more))) e in
    ((and_parts (is_ack message) (not (is_display dialogue_kind)) p.0).0, p)

-- the phase of the dialogue that runs
running : (pt : Pt) (transcript : List Carried) (talk : TalkFacts) → talk_by pt transcript ≡ Some talk → (dialogue : Dialogue) × (talk.phase ≡ phase_of dialogue.dialogue_kind (came_by transcript))
running pt transcript talk e = by_dialogue (dialogue_by pt transcript) e
  where
    by_test : (dialogue : Dialogue) (test : Bool) → (if test then Some (talk_after dialogue (came_by transcript)) else None) ≡ Some talk → talk.phase ≡ phase_of dialogue.dialogue_kind (came_by transcript)
    by_test dialogue true e = let same : talk_after dialogue (came_by transcript) ≡ talk = (let n : Some (talk_after dialogue (came_by transcript)) ≡ Some talk = e in cc) in ap (λ (t : TalkFacts). t.phase) (sym same)
    by_test dialogue false e = absurd (let n : None ≡ Some talk = e in cc)

    by_dialogue : (found : Option Dialogue) → option_and_then (λ dialogue. talk_going_on dialogue (came_by transcript)) found ≡ Some talk → (dialogue : Dialogue) × (talk.phase ≡ phase_of dialogue.dialogue_kind (came_by transcript))
    by_dialogue None e = absurd (let n : None ≡ Some talk = e in cc)
    by_dialogue (Some dialogue) e = (dialogue, by_test dialogue (talk_goes_on (talk_after dialogue (came_by transcript))) e)

false-unless : (test : Bool) → (test ≡ true → ⊥) → test ≡ false
false-unless true h = absurd (h refl)
false-unless false h = refl

-- an Ack that meets a wish
ack-stops : (transcript : List Carried) (moment least : ℕ) → IsSound transcript → messages (came_by transcript) ≡ [] → is_stop_wished (came_by transcript) ≡ true → StopsNow (Took Ack moment least ∷ transcript)
ack-stops transcript moment least sound none wished = record {
  stoppable = record {
    acked = ap first_acked (messages_more (came_by transcript) Ack (pos moment) refl) ∙ ap (λ taken. first_acked (taken ++ Ack ∷ [])) none;
    wished = stop_wished_message (came_by transcript) Ack (pos moment) ∙ wished;
  };
  first = false-unless (has_stop (since_command transcript)) (λ stopped. let n : false ≡ true = sym (ap first_acked none) ∙ (sound stopped).acked in cc);
}

-- and a wish after it
wish-stops : (transcript : List Carried) (dialogue_kind : DialogueKind) → IsSound transcript → is_begun dialogue_kind (messages (came_by transcript)) ≡ true → is_stop_sent dialogue_kind (came_by transcript) ≡ false → StopsNow (Wished ∷ transcript)
wish-stops transcript dialogue_kind sound begun unsent =
    let p = first-of-begun dialogue_kind (messages (came_by transcript)) begun in
    record {
      stoppable = record {
        acked = ap first_acked (messages_stop_wished (came_by transcript)) ∙ p.0;
        wished = stop_wished_more (came_by transcript) ∙ or-second (is_stop_wished (came_by transcript)) (not (list_any is_completion_or_abort (messages (came_by transcript)))) p.1.1;
      };
      first = false-unless (has_stop (since_command transcript)) (λ stopped.
          let n : false ≡ true = sym unsent ∙ ap (λ b. b && is_stop_wished (came_by transcript)) p.1.0 ∙ (sound stopped).wished in cc);
    }

-- ---- rows

-- a stop is sent alone
abbrev IsOneStop : ℕ → Row → Type 0
IsOneStop number row = NoStop row ⊎ (row.calls ≡ stop_calls number)

forms-one : (known : Known) (number : ℕ) (terminal : Terminal) → EachForm (IsOneStop number) known number terminal
forms-one known number terminal = record {
  nothing = inl refl;
  stays = inl refl;
  cuts = inl refl;
  stops = inr refl;
  enquires = inl refl;
  rests = λ standing linked. inl refl;
  resolves = λ standing outcome linked. inl (reply-no-stop terminal.asker (reply_to_outcome known.kept outcome.slot outcome));
  settles = λ last settled. inl (reply-no-stop terminal.asker (reply_to_settled known.kept settled));
  replies = λ last reply. inl (reply-no-stop terminal.asker reply);
  requests = λ till request asks. inl refl;
}

handle-one : (known : Known) (number : ℕ) (apdu : ApduValue) → IsOneStop number (handle_row known number apdu)
handle-one known number apdu = form-handled (IsOneStop number) known number apdu (inl refl) (λ terminal message found linked is taken. forms-one known number (taking terminal message known.moment))

serve-one : (known : Known) (number till : ℕ) (header : Header) (request : SaleRequest) → IsOneStop number (serve_row known number till header request)
serve-one known number till header request = each-served (IsOneStop number) known number till header request (record {
  none = inl refl;
  begins = λ terminal last asking at. inl (begun-no-stop known number till terminal last asking);
  sent = λ terminal talk at may. inr refl;
  wished = λ terminal talk at may. inl refl;
  session = λ success. inl refl;
  settles = λ terminal at. inl (reply-no-stop (Some till) (reply_to_settled known.kept (settled_of hows.Sale header terminal.pt.currency known.moment)));
  day = λ terminal last at. inl refl;
  displays = λ terminal last outputs command at. inl (ap (λ b. b || false) (shown-no-stop outputs command at.shown_is));
})

-- a message sends a stop where it acknowledges the command and a stop is wished
record StopHandled (known : Known) (number : ℕ) (apdu : ApduValue) : Type 0 where
  terminal : Terminal
  found : terminal_at known number ≡ Some terminal
  linked : is_linked terminal.standing ≡ true
  decoded : decode_pt_message apdu ≡ Ok Ack
  talk : TalkFacts
  talk_is : terminal.talk ≡ Some talk
  phase_is : talk.phase ≡ phases.Asked true

consequence-stop : (known : Known) (number : ℕ) (terminal : Terminal) (meant : Heard) (standing : Standing) → owes_stop (consequence known number terminal meant standing).calls ≡ true → meant ≡ heard.Begun true
consequence-stop known number terminal meant (Unlinked due) e = no-true e
consequence-stop known number terminal meant Registering e = never _ (registering-no-stop known number terminal meant) e
consequence-stop known number terminal meant Enquiring e = never _ (enquiring-no-stop known number terminal meant) e
consequence-stop known number terminal meant (Ready last) e = no-true e
consequence-stop known number terminal meant (Serving (Transaction slot) last) e = transaction-stop known number terminal slot last meant e
consequence-stop known number terminal meant (Serving (EndOfDay header period) last) e = day-stop known number terminal last header meant e
consequence-stop known number terminal meant (Serving (Display header results) last) e = never _ (display-no-stop known number terminal last header results meant) e
consequence-stop known number terminal meant (Aside before reported) e = no-true e

meant-stop : (known : Known) (number : ℕ) (apdu : ApduValue) (terminal : Terminal) (message : MessageValue) → terminal_at known number ≡ Some terminal → is_linked terminal.standing ≡ true → decode_pt_message apdu ≡ Ok message → (talk : Option TalkFacts) → terminal.talk ≡ talk
    → meaning_for talk (taken_as terminal.awaited message) ≡ heard.Begun true → StopHandled known number apdu
meant-stop known number apdu terminal message found linked decoded None talk_is means = absurd (let n : heard.Stray ≡ heard.Begun true = means in cc)
meant-stop known number apdu terminal message found linked decoded (Some talk) talk_is means =
    let meets = meets-wish talk.dialogue_kind talk.none talk.phase (taken_as terminal.awaited message) means in
    record { terminal = terminal; found = found; linked = linked; decoded = decoded ∙ ap Ok (handed-ack terminal.awaited message meets.message_is); talk = talk; talk_is = talk_is; phase_is = meets.phase_is }

handled-stop : (known : Known) (number : ℕ) (apdu : ApduValue) → owes_stop (handle_row known number apdu).calls ≡ true → StopHandled known number apdu
handled-stop known number apdu =
    each-handled (λ (row : Row). owes_stop row.calls ≡ true → StopHandled known number apdu) known number apdu (λ e. no-true e)
    (λ terminal message found linked is taken e.
    meant-stop known number apdu terminal message found linked is terminal.talk refl (consequence-stop known number (taking terminal message known.moment) (meaning_at terminal message) terminal.standing e))
    (λ terminal message found linked is taken at stays e. no-true e)

-- a request sends one where it is an Abort of what is served, whose command was acknowledged
record StopServed (known : Known) (number : ℕ) (header : Header) (request : SaleRequest) : Type 0 where
  terminal : Terminal
  found : terminal_at known number ≡ Some terminal
  reference : Reference
  request_is : request ≡ requests.Abort reference
  serves : serves_key known.kept (key_of header reference) terminal ≡ true
  talk : TalkFacts
  talk_is : terminal.talk ≡ Some talk
  may : may_send_stop talk.phase ≡ true

served-stop : (known : Known) (number till : ℕ) (header : Header) (request : SaleRequest) → owes_stop (serve_row known number till header request).calls ≡ true → StopServed known number header request
served-stop known number till header request = each-served (λ (row : Row). owes_stop row.calls ≡ true → StopServed known number header request) known number till header request (record {
  none = λ e. no-true e;
  begins = λ terminal last asking at e. never _ (begun-no-stop known number till terminal last asking) e;
  sent = λ terminal talk at may e. record { terminal = terminal; found = at.found; reference = at.reference; request_is = at.request_is; serves = at.serves; talk = talk; talk_is = at.talk_is; may = may };
  wished = λ terminal talk at may e. no-true e;
  session = λ success e. no-true e;
  settles = λ terminal at e. never _ (reply-no-stop (Some till) (reply_to_settled known.kept (settled_of hows.Sale header terminal.pt.currency known.moment))) e;
  day = λ terminal last at e. no-true e;
  displays = λ terminal last outputs command at e. never _ (ap (λ b. b || false) (shown-no-stop outputs command at.shown_is)) e;
})

-- ---- items

-- an item that sends a stop sends it alone, to its terminal, and what it takes or wishes makes that a stop that may be sent
record SendsStop (known : Known) (item : RoundItem) (calls : List OwedCall) : Type 0 where
  number : ℕ
  of_it : terminal_of item ≡ Some number
  no_loss : is_link_lost item ≡ false
  calls_are : calls ≡ stop_calls number
  terminal : Terminal
  found : terminal_at known number ≡ Some terminal
  stops : (transcript : List Carried) → FollowsTranscript number transcript known.core → IsSound transcript → StopsNow (took_by known item ++ transcript)

one-stop : (number : ℕ) (row : Row) → IsOneStop number row → owes_stop row.calls ≡ true → row.calls ≡ stop_calls number
one-stop number row (inl none) e = never _ none e
one-stop number row (inr is) e = is

-- the talk of the terminal that was found, by the transcript
followed-talk : (known : Known) (number : ℕ) (transcript : List Carried) (terminal : Terminal) (talk : TalkFacts) → FollowsTranscript number transcript known.core → terminal_at known number ≡ Some terminal → terminal.talk ≡ Some talk
    → talk_by terminal.pt transcript ≡ Some talk
followed-talk known number transcript terminal talk follows found talk_is =
    let same : follows.terminal ≡ terminal = same-some follows.terminal terminal (sym follows.found ∙ found) in
    ap (λ (t : Terminal). talk_by t.pt transcript) (sym same) ∙ sym follows.talk_is ∙ ap (λ (t : Terminal). t.talk) same ∙ talk_is

handle-sends : (known : Known) (number : ℕ) (apdu : ApduValue) → owes_stop (handle_row known number apdu).calls ≡ true → SendsStop known (Handle number apdu) (handle_row known number apdu).calls
handle-sends known number apdu e = record {
  number = number;
  of_it = refl;
  no_loss = refl;
  calls_are = one-stop number (handle_row known number apdu) (handle-one known number apdu) e;
  terminal = h.terminal;
  found = h.found;
  stops = stops;
}
  where
    h : StopHandled known number apdu
    h = handled-stop known number apdu e

    took : took_by known (Handle number apdu) ≡ Took Ack known.moment (least_reported (on_record known.kept h.terminal.pt.poi)) ∷ []
    took = rw (h.found, h.linked, h.decoded) refl

    stops : (transcript : List Carried) → FollowsTranscript number transcript known.core → IsSound transcript → StopsNow (took_by known (Handle number apdu) ++ transcript)
    stops transcript follows sound =
        let runs = running h.terminal.pt transcript h.talk (followed-talk known number transcript h.terminal h.talk follows h.found h.talk_is) in
        let asked = asked-phase (messages (came_by transcript)) _ _ _ _ (sym runs.1 ∙ h.phase_is) in
        subst (λ l. StopsNow (l ++ transcript)) (sym took) (ack-stops transcript known.moment (least_reported (on_record known.kept h.terminal.pt.poi)) sound asked.0 asked.1)

serve-sends : (known : Known) (number till : ℕ) (header : Header) (request : SaleRequest) → owes_stop (serve_row known number till header request).calls ≡ true → SendsStop known (Serve number till header request) (serve_row known number till header request).calls
serve-sends known number till header request e = record {
  number = number;
  of_it = refl;
  no_loss = refl;
  calls_are = one-stop number (serve_row known number till header request) (serve-one known number till header request) e;
  terminal = h.terminal;
  found = h.found;
  stops = stops;
}
  where
    h : StopServed known number header request
    h = served-stop known number till header request e

    took : took_by known (Serve number till header request) ≡ Wished ∷ []
    took = ap (λ r. took_by known (Serve number till header r)) h.request_is ∙ rw (h.found, h.serves) refl

    stops : (transcript : List Carried) → FollowsTranscript number transcript known.core → IsSound transcript → StopsNow (took_by known (Serve number till header request) ++ transcript)
    stops transcript follows sound =
        let runs = running h.terminal.pt transcript h.talk (followed-talk known number transcript h.terminal h.talk follows h.found h.talk_is) in
        let dialogue_kind : DialogueKind = runs.0.dialogue_kind in
        let sendable = sendable-phase dialogue_kind (messages (came_by transcript)) (is_stop_wished (came_by transcript)) (is_stop_sent dialogue_kind (came_by transcript)) (statuses_of (came_by transcript)) (ap may_send_stop (sym runs.1) ∙ h.may) in
        subst (λ l. StopsNow (l ++ transcript)) (sym took) (wish-stops transcript dialogue_kind sound sendable.0 sendable.1)

queue-no-stop : (known : Known) (number till : ℕ) (header : Header) (request : SaleRequest) → NoStop (queue_row known number till header request)
queue-no-stop known number till header request = each-queued NoStop known number till header request (record { none = refl; joins = λ terminal key at. refl; taken = λ wait at. refl })

overdue-no-stop : (known : Known) (key : Key) → NoStop (overdue_row known key)
overdue-no-stop known key = each-overdue NoStop known key (record { none = refl; taken = λ wait is overdue. refl })

next-no-stop : (known : Known) (number : ℕ) → NoStop (next_waiting_row known number)
next-no-stop known number = each-next NoStop known number (record {
  none = refl;
  refused = λ terminal last wait condition first is. refl;
  begins = λ terminal last wait asking at. begun-no-stop (known_without known wait) number wait.till terminal last asking;
  day = λ terminal last wait at. refl;
  left = λ terminal last wait first. refl;
})

item-sends : (tills : List Connection) (known : Known) (item : RoundItem) → owes_stop (row_of tills known item).calls ≡ true → SendsStop known item (row_of tills known item).calls
item-sends tills known (Crowded till) e = no-true e
item-sends tills known (Message till bytes) e = no-true e
item-sends tills known (Asked till as_read) e = never _ (by-where NoStop known (asked_row known till as_read) (is_connected tills till) refl (λ there. reply-no-stop (Some till) (reply_to known as_read))) e
item-sends tills known (Unframed till) e = never _ (by-where NoStop known (owing known (OwedCutTill till ∷ [])) (is_connected tills till) refl (λ there. refl)) e
item-sends tills known (Gone till) e = no-true e
item-sends tills known (Greet number apdu) e = never _ (greet-no-stop known number (decode_pt_message apdu)) e
item-sends tills known (Handle number apdu) e = handle-sends known number apdu e
item-sends tills known (Serve number till header request) e = serve-sends known number till header request e
item-sends tills known (Queue number till header request) e = never _ (queue-no-stop known number till header request) e
item-sends tills known (NextWaiting number) e = never _ (next-no-stop known number) e
item-sends tills known (Oversized number) e = never _ (each-linked NoStop known number (λ terminal. cutting known number) refl (λ terminal found linked. refl)) e
item-sends tills known (LinkLost number) e = never _ (lost-no-stop known number) e
item-sends tills known (Late number) e = never _ (late-no-stop known number) e
item-sends tills known (Overdue key) e = never _ (overdue-no-stop known key) e
item-sends tills known (Due number) e = never _ (due-no-stop known number) e

-- ---- calls

or-none : (one other : Bool) → (one || other) ≡ false → (one ≡ false) × (other ≡ false)
or-none true other e = no-true (sym e)
or-none false other e = (refl, e)

no-stop-later : (calls : List OwedCall) → owes_stop calls ≡ false → owes_stop (later calls) ≡ false
no-stop-later [] e = e
no-stop-later (SendTill till reply ∷ calls) e = e
no-stop-later (OwedSendPt number sending ∷ calls) e = (or-none (is_stop_asked sending) (owes_stop calls) e).1
no-stop-later (OwedCutTill till ∷ calls) e = e
no-stop-later (OwedCutPt number ∷ calls) e = e
no-stop-later (LinkPt number ∷ calls) e = e
no-stop-later (WriteBody slot the_record ∷ calls) e = e
no-stop-later (WriteGate slot the_record ∷ calls) e = e
no-stop-later (WriteFirstGate ∷ calls) e = e
no-stop-later (Sync ∷ calls) e = e

no-stop-append : (calls more : List OwedCall) → owes_stop calls ≡ false → owes_stop more ≡ false → owes_stop (calls ++ more) ≡ false
no-stop-append [] more h k = k
no-stop-append (SendTill till reply ∷ calls) more h k = no-stop-append calls more h k
no-stop-append (OwedSendPt number sending ∷ calls) more h k =
    let p = or-none (is_stop_asked sending) (owes_stop calls) h in
    ap (λ b. b || owes_stop (calls ++ more)) p.0 ∙ no-stop-append calls more p.1 k
no-stop-append (OwedCutTill till ∷ calls) more h k = no-stop-append calls more h k
no-stop-append (OwedCutPt number ∷ calls) more h k = no-stop-append calls more h k
no-stop-append (LinkPt number ∷ calls) more h k = no-stop-append calls more h k
no-stop-append (WriteBody slot the_record ∷ calls) more h k = no-stop-append calls more h k
no-stop-append (WriteGate slot the_record ∷ calls) more h k = no-stop-append calls more h k
no-stop-append (WriteFirstGate ∷ calls) more h k = no-stop-append calls more h k
no-stop-append (Sync ∷ calls) more h k = no-stop-append calls more h k

first-no-stop : {A : Type 0} (calls : List OwedCall) (pt : ℕ) → owes_stop calls ≡ false → first_call calls ≡ Some (OwedSendPt pt (Ask commands.Stop)) → A
first-no-stop [] pt none e = absurd (let n : None ≡ Some (OwedSendPt pt (Ask commands.Stop)) = e in cc)
first-no-stop (call ∷ calls) pt none e =
    let same : call ≡ OwedSendPt pt (Ask commands.Stop) = (let n : Some call ≡ Some (OwedSendPt pt (Ask commands.Stop)) = e in cc) in
    no-true (sym none ∙ ap (λ c. owes_stop (c ∷ calls)) same)

made-no-stop : (scene : Scene) (pt : ℕ) → owes_stop (link_made_at scene pt).calls ≡ false
made-no-stop scene pt = by_setup scene.setup
  where
    by_setup : (setup : Option Setup) → owes_stop (row_in scene (λ known. link_made known pt) setup).calls ≡ false
    by_setup None = refl
    by_setup (Some setup) = each-terminal NoStop (known_in scene setup) pt (registers (known_in scene setup) pt) refl (λ terminal found. refl)

gone-no-stop : (scene : Scene) (pt : ℕ) → owes_stop (link_lost_at scene pt).calls ≡ false
gone-no-stop scene pt = by_setup scene.setup
  where
    by_setup : (setup : Option Setup) → owes_stop (row_in scene (λ known. link_lost known pt) setup).calls ≡ false
    by_setup None = refl
    by_setup (Some setup) = lost-no-stop (known_in scene setup) pt

turn-no-stop : (v : View) (turn : Turn) → owes_stop (later v.calls) ≡ false → owes_stop (after_turn v turn).calls ≡ false
turn-no-stop v (Start setup) h = opens-all (λ calls. owes_stop calls ≡ false) refl refl setup v.scene.outside.file (records_of v.scene)
turn-no-stop v OpenFailed h = refl
turn-no-stop v (Polled now) h = refl
turn-no-stop v (Opened till) h = refl
turn-no-stop v (HeardTill till bytes) h = refl
turn-no-stop v (Closed till) h = refl
turn-no-stop v (HeardPt pt bytes) h = refl
turn-no-stop v (Lost pt) h = refl
turn-no-stop v Stopped h = refl
turn-no-stop v (Linked pt) h = no-stop-append (link_made_at v.scene pt).calls (later v.calls) (made-no-stop v.scene pt) h
turn-no-stop v (LinkFailed pt) h = no-stop-append (link_lost_at v.scene pt).calls [] (gone-no-stop v.scene pt) refl
turn-no-stop v (SentTill till bytes true) h = h
turn-no-stop v (SentTill till bytes false) h = refl
turn-no-stop v (SentPt pt bytes true) h = h
turn-no-stop v (SentPt pt bytes false) h = refl
turn-no-stop v (CutTill till) h = h
turn-no-stop v (CutPt pt) h = no-stop-append (link_lost_at v.scene pt).calls (later v.calls) (gone-no-stop v.scene pt) h
turn-no-stop v (Wrote offset bytes) h = h
turn-no-stop v Synced h = h
turn-no-stop v DiskFailed h = refl
turn-no-stop v (Crash file) h = refl

-- ---- along a course

-- only the first call may be a stop; where it is one to this terminal it may be sent, and so may each that the transcript has
record StopsInOrder (pt : ℕ) (transcript : List Carried) (v : View) : Type 0 where
  later_none : owes_stop (later v.calls) ≡ false
  next : IsNext v (OwedSendPt pt (Ask commands.Stop)) → StopsNow transcript
  sound : IsSound transcript

anew-sound : (transcript : List Carried) (own : Bool) → IsSound transcript → IsSound (if own then [] else transcript)
anew-sound transcript true sound = λ stopped. no-true stopped
anew-sound transcript false sound = sound

sent-sound : (pt : ℕ) (transcript : List Carried) (v : View) (calls : List OwedCall) → v.calls ≡ calls → StopsInOrder pt transcript v → IsSound (command_next pt v.scene.outside.moment calls ++ transcript)
sent-sound pt transcript v [] e h = h.sound
sent-sound pt transcript v (SendTill till reply ∷ calls) e h = h.sound
sent-sound pt transcript v (OwedSendPt number sending ∷ calls) e h = by_test (number == pt) refl
  where
    moment : ℕ
    moment = v.scene.outside.moment

    by_sending : (sending : Sending) → first_call v.calls ≡ Some (OwedSendPt pt sending) → IsSound (commanded moment sending ++ transcript)
    by_sending (Ask command) next = commanded-sound command moment transcript h.sound (λ is. (h.next (next ∙ ap (λ c. Some (OwedSendPt pt (Ask c))) is)).stoppable)
    by_sending Acknowledge next = h.sound
    by_sending Refuse next = h.sound

    by_test : (own : Bool) → (number == pt) ≡ own → IsSound ((if own then commanded moment sending else []) ++ transcript)
    by_test true own = by_sending sending (ap first_call e ∙ ap (λ n. Some (OwedSendPt n sending)) (eqb-true number pt own))
    by_test false own = h.sound
sent-sound pt transcript v (OwedCutTill till ∷ calls) e h = h.sound
sent-sound pt transcript v (OwedCutPt number ∷ calls) e h = h.sound
sent-sound pt transcript v (LinkPt number ∷ calls) e h = h.sound
sent-sound pt transcript v (WriteBody slot the_record ∷ calls) e h = h.sound
sent-sound pt transcript v (WriteGate slot the_record ∷ calls) e h = h.sound
sent-sound pt transcript v (WriteFirstGate ∷ calls) e h = h.sound
sent-sound pt transcript v (Sync ∷ calls) e h = h.sound

turn-sound : (pt : ℕ) (transcript : List Carried) (v : View) (turn : Turn) → StopsInOrder pt transcript v → IsSound (transcript_made pt v turn transcript)
turn-sound pt transcript v (Start setup) h = λ stopped. no-true stopped
turn-sound pt transcript v OpenFailed h = λ stopped. no-true stopped
turn-sound pt transcript v (Polled now) h = h.sound
turn-sound pt transcript v (Opened till) h = h.sound
turn-sound pt transcript v (HeardTill till bytes) h = h.sound
turn-sound pt transcript v (Closed till) h = h.sound
turn-sound pt transcript v (HeardPt number bytes) h = h.sound
turn-sound pt transcript v (Lost number) h = h.sound
turn-sound pt transcript v Stopped h = h.sound
turn-sound pt transcript v (Linked number) h = anew-sound transcript (number == pt) h.sound
turn-sound pt transcript v (LinkFailed number) h = anew-sound transcript (number == pt) h.sound
turn-sound pt transcript v (SentTill till bytes ok) h = h.sound
turn-sound pt transcript v (SentPt number bytes true) h = sent-sound pt transcript v v.calls refl h
turn-sound pt transcript v (SentPt number bytes false) h = h.sound
turn-sound pt transcript v (CutTill till) h = h.sound
turn-sound pt transcript v (CutPt number) h = anew-sound transcript (number == pt) h.sound
turn-sound pt transcript v (Wrote offset bytes) h = h.sound
turn-sound pt transcript v Synced h = h.sound
turn-sound pt transcript v DiskFailed h = h.sound
turn-sound pt transcript v (Crash file) h = λ stopped. no-true stopped

-- the calls send no stop
none-in-order : (pt : ℕ) (transcript : List Carried) (v : View) → owes_stop v.calls ≡ false → IsSound transcript → StopsInOrder pt transcript v
none-in-order pt transcript v none sound = record { later_none = no-stop-later v.calls none; next = λ next. first-no-stop v.calls pt none next; sound = sound }

-- what an item takes or wishes
taken-sound : (moment least : ℕ) (decoded : Result MessageValue PtFault) (transcript : List Carried) → IsSound transcript → IsSound (took_decoded moment least decoded ++ transcript)
taken-sound moment least (Ok message) transcript sound = by_test (is_taken message)
  where
    by_test : (taken : Bool) → IsSound ((if taken then Took message moment least ∷ [] else []) ++ transcript)
    by_test true = took-sound message moment least transcript sound
    by_test false = sound
taken-sound moment least (Err fault) transcript sound = sound

took-of-sound : (known : Known) (terminal : Option Terminal) (decoded : Result MessageValue PtFault) (transcript : List Carried) → IsSound transcript → IsSound (took_of known terminal decoded ++ transcript)
took-of-sound known None decoded transcript sound = sound
took-of-sound known (Some terminal) decoded transcript sound = by_test (is_linked terminal.standing)
  where
    least : ℕ
    least = least_reported (on_record known.kept terminal.pt.poi)

    by_test : (linked : Bool) → IsSound ((if linked then took_decoded known.moment least decoded else []) ++ transcript)
    by_test true = taken-sound known.moment least decoded transcript sound
    by_test false = sound

item-sound : (known : Known) (item : RoundItem) (transcript : List Carried) → IsSound transcript → IsSound (took_by known item ++ transcript)
item-sound known (Crowded till) transcript sound = sound
item-sound known (Message till bytes) transcript sound = sound
item-sound known (Asked till as_read) transcript sound = sound
item-sound known (Unframed till) transcript sound = sound
item-sound known (Gone till) transcript sound = sound
item-sound known (Greet number apdu) transcript sound = sound
item-sound known (Handle number apdu) transcript sound = took-of-sound known (terminal_at known number) (decode_pt_message apdu) transcript sound
item-sound known (Serve number till header request) transcript sound = form-wished (λ l. IsSound (l ++ transcript)) known number header request sound (wished-sound transcript sound)
item-sound known (Queue number till header request) transcript sound = sound
item-sound known (NextWaiting number) transcript sound = sound
item-sound known (Oversized number) transcript sound = sound
item-sound known (LinkLost number) transcript sound = sound
item-sound known (Late number) transcript sound = sound
item-sound known (Overdue key) transcript sound = sound
item-sound known (Due number) transcript sound = sound

with-sound : (known : Known) (item : RoundItem) (transcript : List Carried) (lost : Bool) → IsSound transcript → IsSound (if lost then [] else took_by known item ++ transcript)
with-sound known item transcript true sound = λ stopped. no-true stopped
with-sound known item transcript false sound = item-sound known item transcript sound

begun-sound : (pt : ℕ) (known : Known) (item : RoundItem) (transcript : List Carried) → IsSound transcript → IsSound (if is_number pt (terminal_of item) then transcript_with known item transcript else transcript)
begun-sound pt known item transcript sound = by_test (is_number pt (terminal_of item))
  where
    by_test : (own : Bool) → IsSound (if own then transcript_with known item transcript else transcript)
    by_test true = with-sound known item transcript (is_link_lost item) sound
    by_test false = sound

-- what holds as an item begins
begin-in-order : EachRowFollowsTranscript → (log : List Turn) (v : View) (s : Stands log v) (pt : ℕ) → Begins v → IsSound (transcript_of pt s.course) → StopsInOrder pt (transcript_begun pt v.scene v.items (transcript_of pt s.course)) (after v Begin)
begin-in-order rows log v s pt b sound = subst (λ l. StopsInOrder pt (transcript_begun pt v.scene l transcript) (after v Begin)) (sym first.items_are) (subst (λ (setup : Option Setup). StopsInOrder pt (transcript_in pt v.scene first.item transcript setup) (after v Begin)) (sym run.setup_is) (by_test (owes_stop row.calls) refl))
  where
    transcript : List Carried
    transcript = transcript_of pt s.course

    agrees : Agrees v
    agrees = stands-agree log v s

    first : BeginsFirst v
    first = begins-first v agrees b

    run : HasSetup v.scene
    run = round-setup v agrees.run b.idle.round

    known : Known
    known = known_in v.scene run.setup

    row : Row
    row = row_of v.scene.outside.tills known first.item

    calls_are : (after v Begin).calls ≡ row.calls
    calls_are = ap (λ l. (after (record v { items = l }) Begin).calls) first.items_are ∙ in-owes v.scene run.setup first.item row.calls run.setup_is refl

    now : List Carried
    now = if is_number pt (terminal_of first.item) then transcript_with known first.item transcript else transcript

    by_stop : SendsStop known first.item row.calls → StopsInOrder pt now (after v Begin)
    by_stop sends = record {
      later_none = ap (λ calls. owes_stop (later calls)) (calls_are ∙ sends.calls_are);
      next = λ next. stops_now (let n : Some (OwedSendPt sends.number (Ask commands.Stop)) ≡ Some (OwedSendPt pt (Ask commands.Stop)) = sym (ap first_call (calls_are ∙ sends.calls_are)) ∙ next in cc);
      sound = begun-sound pt known first.item transcript sound;
    }
      where
        stops_now : sends.number ≡ pt → StopsNow now
        stops_now same =
            let found : terminal_at known pt ≡ Some sends.terminal = ap (terminal_at known) (sym same) ∙ sends.found in
            let follows : FollowsTranscript pt transcript v.scene.core = idle-follows rows log v s pt sends.terminal found (clear-where v.scene.stage is_round refl b.idle.round) b.idle.calls in
            let stops = sends.stops transcript (subst (λ n. FollowsTranscript n transcript v.scene.core) (sym same) follows) sound in
            let own : is_number pt (terminal_of first.item) ≡ true = ap (is_number pt) sends.of_it ∙ eq-eqb sends.number pt same in
            subst StopsNow (sym (ap (λ (b : Bool). if b then transcript_with known first.item transcript else transcript) own ∙ ap (λ (b : Bool). if b then [] else took_by known first.item ++ transcript) sends.no_loss)) stops

    by_test : (test : Bool) → owes_stop row.calls ≡ test → StopsInOrder pt now (after v Begin)
    by_test false none = none-in-order pt now (after v Begin) (ap owes_stop calls_are ∙ none) (begun-sound pt known first.item transcript sound)
    by_test true sends = by_stop (item-sends v.scene.outside.tills known first.item sends)

transcript-append : (pt : ℕ) (v : View) (transcript : List Carried) (first more : List Move) → transcript_from pt v transcript (first ++ more) ≡ transcript_from pt (view_from v first) (transcript_from pt v transcript first) more
transcript-append pt v transcript [] more = refl
transcript-append pt v transcript (move ∷ first) more = transcript-append pt (after v move) (transcript_moved pt v move transcript) first more

move-in-order : EachRowFollowsTranscript → (pt : ℕ) (course : List Move) → IsCourse at_first course → (move : Move) → Allowed (view_from at_first course) move → StopsInOrder pt (transcript_of pt course) (view_from at_first course)
    → StopsInOrder pt (transcript_moved pt (view_from at_first course) move (transcript_of pt course)) (after (view_from at_first course) move)
move-in-order rows pt course lawful Begin ok h = begin-in-order rows (turns_of course) (view_from at_first course) (record { course = course; log_is = refl; lawful = lawful; view_is = refl }) pt ok h.sound
move-in-order rows pt course lawful (Read as_read) ok h = none-in-order pt (transcript_of pt course) (after (view_from at_first course) (Read as_read)) refl h.sound
move-in-order rows pt course lawful (Make turn) ok h =
    none-in-order pt (transcript_made pt (view_from at_first course) turn (transcript_of pt course)) (after_turn (view_from at_first course) turn) (turn-no-stop (view_from at_first course) turn h.later_none) (turn-sound pt (transcript_of pt course) (view_from at_first course) turn h)

-- along each course, from one that leads there
course-in-order : EachRowFollowsTranscript → (pt : ℕ) (course moves : List Move) → IsCourse at_first course → IsCourse (view_from at_first course) moves → StopsInOrder pt (transcript_of pt course) (view_from at_first course)
    → StopsInOrder pt (transcript_of pt (course ++ moves)) (view_from at_first (course ++ moves))
course-in-order rows pt course [] lawful c h = subst (λ l. StopsInOrder pt (transcript_of pt l) (view_from at_first l)) (sym (append-nil course)) h
course-in-order rows pt course (move ∷ moves) lawful c h =
    let longer : List Move = course ++ move ∷ [] in
    let view_is : view_from at_first longer ≡ after (view_from at_first course) move = view_from-append at_first course (move ∷ []) in
    let transcript_is : transcript_of pt longer ≡ transcript_moved pt (view_from at_first course) move (transcript_of pt course) = transcript-append pt at_first [] course (move ∷ []) in
    let next = subst (λ t. StopsInOrder pt t (view_from at_first longer)) (sym transcript_is) (subst (StopsInOrder pt (transcript_moved pt (view_from at_first course) move (transcript_of pt course))) (sym view_is) (move-in-order rows pt course lawful move c.0 h)) in
    subst (λ l. StopsInOrder pt (transcript_of pt l) (view_from at_first l)) (append_assoc course (move ∷ []) moves)
    (course-in-order rows pt longer moves (course-append at_first course (move ∷ []) lawful (c.0, tt)) (subst (λ w. IsCourse w moves) (sym view_is) c.1) next)

-- ---- the law

pub each-stop-is-wished-once : EachRowFollowsTranscript → EachStopIsWishedOnce
each-stop-is-wished-once rows log v s pt next =
    let h = course-in-order rows pt [] s.course tt s.lawful (record { later_none = refl; next = λ next. first-no-stop [] pt refl next; sound = λ stopped. no-true stopped }) in
    let now = h.next (ap (λ (w : View). first_call w.calls) s.view_is ∙ next) in
    record {
      acknowledged = came-acked (transcript_of pt s.course) now.stoppable.acked;
      wished = came-wished (transcript_of pt s.course) now.stoppable.wished;
      first = now.first;
    }

-- of what is sent to a terminal only the stop has its bytes
abbrev has_stop_instr : List ℕ → Bool
has_stop_instr [] = false
has_stop_instr (class ∷ []) = false
has_stop_instr (class ∷ instr ∷ more) = instr == 0xB0

stop-alone : (sending : Sending) → canonical_command commands.Stop ≡ sending_bytes sending → sending ≡ Ask commands.Stop
stop-alone (Ask (commands.Register password config currency)) e = no-true (sym (ap has_stop_instr e))
stop-alone (Ask (commands.Authorise amount currency)) e = no-true (sym (ap has_stop_instr e))
stop-alone (Ask (commands.Enquire password)) e = no-true (sym (ap has_stop_instr e))
stop-alone (Ask (commands.Reverse password receipt)) e = no-true (sym (ap has_stop_instr e))
stop-alone (Ask (commands.EndOfDay password)) e = no-true (sym (ap has_stop_instr e))
stop-alone (Ask commands.Stop) e = refl
stop-alone (Ask (commands.Show texts)) e = no-true (sym (ap has_stop_instr e))
stop-alone Acknowledge e = no-true (sym (ap has_stop_instr e))
stop-alone Refuse e = no-true (sym (ap has_stop_instr e))

pub stop-is-sent-once : EachRowFollowsTranscript → StopIsSentOnce
stop-is-sent-once rows before rest pt lawful =
    let x = split-log before (SentPt pt (canonical_command commands.Stop) true) rest lawful in
    let v = view_from at_first x.first in
    let s = split-stands before (SentPt pt (canonical_command commands.Stop) true) rest x in
    (v, s, each-stop-is-wished-once rows before v s pt (x.allowed.1 ∙ ap (λ sending. Some (OwedSendPt pt sending)) (stop-alone x.allowed.0 x.allowed.2)))

-- ---- the example

pub example-stops : ExampleStops
example-stops = record {
  wished_after = record { acknowledged = refl; wished = refl; first = refl };
  wished_before = record { acknowledged = refl; wished = refl; first = refl };
  unwished = refl;
  unacknowledged = refl;
  stopped = refl;
  anew = refl;
}
