-- What an Abort stops: `06 B0` is sent once a dialogue, and ends nothing.
use Rattle.std.proofs.Common.{◌≡◌, ℕ, inl, inr, zero, suc, List, [], ◌∷◌, refl, sym, ◌∙◌, ap, subst, Bool, true, false, cond, eqb}
use Rattle.std.specs.Prelude.{◌||◌, ◌&&◌, ◌+ℤ◌, not, set, pos, slice_get, nat_le, nat_lt, Option, Some, None, Result, Ok, Err, if◌then◌else◌}
use Rattle.std.specs.Option.{option_map}
use Rattle.gw_base.specs.declared.figures.Figures.{Figures}
use Rattle.sale_values.specs.declared.header.Header.{Header}
use Rattle.sale_values.specs.declared.names.Period.{Period}
use Rattle.sale_values.specs.declared.request.Output.{Output}
use Rattle.sale_values.specs.declared.request.Reference.{Reference}
use Rattle.sale_values.specs.declared.request.SaleRequest.{SaleRequest}
use Rattle.sale_values.specs.Key.{key_of}
use Rattle.zvt_msg.specs.declared.command.Command.{Command}
use Rattle.zvt_msg.specs.declared.fault.PtFault.{PtFault}
use Rattle.zvt_msg.specs.Message.{MessageValue, Ack, Nack, Intermediate, Line, Block, Status, Completion, Abort, Other}
use Rattle.zvt_apdu.specs.Grammar.{ApduValue}
use Rattle.zvt_msg.specs.MessageDecode.{decode_pt_message}
use Rattle.zvt_talk.specs.declared.dialogue_kind.DialogueKind.{DialogueKind}
use Rattle.zvt_talk.specs.declared.dialogue_kind.DialogueKind.TheVariants.{Registration, Enquiry, Payment, Reversal, EndOfDay as EndOfDayDialogue, Display as DisplayDialogue}
use Rattle.zvt_talk.specs.declared.meaning.Heard.{Heard}
use Rattle.zvt_talk.specs.declared.meaning.Heard.TheVariants as heard
use Rattle.zvt_talk.specs.declared.phase.Phase.{Phase}
use Rattle.zvt_talk.specs.declared.phase.Phase.TheVariants.{Asked, Begun, Ended}
use Rattle.zvt_talk.specs.Table.{acknowledged, meaning_of_abort, meaning_of_completion}
use Rattle.zvt_talk.specs.declared.statuses.Statuses.{Statuses}
use Rattle.zvt_talk.specs.Came.{is_taken}
use Rattle.zvt_talk.specs.Dialogue.{is_display}
use Rattle.zvt_talk.specs.Talk.{TalkFacts, is_end}
use Rattle.zvt_talk.specs.TalkSteps.{meaning_in_phase, next_phase, next_talk, phase_after_stop_wished, may_send_stop, no_statuses, was_stop_sent}
use Rattle.zvt_talk.proofs.EndLemmas.{aborted_ends, completed_ends}
use Rattle.jrn_record.specs.declared.records.Deal.{Deal}
use Rattle.jrn_record.specs.declared.records.Deal.TheVariants as deals
use Rattle.jrn_record.specs.declared.records.How.TheVariants as hows
use Rattle.jrn_record.specs.declared.records.Intent.{Intent as TheIntent}
use Rattle.gw_ledger.specs.declared.entry.Entry.{Entry as TheEntry}
use Rattle.sale_reply.specs.declared.reply.Shown.{Shown}
use Rattle.xlate.specs.Ask.{ask_for}
use Rattle.xlate.specs.Codes.{condition_of_code}
use Rattle.xlate.specs.Display.{show}
use Rattle.gw_owes.specs.declared.terminal.Service.{Service}
use Rattle.gw_owes.specs.declared.terminal.Service.TheVariants.{Transaction, EndOfDay, Display}
use Rattle.gw_owes.specs.declared.terminal.Standing.{Standing}
use Rattle.gw_owes.specs.declared.terminal.Standing.TheVariants.{Unlinked, Registering, Enquiring, Ready, Serving, Aside}
use Rattle.gw_owes.specs.declared.terminal.Terminal.{Terminal}
use Rattle.gw_owes.specs.AbortLaws.{AbortCodeOfDayIsReplied, IsStoppable, is_stop, owes_stop, ServesAborted, GoesOnIn, SendsWished, WishedIsSent, StoppedIsNotStoppedAgain, IsFirstStop, EachStopIsTheFirst, KeepsServing, StopEndsNothing, StaysBegun, AckOrNackEndsNothing}
use Rattle.gw_owes.specs.Awaited.{one_more_awaited, one_less_awaited}
use Rattle.gw_owes.specs.Calls.{LinkPt}
use Rattle.gw_owes.specs.Deadlines.{is_late, is_due}
use Rattle.gw_owes.specs.Dialogues.{runs_transaction, IsKindOfService, RunsService, IsDialogueOf, HasItsDialogue}
use Rattle.gw_owes.specs.Displays.{serving_display}
use Rattle.gw_owes.specs.Greeting.{greeting, sending_calls, greet_decoded}
use Rattle.gw_owes.specs.Handling.{awaited_after, taken_as, meaning_for, meaning_at, taking, registering, enquiring, serving, consequence, handle_row}
use Rattle.gw_owes.specs.Items.{Crowded, Message, Asked as AskedItem, Unframed, Gone, Greet, Handle, Serve, Queue, NextWaiting, Oversized, LinkLost, Late, Overdue, Due}
use Rattle.gw_owes.specs.Links.{is_linked, cutting}
use Rattle.gw_owes.specs.PaymentLaws.{MeansServed}
use Rattle.gw_owes.specs.Payments.{Asking, beginning_row}
use Rattle.gw_owes.specs.Reconciliations.{reply_to_settled, serving_day, settled_of}
use Rattle.gw_owes.specs.Replies.{failure_reply}
use Rattle.gw_owes.specs.Reply.{ReplyValue}
use Rattle.gw_owes.specs.Reports.{Report, on_record, outcome_reported, report_against}
use Rattle.gw_owes.specs.Row.{Known, Row, owing, owing_nothing, owing_where}
use Rattle.gw_owes.specs.Serving.{at_rest, staying, stops, was_stopped, reply_to_outcome, approved_outcome, resolves, approved_row, serving_transaction}
use Rattle.gw_owes.specs.Stops.{stop_row, stops_key, wishes_stop, wishing}
use Rattle.gw_owes.specs.TerminalLaws.{GoesOnTo}
use Rattle.gw_owes.specs.TerminalRows.{terminal_row}
use Rattle.gw_owes.specs.Terminals.{terminal_at, of_terminal, terminal_becomes, reply_calls_to, reply_to_lost, unlinks}
use Rattle.gw_owes.specs.WaitingRows.{next_waiting_row}
use Rattle.gw_owes.proofs.DialogueLemmas.{shown-lines}
use Rattle.gw_owes.proofs.HandlingLemmas.{IsShown, by-where, each-terminal, each-linked, each-handled, plain-row}
use Rattle.gw_owes.proofs.NextLemmas.{each-next, known_without}
use Rattle.gw_owes.proofs.PaymentLawLemmas.{served-leads, stopped-same}
use Rattle.gw_owes.proofs.PaymentLemmas.{StopsAt, each-served, each-stopped}
use Rattle.gw_owes.proofs.SetLemmas.{new-is-there, same-some}

-- ---- rows that send no stop

pub never : {A : Type 0} → (b : Bool) → b ≡ false → b ≡ true → A
never b is_false is_true = absurd (let e : false ≡ true = sym is_false ∙ is_true in cc)

pub reply-no-stop : (asker : Option ℕ) (reply : Option ReplyValue) → owes_stop (reply_calls_to asker reply) ≡ false
reply-no-stop None reply = refl
reply-no-stop (Some till) None = refl
reply-no-stop (Some till) (Some reply) = refl

greeting-no-stop : (number : ℕ) (message : MessageValue) → owes_stop (sending_calls number (greeting message)) ≡ false
greeting-no-stop number Ack = refl
greeting-no-stop number (Nack error_code) = refl
greeting-no-stop number (Intermediate intermediate_status) = refl
greeting-no-stop number (Line text) = refl
greeting-no-stop number (Block objects) = refl
greeting-no-stop number (Status fields) = refl
greeting-no-stop number Completion = refl
greeting-no-stop number (Abort result_code) = refl
greeting-no-stop number Other = refl

-- the row sends no stop
abbrev pub NoStop : Row → Type 0
NoStop row = owes_stop row.calls ≡ false

pub greet-no-stop : (known : Known) (number : ℕ) (decoded : Result MessageValue PtFault) → NoStop (greet_decoded known number decoded)
greet-no-stop known number (Ok message) = each-linked NoStop known number (λ terminal. owing known (sending_calls number (greeting message))) refl (λ terminal found linked. greeting-no-stop number message)
greet-no-stop known number (Err fault) = each-linked NoStop known number (λ terminal. cutting known number) refl (λ terminal found linked. refl)

pub lost-no-stop : (known : Known) (number : ℕ) → NoStop (of_terminal known (unlinks known number) (terminal_at known number))
lost-no-stop known number = each-terminal NoStop known number (unlinks known number) refl (λ terminal found. reply-no-stop terminal.asker (reply_to_lost terminal.standing))

pub late-no-stop : (known : Known) (number : ℕ) → NoStop (terminal_row known (Late number))
late-no-stop known number =
    each-terminal NoStop known number (λ terminal. owing_where (is_late known.moment terminal.talk) known (cutting known number)) refl
    (λ terminal found. by-where NoStop known (cutting known number) (is_late known.moment terminal.talk) refl (λ late. refl))

pub due-no-stop : (known : Known) (number : ℕ) → NoStop (terminal_row known (Due number))
due-no-stop known number =
    each-terminal NoStop known number (λ terminal. owing_where (is_due known.moment terminal.standing) known (owing known (LinkPt number ∷ []))) refl
    (λ terminal found. by-where NoStop known (owing known (LinkPt number ∷ [])) (is_due known.moment terminal.standing) refl (λ due. refl))

pub registering-no-stop : (known : Known) (number : ℕ) (terminal : Terminal) (meant : Heard) → NoStop (registering known number terminal meant)
registering-no-stop known number terminal (heard.Begun stop) = refl
registering-no-stop known number terminal (heard.Note intermediate_status) = refl
registering-no-stop known number terminal heard.Line = refl
registering-no-stop known number terminal heard.Block = refl
registering-no-stop known number terminal heard.Seen = refl
registering-no-stop known number terminal (heard.Approved figures) = refl
registering-no-stop known number terminal heard.Done = refl
registering-no-stop known number terminal (heard.Told reported approved result_code) = refl
registering-no-stop known number terminal (heard.Declined result_code reported) = refl
registering-no-stop known number terminal heard.Unclear = refl
registering-no-stop known number terminal heard.Stray = refl

report-no-stop : (known : Known) (number : ℕ) (terminal : Terminal) (opened : Option TheEntry) (last : ℕ) (report : Report) → NoStop (report_against opened last known number terminal report)
report-no-stop known number terminal None last report = refl
report-no-stop known number terminal (Some entry) last report = by-number (nat_le entry.intent.before report.trace)
  where
    by-number : (least : Bool) → NoStop (if least then resolves known number terminal (Ready report.trace) (outcome_reported entry report known.moment) else terminal_becomes known number (at_rest terminal (Aside entry.intent.before report.trace)) [])
    by-number true = reply-no-stop terminal.asker (reply_to_outcome known.kept (outcome_reported entry report known.moment).slot (outcome_reported entry report known.moment))
    by-number false = refl

pub enquiring-no-stop : (known : Known) (number : ℕ) (terminal : Terminal) (meant : Heard) → NoStop (enquiring known number terminal meant)
enquiring-no-stop known number terminal (heard.Begun stop) = refl
enquiring-no-stop known number terminal (heard.Note intermediate_status) = refl
enquiring-no-stop known number terminal heard.Line = refl
enquiring-no-stop known number terminal heard.Block = refl
enquiring-no-stop known number terminal heard.Seen = refl
enquiring-no-stop known number terminal (heard.Approved figures) = refl
enquiring-no-stop known number terminal heard.Done = refl
enquiring-no-stop known number terminal (heard.Told trace approved result_code) =
    report-no-stop known number terminal (on_record known.kept terminal.pt.poi).opened (on_record known.kept terminal.pt.poi).last (record { trace = trace; approved = approved; result_code = result_code })
enquiring-no-stop known number terminal (heard.Declined result_code reported) = refl
enquiring-no-stop known number terminal heard.Unclear = refl
enquiring-no-stop known number terminal heard.Stray = refl

approved-no-stop : (known : Known) (number : ℕ) (terminal : Terminal) (slot last : ℕ) (figures : Figures) → NoStop (approved_row known number terminal slot last figures)
approved-no-stop known number terminal slot last figures = by-number (nat_lt last figures.number)
  where
    by-number : (above : Bool) → NoStop (if above then resolves known number terminal (Ready figures.number) (approved_outcome slot figures known.moment) else terminal_becomes known number (at_rest terminal (Aside last figures.number)) [])
    by-number true = reply-no-stop terminal.asker (reply_to_outcome known.kept slot (approved_outcome slot figures known.moment))
    by-number false = refl

-- what is served is stopped only where a wish meets the acknowledgement of its command
pub transaction-stop : (known : Known) (number : ℕ) (terminal : Terminal) (slot last : ℕ) (meant : Heard) → owes_stop (serving_transaction known number terminal slot last meant).calls ≡ true → meant ≡ heard.Begun true
transaction-stop known number terminal slot last (heard.Begun true) sends = refl
transaction-stop known number terminal slot last (heard.Begun false) sends = absurd cc
transaction-stop known number terminal slot last (heard.Note intermediate_status) sends = absurd cc
transaction-stop known number terminal slot last heard.Line sends = absurd cc
transaction-stop known number terminal slot last heard.Block sends = absurd cc
transaction-stop known number terminal slot last heard.Seen sends = absurd cc
transaction-stop known number terminal slot last (heard.Approved figures) sends = never _ (approved-no-stop known number terminal slot last figures) sends
transaction-stop known number terminal slot last heard.Done sends = absurd cc
transaction-stop known number terminal slot last (heard.Told reported approved result_code) sends = absurd cc
transaction-stop known number terminal slot last (heard.Declined result_code reported) sends = never _ (reply-no-stop terminal.asker _) sends
transaction-stop known number terminal slot last heard.Unclear sends = absurd cc
transaction-stop known number terminal slot last heard.Stray sends = absurd cc

-- nor is an end of day
pub day-stop : (known : Known) (number : ℕ) (terminal : Terminal) (last : ℕ) (header : Header) (meant : Heard) → owes_stop (serving_day known number terminal last header meant).calls ≡ true → meant ≡ heard.Begun true
day-stop known number terminal last header (heard.Begun true) sends = refl
day-stop known number terminal last header (heard.Begun false) sends = absurd cc
day-stop known number terminal last header (heard.Note intermediate_status) sends = absurd cc
day-stop known number terminal last header heard.Line sends = absurd cc
day-stop known number terminal last header heard.Block sends = absurd cc
day-stop known number terminal last header heard.Seen sends = absurd cc
day-stop known number terminal last header (heard.Approved figures) sends = absurd cc
day-stop known number terminal last header heard.Done sends = never _ (reply-no-stop terminal.asker _) sends
day-stop known number terminal last header (heard.Told reported approved result_code) sends = absurd cc
day-stop known number terminal last header (heard.Declined result_code reported) sends = never _ (reply-no-stop terminal.asker _) sends
day-stop known number terminal last header heard.Unclear sends = absurd cc
day-stop known number terminal last header heard.Stray sends = absurd cc

-- and a display isn't at all
pub display-no-stop : (known : Known) (number : ℕ) (terminal : Terminal) (last : ℕ) (header : Header) (results : Option (List Shown)) (meant : Heard) → NoStop (serving_display known number terminal last header results meant)
display-no-stop known number terminal last header results (heard.Begun stop) = refl
display-no-stop known number terminal last header results (heard.Note intermediate_status) = refl
display-no-stop known number terminal last header results heard.Line = refl
display-no-stop known number terminal last header results heard.Block = refl
display-no-stop known number terminal last header results heard.Seen = refl
display-no-stop known number terminal last header results (heard.Approved figures) = refl
display-no-stop known number terminal last header results heard.Done = reply-no-stop terminal.asker _
display-no-stop known number terminal last header results (heard.Told reported approved result_code) = refl
display-no-stop known number terminal last header results (heard.Declined result_code reported) = reply-no-stop terminal.asker _
display-no-stop known number terminal last header results heard.Unclear = refl
display-no-stop known number terminal last header results heard.Stray = refl

-- the command of what begins is no stop
asked-no-stop : (what : Deal) (intent : TheIntent) (original : Option TheEntry) (password : List ℕ) → is_stop (ask_for what intent original password) ≡ false
asked-no-stop deals.Payment intent original password = refl
asked-no-stop deals.Reversal intent original password = refl

-- nor is one that shows outputs
pub shown-no-stop : (outputs : List Output) (command : Command) → show outputs ≡ Some command → is_stop command ≡ false
shown-no-stop outputs command is = let lines = shown-lines outputs command is in ap is_stop lines.1

-- ---- the acknowledgement with which a wish is sent

either-no : (b : Bool) (error_code : ℕ) → cond b heard.Unclear (heard.Declined error_code None) ≡ heard.Begun true → ⊥
either-no true error_code e = cc
either-no false error_code e = cc

no-end : (meant : Heard) → is_end meant ≡ true → meant ≡ heard.Begun true → ⊥
no-end meant ends is = let e : true ≡ false = sym ends ∙ ap is_end is in cc

-- the command was not acknowledged, a stop was wished, and the message acknowledges it
pub record MeetsWish (phase : Phase) (message : MessageValue) : Type 0 where
  pub phase_is : phase ≡ Asked true
  pub message_is : message ≡ Ack

not-wished : (shows : Bool) → acknowledged shows false ≡ heard.Begun true → ⊥
not-wished true e = cc
not-wished false e = cc

pub meets-wish : (dialogue_kind : DialogueKind) (none : ℕ) (phase : Phase) (message : MessageValue) → meaning_in_phase dialogue_kind none phase message ≡ heard.Begun true → MeetsWish phase message
meets-wish dialogue_kind none (Asked true) Ack is = record { phase_is = refl; message_is = refl }
meets-wish dialogue_kind none (Asked false) Ack is = absurd (not-wished (is_display dialogue_kind) is)
meets-wish dialogue_kind none (Asked stop_wished) (Nack error_code) is = absurd (either-no (eqb error_code 0) error_code is)
meets-wish dialogue_kind none (Asked stop_wished) (Intermediate intermediate_status) is = absurd cc
meets-wish dialogue_kind none (Asked stop_wished) (Line text) is = absurd cc
meets-wish dialogue_kind none (Asked stop_wished) (Block objects) is = absurd cc
meets-wish dialogue_kind none (Asked stop_wished) (Status fields) is = absurd cc
meets-wish dialogue_kind none (Asked stop_wished) Completion is = absurd cc
meets-wish dialogue_kind none (Asked stop_wished) (Abort result_code) is = absurd cc
meets-wish dialogue_kind none (Asked stop_wished) Other is = absurd cc
meets-wish dialogue_kind none (Begun stop_sent statuses) Ack is = absurd cc
meets-wish dialogue_kind none (Begun stop_sent statuses) (Nack error_code) is = absurd cc
meets-wish dialogue_kind none (Begun stop_sent statuses) (Intermediate intermediate_status) is = absurd cc
meets-wish dialogue_kind none (Begun stop_sent statuses) (Line text) is = absurd cc
meets-wish dialogue_kind none (Begun stop_sent statuses) (Block objects) is = absurd cc
meets-wish dialogue_kind none (Begun stop_sent statuses) (Status fields) is = absurd cc
meets-wish dialogue_kind none (Begun stop_sent statuses) Completion is = absurd (no-end (meaning_of_completion dialogue_kind statuses) (completed_ends dialogue_kind statuses) is)
meets-wish dialogue_kind none (Begun stop_sent statuses) (Abort result_code) is = absurd (no-end (meaning_of_abort dialogue_kind none statuses result_code) (aborted_ends dialogue_kind none statuses result_code) is)
meets-wish dialogue_kind none (Begun stop_sent statuses) Other is = absurd cc
meets-wish dialogue_kind none (Ended stop_sent) message is = absurd cc

-- of what is handed to the dialogue only an Ack is one
pub handed-ack : (awaited : ℕ) (message : MessageValue) → taken_as awaited message ≡ Ack → message ≡ Ack
handed-ack awaited Ack is = refl
handed-ack awaited (Nack error_code) is = absurd cc
handed-ack awaited (Intermediate intermediate_status) is = absurd cc
handed-ack awaited (Line text) is = absurd cc
handed-ack awaited (Block objects) is = absurd cc
handed-ack awaited (Status fields) is = absurd cc
handed-ack awaited Completion is = absurd cc
handed-ack awaited (Abort result_code) is = absurd cc
handed-ack awaited Other is = absurd cc

-- what may be stopped is no display
stoppable-kind : (service : Service) (dialogue_kind : DialogueKind) → IsStoppable service → IsKindOfService service dialogue_kind → is_display dialogue_kind ≡ false
stoppable-kind (Transaction slot) dialogue_kind stoppable is = by-kind dialogue_kind is
  where
    by-kind : (runs : DialogueKind) → runs_transaction runs ≡ true → is_display runs ≡ false
    by-kind Registration e = refl
    by-kind Enquiry e = refl
    by-kind Payment e = refl
    by-kind Reversal e = refl
    by-kind EndOfDayDialogue e = refl
    by-kind DisplayDialogue e = absurd cc
stoppable-kind (EndOfDay header period) dialogue_kind stoppable is = ap is_display is
stoppable-kind (Display header results) dialogue_kind stoppable is = absurd stoppable

-- so an Ack begins it, with the stop that was wished
acknowledged-means : (dialogue_kind : DialogueKind) (none : ℕ) → is_display dialogue_kind ≡ false → meaning_in_phase dialogue_kind none (Asked true) Ack ≡ heard.Begun true
acknowledged-means dialogue_kind none no_display = ap (λ (shows : Bool). acknowledged shows true) no_display

acknowledged-sent : (dialogue_kind : DialogueKind) → is_display dialogue_kind ≡ false → was_stop_sent (next_phase dialogue_kind (Asked true) Ack) ≡ true
acknowledged-sent dialogue_kind no_display = ap (λ (shows : Bool). was_stop_sent (if true && not shows then Begun true no_statuses else Ended false)) no_display

-- the terminal that has taken it was sent the stop
taken-sent : (terminal : Terminal) (moment : ℕ) (facts : TalkFacts) → terminal.talk ≡ Some facts → is_display facts.dialogue_kind ≡ false → facts.phase ≡ Asked true → was_stopped (taking terminal Ack moment).talk ≡ true
taken-sent terminal moment facts runs no_display asked =
    ap (λ (talk : Option TalkFacts). was_stopped (option_map (λ t. next_talk t Ack (pos moment)) talk)) runs
    ∙ ap (λ (phase : Phase). was_stop_sent (next_phase facts.dialogue_kind phase Ack)) asked
    ∙ acknowledged-sent facts.dialogue_kind no_display

-- what a terminal runs that serves this
served-runs : (terminal : Terminal) (service : Service) (last : ℕ) → terminal.standing ≡ Serving service last → HasItsDialogue terminal → RunsService service terminal.talk terminal.awaited
served-runs terminal service last is has = subst (λ (s : Standing). IsDialogueOf s terminal.talk terminal.awaited) is has

-- what may be stopped is
begun-stops : (known : Known) (number : ℕ) (terminal : Terminal) (service : Service) (last : ℕ) → IsStoppable service → serving known number terminal service last (heard.Begun true) ≡ stops known number terminal
begun-stops known number terminal (Transaction slot) last stoppable = refl
begun-stops known number terminal (EndOfDay header period) last stoppable = refl
begun-stops known number terminal (Display header results) last stoppable = absurd stoppable

-- ---- a stop that was wished is sent with the acknowledgement

-- what the message means with which it is sent
wish-means : (terminal : Terminal) (facts : TalkFacts) → terminal.talk ≡ Some facts → is_display facts.dialogue_kind ≡ false → facts.phase ≡ Asked true → meaning_at terminal Ack ≡ heard.Begun true
wish-means terminal facts runs no_display asked =
    ap (λ (talk : Option TalkFacts). meaning_for talk Ack) runs ∙ ap (λ (phase : Phase). meaning_in_phase facts.dialogue_kind facts.none phase Ack) asked
    ∙ acknowledged-means facts.dialogue_kind facts.none no_display

-- its row
wish-sends : (known : Known) (number : ℕ) (apdu : ApduValue) (terminal : Terminal) (service : Service) (last : ℕ) → terminal_at known number ≡ Some terminal → terminal.standing ≡ Serving service last → IsStoppable service
    → decode_pt_message apdu ≡ Ok Ack → meaning_at terminal Ack ≡ heard.Begun true → handle_row known number apdu ≡ stops known number (taking terminal Ack known.moment)
wish-sends known number apdu terminal service last found is stoppable decoded means =
    plain-row known number apdu terminal Ack found (ap is_linked is) decoded refl (λ is_shown. subst IsShown means is_shown)
    ∙ ap (consequence known number (taking terminal Ack known.moment) (meaning_at terminal Ack)) is
    ∙ ap (serving known number (taking terminal Ack known.moment) service last) means
    ∙ begun-stops known number (taking terminal Ack known.moment) service last stoppable

pub wished-is-sent : WishedIsSent
wished-is-sent known number apdu terminal service last talk found is stoppable has runs asked decoded =
    let serves : RunsService service terminal.talk terminal.awaited = served-runs terminal service last is has in
    let same : serves.facts ≡ talk = same-some serves.facts talk (sym serves.talk_is ∙ runs) in
    let no_display : is_display talk.dialogue_kind ≡ false = ap (λ (t : TalkFacts). is_display t.dialogue_kind) (sym same) ∙ stoppable-kind service serves.facts.dialogue_kind stoppable serves.kind_is in
    subst (SendsWished number terminal)
    (sym (wish-sends known number apdu terminal service last found is stoppable decoded (wish-means terminal talk runs no_display asked)))
    (record {
      next = record (taking terminal Ack known.moment) { awaited = one_more_awaited (taking terminal Ack known.moment).awaited };
      found = new-is-there known.core.terminals number terminal _ found;
      standing_is = refl;
      sent = taken-sent terminal known.moment talk runs no_display asked;
      calls_are = refl;
    })

-- ---- an Ack or a Nack in a dialogue that is begun

-- each has no meaning there, and leaves the phase as it is
record IsPassedBy (message : MessageValue) : Type 0 where
  means : (dialogue_kind : DialogueKind) (none : ℕ) (stop_sent : Bool) (statuses : Statuses) → meaning_in_phase dialogue_kind none (Begun stop_sent statuses) message ≡ heard.Stray
  next : (talk : TalkFacts) (stop_sent : Bool) (statuses : Statuses) (moment : ℕ) → talk.phase ≡ Begun stop_sent statuses → next_talk talk message (pos moment) ≡ record talk { deadline = pos moment +ℤ pos talk.command_time }

ack-passed : IsPassedBy Ack
ack-passed = record {
  means = λ dialogue_kind none stop_sent statuses. refl;
  next = λ talk stop_sent statuses moment begun.
      ap (λ (phase : Phase). record talk { phase = phase; deadline = pos moment +ℤ pos talk.command_time }) (ap (λ (phase : Phase). next_phase talk.dialogue_kind phase Ack) begun ∙ sym begun);
}

nack-passed : (error_code : ℕ) → IsPassedBy (Nack error_code)
nack-passed error_code = record {
  means = λ dialogue_kind none stop_sent statuses. refl;
  next = λ talk stop_sent statuses moment begun.
      ap (λ (phase : Phase). record talk { phase = phase; deadline = pos moment +ℤ pos talk.command_time }) (ap (λ (phase : Phase). next_phase talk.dialogue_kind phase (Nack error_code)) begun ∙ sym begun);
}

-- what is served stays as it is where a message means nothing
stray-stays : (known : Known) (number : ℕ) (terminal : Terminal) (service : Service) (last : ℕ) → serving known number terminal service last heard.Stray ≡ staying known number terminal
stray-stays known number terminal (Transaction slot) last = refl
stray-stays known number terminal (EndOfDay header period) last = refl
stray-stays known number terminal (Display header results) last = refl

-- such a message leaves the terminal with its dialogue begun
passed-stays : (known : Known) (number : ℕ) (apdu : ApduValue) (message : MessageValue) (terminal : Terminal) (service : Service) (last : ℕ) (talk : TalkFacts) (stop_sent : Bool) (statuses : Statuses) → terminal_at known number ≡ Some terminal
    → terminal.standing ≡ Serving service last → terminal.talk ≡ Some talk → talk.phase ≡ Begun stop_sent statuses → decode_pt_message apdu ≡ Ok message → is_taken message ≡ true
    → awaited_after message terminal.awaited ≡ one_less_awaited terminal.awaited → IsPassedBy (taken_as terminal.awaited message) → StaysBegun known number terminal talk (handle_row known number apdu)
passed-stays known number apdu message terminal service last talk stop_sent statuses found is runs begun decoded taken less passed =
    subst (StaysBegun known number terminal talk)
    (sym (plain-row known number apdu terminal message found (ap is_linked is) decoded taken (λ is_shown. subst IsShown means is_shown)
    ∙ ap (consequence known number (taking terminal message known.moment) (meaning_at terminal message)) is
    ∙ ap (serving known number (taking terminal message known.moment) service last) means
    ∙ stray-stays known number (taking terminal message known.moment) service last))
    (record {
      terminal_is =
          new-is-there known.core.terminals number terminal (taking terminal message known.moment) found
          ∙ ap (λ (t : Option TalkFacts). Some (record terminal { talk = t; awaited = awaited_after message terminal.awaited }))
          (ap (option_map (λ (t : TalkFacts). next_talk t (taken_as terminal.awaited message) (pos known.moment))) runs ∙ ap (λ (t : TalkFacts). Some t) (passed.next talk stop_sent statuses known.moment begun))
          ∙ ap (λ (n : ℕ). Some (record terminal { talk = Some (record talk { deadline = pos known.moment +ℤ pos talk.command_time }); awaited = n })) less;
      calls_are = refl;
      none_more = refl;
    })
  where
    means : meaning_at terminal message ≡ heard.Stray
    means =
        ap (λ (t : Option TalkFacts). meaning_for t (taken_as terminal.awaited message)) runs
        ∙ ap (λ (phase : Phase). meaning_in_phase talk.dialogue_kind talk.none phase (taken_as terminal.awaited message)) begun
        ∙ passed.means talk.dialogue_kind talk.none stop_sent statuses

pub ack-or-nack-ends-nothing : AckOrNackEndsNothing
ack-or-nack-ends-nothing known number apdu message terminal service last talk stop_sent statuses found is stoppable runs begun decoded (inl ack) =
    passed-stays known number apdu Ack terminal service last talk stop_sent statuses found is runs begun (decoded ∙ ap Ok ack) refl refl ack-passed
ack-or-nack-ends-nothing known number apdu message terminal service last talk stop_sent statuses found is stoppable runs begun decoded (inr (error_code, nack)) =
    passed-stays known number apdu (Nack error_code) terminal service last talk stop_sent statuses found is runs begun (decoded ∙ ap Ok nack) refl refl (nack-passed _)

-- ---- each stop is the first of its dialogue

-- the row sends no stop but the first of its dialogue
abbrev StopsFirst : Known → ℕ → Row → Type 0
StopsFirst known number row = owes_stop row.calls ≡ true → IsFirstStop known number row

none-first : (known : Known) (number : ℕ) (row : Row) → NoStop row → StopsFirst known number row
none-first known number row none sends = never _ none sends

-- a message that has the stop sent meets a wish
met-first : (known : Known) (number : ℕ) (terminal : Terminal) (message : MessageValue) (service : Service) (last : ℕ) → terminal_at known number ≡ Some terminal → terminal.standing ≡ Serving service last → IsStoppable service
    → RunsService service terminal.talk terminal.awaited → meaning_at terminal message ≡ heard.Begun true
    → IsFirstStop known number (serving known number (taking terminal message known.moment) service last (meaning_at terminal message))
met-first known number terminal message service last found is stoppable serves means =
    let facts : TalkFacts = serves.facts in
    let meets : MeetsWish facts.phase (taken_as terminal.awaited message) =
    meets-wish facts.dialogue_kind facts.none facts.phase (taken_as terminal.awaited message)
    (sym (ap (λ (talk : Option TalkFacts). meaning_for talk (taken_as terminal.awaited message)) serves.talk_is) ∙ means) in
    let ack : message ≡ Ack = handed-ack terminal.awaited message meets.message_is in
    subst (IsFirstStop known number)
    (sym (ap (serving known number (taking terminal message known.moment) service last) means ∙ begun-stops known number (taking terminal message known.moment) service last stoppable))
    (record {
      terminal = terminal;
      found = found;
      service = service;
      last = last;
      serves = is;
      stoppable = stoppable;
      before = ap was_stopped serves.talk_is ∙ ap was_stop_sent meets.phase_is;
      next = record (taking terminal message known.moment) { awaited = one_more_awaited (taking terminal message known.moment).awaited };
      next_is = new-is-there known.core.terminals number terminal _ found;
      stays = refl;
      after =
          ap (λ (m : MessageValue). was_stopped (taking terminal m known.moment).talk) ack
          ∙ taken-sent terminal known.moment facts serves.talk_is (stoppable-kind service facts.dialogue_kind stoppable serves.kind_is) meets.phase_is;
      calls_are = refl;
    })

serving-first : (known : Known) (number : ℕ) (terminal : Terminal) (message : MessageValue) (service : Service) (last : ℕ) → terminal_at known number ≡ Some terminal → terminal.standing ≡ Serving service last
    → RunsService service terminal.talk terminal.awaited → StopsFirst known number (serving known number (taking terminal message known.moment) service last (meaning_at terminal message))
serving-first known number terminal message (Transaction slot) last found is has = λ sends.
    met-first known number terminal message (Transaction slot) last found is tt has (transaction-stop known number (taking terminal message known.moment) slot last (meaning_at terminal message) sends)
serving-first known number terminal message (EndOfDay header period) last found is has = λ sends.
    met-first known number terminal message (EndOfDay header period) last found is tt has (day-stop known number (taking terminal message known.moment) last header (meaning_at terminal message) sends)
serving-first known number terminal message (Display header results) last found is has =
    none-first known number _ (display-no-stop known number (taking terminal message known.moment) last header results (meaning_at terminal message))

consequence-first : (known : Known) (number : ℕ) (terminal : Terminal) (message : MessageValue) (standing : Standing) → terminal_at known number ≡ Some terminal → terminal.standing ≡ standing → IsDialogueOf standing terminal.talk terminal.awaited
    → StopsFirst known number (consequence known number (taking terminal message known.moment) (meaning_at terminal message) standing)
consequence-first known number terminal message (Unlinked due) found is has = λ sends. absurd cc
consequence-first known number terminal message Registering found is has = none-first known number _ (registering-no-stop known number (taking terminal message known.moment) (meaning_at terminal message))
consequence-first known number terminal message Enquiring found is has = none-first known number _ (enquiring-no-stop known number (taking terminal message known.moment) (meaning_at terminal message))
consequence-first known number terminal message (Ready last) found is has = λ sends. absurd cc
consequence-first known number terminal message (Serving service last) found is has = serving-first known number terminal message service last found is has
consequence-first known number terminal message (Aside before reported) found is has = λ sends. absurd cc

-- what may be sent was not, and is then
unsent : (phase : Phase) → may_send_stop phase ≡ true → was_stop_sent phase ≡ false
unsent (Asked stop_wished) may = absurd cc
unsent (Begun true statuses) may = absurd cc
unsent (Begun false statuses) may = refl
unsent (Ended stop_sent) may = absurd cc

then-sent : (phase : Phase) → may_send_stop phase ≡ true → was_stop_sent (phase_after_stop_wished phase) ≡ true
then-sent (Asked stop_wished) may = absurd cc
then-sent (Begun stop_sent statuses) may = refl
then-sent (Ended stop_sent) may = absurd cc

stopped-first : (known : Known) (number : ℕ) (header : Header) (request : SaleRequest) (terminal : Terminal) (talk : TalkFacts) → StopsAt known number header request terminal talk → may_send_stop talk.phase ≡ true
    → IsFirstStop known number (stops known number (wishing terminal talk))
stopped-first known number header request terminal talk at may = record {
  terminal = terminal;
  found = at.found;
  service = at.service;
  last = at.last;
  serves = at.standing_is;
  stoppable = at.stoppable;
  before = ap was_stopped at.talk_is ∙ unsent talk.phase may;
  next = record (wishing terminal talk) { awaited = one_more_awaited terminal.awaited };
  next_is = new-is-there known.core.terminals number terminal _ at.found;
  stays = refl;
  after = then-sent talk.phase may;
  calls_are = refl;
}

-- the beginning of a payment or a reversal sends none
pub begun-no-stop : (known : Known) (number till : ℕ) (terminal : Terminal) (last : ℕ) (asking : Asking) → NoStop (beginning_row known number till terminal last asking.intent asking.original)
begun-no-stop known number till terminal last asking = ap (λ (b : Bool). b || false) (asked-no-stop asking.intent.what asking.intent asking.original terminal.pt.password)

serve-first : (known : Known) (number till : ℕ) (header : Header) (request : SaleRequest) → StopsFirst known number (terminal_row known (Serve number till header request))
serve-first known number till header request =
    each-served (StopsFirst known number) known number till header request (record {
      none = λ sends. absurd cc;
      begins = λ terminal last asking at. none-first known number _ (begun-no-stop known number till terminal last asking);
      sent = λ terminal talk at may sends. stopped-first known number header request terminal talk at may;
      wished = λ terminal talk at may sends. absurd cc;
      session = λ success sends. absurd cc;
      settles = λ terminal at. none-first known number _ (reply-no-stop (Some till) (reply_to_settled known.kept (settled_of hows.Sale header terminal.pt.currency known.moment)));
      day = λ terminal last at sends. absurd cc;
      displays = λ terminal last outputs command at. none-first known number _ (ap (λ (b : Bool). b || false) (shown-no-stop outputs command at.shown_is));
    })

-- what has waited and begins sends none
next-no-stop : (known : Known) (number : ℕ) → NoStop (next_waiting_row known number)
next-no-stop known number = each-next NoStop known number (record {
  none = refl;
  refused = λ terminal last wait condition first refused. refl;
  begins = λ terminal last wait asking at. begun-no-stop (known_without known wait) number wait.till terminal last asking;
  day = λ terminal last wait at. refl;
  left = λ terminal last wait first. refl;
})

same-number : (one other : ℕ) → Some one ≡ Some other → one ≡ other
same-number one other e = cc

pub each-stop-is-first : EachStopIsTheFirst
each-stop-is-first known (Crowded till) number about has = λ sends. absurd cc
each-stop-is-first known (Message till bytes) number about has = λ sends. absurd cc
each-stop-is-first known (AskedItem till as_read) number about has = λ sends. absurd cc
each-stop-is-first known (Unframed till) number about has = λ sends. absurd cc
each-stop-is-first known (Gone till) number about has = λ sends. absurd cc
each-stop-is-first known (Greet at apdu) number about has = none-first known number _ (greet-no-stop known at (decode_pt_message apdu))
each-stop-is-first known (Handle at apdu) number about has =
    subst (λ (n : ℕ). StopsFirst known number (handle_row known n apdu)) (sym (same-number at number about))
    (each-handled (StopsFirst known number) known number apdu (λ sends. absurd cc)
    (λ terminal message found linked is taken. consequence-first known number terminal message terminal.standing found refl (has terminal found))
    (λ terminal message found linked is taken at stays sends. absurd cc))
each-stop-is-first known (Serve at till header request) number about has =
    subst (λ (n : ℕ). StopsFirst known number (terminal_row known (Serve n till header request))) (sym (same-number at number about)) (serve-first known number till header request)
each-stop-is-first known (Queue at till header request) number about has = λ sends. absurd cc
each-stop-is-first known (NextWaiting at) number about has = none-first known number _ (next-no-stop known at)
each-stop-is-first known (Oversized at) number about has = none-first known number _ (each-linked NoStop known at (λ terminal. cutting known at) refl (λ terminal found linked. refl))
each-stop-is-first known (LinkLost at) number about has = none-first known number _ (lost-no-stop known at)
each-stop-is-first known (Late at) number about has = none-first known number _ (late-no-stop known at)
each-stop-is-first known (Overdue key) number about has = λ sends. absurd cc
each-stop-is-first known (Due at) number about has = none-first known number _ (due-no-stop known at)

-- ---- the row of an Abort

stop-row-is : (known : Known) (number : ℕ) (header : Header) (reference : Reference) (terminal : Terminal) (talk : TalkFacts) → ServesAborted known number header reference terminal talk
    → stop_row known number header reference ≡ wishes_stop known number terminal (Some talk)
stop-row-is known number header reference terminal talk serves =
    ap (of_terminal known (stops_key known number (key_of header reference))) serves.found
    ∙ ap (λ (b : Bool). owing_where b known (wishes_stop known number terminal terminal.talk)) serves.serves
    ∙ ap (wishes_stop known number terminal) serves.talk_is

-- where the stop was sent, none is
pub stopped-is-not-stopped-again : StoppedIsNotStoppedAgain
stopped-is-not-stopped-again known number till header reference terminal talk statuses serves begun =
    subst (GoesOnIn number terminal talk (Begun true statuses) terminal.awaited [])
    (sym (stop-row-is known number header reference terminal talk serves
    ∙ ap (λ (phase : Phase). if may_send_stop phase then stops known number (wishing terminal talk) else staying known number (wishing terminal talk)) begun))
    (record {
      terminal_is =
          new-is-there known.core.terminals number terminal (wishing terminal talk) serves.found
          ∙ ap (λ (phase : Phase). Some (record terminal { talk = Some (record talk { phase = phase_after_stop_wished phase }) })) begun;
      calls_are = refl;
    })

-- ---- a stop ends nothing

-- what is the same of the new one and the old stays everywhere
get-same : {A B : Type 0} → (f : A → B) (all : List A) (at other : ℕ) (old new : A) → slice_get all at ≡ Some old → f new ≡ f old → option_map f (slice_get (set all at new) other) ≡ option_map f (slice_get all other)
get-same f [] at other old new found same = refl
get-same f (first ∷ rest) zero zero old new found same = ap (λ b. Some b) (same ∙ sym (ap f (same-some first old found)))
get-same f (first ∷ rest) zero (suc other) old new found same = refl
get-same f (first ∷ rest) (suc at) zero old new found same = refl
get-same f (first ∷ rest) (suc at) (suc other) old new found same = get-same f rest at other old new found same

nothing-served : (known : Known) → KeepsServing known (owing_nothing known)
nothing-served known = record { standings = λ number. refl; askers = λ number. refl; kept_none = refl; no_reply = refl; none_more = refl }

pub stop-ends-nothing : StopEndsNothing
stop-ends-nothing known number till header reference =
    each-stopped (KeepsServing known) known number header reference (nothing-served known)
    (λ terminal talk at may. record {
      standings = λ other. get-same (λ (t : Terminal). t.standing) known.core.terminals number other terminal _ at.found refl;
      askers = λ other. get-same (λ (t : Terminal). t.asker) known.core.terminals number other terminal _ at.found refl;
      kept_none = refl;
      no_reply = refl;
      none_more = refl;
    })
    (λ terminal talk at may. record {
      standings = λ other. get-same (λ (t : Terminal). t.standing) known.core.terminals number other terminal _ at.found refl;
      askers = λ other. get-same (λ (t : Terminal). t.asker) known.core.terminals number other terminal _ at.found refl;
      kept_none = refl;
      no_reply = refl;
      none_more = refl;
    })

-- ---- an end of day that is declined

-- nothing of it is kept, and its till gets the condition of the code
pub day-declines : (known : Known) (number : ℕ) (apdu : ApduValue) (terminal : Terminal) (header : Header) (period : Period) (last result_code : ℕ) (reported : Option ℕ)
    → MeansServed known number apdu terminal (EndOfDay header period) last (heard.Declined result_code reported)
    → GoesOnTo number (Ready last) (reply_calls_to terminal.asker (Some (failure_reply header (condition_of_code result_code (was_stopped terminal.talk))))) (handle_row known number apdu)
day-declines known number apdu terminal header period last result_code reported at =
    served-leads known number apdu terminal (EndOfDay header period) last (heard.Declined result_code reported) _ _ at (λ e. cc) (λ is_shown. is_shown)
    (record {
      terminal = _;
      found = new-is-there known.core.terminals number terminal _ at.found;
      standing_is = refl;
      calls_are =
          ap (λ (stopped : Bool). reply_calls_to terminal.asker (Some (failure_reply header (condition_of_code result_code stopped))))
          (stopped-same terminal.talk (taken_as terminal.awaited at.message) known.moment result_code reported at.means);
    })

pub abort-code-of-day-is-replied : AbortCodeOfDayIsReplied
abort-code-of-day-is-replied known number apdu terminal header period last reported at = day-declines known number apdu terminal header period last 0x6C reported at
