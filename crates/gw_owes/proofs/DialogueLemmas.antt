-- Each terminal has the dialogue of its standing.
use Rattle.std.proofs.Common.{◌≡◌, ◌≢◌, ℕ, zero, suc, List, [], ◌∷◌, refl, sym, ◌∙◌, ap, subst, arith, Bool, true, false, cond, eqb}
use Rattle.std.specs.Prelude.{length, map, set, nat_lt, slice_get, pos, ◌+ℤ◌, nat_le, Option, Some, None, if◌then◌else◌}
use Rattle.std.specs.Option.{option_map}
use Rattle.gw_base.specs.declared.condition.Condition.TheVariants.{UnavailableDevice}
use Rattle.gw_base.specs.declared.figures.Figures.{Figures}
use Rattle.gw_base.specs.declared.setup.Pt.{Pt}
use Rattle.sale_values.specs.declared.header.Header.{Header}
use Rattle.sale_values.specs.declared.request.Output.{Output}
use Rattle.sale_values.specs.declared.request.SaleRequest.{SaleRequest}
use Rattle.sale_reply.specs.declared.reply.Shown.{Shown}
use Rattle.zvt_bmp.specs.declared.fields.Fields.{Fields}
use Rattle.zvt_msg.specs.declared.command.Command.{Command}
use Rattle.zvt_msg.specs.Message.{MessageValue, Ack, Nack, Intermediate, Line, Block, Status, Completion, Abort, Other}
use Rattle.zvt_talk.specs.declared.dialogue_kind.DialogueKind.{DialogueKind}
use Rattle.zvt_talk.specs.declared.dialogue_kind.DialogueKind.TheVariants.{Registration, Enquiry, Payment, Reversal, EndOfDay as EndOfDayDialogue, Display as DisplayDialogue}
use Rattle.zvt_talk.specs.declared.meaning.Heard.{Heard}
use Rattle.zvt_talk.specs.declared.meaning.Heard.TheVariants as heard
use Rattle.zvt_talk.specs.declared.phase.Phase.{Phase}
use Rattle.zvt_talk.specs.declared.phase.Phase.TheVariants.{Asked, Begun, Ended}
use Rattle.zvt_talk.specs.declared.statuses.Statuses.{Statuses}
use Rattle.zvt_talk.specs.Came.{is_taken}
use Rattle.zvt_talk.specs.Table.{full_figures, declined, declined_unless, approved_with, transaction_result, transaction_completed, enquiry_aborted, enquiry_approved, enquiry_completed, enquiry_result, service_completed, service_result}
use Rattle.zvt_talk.specs.Talk.{TalkFacts}
use Rattle.zvt_talk.specs.TalkSteps.{meaning_in_phase, next_phase, next_talk, phase_after_stop_wished, talk_after_stop_wished}
use Rattle.jrn_record.specs.declared.records.Deal.{Deal}
use Rattle.jrn_record.specs.declared.records.Deal.TheVariants as deals
use Rattle.jrn_record.specs.declared.records.Intent.{Intent as TheIntent}
use Rattle.gw_ledger.specs.declared.entry.Entry.{Entry as TheEntry}
use Rattle.xlate.specs.Ask.{ask_for}
use Rattle.xlate.specs.Display.{customer_output, display_lines, show_lines, show}
use Rattle.gw_owes.specs.Awaited.{one_more_awaited, one_less_awaited}
use Rattle.gw_owes.specs.declared.terminal.Service.{Service}
use Rattle.gw_owes.specs.declared.terminal.Service.TheVariants.{Transaction, EndOfDay, Display}
use Rattle.gw_owes.specs.declared.terminal.Standing.{Standing}
use Rattle.gw_owes.specs.declared.terminal.Standing.TheVariants.{Unlinked, Registering, Enquiring, Ready, Serving, Aside}
use Rattle.gw_owes.specs.declared.terminal.Terminal.{Terminal}
use Rattle.gw_owes.specs.AbortLaws.{IsStoppable}
use Rattle.gw_owes.specs.Core.{Core, new_terminal}
use Rattle.gw_owes.specs.Items.{Crowded, Message, Asked as AskedItem, Unframed, Gone, Greet, Handle, Serve, Queue, NextWaiting, Oversized, LinkLost, Late, Overdue, Due}
use Rattle.gw_owes.specs.Row.{Known, Row}
use Rattle.gw_owes.specs.Terminals.{terminal_at, of_terminal, with_terminal, terminal_becomes, talk_of_command, link_made, link_lost, registers, unlinks, unlinked_terminal}
use Rattle.gw_owes.specs.Links.{LinkIsMade, LinkHasFailed, LinkIsLost}
use Rattle.gw_owes.specs.Reports.{Report, on_record, standing_reported, outcome_reported, report_of_open, report_against}
use Rattle.gw_owes.specs.Serving.{at_rest, approved_outcome, resolves, approved_row, serving_transaction}
use Rattle.gw_owes.specs.Handling.{awaited_after, taken_as, meaning_for, meaning_at, taking, registering, enquiring, serving, consequence}
use Rattle.gw_owes.specs.Greeting.{greet_row, oversized_row}
use Rattle.gw_owes.specs.Stops.{wishing}
use Rattle.gw_owes.specs.Deadlines.{late_row, due_row}
use Rattle.gw_owes.specs.TerminalLaws.{owes_cut}
use Rattle.gw_owes.specs.Displays.{serving_display}
use Rattle.gw_owes.specs.Reconciliations.{serving_day}
use Rattle.gw_owes.specs.Replies.{refused_results}
use Rattle.gw_owes.specs.Dialogues.{AwaitedIn, RunsDialogue, runs_transaction, AwaitedServing, AwaitedShowing, IsKindOfService, AwaitedOfService, RunsService, IsDialogueOf, HasItsDialogue, AllHaveDialogues, OthersHaveDialogues, NewCoreHasDialogues, EachRowKeepsDialogues, EachLinkGivesDialogues}
use Rattle.gw_owes.proofs.HandlingLemmas.{each-handled}
use Rattle.gw_owes.proofs.CountLemmas.{more-some}
use Rattle.gw_owes.proofs.NextLemmas.{each-next, known_without}
use Rattle.gw_owes.proofs.PaymentLemmas.{StopsAt, each-served}
use Rattle.gw_owes.proofs.TerminalLemmas.{greeting-changes-nothing, late-same, due-same, oversized-same}

-- ---- what a message means in a registration, in an enquiry, and in a payment or a reversal

either : (P : Heard → Type 0) (b : Bool) (x y : Heard) → P x → P y → P (cond b x y)
either P true x y p q = p
either P false x y p q = q

-- after what a message means in a registration: it goes on, is done, or is to be cut
abbrev RegistrationNext : Phase → ℕ → Heard → Type 0
RegistrationNext phase awaited (heard.Begun stop) = AwaitedIn phase awaited
RegistrationNext phase awaited (heard.Note intermediate_status) = AwaitedIn phase awaited
RegistrationNext phase awaited heard.Line = AwaitedIn phase awaited
RegistrationNext phase awaited heard.Block = AwaitedIn phase awaited
RegistrationNext phase awaited heard.Seen = AwaitedIn phase awaited
RegistrationNext phase awaited (heard.Approved figures) = ⊥
RegistrationNext phase awaited heard.Done = awaited ≡ 0
RegistrationNext phase awaited (heard.Told reported approved result_code) = ⊥
RegistrationNext phase awaited (heard.Declined result_code reported) = Unit {0}
RegistrationNext phase awaited heard.Unclear = Unit {0}
RegistrationNext phase awaited heard.Stray = AwaitedIn phase awaited

-- the same of an enquiry, which reports and isn't done without
abbrev EnquiryNext : Phase → ℕ → Heard → Type 0
EnquiryNext phase awaited (heard.Begun stop) = AwaitedIn phase awaited
EnquiryNext phase awaited (heard.Note intermediate_status) = AwaitedIn phase awaited
EnquiryNext phase awaited heard.Line = AwaitedIn phase awaited
EnquiryNext phase awaited heard.Block = AwaitedIn phase awaited
EnquiryNext phase awaited heard.Seen = AwaitedIn phase awaited
EnquiryNext phase awaited (heard.Approved figures) = ⊥
EnquiryNext phase awaited heard.Done = ⊥
EnquiryNext phase awaited (heard.Told reported approved result_code) = Unit {0}
EnquiryNext phase awaited (heard.Declined result_code reported) = Unit {0}
EnquiryNext phase awaited heard.Unclear = Unit {0}
EnquiryNext phase awaited heard.Stray = AwaitedIn phase awaited

service-result-next : (phase : Phase) (awaited : ℕ) (statuses : Statuses) (result : Option ℕ) → awaited ≡ 0 → RegistrationNext phase awaited (service_result statuses result)
service-result-next phase awaited statuses None e = e
service-result-next phase awaited statuses (Some result_code) e = either (RegistrationNext phase awaited) (eqb result_code 0) heard.Done (declined statuses result_code) e tt

service-next : (phase : Phase) (awaited : ℕ) (statuses : Statuses) (last : Option Fields) → awaited ≡ 0 → RegistrationNext phase awaited (service_completed statuses last)
service-next phase awaited statuses None e = e
service-next phase awaited statuses (Some status) e = service-result-next phase awaited statuses status.result e

registration-next : (none : ℕ) (phase : Phase) (message : MessageValue) (awaited : ℕ) → AwaitedIn phase awaited → is_taken message ≡ true
    → RegistrationNext (next_phase Registration phase (taken_as awaited message)) (awaited_after message awaited) (meaning_in_phase Registration none phase (taken_as awaited message))
registration-next none (Asked stop_wished) Ack awaited e taken = (e.0, ap one_less_awaited e.1)
registration-next none (Asked stop_wished) (Nack error_code) awaited e taken =
    let handed : ℕ = if nat_le 2 awaited then 0 else error_code in
    either (RegistrationNext (Ended false) (awaited_after (Nack error_code) awaited)) (eqb handed 0) heard.Unclear (heard.Declined handed None) tt tt
registration-next none (Asked stop_wished) (Intermediate intermediate_status) awaited e taken = tt
registration-next none (Asked stop_wished) (Line text) awaited e taken = tt
registration-next none (Asked stop_wished) (Block objects) awaited e taken = tt
registration-next none (Asked stop_wished) (Status fields) awaited e taken = tt
registration-next none (Asked stop_wished) Completion awaited e taken = tt
registration-next none (Asked stop_wished) (Abort result_code) awaited e taken = tt
registration-next none (Asked stop_wished) Other awaited e taken = absurd cc
registration-next none (Begun stop_sent statuses) Ack awaited e taken = (e.0, ap one_less_awaited e.1)
registration-next none (Begun stop_sent statuses) (Nack error_code) awaited e taken = (e.0, ap one_less_awaited e.1)
registration-next none (Begun stop_sent statuses) (Intermediate intermediate_status) awaited e taken = e
registration-next none (Begun stop_sent statuses) (Line text) awaited e taken = e
registration-next none (Begun stop_sent statuses) (Block objects) awaited e taken = e
registration-next none (Begun stop_sent statuses) (Status fields) awaited e taken = e
registration-next none (Begun stop_sent statuses) Completion awaited e taken = service-next (Ended stop_sent) awaited statuses statuses.last e.1
registration-next none (Begun stop_sent statuses) (Abort None) awaited e taken = tt
registration-next none (Begun stop_sent statuses) (Abort (Some result_code)) awaited e taken = either (RegistrationNext (Ended stop_sent) awaited) (eqb result_code 0) heard.Unclear (declined statuses result_code) tt tt
registration-next none (Begun stop_sent statuses) Other awaited e taken = absurd cc
registration-next none (Ended stop_sent) message awaited e taken = absurd e

approved-next : (phase : Phase) (awaited trace : ℕ) (figures : Option Figures) → EnquiryNext phase awaited (enquiry_approved trace figures)
approved-next phase awaited trace None = tt
approved-next phase awaited trace (Some figures) = tt

enquiry-result-next : (phase : Phase) (awaited : ℕ) (status : Fields) (result trace : Option ℕ) → EnquiryNext phase awaited (enquiry_result status result trace)
enquiry-result-next phase awaited status None trace = tt
enquiry-result-next phase awaited status (Some result_code) None = tt
enquiry-result-next phase awaited status (Some result_code) (Some trace) =
    either (EnquiryNext phase awaited) (eqb result_code 0) (enquiry_approved trace (full_figures status)) (heard.Told trace None result_code) (approved-next phase awaited trace (full_figures status)) tt

enquiry-completed-next : (phase : Phase) (awaited : ℕ) (last : Option Fields) → EnquiryNext phase awaited (enquiry_completed last)
enquiry-completed-next phase awaited None = tt
enquiry-completed-next phase awaited (Some status) = enquiry-result-next phase awaited status status.result status.trace

enquiry-aborted-next : (phase : Phase) (awaited none : ℕ) (last : Option Fields) (result_code : ℕ) → EnquiryNext phase awaited (enquiry_aborted none last result_code)
enquiry-aborted-next phase awaited none None result_code = either (EnquiryNext phase awaited) (eqb result_code none) (heard.Told 0 None result_code) heard.Unclear tt tt
enquiry-aborted-next phase awaited none (Some status) result_code = tt

enquiry-next : (none : ℕ) (phase : Phase) (message : MessageValue) (awaited : ℕ) → AwaitedIn phase awaited → is_taken message ≡ true
    → EnquiryNext (next_phase Enquiry phase (taken_as awaited message)) (awaited_after message awaited) (meaning_in_phase Enquiry none phase (taken_as awaited message))
enquiry-next none (Asked stop_wished) Ack awaited e taken = (e.0, ap one_less_awaited e.1)
enquiry-next none (Asked stop_wished) (Nack error_code) awaited e taken =
    let handed : ℕ = if nat_le 2 awaited then 0 else error_code in
    either (EnquiryNext (Ended false) (awaited_after (Nack error_code) awaited)) (eqb handed 0) heard.Unclear (heard.Declined handed None) tt tt
enquiry-next none (Asked stop_wished) (Intermediate intermediate_status) awaited e taken = tt
enquiry-next none (Asked stop_wished) (Line text) awaited e taken = tt
enquiry-next none (Asked stop_wished) (Block objects) awaited e taken = tt
enquiry-next none (Asked stop_wished) (Status fields) awaited e taken = tt
enquiry-next none (Asked stop_wished) Completion awaited e taken = tt
enquiry-next none (Asked stop_wished) (Abort result_code) awaited e taken = tt
enquiry-next none (Asked stop_wished) Other awaited e taken = absurd cc
enquiry-next none (Begun stop_sent statuses) Ack awaited e taken = (e.0, ap one_less_awaited e.1)
enquiry-next none (Begun stop_sent statuses) (Nack error_code) awaited e taken = (e.0, ap one_less_awaited e.1)
enquiry-next none (Begun stop_sent statuses) (Intermediate intermediate_status) awaited e taken = e
enquiry-next none (Begun stop_sent statuses) (Line text) awaited e taken = e
enquiry-next none (Begun stop_sent statuses) (Block objects) awaited e taken = e
enquiry-next none (Begun stop_sent statuses) (Status fields) awaited e taken = e
enquiry-next none (Begun stop_sent statuses) Completion awaited e taken = enquiry-completed-next (Ended stop_sent) awaited statuses.last
enquiry-next none (Begun stop_sent statuses) (Abort None) awaited e taken = tt
enquiry-next none (Begun stop_sent statuses) (Abort (Some result_code)) awaited e taken =
    either (EnquiryNext (Ended stop_sent) awaited) (eqb result_code 0) heard.Unclear (enquiry_aborted none statuses.last result_code) tt (enquiry-aborted-next (Ended stop_sent) awaited none statuses.last result_code)
enquiry-next none (Begun stop_sent statuses) Other awaited e taken = absurd cc
enquiry-next none (Ended stop_sent) message awaited e taken = absurd e

-- the same of a payment or a reversal, which is approved or declined, and in which a stop may be wished
abbrev TransactionNext : Phase → ℕ → Heard → Type 0
TransactionNext phase awaited (heard.Begun stop) = AwaitedServing phase awaited
TransactionNext phase awaited (heard.Note intermediate_status) = AwaitedServing phase awaited
TransactionNext phase awaited heard.Line = AwaitedServing phase awaited
TransactionNext phase awaited heard.Block = AwaitedServing phase awaited
TransactionNext phase awaited heard.Seen = AwaitedServing phase awaited
TransactionNext phase awaited (heard.Approved figures) = Unit {0}
TransactionNext phase awaited heard.Done = ⊥
TransactionNext phase awaited (heard.Told reported approved result_code) = ⊥
TransactionNext phase awaited (heard.Declined result_code reported) = Unit {0}
TransactionNext phase awaited heard.Unclear = Unit {0}
TransactionNext phase awaited heard.Stray = AwaitedServing phase awaited

full-next : (phase : Phase) (awaited : ℕ) (figures : Option Figures) → TransactionNext phase awaited (approved_with figures)
full-next phase awaited None = tt
full-next phase awaited (Some figures) = tt

declined-next : (phase : Phase) (awaited : ℕ) (said_approved : Bool) (statuses : Statuses) (result_code : ℕ) → TransactionNext phase awaited (declined_unless said_approved statuses result_code)
declined-next phase awaited true statuses result_code = tt
declined-next phase awaited false statuses result_code = tt

result-next : (phase : Phase) (awaited : ℕ) (statuses : Statuses) (status : Fields) (result : Option ℕ) → TransactionNext phase awaited (transaction_result statuses status result)
result-next phase awaited statuses status None = tt
result-next phase awaited statuses status (Some result_code) =
    either (TransactionNext phase awaited) (eqb result_code 0) (approved_with (full_figures status)) (declined_unless statuses.approved statuses result_code) (full-next phase awaited (full_figures status)) (declined-next phase awaited statuses.approved statuses result_code)

completed-next : (phase : Phase) (awaited : ℕ) (statuses : Statuses) (last : Option Fields) → TransactionNext phase awaited (transaction_completed statuses last)
completed-next phase awaited statuses None = tt
completed-next phase awaited statuses (Some status) = result-next phase awaited statuses status status.result

payment-next : (none : ℕ) (phase : Phase) (message : MessageValue) (awaited : ℕ) → AwaitedServing phase awaited → is_taken message ≡ true
    → TransactionNext (next_phase Payment phase (taken_as awaited message)) (awaited_after message awaited) (meaning_in_phase Payment none phase (taken_as awaited message))
payment-next none (Asked stop_wished) Ack awaited e taken = tt
payment-next none (Asked stop_wished) (Nack error_code) awaited e taken =
    let handed : ℕ = if nat_le 2 awaited then 0 else error_code in
    either (TransactionNext (Ended false) (awaited_after (Nack error_code) awaited)) (eqb handed 0) heard.Unclear (heard.Declined handed None) tt tt
payment-next none (Asked stop_wished) (Intermediate intermediate_status) awaited e taken = tt
payment-next none (Asked stop_wished) (Line text) awaited e taken = tt
payment-next none (Asked stop_wished) (Block objects) awaited e taken = tt
payment-next none (Asked stop_wished) (Status fields) awaited e taken = tt
payment-next none (Asked stop_wished) Completion awaited e taken = tt
payment-next none (Asked stop_wished) (Abort result_code) awaited e taken = tt
payment-next none (Asked stop_wished) Other awaited e taken = absurd cc
payment-next none (Begun stop_sent statuses) Ack awaited e taken = tt
payment-next none (Begun stop_sent statuses) (Nack error_code) awaited e taken = tt
payment-next none (Begun stop_sent statuses) (Intermediate intermediate_status) awaited e taken = tt
payment-next none (Begun stop_sent statuses) (Line text) awaited e taken = tt
payment-next none (Begun stop_sent statuses) (Block objects) awaited e taken = tt
payment-next none (Begun stop_sent statuses) (Status fields) awaited e taken = tt
payment-next none (Begun stop_sent statuses) Completion awaited e taken = completed-next (Ended stop_sent) awaited statuses statuses.last
payment-next none (Begun stop_sent statuses) (Abort None) awaited e taken = tt
payment-next none (Begun stop_sent statuses) (Abort (Some result_code)) awaited e taken =
    either (TransactionNext (Ended stop_sent) awaited) (eqb result_code 0) heard.Unclear (declined_unless statuses.approved statuses result_code) tt (declined-next (Ended stop_sent) awaited statuses.approved statuses result_code)
payment-next none (Begun stop_sent statuses) Other awaited e taken = absurd cc
payment-next none (Ended stop_sent) message awaited e taken = absurd e

-- a message means in a reversal what it means in a payment
pub reversal-means : (none : ℕ) (phase : Phase) (message : MessageValue) → meaning_in_phase Reversal none phase message ≡ meaning_in_phase Payment none phase message
reversal-means none (Asked stop_wished) Ack = refl
reversal-means none (Asked stop_wished) (Nack error_code) = refl
reversal-means none (Asked stop_wished) (Intermediate intermediate_status) = refl
reversal-means none (Asked stop_wished) (Line text) = refl
reversal-means none (Asked stop_wished) (Block objects) = refl
reversal-means none (Asked stop_wished) (Status fields) = refl
reversal-means none (Asked stop_wished) Completion = refl
reversal-means none (Asked stop_wished) (Abort result_code) = refl
reversal-means none (Asked stop_wished) Other = refl
reversal-means none (Begun stop_sent statuses) Ack = refl
reversal-means none (Begun stop_sent statuses) (Nack error_code) = refl
reversal-means none (Begun stop_sent statuses) (Intermediate intermediate_status) = refl
reversal-means none (Begun stop_sent statuses) (Line text) = refl
reversal-means none (Begun stop_sent statuses) (Block objects) = refl
reversal-means none (Begun stop_sent statuses) (Status fields) = refl
reversal-means none (Begun stop_sent statuses) Completion = refl
reversal-means none (Begun stop_sent statuses) (Abort None) = refl
reversal-means none (Begun stop_sent statuses) (Abort (Some result_code)) = refl
reversal-means none (Begun stop_sent statuses) Other = refl
reversal-means none (Ended stop_sent) message = refl

-- and it makes of its phase the same
pub reversal-next : (phase : Phase) (message : MessageValue) → next_phase Reversal phase message ≡ next_phase Payment phase message
reversal-next (Asked stop_wished) message = refl
reversal-next (Begun stop_sent statuses) message = refl
reversal-next (Ended stop_sent) message = refl

transaction-next : (dialogue_kind : DialogueKind) (none : ℕ) (phase : Phase) (message : MessageValue) (awaited : ℕ) → runs_transaction dialogue_kind ≡ true → AwaitedServing phase awaited → is_taken message ≡ true
    → TransactionNext (next_phase dialogue_kind phase (taken_as awaited message)) (awaited_after message awaited) (meaning_in_phase dialogue_kind none phase (taken_as awaited message))
transaction-next Registration none phase message awaited transaction e taken = absurd cc
transaction-next Enquiry none phase message awaited transaction e taken = absurd cc
transaction-next Payment none phase message awaited transaction e taken = payment-next none phase message awaited e taken
transaction-next Reversal none phase message awaited transaction e taken =
    subst (TransactionNext (next_phase Reversal phase (taken_as awaited message)) (awaited_after message awaited)) (sym (reversal-means none phase (taken_as awaited message)))
    (subst (λ (next : Phase). TransactionNext next (awaited_after message awaited) (meaning_in_phase Payment none phase (taken_as awaited message))) (sym (reversal-next phase (taken_as awaited message)))
    (payment-next none phase message awaited e taken))
transaction-next EndOfDayDialogue none phase message awaited transaction e taken = absurd cc
transaction-next DisplayDialogue none phase message awaited transaction e taken = absurd cc

-- the same of an end of day, which is done or declined, and in which a stop may be wished
abbrev DayNext : Phase → ℕ → Heard → Type 0
DayNext phase awaited (heard.Begun stop) = AwaitedServing phase awaited
DayNext phase awaited (heard.Note intermediate_status) = AwaitedServing phase awaited
DayNext phase awaited heard.Line = AwaitedServing phase awaited
DayNext phase awaited heard.Block = AwaitedServing phase awaited
DayNext phase awaited heard.Seen = AwaitedServing phase awaited
DayNext phase awaited (heard.Approved figures) = ⊥
DayNext phase awaited heard.Done = Unit {0}
DayNext phase awaited (heard.Told reported approved result_code) = ⊥
DayNext phase awaited (heard.Declined result_code reported) = Unit {0}
DayNext phase awaited heard.Unclear = Unit {0}
DayNext phase awaited heard.Stray = AwaitedServing phase awaited

day-result-next : (phase : Phase) (awaited : ℕ) (statuses : Statuses) (result : Option ℕ) → DayNext phase awaited (service_result statuses result)
day-result-next phase awaited statuses None = tt
day-result-next phase awaited statuses (Some result_code) = either (DayNext phase awaited) (eqb result_code 0) heard.Done (declined statuses result_code) tt tt

day-completed-next : (phase : Phase) (awaited : ℕ) (statuses : Statuses) (last : Option Fields) → DayNext phase awaited (service_completed statuses last)
day-completed-next phase awaited statuses None = tt
day-completed-next phase awaited statuses (Some status) = day-result-next phase awaited statuses status.result

day-next : (none : ℕ) (phase : Phase) (message : MessageValue) (awaited : ℕ) → AwaitedServing phase awaited → is_taken message ≡ true
    → DayNext (next_phase EndOfDayDialogue phase (taken_as awaited message)) (awaited_after message awaited) (meaning_in_phase EndOfDayDialogue none phase (taken_as awaited message))
day-next none (Asked stop_wished) Ack awaited e taken = tt
day-next none (Asked stop_wished) (Nack error_code) awaited e taken =
    let handed : ℕ = if nat_le 2 awaited then 0 else error_code in
    either (DayNext (Ended false) (awaited_after (Nack error_code) awaited)) (eqb handed 0) heard.Unclear (heard.Declined handed None) tt tt
day-next none (Asked stop_wished) (Intermediate intermediate_status) awaited e taken = tt
day-next none (Asked stop_wished) (Line text) awaited e taken = tt
day-next none (Asked stop_wished) (Block objects) awaited e taken = tt
day-next none (Asked stop_wished) (Status fields) awaited e taken = tt
day-next none (Asked stop_wished) Completion awaited e taken = tt
day-next none (Asked stop_wished) (Abort result_code) awaited e taken = tt
day-next none (Asked stop_wished) Other awaited e taken = absurd cc
day-next none (Begun stop_sent statuses) Ack awaited e taken = tt
day-next none (Begun stop_sent statuses) (Nack error_code) awaited e taken = tt
day-next none (Begun stop_sent statuses) (Intermediate intermediate_status) awaited e taken = tt
day-next none (Begun stop_sent statuses) (Line text) awaited e taken = tt
day-next none (Begun stop_sent statuses) (Block objects) awaited e taken = tt
day-next none (Begun stop_sent statuses) (Status fields) awaited e taken = tt
day-next none (Begun stop_sent statuses) Completion awaited e taken = day-completed-next (Ended stop_sent) awaited statuses statuses.last
day-next none (Begun stop_sent statuses) (Abort None) awaited e taken = tt
day-next none (Begun stop_sent statuses) (Abort (Some result_code)) awaited e taken = either (DayNext (Ended stop_sent) awaited) (eqb result_code 0) heard.Unclear (declined statuses result_code) tt tt
day-next none (Begun stop_sent statuses) Other awaited e taken = absurd cc
day-next none (Ended stop_sent) message awaited e taken = absurd e

-- a message that a display takes ends it
abbrev DisplayNext : Heard → Type 0
DisplayNext (heard.Begun stop) = ⊥
DisplayNext (heard.Note intermediate_status) = ⊥
DisplayNext heard.Line = ⊥
DisplayNext heard.Block = ⊥
DisplayNext heard.Seen = ⊥
DisplayNext (heard.Approved figures) = ⊥
DisplayNext heard.Done = Unit {0}
DisplayNext (heard.Told reported approved result_code) = ⊥
DisplayNext (heard.Declined result_code reported) = Unit {0}
DisplayNext heard.Unclear = Unit {0}
DisplayNext heard.Stray = ⊥

display-next : (none : ℕ) (phase : Phase) (message : MessageValue) (awaited : ℕ) → AwaitedShowing phase awaited → is_taken message ≡ true → DisplayNext (meaning_in_phase DisplayDialogue none phase (taken_as awaited message))
display-next none (Asked stop_wished) Ack awaited e taken = tt
display-next none (Asked stop_wished) (Nack error_code) awaited e taken =
    let handed : ℕ = if nat_le 2 awaited then 0 else error_code in either DisplayNext (eqb handed 0) heard.Unclear (heard.Declined handed None) tt tt
display-next none (Asked stop_wished) (Intermediate intermediate_status) awaited e taken = tt
display-next none (Asked stop_wished) (Line text) awaited e taken = tt
display-next none (Asked stop_wished) (Block objects) awaited e taken = tt
display-next none (Asked stop_wished) (Status fields) awaited e taken = tt
display-next none (Asked stop_wished) Completion awaited e taken = tt
display-next none (Asked stop_wished) (Abort result_code) awaited e taken = tt
display-next none (Asked stop_wished) Other awaited e taken = absurd cc
display-next none (Begun stop_sent statuses) message awaited e taken = absurd e
display-next none (Ended stop_sent) message awaited e taken = absurd e

some-same : {A : Type 0} (one other : A) → Some one ≡ Some other → one ≡ other
some-same one other same = cc

-- ---- the dialogue after a message

still-taken : (awaited : ℕ) (message : MessageValue) → is_taken message ≡ true → is_taken (taken_as awaited message) ≡ true
still-taken awaited Ack taken = refl
still-taken awaited (Nack error_code) taken = refl
still-taken awaited (Intermediate intermediate_status) taken = refl
still-taken awaited (Line text) taken = refl
still-taken awaited (Block objects) taken = refl
still-taken awaited (Status fields) taken = refl
still-taken awaited Completion taken = refl
still-taken awaited (Abort result_code) taken = refl
still-taken awaited Other taken = taken

-- the talk after a message that is taken
next-is : (facts : TalkFacts) (message : MessageValue) (moment : ℕ) → is_taken message ≡ true
    → (after : TalkFacts) × (next_talk facts message (pos moment) ≡ after) × (after.dialogue_kind ≡ facts.dialogue_kind) × (after.phase ≡ next_phase facts.dialogue_kind facts.phase message)
next-is facts message moment taken =
    (record facts { phase = next_phase facts.dialogue_kind facts.phase message; deadline = pos moment +ℤ pos facts.command_time }, rw taken refl, refl, refl)

-- a dialogue that goes on is one of its kind
goes-on : (dialogue_kind : DialogueKind) (terminal : Terminal) (message : MessageValue) (moment : ℕ) (runs : RunsDialogue dialogue_kind terminal.talk terminal.awaited) → is_taken message ≡ true
    → AwaitedIn (next_phase dialogue_kind (RunsDialogue.facts runs).phase (taken_as terminal.awaited message)) (awaited_after message terminal.awaited)
    → RunsDialogue dialogue_kind (taking terminal message moment).talk (taking terminal message moment).awaited
goes-on dialogue_kind terminal message moment runs taken awaits =
    let next = next-is runs.facts (taken_as terminal.awaited message) moment (still-taken terminal.awaited message taken) in
    record {
      facts = next.0;
      talk_is = ap (λ (talk : Option TalkFacts). option_map (λ t. next_talk t (taken_as terminal.awaited message) (pos moment)) talk) runs.talk_is ∙ ap (λ (t : TalkFacts). Some t) next.1;
      kind_is = next.2 ∙ runs.kind_is;
      awaited_is = subst (λ (phase : Phase). AwaitedIn phase (awaited_after message terminal.awaited)) (ap (λ (k : DialogueKind). next_phase k runs.facts.phase (taken_as terminal.awaited message)) (sym runs.kind_is) ∙ sym next.3) awaits;
    }

means-in : (dialogue_kind : DialogueKind) (terminal : Terminal) (message : MessageValue) (runs : RunsDialogue dialogue_kind terminal.talk terminal.awaited)
    → meaning_at terminal message ≡ meaning_in_phase dialogue_kind (RunsDialogue.facts runs).none (RunsDialogue.facts runs).phase (taken_as terminal.awaited message)
means-in dialogue_kind terminal message runs =
    ap (λ (talk : Option TalkFacts). meaning_for talk (taken_as terminal.awaited message)) runs.talk_is
    ∙ ap (λ (k : DialogueKind). meaning_in_phase k runs.facts.none runs.facts.phase (taken_as terminal.awaited message)) runs.kind_is

-- ---- the dialogue of what is served

-- it goes on after a message
serves-on : (service : Service) (terminal : Terminal) (message : MessageValue) (moment : ℕ) (runs : RunsService service terminal.talk terminal.awaited) (awaited : ℕ) → is_taken message ≡ true
    → AwaitedOfService service (next_phase (RunsService.facts runs).dialogue_kind (RunsService.facts runs).phase (taken_as terminal.awaited message)) awaited
    → RunsService service (taking terminal message moment).talk awaited
serves-on service terminal message moment runs awaited taken awaits =
    let next = next-is runs.facts (taken_as terminal.awaited message) moment (still-taken terminal.awaited message taken) in
    record {
      facts = next.0;
      talk_is = ap (λ (talk : Option TalkFacts). option_map (λ t. next_talk t (taken_as terminal.awaited message) (pos moment)) talk) runs.talk_is ∙ ap (λ (t : TalkFacts). Some t) next.1;
      kind_is = subst (IsKindOfService service) (sym next.2) runs.kind_is;
      awaited_is = subst (λ (phase : Phase). AwaitedOfService service phase awaited) (sym next.3) awaits;
    }

-- one more is awaited
serves-more : (phase : Phase) (awaited : ℕ) → AwaitedServing phase awaited → AwaitedServing phase (one_more_awaited awaited)
serves-more (Asked stop_wished) awaited e = more-some awaited
serves-more (Begun stop_sent statuses) awaited e = tt
serves-more (Ended stop_sent) awaited e = absurd e

-- the same of what may be stopped
stoppable-more : (service : Service) (phase : Phase) (awaited : ℕ) → IsStoppable service → AwaitedOfService service phase awaited → AwaitedOfService service phase (one_more_awaited awaited)
stoppable-more (Transaction slot) phase awaited stoppable e = serves-more phase awaited e
stoppable-more (EndOfDay header period) phase awaited stoppable e = serves-more phase awaited e
stoppable-more (Display header results) phase awaited stoppable e = absurd stoppable

-- a stop is wished
serves-wished : (phase : Phase) (awaited : ℕ) → AwaitedServing phase awaited → AwaitedServing (phase_after_stop_wished phase) awaited
serves-wished (Asked stop_wished) awaited e = e
serves-wished (Begun stop_sent statuses) awaited e = tt
serves-wished (Ended stop_sent) awaited e = absurd e

stoppable-wished : (service : Service) (phase : Phase) (awaited : ℕ) → IsStoppable service → AwaitedOfService service phase awaited → AwaitedOfService service (phase_after_stop_wished phase) awaited
stoppable-wished (Transaction slot) phase awaited stoppable e = serves-wished phase awaited e
stoppable-wished (EndOfDay header period) phase awaited stoppable e = serves-wished phase awaited e
stoppable-wished (Display header results) phase awaited stoppable e = absurd stoppable

-- it goes on with the wish, with whatever may be awaited then
wish-runs : (service : Service) (terminal : Terminal) (talk : TalkFacts) (awaited : ℕ) → IsStoppable service → RunsService service terminal.talk terminal.awaited → terminal.talk ≡ Some talk
    → (AwaitedOfService service talk.phase terminal.awaited → AwaitedOfService service talk.phase awaited) → RunsService service (Some (talk_after_stop_wished talk)) awaited
wish-runs service terminal talk awaited stoppable runs is more =
    let same : runs.facts ≡ talk = some-same runs.facts talk (sym runs.talk_is ∙ is) in
    record {
      facts = talk_after_stop_wished talk;
      talk_is = refl;
      kind_is = subst (λ (t : TalkFacts). IsKindOfService service t.dialogue_kind) same runs.kind_is;
      awaited_is = stoppable-wished service talk.phase awaited stoppable (more (subst (λ (t : TalkFacts). AwaitedOfService service t.phase terminal.awaited) same runs.awaited_is));
    }

-- the command for an Intent begins one
asked-runs : (what : Deal) (intent : TheIntent) (original : Option TheEntry) (password : List ℕ) (pt : Pt) (moment awaited slot : ℕ)
    → RunsService (Transaction slot) (talk_of_command pt (ask_for what intent original password) moment) (one_more_awaited awaited)
asked-runs deals.Payment intent original password pt moment awaited slot = record { facts = _; talk_is = refl; kind_is = refl; awaited_is = more-some awaited }
asked-runs deals.Reversal intent original password pt moment awaited slot = record { facts = _; talk_is = refl; kind_is = refl; awaited_is = more-some awaited }

-- what is shown is lines
pub shown-lines : (outputs : List Output) (command : Command) → show outputs ≡ Some command → (lines : List (List ℕ)) × (command ≡ show_lines lines)
shown-lines outputs command is = of-output (customer_output outputs) is
  where
    of-output : (found : Option Output) → option_map (λ (output : Output). show_lines (display_lines output.texts)) found ≡ Some command → (lines : List (List ℕ)) × (command ≡ show_lines lines)
    of-output None is = absurd cc
    of-output (Some output) is = (display_lines output.texts, sym (some-same (show_lines (display_lines output.texts)) command is))

-- the command that shows outputs begins a display
shown-runs : (header : Header) (results : Option (List Shown)) (outputs : List Output) (command : Command) (pt : Pt) (moment awaited : ℕ) → show outputs ≡ Some command
    → RunsService (Display header results) (talk_of_command pt command moment) (one_more_awaited awaited)
shown-runs header results outputs command pt moment awaited is =
    let lines = shown-lines outputs command is in
    subst (λ (c : Command). RunsService (Display header results) (talk_of_command pt c moment) (one_more_awaited awaited)) (sym lines.1)
    (record { facts = _; talk_is = refl; kind_is = refl; awaited_is = (refl, more-some awaited) })

-- ---- one terminal of a list

-- what holds of every other element, and of the new one, holds of all
pub with-new : {A : Type 0} (P : A → Type 0) (all : List A) (at : ℕ) (new : A) → ((number : ℕ) (one : A) → number ≢ at → slice_get all number ≡ Some one → P one) → P new
    → (number : ℕ) (one : A) → slice_get (set all at new) number ≡ Some one → P one
with-new P [] at new others holds number one found = absurd cc
with-new P (first ∷ rest) zero new others holds zero one found = subst P (some-same new one found) holds
with-new P (first ∷ rest) zero new others holds (suc number) one found = others (suc number) one (λ e. omega arith) found
with-new P (first ∷ rest) (suc at) new others holds zero one found = others zero one (λ e. omega arith) found
with-new P (first ∷ rest) (suc at) new others holds (suc number) one found = with-new P rest at new (λ n o apart f. others (suc n) o (λ e. apart (omega arith)) f) holds number one found

all-with : (core : Core) (number : ℕ) (new : Terminal) → OthersHaveDialogues number core → HasItsDialogue new → AllHaveDialogues (with_terminal core number new)
all-with core number new others has = with-new HasItsDialogue core.terminals number new others has

but-one : (core : Core) (number : ℕ) → AllHaveDialogues core → OthersHaveDialogues number core
but-one core number all other terminal apart found = all other terminal found

-- ---- the rows

-- what a row without a cut leaves
abbrev Keeps : Row → Type 0
Keeps row = owes_cut row.calls ≡ false → AllHaveDialogues row.core

registering-keeps : (known : Known) (number : ℕ) (terminal : Terminal) (phase : Phase) (meant : Heard) → AllHaveDialogues known.core → RegistrationNext phase terminal.awaited meant
    → (AwaitedIn phase terminal.awaited → HasItsDialogue terminal) → Keeps (registering known number terminal meant)
registering-keeps known number terminal phase (heard.Begun stop) all next has no_cut = all-with known.core number terminal (but-one known.core number all) (has next)
registering-keeps known number terminal phase (heard.Note intermediate_status) all next has no_cut = all-with known.core number terminal (but-one known.core number all) (has next)
registering-keeps known number terminal phase heard.Line all next has no_cut = all-with known.core number terminal (but-one known.core number all) (has next)
registering-keeps known number terminal phase heard.Block all next has no_cut = all-with known.core number terminal (but-one known.core number all) (has next)
registering-keeps known number terminal phase heard.Seen all next has no_cut = all-with known.core number terminal (but-one known.core number all) (has next)
registering-keeps known number terminal phase (heard.Approved figures) all next has no_cut = absurd next
registering-keeps known number terminal phase heard.Done all next has no_cut =
    all-with known.core number _ (but-one known.core number all) (record { facts = _; talk_is = refl; kind_is = refl; awaited_is = (refl, ap one_more_awaited next) })
registering-keeps known number terminal phase (heard.Told reported approved result_code) all next has no_cut = absurd next
registering-keeps known number terminal phase (heard.Declined result_code reported) all next has no_cut = absurd cc
registering-keeps known number terminal phase heard.Unclear all next has no_cut = absurd cc
registering-keeps known number terminal phase heard.Stray all next has no_cut = all-with known.core number terminal (but-one known.core number all) (has next)

reported-rests : (least reported : ℕ) (talk : Option TalkFacts) (awaited : ℕ) → talk ≡ None → IsDialogueOf (standing_reported least reported) talk awaited
reported-rests least reported talk awaited none = by-least (nat_le least reported)
  where
    by-least : (b : Bool) → IsDialogueOf (if b then Ready reported else Aside least reported) talk awaited
    by-least true = none
    by-least false = none

open-keeps : (known : Known) (number : ℕ) (terminal : Terminal) (report : Report) (entry : TheEntry) → AllHaveDialogues known.core → AllHaveDialogues (report_of_open known number terminal report entry).core
open-keeps known number terminal report entry all = by-number (nat_le entry.intent.before report.trace)
  where
    by-number : (least : Bool) → AllHaveDialogues (if least then resolves known number terminal (Ready report.trace) (outcome_reported entry report known.moment) else terminal_becomes known number (at_rest terminal (Aside entry.intent.before report.trace)) []).core
    by-number true = all-with known.core number _ (but-one known.core number all) refl
    by-number false = all-with known.core number _ (but-one known.core number all) refl

report-keeps : (known : Known) (number : ℕ) (terminal : Terminal) (opened : Option TheEntry) (last : ℕ) (report : Report) → AllHaveDialogues known.core → AllHaveDialogues (report_against opened last known number terminal report).core
report-keeps known number terminal None last report all = all-with known.core number _ (but-one known.core number all) (reported-rests last report.trace None terminal.awaited refl)
report-keeps known number terminal (Some entry) last report all = open-keeps known number terminal report entry all

enquiring-keeps : (known : Known) (number : ℕ) (terminal : Terminal) (phase : Phase) (meant : Heard) → AllHaveDialogues known.core → EnquiryNext phase terminal.awaited meant
    → (AwaitedIn phase terminal.awaited → HasItsDialogue terminal) → Keeps (enquiring known number terminal meant)
enquiring-keeps known number terminal phase (heard.Begun stop) all next has no_cut = all-with known.core number terminal (but-one known.core number all) (has next)
enquiring-keeps known number terminal phase (heard.Note intermediate_status) all next has no_cut = all-with known.core number terminal (but-one known.core number all) (has next)
enquiring-keeps known number terminal phase heard.Line all next has no_cut = all-with known.core number terminal (but-one known.core number all) (has next)
enquiring-keeps known number terminal phase heard.Block all next has no_cut = all-with known.core number terminal (but-one known.core number all) (has next)
enquiring-keeps known number terminal phase heard.Seen all next has no_cut = all-with known.core number terminal (but-one known.core number all) (has next)
enquiring-keeps known number terminal phase (heard.Approved figures) all next has no_cut = absurd next
enquiring-keeps known number terminal phase heard.Done all next has no_cut = absurd next
enquiring-keeps known number terminal phase (heard.Told trace approved result_code) all next has no_cut =
    report-keeps known number terminal (on_record known.kept terminal.pt.poi).opened (on_record known.kept terminal.pt.poi).last (record { trace = trace; approved = approved; result_code = result_code }) all
enquiring-keeps known number terminal phase (heard.Declined result_code reported) all next has no_cut = absurd cc
enquiring-keeps known number terminal phase heard.Unclear all next has no_cut = absurd cc
enquiring-keeps known number terminal phase heard.Stray all next has no_cut = all-with known.core number terminal (but-one known.core number all) (has next)

resolved-keeps : (known : Known) (number : ℕ) (terminal : Terminal) (slot last : ℕ) (figures : Figures) → AllHaveDialogues known.core → AllHaveDialogues (approved_row known number terminal slot last figures).core
resolved-keeps known number terminal slot last figures all = by-number (nat_lt last figures.number)
  where
    by-number : (above : Bool) → AllHaveDialogues (if above then resolves known number terminal (Ready figures.number) (approved_outcome slot figures known.moment) else terminal_becomes known number (at_rest terminal (Aside last figures.number)) []).core
    by-number true = all-with known.core number _ (but-one known.core number all) refl
    by-number false = all-with known.core number _ (but-one known.core number all) refl

transaction-keeps : (known : Known) (number : ℕ) (terminal : Terminal) (slot last : ℕ) (phase : Phase) (meant : Heard) → AllHaveDialogues known.core → TransactionNext phase terminal.awaited meant
    → ((awaited : ℕ) → AwaitedServing phase awaited → HasItsDialogue (record terminal { awaited = awaited })) → Keeps (serving_transaction known number terminal slot last meant)
transaction-keeps known number terminal slot last phase (heard.Begun true) all next has no_cut =
    all-with known.core number _ (but-one known.core number all) (has (one_more_awaited terminal.awaited) (serves-more phase terminal.awaited next))
transaction-keeps known number terminal slot last phase (heard.Begun false) all next has no_cut = all-with known.core number terminal (but-one known.core number all) (has terminal.awaited next)
transaction-keeps known number terminal slot last phase (heard.Note intermediate_status) all next has no_cut = all-with known.core number terminal (but-one known.core number all) (has terminal.awaited next)
transaction-keeps known number terminal slot last phase heard.Line all next has no_cut = all-with known.core number terminal (but-one known.core number all) (has terminal.awaited next)
transaction-keeps known number terminal slot last phase heard.Block all next has no_cut = all-with known.core number terminal (but-one known.core number all) (has terminal.awaited next)
transaction-keeps known number terminal slot last phase heard.Seen all next has no_cut = all-with known.core number terminal (but-one known.core number all) (has terminal.awaited next)
transaction-keeps known number terminal slot last phase (heard.Approved figures) all next has no_cut = resolved-keeps known number terminal slot last figures all
transaction-keeps known number terminal slot last phase heard.Done all next has no_cut = absurd next
transaction-keeps known number terminal slot last phase (heard.Told reported approved result_code) all next has no_cut = absurd next
transaction-keeps known number terminal slot last phase (heard.Declined result_code reported) all next has no_cut = all-with known.core number _ (but-one known.core number all) refl
transaction-keeps known number terminal slot last phase heard.Unclear all next has no_cut = absurd cc
transaction-keeps known number terminal slot last phase heard.Stray all next has no_cut = all-with known.core number terminal (but-one known.core number all) (has terminal.awaited next)

day-keeps : (known : Known) (number : ℕ) (terminal : Terminal) (last : ℕ) (header : Header) (phase : Phase) (meant : Heard) → AllHaveDialogues known.core → DayNext phase terminal.awaited meant
    → ((awaited : ℕ) → AwaitedServing phase awaited → HasItsDialogue (record terminal { awaited = awaited })) → Keeps (serving_day known number terminal last header meant)
day-keeps known number terminal last header phase (heard.Begun true) all next has no_cut =
    all-with known.core number _ (but-one known.core number all) (has (one_more_awaited terminal.awaited) (serves-more phase terminal.awaited next))
day-keeps known number terminal last header phase (heard.Begun false) all next has no_cut = all-with known.core number terminal (but-one known.core number all) (has terminal.awaited next)
day-keeps known number terminal last header phase (heard.Note intermediate_status) all next has no_cut = all-with known.core number terminal (but-one known.core number all) (has terminal.awaited next)
day-keeps known number terminal last header phase heard.Line all next has no_cut = all-with known.core number terminal (but-one known.core number all) (has terminal.awaited next)
day-keeps known number terminal last header phase heard.Block all next has no_cut = all-with known.core number terminal (but-one known.core number all) (has terminal.awaited next)
day-keeps known number terminal last header phase heard.Seen all next has no_cut = all-with known.core number terminal (but-one known.core number all) (has terminal.awaited next)
day-keeps known number terminal last header phase (heard.Approved figures) all next has no_cut = absurd next
day-keeps known number terminal last header phase heard.Done all next has no_cut = all-with known.core number _ (but-one known.core number all) refl
day-keeps known number terminal last header phase (heard.Told reported approved result_code) all next has no_cut = absurd next
day-keeps known number terminal last header phase (heard.Declined result_code reported) all next has no_cut = all-with known.core number _ (but-one known.core number all) refl
day-keeps known number terminal last header phase heard.Unclear all next has no_cut = absurd cc
day-keeps known number terminal last header phase heard.Stray all next has no_cut = all-with known.core number terminal (but-one known.core number all) (has terminal.awaited next)

display-keeps : (known : Known) (number : ℕ) (terminal : Terminal) (last : ℕ) (header : Header) (results : Option (List Shown)) (meant : Heard) → AllHaveDialogues known.core → DisplayNext meant
    → Keeps (serving_display known number terminal last header results meant)
display-keeps known number terminal last header results (heard.Begun stop) all next no_cut = absurd next
display-keeps known number terminal last header results (heard.Note intermediate_status) all next no_cut = absurd next
display-keeps known number terminal last header results heard.Line all next no_cut = absurd next
display-keeps known number terminal last header results heard.Block all next no_cut = absurd next
display-keeps known number terminal last header results heard.Seen all next no_cut = absurd next
display-keeps known number terminal last header results (heard.Approved figures) all next no_cut = absurd next
display-keeps known number terminal last header results heard.Done all next no_cut = all-with known.core number _ (but-one known.core number all) refl
display-keeps known number terminal last header results (heard.Told reported approved result_code) all next no_cut = absurd next
display-keeps known number terminal last header results (heard.Declined result_code reported) all next no_cut = all-with known.core number _ (but-one known.core number all) refl
display-keeps known number terminal last header results heard.Unclear all next no_cut = absurd cc
display-keeps known number terminal last header results heard.Stray all next no_cut = absurd next

-- a terminal without a dialogue takes a message
rests-on : (terminal : Terminal) (message : MessageValue) (moment : ℕ) → terminal.talk ≡ None → (taking terminal message moment).talk ≡ None
rests-on terminal message moment none = ap (λ (talk : Option TalkFacts). option_map (λ t. next_talk t (taken_as terminal.awaited message) (pos moment)) talk) none

-- what a message means in the dialogue of what is served
service-means : (service : Service) (terminal : Terminal) (message : MessageValue) (runs : RunsService service terminal.talk terminal.awaited)
    → meaning_at terminal message ≡ meaning_in_phase (RunsService.facts runs).dialogue_kind (RunsService.facts runs).none (RunsService.facts runs).phase (taken_as terminal.awaited message)
service-means service terminal message runs = ap (λ (talk : Option TalkFacts). meaning_for talk (taken_as terminal.awaited message)) runs.talk_is

-- the terminal goes on to serve it
still-serves : (terminal : Terminal) (message : MessageValue) (moment : ℕ) (service : Service) (last : ℕ) (runs : RunsService service terminal.talk terminal.awaited) → is_taken message ≡ true → terminal.standing ≡ Serving service last
    → (awaited : ℕ) → AwaitedOfService service (next_phase (RunsService.facts runs).dialogue_kind (RunsService.facts runs).phase (taken_as terminal.awaited message)) awaited
    → HasItsDialogue (record (taking terminal message moment) { awaited = awaited })
still-serves terminal message moment service last runs taken is awaited awaits =
    subst (λ (s : Standing). IsDialogueOf s (taking terminal message moment).talk awaited) (sym is) (serves-on service terminal message moment runs awaited taken awaits)

serving-keeps : (known : Known) (number : ℕ) (terminal : Terminal) (message : MessageValue) (service : Service) (last : ℕ) → AllHaveDialogues known.core → is_taken message ≡ true → terminal.standing ≡ Serving service last
    → RunsService service terminal.talk terminal.awaited → Keeps (serving known number (taking terminal message known.moment) service last (meaning_at terminal message))
serving-keeps known number terminal message (Transaction slot) last all taken is runs =
    transaction-keeps known number (taking terminal message known.moment) slot last _ (meaning_at terminal message) all
    (subst (TransactionNext (next_phase runs.facts.dialogue_kind runs.facts.phase (taken_as terminal.awaited message)) (awaited_after message terminal.awaited)) (sym (service-means (Transaction slot) terminal message runs))
    (transaction-next runs.facts.dialogue_kind runs.facts.none runs.facts.phase message terminal.awaited runs.kind_is runs.awaited_is taken))
    (still-serves terminal message known.moment (Transaction slot) last runs taken is)
serving-keeps known number terminal message (EndOfDay header period) last all taken is runs =
    day-keeps known number (taking terminal message known.moment) last header (next_phase runs.facts.dialogue_kind runs.facts.phase (taken_as terminal.awaited message)) (meaning_at terminal message) all
    (subst (DayNext (next_phase runs.facts.dialogue_kind runs.facts.phase (taken_as terminal.awaited message)) (awaited_after message terminal.awaited)) (sym (service-means (EndOfDay header period) terminal message runs))
    (subst (λ (k : DialogueKind). DayNext (next_phase k runs.facts.phase (taken_as terminal.awaited message)) (awaited_after message terminal.awaited) (meaning_in_phase k runs.facts.none runs.facts.phase (taken_as terminal.awaited message))) (sym runs.kind_is)
    (day-next runs.facts.none runs.facts.phase message terminal.awaited runs.awaited_is taken)))
    (still-serves terminal message known.moment (EndOfDay header period) last runs taken is)
serving-keeps known number terminal message (Display header results) last all taken is runs =
    display-keeps known number (taking terminal message known.moment) last header results (meaning_at terminal message) all
    (subst DisplayNext (sym (service-means (Display header results) terminal message runs))
    (subst (λ (k : DialogueKind). DisplayNext (meaning_in_phase k runs.facts.none runs.facts.phase (taken_as terminal.awaited message))) (sym runs.kind_is)
    (display-next runs.facts.none runs.facts.phase message terminal.awaited runs.awaited_is taken)))

consequence-keeps : (known : Known) (number : ℕ) (terminal : Terminal) (message : MessageValue) (standing : Standing) → AllHaveDialogues known.core → is_taken message ≡ true → terminal.standing ≡ standing
    → IsDialogueOf standing terminal.talk terminal.awaited → Keeps (consequence known number (taking terminal message known.moment) (meaning_at terminal message) standing)
consequence-keeps known number terminal message (Unlinked due) all taken is has no_cut = all
consequence-keeps known number terminal message Registering all taken is runs no_cut =
    registering-keeps known number (taking terminal message known.moment) _ (meaning_at terminal message) all
    (subst (RegistrationNext (next_phase Registration runs.facts.phase (taken_as terminal.awaited message)) (awaited_after message terminal.awaited)) (sym (means-in Registration terminal message runs))
    (registration-next runs.facts.none runs.facts.phase message terminal.awaited runs.awaited_is taken))
    (λ awaits. subst (λ (s : Standing). IsDialogueOf s (taking terminal message known.moment).talk (taking terminal message known.moment).awaited) (sym is) (goes-on Registration terminal message known.moment runs taken awaits))
    no_cut
consequence-keeps known number terminal message Enquiring all taken is runs no_cut =
    enquiring-keeps known number (taking terminal message known.moment) _ (meaning_at terminal message) all
    (subst (EnquiryNext (next_phase Enquiry runs.facts.phase (taken_as terminal.awaited message)) (awaited_after message terminal.awaited)) (sym (means-in Enquiry terminal message runs))
    (enquiry-next runs.facts.none runs.facts.phase message terminal.awaited runs.awaited_is taken))
    (λ awaits. subst (λ (s : Standing). IsDialogueOf s (taking terminal message known.moment).talk (taking terminal message known.moment).awaited) (sym is) (goes-on Enquiry terminal message known.moment runs taken awaits))
    no_cut
consequence-keeps known number terminal message (Ready last) all taken is none no_cut =
    all-with known.core number _ (but-one known.core number all)
    (subst (λ (s : Standing). IsDialogueOf s (taking terminal message known.moment).talk (taking terminal message known.moment).awaited) (sym is) (rests-on terminal message known.moment none))
consequence-keeps known number terminal message (Serving service last) all taken is runs no_cut = serving-keeps known number terminal message service last all taken is runs no_cut
consequence-keeps known number terminal message (Aside before reported) all taken is none no_cut =
    all-with known.core number _ (but-one known.core number all)
    (subst (λ (s : Standing). IsDialogueOf s (taking terminal message known.moment).talk (taking terminal message known.moment).awaited) (sym is) (rests-on terminal message known.moment none))

same-keeps : (known : Known) (row : Row) → AllHaveDialogues known.core → row.core ≡ known.core → Keeps row
same-keeps known row all same no_cut = subst AllHaveDialogues (sym same) all

lost-gives : (known : Known) (number : ℕ) → OthersHaveDialogues number known.core → AllHaveDialogues (link_lost known number).core
lost-gives known number others = by-found (terminal_at known number) refl
  where
    by-found : (found : Option Terminal) → terminal_at known number ≡ found → AllHaveDialogues (of_terminal known (unlinks known number) found).core
    by-found None is = λ other terminal f. others other terminal (λ e. absurd (missing other terminal e f)) f
      where
        missing : (other : ℕ) (terminal : Terminal) → other ≡ number → slice_get known.core.terminals other ≡ Some terminal → ⊥
        missing other terminal e f = let k : Some terminal ≡ None = sym f ∙ ap (slice_get known.core.terminals) e ∙ is in cc
    by-found (Some terminal) is = all-with known.core number (unlinked_terminal terminal known.moment) others (record { none = refl; awaited_is = refl })

made-gives : (known : Known) (number : ℕ) → OthersHaveDialogues number known.core → AllHaveDialogues (link_made known number).core
made-gives known number others = by-found (terminal_at known number) refl
  where
    by-found : (found : Option Terminal) → terminal_at known number ≡ found → AllHaveDialogues (of_terminal known (registers known number) found).core
    by-found None is = λ other terminal f. others other terminal (λ e. absurd (missing other terminal e f)) f
      where
        missing : (other : ℕ) (terminal : Terminal) → other ≡ number → slice_get known.core.terminals other ≡ Some terminal → ⊥
        missing other terminal e f = let k : Some terminal ≡ None = sym f ∙ ap (slice_get known.core.terminals) e ∙ is in cc
    by-found (Some terminal) is = all-with known.core number _ others (record { facts = _; talk_is = refl; kind_is = refl; awaited_is = (refl, refl) })

pub links-give : EachLinkGivesDialogues
links-give known number LinkIsMade others = made-gives known number others
links-give known number LinkHasFailed others = lost-gives known number others
links-give known number LinkIsLost others = lost-gives known number others

-- what a terminal that serves runs
served-runs : (terminal : Terminal) (service : Service) (last : ℕ) → terminal.standing ≡ Serving service last → HasItsDialogue terminal → RunsService service terminal.talk terminal.awaited
served-runs terminal service last is has = subst (λ (s : Standing). IsDialogueOf s terminal.talk terminal.awaited) is has

-- each has its dialogue once a stop is wished, with whatever may be awaited then
wish-keeps : (known : Known) (number : ℕ) (header : Header) (request : SaleRequest) (terminal : Terminal) (talk : TalkFacts) (awaited : ℕ) (at : StopsAt known number header request terminal talk) → AllHaveDialogues known.core
    → (AwaitedOfService (StopsAt.service at) talk.phase terminal.awaited → AwaitedOfService (StopsAt.service at) talk.phase awaited)
    → AllHaveDialogues (with_terminal known.core number (record (wishing terminal talk) { awaited = awaited }))
wish-keeps known number header request terminal talk awaited at all more =
    all-with known.core number _ (but-one known.core number all)
    (subst (λ (s : Standing). IsDialogueOf s (Some (talk_after_stop_wished talk)) awaited) (sym at.standing_is)
    (wish-runs at.service terminal talk awaited at.stoppable (served-runs terminal at.service at.last at.standing_is (all number terminal at.found)) at.talk_is more))

pub rows-keep : EachRowKeepsDialogues
rows-keep known (Crowded till) all = λ no_cut. all
rows-keep known (Message till bytes) all = λ no_cut. all
rows-keep known (AskedItem till as_read) all = λ no_cut. all
rows-keep known (Unframed till) all = λ no_cut. all
rows-keep known (Gone till) all = λ no_cut. all
rows-keep known (Greet number apdu) all = same-keeps known (greet_row known number apdu) all (greeting-changes-nothing known number apdu)
rows-keep known (Handle number apdu) all =
    each-handled Keeps known number apdu (λ no_cut. all)
    (λ terminal message found linked is taken. consequence-keeps known number terminal message terminal.standing all taken refl (all number terminal found))
    (λ terminal message found linked is taken at stays no_cut. stays refl)
rows-keep known (Serve number till header request) all =
    each-served Keeps known number till header request
    (record {
      none = λ no_cut. all;
      begins = λ terminal last asking at no_cut.
          all-with known.core number _ (but-one known.core number all) (asked-runs asking.intent.what asking.intent asking.original terminal.pt.password terminal.pt known.moment terminal.awaited (length known.kept));
      sent = λ terminal talk at may no_cut. wish-keeps known number header request terminal talk (one_more_awaited terminal.awaited) at all (stoppable-more at.service talk.phase terminal.awaited at.stoppable);
      wished = λ terminal talk at may no_cut. wish-keeps known number header request terminal talk terminal.awaited at all (λ awaits. awaits);
      session = λ success no_cut. all;
      settles = λ terminal at no_cut. all;
      day = λ terminal last at no_cut. all-with known.core number _ (but-one known.core number all) (record { facts = _; talk_is = refl; kind_is = refl; awaited_is = more-some terminal.awaited });
      displays = λ terminal last outputs command at no_cut.
          all-with known.core number _ (but-one known.core number all)
          (shown-runs header (refused_results UnavailableDevice outputs) outputs command terminal.pt known.moment terminal.awaited at.shown_is);
    })
rows-keep known (Queue number till header request) all = λ no_cut. all
rows-keep known (NextWaiting number) all =
    each-next Keeps known number
    (record {
      none = λ no_cut. all;
      refused = λ terminal last wait condition first is no_cut. all;
      begins = λ terminal last wait asking at no_cut.
          all-with (known_without known wait).core number _ (but-one known.core number all) (asked-runs asking.intent.what asking.intent asking.original terminal.pt.password terminal.pt known.moment terminal.awaited (length known.kept));
      day = λ terminal last wait at no_cut. all-with (known_without known wait).core number _ (but-one known.core number all) (record { facts = _; talk_is = refl; kind_is = refl; awaited_is = more-some terminal.awaited });
      left = λ terminal last wait first no_cut. all;
    })
rows-keep known (Oversized number) all = same-keeps known (oversized_row known number) all (oversized-same known number)
rows-keep known (LinkLost number) all = λ no_cut. lost-gives known number (but-one known.core number all)
rows-keep known (Late number) all = same-keeps known (late_row known number) all (late-same known number)
rows-keep known (Overdue key) all = λ no_cut. all
rows-keep known (Due number) all = same-keeps known (due_row known number) all (due-same known number)

-- ---- as a run begins

pub new-has : NewCoreHasDialogues
new-has setup number terminal found = in-list setup.terminals number found
  where
    in-list : (pts : List Pt) (number : ℕ) → slice_get (map new_terminal pts) number ≡ Some terminal → HasItsDialogue terminal
    in-list [] number f = absurd cc
    in-list (pt ∷ pts) zero f = subst HasItsDialogue (some-same (new_terminal pt) terminal f) (record { none = refl; awaited_is = refl })
    in-list (pt ∷ pts) (suc number) f = in-list pts number f
