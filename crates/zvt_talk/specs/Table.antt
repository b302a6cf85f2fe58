-- The table of the dialogue: what a message means, by the phase, by the command, and by the statuses heard before it.
use Rattle.std.specs.Prelude.{ℕ, Bool, true, false, ◌&&◌, ◌==◌, nat_le, Option, None, Some, if◌then◌else◌}
use Rattle.gw_base.specs.declared.figures.Figures.{Figures}
use Rattle.zvt_bmp.specs.declared.fields.Fields.{Fields}
use Rattle.zvt_msg.specs.Message.{MessageValue, Ack, Nack, Intermediate, Line, Block, Status, Completion, Abort, Other}
use Rattle.zvt_talk.specs.declared.dialogue_kind.DialogueKind.{DialogueKind}
use Rattle.zvt_talk.specs.declared.dialogue_kind.DialogueKind.TheVariants.{Registration, Enquiry, Payment, Reversal, EndOfDay, Display}
use Rattle.zvt_talk.specs.declared.meaning.Heard.{Heard}
use Rattle.zvt_talk.specs.declared.meaning.Heard.TheVariants as heard
use Rattle.zvt_talk.specs.declared.statuses.Statuses.{Statuses}
use Rattle.zvt_talk.specs.Dialogue.{is_display}

-- ---- what follows from the last status

-- no figures where the trace number or the amount is 0
abbrev pub positive_figures : ℕ → ℕ → ℕ → Option Figures
positive_figures trace receipt amount =
    if nat_le 1 trace && nat_le 1 amount then Some (record { number = trace; receipt = receipt; amount = amount }) else None

-- no figures where one of the three is absent
abbrev pub figures_of : Option ℕ → Option ℕ → Option ℕ → Option Figures
figures_of None receipt amount = None
figures_of (Some trace) None amount = None
figures_of (Some trace) (Some receipt) None = None
figures_of (Some trace) (Some receipt) (Some amount) = positive_figures trace receipt amount

-- full figures: a trace number of at least 1, a receipt number in digits and an amount of at least 1
abbrev pub full_figures : Fields → Option Figures
full_figures status = figures_of status.trace status.receipt status.amount

-- the trace number of a status
abbrev pub trace_of : Option Fields → Option ℕ
trace_of None = None
trace_of (Some status) = status.trace

-- declined with this result code, and with the trace number of the last status
abbrev pub declined : Statuses → ℕ → Heard
declined statuses result_code = heard.Declined result_code (trace_of statuses.last)

-- a payment or a reversal is declined only where no status has said that it is approved
abbrev pub declined_unless : Bool → Statuses → ℕ → Heard
declined_unless true statuses result_code = heard.Unclear
declined_unless false statuses result_code = declined statuses result_code

-- ---- asked: the first message after the command

-- a display is done; else the dialogue is begun, and `06 B0` is sent where a stop was wished
abbrev pub acknowledged : Bool → Bool → Heard
acknowledged true stop_wished = heard.Done
acknowledged false stop_wished = heard.Begun stop_wished

-- by whether a stop was wished
abbrev pub meaning_when_asked : DialogueKind → Bool → MessageValue → Heard
meaning_when_asked dialogue_kind stop_wished Ack = acknowledged (is_display dialogue_kind) stop_wished
meaning_when_asked dialogue_kind stop_wished (Nack error_code) = if error_code == 0 then heard.Unclear else heard.Declined error_code None
meaning_when_asked dialogue_kind stop_wished (Intermediate intermediate_status) = heard.Unclear
meaning_when_asked dialogue_kind stop_wished (Line text) = heard.Unclear
meaning_when_asked dialogue_kind stop_wished (Block objects) = heard.Unclear
meaning_when_asked dialogue_kind stop_wished (Status fields) = heard.Unclear
meaning_when_asked dialogue_kind stop_wished Completion = heard.Unclear
meaning_when_asked dialogue_kind stop_wished (Abort result_code) = heard.Unclear
meaning_when_asked dialogue_kind stop_wished Other = heard.Stray

-- ---- begun: an abort by the terminal

-- there is no transaction where the result code is the configured one and no status was heard
abbrev pub enquiry_aborted : ℕ → Option Fields → ℕ → Heard
enquiry_aborted none None result_code = if result_code == none then heard.Told 0 None result_code else heard.Unclear
enquiry_aborted none (Some status) result_code = heard.Unclear

-- by the dialogue; a display is never begun
abbrev pub meaning_of_abort_with : DialogueKind → ℕ → Statuses → ℕ → Heard
meaning_of_abort_with Registration none statuses result_code = declined statuses result_code
meaning_of_abort_with Enquiry none statuses result_code = enquiry_aborted none statuses.last result_code
meaning_of_abort_with Payment none statuses result_code = declined_unless statuses.approved statuses result_code
meaning_of_abort_with Reversal none statuses result_code = declined_unless statuses.approved statuses result_code
meaning_of_abort_with EndOfDay none statuses result_code = declined statuses result_code
meaning_of_abort_with Display none statuses result_code = heard.Unclear

-- without a result code, and with 00, nothing is known
abbrev pub meaning_of_abort : DialogueKind → ℕ → Statuses → Option ℕ → Heard
meaning_of_abort dialogue_kind none statuses None = heard.Unclear
meaning_of_abort dialogue_kind none statuses (Some result_code) = if result_code == 0 then heard.Unclear else meaning_of_abort_with dialogue_kind none statuses result_code

-- ---- begun: a completion

-- approved where the figures are full
abbrev pub approved_with : Option Figures → Heard
approved_with None = heard.Unclear
approved_with (Some figures) = heard.Approved figures

-- by the result of the last status
abbrev pub transaction_result : Statuses → Fields → Option ℕ → Heard
transaction_result statuses status None = heard.Unclear
transaction_result statuses status (Some result_code) =
    if result_code == 0 then approved_with (full_figures status) else declined_unless statuses.approved statuses result_code

-- without a status nothing is known of a payment or a reversal
abbrev pub transaction_completed : Statuses → Option Fields → Heard
transaction_completed statuses None = heard.Unclear
transaction_completed statuses (Some status) = transaction_result statuses status status.result

-- an approved transaction is reported with full figures
abbrev pub enquiry_approved : ℕ → Option Figures → Heard
enquiry_approved trace None = heard.Unclear
enquiry_approved trace (Some figures) = heard.Told trace (Some figures) 0

-- by the result and the trace number of the last status; another transaction is reported by its trace number and result code alone
abbrev pub enquiry_result : Fields → Option ℕ → Option ℕ → Heard
enquiry_result status None trace = heard.Unclear
enquiry_result status (Some result_code) None = heard.Unclear
enquiry_result status (Some result_code) (Some trace) =
    if result_code == 0 then enquiry_approved trace (full_figures status) else heard.Told trace None result_code

-- without a status nothing is known
abbrev pub enquiry_completed : Option Fields → Heard
enquiry_completed None = heard.Unclear
enquiry_completed (Some status) = enquiry_result status status.result status.trace

-- a registration or an end of day is done unless the last status has another result code
abbrev pub service_result : Statuses → Option ℕ → Heard
service_result statuses None = heard.Done
service_result statuses (Some result_code) = if result_code == 0 then heard.Done else declined statuses result_code

-- without a status it is done
abbrev pub service_completed : Statuses → Option Fields → Heard
service_completed statuses None = heard.Done
service_completed statuses (Some status) = service_result statuses status.result

-- by the dialogue; a display is never begun
abbrev pub meaning_of_completion : DialogueKind → Statuses → Heard
meaning_of_completion Registration statuses = service_completed statuses statuses.last
meaning_of_completion Enquiry statuses = enquiry_completed statuses.last
meaning_of_completion Payment statuses = transaction_completed statuses statuses.last
meaning_of_completion Reversal statuses = transaction_completed statuses statuses.last
meaning_of_completion EndOfDay statuses = service_completed statuses statuses.last
meaning_of_completion Display statuses = heard.Unclear

-- ---- begun

-- an acknowledgement or a refusal is meant for `06 B0`, or for nothing
abbrev pub meaning_when_begun : DialogueKind → ℕ → Statuses → MessageValue → Heard
meaning_when_begun dialogue_kind none statuses Ack = heard.Stray
meaning_when_begun dialogue_kind none statuses (Nack error_code) = heard.Stray
meaning_when_begun dialogue_kind none statuses (Intermediate intermediate_status) = heard.Note intermediate_status
meaning_when_begun dialogue_kind none statuses (Line text) = heard.Line
meaning_when_begun dialogue_kind none statuses (Block objects) = heard.Block
meaning_when_begun dialogue_kind none statuses (Status fields) = heard.Seen
meaning_when_begun dialogue_kind none statuses Completion = meaning_of_completion dialogue_kind statuses
meaning_when_begun dialogue_kind none statuses (Abort result_code) = meaning_of_abort dialogue_kind none statuses result_code
meaning_when_begun dialogue_kind none statuses Other = heard.Stray
