-- What the table says, in words of its own.
use Rattle.std.specs.Prelude.{◌≡◌, ◌≢◌, ℕ, ℤ, ◌≤◌, ◌⊎◌, Bool, false, List, [], ◌∷◌, ◌++◌, Option, None, Some, IsTrue}
use Rattle.gw_base.specs.declared.figures.Figures.{Figures}
use Rattle.zvt_bmp.specs.declared.fields.Fields.{Fields}
use Rattle.zvt_msg.specs.Message.{MessageValue, Ack, Nack, Intermediate, Line, Block, Status, Completion, Abort, Other}
use Rattle.zvt_talk.specs.declared.dialogue_kind.DialogueKind.{DialogueKind}
use Rattle.zvt_talk.specs.declared.dialogue_kind.DialogueKind.TheVariants.{Registration, Enquiry, Payment, Reversal, EndOfDay, Display}
use Rattle.zvt_talk.specs.declared.meaning.Heard.{Heard}
use Rattle.zvt_talk.specs.declared.meaning.Heard.TheVariants as heard
use Rattle.zvt_talk.specs.Dialogue.{Dialogue}
use Rattle.zvt_talk.specs.Came.{Came, Message, StopWished, messages, statuses, last_status, said_approved}
use Rattle.zvt_talk.specs.Table.{trace_of}
use Rattle.zvt_talk.specs.Talk.{meaning, end_of, talk_after, talk_goes_on}
use Rattle.zvt_talk.specs.TalkSteps.{meaning_for_talk, next_talk, talk_after_stop_wished}

-- a payment or a reversal
abbrev pub IsTransaction : DialogueKind → Type 0
IsTransaction Registration = ⊥
IsTransaction Enquiry = ⊥
IsTransaction Payment = Unit {0}
IsTransaction Reversal = Unit {0}
IsTransaction EndOfDay = ⊥
IsTransaction Display = ⊥

-- an enquiry
abbrev pub IsEnquiry : DialogueKind → Type 0
IsEnquiry Registration = ⊥
IsEnquiry Enquiry = Unit {0}
IsEnquiry Payment = ⊥
IsEnquiry Reversal = ⊥
IsEnquiry EndOfDay = ⊥
IsEnquiry Display = ⊥

-- a registration or an end of day
abbrev pub IsService : DialogueKind → Type 0
IsService Registration = Unit {0}
IsService Enquiry = ⊥
IsService Payment = ⊥
IsService Reversal = ⊥
IsService EndOfDay = Unit {0}
IsService Display = ⊥

-- an enquiry or a display
abbrev pub IsEnquiryOrDisplay : DialogueKind → Type 0
IsEnquiryOrDisplay Registration = ⊥
IsEnquiryOrDisplay Enquiry = Unit {0}
IsEnquiryOrDisplay Payment = ⊥
IsEnquiryOrDisplay Reversal = ⊥
IsEnquiryOrDisplay EndOfDay = ⊥
IsEnquiryOrDisplay Display = Unit {0}

-- any other dialogue than a display
abbrev pub IsNoDisplay : DialogueKind → Type 0
IsNoDisplay Registration = Unit {0}
IsNoDisplay Enquiry = Unit {0}
IsNoDisplay Payment = Unit {0}
IsNoDisplay Reversal = Unit {0}
IsNoDisplay EndOfDay = Unit {0}
IsNoDisplay Display = ⊥

-- the status has full figures, and they are these
pub record HasFigures (status : Fields) (figures : Figures) : Type 0 where
  pub trace : status.trace ≡ Some figures.number
  pub receipt : status.receipt ≡ Some figures.receipt
  pub amount : status.amount ≡ Some figures.amount
  pub first_trace : 1 ≤ figures.number
  pub some_amount : 1 ≤ figures.amount

-- a payment or a reversal is completed, and the last status said that it is approved, with these figures
pub record Approves (dialogue : Dialogue) (came : List Came) (message : MessageValue) (figures : Figures) : Type 0 where
  pub transaction : IsTransaction dialogue.dialogue_kind
  pub completion : message ≡ Completion
  pub status : Fields
  pub last : last_status came ≡ Some status
  pub approved : status.result ≡ Some 0
  pub full : HasFigures status figures

-- the command is refused at once
pub record RefusedAtOnce (came : List Came) (message : MessageValue) (error_code : ℕ) (trace : Option ℕ) : Type 0 where
  pub asked : messages came ≡ []
  pub refusal : message ≡ Nack error_code
  pub no_trace : trace ≡ None

-- the terminal aborts with this result code, or completes and the last status has it
abbrev pub EndsWithCode : List Came → MessageValue → ℕ → Type 0
EndsWithCode came message result_code = (message ≡ Abort (Some result_code))
    ⊎ ((message ≡ Completion) × (status : Fields) × (last_status came ≡ Some status) × (status.result ≡ Some result_code))

-- the command was acknowledged, and the dialogue ends with a result code; the trace number is that of the last status
pub record RefusedLater (came : List Came) (message : MessageValue) (result_code : ℕ) (trace : Option ℕ) : Type 0 where
  pub after_messages : messages came ≢ []
  pub ends : EndsWithCode came message result_code
  pub its_trace : trace ≡ trace_of (last_status came)

-- the terminal refuses with this code, which isn't 00
abbrev pub RefusesCommand : List Came → MessageValue → ℕ → Option ℕ → Type 0
RefusesCommand came message result_code trace = (result_code ≢ 0) × (RefusedAtOnce came message result_code trace ⊎ RefusedLater came message result_code trace)

-- a result that isn't there, or 00
abbrev pub IsNoRefusal : Option ℕ → Type 0
IsNoRefusal None = Unit {0}
IsNoRefusal (Some result_code) = result_code ≡ 0

-- no status, or one that refuses nothing
abbrev pub HasNoRefusal : Option Fields → Type 0
HasNoRefusal None = Unit {0}
HasNoRefusal (Some status) = IsNoRefusal status.result

-- an acknowledgement or a refusal
abbrev pub IsAckOrNack : MessageValue → Type 0
IsAckOrNack message = (message ≡ Ack) ⊎ ((error_code : ℕ) × (message ≡ Nack error_code))

-- an approved transaction is reported with full figures, another one without
abbrev pub IsReportedWith : Fields → ℕ → Option Figures → Type 0
IsReportedWith status result_code None = result_code ≢ 0
IsReportedWith status result_code (Some figures) = (result_code ≡ 0) × HasFigures status figures

-- the last transaction is the one of the last status
pub record ReportsLastTransaction (came : List Came) (message : MessageValue) (trace : ℕ) (approved : Option Figures) (result_code : ℕ) : Type 0 where
  pub completion : message ≡ Completion
  pub status : Fields
  pub last : last_status came ≡ Some status
  pub its_code : status.result ≡ Some result_code
  pub its_trace : status.trace ≡ Some trace
  pub reported : IsReportedWith status result_code approved

-- there is no transaction: no status was heard, and the terminal aborts with the configured result code
pub record ReportsNoTransaction (dialogue : Dialogue) (came : List Came) (message : MessageValue) (trace : ℕ) (approved : Option Figures) (result_code : ℕ) : Type 0 where
  pub begun : messages came ≢ []
  pub abort : message ≡ Abort (Some result_code)
  pub configured : result_code ≡ dialogue.none
  pub no_status : statuses came ≡ []
  pub not_zero : result_code ≢ 0
  pub no_trace : trace ≡ 0
  pub no_figures : approved ≡ None

-- ---- what leaves open how a dialogue ended

-- no clear reply to a command: neither an acknowledgement nor a refusal with a code above 00, and not outside the table
abbrev pub LeavesCommandUnclear : MessageValue → Type 0
LeavesCommandUnclear Ack = ⊥
LeavesCommandUnclear (Nack error_code) = error_code ≡ 0
LeavesCommandUnclear (Intermediate intermediate_status) = Unit {0}
LeavesCommandUnclear (Line text) = Unit {0}
LeavesCommandUnclear (Block objects) = Unit {0}
LeavesCommandUnclear (Status fields) = Unit {0}
LeavesCommandUnclear Completion = Unit {0}
LeavesCommandUnclear (Abort result_code) = Unit {0}
LeavesCommandUnclear Other = ⊥

-- the terminal aborts without a result code, or with 00
abbrev pub AbortsWithoutCode : MessageValue → Type 0
AbortsWithoutCode message = (message ≡ Abort None) ⊎ (message ≡ Abort (Some 0))

-- a number that isn't there, or 0
abbrev pub IsNoNumber : Option ℕ → Type 0
IsNoNumber None = Unit {0}
IsNoNumber (Some trace) = trace ≡ 0

-- the status has no full figures: a trace number above 0, a receipt number in digits or an amount above 0 is missing
abbrev pub LacksFigures : Fields → Type 0
LacksFigures status = IsNoNumber status.trace ⊎ ((status.receipt ≡ None) ⊎ IsNoNumber status.amount)

-- the terminal aborts with a result code although a status said that it is approved
abbrev pub AbortsApproved : List Came → MessageValue → Type 0
AbortsApproved came message = (result_code : ℕ) × (message ≡ Abort (Some result_code)) × IsTrue (said_approved came)

-- The last status of a payment or a reversal that completes, if there is one: without a result, approved without full
-- figures, or with another result code although a status said that it is approved.
abbrev pub LeavesTransactionOpen : List Came → Option Fields → Type 0
LeavesTransactionOpen came None = Unit {0}
LeavesTransactionOpen came (Some status) = (status.result ≡ None)
    ⊎ (((status.result ≡ Some 0) × LacksFigures status)
    ⊎ ((result_code : ℕ) × (status.result ≡ Some result_code) × (result_code ≢ 0) × IsTrue (said_approved came)))

-- an enquiry is aborted with another result code than the configured one, or although a status was heard
abbrev pub AbortsEnquiry : Dialogue → List Came → MessageValue → Type 0
AbortsEnquiry dialogue came message = (result_code : ℕ) × (message ≡ Abort (Some result_code))
    × ((result_code ≢ dialogue.none) ⊎ (statuses came ≢ []))

-- the last status of an enquiry that completes, if there is one: without a result or a trace number, or approved without
-- full figures
abbrev pub LeavesEnquiryOpen : Option Fields → Type 0
LeavesEnquiryOpen None = Unit {0}
LeavesEnquiryOpen (Some status) = (status.result ≡ None)
    ⊎ ((status.trace ≡ None) ⊎ ((status.result ≡ Some 0) × LacksFigures status))

-- ---- ends

-- an end of a payment or a reversal
abbrev pub IsTransactionEnd : Heard → Type 0
IsTransactionEnd (heard.Begun stop) = ⊥
IsTransactionEnd (heard.Note intermediate_status) = ⊥
IsTransactionEnd heard.Line = ⊥
IsTransactionEnd heard.Block = ⊥
IsTransactionEnd heard.Seen = ⊥
IsTransactionEnd (heard.Approved figures) = Unit {0}
IsTransactionEnd heard.Done = ⊥
IsTransactionEnd (heard.Told trace approved result_code) = ⊥
IsTransactionEnd (heard.Declined result_code trace) = Unit {0}
IsTransactionEnd heard.Unclear = Unit {0}
IsTransactionEnd heard.Stray = ⊥

-- an end of an enquiry
abbrev pub IsEnquiryEnd : Heard → Type 0
IsEnquiryEnd (heard.Begun stop) = ⊥
IsEnquiryEnd (heard.Note intermediate_status) = ⊥
IsEnquiryEnd heard.Line = ⊥
IsEnquiryEnd heard.Block = ⊥
IsEnquiryEnd heard.Seen = ⊥
IsEnquiryEnd (heard.Approved figures) = ⊥
IsEnquiryEnd heard.Done = ⊥
IsEnquiryEnd (heard.Told trace approved result_code) = Unit {0}
IsEnquiryEnd (heard.Declined result_code trace) = Unit {0}
IsEnquiryEnd heard.Unclear = Unit {0}
IsEnquiryEnd heard.Stray = ⊥

-- an end of a registration, an end of day or a display
abbrev pub IsServiceEnd : Heard → Type 0
IsServiceEnd (heard.Begun stop) = ⊥
IsServiceEnd (heard.Note intermediate_status) = ⊥
IsServiceEnd heard.Line = ⊥
IsServiceEnd heard.Block = ⊥
IsServiceEnd heard.Seen = ⊥
IsServiceEnd (heard.Approved figures) = ⊥
IsServiceEnd heard.Done = Unit {0}
IsServiceEnd (heard.Told trace approved result_code) = ⊥
IsServiceEnd (heard.Declined result_code trace) = Unit {0}
IsServiceEnd heard.Unclear = Unit {0}
IsServiceEnd heard.Stray = ⊥

-- the ends that a dialogue of this kind may have
abbrev pub IsEndOf : DialogueKind → Heard → Type 0
IsEndOf Registration end = IsServiceEnd end
IsEndOf Enquiry end = IsEnquiryEnd end
IsEndOf Payment end = IsTransactionEnd end
IsEndOf Reversal end = IsTransactionEnd end
IsEndOf EndOfDay end = IsServiceEnd end
IsEndOf Display end = IsServiceEnd end

-- this says that `06 B0` is to be sent now
abbrev pub says_stop : Heard → Bool
says_stop (heard.Begun stop) = stop
says_stop (heard.Note intermediate_status) = false
says_stop heard.Line = false
says_stop heard.Block = false
says_stop heard.Seen = false
says_stop (heard.Approved figures) = false
says_stop heard.Done = false
says_stop (heard.Told trace approved result_code) = false
says_stop (heard.Declined result_code trace) = false
says_stop heard.Unclear = false
says_stop heard.Stray = false

-- ---- what goes on

-- no stop was wished
abbrev pub HasNoStopWished : List Came → Type 0
HasNoStopWished [] = Unit {0}
HasNoStopWished (Message message at ∷ came) = HasNoStopWished came
HasNoStopWished (StopWished ∷ came) = ⊥

-- a stop was wished
abbrev pub HasStopWished : List Came → Type 0
HasStopWished [] = ⊥
HasStopWished (Message message at ∷ came) = HasStopWished came
HasStopWished (StopWished ∷ came) = Unit {0}

-- the command, which is no display, is acknowledged
pub record AcknowledgesCommand (dialogue : Dialogue) (came : List Came) (message : MessageValue) : Type 0 where
  pub asked : messages came ≡ []
  pub acknowledgement : message ≡ Ack
  pub no_display : IsNoDisplay dialogue.dialogue_kind

-- the command was acknowledged, and this is a line
abbrev pub BringsLine : List Came → MessageValue → Type 0
BringsLine came message = (messages came ≢ []) × ((text : List ℕ) × (message ≡ Line text))

-- the command was acknowledged, and this is a block
abbrev pub BringsBlock : List Came → MessageValue → Type 0
BringsBlock came message = (messages came ≢ []) × ((objects : List ℕ) × (message ≡ Block objects))

-- the command was acknowledged, and this is a status
abbrev pub BringsStatus : List Came → MessageValue → Type 0
BringsStatus came message = (messages came ≢ []) × ((fields : Fields) × (message ≡ Status fields))

-- ---- a talk, and all that came

-- while a dialogue goes on, a message means for its talk what it means after all that came
abbrev pub MeansForTalkAsAfterAll : Type 0
MeansForTalkAsAfterAll =
    (dialogue : Dialogue) (came : List Came) (message : MessageValue) → IsTrue (talk_goes_on (talk_after dialogue came))
    → meaning_for_talk (talk_after dialogue came) message ≡ meaning dialogue came message

-- and the talk that the message makes of it is that of all that came with the message added
abbrev pub NextTalkIsAfterAll : Type 0
NextTalkIsAfterAll =
    (dialogue : Dialogue) (came : List Came) (message : MessageValue) (at : ℤ) → IsTrue (talk_goes_on (talk_after dialogue came))
    → next_talk (talk_after dialogue came) message at ≡ talk_after dialogue (came ++ Message message at ∷ [])

-- once a dialogue has ended, its end stays, whatever comes
abbrev pub EndStays : Type 0
EndStays = (dialogue : Dialogue) (came more : List Came) (end : Heard) → end_of dialogue came ≡ Some end → end_of dialogue (came ++ more) ≡ Some end

-- a stop that is wished makes of the talk that of all that came with the stop added, whether the dialogue goes on or has ended
abbrev pub TalkAfterStopWishedIsAfterAll : Type 0
TalkAfterStopWishedIsAfterAll = (dialogue : Dialogue) (came : List Came) → talk_after_stop_wished (talk_after dialogue came) ≡ talk_after dialogue (came ++ StopWished ∷ [])

-- a stop that is wished ends no dialogue, and changes no end
abbrev pub StopWishedEndsNothing : Type 0
StopWishedEndsNothing = (dialogue : Dialogue) (came : List Came) → end_of dialogue (came ++ StopWished ∷ []) ≡ end_of dialogue came
