-- Example dialogues: a payment, an enquiry and a display, and what single messages mean in them.
use Rattle.std.specs.Prelude.{◌≡◌, ℕ, pos, List, [], ◌∷◌, ◌++◌, None, Some, Ok, IsTrue, true, false}
use Rattle.gw_base.specs.declared.figures.Figures.{Figures}
use Rattle.zvt_bmp.specs.declared.fields.Fields.{Fields}
use Rattle.zvt_bmp.specs.Decode.{decode_status}
use Rattle.zvt_msg.specs.Message.{Ack, Intermediate, Line, Block, Status, Completion, Abort, Other}
use Rattle.zvt_talk.specs.declared.dialogue_kind.DialogueKind.TheVariants.{Enquiry, Payment, Display}
use Rattle.zvt_talk.specs.declared.meaning.Heard.TheVariants as heard
use Rattle.zvt_talk.specs.declared.phase.Phase.TheVariants.{Begun}
use Rattle.zvt_talk.specs.Dialogue.{Dialogue}
use Rattle.zvt_talk.specs.Came.{Came, Message, StopWished, messages, deadline}
use Rattle.zvt_talk.specs.Talk.{meaning, end_of, TalkFacts, talk_after, talk_goes_on}
use Rattle.zvt_talk.specs.TalkSteps.{meaning_for_talk, next_talk, no_statuses, with_fields}
use Rattle.zvt_talk.specs.Laws.{ReportsLastTransaction, ReportsNoTransaction}
use Rattle.zvt_talk.specs.Limits.{AllNumbersFitFields, FiguresFitFields, FiguresFitRecord, AreAtLeastOne, WereRead}

-- a payment that was sent at the moment 100; its terminal has 5 seconds to acknowledge it, and 180 from one message to the next
abbrev pub payment_dialogue : Dialogue
payment_dialogue = record { dialogue_kind = Payment; none = 0x83; acknowledge_time = 5; command_time = 180; sent = pos 100 }

-- an enquiry that was sent then
abbrev pub enquiry_dialogue : Dialogue
enquiry_dialogue = record payment_dialogue { dialogue_kind = Enquiry }

-- a display that was sent then
abbrev pub display_dialogue : Dialogue
display_dialogue = record payment_dialogue { dialogue_kind = Display }

-- the terminal acknowledged the command three seconds later
abbrev pub acknowledged_came : List Came
acknowledged_came = Message Ack (pos 103) ∷ []

-- the status of an approved transaction, with the greatest numbers that its fields hold
abbrev pub greatest_status : Fields
greatest_status = record { result = Some 0; amount = Some 999999999999; trace = Some 999999; receipt = Some 9999; currency = None; tail = 16 }

-- these numbers
abbrev pub greatest_figures : Figures
greatest_figures = record { number = 999999; receipt = 9999; amount = 999999999999 }

-- the terminal acknowledged, and sent this status
abbrev pub greatest_came : List Came
greatest_came = Message Ack (pos 103) ∷ Message (Status greatest_status) (pos 110) ∷ []

-- the terminal acknowledged, and sent the status of transaction 7, which has the result 05
abbrev pub declined_came : List Came
declined_came = Message Ack (pos 103) ∷ Message (Status (record greatest_status { result = Some 5; trace = Some 7 })) (pos 110) ∷ []

-- an acknowledgement begins the payment, with a stop where one is wished; a display is done with it
pub record ExampleBegins : Type 0 where
  pub without_stop_wished : meaning payment_dialogue [] Ack ≡ heard.Begun false
  pub with_stop_wished : meaning payment_dialogue (StopWished ∷ []) Ack ≡ heard.Begun true
  pub display : meaning display_dialogue [] Ack ≡ heard.Done

-- after the acknowledgement the payment goes on with each of these; before it one of them leaves it unclear
pub record ExampleGoesOn : Type 0 where
  pub note : meaning payment_dialogue acknowledged_came (Intermediate 10) ≡ heard.Note 10
  pub line : meaning payment_dialogue acknowledged_came (Line (72 ∷ 105 ∷ [])) ≡ heard.Line
  pub block : meaning payment_dialogue acknowledged_came (Block []) ≡ heard.Block
  pub status : meaning payment_dialogue acknowledged_came (Status greatest_status) ≡ heard.Seen
  pub too_early : meaning payment_dialogue [] (Intermediate 10) ≡ heard.Unclear

-- the deadline is 5 seconds after the command and 180 after each message; what is outside the table and a stop wished leave it
pub record ExampleDeadlines : Type 0 where
  pub command : deadline payment_dialogue [] ≡ pos 105
  pub message : deadline payment_dialogue acknowledged_came ≡ pos 283
  pub other : deadline payment_dialogue (Message Ack (pos 103) ∷ Message Other (pos 150) ∷ []) ≡ pos 283
  pub stop_wished : deadline payment_dialogue (Message Ack (pos 103) ∷ StopWished ∷ []) ≡ pos 283
  pub later : deadline payment_dialogue greatest_came ≡ pos 290

-- the greatest numbers fit their fields, and are reported as they are
pub record ExampleFigures : Type 0 where
  pub read : AllNumbersFitFields (messages greatest_came)
  pub approved : meaning payment_dialogue greatest_came Completion ≡ heard.Approved greatest_figures
  pub reported : meaning enquiry_dialogue greatest_came Completion ≡ heard.Told 999999 (Some greatest_figures) 0
  pub fit : FiguresFitFields greatest_figures
  pub some : AreAtLeastOne greatest_figures

-- the data of this status: 27 00, 04 and twelve nines, 0B and six, 87 and four
abbrev pub greatest_status_data : List ℕ
greatest_status_data =
    0x27 ∷ 0x00 ∷ 0x04 ∷ 0x99 ∷ 0x99 ∷ 0x99 ∷ 0x99 ∷ 0x99 ∷ 0x99 ∷ 0x0B ∷ 0x99 ∷ 0x99 ∷ 0x99 ∷ 0x87 ∷ 0x99 ∷ 0x99 ∷ []

-- the data of the status of transaction 7: 27 05, 04 and twelve nines, 0B and 000007, 87 and four nines
abbrev pub declined_status_data : List ℕ
declined_status_data =
    0x27 ∷ 0x05 ∷ 0x04 ∷ 0x99 ∷ 0x99 ∷ 0x99 ∷ 0x99 ∷ 0x99 ∷ 0x99 ∷ 0x0B ∷ 0x00 ∷ 0x00 ∷ 0x07 ∷ 0x87 ∷ 0x99 ∷ 0x99 ∷ []

-- the messages of an approved payment were read, and their figures can be kept in a record; those of a declined one were read
pub record ExampleReadFigures : Type 0 where
  pub status : decode_status greatest_status_data ≡ Ok greatest_status
  pub read : WereRead (messages greatest_came)
  pub approved : meaning payment_dialogue greatest_came Completion ≡ heard.Approved greatest_figures
  pub fit : FiguresFitRecord greatest_figures
  pub declined_read : WereRead (messages declined_came)
  pub declined : meaning payment_dialogue declined_came Completion ≡ heard.Declined 5 (Some 7)

-- an enquiry reports the last transaction, approved or not, or by the configured result code that there is none
pub record ExampleReports : Type 0 where
  pub last : ReportsLastTransaction greatest_came Completion 999999 (Some greatest_figures) 0
  pub declined : meaning enquiry_dialogue declined_came Completion ≡ heard.Told 7 None 5
  pub none : ReportsNoTransaction enquiry_dialogue acknowledged_came (Abort (Some 0x83)) 0 None 0x83
  pub none_reported : meaning enquiry_dialogue acknowledged_came (Abort (Some 0x83)) ≡ heard.Told 0 None 0x83
  pub other_code : meaning enquiry_dialogue acknowledged_came (Abort (Some 0x84)) ≡ heard.Unclear

-- a stop was wished of the payment once it was acknowledged, so that `06 B0` was sent
abbrev pub stopped_came : List Came
stopped_came = Message Ack (pos 103) ∷ StopWished ∷ []

-- what its talk keeps of that
abbrev pub stopped_talk : TalkFacts
stopped_talk = record { dialogue_kind = Payment; none = 0x83; command_time = 180; deadline = pos 283; phase = Begun true no_statuses }

-- and of a status that comes then
abbrev pub stopped_status_talk : TalkFacts
stopped_status_talk = record stopped_talk { deadline = pos 290; phase = Begun true (with_fields no_statuses greatest_status) }

-- the payment with this status was completed
abbrev pub completed_came : List Came
completed_came = greatest_came ++ Message Completion (pos 111) ∷ []

-- a payment that is begun goes on, and of a status its talk says and keeps what all that came does; one that has ended keeps its end, whatever comes
pub record ExampleTalkSteps : Type 0 where
  pub talk : talk_after payment_dialogue stopped_came ≡ stopped_talk
  pub goes_on : IsTrue (talk_goes_on (talk_after payment_dialogue stopped_came))
  pub means_for_talk : meaning_for_talk stopped_talk (Status greatest_status) ≡ heard.Seen
  pub means : meaning payment_dialogue stopped_came (Status greatest_status) ≡ heard.Seen
  pub next : next_talk stopped_talk (Status greatest_status) (pos 110) ≡ stopped_status_talk
  pub after_all : talk_after payment_dialogue (stopped_came ++ Message (Status greatest_status) (pos 110) ∷ []) ≡ stopped_status_talk
  pub ended : end_of payment_dialogue completed_came ≡ Some (heard.Approved greatest_figures)
  pub stays : end_of payment_dialogue (completed_came ++ StopWished ∷ Message (Abort (Some 5)) (pos 112) ∷ []) ≡ Some (heard.Approved greatest_figures)
