-- What came in a dialogue since its command was sent, and what follows from it.
use Rattle.std.specs.Prelude.{ℕ, ℤ, pos, ◌+ℤ◌, Bool, true, false, not, ◌&&◌, ◌==◌, List, [], ◌∷◌, Option, None, Some, if◌then◌else◌}
use Rattle.std.specs.List.{list_any, filter_map, last_or}
use Rattle.zvt_bmp.specs.declared.fields.Fields.{Fields}
use Rattle.zvt_msg.specs.Message.{MessageValue, Ack, Nack, Intermediate, Line, Block, Status, Completion, Abort, Other}
use Rattle.zvt_talk.specs.declared.dialogue_kind.DialogueKind.{DialogueKind}
use Rattle.zvt_talk.specs.Dialogue.{Dialogue, is_display}

-- what comes in a dialogue, one after another
pub data Came : Type 0 where
  -- a message of the terminal, at this moment
  Message : (message : MessageValue) → (at : ℤ) → Came
  -- a stop is wished of what the dialogue serves
  StopWished : Came

-- ---- messages

-- a dialogue takes every message but those outside the table
abbrev pub is_taken : MessageValue → Bool
is_taken Ack = true
is_taken (Nack error_code) = true
is_taken (Intermediate intermediate_status) = true
is_taken (Line text) = true
is_taken (Block objects) = true
is_taken (Status fields) = true
is_taken Completion = true
is_taken (Abort result_code) = true
is_taken Other = false

-- an acknowledgement
abbrev pub is_ack : MessageValue → Bool
is_ack Ack = true
is_ack (Nack error_code) = false
is_ack (Intermediate intermediate_status) = false
is_ack (Line text) = false
is_ack (Block objects) = false
is_ack (Status fields) = false
is_ack Completion = false
is_ack (Abort result_code) = false
is_ack Other = false

-- a completion or an abort by the terminal: the first of these ends a dialogue that was begun
abbrev pub is_completion_or_abort : MessageValue → Bool
is_completion_or_abort Ack = false
is_completion_or_abort (Nack error_code) = false
is_completion_or_abort (Intermediate intermediate_status) = false
is_completion_or_abort (Line text) = false
is_completion_or_abort (Block objects) = false
is_completion_or_abort (Status fields) = false
is_completion_or_abort Completion = true
is_completion_or_abort (Abort result_code) = true
is_completion_or_abort Other = false

-- the fields of a status
abbrev pub status_fields_of : MessageValue → Option Fields
status_fields_of Ack = None
status_fields_of (Nack error_code) = None
status_fields_of (Intermediate intermediate_status) = None
status_fields_of (Line text) = None
status_fields_of (Block objects) = None
status_fields_of (Status fields) = Some fields
status_fields_of Completion = None
status_fields_of (Abort result_code) = None
status_fields_of Other = None

-- a message that is taken
abbrev pub taken_message : Came → Option MessageValue
taken_message (Message message at) = if is_taken message then Some message else None
taken_message StopWished = None

-- the moment of a message that is taken
abbrev pub taken_moment : Came → Option ℤ
taken_moment (Message message at) = if is_taken message then Some at else None
taken_moment StopWished = None

-- the messages that the dialogue took, the oldest first
abbrev pub messages : List Came → List MessageValue
messages came = filter_map taken_message came

-- the moments of these messages
abbrev pub moments : List Came → List ℤ
moments came = filter_map taken_moment came

-- ---- statuses

-- the statuses heard, the oldest first
abbrev pub statuses : List Came → List Fields
statuses came = filter_map status_fields_of (messages came)

-- the last status heard
abbrev pub last_status : List Came → Option Fields
last_status came = last_or None (statuses came)

-- the status has this result code
abbrev pub has_result : ℕ → Option ℕ → Bool
has_result result_code None = false
has_result result_code (Some result) = result == result_code

-- one of the statuses had the result 00
abbrev pub said_approved : List Came → Bool
said_approved came = list_any (λ status. has_result 0 status.result) (statuses came)

-- ---- how far the dialogue is

-- no message was taken yet
abbrev pub is_asked : List MessageValue → Bool
is_asked [] = true
is_asked (message ∷ more) = false

-- the first message taken acknowledges the command, and more is to come, as in each dialogue but a display
abbrev pub was_begun : DialogueKind → List MessageValue → Bool
was_begun dialogue_kind [] = false
was_begun dialogue_kind (message ∷ more) = is_ack message && not (is_display dialogue_kind)

-- the dialogue was begun, and goes on
abbrev pub is_begun : DialogueKind → List MessageValue → Bool
is_begun dialogue_kind taken = was_begun dialogue_kind taken && not (list_any is_completion_or_abort taken)

-- it is neither asked nor begun
abbrev pub has_ended : DialogueKind → List MessageValue → Bool
has_ended dialogue_kind taken = not (is_asked taken) && not (is_begun dialogue_kind taken)

-- a stop was wished, and no completion or abort came before
abbrev pub is_stop_wished : List Came → Bool
is_stop_wished [] = false
is_stop_wished (StopWished ∷ came) = true
is_stop_wished (Message message at ∷ came) = not (is_completion_or_abort message) && is_stop_wished came

-- `06 B0` was sent: a stop was wished in time, and the dialogue was begun
abbrev pub is_stop_sent : DialogueKind → List Came → Bool
is_stop_sent dialogue_kind came = was_begun dialogue_kind (messages came) && is_stop_wished came

-- ---- the deadline

-- so many seconds until the first message, and then so many from the last message taken
abbrev pub due : Dialogue → Option ℤ → ℤ
due dialogue None = dialogue.sent +ℤ pos dialogue.acknowledge_time
due dialogue (Some at) = at +ℤ pos dialogue.command_time

-- the moment until which the terminal may be silent
abbrev pub deadline : Dialogue → List Came → ℤ
deadline dialogue came = due dialogue (last_or None (moments came))
