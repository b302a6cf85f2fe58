-- What a message means for a talk, and the talk after it, by the few facts alone that it keeps.
use Rattle.std.specs.Prelude.{ℕ, ℤ, pos, ◌+ℤ◌, Bool, true, false, not, ◌&&◌, ◌||◌, None, Some, if◌then◌else◌}
use Rattle.zvt_bmp.specs.declared.fields.Fields.{Fields}
use Rattle.zvt_msg.specs.Message.{MessageValue, Ack, Nack, Intermediate, Line, Block, Status, Completion, Abort, Other}
use Rattle.zvt_talk.specs.declared.dialogue_kind.DialogueKind.{DialogueKind}
use Rattle.zvt_talk.specs.declared.meaning.Heard.{Heard}
use Rattle.zvt_talk.specs.declared.meaning.Heard.TheVariants as heard
use Rattle.zvt_talk.specs.declared.phase.Phase.{Phase}
use Rattle.zvt_talk.specs.declared.phase.Phase.TheVariants.{Asked, Begun, Ended}
use Rattle.zvt_talk.specs.declared.statuses.Statuses.{Statuses}
use Rattle.zvt_talk.specs.Dialogue.{is_display}
use Rattle.zvt_talk.specs.Came.{has_result, is_taken, is_ack, is_completion_or_abort}
use Rattle.zvt_talk.specs.Table.{meaning_when_asked, meaning_when_begun}
use Rattle.zvt_talk.specs.Talk.{TalkFacts}

-- what a message means in this phase
abbrev pub meaning_in_phase : DialogueKind → ℕ → Phase → MessageValue → Heard
meaning_in_phase dialogue_kind none (Asked stop_wished) message = meaning_when_asked dialogue_kind stop_wished message
meaning_in_phase dialogue_kind none (Begun stop_sent statuses) message = meaning_when_begun dialogue_kind none statuses message
meaning_in_phase dialogue_kind none (Ended stop_sent) message = heard.Stray

-- what a message means for the talk
abbrev pub meaning_for_talk : TalkFacts → MessageValue → Heard
meaning_for_talk talk message = meaning_in_phase talk.dialogue_kind talk.none talk.phase message

-- none was heard
abbrev pub no_statuses : Statuses
no_statuses = record { last = None; approved = false }

-- after one more, which is the last from then on
abbrev pub with_fields : Statuses → Fields → Statuses
with_fields statuses fields = record { last = Some fields; approved = statuses.approved || has_result 0 fields.result }

-- after any message
abbrev pub with_status : Statuses → MessageValue → Statuses
with_status statuses Ack = statuses
with_status statuses (Nack error_code) = statuses
with_status statuses (Intermediate intermediate_status) = statuses
with_status statuses (Line text) = statuses
with_status statuses (Block objects) = statuses
with_status statuses (Status fields) = with_fields statuses fields
with_status statuses Completion = statuses
with_status statuses (Abort result_code) = statuses
with_status statuses Other = statuses

-- the phase after a message that is taken
abbrev pub next_phase : DialogueKind → Phase → MessageValue → Phase
next_phase dialogue_kind (Asked stop_wished) message =
    if is_ack message && not (is_display dialogue_kind) then Begun stop_wished no_statuses else Ended false
next_phase dialogue_kind (Begun stop_sent statuses) message =
    if is_completion_or_abort message then Ended stop_sent else Begun stop_sent (with_status statuses message)
next_phase dialogue_kind (Ended stop_sent) message = Ended stop_sent

-- the talk after a message
abbrev pub next_talk : TalkFacts → MessageValue → ℤ → TalkFacts
next_talk talk message now =
    if is_taken message
    then record talk { phase = next_phase talk.dialogue_kind talk.phase message; deadline = now +ℤ pos talk.command_time }
    else talk

-- the phase after a stop is wished
abbrev pub phase_after_stop_wished : Phase → Phase
phase_after_stop_wished (Asked stop_wished) = Asked true
phase_after_stop_wished (Begun stop_sent statuses) = Begun true statuses
phase_after_stop_wished (Ended stop_sent) = Ended stop_sent

-- the talk after a stop is wished
abbrev pub talk_after_stop_wished : TalkFacts → TalkFacts
talk_after_stop_wished talk = record talk { phase = phase_after_stop_wished talk.phase }

-- `06 B0` is to be sent when a stop is wished
abbrev pub may_send_stop : Phase → Bool
may_send_stop (Asked stop_wished) = false
may_send_stop (Begun stop_sent statuses) = not stop_sent
may_send_stop (Ended stop_sent) = false

-- `06 B0` was sent
abbrev pub was_stop_sent : Phase → Bool
was_stop_sent (Asked stop_wished) = false
was_stop_sent (Begun stop_sent statuses) = stop_sent
was_stop_sent (Ended stop_sent) = stop_sent
