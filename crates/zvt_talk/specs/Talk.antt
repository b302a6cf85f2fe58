-- What a message means for a dialogue, and what is remembered of it, after everything that came.
use Rattle.std.specs.Prelude.{ℕ, ℤ, Bool, true, false, List, [], ◌∷◌, ◌++◌, Option, None, Some, if◌then◌else◌}
use Rattle.zvt_msg.specs.Message.{MessageValue}
use Rattle.zvt_talk.specs.declared.dialogue_kind.DialogueKind.{DialogueKind}
use Rattle.zvt_talk.specs.declared.meaning.Heard.{Heard}
use Rattle.zvt_talk.specs.declared.meaning.Heard.TheVariants as heard
use Rattle.zvt_talk.specs.declared.phase.Phase.{Phase}
use Rattle.zvt_talk.specs.declared.phase.Phase.TheVariants.{Asked, Begun, Ended}
use Rattle.zvt_talk.specs.declared.statuses.Statuses.{Statuses}
use Rattle.zvt_talk.specs.Dialogue.{Dialogue}
use Rattle.zvt_talk.specs.Came.{Came, Message, StopWished, messages, last_status, said_approved, is_asked, is_begun, is_stop_wished, is_stop_sent, deadline}
use Rattle.zvt_talk.specs.Table.{meaning_when_asked, meaning_when_begun}

-- what the statuses said
abbrev pub statuses_of : List Came → Statuses
statuses_of came = record { last = last_status came; approved = said_approved came }

-- what a message means after all that came before it, while the dialogue goes on
abbrev pub meaning : Dialogue → List Came → MessageValue → Heard
meaning dialogue came message =
    if is_asked (messages came) then meaning_when_asked dialogue.dialogue_kind (is_stop_wished came) message
    else meaning_when_begun dialogue.dialogue_kind dialogue.none (statuses_of came) message

-- this ends the dialogue
abbrev pub is_end : Heard → Bool
is_end (heard.Begun stop) = false
is_end (heard.Note intermediate_status) = false
is_end heard.Line = false
is_end heard.Block = false
is_end heard.Seen = false
is_end (heard.Approved figures) = true
is_end heard.Done = true
is_end (heard.Told trace approved result_code) = true
is_end (heard.Declined result_code trace) = true
is_end heard.Unclear = true
is_end heard.Stray = false

-- what the first message of the rest means that ends the dialogue
abbrev pub end_from : Dialogue → List Came → List Came → Option Heard
end_from dialogue before [] = None
end_from dialogue before (StopWished ∷ rest) = end_from dialogue (before ++ StopWished ∷ []) rest
end_from dialogue before (Message message at ∷ rest) =
    if is_end (meaning dialogue before message) then Some (meaning dialogue before message)
    else end_from dialogue (before ++ Message message at ∷ []) rest

-- how a dialogue ended after all that came, if it has
abbrev pub end_of : Dialogue → List Came → Option Heard
end_of dialogue came = end_from dialogue [] came

-- ---- what a talk keeps

-- a few facts of all that came
pub record TalkFacts : Type 0 where
  pub dialogue_kind : DialogueKind
  pub none : ℕ
  pub command_time : ℕ
  pub deadline : ℤ
  pub phase : Phase

-- how far the dialogue is, with what counts from there on
abbrev pub phase_of : DialogueKind → List Came → Phase
phase_of dialogue_kind came =
    if is_asked (messages came) then Asked (is_stop_wished came)
    else if is_begun dialogue_kind (messages came) then Begun (is_stop_sent dialogue_kind came) (statuses_of came)
    else Ended (is_stop_sent dialogue_kind came)

-- the talk of a dialogue, after all that came
abbrev pub talk_after : Dialogue → List Came → TalkFacts
talk_after dialogue came = record {
  dialogue_kind = dialogue.dialogue_kind;
  none = dialogue.none;
  command_time = dialogue.command_time;
  deadline = deadline dialogue came;
  phase = phase_of dialogue.dialogue_kind came;
}

-- asked or begun
abbrev pub is_open_phase : Phase → Bool
is_open_phase (Asked stop_wished) = true
is_open_phase (Begun stop_sent statuses) = true
is_open_phase (Ended stop_sent) = false

-- the dialogue has not ended
abbrev pub talk_goes_on : TalkFacts → Bool
talk_goes_on talk = is_open_phase talk.phase
