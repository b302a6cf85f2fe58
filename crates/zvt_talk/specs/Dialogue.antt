-- A dialogue with a terminal: the command that began it, and how long is waited.
use Rattle.std.specs.Prelude.{ℕ, ℤ, Bool, true, false, Option, None, Some}
use Rattle.std.specs.Option.{option_map}
use Rattle.zvt_msg.specs.declared.command.Command.{Command}
use Rattle.zvt_msg.specs.declared.command.Command.TheVariants as command
use Rattle.zvt_talk.specs.declared.dialogue_kind.DialogueKind.{DialogueKind}
use Rattle.zvt_talk.specs.declared.dialogue_kind.DialogueKind.TheVariants.{Registration, Enquiry, Payment, Reversal, EndOfDay, Display}

-- the dialogue that a command begins; a stop begins none
abbrev pub dialogue_kind_of : Command → Option DialogueKind
dialogue_kind_of (command.Register password config currency) = Some Registration
dialogue_kind_of (command.Authorise amount currency) = Some Payment
dialogue_kind_of (command.Enquire password) = Some Enquiry
dialogue_kind_of (command.Reverse password receipt) = Some Reversal
dialogue_kind_of (command.EndOfDay password) = Some EndOfDay
dialogue_kind_of command.Stop = None
dialogue_kind_of (command.Show lines) = Some Display

-- one dialogue, with the limits on its silence
pub record Dialogue : Type 0 where
  pub dialogue_kind : DialogueKind
  -- the result code by which the terminal reports to an enquiry that it has no transaction
  pub none : ℕ
  -- the seconds until the command is acknowledged, and those from one message to the next
  pub acknowledge_time : ℕ
  pub command_time : ℕ
  -- the moment at which the command was sent
  pub sent : ℤ

-- the dialogue of a command
abbrev pub dialogue_of : Command → ℕ → ℕ → ℕ → ℤ → Option Dialogue
dialogue_of command none acknowledge_time command_time sent =
    option_map (λ dialogue_kind. record { dialogue_kind = dialogue_kind; none = none; acknowledge_time = acknowledge_time; command_time = command_time; sent = sent }) (dialogue_kind_of command)

-- the terminal acknowledges a display and sends nothing more, and with that the dialogue is done
abbrev pub is_display : DialogueKind → Bool
is_display Registration = false
is_display Enquiry = false
is_display Payment = false
is_display Reversal = false
is_display EndOfDay = false
is_display Display = true
