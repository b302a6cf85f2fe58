-- What a terminal's connection means for what is remembered of it: a link that is made or lost, and a till that is gone.
use Rattle.std.specs.Prelude.{ℕ, ◌+◌, ◌==◌, set, pos, not, if◌then◌else◌, List, [], ◌∷◌, map, filter, slice_get, Option, Some, None}
use Rattle.std.specs.Option.{option_map}
use Rattle.gw_base.specs.Currency.{currency_number}
use Rattle.gw_base.specs.declared.condition.Condition.TheVariants.{UnavailableDevice}
use Rattle.gw_base.specs.declared.setup.Pt.{Pt}
use Rattle.zvt_msg.specs.declared.command.Command.{Command}
use Rattle.zvt_msg.specs.declared.command.Command.TheVariants.{Register}
use Rattle.zvt_talk.specs.Dialogue.{dialogue_of}
use Rattle.zvt_talk.specs.Talk.{TalkFacts, talk_after}
use Rattle.gw_owes.specs.Reply.{ReplyValue}
use Rattle.gw_owes.specs.Calls.{Ask, OwedCall, SendTill, SendPt}
use Rattle.gw_owes.specs.declared.terminal.Service.{Service}
use Rattle.gw_owes.specs.declared.terminal.Service.TheVariants.{Transaction, EndOfDay, Display}
use Rattle.gw_owes.specs.declared.terminal.Standing.{Standing}
use Rattle.gw_owes.specs.declared.terminal.Standing.TheVariants.{Unlinked, Registering, Enquiring, Ready, Serving, Aside}
use Rattle.gw_owes.specs.declared.terminal.Terminal.{Terminal}
use Rattle.gw_owes.specs.Core.{Wait, Core}
use Rattle.gw_owes.specs.Row.{Known, Row, owing_nothing, becoming}
use Rattle.gw_owes.specs.Awaited.{one_more_awaited}
use Rattle.gw_owes.specs.Replies.{failure_reply, display_reply}

-- ---- terminals by their numbers

-- the terminal of this number
abbrev pub terminal_at : Known → ℕ → Option Terminal
terminal_at known number = slice_get known.core.terminals number

-- what is owed of a terminal, where there is one
abbrev pub of_terminal : Known → (Terminal → Row) → Option Terminal → Row
of_terminal known row None = owing_nothing known
of_terminal known row (Some terminal) = row terminal

-- the terminal of this number becomes this one
abbrev pub with_terminal : Core → ℕ → Terminal → Core
with_terminal core number terminal = record core { terminals = set core.terminals number terminal }

-- the terminal of this number becomes this one, and these calls are owed
abbrev pub terminal_becomes : Known → ℕ → Terminal → List OwedCall → Row
terminal_becomes known number terminal calls = becoming (with_terminal known.core number terminal) calls

-- ---- commands

-- the dialogue of a command that is sent at this moment
abbrev pub talk_of_command : Pt → Command → ℕ → Option TalkFacts
talk_of_command pt command moment = option_map (λ dialogue. talk_after dialogue []) (dialogue_of command pt.none pt.answer pt.command (pos moment))

-- the terminal once a command was sent to it: it has this standing, and one Ack or Nack more is awaited
abbrev pub after_command : Terminal → Command → Standing → ℕ → Terminal
after_command terminal command standing moment =
    record terminal { standing = standing; talk = talk_of_command terminal.pt command moment; awaited = one_more_awaited terminal.awaited }

-- the registration of a terminal
abbrev pub registration : Pt → Command
registration pt = Register pt.password pt.config (currency_number pt.currency)

-- ---- a link that is made

-- the terminal registers
abbrev pub registers : Known → ℕ → Terminal → Row
registers known number terminal =
    terminal_becomes known number (after_command (record terminal { awaited = 0 }) (registration terminal.pt) Registering known.moment) (SendPt number (Ask (registration terminal.pt)) ∷ [])

-- what a link that is made leaves and owes: the registration
abbrev pub link_made : Known → ℕ → Row
link_made known number = of_terminal known (registers known number) (terminal_at known number)

-- ---- a link that is lost

-- the till is sent the reply, where there are both
abbrev pub reply_calls_to : Option ℕ → Option ReplyValue → List OwedCall
reply_calls_to None reply = []
reply_calls_to (Some till) None = []
reply_calls_to (Some till) (Some reply) = SendTill till reply ∷ []

-- the reply to what was served and isn't finished: none to a payment or a reversal, whose key stays open
abbrev pub reply_to_unfinished : Service → Option ReplyValue
reply_to_unfinished (Transaction slot) = None
reply_to_unfinished (EndOfDay header period) = Some (failure_reply header UnavailableDevice)
reply_to_unfinished (Display header results) = display_reply header results

-- the reply that the loss of a link owes, by the terminal's standing
abbrev pub reply_to_lost : Standing → Option ReplyValue
reply_to_lost (Unlinked due) = None
reply_to_lost Registering = None
reply_to_lost Enquiring = None
reply_to_lost (Ready last) = None
reply_to_lost (Serving service last) = reply_to_unfinished service
reply_to_lost (Aside before reported) = None

-- the till of a payment or a reversal is remembered, since its key stays open; that of an end of day or a display has its reply
abbrev pub asker_of_unfinished : Option ℕ → Service → Option ℕ
asker_of_unfinished asker (Transaction slot) = asker
asker_of_unfinished asker (EndOfDay header period) = None
asker_of_unfinished asker (Display header results) = None

-- the till that is remembered once the link is lost
abbrev pub asker_of_lost : Option ℕ → Standing → Option ℕ
asker_of_lost asker (Unlinked due) = asker
asker_of_lost asker Registering = asker
asker_of_lost asker Enquiring = asker
asker_of_lost asker (Ready last) = asker
asker_of_lost asker (Serving service last) = asker_of_unfinished asker service
asker_of_lost asker (Aside before reported) = asker

-- the terminal without its link: it is due in five seconds
abbrev pub unlinked_terminal : Terminal → ℕ → Terminal
unlinked_terminal terminal moment =
    record terminal { standing = Unlinked (Some (moment + 5)); talk = None; awaited = 0; asker = asker_of_lost terminal.asker terminal.standing }

-- the terminal loses its link
abbrev pub unlinks : Known → ℕ → Terminal → Row
unlinks known number terminal =
    terminal_becomes known number (unlinked_terminal terminal known.moment) (reply_calls_to terminal.asker (reply_to_lost terminal.standing))

-- what a link that is lost leaves and owes
abbrev pub link_lost : Known → ℕ → Row
link_lost known number = of_terminal known (unlinks known number) (terminal_at known number)

-- ---- a till that is gone

-- the till that asked, unless it is this one
abbrev pub asker_but : ℕ → Option ℕ → Option ℕ
asker_but till None = None
asker_but till (Some asker) = if asker == till then None else Some asker

-- replies to this till aren't sent
abbrev pub forgets_till : ℕ → Terminal → Terminal
forgets_till till terminal = record terminal { asker = asker_but till terminal.asker }

-- what is remembered once this till is gone: its requests wait no longer, and later replies to it aren't sent
abbrev pub core_without : Core → ℕ → Core
core_without core till = record core {
  terminals = map (forgets_till till) core.terminals;
  waits = filter (λ (wait : Wait). not (wait.till == till)) core.waits;
}
