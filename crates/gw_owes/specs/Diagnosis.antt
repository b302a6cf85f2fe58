-- What a till's Diagnosis gets: whether the terminal that its POIID names can be used.
use Rattle.std.specs.Prelude.{ℕ, ◌+◌, bytes_eq, if◌then◌else◌, List, [], ◌∷◌, Option, Some, None}
use Rattle.gw_base.specs.declared.condition.Condition.TheVariants.{UnavailableDevice}
use Rattle.sale_values.specs.declared.header.Header.{Header}
use Rattle.sale_reply.specs.declared.reply.GlobalStatus.{GlobalStatus}
use Rattle.sale_reply.specs.declared.reply.GlobalStatus.TheVariants as status
use Rattle.gw_owes.specs.declared.terminal.Standing.{Standing}
use Rattle.gw_owes.specs.declared.terminal.Standing.TheVariants.{Unlinked, Registering, Enquiring, Ready, Serving, Aside}
use Rattle.gw_owes.specs.declared.terminal.Terminal.{Terminal}
use Rattle.gw_owes.specs.Core.{Core}
use Rattle.gw_owes.specs.Reply.{ReplyValue, Diagnosis}
use Rattle.gw_owes.specs.Replies.{header_of_reply, failure_reply}

-- ---- the terminal that a POIID names

-- a terminal, and its number
pub record NamedTerminal : Type 0 where
  pub number : ℕ
  pub terminal : Terminal

-- the one with this POIID among terminals, the first of which has this number
abbrev pub named_from : ℕ → List ℕ → List Terminal → Option NamedTerminal
named_from number poi [] = None
named_from number poi (terminal ∷ terminals) =
    if bytes_eq terminal.pt.poi poi then Some (record { number = number; terminal = terminal }) else named_from (number + 1) poi terminals

-- the terminal with this POIID, where it is configured
abbrev pub named_terminal : Core → List ℕ → Option NamedTerminal
named_terminal core poi = named_from 0 poi core.terminals

-- ---- its status

-- a terminal is unreachable until it is ready for the first time on its link
abbrev pub status_of_standing : Standing → GlobalStatus
status_of_standing (Unlinked due) = status.Unreachable
status_of_standing Registering = status.Unreachable
status_of_standing Enquiring = status.Unreachable
status_of_standing (Ready last) = status.Ready
status_of_standing (Serving service last) = status.Busy
status_of_standing (Aside before reported) = status.Maintenance

-- the reply to a Diagnosis; a POIID that isn't configured has no status
abbrev pub diagnosis_reply : Header → Option NamedTerminal → ReplyValue
diagnosis_reply header None = failure_reply header UnavailableDevice
diagnosis_reply header (Some named) = Diagnosis (header_of_reply header) (status_of_standing named.terminal.standing)
