-- Which dialogue runs with a terminal of each standing, and what is awaited in it.
use Rattle.std.specs.Prelude.{◌≡◌, ◌≢◌, ◌≤◌, ℕ, Bool, true, false, slice_get, Option, Some, None}
use Rattle.gw_base.specs.declared.setup.Setup.{Setup}
use Rattle.zvt_talk.specs.declared.dialogue_kind.DialogueKind.{DialogueKind}
use Rattle.zvt_talk.specs.declared.dialogue_kind.DialogueKind.TheVariants.{Registration, Enquiry, Payment, Reversal, EndOfDay as EndOfDayDialogue, Display as DisplayDialogue}
use Rattle.zvt_talk.specs.declared.phase.Phase.{Phase}
use Rattle.zvt_talk.specs.declared.phase.Phase.TheVariants.{Asked, Begun, Ended}
use Rattle.zvt_talk.specs.Talk.{TalkFacts}
use Rattle.gw_owes.specs.declared.terminal.Service.{Service}
use Rattle.gw_owes.specs.declared.terminal.Service.TheVariants.{Transaction, EndOfDay, Display}
use Rattle.gw_owes.specs.declared.terminal.Standing.{Standing}
use Rattle.gw_owes.specs.declared.terminal.Standing.TheVariants.{Unlinked, Registering, Enquiring, Ready, Serving, Aside}
use Rattle.gw_owes.specs.declared.terminal.Terminal.{Terminal}
use Rattle.gw_owes.specs.Core.{Core, new_core}
use Rattle.gw_owes.specs.Items.{RoundItem}
use Rattle.gw_owes.specs.Row.{Known}
use Rattle.gw_owes.specs.Links.{LinkEvent, link_row}
use Rattle.gw_owes.specs.TerminalLaws.{owes_cut}
use Rattle.gw_owes.specs.TerminalRows.{terminal_row}

-- ---- one terminal

-- so many Acks and Nacks are awaited in a registration or an enquiry that goes on: that of its command until it comes; no stop is wished of either, and so none was sent
abbrev pub AwaitedIn : Phase → ℕ → Type 0
AwaitedIn (Asked stop_wished) awaited = (stop_wished ≡ false) × (awaited ≡ 1)
AwaitedIn (Begun stop_sent statuses) awaited = (stop_sent ≡ false) × (awaited ≡ 0)
AwaitedIn (Ended stop_sent) awaited = ⊥

-- a dialogue of this kind runs, and so many Acks and Nacks are awaited
pub record RunsDialogue (dialogue_kind : DialogueKind) (talk : Option TalkFacts) (awaited : ℕ) : Type 0 where
  pub facts : TalkFacts
  pub talk_is : talk ≡ Some facts
  pub kind_is : facts.dialogue_kind ≡ dialogue_kind
  pub awaited_is : AwaitedIn facts.phase awaited

-- a payment or a reversal
abbrev pub runs_transaction : DialogueKind → Bool
runs_transaction Registration = false
runs_transaction Enquiry = false
runs_transaction Payment = true
runs_transaction Reversal = true
runs_transaction EndOfDayDialogue = false
runs_transaction DisplayDialogue = false

-- so many Acks and Nacks are awaited in a payment, a reversal or an end of day that goes on: that of its command until it comes, and beside it those of stops, of earlier ones and then of its own
abbrev pub AwaitedServing : Phase → ℕ → Type 0
AwaitedServing (Asked stop_wished) awaited = 1 ≤ awaited
AwaitedServing (Begun stop_sent statuses) awaited = Unit {0}
AwaitedServing (Ended stop_sent) awaited = ⊥

-- so many in a display, which ends with the first of them that comes: that of its command, and beside it those of earlier stops; no stop is wished of it
abbrev pub AwaitedShowing : Phase → ℕ → Type 0
AwaitedShowing (Asked stop_wished) awaited = (stop_wished ≡ false) × (1 ≤ awaited)
AwaitedShowing (Begun stop_sent statuses) awaited = ⊥
AwaitedShowing (Ended stop_sent) awaited = ⊥

-- what is served runs in a dialogue of this kind
abbrev pub IsKindOfService : Service → DialogueKind → Type 0
IsKindOfService (Transaction slot) dialogue_kind = runs_transaction dialogue_kind ≡ true
IsKindOfService (EndOfDay header period) dialogue_kind = dialogue_kind ≡ EndOfDayDialogue
IsKindOfService (Display header results) dialogue_kind = dialogue_kind ≡ DisplayDialogue

-- so many Acks and Nacks are awaited in the dialogue of what is served
abbrev pub AwaitedOfService : Service → Phase → ℕ → Type 0
AwaitedOfService (Transaction slot) phase awaited = AwaitedServing phase awaited
AwaitedOfService (EndOfDay header period) phase awaited = AwaitedServing phase awaited
AwaitedOfService (Display header results) phase awaited = AwaitedShowing phase awaited

-- the dialogue of what is served runs, and so many Acks and Nacks are awaited
pub record RunsService (service : Service) (talk : Option TalkFacts) (awaited : ℕ) : Type 0 where
  pub facts : TalkFacts
  pub talk_is : talk ≡ Some facts
  pub kind_is : IsKindOfService service facts.dialogue_kind
  pub awaited_is : AwaitedOfService service facts.phase awaited

-- no dialogue runs, and nothing is awaited
pub record RunsNone (talk : Option TalkFacts) (awaited : ℕ) : Type 0 where
  pub none : talk ≡ None
  pub awaited_is : awaited ≡ 0

-- the dialogue of a standing; where a terminal is ready, or set aside, none runs, but the Ack or Nack of a stop may still be awaited
abbrev pub IsDialogueOf : Standing → Option TalkFacts → ℕ → Type 0
IsDialogueOf (Unlinked due) talk awaited = RunsNone talk awaited
IsDialogueOf Registering talk awaited = RunsDialogue Registration talk awaited
IsDialogueOf Enquiring talk awaited = RunsDialogue Enquiry talk awaited
IsDialogueOf (Ready last) talk awaited = talk ≡ None
IsDialogueOf (Serving service last) talk awaited = RunsService service talk awaited
IsDialogueOf (Aside before reported) talk awaited = talk ≡ None

-- the terminal has the dialogue of its standing
abbrev pub HasItsDialogue : Terminal → Type 0
HasItsDialogue terminal = IsDialogueOf terminal.standing terminal.talk terminal.awaited

-- ---- all terminals

-- so has each terminal
abbrev pub AllHaveDialogues : Core → Type 0
AllHaveDialogues core = (number : ℕ) (terminal : Terminal) → slice_get core.terminals number ≡ Some terminal → HasItsDialogue terminal

-- so has each terminal but this one
abbrev pub OthersHaveDialogues : ℕ → Core → Type 0
OthersHaveDialogues but core = (number : ℕ) (terminal : Terminal) → number ≢ but → slice_get core.terminals number ≡ Some terminal → HasItsDialogue terminal

-- each has it as a run begins
abbrev pub NewCoreHasDialogues : Type 0
NewCoreHasDialogues = (setup : Setup) → AllHaveDialogues (new_core setup)

-- each has it after an item that cuts no connection
abbrev pub EachRowKeepsDialogues : Type 0
EachRowKeepsDialogues = (known : Known) (item : RoundItem) → AllHaveDialogues known.core → owes_cut (terminal_row known item).calls ≡ false → AllHaveDialogues (terminal_row known item).core

-- and after an event of a link, whatever dialogue its own terminal had: so a cut, with which its link is lost, leaves each with its own
abbrev pub EachLinkGivesDialogues : Type 0
EachLinkGivesDialogues = (known : Known) (number : ℕ) (event : LinkEvent) → OthersHaveDialogues number known.core → AllHaveDialogues (link_row known number event).core
