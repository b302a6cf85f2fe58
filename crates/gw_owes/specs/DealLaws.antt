-- The dialogue of what a terminal serves is that of a payment or of a reversal as its Intent says.
use Rattle.std.specs.Prelude.{◌≡◌, ℕ, ◌++◌, List, slice_get, Option, Some}
use Rattle.std.specs.Option.{option_map}
use Rattle.gw_base.specs.declared.setup.Setup.{Setup}
use Rattle.zvt_talk.specs.declared.dialogue_kind.DialogueKind.{DialogueKind}
use Rattle.zvt_talk.specs.declared.dialogue_kind.DialogueKind.TheVariants as kinds
use Rattle.zvt_talk.specs.Talk.{TalkFacts}
use Rattle.jrn_record.specs.declared.records.Deal.{Deal}
use Rattle.jrn_record.specs.declared.records.Deal.TheVariants as deals
use Rattle.jrn_record.specs.declared.records.Intent.{Intent as TheIntent}
use Rattle.jrn_record.specs.declared.records.Record.{Record}
use Rattle.gw_ledger.specs.Slots.{intent_at}
use Rattle.gw_owes.specs.declared.terminal.Service.{Service}
use Rattle.gw_owes.specs.declared.terminal.Service.TheVariants.{Transaction, EndOfDay, Display}
use Rattle.gw_owes.specs.declared.terminal.Standing.{Standing}
use Rattle.gw_owes.specs.declared.terminal.Standing.TheVariants.{Unlinked, Registering, Enquiring, Ready, Serving, Aside}
use Rattle.gw_owes.specs.declared.terminal.Terminal.{Terminal}
use Rattle.gw_owes.specs.Calls.{records_kept}
use Rattle.gw_owes.specs.Core.{Core, new_core}
use Rattle.gw_owes.specs.Items.{RoundItem}
use Rattle.gw_owes.specs.Links.{LinkEvent, link_row}
use Rattle.gw_owes.specs.Row.{Known}
use Rattle.gw_owes.specs.TerminalRows.{terminal_row}

-- the dialogue of a deal
abbrev pub kind_of_deal : Deal → DialogueKind
kind_of_deal deals.Payment = kinds.Payment
kind_of_deal deals.Reversal = kinds.Reversal

-- the Intent of what is served is in this slot, and the dialogue that runs is that of the Intent's deal
pub record RunsItsDeal (kept : List Record) (slot : ℕ) (talk : Option TalkFacts) : Type 0 where
  pub intent : TheIntent
  pub intent_is : intent_at kept slot ≡ Some intent
  pub kind_is : option_map (λ (facts : TalkFacts). facts.dialogue_kind) talk ≡ Some (kind_of_deal intent.what)

-- so it is of a payment and a reversal; an end of day and a display have no Intent
abbrev pub ServesItsDeal : List Record → Service → Option TalkFacts → Type 0
ServesItsDeal kept (Transaction slot) talk = RunsItsDeal kept slot talk
ServesItsDeal kept (EndOfDay header period) talk = Unit {0}
ServesItsDeal kept (Display header results) talk = Unit {0}

-- so it is of what a terminal of this standing serves
abbrev pub HasItsDeal : List Record → Standing → Option TalkFacts → Type 0
HasItsDeal kept (Unlinked due) talk = Unit {0}
HasItsDeal kept Registering talk = Unit {0}
HasItsDeal kept Enquiring talk = Unit {0}
HasItsDeal kept (Ready last) talk = Unit {0}
HasItsDeal kept (Serving service last) talk = ServesItsDeal kept service talk
HasItsDeal kept (Aside before reported) talk = Unit {0}

-- and of each terminal
abbrev pub AllHaveDeals : List Record → Core → Type 0
AllHaveDeals kept core = (number : ℕ) (terminal : Terminal) → slice_get core.terminals number ≡ Some terminal → HasItsDeal kept terminal.standing terminal.talk

-- it is so as a run begins, whatever the records have
abbrev pub NewCoreHasDeals : Type 0
NewCoreHasDeals = (setup : Setup) (kept : List Record) → AllHaveDeals kept (new_core setup)

-- an item leaves it so, with the records that its row keeps
abbrev pub EachRowKeepsDeals : Type 0
EachRowKeepsDeals = (known : Known) (item : RoundItem) → AllHaveDeals known.kept known.core → AllHaveDeals (known.kept ++ records_kept (terminal_row known item).calls) (terminal_row known item).core

-- so does an event of a link, for which no record is kept
abbrev pub EachLinkKeepsDeals : Type 0
EachLinkKeepsDeals = (known : Known) (number : ℕ) (event : LinkEvent) → AllHaveDeals known.kept known.core → AllHaveDeals known.kept (link_row known number event).core
