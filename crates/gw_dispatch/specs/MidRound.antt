-- What the loop holds in a round: its tills, and its terminals beside the links of the log.
use Rattle.std.specs.Prelude.{◌≡◌, ℕ, ◌+◌, ℤ, Bool, true, false, List, [], ◌∷◌, ◌++◌, length, map, zero, suc, slice_get, Option, Some, None}
use Rattle.gw_base.specs.declared.key.Key.{Key}
use Rattle.gw_base.specs.declared.setup.Setup.{Setup}
use Rattle.gw_site.specs.Outside.{Outside, outside_after, is_connected, heard_on}
use Rattle.gw_site.specs.declared.turn.Turn.TheVariants.{HeardPt, Lost}
use Rattle.jrn_record.specs.declared.records.Record.{Record}
use Rattle.zvt_apdu.specs.Decode.{DecodedApdu, decode_apdu}
use Rattle.zvt_apdu.specs.DecodeStream.{decode_apdus}
use Rattle.gw_owes.specs.declared.terminal.Terminal.{Terminal}
use Rattle.gw_owes.specs.Calls.{OwedCall}
use Rattle.gw_owes.specs.Core.{Core, Wait}
use Rattle.gw_owes.specs.Dialogues.{AllHaveDialogues}
use Rattle.gw_owes.specs.Events.{pt_bytes_items, waits_by_deadline}
use Rattle.gw_owes.specs.Items.{RoundItem, LinkLost, Late, Overdue, Due}
use Rattle.gw_owes.specs.Links.{is_linked}
use Rattle.gw_rules.specs.View.{View}
use Rattle.gw_dispatch.specs.Round.{Pending, HoldsTills, known_at}
use Rattle.gw_dispatch.specs.declared.run_state.RunState.{RunState}
use Rattle.gw_dispatch.specs.declared.tills.Till.{Till}

-- ---- terminals and links

-- the terminal is linked, where there is one
abbrev pub is_linked_in : Option Terminal → Bool
is_linked_in None = false
is_linked_in (Some terminal) = is_linked terminal.standing

-- a terminal is linked exactly where the log has its link
abbrev pub AreLinked : Core → Outside → Type 0
AreLinked core o = (number : ℕ) → is_connected o.links number ≡ is_linked_in (slice_get core.terminals number)

-- where this terminal is linked its reader holds the rest after the APDUs that were heard
abbrev pub HearsAt : List (List ℕ) → Outside → ℕ → Type 0
HearsAt readers o number = is_connected o.links number ≡ true → slice_get readers number ≡ Some (decode_apdus (heard_on o.links number)).rest

-- so it is of each terminal
abbrev pub AllHear : List (List ℕ) → Outside → Type 0
AllHear readers o = (number : ℕ) → HearsAt readers o number

-- Inner: on each link that is there, this was heard, by the terminal's number
abbrev pub AreHeard : (ℕ → List ℕ) → Outside → Type 0
AreHeard heard o = (number : ℕ) → is_connected o.links number ≡ true → heard_on o.links number ≡ heard number

-- each terminal has the dialogue of its standing, and a reader that holds less than an APDU
pub record AreReady (core : Core) (readers : List (List ℕ)) : Type 0 where
  pub dialogues : AllHaveDialogues core
  pub count : length readers ≡ length core.terminals
  pub waits : (number : ℕ) (bytes : List ℕ) → slice_get readers number ≡ Some bytes → decode_apdu bytes ≡ DecodedApdu.Incomplete

-- ---- a round

-- Inner: in a round with this setup at this moment, in which this is remembered and kept, these calls are owed, and then these items come; the loop holds its tills, the links are those that are remembered, and this holds of the outside
pub record MidRound (setup : Setup) (core : Core) (kept : List Record) (tills : List Till) (polls : ℕ) (now : ℤ) (Also : Outside → Type 0) (calls : List OwedCall) (items : List RoundItem) (v : View) : Type 0 where
  pub outside : Outside
  pub round : Pending (known_at setup core kept now) polls outside calls items v
  pub tills_are : HoldsTills tills outside
  pub linked : AreLinked core outside
  pub also : Also outside

-- Inner: so it is with what the loop holds
abbrev pub HeldRound : Setup → RunState → List Till → ℕ → ℤ → (Outside → Type 0) → List OwedCall → List RoundItem → View → Type 0
HeldRound setup state tills polls now Also calls items v = MidRound setup state.core state.records.ledger.records tills polls now Also calls items v

-- ---- events of a terminal

-- Inner: before the event of a terminal that is linked
pub record BeforePt (core : Core) (readers : List (List ℕ)) (tills : List Till) (pt : ℕ) (before : Outside) : Type 0 where
  pub tills_are : HoldsTills tills before
  pub linked : AreLinked core before
  pub hear : AllHear readers before
  pub connected : is_connected before.links pt ≡ true

-- Inner: a terminal has sent this chunk, and nothing of it was handled yet
abbrev pub BeforePtChunk : Setup → Core → List Record → List (List ℕ) → List Till → ℕ → ℤ → ℕ → List ℕ → List RoundItem → View → Type 0
BeforePtChunk setup core kept readers tills polls now pt chunk items v =
    (before : Outside) × BeforePt core readers tills pt before × Pending (known_at setup core kept now) polls (outside_after before (HeardPt pt chunk)) [] (pt_bytes_items pt (heard_on before.links pt) chunk ++ items) v

-- Inner: a terminal has closed its connection, and nothing of it was handled yet
abbrev pub BeforePtClosed : Setup → Core → List Record → List (List ℕ) → List Till → ℕ → ℤ → ℕ → List RoundItem → View → Type 0
BeforePtClosed setup core kept readers tills polls now pt items v =
    (before : Outside) × BeforePt core readers tills pt before × Pending (known_at setup core kept now) polls (outside_after before (Lost pt)) [] (LinkLost pt ∷ items) v

-- ---- what may be due

-- Inner: an item for each of so many terminals, the first of which has this number
abbrev pub each_terminal : ℕ → ℕ → (ℕ → RoundItem) → List RoundItem
each_terminal number zero item = []
each_terminal number (suc count) item = item number ∷ each_terminal (number + 1) count item

-- Inner: an item for each of these keys, under which requests wait or have waited
abbrev pub overdue_items : List Key → List RoundItem
overdue_items keys = map Overdue keys

-- Inner: what may be due of so many terminals, and of the requests under these keys
abbrev pub due_items : ℕ → List Key → List RoundItem
due_items count keys = each_terminal 0 count Late ++ (overdue_items keys ++ each_terminal 0 count Due)

-- Inner: the keys of the requests that wait, by their deadlines
abbrev pub keys_waiting : Core → List Key
keys_waiting core = map (λ (wait : Wait). wait.key) (waits_by_deadline core.waits)
