-- The records along lawful logs: at each moment they fold, and between items they have what each terminal's standing says.
use Rattle.std.specs.Prelude.{◌≡◌, ℕ, true, false, List, [], ◌++◌, All, slice_get, Some}
use Rattle.gw_base.specs.declared.setup.Setup.{Setup}
use Rattle.gw_site.specs.Image.{Image}
use Rattle.gw_site.specs.Outside.{outside_of}
use Rattle.gw_site.specs.declared.turn.Turn.{Turn}
use Rattle.sale_values.specs.declared.header.Header.{Header}
use Rattle.sale_values.specs.declared.names.Period.{Period}
use Rattle.jrn_record.specs.declared.records.Record.{Record}
use Rattle.jrn_log.specs.Slots.{AreSlots}
use Rattle.gw_ledger.specs.Fold.{AreFolded, AreBodiesOf}
use Rattle.gw_owes.specs.Calls.{records_kept}
use Rattle.gw_owes.specs.RecordLaws.{IsServedOpen, IsDayServed, HasNoneOpen, HasRoom, IsTerminalInOrder, IsReadItem, IsInOrder}
use Rattle.gw_owes.specs.declared.terminal.Service.TheVariants.{Transaction, EndOfDay}
use Rattle.gw_owes.specs.declared.terminal.Standing.TheVariants.{Ready, Serving}
use Rattle.gw_owes.specs.declared.terminal.Terminal.{Terminal}
use Rattle.gw_rules.specs.Lawful.{Stands}
use Rattle.gw_rules.specs.Scene.{records_of, known_in}
use Rattle.gw_rules.specs.Stage.{is_running, is_broken}
use Rattle.gw_rules.specs.TranscriptLaws.{cut_owed}
use Rattle.gw_rules.specs.View.{View}

-- ---- the records

-- the records once the calls that are owed at once are made: those of the file, and those that these calls keep
abbrev pub records_coming : View → List Record
records_coming v = records_of v.scene ++ records_kept v.calls

-- the records that are kept are folded, those of the file, and those once what is owed at once is made
pub record FoldAtOnce (v : View) : Type 0 where
  pub kept : AreFolded v.scene.kept
  pub file : AreFolded (records_of v.scene)
  pub coming : AreFolded (records_coming v)

-- so they are after each lawful log
abbrev pub EachLogFolds : Type 0
EachLogFolds = (log : List Turn) (v : View) → Stands log v → FoldAtOnce v

-- and so are those of whatever a power failure leaves
abbrev pub EachLogImageFolds : Type 0
EachLogImageFolds =
    (log : List Turn) (v : View) (file : List ℕ) (bodies : List (List ℕ)) → Stands log v → Image (outside_of log) file → AreSlots file bodies → (records : List Record) × AreBodiesOf bodies records

-- ---- while calls are owed

-- while the run goes on, a slot is left for the Outcome of each key that is open once what is owed at once is made, and for the Settled of each end of day that is served, and two for each request that waits
abbrev pub EachLogLeavesSlots : Type 0
EachLogLeavesSlots =
    (log : List Turn) (v : View) (setup : Setup) → Stands log v → v.scene.setup ≡ Some setup → is_running v.scene.stage ≡ true
    → HasRoom setup.slots (records_coming v) v.scene.core

-- and until a call on the disk fails, the records once what is owed at once is made have what the standing of each terminal says, but of one whose cut is owed
abbrev pub EachLogComesInOrder : Type 0
EachLogComesInOrder =
    (log : List Turn) (v : View) (pt : ℕ) (terminal : Terminal) → Stands log v → is_broken v.scene.stage ≡ false → slice_get v.scene.core.terminals pt ≡ Some terminal
    → cut_owed pt v.calls ≡ false → IsTerminalInOrder (records_coming v) terminal

-- what each item that is to come has of a till was read from its bytes
abbrev pub EachItemWasRead : Type 0
EachItemWasRead = (log : List Turn) (v : View) (setup : Setup) → Stands log v → v.scene.setup ≡ Some setup → All (IsReadItem setup) v.items

-- ---- between items

-- the run goes on, and no call is owed: the next item may begin, or the next poll come
pub record IsBetweenItems (v : View) : Type 0 where
  pub running : is_running v.scene.stage ≡ true
  pub calls : v.calls ≡ []

-- what is known is in order
abbrev pub EachLogIsInOrder : Type 0
EachLogIsInOrder = (log : List Turn) (v : View) (setup : Setup) → Stands log v → v.scene.setup ≡ Some setup → IsBetweenItems v → IsInOrder (known_in v.scene setup)

-- so none of the keys of a terminal that is ready is open, and its last trace number is none below that of its records
abbrev pub ReadyHasNoneOpen : Type 0
ReadyHasNoneOpen =
    (log : List Turn) (v : View) (pt : ℕ) (terminal : Terminal) (last : ℕ) → Stands log v → IsBetweenItems v → slice_get v.scene.core.terminals pt ≡ Some terminal → terminal.standing ≡ Ready last
    → HasNoneOpen v.scene.kept terminal.pt.poi last

-- and a payment or a reversal that a terminal serves is its one open key, in that slot, with the number before with which it was ready
abbrev pub ServedIsOpen : Type 0
ServedIsOpen =
    (log : List Turn) (v : View) (pt : ℕ) (terminal : Terminal) (slot last : ℕ) → Stands log v → IsBetweenItems v → slice_get v.scene.core.terminals pt ≡ Some terminal
    → terminal.standing ≡ Serving (Transaction slot) last → IsServedOpen v.scene.kept terminal.pt.poi last slot

-- and the key of an end of day that a terminal serves is unknown to the records, so that its Settled may come next; none of the terminal's keys is open
abbrev pub DayServedIsUnknown : Type 0
DayServedIsUnknown =
    (log : List Turn) (v : View) (pt : ℕ) (terminal : Terminal) (header : Header) (period : Period) (last : ℕ) → Stands log v → IsBetweenItems v → slice_get v.scene.core.terminals pt ≡ Some terminal
    → terminal.standing ≡ Serving (EndOfDay header period) last → IsDayServed v.scene.kept terminal.pt.poi last header period
