-- What the journal's file, and whatever a power failure leaves of it, have at each moment of a log along which records are kept, whichever rows owe that.
use Rattle.std.specs.Prelude.{◌≡◌, ◌≢◌, ◌⊎◌, ◌+◌, ◌<◌, ◌≤◌, ℕ, Bool, true, false, IsTrue, List, [], ◌∷◌, ◌++◌, length, map, Some}
use Rattle.gw_base.specs.declared.setup.Setup.{Setup}
use Rattle.gw_site.specs.Image.{Image}
use Rattle.gw_site.specs.Outside.{outside_of}
use Rattle.gw_site.specs.declared.turn.Turn.{Turn}
use Rattle.gw_site.specs.declared.turn.Turn.TheVariants.{Start, Synced}
use Rattle.jrn_record.specs.Grammar.{record_body}
use Rattle.jrn_record.specs.Limits.{IsRecord}
use Rattle.jrn_record.specs.declared.records.Record.{Record}
use Rattle.jrn_log.specs.Journal.{AreKept}
use Rattle.jrn_log.specs.JournalLogs.{HasGateAfter}
use Rattle.jrn_log.specs.JournalTurns.{first_gate}
use Rattle.jrn_log.specs.Slots.{AreSlots, IsTruncatedSlot, IsFileTooLong}
use Rattle.gw_owes.specs.Calls.{OwedCall, keep_calls}
use Rattle.gw_owes.specs.Items.{RoundItem}
use Rattle.gw_owes.specs.ReadAs.{ReadAs}
use Rattle.gw_owes.specs.Row.{Row}
use Rattle.gw_rules.specs.JournalFiles.{HasJournalFiles, spare_disk, HasJournal, IsOpened}
use Rattle.gw_rules.specs.Lawful.{AllowedTurn, Begins, IsRead}
use Rattle.gw_rules.specs.Opening.{Opens, kept_of, opening_calls}
use Rattle.gw_rules.specs.Scene.{Scene, records_of}
use Rattle.gw_rules.specs.Stage.{AtPoll, is_round, is_running}
use Rattle.gw_rules.specs.View.{View, Read, begun, started, after, after_turn, at_first}

-- ---- records

-- what a ledger asks of records: which record may follow others, and how many keys records leave open
pub record RecordRules : Type 0 where
  pub may_follow : List Record → Record → Bool
  pub open_keys : List Record → ℕ
  -- no record leaves none
  pub none_open : open_keys [] ≡ 0

-- each of the records lies within its limits, and may follow those before it
abbrev pub AreInSequence : RecordRules → List Record → List Record → Type 0
AreInSequence rules before [] = Unit {0}
AreInSequence rules before (the_record ∷ rest) = IsRecord the_record × IsTrue (rules.may_follow before the_record) × AreInSequence rules (before ++ the_record ∷ []) rest

-- the slots that these records need: one for each, and one for each key that they leave open
abbrev pub slots_needed : RecordRules → List Record → ℕ
slots_needed rules records = length records + rules.open_keys records

-- ---- a gateway that keeps a journal

-- the run's setup has the slots that the records need once this one is kept too
pub record HasSlotFor (rules : RecordRules) (scene : Scene) (the_record : Record) : Type 0 where
  pub setup : Setup
  pub setup_is : scene.setup ≡ Some setup
  pub room : slots_needed rules (scene.kept ++ the_record ∷ []) ≤ setup.slots

-- these calls keep one record in the next slot, and no later one is on the disk; the record lies within its limits, may follow those that are kept, and there is room for it
pub record KeepsRecord (rules : RecordRules) (scene : Scene) (calls : List OwedCall) : Type 0 where
  pub the_record : Record
  pub more : List OwedCall
  pub calls_are : calls ≡ keep_calls (length scene.kept) the_record ++ more
  pub spares : spare_disk more ≡ true
  pub within : IsRecord the_record
  pub follows : IsTrue (rules.may_follow scene.kept the_record)
  pub room : HasSlotFor rules scene the_record

-- these calls keep one record at most
abbrev pub KeepsAtMostOne : RecordRules → Scene → List OwedCall → Type 0
KeepsAtMostOne rules scene calls = (spare_disk calls ≡ true) ⊎ KeepsRecord rules scene calls

-- a run opens the journal on this file, which is refused or not
abbrev pub opens_journal : List ℕ → Bool → Opens
opens_journal file refused = record { calls = opening_calls (length file); refused = refused }

-- From one log and the view at its end, a gateway that keeps a journal goes on to another. Each run that begins opens the journal, an item that begins may owe any row whose calls keep one record at most, and every other move is one that may come next.
pub data KeepsOn (rules : RecordRules) (base : List Turn) (first : View) : List Turn → View → Type 0 where
  -- no move is made
  NoMoves : KeepsOn rules base first base first
  -- a run begins, and opens the journal; whether its file is refused is left open
  RunBegins : (log : List Turn) (v : View) (setup : Setup) (refused : Bool) → KeepsOn rules base first log v → AllowedTurn v (Start setup)
      → KeepsOn rules base first (log ++ Start setup ∷ []) (started v.scene setup (opens_journal v.scene.outside.file refused))
  -- a turn comes with which no run begins
  TurnComes : (log : List Turn) (v : View) (turn : Turn) → KeepsOn rules base first log v → AllowedTurn v turn → ((setup : Setup) → turn ≢ Start setup)
      → KeepsOn rules base first (log ++ turn ∷ []) (after_turn v turn)
  -- the first item is read
  MessageIsRead : (log : List Turn) (v : View) (as_read : ReadAs) → KeepsOn rules base first log v → IsRead v as_read → KeepsOn rules base first log (after v (Read as_read))
  -- the first item begins, and owes a row
  ItemBegins : (log : List Turn) (v : View) (item : RoundItem) (items : List RoundItem) (row : Row) → KeepsOn rules base first log v → Begins v → v.items ≡ item ∷ items
      → KeepsAtMostOne rules v.scene row.calls → KeepsOn rules base first log (begun v.scene row items)

-- the log is one of a gateway that keeps a journal, and this is the view at its end
abbrev pub KeepsJournal : RecordRules → List Turn → View → Type 0
KeepsJournal rules log v = KeepsOn rules [] at_first log v

-- ---- what is kept

-- the records that are kept are what the slots of the stable file spell, and those of the file are these and then the one in flight
pub record FileHasKept (log : List Turn) (scene : Scene) : Type 0 where
  pub stable : AreKept log (map record_body scene.kept)
  pub file : AreSlots (outside_of log).file (map record_body (records_of scene))

-- whatever a power failure leaves has the records that are kept, and then the one in flight exactly where its gate is open
abbrev pub ImagesHaveKept : List Turn → Scene → Type 0
ImagesHaveKept log scene = (file : List ℕ) → Image (outside_of log) file → AreSlots file (map record_body (kept_of scene file))

-- whatever a power failure leaves has no truncated slot
abbrev pub NoneTruncated : List Turn → Type 0
NoneTruncated log = (file : List ℕ) (slot : ℕ) → Image (outside_of log) file → IsTruncatedSlot file slot → ⊥

-- the bodies are those of records in order
pub record AreOrderedBodies (rules : RecordRules) (bodies : List (List ℕ)) : Type 0 where
  pub records : List Record
  pub bodies_are : bodies ≡ map record_body records
  pub in_order : AreInSequence rules [] records

-- whatever a power failure leaves has in each open slot a record within its limits, which may follow those before it
abbrev pub NoneBad : RecordRules → List Turn → Type 0
NoneBad rules log = (file : List ℕ) (bodies : List (List ℕ)) → Image (outside_of log) file → AreSlots file bodies → AreOrderedBodies rules bodies

-- a run of the log began with this setup
pub record RanWith (setup : Setup) (log : List Turn) : Type 0 where
  pub before : List Turn
  pub rest : List Turn
  pub log_is : log ≡ before ++ Start setup ∷ rest

-- a run of the log had more slots than these
pub record HadMoreSlots (slots : ℕ) (log : List Turn) : Type 0 where
  pub setup : Setup
  pub ran : RanWith setup log
  pub more : slots < setup.slots

-- whatever a power failure leaves is too long for so many slots only where a run had more
abbrev pub LongForFewerSlots : List Turn → Type 0
LongForFewerSlots log = (file : List ℕ) (slots : ℕ) → Image (outside_of log) file → IsFileTooLong slots file → HadMoreSlots slots log

-- the records that a power failure has left need more than so many slots only where a run had more
abbrev pub FullForFewerSlots : RecordRules → List Turn → Scene → Type 0
FullForFewerSlots rules log scene = (file : List ℕ) (slots : ℕ) → Image (outside_of log) file → slots < slots_needed rules (kept_of scene file) → HadMoreSlots slots log

-- all of this, of one log and the scene after it
pub record HasKept (rules : RecordRules) (log : List Turn) (scene : Scene) : Type 0 where
  pub file : FileHasKept log scene
  pub images : ImagesHaveKept log scene
  pub truncated : NoneTruncated log
  pub bad : NoneBad rules log
  pub long : LongForFewerSlots log
  pub full : FullForFewerSlots rules log scene

-- ---- laws

-- at each moment, the records that are kept are what the slots of the stable file spell
abbrev pub EachKeepsFile : Type 0
EachKeepsFile = (rules : RecordRules) (log : List Turn) (v : View) → KeepsJournal rules log v → FileHasKept log v.scene

-- at each moment, whatever a power failure leaves has the records that are kept, and then at most the one in flight
abbrev pub EachImageHasKept : Type 0
EachImageHasKept = (rules : RecordRules) (log : List Turn) (v : View) → KeepsJournal rules log v → ImagesHaveKept log v.scene

-- no record that is kept is ever lost: whatever a power failure leaves at any later moment has it in its slot
abbrev pub NoneKeptIsLost : Type 0
NoneKeptIsLost =
    (rules : RecordRules) (before log : List Turn) (first v : View) (file : List ℕ) → KeepsJournal rules before first → KeepsOn rules before first log v → Image (outside_of log) file
    → (more : List Record) × AreSlots file (map record_body (first.scene.kept ++ more))

-- no opening finds a truncated slot
abbrev pub NeverTruncated : Type 0
NeverTruncated = (rules : RecordRules) (log : List Turn) (v : View) → KeepsJournal rules log v → NoneTruncated log

-- none finds a slot that isn't a record's, or a record that may not follow those before it
abbrev pub NeverBad : Type 0
NeverBad = (rules : RecordRules) (log : List Turn) (v : View) → KeepsJournal rules log v → NoneBad rules log

-- the file is too long only for a setup with fewer slots than one before it
abbrev pub LongOnlyWithFewerSlots : Type 0
LongOnlyWithFewerSlots = (rules : RecordRules) (log : List Turn) (v : View) → KeepsJournal rules log v → LongForFewerSlots log

-- and only for such a setup fewer slots are free than keys open
abbrev pub FullOnlyWithFewerSlots : Type 0
FullOnlyWithFewerSlots = (rules : RecordRules) (log : List Turn) (v : View) → KeepsJournal rules log v → FullForFewerSlots rules log v.scene

-- while a round goes on and no call on the disk is owed, the view has its journal, in which the next record may be kept
abbrev pub EachRoundHasJournal : Type 0
EachRoundHasJournal = (rules : RecordRules) (log : List Turn) (v : View) → KeepsJournal rules log v → is_round v.scene.stage ≡ true → spare_disk v.calls ≡ true → HasJournal log v

-- a run that begins may make its opening, and has the journal with the records of the file then
abbrev pub EachStartOpensJournal : Type 0
EachStartOpensJournal =
    (rules : RecordRules) (log : List Turn) (v : View) (setup : Setup) → KeepsJournal rules log v → IsOpened (log ++ Start setup ∷ []) (after_turn v (Start setup)) [] (Synced ∷ first_gate (length v.scene.outside.file))

-- the file, that of the last sync, and whatever a power failure leaves are files that a journal can have left
abbrev pub EachKeepsJournalFiles : Type 0
EachKeepsJournalFiles = (rules : RecordRules) (log : List Turn) (v : View) → KeepsJournal rules log v → HasJournalFiles log

-- ---- a file that is handed in

-- The view is one after this log, whose files have exactly its records, whoever wrote them and in whichever order. Whatever a power failure leaves of them has these records and no truncated slot, and a journal can have left it.
pub record HasFiles (log : List Turn) (v : View) : Type 0 where
  pub outside_is : v.scene.outside ≡ outside_of log
  pub files : HasJournalFiles log
  pub kept : FileHasKept log v.scene
  pub images : ImagesHaveKept log v.scene
  pub none_truncated : (file : List ℕ) → Image (outside_of log) file → HasGateAfter file (length (kept_of v.scene file))

-- From such files, between runs: the runs that come, which open them and keep records in them, leave such files after each turn and each item.
abbrev pub HandedInKeepsFiles : Type 0
HandedInKeepsFiles =
    (rules : RecordRules) (base log : List Turn) (first v : View) → HasFiles base first → is_running first.scene.stage ≡ false → first.calls ≡ [] → KeepsOn rules base first log v → HasFiles log v

-- so do they where a run owes that it opens them
abbrev pub OpeningKeepsFiles : Type 0
OpeningKeepsFiles =
    (rules : RecordRules) (base log : List Turn) (first v : View) → HasFiles base first → first.scene.stage ≢ AtPoll → first.calls ≡ opening_calls (length (outside_of base).file) → KeepsOn rules base first log v → HasFiles log v

-- and where one has its journal, and owes that a record is kept in the next slot
abbrev pub KeepingKeepsFiles : Type 0
KeepingKeepsFiles =
    (rules : RecordRules) (base log : List Turn) (first v : View) (the_record : Record) (calls : List OwedCall) → HasJournal base first → first.scene.stage ≢ AtPoll → IsRecord the_record
    → first.calls ≡ keep_calls (length first.scene.kept) the_record ++ calls → spare_disk calls ≡ true → KeepsOn rules base first log v → HasFiles log v
