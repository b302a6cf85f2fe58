-- The drill: its log, what it counts and prints, and how it ends.
use Rattle.std.specs.Prelude.{◌≡◌, ◌⊎◌, ℕ, List, [], ◌∷◌, ◌++◌, map, Some}
use Rattle.gw_bytes.specs.Bytes.{IsPrefix}
use Rattle.gw_site.specs.Steps.{PowerBack, steps_of, turns_of_steps}
use Rattle.gw_site.specs.declared.turn.Turn.{Turn}
use Rattle.jrn_record.specs.Grammar.{record_body}
use Rattle.jrn_record.specs.declared.records.Record.{Record}
use Rattle.jrn_log.specs.Journal.{AreKept}
use Rattle.gw_ledger.specs.Sums.{tally_of}
use Rattle.gw_script.specs.site.Drill.{drill_turns}
use Rattle.gw_rules.specs.Acts.{Act, taken_of}
use Rattle.gw_books.specs.PastLaws.{AgreesThroughout}
use Rattle.gw_drill.specs.Counts.{counts_of, counts_text}
use Rattle.gw_drill.specs.declared.counts.Counts.{Counts}
use Rattle.gw_drill.specs.DrillBooks.{AreHonest, drill_book, drill_setup}
use Rattle.gw_run.specs.ScriptLog.{HasDone, IsStopped}
use Rattle.gw_run.specs.Top.{IfBytesObserved, HasRisen, Stream, status_of, tail_of}
use Rattle.gw_run.specs.declared.ending.Ending.{Ending}
use Rattle.gw_run.specs.declared.ending.Ending.TheVariants.{Played, Words, Long, Line as AtLine, Input, NotOpened, Memory, OutputFailed, Disk, LongJournal, CutJournal, BadSlot}

-- ---- the log

-- the log of the drill with these two numbers: its gateway has done this, its steps have the turns that the drill gives them, it was played to its end, and no power failure waits to be over
pub record IsDrillLog (from payments : ℕ) (log : List Turn) : Type 0 where
  pub acts : List Act
  pub done : HasDone drill_setup acts log
  pub turns : drill_turns from payments (steps_of (taken_of acts)) ≡ turns_of_steps (taken_of acts)
  pub ends : IsStopped log
  pub power : drill_turns from payments (steps_of (taken_of acts) ++ PowerBack ∷ []) ≡ turns_of_steps (taken_of acts)

-- ---- what is counted and printed

-- the drill with these two numbers has counted this: of its log, of the records that this keeps, and of the books of its terminals, which are honest for it
pub record HasCounted (from payments : ℕ) (counts : Counts) : Type 0 where
  pub log : List Turn
  pub log_is : IsDrillLog from payments log
  -- the headline, of each prefix of the log
  pub agrees : AgreesThroughout log
  pub books : AreHonest from payments log
  pub kept : List Record
  pub are_kept : AreKept log (map record_body kept)
  pub counts_are : counts ≡ counts_of (tally_of kept) (drill_book from payments 0 log) (drill_book from payments 1 log)

-- all that a drill prints that was played to its end: the six lines and the status line
abbrev pub drill_text : Counts → List ℕ
drill_text counts = counts_text counts ++ tail_of Played

-- so it is of what the drill has counted
abbrev pub IsCountsText : ℕ → ℕ → List ℕ → Type 0
IsCountsText from payments text = (counts : Counts) × HasCounted from payments counts × (text ≡ drill_text counts)

-- the table of what is printed: what a drill that ends so prints, if no write fails; it has no other end
abbrev pub DrillPrints : ℕ → ℕ → Ending → List ℕ → Type 0
DrillPrints from payments Played text = IsCountsText from payments text
DrillPrints from payments Words text = ⊥
DrillPrints from payments Long text = ⊥
DrillPrints from payments (AtLine line) text = ⊥
DrillPrints from payments Input text = ⊥
DrillPrints from payments NotOpened text = ⊥
DrillPrints from payments Memory text = text ≡ tail_of Memory
DrillPrints from payments OutputFailed text = ⊥
DrillPrints from payments Disk text = ⊥
DrillPrints from payments (LongJournal size) text = ⊥
DrillPrints from payments (CutJournal slot) text = ⊥
DrillPrints from payments (BadSlot slot) text = ⊥

-- a prefix of what a drill prints
pub record IsPartOfDrill (from payments : ℕ) (text : List ℕ) : Type 0 where
  pub ending : Ending
  pub whole : List ℕ
  pub prints : DrillPrints from payments ending whole
  pub prefix : IsPrefix text whole

-- what was printed by the end of a drill: what the table says of it; or, where a write has failed, a prefix of that of another end
abbrev pub DrillPrinted : ℕ → ℕ → Ending → List ℕ → Type 0
DrillPrinted from payments ending text = DrillPrints from payments ending text ⊎ ((ending ≡ OutputFailed) × IsPartOfDrill from payments text)

-- ---- how it ends

-- the cause of each end: all was played, and counted; memory was refused; or a write has failed. It has no other end
abbrev pub DrillCause : ℕ → ℕ → Ending → Stream → Type 0
DrillCause from payments Played out = (counts : Counts) × HasCounted from payments counts
DrillCause from payments Words out = ⊥
DrillCause from payments Long out = ⊥
DrillCause from payments (AtLine line) out = ⊥
DrillCause from payments Input out = ⊥
DrillCause from payments NotOpened out = ⊥
DrillCause from payments Memory out = Unit {0}
DrillCause from payments OutputFailed out = HasRisen out
DrillCause from payments Disk out = ⊥
DrillCause from payments (LongJournal size) out = ⊥
DrillCause from payments (CutJournal slot) out = ⊥
DrillCause from payments (BadSlot slot) out = ⊥

-- the drill with these two numbers has ended so: its status, the cause, and what was printed, where it is observed
pub record HasDrilled (status from payments : ℕ) (out : Stream) : Type 0 where
  pub ending : Ending
  pub status_is : status ≡ status_of ending
  pub cause : DrillCause from payments ending out
  pub output : IfBytesObserved out.before (λ written. (text : List ℕ) × (out.after ≡ Some (written ++ text)) × DrillPrinted from payments ending text)
