-- Which files of the journal a power failure leaves: along lawful logs, and from where a journal is to be opened or a record to be kept; and that an opening gives the journal in which records are kept.
use Rattle.std.specs.Prelude.{◌≡◌, Bool, true, false, not, ◌&&◌, List, [], ◌∷◌, ◌++◌, length, map, None}
use Rattle.gw_site.specs.Outside.{outside_of}
use Rattle.gw_site.specs.declared.turn.Turn.{Turn}
use Rattle.gw_site.specs.declared.turn.Turn.TheVariants.{Synced}
use Rattle.jrn_record.specs.Grammar.{record_body}
use Rattle.jrn_record.specs.Limits.{IsRecord}
use Rattle.jrn_record.specs.declared.records.Record.{Record}
use Rattle.jrn_log.specs.Foreign.{CanBeJournal, LeavesJournals, EndsClosed, append_turns}
use Rattle.jrn_log.specs.Journal.{IsAtRest, AreKept}
use Rattle.jrn_log.specs.JournalLogs.{HasGateAfter}
use Rattle.jrn_log.specs.JournalTurns.{first_gate}
use Rattle.jrn_log.specs.Slots.{AreSlots}
use Rattle.gw_owes.specs.Calls.{OwedCall, SendTill, SendPt, CutTill, CutPt, LinkPt, WriteBody, WriteGate, WriteFirstGate, Sync, keep_calls}
use Rattle.gw_rules.specs.Example.{IsCourseAlong, began, began_moves}
use Rattle.gw_rules.specs.Lawful.{IsCourse, turns_of, IsLawful}
use Rattle.gw_rules.specs.Opening.{opening_calls}
use Rattle.gw_rules.specs.RowExample.{terminal_setup, example_record, keep_view, gate_moves}
use Rattle.gw_rules.specs.Scene.{records_of}
use Rattle.gw_rules.specs.View.{View, Move, Begin, Read, Make, after, after_turn, view_from, at_first}

-- ---- lawful logs

-- a journal can have left the file, that of the last sync, and whatever a power failure leaves
pub record HasJournalFiles (log : List Turn) : Type 0 where
  pub file : CanBeJournal (outside_of log).file
  pub stable : CanBeJournal (outside_of log).stable
  pub images : LeavesJournals log

-- each lawful log has such files
abbrev pub EachHasJournalFiles : Type 0
EachHasJournalFiles = (log : List Turn) → IsLawful log → HasJournalFiles log

-- ---- calls on the disk

-- the call is on the disk
abbrev pub is_on_disk : OwedCall → Bool
is_on_disk (SendTill till reply) = false
is_on_disk (SendPt pt sending) = false
is_on_disk (CutTill till) = false
is_on_disk (CutPt pt) = false
is_on_disk (LinkPt pt) = false
is_on_disk (WriteBody slot the_record) = true
is_on_disk (WriteGate slot the_record) = true
is_on_disk WriteFirstGate = true
is_on_disk Sync = true

-- none of these calls is on the disk
abbrev pub spare_disk : List OwedCall → Bool
spare_disk [] = true
spare_disk (call ∷ calls) = not (is_on_disk call) && spare_disk calls

-- ---- a journal that is opened

-- no item that begins along the course owes a call on the disk
abbrev pub ItemsSpareDisk : View → List Move → Type 0
ItemsSpareDisk v [] = Unit {0}
ItemsSpareDisk v (Begin ∷ moves) = (spare_disk (after v Begin).calls ≡ true) × ItemsSpareDisk (after v Begin) moves
ItemsSpareDisk v (Read as_read ∷ moves) = ItemsSpareDisk (after v (Read as_read)) moves
ItemsSpareDisk v (Make turn ∷ moves) = ItemsSpareDisk (after_turn v turn) moves

-- Where a view owes that a journal is opened, each lawful course from it, as long as no item owes that a record is kept, leaves such files after each of its turns. It goes by views, so also from where no lawful log leads, as where another program has written the file.
abbrev pub OpeningLeavesJournalFiles : Type 0
OpeningLeavesJournalFiles =
    (log : List Turn) (v : View) (calls : List OwedCall) (moves : List Move) → v.scene.outside ≡ outside_of log → LeavesJournals log
    → v.calls ≡ opening_calls (length (outside_of log).file) ++ calls → spare_disk calls ≡ true → IsCourse v moves → ItemsSpareDisk v moves → HasJournalFiles (log ++ turns_of moves)

-- ---- a record that is kept

-- the view is one after this log, whose journal is between its calls and has exactly the records that are kept
pub record HasJournal (log : List Turn) (v : View) : Type 0 where
  pub outside_is : v.scene.outside ≡ outside_of log
  pub no_flight : v.scene.flight ≡ None
  pub at_rest : IsAtRest log (length v.scene.kept)
  pub kept : AreKept log (map record_body v.scene.kept)
  pub ends : EndsClosed (outside_of log).file (length v.scene.kept)

-- Where a view has a journal and owes that a record is kept in the next slot, each lawful course from it, as long as no item owes that another is kept, leaves such files after each of its turns, whichever they are.
abbrev pub KeepingLeavesJournals : Type 0
KeepingLeavesJournals =
    (log : List Turn) (v : View) (the_record : Record) (calls : List OwedCall) (moves : List Move) → HasJournal log v → IsRecord the_record
    → v.calls ≡ keep_calls (length v.scene.kept) the_record ++ calls → spare_disk calls ≡ true → IsCourse v moves → ItemsSpareDisk v moves → HasJournalFiles (log ++ turns_of moves)

-- once its body and its gate are written and synced, the view has the journal with this record too, and owes the later calls
pub record IsKept (log : List Turn) (v : View) (the_record : Record) (calls : List OwedCall) (turns : List Turn) : Type 0 where
  pub lawful : IsCourse v (map Make turns)
  pub journal : HasJournal (log ++ turns) (view_from v (map Make turns))
  pub kept_is : (view_from v (map Make turns)).scene.kept ≡ v.scene.kept ++ the_record ∷ []
  pub calls_are : (view_from v (map Make turns)).calls ≡ calls

-- so records may be kept one after the other
abbrev pub KeepingHasJournal : Type 0
KeepingHasJournal =
    (log : List Turn) (v : View) (the_record : Record) (calls : List OwedCall) → HasJournal log v → IsRecord the_record → v.calls ≡ keep_calls (length v.scene.kept) the_record ++ calls
    → IsKept log v the_record calls (append_turns (length v.scene.kept) (record_body the_record))

-- ---- an opening gives a journal

-- the opening is lawful, and after it the view has the journal with the records of the file, and owes the later calls
pub record IsOpened (log : List Turn) (v : View) (calls : List OwedCall) (turns : List Turn) : Type 0 where
  pub lawful : IsCourse v (map Make turns)
  pub journal : HasJournal (log ++ turns) (view_from v (map Make turns))
  pub kept_is : (view_from v (map Make turns)).scene.kept ≡ records_of v.scene
  pub calls_are : (view_from v (map Make turns)).calls ≡ calls

-- where a view owes that a journal is opened, on a file whose open slots hold the view's records, none of them truncated, its opening is lawful and gives it the journal with these
abbrev pub OpeningHasJournal : Type 0
OpeningHasJournal =
    (log : List Turn) (v : View) (calls : List OwedCall) → v.scene.outside ≡ outside_of log → LeavesJournals log
    → AreSlots (outside_of log).file (map record_body (records_of v.scene)) → HasGateAfter (outside_of log).file (length (records_of v.scene))
    → v.calls ≡ opening_calls (length (outside_of log).file) ++ calls → IsOpened log v calls (Synced ∷ first_gate (length (outside_of log).file))

-- ---- a closed example

-- a run begins and opens a journal on no file
abbrev pub journal_log : List Turn
journal_log = began terminal_setup

-- its moves are lawful and give the journal in which a record is kept
pub record OpenedHasJournal : Type 0 where
  pub lawful : IsCourseAlong journal_log (began_moves terminal_setup)
  pub journal : HasJournal journal_log (view_from at_first (began_moves terminal_setup))

-- a record is to be kept in its first slot
abbrev pub journal_view : View
journal_view = record keep_view { scene = record keep_view.scene { outside = outside_of journal_log } }

-- its body and its gate are written, and synced
abbrev pub kept_moves : List Move
kept_moves = gate_moves ++ Make Synced ∷ []

-- the course is lawful and keeps the record, and the file is its slot and a closed gate
pub record KeptFileIsJournal : Type 0 where
  pub has_journal : HasJournal journal_log journal_view
  pub lawful : IsCourse journal_view kept_moves
  pub kept_is : (view_from journal_view kept_moves).scene.kept ≡ example_record ∷ []
  pub file_is : (outside_of (journal_log ++ turns_of kept_moves)).file ≡ 165 ∷ (record_body example_record ++ 0 ∷ [])
  pub files : HasJournalFiles (journal_log ++ turns_of kept_moves)
