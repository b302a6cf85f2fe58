-- A closed example of a log along which records are kept: two runs, and a power failure between them while a record is in flight.
use Rattle.std.specs.Prelude.{◌≡◌, ◌<◌, ℕ, pos, false, true, List, [], ◌∷◌, ◌++◌, length, map, Some, refl}
use Rattle.gw_site.specs.Outside.{outside_of}
use Rattle.gw_site.specs.declared.turn.Turn.{Turn}
use Rattle.gw_site.specs.declared.turn.Turn.TheVariants.{Start, Polled, Synced, Crash}
use Rattle.jrn_record.specs.Grammar.{record_body}
use Rattle.jrn_log.specs.JournalTurns.{body_write, gate_write, first_gate_write}
use Rattle.jrn_log.specs.Slots.{IsFileTooLong}
use Rattle.gw_owes.specs.Calls.{WriteBody, WriteGate, Sync, keep_calls}
use Rattle.gw_owes.specs.Items.{Due}
use Rattle.gw_owes.specs.Row.{Row, becoming}
use Rattle.gw_rules.specs.JournalFiles.{spare_disk}
use Rattle.gw_rules.specs.KeptLaws.{RecordRules, slots_needed, KeepsAtMostOne, opens_journal, KeepsOn, KeepsJournal}
use Rattle.gw_rules.specs.Opening.{kept_of}
use Rattle.gw_rules.specs.RowExample.{terminal_setup, example_record}
use Rattle.gw_rules.specs.Scene.{Scene}
use Rattle.gw_rules.specs.Stage.{is_round}
use Rattle.gw_rules.specs.View.{View, Make, begun, started, view_from, at_first}

-- any record may follow any others, and each leaves a key open, as those of payments do that aren't resolved
abbrev pub each_open : RecordRules
each_open = record { may_follow = λ before the_record. true; open_keys = λ records. length records; none_open = refl }

-- an item owes that a record is kept in the next slot
abbrev pub keeping_row : Scene → Row
keeping_row scene = becoming scene.core (keep_calls (length scene.kept) example_record)

-- the turns of a first run after its start: it opens the journal on no file and is polled
abbrev pub new_journal_turns : List Turn
new_journal_turns = Synced ∷ first_gate_write ∷ Synced ∷ Polled (pos 0) ∷ []

-- the view after them
abbrev pub new_journal_view : View
new_journal_view = view_from (started at_first.scene terminal_setup (opens_journal [] false)) (map Make new_journal_turns)

-- the file with the record, and the closed gate after it
abbrev pub one_record_file : List ℕ
one_record_file = 165 ∷ (record_body example_record ++ 0 ∷ [])

-- the record's body and its gate are written, and then the power fails and leaves both
abbrev pub lost_power_turns : List Turn
lost_power_turns = body_write 0 (record_body example_record) ∷ Synced ∷ gate_write 0 ∷ Crash one_record_file ∷ []

-- the view after them, from where the first item has begun
abbrev pub failed_view : View
failed_view = view_from (begun new_journal_view.scene (keeping_row new_journal_view.scene) (Due 0 ∷ [])) (map Make lost_power_turns)

-- a second run opens the journal on that file and is polled
abbrev pub second_run_turns : List Turn
second_run_turns = Synced ∷ Polled (pos 1) ∷ []

-- the log up to this poll
abbrev pub second_run_log : List Turn
second_run_log = Start terminal_setup ∷ (new_journal_turns ++ lost_power_turns ++ Start terminal_setup ∷ second_run_turns)

-- the view after it
abbrev pub second_run_view : View
second_run_view = view_from (started failed_view.scene terminal_setup (opens_journal one_record_file false)) (map Make second_run_turns)

-- the same record once more, up to where it is in flight
abbrev pub flight_turns : List Turn
flight_turns = body_write 1 (record_body example_record) ∷ Synced ∷ gate_write 1 ∷ []

-- the log up to there
abbrev pub flight_log : List Turn
flight_log = second_run_log ++ flight_turns

-- the view after it
abbrev pub flight_view : View
flight_view = view_from (begun second_run_view.scene (keeping_row second_run_view.scene) (Due 0 ∷ [])) (map Make flight_turns)

-- In the second run the record that was in flight as the power failed is kept, and a round goes on in which the next may be kept. Later there is one kept and one in flight. The file is then too long for a setup with one slot, and its records need more than three.
pub record FlightIsKept : Type 0 where
  pub second_run : KeepsJournal each_open second_run_log second_run_view
  pub kept_is : second_run_view.scene.kept ≡ example_record ∷ []
  pub round : is_round second_run_view.scene.stage ≡ true
  pub spares : spare_disk second_run_view.calls ≡ true
  pub goes_on : KeepsOn each_open second_run_log second_run_view flight_log flight_view
  pub keeps : KeepsJournal each_open flight_log flight_view
  pub still_kept : flight_view.scene.kept ≡ example_record ∷ []
  pub flight_is : flight_view.scene.flight ≡ Some example_record
  pub file_is : (outside_of flight_log).file ≡ 165 ∷ (record_body example_record ++ 165 ∷ (record_body example_record ++ 0 ∷ []))
  pub too_long : IsFileTooLong 1 (outside_of flight_log).file
  pub too_full : 3 < slots_needed each_open (kept_of flight_view.scene (outside_of flight_log).file)

-- a row whose calls open the gate before the body is synced isn't one that keeps a record
abbrev pub UnsyncedKeepsNone : Type 0
UnsyncedKeepsNone = KeepsAtMostOne each_open new_journal_view.scene (WriteBody 0 example_record ∷ WriteGate 0 example_record ∷ Sync ∷ []) → ⊥
