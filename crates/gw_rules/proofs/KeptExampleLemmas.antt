-- The example of a log along which records are kept.
use Rattle.std.proofs.Common.{◌≡◌, List, [], ◌∷◌, ◌++◌, refl, sym, ap, subst, arith, inl, inr, append_assoc, append-nil}
use Rattle.std.proofs.lemmas.Bool.{leb-true, ltb-true}
use Rattle.std.proofs.lemmas.Int.{ints}
use Rattle.std.specs.Prelude.{◌≢◌, false, map, codes, Some}
use Rattle.gw_base.specs.declared.setup.Setup.{Setup}
use Rattle.gw_bytes.specs.Bytes.{AreBytes}
use Rattle.gw_site.specs.Image.{Image}
use Rattle.gw_site.specs.declared.turn.Turn.{Turn}
use Rattle.gw_site.specs.declared.turn.Turn.TheVariants.{Start, Synced}
use Rattle.gw_site.proofs.ImageLemmas.{file_image}
use Rattle.jrn_record.specs.Grammar.{record_body}
use Rattle.jrn_record.specs.Limits.{IsRecord}
use Rattle.jrn_log.specs.JournalTurns.{body_write, gate_write}
use Rattle.gw_owes.specs.Calls.{WriteBody, WriteGate, WriteFirstGate, Sync}
use Rattle.gw_owes.specs.Items.{Late, Due}
use Rattle.gw_rules.specs.KeptExample.{each_open, keeping_row, new_journal_turns, new_journal_view, one_record_file, lost_power_turns, failed_view, second_run_turns, second_run_log, second_run_view, flight_turns, flight_log, flight_view, FlightIsKept, UnsyncedKeepsNone}
use Rattle.gw_rules.specs.KeptLaws.{RecordRules, KeepsRecord, opens_journal, KeepsOn, KeepsJournal}
use Rattle.gw_rules.specs.Lawful.{first_call, IsCourse}
use Rattle.gw_rules.specs.RowExample.{terminal_setup, example_record}
use Rattle.gw_rules.specs.View.{View, Make, later, begun, started, after_turn, view_from, at_first}
use Rattle.gw_rules.proofs.RowExampleLemmas.{formed}
use Rattle.gw_rules.proofs.StageLemmas.{no-true}
use Rattle.gw_rules.proofs.TextLemmas.{bytes-tested, ident-tested}

-- no run begins in these turns
abbrev StartNone : List Turn → Type 0
StartNone [] = Unit {0}
StartNone (turn ∷ turns) = ((setup : Setup) → turn ≢ Start setup) × StartNone turns

-- such turns of a course, one after the other
turns-come : (rules : RecordRules) (base : List Turn) (first : View) (log : List Turn) (v : View) (turns : List Turn) → KeepsOn rules base first log v → IsCourse v (map Make turns) → StartNone turns
    → KeepsOn rules base first (log ++ turns) (view_from v (map Make turns))
turns-come rules base first log v [] k c none = subst (λ l. KeepsOn rules base first l v) (sym (append-nil log)) k
turns-come rules base first log v (turn ∷ turns) k c none =
    subst (λ l. KeepsOn rules base first l (view_from (after_turn v turn) (map Make turns))) (append_assoc log (turn ∷ []) turns)
    (turns-come rules base first (log ++ turn ∷ []) (after_turn v turn) turns (KeepsOn.TurnComes log v turn k c.0 none.0) c.1 none.1)

record-within : IsRecord example_record
record-within = record {
  sale = ident-tested 40 (codes "S1") refl;
  poi = ident-tested 40 (codes "T1") refl;
  service = ident-tested 10 (codes "7") refl;
  transaction = ident-tested 80 (codes "X1") refl;
  stamp = ident-tested 35 (codes "2026-11-27T12:00:00Z") refl;
  amount = (leb-true 1 1099 refl, leb-true 1099 999999999999 refl);
  before = leb-true 0 999999 refl;
  original = tt;
  moment = (omega (arith, ints), omega (arith, ints));
}

-- ---- the first run

first-run : KeepsJournal each_open (Start terminal_setup ∷ []) (started at_first.scene terminal_setup (opens_journal [] false))
first-run = KeepsOn.RunBegins [] at_first terminal_setup false KeepsOn.NoMoves (refl, formed)

new-journal-course : IsCourse (started at_first.scene terminal_setup (opens_journal [] false)) (map Make new_journal_turns)
new-journal-course = (refl, ((WriteFirstGate, refl, refl), (refl, (record { running = refl; calls = refl; items = refl }, tt))))

new-journal : KeepsJournal each_open (Start terminal_setup ∷ new_journal_turns) new_journal_view
new-journal = turns-come each_open [] at_first (Start terminal_setup ∷ []) (started at_first.scene terminal_setup (opens_journal [] false)) new_journal_turns first-run new-journal-course (λ setup e. cc, (λ setup e. cc, (λ setup e. cc, (λ setup e. cc, tt))))

first-keeps : KeepsRecord each_open new_journal_view.scene (keeping_row new_journal_view.scene).calls
first-keeps = record {
  the_record = example_record;
  more = [];
  calls_are = refl;
  spares = refl;
  within = record-within;
  follows = refl;
  room = record { setup = terminal_setup; setup_is = refl; room = leb-true 2 1000000 refl };
}

first-item : KeepsJournal each_open (Start terminal_setup ∷ new_journal_turns) (begun new_journal_view.scene (keeping_row new_journal_view.scene) (Due 0 ∷ []))
first-item =
    KeepsOn.ItemBegins (Start terminal_setup ∷ new_journal_turns) new_journal_view (Late 0) (Due 0 ∷ []) (keeping_row new_journal_view.scene) new-journal (record { idle = record { round = refl; calls = refl }; first = refl }) refl (inr first-keeps)

-- the power fails after the gate's write
in-flight-log : List Turn
in-flight-log = Start terminal_setup ∷ (new_journal_turns ++ body_write 0 (record_body example_record) ∷ Synced ∷ gate_write 0 ∷ [])

one-record-image : Image (view_from (begun new_journal_view.scene (keeping_row new_journal_view.scene) (Due 0 ∷ [])) (map Make (body_write 0 (record_body example_record) ∷ Synced ∷ gate_write 0 ∷ []))).scene.outside one_record_file
unfolding in-flight-log
one-record-image = file_image in-flight-log

one-record-bytes : AreBytes one_record_file
one-record-bytes = bytes-tested one_record_file refl

lost-power-course : IsCourse (begun new_journal_view.scene (keeping_row new_journal_view.scene) (Due 0 ∷ [])) (map Make lost_power_turns)
lost-power-course = ((WriteBody 0 example_record, refl, refl), (refl, ((WriteGate 0 example_record, refl, refl), ((one-record-image, one-record-bytes), tt))))

failed : KeepsJournal each_open (Start terminal_setup ∷ (new_journal_turns ++ lost_power_turns)) failed_view
failed = turns-come each_open [] at_first (Start terminal_setup ∷ new_journal_turns) (begun new_journal_view.scene (keeping_row new_journal_view.scene) (Due 0 ∷ [])) lost_power_turns first-item lost-power-course (λ setup e. cc, (λ setup e. cc, (λ setup e. cc, (λ setup e. cc, tt))))

-- ---- the second run

second-run-begins : KeepsJournal each_open (Start terminal_setup ∷ (new_journal_turns ++ lost_power_turns ++ Start terminal_setup ∷ [])) (started failed_view.scene terminal_setup (opens_journal one_record_file false))
second-run-begins = KeepsOn.RunBegins (Start terminal_setup ∷ (new_journal_turns ++ lost_power_turns)) failed_view terminal_setup false failed (refl, formed)

second-run-course : IsCourse (started failed_view.scene terminal_setup (opens_journal one_record_file false)) (map Make second_run_turns)
second-run-course = (refl, (record { running = refl; calls = refl; items = refl }, tt))

second-run : KeepsJournal each_open second_run_log second_run_view
second-run =
    turns-come each_open [] at_first (Start terminal_setup ∷ (new_journal_turns ++ lost_power_turns ++ Start terminal_setup ∷ [])) (started failed_view.scene terminal_setup (opens_journal one_record_file false)) second_run_turns second-run-begins second-run-course
    (λ setup e. cc, (λ setup e. cc, tt))

second-keeps : KeepsRecord each_open second_run_view.scene (keeping_row second_run_view.scene).calls
second-keeps = record {
  the_record = example_record;
  more = [];
  calls_are = refl;
  spares = refl;
  within = record-within;
  follows = refl;
  room = record { setup = terminal_setup; setup_is = refl; room = leb-true 4 1000000 refl };
}

flight-course : IsCourse (begun second_run_view.scene (keeping_row second_run_view.scene) (Due 0 ∷ [])) (map Make flight_turns)
flight-course = ((WriteBody 1 example_record, refl, refl), (refl, ((WriteGate 1 example_record, refl, refl), tt)))

second-item : (base : List Turn) (first : View) → KeepsOn each_open base first second_run_log second_run_view → KeepsOn each_open base first second_run_log (begun second_run_view.scene (keeping_row second_run_view.scene) (Due 0 ∷ []))
second-item base first k =
    KeepsOn.ItemBegins second_run_log second_run_view (Late 0) (Due 0 ∷ []) (keeping_row second_run_view.scene) k (record { idle = record { round = refl; calls = refl }; first = refl }) refl (inr second-keeps)

in-flight : (base : List Turn) (first : View) → KeepsOn each_open base first second_run_log second_run_view → KeepsOn each_open base first flight_log flight_view
in-flight base first k =
    turns-come each_open base first second_run_log (begun second_run_view.scene (keeping_row second_run_view.scene) (Due 0 ∷ [])) flight_turns (second-item base first k) flight-course (λ setup e. cc, (λ setup e. cc, (λ setup e. cc, tt)))

pub flight-is-kept : FlightIsKept
flight-is-kept = record {
  second_run = second-run;
  kept_is = refl;
  round = refl;
  spares = refl;
  goes_on = in-flight second_run_log second_run_view KeepsOn.NoMoves;
  keeps = in-flight [] at_first second-run;
  still_kept = refl;
  flight_is = refl;
  file_is = refl;
  too_long = ltb-true 257 513 refl;
  too_full = ltb-true 3 4 refl;
}

pub unsynced-keeps-none : UnsyncedKeepsNone
unsynced-keeps-none (inl e) = no-true e
unsynced-keeps-none (inr k) =
    let second : Some (WriteGate 0 example_record) ≡ Some Sync = ap (λ calls. first_call (later calls)) k.calls_are in
    cc
