-- A closed example of a record that is kept in a run.
use Rattle.std.specs.Prelude.{◌≡◌, ℕ, List, [], ◌∷◌, ◌++◌, map, refl, Ok, Err}
use Rattle.gw_site.specs.declared.site.Failed.{Failed}
use Rattle.gw_site.specs.declared.turn.Turn.{Turn}
use Rattle.gw_site.specs.declared.turn.Turn.TheVariants.{Synced, DiskFailed}
use Rattle.jrn_record.specs.Grammar.{record_body}
use Rattle.jrn_log.specs.Foreign.{append_turns}
use Rattle.jrn_log.specs.JournalTurns.{body_write, gate_write}
use Rattle.gw_owes.specs.Calls.{CutTill, keep_calls}
use Rattle.gw_owes.specs.Items.{Due}
use Rattle.gw_rules.specs.KeptExample.{new_journal_view, one_record_file}
use Rattle.gw_rules.specs.RowExample.{example_record}
use Rattle.gw_rules.specs.View.{View, Make, view_from}
use Rattle.gw_dispatch.specs.Keeping.{MayKeep, Kept}

-- after these turns, in a run in which a record is to be kept and then a till is to be cut, before one item
abbrev pub keeping_view : List Turn → View
keeping_view turns = view_from (record { scene = new_journal_view.scene; calls = keep_calls 0 example_record ++ (CutTill 1 ∷ []); items = Due 0 ∷ [] }) (map Make turns)

-- the record is kept once its four calls are made: it is among those that are known, the synced file has it, and the till is to be cut; where the last sync fails, the run is over
pub record KeepsExample : Type 0 where
  pub may : MayKeep new_journal_view.scene
  pub kept : Kept {T = ℕ} {E = Failed} (Ok 0) new_journal_view.scene 0 example_record (CutTill 1 ∷ []) (Due 0 ∷ []) (keeping_view (append_turns 0 (record_body example_record)))
  pub records : (keeping_view (append_turns 0 (record_body example_record))).scene.kept ≡ example_record ∷ []
  pub file : (keeping_view (append_turns 0 (record_body example_record))).scene.outside.stable ≡ one_record_file
  pub failed : Kept {T = ℕ} {E = Failed} (Err (record {})) new_journal_view.scene 0 example_record (CutTill 1 ∷ []) (Due 0 ∷ []) (keeping_view (body_write 0 (record_body example_record) ∷ Synced ∷ gate_write 0 ∷ DiskFailed ∷ []))

example_keeping : KeepsExample
example_keeping = record { may = record { round = refl; flight = refl }; kept = refl; records = refl; file = refl; failed = refl }
