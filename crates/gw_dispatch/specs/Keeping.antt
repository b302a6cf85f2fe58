-- Keeping a record: what is owed before it, and what holds after it.
use Rattle.std.specs.Prelude.{◌≡◌, ℕ, true, List, [], ◌∷◌, ◌++◌, None, Result, Ok, Err}
use Rattle.gw_site.specs.Outside.{outside_from}
use Rattle.jrn_record.specs.Grammar.{record_body}
use Rattle.jrn_record.specs.declared.records.Record.{Record}
use Rattle.jrn_log.specs.Foreign.{append_turns}
use Rattle.gw_owes.specs.Calls.{OwedCall, keep_calls}
use Rattle.gw_owes.specs.Items.{RoundItem}
use Rattle.gw_rules.specs.Scene.{Scene}
use Rattle.gw_rules.specs.Stage.{Handling, Broken, is_round}
use Rattle.gw_rules.specs.Triple.{Owing}
use Rattle.gw_rules.specs.View.{View}

-- a record may be kept in a round where no other has its gate written and not synced
pub record MayKeep (scene : Scene) : Type 0 where
  pub round : is_round scene.stage ≡ true
  pub flight : scene.flight ≡ None

-- the calls that keep this record in this slot are owed, and then these, before these items
abbrev pub OwesKeeping : Scene → ℕ → Record → List OwedCall → List RoundItem → View → Type 0
OwesKeeping scene slot the_record calls items v = Owing scene (keep_calls slot the_record ++ calls) items v × MayKeep scene

-- the scene once the record is kept in the slot
abbrev pub keeping : Scene → ℕ → Record → Scene
keeping scene slot the_record = record scene {
  outside = outside_from scene.outside (append_turns slot (record_body the_record));
  stage = Handling;
  kept = scene.kept ++ the_record ∷ [];
  flight = None;
}

-- Ok: the record is kept, and the calls after it are owed. Err: a call on the disk has failed, and the run is over
abbrev pub Kept : {T E : Type 0} → Result T E → Scene → ℕ → Record → List OwedCall → List RoundItem → View → Type 0
Kept (Ok given) scene slot the_record calls items v = Owing (keeping scene slot the_record) calls items v
Kept (Err failed) scene slot the_record calls items v = v.scene.stage ≡ Broken
