-- The turns of calls that are made one after the other.
use Rattle.std.proofs.Common.{◌≡◌, ℕ, List, [], ◌∷◌, ◌++◌, refl, inr}
use Rattle.std.specs.Prelude.{Result, Ok, Err}
use Rattle.gw_site.specs.Turns.{DiskTurns, SyncedTurns}
use Rattle.gw_site.specs.declared.turn.Turn.{Turn}
use Rattle.gw_site.specs.declared.turn.Turn.TheVariants.{Wrote, Synced}
use Rattle.jrn_log.specs.inner.FileReader.{SyncedLengthTurns, WroteSyncedTurns}

pub sync_then_length : {E : Type 0} (result : Result ℕ E) (p q : List Turn) → p ≡ Synced ∷ [] → DiskTurns result q → SyncedLengthTurns result (p ++ q)
sync_then_length (Ok size) p q e f = rw (e, f) refl
sync_then_length (Err failed) p q e f = inr (rw (e, f) refl)

pub write_then_sync : {E : Type 0} (result : Result (Unit {0}) E) (offset : ℕ) (bytes : List ℕ) (p q : List Turn) → p ≡ Wrote offset bytes ∷ [] → SyncedTurns result q → WroteSyncedTurns offset bytes result (p ++ q)
write_then_sync (Ok done) offset bytes p q e f = rw (e, f) refl
write_then_sync (Err failed) offset bytes p q e f = rw (e, f) refl
