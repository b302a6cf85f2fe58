-- What a journal says of the file that it was opened on.
use Rattle.std.specs.Prelude.{◌≡◌, ◌≢◌, ℕ, ◌*◌, ◌<◌, List, [], length, slice_index, false}
use Rattle.gw_site.specs.Outside.{outside_of}
use Rattle.gw_site.specs.Observed.{Observed, IfObserved}
use Rattle.gw_site.specs.declared.turn.Turn.{Turn}
use Rattle.jrn_log.specs.Slots.{AreSlots}

-- a journal: how many bodies it has, how many it may have, and how long the file was as it was opened
pub record JournalValue : Type 0 where
  pub len : ℕ
  pub slots : ℕ
  pub opened : ℕ

-- the bodies that a log keeps: those of the open slots of the file of its last sync or power failure
abbrev pub AreKept : List Turn → List (List ℕ) → Type 0
AreKept log bodies = AreSlots (outside_of log).stable bodies

-- nothing was written since the last sync, so many bodies are kept, and the gate after them is in the file and closed
pub record IsAtRest (log : List Turn) (len : ℕ) : Type 0 where
  pub synced : (outside_of log).file ≡ (outside_of log).stable
  pub clean : (outside_of log).written ≡ []
  pub kept : (bodies : List (List ℕ)) × AreKept log bodies × (length bodies ≡ len)
  pub gate : 256 * len < length (outside_of log).file
  pub closed : slice_index (outside_of log).file (256 * len) ≢ 165

-- the journal stands for the site: where its log is observed and it isn't dark, the log is at rest with so many bodies
abbrev pub StandsFor : JournalValue → Observed → Type 0
StandsFor journal observed = observed.dark ≡ false → IfObserved observed (λ log. IsAtRest log journal.len)
