-- What a run owes as it begins: calls on the disk alone.
use Rattle.std.proofs.Common.{◌≡◌, ℕ, List, [], ◌∷◌, refl, true, false}
use Rattle.std.specs.Prelude.{Bool, nat_le, if◌then◌else◌, length}
use Rattle.gw_base.specs.declared.setup.Setup.{Setup}
use Rattle.jrn_record.specs.declared.records.Record.{Record}
use Rattle.gw_owes.specs.Calls.{OwedCall, WriteFirstGate, Sync}
use Rattle.gw_owes.specs.Core.{Core}
use Rattle.gw_owes.specs.Laws.{ends_in_one}
use Rattle.gw_owes.specs.TerminalLaws.{owes_cut}
use Rattle.gw_rules.specs.Opening.{opening}
use Rattle.gw_rules.proofs.LinkStateLemmas.{EachFits}

-- what holds of a sync alone, and of a sync with the first gate after it, holds of the calls of each opening
pub opens-all : (Holds : List OwedCall → Type 0) → Holds (Sync ∷ []) → Holds (Sync ∷ WriteFirstGate ∷ Sync ∷ []) → (setup : Setup) (file : List ℕ) (records : List Record) → Holds (opening setup file records).calls
opens-all Holds alone gated setup file records = by_size (nat_le (length file) 1)
  where
    by_size : (small : Bool) → Holds (Sync ∷ (if small then WriteFirstGate ∷ Sync ∷ [] else []))
    by_size true = gated
    by_size false = alone

pub opens-end : (setup : Setup) (file : List ℕ) (records : List Record) → ends_in_one (opening setup file records).calls ≡ true
opens-end setup file records = opens-all (λ calls. ends_in_one calls ≡ true) refl refl setup file records

pub opens-cut-none : (setup : Setup) (file : List ℕ) (records : List Record) → owes_cut (opening setup file records).calls ≡ false
opens-cut-none setup file records = opens-all (λ calls. owes_cut calls ≡ false) refl refl setup file records

pub opens-fit : (moment : ℕ) (core : Core) (setup : Setup) (file : List ℕ) (records : List Record) → EachFits moment core (opening setup file records).calls
opens-fit moment core setup file records = opens-all (EachFits moment core) (tt, tt) (tt, (tt, (tt, tt))) setup file records
