-- The examples of the steps of an opening.
use Rattle.std.proofs.Common.{◌≡◌, ℕ, List, [], ◌∷◌, refl, inl, inr}
use Rattle.std.specs.Prelude.{◌⊎◌}
use Rattle.gw_site.specs.Steps.{LengthCall, ReadCall, SyncCall, Made, TakenStep}
use Rattle.gw_site.specs.declared.turn.Turn.{Turn}
use Rattle.gw_site.specs.declared.turn.Turn.TheVariants.{Synced, DiskFailed}
use Rattle.jrn_log.specs.JournalSteps.{Phase, ToMeasure, AreSteps, HasSucceeded, phase_after, opening_phase, measured_phase}
use Rattle.jrn_log.specs.StepExample.{call_taken, NoFileIsOpened, FileIsRead, LongFileIsNotRead, LengthFails, SyncComesFirst}

pub no_file_is_opened : NoFileIsOpened
no_file_is_opened = (refl, refl, (refl, refl, (refl, refl, (refl, refl, refl))))

pub file_is_read : FileIsRead
file_is_read = (refl, refl, (refl, refl, (record { offset = 0; size = 256; step_is = refl }, refl, (record { offset = 256; size = 4096; step_is = refl }, refl, refl))))

-- a step that further ones follow has succeeded, and they are steps
goes_on : (phase : Phase) (one next : TakenStep) (more : List TakenStep) → AreSteps phase (one ∷ next ∷ more) → HasSucceeded phase one × AreSteps (phase_after phase) (next ∷ more)
goes_on phase one next more are = by_rest are.1
  where
    by_rest : ((next ∷ more) ≡ []) ⊎ (HasSucceeded phase one × AreSteps (phase_after phase) (next ∷ more)) → HasSucceeded phase one × AreSteps (phase_after phase) (next ∷ more)
    by_rest (inl e) = absurd (cc)
    by_rest (inr a) = a

-- where a step follows the length, it has succeeded
measured : (slots size : ℕ) (turns : List Turn) (next : TakenStep) → AreSteps (opening_phase slots size) (call_taken SyncCall (Synced ∷ []) ∷ call_taken LengthCall turns ∷ next ∷ []) → (turns ≡ []) × AreSteps (measured_phase slots size) (next ∷ [])
measured slots size turns next are =
    goes_on (ToMeasure (measured_phase slots size)) (call_taken LengthCall turns) next [] (goes_on (opening_phase slots size) (call_taken SyncCall (Synced ∷ [])) (call_taken LengthCall turns) (next ∷ []) are).1

pub long_file_is_not_read : LongFileIsNotRead
long_file_is_not_read = record { measured = (refl, refl, (refl, refl, refl)); not_read = λ are. (measured 4 1026 [] (call_taken (ReadCall 0 4096) []) are).1.0 }

pub length_fails : LengthFails
length_fails = record {
  ends = (refl, inr (refl, (refl, inl refl)));
  not_read = λ are. (let h : DiskFailed ∷ [] ≡ [] = (measured 4 513 (DiskFailed ∷ []) (call_taken (ReadCall 0 4096) []) are).0 in cc);
}

pub sync_comes_first : SyncComesFirst
sync_comes_first slots size turns more are = let h : Made LengthCall ≡ Made SyncCall = are.0 in cc
