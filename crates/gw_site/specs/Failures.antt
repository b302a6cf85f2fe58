-- Counts of failures: a failure is returned only where the count rose.
use Rattle.std.specs.Prelude.{◌≡◌, ℕ, ◌+◌, ◌-◌, ◌^◌, ◌≤◌, min, Result, IsErr, OnErr, Ok, Err}

-- the count rose, or is at its last value
abbrev pub Rose : ℕ → ℕ → Type 0
Rose before now = min (before + 1) (2 ^ 64 - 1) ≤ now

-- the count never falls, and a failure is returned only where it rose
pub record HasCause {T E : Type 0} (before now : ℕ) (result : Result T E) : Type 0 where
  pub later : before ≤ now
  pub failed : OnErr result (Rose before now)

-- a count after one more, which stays at its last value
abbrev pub one_more : ℕ → ℕ
one_more count = min (count + 1) (2 ^ 64 - 1)

-- the count of failures after a call: one more where it failed
abbrev pub faults_after : {T E : Type 0} → ℕ → Result T E → ℕ
faults_after faults (Ok given) = faults
faults_after faults (Err failed) = one_more faults

-- the call failed, and its failure was counted
pub record HasFailed {T E : Type 0} (before now : ℕ) (result : Result T E) : Type 0 where
  pub later : before ≤ now
  pub failed : IsErr result
  pub counted : now ≡ one_more before
