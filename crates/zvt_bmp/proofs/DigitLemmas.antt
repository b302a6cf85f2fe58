-- What follows from the test for digits about the number that is read.
use Rattle.std.proofs.Common.{◌≡◌, ℕ, ◌^◌, ◌<◌, Bool, true, false, cond, Some, None, Result, Ok, Err, List, [], ◌∷◌, length, refl, arith}
use Rattle.std.specs.Prelude.{IfSome, MatchResult}
use Rattle.std.specs.Result.{result_ok}
use Rattle.std.proofs.lemmas.Nat.{mul-add-lt}
use Rattle.std.proofs.Math.Nat.{pow-suc}
use Rattle.std.proofs.lemmas.List.Elements.{All-head, All-tail, All-get_or}
use Rattle.gw_base.specs.Bcd.{IsBcdByte, IsBcd, IsFirstNotBcd, bcd_value, is_bcd, pair_value}
use Rattle.gw_base.specs.declared.bcd.NotDigits.{NotDigits}
use Rattle.gw_base.proofs.BcdLemmas.{bcd_passes, passes_bcd}

failed_by : (bytes : List ℕ) (offset : ℕ) (passed : Bool) → IsFirstNotBcd bytes offset → is_bcd bytes ≡ passed → passed ≡ false
failed_by bytes offset false first e = refl
failed_by bytes offset true first e = absurd (first.here (All-get_or IsBcdByte bytes offset 0 first.inside (passes_bcd bytes e)))

pub first_fails : (bytes : List ℕ) (offset : ℕ) → IsFirstNotBcd bytes offset → is_bcd bytes ≡ false
first_fails bytes offset first = failed_by bytes offset (is_bcd bytes) first refl

-- digits in so many bytes spell a number below a power of a hundred
pub bcd_bound : (bytes : List ℕ) → IsBcd bytes → bcd_value bytes < 100 ^ length bytes
bcd_bound [] all = omega arith
bcd_bound (byte ∷ bytes) all =
    let here : IsBcdByte byte = All-head IsBcdByte byte bytes all in
    let pair : pair_value byte < 100 = omega (arith, here.0, here.1) in
    let rest = bcd_bound bytes (All-tail IsBcdByte byte bytes all) in
    let both = mul-add-lt (pair_value byte) (100 ^ length bytes) (bcd_value bytes) 100 pair rest in
    omega (arith, both, pow-suc 100 (length bytes))

-- what `ok` makes of what was read
pub digits_value : (bytes : List ℕ) (read : Result ℕ NotDigits) → MatchResult read (λ value. IsBcd bytes × (value ≡ bcd_value bytes)) (λ fault. IsFirstNotBcd bytes fault.at) → result_ok read ≡ cond (is_bcd bytes) (Some (bcd_value bytes)) None
digits_value bytes (Ok value) (all, is) = rw (bcd_passes bytes all, is) refl
digits_value bytes (Err fault) first = rw (first_fails bytes fault.at first) refl

pub digits_bound : (bytes : List ℕ) (read : Result ℕ NotDigits) → MatchResult read (λ value. IsBcd bytes × (value ≡ bcd_value bytes)) (λ fault. IsFirstNotBcd bytes fault.at) → IfSome (result_ok read) (λ value. value < 100 ^ length bytes)
digits_bound bytes (Ok value) (all, is) = rw is (bcd_bound bytes all)
digits_bound bytes (Err fault) first = tt
