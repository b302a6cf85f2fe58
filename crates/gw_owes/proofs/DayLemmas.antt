-- How many ends of day are served once a terminal becomes another, and once a till is gone.
use Rattle.std.proofs.Common.{◌≡◌, ℕ, zero, suc, ◌+◌, ◌≤◌, List, [], ◌∷◌, refl, ap, arith}
use Rattle.std.specs.Prelude.{map, set, slice_get, Some}
use Rattle.std.proofs.lemmas.Option.{same_Some}
use Rattle.gw_ledger.specs.Sums.{one_if}
use Rattle.gw_owes.specs.declared.terminal.Standing.{Standing}
use Rattle.gw_owes.specs.declared.terminal.Terminal.{Terminal}
use Rattle.gw_owes.specs.Days.{day_served, days_served, is_day}
use Rattle.gw_owes.specs.Terminals.{forgets_till}

-- 1 where a terminal of this standing serves an end of day, and 0 where it doesn't
abbrev pub days_in : Standing → ℕ
days_in standing = one_if (is_day (day_served standing))

-- one terminal becomes another
pub days-set : (terminals : List Terminal) (number : ℕ) (old new : Terminal) → slice_get terminals number ≡ Some old → days_served (set terminals number new) + days_in old.standing ≡ days_served terminals + days_in new.standing
days-set [] number old new found = absurd cc
days-set (first ∷ rest) zero old new found =
    let counted : days_in first.standing ≡ days_in old.standing = ap (λ (terminal : Terminal). days_in terminal.standing) (same_Some first old found) in
    omega (arith, counted)
days-set (first ∷ rest) (suc number) old new found = let more = days-set rest number old new found in omega (arith, more)

-- one that serves no end of day unless the other does
pub days-no-more : (terminals : List Terminal) (number : ℕ) (old new : Terminal) → slice_get terminals number ≡ Some old → days_in new.standing ≤ days_in old.standing → days_served (set terminals number new) ≤ days_served terminals
days-no-more terminals number old new found no_more = let all = days-set terminals number old new found in omega (arith, all, no_more)

-- one that begins one
pub days-one-more : (terminals : List Terminal) (number : ℕ) (old new : Terminal) → slice_get terminals number ≡ Some old → days_in new.standing ≤ days_in old.standing + 1 → days_served (set terminals number new) ≤ days_served terminals + 1
days-one-more terminals number old new found one_more = let all = days-set terminals number old new found in omega (arith, all, one_more)

-- a till that is gone leaves what is served
pub days-forgotten : (till : ℕ) (terminals : List Terminal) → days_served (map (forgets_till till) terminals) ≡ days_served terminals
days-forgotten till [] = refl
days-forgotten till (first ∷ rest) = ap (λ (n : ℕ). days_in first.standing + n) (days-forgotten till rest)
