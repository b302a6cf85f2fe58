-- Inner: the numbers of connections.
use Rattle.std.specs.Prelude.{ℕ, ◌+◌, ◌==◌, Bool, true, false, if◌then◌else◌, Option, Some, None}
use Rattle.std.specs.BTreeSet.{BTreeSet, contains}
use Rattle.std.specs.Ordering.{nat_cmp}

-- which numbers are in the set
abbrev pub numbers_value : BTreeSet ℕ → ℕ → Bool
numbers_value numbers number = contains nat_cmp numbers number

-- these numbers and this one
abbrev pub numbers_with : (ℕ → Bool) → ℕ → ℕ → Bool
numbers_with numbers number = λ other. if other == number then true else numbers other

-- these numbers without this one
abbrev pub numbers_without : (ℕ → Bool) → ℕ → ℕ → Bool
numbers_without numbers number = λ other. if other == number then false else numbers other

-- the least number with which a till may open, where this one opened last
abbrev pub least_till : Option ℕ → ℕ
least_till None = 0
least_till (Some till) = till + 1
