-- What a stream in memory is: its bytes, and which call of it fails.
use Rattle.std.specs.Prelude.{◌≡◌, ◌⊎◌, ℕ, List, ◌++◌, take, Option, Some}

-- a source: the bytes that are left, the calls so far, the number of the call that fails, and the failures so far
pub record Giving : Type 0 where
  pub left : List ℕ
  pub calls : ℕ
  pub fails : Option ℕ
  pub faults : ℕ

-- a sink: the bytes that were written, the calls so far, the number of the call that fails, how many bytes that call takes at most, and the failures so far
pub record Taking : Type 0 where
  pub written : List ℕ
  pub calls : ℕ
  pub fails : Option ℕ
  pub taken : ℕ
  pub faults : ℕ

-- a failed write took nothing, or it is the call that fails and took at most so many of the bytes
abbrev pub IsPartialWrite : Taking → List ℕ → List ℕ → Type 0
IsPartialWrite old written bytes = (written ≡ old.written) ⊎ ((old.fails ≡ Some old.calls) × (written ≡ old.written ++ take old.taken bytes))
