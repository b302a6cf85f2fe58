-- Lists linked by id in both directions. A place on a list is `None`, its end at both sides, or `Some id`, a request on it.
use Rattle.std.specs.Prelude.{◌≡◌, ◌≢◌, ◌⊎◌, ℕ, List, [], ◌∷◌, Option, Some, None}
use Rattle.gw_links.specs.Waiting.{Waiting}

-- one of these waits under the id
abbrev pub IsInChain : ℕ → List Waiting → Type 0
IsInChain id [] = ⊥
IsInChain id (waiting ∷ rest) = (waiting.id ≡ id) ⊎ IsInChain id rest

-- the fact holds of each of these
abbrev pub Every : (Waiting → Type 0) → List Waiting → Type 0
Every P [] = Unit {0}
Every P (waiting ∷ rest) = P waiting × Every P rest

-- no id is there twice
abbrev pub IsApart : List Waiting → Type 0
IsApart [] = Unit {0}
IsApart (waiting ∷ rest) = (¬ IsInChain waiting.id rest) × IsApart rest

-- the links lead from a place through these and on to the end, and back
abbrev pub IsChain : (Option ℕ → Option ℕ) → (Option ℕ → Option ℕ) → Option ℕ → List Waiting → Type 0
IsChain next prev from [] = (next from ≡ None) × (prev None ≡ from)
IsChain next prev from (waiting ∷ rest) =
    (next from ≡ Some waiting.id) × (prev (Some waiting.id) ≡ from) × IsChain next prev (Some waiting.id) rest

-- the new links lead from this place to that one, and from every other place where the old ones do
pub record Joins (old new : Option ℕ → Option ℕ) (from to : Option ℕ) : Type 0 where
  pub here : new from ≡ to
  pub others : (at : Option ℕ) → at ≢ from → new at ≡ old at

-- the links put a place between two others, and lead from every other place where the old ones do
pub record Inserts (next prev next' prev' : Option ℕ → Option ℕ) (before at after : Option ℕ) : Type 0 where
  pub into : next' before ≡ at
  pub out : next' at ≡ after
  pub back_into : prev' after ≡ at
  pub back_out : prev' at ≡ before
  pub nexts : (other : Option ℕ) → other ≢ before → other ≢ at → next' other ≡ next other
  pub prevs : (other : Option ℕ) → other ≢ after → other ≢ at → prev' other ≡ prev other
