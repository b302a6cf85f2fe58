-- Readers that are fed a stream in chunks: their steps, what was fed and what was given.
use Rattle.std.specs.Prelude.{◌≡◌, ℕ, List, [], ◌∷◌, ◌++◌}

-- one call on a reader, with what it took or returned
pub data Step (Value : Type 0) (Fault : Type 0) : Type 0 where
  -- a chunk was fed
  Fed : (chunk : List ℕ) → Step Value Fault
  -- a value was given
  Gave : (value : Value) → Step Value Fault
  -- no value is whole yet
  Incomplete : Step Value Fault
  -- none can follow
  Refused : (fault : Fault) → Step Value Fault

-- Steps one after another, from the bytes that wait before the first to those that wait after the last. What a single step
-- does to the bytes that wait is the format's.
abbrev pub Steps : {Value : Type 0} {Fault : Type 0} → (List ℕ → Step Value Fault → List ℕ → Type 0) → List ℕ → List (Step Value Fault) → List ℕ → Type 0
Steps takes waiting [] left = left ≡ waiting
Steps takes waiting (step ∷ steps) left = (between : List ℕ) × takes waiting step between × Steps takes between steps left

-- all bytes fed, in whatever chunks
abbrev pub fed : {Value : Type 0} {Fault : Type 0} → List (Step Value Fault) → List ℕ
fed [] = []
fed (Fed chunk ∷ steps) = chunk ++ fed steps
fed (Gave value ∷ steps) = fed steps
fed (Incomplete ∷ steps) = fed steps
fed (Refused fault ∷ steps) = fed steps

-- the values given, in order
abbrev pub given : {Value : Type 0} {Fault : Type 0} → List (Step Value Fault) → List Value
given [] = []
given (Fed chunk ∷ steps) = given steps
given (Gave value ∷ steps) = value ∷ given steps
given (Incomplete ∷ steps) = given steps
given (Refused fault ∷ steps) = given steps
