-- What a connection to the gateway gives and takes.
use Rattle.std.specs.Prelude.{◌≡◌, ℕ, List, [], ◌∷◌, take, drop, Option, Some, None, Result, Ok, Err}

-- what a proof may see of a connection: the chunks that its reads will give, an empty one for the end and none for nothing now; the bytes written; and how often a call has failed
pub record ObservedGate : Type 0 where
  pub left : Option (List (Option (List ℕ)))
  pub sent : Option (List ℕ)
  pub faults : ℕ

-- what the read of a turn brought: a chunk, an empty one for the end, or nothing now; it failed; or the turn ended before it
pub data Heard : Type 0 where
  Brought : (chunk : Option (List ℕ)) → Heard
  ReadFailed : Heard
  NotAsked : Heard

-- what a read with this buffer and result brought
abbrev pub heard_of : {E : Type 0} → List ℕ → Result (Option ℕ) E → Heard
heard_of buf (Ok None) = Brought None
heard_of buf (Ok (Some count)) = Brought (Some (take count buf))
heard_of buf (Err failed) = ReadFailed

-- the first of what is left; nothing now, once all was given
abbrev pub next_chunk : List (Option (List ℕ)) → Option (List ℕ)
next_chunk [] = None
next_chunk (chunk ∷ left) = chunk

-- a read brings the first of what is left and leaves the rest; a failed one leaves all, as does a turn that reads nothing
abbrev pub TakesChunk : Option (List (Option (List ℕ))) → Option (List (Option (List ℕ))) → Heard → Type 0
TakesChunk old new (Brought chunk) = (left : List (Option (List ℕ))) → old ≡ Some left → (chunk ≡ next_chunk left) × (new ≡ Some (drop 1 left))
TakesChunk old new ReadFailed = new ≡ old
TakesChunk old new NotAsked = new ≡ old
