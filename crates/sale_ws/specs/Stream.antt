-- What a read of a connection over a stream takes from the stream.
use Rattle.std.specs.Prelude.{◌≡◌, ℕ, List, take, Option, Some, None, Result, Ok, Err}
use Rattle.std.specs.Io.KnownBytes.{Consumes, IsAtEnd, Keeps}

-- the bytes that it brings are the stream's next, and the end is brought only if the stream is at its end; nothing is taken if nothing is there now, or if the read fails
abbrev pub TakesBytes : {E : Type 0} → Option (List ℕ) → Option (List ℕ) → List ℕ → Result (Option ℕ) E → Type 0
TakesBytes old new buf (Ok None) = Keeps old new
TakesBytes old new buf (Ok (Some count)) = Consumes old new (take count buf) × (count ≡ 0 → IsAtEnd new)
TakesBytes old new buf (Err failed) = Keeps old new
