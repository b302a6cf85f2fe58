-- The stream of a till: payloads, each in a frame. A frame is the payload's length in four bytes, most significant first, and the payload, in which a message is spelled.
use Rattle.std.specs.Prelude.{◌≡◌, ◌⊎◌, ℕ, ◌<◌, ◌≤◌, ◌^◌, List, ◌++◌, length, take}
use Rattle.std.specs.List.{flat_map, AllByRecursion}
use Rattle.std.specs.Int.{w32, to_be_bytes}

-- a length that a payload of this profile may have
abbrev pub IsPayloadLength : ℕ → Type 0
IsPayloadLength n = (0 < n) × (n ≤ 65536)

-- a payload is any bytes of such a length
abbrev pub IsPayload : List ℕ → Type 0
IsPayload payload = IsPayloadLength (length payload)

-- the one frame of a payload
abbrev pub frame : List ℕ → List ℕ
frame payload = to_be_bytes w32 (length payload) ++ payload

-- the bytes are one whole frame of some payload
abbrev pub IsFrame : List ℕ → Type 0
IsFrame bytes = (payload : List ℕ) × IsPayload payload × (bytes ≡ frame payload)

-- the payloads' frames, one after the other
abbrev pub frames : List (List ℕ) → List ℕ
frames payloads = flat_map frame payloads

-- the first four bytes spell this length
abbrev pub BeginsWithLength : List ℕ → ℕ → Type 0
BeginsWithLength bytes n = (n < 2 ^ 32) × (take 4 bytes ≡ to_be_bytes w32 n)

-- a frame begins with the bytes and is longer
abbrev pub IsProperFramePrefix : List ℕ → Type 0
IsProperFramePrefix bytes = (payload : List ℕ) × IsPayload payload × (more : List ℕ) × (0 < length more) × (frame payload ≡ bytes ++ more)

-- the bytes begin with this payload's frame
abbrev pub BeginsWithPayload : List ℕ → List ℕ → Type 0
BeginsWithPayload bytes payload = IsPayload payload × (left : List ℕ) × (bytes ≡ frame payload ++ left)

-- less than a frame: fewer than four bytes, whatever they are, or a proper prefix of a frame
abbrev pub IsIncompleteFrame : List ℕ → Type 0
IsIncompleteFrame bytes = (length bytes < 4) ⊎ IsProperFramePrefix bytes

-- no frame begins so: the first four bytes spell a length that no payload has
abbrev pub BeginsWithBadLength : List ℕ → Type 0
BeginsWithBadLength bytes = (n : ℕ) × BeginsWithLength bytes n × ¬ (IsPayloadLength n)

-- what may come after the last whole frame
abbrev pub IsFrameRest : List ℕ → Type 0
IsFrameRest bytes = IsIncompleteFrame bytes ⊎ BeginsWithBadLength bytes

-- The bytes are these payloads' frames, and the rest.
pub record Frames (bytes : List ℕ) (payloads : List (List ℕ)) (rest : List ℕ) : Type 0 where
  pub whole : bytes ≡ frames payloads ++ rest
  pub each : AllByRecursion IsPayload payloads
  pub ended : IsFrameRest rest
