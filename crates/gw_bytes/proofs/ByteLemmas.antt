-- Bytes one by one, and bytes of parts of a list.
use Rattle.std.proofs.Common.{◌≡◌, ℕ, zero, suc, lit<, ◌<◌, List, [], ◌∷◌, ◌++◌, get_or}
use Rattle.gw_bytes.specs.Bytes.{AreBytes}

-- numbers that are bytes at each index are bytes
pub are_bytes : (bytes : List ℕ) → ((i : ℕ) → get_or bytes i 0 < 256) → AreBytes bytes
are_bytes [] each = tt
are_bytes (byte ∷ bytes) each = (each 0, are_bytes bytes (λ i. each (suc i)))

-- bytes are bytes at each index
pub each_byte : (bytes : List ℕ) → AreBytes bytes → (i : ℕ) → get_or bytes i 0 < 256
each_byte [] small i = lit< tt
each_byte (byte ∷ bytes) small zero = small.0
each_byte (byte ∷ bytes) small (suc i) = each_byte bytes small.1 i

-- a prefix of bytes is bytes
pub bytes_prefix : (prefix more : List ℕ) → AreBytes (prefix ++ more) → AreBytes prefix
bytes_prefix [] more small = tt
bytes_prefix (byte ∷ prefix) more small = (small.0, bytes_prefix prefix more small.1)

-- the rest of bytes is bytes
pub bytes_rest : (prefix more : List ℕ) → AreBytes (prefix ++ more) → AreBytes more
bytes_rest [] more small = small
bytes_rest (byte ∷ prefix) more small = bytes_rest prefix more small.1
