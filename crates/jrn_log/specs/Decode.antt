-- The bodies of the open slots of a file, computed.
use Rattle.std.specs.Prelude.{ℕ, zero, suc, ◌*◌, ◌==◌, nat_lt, Bool, ◌&&◌, if◌then◌else◌, List, [], ◌∷◌, length, slice_index}
use Rattle.jrn_log.specs.Slots.{body_at}

-- the gate of this slot is open, as a test
abbrev pub has_gate : List ℕ → ℕ → Bool
has_gate file slot = nat_lt 1 (length file) && (slice_index file (256 * slot) == 165)

-- the bodies from this slot on up to the first closed one, of so many slots
abbrev pub decode_from : ℕ → List ℕ → ℕ → List (List ℕ)
decode_from zero file slot = []
decode_from (suc count) file slot = if has_gate file slot then body_at file slot ∷ decode_from count file (suc slot) else []

-- the bodies of the open slots of a file, which has fewer slots than bytes
abbrev pub decode_slots : List ℕ → List (List ℕ)
decode_slots file = decode_from (length file) file 0
