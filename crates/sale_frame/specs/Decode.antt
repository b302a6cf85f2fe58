-- The function that decodes a stream, byte by byte, for definitions that compute with a till's bytes. A law says that its result is the one that Frames relates to the stream.
use Rattle.std.specs.Prelude.{ℕ, ◌+◌, Bool, ◌&&◌, nat_lt, nat_le, ◌==◌, if◌then◌else◌, List, [], ◌∷◌, ◌++◌, length, take, drop, fold}
use Rattle.std.specs.Int.{w32, from_be_bytes}

-- the payloads so far, and the bytes after them
pub record DecodedFrames : Type 0 where
  pub payloads : List (List ℕ)
  pub rest : List ℕ

-- the length that the first four bytes spell
abbrev pub spelled_length : List ℕ → ℕ
spelled_length bytes = from_be_bytes w32 (take 4 bytes)

-- whether the bytes are one frame
abbrev pub is_frame : List ℕ → Bool
is_frame bytes =
    nat_lt 0 (spelled_length bytes) && (nat_le (spelled_length bytes) 65536 && (length bytes == 4 + spelled_length bytes))

-- one byte more: it ends a payload, or joins the rest
abbrev pub with_byte : DecodedFrames → ℕ → DecodedFrames
with_byte decoded byte =
    let bytes = decoded.rest ++ byte ∷ [] in
    if is_frame bytes
    then record { payloads = decoded.payloads ++ drop 4 bytes ∷ []; rest = [] }
    else record { payloads = decoded.payloads; rest = bytes }

-- one chunk more, after a rest
abbrev pub decode_after : List ℕ → List ℕ → DecodedFrames
decode_after rest chunk = fold with_byte (record { payloads = []; rest = rest }) chunk

-- all bytes, decoded
abbrev pub decode_frames : List ℕ → DecodedFrames
decode_frames bytes = decode_after [] bytes

-- what was decoded, with these payloads before its own
abbrev pub with_payloads : List (List ℕ) → DecodedFrames → DecodedFrames
with_payloads before decoded = record { payloads = before ++ decoded.payloads; rest = decoded.rest }
