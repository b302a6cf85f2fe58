-- Laws of the text of a log.
use Rattle.std.specs.Prelude.{◌≡◌, ◌≤◌, ℕ, List, ◌∷◌}
use Rattle.std.specs.List.{AllByRecursion}
use Rattle.gw_bytes.specs.Bytes.{AreBytes}
use Rattle.hex.specs.Hex.{encode_lower}
use Rattle.sale_frame.specs.Grammar.{IsPayload, frame}
use Rattle.gw_script.specs.LogText.{till_bytes_text}

-- a message of a till that the text of a log has as it is: spaces and visible ASCII alone
pub record IsPrintableMessage (message : List ℕ) : Type 0 where
  pub is_message : IsPayload message
  pub printable : AllByRecursion (λ byte. (32 ≤ byte) × (byte ≤ 126)) message

-- its frame is written as `'` and the message
abbrev pub TextOfFrame : Type 0
TextOfFrame = (message : List ℕ) → IsPrintableMessage message → till_bytes_text (frame message) ≡ 39 ∷ message

-- bytes that are no such frame are written in hexadecimal
abbrev pub TextOfBytes : Type 0
TextOfBytes = (bytes : List ℕ) → AreBytes bytes → ((message : List ℕ) → IsPrintableMessage message → ¬ (bytes ≡ frame message)) → till_bytes_text bytes ≡ encode_lower bytes
