-- How the text of a log has the bytes of a till.
use Rattle.std.proofs.Common.{◌≡◌, ℕ, ◌≤◌, Bool, true, false, List, [], ◌∷◌, drop, refl}
use Rattle.std.proofs.lemmas.Bool.{and_from, and_parts, le-leb, leb-true}
use Rattle.std.specs.Prelude.{nat_le}
use Rattle.std.specs.List.{AllByRecursion, list_all}
use Rattle.hex.specs.Hex.{encode_lower}
use Rattle.sale_frame.specs.Grammar.{frame}
use Rattle.sale_frame.specs.Decode.{is_frame}
use Rattle.sale_frame.proofs.DecodeLemmas.{frame_passes, is_framed}
use Rattle.gw_script.specs.LogText.{is_space_or_visible, is_printable_frame, till_bytes_text}
use Rattle.gw_script.specs.Laws.{TextOfFrame, TextOfBytes}

abbrev ArePrintable : List ℕ → Type 0
ArePrintable bytes = AllByRecursion (λ byte. (32 ≤ byte) × (byte ≤ 126)) bytes

printable_passes : (bytes : List ℕ) → ArePrintable bytes → list_all is_space_or_visible bytes ≡ true
printable_passes [] all = refl
printable_passes (byte ∷ bytes) all =
    and_from (is_space_or_visible byte) (list_all is_space_or_visible bytes) (and_from (nat_le 32 byte) (nat_le byte 126) (le-leb 32 byte all.0.0) (le-leb byte 126 all.0.1)) (printable_passes bytes all.1)

passes_printable : (bytes : List ℕ) → list_all is_space_or_visible bytes ≡ true → ArePrintable bytes
passes_printable [] test = tt
passes_printable (byte ∷ bytes) test =
    let parts = and_parts (is_space_or_visible byte) (list_all is_space_or_visible bytes) test in
    let limits = and_parts (nat_le 32 byte) (nat_le byte 126) parts.0 in
    ((leb-true 32 byte limits.0, leb-true byte 126 limits.1), passes_printable bytes parts.1)

pub text-of-frame : TextOfFrame
text-of-frame message is =
    let test : is_printable_frame (frame message) ≡ true = and_from (is_frame (frame message)) _ (frame_passes message is.is_message) (printable_passes message is.printable) in
    rw test refl

pub text-of-bytes : TextOfBytes
text-of-bytes bytes small other = by_test (is_printable_frame bytes) refl
  where
    by_test : (test : Bool) → is_printable_frame bytes ≡ test → till_bytes_text bytes ≡ encode_lower bytes
    by_test true test =
        let parts = and_parts (is_frame bytes) (list_all is_space_or_visible (drop 4 bytes)) test in
        let framed = is_framed bytes small parts.0 in
        absurd (other (drop 4 bytes) (record { is_message = framed.0; printable = passes_printable (drop 4 bytes) parts.1 }) framed.1)
    by_test false test = rw test refl
