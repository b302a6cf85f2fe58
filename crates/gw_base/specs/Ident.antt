-- Identifiers: short texts of printable ASCII, as nexo's SaleID, POIID and ServiceID are.
use Rattle.std.specs.Prelude.{◌≡◌, ℕ, ◌-◌, ◌≤◌, List, ◌++◌, All, length, take, drop, replicate}
use Rattle.std.proofs.Common.{◌∙◌, sym, ap, take-append-drop}

-- a printable ASCII byte, the space among them
abbrev pub IsPrintable : ℕ → Type 0
IsPrintable byte = (0x20 ≤ byte) × (byte ≤ 0x7E)

-- 1 to `most` printable ASCII bytes
abbrev pub IsIdent : ℕ → List ℕ → Type 0
IsIdent most bytes = (1 ≤ length bytes) × (length bytes ≤ most) × All IsPrintable bytes

-- the bytes of an identifier, filled with zeros up to `most`
abbrev pub zero_filled : ℕ → List ℕ → List ℕ
zero_filled most bytes = bytes ++ replicate (most - length bytes) 0

-- cells whose rest is zeros are their first bytes, zero-filled
pub zero_filled-take : (most len : ℕ) (cells : List ℕ) → length (take len cells) ≡ len
    → drop len cells ≡ replicate (most - len) 0 → zero_filled most (take len cells) ≡ cells
zero_filled-take most len cells length_is rest =
    ap (λ n. take len cells ++ replicate (most - n) 0) length_is
    ∙ ap (λ tail. take len cells ++ tail) (sym rest)
    ∙ take-append-drop len cells
