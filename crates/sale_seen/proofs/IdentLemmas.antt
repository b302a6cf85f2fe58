-- Texts that are identifiers.
use Rattle.std.proofs.Common.{◌≡◌, ℕ, ◌≤◌, List, [], ◌∷◌, ◌++◌, All, length, codes, arith, refl, true, Bool, nat_le, ◌&&◌}
use Rattle.std.specs.List.{list_all}
use Rattle.std.proofs.lemmas.Bool.Decides.{nat_tests}
use Rattle.std.proofs.lemmas.List.{length-append}
use Rattle.std.proofs.lemmas.List.Elements.{All-append, All-cons, All-nil}
use Rattle.gw_base.specs.Ident.{IsIdent, IsPrintable}
use Rattle.sale_seen.proofs.NameLemmas.{both}
use Rattle.sale_seen.specs.Fault.{result_path}

-- whether the byte is a printable one
abbrev pub is_printable : ℕ → Bool
is_printable byte = nat_le 0x20 byte && nat_le byte 0x7E

printable_byte : (byte : ℕ) → is_printable byte ≡ true → IsPrintable byte
printable_byte byte h =
    let parts = both (nat_le 0x20 byte) (nat_le byte 0x7E) h in
    let low = parts.0 in
    let high = parts.1 in
    grind (arith, nat_tests)

printable_text : (text : List ℕ) → list_all is_printable text ≡ true → All IsPrintable text
printable_text [] h = All-nil IsPrintable
printable_text (byte ∷ text) h =
    let parts = both (is_printable byte) (list_all is_printable text) h in
    All-cons IsPrintable byte text (printable_byte byte parts.0) (printable_text text parts.1)

pub result_path_ident : (category : List ℕ) → IsIdent 40 category → IsIdent 100 (result_path category)
result_path_ident category h =
    let suffix = codes "Response.Response.Result" in
    let count = length-append category suffix in
    (omega (arith, count, h.0), omega (arith, count, h.1), All-append IsPrintable category suffix h.2 (printable_text suffix refl))
