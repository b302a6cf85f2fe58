-- The spellings of fields, one at a time.
use Rattle.std.proofs.Common.{◌≡◌, ℕ, suc, ◌-◌, ◌^◌, ◌<◌, ◌≤◌, Bool, true, false, List, ◌∷◌, ◌++◌, length, take, drop, replicate, get_or, arith, sym, ◌∙◌, ap, subst, take-append-drop, Option, Some, None}
use Rattle.std.proofs.Math.Seq.{take-append_seam}
use Rattle.std.proofs.lemmas.List.{length-take}
use Rattle.std.proofs.lemmas.List.Elements.{All-get_or}
use Rattle.gw_base.specs.Bcd.{IsBcd, IsBcdByte, IsFirstNotBcd, bcd_of, bcd_value}
use Rattle.gw_base.specs.Ident.{IsIdent}
use Rattle.gw_base.proofs.BcdLemmas.{bcd_of-value, bcd_value-of}
use Rattle.jrn_record.specs.Limits.{HasTillText, IsPresentWithin}
use Rattle.jrn_record.specs.Grammar.{option_field, text_field}
use Rattle.jrn_record.specs.declared.records.Deal.{Deal}
use Rattle.jrn_record.specs.declared.records.Deal.TheVariants.{Reversal}

-- digits are the spelling of their number
pub digits_spell : (count number : ℕ) (bytes : List ℕ) → length bytes ≡ count → IsBcd bytes × (number ≡ bcd_value bytes) → bcd_of count number ≡ bytes
digits_spell count number bytes e h =
    ap (λ n. bcd_of n number) (sym e) ∙ ap (bcd_of (length bytes)) h.1 ∙ bcd_of-value bytes h.0

-- a number that is present has few enough digits
pub present_below : (present : Bool) (least greatest count number : ℕ) → greatest < 100 ^ count → IsPresentWithin present least greatest number → number < 100 ^ count
present_below true least greatest count number fits h = omega arith
present_below false least greatest count number fits h = omega arith

-- digits spell one number
pub digits_one : (count value number : ℕ) (bytes : List ℕ) → value < 100 ^ count → bcd_of count value ≡ bytes → number ≡ bcd_value bytes → value ≡ number
digits_one count value number bytes below e h = sym (bcd_value-of count value below).1 ∙ ap bcd_value e ∙ sym h

-- what isn't digits is no number's spelling
pub digits_none : (count value offset : ℕ) (bytes : List ℕ) → value < 100 ^ count → bcd_of count value ≡ bytes → IsFirstNotBcd bytes offset → ⊥
digits_none count value offset bytes below e h =
    let digits : IsBcd bytes = subst IsBcd e (bcd_value-of count value below).0 in
    h.here (All-get_or IsBcdByte bytes offset 0 h.inside digits)

-- a spelling determines its text
pub text_field-injective : (size : ℕ) (a b : List ℕ) → text_field size a ≡ text_field size b → a ≡ b
text_field-injective size a b e =
    let lengths : length a ≡ length b = ap (λ field. get_or field 0 0) e in
    let rests : a ++ replicate (size - 1 - length a) 0 ≡ b ++ replicate (size - 1 - length b) 0 = ap (drop 1) e in
    sym (take-append_seam a (replicate (size - 1 - length a) 0))
    ∙ ap (λ n. take n (a ++ replicate (size - 1 - length a) 0)) lengths
    ∙ ap (take (length b)) rests
    ∙ take-append_seam b (replicate (size - 1 - length b) 0)

-- a text after its length, and zeros
pub text_field-parts : (cells : List ℕ) (first len : ℕ) (rest : List ℕ) → cells ≡ first ∷ rest → first ≡ len → len ≤ length rest
    → drop len rest ≡ replicate (length rest - len) 0 → text_field (length cells) (take len rest) ≡ cells
text_field-parts cells first len rest e f fits zeros =
    let count : length (take len rest) ≡ len = omega (arith, length-take len rest) in
    let whole : length cells ≡ suc (length rest) = ap length e in
    let fill : length cells - 1 - length (take len rest) ≡ length rest - len = omega arith in
    ap (λ n. length (take len rest) ∷ (take len rest ++ replicate n 0)) fill
    ∙ ap (λ n. n ∷ (take len rest ++ replicate (length rest - len) 0)) (count ∙ sym f)
    ∙ ap (λ tail. first ∷ (take len rest ++ tail)) (sym zeros)
    ∙ ap (λ tail. first ∷ tail) (take-append-drop len rest)
    ∙ sym e

-- a reversal has no text
pub option_none : (what : Deal) (most size : ℕ) (bytes : List ℕ) → what ≡ Reversal → (replicate size 0 ≡ bytes → ⊥)
    → (value : Option (List ℕ)) → HasTillText what most value → option_field size value ≡ bytes → ⊥
option_none what most size bytes e other value has f = by_case value (subst (λ w. HasTillText w most value) e has) f
  where
    by_case : (value : Option (List ℕ)) → HasTillText Reversal most value → option_field size value ≡ bytes → ⊥
    by_case None has f = other f
    by_case (Some text) has f = has

-- a text that isn't one of an identifier spells no other identifier
pub text_none : (size most : ℕ) (text bytes : List ℕ) → text_field size text ≡ bytes → (IsIdent most text → ⊥)
    → (value : List ℕ) → IsIdent most value → text_field size value ≡ bytes → ⊥
text_none size most text bytes e other value is f =
    other (subst (IsIdent most) (text_field-injective size value text (f ∙ sym e)) is)
