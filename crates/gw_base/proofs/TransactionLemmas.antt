-- The text of a transaction has its numbers.
use Rattle.std.proofs.Common.{◌≡◌, ◌∙◌, ℕ, zero, suc, ◌+◌, ◌/◌, ◌%◌, ◌^◌, ◌<◌, List, [], ◌∷◌, ◌++◌, length, take, drop, get_or, decimal, refl, sym, ap, arith}
use Rattle.std.proofs.Math.Seq.{drop-append_seam, take-append_seam}
use Rattle.std.proofs.lemmas.List.{length-append}
use Rattle.std.proofs.lemmas.Fmt.{decimal_injective}
use Rattle.gw_base.specs.Digits.{digits}
use Rattle.gw_base.specs.Transaction.{TransactionTextsDiffer, transaction_text}

length-digits : (count value : ℕ) → length (digits count value) ≡ count
length-digits zero value = refl
length-digits (suc count) value =
    omega (arith, length-append (digits count (value / 10)) ((0x30 + value % 10) ∷ []), length-digits count (value / 10))

-- of equal texts, first parts of one length are equal
same_first : (n : ℕ) (a b c d : List ℕ) → length a ≡ n → length b ≡ n → a ++ c ≡ b ++ d → a ≡ b
same_first n a b c d p q e =
    sym (take-append_seam a c) ∙ ap (λ k. take k (a ++ c)) p ∙ ap (take n) e ∙ ap (λ k. take k (b ++ d)) (sym q) ∙ take-append_seam b d

-- and so is what follows them
same_rest : (n : ℕ) (a b c d : List ℕ) → length a ≡ n → length b ≡ n → a ++ c ≡ b ++ d → c ≡ d
same_rest n a b c d p q e =
    sym (drop-append_seam a c) ∙ ap (λ k. drop k (a ++ c)) p ∙ ap (drop n) e ∙ ap (λ k. drop k (b ++ d)) (sym q) ∙ drop-append_seam b d

-- so many digits are those of one number only that has no more
digits_identify : (count a b : ℕ) → a < 10 ^ count → b < 10 ^ count → digits count a ≡ digits count b → a ≡ b
digits_identify zero a b p q e = omega (arith, p, q)
digits_identify (suc count) a b p q e =
    let firsts = same_first count (digits count (a / 10)) (digits count (b / 10)) ((0x30 + a % 10) ∷ []) ((0x30 + b % 10) ∷ [])
    (length-digits count (a / 10)) (length-digits count (b / 10)) e in
    let lasts : (0x30 + a % 10) ∷ [] ≡ (0x30 + b % 10) ∷ [] =
    same_rest count (digits count (a / 10)) (digits count (b / 10)) ((0x30 + a % 10) ∷ []) ((0x30 + b % 10) ∷ [])
    (length-digits count (a / 10)) (length-digits count (b / 10)) e in
    let ones : 0x30 + a % 10 ≡ 0x30 + b % 10 = ap (λ l. get_or l 0 0) lasts in
    let tens : a / 10 ≡ b / 10 = digits_identify count (a / 10) (b / 10) (omega (arith, p)) (omega (arith, q)) firsts in
    omega (arith, ones, tens)

pub transaction_texts_differ : TransactionTextsDiffer
unfolding transaction_text
transaction_texts_differ trace receipt slot other_trace other_receipt other_slot here there e =
    let after_trace : 0x2D ∷ (digits 4 receipt ++ (0x2D ∷ decimal slot)) ≡ 0x2D ∷ (digits 4 other_receipt ++ (0x2D ∷ decimal other_slot)) =
    same_rest 6 (digits 6 trace) (digits 6 other_trace) _ _ (length-digits 6 trace) (length-digits 6 other_trace) e in
    let receipts : digits 4 receipt ++ (0x2D ∷ decimal slot) ≡ digits 4 other_receipt ++ (0x2D ∷ decimal other_slot) = ap (drop 1) after_trace in
    let slots : decimal slot ≡ decimal other_slot =
    ap (drop 1) (same_rest 4 (digits 4 receipt) (digits 4 other_receipt) (0x2D ∷ decimal slot) (0x2D ∷ decimal other_slot)
    (length-digits 4 receipt) (length-digits 4 other_receipt) receipts) in (
      digits_identify 6 trace other_trace (omega (arith, here.six_digits)) (omega (arith, there.six_digits))
          (same_first 6 (digits 6 trace) (digits 6 other_trace) _ _ (length-digits 6 trace) (length-digits 6 other_trace) e),
      digits_identify 4 receipt other_receipt (omega (arith, here.four_digits)) (omega (arith, there.four_digits))
          (same_first 4 (digits 4 receipt) (digits 4 other_receipt) (0x2D ∷ decimal slot) (0x2D ∷ decimal other_slot)
          (length-digits 4 receipt) (length-digits 4 other_receipt) receipts),
      decimal_injective slot other_slot (omega (arith, here.slot_fits)) (omega (arith, there.slot_fits)) slots,
    )
