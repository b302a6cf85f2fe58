-- The text that identifies a transaction: it is written in its form, and its parts are found again.
use Rattle.std.proofs.Common.{◌≡◌, ℕ, ◌+◌, ◌/◌, ◌%◌, ◌^◌, ◌<◌, ◌≤◌, List, [], ◌∷◌, ◌++◌, All, Option, Some, None, length, arith, decimal, drop, take, refl, sym, ap, ◌∙◌, subst, zero, suc, get_or}
use Rattle.std.proofs.Math.Seq.{drop-append_seam, drop-cons, length-take-le, take-append_seam}
use Rattle.std.proofs.lemmas.List.{length-append, take-append-drop}
use Rattle.std.proofs.lemmas.List.Elements.{All-nil, All-push}
use Rattle.std.proofs.lemmas.Fmt.{length-decimal-le}
use Rattle.std.specs.Char.{IsAsciiDigit}
use Rattle.gw_base.specs.Digits.{digits}
use Rattle.gw_base.specs.Transaction.{transaction_text}
use Rattle.sale_seen.specs.Transaction.{AreSoManyDigits, IsTransactionIdentifier}
use Rattle.sale_seen.specs.inner.Spelled.{FollowsDigits, IsSlotText, spelled_on}
use Rattle.sale_seen.proofs.MoneyLemmas.{decimal_spells}

-- ---- what is written

digits_are : (count value : ℕ) → AreSoManyDigits count (digits count value)
digits_are zero value = record { many = refl; digits = All-nil IsAsciiDigit }
digits_are (suc count) value =
    let before = digits_are count (value / 10) in
    let last : IsAsciiDigit (48 + value % 10) = (omega arith, omega arith) in
    record {
      many = omega (arith, length-append (digits count (value / 10)) ((48 + value % 10) ∷ []), before.many);
      digits = All-push IsAsciiDigit (digits count (value / 10)) (48 + value % 10) before.digits last;
    }

pub transaction_is : (trace receipt slot : ℕ) → slot < 2 ^ 32 → IsTransactionIdentifier (transaction_text trace receipt slot)
unfolding transaction_text
transaction_is trace receipt slot small = (
  digits 6 trace,
  digits 4 receipt,
  slot,
  record { six = digits_are 6 trace; four = digits_are 4 receipt; fits = small; spelled = refl },
)

-- ---- what is read

-- a text that begins with so many digits and a dash, in its two parts
record Divides (count : ℕ) (text digits rest : List ℕ) : Type 0 where
  first : take count text ≡ digits
  second : drop count text ≡ 0x2D ∷ rest

divides : (count : ℕ) (text digits rest : List ℕ) → AreSoManyDigits count digits → text ≡ digits ++ 0x2D ∷ rest → Divides count text digits rest
divides count text digits rest are e = record {
  first = ap (take count) e ∙ ap (λ n. take n (digits ++ 0x2D ∷ rest)) (sym are.many) ∙ take-append_seam digits (0x2D ∷ rest);
  second = ap (drop count) e ∙ ap (λ n. drop n (digits ++ 0x2D ∷ rest)) (sym are.many) ∙ drop-append_seam digits (0x2D ∷ rest);
}

-- only one text follows the digits
follows_one : (count : ℕ) (text a b : List ℕ) → FollowsDigits count text a → FollowsDigits count text b → a ≡ b
follows_one count text a b (p, pd, e) (q, qd, f) =
    let same : 0x2D ∷ a ≡ 0x2D ∷ b = sym (divides count text p a pd e).second ∙ (divides count text q b qd f).second in
    cc

pub no_trace : (text : List ℕ) → ((rest : List ℕ) → ¬ FollowsDigits 6 text rest) → ¬ IsTransactionIdentifier text
no_trace text none (trace, receipt, slot, h) = none (receipt ++ 0x2D ∷ decimal slot) (trace, h.six, h.spelled)

pub no_receipt : (text rest : List ℕ) → FollowsDigits 6 text rest → ((slot : List ℕ) → ¬ FollowsDigits 4 rest slot) → ¬ IsTransactionIdentifier text
no_receipt text rest begins none (trace, receipt, slot, h) =
    let same = follows_one 6 text rest (receipt ++ 0x2D ∷ decimal slot) begins (trace, h.six, h.spelled) in
    none (decimal slot) (receipt, h.four, same)

-- with the digits and dashes, the text is a transaction's exactly where the rest is a slot
pub slot_left : (text rest slot : List ℕ) → FollowsDigits 6 text rest → FollowsDigits 4 rest slot → IsTransactionIdentifier text → IsSlotText slot
slot_left text rest slot begins more (trace, receipt, number, h) =
    let same = follows_one 6 text rest (receipt ++ 0x2D ∷ decimal number) begins (trace, h.six, h.spelled) in
    (number, h.fits, follows_one 4 rest slot (decimal number) more (receipt, h.four, same))

pub slot_is : (text rest slot : List ℕ) → FollowsDigits 6 text rest → FollowsDigits 4 rest slot → IsSlotText slot → IsTransactionIdentifier text
slot_is text rest slot (trace, td, e) (receipt, rd, f) (last, small, is) = (
  trace,
  receipt,
  last,
  record {
    six = td;
    four = rd;
    fits = small;
    spelled = e ∙ ap (λ r. trace ++ 0x2D ∷ r) f ∙ ap (λ s. trace ++ (0x2D ∷ (receipt ++ (0x2D ∷ s)))) is;
  },
)

-- the text of a slot spells it
pub slot_spells : (text : List ℕ) (slot : ℕ) → slot < 2 ^ 32 → text ≡ decimal slot → spelled_on 0 text ≡ slot
slot_spells text slot small is = ap (spelled_on 0) is ∙ decimal_spells slot (omega (arith, small))

-- such a text has at most 22 bytes
pub transaction_length : (text : List ℕ) → IsTransactionIdentifier text → length text ≤ 80
transaction_length text (trace, receipt, slot, h) =
    let last = length-decimal-le 10 slot (omega (arith, h.fits)) (omega (arith, h.fits)) (omega arith) in
    let back = length-append receipt (0x2D ∷ decimal slot) in
    let whole = length-append trace (0x2D ∷ (receipt ++ (0x2D ∷ decimal slot))) in
    omega (arith, ap length h.spelled, whole, back, last, h.six.many, h.four.many)

-- ---- the digits before a dash

pub too_few : (count : ℕ) (text : List ℕ) → length text ≤ count → (rest : List ℕ) → ¬ FollowsDigits count text rest
too_few count text few rest (digits, are, e) =
    omega (arith, ap length e, length-append digits (0x2D ∷ rest), are.many, few)

pub no_dash : (count : ℕ) (text : List ℕ) → count < length text → (get_or text count 0 ≡ 0x2D → ⊥) → (rest : List ℕ) → ¬ FollowsDigits count text rest
no_dash count text more other rest (digits, are, e) =
    let parts = divides count text digits rest are e in
    let next : drop count text ≡ get_or text count 0 ∷ drop (suc count) text = drop-cons text count 0 more in
    let same : get_or text count 0 ∷ drop (suc count) text ≡ 0x2D ∷ rest = sym next ∙ parts.second in
    other cc

pub no_digits : (count : ℕ) (text : List ℕ) → ¬ All IsAsciiDigit (take count text) → (rest : List ℕ) → ¬ FollowsDigits count text rest
no_digits count text none rest (digits, are, e) =
    let parts = divides count text digits rest are e in
    none (subst (All IsAsciiDigit) (sym parts.first) are.digits)

pub follows : (count : ℕ) (text : List ℕ) → count < length text → get_or text count 0 ≡ 0x2D → All IsAsciiDigit (take count text)
    → FollowsDigits count text (drop (suc count) text)
follows count text more dash all = (
  take count text,
  record { many = length-take-le count text (omega (arith, more)); digits = all },
  sym (take-append-drop count text)
      ∙ ap (λ rest. take count text ++ rest) (drop-cons text count 0 more)
      ∙ ap (λ byte. take count text ++ byte ∷ drop (suc count) text) dash,
)
