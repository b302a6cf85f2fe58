-- The first output for the customer's display, one output after the other.
use Rattle.std.proofs.Common.{◌≡◌, ◌∙◌, ℕ, zero, suc, ◌+◌, ◌<◌, Bool, true, false, cond, List, [], ◌∷◌, length, get_or, map, take, Some, None, sym, ap, subst, arith}
use Rattle.std.proofs.lemmas.List.{map-id}
use Rattle.std.proofs.lemmas.Simd.{map-map}
use Rattle.arrayvec.specs.ArrayVec.{ArrayVec}
use Rattle.sale_values.specs.declared.request.Output.{Output}
use Rattle.zvt_msg.specs.declared.command.Command.TheVariants.{Show}
use Rattle.xlate.specs.Display.{customer_output, is_for_customer, show_lines}

-- none so far, and not this one
none_more : (xs : List Output) (i : ℕ) (x : Output) → i < length xs → x ≡ get_or xs i x → is_for_customer x ≡ false
    → customer_output (take i xs) ≡ None → customer_output (take (suc i) xs) ≡ None
none_more [] i x lt at other before = absurd (omega (arith, lt))
none_more (y ∷ ys) zero x lt at other before = ap (λ b. cond b (Some y) None) (ap is_for_customer (sym at) ∙ other)
none_more (y ∷ ys) (suc i) x lt at other before = by_test (is_for_customer y) before (none_more ys i x (omega (arith, lt)) at other)
  where
    by_test : (b : Bool) → cond b (Some y) (customer_output (take i ys)) ≡ None
        → (customer_output (take i ys) ≡ None → customer_output (take (suc i) ys) ≡ None)
        → cond b (Some y) (customer_output (take (suc i) ys)) ≡ None
    by_test true clash next = let wrong : Some y ≡ None = clash in absurd cc
    by_test false none next = next none

pub none_next : (xs : List Output) (i : ℕ) (x : Output) → i < length xs → x ≡ get_or xs i x → is_for_customer x ≡ false
    → customer_output (take i xs) ≡ None → customer_output (take (i + 1) xs) ≡ None
none_next xs i x lt at other before =
    let next : suc i ≡ i + 1 = omega arith in
    subst (λ n. customer_output (take n xs) ≡ None) next (none_more xs i x lt at other before)

-- none so far, and this one
pub first_here : (xs : List Output) (i : ℕ) (x : Output) → i < length xs → x ≡ get_or xs i x → is_for_customer x ≡ true
    → customer_output (take i xs) ≡ None → Some x ≡ customer_output xs
first_here [] i x lt at so before = absurd (omega (arith, lt))
first_here (y ∷ ys) zero x lt at so before =
    ap Some at ∙ sym (ap (λ b. cond b (Some y) (customer_output ys)) (ap is_for_customer (sym at) ∙ so))
first_here (y ∷ ys) (suc i) x lt at so before = by_test (is_for_customer y) before (first_here ys i x (omega (arith, lt)) at so)
  where
    by_test : (b : Bool) → cond b (Some y) (customer_output (take i ys)) ≡ None
        → (customer_output (take i ys) ≡ None → Some x ≡ customer_output ys)
        → Some x ≡ cond b (Some y) (customer_output ys)
    by_test true clash next = let wrong : Some y ≡ None = clash in absurd cc
    by_test false none next = next none

-- lines with these texts are the lines of a display that shows them
pub same_lines : (lines : ArrayVec (ArrayVec ℕ)) (texts : List (List ℕ)) → map (λ (line : ArrayVec ℕ). line.items) lines.items ≡ texts
    → Show lines ≡ show_lines texts
same_lines lines texts e =
    let line_of : List ℕ → ArrayVec ℕ = λ text. record { items = text } in
    ap (λ (all : List (ArrayVec ℕ)). Show (record { items = all }))
    (sym (map-id lines.items) ∙ sym (map-map line_of (λ (line : ArrayVec ℕ). line.items) lines.items) ∙ ap (map line_of) e)
