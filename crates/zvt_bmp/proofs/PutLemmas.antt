-- What is known of the fields read so far is their values by the grammar.
use Rattle.std.proofs.Common.{◌≡◌, ℕ, Bool, true, false, cond, eqb, List, [], ◌∷◌, ◌++◌, Option, Some, None, refl, sym, ap, subst, ◌∙◌, inl, inr}
use Rattle.std.specs.Prelude.{◌&&◌, ◌||◌, is_some, slice_index, option_and_then}
use Rattle.std.specs.Option.{option_map}
use Rattle.std.proofs.lemmas.Bool.{cases_eq, ne_eqb}
use Rattle.gw_base.specs.Bcd.{IsBcd, bcd_value, is_bcd}
use Rattle.zvt_bmp.specs.declared.fields.FieldsSoFar.{FieldsSoFar}
use Rattle.zvt_bmp.specs.Grammar.{Field, has_field, first_field_value, digits_of, status_of_fields, is_single, RepeatsField, HasDigitsField, IsWellFormedAfter}
use Rattle.zvt_bmp.specs.Decode.{may_not_repeat, first_currency, put_field}
use Rattle.gw_base.proofs.BcdLemmas.{bcd_passes, passes_bcd}

abbrev pub fields_so_far : List Field → FieldsSoFar
fields_so_far before = record { fields = status_of_fields before 0; receipt = has_field 0x87 before }

-- ---- which number it is

pub data Which : ℕ → Type 0 where
  Result_ : {n : ℕ} → n ≡ 0x27 → Which n
  Amount_ : {n : ℕ} → n ≡ 0x04 → Which n
  Trace_ : {n : ℕ} → n ≡ 0x0B → Which n
  Receipt_ : {n : ℕ} → n ≡ 0x87 → Which n
  Currency_ : {n : ℕ} → n ≡ 0x49 → Which n
  Other_ : {n : ℕ} → eqb n 0x27 ≡ false → eqb n 0x04 ≡ false → eqb n 0x0B ≡ false → eqb n 0x87 ≡ false → eqb n 0x49 ≡ false → Which n

pub which : (n : ℕ) → Which n
which n =
    elim (cases_eq n 0x27) [
      | inl e ↦ Result_ e
      | inr a ↦ elim (cases_eq n 0x04) [
        | inl e ↦ Amount_ e
        | inr b ↦ elim (cases_eq n 0x0B) [
          | inl e ↦ Trace_ e
          | inr c ↦ elim (cases_eq n 0x87) [
            | inl e ↦ Receipt_ e
            | inr d ↦ elim (cases_eq n 0x49) [
              | inl e ↦ Currency_ e
              | inr f ↦ Other_ (ne_eqb _ _ a) (ne_eqb _ _ b) (ne_eqb _ _ c) (ne_eqb _ _ d) (ne_eqb _ _ f)
            ]
          ]
        ]
      ]
    ]

-- ---- has

is_some-map : {A B : Type 0} (f : A → B) (o : Option A) → is_some (option_map f o) ≡ is_some o
is_some-map f None = refl
is_some-map f (Some x) = refl

some_cond : (b : Bool) (value : List ℕ) (o : Option (List ℕ)) → is_some (cond b (Some value) o) ≡ (b || is_some o)
some_cond true value o = refl
some_cond false value o = refl

some_has : (number : ℕ) (fields : List Field) → is_some (first_field_value number fields) ≡ has_field number fields
some_has number [] = refl
some_has number (field ∷ fields) = some_cond (eqb field.number number) field.value (first_field_value number fields) ∙ ap (λ (b : Bool). eqb field.number number || b) (some_has number fields)

pub may_not_repeat_is : (before : List Field) (number : ℕ) → may_not_repeat (fields_so_far before) number ≡ (is_single number && has_field number before)
may_not_repeat_is before number =
    elim (which number) [
      | Result_ e ↦ rw e (is_some-map (λ (v : List ℕ). slice_index v 0) (first_field_value 0x27 before) ∙ some_has 0x27 before)
      | Amount_ e ↦ rw e (is_some-map bcd_value (first_field_value 0x04 before) ∙ some_has 0x04 before)
      | Trace_ e ↦ rw e (is_some-map bcd_value (first_field_value 0x0B before) ∙ some_has 0x0B before)
      | Receipt_ e ↦ rw e refl
      | Currency_ e ↦ rw e refl
      | Other_ a b c d f ↦ rw (a, b, c, d) refl
    ]

-- ---- one field more

abbrev or_first : Option (List ℕ) → Option (List ℕ) → Option (List ℕ)
or_first None o = o
or_first (Some x) o = Some x

push_cond : (b : Bool) (value : List ℕ) (o p : Option (List ℕ)) → cond b (Some value) (or_first o p) ≡ or_first (cond b (Some value) o) p
push_cond true value o p = refl
push_cond false value o p = refl

first_push : (number : ℕ) (fields : List Field) (field : Field) → first_field_value number (fields ++ field ∷ []) ≡ or_first (first_field_value number fields) (cond (eqb field.number number) (Some field.value) None)
first_push number [] field = refl
first_push number (first ∷ fields) field =
    ap (cond (eqb first.number number) (Some first.value)) (first_push number fields field)
    ∙ push_cond (eqb first.number number) first.value (first_field_value number fields) (cond (eqb field.number number) (Some field.value) None)

or_none : (o : Option (List ℕ)) → or_first o None ≡ o
or_none None = refl
or_none (Some x) = refl

same_first : (number : ℕ) (fields : List Field) (field : Field) → eqb field.number number ≡ false → first_field_value number (fields ++ field ∷ []) ≡ first_field_value number fields
same_first number fields field other =
    first_push number fields field ∙ ap (λ (b : Bool). or_first (first_field_value number fields) (cond b (Some field.value) None)) other ∙ or_none (first_field_value number fields)

added_first : (number : ℕ) (fields : List Field) (field : Field) → eqb field.number number ≡ true → first_field_value number (fields ++ field ∷ []) ≡ or_first (first_field_value number fields) (Some field.value)
added_first number fields field is =
    first_push number fields field ∙ ap (λ (b : Bool). or_first (first_field_value number fields) (cond b (Some field.value) None)) is

new_first : (number : ℕ) (fields : List Field) (field : Field) → first_field_value number fields ≡ None → eqb field.number number ≡ true → first_field_value number (fields ++ field ∷ []) ≡ Some field.value
new_first number fields field none is = added_first number fields field is ∙ ap (λ (o : Option (List ℕ)). or_first o (Some field.value)) none

or_swap : (a b c : Bool) → (a || (b || c)) ≡ ((a || b) || c)
or_swap true b c = refl
or_swap false b c = refl

or_end : (b : Bool) → (b || false) ≡ b
or_end true = refl
or_end false = refl

has_push : (number : ℕ) (fields : List Field) (field : Field) → has_field number (fields ++ field ∷ []) ≡ (has_field number fields || eqb field.number number)
has_push number [] field = or_end (eqb field.number number)
has_push number (first ∷ fields) field =
    ap (λ (b : Bool). eqb first.number number || b) (has_push number fields field) ∙ or_swap (eqb first.number number) (has_field number fields) (eqb field.number number)

or_true : (b : Bool) → (b || true) ≡ true
or_true true = refl
or_true false = refl

same_has : (number : ℕ) (fields : List Field) (field : Field) → eqb field.number number ≡ false → has_field number (fields ++ field ∷ []) ≡ has_field number fields
same_has number fields field other = has_push number fields field ∙ ap (λ (b : Bool). has_field number fields || b) other ∙ or_end (has_field number fields)

new_has : (number : ℕ) (fields : List Field) (field : Field) → eqb field.number number ≡ true → has_field number (fields ++ field ∷ []) ≡ true
new_has number fields field is = has_push number fields field ∙ ap (λ (b : Bool). has_field number fields || b) is ∙ or_true (has_field number fields)

none_by : (o : Option (List ℕ)) → is_some o ≡ false → o ≡ None
none_by None e = refl
none_by (Some x) e = absurd cc

not_true : (b : Bool) → (b ≡ true → ⊥) → b ≡ false
not_true true h = absurd (h refl)
not_true false h = refl

-- a number that does not come again was not there
pub none_before : (number : ℕ) (before : List Field) → is_single number ≡ true → (RepeatsField before number → ⊥) → first_field_value number before ≡ None
none_before number before single once =
    none_by (first_field_value number before) (some_has number before ∙ not_true (has_field number before) (λ e. once (rw (single, e) refl)))

currency_first : (o : Option (List ℕ)) (value : List ℕ) → first_currency o value ≡ or_first o (Some value)
currency_first None value = refl
currency_first (Some x) value = refl

at_number : (field : Field) (number : ℕ) (n : ℕ) (b : Bool) → field.number ≡ number → eqb number n ≡ b → eqb field.number n ≡ b
at_number field number n b e is = rw e is

-- what is known, by the first value of each number that is read, and whether a receipt number was there
abbrev known : Option (List ℕ) → Option (List ℕ) → Option (List ℕ) → Option (List ℕ) → Option (List ℕ) → Bool → FieldsSoFar
known result amount trace receipt currency so_far = record {
  fields = record {
    result = option_map (λ value. slice_index value 0) result;
    amount = option_map bcd_value amount;
    trace = option_map bcd_value trace;
    receipt = option_and_then digits_of receipt;
    currency = currency;
    tail = 0;
  };
  receipt = so_far;
}

same_known : (a b c d e a' b' c' d' e' : Option (List ℕ)) (f f' : Bool) → a ≡ a' → b ≡ b' → c ≡ c' → d ≡ d' → e ≡ e' → f ≡ f' → known a b c d e f ≡ known a' b' c' d' e' f'
same_known a b c d e a' b' c' d' e' f f' p q r s t u =
    ap (λ (x : Option (List ℕ)). known x b c d e f) p ∙ ap (λ (x : Option (List ℕ)). known a' x c d e f) q
    ∙ ap (λ (x : Option (List ℕ)). known a' b' x d e f) r ∙ ap (λ (x : Option (List ℕ)). known a' b' c' x e f) s
    ∙ ap (λ (x : Option (List ℕ)). known a' b' c' d' x f) t ∙ ap (λ (x : Bool). known a' b' c' d' e' x) u

abbrev some_fields : FieldsSoFar → Option FieldsSoFar
some_fields so_far = Some so_far

-- the values that are known after a field
now_known : (before : List Field) (field : Field) (a b c d e : Option (List ℕ)) (f : Bool)
    → first_field_value 0x27 (before ++ field ∷ []) ≡ a → first_field_value 0x04 (before ++ field ∷ []) ≡ b → first_field_value 0x0B (before ++ field ∷ []) ≡ c
    → first_field_value 0x87 (before ++ field ∷ []) ≡ d → first_field_value 0x49 (before ++ field ∷ []) ≡ e → has_field 0x87 (before ++ field ∷ []) ≡ f
    → some_fields (known a b c d e f) ≡ Some (fields_so_far (before ++ field ∷ []))
now_known before field a b c d e f p q r s t u = ap some_fields (sym (same_known _ _ _ _ _ a b c d e _ f p q r s t u))

-- what is put, at a number that is known
put_at : (so_far : FieldsSoFar) (number : ℕ) (n : ℕ) (value : List ℕ) → number ≡ n → put_field so_far number value ≡ put_field so_far n value
put_at so_far number n value e = ap (λ (k : ℕ). put_field so_far k value) e

put_in_digits : (b : Bool) (x : FieldsSoFar) → b ≡ true → cond b (some_fields x) None ≡ Some x
put_in_digits b x e = rw e refl

receipt_of : (value : List ℕ) (o : Option (List ℕ)) (b : Bool) → o ≡ None → cond b (Some (bcd_value value)) (option_and_then digits_of o) ≡ cond b (Some (bcd_value value)) None
receipt_of value o b e = ap (λ (p : Option (List ℕ)). cond b (Some (bcd_value value)) (option_and_then digits_of p)) e

put_other : (so_far : FieldsSoFar) (number : ℕ) (value : List ℕ) → eqb number 0x27 ≡ false → eqb number 0x04 ≡ false → eqb number 0x0B ≡ false → eqb number 0x87 ≡ false → eqb number 0x49 ≡ false → put_field so_far number value ≡ Some so_far
put_other so_far number value a b c d f = rw (a, b, c, d, f) refl

pub put_field_of : (before : List Field) (field : Field) → IsWellFormedAfter before field → put_field (fields_so_far before) field.number field.value ≡ Some (fields_so_far (before ++ field ∷ []))
put_field_of before field well_formed =
    elim (which field.number) [
      | Result_ e ↦
          let none = none_before 0x27 before refl (subst (λ (n : ℕ). RepeatsField before n → ⊥) e well_formed.once) in
          let result = new_first 0x27 before field none (at_number field 0x27 0x27 true e refl) in
          let amount = same_first 0x04 before field (at_number field 0x27 0x04 false e refl) in
          let trace = same_first 0x0B before field (at_number field 0x27 0x0B false e refl) in
          let receipt = same_first 0x87 before field (at_number field 0x27 0x87 false e refl) in
          let currency = same_first 0x49 before field (at_number field 0x27 0x49 false e refl) in
          let so_far = same_has 0x87 before field (at_number field 0x27 0x87 false e refl) in
          put_at (fields_so_far before) field.number 0x27 field.value e ∙ now_known before field _ _ _ _ _ _ result amount trace receipt currency so_far
      | Amount_ e ↦
          let none = none_before 0x04 before refl (subst (λ (n : ℕ). RepeatsField before n → ⊥) e well_formed.once) in
          let result = same_first 0x27 before field (at_number field 0x04 0x27 false e refl) in
          let amount = new_first 0x04 before field none (at_number field 0x04 0x04 true e refl) in
          let trace = same_first 0x0B before field (at_number field 0x04 0x0B false e refl) in
          let receipt = same_first 0x87 before field (at_number field 0x04 0x87 false e refl) in
          let currency = same_first 0x49 before field (at_number field 0x04 0x49 false e refl) in
          let so_far = same_has 0x87 before field (at_number field 0x04 0x87 false e refl) in
          let digits = bcd_passes field.value (well_formed.digits (inl e)) in
          put_at (fields_so_far before) field.number 0x04 field.value e
          ∙ put_in_digits (is_bcd field.value) (known (first_field_value 0x27 before) (Some field.value) (first_field_value 0x0B before) (first_field_value 0x87 before) (first_field_value 0x49 before) (has_field 0x87 before)) digits
          ∙ now_known before field _ _ _ _ _ _ result amount trace receipt currency so_far
      | Trace_ e ↦
          let none = none_before 0x0B before refl (subst (λ (n : ℕ). RepeatsField before n → ⊥) e well_formed.once) in
          let result = same_first 0x27 before field (at_number field 0x0B 0x27 false e refl) in
          let amount = same_first 0x04 before field (at_number field 0x0B 0x04 false e refl) in
          let trace = new_first 0x0B before field none (at_number field 0x0B 0x0B true e refl) in
          let receipt = same_first 0x87 before field (at_number field 0x0B 0x87 false e refl) in
          let currency = same_first 0x49 before field (at_number field 0x0B 0x49 false e refl) in
          let so_far = same_has 0x87 before field (at_number field 0x0B 0x87 false e refl) in
          let digits = bcd_passes field.value (well_formed.digits (inr e)) in
          put_at (fields_so_far before) field.number 0x0B field.value e
          ∙ put_in_digits (is_bcd field.value) (known (first_field_value 0x27 before) (first_field_value 0x04 before) (Some field.value) (first_field_value 0x87 before) (first_field_value 0x49 before) (has_field 0x87 before)) digits
          ∙ now_known before field _ _ _ _ _ _ result amount trace receipt currency so_far
      | Receipt_ e ↦
          let none = none_before 0x87 before refl (subst (λ (n : ℕ). RepeatsField before n → ⊥) e well_formed.once) in
          let result = same_first 0x27 before field (at_number field 0x87 0x27 false e refl) in
          let amount = same_first 0x04 before field (at_number field 0x87 0x04 false e refl) in
          let trace = same_first 0x0B before field (at_number field 0x87 0x0B false e refl) in
          let receipt = new_first 0x87 before field none (at_number field 0x87 0x87 true e refl) in
          let currency = same_first 0x49 before field (at_number field 0x87 0x49 false e refl) in
          let so_far = new_has 0x87 before field (at_number field 0x87 0x87 true e refl) in
          let receipts = receipt_of field.value (first_field_value 0x87 before) (is_bcd field.value) none in
          put_at (fields_so_far before) field.number 0x87 field.value e
          ∙ ap (λ (r : Option ℕ). some_fields (record (fields_so_far before) { receipt = true; fields = record (status_of_fields before 0) { receipt = r } })) receipts
          ∙ now_known before field _ _ _ _ _ _ result amount trace receipt currency so_far
      | Currency_ e ↦
          let result = same_first 0x27 before field (at_number field 0x49 0x27 false e refl) in
          let amount = same_first 0x04 before field (at_number field 0x49 0x04 false e refl) in
          let trace = same_first 0x0B before field (at_number field 0x49 0x0B false e refl) in
          let receipt = same_first 0x87 before field (at_number field 0x49 0x87 false e refl) in
          let currency = added_first 0x49 before field (at_number field 0x49 0x49 true e refl) ∙ sym (currency_first (first_field_value 0x49 before) field.value) in
          let so_far = same_has 0x87 before field (at_number field 0x49 0x87 false e refl) in
          put_at (fields_so_far before) field.number 0x49 field.value e ∙ now_known before field _ _ _ _ _ _ result amount trace receipt currency so_far
      | Other_ a b c d f ↦
          let result = same_first 0x27 before field a in
          let amount = same_first 0x04 before field b in
          let trace = same_first 0x0B before field c in
          let receipt = same_first 0x87 before field d in
          let currency = same_first 0x49 before field f in
          let so_far = same_has 0x87 before field d in
          put_other (fields_so_far before) field.number field.value a b c d f ∙ now_known before field _ _ _ _ _ _ result amount trace receipt currency so_far
    ]

-- an amount or a trace number that is not in digits is not put
pub put_none : (so_far : FieldsSoFar) (number : ℕ) (value : List ℕ) → HasDigitsField number → (IsBcd value → ⊥) → put_field so_far number value ≡ None
put_none so_far number value in_digits not =
    let test : is_bcd value ≡ false = not_true (is_bcd value) (λ e. not (passes_bcd value e)) in
    elim in_digits [ inl e ↦ rw (e, test) refl | inr e ↦ rw (e, test) refl ]
