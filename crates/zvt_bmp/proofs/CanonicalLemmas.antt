-- Fields that were written are read again.
use Rattle.std.proofs.Common.{◌≡◌, ℕ, ◌-◌, ◌^◌, ◌<◌, Bool, true, false, cond, List, [], ◌∷◌, ◌++◌, length, Option, Some, None, Result, Ok, refl, sym, ap, ◌∙◌, arith}
use Rattle.std.specs.Prelude.{is_some, IfSome}
use Rattle.std.proofs.lemmas.List.{append-nil}
use Rattle.gw_base.specs.Bcd.{IsBcd, bcd_value, bcd_of, is_bcd}
use Rattle.zvt_bmp.specs.declared.length_form.LengthForm.TheVariants.{Fixed}
use Rattle.zvt_bmp.specs.declared.fields.Fields.{Fields}
use Rattle.zvt_bmp.specs.declared.fields.FieldFault.{FieldFault}
use Rattle.zvt_bmp.specs.declared.fields.FieldsSoFar.{FieldsSoFar}
use Rattle.zvt_bmp.specs.Canonical.{HasFieldDigits, canonical_status, canonical_result_field, canonical_digits_field, canonical_currency_field}
use Rattle.zvt_bmp.specs.Decode.{decode_field_value, after_put_field, after_field_value, decode_status_field, with_tail, decode_status_within, no_fields_yet, decode_status}
use Rattle.gw_base.proofs.BcdLemmas.{bcd_passes}
use Rattle.zvt_bmp.proofs.ValueLemmas.{value_found}
use Rattle.zvt_bmp.proofs.DecodeLemmas.{goes_on, empty_within, all_within}

-- what reading the bytes to their end gives
abbrev reading : ℕ → FieldsSoFar → List ℕ → Result Fields FieldFault
reading whole so_far bytes = decode_status_within (length bytes) whole so_far bytes

-- what is known when these fields were there
abbrev known : Option ℕ → Option ℕ → Option ℕ → Option ℕ → Option (List ℕ) → Bool → FieldsSoFar
known result amount trace receipt currency so_far = record {
  fields = record { result = result; amount = amount; trace = trace; receipt = receipt; currency = currency; tail = 0 };
  receipt = so_far;
}

-- a value of a fixed length is there
fixed_value : (value more : List ℕ) (size : ℕ) → length value ≡ size → decode_field_value (Fixed size) (value ++ more) ≡ Ok (value, more)
fixed_value value more size is = value_found (Fixed size) (value ++ more) value more (value, ([], (refl, is), refl), refl)

result_again : (whole : ℕ) (result_code : Option ℕ) (more : List ℕ) → reading whole no_fields_yet (canonical_result_field result_code ++ more) ≡ reading whole (known result_code None None None None false) more
unfolding decode_status_field
result_again whole None more = refl
result_again whole (Some result_code) more = goes_on whole no_fields_yet (0x27 ∷ result_code ∷ more) (known (Some result_code) None None None None false) more (step (whole - length (0x27 ∷ result_code ∷ more))) where
  step : (offset : ℕ) → decode_status_field no_fields_yet offset (0x27 ∷ result_code ∷ more) ≡ Ok (Some (known (Some result_code) None None None None false, more))
  step offset = ap (after_field_value no_fields_yet offset 0x27) (fixed_value (result_code ∷ []) more 1 refl)

-- the digits of a number, written in so many bytes
record Spelt (size : ℕ) (value : ℕ) : Type 0 where
  count : length (bcd_of size value) ≡ size
  digits : is_bcd (bcd_of size value) ≡ true
  number : bcd_value (bcd_of size value) ≡ value

abbrev pub ReadAgain : Type 0
ReadAgain = (count value : ℕ) → value < 100 ^ count → IsBcd (bcd_of count value) × (bcd_value (bcd_of count value) ≡ value)

abbrev pub Count : Type 0
Count = (count value : ℕ) → length (bcd_of count value) ≡ count

spelt : ReadAgain → Count → (size value : ℕ) → value < 100 ^ size → Spelt size value
spelt again count size value fits = record { count = count size value; digits = bcd_passes (bcd_of size value) (again size value fits).0; number = (again size value fits).1 }

digits_put : (b : Bool) (n value : ℕ) (f : ℕ → FieldsSoFar) → b ≡ true → n ≡ value → cond b (Some (f n)) None ≡ Some (f value)
digits_put b n value f test is = rw (test, is) refl

amount_again : ReadAgain → Count → (whole : ℕ) (result amount : Option ℕ) (more : List ℕ) → IfSome amount (λ n. n < 100 ^ 6) → reading whole (known result None None None None false) (canonical_digits_field 0x04 6 amount ++ more) ≡ reading whole (known result amount None None None false) more
unfolding decode_status_field
amount_again again count whole result None more fits = refl
amount_again again count whole result (Some n) more fits =
    let so_far = known result None None None None false in
    let s = spelt again count 6 n fits in
    goes_on whole so_far (0x04 ∷ (bcd_of 6 n ++ more)) (known result (Some n) None None None false) more
    (at_amount (whole - length (0x04 ∷ (bcd_of 6 n ++ more))) result (bcd_of 6 n) n more s.count s.digits s.number) where
      at_amount : (offset : ℕ) (result : Option ℕ) (value : List ℕ) (n : ℕ) (more : List ℕ) → length value ≡ 6 → is_bcd value ≡ true → bcd_value value ≡ n → decode_status_field (known result None None None None false) offset (0x04 ∷ (value ++ more)) ≡ Ok (Some (known result (Some n) None None None false, more))
      at_amount offset result value n more size test is =
          ap (after_field_value (known result None None None None false) offset 0x04) (fixed_value value more 6 size)
          ∙ ap (after_put_field offset more) (digits_put (is_bcd value) (bcd_value value) n (λ m. known result (Some m) None None None false) test is)

trace_again : ReadAgain → Count → (whole : ℕ) (result amount trace : Option ℕ) (more : List ℕ) → IfSome trace (λ n. n < 100 ^ 3) → reading whole (known result amount None None None false) (canonical_digits_field 0x0B 3 trace ++ more) ≡ reading whole (known result amount trace None None false) more
unfolding decode_status_field
trace_again again count whole result amount None more fits = refl
trace_again again count whole result amount (Some n) more fits =
    let s = spelt again count 3 n fits in
    goes_on whole (known result amount None None None false) (0x0B ∷ (bcd_of 3 n ++ more)) (known result amount (Some n) None None false) more
    (at_trace (whole - length (0x0B ∷ (bcd_of 3 n ++ more))) (bcd_of 3 n) s.count s.digits s.number) where
      at_trace : (offset : ℕ) (value : List ℕ) → length value ≡ 3 → is_bcd value ≡ true → bcd_value value ≡ n → decode_status_field (known result amount None None None false) offset (0x0B ∷ (value ++ more)) ≡ Ok (Some (known result amount (Some n) None None false, more))
      at_trace offset value size test is =
          ap (after_field_value (known result amount None None None false) offset 0x0B) (fixed_value value more 3 size)
          ∙ ap (after_put_field offset more) (digits_put (is_bcd value) (bcd_value value) n (λ m. known result amount (Some m) None None false) test is)

receipt_put : (b : Bool) (n value : ℕ) (f : Option ℕ → FieldsSoFar) → b ≡ true → n ≡ value → f (cond b (Some n) None) ≡ f (Some value)
receipt_put b n value f test is = rw (test, is) refl

receipt_again : ReadAgain → Count → (whole : ℕ) (result amount trace receipt : Option ℕ) (more : List ℕ) → IfSome receipt (λ n. n < 100 ^ 2) → reading whole (known result amount trace None None false) (canonical_digits_field 0x87 2 receipt ++ more) ≡ reading whole (known result amount trace receipt None (is_some receipt)) more
unfolding decode_status_field
receipt_again again count whole result amount trace None more fits = refl
receipt_again again count whole result amount trace (Some n) more fits =
    let s = spelt again count 2 n fits in
    goes_on whole (known result amount trace None None false) (0x87 ∷ (bcd_of 2 n ++ more)) (known result amount trace (Some n) None true) more
    (at_receipt (whole - length (0x87 ∷ (bcd_of 2 n ++ more))) (bcd_of 2 n) s.count s.digits s.number) where
      at_receipt : (offset : ℕ) (value : List ℕ) → length value ≡ 2 → is_bcd value ≡ true → bcd_value value ≡ n → decode_status_field (known result amount trace None None false) offset (0x87 ∷ (value ++ more)) ≡ Ok (Some (known result amount trace (Some n) None true, more))
      at_receipt offset value size test is =
          ap (after_field_value (known result amount trace None None false) offset 0x87) (fixed_value value more 2 size)
          ∙ ap (λ (s : FieldsSoFar). Ok (Some (s, more))) (receipt_put (is_bcd value) (bcd_value value) n (λ r. known result amount trace r None true) test is)

currency_again : (whole : ℕ) (result amount trace receipt : Option ℕ) (so_far : Bool) (currency : Option (List ℕ)) → IfSome currency (λ c. length c ≡ 2) → reading whole (known result amount trace receipt None so_far) (canonical_currency_field currency ++ []) ≡ reading whole (known result amount trace receipt currency so_far) []
unfolding decode_status_field
currency_again whole result amount trace receipt so_far None size = refl
currency_again whole result amount trace receipt so_far (Some currency) size =
    goes_on whole (known result amount trace receipt None so_far) (0x49 ∷ (currency ++ [])) (known result amount trace receipt (Some currency) so_far) [] (at_currency (whole - length (0x49 ∷ (currency ++ [])))) where
      at_currency : (offset : ℕ) → decode_status_field (known result amount trace receipt None so_far) offset (0x49 ∷ (currency ++ [])) ≡ Ok (Some (known result amount trace receipt (Some currency) so_far, []))
      at_currency offset = ap (after_field_value (known result amount trace receipt None so_far) offset 0x49) (fixed_value currency [] 2 size)

end_again : (whole : ℕ) (so_far : FieldsSoFar) → reading whole so_far [] ≡ Ok (with_tail so_far (whole - 0))
end_again whole so_far = empty_within 0 whole so_far

pub written_again : ReadAgain → Count → (fields : Fields) → HasFieldDigits fields → IfSome fields.currency (λ c. length c ≡ 2) → decode_status (canonical_status fields) ≡ Ok (record fields { tail = length (canonical_status fields) })
written_again again count fields digits size =
    let whole = length (canonical_status fields) in
    let tail = canonical_currency_field fields.currency in
    let fourth = canonical_digits_field 0x87 2 fields.receipt ++ tail in
    let third = canonical_digits_field 0x0B 3 fields.trace ++ fourth in
    let second = canonical_digits_field 0x04 6 fields.amount ++ third in
    sym (all_within (canonical_status fields))
    ∙ result_again whole fields.result second
    ∙ amount_again again count whole fields.result fields.amount third digits.amount
    ∙ trace_again again count whole fields.result fields.amount fields.trace fourth digits.trace
    ∙ receipt_again again count whole fields.result fields.amount fields.trace fields.receipt tail digits.receipt
    ∙ ap (reading whole (known fields.result fields.amount fields.trace fields.receipt None (is_some fields.receipt))) (sym (append-nil tail))
    ∙ currency_again whole fields.result fields.amount fields.trace fields.receipt (is_some fields.receipt) fields.currency size
    ∙ end_again whole (known fields.result fields.amount fields.trace fields.receipt fields.currency (is_some fields.receipt))
    ∙ ap (λ (n : ℕ). Ok (record fields { tail = n })) (omega arith)
