-- The number of a word, as `parse` reads it.
use Rattle.std.proofs.Common.{◌≡◌, ℕ, ◌<◌, ◌^◌, List, [], ◌∷◌, length, refl, sym, ◌∙◌, ap, arith, get_or, lit<}
use Rattle.std.proofs.lemmas.Str.Parse.{numerals_by_value, tells_digits, parse_plain}
use Rattle.std.specs.Str.Parse.{AllDigits, digits_value, ParsesUnsigned}
use Rattle.std.specs.Result.{OkIff, result_ok}
use Rattle.std.specs.Prelude.{◌≢◌, Option, Some, None, Result, Ok, Err}
use Rattle.gw_script.specs.Decode.{more_digits, number}
use Rattle.gw_script.proofs.NumberLemmas.{IsRead, more_read, number_plain, read_more}

read_from : {E : Type 0} (word : List ℕ) (r : Result ℕ E) → 0 < length word → OkIff r (AllDigits 10 word × (0 < length word) × (digits_value 10 word < 2 ^ 64)) (digits_value 10 word) → result_ok r ≡ more_digits 0 word
read_from word (Ok x) some h = ap Some h.1 ∙ sym (more_read 0 word h.0.0 h.0.2)
read_from word (Err e) some h = by_read (more_digits 0 word) (read_more 0 word)
  where
    by_read : (o : Option ℕ) → ((v : ℕ) → 0 < 2 ^ 64 → o ≡ Some v → IsRead 0 word) → None ≡ o
    by_read None read = refl
    by_read (Some v) read = let is = read v (lit< tt) refl in absurd (h (is.digits, some, is.small))

pub number_parsed : {E : Type 0} (word : List ℕ) (r : Result ℕ E) → ParsesUnsigned 64 10 word r → get_or word 0 0 ≢ 43 → (1 < length word → get_or word 0 0 ≢ 48) → result_ok r ≡ number word
number_parsed {E} [] (Ok x) parsed plus zero = absurd (let h = parse_plain (numerals_by_value (AllDigits 10) tells_digits) {E = E} 64 [] (Ok x) parsed plus in omega (arith, h.0.1))
number_parsed [] (Err e) parsed plus zero = refl
number_parsed (d ∷ ds) r parsed plus zero =
    read_from (d ∷ ds) r (omega arith) (parse_plain (numerals_by_value (AllDigits 10) tells_digits) 64 (d ∷ ds) r parsed plus) ∙ sym (number_plain d ds zero)
