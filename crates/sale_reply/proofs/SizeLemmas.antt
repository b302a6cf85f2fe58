-- How long the parts of a message are at most.
use Rattle.std.proofs.Common.{◌≡◌, ℕ, ◌+◌, ◌*◌, ◌/◌, ◌%◌, ◌<◌, ◌≤◌, ◌^◌, List, [], ◌∷◌, ◌++◌, length, Option, Some, None, refl, zero, suc, subst, arith, length-append, lit≤, lit<, nat_eq, Bool, true, false}
use Rattle.std.specs.Prelude.{flat_map, decimal, IfSome, nat_lt, ◌||◌, if◌then◌else◌}
use Rattle.std.specs.Char.{digit_char}
use Rattle.std.proofs.lemmas.Fmt.{length-decimal-le}
use Rattle.json_text.specs.Canonical.{canonical_string, canonical_byte}
use Rattle.gw_base.specs.Digits.{digits}
use Rattle.sale_values.specs.Money.{money_text}
use Rattle.gw_base.specs.Transaction.{transaction_text}
use Rattle.sale_reply.specs.inner.CanonicalMembers.{first_name, next_name, first_text, next_text, next_optional, next_number}

-- the text has at most so many bytes
pub record IsAtMost (text : List ℕ) (most : ℕ) : Type 0 where
  pub holds : length text ≤ most

-- a greater bound
pub within : {text : List ℕ} {most : ℕ} (more : ℕ) → IsAtMost text most → most ≤ more → IsAtMost text more
within more size le = record { holds = omega (arith, size.holds, le) }

-- one text by two spellings
pub same_size : {text other : List ℕ} {most : ℕ} → text ≡ other → IsAtMost text most → IsAtMost other most
same_size {text} {other} {most} is size = let P : List ℕ → Type 0 = λ t. IsAtMost t most in subst P is size

-- a text of a known length
pub sized : (text : List ℕ) (most : ℕ) → length text ≤ most → IsAtMost text most
sized text most size = record { holds = size }

-- two texts
pub both : {p q : List ℕ} {m n : ℕ} → IsAtMost p m → IsAtMost q n → IsAtMost (p ++ q) (m + n)
both {p} {q} first second = record { holds = omega (arith, length-append p q, first.holds, second.holds) }

escaped_size : (c x y : ℕ) (a b e : Bool) →
    length (if a || b then 92 ∷ c ∷ [] else (if e then 92 ∷ 117 ∷ 48 ∷ 48 ∷ x ∷ y ∷ [] else c ∷ [])) ≤ 6
escaped_size c x y true b e = lit≤ tt
escaped_size c x y false true e = lit≤ tt
escaped_size c x y false false true = lit≤ tt
escaped_size c x y false false false = lit≤ tt

-- a byte of a string
byte_size : (c : ℕ) → length (canonical_byte c) ≤ 6
byte_size c = escaped_size c (digit_char (c / 16)) (digit_char (c % 16)) (nat_eq c 34) (nat_eq c 92) (nat_lt c 32)

bytes_size : (text : List ℕ) → length (flat_map canonical_byte text) ≤ 6 * length text
bytes_size [] = lit≤ tt
bytes_size (c ∷ text) =
    omega (arith, length-append (canonical_byte c) (flat_map canonical_byte text), byte_size c, bytes_size text)

-- a string
pub text_size : {text : List ℕ} {most : ℕ} → IsAtMost text most → IsAtMost (canonical_string text) (6 * most + 2)
text_size {text} size = record {
  holds = omega (arith, length-append (flat_map canonical_byte text) (34 ∷ []), bytes_size text, size.holds);
}

-- bytes that are known
pub known : (text : List ℕ) → IsAtMost text (length text)
known text = record { holds = omega arith }

-- members
pub first_name_size : {name : List ℕ} {n : ℕ} → IsAtMost name n → IsAtMost (first_name name) (6 * n + 2 + 1)
unfolding first_name
first_name_size {name} size = both (text_size size) (known (58 ∷ []))

pub next_name_size : {name : List ℕ} {n : ℕ} → IsAtMost name n → IsAtMost (next_name name) (1 + (6 * n + 2 + 1))
unfolding next_name
next_name_size {name} size = both (known (44 ∷ [])) (both (text_size size) (known (58 ∷ [])))

pub first_text_size : {name text : List ℕ} {n m : ℕ} → IsAtMost name n → IsAtMost text m → IsAtMost (first_text name text) (6 * n + 2 + (1 + (6 * m + 2)))
unfolding first_text
first_text_size named size = both (text_size named) (both (known (58 ∷ [])) (text_size size))

pub next_text_size : {name text : List ℕ} {n m : ℕ} → IsAtMost name n → IsAtMost text m → IsAtMost (next_text name text) (1 + (6 * n + 2 + (1 + (6 * m + 2))))
unfolding next_text
next_text_size named size = both (known (44 ∷ [])) (both (text_size named) (both (known (58 ∷ [])) (text_size size)))

pub next_number_size : {name text : List ℕ} {n m : ℕ} → IsAtMost name n → IsAtMost text m → IsAtMost (next_number name text) (1 + (6 * n + 2 + (1 + m)))
unfolding next_number
next_number_size named size = both (known (44 ∷ [])) (both (text_size named) (both (known (58 ∷ [])) size))

pub next_optional_size : {name : List ℕ} {n : ℕ} (m : ℕ) (text : Option (List ℕ)) → IsAtMost name n → IfSome text (λ t. IsAtMost t m) → IsAtMost (next_optional name text) (1 + (6 * n + 2 + (1 + (6 * m + 2))))
unfolding next_optional
next_optional_size m None named size = record { holds = omega arith }
next_optional_size m (Some text) named size = next_text_size named size

-- numbers
pub decimal_size : (n : ℕ) → n < 2 ^ 64 → IsAtMost (decimal n) 20
decimal_size n fits = record { holds = length-decimal-le 20 n (lit< tt) (omega (arith, fits)) fits }

pub digits_size : (count n : ℕ) → length (digits count n) ≡ count
digits_size zero n = refl
digits_size (suc count) n = omega (arith, length-append (digits count (n / 10)) ((0x30 + n % 10) ∷ []), digits_size count (n / 10))

pub money_size : (units : ℕ) → units < 2 ^ 64 → IsAtMost (money_text units) 23
unfolding money_text
money_size units fits =
    both (decimal_size (units / 100) (omega (arith, fits)))
    (both (known (0x2E ∷ [])) (sized (digits 2 (units % 100)) 2 (omega (arith, digits_size 2 (units % 100)))))

pub transaction_size : (trace receipt slot : ℕ) → slot < 2 ^ 32 → IsAtMost (transaction_text trace receipt slot) 32
unfolding transaction_text
transaction_size trace receipt slot fits =
    both (sized (digits 6 trace) 6 (omega (arith, digits_size 6 trace)))
    (both (known (0x2D ∷ [])) (both (sized (digits 4 receipt) 4 (omega (arith, digits_size 4 receipt)))
    (both (known (0x2D ∷ [])) (decimal_size slot (omega (arith, fits))))))
