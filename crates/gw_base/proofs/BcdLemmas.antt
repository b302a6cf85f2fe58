-- Laws of binary coded decimals.
use Rattle.std.proofs.Common.{◌≡◌, ℕ, zero, suc, ◌+◌, ◌*◌, ◌/◌, ◌%◌, ◌^◌, ◌<◌, ◌≤◌, true, leb, List, [], ◌∷◌, ◌++◌, length, arith, sym, ◌∙◌, ap, length-append, length-take, take, get_or, refl}
use Rattle.std.proofs.Math.Nat.{pow-suc, mul_assoc, mul-le-mul_right, add-mul, pow-le-pow_right}
use Rattle.std.specs.Prelude.{◌&&◌, ◌↔◌, IsTrue}
use Rattle.std.proofs.lemmas.Bool.{leb-true, le-leb, and_parts, and_from}
use Rattle.std.proofs.lemmas.List.{take_more}
use Rattle.std.proofs.lemmas.List.Elements.{All-nil, All-cons, All-head, All-tail, All-push, All-more}
use Rattle.gw_base.specs.Bcd.{IsBcdByte, IsBcd, bcd_of, bcd_value, is_bcd, pair_byte, pair_value}

-- a hundred to one power more
hundred_more : (n m k : ℕ) → m ≡ n + 1 → k * 100 ^ m ≡ 100 * (k * 100 ^ n)
hundred_more n m k e =
    let e2 : m ≡ suc n = omega arith in
    let p : 100 ^ m ≡ 100 ^ n * 100 = ap (λ x. 100 ^ x) e2 ∙ pow-suc 100 n in
    let q : k * (100 ^ n * 100) ≡ k * 100 ^ n * 100 = sym (mul_assoc k (100 ^ n) 100) in
    let r : k * 100 ^ m ≡ k * 100 ^ n * 100 = ap (λ x. k * x) p ∙ q in
    omega arith

-- one more byte at the end makes the number a hundred times as large
pub bcd_value-snoc : (bytes : List ℕ) (byte : ℕ) → bcd_value (bytes ++ byte ∷ []) ≡ 100 * bcd_value bytes + pair_value byte
bcd_value-snoc [] byte = omega arith
bcd_value-snoc (first ∷ bytes) byte =
    let e : length (bytes ++ byte ∷ []) ≡ length bytes + 1 = length-append bytes (byte ∷ []) in
    let p : pair_value first * 100 ^ length (bytes ++ byte ∷ []) ≡ 100 * (pair_value first * 100 ^ length bytes) =
    hundred_more (length bytes) _ (pair_value first) e in
    let h : bcd_value (bytes ++ byte ∷ []) ≡ 100 * bcd_value bytes + pair_value byte = bcd_value-snoc bytes byte in
    omega arith

pub length-bcd_of : (count value : ℕ) → length (bcd_of count value) ≡ count
length-bcd_of zero value = refl
length-bcd_of (suc count) value =
    let e : length (bcd_of count (value / 100) ++ pair_byte (value % 100) ∷ []) ≡ length (bcd_of count (value / 100)) + 1 =
    length-append (bcd_of count (value / 100)) (pair_byte (value % 100) ∷ []) in
    let h : length (bcd_of count (value / 100)) ≡ count = length-bcd_of count (value / 100) in
    omega arith

-- the two digits of a pair are digits and spell it
pub pair_value-byte : (pair : ℕ) → pair < 100 → IsBcdByte (pair_byte pair) × (pair_value (pair_byte pair) ≡ pair)
pair_value-byte pair small =
    let high : (16 * (pair / 10) + pair % 10) / 16 ≡ pair / 10 = omega arith in
    let low : (16 * (pair / 10) + pair % 10) % 16 ≡ pair % 10 = omega arith in
    ((omega arith, omega arith), omega arith)

-- the byte of two digits is made of them
pub pair_byte-value : (byte : ℕ) → IsBcdByte byte → (pair_byte (pair_value byte) ≡ byte) × (pair_value byte < 100)
pair_byte-value byte digits =
    let high : (10 * (byte / 16) + byte % 16) / 10 ≡ byte / 16 = omega arith in
    let low : (10 * (byte / 16) + byte % 16) % 10 ≡ byte % 16 = omega arith in
    (omega arith, omega arith)

-- digits spell less than their count allows
pub bcd_value_bound : (bytes : List ℕ) → IsBcd bytes → bcd_value bytes < 100 ^ length bytes
bcd_value_bound [] digits = omega arith
bcd_value_bound (byte ∷ bytes) digits =
    let p : pair_value byte < 100 = (pair_byte-value byte (All-head IsBcdByte byte bytes digits)).1 in
    let h : bcd_value bytes < 100 ^ length bytes = bcd_value_bound bytes (All-tail IsBcdByte byte bytes digits) in
    let q : (pair_value byte + 1) * 100 ^ length bytes ≤ 100 * 100 ^ length bytes =
    mul-le-mul_right (100 ^ length bytes) (omega arith) in
    let e : (pair_value byte + 1) * 100 ^ length bytes ≡ pair_value byte * 100 ^ length bytes + 1 * 100 ^ length bytes =
    add-mul (pair_value byte) 1 (100 ^ length bytes) in
    let s : 100 ^ suc (length bytes) ≡ 100 ^ length bytes * 100 = pow-suc 100 (length bytes) in
    omega arith

-- the first digits of a value come first
bcd_of-cons : (count pair value : ℕ) → pair < 100 → value < 100 ^ count
    → bcd_of (suc count) (pair * 100 ^ count + value) ≡ pair_byte pair ∷ bcd_of count value
bcd_of-cons zero pair value small below =
    let e : (pair * 100 ^ zero + value) % 100 ≡ pair = omega arith in
    ap (λ n. pair_byte n ∷ []) e
bcd_of-cons (suc count) pair value small below =
    let s : 100 ^ suc count ≡ 100 ^ count * 100 = pow-suc 100 count in
    let m : pair * (100 ^ count * 100) ≡ pair * 100 ^ count * 100 = sym (mul_assoc pair (100 ^ count) 100) in
    let n : pair * 100 ^ suc count ≡ pair * 100 ^ count * 100 = ap (λ x. pair * x) s ∙ m in
    let quotient : (pair * 100 ^ suc count + value) / 100 ≡ pair * 100 ^ count + value / 100 = omega arith in
    let remainder : (pair * 100 ^ suc count + value) % 100 ≡ value % 100 = omega arith in
    let h : bcd_of (suc count) (pair * 100 ^ count + value / 100) ≡ pair_byte pair ∷ bcd_of count (value / 100) =
    bcd_of-cons count pair (value / 100) small (omega arith) in
    ap (λ x. bcd_of (suc count) x ++ pair_byte ((pair * 100 ^ suc count + value) % 100) ∷ []) quotient
    ∙ ap (λ x. bcd_of (suc count) (pair * 100 ^ count + value / 100) ++ pair_byte x ∷ []) remainder
    ∙ ap (λ xs. xs ++ pair_byte (value % 100) ∷ []) h

-- digits are the spelling of the number that they spell
pub bcd_of-value : (bytes : List ℕ) → IsBcd bytes → bcd_of (length bytes) (bcd_value bytes) ≡ bytes
bcd_of-value [] digits = refl
bcd_of-value (byte ∷ bytes) digits =
    let here : IsBcdByte byte = All-head IsBcdByte byte bytes digits in
    let later : IsBcd bytes = All-tail IsBcdByte byte bytes digits in
    let p = pair_byte-value byte here in
    bcd_of-cons (length bytes) (pair_value byte) (bcd_value bytes) p.1 (bcd_value_bound bytes later)
    ∙ ap (λ x. x ∷ bcd_of (length bytes) (bcd_value bytes)) p.0
    ∙ ap (λ xs. byte ∷ xs) (bcd_of-value bytes later)

-- a value that fits is read again
pub bcd_value-of : (count value : ℕ) → value < 100 ^ count → IsBcd (bcd_of count value) × (bcd_value (bcd_of count value) ≡ value)
bcd_value-of zero value below = (All-nil IsBcdByte, omega arith)
bcd_value-of (suc count) value below =
    let s : 100 ^ suc count ≡ 100 ^ count * 100 = pow-suc 100 count in
    let h : IsBcd (bcd_of count (value / 100)) × (bcd_value (bcd_of count (value / 100)) ≡ value / 100) =
    bcd_value-of count (value / 100) (omega arith) in
    let p = pair_value-byte (value % 100) (omega arith) in
    let v : pair_value (pair_byte (value % 100)) ≡ value % 100 = p.1 in
    let e : bcd_value (bcd_of count (value / 100) ++ pair_byte (value % 100) ∷ [])
    ≡ 100 * bcd_value (bcd_of count (value / 100)) + pair_value (pair_byte (value % 100)) =
    bcd_value-snoc (bcd_of count (value / 100)) (pair_byte (value % 100)) in
    let w : bcd_value (bcd_of count (value / 100)) ≡ value / 100 = h.1 in
    let t : bcd_value (bcd_of count (value / 100) ++ pair_byte (value % 100) ∷ []) ≡ value = omega (arith, e, v, w) in
    (All-push IsBcdByte (bcd_of count (value / 100)) (pair_byte (value % 100)) h.0 p.0, t)

-- fewer than six bytes spell a number of at most ten digits
pub bcd_value-small : (bytes : List ℕ) (count : ℕ) → IsBcd (take count bytes) → count < 6 → bcd_value (take count bytes) < 10000000000
bcd_value-small bytes count digits few =
    let b : bcd_value (take count bytes) < 100 ^ length (take count bytes) = bcd_value_bound (take count bytes) digits in
    let n : length (take count bytes) ≤ 5 = omega (arith, length-take count bytes) in
    let p : 100 ^ length (take count bytes) ≤ 100 ^ 5 = pow-le-pow_right {n = 100} (omega arith) n in
    omega arith

-- the digits of one more byte
pub bcd_take-more : (bytes : List ℕ) (count : ℕ) → count < length bytes → IsBcd (take count bytes) → IsBcdByte (get_or bytes count 0)
    → IsBcd (take (count + 1) bytes)
    × (bcd_value (take (count + 1) bytes) ≡ 100 * bcd_value (take count bytes) + pair_value (get_or bytes count 0))
bcd_take-more bytes count inside digits here =
    let e : take (count + 1) bytes ≡ take count bytes ++ get_or bytes count 0 ∷ [] = take_more bytes count 0 inside in
    (All-more IsBcdByte bytes count 0 inside digits here, ap bcd_value e ∙ bcd_value-snoc (take count bytes) (get_or bytes count 0))

-- the test of digits passes bytes that hold digits
pub bcd_passes : (bytes : List ℕ) → IsBcd bytes → is_bcd bytes ≡ true
bcd_passes [] digits = refl
bcd_passes (byte ∷ bytes) digits =
    let here : IsBcdByte byte = All-head IsBcdByte byte bytes digits in
    and_from _ _ (le-leb _ _ here.0) (and_from _ _ (le-leb _ _ here.1) (bcd_passes bytes (All-tail IsBcdByte byte bytes digits)))

-- bytes that the test of digits passes hold digits
pub passes_bcd : (bytes : List ℕ) → is_bcd bytes ≡ true → IsBcd bytes
passes_bcd [] passed = All-nil IsBcdByte
passes_bcd (byte ∷ bytes) passed =
    let parts = and_parts (leb (byte / 16) 9) (leb (byte % 16) 9 && is_bcd bytes) passed in
    let others = and_parts (leb (byte % 16) 9) (is_bcd bytes) parts.1 in
    All-cons IsBcdByte byte bytes (leb-true _ _ parts.0, leb-true _ _ others.0) (passes_bcd bytes others.1)

-- the test of digits passes exactly the bytes that hold digits
pub is_bcd-test : (bytes : List ℕ) → IsTrue (is_bcd bytes) ↔ IsBcd bytes
is_bcd-test bytes = (passes_bcd bytes, bcd_passes bytes)
