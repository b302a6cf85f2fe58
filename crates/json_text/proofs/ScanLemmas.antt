-- Where a byte leaves the scan of strings and UTF-8.
use Rattle.std.proofs.Common.{◌≡◌, ◌≢◌, ℕ, ◌-◌, ◌<◌, ◌≤◌, true, false, refl, arith, nat_eq, ◌⊎◌}
use Rattle.std.proofs.lemmas.Bool.{le-ltb, lt-ltb}
use Rattle.std.proofs.lemmas.Bool.Decides.{nat_tests}
use Rattle.json_text.specs.Grammar.{is_space}
use Rattle.json_text.specs.Scan.{outside, inside, owes, scan_step}

pub neq_test : (x k : ℕ) → x ≢ k → nat_eq x k ≡ false
neq_test x k ne = grind (arith, nat_tests)

pub stays_inside : (x : ℕ) → x ≢ 34 → x ≢ 92 → x < 192 → scan_step inside x ≡ inside
stays_inside x q b lt = rw (neq_test x 34 q, neq_test x 92 b, lt-ltb x 192 lt) refl

pub owes_one : (x : ℕ) → 192 ≤ x → x < 224 → scan_step inside x ≡ owes 1
owes_one x le lt = rw (neq_test x 34 (omega arith), neq_test x 92 (omega arith), le-ltb x 192 le, lt-ltb x 224 lt) refl

pub owes_two : (x : ℕ) → 224 ≤ x → x < 240 → scan_step inside x ≡ owes 2
owes_two x le lt = rw (neq_test x 34 (omega arith), neq_test x 92 (omega arith), le-ltb x 192 (omega arith), le-ltb x 224 le, lt-ltb x 240 lt) refl

pub owes_three : (x : ℕ) → 240 ≤ x → scan_step inside x ≡ owes 3
owes_three x le = rw (neq_test x 34 (omega arith), neq_test x 92 (omega arith), le-ltb x 192 (omega arith), le-ltb x 224 (omega arith), le-ltb x 240 le) refl

pub owes_less : (n x : ℕ) → 1 < n → scan_step (owes n) x ≡ owes (n - 1)
owes_less n x lt = rw (lt-ltb 1 n lt) refl

pub owes_none : (n x : ℕ) → n ≤ 1 → scan_step (owes n) x ≡ inside
owes_none n x le = rw (le-ltb 1 n le) refl

pub stays_outside : (x : ℕ) → x ≢ 34 → scan_step outside x ≡ outside
stays_outside x q = rw (neq_test x 34 q) refl

pub no_space : (c : ℕ) → c ≢ 32 → c ≢ 9 → c ≢ 10 → c ≢ 13 → is_space c ≡ false
no_space c a b d e = rw (neq_test c 32 a, neq_test c 9 b, neq_test c 10 d, neq_test c 13 e) refl

-- white space is none of the marks
pub space_is : (c : ℕ) → is_space c ≡ true → (c ≡ 32) ⊎ ((c ≡ 9) ⊎ ((c ≡ 10) ⊎ (c ≡ 13)))
space_is c e = grind (arith, nat_tests)
