-- How many Acks and Nacks are awaited: one more, one less, and the greatest count, which stays.
use Rattle.std.proofs.Common.{◌≡◌, ◌≢◌, ◌≤◌, ◌<◌, ℕ, ◌+◌, ◌-◌, refl, ◌∙◌, arith, Bool, true, false, eqb}
use Rattle.std.proofs.lemmas.Bool.{eqb-true, eqb-false}
use Rattle.std.specs.Prelude.{if◌then◌else◌}
use Rattle.gw_owes.specs.Awaited.{most_awaited, one_more_awaited, one_less_awaited, many_more}

-- ---- for any greatest count

-- at the greatest, or apart from it
by-most : (P : ℕ → Type 0) (most n other : ℕ) → (n ≡ most → P n) → (n ≢ most → P other) → P (if eqb n most then n else other)
by-most P most n other stays moves = by-test (eqb n most) refl
  where
    by-test : (test : Bool) → eqb n most ≡ test → P (if test then n else other)
    by-test true is = stays (eqb-true n most is)
    by-test false is = moves (eqb-false n most is)

apart : (most n other : ℕ) → n ≢ most → (if eqb n most then n else other) ≡ other
apart most n other not = by-most (λ m. m ≡ other) most n other (λ is. absurd (not is)) (λ is. refl)

same : (most n other : ℕ) → n ≡ most → (if eqb n most then n else other) ≡ most
same most n other is = by-most (λ m. m ≡ most) most n other (λ e. e) (λ not. absurd (not is))

-- ---- one more

-- what holds of the greatest, which stays, and of one more, holds of it
pub by-more : (P : ℕ → Type 0) (awaited : ℕ) → (awaited ≡ most_awaited → P awaited) → (awaited ≢ most_awaited → P (awaited + 1)) → P (one_more_awaited awaited)
by-more P awaited stays moves = by-most P most_awaited awaited (awaited + 1) stays moves

pub more-below : (awaited : ℕ) → awaited ≢ most_awaited → one_more_awaited awaited ≡ awaited + 1
more-below awaited not = apart most_awaited awaited (awaited + 1) not

pub more-most : one_more_awaited most_awaited ≡ most_awaited
more-most = same most_awaited most_awaited (most_awaited + 1) refl

-- some is awaited then
pub more-some : (awaited : ℕ) → 1 ≤ one_more_awaited awaited
more-some awaited = by-more (λ n. 1 ≤ n) awaited (λ is. omega (arith, is)) (λ not. omega arith)

pub more-rises : (awaited : ℕ) → awaited ≤ one_more_awaited awaited
more-rises awaited = by-more (λ n. awaited ≤ n) awaited (λ is. omega arith) (λ not. omega arith)

pub more-by-one : (awaited : ℕ) → one_more_awaited awaited ≤ awaited + 1
more-by-one awaited = by-more (λ n. n ≤ awaited + 1) awaited (λ is. omega arith) (λ not. omega arith)

pub more-fits : (awaited : ℕ) → awaited ≤ most_awaited → one_more_awaited awaited ≤ most_awaited
more-fits awaited fits = by-more (λ n. n ≤ most_awaited) awaited (λ is. fits) (λ not. omega (arith, fits, not))

-- what stays of a greater count
pub more-least : (least awaited : ℕ) → least ≤ awaited → least ≤ one_more_awaited awaited
more-least least awaited above = let rises = more-rises awaited in omega (arith, above, rises)

-- below the greatest after it, and so before
pub more-apart : (awaited : ℕ) → one_more_awaited awaited ≢ most_awaited → awaited ≢ most_awaited
more-apart awaited not is = not (same most_awaited awaited (awaited + 1) is)

-- ---- one less

pub by-less : (P : ℕ → Type 0) (awaited : ℕ) → (awaited ≡ most_awaited → P awaited) → (awaited ≢ most_awaited → P (awaited - 1)) → P (one_less_awaited awaited)
by-less P awaited stays moves = by-most P most_awaited awaited (awaited - 1) stays moves

pub less-below : (awaited : ℕ) → awaited ≢ most_awaited → one_less_awaited awaited ≡ awaited - 1
less-below awaited not = apart most_awaited awaited (awaited - 1) not

pub less-most : one_less_awaited most_awaited ≡ most_awaited
less-most = same most_awaited most_awaited (most_awaited - 1) refl

pub less-none : one_less_awaited 0 ≡ 0
less-none = refl

pub less-falls : (awaited : ℕ) → one_less_awaited awaited ≤ awaited
less-falls awaited = by-less (λ n. n ≤ awaited) awaited (λ is. omega arith) (λ not. omega arith)

pub less-fits : (awaited : ℕ) → awaited ≤ most_awaited → one_less_awaited awaited ≤ most_awaited
less-fits awaited fits = let falls = less-falls awaited in omega (arith, fits, falls)

-- one less than one more, below the greatest
pub less-suc : (awaited : ℕ) → awaited + 1 < most_awaited → one_less_awaited (awaited + 1) ≡ awaited
less-suc awaited below = apart most_awaited (awaited + 1) (awaited + 1 - 1) (λ is. omega (arith, is, below)) ∙ omega arith

-- below the greatest after it, and so before
pub less-apart : (awaited : ℕ) → one_less_awaited awaited ≢ most_awaited → awaited ≢ most_awaited
less-apart awaited not is = not (same most_awaited awaited (awaited - 1) is)

-- one more, and then one less: as before, or the greatest
pub less-more : (awaited : ℕ) → one_less_awaited (one_more_awaited awaited) ≤ one_more_awaited awaited
less-more awaited = less-falls (one_more_awaited awaited)

-- ---- the greatest

-- more than one may be awaited
pub two-most : 2 ≤ most_awaited
two-most = omega arith

-- none and one are below it
pub none-apart : 0 ≢ most_awaited
none-apart is = omega (arith, is)

pub one-apart : 1 ≢ most_awaited
one-apart is = omega (arith, is)

-- ---- many more

pub many-none : (awaited : ℕ) → many_more 0 awaited ≡ awaited
many-none awaited = refl

pub many-one : (awaited : ℕ) → many_more 1 awaited ≡ one_more_awaited awaited
many-one awaited = refl
