-- Lists of requests that wait: who is left once some are taken out, and what is there once one joins as the last.
use Rattle.std.proofs.Common.{◌≡◌, ℕ, zero, suc, ◌+◌, ◌≤◌, Bool, true, false, cond, eqb, List, [], ◌∷◌, ◌++◌, length, refl, sym, ap, subst, arith}
use Rattle.std.specs.Ordering.{is_eq}
use Rattle.std.specs.Prelude.{filter, slice_get, Some, None}
use Rattle.std.proofs.lemmas.Bool.{eqb-true}
use Rattle.std.proofs.lemmas.List.{append-nil, length-append}
use Rattle.std.proofs.lemmas.Option.{same_Some}
use Rattle.gw_base.proofs.KeyLemmas.{key_cmp-ties}
use Rattle.gw_base.specs.declared.key.Key.{Key}
use Rattle.gw_ledger.specs.Keys.{same_key}
use Rattle.gw_owes.specs.Core.{Wait}
use Rattle.gw_owes.specs.Waits.{queue_of, waiting_with}
use Rattle.gw_owes.proofs.RecordLemmas.{same-key-is}

-- ---- who is left

-- one of these passes the test
pub record IsLeft {A : Type 0} (test : A → Bool) (all : List A) (one : A) : Type 0 where
  pub place : ℕ
  pub there : slice_get all place ≡ Some one
  pub passes : test one ≡ true

-- each that is left is one of them, and passes
pub left-there : {A : Type 0} (test : A → Bool) (all : List A) (at : ℕ) (one : A) → slice_get (filter test all) at ≡ Some one → IsLeft test all one
left-there test [] at one found = absurd cc
left-there {A} test (first ∷ rest) at one found = by-test (λ place there. left-there test rest place one there) (test first) refl at found
  where
    by-test : ((place : ℕ) → slice_get (filter test rest) place ≡ Some one → IsLeft test rest one) → (b : Bool) → test first ≡ b → (place : ℕ)
        → slice_get (cond b (first ∷ filter test rest) (filter test rest)) place ≡ Some one → IsLeft test (first ∷ rest) one
    by-test later true passes zero there = record { place = 0; there = there; passes = subst (λ (x : A). test x ≡ true) (same_Some first one there) passes }
    by-test later true passes (suc place) there = let left = later place there in record { place = suc left.place; there = left.there; passes = left.passes }
    by-test later false fails place there = let left = later place there in record { place = suc left.place; there = left.there; passes = left.passes }

-- ---- keys

pub same-key-itself : (key : Key) → same_key key key ≡ true
same-key-itself key = ap is_eq ((key_cmp-ties key key).1 refl)

pub same-turned : (key other : Key) → same_key key other ≡ true → same_key other key ≡ true
same-turned key other same =
    let is : key ≡ other = same-key-is key other same in
    subst (λ (k : Key). same_key k key ≡ true) is (subst (λ (k : Key). same_key key k ≡ true) (sym is) same)

-- none of these waits under the key
abbrev pub HasNoneWith : Key → List Wait → Type 0
HasNoneWith key waits = (at : ℕ) (wait : Wait) → slice_get waits at ≡ Some wait → same_key key wait.key ≡ false

-- no two wait under one key
abbrev pub WaitOnce : List Wait → Type 0
WaitOnce waits = (one other : ℕ) (first second : Wait) → slice_get waits one ≡ Some first → slice_get waits other ≡ Some second → same_key first.key second.key ≡ true → one ≡ other

pub none-under : (key : Key) (waits : List Wait) → waiting_with key waits ≡ None → HasNoneWith key waits
none-under key [] none at wait found = absurd cc
none-under key (first ∷ rest) none at wait found = by-test (λ later place there. none-under key rest later place wait there) (same_key key first.key) refl none at found
  where
    by-test : (waiting_with key rest ≡ None → (place : ℕ) → slice_get rest place ≡ Some wait → same_key key wait.key ≡ false) → (b : Bool) → same_key key first.key ≡ b → cond b (Some first) (waiting_with key rest) ≡ None
        → (place : ℕ) → slice_get (first ∷ rest) place ≡ Some wait → same_key key wait.key ≡ false
    by-test later true same some place there = absurd cc
    by-test later false apart rests zero there = subst (λ (w : Wait). same_key key w.key ≡ false) (same_Some first wait there) apart
    by-test later false apart rests (suc place) there = later rests place there

-- what is found under a key waits, and has it
pub record IsWaiting (key : Key) (waits : List Wait) (wait : Wait) : Type 0 where
  pub place : ℕ
  pub there : slice_get waits place ≡ Some wait
  pub same : same_key key wait.key ≡ true

pub waits-under : (key : Key) (waits : List Wait) (wait : Wait) → waiting_with key waits ≡ Some wait → IsWaiting key waits wait
waits-under key [] wait found = absurd cc
waits-under key (first ∷ rest) wait found = by-test (waits-under key rest wait) (same_key key first.key) refl found
  where
    by-test : (waiting_with key rest ≡ Some wait → IsWaiting key rest wait) → (b : Bool) → same_key key first.key ≡ b → cond b (Some first) (waiting_with key rest) ≡ Some wait → IsWaiting key (first ∷ rest) wait
    by-test later true same some = let is = same_Some first wait some in record { place = 0; there = some; same = subst (λ (w : Wait). same_key key w.key ≡ true) is same }
    by-test later false apart rests = let one = later rests in record { place = suc one.place; there = one.there; same = one.same }

-- ---- each waits once

once-tail : (first : Wait) (rest : List Wait) → WaitOnce (first ∷ rest) → WaitOnce rest
once-tail first rest once one other a b here there same = let both : suc one ≡ suc other = once (suc one) (suc other) a b here there same in omega (arith, both)

once-head : (first : Wait) (rest : List Wait) → WaitOnce (first ∷ rest) → (at : ℕ) (wait : Wait) → slice_get rest at ≡ Some wait → same_key first.key wait.key ≡ true → ⊥
once-head first rest once at wait there same = let both : 0 ≡ suc at = once 0 (suc at) first wait refl there same in omega (arith, both)

once-cons : (first : Wait) (rest : List Wait) → ((at : ℕ) (wait : Wait) → slice_get rest at ≡ Some wait → same_key first.key wait.key ≡ true → ⊥) → WaitOnce rest → WaitOnce (first ∷ rest)
once-cons first rest apart once zero zero a b here there same = refl
once-cons first rest apart once zero (suc other) a b here there same = absurd (apart other b there (subst (λ (w : Wait). same_key w.key b.key ≡ true) (sym (same_Some first a here)) same))
once-cons first rest apart once (suc one) zero a b here there same =
    absurd (apart one a here (same-turned a.key first.key (subst (λ (w : Wait). same_key a.key w.key ≡ true) (sym (same_Some first b there)) same)))
once-cons first rest apart once (suc one) (suc other) a b here there same = ap suc (once one other a b here there same)

-- so it is of those that are left
pub once-left : (test : Wait → Bool) (waits : List Wait) → WaitOnce waits → WaitOnce (filter test waits)
once-left test [] once = once
once-left test (first ∷ rest) once = by-test (test first) (once-left test rest (once-tail first rest once))
  where
    by-test : (b : Bool) → WaitOnce (filter test rest) → WaitOnce (cond b (first ∷ filter test rest) (filter test rest))
    by-test true rests = once-cons first (filter test rest) (λ at wait there same. let left = left-there test rest at wait there in once-head first rest once left.place wait left.there same) rests
    by-test false rests = rests

-- what is there once one joins is there already, or is the one that joins
pub pushed-there : (P : Wait → Type 0) (waits : List Wait) (new : Wait) → ((at : ℕ) (wait : Wait) → slice_get waits at ≡ Some wait → P wait) → P new → (at : ℕ) (wait : Wait) → slice_get (waits ++ new ∷ []) at ≡ Some wait → P wait
pushed-there P [] new each joined zero wait there = subst P (same_Some new wait there) joined
pushed-there P [] new each joined (suc at) wait there = absurd cc
pushed-there P (first ∷ rest) new each joined zero wait there = subst P (same_Some first wait there) (each 0 first refl)
pushed-there P (first ∷ rest) new each joined (suc at) wait there = pushed-there P rest new (λ place one found. each (suc place) one found) joined at wait there

-- and of them with one that joins under another key
pub once-pushed : (waits : List Wait) (new : Wait) → HasNoneWith new.key waits → WaitOnce waits → WaitOnce (waits ++ new ∷ [])
once-pushed [] new apart once = once-cons new [] (λ at wait there same. absurd cc) once
once-pushed (first ∷ rest) new apart once =
    once-cons first (rest ++ new ∷ [])
    (pushed-there (λ (wait : Wait). same_key first.key wait.key ≡ true → ⊥) rest new (λ at wait there. once-head first rest once at wait there)
    (λ same. let other : same_key new.key first.key ≡ false = apart 0 first refl in let turned = same-turned first.key new.key same in absurd cc))
    (once-pushed rest new (λ at wait there. apart (suc at) wait there) (once-tail first rest once))

-- ---- queues

-- no queue has more than before
pub queue-left : (number : ℕ) (test : Wait → Bool) (waits : List Wait) → length (queue_of number (filter test waits)) ≤ length (queue_of number waits)
queue-left number test [] = omega arith
queue-left number test (first ∷ rest) = by-test (test first) (queue-left number test rest)
  where
    both : (b : Bool) (some all : List Wait) → length some ≤ length all → length (cond b (first ∷ some) some) ≤ length (cond b (first ∷ all) all)
    both true some all fewer = omega (arith, fewer)
    both false some all fewer = fewer

    more : (b : Bool) (some all : List Wait) → length some ≤ length all → length some ≤ length (cond b (first ∷ all) all)
    more true some all fewer = omega (arith, fewer)
    more false some all fewer = fewer

    by-test : (b : Bool) → length (queue_of number (filter test rest)) ≤ length (queue_of number rest) → length (queue_of number (cond b (first ∷ filter test rest) (filter test rest))) ≤ length (queue_of number (first ∷ rest))
    by-test true fewer = both (eqb first.pt number) (queue_of number (filter test rest)) (queue_of number rest) fewer
    by-test false fewer = more (eqb first.pt number) (queue_of number (filter test rest)) (queue_of number rest) fewer

-- the one that joins is the last of its queue
pub queue-pushed : (number : ℕ) (waits : List Wait) (new : Wait) → queue_of number (waits ++ new ∷ []) ≡ queue_of number waits ++ cond (eqb new.pt number) (new ∷ []) []
queue-pushed number [] new = refl
queue-pushed number (first ∷ rest) new = by-test (eqb first.pt number) (queue-pushed number rest new)
  where
    last : List Wait
    last = cond (eqb new.pt number) (new ∷ []) []

    by-test : (b : Bool) → queue_of number (rest ++ new ∷ []) ≡ queue_of number rest ++ last
        → cond b (first ∷ queue_of number (rest ++ new ∷ [])) (queue_of number (rest ++ new ∷ [])) ≡ cond b (first ∷ queue_of number rest) (queue_of number rest) ++ last
    by-test true later = ap (λ (all : List Wait). first ∷ all) later
    by-test false later = later

pub queue-pushed-few : (number line : ℕ) (waits : List Wait) (new : Wait) → length (queue_of number waits) ≤ line → (new.pt ≡ number → length (queue_of number waits) + 1 ≤ line) → length (queue_of number (waits ++ new ∷ [])) ≤ line
queue-pushed-few number line waits new few room = subst (λ (all : List Wait). length all ≤ line) (sym (queue-pushed number waits new)) (by-test (eqb new.pt number) refl)
  where
    by-test : (b : Bool) → eqb new.pt number ≡ b → length (queue_of number waits ++ cond b (new ∷ []) []) ≤ line
    by-test true same =
        let left : length (queue_of number waits) + 1 ≤ line = room (eqb-true new.pt number same) in
        let sum : length (queue_of number waits ++ new ∷ []) ≡ length (queue_of number waits) + 1 = length-append (queue_of number waits) (new ∷ []) in
        omega (arith, left, sum)
    by-test false apart = subst (λ (all : List Wait). length all ≤ line) (sym (append-nil (queue_of number waits))) few
