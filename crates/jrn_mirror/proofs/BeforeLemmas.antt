-- What is known of the log after a call, and was so before it.
use Rattle.std.proofs.Common.{◌≡◌, ℕ, List, [], ◌∷◌, ◌++◌, refl, sym, ◌∙◌, ap, subst}
use Rattle.std.specs.Prelude.{Bool, true, false, Option, Some, None, IfSome, is_some, length}
use Rattle.gw_base.specs.declared.setup.Setup.{Setup}
use Rattle.gw_bytes.specs.Bytes.{IsPrefix}
use Rattle.gw_site.specs.declared.turn.Turn.TheVariants.{Start}
use Rattle.jrn_mirror.specs.declared.turn.Half.TheVariants.{First, Second}
use Rattle.jrn_mirror.specs.declared.turn.Turn2.{Turn2}
use Rattle.jrn_mirror.specs.declared.turn.Turn2.TheVariants.{Line, Lost}
use Rattle.jrn_mirror.specs.PairOutside.{nothing_on_two}
use Rattle.jrn_mirror.specs.PairObserved.{PairObserved, IfLogged, AddsTurns, PairGrows}
use Rattle.jrn_mirror.specs.inner.Copying.{AreLengths}
use Rattle.jrn_mirror.specs.inner.Halves.{HasOf, StayGone, loss}
use Rattle.jrn_mirror.specs.inner.Opening.{there_looks}
use Rattle.jrn_mirror.proofs.HoldsLemmas.{no_true}
use Rattle.jrn_mirror.proofs.PairLemmas.{pair_from-append, pair-is}
use Rattle.jrn_mirror.proofs.ReachLemmas.{AllParts, parts_give, logged_before}

none-after : (xs : List Turn2) → xs ++ [] ≡ xs
none-after [] = refl
none-after (x ∷ xs) = ap (λ ys. x ∷ ys) (none-after xs)

adds-prefix : (a b : Bool) (turns added : List Turn2) → AddsTurns a b turns added → IsPrefix added turns
adds-prefix true true turns added x = rw x (turns, refl)
adds-prefix true false turns added x = absurd x
adds-prefix false true turns added x = x
adds-prefix false false turns added x = ([], x-is)
  where
    x-is : turns ≡ added ++ []
    x-is = sym (none-after added ∙ x)

-- what no prefix of the turns makes true was true before
before-logged : (old new : PairObserved) (xs : List Turn2) (Q : List Turn2 → Type 0) → PairGrows old new (λ turns. turns ≡ xs) → ((log : List Turn2) → AllParts (λ added. Q (log ++ added) → Q log) xs) → IfLogged new Q → IfLogged old Q
before-logged old new xs Q grows parts has = λ log e.
    let a = grows.logged log e in
    let p : IsPrefix a.added xs = rw a.call at (adds-prefix old.dark new.dark a.turns a.added a.adds) in
    parts_give (λ (added : List Turn2). Q (log ++ added) → Q log) xs a.added (parts log) p (has (log ++ a.added) a.log_is)

still : (Q : List Turn2 → Type 0) (log : List Turn2) → Q (log ++ []) → Q log
still Q log q = subst Q (none-after log) q

-- the second disk's file, whether the first was found to be lost or not
pub second-before : (old new : PairObserved) (there : Bool) (P : List ℕ → Type 0) → PairGrows old new (λ turns. turns ≡ loss there First) → IfLogged new (λ log. HasOf log Second P) → IfLogged old (λ log. HasOf log Second P)
second-before old new true P grows has = before-logged old new [] (λ log. HasOf log Second P) grows (λ log. still (λ (l : List Turn2). HasOf l Second P) log) has
second-before old new false P grows has = before-logged old new (Lost First ∷ []) (λ log. HasOf log Second P) grows (λ log. (still (λ (l : List Turn2). HasOf l Second P) log, λ h. lost log h)) has
  where
    lost : (log : List Turn2) → HasOf (log ++ Lost First ∷ []) Second P → HasOf log Second P
    lost log h = let e = pair_from-append nothing_on_two log (Lost First ∷ []) in rw e at h

pub second-length : (old new : PairObserved) (there : Bool) (P : ℕ → List ℕ → Type 0) (result : Option ℕ) → PairGrows old new (λ turns. turns ≡ loss there First) → IfLogged new (λ log. IfSome result (λ count. HasOf log Second (P count))) → IfLogged old (λ log. IfSome result (λ count. HasOf log Second (P count)))
second-length old new there P None grows has = λ log e. tt
second-length old new there P (Some count) grows has = second-before old new there (P count) grows has

-- both lengths, before the line with which an opening begins
pub lengths-before : (old new : PairObserved) (setup : Setup) (first second : Option ℕ) → PairGrows old new (λ turns. turns ≡ Line (Start setup) ∷ []) → IfLogged new (λ log. AreLengths log first second) → IfLogged old (λ log. AreLengths log first second)
lengths-before old new setup first second grows has = before-logged old new (Line (Start setup) ∷ []) (λ log. AreLengths log first second) grows (λ log. (still (λ (l : List Turn2). AreLengths l first second) log, λ h. begun log h)) has
  where
    one : (count : Option ℕ) (log : List Turn2) → IfSome count (λ n. HasOf (log ++ Line (Start setup) ∷ []) First (λ file. n ≡ length file)) → IfSome count (λ n. HasOf log First (λ file. n ≡ length file))
    one None log h = tt
    one (Some n) log h = let e = pair_from-append nothing_on_two log (Line (Start setup) ∷ []) in rw e at h

    two : (count : Option ℕ) (log : List Turn2) → IfSome count (λ n. HasOf (log ++ Line (Start setup) ∷ []) Second (λ file. n ≡ length file)) → IfSome count (λ n. HasOf log Second (λ file. n ≡ length file))
    two None log h = tt
    two (Some n) log h = let e = pair_from-append nothing_on_two log (Line (Start setup) ∷ []) in rw e at h

    begun : (log : List Turn2) → AreLengths (log ++ Line (Start setup) ∷ []) first second → AreLengths log first second
    begun log h = record { first_has = one first log h.first_has; second_has = two second log h.second_has }

-- where both looks succeeded, the log is as it was
pub lengths-kept : (old new : PairObserved) (first second : Bool) (first_size second_size : Option ℕ) → PairGrows old new (λ turns. turns ≡ there_looks first second (is_some first_size) (is_some second_size)) → StayGone first second (is_some first_size) (is_some second_size) → IfLogged old (λ log. AreLengths log first_size second_size) →
    is_some first_size ≡ true → is_some second_size ≡ true → IfLogged new (λ log. AreLengths log first_size second_size)
lengths-kept old new first second first_size second_size grows stay has l s = λ log e. has log (logged_before old new log (pair-is old new (there_looks first second (is_some first_size) (is_some second_size)) [] (none first second stay) grows) e)
  where
    none : (a b : Bool) → StayGone a b (is_some first_size) (is_some second_size) → there_looks a b (is_some first_size) (is_some second_size) ≡ []
    none true true t = rw (l, s) refl
    none true false t = no_true (sym (t.1 refl) ∙ s)
    none false b t = no_true (sym (t.0 refl) ∙ l)
