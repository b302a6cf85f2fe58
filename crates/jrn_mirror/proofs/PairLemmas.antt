-- Calls on a pair one after the other.
use Rattle.std.proofs.Common.{◌≡◌, ℕ, List, [], ◌∷◌, ◌++◌, refl, sym, ◌∙◌, ap, append_assoc, inl, inr}
use Rattle.std.proofs.lemmas.Bool.{cases_Bool}
use Rattle.std.specs.Prelude.{Bool, true, false, Option, Some, None, is_some, IfSome}
use Rattle.jrn_mirror.specs.declared.turn.Half.{Half}
use Rattle.jrn_mirror.specs.declared.turn.Half.TheVariants.{First, Second}
use Rattle.jrn_mirror.specs.declared.turn.Turn2.TheVariants.{Lost}
use Rattle.jrn_mirror.specs.PairOutside.{PairOutside, pair_after, pair_from, nothing_on_two}
use Rattle.jrn_mirror.specs.declared.turn.Turn2.{Turn2}
use Rattle.jrn_mirror.specs.PairObserved.{PairObserved, IfLogged, AddsTurns, Added2, PairGrows}
use Rattle.jrn_mirror.specs.inner.Halves.{AreGone, HasOf, OneHas}

append-none : (xs : List Turn2) → xs ++ [] ≡ xs
append-none [] = refl
append-none (x ∷ xs) = ap (λ ys. x ∷ ys) (append-none xs)

-- what is added by two calls, the pair being dark or not before, between and after them
adds-two : (a b c : Bool) (xs ys added more : List Turn2) → AddsTurns a b xs added → AddsTurns b c ys more → AddsTurns a c (xs ++ ys) (added ++ more)
adds-two true true true xs ys added more x y = rw (x, y) refl
adds-two true true false xs ys added more x y = absurd y
adds-two true false c xs ys added more x y = absurd x
adds-two false true true xs ys added more x y = (x.0 ++ ys, rw (x.1, y, append-none added) (append_assoc added x.0 ys))
adds-two false true false xs ys added more x y = absurd y
adds-two false false true xs ys added more x y = (y.0, rw (x, y.1) (sym (append_assoc xs more y.0)))
adds-two false false false xs ys added more x y = rw (x, y) refl

added-two : (old mid new : PairObserved) (log : List Turn2) (C D E : List Turn2 → Type 0) → ((xs ys : List Turn2) → C xs → D ys → E (xs ++ ys)) → Added2 old mid log C → ((after : List Turn2) → mid.log ≡ Some after → Added2 mid new after D) → Added2 old new log E
added-two old mid new log C D E both x f =
    let y = f (log ++ x.added) x.log_is in
    record {
      turns = x.turns ++ y.turns;
      added = x.added ++ y.added;
      call = both x.turns y.turns x.call y.call;
      adds = adds-two old.dark mid.dark new.dark x.turns y.turns x.added y.added x.adds y.adds;
      log_is = y.log_is ∙ ap (λ l. Some l) (append_assoc log x.added y.added);
    }

pub pair-then : (old mid new : PairObserved) (C D E : List Turn2 → Type 0) → PairGrows old mid C → PairGrows mid new D → ((xs ys : List Turn2) → C xs → D ys → E (xs ++ ys)) → PairGrows old new E
pair-then old mid new C D E x y both = record {
  logged = λ log e. added-two old mid new log C D E both (x.logged log e) y.logged;
  unlogged = λ e. y.unlogged (x.unlogged e);
  stays = λ e. y.stays (x.stays e);
  first_stays = λ e. y.first_stays (x.first_stays e);
  second_stays = λ e. y.second_stays (x.second_stays e);
}

pub pair-same : (old new : PairObserved) (xs ys both : List Turn2) → xs ++ ys ≡ both → (mid : PairObserved) → PairGrows old mid (λ turns. turns ≡ xs) → PairGrows mid new (λ turns. turns ≡ ys) → PairGrows old new (λ turns. turns ≡ both)
pair-same old new xs ys both e mid x y = pair-then old mid new (λ turns. turns ≡ xs) (λ turns. turns ≡ ys) (λ turns. turns ≡ both) x y (λ before after p q. rw (p, q) e)

-- a call on the first disk fails where it is taken to be lost
pub fails-gone : (observed : PairObserved) (first second result : Bool) → AreGone observed first second → first ≡ false → (observed.first_lost ≡ true → result ≡ false) → (observed.dark ≡ true → result ≡ false) → result ≡ false
fails-gone observed first second result gone e lost dark = elim (cases_Bool observed.dark) [ inl off ↦ dark off | inr on ↦ lost (gone.0 on e) ]

pub pair-is : (old new : PairObserved) (xs ys : List Turn2) → xs ≡ ys → PairGrows old new (λ turns. turns ≡ xs) → PairGrows old new (λ turns. turns ≡ ys)
pair-is old new xs ys e x = rw (sym e) x

pub pair_from-append : (o : PairOutside) (xs ys : List Turn2) → pair_from o (xs ++ ys) ≡ pair_from (pair_from o xs) ys
pair_from-append o [] ys = refl
pair_from-append o (x ∷ xs) ys = pair_from-append (pair_after o x) xs ys

-- what the second disk has is as it was before the first was lost
still_has : (log : List Turn2) (P : List ℕ → Type 0) → HasOf (log ++ Lost First ∷ []) Second P → HasOf log Second P
still_has log P h = let e = pair_from-append nothing_on_two log (Lost First ∷ []) in rw e at h

adds-all : (a b : Bool) (turns added : List Turn2) → AddsTurns a b turns added → b ≡ false → added ≡ turns
adds-all true true turns added x e = absurd (let h : true ≡ false = e in cc)
adds-all true false turns added x e = absurd x
adds-all false true turns added x e = absurd (let h : true ≡ false = e in cc)
adds-all false false turns added x e = x

pub look-second : (old mid : PairObserved) (P : ℕ → List ℕ → Type 0) (result : Option ℕ) → PairGrows old mid (λ turns. turns ≡ Lost First ∷ []) → (mid.dark ≡ true → is_some result ≡ false) →
    IfLogged mid (λ log. IfSome result (λ count. HasOf log Second (P count))) → IfLogged old (λ log. IfSome result (λ count. OneHas log (P count)))
look-second old mid P None grows dark has = λ log e. tt
look-second old mid P (Some count) grows dark has = λ log e.
    let a = grows.logged log e in
    let lit : mid.dark ≡ false = elim (cases_Bool mid.dark) [ inl off ↦ absurd (let h : true ≡ false = dark off in cc) | inr on ↦ on ] in
    let whole : a.added ≡ Lost First ∷ [] = adds-all old.dark mid.dark a.turns a.added a.adds lit ∙ a.call in
    (Second, still_has log (P count) (rw whole at (has (log ++ a.added) a.log_is)))

pub look-one : (old : PairObserved) (disk : Half) (P : ℕ → List ℕ → Type 0) (result : Option ℕ) → IfLogged old (λ log. IfSome result (λ count. HasOf log disk (P count))) → IfLogged old (λ log. IfSome result (λ count. OneHas log (P count)))
look-one old disk P None has = λ log e. tt
look-one old disk P (Some count) has = λ log e. (disk, has log e)

-- the same where a look says only whether the disk is there
pub read-second : (old mid : PairObserved) (P : List ℕ → Type 0) (result : Bool) → PairGrows old mid (λ turns. turns ≡ Lost First ∷ []) → (mid.dark ≡ true → result ≡ false) →
    IfLogged mid (λ log. result ≡ true → HasOf log Second P) → IfLogged old (λ log. result ≡ true → OneHas log P)
read-second old mid P false grows dark has = λ log e r. absurd (let h : false ≡ true = r in cc)
read-second old mid P true grows dark has = λ log e r.
    let a = grows.logged log e in
    let lit : mid.dark ≡ false = elim (cases_Bool mid.dark) [ inl off ↦ absurd (let h : true ≡ false = dark off in cc) | inr on ↦ on ] in
    let whole : a.added ≡ Lost First ∷ [] = adds-all old.dark mid.dark a.turns a.added a.adds lit ∙ a.call in
    (Second, still_has log P (rw whole at (has (log ++ a.added) a.log_is r)))

pub read-one : (old : PairObserved) (disk : Half) (P : List ℕ → Type 0) (result : Bool) → IfLogged old (λ log. result ≡ true → HasOf log disk P) → IfLogged old (λ log. result ≡ true → OneHas log P)
read-one old disk P result has = λ log e r. (disk, has log e r)
