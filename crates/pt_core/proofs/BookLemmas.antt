-- Entries of a book fit a status, wherever they are found; and plays that are used up.
use Rattle.std.proofs.Common.{◌≡◌, ℕ, zero, suc, ◌≤◌, Bool, true, false, cond, List, [], ◌∷◌, length, drop, Option, Some, refl, ap, ◌∙◌, arith}
use Rattle.std.specs.Prelude.{◌&&◌, IsTrue, IfSome, reverse}
use Rattle.std.specs.List.{list_all, find}
use Rattle.std.proofs.lemmas.List.{reverse-append}
use Rattle.std.proofs.lemmas.List.Folds.{list_all-append}
use Rattle.pt_core.specs.declared.book.BookEntry.{BookEntry}
use Rattle.pt_core.specs.declared.play.Play.{Play}
use Rattle.pt_core.specs.Book.{all_fit, fits_status, is_payment_with, last_payment}

pub both : (a b : Bool) → (a && b) ≡ true → (a ≡ true) × (b ≡ true)
both true true e = (refl, refl)
both true false e = absurd cc
both false b e = absurd cc

pub of_both : (a b : Bool) → a ≡ true → b ≡ true → (a && b) ≡ true
of_both true true p q = refl
of_both true false p q = q
of_both false b p q = p

all_reverse : {X : Type 0} (p : X → Bool) (xs : List X) → list_all p xs ≡ true → list_all p (reverse xs) ≡ true
all_reverse p [] e = refl
all_reverse p (x ∷ xs) e =
    let parts = both (p x) (list_all p xs) e in
    ap (list_all p) (reverse-append (x ∷ []) xs) ∙ list_all-append p (reverse xs) (x ∷ [])
    ∙ of_both (list_all p (reverse xs)) (p x && true) (all_reverse p xs parts.1) (of_both (p x) true parts.0 refl)

find_choice : (is : Bool) (x : BookEntry) (rest : Option BookEntry) → fits_status x ≡ true → IfSome rest (λ e. IsTrue (fits_status e)) → IfSome (cond is (Some x) rest) (λ e. IsTrue (fits_status e))
find_choice true x rest here others = here
find_choice false x rest here others = others

find_fits : (p : BookEntry → Bool) (xs : List BookEntry) → all_fit xs ≡ true → IfSome (find p xs) (λ e. IsTrue (fits_status e))
find_fits p [] e = tt
find_fits p (x ∷ xs) e =
    let parts = both (fits_status x) (all_fit xs) e in
    find_choice (p x) x (find p xs) parts.0 (find_fits p xs parts.1)

pub last_payment_fits : (receipt : ℕ) (book : List BookEntry) → all_fit book ≡ true → IfSome (last_payment receipt book) (λ e. IsTrue (fits_status e))
last_payment_fits receipt book e = find_fits (is_payment_with receipt) (reverse book) (all_reverse fits_status book e)

-- past the last play none is left
pub used_up : (plays : List Play) (n : ℕ) → length plays ≤ n → drop 1 (drop n plays) ≡ drop n plays
used_up [] zero few = refl
used_up [] (suc n) few = refl
used_up (first ∷ plays) zero few = absurd (omega arith)
used_up (first ∷ plays) (suc n) few = used_up plays n (omega arith)
