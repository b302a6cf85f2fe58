-- Names of bodies: a category and a suffix.
use Rattle.std.proofs.Common.{◌≡◌, ◌≢◌, ℕ, List, [], ◌∷◌, ◌++◌, Bool, true, false, ◌&&◌, bytes_eq, codes, length, drop, refl, sym, ap, ◌∙◌, arith, true≢false}
use Rattle.std.proofs.lemmas.Bool.{eq-eqb}
use Rattle.std.proofs.lemmas.List.{length-append}
use Rattle.std.proofs.Math.Seq.{drop-append_seam}
use Rattle.std.proofs.lemmas.Slice.Eq.{bytes_eq-Decides}

-- a common prefix counts for nothing
pub prefix_eq : (prefix a b : List ℕ) → bytes_eq (prefix ++ a) (prefix ++ b) ≡ bytes_eq a b
prefix_eq [] a b = refl
prefix_eq (c ∷ prefix) a b = rw (eq-eqb c c refl) (prefix_eq prefix a b)

pub both : (a b : Bool) → (a && b) ≡ true → (a ≡ true) × (b ≡ true)
both true b h = (refl, h)
both false b h = absurd cc

is_false : (b : Bool) → (b ≡ true → ⊥) → b ≡ false
is_false true h = absurd (h refl)
is_false false h = refl

pub not_eq : (a b : List ℕ) → a ≢ b → bytes_eq a b ≡ false
not_eq a b h = is_false (bytes_eq a b) (λ e. h ((bytes_eq-Decides a b).0 e))

pub same_eq : (a : List ℕ) → bytes_eq a a ≡ true
same_eq a = (bytes_eq-Decides a a).1 refl

pub differ : (a b : List ℕ) → bytes_eq a b ≡ false → a ≡ b → ⊥
differ a b e same = true≢false (sym ((bytes_eq-Decides a b).1 same) ∙ e)

-- no body has the name of the header
pub not_header : (category : List ℕ) → codes "MessageHeader" ≢ category ++ codes "Response"
not_header category e =
    let count : length category ≡ 5 = omega (arith, ap length e, length-append category (codes "Response")) in
    let suffix : drop 5 (codes "MessageHeader") ≡ codes "Response" =
    ap (drop 5) e ∙ ap (λ n. drop n (category ++ codes "Response")) (sym count) ∙ drop-append_seam category (codes "Response") in
    differ (drop 5 (codes "MessageHeader")) (codes "Response") refl suffix

-- what comes after a common prefix is equal
pub same_suffix : (prefix a b : List ℕ) → prefix ++ a ≡ prefix ++ b → a ≡ b
same_suffix prefix a b e =
    sym (drop-append_seam prefix a) ∙ ap (drop (length prefix)) e ∙ drop-append_seam prefix b
