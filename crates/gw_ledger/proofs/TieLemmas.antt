-- Small facts on ties, tests and options.
use Rattle.std.proofs.Common.{◌≡◌, ◌∙◌, ℕ, ◌+◌, ◌<◌, eqb, Bool, true, false, ◌&&◌, cond, List, Option, Some, IsSome, refl, sym, ap, arith}
use Rattle.std.specs.Ordering.{is_eq, nat_cmp, ordering_then}
use Rattle.std.specs.Cmp.Lexicographic.{slice_cmp}
use Rattle.std.proofs.lemmas.Map.Lookups.{exact_bytes}
use borrow.Author.Tests.{lt-ltb}
use Rattle.std.proofs.lemmas.Cmp.{nat_cmp_total, tied_itself, nat_list_cmp_total}
use Rattle.std.proofs.lemmas.Bool.Decides.{nat_tests}
use Rattle.std.specs.declared.cmp.Ordering.{Ordering}
use Rattle.std.specs.declared.cmp.Ordering.TheVariants.{Less, Equal, Greater}
use Rattle.gw_ledger.specs.declared.account.Desk.{Desk}
use Rattle.gw_ledger.specs.History.{same_text}

-- two orders in turn tie where both do
pub ties_in_turn : (a b : Ordering) → (is_eq a && is_eq b) ≡ is_eq (ordering_then a b)
ties_in_turn Less b = refl
ties_in_turn Equal b = refl
ties_in_turn Greater b = refl

pub is_equal : (o : Ordering) → is_eq o ≡ true → o ≡ Equal
is_equal Less e = cc
is_equal Equal e = refl
is_equal Greater e = cc

pub same_text-is : (a b : List ℕ) → same_text a b ≡ true → a ≡ b
same_text-is a b same = exact_bytes a b (is_equal (slice_cmp nat_cmp a b) same)

pub same_text-itself : (a : List ℕ) → same_text a a ≡ true
same_text-itself a = ap is_eq (tied_itself nat_list_cmp_total a)

pub some_stays : (b : Bool) (desk : Desk) (old : Option Desk) → IsSome old → IsSome (cond b (Some desk) old)
some_stays true desk old some = refl
some_stays false desk old some = some

pub some_here : (b : Bool) (desk : Desk) (old : Option Desk) → b ≡ true → IsSome (cond b (Some desk) old)
some_here true desk old tie = refl
some_here false desk old tie = cc

-- a slot before another isn't that one
pub eqb_above : (a b : ℕ) → b < a → eqb a b ≡ false
eqb_above a b lt = grind (arith, nat_tests)

pub eqb_same : (a : ℕ) → eqb a a ≡ true
eqb_same a = grind (arith, nat_tests)

pub plus_zero : (n : ℕ) → n + 0 ≡ n
plus_zero n = omega arith

pub nat_apart : (a b : ℕ) → a < b → is_eq (nat_cmp a b) ≡ false
nat_apart a b lt = ap is_eq (ap (λ t. cond t Less (cond (eqb a b) Equal Greater)) (lt-ltb a b lt))

pub nat_tie : (a b : ℕ) → a ≡ b → is_eq (nat_cmp a b) ≡ true
nat_tie a b same = ap is_eq (ap (nat_cmp a) (sym same) ∙ tied_itself nat_cmp_total a)
