-- How long the drill's messages are at most.
use Rattle.std.proofs.Common.{◌≡◌, ℕ, codes, ◌+◌, ◌*◌, ◌/◌, ◌%◌, ◌≤◌, List, [], ◌∷◌, ◌++◌, length, refl, zero, suc, arith, length-append, lit≤, lit<, nat_eq, Bool, true, false}
use Rattle.std.specs.Prelude.{flat_map, nat_lt, ◌||◌, if◌then◌else◌}
use Rattle.std.specs.Fmt.{decimal}
use Rattle.std.specs.Char.{digit_char}
use Rattle.std.proofs.lemmas.Fmt.{length-decimal-le}
use Rattle.json_text.specs.Canonical.{canonical, canonical_byte, canonical_first, canonical_first_member, canonical_more, canonical_more_members, canonical_string}
use Rattle.json_text.specs.Tree.{Tree, null, boolean, number, string, array, object, Elements, no_elements, element, Members, no_members, member}
use Rattle.gw_base.specs.Digits.{digits}
use Rattle.sale_values.specs.Money.{money_text}
use Rattle.sale_msg.specs.Canonical.{request_tree}
use Rattle.gw_script.specs.site.Drill.{DrillPayment, drill_header, drill_payment_request, drill_poi, drill_status_request}

-- the most bytes of a tree's spelling, where each byte of a string may take six
abbrev mutual
  tree_size : Tree → ℕ
  tree_size null = 4
  tree_size (boolean is) = 5
  tree_size (number text) = length text
  tree_size (string text) = 2 + 6 * length text
  tree_size (array xs) = 2 + elements_size xs
  tree_size (object ms) = 2 + members_size ms

  elements_size : Elements → ℕ
  elements_size no_elements = 0
  elements_size (element x rest) = 1 + tree_size x + elements_size rest

  members_size : Members → ℕ
  members_size no_members = 0
  members_size (member name x rest) = 4 + 6 * length name + tree_size x + members_size rest

escaped_size : (c x y : ℕ) (a b e : Bool) →
    length (if a || b then 92 ∷ c ∷ [] else (if e then 92 ∷ 117 ∷ 48 ∷ 48 ∷ x ∷ y ∷ [] else c ∷ [])) ≤ 6
escaped_size c x y true b e = lit≤ tt
escaped_size c x y false true e = lit≤ tt
escaped_size c x y false false true = lit≤ tt
escaped_size c x y false false false = lit≤ tt

bytes_size : (text : List ℕ) → length (flat_map canonical_byte text) ≤ 6 * length text
bytes_size [] = lit≤ tt
bytes_size (c ∷ text) =
    omega (arith, length-append (canonical_byte c) (flat_map canonical_byte text), escaped_size c (digit_char (c / 16)) (digit_char (c % 16)) (nat_eq c 34) (nat_eq c 92) (nat_lt c 32), bytes_size text)

string_size : (text : List ℕ) → length (canonical_string text) ≤ 2 + 6 * length text
string_size text = omega (arith, length-append (flat_map canonical_byte text) (34 ∷ []), bytes_size text)

mutual
  size_within : (tree : Tree) → length (canonical tree) ≤ tree_size tree
  size_within null = lit≤ tt
  size_within (boolean true) = lit≤ tt
  size_within (boolean false) = lit≤ tt
  size_within (number text) = omega arith
  size_within (string text) = string_size text
  size_within (array xs) = omega (arith, first_within xs)
  size_within (object ms) = omega (arith, first_member_within ms)

  first_within : (xs : Elements) → length (canonical_first xs) ≤ 1 + elements_size xs
  first_within no_elements = lit≤ tt
  first_within (element x rest) = omega (arith, length-append (canonical x) (canonical_more rest), size_within x, more_within rest)

  more_within : (xs : Elements) → length (canonical_more xs) ≤ 1 + elements_size xs
  more_within no_elements = lit≤ tt
  more_within (element x rest) = omega (arith, length-append (canonical x) (canonical_more rest), size_within x, more_within rest)

  first_member_within : (ms : Members) → length (canonical_first_member ms) ≤ 1 + members_size ms
  first_member_within no_members = lit≤ tt
  first_member_within (member name x rest) =
      omega (arith, length-append (canonical_string name) (58 ∷ (canonical x ++ canonical_more_members rest)), length-append (canonical x) (canonical_more_members rest), string_size name, size_within x, more_members_within rest)

  more_members_within : (ms : Members) → length (canonical_more_members ms) ≤ 1 + members_size ms
  more_members_within no_members = lit≤ tt
  more_members_within (member name x rest) =
      omega (arith, length-append (canonical_string name) (58 ∷ (canonical x ++ canonical_more_members rest)), length-append (canonical x) (canonical_more_members rest), string_size name, size_within x, more_members_within rest)

-- a spelling of an object isn't empty
pub object_some : (ms : Members) → 1 ≤ length (canonical (object ms))
object_some ms = omega arith

-- ---- the drill's messages

number_size : (n : ℕ) → n ≤ 10000 → length (decimal n) ≤ 5
number_size n le = length-decimal-le 5 n (lit< tt) (omega (arith, le)) (omega (arith, le))

poi_size : (pt : ℕ) → length (drill_poi pt) ≤ 2
poi_size pt = by_test (nat_eq pt 0)
  where
    by_test : (test : Bool) → length {A = ℕ} (if test then codes "T0" else codes "T1") ≤ 2
    by_test true = lit≤ tt
    by_test false = lit≤ tt

digits_size : (count n : ℕ) → length (digits count n) ≡ count
digits_size zero n = refl
digits_size (suc count) n = omega (arith, length-append (digits count (n / 10)) ((0x30 + n % 10) ∷ []), digits_size count (n / 10))

hundredth : (units : ℕ) → units ≤ 100000 → units / 100 ≤ 10000
hundredth units le = omega (arith, le)

money_size : (units : ℕ) → units ≤ 100000 → length (money_text units) ≤ 8
unfolding money_text
money_size units le = omega (arith, length-append (decimal (units / 100)) (0x2E ∷ digits 2 (units % 100)), number_size (units / 100) (hundredth units le), digits_size 2 (units % 100))

pub payment_size : (payment : DrillPayment) → payment.number ≤ 10000 → payment.amount ≤ 100000 → length (canonical (request_tree (drill_header (codes "Payment") payment) (drill_payment_request payment))) ≤ 4092
payment_size payment within amount =
    omega (arith, size_within (request_tree (drill_header (codes "Payment") payment) (drill_payment_request payment)), number_size payment.number within, poi_size payment.pt, money_size payment.amount amount)

pub status_size : (payment : DrillPayment) → payment.number ≤ 10000 → length (canonical (request_tree (drill_header (codes "TransactionStatus") payment) (drill_status_request payment))) ≤ 4092
status_size payment within =
    omega (arith, size_within (request_tree (drill_header (codes "TransactionStatus") payment) (drill_status_request payment)), number_size payment.number within, poi_size payment.pt)
