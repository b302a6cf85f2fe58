-- The index of the names of an open object: what a search finds in it, and what one more name leaves.
use Rattle.std.proofs.Common.{◌≡◌, ◌∙◌, ℕ, zero, suc, ◌+◌, ◌-◌, ◌<◌, ◌≤◌, Bool, true, false, ◌||◌, List, [], ◌∷◌, ◌++◌, length, get_or, take, drop, bytes_eq, refl, sym, ap, subst, arith, ◌⊎◌, inl, inr, length-append, min}
use Rattle.std.specs.Prelude.{if◌then◌else◌}
use Rattle.std.specs.List.{insert}
use Rattle.std.specs.Cmp.Lexicographic.{slice_cmp}
use Rattle.std.specs.Ordering.{nat_cmp, ordering_reverse, is_eq}
use Rattle.std.specs.declared.cmp.Ordering.TheVariants.{Less, Equal, Greater}
use Rattle.std.proofs.lemmas.Bool.{cases_lt}
use Rattle.std.proofs.lemmas.Cmp.{nat_list_cmp_total}
use Rattle.std.proofs.lemmas.Map.Text.{is_eq-slice_cmp}
use Rattle.std.proofs.lemmas.List.{get_or-map, map-append, length-map, take-map, drop-map, take-append-drop, drop_all, drop-append-le, get_or_append_left, get_or_push, take_min}
use Rattle.std.proofs.lemmas.List.Edits.{length-insert, get_or-insert_below, get_or-insert_at, get_or-insert_above}
use Rattle.json_text.specs.MemberNames.{has_name, are_distinct, pair_names}
use Rattle.json_text.specs.inner.MemberIndex.{ComesBefore, name_at, names_at, AreMemberNumbers, AreInOrder, ComesAt}
use Rattle.json_text.proofs.NameLemmas.{has_name_append, names_append, distinct_append}

-- ---- one name and another

pub before_then : (a b c : List ℕ) → ComesBefore a b → ComesBefore b c → ComesBefore a c
before_then a b c h g = nat_list_cmp_total.trans a b c h g

-- a name after another, by what the comparison says
pub comes_after : (a b : List ℕ) → Greater ≡ slice_cmp nat_cmp a b → ComesBefore b a
comes_after a b e = nat_list_cmp_total.antisymm b a ∙ ap ordering_reverse (sym e)

before_apart : (a b : List ℕ) → ComesBefore a b → bytes_eq a b ≡ false
before_apart a b h = sym (is_eq-slice_cmp a b) ∙ ap is_eq h

after_apart : (a b : List ℕ) → ComesBefore b a → bytes_eq a b ≡ false
after_apart a b h = sym (is_eq-slice_cmp a b) ∙ ap is_eq (nat_list_cmp_total.antisymm a b ∙ ap ordering_reverse h)

same_name : (a b : List ℕ) → Equal ≡ slice_cmp nat_cmp a b → bytes_eq b a ≡ true
same_name a b e = sym (is_eq-slice_cmp b a) ∙ ap is_eq (nat_list_cmp_total.antisymm b a ∙ ap ordering_reverse (sym e))

-- ---- a name among others

pub or_last : (x : Bool) → (x || true) ≡ true
or_last true = refl
or_last false = refl

found : (q : List ℕ) (ns : List (List ℕ)) (i : ℕ) → i < length ns → bytes_eq q (name_at ns i) ≡ true → has_name q ns ≡ true
found q [] i lt e = absurd (omega arith)
found q (n ∷ ns) zero lt e = ap (λ (b : Bool). b || has_name q ns) e
found q (n ∷ ns) (suc i) lt e = ap (λ (b : Bool). bytes_eq q n || b) (found q ns i (omega arith) e) ∙ or_last (bytes_eq q n)

-- a name of the index is this one
pub index_has : (ns : List (List ℕ)) (name : List ℕ) (i : ℕ) → i < length ns → Equal ≡ slice_cmp nat_cmp (name_at ns i) name → has_name name ns ≡ true
index_has ns name i lt e = found name ns i lt (same_name (name_at ns i) name e)

apart : (q : List ℕ) (ns : List (List ℕ)) → ((i : ℕ) → i < length ns → bytes_eq q (name_at ns i) ≡ false) → has_name q ns ≡ false
apart q [] f = refl
apart q (n ∷ ns) f = ap (λ (b : Bool). b || has_name q ns) (f 0 (omega arith)) ∙ apart q ns (λ i lt. f (suc i) (omega arith))

comes_new : (ns : List (List ℕ)) (name : List ℕ) (gap : ℕ) → ComesAt ns name gap → has_name name ns ≡ false
comes_new ns name gap h =
    apart name ns (λ i lt. elim (cases_lt i gap) [
      | inl le ↦ after_apart name (name_at ns i) (h.below i le)
      | inr ge ↦ before_apart name (name_at ns i) (h.above i ge lt)
    ])

pub joined : (x y z : Bool) → (x || (y || z)) ≡ ((x || y) || z)
joined true y z = refl
joined false y z = refl

has_name_split : (q : List ℕ) (n : ℕ) (ns : List (List ℕ)) → has_name q ns ≡ (has_name q (take n ns) || has_name q (drop n ns))
has_name_split q zero ns = refl
has_name_split q (suc n) [] = refl
has_name_split q (suc n) (k ∷ ns) = ap (λ (b : Bool). bytes_eq q k || b) (has_name_split q n ns) ∙ joined (bytes_eq q k) (has_name q (take n ns)) (has_name q (drop n ns))

-- a name of an object, by a search among the first few members and by the index of the others
by_both : {A : Type 0} (q : List ℕ) (ms first : List (List ℕ × A)) (numbers : List ℕ) (few : Bool) → first ≡ take 12 ms → few ≡ has_name q (pair_names first)
    → has_name q (names_at (pair_names ms) numbers) ≡ has_name q (drop 12 (pair_names ms)) → has_name q (pair_names ms) ≡ (few || has_name q (names_at (pair_names ms) numbers))
by_both {A = A} q ms first numbers few e f g =
    let m : take 12 (pair_names ms) ≡ pair_names (take 12 ms) = take-map (λ m. m.0) 12 ms in
    has_name_split q 12 (pair_names ms) ∙ ap (λ (x : Bool). x || has_name q (drop 12 (pair_names ms))) (ap (λ (ns : List (List ℕ)). has_name q ns) m ∙ ap (λ (l : List (List ℕ × A)). has_name q (pair_names l)) (sym e) ∙ sym f)
    ∙ ap (λ (x : Bool). few || x) (sym g)

pub has_few : {A : Type 0} (q : List ℕ) (ms first : List (List ℕ × A)) (numbers : List ℕ) (few : Bool) → first ≡ take 12 ms → few ≡ has_name q (pair_names first)
    → has_name q (names_at (pair_names ms) numbers) ≡ has_name q (drop 12 (pair_names ms)) → few ≡ true → has_name q (pair_names ms) ≡ true
has_few q ms first numbers few e f g is = by_both q ms first numbers few e f g ∙ ap (λ (x : Bool). x || has_name q (names_at (pair_names ms) numbers)) is

pub has_later : {A : Type 0} (q : List ℕ) (ms first : List (List ℕ × A)) (numbers : List ℕ) (few : Bool) → first ≡ take 12 ms → few ≡ has_name q (pair_names first)
    → has_name q (names_at (pair_names ms) numbers) ≡ has_name q (drop 12 (pair_names ms)) → has_name q (names_at (pair_names ms) numbers) ≡ true → has_name q (pair_names ms) ≡ true
has_later q ms first numbers few e f g is = by_both q ms first numbers few e f g ∙ ap (λ (x : Bool). few || x) is ∙ or_last few

pub is_new : {A : Type 0} (q : List ℕ) (ms first : List (List ℕ × A)) (numbers : List ℕ) (few : Bool) (gap : ℕ) → first ≡ take 12 ms → few ≡ has_name q (pair_names first)
    → has_name q (names_at (pair_names ms) numbers) ≡ has_name q (drop 12 (pair_names ms)) → few ≡ false → ComesAt (names_at (pair_names ms) numbers) q gap → has_name q (pair_names ms) ≡ false
is_new q ms first numbers few gap e f g none h =
    by_both q ms first numbers few e f g ∙ ap (λ (x : Bool). x || has_name q (names_at (pair_names ms) numbers)) none ∙ comes_new (names_at (pair_names ms) numbers) q gap h

-- ---- a search by halves

-- the name of a number of the index
pub named_at : (ns : List (List ℕ)) (numbers : List ℕ) (i : ℕ) → i < length (names_at ns numbers) → name_at (names_at ns numbers) i ≡ name_at ns (get_or numbers i 0)
named_at ns numbers i lt = get_or-map (λ number. name_at ns number) numbers i 0 [] (omega (arith, length-map numbers (λ number. name_at ns number)))

pub all_below : (ns : List (List ℕ)) (name : List ℕ) (middle : ℕ) → AreInOrder ns → middle < length ns → Less ≡ slice_cmp nat_cmp (name_at ns middle) name
    → (i : ℕ) → i < middle + 1 → ComesBefore (name_at ns i) name
all_below ns name middle order lt e i le =
    elim (cases_lt i middle) [
      | inl less ↦ before_then (name_at ns i) (name_at ns middle) name (order i middle less lt) (sym e)
      | inr ge ↦ subst (λ (j : ℕ). ComesBefore (name_at ns j) name) (let g : middle ≡ i = omega arith in g) (sym e)
    ]

pub all_above : (ns : List (List ℕ)) (name : List ℕ) (middle : ℕ) → AreInOrder ns → Greater ≡ slice_cmp nat_cmp (name_at ns middle) name
    → (i : ℕ) → middle ≤ i → i < length ns → ComesBefore name (name_at ns i)
all_above ns name middle order e i ge lt =
    let first = comes_after (name_at ns middle) name e in
    elim (cases_lt middle i) [
      | inl more ↦ before_then name (name_at ns middle) (name_at ns i) first (order middle i more lt)
      | inr le ↦ subst (λ (j : ℕ). ComesBefore name (name_at ns j)) (let g : middle ≡ i = omega arith in g) first
    ]

pub first_few : {A : Type 0} (ms own : List A) (few count : ℕ) → own ≡ ms → count ≡ length ms → few ≡ min 12 count → take few own ≡ take 12 ms
first_few {A = A} ms own few count e f g = ap (λ (n : ℕ). take n own) (g ∙ ap (min 12) f) ∙ ap (λ (l : List A). take (min 12 (length ms)) l) e ∙ take_min 12 ms

-- ---- one more name in the index

insert_past : {X : Type 0} (xs : List X) (gap : ℕ) (y d : X) (i : ℕ) → gap < i → gap ≤ length xs → get_or (insert xs gap y) i d ≡ get_or xs (i - 1) d
insert_past xs gap y d i lt le = subst (λ (j : ℕ). get_or (insert xs gap y) j d ≡ get_or xs (i - 1) d) (let g : i - 1 + 1 ≡ i = omega arith in g) (get_or-insert_above xs gap y d (i - 1) (omega arith) le)

order_by : (a b c d : List ℕ) → a ≡ c → b ≡ d → ComesBefore c d → ComesBefore a b
order_by a b c d e f h = ap (λ (x : List ℕ). slice_cmp nat_cmp x b) e ∙ ap (λ (x : List ℕ). slice_cmp nat_cmp c x) f ∙ h

-- a number is below another, that one, or above it
three : (i gap : ℕ) → (i < gap) ⊎ (i ≡ gap) ⊎ (gap < i)
three i gap = elim (cases_lt i gap) [
  | inl lt ↦ inl lt
  | inr ge ↦ elim (cases_lt gap i) [ inl gt ↦ inr (inr gt) | inr le ↦ inr (inl (omega arith)) ]
]

still_in_order : (ns : List (List ℕ)) (name : List ℕ) (gap : ℕ) → AreInOrder ns → ComesAt ns name gap → AreInOrder (insert ns gap name)
still_in_order ns name gap order h i j less inside =
    let within : gap ≤ length ns = h.within in
    let end : j < length ns + 1 = omega (arith, length-insert ns gap name within) in
    let own = get_or-insert_at ns gap name [] within in
    elim (three j gap) [
      | inl lt ↦ order_by _ _ (name_at ns i) (name_at ns j) (get_or-insert_below ns gap name [] i (omega arith) within) (get_or-insert_below ns gap name [] j lt within) (order i j less (omega arith))
      | inr (inl same) ↦ order_by _ _ (name_at ns i) name (get_or-insert_below ns gap name [] i (omega arith) within) (ap (λ (k : ℕ). name_at (insert ns gap name) k) same ∙ own) (h.below i (omega arith))
      | inr (inr gt) ↦ elim (three i gap) [
        | inl lt ↦ order_by _ _ (name_at ns i) (name_at ns (j - 1)) (get_or-insert_below ns gap name [] i lt within) (insert_past ns gap name [] j gt within) (order i (j - 1) (omega arith) (omega arith))
        | inr (inl same) ↦ order_by _ _ name (name_at ns (j - 1)) (ap (λ (k : ℕ). name_at (insert ns gap name) k) same ∙ own) (insert_past ns gap name [] j gt within) (h.above (j - 1) (omega arith) (omega arith))
        | inr (inr more) ↦ order_by _ _ (name_at ns (i - 1)) (name_at ns (j - 1)) (insert_past ns gap name [] i more within) (insert_past ns gap name [] j gt within) (order (i - 1) (j - 1) (omega arith) (omega arith))
      ]
    ]

swap : (x y z : Bool) → (x || (y || z)) ≡ (y || (x || z))
swap true true z = refl
swap true false z = refl
swap false true z = refl
swap false false z = refl

has_name_mid : (q k : List ℕ) (xs ys : List (List ℕ)) → has_name q (xs ++ k ∷ ys) ≡ (bytes_eq q k || has_name q (xs ++ ys))
has_name_mid q k [] ys = refl
has_name_mid q k (n ∷ xs) ys = ap (λ (b : Bool). bytes_eq q n || b) (has_name_mid q k xs ys) ∙ swap (bytes_eq q n) (bytes_eq q k) (has_name q (xs ++ ys))

has_name_insert : (q k : List ℕ) (ns : List (List ℕ)) (gap : ℕ) → has_name q (insert ns gap k) ≡ (bytes_eq q k || has_name q ns)
has_name_insert q k ns gap = has_name_mid q k (take gap ns) (drop gap ns) ∙ ap (λ (l : List (List ℕ)). bytes_eq q k || has_name q l) (take-append-drop gap ns)

names_insert : (ns : List (List ℕ)) (numbers : List ℕ) (gap number : ℕ) → names_at ns (insert numbers gap number) ≡ insert (names_at ns numbers) gap (name_at ns number)
names_insert ns numbers gap number =
    map-append (λ p. name_at ns p) (take gap numbers) (number ∷ drop gap numbers)
    ∙ ap (λ (l : List (List ℕ)). l ++ name_at ns number ∷ names_at ns (drop gap numbers)) (sym (take-map (λ p. name_at ns p) gap numbers))
    ∙ ap (λ (l : List (List ℕ)). take gap (names_at ns numbers) ++ name_at ns number ∷ l) (sym (drop-map (λ p. name_at ns p) gap numbers))

names_grown : (ns : List (List ℕ)) (k : List ℕ) (numbers : List ℕ) → AreMemberNumbers numbers (length ns) → names_at (ns ++ k ∷ []) numbers ≡ names_at ns numbers
names_grown ns k [] h = refl
names_grown ns k (number ∷ numbers) h =
    ap (λ (n : List ℕ). n ∷ names_at (ns ++ k ∷ []) numbers) (get_or_append_left ns (k ∷ []) [] number (h 0 (omega arith)))
    ∙ ap (λ (l : List (List ℕ)). name_at ns number ∷ l) (names_grown ns k numbers (λ i lt. h (suc i) (omega arith)))

-- the names of the index with one more, which is that of the last member
names_pushed : (ns : List (List ℕ)) (k : List ℕ) (numbers : List ℕ) (gap number : ℕ) → number ≡ length ns → AreMemberNumbers numbers (length ns) → names_at (ns ++ k ∷ []) (insert numbers gap number) ≡ insert (names_at ns numbers) gap k
names_pushed ns k numbers gap number e h =
    names_insert (ns ++ k ∷ []) numbers gap number
    ∙ ap (λ (l : List (List ℕ)). insert l gap (name_at (ns ++ k ∷ []) number)) (names_grown ns k numbers h)
    ∙ ap (λ (n : List ℕ). insert (names_at ns numbers) gap n) (get_or_push ns k [] number (sym e))

length-names : {A : Type 0} (ms : List (List ℕ × A)) → length (pair_names ms) ≡ length ms
length-names ms = length-map ms (λ m. m.0)

numbers_named : {A : Type 0} (ms : List (List ℕ × A)) (numbers : List ℕ) → AreMemberNumbers numbers (length ms) → AreMemberNumbers numbers (length (pair_names ms))
numbers_named ms numbers h = subst (λ (n : ℕ). AreMemberNumbers numbers n) (sym (length-names ms)) h

-- ---- one more member

more_numbers : (numbers : List ℕ) (count : ℕ) (more : ℕ) → count ≤ more → AreMemberNumbers numbers count → AreMemberNumbers numbers more
more_numbers numbers count more le h i lt = let g = h i lt in omega arith

number_inserted : (numbers : List ℕ) (gap number count more : ℕ) → gap ≤ length numbers → AreMemberNumbers numbers count → count ≤ more → number < more → AreMemberNumbers (insert numbers gap number) more
number_inserted numbers gap number count more within h fits own i lt =
    let end : i < length numbers + 1 = omega (arith, length-insert numbers gap number within) in
    elim (three i gap) [
      | inl less ↦ (let g = h i (omega arith) in let e = get_or-insert_below numbers gap number 0 i less within in omega arith)
      | inr (inl same) ↦ (let e : get_or (insert numbers gap number) i 0 ≡ number = ap (λ (k : ℕ). get_or (insert numbers gap number) k 0) same ∙ get_or-insert_at numbers gap number 0 within in omega arith)
      | inr (inr past) ↦ (let g = h (i - 1) (omega arith) in let e = insert_past numbers gap number 0 i past within in omega arith)
    ]

-- what an open object keeps of its members and its index
pub record IsIndexed {A : Type 0} (index : List ℕ) (ms : List (List ℕ × A)) : Type 0 where
  pub within : AreMemberNumbers index (length ms)
  pub ordered : AreInOrder (names_at (pair_names ms) index)
  pub known : (q : List ℕ) → has_name q (names_at (pair_names ms) index) ≡ has_name q (drop 12 (pair_names ms))
  pub distinct : are_distinct (pair_names ms) ≡ true

pub still_indexed : {A : Type 0} (ms new : List (List ℕ × A)) (index new_index : List ℕ) → new ≡ ms → new_index ≡ index → IsIndexed index ms → IsIndexed new_index new
still_indexed {A = A} ms new index new_index e f h = subst (λ (l : List ℕ). IsIndexed l new) (sym f) (subst (λ (l : List (List ℕ × A)). IsIndexed index l) (sym e) h)

length_more : {A : Type 0} (ms : List A) (m : A) → length (ms ++ m ∷ []) ≡ length ms + 1
length_more ms m = length-append ms (m ∷ [])

few_grown : {A : Type 0} (ms : List (List ℕ × A)) (index : List ℕ) (k : List ℕ) (x : A) → length ms < 12 → has_name k (pair_names ms) ≡ false → IsIndexed index ms → IsIndexed index (ms ++ (k, x) ∷ [])
few_grown ms index k x lt none h =
    let named = names_append ms k x in
    let size = length_more ms (k, x) in
    let same : names_at (pair_names (ms ++ (k, x) ∷ [])) index ≡ names_at (pair_names ms) index = ap (λ (ns : List (List ℕ)). names_at ns index) named ∙ names_grown (pair_names ms) k index (numbers_named ms index h.within) in
    let before : drop 12 (pair_names ms) ≡ [] = drop_all 12 (pair_names ms) (omega (arith, length-names ms)) in
    let after : drop 12 (pair_names (ms ++ (k, x) ∷ [])) ≡ [] = drop_all 12 (pair_names (ms ++ (k, x) ∷ [])) (omega (arith, length-names (ms ++ (k, x) ∷ []))) in
    record {
      within = more_numbers index (length ms) (length (ms ++ (k, x) ∷ [])) (omega arith) h.within;
      ordered = subst (λ (ns : List (List ℕ)). AreInOrder ns) (sym same) h.ordered;
      known = λ q. ap (λ (ns : List (List ℕ)). has_name q ns) same ∙ h.known q ∙ ap (λ (ns : List (List ℕ)). has_name q ns) (before ∙ sym after);
      distinct = ap are_distinct named ∙ distinct_append (pair_names ms) k h.distinct none;
    }

-- one more of the first few members, or none
pub few_pushed : {A : Type 0} (ms new : List (List ℕ × A)) (index : List ℕ) (k : List ℕ) (x : A) (ok : Bool) → length ms < 12 → has_name k (pair_names ms) ≡ false → new ≡ (if ok then ms ++ (k, x) ∷ [] else ms) → IsIndexed index ms → IsIndexed index new
few_pushed ms new index k x true lt none e h = still_indexed (ms ++ (k, x) ∷ []) new index index e refl (few_grown ms index k x lt none h)
few_pushed ms new index k x false lt none e h = still_indexed ms new index index e refl h

later_grown : {A : Type 0} (ms : List (List ℕ × A)) (index : List ℕ) (k : List ℕ) (x : A) (gap number : ℕ) → 12 ≤ length ms → number ≡ length ms → has_name k (pair_names ms) ≡ false → ComesAt (names_at (pair_names ms) index) k gap
    → IsIndexed index ms → IsIndexed (insert index gap number) (ms ++ (k, x) ∷ [])
later_grown ms index k x gap number le last none comes h =
    let named = names_append ms k x in
    let size = length_more ms (k, x) in
    let count = length-names ms in
    let within : gap ≤ length index = (let w : gap ≤ length (names_at (pair_names ms) index) = comes.within in omega (arith, length-map index (λ p. name_at (pair_names ms) p))) in
    let same : names_at (pair_names (ms ++ (k, x) ∷ [])) (insert index gap number) ≡ insert (names_at (pair_names ms) index) gap k =
    ap (λ (ns : List (List ℕ)). names_at ns (insert index gap number)) named ∙ names_pushed (pair_names ms) k index gap number (omega arith) (numbers_named ms index h.within) in
    record {
      within = number_inserted index gap number (length ms) (length (ms ++ (k, x) ∷ [])) within h.within (omega arith) (omega arith);
      ordered = subst (λ (ns : List (List ℕ)). AreInOrder ns) (sym same) (still_in_order (names_at (pair_names ms) index) k gap h.ordered comes);
      known = λ q.
          ap (λ (ns : List (List ℕ)). has_name q ns) same ∙ has_name_insert q k (names_at (pair_names ms) index) gap ∙ ap (λ (b : Bool). bytes_eq q k || b) (h.known q)
          ∙ sym (has_name_append q (drop 12 (pair_names ms)) k) ∙ ap (λ (ns : List (List ℕ)). has_name q ns) (sym (drop-append-le 12 (pair_names ms) (k ∷ []) (omega arith)))
          ∙ ap (λ (ns : List (List ℕ)). has_name q (drop 12 ns)) (sym named);
      distinct = ap are_distinct named ∙ distinct_append (pair_names ms) k h.distinct none;
    }

-- one more member after the first few
pub later_pushed : {A : Type 0} (ms new : List (List ℕ × A)) (index new_index : List ℕ) (k : List ℕ) (x : A) (gap number : ℕ) → 12 ≤ length ms → number ≡ length ms → has_name k (pair_names ms) ≡ false → ComesAt (names_at (pair_names ms) index) k gap
    → new ≡ ms ++ (k, x) ∷ [] → new_index ≡ insert index gap number → IsIndexed index ms → IsIndexed new_index new
later_pushed ms new index new_index k x gap number le last none comes e f h = still_indexed (ms ++ (k, x) ∷ []) new (insert index gap number) new_index e f (later_grown ms index k x gap number le last none comes h)
