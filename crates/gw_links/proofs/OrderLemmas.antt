-- How the orders of waiting requests change when one joins or leaves.
use Rattle.std.proofs.Common.{◌≡◌, ◌≢◌, ◌⊎◌, ℕ, ℤ, pos, negsuc, Bool, true, false, not, cond, List, [], ◌∷◌, ◌++◌, Some, None, refl, sym, ap, ◌∙◌, subst, inl, inr, arith, eq-eqb, ne_eqb, eqb}
use Rattle.std.proofs.lemmas.Bool.{cases_eq, cases_Bool, cond-true, cond-false, not_from_true, false≢true}
use Rattle.std.proofs.lemmas.Bool.Decides.{nat_tests}
use Rattle.std.proofs.lemmas.Option.{none-some, same_Some}
use Rattle.std.specs.List.{filter}
use Rattle.std.specs.Prelude.{int_lt}
use Rattle.gw_links.specs.declared.item.Item.{Item}
use Rattle.gw_links.specs.Waiting.{Waiting, without_request, item_of, place, place_all, later_than, due_at}
use Rattle.gw_links.specs.inner.Chain.{Every, IsInChain, IsApart}
use Rattle.gw_links.proofs.ChainLemmas.{without_head, without_past}

-- ---- deadlines

pub earlier_than_later : (a b c : ℤ) → int_lt a b ≡ true → int_lt c b ≡ false → int_lt a c ≡ true
earlier_than_later (pos a) (pos b) (pos c) p q = grind (arith, nat_tests)
earlier_than_later (pos a) (pos b) (negsuc c) p q = absurd (cc)
earlier_than_later (pos a) (negsuc b) c p q = absurd (cc)
earlier_than_later (negsuc a) (pos b) (pos c) p q = refl
earlier_than_later (negsuc a) (pos b) (negsuc c) p q = absurd (cc)
earlier_than_later (negsuc a) (negsuc b) (pos c) p q = refl
earlier_than_later (negsuc a) (negsuc b) (negsuc c) p q = grind (arith, nat_tests)

pub not_both_earlier : (a b : ℤ) → int_lt a b ≡ true → int_lt b a ≡ false
not_both_earlier (pos a) (pos b) p = grind (arith, nat_tests)
not_both_earlier (pos a) (negsuc b) p = absurd (cc)
not_both_earlier (negsuc a) (pos b) p = refl
not_both_earlier (negsuc a) (negsuc b) p = grind (arith, nat_tests)

-- ---- numbers

pub same_number : (a b : ℕ) → eqb a b ≡ true → a ≡ b
same_number a b is = elim (cases_eq a b) [ inl same ↦ same | inr differs ↦ absurd (false≢true (sym (ne_eqb a b differs) ∙ is)) ]

-- ---- what holds of each

cond_both : {X : Type 0} (P : X → Type 0) (b : Bool) (x y : X) → P x → P y → P (cond b x y)
cond_both P b x y p q = elim b as (λ v. P (cond v x y)) [ true ↦ p | false ↦ q ]

module _ (P : Waiting → Type 0) where
  pub Every-place : (new : Waiting) (lines : List Waiting) → P new → Every P lines → Every P (place new lines)
  Every-place new [] p all = (p, tt)
  Every-place new (first ∷ rest) p all =
      cond_both (Every P) (int_lt new.item.deadline first.item.deadline) _ _ (p, all) (all.0, Every-place new rest p all.1)

  pub Every-place_all : (sorted lines : List Waiting) → Every P sorted → Every P lines → Every P (place_all sorted lines)
  Every-place_all sorted [] before all = before
  Every-place_all sorted (first ∷ rest) before all =
      Every-place_all (place first sorted) rest (Every-place first sorted all.0 before) all.1

  pub Every-filter : (test : Waiting → Bool) (lines : List Waiting) → Every P lines → Every P (filter test lines)
  Every-filter test [] all = tt
  Every-filter test (first ∷ rest) all =
      cond_both (Every P) (test first) _ _ (all.0, Every-filter test rest all.1) (Every-filter test rest all.1)

  pub Every-push : (lines : List Waiting) (new : Waiting) → Every P lines → P new → Every P (lines ++ new ∷ [])
  Every-push [] new all p = (p, tt)
  Every-push (first ∷ rest) new all p = (all.0, Every-push rest new all.1 p)

  pub Every-weaker : (Q : Waiting → Type 0) → ((waiting : Waiting) → P waiting → Q waiting) → (lines : List Waiting) → Every P lines → Every Q lines
  Every-weaker Q weaker [] all = tt
  Every-weaker Q weaker (first ∷ rest) all = (weaker first all.0, Every-weaker Q weaker rest all.1)

  -- each request other than the one under an id
  pub Every-without : (Q : Waiting → Type 0) (id : ℕ) → ((waiting : Waiting) → waiting.id ≢ id → P waiting → Q waiting) → (lines : List Waiting) → Every P lines → Every Q (without_request id lines)
  Every-without Q id weaker [] all = tt
  Every-without Q id weaker (first ∷ rest) all =
      elim (cases_eq first.id id) [
        | inl same ↦ subst (Every Q) (sym (without_head id first rest same)) (Every-without Q id weaker rest all.1)
        | inr differs ↦ subst (Every Q) (sym (without_past id first rest differs)) (weaker first differs all.0, Every-without Q id weaker rest all.1)
      ]

-- ---- the request under an id

item_of_head : (first : Waiting) (rest : List Waiting) (id : ℕ) → first.id ≡ id → item_of (first ∷ rest) id ≡ Some first.item
item_of_head first rest id same = cond-true _ _ _ (eq-eqb first.id id same)

item_of_past : (first : Waiting) (rest : List Waiting) (id : ℕ) → first.id ≢ id → item_of (first ∷ rest) id ≡ item_of rest id
item_of_past first rest id differs = cond-false _ _ _ (ne_eqb first.id id differs)

abbrev waiting_of : ℕ → Item → Waiting
waiting_of id item = record { id = id; item = item }

pub same_waiting : (first : Waiting) (id : ℕ) (item : Item) → first.id ≡ id → first.item ≡ item → first ≡ record { id = id; item = item }
same_waiting first id item same same_item = ap (λ i. waiting_of i first.item) same ∙ ap (waiting_of id) same_item

pub item_of-every : (P : Waiting → Type 0) (lines : List Waiting) (id : ℕ) (item : Item) → Every P lines → item_of lines id ≡ Some item → P (record { id = id; item = item })
item_of-every P [] id item all found = absurd (none-some item found)
item_of-every P (first ∷ rest) id item all found =
    elim (cases_eq first.id id) [
      | inl same ↦ subst P (same_waiting first id item same (same_Some first.item item (sym (item_of_head first rest id same) ∙ found))) all.0
      | inr differs ↦ item_of-every P rest id item all.1 (sym (item_of_past first rest id differs) ∙ found)
    ]

pub item_of-is_in : (lines : List Waiting) (id : ℕ) (item : Item) → item_of lines id ≡ Some item → IsInChain id lines
item_of-is_in [] id item found = absurd (none-some item found)
item_of-is_in (first ∷ rest) id item found =
    elim (cases_eq first.id id) [
      | inl same ↦ inl same
      | inr differs ↦ inr (item_of-is_in rest id item (sym (item_of_past first rest id differs) ∙ found))
    ]

pub item_of-is_in_filter : (test : Waiting → Bool) (lines : List Waiting) (id : ℕ) (item : Item) → item_of lines id ≡ Some item → test (record { id = id; item = item }) ≡ true → IsInChain id (filter test lines)
item_of-is_in_filter test [] id item found passes = absurd (none-some item found)
item_of-is_in_filter test (first ∷ rest) id item found passes =
    elim (cases_eq first.id id) [
      | inl same ↦
          let is = same_waiting first id item same (same_Some first.item item (sym (item_of_head first rest id same) ∙ found)) in
          subst (IsInChain id) (sym (cond-true (test first) (first ∷ filter test rest) (filter test rest) (ap test is ∙ passes))) (inl same)
      | inr differs ↦
          let later = item_of-is_in_filter test rest id item (sym (item_of_past first rest id differs) ∙ found) passes in
          cond_both (IsInChain id) (test first) _ _ (inr later) later
    ]

pub item_of-absent : (lines : List Waiting) (id : ℕ) → ¬ IsInChain id lines → item_of lines id ≡ None
item_of-absent [] id absent = refl
item_of-absent (first ∷ rest) id absent =
    item_of_past first rest id (λ same. absent (inl same)) ∙ item_of-absent rest id (λ later. absent (inr later))

-- ---- ids in the orders

pub IsIn-filter : (test : Waiting → Bool) (id : ℕ) (lines : List Waiting) → IsInChain id (filter test lines) → IsInChain id lines
IsIn-filter test id [] found = absurd found
IsIn-filter test id (first ∷ rest) found =
    cond_both (λ xs. IsInChain id xs → IsInChain id (first ∷ rest)) (test first) _ _
    (λ now. elim now [ inl here ↦ inl here | inr there ↦ inr (IsIn-filter test id rest there) ])
    (λ now. inr (IsIn-filter test id rest now))
    found

pub IsApart-filter : (test : Waiting → Bool) (lines : List Waiting) → IsApart lines → IsApart (filter test lines)
IsApart-filter test [] apart = tt
IsApart-filter test (first ∷ rest) apart =
    cond_both IsApart (test first) _ _
    (λ found. apart.0 (IsIn-filter test first.id rest found), IsApart-filter test rest apart.1)
    (IsApart-filter test rest apart.1)

pub IsIn-without : (id other : ℕ) (lines : List Waiting) → IsInChain other (without_request id lines) → IsInChain other lines × (other ≢ id)
IsIn-without id other [] found = absurd found
IsIn-without id other (first ∷ rest) found =
    elim (cases_eq first.id id) [
      | inl same ↦
          let later = IsIn-without id other rest (subst (IsInChain other) (without_head id first rest same) found) in
          (inr later.0, later.1)
      | inr differs ↦
          elim (subst (IsInChain other) (without_past id first rest differs) found) [
            | inl here ↦ (inl here, λ same. differs (here ∙ same))
            | inr there ↦ let later = IsIn-without id other rest there in (inr later.0, later.1)
          ]
    ]

IsIn-push : (lines : List Waiting) (new : Waiting) (id : ℕ) → IsInChain id (lines ++ new ∷ []) → IsInChain id lines ⊎ (new.id ≡ id)
IsIn-push [] new id found = elim found [ inl here ↦ inr here | inr nowhere ↦ absurd nowhere ]
IsIn-push (first ∷ rest) new id found =
    elim found [
      | inl here ↦ inl (inl here)
      | inr there ↦ elim (IsIn-push rest new id there) [ inl old ↦ inl (inr old) | inr is_new ↦ inr is_new ]
    ]

pub IsApart-push : (lines : List Waiting) (new : Waiting) → IsApart lines → ¬ IsInChain new.id lines → IsApart (lines ++ new ∷ [])
IsApart-push [] new apart absent = (λ nowhere. nowhere, tt)
IsApart-push (first ∷ rest) new apart absent = (
  λ found. elim (IsIn-push rest new first.id found) [ inl old ↦ apart.0 old | inr is_new ↦ absent (inl (sym is_new)) ],
  IsApart-push rest new apart.1 (λ there. absent (inr there)),
)

pub IsIn-place_cases : (id : ℕ) (new : Waiting) (lines : List Waiting) → IsInChain id (place new lines) → (new.id ≡ id) ⊎ IsInChain id lines
IsIn-place_cases id new [] found = found
IsIn-place_cases id new (first ∷ rest) found =
    cond_both (λ xs. IsInChain id xs → (new.id ≡ id) ⊎ IsInChain id (first ∷ rest)) (int_lt new.item.deadline first.item.deadline) _ _
    (λ now. now)
    (λ now. elim now [
      | inl here ↦ inr (inl here)
      | inr there ↦ elim (IsIn-place_cases id new rest there) [ inl is_new ↦ inl is_new | inr later ↦ inr (inr later) ]
    ])
    found

pub IsIn-place : (id : ℕ) (new : Waiting) (lines : List Waiting) → (new.id ≡ id) ⊎ IsInChain id lines → IsInChain id (place new lines)
IsIn-place id new [] found = found
IsIn-place id new (first ∷ rest) found =
    cond_both (IsInChain id) (int_lt new.item.deadline first.item.deadline) _ _ found
    (elim found [
      | inl is_new ↦ inr (IsIn-place id new rest (inl is_new))
      | inr old ↦ elim old [ inl here ↦ inl here | inr there ↦ inr (IsIn-place id new rest (inr there)) ]
    ])

IsApart-place : (new : Waiting) (lines : List Waiting) → IsApart lines → ¬ IsInChain new.id lines → IsApart (place new lines)
IsApart-place new [] apart absent = (λ nowhere. nowhere, tt)
IsApart-place new (first ∷ rest) apart absent =
    cond_both IsApart (int_lt new.item.deadline first.item.deadline) _ _ (absent, apart) (
      λ found. elim (IsIn-place_cases first.id new rest found) [ inl is_new ↦ absent (inl (sym is_new)) | inr old ↦ apart.0 old ],
      IsApart-place new rest apart.1 (λ there. absent (inr there)),
    )

pub IsIn-place_all_cases : (id : ℕ) (sorted lines : List Waiting) → IsInChain id (place_all sorted lines) → IsInChain id sorted ⊎ IsInChain id lines
IsIn-place_all_cases id sorted [] found = inl found
IsIn-place_all_cases id sorted (first ∷ rest) found =
    elim (IsIn-place_all_cases id (place first sorted) rest found) [
      | inl before ↦ elim (IsIn-place_cases id first sorted before) [ inl here ↦ inr (inl here) | inr older ↦ inl older ]
      | inr later ↦ inr (inr later)
    ]

pub IsIn-place_all : (id : ℕ) (sorted lines : List Waiting) → IsInChain id sorted ⊎ IsInChain id lines → IsInChain id (place_all sorted lines)
IsIn-place_all id sorted [] found = elim found [ inl before ↦ before | inr nowhere ↦ absurd nowhere ]
IsIn-place_all id sorted (first ∷ rest) found =
    IsIn-place_all id (place first sorted) rest
    (elim found [
      | inl before ↦ inl (IsIn-place id first sorted (inr before))
      | inr now ↦ elim now [ inl here ↦ inl (IsIn-place id first sorted (inl here)) | inr later ↦ inr later ]
    ])

pub IsApart-place_all : (sorted lines : List Waiting) → IsApart sorted → IsApart lines → ((id : ℕ) → IsInChain id lines → ¬ IsInChain id sorted) → IsApart (place_all sorted lines)
IsApart-place_all sorted [] before apart others = before
IsApart-place_all sorted (first ∷ rest) before apart others =
    IsApart-place_all (place first sorted) rest (IsApart-place first sorted before (others first.id (inl refl))) apart.1
    (λ id later found. elim (IsIn-place_cases id first sorted found) [
      | inl here ↦ apart.0 (subst (λ k. IsInChain k rest) (sym here) later)
      | inr older ↦ others id (inr later) older
    ])

-- ---- filters

filter-cond : (p : Waiting → Bool) (b : Bool) (first : Waiting) (rest : List Waiting) → filter p (cond b (first ∷ rest) rest) ≡ cond b (cond (p first) (first ∷ filter p rest) (filter p rest)) (filter p rest)
filter-cond p b first rest = elim b as (λ v. filter p (cond v (first ∷ rest) rest) ≡ cond v (cond (p first) (first ∷ filter p rest) (filter p rest)) (filter p rest)) [ true ↦ refl | false ↦ refl ]

cond-swap : (a b : Bool) (x y : List Waiting) → cond b (cond a x y) y ≡ cond a (cond b x y) y
cond-swap true b x y = refl
cond-swap false b x y = elim b as (λ v. cond v y y ≡ y) [ true ↦ refl | false ↦ refl ]

-- two filters in either order
pub filter-swap : (p q : Waiting → Bool) (lines : List Waiting) → filter p (filter q lines) ≡ filter q (filter p lines)
filter-swap p q [] = refl
filter-swap p q (first ∷ rest) =
    let xs = filter p (filter q rest) in
    let ys = filter q (filter p rest) in
    filter-cond p (q first) first (filter q rest)
    ∙ cond-swap (p first) (q first) (first ∷ xs) xs
    ∙ ap (λ l. cond (p first) (cond (q first) (first ∷ l) l) l) (filter-swap p q rest)
    ∙ sym (filter-cond q (p first) first (filter p rest))

-- ---- by deadline

-- none is due before this one
abbrev pub NoneBefore : Waiting → List Waiting → Type 0
NoneBefore first rest = Every (λ other. int_lt other.item.deadline first.item.deadline ≡ false) rest

abbrev pub IsSorted : List Waiting → Type 0
IsSorted [] = Unit {0}
IsSorted (first ∷ rest) = NoneBefore first rest × IsSorted rest

-- one that is due before the first of a sorted list is due before all of it
all_later : (new first : Waiting) (rest : List Waiting) → int_lt new.item.deadline first.item.deadline ≡ true → NoneBefore first rest → NoneBefore new rest
all_later new first rest earlier sorted =
    Every-weaker (λ other. int_lt other.item.deadline first.item.deadline ≡ false) (λ other. int_lt other.item.deadline new.item.deadline ≡ false)
    (λ other not_earlier. not_both_earlier new.item.deadline other.item.deadline (earlier_than_later new.item.deadline first.item.deadline other.item.deadline earlier not_earlier)) rest sorted

pub IsSorted-place : (new : Waiting) (lines : List Waiting) → IsSorted lines → IsSorted (place new lines)
IsSorted-place new [] sorted = (tt, tt)
IsSorted-place new (first ∷ rest) sorted =
    elim (cases_Bool (int_lt new.item.deadline first.item.deadline)) [
      | inl earlier ↦
          subst IsSorted (sym (cond-true _ (new ∷ first ∷ rest) (first ∷ place new rest) earlier))
          ((not_both_earlier new.item.deadline first.item.deadline earlier, all_later new first rest earlier sorted.0), sorted)
      | inr later ↦
          subst IsSorted (sym (cond-false _ (new ∷ first ∷ rest) (first ∷ place new rest) later))
          (Every-place (λ other. int_lt other.item.deadline first.item.deadline ≡ false) new rest later sorted.0, IsSorted-place new rest sorted.1)
    ]

pub IsSorted-place_all : (sorted lines : List Waiting) → IsSorted sorted → IsSorted (place_all sorted lines)
IsSorted-place_all sorted [] before = before
IsSorted-place_all sorted (first ∷ rest) before = IsSorted-place_all (place first sorted) rest (IsSorted-place first sorted before)

pub place_all-push : (sorted lines : List Waiting) (new : Waiting) → place_all sorted (lines ++ new ∷ []) ≡ place new (place_all sorted lines)
place_all-push sorted [] new = refl
place_all-push sorted (first ∷ rest) new = place_all-push (place first sorted) rest new

-- one that leaves right after it was placed
place-gone : (id : ℕ) (new : Waiting) (lines : List Waiting) → new.id ≡ id → without_request id (place new lines) ≡ without_request id lines
place-gone id new [] same = without_head id new [] same
place-gone id new (first ∷ rest) same =
    cond_both (λ xs. without_request id xs ≡ without_request id (first ∷ rest)) (int_lt new.item.deadline first.item.deadline) _ _
    (without_head id new (first ∷ rest) same)
    (elim (cases_eq first.id id) [
      | inl here ↦ without_head id first (place new rest) here ∙ place-gone id new rest same ∙ sym (without_head id first rest here)
      | inr differs ↦ without_past id first (place new rest) differs ∙ ap (λ l. first ∷ l) (place-gone id new rest same) ∙ sym (without_past id first rest differs)
    ])

-- one that is due before all others is placed first
place-first : (new : Waiting) (lines : List Waiting) → Every (λ other. int_lt new.item.deadline other.item.deadline ≡ true) lines → place new lines ≡ new ∷ lines
place-first new [] all = refl
place-first new (first ∷ rest) all = cond-true _ _ _ all.0

place-kept : (id : ℕ) (new : Waiting) (lines : List Waiting) → IsSorted lines → new.id ≢ id → without_request id (place new lines) ≡ place new (without_request id lines)
place-kept id new [] sorted differs = without_past id new [] differs
place-kept id new (first ∷ rest) sorted differs =
    elim (cases_Bool (int_lt new.item.deadline first.item.deadline)) [
      | inl earlier ↦
          let all : Every (λ other. int_lt new.item.deadline other.item.deadline ≡ true) (first ∷ rest) =
          (earlier, Every-weaker (λ other. int_lt other.item.deadline first.item.deadline ≡ false) (λ other. int_lt new.item.deadline other.item.deadline ≡ true) (λ other not_earlier. earlier_than_later new.item.deadline first.item.deadline other.item.deadline earlier not_earlier) rest sorted.0) in
          ap (without_request id) (place-first new (first ∷ rest) all)
          ∙ without_past id new (first ∷ rest) differs
          ∙ sym (place-first new (without_request id (first ∷ rest)) (Every-filter (λ other. int_lt new.item.deadline other.item.deadline ≡ true) (λ w. not (eqb w.id id)) (first ∷ rest) all))
      | inr later ↦
          ap (without_request id) (cond-false _ (new ∷ first ∷ rest) (first ∷ place new rest) later)
          ∙ elim (cases_eq first.id id) [
            | inl here ↦ without_head id first (place new rest) here ∙ place-kept id new rest sorted.1 differs ∙ ap (place new) (sym (without_head id first rest here))
            | inr other ↦
                without_past id first (place new rest) other
                ∙ ap (λ l. first ∷ l) (place-kept id new rest sorted.1 differs)
                ∙ sym (cond-false _ (new ∷ first ∷ without_request id rest) (first ∷ place new (without_request id rest)) later)
                ∙ ap (place new) (sym (without_past id first rest other))
          ]
    ]

pub place_all-without : (id : ℕ) (sorted lines : List Waiting) → IsSorted sorted → place_all (without_request id sorted) (without_request id lines) ≡ without_request id (place_all sorted lines)
place_all-without id sorted [] before = refl
place_all-without id sorted (first ∷ rest) before =
    let after = place_all-without id (place first sorted) rest (IsSorted-place first sorted before) in
    elim (cases_eq first.id id) [
      | inl same ↦
          ap (place_all (without_request id sorted)) (without_head id first rest same)
          ∙ ap (λ l. place_all l (without_request id rest)) (sym (place-gone id first sorted same))
          ∙ after
      | inr differs ↦
          ap (place_all (without_request id sorted)) (without_past id first rest differs)
          ∙ ap (λ l. place_all l (without_request id rest)) (sym (place-kept id first sorted before differs))
          ∙ after
    ]

-- those before the first whose deadline is later than a moment
abbrev pub until_later : ℤ → List Waiting → List Waiting
until_later moment [] = []
until_later moment (first ∷ rest) = cond (int_lt moment first.item.deadline) [] (first ∷ until_later moment rest)

pub later-split : (moment : ℤ) (lines : List Waiting) → until_later moment lines ++ later_than moment lines ≡ lines
later-split moment [] = refl
later-split moment (first ∷ rest) = by_test (later-split moment rest) (int_lt moment first.item.deadline)
  where
    by_test : until_later moment rest ++ later_than moment rest ≡ rest → (b : Bool) → cond b [] (first ∷ until_later moment rest) ++ cond b (first ∷ rest) (later_than moment rest) ≡ first ∷ rest
    by_test is true = refl
    by_test is false = ap (λ l. first ∷ l) is

pub place-split : (new : Waiting) (lines : List Waiting) → place new lines ≡ until_later new.item.deadline lines ++ new ∷ later_than new.item.deadline lines
place-split new [] = refl
place-split new (first ∷ rest) = by_test (place-split new rest) (int_lt new.item.deadline first.item.deadline)
  where
    by_test : place new rest ≡ until_later new.item.deadline rest ++ new ∷ later_than new.item.deadline rest → (b : Bool) → cond b (new ∷ first ∷ rest) (first ∷ place new rest) ≡ cond b [] (first ∷ until_later new.item.deadline rest) ++ new ∷ cond b (first ∷ rest) (later_than new.item.deadline rest)
    by_test is true = refl
    by_test is false = ap (λ l. first ∷ l) is

-- where the first isn't due, none is
none_due : (moment : ℤ) (lines : List Waiting) → Every (λ other. int_lt moment other.item.deadline ≡ true) lines → due_at moment lines ≡ []
none_due moment [] all = refl
none_due moment (first ∷ rest) all = cond-false _ _ _ (not_from_true _ all.0) ∙ none_due moment rest all.1

pub first_not_due : (moment : ℤ) (first : Waiting) (rest : List Waiting) → IsSorted (first ∷ rest) → int_lt moment first.item.deadline ≡ true → due_at moment (first ∷ rest) ≡ []
first_not_due moment first rest sorted later =
    none_due moment (first ∷ rest) (later, Every-weaker (λ other. int_lt other.item.deadline first.item.deadline ≡ false) (λ other. int_lt moment other.item.deadline ≡ true) (λ other not_earlier. earlier_than_later moment first.item.deadline other.item.deadline later not_earlier) rest sorted.0)
