-- A walk along a list of links: what was passed, and what is still to come.
use Rattle.std.proofs.Common.{◌≡◌, ℕ, ◌<◌, cond, eqb, List, [], ◌∷◌, ◌++◌, length, Option, Some, None, refl, sym, ap, ◌∙◌, subst, inl, arith, eq-eqb, ne_eqb, append_assoc}
use Rattle.std.proofs.lemmas.Bool.{cond-true, cond-false}
use Rattle.std.proofs.lemmas.Option.{none-some, same_Some}
use Rattle.gw_links.specs.Waiting.{Waiting, item_of, first_id}
use Rattle.gw_links.specs.inner.Chain.{IsApart, IsChain}
use Rattle.gw_links.proofs.ChainLemmas.{IsIn-right, next_split}

-- what is still to come from a place on
abbrev pub rest_from : Option ℕ → List Waiting → List Waiting
rest_from None lines = []
rest_from (Some id) [] = []
rest_from (Some id) (first ∷ rest) = cond (eqb first.id id) (first ∷ rest) (rest_from (Some id) rest)

pub rest_from-split : (xs ys : List Waiting) → IsApart (xs ++ ys) → rest_from (first_id ys) (xs ++ ys) ≡ ys
rest_from-split [] [] apart = refl
rest_from-split [] (first ∷ rest) apart = cond-true _ _ _ (eq-eqb first.id first.id refl)
rest_from-split (first ∷ rest) [] apart = refl
rest_from-split (first ∷ rest) (second ∷ later) apart =
    cond-false _ _ _ (ne_eqb first.id second.id (λ same. apart.0 (IsIn-right first.id rest (second ∷ later) (inl (sym same)))))
    ∙ rest_from-split rest (second ∷ later) apart.1

item_of-split : (xs : List Waiting) (middle : Waiting) (ys : List Waiting) → IsApart (xs ++ middle ∷ ys) → item_of (xs ++ middle ∷ ys) middle.id ≡ Some middle.item
item_of-split [] middle ys apart = cond-true _ _ _ (eq-eqb middle.id middle.id refl)
item_of-split (first ∷ rest) middle ys apart =
    cond-false _ _ _ (ne_eqb first.id middle.id (λ same. apart.0 (IsIn-right first.id rest (middle ∷ ys) (inl (sym same)))))
    ∙ item_of-split rest middle ys apart.1

-- the place is that of the first of the rest, and the fact holds of what was passed and of the rest
pub record Walk (lines : List Waiting) (at : Option ℕ) (P : List Waiting → List Waiting → Type 0) : Type 0 where
  pub passed : List Waiting
  pub rest : List Waiting
  pub splits : passed ++ rest ≡ lines
  pub here : at ≡ first_id rest
  pub fact : P passed rest

-- a request of the list at a place of it
pub record Here (lines : List Waiting) (id : ℕ) (passed rest : List Waiting) : Type 0 where
  pub waiting : Waiting
  pub later : List Waiting
  pub is : rest ≡ waiting ∷ later
  pub same : waiting.id ≡ id
  pub item : item_of lines id ≡ Some waiting.item

module _ (lines : List Waiting) (apart : IsApart lines) (P : List Waiting → List Waiting → Type 0) where
  pub rest_is : (at : Option ℕ) (walk : Walk lines at P) → rest_from at lines ≡ walk.rest
  rest_is at walk =
      ap (λ a. rest_from a lines) walk.here
      ∙ ap (rest_from (first_id walk.rest)) (sym walk.splits)
      ∙ rest_from-split walk.passed walk.rest (subst IsApart (sym walk.splits) apart)

  pub walk_here : (id : ℕ) (walk : Walk lines (Some id) P) → Here lines id walk.passed walk.rest
  walk_here id walk = by_rest walk.rest walk.splits walk.here
    where
      by_rest : (rest : List Waiting) → walk.passed ++ rest ≡ lines → Some id ≡ first_id rest → Here lines id walk.passed rest
      by_rest [] splits here = absurd (none-some id (sym here))
      by_rest (first ∷ rest) splits here =
          let same : first.id ≡ id = sym (same_Some id first.id here) in
          record {
            waiting = first;
            later = rest;
            is = refl;
            same = same;
            item = ap (item_of lines) (sym same) ∙ ap (λ l. item_of l first.id) (sym splits) ∙ item_of-split walk.passed first rest (subst IsApart (sym splits) apart);
          }

  module _ (next prev : Option ℕ → Option ℕ) (chain : IsChain next prev None lines) where
    pub walk_step : (Q : List Waiting → List Waiting → Type 0) (id : ℕ) (at : Option ℕ) (walk : Walk lines (Some id) P) → at ≡ next (Some id) → ((waiting : Waiting) (later : List Waiting) → waiting.id ≡ id → item_of lines id ≡ Some waiting.item → P walk.passed (waiting ∷ later) → Q (walk.passed ++ waiting ∷ []) later) → Walk lines at Q
    walk_step Q id at walk on kept =
        let here = walk_here id walk in
        let splits : walk.passed ++ here.waiting ∷ here.later ≡ lines = ap (λ l. walk.passed ++ l) (sym here.is) ∙ walk.splits in
        record {
          passed = walk.passed ++ here.waiting ∷ [];
          rest = here.later;
          splits = append_assoc walk.passed (here.waiting ∷ []) here.later ∙ splits;
          here = on ∙ ap (λ k. next (Some k)) (sym here.same) ∙ next_split next prev None walk.passed here.waiting here.later (subst (IsChain next prev None) (sym splits) chain);
          fact = kept here.waiting here.later here.same here.item (subst (P walk.passed) here.is walk.fact);
        }

    pub walk_shorter : (id : ℕ) (at : Option ℕ) (walk : Walk lines (Some id) P) → at ≡ next (Some id) → length (rest_from at lines) < length (rest_from (Some id) lines)
    walk_shorter id at walk on =
        let here = walk_here id walk in
        let splits : walk.passed ++ here.waiting ∷ here.later ≡ lines = ap (λ l. walk.passed ++ l) (sym here.is) ∙ walk.splits in
        let is_next : at ≡ first_id here.later = on ∙ ap (λ k. next (Some k)) (sym here.same) ∙ next_split next prev None walk.passed here.waiting here.later (subst (IsChain next prev None) (sym splits) chain) in
        let as_passed : (walk.passed ++ here.waiting ∷ []) ++ here.later ≡ lines = append_assoc walk.passed (here.waiting ∷ []) here.later ∙ splits in
        let now : rest_from at lines ≡ here.later =
        ap (λ a. rest_from a lines) is_next ∙ ap (rest_from (first_id here.later)) (sym as_passed) ∙ rest_from-split (walk.passed ++ here.waiting ∷ []) here.later (subst IsApart (sym as_passed) apart) in
        omega (arith, ap length now, ap length (rest_is (Some id) walk ∙ here.is))
