-- How a list of links changes when a request joins or leaves it.
use Rattle.std.proofs.Common.{◌≡◌, ◌≢◌, ◌⊎◌, ℕ, List, [], ◌∷◌, ◌++◌, Option, Some, None, refl, sym, ap, ◌∙◌, subst, inl, inr, eq-eqb, ne_eqb}
use Rattle.std.proofs.lemmas.Bool.{cases_eq, cond-true, cond-false, not_from_true, not_from_false}
use Rattle.std.proofs.lemmas.Option.{none-some, same_Some}
use Rattle.gw_links.specs.Waiting.{Waiting, without_request, first_id}
use Rattle.gw_links.specs.inner.Chain.{IsInChain, IsApart, IsChain, Joins, Inserts}

-- ---- requests by id

pub without_head : (id : ℕ) (first : Waiting) (rest : List Waiting) → first.id ≡ id → without_request id (first ∷ rest) ≡ without_request id rest
without_head id first rest same = cond-false _ _ _ (not_from_true _ (eq-eqb first.id id same))

pub without_past : (id : ℕ) (first : Waiting) (rest : List Waiting) → first.id ≢ id → without_request id (first ∷ rest) ≡ first ∷ without_request id rest
without_past id first rest other = cond-true _ _ _ (not_from_false _ (ne_eqb first.id id other))

pub without_absent : (id : ℕ) (lines : List Waiting) → ¬ IsInChain id lines → without_request id lines ≡ lines
without_absent id [] absent = refl
without_absent id (first ∷ rest) absent =
    without_past id first rest (λ same. absent (inl same))
    ∙ ap (λ xs. first ∷ xs) (without_absent id rest (λ found. absent (inr found)))

pub IsIn-left : (id : ℕ) (xs ys : List Waiting) → IsInChain id xs → IsInChain id (xs ++ ys)
IsIn-left id [] ys found = absurd found
IsIn-left id (first ∷ rest) ys found =
    elim found [ inl here ↦ inl here | inr there ↦ inr (IsIn-left id rest ys there) ]

pub IsIn-right : (id : ℕ) (xs ys : List Waiting) → IsInChain id ys → IsInChain id (xs ++ ys)
IsIn-right id [] ys found = found
IsIn-right id (first ∷ rest) ys found = inr (IsIn-right id rest ys found)

pub IsIn-append : (id : ℕ) (xs ys : List Waiting) → IsInChain id (xs ++ ys) → IsInChain id xs ⊎ IsInChain id ys
IsIn-append id [] ys found = inr found
IsIn-append id (first ∷ rest) ys found =
    elim found [
      | inl here ↦ inl (inl here)
      | inr there ↦ elim (IsIn-append id rest ys there) [ inl left ↦ inl (inr left) | inr right ↦ inr right ]
    ]

-- ---- places on a chain

-- the place is this one, or one of these requests
abbrev pub IsOn : Option ℕ → List Waiting → Option ℕ → Type 0
IsOn end lines at = (at ≡ end) ⊎ ((id : ℕ) × IsInChain id lines × (at ≡ Some id))

-- the place is none of these requests
abbrev pub IsOff : List Waiting → Option ℕ → Type 0
IsOff lines at = (id : ℕ) → IsInChain id lines → at ≢ Some id

-- the last place of a chain from a place through these
abbrev pub last_of : Option ℕ → List Waiting → Option ℕ
last_of from [] = from
last_of from (first ∷ rest) = last_of (Some first.id) rest

pub IsOn-cons : (from : Option ℕ) (first : Waiting) (rest : List Waiting) (at : Option ℕ) → IsOn (Some first.id) rest at → IsOn from (first ∷ rest) at
IsOn-cons from first rest at on =
    elim on [ inl here ↦ inr (first.id, inl refl, here) | inr there ↦ inr (there.0, inr there.1, there.2) ]

pub IsOn-more : (end : Option ℕ) (first : Waiting) (rest : List Waiting) (at : Option ℕ) → IsOn end rest at → IsOn end (first ∷ rest) at
IsOn-more end first rest at on =
    elim on [ inl here ↦ inl here | inr there ↦ inr (there.0, inr there.1, there.2) ]

pub off_not_on : (end : Option ℕ) (lines : List Waiting) (at on : Option ℕ) → at ≢ end → IsOff lines at → IsOn end lines on → at ≢ on
off_not_on end lines at on other off found same =
    elim found [ inl here ↦ other (same ∙ here) | inr there ↦ off there.0 there.1 (same ∙ there.2) ]

pub IsOff-none : (lines : List Waiting) → IsOff lines None
IsOff-none lines id found same = none-some id same

pub IsOff-some : (id : ℕ) (lines : List Waiting) → ¬ IsInChain id lines → IsOff lines (Some id)
IsOff-some id lines absent other found same =
    absent (subst (λ k. IsInChain k lines) (sym (same_Some id other same)) found)

some≢none : (id : ℕ) → Some id ≢ None
some≢none id same = none-some id (sym same)

pub last_on : (from : Option ℕ) (lines : List Waiting) → IsOn from lines (last_of from lines)
last_on from [] = inl refl
last_on from (first ∷ rest) = IsOn-cons from first rest _ (last_on (Some first.id) rest)

first_on : (lines : List Waiting) → IsOn None lines (first_id lines)
first_on [] = inl refl
first_on (first ∷ rest) = inr (first.id, inl refl, refl)

module _ (next prev : Option ℕ → Option ℕ) where
  pub next_first : (from : Option ℕ) (lines : List Waiting) → IsChain next prev from lines → next from ≡ first_id lines
  next_first from [] chain = chain.0
  next_first from (first ∷ rest) chain = chain.0

  pub next_split : (from : Option ℕ) (xs : List Waiting) (middle : Waiting) (ys : List Waiting) → IsChain next prev from (xs ++ middle ∷ ys) → next (Some middle.id) ≡ first_id ys
  next_split from [] middle ys chain = next_first (Some middle.id) ys chain.2
  next_split from (first ∷ rest) middle ys chain = next_split (Some first.id) rest middle ys chain.2

  pub prev_split : (from : Option ℕ) (xs ys : List Waiting) → IsChain next prev from (xs ++ ys) → prev (first_id ys) ≡ last_of from xs
  prev_split from [] [] chain = chain.1
  prev_split from [] (first ∷ rest) chain = chain.1
  prev_split from (first ∷ rest) ys chain = prev_split (Some first.id) rest ys chain.2

  pub prev_on : (from : Option ℕ) (lines : List Waiting) (id : ℕ) → IsChain next prev from lines → IsInChain id lines → IsOn from lines (prev (Some id))
  prev_on from [] id chain found = absurd found
  prev_on from (first ∷ rest) id chain found =
      elim found [
        | inl here ↦ inl (ap (λ k. prev (Some k)) (sym here) ∙ chain.1)
        | inr there ↦ IsOn-cons from first rest _ (prev_on (Some first.id) rest id chain.2 there)
      ]

  pub next_on : (from : Option ℕ) (lines : List Waiting) (id : ℕ) → IsChain next prev from lines → IsInChain id lines → IsOn None lines (next (Some id))
  next_on from [] id chain found = absurd found
  next_on from (first ∷ rest) id chain found =
      IsOn-more None first rest _
      (elim found [
        | inl here ↦ subst (λ k. IsOn None rest (next (Some k))) here (subst (IsOn None rest) (sym (next_first (Some first.id) rest chain.2)) (first_on rest))
        | inr there ↦ next_on (Some first.id) rest id chain.2 there
      ])

module _ (next prev next' prev' : Option ℕ → Option ℕ) where
  -- a chain stays where the links stay on it
  pub IsChain-kept : (from : Option ℕ) (lines : List Waiting) → IsChain next prev from lines → ((at : Option ℕ) → IsOn from lines at → next' at ≡ next at) → ((at : Option ℕ) → IsOn None lines at → prev' at ≡ prev at) → IsChain next' prev' from lines
  IsChain-kept from [] chain nexts prevs = (nexts from (inl refl) ∙ chain.0, prevs None (inl refl) ∙ chain.1)
  IsChain-kept from (first ∷ rest) chain nexts prevs = (
    nexts from (inl refl) ∙ chain.0,
    prevs (Some first.id) (inr (first.id, inl refl, refl)) ∙ chain.1,
    IsChain-kept (Some first.id) rest chain.2
        (λ at on. nexts at (IsOn-cons from first rest at on))
        (λ at on. prevs at (IsOn-more None first rest at on)),
  )

  -- the first leaves, and the start is joined to what followed it
  IsChain-skip_first : (from : Option ℕ) (first : Waiting) (rest : List Waiting) → IsChain next prev (Some first.id) rest → IsApart rest → IsOff rest from → Joins next next' from (next (Some first.id)) → Joins prev prev' (next (Some first.id)) from → IsChain next' prev' from rest
  IsChain-skip_first from first [] chain apart from_off nexts prevs =
      (nexts.here ∙ chain.0, ap prev' (sym chain.0) ∙ prevs.here)
  IsChain-skip_first from first (second ∷ rest) chain apart from_off nexts prevs = (
    nexts.here ∙ chain.0,
    ap prev' (sym chain.0) ∙ prevs.here,
    IsChain-kept (Some second.id) rest chain.2
        (λ at on. nexts.others at (λ same.
        off_not_on (Some second.id) rest from at (from_off second.id (inl refl)) (λ k there. from_off k (inr there)) on (sym same)))
        (λ at on. prevs.others at (λ same.
        off_not_on None rest (Some second.id) at (some≢none second.id) (IsOff-some second.id rest apart.0) on (sym (same ∙ chain.0)))),
  )

  -- one leaves, and its neighbours are joined
  pub IsChain-skip : (from : Option ℕ) (lines : List Waiting) (id : ℕ) → IsChain next prev from lines → IsApart lines → IsOff lines from → IsInChain id lines → Joins next next' (prev (Some id)) (next (Some id)) → Joins prev prev' (next (Some id)) (prev (Some id)) → IsChain next' prev' from (without_request id lines)
  IsChain-skip from [] id chain apart from_off found nexts prevs = absurd found
  IsChain-skip from (first ∷ rest) id chain apart from_off found nexts prevs =
      elim (cases_eq first.id id) [
        | inl same ↦
            let gone = without_head id first rest same ∙ without_absent id rest (λ there. apart.0 (subst (λ k. IsInChain k rest) (sym same) there)) in
            subst (λ ks. IsChain next' prev' from ks) (sym gone)
            (IsChain-skip_first from first rest chain.2 apart.1 (λ k there. from_off k (inr there))
            (rw (← same, chain.1) at nexts) (rw (← same, chain.1) at prevs))
        | inr differs ↦
            let there : IsInChain id rest = elim found [ inl here ↦ absurd (differs here) | inr later ↦ later ] in
            let first_off = IsOff-some first.id rest apart.0 in
            subst (λ ks. IsChain next' prev' from ks) (sym (without_past id first rest differs)) (
              nexts.others from (off_not_on (Some first.id) rest from _ (from_off first.id (inl refl)) (λ k later. from_off k (inr later)) (prev_on next prev (Some first.id) rest id chain.2 there)) ∙ chain.0,
              prevs.others (Some first.id) (off_not_on None rest (Some first.id) _ (some≢none first.id) first_off (next_on next prev (Some first.id) rest id chain.2 there)) ∙ chain.1,
              IsChain-skip (Some first.id) rest id chain.2 apart.1 first_off there nexts prevs,
            )
      ]

  -- one joins between two others
  pub IsChain-insert : (from : Option ℕ) (xs ys : List Waiting) (new : Waiting) → IsChain next prev from (xs ++ ys) → IsApart (xs ++ ys) → IsOff (xs ++ ys) from → ¬ IsInChain new.id (xs ++ ys) → from ≢ Some new.id → Inserts next prev next' prev' (last_of from xs) (Some new.id) (first_id ys) → IsChain next' prev' from (xs ++ new ∷ ys)
  IsChain-insert from [] [] new chain apart from_off absent other links =
      (links.into, links.back_out, (links.out, links.back_into))
  IsChain-insert from [] (first ∷ rest) new chain apart from_off absent other links =
      let new_off = IsOff-some new.id rest (λ there. absent (inr there)) in
      let new_other : Some new.id ≢ Some first.id = λ same. absent (inl (sym (same_Some new.id first.id same))) in (
        links.into,
        links.back_out,
        (
          links.out,
          links.back_into,
          IsChain-kept (Some first.id) rest chain.2
              (λ at on. links.nexts at
              (λ same. off_not_on (Some first.id) rest from at (from_off first.id (inl refl)) (λ k there. from_off k (inr there)) on (sym same))
              (λ same. off_not_on (Some first.id) rest (Some new.id) at new_other new_off on (sym same)))
              (λ at on. links.prevs at
              (λ same. off_not_on None rest (Some first.id) at (some≢none first.id) (IsOff-some first.id rest apart.0) on (sym same))
              (λ same. off_not_on None rest (Some new.id) at (some≢none new.id) new_off on (sym same))),
        ),
      )
  IsChain-insert from (first ∷ rest) ys new chain apart from_off absent other links =
      let new_other : Some first.id ≢ Some new.id = λ same. absent (inl (same_Some first.id new.id same)) in
      let first_off = IsOff-some first.id (rest ++ ys) apart.0 in (
        links.nexts from
            (off_not_on (Some first.id) rest from _ (from_off first.id (inl refl)) (λ k there. from_off k (inr (IsIn-left k rest ys there))) (last_on (Some first.id) rest))
            other
            ∙ chain.0,
        links.prevs (Some first.id)
            (off_not_on None ys (Some first.id) _ (some≢none first.id) (λ k there. first_off k (IsIn-right k rest ys there)) (first_on ys))
            new_other
            ∙ chain.1,
        IsChain-insert (Some first.id) rest ys new chain.2 apart.1 first_off (λ there. absent (inr there)) new_other links,
      )
