-- The order of acceptance as it is read off the slab.
use Rattle.std.proofs.Common.{◌≡◌, ◌≢◌, ◌⊎◌, ℕ, zero, suc, ◌+◌, ◌<◌, List, [], ◌∷◌, ◌++◌, length, Option, Some, None, refl, sym, ap, ◌∙◌, inl, inr, arith, eq-eqb, ne_eqb, add-one, Contains}
use Rattle.std.specs.Prelude.{option_map, option_to_list}
use Rattle.std.proofs.lemmas.Bool.{cases_eq, cond-true, cond-false}
use Rattle.std.proofs.lemmas.List.{length-append}
use Rattle.std.proofs.lemmas.List.Elements.{filter-append}
use Rattle.std.proofs.lemmas.Option.{none-some, same_Some}
use Rattle.slab.specs.Slab.{Slab, get, entries}
use Rattle.slab.proofs.SlabLemmas.{Contains-cons, Contains-cons_cases, Contains-entries}
use Rattle.gw_links.specs.declared.item.Item.{Item}
use Rattle.gw_links.specs.declared.link.Node.{Node}
use Rattle.gw_links.specs.Waiting.{Waiting, without_request}
use Rattle.gw_links.specs.inner.Table.{held, noted, numbered_nodes, present, accepted_in, AreNodesNumbered}
use Rattle.gw_links.proofs.ChainLemmas.{without_head, without_past}
use Rattle.gw_links.proofs.OrderLemmas.{same_waiting}

-- ---- what a slot holds

pub held_node : (slot : Option Node) (item : Item) (number : ℕ) → option_map noted slot ≡ Some (item, number) → (node : Node) × (slot ≡ Some node) × (node.item ≡ item) × (node.accepted ≡ number)
held_node None item number found = absurd (none-some (item, number) found)
held_node (Some node) item number found =
    let same = same_Some (node.item, node.accepted) (item, number) found in
    (node, refl, ap (λ p. p.0) same, ap (λ p. p.1) same)

numbered_from : (number : ℕ) (es : List (ℕ × Node)) (waiting : Waiting) → numbered_nodes number es ≡ Some waiting → (node : Node) × Contains es (waiting.id, node) × (node.item ≡ waiting.item) × (node.accepted ≡ number)
numbered_from number [] waiting found = absurd (none-some waiting found)
numbered_from number (entry ∷ rest) waiting found =
    elim (cases_eq entry.1.accepted number) [
      | inl same ↦
          let is = same_Some _ waiting (sym (cond-true _ _ _ (eq-eqb entry.1.accepted number same)) ∙ found) in
          (entry.1, (0, omega arith, ap (λ (w : Waiting). (w.id, entry.1)) is), ap (λ (w : Waiting). w.item) is, same)
      | inr differs ↦
          let later = numbered_from number rest waiting (sym (cond-false _ _ _ (ne_eqb entry.1.accepted number differs)) ∙ found) in
          (later.0, Contains-cons _ _ _ later.1, later.2, later.3)
    ]

numbered_none : (number : ℕ) (es : List (ℕ × Node)) (id : ℕ) (node : Node) → numbered_nodes number es ≡ None → Contains es (id, node) → node.accepted ≢ number
numbered_none number [] id node none listed same = omega (arith, listed.1)
numbered_none number (entry ∷ rest) id node none listed same =
    elim (cases_eq entry.1.accepted number) [
      | inl here ↦ none-some _ (sym none ∙ cond-true _ _ _ (eq-eqb entry.1.accepted number here))
      | inr differs ↦
          elim (Contains-cons_cases _ _ _ listed) [
            | inl is ↦ differs (ap (λ (e : ℕ × Node). e.1.accepted) is ∙ same)
            | inr later ↦ numbered_none number rest id node (sym (cond-false _ _ _ (ne_eqb entry.1.accepted number differs)) ∙ none) later same
          ]
    ]

module _ (nodes : Slab Node) where
  pub number_from : (number : ℕ) (waiting : Waiting) → numbered_nodes number (entries nodes) ≡ Some waiting → held nodes waiting.id ≡ Some (waiting.item, number)
  number_from number waiting found =
      let listed = numbered_from number (entries nodes) waiting found in
      let slot : get nodes waiting.id ≡ Some listed.0 = (Contains-entries nodes waiting.id listed.0).0 listed.1 in
      ap (option_map noted) slot ∙ ap Some (ap (λ i. (i, listed.0.accepted)) listed.2 ∙ ap (λ n. (waiting.item, n)) listed.3)

  pub number_none : (number id : ℕ) (item : Item) → numbered_nodes number (entries nodes) ≡ None → held nodes id ≡ Some (item, number) → ⊥
  number_none number id item none holds =
      let found = held_node (get nodes id) item number holds in
      numbered_none number (entries nodes) id found.0 none ((Contains-entries nodes id found.0).1 found.1) found.3

  pub number_at : (count : ℕ) (number id : ℕ) (item : Item) → AreNodesNumbered nodes count → held nodes id ≡ Some (item, number) → numbered_nodes number (entries nodes) ≡ Some (record { id = id; item = item })
  number_at count number id item numbers holds = by_result (numbered_nodes number (entries nodes)) refl
    where
      by_result : (result : Option Waiting) → numbered_nodes number (entries nodes) ≡ result → numbered_nodes number (entries nodes) ≡ Some (record { id = id; item = item })
      by_result None is = absurd (number_none number id item is holds)
      by_result (Some waiting) is =
          let there = number_from number waiting is in
          let same = numbers.apart waiting.id id waiting.item item number there holds in
          let both = same_Some (waiting.item, number) (item, number) (sym there ∙ ap (held nodes) same ∙ holds) in
          let items : waiting.item ≡ item = ap (λ p. p.0) both in
          is ∙ ap Some (same_waiting waiting id item same items)

-- ---- lists by number

pub present-same : (f g : ℕ → Option Waiting) (count : ℕ) → ((k : ℕ) → k < count → g k ≡ f k) → present g count ≡ present f count
present-same f g zero same = refl
present-same f g (suc count) same =
    ap (λ l. l ++ option_to_list (g count)) (present-same f g count (λ k below. same k (omega arith)))
    ∙ ap (λ o. present f count ++ option_to_list o) (same count (omega arith))

pub present-without : (f g : ℕ → Option Waiting) (id count : ℕ) → ((k : ℕ) → option_to_list (g k) ≡ without_request id (option_to_list (f k))) → present g count ≡ without_request id (present f count)
present-without f g id zero same = refl
present-without f g id (suc count) same =
    ap (λ l. l ++ option_to_list (g count)) (present-without f g id count same)
    ∙ ap (λ l. without_request id (present f count) ++ l) (same count)
    ∙ sym (filter-append _ (present f count) (option_to_list (f count)))

option_to_list_short : (o : Option Waiting) → length (option_to_list o) < 2
option_to_list_short None = omega arith
option_to_list_short (Some waiting) = omega arith

pub length-present : (f : ℕ → Option Waiting) (count : ℕ) → length (present f count) < count + 1
length-present f zero = omega arith
length-present f (suc count) =
    omega (arith, length-present f count, option_to_list_short (f count), length-append (present f count) (option_to_list (f count)))

-- ---- a request joins or leaves

module _ (old new : Slab Node) (count : ℕ) (numbers : AreNodesNumbered old count) where
  module _ (id : ℕ) (item : Item) (free : held old id ≡ None) (added : held new id ≡ Some (item, count)) (others : (other : ℕ) → other ≢ id → held new other ≡ held old other) where
    was_held : (other : ℕ) (a : Item) (number : ℕ) → held new other ≡ Some (a, number) → ((other ≡ id) × (number ≡ count)) ⊎ (held old other ≡ Some (a, number))
    was_held other a number holds =
        elim (cases_eq other id) [
          | inl same ↦ inl (same, ap (λ p. p.1) (same_Some (a, number) (item, count) (sym holds ∙ ap (held new) same ∙ added)))
          | inr differs ↦ inr (sym (others other differs) ∙ holds)
        ]

    pub AreNumbered-added : AreNodesNumbered new (count + 1)
    AreNumbered-added =
        record {
          below = λ other a number holds. elim (was_held other a number holds) [
            | inl here ↦ omega (arith, here.1)
            | inr before ↦ omega (arith, numbers.below other a number before)
          ];
          apart = λ one two a b number first second.
              elim (was_held one a number first) [
                | inl here ↦ elim (was_held two b number second) [
                  | inl there ↦ here.0 ∙ sym there.0
                  | inr before ↦ absurd (omega (arith, here.1, numbers.below two b number before))
                ]
                | inr before ↦ elim (was_held two b number second) [
                  | inl there ↦ absurd (omega (arith, there.1, numbers.below one a number before))
                  | inr also ↦ numbers.apart one two a b number before also
                ]
              ];
        }

    below_kept : (number : ℕ) → number < count → numbered_nodes number (entries new) ≡ numbered_nodes number (entries old)
    below_kept number below = by_result (numbered_nodes number (entries old)) refl
      where
        by_new : (result : Option Waiting) → numbered_nodes number (entries new) ≡ result → numbered_nodes number (entries old) ≡ None → numbered_nodes number (entries new) ≡ numbered_nodes number (entries old)
        by_new None now is = now ∙ sym is
        by_new (Some waiting) now is =
            elim (was_held waiting.id waiting.item number (number_from new number waiting now)) [
              | inl here ↦ absurd (omega (arith, here.1))
              | inr before ↦ absurd (number_none old number waiting.id waiting.item is before)
            ]

        by_result : (result : Option Waiting) → numbered_nodes number (entries old) ≡ result → numbered_nodes number (entries new) ≡ numbered_nodes number (entries old)
        by_result (Some waiting) is =
            let there = number_from old number waiting is in
            let differs : waiting.id ≢ id = λ same. none-some _ (sym free ∙ ap (held old) (sym same) ∙ there) in
            number_at new (count + 1) number waiting.id waiting.item AreNumbered-added (others waiting.id differs ∙ there) ∙ sym is
        by_result None is = by_new (numbered_nodes number (entries new)) refl is

    pub accepted_in-added : accepted_in new (count + 1) ≡ accepted_in old count ++ record { id = id; item = item } ∷ []
    unfolding accepted_in
    accepted_in-added =
        rw add-one
        (ap (λ l. l ++ option_to_list (numbered_nodes count (entries new))) (present-same (λ n. numbered_nodes n (entries old)) (λ n. numbered_nodes n (entries new)) count below_kept)
        ∙ ap (λ o. present (λ n. numbered_nodes n (entries old)) count ++ option_to_list o) (number_at new (count + 1) count id item AreNumbered-added added))

  module _ (id : ℕ) (item : Item) (its : ℕ) (present_there : held old id ≡ Some (item, its)) (gone : held new id ≡ None) (others : (other : ℕ) → other ≢ id → held new other ≡ held old other) where
    still_held : (other : ℕ) (a : Item) (number : ℕ) → held new other ≡ Some (a, number) → (other ≢ id) × (held old other ≡ Some (a, number))
    still_held other a number holds =
        elim (cases_eq other id) [
          | inl same ↦ absurd (none-some _ (sym gone ∙ ap (held new) (sym same) ∙ holds))
          | inr differs ↦ (differs, sym (others other differs) ∙ holds)
        ]

    pub AreNumbered-removed : AreNodesNumbered new count
    AreNumbered-removed =
        record {
          below = λ other a number holds. numbers.below other a number (still_held other a number holds).1;
          apart = λ one two a b number first second. numbers.apart one two a b number (still_held one a number first).1 (still_held two b number second).1;
        }

    number_removed : (number : ℕ) → option_to_list (numbered_nodes number (entries new)) ≡ without_request id (option_to_list (numbered_nodes number (entries old)))
    number_removed number = by_result (numbered_nodes number (entries old)) refl
      where
        by_new : (result : Option Waiting) → numbered_nodes number (entries new) ≡ result → ((waiting : Waiting) → waiting.id ≢ id → held old waiting.id ≡ Some (waiting.item, number) → ⊥) → option_to_list (numbered_nodes number (entries new)) ≡ []
        by_new None now none = ap option_to_list now
        by_new (Some waiting) now none =
            let before = still_held waiting.id waiting.item number (number_from new number waiting now) in
            absurd (none waiting before.0 before.1)

        by_result : (result : Option Waiting) → numbered_nodes number (entries old) ≡ result → option_to_list (numbered_nodes number (entries new)) ≡ without_request id (option_to_list (numbered_nodes number (entries old)))
        by_result None is =
            by_new (numbered_nodes number (entries new)) refl (λ waiting differs holds. number_none old number waiting.id waiting.item is holds)
            ∙ sym (ap (λ o. without_request id (option_to_list o)) is)
        by_result (Some waiting) is =
            let there = number_from old number waiting is in
            elim (cases_eq waiting.id id) [
              | inl same ↦
                  by_new (numbered_nodes number (entries new)) refl (λ other differs holds. differs (numbers.apart other.id waiting.id other.item waiting.item number holds there ∙ same))
                  ∙ sym (ap (λ o. without_request id (option_to_list o)) is ∙ without_head id waiting [] same)
              | inr differs ↦
                  ap option_to_list (number_at new count number waiting.id waiting.item AreNumbered-removed (others waiting.id differs ∙ there))
                  ∙ sym (ap (λ o. without_request id (option_to_list o)) is ∙ without_past id waiting [] differs)
            ]

    pub accepted_in-removed : accepted_in new count ≡ without_request id (accepted_in old count)
    unfolding accepted_in
    accepted_in-removed =
        present-without (λ n. numbered_nodes n (entries old)) (λ n. numbered_nodes n (entries new)) id count number_removed
