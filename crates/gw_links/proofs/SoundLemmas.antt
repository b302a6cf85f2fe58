-- What lines that are sound say of the requests on their lists.
use Rattle.std.proofs.Common.{◌≡◌, ℕ, List, [], ◌∷◌, Option, Some, None, refl, sym, ap, ◌∙◌, subst, inl, inr, eq-eqb, ne_eqb}
use Rattle.std.specs.Prelude.{IsSome, is_some, option_map}
use Rattle.std.proofs.lemmas.Bool.{cases_eq, cond-true, cond-false}
use Rattle.std.proofs.lemmas.Option.{same_Some}
use Rattle.slab.specs.Slab.{Slab, get}
use Rattle.gw_links.specs.declared.item.Item.{Item}
use Rattle.gw_links.specs.declared.link.Link.{Link}
use Rattle.gw_links.specs.declared.link.Node.{Node}
use Rattle.gw_links.specs.declared.link.Order.{Order}
use Rattle.gw_links.specs.Waiting.{Waiting, item_of, by_deadline}
use Rattle.gw_links.specs.inner.Chain.{Every, IsInChain, IsApart}
use Rattle.gw_links.specs.inner.Table.{link_of, slot_link, next_in, held, noted, IsHeldAt, IsPlace, IsSoundTable}
use Rattle.gw_links.proofs.ChainLemmas.{IsOn}
use Rattle.gw_links.proofs.NumberLemmas.{held_node}
use Rattle.gw_links.proofs.OrderLemmas.{Every-place_all, IsApart-place_all, IsIn-place_all, IsIn-place_all_cases, item_of-every, item_of-is_in}

-- a value that is there
pub some_value : {X : Type 0} (o : Option X) → IsSome o → (x : X) × (o ≡ Some x)
some_value None there = absurd (cc)
some_value (Some x) there = (x, refl)

pub is_some_from : {X : Type 0} (o : Option X) (x : X) → o ≡ Some x → IsSome o
is_some_from o x is = ap is_some is

pub item_of-is_some : (lines : List Waiting) (id : ℕ) → IsInChain id lines → (item : Item) × (item_of lines id ≡ Some item)
item_of-is_some [] id found = absurd found
item_of-is_some (first ∷ rest) id found =
    elim (cases_eq first.id id) [
      | inl same ↦ (first.item, cond-true _ _ _ (eq-eqb first.id id same))
      | inr differs ↦
          let later = item_of-is_some rest id (elim found [ inl here ↦ absurd (differs here) | inr there ↦ there ]) in
          (later.0, cond-false _ _ _ (ne_eqb first.id id differs) ∙ later.1)
    ]

module _ (nodes : Slab Node) where
  pub slot_some : (id : ℕ) (pair : Item × ℕ) → held nodes id ≡ Some pair → IsSome (get nodes id)
  slot_some id pair holds = let found = held_node (get nodes id) pair.0 pair.1 holds in is_some_from (get nodes id) found.0 found.1

  pub slot_item : (id : ℕ) (item : Item) (number : ℕ) (node : Node) → held nodes id ≡ Some (item, number) → get nodes id ≡ Some node → node.item ≡ item
  slot_item id item number node holds is =
      ap (λ p. p.0) (same_Some (node.item, node.accepted) (item, number) (sym (ap (option_map noted) is) ∙ holds))

  -- the link that was read is the next place
  pub next_is : (order : Order) (ends : Link) (id : ℕ) (node : Node) (link : Link) → get nodes id ≡ Some node → link ≡ link_of order node.links → link.next ≡ next_in order nodes ends (Some id)
  next_is order ends id node link is read = ap (λ (l : Link). l.next) read ∙ sym (ap (λ s. (slot_link order s).next) is)

  -- a request of held ones lies in the slab
  module _ (lines : List Waiting) (all : Every (IsHeldAt nodes) lines) where
    pub listed_some : (id : ℕ) → IsInChain id lines → IsSome (get nodes id)
    listed_some id found =
        let there = item_of-is_some lines id found in
        let at = item_of-every (IsHeldAt nodes) lines id there.0 all there.1 in
        slot_some id _ at.holds

    pub item_some : (id : ℕ) (item : Item) → item_of lines id ≡ Some item → IsSome (get nodes id)
    item_some id item found = listed_some id (item_of-is_in lines id item found)

    pub item_is : (id : ℕ) (item : Item) (node : Node) → item_of lines id ≡ Some item → get nodes id ≡ Some node → node.item ≡ item
    item_is id item node found is =
        let at = item_of-every (IsHeldAt nodes) lines id item all found in
        slot_item id item at.number node at.holds is

    -- a place on a list of these is a place of the slab
    pub on_place : (place : Option ℕ) → IsOn None lines place → IsPlace nodes place
    on_place place on =
        elim on [
          | inl end ↦ subst (IsPlace nodes) (sym end) tt
          | inr found ↦ subst (IsPlace nodes) (sym found.2) (listed_some found.0 found.1)
        ]

module _ (nodes : Slab Node) (tills terminals : List Link) (deadlines : Link) (count : ℕ) (lines : List Waiting) (sound : IsSoundTable nodes tills terminals deadlines count lines) where
  pub timed_held : Every (IsHeldAt nodes) (by_deadline lines)
  timed_held = Every-place_all (IsHeldAt nodes) [] lines tt sound.requests

  pub timed_apart : IsApart (by_deadline lines)
  timed_apart = IsApart-place_all [] lines tt sound.apart (λ id there nowhere. nowhere)

  -- a request by deadline is one of the lines
  pub timed_item : (id : ℕ) (item : Item) → item_of (by_deadline lines) id ≡ Some item → item_of lines id ≡ Some item
  timed_item id item found =
      let there = elim (IsIn-place_all_cases id [] lines (item_of-is_in (by_deadline lines) id item found)) as (λ _. IsInChain id lines) [ inl nowhere ↦ absurd nowhere | inr there ↦ there ] in
      let is = item_of-is_some lines id there in
      let one = item_of-every (IsHeldAt nodes) lines id is.0 sound.requests is.1 in
      let other = item_of-every (IsHeldAt nodes) (by_deadline lines) id item timed_held found in
      is.1 ∙ ap Some (ap (λ p. p.0) (same_Some (is.0, one.number) (item, other.number) (sym one.holds ∙ other.holds)))

  pub timed_from : (id : ℕ) (item : Item) → item_of lines id ≡ Some item → item_of (by_deadline lines) id ≡ Some item
  timed_from id item found =
      let there = IsIn-place_all id [] lines (inr (item_of-is_in lines id item found)) in
      let is = item_of-is_some (by_deadline lines) id there in
      let one = item_of-every (IsHeldAt nodes) (by_deadline lines) id is.0 timed_held is.1 in
      let other = item_of-every (IsHeldAt nodes) lines id item sound.requests found in
      is.1 ∙ ap Some (ap (λ p. p.0) (same_Some (is.0, one.number) (item, other.number) (sym one.holds ∙ other.holds)))
