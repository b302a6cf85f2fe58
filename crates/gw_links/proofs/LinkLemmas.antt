-- What a write of one link changes, and what the writes of `attach` and `detach` make together.
use Rattle.std.proofs.Common.{◌≡◌, ◌≢◌, ℕ, Option, Some, None, refl, sym, ap, ◌∙◌, subst, inl, inr}
use Rattle.std.specs.Prelude.{option_map}
use Rattle.std.proofs.lemmas.Bool.{cases_eq}
use Rattle.slab.specs.Slab.{Slab, get, Updates}
use Rattle.gw_links.specs.declared.link.Link.{Link}
use Rattle.gw_links.specs.declared.link.Links.{Links}
use Rattle.gw_links.specs.declared.link.Node.{Node}
use Rattle.gw_links.specs.declared.link.Order.{Order}
use Rattle.gw_links.specs.declared.link.Order.TheVariants.{Till, Terminal, Deadline}
use Rattle.gw_links.specs.inner.Chain.{Joins, Inserts}
use Rattle.gw_links.specs.inner.Table.{link_of, with_link, slot_link, next_in, prev_in, held, noted, SameElsewhere}

link_of-with_link : (order : Order) (links : Links) (link : Link) → link_of order (with_link order links link) ≡ link
link_of-with_link Till links link = refl
link_of-with_link Terminal links link = refl
link_of-with_link Deadline links link = refl

link_of-with_other : (other order : Order) (links : Links) (link : Link) → other ≢ order → link_of other (with_link order links link) ≡ link_of other links
link_of-with_other Till Till links link differs = absurd (differs refl)
link_of-with_other Till Terminal links link differs = refl
link_of-with_other Till Deadline links link differs = refl
link_of-with_other Terminal Till links link differs = refl
link_of-with_other Terminal Terminal links link differs = absurd (differs refl)
link_of-with_other Terminal Deadline links link differs = refl
link_of-with_other Deadline Till links link differs = refl
link_of-with_other Deadline Terminal links link differs = refl
link_of-with_other Deadline Deadline links link differs = absurd (differs refl)

-- a node whose link on one list is another
module _ (order : Order) (old new : Slab Node) (id : ℕ) (node after : Node) (link : Link) (was : get old id ≡ Some node) (updates : Updates old new id (Some after)) (item : after.item ≡ node.item) (accepted : after.accepted ≡ node.accepted) (links : after.links ≡ with_link order node.links link) where
  pub relinked : SameElsewhere order old new
  relinked =
      record {
        requests = λ other. elim (cases_eq other id) [
          | inl same ↦
              ap (held new) same
              ∙ ap (option_map noted) updates.changed
              ∙ ap Some (ap (λ i. (i, after.accepted)) item ∙ ap (λ n. (node.item, n)) accepted)
              ∙ sym (ap (option_map noted) was)
              ∙ sym (ap (held old) same)
          | inr differs ↦ ap (option_map noted) (updates.others other differs)
        ];
        links = λ other differs at. elim (cases_eq at id) [
          | inl same ↦
              ap (λ k. slot_link other (get new k)) same
              ∙ ap (slot_link other) updates.changed
              ∙ ap (link_of other) links
              ∙ link_of-with_other other order node.links link differs
              ∙ sym (ap (slot_link other) was)
              ∙ sym (ap (λ k. slot_link other (get old k)) same)
          | inr elsewhere ↦ ap (slot_link other) (updates.others at elsewhere)
        ];
      }

  there : slot_link order (get new id) ≡ link
  there = ap (slot_link order) updates.changed ∙ ap (link_of order) links ∙ link_of-with_link order node.links link

  pub relinked_prev : (ends : Link) → link.prev ≡ (link_of order node.links).prev → (at : Option ℕ) → prev_in order new ends at ≡ prev_in order old ends at
  relinked_prev ends kept None = refl
  relinked_prev ends kept (Some at) =
      elim (cases_eq at id) [
        | inl same ↦
            ap (λ k. (slot_link order (get new k)).prev) same
            ∙ ap (λ (l : Link). l.prev) there
            ∙ kept
            ∙ sym (ap (λ s. (slot_link order s).prev) was)
            ∙ sym (ap (λ k. (slot_link order (get old k)).prev) same)
        | inr differs ↦ ap (λ s. (slot_link order s).prev) (updates.others at differs)
      ]

  pub relinked_next : (ends : Link) → link.next ≡ (link_of order node.links).next → (at : Option ℕ) → next_in order new ends at ≡ next_in order old ends at
  relinked_next ends kept None = refl
  relinked_next ends kept (Some at) =
      elim (cases_eq at id) [
        | inl same ↦
            ap (λ k. (slot_link order (get new k)).next) same
            ∙ ap (λ (l : Link). l.next) there
            ∙ kept
            ∙ sym (ap (λ s. (slot_link order s).next) was)
            ∙ sym (ap (λ k. (slot_link order (get old k)).next) same)
        | inr differs ↦ ap (λ s. (slot_link order s).next) (updates.others at differs)
      ]

-- the four writes by which a place joins a list
pub Inserts-joins : (f f1 f2 f3 f4 g g1 g2 g3 g4 : Option ℕ → Option ℕ) (before was at after : Option ℕ) → before ≡ was → at ≢ before → at ≢ after → Joins g g1 at before → ((p : Option ℕ) → f1 p ≡ f p) → Joins f1 f2 at after → ((p : Option ℕ) → g2 p ≡ g1 p) → Joins f2 f3 before at → ((p : Option ℕ) → g3 p ≡ g2 p) → Joins g3 g4 after at → ((p : Option ℕ) → f4 p ≡ f3 p) → Inserts f g f4 g4 was at after
Inserts-joins f f1 f2 f3 f4 g g1 g2 g3 g4 before was at after is not_before not_after j1 s1 j2 s2 j3 s3 j4 s4 =
    subst (λ b. Inserts f g f4 g4 b at after) is
    (record {
      into = s4 before ∙ j3.here;
      out = s4 at ∙ j3.others at not_before ∙ j2.here;
      back_into = j4.here;
      back_out = j4.others at not_after ∙ s3 at ∙ s2 at ∙ j1.here;
      nexts = λ other no_before no_at. s4 other ∙ j3.others other no_before ∙ j2.others other no_at ∙ s1 other;
      prevs = λ other no_after no_at. j4.others other no_after ∙ s3 other ∙ s2 other ∙ j1.others other no_at;
    })
