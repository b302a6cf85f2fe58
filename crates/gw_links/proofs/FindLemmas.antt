-- What a walk along one list of the lines finds, and what is first on a list.
use Rattle.std.proofs.Common.{◌≡◌, ◌≢◌, ◌⊎◌, ℕ, ℤ, zero, suc, ◌+◌, ◌^◌, ◌<◌, ◌≤◌, Bool, true, false, cond, not, eqb, List, [], ◌∷◌, ◌++◌, length, Option, Some, None, refl, sym, ap, ◌∙◌, subst, inl, inr, arith, append-nil, length-append}
use Rattle.std.specs.Prelude.{int_lt, IsSome, option_map, IfSome}
use Rattle.std.specs.List.{filter, slice_index_or}
use Rattle.std.proofs.lemmas.Bool.{cond-true, cond-false, not_from_false}
use Rattle.std.proofs.lemmas.Option.{none-some, same_Some}
use Rattle.slab.specs.Slab.{Slab, get}
use Rattle.std.specs.Ordering.{is_eq}
use Rattle.gw_base.specs.Key.{key_cmp}
use Rattle.gw_base.specs.declared.key.Key.{Key}
use Rattle.gw_links.specs.declared.item.Item.{Item}
use Rattle.gw_links.specs.declared.link.Link.{Link}
use Rattle.gw_links.specs.declared.link.Node.{Node}
use Rattle.gw_links.specs.declared.link.Order.{Order}
use Rattle.gw_links.specs.Waiting.{Waiting, item_of, of_seat, at_terminal, by_deadline, later_than, due_at, first_id, with_key}
use Rattle.gw_links.specs.inner.Chain.{Every, IsInChain, IsApart}
use Rattle.gw_links.specs.inner.Table.{no_link, ends_at, link_of, next_in, prev_in, held, noted, IsHeldAt, Links_up, IsSoundTable, accepted_in, numbered_nodes}
use Rattle.gw_links.proofs.ChainLemmas.{next_first}
use Rattle.gw_links.proofs.NumberLemmas.{length-present}
use Rattle.gw_links.proofs.OrderLemmas.{same_number, IsIn-filter, IsSorted, IsSorted-place_all, first_not_due, item_of-every}
use Rattle.gw_links.proofs.SoundLemmas.{is_some_from, item_some, item_is, next_is, item_of-is_some}
use Rattle.gw_links.proofs.TakeLemmas.{IsIn-filter_passes}
use Rattle.gw_links.proofs.WalkLemmas.{rest_from, Walk, walk_here, walk_step, walk_shorter}

module _ (nodes : Slab Node) (order : Order) (ends : Link) (lines : List Waiting) (all : Every (IsHeldAt nodes) lines) (apart : IsApart lines) (chain : Links_up order nodes ends lines) where
  pub first_is : ends.next ≡ first_id lines
  first_is = next_first (next_in order nodes ends) (prev_in order nodes ends) None lines chain

  module _ (P : List Waiting → List Waiting → Type 0) where
    pub walk_start : P [] lines → Walk lines ends.next P
    walk_start fact = record { passed = []; rest = lines; splits = refl; here = first_is; fact = fact }

    module _ (id : ℕ) (walk : Walk lines (Some id) P) where
      pub walk_some : IsSome (get nodes id)
      walk_some = let here = walk_here lines apart P id walk in item_some nodes lines all id here.waiting.item here.item

      module _ (node : Node) (is : get nodes id ≡ Some node) where
        pub walk_item : node.item ≡ (walk_here lines apart P id walk).waiting.item
        walk_item = let here = walk_here lines apart P id walk in item_is nodes lines all id here.waiting.item node here.item is

        pub walk_next : (Q : List Waiting → List Waiting → Type 0) (link : Link) → link ≡ link_of order node.links → ((waiting : Waiting) (later : List Waiting) → waiting.id ≡ id → node.item ≡ waiting.item → P walk.passed (waiting ∷ later) → Q (walk.passed ++ waiting ∷ []) later) → Walk lines link.next Q
        walk_next Q link read kept =
            walk_step lines apart P (next_in order nodes ends) (prev_in order nodes ends) chain Q id link.next walk (next_is nodes order ends id node link is read)
            (λ waiting later same item fact. kept waiting later same (item_is nodes lines all id waiting.item node item is) fact)

        pub walk_less : (link : Link) → link ≡ link_of order node.links → length (rest_from link.next lines) < length (rest_from (Some id) lines)
        walk_less link read = walk_shorter lines apart P (next_in order nodes ends) (prev_in order nodes ends) chain id link.next walk (next_is nodes order ends id node link is read)

-- nothing is left at the end
pub nothing_left : (rest : List Waiting) → None ≡ first_id rest → rest ≡ []
nothing_left [] here = refl
nothing_left (first ∷ rest) here = absurd (none-some first.id here)

pub first_listed : (lines : List Waiting) (id : ℕ) → Some id ≡ first_id lines → IsInChain id lines
first_listed [] id here = absurd (none-some id (sym here))
first_listed (first ∷ rest) id here = inl (sym (same_Some id first.id here))

pub if_each : {X : Type 0} (o : Option X) (P : X → Type 0) → ((x : X) → o ≡ Some x → P x) → IfSome o P
if_each None P each = tt
if_each (Some x) P each = each x refl

-- ---- later, due, and with a key

pub later_found : (moment : ℤ) (waiting : Waiting) (later : List Waiting) → int_lt moment waiting.item.deadline ≡ true → later_than moment (waiting ∷ later) ≡ waiting ∷ later
later_found moment waiting later is = cond-true _ _ _ is

pub later_passed : (moment : ℤ) (waiting : Waiting) (later : List Waiting) → int_lt moment waiting.item.deadline ≡ false → later_than moment (waiting ∷ later) ≡ later_than moment later
later_passed moment waiting later is = cond-false _ _ _ is

pub key_found : (key : Key) (waiting : Waiting) (later : List Waiting) → is_eq (key_cmp waiting.item.key key) ≡ true → with_key key (waiting ∷ later) ≡ waiting ∷ with_key key later
key_found key waiting later is = cond-true _ _ _ is

pub key_passed : (key : Key) (waiting : Waiting) (later : List Waiting) → is_eq (key_cmp waiting.item.key key) ≡ false → with_key key (waiting ∷ later) ≡ with_key key later
key_passed key waiting later is = cond-false _ _ _ is

pub timed_sorted : (lines : List Waiting) → IsSorted (by_deadline lines)
timed_sorted lines = IsSorted-place_all [] lines tt

pub none_timed : (moment : ℤ) (timed : List Waiting) → None ≡ first_id timed → first_id (due_at moment timed) ≡ None
none_timed moment timed here = ap (λ l. first_id (due_at moment l)) (nothing_left timed here)

pub first_later : (moment : ℤ) (timed : List Waiting) (id : ℕ) (item : Item) → IsSorted timed → Some id ≡ first_id timed → item_of timed id ≡ Some item → int_lt moment item.deadline ≡ true → first_id (due_at moment timed) ≡ None
first_later moment [] id item sorted here found later = absurd (none-some id (sym here))
first_later moment (first ∷ rest) id item sorted here found later =
    let same : first.id ≡ id = sym (same_Some id first.id here) in
    let is : first.item ≡ item = same_Some first.item item (sym (cond-true _ _ _ (eqb_from first.id id same)) ∙ found) in
    ap first_id (first_not_due moment first rest sorted (ap (λ i. int_lt moment i.deadline) is ∙ later))
  where
    eqb_from : (a b : ℕ) → a ≡ b → eqb a b ≡ true
    eqb_from a b e = Rattle.std.proofs.Common.eq-eqb a b e

pub first_due : (moment : ℤ) (timed : List Waiting) (id : ℕ) (item : Item) → Some id ≡ first_id timed → item_of timed id ≡ Some item → int_lt moment item.deadline ≡ false → first_id (due_at moment timed) ≡ Some id
first_due moment [] id item here found due = absurd (none-some id (sym here))
first_due moment (first ∷ rest) id item here found due =
    let same : first.id ≡ id = sym (same_Some id first.id here) in
    let is : first.item ≡ item = same_Some first.item item (sym (cond-true _ _ _ (Rattle.std.proofs.Common.eq-eqb first.id id same)) ∙ found) in
    ap first_id (cond-true _ (first ∷ due_at moment rest) (due_at moment rest) (not_from_false _ (ap (λ i. int_lt moment i.deadline) is ∙ due))) ∙ sym here

-- ---- lists by number

pub nothing_in : (lines : List Waiting) → ((id : ℕ) → IsInChain id lines → ⊥) → lines ≡ []
nothing_in [] none = refl
nothing_in (first ∷ rest) none = absurd (none first.id (inl refl))

module _ (nodes : Slab Node) (tills terminals : List Link) (deadlines : Link) (count : ℕ) (lines : List Waiting) (sound : IsSoundTable nodes tills terminals deadlines count lines) where
  pub seat_below : (seat id : ℕ) → IsInChain id (of_seat seat lines) → seat < 64
  seat_below seat id found =
      let there = IsIn-filter_passes (λ w. eqb w.item.seat seat) lines id sound.apart found in
      let at = item_of-every (IsHeldAt nodes) lines id there.0 sound.requests there.1 in
      omega (arith, at.seat, same_number there.0.seat seat there.2)

  pub terminal_below : (terminal id : ℕ) → IsInChain id (at_terminal terminal lines) → terminal < 32
  terminal_below terminal id found =
      let there = IsIn-filter_passes (λ w. eqb w.item.terminal terminal) lines id sound.apart found in
      let at = item_of-every (IsHeldAt nodes) lines id there.0 sound.requests there.1 in
      omega (arith, at.terminal, same_number there.0.terminal terminal there.2)

  pub no_seat : (seat : ℕ) → 64 ≤ seat → first_id (of_seat seat lines) ≡ None
  no_seat seat past = ap first_id (nothing_in (of_seat seat lines) (λ id found. omega (arith, seat_below seat id found)))

  pub no_terminal : (terminal : ℕ) → 32 ≤ terminal → first_id (at_terminal terminal lines) ≡ None
  no_terminal terminal past = ap first_id (nothing_in (at_terminal terminal lines) (λ id found. omega (arith, terminal_below terminal id found)))

length-filter_most : (test : Waiting → Bool) (lines : List Waiting) → length (filter test lines) ≤ length lines
length-filter_most test [] = omega arith
length-filter_most test (first ∷ rest) =
    let later = length-filter_most test rest in
    elim (test first) as (λ b. length (cond b (first ∷ filter test rest) (filter test rest)) ≤ suc (length rest)) [ true ↦ omega (arith, later) | false ↦ omega (arith, later) ]

-- no list is longer than the count
pub few_filtered : (test : Waiting → Bool) (nodes : Slab Node) (count : ℕ) → length (filter test (accepted_in nodes count)) ≤ count
unfolding accepted_in
few_filtered test nodes count =
    omega (arith, length-filter_most test (accepted_in nodes count), length-present (λ n. numbered_nodes n (Rattle.slab.specs.Slab.entries nodes)) count)

-- ---- lines in which none waits

module _ (nodes : Slab Node) (empty : nodes.slots ≡ []) where
  held_none : (id : ℕ) → held nodes id ≡ None
  held_none id = ap (λ s. option_map noted (slice_index_or s id None)) empty

  none_accepted : accepted_in nodes 0 ≡ []
  unfolding accepted_in
  none_accepted = refl

  pub IsSound-new : (tills terminals : List Link) → length tills ≡ 64 → length terminals ≡ 32 → ((at : ℕ) → ends_at tills at ≡ no_link) → ((at : ℕ) → ends_at terminals at ≡ no_link) → IsSoundTable nodes tills terminals no_link 0 (accepted_in nodes 0)
  IsSound-new tills terminals wide long seats lists =
      subst (IsSoundTable nodes tills terminals no_link 0) (sym none_accepted)
      (record {
        bounded = omega arith;
        seats = wide;
        places = long;
        numbers = record {
          below = λ id item number holds. absurd (none-some (item, number) (sym (held_none id) ∙ holds));
          apart = λ one other a b number holds also. absurd (none-some (a, number) (sym (held_none one) ∙ holds));
        };
        requests = tt;
        apart = tt;
        by_seat = λ seat below. (ap (λ (l : Link). l.next) (seats seat), ap (λ (l : Link). l.prev) (seats seat));
        by_terminal = λ terminal below. (ap (λ (l : Link). l.next) (lists terminal), ap (λ (l : Link). l.prev) (lists terminal));
        in_time = (refl, refl);
      })

  pub new_is_empty : accepted_in nodes 0 ≡ []
  new_is_empty = none_accepted

-- the first of some of the lines waits
pub first_lives : (test : Waiting → Bool) (lines : List Waiting) (id : ℕ) → Some id ≡ first_id (filter test lines) → IsSome (item_of lines id)
first_lives test lines id here =
    let there = item_of-is_some lines id (IsIn-filter test id lines (first_listed (filter test lines) id here)) in
    is_some_from (item_of lines id) there.0 there.1
