-- The lists after a request joined them.
use Rattle.std.proofs.Common.{◌≡◌, ◌≢◌, ℕ, ◌+◌, ◌^◌, ◌<◌, false, eqb, List, [], ◌∷◌, ◌++◌, length, Option, Some, None, refl, sym, ap, ◌∙◌, subst, inl, inr, arith, eq-eqb, ne_eqb, set, get_or-set_same, get_or-set_other, append-nil}
use Rattle.std.specs.List.{filter}
use Rattle.std.specs.Prelude.{option_map, IsSome, is_some}
use Rattle.std.proofs.lemmas.List.{length-set}
use Rattle.std.proofs.lemmas.List.Elements.{filter-append}
use Rattle.std.proofs.lemmas.Bool.{cases_eq, cond-true, cond-false}
use Rattle.std.proofs.lemmas.Option.{none-some, same_Some}
use Rattle.slab.specs.Slab.{Slab, get, Updates}
use Rattle.gw_links.specs.declared.item.Item.{Item}
use Rattle.gw_links.specs.declared.link.Link.{Link}
use Rattle.gw_links.specs.declared.link.Node.{Node}
use Rattle.gw_links.specs.declared.link.Order.{Order}
use Rattle.gw_links.specs.declared.link.Order.TheVariants.{Till, Terminal, Deadline}
use Rattle.gw_links.specs.Waiting.{Waiting, of_seat, at_terminal, by_deadline, later_than, first_id}
use Rattle.gw_links.specs.inner.Chain.{Every, IsInChain, IsApart, Inserts}
use Rattle.gw_links.specs.inner.Table.{no_link, ends_at, slot_link, next_in, prev_in, held, noted, IsHeldAt, IsPlace, SameElsewhere, Links_up, IsSoundTable, accepted_in}
use Rattle.gw_links.proofs.ChainLemmas.{IsOn, IsOff-none, IsIn-left, IsIn-right, last_of, last_on, prev_split, IsChain-insert}
use Rattle.gw_links.proofs.NumberLemmas.{AreNumbered-added, accepted_in-added}
use Rattle.gw_links.proofs.OrderLemmas.{IsIn-filter, IsApart-filter, IsApart-push, Every-push, Every-weaker, Every-filter, IsIn-place_all_cases, place_all-push, place-split, later-split, until_later}
use Rattle.gw_links.proofs.SoundLemmas.{timed_apart, timed_held, listed_some, on_place}
use Rattle.gw_links.proofs.TakeLemmas.{lists_apart, Links_up-kept, till_terminal, till_deadline, terminal_deadline}

first_place : (ys : List Waiting) → IsOn None ys (first_id ys)
first_place [] = inl refl
first_place (first ∷ rest) = inr (first.id, inl refl, refl)

module _ (order : Order) (old : Slab Node) (ends : Link) (xs ys : List Waiting) (chain : Links_up order old ends (xs ++ ys)) where
  -- the place before the first of the rest
  pub before_is : prev_in order old ends (first_id ys) ≡ last_of None xs
  before_is = prev_split (next_in order old ends) (prev_in order old ends) None xs ys chain

  pub before_on : IsOn None (xs ++ ys) (prev_in order old ends (first_id ys))
  before_on =
      subst (IsOn None (xs ++ ys)) (sym before_is)
      (elim (last_on None xs) [ inl end ↦ inl end | inr there ↦ inr (there.0, IsIn-left there.0 xs ys there.1, there.2) ])

  pub after_on : IsOn None (xs ++ ys) (first_id ys)
  after_on = elim (first_place ys) [ inl end ↦ inl end | inr there ↦ inr (there.0, IsIn-right there.0 xs ys there.1, there.2) ]

  off_place : (id : ℕ) (at : Option ℕ) → ¬ IsInChain id (xs ++ ys) → IsOn None (xs ++ ys) at → at ≢ Some id
  off_place id at absent on same =
      elim on [
        | inl end ↦ none-some id (sym end ∙ same)
        | inr there ↦ absent (subst (λ k. IsInChain k (xs ++ ys)) (same_Some there.0 id (sym there.2 ∙ same)) there.1)
      ]

  pub before_apart : (id : ℕ) → ¬ IsInChain id (xs ++ ys) → prev_in order old ends (first_id ys) ≢ Some id
  before_apart id absent = off_place id _ absent before_on

  pub after_apart : (id : ℕ) → ¬ IsInChain id (xs ++ ys) → first_id ys ≢ Some id
  after_apart id absent = off_place id _ absent after_on

  module _ (mid : Slab Node) (after : Link) (new : Waiting) (apart : IsApart (xs ++ ys)) (absent : ¬ IsInChain new.id (xs ++ ys)) (links : Inserts (next_in order old ends) (prev_in order old ends) (next_in order mid after) (prev_in order mid after) (prev_in order old ends (first_id ys)) (Some new.id) (first_id ys)) where
    pub Links_up-joined : Links_up order mid after (xs ++ new ∷ ys)
    Links_up-joined =
        IsChain-insert (next_in order old ends) (prev_in order old ends) (next_in order mid after) (prev_in order mid after) None xs ys new chain apart (IsOff-none (xs ++ ys)) absent (none-some new.id)
        (subst (λ b. Inserts (next_in order old ends) (prev_in order old ends) (next_in order mid after) (prev_in order mid after) b (Some new.id) (first_id ys)) before_is links)

    pub link_stays : (other : ℕ) → ¬ IsInChain other (xs ++ ys) → other ≢ new.id → slot_link order (get mid other) ≡ slot_link order (get old other)
    link_stays other outside differs =
        let not_new : Some other ≢ Some new.id = λ same. differs (same_Some other new.id same) in
        let next : (slot_link order (get mid other)).next ≡ (slot_link order (get old other)).next =
        links.nexts (Some other) (λ same. before_apart other outside (sym same)) not_new in
        let prev : (slot_link order (get mid other)).prev ≡ (slot_link order (get old other)).prev =
        links.prevs (Some other) (λ same. after_apart other outside (sym same)) not_new in
        ap (λ p. link_with p (slot_link order (get mid other)).next) prev ∙ ap (link_with (slot_link order (get old other)).prev) next
      where
        link_with : Option ℕ → Option ℕ → Link
        link_with p n = record { prev = p; next = n }

-- ---- a request joins the lists of a table

module _ (order : Order) (number : Item → ℕ) (old mid new : Slab Node) (table : List Link) (width at : ℕ) (after : Link) (lines : List Waiting) (apart : IsApart lines) (joins : Waiting) (absent : ¬ IsInChain joins.id lines) (at_is : at ≡ number joins.item) (inside : at < length table) (below : at < width) (chains : (n : ℕ) → n < width → Links_up order old (ends_at table n) (filter (λ w. eqb (number w.item) n) lines)) (links : Inserts (next_in order old (ends_at table at)) (prev_in order old (ends_at table at)) (next_in order mid after) (prev_in order mid after) (prev_in order old (ends_at table at) None) (Some joins.id) None) (rest : (k : ℕ) → slot_link order (get new k) ≡ slot_link order (get mid k)) where
  own_chain : Links_up order old (ends_at table at) (filter (λ w. eqb (number w.item) at) lines ++ [])
  own_chain = subst (Links_up order old (ends_at table at)) (sym (append-nil (filter (λ w. eqb (number w.item) at) lines))) (chains at below)

  own_apart : IsApart (filter (λ w. eqb (number w.item) at) lines ++ [])
  own_apart = subst IsApart (sym (append-nil (filter (λ w. eqb (number w.item) at) lines))) (IsApart-filter (λ w. eqb (number w.item) at) lines apart)

  not_own : ¬ IsInChain joins.id (filter (λ w. eqb (number w.item) at) lines ++ [])
  not_own found = absent (IsIn-filter (λ w. eqb (number w.item) at) joins.id lines (subst (IsInChain joins.id) (append-nil (filter (λ w. eqb (number w.item) at) lines)) found))

  own_joined : Links_up order new after (filter (λ w. eqb (number w.item) at) (lines ++ joins ∷ []))
  own_joined =
      subst (Links_up order new after)
      (ap (λ l. filter (λ w. eqb (number w.item) at) lines ++ l) (sym (cond-true _ (joins ∷ []) [] (eq-eqb (number joins.item) at (sym at_is)))) ∙ sym (filter-append (λ w. eqb (number w.item) at) lines (joins ∷ [])))
      (Links_up-kept order mid new after (filter (λ w. eqb (number w.item) at) lines ++ joins ∷ [])
      (Links_up-joined order old (ends_at table at) (filter (λ w. eqb (number w.item) at) lines) [] own_chain mid after joins own_apart not_own links)
      (λ k on. rest k))

  other_joined : (n : ℕ) → n < width → n ≢ at → Links_up order new (ends_at table n) (filter (λ w. eqb (number w.item) n) (lines ++ joins ∷ []))
  other_joined n small differs =
      subst (Links_up order new (ends_at table n))
      (sym (append-nil (filter (λ w. eqb (number w.item) n) lines))
      ∙ ap (λ l. filter (λ w. eqb (number w.item) n) lines ++ l) (sym (cond-false _ (joins ∷ []) [] (ne_eqb (number joins.item) n (λ same. differs (sym (at_is ∙ same))))))
      ∙ sym (filter-append (λ w. eqb (number w.item) n) lines (joins ∷ [])))
      (Links_up-kept order old new (ends_at table n) (filter (λ w. eqb (number w.item) n) lines) (chains n small)
      (λ k on. rest k ∙ link_stays order old (ends_at table at) (filter (λ w. eqb (number w.item) at) lines) [] own_chain mid after joins own_apart not_own links k
      (λ also. lists_apart number lines n at k apart differs on (subst (IsInChain k) (append-nil (filter (λ w. eqb (number w.item) at) lines)) also))
      (λ same. absent (subst (λ j. IsInChain j lines) same (IsIn-filter (λ w. eqb (number w.item) n) k lines on)))))

  pub table_joined : (n : ℕ) → n < width → Links_up order new (ends_at (set table at after) n) (filter (λ w. eqb (number w.item) n) (lines ++ joins ∷ []))
  table_joined n small =
      elim (cases_eq n at) [
        | inl same ↦
            subst (λ m. Links_up order new (ends_at (set table at after) m) (filter (λ w. eqb (number w.item) m) (lines ++ joins ∷ []))) (sym same)
            (subst (λ e. Links_up order new e (filter (λ w. eqb (number w.item) at) (lines ++ joins ∷ []))) (sym (get_or-set_same table at after no_link inside)) own_joined)
        | inr differs ↦
            subst (λ e. Links_up order new e (filter (λ w. eqb (number w.item) n) (lines ++ joins ∷ []))) (sym (get_or-set_other table at n after no_link differs)) (other_joined n small differs)
      ]

-- ---- a request joins the slab, and then all lists

module _ (N0 N1 : Slab Node) (tills terminals : List Link) (deadlines : Link) (count : ℕ) (lines : List Waiting) (sound : IsSoundTable N0 tills terminals deadlines count lines) (id : ℕ) (item : Item) (node : Node) (free : get N0 id ≡ None) (added : Updates N0 N1 id (Some node)) (node_item : node.item ≡ item) (node_number : node.accepted ≡ count) where
  pub not_waiting : ¬ IsInChain id lines
  not_waiting found = no_slot (listed_some N0 lines sound.requests id found)
    where
      no_slot : IsSome (get N0 id) → ⊥
      no_slot there = let none : is_some (get N0 id) ≡ false = ap is_some free in absurd (cc)

  pub not_timed : ¬ IsInChain id (by_deadline lines)
  not_timed found = elim (IsIn-place_all_cases id [] lines found) [ inl nowhere ↦ nowhere | inr there ↦ not_waiting there ]

  pub held_new : held N1 id ≡ Some (item, count)
  held_new = ap (option_map noted) added.changed ∙ ap Some (ap (λ i. (i, node.accepted)) node_item ∙ ap (λ n. (item, n)) node_number)

  held_old : (k : ℕ) → k ≢ id → held N1 k ≡ held N0 k
  held_old k differs = ap (option_map noted) (added.others k differs)

  -- a list of older requests
  module _ (order : Order) (ends : Link) (own : List Waiting) (outside : ¬ IsInChain id own) (all : Every (IsHeldAt N0) own) (chain : Links_up order N0 ends own) where
    pub still_linked : Links_up order N1 ends own
    still_linked = Links_up-kept order N0 N1 ends own chain (λ k on. ap (slot_link order) (added.others k (λ same. outside (subst (λ j. IsInChain j own) same on))))

  module _ (N2 N3 N4 : Slab Node) (E F D : Link) (seat terminal : ℕ) (seat_is : seat ≡ item.seat) (terminal_is : terminal ≡ item.terminal) (seat_in : item.seat < 64) (terminal_in : item.terminal < 32) (room : count + 1 < 2 ^ 64) (i1 : Inserts (next_in Till N1 (ends_at tills seat)) (prev_in Till N1 (ends_at tills seat)) (next_in Till N2 E) (prev_in Till N2 E) (prev_in Till N1 (ends_at tills seat) None) (Some id) None) (s1 : SameElsewhere Till N1 N2) (i2 : Inserts (next_in Terminal N2 (ends_at terminals terminal)) (prev_in Terminal N2 (ends_at terminals terminal)) (next_in Terminal N3 F) (prev_in Terminal N3 F) (prev_in Terminal N2 (ends_at terminals terminal) None) (Some id) None) (s2 : SameElsewhere Terminal N2 N3) (i3 : Inserts (next_in Deadline N3 deadlines) (prev_in Deadline N3 deadlines) (next_in Deadline N4 D) (prev_in Deadline N4 D) (prev_in Deadline N3 deadlines (first_id (later_than item.deadline (by_deadline lines)))) (Some id) (first_id (later_than item.deadline (by_deadline lines)))) (s3 : SameElsewhere Deadline N3 N4) where
    new_one : Waiting
    new_one = record { id = id; item = item }

    held_kept : (k : ℕ) → held N4 k ≡ held N1 k
    held_kept k = s3.requests k ∙ s2.requests k ∙ s1.requests k

    held_older : (k : ℕ) → k ≢ id → held N4 k ≡ held N0 k
    held_older k differs = held_kept k ∙ held_old k differs

    pub IsSound-added : IsSoundTable N4 (set tills seat E) (set terminals terminal F) D (count + 1) (lines ++ record { id = id; item = item } ∷ [])
    IsSound-added =
        record {
          bounded = room;
          seats = length-set tills seat E ∙ sound.seats;
          places = length-set terminals terminal F ∙ sound.places;
          numbers = AreNumbered-added N0 N4 count sound.numbers id item (ap (option_map noted) free) (held_kept id ∙ held_new) held_older;
          requests = Every-push (IsHeldAt N4) lines (record { id = id; item = item }) (older lines (λ k on same. not_waiting (subst (λ j. IsInChain j lines) same on)) sound.requests) (record { number = count; holds = held_kept id ∙ held_new; seat = seat_in; terminal = terminal_in });
          apart = IsApart-push lines (record { id = id; item = item }) sound.apart not_waiting;
          by_seat = table_joined Till (λ (i : Item). i.seat) N1 N2 N4 tills 64 seat E lines sound.apart (record { id = id; item = item }) not_waiting seat_is (omega (arith, sound.seats)) (omega arith)
              (λ n below. still_linked Till (ends_at tills n) (of_seat n lines) (λ found. not_waiting (IsIn-filter (λ w. eqb w.item.seat n) id lines found)) (Every-filter (IsHeldAt N0) (λ w. eqb w.item.seat n) lines sound.requests) (sound.by_seat n below)) i1
              (λ k. s3.links Till (λ same. till_deadline same) k ∙ s2.links Till (λ same. till_terminal same) k);
          by_terminal = table_joined Terminal (λ (i : Item). i.terminal) N2 N3 N4 terminals 32 terminal F lines sound.apart (record { id = id; item = item }) not_waiting terminal_is (omega (arith, sound.places)) (omega arith)
              (λ n below. Links_up-kept Terminal N1 N2 (ends_at terminals n) (at_terminal n lines) (still_linked Terminal (ends_at terminals n) (at_terminal n lines) (λ found. not_waiting (IsIn-filter (λ w. eqb w.item.terminal n) id lines found)) (Every-filter (IsHeldAt N0) (λ w. eqb w.item.terminal n) lines sound.requests) (sound.by_terminal n below)) (λ k on. s1.links Terminal (λ same. till_terminal (sym same)) k)) i2
              (λ k. s3.links Terminal (λ same. terminal_deadline same) k);
          in_time = subst (Links_up Deadline N4 D) (sym (place-split (record { id = id; item = item }) (by_deadline lines)) ∙ sym (place_all-push [] lines (record { id = id; item = item })))
              (Links_up-joined Deadline N3 deadlines (until_later item.deadline (by_deadline lines)) (later_than item.deadline (by_deadline lines))
              (subst (Links_up Deadline N3 deadlines) (sym (later-split item.deadline (by_deadline lines)))
              (Links_up-kept Deadline N1 N3 deadlines (by_deadline lines) (still_linked Deadline deadlines (by_deadline lines) not_timed (timed_held N0 tills terminals deadlines count lines sound) sound.in_time)
              (λ k on. s2.links Deadline (λ same. terminal_deadline (sym same)) k ∙ s1.links Deadline (λ same. till_deadline (sym same)) k)))
              N4 D (record { id = id; item = item })
              (subst IsApart (sym (later-split item.deadline (by_deadline lines))) (timed_apart N0 tills terminals deadlines count lines sound))
              (λ found. not_timed (subst (IsInChain id) (later-split item.deadline (by_deadline lines)) found)) i3);
        }
      where
        older : (own : List Waiting) → ((k : ℕ) → IsInChain k own → k ≢ id) → Every (IsHeldAt N0) own → Every (IsHeldAt N4) own
        older [] differs all = tt
        older (first ∷ rest) differs all = (record { number = all.0.number; holds = held_older first.id (differs first.id (inl refl)) ∙ all.0.holds; seat = all.0.seat; terminal = all.0.terminal }, older rest (λ k on. differs k (inr on)) all.1)

    pub accepted_more : accepted_in N4 (count + 1) ≡ accepted_in N0 count ++ record { id = id; item = item } ∷ []
    accepted_more = accepted_in-added N0 N4 count sound.numbers id item (ap (option_map noted) free) (held_kept id ∙ held_new) held_older

  -- ---- where it joins

  module _ (order : Order) (ends : Link) (xs ys : List Waiting) (outside : ¬ IsInChain id (xs ++ ys)) (all : Every (IsHeldAt N0) (xs ++ ys)) (chain : Links_up order N0 ends (xs ++ ys)) (now : Slab Node) (same_held : (k : ℕ) → held now k ≡ held N1 k) (same_links : (k : ℕ) → slot_link order (get now k) ≡ slot_link order (get N1 k)) where
    chain_now : Links_up order now ends (xs ++ ys)
    chain_now = Links_up-kept order N1 now ends (xs ++ ys) (still_linked order ends (xs ++ ys) outside all chain) (λ k on. same_links k)

    all_now : (own : List Waiting) → ¬ IsInChain id own → Every (IsHeldAt N0) own → Every (IsHeldAt now) own
    all_now [] absent held_all = tt
    all_now (first ∷ rest) absent held_all = (record { number = held_all.0.number; holds = same_held first.id ∙ held_old first.id (λ same. absent (inl same)) ∙ held_all.0.holds; seat = held_all.0.seat; terminal = held_all.0.terminal }, all_now rest (λ later. absent (inr later)) held_all.1)

    pub join_before : IsPlace now (prev_in order now ends (first_id ys))
    join_before = on_place now (xs ++ ys) (all_now (xs ++ ys) outside all) _ (before_on order now ends xs ys chain_now)

    pub join_before_apart : prev_in order now ends (first_id ys) ≢ Some id
    join_before_apart = before_apart order now ends xs ys chain_now id outside

    pub join_place : IsPlace now (first_id ys)
    join_place = on_place now (xs ++ ys) (all_now (xs ++ ys) outside all) _ (after_on order now ends xs ys chain_now)

    pub join_apart : first_id ys ≢ Some id
    join_apart = after_apart order now ends xs ys chain_now id outside

-- ---- memory was refused

module _ (N0 : Slab Node) (cap : ℕ) (tills terminals : List Link) (deadlines : Link) (count : ℕ) where
  same_accepted : accepted_in (record N0 { capacity = cap }) count ≡ accepted_in N0 count
  unfolding accepted_in
  same_accepted = refl

  same_sound : (lines : List Waiting) → IsSoundTable N0 tills terminals deadlines count lines → IsSoundTable (record N0 { capacity = cap }) tills terminals deadlines count lines
  same_sound lines sound =
      record {
        bounded = sound.bounded;
        seats = sound.seats;
        places = sound.places;
        numbers = record { below = sound.numbers.below; apart = sound.numbers.apart };
        requests = Every-weaker (IsHeldAt N0) (IsHeldAt (record N0 { capacity = cap })) (λ waiting at. record { number = at.number; holds = at.holds; seat = at.seat; terminal = at.terminal }) lines sound.requests;
        apart = sound.apart;
        by_seat = λ seat below. Links_up-kept Till N0 (record N0 { capacity = cap }) (ends_at tills seat) (of_seat seat lines) (sound.by_seat seat below) (λ k on. refl);
        by_terminal = λ terminal below. Links_up-kept Terminal N0 (record N0 { capacity = cap }) (ends_at terminals terminal) (at_terminal terminal lines) (sound.by_terminal terminal below) (λ k on. refl);
        in_time = Links_up-kept Deadline N0 (record N0 { capacity = cap }) deadlines (by_deadline lines) sound.in_time (λ k on. refl);
      }

  module _ (N1 : Slab Node) (is : N1 ≡ record N0 { capacity = cap }) where
    pub accepted_in-refused : accepted_in N1 count ≡ accepted_in N0 count
    accepted_in-refused = ap (λ n. accepted_in n count) is ∙ same_accepted

    pub IsSound-refused : IsSoundTable N0 tills terminals deadlines count (accepted_in N0 count) → IsSoundTable N1 tills terminals deadlines count (accepted_in N1 count)
    IsSound-refused sound =
        subst (IsSoundTable N1 tills terminals deadlines count) (sym accepted_in-refused)
        (subst (λ n. IsSoundTable n tills terminals deadlines count (accepted_in N0 count)) (sym is) (same_sound (accepted_in N0 count) sound))
