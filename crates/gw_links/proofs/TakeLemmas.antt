-- The lists after a request left them.
use Rattle.std.proofs.Common.{◌≡◌, ◌≢◌, ℕ, ◌<◌, Bool, true, not, eqb, List, [], ◌∷◌, length, Option, Some, None, sym, ap, ◌∙◌, subst, inl, inr, arith, eq-eqb, ne_eqb, set, get_or-set_same, get_or-set_other}
use Rattle.std.specs.List.{filter}
use Rattle.std.specs.Prelude.{option_map}
use Rattle.std.proofs.lemmas.List.{length-set}
use Rattle.std.proofs.lemmas.Bool.{cases_eq, cases_Bool, cond-true, cond-false}
use Rattle.std.proofs.lemmas.Option.{none-some, same_Some}
use Rattle.slab.specs.Slab.{Slab, get, Updates}
use Rattle.gw_links.specs.declared.item.Item.{Item}
use Rattle.gw_links.specs.declared.link.Link.{Link}
use Rattle.gw_links.specs.declared.link.Node.{Node}
use Rattle.gw_links.specs.declared.link.Order.{Order}
use Rattle.gw_links.specs.declared.link.Order.TheVariants.{Till, Terminal, Deadline}
use Rattle.gw_links.specs.Waiting.{Waiting, item_of, without_request, at_terminal, by_deadline}
use Rattle.gw_links.specs.inner.Chain.{Every, IsInChain, IsApart, Joins}
use Rattle.gw_links.specs.inner.Table.{no_link, ends_at, slot_link, next_in, prev_in, held, noted, IsHeldAt, IsPlace, SameElsewhere, Links_up, IsSoundTable, accepted_in}
use Rattle.gw_links.proofs.ChainLemmas.{IsOn, IsOff-none, without_absent, IsChain-kept, IsChain-skip, prev_on, next_on}
use Rattle.gw_links.proofs.NumberLemmas.{AreNumbered-removed, accepted_in-removed}
use Rattle.gw_links.proofs.OrderLemmas.{same_number, IsIn-without, IsIn-filter, IsApart-filter, Every-weaker, Every-without, filter-swap, place_all-without, item_of-every, item_of-is_in, item_of-is_in_filter, IsIn-place_all}
use Rattle.gw_links.proofs.SoundLemmas.{timed_apart, on_place}

-- ---- lists of one filter

-- a request that a filter keeps passes it
pub IsIn-filter_passes : (test : Waiting → Bool) (lines : List Waiting) (id : ℕ) → IsApart lines → IsInChain id (filter test lines) → (item : Item) × (item_of lines id ≡ Some item) × (test (record { id = id; item = item }) ≡ true)
IsIn-filter_passes test [] id apart found = absurd found
IsIn-filter_passes test (first ∷ rest) id apart found =
    elim (cases_eq first.id id) [
      | inl same ↦
          elim (cases_Bool (test first)) [
            | inl passes ↦ (first.item, cond-true _ _ _ (eq-eqb first.id id same), ap test (ap (λ i. waiting_of i first.item) (sym same)) ∙ passes)
            | inr fails ↦
                let later = IsIn-filter test id rest (subst (IsInChain id) (cond-false _ (first ∷ filter test rest) (filter test rest) fails) found) in
                absurd (apart.0 (subst (λ k. IsInChain k rest) (sym same) later))
          ]
      | inr differs ↦
          let later : IsInChain id (filter test rest) =
          elim (cases_Bool (test first)) [
            | inl passes ↦ elim (subst (IsInChain id) (cond-true _ (first ∷ filter test rest) (filter test rest) passes) found) [ inl here ↦ absurd (differs here) | inr there ↦ there ]
            | inr fails ↦ subst (IsInChain id) (cond-false _ (first ∷ filter test rest) (filter test rest) fails) found
          ] in
          let there = IsIn-filter_passes test rest id apart.1 later in
          (there.0, cond-false _ _ _ (ne_eqb first.id id differs) ∙ there.1, there.2)
    ]
  where
    waiting_of : ℕ → Item → Waiting
    waiting_of i item = record { id = i; item = item }

-- lists by two numbers share no request
pub lists_apart : (number : Item → ℕ) (lines : List Waiting) (one other id : ℕ) → IsApart lines → one ≢ other → IsInChain id (filter (λ w. eqb (number w.item) one) lines) → IsInChain id (filter (λ w. eqb (number w.item) other) lines) → ⊥
lists_apart number lines one other id apart differs first second =
    let a = IsIn-filter_passes (λ w. eqb (number w.item) one) lines id apart first in
    let b = IsIn-filter_passes (λ w. eqb (number w.item) other) lines id apart second in
    let same : a.0 ≡ b.0 = same_Some a.0 b.0 (sym a.1 ∙ b.1) in
    differs (sym (same_number (number a.0) one a.2) ∙ ap number same ∙ same_number (number b.0) other b.2)

-- ---- one list whose links stay

module _ (order : Order) (old new : Slab Node) where
  pub Links_up-kept : (ends : Link) (lines : List Waiting) → Links_up order old ends lines → ((id : ℕ) → IsInChain id lines → slot_link order (get new id) ≡ slot_link order (get old id)) → Links_up order new ends lines
  Links_up-kept ends lines chain same =
      IsChain-kept (next_in order old ends) (prev_in order old ends) (next_in order new ends) (prev_in order new ends) None lines chain
      (λ at on. elim on [
        | inl end ↦ ap (next_in order new ends) end ∙ sym (ap (next_in order old ends) end)
        | inr found ↦ ap (next_in order new ends) found.2 ∙ ap (λ (l : Link). l.next) (same found.0 found.1) ∙ sym (ap (next_in order old ends) found.2)
      ])
      (λ at on. elim on [
        | inl end ↦ ap (prev_in order new ends) end ∙ sym (ap (prev_in order old ends) end)
        | inr found ↦ ap (prev_in order new ends) found.2 ∙ ap (λ (l : Link). l.prev) (same found.0 found.1) ∙ sym (ap (prev_in order old ends) found.2)
      ])

-- ---- a request leaves one list

module _ (order : Order) (old new : Slab Node) (ends after : Link) (own : List Waiting) (id : ℕ) (chain : Links_up order old ends own) (apart : IsApart own) (listed : IsInChain id own) (nexts : Joins (next_in order old ends) (next_in order new after) (prev_in order old ends (Some id)) (next_in order old ends (Some id))) (prevs : Joins (prev_in order old ends) (prev_in order new after) (next_in order old ends (Some id)) (prev_in order old ends (Some id))) where
  pub Links_up-left : Links_up order new after (without_request id own)
  Links_up-left =
      IsChain-skip (next_in order old ends) (prev_in order old ends) (next_in order new after) (prev_in order new after) None own id chain apart (IsOff-none own) listed nexts prevs

  elsewhere : (other : ℕ) (place : Option ℕ) → ¬ IsInChain other own → IsOn None own place → Some other ≢ place
  elsewhere other place absent on same =
      elim on [
        | inl end ↦ none-some other (sym (same ∙ end))
        | inr found ↦ absent (subst (λ k. IsInChain k own) (sym (same_Some other found.0 (same ∙ found.2))) found.1)
      ]

  pub link_kept : (other : ℕ) → ¬ IsInChain other own → slot_link order (get new other) ≡ slot_link order (get old other)
  link_kept other absent =
      let next : (slot_link order (get new other)).next ≡ (slot_link order (get old other)).next =
      nexts.others (Some other) (elsewhere other _ absent (prev_on (next_in order old ends) (prev_in order old ends) None own id chain listed)) in
      let prev : (slot_link order (get new other)).prev ≡ (slot_link order (get old other)).prev =
      prevs.others (Some other) (elsewhere other _ absent (next_on (next_in order old ends) (prev_in order old ends) None own id chain listed)) in
      ap (λ p. link_with p (slot_link order (get new other)).next) prev ∙ ap (link_with (slot_link order (get old other)).prev) next
    where
      link_with : Option ℕ → Option ℕ → Link
      link_with p n = record { prev = p; next = n }

-- ---- the places of a request on a list

module _ (order : Order) (old new : Slab Node) (ends : Link) (own : List Waiting) (all : Every (IsHeldAt old) own) (chain : Links_up order old ends own) (same_held : (k : ℕ) → held new k ≡ held old k) (same_links : (k : ℕ) → slot_link order (get new k) ≡ slot_link order (get old k)) (id : ℕ) (listed : IsInChain id own) where
  all_now : Every (IsHeldAt new) own
  all_now = Every-weaker (IsHeldAt old) (IsHeldAt new) (λ waiting at. record { number = at.number; holds = same_held waiting.id ∙ at.holds; seat = at.seat; terminal = at.terminal }) own all

  pub place_next : IsPlace new (next_in order new ends (Some id))
  place_next = on_place new own all_now _ (next_on (next_in order new ends) (prev_in order new ends) None own id (Links_up-kept order old new ends own chain (λ k on. same_links k)) listed)

  pub place_prev : IsPlace new (prev_in order new ends (Some id))
  place_prev = on_place new own all_now _ (prev_on (next_in order new ends) (prev_in order new ends) None own id (Links_up-kept order old new ends own chain (λ k on. same_links k)) listed)

-- ---- a request leaves the lists of a table

module _ (order : Order) (number : Item → ℕ) (old mid new : Slab Node) (table : List Link) (width at : ℕ) (after : Link) (lines : List Waiting) (apart : IsApart lines) (id : ℕ) (item : Item) (found : item_of lines id ≡ Some item) (at_is : at ≡ number item) (inside : at < length table) (below : at < width) (chains : (n : ℕ) → n < width → Links_up order old (ends_at table n) (filter (λ w. eqb (number w.item) n) lines)) (nexts : Joins (next_in order old (ends_at table at)) (next_in order mid after) (prev_in order old (ends_at table at) (Some id)) (next_in order old (ends_at table at) (Some id))) (prevs : Joins (prev_in order old (ends_at table at)) (prev_in order mid after) (next_in order old (ends_at table at) (Some id)) (prev_in order old (ends_at table at) (Some id))) (rest : (k : ℕ) → k ≢ id → slot_link order (get new k) ≡ slot_link order (get mid k)) where
  own : List Waiting
  own = filter (λ w. eqb (number w.item) at) lines

  listed : IsInChain id (filter (λ w. eqb (number w.item) at) lines)
  listed = item_of-is_in_filter (λ w. eqb (number w.item) at) lines id item found (eq-eqb (number item) at (sym at_is))

  own_apart : IsApart (filter (λ w. eqb (number w.item) at) lines)
  own_apart = IsApart-filter (λ w. eqb (number w.item) at) lines apart

  own_taken : Links_up order new after (without_request id (filter (λ w. eqb (number w.item) at) lines))
  own_taken =
      Links_up-kept order mid new after (without_request id (filter (λ w. eqb (number w.item) at) lines))
      (Links_up-left order old mid (ends_at table at) after (filter (λ w. eqb (number w.item) at) lines) id (chains at below) own_apart listed nexts prevs)
      (λ k on. rest k (IsIn-without id k (filter (λ w. eqb (number w.item) at) lines) on).1)

  other_kept : (n : ℕ) → n < width → n ≢ at → Links_up order new (ends_at table n) (filter (λ w. eqb (number w.item) n) lines)
  other_kept n small differs =
      Links_up-kept order old new (ends_at table n) (filter (λ w. eqb (number w.item) n) lines) (chains n small)
      (λ k on.
      let absent : ¬ IsInChain k (filter (λ w. eqb (number w.item) at) lines) = λ also. lists_apart number lines n at k apart differs on also in
      rest k (λ same. absent (subst (λ j. IsInChain j (filter (λ w. eqb (number w.item) at) lines)) (sym same) listed))
      ∙ link_kept order old mid (ends_at table at) after (filter (λ w. eqb (number w.item) at) lines) id (chains at below) own_apart listed nexts prevs k absent)

  pub table_taken : (n : ℕ) → n < width → Links_up order new (ends_at (set table at after) n) (filter (λ w. eqb (number w.item) n) (without_request id lines))
  table_taken n small =
      elim (cases_eq n at) [
        | inl same ↦
            subst (λ m. Links_up order new (ends_at (set table at after) m) (filter (λ w. eqb (number w.item) m) (without_request id lines))) (sym same)
            (subst (λ e. Links_up order new e (filter (λ w. eqb (number w.item) at) (without_request id lines))) (sym (get_or-set_same table at after no_link inside))
            (subst (Links_up order new after) (filter-swap (λ w. not (eqb w.id id)) (λ w. eqb (number w.item) at) lines) own_taken))
        | inr differs ↦
            let absent : ¬ IsInChain id (filter (λ w. eqb (number w.item) n) lines) = λ also. lists_apart number lines n at id apart differs also listed in
            subst (λ e. Links_up order new e (filter (λ w. eqb (number w.item) n) (without_request id lines))) (sym (get_or-set_other table at n after no_link differs))
            (subst (Links_up order new (ends_at table n))
            (sym (without_absent id (filter (λ w. eqb (number w.item) n) lines) absent) ∙ filter-swap (λ w. not (eqb w.id id)) (λ w. eqb (number w.item) n) lines)
            (other_kept n small differs))
      ]

pub till_terminal : Till ≡ Terminal → ⊥
till_terminal same = cc

pub till_deadline : Till ≡ Deadline → ⊥
till_deadline same = cc

pub terminal_deadline : Terminal ≡ Deadline → ⊥
terminal_deadline same = cc

-- ---- a request leaves all lists, and then the slab

module _ (N0 N1 N2 N3 N4 : Slab Node) (tills terminals : List Link) (deadlines : Link) (count : ℕ) (lines : List Waiting) (sound : IsSoundTable N0 tills terminals deadlines count lines) (id : ℕ) (item : Item) (found : item_of lines id ≡ Some item) (E F D : Link) (seat terminal : ℕ) (seat_is : seat ≡ item.seat) (terminal_is : terminal ≡ item.terminal) (n1 : Joins (next_in Till N0 (ends_at tills seat)) (next_in Till N1 E) (prev_in Till N0 (ends_at tills seat) (Some id)) (next_in Till N0 (ends_at tills seat) (Some id))) (p1 : Joins (prev_in Till N0 (ends_at tills seat)) (prev_in Till N1 E) (next_in Till N0 (ends_at tills seat) (Some id)) (prev_in Till N0 (ends_at tills seat) (Some id))) (s1 : SameElsewhere Till N0 N1) (n2 : Joins (next_in Terminal N1 (ends_at terminals terminal)) (next_in Terminal N2 F) (prev_in Terminal N1 (ends_at terminals terminal) (Some id)) (next_in Terminal N1 (ends_at terminals terminal) (Some id))) (p2 : Joins (prev_in Terminal N1 (ends_at terminals terminal)) (prev_in Terminal N2 F) (next_in Terminal N1 (ends_at terminals terminal) (Some id)) (prev_in Terminal N1 (ends_at terminals terminal) (Some id))) (s2 : SameElsewhere Terminal N1 N2) (n3 : Joins (next_in Deadline N2 deadlines) (next_in Deadline N3 D) (prev_in Deadline N2 deadlines (Some id)) (next_in Deadline N2 deadlines (Some id))) (p3 : Joins (prev_in Deadline N2 deadlines) (prev_in Deadline N3 D) (next_in Deadline N2 deadlines (Some id)) (prev_in Deadline N2 deadlines (Some id))) (s3 : SameElsewhere Deadline N2 N3) (removed : Updates N3 N4 id None) where
  its : IsHeldAt N0 (record { id = id; item = item })
  its = item_of-every (IsHeldAt N0) lines id item sound.requests found

  held_gone : held N4 id ≡ None
  held_gone = ap (option_map noted) removed.changed

  held_others : (k : ℕ) → k ≢ id → held N4 k ≡ held N0 k
  held_others k differs = ap (option_map noted) (removed.others k differs) ∙ s3.requests k ∙ s2.requests k ∙ s1.requests k

  left_of : (order : Order) (k : ℕ) → k ≢ id → slot_link order (get N4 k) ≡ slot_link order (get N3 k)
  left_of order k differs = ap (slot_link order) (removed.others k differs)

  timed_listed : IsInChain id (by_deadline lines)
  timed_listed = IsIn-place_all id [] lines (inr (item_of-is_in lines id item found))

  pub IsSound-taken : IsSoundTable N4 (set tills seat E) (set terminals terminal F) D count (without_request id lines)
  IsSound-taken =
      record {
        bounded = sound.bounded;
        seats = length-set tills seat E ∙ sound.seats;
        places = length-set terminals terminal F ∙ sound.places;
        numbers = AreNumbered-removed N0 N4 count sound.numbers id item its.number its.holds held_gone held_others;
        requests = Every-without (IsHeldAt N0) (IsHeldAt N4) id (λ waiting differs at. record { number = at.number; holds = held_others waiting.id differs ∙ at.holds; seat = at.seat; terminal = at.terminal }) lines sound.requests;
        apart = IsApart-filter (λ w. not (eqb w.id id)) lines sound.apart;
        by_seat = table_taken Till (λ (i : Item). i.seat) N0 N1 N4 tills 64 seat E lines sound.apart id item found seat_is (omega (arith, its.seat, sound.seats)) (omega (arith, its.seat)) sound.by_seat n1 p1
            (λ k differs. left_of Till k differs ∙ s3.links Till (λ same. till_deadline same) k ∙ s2.links Till (λ same. till_terminal same) k);
        by_terminal = table_taken Terminal (λ (i : Item). i.terminal) N1 N2 N4 terminals 32 terminal F lines sound.apart id item found terminal_is (omega (arith, its.terminal, sound.places)) (omega (arith, its.terminal))
            (λ n below. Links_up-kept Terminal N0 N1 (ends_at terminals n) (at_terminal n lines) (sound.by_terminal n below) (λ k on. s1.links Terminal (λ same. till_terminal (sym same)) k)) n2 p2
            (λ k differs. left_of Terminal k differs ∙ s3.links Terminal (λ same. terminal_deadline same) k);
        in_time = subst (Links_up Deadline N4 D) (sym (place_all-without id [] lines tt))
            (Links_up-kept Deadline N3 N4 D (without_request id (by_deadline lines))
            (Links_up-left Deadline N2 N3 deadlines D (by_deadline lines) id
            (Links_up-kept Deadline N0 N2 deadlines (by_deadline lines) sound.in_time (λ k on. s2.links Deadline (λ same. terminal_deadline (sym same)) k ∙ s1.links Deadline (λ same. till_deadline (sym same)) k))
            (timed_apart N0 tills terminals deadlines count lines sound) timed_listed n3 p3)
            (λ k on. left_of Deadline k (IsIn-without id k (by_deadline lines) on).1));
      }

  pub taken : accepted_in N0 count ≡ lines → accepted_in N4 count ≡ without_request id lines
  taken is = accepted_in-removed N0 N4 count sound.numbers id item its.number its.holds held_gone held_others ∙ ap (without_request id) is
