-- The lists of requests that wait as the code keeps them: which are first, which are left, and that they stay apart.
use Rattle.std.proofs.Common.{◌≡◌, ◌≢◌, ◌⊎◌, inl, inr, ◌∙◌, ℕ, pos, ◌+◌, ◌≤◌, ◌<◌, Bool, true, false, not, cond, eqb, List, [], ◌∷◌, ◌++◌, length, refl, sym, ap, subst, arith, eq-eqb, ne_eqb, length-append}
use Rattle.std.specs.Prelude.{filter, fold, int_lt, nat_lt, IfSome, Option, Some, None}
use Rattle.std.proofs.lemmas.Bool.{cases_eq, eqb-true, le-ltb, lt-ltb, ltb-false, ltb-true}
use Rattle.std.proofs.lemmas.List.{length-map}
use Rattle.std.proofs.lemmas.Option.{same_Some}
use Rattle.gw_base.specs.declared.key.Key.{Key}
use Rattle.gw_ledger.specs.Keys.{same_key}
use Rattle.gw_links.specs.Waiting.{Waiting, item_of, without_request, of_seat, at_terminal, by_deadline, due_at, first_id, place, place_all}
use Rattle.gw_links.specs.declared.item.Item.{Item}
use Rattle.gw_owes.specs.Core.{Wait}
use Rattle.gw_owes.specs.Events.{among_waits, waits_by_deadline}
use Rattle.gw_owes.specs.WaitingRows.{is_overdue}
use Rattle.gw_owes.specs.Waits.{first_waiting, queue_of, waiting_with}
use Rattle.gw_owes.proofs.RecordLemmas.{apart-keys, same-key-is}
use Rattle.gw_owes.proofs.WaitingListLemmas.{same-key-itself}
use Rattle.gw_core.specs.Queues.{waits_of, AreLinesApart, IsOneOf, IsSeatFor, TakesSought, first_overdue, is_first_of, as_wait, waits_in, without_found}

-- ---- tests

-- two tests of which each holds where the other does
same-test : (a b : Bool) → (a ≡ true → b ≡ true) → (b ≡ true → a ≡ true) → a ≡ b
same-test true b on back = sym (on refl)
same-test false true on back = back refl
same-test false false on back = refl

-- ---- one of a list

-- one of those that pass a test is one of all, and passes
pub one-passes : (test : Waiting → Bool) (lines : List Waiting) (one : Waiting) → IsOneOf one (filter test lines) → IsOneOf one lines × (test one ≡ true)
one-passes test [] one is = absurd is
one-passes test (first ∷ rest) one is = by-test (test first) refl (λ later. one-passes test rest one later) is
  where
    by-test : (b : Bool) → test first ≡ b → (IsOneOf one (filter test rest) → IsOneOf one rest × (test one ≡ true)) → IsOneOf one (cond b (first ∷ filter test rest) (filter test rest)) → IsOneOf one (first ∷ rest) × (test one ≡ true)
    by-test true passes later (inl here) = (inl here, ap test here ∙ passes)
    by-test true passes later (inr there) = let found = later there in (inr found.0, found.1)
    by-test false fails later is = let found = later is in (inr found.0, found.1)

-- one of a list with one more at its end is one of the list, or that one
pub one-of-pushed : (lines : List Waiting) (new one : Waiting) → IsOneOf one (lines ++ new ∷ []) → IsOneOf one lines ⊎ (one ≡ new)
one-of-pushed [] new one (inl here) = inr here
one-of-pushed [] new one (inr none) = absurd none
one-of-pushed (first ∷ rest) new one (inl here) = inl (inl here)
one-of-pushed (first ∷ rest) new one (inr there) = by-case (one-of-pushed rest new one there)
  where
    by-case : IsOneOf one rest ⊎ (one ≡ new) → IsOneOf one (first ∷ rest) ⊎ (one ≡ new)
    by-case (inl is) = inl (inr is)
    by-case (inr is) = inr is

-- one of those that were placed by deadline is one of them
one-of-placed : (new : Waiting) (lines : List Waiting) (one : Waiting) → IsOneOf one (place new lines) → (one ≡ new) ⊎ IsOneOf one lines
one-of-placed new [] one is = is
one-of-placed new (first ∷ rest) one is = by-test (int_lt new.item.deadline first.item.deadline) (λ later. one-of-placed new rest one later) is
  where
    by-later : (one ≡ new) ⊎ IsOneOf one rest → (one ≡ new) ⊎ IsOneOf one (first ∷ rest)
    by-later (inl here) = inl here
    by-later (inr there) = inr (inr there)

    by-test : (b : Bool) → (IsOneOf one (place new rest) → (one ≡ new) ⊎ IsOneOf one rest) → IsOneOf one (cond b (new ∷ first ∷ rest) (first ∷ place new rest)) → (one ≡ new) ⊎ IsOneOf one (first ∷ rest)
    by-test true later is = is
    by-test false later (inl here) = inr (inl here)
    by-test false later (inr there) = by-later (later there)

one-of-all-placed : (sorted lines : List Waiting) (one : Waiting) → IsOneOf one (place_all sorted lines) → IsOneOf one sorted ⊎ IsOneOf one lines
one-of-all-placed sorted [] one is = inl is
one-of-all-placed sorted (first ∷ rest) one is = by-case (one-of-all-placed (place first sorted) rest one is)
  where
    by-place : (one ≡ first) ⊎ IsOneOf one sorted → IsOneOf one sorted ⊎ IsOneOf one (first ∷ rest)
    by-place (inl here) = inr (inl here)
    by-place (inr there) = inl there

    by-case : IsOneOf one (place first sorted) ⊎ IsOneOf one rest → IsOneOf one sorted ⊎ IsOneOf one (first ∷ rest)
    by-case (inl is) = by-place (one-of-placed first sorted one is)
    by-case (inr is) = inr (inr is)

pub one-of-due : (lines : List Waiting) (one : Waiting) → IsOneOf one (by_deadline lines) → IsOneOf one lines
one-of-due lines one is = by-case (one-of-all-placed [] lines one is)
  where
    by-case : IsOneOf one [] ⊎ IsOneOf one lines → IsOneOf one lines
    by-case (inl none) = absurd none
    by-case (inr there) = there

-- ---- by their ids

-- what an id names is one of them
pub item-there : (lines : List Waiting) (id : ℕ) (item : Item) → item_of lines id ≡ Some item → IsOneOf (record { id = id; item = item }) lines
item-there [] id item is = absurd cc
item-there (first ∷ rest) id item is = by-test (eqb first.id id) refl (λ later. item-there rest id item later) is
  where
    by-test : (b : Bool) → eqb first.id id ≡ b → (item_of rest id ≡ Some item → IsOneOf (record { id = id; item = item }) rest) → cond b (Some first.item) (item_of rest id) ≡ Some item → IsOneOf (record { id = id; item = item }) (first ∷ rest)
    by-test true same later is =
        let id_is : first.id ≡ id = eqb-true first.id id same in
        let item_is : first.item ≡ item = same_Some first.item item is in
        inl (sym (ap (λ (n : ℕ). record { id = n; item = first.item }) id_is ∙ ap (λ (i : Item). record { id = id; item = i }) item_is))
    by-test false other later is = inr (later is)

-- what none is named by is the id of none
pub none-named-so : (lines : List Waiting) (id : ℕ) (one : Waiting) → item_of lines id ≡ None → IsOneOf one lines → one.id ≢ id
none-named-so [] id one none is = absurd is
none-named-so (first ∷ rest) id one none is = by-test (eqb first.id id) refl (λ later there. none-named-so rest id one later there) none is
  where
    by-test : (b : Bool) → eqb first.id id ≡ b → (item_of rest id ≡ None → IsOneOf one rest → one.id ≢ id) → cond b (Some first.item) (item_of rest id) ≡ None → IsOneOf one (first ∷ rest) → one.id ≢ id
    by-test true same later none is = absurd cc
    by-test false other later none (inl here) = λ same. let e : eqb first.id id ≡ true = eq-eqb first.id id (sym (ap (λ (w : Waiting). w.id) here) ∙ same) in absurd cc
    by-test false other later none (inr there) = later none there

-- each is the one that its id names
pub named-by-own : (lines : List Waiting) → AreLinesApart lines → (one : Waiting) → IsOneOf one lines → item_of lines one.id ≡ Some one.item
named-by-own lines apart one is = by-item (item_of lines one.id) refl
  where
    by-item : (found : Option Item) → item_of lines one.id ≡ found → item_of lines one.id ≡ Some one.item
    by-item None none = absurd (none-named-so lines one.id one none is refl)
    by-item (Some item) found =
        let same : record { id = one.id; item = item } ≡ one = apart.ids one (record { id = one.id; item = item }) is (item-there lines one.id item found) refl in
        found ∙ ap (λ (w : Waiting). Some w.item) same

-- ---- what is owed of them

-- those that pass a test, where both say the same
pub waits-passing : (test : Waiting → Bool) (own : Wait → Bool) (lines : List Waiting) → ((one : Waiting) → IsOneOf one lines → test one ≡ own (as_wait one.item)) → waits_in (filter test lines) ≡ filter own (waits_in lines)
waits-passing test own [] alike = refl
waits-passing test own (first ∷ rest) alike =
    by-test (test first) (own (as_wait first.item)) (alike first (inl refl)) (waits-passing test own rest (λ one there. alike one (inr there)))
  where
    by-test : (a b : Bool) → a ≡ b → waits_in (filter test rest) ≡ filter own (waits_in rest)
        → waits_in (cond a (first ∷ filter test rest) (filter test rest)) ≡ cond b (as_wait first.item ∷ filter own (waits_in rest)) (filter own (waits_in rest))
    by-test true true same later = ap (λ (l : List Wait). as_wait first.item ∷ l) later
    by-test false false same later = later
    by-test true false same later = absurd cc
    by-test false true same later = absurd cc

-- the first of some of them is the one that its id names
pub first-taken : (some lines : List Waiting) → AreLinesApart lines → ((one : Waiting) → IsOneOf one some → IsOneOf one lines) → (id : ℕ) (item : Item) → Some id ≡ first_id some → item_of lines id ≡ Some item
    → first_waiting (waits_in some) ≡ Some (as_wait item)
first-taken [] lines apart there id item is found = absurd cc
first-taken (first ∷ rest) lines apart there id item is found =
    let id_is : id ≡ first.id = same_Some id first.id is in
    let own : item_of lines first.id ≡ Some first.item = named-by-own lines apart first (there first (inl refl)) in
    ap (λ (i : Item). Some (as_wait i)) (same_Some first.item item (sym own ∙ ap (item_of lines) (sym id_is) ∙ found))

-- and there is none where none is first
pub none-taken : (some : List Waiting) → None ≡ first_id some → first_waiting (waits_in some) ≡ None
none-taken [] is = refl
none-taken (first ∷ rest) is = absurd cc

-- one's key is that of no other
pub one-key : (lines : List Waiting) → AreLinesApart lines → (one other : Waiting) → IsOneOf one lines → IsOneOf other lines → same_key one.item.key other.item.key ≡ eqb other.id one.id
one-key lines apart one other one_is other_is =
    same-test (same_key one.item.key other.item.key) (eqb other.id one.id)
    (λ same. eq-eqb other.id one.id (apart.keys one other one_is other_is (sym (same-key-is one.item.key other.item.key same))))
    (λ same. subst (λ (w : Waiting). same_key one.item.key w.item.key ≡ true) (sym (apart.ids one other one_is other_is (eqb-true other.id one.id same))) (same-key-itself one.item.key))

-- the one that is taken out is the one with its key
pub waits-without : (lines : List Waiting) → AreLinesApart lines → (id : ℕ) (item : Item) → item_of lines id ≡ Some item → waits_in (without_request id lines) ≡ without_found (Some (as_wait item)) (waits_in lines)
waits-without lines apart id item found =
    waits-passing (λ (w : Waiting). not (eqb w.id id)) (λ (wait : Wait). not (same_key item.key wait.key)) lines
    (λ one is. ap not (sym (one-key lines apart (record { id = id; item = item }) one (item-there lines id item found) is)))

-- and the first under its key
first-under : (id : ℕ) (item : Item) (key : Key) (lines : List Waiting) → ((one : Waiting) → IsOneOf one lines → same_key key one.item.key ≡ eqb one.id id) → item_of lines id ≡ Some item
    → waiting_with key (waits_in lines) ≡ Some (as_wait item)
first-under id item key [] alike found = absurd cc
first-under id item key (first ∷ rest) alike found =
    by-test (same_key key first.item.key) (eqb first.id id) (alike first (inl refl)) (λ later. first-under id item key rest (λ one there. alike one (inr there)) later) found
  where
    by-test : (a b : Bool) → a ≡ b → (item_of rest id ≡ Some item → waiting_with key (waits_in rest) ≡ Some (as_wait item)) → cond b (Some first.item) (item_of rest id) ≡ Some item
        → cond a (Some (as_wait first.item)) (waiting_with key (waits_in rest)) ≡ Some (as_wait item)
    by-test true true same later found = ap (λ (i : Item). Some (as_wait i)) (same_Some first.item item found)
    by-test false false same later found = later found
    by-test true false same later found = absurd cc
    by-test false true same later found = absurd cc

pub found-under : (lines : List Waiting) → AreLinesApart lines → (id : ℕ) (item : Item) (key : Key) → item_of lines id ≡ Some item → item.key ≡ key → waiting_with key (waits_in lines) ≡ Some (as_wait item)
found-under lines apart id item key found same =
    first-under id item key lines
    (λ one is. subst (λ (k : Key). same_key k one.item.key ≡ eqb one.id id) same (one-key lines apart (record { id = id; item = item }) one (item-there lines id item found) is)) found

-- where none has the key none waits under it
none-with : (key : Key) (lines : List Waiting) → ((one : Waiting) → IsOneOf one lines → one.item.key ≢ key) → waiting_with key (waits_in lines) ≡ None
none-with key [] none = refl
none-with key (first ∷ rest) none =
    ap (λ (b : Bool). cond b (Some (as_wait first.item)) (waiting_with key (waits_in rest))) (apart-keys key first.item.key (λ same. none first (inl refl) (sym same)))
    ∙ none-with key rest (λ one there. none one (inr there))

pub none-under-key : (lines : List Waiting) → AreLinesApart lines → (key : Key) → ((id : ℕ) → IfSome (item_of lines id) (λ item. item.key ≢ key)) → waiting_with key (waits_in lines) ≡ None
none-under-key lines apart key none = none-with key lines (λ one is. subst (λ (o : Option Item). IfSome o (λ item. item.key ≢ key)) (named-by-own lines apart one is) (none one.id))

-- and where none waits under a key none has it
pub has-other-key : (key : Key) (lines : List Waiting) (one : Waiting) → waiting_with key (waits_in lines) ≡ None → IsOneOf one lines → one.item.key ≢ key
has-other-key key [] one none is = absurd is
has-other-key key (first ∷ rest) one none is = by-test (same_key key first.item.key) refl (λ later there. has-other-key key rest one later there) none is
  where
    by-test : (b : Bool) → same_key key first.item.key ≡ b → (waiting_with key (waits_in rest) ≡ None → IsOneOf one rest → one.item.key ≢ key)
        → cond b (Some (as_wait first.item)) (waiting_with key (waits_in rest)) ≡ None → IsOneOf one (first ∷ rest) → one.item.key ≢ key
    by-test true same later none is = absurd cc
    by-test false other later none (inl here) = λ is_key.
        let e : same_key key first.item.key ≡ true = subst (λ (k : Key). same_key k first.item.key ≡ true) (sym (ap (λ (w : Waiting). w.item.key) here) ∙ is_key) (same-key-itself first.item.key) in absurd cc
    by-test false other later none (inr there) = later none there

-- ---- by deadline

among-placed : (new : Waiting) (lines : List Waiting) → waits_in (place new lines) ≡ among_waits (waits_in lines) (as_wait new.item)
among-placed new [] = refl
among-placed new (first ∷ rest) = by-test (int_lt new.item.deadline first.item.deadline) (among-placed new rest)
  where
    by-test : (b : Bool) → waits_in (place new rest) ≡ among_waits (waits_in rest) (as_wait new.item)
        → waits_in (cond b (new ∷ first ∷ rest) (first ∷ place new rest)) ≡ cond b (as_wait new.item ∷ as_wait first.item ∷ waits_in rest) (as_wait first.item ∷ among_waits (waits_in rest) (as_wait new.item))
    by-test true later = refl
    by-test false later = ap (λ (l : List Wait). as_wait first.item ∷ l) later

all-placed : (sorted lines : List Waiting) → waits_in (place_all sorted lines) ≡ fold among_waits (waits_in sorted) (waits_in lines)
all-placed sorted [] = refl
all-placed sorted (first ∷ rest) = all-placed (place first sorted) rest ∙ ap (λ (l : List Wait). fold among_waits l (waits_in rest)) (among-placed first sorted)

-- those that are due are in the same order
pub due-are : (moment : ℕ) (lines : List Waiting) → waits_in (due_at (pos moment) (by_deadline lines)) ≡ filter (is_overdue moment) (waits_by_deadline (waits_in lines))
due-are moment lines =
    waits-passing (λ (w : Waiting). not (int_lt (pos moment) w.item.deadline)) (is_overdue moment) (by_deadline lines) (λ one is. refl)
    ∙ ap (filter (is_overdue moment)) (all-placed [] lines)

-- ---- they stay apart

-- where some are left
pub left-apart : (test : Waiting → Bool) (lines : List Waiting) → AreLinesApart lines → AreLinesApart (filter test lines)
left-apart test lines apart = record {
  ids = λ one other one_is other_is. apart.ids one other (there one one_is) (there other other_is);
  keys = λ one other one_is other_is. apart.keys one other (there one one_is) (there other other_is);
  tills = λ one other one_is other_is. apart.tills one other (there one one_is) (there other other_is);
  seats = λ one other one_is other_is. apart.seats one other (there one one_is) (there other other_is);
  places = λ one one_is. apart.places one (there one one_is);
  few = let fewer = fewer-left lines in let few = apart.few in omega (arith, fewer, few);
}
  where
    there : (one : Waiting) → IsOneOf one (filter test lines) → IsOneOf one lines
    there one is = (one-passes test lines one is).0

    fewer-left : (all : List Waiting) → length (filter test all) ≤ length all
    fewer-left [] = omega arith
    fewer-left (first ∷ rest) = by-test (test first) (fewer-left rest)
      where
        by-test : (b : Bool) → length (filter test rest) ≤ length rest → length (cond b (first ∷ filter test rest) (filter test rest)) ≤ length (first ∷ rest)
        by-test true fewer = omega (arith, fewer)
        by-test false fewer = omega (arith, fewer)

-- a request under its id
abbrev waiting-as : ℕ → Item → Waiting
waiting-as id item = record { id = id; item = item }

-- where one more joins, under an id and a key that none has, at the seat of its till
pub joined-apart : (lines : List Waiting) (id : ℕ) (item : Item) → AreLinesApart lines → item_of lines id ≡ None → waiting_with item.key (waits_in lines) ≡ None → IsSeatFor item.till lines item.seat → item.terminal < 32 → length lines < 256
    → AreLinesApart (lines ++ record { id = id; item = item } ∷ [])
joined-apart lines id item apart fresh unknown seat terminal few = record {
  ids = λ one other one_is other_is same. ids-of one other (one-of-pushed lines (waiting-as id item) one one_is) (one-of-pushed lines (waiting-as id item) other other_is) same;
  keys = λ one other one_is other_is same. keys-of one other (one-of-pushed lines (waiting-as id item) one one_is) (one-of-pushed lines (waiting-as id item) other other_is) same;
  tills = λ one other one_is other_is same. tills-of one other (one-of-pushed lines (waiting-as id item) one one_is) (one-of-pushed lines (waiting-as id item) other other_is) same;
  seats = λ one other one_is other_is same. seats-of one other (one-of-pushed lines (waiting-as id item) one one_is) (one-of-pushed lines (waiting-as id item) other other_is) same;
  places = λ one one_is. places-of one (one-of-pushed lines (waiting-as id item) one one_is);
  few = let longer = length-append lines (waiting-as id item ∷ []) in omega (arith, longer, few);
}
  where
    ids-of : (one other : Waiting) → IsOneOf one lines ⊎ (one ≡ waiting-as id item) → IsOneOf other lines ⊎ (other ≡ waiting-as id item) → other.id ≡ one.id → other ≡ one
    ids-of one other (inl one_is) (inl other_is) same = apart.ids one other one_is other_is same
    ids-of one other (inl one_is) (inr is) same = absurd (none-named-so lines id one fresh one_is (sym same ∙ ap (λ (w : Waiting). w.id) is))
    ids-of one other (inr is) (inl other_is) same = absurd (none-named-so lines id other fresh other_is (same ∙ ap (λ (w : Waiting). w.id) is))
    ids-of one other (inr one_is) (inr other_is) same = other_is ∙ sym one_is

    keys-of : (one other : Waiting) → IsOneOf one lines ⊎ (one ≡ waiting-as id item) → IsOneOf other lines ⊎ (other ≡ waiting-as id item) → other.item.key ≡ one.item.key → other.id ≡ one.id
    keys-of one other (inl one_is) (inl other_is) same = apart.keys one other one_is other_is same
    keys-of one other (inl one_is) (inr is) same = absurd (has-other-key item.key lines one unknown one_is (sym same ∙ ap (λ (w : Waiting). w.item.key) is))
    keys-of one other (inr is) (inl other_is) same = absurd (has-other-key item.key lines other unknown other_is (same ∙ ap (λ (w : Waiting). w.item.key) is))
    keys-of one other (inr one_is) (inr other_is) same = ap (λ (w : Waiting). w.id) (other_is ∙ sym one_is)

    tills-of : (one other : Waiting) → IsOneOf one lines ⊎ (one ≡ waiting-as id item) → IsOneOf other lines ⊎ (other ≡ waiting-as id item) → other.item.till ≡ one.item.till → other.item.seat ≡ one.item.seat
    tills-of one other (inl one_is) (inl other_is) same = apart.tills one other one_is other_is same
    tills-of one other (inl one_is) (inr is) same = ap (λ (w : Waiting). w.item.seat) is ∙ sym (seat.tills one one_is (sym same ∙ ap (λ (w : Waiting). w.item.till) is))
    tills-of one other (inr is) (inl other_is) same = seat.tills other other_is (same ∙ ap (λ (w : Waiting). w.item.till) is) ∙ sym (ap (λ (w : Waiting). w.item.seat) is)
    tills-of one other (inr one_is) (inr other_is) same = ap (λ (w : Waiting). w.item.seat) (other_is ∙ sym one_is)

    seats-of : (one other : Waiting) → IsOneOf one lines ⊎ (one ≡ waiting-as id item) → IsOneOf other lines ⊎ (other ≡ waiting-as id item) → other.item.seat ≡ one.item.seat → other.item.till ≡ one.item.till
    seats-of one other (inl one_is) (inl other_is) same = apart.seats one other one_is other_is same
    seats-of one other (inl one_is) (inr is) same = ap (λ (w : Waiting). w.item.till) is ∙ sym (seat.seats one one_is (sym same ∙ ap (λ (w : Waiting). w.item.seat) is))
    seats-of one other (inr is) (inl other_is) same = seat.seats other other_is (same ∙ ap (λ (w : Waiting). w.item.seat) is) ∙ sym (ap (λ (w : Waiting). w.item.till) is)
    seats-of one other (inr one_is) (inr other_is) same = ap (λ (w : Waiting). w.item.till) (other_is ∙ sym one_is)

    places-of : (one : Waiting) → IsOneOf one lines ⊎ (one ≡ waiting-as id item) → (one.item.seat < 64) × (one.item.terminal < 32)
    places-of one (inl is) = apart.places one is
    places-of one (inr is) = subst (λ (w : Waiting). (w.item.seat < 64) × (w.item.terminal < 32)) (sym is) (seat.within, terminal)

-- as the last
pub waits-pushed : (lines : List Waiting) (new : Waiting) → waits_in (lines ++ new ∷ []) ≡ waits_in lines ++ as_wait new.item ∷ []
waits-pushed [] new = refl
waits-pushed (first ∷ rest) new = ap (λ (l : List Wait). as_wait first.item ∷ l) (waits-pushed rest new)

-- none waits at first
pub none-apart : AreLinesApart []
none-apart = record {
  ids = λ one other one_is other_is same. absurd one_is;
  keys = λ one other one_is other_is same. absurd one_is;
  tills = λ one other one_is other_is same. absurd one_is;
  seats = λ one other one_is other_is same. absurd one_is;
  places = λ one one_is. absurd one_is;
  few = omega arith;
}

-- ---- seats

-- one that is first at a seat is there, where the first is of a till
pub first-seated : (till seat : ℕ) (lines : List Waiting) → is_first_of till (of_seat seat lines) ≡ true → (one : Waiting) × IsOneOf one lines × (one.item.seat ≡ seat) × (one.item.till ≡ till)
first-seated till seat lines is = by-list (of_seat seat lines) (λ one there. one-passes (λ (w : Waiting). eqb w.item.seat seat) lines one there) is
  where
    by-list : (some : List Waiting) → ((one : Waiting) → IsOneOf one some → IsOneOf one lines × (eqb one.item.seat seat ≡ true)) → is_first_of till some ≡ true → (one : Waiting) × IsOneOf one lines × (one.item.seat ≡ seat) × (one.item.till ≡ till)
    by-list [] there is = absurd cc
    by-list (first ∷ rest) there is = let found = there first (inl refl) in (first, found.0, eqb-true first.item.seat seat found.1, eqb-true first.item.till till is)

-- those at a seat are there
at-seat : (lines : List Waiting) (seat : ℕ) (one : Waiting) → IsOneOf one lines → one.item.seat ≡ seat → IsOneOf one (of_seat seat lines)
at-seat [] seat one is same = absurd is
at-seat (first ∷ rest) seat one (inl here) same =
    let passes : eqb first.item.seat seat ≡ true = eq-eqb first.item.seat seat (sym (ap (λ (w : Waiting). w.item.seat) here) ∙ same) in
    subst (λ (b : Bool). IsOneOf one (cond b (first ∷ of_seat seat rest) (of_seat seat rest))) (sym passes) (inl here)
at-seat (first ∷ rest) seat one (inr there) same = by-test (eqb first.item.seat seat) (at-seat rest seat one there same)
  where
    by-test : (b : Bool) → IsOneOf one (of_seat seat rest) → IsOneOf one (cond b (first ∷ of_seat seat rest) (of_seat seat rest))
    by-test true later = inr later
    by-test false later = later

-- at a seat at which one waits the first is of its till
own-first : (lines : List Waiting) → AreLinesApart lines → (one : Waiting) → IsOneOf one lines → is_first_of one.item.till (of_seat one.item.seat lines) ≡ true
own-first lines apart one is =
    by-list (of_seat one.item.seat lines) (λ other there. one-passes (λ (w : Waiting). eqb w.item.seat one.item.seat) lines other there) (at-seat lines one.item.seat one is refl)
  where
    by-list : (some : List Waiting) → ((other : Waiting) → IsOneOf other some → IsOneOf other lines × (eqb other.item.seat one.item.seat ≡ true)) → IsOneOf one some → is_first_of one.item.till some ≡ true
    by-list [] there found = absurd found
    by-list (first ∷ rest) there found =
        let here = there first (inl refl) in
        eq-eqb first.item.till one.item.till (apart.seats one first is here.0 (eqb-true first.item.seat one.item.seat here.1))

-- the seat at which the first is of the till is one for it
pub own-seat : (lines : List Waiting) → AreLinesApart lines → (till seat : ℕ) → seat < 64 → is_first_of till (of_seat seat lines) ≡ true → IsSeatFor till lines seat
own-seat lines apart till seat within is =
    let first = first-seated till seat lines is in
    record {
      within = within;
      tills = λ one there same. apart.tills first.0 one first.1 there (same ∙ sym first.3) ∙ first.2;
      seats = λ one there same. apart.seats first.0 one first.1 there (same ∙ sym first.2) ∙ first.3;
    }

-- none is of a till that is first at no seat
pub none-of-till : (lines : List Waiting) → AreLinesApart lines → (till : ℕ) → ((seat : ℕ) → seat < 64 → is_first_of till (of_seat seat lines) ≡ false) → (one : Waiting) → IsOneOf one lines → one.item.till ≢ till
none-of-till lines apart till none one is same =
    let first : is_first_of one.item.till (of_seat one.item.seat lines) ≡ true = own-first lines apart one is in
    let other : is_first_of one.item.till (of_seat one.item.seat lines) ≡ false = subst (λ n. is_first_of n (of_seat one.item.seat lines) ≡ false) (sym same) (none one.item.seat (apart.places one is).0) in
    absurd cc

-- a seat at which none waits is one for a till that is first at none
pub free-seat-is : (lines : List Waiting) → AreLinesApart lines → (till seat : ℕ) → ((other : ℕ) → other < 64 → is_first_of till (of_seat other lines) ≡ false) → seat < 64 → of_seat seat lines ≡ [] → IsSeatFor till lines seat
free-seat-is lines apart till seat none within free = record {
  within = within;
  tills = λ one there same. absurd (none-of-till lines apart till none one there same);
  seats = λ one there same. absurd (subst (IsOneOf one) free (at-seat lines seat one there same));
}

-- the till of the first at a seat is that of the request that its id names
pub first-till : (lines : List Waiting) → AreLinesApart lines → (till seat id : ℕ) (item : Item) → Some id ≡ first_id (of_seat seat lines) → item_of lines id ≡ Some item → eqb item.till till ≡ is_first_of till (of_seat seat lines)
first-till lines apart till seat id item is found = by-list (of_seat seat lines) (λ one there. (one-passes (λ (w : Waiting). eqb w.item.seat seat) lines one there).0) is
  where
    by-list : (some : List Waiting) → ((one : Waiting) → IsOneOf one some → IsOneOf one lines) → Some id ≡ first_id some → eqb item.till till ≡ is_first_of till some
    by-list [] there is = absurd cc
    by-list (first ∷ rest) there is =
        let id_is : id ≡ first.id = same_Some id first.id is in
        let own : item_of lines first.id ≡ Some first.item = named-by-own lines apart first (there first (inl refl)) in
        ap (λ (i : Item). eqb i.till till) (same_Some item first.item (sym found ∙ ap (item_of lines) id_is ∙ own))

-- so is a free seat for a till that is first at none, where there is one
pub free-for : (lines : List Waiting) → AreLinesApart lines → (till : ℕ) → ((other : ℕ) → other < 64 → is_first_of till (of_seat other lines) ≡ false) → (free : Option ℕ) → IfSome free (λ seat. (seat < 64) × (of_seat seat lines ≡ [])) → IfSome free (IsSeatFor till lines)
free-for lines apart till none None is = tt
free-for lines apart till none (Some seat) is = free-seat-is lines apart till seat none is.0 is.1

-- ---- a till that is gone

-- a list of which each passes a test is left as it is
pub all-left : (own : Wait → Bool) (lines : List Waiting) → ((one : Waiting) → IsOneOf one lines → own (as_wait one.item) ≡ true) → filter own (waits_in lines) ≡ waits_in lines
all-left own [] each = refl
all-left own (first ∷ rest) each =
    ap (λ (b : Bool). cond b (as_wait first.item ∷ filter own (waits_in rest)) (filter own (waits_in rest))) (each first (inl refl))
    ∙ ap (λ (l : List Wait). as_wait first.item ∷ l) (all-left own rest (λ one there. each one (inr there)))

-- where none of this till waits
pub none-forgotten : (lines : List Waiting) → AreLinesApart lines → (till : ℕ) → ((seat : ℕ) → seat < 64 → is_first_of till (of_seat seat lines) ≡ false) → waits_in lines ≡ filter (λ (wait : Wait). not (eqb wait.till till)) (waits_in lines)
none-forgotten lines apart till none =
    sym (all-left (λ (wait : Wait). not (eqb wait.till till)) lines (λ one is. ap not (ne_eqb one.item.till till (none-of-till lines apart till none one is))))

-- those of a till are those at its seat
pub seat-forgotten : (lines : List Waiting) → AreLinesApart lines → (till seat : ℕ) → seat < 64 → is_first_of till (of_seat seat lines) ≡ true
    → waits_in (filter (λ (w : Waiting). not (eqb w.item.seat seat)) lines) ≡ filter (λ (wait : Wait). not (eqb wait.till till)) (waits_in lines)
seat-forgotten lines apart till seat within is =
    let own = own-seat lines apart till seat within is in
    waits-passing (λ (w : Waiting). not (eqb w.item.seat seat)) (λ (wait : Wait). not (eqb wait.till till)) lines
    (λ one there. ap not (same-test (eqb one.item.seat seat) (eqb one.item.till till)
    (λ same. eq-eqb one.item.till till (own.seats one there (eqb-true one.item.seat seat same)))
    (λ same. eq-eqb one.item.seat seat (own.tills one there (eqb-true one.item.till till same)))))

-- and are as many
pub seat-length : (lines : List Waiting) → AreLinesApart lines → (till seat : ℕ) → seat < 64 → is_first_of till (of_seat seat lines) ≡ true → length (of_seat seat lines) ≡ length (waits_of till (waits_in lines))
seat-length lines apart till seat within is =
    let own = own-seat lines apart till seat within is in
    sym (length-map (of_seat seat lines) (λ (w : Waiting). as_wait w.item))
    ∙ ap length (waits-passing (λ (w : Waiting). eqb w.item.seat seat) (λ (wait : Wait). eqb wait.till till) lines
    (λ one there. same-test (eqb one.item.seat seat) (eqb one.item.till till)
    (λ same. eq-eqb one.item.till till (own.seats one there (eqb-true one.item.seat seat same)))
    (λ same. eq-eqb one.item.seat seat (own.tills one there (eqb-true one.item.till till same)))))

-- one after another at a seat
pub left-at-seat : (seat id : ℕ) (lines : List Waiting) → AreLinesApart lines → Some id ≡ first_id (of_seat seat lines) → filter (λ (w : Waiting). not (eqb w.item.seat seat)) (without_request id lines) ≡ filter (λ (w : Waiting). not (eqb w.item.seat seat)) lines
left-at-seat seat id lines apart is = by-first (of_seat seat lines) (λ one there. one-passes (λ (w : Waiting). eqb w.item.seat seat) lines one there) is
  where
    without-same : (all : List Waiting) → ((one : Waiting) → IsOneOf one all → eqb one.id id ≡ true → eqb one.item.seat seat ≡ true)
        → filter (λ (w : Waiting). not (eqb w.item.seat seat)) (without_request id all) ≡ filter (λ (w : Waiting). not (eqb w.item.seat seat)) all
    without-same [] each = refl
    without-same (first ∷ rest) each = by-test (eqb first.id id) (each first (inl refl)) (without-same rest (λ one there. each one (inr there)))
      where
        by-test : (b : Bool) → (b ≡ true → eqb first.item.seat seat ≡ true) → filter (λ (w : Waiting). not (eqb w.item.seat seat)) (without_request id rest) ≡ filter (λ (w : Waiting). not (eqb w.item.seat seat)) rest
            → filter (λ (w : Waiting). not (eqb w.item.seat seat)) (cond (not b) (first ∷ without_request id rest) (without_request id rest)) ≡ filter (λ (w : Waiting). not (eqb w.item.seat seat)) (first ∷ rest)
        by-test true same later = later ∙ sym (ap (λ (t : Bool). cond (not t) (first ∷ filter (λ (w : Waiting). not (eqb w.item.seat seat)) rest) (filter (λ (w : Waiting). not (eqb w.item.seat seat)) rest)) (same refl))
        by-test false same later = ap (λ (l : List Waiting). cond (not (eqb first.item.seat seat)) (first ∷ l) l) later

    by-first : (some : List Waiting) → ((one : Waiting) → IsOneOf one some → IsOneOf one lines × (eqb one.item.seat seat ≡ true)) → Some id ≡ first_id some
        → filter (λ (w : Waiting). not (eqb w.item.seat seat)) (without_request id lines) ≡ filter (λ (w : Waiting). not (eqb w.item.seat seat)) lines
    by-first [] there is = absurd cc
    by-first (first ∷ rest) there is =
        let here = there first (inl refl) in
        let id_is : id ≡ first.id = same_Some id first.id is in
        without-same lines (λ one one_is same.
        let own : one ≡ first = apart.ids first one here.0 one_is (eqb-true one.id id same ∙ id_is) in
        ap (λ (w : Waiting). eqb w.item.seat seat) own ∙ here.1)

-- none is left there at the end
pub none-left-at : (seat : ℕ) (lines : List Waiting) → None ≡ first_id (of_seat seat lines) → filter (λ (w : Waiting). not (eqb w.item.seat seat)) lines ≡ lines
none-left-at seat [] is = refl
none-left-at seat (first ∷ rest) is = by-test (eqb first.item.seat seat) (λ later. none-left-at seat rest later) is
  where
    by-test : (b : Bool) → (None ≡ first_id (of_seat seat rest) → filter (λ (w : Waiting). not (eqb w.item.seat seat)) rest ≡ rest) → None ≡ first_id (cond b (first ∷ of_seat seat rest) (of_seat seat rest))
        → cond (not b) (first ∷ filter (λ (w : Waiting). not (eqb w.item.seat seat)) rest) (filter (λ (w : Waiting). not (eqb w.item.seat seat)) rest) ≡ first ∷ rest
    by-test true later is = absurd cc
    by-test false later is = ap (λ (l : List Waiting). first ∷ l) (later is)

-- and there is one less there each time
pub fewer-at-seat : (seat id : ℕ) (lines : List Waiting) → Some id ≡ first_id (of_seat seat lines) → length (of_seat seat (without_request id lines)) < length (of_seat seat lines)
fewer-at-seat seat id [] is = absurd cc
fewer-at-seat seat id (first ∷ rest) is = by-tests (λ later. fewer-at-seat seat id rest later) (eqb first.item.seat seat) refl (eqb first.id id) refl is
  where
    no-more : (all : List Waiting) → length (of_seat seat (without_request id all)) ≤ length (of_seat seat all)
    no-more [] = omega arith
    no-more (one ∷ others) = by-both (eqb one.id id) (eqb one.item.seat seat) refl (no-more others)
      where
        by-both : (a b : Bool) → eqb one.item.seat seat ≡ b → length (of_seat seat (without_request id others)) ≤ length (of_seat seat others)
            → length (of_seat seat (cond (not a) (one ∷ without_request id others) (without_request id others))) ≤ length (cond b (one ∷ of_seat seat others) (of_seat seat others))
        by-both true true b_is fewer = omega (arith, fewer)
        by-both true false b_is fewer = fewer
        by-both false true b_is fewer = subst (λ (t : Bool). length (cond t (one ∷ of_seat seat (without_request id others)) (of_seat seat (without_request id others))) ≤ length (one ∷ of_seat seat others)) (sym b_is) (omega (arith, fewer))
        by-both false false b_is fewer = subst (λ (t : Bool). length (cond t (one ∷ of_seat seat (without_request id others)) (of_seat seat (without_request id others))) ≤ length (of_seat seat others)) (sym b_is) fewer

    by-tests : (Some id ≡ first_id (of_seat seat rest) → length (of_seat seat (without_request id rest)) < length (of_seat seat rest)) → (b : Bool) → eqb first.item.seat seat ≡ b → (a : Bool) → eqb first.id id ≡ a → Some id ≡ first_id (cond b (first ∷ of_seat seat rest) (of_seat seat rest))
        → length (of_seat seat (cond (not a) (first ∷ without_request id rest) (without_request id rest))) < length (cond b (first ∷ of_seat seat rest) (of_seat seat rest))
    by-tests later true b_is true a_is is = let fewer = no-more rest in omega (arith, fewer)
    by-tests later true b_is false a_is is = let same : eqb first.id id ≡ true = eq-eqb first.id id (sym (same_Some id first.id is)) in absurd cc
    by-tests later false b_is true a_is is = later is
    by-tests later false b_is false a_is is =
        subst (λ (t : Bool). length (cond t (first ∷ of_seat seat (without_request id rest)) (of_seat seat (without_request id rest))) < length (of_seat seat rest)) (sym b_is) (later is)

-- ---- how many

-- those at terminals below a bound
abbrev pub at_terminals_below : ℕ → List Waiting → List Waiting
at_terminals_below bound lines = filter (λ (w : Waiting). nat_lt w.item.terminal bound) lines

-- at one terminal more there are so many more
pub one-terminal-more : (bound : ℕ) (lines : List Waiting) → length (at_terminals_below (bound + 1) lines) ≡ length (at_terminals_below bound lines) + length (at_terminal bound lines)
one-terminal-more bound [] = refl
one-terminal-more bound (first ∷ rest) = by-case (cases_eq first.item.terminal bound) (one-terminal-more bound rest)
  where
    by-case : (first.item.terminal ≡ bound) ⊎ (first.item.terminal ≢ bound) → length (at_terminals_below (bound + 1) rest) ≡ length (at_terminals_below bound rest) + length (at_terminal bound rest)
        → length (at_terminals_below (bound + 1) (first ∷ rest)) ≡ length (at_terminals_below bound (first ∷ rest)) + length (at_terminal bound (first ∷ rest))
    by-case (inl same) later =
        let more : nat_lt first.item.terminal (bound + 1) ≡ true = lt-ltb first.item.terminal (bound + 1) (omega (arith, same)) in
        let less : nat_lt first.item.terminal bound ≡ false = le-ltb first.item.terminal bound (omega (arith, same)) in
        rw (more, less, eq-eqb first.item.terminal bound same) (omega (arith, later))
    by-case (inr differs) later = by-order (nat_lt first.item.terminal bound) refl
      where
        by-order : (b : Bool) → nat_lt first.item.terminal bound ≡ b → length (at_terminals_below (bound + 1) (first ∷ rest)) ≡ length (at_terminals_below bound (first ∷ rest)) + length (at_terminal bound (first ∷ rest))
        by-order true is =
            let below = ltb-true first.item.terminal bound is in
            rw (lt-ltb first.item.terminal (bound + 1) (omega (arith, below)), is, ne_eqb first.item.terminal bound differs) (omega (arith, later))
        by-order false is =
            let above = ltb-false first.item.terminal bound is in
            rw (le-ltb first.item.terminal (bound + 1) (omega (arith, above, differs)), is, ne_eqb first.item.terminal bound differs) later

-- below 0 there is none
pub none-below-zero : (lines : List Waiting) → at_terminals_below 0 lines ≡ []
none-below-zero [] = refl
none-below-zero (first ∷ rest) = rw (le-ltb first.item.terminal 0 (omega arith)) (none-below-zero rest)

-- and below 32 there are all
pub all-below : (lines : List Waiting) → ((one : Waiting) → IsOneOf one lines → one.item.terminal < 32) → at_terminals_below 32 lines ≡ lines
all-below [] each = refl
all-below (first ∷ rest) each =
    let below = each first (inl refl) in
    rw (lt-ltb first.item.terminal 32 below) (ap (λ (l : List Waiting). first ∷ l) (all-below rest (λ one there. each one (inr there))))

-- no more are below a bound than all
pub below-fewer : (bound : ℕ) (lines : List Waiting) → length (at_terminals_below bound lines) ≤ length lines
below-fewer bound [] = omega arith
below-fewer bound (first ∷ rest) = by-test (nat_lt first.item.terminal bound) (below-fewer bound rest)
  where
    by-test : (b : Bool) → length (at_terminals_below bound rest) ≤ length rest → length (cond b (first ∷ at_terminals_below bound rest) (at_terminals_below bound rest)) ≤ length (first ∷ rest)
    by-test true fewer = omega (arith, fewer)
    by-test false fewer = omega (arith, fewer)

-- those at a terminal are as many in both
pub queued-length : (lines : List Waiting) (pt : ℕ) → length (at_terminal pt lines) ≡ length (queue_of pt (waits_in lines))
queued-length lines pt =
    sym (length-map (at_terminal pt lines) (λ (w : Waiting). as_wait w.item))
    ∙ ap length (waits-passing (λ (w : Waiting). eqb w.item.terminal pt) (λ (wait : Wait). eqb wait.pt pt) lines (λ one is. refl))

pub waits-length : (lines : List Waiting) → length (waits_in lines) ≡ length lines
waits-length lines = length-map lines (λ (w : Waiting). as_wait w.item)

-- the fact of what was found
pub if-found : {A : Type 0} (P : A → Type 0) (o : Option A) (one : A) → IfSome o P → o ≡ Some one → P one
if-found P o one holds is = subst (λ found. IfSome found P) is holds

-- ---- what is taken out

-- the one with a key
pub taken-with : (lines : List Waiting) → AreLinesApart lines → (id : ℕ) (item : Item) (key : Key) → item_of lines id ≡ Some item → IfSome (item_of lines id) (λ it. it.key ≡ key)
    → TakesSought (waiting_with key (waits_in lines)) (Some item) (waits_in lines) (waits_in (without_request id lines))
taken-with lines apart id item key found same =
    let is = found-under lines apart id item key found (if-found (λ (it : Item). it.key ≡ key) (item_of lines id) item same found) in
    record { is = is; others = waits-without lines apart id item found ∙ sym (ap (λ (o : Option Wait). without_found o (waits_in lines)) is) }

-- none
pub nothing-taken : (sought : Option Wait) (waits : List Wait) → sought ≡ None → TakesSought sought None waits waits
nothing-taken sought waits none = record { is = none; others = sym (ap (λ (o : Option Wait). without_found o waits) none) }

-- the first of some of them
pub taken-first : (some lines : List Waiting) → AreLinesApart lines → ((one : Waiting) → IsOneOf one some → IsOneOf one lines) → (sought : Option Wait) → first_waiting (waits_in some) ≡ sought → (id : ℕ) (item : Item) → Some id ≡ first_id some → item_of lines id ≡ Some item
    → TakesSought sought (Some item) (waits_in lines) (waits_in (without_request id lines))
taken-first some lines apart there sought sought_is id item first found =
    let is = sym sought_is ∙ first-taken some lines apart there id item first found in
    record { is = is; others = waits-without lines apart id item found ∙ sym (ap (λ (o : Option Wait). without_found o (waits_in lines)) is) }

-- the first at a terminal
pub first-at : (pt : ℕ) (lines : List Waiting) → first_waiting (waits_in (at_terminal pt lines)) ≡ first_waiting (queue_of pt (waits_in lines))
first-at pt lines = ap first_waiting (waits-passing (λ (w : Waiting). eqb w.item.terminal pt) (λ (wait : Wait). eqb wait.pt pt) lines (λ one is. refl))

pub at-terminal-there : (pt : ℕ) (lines : List Waiting) (one : Waiting) → IsOneOf one (at_terminal pt lines) → IsOneOf one lines
at-terminal-there pt lines one is = (one-passes (λ (w : Waiting). eqb w.item.terminal pt) lines one is).0

-- the first that is overdue
pub first-due-is : (moment : ℕ) (lines : List Waiting) → first_waiting (waits_in (due_at (pos moment) (by_deadline lines))) ≡ first_overdue moment (waits_in lines)
first-due-is moment lines = ap first_waiting (due-are moment lines)

pub due-there : (moment : ℕ) (lines : List Waiting) (one : Waiting) → IsOneOf one (due_at (pos moment) (by_deadline lines)) → IsOneOf one lines
due-there moment lines one is = one-of-due lines one ((one-passes (λ (w : Waiting). not (int_lt (pos moment) w.item.deadline)) (by_deadline lines) one is).0)
