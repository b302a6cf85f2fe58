-- Lists of requests that wait: one that leaves some out, and the order of the deadlines.
use Rattle.std.proofs.Common.{◌≡◌, ℤ, pos, negsuc, Bool, true, false, not, ◌&&◌, List, [], ◌∷◌, ◌++◌, refl, sym, ap, ◌∙◌, subst, inl, inr, arith, append-nil, append_assoc}
use Rattle.std.proofs.lemmas.Bool.{false≢true}
use Rattle.std.proofs.lemmas.Bool.Decides.{nat_tests}
use Rattle.std.specs.Prelude.{filter, fold, int_lt, if◌then◌else◌}
use Rattle.gw_owes.specs.Core.{Wait}
use Rattle.gw_owes.specs.Events.{among_waits}
use Rattle.gw_rules.specs.QueueLaws.{IsPartOf, ComesFirst, AreByDeadline, with_deadline, EachQueueIsDueInOrder}

-- ---- a part of a list

pub part-same : (all : List Wait) → IsPartOf all all
part-same [] = refl
part-same (wait ∷ all) = inr (all, refl, part-same all)

pub part-none : (all : List Wait) → IsPartOf [] all
part-none [] = refl
part-none (wait ∷ all) = inl (part-none all)

pub part-after : (before part all : List Wait) → IsPartOf part all → IsPartOf (before ++ part) (before ++ all)
part-after [] part all is = is
part-after (wait ∷ before) part all is = inr (before ++ part, refl, part-after before part all is)

pub part-back : (part all back : List Wait) → IsPartOf part all → IsPartOf (part ++ back) (all ++ back)
part-back part [] back is = subst (λ (l : List Wait). IsPartOf (l ++ back) back) (sym is) (part-same back)
part-back part (wait ∷ all) back (inl is) = inl (part-back part all back is)
part-back part (wait ∷ all) back (inr (rest, e, is)) = inr (rest ++ back, ap (λ (l : List Wait). l ++ back) e, part-back rest all back is)

pub part-through : (one two three : List Wait) → IsPartOf one two → IsPartOf two three → IsPartOf one three
part-through one two [] is more = subst (IsPartOf one) more is
part-through one two (wait ∷ three) is (inl more) = inl (part-through one two three is more)
part-through one two (wait ∷ three) is (inr (rest, e, more)) = by-first (λ (part : List Wait) left. part-through part rest three left more) (subst (IsPartOf one) e is)
  where
    by-first : ((part : List Wait) → IsPartOf part rest → IsPartOf part three) → IsPartOf one (wait ∷ rest) → IsPartOf one (wait ∷ three)
    by-first later (inl left) = inl (later one left)
    by-first later (inr (part, f, left)) = inr (part, f, later part left)

pub part-filter : (test : Wait → Bool) (all : List Wait) → IsPartOf (filter test all) all
part-filter test [] = refl
part-filter test (wait ∷ all) = by-test (test wait) (part-filter test all)
  where
    by-test : (passes : Bool) → IsPartOf (filter test all) all → IsPartOf (if passes then wait ∷ filter test all else filter test all) (wait ∷ all)
    by-test true is = inr (filter test all, refl, is)
    by-test false is = inl is

-- ---- the order of the deadlines

earlier_than_later : (a b c : ℤ) → int_lt a b ≡ true → int_lt c b ≡ false → int_lt a c ≡ true
earlier_than_later (pos a) (pos b) (pos c) p q = grind (arith, nat_tests)
earlier_than_later (pos a) (pos b) (negsuc c) p q = absurd (cc)
earlier_than_later (pos a) (negsuc b) c p q = absurd (cc)
earlier_than_later (negsuc a) (pos b) (pos c) p q = refl
earlier_than_later (negsuc a) (pos b) (negsuc c) p q = absurd (cc)
earlier_than_later (negsuc a) (negsuc b) (pos c) p q = refl
earlier_than_later (negsuc a) (negsuc b) (negsuc c) p q = grind (arith, nat_tests)

not_both_earlier : (a b : ℤ) → int_lt a b ≡ true → int_lt b a ≡ false
not_both_earlier (pos a) (pos b) p = grind (arith, nat_tests)
not_both_earlier (pos a) (negsuc b) p = absurd (cc)
not_both_earlier (negsuc a) (pos b) p = refl
not_both_earlier (negsuc a) (negsuc b) p = grind (arith, nat_tests)

tied_later : (a b c : ℤ) → int_lt a b ≡ true → int_lt a c ≡ false → int_lt c b ≡ true
tied_later a b c earlier not_later = by-test (int_lt c b) refl
  where
    by-test : (test : Bool) → int_lt c b ≡ test → int_lt c b ≡ true
    by-test true is = is
    by-test false is = absurd (false≢true (sym not_later ∙ earlier_than_later a b c earlier is))

not-itself : (a : ℤ) → int_lt a a ≡ false
not-itself a = by-test (int_lt a a) refl
  where
    by-test : (test : Bool) → int_lt a a ≡ test → int_lt a a ≡ false
    by-test true is = not_both_earlier a a is
    by-test false is = is

both_not : (a b : Bool) → (not a && not b) ≡ true → (a ≡ false) × (b ≡ false)
both_not true b is = absurd (false≢true is)
both_not false true is = absurd (false≢true is)
both_not false false is = (refl, refl)

-- an earlier one comes before all before which a later one comes
comes-earlier : (early late : ℤ) (waits : List Wait) → int_lt early late ≡ true → ComesFirst late waits → ComesFirst early waits
comes-earlier early late [] lt all = tt
comes-earlier early late (wait ∷ waits) lt all = (not_both_earlier early wait.deadline (earlier_than_later early late wait.deadline lt all.0), comes-earlier early late waits lt all.1)

comes-among : (deadline : ℤ) (waits : List Wait) (new : Wait) → int_lt new.deadline deadline ≡ false → ComesFirst deadline waits → ComesFirst deadline (among_waits waits new)
comes-among deadline [] new first all = (first, tt)
comes-among deadline (wait ∷ waits) new first all = by-test (int_lt new.deadline wait.deadline) (comes-among deadline waits new first all.1)
  where
    by-test : (sooner : Bool) → ComesFirst deadline (among_waits waits new) → ComesFirst deadline (if sooner then new ∷ wait ∷ waits else wait ∷ among_waits waits new)
    by-test true later = (first, all)
    by-test false later = (all.0, later)

among-by-deadline : (waits : List Wait) (new : Wait) → AreByDeadline waits → AreByDeadline (among_waits waits new)
among-by-deadline [] new sorted = (tt, tt)
among-by-deadline (wait ∷ waits) new sorted = by-test (int_lt new.deadline wait.deadline) refl (among-by-deadline waits new sorted.1)
  where
    by-test : (sooner : Bool) → int_lt new.deadline wait.deadline ≡ sooner → AreByDeadline (among_waits waits new) → AreByDeadline (if sooner then new ∷ wait ∷ waits else wait ∷ among_waits waits new)
    by-test true is later = ((not_both_earlier new.deadline wait.deadline is, comes-earlier new.deadline wait.deadline waits is sorted.0), sorted)
    by-test false is later = (comes-among wait.deadline waits new is sorted.0, later)

all-by-deadline : (before waits : List Wait) → AreByDeadline before → AreByDeadline (fold among_waits before waits)
all-by-deadline before [] sorted = sorted
all-by-deadline before (wait ∷ waits) sorted = all-by-deadline (among_waits before wait) waits (among-by-deadline before wait sorted)

-- ---- those of one deadline

-- a request has this deadline
abbrev has-deadline : ℤ → Wait → Bool
has-deadline deadline wait = not (int_lt wait.deadline deadline) && not (int_lt deadline wait.deadline)

-- of a deadline that is earlier than those of all there are none
none-with : (deadline early : ℤ) (waits : List Wait) → int_lt deadline early ≡ true → ComesFirst early waits → with_deadline deadline waits ≡ []
none-with deadline early [] lt all = refl
none-with deadline early (wait ∷ waits) lt all =
    ap (λ (b : Bool). if not (int_lt wait.deadline deadline) && not b then wait ∷ with_deadline deadline waits else with_deadline deadline waits) (earlier_than_later deadline early wait.deadline lt all.0)
    ∙ (and-none (not (int_lt wait.deadline deadline)) ∙ none-with deadline early waits lt all.1)
  where
    and-none : (b : Bool) → (if b && false then wait ∷ with_deadline deadline waits else with_deadline deadline waits) ≡ with_deadline deadline waits
    and-none true = refl
    and-none false = refl

-- one more is the last of its deadline
among-with : (deadline : ℤ) (waits : List Wait) (new : Wait) → AreByDeadline waits → with_deadline deadline (among_waits waits new) ≡ with_deadline deadline waits ++ with_deadline deadline (new ∷ [])
among-with deadline [] new sorted = refl
among-with deadline (wait ∷ waits) new sorted = by-test (int_lt new.deadline wait.deadline) refl (among-with deadline waits new sorted.1)
  where
    own : List Wait
    own = with_deadline deadline (new ∷ [])

    later : (b : Bool) → with_deadline deadline (among_waits waits new) ≡ with_deadline deadline waits ++ own
        → (if b then wait ∷ with_deadline deadline (among_waits waits new) else with_deadline deadline (among_waits waits new)) ≡ (if b then wait ∷ with_deadline deadline waits else with_deadline deadline waits) ++ own
    later true is = ap (λ (l : List Wait). wait ∷ l) is
    later false is = is

    -- where the new one has the deadline none of the others has
    before : (b : Bool) → has-deadline deadline new ≡ b → int_lt new.deadline wait.deadline ≡ true
        → (if b then new ∷ with_deadline deadline (wait ∷ waits) else with_deadline deadline (wait ∷ waits)) ≡ with_deadline deadline (wait ∷ waits) ++ (if b then new ∷ [] else [])
    before false is sooner = sym (append-nil (with_deadline deadline (wait ∷ waits)))
    before true is sooner =
        let tied = both_not (int_lt new.deadline deadline) (int_lt deadline new.deadline) is in
        let none : with_deadline deadline (wait ∷ waits) ≡ [] =
        none-with deadline wait.deadline (wait ∷ waits) (tied_later new.deadline wait.deadline deadline sooner tied.0) (not-itself wait.deadline, sorted.0) in
        ap (λ (l : List Wait). new ∷ l) none ∙ ap (λ (l : List Wait). l ++ new ∷ []) (sym none)

    by-test : (sooner : Bool) → int_lt new.deadline wait.deadline ≡ sooner → with_deadline deadline (among_waits waits new) ≡ with_deadline deadline waits ++ own
        → with_deadline deadline (if sooner then new ∷ wait ∷ waits else wait ∷ among_waits waits new) ≡ with_deadline deadline (wait ∷ waits) ++ own
    by-test true is rests = before (has-deadline deadline new) refl is
    by-test false is rests = later (has-deadline deadline wait) rests

with-cons : (deadline : ℤ) (wait : Wait) (waits : List Wait) → with_deadline deadline (wait ∷ []) ++ with_deadline deadline waits ≡ with_deadline deadline (wait ∷ waits)
with-cons deadline wait waits = by-test (has-deadline deadline wait)
  where
    by-test : (b : Bool) → (if b then wait ∷ [] else []) ++ with_deadline deadline waits ≡ (if b then wait ∷ with_deadline deadline waits else with_deadline deadline waits)
    by-test true = refl
    by-test false = refl

all-with : (deadline : ℤ) (before waits : List Wait) → AreByDeadline before → with_deadline deadline (fold among_waits before waits) ≡ with_deadline deadline before ++ with_deadline deadline waits
all-with deadline before [] sorted = sym (append-nil (with_deadline deadline before))
all-with deadline before (wait ∷ waits) sorted =
    all-with deadline (among_waits before wait) waits (among-by-deadline before wait sorted)
    ∙ (ap (λ (l : List Wait). l ++ with_deadline deadline waits) (among-with deadline before wait sorted)
    ∙ (append_assoc (with_deadline deadline before) (with_deadline deadline (wait ∷ [])) (with_deadline deadline waits) ∙ ap (λ (l : List Wait). with_deadline deadline before ++ l) (with-cons deadline wait waits)))

pub queue-due-in-order : EachQueueIsDueInOrder
queue-due-in-order waits = record { by_deadline = all-by-deadline [] waits tt; as_accepted = λ deadline. all-with deadline [] waits tt }
