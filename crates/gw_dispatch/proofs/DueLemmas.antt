-- The requests that wait, by their deadlines: which have waited for too long, and which of them are still to come.
use Rattle.std.proofs.Common.{◌≡◌, ◌≤◌, ◌⊎◌, length, inl, inr, ℕ, ℤ, pos, negsuc, List, [], ◌∷◌, ◌++◌, Some, None, Bool, true, false, refl, sym, ◌∙◌, ap, subst, arith}
use Rattle.std.specs.Prelude.{int_lt, filter, fold, is_some, if◌then◌else◌}
use Rattle.std.specs.Ordering.{is_eq}
use Rattle.std.proofs.lemmas.Bool.Decides.{nat_tests}
use Rattle.gw_base.proofs.KeyLemmas.{key_cmp-ties}
use Rattle.gw_base.specs.declared.key.Key.{Key}
use Rattle.gw_ledger.specs.Keys.{same_key}
use Rattle.gw_owes.specs.Core.{Wait}
use Rattle.gw_owes.specs.Events.{among_waits, waits_by_deadline}
use Rattle.gw_owes.specs.WaitingRows.{is_overdue}
use Rattle.gw_owes.specs.Waits.{waiting_with}
use Rattle.gw_owes.proofs.RecordLemmas.{apart-keys-turned}

-- ---- deadlines

sooner-than : (a b c : ℤ) → int_lt a b ≡ true → int_lt c b ≡ false → int_lt a c ≡ true
sooner-than (pos a) (pos b) (pos c) p q = grind (arith, nat_tests)
sooner-than (pos a) (pos b) (negsuc c) p q = absurd (cc)
sooner-than (pos a) (negsuc b) c p q = absurd (cc)
sooner-than (negsuc a) (pos b) (pos c) p q = refl
sooner-than (negsuc a) (pos b) (negsuc c) p q = absurd (cc)
sooner-than (negsuc a) (negsuc b) (pos c) p q = refl
sooner-than (negsuc a) (negsuc b) (negsuc c) p q = grind (arith, nat_tests)

not-both : (a b : ℤ) → int_lt a b ≡ true → int_lt b a ≡ false
not-both (pos a) (pos b) p = grind (arith, nat_tests)
not-both (pos a) (negsuc b) p = absurd (cc)
not-both (negsuc a) (pos b) p = refl
not-both (negsuc a) (negsuc b) p = grind (arith, nat_tests)

-- ---- in time

-- none of these is due before this one
abbrev NoneSooner : Wait → List Wait → Type 0
NoneSooner first [] = Unit {0}
NoneSooner first (other ∷ rest) = (int_lt other.deadline first.deadline ≡ false) × NoneSooner first rest

abbrev InTime : List Wait → Type 0
InTime [] = Unit {0}
InTime (first ∷ rest) = NoneSooner first rest × InTime rest

-- each of these is due after this one
abbrev AllLater : Wait → List Wait → Type 0
AllLater wait [] = Unit {0}
AllLater wait (other ∷ rest) = (int_lt wait.deadline other.deadline ≡ true) × AllLater wait rest

all-later : (wait first : Wait) (rest : List Wait) → int_lt wait.deadline first.deadline ≡ true → NoneSooner first rest → AllLater wait rest
all-later wait first [] sooner none = tt
all-later wait first (other ∷ rest) sooner none = (sooner-than wait.deadline first.deadline other.deadline sooner none.0, all-later wait first rest sooner none.1)

none-later : (wait : Wait) (rest : List Wait) → AllLater wait rest → NoneSooner wait rest
none-later wait [] all = tt
none-later wait (other ∷ rest) all = (not-both wait.deadline other.deadline all.0, none-later wait rest all.1)

place-none : (first wait : Wait) (rest : List Wait) → int_lt wait.deadline first.deadline ≡ false → NoneSooner first rest → NoneSooner first (among_waits rest wait)
place-none first wait [] later none = (later, tt)
place-none first wait (other ∷ rest) later none = by_test (place-none first wait rest later none.1) (int_lt wait.deadline other.deadline) refl
  where
    by_test : NoneSooner first (among_waits rest wait) → (test : Bool) → int_lt wait.deadline other.deadline ≡ test → NoneSooner first (among_waits (other ∷ rest) wait)
    by_test h true e = rw e (later, none)
    by_test h false e = rw e (none.0, h)

place-in-time : (wait : Wait) (rest : List Wait) → InTime rest → InTime (among_waits rest wait)
place-in-time wait [] sorted = (tt, tt)
place-in-time wait (other ∷ rest) sorted = by_test (place-in-time wait rest sorted.1) (int_lt wait.deadline other.deadline) refl
  where
    by_test : InTime (among_waits rest wait) → (test : Bool) → int_lt wait.deadline other.deadline ≡ test → InTime (among_waits (other ∷ rest) wait)
    by_test h true e = rw e ((not-both wait.deadline other.deadline e, none-later wait rest (all-later wait other rest e sorted.0)), sorted)
    by_test h false e = rw e (place-none other wait rest e sorted.0, h)

-- ---- some of those that wait

-- one that is due before all comes first
first-placed : (keep : Wait → Bool) (wait : Wait) (rest : List Wait) → AllLater wait rest → among_waits (filter keep rest) wait ≡ wait ∷ filter keep rest
first-placed keep wait [] all = refl
first-placed keep wait (other ∷ rest) all = by_keep (first-placed keep wait rest all.1) (keep other) refl
  where
    by_keep : among_waits (filter keep rest) wait ≡ wait ∷ filter keep rest → (kept : Bool) → keep other ≡ kept → among_waits (filter keep (other ∷ rest)) wait ≡ wait ∷ filter keep (other ∷ rest)
    by_keep h true k = rw (k, all.0) refl
    by_keep h false k = rw k h

-- one among these, as far as they are kept
abbrev placed_if : Bool → List Wait → Wait → List Wait
placed_if kept rest wait = if kept then among_waits rest wait else rest

filter-place : (keep : Wait → Bool) (wait : Wait) (rest : List Wait) → InTime rest → filter keep (among_waits rest wait) ≡ placed_if (keep wait) (filter keep rest) wait
filter-place keep wait [] sorted = refl
filter-place keep wait (other ∷ rest) sorted = by_test (filter-place keep wait rest sorted.1) (int_lt wait.deadline other.deadline) refl
  where
    first : int_lt wait.deadline other.deadline ≡ true → (kept : Bool) → keep wait ≡ kept → filter keep (wait ∷ other ∷ rest) ≡ placed_if (keep wait) (filter keep (other ∷ rest)) wait
    first e true k = rw k (sym (first-placed keep wait (other ∷ rest) (e, all-later wait other rest e sorted.0)))
    first e false k = rw k refl

    next : filter keep (among_waits rest wait) ≡ placed_if (keep wait) (filter keep rest) wait → int_lt wait.deadline other.deadline ≡ false → (kept : Bool) → keep other ≡ kept → (mine : Bool) → keep wait ≡ mine →
        filter keep (other ∷ among_waits rest wait) ≡ placed_if (keep wait) (filter keep (other ∷ rest)) wait
    next h e true k true m = rw (k, m, e) (ap (λ l. other ∷ l) (h ∙ rw m refl))
    next h e true k false m = rw (k, m) (ap (λ l. other ∷ l) (h ∙ rw m refl))
    next h e false k true m = rw (k, m) (h ∙ rw m refl)
    next h e false k false m = rw (k, m) (h ∙ rw m refl)

    by_test : filter keep (among_waits rest wait) ≡ placed_if (keep wait) (filter keep rest) wait → (test : Bool) → int_lt wait.deadline other.deadline ≡ test → filter keep (among_waits (other ∷ rest) wait) ≡ placed_if (keep wait) (filter keep (other ∷ rest)) wait
    by_test h true e = rw e (first e (keep wait) refl)
    by_test h false e = rw e (next h e (keep other) refl (keep wait) refl)

filter-placed : (keep : Wait → Bool) (sorted waits : List Wait) → InTime sorted → filter keep (fold among_waits sorted waits) ≡ fold among_waits (filter keep sorted) (filter keep waits)
filter-placed keep sorted [] in_time = refl
filter-placed keep sorted (wait ∷ waits) in_time =
    filter-placed keep (among_waits sorted wait) waits (place-in-time wait sorted in_time) ∙ ap (λ l. fold among_waits l (filter keep waits)) (filter-place keep wait sorted in_time) ∙ by_keep (keep wait) refl
  where
    by_keep : (kept : Bool) → keep wait ≡ kept → fold among_waits (placed_if (keep wait) (filter keep sorted) wait) (filter keep waits) ≡ fold among_waits (filter keep sorted) (filter keep (wait ∷ waits))
    by_keep true k = rw k refl
    by_keep false k = rw k refl

placed-in-time : (sorted waits : List Wait) → InTime sorted → InTime (fold among_waits sorted waits)
placed-in-time sorted [] in_time = in_time
placed-in-time sorted (wait ∷ waits) in_time = placed-in-time (among_waits sorted wait) waits (place-in-time wait sorted in_time)

placed-append : (sorted waits more : List Wait) → fold among_waits sorted (waits ++ more) ≡ fold among_waits (fold among_waits sorted waits) more
placed-append sorted [] more = refl
placed-append sorted (wait ∷ waits) more = placed-append (among_waits sorted wait) waits more

filter-twice : (p q : Wait → Bool) (waits : List Wait) → filter p (filter q waits) ≡ filter q (filter p waits)
filter-twice p q [] = refl
filter-twice p q (wait ∷ waits) = by_tests (filter-twice p q waits) (p wait) refl (q wait) refl
  where
    by_tests : filter p (filter q waits) ≡ filter q (filter p waits) → (a : Bool) → p wait ≡ a → (b : Bool) → q wait ≡ b → filter p (filter q (wait ∷ waits)) ≡ filter q (filter p (wait ∷ waits))
    by_tests h true e true f = rw (e, f) (rw e (ap (λ l. wait ∷ l) h))
    by_tests h true e false f = rw (e, f) h
    by_tests h false e true f = rw (f, e) h
    by_tests h false e false f = rw (e, f) h

-- those that have waited for too long, by their deadlines
abbrev pub overdue_of : ℕ → List Wait → List Wait
overdue_of moment waits = filter (is_overdue moment) (waits_by_deadline waits)

-- of some
pub overdue-some : (moment : ℕ) (keep : Wait → Bool) (waits : List Wait) → overdue_of moment (filter keep waits) ≡ filter keep (overdue_of moment waits)
overdue-some moment keep waits = ap (filter (is_overdue moment)) (sym (filter-placed keep [] waits tt)) ∙ filter-twice (is_overdue moment) keep (waits_by_deadline waits)

-- one more that is early
pub overdue-more : (moment : ℕ) (waits : List Wait) (wait : Wait) → is_overdue moment wait ≡ false → overdue_of moment (waits ++ wait ∷ []) ≡ overdue_of moment waits
overdue-more moment waits wait early =
    ap (filter (is_overdue moment)) (placed-append [] waits (wait ∷ [])) ∙ filter-place (is_overdue moment) wait (waits_by_deadline waits) (placed-in-time [] waits tt)
    ∙ ap (λ kept. placed_if kept (filter (is_overdue moment) (waits_by_deadline waits)) wait) early

-- ---- how many they are

pub fewer-some : (keep : Wait → Bool) (waits : List Wait) → length (filter keep waits) ≤ length waits
fewer-some keep [] = omega arith
fewer-some keep (wait ∷ waits) = by_keep (fewer-some keep waits) (keep wait) refl
  where
    by_keep : length (filter keep waits) ≤ length waits → (b : Bool) → keep wait ≡ b → length (filter keep (wait ∷ waits)) ≤ length (wait ∷ waits)
    by_keep h true k = rw k (omega (arith, h))
    by_keep h false k = rw k (omega (arith, h))

-- ---- who is among them

abbrev pub IsAmong : Wait → List Wait → Type 0
IsAmong wait [] = ⊥
IsAmong wait (first ∷ rest) = (first ≡ wait) ⊎ IsAmong wait rest

among-filter : (keep : Wait → Bool) (wait : Wait) (waits : List Wait) → IsAmong wait (filter keep waits) → IsAmong wait waits × (keep wait ≡ true)
among-filter keep wait [] found = absurd found
among-filter keep wait (first ∷ rest) found = by_keep (among-filter keep wait rest) (keep first) refl found
  where
    by_keep : (IsAmong wait (filter keep rest) → IsAmong wait rest × (keep wait ≡ true)) → (kept : Bool) → keep first ≡ kept → IsAmong wait (filter keep (first ∷ rest)) → IsAmong wait (first ∷ rest) × (keep wait ≡ true)
    by_keep later true k found = elim (subst (λ b. IsAmong wait (if b then first ∷ filter keep rest else filter keep rest)) k found) [ inl same ↦ (inl same, ap keep (sym same) ∙ k) | inr there ↦ (inr (later there).0, (later there).1) ]
    by_keep later false k found = let there = later (subst (λ b. IsAmong wait (if b then first ∷ filter keep rest else filter keep rest)) k found) in (inr there.0, there.1)

among-kept : (keep : Wait → Bool) (wait : Wait) (waits : List Wait) → IsAmong wait waits → keep wait ≡ true → IsAmong wait (filter keep waits)
among-kept keep wait [] found kept = absurd found
among-kept keep wait (first ∷ rest) (inl same) kept = rw (ap keep same ∙ kept) (inl same)
among-kept keep wait (first ∷ rest) (inr there) kept = by_keep (among-kept keep wait rest there kept) (keep first) refl
  where
    by_keep : IsAmong wait (filter keep rest) → (b : Bool) → keep first ≡ b → IsAmong wait (filter keep (first ∷ rest))
    by_keep h true k = rw k (inr h)
    by_keep h false k = rw k h

place-among : (wait other : Wait) (rest : List Wait) → IsAmong wait (among_waits rest other) → (other ≡ wait) ⊎ IsAmong wait rest
place-among wait other [] found = found
place-among wait other (first ∷ rest) found = by_test (place-among wait other rest) (int_lt other.deadline first.deadline) refl found
  where
    by_test : (IsAmong wait (among_waits rest other) → (other ≡ wait) ⊎ IsAmong wait rest) → (test : Bool) → int_lt other.deadline first.deadline ≡ test → IsAmong wait (among_waits (first ∷ rest) other) → (other ≡ wait) ⊎ IsAmong wait (first ∷ rest)
    by_test later true e found = subst (λ b. IsAmong wait (if b then other ∷ first ∷ rest else first ∷ among_waits rest other)) e found
    by_test later false e found = elim (subst (λ b. IsAmong wait (if b then other ∷ first ∷ rest else first ∷ among_waits rest other)) e found) [ inl same ↦ inr (inl same) | inr there ↦ elim (later there) [ inl it ↦ inl it | inr old ↦ inr (inr old) ] ]

among-place : (wait other : Wait) (rest : List Wait) → (other ≡ wait) ⊎ IsAmong wait rest → IsAmong wait (among_waits rest other)
among-place wait other [] found = found
among-place wait other (first ∷ rest) found = by_test (among-place wait other rest) (int_lt other.deadline first.deadline) refl found
  where
    by_test : ((other ≡ wait) ⊎ IsAmong wait rest → IsAmong wait (among_waits rest other)) → (test : Bool) → int_lt other.deadline first.deadline ≡ test → (other ≡ wait) ⊎ IsAmong wait (first ∷ rest) → IsAmong wait (among_waits (first ∷ rest) other)
    by_test later true e found = rw e found
    by_test later false e (inl it) = rw e (inr (later (inl it)))
    by_test later false e (inr (inl same)) = rw e (inl same)
    by_test later false e (inr (inr old)) = rw e (inr (later (inr old)))

placed-among : (wait : Wait) (sorted waits : List Wait) → IsAmong wait (fold among_waits sorted waits) → IsAmong wait sorted ⊎ IsAmong wait waits
placed-among wait sorted [] found = inl found
placed-among wait sorted (first ∷ rest) found =
    elim (placed-among wait (among_waits sorted first) rest found) [ inl placed ↦ elim (place-among wait first sorted placed) [ inl it ↦ inr (inl it) | inr old ↦ inl old ] | inr there ↦ inr (inr there) ]

among-placed : (wait : Wait) (sorted waits : List Wait) → IsAmong wait sorted ⊎ IsAmong wait waits → IsAmong wait (fold among_waits sorted waits)
among-placed wait sorted [] (inl there) = there
among-placed wait sorted [] (inr none) = absurd none
among-placed wait sorted (first ∷ rest) (inl there) = among-placed wait (among_waits sorted first) rest (inl (among-place wait first sorted (inr there)))
among-placed wait sorted (first ∷ rest) (inr (inl same)) = among-placed wait (among_waits sorted first) rest (inl (among-place wait first sorted (inl same)))
among-placed wait sorted (first ∷ rest) (inr (inr there)) = among-placed wait (among_waits sorted first) rest (inr there)

-- those that have waited for too long are those among the waiting that have
pub overdue-among : (moment : ℕ) (wait : Wait) (waits : List Wait) → IsAmong wait (overdue_of moment waits) → IsAmong wait waits × (is_overdue moment wait ≡ true)
overdue-among moment wait waits found =
    let there = among-filter (is_overdue moment) wait (waits_by_deadline waits) found in
    (elim (placed-among wait [] waits there.0) [ inl none ↦ absurd none | inr it ↦ it ], there.1)

pub among-overdue : (moment : ℕ) (wait : Wait) (waits : List Wait) → IsAmong wait waits → is_overdue moment wait ≡ true → IsAmong wait (overdue_of moment waits)
among-overdue moment wait waits there overdue = among-kept (is_overdue moment) wait (waits_by_deadline waits) (among-placed wait [] waits (inr there)) overdue

-- ---- keys

-- none of these has this key
abbrev pub HasNoKey : Key → List Wait → Type 0
HasNoKey key [] = Unit {0}
HasNoKey key (wait ∷ waits) = (same_key key wait.key ≡ false) × HasNoKey key waits

-- each has a key of its own
abbrev pub AreKeysApart : List Wait → Type 0
AreKeysApart [] = Unit {0}
AreKeysApart (wait ∷ waits) = HasNoKey wait.key waits × AreKeysApart waits

no-key-some : (key : Key) (keep : Wait → Bool) (waits : List Wait) → HasNoKey key waits → HasNoKey key (filter keep waits)
no-key-some key keep [] none = tt
no-key-some key keep (wait ∷ waits) none = by_keep (no-key-some key keep waits none.1) (keep wait) refl
  where
    by_keep : HasNoKey key (filter keep waits) → (b : Bool) → keep wait ≡ b → HasNoKey key (filter keep (wait ∷ waits))
    by_keep h true k = rw k (none.0, h)
    by_keep h false k = rw k h

pub apart-some : (keep : Wait → Bool) (waits : List Wait) → AreKeysApart waits → AreKeysApart (filter keep waits)
apart-some keep [] apart = tt
apart-some keep (wait ∷ waits) apart = by_keep (apart-some keep waits apart.1) (keep wait) refl
  where
    by_keep : AreKeysApart (filter keep waits) → (b : Bool) → keep wait ≡ b → AreKeysApart (filter keep (wait ∷ waits))
    by_keep h true k = rw k (no-key-some wait.key keep waits apart.0, h)
    by_keep h false k = rw k h

no-key-more : (key : Key) (waits : List Wait) (wait : Wait) → HasNoKey key waits → same_key key wait.key ≡ false → HasNoKey key (waits ++ wait ∷ [])
no-key-more key [] wait none differ = (differ, tt)
no-key-more key (first ∷ rest) wait none differ = (none.0, no-key-more key rest wait none.1 differ)

pub apart-more : (waits : List Wait) (wait : Wait) → AreKeysApart waits → HasNoKey wait.key waits → AreKeysApart (waits ++ wait ∷ [])
apart-more [] wait apart none = (tt, tt)
apart-more (first ∷ rest) wait apart none = (no-key-more first.key rest wait apart.0 (apart-keys-turned wait.key first.key none.0), apart-more rest wait apart.1 none.1)

no-key-place : (key : Key) (wait : Wait) (rest : List Wait) → HasNoKey key rest → same_key key wait.key ≡ false → HasNoKey key (among_waits rest wait)
no-key-place key wait [] none differ = (differ, tt)
no-key-place key wait (first ∷ rest) none differ = by_test (no-key-place key wait rest none.1 differ) (int_lt wait.deadline first.deadline) refl
  where
    by_test : HasNoKey key (among_waits rest wait) → (test : Bool) → int_lt wait.deadline first.deadline ≡ test → HasNoKey key (among_waits (first ∷ rest) wait)
    by_test h true e = rw e (differ, none)
    by_test h false e = rw e (none.0, h)

apart-place : (wait : Wait) (rest : List Wait) → AreKeysApart rest → HasNoKey wait.key rest → AreKeysApart (among_waits rest wait)
apart-place wait [] apart none = (tt, tt)
apart-place wait (first ∷ rest) apart none = by_test (apart-place wait rest apart.1 none.1) (int_lt wait.deadline first.deadline) refl
  where
    by_test : AreKeysApart (among_waits rest wait) → (test : Bool) → int_lt wait.deadline first.deadline ≡ test → AreKeysApart (among_waits (first ∷ rest) wait)
    by_test h true e = rw e (none, apart)
    by_test h false e = rw e (no-key-place first.key wait rest apart.0 (apart-keys-turned wait.key first.key none.0), h)

-- none of the first has a key of the others
abbrev AreApartFrom : List Wait → List Wait → Type 0
AreApartFrom sorted [] = Unit {0}
AreApartFrom sorted (wait ∷ waits) = HasNoKey wait.key sorted × AreApartFrom sorted waits

apart-from-none : (waits : List Wait) → AreApartFrom [] waits
apart-from-none [] = tt
apart-from-none (wait ∷ waits) = (tt, apart-from-none waits)

apart-from-place : (wait : Wait) (sorted waits : List Wait) → HasNoKey wait.key waits → AreApartFrom sorted waits → AreApartFrom (among_waits sorted wait) waits
apart-from-place wait sorted [] none apart = tt
apart-from-place wait sorted (first ∷ rest) none apart = (no-key-place first.key wait sorted apart.0 (apart-keys-turned wait.key first.key none.0), apart-from-place wait sorted rest none.1 apart.1)

apart-placed : (sorted waits : List Wait) → AreKeysApart sorted → AreKeysApart waits → AreApartFrom sorted waits → AreKeysApart (fold among_waits sorted waits)
apart-placed sorted [] apart own from = apart
apart-placed sorted (wait ∷ waits) apart own from = apart-placed (among_waits sorted wait) waits (apart-place wait sorted apart from.0) own.1 (apart-from-place wait sorted waits own.0 from.1)

pub apart-by-deadline : (waits : List Wait) → AreKeysApart waits → AreKeysApart (waits_by_deadline waits)
apart-by-deadline waits apart = apart-placed [] waits tt apart (apart-from-none waits)

pub tie : (key : Key) → same_key key key ≡ true
tie key = ap is_eq ((key_cmp-ties key key).1 refl)

-- one of these has another key than one that none has
pub other-key : (key : Key) (wait : Wait) (waits : List Wait) → HasNoKey key waits → IsAmong wait waits → same_key key wait.key ≡ false
other-key key wait [] none found = absurd found
other-key key wait (first ∷ rest) none (inl same) = ap (λ (w : Wait). same_key key w.key) (sym same) ∙ none.0
other-key key wait (first ∷ rest) none (inr there) = other-key key wait rest none.1 there

-- the request that waits under a key is among those that wait, and has it
pub with-among : (key : Key) (waits : List Wait) (wait : Wait) → waiting_with key waits ≡ Some wait → IsAmong wait waits × (same_key key wait.key ≡ true)
with-among key [] wait found = absurd (let h : None ≡ Some wait = found in cc)
with-among key (first ∷ rest) wait found = by_test (with-among key rest wait) (same_key key first.key) refl found
  where
    by_test : (waiting_with key rest ≡ Some wait → IsAmong wait rest × (same_key key wait.key ≡ true)) → (test : Bool) → same_key key first.key ≡ test → waiting_with key (first ∷ rest) ≡ Some wait → IsAmong wait (first ∷ rest) × (same_key key wait.key ≡ true)
    by_test later true e found =
        let h : Some first ≡ Some wait = sym (rw e refl) ∙ found in
        let same : first ≡ wait = cc in
        (inl same, ap (λ (w : Wait). same_key key w.key) (sym same) ∙ e)
    by_test later false e found = let there = later (sym (rw e refl) ∙ found) in (inr there.0, there.1)

-- under the key of one of them that one waits
pub among-with : (wait : Wait) (waits : List Wait) → AreKeysApart waits → IsAmong wait waits → waiting_with wait.key waits ≡ Some wait
among-with wait [] apart found = absurd found
among-with wait (first ∷ rest) apart (inl same) = rw (ap (λ (w : Wait). same_key wait.key w.key) same ∙ tie wait.key) (ap Some same)
among-with wait (first ∷ rest) apart (inr there) = rw (apart-keys-turned first.key wait.key (other-key first.key wait rest apart.0 there)) (among-with wait rest apart.1 there)

-- no request waits under a key that none has
pub with-none : (key : Key) (waits : List Wait) → is_some (waiting_with key waits) ≡ false → HasNoKey key waits
with-none key [] none = tt
with-none key (first ∷ rest) none = by_test (with-none key rest) (same_key key first.key) refl none
  where
    by_test : (is_some (waiting_with key rest) ≡ false → HasNoKey key rest) → (test : Bool) → same_key key first.key ≡ test → is_some (waiting_with key (first ∷ rest)) ≡ false → HasNoKey key (first ∷ rest)
    by_test later true e none = absurd (let h : true ≡ false = sym (rw e refl) ∙ none in cc)
    by_test later false e none = (e, later (sym (rw e refl) ∙ none))

-- ---- which are still to come

-- the first are some of the second, in their order
abbrev pub AreSomeOf : List Wait → List Wait → Type 0
AreSomeOf some [] = some ≡ []
AreSomeOf some (first ∷ rest) = AreSomeOf some rest ⊎ ((more : List Wait) × (some ≡ first ∷ more) × AreSomeOf more rest)

pub some-kept : (keep : Wait → Bool) (some all : List Wait) → AreSomeOf some all → AreSomeOf (filter keep some) all
some-kept keep some [] are = ap (filter keep) are
some-kept keep some (first ∷ rest) (inl later) = inl (some-kept keep some rest later)
some-kept keep some (first ∷ rest) (inr (more, is, later)) = by_keep (some-kept keep more rest later) (keep first) refl
  where
    by_keep : AreSomeOf (filter keep more) rest → (b : Bool) → keep first ≡ b → AreSomeOf (filter keep some) (first ∷ rest)
    by_keep h true k = inr (filter keep more, ap (filter keep) is ∙ rw k refl, h)
    by_keep h false k = inl (subst (λ l. AreSomeOf l rest) (sym (ap (filter keep) is ∙ rw k refl)) h)

pub kept-some : (keep : Wait → Bool) (all : List Wait) → AreSomeOf (filter keep all) all
kept-some keep [] = refl
kept-some keep (first ∷ rest) = by_keep (kept-some keep rest) (keep first) refl
  where
    by_keep : AreSomeOf (filter keep rest) rest → (b : Bool) → keep first ≡ b → AreSomeOf (filter keep (first ∷ rest)) (first ∷ rest)
    by_keep h true k = inr (filter keep rest, rw k refl, h)
    by_keep h false k = inl (subst (λ l. AreSomeOf l rest) (sym (rw k refl)) h)

pub some-among : (wait : Wait) (some all : List Wait) → AreSomeOf some all → IsAmong wait some → IsAmong wait all
some-among wait some [] are found = absurd (subst (IsAmong wait) are found)
some-among wait some (first ∷ rest) (inl later) found = inr (some-among wait some rest later found)
some-among wait some (first ∷ rest) (inr (more, is, later)) found = elim (subst (IsAmong wait) is found) [ inl same ↦ inl same | inr there ↦ inr (some-among wait more rest later there) ]
