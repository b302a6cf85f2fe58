-- The steps outside of strings and numbers: what begins a value, literals, lists.
use Rattle.std.proofs.Common.{◌≡◌, ◌≢◌, ℕ, suc, ◌<◌, ◌≤◌, List, [], ◌∷◌, ◌++◌, length, true, false, refl, sym, ap, subst, arith, inl, inr, ◌⊎◌}
use Rattle.json_text.specs.Tree.{Tree, null, boolean, number, string, array, object, Elements, no_elements, element}
use Rattle.json_text.specs.ValueOf.{elements_onto}
use Rattle.json_text.specs.Number.{IsNumberText}
use Rattle.std.specs.Str.{encode_utf8_all}
use Rattle.json_text.specs.Character.{AreCharacters}
use Rattle.json_text.specs.inner.NumberLeft.{LeavesNumber, EndsNumber}
use Rattle.json_text.specs.Grammar.{Rules, is_space, skip, Value, First, More}
use Rattle.json_text.specs.inner.ReaderStates.{Level, in_list, After, value, first_element, after, literal, number_in, string_in, as_value, Rest, LeadsTo, IsDead}
use Rattle.json_text.specs.declared.number.NumberState.{NumberState}
use Rattle.json_text.proofs.ListLemmas.{head_is, tail_is, not_nil}
use Rattle.json_text.proofs.NumberLemmas.{number_head, number_nil, number_state_live}
use Rattle.json_text.proofs.ScanLemmas.{no_space}

pub elements_onto_append : (done : List Tree) (x : Tree) (xs : Elements) → elements_onto (done ++ x ∷ []) xs ≡ elements_onto done (element x xs)
elements_onto_append [] x xs = refl
elements_onto_append (t ∷ ts) x xs = ap (element t) (elements_onto_append ts x xs)

-- ---- the first byte of a value

-- what a value begins with
abbrev pub IsStart : Tree → ℕ → Type 0
IsStart null c = c ≡ 110
IsStart (boolean b) c = (c ≡ 116) ⊎ (c ≡ 102)
IsStart (number text) c = (c ≡ 45) ⊎ ((48 ≤ c) × (c ≤ 57))
IsStart (string text) c = c ≡ 34
IsStart (array xs) c = c ≡ 91
IsStart (object ms) c = c ≡ 123

number_starts : (text : List ℕ) (c : ℕ) (b r : List ℕ) → IsNumberText text → c ∷ b ≡ text ++ r → (c ≡ 45) ⊎ ((48 ≤ c) × (c ≤ 57))
number_starts [] c b r h e = absurd (number_nil h)
number_starts (x ∷ s) c b r h e = number_head c s (subst (λ (k : ℕ). IsNumberText (k ∷ s)) (sym (head_is _ _ _ _ e)) h)

pub value_starts : (R : Rules) (d : ℕ) (x : Tree) (c : ℕ) (b r : List ℕ) → Value R d x (c ∷ b) r → IsStart x c
value_starts R d null c b r h = head_is c _ b _ h
value_starts R d (boolean true) c b r h = inl (head_is c _ b _ h)
value_starts R d (boolean false) c b r h = inr (head_is c _ b _ h)
value_starts R d (number text) c b r h = number_starts text c b r h.0 h.1
value_starts R d (string s) c b r h = head_is c _ b _ h.1
value_starts R d (array xs) c b r h = head_is c _ b _ h.1.1
value_starts R d (object ms) c b r h = head_is c _ b _ h.2.1

-- a value is not nothing
pub value_nil : (R : Rules) (d : ℕ) (x : Tree) (r : List ℕ) → Value R d x [] r → ⊥
value_nil R d null r h = not_nil 110 _ h
value_nil R d (boolean true) r h = not_nil 116 _ h
value_nil R d (boolean false) r h = not_nil 102 _ h
value_nil R d (number text) r h = none text h.0 h.1
  where
    none : (text : List ℕ) → IsNumberText text → [] ≡ text ++ r → ⊥
    none [] h e = number_nil h
    none (x ∷ s) h e = not_nil x _ e
value_nil R d (string s) r h = not_nil 34 _ h.1
value_nil R d (array xs) r h = not_nil 91 _ h.1.1
value_nil R d (object ms) r h = not_nil 123 _ h.2.1

-- ---- where a value comes, and how a tree of one kind begins

pub space_value : (R : Rules) (st : List Level) (c : ℕ) → is_space c ≡ true → LeadsTo R value st c value st
space_value R st c e = record {
  on = λ b v h. record { tree = h.tree; rest = h.rest; valued = rw e at h.valued; after = h.after };
  back = λ b v h. record { tree = h.tree; rest = h.rest; valued = rw e h.valued; after = h.after };
}

-- ---- literals

null_on : (R : Rules) (st : List Level) (b : List ℕ) (v x : Tree) (n : List ℕ) → Value R (length st) x (110 ∷ b) n → After R st x n v → Rest R (literal (117 ∷ 108 ∷ 108 ∷ []) null) st b v
null_on R st b v null n h a = (n, tail_is _ _ _ _ h, a)
null_on R st b v x n h a = absurd (omega (arith, value_starts R (length st) x 110 b n h))

pub begins_null : (R : Rules) (st : List Level) → LeadsTo R value st 110 (literal (117 ∷ 108 ∷ 108 ∷ []) null) st
begins_null R st = record {
  on = λ b v h. null_on R st b v h.tree h.rest h.valued h.after;
  back = λ b v h. record { tree = null; rest = h.0; valued = ap (λ (t : List ℕ). 110 ∷ t) h.1; after = h.2 };
}

true_on : (R : Rules) (st : List Level) (b : List ℕ) (v x : Tree) (n : List ℕ) → Value R (length st) x (116 ∷ b) n → After R st x n v → Rest R (literal (114 ∷ 117 ∷ 101 ∷ []) (boolean true)) st b v
true_on R st b v (boolean true) n h a = (n, tail_is _ _ _ _ h, a)
true_on R st b v (boolean false) n h a = absurd (omega (arith, head_is 116 _ b _ h))
true_on R st b v x n h a = absurd (omega (arith, value_starts R (length st) x 116 b n h))

pub begins_true : (R : Rules) (st : List Level) → LeadsTo R value st 116 (literal (114 ∷ 117 ∷ 101 ∷ []) (boolean true)) st
begins_true R st = record {
  on = λ b v h. true_on R st b v h.tree h.rest h.valued h.after;
  back = λ b v h. record { tree = boolean true; rest = h.0; valued = ap (λ (t : List ℕ). 116 ∷ t) h.1; after = h.2 };
}

false_on : (R : Rules) (st : List Level) (b : List ℕ) (v x : Tree) (n : List ℕ) → Value R (length st) x (102 ∷ b) n → After R st x n v → Rest R (literal (97 ∷ 108 ∷ 115 ∷ 101 ∷ []) (boolean false)) st b v
false_on R st b v (boolean false) n h a = (n, tail_is _ _ _ _ h, a)
false_on R st b v (boolean true) n h a = absurd (omega (arith, head_is 102 _ b _ h))
false_on R st b v x n h a = absurd (omega (arith, value_starts R (length st) x 102 b n h))

pub begins_false : (R : Rules) (st : List Level) → LeadsTo R value st 102 (literal (97 ∷ 108 ∷ 115 ∷ 101 ∷ []) (boolean false)) st
begins_false R st = record {
  on = λ b v h. false_on R st b v h.tree h.rest h.valued h.after;
  back = λ b v h. record { tree = boolean false; rest = h.0; valued = ap (λ (t : List ℕ). 102 ∷ t) h.1; after = h.2 };
}

-- ---- strings and numbers

string_on : (R : Rules) (st : List Level) (b : List ℕ) (v x : Tree) (n : List ℕ) → Value R (length st) x (34 ∷ b) n → After R st x n v → Rest R (string_in as_value []) st b v
string_on R st b v (string s) n h a = record {
  characters = h.2.characters;
  rest = n;
  spelled = subst (λ (t : List ℕ). AreCharacters h.2.characters t n) (sym (tail_is _ _ _ _ h.1)) h.2.spelled;
  closed = subst (λ (t : List ℕ). After R st (string t) n v) h.2.text a;
}
string_on R st b v x n h a = absurd (omega (arith, value_starts R (length st) x 34 b n h))

pub begins_string : (R : Rules) (st : List Level) → LeadsTo R value st 34 (string_in as_value []) st
begins_string R st = record {
  on = λ b v h. string_on R st b v h.tree h.rest h.valued h.after;
  back = λ b v h. record { tree = string (encode_utf8_all h.characters); rest = h.rest; valued = (b, refl, record { characters = h.characters; spelled = h.spelled; text = refl }); after = h.closed };
}

pub no_other : (R : Rules) (d : ℕ) (x : Tree) (c : ℕ) (b n : List ℕ) → (c ≡ 45) ⊎ ((48 ≤ c) × (c ≤ 57)) → Value R d x (c ∷ b) n → (text : List ℕ) × (x ≡ number text) × IsNumberText text × (c ∷ b ≡ text ++ n)
no_other R d (number text) c b n s h = (text, refl, h.0, h.1)
no_other R d null c b n s h = absurd (omega (arith, s, value_starts R d null c b n h))
no_other R d (boolean y) c b n s h = absurd (omega (arith, s, value_starts R d (boolean y) c b n h))
no_other R d (string t) c b n s h = absurd (omega (arith, s, value_starts R d (string t) c b n h))
no_other R d (array xs) c b n s h = absurd (omega (arith, s, value_starts R d (array xs) c b n h))
no_other R d (object ms) c b n s h = absurd (omega (arith, s, value_starts R d (object ms) c b n h))

pub begins_number : (R : Rules) (st : List Level) (c : ℕ) (p : NumberState) → LeavesNumber IsNumberText c p → LeadsTo R value st c (number_in (c ∷ []) p) st
begins_number R st c p m = record { on = λ b v h. on b v h; back = λ b v h. back b v h }
  where
    space_free : is_space c ≡ false
    space_free = let o = m.byte.no_space in no_space c o.0 o.1 o.2 o.3

    start : (c ≡ 45) ⊎ ((48 ≤ c) × (c ≤ 57))
    start = let l = number_state_live p in number_head c l.0 (m.back l.0 l.1)

    first : (text b n : List ℕ) (v : Tree) → IsNumberText text → c ∷ b ≡ text ++ n → After R st (number text) n v → Rest R (number_in (c ∷ []) p) st b v
    first [] b n v h e a = absurd (number_nil h)
    first (x ∷ s) b n v h e a =
        let is = head_is _ _ _ _ e in
        record { digits = s; rest = n; left = m.on s (subst (λ (k : ℕ). IsNumberText (k ∷ s)) (sym is) h); parts = tail_is _ _ _ _ e; following = subst (λ (k : ℕ). After R st (number (k ∷ s)) n v) (sym is) a }

    on : (b : List ℕ) (v : Tree) → Rest R value st (c ∷ b) v → Rest R (number_in (c ∷ []) p) st b v
    on b v h =
        let g = no_other R (length st) h.tree c b h.rest start (rw space_free at h.valued) in
        first g.0 b h.rest v g.2 g.3 (subst (λ (x : Tree). After R st x h.rest v) g.1 h.after)

    back : (b : List ℕ) (v : Tree) → Rest R (number_in (c ∷ []) p) st b v → Rest R value st (c ∷ b) v
    back b v h = record { tree = number (c ∷ h.digits); rest = h.rest; valued = rw space_free (m.back h.digits h.left, ap (λ (t : List ℕ). c ∷ t) h.parts); after = h.following }

-- ---- lists

list_on : (R : Rules) (st : List Level) (b : List ℕ) (v x : Tree) (n : List ℕ) → Value R (length st) x (91 ∷ b) n → After R st x n v → Rest R first_element st b v
list_on R st b v (array xs) n h a = (xs, n, subst (λ (t : List ℕ). First R (suc (length st)) xs t n) (sym (tail_is _ _ _ _ h.1.1)) h.1.2, a)
list_on R st b v x n h a = absurd (omega (arith, value_starts R (length st) x 91 b n h))

pub opens_list : (R : Rules) (st : List Level) → length st < R.limit → LeadsTo R value st 91 first_element st
opens_list R st lt = record {
  on = λ b v h. list_on R st b v h.tree h.rest h.valued h.after;
  back = λ b v h. record { tree = array h.0; rest = h.1; valued = (lt, (b, refl, h.2)); after = h.3 };
}

deep_list : (R : Rules) (d : ℕ) (x : Tree) (b n : List ℕ) → R.limit ≤ d → Value R d x (91 ∷ b) n → ⊥
deep_list R d (array xs) b n le h = omega (arith, h.0)
deep_list R d x b n le h = omega (arith, value_starts R d x 91 b n h)

pub too_deep_list : (R : Rules) (st : List Level) → R.limit ≤ length st → IsDead R value st 91
too_deep_list R st le b v h = deep_list R (length st) h.tree b h.rest le h.valued

comma_on : (R : Rules) (done : List Tree) (x : Tree) (st : List Level) (b : List ℕ) (v : Tree) (xs : Elements) (n : List ℕ) → More R (suc (length st)) xs (44 ∷ b) n → After R st (array (elements_onto done (element x xs))) n v → Rest R value (in_list (done ++ x ∷ []) ∷ st) b v
comma_on R done x st b v no_elements n h a = absurd (omega (arith, head_is _ _ _ _ h))
comma_on R done x st b v (element y ys) n h a = record {
  tree = y;
  rest = h.1;
  valued = subst (λ (t : List ℕ). Value R (suc (length st)) y (skip t) h.1) (sym (tail_is _ _ _ _ h.2)) h.3;
  after = (ys, n, h.4, rw (elements_onto_append done x (element y ys)) a);
}

pub next_element : (R : Rules) (done : List Tree) (x : Tree) (st : List Level) → LeadsTo R (after x) (in_list done ∷ st) 44 value (in_list (done ++ x ∷ []) ∷ st)
next_element R done x st = record {
  on = λ b v h. comma_on R done x st b v h.0 h.1 h.2 h.3;
  back = λ b v h. let a = h.after in (element h.tree a.0, a.1, (b, h.rest, refl, h.valued, a.2), rw (elements_onto_append done x (element h.tree a.0)) at a.3);
}

bracket_on : (R : Rules) (done : List Tree) (x : Tree) (st : List Level) (b : List ℕ) (v : Tree) (xs : Elements) (n : List ℕ) → More R (suc (length st)) xs (93 ∷ b) n → After R st (array (elements_onto done (element x xs))) n v → After R st (array (elements_onto (done ++ x ∷ []) no_elements)) b v
bracket_on R done x st b v no_elements n h a = rw (elements_onto_append done x no_elements) (subst (λ (t : List ℕ). After R st (array (elements_onto done (element x no_elements))) t v) (sym (tail_is _ _ _ _ h)) a)
bracket_on R done x st b v (element y ys) n h a = absurd (omega (arith, head_is _ _ _ _ h.2))

pub closes_list : (R : Rules) (done : List Tree) (x : Tree) (st : List Level) → LeadsTo R (after x) (in_list done ∷ st) 93 (after (array (elements_onto (done ++ x ∷ []) no_elements))) st
closes_list R done x st = record { on = λ b v h. bracket_on R done x st b v h.0 h.1 h.2 h.3; back = λ b v h. (no_elements, b, refl, rw (elements_onto_append done x no_elements) at h) }

pub no_bracket : (R : Rules) (d : ℕ) (x : Tree) (b r : List ℕ) → Value R d x (93 ∷ b) r → ⊥
no_bracket R d null b r h = omega (arith, value_starts R d null 93 b r h)
no_bracket R d x b r h = omega (arith, value_starts R d x 93 b r h)

first_off : (R : Rules) (st : List Level) (b : List ℕ) (v : Tree) (xs : Elements) (n : List ℕ) → First R (suc (length st)) xs (93 ∷ b) n → After R st (array xs) n v → After R st (array no_elements) b v
first_off R st b v no_elements n h a = subst (λ (t : List ℕ). After R st (array no_elements) t v) (sym (tail_is _ _ _ _ h)) a
first_off R st b v (element x ys) n h a = absurd (no_bracket R (suc (length st)) x b h.0 h.1)

pub closes_empty : (R : Rules) (st : List Level) → LeadsTo R first_element st 93 (after (array no_elements)) st
closes_empty R st = record { on = λ b v h. first_off R st b v h.0 h.1 h.2 h.3; back = λ b v h. (no_elements, b, refl, h) }

-- where the list isn't closed at once, its first element comes
pub first_on : (R : Rules) (st : List Level) (c : ℕ) → is_space c ≡ false → c ≢ 93 → (b : List ℕ) (v : Tree) → Rest R first_element st (c ∷ b) v → Rest R value (in_list [] ∷ st) (c ∷ b) v
first_on R st c solid ne b v h = on h.0 h.2 h.3
  where
    on : (xs : Elements) → First R (suc (length st)) xs (c ∷ b) h.1 → After R st (array xs) h.1 v → Rest R value (in_list [] ∷ st) (c ∷ b) v
    on no_elements f a = absurd (ne (head_is _ _ _ _ (rw solid at f)))
    on (element x xs) f a = record { tree = x; rest = f.0; valued = f.1; after = (xs, h.1, f.2, a) }

pub first_back : (R : Rules) (st : List Level) (c : ℕ) (b : List ℕ) (v : Tree) → Rest R value (in_list [] ∷ st) (c ∷ b) v → Rest R first_element st (c ∷ b) v
first_back R st c b v h = let a = h.after in (element h.tree a.0, a.1, (h.rest, h.valued, a.2), a.3)

pub space_first_element : (R : Rules) (st : List Level) (c : ℕ) → is_space c ≡ true → LeadsTo R first_element st c first_element st
space_first_element R st c e = record { on = λ b v h. (h.0, h.1, on h.0 h.1 b h.2, h.3); back = λ b v h. (h.0, h.1, off h.0 h.1 b h.2, h.3) }
  where
    on : (xs : Elements) (n b : List ℕ) → First R (suc (length st)) xs (c ∷ b) n → First R (suc (length st)) xs b n
    on no_elements n b h = rw e at h
    on (element x xs) n b h = rw e at h

    off : (xs : Elements) (n b : List ℕ) → First R (suc (length st)) xs b n → First R (suc (length st)) xs (c ∷ b) n
    off no_elements n b h = rw e h
    off (element x xs) n b h = rw e h

pub space_more : (R : Rules) (d : ℕ) (c : ℕ) → is_space c ≡ true → (xs : Elements) (b n : List ℕ) → (More R d xs (c ∷ b) n → More R d xs b n) × (More R d xs b n → More R d xs (c ∷ b) n)
space_more R d c e no_elements b n = (λ h. rw e at h, λ h. rw e h)
space_more R d c e (element x xs) b n = (λ h. rw e at h, λ h. rw e h)

pub more_dead : (R : Rules) (d : ℕ) (c : ℕ) (b : List ℕ) (xs : Elements) (n : List ℕ) → is_space c ≡ false → c ≢ 44 → c ≢ 93 → More R d xs (c ∷ b) n → ⊥
more_dead R d c b no_elements n solid comma close h = close (head_is _ _ _ _ (rw solid at h))
more_dead R d c b (element x xs) n solid comma close h = comma (head_is _ _ _ _ (rw solid at h.2))

pub more_nil : (R : Rules) (d : ℕ) (xs : Elements) (n : List ℕ) → More R d xs [] n → ⊥
more_nil R d no_elements n h = not_nil 93 _ h
more_nil R d (element x xs) n h = not_nil 44 _ h.2

pub first_element_nil : (R : Rules) (d : ℕ) (xs : Elements) (n : List ℕ) → First R d xs [] n → ⊥
first_element_nil R d no_elements n h = not_nil 93 _ h
first_element_nil R d (element x xs) n h = value_nil R d x h.0 h.1

-- ---- no other byte

abbrev pub IsNoStart : ℕ → Type 0
IsNoStart c = (c ≢ 110) × (c ≢ 116) × (c ≢ 102) × (c ≢ 91) × (c ≢ 123) × (c ≢ 34)

pub value_dead : (R : Rules) (st : List Level) (c : ℕ) → is_space c ≡ false → IsNoStart c → EndsNumber IsNumberText c → IsDead R value st c
value_dead R st c space solid step_errors b v h = none h.tree h.rest (rw space at h.valued)
  where
    number_none : (text n : List ℕ) → IsNumberText text → c ∷ b ≡ text ++ n → ⊥
    number_none [] n h e = number_nil h
    number_none (x ∷ s) n h e = step_errors s (subst (λ (k : ℕ). IsNumberText (k ∷ s)) (sym (head_is _ _ _ _ e)) h)

    none : (x : Tree) (n : List ℕ) → Value R (length st) x (c ∷ b) n → ⊥
    none (number text) n h = number_none text n h.0 h.1
    none null n h = omega (arith, solid, value_starts R (length st) null c b n h)
    none (boolean y) n h = omega (arith, solid, value_starts R (length st) (boolean y) c b n h)
    none (string t) n h = omega (arith, solid, value_starts R (length st) (string t) c b n h)
    none (array xs) n h = omega (arith, solid, value_starts R (length st) (array xs) c b n h)
    none (object ms) n h = omega (arith, solid, value_starts R (length st) (object ms) c b n h)
