-- The steps of an object.
use Rattle.std.proofs.Common.{◌≡◌, ◌≢◌, ℕ, suc, ◌<◌, ◌≤◌, List, [], ◌∷◌, ◌++◌, length, true, false, refl, sym, ap, subst, arith}
use Rattle.std.specs.Str.{encode_utf8_all}
use Rattle.json_text.specs.Tree.{Tree, object, Members, no_members, member, names}
use Rattle.json_text.specs.ValueOf.{members_onto}
use Rattle.json_text.specs.MemberNames.{pair_names}
use Rattle.json_text.specs.Grammar.{Rules, is_space, skip, Value, FirstMember, MoreMembers, IsMember, Allows, AreDistinct}
use Rattle.json_text.specs.inner.ReaderStates.{Level, in_object, After, AtColon, IsStringRest, value, first_name, name, colon, after, string_in, as_name, Closed, Rest, LeadsTo, IsDead}
use Rattle.json_text.proofs.ListLemmas.{head_is, tail_is, not_nil}
use Rattle.json_text.proofs.StringLemmas.{closes_on, closes_back}
use Rattle.json_text.proofs.ValueLemmas.{value_starts}

pub members_onto_append : (done : List (List ℕ × Tree)) (k : List ℕ) (x : Tree) (ms : Members) → members_onto (done ++ (k, x) ∷ []) ms ≡ members_onto done (member k x ms)
members_onto_append [] k x ms = refl
members_onto_append (m ∷ done) k x ms = ap (member m.0 m.1) (members_onto_append done k x ms)

pub names_onto : (done : List (List ℕ × Tree)) (k : List ℕ) (x : Tree) (ns : List (List ℕ)) → pair_names (done ++ (k, x) ∷ []) ++ ns ≡ pair_names done ++ k ∷ ns
names_onto [] k x ns = refl
names_onto (m ∷ done) k x ns = ap (λ (l : List (List ℕ)). m.0 ∷ l) (names_onto done k x ns)

-- ---- the brace opens

brace_on : (R : Rules) (st : List Level) (b : List ℕ) (v x : Tree) (n : List ℕ) → Value R (length st) x (123 ∷ b) n → After R st x n v → Rest R first_name st b v
brace_on R st b v (object ms) n h a = (ms, n, subst (λ (t : List ℕ). FirstMember R (suc (length st)) ms t n) (sym (tail_is _ _ _ _ h.2.1)) h.2.2, h.1, a)
brace_on R st b v x n h a = absurd (omega (arith, value_starts R (length st) x 123 b n h))

pub opens_object : (R : Rules) (st : List Level) → length st < R.limit → LeadsTo R value st 123 first_name st
opens_object R st lt = record {
  on = λ b v h. brace_on R st b v h.tree h.rest h.valued h.after;
  back = λ b v h. record { tree = object h.0; rest = h.1; valued = (lt, h.3, (b, refl, h.2)); after = h.4 };
}

deep_object : (R : Rules) (d : ℕ) (x : Tree) (b n : List ℕ) → R.limit ≤ d → Value R d x (123 ∷ b) n → ⊥
deep_object R d (object ms) b n le h = omega (arith, h.0)
deep_object R d x b n le h = omega (arith, value_starts R d x 123 b n h)

pub too_deep_object : (R : Rules) (st : List Level) → R.limit ≤ length st → IsDead R value st 123
too_deep_object R st le b v h = deep_object R (length st) h.tree b h.rest le h.valued

-- ---- a name and its value

-- a name's characters, and then the colon and the value
with_name : (R : Rules) (st : List Level) (done : List (List ℕ × Tree)) (k b : List ℕ) (v x : Tree) (n : List ℕ) (m : IsMember (Value R (suc (length st)) x) k b n) → After R (in_object done k ∷ st) x n v → IsStringRest (λ k n. AtColon R st done k n v) [] m.inside
with_name R st done k b v x n m a = record {
  characters = m.named.characters;
  rest = m.following;
  spelled = m.named.spelled;
  closed = subst (λ (t : List ℕ). AtColon R st done t m.following v) m.named.text (record { value = m.value; tree = x; rest = n; colon = m.colon; valued = m.valued; after = a });
}

-- and back
of_name : (R : Rules) (st : List Level) (done : List (List ℕ × Tree)) (b m : List ℕ) (v : Tree) → skip b ≡ 34 ∷ m → (h : IsStringRest (λ k n. AtColon R st done k n v) [] m) → IsMember (Value R (suc (length st)) h.closed.tree) (encode_utf8_all h.characters) b h.closed.rest
of_name R st done b m v e h = record {
  inside = m;
  following = h.rest;
  value = h.closed.value;
  opens = e;
  named = record { characters = h.characters; spelled = h.spelled; text = refl };
  colon = h.closed.colon;
  valued = h.closed.valued;
}

pub at_inside : (R : Rules) (st : List Level) (done : List (List ℕ × Tree)) (v : Tree) (b c : List ℕ) → b ≡ c → IsStringRest (λ k n. AtColon R st done k n v) [] b → IsStringRest (λ k n. AtColon R st done k n v) [] c
at_inside R st done v b c e h = subst (λ (t : List ℕ). IsStringRest (λ k n. AtColon R st done k n v) [] t) e h

-- ---- the first name

first_on : (R : Rules) (st : List Level) (b : List ℕ) (v : Tree) (ms : Members) (n : List ℕ) → FirstMember R (suc (length st)) ms (34 ∷ b) n → Allows R (names ms) → After R st (object ms) n v → Rest R (string_in (as_name []) []) st b v
first_on R st b v no_members n h d a = absurd (omega (arith, head_is _ _ _ _ h))
first_on R st b v (member k x ms) n h d a =
    at_inside R st [] v h.1.inside b (sym (tail_is _ _ _ _ h.1.opens)) (with_name R st [] k (34 ∷ b) v x h.0 h.1 (ms, n, h.2, d, a))

pub first_quote : (R : Rules) (st : List Level) → LeadsTo R first_name st 34 (string_in (as_name []) []) st
first_quote R st = record {
  on = λ b v h. first_on R st b v h.0 h.1 h.2 h.3 h.4;
  back = λ b v h. let a = h.closed.after in (member (encode_utf8_all h.characters) h.closed.tree a.0, a.1, (h.closed.rest, of_name R st [] (34 ∷ b) b v refl h, a.2), a.3, a.4);
}

brace_off : (R : Rules) (st : List Level) (b : List ℕ) (v : Tree) (ms : Members) (n : List ℕ) → FirstMember R (suc (length st)) ms (125 ∷ b) n → After R st (object ms) n v → After R st (object no_members) b v
brace_off R st b v no_members n h a = subst (λ (t : List ℕ). After R st (object no_members) t v) (sym (tail_is _ _ _ _ h)) a
brace_off R st b v (member k x ms) n h a = absurd (omega (arith, head_is _ _ _ _ h.1.opens))

pub closes_empty : (R : Rules) (st : List Level) → LeadsTo R first_name st 125 (after (object no_members)) st
closes_empty R st = record { on = λ b v h. brace_off R st b v h.0 h.1 h.2 h.4; back = λ b v h. (no_members, b, refl, λ strict. tt, h) }

space_member : (V : List ℕ → List ℕ → Type 0) (k : List ℕ) (c : ℕ) (b r : List ℕ) → is_space c ≡ true → IsMember V k (c ∷ b) r → IsMember V k b r
space_member V k c b r e h = record { inside = h.inside; following = h.following; value = h.value; opens = rw e at h.opens; named = h.named; colon = h.colon; valued = h.valued }

member_space : (V : List ℕ → List ℕ → Type 0) (k : List ℕ) (c : ℕ) (b r : List ℕ) → is_space c ≡ true → IsMember V k b r → IsMember V k (c ∷ b) r
member_space V k c b r e h = record { inside = h.inside; following = h.following; value = h.value; opens = rw e h.opens; named = h.named; colon = h.colon; valued = h.valued }

pub space_first_name : (R : Rules) (st : List Level) (c : ℕ) → is_space c ≡ true → LeadsTo R first_name st c first_name st
space_first_name R st c e = record { on = λ b v h. (h.0, h.1, on h.0 h.1 b h.2, h.3, h.4); back = λ b v h. (h.0, h.1, off h.0 h.1 b h.2, h.3, h.4) }
  where
    on : (ms : Members) (n b : List ℕ) → FirstMember R (suc (length st)) ms (c ∷ b) n → FirstMember R (suc (length st)) ms b n
    on no_members n b h = rw e at h
    on (member k x ms) n b h = (h.0, space_member (Value R (suc (length st)) x) k c b h.0 e h.1, h.2)

    off : (ms : Members) (n b : List ℕ) → FirstMember R (suc (length st)) ms b n → FirstMember R (suc (length st)) ms (c ∷ b) n
    off no_members n b h = rw e h
    off (member k x ms) n b h = (h.0, member_space (Value R (suc (length st)) x) k c b h.0 e h.1, h.2)

pub first_name_dead : (R : Rules) (st : List Level) (c : ℕ) → is_space c ≡ false → c ≢ 34 → c ≢ 125 → IsDead R first_name st c
first_name_dead R st c solid quote brace b v h = dead h.0 h.2
  where
    dead : (ms : Members) → FirstMember R (suc (length st)) ms (c ∷ b) h.1 → ⊥
    dead no_members f = brace (head_is _ _ _ _ (rw solid at f))
    dead (member k x ms) f = quote (head_is _ _ _ _ (rw solid at f.1.opens))

pub first_name_nil : (R : Rules) (d : ℕ) (ms : Members) (n : List ℕ) → FirstMember R d ms [] n → ⊥
first_name_nil R d no_members n h = not_nil 125 _ h
first_name_nil R d (member k x ms) n h = not_nil 34 _ h.1.opens

-- ---- after a member

comma_on : (R : Rules) (done : List (List ℕ × Tree)) (k : List ℕ) (x : Tree) (st : List Level) (b : List ℕ) (v : Tree) (ms : Members) (n : List ℕ) → MoreMembers R (suc (length st)) ms (44 ∷ b) n → Allows R (pair_names done ++ k ∷ names ms)
    → After R st (object (members_onto done (member k x ms))) n v → Rest R (name (done ++ (k, x) ∷ [])) st b v
comma_on R done k x st b v no_members n h d a = absurd (omega (arith, head_is _ _ _ _ h))
comma_on R done k x st b v (member l y ms) n h d a = (
  h.3.inside,
  subst (λ (t : List ℕ). skip t ≡ 34 ∷ h.3.inside) (sym (tail_is _ _ _ _ h.2)) h.3.opens,
  with_name R st (done ++ (k, x) ∷ []) l h.0 v y h.1 h.3
      (ms, n, h.4, subst (λ (t : List (List ℕ)). Allows R t) (sym (names_onto done k x (l ∷ names ms))) d, subst (λ (t : Members). After R st (object t) n v) (sym (members_onto_append done k x (member l y ms))) a),
)

comma_back : (R : Rules) (done : List (List ℕ × Tree)) (k : List ℕ) (x : Tree) (st : List Level) (b : List ℕ) (v : Tree) → Rest R (name (done ++ (k, x) ∷ [])) st b v → Rest R (after x) (in_object done k ∷ st) (44 ∷ b) v
comma_back R done k x st b v h =
    let t = h.2 in let a = t.closed.after in let l : List ℕ = encode_utf8_all t.characters in (
      member l t.closed.tree a.0,
      a.1,
      (b, t.closed.rest, refl, of_name R st (done ++ (k, x) ∷ []) b h.0 v h.1 t, a.2),
      subst (λ (t : List (List ℕ)). Allows R t) (names_onto done k x (l ∷ names a.0)) a.3,
      subst (λ (s : Members). After R st (object s) a.1 v) (members_onto_append done k x (member l t.closed.tree a.0)) a.4,
    )

pub next_name : (R : Rules) (done : List (List ℕ × Tree)) (k : List ℕ) (x : Tree) (st : List Level) → LeadsTo R (after x) (in_object done k ∷ st) 44 (name (done ++ (k, x) ∷ [])) st
next_name R done k x st = record { on = λ b v h. comma_on R done k x st b v h.0 h.1 h.2 h.3 h.4; back = comma_back R done k x st }

end_on : (R : Rules) (done : List (List ℕ × Tree)) (k : List ℕ) (x : Tree) (st : List Level) (b : List ℕ) (v : Tree) (ms : Members) (n : List ℕ) → MoreMembers R (suc (length st)) ms (125 ∷ b) n
    → After R st (object (members_onto done (member k x ms))) n v → After R st (object (members_onto (done ++ (k, x) ∷ []) no_members)) b v
end_on R done k x st b v no_members n h a =
    subst (λ (t : Members). After R st (object t) b v) (sym (members_onto_append done k x no_members)) (subst (λ (t : List ℕ). After R st (object (members_onto done (member k x no_members))) t v) (sym (tail_is _ _ _ _ h)) a)
end_on R done k x st b v (member l y ms) n h a = absurd (omega (arith, head_is _ _ _ _ h.2))

-- the names differ, so the object may be closed
pub closes_object : (R : Rules) (done : List (List ℕ × Tree)) (k : List ℕ) (x : Tree) (st : List Level) → AreDistinct (pair_names done ++ k ∷ []) → LeadsTo R (after x) (in_object done k ∷ st) 125 (after (object (members_onto (done ++ (k, x) ∷ []) no_members))) st
closes_object R done k x st d = record {
  on = λ b v h. end_on R done k x st b v h.0 h.1 h.2 h.4;
  back = λ b v h. (no_members, b, refl, λ strict. d, subst (λ (t : Members). After R st (object t) b v) (members_onto_append done k x no_members) h);
}

pub space_more_members : (R : Rules) (d : ℕ) (c : ℕ) → is_space c ≡ true → (ms : Members) (b n : List ℕ) → (MoreMembers R d ms (c ∷ b) n → MoreMembers R d ms b n) × (MoreMembers R d ms b n → MoreMembers R d ms (c ∷ b) n)
space_more_members R d c e no_members b n = (λ h. rw e at h, λ h. rw e h)
space_more_members R d c e (member k x ms) b n = (λ h. (h.0, h.1, rw e at h.2, h.3, h.4), λ h. (h.0, h.1, rw e h.2, h.3, h.4))

pub more_members_dead : (R : Rules) (d : ℕ) (c : ℕ) (b : List ℕ) (ms : Members) (n : List ℕ) → is_space c ≡ false → c ≢ 44 → c ≢ 125 → MoreMembers R d ms (c ∷ b) n → ⊥
more_members_dead R d c b no_members n solid comma brace h = brace (head_is _ _ _ _ (rw solid at h))
more_members_dead R d c b (member k x ms) n solid comma brace h = comma (head_is _ _ _ _ (rw solid at h.2))

pub more_members_nil : (R : Rules) (d : ℕ) (ms : Members) (n : List ℕ) → MoreMembers R d ms [] n → ⊥
more_members_nil R d no_members n h = not_nil 125 _ h
more_members_nil R d (member k x ms) n h = not_nil 44 _ h.2

-- ---- after a name

pub name_closes : (R : Rules) (done : List (List ℕ × Tree)) (text : List ℕ) (st : List Level) → LeadsTo R (string_in (as_name done) text) st 34 (colon done text) st
name_closes R done text st = record { on = λ b v h. closes_on (λ s n. Closed R st (as_name done) s n v) text b h; back = λ b v h. closes_back (λ s n. Closed R st (as_name done) s n v) text b h }
