-- The canonical spelling of a spellable tree is a text of it.
use Rattle.std.proofs.Common.{◌≡◌, ◌≢◌, ℕ, suc, ◌+◌, ◌/◌, ◌%◌, ◌<◌, ◌≤◌, List, [], ◌∷◌, ◌++◌, Bool, true, false, Some, refl, sym, ap, subst, ◌∙◌, arith, append_assoc, inl, inr, ◌⊎◌}
use Rattle.std.specs.Prelude.{flat_map}
use Rattle.std.specs.Int.{is_in_range}
use Rattle.std.specs.Char.{encode_utf8, digit_char, InScalarRange, IsScalar}
use Rattle.std.specs.Str.{encode_utf8_all, all_scalars, IsUtf8}
use Rattle.std.specs.Prelude.{◌&&◌}
use lib.Utf8.{scalar_cases}
use Rattle.std.proofs.lemmas.List.{append-nil}
use Rattle.std.proofs.lemmas.List.Concat.{flat_map-append}
use Rattle.std.proofs.lemmas.Bool.{lt-ltb, le-ltb, cases_lt}
use Rattle.std.proofs.lemmas.Bool.Decides.{nat_tests}
use Rattle.json_text.specs.Tree.{Tree, null, boolean, number, string, array, object, Elements, no_elements, element, Members, no_members, member}
use Rattle.json_text.specs.Number.{IsNumberText}
use Rattle.json_text.specs.Character.{IsCharacter, unescaped, short, unit, AreCharacters, hex_value}
use Rattle.json_text.specs.Grammar.{skip, Value, First, More, FirstMember, MoreMembers, IsMember, IsQuoted, Spells, profile}
use Rattle.json_text.specs.Spellable.{IsSpellableAt, AreSpellable, HaveSpellable, IsSpellable}
use Rattle.json_text.specs.Canonical.{canonical_byte, canonical_string, canonical, canonical_first, canonical_more, canonical_first_member, canonical_more_members}
use Rattle.json_text.proofs.ScanLemmas.{no_space, neq_test}
use Rattle.json_text.proofs.Utf8Lemmas.{bytes_of, one, two, three, four}
use Rattle.json_text.proofs.CharacterLemmas.{starts_scalar}
use Rattle.json_text.proofs.NumberLemmas.{number_head, number_nil}

-- ---- one byte

plain : (x : ℕ) → 32 ≤ x → x ≢ 34 → x ≢ 92 → canonical_byte x ≡ x ∷ []
plain x le q b = rw (neq_test x 34 q, neq_test x 92 b, le-ltb x 32 le) refl

after_backslash : (x : ℕ) → (x ≡ 34) ⊎ (x ≡ 92) → canonical_byte x ≡ 92 ∷ x ∷ []
after_backslash x (inl e) = subst (λ (k : ℕ). canonical_byte k ≡ 92 ∷ k ∷ []) (sym e) refl
after_backslash x (inr e) = subst (λ (k : ℕ). canonical_byte k ≡ 92 ∷ k ∷ []) (sym e) refl

control : (x : ℕ) → x < 32 → canonical_byte x ≡ 92 ∷ 117 ∷ 48 ∷ 48 ∷ digit_char (x / 16) ∷ digit_char (x % 16) ∷ []
control x lt = rw (neq_test x 34 (omega arith), neq_test x 92 (omega arith), lt-ltb x 32 lt) refl

in_yes : (lo hi x : ℕ) → lo ≤ x → x ≤ hi → is_in_range lo hi x ≡ true
in_yes lo hi x p q = grind (arith, nat_tests)

in_no : (lo hi x : ℕ) → hi < x → is_in_range lo hi x ≡ false
in_no lo hi x p = grind (arith, nat_tests)

hex_of_digit : (d : ℕ) → d < 16 → hex_value (digit_char d) ≡ Some d
hex_of_digit d lt =
    elim (cases_lt d 10) [
      | inl l ↦ rw (lt-ltb d 10 l, in_yes 48 57 (48 + d) (omega arith) (omega arith)) (ap (λ (k : ℕ). Some k) (omega arith))
      | inr g ↦ rw (le-ltb d 10 g, in_no 48 57 (87 + d) (omega arith), in_yes 97 102 (87 + d) (omega arith) (omega arith)) (ap (λ (k : ℕ). Some k) (omega arith))
    ]

-- ---- one character

itself : (c : ℕ) → InScalarRange c → 32 ≤ c → c ≢ 34 → c ≢ 92 → (w : List ℕ) → w ≡ encode_utf8 c → IsCharacter c w
itself c s p q b w e = unescaped (record { scalar = s; no_control = p; no_quote = q; no_backslash = b; bytes = e })

equal_or_not : (x k : ℕ) → (x ≡ k) ⊎ (x ≢ k)
equal_or_not x k =
    elim (cases_lt x k) [
      | inl l ↦ inr (λ e. omega arith)
      | inr g ↦ elim (cases_lt k x) [ inl l ↦ inr (λ e. omega arith) | inr h ↦ inl (omega arith) ]
    ]

control_written : (c : ℕ) → c < 32 → IsCharacter c (canonical_byte c)
control_written c lt =
    rw (control c lt)
    (unit (inl (omega arith)) (record {
      digits = 48 ∷ 48 ∷ digit_char (c / 16) ∷ digit_char (c % 16) ∷ [];
      four = refl;
      value = (0, refl, (0, refl, (c / 16, hex_of_digit (c / 16) (omega arith), (c % 16, hex_of_digit (c % 16) (omega arith), omega arith))));
      parts = refl;
    }))

quote_written : (c : ℕ) → c ≡ 34 → IsCharacter c (canonical_byte c)
quote_written c e = subst (λ (k : ℕ). IsCharacter k (canonical_byte k)) (sym e) (short 34 refl refl)

backslash_written : (c : ℕ) → c ≡ 92 → IsCharacter c (canonical_byte c)
backslash_written c e = subst (λ (k : ℕ). IsCharacter k (canonical_byte k)) (sym e) (short 92 refl refl)

plain_written : (c : ℕ) → c < 128 → 32 ≤ c → c ≢ 34 → c ≢ 92 → encode_utf8 c ≡ c ∷ [] → IsCharacter c (canonical_byte c)
plain_written c lt p q b e = rw (plain c p q b) (itself c (inl (omega arith)) p q b (c ∷ []) (sym e))

ascii_written : (c : ℕ) → c < 128 → encode_utf8 c ≡ c ∷ [] → IsCharacter c (canonical_byte c)
ascii_written c lt e =
    elim (cases_lt c 32) [
      | inl l ↦ control_written c l
      | inr p ↦ elim (equal_or_not c 34) [
        | inl q ↦ quote_written c q
        | inr q ↦ elim (equal_or_not c 92) [ inl b ↦ backslash_written c b | inr b ↦ plain_written c lt p q b e ]
      ]
    ]

high : (x : ℕ) → 128 ≤ x → canonical_byte x ≡ x ∷ []
high x le = plain x (omega arith) (omega arith) (omega arith)

two_bytes : (x y : ℕ) → 128 ≤ x → 128 ≤ y → flat_map canonical_byte (x ∷ y ∷ []) ≡ x ∷ y ∷ []
two_bytes x y p q = rw (high x p, high y q) refl

three_bytes : (x y z : ℕ) → 128 ≤ x → 128 ≤ y → 128 ≤ z → flat_map canonical_byte (x ∷ y ∷ z ∷ []) ≡ x ∷ y ∷ z ∷ []
three_bytes x y z p q r = rw (high x p) (ap (λ (l : List ℕ). x ∷ l) (two_bytes y z q r))

four_bytes : (x y z u : ℕ) → 128 ≤ x → 128 ≤ y → 128 ≤ z → 128 ≤ u → flat_map canonical_byte (x ∷ y ∷ z ∷ u ∷ []) ≡ x ∷ y ∷ z ∷ u ∷ []
four_bytes x y z u p q r s = rw (high x p) (ap (λ (l : List ℕ). x ∷ l) (three_bytes y z u q r s))

-- the bytes are written as they are
by_bytes : (c : ℕ) (w : List ℕ) → InScalarRange c → 128 ≤ c → encode_utf8 c ≡ w → flat_map canonical_byte w ≡ w → IsCharacter c (flat_map canonical_byte (encode_utf8 c))
by_bytes c w s le e f = itself c s (omega arith) (omega arith) (omega arith) (flat_map canonical_byte (encode_utf8 c)) (ap (flat_map canonical_byte) e ∙ f ∙ sym e)

character_written : (c : ℕ) → InScalarRange c → IsCharacter c (flat_map canonical_byte (encode_utf8 c))
character_written c s =
    elim (bytes_of c) [
      | one lt e ↦ subst (λ (w : List ℕ). IsCharacter c w) (sym (ap (flat_map canonical_byte) e ∙ append-nil (canonical_byte c))) (ascii_written c lt e)
      | two le lt e ↦ by_bytes c _ s le e (two_bytes _ _ (omega arith) (omega arith))
      | three le lt e ↦ by_bytes c _ s (omega arith) e (three_bytes _ _ _ (omega arith) (omega arith) (omega arith))
      | four le e ↦ by_bytes c _ s (omega arith) e (four_bytes _ _ _ _ (omega arith) (omega arith) (omega arith) (omega arith))
    ]

-- ---- characters and UTF-8

in_scalar : (c : ℕ) → InScalarRange c → IsScalar c
in_scalar c (inl lt) = grind (arith, nat_tests)
in_scalar c (inr le) = grind (arith, nat_tests)

of_scalar : (c : ℕ) → IsScalar c → InScalarRange c
of_scalar c e =
    elim (scalar_cases c e) [ inl lt ↦ inl lt | inr r ↦ inr (r.0, omega arith) ]

both : (x y : Bool) → x && y ≡ true → (x ≡ true) × (y ≡ true)
both true y e = (refl, e)
both false y e = absurd cc

-- ---- strings

characters_written : (cs : List ℕ) → all_scalars cs ≡ true → (n : List ℕ) → AreCharacters cs (flat_map canonical_byte (encode_utf8_all cs) ++ 34 ∷ n) n
characters_written [] e n = refl
characters_written (c ∷ cs) e n =
    let p = both _ (all_scalars cs) e in
    let first = flat_map canonical_byte (encode_utf8 c) in
    let rest = flat_map canonical_byte (encode_utf8_all cs) in (
      first,
      rest ++ 34 ∷ n,
      character_written c (of_scalar c p.0),
      ap (λ (l : List ℕ). l ++ 34 ∷ n) (flat_map-append canonical_byte (encode_utf8 c) (encode_utf8_all cs)) ∙ append_assoc first rest (34 ∷ n),
      characters_written cs p.1 n,
    )

pub text_written : (s : List ℕ) → IsUtf8 s → (n : List ℕ) → IsQuoted s (flat_map canonical_byte s ++ 34 ∷ n) n
text_written s h n = record {
  characters = h.0;
  spelled = subst (λ (t : List ℕ). AreCharacters h.0 (flat_map canonical_byte t ++ 34 ∷ n) n) h.1.1 (characters_written h.0 h.1.0 n);
  text = sym h.1.1;
}

-- a string, and what comes after it
closed_text : (s n : List ℕ) → canonical_string s ++ n ≡ 34 ∷ (flat_map canonical_byte s ++ 34 ∷ n)
closed_text s n = ap (λ (l : List ℕ). 34 ∷ l) (append_assoc (flat_map canonical_byte s) (34 ∷ []) n)

-- ---- trees

number_solid : (text n : List ℕ) → IsNumberText text → skip (text ++ n) ≡ text ++ n
number_solid [] n h = absurd (number_nil h)
number_solid (c ∷ s) n h =
    let d = number_head c s h in
    let e = no_space c (omega (arith, d)) (omega (arith, d)) (omega (arith, d)) (omega (arith, d)) in rw e refl

-- what is written of a value begins with no white space
solid : (d : ℕ) (x : Tree) (n : List ℕ) → IsSpellableAt d x → skip (canonical x ++ n) ≡ canonical x ++ n
solid d null n h = refl
solid d (boolean true) n h = refl
solid d (boolean false) n h = refl
solid d (number text) n h = number_solid text n h
solid d (string s) n h = refl
solid d (array xs) n h = refl
solid d (object ms) n h = refl

-- a written value after no white space
at_value : (d : ℕ) (x : Tree) (n m : List ℕ) → IsSpellableAt d x → m ≡ canonical x ++ n → Value profile d x (canonical x ++ n) n → Value profile d x (skip m) n
at_value d x n m h e v = subst (λ (l : List ℕ). Value profile d x l n) (sym (ap skip e ∙ solid d x n h)) v

member_written : (d : ℕ) (k : List ℕ) (x : Tree) (n : List ℕ) → IsUtf8 k → IsSpellableAt d x → Value profile d x (canonical x ++ n) n → IsMember (Value profile d x) k (canonical_string k ++ (58 ∷ (canonical x ++ n))) n
member_written d k x n u h v = record {
  inside = flat_map canonical_byte k ++ 34 ∷ 58 ∷ (canonical x ++ n);
  following = 58 ∷ (canonical x ++ n);
  value = canonical x ++ n;
  opens = ap skip (closed_text k (58 ∷ (canonical x ++ n)));
  named = text_written k u (58 ∷ (canonical x ++ n));
  colon = refl;
  valued = at_value d x n (canonical x ++ n) h refl v;
}

-- a member's parts, regrouped
grouped : (k x rest n : List ℕ) → (k ++ (58 ∷ (x ++ rest))) ++ n ≡ k ++ (58 ∷ (x ++ (rest ++ n)))
grouped k x rest n = append_assoc k (58 ∷ (x ++ rest)) n ∙ ap (λ (l : List ℕ). k ++ (58 ∷ l)) (append_assoc x rest n)

mutual
  value_written : (d : ℕ) (x : Tree) → IsSpellableAt d x → (n : List ℕ) → Value profile d x (canonical x ++ n) n
  value_written d null h n = refl
  value_written d (boolean true) h n = refl
  value_written d (boolean false) h n = refl
  value_written d (number text) h n = (h, refl)
  value_written d (string s) h n = (flat_map canonical_byte s ++ 34 ∷ n, closed_text s n, text_written s h n)
  value_written d (array xs) h n = (h.0, (canonical_first xs ++ n, refl, first_written (suc d) xs h.1 n))
  value_written d (object ms) h n = (h.0, (λ e. h.1), (canonical_first_member ms ++ n, refl, first_member_written (suc d) ms h.2 n))

  first_written : (d : ℕ) (xs : Elements) → AreSpellable d xs → (n : List ℕ) → First profile d xs (canonical_first xs ++ n) n
  first_written d no_elements h n = refl
  first_written d (element x rest) h n =
      let m = canonical_more rest ++ n in
      (m, at_value d x m ((canonical x ++ canonical_more rest) ++ n) h.0 (append_assoc (canonical x) (canonical_more rest) n) (value_written d x h.0 m), more_written d rest h.1 n)

  more_written : (d : ℕ) (xs : Elements) → AreSpellable d xs → (n : List ℕ) → More profile d xs (canonical_more xs ++ n) n
  more_written d no_elements h n = refl
  more_written d (element x rest) h n =
      let m = canonical_more rest ++ n in (
        (canonical x ++ canonical_more rest) ++ n,
        m,
        refl,
        at_value d x m ((canonical x ++ canonical_more rest) ++ n) h.0 (append_assoc (canonical x) (canonical_more rest) n) (value_written d x h.0 m),
        more_written d rest h.1 n,
      )

  first_member_written : (d : ℕ) (ms : Members) → HaveSpellable d ms → (n : List ℕ) → FirstMember profile d ms (canonical_first_member ms ++ n) n
  first_member_written d no_members h n = refl
  first_member_written d (member k x rest) h n =
      let m = canonical_more_members rest ++ n in (
        m,
        subst (λ (l : List ℕ). IsMember (Value profile d x) k l m) (sym (grouped (canonical_string k) (canonical x) (canonical_more_members rest) n))
            (member_written d k x m h.0 h.1 (value_written d x h.1 m)),
        more_members_written d rest h.2 n,
      )

  more_members_written : (d : ℕ) (ms : Members) → HaveSpellable d ms → (n : List ℕ) → MoreMembers profile d ms (canonical_more_members ms ++ n) n
  more_members_written d no_members h n = refl
  more_members_written d (member k x rest) h n =
      let m = canonical_more_members rest ++ n in (
        (canonical_string k ++ (58 ∷ (canonical x ++ canonical_more_members rest))) ++ n,
        m,
        refl,
        subst (λ (l : List ℕ). IsMember (Value profile d x) k l m) (sym (grouped (canonical_string k) (canonical x) (canonical_more_members rest) n))
            (member_written d k x m h.0 h.1 (value_written d x h.1 m)),
        more_members_written d rest h.2 n,
      )

pub spellable_written : (v : Tree) → IsSpellable v → Spells v (canonical v)
spellable_written v h =
    let e = append-nil (canonical v) in
    ([], subst (λ (l : List ℕ). Value profile 0 v l []) (e ∙ sym (ap skip (sym e) ∙ solid 0 v [] h ∙ e)) (value_written 0 v h []), refl)

-- ---- what has a text is spellable

spelled_scalars : (cs b r : List ℕ) → AreCharacters cs b r → all_scalars cs ≡ true
spelled_scalars [] b r h = refl
spelled_scalars (c ∷ cs) b r h = rw (in_scalar c (starts_scalar h.0 c h.2)) (spelled_scalars cs h.1 r h.4)

quoted_utf8 : (s b r : List ℕ) → IsQuoted s b r → IsUtf8 s
quoted_utf8 s b r h = (h.characters, (spelled_scalars h.characters b r h.spelled, sym h.text))

mutual
  value_spellable : (d : ℕ) (x : Tree) (b r : List ℕ) → Value profile d x b r → IsSpellableAt d x
  value_spellable d null b r h = tt
  value_spellable d (boolean y) b r h = tt
  value_spellable d (number text) b r h = h.0
  value_spellable d (string s) b r h = quoted_utf8 s h.0 r h.2
  value_spellable d (array xs) b r h = (h.0, first_spellable (suc d) xs h.1.0 r h.1.2)
  value_spellable d (object ms) b r h = (h.0, h.1 refl, first_member_spellable (suc d) ms h.2.0 r h.2.2)

  first_spellable : (d : ℕ) (xs : Elements) (b r : List ℕ) → First profile d xs b r → AreSpellable d xs
  first_spellable d no_elements b r h = tt
  first_spellable d (element x rest) b r h = (value_spellable d x (skip b) h.0 h.1, more_spellable d rest h.0 r h.2)

  more_spellable : (d : ℕ) (xs : Elements) (b r : List ℕ) → More profile d xs b r → AreSpellable d xs
  more_spellable d no_elements b r h = tt
  more_spellable d (element x rest) b r h = (value_spellable d x (skip h.0) h.1 h.3, more_spellable d rest h.1 r h.4)

  first_member_spellable : (d : ℕ) (ms : Members) (b r : List ℕ) → FirstMember profile d ms b r → HaveSpellable d ms
  first_member_spellable d no_members b r h = tt
  first_member_spellable d (member k x rest) b r h =
      let m = h.1 in (quoted_utf8 k m.inside m.following m.named, value_spellable d x (skip m.value) h.0 m.valued, more_members_spellable d rest h.0 r h.2)

  more_members_spellable : (d : ℕ) (ms : Members) (b r : List ℕ) → MoreMembers profile d ms b r → HaveSpellable d ms
  more_members_spellable d no_members b r h = tt
  more_members_spellable d (member k x rest) b r h =
      let m = h.3 in (quoted_utf8 k m.inside m.following m.named, value_spellable d x (skip m.value) h.1 m.valued, more_members_spellable d rest h.1 r h.4)

pub spelled_spellable : (v : Tree) (b : List ℕ) → Spells v b → IsSpellable v
spelled_spellable v b h = value_spellable 0 v (skip b) h.0 h.1

pub spells_canonical : (v : Tree) (b : List ℕ) → Spells v b → Spells v (canonical v)
spells_canonical v b h = spellable_written v (spelled_spellable v b h)
