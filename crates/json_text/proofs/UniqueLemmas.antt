-- No text spells two trees.
use Rattle.std.proofs.Common.{◌≡◌, ℕ, suc, ◌+◌, ◌*◌, List, [], ◌∷◌, ◌++◌, length, Bool, true, false, Some, refl, sym, ap, subst, ◌∙◌, arith, append_assoc, inl, inr, ◌⊎◌}
use Rattle.std.specs.Char.{encode_utf8, InScalarRange}
use Rattle.std.specs.Str.{encode_utf8_all}
use Rattle.std.proofs.lemmas.Str.{encode_same}
use Rattle.json_text.specs.Tree.{Tree, null, boolean, number, string, array, object, Elements, no_elements, element, Members, no_members, member}
use Rattle.json_text.specs.Number.{AreDigits, IsDigits, IsInt, IsFrac, IsSigned, IsExp, IsMagnitude, IsNumberText}
use Rattle.json_text.specs.inner.NumberLeft.{IsNumberByte}
use Rattle.json_text.specs.Character.{IsCharacter, unescaped, short, unit, pair, IsUnescaped, IsUnit, IsPair, AreHex, IsHigh, AreCharacters, of_pair, short_escape}
use Rattle.json_text.specs.Grammar.{Rules, is_space, skip, Value, First, More, FirstMember, MoreMembers, IsMember, IsQuoted, Spells, profile, literal_null, literal_true, literal_false}
use Rattle.json_text.specs.Canonical.{canonical}
use Rattle.json_text.proofs.ListLemmas.{head_is, tail_is, not_nil, some_is, none_is}
use Rattle.json_text.proofs.ScanLemmas.{space_is}
use Rattle.json_text.proofs.Utf8Lemmas.{first_of_one}
use Rattle.json_text.proofs.NumberLemmas.{digit_byte, other_byte, number_head, number_nil}
use Rattle.json_text.proofs.CharacterLemmas.{not_empty}
use Rattle.json_text.proofs.StringLemmas.{no_quote}
use Rattle.json_text.proofs.ValueLemmas.{value_starts, no_bracket, no_other}
use Rattle.json_text.proofs.CanonicalLemmas.{spells_canonical}

-- ---- lists

split_same : (a b x y : List ℕ) → length a ≡ length b → a ++ x ≡ b ++ y → (a ≡ b) × (x ≡ y)
split_same [] [] x y l e = (refl, e)
split_same [] (d ∷ b) x y l e = absurd (omega arith)
split_same (c ∷ a) [] x y l e = absurd (omega arith)
split_same (c ∷ a) (d ∷ b) x y l e =
    let s = split_same a b x y (omega arith) (tail_is _ _ _ _ e) in
    (cells c d a b (head_is _ _ _ _ e) s.0, s.1)
  where
    cells : (c d : ℕ) (a b : List ℕ) → c ≡ d → a ≡ b → c ∷ a ≡ d ∷ b
    cells c d a b e f = cc

-- ---- one character

hex_same : (w : List ℕ) (n u v : ℕ) → AreHex w n u → AreHex w n v → u ≡ v
hex_same [] n u v h g = h ∙ sym g
hex_same (d ∷ w) n u v h g =
    hex_same w (n * 16 + h.0) u v h.2 (subst (λ (x : ℕ). AreHex w (n * 16 + x) v) (some_is g.0 h.0 (sym g.1 ∙ h.1)) g.2)

-- two units before the same bytes
unit_same : (u v : ℕ) (w t x y : List ℕ) → IsUnit u w → IsUnit v t → w ++ x ≡ t ++ y → (u ≡ v) × (x ≡ y)
unit_same u v w t x y h g e =
    let f : 92 ∷ 117 ∷ (h.digits ++ x) ≡ 92 ∷ 117 ∷ (g.digits ++ y) = ap (λ (l : List ℕ). l ++ x) (sym h.parts) ∙ e ∙ ap (λ (l : List ℕ). l ++ y) g.parts in
    let s = split_same h.digits g.digits x y (h.four ∙ sym g.four) (tail_is _ _ _ _ (tail_is _ _ _ _ f)) in
    (hex_same h.digits 0 u v h.value (subst (λ (l : List ℕ). AreHex l 0 v) (sym s.0) g.value), s.1)

no_letter : (c : ℕ) → short_escape 117 ≡ Some c → ⊥
no_letter c e = none_is c e

-- a short escape is no unit
short_unit : (letter c u : ℕ) (w t x y : List ℕ) → short_escape letter ≡ Some c → w ≡ 92 ∷ letter ∷ [] → IsUnit u t → w ++ x ≡ t ++ y → ⊥
short_unit letter c u w t x y s e g f =
    let h : 92 ∷ letter ∷ x ≡ 92 ∷ 117 ∷ (g.digits ++ y) = ap (λ (l : List ℕ). l ++ x) (sym e) ∙ f ∙ ap (λ (l : List ℕ). l ++ y) g.parts in
    no_letter c (subst (λ (k : ℕ). short_escape k ≡ Some c) (head_is _ _ _ _ (tail_is _ _ _ _ h)) s)

short_same : (k l c d : ℕ) (w t x y : List ℕ) → short_escape k ≡ Some c → w ≡ 92 ∷ k ∷ [] → short_escape l ≡ Some d → t ≡ 92 ∷ l ∷ [] → w ++ x ≡ t ++ y → (c ≡ d) × (x ≡ y)
short_same k l c d w t x y s p r q e =
    let h : 92 ∷ k ∷ x ≡ 92 ∷ l ∷ y = ap (λ (m : List ℕ). m ++ x) (sym p) ∙ e ∙ ap (λ (m : List ℕ). m ++ y) q in
    let i = tail_is _ _ _ _ h in
    (some_is c d (sym s ∙ subst (λ (m : ℕ). short_escape m ≡ Some d) (sym (head_is _ _ _ _ i)) r), tail_is _ _ _ _ i)

high_scalar : (u : ℕ) → InScalarRange u → IsHigh u → ⊥
high_scalar u (inl lt) h = omega arith
high_scalar u (inr le) h = omega arith

-- the first unit of a pair, and what comes after it
first_parts : (c : ℕ) (w x : List ℕ) (h : IsPair c w) → w ++ x ≡ h.first ++ (h.second ++ x)
first_parts c w x h = ap (λ (l : List ℕ). l ++ x) h.parts ∙ append_assoc h.first h.second x

unit_pair : (c d : ℕ) (w t x y : List ℕ) → InScalarRange c → IsUnit c w → IsPair d t → w ++ x ≡ t ++ y → ⊥
unit_pair c d w t x y s h g e =
    let u = unit_same c g.high w g.first x (g.second ++ y) h g.first_is (e ∙ first_parts d t y g) in
    high_scalar c s (subst (λ (k : ℕ). IsHigh k) (sym u.0) g.high_is)

pair_same : (c d : ℕ) (w t x y : List ℕ) → IsPair c w → IsPair d t → w ++ x ≡ t ++ y → (c ≡ d) × (x ≡ y)
pair_same c d w t x y h g e =
    let u = unit_same h.high g.high h.first g.first (h.second ++ x) (g.second ++ y) h.first_is g.first_is (sym (first_parts c w x h) ∙ e ∙ first_parts d t y g) in
    let v = unit_same h.low g.low h.second g.second x y h.second_is g.second_is u.1 in
    (h.c_is ∙ ap (λ (k : ℕ). of_pair k h.low) u.0 ∙ ap (of_pair g.high) v.0 ∙ sym g.c_is, v.1)

-- what begins with a backslash is an escape
no_backslash : (c : ℕ) (w x m : List ℕ) → IsUnescaped c w → w ++ x ≡ 92 ∷ m → ⊥
no_backslash c [] x m h e = not_empty c (unescaped h)
no_backslash c (k ∷ w) x m h e =
    let i : 92 ∷ w ≡ encode_utf8 c = subst (λ (a : ℕ). a ∷ w ≡ encode_utf8 c) (head_is _ _ _ _ e) h.bytes in
    h.no_backslash (first_of_one 92 c w (omega arith) i).1

-- an escape begins with a backslash
abbrev Escapes : List ℕ → List ℕ → Type 0
Escapes w y = (m : List ℕ) × (w ++ y ≡ 92 ∷ m)

short_escapes : (letter : ℕ) (w y : List ℕ) → w ≡ 92 ∷ letter ∷ [] → Escapes w y
short_escapes letter w y e = (letter ∷ y, ap (λ (l : List ℕ). l ++ y) e)

unit_escapes : (u : ℕ) (w y : List ℕ) → IsUnit u w → Escapes w y
unit_escapes u w y h = (117 ∷ (h.digits ++ y), ap (λ (l : List ℕ). l ++ y) h.parts)

pair_escapes : (c : ℕ) (w y : List ℕ) → IsPair c w → Escapes w y
pair_escapes c w y h = let f = unit_escapes h.high h.first (h.second ++ y) h.first_is in (f.0, first_parts c w y h ∙ f.1)

-- no character is spelled in two ways by one text, and none by a prefix of another's spelling
character_same : (c d : ℕ) (w t x y : List ℕ) → IsCharacter c w → IsCharacter d t → w ++ x ≡ t ++ y → (c ≡ d) × (x ≡ y)
character_same c d w t x y (unescaped h) (unescaped g) e = encode_same c d x y (ap (λ (l : List ℕ). l ++ x) (sym h.bytes) ∙ e ∙ ap (λ (l : List ℕ). l ++ y) g.bytes)
character_same c d w t x y (unescaped h) (short l r q) e = let s = short_escapes l t y q in absurd (no_backslash c w x s.0 h (e ∙ s.1))
character_same c d w t x y (unescaped h) (unit r g) e = let s = unit_escapes d t y g in absurd (no_backslash c w x s.0 h (e ∙ s.1))
character_same c d w t x y (unescaped h) (pair g) e = let s = pair_escapes d t y g in absurd (no_backslash c w x s.0 h (e ∙ s.1))
character_same c d w t x y (short k s p) (unescaped g) e = let r = short_escapes k w x p in absurd (no_backslash d t y r.0 g (sym e ∙ r.1))
character_same c d w t x y (short k s p) (short l r q) e = short_same k l c d w t x y s p r q e
character_same c d w t x y (short k s p) (unit r g) e = absurd (short_unit k c d w t x y s p g e)
character_same c d w t x y (short k s p) (pair g) e = absurd (short_unit k c g.high w g.first x (g.second ++ y) s p g.first_is (e ∙ first_parts d t y g))
character_same c d w t x y (unit s h) (unescaped g) e = let r = unit_escapes c w x h in absurd (no_backslash d t y r.0 g (sym e ∙ r.1))
character_same c d w t x y (unit s h) (short l r q) e = absurd (short_unit l d c t w y x r q h (sym e))
character_same c d w t x y (unit s h) (unit r g) e = unit_same c d w t x y h g e
character_same c d w t x y (unit s h) (pair g) e = absurd (unit_pair c d w t x y s h g e)
character_same c d w t x y (pair h) (unescaped g) e = let r = pair_escapes c w x h in absurd (no_backslash d t y r.0 g (sym e ∙ r.1))
character_same c d w t x y (pair h) (short l r q) e = absurd (short_unit l d h.high t h.first y (h.second ++ x) r q h.first_is (sym e ∙ first_parts c w x h))
character_same c d w t x y (pair h) (unit r g) e = absurd (unit_pair d c t w y x r g h (sym e))
character_same c d w t x y (pair h) (pair g) e = pair_same c d w t x y h g e

-- ---- strings

characters_same : (cs ds b r q : List ℕ) → AreCharacters cs b r → AreCharacters ds b q → (cs ≡ ds) × (r ≡ q)
characters_same [] [] b r q h g = (refl, tail_is _ _ _ _ (sym h ∙ g))
characters_same [] (d ∷ ds) b r q h g = absurd (no_quote d g.0 g.1 r g.2 (sym h ∙ g.3))
characters_same (c ∷ cs) [] b r q h g = absurd (no_quote c h.0 h.1 q h.2 (sym g ∙ h.3))
characters_same (c ∷ cs) (d ∷ ds) b r q h g =
    let s = character_same c d h.0 g.0 h.1 g.1 h.2 g.2 (sym h.3 ∙ g.3) in
    let t = characters_same cs ds h.1 r q h.4 (subst (λ (n : List ℕ). AreCharacters ds n q) (sym s.1) g.4) in
    (ap (λ (k : ℕ). k ∷ cs) s.0 ∙ ap (λ (l : List ℕ). d ∷ l) t.0, t.1)

quoted_same : (s t b r q : List ℕ) → IsQuoted s b r → IsQuoted t b q → (s ≡ t) × (r ≡ q)
quoted_same s t b r q h g =
    let c = characters_same h.characters g.characters b r q h.spelled g.spelled in
    (h.text ∙ ap encode_utf8_all c.0 ∙ sym g.text, c.1)

-- ---- numbers

-- each byte may occur in a number
abbrev AreOfNumber : List ℕ → Type 0
AreOfNumber [] = Unit {0}
AreOfNumber (c ∷ s) = IsNumberByte c × AreOfNumber s

joined : (s t : List ℕ) → AreOfNumber s → AreOfNumber t → AreOfNumber (s ++ t)
joined [] t h g = g
joined (c ∷ s) t h g = (h.0, joined s t h.1 g)

of_digits : (s : List ℕ) → AreDigits s → AreOfNumber s
of_digits [] h = tt
of_digits (c ∷ s) h = (digit_byte c h.0, of_digits s h.1)

of_some : (s : List ℕ) → IsDigits s → AreOfNumber s
of_some [] h = absurd h
of_some (c ∷ s) h = (digit_byte c h.0, of_digits s h.1)

of_int : (s : List ℕ) → IsInt s → AreOfNumber s
of_int [] h = absurd h
of_int (c ∷ s) (inl h) = (digit_byte c (omega arith, omega arith), subst (λ (l : List ℕ). AreOfNumber l) (sym h.1) tt)
of_int (c ∷ s) (inr h) = (digit_byte c (omega arith, omega arith), of_digits s h.2)

of_frac : (s : List ℕ) → IsFrac s → AreOfNumber s
of_frac [] h = tt
of_frac (c ∷ s) h = (other_byte c (inr (inr (inl h.0))), of_some s h.1)

of_signed : (s : List ℕ) → IsSigned s → AreOfNumber s
of_signed [] h = absurd h
of_signed (c ∷ s) h = (sign h.0, of_some s h.1)
  where
    sign : (c ≡ 43) ⊎ (c ≡ 45) → IsNumberByte c
    sign (inl e) = other_byte c (inr (inl e))
    sign (inr e) = other_byte c (inl e)

of_exp : (s : List ℕ) → IsExp s → AreOfNumber s
of_exp [] h = tt
of_exp (c ∷ s) h = (other_byte c (inr (inr (inr h.0))), power h.1)
  where
    power : IsDigits s ⊎ IsSigned s → AreOfNumber s
    power (inl d) = of_some s d
    power (inr d) = of_signed s d

of_magnitude : (s : List ℕ) → IsMagnitude s → AreOfNumber s
of_magnitude s h =
    let f = h.rest_is in
    subst (λ (l : List ℕ). AreOfNumber l) (sym (h.parts ∙ ap (λ (l : List ℕ). h.int ++ l) f.parts))
    (joined h.int (f.frac ++ f.exp) (of_int h.int h.int_is) (joined f.frac f.exp (of_frac f.frac f.frac_is) (of_exp f.exp f.exp_is)))

of_negative : (c : ℕ) (s : List ℕ) → c ≡ 45 → IsMagnitude s → AreOfNumber (c ∷ s)
of_negative c s e h = (other_byte c (inl e), of_magnitude s h)

of_number : (s : List ℕ) → IsNumberText s → AreOfNumber s
of_number s (inl h) = of_magnitude s h
of_number [] (inr h) = tt
of_number (c ∷ s) (inr h) = of_negative c s h.0 h.1

-- no number goes on here
abbrev IsEnd : List ℕ → Type 0
IsEnd [] = Unit {0}
IsEnd (c ∷ r) = IsNumberByte c → ⊥

numbers_same : (s t r q : List ℕ) → AreOfNumber s → AreOfNumber t → IsEnd r → IsEnd q → s ++ r ≡ t ++ q → (s ≡ t) × (r ≡ q)
numbers_same [] [] r q h g m n e = (refl, e)
numbers_same [] (d ∷ t) r q h g m n e = absurd (ended r m e)
  where
    ended : (r : List ℕ) → IsEnd r → r ≡ d ∷ (t ++ q) → ⊥
    ended [] m e = not_nil d _ e
    ended (c ∷ r) m e = m (subst (λ (k : ℕ). IsNumberByte k) (sym (head_is _ _ _ _ e)) g.0)
numbers_same (c ∷ s) [] r q h g m n e = absurd (ended q n (sym e))
  where
    ended : (q : List ℕ) → IsEnd q → q ≡ c ∷ (s ++ r) → ⊥
    ended [] n e = not_nil c _ e
    ended (d ∷ q) n e = n (subst (λ (k : ℕ). IsNumberByte k) (sym (head_is _ _ _ _ e)) h.0)
numbers_same (c ∷ s) (d ∷ t) r q h g m n e =
    let u = numbers_same s t r q h.1 g.1 m n (tail_is _ _ _ _ e) in
    (ap (λ (k : ℕ). k ∷ s) (head_is _ _ _ _ e) ∙ ap (λ (l : List ℕ). d ∷ l) u.0, u.1)

-- a space, a mark or the end of the text comes after a value
abbrev IsMark : List ℕ → Type 0
IsMark [] = Unit {0}
IsMark (c ∷ r) = (c ≡ 44) ⊎ ((c ≡ 93) ⊎ (c ≡ 125))

ends : (b : List ℕ) → IsMark (skip b) → IsEnd b
ends [] h = tt
ends (c ∷ b) h = λ o. by (is_space c) refl h o
  where
    by : (t : Bool) → is_space c ≡ t → IsMark (skip (c ∷ b)) → IsNumberByte c → ⊥
    by true e h o = let s = space_is c e in omega (arith, s)
    by false e h o = let m : IsMark (c ∷ b) = rw e at h in omega (arith, m)

more_ends : (R : Rules) (d : ℕ) (xs : Elements) (b r : List ℕ) → More R d xs b r → IsEnd b
more_ends R d no_elements b r h = ends b (subst (λ (l : List ℕ). IsMark l) (sym h) (inr (inl refl)))
more_ends R d (element x xs) b r h = ends b (subst (λ (l : List ℕ). IsMark l) (sym h.2) (inl refl))

more_members_end : (R : Rules) (d : ℕ) (ms : Members) (b r : List ℕ) → MoreMembers R d ms b r → IsEnd b
more_members_end R d no_members b r h = ends b (subst (λ (l : List ℕ). IsMark l) (sym h) (inr (inr refl)))
more_members_end R d (member k x ms) b r h = ends b (subst (λ (l : List ℕ). IsMark l) (sym h.2) (inl refl))

-- ---- a value by its first byte

is_null : (R : Rules) (d : ℕ) (y : Tree) (b r : List ℕ) → Value R d y (110 ∷ b) r → (y ≡ null) × (110 ∷ b ≡ literal_null ++ r)
is_null R d null b r h = (refl, h)
is_null R d y b r h = absurd (omega (arith, value_starts R d y 110 b r h))

is_true : (R : Rules) (d : ℕ) (y : Tree) (b r : List ℕ) → Value R d y (116 ∷ b) r → (y ≡ boolean true) × (116 ∷ b ≡ literal_true ++ r)
is_true R d (boolean true) b r h = (refl, h)
is_true R d (boolean false) b r h = absurd (omega (arith, head_is 116 _ b _ h))
is_true R d y b r h = absurd (omega (arith, value_starts R d y 116 b r h))

is_false : (R : Rules) (d : ℕ) (y : Tree) (b r : List ℕ) → Value R d y (102 ∷ b) r → (y ≡ boolean false) × (102 ∷ b ≡ literal_false ++ r)
is_false R d (boolean false) b r h = (refl, h)
is_false R d (boolean true) b r h = absurd (omega (arith, head_is 102 _ b _ h))
is_false R d y b r h = absurd (omega (arith, value_starts R d y 102 b r h))

is_string : (R : Rules) (d : ℕ) (y : Tree) (b r : List ℕ) → Value R d y (34 ∷ b) r → (t : List ℕ) × (y ≡ string t) × IsQuoted t b r
is_string R d (string t) b r h = (t, refl, subst (λ (l : List ℕ). IsQuoted t l r) (sym (tail_is _ _ _ _ h.1)) h.2)
is_string R d y b r h = absurd (omega (arith, value_starts R d y 34 b r h))

is_array : (R : Rules) (d : ℕ) (y : Tree) (b r : List ℕ) → Value R d y (91 ∷ b) r → (ys : Elements) × (y ≡ array ys) × First R (suc d) ys b r
is_array R d (array ys) b r h = (ys, refl, subst (λ (l : List ℕ). First R (suc d) ys l r) (sym (tail_is _ _ _ _ h.1.1)) h.1.2)
is_array R d y b r h = absurd (omega (arith, value_starts R d y 91 b r h))

is_object : (R : Rules) (d : ℕ) (y : Tree) (b r : List ℕ) → Value R d y (123 ∷ b) r → (ns : Members) × (y ≡ object ns) × FirstMember R (suc d) ns b r
is_object R d (object ns) b r h = (ns, refl, subst (λ (l : List ℕ). FirstMember R (suc d) ns l r) (sym (tail_is _ _ _ _ h.2.1)) h.2.2)
is_object R d y b r h = absurd (omega (arith, value_starts R d y 123 b r h))

-- the other value is a number too
is_number : (R : Rules) (d : ℕ) (y : Tree) (b r q text : List ℕ) → IsNumberText text → b ≡ text ++ r → Value R d y b q → (t : List ℕ) × (y ≡ number t) × IsNumberText t × (b ≡ t ++ q)
is_number R d y b r q [] n e h = absurd (number_nil n)
is_number R d y b r q (c ∷ s) n e h =
    let o = no_other R d y c (s ++ r) q (number_head c s n) (subst (λ (l : List ℕ). Value R d y l q) e h) in
    (o.0, o.1, o.2, e ∙ o.3)

cell : (x y : Tree) (xs ys : Elements) → x ≡ y → xs ≡ ys → element x xs ≡ element y ys
cell x y xs ys e f = ap (λ (z : Tree). element z xs) e ∙ ap (λ (zs : Elements). element y zs) f

member_cell : (k l : List ℕ) (x y : Tree) (ms ns : Members) → k ≡ l → x ≡ y → ms ≡ ns → member k x ms ≡ member l y ns
member_cell k l x y ms ns e f g = ap (λ (z : List ℕ). member z x ms) e ∙ ap (λ (z : Tree). member l z ms) f ∙ ap (λ (zs : Members). member l y zs) g

-- the names before two values, and where the values begin
names_same : (V W : List ℕ → List ℕ → Type 0) (k l b r q : List ℕ) (h : IsMember V k b r) (g : IsMember W l b q) → (k ≡ l) × (h.value ≡ g.value)
names_same V W k l b r q h g =
    let s = quoted_same k l h.inside h.following g.following h.named (subst (λ (n : List ℕ). IsQuoted l n g.following) (tail_is _ _ _ _ (sym g.opens ∙ h.opens)) g.named) in
    (s.0, tail_is _ _ _ _ (sym h.colon ∙ ap skip s.1 ∙ g.colon))

mutual
  value_same : (R : Rules) (d : ℕ) (x y : Tree) (b r q : List ℕ) → Value R d x b r → Value R d y b q → IsEnd r → IsEnd q → (x ≡ y) × (r ≡ q)
  value_same R d null y b r q h g m n =
      let i = is_null R d y _ q (subst (λ (l : List ℕ). Value R d y l q) h g) in
      (sym i.0, (split_same literal_null literal_null r q refl i.1).1)
  value_same R d (boolean true) y b r q h g m n =
      let i = is_true R d y _ q (subst (λ (l : List ℕ). Value R d y l q) h g) in
      (sym i.0, (split_same literal_true literal_true r q refl i.1).1)
  value_same R d (boolean false) y b r q h g m n =
      let i = is_false R d y _ q (subst (λ (l : List ℕ). Value R d y l q) h g) in
      (sym i.0, (split_same literal_false literal_false r q refl i.1).1)
  value_same R d (number s) y b r q h g m n =
      let i = is_number R d y b r q s h.0 h.1 g in
      let t = numbers_same s i.0 r q (of_number s h.0) (of_number i.0 i.2) m n (sym h.1 ∙ i.3) in
      (ap number t.0 ∙ sym i.1, t.1)
  value_same R d (string s) y b r q h g m n =
      let i = is_string R d y h.0 q (subst (λ (l : List ℕ). Value R d y l q) h.1 g) in
      let t = quoted_same s i.0 h.0 r q h.2 i.2 in
      (ap string t.0 ∙ sym i.1, t.1)
  value_same R d (array xs) y b r q h g m n =
      let i = is_array R d y h.1.0 q (subst (λ (l : List ℕ). Value R d y l q) h.1.1 g) in
      let t = first_same R (suc d) xs i.0 h.1.0 r q h.1.2 i.2 in
      (ap array t.0 ∙ sym i.1, t.1)
  value_same R d (object ms) y b r q h g m n =
      let i = is_object R d y h.2.0 q (subst (λ (l : List ℕ). Value R d y l q) h.2.1 g) in
      let t = first_member_same R (suc d) ms i.0 h.2.0 r q h.2.2 i.2 in
      (ap object t.0 ∙ sym i.1, t.1)

  first_same : (R : Rules) (d : ℕ) (xs ys : Elements) (b r q : List ℕ) → First R d xs b r → First R d ys b q → (xs ≡ ys) × (r ≡ q)
  first_same R d no_elements no_elements b r q h g = (refl, tail_is _ _ _ _ (sym h ∙ g))
  first_same R d no_elements (element y ys) b r q h g = absurd (no_bracket R d y r g.0 (subst (λ (l : List ℕ). Value R d y l g.0) h g.1))
  first_same R d (element x xs) no_elements b r q h g = absurd (no_bracket R d x q h.0 (subst (λ (l : List ℕ). Value R d x l h.0) g h.1))
  first_same R d (element x xs) (element y ys) b r q h g =
      let s = value_same R d x y (skip b) h.0 g.0 h.1 g.1 (more_ends R d xs h.0 r h.2) (more_ends R d ys g.0 q g.2) in
      let t = more_same R d xs ys h.0 r q h.2 (subst (λ (l : List ℕ). More R d ys l q) (sym s.1) g.2) in
      (cell x y xs ys s.0 t.0, t.1)

  more_same : (R : Rules) (d : ℕ) (xs ys : Elements) (b r q : List ℕ) → More R d xs b r → More R d ys b q → (xs ≡ ys) × (r ≡ q)
  more_same R d no_elements no_elements b r q h g = (refl, tail_is _ _ _ _ (sym h ∙ g))
  more_same R d no_elements (element y ys) b r q h g = absurd (omega (arith, head_is _ _ _ _ (sym h ∙ g.2)))
  more_same R d (element x xs) no_elements b r q h g = absurd (omega (arith, head_is _ _ _ _ (sym g ∙ h.2)))
  more_same R d (element x xs) (element y ys) b r q h g =
      let e = tail_is _ _ _ _ (sym g.2 ∙ h.2) in
      let s = value_same R d x y (skip h.0) h.1 g.1 h.3 (subst (λ (l : List ℕ). Value R d y (skip l) g.1) e g.3) (more_ends R d xs h.1 r h.4) (more_ends R d ys g.1 q g.4) in
      let t = more_same R d xs ys h.1 r q h.4 (subst (λ (l : List ℕ). More R d ys l q) (sym s.1) g.4) in
      (cell x y xs ys s.0 t.0, t.1)

  first_member_same : (R : Rules) (d : ℕ) (ms ns : Members) (b r q : List ℕ) → FirstMember R d ms b r → FirstMember R d ns b q → (ms ≡ ns) × (r ≡ q)
  first_member_same R d no_members no_members b r q h g = (refl, tail_is _ _ _ _ (sym h ∙ g))
  first_member_same R d no_members (member l y ns) b r q h g = absurd (omega (arith, head_is _ _ _ _ (sym h ∙ g.1.opens)))
  first_member_same R d (member k x ms) no_members b r q h g = absurd (omega (arith, head_is _ _ _ _ (sym g ∙ h.1.opens)))
  first_member_same R d (member k x ms) (member l y ns) b r q h g =
      let p = names_same (Value R d x) (Value R d y) k l b h.0 g.0 h.1 g.1 in
      let s = value_same R d x y (skip h.1.value) h.0 g.0 h.1.valued (subst (λ (n : List ℕ). Value R d y (skip n) g.0) (sym p.1) g.1.valued) (more_members_end R d ms h.0 r h.2) (more_members_end R d ns g.0 q g.2) in
      let t = more_members_same R d ms ns h.0 r q h.2 (subst (λ (n : List ℕ). MoreMembers R d ns n q) (sym s.1) g.2) in
      (member_cell k l x y ms ns p.0 s.0 t.0, t.1)

  more_members_same : (R : Rules) (d : ℕ) (ms ns : Members) (b r q : List ℕ) → MoreMembers R d ms b r → MoreMembers R d ns b q → (ms ≡ ns) × (r ≡ q)
  more_members_same R d no_members no_members b r q h g = (refl, tail_is _ _ _ _ (sym h ∙ g))
  more_members_same R d no_members (member l y ns) b r q h g = absurd (omega (arith, head_is _ _ _ _ (sym h ∙ g.2)))
  more_members_same R d (member k x ms) no_members b r q h g = absurd (omega (arith, head_is _ _ _ _ (sym g ∙ h.2)))
  more_members_same R d (member k x ms) (member l y ns) b r q h g =
      let e = tail_is _ _ _ _ (sym g.2 ∙ h.2) in
      let i = subst (λ (n : List ℕ). IsMember (Value R d y) l n g.1) e g.3 in
      let p = names_same (Value R d x) (Value R d y) k l h.0 h.1 g.1 h.3 i in
      let s = value_same R d x y (skip h.3.value) h.1 g.1 h.3.valued (subst (λ (n : List ℕ). Value R d y (skip n) g.1) (sym p.1) i.valued) (more_members_end R d ms h.1 r h.4) (more_members_end R d ns g.1 q g.4) in
      let t = more_members_same R d ms ns h.1 r q h.4 (subst (λ (n : List ℕ). MoreMembers R d ns n q) (sym s.1) g.4) in
      (member_cell k l x y ms ns p.0 s.0 t.0, t.1)

pub same_tree : (v w : Tree) (b : List ℕ) → Spells v b → Spells w b → v ≡ w
same_tree v w b h g =
    let m : IsEnd h.0 = ends h.0 (subst (λ (l : List ℕ). IsMark l) (sym h.2) tt) in
    let n : IsEnd g.0 = ends g.0 (subst (λ (l : List ℕ). IsMark l) (sym g.2) tt) in
    (value_same profile 0 v w (skip b) h.0 g.0 h.1 g.1 m n).0

-- two trees that have texts have different canonical spellings
pub canonical_apart : (v w : Tree) (b c : List ℕ) → Spells v b → Spells w c → canonical v ≡ canonical w → v ≡ w
canonical_apart v w b c h g e =
    same_tree v w (canonical w) (subst (λ (l : List ℕ). Spells v l) e (spells_canonical v b h)) (spells_canonical w c g)
