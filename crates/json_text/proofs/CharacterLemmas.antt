-- What each byte of a character's spelling leaves.
use Rattle.std.proofs.Common.{◌≡◌, ◌≢◌, ℕ, ◌+◌, ◌-◌, ◌*◌, ◌<◌, ◌≤◌, List, [], ◌∷◌, ◌++◌, length, Option, Some, None, refl, sym, ap, subst, ◌∙◌, arith, inl, inr, ◌⊎◌, Bool, true, false, cond}
use Rattle.std.specs.Prelude.{◌==◌}
use Rattle.std.specs.Char.{encode_utf8, InScalarRange}
use Rattle.std.specs.Int.{is_in_range}
use Rattle.std.proofs.lemmas.Str.{encode_ascii, length-encode, len_utf8_bounds}
use Rattle.std.proofs.lemmas.List.{append-nil}
use Rattle.std.proofs.lemmas.Bool.{cases_lt}
use Rattle.std.proofs.lemmas.Bool.Decides.{nat_tests}
use Rattle.json_text.specs.Character.{IsCharacter, unescaped, short, unit, pair, IsUnescaped, IsUnit, AreHex, IsHigh, of_pair, hex_value, short_escape}
use Rattle.json_text.specs.Scan.{Scan, inside, escaped, owes, scan_step}
use Rattle.json_text.specs.inner.CharacterLeft.{Completes, IsSecond, AfterUnit, InFirst, InSecond, LeftOfCharacter, Utf8Bounds, FirstBounds, SecondBounds, LeavesNext, LeavesNone, Starts, IsCharacterStep, scan_within}
use Rattle.json_text.specs.declared.character.CharacterStep.{CharacterStep}
use Rattle.json_text.specs.declared.character.CharacterStep.TheVariants as character_steps
use Rattle.json_text.specs.declared.character.CharacterState.{CharacterState}
use Rattle.json_text.specs.declared.character.CharacterState.TheVariants as character_states
use Rattle.json_text.proofs.ListLemmas.{head_is, tail_is, not_nil, some_is, none_is}
use Rattle.json_text.proofs.ScanLemmas.{stays_inside, owes_one, owes_two, owes_three, owes_less, owes_none}
use Rattle.json_text.proofs.Utf8Lemmas.{Tail, of_three, of_four, encode_two, encode_three, encode_four, first_of_one, first_of_two, first_of_three, first_of_four, first_of_none}

-- ---- what a spelling begins with

pub unit_head : (u x : ℕ) (w r s : List ℕ) → IsUnit u w → x ∷ r ≡ w ++ s → x ≡ 92
unit_head u x w r s h e = head_is x 92 r _ (e ∙ ap (λ (l : List ℕ). l ++ s) h.parts)

pub only_unescaped : (x c : ℕ) (w : List ℕ) → x ≢ 92 → IsCharacter c (x ∷ w) → IsUnescaped c (x ∷ w)
only_unescaped x c w ne (unescaped h) = h
only_unescaped x c w ne (short letter s e) = absurd (ne (head_is x 92 w _ e))
only_unescaped x c w ne (unit s h) = absurd (ne (head_is x 92 w _ h.parts))
only_unescaped x c w ne (pair h) = absurd (ne (unit_head h.high x h.first w h.second h.first_is h.parts))

pub not_empty : (c : ℕ) → IsCharacter c [] → ⊥
not_empty c (unescaped h) = nothing_encoded h.bytes
  where
    nothing_encoded : [] ≡ encode_utf8 c → ⊥
    nothing_encoded e = omega (arith, ap length e, length-encode c, len_utf8_bounds c)
not_empty c (short letter s e) = not_nil 92 _ e
not_empty c (unit s h) = not_nil 92 _ h.parts
not_empty c (pair h) = not_nil 92 _ (h.parts ∙ ap (λ (l : List ℕ). l ++ h.second) h.first_is.parts)

-- ---- one byte

pub first_ascii : (x : ℕ) → 32 ≤ x → x ≤ 127 → x ≢ 34 → x ≢ 92 → LeavesNone Starts inside x x
first_ascii x x0 x1 q b = record {
  on = λ w d h. (first_of_one x d w (omega arith) (only_unescaped x d w b h).bytes);
  back = unescaped (record { scalar = inl (omega arith); no_control = x0; no_quote = q; no_backslash = b; bytes = sym (encode_ascii x (omega arith)) });
  scans = stays_inside x q b (omega arith);
}

pub first_dead : (x : ℕ) → x ≢ 34 → x ≢ 92 → (x < 32) ⊎ (((128 ≤ x) × (x < 194)) ⊎ (244 < x)) → (w : List ℕ) (c : ℕ) → Starts (x ∷ w) c → ⊥
first_dead x q b out w c h = dead out (only_unescaped x c w b h)
  where
    below : InScalarRange c → c < 0x110000
    below (inl lt) = omega arith
    below (inr le) = omega arith

    dead : (x < 32) ⊎ (((128 ≤ x) × (x < 194)) ⊎ (244 < x)) → IsUnescaped c (x ∷ w) → ⊥
    dead (inl lt) h = omega (arith, h.no_control, (first_of_one x c w (omega arith) h.bytes).1)
    dead (inr (inl r)) h = first_of_none x c w r.0 (inl r.1) (below h.scalar) h.bytes
    dead (inr (inr lt)) h = first_of_none x c w (omega arith) (inr lt) (below h.scalar) h.bytes

of_utf8 : (x c : ℕ) (w : List ℕ) → InScalarRange c → 128 ≤ c → w ≡ encode_utf8 c → IsCharacter c w
of_utf8 x c w s le e = unescaped (record { scalar = s; no_control = omega arith; no_quote = omega arith; no_backslash = omega arith; bytes = e })

-- a list of one, two or three bytes
two_back : (x c : ℕ) (w : List ℕ) → 194 ≤ x → x ≤ 223 → Tail 1 128 191 (x - 192) w c → Starts (x ∷ w) c
two_back x c [] x0 x1 t = absurd (omega (arith, t.0))
two_back x c (y ∷ []) x0 x1 t = of_utf8 x c (x ∷ y ∷ []) (inl (omega (arith, t.1))) (omega (arith, t.1)) (encode_two x y c x0 x1 t.1.0 t.1.1 t.1.2)
two_back x c (y ∷ z ∷ w) x0 x1 t = absurd (omega (arith, t.0))

pub first_two : (x : ℕ) → 194 ≤ x → x ≤ 223 → LeavesNext Starts inside x (character_states.Utf8 1 128 191 (x - 192))
first_two x x0 x1 = record {
  on = λ w c h. first_of_two x c w x0 x1 (only_unescaped x c w (omega arith) h).bytes;
  back = λ w c t. two_back x c w x0 x1 t;
  bounds = record { some = omega arith; few = omega arith; low_from = omega arith; low_to = omega arith; high_to = omega arith; one = omega arith; two = λ le. omega arith; three = λ le. omega arith };
  scans = owes_one x (omega arith) (omega arith);
}

three_back : (x low high c : ℕ) (w : List ℕ) → 224 ≤ x → x ≤ 239 → 128 ≤ low → high ≤ 191
    → ((y z : ℕ) → low ≤ y → y ≤ high → 128 ≤ z → z ≤ 191 → (2048 ≤ of_three x y z) × InScalarRange (of_three x y z))
    → Tail 2 low high (x - 224) w c → Starts (x ∷ w) c
three_back x low high c [] x0 x1 l h ok t = absurd (omega (arith, t.0))
three_back x low high c (y ∷ []) x0 x1 l h ok t = absurd (omega (arith, t.0))
three_back x low high c (y ∷ z ∷ []) x0 x1 l h ok t =
    let o = ok y z t.1.0 t.1.1 t.1.2.0 t.1.2.1 in
    let is : c ≡ of_three x y z = t.1.2.2 in
    of_utf8 x c (x ∷ y ∷ z ∷ []) (subst (λ (k : ℕ). InScalarRange k) (sym is) o.1) (omega (arith, o.0, is)) (encode_three x y z c x0 x1 (omega (arith, t.1)) (omega (arith, t.1)) t.1.2.0 t.1.2.1 o.0 is)
three_back x low high c (y ∷ z ∷ u ∷ w) x0 x1 l h ok t = absurd (omega (arith, t.0))

first_three : (x low high : ℕ) → 224 ≤ x → x ≤ 239 → 128 ≤ low → low ≤ high → high ≤ 191
    → ((y z : ℕ) → 128 ≤ y → y ≤ 191 → 128 ≤ z → z ≤ 191 → 2048 ≤ of_three x y z → InScalarRange (of_three x y z) → (low ≤ y) × (y ≤ high))
    → ((y z : ℕ) → low ≤ y → y ≤ high → 128 ≤ z → z ≤ 191 → (2048 ≤ of_three x y z) × InScalarRange (of_three x y z))
    → LeavesNext Starts inside x (character_states.Utf8 2 low high (x - 224))
first_three x low high x0 x1 l m h within ok = record {
  on = λ w c s. let u = only_unescaped x c w (omega arith) s in first_of_three x low high c w x0 x1 within u.bytes u.scalar;
  back = λ w c t. three_back x low high c w x0 x1 l h ok t;
  bounds = record { some = omega arith; few = omega arith; low_from = l; low_to = m; high_to = h; one = omega arith; two = λ le. omega arith; three = λ le. omega arith };
  scans = owes_two x (omega arith) (omega arith);
}

pub first_e0 : LeavesNext Starts inside 224 (character_states.Utf8 2 160 191 0)
first_e0 = first_three 224 160 191 (omega arith) (omega arith) (omega arith) (omega arith) (omega arith)
    (λ y z y0 y1 z0 z1 big s. (omega arith, y1)) (λ y z y0 y1 z0 z1. (omega arith, inl (omega arith)))

pub first_ed : LeavesNext Starts inside 237 (character_states.Utf8 2 128 159 13)
first_ed = first_three 237 128 159 (omega arith) (omega arith) (omega arith) (omega arith) (omega arith)
    (λ y z y0 y1 z0 z1 big s. (y0, no_surrogate y z y0 y1 z0 z1 s)) (λ y z y0 y1 z0 z1. (omega arith, inl (omega arith)))
  where
    no_surrogate : (y z : ℕ) → 128 ≤ y → y ≤ 191 → 128 ≤ z → z ≤ 191 → InScalarRange (of_three 237 y z) → y ≤ 159
    no_surrogate y z y0 y1 z0 z1 (inl lt) = omega arith
    no_surrogate y z y0 y1 z0 z1 (inr le) = omega arith

pub first_mid : (x : ℕ) → 225 ≤ x → x ≤ 239 → x ≢ 237 → LeavesNext Starts inside x (character_states.Utf8 2 128 191 (x - 224))
first_mid x x0 x1 ne = first_three x 128 191 (omega arith) (omega arith) (omega arith) (omega arith) (omega arith)
    (λ y z y0 y1 z0 z1 big s. (y0, y1)) (λ y z y0 y1 z0 z1. (omega arith, ok y z y0 y1 z0 z1 (cases_lt x 237)))
  where
    ok : (y z : ℕ) → 128 ≤ y → y ≤ 191 → 128 ≤ z → z ≤ 191 → (x < 237) ⊎ (237 ≤ x) → InScalarRange (of_three x y z)
    ok y z y0 y1 z0 z1 (inl lt) = inl (omega arith)
    ok y z y0 y1 z0 z1 (inr le) = inr (omega arith, omega arith)

four_back : (x low high c : ℕ) (w : List ℕ) → 240 ≤ x → x ≤ 244 → 128 ≤ low → high ≤ 191
    → ((y z u : ℕ) → low ≤ y → y ≤ high → 128 ≤ z → z ≤ 191 → 128 ≤ u → u ≤ 191 → (65536 ≤ of_four x y z u) × (of_four x y z u < 0x110000))
    → Tail 3 low high (x - 240) w c → Starts (x ∷ w) c
four_back x low high c [] x0 x1 l h ok t = absurd (omega (arith, t.0))
four_back x low high c (y ∷ []) x0 x1 l h ok t = absurd (omega (arith, t.0))
four_back x low high c (y ∷ z ∷ []) x0 x1 l h ok t = absurd (omega (arith, t.0))
four_back x low high c (y ∷ z ∷ u ∷ []) x0 x1 l h ok t =
    let o = ok y z u t.1.0 t.1.1 t.1.2.0 t.1.2.1 t.1.2.2.0 t.1.2.2.1 in
    let is : c ≡ of_four x y z u = t.1.2.2.2 in
    of_utf8 x c (x ∷ y ∷ z ∷ u ∷ []) (inr (omega (arith, o, is), omega (arith, o, is))) (omega (arith, o, is))
    (encode_four x y z u c x0 x1 (omega (arith, t.1)) (omega (arith, t.1)) t.1.2.0 t.1.2.1 t.1.2.2.0 t.1.2.2.1 o.0 is)
four_back x low high c (y ∷ z ∷ u ∷ v ∷ w) x0 x1 l h ok t = absurd (omega (arith, t.0))

first_four : (x low high : ℕ) → 240 ≤ x → x ≤ 244 → 128 ≤ low → low ≤ high → high ≤ 191
    → ((y z u : ℕ) → 128 ≤ y → y ≤ 191 → 128 ≤ z → z ≤ 191 → 128 ≤ u → u ≤ 191 → 65536 ≤ of_four x y z u → of_four x y z u < 0x110000 → (low ≤ y) × (y ≤ high))
    → ((y z u : ℕ) → low ≤ y → y ≤ high → 128 ≤ z → z ≤ 191 → 128 ≤ u → u ≤ 191 → (65536 ≤ of_four x y z u) × (of_four x y z u < 0x110000))
    → LeavesNext Starts inside x (character_states.Utf8 3 low high (x - 240))
first_four x low high x0 x1 l m h within ok = record {
  on = λ w c s. let u = only_unescaped x c w (omega arith) s in first_of_four x low high c w x0 x1 within u.bytes (below c u.scalar);
  back = λ w c t. four_back x low high c w x0 x1 l h ok t;
  bounds = record { some = omega arith; few = omega arith; low_from = l; low_to = m; high_to = h; one = omega arith; two = λ le. omega arith; three = λ le. omega arith };
  scans = owes_three x (omega arith);
}
  where
    below : (c : ℕ) → InScalarRange c → c < 0x110000
    below c (inl lt) = omega arith
    below c (inr le) = omega arith

pub first_f0 : LeavesNext Starts inside 240 (character_states.Utf8 3 144 191 0)
first_f0 = first_four 240 144 191 (omega arith) (omega arith) (omega arith) (omega arith) (omega arith)
    (λ y z u y0 y1 z0 z1 u0 u1 big lt. (omega arith, y1)) (λ y z u y0 y1 z0 z1 u0 u1. (omega arith, omega arith))

pub first_f4 : LeavesNext Starts inside 244 (character_states.Utf8 3 128 143 4)
first_f4 = first_four 244 128 143 (omega arith) (omega arith) (omega arith) (omega arith) (omega arith)
    (λ y z u y0 y1 z0 z1 u0 u1 big lt. (y0, omega arith)) (λ y z u y0 y1 z0 z1 u0 u1. (omega arith, omega arith))

pub first_f1 : (x : ℕ) → 241 ≤ x → x ≤ 243 → LeavesNext Starts inside x (character_states.Utf8 3 128 191 (x - 240))
first_f1 x x0 x1 = first_four x 128 191 (omega arith) (omega arith) (omega arith) (omega arith) (omega arith)
    (λ y z u y0 y1 z0 z1 u0 u1 big lt. (y0, y1)) (λ y z u y0 y1 z0 z1 u0 u1. (omega arith, omega arith))

pub first_escape : LeavesNext Starts inside 92 character_states.Escape
first_escape = record { on = λ w c h. h; back = λ w c h. h; bounds = tt; scans = refl }

-- ---- the bytes after the first

pub utf8_low : (owed low high bits x : ℕ) → x < low → (w : List ℕ) (c : ℕ) → LeftOfCharacter (character_states.Utf8 owed low high bits) (x ∷ w) c → ⊥
utf8_low owed low high bits x lt w c h = omega (arith, h.1.0)

pub utf8_high : (owed low high bits x : ℕ) → high < x → (w : List ℕ) (c : ℕ) → LeftOfCharacter (character_states.Utf8 owed low high bits) (x ∷ w) c → ⊥
utf8_high owed low high bits x lt w c h = omega (arith, h.1.1)

pub utf8_next : (owed low high bits x : ℕ) → Utf8Bounds owed low high bits → owed ≢ 1 → low ≤ x → x ≤ high → LeavesNext (LeftOfCharacter (character_states.Utf8 owed low high bits)) (owes owed) x (character_states.Utf8 (owed - 1) 128 191 (bits * 64 + (x - 128)))
utf8_next owed low high bits x s ne x0 x1 = record {
  on = λ w c h. (omega (arith, h.0), h.1.2);
  back = λ w c h. (omega (arith, h.0, s), (x0, x1, h.1));
  bounds = record { some = omega (arith, s); few = omega (arith, s); low_from = omega arith; low_to = omega arith; high_to = omega arith; one = omega (arith, s); two = λ le. omega (arith, s); three = λ le. omega (arith, s) };
  scans = owes_less owed x (omega (arith, s));
}

pub utf8_last : (owed low high bits x : ℕ) → owed ≡ 1 → low ≤ x → x ≤ high → LeavesNone (LeftOfCharacter (character_states.Utf8 owed low high bits)) (owes owed) x (bits * 64 + (x - 128))
utf8_last owed low high bits x e x0 x1 = record {
  on = λ w c h. last w c h.0 h.1.2;
  back = (sym e, (x0, x1, refl));
  scans = owes_none owed x (omega arith);
}
  where
    last : (w : List ℕ) (c : ℕ) → length (x ∷ w) ≡ owed → Completes 128 191 (bits * 64 + (x - 128)) w c → (w ≡ []) × (c ≡ bits * 64 + (x - 128))
    last [] c l h = (refl, h)
    last (y ∷ w) c l h = absurd (omega arith)

-- ---- after a backslash

pub not_unescaped : (c : ℕ) (w : List ℕ) → IsUnescaped c (92 ∷ w) → ⊥
not_unescaped c w h = h.no_backslash (first_of_one 92 c w (omega arith) h.bytes).1

-- the letter of an escape, and what comes after it
pub data Escaped (c x : ℕ) (w : List ℕ) : Type 0 where
  one_letter : short_escape x ≡ Some c → w ≡ [] → Escaped c x w
  four_digits : x ≡ 117 → InFirst 4 0 w c → Escaped c x w

pub escaped_by : (c x : ℕ) (w : List ℕ) → IsCharacter c (92 ∷ x ∷ w) → Escaped c x w
escaped_by c x w (unescaped h) = absurd (not_unescaped c (x ∷ w) h)
escaped_by c x w (short l s e) = let t = tail_is _ _ _ _ e in one_letter (subst (λ (k : ℕ). short_escape k ≡ Some c) (sym (head_is _ _ _ _ t)) s) (tail_is _ _ _ _ t)
escaped_by c x w (unit s h) =
    let t = tail_is _ _ _ _ h.parts in
    four_digits (head_is _ _ _ _ t) (record { digits = h.digits; rest = []; unit = c; parts = tail_is _ _ _ _ t ∙ sym (append-nil h.digits); len = h.four; value = h.value; following = inl (refl, refl, s) })
escaped_by c x w (pair h) =
    let f = h.first_is in
    let e = h.parts ∙ ap (λ (l : List ℕ). l ++ h.second) f.parts in
    let t = tail_is _ _ _ _ e in
    four_digits (head_is _ _ _ _ t) (record { digits = f.digits; rest = h.second; unit = h.high; parts = tail_is _ _ _ _ t; len = f.four; value = f.value; following = inr (h.high_is, record { low = h.low; unit = h.second_is; low_is = h.low_is; c_is = h.c_is }) })

pub escape_letter : (x c : ℕ) → short_escape x ≡ Some c → LeavesNone (LeftOfCharacter character_states.Escape) escaped x c
escape_letter x c e = record { on = λ w d h. on w d (escaped_by d x w h); back = short x e refl; scans = refl }
  where
    on : (w : List ℕ) (d : ℕ) → Escaped d x w → (w ≡ []) × (d ≡ c)
    on w d (one_letter s t) = (t, some_is d c (sym s ∙ e))
    on w d (four_digits x_is h) = absurd (none_is c (subst (λ (k : ℕ). short_escape k ≡ Some c) x_is e))

pub escape_unit : LeavesNext (LeftOfCharacter character_states.Escape) escaped 117 (character_states.First 4 0)
escape_unit = record {
  on = λ w c h. on w c (escaped_by c 117 w h);
  back = λ w c h. back w c h h.following;
  bounds = record { some = omega arith; few = omega arith; one = omega arith; two = λ le. omega arith; three = λ le. omega arith; four = λ le. refl; two_digits = λ e. absurd (omega arith); three_digits = λ e. absurd (omega arith) };
  scans = refl;
}
  where
    on : (w : List ℕ) (c : ℕ) → Escaped c 117 w → LeftOfCharacter (character_states.First 4 0) w c
    on w c (one_letter s t) = absurd (none_is c s)
    on w c (four_digits e h) = h

    back : (w : List ℕ) (c : ℕ) (h : InFirst 4 0 w c) → AfterUnit h.unit h.rest c → IsCharacter c (92 ∷ 117 ∷ w)
    back w c h (inl b) =
        unit (subst (λ (k : ℕ). InScalarRange k) (sym b.1) b.2)
        (record { digits = h.digits; four = h.len; value = subst (λ (k : ℕ). AreHex h.digits 0 k) (sym b.1) h.value; parts = ap (λ (l : List ℕ). 92 ∷ 117 ∷ l) (h.parts ∙ ap (λ (l : List ℕ). h.digits ++ l) b.0 ∙ append-nil h.digits) })
    back w c h (inr b) =
        pair (record {
          high = h.unit;
          low = b.1.low;
          first = 92 ∷ 117 ∷ h.digits;
          second = h.rest;
          first_is = record { digits = h.digits; four = h.len; value = h.value; parts = refl };
          second_is = b.1.unit;
          high_is = b.0;
          low_is = b.1.low_is;
          parts = ap (λ (l : List ℕ). 92 ∷ 117 ∷ l) h.parts;
          c_is = b.1.c_is;
        })

pub escape_dead : (x : ℕ) → short_escape x ≡ None → x ≢ 117 → (w : List ℕ) (c : ℕ) → LeftOfCharacter character_states.Escape (x ∷ w) c → ⊥
escape_dead x e ne w c h = dead (escaped_by c x w h)
  where
    dead : Escaped c x w → ⊥
    dead (one_letter s t) = none_is c (sym e ∙ s)
    dead (four_digits x_is h) = ne x_is

-- ---- hexadecimal digits

pub record HexRange (x v : ℕ) : Type 0 where
  pub least : 48 ≤ x
  pub most : x ≤ 102
  pub no_backslash : x ≢ 92
  pub small : v < 16

in_range : (lo hi x : ℕ) → is_in_range lo hi x ≡ true → (lo ≤ x) × (x ≤ hi)
in_range lo hi x e = grind (arith, nat_tests)

pub hex_range : (x v : ℕ) → hex_value x ≡ Some v → HexRange x v
hex_range x v e = range (is_in_range 48 57 x) (is_in_range 97 102 x) (is_in_range 65 70 x) refl refl refl e
  where
    range : (a b c : Bool) → is_in_range 48 57 x ≡ a → is_in_range 97 102 x ≡ b → is_in_range 65 70 x ≡ c
        → cond a (Some (x - 48)) (cond b (Some (x - 87)) (cond c (Some (x - 55)) None)) ≡ Some v → HexRange x v
    range true b c i j k e = let r = in_range 48 57 x i in let is = some_is _ _ e in record { least = r.0; most = omega arith; no_backslash = omega arith; small = omega arith }
    range false true c i j k e = let r = in_range 97 102 x j in let is = some_is _ _ e in record { least = omega arith; most = r.1; no_backslash = omega arith; small = omega arith }
    range false false true i j k e = let r = in_range 65 70 x k in let is = some_is _ _ e in record { least = omega arith; most = omega arith; no_backslash = omega arith; small = omega arith }
    range false false false i j k e = absurd (none_is v e)

same_hex : (x v u : ℕ) → hex_value x ≡ Some v → hex_value x ≡ Some u → v ≡ u
same_hex x v u e f = some_is v u (sym e ∙ f)

-- the first digit of several
pub data Split (x : ℕ) (w : List ℕ) (digits rest : List ℕ) : Type 0 where
  nil : digits ≡ [] → Split x w digits rest
  cons : (more : List ℕ) → digits ≡ x ∷ more → w ≡ more ++ rest → Split x w digits rest

pub split : (x : ℕ) (w digits rest : List ℕ) → x ∷ w ≡ digits ++ rest → Split x w digits rest
split x w [] rest e = nil refl
split x w (d ∷ more) rest e = cons more (ap (λ (k : ℕ). k ∷ more) (sym (head_is _ _ _ _ e))) (tail_is _ _ _ _ e)

-- one digit less is owed
first_on : (owed bits x v : ℕ) → 1 ≤ owed → hex_value x ≡ Some v → (w : List ℕ) (c : ℕ) → InFirst owed bits (x ∷ w) c → InFirst (owed - 1) (bits * 16 + v) w c
first_on owed bits x v some e w c h = on h.digits h.parts h.len h.value
  where
    on : (digits : List ℕ) → x ∷ w ≡ digits ++ h.rest → length digits ≡ owed → AreHex digits bits h.unit → InFirst (owed - 1) (bits * 16 + v) w c
    on [] p l a = absurd (omega arith)
    on (d ∷ more) p l a =
        let same = same_hex x a.0 v (subst (λ (k : ℕ). hex_value k ≡ Some a.0) (sym (head_is _ _ _ _ p)) a.1) e in
        record { digits = more; rest = h.rest; unit = h.unit; parts = tail_is _ _ _ _ p; len = omega arith; value = subst (λ (k : ℕ). AreHex more (bits * 16 + k) h.unit) same a.2; following = h.following }

first_back : (owed bits x v : ℕ) → 1 ≤ owed → hex_value x ≡ Some v → (w : List ℕ) (c : ℕ) → InFirst (owed - 1) (bits * 16 + v) w c → InFirst owed bits (x ∷ w) c
first_back owed bits x v some e w c h = record { digits = x ∷ h.digits; rest = h.rest; unit = h.unit; parts = ap (λ (l : List ℕ). x ∷ l) h.parts; len = omega (arith, h.len); value = (v, e, h.value); following = h.following }

hex_inside : (x v : ℕ) → hex_value x ≡ Some v → scan_step inside x ≡ inside
hex_inside x v e = let r = hex_range x v e in stays_inside x (omega arith) r.no_backslash (omega arith)

pub first_digit : (owed bits x v : ℕ) → FirstBounds owed bits → owed ≢ 1 → hex_value x ≡ Some v → (owed ≡ 3 → 0xDC ≤ bits * 16 + v → 0xE0 ≤ bits * 16 + v) → LeavesNext (LeftOfCharacter (character_states.First owed bits)) inside x (character_states.First (owed - 1) (bits * 16 + v))
first_digit owed bits x v s ne e alive =
    let r = hex_range x v e in
    record {
      on = λ w c h. first_on owed bits x v s.some e w c h;
      back = λ w c h. first_back owed bits x v s.some e w c h;
      bounds = record {
        some = omega (arith, s);
        few = omega (arith, s);
        one = omega (arith, s);
        two = λ le. omega (arith, s);
        three = λ le. omega (arith, s);
        four = λ le. absurd (omega (arith, s));
        two_digits = λ is le. alive (omega (arith, s)) le;
        three_digits = λ is le. omega (arith, s);
      };
      scans = hex_inside x v e;
    }

-- no digits are owed
none_owed : (bits : ℕ) (w : List ℕ) (c : ℕ) → InFirst 0 bits w c → AfterUnit bits w c
none_owed bits w c h = on h.digits h.parts h.len h.value
  where
    on : (digits : List ℕ) → w ≡ digits ++ h.rest → length digits ≡ 0 → AreHex digits bits h.unit → AfterUnit bits w c
    on [] p l a = subst (λ (k : List ℕ). AfterUnit bits k c) (sym p) (subst (λ (k : ℕ). AfterUnit k h.rest c) a h.following)
    on (d ∷ more) p l a = absurd (omega arith)

all_read : (bits : ℕ) (w : List ℕ) (c : ℕ) → AfterUnit bits w c → InFirst 0 bits w c
all_read bits w c b = record { digits = []; rest = w; unit = bits; parts = refl; len = refl; value = refl; following = b }

last_on : (owed bits x v : ℕ) → owed ≡ 1 → hex_value x ≡ Some v → (w : List ℕ) (c : ℕ) → InFirst owed bits (x ∷ w) c → AfterUnit (bits * 16 + v) w c
last_on owed bits x v is e w c h = none_owed (bits * 16 + v) w c (subst (λ (k : ℕ). InFirst k (bits * 16 + v) w c) (omega arith) (first_on owed bits x v (omega arith) e w c h))

last_back : (owed bits x v : ℕ) → owed ≡ 1 → hex_value x ≡ Some v → (w : List ℕ) (c : ℕ) → AfterUnit (bits * 16 + v) w c → InFirst owed bits (x ∷ w) c
last_back owed bits x v is e w c b = first_back owed bits x v (omega arith) e w c (subst (λ (k : ℕ). InFirst k (bits * 16 + v) w c) (omega arith) (all_read (bits * 16 + v) w c b))

no_scalar : (u : ℕ) → InScalarRange u → IsHigh u → ⊥
no_scalar u (inl lt) h = omega arith
no_scalar u (inr le) h = omega arith

pub unit_high : (owed bits x v : ℕ) → owed ≡ 1 → hex_value x ≡ Some v → IsHigh (bits * 16 + v) → LeavesNext (LeftOfCharacter (character_states.First owed bits)) inside x (character_states.Between (bits * 16 + v))
unit_high owed bits x v is e high = record {
  on = λ w c h. on w c (last_on owed bits x v is e w c h);
  back = λ w c h. last_back owed bits x v is e w c (inr (high, h));
  bounds = high;
  scans = hex_inside x v e;
}
  where
    on : (w : List ℕ) (c : ℕ) → AfterUnit (bits * 16 + v) w c → IsSecond (bits * 16 + v) w c
    on w c (inl b) = absurd (no_scalar (bits * 16 + v) b.2 high)
    on w c (inr b) = b.1

pub unit_whole : (owed bits x v : ℕ) → owed ≡ 1 → hex_value x ≡ Some v → InScalarRange (bits * 16 + v) → LeavesNone (LeftOfCharacter (character_states.First owed bits)) inside x (bits * 16 + v)
unit_whole owed bits x v is e scalar = record {
  on = λ w c h. on w c (last_on owed bits x v is e w c h);
  back = last_back owed bits x v is e [] (bits * 16 + v) (inl (refl, refl, scalar));
  scans = hex_inside x v e;
}
  where
    on : (w : List ℕ) (c : ℕ) → AfterUnit (bits * 16 + v) w c → (w ≡ []) × (c ≡ bits * 16 + v)
    on w c (inl b) = (b.0, b.1)
    on w c (inr b) = absurd (no_scalar (bits * 16 + v) scalar b.0)

-- a unit that stays between its first two digits
two_more : (bits u : ℕ) (digits : List ℕ) → length digits ≡ 2 → AreHex digits bits u → (bits * 256 ≤ u) × (u < bits * 256 + 256)
two_more bits u [] l h = absurd (omega arith)
two_more bits u (a ∷ []) l h = absurd (omega arith)
two_more bits u (a ∷ b ∷ []) l h = let p = hex_range a h.0 h.1 in let q = hex_range b h.2.0 h.2.1 in (omega (arith, h.2.2), omega (arith, h.2.2))
two_more bits u (a ∷ b ∷ c ∷ digits) l h = absurd (omega arith)

pub lone_low : (owed bits x v : ℕ) → owed ≡ 3 → hex_value x ≡ Some v → 0xDC ≤ bits * 16 + v → bits * 16 + v < 0xE0 → (w : List ℕ) (c : ℕ) → LeftOfCharacter (character_states.First owed bits) (x ∷ w) c → ⊥
lone_low owed bits x v is e le lt w c h =
    let g = first_on owed bits x v (omega arith) e w c h in
    let r = two_more (bits * 16 + v) g.unit g.digits (omega (arith, g.len)) g.value in
    dead g.unit (omega arith) (omega arith) g.rest g.following
  where
    dead : (u : ℕ) → 0xDC00 ≤ u → u < 0xE000 → (t : List ℕ) → AfterUnit u t c → ⊥
    dead u le lt t (inl b) = scalar b.2
      where
        scalar : InScalarRange u → ⊥
        scalar (inl lt) = omega arith
        scalar (inr le) = omega arith
    dead u le lt t (inr b) = omega (arith, b.0)

no_digit : (bits x u : ℕ) (w : List ℕ) → hex_value x ≡ None → AreHex (x ∷ w) bits u → ⊥
no_digit bits x u w e a = none_is a.0 (sym e ∙ a.1)

pub first_no_digit : (owed bits x : ℕ) → 1 ≤ owed → hex_value x ≡ None → (w : List ℕ) (c : ℕ) → LeftOfCharacter (character_states.First owed bits) (x ∷ w) c → ⊥
first_no_digit owed bits x some e w c h = dead h.digits h.parts h.len h.value
  where
    dead : (digits : List ℕ) → x ∷ w ≡ digits ++ h.rest → length digits ≡ owed → AreHex digits bits h.unit → ⊥
    dead [] p l a = omega arith
    dead (d ∷ more) p l a = none_is a.0 (sym e ∙ subst (λ (k : ℕ). hex_value k ≡ Some a.0) (sym (head_is _ _ _ _ p)) a.1)

-- ---- the second unit

second_on : (high owed bits x v : ℕ) → hex_value x ≡ Some v → (w : List ℕ) (c : ℕ) → InSecond high owed bits (x ∷ w) c → InSecond high (owed - 1) (bits * 16 + v) w c
second_on high owed bits x v e w c h = record { low = h.low; len = omega (arith, h.len); value = subst (λ (k : ℕ). AreHex w (bits * 16 + k) h.low) (same_hex x h.value.0 v h.value.1 e) h.value.2; low_is = h.low_is; c_is = h.c_is }

second_back : (high owed bits x v : ℕ) → 1 ≤ owed → hex_value x ≡ Some v → (w : List ℕ) (c : ℕ) → InSecond high (owed - 1) (bits * 16 + v) w c → InSecond high owed bits (x ∷ w) c
second_back high owed bits x v some e w c h = record { low = h.low; len = omega (arith, h.len); value = (v, e, h.value); low_is = h.low_is; c_is = h.c_is }

pub second_digit : (high owed bits x v : ℕ) → IsHigh high → SecondBounds owed bits → owed ≢ 1 → hex_value x ≡ Some v → (owed ≡ 4 → bits * 16 + v ≡ 0xD) → (owed ≡ 3 → 0xDC ≤ bits * 16 + v) → LeavesNext (LeftOfCharacter (character_states.Second high owed bits)) inside x (character_states.Second high (owed - 1) (bits * 16 + v))
second_digit high owed bits x v is s ne e four three =
    let r = hex_range x v e in
    record {
      on = λ w c h. second_on high owed bits x v e w c h;
      back = λ w c h. second_back high owed bits x v s.some e w c h;
      bounds = (
        is,
        record {
          some = omega (arith, s);
          few = omega (arith, s);
          no_digit = λ i. absurd (omega (arith, s));
          one_digit = λ i. four (omega arith);
          two_digits = λ i. (three (omega (arith, s)), omega (arith, s));
          three_digits = λ i. (omega (arith, s), omega (arith, s));
        },
      );
      scans = hex_inside x v e;
    }

pub second_whole : (high owed bits x v : ℕ) → owed ≡ 1 → SecondBounds owed bits → hex_value x ≡ Some v → LeavesNone (LeftOfCharacter (character_states.Second high owed bits)) inside x (of_pair high (bits * 16 + v))
second_whole high owed bits x v is s e =
    let r = hex_range x v e in
    record {
      on = λ w c h. let g = second_on high owed bits x v e w c h in on w c g g.len g.value;
      back = record { low = bits * 16 + v; len = sym is; value = (v, e, refl); low_is = (omega (arith, s), omega (arith, s)); c_is = refl };
      scans = hex_inside x v e;
    }
  where
    on : (w : List ℕ) (c : ℕ) (g : InSecond high (owed - 1) (bits * 16 + v) w c) → length w ≡ owed - 1 → AreHex w (bits * 16 + v) g.low → (w ≡ []) × (c ≡ of_pair high (bits * 16 + v))
    on [] c g l a = (refl, g.c_is ∙ ap (of_pair high) a)
    on (y ∷ w) c g l a = absurd (omega arith)

pub second_no_digit : (high owed bits x : ℕ) → hex_value x ≡ None → (w : List ℕ) (c : ℕ) → LeftOfCharacter (character_states.Second high owed bits) (x ∷ w) c → ⊥
second_no_digit high owed bits x e w c h = no_digit bits x h.low w e h.value

three_more : (bits u : ℕ) (digits : List ℕ) → length digits ≡ 3 → AreHex digits bits u → (bits * 4096 ≤ u) × (u < bits * 4096 + 4096)
three_more bits u [] l h = absurd (omega arith)
three_more bits u (a ∷ digits) l h =
    let p = hex_range a h.0 h.1 in
    let q = two_more (bits * 16 + h.0) u digits (omega arith) h.2 in (omega arith, omega arith)

-- a low surrogate begins with the digits D and C to F
pub second_four : (high owed bits x v : ℕ) → owed ≡ 4 → bits * 16 + v ≢ 0xD → hex_value x ≡ Some v → (w : List ℕ) (c : ℕ) → LeftOfCharacter (character_states.Second high owed bits) (x ∷ w) c → ⊥
second_four high owed bits x v is ne e w c h =
    let g = second_on high owed bits x v e w c h in
    let r = three_more (bits * 16 + v) g.low w (omega (arith, g.len)) g.value in
    omega (arith, g.low_is)

pub second_three : (high owed bits x v : ℕ) → owed ≡ 3 → bits * 16 + v < 0xDC → hex_value x ≡ Some v → (w : List ℕ) (c : ℕ) → LeftOfCharacter (character_states.Second high owed bits) (x ∷ w) c → ⊥
second_three high owed bits x v is lt e w c h =
    let g = second_on high owed bits x v e w c h in
    let r = two_more (bits * 16 + v) g.low w (omega (arith, g.len)) g.value in
    omega (arith, g.low_is)

-- ---- the result of a step

pub next_is : (L : List ℕ → ℕ → Type 0) (here : Scan) (x k : ℕ) (t : CharacterStep) (s : CharacterState) → x ≡ k → t ≡ character_steps.Next s → LeavesNext L here k s → IsCharacterStep L here x t
next_is L here x k t s e f h = subst (λ (u : CharacterStep). IsCharacterStep L here x u) (sym f) (subst (λ (i : ℕ). LeavesNext L here i s) (sym e) h)

pub whole_is : (L : List ℕ → ℕ → Type 0) (here : Scan) (x c : ℕ) (t : CharacterStep) → t ≡ character_steps.Whole c → LeavesNone L here x c → IsCharacterStep L here x t
whole_is L here x c t f h = subst (λ (u : CharacterStep). IsCharacterStep L here x u) (sym f) h

pub in_state : (s is : CharacterState) (x : ℕ) (t : CharacterStep) → s ≡ is → IsCharacterStep (LeftOfCharacter is) (scan_within is) x t → IsCharacterStep (LeftOfCharacter s) (scan_within s) x t
in_state s is x t e h = subst (λ (i : CharacterState). IsCharacterStep (LeftOfCharacter i) (scan_within i) x t) (sym e) h

pub in_code_range : (u : ℕ) → (u < 0xDC00 → u < 0xD800) → (0xDC00 ≤ u → 0xE000 ≤ u) → u < 0x110000 → InScalarRange u
in_code_range u low high lt =
    elim (cases_lt u 0xDC00) [ inl l ↦ inl (low l) | inr g ↦ inr (high g, omega arith) ]

-- ---- every character that is spelled is one

or_else : (b : Bool) (k c : ℕ) (o : Option ℕ) → k < 128 → (o ≡ Some c → c < 128) → cond b (Some k) o ≡ Some c → c < 128
or_else true k c o lt rest e = omega (arith, some_is k c e)
or_else false k c o lt rest e = rest e

short_small : (x c : ℕ) → short_escape x ≡ Some c → c < 128
short_small x c =
    or_else (x == 34) 34 c _ (omega arith)
    (or_else (x == 92) 92 c _ (omega arith)
    (or_else (x == 47) 47 c _ (omega arith)
    (or_else (x == 98) 8 c _ (omega arith)
    (or_else (x == 102) 12 c _ (omega arith)
    (or_else (x == 110) 10 c _ (omega arith)
    (or_else (x == 114) 13 c _ (omega arith)
    (or_else (x == 116) 9 c None (omega arith) (λ e. absurd (none_is c e)))))))))

pub starts_scalar : (w : List ℕ) (c : ℕ) → IsCharacter c w → InScalarRange c
starts_scalar w c (unescaped h) = h.scalar
starts_scalar w c (short letter s e) = inl (omega (arith, short_small letter c s))
starts_scalar w c (unit s h) = s
starts_scalar w c (pair h) = inr (omega (arith, h.high_is, h.low_is, h.c_is), omega (arith, h.high_is, h.low_is, h.c_is))
