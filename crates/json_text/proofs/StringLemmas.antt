-- The steps inside strings and numbers, whatever the text is for.
use Rattle.std.proofs.Common.{◌≡◌, ◌≢◌, ℕ, ◌≤◌, List, [], ◌∷◌, ◌++◌, length, refl, sym, ap, subst, ◌∙◌, arith, append_assoc}
use Rattle.std.proofs.lemmas.List.{append-nil}
use Rattle.std.specs.Char.{encode_utf8}
use Rattle.std.specs.Str.{encode_utf8_all}
use Rattle.json_text.specs.Character.{IsCharacter, unescaped, short, unit, pair, AreCharacters}
use Rattle.json_text.specs.Scan.{Scan}
use Rattle.json_text.specs.inner.CharacterLeft.{LeftOfCharacter, IsSound, Bounds, LeavesNext, LeavesNone, Starts}
use Rattle.json_text.specs.inner.NumberLeft.{LeftOfNumber, LeavesNumber, EndsNumber}
use Rattle.json_text.specs.inner.ReaderStates.{IsStringRest, IsInside, IsNumberRest}
use Rattle.json_text.specs.declared.character.CharacterState.{CharacterState}
use Rattle.json_text.specs.declared.character.CharacterState.TheVariants as character_states
use Rattle.json_text.specs.declared.number.NumberState.{NumberState}
use Rattle.json_text.proofs.ListLemmas.{head_is, tail_is, not_nil}
use Rattle.json_text.proofs.Utf8Lemmas.{first_of_one}
use Rattle.json_text.proofs.CharacterLemmas.{not_empty, not_unescaped, only_unescaped}

-- ---- the closing quotation mark

pub no_quote : (c : ℕ) (w n b : List ℕ) → IsCharacter c w → 34 ∷ b ≡ w ++ n → ⊥
no_quote c [] n b h e = not_empty c h
no_quote c (x ∷ w) n b h e =
    let u = only_unescaped 34 c w (omega arith) (subst (λ (k : ℕ). IsCharacter c (k ∷ w)) (sym (head_is _ _ _ _ e)) h) in
    u.no_quote (first_of_one 34 c w (omega arith) u.bytes).1

pub closes_on : (K : List ℕ → List ℕ → Type 0) (text b : List ℕ) → IsStringRest K text (34 ∷ b) → K text b
closes_on K text b h = on h.characters h.spelled h.closed
  where
    on : (cs : List ℕ) → AreCharacters cs (34 ∷ b) h.rest → K (text ++ encode_utf8_all cs) h.rest → K text b
    on [] s k = subst (λ (n : List ℕ). K text n) (sym (tail_is _ _ _ _ s)) (subst (λ (t : List ℕ). K t h.rest) (append-nil text) k)
    on (c ∷ cs) s k = absurd (no_quote c s.0 s.1 b s.2 s.3)

pub closes_back : (K : List ℕ → List ℕ → Type 0) (text b : List ℕ) → K text b → IsStringRest K text (34 ∷ b)
closes_back K text b k = record { characters = []; rest = b; spelled = refl; closed = subst (λ (t : List ℕ). K t b) (sym (append-nil text)) k }

-- ---- between two characters

pub begins_on : (K : List ℕ → List ℕ → Type 0) (text : List ℕ) (x : ℕ) (b : List ℕ) → x ≢ 34 → IsStringRest K text (x ∷ b) → IsInside Starts K text (x ∷ b)
begins_on K text x b ne h = on h.characters h.spelled h.closed
  where
    on : (cs : List ℕ) → AreCharacters cs (x ∷ b) h.rest → K (text ++ encode_utf8_all cs) h.rest → IsInside Starts K text (x ∷ b)
    on [] s k = absurd (ne (head_is _ _ _ _ s))
    on (c ∷ cs) s k = record {
      bytes = s.0;
      character = c;
      rest = s.1;
      left = s.2;
      parts = s.3;
      following = record { characters = cs; rest = h.rest; spelled = s.4; closed = subst (λ (t : List ℕ). K t h.rest) (sym (append_assoc text (encode_utf8 c) (encode_utf8_all cs))) k };
    }

pub begins_back : (K : List ℕ → List ℕ → Type 0) (text b : List ℕ) → IsInside Starts K text b → IsStringRest K text b
begins_back K text b h = record {
  characters = h.character ∷ h.following.characters;
  rest = h.following.rest;
  spelled = (h.bytes, h.rest, h.left, h.parts, h.following.spelled);
  closed = subst (λ (t : List ℕ). K t h.following.rest) (append_assoc text (encode_utf8 h.character) (encode_utf8_all h.following.characters)) h.following.closed;
}

-- ---- inside a character

-- something is left
abbrev pub IsPending : (List ℕ → ℕ → Type 0) → Type 0
IsPending L = (c : ℕ) → L [] c → ⊥

pub starts_pending : IsPending Starts
starts_pending c h = not_empty c h

pub pending : (s : CharacterState) → IsSound s → IsPending (LeftOfCharacter s)
pending s sound = by s sound.bounds
  where
    escape : (c : ℕ) → IsCharacter c (92 ∷ []) → ⊥
    escape c (unescaped h) = not_unescaped c [] h
    escape c (short letter s e) = not_nil letter [] (tail_is _ _ _ _ e)
    escape c (unit s h) = not_nil 117 _ (tail_is _ _ _ _ h.parts)
    escape c (pair h) = not_nil 117 _ (tail_is _ _ _ _ (h.parts ∙ ap (λ (l : List ℕ). l ++ h.second) h.first_is.parts))

    digits : (owed : ℕ) (d r : List ℕ) → 1 ≤ owed → length d ≡ owed → [] ≡ d ++ r → ⊥
    digits owed [] r some len e = omega arith
    digits owed (x ∷ d) r some len e = not_nil x _ e

    by : (s : CharacterState) → Bounds s → IsPending (LeftOfCharacter s)
    by (character_states.Utf8 owed low high bits) b c h = omega (arith, h.0, b)
    by character_states.Escape b c h = escape c h
    by (character_states.First owed bits) b c h = digits owed h.digits h.rest b.some h.len h.parts
    by (character_states.Between high) b c h = not_nil 92 _ h.unit.parts
    by (character_states.SecondEscape high) b c h = not_nil 117 _ (tail_is _ _ _ _ h.unit.parts)
    by (character_states.Second high owed bits) b c h = omega (arith, h.len, b.1)

-- the first byte of what is left
inside_first : (L : List ℕ → ℕ → Type 0) (K : List ℕ → List ℕ → Type 0) (text : List ℕ) (x : ℕ) (b : List ℕ) (P : Type 0) → IsPending L → IsInside L K text (x ∷ b)
    → ((w : List ℕ) (c : ℕ) (n : List ℕ) → L (x ∷ w) c → b ≡ w ++ n → IsStringRest K (text ++ encode_utf8 c) n → P) → P
inside_first L K text x b P pending h f = on h.bytes h.left h.parts
  where
    on : (w : List ℕ) → L w h.character → x ∷ b ≡ w ++ h.rest → P
    on [] l e = absurd (pending h.character l)
    on (y ∷ w) l e = f w h.character h.rest (subst (λ (k : ℕ). L (k ∷ w) h.character) (sym (head_is _ _ _ _ e)) l) (tail_is _ _ _ _ e) h.following

pub next_on : (L : List ℕ → ℕ → Type 0) (K : List ℕ → List ℕ → Type 0) (text : List ℕ) (here : Scan) (x : ℕ) (s : CharacterState) (b : List ℕ) → IsPending L → LeavesNext L here x s → IsInside L K text (x ∷ b) → IsInside (LeftOfCharacter s) K text b
next_on L K text here x s b p m h =
    inside_first L K text x b (IsInside (LeftOfCharacter s) K text b) p h (λ w c n l e t. record { bytes = w; character = c; rest = n; left = m.on w c l; parts = e; following = t })

pub next_back : (L : List ℕ → ℕ → Type 0) (K : List ℕ → List ℕ → Type 0) (text : List ℕ) (here : Scan) (x : ℕ) (s : CharacterState) (b : List ℕ) → LeavesNext L here x s → IsInside (LeftOfCharacter s) K text b → IsInside L K text (x ∷ b)
next_back L K text here x s b m h = record { bytes = x ∷ h.bytes; character = h.character; rest = h.rest; left = m.back h.bytes h.character h.left; parts = ap (λ (l : List ℕ). x ∷ l) h.parts; following = h.following }

pub whole_on : (L : List ℕ → ℕ → Type 0) (K : List ℕ → List ℕ → Type 0) (text : List ℕ) (here : Scan) (x c : ℕ) (b : List ℕ) → IsPending L → LeavesNone L here x c → IsInside L K text (x ∷ b) → IsStringRest K (text ++ encode_utf8 c) b
whole_on L K text here x c b p m h =
    inside_first L K text x b (IsStringRest K (text ++ encode_utf8 c) b) p h
    (λ w d n l e t. let g = m.on w d l in
    subst (λ (k : ℕ). IsStringRest K (text ++ encode_utf8 k) b) g.1 (subst (λ (k : List ℕ). IsStringRest K (text ++ encode_utf8 d) k) (sym (e ∙ ap (λ (l : List ℕ). l ++ n) g.0)) t))

pub whole_back : (L : List ℕ → ℕ → Type 0) (K : List ℕ → List ℕ → Type 0) (text : List ℕ) (here : Scan) (x c : ℕ) (b : List ℕ) → LeavesNone L here x c → IsStringRest K (text ++ encode_utf8 c) b → IsInside L K text (x ∷ b)
whole_back L K text here x c b m t = record { bytes = x ∷ []; character = c; rest = b; left = m.back; parts = refl; following = t }

pub wrong_byte : (L : List ℕ → ℕ → Type 0) (K : List ℕ → List ℕ → Type 0) (text : List ℕ) (x : ℕ) (b : List ℕ) → IsPending L → ((w : List ℕ) (c : ℕ) → L (x ∷ w) c → ⊥) → IsInside L K text (x ∷ b) → ⊥
wrong_byte L K text x b p dead h = inside_first L K text x b ⊥ p h (λ w c n l e t. dead w c l)

-- ---- numbers

pub numeral_on : (L : List ℕ → Type 0) (K : List ℕ → List ℕ → Type 0) (text : List ℕ) (c : ℕ) (q : NumberState) (b : List ℕ) → LeavesNumber L c q → ((s n : List ℕ) → K s (c ∷ n) → ⊥) → IsNumberRest L K text (c ∷ b) → IsNumberRest (LeftOfNumber q) K (text ++ c ∷ []) b
numeral_on L K text c q b m dead h = on h.digits h.left h.parts h.following
  where
    on : (s : List ℕ) → L s → c ∷ b ≡ s ++ h.rest → K (text ++ s) h.rest → IsNumberRest (LeftOfNumber q) K (text ++ c ∷ []) b
    on [] l e k = absurd (dead (text ++ []) b (subst (λ (n : List ℕ). K (text ++ []) n) (sym e) k))
    on (x ∷ s) l e k =
        let is = head_is _ _ _ _ e in
        record {
          digits = s;
          rest = h.rest;
          left = m.on s (subst (λ (i : ℕ). L (i ∷ s)) (sym is) l);
          parts = tail_is _ _ _ _ e;
          following = subst (λ (t : List ℕ). K t h.rest) (ap (λ (i : ℕ). text ++ i ∷ s) (sym is) ∙ sym (append_assoc text (c ∷ []) s)) k;
        }

pub numeral_back : (L : List ℕ → Type 0) (K : List ℕ → List ℕ → Type 0) (text : List ℕ) (c : ℕ) (q : NumberState) (b : List ℕ) → LeavesNumber L c q → IsNumberRest (LeftOfNumber q) K (text ++ c ∷ []) b → IsNumberRest L K text (c ∷ b)
numeral_back L K text c q b m h = record {
  digits = c ∷ h.digits;
  rest = h.rest;
  left = m.back h.digits h.left;
  parts = ap (λ (l : List ℕ). c ∷ l) h.parts;
  following = subst (λ (t : List ℕ). K t h.rest) (append_assoc text (c ∷ []) h.digits) h.following;
}

-- a byte with which the number doesn't go on comes after it
pub numeral_ends : (L : List ℕ → Type 0) (K : List ℕ → List ℕ → Type 0) (text : List ℕ) (c : ℕ) (b : List ℕ) → EndsNumber L c → IsNumberRest L K text (c ∷ b) → L [] × K text (c ∷ b)
numeral_ends L K text c b dead h = on h.digits h.left h.parts h.following
  where
    on : (s : List ℕ) → L s → c ∷ b ≡ s ++ h.rest → K (text ++ s) h.rest → L [] × K text (c ∷ b)
    on [] l e k = (l, subst (λ (t : List ℕ). K t (c ∷ b)) (append-nil text) (subst (λ (n : List ℕ). K (text ++ []) n) (sym e) k))
    on (x ∷ s) l e k = absurd (dead s (subst (λ (i : ℕ). L (i ∷ s)) (sym (head_is _ _ _ _ e)) l))

pub numeral_ended : (L : List ℕ → Type 0) (K : List ℕ → List ℕ → Type 0) (text b : List ℕ) → L [] → K text b → IsNumberRest L K text b
numeral_ended L K text b whole k = record { digits = []; rest = b; left = whole; parts = refl; following = subst (λ (t : List ℕ). K t b) (sym (append-nil text)) k }

-- nothing follows
pub numeral_nil : (L : List ℕ → Type 0) (K : List ℕ → List ℕ → Type 0) (text : List ℕ) → IsNumberRest L K text [] → L [] × K text []
numeral_nil L K text h = on h.digits h.left h.parts h.following
  where
    on : (s : List ℕ) → L s → [] ≡ s ++ h.rest → K (text ++ s) h.rest → L [] × K text []
    on [] l e k = (l, subst (λ (t : List ℕ). K t []) (append-nil text) (subst (λ (n : List ℕ). K (text ++ []) n) (sym e) k))
    on (x ∷ s) l e k = absurd (not_nil x _ e)

-- a string doesn't end without its quotation mark
pub text_nil : (K : List ℕ → List ℕ → Type 0) (text : List ℕ) → IsStringRest K text [] → ⊥
text_nil K text h = on h.characters h.spelled
  where
    on : (cs : List ℕ) → AreCharacters cs [] h.rest → ⊥
    on [] s = not_nil 34 _ s
    on (c ∷ cs) s = character c s.0 s.1 s.2 s.3
      where
        character : (c : ℕ) (w n : List ℕ) → IsCharacter c w → [] ≡ w ++ n → ⊥
        character c [] n h e = not_empty c h
        character c (x ∷ w) n h e = not_nil x _ e

pub inside_nil : (L : List ℕ → ℕ → Type 0) (K : List ℕ → List ℕ → Type 0) (text : List ℕ) → IsPending L → IsInside L K text [] → ⊥
inside_nil L K text p h = on h.bytes h.left h.parts
  where
    on : (w : List ℕ) → L w h.character → [] ≡ w ++ h.rest → ⊥
    on [] l e = p h.character l
    on (x ∷ w) l e = not_nil x _ e
