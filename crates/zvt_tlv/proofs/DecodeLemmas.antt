-- What bytes begin with, by the grammar and by the functions that compute it.
use Rattle.std.proofs.Common.{◌≡◌, ◌≢◌, ℕ, ◌+◌, ◌-◌, ◌*◌, ◌%◌, ◌<◌, ◌≤◌, true, false, eqb, ltb, List, [], ◌∷◌, ◌++◌, length, take, drop, Option, Some, None, refl, sym, ap, subst, ◌∙◌, append_assoc, arith, inl, inr}
use Rattle.std.specs.Prelude.{◌⊎◌, replicate}
use Rattle.std.proofs.lemmas.Bool.{cases_lt, cases_eq, le-ltb, lt-ltb, ne_eqb}
use Rattle.std.proofs.lemmas.List.{take_at, drop_at, take-append-drop, length-append, length-take, length-replicate, append-nil}
use Rattle.zvt_tlv.specs.Grammar.{ObjectValue, SpellsTag, SpellsTlvLength, SpellsTlvObject, BeginsWithTlvObject, canonical_tag, canonical_tlv_length, canonical_tlv_object, IsTag}
use Rattle.zvt_tlv.specs.ObjectsGrammar.{IsMalformedTlvObject}
use Rattle.zvt_tlv.specs.Decode.{decode_third_tag_byte, decode_second_tag_byte, decode_tag, decode_one_byte_length, decode_two_byte_length, decode_tlv_length, decode_tlv_value, decode_after_tlv_length, decode_after_tag, decode_tlv_object}

-- ---- from the grammar to the functions

pub tag_found : (prefix : List ℕ) (tag : ℕ) (rest : List ℕ) → SpellsTag prefix tag → decode_tag (prefix ++ rest) ≡ Some (tag, rest)
tag_found [] tag rest h = absurd h
tag_found (b ∷ []) tag rest (other, value) =
    let test : eqb (b % 32) 31 ≡ false = ne_eqb _ _ other in
    rw (test, value) refl
tag_found (b ∷ c ∷ []) tag rest (set, last, value) =
    let small : ltb c 128 ≡ true = lt-ltb _ _ last in
    rw (set, small, value) refl
tag_found (b ∷ c ∷ d ∷ []) tag rest (set, more, last, value) =
    let large : ltb c 128 ≡ false = le-ltb _ _ more in
    let small : ltb d 128 ≡ true = lt-ltb _ _ last in
    rw (set, large, small, value) refl
tag_found (b ∷ c ∷ d ∷ e ∷ prefix) tag rest h = absurd h

pub length_found : (prefix : List ℕ) (n : ℕ) (rest : List ℕ) → SpellsTlvLength prefix n → decode_tlv_length (prefix ++ rest) ≡ Some (n, rest)
length_found [] n rest h = absurd h
length_found (b ∷ []) n rest (small, value) =
    let test : ltb b 128 ≡ true = lt-ltb _ _ small in
    rw (test, value) refl
length_found (form ∷ b ∷ []) n rest (is, value) = rw (is, value) refl
length_found (form ∷ high ∷ low ∷ []) n rest (is, value) = rw (is, value) refl
length_found (form ∷ high ∷ low ∷ b ∷ prefix) n rest h = absurd h

pub value_found : (tag : ℕ) (value rest : List ℕ) → decode_tlv_value tag (length value) (value ++ rest) ≡ Some (record { tag = tag; value = value }, rest)
value_found tag value rest =
    let long : ltb (length (value ++ rest)) (length value) ≡ false = le-ltb _ _ (omega (arith, length-append value rest)) in
    rw (long, take_at value rest (length value) refl, drop_at value rest (length value) refl) refl

pub begins_found : (bytes : List ℕ) (object : ObjectValue) (rest : List ℕ) → BeginsWithTlvObject bytes object rest → decode_tlv_object bytes ≡ Some (object, rest)
unfolding decode_tlv_object
begins_found bytes object rest (prefix, spells, parts) =
    let regrouped : bytes ≡ spells.tag_bytes ++ (spells.length_bytes ++ (object.value ++ rest)) =
    parts ∙ ap (λ (f : List ℕ). f ++ rest) spells.whole ∙ append_assoc spells.tag_bytes (spells.length_bytes ++ object.value) rest
    ∙ ap (λ (t : List ℕ). spells.tag_bytes ++ t) (append_assoc spells.length_bytes object.value rest) in
    ap (λ (b : List ℕ). decode_after_tag (decode_tag b)) regrouped
    ∙ ap decode_after_tag (tag_found spells.tag_bytes object.tag (spells.length_bytes ++ (object.value ++ rest)) spells.is_tag)
    ∙ ap (decode_after_tlv_length object.tag) (length_found spells.length_bytes (length object.value) (object.value ++ rest) spells.is_length)
    ∙ value_found object.tag object.value rest

-- ---- from the functions to the grammar

-- what was read, and what follows it
record Tagged (bytes : List ℕ) (tag : ℕ) (rest : List ℕ) : Type 0 where
  prefix : List ℕ
  is_tag : SpellsTag prefix tag
  parts : bytes ≡ prefix ++ rest

pub record Measured (bytes : List ℕ) (n : ℕ) (rest : List ℕ) : Type 0 where
  pub prefix : List ℕ
  pub is_length : SpellsTlvLength prefix n
  pub parts : bytes ≡ prefix ++ rest

-- pairs that are found are equal where their results are
abbrev pub some_of : {A : Type 0} → A → Option A
some_of x = Some x

pub some_of_is : {A : Type 0} (x y : A) → some_of x ≡ some_of y → x ≡ y
some_of_is x y e = cc

pub found_number : (m n : ℕ) (xs ys : List ℕ) → some_of {A = ℕ × List ℕ} (m, xs) ≡ some_of {A = ℕ × List ℕ} (n, ys) → (m ≡ n) × (xs ≡ ys)
found_number m n xs ys e =
    let pair = some_of_is {A = ℕ × List ℕ} (m, xs) (n, ys) e in
    (ap (λ (p : ℕ × List ℕ). p.0) pair, ap (λ (p : ℕ × List ℕ). p.1) pair)

pub found_object : (m n : ObjectValue) (xs ys : List ℕ) → some_of {A = ObjectValue × List ℕ} (m, xs) ≡ some_of {A = ObjectValue × List ℕ} (n, ys) → (m ≡ n) × (xs ≡ ys)
found_object m n xs ys e =
    let pair = some_of_is {A = ObjectValue × List ℕ} (m, xs) (n, ys) e in
    (ap (λ (p : ObjectValue × List ℕ). p.0) pair, ap (λ (p : ObjectValue × List ℕ). p.1) pair)

third_read : (b c : ℕ) (bytes : List ℕ) (tag : ℕ) (rest : List ℕ) → b % 32 ≡ 31 → 128 ≤ c → decode_third_tag_byte b c bytes ≡ Some (tag, rest) → Tagged (b ∷ c ∷ bytes) tag rest
third_read b c [] tag rest set large e = absurd cc
third_read b c (d ∷ bytes) tag rest set large e =
    elim (cases_lt d 128) [
      | inl small ↦
          let test : ltb d 128 ≡ true = lt-ltb _ _ small in
          let both = found_number (d + 256 * c + 65536 * b) tag bytes rest (rw test at e) in
          record { prefix = b ∷ c ∷ d ∷ []; is_tag = (set, large, small, sym both.0); parts = ap (λ (t : List ℕ). b ∷ c ∷ d ∷ t) both.1 }
      | inr more ↦ let test : ltb d 128 ≡ false = le-ltb _ _ more in let none = rw test at e in absurd (cc none)
    ]

second_read : (b : ℕ) (bytes : List ℕ) (tag : ℕ) (rest : List ℕ) → b % 32 ≡ 31 → decode_second_tag_byte b bytes ≡ Some (tag, rest) → Tagged (b ∷ bytes) tag rest
second_read b [] tag rest set e = absurd cc
second_read b (c ∷ bytes) tag rest set e =
    elim (cases_lt c 128) [
      | inl small ↦
          let test : ltb c 128 ≡ true = lt-ltb _ _ small in
          let both = found_number (c + 256 * b) tag bytes rest (rw test at e) in
          record { prefix = b ∷ c ∷ []; is_tag = (set, small, sym both.0); parts = ap (λ (t : List ℕ). b ∷ c ∷ t) both.1 }
      | inr large ↦ let test : ltb c 128 ≡ false = le-ltb _ _ large in third_read b c bytes tag rest set large (rw test at e)
    ]

tag_read : (bytes : List ℕ) (tag : ℕ) (rest : List ℕ) → decode_tag bytes ≡ Some (tag, rest) → Tagged bytes tag rest
tag_read [] tag rest e = absurd cc
tag_read (b ∷ bytes) tag rest e =
    elim (cases_eq (b % 32) 31) [
      | inl set ↦ second_read b bytes tag rest set (rw set at e)
      | inr other ↦
          let test : eqb (b % 32) 31 ≡ false = ne_eqb _ _ other in
          let both = found_number b tag bytes rest (rw test at e) in
          record { prefix = b ∷ []; is_tag = (other, sym both.0); parts = ap (λ (t : List ℕ). b ∷ t) both.1 }
    ]

one_read : (bytes : List ℕ) (n : ℕ) (rest : List ℕ) → decode_one_byte_length bytes ≡ Some (n, rest) → Measured (129 ∷ bytes) n rest
one_read [] n rest e = absurd cc
one_read (b ∷ bytes) n rest e =
    let both = found_number b n bytes rest e in
    record { prefix = 129 ∷ b ∷ []; is_length = (refl, sym both.0); parts = ap (λ (t : List ℕ). 129 ∷ b ∷ t) both.1 }

two_read : (bytes : List ℕ) (n : ℕ) (rest : List ℕ) → decode_two_byte_length bytes ≡ Some (n, rest) → Measured (130 ∷ bytes) n rest
two_read [] n rest e = absurd cc
two_read (high ∷ []) n rest e = absurd cc
two_read (high ∷ low ∷ bytes) n rest e =
    let both = found_number (low + 256 * high) n bytes rest e in
    record { prefix = 130 ∷ high ∷ low ∷ []; is_length = (refl, sym both.0); parts = ap (λ (t : List ℕ). 130 ∷ high ∷ low ∷ t) both.1 }

-- the first byte of a length: below 80, 81, 82 or another
data LengthByte : ℕ → Type 0 where
  ShortForm : {b : ℕ} → b < 128 → LengthByte b
  One : {b : ℕ} → b ≡ 129 → LengthByte b
  Two : {b : ℕ} → b ≡ 130 → LengthByte b
  Bad : {b : ℕ} → (b ≡ 128) ⊎ (130 < b) → LengthByte b

form_of : (b : ℕ) → LengthByte b
form_of b =
    elim (cases_lt b 128) [
      | inl small ↦ ShortForm small
      | inr large ↦ elim (cases_eq b 129) [
        | inl e ↦ One e
        | inr ne ↦ elim (cases_eq b 130) [
          | inl e ↦ Two e
          | inr other ↦ elim (cases_eq b 128) [ inl e ↦ Bad (inl e) | inr most ↦ Bad (inr (omega arith)) ]
        ]
      ]
    ]

bad_length : (b : ℕ) (bytes : List ℕ) → (b ≡ 128) ⊎ (130 < b) → decode_tlv_length (b ∷ bytes) ≡ None
bad_length b bytes (inl is) = rw is refl
bad_length b bytes (inr above) =
    let large : ltb b 128 ≡ false = le-ltb _ _ (omega arith) in
    let not_one : eqb b 129 ≡ false = ne_eqb _ _ (λ e. omega arith) in
    let not_two : eqb b 130 ≡ false = ne_eqb _ _ (λ e. omega arith) in
    rw (large, not_one, not_two) refl

length_by : (b : ℕ) (bytes : List ℕ) (n : ℕ) (rest : List ℕ) → LengthByte b → decode_tlv_length (b ∷ bytes) ≡ Some (n, rest) → Measured (b ∷ bytes) n rest
length_by b bytes n rest (ShortForm small) e =
    let test : ltb b 128 ≡ true = lt-ltb _ _ small in
    let both = found_number b n bytes rest (rw test at e) in
    record { prefix = b ∷ []; is_length = (small, sym both.0); parts = ap (λ (t : List ℕ). b ∷ t) both.1 }
length_by b bytes n rest (One is) e = subst (λ (f : ℕ). Measured (f ∷ bytes) n rest) (sym is) (one_read bytes n rest (rw is at e))
length_by b bytes n rest (Two is) e = subst (λ (f : ℕ). Measured (f ∷ bytes) n rest) (sym is) (two_read bytes n rest (rw is at e))
length_by b bytes n rest (Bad form) e = let none = bad_length b bytes form in absurd (cc (none, e))

pub length_read : (bytes : List ℕ) (n : ℕ) (rest : List ℕ) → decode_tlv_length bytes ≡ Some (n, rest) → Measured bytes n rest
length_read [] n rest e = absurd cc
length_read (b ∷ bytes) n rest e = length_by b bytes n rest (form_of b) e

-- ---- an object that was read

-- what is there after a header
value_read : (tag n : ℕ) (bytes : List ℕ) (object : ObjectValue) (rest : List ℕ) → decode_tlv_value tag n bytes ≡ Some (object, rest) → (tag ≡ object.tag) × (n ≡ length object.value) × (bytes ≡ object.value ++ rest)
value_read tag n bytes object rest e =
    elim (cases_lt (length bytes) n) [
      | inl truncated ↦ let test : ltb (length bytes) n ≡ true = lt-ltb _ _ truncated in let none = rw test at e in absurd (cc none)
      | inr there ↦
          let test : ltb (length bytes) n ≡ false = le-ltb _ _ there in
          let both = found_object (record { tag = tag; value = take n bytes }) object (drop n bytes) rest (rw test at e) in
          let value : take n bytes ≡ object.value = ap (λ (o : ObjectValue). o.value) both.0 in
          (ap (λ (o : ObjectValue). o.tag) both.0, omega (arith, ap length value, length-take n bytes), sym (take-append-drop n bytes) ∙ ap (λ (v : List ℕ). v ++ drop n bytes) value ∙ ap (λ (r : List ℕ). object.value ++ r) both.1)
    ]

pub found_begins : (bytes : List ℕ) (object : ObjectValue) (rest : List ℕ) → decode_tlv_object bytes ≡ Some (object, rest) → BeginsWithTlvObject bytes object rest
unfolding decode_tlv_object
found_begins bytes object rest e = at_tag (decode_tag bytes) refl e where
  at_length : (tag : ℕ) (after : List ℕ) (found : Option (ℕ × List ℕ)) → decode_tag bytes ≡ Some (tag, after) → decode_tlv_length after ≡ found → decode_after_tlv_length tag found ≡ Some (object, rest) → BeginsWithTlvObject bytes object rest
  at_length tag after None is_tag is_length e = absurd cc
  at_length tag after (Some (n, after_length)) is_tag is_length e =
      let t = tag_read bytes tag after is_tag in
      let l = length_read after n after_length is_length in
      let v = value_read tag n after_length object rest e in
      let spells : SpellsTlvObject (t.prefix ++ (l.prefix ++ object.value)) object = record {
        tag_bytes = t.prefix;
        length_bytes = l.prefix;
        is_tag = rw (← v.0) t.is_tag;
        is_length = rw (← v.1) l.is_length;
        whole = refl;
      } in (
        t.prefix ++ (l.prefix ++ object.value),
        spells,
        t.parts ∙ ap (λ (b : List ℕ). t.prefix ++ b) (l.parts ∙ ap (λ (b : List ℕ). l.prefix ++ b) v.2 ∙ sym (append_assoc l.prefix object.value rest)) ∙ sym (append_assoc t.prefix (l.prefix ++ object.value) rest),
      )

  at_tag : (found : Option (ℕ × List ℕ)) → decode_tag bytes ≡ found → decode_after_tag found ≡ Some (object, rest) → BeginsWithTlvObject bytes object rest
  at_tag None is_tag e = absurd cc
  at_tag (Some (tag, after)) is_tag e = at_length tag after (decode_tlv_length after) is_tag refl e

-- ---- what is malformed

-- with more bytes after it, it is an object
truncated_by : (bytes more prefix length_bytes value : List ℕ) (tag : ℕ) → bytes ≢ [] → more ≢ [] → SpellsTag prefix tag → SpellsTlvLength length_bytes (length value) → bytes ++ more ≡ prefix ++ (length_bytes ++ value) → IsMalformedTlvObject bytes
truncated_by bytes more prefix length_bytes value tag some longer is_tag is_length whole =
    let spells : SpellsTlvObject (bytes ++ more) (record { tag = tag; value = value }) = record { tag_bytes = prefix; length_bytes = length_bytes; is_tag = is_tag; is_length = is_length; whole = whole } in
    inl (some, more, record { tag = tag; value = value }, longer, spells)

third_missing : (b c : ℕ) (bytes : List ℕ) → b % 32 ≡ 31 → 128 ≤ c → decode_third_tag_byte b c bytes ≡ None → IsMalformedTlvObject (b ∷ c ∷ bytes)
third_missing b c [] set large e =
    truncated_by (b ∷ c ∷ []) (0 ∷ 0 ∷ []) (b ∷ c ∷ 0 ∷ []) (0 ∷ []) [] (256 * c + 65536 * b) (λ e. absurd cc) (λ e. absurd cc) (set, large, omega arith, omega arith) (omega arith, refl) refl
third_missing b c (d ∷ bytes) set large e =
    elim (cases_lt d 128) [
      | inl small ↦ let test : ltb d 128 ≡ true = lt-ltb _ _ small in let there = rw test at e in absurd (cc there)
      | inr more ↦ inr (inl (b, c, d, bytes, set, large, more, refl))
    ]

second_missing : (b : ℕ) (bytes : List ℕ) → b % 32 ≡ 31 → decode_second_tag_byte b bytes ≡ None → IsMalformedTlvObject (b ∷ bytes)
second_missing b [] set e =
    truncated_by (b ∷ []) (0 ∷ 0 ∷ []) (b ∷ 0 ∷ []) (0 ∷ []) [] (256 * b) (λ e. absurd cc) (λ e. absurd cc) (set, omega arith, omega arith) (omega arith, refl) refl
second_missing b (c ∷ bytes) set e =
    elim (cases_lt c 128) [
      | inl small ↦ let test : ltb c 128 ≡ true = lt-ltb _ _ small in let there = rw test at e in absurd (cc there)
      | inr large ↦ let test : ltb c 128 ≡ false = le-ltb _ _ large in third_missing b c bytes set large (rw test at e)
    ]

tag_missing : (bytes : List ℕ) → bytes ≢ [] → decode_tag bytes ≡ None → IsMalformedTlvObject bytes
tag_missing [] some e = absurd (some refl)
tag_missing (b ∷ bytes) some e =
    elim (cases_eq (b % 32) 31) [
      | inl set ↦ second_missing b bytes set (rw set at e)
      | inr other ↦ let test : eqb (b % 32) 31 ≡ false = ne_eqb _ _ other in let there = rw test at e in absurd (cc there)
    ]

-- a tag has bytes
tag_some : (prefix rest : List ℕ) (tag : ℕ) → SpellsTag prefix tag → prefix ++ rest ≢ []
tag_some [] rest tag h e = h
tag_some (b ∷ prefix) rest tag h e = cc

-- after a tag, the bytes that are there of a length and a value, and what makes them whole
truncated_after : (prefix there more length_bytes value : List ℕ) (tag : ℕ) → SpellsTag prefix tag → more ≢ [] → SpellsTlvLength length_bytes (length value) → there ++ more ≡ length_bytes ++ value → IsMalformedTlvObject (prefix ++ there)
truncated_after prefix there more length_bytes value tag is_tag longer is_length whole =
    truncated_by (prefix ++ there) more prefix length_bytes value tag (tag_some prefix there tag is_tag) longer is_tag is_length (append_assoc prefix there more ∙ ap (λ (t : List ℕ). prefix ++ t) whole)

zeros : ℕ → List ℕ
zeros n = replicate n 0

zeros_are : (n : ℕ) → length (zeros n) ≡ n
unfolding zeros
zeros_are n = length-replicate {A = ℕ} n 0

length_missing : (prefix : List ℕ) (tag : ℕ) (b : ℕ) (bytes : List ℕ) → SpellsTag prefix tag → LengthByte b → decode_tlv_length (b ∷ bytes) ≡ None → IsMalformedTlvObject (prefix ++ b ∷ bytes)
length_missing prefix tag b bytes is_tag (ShortForm small) e =
    let test : ltb b 128 ≡ true = lt-ltb _ _ small in let there = rw test at e in absurd (cc there)
length_missing prefix tag b [] is_tag (One is) e =
    truncated_after prefix (b ∷ []) (0 ∷ []) (b ∷ 0 ∷ []) [] tag is_tag (λ e. absurd cc) (is, refl) refl
length_missing prefix tag b (n ∷ bytes) is_tag (One is) e = let there = rw is at e in absurd (cc there)
length_missing prefix tag b [] is_tag (Two is) e =
    truncated_after prefix (b ∷ []) (0 ∷ 0 ∷ []) (b ∷ 0 ∷ 0 ∷ []) [] tag is_tag (λ e. absurd cc) (is, refl) refl
length_missing prefix tag b (high ∷ []) is_tag (Two is) e =
    let size = zeros_are (256 * high) in
    truncated_after prefix (b ∷ high ∷ []) (0 ∷ zeros (256 * high)) (b ∷ high ∷ 0 ∷ []) (zeros (256 * high)) tag is_tag (λ e. absurd cc) (is, omega (arith, size)) refl
length_missing prefix tag b (high ∷ low ∷ bytes) is_tag (Two is) e = let there = rw is at e in absurd (cc there)
length_missing prefix tag b bytes is_tag (Bad form) e = inr (inr (prefix, tag, b, bytes, is_tag, form, refl))

value_missing : (prefix length_bytes : List ℕ) (tag n : ℕ) (bytes : List ℕ) → SpellsTag prefix tag → SpellsTlvLength length_bytes n → decode_tlv_value tag n bytes ≡ None → IsMalformedTlvObject (prefix ++ (length_bytes ++ bytes))
value_missing prefix length_bytes tag n bytes is_tag is_length e =
    elim (cases_lt (length bytes) n) [
      | inl truncated ↦
          let missing = zeros (n - length bytes) in
          let count = zeros_are (n - length bytes) in
          let size : length (bytes ++ missing) ≡ n = omega (arith, length-append bytes missing, count) in
          truncated_after prefix (length_bytes ++ bytes) missing length_bytes (bytes ++ missing) tag is_tag (λ none. omega (arith, ap length none, count)) (rw size is_length) (append_assoc length_bytes bytes missing)
      | inr there ↦ let test : ltb (length bytes) n ≡ false = le-ltb _ _ there in let there = rw test at e in absurd (cc there)
    ]

pub none_malformed : (bytes : List ℕ) → bytes ≢ [] → decode_tlv_object bytes ≡ None → IsMalformedTlvObject bytes
unfolding decode_tlv_object
none_malformed bytes some e = at_tag (decode_tag bytes) refl e where
  at_length : (prefix : List ℕ) (tag : ℕ) (after : List ℕ) (found : Option (ℕ × List ℕ)) → SpellsTag prefix tag → decode_tlv_length after ≡ found → decode_after_tlv_length tag found ≡ None → IsMalformedTlvObject (prefix ++ after)
  at_length prefix tag [] None is_tag is_length e =
      truncated_after prefix [] (0 ∷ []) (0 ∷ []) [] tag is_tag (λ e. absurd cc) (omega arith, refl) refl
  at_length prefix tag (b ∷ after) None is_tag is_length e = length_missing prefix tag b after is_tag (form_of b) is_length
  at_length prefix tag after (Some (n, after_length)) is_tag is_length e =
      let l = length_read after n after_length is_length in
      subst (λ (a : List ℕ). IsMalformedTlvObject (prefix ++ a)) (sym l.parts) (value_missing prefix l.prefix tag n after_length is_tag l.is_length e)

  at_tag : (found : Option (ℕ × List ℕ)) → decode_tag bytes ≡ found → decode_after_tag found ≡ None → IsMalformedTlvObject bytes
  at_tag None is_tag e = tag_missing bytes some is_tag
  at_tag (Some (tag, after)) is_tag e =
      let t = tag_read bytes tag after is_tag in
      subst IsMalformedTlvObject (sym t.parts) (at_length t.prefix tag after (decode_tlv_length after) t.is_tag refl e)

-- ---- and nothing else is

begins_longer : (bytes more : List ℕ) (object : ObjectValue) (rest : List ℕ) → BeginsWithTlvObject bytes object rest → BeginsWithTlvObject (bytes ++ more) object (rest ++ more)
begins_longer bytes more object rest (prefix, spells, parts) = (prefix, spells, ap (λ (b : List ℕ). b ++ more) parts ∙ append_assoc prefix rest more)

nil_of_append : (xs ys : List ℕ) → xs ++ ys ≡ [] → ys ≡ []
nil_of_append [] ys e = e
nil_of_append (x ∷ xs) ys e = absurd cc

-- malformed bytes begin with no object
pub malformed_begins : (bytes : List ℕ) (object : ObjectValue) (rest : List ℕ) → IsMalformedTlvObject bytes → BeginsWithTlvObject bytes object rest → ⊥
unfolding decode_tlv_object
malformed_begins bytes object rest (inl (some, more, other, longer, spells)) begins =
    let one = begins_found (bytes ++ more) object (rest ++ more) (begins_longer bytes more object rest begins) in
    let whole = begins_found (bytes ++ more) other [] (bytes ++ more, spells, sym (append-nil (bytes ++ more))) in
    longer (nil_of_append rest more (found_object object other (rest ++ more) [] (sym one ∙ whole)).1)
malformed_begins bytes object rest (inr (inl (b, c, d, more, set, second, third, parts))) begins =
    let large : ltb c 128 ≡ false = le-ltb _ _ second in
    let larger : ltb d 128 ≡ false = le-ltb _ _ third in
    let none : decode_tlv_object (b ∷ c ∷ d ∷ more) ≡ None = rw (set, large, larger) refl in
    let found = begins_found bytes object rest begins in
    cc (none, found, parts)
malformed_begins bytes object rest (inr (inr (prefix, tag, form, more, is_tag, bad, parts))) begins =
    let none : decode_tlv_object (prefix ++ form ∷ more) ≡ None = ap decode_after_tag (tag_found prefix tag (form ∷ more) is_tag) ∙ ap (decode_after_tlv_length tag) (bad_length form more bad) in
    let found = begins_found bytes object rest begins in
    cc (none, found, parts)

pub malformed_none : (bytes : List ℕ) (found : Option (ObjectValue × List ℕ)) → IsMalformedTlvObject bytes → decode_tlv_object bytes ≡ found → found ≡ None
malformed_none bytes None malformed e = refl
malformed_none bytes (Some (object, rest)) malformed e = absurd (malformed_begins bytes object rest malformed (found_begins bytes object rest e))

pub malformed_some : (bytes : List ℕ) → IsMalformedTlvObject bytes → bytes ≢ []
malformed_some bytes (inl (some, more, object, longer, spells)) e = some e
malformed_some bytes (inr (inl (b, c, d, more, set, second, third, parts))) e = cc
malformed_some bytes (inr (inr (prefix, tag, form, more, is_tag, bad, parts))) e = tag_some prefix (form ∷ more) tag is_tag (sym parts ∙ e)

-- ---- what is written

written_is_length : (n : ℕ) → n < 65536 → SpellsTlvLength (canonical_tlv_length n) n
written_is_length n small =
    elim (cases_lt n 128) [
      | inl short ↦ let test : ltb n 128 ≡ true = lt-ltb _ _ short in rw test (short, refl)
      | inr more ↦
          let first : ltb n 128 ≡ false = le-ltb _ _ more in
          elim (cases_lt n 256) [
            | inl one ↦ let test : ltb n 256 ≡ true = lt-ltb _ _ one in rw (first, test) (refl, refl)
            | inr two ↦ let test : ltb n 256 ≡ false = le-ltb _ _ two in rw (first, test) (refl, omega arith)
          ]
    ]

pub written_spells : (object : ObjectValue) → IsTag object.tag → length object.value < 65536 → SpellsTlvObject (canonical_tlv_object object.tag object.value) object
written_spells object is_tag small = record {
  tag_bytes = canonical_tag object.tag;
  length_bytes = canonical_tlv_length (length object.value);
  is_tag = is_tag;
  is_length = written_is_length (length object.value) small;
  whole = refl;
}

pub written_again : (object : ObjectValue) (rest : List ℕ) → IsTag object.tag → length object.value < 65536 → decode_tlv_object (canonical_tlv_object object.tag object.value ++ rest) ≡ Some (object, rest)
written_again object rest is_tag small =
    begins_found (canonical_tlv_object object.tag object.value ++ rest) object rest (canonical_tlv_object object.tag object.value, written_spells object is_tag small, refl)
