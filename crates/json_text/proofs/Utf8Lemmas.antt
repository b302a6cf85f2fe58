-- The bytes of a character.
use Rattle.std.proofs.Common.{◌≡◌, ℕ, ◌+◌, ◌-◌, ◌*◌, ◌/◌, ◌%◌, ◌<◌, ◌≤◌, List, [], ◌∷◌, length, refl, sym, subst, ◌∙◌, arith, inl, inr, ◌⊎◌}
use Rattle.std.specs.Char.{encode_utf8, InScalarRange}
use Rattle.std.proofs.lemmas.Bool.{le-ltb, lt-ltb, cases_lt}
use Rattle.json_text.specs.inner.CharacterLeft.{Completes}
use Rattle.json_text.proofs.ListLemmas.{head_is, tail_is}

-- which bytes a character has, by its code
pub data Bytes (c : ℕ) : Type 0 where
  one : c < 128 → encode_utf8 c ≡ c ∷ [] → Bytes c
  two : 128 ≤ c → c < 2048 → encode_utf8 c ≡ (192 + c / 64) ∷ (128 + c % 64) ∷ [] → Bytes c
  three : 2048 ≤ c → c < 65536 → encode_utf8 c ≡ (224 + c / 4096) ∷ (128 + (c / 64) % 64) ∷ (128 + c % 64) ∷ [] → Bytes c
  four : 65536 ≤ c → encode_utf8 c ≡ (240 + c / 262144) ∷ (128 + (c / 4096) % 64) ∷ (128 + (c / 64) % 64) ∷ (128 + c % 64) ∷ [] → Bytes c

pub bytes_of : (c : ℕ) → Bytes c
unfolding encode_utf8
bytes_of c =
    elim (cases_lt c 128) [
      | inl lt ↦ one lt (rw (lt-ltb c 128 lt) refl)
      | inr le ↦ elim (cases_lt c 2048) [
        | inl lt ↦ two le lt (rw (le-ltb c 128 le, lt-ltb c 2048 lt) refl)
        | inr le2 ↦ elim (cases_lt c 65536) [
          | inl lt ↦ three le2 lt (rw (le-ltb c 128 le, le-ltb c 2048 le2, lt-ltb c 65536 lt) refl)
          | inr le3 ↦ four le3 (rw (le-ltb c 128 le, le-ltb c 2048 le2, le-ltb c 65536 le3) refl)
        ]
      ]
    ]

cells2 : (a b x y : ℕ) → a ≡ x → b ≡ y → a ∷ b ∷ [] ≡ x ∷ y ∷ []
cells2 a b x y e f = cc

cells3 : (a b c x y z : ℕ) → a ≡ x → b ≡ y → c ≡ z → a ∷ b ∷ c ∷ [] ≡ x ∷ y ∷ z ∷ []
cells3 a b c x y z e f g = cc

cells4 : (a b c d x y z w : ℕ) → a ≡ x → b ≡ y → c ≡ z → d ≡ w → a ∷ b ∷ c ∷ d ∷ [] ≡ x ∷ y ∷ z ∷ w ∷ []
cells4 a b c d x y z w e f g h = cc

-- ---- from the bytes to the character

pub encode_two : (x y c : ℕ) → 194 ≤ x → x ≤ 223 → 128 ≤ y → y ≤ 191 → c ≡ (x - 192) * 64 + (y - 128) → x ∷ y ∷ [] ≡ encode_utf8 c
encode_two x y c x0 x1 y0 y1 e =
    elim (bytes_of c) [
      | one lt f ↦ absurd (omega arith)
      | two le lt f ↦ cells2 _ _ _ _ (omega arith) (omega arith) ∙ sym f
      | three le lt f ↦ absurd (omega arith)
      | four le f ↦ absurd (omega arith)
    ]

-- the code of three bytes, and of four
abbrev pub of_three : ℕ → ℕ → ℕ → ℕ
of_three x y z = ((x - 224) * 64 + (y - 128)) * 64 + (z - 128)

abbrev pub of_four : ℕ → ℕ → ℕ → ℕ → ℕ
of_four x y z u = (((x - 240) * 64 + (y - 128)) * 64 + (z - 128)) * 64 + (u - 128)

pub encode_three : (x y z c : ℕ) → 224 ≤ x → x ≤ 239 → 128 ≤ y → y ≤ 191 → 128 ≤ z → z ≤ 191 → 2048 ≤ of_three x y z → c ≡ of_three x y z → x ∷ y ∷ z ∷ [] ≡ encode_utf8 c
encode_three x y z c x0 x1 y0 y1 z0 z1 big e =
    elim (bytes_of c) [
      | one lt f ↦ absurd (omega arith)
      | two le lt f ↦ absurd (omega arith)
      | three le lt f ↦ cells3 _ _ _ _ _ _ (omega arith) (omega arith) (omega arith) ∙ sym f
      | four le f ↦ absurd (omega arith)
    ]

pub encode_four : (x y z u c : ℕ) → 240 ≤ x → x ≤ 244 → 128 ≤ y → y ≤ 191 → 128 ≤ z → z ≤ 191 → 128 ≤ u → u ≤ 191 → 65536 ≤ of_four x y z u → c ≡ of_four x y z u → x ∷ y ∷ z ∷ u ∷ [] ≡ encode_utf8 c
encode_four x y z u c x0 x1 y0 y1 z0 z1 u0 u1 big e =
    elim (bytes_of c) [
      | one lt f ↦ absurd (omega arith)
      | two le lt f ↦ absurd (omega arith)
      | three le lt f ↦ absurd (omega arith)
      | four le f ↦ cells4 _ _ _ _ _ _ _ _ (omega arith) (omega arith) (omega arith) (omega arith) ∙ sym f
    ]

-- ---- from the first byte to what is left

-- the bytes after the first one complete its bits
abbrev pub Tail : ℕ → ℕ → ℕ → ℕ → List ℕ → ℕ → Type 0
Tail owed low high bits w c = (length w ≡ owed) × Completes low high bits w c

pub first_of_one : (x c : ℕ) (w : List ℕ) → x < 128 → x ∷ w ≡ encode_utf8 c → (w ≡ []) × (c ≡ x)
first_of_one x c w lt e =
    elim (bytes_of c) [
      | one l f ↦ (tail_is _ _ _ _ (e ∙ f), sym (head_is _ _ _ _ (e ∙ f)))
      | two le l f ↦ absurd (omega (arith, head_is _ _ _ _ (e ∙ f)))
      | three le l f ↦ absurd (omega (arith, head_is _ _ _ _ (e ∙ f)))
      | four le f ↦ absurd (omega (arith, head_is _ _ _ _ (e ∙ f)))
    ]

pub first_of_two : (x c : ℕ) (w : List ℕ) → 194 ≤ x → x ≤ 223 → x ∷ w ≡ encode_utf8 c → Tail 1 128 191 (x - 192) w c
first_of_two x c w x0 x1 e =
    elim (bytes_of c) [
      | one l f ↦ absurd (omega (arith, head_is _ _ _ _ (e ∙ f)))
      | two le l f ↦ (let h = head_is _ _ _ _ (e ∙ f) in subst (λ (v : List ℕ). Tail 1 128 191 (x - 192) v c) (sym (tail_is _ _ _ _ (e ∙ f))) (refl, (omega arith, omega arith, omega (arith, h))))
      | three le l f ↦ absurd (omega (arith, head_is _ _ _ _ (e ∙ f)))
      | four le f ↦ absurd (omega (arith, head_is _ _ _ _ (e ∙ f)))
    ]

pub first_of_three : (x low high c : ℕ) (w : List ℕ) → 224 ≤ x → x ≤ 239
    → ((y z : ℕ) → 128 ≤ y → y ≤ 191 → 128 ≤ z → z ≤ 191 → 2048 ≤ of_three x y z → InScalarRange (of_three x y z) → (low ≤ y) × (y ≤ high))
    → x ∷ w ≡ encode_utf8 c → InScalarRange c → Tail 2 low high (x - 224) w c
first_of_three x low high c w x0 x1 within e scalar =
    elim (bytes_of c) [
      | one l f ↦ absurd (omega (arith, head_is _ _ _ _ (e ∙ f)))
      | two le l f ↦ absurd (omega (arith, head_is _ _ _ _ (e ∙ f)))
      | three le l f ↦ (
          let h = head_is _ _ _ _ (e ∙ f) in
          let y : ℕ = 128 + (c / 64) % 64 in
          let z : ℕ = 128 + c % 64 in
          let is : c ≡ of_three x y z = omega (arith, h) in
          let b = within y z (omega arith) (omega arith) (omega arith) (omega arith) (omega (arith, is)) (subst (λ (k : ℕ). InScalarRange k) is scalar) in
          subst (λ (v : List ℕ). Tail 2 low high (x - 224) v c) (sym (tail_is _ _ _ _ (e ∙ f))) (refl, (b.0, b.1, (omega arith, omega arith, is))))
      | four le f ↦ absurd (omega (arith, head_is _ _ _ _ (e ∙ f)))
    ]

pub first_of_four : (x low high c : ℕ) (w : List ℕ) → 240 ≤ x → x ≤ 244
    → ((y z u : ℕ) → 128 ≤ y → y ≤ 191 → 128 ≤ z → z ≤ 191 → 128 ≤ u → u ≤ 191 → 65536 ≤ of_four x y z u → of_four x y z u < 0x110000 → (low ≤ y) × (y ≤ high))
    → x ∷ w ≡ encode_utf8 c → c < 0x110000 → Tail 3 low high (x - 240) w c
first_of_four x low high c w x0 x1 within e lt =
    elim (bytes_of c) [
      | one l f ↦ absurd (omega (arith, head_is _ _ _ _ (e ∙ f)))
      | two le l f ↦ absurd (omega (arith, head_is _ _ _ _ (e ∙ f)))
      | three le l f ↦ absurd (omega (arith, head_is _ _ _ _ (e ∙ f)))
      | four le f ↦ (
          let h = head_is _ _ _ _ (e ∙ f) in
          let y : ℕ = 128 + (c / 4096) % 64 in
          let z : ℕ = 128 + (c / 64) % 64 in
          let u : ℕ = 128 + c % 64 in
          let is : c ≡ of_four x y z u = omega (arith, h) in
          let b = within y z u (omega arith) (omega arith) (omega arith) (omega arith) (omega arith) (omega arith) (omega (arith, is)) (omega (arith, is)) in
          subst (λ (v : List ℕ). Tail 3 low high (x - 240) v c) (sym (tail_is _ _ _ _ (e ∙ f))) (refl, (b.0, b.1, (omega arith, omega arith, (omega arith, omega arith, is)))))
    ]

-- no character begins with another byte
pub first_of_none : (x c : ℕ) (w : List ℕ) → 128 ≤ x → (x < 194) ⊎ (244 < x) → c < 0x110000 → x ∷ w ≡ encode_utf8 c → ⊥
first_of_none x c w x0 out lt e =
    elim (bytes_of c) [
      | one l f ↦ omega (arith, head_is _ _ _ _ (e ∙ f))
      | two le l f ↦ omega (arith, head_is _ _ _ _ (e ∙ f))
      | three le l f ↦ omega (arith, head_is _ _ _ _ (e ∙ f))
      | four le f ↦ omega (arith, head_is _ _ _ _ (e ∙ f))
    ]
