-- Functions that read words and lines give exactly what these spell.
use Rattle.std.proofs.Common.{◌≡◌, ℕ, List, [], ◌∷◌, ◌++◌, refl, sym, ◌∙◌, ap, subst, inl, inr, true, false}
use Rattle.std.proofs.lemmas.Bool.Decides.{eqb_tells}
use Rattle.std.specs.Prelude.{◌⊎◌, Bool, if◌then◌else◌, Option, Some, None, option_map, option_and_then}
use Rattle.gw_script.specs.Decode.{WordAndRest, split_at_space, with_first_of_word}
use Rattle.gw_script.specs.site.Decode.{after_word, kept_if}
use Rattle.gw_script.specs.site.Grammar.{IsWord}

-- the function gives a value exactly where the text spells it
pub record Exact {A : Type 0} (Spells : A → List ℕ → Type 0) (decode : List ℕ → Option A) : Type 0 where
  pub sound : (text : List ℕ) (a : A) → decode text ≡ Some a → Spells a text
  pub complete : (text : List ℕ) (a : A) → Spells a text → decode text ≡ Some a

pub some_is : {A : Type 0} (x a : A) → Some x ≡ Some a → x ≡ a
some_is x a e = cc

pub none_some : {A B : Type 0} (a : A) → None ≡ Some a → B
none_some a e = absurd (cc)

-- ---- steps

-- a step that gives a value in the end gives one on the way
pub record Through {A B : Type 0} (first : Option A) (next : A → Option B) (result : B) : Type 0 where
  pub middle : A
  pub first_is : first ≡ Some middle
  pub next_is : next middle ≡ Some result

pub through : {A B : Type 0} (first : Option A) (next : A → Option B) (result : B) → option_and_then next first ≡ Some result → Through first next result
through None next result e = none_some result e
through (Some x) next result e = record { middle = x; first_is = refl; next_is = e }

-- a value that was made is made of one
pub record Mapped {A B : Type 0} (first : Option A) (make : A → B) (result : B) : Type 0 where
  pub middle : A
  pub first_is : first ≡ Some middle
  pub made_is : make middle ≡ result

pub mapped : {A B : Type 0} (first : Option A) (make : A → B) (result : B) → option_map make first ≡ Some result → Mapped first make result
mapped None make result e = none_some result e
mapped (Some x) make result e = record { middle = x; first_is = refl; made_is = some_is (make x) result e }

-- a value that was kept passes the test
pub record Kept {A : Type 0} (test : A → Bool) (first : Option A) (result : A) : Type 0 where
  pub first_is : first ≡ Some result
  pub passes : test result ≡ true

pub kept : {A : Type 0} (test : A → Bool) (first : Option A) (result : A) → kept_if test first ≡ Some result → Kept test first result
kept test None result e = none_some result e
kept test (Some x) result e = by_test (test x) refl e
  where
    by_test : (passed : Bool) → test x ≡ passed → (if passed then Some x else None) ≡ Some result → Kept test (Some x) result
    by_test true passes e = let same = some_is x result e in record { first_is = ap Some same; passes = ap test (sym same) ∙ passes }
    by_test false passes e = none_some result e

pub keeps : {A : Type 0} (test : A → Bool) (first : Option A) (result : A) → first ≡ Some result → test result ≡ true → kept_if test first ≡ Some result
keeps test first result is passes = ap (kept_if test) is ∙ rw passes refl

-- a choice by a test
pub chosen : {A : Type 0} (test : Bool) (x y : Option A) (a : A) → (if test then x else y) ≡ Some a → ((test ≡ true) × (x ≡ Some a)) ⊎ ((test ≡ false) × (y ≡ Some a))
chosen true x y a e = inl (refl, e)
chosen false x y a e = inr (refl, e)

-- ---- words

split_later : (byte : ℕ) (text : List ℕ) (split : Option WordAndRest) (found : WordAndRest) → ((s : WordAndRest) → split ≡ Some s → text ≡ s.word ++ 32 ∷ s.rest) → with_first_of_word byte split ≡ Some found → byte ∷ text ≡ found.word ++ 32 ∷ found.rest
split_later byte text None found later e = none_some found e
split_later byte text (Some split) found later e =
    subst (λ (s : WordAndRest). byte ∷ text ≡ s.word ++ 32 ∷ s.rest) (some_is (record split { word = byte ∷ split.word }) found e) (ap (λ rest. byte ∷ rest) (later split refl))

-- what is split at a space has one there
pub split_is : (text : List ℕ) (found : WordAndRest) → split_at_space text ≡ Some found → text ≡ found.word ++ 32 ∷ found.rest
split_is [] found e = none_some found e
split_is (byte ∷ text) found e = elim (eqb_tells byte 32) [
  | inl here ↦ (let first : Some (record { word = []; rest = text }) ≡ Some found = rw here.0 at e in
      subst (λ (s : WordAndRest). byte ∷ text ≡ s.word ++ 32 ∷ s.rest) (some_is (record { word = []; rest = text }) found first) (ap (λ b. b ∷ text) here.1))
  | inr later ↦ split_later byte text (split_at_space text) found (split_is text) (rw later.0 at e)
]

-- a word is followed by the space that ends it
pub split_word : (word rest : List ℕ) → IsWord word → split_at_space (word ++ 32 ∷ rest) ≡ Some (record { word = word; rest = rest })
split_word [] rest is = refl
split_word (byte ∷ word) rest is = elim (eqb_tells byte 32) [
  | inl space ↦ absurd (is.0 space.1)
  | inr other ↦ rw other.0 (ap (with_first_of_word byte) (split_word word rest is.1))
]

-- a word, a space, and what follows
pub record AfterWord {A B : Type 0} (First : A → List ℕ → Type 0) (Next : A → B → List ℕ → Type 0) (result : B) (text : List ℕ) : Type 0 where
  pub value : A
  pub word : List ℕ
  pub rest : List ℕ
  pub first : First value word
  pub next : Next value result rest
  pub text_is : text ≡ word ++ 32 ∷ rest

after_sound : {A B : Type 0} (First : A → List ℕ → Type 0) (Next : A → B → List ℕ → Type 0) (first : List ℕ → Option A) (next : A → List ℕ → Option B) → Exact First first → ((a : A) → Exact (Next a) (next a))
    → (text : List ℕ) (split : Option WordAndRest) (result : B) → split_at_space text ≡ split → after_word first next split ≡ Some result → AfterWord First Next result text
after_sound First Next first next f n text None result parts e = none_some result e
after_sound First Next first next f n text (Some split) result parts e =
    let x = through (first split.word) (λ value. next value split.rest) result e in
    record {
      value = x.middle;
      word = split.word;
      rest = split.rest;
      first = f.sound split.word x.middle x.first_is;
      next = (n x.middle).sound split.rest result x.next_is;
      text_is = split_is text split parts;
    }

pub after-exact : {A B : Type 0} (First : A → List ℕ → Type 0) (Next : A → B → List ℕ → Type 0) (first : List ℕ → Option A) (next : A → List ℕ → Option B) → Exact First first → ((a : A) (word : List ℕ) → First a word → IsWord word) → ((a : A) → Exact (Next a) (next a))
    → Exact (AfterWord First Next) (λ text. after_word first next (split_at_space text))
after-exact First Next first next f words n = record {
  sound = λ text result e. after_sound First Next first next f n text (split_at_space text) result refl e;
  complete = λ text result a.
      ap (λ t. after_word first next (split_at_space t)) a.text_is
      ∙ ap (after_word first next) (split_word a.word a.rest (words a.value a.word a.first))
      ∙ ap (option_and_then (λ value. next value a.rest)) (f.complete a.word a.value a.first)
      ∙ (n a.value).complete a.rest result a.next;
}

-- the same words, said otherwise
pub said-exact : {A : Type 0} (Spells Other : A → List ℕ → Type 0) (decode : List ℕ → Option A) → Exact Spells decode → ((a : A) (text : List ℕ) → Spells a text → Other a text) → ((a : A) (text : List ℕ) → Other a text → Spells a text) → Exact Other decode
said-exact Spells Other decode x to back = record {
  sound = λ text a e. to a text (x.sound text a e);
  complete = λ text a o. x.complete text a (back a text o);
}

-- a value made of one that is spelled
abbrev pub MadeOf : {A B : Type 0} → (A → List ℕ → Type 0) → (A → B) → B → List ℕ → Type 0
MadeOf Spells make b text = (a : _) × Spells a text × (make a ≡ b)

pub made-exact : {A B : Type 0} (Spells : A → List ℕ → Type 0) (make : A → B) (decode : List ℕ → Option A) → Exact Spells decode → Exact (MadeOf Spells make) (λ text. option_map make (decode text))
made-exact Spells make decode x = record {
  sound = λ text b e. (let m = mapped (decode text) make b e in (m.middle, x.sound text m.middle m.first_is, m.made_is));
  complete = λ text b m. ap (option_map make) (x.complete text m.0 m.1) ∙ ap Some m.2;
}

-- a value that passes a test
pub kept-exact : {A : Type 0} (Spells : A → List ℕ → Type 0) (test : A → Bool) (decode : List ℕ → Option A) → Exact Spells decode → Exact (λ a text. Spells a text × (test a ≡ true)) (λ text. kept_if test (decode text))
kept-exact Spells test decode x = record {
  sound = λ text a e. (let k = kept test (decode text) a e in (x.sound text a k.first_is, k.passes));
  complete = λ text a s. keeps test (decode text) a (x.complete text a s.0) s.1;
}
