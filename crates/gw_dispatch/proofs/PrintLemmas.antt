-- The lines that are put together to be printed.
use Rattle.std.proofs.Common.{◌≡◌, ◌+◌, ◌<◌, ◌≤◌, ℕ, List, [], ◌∷◌, ◌++◌, length, refl, sym, ◌∙◌, ap, arith, append-nil, length-append, Bor}
use Rattle.std.specs.Prelude.{map}
use Rattle.std.proofs.lemmas.List.{length-map}

-- the bytes of these texts
abbrev pub bytes_of_texts : List (Bor (List ℕ)) → List (List ℕ)
bytes_of_texts texts = map (λ text. text.now) texts

text-added : (texts : List (Bor (List ℕ))) (text : Bor (List ℕ)) (rest : List (List ℕ)) → bytes_of_texts (texts ++ text ∷ []) ++ rest ≡ bytes_of_texts texts ++ text.now ∷ rest
text-added [] text rest = refl
text-added (first ∷ texts) text rest = ap (λ l. first.now ∷ l) (text-added texts text rest)

-- one more is added, and the rest comes after it
pub one-added : (texts : List (Bor (List ℕ))) (text : Bor (List ℕ)) (rest new whole : List (List ℕ)) → bytes_of_texts texts ++ rest ≡ whole → rest ≡ text.now ∷ new → bytes_of_texts (texts ++ text ∷ []) ++ new ≡ whole
one-added texts text rest new whole is first = text-added texts text new ∙ ap (λ l. bytes_of_texts texts ++ l) (sym first) ∙ is

-- as long as one comes there is room for it
pub room-left : (texts : List (Bor (List ℕ))) (text : List ℕ) (rest new whole : List (List ℕ)) (most : ℕ) → bytes_of_texts texts ++ rest ≡ whole → rest ≡ text ∷ new → length whole ≤ most → length texts < most
room-left texts text rest new whole most is first few =
    let all : length (bytes_of_texts texts) + length rest ≡ length whole = sym (length-append (bytes_of_texts texts) rest) ∙ ap length is in
    let more : length rest ≡ length (text ∷ new) = ap length first in
    omega (arith, all, more, few, length-map texts (λ (l : Bor (List ℕ)). l.now))

-- once none comes any more they are all there
pub all-added : (texts : List (Bor (List ℕ))) (rest whole : List (List ℕ)) → bytes_of_texts texts ++ rest ≡ whole → rest ≡ [] → bytes_of_texts texts ≡ whole
all-added texts rest whole is none = sym (append-nil (bytes_of_texts texts)) ∙ ap (λ l. bytes_of_texts texts ++ l) (sym none) ∙ is
