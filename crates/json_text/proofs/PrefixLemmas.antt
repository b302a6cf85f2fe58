-- The prefix of a string that is written where memory is refused.
use Rattle.std.proofs.Common.{◌≡◌, ℕ, ◌+◌, ◌<◌, ◌≤◌, List, [], ◌∷◌, ◌++◌, length, get_or, take, drop, cond, sym, ap, subst, ◌∙◌, append_assoc, Result, Ok, Err, OnErr}
use Rattle.std.specs.Prelude.{flat_map}
use Rattle.std.specs.Result.{is_ok}
use Rattle.std.proofs.lemmas.Grind.{flat_map-append}
use Rattle.std.proofs.lemmas.List.{append-nil, take-append-drop, take_all, take_more}
use Rattle.json_text.specs.Canonical.{AppendsPrefix, canonical_byte, canonical_string}

split : (text : List ℕ) (n : ℕ) → canonical_string text ≡ (34 ∷ flat_map canonical_byte (take n text)) ++ (flat_map canonical_byte (drop n text) ++ 34 ∷ [])
split text n = ap (λ l. 34 ∷ l)
    (ap (λ l. flat_map canonical_byte l ++ 34 ∷ []) (sym (take-append-drop n text))
    ∙ ap (λ l. l ++ 34 ∷ []) (flat_map-append canonical_byte (take n text) (drop n text))
    ∙ append_assoc (flat_map canonical_byte (take n text)) (flat_map canonical_byte (drop n text)) (34 ∷ []))

-- after the first n bytes
pub prefix_at : (text old now : List ℕ) (n : ℕ) → now ≡ old ++ (34 ∷ flat_map canonical_byte (take n text)) → AppendsPrefix (canonical_string text) old now
prefix_at text old now n e = (34 ∷ flat_map canonical_byte (take n text), flat_map canonical_byte (drop n text) ++ 34 ∷ [], split text n, e)

pub on_err : {T E : Type 0} (r : Result T E) (P : Type 0) → P → OnErr r P
on_err (Ok x) P h = tt
on_err (Err e) P h = h

-- an append that is refused leaves what was there
pub unchanged : {T E : Type 0} (r : Result T E) (new old chunk : List ℕ) (P : List ℕ → Type 0) → new ≡ cond (is_ok r) (old ++ chunk) old → P old
    → OnErr r (P new)
unchanged (Ok x) new old chunk P e h = tt
unchanged (Err x) new old chunk P e h = subst P (sym e) h

-- one more byte is written
pub byte_written : (text old now new : List ℕ) (n : ℕ) → n < length text → now ≡ old ++ (34 ∷ flat_map canonical_byte (take n text)) → new ≡ now ++ canonical_byte (get_or text n 0)
    → new ≡ old ++ (34 ∷ flat_map canonical_byte (take (n + 1) text))
byte_written text old now new n inside e f =
    let before = flat_map canonical_byte (take n text) in
    let byte = canonical_byte (get_or text n 0) in
    let more = ap (flat_map canonical_byte) (take_more text n 0 inside)
    ∙ flat_map-append canonical_byte (take n text) (get_or text n 0 ∷ [])
    ∙ ap (λ l. before ++ l) (append-nil byte) in
    f ∙ ap (λ l. l ++ byte) e ∙ append_assoc old (34 ∷ before) byte ∙ ap (λ l. old ++ (34 ∷ l)) (sym more)

-- the closing quotation mark, after all bytes
pub text_closed : (text old now : List ℕ) (n : ℕ) → length text ≤ n → now ≡ old ++ (34 ∷ flat_map canonical_byte (take n text)) → now ++ (34 ∷ []) ≡ old ++ canonical_string text
text_closed text old now n all e =
    ap (λ l. l ++ (34 ∷ [])) e
    ∙ append_assoc old (34 ∷ flat_map canonical_byte (take n text)) (34 ∷ [])
    ∙ ap (λ l. old ++ canonical_string l) (take_all n text all)
