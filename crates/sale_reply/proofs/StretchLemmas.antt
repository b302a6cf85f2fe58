-- The bytes of a string or of a terminal's line, appended in stretches.
use Rattle.std.proofs.Common.{◌≡◌, ℕ, ◌+◌, ◌-◌, ◌<◌, ◌≤◌, List, [], ◌∷◌, ◌++◌, length, take, drop, get_or, ap, sym, ◌∙◌, arith}
use Rattle.std.proofs.lemmas.List.{append-nil, take_all, take_more}
use Rattle.std.proofs.lemmas.Grind.{flat_map-append}
use Rattle.std.proofs.Math.Seq.{take-add}
use Rattle.std.specs.Prelude.{flat_map}
use Rattle.std.specs.List.{between}
use Rattle.sale_reply.specs.inner.Appends.{Appends}
use Rattle.sale_reply.proofs.PartLemmas.{and_then, spelled}
use Rattle.sale_reply.proofs.PlainLemmas.{ArePlain}

-- bytes that are spelled as they are were appended at once
pub stretch_appends : {old mid new : List ℕ} (spell : ℕ → List ℕ) (text : List ℕ) (start n : ℕ) → ArePlain spell (take n (drop start text))
    → Appends old mid (flat_map spell (take start text)) → Appends mid new (between start (start + n) text)
    → Appends old new (flat_map spell (take (start + n) text))
stretch_appends spell text start n plain before stretch =
    let long : start + n - start ≡ n = omega arith in
    spelled (and_then before stretch)
    (ap (λ count. flat_map spell (take start text) ++ take count (drop start text)) long
    ∙ ap (λ part. flat_map spell (take start text) ++ part) (sym plain)
    ∙ sym (flat_map-append spell (take start text) (take n (drop start text)))
    ∙ ap (flat_map spell) (sym (take-add start n text)))

-- one more byte was appended, by its spelling
pub byte_appends : {old mid new : List ℕ} (spell : ℕ → List ℕ) (text : List ℕ) (index : ℕ) → index < length text
    → Appends old mid (flat_map spell (take index text)) → Appends mid new (spell (get_or text index 0))
    → Appends old new (flat_map spell (take (index + 1) text))
byte_appends spell text index within before byte =
    spelled (and_then before byte)
    (ap (λ last. flat_map spell (take index text) ++ last) (sym (append-nil (spell (get_or text index 0))))
    ∙ sym (flat_map-append spell (take index text) (get_or text index 0 ∷ []))
    ∙ ap (flat_map spell) (sym (take_more text index 0 within)))

-- where all bytes were appended, all up to the next index were
pub past_appends : {old new : List ℕ} (spell : ℕ → List ℕ) (text : List ℕ) (index : ℕ) → length text ≤ index
    → Appends old new (flat_map spell (take index text)) → Appends old new (flat_map spell (take (index + 1) text))
past_appends spell text index all before = spelled before (ap (flat_map spell) (take_all index text all ∙ sym (take_all (index + 1) text (omega arith))))
