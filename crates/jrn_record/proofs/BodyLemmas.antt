-- Fields that follow one another fill a body.
use Rattle.std.proofs.Common.{◌≡◌, ℕ, ◌+◌, List, [], ◌∷◌, ◌++◌, length, take, drop, arith, sym, ◌∙◌, ap, take-append-drop}
use Rattle.std.proofs.Math.ListN.{drop_of_length-le}
use Rattle.std.proofs.lemmas.List.{drop-drop}
use Rattle.jrn_record.specs.Grammar.{joined}
use Rattle.jrn_record.specs.Table.{Agree, FieldRange}

-- the fields of a table follow one another, from one offset to the other
abbrev pub AreAdjacent : ℕ → List FieldRange → ℕ → Type 0
AreAdjacent offset [] end = offset ≡ end
AreAdjacent offset (there ∷ table) end = (there.offset ≡ offset) × AreAdjacent (offset + there.size) table end

-- fields that agree with all of a body make it up
pub joined-agree : (spelled : List (List ℕ)) (table : List FieldRange) (offset end : ℕ) (body : List ℕ) → length spelled ≡ length table
    → AreAdjacent offset table end → Agree (length table) spelled table body → length body ≡ end → joined spelled ≡ drop offset body
joined-agree [] [] offset end body same adjacent agrees len = sym (drop_of_length-le body (omega arith))
joined-agree [] (there ∷ table) offset end body same adjacent agrees len = absurd (omega arith)
joined-agree (field ∷ spelled) [] offset end body same adjacent agrees len = absurd (omega arith)
joined-agree (field ∷ spelled) (there ∷ table) offset end body same adjacent agrees len =
    let rest : joined spelled ≡ drop (offset + there.size) body =
    joined-agree spelled table (offset + there.size) end body (omega arith) adjacent.1 agrees.1 len in
    let here : field ≡ take there.size (drop offset body) = agrees.0 ∙ ap (λ start. take there.size (drop start body)) adjacent.0 in
    ap (λ first. first ++ joined spelled) here
    ∙ ap (λ tail. take there.size (drop offset body) ++ tail) (rest ∙ sym (drop-drop there.size offset body))
    ∙ take-append-drop there.size (drop offset body)
