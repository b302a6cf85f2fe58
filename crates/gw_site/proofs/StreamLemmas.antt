-- What a source in memory gives.
use Rattle.std.proofs.Common.{◌≡◌, ℕ, ◌+◌, List, ◌++◌, take, drop, sym, ◌∙◌, ap, take-append-drop}
use Rattle.std.proofs.lemmas.List.{drop-drop}

-- the bytes from an offset on are so many of them and then the rest
pub drop-prefix : (bytes : List ℕ) (offset count : ℕ) → drop offset bytes ≡ take count (drop offset bytes) ++ drop (offset + count) bytes
drop-prefix bytes offset count = sym (take-append-drop count (drop offset bytes)) ∙ ap (λ rest. take count (drop offset bytes) ++ rest) (drop-drop count offset bytes)
