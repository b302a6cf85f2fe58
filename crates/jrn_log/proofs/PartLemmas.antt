-- The parts of a file, byte by byte.
use Rattle.std.proofs.Common.{◌≡◌, ℕ, ◌+◌, ◌-◌, ◌<◌, ◌≤◌, List, length, get_or, take, drop, sym, ◌∙◌, ap, arith, inl, inr, length-append, length-drop}
use Rattle.std.proofs.lemmas.List.{length-take, length-replicate, get_or-take, get_or-drop, get_or_past, get_or-replicate, get_or_append_left, get_or-append_right}
use Rattle.std.proofs.lemmas.Grind.{same_number_lists}
use Rattle.std.proofs.lemmas.Bool.{cases_lt}
use Rattle.std.specs.Prelude.{replicate}
use Rattle.gw_site.specs.Outside.{file_part}

pub part_length : (file : List ℕ) (offset count : ℕ) → length (file_part file offset count) ≡ count
part_length file offset count = simp (length-append, length-take, length-replicate, length-drop) (omega arith)

pub part_get : (file : List ℕ) (offset count i : ℕ) → i < count → get_or (file_part file offset count) i 0 ≡ get_or file (offset + i) 0
part_get file offset count i lt = elim (cases_lt i (length (drop offset file))) [ inl less ↦ inside less | inr more ↦ past more ]
  where
    inside : i < length (drop offset file) → get_or (file_part file offset count) i 0 ≡ get_or file (offset + i) 0
    inside less =
        let t : i < length (take count (drop offset file)) = simp length-take (omega arith) in
        get_or_append_left (take count (drop offset file)) (replicate (count - length (drop offset file)) 0) 0 i t ∙ get_or-take count (drop offset file) i 0 lt ∙ get_or-drop offset file i 0

    past : length (drop offset file) ≤ i → get_or (file_part file offset count) i 0 ≡ get_or file (offset + i) 0
    past more =
        let t : length (take count (drop offset file)) ≡ length (drop offset file) = simp length-take (omega arith) in
        let n : length file ≤ offset + i = omega (arith, length-drop offset file) in
        get_or-append_right (take count (drop offset file)) (replicate (count - length (drop offset file)) 0) (length (drop offset file)) i 0 t more
        ∙ get_or-replicate (count - length (drop offset file)) (i - length (drop offset file)) 0 0 (omega arith) ∙ sym (get_or_past file (offset + i) 0 n)

-- a part is a list of its length with its bytes
pub part_is : (file : List ℕ) (offset count : ℕ) (bytes : List ℕ) → length bytes ≡ count → ((i : ℕ) → i < count → get_or file (offset + i) 0 ≡ get_or bytes i 0) → file_part file offset count ≡ bytes
part_is file offset count bytes size same = same_number_lists (file_part file offset count) bytes (part_length file offset count ∙ sym size)
    (λ i lt. let l : i < count = omega (arith, part_length file offset count) in part_get file offset count i l ∙ same i l)

pub part_same : (file other : List ℕ) (offset count : ℕ) → ((i : ℕ) → i < count → get_or file (offset + i) 0 ≡ get_or other (offset + i) 0) → file_part file offset count ≡ file_part other offset count
part_same file other offset count same = part_is file offset count (file_part other offset count) (part_length other offset count) (λ i lt. same i lt ∙ sym (part_get other offset count i lt))

-- a part of a part
pub part_part : (file : List ℕ) (offset count start size : ℕ) → start + size ≤ count → take size (drop start (file_part file offset count)) ≡ file_part file (offset + start) size
part_part file offset count start size fits =
    let n : length (take size (drop start (file_part file offset count))) ≡ size = simp (length-append, length-take, length-replicate, length-drop) (omega arith) in
    sym (part_is file (offset + start) size (take size (drop start (file_part file offset count))) n
    (λ i lt. let e : offset + start + i ≡ offset + (start + i) = omega arith in
    ap (λ k. get_or file k 0) e ∙ sym (get_or-take size (drop start (file_part file offset count)) i 0 lt ∙ get_or-drop start (file_part file offset count) i 0 ∙ part_get file offset count (start + i) (omega arith))))
