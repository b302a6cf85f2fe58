-- What a write leaves below it, inside it and above it.
use Rattle.std.proofs.Common.{◌≡◌, ℕ, ◌+◌, ◌-◌, ◌<◌, ◌≤◌, List, ◌++◌, length, get_or, take, drop, sym, ◌∙◌, ap, arith, inl, inr, length-append, length-drop}
use Rattle.std.proofs.lemmas.List.{length-take, length-replicate, get_or-take, get_or-drop, get_or_past, get_or-replicate, get_or_append_left, get_or-append_right}
use Rattle.std.proofs.lemmas.Bool.{cases_lt}
use Rattle.std.specs.Prelude.{replicate}
use Rattle.gw_site.specs.Outside.{overwrite}

head_length : (file : List ℕ) (offset : ℕ) → length (take offset file ++ replicate (offset - length file) 0) ≡ offset
head_length file offset = simp (length-append, length-take, length-replicate) (omega arith)

head_get : (file : List ℕ) (offset i : ℕ) → i < offset → get_or (take offset file ++ replicate (offset - length file) 0) i 0 ≡ get_or file i 0
head_get file offset i lt = elim (cases_lt i (length file)) [ inl less ↦ inside less | inr more ↦ past more ]
  where
    inside : i < length file → get_or (take offset file ++ replicate (offset - length file) 0) i 0 ≡ get_or file i 0
    inside less =
        let t : i < length (take offset file) = simp length-take (omega arith) in
        get_or_append_left (take offset file) (replicate (offset - length file) 0) 0 i t ∙ get_or-take offset file i 0 lt

    past : length file ≤ i → get_or (take offset file ++ replicate (offset - length file) 0) i 0 ≡ get_or file i 0
    past more =
        let t : length (take offset file) ≡ length file = simp length-take (omega arith) in
        get_or-append_right (take offset file) (replicate (offset - length file) 0) (length file) i 0 t more
        ∙ get_or-replicate (offset - length file) (i - length file) 0 0 (omega arith) ∙ sym (get_or_past file i 0 more)

body_length : (file : List ℕ) (offset : ℕ) (bytes : List ℕ) → length (take offset file ++ replicate (offset - length file) 0 ++ bytes) ≡ offset + length bytes
body_length file offset bytes = simp (length-append, length-take, length-replicate) (omega arith)

pub over_below : (file : List ℕ) (offset : ℕ) (bytes : List ℕ) (i : ℕ) → i < offset → get_or (overwrite file offset bytes) i 0 ≡ get_or file i 0
over_below file offset bytes i lt =
    let p = take offset file ++ replicate (offset - length file) 0 in
    let n : i < length (p ++ bytes) = omega (arith, body_length file offset bytes) in
    let m : i < length p = omega (arith, head_length file offset) in
    get_or_append_left (p ++ bytes) (drop (offset + length bytes) file) 0 i n ∙ get_or_append_left p bytes 0 i m ∙ head_get file offset i lt

pub over_inside : (file : List ℕ) (offset : ℕ) (bytes : List ℕ) (i : ℕ) → offset ≤ i → i < offset + length bytes → get_or (overwrite file offset bytes) i 0 ≡ get_or bytes (i - offset) 0
over_inside file offset bytes i le lt =
    let p = take offset file ++ replicate (offset - length file) 0 in
    let n : i < length (p ++ bytes) = omega (arith, body_length file offset bytes) in
    get_or_append_left (p ++ bytes) (drop (offset + length bytes) file) 0 i n ∙ get_or-append_right p bytes offset i 0 (head_length file offset) le

pub over_above : (file : List ℕ) (offset : ℕ) (bytes : List ℕ) (i : ℕ) → offset + length bytes ≤ i → get_or (overwrite file offset bytes) i 0 ≡ get_or file i 0
over_above file offset bytes i le =
    let p = take offset file ++ replicate (offset - length file) 0 in
    let n = offset + length bytes in
    let e : n + (i - n) ≡ i = omega arith in
    get_or-append_right (p ++ bytes) (drop n file) n i 0 (body_length file offset bytes) le ∙ get_or-drop n file (i - n) 0 ∙ ap (λ k. get_or file k 0) e

pub over_length : (file : List ℕ) (offset : ℕ) (bytes : List ℕ) → length file ≤ length (overwrite file offset bytes)
over_length file offset bytes = simp (length-append, length-take, length-replicate, length-drop) (omega arith)
