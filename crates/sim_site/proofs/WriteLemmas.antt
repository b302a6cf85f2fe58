-- Bytes written over those of a file and past its end, in two parts.
use Rattle.std.proofs.Common.{◌≡◌, ℕ, ◌+◌, ◌-◌, ◌<◌, ◌≤◌, List, [], ◌++◌, length, get_or, take, drop, sym, ◌∙◌, ap, arith, inl, inr, append-nil, append_assoc, length-append, length-take, take-append-drop}
use Rattle.std.proofs.lemmas.Bool.{cases_lt}
use Rattle.std.proofs.lemmas.List.{length-replicate, take_all, drop_all, length-take-le, get_or-take, get_or_past, get_or-replicate, get_or_append_left, get_or-append_right}
use Rattle.std.specs.Prelude.{Result, Ok, Err, OnOk, is_ok, min, replicate, if◌then◌else◌}
use Rattle.gw_site.specs.Outside.{overwrite}

none_more : (n m : ℕ) → n ≤ m → replicate {A = ℕ} (n - m) 0 ≡ []
none_more n m le = let e : n - m ≡ 0 = omega arith in ap (λ k. replicate {A = ℕ} k 0) e

-- a file that was filled up to the offset before the write
over_filled : (file bytes : List ℕ) (offset : ℕ) → overwrite (file ++ replicate (offset - length file) 0) offset bytes ≡ overwrite file offset bytes
over_filled file bytes offset = elim (cases_lt (length file) offset) [ inl short ↦ past short | inr le ↦ same le ]
  where
    same : offset ≤ length file → overwrite (file ++ replicate (offset - length file) 0) offset bytes ≡ overwrite file offset bytes
    same le = ap (λ f. overwrite f offset bytes) (ap (λ zeros. file ++ zeros) (none_more offset (length file) le) ∙ append-nil file)

    past : length file < offset → overwrite (file ++ replicate (offset - length file) 0) offset bytes ≡ overwrite file offset bytes
    past short =
        let size : length (file ++ replicate (offset - length file) 0) ≡ offset = simp (length-append, length-replicate) (omega arith) in
        let f = file ++ replicate (offset - length file) 0 in
        ap (λ head. head ++ replicate (offset - length f) 0 ++ bytes ++ drop (offset + length bytes) f) (take_all offset f (omega (arith, size)))
        ∙ ap (λ zeros. f ++ zeros ++ bytes ++ drop (offset + length bytes) f) (none_more offset (length f) (omega (arith, size)))
        ∙ ap (λ head. head ++ bytes ++ drop (offset + length bytes) f) (append-nil f)
        ∙ ap (λ rest. f ++ bytes ++ rest) (drop_all (offset + length bytes) f (omega (arith, size)) ∙ sym (drop_all (offset + length bytes) file (omega arith)))
        ∙ ap (λ head. head ++ replicate (offset - length file) 0 ++ bytes ++ drop (offset + length bytes) file) (sym (take_all offset file (omega arith)))

-- as many bytes as lie in the file, and then the others
over_parts : (file bytes : List ℕ) (offset inside : ℕ) → offset ≤ length file → inside ≡ min (length bytes) (length file - offset) → overwrite file offset (take inside bytes) ++ drop inside bytes ≡ overwrite file offset bytes
over_parts file bytes offset inside le e = elim (cases_lt (length file - offset) (length bytes)) [ inl more ↦ past more | inr fits ↦ same fits ]
  where
    same : length bytes ≤ length file - offset → overwrite file offset (take inside bytes) ++ drop inside bytes ≡ overwrite file offset bytes
    same fits =
        ap (λ rest. overwrite file offset (take inside bytes) ++ rest) (drop_all inside bytes (omega (arith, e)))
        ∙ append-nil (overwrite file offset (take inside bytes)) ∙ ap (overwrite file offset) (take_all inside bytes (omega (arith, e)))

    past : length file - offset < length bytes → overwrite file offset (take inside bytes) ++ drop inside bytes ≡ overwrite file offset bytes
    past more =
        let head = take offset file ++ replicate (offset - length file) 0 in
        let size : length (take inside bytes) ≡ inside = length-take-le inside bytes (omega (arith, e)) in
        ap (λ rest. head ++ take inside bytes ++ rest ++ drop inside bytes) (drop_all (offset + length (take inside bytes)) file (omega (arith, e, size)))
        ∙ ap (λ prefix. prefix ++ drop inside bytes) (append-nil (head ++ take inside bytes))
        ∙ append_assoc head (take inside bytes) (drop inside bytes) ∙ ap (λ all. head ++ all) (take-append-drop inside bytes)
        ∙ sym (append-nil (head ++ bytes)) ∙ ap (λ rest. head ++ bytes ++ rest) (sym (drop_all (offset + length bytes) file (omega arith)))

pub filled_length : (file : List ℕ) (offset : ℕ) → offset ≤ length (file ++ replicate (offset - length file) 0)
filled_length file offset = simp (length-append, length-replicate) (omega arith)

-- a file that was filled up, then written over and then grown
pub written_over : (file filled bytes : List ℕ) (offset inside : ℕ) → filled ≡ file ++ replicate (offset - length file) 0 → inside ≡ min (length bytes) (length filled - offset)
    → overwrite filled offset (take inside bytes) ++ drop inside bytes ≡ overwrite file offset bytes
written_over file filled bytes offset inside f e =
    let le : offset ≤ length filled = rw f (filled_length file offset) in
    over_parts filled bytes offset inside le e ∙ ap (λ before. overwrite before offset bytes) f ∙ over_filled file bytes offset

-- a list that grew, where there was memory
pub grown_to : {E : Type 0} (r : Result (Unit {0}) E) (now old more want : List ℕ) → now ≡ (if is_ok r then old ++ more else old) → old ++ more ≡ want → OnOk r (now ≡ want)
grown_to (Ok x) now old more want e w = e ∙ w
grown_to (Err x) now old more want e w = tt

-- a file cut or filled with zeros to a size holds the same up to it
pub resized_get : (file : List ℕ) (size i : ℕ) → i < size → get_or (take size file ++ replicate (size - length file) 0) i 0 ≡ get_or file i 0
resized_get file size i lt = elim (cases_lt i (length file)) [ inl less ↦ inside less | inr more ↦ past more ]
  where
    inside : i < length file → get_or (take size file ++ replicate (size - length file) 0) i 0 ≡ get_or file i 0
    inside less =
        let t : i < length (take size file) = simp length-take (omega arith) in
        get_or_append_left (take size file) (replicate (size - length file) 0) 0 i t ∙ get_or-take size file i 0 lt

    past : length file ≤ i → get_or (take size file ++ replicate (size - length file) 0) i 0 ≡ get_or file i 0
    past more =
        let t : length (take size file) ≡ length file = simp length-take (omega arith) in
        get_or-append_right (take size file) (replicate (size - length file) 0) (length file) i 0 t more
        ∙ get_or-replicate (size - length file) (i - length file) 0 0 (omega arith) ∙ sym (get_or_past file i 0 more)

pub resized_length : (file : List ℕ) (size : ℕ) → length (take size file ++ replicate (size - length file) 0) ≡ size
resized_length file size = simp (length-append, length-take, length-replicate) (omega arith)
