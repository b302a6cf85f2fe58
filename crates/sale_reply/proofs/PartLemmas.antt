-- Parts of a message, appended one after the other.
use Rattle.std.proofs.Common.{◌≡◌, ℕ, ◌+◌, List, [], ◌∷◌, ◌++◌, length, Option, Some, None, refl, ap, sym, subst, ◌∙◌, append_assoc, arith, length-append}
use Rattle.std.proofs.lemmas.List.{append-nil}
use Rattle.std.proofs.lemmas.Grind.{flat_map-append}
use Rattle.std.specs.Prelude.{flat_map, map}
use Rattle.std.specs.Str.{encode_utf8_all}
use Rattle.std.specs.Char.{encode_utf8}
use Rattle.std.specs.Borrow.{Bor}
use Rattle.json_text.specs.Tree.{Tree, no_elements}
use Rattle.json_text.specs.ValueOf.{elements_onto}
use Rattle.json_text.specs.Canonical.{canonical, canonical_first, canonical_more, canonical_byte, canonical_string}
use Rattle.gw_base.specs.Text437.{char_of}
use Rattle.sale_reply.specs.declared.reply.Shown.{Shown}
use Rattle.sale_reply.specs.inner.Appends.{Appends}
use Rattle.sale_reply.specs.inner.ShownByte.{shown_byte}
use Rattle.sale_reply.specs.Texts.{line_text}
use Rattle.sale_reply.specs.Reply.{output_result_tree, text_tree, line_trees}
use Rattle.sale_reply.specs.inner.CanonicalMembers.{next_optional, more_outputs, more_lines, canonical_outputs, canonical_lines}

-- two parts
pub and_then : {old mid new p q : List ℕ} → Appends old mid p → Appends mid new q → Appends old new (p ++ q)
and_then {old} {mid} {new} {p} {q} first second = record {
  grows = λ room.
      let sum : length (p ++ q) ≡ length p + length q = length-append p q in
      let is : mid ≡ old ++ p = first.grows (omega arith) in
      let more : length mid ≡ length old + length p = ap length is ∙ length-append old p in
      second.grows (omega arith) ∙ ap (λ prefix. prefix ++ q) is ∙ append_assoc old p q;
}

-- one part by two spellings
pub spelled : {old new p q : List ℕ} → Appends old new p → p ≡ q → Appends old new q
spelled {old} {new} {p} {q} appends is = let P : List ℕ → Type 0 = λ part. Appends old new part in subst P is appends

-- no part
pub nothing : {old : List ℕ} → Appends old old []
nothing {old} = record { grows = λ room. sym (append-nil old) }

-- where there is no text, there is no member
pub next_optional_none : (name : List ℕ) (text : Option (List ℕ)) → ((x : List ℕ) → text ≡ Some x → ⊥) → next_optional name text ≡ []
unfolding next_optional
next_optional_none name None none = refl
next_optional_none name (Some text) none = absurd (none text refl)

shown_bytes_is : (line : List ℕ) → flat_map canonical_byte (encode_utf8_all (map char_of line)) ≡ flat_map shown_byte line
shown_bytes_is [] = refl
shown_bytes_is (byte ∷ line) =
    flat_map-append canonical_byte (encode_utf8 (char_of byte)) (encode_utf8_all (map char_of line))
    ∙ ap (λ rest. shown_byte byte ++ rest) (shown_bytes_is line)

-- a line is written byte by byte
pub line_is : (line : List ℕ) → 34 ∷ (flat_map shown_byte line ++ 34 ∷ []) ≡ canonical_string (line_text line)
unfolding line_text
line_is line = ap (λ bytes. 34 ∷ (bytes ++ 34 ∷ [])) (sym (shown_bytes_is line))

-- the elements after the first
more_elements_is : {A : Type 0} (f : A → Tree) (xs : List A) → flat_map (λ x. 44 ∷ canonical (f x)) xs ++ 93 ∷ [] ≡ canonical_more (elements_onto (map f xs) no_elements)
more_elements_is f [] = refl
more_elements_is f (x ∷ xs) =
    append_assoc (44 ∷ canonical (f x)) (flat_map (λ y. 44 ∷ canonical (f y)) xs) (93 ∷ [])
    ∙ ap (λ rest. 44 ∷ (canonical (f x) ++ rest)) (more_elements_is f xs)

-- the results of outputs, in a list
pub canonical_outputs_is : (outputs : List Shown) → canonical_outputs outputs ++ 93 ∷ [] ≡ canonical_first (elements_onto (map output_result_tree outputs) no_elements)
unfolding canonical_outputs more_outputs
canonical_outputs_is [] = refl
canonical_outputs_is (shown ∷ outputs) =
    append_assoc (canonical (output_result_tree shown)) (more_outputs outputs) (93 ∷ [])
    ∙ ap (λ rest. canonical (output_result_tree shown) ++ rest) (more_elements_is output_result_tree outputs)

-- the lines after the first
more_lines_is : (lines : List (Bor (List ℕ))) → more_lines lines ++ 93 ∷ [] ≡ canonical_more (elements_onto (line_trees (map (λ line. line.now) lines)) no_elements)
unfolding more_lines
more_lines_is [] = refl
more_lines_is (line ∷ lines) =
    append_assoc (44 ∷ canonical (text_tree (line_text line.now))) (more_lines lines) (93 ∷ [])
    ∙ ap (λ rest. 44 ∷ (canonical (text_tree (line_text line.now)) ++ rest)) (more_lines_is lines)

-- lines, in a list
pub canonical_lines_is : (lines : List (Bor (List ℕ))) → canonical_lines lines ++ 93 ∷ [] ≡ canonical_first (elements_onto (line_trees (map (λ line. line.now) lines)) no_elements)
unfolding canonical_lines
canonical_lines_is [] = refl
canonical_lines_is (line ∷ lines) =
    append_assoc (canonical (text_tree (line_text line.now))) (more_lines lines) (93 ∷ [])
    ∙ ap (λ rest. canonical (text_tree (line_text line.now)) ++ rest) (more_lines_is lines)
