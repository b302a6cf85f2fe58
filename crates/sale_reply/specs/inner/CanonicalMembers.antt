-- Inner: the canonical bytes of a message's members, as they are written one after the other.
use Rattle.std.specs.Prelude.{ℕ, List, [], ◌∷◌, ◌++◌, Option, Some, None, codes, flat_map}
use Rattle.std.specs.Borrow.{Bor}
use Rattle.json_text.specs.Canonical.{canonical, canonical_string}
use Rattle.sale_values.specs.declared.header.Header.{Header}
use Rattle.sale_reply.specs.declared.reply.Shown.{Shown}
use Rattle.sale_reply.specs.Texts.{line_text}
use Rattle.sale_reply.specs.Reply.{header_tree, output_result_tree, text_tree}

-- a name and its colon, after the opening brace
unfoldable pub first_name : List ℕ → List ℕ
first_name name = canonical_string name ++ 58 ∷ []

-- a name and its colon, after another member
unfoldable pub next_name : List ℕ → List ℕ
next_name name = 44 ∷ (canonical_string name ++ 58 ∷ [])

-- a member that is a string, after the opening brace
unfoldable pub first_text : List ℕ → List ℕ → List ℕ
first_text name text = canonical_string name ++ (58 ∷ canonical_string text)

-- a member that is a string, after another
unfoldable pub next_text : List ℕ → List ℕ → List ℕ
next_text name text = 44 ∷ (canonical_string name ++ (58 ∷ canonical_string text))

-- a member that is a string, after another, where there is one
unfoldable pub next_optional : List ℕ → Option (List ℕ) → List ℕ
next_optional name None = []
next_optional name (Some text) = next_text name text

-- a member that is a number, after another
unfoldable pub next_number : List ℕ → List ℕ → List ℕ
next_number name text = 44 ∷ (canonical_string name ++ (58 ∷ text))

-- a message up to its body
unfoldable pub message_prefix : List ℕ → Header → List ℕ → List ℕ
message_prefix envelope header suffix =
    123 ∷ (first_name envelope ++ (123 ∷ (first_name (codes "MessageHeader")
    ++ (canonical (header_tree header) ++ next_name (header.category ++ suffix)))))

-- what is shown or printed, up to the first of its texts
unfoldable pub content_prefix : List ℕ
content_prefix =
    123 ∷ (first_text (codes "OutputFormat") (codes "Text") ++ (next_name (codes "OutputText") ++ 91 ∷ []))

-- the results of outputs after the first
unfoldable pub more_outputs : List Shown → List ℕ
more_outputs outputs = flat_map (λ shown. 44 ∷ canonical (output_result_tree shown)) outputs

-- the lines after the first
unfoldable pub more_lines : List (Bor (List ℕ)) → List ℕ
more_lines lines = flat_map (λ line. 44 ∷ canonical (text_tree (line_text line.now))) lines

-- the results of outputs, between the brackets
unfoldable pub canonical_outputs : List Shown → List ℕ
canonical_outputs [] = []
canonical_outputs (shown ∷ outputs) = canonical (output_result_tree shown) ++ more_outputs outputs

-- lines, between the brackets
unfoldable pub canonical_lines : List (Bor (List ℕ)) → List ℕ
canonical_lines [] = []
canonical_lines (line ∷ lines) = canonical (text_tree (line_text line.now)) ++ more_lines lines
