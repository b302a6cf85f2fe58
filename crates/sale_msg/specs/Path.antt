-- Members by their paths: names divided by points, each of them that of a member of the object before.
use Rattle.std.specs.Prelude.{ℕ, ◌==◌, List, [], ◌∷◌, Bool, Option, Some}
use Rattle.std.specs.Option.{option_and_then}
use Rattle.std.specs.List.{slice_split}
use Rattle.json_text.specs.Tree.{Tree, get_of, string_of, numeral_of, boolean_of}
use Rattle.gw_base.specs.Amount.{minor_units}

-- the byte that divides names
abbrev pub is_point : ℕ → Bool
is_point byte = byte == 0x2E

-- the value under these names, one within the other; none where one of them isn't a member
abbrev pub tree_under : List (List ℕ) → Tree → Option Tree
tree_under [] tree = Some tree
tree_under (name ∷ names) tree = option_and_then (tree_under names) (get_of name tree)

-- the value at a path
unfoldable pub tree_at : List ℕ → Tree → Option Tree
tree_at path tree = tree_under (slice_split is_point path) tree

-- the text at a path
abbrev pub text_at : List ℕ → Tree → Option (List ℕ)
text_at path tree = option_and_then string_of (tree_at path tree)

-- true or false at a path
abbrev pub flag_at : List ℕ → Tree → Option Bool
flag_at path tree = option_and_then boolean_of (tree_at path tree)

-- the minor units of the amount at a path
abbrev pub amount_at : List ℕ → Tree → Option ℕ
amount_at path tree = option_and_then minor_units (option_and_then numeral_of (tree_at path tree))
