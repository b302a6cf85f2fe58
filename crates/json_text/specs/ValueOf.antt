-- The tree that a `Json` is.
use Rattle.std.specs.Prelude.{ℕ, List, [], ◌∷◌, map}
use Rattle.json_text.specs.Tree.{Tree, null, boolean, number, string, array, object, Elements, no_elements, element, Members, no_members, member}
use Rattle.json_text.specs.declared.tree.Json.{Json, fold-Json}
use Rattle.json_text.specs.declared.tree.Json.TheOpen.{Json-F}

-- these elements, and then the others
abbrev pub elements_onto : List Tree → Elements → Elements
elements_onto [] rest = rest
elements_onto (x ∷ xs) rest = element x (elements_onto xs rest)

-- these members, and then the others
abbrev pub members_onto : List (List ℕ × Tree) → Members → Members
members_onto [] rest = rest
members_onto (m ∷ ms) rest = member m.0 m.1 (members_onto ms rest)

-- one level of a `Json`, whose parts are trees already
abbrev pub value_step : Json-F Tree → Tree
value_step Json-F.Null = null
value_step (Json-F.Bool b) = boolean b
value_step (Json-F.Number text) = number text
value_step (Json-F.Str text) = string text
value_step (Json-F.List v) = array (elements_onto v.items no_elements)
value_step (Json-F.Object v) = object (members_onto v.items no_members)

-- the tree that a `Json` is
abbrev pub value_of : Json → Tree
value_of = fold-Json Tree value_step

-- Inner: the members of an object, their values as trees
abbrev pub members_value : List (List ℕ × Json) → Members
members_value ms = members_onto (map (λ m. (m.0, value_of m.1)) ms) no_members
