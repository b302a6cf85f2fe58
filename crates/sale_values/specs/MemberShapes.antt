-- The shapes of which messages are made: members before others.
use Rattle.std.specs.Prelude.{ℕ, List, Option, Some, None}
use Rattle.json_text.specs.Tree.{Tree, number, string, object, Members, no_members, member}

-- a member that is a string
abbrev pub text_member : List ℕ → List ℕ → Members → Members
text_member name text others = member name (string text) others

-- a member that is a string, where there is one
abbrev pub optional_member : List ℕ → Option (List ℕ) → Members → Members
optional_member name None others = others
optional_member name (Some text) others = text_member name text others

-- a member that is a number
abbrev pub number_member : List ℕ → List ℕ → Members → Members
number_member name text others = member name (number text) others

-- a member that is an object
abbrev pub object_member : List ℕ → Members → Members → Members
object_member name inside others = member name (object inside) others

-- an object of one member
abbrev pub only : List ℕ → Tree → Tree
only name value = object (member name value no_members)
