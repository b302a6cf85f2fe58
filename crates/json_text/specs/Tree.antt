-- A JSON value as plain data.
use Rattle.std.specs.Prelude.{ℕ, List, [], ◌∷◌, Bool, Option, Some, None, bytes_eq, if◌then◌else◌}

mutual
  -- a number is its text, a string the UTF-8 of its characters
  pub data Tree : Type 0 where
    null : Tree
    boolean : Bool → Tree
    number : List ℕ → Tree
    string : List ℕ → Tree
    array : Elements → Tree
    object : Members → Tree

  -- the elements of an array, in order
  pub data Elements : Type 0 where
    no_elements : Elements
    element : Tree → Elements → Elements

  -- the members of an object, in order, each with its name
  pub data Members : Type 0 where
    no_members : Members
    member : List ℕ → Tree → Members → Members

-- the names of the members, in order
abbrev pub names : Members → List (List ℕ)
names no_members = []
names (member name value rest) = name ∷ names rest

-- the elements as a list
abbrev pub elements_list : Elements → List Tree
elements_list no_elements = []
elements_list (element x rest) = x ∷ elements_list rest

-- the value of the first member of this name
abbrev pub member_of : List ℕ → Members → Option Tree
member_of name no_members = None
member_of name (member own value rest) = if bytes_eq own name then Some value else member_of name rest

-- the value of the tree's member of this name; none where the tree is no object
abbrev pub get_of : List ℕ → Tree → Option Tree
get_of name null = None
get_of name (boolean b) = None
get_of name (number text) = None
get_of name (string text) = None
get_of name (array xs) = None
get_of name (object ms) = member_of name ms

-- the names of the tree's members; none where the tree is no object
abbrev pub member_names_of : Tree → List (List ℕ)
member_names_of null = []
member_names_of (boolean b) = []
member_names_of (number text) = []
member_names_of (string text) = []
member_names_of (array xs) = []
member_names_of (object ms) = names ms

-- true or false, where the tree is one of these
abbrev pub boolean_of : Tree → Option Bool
boolean_of null = None
boolean_of (boolean b) = Some b
boolean_of (number text) = None
boolean_of (string text) = None
boolean_of (array xs) = None
boolean_of (object ms) = None

-- the text, where the tree is a number
abbrev pub numeral_of : Tree → Option (List ℕ)
numeral_of null = None
numeral_of (boolean b) = None
numeral_of (number text) = Some text
numeral_of (string text) = None
numeral_of (array xs) = None
numeral_of (object ms) = None

-- the text, where the tree is a string
abbrev pub string_of : Tree → Option (List ℕ)
string_of null = None
string_of (boolean b) = None
string_of (number text) = None
string_of (string text) = Some text
string_of (array xs) = None
string_of (object ms) = None

-- the elements, where the tree is an array
abbrev pub array_of : Tree → Option (List Tree)
array_of null = None
array_of (boolean b) = None
array_of (number text) = None
array_of (string text) = None
array_of (array xs) = Some (elements_list xs)
array_of (object ms) = None

-- the members, where the tree is an object
abbrev pub members_of : Tree → Option Members
members_of null = None
members_of (boolean b) = None
members_of (number text) = None
members_of (string text) = None
members_of (array xs) = None
members_of (object ms) = Some ms
