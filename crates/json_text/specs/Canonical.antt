-- The canonical spelling: the one text that is written of a tree.
use Rattle.std.specs.Prelude.{◌≡◌, ℕ, ◌/◌, ◌%◌, List, [], ◌∷◌, ◌++◌, Bool, true, false, flat_map, nat_lt, ◌==◌, ◌||◌, if◌then◌else◌}
use Rattle.std.specs.Char.{digit_char}
use Rattle.json_text.specs.Tree.{Tree, null, boolean, number, string, array, object, Elements, no_elements, element, Members, no_members, member}
use Rattle.json_text.specs.Grammar.{literal_null, literal_true, literal_false}

-- one byte of a string: quotation mark and backslash after a backslash, a control character by its
-- number in lower-case digits, any other byte itself
abbrev pub canonical_byte : ℕ → List ℕ
canonical_byte c =
    if (c == 34) || (c == 92) then 92 ∷ c ∷ [] else
    (if nat_lt c 32 then 92 ∷ 117 ∷ 48 ∷ 48 ∷ digit_char (c / 16) ∷ digit_char (c % 16) ∷ [] else c ∷ [])

-- a string between its quotation marks
abbrev pub canonical_string : List ℕ → List ℕ
canonical_string text = 34 ∷ (flat_map canonical_byte text ++ 34 ∷ [])

abbrev mutual
  -- no white space, elements and members in order
  pub canonical : Tree → List ℕ
  canonical null = literal_null
  canonical (boolean true) = literal_true
  canonical (boolean false) = literal_false
  canonical (number text) = text
  canonical (string text) = canonical_string text
  canonical (array xs) = 91 ∷ canonical_first xs
  canonical (object ms) = 123 ∷ canonical_first_member ms

  -- after the opening bracket
  pub canonical_first : Elements → List ℕ
  canonical_first no_elements = 93 ∷ []
  canonical_first (element x rest) = canonical x ++ canonical_more rest

  -- after an element
  pub canonical_more : Elements → List ℕ
  canonical_more no_elements = 93 ∷ []
  canonical_more (element x rest) = 44 ∷ (canonical x ++ canonical_more rest)

  -- after the opening brace
  pub canonical_first_member : Members → List ℕ
  canonical_first_member no_members = 125 ∷ []
  canonical_first_member (member name x rest) = canonical_string name ++ (58 ∷ (canonical x ++ canonical_more_members rest))

  -- after a member
  pub canonical_more_members : Members → List ℕ
  canonical_more_members no_members = 125 ∷ []
  canonical_more_members (member name x rest) = 44 ∷ (canonical_string name ++ (58 ∷ (canonical x ++ canonical_more_members rest)))

-- Inner: the elements that follow: true where they are the first after the bracket
abbrev pub canonical_elements : Bool → Elements → List ℕ
canonical_elements true xs = canonical_first xs
canonical_elements false xs = canonical_more xs

-- Inner: the members that follow: true where they are the first after the brace
abbrev pub canonical_members : Bool → Members → List ℕ
canonical_members true ms = canonical_first_member ms
canonical_members false ms = canonical_more_members ms

-- Inner: a prefix of these bytes was appended
abbrev pub AppendsPrefix : List ℕ → List ℕ → List ℕ → Type 0
AppendsPrefix chunk old new = (part : List ℕ) × (rest : List ℕ) × (chunk ≡ part ++ rest) × (new ≡ old ++ part)
