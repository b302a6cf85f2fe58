-- The relation of a tree and its texts (RFC 8259).
use Rattle.std.specs.Prelude.{◌≡◌, ◌≢◌, ℕ, suc, ◌<◌, ◌||◌, ◌==◌, List, [], ◌∷◌, ◌++◌, Bool, true, false, cond}
use Rattle.std.specs.Str.{encode_utf8_all}
use Rattle.json_text.specs.Tree.{Tree, null, boolean, number, string, array, object, Elements, no_elements, element, Members, no_members, member, names}
use Rattle.json_text.specs.Number.{IsNumberText}
use Rattle.json_text.specs.Character.{AreCharacters}

-- how many arrays and objects may be open at once, and whether the names of one object have to differ
pub record Rules : Type 0 where
  pub limit : ℕ
  pub distinct : Bool

-- space, tab, line feed, carriage return
abbrev pub is_space : ℕ → Bool
is_space c = (c == 32) || (c == 9) || (c == 10) || (c == 13)

-- without the white space at its beginning
abbrev pub skip : List ℕ → List ℕ
skip [] = []
skip (c ∷ b) = cond (is_space c) (skip b) (c ∷ b)

-- the letters of null
abbrev pub literal_null : List ℕ
literal_null = 110 ∷ 117 ∷ 108 ∷ 108 ∷ []

-- the letters of true
abbrev pub literal_true : List ℕ
literal_true = 116 ∷ 114 ∷ 117 ∷ 101 ∷ []

-- the letters of false
abbrev pub literal_false : List ℕ
literal_false = 102 ∷ 97 ∷ 108 ∷ 115 ∷ 101 ∷ []

-- b is the rest of a string after its opening quotation mark, with the closing one, and then r; s is its text
pub record IsQuoted (s b r : List ℕ) : Type 0 where
  pub characters : List ℕ
  pub spelled : AreCharacters characters b r
  pub text : s ≡ encode_utf8_all characters

-- the name is none of these
abbrev pub IsNew : List ℕ → List (List ℕ) → Type 0
IsNew name [] = Unit {0}
IsNew name (other ∷ rest) = (name ≢ other) × IsNew name rest

-- no two of the names are equal
abbrev pub AreDistinct : List (List ℕ) → Type 0
AreDistinct [] = Unit {0}
AreDistinct (name ∷ rest) = IsNew name rest × AreDistinct rest

-- the rules let one object have members of these names
abbrev pub Allows : Rules → List (List ℕ) → Type 0
Allows R ns = R.distinct ≡ true → AreDistinct ns

-- b is white space, the name, a colon, and a value by V, and then r
pub record IsMember (V : List ℕ → List ℕ → Type 0) (name b r : List ℕ) : Type 0 where
  pub inside : List ℕ
  pub following : List ℕ
  pub value : List ℕ
  pub opens : skip b ≡ 34 ∷ inside
  pub named : IsQuoted name inside following
  pub colon : skip following ≡ 58 ∷ value
  pub valued : V (skip value) r

abbrev mutual
  -- b is a spelling of the tree inside d open arrays and objects, and then r
  pub Value : Rules → ℕ → Tree → List ℕ → List ℕ → Type 0
  Value R d null b r = b ≡ literal_null ++ r
  Value R d (boolean true) b r = b ≡ literal_true ++ r
  Value R d (boolean false) b r = b ≡ literal_false ++ r
  Value R d (number text) b r = IsNumberText text × (b ≡ text ++ r)
  Value R d (string text) b r = (m : List ℕ) × (b ≡ 34 ∷ m) × IsQuoted text m r
  Value R d (array xs) b r = (d < R.limit) × ((m : List ℕ) × (b ≡ 91 ∷ m) × First R (suc d) xs m r)
  Value R d (object ms) b r = (d < R.limit) × Allows R (names ms) × ((m : List ℕ) × (b ≡ 123 ∷ m) × FirstMember R (suc d) ms m r)

  -- after the opening bracket
  pub First : Rules → ℕ → Elements → List ℕ → List ℕ → Type 0
  First R d no_elements b r = skip b ≡ 93 ∷ r
  First R d (element x rest) b r = (n : List ℕ) × Value R d x (skip b) n × More R d rest n r

  -- after an element
  pub More : Rules → ℕ → Elements → List ℕ → List ℕ → Type 0
  More R d no_elements b r = skip b ≡ 93 ∷ r
  More R d (element x rest) b r = (m : List ℕ) × (n : List ℕ) × (skip b ≡ 44 ∷ m) × Value R d x (skip m) n × More R d rest n r

  -- after the opening brace
  pub FirstMember : Rules → ℕ → Members → List ℕ → List ℕ → Type 0
  FirstMember R d no_members b r = skip b ≡ 125 ∷ r
  FirstMember R d (member name x rest) b r = (n : List ℕ) × IsMember (Value R d x) name b n × MoreMembers R d rest n r

  -- after a member
  pub MoreMembers : Rules → ℕ → Members → List ℕ → List ℕ → Type 0
  MoreMembers R d no_members b r = skip b ≡ 125 ∷ r
  MoreMembers R d (member name x rest) b r = (m : List ℕ) × (n : List ℕ) × (skip b ≡ 44 ∷ m) × IsMember (Value R d x) name m n × MoreMembers R d rest n r

-- b is a text of the tree by these rules
abbrev pub SpellsBy : Rules → Tree → List ℕ → Type 0
SpellsBy R v b = (r : List ℕ) × Value R 0 v (skip b) r × (skip r ≡ [])

-- some text by these rules begins with this prefix
abbrev pub BeginsTextBy : Rules → List ℕ → Type 0
BeginsTextBy R prefix = (v : Tree) × (more : List ℕ) × SpellsBy R v (prefix ++ more)

-- this profile's rules: at most 32 open at once, no name twice in one object
abbrev pub profile : Rules
profile = record { limit = 32; distinct = true }

-- b is a text of the tree
abbrev pub Spells : Tree → List ℕ → Type 0
Spells v b = SpellsBy profile v b

-- some text begins with this prefix
abbrev pub BeginsText : List ℕ → Type 0
BeginsText prefix = BeginsTextBy profile prefix
