-- Inner: what may follow in each state of the reader.
use Rattle.std.specs.Prelude.{◌≡◌, ◌≢◌, ℕ, suc, ◌<◌, ◌≤◌, List, [], ◌∷◌, ◌++◌, length, map, true, false}
use Rattle.std.specs.Char.{encode_utf8}
use Rattle.std.specs.Str.{encode_utf8_all}
use Rattle.json_text.specs.Tree.{Tree, null, boolean, number, string, array, object, Elements, element, Members, member, names}
use Rattle.json_text.specs.ValueOf.{value_of, elements_onto, members_onto}
use Rattle.json_text.specs.MemberNames.{pair_names}
use Rattle.json_text.specs.Character.{AreCharacters}
use Rattle.json_text.specs.Grammar.{Rules, skip, Value, First, More, FirstMember, MoreMembers, Allows, SpellsBy, literal_null, literal_true, literal_false}
use Rattle.json_text.specs.Scan.{Scan, outside, inside, scan_from}
use Rattle.json_text.specs.inner.CharacterLeft.{LeftOfCharacter, scan_within}
use Rattle.json_text.specs.inner.NumberLeft.{LeftOfNumber}
use Rattle.json_text.specs.declared.character.CharacterState.{CharacterState}
use Rattle.json_text.specs.declared.number.NumberState.{NumberState}
use Rattle.json_text.specs.declared.literal.Literal.{Literal}
use Rattle.json_text.specs.declared.literal.Literal.TheVariants as literals
use Rattle.json_text.specs.declared.tree.Json.{Json}

-- ---- open arrays and objects

-- an open container with what it has; an object also with the name whose value comes
pub data Level : Type 0 where
  in_list : List Tree → Level
  in_object : List (List ℕ × Tree) → List ℕ → Level

-- inside these levels, innermost first, x has ended, b follows, and the whole is v
abbrev pub After : Rules → List Level → Tree → List ℕ → Tree → Type 0
After R [] x b v = (skip b ≡ []) × (v ≡ x)
After R (in_list done ∷ st) x b v = (xs : Elements) × (n : List ℕ) × More R (suc (length st)) xs b n × After R st (array (elements_onto done (element x xs))) n v
After R (in_object done k ∷ st) x b v = (ms : Members) × (n : List ℕ) × MoreMembers R (suc (length st)) ms b n × Allows R (pair_names done ++ k ∷ names ms) × After R st (object (members_onto done (member k x ms))) n v

-- a value comes
pub record AtValue (R : Rules) (st : List Level) (b : List ℕ) (v : Tree) : Type 0 where
  pub tree : Tree
  pub rest : List ℕ
  pub valued : Value R (length st) tree (skip b) rest
  pub after : After R st tree rest v

-- a colon comes, and then the value of the member of this name
pub record AtColon (R : Rules) (st : List Level) (done : List (List ℕ × Tree)) (name b : List ℕ) (v : Tree) : Type 0 where
  pub value : List ℕ
  pub tree : Tree
  pub rest : List ℕ
  pub colon : skip b ≡ 58 ∷ value
  pub valued : Value R (suc (length st)) tree (skip value) rest
  pub after : After R (in_object done name ∷ st) tree rest v

-- ---- texts, of which K says what they are once they are whole

-- characters and the closing quotation mark come
pub record IsStringRest (K : List ℕ → List ℕ → Type 0) (text b : List ℕ) : Type 0 where
  pub characters : List ℕ
  pub rest : List ℕ
  pub spelled : AreCharacters characters b rest
  pub closed : K (text ++ encode_utf8_all characters) rest

-- the rest of a character by L comes, and then more of the text
pub record IsInside (L : List ℕ → ℕ → Type 0) (K : List ℕ → List ℕ → Type 0) (text b : List ℕ) : Type 0 where
  pub bytes : List ℕ
  pub character : ℕ
  pub rest : List ℕ
  pub left : L bytes character
  pub parts : b ≡ bytes ++ rest
  pub following : IsStringRest K (text ++ encode_utf8 character) rest

-- the rest of a number by L comes
pub record IsNumberRest (L : List ℕ → Type 0) (K : List ℕ → List ℕ → Type 0) (text b : List ℕ) : Type 0 where
  pub digits : List ℕ
  pub rest : List ℕ
  pub left : L digits
  pub parts : b ≡ digits ++ rest
  pub following : K (text ++ digits) rest

-- ---- states

-- what a string is: a value, or the name of the member after these
pub data Role : Type 0 where
  as_value : Role
  as_name : List (List ℕ × Tree) → Role

-- what the reader reads, with what it has of it so far
pub data ReaderState : Type 0 where
  value : ReaderState
  first_element : ReaderState
  first_name : ReaderState
  name : List (List ℕ × Tree) → ReaderState
  colon : List (List ℕ × Tree) → List ℕ → ReaderState
  after : Tree → ReaderState
  literal : List ℕ → Tree → ReaderState
  number_in : List ℕ → NumberState → ReaderState
  string_in : Role → List ℕ → ReaderState
  character_in : Role → List ℕ → CharacterState → ReaderState

-- the string has been closed
abbrev pub Closed : Rules → List Level → Role → List ℕ → List ℕ → Tree → Type 0
Closed R st as_value text b v = After R st (string text) b v
Closed R st (as_name done) text b v = AtColon R st done text b v

-- b, read from here, makes v
abbrev pub Rest : Rules → ReaderState → List Level → List ℕ → Tree → Type 0
Rest R value st b v = AtValue R st b v
Rest R first_element st b v = (xs : Elements) × (n : List ℕ) × First R (suc (length st)) xs b n × After R st (array xs) n v
Rest R first_name st b v = (ms : Members) × (n : List ℕ) × FirstMember R (suc (length st)) ms b n × Allows R (names ms) × After R st (object ms) n v
Rest R (name done) st b v = (m : List ℕ) × (skip b ≡ 34 ∷ m) × IsStringRest (λ k n. AtColon R st done k n v) [] m
Rest R (colon done k) st b v = AtColon R st done k b v
Rest R (after x) st b v = After R st x b v
Rest R (literal l x) st b v = (n : List ℕ) × (b ≡ l ++ n) × After R st x n v
Rest R (number_in text p) st b v = IsNumberRest (LeftOfNumber p) (λ s n. After R st (number s) n v) text b
Rest R (string_in role text) st b v = IsStringRest (λ s n. Closed R st role s n v) text b
Rest R (character_in role text s) st b v = IsInside (LeftOfCharacter s) (λ t n. Closed R st role t n v) text b

-- the byte c leads from one state to another, whatever follows
pub record LeadsTo (R : Rules) (p : ReaderState) (st : List Level) (c : ℕ) (q : ReaderState) (st' : List Level) : Type 0 where
  pub on : (b : List ℕ) (v : Tree) → Rest R p st (c ∷ b) v → Rest R q st' b v
  pub back : (b : List ℕ) (v : Tree) → Rest R q st' b v → Rest R p st (c ∷ b) v

-- nothing goes on with the byte c
abbrev pub IsDead : Rules → ReaderState → List Level → ℕ → Type 0
IsDead R p st c = (b : List ℕ) (v : Tree) → Rest R p st (c ∷ b) v → ⊥

-- something goes on with the byte c
abbrev pub IsAlive : Rules → ReaderState → List Level → ℕ → Type 0
IsAlive R p st c = (b : List ℕ) × (v : Tree) × Rest R p st (c ∷ b) v

-- what has been read leads here, and nowhere else
pub record Follows (R : Rules) (prefix : List ℕ) (p : ReaderState) (st : List Level) : Type 0 where
  pub on : (b : List ℕ) (v : Tree) → SpellsBy R v (prefix ++ b) → Rest R p st b v
  pub back : (b : List ℕ) (v : Tree) → Rest R p st b v → SpellsBy R v (prefix ++ b)

-- what the scan says in this state
abbrev pub scan_of : ReaderState → Scan
scan_of value = outside
scan_of first_element = outside
scan_of first_name = outside
scan_of (name done) = outside
scan_of (colon done k) = outside
scan_of (after x) = outside
scan_of (literal l x) = outside
scan_of (number_in text p) = outside
scan_of (string_in role text) = inside
scan_of (character_in role text s) = scan_within s

-- ---- the reader's values as plain data

-- members as names and trees
abbrev pub pairs : List (List ℕ × Json) → List (List ℕ × Tree)
pairs ms = map (λ m. (m.0, value_of m.1)) ms

-- the letters of a literal
abbrev pub literal_text : Literal → List ℕ
literal_text literals.Null = literal_null
literal_text literals.True = literal_true
literal_text literals.False = literal_false

-- the value that it is
abbrev pub literal_tree : Literal → Tree
literal_tree literals.Null = null
literal_tree literals.True = boolean true
literal_tree literals.False = boolean false

-- a character of a string by itself: ASCII, and no control character, quotation mark or backslash
abbrev pub IsPlain : ℕ → Type 0
IsPlain c = (32 ≤ c) × (c < 128) × (c ≢ 34) × (c ≢ 92)

-- each of these is a character of a string by itself
abbrev pub ArePlain : List ℕ → Type 0
ArePlain [] = Unit {0}
ArePlain (c ∷ w) = IsPlain c × ArePlain w

-- the bytes w lead from one state to another, whatever is open and whatever follows
pub record LeadsOver (p : ReaderState) (w : List ℕ) (q : ReaderState) : Type 0 where
  pub on : (R : Rules) (st : List Level) (b : List ℕ) (v : Tree) → Rest R p st (w ++ b) v → Rest R q st b v
  pub back : (R : Rules) (st : List Level) (b : List ℕ) (v : Tree) → Rest R q st b v → Rest R p st (w ++ b) v
  pub scans : scan_from (scan_of p) w ≡ scan_of q

-- the bytes w are whole characters, with which this text of a string becomes another
abbrev pub TextGrows : List ℕ → List ℕ → List ℕ → Type 0
TextGrows old w new = (role : Role) → LeadsOver (string_in role old) w (string_in role new)

-- the bytes w go on with any number in this state, up to another
abbrev pub NumberGrows : NumberState → List ℕ → NumberState → Type 0
NumberGrows p w q = (text : List ℕ) → LeadsOver (number_in text p) w (number_in (text ++ w) q)

-- the text can't end here
abbrev pub CannotEnd : ReaderState → List Level → Type 0
CannotEnd p st = (R : Rules) (v : Tree) → Rest R p st [] v → ⊥
