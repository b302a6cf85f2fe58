-- Inner: how far a text has been read, and what is read of it from there on.
use Rattle.std.specs.Prelude.{◌≡◌, ℕ, suc, ◌+◌, ◌<◌, ◌≤◌, List, [], ◌∷◌, ◌++◌, length, take, drop, slice_index, true, false}
use Rattle.std.specs.Char.{encode_utf8}
use Rattle.json_text.specs.Tree.{Tree}
use Rattle.json_text.specs.ValueOf.{value_of}
use Rattle.json_text.specs.MemberNames.{pair_names}
use Rattle.json_text.specs.Grammar.{Rules, AreDistinct, is_space}
use Rattle.json_text.specs.Scan.{outside, scan, scan_from}
use Rattle.json_text.specs.Fault.{RefusesText}
use Rattle.json_text.specs.inner.ReaderStates.{Level, in_list, in_object, Role, as_value, as_name, ReaderState, value, name, colon, after, string_in, character_in, Rest, LeadsTo, Follows, CannotEnd, scan_of, pairs}
use Rattle.json_text.specs.declared.character.CharacterState.{CharacterState}
use Rattle.json_text.specs.declared.fault.ReadError.{ReadError}
use Rattle.json_text.specs.declared.tree.Json.{Json}

-- ---- what has been read

-- the names of each open object differ
abbrev pub AreSound : List Level → Type 0
AreSound [] = Unit {0}
AreSound (in_list done ∷ st) = AreSound st
AreSound (in_object done k ∷ st) = AreDistinct (pair_names done ++ k ∷ []) × AreSound st

-- the members before a name have names that differ
abbrev pub IsRoleSound : Role → Type 0
IsRoleSound as_value = Unit {0}
IsRoleSound (as_name done) = AreDistinct (pair_names done)

-- some bytes may follow, and make a whole of it
abbrev pub IsLive : Rules → ReaderState → List Level → Type 0
IsLive R p st = (b : List ℕ) × (v : Tree) × Rest R p st b v

-- the prefix leads to the state by all rules that allow 32 levels, some bytes may follow, and the scan of its strings agrees
pub record IsLedTo (prefix : List ℕ) (p : ReaderState) (st : List Level) : Type 0 where
  pub follows : (R : Rules) → 32 ≤ R.limit → Follows R prefix p st
  pub live : (R : Rules) → IsLive R p st
  pub scans : scan prefix ≡ scan_of p

-- both begin with the same byte, or both are empty
abbrev pub BeginAlike : List ℕ → List ℕ → Type 0
BeginAlike [] t = t ≡ []
BeginAlike (c ∷ b) [] = ⊥
BeginAlike (c ∷ b) (d ∷ t) = c ≡ d

-- b has been read to this offset, and with the byte that comes next, or where none does, goes on as in this state inside these levels, each of whose objects has names that differ
pub record ReadTo (b : List ℕ) (offset : ℕ) (p : ReaderState) (st : List Level) : Type 0 where
  pub within : offset ≤ length b
  pub sound : AreSound st
  pub state : ReaderState
  pub inside : List Level
  pub read : IsLedTo (take offset b) state inside
  pub on : (R : Rules) (t : List ℕ) (v : Tree) → BeginAlike (drop offset b) t → Rest R state inside t v → Rest R p st t v
  pub back : (R : Rules) (t : List ℕ) (v : Tree) → BeginAlike (drop offset b) t → Rest R p st t v → Rest R state inside t v
  pub scans : scan_of state ≡ scan_of p

-- the bytes w lead from one state to another by all rules that allow 32 levels, whatever follows, and the scan of strings agrees
pub record LeadsThrough (p : ReaderState) (st : List Level) (w : List ℕ) (q : ReaderState) (st' : List Level) : Type 0 where
  pub on : (R : Rules) → 32 ≤ R.limit → (t : List ℕ) (v : Tree) → Rest R p st (w ++ t) v → Rest R q st' t v
  pub back : (R : Rules) → 32 ≤ R.limit → (t : List ℕ) (v : Tree) → Rest R q st' t v → Rest R p st (w ++ t) v
  pub scans : scan_from (scan_of p) w ≡ scan_of q

-- ---- what is read

-- this byte comes at this offset
pub record IsByteAt (b : List ℕ) (offset : ℕ) (c : ℕ) : Type 0 where
  pub there : offset < length b
  pub byte : c ≡ slice_index b offset

-- where b is read to one state at the first offset, it is read to the other at the second
pub record ReadsOn (b : List ℕ) (start : ℕ) (p : ReaderState) (end : ℕ) (q : ReaderState) : Type 0 where
  pub comes : (st : List Level) → ReadTo b start p st → ReadTo b end q st

-- where b is read to the state, it has this fault, or memory was refused
pub record Refused (b : List ℕ) (start : ℕ) (p : ReaderState) (e : ReadError) : Type 0 where
  pub refuses : (st : List Level) → ReadTo b start p st → RefusesText b e

-- as ReadsOn, where so many levels are left
pub record ReadsOnWithin (left : ℕ) (b : List ℕ) (start : ℕ) (p : ReaderState) (end : ℕ) (q : ReaderState) : Type 0 where
  pub comes : (st : List Level) → length st + left ≡ 32 → ReadTo b start p st → ReadTo b end q st

-- as Refused, where so many levels are left
pub record RefusedWithin (left : ℕ) (b : List ℕ) (start : ℕ) (p : ReaderState) (e : ReadError) : Type 0 where
  pub refuses : (st : List Level) → length st + left ≡ 32 → ReadTo b start p st → RefusesText b e

-- ---- white space and tokens

-- the state is between two tokens: outside of strings, left as it is by white space, and able to go on
pub record IsBetween (p : ReaderState) : Type 0 where
  pub outside : scan_of p ≡ outside
  pub stays : (R : Rules) (st : List Level) (c : ℕ) → is_space c ≡ true → LeadsTo R p st c p st
  pub live : (R : Rules) (st : List Level) → AreSound st → IsLive R p st

-- where b is read to a state between two tokens at the first offset, it is so at the second
pub record Skips (b : List ℕ) (start end : ℕ) : Type 0 where
  pub comes : (p : ReaderState) (st : List Level) → IsBetween p → ReadTo b start p st → ReadTo b end p st

-- after the white space from the first offset on the next token begins at the second, with this byte
pub record IsToken (b : List ℕ) (start end c : ℕ) : Type 0 where
  pub skips : Skips b start end
  pub begins : IsByteAt b end c
  pub not_space : is_space c ≡ false
  pub forward : start ≤ end

-- where a token has to come from this offset on, b has this fault, or memory was refused
pub record EndsOpen (b : List ℕ) (start : ℕ) (e : ReadError) : Type 0 where
  pub refuses : (p : ReaderState) (st : List Level) → IsBetween p → CannotEnd p st → ReadTo b start p st → RefusesText b e

-- ---- strings

-- the bytes from one offset to the other make one text of any string another
pub record StringRead (b : List ℕ) (start : ℕ) (old : List ℕ) (end : ℕ) (new : List ℕ) : Type 0 where
  pub comes : (role : Role) (st : List Level) → IsRoleSound role → ReadTo b start (string_in role old) st → ReadTo b end (string_in role new) st

-- any string with this text so far has this fault, or memory was refused
pub record RefusedString (b : List ℕ) (start : ℕ) (text : List ℕ) (e : ReadError) : Type 0 where
  pub refuses : (role : Role) (st : List Level) → IsRoleSound role → ReadTo b start (string_in role text) st → RefusesText b e

-- the bytes between these offsets are this character of any string
pub record CharacterRead (b : List ℕ) (start end c : ℕ) : Type 0 where
  pub reads : (text : List ℕ) → StringRead b start text end (text ++ encode_utf8 c)

-- any string has this fault, or memory was refused
pub record RefusedCharacter (b : List ℕ) (start : ℕ) (e : ReadError) : Type 0 where
  pub refuses : (text : List ℕ) → RefusedString b start text e

-- the bytes between these offsets are the rest of this character of any string
pub record CharacterEnds (b : List ℕ) (start : ℕ) (s : CharacterState) (end c : ℕ) : Type 0 where
  pub comes : (role : Role) (text : List ℕ) (st : List Level) → IsRoleSound role → ReadTo b start (character_in role text s) st → ReadTo b end (string_in role (text ++ encode_utf8 c)) st

-- any string inside this character has this fault, or memory was refused
pub record RefusedInside (b : List ℕ) (start : ℕ) (s : CharacterState) (e : ReadError) : Type 0 where
  pub refuses : (role : Role) (text : List ℕ) (st : List Level) → IsRoleSound role → ReadTo b start (character_in role text s) st → RefusesText b e

-- ---- members

-- a colon is between these offsets, and then a value comes, whatever the name
pub record ColonRead (b : List ℕ) (start end : ℕ) : Type 0 where
  pub comes : (done : List (List ℕ × Tree)) (k : List ℕ) (st : List Level) → AreDistinct (pair_names done ++ k ∷ []) → ReadTo b start (colon done k) st → ReadTo b end value (in_object done k ∷ st)

-- where a colon has to come, whatever the name, b has this fault, or memory was refused
pub record RefusedColon (b : List ℕ) (start : ℕ) (e : ReadError) : Type 0 where
  pub refuses : (done : List (List ℕ × Tree)) (k : List ℕ) (st : List Level) → AreDistinct (pair_names done ++ k ∷ []) → ReadTo b start (colon done k) st → RefusesText b e

-- the opening quotation mark of a name is between these offsets
pub record NameOpens (b : List ℕ) (start end : ℕ) : Type 0 where
  pub comes : (done : List (List ℕ × Tree)) (st : List Level) → AreDistinct (pair_names done) → ReadTo b start (name done) st → ReadTo b end (string_in (as_name done) []) st

-- where a name has to come, whatever the members before, b has this fault, or memory was refused
pub record RefusedName (b : List ℕ) (start : ℕ) (e : ReadError) : Type 0 where
  pub refuses : (done : List (List ℕ × Tree)) (st : List Level) → AreDistinct (pair_names done) → ReadTo b start (name done) st → RefusesText b e

-- one more member is read, where so many levels are left inside the object; its value has just ended
pub record MemberRead (left : ℕ) (b : List ℕ) (start : ℕ) (old : List (List ℕ × Json)) (end : ℕ) (new : List (List ℕ × Json)) : Type 0 where
  pub member_name : List ℕ
  pub json : Json
  pub more : new ≡ old ++ (member_name, json) ∷ []
  pub comes : (st : List Level) → suc (length st) + left ≡ 32 → ReadTo b start (string_in (as_name (pairs old)) []) st → ReadTo b end (after (value_of json)) (in_object (pairs old) member_name ∷ st)
