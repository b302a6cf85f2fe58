-- The steps in strings, in numbers and after values.
use Rattle.std.proofs.Common.{◌≡◌, ◌≢◌, ℕ, suc, List, [], ◌∷◌, ◌++◌, length, true, false, sym}
use Rattle.std.specs.Char.{encode_utf8}
use Rattle.json_text.specs.Tree.{Tree, number, string}
use Rattle.json_text.specs.Grammar.{Rules, is_space}
use Rattle.json_text.specs.Scan.{Scan, inside}
use Rattle.json_text.specs.inner.CharacterLeft.{LeftOfCharacter, IsSound, LeavesNext, LeavesNone, Starts}
use Rattle.json_text.specs.inner.NumberLeft.{LeftOfNumber, IsNumberByte, LeavesNumber, EndsNumber}
use Rattle.json_text.specs.inner.ReaderStates.{Level, in_list, in_object, After, Role, as_value, after, number_in, string_in, character_in, Closed, Rest, LeadsTo, IsDead}
use Rattle.json_text.specs.declared.character.CharacterState.{CharacterState}
use Rattle.json_text.specs.declared.number.NumberState.{NumberState}
use Rattle.json_text.proofs.ListLemmas.{not_nil}
use Rattle.json_text.proofs.ScanLemmas.{no_space}
use Rattle.json_text.proofs.StringLemmas.{closes_on, closes_back, begins_on, begins_back, starts_pending, pending, next_on, next_back, whole_on, whole_back, wrong_byte, numeral_on, numeral_back, numeral_ends, numeral_ended}
use Rattle.json_text.proofs.ValueLemmas.{space_more, more_dead}
use Rattle.json_text.proofs.ObjectLemmas.{space_more_members, more_members_dead}

-- ---- a value has ended

pub space_after : (R : Rules) (x : Tree) (st : List Level) (c : ℕ) → is_space c ≡ true → LeadsTo R (after x) st c (after x) st
space_after R x [] c e = record { on = λ b v h. rw e at h; back = λ b v h. rw e h }
space_after R x (in_list done ∷ st) c e = record {
  on = λ b v h. (h.0, h.1, (space_more R (suc (length st)) c e h.0 b h.1).0 h.2, h.3);
  back = λ b v h. (h.0, h.1, (space_more R (suc (length st)) c e h.0 b h.1).1 h.2, h.3);
}
space_after R x (in_object done k ∷ st) c e = record {
  on = λ b v h. (h.0, h.1, (space_more_members R (suc (length st)) c e h.0 b h.1).0 h.2, h.3, h.4);
  back = λ b v h. (h.0, h.1, (space_more_members R (suc (length st)) c e h.0 b h.1).1 h.2, h.3, h.4);
}

pub end_dead : (R : Rules) (x : Tree) (c : ℕ) → is_space c ≡ false → IsDead R (after x) [] c
end_dead R x c solid b v h = let e : c ∷ b ≡ [] = rw solid at h.0 in not_nil c b (sym e)

pub list_dead : (R : Rules) (x : Tree) (done : List Tree) (st : List Level) (c : ℕ) → is_space c ≡ false → c ≢ 44 → c ≢ 93 → IsDead R (after x) (in_list done ∷ st) c
list_dead R x done st c solid comma close b v h = more_dead R (suc (length st)) c b h.0 h.1 solid comma close h.2

pub object_dead : (R : Rules) (x : Tree) (done : List (List ℕ × Tree)) (k : List ℕ) (st : List Level) (c : ℕ) → is_space c ≡ false → c ≢ 44 → c ≢ 125 → IsDead R (after x) (in_object done k ∷ st) c
object_dead R x done k st c solid comma brace b v h = more_members_dead R (suc (length st)) c b h.0 h.1 solid comma brace h.2

-- no byte of a number comes after a value
pub number_byte_dead : (R : Rules) (x : Tree) (st : List Level) (c : ℕ) → IsNumberByte c → IsDead R (after x) st c
number_byte_dead R x st c n = dead st (let o = n.no_space in no_space c o.0 o.1 o.2 o.3)
  where
    dead : (st : List Level) → is_space c ≡ false → IsDead R (after x) st c
    dead [] solid = end_dead R x c solid
    dead (in_list done ∷ st) solid = list_dead R x done st c solid n.no_mark.0 n.no_mark.1
    dead (in_object done k ∷ st) solid = object_dead R x done k st c solid n.no_mark.0 n.no_mark.2

-- ---- numbers

pub number_on : (R : Rules) (st : List Level) (text : List ℕ) (p q : NumberState) (c : ℕ) → LeavesNumber (LeftOfNumber p) c q → LeadsTo R (number_in text p) st c (number_in (text ++ c ∷ []) q) st
number_on R st text p q c m = record {
  on = λ b v h. numeral_on (LeftOfNumber p) (λ s n. After R st (number s) n v) text c q b m (λ s n. number_byte_dead R (number s) st c m.byte n v) h;
  back = λ b v h. numeral_back (LeftOfNumber p) (λ s n. After R st (number s) n v) text c q b m h;
}

pub number_ends : (R : Rules) (st : List Level) (text : List ℕ) (p : NumberState) (c : ℕ) → EndsNumber (LeftOfNumber p) c → (b : List ℕ) (v : Tree) → Rest R (number_in text p) st (c ∷ b) v → Rest R (after (number text)) st (c ∷ b) v
number_ends R st text p c dead b v h = (numeral_ends (LeftOfNumber p) (λ s n. After R st (number s) n v) text c b dead h).1

pub number_ended : (R : Rules) (st : List Level) (text : List ℕ) (p : NumberState) → LeftOfNumber p [] → (b : List ℕ) (v : Tree) → Rest R (after (number text)) st b v → Rest R (number_in text p) st b v
number_ended R st text p whole b v h = numeral_ended (LeftOfNumber p) (λ s n. After R st (number s) n v) text b whole h

pub number_dead : (R : Rules) (st : List Level) (text : List ℕ) (p : NumberState) (c : ℕ) → EndsNumber (LeftOfNumber p) c → (LeftOfNumber p [] → ⊥) → IsDead R (number_in text p) st c
number_dead R st text p c dead open_ b v h = open_ (numeral_ends (LeftOfNumber p) (λ s n. After R st (number s) n v) text c b dead h).0

-- ---- strings

pub text_closes : (R : Rules) (st : List Level) (text : List ℕ) → LeadsTo R (string_in as_value text) st 34 (after (string text)) st
text_closes R st text = record { on = λ b v h. closes_on (λ s n. Closed R st as_value s n v) text b h; back = λ b v h. closes_back (λ s n. Closed R st as_value s n v) text b h }

pub text_next : (R : Rules) (st : List Level) (role : Role) (text : List ℕ) (x : ℕ) (s : CharacterState) → x ≢ 34 → LeavesNext Starts inside x s → LeadsTo R (string_in role text) st x (character_in role text s) st
text_next R st role text x s ne m = record {
  on = λ b v h. next_on Starts (λ t n. Closed R st role t n v) text inside x s b starts_pending m (begins_on (λ t n. Closed R st role t n v) text x b ne h);
  back = λ b v h. begins_back (λ t n. Closed R st role t n v) text (x ∷ b) (next_back Starts (λ t n. Closed R st role t n v) text inside x s b m h);
}

pub text_whole : (R : Rules) (st : List Level) (role : Role) (text : List ℕ) (x c : ℕ) → x ≢ 34 → LeavesNone Starts inside x c → LeadsTo R (string_in role text) st x (string_in role (text ++ encode_utf8 c)) st
text_whole R st role text x c ne m = record {
  on = λ b v h. whole_on Starts (λ t n. Closed R st role t n v) text inside x c b starts_pending m (begins_on (λ t n. Closed R st role t n v) text x b ne h);
  back = λ b v h. begins_back (λ t n. Closed R st role t n v) text (x ∷ b) (whole_back Starts (λ t n. Closed R st role t n v) text inside x c b m h);
}

pub text_dead : (R : Rules) (st : List Level) (role : Role) (text : List ℕ) (x : ℕ) → x ≢ 34 → ((w : List ℕ) (c : ℕ) → Starts (x ∷ w) c → ⊥) → IsDead R (string_in role text) st x
text_dead R st role text x ne dead b v h = wrong_byte Starts (λ t n. Closed R st role t n v) text x b starts_pending dead (begins_on (λ t n. Closed R st role t n v) text x b ne h)

pub character_next : (R : Rules) (st : List Level) (role : Role) (text : List ℕ) (s t : CharacterState) (here : Scan) (x : ℕ) → IsSound s → LeavesNext (LeftOfCharacter s) here x t → LeadsTo R (character_in role text s) st x (character_in role text t) st
character_next R st role text s t here x sound m = record {
  on = λ b v h. next_on (LeftOfCharacter s) (λ t n. Closed R st role t n v) text here x t b (pending s sound) m h;
  back = λ b v h. next_back (LeftOfCharacter s) (λ t n. Closed R st role t n v) text here x t b m h;
}

pub character_whole : (R : Rules) (st : List Level) (role : Role) (text : List ℕ) (s : CharacterState) (here : Scan) (x c : ℕ) → IsSound s → LeavesNone (LeftOfCharacter s) here x c → LeadsTo R (character_in role text s) st x (string_in role (text ++ encode_utf8 c)) st
character_whole R st role text s here x c sound m = record {
  on = λ b v h. whole_on (LeftOfCharacter s) (λ t n. Closed R st role t n v) text here x c b (pending s sound) m h;
  back = λ b v h. whole_back (LeftOfCharacter s) (λ t n. Closed R st role t n v) text here x c b m h;
}

pub character_dead : (R : Rules) (st : List Level) (role : Role) (text : List ℕ) (s : CharacterState) (x : ℕ) → IsSound s → ((w : List ℕ) (c : ℕ) → LeftOfCharacter s (x ∷ w) c → ⊥) → IsDead R (character_in role text s) st x
character_dead R st role text s x sound dead b v h = wrong_byte (LeftOfCharacter s) (λ t n. Closed R st role t n v) text x b (pending s sound) dead h
