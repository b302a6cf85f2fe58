-- White space, strings, numbers and literal names, from one offset to another.
use Rattle.std.proofs.Common.{◌≡◌, ◌≢◌, ◌⊎◌, inl, inr, ℕ, zero, suc, ◌+◌, ◌-◌, ◌<◌, ◌≤◌, List, [], ◌∷◌, ◌++◌, length, get_or, take, drop, true, false, refl, sym, ap, subst, ◌∙◌, arith, append_assoc, length-drop}
use Rattle.std.specs.Char.{encode_utf8}
use Rattle.std.proofs.lemmas.List.{append-nil, take_more, take_rest, get_or-drop, drop_more, drop_all}
use Rattle.std.proofs.lemmas.Bool.{cases_lt}
use Rattle.std.proofs.lemmas.Str.{encode_ascii}
use Rattle.std.proofs.Math.Seq.{take-add}
use Rattle.json_text.specs.Tree.{Tree, null, boolean, number, string}
use Rattle.json_text.specs.ValueOf.{value_of}
use Rattle.json_text.specs.MemberNames.{pair_names}
use Rattle.json_text.specs.Grammar.{Rules, AreDistinct, is_space}
use Rattle.json_text.specs.Number.{AreDigits, IsNumberText}
use Rattle.json_text.specs.Scan.{Scan, outside, inside, scan_from, scan_step}
use Rattle.json_text.specs.Fault.{IsJsonFault}
use Rattle.json_text.specs.inner.CharacterLeft.{LeftOfCharacter, IsSound, LeavesNext, LeavesNone, Starts, scan_within}
use Rattle.json_text.specs.inner.NumberLeft.{LeftOfNumber, LeavesNumber, EndsNumber, TakesDigits}
use Rattle.json_text.specs.inner.ReaderStates.{Level, Role, as_value, Closed, ReaderState, value, first_element, first_name, name, colon, after, literal, number_in, string_in, character_in, Rest, LeadsTo, IsDead, LeadsOver, TextGrows, NumberGrows, scan_of, CannotEnd, IsPlain, ArePlain, literal_text, literal_tree}
use Rattle.json_text.specs.inner.ByteFaults.{FailsAt, IsKindAt}
use Rattle.json_text.specs.inner.ReaderProgress.{IsRoleSound, ReadTo, IsBetween, Skips, StringRead}
use Rattle.json_text.specs.declared.character.CharacterState.{CharacterState}
use Rattle.json_text.specs.declared.number.NumberState.{NumberState}
use Rattle.json_text.specs.declared.literal.Literal.{Literal}
use Rattle.json_text.specs.declared.literal.Literal.TheVariants as literals
use Rattle.json_text.specs.declared.fault.FaultKind.{FaultKind}
use Rattle.json_text.specs.declared.fault.FaultKind.TheVariants as kinds
use Rattle.json_text.specs.declared.tree.Json.TheVariants as jsons
use Rattle.json_text.proofs.PlainLemmas.{plain_append}
use Rattle.json_text.proofs.TreeLemmas.{value_of-Number}
use Rattle.json_text.proofs.ListLemmas.{head_is, tail_is, not_nil}
use Rattle.json_text.proofs.ScanLemmas.{stays_outside, space_is}
use Rattle.json_text.proofs.CharacterLemmas.{first_ascii, starts_scalar}
use Rattle.json_text.proofs.StringLemmas.{text_nil, inside_nil, pending, numeral_nil}
use Rattle.json_text.proofs.ValueLemmas.{space_value, space_first_element, begins_string, begins_number, begins_null, begins_true, begins_false}
use Rattle.json_text.proofs.ObjectLemmas.{space_first_name}
use Rattle.json_text.proofs.StateLemmas.{space_after, number_on, number_ends, number_ended, number_dead, text_closes, text_whole, text_next, text_dead, character_next, character_whole, character_dead}
use Rattle.json_text.proofs.LiveLemmas.{value_live, first_element_live, first_name_live, name_live, colon_live, after_live, literal_live, number_live, text_live, character_live}
use Rattle.json_text.proofs.ProgressLemmas.{scan_append, step, over, same, same_there, same_at_end, refuse, refuse_end, outside_wrong}

-- ---- bytes that lead on, one after the other

over_none : (p : ReaderState) → LeadsOver p [] p
over_none p = record { on = λ R st b v h. h; back = λ R st b v h. h; scans = refl }

over_byte : (p : ReaderState) (c : ℕ) (q : ReaderState) → ((R : Rules) (st : List Level) → LeadsTo R p st c q st) → scan_step (scan_of p) c ≡ scan_of q → LeadsOver p (c ∷ []) q
over_byte p c q l s = record { on = λ R st b v h. (l R st).on b v h; back = λ R st b v h. (l R st).back b v h; scans = s }

over_then : (p q r : ReaderState) (w x : List ℕ) → LeadsOver p w q → LeadsOver q x r → LeadsOver p (w ++ x) r
over_then p q r w x f g = record {
  on = λ R st b v h. g.on R st b v (f.on R st (x ++ b) v (rw append_assoc at h));
  back = λ R st b v h. rw append_assoc (f.back R st (x ++ b) v (g.back R st b v h));
  scans = scan_append (scan_of p) w x ∙ ap (λ (s : Scan). scan_from s x) f.scans ∙ g.scans;
}

-- ---- white space

-- white space is outside of strings
space_stays : (c : ℕ) → is_space c ≡ true → scan_step outside c ≡ outside
space_stays c e = let s = space_is c e in stays_outside c (omega arith)

space_name : (R : Rules) (done : List (List ℕ × Tree)) (st : List Level) (c : ℕ) → is_space c ≡ true → LeadsTo R (name done) st c (name done) st
space_name R done st c e = record { on = λ b v h. (h.0, rw e at h.1, h.2); back = λ b v h. (h.0, rw e h.1, h.2) }

space_colon : (R : Rules) (done : List (List ℕ × Tree)) (k : List ℕ) (st : List Level) (c : ℕ) → is_space c ≡ true → LeadsTo R (colon done k) st c (colon done k) st
space_colon R done k st c e = record {
  on = λ b v h. record { value = h.value; tree = h.tree; rest = h.rest; colon = rw e at h.colon; valued = h.valued; after = h.after };
  back = λ b v h. record { value = h.value; tree = h.tree; rest = h.rest; colon = rw e h.colon; valued = h.valued; after = h.after };
}

pub value_between : IsBetween value
value_between = record { outside = refl; stays = λ R st c e. space_value R st c e; live = λ R st s. value_live R st s }

pub first_element_between : IsBetween first_element
first_element_between = record { outside = refl; stays = λ R st c e. space_first_element R st c e; live = λ R st s. first_element_live R st s }

pub first_name_between : IsBetween first_name
first_name_between = record { outside = refl; stays = λ R st c e. space_first_name R st c e; live = λ R st s. first_name_live R st s }

pub name_between : (done : List (List ℕ × Tree)) → AreDistinct (pair_names done) → IsBetween (name done)
name_between done d = record { outside = refl; stays = λ R st c e. space_name R done st c e; live = λ R st s. name_live R st done s d }

pub colon_between : (done : List (List ℕ × Tree)) (k : List ℕ) → AreDistinct (pair_names done ++ k ∷ []) → IsBetween (colon done k)
colon_between done k d = record { outside = refl; stays = λ R st c e. space_colon R done k st c e; live = λ R st s. colon_live R st done k s d }

pub after_between : (x : Tree) → IsBetween (after x)
after_between x = record { outside = refl; stays = λ R st c e. space_after R x st c e; live = λ R st s. after_live R st x s }

pub skips_one : (b : List ℕ) (start offset c : ℕ) → offset < length b → c ≡ get_or b offset 0 → is_space c ≡ true → Skips b start offset → Skips b start (offset + 1)
skips_one b start offset c lt e s h = record {
  comes = λ p st i g. step b offset c p st p st lt e (h.comes p st i g) (λ R le. i.stays R st c s) (subst (λ (x : Scan). scan_step x c ≡ x) (sym i.outside) (space_stays c s)) (h.comes p st i g).sound (λ R. i.live R st (h.comes p st i g).sound);
}

-- ---- the marks of strings

pub string_open : (role : Role) (text : List ℕ) (st : List Level) → CannotEnd (string_in role text) st
string_open role text st R v h = text_nil (λ s n. Closed R st role s n v) text h

pub value_quote : (b : List ℕ) (offset c : ℕ) (st : List Level) → offset < length b → c ≡ get_or b offset 0 → c ≡ 34 → ReadTo b offset value st → ReadTo b (offset + 1) (string_in as_value []) st
value_quote b offset c st lt e q h =
    step b offset 34 value st (string_in as_value []) st lt (sym q ∙ e) h (λ R le. begins_string R st) refl h.sound (λ R. text_live R st as_value [] h.sound tt)

pub value_unquote : (b : List ℕ) (offset c : ℕ) (text : List ℕ) (st : List Level) → offset < length b → c ≡ get_or b offset 0 → c ≡ 34 → ReadTo b offset (string_in as_value text) st → ReadTo b (offset + 1) (after (string text)) st
value_unquote b offset c text st lt e q h =
    step b offset 34 (string_in as_value text) st (after (string text)) st lt (sym q ∙ e) h (λ R le. text_closes R st text) refl h.sound (λ R. after_live R st (string text) h.sound)

-- ---- plain characters

plain_byte : (old : List ℕ) (c : ℕ) → IsPlain c → TextGrows old (c ∷ []) (old ++ c ∷ [])
plain_byte old c p role =
    let l = first_ascii c p.0 (omega (arith, p)) p.2 p.3 in
    subst (λ (t : List ℕ). LeadsOver (string_in role old) (c ∷ []) (string_in role (old ++ t))) (encode_ascii c p.1)
    (over_byte (string_in role old) c (string_in role (old ++ encode_utf8 c)) (λ R st. text_whole R st role old c c p.2 l) l.scans)

plain_grows : (w old : List ℕ) → ArePlain w → TextGrows old w (old ++ w)
plain_grows [] old h role = subst (λ (t : List ℕ). LeadsOver (string_in role old) [] (string_in role t)) (sym (append-nil old)) (over_none (string_in role old))
plain_grows (c ∷ w) old h role =
    subst (λ (t : List ℕ). LeadsOver (string_in role old) (c ∷ w) (string_in role t)) (append_assoc old (c ∷ []) w)
    (over_then (string_in role old) (string_in role (old ++ c ∷ [])) (string_in role ((old ++ c ∷ []) ++ w)) (c ∷ []) w (plain_byte old c h.0 role) (plain_grows w (old ++ c ∷ []) h.1 role))

-- some plain characters more
pub plain_read : (b : List ℕ) (offset n : ℕ) (old : List ℕ) → offset + n ≤ length b → ArePlain (take n (drop offset b)) → StringRead b offset old (offset + n) (old ++ take n (drop offset b))
plain_read b offset n old le h = record {
  comes = λ role st r c. over b offset n (string_in role old) (string_in role (old ++ take n (drop offset b))) st le c (plain_grows (take n (drop offset b)) old h role) (λ R. text_live R st role (old ++ take n (drop offset b)) c.sound r);
}

-- the bytes from the offset on, of which the first n are plain
pub plain_ahead : (b : List ℕ) (offset n : ℕ) → offset ≤ length b → n ≤ length (take (length b - offset) (drop offset b)) → ArePlain (take n (take (length b - offset) (drop offset b))) → (offset + n ≤ length b) × ArePlain (take n (drop offset b))
plain_ahead b offset n le few h =
    let rest = take_rest b offset in
    (omega (arith, ap length rest, length-drop offset b), subst (λ (w : List ℕ). ArePlain (take n w)) rest h)

pub plain_copied : (b : List ℕ) (offset n : ℕ) (text : List ℕ) → offset ≤ length b → n ≤ length (take (length b - offset) (drop offset b)) → ArePlain (take n (take (length b - offset) (drop offset b))) → text ≡ take (offset + n - offset) (drop offset b) → StringRead b offset [] (offset + n) text
plain_copied b offset n text le few h e =
    let p = plain_ahead b offset n le few h in
    let size : offset + n - offset ≡ n = omega arith in
    subst (λ (t : List ℕ). StringRead b offset [] (offset + n) t) (sym (e ∙ ap (λ (k : ℕ). take k (drop offset b)) size)) (plain_read b offset n [] p.0 p.1)

pub plain_appended : (b : List ℕ) (offset n : ℕ) (old new : List ℕ) → offset ≤ length b → n ≤ length (take (length b - offset) (drop offset b)) → ArePlain (take n (take (length b - offset) (drop offset b))) → new ≡ old ++ take (offset + n - offset) (drop offset b) → StringRead b offset old (offset + n) new
plain_appended b offset n old new le few h e =
    let p = plain_ahead b offset n le few h in
    let size : offset + n - offset ≡ n = omega arith in
    subst (λ (t : List ℕ). StringRead b offset old (offset + n) t) (sym (e ∙ ap (λ (k : ℕ). old ++ take k (drop offset b)) size)) (plain_read b offset n old p.0 p.1)

pub read_then : (b : List ℕ) (start : ℕ) (old : List ℕ) (offset : ℕ) (between : List ℕ) (to : ℕ) (new : List ℕ) → StringRead b start old offset between → StringRead b offset between to new → StringRead b start old to new
read_then b start old offset between to new f g = record { comes = λ role st r c. g.comes role st r (f.comes role st r c) }

-- ---- other characters

pub character_first : (b : List ℕ) (offset x c : ℕ) (text : List ℕ) → offset < length b → x ≡ get_or b offset 0 → x ≢ 34 → LeavesNone Starts inside x c → StringRead b offset text (offset + 1) (text ++ encode_utf8 c)
character_first b offset x c text lt e ne m = record {
  comes = λ role st r h. step b offset x (string_in role text) st (string_in role (text ++ encode_utf8 c)) st lt e h (λ R le. text_whole R st role text x c ne m) m.scans h.sound (λ R. text_live R st role (text ++ encode_utf8 c) h.sound r);
}

pub begun_sound : (x : ℕ) (s : CharacterState) → LeavesNext Starts inside x s → IsSound s
begun_sound x s m = record { bounds = m.bounds; scalar = λ w c l. starts_scalar (x ∷ w) c (m.back w c l) }

pub still_sound : (x : ℕ) (s u : CharacterState) → IsSound s → LeavesNext (LeftOfCharacter s) (scan_within s) x u → IsSound u
still_sound x s u sound m = record { bounds = m.bounds; scalar = λ w c l. sound.scalar (x ∷ w) c (m.back w c l) }

pub character_begins : (b : List ℕ) (offset x : ℕ) (s : CharacterState) (role : Role) (text : List ℕ) (st : List Level) → offset < length b → x ≡ get_or b offset 0 → x ≢ 34 → LeavesNext Starts inside x s → IsRoleSound role → ReadTo b offset (string_in role text) st → ReadTo b (offset + 1) (character_in role text s) st
character_begins b offset x s role text st lt e ne m r h =
    step b offset x (string_in role text) st (character_in role text s) st lt e h (λ R le. text_next R st role text x s ne m) m.scans h.sound (λ R. character_live R st role text s h.sound r (begun_sound x s m))

pub character_goes : (b : List ℕ) (offset x : ℕ) (s u : CharacterState) (role : Role) (text : List ℕ) (st : List Level) → offset < length b → x ≡ get_or b offset 0 → IsSound s → LeavesNext (LeftOfCharacter s) (scan_within s) x u → IsRoleSound role → ReadTo b offset (character_in role text s) st → ReadTo b (offset + 1) (character_in role text u) st
character_goes b offset x s u role text st lt e sound m r h =
    step b offset x (character_in role text s) st (character_in role text u) st lt e h (λ R le. character_next R st role text s u (scan_within s) x sound m) m.scans h.sound (λ R. character_live R st role text u h.sound r (still_sound x s u sound m))

pub character_ends : (b : List ℕ) (offset x c : ℕ) (s : CharacterState) (role : Role) (text : List ℕ) (st : List Level) → offset < length b → x ≡ get_or b offset 0 → IsSound s → LeavesNone (LeftOfCharacter s) (scan_within s) x c → IsRoleSound role → ReadTo b offset (character_in role text s) st → ReadTo b (offset + 1) (string_in role (text ++ encode_utf8 c)) st
character_ends b offset x c s role text st lt e sound m r h =
    step b offset x (character_in role text s) st (string_in role (text ++ encode_utf8 c)) st lt e h (λ R le. character_whole R st role text s (scan_within s) x c sound m) m.scans h.sound (λ R. text_live R st role (text ++ encode_utf8 c) h.sound r)

by_kind : (p : ReaderState) (st : List Level) (c : ℕ) (fault_kind : FaultKind) → ((R : Rules) → IsDead R p st c) → IsKindAt (scan_of p) c fault_kind → FailsAt p st c fault_kind
by_kind p st c kinds.NotJson dead k = record { dead = dead; utf8 = k }
by_kind p st c kinds.BadUtf8 dead k = record { dead = dead; utf8 = k }
by_kind p st c kinds.TooDeep dead k = absurd k
by_kind p st c kinds.Repeated dead k = absurd k

pub no_character : (b : List ℕ) (offset x : ℕ) (fault_kind : FaultKind) (role : Role) (text : List ℕ) (st : List Level) → offset < length b → x ≡ get_or b offset 0 → x ≢ 34 → ((w : List ℕ) (c : ℕ) → Starts (x ∷ w) c → ⊥) → IsKindAt inside x fault_kind → ReadTo b offset (string_in role text) st → IsJsonFault b offset fault_kind
no_character b offset x fault_kind role text st lt e ne dead k h =
    refuse b offset x (string_in role text) st fault_kind lt e h (by_kind (string_in role text) st x fault_kind (λ R. text_dead R st role text x ne dead) k)

pub wrong_character : (b : List ℕ) (offset x : ℕ) (s : CharacterState) (fault_kind : FaultKind) (role : Role) (text : List ℕ) (st : List Level) → offset < length b → x ≡ get_or b offset 0 → IsSound s → ((w : List ℕ) (c : ℕ) → LeftOfCharacter s (x ∷ w) c → ⊥) → IsKindAt (scan_within s) x fault_kind → ReadTo b offset (character_in role text s) st → IsJsonFault b offset fault_kind
wrong_character b offset x s fault_kind role text st lt e sound dead k h =
    refuse b offset x (character_in role text s) st fault_kind lt e h (by_kind (character_in role text s) st x fault_kind (λ R. character_dead R st role text s x sound dead) k)

pub character_open : (role : Role) (text : List ℕ) (s : CharacterState) (st : List Level) → IsSound s → CannotEnd (character_in role text s) st
character_open role text s st sound R v h = inside_nil (LeftOfCharacter s) (λ t n. Closed R st role t n v) text (pending s sound) h

-- ---- numbers

pub number_none : (p : NumberState) → NumberGrows p [] p
number_none p text = subst (λ (t : List ℕ). LeadsOver (number_in text p) [] (number_in t p)) (sym (append-nil text)) (over_none (number_in text p))

number_more : (p q r : NumberState) (w : List ℕ) (c : ℕ) → NumberGrows p w q → LeavesNumber (LeftOfNumber q) c r → NumberGrows p (w ++ c ∷ []) r
number_more p q r w c h m text =
    subst (λ (t : List ℕ). LeadsOver (number_in text p) (w ++ c ∷ []) (number_in t r)) (append_assoc text w (c ∷ []))
    (over_then (number_in text p) (number_in (text ++ w) q) (number_in ((text ++ w) ++ c ∷ []) r) w (c ∷ []) (h text)
    (over_byte (number_in (text ++ w) q) c (number_in ((text ++ w) ++ c ∷ []) r) (λ R st. number_on R st (text ++ w) q r c m) (stays_outside c m.byte.no_mark.3)))

pub number_next : (p q r : NumberState) (b : List ℕ) (i c : ℕ) → i < length b → c ≡ get_or b i 0 → NumberGrows p (take i b) q → LeavesNumber (LeftOfNumber q) c r → NumberGrows p (take (i + 1) b) r
number_next p q r b i c lt e h m = subst (λ (w : List ℕ). NumberGrows p w r) (sym (take_more b i 0 lt)) (subst (λ (k : ℕ). NumberGrows p (take i b ++ k ∷ []) r) e (number_more p q r (take i b) c h m))

number_digits : (p q : NumberState) (w x : List ℕ) → TakesDigits q → AreDigits x → NumberGrows p w q → NumberGrows p (w ++ x) q
number_digits p q w [] t d h = subst (λ (u : List ℕ). NumberGrows p u q) (sym (append-nil w)) h
number_digits p q w (c ∷ x) t d h =
    subst (λ (u : List ℕ). NumberGrows p u q) (append_assoc w (c ∷ []) x) (number_digits p q (w ++ c ∷ []) x t d.1 (number_more p q q w c h (t c d.0)))

-- digits after those that have been read
pub digits_grow : (p q : NumberState) (b : List ℕ) (len n : ℕ) → TakesDigits q → NumberGrows p (take len b) q → AreDigits (take n (take (length b - len) (drop len b))) → NumberGrows p (take (len + n) b) q
digits_grow p q b len n t h d =
    subst (λ (w : List ℕ). NumberGrows p w q) (sym (take-add len n b))
    (number_digits p q (take len b) (take n (drop len b)) t (subst (λ (w : List ℕ). AreDigits (take n w)) (take_rest b len) d) h)

digits_plain : (w : List ℕ) → AreDigits w → ArePlain w
digits_plain [] d = tt
digits_plain (c ∷ w) d =
    (let low : 48 ≤ c = d.0.0 in let high : c ≤ 57 = d.0.1 in ((omega arith, omega arith, omega arith, omega arith), digits_plain w d.1))

pub digits_stay_plain : (b : List ℕ) (len n : ℕ) → ArePlain (take len b) → AreDigits (take n (take (length b - len) (drop len b))) → ArePlain (take (len + n) b)
digits_stay_plain b len n h d =
    subst (λ (w : List ℕ). ArePlain w) (sym (take-add len n b))
    (plain_append (take len b) (take n (drop len b)) h (digits_plain (take n (drop len b)) (subst (λ (w : List ℕ). AreDigits (take n w)) (take_rest b len) d)))

-- a byte of a number is a character of a string by itself too
pub number_byte_plain : (L : List ℕ → Type 0) (c : ℕ) (q : NumberState) → LeavesNumber L c q → IsPlain c
number_byte_plain L c q m = (m.byte.printed, m.byte.ascii, m.byte.no_mark.3, m.byte.no_backslash)

-- the number's bytes, of which the first is at the offset
pub number_text : (b : List ℕ) (offset len : ℕ) → offset < length b → take (len + 1) (drop offset b) ≡ get_or b offset 0 ∷ take len (drop (offset + 1) b)
number_text [] offset len lt = absurd (omega arith)
number_text (c ∷ b) zero len lt = let one : len + 1 ≡ suc len = omega arith in ap (λ (n : ℕ). take n (c ∷ b)) one
number_text (c ∷ b) (suc offset) len lt =
    let more : offset + 1 ≡ suc offset = omega arith in
    let on : suc offset + 1 ≡ suc (suc offset) = omega arith in
    number_text b offset len (omega arith) ∙ ap (λ (n : ℕ). get_or b offset 0 ∷ take len (drop n b)) more ∙ ap (λ (n : ℕ). get_or b offset 0 ∷ take len (drop n (c ∷ b))) (sym on)

pub number_read : (b : List ℕ) (offset c len : ℕ) (begun last : NumberState) (st : List Level) → offset < length b → c ≡ get_or b offset 0 → LeavesNumber IsNumberText c begun → offset + 1 + len ≤ length b → NumberGrows begun (take len (drop (offset + 1) b)) last → ReadTo b offset value st
    → ReadTo b (offset + 1 + len) (number_in (c ∷ take len (drop (offset + 1) b)) last) st
number_read b offset c len begun last st lt e m le g h =
    let first : ReadTo b (offset + 1) (number_in (c ∷ []) begun) st =
    step b offset c value st (number_in (c ∷ []) begun) st lt e h (λ R lim. begins_number R st c begun m) (stays_outside c m.byte.no_mark.3) h.sound (λ R. number_live R (c ∷ []) begun st h.sound) in
    over b (offset + 1) len (number_in (c ∷ []) begun) (number_in (c ∷ take len (drop (offset + 1) b)) last) st le first (g (c ∷ [])) (λ R. number_live R (c ∷ take len (drop (offset + 1) b)) last st h.sound)

pub number_whole : (b : List ℕ) (offset : ℕ) (text : List ℕ) (p : NumberState) (st : List Level) → LeftOfNumber p [] → (offset < length b → EndsNumber (LeftOfNumber p) (get_or b offset 0)) → offset < length b ⊎ length b ≤ offset → ReadTo b offset (number_in text p) st → ReadTo b offset (after (number text)) st
number_whole b offset text p st whole ends (inl lt) h =
    same_there b offset (get_or b offset 0) (number_in text p) st (after (number text)) st lt refl h h.sound (λ R t v g. number_ends R st text p (get_or b offset 0) (ends lt) t v g) (λ R t v g. number_ended R st text p whole (get_or b offset 0 ∷ t) v g) refl
number_whole b offset text p st whole ends (inr le) h =
    same_at_end b offset (number_in text p) st (after (number text)) le h (λ R v g. (numeral_nil (LeftOfNumber p) (λ s n. Rest R (after (number s)) st n v) text g).1) (λ R v g. number_ended R st text p whole [] v g) refl

pub number_half : (b : List ℕ) (offset : ℕ) (text : List ℕ) (p : NumberState) (st : List Level) → (LeftOfNumber p [] → ⊥) → (offset < length b → EndsNumber (LeftOfNumber p) (get_or b offset 0)) → offset < length b ⊎ length b ≤ offset → ReadTo b offset (number_in text p) st → IsJsonFault b offset kinds.NotJson
number_half b offset text p st half ends (inl lt) h =
    refuse b offset (get_or b offset 0) (number_in text p) st kinds.NotJson lt refl h (outside_wrong (number_in text p) st (get_or b offset 0) refl (λ R. number_dead R st text p (get_or b offset 0) (ends lt) half))
number_half b offset text p st half ends (inr le) h =
    refuse_end b offset (number_in text p) st le h (λ R v g. half (numeral_nil (LeftOfNumber p) (λ s n. Rest R (after (number s)) st n v) text g).0)

-- the bytes after the first one
after_first : (b : List ℕ) (offset n : ℕ) → offset < length b → n ≤ length (take (length b - (offset + 1)) (drop (offset + 1) b)) → offset + 1 + n ≤ length b
after_first b offset n lt few = omega (arith, ap length (take_rest b (offset + 1)), length-drop (offset + 1) b)

number_led : (b : List ℕ) (offset n : ℕ) (begun last : NumberState) → NumberGrows begun (take n (take (length b - (offset + 1)) (drop (offset + 1) b))) last → NumberGrows begun (take n (drop (offset + 1) b)) last
number_led b offset n begun last h = subst (λ (w : List ℕ). NumberGrows begun (take n w) last) (take_rest b (offset + 1)) h

-- what comes after the number
number_next_byte : (b : List ℕ) (offset n : ℕ) (last : NumberState) → offset < length b → n ≤ length (take (length b - (offset + 1)) (drop (offset + 1) b))
    → (n < length (take (length b - (offset + 1)) (drop (offset + 1) b)) → EndsNumber (LeftOfNumber last) (get_or (take (length b - (offset + 1)) (drop (offset + 1) b)) n 0)) → offset + 1 + n < length b → EndsNumber (LeftOfNumber last) (get_or b (offset + 1 + n) 0)
number_next_byte b offset n last lt few ends less =
    let rest = take_rest b (offset + 1) in
    subst (λ (c : ℕ). EndsNumber (LeftOfNumber last) c) (ap (λ (w : List ℕ). get_or w n 0) rest ∙ get_or-drop (offset + 1) b n 0) (ends (omega (arith, ap length rest, length-drop (offset + 1) b)))

there_or_not : (offset n : ℕ) → offset < n ⊎ n ≤ offset
there_or_not offset n = cases_lt offset n

pub number_refused : (b : List ℕ) (offset n : ℕ) (begun last : NumberState) (st : List Level) → offset < length b → LeavesNumber IsNumberText (get_or b offset 0) begun → n ≤ length (take (length b - (offset + 1)) (drop (offset + 1) b))
    → NumberGrows begun (take n (take (length b - (offset + 1)) (drop (offset + 1) b))) last → (n < length (take (length b - (offset + 1)) (drop (offset + 1) b)) → EndsNumber (LeftOfNumber last) (get_or (take (length b - (offset + 1)) (drop (offset + 1) b)) n 0)) → (LeftOfNumber last [] → ⊥)
    → ReadTo b offset value st → IsJsonFault b (offset + 1 + n) kinds.NotJson
number_refused b offset n begun last st lt m few leads ends half h =
    number_half b (offset + 1 + n) (get_or b offset 0 ∷ take n (drop (offset + 1) b)) last st half (number_next_byte b offset n last lt few ends) (there_or_not (offset + 1 + n) (length b))
    (number_read b offset (get_or b offset 0) n begun last st lt refl m (after_first b offset n lt few) (number_led b offset n begun last leads) h)

pub number_taken : (b : List ℕ) (offset n : ℕ) (begun last : NumberState) (text : List ℕ) (st : List Level) → offset < length b → LeavesNumber IsNumberText (get_or b offset 0) begun → n ≤ length (take (length b - (offset + 1)) (drop (offset + 1) b))
    → NumberGrows begun (take n (take (length b - (offset + 1)) (drop (offset + 1) b))) last → (n < length (take (length b - (offset + 1)) (drop (offset + 1) b)) → EndsNumber (LeftOfNumber last) (get_or (take (length b - (offset + 1)) (drop (offset + 1) b)) n 0)) → LeftOfNumber last []
    → text ≡ take (offset + 1 + n - offset) (drop offset b) → ReadTo b offset value st → ReadTo b (offset + 1 + n) (after (value_of (jsons.Number text))) st
number_taken b offset n begun last text st lt m few leads ends whole e h =
    let size : offset + 1 + n - offset ≡ n + 1 = omega arith in
    let is : value_of (jsons.Number text) ≡ number (get_or b offset 0 ∷ take n (drop (offset + 1) b)) = value_of-Number text ∙ ap number (e ∙ ap (λ (k : ℕ). take k (drop offset b)) size ∙ number_text b offset n lt) in
    subst (λ (x : Tree). ReadTo b (offset + 1 + n) (after x) st) (sym is)
    (number_whole b (offset + 1 + n) (get_or b offset 0 ∷ take n (drop (offset + 1) b)) last st whole (number_next_byte b offset n last lt few ends) (there_or_not (offset + 1 + n) (length b))
    (number_read b offset (get_or b offset 0) n begun last st lt refl m (after_first b offset n lt few) (number_led b offset n begun last leads) h))

pub number_plain : (b : List ℕ) (offset n : ℕ) (begun : NumberState) → offset < length b → LeavesNumber IsNumberText (get_or b offset 0) begun → ArePlain (take n (take (length b - (offset + 1)) (drop (offset + 1) b))) → ArePlain (take (offset + 1 + n - offset) (drop offset b))
number_plain b offset n begun lt m h =
    let size : offset + 1 + n - offset ≡ n + 1 = omega arith in
    subst (λ (w : List ℕ). ArePlain w) (sym (ap (λ (k : ℕ). take k (drop offset b)) size ∙ number_text b offset n lt)) (number_byte_plain IsNumberText (get_or b offset 0) begun m, subst (λ (w : List ℕ). ArePlain (take n w)) (take_rest b (offset + 1)) h)

-- ---- literal names

no_mark : (w : Literal) (i : ℕ) → get_or (literal_text w) i 0 ≢ 34
no_mark literals.Null zero e = omega arith
no_mark literals.Null (suc zero) e = omega arith
no_mark literals.Null (suc (suc zero)) e = omega arith
no_mark literals.Null (suc (suc (suc zero))) e = omega arith
no_mark literals.Null (suc (suc (suc (suc i)))) e = omega arith
no_mark literals.True zero e = omega arith
no_mark literals.True (suc zero) e = omega arith
no_mark literals.True (suc (suc zero)) e = omega arith
no_mark literals.True (suc (suc (suc zero))) e = omega arith
no_mark literals.True (suc (suc (suc (suc i)))) e = omega arith
no_mark literals.False zero e = omega arith
no_mark literals.False (suc zero) e = omega arith
no_mark literals.False (suc (suc zero)) e = omega arith
no_mark literals.False (suc (suc (suc zero))) e = omega arith
no_mark literals.False (suc (suc (suc (suc zero)))) e = omega arith
no_mark literals.False (suc (suc (suc (suc (suc i))))) e = omega arith

pub null_first : (b : List ℕ) (offset c : ℕ) (st : List Level) → offset < length b → c ≡ get_or b offset 0 → c ≡ 110 → ReadTo b offset value st → ReadTo b (offset + 1) (literal (drop 1 (literal_text literals.Null)) (literal_tree literals.Null)) st
null_first b offset c st lt e is h = step b offset 110 value st (literal (117 ∷ 108 ∷ 108 ∷ []) null) st lt (sym is ∙ e) h (λ R le. begins_null R st) refl h.sound (λ R. literal_live R (117 ∷ 108 ∷ 108 ∷ []) null st h.sound)

pub true_first : (b : List ℕ) (offset c : ℕ) (st : List Level) → offset < length b → c ≡ get_or b offset 0 → c ≡ 116 → ReadTo b offset value st → ReadTo b (offset + 1) (literal (drop 1 (literal_text literals.True)) (literal_tree literals.True)) st
true_first b offset c st lt e is h = step b offset 116 value st (literal (114 ∷ 117 ∷ 101 ∷ []) (boolean true)) st lt (sym is ∙ e) h (λ R le. begins_true R st) refl h.sound (λ R. literal_live R (114 ∷ 117 ∷ 101 ∷ []) (boolean true) st h.sound)

pub false_first : (b : List ℕ) (offset c : ℕ) (st : List Level) → offset < length b → c ≡ get_or b offset 0 → c ≡ 102 → ReadTo b offset value st → ReadTo b (offset + 1) (literal (drop 1 (literal_text literals.False)) (literal_tree literals.False)) st
false_first b offset c st lt e is h = step b offset 102 value st (literal (97 ∷ 108 ∷ 115 ∷ 101 ∷ []) (boolean false)) st lt (sym is ∙ e) h (λ R le. begins_false R st) refl h.sound (λ R. literal_live R (97 ∷ 108 ∷ 115 ∷ 101 ∷ []) (boolean false) st h.sound)

letter_on : (R : Rules) (st : List Level) (c : ℕ) (l : List ℕ) (x : Tree) → LeadsTo R (literal (c ∷ l) x) st c (literal l x) st
letter_on R st c l x = record { on = λ b v h. (h.0, tail_is _ _ _ _ h.1, h.2); back = λ b v h. (h.0, ap (λ (t : List ℕ). c ∷ t) h.1, h.2) }

pub letter_read : (b : List ℕ) (offset c i : ℕ) (w : Literal) (st : List Level) → offset < length b → c ≡ get_or b offset 0 → i < length (literal_text w) → c ≡ get_or (literal_text w) i 0 → ReadTo b offset (literal (drop i (literal_text w)) (literal_tree w)) st
    → ReadTo b (offset + 1) (literal (drop (i + 1) (literal_text w)) (literal_tree w)) st
letter_read b offset c i w st lt e less is h =
    let now : ReadTo b offset (literal (c ∷ drop (i + 1) (literal_text w)) (literal_tree w)) st =
    subst (λ (l : List ℕ). ReadTo b offset (literal l (literal_tree w)) st) (drop_more (literal_text w) i 0 less ∙ ap (λ (k : ℕ). k ∷ drop (i + 1) (literal_text w)) (sym is)) h in
    step b offset c (literal (c ∷ drop (i + 1) (literal_text w)) (literal_tree w)) st _ st lt e now (λ R le. letter_on R st c _ _) (stays_outside c (λ g. no_mark w i (sym is ∙ g))) h.sound (λ R. literal_live R _ _ st h.sound)

pub wrong_letter : (b : List ℕ) (offset c i : ℕ) (w : Literal) (st : List Level) → offset < length b → c ≡ get_or b offset 0 → i < length (literal_text w) → c ≢ get_or (literal_text w) i 0 → ReadTo b offset (literal (drop i (literal_text w)) (literal_tree w)) st → IsJsonFault b offset kinds.NotJson
wrong_letter b offset c i w st lt e less ne h =
    refuse b offset c (literal (drop i (literal_text w)) (literal_tree w)) st kinds.NotJson lt e h
    (outside_wrong (literal (drop i (literal_text w)) (literal_tree w)) st c refl (λ R t v g. ne (head_is _ _ _ _ (g.1 ∙ ap (λ (l : List ℕ). l ++ g.0) (drop_more (literal_text w) i 0 less)))))

pub literal_open : (i : ℕ) (w : Literal) (st : List Level) → i < length (literal_text w) → CannotEnd (literal (drop i (literal_text w)) (literal_tree w)) st
literal_open i w st less R v g = not_nil _ _ (g.1 ∙ ap (λ (l : List ℕ). l ++ g.0) (drop_more (literal_text w) i 0 less))

pub literal_read : (b : List ℕ) (offset i : ℕ) (w : Literal) (st : List Level) → length (literal_text w) ≤ i → ReadTo b offset (literal (drop i (literal_text w)) (literal_tree w)) st → ReadTo b offset (after (literal_tree w)) st
literal_read b offset i w st le h =
    let now : ReadTo b offset (literal [] (literal_tree w)) st = subst (λ (l : List ℕ). ReadTo b offset (literal l (literal_tree w)) st) (drop_all i (literal_text w) le) h in
    same b offset (literal [] (literal_tree w)) st (after (literal_tree w)) now (λ R t v g. subst (λ (n : List ℕ). Rest R (after (literal_tree w)) st n v) (sym g.1) g.2) (λ R t v g. (t, refl, g)) refl
