-- Arrays and objects, from one offset to another.
use Rattle.std.proofs.Common.{◌≡◌, ◌≢◌, ℕ, suc, ◌+◌, ◌<◌, List, [], ◌∷◌, ◌++◌, length, get_or, map, true, false, refl, sym, ap, subst, ◌∙◌, arith}
use Rattle.std.proofs.lemmas.List.{map-append}
use Rattle.json_text.specs.Tree.{Tree, array, object, no_elements, no_members, names}
use Rattle.json_text.specs.ValueOf.{value_of, elements_onto, members_onto}
use Rattle.json_text.specs.MemberNames.{pair_names, has_name, are_distinct}
use Rattle.json_text.specs.Grammar.{Rules, AreDistinct, is_space}
use Rattle.json_text.specs.Fault.{IsJsonFault}
use Rattle.json_text.specs.inner.ReaderStates.{Level, in_list, in_object, as_name, value, first_element, first_name, name, colon, after, string_in, LeadsTo, CannotEnd, pairs}
use Rattle.json_text.specs.inner.ByteFaults.{IsNoMark}
use Rattle.json_text.specs.inner.ReaderProgress.{ReadTo}
use Rattle.json_text.specs.inner.NumberLeft.{EndsNumber}
use Rattle.json_text.specs.Number.{IsNumberText}
use Rattle.json_text.specs.declared.fault.FaultKind.TheVariants as kinds
use Rattle.json_text.specs.declared.tree.Json.{Json}
use Rattle.json_text.proofs.ListLemmas.{head_is, tail_is, not_nil}
use Rattle.json_text.proofs.NameLemmas.{are_new, names_append, repeated}
use Rattle.json_text.proofs.GapLemmas.{same_names}
use Rattle.json_text.proofs.ValueLemmas as values
use Rattle.json_text.proofs.ObjectLemmas as objects
use Rattle.json_text.proofs.StateLemmas.{end_dead, list_dead, object_dead}
use Rattle.json_text.proofs.LiveLemmas.{value_live, first_element_live, first_name_live, name_live, colon_live, lax_colon_live, after_live, text_live}
use Rattle.json_text.proofs.ProgressLemmas.{step, same_there, refuse, outside_wrong}

-- ---- values

pub value_open : (st : List Level) → CannotEnd value st
value_open st R v h = values.value_nil R (length st) h.tree h.rest h.valued

pub no_value : (b : List ℕ) (offset c : ℕ) (st : List Level) → offset < length b → c ≡ get_or b offset 0 → is_space c ≡ false → IsNoMark c → EndsNumber IsNumberText c → c ≢ 110 → c ≢ 116 → c ≢ 102 → ReadTo b offset value st → IsJsonFault b offset kinds.NotJson
no_value b offset c st lt e solid mark stop n t f h =
    refuse b offset c value st kinds.NotJson lt e h (outside_wrong value st c refl (λ R. values.value_dead R st c solid (n, t, f, mark.bracket, mark.brace, mark.quote) stop))

-- a value after which nothing but the end may come
pub no_end : (b : List ℕ) (offset c : ℕ) (x : Tree) → offset < length b → c ≡ get_or b offset 0 → is_space c ≡ false → ReadTo b offset (after x) [] → IsJsonFault b offset kinds.NotJson
no_end b offset c x lt e solid h = refuse b offset c (after x) [] kinds.NotJson lt e h (outside_wrong (after x) [] c refl (λ R. end_dead R x c solid))

-- ---- arrays

pub list_opens : (b : List ℕ) (offset c left : ℕ) (st : List Level) → offset < length b → c ≡ get_or b offset 0 → c ≡ 91 → 0 < left → length st + left ≡ 32 → ReadTo b offset value st → ReadTo b (offset + 1) first_element st
list_opens b offset c left st lt e is some levels h =
    step b offset 91 value st first_element st lt (sym is ∙ e) h (λ R le. values.opens_list R st (omega arith)) refl h.sound (λ R. first_element_live R st h.sound)

pub list_deep : (b : List ℕ) (offset c left : ℕ) (st : List Level) → offset < length b → c ≡ get_or b offset 0 → c ≡ 91 → left ≡ 0 → length st + left ≡ 32 → ReadTo b offset value st → IsJsonFault b offset kinds.TooDeep
list_deep b offset c left st lt e is none levels h =
    refuse b offset 91 value st kinds.TooDeep lt (sym is ∙ e) h (record {
      dead = λ R lim. values.too_deep_list R st (omega arith);
      enough = length st;
      alive = λ R more. (let l = first_element_live R st h.sound in (l.0, l.1, (values.opens_list R st more).back l.0 l.1 l.2));
      scans = refl;
    })

pub first_element_open : (st : List Level) → CannotEnd first_element st
first_element_open st R v h = values.first_element_nil R (suc (length st)) h.0 h.1 h.2

pub list_empty : (b : List ℕ) (offset c : ℕ) (st : List Level) → offset < length b → c ≡ get_or b offset 0 → c ≡ 93 → ReadTo b offset first_element st → ReadTo b (offset + 1) (after (array no_elements)) st
list_empty b offset c st lt e is h = step b offset 93 first_element st (after (array no_elements)) st lt (sym is ∙ e) h (λ R le. values.closes_empty R st) refl h.sound (λ R. after_live R st (array no_elements) h.sound)

pub list_begins : (b : List ℕ) (offset c : ℕ) (st : List Level) → offset < length b → c ≡ get_or b offset 0 → is_space c ≡ false → c ≢ 93 → ReadTo b offset first_element st → ReadTo b offset value (in_list [] ∷ st)
list_begins b offset c st lt e solid ne h =
    same_there b offset c first_element st value (in_list [] ∷ st) lt e h h.sound (λ R t v g. values.first_on R st c solid ne t v g) (λ R t v g. values.first_back R st c t v g) refl

pub list_open : (x : Tree) (done : List Tree) (st : List Level) → CannotEnd (after x) (in_list done ∷ st)
list_open x done st R v h = values.more_nil R (suc (length st)) h.0 h.1 h.2

pub list_goes : (b : List ℕ) (offset c : ℕ) (x : Tree) (done : List Tree) (st : List Level) → offset < length b → c ≡ get_or b offset 0 → c ≡ 44 → ReadTo b offset (after x) (in_list done ∷ st) → ReadTo b (offset + 1) value (in_list (done ++ x ∷ []) ∷ st)
list_goes b offset c x done st lt e is h =
    step b offset 44 (after x) (in_list done ∷ st) value (in_list (done ++ x ∷ []) ∷ st) lt (sym is ∙ e) h (λ R le. values.next_element R done x st) refl h.sound (λ R. value_live R (in_list (done ++ x ∷ []) ∷ st) h.sound)

pub list_ends : (b : List ℕ) (offset c : ℕ) (x : Tree) (done : List Tree) (st : List Level) → offset < length b → c ≡ get_or b offset 0 → c ≡ 93 → ReadTo b offset (after x) (in_list done ∷ st) → ReadTo b (offset + 1) (after (array (elements_onto (done ++ x ∷ []) no_elements))) st
list_ends b offset c x done st lt e is h =
    step b offset 93 (after x) (in_list done ∷ st) (after (array (elements_onto (done ++ x ∷ []) no_elements))) st lt (sym is ∙ e) h (λ R le. values.closes_list R done x st) refl h.sound (λ R. after_live R st (array (elements_onto (done ++ x ∷ []) no_elements)) h.sound)

pub list_wrong : (b : List ℕ) (offset c : ℕ) (x : Tree) (done : List Tree) (st : List Level) → offset < length b → c ≡ get_or b offset 0 → is_space c ≡ false → c ≢ 44 → c ≢ 93 → ReadTo b offset (after x) (in_list done ∷ st) → IsJsonFault b offset kinds.NotJson
list_wrong b offset c x done st lt e solid comma close h =
    refuse b offset c (after x) (in_list done ∷ st) kinds.NotJson lt e h (outside_wrong (after x) (in_list done ∷ st) c refl (λ R. list_dead R x done st c solid comma close))

-- the elements with one more
pub elements_more : (new old : List Json) (j : Json) → new ≡ old ++ j ∷ [] → map value_of new ≡ map value_of old ++ value_of j ∷ []
elements_more new old j e = ap (map value_of) e ∙ map-append value_of old (j ∷ [])

-- ---- objects

pub object_opens : (b : List ℕ) (offset c left : ℕ) (st : List Level) → offset < length b → c ≡ get_or b offset 0 → c ≡ 123 → 0 < left → length st + left ≡ 32 → ReadTo b offset value st → ReadTo b (offset + 1) first_name st
object_opens b offset c left st lt e is some levels h =
    step b offset 123 value st first_name st lt (sym is ∙ e) h (λ R le. objects.opens_object R st (omega arith)) refl h.sound (λ R. first_name_live R st h.sound)

pub object_deep : (b : List ℕ) (offset c left : ℕ) (st : List Level) → offset < length b → c ≡ get_or b offset 0 → c ≡ 123 → left ≡ 0 → length st + left ≡ 32 → ReadTo b offset value st → IsJsonFault b offset kinds.TooDeep
object_deep b offset c left st lt e is none levels h =
    refuse b offset 123 value st kinds.TooDeep lt (sym is ∙ e) h (record {
      dead = λ R lim. objects.too_deep_object R st (omega arith);
      enough = length st;
      alive = λ R more. (let l = first_name_live R st h.sound in (l.0, l.1, (objects.opens_object R st more).back l.0 l.1 l.2));
      scans = refl;
    })

pub first_name_open : (st : List Level) → CannotEnd first_name st
first_name_open st R v h = objects.first_name_nil R (suc (length st)) h.0 h.1 h.2

pub object_empty : (b : List ℕ) (offset c : ℕ) (st : List Level) → offset < length b → c ≡ get_or b offset 0 → c ≡ 125 → ReadTo b offset first_name st → ReadTo b (offset + 1) (after (object no_members)) st
object_empty b offset c st lt e is h = step b offset 125 first_name st (after (object no_members)) st lt (sym is ∙ e) h (λ R le. objects.closes_empty R st) refl h.sound (λ R. after_live R st (object no_members) h.sound)

pub first_name_opens : (b : List ℕ) (offset c : ℕ) (st : List Level) → offset < length b → c ≡ get_or b offset 0 → c ≡ 34 → ReadTo b offset first_name st → ReadTo b (offset + 1) (string_in (as_name []) []) st
first_name_opens b offset c st lt e is h = step b offset 34 first_name st (string_in (as_name []) []) st lt (sym is ∙ e) h (λ R le. objects.first_quote R st) refl h.sound (λ R. text_live R st (as_name []) [] h.sound tt)

pub no_first_name : (b : List ℕ) (offset c : ℕ) (st : List Level) → offset < length b → c ≡ get_or b offset 0 → is_space c ≡ false → c ≢ 34 → c ≢ 125 → ReadTo b offset first_name st → IsJsonFault b offset kinds.NotJson
no_first_name b offset c st lt e solid quote brace h = refuse b offset c first_name st kinds.NotJson lt e h (outside_wrong first_name st c refl (λ R. objects.first_name_dead R st c solid quote brace))

-- ---- names

name_quote : (R : Rules) (done : List (List ℕ × Tree)) (st : List Level) → LeadsTo R (name done) st 34 (string_in (as_name done) []) st
name_quote R done st = record {
  on = λ b v h. objects.at_inside R st done v h.0 b (sym (tail_is _ _ _ _ h.1)) h.2;
  back = λ b v h. (b, refl, h);
}

pub name_open : (done : List (List ℕ × Tree)) (st : List Level) → CannotEnd (name done) st
name_open done st R v h = not_nil 34 _ h.1

pub name_opens : (b : List ℕ) (offset c : ℕ) (done : List (List ℕ × Tree)) (st : List Level) → offset < length b → c ≡ get_or b offset 0 → c ≡ 34 → AreDistinct (pair_names done) → ReadTo b offset (name done) st → ReadTo b (offset + 1) (string_in (as_name done) []) st
name_opens b offset c done st lt e is d h = step b offset 34 (name done) st (string_in (as_name done) []) st lt (sym is ∙ e) h (λ R le. name_quote R done st) refl h.sound (λ R. text_live R st (as_name done) [] h.sound d)

pub no_name : (b : List ℕ) (offset c : ℕ) (done : List (List ℕ × Tree)) (st : List Level) → offset < length b → c ≡ get_or b offset 0 → is_space c ≡ false → c ≢ 34 → ReadTo b offset (name done) st → IsJsonFault b offset kinds.NotJson
no_name b offset c done st lt e solid quote h = refuse b offset c (name done) st kinds.NotJson lt e h (outside_wrong (name done) st c refl (λ R t v g. quote (head_is _ _ _ _ (rw solid at g.1))))

pub name_closes : (b : List ℕ) (offset c : ℕ) (done : List (List ℕ × Tree)) (text : List ℕ) (st : List Level) → offset < length b → c ≡ get_or b offset 0 → c ≡ 34 → AreDistinct (pair_names done ++ text ∷ []) → ReadTo b offset (string_in (as_name done) text) st → ReadTo b (offset + 1) (colon done text) st
name_closes b offset c done text st lt e is d h =
    step b offset 34 (string_in (as_name done) text) st (colon done text) st lt (sym is ∙ e) h (λ R le. objects.name_closes R done text st) refl h.sound (λ R. colon_live R st done text h.sound d)

pub pairs_distinct : (ms : List (List ℕ × Json)) → are_distinct (pair_names ms) ≡ true → AreDistinct (pair_names (pairs ms))
pairs_distinct ms d = subst (λ (l : List (List ℕ)). AreDistinct l) (sym (same_names ms)) (are_new (pair_names ms) d)

pub name_repeats : (b : List ℕ) (offset c : ℕ) (ms : List (List ℕ × Json)) (text : List ℕ) (st : List Level) → offset < length b → c ≡ get_or b offset 0 → c ≡ 34 → has_name text (pair_names ms) ≡ true → ReadTo b offset (string_in (as_name (pairs ms)) text) st → IsJsonFault b offset kinds.Repeated
name_repeats b offset c ms text st lt e is has h =
    refuse b offset 34 (string_in (as_name (pairs ms)) text) st kinds.Repeated lt (sym is ∙ e) h (record {
      dead = λ R strict t v g.
          (let a = ((objects.name_closes R (pairs ms) text st).on t v g).after in
          repeated (pair_names (pairs ms)) text (names a.0) (ap (λ (l : List (List ℕ)). has_name text l) (same_names ms) ∙ has) (a.3 strict));
      alive = λ R lax.
          (let l = lax_colon_live R st (pairs ms) text h.sound lax in
          (l.0, l.1, (objects.name_closes R (pairs ms) text st).back l.0 l.1 l.2));
      scans = refl;
      quote = refl;
    })

-- ---- colons

colon_mark : (R : Rules) (done : List (List ℕ × Tree)) (k : List ℕ) (st : List Level) → LeadsTo R (colon done k) st 58 value (in_object done k ∷ st)
colon_mark R done k st = record {
  on = λ b v h. (let e = tail_is _ _ _ _ h.colon in record { tree = h.tree; rest = h.rest; valued = rw e h.valued; after = h.after });
  back = λ b v h. record { value = b; tree = h.tree; rest = h.rest; colon = refl; valued = h.valued; after = h.after };
}

pub colon_open : (done : List (List ℕ × Tree)) (k : List ℕ) (st : List Level) → CannotEnd (colon done k) st
colon_open done k st R v h = not_nil 58 _ h.colon

pub colon_passes : (b : List ℕ) (offset c : ℕ) (done : List (List ℕ × Tree)) (k : List ℕ) (st : List Level) → offset < length b → c ≡ get_or b offset 0 → c ≡ 58 → AreDistinct (pair_names done ++ k ∷ []) → ReadTo b offset (colon done k) st → ReadTo b (offset + 1) value (in_object done k ∷ st)
colon_passes b offset c done k st lt e is d h =
    step b offset 58 (colon done k) st value (in_object done k ∷ st) lt (sym is ∙ e) h (λ R le. colon_mark R done k st) refl (d, h.sound) (λ R. value_live R (in_object done k ∷ st) (d, h.sound))

pub no_colon : (b : List ℕ) (offset c : ℕ) (done : List (List ℕ × Tree)) (k : List ℕ) (st : List Level) → offset < length b → c ≡ get_or b offset 0 → is_space c ≡ false → c ≢ 58 → ReadTo b offset (colon done k) st → IsJsonFault b offset kinds.NotJson
no_colon b offset c done k st lt e solid mark h = refuse b offset c (colon done k) st kinds.NotJson lt e h (outside_wrong (colon done k) st c refl (λ R t v g. mark (head_is _ _ _ _ (rw solid at g.colon))))

-- ---- after a member

pub object_open : (x : Tree) (done : List (List ℕ × Tree)) (k : List ℕ) (st : List Level) → CannotEnd (after x) (in_object done k ∷ st)
object_open x done k st R v h = objects.more_members_nil R (suc (length st)) h.0 h.1 h.2

pub object_goes : (b : List ℕ) (offset c : ℕ) (x : Tree) (done : List (List ℕ × Tree)) (k : List ℕ) (st : List Level) → offset < length b → c ≡ get_or b offset 0 → c ≡ 44 → ReadTo b offset (after x) (in_object done k ∷ st) → ReadTo b (offset + 1) (name (done ++ (k, x) ∷ [])) st
object_goes b offset c x done k st lt e is h =
    step b offset 44 (after x) (in_object done k ∷ st) (name (done ++ (k, x) ∷ [])) st lt (sym is ∙ e) h (λ R le. objects.next_name R done k x st) refl h.sound.1
    (λ R. name_live R st (done ++ (k, x) ∷ []) h.sound.1 (subst (λ (l : List (List ℕ)). AreDistinct l) (sym (names_append done k x)) h.sound.0))

pub object_ends : (b : List ℕ) (offset c : ℕ) (x : Tree) (done : List (List ℕ × Tree)) (k : List ℕ) (st : List Level) → offset < length b → c ≡ get_or b offset 0 → c ≡ 125 → ReadTo b offset (after x) (in_object done k ∷ st) → ReadTo b (offset + 1) (after (object (members_onto (done ++ (k, x) ∷ []) no_members))) st
object_ends b offset c x done k st lt e is h =
    step b offset 125 (after x) (in_object done k ∷ st) (after (object (members_onto (done ++ (k, x) ∷ []) no_members))) st lt (sym is ∙ e) h (λ R le. objects.closes_object R done k x st h.sound.0) refl h.sound.1
    (λ R. after_live R st (object (members_onto (done ++ (k, x) ∷ []) no_members)) h.sound.1)

pub object_wrong : (b : List ℕ) (offset c : ℕ) (x : Tree) (done : List (List ℕ × Tree)) (k : List ℕ) (st : List Level) → offset < length b → c ≡ get_or b offset 0 → is_space c ≡ false → c ≢ 44 → c ≢ 125 → ReadTo b offset (after x) (in_object done k ∷ st) → IsJsonFault b offset kinds.NotJson
object_wrong b offset c x done k st lt e solid comma brace h =
    refuse b offset c (after x) (in_object done k ∷ st) kinds.NotJson lt e h (outside_wrong (after x) (in_object done k ∷ st) c refl (λ R. object_dead R x done k st c solid comma brace))

-- the members with one more
pub pairs_more : (new old : List (List ℕ × Json)) (k : List ℕ) (j : Json) → new ≡ old ++ (k, j) ∷ [] → pairs new ≡ pairs old ++ (k, value_of j) ∷ []
pairs_more new old k j e = ap pairs e ∙ map-append (λ m. (m.0, value_of m.1)) old ((k, j) ∷ [])
