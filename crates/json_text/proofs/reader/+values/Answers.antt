-- Proofs of the contracts of `values`.
use Rattle.std.proofs.Common.{◌≡◌, ◌+◌, ◌++◌, List, ℕ, [], ◌∷◌, length, map, refl, sym, ap, subst, ◌∙◌, arith, rules}
use Rattle.json_text.specs.Tree.{Tree, array, object, no_elements, no_members}
use Rattle.json_text.specs.ValueOf.{value_of, elements_onto, members_onto, members_value}
use Rattle.json_text.specs.inner.ReaderStates.{Level, in_list, in_object, as_value, as_name, value, first_element, first_name, name, after, string_in, pairs}
use Rattle.json_text.specs.inner.ReaderProgress.{ReadTo}
use Rattle.json_text.specs.declared.tree.Json.{Json}
use Rattle.json_text.specs.declared.fault.FaultKind.TheVariants as kinds
use Rattle.json_text.proofs.TreeLemmas.{value_of-List, value_of-Object, value_of-Str}
use Rattle.json_text.proofs.ProgressLemmas.{refused_at, handed_on, ok_as, err_as}
use Rattle.json_text.proofs.TokenLemmas.{value_between, first_element_between, first_name_between, after_between, value_quote, value_unquote}
use Rattle.json_text.proofs.GapLemmas.{gap_distinct}
use Rattle.json_text.proofs.NestingLemmas.{value_open, list_opens, list_deep, first_element_open, list_empty, list_begins, list_open, list_goes, list_ends, list_wrong, elements_more, object_opens, object_deep, first_name_open, object_empty, first_name_opens, no_first_name, object_open, object_goes, object_ends, object_wrong, pairs_more, pairs_distinct}
use Rattle.json_text.proofs.reader.+values.Goals as goal

-- ---- values

pub read_value-returns-in_err-byte-clause-refused : goal.read_value-returns-in_err-byte-clause-refused
read_value-returns-in_err-byte-clause-refused t c =
    handed_on _ c.from_residual.result _ c.from_residual.ensures.1 (record { refuses = λ st levels h. c.in_err-byte.ensures.refused.refuses value st value_between (value_open st) h })

pub read_value-returns-in_err-text-in-34-clause-refused : goal.read_value-returns-in_err-text-in-34-clause-refused
read_value-returns-in_err-text-in-34-clause-refused t c =
    let tk = c.in_ok-byte.ensures.token in
    let to = c.peek_token.new.offset in
    let b = c.args.bytes.now in
    handed_on _ c.from_residual-in_err-text-in-34.result _ c.from_residual-in_err-text-in-34.ensures.1
    (record { refuses = λ st levels h. c.in_err-text-in-34.ensures.refused.refuses as_value st tt (value_quote b to _ st tk.begins.there tk.begins.byte c.in-34.is (tk.skips.comes value st value_between h)) })

pub read_value-returns-in_ok-text-in-34-clause-read : goal.read_value-returns-in_ok-text-in-34-clause-read
read_value-returns-in_ok-text-in-34-clause-read t c =
    let tk = c.in_ok-byte.ensures.token in
    let to = c.peek_token.new.offset in
    let b = c.args.bytes.now in
    let text = c.in_ok-text-in-34.text in
    let q = c.in_ok-text-in-34.ensures.quote in
    record {
      comes = λ st levels h. subst (λ (x : Tree). ReadTo b (c.read_string.new.offset + 1) (after x) st) (sym (value_of-Str text))
          (value_unquote b c.read_string.new.offset 34 text st q.there q.byte refl
          (c.in_ok-text-in-34.ensures.read.comes as_value st tt (value_quote b to _ st tk.begins.there tk.begins.byte c.in-34.is (tk.skips.comes value st value_between h))));
    }

pub read_value-returns-in-91-clause-read : goal.read_value-returns-in-91-clause-read
read_value-returns-in-91-clause-read t c =
    let tk = c.in_ok-byte.ensures.token in
    ok_as c.read_array.result c.read_array.ensures.read (λ json g. record { comes = λ st levels h. g.comes st levels (tk.skips.comes value st value_between h) })

pub read_value-returns-in-91-clause-refused : goal.read_value-returns-in-91-clause-refused
read_value-returns-in-91-clause-refused t c =
    let tk = c.in_ok-byte.ensures.token in
    err_as c.read_array.result c.read_array.ensures.refused (λ error g. record { refuses = λ st levels h. g.refuses st levels (tk.skips.comes value st value_between h) })

pub read_value-returns-in-123-clause-read : goal.read_value-returns-in-123-clause-read
read_value-returns-in-123-clause-read t c =
    let tk = c.in_ok-byte.ensures.token in
    ok_as c.read_object.result c.read_object.ensures.read (λ json g. record { comes = λ st levels h. g.comes st levels (tk.skips.comes value st value_between h) })

pub read_value-returns-in-123-clause-refused : goal.read_value-returns-in-123-clause-refused
read_value-returns-in-123-clause-refused t c =
    let tk = c.in_ok-byte.ensures.token in
    err_as c.read_object.result c.read_object.ensures.refused (λ error g. record { refuses = λ st levels h. g.refuses st levels (tk.skips.comes value st value_between h) })

pub read_value-returns-in_default-clause-read : goal.read_value-returns-in_default-clause-read
read_value-returns-in_default-clause-read t c =
    let tk = c.in_ok-byte.ensures.token in
    ok_as c.read_scalar.result c.read_scalar.ensures.read (λ json g. record { comes = λ st levels h. g.comes st (tk.skips.comes value st value_between h) })

pub read_value-returns-in_default-clause-refused : goal.read_value-returns-in_default-clause-refused
read_value-returns-in_default-clause-refused t c =
    let tk = c.in_ok-byte.ensures.token in
    err_as c.read_scalar.result c.read_scalar.ensures.refused (λ error g. record { refuses = λ st levels h. g.refuses st (tk.skips.comes value st value_between h) })

-- ---- arrays

pub read_array-returns-then-levels_left-eq0-clause-refused : goal.read_array-returns-then-levels_left-eq0-clause-refused
read_array-returns-then-levels_left-eq0-clause-refused t c =
    record {
      refuses = λ st levels h. refused_at c.args.bytes.now _ c.args.offset.now kinds.TooDeep c.fault.ensures (list_deep c.args.bytes.now c.args.offset.now 91 c.args.levels_left st c.requires.bracket.there c.requires.bracket.byte refl (omega (arith, c.if-levels_left-eq0.true)) levels h);
    }

pub read_array-returns-in_err-read_elements-clause-refused : goal.read_array-returns-in_err-read_elements-clause-refused
read_array-returns-in_err-read_elements-clause-refused t c =
    handed_on _ c.from_residual.result _ c.from_residual.ensures.1
    (record { refuses = λ st levels h. c.in_err-read_elements.ensures.refused.refuses st (omega (arith, levels, c.if-levels_left-eq0.false)) (list_opens c.args.bytes.now c.args.offset.now 91 c.args.levels_left st c.requires.bracket.there c.requires.bracket.byte refl (omega (arith, c.if-levels_left-eq0.false)) levels h) })

pub read_array-returns-clause-read : goal.read_array-returns-clause-read
read_array-returns-clause-read t c =
    record {
      comes = λ st levels h. subst (λ (x : Tree). ReadTo c.args.bytes.now c.read_elements.new.offset (after x) st) (sym (value_of-List c.in_ok-read_elements.field-0))
          (c.in_ok-read_elements.ensures.read.comes st (omega (arith, levels, c.if-levels_left-eq0.false)) (list_opens c.args.bytes.now c.args.offset.now 91 c.args.levels_left st c.requires.bracket.there c.requires.bracket.byte refl (omega (arith, c.if-levels_left-eq0.false)) levels h));
    }

pub read_elements-returns-in_err-peek_token-clause-refused : goal.read_elements-returns-in_err-peek_token-clause-refused
read_elements-returns-in_err-peek_token-clause-refused t c =
    handed_on _ c.from_residual.result _ c.from_residual.ensures.1 (record { refuses = λ st levels h. c.in_err-peek_token.ensures.refused.refuses first_element st first_element_between (first_element_open st) h })

pub read_elements-returns-then-branch-eq93-clause-read : goal.read_elements-returns-then-branch-eq93-clause-read
read_elements-returns-then-branch-eq93-clause-read t c =
    let tk = c.in_ok-peek_token.ensures.token in
    let to = c.peek_token.new.offset in
    record {
      comes = λ st levels h. subst (λ (xs : List Json). ReadTo c.args.bytes.now (to + 1) (after (array (elements_onto (map value_of xs) no_elements))) st) (sym c.new.ensures.items)
          (list_empty c.args.bytes.now to _ st tk.begins.there tk.begins.byte c.if-branch-eq93.true (tk.skips.comes first_element st first_element_between h));
    }

pub read_elements-loop-elements-init : goal.read_elements-loop-elements-init
read_elements-loop-elements-init t c =
    let tk = c.in_ok-peek_token.ensures.token in
    let to = c.peek_token.new.offset in
    record {
      comes = λ st levels h. subst (λ (xs : List Json). ReadTo c.args.bytes.now to value (in_list (map value_of xs) ∷ st)) (sym c.in_ok-elements.ensures.items)
          (list_begins c.args.bytes.now to _ st tk.begins.there tk.begins.byte tk.not_space c.if-branch-eq93.false (tk.skips.comes first_element st first_element_between h));
      forward = tk.forward;
    }

pub read_elements-returns-in_err-peek_token-2-clause-refused : goal.read_elements-returns-in_err-peek_token-2-clause-refused
read_elements-returns-in_err-peek_token-2-clause-refused t c =
    let b = c.args.bytes.now in
    let x = value_of c.in_ok-json.json in
    let old = c.loop-elements.elements.items in
    let done : (st : List Level) → length st + (c.args.levels_left + 1) ≡ 32 → ReadTo b c.args.offset.now first_element st → ReadTo b c.read_value.new.offset (after x) (in_list (map value_of old) ∷ st) = λ st levels h.
    c.in_ok-json.ensures.read.comes (in_list (map value_of old) ∷ st) (omega (arith, levels)) (c.loop-elements.invariant.comes st levels h) in
    handed_on _ c.from_residual-in_err-peek_token-2.result _ c.from_residual-in_err-peek_token-2.ensures.1
    (record { refuses = λ st levels h. c.in_err-peek_token-2.ensures.refused.refuses (after x) (in_list (map value_of old) ∷ st) (after_between x) (list_open x (map value_of old) st) (done st levels h) })

pub read_elements-loop-elements-preserved : goal.read_elements-loop-elements-preserved
read_elements-loop-elements-preserved t c =
    let b = c.args.bytes.now in
    let x = value_of c.in_ok-json.json in
    let old = c.loop-elements.elements.items in
    let done : (st : List Level) → length st + (c.args.levels_left + 1) ≡ 32 → ReadTo b c.args.offset.now first_element st → ReadTo b c.read_value.new.offset (after x) (in_list (map value_of old) ∷ st) = λ st levels h.
    c.in_ok-json.ensures.read.comes (in_list (map value_of old) ∷ st) (omega (arith, levels)) (c.loop-elements.invariant.comes st levels h) in
    let tk = c.in_ok-peek_token-2.ensures.token in
    let to = c.peek_token-in-loop-elements.new.offset in
    let ended : (st : List Level) → length st + (c.args.levels_left + 1) ≡ 32 → ReadTo b c.args.offset.now first_element st → ReadTo b to (after x) (in_list (map value_of old) ∷ st) = λ st levels h. tk.skips.comes (after x) (in_list (map value_of old) ∷ st) (after_between x) (done st levels h) in
    let pushed : c.push.new.self.items ≡ old ++ c.in_ok-json.json ∷ [] = search rules in
    let more = elements_more c.push.new.self.items old c.in_ok-json.json pushed in
    record {
      comes = λ st levels h. subst (λ (xs : List Tree). ReadTo b (to + 1) value (in_list xs ∷ st)) (sym more) (list_goes b to _ x (map value_of old) st tk.begins.there tk.begins.byte c.in-44.is (ended st levels h));
      forward = omega (arith, c.loop-elements.invariant.forward, c.in_ok-json.ensures.forward, tk.forward);
    }

pub read_elements-returns-in-93-clause-read : goal.read_elements-returns-in-93-clause-read
read_elements-returns-in-93-clause-read t c =
    let b = c.args.bytes.now in
    let x = value_of c.in_ok-json.json in
    let old = c.loop-elements.elements.items in
    let done : (st : List Level) → length st + (c.args.levels_left + 1) ≡ 32 → ReadTo b c.args.offset.now first_element st → ReadTo b c.read_value.new.offset (after x) (in_list (map value_of old) ∷ st) = λ st levels h.
    c.in_ok-json.ensures.read.comes (in_list (map value_of old) ∷ st) (omega (arith, levels)) (c.loop-elements.invariant.comes st levels h) in
    let tk = c.in_ok-peek_token-2.ensures.token in
    let to = c.peek_token-in-loop-elements.new.offset in
    let ended : (st : List Level) → length st + (c.args.levels_left + 1) ≡ 32 → ReadTo b c.args.offset.now first_element st → ReadTo b to (after x) (in_list (map value_of old) ∷ st) = λ st levels h. tk.skips.comes (after x) (in_list (map value_of old) ∷ st) (after_between x) (done st levels h) in
    let pushed : c.push.new.self.items ≡ old ++ c.in_ok-json.json ∷ [] = search rules in
    let more = elements_more c.push.new.self.items old c.in_ok-json.json pushed in
    record {
      comes = λ st levels h. subst (λ (xs : List Tree). ReadTo b (to + 1) (after (array (elements_onto xs no_elements))) st) (sym more) (list_ends b to _ x (map value_of old) st tk.begins.there tk.begins.byte c.in-93.is (ended st levels h));
    }

pub read_elements-returns-in_default-clause-refused : goal.read_elements-returns-in_default-clause-refused
read_elements-returns-in_default-clause-refused t c =
    let b = c.args.bytes.now in
    let x = value_of c.in_ok-json.json in
    let old = c.loop-elements.elements.items in
    let done : (st : List Level) → length st + (c.args.levels_left + 1) ≡ 32 → ReadTo b c.args.offset.now first_element st → ReadTo b c.read_value.new.offset (after x) (in_list (map value_of old) ∷ st) = λ st levels h.
    c.in_ok-json.ensures.read.comes (in_list (map value_of old) ∷ st) (omega (arith, levels)) (c.loop-elements.invariant.comes st levels h) in
    let tk = c.in_ok-peek_token-2.ensures.token in
    let to = c.peek_token-in-loop-elements.new.offset in
    let ended : (st : List Level) → length st + (c.args.levels_left + 1) ≡ 32 → ReadTo b c.args.offset.now first_element st → ReadTo b to (after x) (in_list (map value_of old) ∷ st) = λ st levels h. tk.skips.comes (after x) (in_list (map value_of old) ∷ st) (after_between x) (done st levels h) in
    record {
      refuses = λ st levels h. refused_at b _ to kinds.NotJson c.not_json.ensures (list_wrong b to _ x (map value_of old) st tk.begins.there tk.begins.byte tk.not_space (omega (arith, c.in_default)) (omega (arith, c.in_default)) (ended st levels h));
    }

-- ---- objects

pub read_object-returns-then-levels_left-eq0-clause-refused : goal.read_object-returns-then-levels_left-eq0-clause-refused
read_object-returns-then-levels_left-eq0-clause-refused t c =
    record {
      refuses = λ st levels h. refused_at c.args.bytes.now _ c.args.offset.now kinds.TooDeep c.fault.ensures (object_deep c.args.bytes.now c.args.offset.now 123 c.args.levels_left st c.requires.brace.there c.requires.brace.byte refl (omega (arith, c.if-levels_left-eq0.true)) levels h);
    }

pub read_object-returns-in_err-read_members-clause-refused : goal.read_object-returns-in_err-read_members-clause-refused
read_object-returns-in_err-read_members-clause-refused t c =
    handed_on _ c.from_residual.result _ c.from_residual.ensures.1
    (record { refuses = λ st levels h. c.in_err-read_members.ensures.refused.refuses st (omega (arith, levels, c.if-levels_left-eq0.false)) (object_opens c.args.bytes.now c.args.offset.now 123 c.args.levels_left st c.requires.brace.there c.requires.brace.byte refl (omega (arith, c.if-levels_left-eq0.false)) levels h) })

pub read_object-returns-clause-read : goal.read_object-returns-clause-read
read_object-returns-clause-read t c =
    record {
      comes = λ st levels h. subst (λ (x : Tree). ReadTo c.args.bytes.now c.read_members.new.offset (after x) st) (sym (value_of-Object c.in_ok-read_members.field-0))
          (c.in_ok-read_members.ensures.read.comes st (omega (arith, levels, c.if-levels_left-eq0.false)) (object_opens c.args.bytes.now c.args.offset.now 123 c.args.levels_left st c.requires.brace.there c.requires.brace.byte refl (omega (arith, c.if-levels_left-eq0.false)) levels h));
    }

pub read_members-returns-in_err-peek_token-clause-refused : goal.read_members-returns-in_err-peek_token-clause-refused
read_members-returns-in_err-peek_token-clause-refused t c =
    handed_on _ c.from_residual.result _ c.from_residual.ensures.1 (record { refuses = λ st levels h. c.in_err-peek_token.ensures.refused.refuses first_name st first_name_between (first_name_open st) h })

pub read_members-returns-in-125-clause-read : goal.read_members-returns-in-125-clause-read
read_members-returns-in-125-clause-read t c =
    let tk = c.in_ok-peek_token.ensures.token in
    let to = c.peek_token.new.offset in
    record {
      comes = λ st levels h. subst (λ (ms : List (List ℕ × Json)). ReadTo c.args.bytes.now (to + 1) (after (object (members_value ms))) st) (sym c.new.ensures.items)
          (object_empty c.args.bytes.now to _ st tk.begins.there tk.begins.byte c.in-125.is (tk.skips.comes first_name st first_name_between h));
    }

pub read_members-returns-in_default-clause-refused : goal.read_members-returns-in_default-clause-refused
read_members-returns-in_default-clause-refused t c =
    let tk = c.in_ok-peek_token.ensures.token in
    let to = c.peek_token.new.offset in
    record {
      refuses = λ st levels h. refused_at c.args.bytes.now _ to kinds.NotJson c.not_json.ensures
          (no_first_name c.args.bytes.now to _ st tk.begins.there tk.begins.byte tk.not_space (omega (arith, c.in_default)) (omega (arith, c.in_default)) (tk.skips.comes first_name st first_name_between h));
    }

pub read_members-loop-opened-init : goal.read_members-loop-opened-init
read_members-loop-opened-init t c =
    let tk = c.in_ok-peek_token.ensures.token in
    let to = c.peek_token.new.offset in
    record {
      comes = λ st levels h. subst (λ (ms : List (List ℕ × Json)). ReadTo c.args.bytes.now (to + 1) (string_in (as_name (pairs ms)) []) st) (sym c.in_ok-opened.ensures)
          (first_name_opens c.args.bytes.now to _ st tk.begins.there tk.begins.byte c.in-34.is (tk.skips.comes first_name st first_name_between h));
      forward = omega (arith, tk.forward);
      fits = omega (arith, tk.begins.there);
    }

pub read_members-returns-in_err-peek_token-2-clause-refused : goal.read_members-returns-in_err-peek_token-2-clause-refused
read_members-returns-in_err-peek_token-2-clause-refused t c =
    let b = c.args.bytes.now in
    let m = c.in_ok-read_member.ensures.read in
    let x = value_of m.json in
    let k = m.member_name in
    let old = c.loop-opened.opened.members.items in
    let done : (st : List Level) → length st + (c.args.levels_left + 1) ≡ 32 → ReadTo b c.args.offset.now first_name st → ReadTo b c.read_member.new.offset (after x) (in_object (pairs old) k ∷ st) = λ st levels h. m.comes st (omega (arith, levels)) (c.loop-opened.invariant.comes st levels h) in
    handed_on _ c.from_residual-in_err-peek_token-2.result _ c.from_residual-in_err-peek_token-2.ensures.1
    (record { refuses = λ st levels h. c.in_err-peek_token-2.ensures.refused.refuses (after x) (in_object (pairs old) k ∷ st) (after_between x) (object_open x (pairs old) k st) (done st levels h) })

pub read_members-loop-opened-preserved : goal.read_members-loop-opened-preserved
read_members-loop-opened-preserved t c =
    let b = c.args.bytes.now in
    let m = c.in_ok-read_member.ensures.read in
    let x = value_of m.json in
    let k = m.member_name in
    let old = c.loop-opened.opened.members.items in
    let done : (st : List Level) → length st + (c.args.levels_left + 1) ≡ 32 → ReadTo b c.args.offset.now first_name st → ReadTo b c.read_member.new.offset (after x) (in_object (pairs old) k ∷ st) = λ st levels h. m.comes st (omega (arith, levels)) (c.loop-opened.invariant.comes st levels h) in
    let tk = c.in_ok-peek_token-2.ensures.token in
    let to = c.peek_token-in-loop-opened.new.offset in
    let ended : (st : List Level) → length st + (c.args.levels_left + 1) ≡ 32 → ReadTo b c.args.offset.now first_name st → ReadTo b to (after x) (in_object (pairs old) k ∷ st) = λ st levels h. tk.skips.comes (after x) (in_object (pairs old) k ∷ st) (after_between x) (done st levels h) in
    let new = c.read_member.new.opened.members.items in
    let more = pairs_more new old k m.json m.more in
    let named : (st : List Level) → length st + (c.args.levels_left + 1) ≡ 32 → ReadTo b c.args.offset.now first_name st → ReadTo b (to + 1) (name (pairs new)) st = λ st levels h.
    subst (λ (ms : List (List ℕ × Tree)). ReadTo b (to + 1) (name ms) st) (sym more) (object_goes b to _ x (pairs old) k st tk.begins.there tk.begins.byte c.in-44.is (ended st levels h)) in
    record {
      comes = λ st levels h. c.in_ok-open_name-in-44.ensures.read.comes (pairs new) st (pairs_distinct new c.read_member.new.opened.distinct) (named st levels h);
      forward = omega (arith, c.loop-opened.invariant.forward, c.in_ok-read_member.ensures.forward, tk.forward, c.in_ok-open_name-in-44.ensures.forward);
      fits = c.in_ok-open_name-in-44.ensures.within;
    }

pub read_members-returns-in_err-open_name-in-44-clause-refused : goal.read_members-returns-in_err-open_name-in-44-clause-refused
read_members-returns-in_err-open_name-in-44-clause-refused t c =
    let b = c.args.bytes.now in
    let m = c.in_ok-read_member.ensures.read in
    let x = value_of m.json in
    let k = m.member_name in
    let old = c.loop-opened.opened.members.items in
    let done : (st : List Level) → length st + (c.args.levels_left + 1) ≡ 32 → ReadTo b c.args.offset.now first_name st → ReadTo b c.read_member.new.offset (after x) (in_object (pairs old) k ∷ st) = λ st levels h. m.comes st (omega (arith, levels)) (c.loop-opened.invariant.comes st levels h) in
    let tk = c.in_ok-peek_token-2.ensures.token in
    let to = c.peek_token-in-loop-opened.new.offset in
    let ended : (st : List Level) → length st + (c.args.levels_left + 1) ≡ 32 → ReadTo b c.args.offset.now first_name st → ReadTo b to (after x) (in_object (pairs old) k ∷ st) = λ st levels h. tk.skips.comes (after x) (in_object (pairs old) k ∷ st) (after_between x) (done st levels h) in
    let new = c.read_member.new.opened.members.items in
    let more = pairs_more new old k m.json m.more in
    let named : (st : List Level) → length st + (c.args.levels_left + 1) ≡ 32 → ReadTo b c.args.offset.now first_name st → ReadTo b (to + 1) (name (pairs new)) st = λ st levels h.
    subst (λ (ms : List (List ℕ × Tree)). ReadTo b (to + 1) (name ms) st) (sym more) (object_goes b to _ x (pairs old) k st tk.begins.there tk.begins.byte c.in-44.is (ended st levels h)) in
    handed_on _ c.from_residual-in_err-open_name-in-44.result _ c.from_residual-in_err-open_name-in-44.ensures.1
    (record { refuses = λ st levels h. c.in_err-open_name-in-44.ensures.refused.refuses (pairs new) st (pairs_distinct new c.read_member.new.opened.distinct) (named st levels h) })

pub read_members-returns-in-125-2-clause-read : goal.read_members-returns-in-125-2-clause-read
read_members-returns-in-125-2-clause-read t c =
    let b = c.args.bytes.now in
    let m = c.in_ok-read_member.ensures.read in
    let x = value_of m.json in
    let k = m.member_name in
    let old = c.loop-opened.opened.members.items in
    let done : (st : List Level) → length st + (c.args.levels_left + 1) ≡ 32 → ReadTo b c.args.offset.now first_name st → ReadTo b c.read_member.new.offset (after x) (in_object (pairs old) k ∷ st) = λ st levels h. m.comes st (omega (arith, levels)) (c.loop-opened.invariant.comes st levels h) in
    let tk = c.in_ok-peek_token-2.ensures.token in
    let to = c.peek_token-in-loop-opened.new.offset in
    let ended : (st : List Level) → length st + (c.args.levels_left + 1) ≡ 32 → ReadTo b c.args.offset.now first_name st → ReadTo b to (after x) (in_object (pairs old) k ∷ st) = λ st levels h. tk.skips.comes (after x) (in_object (pairs old) k ∷ st) (after_between x) (done st levels h) in
    let new = c.read_member.new.opened.members.items in
    let more = pairs_more new old k m.json m.more in
    let all = ap pairs c.into_members.ensures ∙ more in
    record {
      comes = λ st levels h. subst (λ (ms : List (List ℕ × Tree)). ReadTo b (to + 1) (after (object (members_onto ms no_members))) st) (sym all) (object_ends b to _ x (pairs old) k st tk.begins.there tk.begins.byte c.in-125-2.is (ended st levels h));
    }

pub read_members-returns-in_default-2-clause-refused : goal.read_members-returns-in_default-2-clause-refused
read_members-returns-in_default-2-clause-refused t c =
    let b = c.args.bytes.now in
    let m = c.in_ok-read_member.ensures.read in
    let x = value_of m.json in
    let k = m.member_name in
    let old = c.loop-opened.opened.members.items in
    let done : (st : List Level) → length st + (c.args.levels_left + 1) ≡ 32 → ReadTo b c.args.offset.now first_name st → ReadTo b c.read_member.new.offset (after x) (in_object (pairs old) k ∷ st) = λ st levels h. m.comes st (omega (arith, levels)) (c.loop-opened.invariant.comes st levels h) in
    let tk = c.in_ok-peek_token-2.ensures.token in
    let to = c.peek_token-in-loop-opened.new.offset in
    let ended : (st : List Level) → length st + (c.args.levels_left + 1) ≡ 32 → ReadTo b c.args.offset.now first_name st → ReadTo b to (after x) (in_object (pairs old) k ∷ st) = λ st levels h. tk.skips.comes (after x) (in_object (pairs old) k ∷ st) (after_between x) (done st levels h) in
    record {
      refuses = λ st levels h. refused_at b _ to kinds.NotJson c.not_json-in_default-2.ensures (object_wrong b to _ x (pairs old) k st tk.begins.there tk.begins.byte tk.not_space (omega (arith, c.in_default-2)) (omega (arith, c.in_default-2)) (ended st levels h));
    }

-- ---- members

pub read_member-returns-in_err-name-clause-refused : goal.read_member-returns-in_err-name-clause-refused
read_member-returns-in_err-name-clause-refused t c =
    handed_on _ c.from_residual.result _ c.from_residual.ensures.1 (record { refuses = λ st levels h. c.in_err-name.ensures.refused.refuses st h })

pub read_member-returns-in_err-pass_colon-clause-refused : goal.read_member-returns-in_err-pass_colon-clause-refused
read_member-returns-in_err-pass_colon-clause-refused t c =
    let b = c.args.bytes.now in
    let o = c.args.opened.now in
    let done = pairs o.members.items in
    let k = c.in_ok-name.name in
    let differs = gap_distinct o k c.in_ok-name.gap c.in_ok-name.ensures.gap in
    handed_on _ c.from_residual-in_err-pass_colon.result _ c.from_residual-in_err-pass_colon.ensures.1 (record { refuses = λ st levels h. c.in_err-pass_colon.ensures.refused.refuses done k st differs (c.in_ok-name.ensures.read.comes st h) })

pub read_member-returns-in_err-json-clause-refused : goal.read_member-returns-in_err-json-clause-refused
read_member-returns-in_err-json-clause-refused t c =
    let b = c.args.bytes.now in
    let o = c.args.opened.now in
    let done = pairs o.members.items in
    let k = c.in_ok-name.name in
    let differs = gap_distinct o k c.in_ok-name.gap c.in_ok-name.ensures.gap in
    handed_on _ c.from_residual-in_err-json.result _ c.from_residual-in_err-json.ensures.1
    (record { refuses = λ st levels h. c.in_err-json.ensures.refused.refuses (in_object done k ∷ st) (omega (arith, levels)) (c.in_ok-pass_colon.ensures.read.comes done k st differs (c.in_ok-name.ensures.read.comes st h)) })

pub read_member-returns-clause-read : goal.read_member-returns-clause-read
read_member-returns-clause-read t c =
    let b = c.args.bytes.now in
    let o = c.args.opened.now in
    let done = pairs o.members.items in
    let k = c.in_ok-name.name in
    let differs = gap_distinct o k c.in_ok-name.gap c.in_ok-name.ensures.gap in
    record {
      member_name = k;
      json = c.in_ok-json.json;
      more = c.in_ok-push.ensures;
      comes = λ st levels h. c.in_ok-json.ensures.read.comes (in_object done k ∷ st) (omega (arith, levels)) (c.in_ok-pass_colon.ensures.read.comes done k st differs (c.in_ok-name.ensures.read.comes st h));
    }
