-- Proofs of the contracts of `values`: what is appended, and that what was in the buffer stays a prefix of it.
use Rattle.std.proofs.Common.{ℕ, List, ◌++◌, map, sym, ap, ◌∙◌}
use Rattle.json_text.specs.Tree.{boolean, array, object, no_elements}
use Rattle.json_text.specs.ValueOf.{value_of, elements_onto, members_value}
use Rattle.json_text.specs.Canonical.{canonical, canonical_string}
use Rattle.json_text.specs.declared.tree.Json.{Json}
use Rattle.json_text.proofs.TreeLemmas.{value_of-Null, value_of-Bool, value_of-Number, value_of-Str, value_of-List, value_of-Object}
use Rattle.json_text.proofs.GrowthLemmas.{append_grows, grows_on, text_grows}
use Rattle.json_text.proofs.WrittenLemmas.{appended, written_as, last_appended, opened, member_whole, element_written, elements_written, member_written, members_written}
use Rattle.json_text.proofs.writer.+values.Goals as goal

-- ---- values

pub write_value-returns-in-Null-clause-ok : goal.write_value-returns-in-Null-clause-ok
write_value-returns-in-Null-clause-ok t c = appended c.extend_from_slice.result _ _ _ _ (sym (ap canonical (ap value_of c.in-Null.is ∙ value_of-Null))) c.extend_from_slice.ensures.items

pub write_value-returns-in-Null-clause-grows : goal.write_value-returns-in-Null-clause-grows
write_value-returns-in-Null-clause-grows t c = append_grows c.extend_from_slice.result _ _ _ c.extend_from_slice.ensures.items

pub write_value-returns-in-Bool-true-clause-ok : goal.write_value-returns-in-Bool-true-clause-ok
write_value-returns-in-Bool-true-clause-ok t c = appended c.extend_from_slice-in-Bool-true.result _ _ _ _ (sym (ap canonical (ap value_of c.in-Bool-true.is ∙ value_of-Bool c.in-Bool-true.field-0 ∙ ap boolean (sym c.in-Bool-true.field-0-is ∙ c.in-Bool-true.field-0-test)))) c.extend_from_slice-in-Bool-true.ensures.items

pub write_value-returns-in-Bool-true-clause-grows : goal.write_value-returns-in-Bool-true-clause-grows
write_value-returns-in-Bool-true-clause-grows t c = append_grows c.extend_from_slice-in-Bool-true.result _ _ _ c.extend_from_slice-in-Bool-true.ensures.items

pub write_value-returns-in-Bool-false-clause-ok : goal.write_value-returns-in-Bool-false-clause-ok
write_value-returns-in-Bool-false-clause-ok t c = appended c.extend_from_slice-in-Bool-false.result _ _ _ _ (sym (ap canonical (ap value_of c.in-Bool-false.is ∙ value_of-Bool c.in-Bool-false.field-0 ∙ ap boolean (sym c.in-Bool-false.field-0-is ∙ c.in-Bool-false.field-0-test)))) c.extend_from_slice-in-Bool-false.ensures.items

pub write_value-returns-in-Bool-false-clause-grows : goal.write_value-returns-in-Bool-false-clause-grows
write_value-returns-in-Bool-false-clause-grows t c = append_grows c.extend_from_slice-in-Bool-false.result _ _ _ c.extend_from_slice-in-Bool-false.ensures.items

pub write_value-returns-in-Number-clause-ok : goal.write_value-returns-in-Number-clause-ok
write_value-returns-in-Number-clause-ok t c = appended c.extend_from_slice-in-Number.result _ _ _ _ (c.as_bytes.ensures ∙ sym (ap canonical (ap value_of c.in-Number.is ∙ value_of-Number c.in-Number.text))) c.extend_from_slice-in-Number.ensures.items

pub write_value-returns-in-Number-clause-grows : goal.write_value-returns-in-Number-clause-grows
write_value-returns-in-Number-clause-grows t c = append_grows c.extend_from_slice-in-Number.result _ _ _ c.extend_from_slice-in-Number.ensures.items

pub write_value-returns-in-Str-clause-ok : goal.write_value-returns-in-Str-clause-ok
write_value-returns-in-Str-clause-ok t c = written_as c.write_text.result _ _ _ _ (ap canonical_string c.as_bytes-in-Str.ensures ∙ sym (ap canonical (ap value_of c.in-Str.is ∙ value_of-Str c.in-Str.text))) c.write_text.ensures.ok

pub write_value-returns-in-Str-clause-grows : goal.write_value-returns-in-Str-clause-grows
write_value-returns-in-Str-clause-grows t c = text_grows c.write_text.result _ _ _ c.write_text.ensures.ok c.write_text.ensures.err

pub write_value-returns-in-List-clause-ok : goal.write_value-returns-in-List-clause-ok
write_value-returns-in-List-clause-ok t c =
    written_as c.write_array.result _ _ _ _
    (ap (λ (elements : List Json). canonical (array (elements_onto (map value_of elements) no_elements))) c.deref.ensures.value
    ∙ sym (ap canonical (ap value_of c.in-List.is ∙ value_of-List c.in-List.elements)))
    c.write_array.ensures.ok

pub write_value-returns-in-List-clause-grows : goal.write_value-returns-in-List-clause-grows
write_value-returns-in-List-clause-grows t c = c.write_array.ensures.grows

pub write_value-returns-in-Object-clause-ok : goal.write_value-returns-in-Object-clause-ok
write_value-returns-in-Object-clause-ok t c =
    written_as c.write_object.result _ _ _ _
    (ap (λ (members : List (List ℕ × Json)). canonical (object (members_value members))) c.deref-in-Object.ensures.value
    ∙ sym (ap canonical (ap value_of c.in-Object.is ∙ value_of-Object c.in-Object.members)))
    c.write_object.ensures.ok

pub write_value-returns-in-Object-clause-grows : goal.write_value-returns-in-Object-clause-grows
write_value-returns-in-Object-clause-grows t c = c.write_object.ensures.grows

-- ---- arrays

pub write_array-returns-in_err-extend_from_slice-clause-grows : goal.write_array-returns-in_err-extend_from_slice-clause-grows
write_array-returns-in_err-extend_from_slice-clause-grows t c = append_grows c.extend_from_slice.result _ _ _ c.extend_from_slice.ensures.items

pub write_array-loop-i-init : goal.write_array-loop-i-init
write_array-loop-i-init t c =
    record {
      spelled = opened c.args.out.now.items c.extend_from_slice.new.self.items _ 91 c.in_ok-extend_from_slice.ensures.items;
      grows = (_, c.in_ok-extend_from_slice.ensures.items);
    }

pub write_array-returns-in_err-write_comma-clause-grows : goal.write_array-returns-in_err-write_comma-clause-grows
write_array-returns-in_err-write_comma-clause-grows t c = grows_on c.args.out.now.items c.loop-i.out.items _ c.loop-i.invariant.grows c.write_comma.ensures.grows

pub write_array-returns-in_err-write_value-clause-grows : goal.write_array-returns-in_err-write_value-clause-grows
write_array-returns-in_err-write_value-clause-grows t c = grows_on c.args.out.now.items c.write_comma.new.out.items _ (grows_on c.args.out.now.items c.loop-i.out.items _ c.loop-i.invariant.grows c.write_comma.ensures.grows) c.write_value.ensures.grows

pub write_array-loop-i-preserved : goal.write_array-loop-i-preserved
write_array-loop-i-preserved t c =
    record {
      spelled = element_written c.loop-i.out.items c.write_comma.new.out.items c.write_value.new.out.items _ c.args.elements.now c.loop-i.i c.index-elements-i.result c.loop-i-test.true c.index-elements-i.is c.loop-i.invariant.spelled c.in_ok-write_comma.ensures.ok c.in_ok-write_value.ensures.ok;
      grows = grows_on c.args.out.now.items c.write_comma.new.out.items _ (grows_on c.args.out.now.items c.loop-i.out.items _ c.loop-i.invariant.grows c.write_comma.ensures.grows) c.write_value.ensures.grows;
    }

pub write_array-returns-clause-ok : goal.write_array-returns-clause-ok
write_array-returns-clause-ok t c = last_appended c.extend_from_slice-2.result c.loop-i.out.items _ _ _ (elements_written c.loop-i.out.items _ c.args.elements.now c.loop-i.i c.loop-i-test.false c.loop-i.invariant.spelled) c.extend_from_slice-2.ensures.items

pub write_array-returns-clause-grows : goal.write_array-returns-clause-grows
write_array-returns-clause-grows t c = grows_on c.args.out.now.items c.loop-i.out.items _ c.loop-i.invariant.grows (append_grows c.extend_from_slice-2.result c.loop-i.out.items _ _ c.extend_from_slice-2.ensures.items)

-- ---- objects

pub write_object-returns-in_err-extend_from_slice-clause-grows : goal.write_object-returns-in_err-extend_from_slice-clause-grows
write_object-returns-in_err-extend_from_slice-clause-grows t c = append_grows c.extend_from_slice.result _ _ _ c.extend_from_slice.ensures.items

pub write_object-loop-i-init : goal.write_object-loop-i-init
write_object-loop-i-init t c =
    record {
      spelled = opened c.args.out.now.items c.extend_from_slice.new.self.items _ 123 c.in_ok-extend_from_slice.ensures.items;
      grows = (_, c.in_ok-extend_from_slice.ensures.items);
    }

pub write_object-returns-in_err-write_comma-clause-grows : goal.write_object-returns-in_err-write_comma-clause-grows
write_object-returns-in_err-write_comma-clause-grows t c = grows_on c.args.out.now.items c.loop-i.out.items _ c.loop-i.invariant.grows c.write_comma.ensures.grows

pub write_object-returns-in_err-write_member-clause-grows : goal.write_object-returns-in_err-write_member-clause-grows
write_object-returns-in_err-write_member-clause-grows t c = grows_on c.args.out.now.items c.write_comma.new.out.items _ (grows_on c.args.out.now.items c.loop-i.out.items _ c.loop-i.invariant.grows c.write_comma.ensures.grows) c.write_member.ensures.grows

pub write_object-loop-i-preserved : goal.write_object-loop-i-preserved
write_object-loop-i-preserved t c =
    record {
      spelled = member_written c.loop-i.out.items c.write_comma.new.out.items c.write_member.new.out.items _ c.args.members.now c.loop-i.i c.index-members-i.result c.loop-i-test.true c.index-members-i.is c.loop-i.invariant.spelled c.in_ok-write_comma.ensures.ok c.in_ok-write_member.ensures.ok;
      grows = grows_on c.args.out.now.items c.write_comma.new.out.items _ (grows_on c.args.out.now.items c.loop-i.out.items _ c.loop-i.invariant.grows c.write_comma.ensures.grows) c.write_member.ensures.grows;
    }

pub write_object-returns-clause-ok : goal.write_object-returns-clause-ok
write_object-returns-clause-ok t c = last_appended c.extend_from_slice-2.result c.loop-i.out.items _ _ _ (members_written c.loop-i.out.items _ c.args.members.now c.loop-i.i c.loop-i-test.false c.loop-i.invariant.spelled) c.extend_from_slice-2.ensures.items

pub write_object-returns-clause-grows : goal.write_object-returns-clause-grows
write_object-returns-clause-grows t c = grows_on c.args.out.now.items c.loop-i.out.items _ c.loop-i.invariant.grows (append_grows c.extend_from_slice-2.result c.loop-i.out.items _ _ c.extend_from_slice-2.ensures.items)

pub write_member-returns-in_err-write_text-clause-grows : goal.write_member-returns-in_err-write_text-clause-grows
write_member-returns-in_err-write_text-clause-grows t c = text_grows c.write_text.result _ _ _ c.write_text.ensures.ok c.write_text.ensures.err

pub write_member-returns-in_err-extend_from_slice-clause-grows : goal.write_member-returns-in_err-extend_from_slice-clause-grows
write_member-returns-in_err-extend_from_slice-clause-grows t c =
    let named = text_grows c.write_text.result c.args.out.now.items _ c.write_text.new.out.items c.write_text.ensures.ok c.write_text.ensures.err in
    grows_on c.args.out.now.items c.write_text.new.out.items _ named (append_grows c.extend_from_slice.result c.write_text.new.out.items _ _ c.extend_from_slice.ensures.items)

pub write_member-returns-clause-ok : goal.write_member-returns-clause-ok
write_member-returns-clause-ok t c = member_whole c.write_value.result _ _ _ _ _ _ (c.in_ok-write_text.ensures.ok ∙ ap (λ (name : List ℕ). c.args.out.now.items ++ canonical_string name) c.as_bytes.ensures) c.in_ok-extend_from_slice.ensures.items c.write_value.ensures.ok

pub write_member-returns-clause-grows : goal.write_member-returns-clause-grows
write_member-returns-clause-grows t c =
    let named = text_grows c.write_text.result c.args.out.now.items _ c.write_text.new.out.items c.write_text.ensures.ok c.write_text.ensures.err in
    let between = grows_on c.args.out.now.items c.write_text.new.out.items _ named (append_grows c.extend_from_slice.result c.write_text.new.out.items _ _ c.extend_from_slice.ensures.items) in
    grows_on c.args.out.now.items c.extend_from_slice.new.self.items _ between c.write_value.ensures.grows
