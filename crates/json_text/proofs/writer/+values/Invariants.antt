-- What the loops of `values` keep.
use Rattle.std.proofs.Common.{◌≡◌, ◌++◌, map, drop, nat_eq}
use Rattle.gw_bytes.specs.Bytes.{IsPrefix}
use Rattle.json_text.specs.Tree.{array, no_elements, object}
use Rattle.json_text.specs.ValueOf.{value_of, elements_onto, members_value}
use Rattle.json_text.specs.Canonical.{canonical, canonical_elements, canonical_members}
use Rattle.json_text.proofs.writer.+values.Given as goal

-- the elements written and those that follow are all of them, and the buffer has grown
abbrev pub invariant-write_array-loop-i : goal.invariant-write_array-loop-i
invariant-write_array-loop-i l = record {
  spelled : l.out.items ++ canonical_elements (nat_eq l.i 0) (elements_onto (map value_of (drop l.i l.elements)) no_elements) ≡ l.fn.out.items ++ canonical (array (elements_onto (map value_of l.elements) no_elements));
  grows : IsPrefix l.fn.out.items l.out.items;
}

-- the members written and those that follow are all of them, and the buffer has grown
abbrev pub invariant-write_object-loop-i : goal.invariant-write_object-loop-i
invariant-write_object-loop-i l = record {
  spelled : l.out.items ++ canonical_members (nat_eq l.i 0) (members_value (drop l.i l.members)) ≡ l.fn.out.items ++ canonical (object (members_value l.members));
  grows : IsPrefix l.fn.out.items l.out.items;
}
