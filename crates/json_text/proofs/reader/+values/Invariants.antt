-- What the loops of `values` keep, and why they and the calls end.
use Rattle.std.proofs.Common.{◌≡◌, ◌*◌, ◌+◌, ◌-◌, ◌≤◌, List, [], ◌∷◌, length, map}
use Rattle.json_text.specs.ValueOf.{value_of}
use Rattle.json_text.specs.inner.ReaderStates.{Level, in_list, first_element, first_name, value, string_in, as_name, pairs}
use Rattle.json_text.specs.inner.ReaderProgress.{ReadTo}
use Rattle.json_text.proofs.reader.+values.Given as goal

abbrev pub decreases-read_value : goal.decreases-read_value
decreases-read_value l = 4 * l.levels_left + 2

abbrev pub decreases-read_array : goal.decreases-read_array
decreases-read_array l = 4 * l.levels_left + 1

abbrev pub decreases-read_object : goal.decreases-read_object
decreases-read_object l = 4 * l.levels_left + 1

abbrev pub decreases-read_elements : goal.decreases-read_elements
decreases-read_elements l = 4 * l.levels_left + 3

abbrev pub decreases-read_member : goal.decreases-read_member
decreases-read_member l = 4 * l.levels_left + 3

abbrev pub decreases-read_members : goal.decreases-read_members
decreases-read_members l = 4 * l.levels_left + 4

-- after the elements so far another one comes
abbrev pub invariant-read_elements-loop-elements : goal.invariant-read_elements-loop-elements
invariant-read_elements-loop-elements l = record {
  comes : (st : List Level) → length st + (l.levels_left + 1) ≡ 32 → ReadTo l.bytes l.fn.offset first_element st → ReadTo l.bytes l.offset value (in_list (map value_of l.elements.items) ∷ st);
  forward : l.fn.offset ≤ l.offset;
}

abbrev pub decreases-read_elements-loop-elements : goal.decreases-read_elements-loop-elements
decreases-read_elements-loop-elements l = length l.bytes - l.offset

-- after the members so far the name of another one has been opened
abbrev pub invariant-read_members-loop-opened : goal.invariant-read_members-loop-opened
invariant-read_members-loop-opened l = record {
  comes : (st : List Level) → length st + (l.levels_left + 1) ≡ 32 → ReadTo l.bytes l.fn.offset first_name st → ReadTo l.bytes l.offset (string_in (as_name (pairs l.opened.members.items)) []) st;
  forward : l.fn.offset ≤ l.offset;
  fits : l.offset ≤ length l.bytes;
}

abbrev pub decreases-read_members-loop-opened : goal.decreases-read_members-loop-opened
decreases-read_members-loop-opened l = length l.bytes - l.offset
