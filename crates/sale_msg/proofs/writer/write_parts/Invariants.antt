-- What the loop of `write_parts` keeps.
use Rattle.std.proofs.Common.{◌≡◌, ◌++◌, take}
use Rattle.std.specs.Prelude.{flat_map}
use Rattle.gw_bytes.specs.Bytes.{IsPrefix}
use Rattle.sale_values.specs.PartBytes.{part_text}
use Rattle.sale_msg.proofs.writer.write_parts.Given as goal

-- the parts so far are written, and the buffer has grown
abbrev pub invariant-loop-part : goal.invariant-loop-part
invariant-loop-part l = record {
  spelled : l.out.items ≡ l.fn.out.items ++ flat_map part_text (take l.part-index l.parts);
  grows : IsPrefix l.fn.out.items l.out.items;
}
