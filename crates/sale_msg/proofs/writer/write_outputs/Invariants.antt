-- What the loop of `write_outputs` keeps.
use Rattle.std.proofs.Common.{◌≡◌, ◌++◌, drop, nat_eq}
use Rattle.gw_bytes.specs.Bytes.{IsPrefix}
use Rattle.json_text.specs.Canonical.{canonical_first, canonical_elements}
use Rattle.sale_msg.specs.Canonical.{output_elements}
use Rattle.sale_msg.proofs.writer.write_outputs.Given as goal

-- the outputs written and those that follow are all of them, and the buffer has grown
abbrev pub invariant-loop-i : goal.invariant-loop-i
invariant-loop-i l = record {
  spelled : l.out.items ++ canonical_elements (nat_eq l.i 0) (output_elements (drop l.i l.outputs)) ≡ l.fn.out.items ++ canonical_first (output_elements l.outputs);
  grows : IsPrefix l.fn.out.items l.out.items;
}
