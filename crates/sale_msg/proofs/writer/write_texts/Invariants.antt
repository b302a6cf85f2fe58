-- What the loop of `write_texts` keeps.
use Rattle.std.proofs.Common.{◌≡◌, ◌++◌, drop, nat_eq}
use Rattle.gw_bytes.specs.Bytes.{IsPrefix}
use Rattle.json_text.specs.Canonical.{canonical_first, canonical_elements}
use Rattle.sale_msg.specs.Canonical.{text_elements}
use Rattle.sale_msg.proofs.writer.write_texts.Given as goal

-- the texts written and those that follow are all of them, and the buffer has grown
abbrev pub invariant-loop-i : goal.invariant-loop-i
invariant-loop-i l = record {
  spelled : l.out.items ++ canonical_elements (nat_eq l.i 0) (text_elements (drop l.i l.texts)) ≡ l.fn.out.items ++ canonical_first (text_elements l.texts);
  grows : IsPrefix l.fn.out.items l.out.items;
}
