-- What the loop of `add_block` keeps.
use Rattle.std.proofs.Common.{◌≡◌, ◌++◌}
use Rattle.zvt_msg.specs.BlockDecode.{decode_block_lines}
use Rattle.gw_dispatch.proofs.PrintLemmas.{bytes_of_texts}
use Rattle.gw_dispatch.proofs.printing.add_block.Given as goal

abbrev pub invariant-loop-text : goal.invariant-loop-text
invariant-loop-text l = (bytes_of_texts l.texts.items ++ l.rest ≡ decode_block_lines l.block)
