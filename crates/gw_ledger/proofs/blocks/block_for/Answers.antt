-- Proof of the contract of `block_for`.
use Rattle.gw_ledger.specs.Blocks.{first_rows}
use Rattle.gw_ledger.proofs.BlockLemmas.{block_of_row}
use Rattle.gw_ledger.proofs.blocks.block_for.Goals as goal

pub returns-in-Ok : goal.returns-in-Ok
returns-in-Ok c = block_of_row (first_rows c.args.blocks.now) c.args.key.now c.in-Ok.at c.requires.table c.in-Ok.ensures.found
