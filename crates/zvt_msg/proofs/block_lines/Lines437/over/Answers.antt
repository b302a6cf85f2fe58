-- Proof of the contract of `Lines437::over`.
use Rattle.zvt_msg.proofs.BlockLineLemmas.{lines_over, are_lines_over}
use Rattle.zvt_msg.proofs.block_lines.Lines437.over.Goals as goal

pub returns-clause-lines : goal.returns-clause-lines
returns-clause-lines c = are_lines_over c.args.block.now _ (lines_over c.args.block.now c.over.result c.over-2.result c.over.ensures c.over-2.ensures)

pub returns-clause-computes : goal.returns-clause-computes
returns-clause-computes c = lines_over c.args.block.now c.over.result c.over-2.result c.over.ensures c.over-2.ensures
