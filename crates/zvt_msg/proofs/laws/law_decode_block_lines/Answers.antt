-- Proof of the contract of `law_decode_block_lines`.
use Rattle.std.proofs.Common.{sym, subst, ◌∙◌}
use Rattle.zvt_msg.specs.BlockGrammar.{AreBlockLines}
use Rattle.zvt_msg.proofs.BlockLineLemmas.{are_lines, only_lines}
use Rattle.zvt_msg.proofs.PrintedLinesLemmas.{block_lines_count, block_lines_size}
use Rattle.zvt_msg.proofs.laws.law_decode_block_lines.Goals as goal

pub returns-clause-only : goal.returns-clause-only
returns-clause-only c block a b first second = only_lines block a first ∙ sym (only_lines block b second)

pub returns-clause-lines : goal.returns-clause-lines
returns-clause-lines c block lines whole =
    ((λ is. subst (AreBlockLines block) is (are_lines block whole)), λ are. sym (only_lines block lines are))

pub returns-clause-count : goal.returns-clause-count
returns-clause-count c = block_lines_count

pub returns-clause-size : goal.returns-clause-size
returns-clause-size c = block_lines_size
