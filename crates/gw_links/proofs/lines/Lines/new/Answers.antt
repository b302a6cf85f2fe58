-- Proof of the contract of `new`.
use Rattle.gw_links.proofs.FindLemmas.{IsSound-new, new_is_empty}
use Rattle.gw_links.proofs.lines.Lines.new.Goals as goal

pub invariant_of-result : goal.invariant_of-result
invariant_of-result c = IsSound-new c.new.result c.new.ensures.empty _ _ c.empty_lists.ensures.len c.empty_lists-2.ensures.len c.empty_lists.ensures.none c.empty_lists-2.ensures.none

pub returns : goal.returns
returns c = new_is_empty c.new.result c.new.ensures.empty
