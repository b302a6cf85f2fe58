-- Proof of the contract of `short_row`.
use Rattle.gw_ledger.proofs.ShortLemmas.{pair_missing, short_row_is}
use Rattle.gw_ledger.proofs.sorted.short_row.Goals as goal

pub unreachable-requires : goal.unreachable-requires
unreachable-requires c = pair_missing c.args.pairs.now c.args.key.now.sale c.args.key.now.poi c.in-Err.field-0 c.in-Err.ensures.absent c.requires.pair

pub returns-clause-row : goal.returns-clause-row
returns-clause-row c = short_row_is c.args.pairs.now c.args.key.now c.args.slot c.in-Ok.pair c.in-Ok.ensures.found
