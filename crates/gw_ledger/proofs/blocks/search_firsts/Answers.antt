-- Proof of the contract of `search_firsts`.
use Rattle.std.proofs.Common.{rules}
use Rattle.std.proofs.lemmas.Fn.{always_returns_same}
use Rattle.gw_base.specs.Key.{key_cmp}
use Rattle.gw_ledger.proofs.BlockLemmas.{searched_firsts}
use Rattle.gw_ledger.proofs.blocks.search_firsts.Goals as goal

pub returns : goal.returns
returns c =
    let facts = c.binary_search_by.ensures in
    let found = facts.position (λ block. key_cmp block.key c.args.key.now) (always_returns_same _ _ _ (λ a r f called. search rules)) in
    let both = searched_firsts c.args.blocks.now c.args.key.now c.requires c.binary_search_by.result facts.bound found in
    record { found = both.0; absent = both.1 }
