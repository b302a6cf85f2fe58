-- Proof of the contract of `split`.
use Rattle.std.proofs.Common.{◌<◌, length, arith}
use Rattle.gw_ledger.proofs.BlockLemmas.{keys_split, lists_split}
use Rattle.gw_ledger.proofs.blocks.split.Goals as goal

pub returns-clause-halves : goal.returns-clause-halves
returns-clause-halves c =
    let inside : c.args.at < length c.args.blocks.now.items = omega (arith, c.args.blocks.now.ok.0, c.requires.block) in
    lists_split c.args.blocks.now.items c.args.at c.index_mut.result.now inside c.index_mut.ensures.value c.split-second.new.self c.split-second.result
    c.split-second.ensures.first c.split-second.ensures.second c.insert_block.new.blocks.items c.insert_block.ensures.inserted

pub returns-clause-keys : goal.returns-clause-keys
returns-clause-keys c =
    let inside : c.args.at < length c.args.blocks.now.items = omega (arith, c.args.blocks.now.ok.0, c.requires.block) in
    keys_split c.args.blocks.now.items c.args.at c.index_mut.result.now inside c.index_mut.ensures.value c.split-second.new.self c.split-second.result
    c.split-second.ensures.first c.split-second.ensures.second c.insert_block.new.blocks.items c.insert_block.ensures.inserted
    c.args.tables.now.records c.split-second.ensures.same_key c.split-second.ensures.key c.requires.keys
