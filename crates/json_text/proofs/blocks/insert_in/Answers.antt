-- Proof of the contract of `insert_in`.
use Rattle.std.proofs.Common.{◌<◌, length, arith}
use Rattle.json_text.proofs.BlockLemmas.{edited}
use Rattle.json_text.proofs.blocks.insert_in.Goals as goal

pub returns-clause-numbers : goal.returns-clause-numbers
returns-clause-numbers c =
    let inside : c.args.gap.block < length c.args.blocks.now.items = omega (arith, c.args.blocks.now.ok.0, c.requires.block) in
    edited c.args.blocks.now.items c.args.gap.block c.args.gap.before c.args.number c.index_mut.result.now c.insert.new.self _ inside c.index_mut.ensures.value c.requires.before c.insert.ensures
