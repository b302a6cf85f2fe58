-- Proof of the contract of `divide`.
use Rattle.std.proofs.Common.{◌<◌, length, arith}
use Rattle.json_text.proofs.BlockLemmas.{halved}
use Rattle.json_text.proofs.blocks.divide.Goals as goal

pub returns-in_ok-insert : goal.returns-in_ok-insert
returns-in_ok-insert c =
    let inside : c.args.block < length c.args.blocks.now.items = omega (arith, c.args.blocks.now.ok.0, c.requires) in
    halved c.args.blocks.now.items c.insert.new.self.items c.args.block c.index-then-is_full.result.now c.in_ok-second.second c.index_mut.result.now c.leave_first_half.new.self inside
    c.index-then-is_full.ensures c.in_ok-second.ensures c.in_ok-insert.ensures.items c.index_mut.ensures.value c.leave_first_half.ensures
