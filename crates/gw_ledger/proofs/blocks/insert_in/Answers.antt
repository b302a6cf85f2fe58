-- Proof of the contract of `insert_in`.
use Rattle.std.proofs.Common.{◌≡◌, ◌∙◌, ◌<◌, length, arith, rules, sym}
use Rattle.gw_ledger.proofs.BlockLemmas.{blocks_more, blocks_parts, full_more, keyed_more, keys_more, slots_more, slots_parts}
use Rattle.gw_ledger.proofs.blocks.insert_in.Goals as goal

pub split-requires-clause-full : goal.split-requires-clause-full
split-requires-clause-full c =
    let inside : c.args.at < length c.args.blocks.now.items = omega (arith, c.args.blocks.now.ok.0, c.requires.block) in
    let full : length c.insert.new.self.slots ≡ 128 = search rules in
    full_more c.args.blocks.now.items c.args.at c.index_mut.result.now inside c.index_mut.ensures.value c.requires.blocks c.args.tables.now.records c.args.index c.args.slot c.args.key.now
    c.insert.new.self c.requires.inside c.insert.ensures.key c.insert.ensures.slots full

pub split-requires-clause-keyed : goal.split-requires-clause-keyed
split-requires-clause-keyed c =
    let inside : c.args.at < length c.args.blocks.now.items = omega (arith, c.args.blocks.now.ok.0, c.requires.block) in
    keyed_more c.args.blocks.now.items c.args.at c.index_mut.result.now inside c.index_mut.ensures.value c.requires.blocks c.args.tables.now.records c.args.index c.args.slot c.args.key.now
    c.insert.new.self c.requires.inside c.insert.ensures.key c.insert.ensures.slots c.requires.own c.requires.keyed

pub split-requires-clause-keys : goal.split-requires-clause-keys
split-requires-clause-keys c =
    let inside : c.args.at < length c.args.blocks.now.items = omega (arith, c.args.blocks.now.ok.0, c.requires.block) in
    keys_more c.args.blocks.now.items c.args.at c.index_mut.result.now inside c.index_mut.ensures.value c.requires.blocks c.args.tables.now.records c.args.index c.args.slot c.args.key.now
    c.insert.new.self c.requires.inside c.insert.ensures.key c.insert.ensures.slots c.requires.own c.requires.keys

pub returns-then-insert-clause-blocks : goal.returns-then-insert-clause-blocks
returns-then-insert-clause-blocks c =
    let inside : c.args.at < length c.args.blocks.now.items = omega (arith, c.args.blocks.now.ok.0, c.requires.block) in
    let full : length c.insert.new.self.slots ≡ 128 = search rules in
    blocks_parts c.args.blocks.now.items c.args.at c.index_mut.result.now inside c.index_mut.ensures.value c.requires.blocks c.args.tables.now.records c.args.index c.args.slot c.args.key.now
    c.insert.new.self c.requires.inside c.insert.ensures.key c.insert.ensures.slots c.split.new.blocks.items c.split.ensures.halves full

pub returns-then-insert-clause-inserted : goal.returns-then-insert-clause-inserted
returns-then-insert-clause-inserted c =
    let inside : c.args.at < length c.args.blocks.now.items = omega (arith, c.args.blocks.now.ok.0, c.requires.block) in
    slots_parts c.args.blocks.now.items c.args.at c.index_mut.result.now inside c.index_mut.ensures.value c.requires.blocks c.args.tables.now.records c.args.index c.args.slot c.args.key.now
    c.insert.new.self c.requires.inside c.insert.ensures.key c.insert.ensures.slots c.split.new.blocks.items c.split.ensures.halves

pub returns-else-insert-clause-blocks : goal.returns-else-insert-clause-blocks
returns-else-insert-clause-blocks c =
    let inside : c.args.at < length c.args.blocks.now.items = omega (arith, c.args.blocks.now.ok.0, c.requires.block) in
    blocks_more c.args.blocks.now.items c.args.at c.index_mut.result.now inside c.index_mut.ensures.value c.requires.blocks c.args.tables.now.records c.args.index c.args.slot c.args.key.now
    c.insert.new.self c.requires.inside c.insert.ensures.key c.insert.ensures.slots (sym c.insert.ensures.full ∙ c.if-insert.false)

pub returns-else-insert-clause-inserted : goal.returns-else-insert-clause-inserted
returns-else-insert-clause-inserted c =
    let inside : c.args.at < length c.args.blocks.now.items = omega (arith, c.args.blocks.now.ok.0, c.requires.block) in
    slots_more c.args.blocks.now.items c.args.at c.index_mut.result.now inside c.index_mut.ensures.value c.requires.blocks c.args.tables.now.records c.args.index c.args.slot c.args.key.now
    c.insert.new.self c.requires.inside c.insert.ensures.key c.insert.ensures.slots

pub returns-else-insert-clause-keys : goal.returns-else-insert-clause-keys
returns-else-insert-clause-keys c =
    let inside : c.args.at < length c.args.blocks.now.items = omega (arith, c.args.blocks.now.ok.0, c.requires.block) in
    keys_more c.args.blocks.now.items c.args.at c.index_mut.result.now inside c.index_mut.ensures.value c.requires.blocks c.args.tables.now.records c.args.index c.args.slot c.args.key.now
    c.insert.new.self c.requires.inside c.insert.ensures.key c.insert.ensures.slots c.requires.own c.requires.keys
