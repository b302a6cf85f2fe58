-- Proof of the contract of `get_in`.
use Rattle.std.proofs.Common.{◌≡◌, ◌∙◌, [], get_or, sym}
use Rattle.gw_ledger.specs.Blocks.{slot_lists}
use Rattle.gw_ledger.proofs.BlockLemmas.{in_gap, in_keyed, in_row, in_table, slots_at}
use Rattle.gw_ledger.proofs.KeyTableLemmas.{key_total}
use Rattle.gw_ledger.proofs.TableLemmas.{value_absent}
use Rattle.gw_ledger.proofs.blocks.get_in.Goals as goal

pub search-requires : goal.search-requires
search-requires c =
    let same : c.as_slice-slots.result.now ≡ get_or (slot_lists c.args.blocks.now) c.args.at [] =
    c.as_slice-slots.ensures.value ∙ slots_at c.args.blocks.now c.args.at c.index-blocks-at.result c.requires.block.inside c.index-blocks-at.is in
    record {
      table = in_table c.args.tables.now.records c.args.blocks.now c.requires.blocks.some c.requires.table c.requires.keyed c.requires.keys c.args.key.now c.args.at c.requires.block c.as_slice-slots.result.now same;
      keyed = in_keyed c.args.tables.now.records c.args.blocks.now c.requires.blocks.some c.requires.table c.requires.keyed c.requires.keys c.args.key.now c.args.at c.requires.block c.as_slice-slots.result.now same;
    }

pub returns-in-Ok : goal.returns-in-Ok
returns-in-Ok c =
    let same : c.as_slice-slots.result.now ≡ get_or (slot_lists c.args.blocks.now) c.args.at [] =
    c.as_slice-slots.ensures.value ∙ slots_at c.args.blocks.now c.args.at c.index-blocks-at.result c.requires.block.inside c.index-blocks-at.is in
    sym (in_row c.args.tables.now.records c.args.blocks.now c.requires.blocks.some c.requires.table c.requires.keyed c.requires.keys c.args.key.now c.args.at c.requires.block
    c.as_slice-slots.result.now same c.in-Ok.index c.in-Ok.ensures.found)

pub returns-in-Err : goal.returns-in-Err
returns-in-Err c =
    let same : c.as_slice-slots.result.now ≡ get_or (slot_lists c.args.blocks.now) c.args.at [] =
    c.as_slice-slots.ensures.value ∙ slots_at c.args.blocks.now c.args.at c.index-blocks-at.result c.requires.block.inside c.index-blocks-at.is in
    let gap = in_gap c.args.tables.now.records c.args.blocks.now c.requires.blocks.some c.requires.table c.requires.keyed c.requires.keys c.args.key.now c.args.at c.requires.block
    c.as_slice-slots.result.now same c.in-Err.field-0 c.in-Err.ensures.absent in
    sym (value_absent key_total _ _ _ gap)
