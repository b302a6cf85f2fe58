-- Proof of the contract of `gap_in`.
use Rattle.std.proofs.Common.{◌≡◌, ◌∙◌, [], get_or, refl, subst, sym}
use Rattle.std.specs.Prelude.{IsSome}
use Rattle.gw_ledger.specs.Blocks.{slot_lists}
use Rattle.gw_ledger.proofs.BlockLemmas.{in_gap, in_keyed, in_row, in_table, slots_at}
use Rattle.gw_ledger.proofs.TableLemmas.{none_has_value}
use Rattle.gw_ledger.proofs.blocks.gap_in.Goals as goal

pub search-requires : goal.search-requires
search-requires c =
    let same : c.as_slice.result.now ≡ get_or (slot_lists c.args.blocks.now) c.args.at [] =
    c.as_slice.ensures.value ∙ slots_at c.args.blocks.now c.args.at c.index-blocks-at.result c.requires.block.inside c.index-blocks-at.is in
    record {
      table = in_table c.args.tables.now.records c.args.blocks.now c.requires.blocks.some c.requires.table c.requires.keyed c.requires.keys c.args.key.now c.args.at c.requires.block c.as_slice.result.now same;
      keyed = in_keyed c.args.tables.now.records c.args.blocks.now c.requires.blocks.some c.requires.table c.requires.keyed c.requires.keys c.args.key.now c.args.at c.requires.block c.as_slice.result.now same;
    }

pub unreachable-requires : goal.unreachable-requires
unreachable-requires c =
    let same : c.as_slice.result.now ≡ get_or (slot_lists c.args.blocks.now) c.args.at [] =
    c.as_slice.ensures.value ∙ slots_at c.args.blocks.now c.args.at c.index-blocks-at.result c.requires.block.inside c.index-blocks-at.is in
    let found = in_row c.args.tables.now.records c.args.blocks.now c.requires.blocks.some c.requires.table c.requires.keyed c.requires.keys c.args.key.now c.args.at c.requires.block
    c.as_slice.result.now same c.in-Ok.field-0 c.in-Ok.ensures.found in
    none_has_value _ c.requires.new (subst IsSome (sym found) refl)

pub returns-clause-gap : goal.returns-clause-gap
returns-clause-gap c =
    let same : c.as_slice.result.now ≡ get_or (slot_lists c.args.blocks.now) c.args.at [] =
    c.as_slice.ensures.value ∙ slots_at c.args.blocks.now c.args.at c.index-blocks-at.result c.requires.block.inside c.index-blocks-at.is in
    in_gap c.args.tables.now.records c.args.blocks.now c.requires.blocks.some c.requires.table c.requires.keyed c.requires.keys c.args.key.now c.args.at c.requires.block
    c.as_slice.result.now same c.in-Err.index c.in-Err.ensures.absent
