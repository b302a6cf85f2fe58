-- Proof of the contract of `OpenObject::block_for`.
use Rattle.std.proofs.Common.{◌∙◌, ◌+◌, ◌-◌, ◌/◌, ◌<◌, ℕ, List, ap, get_or, length, subst, sym, arith}
use Rattle.std.specs.Ordering.{nat_cmp}
use Rattle.std.specs.Cmp.Lexicographic.{slice_cmp}
use Rattle.std.proofs.lemmas.List.{length-map}
use Rattle.json_text.specs.MemberNames.{pair_names}
use Rattle.json_text.specs.inner.MemberIndex.{AreMemberNumbers, name_at}
use Rattle.json_text.specs.inner.NumberBlocks.{number_lists}
use Rattle.json_text.specs.declared.block.Block.{Block}
use Rattle.json_text.specs.declared.members.OpenObject.{OpenObject}
use Rattle.json_text.proofs.BlockLemmas.{block_within, read_numbers}
use Rattle.json_text.proofs.IndexLemmas.{comes_after}
use Rattle.json_text.proofs.members.OpenObject.block_for.Goals as goal

pub order_of-requires : goal.order_of-requires
order_of-requires c =
    let o : OpenObject = c.args.self.now in
    let middle : ℕ = c.loop-end.block + (c.loop-end.end - c.loop-end.block) / 2 in
    let inside : middle < length o.index.items = omega arith in
    let own = c.as_slice.ensures.value ∙ read_numbers o.index.items middle c.index.result.now inside c.index.ensures in
    let listed : middle < length (number_lists o.index.items) = omega (arith, inside, length-map o.index.items (λ (b : Block). b.numbers.items)) in
    subst (λ (l : List ℕ). AreMemberNumbers l (length o.members.items)) (sym own) (block_within (number_lists o.index.items) (length o.members.items) middle o.within listed) 0 c.as_slice.ensures.some

pub loop-end-preserved : goal.loop-end-preserved
loop-end-preserved c =
    let o : OpenObject = c.args.self.now in
    let ns : List (List ℕ) = pair_names o.members.items in
    let middle : ℕ = c.loop-end.block + (c.loop-end.end - c.loop-end.block) / 2 in
    let inside : middle < length o.index.items = omega arith in
    let own = c.as_slice.ensures.value ∙ read_numbers o.index.items middle c.index.result.now inside c.index.ensures in
    record {
      some = omega arith;
      within = omega arith;
      not_after = c.loop-end.invariant.not_after;
      before = λ more.
          comes_after _ c.args.name.now (c.in-Greater.ensures ∙ ap (λ (l : List ℕ). slice_cmp nat_cmp (name_at ns (get_or l 0 0)) c.args.name.now) own);
    }
