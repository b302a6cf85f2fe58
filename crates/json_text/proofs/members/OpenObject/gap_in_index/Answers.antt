-- Proof of the contract of `OpenObject::gap_in_index`.
use Rattle.std.proofs.Common.{◌≡◌, ◌∙◌, ◌<◌, ◌≤◌, List, ℕ, [], get_or, length, subst, sym, true, arith}
use Rattle.std.proofs.lemmas.List.{length-map}
use Rattle.json_text.specs.MemberNames.{has_name, pair_names}
use Rattle.json_text.specs.inner.MemberIndex.{AreInOrder, AreMemberNumbers, ComesAt, names_at}
use Rattle.json_text.specs.inner.NumberBlocks.{number_lists}
use Rattle.json_text.specs.declared.block.Block.{Block}
use Rattle.json_text.specs.declared.members.OpenObject.{OpenObject}
use Rattle.json_text.proofs.BlockLemmas.{block_within, filled, found_in_all, length-names_at, numbers_in_order, gap_among_all, read_numbers}
use Rattle.json_text.proofs.members.OpenObject.gap_in_index.Goals as goal

pub before_in-requires-clause-within : goal.before_in-requires-clause-within
before_in-requires-clause-within c =
    let o : OpenObject = c.args.self.now in
    let listed = c.block_for-block.ensures.inside in
    let inside : c.block_for-block.result < length o.index.items = omega (arith, listed, length-map o.index.items (λ (b : Block). b.numbers.items)) in
    let own = c.as_slice.ensures.value ∙ read_numbers o.index.items c.block_for-block.result c.index.result.now inside c.index.ensures in
    subst (λ (l : List ℕ). AreMemberNumbers l (length o.members.items)) (sym own) (block_within (number_lists o.index.items) (length o.members.items) c.block_for-block.result o.within listed)

pub before_in-requires-clause-ordered : goal.before_in-requires-clause-ordered
before_in-requires-clause-ordered c =
    let o : OpenObject = c.args.self.now in
    let listed = c.block_for-block.ensures.inside in
    let inside : c.block_for-block.result < length o.index.items = omega (arith, listed, length-map o.index.items (λ (b : Block). b.numbers.items)) in
    let own = c.as_slice.ensures.value ∙ read_numbers o.index.items c.block_for-block.result c.index.result.now inside c.index.ensures in
    subst (λ (l : List ℕ). AreInOrder (names_at (pair_names o.members.items) l)) (sym own)
    (numbers_in_order (pair_names o.members.items) (number_lists o.index.items) (filled o.index.items) o.ordered c.block_for-block.result listed)

pub returns-in-None : goal.returns-in-None
returns-in-None c =
    let o : OpenObject = c.args.self.now in
    let listed = c.block_for-block.ensures.inside in
    let inside : c.block_for-block.result < length o.index.items = omega (arith, listed, length-map o.index.items (λ (b : Block). b.numbers.items)) in
    let own = c.as_slice.ensures.value ∙ read_numbers o.index.items c.block_for-block.result c.index.result.now inside c.index.ensures in
    found_in_all (pair_names o.members.items) (number_lists o.index.items) c.args.name.now c.block_for-block.result listed
    (subst (λ (l : List ℕ). has_name c.args.name.now (names_at (pair_names o.members.items) l) ≡ true) own c.in-None.ensures)

pub returns-in-Some : goal.returns-in-Some
returns-in-Some c =
    let o : OpenObject = c.args.self.now in
    let ns : List (List ℕ) = pair_names o.members.items in
    let listed = c.block_for-block.ensures.inside in
    let inside : c.block_for-block.result < length o.index.items = omega (arith, listed, length-map o.index.items (λ (b : Block). b.numbers.items)) in
    let own = c.as_slice.ensures.value ∙ read_numbers o.index.items c.block_for-block.result c.index.result.now inside c.index.ensures in
    let numbers : List ℕ = get_or (number_lists o.index.items) c.block_for-block.result [] in
    let comes : ComesAt (names_at ns numbers) c.args.name.now c.in-Some.before = subst (λ (l : List ℕ). ComesAt (names_at ns l) c.args.name.now c.in-Some.before) own c.in-Some.ensures in
    record {
      block = omega (arith, listed);
      before = (let w : c.in-Some.before ≤ length (names_at ns numbers) = comes.within in omega (arith, w, length-names_at ns numbers));
      comes = gap_among_all ns (number_lists o.index.items) (filled o.index.items) o.ordered c.args.name.now c.block_for-block.result c.in-Some.before c.block_for-block.ensures comes;
    }
