-- What the loop of `OpenObject::block_for` keeps, and why it ends.
use Rattle.std.proofs.Common.{◌≡◌, ◌-◌, ◌<◌, ◌≤◌, length}
use Rattle.std.specs.Ordering.{nat_cmp}
use Rattle.std.specs.Cmp.Lexicographic.{slice_cmp}
use Rattle.std.specs.declared.cmp.Ordering.TheVariants.{Greater}
use Rattle.json_text.specs.MemberNames.{pair_names}
use Rattle.json_text.specs.inner.MemberIndex.{ComesBefore}
use Rattle.json_text.specs.inner.MemberOrder.{first_block_name}
use Rattle.json_text.specs.inner.NumberBlocks.{number_lists}
use Rattle.json_text.proofs.members.OpenObject.block_for.Given as goal

abbrev pub invariant-loop-end : goal.invariant-loop-end
invariant-loop-end l = record {
  some : l.block < l.end;
  within : l.end ≤ length l.self.index.items;
  not_after : 0 < l.block → slice_cmp nat_cmp (first_block_name (pair_names l.self.members.items) (number_lists l.self.index.items) l.block) l.name ≡ Greater → ⊥;
  before : l.end < length l.self.index.items → ComesBefore l.name (first_block_name (pair_names l.self.members.items) (number_lists l.self.index.items) l.end);
}

abbrev pub decreases-loop-end : goal.decreases-loop-end
decreases-loop-end l = l.end - l.block
