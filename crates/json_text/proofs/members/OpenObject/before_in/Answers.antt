-- Proof of the contract of `OpenObject::before_in`.
use Rattle.std.proofs.Common.{◌+◌, ◌-◌, ◌/◌, ◌<◌, ◌∙◌, List, ℕ, ap, length, sym, arith}
use Rattle.std.specs.Ordering.{nat_cmp}
use Rattle.std.specs.Cmp.Lexicographic.{slice_cmp}
use Rattle.json_text.specs.MemberNames.{pair_names}
use Rattle.json_text.specs.inner.MemberIndex.{names_at}
use Rattle.json_text.proofs.IndexLemmas.{all_below, all_above, index_has, named_at}
use Rattle.json_text.proofs.members.OpenObject.before_in.Goals as goal

pub loop-low-preserved-in-Less : goal.loop-low-preserved-in-Less
loop-low-preserved-in-Less c =
    let ns : List (List ℕ) = names_at (pair_names c.args.self.now.members.items) c.args.numbers.now in
    let middle : ℕ = c.loop-low.low + (c.loop-low.high - c.loop-low.low) / 2 in
    let within : middle < length ns = omega arith in
    record {
      ordered = omega arith;
      within = c.loop-low.invariant.within;
      below = all_below ns c.args.name.now middle c.requires.ordered within
          (c.in-Less.ensures ∙ ap (λ (n : List ℕ). slice_cmp nat_cmp n c.args.name.now) (sym (named_at (pair_names c.args.self.now.members.items) c.args.numbers.now middle within)));
      above = c.loop-low.invariant.above;
    }

pub loop-low-preserved : goal.loop-low-preserved
loop-low-preserved c =
    let ns : List (List ℕ) = names_at (pair_names c.args.self.now.members.items) c.args.numbers.now in
    let middle : ℕ = c.loop-low.low + (c.loop-low.high - c.loop-low.low) / 2 in
    let within : middle < length ns = omega arith in
    record {
      ordered = omega arith;
      within = omega arith;
      below = c.loop-low.invariant.below;
      above = all_above ns c.args.name.now middle c.requires.ordered
          (c.in-Greater.ensures ∙ ap (λ (n : List ℕ). slice_cmp nat_cmp n c.args.name.now) (sym (named_at (pair_names c.args.self.now.members.items) c.args.numbers.now middle within)));
    }

pub returns-in-Equal : goal.returns-in-Equal
returns-in-Equal c =
    let ns : List (List ℕ) = names_at (pair_names c.args.self.now.members.items) c.args.numbers.now in
    let middle : ℕ = c.loop-low.low + (c.loop-low.high - c.loop-low.low) / 2 in
    let within : middle < length ns = omega arith in
    index_has ns c.args.name.now middle within
    (c.in-Equal.ensures ∙ ap (λ (n : List ℕ). slice_cmp nat_cmp n c.args.name.now) (sym (named_at (pair_names c.args.self.now.members.items) c.args.numbers.now middle within)))
