-- What the loop of `OpenObject::before_in` keeps, and why it ends.
use Rattle.std.proofs.Common.{ℕ, ◌<◌, ◌≤◌, ◌-◌, length}
use Rattle.json_text.specs.MemberNames.{pair_names}
use Rattle.json_text.specs.inner.MemberIndex.{ComesBefore, name_at, names_at}
use Rattle.json_text.proofs.members.OpenObject.before_in.Given as goal

abbrev pub invariant-loop-low : goal.invariant-loop-low
invariant-loop-low l = record {
  ordered : l.low ≤ l.high;
  within : l.high ≤ length (names_at (pair_names l.self.members.items) l.numbers);
  below : (i : ℕ) → i < l.low → ComesBefore (name_at (names_at (pair_names l.self.members.items) l.numbers) i) l.name;
  above : (i : ℕ) → l.high ≤ i → i < length (names_at (pair_names l.self.members.items) l.numbers) → ComesBefore l.name (name_at (names_at (pair_names l.self.members.items) l.numbers) i);
}

abbrev pub decreases-loop-low : goal.decreases-loop-low
decreases-loop-low l = l.high - l.low
