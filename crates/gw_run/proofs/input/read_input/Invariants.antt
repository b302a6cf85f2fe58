-- What the loop of `read_input` keeps, and why it ends.
use Rattle.std.proofs.Common.{◌≡◌, ◌≤◌, ◌+◌, ◌-◌, ◌++◌, List, ℕ, vec_len, length}
use Rattle.std.specs.Prelude.{Some}
use Rattle.gw_run.specs.Top.{IfBytesObserved}
use Rattle.gw_run.proofs.input.read_input.Given as goal

abbrev pub invariant-loop-buf : goal.invariant-loop-buf
invariant-loop-buf g l = record {
  read : IfBytesObserved (g.I.Source.left l.fn.input) (λ all. (rest : List ℕ) × (g.I.Source.left l.input ≡ Some rest) × (all ≡ l.bytes.items ++ rest));
  later : g.I.Source.faults l.fn.input ≤ g.I.Source.faults l.input;
  buf : length l.buf ≡ 4096;
  most : vec_len l.bytes ≤ l.limit + 4096;
}

abbrev pub decreases-loop-buf : goal.decreases-loop-buf
decreases-loop-buf g l = l.limit + 4097 - vec_len l.bytes
