-- Proof of the contract of `copy_runs`.
use Rattle.std.proofs.Common.{◌≡◌, ◌+◌, ◌-◌, ◌<◌, take, drop, subst, arith, true, false}
use Rattle.std.specs.Prelude.{Bool}
use Rattle.jrn_mirror.specs.PairObserved.{PairGrows}
use Rattle.jrn_mirror.specs.inner.Copying.{other_half, CopyGoesOn}
use Rattle.jrn_mirror.specs.inner.Halves.{half_write}
use Rattle.jrn_mirror.proofs.CopyLemmas.{run_bytes}
use Rattle.jrn_mirror.proofs.CopyPairLemmas.{part-skipped, part-written, part-copies, part-done}
use Rattle.jrn_mirror.proofs.OpensLemmas.{target-written, both-flags, flags-both, copy-then, goes-then, goes-still}
use Rattle.jrn_mirror.proofs.copying.copy_runs.Goals as goal

pub loop-begin-init : goal.loop-begin-init
loop-begin-init g c = record {
  within = c.next_difference-begin.ensures.within;
  goes = goes-still (g.P.Pair.observed c.args.pair.now) true true;
  part = part-skipped (g.P.Pair.observed c.args.pair.now) c.args.copying c.args.offset c.args.original.now c.args.copy.now c.known_of-known.result 0 c.next_difference-begin.result c.requires.within c.known_of-known.ensures c.next_difference-begin.ensures.after c.next_difference-begin.ensures.within c.next_difference-begin.ensures.same c.requires.part;
  differs = c.next_difference-begin.ensures.differs;
}

pub returns-then-not-write_half-clause-goes : goal.returns-then-not-write_half-clause-goes
returns-then-not-write_half-clause-goes g c =
    let turns : PairGrows (g.P.Pair.observed c.loop-begin.pair) (g.P.Pair.observed c.write_half.new.pair) (λ turns. turns ≡ half_write (other_half c.args.copying.source) (c.args.offset + c.loop-begin.begin) (take (c.end_of_run-end.result - c.loop-begin.begin) (drop c.loop-begin.begin c.args.original.now)) c.write_half.result) = rw c.other-to.ensures at c.write_half.ensures.turns in
    let longer : c.loop-begin.begin < c.end_of_run-end.result = omega (arith, c.end_of_run-end.ensures.after) in
    let written : CopyGoesOn (g.P.Pair.observed c.loop-begin.pair) (g.P.Pair.observed c.write_half.new.pair) c.args.copying.source true c.write_half.result =
    target-written c.args.copying.source (g.P.Pair.observed c.loop-begin.pair) (g.P.Pair.observed c.write_half.new.pair) c.write_half.result (c.args.offset + c.loop-begin.begin) (take (c.end_of_run-end.result - c.loop-begin.begin) (drop c.loop-begin.begin c.args.original.now)) (run_bytes c.args.original.now c.loop-begin.begin c.end_of_run-end.result (λ i. (c.type_inv.original i).fits)) turns (rw c.other-to.ensures at c.write_half.ensures.gone)
    (part-copies (g.P.Pair.observed c.loop-begin.pair) c.args.copying c.args.offset c.args.original.now c.args.copy.now c.known_of-known.result c.loop-begin.begin c.end_of_run-end.result c.requires.longer c.requires.within c.requires.same_size.1 c.known_of-known.ensures longer c.end_of_run-end.ensures.within (c.loop-begin.invariant.differs c.loop-begin-test.true) c.end_of_run-end.ensures.differs c.loop-begin.invariant.part) in
    copy-then c.args.copying.source (g.P.Pair.observed c.args.pair.now) (g.P.Pair.observed c.loop-begin.pair) (g.P.Pair.observed c.write_half.new.pair) true false c.loop-begin.invariant.goes (subst (λ (there : Bool). CopyGoesOn (g.P.Pair.observed c.loop-begin.pair) (g.P.Pair.observed c.write_half.new.pair) c.args.copying.source true there) c.if-not-write_half.true written)

pub loop-begin-preserved : goal.loop-begin-preserved
loop-begin-preserved g c =
    let turns : PairGrows (g.P.Pair.observed c.loop-begin.pair) (g.P.Pair.observed c.write_half.new.pair) (λ turns. turns ≡ half_write (other_half c.args.copying.source) (c.args.offset + c.loop-begin.begin) (take (c.end_of_run-end.result - c.loop-begin.begin) (drop c.loop-begin.begin c.args.original.now)) c.write_half.result) = rw c.other-to.ensures at c.write_half.ensures.turns in
    let longer : c.loop-begin.begin < c.end_of_run-end.result = omega (arith, c.end_of_run-end.ensures.after) in
    let written : CopyGoesOn (g.P.Pair.observed c.loop-begin.pair) (g.P.Pair.observed c.write_half.new.pair) c.args.copying.source true c.write_half.result =
    target-written c.args.copying.source (g.P.Pair.observed c.loop-begin.pair) (g.P.Pair.observed c.write_half.new.pair) c.write_half.result (c.args.offset + c.loop-begin.begin) (take (c.end_of_run-end.result - c.loop-begin.begin) (drop c.loop-begin.begin c.args.original.now)) (run_bytes c.args.original.now c.loop-begin.begin c.end_of_run-end.result (λ i. (c.type_inv.original i).fits)) turns (rw c.other-to.ensures at c.write_half.ensures.gone)
    (part-copies (g.P.Pair.observed c.loop-begin.pair) c.args.copying c.args.offset c.args.original.now c.args.copy.now c.known_of-known.result c.loop-begin.begin c.end_of_run-end.result c.requires.longer c.requires.within c.requires.same_size.1 c.known_of-known.ensures longer c.end_of_run-end.ensures.within (c.loop-begin.invariant.differs c.loop-begin-test.true) c.end_of_run-end.ensures.differs c.loop-begin.invariant.part) in
    let next = c.next_difference-begin-in-loop-begin in
    record {
      within = next.ensures.within;
      goes = goes-then (g.P.Pair.observed c.args.pair.now) (g.P.Pair.observed c.loop-begin.pair) (g.P.Pair.observed c.write_half.new.pair) true true c.loop-begin.invariant.goes (flags-both c.args.copying.source (g.P.Pair.observed c.loop-begin.pair) (g.P.Pair.observed c.write_half.new.pair) (subst (λ (there : Bool). CopyGoesOn (g.P.Pair.observed c.loop-begin.pair) (g.P.Pair.observed c.write_half.new.pair) c.args.copying.source true there) c.if-not-write_half.false written));
      part = part-skipped (g.P.Pair.observed c.write_half.new.pair) c.args.copying c.args.offset c.args.original.now c.args.copy.now c.known_of-known.result c.end_of_run-end.result next.result c.requires.within c.known_of-known.ensures next.ensures.after next.ensures.within next.ensures.same
          (part-written (g.P.Pair.observed c.loop-begin.pair) (g.P.Pair.observed c.write_half.new.pair) c.args.copying c.args.offset c.args.original.now c.args.copy.now c.loop-begin.begin c.end_of_run-end.result c.write_half.result c.if-not-write_half.false c.requires.within longer c.end_of_run-end.ensures.within turns c.loop-begin.invariant.part);
      differs = next.ensures.differs;
    }

pub returns-clause-goes : goal.returns-clause-goes
returns-clause-goes g c = both-flags c.args.copying.source (g.P.Pair.observed c.args.pair.now) (g.P.Pair.observed c.loop-begin.pair) c.loop-begin.invariant.goes

pub returns-clause-copied : goal.returns-clause-copied
returns-clause-copied g c = λ e. part-done (g.P.Pair.observed c.loop-begin.pair) c.args.copying c.args.offset c.args.original.now c.args.copy.now c.loop-begin.begin c.loop-begin-test.false c.loop-begin.invariant.within c.loop-begin.invariant.part
