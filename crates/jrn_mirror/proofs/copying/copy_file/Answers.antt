-- Proof of the contract of `copy_file`.
use Rattle.std.proofs.Common.{◌≡◌, length, take, true, arith}
use Rattle.std.proofs.lemmas.List.{length-take}
use Rattle.jrn_mirror.proofs.CopyPairLemmas.{copied-to}
use Rattle.jrn_mirror.proofs.OpensLemmas.{both-flags, copy-both, copy-then, goes-then}
use Rattle.jrn_mirror.proofs.copying.copy_file.Goals as goal

pub returns-then-not-source_left-clause-goes : goal.returns-then-not-source_left-clause-goes
returns-then-not-source_left-clause-goes g c = copy-then c.args.copying.source (g.P.Pair.observed c.args.pair.now) (g.P.Pair.observed c.loop-offset.pair) (g.P.Pair.observed c.copy_part-source_left.new.pair) c.copy_part-source_left.result.0 c.copy_part-source_left.result.1 c.loop-offset.invariant.goes c.copy_part-source_left.ensures.goes

pub loop-offset-preserved : goal.loop-offset-preserved
loop-offset-preserved g c =
    let size : length (take c.min-count.result c.loop-offset.original) ≡ c.min-count.result = simp length-take (omega (arith, c.min-count.ensures)) in
    record {
      within = omega (arith, c.min-count.ensures, c.loop-offset-test.true);
      goes = goes-then (g.P.Pair.observed c.args.pair.now) (g.P.Pair.observed c.loop-offset.pair) (g.P.Pair.observed c.copy_part-source_left.new.pair) true true c.loop-offset.invariant.goes (copy-both c.args.copying.source (g.P.Pair.observed c.loop-offset.pair) (g.P.Pair.observed c.copy_part-source_left.new.pair) c.copy_part-source_left.result.0 c.copy_part-source_left.result.1 c.if-not-source_left.false c.if-not-target_left.false c.copy_part-source_left.ensures.goes);
      copied = copied-to (g.P.Pair.observed c.copy_part-source_left.new.pair) c.args.copying c.loop-offset.offset (length (take c.min-count.result c.loop-offset.original)) c.min-count.result size (c.copy_part-source_left.ensures.copied c.if-not-source_left.false c.if-not-target_left.false);
    }

pub returns-clause-goes : goal.returns-clause-goes
returns-clause-goes g c = both-flags c.args.copying.source (g.P.Pair.observed c.args.pair.now) (g.P.Pair.observed c.loop-offset.pair) c.loop-offset.invariant.goes
