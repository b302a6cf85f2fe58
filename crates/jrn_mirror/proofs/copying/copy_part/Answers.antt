-- Proof of the contract of `copy_part`.
use Rattle.std.proofs.Common.{◌≡◌, length, sym, subst, ◌∙◌, true, false}
use Rattle.std.specs.Prelude.{Bool}
use Rattle.gw_site.specs.Outside.{file_part}
use Rattle.jrn_mirror.specs.PairObserved.{PairGrows, IfLogged}
use Rattle.jrn_mirror.specs.inner.Copying.{other_half, CopyGoesOn}
use Rattle.jrn_mirror.specs.inner.Halves.{HasOf, loss}
use Rattle.jrn_mirror.proofs.OpensLemmas.{source-looked, target-looked, flags-both, copy-then}
use Rattle.jrn_mirror.proofs.CopyPairLemmas.{part-begun, there-look}
use Rattle.jrn_mirror.proofs.copying.copy_part.Goals as goal

pub returns-then-not-read_half-clause-goes : goal.returns-then-not-read_half-clause-goes
returns-then-not-read_half-clause-goes g c =
    subst (λ (there : Bool). CopyGoesOn (g.P.Pair.observed c.args.pair.now) (g.P.Pair.observed c.read_half.new.pair) c.args.copying.source there true) c.if-not-read_half.true
    (source-looked c.args.copying.source (g.P.Pair.observed c.args.pair.now) (g.P.Pair.observed c.read_half.new.pair) c.read_half.result c.read_half.ensures.turns c.read_half.ensures.gone)

pub returns-then-not-read_half-2-clause-goes : goal.returns-then-not-read_half-2-clause-goes
returns-then-not-read_half-2-clause-goes g c =
    let first : CopyGoesOn (g.P.Pair.observed c.args.pair.now) (g.P.Pair.observed c.read_half.new.pair) c.args.copying.source true true =
    subst (λ (there : Bool). CopyGoesOn (g.P.Pair.observed c.args.pair.now) (g.P.Pair.observed c.read_half.new.pair) c.args.copying.source there true) c.if-not-read_half.false
    (source-looked c.args.copying.source (g.P.Pair.observed c.args.pair.now) (g.P.Pair.observed c.read_half.new.pair) c.read_half.result c.read_half.ensures.turns c.read_half.ensures.gone) in
    let turns : PairGrows (g.P.Pair.observed c.read_half.new.pair) (g.P.Pair.observed c.read_half-2.new.pair) (λ turns. turns ≡ loss c.read_half-2.result (other_half c.args.copying.source)) = rw c.other.ensures at c.read_half-2.ensures.turns in
    copy-then c.args.copying.source (g.P.Pair.observed c.args.pair.now) (g.P.Pair.observed c.read_half.new.pair) (g.P.Pair.observed c.read_half-2.new.pair) true false (flags-both c.args.copying.source (g.P.Pair.observed c.args.pair.now) (g.P.Pair.observed c.read_half.new.pair) first)
    (subst (λ (there : Bool). CopyGoesOn (g.P.Pair.observed c.read_half.new.pair) (g.P.Pair.observed c.read_half-2.new.pair) c.args.copying.source true there) c.if-not-read_half-2.true
    (target-looked c.args.copying.source (g.P.Pair.observed c.read_half.new.pair) (g.P.Pair.observed c.read_half-2.new.pair) c.read_half-2.result turns (rw c.other.ensures at c.read_half-2.ensures.gone)))

pub copy_runs-requires-clause-part : goal.copy_runs-requires-clause-part
copy_runs-requires-clause-part g c =
    let source_left : IfLogged (g.P.Pair.observed c.args.pair.now) (λ log. HasOf log c.args.copying.source (λ file. c.read_half.new.buf ≡ file_part file c.args.offset (length c.read_half.new.buf))) = λ log e. rw c.read_half.ensures.size (c.read_half.ensures.bytes log e c.if-not-read_half.false) in
    let same : length c.args.copy.now ≡ length c.read_half.new.buf = c.requires.same_size.0 ∙ sym c.read_half.ensures.size in
    let target_left : IfLogged (g.P.Pair.observed c.read_half.new.pair) (λ log. HasOf log (other_half c.args.copying.source) (λ file. c.read_half-2.new.buf ≡ file_part file c.args.offset (length c.read_half.new.buf))) = λ log e. rw (sym same) (rw c.other.ensures at (c.read_half-2.ensures.bytes log e c.if-not-read_half-2.false)) in
    let turns : PairGrows (g.P.Pair.observed c.read_half.new.pair) (g.P.Pair.observed c.read_half-2.new.pair) (λ turns. turns ≡ loss c.read_half-2.result (other_half c.args.copying.source)) = rw c.other.ensures at c.read_half-2.ensures.turns in
    part-begun (g.P.Pair.observed c.args.pair.now) (g.P.Pair.observed c.read_half.new.pair) (g.P.Pair.observed c.read_half-2.new.pair) c.args.copying c.args.offset c.read_half.new.buf c.read_half-2.new.buf c.requires.copied
    (there-look (g.P.Pair.observed c.args.pair.now) (g.P.Pair.observed c.read_half.new.pair) c.args.copying.source c.read_half.result c.if-not-read_half.false c.read_half.ensures.turns) source_left
    (there-look (g.P.Pair.observed c.read_half.new.pair) (g.P.Pair.observed c.read_half-2.new.pair) (other_half c.args.copying.source) c.read_half-2.result c.if-not-read_half-2.false turns) target_left

pub returns-clause-goes : goal.returns-clause-goes
returns-clause-goes g c =
    let first : CopyGoesOn (g.P.Pair.observed c.args.pair.now) (g.P.Pair.observed c.read_half.new.pair) c.args.copying.source true true =
    subst (λ (there : Bool). CopyGoesOn (g.P.Pair.observed c.args.pair.now) (g.P.Pair.observed c.read_half.new.pair) c.args.copying.source there true) c.if-not-read_half.false
    (source-looked c.args.copying.source (g.P.Pair.observed c.args.pair.now) (g.P.Pair.observed c.read_half.new.pair) c.read_half.result c.read_half.ensures.turns c.read_half.ensures.gone) in
    let turns : PairGrows (g.P.Pair.observed c.read_half.new.pair) (g.P.Pair.observed c.read_half-2.new.pair) (λ turns. turns ≡ loss c.read_half-2.result (other_half c.args.copying.source)) = rw c.other.ensures at c.read_half-2.ensures.turns in
    let second : CopyGoesOn (g.P.Pair.observed c.read_half.new.pair) (g.P.Pair.observed c.read_half-2.new.pair) c.args.copying.source true true =
    subst (λ (there : Bool). CopyGoesOn (g.P.Pair.observed c.read_half.new.pair) (g.P.Pair.observed c.read_half-2.new.pair) c.args.copying.source true there) c.if-not-read_half-2.false
    (target-looked c.args.copying.source (g.P.Pair.observed c.read_half.new.pair) (g.P.Pair.observed c.read_half-2.new.pair) c.read_half-2.result turns (rw c.other.ensures at c.read_half-2.ensures.gone)) in
    copy-then c.args.copying.source (g.P.Pair.observed c.args.pair.now) (g.P.Pair.observed c.read_half.new.pair) (g.P.Pair.observed c.copy_runs.new.pair) true c.copy_runs.result (flags-both c.args.copying.source (g.P.Pair.observed c.args.pair.now) (g.P.Pair.observed c.read_half.new.pair) first)
    (copy-then c.args.copying.source (g.P.Pair.observed c.read_half.new.pair) (g.P.Pair.observed c.read_half-2.new.pair) (g.P.Pair.observed c.copy_runs.new.pair) true c.copy_runs.result (flags-both c.args.copying.source (g.P.Pair.observed c.read_half.new.pair) (g.P.Pair.observed c.read_half-2.new.pair) second) c.copy_runs.ensures.goes)
