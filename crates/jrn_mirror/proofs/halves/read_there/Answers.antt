-- Proof of the contract of `read_there`.
use Rattle.std.proofs.Common.{◌≡◌, length, refl, sym, false, true, [], ◌∷◌}
use Rattle.gw_site.specs.Outside.{file_part}
use Rattle.jrn_mirror.specs.declared.turn.Half.TheVariants.{First, Second}
use Rattle.jrn_mirror.specs.declared.turn.Turn2.TheVariants.{Lost}
use Rattle.jrn_mirror.specs.inner.Halves.{loss}
use Rattle.jrn_mirror.proofs.PairLemmas.{pair-is, pair-same, fails-gone, read-second}
use Rattle.jrn_mirror.proofs.halves.read_there.Goals as goal

pub returns-then-done-clause-turns : goal.returns-then-done-clause-turns
returns-then-done-clause-turns g c = rw (c.in-true-true.is-0, c.in-true-true.is-1) (pair-is _ _ (loss c.read_half-done.result First) (loss true First) (rw c.if-done.true refl) c.read_half-done.ensures.turns)

pub returns-else-done-clause-turns : goal.returns-else-done-clause-turns
returns-else-done-clause-turns g c = rw (c.in-true-true.is-0, c.in-true-true.is-1) (pair-same _ _ (Lost First ∷ []) (loss c.read_half-there.result Second) _ refl _ (pair-is _ _ (loss c.read_half-done.result First) (loss false First) (rw c.if-done.false refl) c.read_half-done.ensures.turns) c.read_half-there.ensures.turns)

pub returns-else-done-clause-bytes : goal.returns-else-done-clause-bytes
returns-else-done-clause-bytes g c = rw (sym c.read_half-done.ensures.size) (read-second (g.P.Pair.observed c.args.pair.now) (g.P.Pair.observed c.read_half-done.new.pair) (λ file. c.read_half-there.new.buf ≡ file_part file c.args.offset (length c.read_half-done.new.buf)) c.read_half-there.result
    (pair-is _ _ (loss c.read_half-done.result First) (loss false First) (rw c.if-done.false refl) c.read_half-done.ensures.turns) c.read_half-there.ensures.dark c.read_half-there.ensures.bytes)

pub returns-in-true-false-clause-turns : goal.returns-in-true-false-clause-turns
returns-in-true-false-clause-turns g c = rw (c.in-true-false.is-0, c.in-true-false.is-1) c.read_half.ensures.turns

pub returns-in-false-true-clause-turns : goal.returns-in-false-true-clause-turns
returns-in-false-true-clause-turns g c = rw (c.in-false-true.is-0, c.in-false-true.is-1) c.read_half-in-false-true.ensures.turns

pub returns-in-false-false-clause-turns : goal.returns-in-false-false-clause-turns
returns-in-false-false-clause-turns g c =
    let call = c.read_half-in-false-false in
    let failed : call.result ≡ false = fails-gone (g.P.Pair.observed c.args.pair.now) c.args.first c.args.second call.result c.requires c.in-false-false.is-0 call.ensures.lost call.ensures.dark in
    rw (c.in-false-false.is-0, c.in-false-false.is-1) (pair-is _ _ (loss call.result First) (loss false First) (rw failed refl) call.ensures.turns)
