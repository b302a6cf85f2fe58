-- Proof of the contract of `first_repeated`.
use Rattle.std.proofs.Common.{sym, ◌∙◌, arith}
use Rattle.gw_config.proofs.NameLemmas.{repeated_here, unique_one_more}
use Rattle.gw_config.proofs.unique.first_repeated.Goals as goal

pub returns-then-have_poi : goal.returns-then-have_poi
returns-then-have_poi c =
    repeated_here c.args.pts.now c.loop-index.index c.index-pts-index.result (omega arith) c.index-pts-index.is
    (sym c.have_poi.ensures ∙ c.if-have_poi.true) c.loop-index.invariant

pub loop-index-preserved : goal.loop-index-preserved
loop-index-preserved c =
    unique_one_more c.args.pts.now c.loop-index.index c.index-pts-index.result (omega arith) c.index-pts-index.is
    (sym c.have_poi.ensures ∙ c.if-have_poi.false) c.loop-index.invariant
