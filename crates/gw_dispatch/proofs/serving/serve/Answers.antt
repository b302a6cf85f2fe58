-- Proof of the contract of `serve`.
use Rattle.std.proofs.Common.{◌∙◌, ap, sym, refl}
use Rattle.std.specs.Prelude.{Err}
use Rattle.std.proofs.lemmas.Int.{to_z-of_z}
use Rattle.gw_rules.proofs.TripleLemmas.{triple-refl, triple-then}
use Rattle.gw_dispatch.proofs.GrowthLemmas.{breaks-then, goes-nowhere, goes-then}
use Rattle.gw_dispatch.proofs.ReaderLemmas.{others-still-then, still-same}
use Rattle.gw_dispatch.proofs.serving.serve.Goals as goal

pub loop-init : goal.loop-init
loop-init g c = record {
  kept = λ setup polls heard items same. triple-refl _ _;
  well = c.requires.well;
  gateway = refl;
  count = refl;
  others = λ number apart. still-same c.args.tills.now.list.items number;
  goes_on = goes-nowhere _;
}

pub serve_next-requires : goal.serve_next-requires
serve_next-requires g c = record { well = c.loop.invariant.well }

pub loop-preserved : goal.loop-preserved
loop-preserved g c = record {
  kept = λ setup polls heard items same. triple-then _ _ _ _ _ _ (c.loop.invariant.kept setup polls heard items same)
      (c.in-Ok-true.ensures.triple setup polls heard items (same ∙ sym c.loop.invariant.gateway));
  well = c.in-Ok-true.ensures.well;
  gateway = c.in-Ok-true.ensures.gateway ∙ c.loop.invariant.gateway;
  count = c.in-Ok-true.ensures.count ∙ c.loop.invariant.count;
  others = others-still-then c.args.till c.args.tills.now.list.items c.loop.tills.list.items c.serve_next.new.tills.list.items c.loop.invariant.others c.in-Ok-true.ensures.others;
  goes_on = goes-then _ _ _ c.loop.invariant.goes_on c.in-Ok-true.ensures.goes_on;
}

pub returns-in-Ok-false-clause-triple : goal.returns-in-Ok-false-clause-triple
returns-in-Ok-false-clause-triple g c =
    λ setup polls heard items same. triple-then _ _ _ _ _ _ (rw (to_z-of_z, c.ranges.now) at (c.loop.invariant.kept setup polls heard items same))
    (rw (to_z-of_z, c.ranges.now) at (c.in-Ok-false.ensures.triple setup polls heard items (same ∙ sym c.loop.invariant.gateway)))

pub returns-in-Ok-false-clause-gateway : goal.returns-in-Ok-false-clause-gateway
returns-in-Ok-false-clause-gateway g c = c.in-Ok-false.ensures.gateway ∙ c.loop.invariant.gateway

pub returns-in-Ok-false-clause-count : goal.returns-in-Ok-false-clause-count
returns-in-Ok-false-clause-count g c = c.in-Ok-false.ensures.count ∙ c.loop.invariant.count

pub returns-in-Ok-false-clause-others : goal.returns-in-Ok-false-clause-others
returns-in-Ok-false-clause-others g c = others-still-then c.args.till c.args.tills.now.list.items c.loop.tills.list.items c.serve_next.new.tills.list.items c.loop.invariant.others c.in-Ok-false.ensures.others

pub returns-in-Ok-false-clause-goes_on : goal.returns-in-Ok-false-clause-goes_on
returns-in-Ok-false-clause-goes_on g c = goes-then _ _ _ c.loop.invariant.goes_on c.in-Ok-false.ensures.goes_on

pub returns-in-Err-Disk-clause-triple : goal.returns-in-Err-Disk-clause-triple
returns-in-Err-Disk-clause-triple g c =
    λ setup polls heard items same. triple-then _ _ _ _ _ _ (rw (to_z-of_z, c.ranges.now) at (c.loop.invariant.kept setup polls heard items same))
    (rw (c.in-Err-Disk.field-0-is, to_z-of_z, c.ranges.now) at (c.in-Err-Disk.ensures.triple setup polls heard items (same ∙ sym c.loop.invariant.gateway)))

pub returns-in-Err-Disk-clause-gateway : goal.returns-in-Err-Disk-clause-gateway
returns-in-Err-Disk-clause-gateway g c = c.in-Err-Disk.ensures.gateway ∙ c.loop.invariant.gateway

pub returns-in-Err-Disk-clause-count : goal.returns-in-Err-Disk-clause-count
returns-in-Err-Disk-clause-count g c = c.in-Err-Disk.ensures.count ∙ c.loop.invariant.count

pub returns-in-Err-Disk-clause-others : goal.returns-in-Err-Disk-clause-others
returns-in-Err-Disk-clause-others g c = others-still-then c.args.till c.args.tills.now.list.items c.loop.tills.list.items c.serve_next.new.tills.list.items c.loop.invariant.others c.in-Err-Disk.ensures.others

pub returns-in-Err-Disk-clause-goes_on : goal.returns-in-Err-Disk-clause-goes_on
returns-in-Err-Disk-clause-goes_on g c = goes-then _ _ _ c.loop.invariant.goes_on c.in-Err-Disk.ensures.goes_on

pub returns-in-Err-Disk-clause-failed : goal.returns-in-Err-Disk-clause-failed
returns-in-Err-Disk-clause-failed g c = λ is. breaks-then _ _ _ c.loop.invariant.goes_on (c.in-Err-Disk.ensures.failed (ap Err c.in-Err-Disk.field-0-is))

pub returns-in-Err-Memory-clause-triple : goal.returns-in-Err-Memory-clause-triple
returns-in-Err-Memory-clause-triple g c =
    λ setup polls heard items same. triple-then _ _ _ _ _ _ (rw (to_z-of_z, c.ranges.now) at (c.loop.invariant.kept setup polls heard items same))
    (rw (c.in-Err-Memory.field-0-is, to_z-of_z, c.ranges.now) at (c.in-Err-Memory.ensures.triple setup polls heard items (same ∙ sym c.loop.invariant.gateway)))

pub returns-in-Err-Memory-clause-gateway : goal.returns-in-Err-Memory-clause-gateway
returns-in-Err-Memory-clause-gateway g c = c.in-Err-Memory.ensures.gateway ∙ c.loop.invariant.gateway

pub returns-in-Err-Memory-clause-count : goal.returns-in-Err-Memory-clause-count
returns-in-Err-Memory-clause-count g c = c.in-Err-Memory.ensures.count ∙ c.loop.invariant.count

pub returns-in-Err-Memory-clause-others : goal.returns-in-Err-Memory-clause-others
returns-in-Err-Memory-clause-others g c = others-still-then c.args.till c.args.tills.now.list.items c.loop.tills.list.items c.serve_next.new.tills.list.items c.loop.invariant.others c.in-Err-Memory.ensures.others

pub returns-in-Err-Memory-clause-goes_on : goal.returns-in-Err-Memory-clause-goes_on
returns-in-Err-Memory-clause-goes_on g c = goes-then _ _ _ c.loop.invariant.goes_on c.in-Err-Memory.ensures.goes_on
