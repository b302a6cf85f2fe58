-- Proof of the contract of `from_records`.
use Rattle.std.proofs.Common.{◌≡◌, ◌<◌, length, sym, ap, subst, arith}
use Rattle.gw_ledger.specs.Fold.{IsFirstBad}
use Rattle.gw_ledger.proofs.FirstBadLemmas.{bad_after, bad_at_fall}
use Rattle.gw_ledger.proofs.ledger.Ledger.from_records.Goals as goal

pub returns-in-Some-clause-bad : goal.returns-in-Some-clause-bad
returns-in-Some-clause-bad c =
    bad_at_fall c.args.bodies.now c.in-Ok.tables.records c.in-Ok-of.keys c.in-Ok.ensures c.law_folded.ensures c.law_bodies.ensures.one_record
    c.in-Ok-of.ensures.rows c.in-Ok-of.ensures.sorted c.in-Some.slot c.in-Some.ensures

pub returns-then-count-as_slice-clause-bad : goal.returns-then-count-as_slice-clause-bad
returns-then-count-as_slice-clause-bad c =
    let len : length c.as_slice.result.now ≡ length c.args.bodies.now = ap length c.as_slice.ensures in
    let more : length c.in-Ok.tables.records < length c.args.bodies.now = omega (arith, c.if-count-as_slice.true, c.count.ensures, len) in
    subst (IsFirstBad c.args.bodies.now) (sym c.count-slot.ensures)
    (bad_after c.args.bodies.now c.in-Ok.tables.records c.in-Ok-of.keys c.in-Ok.ensures c.law_folded.ensures c.law_bodies.ensures.one_record
    c.in-Ok-of.ensures.rows.rows_are c.in-None.ensures more)
