-- Proof of the contract of `least_fall`.
use Rattle.std.proofs.Common.{◌+◌, ◌-◌, sym, subst, arith}
use Rattle.std.specs.Prelude.{MatchOption}
use Rattle.gw_base.specs.Key.{key_cmp}
use Rattle.gw_ledger.specs.KeyTable.{IsLeastFall}
use Rattle.gw_ledger.specs.ShortRows.{full_rows}
use Rattle.gw_ledger.specs.Table.{IsTable}
use Rattle.gw_ledger.proofs.FirstBadLemmas.{IsLeastSoFar}
use Rattle.gw_ledger.proofs.ShortLemmas.{fall_all, fall_step}
use Rattle.gw_ledger.proofs.sorted.SortedKeys.least_fall.Goals as goal

pub loop-at-preserved : goal.loop-at-preserved
loop-at-preserved c =
    let pairs = c.self.inside.pairs.items in
    let rows = c.self.inside.rows.items in
    let so_far = subst (λ all. IsLeastSoFar all c.loop-at.at c.loop-at.least) (sym c.self.view_is) c.loop-at.invariant in
    let next = fall_step pairs rows c.index.result.now c.index-in-loop-at.result.now (c.loop-at.at - 1) c.loop-at.at c.self.invariant.table c.self.invariant.inside
    (omega (arith, c.loop-at.auto.at)) (omega (arith, c.loop-at-test.true, c.len-at-end.ensures)) (sym c.index.ensures) (sym c.index-in-loop-at.ensures) c.loop-at.least so_far in
    subst (λ all. IsLeastSoFar all (c.loop-at.at + 1) c.least_of-least.result) c.self.view_is
    (subst (IsLeastSoFar (full_rows pairs rows) (c.loop-at.at + 1)) (sym c.least_of-least.ensures) next)

pub returns : goal.returns
returns c =
    let so_far = subst (λ all. IsLeastSoFar all c.loop-at.at c.loop-at.least) (sym c.self.view_is) c.loop-at.invariant in
    subst (λ all. MatchOption c.loop-at.least (IsTable key_cmp all) (IsLeastFall all)) c.self.view_is
    (fall_all c.self.inside.pairs.items c.self.inside.rows.items c.loop-at.at c.loop-at.least (omega (arith, c.loop-at-test.false, c.len-at-end.ensures)) so_far)
