-- Proof of the contract of `tables_of`.
use Rattle.std.proofs.Common.{◌≡◌, ◌<◌, ℕ, List, [], length, get_or, sym, ap, subst, arith}
use Rattle.gw_ledger.specs.Fold.{AreFirstBodiesOf, IsBodyAdded, IsRefusedBesideKey}
use Rattle.gw_ledger.proofs.BodyLemmas.{first_all, first_until, get_found, one_added}
use Rattle.gw_ledger.proofs.sorted.tables_of.Goals as goal

pub returns : goal.returns
returns c =
    let len : length c.as_slice-body-items.result.now ≡ length c.args.bodies.now = ap length c.as_slice-body-items.ensures in
    first_all c.args.bodies.now c.loop-body.tables.records c.loop-body.body-index c.loop-body.invariant (omega (arith, c.loop-body-test.false, len))

pub returns-then-not-branch : goal.returns-then-not-branch
returns-then-not-branch c =
    let inside = subst (λ (all : List (List ℕ)). c.loop-body.body-index < length all) c.as_slice-body-items.ensures c.loop-body-test.true in
    let refused = subst (λ (all : List (List ℕ)). IsRefusedBesideKey c.loop-body.tables.records (get_or all c.loop-body.body-index [])) c.as_slice-body-items.ensures
    (c.in_ok-take_body.ensures.cause c.if-not-branch.true) in
    subst (AreFirstBodiesOf c.args.bodies.now) (sym (c.in_ok-take_body.ensures.refused c.if-not-branch.true))
    (first_until c.args.bodies.now c.loop-body.tables.records c.loop-body.body-index [] c.loop-body.invariant inside refused)

pub loop-body-preserved : goal.loop-body-preserved
loop-body-preserved c =
    let bodies = c.args.bodies.now in
    let index = c.loop-body.body-index in
    let inside = subst (λ (all : List (List ℕ)). index < length all) c.as_slice-body-items.ensures c.loop-body-test.true in
    let added = subst (λ (all : List (List ℕ)). IsBodyAdded c.loop-body.tables.records (get_or all index []) c.take_body.new.self.records) c.as_slice-body-items.ensures
    (c.in_ok-take_body.ensures.added c.if-not-branch.false) in
    one_added bodies c.loop-body.tables.records c.take_body.new.self.records index (get_or bodies index []) (get_found bodies index [] inside) c.loop-body.invariant added
