-- Proof of the contract of `named`.
use Rattle.std.proofs.Common.{◌∙◌, ◌≤◌, length, ap, subst}
use Rattle.gw_ledger.proofs.NamedLemmas.{named_with_slot, named_without_slot}
use Rattle.gw_ledger.proofs.tables.Tables.named.Goals as goal

pub returns-in-Some : goal.returns-in-Some
returns-in-Some c =
    let few = subst (λ r. length r ≤ 1000000) (ap (λ v. v.records) c.self.view_is) c.self.invariant.0.few in
    c.named_at.ensures ∙ named_with_slot c.args.self.now.records few c.args.poi.now c.args.text.now c.slot_in.result c.slot_in.ensures c.in-Some.slot c.in-Some.is

pub returns-in-None : goal.returns-in-None
returns-in-None c =
    let few = subst (λ r. length r ≤ 1000000) (ap (λ v. v.records) c.self.view_is) c.self.invariant.0.few in
    named_without_slot c.args.self.now.records few c.args.poi.now c.args.text.now c.slot_in.result c.slot_in.ensures c.in-None.is
