-- Proof of the contract of `found`.
use Rattle.std.proofs.Common.{◌≡◌, ◌∙◌, Option, Some, None, sym, ap}
use Rattle.std.specs.Prelude.{option_and_then}
use Rattle.std.specs.Ordering.{nat_cmp}
use Rattle.gw_ledger.specs.Table.{value_at}
use Rattle.jrn_record.specs.declared.records.Settled.{Settled as TheSettled}
use Rattle.jrn_record.specs.declared.records.Record.{Record}
use Rattle.jrn_record.specs.declared.records.Record.TheVariants.{Intent, Outcome, Settled}
use Rattle.gw_ledger.specs.Slots.{as_settled}
use Rattle.gw_ledger.proofs.tables.Tables.found.Goals as goal

settled_is : (the_record : Option Record) (settled : TheSettled) → option_and_then as_settled the_record ≡ Some settled → the_record ≡ Some (Settled settled)
settled_is None settled found = cc
settled_is (Some (Intent intent)) settled found = cc
settled_is (Some (Outcome outcome)) settled found = cc
settled_is (Some (Settled other)) settled found = cc

none_isnt_some : {V : Type 0} {v : V} → None ≡ Some v → ⊥
none_isnt_some same = cc

pub unreachable-requires : goal.unreachable-requires
unreachable-requires c =
    let tables = c.self.invariant.0 in
    let at = settled_is _ _ (sym c.settled_at.ensures ∙ c.in-Some.is) in
    let found = tables.closings_are c.args.slot c.in-Some.settled at in
    let got = sym c.in-None-get.is ∙ c.get.ensures ∙ ap (λ rows. value_at nat_cmp rows c.args.slot) c.deref.ensures.value ∙ found in
    none_isnt_some got
