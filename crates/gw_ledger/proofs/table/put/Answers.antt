-- Proof of the contract of `put`.
use Rattle.std.proofs.Common.{◌∙◌, sym, ap, subst}
use Rattle.gw_ledger.specs.Table.{IsGapFor, IsRowOf, IsTable, value_at}
use Rattle.gw_ledger.proofs.TableLemmas.{value_absent, none_has_value, table_set, values_set_row, table_insert, values_insert_row}
use Rattle.gw_ledger.proofs.table.put.Goals as goal

pub insert_at-requires-clause-room : goal.insert_at-requires-clause-room
insert_at-requires-clause-room g c =
    let gap = subst (λ rows. IsGapFor g.K.Ord.cmp rows c.args.key c.in-Err.at) c.deref.ensures.value c.in-Err.ensures.absent in
    c.requires.room (value_absent g.met.K.Ord.total _ _ _ gap)

pub returns-in-Ok-clause-table : goal.returns-in-Ok-clause-table
returns-in-Ok-clause-table g c =
    let row = subst (λ rows. IsRowOf g.K.Ord.cmp rows c.args.key c.in-Ok.at) c.deref.ensures.value c.in-Ok.ensures.found in
    table_set g.met.K.Ord.total _ c.requires.table _ _ row _

pub returns-in-Ok-clause-values : goal.returns-in-Ok-clause-values
returns-in-Ok-clause-values g c q =
    let row = subst (λ rows. IsRowOf g.K.Ord.cmp rows c.args.key c.in-Ok.at) c.deref.ensures.value c.in-Ok.ensures.found in
    values_set_row g.met.K.Ord.total _ c.requires.table _ _ row _ q

pub returns-in-Err-clause-table : goal.returns-in-Err-clause-table
returns-in-Err-clause-table g c =
    let gap = subst (λ rows. IsGapFor g.K.Ord.cmp rows c.args.key c.in-Err.at) c.deref.ensures.value c.in-Err.ensures.absent in
    subst (IsTable g.K.Ord.cmp) (sym c.insert_at.ensures.inserted) (table_insert g.met.K.Ord.total _ _ _ gap c.requires.table _)

pub returns-in-Err-clause-values : goal.returns-in-Err-clause-values
returns-in-Err-clause-values g c q =
    let gap = subst (λ rows. IsGapFor g.K.Ord.cmp rows c.args.key c.in-Err.at) c.deref.ensures.value c.in-Err.ensures.absent in
    ap (λ rows. value_at g.K.Ord.cmp rows q) c.insert_at.ensures.inserted ∙ values_insert_row g.met.K.Ord.total _ _ _ gap _ q

pub returns-in-Err-clause-same_len : goal.returns-in-Err-clause-same_len
returns-in-Err-clause-same_len g c found =
    let gap = subst (λ rows. IsGapFor g.K.Ord.cmp rows c.args.key c.in-Err.at) c.deref.ensures.value c.in-Err.ensures.absent in
    absurd (none_has_value _ (value_absent g.met.K.Ord.total _ _ _ gap) found)
