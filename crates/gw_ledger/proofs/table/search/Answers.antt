-- Proof of the contract of `search`.
use Rattle.std.proofs.Common.{rules}
use Rattle.std.proofs.lemmas.List.Sorted.{answers_always}
use Rattle.gw_ledger.proofs.TableLemmas.{searched}
use Rattle.gw_ledger.proofs.table.search.Goals as goal

pub returns : goal.returns
returns g c =
    let facts = c.binary_search_by_key.ensures in
    let by_key = facts.position (λ row. row.0) (answers_always _ _ _ (λ f a r h called. search rules)) in
    let both = searched g.met.K.Ord.total _ c.requires c.args.key.now _ facts.bound by_key in
    record { found = both.0; absent = both.1 }
