-- Proof of the contract of `search`.
use Rattle.std.proofs.Common.{rules}
use Rattle.std.specs.Prelude.{slice_get}
use Rattle.std.proofs.lemmas.Fn.{always_returns_same}
use Rattle.gw_ledger.specs.KeyTable.{compare_record}
use Rattle.gw_ledger.proofs.KeyTableLemmas.{searched_slots}
use Rattle.gw_ledger.proofs.keys.search.Goals as goal

pub returns : goal.returns
returns c =
    let facts = c.binary_search_by.ensures in
    let found = facts.position (λ slot. compare_record (slice_get c.args.tables.now.records slot) c.args.key.now) (always_returns_same _ _ _ (λ a r f called. search rules)) in
    let both = searched_slots c.args.tables.now.records c.args.slots.now c.requires.keyed c.args.key.now c.requires.table _ facts.bound found in
    record { found = both.0; absent = both.1 }
