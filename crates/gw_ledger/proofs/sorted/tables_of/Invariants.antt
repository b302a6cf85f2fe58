-- What the loop of `tables_of` keeps.
use Rattle.std.proofs.Common.{◌≡◌, map, take}
use Rattle.jrn_record.specs.Grammar.{record_body}
use Rattle.gw_ledger.proofs.sorted.tables_of.Given as goal

abbrev pub invariant-loop-body : goal.invariant-loop-body
invariant-loop-body l = map record_body l.tables.records ≡ take l.body-index l.fn.bodies
