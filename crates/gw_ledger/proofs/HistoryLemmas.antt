-- What one more record does to the history.
use Rattle.std.proofs.Common.{◌≡◌, refl, List, [], ◌∷◌, ◌++◌, append_assoc}
use Rattle.std.proofs.lemmas.List.{append-nil, reverse-append}
use Rattle.jrn_record.specs.declared.records.Record.{Record}
use Rattle.gw_ledger.specs.History.{placed_after, history}

placed_after-push : (before rest : List Record) (the_record : Record)
    → placed_after before (rest ++ the_record ∷ []) ≡ placed_after before rest ++ record { before = before ++ rest; the_record = the_record } ∷ []
placed_after-push before [] the_record = rw (append-nil before) refl
placed_after-push before (first ∷ rest) the_record =
    rw (placed_after-push (before ++ first ∷ []) rest the_record, append_assoc before (first ∷ []) rest) refl

-- one more record comes first in the history, with all the others before it
pub history-push : (records : List Record) (the_record : Record)
    → history (records ++ the_record ∷ []) ≡ record { before = records; the_record = the_record } ∷ history records
unfolding history
history-push records the_record = rw (placed_after-push [] records the_record, reverse-append (placed_after [] records) (record { before = records; the_record = the_record } ∷ [])) refl
