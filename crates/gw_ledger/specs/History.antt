-- The records in their order: each with those before it.
use Rattle.std.specs.Prelude.{ℕ, Bool, List, [], ◌∷◌, ◌++◌, reverse}
use Rattle.std.specs.Ordering.{is_eq, nat_cmp}
use Rattle.std.specs.Cmp.Lexicographic.{slice_cmp}
use Rattle.jrn_record.specs.declared.records.Record.{Record}

-- a record, and the records before it
pub record Placed : Type 0 where
  pub before : List Record
  pub the_record : Record

-- the records that come after `before`, each with all those before it
abbrev pub placed_after : List Record → List Record → List Placed
placed_after before [] = []
placed_after before (the_record ∷ rest) = record { before = before; the_record = the_record } ∷ placed_after (before ++ the_record ∷ []) rest

-- each record with those before it, the newest first
unfoldable pub history : List Record → List Placed
history records = reverse (placed_after [] records)

-- two texts are the same
abbrev pub same_text : List ℕ → List ℕ → Bool
same_text a b = is_eq (slice_cmp nat_cmp a b)
