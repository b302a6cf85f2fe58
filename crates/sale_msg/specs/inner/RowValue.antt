-- Inner: the rows of the program's tables as plain data.
use Rattle.std.specs.Prelude.{◌≡◌, ℕ, ◌+◌, ◌≤◌, ◌&&◌, nat_le, Bool, true, List, [], ◌∷◌, ◌++◌, Option, Some, option_map, map, length, get_or, bytes_eq, All}
use Rattle.std.specs.Borrow.{Bor}
use Rattle.std.specs.Cmp.Lexicographic.{pointwise}
use Rattle.std.specs.List.{list_all, slice_split}
use Rattle.json_text.specs.Tree.{Tree}
use Rattle.json_text.specs.ValueOf.{value_of}
use Rattle.json_text.specs.declared.tree.Json.{Json}
use Rattle.sale_msg.specs.Path.{is_point, tree_at}
use Rattle.sale_msg.specs.Table.{MemberRow, part_rows, rows_of}
use Rattle.sale_msg.specs.Flaw.{AreMet}
use Rattle.sale_msg.specs.Grammar.{parts_of}
use Rattle.sale_msg.specs.declared.category.Category.{Category}
use Rattle.sale_msg.specs.declared.table.MemberRow.{MemberRow as ProgramRow}

-- the row as plain data
abbrev pub row_value : ProgramRow → MemberRow
row_value row = record { within = row.within.now; path = row.path.now; presence = row.presence; form = row.form }

-- whether the bytes are 1 to 100 printable ones, as those of a path in a fault are
abbrev pub is_path : List ℕ → Bool
is_path bytes = nat_le 1 (length bytes) && nat_le (length bytes) 100 && list_all (λ byte. nat_le 0x20 byte && nat_le byte 0x7E) bytes

-- the names that lead to the row's member from where it is looked for
abbrev pub own_names : ProgramRow → List (List ℕ)
own_names row = map (λ name. name.now) row.names.now

-- the names that lead to the row's member from the table's object
abbrev pub all_names : ProgramRow → List (List ℕ)
all_names row = slice_split is_point row.within.now

-- whether each row's names are those of the row of its parent's number, after the earlier ones, and then its own
abbrev pub have_parents : List (List (List ℕ)) → List ProgramRow → Bool
have_parents earlier [] = true
have_parents earlier (row ∷ rows) =
    nat_le (row.parent + 1) (length earlier)
    && (pointwise bytes_eq (all_names row) (get_or earlier row.parent [] ++ own_names row)
    && have_parents (earlier ++ all_names row ∷ []) rows)

-- the rows of a table that members can be looked for by: each one's parent is an earlier row, or the table's object
pub record HaveParents (rows : List ProgramRow) : Type 0 where
  pub few : length rows ≤ 12
  pub linked : have_parents ([] ∷ []) rows ≡ true

-- the member that was looked for, as plain data
abbrev pub member_value : Option (Bor Json) → Option Tree
member_value member = option_map (λ v. value_of v.now) member

-- the table's object, and then what is at the path of each row
abbrev pub values_at : List MemberRow → Tree → List (Option Tree)
values_at table tree = Some tree ∷ map (λ row. tree_at row.within tree) table

-- these were found in an object that meets each row of the table
pub record AreFound (table : List MemberRow) (tree : Tree) (values : List (Option Tree)) : Type 0 where
  pub met : AreMet table tree
  pub are : values ≡ values_at table tree

-- these were found in a body object that holds each member of this category's tables
pub record IsBodyFound (category : Category) (body : Tree) (values : List (Option Tree)) : Type 0 where
  pub found : AreFound (rows_of category) body values
  pub parts : All (AreMet (part_rows category)) (parts_of category body)

-- the program's rows are this table, its members can be looked for by them, and their paths fit a fault
pub record IsTableOf (rows : List ProgramRow) (table : List MemberRow) : Type 0 where
  pub rows_are : map row_value rows ≡ table
  pub links : HaveParents rows
  pub paths : list_all (λ (row : ProgramRow). is_path row.path.now) rows ≡ true
