-- Arrays of tables, as they are read.
use Rattle.std.proofs.Common.{◌≡◌, ◌++◌, ◌∙◌, append_assoc, ℕ, ◌+◌, ◌<◌, ◌≤◌, Bool, ◌&&◌, if◌then◌else◌, List, [], ◌∷◌, length, drop, get_or, map, Option, Some, None, refl, ap, sym}
use Rattle.std.specs.Prelude.{is_some, option_map}
use Rattle.std.specs.List.{list_all, cons_option}
use Rattle.std.proofs.lemmas.List.{drop_all, drop_more, length-map, append-nil}
use Rattle.std.proofs.lemmas.List.Folds.{list_all-map}
use Rattle.toml.specs.declared.value.Value.{Value}
use Rattle.toml.specs.Data.{Data, Members, as_table}
use Rattle.toml.specs.View.{view, items_of, items_view}
use Rattle.gw_config.specs.Form.{is_from_to, array_values, tables_among}
use Rattle.gw_base.specs.declared.setup.Pt.{Pt}
use Rattle.gw_config.specs.declared.fault.ConfigFault.{ConfigFault}
use Rattle.gw_config.specs.declared.fault.ConfigFault.TheVariants.{Twice}
use Rattle.gw_config.specs.Faults.{terminal_fault, each_fault, pois_of, repeated_after, twice_fault}
use Rattle.gw_config.specs.Grammar.{IsPtOf, ArePtsOf}
use Rattle.gw_config.specs.inner.Decode.{tables_of}

pub array_values-elements : (values : List Data) → array_values (items_of values) ≡ values
array_values-elements [] = refl
array_values-elements (value ∷ values) = ap (λ rest. value ∷ rest) (array_values-elements values)

-- the tables of an array, by a test of its values
pub tables_among-value_of : (values : List Value) (test : Bool)
    → test ≡ (is_from_to 1 32 (length values) && list_all (λ value. is_some (as_table (view value))) values)
    → tables_among (array_values (items_view values)) ≡ (if test then Some (tables_of values) else None)
tables_among-value_of values test is =
    rw (array_values-elements (map view values), length-map, list_all-map (λ value. is_some (as_table value)) view values, is) refl

-- the tables from an index on: the one at the index, if there is a table, and those after it
pub tables_of-drop : (values : List Value) (i : ℕ) (d : Value) → i < length values
    → tables_of (drop i values) ≡ cons_option (as_table (view (get_or values i d))) (tables_of (drop (i + 1) values))
tables_of-drop values i d within = rw (drop_more values i d within)

-- these terminals were read of the values before an index, and no fault was met there
pub record IsReadUpTo (values : List Value) (i : ℕ) (pts : List Pt) : Type 0 where
  pub read : (rest : List Pt) → ArePtsOf (tables_of (drop i values)) rest → ArePtsOf (tables_of values) (pts ++ rest)
  pub fault : each_fault (tables_of (drop i values)) ≡ each_fault (tables_of values)

-- the values from an index on, where a table is at it
tables_from : (values : List Value) (i : ℕ) (value : Value) (table : Members) → i < length values
    → value ≡ get_or values i value → as_table (view value) ≡ Some table
    → tables_of (drop i values) ≡ table ∷ tables_of (drop (i + 1) values)
tables_from values i value table within there is = tables_of-drop values i value within ∙ rw (← there, is)

pub read_one : (values : List Value) (i : ℕ) (value : Value) (table : Members) (pts : List Pt) (pt : Pt) → i < length values
    → value ≡ get_or values i value → as_table (view value) ≡ Some table → terminal_fault table ≡ None → IsPtOf table pt
    → IsReadUpTo values i pts → IsReadUpTo values (i + 1) (pts ++ pt ∷ [])
read_one values i value table pts pt within there is sound reads so_far =
    let here = tables_from values i value table within there is in
    record {
      read = λ rest more. rw append_assoc (so_far.read (pt ∷ rest) (rw here (reads, more)));
      fault = rw (here, sound) at so_far.fault;
    }

pub pass_one : (values : List Value) (i : ℕ) (value : Value) (pts : List Pt) → i < length values
    → value ≡ get_or values i value → as_table (view value) ≡ None → IsReadUpTo values i pts → IsReadUpTo values (i + 1) pts
pass_one values i value pts within there is so_far =
    let same : tables_of (drop i values) ≡ tables_of (drop (i + 1) values) =
    tables_of-drop values i value within ∙ rw (← there, is) in
    record {
      read = λ rest more. so_far.read rest (rw same more);
      fault = rw same at so_far.fault;
    }

pub fault_at_one : (values : List Value) (i : ℕ) (value : Value) (table : Members) (pts : List Pt) (fault : ConfigFault)
    → i < length values → value ≡ get_or values i value → as_table (view value) ≡ Some table
    → terminal_fault table ≡ Some fault → IsReadUpTo values i pts → each_fault (tables_of values) ≡ Some fault
fault_at_one values i value table pts fault within there is here so_far =
    sym so_far.fault ∙ rw (tables_from values i value table within there is, here)

-- all values were read
pub all_read : (values : List Value) (i : ℕ) (pts : List Pt) → length values ≤ i → IsReadUpTo values i pts
    → (each_fault (tables_of values) ≡ None) × ArePtsOf (tables_of values) pts
all_read values i pts past so_far =
    let over : drop i values ≡ [] = drop_all i values past in
    (sym so_far.fault ∙ rw over, rw append-nil at (so_far.read [] (rw over tt)))

-- the POIIDs of tables are those of their terminals
pub pois_of-ArePtsOf : (tables : List Members) (pts : List Pt) → ArePtsOf tables pts → pois_of tables ≡ map (λ pt. pt.poi) pts
pois_of-ArePtsOf [] [] are = refl
pois_of-ArePtsOf [] (pt ∷ pts) are = absurd are
pois_of-ArePtsOf (table ∷ tables) [] are = absurd are
pois_of-ArePtsOf (table ∷ tables) (pt ∷ pts) are =
    rw are.0.poi (ap (λ pois. pt.poi ∷ pois) (pois_of-ArePtsOf tables pts are.1))

-- the POIID that is found to be repeated among terminals is the fault of their tables
pub twice_among : (tables : List Members) (pts : List Pt) (found : Option (List ℕ)) → ArePtsOf tables pts
    → found ≡ repeated_after [] (map (λ pt. pt.poi) pts) → twice_fault tables ≡ option_map Twice found
twice_among tables pts found are is = rw (pois_of-ArePtsOf tables pts are, is) refl
