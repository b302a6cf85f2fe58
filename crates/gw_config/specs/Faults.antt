-- The first fault of a document, in the order in which faults are looked for.
use Rattle.std.specs.Prelude.{ℕ, ◌≤◌, List, [], ◌∷◌, ◌++◌, length, map, filter, fold, not, nat_lt, Option, Some, None, option_map, unwrap_or, if◌then◌else◌}
use Rattle.std.specs.List.{list_any, flat_map, filter_map}
use Rattle.std.specs.Option.{option_or}
use Rattle.std.specs.Ordering.{nat_cmp, is_lt}
use Rattle.std.specs.Cmp.Lexicographic.{slice_cmp}
use Rattle.std.specs.Str.{bytes_eq}
use Rattle.toml.specs.Data.{Members, no_members, member}
use Rattle.gw_config.specs.declared.fault.ConfigFault.{ConfigFault}
use Rattle.gw_config.specs.declared.fault.ConfigFault.TheVariants.{Long, NotToml, Missing, Wrong, Twice, Memory}
use Rattle.gw_config.specs.Keys.{key_value, key_fault, listen_key, journal_key, name_key, line_key, wait_key, slots_key, terminal_key, document_names, poi_key, address_key, currency_key, password_key, config_key, none_key, answer_key, command_key, terminal_names, terminal_prefix}
use Rattle.gw_config.specs.Grammar.{document_of}

-- the first of these that there is
abbrev pub first_some : {X : Type 0} → List (Option X) → Option X
first_some [] = None
first_some (x ∷ xs) = option_or x (first_some xs)

-- ---- keys by their forms

-- what is wrong with each key of the document, in the order of its table
abbrev pub document_faults : Members → List (Option ConfigFault)
document_faults table =
    key_fault [] listen_key table ∷ key_fault [] journal_key table ∷ key_fault [] name_key table ∷ key_fault [] line_key table
    ∷ key_fault [] wait_key table ∷ key_fault [] slots_key table ∷ key_fault [] terminal_key table ∷ []

-- what is wrong with each key of a terminal, in the order of its table
abbrev pub terminal_faults : Members → List (Option ConfigFault)
terminal_faults table =
    key_fault terminal_prefix poi_key table ∷ key_fault terminal_prefix address_key table
    ∷ key_fault terminal_prefix currency_key table ∷ key_fault terminal_prefix password_key table
    ∷ key_fault terminal_prefix config_key table ∷ key_fault terminal_prefix none_key table
    ∷ key_fault terminal_prefix answer_key table ∷ key_fault terminal_prefix command_key table ∷ []

-- the first fault of a terminal's keys
abbrev pub terminal_fault : Members → Option ConfigFault
terminal_fault table = first_some (terminal_faults table)

-- the first fault of the keys of these terminals, one terminal after the other
abbrev pub each_fault : List Members → Option ConfigFault
each_fault tables = first_some (map terminal_fault tables)

-- ---- POIIDs

-- the first of these names that is one of those before it
abbrev pub repeated_after : List (List ℕ) → List (List ℕ) → Option (List ℕ)
repeated_after before [] = None
repeated_after before (name ∷ names) =
    if list_any (bytes_eq name) before then Some name else repeated_after (before ++ name ∷ []) names

-- the POIIDs of these terminals
abbrev pub pois_of : List Members → List (List ℕ)
pois_of tables = filter_map (key_value poi_key) tables

-- two terminals have one POIID
abbrev pub twice_fault : List Members → Option ConfigFault
twice_fault tables = option_map Twice (repeated_after [] (pois_of tables))

-- the first fault of these terminals: their keys come before their POIIDs
abbrev pub terminals_fault : List Members → Option ConfigFault
terminals_fault tables = first_some (each_fault tables ∷ twice_fault tables ∷ [])

-- ---- unknown keys

-- the names of a table's keys
abbrev pub keys_in : Members → List (List ℕ)
keys_in no_members = []
keys_in (member key value members) = key ∷ keys_in members

-- those of these keys that are none of the names
abbrev pub keys_outside : List (List ℕ) → List (List ℕ) → List (List ℕ)
keys_outside names keys = filter (λ key. not (list_any (bytes_eq key) names)) keys

-- the names of a table's keys that are none of these
abbrev pub unknown_keys : List (List ℕ) → Members → List (List ℕ)
unknown_keys names table = keys_outside names (keys_in table)

-- the smaller of two names by their bytes, where there is a first one
abbrev pub smaller : Option (List ℕ) → List ℕ → Option (List ℕ)
smaller None key = Some key
smaller (Some least) key = if is_lt (slice_cmp nat_cmp key least) then Some key else Some least

-- the smallest of these names by their bytes
abbrev pub smallest : List (List ℕ) → Option (List ℕ)
smallest keys = fold smaller None keys

-- one of these tables has a key that is none of these names; the smallest such key counts
abbrev pub unknown_fault : List ℕ → List (List ℕ) → List Members → Option ConfigFault
unknown_fault prefix names tables =
    option_map (λ key. Wrong (prefix ++ key)) (smallest (flat_map (unknown_keys names) tables))

-- the unknown keys of a document come before those of its terminals
abbrev pub unknown_faults : Members → List Members → Option ConfigFault
unknown_faults document terminals =
    first_some (unknown_fault [] document_names (document ∷ [])
    ∷ unknown_fault terminal_prefix terminal_names terminals ∷ [])

-- ---- a table and a document

-- the tables of a table's terminals
abbrev pub terminals_of : Members → List Members
terminals_of table = unwrap_or (key_value terminal_key table) []

-- the first fault of a table: its keys come before its terminals, and these before unknown keys
abbrev pub table_fault : Members → Option ConfigFault
table_fault table =
    first_some (document_faults table ++ terminals_fault (terminals_of table)
    ∷ unknown_faults table (terminals_of table) ∷ [])

-- the first fault of what may be a table; the offset in text that is no TOML isn't fixed, and is given as 0
abbrev pub document_fault : Option Members → Option ConfigFault
document_fault None = Some (NotToml 0)
document_fault (Some table) = table_fault table

-- how many bytes a document may have
abbrev pub document_limit : ℕ
document_limit = 65536

-- the first fault of a document, if it has one
abbrev pub fault_in : List ℕ → Option ConfigFault
fault_in bytes =
    if nat_lt document_limit (length bytes) then Some Long else document_fault (document_of bytes)

-- a fault, with 0 for the offset in text that is no TOML
abbrev pub without_offset : ConfigFault → ConfigFault
without_offset Long = Long
without_offset (NotToml offset) = NotToml 0
without_offset (Missing key) = Missing key
without_offset (Wrong key) = Wrong key
without_offset (Twice poi) = Twice poi
without_offset Memory = Memory

-- the offset of a fault lies within the bytes, where it has one
abbrev pub IsInsideOf : List ℕ → ConfigFault → Type 0
IsInsideOf bytes Long = Unit {0}
IsInsideOf bytes (NotToml offset) = offset ≤ length bytes
IsInsideOf bytes (Missing key) = Unit {0}
IsInsideOf bytes (Wrong key) = Unit {0}
IsInsideOf bytes (Twice poi) = Unit {0}
IsInsideOf bytes Memory = Unit {0}
