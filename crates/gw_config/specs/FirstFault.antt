-- The first fault of a document, in words of the format: it is there, and nothing is wrong with what is looked at before it; `Faults` computes it.
use Rattle.std.specs.Prelude.{◌≡◌, ℕ, ◌<◌, ◌≤◌, ◌⊎◌, List, [], ◌∷◌, ◌++◌, length, IsTrue, Option, Some, None}
use Rattle.std.specs.List.{flat_map}
use Rattle.std.specs.Ordering.{nat_cmp, is_lt}
use Rattle.std.specs.Cmp.Lexicographic.{slice_cmp}
use Rattle.toml.specs.Data.{Members}
use Rattle.gw_config.specs.declared.fault.ConfigFault.{ConfigFault}
use Rattle.gw_config.specs.declared.fault.ConfigFault.TheVariants.{Long, NotToml, Wrong, Twice}
use Rattle.gw_config.specs.Keys.{document_names, terminal_names, terminal_prefix}
use Rattle.gw_config.specs.Grammar.{document_of}
use Rattle.gw_config.specs.Faults.{document_faults, terminal_faults, pois_of, keys_in, unknown_keys, terminals_of, document_limit}

-- ---- keys by their forms

-- nothing is wrong with any of these
abbrev pub AreFaultless : List (Option ConfigFault) → Type 0
AreFaultless [] = Unit {0}
AreFaultless (fault ∷ others) = (fault ≡ None) × AreFaultless others

-- this is wrong with one of these, and nothing with those before it
abbrev pub IsFirstOf : List (Option ConfigFault) → ConfigFault → Type 0
IsFirstOf key_faults fault = (before : List (Option ConfigFault)) × (after : List (Option ConfigFault))
    × (key_faults ≡ before ++ Some fault ∷ after) × AreFaultless before

-- nothing is wrong with any key of these terminals
abbrev pub HaveFaultlessKeys : List Members → Type 0
HaveFaultlessKeys [] = Unit {0}
HaveFaultlessKeys (table ∷ tables) = AreFaultless (terminal_faults table) × HaveFaultlessKeys tables

-- this is the first that is wrong with the keys of one of these terminals, and nothing with those of the terminals before it
abbrev pub IsFirstOfTerminals : List Members → ConfigFault → Type 0
IsFirstOfTerminals tables fault = (before : List Members) × (table : Members) × (after : List Members)
    × (tables ≡ before ++ table ∷ after) × HaveFaultlessKeys before × IsFirstOf (terminal_faults table) fault

-- ---- names

-- the name is one of these
abbrev pub IsAmong : List (List ℕ) → List ℕ → Type 0
IsAmong [] name = ⊥
IsAmong (other ∷ others) name = (name ≡ other) ⊎ IsAmong others name

-- no two of these names are the same
abbrev pub AllDiffer : List (List ℕ) → Type 0
AllDiffer [] = Unit {0}
AllDiffer (name ∷ names) = (¬ IsAmong names name) × AllDiffer names

-- the name is one of those before it, and no two of those are the same
abbrev pub IsFirstRepeated : List (List ℕ) → List ℕ → Type 0
IsFirstRepeated names name = (before : List (List ℕ)) × (after : List (List ℕ))
    × (names ≡ before ++ name ∷ after) × IsAmong before name × AllDiffer before

-- a terminal has the POIID of one before it
abbrev pub IsRepeatedPoi : List Members → ConfigFault → Type 0
IsRepeatedPoi tables fault = (poi : List ℕ) × (fault ≡ Twice poi) × IsFirstRepeated (pois_of tables) poi

-- a name comes before another by its bytes
abbrev pub IsBeforeByBytes : List ℕ → List ℕ → Type 0
IsBeforeByBytes name other = IsTrue (is_lt (slice_cmp nat_cmp name other))

-- the name is one of these, and none of them comes before it by its bytes
abbrev pub IsSmallestOf : List (List ℕ) → List ℕ → Type 0
IsSmallestOf names name = IsAmong names name × ((other : List ℕ) → IsAmong names other → ¬ IsBeforeByBytes other name)

-- each key of these tables is among these names
abbrev pub HaveKnownKeys : List (List ℕ) → List Members → Type 0
HaveKnownKeys names tables = (key : List ℕ) → IsAmong (flat_map keys_in tables) key → IsAmong names key

-- of the keys of these tables that have none of these names, the smallest is reported, by its full name
abbrev pub IsUnknownKey : List ℕ → List (List ℕ) → List Members → ConfigFault → Type 0
IsUnknownKey prefix names tables fault = (key : List ℕ) × (fault ≡ Wrong (prefix ++ key))
    × IsSmallestOf (flat_map (unknown_keys names) tables) key

-- ---- a table and a document

-- the keys of the document, the keys of its terminals, and their POIIDs have no fault
pub record HasFaultlessSetup (table : Members) : Type 0 where
  pub keys : AreFaultless (document_faults table)
  pub terminals : HaveFaultlessKeys (terminals_of table)
  pub pois : AllDiffer (pois_of (terminals_of table))

-- nothing is wrong with a table
pub record IsFaultlessTable (table : Members) : Type 0 where
  pub setup : HasFaultlessSetup table
  pub known : HaveKnownKeys document_names (table ∷ [])
  pub terminals_known : HaveKnownKeys terminal_names (terminals_of table)

-- the first fault of a table: a row for each kind of fault, with what comes before it
pub data IsFirstFault : Members → ConfigFault → Type 0 where
  -- a key of the document
  DocumentKey : {table : Members} {fault : ConfigFault} → IsFirstOf (document_faults table) fault → IsFirstFault table fault
  -- a key of a terminal
  TerminalKey : {table : Members} {fault : ConfigFault}
      → AreFaultless (document_faults table) → IsFirstOfTerminals (terminals_of table) fault → IsFirstFault table fault
  -- two terminals of one POIID
  RepeatedPoi : {table : Members} {fault : ConfigFault}
      → AreFaultless (document_faults table) → HaveFaultlessKeys (terminals_of table)
      → IsRepeatedPoi (terminals_of table) fault → IsFirstFault table fault
  -- a key of the document that isn't in its table
  UnknownKey : {table : Members} {fault : ConfigFault}
      → HasFaultlessSetup table → IsUnknownKey [] document_names (table ∷ []) fault → IsFirstFault table fault
  -- a key of a terminal that isn't in its table
  UnknownTerminalKey : {table : Members} {fault : ConfigFault}
      → HasFaultlessSetup table → HaveKnownKeys document_names (table ∷ [])
      → IsUnknownKey terminal_prefix terminal_names (terminals_of table) fault → IsFirstFault table fault

-- the first fault of a document: it is too long, else it is no TOML, else it is the first of its table; the offset in text
-- that is no TOML isn't fixed, and is given as 0
pub data IsFirstDocumentFault : List ℕ → ConfigFault → Type 0 where
  TooLong : {bytes : List ℕ} → document_limit < length bytes → IsFirstDocumentFault bytes Long
  NoToml : {bytes : List ℕ} → length bytes ≤ document_limit → document_of bytes ≡ None → IsFirstDocumentFault bytes (NotToml 0)
  OfTable : {bytes : List ℕ} {fault : ConfigFault} (table : Members)
      → length bytes ≤ document_limit → document_of bytes ≡ Some table → IsFirstFault table fault → IsFirstDocumentFault bytes fault

-- nothing is wrong with a document: it isn't too long, it is TOML, and nothing is wrong with its table
abbrev pub IsFaultlessDocument : List ℕ → Type 0
IsFaultlessDocument bytes = (length bytes ≤ document_limit) × (table : Members) × (document_of bytes ≡ Some table) × IsFaultlessTable table
