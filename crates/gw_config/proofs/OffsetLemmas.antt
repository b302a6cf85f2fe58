-- No fault of a table has an offset.
use Rattle.std.proofs.Common.{◌≡◌, ℕ, Bool, true, false, if◌then◌else◌, List, [], ◌∷◌, ◌++◌, length, Option, Some, None, Result, Ok, Err, refl, sym, ap, ◌∙◌, arith}
use Rattle.std.specs.Prelude.{◌≢◌, is_some, option_map, IfErr, MatchResult, nat_lt}
use Rattle.std.specs.List.{flat_map}
use Rattle.std.specs.Option.{option_or}
use Rattle.toml.specs.Data.{Data, Members, get_member}
use Rattle.gw_base.specs.declared.setup.Setup.{Setup}
use Rattle.gw_config.specs.declared.fault.ConfigFault.{ConfigFault}
use Rattle.gw_config.specs.declared.fault.ConfigFault.TheVariants.{Long, NotToml, Missing, Wrong, Twice, Memory}
use Rattle.gw_config.specs.Keys.{KeyRule, fault_by, listen_key, journal_key, name_key, line_key, wait_key, slots_key, terminal_key, document_names, poi_key, address_key, currency_key, password_key, config_key, none_key, answer_key, command_key, terminal_names, terminal_prefix}
use Rattle.gw_config.specs.Grammar.{document_of}
use Rattle.gw_config.specs.Faults.{terminal_fault, each_fault, terminals_fault, smallest, repeated_after, pois_of, unknown_keys, unknown_fault, terminals_of, table_fault, document_limit, fault_in, without_offset, IsInsideOf}
use Rattle.gw_config.specs.inner.Decode.{Reports}

-- the fault, if there is one, has no offset
abbrev HasNone : Option ConfigFault → Type 0
HasNone None = Unit {0}
HasNone (Some fault) = without_offset fault ≡ fault

has_none-or : (first rest : Option ConfigFault) → HasNone first → HasNone rest → HasNone (option_or first rest)
has_none-or None rest a b = b
has_none-or (Some fault) rest a b = a

has_none-if : (test : Bool) (fault : ConfigFault) → without_offset fault ≡ fault → HasNone (if test then None else Some fault)
has_none-if true fault same = tt
has_none-if false fault same = same

has_none-key : {X : Type 0} (key : List ℕ) (rule : KeyRule X) (found : Option Data) → HasNone (fault_by key rule found)
has_none-key key rule None = has_none-if (is_some rule.absent) (Missing key) refl
has_none-key key rule (Some value) = has_none-if (is_some (rule.form value)) (Wrong key) refl

has_none-map : (fault : List ℕ → ConfigFault) (found : Option (List ℕ)) → ((name : List ℕ) → without_offset (fault name) ≡ fault name) → HasNone (option_map fault found)
has_none-map fault None same = tt
has_none-map fault (Some name) same = same name

has_none-terminal : (table : Members) → HasNone (terminal_fault table)
has_none-terminal table =
    has_none-or _ _ (has_none-key _ poi_key (get_member poi_key.name table))
    (has_none-or _ _ (has_none-key _ address_key (get_member address_key.name table))
    (has_none-or _ _ (has_none-key _ currency_key (get_member currency_key.name table))
    (has_none-or _ _ (has_none-key _ password_key (get_member password_key.name table))
    (has_none-or _ _ (has_none-key _ config_key (get_member config_key.name table))
    (has_none-or _ _ (has_none-key _ none_key (get_member none_key.name table))
    (has_none-or _ _ (has_none-key _ answer_key (get_member answer_key.name table))
    (has_none-or _ None (has_none-key _ command_key (get_member command_key.name table)) tt)))))))

has_none-each : (tables : List Members) → HasNone (each_fault tables)
has_none-each [] = tt
has_none-each (table ∷ tables) = has_none-or _ _ (has_none-terminal table) (has_none-each tables)

has_none-terminals : (tables : List Members) → HasNone (terminals_fault tables)
has_none-terminals tables =
    has_none-or _ _ (has_none-each tables)
    (has_none-or _ None (has_none-map Twice (repeated_after [] (pois_of tables)) (λ poi. refl)) tt)

has_none-unknown : (prefix : List ℕ) (names : List (List ℕ)) (tables : List Members) → HasNone (unknown_fault prefix names tables)
has_none-unknown prefix names tables =
    has_none-map (λ key. Wrong (prefix ++ key)) (smallest (flat_map (unknown_keys names) tables)) (λ key. refl)

pub has_none-table : (table : Members) → HasNone (table_fault table)
has_none-table table =
    has_none-or _ _ (has_none-key _ listen_key (get_member listen_key.name table))
    (has_none-or _ _ (has_none-key _ journal_key (get_member journal_key.name table))
    (has_none-or _ _ (has_none-key _ name_key (get_member name_key.name table))
    (has_none-or _ _ (has_none-key _ line_key (get_member line_key.name table))
    (has_none-or _ _ (has_none-key _ wait_key (get_member wait_key.name table))
    (has_none-or _ _ (has_none-key _ slots_key (get_member slots_key.name table))
    (has_none-or _ _ (has_none-key _ terminal_key (get_member terminal_key.name table))
    (has_none-or _ _ (has_none-terminals (terminals_of table))
    (has_none-or _ None
    (has_none-or _ _ (has_none-unknown [] document_names (table ∷ []))
    (has_none-or _ None (has_none-unknown terminal_prefix terminal_names (terminals_of table)) tt)) tt))))))))

-- ---- the fault of a table is that of its document

at_table : (table : Members) (fault : ConfigFault) → table_fault table ≡ Some fault → without_offset fault ≡ fault
at_table table fault is = rw is at (has_none-table table)

in_document : (bytes : List ℕ) (table : Members) → nat_lt document_limit (length bytes) ≡ false → document_of bytes ≡ Some table → fault_in bytes ≡ table_fault table
in_document bytes table within is = rw (within, is) refl

inside : (bytes : List ℕ) (fault : ConfigFault) → without_offset fault ≡ fault → IsInsideOf bytes fault
inside bytes Long same = tt
inside bytes (NotToml offset) same = omega (arith, offset_is offset same)
  where
    offset_is : (offset : ℕ) → NotToml 0 ≡ NotToml offset → offset ≡ 0
    offset_is offset same = cc
inside bytes (Missing key) same = tt
inside bytes (Wrong key) same = tt
inside bytes (Twice poi) same = tt
inside bytes Memory same = tt

pub reported : (bytes : List ℕ) (table : Members) (P : Setup → Type 0) (result : Result Setup ConfigFault) → nat_lt document_limit (length bytes) ≡ false
    → document_of bytes ≡ Some table → MatchResult result P (Reports (table_fault table))
    → IfErr result (λ fault. fault ≢ Memory → fault_in bytes ≡ Some (without_offset fault))
reported bytes table P (Ok setup) within is read = tt
reported bytes table P (Err fault) within is read = λ other.
    in_document bytes table within is ∙ read other ∙ ap (λ (f : ConfigFault). Some f) (sym (at_table table fault (read other)))

pub reported_inside : (bytes : List ℕ) (table : Members) (P : Setup → Type 0) (result : Result Setup ConfigFault)
    → MatchResult result P (Reports (table_fault table)) → IfErr result (IsInsideOf bytes)
reported_inside bytes table P (Ok setup) read = tt
reported_inside bytes table P (Err fault) read = of_fault fault read
  where
    of_fault : (fault : ConfigFault) → Reports (table_fault table) fault → IsInsideOf bytes fault
    of_fault Long read = tt
    of_fault (NotToml offset) read = inside bytes (NotToml offset) (at_table table (NotToml offset) (read (λ same. cc)))
    of_fault (Missing key) read = tt
    of_fault (Wrong key) read = tt
    of_fault (Twice poi) read = tt
    of_fault Memory read = tt
