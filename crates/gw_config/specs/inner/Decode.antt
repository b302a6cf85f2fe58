-- What the private readers give: what a key says, or the fault that is looked for first.
use Rattle.std.specs.Prelude.{◌≡◌, ◌≢◌, ℕ, List, [], ◌∷◌, map, Option, Some, None}
use Rattle.std.specs.List.{filter_map}
use Rattle.toml.specs.Data.{Members, as_table}
use Rattle.toml.specs.View.{view}
use Rattle.toml.specs.declared.value.Value.{Value}
use Rattle.gw_base.specs.declared.setup.Pt.{Pt}
use Rattle.gw_config.specs.declared.fault.ConfigFault.{ConfigFault}
use Rattle.gw_config.specs.declared.fault.ConfigFault.TheVariants.{Memory}
use Rattle.gw_config.specs.Keys.{KeyRule, key_value, key_fault, line_key, wait_key, slots_key, terminal_key, currency_key, password_key, config_key, none_key, answer_key, command_key}
use Rattle.gw_config.specs.Faults.{terminals_fault, terminals_of, unknown_faults}
use Rattle.gw_config.specs.Grammar.{ArePtsOf}
use Rattle.gw_config.specs.declared.document.Limits.{Limits}
use Rattle.gw_config.specs.declared.terminal.Manner.{Manner}

-- the key has no fault, and says this
pub record GivesValue {X : Type 0} (prefix : List ℕ) (rule : KeyRule X) (table : Members) (said : X) : Type 0 where
  pub sound : key_fault prefix rule table ≡ None
  pub value : key_value rule table ≡ Some said

-- the fault is that one, unless memory ran out
abbrev pub Reports : Option ConfigFault → ConfigFault → Type 0
Reports first fault = fault ≢ Memory → first ≡ Some fault

-- the tables among these values, in their order
abbrev pub tables_of : List Value → List Members
tables_of values = filter_map as_table (map view values)

-- what is wrong with each key of a document's limits
abbrev pub limit_faults : List ℕ → Members → List (Option ConfigFault)
limit_faults prefix table = key_fault prefix line_key table ∷ key_fault prefix wait_key table ∷ key_fault prefix slots_key table ∷ []

-- each limit is what its key says
pub record AreLimitsOf (table : Members) (limits : Limits) : Type 0 where
  pub line : key_value line_key table ≡ Some limits.line
  pub wait : key_value wait_key table ≡ Some limits.wait
  pub slots : key_value slots_key table ≡ Some limits.slots

-- what is wrong with the tables of a document's terminals, and then with keys that aren't known
abbrev pub terminal_table_faults : List ℕ → Members → List (Option ConfigFault)
terminal_table_faults prefix table = key_fault prefix terminal_key table ∷ terminals_fault (terminals_of table) ∷ unknown_faults table (terminals_of table) ∷ []

-- these terminals are those of the tables that a document has
abbrev pub AreTerminalsOf : Members → List Pt → Type 0
AreTerminalsOf table pts = (tables : List Members) × (key_value terminal_key table ≡ Some tables) × ArePtsOf tables pts

-- what is wrong with each key of how a terminal is spoken to
abbrev pub manner_faults : List ℕ → Members → List (Option ConfigFault)
manner_faults prefix table =
    key_fault prefix currency_key table ∷ key_fault prefix password_key table ∷ key_fault prefix config_key table
    ∷ key_fault prefix none_key table ∷ key_fault prefix answer_key table ∷ key_fault prefix command_key table ∷ []

-- each part of how a terminal is spoken to is what its key says
pub record IsMannerOf (table : Members) (manner : Manner) : Type 0 where
  pub currency : key_value currency_key table ≡ Some manner.currency
  pub password : key_value password_key table ≡ Some manner.password
  pub config : key_value config_key table ≡ Some manner.config
  pub none : key_value none_key table ≡ Some manner.none
  pub answer : key_value answer_key table ≡ Some manner.answer
  pub command : key_value command_key table ≡ Some manner.command
