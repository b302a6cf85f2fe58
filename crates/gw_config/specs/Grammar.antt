-- The setup that a table is, and the setup that a document is.
use Rattle.std.specs.Prelude.{◌≡◌, ℕ, List, Option, Some, None, if◌then◌else◌}
use Rattle.std.specs.List.{AllZip}
use Rattle.std.specs.Str.{is_utf8}
use Rattle.toml.specs.Data.{Members}
use Rattle.toml.specs.Parse.{parse_document}
use Rattle.gw_base.specs.declared.setup.Pt.{Pt}
use Rattle.gw_base.specs.declared.setup.Setup.{Setup}
use Rattle.gw_config.specs.Keys.{key_value, listen_key, journal_key, name_key, line_key, wait_key, slots_key, terminal_key, poi_key, address_key, currency_key, password_key, config_key, none_key, answer_key, command_key}

-- each part of a terminal's setup is what its key says
pub record IsPtOf (table : Members) (pt : Pt) : Type 0 where
  pub poi : key_value poi_key table ≡ Some pt.poi
  pub address : key_value address_key table ≡ Some pt.address
  pub currency : key_value currency_key table ≡ Some pt.currency
  pub password : key_value password_key table ≡ Some pt.password
  pub config : key_value config_key table ≡ Some pt.config
  pub none : key_value none_key table ≡ Some pt.none
  pub answer : key_value answer_key table ≡ Some pt.answer
  pub command : key_value command_key table ≡ Some pt.command

-- these terminals are those of these tables, in their order
abbrev pub ArePtsOf : List Members → List Pt → Type 0
ArePtsOf tables pts = AllZip IsPtOf tables pts

-- each part of a setup is what its key says
pub record IsSetupOf (table : Members) (setup : Setup) : Type 0 where
  pub listen : key_value listen_key table ≡ Some setup.listen
  pub journal : key_value journal_key table ≡ Some setup.journal
  pub name : key_value name_key table ≡ Some setup.name
  pub line : key_value line_key table ≡ Some setup.line
  pub wait : key_value wait_key table ≡ Some setup.wait
  pub slots : key_value slots_key table ≡ Some setup.slots
  pub terminals : (tables : List Members) × (key_value terminal_key table ≡ Some tables) × ArePtsOf tables setup.terminals

-- the table that bytes are, if they are TOML, which is text in UTF-8
abbrev pub document_of : List ℕ → Option Members
document_of bytes = if is_utf8 bytes then parse_document bytes else None

-- the setup that bytes are
abbrev pub IsSetupIn : List ℕ → Setup → Type 0
IsSetupIn bytes setup = (table : Members) × (document_of bytes ≡ Some table) × IsSetupOf table setup
