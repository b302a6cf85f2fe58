-- The keys of a configuration: the name of each, the form of its value, and what holds where it is absent.
use Rattle.std.specs.Prelude.{ℕ, List, [], ◌∷◌, ◌++◌, Option, Some, None, codes, is_some, if◌then◌else◌}
use Rattle.toml.specs.Data.{Data, Members, get_member}
use Rattle.gw_base.specs.declared.currency.Currency.{Currency}
use Rattle.gw_config.specs.Form.{short_text, identifier, integer_from, currency_code, six_digits, some_tables}
use Rattle.gw_config.specs.declared.fault.ConfigFault.{ConfigFault}
use Rattle.gw_config.specs.declared.fault.ConfigFault.TheVariants.{Missing, Wrong}

-- a key of a table, whose value says an X
pub record KeyRule (X : Type 0) : Type 0 where
  pub name : List ℕ
  -- what holds where the key is absent; nothing where it has to be there
  pub absent : Option X
  -- what a value says, where it has the key's form
  pub form : Data → Option X

-- a key with a default, or with none
abbrev pub key_rule : {X : Type 0} → List ℕ → Option X → (Data → Option X) → KeyRule X
key_rule name default form = record { name = name; absent = default; form = form }

-- a key that has to be there
abbrev pub required : {X : Type 0} → List ℕ → (Data → Option X) → KeyRule X
required name form = key_rule name None form

-- a key that may be absent, and what holds then
abbrev pub optional : {X : Type 0} → List ℕ → (Data → Option X) → X → KeyRule X
optional name form default = key_rule name (Some default) form

-- ---- the keys of the document

-- where tills connect
abbrev pub listen_key : KeyRule (List ℕ)
listen_key = required (codes "listen") short_text

-- the journal's file
abbrev pub journal_key : KeyRule (List ℕ)
journal_key = required (codes "journal") short_text

-- the gateway's name, as it signs what it sends of its own accord
abbrev pub name_key : KeyRule (List ℕ)
name_key = optional (codes "name") identifier (codes "GATEWAY")

-- how many requests may wait for a terminal
abbrev pub line_key : KeyRule ℕ
line_key = optional (codes "line") (integer_from 0 8) 0

-- how many seconds a request may wait
abbrev pub wait_key : KeyRule ℕ
wait_key = optional (codes "wait") (integer_from 1 3600) 60

-- how many slots the journal has
abbrev pub slots_key : KeyRule ℕ
slots_key = optional (codes "slots") (integer_from 2 1000000) 1000000

-- the tables of the terminals
abbrev pub terminal_key : KeyRule (List Members)
terminal_key = required (codes "terminal") some_tables

-- their names
abbrev pub document_names : List (List ℕ)
document_names =
    listen_key.name ∷ journal_key.name ∷ name_key.name ∷ line_key.name ∷ wait_key.name ∷ slots_key.name
    ∷ terminal_key.name ∷ []

-- ---- the keys of a terminal

-- the name by which a till addresses the terminal
abbrev pub poi_key : KeyRule (List ℕ)
poi_key = required (codes "poi") identifier

-- where the terminal listens
abbrev pub address_key : KeyRule (List ℕ)
address_key = required (codes "address") short_text

-- the one currency of the terminal
abbrev pub currency_key : KeyRule Currency
currency_key = required (codes "currency") currency_code

-- the terminal's password
abbrev pub password_key : KeyRule (List ℕ)
password_key = optional (codes "password") six_digits (0 ∷ 0 ∷ 0 ∷ [])

-- the configuration byte of its registration
abbrev pub config_key : KeyRule ℕ
config_key = optional (codes "config") (integer_from 0 255) 0

-- the result code with which it says that it has no last transaction
abbrev pub none_key : KeyRule ℕ
none_key = optional (codes "none") (integer_from 0 255) 131

-- how many seconds it may be silent after a command
abbrev pub answer_key : KeyRule ℕ
answer_key = optional (codes "answer") (integer_from 1 60) 5

-- how many seconds it may be silent after each of its messages
abbrev pub command_key : KeyRule ℕ
command_key = optional (codes "command") (integer_from 1 3600) 180

-- their names
abbrev pub terminal_names : List (List ℕ)
terminal_names =
    poi_key.name ∷ address_key.name ∷ currency_key.name ∷ password_key.name ∷ config_key.name ∷ none_key.name
    ∷ answer_key.name ∷ command_key.name ∷ []

-- what precedes the name of a terminal's key where a fault names it
abbrev pub terminal_prefix : List ℕ
terminal_prefix = codes "terminal."

-- ---- a key in a table

-- what a key says by the value at it, if there is one
abbrev pub said_by : {X : Type 0} → KeyRule X → Option Data → Option X
said_by rule None = rule.absent
said_by rule (Some value) = rule.form value

-- what a key says in a table
abbrev pub key_value : {X : Type 0} → KeyRule X → Members → Option X
key_value rule table = said_by rule (get_member rule.name table)

-- what is wrong with the value of the key with this full name, or with its absence
abbrev pub fault_by : {X : Type 0} → List ℕ → KeyRule X → Option Data → Option ConfigFault
fault_by key rule None = if is_some rule.absent then None else Some (Missing key)
fault_by key rule (Some value) = if is_some (rule.form value) then None else Some (Wrong key)

-- what is wrong with a key of a table; its full name is its name after a prefix
abbrev pub key_fault : {X : Type 0} → List ℕ → KeyRule X → Members → Option ConfigFault
key_fault prefix rule table = fault_by (prefix ++ rule.name) rule (get_member rule.name table)
