-- Closed examples: tables as a reader of the format would write them down, what they give, their faults and the faults' lines.
use Rattle.std.specs.Prelude.{◌≡◌, ℕ, List, [], ◌∷◌, length, pos, Some, None, codes}
use Rattle.toml.specs.Data.{Data, string, integer, array, table, no_items, item, Members, no_members, member}
use Rattle.gw_base.specs.declared.currency.Currency.TheVariants.{Eur}
use Rattle.gw_base.specs.declared.setup.Pt.{Pt}
use Rattle.gw_base.specs.declared.setup.Setup.{Setup}
use Rattle.gw_config.specs.declared.fault.ConfigFault.TheVariants.{Long, NotToml, Missing, Wrong, Twice}
use Rattle.gw_config.specs.Faults.{smallest, table_fault, document_fault, fault_in}
use Rattle.gw_config.specs.Grammar.{document_of, IsSetupOf}
use Rattle.gw_config.specs.FaultLine.{fault_line}

-- the keys of a terminal of the usual document, under a POIID of its own
abbrev pub usual_keys : Data → Members
usual_keys poi =
    member (codes "address") (string (codes "127.0.0.1:20007")) (member (codes "config") (integer (pos 186))
    (member (codes "currency") (string (codes "EUR")) (member (codes "password") (string (codes "123456"))
    (member (codes "poi") poi no_members))))

-- that terminal
abbrev usual_terminal : Data → Data
usual_terminal poi = table (usual_keys poi)

-- a terminal with one more key
abbrev terminal_with : List ℕ → Data → Data
terminal_with key poi = table (member key (integer (pos 1)) (usual_keys poi))

-- the usual document, with these terminals
abbrev pub usual_document : Data → Members
usual_document terminals =
    member (codes "journal") (string (codes "gateway.jrn")) (member (codes "line") (integer (pos 2))
    (member (codes "listen") (string (codes "127.0.0.1:7000")) (member (codes "terminal") terminals no_members)))

-- with one more key
abbrev document_with : List ℕ → Data → Members
document_with key terminals = member key (integer (pos 1)) (usual_document terminals)

-- a terminal T1
abbrev t1 : Data
t1 = usual_terminal (string (codes "T1"))

-- a terminal T2
abbrev t2 : Data
t2 = usual_terminal (string (codes "T2"))

-- it alone
abbrev pub one_terminal : Data
one_terminal = array (item t1 no_items)

-- the terminal of the usual document: of its numbers it says `config` alone
abbrev pub usual_pt : Pt
usual_pt = record { poi = codes "T1"; address = codes "127.0.0.1:20007"; password = 0x12 ∷ 0x34 ∷ 0x56 ∷ []; currency = Eur; config = 186; none = 131; answer = 5; command = 180 }

-- what the usual document gives: it has no name, and of its numbers it says `line` alone
abbrev pub usual_setup : Setup
usual_setup = record { name = codes "GATEWAY"; listen = codes "127.0.0.1:7000"; journal = codes "gateway.jrn"; line = 2; wait = 60; slots = 1000000; terminals = usual_pt ∷ [] }

-- the keys that a terminal has to have
abbrev pub least_keys : Members
least_keys =
    member (codes "address") (string (codes "a")) (member (codes "currency") (string (codes "EUR"))
    (member (codes "poi") (string (codes "T1")) no_members))

-- a document with the keys that have to be there and no others
abbrev pub least_document : Members
least_document =
    member (codes "journal") (string (codes "j")) (member (codes "listen") (string (codes "l"))
    (member (codes "terminal") (array (item (table least_keys) no_items)) no_members))

-- its terminal, by the defaults
abbrev pub least_pt : Pt
least_pt = record { poi = codes "T1"; address = codes "a"; password = 0 ∷ 0 ∷ 0 ∷ []; currency = Eur; config = 0; none = 131; answer = 5; command = 180 }

-- what it gives
abbrev pub least_setup : Setup
least_setup = record { name = codes "GATEWAY"; listen = codes "l"; journal = codes "j"; line = 0; wait = 60; slots = 1000000; terminals = least_pt ∷ [] }

-- both give these setups, and nothing is wrong with them
pub record ExampleSetups : Type 0 where
  pub usual : IsSetupOf (usual_document one_terminal) usual_setup
  pub usual_faultless : table_fault (usual_document one_terminal) ≡ None
  pub least : IsSetupOf least_document least_setup
  pub least_faultless : table_fault least_document ≡ None

-- a fault of each kind, and which of two comes first
pub record ExampleFaults : Type 0 where
  pub no_text : fault_in (0xFF ∷ []) ≡ Some (NotToml 0)
  pub empty : table_fault no_members ≡ Some (Missing (codes "listen"))
  pub no_terminal : table_fault (usual_document (array no_items)) ≡ Some (Wrong (codes "terminal"))
  pub second_terminal : table_fault (usual_document (array (item t1 (item (usual_terminal (integer (pos 2))) no_items)))) ≡ Some (Wrong (codes "terminal.poi"))
  pub one_poi : table_fault (usual_document (array (item t1 (item t1 no_items)))) ≡ Some (Twice (codes "T1"))
  pub poi_before_unknown : table_fault (document_with (codes "ant") (array (item t1 (item t1 no_items)))) ≡ Some (Twice (codes "T1"))
  pub unknown : table_fault (document_with (codes "ant") one_terminal) ≡ Some (Wrong (codes "ant"))
  pub unknown_of_terminal : table_fault (usual_document (array (item (terminal_with (codes "acquirer") (string (codes "T1"))) no_items))) ≡ Some (Wrong (codes "terminal.acquirer"))
  pub document_before_terminals : table_fault (document_with (codes "ant") (array (item t2 (item (terminal_with (codes "account") (string (codes "T1"))) no_items)))) ≡ Some (Wrong (codes "ant"))

-- of unknown keys the first by its bytes is reported, so that a capital letter comes before a small one; also where another
-- terminal than the first has it
pub record ExampleUnknownKeys : Type 0 where
  pub of_two : smallest (codes "ant" ∷ codes "Zebra" ∷ []) ≡ Some (codes "Zebra")
  pub of_document : table_fault (member (codes "Zebra") (integer (pos 1)) (member (codes "ant") (integer (pos 2)) (usual_document one_terminal))) ≡ Some (Wrong (codes "Zebra"))
  pub of_terminals : table_fault (usual_document (array (item (terminal_with (codes "acquirer") (string (codes "T1"))) (item (terminal_with (codes "account") (string (codes "T2"))) no_items)))) ≡ Some (Wrong (codes "terminal.account"))

-- a document of 65,536 bytes is read, and one more is too long
pub record ExampleSizes : Type 0 where
  pub one_more : (bytes : List ℕ) → length bytes ≡ 65537 → fault_in bytes ≡ Some Long
  pub at_the_limit : (bytes : List ℕ) → length bytes ≡ 65536 → fault_in bytes ≡ document_fault (document_of bytes)

-- the line of each fault
pub record ExampleLines : Type 0 where
  pub long : fault_line Long ≡ codes "config long"
  pub not_toml : fault_line (NotToml 17) ≡ codes "config not-toml 17"
  pub missing : fault_line (Missing (codes "terminal.poi")) ≡ codes "config missing terminal.poi"
  pub wrong : fault_line (Wrong (codes "slots")) ≡ codes "config wrong slots"
  pub twice : fault_line (Twice (codes "T1")) ≡ codes "config twice T1"
