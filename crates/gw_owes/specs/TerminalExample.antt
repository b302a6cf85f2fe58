-- What examples of terminals share: the setup and what is known at first, and what a terminal sends and is sent.
use Rattle.std.specs.Prelude.{ℕ, List, [], ◌∷◌, Some, None, codes}
use Rattle.gw_base.specs.declared.currency.Currency.TheVariants.{Eur}
use Rattle.gw_base.specs.declared.setup.Pt.{Pt}
use Rattle.gw_base.specs.declared.setup.Setup.{Setup}
use Rattle.sale_values.specs.declared.header.Header.{Header}
use Rattle.sale_values.specs.declared.names.Class.TheVariants as classes
use Rattle.sale_values.specs.declared.names.Kind.TheVariants as kinds
use Rattle.gw_owes.specs.Core.{new_core, new_terminal}
use Rattle.gw_owes.specs.declared.terminal.Standing.{Standing}
use Rattle.gw_owes.specs.Row.{Known}

-- ---- one terminal

-- it has the password 123456, the configuration byte BA and the code 83 for none, 5 seconds for an Ack and 180 between messages
abbrev pub one_pt : Pt
one_pt = record { poi = codes "T1"; address = []; password = 0x12 ∷ 0x34 ∷ 0x56 ∷ []; currency = Eur; config = 0xBA; none = 0x83; answer = 5; command = 180 }

-- a gateway with these terminals
abbrev pub setup_with : List Pt → Setup
setup_with pts = record { name = codes "GATEWAY"; listen = []; journal = []; line = 0; wait = 60; slots = 1000000; terminals = pts }

-- it begins a run
abbrev pub new_known : List Pt → Known
new_known pts = record { setup = setup_with pts; core = new_core (setup_with pts); kept = []; moment = 0 }

-- a gateway whose one terminal has this standing
abbrev pub standing_known : Standing → Known
standing_known standing = record (new_known (one_pt ∷ [])) { core = record (new_core (setup_with (one_pt ∷ []))) { terminals = record (new_terminal one_pt) { standing = standing } ∷ [] } }

-- the header of a request of till `S1` for this POIID
abbrev pub header_for : List ℕ → List ℕ → Header
header_for category poi = record { class = classes.Service; category = category; kind = kinds.Request; service = Some (codes "5"); device = None; sale = codes "S1"; poi = poi }

-- ---- bytes

-- an Ack
abbrev pub ack : List ℕ
ack = 0x80 ∷ 0x00 ∷ 0x00 ∷ []

-- a Completion
abbrev pub completion : List ℕ
completion = 0x06 ∷ 0x0F ∷ 0x00 ∷ []

-- an Abort with this code
abbrev pub abort : ℕ → List ℕ
abort result_code = 0x06 ∷ 0x1E ∷ 0x01 ∷ result_code ∷ []

-- the Status of an approved transaction with trace number 123, receipt number 17 and 10.99
abbrev pub approved_status : List ℕ
approved_status =
    0x04 ∷ 0x0F ∷ 0x10 ∷ 0x27 ∷ 0x00 ∷ 0x04 ∷ 0x00 ∷ 0x00 ∷ 0x00 ∷ 0x00 ∷ 0x10 ∷ 0x99 ∷ 0x0B ∷ 0x00 ∷ 0x01 ∷ 0x23 ∷ 0x87 ∷ 0x00 ∷ 0x17 ∷ []

-- the enquiry
abbrev pub enquiry_sent : List ℕ
enquiry_sent = 0x06 ∷ 0x20 ∷ 0x03 ∷ 0x12 ∷ 0x34 ∷ 0x56 ∷ []

-- ---- bytes outside the grammar

-- the intermediate status 0A
abbrev pub status_0A : List ℕ
status_0A = 0x04 ∷ 0xFF ∷ 0x01 ∷ 0x0A ∷ []

-- a Status whose fields are truncated
abbrev pub outside_status : List ℕ
outside_status = 0x04 ∷ 0x0F ∷ 0x01 ∷ 0x27 ∷ []
