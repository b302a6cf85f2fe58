-- The example log of a status request, and what example logs begin with.
use Rattle.std.specs.Prelude.{◌≡◌, ℕ, ◌+◌, pos, true, false, List, [], ◌∷◌, ◌++◌, map, Some, None, codes}
use Rattle.sale_frame.specs.Grammar.{frame}
use Rattle.gw_base.specs.declared.condition.Condition.TheVariants.{NotFound}
use Rattle.gw_base.specs.declared.setup.Setup.{Setup}
use Rattle.gw_site.specs.declared.turn.Turn.{Turn}
use Rattle.gw_site.specs.declared.turn.Turn.TheVariants.{Start, Polled, Opened, HeardTill, SentTill, Stopped, Synced}
use Rattle.sale_values.specs.declared.header.Header.{Header}
use Rattle.sale_values.specs.declared.names.Class.TheVariants.{Service}
use Rattle.sale_values.specs.declared.names.Kind.TheVariants as kinds
use Rattle.sale_values.specs.declared.request.SaleRequest.TheVariants as requests
use Rattle.jrn_log.specs.JournalTurns.{first_gate_write}
use Rattle.gw_owes.specs.Calls.{WriteFirstGate, Sync}
use Rattle.gw_owes.specs.ReadAs.{ReadAs, Request}
use Rattle.gw_owes.specs.Reply.{ReplyValue}
use Rattle.gw_owes.specs.Replies.{failure_reply}
use Rattle.gw_rules.specs.Lawful.{IsCourse, turns_of, IsLawful}
use Rattle.gw_rules.specs.View.{View, Move, Begin, Read, Make, started, at_first}

-- ---- the setup and the messages

-- a gateway without terminals
abbrev pub example_setup : Setup
example_setup = record { name = codes "GATEWAY"; listen = []; journal = []; line = 0; wait = 60; slots = 1000000; terminals = [] }

-- a till asks for the status of the payment with ServiceID 9
unfoldable pub status_request : List ℕ
status_request = codes "{\"SaleToPOIRequest\":{\"MessageHeader\":{\"ProtocolVersion\":\"3.0\",\"MessageClass\":\"Service\",\"MessageCategory\":\"TransactionStatus\",\"MessageType\":\"Request\",\"ServiceID\":\"1\",\"SaleID\":\"S1\",\"POIID\":\"T1\"},\"TransactionStatusRequest\":{\"MessageReference\":{\"ServiceID\":\"9\"}}}}"

-- no such payment is known
unfoldable pub status_reply_bytes : List ℕ
status_reply_bytes = codes "{\"SaleToPOIResponse\":{\"MessageHeader\":{\"ProtocolVersion\":\"3.0\",\"MessageClass\":\"Service\",\"MessageCategory\":\"TransactionStatus\",\"MessageType\":\"Response\",\"ServiceID\":\"1\",\"SaleID\":\"S1\",\"POIID\":\"T1\"},\"TransactionStatusResponse\":{\"Response\":{\"Result\":\"Failure\",\"ErrorCondition\":\"NotFound\"}}}}"

-- the header of the request
abbrev pub status_header : Header
status_header = record { class = Service; category = codes "TransactionStatus"; kind = kinds.Request; service = Some (codes "1"); device = None; sale = codes "S1"; poi = codes "T1" }

-- the request as it is read
abbrev pub status_asked : ReadAs
status_asked = Request status_header (requests.Status (Some (record { service = codes "9"; sale = None; poi = None })))

-- the reply as plain data
abbrev pub not_found : ReplyValue
not_found = failure_reply status_header NotFound

-- ---- a run that begins

-- the turns by which a run on a file of at most one byte opens its journal
abbrev pub first_turns : List Turn
first_turns = Synced ∷ first_gate_write ∷ Synced ∷ []

-- the file that they leave
abbrev pub first_file : List ℕ
first_file = 0 ∷ []

-- the turns by which a run with this setup begins on a file of at most one byte
abbrev pub began : Setup → List Turn
began setup = Start setup ∷ first_turns

-- its moves
abbrev pub began_moves : Setup → List Move
began_moves setup = map Make (began setup)

-- ---- what is claimed of a log

-- the course is lawful, and makes the turns of the log
pub record IsCourseAlong (log : List Turn) (course : List Move) : Type 0 where
  pub turns : turns_of course ≡ log
  pub lawful : IsCourse at_first course

-- the log is lawful, and with this turn after it it isn't
pub record IsUnlawfulAfter (log : List Turn) (turn : Turn) : Type 0 where
  pub before : IsLawful log
  pub with_turn : ¬ IsLawful (log ++ turn ∷ [])

-- ---- a request and its reply

-- it has said these bytes
abbrev pub heard_log : List ℕ → List Turn
heard_log bytes = began example_setup ++ Polled (pos 0) ∷ Opened 1 ∷ Polled (pos 0) ∷ HeardTill 1 bytes ∷ []

-- it has said the request
abbrev pub asked_log : List Turn
asked_log = heard_log (frame status_request)

-- the request gets its reply
abbrev pub status_log : List Turn
status_log = asked_log ++ SentTill 1 (frame status_reply_bytes) true ∷ Polled (pos 0) ∷ Stopped ∷ []

-- the moves of the log: the request is read and begins once it was heard, and owes the reply
abbrev pub status_course : List Move
status_course =
    began_moves example_setup ++ Make (Polled (pos 0)) ∷ Make (Opened 1) ∷ Make (Polled (pos 0)) ∷ Make (HeardTill 1 (frame status_request)) ∷ Read status_asked ∷ Begin ∷ Make (SentTill 1 (frame status_reply_bytes) true) ∷ Make (Polled (pos 0)) ∷ Make Stopped ∷ []

-- this is its course
abbrev pub StatusIsLawful : Type 0
StatusIsLawful = IsCourseAlong status_log status_course

-- ---- the disk

-- a run opens a journal, whose file is empty
abbrev pub opening_view : View
opening_view = started at_first.scene example_setup (record { calls = Sync ∷ WriteFirstGate ∷ Sync ∷ []; refused = false })
