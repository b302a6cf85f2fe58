-- What a till and a terminal say in the examples of an end of day, and of a display.
use Rattle.std.specs.Prelude.{ℕ, pos, true, List, [], ◌∷◌, Some, codes}
use Rattle.gw_base.specs.declared.condition.Condition.TheVariants.{UnavailableDevice}
use Rattle.gw_base.specs.declared.currency.Currency.TheVariants.{Eur}
use Rattle.gw_base.specs.declared.key.Key.{Key}
use Rattle.sale_values.specs.declared.header.Header.{Header}
use Rattle.sale_values.specs.declared.names.Class.TheVariants.{Device}
use Rattle.sale_values.specs.declared.names.Kind.TheVariants as kinds
use Rattle.sale_values.specs.declared.names.Period.TheVariants.{AcquirerReconciliation}
use Rattle.sale_values.specs.declared.request.Output.{Output}
use Rattle.sale_values.specs.declared.request.SaleRequest.TheVariants as requests
use Rattle.sale_reply.specs.declared.reply.Told.TheVariants.{Reconciled}
use Rattle.jrn_record.specs.declared.records.How.TheVariants.{Acquirer}
use Rattle.jrn_record.specs.declared.records.Settled.{Settled as TheSettled}
use Rattle.gw_owes.specs.DeviceRequests.{device_header}
use Rattle.gw_owes.specs.PaymentExample.{till_header}
use Rattle.gw_owes.specs.ReadAs.{ReadAs, Request}
use Rattle.gw_owes.specs.Replies.{header_of_reply, failure, success}
use Rattle.gw_owes.specs.Reply.{ReplyValue, Finished, Display, DisplayRequest}

-- ---- what the till asks, and what is kept

-- an end of day with ServiceID 2, in bytes
unfoldable pub day_request : List ℕ
day_request = codes "{\"SaleToPOIRequest\":{\"MessageHeader\":{\"ProtocolVersion\":\"3.0\",\"MessageClass\":\"Service\",\"MessageCategory\":\"Reconciliation\",\"MessageType\":\"Request\",\"ServiceID\":\"2\",\"SaleID\":\"S1\",\"POIID\":\"T1\"},\"ReconciliationRequest\":{\"ReconciliationType\":\"AcquirerReconciliation\"}}}"

-- its header
abbrev pub day_header : Header
day_header = till_header (codes "Reconciliation") (codes "2")

-- its key
abbrev pub day_key : Key
day_key = record { sale = codes "S1"; poi = codes "T1"; service = codes "2" }

-- as it is read
abbrev pub asked_day : ReadAs
asked_day = Request day_header (requests.Reconciliation AcquirerReconciliation)

-- the command, as it is sent
abbrev pub day_sent : List ℕ
day_sent = 0x06 ∷ 0x50 ∷ 0x03 ∷ 0x12 ∷ 0x34 ∷ 0x56 ∷ []

-- an intermediate status of the terminal
abbrev pub intermediate : List ℕ
intermediate = 0x04 ∷ 0xFF ∷ 0x01 ∷ 0x0A ∷ []

-- it is shown at the till
abbrev pub shown_status : ReplyValue
shown_status = DisplayRequest (device_header (codes "Display") day_key 0) 0x0A

-- the Settled, of the moment 6
abbrev pub logged_settled : TheSettled
logged_settled = record { how = Acquirer; sale = codes "S1"; poi = codes "T1"; service = codes "2"; currency = Eur; moment = pos 6 }

-- the reply with the totals: one payment of 10.99
abbrev pub totals_reply : ReplyValue
totals_reply = Finished (header_of_reply day_header) (Reconciled AcquirerReconciliation Eur (1, 1099) (0, 0))

-- ---- a display

-- what is to be shown to the customer, and the till gets its result
abbrev pub hello : Output
hello = record { device = codes "CustomerDisplay"; qualify = codes "Display"; required = true; texts = Some (codes "Hello" ∷ []) }

-- the same to the cashier
abbrev pub hello_cashier : Output
hello_cashier = record hello { device = codes "CashierDisplay" }

-- the header of the request
abbrev pub display_header : Header
display_header = record { class = Device; category = codes "Display"; kind = kinds.Request; service = Some (codes "3"); device = Some (codes "1"); sale = codes "S1"; poi = codes "T1" }

-- the command, as it is sent: it shows one line for five seconds
abbrev pub hello_sent : List ℕ
hello_sent = 0x06 ∷ 0xE0 ∷ 0x0A ∷ 0xF0 ∷ 0x05 ∷ 0xF1 ∷ 0xF0 ∷ 0xF5 ∷ codes "Hello"

-- the reply: the customer's output is shown, and the cashier's isn't
abbrev pub hello_reply : ReplyValue
hello_reply = Display (header_of_reply display_header)
    (record { device = codes "CashierDisplay"; qualify = codes "Display"; verdict = failure UnavailableDevice }
    ∷ record { device = codes "CustomerDisplay"; qualify = codes "Display"; verdict = success }
    ∷ [])
