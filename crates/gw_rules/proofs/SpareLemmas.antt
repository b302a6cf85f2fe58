-- What a row owes on the disk: nothing, or that one record is kept in the next slot.
use Rattle.std.proofs.Common.{◌≡◌, ℕ, Bool, true, false, List, [], ◌∷◌, ◌++◌, length, refl, sym, inl, inr}
use Rattle.std.specs.Prelude.{◌⊎◌, Option, Some, None, Result, Ok, Err}
use Rattle.gw_base.specs.declared.key.Key.{Key}
use Rattle.gw_base.specs.declared.setup.Setup.{Setup}
use Rattle.gw_site.specs.Outside.{Connection, is_connected}
use Rattle.zvt_msg.specs.declared.fault.PtFault.{PtFault}
use Rattle.zvt_msg.specs.Message.{MessageValue, Ack, Nack, Intermediate, Line, Block, Status, Completion, Abort, Other}
use Rattle.zvt_msg.specs.MessageDecode.{decode_pt_message}
use Rattle.jrn_record.specs.declared.records.Record.{Record}
use Rattle.jrn_record.specs.declared.records.Record.TheVariants.{Intent, Outcome, Settled}
use Rattle.jrn_record.specs.declared.records.Settled.{Settled as TheSettled}
use Rattle.sale_values.specs.declared.header.Header.{Header}
use Rattle.sale_values.specs.declared.request.SaleRequest.{SaleRequest}
use Rattle.xlate.specs.Ask.{ask}
use Rattle.gw_owes.specs.Calls.{Ask, OwedCall, SendPt, LinkPt, CutTill, keep_calls}
use Rattle.gw_owes.specs.Deadlines.{is_late, is_due, late_row, due_row}
use Rattle.gw_owes.specs.Greeting.{greeting, sending_calls, greet_decoded}
use Rattle.gw_owes.specs.Items.{RoundItem, Crowded, Message, Asked, Unframed, Gone, Greet, Handle, Serve, Queue, NextWaiting, Oversized, LinkLost, Late, Overdue, Due}
use Rattle.gw_owes.specs.Links.{cutting}
use Rattle.gw_owes.specs.Payments.{serve_row}
use Rattle.gw_owes.specs.Reconciliations.{settle_calls, reply_to_settled}
use Rattle.gw_owes.specs.Reply.{ReplyValue}
use Rattle.gw_owes.specs.Requests.{reply_to}
use Rattle.gw_owes.specs.Row.{Known, Row, owing, owing_where}
use Rattle.gw_owes.specs.Rows.{asked_row, row_of}
use Rattle.gw_owes.specs.Serving.{reply_to_outcome}
use Rattle.gw_owes.specs.Terminals.{registers, link_made, reply_calls_to, reply_to_lost, unlinks, link_lost}
use Rattle.gw_owes.specs.WaitingRows.{next_waiting_row, overdue_row, queue_row}
use Rattle.gw_owes.specs.declared.terminal.Terminal.{Terminal}
use Rattle.gw_owes.proofs.HandlingLemmas.{each-terminal, each-linked}
use Rattle.gw_owes.proofs.NextLemmas.{each-next, each-overdue, each-queued}
use Rattle.gw_owes.proofs.PaymentLemmas.{each-served}
use Rattle.gw_rules.specs.JournalFiles.{spare_disk}
use Rattle.gw_rules.specs.Scene.{Scene, known_in, row_in, link_made_at, link_lost_at}
use Rattle.gw_rules.specs.View.{begin}
use Rattle.gw_rules.proofs.LinkStateLemmas.{may_begin_some}
use Rattle.gw_rules.proofs.RowFormLemmas.{EachForm, form-handled}
use Rattle.gw_rules.proofs.StageLemmas.{no-true}

-- these calls keep one record in the slot after those of the records that are kept, and no later one is on the disk
pub record KeepsNext (kept : List Record) (calls : List OwedCall) : Type 0 where
  pub the_record : Record
  pub more : List OwedCall
  pub calls_are : calls ≡ keep_calls (length kept) the_record ++ more
  pub spares : spare_disk more ≡ true

-- none of these calls is on the disk, or they keep one record so
abbrev pub KeepsOne : List Record → List OwedCall → Type 0
KeepsOne kept calls = (spare_disk calls ≡ true) ⊎ KeepsNext kept calls

abbrev pub Spares : Row → Type 0
Spares row = spare_disk row.calls ≡ true

reply-spares : (asker : Option ℕ) (reply : Option ReplyValue) → spare_disk (reply_calls_to asker reply) ≡ true
reply-spares None reply = refl
reply-spares (Some till) None = refl
reply-spares (Some till) (Some reply) = refl

where-spares : (there : Bool) (known : Known) (row : Row) → Spares row → Spares (owing_where there known row)
where-spares true known row h = h
where-spares false known row h = refl

-- ---- links

lost-spares : (known : Known) (number : ℕ) → Spares (link_lost known number)
lost-spares known number = each-terminal Spares known number (unlinks known number) refl (λ terminal found. reply-spares terminal.asker (reply_to_lost terminal.standing))

made-spares : (known : Known) (number : ℕ) → Spares (link_made known number)
made-spares known number = each-terminal Spares known number (registers known number) refl (λ terminal found. refl)

-- ---- what a terminal sends

sending-spares : (number : ℕ) (message : MessageValue) → spare_disk (sending_calls number (greeting message)) ≡ true
sending-spares number Ack = refl
sending-spares number (Nack error_code) = refl
sending-spares number (Intermediate intermediate_status) = refl
sending-spares number (Line text) = refl
sending-spares number (Block objects) = refl
sending-spares number (Status fields) = refl
sending-spares number Completion = refl
sending-spares number (Abort result_code) = refl
sending-spares number Other = refl

cutting-spares : (known : Known) (number : ℕ) → Spares (cutting known number)
cutting-spares known number = refl

pub greet-spares : (known : Known) (number : ℕ) (decoded : Result MessageValue PtFault) → Spares (greet_decoded known number decoded)
greet-spares known number (Ok message) = each-linked Spares known number (λ terminal. owing known (sending_calls number (greeting message))) refl (λ terminal found linked. sending-spares number message)
greet-spares known number (Err fault) = each-linked Spares known number (λ terminal. cutting known number) refl (λ terminal found linked. cutting-spares known number)

-- ---- rows that may keep a record

-- what this row owes
abbrev RowKeeps : Known → Row → Type 0
RowKeeps known row = KeepsOne known.kept row.calls

-- what settles keeps one
settle-keeps : (kept : List Record) (asker : Option ℕ) (settled : TheSettled) → KeepsNext kept (settle_calls kept asker settled)
settle-keeps kept asker settled = record { the_record = Settled settled; more = reply_calls_to asker (reply_to_settled kept settled); calls_are = refl; spares = reply-spares asker (reply_to_settled kept settled) }

forms-keep : (known : Known) (number : ℕ) (terminal : Terminal) → EachForm (RowKeeps known) known number terminal
forms-keep known number terminal = record {
  nothing = inl refl;
  stays = inl refl;
  cuts = inl refl;
  stops = inl refl;
  enquires = inl refl;
  rests = λ standing linked. inl refl;
  resolves = λ standing outcome linked. inr (record {
    the_record = Outcome outcome;
    more = reply_calls_to terminal.asker (reply_to_outcome known.kept outcome.slot outcome);
    calls_are = refl;
    spares = reply-spares terminal.asker (reply_to_outcome known.kept outcome.slot outcome);
  });
  settles = λ last settled. inr (settle-keeps known.kept terminal.asker settled);
  replies = λ last reply. inl (reply-spares terminal.asker reply);
  requests = λ till request asks. inl refl;
}

serve-keeps : (known : Known) (number till : ℕ) (header : Header) (request : SaleRequest) → RowKeeps known (serve_row known number till header request)
serve-keeps known number till header request = each-served (RowKeeps known) known number till header request (record {
  none = inl refl;
  begins = λ terminal last asking at. inr (record { the_record = Intent asking.intent; more = SendPt number (Ask (ask asking.intent asking.original terminal.pt)) ∷ []; calls_are = refl; spares = refl });
  sent = λ terminal talk at now. inl refl;
  wished = λ terminal talk at later. inl refl;
  session = λ success. inl refl;
  settles = λ terminal at. inr (settle-keeps known.kept (Some till) _);
  day = λ terminal last at. inl refl;
  displays = λ terminal last outputs command at. inl refl;
})

-- ---- what waits

queue-spares : (known : Known) (number till : ℕ) (header : Header) (request : SaleRequest) → Spares (queue_row known number till header request)
queue-spares known number till header request = each-queued Spares known number till header request (record { none = refl; joins = λ terminal key at. refl; taken = λ wait at. refl })

overdue-spares : (known : Known) (key : Key) → Spares (overdue_row known key)
overdue-spares known key = each-overdue Spares known key (record { none = refl; taken = λ wait is overdue. refl })

next-keeps-one : (known : Known) (number : ℕ) → RowKeeps known (next_waiting_row known number)
next-keeps-one known number = each-next (RowKeeps known) known number (record {
  none = inl refl;
  refused = λ terminal last wait condition first is. inl refl;
  begins = λ terminal last wait asking at.
      inr (record { the_record = Intent asking.intent; more = SendPt number (Ask (ask asking.intent asking.original terminal.pt)) ∷ []; calls_are = refl; spares = refl });
  day = λ terminal last wait at. inl refl;
  left = λ terminal last wait first. inl refl;
})

-- ---- what may be due

late-spares : (known : Known) (number : ℕ) → Spares (late_row known number)
late-spares known number = each-terminal Spares known number (λ terminal. owing_where (is_late known.moment terminal.talk) known (cutting known number)) refl
    (λ terminal found. where-spares (is_late known.moment terminal.talk) known (cutting known number) refl)

due-spares : (known : Known) (number : ℕ) → Spares (due_row known number)
due-spares known number = each-terminal Spares known number (λ terminal. owing_where (is_due known.moment terminal.standing) known (owing known (LinkPt number ∷ []))) refl
    (λ terminal found. where-spares (is_due known.moment terminal.standing) known (owing known (LinkPt number ∷ [])) refl)

-- ---- each row

-- an item that neither handles a message of a terminal nor begins to serve keeps none
abbrev pub is_handle : RoundItem → Bool
is_handle (Crowded till) = false
is_handle (Message till bytes) = false
is_handle (Asked till as_read) = false
is_handle (Unframed till) = false
is_handle (Gone till) = false
is_handle (Greet number apdu) = false
is_handle (Handle number apdu) = true
is_handle (Serve number till header request) = false
is_handle (Queue number till header request) = false
is_handle (NextWaiting number) = false
is_handle (Oversized number) = false
is_handle (LinkLost number) = false
is_handle (Late number) = false
is_handle (Overdue key) = false
is_handle (Due number) = false

pub others-spare : (tills : List Connection) (known : Known) (item : RoundItem) → is_handle item ≡ false → may_begin_some item ≡ false → Spares (row_of tills known item)
others-spare tills known (Crowded till) no_handle no_serve = refl
others-spare tills known (Message till bytes) no_handle no_serve = refl
others-spare tills known (Asked till as_read) no_handle no_serve = where-spares (is_connected tills till) known (asked_row known till as_read) (reply-spares (Some till) (reply_to known as_read))
others-spare tills known (Unframed till) no_handle no_serve = where-spares (is_connected tills till) known (owing known (CutTill till ∷ [])) refl
others-spare tills known (Gone till) no_handle no_serve = refl
others-spare tills known (Greet number apdu) no_handle no_serve = greet-spares known number (decode_pt_message apdu)
others-spare tills known (Handle number apdu) no_handle no_serve = no-true (sym no_handle)
others-spare tills known (Serve number till header request) no_handle no_serve = no-true (sym no_serve)
others-spare tills known (Queue number till header request) no_handle no_serve = queue-spares known number till header request
others-spare tills known (NextWaiting number) no_handle no_serve = no-true (sym no_serve)
others-spare tills known (Oversized number) no_handle no_serve = each-linked Spares known number (λ terminal. cutting known number) refl (λ terminal found linked. cutting-spares known number)
others-spare tills known (LinkLost number) no_handle no_serve = lost-spares known number
others-spare tills known (Late number) no_handle no_serve = late-spares known number
others-spare tills known (Overdue key) no_handle no_serve = overdue-spares known key
others-spare tills known (Due number) no_handle no_serve = due-spares known number

rows-keep-one : (tills : List Connection) (known : Known) (item : RoundItem) → RowKeeps known (row_of tills known item)
rows-keep-one tills known (Crowded till) = inl (others-spare tills known (Crowded till) refl refl)
rows-keep-one tills known (Message till bytes) = inl (others-spare tills known (Message till bytes) refl refl)
rows-keep-one tills known (Asked till as_read) = inl (others-spare tills known (Asked till as_read) refl refl)
rows-keep-one tills known (Unframed till) = inl (others-spare tills known (Unframed till) refl refl)
rows-keep-one tills known (Gone till) = inl (others-spare tills known (Gone till) refl refl)
rows-keep-one tills known (Greet number apdu) = inl (others-spare tills known (Greet number apdu) refl refl)
rows-keep-one tills known (Handle number apdu) = form-handled (RowKeeps known) known number apdu (inl refl) (λ terminal message found linked is taken. forms-keep known number _)
rows-keep-one tills known (Serve number till header request) = serve-keeps known number till header request
rows-keep-one tills known (Queue number till header request) = inl (others-spare tills known (Queue number till header request) refl refl)
rows-keep-one tills known (NextWaiting number) = next-keeps-one known number
rows-keep-one tills known (Oversized number) = inl (others-spare tills known (Oversized number) refl refl)
rows-keep-one tills known (LinkLost number) = inl (others-spare tills known (LinkLost number) refl refl)
rows-keep-one tills known (Late number) = inl (others-spare tills known (Late number) refl refl)
rows-keep-one tills known (Overdue key) = inl (others-spare tills known (Overdue key) refl refl)
rows-keep-one tills known (Due number) = inl (others-spare tills known (Due number) refl refl)

in-spares : (scene : Scene) (row : Known → Row) (setup : Option Setup) → ((known : Known) → Spares (row known)) → Spares (row_in scene row setup)
in-spares scene row None each = refl
in-spares scene row (Some setup) each = each _

-- an item that begins owes that one record is kept at most
pub begin-keeps-one : (scene : Scene) (items : List RoundItem) → KeepsOne scene.kept (begin scene items).calls
begin-keeps-one scene [] = inl refl
begin-keeps-one scene (item ∷ items) = by_setup scene.setup
  where
    by_setup : (setup : Option Setup) → KeepsOne scene.kept (row_in scene (λ known. row_of scene.outside.tills known item) setup).calls
    by_setup None = inl refl
    by_setup (Some setup) = rows-keep-one scene.outside.tills (known_in scene setup) item

pub made-at-spares : (scene : Scene) (pt : ℕ) → spare_disk (link_made_at scene pt).calls ≡ true
made-at-spares scene pt = in-spares scene (λ known. link_made known pt) scene.setup (λ known. made-spares known pt)

pub lost-at-spares : (scene : Scene) (pt : ℕ) → spare_disk (link_lost_at scene pt).calls ≡ true
lost-at-spares scene pt = in-spares scene (λ known. link_lost known pt) scene.setup (λ known. lost-spares known pt)
