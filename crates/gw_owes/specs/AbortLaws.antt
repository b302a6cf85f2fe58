-- Laws of Aborts: which gets a Reject and which stops what is served, that `06 B0` is sent once, what a stop leaves as it is, and what a late refusal of it means.
use Rattle.std.specs.Prelude.{◌≡◌, ◌≤◌, ◌||◌, ℕ, ◌+ℤ◌, pos, Bool, true, false, if◌then◌else◌, List, [], ◌∷◌, slice_get, Option, Some, None, Ok, codes}
use Rattle.std.specs.Option.{option_map}
use Rattle.gw_base.specs.declared.condition.Condition.TheVariants.{Aborted, Cancel}
use Rattle.gw_base.specs.declared.key.Key.{Key}
use Rattle.gw_site.specs.Outside.{Connection, is_connected}
use Rattle.sale_values.specs.declared.fault.SaleFault.TheVariants.{Missing, Wrong}
use Rattle.sale_values.specs.declared.header.Header.{Header}
use Rattle.sale_values.specs.declared.names.Period.{Period}
use Rattle.sale_values.specs.declared.request.Reference.{Reference}
use Rattle.sale_values.specs.declared.request.SaleRequest.TheVariants as requests
use Rattle.sale_values.specs.Key.{key_of}
use Rattle.sale_reply.specs.declared.reply.Detail.TheVariants as details
use Rattle.sale_reply.specs.declared.reply.Shown.{Shown}
use Rattle.zvt_apdu.specs.Grammar.{ApduValue}
use Rattle.zvt_msg.specs.declared.command.Command.{Command}
use Rattle.zvt_msg.specs.declared.command.Command.TheVariants as commands
use Rattle.zvt_msg.specs.Message.{MessageValue, Ack, Nack}
use Rattle.zvt_msg.specs.MessageDecode.{decode_pt_message}
use Rattle.zvt_talk.specs.declared.meaning.Heard.TheVariants as heard
use Rattle.zvt_talk.specs.declared.phase.Phase.{Phase}
use Rattle.zvt_talk.specs.declared.phase.Phase.TheVariants as phases
use Rattle.zvt_talk.specs.declared.statuses.Statuses.{Statuses}
use Rattle.zvt_talk.specs.Laws.{IsAckOrNack}
use Rattle.zvt_talk.specs.Talk.{TalkFacts}
use Rattle.jrn_record.specs.declared.records.Record.{Record}
use Rattle.gw_owes.specs.declared.terminal.Service.{Service}
use Rattle.gw_owes.specs.declared.terminal.Service.TheVariants.{Transaction, EndOfDay, Display}
use Rattle.gw_owes.specs.declared.terminal.Standing.TheVariants.{Ready, Serving}
use Rattle.gw_owes.specs.declared.terminal.Terminal.{Terminal}
use Rattle.gw_owes.specs.Awaited.{one_more_awaited, one_less_awaited}
use Rattle.gw_owes.specs.Calls.{Sending, Ask, Acknowledge, Refuse, OwedCall, SendTill, SendPt, CutTill, CutPt, LinkPt, WriteBody, WriteGate, WriteFirstGate, Sync, records_kept}
use Rattle.gw_owes.specs.Waits.{is_pending, waiting_with}
use Rattle.gw_owes.specs.Diagnosis.{NamedTerminal, named_terminal}
use Rattle.gw_owes.specs.Dialogues.{HasItsDialogue}
use Rattle.gw_owes.specs.Handling.{handle_row}
use Rattle.gw_owes.specs.Core.{Wait}
use Rattle.gw_owes.specs.Items.{RoundItem, Asked, Serve, Queue}
use Rattle.gw_owes.specs.KeptReplies.{is_open_key}
use Rattle.gw_owes.specs.PaymentLaws.{MeansAt, MeansServed, outcome_calls, sends_till}
use Rattle.gw_owes.specs.ReadAs.{NoMessage, Request}
use Rattle.gw_owes.specs.Reply.{Reject}
use Rattle.gw_owes.specs.Replies.{failure_reply}
use Rattle.gw_owes.specs.Requests.{reply_to, request_reply}
use Rattle.gw_owes.specs.Row.{Known, Row}
use Rattle.gw_owes.specs.Rows.{row_of}
use Rattle.gw_owes.specs.Serving.{last_after_decline, was_stopped}
use Rattle.gw_owes.specs.Stops.{serves_key}
use Rattle.gw_owes.specs.TerminalLaws.{GoesOnTo}
use Rattle.gw_owes.specs.TerminalRows.{terminal_of, terminal_row}
use Rattle.gw_owes.specs.Terminals.{terminal_at, reply_calls_to}
use Rattle.gw_owes.specs.Transcript.{Carried, FollowsTranscript, awaited_by}

-- ---- what a till gets

-- an Abort of a key that is open, that waits, or that of an end of day that is served, gets no reply of its own, and each other a Reject
pub record GetsRejectOrNothing (known : Known) (header : Header) (reference : Reference) : Type 0 where
  pub of_open : is_open_key known.kept header reference ≡ true → request_reply known header (requests.Abort reference) ≡ None
  pub of_pending : is_pending known.core (key_of header reference) ≡ true → request_reply known header (requests.Abort reference) ≡ None
  pub reject :
      is_open_key known.kept header reference ≡ false → is_pending known.core (key_of header reference) ≡ false
      → request_reply known header (requests.Abort reference) ≡ Some (Reject header.sale header.poi (pos known.moment) details.Abort)

-- so it is with each
abbrev pub EachAbortGetsRejectOrNothing : Type 0
EachAbortGetsRejectOrNothing = (known : Known) (header : Header) (reference : Reference) → GetsRejectOrNothing known header reference

-- a body of an Abort in which the member at this path is absent, or of another form, gets a Reject with its path
pub record GetsRejectForBody (known : Known) (header : Header) (path : List ℕ) : Type 0 where
  pub missing : reply_to known (NoMessage (Missing header path)) ≡ Some (Reject header.sale header.poi (pos known.moment) (details.Body path))
  pub wrong : reply_to known (NoMessage (Wrong header path)) ≡ Some (Reject header.sale header.poi (pos known.moment) (details.Body path))

-- so it is with each
abbrev pub EachMalformedAbortGetsReject : Type 0
EachMalformedAbortGetsReject = (known : Known) (header : Header) (path : List ℕ) → header.category ≡ codes "Abort" → GetsRejectForBody known header path

-- ---- what it begins

-- a terminal is to stop
abbrev pub IsToStop : ℕ → ℕ → Header → Reference → Row → Type 0
IsToStop number till header reference row = (row.items ≡ Serve number till header (requests.Abort reference) ∷ []) × (row.calls ≡ [])

-- an Abort of a till that is there, of a key that doesn't wait, and that the terminal which the key's POIID names serves, is a stop at that terminal
abbrev pub ServedIsToStop : Type 0
ServedIsToStop =
    (tills : List Connection) (known : Known) (till : ℕ) (header : Header) (reference : Reference) (named : NamedTerminal) → is_connected tills till ≡ true
    → waiting_with (key_of header reference) known.core.waits ≡ None → named_terminal known.core (key_of header reference).poi ≡ Some named → serves_key known.kept (key_of header reference) named.terminal ≡ true
    → IsToStop named.number till header reference (row_of tills known (Asked till (Request header (requests.Abort reference))))

-- what waits is to be taken out
abbrev pub IsToBeTakenOut : ℕ → ℕ → Header → Reference → Row → Type 0
IsToBeTakenOut number till header reference row = (row.items ≡ Queue number till header (requests.Abort reference) ∷ []) × (row.calls ≡ [])

-- an Abort of a till that is there, of a key that waits, takes out what waits, whatever a terminal serves
abbrev pub WaitingIsToBeTakenOut : Type 0
WaitingIsToBeTakenOut =
    (tills : List Connection) (known : Known) (till : ℕ) (header : Header) (reference : Reference) (wait : Wait) → is_connected tills till ≡ true
    → waiting_with (key_of header reference) known.core.waits ≡ Some wait
    → IsToBeTakenOut wait.pt till header reference (row_of tills known (Asked till (Request header (requests.Abort reference))))

-- the terminal that the key's POIID names, where there is one, doesn't serve it
abbrev pub IsUnserved : Known → Header → Reference → Type 0
IsUnserved known header reference =
    (named : NamedTerminal) → named_terminal known.core (key_of header reference).poi ≡ Some named → serves_key known.kept (key_of header reference) named.terminal ≡ false

-- one of a key that doesn't wait, and that no terminal serves, begins nothing
abbrev pub UnservedStopsNothing : Type 0
UnservedStopsNothing =
    (tills : List Connection) (known : Known) (till : ℕ) (header : Header) (reference : Reference) → waiting_with (key_of header reference) known.core.waits ≡ None → IsUnserved known header reference
    → (row_of tills known (Asked till (Request header (requests.Abort reference)))).items ≡ []

-- ---- what may be stopped

-- what may be stopped: a payment, a reversal or an end of day, and never a display
abbrev pub IsStoppable : Service → Type 0
IsStoppable (Transaction slot) = Unit {0}
IsStoppable (EndOfDay header period) = Unit {0}
IsStoppable (Display header results) = ⊥

-- a terminal that serves a display serves no key, so that no Abort stops it
abbrev pub DisplayServesNoKey : Type 0
DisplayServesNoKey =
    (kept : List Record) (key : Key) (terminal : Terminal) (header : Header) (results : Option (List Shown)) (last : ℕ) → terminal.standing ≡ Serving (Display header results) last → serves_key kept key terminal ≡ false

-- ---- the stop

-- the command is the stop
abbrev pub is_stop : Command → Bool
is_stop (commands.Register password config currency) = false
is_stop (commands.Authorise amount currency) = false
is_stop (commands.Enquire password) = false
is_stop (commands.Reverse password receipt) = false
is_stop (commands.EndOfDay password) = false
is_stop commands.Stop = true
is_stop (commands.Show lines) = false

-- what is sent is the stop
abbrev pub is_stop_asked : Sending → Bool
is_stop_asked (Ask command) = is_stop command
is_stop_asked Acknowledge = false
is_stop_asked Refuse = false

-- one of these calls sends the stop
abbrev pub owes_stop : List OwedCall → Bool
owes_stop [] = false
owes_stop (SendTill till reply ∷ calls) = owes_stop calls
owes_stop (SendPt number sending ∷ calls) = is_stop_asked sending || owes_stop calls
owes_stop (CutTill till ∷ calls) = owes_stop calls
owes_stop (CutPt number ∷ calls) = owes_stop calls
owes_stop (LinkPt number ∷ calls) = owes_stop calls
owes_stop (WriteBody slot the_record ∷ calls) = owes_stop calls
owes_stop (WriteGate slot the_record ∷ calls) = owes_stop calls
owes_stop (WriteFirstGate ∷ calls) = owes_stop calls
owes_stop (Sync ∷ calls) = owes_stop calls

-- the terminal of this number serves the key that an Abort names, in this dialogue
pub record ServesAborted (known : Known) (number : ℕ) (header : Header) (reference : Reference) (terminal : Terminal) (talk : TalkFacts) : Type 0 where
  pub found : terminal_at known number ≡ Some terminal
  pub serves : serves_key known.kept (key_of header reference) terminal ≡ true
  pub talk_is : terminal.talk ≡ Some talk

-- the row has this terminal with its dialogue in this phase, and so many Acks and Nacks awaited, and owes these calls; its standing and its till stay
pub record GoesOnIn (number : ℕ) (terminal : Terminal) (talk : TalkFacts) (phase : Phase) (awaited : ℕ) (calls : List OwedCall) (row : Row) : Type 0 where
  pub terminal_is : slice_get row.core.terminals number ≡ Some (record terminal { talk = Some (record talk { phase = phase }); awaited = awaited })
  pub calls_are : row.calls ≡ calls

-- the stop is sent to a terminal of this number
abbrev pub stop_calls : ℕ → List OwedCall
stop_calls number = SendPt number (Ask commands.Stop) ∷ []

-- an Abort of a key that is served, whose command is acknowledged, sends `06 B0`, where none was sent in the dialogue; one more Ack or Nack is awaited then
abbrev pub BegunIsStopped : Type 0
BegunIsStopped =
    (known : Known) (number till : ℕ) (header : Header) (reference : Reference) (terminal : Terminal) (talk : TalkFacts) (statuses : Statuses) → ServesAborted known number header reference terminal talk
    → talk.phase ≡ phases.Begun false statuses
    → GoesOnIn number terminal talk (phases.Begun true statuses) (one_more_awaited terminal.awaited) (stop_calls number) (terminal_row known (Serve number till header (requests.Abort reference)))

-- where the command isn't acknowledged yet the stop is wished, and nothing is sent
abbrev pub AskedIsWished : Type 0
AskedIsWished =
    (known : Known) (number till : ℕ) (header : Header) (reference : Reference) (terminal : Terminal) (talk : TalkFacts) (stop_wished : Bool) → ServesAborted known number header reference terminal talk
    → talk.phase ≡ phases.Asked stop_wished
    → GoesOnIn number terminal talk (phases.Asked true) terminal.awaited [] (terminal_row known (Serve number till header (requests.Abort reference)))

-- a stop that is wished is sent as soon as the command of a payment, a reversal or an end of day is acknowledged
pub record SendsWished (number : ℕ) (terminal : Terminal) (row : Row) : Type 0 where
  pub next : Terminal
  pub found : slice_get row.core.terminals number ≡ Some next
  pub standing_is : next.standing ≡ terminal.standing
  pub sent : was_stopped next.talk ≡ true
  pub calls_are : row.calls ≡ stop_calls number

-- so it is with each Ack of a terminal that serves one
abbrev pub WishedIsSent : Type 0
WishedIsSent =
    (known : Known) (number : ℕ) (apdu : ApduValue) (terminal : Terminal) (service : Service) (last : ℕ) (talk : TalkFacts) → terminal_at known number ≡ Some terminal → terminal.standing ≡ Serving service last
    → IsStoppable service → HasItsDialogue terminal → terminal.talk ≡ Some talk → talk.phase ≡ phases.Asked true → decode_pt_message apdu ≡ Ok Ack
    → SendsWished number terminal (handle_row known number apdu)

-- where the stop was sent an Abort sends nothing more
abbrev pub StoppedIsNotStoppedAgain : Type 0
StoppedIsNotStoppedAgain =
    (known : Known) (number till : ℕ) (header : Header) (reference : Reference) (terminal : Terminal) (talk : TalkFacts) (statuses : Statuses) → ServesAborted known number header reference terminal talk
    → talk.phase ≡ phases.Begun true statuses
    → GoesOnIn number terminal talk (phases.Begun true statuses) terminal.awaited [] (terminal_row known (Serve number till header (requests.Abort reference)))

-- The row sends its terminal the first stop of its dialogue: the terminal serves a payment, a reversal or an end of day, in which none was sent before, and one has been from here on; nothing else is owed.
pub record IsFirstStop (known : Known) (number : ℕ) (row : Row) : Type 0 where
  pub terminal : Terminal
  pub found : terminal_at known number ≡ Some terminal
  pub service : Service
  pub last : ℕ
  pub serves : terminal.standing ≡ Serving service last
  pub stoppable : IsStoppable service
  pub before : was_stopped terminal.talk ≡ false
  pub next : Terminal
  pub next_is : slice_get row.core.terminals number ≡ Some next
  pub stays : next.standing ≡ terminal.standing
  pub after : was_stopped next.talk ≡ true
  pub calls_are : row.calls ≡ stop_calls number

-- each row that sends a stop sends the first of its dialogue, and one that begins another dialogue sends none
abbrev pub EachStopIsTheFirst : Type 0
EachStopIsTheFirst =
    (known : Known) (item : RoundItem) (number : ℕ) → terminal_of item ≡ Some number → ((terminal : Terminal) → terminal_at known number ≡ Some terminal → HasItsDialogue terminal)
    → owes_stop (terminal_row known item).calls ≡ true → IsFirstStop known number (terminal_row known item)

-- ---- what it leaves as it is

-- the row leaves the standings of the terminals and the tills that they serve, keeps no record, sends no till anything, and begins nothing
pub record KeepsServing (known : Known) (row : Row) : Type 0 where
  pub standings : (number : ℕ) → option_map (λ (terminal : Terminal). terminal.standing) (slice_get row.core.terminals number) ≡ option_map (λ (terminal : Terminal). terminal.standing) (slice_get known.core.terminals number)
  pub askers : (number : ℕ) → option_map (λ (terminal : Terminal). terminal.asker) (slice_get row.core.terminals number) ≡ option_map (λ (terminal : Terminal). terminal.asker) (slice_get known.core.terminals number)
  pub kept_none : records_kept row.calls ≡ []
  pub no_reply : sends_till row.calls ≡ false
  pub none_more : row.items ≡ []

-- a stop ends no key: no record is kept, no till gets a reply, and each terminal serves what it served, for the same till
abbrev pub StopEndsNothing : Type 0
StopEndsNothing = (known : Known) (number till : ℕ) (header : Header) (reference : Reference) → KeepsServing known (terminal_row known (Serve number till header (requests.Abort reference)))

-- and so does an Abort as it is read: it changes nothing that is remembered, and keeps no record
pub record AbortEndsNothing (known : Known) (row : Row) : Type 0 where
  pub core_is : row.core ≡ known.core
  pub kept_none : records_kept row.calls ≡ []

-- whatever it names
abbrev pub EachAbortEndsNothing : Type 0
EachAbortEndsNothing =
    (tills : List Connection) (known : Known) (till : ℕ) (header : Header) (reference : Reference) → AbortEndsNothing known (row_of tills known (Asked till (Request header (requests.Abort reference))))

-- ---- the Ack or Nack of a stop in its own dialogue

-- The terminal serves the same for the same till, with its dialogue in the same phase, whose next silence begins, and one Ack or Nack less is awaited, where one was. The row keeps no record, sends nothing, and begins nothing.
pub record StaysBegun (known : Known) (number : ℕ) (terminal : Terminal) (talk : TalkFacts) (row : Row) : Type 0 where
  pub terminal_is :
      slice_get row.core.terminals number
      ≡ Some (record terminal { talk = Some (record talk { deadline = pos known.moment +ℤ pos talk.command_time }); awaited = one_less_awaited terminal.awaited })
  pub calls_are : row.calls ≡ []
  pub none_more : row.items ≡ []

-- an Ack or a Nack in the dialogue of a payment, a reversal or an end of day that is begun ends nothing: it is that of a stop, or of nothing
abbrev pub AckOrNackEndsNothing : Type 0
AckOrNackEndsNothing =
    (known : Known) (number : ℕ) (apdu : ApduValue) (message : MessageValue) (terminal : Terminal) (service : Service) (last : ℕ) (talk : TalkFacts) (stop_sent : Bool) (statuses : Statuses)
    → terminal_at known number ≡ Some terminal → terminal.standing ≡ Serving service last → IsStoppable service → terminal.talk ≡ Some talk → talk.phase ≡ phases.Begun stop_sent statuses
    → decode_pt_message apdu ≡ Ok message → IsAckOrNack message → StaysBegun known number terminal talk (handle_row known number apdu)

-- ---- the end after a stop

-- the code 6C of an abort at the terminal is `Aborted` after a stop, and else `Cancel`
abbrev pub AbortCodeIsKept : Type 0
AbortCodeIsKept =
    (known : Known) (number : ℕ) (apdu : ApduValue) (terminal : Terminal) (slot last : ℕ) (reported : Option ℕ) → MeansAt known number apdu terminal slot last (heard.Declined 0x6C reported)
    → GoesOnTo number (Ready (last_after_decline last reported))
    (outcome_calls known terminal
    (record { approved = false; slot = slot; number = 0; receipt = 0; amount = 0; condition = Some (if was_stopped terminal.talk then Aborted else Cancel); moment = pos known.moment }))
    (handle_row known number apdu)

-- so it is of an end of day, of which nothing is kept: its till gets a Failure with that condition
abbrev pub AbortCodeOfDayIsReplied : Type 0
AbortCodeOfDayIsReplied =
    (known : Known) (number : ℕ) (apdu : ApduValue) (terminal : Terminal) (header : Header) (period : Period) (last : ℕ) (reported : Option ℕ)
    → MeansServed known number apdu terminal (EndOfDay header period) last (heard.Declined 0x6C reported)
    → GoesOnTo number (Ready last) (reply_calls_to terminal.asker (Some (failure_reply header (if was_stopped terminal.talk then Aborted else Cancel)))) (handle_row known number apdu)

-- ---- the late refusal of a stop

-- nothing is kept, and no till gets a reply
pub record DeclinesNothing (row : Row) : Type 0 where
  pub kept_none : records_kept row.calls ≡ []
  pub no_reply : sends_till row.calls ≡ false

-- A refusal that may be that of an earlier command of the link declines nothing: so it is where the transcript has more than one command, counted as they come, whose Ack or Nack didn't come yet.
abbrev pub LateRefusalDeclinesNothing : Type 0
LateRefusalDeclinesNothing =
    (known : Known) (number : ℕ) (apdu : ApduValue) (error_code : ℕ) (transcript : List Carried) → FollowsTranscript number transcript known.core → decode_pt_message apdu ≡ Ok (Nack error_code)
    → 2 ≤ awaited_by transcript → DeclinesNothing (handle_row known number apdu)
