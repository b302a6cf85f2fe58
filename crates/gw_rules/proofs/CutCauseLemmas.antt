-- Why a terminal is cut in a lawful log.
use Rattle.std.proofs.Common.{◌≡◌, ℕ, ◌+◌, List, [], ◌∷◌, ◌++◌, refl, sym, ◌∙◌, ap, subst, true, false, inl, inr, append_assoc, append-nil}
use Rattle.std.proofs.lemmas.Bool.{and_parts}
use Rattle.std.specs.Prelude.{Bool, ◌⊎◌, nat_lt, if◌then◌else◌, length, map, Option, Some, None, Result, Ok, Err}
use Rattle.std.specs.List.{flat_map}
use Rattle.gw_base.specs.declared.key.Key.{Key}
use Rattle.gw_base.specs.declared.setup.Setup.{Setup}
use Rattle.gw_bytes.specs.Bytes.{AreBytes}
use Rattle.gw_bytes.proofs.ByteLemmas.{bytes_prefix}
use Rattle.gw_site.specs.Outside.{Connection, Outside, is_connected, heard_on, outside_of}
use Rattle.gw_site.specs.Sorts.{AreOfRound, is_sort_of_round, sort_of, is_between}
use Rattle.gw_site.specs.declared.turn.Turn.{Turn}
use Rattle.gw_site.specs.declared.turn.Turn.TheVariants.{Start, OpenFailed, Polled, Opened, HeardTill, Closed, HeardPt, Lost, Stopped, Linked, LinkFailed, SentTill, SentPt, CutTill, CutPt, Wrote, Synced, DiskFailed, Crash}
use Rattle.sale_values.specs.declared.header.Header.{Header}
use Rattle.sale_values.specs.declared.request.SaleRequest.{SaleRequest}
use Rattle.sale_frame.specs.Decode.{DecodedFrames, decode_after, decode_frames}
use Rattle.sale_frame.specs.Grammar.{Frames}
use Rattle.sale_frame.proofs.DecodeLemmas.{chunks_add, reads_all}
use Rattle.zvt_apdu.specs.DecodeStream.{decode_apdus}
use Rattle.zvt_apdu.specs.Grammar.{ApduValue}
use Rattle.zvt_apdu.specs.Stream.{SpellsApdus, IsEndOfApdus}
use Rattle.zvt_apdu.proofs.DecodeStreamLemmas.{split_is}
use Rattle.zvt_msg.specs.Message.{MessageValue}
use Rattle.zvt_msg.specs.MessageDecode.{decode_pt_message}
use Rattle.zvt_msg.specs.declared.fault.PtFault.{PtFault}
use Rattle.jrn_record.specs.declared.records.How.TheVariants as hows
use Rattle.gw_owes.specs.Calls.{Sending, OwedCall, SendTill, SendPt, LinkPt, WriteBody, WriteGate, WriteFirstGate, Sync, write_turn, CutTill as OwedCutTill, CutPt as OwedCutPt}
use Rattle.gw_owes.specs.Core.{Core, Wait}
use Rattle.gw_owes.specs.Deadlines.{is_late, is_due, late_row, due_row}
use Rattle.gw_owes.specs.Events.{till_opened_items, has_bad_length, decoded_items, apdu_items, pt_bytes_items, for_each_terminal, waits_by_deadline, items_due}
use Rattle.gw_owes.specs.Greeting.{greeting, sending_calls, greet_decoded, oversized_row}
use Rattle.gw_owes.specs.Handling.{taking, handle_row}
use Rattle.gw_owes.specs.Items.{RoundItem, Crowded, Message, Asked, Unframed, Gone, Greet, Handle, Serve, Queue, NextWaiting, Oversized, LinkLost, Late, Overdue, Due}
use Rattle.gw_owes.specs.Laws.{BringsApdus}
use Rattle.gw_owes.specs.Links.{LinkIsMade, LinkIsLost, cutting}
use Rattle.gw_owes.specs.Payments.{serve_row}
use Rattle.gw_owes.specs.ReadAs.{ReadAs, Request, IsReadAs}
use Rattle.gw_owes.specs.Reconciliations.{reply_to_settled, settled_of}
use Rattle.gw_owes.specs.Reply.{ReplyValue}
use Rattle.gw_owes.specs.Requests.{begun_by, reply_to}
use Rattle.gw_owes.specs.Row.{Known, Row, owing, owing_where}
use Rattle.gw_owes.specs.Rows.{asked_row, row_of}
use Rattle.gw_owes.specs.Serving.{reply_to_outcome}
use Rattle.gw_owes.specs.TerminalLaws.{owes_cut, BreaksDialogue, IsLateAt, MayCut}
use Rattle.gw_owes.specs.TerminalRows.{terminal_of}
use Rattle.gw_owes.specs.Terminals.{reply_calls_to, link_made, link_lost}
use Rattle.gw_owes.specs.WaitingRows.{next_waiting_row, overdue_row, queue_row}
use Rattle.gw_owes.specs.declared.terminal.Terminal.{Terminal}
use Rattle.gw_owes.proofs.ApduLemmas.{pt-bytes-give}
use Rattle.gw_owes.proofs.HandlingLemmas.{by-where, each-terminal, each-linked}
use Rattle.gw_owes.proofs.NextLemmas.{each-next, each-overdue, each-queued}
use Rattle.gw_owes.proofs.PaymentLemmas.{each-served}
use Rattle.gw_owes.proofs.TerminalLemmas.{cuts-have-cause, no-link-event-cuts}
use Rattle.gw_rules.specs.CutCauses.{HasSaidInRound, HasSaidApdu, HasBegunTooLong, BeginsCut, CutCause, SendFailed, SaidOutside, BegunTooLong, BrokeDialogue, DeadlineCame, EachPtCutHasCause, FailedSendCuts}
use Rattle.gw_rules.specs.Lawful.{first_call, first_message, Begins, AllowedTurn, IsCourse, turns_of, Stands}
use Rattle.gw_rules.specs.LinkLaws.{HasSaid}
use Rattle.gw_rules.specs.Scene.{Scene, records_of, known_in, row_in, link_made_at, link_lost_at}
use Rattle.gw_rules.specs.Stage.{AtPoll, is_looking}
use Rattle.gw_rules.specs.TillRounds.{HasSaidMessage, HasAsked}
use Rattle.gw_rules.specs.View.{View, Move, Begin, Read, Make, later, read_first, after, after_turn, view_from, at_first}
use Rattle.gw_rules.proofs.CourseLemmas.{stands-more, stands-outside}
use Rattle.gw_rules.proofs.HeardLemmas.{heard-bytes, bytes-append, stands-bytes}
use Rattle.gw_rules.proofs.KeptLemmas.{BeginsFirst, begins-first, left-alone}
use Rattle.gw_rules.proofs.LinkLawLemmas.{busy-not-poll, same-call}
use Rattle.gw_rules.proofs.LinkStateLemmas.{all_look, each-look, is_look, is_message, may_bring_more}
use Rattle.gw_rules.proofs.LinkedLemmas.{Agrees, call-setup, made-at-turns, lost-at-turns, first-agrees, course-agrees, round-setup}
use Rattle.gw_rules.proofs.OpeningLemmas.{other-not-looking, course-disk, first-owes-disk}
use Rattle.gw_rules.proofs.OpensLemmas.{opens-cut-none}
use Rattle.gw_rules.proofs.OutsideCutLemmas.{in-owes}
use Rattle.gw_rules.proofs.RowFormLemmas.{EachForm, form-handled, form-begun}
use Rattle.gw_rules.proofs.SetupLemmas.{HasSetup}
use Rattle.gw_rules.proofs.SplitLemmas.{SplitAt, split-log}
use Rattle.gw_rules.proofs.StageLemmas.{no-true, no-call}
use Rattle.gw_rules.proofs.UnlawfulLemmas.{take-owed}

-- ---- rows

-- where the row cuts, it cuts this terminal, and owes nothing else
abbrev CutsAlone : ℕ → Row → Type 0
CutsAlone number row = owes_cut row.calls ≡ true → row.calls ≡ OwedCutPt number ∷ []

-- the till's reply cuts no terminal
reply-cuts-none : (asker : Option ℕ) (reply : Option ReplyValue) → owes_cut (reply_calls_to asker reply) ≡ false
reply-cuts-none None reply = refl
reply-cuts-none (Some till) None = refl
reply-cuts-none (Some till) (Some reply) = refl

forms-alone : (known : Known) (number : ℕ) (terminal : Terminal) → EachForm (CutsAlone number) known number terminal
forms-alone known number terminal = record {
  nothing = λ cuts. no-true cuts;
  stays = λ cuts. no-true cuts;
  cuts = λ cuts. refl;
  stops = λ cuts. no-true cuts;
  enquires = λ cuts. no-true cuts;
  rests = λ standing linked cuts. no-true cuts;
  resolves = λ standing outcome linked cuts. no-true (sym (reply-cuts-none terminal.asker (reply_to_outcome known.kept outcome.slot outcome)) ∙ cuts);
  settles = λ last settled cuts. no-true (sym (reply-cuts-none terminal.asker (reply_to_settled known.kept settled)) ∙ cuts);
  replies = λ last reply cuts. no-true (sym (reply-cuts-none terminal.asker reply) ∙ cuts);
  requests = λ till request asks cuts. no-true cuts;
}

handle-alone : (known : Known) (number : ℕ) (apdu : ApduValue) → CutsAlone number (handle_row known number apdu)
handle-alone known number apdu =
    form-handled (CutsAlone number) known number apdu (λ cuts. no-true cuts) (λ terminal message found linked is taken. forms-alone known number (taking terminal message known.moment))

sends-alone : (known : Known) (number : ℕ) (sending : Option Sending) → CutsAlone number (owing known (sending_calls number sending))
sends-alone known number None cuts = no-true cuts
sends-alone known number (Some sending) cuts = no-true cuts

greet-alone : (known : Known) (number : ℕ) (decoded : Result MessageValue PtFault) → CutsAlone number (greet_decoded known number decoded)
greet-alone known number (Ok message) =
    each-linked (CutsAlone number) known number (λ terminal. owing known (sending_calls number (greeting message))) (λ cuts. no-true cuts) (λ terminal found linked. sends-alone known number (greeting message))
greet-alone known number (Err fault) = each-linked (CutsAlone number) known number (λ terminal. cutting known number) (λ cuts. no-true cuts) (λ terminal found linked cuts. refl)

oversized-alone : (known : Known) (number : ℕ) → CutsAlone number (oversized_row known number)
oversized-alone known number = each-linked (CutsAlone number) known number (λ terminal. cutting known number) (λ cuts. no-true cuts) (λ terminal found linked cuts. refl)

late-alone : (known : Known) (number : ℕ) → CutsAlone number (late_row known number)
late-alone known number =
    each-terminal (CutsAlone number) known number (λ terminal. owing_where (is_late known.moment terminal.talk) known (cutting known number)) (λ cuts. no-true cuts)
    (λ terminal found. by-where (CutsAlone number) known (cutting known number) (is_late known.moment terminal.talk) (λ cuts. no-true cuts) (λ late cuts. refl))

-- the row cuts no terminal
abbrev CutsNone : Row → Type 0
CutsNone row = owes_cut row.calls ≡ false

due-none : (known : Known) (number : ℕ) → CutsNone (due_row known number)
due-none known number =
    each-terminal CutsNone known number (λ terminal. owing_where (is_due known.moment terminal.standing) known (owing known (LinkPt number ∷ []))) refl
    (λ terminal found. by-where CutsNone known (owing known (LinkPt number ∷ [])) (is_due known.moment terminal.standing) refl (λ due. refl))

asked-none : (tills : List Connection) (known : Known) (till : ℕ) (as_read : ReadAs) → CutsNone (owing_where (is_connected tills till) known (asked_row known till as_read))
asked-none tills known till as_read = by-where CutsNone known (asked_row known till as_read) (is_connected tills till) refl (λ there. reply-cuts-none (Some till) (reply_to known as_read))

unframed-none : (tills : List Connection) (known : Known) (till : ℕ) → CutsNone (owing_where (is_connected tills till) known (owing known (OwedCutTill till ∷ [])))
unframed-none tills known till = by-where CutsNone known (owing known (OwedCutTill till ∷ [])) (is_connected tills till) refl (λ there. refl)

serve-none : (known : Known) (number till : ℕ) (header : Header) (request : SaleRequest) → CutsNone (serve_row known number till header request)
serve-none known number till header request = each-served CutsNone known number till header request (record {
  none = refl;
  begins = λ terminal last asking at. refl;
  sent = λ terminal talk at now. refl;
  wished = λ terminal talk at later. refl;
  session = λ success. refl;
  settles = λ terminal at. reply-cuts-none (Some till) (reply_to_settled known.kept (settled_of hows.Sale header terminal.pt.currency known.moment));
  day = λ terminal last at. refl;
  displays = λ terminal last outputs command at. refl;
})

queue-none : (known : Known) (number till : ℕ) (header : Header) (request : SaleRequest) → CutsNone (queue_row known number till header request)
queue-none known number till header request = each-queued CutsNone known number till header request (record { none = refl; joins = λ terminal key at. refl; taken = λ wait at. refl })

overdue-none : (known : Known) (key : Key) → CutsNone (overdue_row known key)
overdue-none known key = each-overdue CutsNone known key (record { none = refl; taken = λ wait is overdue. refl })

next-none : (known : Known) (number : ℕ) → CutsNone (next_waiting_row known number)
next-none known number = each-next CutsNone known number (record {
  none = refl;
  refused = λ terminal last wait condition first is. refl;
  begins = λ terminal last wait asking at. refl;
  day = λ terminal last wait at. refl;
  left = λ terminal last wait first. refl;
})

-- an item that cuts is of the terminal that it cuts, owes nothing else, and has a cause
record OwesCut (tills : List Connection) (known : Known) (item : RoundItem) : Type 0 where
  pt : ℕ
  of_it : terminal_of item ≡ Some pt
  calls_are : (row_of tills known item).calls ≡ OwedCutPt pt ∷ []
  cause : MayCut known item

row-cuts : (tills : List Connection) (known : Known) (item : RoundItem) → owes_cut (row_of tills known item).calls ≡ true → OwesCut tills known item
row-cuts tills known (Crowded till) cuts = no-true cuts
row-cuts tills known (Message till bytes) cuts = no-true cuts
row-cuts tills known (Asked till as_read) cuts = no-true (sym (asked-none tills known till as_read) ∙ cuts)
row-cuts tills known (Unframed till) cuts = no-true (sym (unframed-none tills known till) ∙ cuts)
row-cuts tills known (Gone till) cuts = no-true cuts
row-cuts tills known (Greet number apdu) cuts = record { pt = number; of_it = refl; calls_are = greet-alone known number (decode_pt_message apdu) cuts; cause = cuts-have-cause known (Greet number apdu) cuts }
row-cuts tills known (Handle number apdu) cuts = record { pt = number; of_it = refl; calls_are = handle-alone known number apdu cuts; cause = cuts-have-cause known (Handle number apdu) cuts }
row-cuts tills known (Serve number till header request) cuts = no-true (sym (serve-none known number till header request) ∙ cuts)
row-cuts tills known (Queue number till header request) cuts = no-true (sym (queue-none known number till header request) ∙ cuts)
row-cuts tills known (NextWaiting number) cuts = no-true (sym (next-none known number) ∙ cuts)
row-cuts tills known (Oversized number) cuts = record { pt = number; of_it = refl; calls_are = oversized-alone known number cuts; cause = tt }
row-cuts tills known (LinkLost number) cuts = no-true (sym (no-link-event-cuts known number LinkIsLost) ∙ cuts)
row-cuts tills known (Late number) cuts = record { pt = number; of_it = refl; calls_are = late-alone known number cuts; cause = cuts-have-cause known (Late number) cuts }
row-cuts tills known (Overdue key) cuts = no-true (sym (overdue-none known key) ∙ cuts)
row-cuts tills known (Due number) cuts = no-true (sym (due-none known number) ∙ cuts)

-- ---- items that the bytes of the round bring

-- what the terminal or the till has said, where the item is of that
abbrev pub IsBrought : List Turn → RoundItem → Type 0
IsBrought log (Crowded till) = Unit {0}
IsBrought log (Message till bytes) = HasSaidMessage log till bytes
IsBrought log (Asked till as_read) = HasAsked log till as_read
IsBrought log (Unframed till) = Unit {0}
IsBrought log (Gone till) = Unit {0}
IsBrought log (Greet pt apdu) = HasSaidApdu log pt apdu
IsBrought log (Handle pt apdu) = HasSaidApdu log pt apdu
IsBrought log (Serve pt till header request) = HasAsked log till (Request header request)
IsBrought log (Queue pt till header request) = HasAsked log till (Request header request)
IsBrought log (NextWaiting pt) = Unit {0}
IsBrought log (Oversized pt) = HasBegunTooLong log pt
IsBrought log (LinkLost pt) = Unit {0}
IsBrought log (Late pt) = Unit {0}
IsBrought log (Overdue key) = Unit {0}
IsBrought log (Due pt) = Unit {0}

abbrev pub AreBrought : List Turn → List RoundItem → Type 0
AreBrought log [] = Unit {0}
AreBrought log (item ∷ items) = IsBrought log item × AreBrought log items

-- what a message begins is of what was asked
begun-brought : (log : List Turn) (known : Known) (till : ℕ) (as_read : ReadAs) → HasAsked log till as_read → AreBrought log (begun_by known till as_read)
begun-brought log known till as_read asked = form-begun (AreBrought log) known till tt as_read (λ number header request is. (subst (HasAsked log till) is asked, tt)) (λ number header request is. (subst (HasAsked log till) is asked, tt))

brought-append : (log : List Turn) (items more : List RoundItem) → AreBrought log items → AreBrought log more → AreBrought log (items ++ more)
brought-append log [] more h k = k
brought-append log (item ∷ items) more h k = (h.0, brought-append log items more h.1 k)

round-append : (turns : List Turn) (turn : Turn) → AreOfRound turns → is_sort_of_round (sort_of turn) ≡ true → AreOfRound (turns ++ turn ∷ [])
round-append [] turn a e = (e, tt)
round-append (first ∷ turns) turn a e = (a.0, round-append turns turn a.1 e)

said-later : (log : List Turn) (pt : ℕ) (new : List ApduValue) (left : List ℕ) (turn : Turn) → is_sort_of_round (sort_of turn) ≡ true → HasSaidInRound log pt new left → HasSaidInRound (log ++ turn ∷ []) pt new left
said-later log pt new left turn e s = record {
  before = s.before;
  chunk = s.chunk;
  inside = s.inside ++ turn ∷ [];
  log_is = ap (λ l. l ++ turn ∷ []) s.log_is ∙ append_assoc s.before (HeardPt pt s.chunk ∷ s.inside) (turn ∷ []);
  round = round-append s.inside turn s.round e;
  said = s.said;
}

apdu-later : (log : List Turn) (pt : ℕ) (apdu : ApduValue) (turn : Turn) → is_sort_of_round (sort_of turn) ≡ true → HasSaidApdu log pt apdu → HasSaidApdu (log ++ turn ∷ []) pt apdu
apdu-later log pt apdu turn e s = record { earlier = s.earlier; later = s.later; left = s.left; said = said-later log pt (s.earlier ++ apdu ∷ s.later) s.left turn e s.said }

message-later : (log : List Turn) (till : ℕ) (payload : List ℕ) (turn : Turn) → is_sort_of_round (sort_of turn) ≡ true → HasSaidMessage log till payload → HasSaidMessage (log ++ turn ∷ []) till payload
message-later log till payload turn e s = record {
  before = s.before;
  chunk = s.chunk;
  inside = s.inside ++ turn ∷ [];
  log_is = ap (λ l. l ++ turn ∷ []) s.log_is ∙ append_assoc s.before (HeardTill till s.chunk ∷ s.inside) (turn ∷ []);
  round = round-append s.inside turn s.round e;
  said = s.said;
  rest = s.rest;
  spelled = s.spelled;
  earlier = s.earlier;
  later = s.later;
  left = s.left;
  all = s.all;
}

asked-later : (log : List Turn) (till : ℕ) (as_read : ReadAs) (turn : Turn) → is_sort_of_round (sort_of turn) ≡ true → HasAsked log till as_read → HasAsked (log ++ turn ∷ []) till as_read
asked-later log till as_read turn e a = record { payload = a.payload; said = message-later log till a.payload turn e a.said; reads = a.reads }

item-later : (log : List Turn) (item : RoundItem) (turn : Turn) → is_sort_of_round (sort_of turn) ≡ true → IsBrought log item → IsBrought (log ++ turn ∷ []) item
item-later log (Crowded till) turn e h = tt
item-later log (Message till bytes) turn e h = message-later log till bytes turn e h
item-later log (Asked till as_read) turn e h = asked-later log till as_read turn e h
item-later log (Unframed till) turn e h = tt
item-later log (Gone till) turn e h = tt
item-later log (Greet pt apdu) turn e h = apdu-later log pt apdu turn e h
item-later log (Handle pt apdu) turn e h = apdu-later log pt apdu turn e h
item-later log (Serve pt till header request) turn e h = asked-later log till (Request header request) turn e h
item-later log (Queue pt till header request) turn e h = asked-later log till (Request header request) turn e h
item-later log (NextWaiting pt) turn e h = tt
item-later log (Oversized pt) turn e h = record { new = h.new; left = h.left; length = h.length; said = said-later log pt h.new h.left turn e h.said; too_long = h.too_long }
item-later log (LinkLost pt) turn e h = tt
item-later log (Late pt) turn e h = tt
item-later log (Overdue key) turn e h = tt
item-later log (Due pt) turn e h = tt

-- they stay so with each turn of the round
items-later : (log : List Turn) (items : List RoundItem) (turn : Turn) → is_sort_of_round (sort_of turn) ≡ true → AreBrought log items → AreBrought (log ++ turn ∷ []) items
items-later log [] turn e h = tt
items-later log (item ∷ items) turn e h = (item-later log item turn e h.0, items-later log items turn e h.1)

-- the first was read
read-brought : (log : List Turn) (as_read : ReadAs) (items : List RoundItem) (bytes : List ℕ) → first_message items ≡ Some bytes → IsReadAs bytes as_read → AreBrought log items → AreBrought log (read_first as_read items)
read-brought log as_read [] bytes message reads h = tt
read-brought log as_read (Crowded till ∷ items) bytes message reads h = h
read-brought log as_read (Message till payload ∷ items) bytes message reads h =
    let same : bytes ≡ payload = (let n : Some payload ≡ Some bytes = message in cc) in
    (record { payload = payload; said = h.0; reads = subst (λ b. IsReadAs b as_read) same reads }, h.1)
read-brought log as_read (Asked till other ∷ items) bytes message reads h = h
read-brought log as_read (Unframed till ∷ items) bytes message reads h = h
read-brought log as_read (Gone till ∷ items) bytes message reads h = h
read-brought log as_read (Greet pt apdu ∷ items) bytes message reads h = h
read-brought log as_read (Handle pt apdu ∷ items) bytes message reads h = h
read-brought log as_read (Serve pt till header request ∷ items) bytes message reads h = h
read-brought log as_read (Queue pt till header request ∷ items) bytes message reads h = h
read-brought log as_read (NextWaiting pt ∷ items) bytes message reads h = h
read-brought log as_read (Oversized pt ∷ items) bytes message reads h = h
read-brought log as_read (LinkLost pt ∷ items) bytes message reads h = h
read-brought log as_read (Late pt ∷ items) bytes message reads h = h
read-brought log as_read (Overdue key ∷ items) bytes message reads h = h
read-brought log as_read (Due pt ∷ items) bytes message reads h = h

looks-brought : (log : List Turn) (items : List RoundItem) → all_look items ≡ true → AreBrought log items
looks-brought log [] e = tt
looks-brought log (item ∷ items) e =
    let p = and_parts (is_look item) (all_look items) e in
    (each-look (IsBrought log) item p.0 (λ number. tt), looks-brought log items p.1)

each-brought : (log : List Turn) (number : ℕ) (item : ℕ → RoundItem) (terminals : List Terminal) → ((n : ℕ) → IsBrought log (item n)) → AreBrought log (for_each_terminal number item terminals)
each-brought log number item [] each = tt
each-brought log number item (terminal ∷ terminals) each = (each number, each-brought log (number + 1) item terminals each)

overdue-brought : (log : List Turn) (waits : List Wait) → AreBrought log (map (λ (wait : Wait). Overdue wait.key) waits)
overdue-brought log [] = tt
overdue-brought log (wait ∷ waits) = (tt, overdue-brought log waits)

due-brought : (log : List Turn) (core : Core) → AreBrought log (items_due core)
due-brought log core =
    brought-append log (for_each_terminal 0 Late core.terminals) (map (λ (wait : Wait). Overdue wait.key) (waits_by_deadline core.waits) ++ for_each_terminal 0 Due core.terminals) (each-brought log 0 Late core.terminals (λ n. tt))
    (brought-append log (map (λ (wait : Wait). Overdue wait.key) (waits_by_deadline core.waits)) (for_each_terminal 0 Due core.terminals) (overdue-brought log (waits_by_deadline core.waits)) (each-brought log 0 Due core.terminals (λ n. tt)))

opened-brought : (log : List Turn) (till : ℕ) (tills : List Connection) → AreBrought log (till_opened_items till tills)
opened-brought log till tills = by_test (nat_lt (length tills) 64)
  where
    by_test : (test : Bool) → AreBrought log (if test then [] else Crowded till ∷ [])
    by_test true = tt
    by_test false = (tt, tt)

messages-brought : (log : List Turn) (till : ℕ) (new earlier payloads : List (List ℕ)) → ((before later : List (List ℕ)) (payload : List ℕ) → new ≡ before ++ payload ∷ later → HasSaidMessage log till payload) → new ≡ earlier ++ payloads
    → AreBrought log (map (Message till) payloads)
messages-brought log till new earlier [] said e = tt
messages-brought log till new earlier (payload ∷ payloads) said e =
    (said earlier payloads payload e, messages-brought log till new (earlier ++ payload ∷ []) payloads said (e ∙ sym (append_assoc earlier (payload ∷ []) payloads)))

-- so are those of a till
till-brought : (log : List Turn) (v : View) (till : ℕ) (chunk : List ℕ) → Stands log v → AllowedTurn v (HeardTill till chunk)
    → AreBrought (log ++ HeardTill till chunk ∷ []) (decoded_items till (decode_after (decode_frames (heard_on v.scene.outside.tills till)).rest chunk))
till-brought log v till chunk s ok = brought-append now (map (Message till) new) _ (messages-brought now till new [] new said refl) (by_test (has_bad_length decoded.rest))
  where
    now : List Turn
    now = log ++ HeardTill till chunk ∷ []

    heard : List ℕ
    heard = heard_on v.scene.outside.tills till

    decoded : DecodedFrames
    decoded = decode_after (decode_frames heard).rest chunk

    new : List (List ℕ)
    new = decoded.payloads

    small : AreBytes (heard ++ chunk)
    small = bytes-append heard chunk (heard-bytes v.scene.outside.tills till (stands-bytes log v s).tills) ok.1.bytes

    outside : v.scene.outside ≡ outside_of log
    outside = stands-outside log v s

    old : Frames heard (decode_frames heard).payloads (decode_frames heard).rest
    old = reads_all heard (bytes_prefix heard chunk small)

    both : Frames (heard ++ chunk) ((decode_frames heard).payloads ++ new) (decode_frames (heard ++ chunk)).rest
    both = subst (λ payloads. Frames (heard ++ chunk) payloads (decode_frames (heard ++ chunk)).rest) (ap (λ (r : DecodedFrames). r.payloads) (chunks_add heard chunk)) (reads_all (heard ++ chunk) small)

    said : (before later : List (List ℕ)) (payload : List ℕ) → new ≡ before ++ payload ∷ later → HasSaidMessage now till payload
    said before later payload e = record {
      before = log;
      chunk = chunk;
      inside = [];
      log_is = refl;
      round = tt;
      said = (decode_frames heard).payloads;
      rest = (decode_frames heard).rest;
      spelled = subst (λ (o : Outside). Frames (heard_on o.tills till) (decode_frames heard).payloads (decode_frames heard).rest) outside old;
      earlier = before;
      later = later;
      left = (decode_frames (heard ++ chunk)).rest;
      all = subst (λ (o : Outside). Frames (heard_on o.tills till ++ chunk) ((decode_frames heard).payloads ++ (before ++ payload ∷ later)) (decode_frames (heard ++ chunk)).rest) outside
          (subst (λ l. Frames (heard ++ chunk) ((decode_frames heard).payloads ++ l) (decode_frames (heard ++ chunk)).rest) e both);
    }

    by_test : (test : Bool) → AreBrought now (if test then Unframed till ∷ [] else [])
    by_test true = (tt, tt)
    by_test false = tt

apdus-brought : (log : List Turn) (pt : ℕ) (left : List ℕ) (new earlier apdus : List ApduValue) → HasSaidInRound log pt new left → new ≡ earlier ++ apdus → AreBrought log (flat_map (apdu_items pt) apdus)
apdus-brought log pt left new earlier [] s e = tt
apdus-brought log pt left new earlier (apdu ∷ apdus) s e =
    let said : HasSaidApdu log pt apdu = record { earlier = earlier; later = apdus; left = left; said = subst (λ n. HasSaidInRound log pt n left) e s } in
    (said, (said, (tt, apdus-brought log pt left new (earlier ++ apdu ∷ []) apdus s (e ∙ sym (append_assoc earlier (apdu ∷ []) apdus)))))

-- so are those of newly heard bytes
heard-brought : (log : List Turn) (v : View) (pt : ℕ) (chunk : List ℕ) → Stands log v → AllowedTurn v (HeardPt pt chunk) → AreBrought (log ++ HeardPt pt chunk ∷ []) (pt_bytes_items pt (heard_on v.scene.outside.links pt) chunk)
heard-brought log v pt chunk s ok = subst (AreBrought now) (sym brings.items_are) (brought-append now (flat_map (apdu_items pt) brings.new) brings.last (apdus-brought now pt left brings.new [] brings.new said refl) (by_end new.ends))
  where
    now : List Turn
    now = log ++ HeardPt pt chunk ∷ []

    heard : List ℕ
    heard = heard_on v.scene.outside.links pt

    small : AreBytes (heard ++ chunk)
    small = bytes-append heard chunk (heard-bytes v.scene.outside.links pt (stands-bytes log v s).links) ok.1.bytes

    old : SpellsApdus heard (decode_apdus heard).apdus (decode_apdus heard).rest
    old = split_is heard (bytes_prefix heard chunk small)

    left : List ℕ
    left = (decode_apdus (heard ++ chunk)).rest

    new : SpellsApdus (heard ++ chunk) (decode_apdus (heard ++ chunk)).apdus left
    new = split_is (heard ++ chunk) small

    brings : BringsApdus pt (decode_apdus heard).apdus (decode_apdus (heard ++ chunk)).apdus (decode_apdus heard).rest left (pt_bytes_items pt heard chunk)
    brings = pt-bytes-give pt heard chunk (decode_apdus heard).apdus (decode_apdus (heard ++ chunk)).apdus (decode_apdus heard).rest left small old new

    has_said : HasSaid v.scene.outside pt chunk brings.new left
    has_said = record { before = (decode_apdus heard).apdus; rest = (decode_apdus heard).rest; spelled = old; all = subst (λ a. SpellsApdus (heard ++ chunk) a left) brings.completed new }

    said : HasSaidInRound now pt brings.new left
    said = record { before = log; chunk = chunk; inside = []; log_is = refl; round = tt; said = subst (λ (o : Outside). HasSaid o pt chunk brings.new left) (stands-outside log v s) has_said }

    by_end : IsEndOfApdus left → AreBrought now brings.last
    by_end (inl incomplete) = subst (AreBrought now) (sym (brings.incomplete incomplete)) tt
    by_end (inr (length, long)) = subst (AreBrought now) (sym (brings.too_long length long)) (record { new = brings.new; left = left; length = length; said = said; too_long = long }, tt)

-- ---- causes

-- the cause of an item that may cut
cause-of : (log : List Turn) (known : Known) (item : RoundItem) (pt : ℕ) → terminal_of item ≡ Some pt → MayCut known item → IsBrought log item → BeginsCut log pt item known → CutCause log pt
cause-of log known (Crowded till) pt of_it cause brought begins = absurd cause
cause-of log known (Message till bytes) pt of_it cause brought begins = absurd cause
cause-of log known (Asked till as_read) pt of_it cause brought begins = absurd cause
cause-of log known (Unframed till) pt of_it cause brought begins = absurd cause
cause-of log known (Gone till) pt of_it cause brought begins = absurd cause
cause-of log known (Greet other apdu) pt of_it cause brought begins =
    let same : other ≡ pt = cc in
    SaidOutside apdu cause.0 known (subst (λ n. HasSaidApdu log n apdu) same brought) (subst (λ n. BeginsCut log pt (Greet n apdu) known) same begins) cause.1
cause-of log known (Handle other apdu) pt of_it cause brought begins =
    let same : other ≡ pt = cc in
    BrokeDialogue apdu known (subst (λ n. HasSaidApdu log n apdu) same brought) (subst (λ n. BeginsCut log pt (Handle n apdu) known) same begins) (subst (λ n. BreaksDialogue known n apdu) same cause)
cause-of log known (Serve other till header request) pt of_it cause brought begins = absurd cause
cause-of log known (Queue other till header request) pt of_it cause brought begins = absurd cause
cause-of log known (NextWaiting other) pt of_it cause brought begins = absurd cause
cause-of log known (Oversized other) pt of_it cause brought begins =
    let same : other ≡ pt = cc in
    BegunTooLong known (subst (HasBegunTooLong log) same brought) (subst (λ n. BeginsCut log pt (Oversized n) known) same begins)
cause-of log known (LinkLost other) pt of_it cause brought begins = absurd cause
cause-of log known (Late other) pt of_it cause brought begins =
    let same : other ≡ pt = cc in
    DeadlineCame known (subst (λ n. BeginsCut log pt (Late n) known) same begins) (subst (IsLateAt known) same cause)
cause-of log known (Overdue key) pt of_it cause brought begins = absurd cause
cause-of log known (Due other) pt of_it cause brought begins = absurd cause

-- the cut of a terminal is owed alone, and has a cause
pub record CutOwed (log : List Turn) (calls : List OwedCall) : Type 0 where
  pt : ℕ
  calls_are : calls ≡ OwedCutPt pt ∷ []
  cause : CutCause log pt

abbrev pub NoneOrOwed : List Turn → List OwedCall → Type 0
NoneOrOwed log calls = (owes_cut calls ≡ false) ⊎ CutOwed log calls

-- what is to come was brought by the bytes of the round, and what is owed has a cause
pub record HasCauses (log : List Turn) (v : View) : Type 0 where
  pub items : AreBrought log v.items
  pub calls : NoneOrOwed log v.calls

-- ---- calls

later-none : (log : List Turn) (calls : List OwedCall) → NoneOrOwed log calls → owes_cut (later calls) ≡ false
later-none log calls (inr owed) = ap (λ c. owes_cut (later c)) owed.calls_are
later-none log [] (inl none) = refl
later-none log (SendTill till reply ∷ calls) (inl none) = none
later-none log (SendPt pt sending ∷ calls) (inl none) = none
later-none log (OwedCutTill till ∷ calls) (inl none) = none
later-none log (OwedCutPt pt ∷ calls) (inl none) = no-true (sym none)
later-none log (LinkPt pt ∷ calls) (inl none) = none
later-none log (WriteBody slot the_record ∷ calls) (inl none) = none
later-none log (WriteGate slot the_record ∷ calls) (inl none) = none
later-none log (WriteFirstGate ∷ calls) (inl none) = none
later-none log (Sync ∷ calls) (inl none) = none

none-append : (calls more : List OwedCall) → owes_cut calls ≡ false → owes_cut more ≡ false → owes_cut (calls ++ more) ≡ false
none-append [] more h k = k
none-append (SendTill till reply ∷ calls) more h k = none-append calls more h k
none-append (SendPt pt sending ∷ calls) more h k = none-append calls more h k
none-append (OwedCutTill till ∷ calls) more h k = none-append calls more h k
none-append (OwedCutPt pt ∷ calls) more h k = no-true (sym h)
none-append (LinkPt pt ∷ calls) more h k = none-append calls more h k
none-append (WriteBody slot the_record ∷ calls) more h k = none-append calls more h k
none-append (WriteGate slot the_record ∷ calls) more h k = none-append calls more h k
none-append (WriteFirstGate ∷ calls) more h k = none-append calls more h k
none-append (Sync ∷ calls) more h k = none-append calls more h k

made-none : (scene : Scene) (pt : ℕ) → owes_cut (link_made_at scene pt).calls ≡ false
made-none scene pt = by_setup scene.setup
  where
    by_setup : (setup : Option Setup) → owes_cut (row_in scene (λ known. link_made known pt) setup).calls ≡ false
    by_setup None = refl
    by_setup (Some setup) = no-link-event-cuts (known_in scene setup) pt LinkIsMade

lost-none : (scene : Scene) (pt : ℕ) → owes_cut (link_lost_at scene pt).calls ≡ false
lost-none scene pt = by_setup scene.setup
  where
    by_setup : (setup : Option Setup) → owes_cut (row_in scene (λ known. link_lost known pt) setup).calls ≡ false
    by_setup None = refl
    by_setup (Some setup) = no-link-event-cuts (known_in scene setup) pt LinkIsLost

turn-calls : (log : List Turn) (v : View) (turn : Turn) → NoneOrOwed log v.calls → NoneOrOwed (log ++ turn ∷ []) (after_turn v turn).calls
turn-calls log v (Start setup) h = inl (opens-cut-none setup v.scene.outside.file (records_of v.scene))
turn-calls log v OpenFailed h = inl refl
turn-calls log v (Polled now) h = inl refl
turn-calls log v (Opened till) h = inl refl
turn-calls log v (HeardTill till bytes) h = inl refl
turn-calls log v (Closed till) h = inl refl
turn-calls log v (HeardPt pt bytes) h = inl refl
turn-calls log v (Lost pt) h = inl refl
turn-calls log v Stopped h = inl refl
turn-calls log v (Linked pt) h = inl (none-append (link_made_at v.scene pt).calls (later v.calls) (made-none v.scene pt) (later-none log v.calls h))
turn-calls log v (LinkFailed pt) h = inl (none-append (link_lost_at v.scene pt).calls [] (lost-none v.scene pt) refl)
turn-calls log v (SentTill till bytes true) h = inl (later-none log v.calls h)
turn-calls log v (SentTill till bytes false) h = inl refl
turn-calls log v (SentPt pt bytes true) h = inl (later-none log v.calls h)
turn-calls log v (SentPt pt bytes false) h = inr (record { pt = pt; calls_are = refl; cause = SendFailed log bytes refl })
turn-calls log v (CutTill till) h = inl (later-none log v.calls h)
turn-calls log v (CutPt pt) h = inl (none-append (link_lost_at v.scene pt).calls (later v.calls) (lost-none v.scene pt) (later-none log v.calls h))
turn-calls log v (Wrote offset bytes) h = inl (later-none log v.calls h)
turn-calls log v Synced h = inl (later-none log v.calls h)
turn-calls log v DiskFailed h = inl refl
turn-calls log v (Crash file) h = inl refl

-- ---- items

turn-items : (log : List Turn) (v : View) (turn : Turn) → Stands log v → Agrees v → AreBrought log v.items → AllowedTurn v turn → AreBrought (log ++ turn ∷ []) (after_turn v turn).items
turn-items log v turn s a h ok = by_turn turn ok
  where
    now : Turn → List Turn
    now turn = log ++ turn ∷ []

    due : (turn : Turn) → AreBrought (now turn) (items_due v.scene.core)
    due turn = due-brought (now turn) v.scene.core

    by_row : (turn : Turn) (row : Row) → is_sort_of_round (sort_of turn) ≡ true → row.items ≡ [] → AreBrought (now turn) (row.items ++ v.items)
    by_row turn row e none = subst (λ l. AreBrought (now turn) (l ++ v.items)) (sym none) (items-later log v.items turn e h)

    by_turn : (turn : Turn) → AllowedTurn v turn → AreBrought (now turn) (after_turn v turn).items
    by_turn (Start setup) ok = tt
    by_turn OpenFailed ok = tt
    by_turn (Polled later) ok = due (Polled later)
    by_turn (Opened till) ok = brought-append (now (Opened till)) (till_opened_items till v.scene.outside.tills) (items_due v.scene.core) (opened-brought (now (Opened till)) till v.scene.outside.tills) (due (Opened till))
    by_turn (HeardTill till bytes) ok =
        let decoded : DecodedFrames = decode_after (decode_frames (heard_on v.scene.outside.tills till)).rest bytes in
        brought-append (now (HeardTill till bytes)) (decoded_items till decoded) (items_due v.scene.core) (till-brought log v till bytes s ok) (due (HeardTill till bytes))
    by_turn (Closed till) ok = (tt, due (Closed till))
    by_turn (HeardPt pt bytes) ok =
        brought-append (now (HeardPt pt bytes)) (pt_bytes_items pt (heard_on v.scene.outside.links pt) bytes) (items_due v.scene.core) (heard-brought log v pt bytes s ok) (due (HeardPt pt bytes))
    by_turn (Lost pt) ok = (tt, due (Lost pt))
    by_turn Stopped ok = tt
    by_turn (Linked pt) ok = let known = call-setup v (LinkPt pt) a.run ok in by_row (Linked pt) (link_made_at v.scene pt) refl (made-at-turns v.scene pt known.setup known.setup_is).items
    by_turn (LinkFailed pt) ok = let known = call-setup v (LinkPt pt) a.run ok in by_row (LinkFailed pt) (link_lost_at v.scene pt) refl (lost-at-turns v.scene pt known.setup known.setup_is).items
    by_turn (SentTill till bytes true) ok = items-later log v.items (SentTill till bytes true) refl h
    by_turn (SentTill till bytes false) ok = items-later log v.items (SentTill till bytes false) refl h
    by_turn (SentPt pt bytes true) ok = items-later log v.items (SentPt pt bytes true) refl h
    by_turn (SentPt pt bytes false) ok = items-later log v.items (SentPt pt bytes false) refl h
    by_turn (CutTill till) ok = items-later log v.items (CutTill till) refl h
    by_turn (CutPt pt) ok = let known = call-setup v (OwedCutPt pt) a.run ok in by_row (CutPt pt) (link_lost_at v.scene pt) refl (lost-at-turns v.scene pt known.setup known.setup_is).items
    by_turn (Wrote offset bytes) ok = items-later log v.items (Wrote offset bytes) refl h
    by_turn Synced ok = items-later log v.items Synced refl h
    by_turn DiskFailed ok = tt
    by_turn (Crash file) ok = tt

-- ---- moves

begin-causes : (log : List Turn) (v : View) → Stands log v → Agrees v → HasCauses log v → Begins v → HasCauses log (after v Begin)
begin-causes log v s a h b = record { items = items-brought first.item first.items_are brought.0 (λ alone. subst (AreBrought log) (sym (left-alone v first alone)) brought.1); calls = by_test (owes_cut row.calls) refl }
  where
    first : BeginsFirst v
    first = begins-first v a b

    brought : AreBrought log (first.item ∷ first.rest)
    brought = subst (AreBrought log) first.items_are h.items

    run : HasSetup v.scene
    run = round-setup v a.run b.idle.round

    known : Known
    known = known_in v.scene run.setup

    -- a message that begins brings what it begins, and another item nothing
    asked-brought : (till : ℕ) (as_read : ReadAs) → v.items ≡ Asked till as_read ∷ first.rest → HasAsked log till as_read → AreBrought log (after v Begin).items
    asked-brought till as_read is asked =
        let tills : List Connection = v.scene.outside.tills in
        subst (AreBrought log) (sym (ap (λ l. (after (record v { items = l }) Begin).items) is ∙ ap (λ (setup : Option Setup). (row_in v.scene (λ known. row_of tills known (Asked till as_read)) setup).items ++ first.rest) run.setup_is))
        (brought-append log (row_of tills known (Asked till as_read)).items first.rest
        (by-where (λ (row : Row). AreBrought log row.items) known (asked_row known till as_read) (is_connected tills till) tt (λ there. begun-brought log known till as_read asked)) brought.1)

    message_not : (number : ℕ) → v.items ≡ NextWaiting number ∷ first.rest → is_message first.item ≡ false
    message_not number is = let same : NextWaiting number ≡ first.item = (let n : NextWaiting number ∷ first.rest ≡ first.item ∷ first.rest = sym is ∙ first.items_are in cc) in ap is_message (sym same)

    items-brought : (item : RoundItem) → v.items ≡ item ∷ first.rest → IsBrought log item → (may_bring_more item ≡ false → AreBrought log (after v Begin).items) → AreBrought log (after v Begin).items
    items-brought (Crowded till) is own alone = alone refl
    items-brought (Message till bytes) is own alone = alone refl
    items-brought (Asked till as_read) is own alone = asked-brought till as_read is own
    items-brought (Unframed till) is own alone = alone refl
    items-brought (Gone till) is own alone = alone refl
    items-brought (Greet number apdu) is own alone = alone refl
    items-brought (Handle number apdu) is own alone = alone refl
    items-brought (Serve number till header request) is own alone = alone refl
    items-brought (Queue number till header request) is own alone = alone refl
    items-brought (NextWaiting number) is own alone = subst (AreBrought log) (sym first.left) (brought-append log first.new first.rest (looks-brought log first.new (first.looks (message_not number is))) brought.1)
    items-brought (Oversized number) is own alone = alone refl
    items-brought (LinkLost number) is own alone = alone refl
    items-brought (Late number) is own alone = alone refl
    items-brought (Overdue key) is own alone = alone refl
    items-brought (Due number) is own alone = alone refl

    row : Row
    row = row_of v.scene.outside.tills known first.item

    calls_are : (after v Begin).calls ≡ row.calls
    calls_are = ap (λ l. (after (record v { items = l }) Begin).calls) first.items_are ∙ in-owes v.scene run.setup first.item row.calls run.setup_is refl

    by_test : (test : Bool) → owes_cut row.calls ≡ test → NoneOrOwed log (after v Begin).calls
    by_test false e = inl (ap owes_cut calls_are ∙ e)
    by_test true e =
        let o = row-cuts v.scene.outside.tills known first.item e in
        let begins : BeginsCut log o.pt first.item known =
        record { view = v; along = s; begins = b; rest = first.rest; items_are = first.items_are; setup = run.setup; setup_is = run.setup_is; known_is = refl; owed = calls_are ∙ o.calls_are } in
        inr (record { pt = o.pt; calls_are = calls_are ∙ o.calls_are; cause = cause-of log known first.item o.pt o.of_it o.cause brought.0 begins })

-- along a course
pub moves-causes : (log : List Turn) (v : View) (moves : List Move) → Stands log v → Agrees v → HasCauses log v → IsCourse v moves → HasCauses (log ++ turns_of moves) (view_from v moves)
moves-causes log v [] s a h c = subst (λ l. HasCauses l v) (sym (append-nil log)) h
moves-causes log v (Begin ∷ moves) s a h c =
    moves-causes log (after v Begin) moves (subst (λ l. Stands l (after v Begin)) (append-nil log) (stands-more log v (Begin ∷ []) s (c.0, tt))) (course-agrees v (Begin ∷ []) a (c.0, tt)) (begin-causes log v s a h c.0) c.1
moves-causes log v (Read as_read ∷ moves) s a h c =
    moves-causes log (after v (Read as_read)) moves (subst (λ l. Stands l (after v (Read as_read))) (append-nil log) (stands-more log v (Read as_read ∷ []) s (c.0, tt))) (course-agrees v (Read as_read ∷ []) a (c.0, tt))
    (record { items = read-brought log as_read v.items c.0.bytes c.0.message c.0.reads h.items; calls = inl refl }) c.1
moves-causes log v (Make turn ∷ moves) s a h c =
    subst (λ l. HasCauses l (view_from (after_turn v turn) moves)) (append_assoc log (turn ∷ []) (turns_of moves))
    (moves-causes (log ++ turn ∷ []) (after_turn v turn) moves (stands-more log v (Make turn ∷ []) s (c.0, tt)) (course-agrees v (Make turn ∷ []) a (c.0, tt))
    (record { items = turn-items log v turn s a h.items c.0; calls = turn-calls log v turn h.calls }) c.1)

-- ---- the law

first-cuts : (calls : List OwedCall) (pt : ℕ) → first_call calls ≡ Some (OwedCutPt pt) → owes_cut calls ≡ true
first-cuts [] pt e = absurd (let n : None ≡ Some (OwedCutPt pt) = e in cc)
first-cuts (call ∷ calls) pt e = let same : call ≡ OwedCutPt pt = (let n : Some call ≡ Some (OwedCutPt pt) = e in cc) in ap (λ c. owes_cut (c ∷ calls)) same

pub each-pt-cut-has-cause : EachPtCutHasCause
each-pt-cut-has-cause before rest pt lawful = subst (λ l. CutCause l pt) x.first_are (by_calls h.calls)
  where
    x : SplitAt at_first before (CutPt pt) rest
    x = split-log before (CutPt pt) rest lawful

    v : View
    v = view_from at_first x.first

    h : HasCauses (turns_of x.first) v
    h = moves-causes [] at_first x.first (record { course = []; log_is = refl; lawful = tt; view_is = refl }) first-agrees (record { items = tt; calls = inl refl }) x.lawful

    by_calls : NoneOrOwed (turns_of x.first) v.calls → CutCause (turns_of x.first) pt
    by_calls (inl none) = no-true (sym none ∙ first-cuts v.calls pt x.allowed)
    by_calls (inr owed) =
        let same : owed.pt ≡ pt = (let n : Some (OwedCutPt owed.pt) ≡ Some (OwedCutPt pt) = sym (ap first_call owed.calls_are) ∙ x.allowed in cc) in
        subst (CutCause (turns_of x.first)) same owed.cause

-- ---- a failed send

-- what may come where the cut of a terminal is owed
cut-next : (v : View) (pt : ℕ) (turn : Turn) → (v.scene.stage ≡ AtPoll → ⊥) → (is_looking v.scene.stage ≡ true → ⊥) → first_call v.calls ≡ Some (OwedCutPt pt) → is_between turn ≡ false → AllowedTurn v turn → turn ≡ CutPt pt
cut-next v pt (Start setup) polled still next b ok = absurd (let n : true ≡ false = b in cc)
cut-next v pt OpenFailed polled still next b ok = absurd (let n : true ≡ false = b in cc)
cut-next v pt (Polled now) polled still next b ok = no-call v.calls (OwedCutPt pt) ok.calls next
cut-next v pt (Opened till) polled still next b ok = absurd (polled ok.0)
cut-next v pt (HeardTill till bytes) polled still next b ok = absurd (polled ok.0.polled)
cut-next v pt (Closed till) polled still next b ok = absurd (polled ok.polled)
cut-next v pt (HeardPt other bytes) polled still next b ok = absurd (polled ok.0.polled)
cut-next v pt (Lost other) polled still next b ok = absurd (polled ok.polled)
cut-next v pt Stopped polled still next b ok = absurd (polled ok)
cut-next v pt (Linked other) polled still next b ok = absurd (let n = same-call v.calls (OwedCutPt pt) (LinkPt other) next ok in cc)
cut-next v pt (LinkFailed other) polled still next b ok = absurd (let n = same-call v.calls (OwedCutPt pt) (LinkPt other) next ok in cc)
cut-next v pt (SentTill till bytes true) polled still next b ok = absurd (let n = same-call v.calls (OwedCutPt pt) (SendTill till ok.0) next ok.1 in cc)
cut-next v pt (SentTill till bytes false) polled still next b ok = absurd (let n = same-call v.calls (OwedCutPt pt) (SendTill till ok.0) next ok.1 in cc)
cut-next v pt (SentPt other bytes true) polled still next b ok = absurd (let n = same-call v.calls (OwedCutPt pt) (SendPt other ok.0) next ok.1 in cc)
cut-next v pt (SentPt other bytes false) polled still next b ok = absurd (let n = same-call v.calls (OwedCutPt pt) (SendPt other ok.0) next ok.1 in cc)
cut-next v pt (CutTill till) polled still next b ok = absurd (let n = same-call v.calls (OwedCutPt pt) (OwedCutTill till) next ok in cc)
cut-next v pt (CutPt other) polled still next b ok =
    let n = same-call v.calls (OwedCutPt pt) (OwedCutPt other) next ok in
    let same : other ≡ pt = cc in
    ap CutPt same
cut-next v pt (Wrote offset bytes) polled still next b ok = absurd (let n = same-call v.calls (OwedCutPt pt) ok.0 next ok.1 in let none : None ≡ Some (Wrote offset bytes) = ap write_turn n ∙ ok.2 in cc)
cut-next v pt Synced polled still next b ok = absurd (let n = same-call v.calls (OwedCutPt pt) Sync next ok in cc)
cut-next v pt DiskFailed polled still next b (inl sync) = absurd (let n = same-call v.calls (OwedCutPt pt) Sync next sync in cc)
cut-next v pt DiskFailed polled still next b (inr looking) = absurd (still looking)
cut-next v pt (Crash file) polled still next b ok = absurd (let n : true ≡ false = b in cc)

pub failed-send-cuts : FailedSendCuts
failed-send-cuts before rest pt taken turn lawful b =
    let x = split-log before (SentPt pt taken false) (turn ∷ rest) lawful in
    let v = view_from at_first x.first in
    let w = after_turn v (SentPt pt taken false) in
    let disk = course-disk at_first x.first first-owes-disk x.lawful in
    let next = take-owed w (OwedCutPt pt) turn rest refl x.onward in
    cut-next w pt turn (λ polled. busy-not-poll v.scene.stage polled) (λ looking. other-not-looking v (SendPt pt x.allowed.0) disk x.allowed.1 refl looking) refl b next.0
