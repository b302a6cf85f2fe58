-- Whether a terminal is linked, and else when it is due: what the row of each item leaves of it.
use Rattle.std.proofs.Common.{◌≡◌, ◌≢◌, ℕ, zero, suc, List, [], ◌∷◌, refl, sym, ◌∙◌, ap, subst, true, false, eqb-true}
use Rattle.std.proofs.lemmas.Bool.{eq-eqb}
use Rattle.std.specs.Prelude.{Bool, ◌+◌, ◌==◌, ◌&&◌, ◌++◌, map, length, slice_get, Option, Some, None, Result, Ok, Err}
use Rattle.gw_base.specs.declared.key.Key.{Key}
use Rattle.sale_values.specs.declared.header.Header.{Header}
use Rattle.sale_values.specs.declared.request.SaleRequest.{SaleRequest}
use Rattle.jrn_record.specs.declared.records.Outcome.{Outcome}
use Rattle.jrn_record.specs.declared.records.Settled.{Settled}
use Rattle.jrn_record.specs.declared.records.Record.{Record}
use Rattle.jrn_record.specs.declared.records.Record.TheVariants.{Intent as IntentRecord, Outcome as OutcomeRecord, Settled as SettledRecord}
use Rattle.gw_site.specs.Outside.{Connection, is_connected}
use Rattle.zvt_apdu.specs.Grammar.{ApduValue}
use Rattle.zvt_msg.specs.declared.fault.PtFault.{PtFault}
use Rattle.zvt_msg.specs.declared.command.Command.TheVariants as commands
use Rattle.zvt_msg.specs.Message.{MessageValue, Ack, Nack, Intermediate, Line, Block, Status, Completion, Abort, Other}
use Rattle.zvt_msg.specs.MessageDecode.{decode_pt_message}
use Rattle.zvt_talk.specs.Talk.{TalkFacts}
use Rattle.xlate.specs.Ask.{ask}
use Rattle.jrn_record.specs.declared.records.How.TheVariants as hows
use Rattle.gw_owes.specs.Awaited.{one_more_awaited}
use Rattle.gw_owes.specs.Calls.{OwedCall, SendTill, SendPt, LinkPt, WriteBody, WriteGate, WriteFirstGate, Sync, CutTill, CutPt, Ask, keep_calls}
use Rattle.gw_owes.specs.Core.{Core}
use Rattle.gw_owes.specs.Deadlines.{is_late, is_due_by, is_due, late_row, due_row}
use Rattle.gw_owes.specs.Greeting.{greeting, sending_calls, greet_decoded, oversized_row}
use Rattle.gw_owes.specs.Handling.{taking, handle_row}
use Rattle.gw_owes.specs.Items.{RoundItem, Crowded, Message, Asked, Unframed, Gone, Greet, Handle, Serve, Queue, NextWaiting, Oversized, LinkLost, Late, Overdue, Due}
use Rattle.gw_owes.specs.Links.{is_linked, cutting}
use Rattle.gw_owes.specs.Reconciliations.{settle_calls, reply_to_settled, settled_of}
use Rattle.gw_owes.specs.Reply.{ReplyValue}
use Rattle.gw_owes.specs.Payments.{Asking, beginning_row, asked_for, serve_row}
use Rattle.gw_owes.specs.ReadAs.{ReadAs}
use Rattle.gw_owes.specs.Requests.{begun_by, reply_to}
use Rattle.gw_owes.specs.Row.{Known, Row, owing, owing_nothing, owing_where}
use Rattle.gw_owes.specs.Rows.{asked_row, row_of}
use Rattle.gw_owes.specs.Serving.{at_rest, reply_to_outcome, done_with, resolves}
use Rattle.gw_owes.specs.Steps.{is_ready_standing}
use Rattle.gw_owes.specs.Stops.{wishing}
use Rattle.gw_owes.specs.TerminalLaws.{settings_of}
use Rattle.gw_owes.specs.Terminals.{terminal_at, of_terminal, terminal_becomes, with_terminal, registers, link_made, reply_calls_to, reply_to_lost, unlinks, unlinked_terminal, link_lost, forgets_till}
use Rattle.gw_owes.specs.WaitingRows.{next_waiting_row, overdue_row, queue_row}
use Rattle.gw_owes.specs.Waits.{core_without_wait}
use Rattle.gw_owes.specs.declared.terminal.Standing.{Standing}
use Rattle.gw_owes.specs.declared.terminal.Standing.TheVariants.{Unlinked, Registering, Enquiring, Ready, Serving, Aside}
use Rattle.gw_owes.specs.declared.terminal.Terminal.{Terminal}
use Rattle.gw_owes.proofs.HandlingLemmas.{each-terminal, each-linked}
use Rattle.gw_owes.proofs.NextLemmas.{each-next, each-overdue, each-queued, known_without}
use Rattle.gw_owes.proofs.PaymentLemmas.{StopsAt, day_row, each-served}
use Rattle.gw_owes.proofs.SetLemmas.{others-stay, new-is-there, same-stays}
use Rattle.gw_rules.proofs.RowFormLemmas.{EachForm, form-handled, form-begun}
use Rattle.gw_rules.proofs.StageLemmas.{no-true}

-- ---- states

-- whether a terminal is linked
pub data LinkState : Type 0 where
  -- there is none of this number
  Absent : LinkState
  -- it is linked
  On : LinkState
  -- it isn't, and is due then; at once where that is none
  Off : Option ℕ → LinkState
  -- it isn't, though a dialogue runs: this never is
  Odd : LinkState

abbrev pub unlinked_state : Option ℕ → Option TalkFacts → LinkState
unlinked_state due None = Off due
unlinked_state due (Some talk) = Odd

abbrev pub standing_state : Standing → Option TalkFacts → LinkState
standing_state (Unlinked due) talk = unlinked_state due talk
standing_state Registering talk = On
standing_state Enquiring talk = On
standing_state (Ready last) talk = On
standing_state (Serving service last) talk = On
standing_state (Aside before reported) talk = On

abbrev pub state_of : Option Terminal → LinkState
state_of None = Absent
state_of (Some terminal) = standing_state terminal.standing terminal.talk

-- that of the terminal of this number
abbrev pub state_in : Core → ℕ → LinkState
state_in core number = state_of (slice_get core.terminals number)

linked-on : (standing : Standing) (talk : Option TalkFacts) → is_linked standing ≡ true → standing_state standing talk ≡ On
linked-on (Unlinked due) talk e = no-true e
linked-on Registering talk e = refl
linked-on Enquiring talk e = refl
linked-on (Ready last) talk e = refl
linked-on (Serving service last) talk e = refl
linked-on (Aside before reported) talk e = refl

pub on-linked : (standing : Standing) (talk : Option TalkFacts) → standing_state standing talk ≡ On → is_linked standing ≡ true
on-linked (Unlinked due) None e = absurd (let n : Off due ≡ On = e in cc)
on-linked (Unlinked due) (Some talk) e = absurd (let n : Odd ≡ On = e in cc)
on-linked Registering talk e = refl
on-linked Enquiring talk e = refl
on-linked (Ready last) talk e = refl
on-linked (Serving service last) talk e = refl
on-linked (Aside before reported) talk e = refl

late-on : (moment : ℕ) (standing : Standing) (talk : Option TalkFacts) → standing_state standing talk ≢ Odd → is_late moment talk ≡ true → standing_state standing talk ≡ On
late-on moment (Unlinked due) None even e = no-true e
late-on moment (Unlinked due) (Some talk) even e = absurd (even refl)
late-on moment Registering talk even e = refl
late-on moment Enquiring talk even e = refl
late-on moment (Ready last) talk even e = refl
late-on moment (Serving service last) talk even e = refl
late-on moment (Aside before reported) talk even e = refl

due-off : (moment : ℕ) (standing : Standing) (talk : Option TalkFacts) → standing_state standing talk ≢ Odd → is_due moment standing ≡ true → (due : Option ℕ) × (standing_state standing talk ≡ Off due) × (is_due_by moment due ≡ true)
due-off moment (Unlinked due) None even e = (due, refl, e)
due-off moment (Unlinked due) (Some talk) even e = absurd (even refl)
due-off moment Registering talk even e = no-true e
due-off moment Enquiring talk even e = no-true e
due-off moment (Ready last) talk even e = no-true e
due-off moment (Serving service last) talk even e = no-true e
due-off moment (Aside before reported) talk even e = no-true e

-- ---- calls

-- a terminal is sent something, or cut, that is linked, and linked that isn't and is due at this moment
abbrev pub Fits : ℕ → Core → OwedCall → Type 0
Fits moment core (SendTill till reply) = Unit {0}
Fits moment core (SendPt number sending) = state_in core number ≡ On
Fits moment core (CutTill till) = Unit {0}
Fits moment core (CutPt number) = state_in core number ≡ On
Fits moment core (LinkPt number) = (due : Option ℕ) × (state_in core number ≡ Off due) × (is_due_by moment due ≡ true)
Fits moment core (WriteBody slot the_record) = Unit {0}
Fits moment core (WriteGate slot the_record) = Unit {0}
Fits moment core WriteFirstGate = Unit {0}
Fits moment core Sync = Unit {0}

abbrev pub EachFits : ℕ → Core → List OwedCall → Type 0
EachFits moment core [] = Unit {0}
EachFits moment core (call ∷ calls) = Fits moment core call × EachFits moment core calls

call-same : (moment : ℕ) (core other : Core) (call : OwedCall) → ((number : ℕ) → state_in other number ≡ state_in core number) → Fits moment core call → Fits moment other call
call-same moment core other (SendTill till reply) same h = tt
call-same moment core other (SendPt number sending) same h = same number ∙ h
call-same moment core other (CutTill till) same h = tt
call-same moment core other (CutPt number) same h = same number ∙ h
call-same moment core other (LinkPt number) same h = (h.0, same number ∙ h.1, h.2)
call-same moment core other (WriteBody slot the_record) same h = tt
call-same moment core other (WriteGate slot the_record) same h = tt
call-same moment core other WriteFirstGate same h = tt
call-same moment core other Sync same h = tt

pub fits-same : (moment : ℕ) (core other : Core) (calls : List OwedCall) → ((number : ℕ) → state_in other number ≡ state_in core number) → EachFits moment core calls → EachFits moment other calls
fits-same moment core other [] same h = tt
fits-same moment core other (call ∷ calls) same h = (call-same moment core other call same h.0, fits-same moment core other calls same h.1)

reply-fits : (moment : ℕ) (core : Core) (asker : Option ℕ) (reply : Option ReplyValue) → EachFits moment core (reply_calls_to asker reply)
reply-fits moment core None reply = tt
reply-fits moment core (Some till) None = tt
reply-fits moment core (Some till) (Some reply) = (tt, tt)

-- so it is of the calls that keep a record, where it is of those after them
kept-fits : (moment : ℕ) (core : Core) (slot : ℕ) (the_record : Record) (calls : List OwedCall) → EachFits moment core calls → EachFits moment core (keep_calls slot the_record ++ calls)
kept-fits moment core slot the_record calls h = (tt, (tt, (tt, (tt, h))))

-- ---- items that begin to serve

abbrev pub is_serve : RoundItem → Bool
is_serve (Crowded till) = false
is_serve (Message till bytes) = false
is_serve (Asked till as_read) = false
is_serve (Unframed till) = false
is_serve (Gone till) = false
is_serve (Greet number apdu) = false
is_serve (Handle number apdu) = false
is_serve (Serve number till header request) = true
is_serve (Queue number till header request) = false
is_serve (NextWaiting number) = false
is_serve (Oversized number) = false
is_serve (LinkLost number) = false
is_serve (Late number) = false
is_serve (Overdue key) = false
is_serve (Due number) = false

-- what holds of each item that begins to serve holds of one that does
pub each-serve : (P : RoundItem → Type 0) (item : RoundItem) → is_serve item ≡ true → ((number till : ℕ) (header : Header) (request : SaleRequest) → P (Serve number till header request)) → P item
each-serve P (Crowded till) e each = no-true e
each-serve P (Message till bytes) e each = no-true e
each-serve P (Asked till as_read) e each = no-true e
each-serve P (Unframed till) e each = no-true e
each-serve P (Gone till) e each = no-true e
each-serve P (Greet number apdu) e each = no-true e
each-serve P (Handle number apdu) e each = no-true e
each-serve P (Serve number till header request) e each = each number till header request
each-serve P (Queue number till header request) e each = no-true e
each-serve P (NextWaiting number) e each = no-true e
each-serve P (Oversized number) e each = no-true e
each-serve P (LinkLost number) e each = no-true e
each-serve P (Late number) e each = no-true e
each-serve P (Overdue key) e each = no-true e
each-serve P (Due number) e each = no-true e

-- the item begins to serve, or looks whether what waits is to be served
abbrev pub may_begin_some : RoundItem → Bool
may_begin_some (Crowded till) = false
may_begin_some (Message till bytes) = false
may_begin_some (Asked till as_read) = false
may_begin_some (Unframed till) = false
may_begin_some (Gone till) = false
may_begin_some (Greet number apdu) = false
may_begin_some (Handle number apdu) = false
may_begin_some (Serve number till header request) = true
may_begin_some (Queue number till header request) = false
may_begin_some (NextWaiting number) = true
may_begin_some (Oversized number) = false
may_begin_some (LinkLost number) = false
may_begin_some (Late number) = false
may_begin_some (Overdue key) = false
may_begin_some (Due number) = false

-- what holds of each of these holds of one that is
pub each-beginning : (P : RoundItem → Type 0) (item : RoundItem) → may_begin_some item ≡ true → ((number till : ℕ) (header : Header) (request : SaleRequest) → P (Serve number till header request)) → ((number : ℕ) → P (NextWaiting number)) → P item
each-beginning P (Crowded till) e serves nexts = no-true e
each-beginning P (Message till bytes) e serves nexts = no-true e
each-beginning P (Asked till as_read) e serves nexts = no-true e
each-beginning P (Unframed till) e serves nexts = no-true e
each-beginning P (Gone till) e serves nexts = no-true e
each-beginning P (Greet number apdu) e serves nexts = no-true e
each-beginning P (Handle number apdu) e serves nexts = no-true e
each-beginning P (Serve number till header request) e serves nexts = serves number till header request
each-beginning P (Queue number till header request) e serves nexts = no-true e
each-beginning P (NextWaiting number) e serves nexts = nexts number
each-beginning P (Oversized number) e serves nexts = no-true e
each-beginning P (LinkLost number) e serves nexts = no-true e
each-beginning P (Late number) e serves nexts = no-true e
each-beginning P (Overdue key) e serves nexts = no-true e
each-beginning P (Due number) e serves nexts = no-true e

-- the item may come next after one that has begun: with it a request is begun or stopped, joins those that wait or leaves them, or the next of those is looked at
abbrev pub may_follow : RoundItem → Bool
may_follow (Crowded till) = false
may_follow (Message till bytes) = false
may_follow (Asked till as_read) = false
may_follow (Unframed till) = false
may_follow (Gone till) = false
may_follow (Greet number apdu) = false
may_follow (Handle number apdu) = false
may_follow (Serve number till header request) = true
may_follow (Queue number till header request) = true
may_follow (NextWaiting number) = true
may_follow (Oversized number) = false
may_follow (LinkLost number) = false
may_follow (Late number) = false
may_follow (Overdue key) = false
may_follow (Due number) = false

-- what holds of each of these holds of one that is
pub each-following : (P : RoundItem → Type 0) (item : RoundItem) → may_follow item ≡ true → ((number till : ℕ) (header : Header) (request : SaleRequest) → P (Serve number till header request))
    → ((number till : ℕ) (header : Header) (request : SaleRequest) → P (Queue number till header request)) → ((number : ℕ) → P (NextWaiting number)) → P item
each-following P (Crowded till) e serves queues nexts = no-true e
each-following P (Message till bytes) e serves queues nexts = no-true e
each-following P (Asked till as_read) e serves queues nexts = no-true e
each-following P (Unframed till) e serves queues nexts = no-true e
each-following P (Gone till) e serves queues nexts = no-true e
each-following P (Greet number apdu) e serves queues nexts = no-true e
each-following P (Handle number apdu) e serves queues nexts = no-true e
each-following P (Serve number till header request) e serves queues nexts = serves number till header request
each-following P (Queue number till header request) e serves queues nexts = queues number till header request
each-following P (NextWaiting number) e serves queues nexts = nexts number
each-following P (Oversized number) e serves queues nexts = no-true e
each-following P (LinkLost number) e serves queues nexts = no-true e
each-following P (Late number) e serves queues nexts = no-true e
each-following P (Overdue key) e serves queues nexts = no-true e
each-following P (Due number) e serves queues nexts = no-true e

-- each of these may
abbrev pub all_follow : List RoundItem → Bool
all_follow [] = true
all_follow (item ∷ items) = may_follow item && all_follow items

-- what a till's message begins may
begins-follow : (known : Known) (till : ℕ) (as_read : ReadAs) → all_follow (begun_by known till as_read) ≡ true
begins-follow known till as_read = form-begun (λ items. all_follow items ≡ true) known till refl as_read (λ number header request is. refl) (λ number header request is. refl)

-- ---- rows that leave each terminal linked, or due, as it was

-- no item comes next
pub record KeepsLinks (moment : ℕ) (core : Core) (row : Row) : Type 0 where
  pub states : (number : ℕ) → state_in row.core number ≡ state_in core number
  pub items : row.items ≡ []
  pub settings : settings_of row.core ≡ settings_of core
  pub fits : EachFits moment row.core row.calls

-- the items that come next are of those that may
pub record LeavesLinks (moment : ℕ) (core : Core) (row : Row) : Type 0 where
  pub states : (number : ℕ) → state_in row.core number ≡ state_in core number
  pub items : all_follow row.items ≡ true
  pub settings : settings_of row.core ≡ settings_of core
  pub fits : EachFits moment row.core row.calls

owing-keeps : (known : Known) (calls : List OwedCall) → EachFits known.moment known.core calls → KeepsLinks known.moment known.core (owing known calls)
owing-keeps known calls fits = record { states = λ number. refl; items = refl; settings = refl; fits = fits }

where-keeps : (there : Bool) (known : Known) (row : Row) → (there ≡ true → KeepsLinks known.moment known.core row) → KeepsLinks known.moment known.core (owing_where there known row)
where-keeps true known row h = h refl
where-keeps false known row h = owing-keeps known [] tt

pub apart : (one other : ℕ) → (one == other) ≡ false → one ≢ other
apart one other e same = no-true (sym e ∙ eq-eqb one other same)

-- a terminal that is linked stays linked
becomes-keeps : (known : Known) (number : ℕ) (old new : Terminal) (calls : List OwedCall) → terminal_at known number ≡ Some old → standing_state old.standing old.talk ≡ On → standing_state new.standing new.talk ≡ On → new.pt ≡ old.pt
    → (state_in (with_terminal known.core number new) number ≡ On → EachFits known.moment (with_terminal known.core number new) calls) → KeepsLinks known.moment known.core (terminal_becomes known number new calls)
becomes-keeps known number old new calls found on new_on same fits =
    let there : state_in (with_terminal known.core number new) number ≡ On = ap state_of (new-is-there known.core.terminals number old new found) ∙ new_on in
    record {
      states = λ other. by_test there other (other == number) refl;
      items = refl;
      settings = same-stays (λ (terminal : Terminal). terminal.pt) known.core.terminals number old new found same;
      fits = fits there;
    }
  where
    by_test : state_in (with_terminal known.core number new) number ≡ On → (other : ℕ) (test : Bool) → (other == number) ≡ test → state_in (with_terminal known.core number new) other ≡ state_in known.core other
    by_test there other true e =
        let is : other ≡ number = eqb-true other number e in
        subst (λ n. state_in (with_terminal known.core number new) n ≡ state_in known.core n) (sym is) (there ∙ sym (ap state_of found ∙ on))
    by_test there other false e = ap state_of (others-stay known.core.terminals number other new (apart other number e))

-- ---- what a terminal sends

sending-fits : (moment : ℕ) (core : Core) (number : ℕ) (message : MessageValue) → state_in core number ≡ On → EachFits moment core (sending_calls number (greeting message))
sending-fits moment core number Ack on = tt
sending-fits moment core number (Nack error_code) on = tt
sending-fits moment core number (Intermediate intermediate_status) on = (on, tt)
sending-fits moment core number (Line text) on = (on, tt)
sending-fits moment core number (Block objects) on = (on, tt)
sending-fits moment core number (Status fields) on = (on, tt)
sending-fits moment core number Completion on = (on, tt)
sending-fits moment core number (Abort result_code) on = (on, tt)
sending-fits moment core number Other on = (on, tt)

found-on : (known : Known) (number : ℕ) (terminal : Terminal) → terminal_at known number ≡ Some terminal → is_linked terminal.standing ≡ true → state_in known.core number ≡ On
found-on known number terminal found linked = ap state_of found ∙ linked-on terminal.standing terminal.talk linked

outside-keeps : (known : Known) (number : ℕ) → KeepsLinks known.moment known.core (oversized_row known number)
outside-keeps known number = each-linked (KeepsLinks known.moment known.core) known number (λ terminal. cutting known number) (owing-keeps known [] tt)
    (λ terminal found linked. owing-keeps known (CutPt number ∷ []) (found-on known number terminal found linked, tt))

greet-keeps : (known : Known) (number : ℕ) (decoded : Result MessageValue PtFault) → KeepsLinks known.moment known.core (greet_decoded known number decoded)
greet-keeps known number (Ok message) = each-linked (KeepsLinks known.moment known.core) known number (λ terminal. owing known (sending_calls number (greeting message))) (owing-keeps known [] tt)
    (λ terminal found linked. owing-keeps known (sending_calls number (greeting message)) (sending-fits known.moment known.core number message (found-on known number terminal found linked)))
greet-keeps known number (Err fault) = outside-keeps known number

-- a record is kept and the till gets its reply, and the terminal stays linked
resolved-keeps : (known : Known) (number : ℕ) (old terminal : Terminal) (standing : Standing) (outcome : Outcome) → terminal_at known number ≡ Some old → standing_state old.standing old.talk ≡ On → is_linked standing ≡ true → terminal.pt ≡ old.pt
    → KeepsLinks known.moment known.core (resolves known number terminal standing outcome)
resolved-keeps known number old terminal standing outcome found old_on linked same =
    becomes-keeps known number old (done_with terminal standing) _ found old_on (linked-on standing None linked) same
    (λ there.
    let core : Core = with_terminal known.core number (done_with terminal standing) in
    let reply : Option ReplyValue = reply_to_outcome known.kept outcome.slot outcome in
    kept-fits known.moment core (length known.kept) (OutcomeRecord outcome) (reply_calls_to terminal.asker reply) (reply-fits known.moment core terminal.asker reply))

-- so are the calls that settle
settle-fits : (moment : ℕ) (core : Core) (kept : List Record) (asker : Option ℕ) (settled : Settled) → EachFits moment core (settle_calls kept asker settled)
settle-fits moment core kept asker settled =
    kept-fits moment core (length kept) (SettledRecord settled) (reply_calls_to asker (reply_to_settled kept settled)) (reply-fits moment core asker (reply_to_settled kept settled))

-- so does each form that the consequence of a message may have
forms-keep : (known : Known) (number : ℕ) (old terminal : Terminal) → terminal_at known number ≡ Some old → standing_state old.standing old.talk ≡ On → standing_state terminal.standing terminal.talk ≡ On → terminal.pt ≡ old.pt
    → EachForm (KeepsLinks known.moment known.core) known number terminal
forms-keep known number old terminal found old_on on same = record {
  nothing = owing-keeps known [] tt;
  stays = becomes-keeps known number old terminal [] found old_on on same (λ there. tt);
  cuts = becomes-keeps known number old terminal (CutPt number ∷ []) found old_on on same (λ there. (there, tt));
  stops = becomes-keeps known number old _ _ found old_on on same (λ there. (there, tt));
  enquires = becomes-keeps known number old _ _ found old_on refl same (λ there. (there, tt));
  rests = λ standing linked. becomes-keeps known number old (at_rest terminal standing) [] found old_on (linked-on standing None linked) same (λ there. tt);
  resolves = λ standing outcome linked. resolved-keeps known number old terminal standing outcome found old_on linked same;
  settles = λ last settled.
      becomes-keeps known number old (done_with terminal (Ready last)) _ found old_on refl same (λ there. settle-fits known.moment (with_terminal known.core number (done_with terminal (Ready last))) known.kept terminal.asker settled);
  replies = λ last reply. becomes-keeps known number old (done_with terminal (Ready last)) _ found old_on refl same (λ there. reply-fits known.moment (with_terminal known.core number (done_with terminal (Ready last))) terminal.asker reply);
  requests = λ till request asks.
      let stays = becomes-keeps known number old terminal [] found old_on on same (λ there. tt) in
      record { states = stays.states; items = refl; settings = stays.settings; fits = (tt, tt) };
}

handle-keeps : (known : Known) (number : ℕ) (apdu : ApduValue) → KeepsLinks known.moment known.core (handle_row known number apdu)
handle-keeps known number apdu = form-handled (KeepsLinks known.moment known.core) known number apdu (owing-keeps known [] tt)
    (λ terminal message found linked is taken.
    forms-keep known number terminal (taking terminal message known.moment) found (linked-on terminal.standing terminal.talk linked) (linked-on terminal.standing (taking terminal message known.moment).talk linked) refl)

-- ---- what a request of a till begins or stops

begun-keeps : (known : Known) (number till : ℕ) (terminal : Terminal) (last : ℕ) (asking : Asking) → terminal_at known number ≡ Some terminal → standing_state terminal.standing terminal.talk ≡ On
    → KeepsLinks known.moment known.core (beginning_row known number till terminal last asking.intent asking.original)
begun-keeps known number till terminal last asking found on =
    let asked : Terminal = asked_for known till terminal last asking.intent asking.original in
    becomes-keeps known number terminal asked _ found on refl refl
    (λ there. kept-fits known.moment (with_terminal known.core number asked) (length known.kept) (IntentRecord asking.intent) (SendPt number (Ask (ask asking.intent asking.original terminal.pt)) ∷ []) (there, tt))

-- what is served and is to be stopped goes on being served
stopped-keeps : (known : Known) (number : ℕ) (header : Header) (request : SaleRequest) (terminal : Terminal) (talk : TalkFacts) (awaited : ℕ) (calls : List OwedCall) → StopsAt known number header request terminal talk
    → ((core : Core) → state_in core number ≡ On → EachFits known.moment core calls) → KeepsLinks known.moment known.core (terminal_becomes known number (record (wishing terminal talk) { awaited = awaited }) calls)
stopped-keeps known number header request terminal talk awaited calls at fits =
    let on : (facts : Option TalkFacts) → standing_state terminal.standing facts ≡ On = λ facts. ap (λ s. standing_state s facts) at.standing_is in
    let stopped : Terminal = record (wishing terminal talk) { awaited = awaited } in
    becomes-keeps known number terminal stopped calls at.found (on terminal.talk) (on stopped.talk) refl (λ there. fits (with_terminal known.core number stopped) there)

serve-keeps : (known : Known) (number till : ℕ) (header : Header) (request : SaleRequest) → KeepsLinks known.moment known.core (serve_row known number till header request)
serve-keeps known number till header request =
    each-served (KeepsLinks known.moment known.core) known number till header request (record {
      none = owing-keeps known [] tt;
      begins = λ terminal last asking at. begun-keeps known number till terminal last asking at.found (ap (λ s. standing_state s terminal.talk) at.standing_is);
      sent = λ terminal talk at now. stopped-keeps known number header request terminal talk (one_more_awaited terminal.awaited) (SendPt number (Ask commands.Stop) ∷ []) at (λ core on. (on, tt));
      wished = λ terminal talk at later. stopped-keeps known number header request terminal talk terminal.awaited [] at (λ core on. tt);
      session = λ success. record { states = λ other. refl; items = refl; settings = refl; fits = (tt, tt) };
      settles = λ terminal at. owing-keeps known _ (settle-fits known.moment known.core known.kept (Some till) (settled_of hows.Sale header terminal.pt.currency known.moment));
      day = λ terminal last at. becomes-keeps known number terminal _ _ at.found (ap (λ s. standing_state s terminal.talk) at.standing_is) refl refl (λ there. (there, tt));
      displays = λ terminal last outputs command at. becomes-keeps known number terminal _ _ at.found (ap (λ s. standing_state s terminal.talk) at.standing_is) refl refl (λ there. (there, tt));
    })

-- ---- what may be due

late-keeps : (known : Known) (number : ℕ) → state_in known.core number ≢ Odd → KeepsLinks known.moment known.core (late_row known number)
late-keeps known number even = each-terminal (KeepsLinks known.moment known.core) known number (λ terminal. owing_where (is_late known.moment terminal.talk) known (cutting known number)) (owing-keeps known [] tt)
    (λ terminal found. where-keeps (is_late known.moment terminal.talk) known (cutting known number)
    (λ late. owing-keeps known (CutPt number ∷ []) (ap state_of found ∙ late-on known.moment terminal.standing terminal.talk (λ odd. even (ap state_of found ∙ odd)) late, tt)))

due-keeps : (known : Known) (number : ℕ) → state_in known.core number ≢ Odd → KeepsLinks known.moment known.core (due_row known number)
due-keeps known number even = each-terminal (KeepsLinks known.moment known.core) known number (λ terminal. owing_where (is_due known.moment terminal.standing) known (owing known (LinkPt number ∷ []))) (owing-keeps known [] tt)
    (λ terminal found. where-keeps (is_due known.moment terminal.standing) known (owing known (LinkPt number ∷ []))
    (λ due. let off = due-off known.moment terminal.standing terminal.talk (λ odd. even (ap state_of found ∙ odd)) due in owing-keeps known (LinkPt number ∷ []) ((off.0, ap state_of found ∙ off.1, off.2), tt)))

-- ---- a till that is gone

pub without-states : (till : ℕ) (terminals : List Terminal) (number : ℕ) → state_of (slice_get (map (forgets_till till) terminals) number) ≡ state_of (slice_get terminals number)
without-states till [] number = refl
without-states till (terminal ∷ terminals) zero = refl
without-states till (terminal ∷ terminals) (suc number) = without-states till terminals number

pub without-settings : (till : ℕ) (terminals : List Terminal) → map (λ (terminal : Terminal). terminal.pt) (map (forgets_till till) terminals) ≡ map (λ (terminal : Terminal). terminal.pt) terminals
without-settings till [] = refl
without-settings till (terminal ∷ terminals) = ap (λ l. terminal.pt ∷ l) (without-settings till terminals)

-- ---- each row but that of a link that is lost

-- the item isn't the loss of a link
abbrev pub loses : RoundItem → Bool
loses (Crowded till) = false
loses (Message till bytes) = false
loses (Asked till as_read) = false
loses (Unframed till) = false
loses (Gone till) = false
loses (Greet number apdu) = false
loses (Handle number apdu) = false
loses (Serve number till header request) = false
loses (Queue number till header request) = false
loses (NextWaiting number) = false
loses (Oversized number) = false
loses (LinkLost number) = true
loses (Late number) = false
loses (Overdue key) = false
loses (Due number) = false

-- an item after which others may come: a message that was read, or a look at what waits
abbrev pub may_bring_more : RoundItem → Bool
may_bring_more (Crowded till) = false
may_bring_more (Message till bytes) = false
may_bring_more (Asked till as_read) = true
may_bring_more (Unframed till) = false
may_bring_more (Gone till) = false
may_bring_more (Greet number apdu) = false
may_bring_more (Handle number apdu) = false
may_bring_more (Serve number till header request) = false
may_bring_more (Queue number till header request) = false
may_bring_more (NextWaiting number) = true
may_bring_more (Oversized number) = false
may_bring_more (LinkLost number) = false
may_bring_more (Late number) = false
may_bring_more (Overdue key) = false
may_bring_more (Due number) = false

-- what holds of a message that was read, and of each look at what waits, holds of one that is
pub each-bringing : (P : RoundItem → Type 0) (item : RoundItem) → may_bring_more item ≡ true → ((till : ℕ) (as_read : ReadAs) → P (Asked till as_read)) → ((number : ℕ) → P (NextWaiting number)) → P item
each-bringing P (Crowded till) e asked nexts = no-true e
each-bringing P (Message till bytes) e asked nexts = no-true e
each-bringing P (Asked till as_read) e asked nexts = asked till as_read
each-bringing P (Unframed till) e asked nexts = no-true e
each-bringing P (Gone till) e asked nexts = no-true e
each-bringing P (Greet number apdu) e asked nexts = no-true e
each-bringing P (Handle number apdu) e asked nexts = no-true e
each-bringing P (Serve number till header request) e asked nexts = no-true e
each-bringing P (Queue number till header request) e asked nexts = no-true e
each-bringing P (NextWaiting number) e asked nexts = nexts number
each-bringing P (Oversized number) e asked nexts = no-true e
each-bringing P (LinkLost number) e asked nexts = no-true e
each-bringing P (Late number) e asked nexts = no-true e
each-bringing P (Overdue key) e asked nexts = no-true e
each-bringing P (Due number) e asked nexts = no-true e

-- the item is a message that was read
abbrev pub is_message : RoundItem → Bool
is_message (Crowded till) = false
is_message (Message till bytes) = false
is_message (Asked till as_read) = true
is_message (Unframed till) = false
is_message (Gone till) = false
is_message (Greet number apdu) = false
is_message (Handle number apdu) = false
is_message (Serve number till header request) = false
is_message (Queue number till header request) = false
is_message (NextWaiting number) = false
is_message (Oversized number) = false
is_message (LinkLost number) = false
is_message (Late number) = false
is_message (Overdue key) = false
is_message (Due number) = false

-- it is a look at what waits
abbrev pub is_look : RoundItem → Bool
is_look (Crowded till) = false
is_look (Message till bytes) = false
is_look (Asked till as_read) = false
is_look (Unframed till) = false
is_look (Gone till) = false
is_look (Greet number apdu) = false
is_look (Handle number apdu) = false
is_look (Serve number till header request) = false
is_look (Queue number till header request) = false
is_look (NextWaiting number) = true
is_look (Oversized number) = false
is_look (LinkLost number) = false
is_look (Late number) = false
is_look (Overdue key) = false
is_look (Due number) = false

-- each of these is
abbrev pub all_look : List RoundItem → Bool
all_look [] = true
all_look (item ∷ items) = is_look item && all_look items

-- what holds of each look holds of one that is
pub each-look : (P : RoundItem → Type 0) (item : RoundItem) → is_look item ≡ true → ((number : ℕ) → P (NextWaiting number)) → P item
each-look P (Crowded till) e nexts = no-true e
each-look P (Message till bytes) e nexts = no-true e
each-look P (Asked till as_read) e nexts = no-true e
each-look P (Unframed till) e nexts = no-true e
each-look P (Gone till) e nexts = no-true e
each-look P (Greet number apdu) e nexts = no-true e
each-look P (Handle number apdu) e nexts = no-true e
each-look P (Serve number till header request) e nexts = no-true e
each-look P (Queue number till header request) e nexts = no-true e
each-look P (NextWaiting number) e nexts = nexts number
each-look P (Oversized number) e nexts = no-true e
each-look P (LinkLost number) e nexts = no-true e
each-look P (Late number) e nexts = no-true e
each-look P (Overdue key) e nexts = no-true e
each-look P (Due number) e nexts = no-true e

-- what waits for a terminal may join, or leave, and nothing else changes
queue-keeps : (known : Known) (number till : ℕ) (header : Header) (request : SaleRequest) → KeepsLinks known.moment known.core (queue_row known number till header request)
queue-keeps known number till header request = each-queued (KeepsLinks known.moment known.core) known number till header request (record {
  none = owing-keeps known [] tt;
  joins = λ terminal key at. record { states = λ other. refl; items = refl; settings = refl; fits = tt };
  taken = λ wait at. record { states = λ other. refl; items = refl; settings = refl; fits = (tt, tt) };
})

overdue-keeps : (known : Known) (key : Key) → KeepsLinks known.moment known.core (overdue_row known key)
overdue-keeps known key = each-overdue (KeepsLinks known.moment known.core) known key (record {
  none = owing-keeps known [] tt;
  taken = λ wait is overdue. record { states = λ other. refl; items = refl; settings = refl; fits = (tt, tt) };
})

next-keeps : (known : Known) (number : ℕ) → LeavesLinks known.moment known.core (next_waiting_row known number)
next-keeps known number = each-next (LeavesLinks known.moment known.core) known number (record {
  none = record { states = λ other. refl; items = refl; settings = refl; fits = tt };
  refused = λ terminal last wait condition first is. record { states = λ other. refl; items = refl; settings = refl; fits = (tt, tt) };
  begins = λ terminal last wait asking at.
      let k = begun-keeps (known_without known wait) number wait.till terminal last asking at.first.found (ap (λ s. standing_state s terminal.talk) at.first.standing_is) in
      record { states = k.states; items = ap all_follow k.items; settings = k.settings; fits = k.fits };
  day = λ terminal last wait at.
      let k : KeepsLinks known.moment (core_without_wait known.core wait.key) (day_row (known_without known wait) number wait.till wait.header terminal last) =
      becomes-keeps (known_without known wait) number terminal _ _ at.first.found (ap (λ s. standing_state s terminal.talk) at.first.standing_is) refl refl (λ there. (there, tt)) in
      record { states = k.states; items = ap all_follow k.items; settings = k.settings; fits = k.fits };
  left = λ terminal last wait first. record { states = λ other. refl; items = refl; settings = refl; fits = tt };
})

-- a look at what waits brings another look at most
pub next-looks : (known : Known) (number : ℕ) → all_look (next_waiting_row known number).items ≡ true
next-looks known number = each-next (λ (row : Row). all_look row.items ≡ true) known number (record {
  none = refl;
  refused = λ terminal last wait condition first is. refl;
  begins = λ terminal last wait asking at. refl;
  day = λ terminal last wait at. refl;
  left = λ terminal last wait first. refl;
})

-- where its terminal isn't ready nothing is owed
pub next-unready : (known : Known) (number : ℕ) (terminal : Terminal) → terminal_at known number ≡ Some terminal → is_ready_standing terminal.standing ≡ false → next_waiting_row known number ≡ owing_nothing known
next-unready known number terminal found none = rw (found, none) refl

-- and no row brings an item but that of a message, and of a look at what waits
pub alone-keep : (tills : List Connection) (known : Known) (item : RoundItem) → ((number : ℕ) → state_in known.core number ≢ Odd) → loses item ≡ false → may_bring_more item ≡ false → KeepsLinks known.moment known.core (row_of tills known item)
alone-keep tills known (Crowded till) even stays none = owing-keeps known (CutTill till ∷ []) (tt, tt)
alone-keep tills known (Message till bytes) even stays none = owing-keeps known [] tt
alone-keep tills known (Asked till as_read) even stays none = no-true (sym none)
alone-keep tills known (Unframed till) even stays none = where-keeps (is_connected tills till) known (owing known (CutTill till ∷ [])) (λ there. owing-keeps known (CutTill till ∷ []) (tt, tt))
alone-keep tills known (Gone till) even stays none = record { states = without-states till known.core.terminals; items = refl; settings = without-settings till known.core.terminals; fits = tt }
alone-keep tills known (Greet number apdu) even stays none = greet-keeps known number (decode_pt_message apdu)
alone-keep tills known (Handle number apdu) even stays none = handle-keeps known number apdu
alone-keep tills known (Serve number till header request) even stays none = serve-keeps known number till header request
alone-keep tills known (Queue number till header request) even stays none = queue-keeps known number till header request
alone-keep tills known (NextWaiting number) even stays none = no-true (sym none)
alone-keep tills known (Oversized number) even stays none = outside-keeps known number
alone-keep tills known (LinkLost number) even stays none = no-true (sym stays)
alone-keep tills known (Late number) even stays none = late-keeps known number (even number)
alone-keep tills known (Overdue key) even stays none = overdue-keeps known key
alone-keep tills known (Due number) even stays none = due-keeps known number (even number)

asked-keeps : (there : Bool) (known : Known) (till : ℕ) (as_read : ReadAs) → LeavesLinks known.moment known.core (owing_where there known (asked_row known till as_read))
asked-keeps true known till as_read = record { states = λ number. refl; items = begins-follow known till as_read; settings = refl; fits = reply-fits known.moment known.core (Some till) (reply_to known as_read) }
asked-keeps false known till as_read = record { states = λ number. refl; items = refl; settings = refl; fits = tt }

pub rows-keep : (tills : List Connection) (known : Known) (item : RoundItem) → ((number : ℕ) → state_in known.core number ≢ Odd) → loses item ≡ false → LeavesLinks known.moment known.core (row_of tills known item)
rows-keep tills known item even stays = by_test item stays (may_bring_more item) refl
  where
    leaves : (item : RoundItem) → KeepsLinks known.moment known.core (row_of tills known item) → LeavesLinks known.moment known.core (row_of tills known item)
    leaves item k = record { states = k.states; items = ap all_follow k.items; settings = k.settings; fits = k.fits }

    by_test : (item : RoundItem) → loses item ≡ false → (test : Bool) → may_bring_more item ≡ test → LeavesLinks known.moment known.core (row_of tills known item)
    by_test item stays false e = leaves item (alone-keep tills known item even stays e)
    by_test (Asked till as_read) stays true e = asked-keeps (is_connected tills till) known till as_read
    by_test (Crowded till) stays true e = no-true e
    by_test (Message till bytes) stays true e = no-true e
    by_test (Unframed till) stays true e = no-true e
    by_test (Gone till) stays true e = no-true e
    by_test (Greet number apdu) stays true e = no-true e
    by_test (Handle number apdu) stays true e = no-true e
    by_test (Serve number till header request) stays true e = no-true e
    by_test (Queue number till header request) stays true e = no-true e
    by_test (NextWaiting number) stays true e = next-keeps known number
    by_test (Oversized number) stays true e = no-true e
    by_test (LinkLost number) stays true e = no-true e
    by_test (Late number) stays true e = no-true e
    by_test (Overdue key) stays true e = no-true e
    by_test (Due number) stays true e = no-true e

-- ---- links

-- what an event of its link leaves of a terminal
abbrev pub state_then : LinkState → LinkState → LinkState
state_then new Absent = Absent
state_then new On = new
state_then new (Off due) = new
state_then new Odd = new

-- the row leaves this state of one terminal, where there is one, and the others as they were
pub record Turns (core : Core) (number : ℕ) (new : LinkState) (row : Row) : Type 0 where
  pub own : state_in row.core number ≡ state_then new (state_in core number)
  pub others : (other : ℕ) → other ≢ number → state_in row.core other ≡ state_in core other
  pub items : row.items ≡ []
  pub settings : settings_of row.core ≡ settings_of core
  pub fits : (moment : ℕ) → EachFits moment row.core row.calls

some-then : (new : LinkState) (standing : Standing) (talk : Option TalkFacts) → state_then new (standing_state standing talk) ≡ new
some-then new (Unlinked due) None = refl
some-then new (Unlinked due) (Some talk) = refl
some-then new Registering talk = refl
some-then new Enquiring talk = refl
some-then new (Ready last) talk = refl
some-then new (Serving service last) talk = refl
some-then new (Aside before reported) talk = refl

becomes-turns : (known : Known) (number : ℕ) (old new : Terminal) (calls : List OwedCall) → terminal_at known number ≡ Some old → new.pt ≡ old.pt
    → (state_in (with_terminal known.core number new) number ≡ standing_state new.standing new.talk → (moment : ℕ) → EachFits moment (with_terminal known.core number new) calls) → Turns known.core number (standing_state new.standing new.talk) (terminal_becomes known number new calls)
becomes-turns known number old new calls found same fits =
    let there : state_in (with_terminal known.core number new) number ≡ standing_state new.standing new.talk = ap state_of (new-is-there known.core.terminals number old new found) in
    record {
      own = there ∙ sym (ap (λ s. state_then (standing_state new.standing new.talk) (state_of s)) found ∙ some-then (standing_state new.standing new.talk) old.standing old.talk);
      others = λ other differs. ap state_of (others-stay known.core.terminals number other new differs);
      items = refl;
      settings = same-stays (λ (terminal : Terminal). terminal.pt) known.core.terminals number old new found same;
      fits = fits there;
    }

absent-turns : (known : Known) (number : ℕ) (new : LinkState) → terminal_at known number ≡ None → Turns known.core number new (owing_nothing known)
absent-turns known number new none = record { own = ap state_of none ∙ sym (ap (λ s. state_then new (state_of s)) none); others = λ other differs. refl; items = refl; settings = refl; fits = λ moment. tt }

by-found : (known : Known) (number : ℕ) (new : LinkState) (row : Terminal → Row) (terminal : Option Terminal) → terminal_at known number ≡ terminal → ((terminal : Terminal) → terminal_at known number ≡ Some terminal → Turns known.core number new (row terminal))
    → Turns known.core number new (of_terminal known row terminal)
by-found known number new row None e some = absent-turns known number new e
by-found known number new row (Some terminal) e some = some terminal e

-- a link that is made
pub made-turns : (known : Known) (number : ℕ) → Turns known.core number On (link_made known number)
made-turns known number = by-found known number On (registers known number) (terminal_at known number) refl
    (λ terminal found. becomes-turns known number terminal _ _ found refl (λ there moment. (there, tt)))

-- a link that is lost, or couldn't be made
pub lost-turns : (known : Known) (number : ℕ) → Turns known.core number (Off (Some (known.moment + 5))) (link_lost known number)
lost-turns known number = by-found known number (Off (Some (known.moment + 5))) (unlinks known number) (terminal_at known number) refl
    (λ terminal found. becomes-turns known number terminal _ (reply_calls_to terminal.asker (reply_to_lost terminal.standing)) found refl (λ there moment. reply-fits moment (with_terminal known.core number (unlinked_terminal terminal known.moment)) terminal.asker (reply_to_lost terminal.standing)))
