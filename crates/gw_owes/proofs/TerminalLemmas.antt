-- What the items of terminals, and their links, leave and owe.
use Rattle.std.proofs.Common.{◌≡◌, ◌≢◌, ℕ, [], ◌∷◌, refl, sym, ◌∙◌, ap, subst, inl, inr, Bool, true, false}
use Rattle.std.specs.Prelude.{Option, Some, None, Result, Ok, Err}
use Rattle.zvt_apdu.specs.Grammar.{ApduValue}
use Rattle.zvt_msg.specs.declared.fault.PtFault.{PtFault}
use Rattle.zvt_msg.specs.Message.{MessageValue, Ack, Nack, Intermediate, Line, Block, Status, Completion, Abort, Other}
use Rattle.zvt_msg.specs.MessageDecode.{decode_pt_message}
use Rattle.sale_values.specs.declared.header.Header.{Header}
use Rattle.sale_values.specs.declared.request.SaleRequest.{SaleRequest}
use Rattle.zvt_talk.specs.Laws.{IsAckOrNack}
use Rattle.zvt_talk.specs.Talk.{TalkFacts}
use Rattle.jrn_record.specs.declared.records.How.TheVariants as hows
use Rattle.gw_owes.specs.Awaited.{many_more}
use Rattle.gw_owes.specs.Calls.{SendPt, CutPt, LinkPt, Ask, Acknowledge, Refuse}
use Rattle.gw_owes.specs.declared.terminal.Standing.TheVariants.{Unlinked, Registering}
use Rattle.gw_owes.specs.declared.terminal.Terminal.{Terminal}
use Rattle.gw_owes.specs.Items.{RoundItem, Crowded, Message, Asked, Unframed, Gone, Greet, Handle, Serve, Queue, NextWaiting, Oversized, LinkLost, Late, Overdue, Due}
use Rattle.gw_owes.specs.Core.{Core, Wait}
use Rattle.gw_owes.specs.Row.{Known, Row, owing, owing_nothing, owing_where}
use Rattle.gw_owes.specs.Terminals.{terminal_at, of_terminal, registers, registration, unlinks, unlinked_terminal, reply_to_lost}
use Rattle.gw_owes.specs.Links.{is_linked, of_linked, cutting, LinkEvent, LinkIsMade, LinkHasFailed, LinkIsLost, link_row}
use Rattle.gw_owes.specs.Greeting.{greeting, sending_calls, greet_decoded, greet_row, oversized_row}
use Rattle.gw_owes.specs.Handling.{handle_decoded, handle_row}
use Rattle.gw_owes.specs.Payments.{serve_row}
use Rattle.gw_owes.specs.Reconciliations.{settled_of, reply_to_settled}
use Rattle.gw_owes.specs.Deadlines.{is_late, is_due, late_row, due_row}
use Rattle.gw_owes.specs.TerminalRows.{terminal_row}
use Rattle.gw_owes.specs.Laws.{ends_in_one, EndsInOne}
use Rattle.gw_owes.specs.TerminalLaws.{ChangesTerminalAlone, EachRowChangesItsTerminal, EachLinkChangesItsTerminal, EachRowLeavesWaits, EachLinkLeavesWaits, GreetingChangesNothing, UnlinkedIsOwedNothing, AbsentIsOwedNothing, Awaits, EachLinkCountsAnew, owes_cut, BreaksDialogue, IsLateAt, EachCutHasCause, EachCauseCuts, EachMessageIsGreeted, NoLinkEventCuts, GoesOnTo, DueIsLinked, LinkedIsRegistered}
use Rattle.gw_owes.specs.WaitingRows.{next_waiting_row}
use Rattle.gw_owes.proofs.NextLemmas.{each-next, known_without}
use Rattle.gw_owes.proofs.PaymentLemmas.{each-served}
use Rattle.gw_owes.proofs.RowLemmas.{links-end, reply-commands, reply-ends, reply-no-cut}
use Rattle.gw_owes.proofs.SetLemmas.{new-is-there, alone-same, alone-set, terminals-same}
use Rattle.gw_owes.proofs.HandlingLemmas.{breaks-cut, by-where, linked-row, each-terminal, each-linked, handle-alone, handle-leaves, handle-ends, handle-cuts}

-- ---- the calls

sending-ends : (number : ℕ) (message : MessageValue) → ends_in_one (sending_calls number (greeting message)) ≡ true
sending-ends number Ack = refl
sending-ends number (Nack error_code) = refl
sending-ends number (Intermediate intermediate_status) = refl
sending-ends number (Line text) = refl
sending-ends number (Block objects) = refl
sending-ends number (Status fields) = refl
sending-ends number Completion = refl
sending-ends number (Abort result_code) = refl
sending-ends number Other = refl

greet-decoded-ends : (known : Known) (number : ℕ) (decoded : Result MessageValue PtFault) → EndsInOne (greet_decoded known number decoded)
greet-decoded-ends known number (Ok message) = each-linked EndsInOne known number (λ terminal. owing known (sending_calls number (greeting message))) refl (λ terminal found linked. sending-ends number message)
greet-decoded-ends known number (Err fault) = each-linked EndsInOne known number (λ terminal. cutting known number) refl (λ terminal found linked. refl)

late-ends : (known : Known) (number : ℕ) → EndsInOne (late_row known number)
late-ends known number = each-terminal EndsInOne known number (λ terminal. owing_where (is_late known.moment terminal.talk) known (cutting known number)) refl
    (λ terminal found. by-where EndsInOne known (cutting known number) (is_late known.moment terminal.talk) refl (λ late. refl))

due-ends : (known : Known) (number : ℕ) → EndsInOne (due_row known number)
due-ends known number = each-terminal EndsInOne known number (λ terminal. owing_where (is_due known.moment terminal.standing) known (owing known (LinkPt number ∷ []))) refl
    (λ terminal found. by-where EndsInOne known (owing known (LinkPt number ∷ [])) (is_due known.moment terminal.standing) refl (λ due. refl))

serve-ends : (known : Known) (number till : ℕ) (header : Header) (request : SaleRequest) → EndsInOne (serve_row known number till header request)
serve-ends known number till header request =
    each-served EndsInOne known number till header request (record {
      none = refl;
      begins = λ terminal last asking at. refl;
      sent = λ terminal talk at may. refl;
      wished = λ terminal talk at may. refl;
      session = λ success. refl;
      settles = λ terminal at. reply-ends (Some till) (reply_to_settled known.kept (settled_of hows.Sale header terminal.pt.currency known.moment));
      day = λ terminal last at. refl;
      displays = λ terminal last outputs command at. refl;
    })

next-ends : (known : Known) (number : ℕ) → EndsInOne (next_waiting_row known number)
next-ends known number =
    each-next EndsInOne known number (record {
      none = refl;
      refused = λ terminal last wait condition first is. refl;
      begins = λ terminal last wait asking at. refl;
      day = λ terminal last wait at. refl;
      left = λ terminal last wait first. refl;
    })

pub link-rows-end : (known : Known) (number : ℕ) (event : LinkEvent) → EndsInOne (link_row known number event)
link-rows-end known number LinkIsMade = let ends = links-end known number in ends.made
link-rows-end known number LinkHasFailed = let ends = links-end known number in ends.lost
link-rows-end known number LinkIsLost = let ends = links-end known number in ends.lost

pub terminal-rows-end : (known : Known) (item : RoundItem) → EndsInOne (terminal_row known item)
terminal-rows-end known (Crowded till) = refl
terminal-rows-end known (Message till bytes) = refl
terminal-rows-end known (Asked till as_read) = refl
terminal-rows-end known (Unframed till) = refl
terminal-rows-end known (Gone till) = refl
terminal-rows-end known (Greet number apdu) = greet-decoded-ends known number (decode_pt_message apdu)
terminal-rows-end known (Handle number apdu) = handle-ends known number apdu
terminal-rows-end known (Serve number till header request) = serve-ends known number till header request
terminal-rows-end known (Queue number till header request) = refl
terminal-rows-end known (NextWaiting number) = next-ends known number
terminal-rows-end known (Oversized number) = each-linked EndsInOne known number (λ terminal. cutting known number) refl (λ terminal found linked. refl)
terminal-rows-end known (LinkLost number) = link-rows-end known number LinkIsLost
terminal-rows-end known (Late number) = late-ends known number
terminal-rows-end known (Overdue key) = refl
terminal-rows-end known (Due number) = due-ends known number

-- ---- what stays

greet-decoded-same : (known : Known) (number : ℕ) (decoded : Result MessageValue PtFault) → (greet_decoded known number decoded).core ≡ known.core
greet-decoded-same known number (Ok message) = each-linked (λ (row : Row). row.core ≡ known.core) known number (λ terminal. owing known (sending_calls number (greeting message))) refl (λ terminal found linked. refl)
greet-decoded-same known number (Err fault) = each-linked (λ (row : Row). row.core ≡ known.core) known number (λ terminal. cutting known number) refl (λ terminal found linked. refl)

pub greeting-changes-nothing : GreetingChangesNothing
greeting-changes-nothing known number apdu = greet-decoded-same known number (decode_pt_message apdu)

same-alone : (number : ℕ) (known : Known) (row : Row) → row.core ≡ known.core → ChangesTerminalAlone number known.core row.core
same-alone number known row same = subst (λ core. ChangesTerminalAlone number known.core core) (sym same) (alone-same number known.core)

pub late-same : (known : Known) (number : ℕ) → (late_row known number).core ≡ known.core
late-same known number = each-terminal (λ (row : Row). row.core ≡ known.core) known number (λ terminal. owing_where (is_late known.moment terminal.talk) known (cutting known number)) refl
    (λ terminal found. by-where (λ (row : Row). row.core ≡ known.core) known (cutting known number) (is_late known.moment terminal.talk) refl (λ late. refl))

pub due-same : (known : Known) (number : ℕ) → (due_row known number).core ≡ known.core
due-same known number = each-terminal (λ (row : Row). row.core ≡ known.core) known number (λ terminal. owing_where (is_due known.moment terminal.standing) known (owing known (LinkPt number ∷ []))) refl
    (λ terminal found. by-where (λ (row : Row). row.core ≡ known.core) known (owing known (LinkPt number ∷ [])) (is_due known.moment terminal.standing) refl (λ due. refl))

pub oversized-same : (known : Known) (number : ℕ) → (oversized_row known number).core ≡ known.core
oversized-same known number = each-linked (λ (row : Row). row.core ≡ known.core) known number (λ terminal. cutting known number) refl (λ terminal found linked. refl)

lost-alone : (known : Known) (number : ℕ) → ChangesTerminalAlone number known.core (of_terminal known (unlinks known number) (terminal_at known number)).core
lost-alone known number =
    each-terminal (λ (row : Row). ChangesTerminalAlone number known.core row.core) known number (unlinks known number) (alone-same number known.core)
    (λ terminal found. alone-set number known.core terminal (unlinked_terminal terminal known.moment) found refl)

pub link-changes-alone : EachLinkChangesItsTerminal
link-changes-alone known number LinkIsMade =
    each-terminal (λ (row : Row). ChangesTerminalAlone number known.core row.core) known number (registers known number) (alone-same number known.core)
    (λ terminal found. alone-set number known.core terminal _ found refl)
link-changes-alone known number LinkHasFailed = lost-alone known number
link-changes-alone known number LinkIsLost = lost-alone known number

-- a request that a terminal begins to serve, or by which it stops what it serves, changes it alone, and a Login or Logout none
pub serve-alone : (known : Known) (number till : ℕ) (header : Header) (request : SaleRequest) → ChangesTerminalAlone number known.core (serve_row known number till header request).core
serve-alone known number till header request =
    each-served (λ (row : Row). ChangesTerminalAlone number known.core row.core) known number till header request (record {
      none = alone-same number known.core;
      begins = λ terminal last asking at. alone-set number known.core terminal _ at.found refl;
      sent = λ terminal talk at may. alone-set number known.core terminal _ at.found refl;
      wished = λ terminal talk at may. alone-set number known.core terminal _ at.found refl;
      session = λ success. terminals-same number known.core _ refl;
      settles = λ terminal at. alone-same number known.core;
      day = λ terminal last at. alone-set number known.core terminal _ at.found refl;
      displays = λ terminal last outputs command at. alone-set number known.core terminal _ at.found refl;
    })

-- another list of what waits changes no terminal
without-alone : (number : ℕ) (known : Known) (wait : Wait) (new : Core) → ChangesTerminalAlone number (known_without known wait).core new → ChangesTerminalAlone number known.core new
without-alone number known wait new alone = record { others = alone.others; settings = alone.settings; count = alone.count }

-- a request that a terminal begins once it has waited changes it alone
pub next-alone : (known : Known) (number : ℕ) → ChangesTerminalAlone number known.core (next_waiting_row known number).core
next-alone known number =
    each-next (λ (row : Row). ChangesTerminalAlone number known.core row.core) known number (record {
      none = alone-same number known.core;
      refused = λ terminal last wait condition first is. without-alone number known wait _ (alone-same number (known_without known wait).core);
      begins = λ terminal last wait asking at. without-alone number known wait _ (alone-set number (known_without known wait).core terminal _ at.first.found refl);
      day = λ terminal last wait at. without-alone number known wait _ (alone-set number (known_without known wait).core terminal _ at.first.found refl);
      left = λ terminal last wait first. without-alone number known wait _ (alone-same number (known_without known wait).core);
    })

pub row-changes-alone : EachRowChangesItsTerminal
row-changes-alone known (Crowded till) number is = absurd cc
row-changes-alone known (Message till bytes) number is = absurd cc
row-changes-alone known (Asked till as_read) number is = absurd cc
row-changes-alone known (Unframed till) number is = absurd cc
row-changes-alone known (Gone till) number is = absurd cc
row-changes-alone known (Greet pt apdu) number is = same-alone number known (greet_row known pt apdu) (greeting-changes-nothing known pt apdu)
row-changes-alone known (Handle pt apdu) number is = let e : pt ≡ number = cc in subst (λ n. ChangesTerminalAlone n known.core (handle_row known pt apdu).core) e (handle-alone known pt apdu)
row-changes-alone known (Serve pt till header request) number is = let e : pt ≡ number = cc in subst (λ n. ChangesTerminalAlone n known.core (serve_row known pt till header request).core) e (serve-alone known pt till header request)
row-changes-alone known (Queue pt till header request) number is = absurd cc
row-changes-alone known (NextWaiting pt) number is = let e : pt ≡ number = cc in subst (λ n. ChangesTerminalAlone n known.core (next_waiting_row known pt).core) e (next-alone known pt)
row-changes-alone known (Oversized pt) number is = same-alone number known (oversized_row known pt) (oversized-same known pt)
row-changes-alone known (LinkLost pt) number is = let e : pt ≡ number = cc in subst (λ n. ChangesTerminalAlone n known.core (link_row known pt LinkIsLost).core) e (lost-alone known pt)
row-changes-alone known (Late pt) number is = same-alone number known (late_row known pt) (late-same known pt)
row-changes-alone known (Overdue key) number is = absurd cc
row-changes-alone known (Due pt) number is = same-alone number known (due_row known pt) (due-same known pt)

-- ---- what waits

greet-leaves : (known : Known) (number : ℕ) (apdu : ApduValue) → (greet_row known number apdu).core.waits ≡ known.core.waits
greet-leaves known number apdu = ap (λ (core : Core). core.waits) (greeting-changes-nothing known number apdu)

serve-leaves : (known : Known) (number till : ℕ) (header : Header) (request : SaleRequest) → (serve_row known number till header request).core.waits ≡ known.core.waits
serve-leaves known number till header request =
    each-served (λ (row : Row). row.core.waits ≡ known.core.waits) known number till header request (record {
      none = refl;
      begins = λ terminal last asking at. refl;
      sent = λ terminal talk at may. refl;
      wished = λ terminal talk at may. refl;
      session = λ success. refl;
      settles = λ terminal at. refl;
      day = λ terminal last at. refl;
      displays = λ terminal last outputs command at. refl;
    })

lost-leaves : (known : Known) (number : ℕ) → (of_terminal known (unlinks known number) (terminal_at known number)).core.waits ≡ known.core.waits
lost-leaves known number = each-terminal (λ (row : Row). row.core.waits ≡ known.core.waits) known number (unlinks known number) refl (λ terminal found. refl)

pub link-leaves-waits : EachLinkLeavesWaits
link-leaves-waits known number LinkIsMade = each-terminal (λ (row : Row). row.core.waits ≡ known.core.waits) known number (registers known number) refl (λ terminal found. refl)
link-leaves-waits known number LinkHasFailed = lost-leaves known number
link-leaves-waits known number LinkIsLost = lost-leaves known number

pub row-leaves-waits : EachRowLeavesWaits
row-leaves-waits known (Crowded till) other = refl
row-leaves-waits known (Message till bytes) other = refl
row-leaves-waits known (Asked till as_read) other = refl
row-leaves-waits known (Unframed till) other = refl
row-leaves-waits known (Gone till) other = refl
row-leaves-waits known (Greet number apdu) other = greet-leaves known number apdu
row-leaves-waits known (Handle number apdu) other = handle-leaves known number apdu
row-leaves-waits known (Serve number till header request) other = serve-leaves known number till header request
row-leaves-waits known (Queue number till header request) other = refl
row-leaves-waits known (NextWaiting number) other = absurd cc
row-leaves-waits known (Oversized number) other = ap (λ (core : Core). core.waits) (oversized-same known number)
row-leaves-waits known (LinkLost number) other = lost-leaves known number
row-leaves-waits known (Late number) other = ap (λ (core : Core). core.waits) (late-same known number)
row-leaves-waits known (Overdue key) other = refl
row-leaves-waits known (Due number) other = ap (λ (core : Core). core.waits) (due-same known number)

-- ---- terminals that aren't linked

unlinked-row : (known : Known) (number : ℕ) (row : Terminal → Row) (terminal : Terminal) (due : Option ℕ) → terminal_at known number ≡ Some terminal → terminal.standing ≡ Unlinked due → of_linked known number row ≡ owing_nothing known
unlinked-row known number row terminal due found standing = rw (found, standing) refl

pub unlinked-owes-nothing : UnlinkedIsOwedNothing
unlinked-owes-nothing known number terminal due apdu found standing = record {
  greeted = greeted (decode_pt_message apdu);
  handled = handled (decode_pt_message apdu);
  oversized = unlinked-row known number _ terminal due found standing;
}
  where
    greeted : (decoded : Result MessageValue PtFault) → greet_decoded known number decoded ≡ owing_nothing known
    greeted (Ok message) = unlinked-row known number _ terminal due found standing
    greeted (Err fault) = unlinked-row known number _ terminal due found standing

    handled : (decoded : Result MessageValue PtFault) → handle_decoded known number decoded ≡ owing_nothing known
    handled (Ok message) = unlinked-row known number _ terminal due found standing
    handled (Err fault) = refl

absent-row : (known : Known) (number : ℕ) (row : Terminal → Row) → terminal_at known number ≡ None → of_linked known number row ≡ owing_nothing known
absent-row known number row none = rw none refl

pub absent-owes-nothing : AbsentIsOwedNothing
absent-owes-nothing known number apdu none = record {
  greeted = greeted (decode_pt_message apdu);
  handled = handled (decode_pt_message apdu);
  oversized = absent-row known number _ none;
}
  where
    greeted : (decoded : Result MessageValue PtFault) → greet_decoded known number decoded ≡ owing_nothing known
    greeted (Ok message) = absent-row known number _ none
    greeted (Err fault) = absent-row known number _ none

    handled : (decoded : Result MessageValue PtFault) → handle_decoded known number decoded ≡ owing_nothing known
    handled (Ok message) = absent-row known number _ none
    handled (Err fault) = refl

-- ---- what is awaited

lost-counts : (known : Known) (number : ℕ) (terminal : Terminal) → terminal_at known number ≡ Some terminal → Awaits number 0 (of_terminal known (unlinks known number) (terminal_at known number))
lost-counts known number terminal found =
    subst (λ (o : Option Terminal). Awaits number 0 (of_terminal known (unlinks known number) o)) (sym found) (record {
      terminal = unlinked_terminal terminal known.moment;
      found = new-is-there known.core.terminals number terminal _ found;
      count = ap (λ (n : ℕ). many_more n 0) (sym (reply-commands terminal.asker (reply_to_lost terminal.standing)));
    })

pub link-counts-anew : EachLinkCountsAnew
link-counts-anew known number LinkIsMade terminal found =
    subst (λ (o : Option Terminal). Awaits number 0 (of_terminal known (registers known number) o)) (sym found) (record {
      terminal = _;
      found = new-is-there known.core.terminals number terminal _ found;
      count = refl;
    })
link-counts-anew known number LinkHasFailed terminal found = lost-counts known number terminal found
link-counts-anew known number LinkIsLost terminal found = lost-counts known number terminal found

-- ---- cuts

lost-no-cut : (known : Known) (number : ℕ) → owes_cut (of_terminal known (unlinks known number) (terminal_at known number)).calls ≡ false
lost-no-cut known number = each-terminal (λ (row : Row). owes_cut row.calls ≡ false) known number (unlinks known number) refl (λ terminal found. reply-no-cut terminal.asker (reply_to_lost terminal.standing))

pub no-link-event-cuts : NoLinkEventCuts
no-link-event-cuts known number LinkIsMade = each-terminal (λ (row : Row). owes_cut row.calls ≡ false) known number (registers known number) refl (λ terminal found. refl)
no-link-event-cuts known number LinkHasFailed = lost-no-cut known number
no-link-event-cuts known number LinkIsLost = lost-no-cut known number

sending-no-cut : (number : ℕ) (message : MessageValue) → owes_cut (sending_calls number (greeting message)) ≡ false
sending-no-cut number Ack = refl
sending-no-cut number (Nack error_code) = refl
sending-no-cut number (Intermediate intermediate_status) = refl
sending-no-cut number (Line text) = refl
sending-no-cut number (Block objects) = refl
sending-no-cut number (Status fields) = refl
sending-no-cut number Completion = refl
sending-no-cut number (Abort result_code) = refl
sending-no-cut number Other = refl

contradicts : false ≡ true → ⊥
contradicts e = cc

never : {A : Type 0} (b : Bool) → b ≡ false → b ≡ true → A
never b is_false is_true = absurd (contradicts (sym is_false ∙ is_true))

greet-cuts : (known : Known) (number : ℕ) (apdu : ApduValue) → owes_cut (greet_row known number apdu).calls ≡ true → (fault : PtFault) × (decode_pt_message apdu ≡ Err fault)
greet-cuts known number apdu = by-decoded (decode_pt_message apdu) refl
  where
    by-decoded : (decoded : Result MessageValue PtFault) → decode_pt_message apdu ≡ decoded → owes_cut (greet_decoded known number decoded).calls ≡ true → (fault : PtFault) × (decode_pt_message apdu ≡ Err fault)
    by-decoded (Ok message) is cuts =
        each-linked (λ (row : Row). owes_cut row.calls ≡ true → (fault : PtFault) × (decode_pt_message apdu ≡ Err fault)) known number (λ terminal. owing known (sending_calls number (greeting message))) (λ cuts. absurd cc)
        (λ terminal found linked cuts. never _ (sending-no-cut number message) cuts) cuts
    by-decoded (Err fault) is cuts = (fault, is)

is-silent : (known : Known) (number : ℕ) (terminal : Terminal) (talk : Option TalkFacts) → terminal_at known number ≡ Some terminal → terminal.talk ≡ talk → is_late known.moment talk ≡ true → IsLateAt known number
is-silent known number terminal None found is late = absurd cc
is-silent known number terminal (Some talk) found is late = record { terminal = terminal; found = found; talk = talk; talk_is = is; late = late }

late-cuts : (known : Known) (number : ℕ) → owes_cut (late_row known number).calls ≡ true → IsLateAt known number
late-cuts known number =
    each-terminal (λ (row : Row). owes_cut row.calls ≡ true → IsLateAt known number) known number (λ terminal. owing_where (is_late known.moment terminal.talk) known (cutting known number)) (λ cuts. absurd cc)
    (λ terminal found. by-where (λ (row : Row). owes_cut row.calls ≡ true → IsLateAt known number) known (cutting known number) (is_late known.moment terminal.talk) (λ cuts. absurd cc)
    (λ late cuts. is-silent known number terminal terminal.talk found refl late))

late-cut : (known : Known) (number : ℕ) → IsLateAt known number → (late_row known number).calls ≡ CutPt number ∷ []
late-cut known number late =
    ap (λ (found : Option Terminal). (of_terminal known (λ terminal. owing_where (is_late known.moment terminal.talk) known (cutting known number)) found).calls) late.found
    ∙ ap (λ (talk : Option TalkFacts). (owing_where (is_late known.moment talk) known (cutting known number)).calls) late.talk_is
    ∙ ap (λ (b : Bool). (owing_where b known (cutting known number)).calls) late.late

due-no-cut : (known : Known) (number : ℕ) → owes_cut (due_row known number).calls ≡ false
due-no-cut known number = each-terminal (λ (row : Row). owes_cut row.calls ≡ false) known number (λ terminal. owing_where (is_due known.moment terminal.standing) known (owing known (LinkPt number ∷ []))) refl
    (λ terminal found. by-where (λ (row : Row). owes_cut row.calls ≡ false) known (owing known (LinkPt number ∷ [])) (is_due known.moment terminal.standing) refl (λ due. refl))

serve-no-cut : (known : Known) (number till : ℕ) (header : Header) (request : SaleRequest) → owes_cut (serve_row known number till header request).calls ≡ false
serve-no-cut known number till header request =
    each-served (λ (row : Row). owes_cut row.calls ≡ false) known number till header request (record {
      none = refl;
      begins = λ terminal last asking at. refl;
      sent = λ terminal talk at may. refl;
      wished = λ terminal talk at may. refl;
      session = λ success. refl;
      settles = λ terminal at. reply-no-cut (Some till) (reply_to_settled known.kept (settled_of hows.Sale header terminal.pt.currency known.moment));
      day = λ terminal last at. refl;
      displays = λ terminal last outputs command at. refl;
    })

next-no-cut : (known : Known) (number : ℕ) → owes_cut (next_waiting_row known number).calls ≡ false
next-no-cut known number =
    each-next (λ (row : Row). owes_cut row.calls ≡ false) known number (record {
      none = refl;
      refused = λ terminal last wait condition first is. refl;
      begins = λ terminal last wait asking at. refl;
      day = λ terminal last wait at. refl;
      left = λ terminal last wait first. refl;
    })

pub cuts-have-cause : EachCutHasCause
cuts-have-cause known (Crowded till) cuts = absurd cc
cuts-have-cause known (Message till bytes) cuts = absurd cc
cuts-have-cause known (Asked till as_read) cuts = absurd cc
cuts-have-cause known (Unframed till) cuts = absurd cc
cuts-have-cause known (Gone till) cuts = absurd cc
cuts-have-cause known (Greet number apdu) cuts = greet-cuts known number apdu cuts
cuts-have-cause known (Handle number apdu) cuts = handle-cuts known number apdu cuts
cuts-have-cause known (Serve number till header request) cuts = never _ (serve-no-cut known number till header request) cuts
cuts-have-cause known (Queue number till header request) cuts = absurd cc
cuts-have-cause known (NextWaiting number) cuts = never _ (next-no-cut known number) cuts
cuts-have-cause known (Oversized number) cuts = tt
cuts-have-cause known (LinkLost number) cuts = never _ (lost-no-cut known number) cuts
cuts-have-cause known (Late number) cuts = late-cuts known number cuts
cuts-have-cause known (Overdue key) cuts = absurd cc
cuts-have-cause known (Due number) cuts = never _ (due-no-cut known number) cuts

-- ---- what is cut

pub causes-cut : EachCauseCuts
causes-cut known (Crowded till) number is there cause = absurd cause
causes-cut known (Message till bytes) number is there cause = absurd cause
causes-cut known (Asked till as_read) number is there cause = absurd cause
causes-cut known (Unframed till) number is there cause = absurd cause
causes-cut known (Gone till) number is there cause = absurd cause
causes-cut known (Greet pt apdu) number is there cause =
    let e : pt ≡ number = cc in
    subst (λ n. (greet_row known n apdu).calls ≡ CutPt number ∷ []) (sym e)
    (ap (λ (decoded : Result MessageValue PtFault). (greet_decoded known number decoded).calls) cause.1 ∙ ap (λ (row : Row). row.calls) (linked-row known number (λ terminal. cutting known number) there.terminal there.found there.linked))
causes-cut known (Handle pt apdu) number is there cause =
    let e : pt ≡ number = cc in
    subst (λ n. (handle_row known n apdu).calls ≡ CutPt number ∷ []) (sym e) (breaks-cut known number apdu there (subst (λ n. BreaksDialogue known n apdu) e cause))
causes-cut known (Serve pt till header request) number is there cause = absurd cause
causes-cut known (Queue pt till header request) number is there cause = absurd cause
causes-cut known (NextWaiting pt) number is there cause = absurd cause
causes-cut known (Oversized pt) number is there cause =
    let e : pt ≡ number = cc in
    subst (λ n. (oversized_row known n).calls ≡ CutPt number ∷ []) (sym e) (ap (λ (row : Row). row.calls) (linked-row known number (λ terminal. cutting known number) there.terminal there.found there.linked))
causes-cut known (LinkLost pt) number is there cause = absurd cause
causes-cut known (Late pt) number is there cause =
    let e : pt ≡ number = cc in
    subst (λ n. (late_row known n).calls ≡ CutPt number ∷ []) (sym e) (late-cut known number (subst (IsLateAt known) e cause))
causes-cut known (Overdue key) number is there cause = absurd cause
causes-cut known (Due pt) number is there cause = absurd cause

-- ---- greetings

greeted-is : (known : Known) (number : ℕ) (apdu : ApduValue) (terminal : Terminal) (message : MessageValue) → terminal_at known number ≡ Some terminal → is_linked terminal.standing ≡ true
    → decode_pt_message apdu ≡ Ok message → (greet_row known number apdu).calls ≡ sending_calls number (greeting message)
greeted-is known number apdu terminal message found linked is =
    ap (λ (decoded : Result MessageValue PtFault). (greet_decoded known number decoded).calls) is
    ∙ ap (λ (row : Row). row.calls) (linked-row known number (λ terminal. owing known (sending_calls number (greeting message))) terminal found linked)

-- what a message is greeted with
pub record GetsGreeting (message : MessageValue) : Type 0 where
  pub none : IsAckOrNack message → greeting message ≡ None
  pub foreign : message ≡ Other → greeting message ≡ Some Refuse
  pub other : (IsAckOrNack message → ⊥) → message ≢ Other → greeting message ≡ Some Acknowledge

no-ack : (message : MessageValue) → greeting message ≡ Some Acknowledge → IsAckOrNack message → ⊥
no-ack message acknowledged (inl is) = let e : greeting Ack ≡ Some Acknowledge = subst (λ m. greeting m ≡ Some Acknowledge) is acknowledged in cc
no-ack message acknowledged (inr (error_code, is)) = let e : greeting (Nack error_code) ≡ Some Acknowledge = subst (λ m. greeting m ≡ Some Acknowledge) is acknowledged in cc

no-other : (message : MessageValue) → greeting message ≡ Some Acknowledge → message ≡ Other → ⊥
no-other message acknowledged is = let e : greeting Other ≡ Some Acknowledge = subst (λ m. greeting m ≡ Some Acknowledge) is acknowledged in cc

acknowledges : (message : MessageValue) → greeting message ≡ Some Acknowledge → GetsGreeting message
acknowledges message acknowledged = record {
  none = λ is. absurd (no-ack message acknowledged is);
  foreign = λ is. absurd (no-other message acknowledged is);
  other = λ not_ack not_other. acknowledged;
}

refused-ack : IsAckOrNack Other → ⊥
refused-ack (inl is) = cc
refused-ack (inr (error_code, is)) = cc

gets-greeting : (message : MessageValue) → GetsGreeting message
gets-greeting Ack = record { none = λ is. refl; foreign = λ is. absurd cc; other = λ not_ack not_other. absurd (not_ack (inl refl)) }
gets-greeting (Nack error_code) = record { none = λ is. refl; foreign = λ is. absurd cc; other = λ not_ack not_other. absurd (not_ack (inr (error_code, refl))) }
gets-greeting (Intermediate intermediate_status) = acknowledges (Intermediate intermediate_status) refl
gets-greeting (Line text) = acknowledges (Line text) refl
gets-greeting (Block objects) = acknowledges (Block objects) refl
gets-greeting (Status fields) = acknowledges (Status fields) refl
gets-greeting Completion = acknowledges Completion refl
gets-greeting (Abort result_code) = acknowledges (Abort result_code) refl
gets-greeting Other = record { none = λ is. absurd (refused-ack is); foreign = λ is. refl; other = λ not_ack not_other. absurd (not_other refl) }

pub each-is-greeted : EachMessageIsGreeted
each-is-greeted known number apdu terminal message found linked is =
    let calls = greeted-is known number apdu terminal message found linked is in
    let gets = gets-greeting message in
    record {
      none = λ ack. calls ∙ ap (sending_calls number) (gets.none ack);
      foreign = λ foreign. calls ∙ ap (sending_calls number) (gets.foreign foreign);
      other = λ not_ack not_other. calls ∙ ap (sending_calls number) (gets.other not_ack not_other);
    }

-- ---- nothing is left out

pub due-is-linked : DueIsLinked
due-is-linked known number terminal found due = rw (found, due) refl

pub linked-is-registered : LinkedIsRegistered
linked-is-registered known number terminal found =
    subst (λ (o : Option Terminal). GoesOnTo number Registering (SendPt number (Ask (registration terminal.pt)) ∷ []) (of_terminal known (registers known number) o)) (sym found) (record {
      terminal = _;
      found = new-is-there known.core.terminals number terminal _ found;
      standing_is = refl;
      calls_are = refl;
    })
