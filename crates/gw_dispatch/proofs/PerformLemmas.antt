-- What is wanted of a terminal, beside what the core remembers then.
use Rattle.std.proofs.Common.{◌≡◌, ◌⊎◌, inl, inr, ◌<◌, ◌≤◌, ℕ, List, [], ◌∷◌, length, refl, sym, ◌∙◌, ap, subst, arith, Bool, true, false}
use Rattle.std.specs.Prelude.{ℤ, slice_get, Option, Some, None, Result, Ok, Err, IfSome, is_ok}
use Rattle.gw_base.specs.Moment.{moment_of}
use Rattle.gw_base.specs.declared.setup.Setup.{Setup}
use Rattle.gw_site.specs.Observed.{Observed, Grows, IsStep}
use Rattle.gw_site.specs.Steps.{CutPtCall, SendPtCall, LinkCall}
use Rattle.gw_site.specs.Turns.{SentPtTurns, LinkTurns, IsTurn}
use Rattle.gw_site.specs.declared.site.Failed.{Failed}
use Rattle.gw_site.specs.declared.turn.Turn.TheVariants.{CutPt as PtCut}
use Rattle.jrn_record.specs.declared.records.Record.{Record}
use Rattle.zvt_apdu.specs.Grammar.{ApduValue}
use Rattle.zvt_msg.specs.declared.command.Command.{Command}
use Rattle.zvt_msg.specs.declared.fault.PtFault.{PtFault}
use Rattle.zvt_msg.specs.Message.{MessageValue}
use Rattle.zvt_msg.specs.MessageDecode.{decode_pt_message}
use Rattle.gw_owes.specs.Calls.{OwedCall, Sending, SendTill, SendPt, CutTill, CutPt, LinkPt, WriteBody, WriteGate, WriteFirstGate, Sync, Ask, Acknowledge, Refuse, sending_bytes}
use Rattle.gw_owes.specs.Core.{Core}
use Rattle.gw_owes.specs.Days.{days_served}
use Rattle.gw_owes.specs.Deadlines.{is_due, due_row, late_row}
use Rattle.gw_owes.specs.Dialogues.{AllHaveDialogues, OthersHaveDialogues}
use Rattle.gw_owes.specs.Greeting.{greet_decoded, greeted_row, outside_row}
use Rattle.gw_owes.specs.Handling.{handle_decoded}
use Rattle.gw_owes.specs.Items.{RoundItem, Greet, Handle, NextWaiting, Late, Due}
use Rattle.gw_owes.specs.Links.{is_linked, cutting, LinkEvent, LinkIsMade, LinkHasFailed, LinkIsLost, link_row}
use Rattle.gw_owes.specs.Reply.{PrintRequest, ReplyValue, reply_value_tree}
use Rattle.sale_values.specs.declared.header.Header.{Header}
use Rattle.gw_core.specs.declared.act.Printed.{Printed}
use Rattle.gw_owes.specs.Rows.{row_of}
use Rattle.sale_reply.specs.Reply.{tree_of}
use Rattle.sale_reply.specs.declared.reply.SaleReply.{SaleReply}
use Rattle.gw_rules.specs.Lawful.{may_begin}
use Rattle.gw_rules.specs.Scene.{Scene}
use Rattle.gw_site.specs.Outside.{Connection}
use Rattle.gw_owes.specs.RecordLaws.{AreOthersInOrder, AreTerminalsInOrder}
use Rattle.gw_owes.specs.Row.{Known, Row, becoming, owing, owing_nothing, owing_where}
use Rattle.gw_owes.specs.Steps.{is_ready_standing}
use Rattle.gw_owes.specs.Terminals.{of_terminal, terminal_at, registers, reply_calls_to, reply_to_lost, unlinks, link_lost}
use Rattle.gw_owes.specs.TerminalLaws.{ChangesTerminalAlone, owes_cut}
use Rattle.gw_owes.specs.WaitingLaws.{AreWaitsInOrder}
use Rattle.gw_owes.specs.WaitingRows.{looks_at_first, next_waiting_row, of_waiting}
use Rattle.gw_owes.specs.Waits.{first_waiting, queue_of}
use Rattle.gw_owes.specs.declared.terminal.Standing.{Standing}
use Rattle.gw_owes.specs.declared.terminal.Standing.TheVariants.{Unlinked, Registering, Enquiring, Ready, Serving, Aside}
use Rattle.gw_owes.specs.declared.terminal.Terminal.{Terminal}
use Rattle.gw_owes.proofs.DialogueLemmas.{links-give}
use Rattle.gw_owes.proofs.HandlingLemmas.{each-terminal}
use Rattle.gw_owes.proofs.OrderLemmas.{links-in-order}
use Rattle.gw_owes.proofs.TerminalLemmas.{link-changes-alone}
use Rattle.gw_owes.proofs.WaitingFrameLemmas.{links-keep-waits, moments-keep-waits}
use Rattle.gw_rules.specs.Triple.{Triple}
use Rattle.gw_rules.proofs.TripleLemmas.{triple-refl, triple-then}
use Rattle.gw_core.specs.declared.act.Act.{Act}
use Rattle.gw_core.specs.declared.act.Act.TheVariants as act
use Rattle.gw_core.specs.IsRow.{AreCallsThen, AreCallsWith, IsAbout, IsActs, IsRow, IsWantedAt, IsWritable, alone, known_with, lines_printed, link_event_of}
use Rattle.gw_dispatch.specs.RunState.{OthersStayInOrder, StaysInOrder}
use Rattle.gw_dispatch.specs.MidRound.{AreHeard, MidRound, is_linked_in}
use Rattle.gw_dispatch.specs.Round.{known_at}
use Rattle.gw_dispatch.specs.Wanted.{IsOutside, act_calls, calls_wanted, is_none_or_reply, is_reply, owes_link}
use Rattle.gw_dispatch.specs.declared.tills.Till.{Till}
use Rattle.gw_dispatch.proofs.HeardLemmas.{heard-stays, heard-linked}
use Rattle.gw_dispatch.proofs.StepLemmas.{BeginsMidRound, begin-held, cut-held, sent-held, unsent-held, made-held, failed-held}
use Rattle.gw_dispatch.proofs.LinkLemmas.{KeepsLinks}
use Rattle.gw_dispatch.proofs.RunStateLemmas.{waits-then}

-- ---- what is wanted, and what is owed

-- the row that the core went by
pub row-becomes : (kept : List Record) (row : Row) (core : Core) (wanted : Option Act) → IsRow kept row core (alone wanted) → row ≡ becoming core row.calls
row-becomes kept row core wanted is =
    ap (λ items. record { core = row.core; calls = row.calls; items = items }) is.items_are
    ∙ ap (λ (c : Core). record { core = c; calls = row.calls; items = [] }) (sym is.core_is)

-- what isn't sent to a till is its call
pub plain-calls : (one : Act) (calls : List OwedCall) → is_reply one ≡ false → AreCallsThen [] one calls → calls ≡ act_calls one
plain-calls (act.SendPt number command) calls quiet is = is
plain-calls (act.Ack number) calls quiet is = is
plain-calls (act.Refuse number) calls quiet is = is
plain-calls (act.CutPt number) calls quiet is = is
plain-calls (act.Link number) calls quiet is = is
plain-calls (act.SendTill till given) calls quiet is = absurd (let h : true ≡ false = quiet in cc)
plain-calls (act.Print till header printed) calls quiet is = absurd (let h : true ≡ false = quiet in cc)

pub rest-link : (wanted : Option Act) (rest : List OwedCall) → AreCallsWith [] wanted rest → owes_link rest ≡ owes_link (calls_wanted wanted)
rest-link None rest is = ap owes_link is
rest-link (Some (act.SendPt pt command)) rest is = ap owes_link is
rest-link (Some (act.Ack pt)) rest is = ap owes_link is
rest-link (Some (act.Refuse pt)) rest is = ap owes_link is
rest-link (Some (act.CutPt pt)) rest is = ap owes_link is
rest-link (Some (act.Link pt)) rest is = ap owes_link is
rest-link (Some (act.SendTill till given)) rest is = ap owes_link is.2
rest-link (Some (act.Print till header printed)) rest is = ap owes_link is

-- each of these calls sends a till something
abbrev pub replies_only : List OwedCall → Bool
replies_only [] = true
replies_only (SendTill till reply ∷ calls) = replies_only calls
replies_only (SendPt number sending ∷ calls) = false
replies_only (CutTill till ∷ calls) = false
replies_only (CutPt number ∷ calls) = false
replies_only (LinkPt number ∷ calls) = false
replies_only (WriteBody slot the_record ∷ calls) = false
replies_only (WriteGate slot the_record ∷ calls) = false
replies_only (WriteFirstGate ∷ calls) = false
replies_only (Sync ∷ calls) = false

pub wanted-reply : (wanted : Option Act) (calls : List OwedCall) → replies_only calls ≡ true → AreCallsWith [] wanted calls → is_none_or_reply wanted ≡ true
wanted-reply None calls only is = refl
wanted-reply (Some (act.SendPt number command)) calls only is = absurd (let h : false ≡ true = sym (ap replies_only is) ∙ only in cc)
wanted-reply (Some (act.Ack number)) calls only is = absurd (let h : false ≡ true = sym (ap replies_only is) ∙ only in cc)
wanted-reply (Some (act.Refuse number)) calls only is = absurd (let h : false ≡ true = sym (ap replies_only is) ∙ only in cc)
wanted-reply (Some (act.CutPt number)) calls only is = absurd (let h : false ≡ true = sym (ap replies_only is) ∙ only in cc)
wanted-reply (Some (act.Link number)) calls only is = absurd (let h : false ≡ true = sym (ap replies_only is) ∙ only in cc)
wanted-reply (Some (act.SendTill till given)) calls only is = refl
wanted-reply (Some (act.Print till header printed)) calls only is = refl

-- ---- dialogues

pub others-have : (core : Core) (pt : ℕ) → AllHaveDialogues core → OthersHaveDialogues pt core
others-have core pt has = λ number terminal apart found. has number terminal found

pub others-after : (old new : Core) (pt : ℕ) → AllHaveDialogues old → ChangesTerminalAlone pt old new → OthersHaveDialogues pt new
others-after old new pt has alone = λ number terminal apart found. has number terminal (sym (alone.others number apart) ∙ found)

-- ---- links

-- a setup, for what no setup changes
no_setup : Setup
no_setup = record { name = []; listen = []; journal = []; line = 0; wait = 0; slots = 0; terminals = [] }

-- what the core has remembered by a row for each setup and whatever is kept
abbrev pub IsRowOf : Core → ℕ → (Known → Row) → Core → Option Act → Type 0
IsRowOf old moment row new wanted = (setup : Setup) (kept : List Record) → IsRow kept (row (known_with setup kept old moment)) new (alone wanted)

-- what holds of the row's core, whatever the setup, holds of the core
pub of-row : (P : Core → Type 0) (old new : Core) (moment : ℕ) (row : Known → Row) (wanted : Option Act) → IsRowOf old moment row new wanted → ((known : Known) → known.core ≡ old → P (row known).core) → P new
of-row P old new moment row wanted is holds = let r = is no_setup [] in subst P (sym r.core_is) (holds (known_with no_setup [] old moment) refl)

pub link-has : (old new : Core) (moment pt : ℕ) (event : LinkEvent) (wanted : Option Act) → OthersHaveDialogues pt old → IsRowOf old moment (λ known. link_row known pt event) new wanted → AllHaveDialogues new
link-has old new moment pt event wanted others is = of-row AllHaveDialogues old new moment (λ known. link_row known pt event) wanted is (λ known same. links-give known pt event (subst (OthersHaveDialogues pt) (sym same) others))

pub link-alone : (old new : Core) (moment pt : ℕ) (event : LinkEvent) (wanted : Option Act) → IsRowOf old moment (λ known. link_row known pt event) new wanted → ChangesTerminalAlone pt old new
link-alone old new moment pt event wanted is = of-row (ChangesTerminalAlone pt old) old new moment (λ known. link_row known pt event) wanted is (λ known same. subst (λ c. ChangesTerminalAlone pt c (link_row known pt event).core) same (link-changes-alone known pt event))

-- the terminal of a link stays in order whatever it had before
pub link-orders : (old new : Core) (moment pt : ℕ) (event : LinkEvent) (wanted : Option Act) → IsRowOf old moment (λ known. link_row known pt event) new wanted → OthersStayInOrder pt old new
link-orders old new moment pt event wanted is =
    let all = λ (kept : List Record). links-in-order (known_with no_setup kept old moment) pt event in
    let r = is no_setup [] in
    record {
      settings = (link-alone old new moment pt event wanted is).settings;
      days = subst (λ (c : Core). days_served c.terminals ≤ days_served old.terminals) (sym r.core_is) (all []).days;
      waits = record {
        few = let same : length new.waits ≡ length old.waits = ap (λ (c : Core). length c.waits) r.core_is ∙ ap length (all []).waits in omega (arith, same);
        order = λ setup kept moment_then order. let r = is setup kept in
            moments-keep-waits (known_with setup kept new moment) moment_then
            (subst (λ (c : Core). AreWaitsInOrder (known_with setup kept c moment)) (sym r.core_is) (links-keep-waits (known_with setup kept old moment) pt event (moments-keep-waits (known_with setup kept old moment_then) moment order)));
      };
      device_requests = ap (λ (c : Core). c.device_requests) r.core_is ∙ (all []).device_requests;
      order = λ kept others. let by = is no_setup kept in subst (AreTerminalsInOrder kept) (sym by.core_is) ((all kept).terminals others);
    }

-- what is remembered stays in order by one change and another
pub others-then : (pt : ℕ) (old mid new : Core) → OthersStayInOrder pt old mid → StaysInOrder mid new → OthersStayInOrder pt old new
others-then pt old mid new one other = record {
  settings = other.settings ∙ one.settings;
  days = omega (arith, one.days, other.days);
  waits = waits-then old mid new one.waits other.waits;
  device_requests = other.device_requests ∙ one.device_requests;
  order = λ kept others. other.order kept (one.order kept others);
}

pub others-in-order : (kept : List Record) (core : Core) (pt : ℕ) → AreTerminalsInOrder kept core → AreOthersInOrder pt kept core
others-in-order kept core pt all = λ number terminal apart found. all number terminal found

pub all-in-order : (old new : Core) (pt : ℕ) → OthersStayInOrder pt old new → StaysInOrder old new
all-in-order old new pt stays = record { settings = stays.settings; days = stays.days; waits = stays.waits; device_requests = stays.device_requests; order = λ kept all. stays.order kept (others-in-order kept old pt all) }

lost-reply-only : (asker : Option ℕ) (reply : Option ReplyValue) → replies_only (reply_calls_to asker reply) ≡ true
lost-reply-only None reply = refl
lost-reply-only (Some till) None = refl
lost-reply-only (Some till) (Some reply) = refl

-- the loss of a link owes at most a reply to a till
pub lost-reply : (old new : Core) (moment pt : ℕ) (wanted : Option Act) → IsRowOf old moment (λ known. link_row known pt LinkIsLost) new wanted → is_none_or_reply wanted ≡ true
lost-reply old new moment pt wanted is =
    let r = is no_setup [] in
    wanted-reply wanted (link_row (known_with no_setup [] old moment) pt LinkIsLost).calls
    (each-terminal (λ (row : Row). replies_only row.calls ≡ true) (known_with no_setup [] old moment) pt (unlinks (known_with no_setup [] old moment) pt) refl (λ terminal found. lost-reply-only terminal.asker (reply_to_lost terminal.standing))) r.calls_are

reply-no-link : (asker : Option ℕ) (reply : Option ReplyValue) → owes_link (reply_calls_to asker reply) ≡ false
reply-no-link None reply = refl
reply-no-link (Some till) None = refl
reply-no-link (Some till) (Some reply) = refl

lost-no-link : (known : Known) (pt : ℕ) → owes_link (link_lost known pt).calls ≡ false
lost-no-link known pt = each-terminal (λ (row : Row). owes_link row.calls ≡ false) known pt (unlinks known pt) refl (λ terminal found. reply-no-link terminal.asker (reply_to_lost terminal.standing))

link-none : (known : Known) (pt : ℕ) (event : LinkEvent) → owes_link (link_row known pt event).calls ≡ false
link-none known pt LinkIsMade = each-terminal (λ (row : Row). owes_link row.calls ≡ false) known pt (registers known pt) refl (λ terminal found. refl)
link-none known pt LinkHasFailed = lost-no-link known pt
link-none known pt LinkIsLost = lost-no-link known pt

-- what a link leaves links none
pub link-no-link : (old new : Core) (moment pt : ℕ) (event : LinkEvent) (wanted : Option Act) → IsRowOf old moment (λ known. link_row known pt event) new wanted → owes_link (calls_wanted wanted) ≡ false
link-no-link old new moment pt event wanted is =
    let r = is no_setup [] in
    sym (rest-link wanted (link_row (known_with no_setup [] old moment) pt event).calls r.calls_are) ∙ link-none (known_with no_setup [] old moment) pt event

-- nor does a row that keeps links
pub keeps-no-link : (old new : Core) (moment : ℕ) (row : Known → Row) (wanted : Option Act) → ((known : Known) → KeepsLinks known.core (row known)) → IsRowOf old moment row new wanted → owes_link (calls_wanted wanted) ≡ false
keeps-no-link old new moment row wanted each is =
    let k = each (known_with no_setup [] old moment) in
    let r = is no_setup [] in
    sym (rest-link wanted (row (known_with no_setup [] old moment)).calls r.calls_are) ∙ k.none

-- ---- what is found of a terminal

outside-found : (known : Known) (pt : ℕ) (found : Option Terminal) → of_terminal known (λ terminal. owing_where (is_linked terminal.standing) known (cutting known pt)) found ≡ owing_where (is_linked_in found) known (cutting known pt)
outside-found known pt None = refl
outside-found known pt (Some terminal) = refl

outside-where : (known : Known) (pt : ℕ) → outside_row known pt ≡ owing_where (is_linked_in (slice_get known.core.terminals pt)) known (cutting known pt)
outside-where known pt = outside-found known pt (slice_get known.core.terminals pt)

-- the calls of bytes that are no message, by whether the terminal is linked
abbrev pub outside_calls : ℕ → Bool → List OwedCall
outside_calls pt true = CutPt pt ∷ []
outside_calls pt false = []

outside-is : (known : Known) (pt : ℕ) (linked : Bool) → is_linked_in (slice_get known.core.terminals pt) ≡ linked → outside_row known pt ≡ becoming known.core (outside_calls pt linked)
outside-is known pt true linked = outside-where known pt ∙ ap (λ b. owing_where b known (cutting known pt)) linked
outside-is known pt false linked = outside-where known pt ∙ ap (λ b. owing_where b known (cutting known pt)) linked

pub some-calls : (slot : ℕ) (one : Act) → IsActs slot (alone (Some one)) [] → ⊥
some-calls slot (act.SendPt number command) same = absurd cc
some-calls slot (act.Ack number) same = absurd cc
some-calls slot (act.Refuse number) same = absurd cc
some-calls slot (act.CutPt number) same = absurd cc
some-calls slot (act.Link number) same = absurd cc
some-calls slot (act.SendTill till given) same = absurd (let h : [] ≡ SendTill till same.0 ∷ [] = same.2 in cc)
some-calls slot (act.Print till header printed) same = absurd cc

due-found : (known : Known) (pt : ℕ) (found : Option Terminal) (slot : ℕ) (one : Act) → IsActs slot (alone (Some one)) (of_terminal known (λ terminal. owing_where (is_due known.moment terminal.standing) known (owing known (LinkPt pt ∷ []))) found).calls
    → (of_terminal known (λ terminal. owing_where (is_due known.moment terminal.standing) known (owing known (LinkPt pt ∷ []))) found ≡ owing known (LinkPt pt ∷ [])) × (is_linked_in found ≡ false)
due-found known pt None slot one calls = absurd (some-calls slot one calls)
due-found known pt (Some terminal) slot one calls = by_due (is_due known.moment terminal.standing) refl calls
  where
    unlinked-due : (standing : Standing) → is_due known.moment standing ≡ true → is_linked standing ≡ false
    unlinked-due (Unlinked due) is = refl
    unlinked-due Registering is = absurd cc
    unlinked-due Enquiring is = absurd cc
    unlinked-due (Ready last) is = absurd cc
    unlinked-due (Serving service last) is = absurd cc
    unlinked-due (Aside before reported) is = absurd cc

    by_due : (due : Bool) → is_due known.moment terminal.standing ≡ due → IsActs slot (alone (Some one)) (owing_where due known (owing known (LinkPt pt ∷ []))).calls
        → (owing_where due known (owing known (LinkPt pt ∷ [])) ≡ owing known (LinkPt pt ∷ [])) × (is_linked terminal.standing ≡ false)
    by_due true is same = (refl, unlinked-due terminal.standing is)
    by_due false is same = absurd (some-calls slot one same)

-- a terminal that is due to be linked
pub record IsLinkedNow (old : Core) (moment pt : ℕ) : Type 0 where
  pub row : (setup : Setup) (kept : List Record) → due_row (known_with setup kept old moment) pt ≡ becoming old (LinkPt pt ∷ [])
  pub unlinked : is_linked_in (slice_get old.terminals pt) ≡ false

pub due-now : (old : Core) (moment pt : ℕ) (wanted : Option Act) (one : Act) → wanted ≡ Some one → IsRowOf old moment (λ known. due_row known pt) old wanted → IsLinkedNow old moment pt
due-now old moment pt wanted one some is =
    let each : (setup : Setup) (kept : List Record) → (due_row (known_with setup kept old moment) pt ≡ becoming old (LinkPt pt ∷ [])) × (is_linked_in (slice_get old.terminals pt) ≡ false) =
    λ setup kept.
    let r = is setup kept in
    due-found (known_with setup kept old moment) pt (slice_get old.terminals pt) (length kept) one (subst (λ w. IsActs (length kept) (alone w) (due_row (known_with setup kept old moment) pt).calls) some r.calls_are) in
    record { row = λ setup kept. (each setup kept).0; unlinked = (each no_setup []).1 }

-- ---- calls

-- from these calls, owed of what is held, to none
abbrev pub Performs : Observed → Observed → Core → Core → List Till → List Till → ℤ → List OwedCall → Type 0
Performs a b old new tills left now calls = (setup : Setup) (kept : List Record) (polls : ℕ) (heard : ℕ → List ℕ) (items : List RoundItem) →
    Triple a b (MidRound setup old kept tills polls now (AreHeard heard) calls items) (MidRound setup new kept left polls now (AreHeard heard) [] items)

-- what makes the call that is wanted
abbrev pub MakesCall : Observed → Observed → Core → Core → List Till → List Till → ℤ → Option Act → Type 0
MakesCall a b old new tills left now wanted = (calls : List OwedCall) → AreCallsWith [] wanted calls → Performs a b old new tills left now calls

pub by-calls : (a b : Observed) (old new : Core) (tills left : List Till) (now : ℤ) (one other : List OwedCall) → one ≡ other → Performs a b old new tills left now other → Performs a b old new tills left now one
by-calls a b old new tills left now one other same performs = subst (Performs a b old new tills left now) (sym same) performs

-- no call is made
pub none-performed : (s : Observed) (core : Core) (tills : List Till) (now : ℤ) → Performs s s core core tills tills now []
none-performed s core tills now = λ setup kept polls heard items. triple-refl s _

-- nothing is wanted
pub at-none : (s : Observed) (core : Core) (tills : List Till) (now : ℤ) (wanted : Option Act) → wanted ≡ None → MakesCall s s core core tills tills now wanted
at-none s core tills now wanted none = λ calls is. by-calls s s core core tills tills now calls [] (subst (λ w. AreCallsWith [] w calls) none is) (none-performed s core tills now)

-- a till is sent a reply
pub at-reply : (a b : Observed) (old new : Core) (tills left : List Till) (now : ℤ) (wanted : Option Act) (till : ℕ) (given : SaleReply) → wanted ≡ Some (act.SendTill till given) →
    ((owed : ReplyValue) → tree_of given ≡ reply_value_tree owed → Performs a b old new tills left now (SendTill till owed ∷ [])) → MakesCall a b old new tills left now wanted
at-reply a b old new tills left now wanted till given is delivers = λ calls are.
    let one : AreCallsWith [] (Some (act.SendTill till given)) calls = subst (λ w. AreCallsWith [] w calls) is are in
    by-calls a b old new tills left now calls (SendTill till one.0 ∷ []) one.2 (delivers one.0 one.1.0)

-- lines are printed at a till
pub at-print : (a b : Observed) (old new : Core) (tills left : List Till) (now : ℤ) (wanted : Option Act) (till : ℕ) (header : Header) (printed : Printed) → wanted ≡ Some (act.Print till header printed) → Performs a b old new tills left now (SendTill till (PrintRequest header (lines_printed printed)) ∷ []) → MakesCall a b old new tills left now wanted
at-print a b old new tills left now wanted till header printed is prints = λ calls are.
    by-calls a b old new tills left now calls (SendTill till (PrintRequest header (lines_printed printed)) ∷ []) (subst (λ w. AreCallsWith [] w calls) is are) prints

-- what sends a till something cuts no terminal
pub send-uncut : (wanted : Option Act) (one : Act) → wanted ≡ Some one → ((till : ℕ) × (given : SaleReply) × (one ≡ act.SendTill till given)) ⊎ ((till : ℕ) × (header : Header) × (printed : Printed) × (one ≡ act.Print till header printed)) → owes_cut (calls_wanted wanted) ≡ false
send-uncut wanted one is (inl (till, given, e)) = ap (λ w. owes_cut (calls_wanted w)) (is ∙ ap Some e)
send-uncut wanted one is (inr (till, header, printed, e)) = ap (λ w. owes_cut (calls_wanted w)) (is ∙ ap Some e)

-- a terminal's call is made
pub at-plain : (a b : Observed) (old new : Core) (tills left : List Till) (now : ℤ) (wanted : Option Act) (one : Act) → wanted ≡ Some one → is_reply one ≡ false → Performs a b old new tills left now (calls_wanted wanted) → MakesCall a b old new tills left now wanted
at-plain a b old new tills left now wanted one is quiet performs = λ calls are.
    by-calls a b old new tills left now calls (calls_wanted wanted) (plain-calls one calls quiet (subst (λ w. AreCallsWith [] w calls) is are) ∙ ap calls_wanted (sym is)) performs

pub wanted-writable : (pt : ℕ) (wanted : Option Act) → IfSome wanted (IsWantedAt pt) → IfSome wanted IsWritable
wanted-writable pt None at = tt
wanted-writable pt (Some one) at = at.writable

at-wanted : (pt : ℕ) (wanted : Option Act) (one : Act) → wanted ≡ Some one → IfSome wanted (IsWantedAt pt) → IsAbout pt one
at-wanted pt wanted one is at = let w : IsWantedAt pt one = subst (λ w. IfSome w (IsWantedAt pt)) is at in w.about

pub asks-calls : (pt number : ℕ) (wanted : Option Act) (one : Act) (command : Command) → wanted ≡ Some one → one ≡ act.SendPt number command → IfSome wanted (IsWantedAt pt) → calls_wanted wanted ≡ SendPt pt (Ask command) ∷ []
asks-calls pt number wanted one command is one_is at =
    let w : wanted ≡ Some (act.SendPt number command) = is ∙ ap Some one_is in
    ap calls_wanted w ∙ ap (λ n. SendPt n (Ask command) ∷ []) (at-wanted pt wanted (act.SendPt number command) w at)

pub acknowledges-calls : (pt number : ℕ) (wanted : Option Act) (one : Act) → wanted ≡ Some one → one ≡ act.Ack number → IfSome wanted (IsWantedAt pt) → calls_wanted wanted ≡ SendPt pt Acknowledge ∷ []
acknowledges-calls pt number wanted one is one_is at =
    let w : wanted ≡ Some (act.Ack number) = is ∙ ap Some one_is in
    ap calls_wanted w ∙ ap (λ n. SendPt n Acknowledge ∷ []) (at-wanted pt wanted (act.Ack number) w at)

pub refuses-calls : (pt number : ℕ) (wanted : Option Act) (one : Act) → wanted ≡ Some one → one ≡ act.Refuse number → IfSome wanted (IsWantedAt pt) → calls_wanted wanted ≡ SendPt pt Refuse ∷ []
refuses-calls pt number wanted one is one_is at =
    let w : wanted ≡ Some (act.Refuse number) = is ∙ ap Some one_is in
    ap calls_wanted w ∙ ap (λ n. SendPt n Refuse ∷ []) (at-wanted pt wanted (act.Refuse number) w at)

pub cuts-calls : (pt number : ℕ) (wanted : Option Act) (one : Act) → wanted ≡ Some one → one ≡ act.CutPt number → IfSome wanted (IsWantedAt pt) → calls_wanted wanted ≡ CutPt pt ∷ []
cuts-calls pt number wanted one is one_is at =
    let w : wanted ≡ Some (act.CutPt number) = is ∙ ap Some one_is in
    ap calls_wanted w ∙ ap (λ n. CutPt n ∷ []) (at-wanted pt wanted (act.CutPt number) w at)

-- the cut of a terminal, and the reply that is owed then
pub cut-performs : (a b c : Observed) (old mid new : Core) (tills left : List Till) (now : ℤ) (pt : ℕ) (wanted : Option Act) → IsRowOf old (moment_of now) (λ known. link_row known pt LinkIsLost) mid wanted →
    Grows a b (IsTurn (PtCut pt)) → IsStep a b (CutPtCall pt) → MakesCall b c mid new tills left now wanted → Performs a c old new tills left now (CutPt pt ∷ [])
cut-performs a b c old mid new tills left now pt wanted is grows step makes = λ setup kept polls heard items.
    let row : Row = link_row (known_with setup kept old (moment_of now)) pt LinkIsLost in
    let r = is setup kept in
    triple-then a b c _ _ _
    (cut-held setup kept tills polls now (AreHeard heard) a b old mid pt row.calls items (heard-stays pt heard) grows step (row-becomes kept row mid wanted r))
    (makes row.calls r.calls_are setup kept polls heard items)

-- a send that went
pub sent-performs : (a b : Observed) (old : Core) (tills : List Till) (now : ℤ) (pt : ℕ) (bytes : List ℕ) (sending : Sending) (r : Result (Unit {0}) Failed) (sent : Bool) → sent ≡ is_ok r → sent ≡ true → bytes ≡ sending_bytes sending → Grows a b (SentPtTurns pt bytes r) → IsStep a b (SendPtCall pt bytes) →
    Performs a b old old tills tills now (SendPt pt sending ∷ [])
sent-performs a b old tills now pt bytes sending (Ok done) sent value went is grows step = λ setup kept polls heard items.
    sent-held setup kept tills polls now (AreHeard heard) a b old pt sending done items (heard-stays pt heard) (subst (λ bytes. Grows a b (SentPtTurns {E = Failed} pt bytes (Ok done))) is grows) (subst (λ bytes. IsStep a b (SendPtCall pt bytes)) is step)
sent-performs a b old tills now pt bytes sending (Err failed) sent value went is grows step = absurd (let h : false ≡ true = sym value ∙ went in cc)

-- a send that has failed, and the cut after it
pub unsent-performs : (a b c : Observed) (old new : Core) (tills left : List Till) (now : ℤ) (pt : ℕ) (bytes : List ℕ) (sending : Sending) (r : Result (Unit {0}) Failed) (sent : Bool) → sent ≡ is_ok r → sent ≡ false → bytes ≡ sending_bytes sending → Grows a b (SentPtTurns pt bytes r) → IsStep a b (SendPtCall pt bytes) →
    Performs b c old new tills left now (CutPt pt ∷ []) → Performs a c old new tills left now (SendPt pt sending ∷ [])
unsent-performs a b c old new tills left now pt bytes sending (Ok done) sent value failed is grows step cuts = absurd (let h : true ≡ false = sym value ∙ failed in cc)
unsent-performs a b c old new tills left now pt bytes sending (Err fault) sent value failed is grows step cuts = λ setup kept polls heard items. triple-then a b c _ _ _
    (unsent-held setup kept tills polls now (AreHeard heard) a b old pt sending fault items (heard-stays pt heard) (subst (λ bytes. Grows a b (SentPtTurns pt bytes (Err fault))) is grows) (subst (λ bytes. IsStep a b (SendPtCall pt bytes)) is step))
    (cuts setup kept polls heard items)

-- a link that was tried, and what is wanted then
pub link-tried : (a b c : Observed) (old mid new : Core) (tills left : List Till) (now : ℤ) (pt : ℕ) (r : Result (Unit {0}) Failed) (made : Bool) (wanted : Option Act) → made ≡ is_ok r → pt < length old.terminals → is_linked_in (slice_get old.terminals pt) ≡ false →
    IsRowOf old (moment_of now) (λ known. link_row known pt (link_event_of made)) mid wanted → Grows a b (LinkTurns pt r) → IsStep a b (LinkCall pt) → MakesCall b c mid new tills left now wanted →
    (setup : Setup) (kept : List Record) (polls : ℕ) (heard : ℕ → List ℕ) (items : List RoundItem) → heard pt ≡ [] →
    Triple a c (MidRound setup old kept tills polls now (AreHeard heard) (LinkPt pt ∷ []) items) (MidRound setup new kept left polls now (AreHeard heard) [] items)
link-tried a b c old mid new tills left now pt (Ok done) made wanted up inside unlinked is grows step makes = λ setup kept polls heard items none.
    let row : Row = link_row (known_with setup kept old (moment_of now)) pt LinkIsMade in
    let by : IsRow kept row mid (alone wanted) = subst (λ m. IsRow kept (link_row (known_with setup kept old (moment_of now)) pt (link_event_of m)) mid (alone wanted)) up (is setup kept) in
    triple-then a b c _ _ _
    (made-held setup kept tills polls now (AreHeard heard) a b old mid pt done row.calls items inside (heard-linked pt heard none) grows step (row-becomes kept row mid wanted by))
    (makes row.calls by.calls_are setup kept polls heard items)
link-tried a b c old mid new tills left now pt (Err failed) made wanted up inside unlinked is grows step makes = λ setup kept polls heard items none.
    let row : Row = link_row (known_with setup kept old (moment_of now)) pt LinkIsLost in
    let by : IsRow kept row mid (alone wanted) = subst (λ m. IsRow kept (link_row (known_with setup kept old (moment_of now)) pt (link_event_of m)) mid (alone wanted)) up (is setup kept) in
    triple-then a b c _ _ _
    (failed-held setup kept tills polls now (AreHeard heard) a b old mid pt failed row.calls items unlinked (heard-linked pt heard none) grows step (row-becomes kept row mid wanted by))
    (makes row.calls by.calls_are setup kept polls heard items)

-- ---- items

-- from this item, before others, to those
abbrev pub Handles : Observed → Observed → Core → Core → List Till → List Till → ℤ → RoundItem → Type 0
Handles a b old new tills left now item = (setup : Setup) (kept : List Record) (polls : ℕ) (heard : ℕ → List ℕ) (items : List RoundItem) →
    Triple a b (MidRound setup old kept tills polls now (AreHeard heard) [] (item ∷ items)) (MidRound setup new kept left polls now (AreHeard heard) [] items)

-- the item begins by these calls, which are made
pub item-handled : (a b : Observed) (old mid new : Core) (tills left : List Till) (now : ℤ) (item : RoundItem) (calls : List OwedCall) → ((setup : Setup) (kept : List Record) → BeginsMidRound setup old mid kept now item calls) → Performs a b mid new tills left now calls → Handles a b old new tills left now item
item-handled a b old mid new tills left now item calls begins performs = λ setup kept polls heard items. triple-then a a b _ _ _
    (begin-held setup kept tills polls now (AreHeard heard) a old mid item calls items (begins setup kept)) (performs setup kept polls heard items)

-- an item that changes nothing of what is remembered begins, and its call is made
pub item-called : (a b : Observed) (old new : Core) (tills left : List Till) (now : ℤ) (item : RoundItem) (row : Known → Row) (wanted : Option Act) → ((scene : Scene) (items : List RoundItem) → may_begin scene (item ∷ items) ≡ true) →
    ((connections : List Connection) (known : Known) → row_of connections known item ≡ row known) → IsRowOf old (moment_of now) row old wanted → MakesCall a b old new tills left now wanted → Handles a b old new tills left now item
item-called a b old new tills left now item row wanted may rows is makes = λ setup kept polls heard items.
    let known : Known = known_with setup kept old (moment_of now) in
    let r = is setup kept in
    triple-then a a b _ _ _
    (begin-held setup kept tills polls now (AreHeard heard) a old old item (row known).calls items (record { begins = may; row = λ connections. rows connections known ∙ row-becomes kept (row known) old wanted r; links = λ number. refl }))
    (makes (row known).calls r.calls_are setup kept polls heard items)

-- the greeting of a message
pub greeted : (a b : Observed) (old new : Core) (tills left : List Till) (now : ℤ) (pt : ℕ) (apdu : ApduValue) (message : MessageValue) (wanted : Option Act) → decode_pt_message apdu ≡ Ok message →
    IsRowOf old (moment_of now) (λ known. greeted_row known pt message) old wanted → MakesCall a b old new tills left now wanted → Handles a b old new tills left now (Greet pt apdu)
greeted a b old new tills left now pt apdu message wanted decoded is makes = item-called a b old new tills left now (Greet pt apdu) (λ known. greeted_row known pt message) wanted (λ scene items. refl)
    (λ connections known. ap (greet_decoded known pt) decoded) is makes

-- an APDU outside the grammar has no further effect
pub unhandled : (s : Observed) (core : Core) (tills : List Till) (now : ℤ) (pt : ℕ) (apdu : ApduValue) (fault : PtFault) → decode_pt_message apdu ≡ Err fault → Handles s s core core tills tills now (Handle pt apdu)
unhandled s core tills now pt apdu fault decoded = item-handled s s core core core tills tills now (Handle pt apdu) []
    (λ setup kept. record { begins = λ scene items. refl; row = λ connections. ap (handle_decoded (known_with setup kept core (moment_of now)) pt) decoded; links = λ number. refl }) (none-performed s core tills now)

-- at a terminal that isn't linked no request is begun
pub unlinked-next : (known : Known) (pt : ℕ) → is_linked_in (terminal_at known pt) ≡ false → next_waiting_row known pt ≡ owing_nothing known
unlinked-next known pt unlinked = by_terminal (terminal_at known pt) unlinked
  where
    row : Terminal → Row
    row terminal = of_waiting known (looks_at_first known pt terminal) (first_waiting (queue_of pt known.core.waits))

    by_standing : (terminal : Terminal) (standing : Standing) → is_linked standing ≡ false → owing_where (is_ready_standing standing) known (row terminal) ≡ owing_nothing known
    by_standing terminal (Unlinked due) none = refl
    by_standing terminal Registering none = refl
    by_standing terminal Enquiring none = refl
    by_standing terminal (Ready last) none = absurd (let h : true ≡ false = none in cc)
    by_standing terminal (Serving service last) none = refl
    by_standing terminal (Aside before reported) none = refl

    by_terminal : (found : Option Terminal) → is_linked_in found ≡ false → of_terminal known (λ terminal. owing_where (is_ready_standing terminal.standing) known (row terminal)) found ≡ owing_nothing known
    by_terminal None none = refl
    by_terminal (Some terminal) none = by_standing terminal terminal.standing none

pub none-begins : (s : Observed) (core : Core) (tills : List Till) (now : ℤ) (pt : ℕ) → is_linked_in (slice_get core.terminals pt) ≡ false → Handles s s core core tills tills now (NextWaiting pt)
none-begins s core tills now pt unlinked =
    item-handled s s core core core tills tills now (NextWaiting pt) [] (λ setup kept. record { begins = λ scene items. refl; row = λ connections. unlinked-next (known_at setup core kept now) pt unlinked; links = λ number. refl }) (none-performed s core tills now)

-- one outside the grammar
pub greet-outside : (pt : ℕ) (apdu : ApduValue) (fault : PtFault) → decode_pt_message apdu ≡ Err fault → IsOutside pt (Greet pt apdu)
greet-outside pt apdu fault decoded = record { begins = λ scene items. refl; row = λ connections known. ap (greet_decoded known pt) decoded }

-- bytes that are no message
pub outside-handled : (a b : Observed) (old new : Core) (tills left : List Till) (now : ℤ) (pt : ℕ) (item : RoundItem) (linked : Bool) → IsOutside pt item → is_linked_in (slice_get old.terminals pt) ≡ linked → Performs a b old new tills left now (outside_calls pt linked) → Handles a b old new tills left now item
outside-handled a b old new tills left now pt item linked outside is performs = item-handled a b old old new tills left now item (outside_calls pt linked)
    (λ setup kept. record { begins = outside.begins; row = λ connections. outside.row connections (known_with setup kept old (moment_of now)) ∙ outside-is (known_with setup kept old (moment_of now)) pt linked is; links = λ number. refl })
    performs

-- a silence
pub silenced : (a b : Observed) (old new : Core) (tills left : List Till) (now : ℤ) (pt : ℕ) (wanted : Option Act) → IsRowOf old (moment_of now) (λ known. late_row known pt) old wanted → MakesCall a b old new tills left now wanted → Handles a b old new tills left now (Late pt)
silenced a b old new tills left now pt wanted is makes = item-called a b old new tills left now (Late pt) (λ known. late_row known pt) wanted (λ scene items. refl) (λ connections known. refl) is makes

-- nothing is due
pub none-due : (s : Observed) (core : Core) (tills : List Till) (now : ℤ) (pt : ℕ) (wanted : Option Act) → wanted ≡ None → IsRowOf core (moment_of now) (λ known. due_row known pt) core wanted → Handles s s core core tills tills now (Due pt)
none-due s core tills now pt wanted none is = item-called s s core core tills tills now (Due pt) (λ known. due_row known pt) wanted (λ scene items. refl) (λ connections known. refl) is (at-none s core tills now wanted none)

-- a terminal that is due is linked
pub due-begins : (s : Observed) (core : Core) (tills : List Till) (now : ℤ) (pt : ℕ) (setup : Setup) (kept : List Record) (polls : ℕ) (heard : ℕ → List ℕ) (items : List RoundItem) → IsLinkedNow core (moment_of now) pt →
    Triple s s (MidRound setup core kept tills polls now (AreHeard heard) [] (Due pt ∷ items)) (MidRound setup core kept tills polls now (AreHeard heard) (LinkPt pt ∷ []) items)
due-begins s core tills now pt setup kept polls heard items due =
    begin-held setup kept tills polls now (AreHeard heard) s core core (Due pt) (LinkPt pt ∷ []) items (record { begins = λ scene items. refl; row = λ connections. due.row setup kept; links = λ number. refl })
