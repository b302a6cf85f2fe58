-- Along each lawful course what is remembered of a terminal is what the transcript of its link says.
use Rattle.std.proofs.Common.{◌≡◌, ◌≢◌, ℕ, zero, suc, List, [], ◌∷◌, ◌++◌, refl, sym, ◌∙◌, ap, subst, true, false, inl, inr, eqb-true, append-nil, append_assoc}
use Rattle.std.proofs.lemmas.Bool.{and_parts, eq-eqb}
use Rattle.std.specs.Prelude.{Bool, ◌==◌, ◌||◌, ◌⊎◌, if◌then◌else◌, map, slice_get, Option, Some, None, Result, Ok, Err}
use Rattle.gw_base.specs.declared.key.Key.{Key}
use Rattle.gw_base.specs.declared.setup.Pt.{Pt}
use Rattle.gw_base.specs.declared.setup.Setup.{Setup}
use Rattle.gw_site.specs.Outside.{Connection, is_connected}
use Rattle.gw_site.specs.declared.turn.Turn.{Turn}
use Rattle.gw_site.specs.declared.turn.Turn.TheVariants.{Start, OpenFailed, Polled, Opened, HeardTill, Closed, HeardPt, Lost, Stopped, Linked, LinkFailed, SentTill, SentPt, CutTill, CutPt, Wrote, Synced, DiskFailed, Crash}
use Rattle.zvt_apdu.specs.DecodeStream.{decode_apdus, decode_apdus_within}
use Rattle.zvt_apdu.specs.Grammar.{ApduValue}
use Rattle.zvt_msg.specs.Message.{MessageValue, Ack, Nack, Intermediate, Line, Block, Status, Completion, Abort, Other}
use Rattle.zvt_msg.specs.MessageDecode.{decode_pt_message}
use Rattle.zvt_msg.specs.declared.fault.PtFault.{PtFault}
use Rattle.sale_values.specs.declared.header.Header.{Header}
use Rattle.sale_values.specs.declared.request.SaleRequest.{SaleRequest}
use Rattle.gw_ledger.specs.History.{history}
use Rattle.jrn_record.specs.declared.records.How.TheVariants as hows
use Rattle.gw_owes.specs.Calls.{OwedCall, SendTill, LinkPt, WriteBody, WriteGate, WriteFirstGate, Sync, write_turn, SendPt as OwedSendPt, CutTill as OwedCutTill, CutPt as OwedCutPt}
use Rattle.gw_owes.specs.Core.{Core, new_core, new_terminal}
use Rattle.gw_owes.specs.Deadlines.{is_late, is_due, late_row, due_row}
use Rattle.gw_owes.specs.Greeting.{greeting, sending_calls, greet_decoded, oversized_row}
use Rattle.gw_owes.specs.Handling.{taking, handle_row}
use Rattle.gw_owes.specs.Items.{RoundItem, Crowded, Message, Asked, Unframed, Gone, Greet, Handle, Serve, Queue, NextWaiting, Oversized, LinkLost, Late, Overdue, Due}
use Rattle.gw_owes.specs.Links.{cutting, LinkEvent, LinkIsMade, LinkHasFailed, LinkIsLost, link_row}
use Rattle.gw_owes.specs.Payments.{serve_row}
use Rattle.gw_owes.specs.Reconciliations.{reply_to_settled, settled_of}
use Rattle.gw_owes.specs.Reply.{ReplyValue}
use Rattle.gw_owes.specs.Requests.{reply_to}
use Rattle.gw_owes.specs.Row.{Known, Row, owing}
use Rattle.gw_owes.specs.Rows.{asked_row, row_of}
use Rattle.gw_owes.specs.Serving.{reply_to_outcome}
use Rattle.gw_owes.specs.TerminalLaws.{settings_of, owes_cut}
use Rattle.gw_owes.specs.TerminalRows.{terminal_of, terminal_row, is_link_lost}
use Rattle.gw_owes.specs.Terminals.{terminal_at, registers, reply_calls_to, reply_to_lost, unlinks, link_made, link_lost, forgets_till, core_without}
use Rattle.gw_owes.specs.Transcript.{Carried, commanded, commanded_by, took_by, transcript_grown, is_number, FollowsTranscript, EachRowFollowsTranscript}
use Rattle.gw_owes.specs.WaitingRows.{next_waiting_row, overdue_row, queue_row}
use Rattle.gw_owes.specs.declared.terminal.Terminal.{Terminal}
use Rattle.gw_owes.proofs.HandlingLemmas.{by-where, each-terminal, each-linked}
use Rattle.gw_owes.proofs.NextLemmas.{each-next, each-overdue, each-queued}
use Rattle.gw_owes.proofs.PaymentLemmas.{each-served}
use Rattle.gw_owes.proofs.SetLemmas.{same-some}
use Rattle.gw_owes.proofs.TerminalLemmas.{link-changes-alone, row-changes-alone}
use Rattle.gw_owes.proofs.TranscriptLemmas.{new-follows, links-begin}
use Rattle.gw_rules.specs.JournalFiles.{is_on_disk}
use Rattle.gw_rules.specs.Lawful.{first_call, may_begin, Begins, Allowed, AllowedTurn, IsCourse, Stands}
use Rattle.gw_rules.specs.Scene.{Scene, known_in, row_in, link_made_at, link_lost_at}
use Rattle.gw_rules.specs.Stage.{AtPoll, is_round, is_running, is_broken}
use Rattle.gw_rules.specs.TranscriptLaws.{command_to, command_next, command_owed, cuts_terminal, cut_owed, owed_after, owed_from, owed_at, transcript_with, transcript_in, transcript_begun, transcript_made, transcript_moved, transcript_from, transcript_of, EachLogFollowsTranscript, EachPollFollowsTranscript, ExampleLogTranscript}
use Rattle.gw_rules.specs.View.{View, Move, Begin, Read, Make, later, after, after_turn, view_from, at_first}
use Rattle.gw_rules.proofs.CourseLemmas.{begin-stage}
use Rattle.gw_rules.proofs.LinkStateLemmas.{apart, without-settings}
use Rattle.gw_rules.proofs.LinkedLemmas.{Agrees, first-agrees, move-agrees, round-setup, call-setup}
use Rattle.gw_rules.proofs.OpeningLemmas.{OwesDisk, all_on_disk, first-owes-disk, course-disk}
use Rattle.gw_rules.proofs.OwedLemmas.{call-last}
use Rattle.gw_rules.proofs.OwingLemmas.{IsOwing, clear-where, after-clear, clear-turn, turn-clear, move-owing, first-owing, clear-owes-calls}
use Rattle.gw_rules.proofs.RowFormLemmas.{EachForm, form-handled}
use Rattle.gw_rules.proofs.StageLemmas.{no-true, round-busy}

-- ---- terminals that are there

pub image-there : {A B : Type 0} → (f : A → B) (all : List A) (at : ℕ) (image : B) → slice_get (map f all) at ≡ Some image → (one : A) × (slice_get all at ≡ Some one)
image-there f [] at image found = absurd cc
image-there f (first ∷ rest) zero image found = (first, refl)
image-there f (first ∷ rest) (suc at) image found = image-there f rest at image found

pub there-image : {A B : Type 0} → (f : A → B) (all : List A) (at : ℕ) (one : A) → slice_get all at ≡ Some one → slice_get (map f all) at ≡ Some (f one)
there-image f [] at one found = absurd cc
there-image f (first ∷ rest) zero one found = ap (λ a. Some (f a)) (same-some first one found)
there-image f (first ∷ rest) (suc at) one found = there-image f rest at one found

-- a terminal that is there was there before, where the settings are the same
there-before : (old new : Core) (pt : ℕ) (terminal : Terminal) → settings_of new ≡ settings_of old → slice_get new.terminals pt ≡ Some terminal → (before : Terminal) × (slice_get old.terminals pt ≡ Some before)
there-before old new pt terminal same found =
    image-there (λ (t : Terminal). t.pt) old.terminals pt terminal.pt
    (ap (λ (pts : List Pt). slice_get pts pt) (sym same) ∙ there-image (λ (t : Terminal). t.pt) new.terminals pt terminal found)

-- a terminal that stays as it was keeps its transcript
same-follows : (pt : ℕ) (transcript : List Carried) (old new : Core) → slice_get new.terminals pt ≡ slice_get old.terminals pt → FollowsTranscript pt transcript old → FollowsTranscript pt transcript new
same-follows pt transcript old new same has =
    record { terminal = has.terminal; found = same ∙ has.found; talk_is = has.talk_is; awaited_is = has.awaited_is; standing_is = has.standing_is }

-- so does one of which a till is forgotten
gone-follows : (pt till : ℕ) (transcript : List Carried) (core : Core) → FollowsTranscript pt transcript core → FollowsTranscript pt transcript (core_without core till)
gone-follows pt till transcript core has = record {
  terminal = forgets_till till has.terminal;
  found = there-image (forgets_till till) core.terminals pt has.terminal has.found;
  talk_is = has.talk_is;
  awaited_is = has.awaited_is;
  standing_is = has.standing_is;
}

-- ---- calls

-- the call is none to another terminal than this
abbrev pub IsCallOf : Option ℕ → OwedCall → Type 0
IsCallOf of (SendTill till reply) = Unit {0}
IsCallOf of (OwedSendPt number sending) = of ≡ Some number
IsCallOf of (OwedCutTill till) = Unit {0}
IsCallOf of (OwedCutPt number) = of ≡ Some number
IsCallOf of (LinkPt number) = Unit {0}
IsCallOf of (WriteBody slot the_record) = Unit {0}
IsCallOf of (WriteGate slot the_record) = Unit {0}
IsCallOf of WriteFirstGate = Unit {0}
IsCallOf of Sync = Unit {0}

-- nor is any of these
abbrev pub AreCallsOf : Option ℕ → List OwedCall → Type 0
AreCallsOf of [] = Unit {0}
AreCallsOf of (call ∷ calls) = IsCallOf of call × AreCallsOf of calls

pub not-number : (number pt : ℕ) → number ≢ pt → (number == pt) ≡ false
not-number number pt differs = by_test (number == pt) refl
  where
    by_test : (test : Bool) → (number == pt) ≡ test → test ≡ false
    by_test true e = absurd (differs (eqb-true number pt e))
    by_test false e = refl

-- a call owes this terminal nothing
abbrev pub OwesNothing : ℕ → ℕ → OwedCall → Type 0
OwesNothing pt moment call = (command_to pt moment call ≡ []) × (cuts_terminal pt call ≡ false)

-- these commands are owed to the terminal, and its cut or not
abbrev pub AreOwed : ℕ → ℕ → List OwedCall → List Carried → Bool → Type 0
AreOwed pt moment calls commands cut = (command_owed pt moment calls ≡ commands) × (cut_owed pt calls ≡ cut)

-- what is owed after a call that owes the terminal nothing is all that is
pass-owed : (pt moment : ℕ) (call : OwedCall) (calls : List OwedCall) (commands : List Carried) (cut : Bool) → OwesNothing pt moment call → AreOwed pt moment calls commands cut → AreOwed pt moment (call ∷ calls) commands cut
pass-owed pt moment call calls commands cut none rest =
    (ap (λ c. command_owed pt moment calls ++ c) none.0 ∙ append-nil (command_owed pt moment calls) ∙ rest.0, ap (λ b. b || cut_owed pt calls) none.1 ∙ rest.1)

-- another terminal is owed nothing
other-call : (of : Option ℕ) (pt moment : ℕ) (call : OwedCall) → IsCallOf of call → (of ≡ Some pt → ⊥) → OwesNothing pt moment call
other-call of pt moment (SendTill till reply) is differs = (refl, refl)
other-call of pt moment (OwedSendPt number sending) is differs = (rw (not-number number pt (λ same. differs (is ∙ ap Some same))) refl, refl)
other-call of pt moment (OwedCutTill till) is differs = (refl, refl)
other-call of pt moment (OwedCutPt number) is differs = (refl, not-number number pt (λ same. differs (is ∙ ap Some same)))
other-call of pt moment (LinkPt number) is differs = (refl, refl)
other-call of pt moment (WriteBody slot the_record) is differs = (refl, refl)
other-call of pt moment (WriteGate slot the_record) is differs = (refl, refl)
other-call of pt moment WriteFirstGate is differs = (refl, refl)
other-call of pt moment Sync is differs = (refl, refl)

other-owed : (of : Option ℕ) (pt moment : ℕ) (calls : List OwedCall) → AreCallsOf of calls → (of ≡ Some pt → ⊥) → AreOwed pt moment calls [] false
other-owed of pt moment [] are differs = (refl, refl)
other-owed of pt moment (call ∷ calls) are differs = pass-owed pt moment call calls [] false (other-call of pt moment call are.0 differs) (other-owed of pt moment calls are.1 differs)

-- the terminal is owed all of it
pub own-owed : (pt moment : ℕ) (calls : List OwedCall) → AreCallsOf (Some pt) calls → AreOwed pt moment calls (commanded_by moment calls) (owes_cut calls)
own-owed pt moment [] are = (refl, refl)
own-owed pt moment (SendTill till reply ∷ calls) are = pass-owed pt moment (SendTill till reply) calls (commanded_by moment calls) (owes_cut calls) (refl, refl) (own-owed pt moment calls are.1)
own-owed pt moment (OwedSendPt number sending ∷ calls) are =
    let same : number ≡ pt = sym (same-some pt number are.0) in
    let rest : AreOwed pt moment calls (commanded_by moment calls) (owes_cut calls) = own-owed pt moment calls are.1 in
    (ap (λ l. l ++ command_to pt moment (OwedSendPt number sending)) rest.0 ∙ ap (λ (b : Bool). commanded_by moment calls ++ (if b then commanded moment sending else [])) (eq-eqb number pt same), rest.1)
own-owed pt moment (OwedCutTill till ∷ calls) are = pass-owed pt moment (OwedCutTill till) calls (commanded_by moment calls) (owes_cut calls) (refl, refl) (own-owed pt moment calls are.1)
own-owed pt moment (OwedCutPt number ∷ calls) are =
    let same : number ≡ pt = sym (same-some pt number are.0) in
    let rest : AreOwed pt moment calls (commanded_by moment calls) (owes_cut calls) = own-owed pt moment calls are.1 in
    (append-nil (command_owed pt moment calls) ∙ rest.0, ap (λ b. b || cut_owed pt calls) (eq-eqb number pt same))
own-owed pt moment (LinkPt number ∷ calls) are = pass-owed pt moment (LinkPt number) calls (commanded_by moment calls) (owes_cut calls) (refl, refl) (own-owed pt moment calls are.1)
own-owed pt moment (WriteBody slot the_record ∷ calls) are = pass-owed pt moment (WriteBody slot the_record) calls (commanded_by moment calls) (owes_cut calls) (refl, refl) (own-owed pt moment calls are.1)
own-owed pt moment (WriteGate slot the_record ∷ calls) are = pass-owed pt moment (WriteGate slot the_record) calls (commanded_by moment calls) (owes_cut calls) (refl, refl) (own-owed pt moment calls are.1)
own-owed pt moment (WriteFirstGate ∷ calls) are = pass-owed pt moment WriteFirstGate calls (commanded_by moment calls) (owes_cut calls) (refl, refl) (own-owed pt moment calls are.1)
own-owed pt moment (Sync ∷ calls) are = pass-owed pt moment Sync calls (commanded_by moment calls) (owes_cut calls) (refl, refl) (own-owed pt moment calls are.1)

-- calls on the disk owe terminals nothing
disk-call : (pt moment : ℕ) (call : OwedCall) → is_on_disk call ≡ true → OwesNothing pt moment call
disk-call pt moment (SendTill till reply) e = no-true e
disk-call pt moment (OwedSendPt number sending) e = no-true e
disk-call pt moment (OwedCutTill till) e = no-true e
disk-call pt moment (OwedCutPt number) e = no-true e
disk-call pt moment (LinkPt number) e = no-true e
disk-call pt moment (WriteBody slot the_record) e = (refl, refl)
disk-call pt moment (WriteGate slot the_record) e = (refl, refl)
disk-call pt moment WriteFirstGate e = (refl, refl)
disk-call pt moment Sync e = (refl, refl)

disk-owed : (pt moment : ℕ) (calls : List OwedCall) → all_on_disk calls ≡ true → AreOwed pt moment calls [] false
disk-owed pt moment [] e = (refl, refl)
disk-owed pt moment (call ∷ calls) e =
    let parts = and_parts (is_on_disk call) (all_on_disk calls) e in
    pass-owed pt moment call calls [] false (disk-call pt moment call parts.0) (disk-owed pt moment calls parts.1)

-- the first call and those after it
first-later : (calls : List OwedCall) (call : OwedCall) → first_call calls ≡ Some call → calls ≡ call ∷ later calls
first-later [] call e = absurd (let n : None ≡ Some call = e in cc)
first-later (first ∷ calls) call e = let same : first ≡ call = (let n : Some first ≡ Some call = e in cc) in ap (λ c. c ∷ calls) same

-- where a call that owes the terminal nothing is first, what is owed is what the later ones owe
next-owed : (pt moment : ℕ) (calls : List OwedCall) (call : OwedCall) → first_call calls ≡ Some call → OwesNothing pt moment call → AreOwed pt moment calls (command_owed pt moment (later calls)) (cut_owed pt (later calls))
next-owed pt moment calls call next none =
    let all = first-later calls call next in
    let rest : AreOwed pt moment (call ∷ later calls) (command_owed pt moment (later calls)) (cut_owed pt (later calls)) =
    pass-owed pt moment call (later calls) (command_owed pt moment (later calls)) (cut_owed pt (later calls)) none (refl, refl) in
    (ap (command_owed pt moment) all ∙ rest.0, ap (cut_owed pt) all ∙ rest.1)

or-none : (b : Bool) → (b || false) ≡ b
or-none true = refl
or-none false = refl

-- where a call is first and last, what is owed is what it owes
last-owed : (pt moment : ℕ) (calls : List OwedCall) (call : OwedCall) → first_call calls ≡ Some call → later calls ≡ [] → AreOwed pt moment calls (command_to pt moment call) (cuts_terminal pt call)
last-owed pt moment calls call next last =
    let all : calls ≡ call ∷ [] = first-later calls call next ∙ ap (λ l. call ∷ l) last in
    (ap (command_owed pt moment) all, ap (cut_owed pt) all ∙ or-none (cuts_terminal pt call))

-- the command of the first call, and then those of the later ones
sent-owed : (pt moment : ℕ) (calls : List OwedCall) (transcript : List Carried) → command_owed pt moment (later calls) ++ (command_next pt moment calls ++ transcript) ≡ command_owed pt moment calls ++ transcript
sent-owed pt moment [] transcript = refl
sent-owed pt moment (call ∷ calls) transcript = sym (append_assoc (command_owed pt moment calls) (command_to pt moment call) transcript)

none-owed : (pt moment : ℕ) (calls : List OwedCall) → calls ≡ [] → AreOwed pt moment calls [] false
none-owed pt moment calls e = (ap (command_owed pt moment) e, ap (cut_owed pt) e)

written-owed : (pt moment : ℕ) (call : OwedCall) (turn : Turn) → write_turn call ≡ Some turn → OwesNothing pt moment call
written-owed pt moment (SendTill till reply) turn e = (refl, refl)
written-owed pt moment (OwedSendPt number sending) turn e = absurd (let n : None ≡ Some turn = e in cc)
written-owed pt moment (OwedCutTill till) turn e = (refl, refl)
written-owed pt moment (OwedCutPt number) turn e = absurd (let n : None ≡ Some turn = e in cc)
written-owed pt moment (LinkPt number) turn e = (refl, refl)
written-owed pt moment (WriteBody slot the_record) turn e = (refl, refl)
written-owed pt moment (WriteGate slot the_record) turn e = (refl, refl)
written-owed pt moment WriteFirstGate turn e = (refl, refl)
written-owed pt moment Sync turn e = (refl, refl)

-- ---- the calls of rows

reply-of : (of : Option ℕ) (asker : Option ℕ) (reply : Option ReplyValue) → AreCallsOf of (reply_calls_to asker reply)
reply-of of None reply = tt
reply-of of (Some till) None = tt
reply-of of (Some till) (Some reply) = (tt, tt)

greeting-of : (number : ℕ) (message : MessageValue) → AreCallsOf (Some number) (sending_calls number (greeting message))
greeting-of number Ack = tt
greeting-of number (Nack error_code) = tt
greeting-of number (Intermediate intermediate_status) = (refl, tt)
greeting-of number (Line text) = (refl, tt)
greeting-of number (Block objects) = (refl, tt)
greeting-of number (Status fields) = (refl, tt)
greeting-of number Completion = (refl, tt)
greeting-of number (Abort result_code) = (refl, tt)
greeting-of number Other = (refl, tt)

abbrev pub IsRowOf : ℕ → Row → Type 0
IsRowOf number row = AreCallsOf (Some number) row.calls

outside-of : (known : Known) (number : ℕ) → IsRowOf number (oversized_row known number)
outside-of known number = each-linked (IsRowOf number) known number (λ terminal. cutting known number) tt (λ terminal found linked. (refl, tt))

greet-of : (known : Known) (number : ℕ) (decoded : Result MessageValue PtFault) → IsRowOf number (greet_decoded known number decoded)
greet-of known number (Ok message) = each-linked (IsRowOf number) known number (λ terminal. owing known (sending_calls number (greeting message))) tt (λ terminal found linked. greeting-of number message)
greet-of known number (Err fault) = outside-of known number

forms-of : (known : Known) (number : ℕ) (terminal : Terminal) → EachForm (IsRowOf number) known number terminal
forms-of known number terminal = record {
  nothing = tt;
  stays = tt;
  cuts = (refl, tt);
  stops = (refl, tt);
  enquires = (refl, tt);
  rests = λ standing linked. tt;
  resolves = λ standing outcome linked. (tt, (tt, (tt, (tt, reply-of (Some number) terminal.asker (reply_to_outcome known.kept outcome.slot outcome)))));
  settles = λ last settled. (tt, (tt, (tt, (tt, reply-of (Some number) terminal.asker (reply_to_settled known.kept settled)))));
  replies = λ last reply. reply-of (Some number) terminal.asker reply;
  requests = λ till request asks. (tt, tt);
}

handle-of : (known : Known) (number : ℕ) (apdu : ApduValue) → IsRowOf number (handle_row known number apdu)
handle-of known number apdu = form-handled (IsRowOf number) known number apdu tt (λ terminal message found linked is taken. forms-of known number (taking terminal message known.moment))

serve-of : (known : Known) (number till : ℕ) (header : Header) (request : SaleRequest) → IsRowOf number (serve_row known number till header request)
serve-of known number till header request =
    each-served (IsRowOf number) known number till header request (record {
      none = tt;
      begins = λ terminal last asking at. (tt, (tt, (tt, (tt, (refl, tt)))));
      sent = λ terminal talk at may. (refl, tt);
      wished = λ terminal talk at may. tt;
      session = λ success. (tt, tt);
      settles = λ terminal at. (tt, (tt, (tt, (tt, reply-of (Some number) (Some till) (reply_to_settled known.kept (settled_of hows.Sale header terminal.pt.currency known.moment))))));
      day = λ terminal last at. (refl, tt);
      displays = λ terminal last outputs command at. (refl, tt);
    })

late-of : (known : Known) (number : ℕ) → IsRowOf number (late_row known number)
late-of known number = each-terminal (IsRowOf number) known number _ tt (λ terminal found. by-where (IsRowOf number) known (cutting known number) (is_late known.moment terminal.talk) tt (λ late. (refl, tt)))

due-of : (known : Known) (number : ℕ) → IsRowOf number (due_row known number)
due-of known number = each-terminal (IsRowOf number) known number _ tt (λ terminal found. by-where (IsRowOf number) known (owing known (LinkPt number ∷ [])) (is_due known.moment terminal.standing) tt (λ due. (tt, tt)))

lost-of : (known : Known) (number : ℕ) → IsRowOf number (link_lost known number)
lost-of known number = each-terminal (IsRowOf number) known number (unlinks known number) tt (λ terminal found. reply-of (Some number) terminal.asker (reply_to_lost terminal.standing))

pub link-of : (known : Known) (number : ℕ) (event : LinkEvent) → IsRowOf number (link_row known number event)
link-of known number LinkIsMade = each-terminal (IsRowOf number) known number (registers known number) tt (λ terminal found. (refl, tt))
link-of known number LinkHasFailed = lost-of known number
link-of known number LinkIsLost = lost-of known number

-- what waits joins or leaves, and no terminal changes
queue-of : (known : Known) (number till : ℕ) (header : Header) (request : SaleRequest) → AreCallsOf None (queue_row known number till header request).calls
queue-of known number till header request = each-queued (λ (row : Row). AreCallsOf None row.calls) known number till header request (record { none = tt; joins = λ terminal key at. tt; taken = λ wait at. (tt, tt) })

queue-terminals : (known : Known) (number till : ℕ) (header : Header) (request : SaleRequest) → (queue_row known number till header request).core.terminals ≡ known.core.terminals
queue-terminals known number till header request = each-queued (λ (row : Row). row.core.terminals ≡ known.core.terminals) known number till header request (record { none = refl; joins = λ terminal key at. refl; taken = λ wait at. refl })

overdue-of : (known : Known) (key : Key) → AreCallsOf None (overdue_row known key).calls
overdue-of known key = each-overdue (λ (row : Row). AreCallsOf None row.calls) known key (record { none = tt; taken = λ wait is overdue. (tt, tt) })

overdue-terminals : (known : Known) (key : Key) → (overdue_row known key).core.terminals ≡ known.core.terminals
overdue-terminals known key = each-overdue (λ (row : Row). row.core.terminals ≡ known.core.terminals) known key (record { none = refl; taken = λ wait is overdue. refl })

next-of : (known : Known) (number : ℕ) → IsRowOf number (next_waiting_row known number)
next-of known number = each-next (IsRowOf number) known number (record {
  none = tt;
  refused = λ terminal last wait condition first is. (tt, tt);
  begins = λ terminal last wait asking at. (tt, (tt, (tt, (tt, (refl, tt)))));
  day = λ terminal last wait at. (refl, tt);
  left = λ terminal last wait first. tt;
})

pub rows-of : (tills : List Connection) (known : Known) (item : RoundItem) → AreCallsOf (terminal_of item) (row_of tills known item).calls
rows-of tills known (Crowded till) = (tt, tt)
rows-of tills known (Message till bytes) = tt
rows-of tills known (Asked till as_read) = by-where (λ (row : Row). AreCallsOf None row.calls) known (asked_row known till as_read) (is_connected tills till) tt (λ there. reply-of None (Some till) (reply_to known as_read))
rows-of tills known (Unframed till) = by-where (λ (row : Row). AreCallsOf None row.calls) known (owing known (OwedCutTill till ∷ [])) (is_connected tills till) tt (λ there. (tt, tt))
rows-of tills known (Gone till) = tt
rows-of tills known (Greet number apdu) = greet-of known number (decode_pt_message apdu)
rows-of tills known (Handle number apdu) = handle-of known number apdu
rows-of tills known (Serve number till header request) = serve-of known number till header request
rows-of tills known (Queue number till header request) = queue-of known number till header request
rows-of tills known (NextWaiting number) = next-of known number
rows-of tills known (Oversized number) = outside-of known number
rows-of tills known (LinkLost number) = lost-of known number
rows-of tills known (Late number) = late-of known number
rows-of tills known (Overdue key) = overdue-of known key
rows-of tills known (Due number) = due-of known number

-- the settings stay
rows-settings : (tills : List Connection) (known : Known) (item : RoundItem) → settings_of (row_of tills known item).core ≡ settings_of known.core
rows-settings tills known (Crowded till) = refl
rows-settings tills known (Message till bytes) = refl
rows-settings tills known (Asked till as_read) = by-where (λ (row : Row). settings_of row.core ≡ settings_of known.core) known (asked_row known till as_read) (is_connected tills till) refl (λ there. refl)
rows-settings tills known (Unframed till) = by-where (λ (row : Row). settings_of row.core ≡ settings_of known.core) known (owing known (OwedCutTill till ∷ [])) (is_connected tills till) refl (λ there. refl)
rows-settings tills known (Gone till) = without-settings till known.core.terminals
rows-settings tills known (Greet number apdu) = (row-changes-alone known (Greet number apdu) number refl).settings
rows-settings tills known (Handle number apdu) = (row-changes-alone known (Handle number apdu) number refl).settings
rows-settings tills known (Serve number till header request) = (row-changes-alone known (Serve number till header request) number refl).settings
rows-settings tills known (Queue number till header request) = ap (map (λ (terminal : Terminal). terminal.pt)) (queue-terminals known number till header request)
rows-settings tills known (NextWaiting number) = (row-changes-alone known (NextWaiting number) number refl).settings
rows-settings tills known (Oversized number) = (row-changes-alone known (Oversized number) number refl).settings
rows-settings tills known (LinkLost number) = (row-changes-alone known (LinkLost number) number refl).settings
rows-settings tills known (Late number) = (row-changes-alone known (Late number) number refl).settings
rows-settings tills known (Overdue key) = ap (map (λ (terminal : Terminal). terminal.pt)) (overdue-terminals known key)
rows-settings tills known (Due number) = (row-changes-alone known (Due number) number refl).settings

-- ---- what a row leaves

-- what is remembered of the terminal after a row is what this transcript says, with the command that the row owes it
abbrev RowFollows : Known → ℕ → List Carried → Row → Type 0
RowFollows known pt transcript row = FollowsTranscript pt (command_owed pt known.moment row.calls ++ transcript) row.core

-- a row of a terminal, by what it leaves of that terminal
by-number : (known : Known) (number pt : ℕ) (old new : List Carried) (row : Row) → IsRowOf number row → ((other : ℕ) → other ≢ number → slice_get row.core.terminals other ≡ slice_get known.core.terminals other)
    → (number ≡ pt → RowFollows known pt new row) → (number ≢ pt → FollowsTranscript pt old known.core) → RowFollows known pt (if number == pt then new else old) row
by-number known number pt old new row of others own has = by_test (number == pt) refl
  where
    by_test : (test : Bool) → (number == pt) ≡ test → RowFollows known pt (if test then new else old) row
    by_test true e = own (eqb-true number pt e)
    by_test false e =
        let differs : number ≢ pt = apart number pt e in
        subst (λ (l : List Carried). FollowsTranscript pt (l ++ old) row.core) (sym (other-owed (Some number) pt known.moment row.calls of (λ same. differs (same-some number pt same))).0)
        (same-follows pt old known.core row.core (others pt (λ same. differs (sym same))) (has differs))

-- an event of a link begins the transcript anew
link-own : (known : Known) (number : ℕ) (event : LinkEvent) (terminal : Terminal) → terminal_at known number ≡ Some terminal → RowFollows known number [] (link_row known number event)
link-own known number event terminal found =
    subst (λ (l : List Carried). FollowsTranscript number l (link_row known number event).core)
    (sym (own-owed number known.moment (link_row known number event).calls (link-of known number event)).0 ∙ sym (append-nil (command_owed number known.moment (link_row known number event).calls)))
    (links-begin known number event terminal found)

link-follows : (known : Known) (number : ℕ) (event : LinkEvent) (pt : ℕ) (transcript : List Carried) (terminal : Terminal) → slice_get (link_row known number event).core.terminals pt ≡ Some terminal
    → (number ≢ pt → FollowsTranscript pt transcript known.core) → RowFollows known pt (if number == pt then [] else transcript) (link_row known number event)
link-follows known number event pt transcript terminal found has =
    let alone = link-changes-alone known number event in
    let before = there-before known.core (link_row known number event).core pt terminal alone.settings found in
    by-number known number pt transcript [] (link_row known number event) (link-of known number event) alone.others
    (λ same. subst (λ n. RowFollows known n [] (link_row known number event)) same (link-own known number event before.0 (ap (terminal_at known) same ∙ before.1))) has

-- an item that isn't the loss of a link
own-row : EachRowFollowsTranscript → (known : Known) (item : RoundItem) (number : ℕ) (transcript : List Carried) → terminal_of item ≡ Some number → is_link_lost item ≡ false → IsRowOf number (terminal_row known item)
    → FollowsTranscript number transcript known.core → cut_owed number (terminal_row known item).calls ≡ false → RowFollows known number (took_by known item ++ transcript) (terminal_row known item)
own-row rows known item number transcript is lasts of has no_cut =
    let own = own-owed number known.moment (terminal_row known item).calls of in
    subst (λ (l : List Carried). FollowsTranscript number (l ++ (took_by known item ++ transcript)) (terminal_row known item).core) (sym own.0)
    (subst (λ (b : Bool). FollowsTranscript number (if b then [] else transcript_grown known item transcript) (terminal_row known item).core) lasts
    (rows known item number transcript is has (sym own.1 ∙ no_cut)))

row-follows : EachRowFollowsTranscript → (known : Known) (item : RoundItem) (number pt : ℕ) (transcript : List Carried) → terminal_of item ≡ Some number → is_link_lost item ≡ false → IsRowOf number (terminal_row known item)
    → FollowsTranscript pt transcript known.core → cut_owed pt (terminal_row known item).calls ≡ false → RowFollows known pt (if number == pt then took_by known item ++ transcript else transcript) (terminal_row known item)
row-follows rows known item number pt transcript is lasts of has no_cut =
    by-number known number pt transcript (took_by known item ++ transcript) (terminal_row known item) of (row-changes-alone known item number is).others
    (λ same. own-row rows known item pt transcript (is ∙ ap Some same) lasts (subst (λ n. IsRowOf n (terminal_row known item)) same of) has no_cut)
    (λ differs. has)

-- the transcript by an item
abbrev ItemFollows : List Connection → Known → RoundItem → ℕ → List Carried → Type 0
ItemFollows tills known item pt transcript = RowFollows known pt (if is_number pt (terminal_of item) then transcript_with known item transcript else transcript) (row_of tills known item)

-- a row of a till
till-follows : (known : Known) (pt : ℕ) (transcript : List Carried) (calls : List OwedCall) → AreCallsOf None calls → FollowsTranscript pt transcript known.core → RowFollows known pt transcript (owing known calls)
till-follows known pt transcript calls of has =
    subst (λ (l : List Carried). FollowsTranscript pt (l ++ transcript) known.core) (sym (other-owed None pt known.moment calls of (λ same. let n : None ≡ Some pt = same in cc)).0) has

-- a row that changes no terminal
waits-follow : (known : Known) (pt : ℕ) (transcript : List Carried) (row : Row) → row.core.terminals ≡ known.core.terminals → AreCallsOf None row.calls → FollowsTranscript pt transcript known.core → RowFollows known pt transcript row
waits-follow known pt transcript row same of has =
    subst (λ (l : List Carried). FollowsTranscript pt (l ++ transcript) row.core) (sym (other-owed None pt known.moment row.calls of (λ same. let n : None ≡ Some pt = same in cc)).0)
    (same-follows pt transcript known.core row.core (ap (λ terminals. slice_get terminals pt) same) has)

item-follows : EachRowFollowsTranscript → (tills : List Connection) (known : Known) (item : RoundItem) (pt : ℕ) (transcript : List Carried) (terminal : Terminal) → slice_get (row_of tills known item).core.terminals pt ≡ Some terminal
    → FollowsTranscript pt transcript known.core → cut_owed pt (row_of tills known item).calls ≡ false → ItemFollows tills known item pt transcript
item-follows rows tills known (Crowded till) pt transcript terminal found has no_cut = has
item-follows rows tills known (Message till bytes) pt transcript terminal found has no_cut = has
item-follows rows tills known (Asked till as_read) pt transcript terminal found has no_cut =
    by-where (RowFollows known pt transcript) known (asked_row known till as_read) (is_connected tills till) has (λ there. till-follows known pt transcript _ (reply-of None (Some till) (reply_to known as_read)) has)
item-follows rows tills known (Unframed till) pt transcript terminal found has no_cut =
    by-where (RowFollows known pt transcript) known (owing known (OwedCutTill till ∷ [])) (is_connected tills till) has (λ there. has)
item-follows rows tills known (Gone till) pt transcript terminal found has no_cut = gone-follows pt till transcript known.core has
item-follows rows tills known (Greet number apdu) pt transcript terminal found has no_cut = row-follows rows known (Greet number apdu) number pt transcript refl refl (greet-of known number (decode_pt_message apdu)) has no_cut
item-follows rows tills known (Handle number apdu) pt transcript terminal found has no_cut = row-follows rows known (Handle number apdu) number pt transcript refl refl (handle-of known number apdu) has no_cut
item-follows rows tills known (Serve number till header request) pt transcript terminal found has no_cut = row-follows rows known (Serve number till header request) number pt transcript refl refl (serve-of known number till header request) has no_cut
item-follows rows tills known (Queue number till header request) pt transcript terminal found has no_cut = waits-follow known pt transcript (queue_row known number till header request) (queue-terminals known number till header request) (queue-of known number till header request) has
item-follows rows tills known (NextWaiting number) pt transcript terminal found has no_cut = row-follows rows known (NextWaiting number) number pt transcript refl refl (next-of known number) has no_cut
item-follows rows tills known (Oversized number) pt transcript terminal found has no_cut = row-follows rows known (Oversized number) number pt transcript refl refl (outside-of known number) has no_cut
item-follows rows tills known (LinkLost number) pt transcript terminal found has no_cut = link-follows known number LinkIsLost pt transcript terminal found (λ differs. has)
item-follows rows tills known (Late number) pt transcript terminal found has no_cut = row-follows rows known (Late number) number pt transcript refl refl (late-of known number) has no_cut
item-follows rows tills known (Overdue key) pt transcript terminal found has no_cut = waits-follow known pt transcript (overdue_row known key) (overdue-terminals known key) (overdue-of known key) has
item-follows rows tills known (Due number) pt transcript terminal found has no_cut = row-follows rows known (Due number) number pt transcript refl refl (due-of known number) has no_cut

-- ---- what holds along a course

-- what is remembered of the terminal is what the transcript says, with the commands that these calls owe it, but where they owe its cut
record IsTranscribed (pt : ℕ) (transcript : List Carried) (calls : List OwedCall) (v : View) : Type 0 where
  follows : (terminal : Terminal) → slice_get v.scene.core.terminals pt ≡ Some terminal → cut_owed pt calls ≡ false → FollowsTranscript pt (command_owed pt v.scene.outside.moment calls ++ transcript) v.scene.core

-- the same of the calls that the view owes
abbrev HasTranscript : ℕ → List Carried → View → Type 0
HasTranscript pt transcript v = IsTranscribed pt transcript v.calls v

-- ---- items that begin

begin-transcribed : EachRowFollowsTranscript → (pt : ℕ) (transcript : List Carried) (v : View) → Agrees v → Begins v → HasTranscript pt transcript v → HasTranscript pt (transcript_begun pt v.scene v.items transcript) (after v Begin)
begin-transcribed rows pt transcript v a b t = by_items v.items refl
  where
    before : (terminal : Terminal) → slice_get v.scene.core.terminals pt ≡ Some terminal → FollowsTranscript pt transcript v.scene.core
    before terminal found =
        let none = none-owed pt v.scene.outside.moment v.calls b.idle.calls in
        subst (λ (l : List Carried). FollowsTranscript pt (l ++ transcript) v.scene.core) none.0 (t.follows terminal found none.1)

    by_items : (items : List RoundItem) → v.items ≡ items → HasTranscript pt (transcript_begun pt v.scene v.items transcript) (after v Begin)
    by_items [] e = no-true (sym (ap (may_begin v.scene) e) ∙ b.first)
    by_items (item ∷ rest) e =
        subst (λ l. HasTranscript pt (transcript_begun pt v.scene l transcript) (after (record v { items = l }) Begin)) (sym e) (record { follows = by_row })
      where
        Begun : Option Setup → Type 0
        Begun setup =
            (terminal : Terminal) → slice_get (row_in v.scene (λ known. row_of v.scene.outside.tills known item) setup).core.terminals pt ≡ Some terminal
            → cut_owed pt (row_in v.scene (λ known. row_of v.scene.outside.tills known item) setup).calls ≡ false
            → FollowsTranscript pt (command_owed pt v.scene.outside.moment (row_in v.scene (λ known. row_of v.scene.outside.tills known item) setup).calls ++ transcript_in pt v.scene item transcript setup)
            (row_in v.scene (λ known. row_of v.scene.outside.tills known item) setup).core

        by_row : Begun v.scene.setup
        by_row =
            let known = round-setup v a.run b.idle.round in
            subst Begun (sym known.setup_is) (λ terminal found no_cut.
            let there = there-before v.scene.core (row_of v.scene.outside.tills (known_in v.scene known.setup) item).core pt terminal (rows-settings v.scene.outside.tills (known_in v.scene known.setup) item) found in
            item-follows rows v.scene.outside.tills (known_in v.scene known.setup) item pt transcript terminal found (before there.0 there.1) no_cut)

-- ---- turns

-- the same is remembered, and with what is owed the same was sent
same-transcribed : (pt : ℕ) (old new : List Carried) (v w : View) → HasTranscript pt old v → w.scene.core ≡ v.scene.core
    → (cut_owed pt w.calls ≡ false → (cut_owed pt v.calls ≡ false) × (command_owed pt w.scene.outside.moment w.calls ++ new ≡ command_owed pt v.scene.outside.moment v.calls ++ old)) → HasTranscript pt new w
same-transcribed pt old new v w t core same = record {
  follows = λ terminal found no_cut.
      let s = same no_cut in
      subst (λ (l : List Carried). FollowsTranscript pt l w.scene.core) (sym s.1)
      (same-follows pt _ v.scene.core w.scene.core (ap (λ (c : Core). slice_get c.terminals pt) core)
      (t.follows terminal (ap (λ (c : Core). slice_get c.terminals pt) (sym core) ∙ found) s.0));
}

-- nothing was owed, and nothing is
quiet-transcribed : (pt : ℕ) (transcript : List Carried) (v w : View) → HasTranscript pt transcript v → w.scene.core ≡ v.scene.core → v.calls ≡ [] → w.calls ≡ [] → HasTranscript pt transcript w
quiet-transcribed pt transcript v w t core before none = same-transcribed pt transcript transcript v w t core (λ no_cut.
    let b = none-owed pt v.scene.outside.moment v.calls before in
    let n = none-owed pt w.scene.outside.moment w.calls none in
    (b.1, ap (λ l. l ++ transcript) (n.0 ∙ sym b.0)))

-- the first call was made, which owed the terminal nothing, and the later ones are owed
call-transcribed : (pt : ℕ) (transcript : List Carried) (v w : View) (call : OwedCall) → HasTranscript pt transcript v → w.scene.core ≡ v.scene.core → w.scene.outside.moment ≡ v.scene.outside.moment → first_call v.calls ≡ Some call
    → OwesNothing pt v.scene.outside.moment call → w.calls ≡ later v.calls → HasTranscript pt transcript w
call-transcribed pt transcript v w call t core moment next none rest = same-transcribed pt transcript transcript v w t core (λ no_cut.
    let b = next-owed pt v.scene.outside.moment v.calls call next none in
    (b.1 ∙ ap (cut_owed pt) (sym rest) ∙ no_cut, ap (λ l. l ++ transcript) (ap (λ m. command_owed pt m w.calls) moment ∙ ap (command_owed pt v.scene.outside.moment) rest ∙ sym b.0)))

-- an event of a link, which the last call has brought, and whose calls are the only ones then
link-transcribed : (pt : ℕ) (transcript : List Carried) (v w : View) (number : ℕ) (event : LinkEvent) (setup : Setup) (call : OwedCall) → HasTranscript pt transcript v → first_call v.calls ≡ Some call → later v.calls ≡ []
    → (command_to pt v.scene.outside.moment call ≡ []) → (number ≢ pt → cuts_terminal pt call ≡ false) → w.scene.core ≡ (link_row (known_in v.scene setup) number event).core
    → w.calls ≡ (link_row (known_in v.scene setup) number event).calls → w.scene.outside.moment ≡ v.scene.outside.moment → HasTranscript pt (if number == pt then [] else transcript) w
link-transcribed pt transcript v w number event setup call t next last none other core calls moment = record {
  follows = λ terminal found no_cut.
      let known : Known = known_in v.scene setup in
      let b = last-owed pt v.scene.outside.moment v.calls call next last in
      let there = ap (λ (c : Core). slice_get c.terminals pt) (sym core) ∙ found in
      let row = link_follows_at known terminal there (λ before found differs.
      subst (λ (l : List Carried). FollowsTranscript pt (l ++ transcript) v.scene.core) (b.0 ∙ none) (t.follows before found (b.1 ∙ other differs))) in
      subst (λ (l : List OwedCall). FollowsTranscript pt (command_owed pt w.scene.outside.moment l ++ (if number == pt then [] else transcript)) w.scene.core) (sym calls)
      (subst (λ m. FollowsTranscript pt (command_owed pt m (link_row known number event).calls ++ (if number == pt then [] else transcript)) w.scene.core) (sym moment)
      (same-follows pt _ (link_row known number event).core w.scene.core (ap (λ (c : Core). slice_get c.terminals pt) core) row));
}
  where
    link_follows_at : (known : Known) (terminal : Terminal) → slice_get (link_row known number event).core.terminals pt ≡ Some terminal
        → ((before : Terminal) → slice_get known.core.terminals pt ≡ Some before → number ≢ pt → FollowsTranscript pt transcript known.core) → RowFollows known pt (if number == pt then [] else transcript) (link_row known number event)
    link_follows_at known terminal found has =
        let before = there-before known.core (link_row known number event).core pt terminal (link-changes-alone known number event).settings found in
        link-follows known number event pt transcript terminal found (has before.0 before.1)

-- the row of an event of a link in a scene
pub made-at : (scene : Scene) (number : ℕ) (setup : Setup) → scene.setup ≡ Some setup → link_made_at scene number ≡ link_row (known_in scene setup) number LinkIsMade
made-at scene number setup is = ap (λ o. row_in scene (λ known. link_made known number) o) is

pub lost-at : (scene : Scene) (number : ℕ) (setup : Setup) → scene.setup ≡ Some setup → link_lost_at scene number ≡ link_row (known_in scene setup) number LinkIsLost
lost-at scene number setup is = ap (λ o. row_in scene (λ known. link_lost known number) o) is

then-none : (row other : Row) (more : List OwedCall) → row ≡ other → more ≡ [] → row.calls ++ more ≡ other.calls
then-none row other more is none = ap (λ l. row.calls ++ l) none ∙ append-nil row.calls ∙ ap (λ (r : Row). r.calls) is

-- a run begins, and owes calls on the disk
start-transcribed : (pt : ℕ) (v : View) (setup : Setup) → OwesDisk (after_turn v (Start setup)) → HasTranscript pt [] (after_turn v (Start setup))
start-transcribed pt v setup d = record {
  follows = λ terminal found no_cut.
      let one = image-there new_terminal setup.terminals pt terminal found in
      let none = disk-owed pt (after_turn v (Start setup)).scene.outside.moment (after_turn v (Start setup)).calls (d.disk refl) in
      subst (λ (l : List Carried). FollowsTranscript pt (l ++ []) (new_core setup)) (sym none.0) (new-follows setup pt one.0 one.1);
}

-- no terminal is remembered
nobody-transcribed : (pt : ℕ) (transcript : List Carried) (calls : List OwedCall) (w : View) → w.scene.core.terminals ≡ [] → IsTranscribed pt transcript calls w
nobody-transcribed pt transcript calls w none = record { follows = λ terminal found no_cut. absurd (nobody terminal (ap (λ l. slice_get l pt) (sym none) ∙ found)) }
  where
    nobody : (terminal : Terminal) → slice_get [] pt ≡ Some terminal → ⊥
    nobody terminal found = cc

-- a turn with which no call on the disk fails
turn-transcribed : (pt : ℕ) (transcript : List Carried) (v : View) (turn : Turn) → Agrees v → OwesDisk v → (v.scene.stage ≡ AtPoll → v.calls ≡ []) → AllowedTurn v turn → is_broken (after_turn v turn).scene.stage ≡ false → HasTranscript pt transcript v
    → HasTranscript pt (transcript_made pt v turn transcript) (after_turn v turn)
turn-transcribed pt transcript v (Start setup) a d polled ok clear t = start-transcribed pt v setup (course-disk v (Make (Start setup) ∷ []) d (ok, tt))
turn-transcribed pt transcript v OpenFailed a d polled ok clear t = nobody-transcribed pt [] [] (after_turn v OpenFailed) refl
turn-transcribed pt transcript v (Polled now) a d polled ok clear t = quiet-transcribed pt transcript v (after_turn v (Polled now)) t refl ok.calls refl
turn-transcribed pt transcript v (Opened till) a d polled ok clear t = quiet-transcribed pt transcript v (after_turn v (Opened till)) t refl (polled ok.0) refl
turn-transcribed pt transcript v (HeardTill till bytes) a d polled ok clear t = quiet-transcribed pt transcript v (after_turn v (HeardTill till bytes)) t refl (polled ok.0.polled) refl
turn-transcribed pt transcript v (Closed till) a d polled ok clear t = quiet-transcribed pt transcript v (after_turn v (Closed till)) t refl (polled ok.polled) refl
turn-transcribed pt transcript v (HeardPt number bytes) a d polled ok clear t = quiet-transcribed pt transcript v (after_turn v (HeardPt number bytes)) t refl (polled ok.0.polled) refl
turn-transcribed pt transcript v (Lost number) a d polled ok clear t = quiet-transcribed pt transcript v (after_turn v (Lost number)) t refl (polled ok.polled) refl
turn-transcribed pt transcript v Stopped a d polled ok clear t = quiet-transcribed pt transcript v (after_turn v Stopped) t refl (polled ok) refl
turn-transcribed pt transcript v (Linked number) a d polled ok clear t =
    let k = call-setup v (LinkPt number) a.run ok in
    let row = made-at v.scene number k.setup k.setup_is in
    let last = call-last v.calls (LinkPt number) (λ more. refl) ok a.ends in
    link-transcribed pt transcript v (after_turn v (Linked number)) number LinkIsMade k.setup (LinkPt number) t ok last refl (λ differs. refl) (ap (λ (r : Row). r.core) row) (then-none (link_made_at v.scene number) _ (later v.calls) row last) refl
turn-transcribed pt transcript v (LinkFailed number) a d polled ok clear t =
    let k = call-setup v (LinkPt number) a.run ok in
    let row = lost-at v.scene number k.setup k.setup_is in
    let last = call-last v.calls (LinkPt number) (λ more. refl) ok a.ends in
    link-transcribed pt transcript v (after_turn v (LinkFailed number)) number LinkIsLost k.setup (LinkPt number) t ok last refl (λ differs. refl) (ap (λ (r : Row). r.core) row) (then-none (link_lost_at v.scene number) _ [] row refl) refl
turn-transcribed pt transcript v (SentTill till bytes true) a d polled ok clear t = call-transcribed pt transcript v (after_turn v (SentTill till bytes true)) (SendTill till ok.0) t refl refl ok.1 (refl, refl) refl
turn-transcribed pt transcript v (SentTill till bytes false) a d polled ok clear t = same-transcribed pt transcript transcript v (after_turn v (SentTill till bytes false)) t refl (λ no_cut.
    let b = last-owed pt v.scene.outside.moment v.calls (SendTill till ok.0) ok.1 (call-last v.calls (SendTill till ok.0) (λ more. refl) ok.1 a.ends) in
    (b.1, ap (λ l. l ++ transcript) (sym b.0)))
turn-transcribed pt transcript v (SentPt number bytes true) a d polled ok clear t =
    same-transcribed pt transcript (command_next pt v.scene.outside.moment v.calls ++ transcript) v (after_turn v (SentPt number bytes true)) t refl (λ no_cut.
    (ap (cut_owed pt) (first-later v.calls (OwedSendPt number ok.0) ok.1) ∙ no_cut, sent-owed pt v.scene.outside.moment v.calls transcript))
turn-transcribed pt transcript v (SentPt number bytes false) a d polled ok clear t = same-transcribed pt transcript transcript v (after_turn v (SentPt number bytes false)) t refl (λ no_cut.
    let b = last-owed pt v.scene.outside.moment v.calls (OwedSendPt number ok.0) ok.1 (call-last v.calls (OwedSendPt number ok.0) (λ more. refl) ok.1 a.ends) in
    let other : (number == pt) ≡ false = sym (or-none (number == pt)) ∙ no_cut in
    (b.1, ap (λ l. l ++ transcript) (sym (b.0 ∙ ap (λ (test : Bool). if test then commanded v.scene.outside.moment ok.0 else []) other))))
turn-transcribed pt transcript v (CutTill till) a d polled ok clear t = record {
  follows = λ terminal found no_cut.
      let b = next-owed pt v.scene.outside.moment v.calls (OwedCutTill till) ok (refl, refl) in
      let before = there-before v.scene.core (core_without v.scene.core till) pt terminal (without-settings till v.scene.core.terminals) found in
      gone-follows pt till (command_owed pt v.scene.outside.moment (later v.calls) ++ transcript) v.scene.core
      (subst (λ (l : List Carried). FollowsTranscript pt (l ++ transcript) v.scene.core) b.0 (t.follows before.0 before.1 (b.1 ∙ no_cut)));
}
turn-transcribed pt transcript v (CutPt number) a d polled ok clear t =
    let k = call-setup v (OwedCutPt number) a.run ok in
    let row = lost-at v.scene number k.setup k.setup_is in
    let last = call-last v.calls (OwedCutPt number) (λ more. refl) ok a.ends in
    link-transcribed pt transcript v (after_turn v (CutPt number)) number LinkIsLost k.setup (OwedCutPt number) t ok last refl (λ differs. not-number number pt differs) (ap (λ (r : Row). r.core) row)
    (then-none (link_lost_at v.scene number) _ (later v.calls) row last) refl
turn-transcribed pt transcript v (Wrote offset bytes) a d polled ok clear t =
    call-transcribed pt transcript v (after_turn v (Wrote offset bytes)) ok.0 t refl refl ok.1 (written-owed pt v.scene.outside.moment ok.0 (Wrote offset bytes) ok.2) refl
turn-transcribed pt transcript v Synced a d polled ok clear t = call-transcribed pt transcript v (after_turn v Synced) Sync t refl refl ok (refl, refl) refl
turn-transcribed pt transcript v DiskFailed a d polled ok clear t = no-true (sym clear)
turn-transcribed pt transcript v (Crash file) a d polled ok clear t = nobody-transcribed pt [] [] (after_turn v (Crash file)) refl

-- a call on the disk has failed: what was owed is left, and the same is remembered
failed-transcribed : (pt : ℕ) (transcript : List Carried) (v : View) → HasTranscript pt transcript v → IsTranscribed pt transcript (owed_after v (Make DiskFailed)) (after_turn v DiskFailed)
failed-transcribed pt transcript v t = record { follows = t.follows }

-- ---- along a course

make-transcribed : (pt : ℕ) (transcript : List Carried) (calls : List OwedCall) (v : View) (turn : Turn) → Agrees v → OwesDisk v → IsOwing calls v → AllowedTurn v turn → IsTranscribed pt transcript calls v
    → IsTranscribed pt (transcript_made pt v turn transcript) (owed_after v (Make turn)) (after_turn v turn)
make-transcribed pt transcript calls v turn a d o ok t = by_clear (clear-turn v turn o.broken ok)
  where
    by_turn : is_broken v.scene.stage ≡ false → (turn ≡ DiskFailed) ⊎ (is_broken (after_turn v turn).scene.stage ≡ false) → IsTranscribed pt (transcript_made pt v turn transcript) (owed_after v (Make turn)) (after_turn v turn)
    by_turn clear (inl failed) =
        subst (λ made. IsTranscribed pt (transcript_made pt v made transcript) (owed_after v (Make made)) (after_turn v made)) (sym failed) (failed-transcribed pt transcript v (subst (λ l. IsTranscribed pt transcript l v) (o.clear clear) t))
    by_turn clear (inr lasts) =
        subst (λ l. IsTranscribed pt (transcript_made pt v turn transcript) l (after_turn v turn)) (sym (after-clear v (Make turn) lasts))
        (turn-transcribed pt transcript v turn a d o.polled ok lasts (subst (λ l. IsTranscribed pt transcript l v) (o.clear clear) t))

    by_clear : (is_broken v.scene.stage ≡ false) ⊎ ((file : List ℕ) × (turn ≡ Crash file)) → IsTranscribed pt (transcript_made pt v turn transcript) (owed_after v (Make turn)) (after_turn v turn)
    by_clear (inl clear) = by_turn clear (turn-clear v turn clear)
    by_clear (inr crash) =
        nobody-transcribed pt (transcript_made pt v turn transcript) (owed_after v (Make turn)) (after_turn v turn) (ap (λ made. (after_turn v made).scene.core.terminals) crash.1)

move-transcribed : EachRowFollowsTranscript → (pt : ℕ) (transcript : List Carried) (calls : List OwedCall) (v : View) (move : Move) → Agrees v → OwesDisk v → IsOwing calls v → Allowed v move → IsTranscribed pt transcript calls v
    → IsTranscribed pt (transcript_moved pt v move transcript) (owed_after v move) (after v move)
move-transcribed rows pt transcript calls v Begin a d o ok t =
    let clear = clear-where v.scene.stage is_round refl ok.idle.round in
    let lasts = ap is_broken (begin-stage v.scene v.items ∙ round-busy v.scene.stage ok.idle.round) in
    subst (λ l. IsTranscribed pt (transcript_begun pt v.scene v.items transcript) l (after v Begin)) (sym (after-clear v Begin lasts))
    (begin-transcribed rows pt transcript v a ok (subst (λ l. IsTranscribed pt transcript l v) (o.clear clear) t))
move-transcribed rows pt transcript calls v (Read as_read) a d o ok t =
    let clear = clear-where v.scene.stage is_round refl ok.idle.round in
    let lasts = ap is_broken (round-busy v.scene.stage ok.idle.round) in
    subst (λ l. IsTranscribed pt transcript l (after v (Read as_read))) (sym (after-clear v (Read as_read) lasts))
    (quiet-transcribed pt transcript v (after v (Read as_read)) (subst (λ l. IsTranscribed pt transcript l v) (o.clear clear) t) refl ok.idle.calls refl)
move-transcribed rows pt transcript calls v (Make turn) a d o ok t = make-transcribed pt transcript calls v turn a d o ok t

course-transcribed : EachRowFollowsTranscript → (pt : ℕ) (transcript : List Carried) (calls : List OwedCall) (v : View) (moves : List Move) → Agrees v → OwesDisk v → IsOwing calls v → IsCourse v moves → IsTranscribed pt transcript calls v
    → IsTranscribed pt (transcript_from pt v transcript moves) (owed_from v calls moves) (view_from v moves)
course-transcribed rows pt transcript calls v [] a d o c t = t
course-transcribed rows pt transcript calls v (move ∷ moves) a d o c t =
    course-transcribed rows pt (transcript_moved pt v move transcript) (owed_after v move) (after v move) moves (move-agrees v move a c.0) (course-disk v (move ∷ []) d (c.0, tt)) (move-owing calls v move o c.0) c.1
    (move-transcribed rows pt transcript calls v move a d o c.0 t)

pub logs-follow : EachRowFollowsTranscript → EachLogFollowsTranscript
logs-follow rows log v s pt terminal found no_cut =
    let t = course-transcribed rows pt [] [] at_first s.course first-agrees first-owes-disk first-owing s.lawful (nobody-transcribed pt [] [] at_first refl) in
    (subst (IsTranscribed pt (transcript_from pt at_first [] s.course) (owed_from at_first [] s.course)) s.view_is t).follows terminal found no_cut

-- where nothing is owed, and no call on the disk has failed
pub idle-follows : EachRowFollowsTranscript → (log : List Turn) (v : View) (s : Stands log v) (pt : ℕ) (terminal : Terminal) → slice_get v.scene.core.terminals pt ≡ Some terminal → is_broken v.scene.stage ≡ false → v.calls ≡ []
    → FollowsTranscript pt (transcript_of pt s.course) v.scene.core
idle-follows rows log v s pt terminal found clear calls =
    let none = none-owed pt v.scene.outside.moment (owed_at s.course) (clear-owes-calls log v s clear ∙ calls) in
    subst (λ (l : List Carried). FollowsTranscript pt (l ++ transcript_of pt s.course) v.scene.core) none.0 (logs-follow rows log v s pt terminal found none.1)

pub polls-follow : EachRowFollowsTranscript → EachPollFollowsTranscript
polls-follow rows log v s pt terminal may found = idle-follows rows log v s pt terminal found (clear-where v.scene.stage is_running refl may.running) may.calls

-- ---- the example

pub example-log-transcript : ExampleLogTranscript
unfolding decode_apdus decode_apdus_within decode_pt_message history
example-log-transcript = record {
  linked = refl;
  enquired = refl;
  standing = refl;
  cut = refl;
  owed = record { own = refl; other = refl; newest_first = refl; no_cut = refl; own_cut = refl; other_cut = refl; left = refl; none_made = refl };
}
