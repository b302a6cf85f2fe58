-- What a round has done of a payment, a reversal or an Abort: what is owed is done before the next poll may come, and so what begins is asked, what is stopped is sent the stop, and an end is said.
use Rattle.std.proofs.Common.{◌≡◌, ◌∙◌, ℕ, zero, suc, ◌+◌, Bool, true, false, List, [], ◌∷◌, ◌++◌, refl, sym, ap, subst, arith, inl, inr, append-nil}
use Rattle.std.proofs.lemmas.List.Elements.{All-head, All-tail}
use Rattle.std.proofs.lemmas.Option.{same_Some}
use Rattle.std.specs.Prelude.{All, ◌||◌, bytes_eq, if◌then◌else◌, not, slice_get, Option, Some, None, option_and_then, option_map}
use Rattle.gw_base.specs.declared.condition.Condition.{Condition}
use Rattle.gw_base.specs.declared.key.Key.{Key}
use Rattle.gw_base.specs.declared.setup.Setup.{Setup}
use Rattle.gw_site.specs.Outside.{is_connected}
use Rattle.gw_site.specs.Sorts.{AreOfRound, is_sort_of_round, sort_of}
use Rattle.gw_site.specs.declared.turn.Turn.{Turn}
use Rattle.gw_site.specs.declared.turn.Turn.TheVariants.{Start, OpenFailed, Polled, Opened, HeardTill, Closed, HeardPt, Lost, Stopped, Linked, LinkFailed, SentTill, SentPt, CutTill, CutPt, Wrote, Synced, DiskFailed, Crash}
use Rattle.sale_values.specs.declared.header.Header.{Header}
use Rattle.sale_values.specs.declared.request.Reference.{Reference}
use Rattle.sale_values.specs.declared.request.ReversalAsk.{ReversalAsk}
use Rattle.sale_values.specs.declared.request.SaleRequest.{SaleRequest}
use Rattle.sale_values.specs.declared.request.SaleRequest.TheVariants as requests
use Rattle.sale_values.specs.Key.{key_of}
use Rattle.sale_reply.specs.declared.reply.Told.{Told as ResultBody}
use Rattle.sale_reply.specs.declared.reply.Told.TheVariants.{PaymentApproved, PaymentDeclined, ReversalDeclined}
use Rattle.zvt_apdu.specs.Grammar.{ApduValue}
use Rattle.zvt_talk.specs.Talk.{TalkFacts}
use Rattle.zvt_talk.specs.TalkSteps.{may_send_stop}
use Rattle.zvt_talk.specs.declared.meaning.Heard.{Heard}
use Rattle.jrn_record.specs.Limits.{HasTillText, IsIntent, IsRecord}
use Rattle.jrn_record.specs.declared.records.Deal.{Deal}
use Rattle.jrn_record.specs.declared.records.Deal.TheVariants.{Payment, Reversal}
use Rattle.jrn_record.specs.declared.records.Intent.{Intent as TheIntent}
use Rattle.jrn_record.specs.declared.records.Outcome.{Outcome as TheOutcome}
use Rattle.jrn_record.specs.declared.records.Record.{Record}
use Rattle.jrn_record.specs.declared.records.Record.TheVariants.{Intent, Outcome, Settled}
use Rattle.gw_ledger.specs.declared.entry.Entry.{Entry as TheEntry}
use Rattle.gw_ledger.specs.declared.entry.Found.{Found}
use Rattle.gw_ledger.specs.declared.entry.Found.TheVariants.{Entry}
use Rattle.gw_ledger.specs.Accounts.{open_slot}
use Rattle.gw_ledger.specs.Fold.{AreFolded, found_of}
use Rattle.gw_ledger.specs.Slots.{as_intent, entry_at, intent_at}
use Rattle.xlate.specs.Reply.{entry_body, header_of, money_of, outcome_body, transaction_mark, with_texts}
use Rattle.gw_owes.specs.declared.terminal.Standing.TheVariants.{Ready}
use Rattle.gw_owes.specs.declared.terminal.Terminal.{Terminal}
use Rattle.gw_owes.specs.AbortLaws.{ServedIsToStop}
use Rattle.gw_owes.specs.Calls.{OwedCall, SendTill, SendPt, LinkPt, WriteBody, WriteGate, WriteFirstGate, Sync, write_turn, CutTill as OwedCutTill, CutPt as OwedCutPt}
use Rattle.gw_owes.specs.Core.{Core, Wait}
use Rattle.gw_owes.specs.Days.{is_day_served, named_serves_day, serves_day}
use Rattle.gw_owes.specs.Diagnosis.{NamedTerminal, named_from, named_terminal}
use Rattle.gw_owes.specs.Handling.{handle_row}
use Rattle.gw_owes.specs.Items.{RoundItem, Message, Asked, Handle, Serve}
use Rattle.gw_owes.specs.KeptReplies.{kept_reply}
use Rattle.gw_owes.specs.Laws.{ends_in_one}
use Rattle.gw_owes.specs.PaymentLaws.{ApprovalIsKept, BeginsThere, DeclineIsKept, EachAcceptedBegins, EachBegunIsServed, MeansAt, outcome_calls}
use Rattle.gw_owes.specs.Payments.{begins_asking, begins_in, begins_request, beginning_row, reversal_asking, serve_row}
use Rattle.gw_owes.specs.ReadAs.{IsReadAs, ReadAs, Request}
use Rattle.gw_owes.specs.RecordLaws.{AreRecordsOf, IsInOrder, IsServedOpen}
use Rattle.gw_owes.specs.Reply.{ReplyValue, Finished}
use Rattle.gw_owes.specs.Reversals.{original_of, reversal_intent}
use Rattle.gw_owes.specs.Row.{Known, Row, owing_where}
use Rattle.gw_owes.specs.Rows.{asked_row, row_of}
use Rattle.gw_owes.specs.Serving.{reply_to_outcome, staying, stops}
use Rattle.gw_owes.specs.Steps.{StepResult, Begins, is_beginning, step_result}
use Rattle.gw_owes.specs.WaitingLaws.{AreWaitsInOrder, IsWaitInOrder}
use Rattle.gw_owes.specs.Waits.{waiting_with}
use Rattle.gw_owes.specs.Stops.{serves_any, serves_key, stop_row, stops_key, wishes_stop, wishing}
use Rattle.gw_owes.specs.Terminals.{of_terminal, terminal_at}
use Rattle.gw_owes.proofs.ReadLemmas.{reads-one}
use Rattle.gw_owes.proofs.RecordLemmas.{entry-parts, open_entry_of, same-key-is}
use Rattle.gw_owes.proofs.WaitingListLemmas.{waits-under}
use Rattle.gw_owes.proofs.RowEndLemmas.{rows-end}
use Rattle.gw_rules.specs.Lawful.{MayPoll, AllowedTurn, first_call, first_message, may_begin, IsCourse, turns_of}
use Rattle.gw_rules.specs.Scene.{known_in, row_in}
use Rattle.gw_rules.specs.Stage.{AtPoll, Handling, busy, is_broken, is_looking, is_running}
use Rattle.gw_rules.specs.TranscriptLaws.{owed_after, owed_from}
use Rattle.gw_rules.specs.View.{View, Move, Begin, Read, Make, at_item, begin, begun, later, read_first, after, after_turn, view_from, at_first}
use Rattle.gw_rules.proofs.CutLemmas.{is_dead, dead-round, dead-running, dead-turn}
use Rattle.gw_rules.proofs.OwedLemmas.{call-last, calls-end-in-one, turn-ends}
use Rattle.gw_rules.proofs.OwingLemmas.{IsOwing, first-owing, move-owing}
use Rattle.gw_rules.proofs.RecordOrderLemmas.{between-items, log-ordered, waits-between-items}
use Rattle.gw_rules.proofs.RecordRowLemmas.{OrderLaws}
use Rattle.gw_rules.proofs.SetupLemmas.{HasSetup, setup-within-limits}
use Rattle.gw_rules.proofs.StageLemmas.{handling-not-polled, no-call, no-true}
use Rattle.gw_books.specs.ReversalLaws.{ReversalIsAsked, StopIsSent}
use Rattle.gw_books.specs.RoundLaws.{ApprovalIsSaid, BeginWith, ComesNext, DeclineIsSaid, EndsRound, IsKeptAndSaid, IsMadeIn, IsSending, OwedIsDone, PaymentIsAsked}

-- ---- the rest of a round

-- these moves lead from here to where the next poll may come
record Goes (v : View) (moves : List Move) : Type 0 where
  lawful : IsCourse v moves
  round : AreOfRound (turns_of moves)
  may_poll : MayPoll (view_from v moves)

goes-of : (log : List Turn) (v : View) (moves : List Move) → EndsRound log v moves → Goes v moves
goes-of log v moves ends = record { lawful = ends.lawful; round = ends.round; may_poll = ends.may_poll }

-- a run that has ended comes to no poll in its round
dead-end : {A : Type 0} (v : View) (moves : List Move) → is_dead v.scene.stage ≡ true → Goes v moves → A
dead-end v [] dead g = dead-running v.scene.stage dead g.may_poll.running
dead-end v (Begin ∷ moves) dead g = dead-round v.scene.stage dead g.lawful.0.idle.round
dead-end v (Read as_read ∷ moves) dead g = dead-round v.scene.stage dead g.lawful.0.idle.round
dead-end v (Make turn ∷ moves) dead g =
    dead-end (after_turn v turn) moves (dead-turn v turn dead g.lawful.0 g.round.0) (record { lawful = g.lawful.1; round = g.round.1; may_poll = g.may_poll })

none-first : {A : Type 0} (call : OwedCall) (calls : List OwedCall) → [] ≡ call ∷ calls → A
none-first call calls e = absurd (let n : [] ≡ call ∷ calls = e in cc)

none-item : {A : Type 0} (item : RoundItem) (items : List RoundItem) → [] ≡ item ∷ items → A
none-item item items e = absurd (let n : [] ≡ item ∷ items = e in cc)

-- ---- what is owed is done

-- a write is the outcome of its call
is-written : (call : OwedCall) (turn : Turn) → write_turn call ≡ Some turn → IsMadeIn call turn
is-written (SendTill till reply) turn e = absurd (let n : None ≡ Some turn = e in cc)
is-written (SendPt pt sending) turn e = absurd (let n : None ≡ Some turn = e in cc)
is-written (OwedCutTill till) turn e = absurd (let n : None ≡ Some turn = e in cc)
is-written (OwedCutPt pt) turn e = absurd (let n : None ≡ Some turn = e in cc)
is-written (LinkPt pt) turn e = absurd (let n : None ≡ Some turn = e in cc)
is-written (WriteBody slot the_record) turn e = e
is-written (WriteGate slot the_record) turn e = e
is-written WriteFirstGate turn e = e
is-written Sync turn e = absurd (let n : None ≡ Some turn = e in cc)

-- a whole send, and a part of one
whole-send : (bytes whole : List ℕ) → bytes ≡ whole → IsSending bytes whole true
whole-send bytes whole e = record { prefix = ([], sym e ∙ sym (append-nil bytes)); all = λ sent. e }

-- the first of these calls is made in this turn, with what follows in these turns
module _ (call : OwedCall) (calls : List OwedCall) (v : View) (is : v.calls ≡ call ∷ calls) (ends : ends_in_one v.calls ≡ true) (rest : List Turn) where
  -- it was the last one
  last-done : (turn : Turn) (made : OwedCall) → first_call v.calls ≡ Some made → IsMadeIn made turn → later v.calls ≡ [] → BeginWith (call ∷ calls) (turn ∷ rest)
  last-done turn made next is_made last =
      let same : call ≡ made = same_Some call made (sym (ap first_call is) ∙ next) in
      let none : calls ≡ [] = sym (ap later is) ∙ last in
      (turn, rest, refl, subst (λ c. IsMadeIn c turn) (sym same) is_made, subst (λ l. BeginWith l rest) (sym none) tt)

  -- others are owed after it
  first-made : (turn : Turn) (made : OwedCall) → first_call v.calls ≡ Some made → IsMadeIn made turn → BeginWith calls rest → BeginWith (call ∷ calls) (turn ∷ rest)
  first-made turn made next is_made more =
      let same : call ≡ made = same_Some call made (sym (ap first_call is) ∙ next) in
      (turn, rest, refl, subst (λ c. IsMadeIn c turn) (sym same) is_made, more)

  -- each turn of the round that may come is the outcome of this call, or the run has ended
  turn-done : (turn : Turn) → (v.scene.stage ≡ AtPoll → v.calls ≡ []) → AllowedTurn v turn → is_sort_of_round (sort_of turn) ≡ true
      → ((after_turn v turn).calls ≡ calls → BeginWith calls rest) → (is_dead (after_turn v turn).scene.stage ≡ true → BeginWith (call ∷ calls) (turn ∷ rest)) → BeginWith (call ∷ calls) (turn ∷ rest)
  turn-done (Start setup) polled ok e more dead = no-true e
  turn-done OpenFailed polled ok e more dead = no-true e
  turn-done (Polled now) polled ok e more dead = no-true e
  turn-done (Opened till) polled ok e more dead = none-first call calls (sym (polled ok.0) ∙ is)
  turn-done (HeardTill till bytes) polled ok e more dead = none-first call calls (sym (polled ok.0.polled) ∙ is)
  turn-done (Closed till) polled ok e more dead = none-first call calls (sym (polled ok.polled) ∙ is)
  turn-done (HeardPt pt bytes) polled ok e more dead = none-first call calls (sym (polled ok.0.polled) ∙ is)
  turn-done (Lost pt) polled ok e more dead = none-first call calls (sym (polled ok.polled) ∙ is)
  turn-done Stopped polled ok e more dead = none-first call calls (sym (polled ok) ∙ is)
  turn-done (Linked pt) polled ok e more dead = last-done (Linked pt) (LinkPt pt) ok (inl refl) (call-last v.calls (LinkPt pt) (λ l. refl) ok ends)
  turn-done (LinkFailed pt) polled ok e more dead = last-done (LinkFailed pt) (LinkPt pt) ok (inr refl) (call-last v.calls (LinkPt pt) (λ l. refl) ok ends)
  turn-done (SentTill till bytes true) polled ok e more dead =
      last-done (SentTill till bytes true) (SendTill till ok.0) ok.1 (bytes, true, refl, whole-send bytes _ ok.2) (call-last v.calls (SendTill till ok.0) (λ l. refl) ok.1 ends)
  turn-done (SentTill till bytes false) polled ok e more dead =
      last-done (SentTill till bytes false) (SendTill till ok.0) ok.1 (bytes, false, refl, record { prefix = ok.2; all = λ sent. no-true sent }) (call-last v.calls (SendTill till ok.0) (λ l. refl) ok.1 ends)
  turn-done (SentPt pt bytes true) polled ok e more dead =
      last-done (SentPt pt bytes true) (SendPt pt ok.0) ok.1 (bytes, true, refl, whole-send bytes _ ok.2) (call-last v.calls (SendPt pt ok.0) (λ l. refl) ok.1 ends)
  turn-done (SentPt pt bytes false) polled ok e more dead =
      last-done (SentPt pt bytes false) (SendPt pt ok.0) ok.1 (bytes, false, refl, record { prefix = ok.2; all = λ sent. no-true sent }) (call-last v.calls (SendPt pt ok.0) (λ l. refl) ok.1 ends)
  turn-done (CutTill till) polled ok e more dead = last-done (CutTill till) (OwedCutTill till) ok refl (call-last v.calls (OwedCutTill till) (λ l. refl) ok ends)
  turn-done (CutPt pt) polled ok e more dead = last-done (CutPt pt) (OwedCutPt pt) ok refl (call-last v.calls (OwedCutPt pt) (λ l. refl) ok ends)
  turn-done (Wrote offset bytes) polled ok e more dead = first-made (Wrote offset bytes) ok.0 ok.1 (is-written ok.0 (Wrote offset bytes) ok.2) (more (ap later is))
  turn-done Synced polled ok e more dead = first-made Synced Sync ok refl (more (ap later is))
  turn-done DiskFailed polled ok e more dead = dead refl
  turn-done (Crash file) polled ok e more dead = no-true e

-- what is owed is done in these moves
owed-done : (calls owed : List OwedCall) (v : View) (moves : List Move) → v.calls ≡ calls → ends_in_one v.calls ≡ true → IsOwing owed v → Goes v moves → BeginWith calls (turns_of moves)
owed-done [] owed v moves is ends o g = tt
owed-done (call ∷ calls) owed v [] is ends o g = none-first call calls (sym g.may_poll.calls ∙ is)
owed-done (call ∷ calls) owed v (Begin ∷ moves) is ends o g = none-first call calls (sym g.lawful.0.idle.calls ∙ is)
owed-done (call ∷ calls) owed v (Read as_read ∷ moves) is ends o g = none-first call calls (sym g.lawful.0.idle.calls ∙ is)
owed-done (call ∷ calls) owed v (Make turn ∷ moves) is ends o g =
    let after_goes : Goes (after_turn v turn) moves = record { lawful = g.lawful.1; round = g.round.1; may_poll = g.may_poll } in
    turn-done call calls v is ends (turns_of moves) turn o.polled g.lawful.0 g.round.0
    (λ same. owed-done calls (owed_after v (Make turn)) (after_turn v turn) moves same (turn-ends v turn ends g.lawful.0) (move-owing owed v (Make turn) o g.lawful.0) after_goes)
    (λ dead. dead-end (after_turn v turn) moves dead after_goes)

course-owing : (calls : List OwedCall) (v : View) (moves : List Move) → IsOwing calls v → IsCourse v moves → IsOwing (owed_from v calls moves) (view_from v moves)
course-owing calls v [] o c = o
course-owing calls v (move ∷ moves) o c = course-owing (owed_after v move) (after v move) moves (move-owing calls v move o c.0) c.1

pub owed-is-done : OwedIsDone
owed-is-done log v moves ends =
    let owing = subst (IsOwing (owed_from at_first [] ends.before.course)) ends.before.view_is (course-owing [] at_first ends.before.course first-owing ends.before.lawful) in
    owed-done v.calls (owed_from at_first [] ends.before.course) v moves refl (calls-end-in-one log v ends.before) owing (goes-of log v moves ends)

-- ---- the next item

-- where an item waits that a poll has brought, no turn comes
no-turn : {A : Type 0} (v : View) (turn : Turn) (item : RoundItem) (rest : List RoundItem) → v.scene.stage ≡ Handling → v.calls ≡ [] → v.items ≡ item ∷ rest → AllowedTurn v turn → is_sort_of_round (sort_of turn) ≡ true → A
no-turn v (Start setup) item rest stage calls items ok e = no-true e
no-turn v OpenFailed item rest stage calls items ok e = no-true e
no-turn v (Polled now) item rest stage calls items ok e = no-true e
no-turn v (Opened till) item rest stage calls items ok e = handling-not-polled (sym stage ∙ ok.0)
no-turn v (HeardTill till bytes) item rest stage calls items ok e = handling-not-polled (sym stage ∙ ok.0.polled)
no-turn v (Closed till) item rest stage calls items ok e = handling-not-polled (sym stage ∙ ok.polled)
no-turn v (HeardPt pt bytes) item rest stage calls items ok e = handling-not-polled (sym stage ∙ ok.0.polled)
no-turn v (Lost pt) item rest stage calls items ok e = handling-not-polled (sym stage ∙ ok.polled)
no-turn v Stopped item rest stage calls items ok e = handling-not-polled (sym stage ∙ ok)
no-turn v (Linked pt) item rest stage calls items ok e = no-call v.calls _ calls ok
no-turn v (LinkFailed pt) item rest stage calls items ok e = no-call v.calls _ calls ok
no-turn v (SentTill till bytes true) item rest stage calls items ok e = no-call v.calls _ calls ok.1
no-turn v (SentTill till bytes false) item rest stage calls items ok e = no-call v.calls _ calls ok.1
no-turn v (SentPt pt bytes true) item rest stage calls items ok e = no-call v.calls _ calls ok.1
no-turn v (SentPt pt bytes false) item rest stage calls items ok e = no-call v.calls _ calls ok.1
no-turn v (CutTill till) item rest stage calls items ok e = no-call v.calls _ calls ok
no-turn v (CutPt pt) item rest stage calls items ok e = no-call v.calls _ calls ok
no-turn v (Wrote offset bytes) item rest stage calls items ok e = no-call v.calls _ calls ok.1
no-turn v Synced item rest stage calls items ok e = no-call v.calls _ calls ok
no-turn v DiskFailed item rest stage calls items (inl next) e = no-call v.calls _ calls next
no-turn v DiskFailed item rest stage calls items (inr looking) e = no-true (sym (ap is_looking stage) ∙ looking)
no-turn v (Crash file) item rest stage calls items ok e = no-true e

-- the moves go on from this view, with the same turns
record GoesOn (moves : List Move) (w : View) : Type 0 where
  more : List Move
  turns_are : turns_of moves ≡ turns_of more
  goes : Goes w more

-- the item's row, in this scene
abbrev next_row : View → Setup → RoundItem → Row
next_row v setup item = row_of v.scene.outside.tills (known_in v.scene setup) item

-- the item has begun
abbrev next_begun : View → Setup → RoundItem → List RoundItem → View
next_begun v setup item rest = begun v.scene (next_row v setup item) rest

-- the item that comes next begins, where it is no message that is read first
item-begins : (v : View) (setup : Setup) (item : RoundItem) (moves : List Move) → (n : ComesNext v setup item) → may_begin v.scene (item ∷ n.rest) ≡ true → Goes v moves → GoesOn moves (next_begun v setup item n.rest)
item-begins v setup item [] n may g = none-item item n.rest (sym g.may_poll.items ∙ n.items)
item-begins v setup item (Begin ∷ moves) n may g =
    let is : after v Begin ≡ next_begun v setup item n.rest =
    ap (λ items. begin v.scene items) n.items ∙ ap (λ (s : Option Setup). begun v.scene (row_in v.scene (λ known. row_of v.scene.outside.tills known item) s) n.rest) n.setup_is in
    record {
      more = moves;
      turns_are = refl;
      goes = record { lawful = subst (λ w. IsCourse w moves) is g.lawful.1; round = g.round; may_poll = subst (λ w. MayPoll (view_from w moves)) is g.may_poll };
    }
item-begins v setup item (Read as_read ∷ moves) n may g =
    absurd (let e : true ≡ false = sym may ∙ sym (ap (may_begin v.scene) n.items) ∙ g.lawful.0.waits in cc)
item-begins v setup item (Make turn ∷ moves) n may g = no-turn v turn item n.rest n.stage n.calls n.items g.lawful.0 g.round.0

-- what it owes is done
item-done : (v : View) (setup : Setup) (item : RoundItem) (moves : List Move) → (n : ComesNext v setup item) → may_begin v.scene (item ∷ n.rest) ≡ true → Goes v moves → BeginWith (next_row v setup item).calls (turns_of moves)
item-done v setup item moves n may g =
    let on = item-begins v setup item moves n may g in
    let w : View = next_begun v setup item n.rest in
    let at : w.scene.stage ≡ Handling = ap busy n.stage in
    let owing : IsOwing w.calls w = record { clear = λ e. refl; broken = λ e. no-true (sym (ap is_broken at) ∙ e); polled = λ e. handling-not-polled (sym at ∙ e) } in
    subst (BeginWith (next_row v setup item).calls) (sym on.turns_are) (owed-done w.calls w.calls w on.more refl (rows-end v.scene.outside.tills (known_in v.scene setup) item) owing on.goes)

-- ---- a message that is read

-- the message was read
abbrev read_view : View → ℕ → ReadAs → List RoundItem → View
read_view v till as_read rest = record { scene = at_item v.scene; calls = []; items = Asked till as_read ∷ rest }

record GoesRead (bytes : List ℕ) (v : View) (till : ℕ) (rest : List RoundItem) (moves : List Move) : Type 0 where
  as_read : ReadAs
  reads : IsReadAs bytes as_read
  on : GoesOn moves (read_view v till as_read rest)

-- a message of a till that is there is read before anything else
message-read : (v : View) (setup : Setup) (till : ℕ) (bytes : List ℕ) (moves : List Move) → (n : ComesNext v setup (Message till bytes)) → is_connected v.scene.outside.tills till ≡ true → Goes v moves → GoesRead bytes v till n.rest moves
message-read v setup till bytes [] n there g = none-item (Message till bytes) n.rest (sym g.may_poll.items ∙ n.items)
message-read v setup till bytes (Begin ∷ moves) n there g =
    absurd (let e : false ≡ true = sym (ap not there) ∙ sym (ap (may_begin v.scene) n.items) ∙ g.lawful.0.first in cc)
message-read v setup till bytes (Read as_read ∷ moves) n there g =
    let is : after v (Read as_read) ≡ read_view v till as_read n.rest = ap (λ items. record { scene = at_item v.scene; calls = []; items = read_first as_read items }) n.items in
    let same : bytes ≡ g.lawful.0.bytes = same_Some bytes g.lawful.0.bytes (sym (ap first_message n.items) ∙ g.lawful.0.message) in
    record {
      as_read = as_read;
      reads = subst (λ b. IsReadAs b as_read) (sym same) g.lawful.0.reads;
      on = record {
        more = moves;
        turns_are = refl;
        goes = record { lawful = subst (λ w. IsCourse w moves) is g.lawful.1; round = g.round; may_poll = subst (λ w. MayPoll (view_from w moves)) is g.may_poll };
      };
    }
message-read v setup till bytes (Make turn ∷ moves) n there g = no-turn v turn (Message till bytes) n.rest n.stage n.calls n.items g.lawful.0 g.round.0

-- ---- a request is served

record IsThere (from : ℕ) (terminals : List Terminal) (named : NamedTerminal) : Type 0 where
  at : ℕ
  number_is : named.number ≡ from + at
  found : slice_get terminals at ≡ Some named.terminal

-- the terminal that a POIID names is that of its number
named-there : (poi : List ℕ) (from : ℕ) (terminals : List Terminal) (named : NamedTerminal) → named_from from poi terminals ≡ Some named → IsThere from terminals named
named-there poi from [] named is = absurd (let n : None ≡ Some named = is in cc)
named-there poi from (terminal ∷ terminals) named is = by-test (bytes_eq terminal.pt.poi poi) is (λ later. named-there poi (from + 1) terminals named later)
  where
    by-test : (b : Bool) → (if b then Some (record { number = from; terminal = terminal }) else named_from (from + 1) poi terminals) ≡ Some named
        → (named_from (from + 1) poi terminals ≡ Some named → IsThere (from + 1) terminals named) → IsThere from (terminal ∷ terminals) named
    by-test true here more =
        let is_it : record { number = from; terminal = terminal } ≡ named = same_Some (record { number = from; terminal = terminal }) named here in
        record { at = 0; number_is = sym (ap (λ (n : NamedTerminal). n.number) is_it) ∙ omega arith; found = ap (λ (n : NamedTerminal). Some n.terminal) is_it }
    by-test false later more =
        let rest = more later in
        let number_is = rest.number_is in
        record { at = suc rest.at; number_is = omega arith; found = rest.found }

named-at : (poi : List ℕ) (terminals : List Terminal) (named : NamedTerminal) → named_from 0 poi terminals ≡ Some named → slice_get terminals named.number ≡ Some named.terminal
named-at poi terminals named is =
    let there = named-there poi 0 terminals named is in
    let number_is = there.number_is in
    let at : named.number ≡ there.at = omega arith in
    ap (slice_get terminals) at ∙ there.found

module _ (v : View) (setup : Setup) (till : ℕ) (header : Header) (request : SaleRequest) (number : ℕ) where
  abbrev asked : ReadAs
  asked = Request header request

  abbrev known : Known
  known = known_in v.scene setup

  abbrev served : RoundItem
  served = Serve number till header request

  -- once it is read, it begins, and then it is served
  asked-on : (bytes : List ℕ) (moves : List Move) → (next : ComesNext v setup (Message till bytes)) → is_connected v.scene.outside.tills till ≡ true → BeginsThere till header request number (row_of v.scene.outside.tills known (Asked till asked))
      → GoesOn moves (read_view v till asked next.rest) → BeginWith (row_of v.scene.outside.tills known served).calls (turns_of moves)
  asked-on bytes moves next there b on =
      let first : View = read_view v till asked next.rest in
      let comes : ComesNext first setup (Asked till asked) = record { setup_is = next.setup_is; stage = ap busy next.stage; calls = refl; rest = next.rest; items = refl } in
      let second : View = next_begun first setup (Asked till asked) next.rest in
      let on_then = item-begins first setup (Asked till asked) on.more comes refl on.goes in
      let comes_then : ComesNext second setup served =
      record { setup_is = next.setup_is; stage = ap (λ s. busy (busy s)) next.stage; calls = b.no_reply; rest = next.rest; items = ap (λ l. l ++ next.rest) b.items_are } in
      let done = item-done second setup served on_then.more comes_then refl on_then.goes in
      let core_is : (row_of v.scene.outside.tills known (Asked till asked)).core ≡ v.scene.core = ap (λ (test : Bool). (owing_where test known (asked_row known till asked)).core) there in
      let same : known_in second.scene setup ≡ known = ap (λ (c : Core). record { setup = setup; core = c; kept = v.scene.kept; moment = v.scene.outside.moment }) core_is in
      subst (λ (k : Known). BeginWith (row_of v.scene.outside.tills k served).calls (turns_of moves)) same (subst (BeginWith (next_row second setup served).calls) (sym (on.turns_are ∙ on_then.turns_are)) done)

-- a request of a till that is there, which begins at a terminal, is served there before the next poll
request-is-served : (log : List Turn) (v : View) (moves : List Move) (setup : Setup) (till : ℕ) (bytes : List ℕ) (header : Header) (request : SaleRequest) (number : ℕ) → EndsRound log v moves → ComesNext v setup (Message till bytes) → is_connected v.scene.outside.tills till ≡ true
    → IsReadAs bytes (Request header request) → BeginsThere till header request number (row_of v.scene.outside.tills (known_in v.scene setup) (Asked till (Request header request)))
    → BeginWith (row_of v.scene.outside.tills (known_in v.scene setup) (Serve number till header request)).calls (turns_of moves)
request-is-served log v moves setup till bytes header request number ends next there reads begins =
    let r = message-read v setup till bytes moves next there (goes-of log v moves ends) in
    let one : r.as_read ≡ Request header request = reads-one bytes r.as_read (Request header request) r.reads reads in
    asked-on v setup till header request number bytes moves next there begins (subst (λ (as_read : ReadAs). GoesOn moves (read_view v till as_read next.rest)) one r.on)

pub payment-is-asked : EachAcceptedBegins → EachBegunIsServed → PaymentIsAsked
payment-is-asked begins serves log v moves setup till bytes header payment named last ends next there reads named_is ready result =
    let known : Known = known_in v.scene setup in
    let b = begins v.scene.outside.tills known till header (requests.Payment payment) named there named_is refl result in
    let s = serves v.scene.outside.tills known till header payment named.number named.terminal last (named-at header.poi v.scene.core.terminals named named_is) ready result in
    record {
      intent = s.intent;
      says = s.says;
      done = subst (λ calls. BeginWith calls (turns_of moves)) s.goes_on.calls_are (request-is-served log v moves setup till bytes header (requests.Payment payment) named.number ends next there reads b);
    }

-- what a reversal owes that begins
reversal-row : (known : Known) (number till : ℕ) (header : Header) (reversal : ReversalAsk) (terminal : Terminal) (last : ℕ) (original : TheEntry) → terminal_at known number ≡ Some terminal → terminal.standing ≡ Ready last
    → step_result known header (requests.Reversal reversal) (Some (record { number = number; terminal = terminal })) ≡ Begins → original_of known.kept header.poi reversal ≡ Some original
    → serve_row known number till header (requests.Reversal reversal) ≡ beginning_row known number till terminal last (reversal_intent header original last known.moment) (Some original)
reversal-row known number till header reversal terminal last original found ready result named =
    ap (of_terminal known (begins_request known number till header (requests.Reversal reversal))) found
    ∙ ap (λ (given : StepResult). owing_where (is_beginning given) known (begins_in known number till header (requests.Reversal reversal) terminal terminal.standing)) result
    ∙ ap (begins_in known number till header (requests.Reversal reversal) terminal) ready ∙ ap (λ (found : Option TheEntry). begins_asking known number till terminal last (option_map (reversal_asking known header last) found)) named

pub reversal-is-asked : EachAcceptedBegins → ReversalIsAsked
reversal-is-asked begins log v moves setup till bytes header reversal original named last ends next there reads named_is ready result original_is =
    let known : Known = known_in v.scene setup in
    let b = begins v.scene.outside.tills known till header (requests.Reversal reversal) named there named_is refl result in
    let row = reversal-row known named.number till header reversal named.terminal last original (named-at header.poi v.scene.core.terminals named named_is) ready result original_is in
    subst (λ (r : Row). BeginWith r.calls (turns_of moves)) row (request-is-served log v moves setup till bytes header (requests.Reversal reversal) named.number ends next there reads b)

-- what an Abort owes of what is served, whose dialogue is begun, and in which no stop was sent
sent-row : (known : Known) (number : ℕ) (header : Header) (reference : Reference) (terminal : Terminal) (talk : TalkFacts) → terminal_at known number ≡ Some terminal → serves_key known.kept (key_of header reference) terminal ≡ true
    → terminal.talk ≡ Some talk → may_send_stop talk.phase ≡ true → stop_row known number header reference ≡ stops known number (wishing terminal talk)
sent-row known number header reference terminal talk found serves talk_is may =
    ap (of_terminal known (stops_key known number (key_of header reference))) found ∙ ap (λ (test : Bool). owing_where test known (wishes_stop known number terminal terminal.talk)) serves ∙ ap (wishes_stop known number terminal) talk_is
    ∙ ap (λ (test : Bool). if test then stops known number (wishing terminal talk) else staying known number (wishing terminal talk)) may

-- what a terminal serves under a key doesn't wait
served-waits-not : (known : Known) (key : Key) (named : NamedTerminal) → AreWaitsInOrder known → named_terminal known.core key.poi ≡ Some named → serves_key known.kept key named.terminal ≡ true → waiting_with key known.core.waits ≡ None
served-waits-not known key named waits named_is serves = by-waiting (waiting_with key known.core.waits) refl
  where
    serves-not : (wait : Wait) → IsWaitInOrder known wait → key ≡ wait.key → ⊥
    serves-not wait one same =
        let unknown : found_of known.kept key ≡ None = ap (found_of known.kept) same ∙ one.unknown in
        let no_day : serves_day key named.terminal.standing ≡ false = sym (ap (named_serves_day key) named_is) ∙ (ap (is_day_served known.core) same ∙ one.no_day) in
        no-true (sym (ap (λ (found : Option Found). serves_any named.terminal.standing found || serves_day key named.terminal.standing) unknown ∙ no_day) ∙ serves)

    by-waiting : (found : Option Wait) → waiting_with key known.core.waits ≡ found → waiting_with key known.core.waits ≡ None
    by-waiting None is = is
    by-waiting (Some wait) is =
        let there = waits-under key known.core.waits wait is in
        absurd (serves-not wait (waits.each there.place wait there.there) (same-key-is key wait.key there.same))

pub stop-is-sent : OrderLaws → ServedIsToStop → StopIsSent
stop-is-sent laws stopped log v moves setup till bytes header reference named talk ends next there reads named_is serves talk_is may =
    let known : Known = known_in v.scene setup in
    let k : HasSetup v.scene = record { setup = setup; setup_is = next.setup_is; within = setup-within-limits log v setup ends.before next.setup_is } in
    let waits : AreWaitsInOrder known = waits-between-items log v (log-ordered laws log v ends.before) k (ap is_running next.stage) next.calls in
    let b = stopped v.scene.outside.tills known till header reference named there (served-waits-not known (key_of header reference) named waits named_is serves) named_is serves in
    let row = sent-row known named.number header reference named.terminal talk (named-at (key_of header reference).poi v.scene.core.terminals named named_is) serves talk_is may in
    subst (λ (r : Row). BeginWith r.calls (turns_of moves)) row (request-is-served log v moves setup till bytes header (requests.Abort reference) named.number ends next there reads (record { items_are = b.0; no_reply = b.1 }))

-- ---- the end of a payment or a reversal is said

-- the entry of what is served
served-entry : (kept : List Record) (poi : List ℕ) (last slot : ℕ) → (has : IsServedOpen kept poi last slot) → entry_at kept slot ≡ Some (open_entry_of slot has.intent)
served-entry kept poi last slot has = by-slot (open_slot kept poi) has.is_open
  where
    by-slot : (found : Option ℕ) → option_and_then (entry_at kept) found ≡ Some (open_entry_of slot has.intent) → entry_at kept slot ≡ Some (open_entry_of slot has.intent)
    by-slot None there = absurd (let n : None ≡ Some (open_entry_of slot has.intent) = there in cc)
    by-slot (Some at) there = ap (entry_at kept) (entry-parts kept at (open_entry_of slot has.intent) there).0 ∙ there

all-there : {A : Type 0} (P : A → Type 0) (all : List A) (at : ℕ) (one : A) → All P all → slice_get all at ≡ Some one → P one
all-there P [] at one each found = absurd cc
all-there P (first ∷ rest) zero one each found = subst P (same_Some first one found) (All-head P first rest each)
all-there P (first ∷ rest) (suc at) one each found = all-there P rest at one (All-tail P first rest each) found

-- an Intent of folded records lies within its limits
intent-limits : (kept : List Record) (slot : ℕ) (intent : TheIntent) → AreFolded kept → intent_at kept slot ≡ Some intent → IsIntent intent
intent-limits kept slot intent folded is = by-record (slice_get kept slot) refl is
  where
    by-record : (one : Option Record) → slice_get kept slot ≡ one → option_and_then as_intent one ≡ Some intent → IsIntent intent
    by-record None at there = absurd (let n : None ≡ Some intent = there in cc)
    by-record (Some (Intent other)) at there = subst IsIntent (same_Some other intent there) (all-there IsRecord kept slot (Intent other) folded.within at)
    by-record (Some (Outcome outcome)) at there = absurd (let n : None ≡ Some intent = there in cc)
    by-record (Some (Settled settled)) at there = absurd (let n : None ≡ Some intent = there in cc)

-- the till's texts of a payment are there
record HasTexts (intent : TheIntent) : Type 0 where
  transaction : List ℕ
  transaction_is : intent.transaction ≡ Some transaction
  stamp : List ℕ
  stamp_is : intent.stamp ≡ Some stamp

texts-of : (intent : TheIntent) → IsIntent intent → intent.what ≡ Payment → HasTexts intent
texts-of intent within what =
    by-texts intent.transaction intent.stamp refl refl (subst (λ (w : Deal). HasTillText w 80 intent.transaction) what within.transaction) (subst (λ (w : Deal). HasTillText w 35 intent.stamp) what within.stamp)
  where
    by-texts : (transaction stamp : Option (List ℕ)) → intent.transaction ≡ transaction → intent.stamp ≡ stamp → HasTillText Payment 80 transaction → HasTillText Payment 35 stamp → HasTexts intent
    by-texts None stamp t s has more = absurd has
    by-texts (Some transaction) None t s has more = absurd more
    by-texts (Some transaction) (Some stamp) t s has more = record { transaction = transaction; transaction_is = t; stamp = stamp; stamp_is = s }

texts-body : (intent : TheIntent) (make : List ℕ → List ℕ → ResultBody) → (t : HasTexts intent) → with_texts intent make ≡ Some (make t.transaction t.stamp)
texts-body intent make t = ap (option_and_then (λ transaction. option_map (make transaction) intent.stamp)) t.transaction_is ∙ ap (option_map (make t.transaction)) t.stamp_is

-- the body of the reply that the till is sent
record HasBody (intent : TheIntent) (outcome : TheOutcome) : Type 0 where
  body : ResultBody
  body_is : outcome_body (open_entry_of outcome.slot intent) outcome ≡ Some body

approved-body : (intent : TheIntent) (outcome : TheOutcome) → IsIntent intent → outcome.approved ≡ true → HasBody intent outcome
approved-body intent outcome within approved = by-what intent.what refl
  where
    by-what : (what : Deal) → intent.what ≡ what → HasBody intent outcome
    by-what Payment is =
        let texts : HasTexts intent = texts-of intent within is in
        record {
          body = _;
          body_is = ap (λ (w : Deal). entry_body w outcome.approved outcome.slot intent outcome) is ∙ ap (λ (b : Bool). entry_body Payment b outcome.slot intent outcome) approved
              ∙ texts-body intent (λ transaction stamp. PaymentApproved transaction stamp (transaction_mark outcome.slot outcome) intent.amount (money_of intent outcome)) texts;
        }
    by-what Reversal is = record {
      body = _;
      body_is = ap (λ (w : Deal). entry_body w outcome.approved outcome.slot intent outcome) is ∙ ap (λ (b : Bool). entry_body Reversal b outcome.slot intent outcome) approved;
    }

declined-body : (intent : TheIntent) (outcome : TheOutcome) (reason : Condition) → IsIntent intent → outcome.approved ≡ false → outcome.condition ≡ Some reason → HasBody intent outcome
declined-body intent outcome reason within declined condition = by-what intent.what refl
  where
    by-what : (what : Deal) → intent.what ≡ what → HasBody intent outcome
    by-what Payment is =
        let texts : HasTexts intent = texts-of intent within is in
        record {
          body = _;
          body_is = ap (λ (w : Deal). entry_body w outcome.approved outcome.slot intent outcome) is ∙ ap (λ (b : Bool). entry_body Payment b outcome.slot intent outcome) declined
              ∙ ap (option_and_then (λ stated. with_texts intent (λ transaction stamp. PaymentDeclined transaction stamp (transaction_mark outcome.slot outcome) stated))) condition
              ∙ texts-body intent (λ transaction stamp. PaymentDeclined transaction stamp (transaction_mark outcome.slot outcome) reason) texts;
        }
    by-what Reversal is = record {
      body = _;
      body_is = ap (λ (w : Deal). entry_body w outcome.approved outcome.slot intent outcome) is ∙ ap (λ (b : Bool). entry_body Reversal b outcome.slot intent outcome) declined
          ∙ ap (option_and_then (λ stated. Some (ReversalDeclined (transaction_mark outcome.slot outcome) stated))) condition;
    }

-- an Outcome that a message of a terminal brings is kept, and its reply said
pub outcome-is-said : (log : List Turn) (v : View) (moves : List Move) (setup : Setup) (number : ℕ) (apdu : ApduValue) (terminal : Terminal) (outcome : TheOutcome) (reply : ReplyValue) → EndsRound log v moves
    → ComesNext v setup (Handle number apdu) → (handle_row (known_in v.scene setup) number apdu).calls ≡ outcome_calls (known_in v.scene setup) terminal outcome → reply_to_outcome v.scene.kept outcome.slot outcome ≡ Some reply
    → IsKeptAndSaid v setup terminal outcome (turns_of moves)
outcome-is-said log v moves setup number apdu terminal outcome reply ends next calls replies = record {
  reply = reply;
  reply_is = replies;
  done = subst (λ c. BeginWith c (turns_of moves)) calls (item-done v setup (Handle number apdu) moves next refl (goes-of log v moves ends));
}

-- what a message of a terminal ends is kept and said
end-is-said : OrderLaws → (log : List Turn) (v : View) (moves : List Move) (setup : Setup) (number : ℕ) (apdu : ApduValue) (terminal : Terminal) (last : ℕ) (meant : Heard) (outcome : TheOutcome) → EndsRound log v moves → ComesNext v setup (Handle number apdu)
    → MeansAt (known_in v.scene setup) number apdu terminal outcome.slot last meant → (handle_row (known_in v.scene setup) number apdu).calls ≡ outcome_calls (known_in v.scene setup) terminal outcome
    → ((intent : TheIntent) → IsIntent intent → HasBody intent outcome) → IsKeptAndSaid v setup terminal outcome (turns_of moves)
end-is-said laws log v moves setup number apdu terminal last meant outcome ends next means calls bodies =
    let k : HasSetup v.scene = record { setup = setup; setup_is = next.setup_is; within = setup-within-limits log v setup ends.before next.setup_is } in
    let order : IsInOrder (known_in v.scene setup) = between-items log v (log-ordered laws log v ends.before) k (ap is_running next.stage) next.calls in
    let has : IsServedOpen v.scene.kept terminal.pt.poi last outcome.slot = subst (AreRecordsOf v.scene.kept terminal.pt.poi) means.standing_is (order.terminals number terminal means.found).records in
    let there : entry_at v.scene.kept outcome.slot ≡ Some (open_entry_of outcome.slot has.intent) = served-entry v.scene.kept terminal.pt.poi last outcome.slot has in
    let within : IsIntent has.intent = intent-limits v.scene.kept outcome.slot has.intent order.folded (entry-parts v.scene.kept outcome.slot (open_entry_of outcome.slot has.intent) there).1 in
    let said : HasBody has.intent outcome = bodies has.intent within in
    let ended : TheEntry = record (open_entry_of outcome.slot has.intent) { result = Some outcome } in
    outcome-is-said log v moves setup number apdu terminal outcome (Finished (header_of (Entry ended)) said.body) ends next calls
    (ap (option_and_then (λ (entry : TheEntry). kept_reply (Entry (record entry { result = Some outcome })))) there ∙ ap (option_map (Finished (header_of (Entry ended)))) said.body_is)

pub approval-is-said : OrderLaws → ApprovalIsKept → ApprovalIsSaid
approval-is-said laws kept log v moves setup number apdu terminal slot last figures ends next means above =
    end-is-said laws log v moves setup number apdu terminal last _ _ ends next means (kept (known_in v.scene setup) number apdu terminal slot last figures means above).calls_are (λ intent within. approved-body intent _ within refl)

pub decline-is-said : OrderLaws → DeclineIsKept → DeclineIsSaid
decline-is-said laws kept log v moves setup number apdu terminal slot last result_code reported ends next means =
    end-is-said laws log v moves setup number apdu terminal last _ _ ends next means (kept (known_in v.scene setup) number apdu terminal slot last result_code reported means).calls_are
    (λ intent within. declined-body intent _ _ within refl refl)
