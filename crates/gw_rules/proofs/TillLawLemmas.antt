-- Along each lawful course the till of what a terminal serves is there, and so is each that is owed anything at once.
use Rattle.std.proofs.Common.{◌≡◌, ◌≢◌, ℕ, zero, suc, List, [], ◌∷◌, ◌++◌, refl, sym, ◌∙◌, ap, subst, true, false, inl, inr}
use Rattle.std.proofs.lemmas.Bool.{and_parts}
use Rattle.std.specs.Prelude.{Bool, ◌⊎◌, ◌+◌, ◌==◌, ◌&&◌, not, nat_lt, if◌then◌else◌, map, length, slice_get, Option, Some, None}
use Rattle.std.specs.List.{flat_map}
use Rattle.gw_base.specs.declared.setup.Pt.{Pt}
use Rattle.gw_base.specs.declared.setup.Setup.{Setup}
use Rattle.gw_site.specs.Outside.{Connection, Outside, is_connected, without, hears, heard_on, new_connection}
use Rattle.gw_site.specs.declared.turn.Turn.{Turn}
use Rattle.gw_site.specs.declared.turn.Turn.TheVariants.{Start, OpenFailed, Polled, Opened, HeardTill, Closed, HeardPt, Lost, Stopped, Linked, LinkFailed, SentTill, SentPt, CutTill, CutPt, Wrote, Synced, DiskFailed, Crash}
use Rattle.sale_frame.specs.Decode.{DecodedFrames, decode_after, decode_frames}
use Rattle.sale_values.specs.declared.header.Header.{Header}
use Rattle.sale_values.specs.declared.request.SaleRequest.{SaleRequest}
use Rattle.sale_values.specs.declared.request.SaleRequest.TheVariants as requests
use Rattle.zvt_apdu.specs.Decode.{decode_apdu}
use Rattle.zvt_apdu.specs.DecodeStream.{DecodedApdus, decode_apdus}
use Rattle.zvt_apdu.specs.Grammar.{ApduValue}
use Rattle.gw_owes.specs.AskerLaws.{is_till_gone, tills_sent}
use Rattle.gw_owes.specs.Calls.{OwedCall, SendTill, LinkPt, CutTill as OwedCutTill, CutPt as OwedCutPt}
use Rattle.gw_owes.specs.Core.{Core, Wait, new_terminal}
use Rattle.gw_owes.specs.Events.{till_opened_items, has_bad_length, decoded_items, is_oversized, apdu_items, decoded_apdu_items, for_each_terminal, waits_by_deadline, items_due}
use Rattle.gw_owes.specs.Items.{RoundItem, Crowded, Message, Asked, Unframed, Gone, Greet, Handle, Serve, Queue, NextWaiting, Oversized, LinkLost, Late, Overdue, Due}
use Rattle.gw_owes.specs.PaymentLaws.{BeginsSomething, LooksAtNext, is_asked_item}
use Rattle.gw_owes.specs.ReadAs.{ReadAs}
use Rattle.gw_owes.specs.Reply.{ReplyValue}
use Rattle.gw_owes.specs.Row.{Known, Row, owing_where}
use Rattle.gw_owes.specs.Rows.{asked_row, row_of}
use Rattle.gw_owes.specs.Terminals.{asker_but, forgets_till, core_without}
use Rattle.gw_owes.specs.declared.terminal.Terminal.{Terminal}
use Rattle.gw_owes.proofs.AskedLemmas.{asked-begins, only-asked-begins}
use Rattle.gw_rules.specs.Lawful.{first_call, may_begin, first_message, Begins, IsRead, Allowed, AllowedTurn, IsCourse, Stands}
use Rattle.gw_rules.specs.QueueLaws.{EachWaitingIsThere}
use Rattle.gw_rules.specs.Scene.{Scene, records_of, known_in, row_in, row_at, link_made_at, link_lost_at}
use Rattle.gw_rules.specs.Stage.{AtPoll, Handling, is_round, is_looking}
use Rattle.gw_rules.specs.TillLaws.{is_there_after, AreThere, EachUsesTills, OwedIsThere, IsLeaving, EachServedIsThere, EachBeginningIsThere, EachQueueingIsThere}
use Rattle.gw_rules.specs.View.{View, Move, Begin, Read, Make, begun, later, read_first, after, after_turn, view_from, at_first}
use Rattle.gw_rules.proofs.CourseLemmas.{stands-outside}
use Rattle.gw_rules.proofs.LinkStateLemmas.{apart}
use Rattle.gw_rules.proofs.LinkedLemmas.{Agrees, connected-other, by-number, first-agrees, move-agrees, round-setup, call-setup, made-at-turns, lost-at-turns}
use Rattle.gw_rules.proofs.OpensLemmas.{opens-all}
use Rattle.gw_rules.proofs.OwedLemmas.{call-last}
use Rattle.gw_rules.proofs.SetupLemmas.{HasSetup}
use Rattle.gw_rules.proofs.SplitLemmas.{SplitAt, split-log, split-stands}
use Rattle.gw_rules.proofs.StageLemmas.{no-true, no-call, not-true, handling-not-polled, round-busy}
use Rattle.gw_rules.proofs.TillRowLemmas.{IsThere, there-new, there-heard, AskersAre, WaitsAre, waits-other, waits-without, waits-at, no-asker, sends-append, later-there, first-there, none-there, made-there, lost-there, IsOfRequest, ServesThere, row-there}

-- ---- a till that is gone

-- the terminal had the till before, which isn't the one that is gone
record HadTill (terminals : List Terminal) (number till asked : ℕ) : Type 0 where
  old : Terminal
  found : slice_get terminals number ≡ Some old
  asker_is : old.asker ≡ Some asked
  differs : asked ≢ till

had-asker : (till asked : ℕ) (asker : Option ℕ) → asker_but till asker ≡ Some asked → (asker ≡ Some asked) × (asked ≢ till)
had-asker till asked None e = absurd (let n : None ≡ Some asked = e in cc)
had-asker till asked (Some asker) e = by_test (asker == till) refl e
  where
    by_test : (test : Bool) → (asker == till) ≡ test → (if test then None else Some asker) ≡ Some asked → (Some asker ≡ Some asked) × (asked ≢ till)
    by_test true t e = absurd (let n : None ≡ Some asked = e in cc)
    by_test false t e = (e, λ is. apart asker till t ((let n : Some asker ≡ Some asked = e in cc) ∙ is))

had-till : (terminals : List Terminal) (number till asked : ℕ) (new : Terminal) → slice_get (map (forgets_till till) terminals) number ≡ Some new → new.asker ≡ Some asked → HadTill terminals number till asked
had-till [] number till asked new found is = absurd (let n : None ≡ Some new = found in cc)
had-till (terminal ∷ terminals) zero till asked new found is =
    let same : forgets_till till terminal ≡ new = (let n : Some (forgets_till till terminal) ≡ Some new = found in cc) in
    let had = had-asker till asked terminal.asker (ap (λ (t : Terminal). t.asker) same ∙ is) in
    record { old = terminal; found = refl; asker_is = had.0; differs = had.1 }
had-till (terminal ∷ terminals) (suc number) till asked new found is =
    let had = had-till terminals number till asked new found is in
    record { old = had.old; found = had.found; asker_is = had.asker_is; differs = had.differs }

-- ---- items that may wait

-- a till is gone, or its request begins to be served, or joins those that wait or takes one out: nothing comes before these
abbrev presses : RoundItem → Bool
presses (Crowded till) = false
presses (Message till bytes) = false
presses (Asked till as_read) = false
presses (Unframed till) = false
presses (Gone till) = true
presses (Greet number apdu) = false
presses (Handle number apdu) = false
presses (Serve number till header request) = true
presses (Queue number till header request) = true
presses (NextWaiting number) = false
presses (Oversized number) = false
presses (LinkLost number) = false
presses (Late number) = false
presses (Overdue key) = false
presses (Due number) = false

calm-stays : (item : RoundItem) → presses item ≡ false → is_till_gone item ≡ false
calm-stays (Crowded till) e = refl
calm-stays (Message till bytes) e = refl
calm-stays (Asked till as_read) e = refl
calm-stays (Unframed till) e = refl
calm-stays (Gone till) e = no-true (sym e)
calm-stays (Greet number apdu) e = refl
calm-stays (Handle number apdu) e = refl
calm-stays (Serve number till header request) e = refl
calm-stays (Queue number till header request) e = refl
calm-stays (NextWaiting number) e = refl
calm-stays (Oversized number) e = refl
calm-stays (LinkLost number) e = refl
calm-stays (Late number) e = refl
calm-stays (Overdue key) e = refl
calm-stays (Due number) e = refl

calm-serves : (tills : List Connection) (item : RoundItem) → presses item ≡ false → ServesThere tills item
calm-serves tills item e number till header request (inl is) = no-true (sym e ∙ ap presses is)
calm-serves tills item e number till header request (inr is) = no-true (sym e ∙ ap presses is)

abbrev press_none : List RoundItem → Bool
press_none [] = true
press_none (item ∷ items) = not (presses item) && press_none items

none-append : (items more : List RoundItem) → press_none items ≡ true → press_none more ≡ true → press_none (items ++ more) ≡ true
none-append [] more h k = k
none-append (item ∷ items) more h k =
    let p = and_parts (not (presses item)) (press_none items) h in
    rw (p.0, none-append items more p.1 k) refl

none-each : (number : ℕ) (item : ℕ → RoundItem) (terminals : List Terminal) → ((n : ℕ) → presses (item n) ≡ false) → press_none (for_each_terminal number item terminals) ≡ true
none-each number item [] never = refl
none-each number item (terminal ∷ terminals) never = rw (never number, none-each (number + 1) item terminals never) refl

none-overdue : (waits : List Wait) → press_none (map (λ (wait : Wait). Overdue wait.key) waits) ≡ true
none-overdue [] = refl
none-overdue (wait ∷ waits) = none-overdue waits

none-due : (core : Core) → press_none (items_due core) ≡ true
none-due core =
    none-append (for_each_terminal 0 Late core.terminals) (map (λ (wait : Wait). Overdue wait.key) (waits_by_deadline core.waits) ++ for_each_terminal 0 Due core.terminals) (none-each 0 Late core.terminals (λ n. refl))
    (none-append (map (λ (wait : Wait). Overdue wait.key) (waits_by_deadline core.waits)) (for_each_terminal 0 Due core.terminals) (none-overdue (waits_by_deadline core.waits)) (none-each 0 Due core.terminals (λ n. refl)))

none-opened : (till : ℕ) (tills : List Connection) → press_none (till_opened_items till tills) ≡ true
none-opened till tills = by_test (nat_lt (length tills) 64)
  where
    by_test : (test : Bool) → press_none (if test then [] else Crowded till ∷ []) ≡ true
    by_test true = refl
    by_test false = refl

none-messages : (till : ℕ) (payloads : List (List ℕ)) → press_none (map (Message till) payloads) ≡ true
none-messages till [] = refl
none-messages till (payload ∷ payloads) = none-messages till payloads

none-where : (test : Bool) (item : RoundItem) → presses item ≡ false → press_none (if test then item ∷ [] else []) ≡ true
none-where true item never = rw never refl
none-where false item never = refl

none-till : (till : ℕ) (decoded : DecodedFrames) → press_none (decoded_items till decoded) ≡ true
none-till till decoded = none-append (map (Message till) decoded.payloads) _ (none-messages till decoded.payloads) (none-where (has_bad_length decoded.rest) (Unframed till) refl)

none-apdus : (pt : ℕ) (apdus : List ApduValue) → press_none (flat_map (apdu_items pt) apdus) ≡ true
none-apdus pt [] = refl
none-apdus pt (apdu ∷ apdus) = none-apdus pt apdus

none-pt : (pt : ℕ) (decoded : DecodedApdus) → press_none (decoded_apdu_items pt decoded) ≡ true
none-pt pt decoded = none-append (flat_map (apdu_items pt) decoded.apdus) _ (none-apdus pt decoded.apdus) (none-where (is_oversized (decode_apdu decoded.rest)) (Oversized pt) refl)

none-read : (as_read : ReadAs) (items : List RoundItem) → press_none items ≡ true → press_none (read_first as_read items) ≡ true
none-read as_read [] e = e
none-read as_read (Crowded till ∷ items) e = e
none-read as_read (Message till bytes ∷ items) e = e
none-read as_read (Asked till other ∷ items) e = e
none-read as_read (Unframed till ∷ items) e = e
none-read as_read (Gone till ∷ items) e = e
none-read as_read (Greet pt apdu ∷ items) e = e
none-read as_read (Handle pt apdu ∷ items) e = e
none-read as_read (Serve pt till header request ∷ items) e = e
none-read as_read (Queue pt till header request ∷ items) e = e
none-read as_read (NextWaiting pt ∷ items) e = e
none-read as_read (Oversized pt ∷ items) e = e
none-read as_read (LinkLost pt ∷ items) e = e
none-read as_read (Late pt ∷ items) e = e
none-read as_read (Overdue key ∷ items) e = e
none-read as_read (Due pt ∷ items) e = e

-- ---- what holds along a course

-- no item presses; the till of each terminal, and of each request that waits, is there, and so is each that is owed anything
record Calm (v : View) : Type 0 where
  askers : AskersAre (IsThere v.scene.outside.tills) v.scene.core
  waits : WaitsAre (IsThere v.scene.outside.tills) v.scene.core.waits
  sends : AreThere v.scene.outside.tills (tills_sent v.calls)
  none : press_none v.items ≡ true

-- a request of a till that is there begins to be served, or joins those that wait or takes one out
record IsBeginning (tills : List Connection) (core : Core) (item : RoundItem) : Type 0 where
  number : ℕ
  till : ℕ
  header : Header
  request : SaleRequest
  item_is : IsOfRequest item number till header request
  there : IsThere tills till
  askers : AskersAre (IsThere tills) core
  waits : WaitsAre (IsThere tills) core.waits

-- a till is gone, which the terminals haven't forgotten yet
record IsGone (tills : List Connection) (core : Core) (item : RoundItem) : Type 0 where
  till : ℕ
  item_is : item ≡ Gone till
  askers : AskersAre (λ other. (other ≡ till) ⊎ IsThere tills other) core
  waits : WaitsAre (λ other. (other ≡ till) ⊎ IsThere tills other) core.waits

-- the first item presses, and no other
record Pressed (v : View) : Type 0 where
  item : RoundItem
  rest : List RoundItem
  items_are : v.items ≡ item ∷ rest
  none : press_none rest ≡ true
  stage : v.scene.stage ≡ Handling
  calls_are : v.calls ≡ []
  why : IsBeginning v.scene.outside.tills v.scene.core item ⊎ IsGone v.scene.outside.tills v.scene.core item

-- ---- turns

new-asker : (pts : List Pt) (number : ℕ) (terminal : Terminal) → slice_get (map new_terminal pts) number ≡ Some terminal → terminal.asker ≡ None
new-asker [] number terminal e = absurd (let n : None ≡ Some terminal = e in cc)
new-asker (pt ∷ pts) zero terminal e =
    let same : new_terminal pt ≡ terminal = (let n : Some (new_terminal pt) ≡ Some terminal = e in cc) in
    ap (λ (t : Terminal). t.asker) (sym same)
new-asker (pt ∷ pts) (suc number) terminal e = new-asker pts number terminal e

start-calm : (v : View) (setup : Setup) → Calm (after_turn v (Start setup))
start-calm v setup = record {
  askers = λ number terminal till found is. no-asker terminal.asker till (new-asker setup.terminals number terminal found) is;
  waits = tt;
  sends = opens-all (λ calls. AreThere [] (tills_sent calls)) tt tt setup v.scene.outside.file (records_of v.scene);
  none = refl;
}

none-found : {A : Type 0} (number : ℕ) (terminal : Terminal) → slice_get [] number ≡ Some terminal → A
none-found number terminal e = absurd (let n : None ≡ Some terminal = e in cc)

not-opened-calm : (v : View) → Calm (after_turn v OpenFailed)
not-opened-calm v = record { askers = λ number terminal till found is. none-found number terminal found; waits = tt; sends = tt; none = refl }

crashed-calm : (v : View) (file : List ℕ) → Calm (after_turn v (Crash file))
crashed-calm v file = record { askers = λ number terminal till found is. none-found number terminal found; waits = tt; sends = tt; none = refl }

-- with the connection of the till gone, and forgotten by each terminal
without-there : (tills : List Connection) (core : Core) (till : ℕ) → AskersAre (IsThere tills) core → AskersAre (IsThere (without tills till)) (core_without core till)
without-there tills core till h number new asked found is =
    let had = had-till core.terminals number till asked new found is in
    connected-other tills till asked had.differs ∙ h number had.old asked had.found had.asker_is

without-waits : (tills : List Connection) (core : Core) (till : ℕ) → WaitsAre (IsThere tills) core.waits → WaitsAre (IsThere (without tills till)) (core_without core till).waits
without-waits tills core till w = waits-without (IsThere tills) (IsThere (without tills till)) till core.waits (λ other differs there. connected-other tills till other differs ∙ there) w

closed-pressed : (v : View) (till : ℕ) → Calm v → Pressed (after_turn v (Closed till))
closed-pressed v till c = record {
  item = Gone till;
  rest = items_due v.scene.core;
  items_are = refl;
  none = none-due v.scene.core;
  stage = refl;
  calls_are = refl;
  why = inr (record {
    till = till;
    item_is = refl;
    askers = λ number terminal other found is. or_gone other (c.askers number terminal other found is);
    waits = waits-other (IsThere v.scene.outside.tills) (λ other. (other ≡ till) ⊎ IsThere (without v.scene.outside.tills till) other) v.scene.core.waits or_gone c.waits;
  });
}
  where
    or_gone : (other : ℕ) → IsThere v.scene.outside.tills other → (other ≡ till) ⊎ IsThere (without v.scene.outside.tills till) other
    or_gone other there = by-number till other (λ same. inl same) (λ differs. inr (connected-other v.scene.outside.tills till other (λ e. differs (sym e)) ∙ there))

-- a link that is made, and one that is lost
linked-calm : (v : View) (pt : ℕ) → Agrees v → Calm v → AllowedTurn v (Linked pt) → Calm (after_turn v (Linked pt))
linked-calm v pt a c ok =
    let known = call-setup v (LinkPt pt) a.run ok in
    let row = made-there v.scene.outside.tills v.scene pt v.scene.setup c.askers c.waits in
    record {
      askers = row.askers;
      waits = row.waits;
      sends = sends-append v.scene.outside.tills (link_made_at v.scene pt).calls (later v.calls) row.sends (later-there v.scene.outside.tills v.calls c.sends);
      none = ap (λ l. press_none (l ++ v.items)) (made-at-turns v.scene pt known.setup known.setup_is).items ∙ c.none;
    }

failed-calm : (v : View) (pt : ℕ) → Agrees v → Calm v → AllowedTurn v (LinkFailed pt) → Calm (after_turn v (LinkFailed pt))
failed-calm v pt a c ok =
    let known = call-setup v (LinkPt pt) a.run ok in
    let row = lost-there v.scene.outside.tills v.scene pt v.scene.setup c.askers c.waits in
    record {
      askers = row.askers;
      waits = row.waits;
      sends = sends-append v.scene.outside.tills (link_lost_at v.scene pt).calls [] row.sends tt;
      none = ap (λ l. press_none (l ++ v.items)) (lost-at-turns v.scene pt known.setup known.setup_is).items ∙ c.none;
    }

cut-calm : (v : View) (pt : ℕ) → Agrees v → Calm v → AllowedTurn v (CutPt pt) → Calm (after_turn v (CutPt pt))
cut-calm v pt a c ok =
    let known = call-setup v (OwedCutPt pt) a.run ok in
    let row = lost-there v.scene.outside.tills v.scene pt v.scene.setup c.askers c.waits in
    record {
      askers = row.askers;
      waits = row.waits;
      sends = sends-append v.scene.outside.tills (link_lost_at v.scene pt).calls (later v.calls) row.sends (later-there v.scene.outside.tills v.calls c.sends);
      none = ap (λ l. press_none (l ++ v.items)) (lost-at-turns v.scene pt known.setup known.setup_is).items ∙ c.none;
    }

-- a cut is the last call that is owed
till-cut-calm : (v : View) (till : ℕ) → Agrees v → Calm v → AllowedTurn v (CutTill till) → Calm (after_turn v (CutTill till))
till-cut-calm v till a c ok = record {
  askers = without-there v.scene.outside.tills v.scene.core till c.askers;
  waits = without-waits v.scene.outside.tills v.scene.core till c.waits;
  sends = subst (λ l. AreThere (without v.scene.outside.tills till) (tills_sent l)) (sym (call-last v.calls (OwedCutTill till) (λ more. refl) ok a.ends)) tt;
  none = c.none;
}

turn-calm : (v : View) (turn : Turn) → Agrees v → Calm v → AllowedTurn v turn → Calm (after_turn v turn) ⊎ Pressed (after_turn v turn)
turn-calm v (Start setup) a c ok = inl (start-calm v setup)
turn-calm v OpenFailed a c ok = inl (not-opened-calm v)
turn-calm v (Polled now) a c ok = inl (record { askers = c.askers; waits = c.waits; sends = tt; none = none-due v.scene.core })
turn-calm v (Opened till) a c ok = inl (record {
  askers = λ number terminal other found is. there-new v.scene.outside.tills till other (c.askers number terminal other found is);
  waits = waits-other (IsThere v.scene.outside.tills) (IsThere (v.scene.outside.tills ++ new_connection till ∷ [])) v.scene.core.waits (there-new v.scene.outside.tills till) c.waits;
  sends = tt;
  none = none-append (till_opened_items till v.scene.outside.tills) _ (none-opened till v.scene.outside.tills) (none-due v.scene.core);
})
turn-calm v (HeardTill till bytes) a c ok =
    let decoded : DecodedFrames = decode_after (decode_frames (heard_on v.scene.outside.tills till)).rest bytes in
    inl (record {
      askers = λ number terminal other found is. there-heard v.scene.outside.tills till other bytes (c.askers number terminal other found is);
      waits = waits-other (IsThere v.scene.outside.tills) (IsThere (hears v.scene.outside.tills till bytes)) v.scene.core.waits (λ other. there-heard v.scene.outside.tills till other bytes) c.waits;
      sends = tt;
      none = none-append (decoded_items till decoded) _ (none-till till decoded) (none-due v.scene.core);
    })
turn-calm v (Closed till) a c ok = inr (closed-pressed v till c)
turn-calm v (HeardPt pt bytes) a c ok =
    let decoded : DecodedApdus = decode_apdus ((decode_apdus (heard_on v.scene.outside.links pt)).rest ++ bytes) in
    inl (record { askers = c.askers; waits = c.waits; sends = tt; none = none-append (decoded_apdu_items pt decoded) _ (none-pt pt decoded) (none-due v.scene.core) })
turn-calm v (Lost pt) a c ok = inl (record { askers = c.askers; waits = c.waits; sends = tt; none = none-due v.scene.core })
turn-calm v Stopped a c ok = inl (record { askers = c.askers; waits = c.waits; sends = tt; none = refl })
turn-calm v (Linked pt) a c ok = inl (linked-calm v pt a c ok)
turn-calm v (LinkFailed pt) a c ok = inl (failed-calm v pt a c ok)
turn-calm v (SentTill till bytes true) a c ok = inl (record { askers = c.askers; waits = c.waits; sends = later-there v.scene.outside.tills v.calls c.sends; none = c.none })
turn-calm v (SentTill till bytes false) a c ok = inl (record { askers = c.askers; waits = c.waits; sends = tt; none = c.none })
turn-calm v (SentPt pt bytes true) a c ok = inl (record { askers = c.askers; waits = c.waits; sends = later-there v.scene.outside.tills v.calls c.sends; none = c.none })
turn-calm v (SentPt pt bytes false) a c ok = inl (record { askers = c.askers; waits = c.waits; sends = tt; none = c.none })
turn-calm v (CutTill till) a c ok = inl (till-cut-calm v till a c ok)
turn-calm v (CutPt pt) a c ok = inl (cut-calm v pt a c ok)
turn-calm v (Wrote offset bytes) a c ok = inl (record { askers = c.askers; waits = c.waits; sends = later-there v.scene.outside.tills v.calls c.sends; none = c.none })
turn-calm v Synced a c ok = inl (record { askers = c.askers; waits = c.waits; sends = later-there v.scene.outside.tills v.calls c.sends; none = c.none })
turn-calm v DiskFailed a c ok = inl (record { askers = c.askers; waits = c.waits; sends = tt; none = refl })
turn-calm v (Crash file) a c ok = inl (crashed-calm v file)

pressed-event : {A : Type 0} (v : View) → Pressed v → v.scene.stage ≡ AtPoll → A
pressed-event v p e = handling-not-polled (sym p.stage ∙ e)

pressed-call : {A : Type 0} (v : View) (call : OwedCall) → Pressed v → first_call v.calls ≡ Some call → A
pressed-call v call p e = no-call v.calls call p.calls_are e

-- nothing comes before an item that presses but the end of the run
turn-pressed : (v : View) (turn : Turn) → Pressed v → AllowedTurn v turn → Calm (after_turn v turn)
turn-pressed v (Start setup) p ok = start-calm v setup
turn-pressed v OpenFailed p ok = not-opened-calm v
turn-pressed v (Polled now) p ok = absurd (let n : [] ≡ p.item ∷ p.rest = sym ok.items ∙ p.items_are in cc)
turn-pressed v (Opened till) p ok = pressed-event v p ok.0
turn-pressed v (HeardTill till bytes) p ok = pressed-event v p ok.0.polled
turn-pressed v (Closed till) p ok = pressed-event v p ok.polled
turn-pressed v (HeardPt pt bytes) p ok = pressed-event v p ok.0.polled
turn-pressed v (Lost pt) p ok = pressed-event v p ok.polled
turn-pressed v Stopped p ok = pressed-event v p ok
turn-pressed v (Linked pt) p ok = pressed-call v _ p ok
turn-pressed v (LinkFailed pt) p ok = pressed-call v _ p ok
turn-pressed v (SentTill till bytes true) p ok = pressed-call v _ p ok.1
turn-pressed v (SentTill till bytes false) p ok = pressed-call v _ p ok.1
turn-pressed v (SentPt pt bytes true) p ok = pressed-call v _ p ok.1
turn-pressed v (SentPt pt bytes false) p ok = pressed-call v _ p ok.1
turn-pressed v (CutTill till) p ok = pressed-call v _ p ok
turn-pressed v (CutPt pt) p ok = pressed-call v _ p ok
turn-pressed v (Wrote offset bytes) p ok = pressed-call v _ p ok.1
turn-pressed v Synced p ok = pressed-call v _ p ok
turn-pressed v DiskFailed p (inl next) = pressed-call v _ p next
turn-pressed v DiskFailed p (inr looking) = no-true (sym (ap is_looking p.stage) ∙ looking)
turn-pressed v (Crash file) p ok = crashed-calm v file

-- ---- items that begin

-- an item that isn't a message of a till, and not that a till is gone
begun-calm : (scene : Scene) (item : RoundItem) (rest : List RoundItem) (setup : Setup) → scene.setup ≡ Some setup → is_till_gone item ≡ false → ServesThere scene.outside.tills item → AskersAre (IsThere scene.outside.tills) scene.core
    → WaitsAre (IsThere scene.outside.tills) scene.core.waits → is_asked_item item ≡ false → press_none rest ≡ true → Calm (begun scene (row_at scene item) rest)
begun-calm scene item rest setup is stays serves h w alone none =
    let row = row-there scene.outside.tills (known_in scene setup) item stays serves h w in
    subst (λ (s : Option Setup). Calm (begun scene (row_in scene (λ known. row_of scene.outside.tills known item) s) rest)) (sym is) (record {
      askers = row.askers;
      waits = row.waits;
      sends = row.sends;
      none = by_begins (only-asked-begins scene.outside.tills (known_in scene setup) item alone);
    })
  where
    by_begins : ((row_of scene.outside.tills (known_in scene setup) item).items ≡ []) ⊎ LooksAtNext item (row_of scene.outside.tills (known_in scene setup) item) → press_none ((row_of scene.outside.tills (known_in scene setup) item).items ++ rest) ≡ true
    by_begins (inl none_come) = ap (λ l. press_none (l ++ rest)) none_come ∙ none
    by_begins (inr looks) = ap (λ l. press_none (l ++ rest)) looks.items_are ∙ none

-- where a till's message begins anything, the till is there
asked-there : (tills : List Connection) (known : Known) (till : ℕ) (as_read : ReadAs) (item : RoundItem) → (row_of tills known (Asked till as_read)).items ≡ item ∷ [] → IsThere tills till
asked-there tills known till as_read item items = by_test (is_connected tills till) refl
  where
    by_test : (test : Bool) → is_connected tills till ≡ test → test ≡ true
    by_test true e = refl
    by_test false e =
        absurd (let n : [] ≡ item ∷ [] = ap (λ (holds : Bool). (owing_where holds known (asked_row known till as_read)).items) (sym e) ∙ items in cc)

asked-pressed : (scene : Scene) (till number : ℕ) (as_read : ReadAs) (header : Header) (request : SaleRequest) (item : RoundItem) (rest : List RoundItem) (setup : Setup) → is_round scene.stage ≡ true → AskersAre (IsThere scene.outside.tills) scene.core
    → WaitsAre (IsThere scene.outside.tills) scene.core.waits → press_none rest ≡ true → IsOfRequest item number till header request
    → (row_of scene.outside.tills (known_in scene setup) (Asked till as_read)).items ≡ item ∷ [] → (row_of scene.outside.tills (known_in scene setup) (Asked till as_read)).calls ≡ []
    → Pressed (begun scene (row_of scene.outside.tills (known_in scene setup) (Asked till as_read)) rest)
asked-pressed scene till number as_read header request item rest setup round h w none is items calls =
    let row = row-there scene.outside.tills (known_in scene setup) (Asked till as_read) refl (calm-serves scene.outside.tills (Asked till as_read) refl) h w in
    record {
      item = item;
      rest = rest;
      items_are = ap (λ l. l ++ rest) items;
      none = none;
      stage = round-busy scene.stage round;
      calls_are = calls;
      why = inl (record {
        number = number;
        till = till;
        header = header;
        request = request;
        item_is = is;
        there = asked-there scene.outside.tills (known_in scene setup) till as_read item items;
        askers = row.askers;
        waits = row.waits;
      });
    }

-- what a till's message owes
abbrev asked_at : Scene → Setup → ℕ → ReadAs → Row
asked_at scene setup till as_read = row_of scene.outside.tills (known_in scene setup) (Asked till as_read)

asked-begun : (scene : Scene) (till : ℕ) (as_read : ReadAs) (rest : List RoundItem) (setup : Setup) → is_round scene.stage ≡ true → AskersAre (IsThere scene.outside.tills) scene.core → WaitsAre (IsThere scene.outside.tills) scene.core.waits → press_none rest ≡ true
    → Calm (begun scene (asked_at scene setup till as_read) rest) ⊎ Pressed (begun scene (asked_at scene setup till as_read) rest)
asked-begun scene till as_read rest setup round h w none = by_begins (asked-begins scene.outside.tills (known_in scene setup) till as_read)
  where
    pressed : (number : ℕ) (header : Header) (request : SaleRequest) → (asked_at scene setup till as_read).items ≡ Serve number till header request ∷ [] → (asked_at scene setup till as_read).calls ≡ []
        → Calm (begun scene (asked_at scene setup till as_read) rest) ⊎ Pressed (begun scene (asked_at scene setup till as_read) rest)
    pressed number header request items calls = inr (asked-pressed scene till number as_read header request (Serve number till header request) rest setup round h w none (inl refl) items calls)

    queued : (number : ℕ) (header : Header) (request : SaleRequest) → (asked_at scene setup till as_read).items ≡ Queue number till header request ∷ [] → (asked_at scene setup till as_read).calls ≡ []
        → Calm (begun scene (asked_at scene setup till as_read) rest) ⊎ Pressed (begun scene (asked_at scene setup till as_read) rest)
    queued number header request items calls = inr (asked-pressed scene till number as_read header request (Queue number till header request) rest setup round h w none (inr refl) items calls)

    by_begins : ((asked_at scene setup till as_read).items ≡ []) ⊎ BeginsSomething (known_in scene setup) till as_read (asked_at scene setup till as_read)
        → Calm (begun scene (asked_at scene setup till as_read) rest) ⊎ Pressed (begun scene (asked_at scene setup till as_read) rest)
    by_begins (inl no_items) =
        let there = row-there scene.outside.tills (known_in scene setup) (Asked till as_read) refl (calm-serves scene.outside.tills (Asked till as_read) refl) h w in
        inl (record { askers = there.askers; waits = there.waits; sends = there.sends; none = ap (λ l. press_none (l ++ rest)) no_items ∙ none })
    by_begins (inr (inl begins)) = pressed begins.named.number begins.header begins.request begins.items_are begins.no_reply
    by_begins (inr (inr (inl stops))) = pressed stops.named.number stops.header (requests.Abort stops.reference) stops.items_are stops.no_reply
    by_begins (inr (inr (inr (inl logs)))) = pressed logs.named.number logs.header logs.request logs.items_are logs.no_reply
    by_begins (inr (inr (inr (inr (inl reconciles))))) = pressed reconciles.named.number reconciles.header (requests.Reconciliation reconciles.period) reconciles.items_are reconciles.no_reply
    by_begins (inr (inr (inr (inr (inr (inr (inl queues))))))) = queued queues.named.number queues.header queues.request queues.items_are queues.no_reply
    by_begins (inr (inr (inr (inr (inr (inr (inr withdraws))))))) = queued withdraws.wait.pt withdraws.header (requests.Abort withdraws.reference) withdraws.items_are withdraws.no_reply
    by_begins (inr (inr (inr (inr (inr (inl shows)))))) = pressed shows.named.number shows.header (requests.Display shows.outputs) shows.items_are shows.no_reply

-- an item that doesn't press
item-begun : (scene : Scene) (item : RoundItem) (rest : List RoundItem) (setup : Setup) → scene.setup ≡ Some setup → is_round scene.stage ≡ true → AskersAre (IsThere scene.outside.tills) scene.core → WaitsAre (IsThere scene.outside.tills) scene.core.waits → presses item ≡ false → press_none rest ≡ true
    → Calm (begun scene (row_at scene item) rest) ⊎ Pressed (begun scene (row_at scene item) rest)
item-begun scene item rest setup is round h w quiet none = by_item item quiet
  where
    other : (item : RoundItem) → presses item ≡ false → is_asked_item item ≡ false → Calm (begun scene (row_at scene item) rest) ⊎ Pressed (begun scene (row_at scene item) rest)
    other item quiet alone = inl (begun-calm scene item rest setup is (calm-stays item quiet) (calm-serves scene.outside.tills item quiet) h w alone none)

    by_item : (item : RoundItem) → presses item ≡ false → Calm (begun scene (row_at scene item) rest) ⊎ Pressed (begun scene (row_at scene item) rest)
    by_item (Crowded till) quiet = other (Crowded till) quiet refl
    by_item (Message till bytes) quiet = other (Message till bytes) quiet refl
    by_item (Asked till as_read) quiet =
        subst (λ (s : Option Setup). Calm (begun scene (row_in scene (λ known. row_of scene.outside.tills known (Asked till as_read)) s) rest) ⊎ Pressed (begun scene (row_in scene (λ known. row_of scene.outside.tills known (Asked till as_read)) s) rest)) (sym is)
        (asked-begun scene till as_read rest setup round h w none)
    by_item (Unframed till) quiet = other (Unframed till) quiet refl
    by_item (Gone till) quiet = no-true (sym quiet)
    by_item (Greet number apdu) quiet = other (Greet number apdu) quiet refl
    by_item (Handle number apdu) quiet = other (Handle number apdu) quiet refl
    by_item (Serve number till header request) quiet = no-true (sym quiet)
    by_item (Queue number till header request) quiet = no-true (sym quiet)
    by_item (NextWaiting number) quiet = other (NextWaiting number) quiet refl
    by_item (Oversized number) quiet = other (Oversized number) quiet refl
    by_item (LinkLost number) quiet = other (LinkLost number) quiet refl
    by_item (Late number) quiet = other (Late number) quiet refl
    by_item (Overdue key) quiet = other (Overdue key) quiet refl
    by_item (Due number) quiet = other (Due number) quiet refl

-- a till that is gone: each terminal forgets it
gone-begun : (scene : Scene) (till : ℕ) (rest : List RoundItem) (setup : Setup) → scene.setup ≡ Some setup → AskersAre (λ other. (other ≡ till) ⊎ IsThere scene.outside.tills other) scene.core
    → WaitsAre (λ other. (other ≡ till) ⊎ IsThere scene.outside.tills other) scene.core.waits → press_none rest ≡ true → Calm (begun scene (row_at scene (Gone till)) rest)
gone-begun scene till rest setup is h w none =
    subst (λ (s : Option Setup). Calm (begun scene (row_in scene (λ known. row_of scene.outside.tills known (Gone till)) s) rest)) (sym is)
    (record { askers = askers; waits = waits-without (λ other. (other ≡ till) ⊎ IsThere scene.outside.tills other) (IsThere scene.outside.tills) till scene.core.waits by_either w; sends = tt; none = none })
  where
    by_either : (other : ℕ) → other ≢ till → (other ≡ till) ⊎ IsThere scene.outside.tills other → IsThere scene.outside.tills other
    by_either other differs (inl same) = absurd (differs same)
    by_either other differs (inr there) = there

    askers : AskersAre (IsThere scene.outside.tills) (core_without scene.core till)
    askers number new other found is =
        let had = had-till scene.core.terminals number till other new found is in
        by_either other had.differs (h number had.old other had.found had.asker_is)

-- what holds of a view with these items holds of the view
with-items : (P : View → Type 0) (v : View) (item : RoundItem) (rest : List RoundItem) → v.items ≡ item ∷ rest → P (begun v.scene (row_at v.scene item) rest) → P (after v Begin)
with-items P v item rest e h = subst (λ l. P (after (record v { items = l }) Begin)) (sym e) h

begin-calm : (v : View) → Agrees v → Calm v → Begins v → Calm (after v Begin) ⊎ Pressed (after v Begin)
begin-calm v a c b = by_items v.items refl
  where
    by_items : (items : List RoundItem) → v.items ≡ items → Calm (after v Begin) ⊎ Pressed (after v Begin)
    by_items [] e = no-true (sym (ap (may_begin v.scene) e) ∙ b.first)
    by_items (item ∷ rest) e =
        let known = round-setup v a.run b.idle.round in
        let p = and_parts (not (presses item)) (press_none rest) (subst (λ l. press_none l ≡ true) e c.none) in
        with-items (λ w. Calm w ⊎ Pressed w) v item rest e (item-begun v.scene item rest known.setup known.setup_is b.idle.round c.askers c.waits (not-true (presses item) p.0) p.1)

-- an item is of one till
same-till : (one other : RoundItem) → one ≡ other → (n m till_one till_other : ℕ) (h k : Header) (q u : SaleRequest) → IsOfRequest one n till_one h q → IsOfRequest other m till_other k u → till_one ≡ till_other
same-till one other e n m till_one till_other h k q u (inl a) (inl b) = let x : Serve n till_one h q ≡ Serve m till_other k u = sym a ∙ e ∙ b in cc
same-till one other e n m till_one till_other h k q u (inl a) (inr b) = absurd (let x : Serve n till_one h q ≡ Queue m till_other k u = sym a ∙ e ∙ b in cc)
same-till one other e n m till_one till_other h k q u (inr a) (inl b) = absurd (let x : Queue n till_one h q ≡ Serve m till_other k u = sym a ∙ e ∙ b in cc)
same-till one other e n m till_one till_other h k q u (inr a) (inr b) = let x : Queue n till_one h q ≡ Queue m till_other k u = sym a ∙ e ∙ b in cc

begin-pressed : (v : View) → Agrees v → Pressed v → Begins v → Calm (after v Begin)
begin-pressed v a p b = by_why p.why
  where
    known : HasSetup v.scene
    known = round-setup v a.run b.idle.round

    at : (item : RoundItem) → p.item ≡ item → (begins : IsBeginning v.scene.outside.tills v.scene.core p.item) → is_till_gone item ≡ false → is_asked_item item ≡ false → Calm (after v Begin)
    at item e begins stays alone =
        with-items Calm v item p.rest (p.items_are ∙ ap (λ i. i ∷ p.rest) e)
        (begun-calm v.scene item p.rest known.setup known.setup_is stays
        (λ number till header request is.
        subst (IsThere v.scene.outside.tills) (same-till p.item item e begins.number number begins.till till begins.header header begins.request request begins.item_is is) begins.there)
        begins.askers begins.waits alone p.none)

    by_item : (begins : IsBeginning v.scene.outside.tills v.scene.core p.item) → IsOfRequest p.item begins.number begins.till begins.header begins.request → Calm (after v Begin)
    by_item begins (inl e) = at (Serve begins.number begins.till begins.header begins.request) e begins refl refl
    by_item begins (inr e) = at (Queue begins.number begins.till begins.header begins.request) e begins refl refl

    by_why : IsBeginning v.scene.outside.tills v.scene.core p.item ⊎ IsGone v.scene.outside.tills v.scene.core p.item → Calm (after v Begin)
    by_why (inl begins) = by_item begins begins.item_is
    by_why (inr gone) =
        with-items Calm v (Gone gone.till) p.rest (p.items_are ∙ ap (λ i. i ∷ p.rest) gone.item_is) (gone-begun v.scene gone.till p.rest known.setup known.setup_is gone.askers gone.waits p.none)

-- ---- along a course

read-calm : (v : View) (as_read : ReadAs) → Calm v → Calm (after v (Read as_read))
read-calm v as_read c = record { askers = c.askers; waits = c.waits; sends = tt; none = none-read as_read v.items c.none }

read-pressed : {A : Type 0} (v : View) (as_read : ReadAs) → Pressed v → IsRead v as_read → A
read-pressed {A} v as_read p r = by_why p.why
  where
    by_item : (number till : ℕ) (header : Header) (request : SaleRequest) → IsOfRequest p.item number till header request → A
    by_item number till header request (inl e) = absurd (let n : None ≡ Some r.bytes = sym (ap first_message (p.items_are ∙ ap (λ i. i ∷ p.rest) e)) ∙ r.message in cc)
    by_item number till header request (inr e) = absurd (let n : None ≡ Some r.bytes = sym (ap first_message (p.items_are ∙ ap (λ i. i ∷ p.rest) e)) ∙ r.message in cc)

    by_why : IsBeginning v.scene.outside.tills v.scene.core p.item ⊎ IsGone v.scene.outside.tills v.scene.core p.item → A
    by_why (inl begins) = by_item begins.number begins.till begins.header begins.request begins.item_is
    by_why (inr gone) = absurd (let n : None ≡ Some r.bytes = sym (ap first_message (p.items_are ∙ ap (λ i. i ∷ p.rest) gone.item_is)) ∙ r.message in cc)

move-tills : (v : View) (move : Move) → Agrees v → Calm v ⊎ Pressed v → Allowed v move → Calm (after v move) ⊎ Pressed (after v move)
move-tills v Begin a (inl c) ok = begin-calm v a c ok
move-tills v Begin a (inr p) ok = inl (begin-pressed v a p ok)
move-tills v (Read as_read) a (inl c) ok = inl (read-calm v as_read c)
move-tills v (Read as_read) a (inr p) ok = read-pressed v as_read p ok
move-tills v (Make turn) a (inl c) ok = turn-calm v turn a c ok
move-tills v (Make turn) a (inr p) ok = inl (turn-pressed v turn p ok)

course-tills : (v : View) (moves : List Move) → Agrees v → Calm v ⊎ Pressed v → IsCourse v moves → Calm (view_from v moves) ⊎ Pressed (view_from v moves)
course-tills v [] a h c = h
course-tills v (move ∷ moves) a h c = course-tills (after v move) moves (move-agrees v move a c.0) (move-tills v move a h c.0) c.1

first-calm : Calm at_first
first-calm = record { askers = λ number terminal till found is. none-found number terminal found; waits = tt; sends = tt; none = refl }

log-tills : (log : List Turn) (v : View) → Stands log v → Calm v ⊎ Pressed v
log-tills log v s = subst (λ w. Calm w ⊎ Pressed w) s.view_is (course-tills at_first s.course first-agrees (inl first-calm) s.lawful)

-- ---- the laws

-- what is there by the view is there after the log
view-there : (log : List Turn) (v : View) (till : ℕ) → Stands log v → IsThere v.scene.outside.tills till → is_there_after log till ≡ true
view-there log v till s there = ap (λ (o : Outside). is_connected o.tills till) (sym (stands-outside log v s)) ∙ there

owed-there : (log : List Turn) (v : View) → Stands log v → AreThere v.scene.outside.tills (tills_sent v.calls)
owed-there log v s = by_either (log-tills log v s)
  where
    by_either : Calm v ⊎ Pressed v → AreThere v.scene.outside.tills (tills_sent v.calls)
    by_either (inl c) = c.sends
    by_either (inr p) = none-there v.scene.outside.tills v.calls (ap tills_sent p.calls_are)

pub owed-is-there : OwedIsThere
owed-is-there log v s = subst (λ (o : Outside). AreThere o.tills (tills_sent v.calls)) (stands-outside log v s) (owed-there log v s)

sent-there : (log : List Turn) (turn : Turn) (till : ℕ) (x : SplitAt at_first log turn []) (reply : ReplyValue) → first_call (view_from at_first x.first).calls ≡ Some (SendTill till reply) → is_there_after log till ≡ true
sent-there log turn till x reply next =
    let v = view_from at_first x.first in
    let s = split-stands log turn [] x in
    view-there log v till s (first-there v.scene.outside.tills v.calls till reply (owed-there log v s) next)

pub uses-tills : EachUsesTills
uses-tills log till = record {
  sent = λ bytes lawful. let x = split-log log (SentTill till bytes true) [] lawful in sent-there log (SentTill till bytes true) till x x.allowed.0 x.allowed.1;
  unsent = λ bytes lawful. let x = split-log log (SentTill till bytes false) [] lawful in sent-there log (SentTill till bytes false) till x x.allowed.0 x.allowed.1;
}

pub served-is-there : EachServedIsThere
served-is-there log v s number till terminal found is = by_either (log-tills log v s)
  where
    by_gone : (gone : ℕ) (rest : List RoundItem) → v.items ≡ Gone gone ∷ rest → (till ≡ gone) ⊎ IsThere v.scene.outside.tills till → (is_there_after log till ≡ true) ⊎ IsLeaving v till
    by_gone gone rest items (inl same) = inr (rest, items ∙ ap (λ t. Gone t ∷ rest) (sym same))
    by_gone gone rest items (inr there) = inl (view-there log v till s there)

    by_either : Calm v ⊎ Pressed v → (is_there_after log till ≡ true) ⊎ IsLeaving v till
    by_either (inl c) = inl (view-there log v till s (c.askers number terminal till found is))
    by_either (inr p) = by_why p.why
      where
        by_why : IsBeginning v.scene.outside.tills v.scene.core p.item ⊎ IsGone v.scene.outside.tills v.scene.core p.item → (is_there_after log till ≡ true) ⊎ IsLeaving v till
        by_why (inl begins) = inl (view-there log v till s (begins.askers number terminal till found is))
        by_why (inr gone) = by_gone gone.till p.rest (p.items_are ∙ ap (λ i. i ∷ p.rest) gone.item_is) (gone.askers number terminal till found is)

-- so is the till of a request that begins to be served, or joins those that wait or takes one out
of-request-there : (log : List Turn) (v : View) → Stands log v → (number till : ℕ) (header : Header) (request : SaleRequest) (item : RoundItem) (rest : List RoundItem) → v.items ≡ item ∷ rest → IsOfRequest item number till header request → is_there_after log till ≡ true
of-request-there log v s number till header request item rest items is = by_either (log-tills log v s)
  where
    first_is : (p : Pressed v) → p.item ≡ item
    first_is p = let n : p.item ∷ p.rest ≡ item ∷ rest = sym p.items_are ∙ items in cc

    not_gone : (gone : ℕ) → Gone gone ≡ item → IsOfRequest item number till header request → is_there_after log till ≡ true
    not_gone gone e (inl a) = absurd (let x : Gone gone ≡ Serve number till header request = e ∙ a in cc)
    not_gone gone e (inr a) = absurd (let x : Gone gone ≡ Queue number till header request = e ∙ a in cc)

    presses_it : IsOfRequest item number till header request → presses item ≡ true
    presses_it (inl a) = ap presses a
    presses_it (inr a) = ap presses a

    by_why : (p : Pressed v) → IsBeginning v.scene.outside.tills v.scene.core p.item ⊎ IsGone v.scene.outside.tills v.scene.core p.item → is_there_after log till ≡ true
    by_why p (inl begins) =
        view-there log v till s (subst (IsThere v.scene.outside.tills) (same-till p.item item (first_is p) begins.number number begins.till till begins.header header begins.request request begins.item_is is) begins.there)
    by_why p (inr gone) = not_gone gone.till (sym gone.item_is ∙ first_is p) is

    by_either : Calm v ⊎ Pressed v → is_there_after log till ≡ true
    by_either (inl c) = no-true (sym (not-true (presses item) (and_parts (not (presses item)) (press_none rest) (subst (λ l. press_none l ≡ true) items c.none)).0) ∙ presses_it is)
    by_either (inr p) = by_why p p.why

pub beginning-is-there : EachBeginningIsThere
beginning-is-there log v s number till header request rest items = of-request-there log v s number till header request (Serve number till header request) rest items (inl refl)

pub queueing-is-there : EachQueueingIsThere
queueing-is-there log v s number till header request rest items = of-request-there log v s number till header request (Queue number till header request) rest items (inr refl)

pub waiting-is-there : EachWaitingIsThere
waiting-is-there log v at wait s found = by_either (log-tills log v s)
  where
    by_gone : (gone : ℕ) (rest : List RoundItem) → v.items ≡ Gone gone ∷ rest → (wait.till ≡ gone) ⊎ IsThere v.scene.outside.tills wait.till → (is_there_after log wait.till ≡ true) ⊎ IsLeaving v wait.till
    by_gone gone rest items (inl same) = inr (rest, items ∙ ap (λ t. Gone t ∷ rest) (sym same))
    by_gone gone rest items (inr there) = inl (view-there log v wait.till s there)

    by_why : (p : Pressed v) → IsBeginning v.scene.outside.tills v.scene.core p.item ⊎ IsGone v.scene.outside.tills v.scene.core p.item → (is_there_after log wait.till ≡ true) ⊎ IsLeaving v wait.till
    by_why p (inl begins) = inl (view-there log v wait.till s (waits-at (IsThere v.scene.outside.tills) v.scene.core.waits at wait begins.waits found))
    by_why p (inr gone) =
        by_gone gone.till p.rest (p.items_are ∙ ap (λ i. i ∷ p.rest) gone.item_is) (waits-at (λ other. (other ≡ gone.till) ⊎ IsThere v.scene.outside.tills other) v.scene.core.waits at wait gone.waits found)

    by_either : Calm v ⊎ Pressed v → (is_there_after log wait.till ≡ true) ⊎ IsLeaving v wait.till
    by_either (inl c) = inl (view-there log v wait.till s (waits-at (IsThere v.scene.outside.tills) v.scene.core.waits at wait c.waits found))
    by_either (inr p) = by_why p p.why
