-- What holds along a lawful course whose terminals are played ones holds after each turn of the site, of the disk and of the power, but those by which a terminal is linked, sent something or cut.
use Rattle.std.proofs.Common.{◌≡◌, ◌≢◌, ◌<◌, ℕ, ◌+◌, Bool, true, false, List, [], ◌∷◌, ◌++◌, refl, sym, ◌∙◌, ap, subst, arith, inl, inr, append_assoc, append-nil, eqb-true}
use Rattle.std.proofs.lemmas.Bool.{eq-eqb, or_parts}
use Rattle.std.proofs.lemmas.List.{append_cancel_left}
use Rattle.std.specs.Prelude.{◌⊎◌, ◌&&◌, ◌||◌, ◌==◌, ℤ, bytes_eq, if◌then◌else◌, map, slice_get, Option, Some, None}
use Rattle.std.specs.List.{list_any}
use Rattle.gw_base.specs.declared.setup.Setup.{Setup}
use Rattle.gw_bytes.specs.Bytes.{IsPrefix}
use Rattle.gw_site.specs.Outside.{Connection, Outside, is_connected, without, hears, heard_on}
use Rattle.gw_site.specs.declared.turn.Turn.{Turn}
use Rattle.gw_site.specs.declared.turn.Turn.TheVariants.{Start, OpenFailed, Polled, Opened, HeardTill, Closed, HeardPt, Lost, Stopped, SentTill, CutTill, Wrote, Synced, DiskFailed, Crash}
use Rattle.sale_frame.specs.Decode.{DecodedFrames, decode_after, decode_frames}
use Rattle.zvt_apdu.specs.DecodeStream.{DecodedApdus, decode_apdus}
use Rattle.zvt_msg.specs.declared.command.Command.{Command}
use Rattle.zvt_msg.specs.Message.{MessageValue}
use Rattle.pt_core.specs.Exchange.{Hears, HearsSent, heard_on_link}
use Rattle.pt_core.specs.History.{Setting, sent_on_link}
use Rattle.pt_core.proofs.SplitLemmas.{Laws}
use Rattle.gw_owes.specs.declared.terminal.Standing.{Standing}
use Rattle.gw_owes.specs.declared.terminal.Standing.TheVariants.{Unlinked}
use Rattle.gw_owes.specs.declared.terminal.Terminal.{Terminal}
use Rattle.gw_owes.specs.Calls.{Ask, OwedCall, SendTill, SendPt, LinkPt, WriteBody, WriteGate, WriteFirstGate, Sync, write_turn, CutTill as OwedCutTill, CutPt as OwedCutPt}
use Rattle.gw_owes.specs.Core.{Core, new_core, new_terminal}
use Rattle.gw_owes.specs.Deadlines.{is_due_by}
use Rattle.gw_owes.specs.Events.{till_opened_items, decoded_items}
use Rattle.gw_owes.specs.Items.{RoundItem, Gone, LinkLost}
use Rattle.gw_owes.specs.Links.{is_linked}
use Rattle.gw_owes.specs.Terminals.{asker_but, forgets_till}
use Rattle.gw_owes.proofs.SetLemmas.{same-some}
use Rattle.gw_rules.specs.Lawful.{first_call, AllowedTurn}
use Rattle.gw_rules.specs.Scene.{Scene}
use Rattle.gw_rules.specs.Stage.{AtPoll, is_broken, is_round, is_running}
use Rattle.gw_rules.specs.TranscriptLaws.{cuts_terminal, cut_owed}
use Rattle.gw_rules.specs.View.{View, Make, later, after, after_turn}
use Rattle.gw_rules.proofs.LinkStateLemmas.{LinkState, Absent, On, Off, Odd, apart, on-linked, state_of}
use Rattle.gw_rules.proofs.LinkedLemmas.{connected-heard, connected-other, connected-removed, event-settled, is_on}
use Rattle.gw_rules.proofs.OwingLemmas.{clear-where, synced-broken, wrote-broken}
use Rattle.gw_rules.proofs.RecordOrderLemmas.{Ordered}
use Rattle.gw_rules.proofs.RecordRowLemmas.{first-later}
use Rattle.gw_rules.proofs.SetupLemmas.{polled-setup}
use Rattle.gw_rules.proofs.StageLemmas.{busy-broken, no-true}
use Rattle.gw_rules.proofs.TranscriptLogLemmas.{image-there, there-image}
use Rattle.gw_books.specs.Past.{Occasion, OfNothing, SentCommand, MadeLink, SentReply, MadePoll, Past, past_after, poi_of_number, Numbering}
use Rattle.gw_books.proofs.Holding.{AreFalling, charges_terminal, charge_owed, is_handle}
use Rattle.gw_books.proofs.KeyedLemmas.{sent-below}
use Rattle.gw_books.proofs.LastCallLemmas.{IsLast, is-last, last-cuts}
use Rattle.gw_books.proofs.ListLemmas.{In, bytes-itself}
use Rattle.gw_played.specs.Played.{PlacedExchange, exchanges_in, exchanges_after, book_along}
use Rattle.gw_played.proofs.CarriedLemmas.{Carries, apdus-other, apdus-own, asked_by, decoded-bring-none, decoded-pending, due-handles-none, heard-left, heard-other, heard-own, items-carry, none-pending, opened-handles-none, peer-carried, peer-in-carried, then-due, till-handles-none}
use Rattle.gw_played.proofs.HonestGrowLemmas.{honest-place}
use Rattle.gw_played.proofs.PeerSendLemmas.{decoded-in-parts}
use Rattle.gw_played.proofs.Playing.{met_in, pending, AreMessages, IsLeft, IsPeerIn, begins_dialogue, asks_terminal, ask_owed, links_terminal, link_owed, IsPeer, ChargeNone, IsHonestFor, WasLinked, Plays, PeerLaws, PlaysTurn}
use Rattle.gw_played.proofs.SentPtPlaysLemmas.{apart-pois}
use Rattle.gw_books.proofs.CallHoldsLemmas.{numbering-there}

-- ---- turns that leave each terminal as it was

falling-later : (place : ℕ) (commands : List SentCommand) → AreFalling place commands → AreFalling (place + 1) commands
falling-later place [] falling = tt
falling-later place (command ∷ commands) falling = (omega (arith, falling.0), falling.1)

-- the past once a turn was made by which no terminal is linked, sent a command that may charge a card, or heard
abbrev next_past : Past → Occasion → List MadeLink → List SentReply → List MadePoll → List Occasion → Past
next_past past occasion lasting replies polls deeds = record past { place = past.place + 1; occasion = occasion; lasting = lasting; replies = replies; polls = polls; deeds = deeds }

-- while no call on the disk has failed, the same is asked of terminals, and the items handle the same of them
record AsClear (v w : View) : Type 0 where
  was : is_broken v.scene.stage ≡ false
  cuts : (number : ℕ) → cut_owed number w.calls ≡ false → cut_owed number v.calls ≡ false
  asks : (number : ℕ) → ask_owed number v.calls ≡ ask_owed number w.calls
  owed : (number : ℕ) (command : Command) → begins_dialogue command ≡ true → In (SendPt number (Ask command)) v.calls → In (SendPt number (Ask command)) w.calls
  items : (number : ℕ) → pending number w.items ≡ pending number v.items

-- a terminal that is there was there, but for the till that asked
record WasThere (v : View) (number : ℕ) (terminal : Terminal) : Type 0 where
  old : Terminal
  asker : Option ℕ
  found : slice_get v.scene.core.terminals number ≡ Some old
  is : asked_by old asker ≡ terminal

record Stays (v w : View) : Type 0 where
  clear : is_broken w.scene.stage ≡ false → AsClear v w
  there : (number : ℕ) (terminal : Terminal) → slice_get w.scene.core.terminals number ≡ Some terminal → WasThere v number terminal
  due : (number : ℕ) → (pending number w.items ≡ []) ⊎ ((pending number w.items ≡ pending number v.items) × (w.scene.outside.moment ≡ v.scene.outside.moment))
  linking : (number : ℕ) → link_owed number w.calls ≡ true → pending number w.items ≡ []
  heard : (number : ℕ) → is_connected w.scene.outside.links number ≡ true → (is_connected v.scene.outside.links number ≡ true) × (heard_on w.scene.outside.links number ≡ heard_on v.scene.outside.links number)
  handles : list_any is_handle w.items ≡ true → (w.items ≡ v.items) × ((number : ℕ) → charge_owed number v.calls ≡ false → charge_owed number w.calls ≡ false)

-- after such a turn all holds still
plays-on : (settings : List ℕ → Setting) (v w : View) (past : Past) (exchanges : List ℕ → List PlacedExchange) (occasion : Occasion) (lasting : List MadeLink) (replies : List SentReply) (polls : List MadePoll) (deeds : List Occasion)
    → Plays settings v past exchanges → Stays v w → Plays settings w (next_past past occasion lasting replies polls deeds) exchanges
plays-on settings v w past exchanges occasion lasting replies polls deeds h s = record {
  peers = λ clear number terminal found linked no_cut. peer clear number terminal (s.there number terminal found) linked no_cut;
  unlinked = λ number terminal due found standing. unlinked number terminal due (s.there number terminal found) standing;
  linking = s.linking;
  heard = λ number terminal found connected. heard number terminal (s.there number terminal found) (s.heard number connected);
  calm = λ some. h.calm (was some);
  uncharged = λ some number. (s.handles some).1 number (h.uncharged (was some) number);
  served = λ some. subst ChargeNone (sym (s.handles some).0) (h.served (was some));
  heard_before = let before = h.heard_before in omega (arith, before);
  falling = falling-later past.place past.commands h.falling;
  ends = h.ends;
  made = λ number terminal found linked. made number terminal (s.there number terminal found) linked;
  linked_before = λ link within. let before = h.linked_before link within in omega (arith, before);
  places = λ poi one within. let before = h.places poi one within in omega (arith, before);
  honest = λ poi. honest-place past (next_past past occasion lasting replies polls deeds) poi (book_along (settings poi) poi (exchanges poi)) h.falling (omega arith) refl refl refl (h.honest poi);
}
  where
    was : list_any is_handle w.items ≡ true → list_any is_handle v.items ≡ true
    was some = sym (ap (list_any is_handle) (s.handles some).0) ∙ some

    peer : is_broken w.scene.stage ≡ false → (number : ℕ) (terminal : Terminal) → WasThere v number terminal → is_linked terminal.standing ≡ true → cut_owed number w.calls ≡ false
        → IsPeer (ask_owed number w.calls) (settings terminal.pt.poi) (exchanges terminal.pt.poi) number w.items past.commands w.calls terminal
    peer clear number terminal t linked no_cut =
        let c : AsClear v w = s.clear clear in
        subst (λ (one : Terminal). IsPeer (ask_owed number w.calls) (settings one.pt.poi) (exchanges one.pt.poi) number w.items past.commands w.calls one) t.is
        (subst (λ asks. IsPeer asks (settings t.old.pt.poi) (exchanges t.old.pt.poi) number w.items past.commands w.calls (asked_by t.old t.asker)) (c.asks number)
        (peer-carried (settings t.old.pt.poi) (exchanges t.old.pt.poi) (exchanges t.old.pt.poi) number v.items w.items past.commands v.calls w.calls t.old t.asker (ask_owed number v.calls)
        (items-carry (settings t.old.pt.poi) t.old.pt.poi (exchanges t.old.pt.poi) number v.items w.items (c.items number)) (c.owed number)
        (h.peers c.was number t.old t.found (ap (λ (one : Terminal). is_linked one.standing) t.is ∙ linked) (c.cuts number no_cut))))

    unlinked : (number : ℕ) (terminal : Terminal) (due : Option ℕ) → WasThere v number terminal → terminal.standing ≡ Unlinked due
        → (terminal.talk ≡ None) × ((pending number w.items ≡ []) ⊎ (is_due_by w.scene.outside.moment due ≡ false))
    unlinked number terminal due t standing =
        let old = h.unlinked number t.old due t.found (ap (λ (one : Terminal). one.standing) t.is ∙ standing) in
        (ap (λ (one : Terminal). one.talk) (sym t.is) ∙ old.0, by_due (s.due number) old.1)
      where
        by_due : (pending number w.items ≡ []) ⊎ ((pending number w.items ≡ pending number v.items) × (w.scene.outside.moment ≡ v.scene.outside.moment)) → (pending number v.items ≡ []) ⊎ (is_due_by v.scene.outside.moment due ≡ false)
            → (pending number w.items ≡ []) ⊎ (is_due_by w.scene.outside.moment due ≡ false)
        by_due (inl none) old = inl none
        by_due (inr same) (inl none) = inl (same.0 ∙ none)
        by_due (inr same) (inr later_due) = inr (ap (λ moment. is_due_by moment due) same.1 ∙ later_due)

    heard : (number : ℕ) (terminal : Terminal) → WasThere v number terminal → (is_connected v.scene.outside.links number ≡ true) × (heard_on w.scene.outside.links number ≡ heard_on v.scene.outside.links number)
        → heard_on_link (exchanges_in (exchanges terminal.pt.poi)) ≡ heard_on w.scene.outside.links number
    heard number terminal t on =
        ap (λ (one : Terminal). heard_on_link (exchanges_in (exchanges one.pt.poi))) (sym t.is) ∙ h.heard number t.old t.found on.0 ∙ sym on.1

    made : (number : ℕ) (terminal : Terminal) → WasThere v number terminal → is_linked terminal.standing ≡ true → WasLinked past.links terminal.pt.poi
    made number terminal t linked =
        subst (λ (one : Terminal). WasLinked past.links one.pt.poi) t.is (h.made number t.old t.found (ap (λ (one : Terminal). is_linked one.standing) t.is ∙ linked))

-- the same terminals are there
same-there : (v w : View) → w.scene.core ≡ v.scene.core → (number : ℕ) (terminal : Terminal) → slice_get w.scene.core.terminals number ≡ Some terminal → WasThere v number terminal
same-there v w core number terminal found = record { old = terminal; asker = terminal.asker; found = ap (λ (c : Core). slice_get c.terminals number) (sym core) ∙ found; is = refl }

-- ---- events

-- no item handles what a terminal has said, where an event may come
abbrev pub PollsClean : View → Type 0
PollsClean v = v.scene.stage ≡ AtPoll → list_any is_handle v.items ≡ false

-- so this is what is proved of events
abbrev pub PlaysEvent : Turn → Type 0
PlaysEvent turn =
    (settings : List ℕ → Setting) (log : List Turn) (v : View) (past : Past) (exchanges : List ℕ → List PlacedExchange)
    → Ordered log v → PollsClean v → AllowedTurn v turn → ((poi : List ℕ) → HearsSent (settings poi) (exchanges_in (exchanges_after poi v past.place (exchanges poi) (Make turn)))) → Plays settings v past exchanges
    → Plays settings (after v (Make turn)) (past_after v past (Make turn)) (λ poi. exchanges_after poi v past.place (exchanges poi) (Make turn))

-- no call was owed, and the items that came and those before handle nothing of terminals
event-stays : (v w : View) → is_broken v.scene.stage ≡ false → v.calls ≡ [] → w.calls ≡ [] → w.scene.core ≡ v.scene.core → list_any is_handle v.items ≡ false → list_any is_handle w.items ≡ false
    → ((number : ℕ) → is_connected w.scene.outside.links number ≡ true → (is_connected v.scene.outside.links number ≡ true) × (heard_on w.scene.outside.links number ≡ heard_on v.scene.outside.links number)) → Stays v w
event-stays v w clear before none core were are heard = record {
  clear = λ w_clear. record {
    was = clear;
    cuts = λ number no_cut. ap (cut_owed number) before;
    asks = λ number. ap (ask_owed number) (before ∙ sym none);
    owed = λ number command begins within. absurd (subst (λ calls. In (SendPt number (Ask command)) calls) before within);
    items = λ number. none-pending number w.items are ∙ sym (none-pending number v.items were);
  };
  there = same-there v w core;
  due = λ number. inl (none-pending number w.items are);
  linking = λ number links. no-true (sym (ap (link_owed number) none) ∙ links);
  heard = heard;
  handles = λ some. no-true (sym are ∙ some);
}

-- no call is owed where an event may come
no-calls : (log : List Turn) (v : View) → Ordered log v → v.scene.stage ≡ AtPoll → v.calls ≡ []
no-calls log v o polled = o.owing.polled polled

pub polled-plays : (now : ℤ) → PlaysTurn (Polled now)
polled-plays now settings log v past exchanges o ok hears h =
    let w : View = after_turn v (Polled now) in
    plays-on settings v w past exchanges OfNothing past.lasting past.replies (record { place = past.place; links = past.lasting; kept = v.scene.kept } ∷ past.polls) past.deeds h
    (event-stays v w (clear-where v.scene.stage is_running refl ok.running) ok.calls refl refl (ap (list_any is_handle) ok.items) (due-handles-none v.scene.core) (λ number connected. (connected, refl)))

pub opened-plays : (till : ℕ) → PlaysEvent (Opened till)
opened-plays till settings log v past exchanges o clean ok hears h =
    let w : View = after_turn v (Opened till) in
    plays-on settings v w past exchanges past.occasion past.lasting past.replies past.polls past.deeds h
    (event-stays v w (ap is_broken ok.0) (no-calls log v o ok.0) refl refl (clean ok.0) (then-due (till_opened_items till v.scene.outside.tills) v.scene.core (opened-handles-none till v.scene.outside.tills)) (λ number connected. (connected, refl)))

pub heard-till-plays : (till : ℕ) (bytes : List ℕ) → PlaysEvent (HeardTill till bytes)
heard-till-plays till bytes settings log v past exchanges o clean ok hears h =
    let w : View = after_turn v (HeardTill till bytes) in
    let decoded : DecodedFrames = decode_after (decode_frames (heard_on v.scene.outside.tills till)).rest bytes in
    plays-on settings v w past exchanges past.occasion past.lasting past.replies past.polls past.deeds h
    (event-stays v w (ap is_broken ok.0.polled) (no-calls log v o ok.0.polled) refl refl (clean ok.0.polled) (then-due (decoded_items till decoded) v.scene.core (till-handles-none till decoded)) (λ number connected. (connected, refl)))

pub closed-plays : (till : ℕ) → PlaysEvent (Closed till)
closed-plays till settings log v past exchanges o clean ok hears h =
    let w : View = after_turn v (Closed till) in
    plays-on settings v w past exchanges past.occasion past.lasting past.replies past.polls past.deeds h
    (event-stays v w (ap is_broken ok.polled) (no-calls log v o ok.polled) refl refl (clean ok.polled) (then-due (Gone till ∷ []) v.scene.core refl) (λ number connected. (connected, refl)))

-- once the link of this terminal is lost, of the others the same was heard
heard-without : (links : List Connection) (pt number : ℕ) → is_connected (without links pt) number ≡ true → (is_connected links number ≡ true) × (heard_on (without links pt) number ≡ heard_on links number)
heard-without links pt number connected = by_test (pt == number) refl
  where
    by_test : (test : Bool) → (pt == number) ≡ test → (is_connected links number ≡ true) × (heard_on (without links pt) number ≡ heard_on links number)
    by_test true t = no-true (sym (subst (λ n. is_connected (without links pt) n ≡ false) (eqb-true pt number t) (connected-removed links pt)) ∙ connected)
    by_test false t =
        let differs : pt ≢ number = apart pt number t in
        (sym (connected-other links pt number (λ same. differs (sym same))) ∙ connected, heard-left links pt number differs)

pub lost-plays : (pt : ℕ) → PlaysEvent (Lost pt)
lost-plays pt settings log v past exchanges o clean ok hears h =
    let w : View = after_turn v (Lost pt) in
    plays-on settings v w past exchanges past.occasion _ past.replies past.polls past.deeds h
    (event-stays v w (ap is_broken ok.polled) (no-calls log v o ok.polled) refl refl (clean ok.polled) (then-due (LinkLost pt ∷ []) v.scene.core refl) (heard-without v.scene.outside.links pt))

pub stopped-plays : PlaysEvent Stopped
stopped-plays settings log v past exchanges o clean ok hears h =
    let w : View = after_turn v Stopped in
    plays-on settings v w past exchanges past.occasion past.lasting past.replies past.polls past.deeds h
    (event-stays v w (ap is_broken ok) (no-calls log v o ok) refl refl (clean ok) refl (λ number connected. (connected, refl)))

-- ---- calls

-- what is owed first is a call by which no terminal is linked, asked or cut, and no charge is made
record IsApart (call : OwedCall) : Type 0 where
  asks : (number : ℕ) → asks_terminal number call ≡ false
  links : (number : ℕ) → links_terminal number call ≡ false
  cuts : (number : ℕ) → cuts_terminal number call ≡ false

-- a test that it fails is passed by the later calls where by all
later-any : (test : OwedCall → Bool) (all : List OwedCall → Bool) → ((call : OwedCall) (calls : List OwedCall) → all (call ∷ calls) ≡ (test call || all calls)) → (calls : List OwedCall) (call : OwedCall)
    → first_call calls ≡ Some call → test call ≡ false → all calls ≡ all (later calls)
later-any test all step calls call next none = ap all (first-later calls call next) ∙ step call (later calls) ∙ ap (λ b. b || all (later calls)) none

-- a command with which a dialogue begins is owed still
later-asked : (calls : List OwedCall) (call : OwedCall) (number : ℕ) (command : Command) → first_call calls ≡ Some call → asks_terminal number call ≡ false → begins_dialogue command ≡ true → In (SendPt number (Ask command)) calls → In (SendPt number (Ask command)) (later calls)
later-asked calls call number command next none begins within = by_first (subst (λ all. In (SendPt number (Ask command)) all) (first-later calls call next) within)
  where
    by_first : In (SendPt number (Ask command)) (call ∷ later calls) → In (SendPt number (Ask command)) (later calls)
    by_first (inl same) = no-true (sym none ∙ ap (asks_terminal number) (sym same) ∙ ap (λ b. b && begins_dialogue command) (eq-eqb number number refl) ∙ begins)
    by_first (inr more) = more

-- a command that may charge a card is none where none was
charge-later : (number : ℕ) (calls : List OwedCall) → charge_owed number calls ≡ false → charge_owed number (later calls) ≡ false
charge-later number [] none = none
charge-later number (call ∷ calls) none = (or_parts (charges_terminal number call) (charge_owed number calls) none).1

-- such a call was made: what was owed after it is owed
call-stays : (settings : List ℕ → Setting) (v w : View) (past : Past) (exchanges : List ℕ → List PlacedExchange) (call : OwedCall) → Plays settings v past exchanges → first_call v.calls ≡ Some call → IsApart call
    → w.calls ≡ later v.calls → w.items ≡ v.items → is_broken w.scene.stage ≡ is_broken v.scene.stage → w.scene.outside.moment ≡ v.scene.outside.moment → w.scene.outside.links ≡ v.scene.outside.links
    → ((number : ℕ) (terminal : Terminal) → slice_get w.scene.core.terminals number ≡ Some terminal → WasThere v number terminal) → Stays v w
call-stays settings v w past exchanges call h next a calls items broken moment links there = record {
  clear = λ clear. record {
    was = sym broken ∙ clear;
    cuts = λ number no_cut. later-any (cuts_terminal number) (cut_owed number) (λ one more. refl) v.calls call next (a.cuts number) ∙ ap (cut_owed number) (sym calls) ∙ no_cut;
    asks = λ number. later-any (asks_terminal number) (ask_owed number) (λ one more. refl) v.calls call next (a.asks number) ∙ ap (ask_owed number) (sym calls);
    owed = λ number command begins within. subst (λ all. In (SendPt number (Ask command)) all) (sym calls) (later-asked v.calls call number command next (a.asks number) begins within);
    items = λ number. ap (pending number) items;
  };
  there = there;
  due = λ number. inr (ap (pending number) items, moment);
  linking = λ number owed. ap (pending number) items ∙ h.linking number (later-any (links_terminal number) (link_owed number) (λ one more. refl) v.calls call next (a.links number) ∙ ap (link_owed number) (sym calls) ∙ owed);
  heard = λ number connected. (sym (ap (λ l. is_connected l number) links) ∙ connected, ap (λ l. heard_on l number) links);
  handles = λ some. (items, λ number none. ap (charge_owed number) calls ∙ charge-later number v.calls none);
}

write-is-apart : (call : OwedCall) (turn : Turn) → write_turn call ≡ Some turn → IsApart call
write-is-apart (SendTill till reply) turn e = absurd (let n : None ≡ Some turn = e in cc)
write-is-apart (SendPt pt sending) turn e = absurd (let n : None ≡ Some turn = e in cc)
write-is-apart (LinkPt pt) turn e = absurd (let n : None ≡ Some turn = e in cc)
write-is-apart (WriteBody slot the_record) turn e = record { asks = λ number. refl; links = λ number. refl; cuts = λ number. refl }
write-is-apart (WriteGate slot the_record) turn e = record { asks = λ number. refl; links = λ number. refl; cuts = λ number. refl }
write-is-apart WriteFirstGate turn e = record { asks = λ number. refl; links = λ number. refl; cuts = λ number. refl }
write-is-apart Sync turn e = absurd (let n : None ≡ Some turn = e in cc)
write-is-apart (OwedCutTill till) turn e = absurd (let n : None ≡ Some turn = e in cc)
write-is-apart (OwedCutPt pt) turn e = absurd (let n : None ≡ Some turn = e in cc)

pub wrote-plays : (offset : ℕ) (bytes : List ℕ) → PlaysTurn (Wrote offset bytes)
wrote-plays offset bytes settings log v past exchanges o ok hears h = by_round (is_round v.scene.stage)
  where
    w : View
    w = after_turn v (Wrote offset bytes)

    stays : Stays v w
    stays = call-stays settings v w past exchanges ok.0 h ok.1 (write-is-apart ok.0 (Wrote offset bytes) ok.2) refl refl (wrote-broken v.scene.stage) refl refl (same-there v w refl)

    by_round : (test : Bool) → Plays settings w (record (if test then record past { deeds = past.occasion ∷ past.deeds } else past) { place = past.place + 1 }) exchanges
    by_round true = plays-on settings v w past exchanges past.occasion past.lasting past.replies past.polls (past.occasion ∷ past.deeds) h stays
    by_round false = plays-on settings v w past exchanges past.occasion past.lasting past.replies past.polls past.deeds h stays

pub synced-plays : PlaysTurn Synced
synced-plays settings log v past exchanges o ok hears h =
    let w : View = after_turn v Synced in
    plays-on settings v w past exchanges past.occasion past.lasting past.replies past.polls past.deeds h
    (call-stays settings v w past exchanges Sync h ok (record { asks = λ number. refl; links = λ number. refl; cuts = λ number. refl }) refl refl (synced-broken v.scene.stage) refl refl (same-there v w refl))

pub sent-till-plays : (till : ℕ) (bytes : List ℕ) (sent : Bool) → PlaysTurn (SentTill till bytes sent)
sent-till-plays till bytes true settings log v past exchanges o ok hears h =
    let w : View = after_turn v (SentTill till bytes true) in
    plays-on settings v w past exchanges past.occasion past.lasting _ past.polls past.deeds h
    (call-stays settings v w past exchanges (SendTill till ok.0) h ok.1 (record { asks = λ number. refl; links = λ number. refl; cuts = λ number. refl }) refl refl (busy-broken v.scene.stage) refl refl (same-there v w refl))
sent-till-plays till bytes false settings log v past exchanges o ok hears h =
    let w : View = after_turn v (SentTill till bytes false) in
    plays-on settings v w past exchanges past.occasion past.lasting _ past.polls past.deeds h (failed w refl refl refl refl)
  where
    call : OwedCall
    call = SendTill till ok.0

    last : IsLast v call
    last = is-last log v call o ok.1 refl (λ more. refl)

    -- the cut of the till alone is owed, after the send alone
    failed : (w : View) → w.calls ≡ OwedCutTill till ∷ [] → w.items ≡ v.items → w.scene.core ≡ v.scene.core → w.scene.outside ≡ v.scene.outside → Stays v w
    failed w calls items core outside = record {
      clear = λ clear. record {
        was = last.clear;
        cuts = λ number no_cut. last-cuts v call number last refl;
        asks = λ number. ap (ask_owed number) last.calls_are ∙ sym (ap (ask_owed number) calls);
        owed = λ number command begins within. none_asked number command (subst (λ all. In (SendPt number (Ask command)) all) last.calls_are within);
        items = λ number. ap (pending number) items;
      };
      there = same-there v w core;
      due = λ number. inr (ap (pending number) items, ap (λ (p : Outside). p.moment) outside);
      linking = λ number owed. no-true (sym (ap (link_owed number) calls) ∙ owed);
      heard = λ number connected. (sym (ap (λ (p : Outside). is_connected p.links number) outside) ∙ connected, ap (λ (p : Outside). heard_on p.links number) outside);
      handles = λ some. (items, λ number none. ap (charge_owed number) calls);
    }
      where
        none_asked : (number : ℕ) (command : Command) → In (SendPt number (Ask command)) (call ∷ []) → In (SendPt number (Ask command)) w.calls
        none_asked number command (inl same) = absurd (let n : SendPt number (Ask command) ≡ SendTill till ok.0 = same in cc)
        none_asked number command (inr none) = absurd none

-- the till that is gone has asked no terminal
pub cut-till-plays : (till : ℕ) → PlaysTurn (CutTill till)
cut-till-plays till settings log v past exchanges o ok hears h =
    let w : View = after_turn v (CutTill till) in
    plays-on settings v w past exchanges past.occasion past.lasting past.replies past.polls past.deeds h
    (call-stays settings v w past exchanges (OwedCutTill till) h ok (record { asks = λ number. refl; links = λ number. refl; cuts = λ number. refl }) refl refl (busy-broken v.scene.stage) refl refl there)
  where
    there : (number : ℕ) (terminal : Terminal) → slice_get (after_turn v (CutTill till)).scene.core.terminals number ≡ Some terminal → WasThere v number terminal
    there number terminal found =
        let was = image-there (forgets_till till) v.scene.core.terminals number terminal found in
        record {
          old = was.0;
          asker = asker_but till was.0.asker;
          found = was.1;
          is = same-some (forgets_till till was.0) terminal (sym (there-image (forgets_till till) v.scene.core.terminals number was.0 was.1) ∙ found);
        }

-- nothing is owed after a failed call on the disk
pub disk-failed-plays : PlaysTurn DiskFailed
disk-failed-plays settings log v past exchanges o ok hears h =
    let w : View = after_turn v DiskFailed in
    plays-on settings v w past exchanges past.occasion past.lasting past.replies past.polls past.deeds h
    (record {
      clear = λ clear. no-true (sym clear);
      there = same-there v w refl;
      due = λ number. inl refl;
      linking = λ number owed. refl;
      heard = λ number connected. (connected, refl);
      handles = λ some. no-true some;
    })

-- ---- the ends of runs, and their beginning

-- no terminal is linked, and nothing is left to be done for one
record IsFresh (w : View) : Type 0 where
  each : (number : ℕ) (terminal : Terminal) → slice_get w.scene.core.terminals number ≡ Some terminal → (terminal.standing ≡ Unlinked None) × (terminal.talk ≡ None)
  items : w.items ≡ []
  links : w.scene.outside.links ≡ []

fresh-plays : (settings : List ℕ → Setting) (v w : View) (past : Past) (exchanges : List ℕ → List PlacedExchange) → Plays settings v past exchanges → IsFresh w → Plays settings w (next_past past OfNothing [] past.replies past.polls past.deeds) exchanges
fresh-plays settings v w past exchanges h f = record {
  peers = λ clear number terminal found linked no_cut. unlinked (f.each number terminal found).0 linked;
  unlinked = λ number terminal due found standing. ((f.each number terminal found).1, inl (ap (pending number) f.items));
  linking = λ number owed. ap (pending number) f.items;
  heard = λ number terminal found connected. no-true (sym (ap (λ l. is_connected l number) f.links) ∙ connected);
  calm = λ some. none some;
  uncharged = λ some. none some;
  served = λ some. none some;
  heard_before = let before = h.heard_before in omega (arith, before);
  falling = falling-later past.place past.commands h.falling;
  ends = h.ends;
  made = λ number terminal found linked. unlinked (f.each number terminal found).0 linked;
  linked_before = λ link within. let before = h.linked_before link within in omega (arith, before);
  places = λ poi one within. let before = h.places poi one within in omega (arith, before);
  honest = λ poi. honest-place past (next_past past OfNothing [] past.replies past.polls past.deeds) poi (book_along (settings poi) poi (exchanges poi)) h.falling (omega arith) refl refl refl (h.honest poi);
}
  where
    unlinked : {A : Type 0} {standing : Standing} → standing ≡ Unlinked None → is_linked standing ≡ true → A
    unlinked is linked = no-true (sym (ap is_linked is) ∙ linked)

    none : {A : Type 0} → list_any is_handle w.items ≡ true → A
    none some = no-true (sym (ap (list_any is_handle) f.items) ∙ some)

pub start-plays : (setup : Setup) → PlaysTurn (Start setup)
start-plays setup settings log v past exchanges o ok hears h = fresh-plays settings v (after_turn v (Start setup)) past exchanges h (record { each = each; items = refl; links = refl })
  where
    each : (number : ℕ) (terminal : Terminal) → slice_get (new_core setup).terminals number ≡ Some terminal → (terminal.standing ≡ Unlinked None) × (terminal.talk ≡ None)
    each number terminal found =
        let was = image-there new_terminal setup.terminals number terminal found in
        let is : new_terminal was.0 ≡ terminal = same-some (new_terminal was.0) terminal (sym (there-image new_terminal setup.terminals number was.0 was.1) ∙ found) in
        (ap (λ (t : Terminal). t.standing) (sym is), ap (λ (t : Terminal). t.talk) (sym is))

-- no terminal is there
no-terminal : {A : Type 0} (number : ℕ) (terminal : Terminal) → slice_get [] number ≡ Some terminal → A
no-terminal number terminal found = absurd (let n : None ≡ Some terminal = found in cc)

pub open-failed-plays : PlaysTurn OpenFailed
open-failed-plays settings log v past exchanges o ok hears h =
    fresh-plays settings v (after_turn v OpenFailed) past exchanges h (record { each = λ number terminal found. no-terminal number terminal found; items = refl; links = refl })

pub crash-plays : (file : List ℕ) → PlaysTurn (Crash file)
crash-plays file settings log v past exchanges o ok hears h =
    fresh-plays settings v (after_turn v (Crash file)) past exchanges h (record { each = λ number terminal found. no-terminal number terminal found; items = refl; links = refl })

-- ---- a terminal is heard

-- what was exchanged once a terminal was heard, which is this one or isn't
abbrev heard_where : Bool → ℕ → List ℕ → List PlacedExchange → List PlacedExchange
heard_where own place bytes exchanges = map (λ exchange. record { place = place; exchange = exchange }) (if own then Hears bytes ∷ [] else []) ++ exchanges

-- what newly completed APDUs handle, and what is left after them, is what was left
heard-left-over : Laws → (setting : Setting) (exchanges : List PlacedExchange) (number place : ℕ) (bytes : List ℕ) (items more : List RoundItem) (left : List MessageValue)
    → IsPrefix (heard_on_link (exchanges_in exchanges) ++ bytes) (sent_on_link setting (met_in exchanges)) → pending number items ≡ []
    → pending number more ≡ (decode_apdus ((decode_apdus (heard_on_link (exchanges_in exchanges))).rest ++ bytes)).apdus
    → IsLeft setting exchanges number items left → IsLeft setting (heard_where true place bytes exchanges) number more left
heard-left-over laws setting exchanges number place bytes items more left prefix none now l = record {
  unheard = prefix.0;
  stream = prefix.1;
  are = subst (λ apdus. AreMessages apdus left) parts l.are;
}
  where
    heard : List ℕ
    heard = heard_on_link (exchanges_in exchanges)

    waits : List ℕ
    waits = (decode_apdus heard).rest

    unheard : l.unheard ≡ bytes ++ prefix.0
    unheard = append_cancel_left heard l.unheard (bytes ++ prefix.0) (sym l.stream ∙ prefix.1 ∙ append_assoc heard bytes prefix.0)

    parts : pending number items ++ (decode_apdus (waits ++ l.unheard)).apdus ≡ pending number more ++ (decode_apdus ((decode_apdus (heard ++ bytes)).rest ++ prefix.0)).apdus
    parts =
        ap (λ apdus. apdus ++ (decode_apdus (waits ++ l.unheard)).apdus) none
        ∙ ap (λ after_it. (decode_apdus (waits ++ after_it)).apdus) unheard
        ∙ ap (λ all. (decode_apdus all).apdus) (sym (append_assoc waits bytes prefix.0))
        ∙ ap (λ (s : DecodedApdus). s.apdus) (decoded-in-parts laws (waits ++ bytes) prefix.0)
        ∙ ap (λ rest. (decode_apdus (waits ++ bytes)).apdus ++ (decode_apdus (rest ++ prefix.0)).apdus) (sym (ap (λ (s : DecodedApdus). s.rest) (decoded-in-parts laws heard bytes)))
        ∙ ap (λ apdus. apdus ++ (decode_apdus ((decode_apdus (heard ++ bytes)).rest ++ prefix.0)).apdus) (sym now)

-- the POIID of a terminal that is there
pub poi-there : (scene : Scene) (number : ℕ) (terminal : Terminal) → slice_get scene.core.terminals number ≡ Some terminal → poi_of_number scene number ≡ terminal.pt.poi
poi-there scene number terminal found = ap (λ (n : Numbering). n.poi) (numbering-there scene number terminal found)

-- a terminal that is connected is there, and linked
pub connected-linked : (log : List Turn) (v : View) (number : ℕ) → Ordered log v → v.scene.stage ≡ AtPoll → is_connected v.scene.outside.links number ≡ true
    → (terminal : Terminal) × (slice_get v.scene.core.terminals number ≡ Some terminal) × (is_linked terminal.standing ≡ true)
connected-linked log v number o polled connected = by_found (slice_get v.scene.core.terminals number) refl
  where
    on : is_on (state_of (slice_get v.scene.core.terminals number)) ≡ true
    on = sym ((event-settled v o.agrees polled).linked number) ∙ connected

    on-is : (state : LinkState) → is_on state ≡ true → state ≡ On
    on-is Absent e = no-true e
    on-is On e = refl
    on-is (Off due) e = no-true e
    on-is Odd e = no-true e

    by_found : (found : Option Terminal) → slice_get v.scene.core.terminals number ≡ found → (terminal : Terminal) × (slice_get v.scene.core.terminals number ≡ Some terminal) × (is_linked terminal.standing ≡ true)
    by_found None is = no-true (sym (ap (λ (f : Option Terminal). is_on (state_of f)) is) ∙ on)
    by_found (Some terminal) is = (terminal, is, on-linked terminal.standing terminal.talk (on-is (state_of (Some terminal)) (sym (ap (λ (f : Option Terminal). is_on (state_of f)) is) ∙ on)))

module _ (laws : PeerLaws) (settings : List ℕ → Setting) (log : List Turn) (v : View) (past : Past) (exchanges : List ℕ → List PlacedExchange) (pt : ℕ) (bytes : List ℕ) (o : Ordered log v) (clean : PollsClean v)
    (ok : AllowedTurn v (HeardPt pt bytes)) (hears_sent : (poi : List ℕ) → HearsSent (settings poi) (exchanges_in (exchanges_after poi v past.place (exchanges poi) (Make (HeardPt pt bytes))))) (h : Plays settings v past exchanges) where
  -- the terminal that is heard
  speaker : (terminal : Terminal) × (slice_get v.scene.core.terminals pt ≡ Some terminal) × (is_linked terminal.standing ≡ true)
  speaker = connected-linked log v pt o ok.0.polled ok.0.connected_is

  other-poi : (number : ℕ) (terminal : Terminal) → slice_get v.scene.core.terminals number ≡ Some terminal → pt ≢ number → bytes_eq (poi_of_number v.scene pt) terminal.pt.poi ≡ false
  other-poi number terminal found differs =
      ap (λ poi. bytes_eq poi terminal.pt.poi) (poi-there v.scene pt speaker.0 speaker.1) ∙ apart-pois log v (polled-setup v o.agrees.run ok.0.polled) pt number speaker.0 terminal o differs speaker.1 found

  own-poi : (terminal : Terminal) → slice_get v.scene.core.terminals pt ≡ Some terminal → bytes_eq (poi_of_number v.scene pt) terminal.pt.poi ≡ true
  own-poi terminal found = ap (λ poi. bytes_eq poi terminal.pt.poi) (poi-there v.scene pt terminal found) ∙ bytes-itself terminal.pt.poi

  other-pending : (number : ℕ) → (pt == number) ≡ false → pending number (after_turn v (HeardPt pt bytes)).items ≡ []
  other-pending number other =
      decoded-pending number pt (decode_apdus ((decode_apdus (heard_on v.scene.outside.links pt)).rest ++ bytes)) v.scene.core
      ∙ apdus-other number pt (decode_apdus ((decode_apdus (heard_on v.scene.outside.links pt)).rest ++ bytes)).apdus other

  own-pending : pending pt (after_turn v (HeardPt pt bytes)).items ≡ (decode_apdus ((decode_apdus (heard_on v.scene.outside.links pt)).rest ++ bytes)).apdus
  own-pending =
      decoded-pending pt pt (decode_apdus ((decode_apdus (heard_on v.scene.outside.links pt)).rest ++ bytes)) v.scene.core
      ∙ apdus-own pt (decode_apdus ((decode_apdus (heard_on v.scene.outside.links pt)).rest ++ bytes)).apdus

  -- the exchanges of this POIID
  abbrev now_exchanged : List ℕ → List PlacedExchange
  now_exchanged poi = heard_where (bytes_eq (poi_of_number v.scene pt) poi) past.place bytes (exchanges poi)

  own-carries : (terminal : Terminal) → slice_get v.scene.core.terminals pt ≡ Some terminal
      → Carries (settings terminal.pt.poi) terminal.pt.poi (exchanges terminal.pt.poi) (now_exchanged terminal.pt.poi) pt v.items (after_turn v (HeardPt pt bytes)).items
  own-carries terminal found =
      subst (λ own. Carries (settings terminal.pt.poi) terminal.pt.poi (exchanges terminal.pt.poi) (heard_where own past.place bytes (exchanges terminal.pt.poi)) pt v.items (after_turn v (HeardPt pt bytes)).items) (sym (own-poi terminal found))
      (record {
        met = refl;
        left = λ left l. heard-left-over laws.all.stream (settings terminal.pt.poi) (exchanges terminal.pt.poi) pt past.place bytes v.items (after_turn v (HeardPt pt bytes)).items left
            (subst (λ own. HearsSent (settings terminal.pt.poi) (exchanges_in (heard_where own past.place bytes (exchanges terminal.pt.poi)))) (own-poi terminal found) (hears_sent terminal.pt.poi)).0
            (none-pending pt v.items (clean ok.0.polled))
            (own-pending ∙ ap (λ heard. (decode_apdus ((decode_apdus heard).rest ++ bytes)).apdus) (sym (h.heard pt terminal found ok.0.connected_is)))
            l;
        book = append-nil (book_along (settings terminal.pt.poi) terminal.pt.poi (exchanges terminal.pt.poi));
      })

  other-carries : (number : ℕ) (terminal : Terminal) → slice_get v.scene.core.terminals number ≡ Some terminal → (pt == number) ≡ false
      → Carries (settings terminal.pt.poi) terminal.pt.poi (exchanges terminal.pt.poi) (now_exchanged terminal.pt.poi) number v.items (after_turn v (HeardPt pt bytes)).items
  other-carries number terminal found other =
      subst (λ own. Carries (settings terminal.pt.poi) terminal.pt.poi (exchanges terminal.pt.poi) (heard_where own past.place bytes (exchanges terminal.pt.poi)) number v.items (after_turn v (HeardPt pt bytes)).items)
      (sym (other-poi number terminal found (apart pt number other)))
      (items-carry (settings terminal.pt.poi) terminal.pt.poi (exchanges terminal.pt.poi) number v.items (after_turn v (HeardPt pt bytes)).items (other-pending number other ∙ sym (none-pending number v.items (clean ok.0.polled))))

  each-carries : (number : ℕ) (terminal : Terminal) → slice_get v.scene.core.terminals number ≡ Some terminal
      → Carries (settings terminal.pt.poi) terminal.pt.poi (exchanges terminal.pt.poi) (now_exchanged terminal.pt.poi) number v.items (after_turn v (HeardPt pt bytes)).items
  each-carries number terminal found = by_test (pt == number) refl
    where
      by_test : (test : Bool) → (pt == number) ≡ test → Carries (settings terminal.pt.poi) terminal.pt.poi (exchanges terminal.pt.poi) (now_exchanged terminal.pt.poi) number v.items (after_turn v (HeardPt pt bytes)).items
      by_test true t =
          let same : pt ≡ number = eqb-true pt number t in
          subst (λ n. Carries (settings terminal.pt.poi) terminal.pt.poi (exchanges terminal.pt.poi) (now_exchanged terminal.pt.poi) n v.items (after_turn v (HeardPt pt bytes)).items) same
          (own-carries terminal (ap (slice_get v.scene.core.terminals) same ∙ found))
      by_test false t = other-carries number terminal found t

  heard-peer : (number : ℕ) (terminal : Terminal) → slice_get v.scene.core.terminals number ≡ Some terminal → is_linked terminal.standing ≡ true
      → IsPeerIn (settings terminal.pt.poi) terminal.pt.poi (now_exchanged terminal.pt.poi) number (after_turn v (HeardPt pt bytes)).items past.commands terminal.talk terminal.standing
  heard-peer number terminal found linked =
      let none : v.calls ≡ [] = no-calls log v o ok.0.polled in
      peer-in-carried (settings terminal.pt.poi) terminal.pt.poi (exchanges terminal.pt.poi) (now_exchanged terminal.pt.poi) number v.items (after_turn v (HeardPt pt bytes)).items (each-carries number terminal found) past.commands terminal.talk terminal.standing
      (subst (λ calls. IsPeer (ask_owed number calls) (settings terminal.pt.poi) (exchanges terminal.pt.poi) number v.items past.commands calls terminal) none
      (h.peers (ap is_broken ok.0.polled) number terminal found linked (ap (cut_owed number) none)))

  unlinked-none : (number : ℕ) (terminal : Terminal) (due : Option ℕ) → slice_get v.scene.core.terminals number ≡ Some terminal → terminal.standing ≡ Unlinked due → pending number (after_turn v (HeardPt pt bytes)).items ≡ []
  unlinked-none number terminal due found standing = by_test (pt == number) refl
    where
      by_test : (test : Bool) → (pt == number) ≡ test → pending number (after_turn v (HeardPt pt bytes)).items ≡ []
      by_test true t =
          let same : speaker.0 ≡ terminal = same-some speaker.0 terminal (sym speaker.1 ∙ ap (slice_get v.scene.core.terminals) (eqb-true pt number t) ∙ found) in
          no-true (sym (ap is_linked standing) ∙ ap (λ (one : Terminal). is_linked one.standing) (sym same) ∙ speaker.2)
      by_test false t = other-pending number t

  still-heard : (number : ℕ) (terminal : Terminal) → slice_get v.scene.core.terminals number ≡ Some terminal → is_connected v.scene.outside.links number ≡ true
      → heard_on_link (exchanges_in (now_exchanged terminal.pt.poi)) ≡ heard_on (hears v.scene.outside.links pt bytes) number
  still-heard number terminal found connected = by_test (pt == number) refl
    where
      old : heard_on_link (exchanges_in (exchanges terminal.pt.poi)) ≡ heard_on v.scene.outside.links number
      old = h.heard number terminal found connected

      by_test : (test : Bool) → (pt == number) ≡ test → heard_on_link (exchanges_in (now_exchanged terminal.pt.poi)) ≡ heard_on (hears v.scene.outside.links pt bytes) number
      by_test true t =
          let same : pt ≡ number = eqb-true pt number t in
          ap (λ own. heard_on_link (exchanges_in (heard_where own past.place bytes (exchanges terminal.pt.poi)))) (own-poi terminal (ap (slice_get v.scene.core.terminals) same ∙ found))
          ∙ ap (λ heard. heard ++ bytes) (old ∙ ap (heard_on v.scene.outside.links) (sym same))
          ∙ sym (heard-own v.scene.outside.links pt bytes ok.0.connected_is)
          ∙ ap (heard_on (hears v.scene.outside.links pt bytes)) same
      by_test false t =
          let differs : pt ≢ number = apart pt number t in
          ap (λ own. heard_on_link (exchanges_in (heard_where own past.place bytes (exchanges terminal.pt.poi)))) (other-poi number terminal found differs)
          ∙ old ∙ sym (heard-other v.scene.outside.links pt number bytes differs)

  heard-places : (poi : List ℕ) (own : Bool) (one : PlacedExchange) → In one (heard_where own past.place bytes (exchanges poi)) → one.place < past.place + 1
  heard-places poi true one (inl same) = let at : one.place ≡ past.place = ap (λ (one : PlacedExchange). one.place) same in omega (arith, at)
  heard-places poi true one (inr within) = let before = h.places poi one within in omega (arith, before)
  heard-places poi false one within = let before = h.places poi one within in omega (arith, before)

  heard-book : (poi : List ℕ) (own : Bool) → book_along (settings poi) poi (heard_where own past.place bytes (exchanges poi)) ≡ book_along (settings poi) poi (exchanges poi)
  heard-book poi true = append-nil (book_along (settings poi) poi (exchanges poi))
  heard-book poi false = refl

-- what newly heard bytes complete is to be handled, and what it says was left before
pub heard-pt-plays : PeerLaws → (pt : ℕ) (bytes : List ℕ) → PlaysEvent (HeardPt pt bytes)
heard-pt-plays laws pt bytes settings log v past exchanges o clean ok hears_sent h =
    let heard_past : Past = record past { place = past.place + 1; heard = past.place } in
    let decoded : DecodedApdus = decode_apdus ((decode_apdus (heard_on v.scene.outside.links pt)).rest ++ bytes) in
    record {
      peers = λ clear number terminal found linked no_cut. heard-peer laws settings log v past exchanges pt bytes o clean ok hears_sent h number terminal found linked;
      unlinked = λ number terminal due found standing. ((h.unlinked number terminal due found standing).0, inl (unlinked-none laws settings log v past exchanges pt bytes o clean ok hears_sent h number terminal due found standing));
      linking = λ number owed. no-true owed;
      heard = λ number terminal found connected.
          still-heard laws settings log v past exchanges pt bytes o clean ok hears_sent h number terminal found (sym (connected-heard v.scene.outside.links pt number bytes) ∙ connected);
      calm = λ some command sent. sent-below past.place past.commands h.falling command sent;
      uncharged = λ some number. refl;
      served = λ some. (pt, decoded-bring-none pt decoded v.scene.core);
      heard_before = omega arith;
      falling = falling-later past.place past.commands h.falling;
      ends = λ end within. let e = h.ends end within in (e.0, e.1, let before = e.2 in let least = h.heard_before in omega (arith, before, least));
      made = h.made;
      linked_before = λ link within. let before = h.linked_before link within in omega (arith, before);
      places = λ poi one within. heard-places laws settings log v past exchanges pt bytes o clean ok hears_sent h poi (bytes_eq (poi_of_number v.scene pt) poi) one within;
      honest = λ poi. subst (λ book. IsHonestFor heard_past poi book) (sym (heard-book laws settings log v past exchanges pt bytes o clean ok hears_sent h poi (bytes_eq (poi_of_number v.scene pt) poi)))
          (honest-place past heard_past poi (book_along (settings poi) poi (exchanges poi)) h.falling (omega arith) refl refl refl (h.honest poi));
    }
