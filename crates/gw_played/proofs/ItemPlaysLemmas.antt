-- What an item leaves that handles nothing which a terminal has said, each but Handle and Serve: every terminal is as far as it was, or isn't linked any more.
use Rattle.std.proofs.Common.{◌≡◌, ℕ, ◌+◌, Bool, true, false, List, [], ◌∷◌, ◌++◌, refl, sym, ◌∙◌, ap, subst, arith, inl, inr, eqb-true}
use Rattle.std.proofs.lemmas.Bool.{leb-true}
use Rattle.std.specs.Prelude.{◌⊎◌, ◌==◌, ◌&&◌, ◌||◌, nat_le, slice_get, Option, Some, None, Result, Ok, Err}
use Rattle.std.specs.List.{list_any}
use Rattle.gw_base.specs.declared.key.Key.{Key}
use Rattle.gw_base.specs.declared.setup.Setup.{Setup}
use Rattle.gw_site.specs.Outside.{is_connected}
use Rattle.gw_site.specs.declared.turn.Turn.{Turn}
use Rattle.sale_values.specs.declared.header.Header.{Header}
use Rattle.sale_values.specs.declared.request.SaleRequest.{SaleRequest}
use Rattle.zvt_apdu.specs.Grammar.{ApduValue}
use Rattle.zvt_msg.specs.declared.fault.PtFault.{PtFault}
use Rattle.zvt_msg.specs.Message.{MessageValue, Ack, Nack, Intermediate, Line, Block, Status, Completion, Abort, Other}
use Rattle.zvt_msg.specs.MessageDecode.{decode_pt_message}
use Rattle.pt_core.specs.History.{Setting}
use Rattle.gw_owes.specs.declared.terminal.Standing.{Standing}
use Rattle.gw_owes.specs.declared.terminal.Standing.TheVariants.{Unlinked, Registering, Enquiring, Ready, Serving, Aside}
use Rattle.gw_owes.specs.declared.terminal.Terminal.{Terminal}
use Rattle.gw_owes.specs.Calls.{Sending, Acknowledge, Refuse, OwedCall, SendPt, LinkPt, CutTill, CutPt}
use Rattle.gw_owes.specs.Core.{Core}
use Rattle.gw_owes.specs.Deadlines.{is_late, is_due, is_due_by}
use Rattle.gw_owes.specs.Greeting.{greeting, sending_calls, greet_decoded}
use Rattle.gw_owes.specs.Items.{RoundItem, Crowded, Message as MessageItem, Asked, Unframed, Gone, Greet, Handle, Serve, Queue, NextWaiting, Oversized, LinkLost, Late, Overdue, Due}
use Rattle.gw_owes.specs.Links.{cutting}
use Rattle.gw_owes.specs.ReadAs.{ReadAs}
use Rattle.gw_owes.specs.RecordLaws.{IsInOrder, IsReadItem}
use Rattle.gw_owes.specs.Reply.{ReplyValue}
use Rattle.gw_owes.specs.Requests.{reply_to, begun_by}
use Rattle.gw_owes.specs.Row.{Known, Row, owing, owing_where, becoming}
use Rattle.gw_owes.specs.Rows.{asked_row, row_of}
use Rattle.gw_owes.specs.Terminals.{with_terminal, reply_calls_to, reply_to_lost, unlinked_terminal, unlinks, forgets_till, core_without}
use Rattle.gw_owes.proofs.HandlingLemmas.{by-where, each-terminal, each-linked}
use Rattle.gw_owes.proofs.SetLemmas.{same-some}
use Rattle.gw_rules.specs.Lawful.{may_begin, Begins, IsRead}
use Rattle.gw_rules.specs.Scene.{Scene, known_in, row_at}
use Rattle.gw_rules.specs.Stage.{is_round, is_broken}
use Rattle.gw_rules.specs.TranscriptLaws.{cut_owed}
use Rattle.gw_rules.specs.View.{View, Begin, Read, begun, after, read_first}
use Rattle.gw_rules.proofs.KeptPhaseLemmas.{round-runs}
use Rattle.gw_rules.proofs.LinkedLemmas.{round-setup}
use Rattle.gw_rules.proofs.OwingLemmas.{clear-where}
use Rattle.gw_rules.proofs.RecordOrderLemmas.{Ordered, between-items, first-was-read, row-is}
use Rattle.gw_rules.proofs.RowFormLemmas.{form-begun}
use Rattle.gw_rules.proofs.StageLemmas.{no-true}
use Rattle.gw_rules.proofs.TranscriptLogLemmas.{image-there, there-image}
use Rattle.gw_books.specs.Past.{HeardEnd, Past, occasion_of, ends_of, past_after}
use Rattle.gw_books.proofs.FrameRowLemmas.{each-in-place}
use Rattle.gw_books.proofs.Holding.{charge_owed, is_handle}
use Rattle.gw_books.proofs.QuietRowLemmas.{asked-ends-none}
use Rattle.gw_played.specs.Played.{PlacedExchange, book_along}
use Rattle.gw_played.proofs.PeerFrameLemmas.{TerminalPlays, RowPlays, PlaysBetween, WasSo, terminal-stays, later-charge-none}
use Rattle.gw_played.proofs.Playing.{pending, IsPeer, IsHonestFor, ask_owed, link_owed, brings_charge, ChargeNone, Plays, PlaysItem}

-- ---- an item that handles nothing said

-- such an item handles nothing of any terminal
pending-same : (item : RoundItem) (rest : List RoundItem) → is_handle item ≡ false → (number : ℕ) → pending number (item ∷ rest) ≡ pending number rest
pending-same (Crowded till) rest none number = refl
pending-same (MessageItem till bytes) rest none number = refl
pending-same (Asked till as_read) rest none number = refl
pending-same (Unframed till) rest none number = refl
pending-same (Gone till) rest none number = refl
pending-same (Greet pt apdu) rest none number = refl
pending-same (Handle pt apdu) rest none number = no-true (sym none)
pending-same (Serve pt till header request) rest none number = refl
pending-same (Queue pt till header request) rest none number = refl
pending-same (NextWaiting pt) rest none number = refl
pending-same (Oversized pt) rest none number = refl
pending-same (LinkLost pt) rest none number = refl
pending-same (Late pt) rest none number = refl
pending-same (Overdue key) rest none number = refl
pending-same (Due pt) rest none number = refl

-- what holds along the course once such an item has begun that brings no end
pub row-plays : (settings : List ℕ → Setting) (v : View) (past : Past) (exchanges : List ℕ → List PlacedExchange) (item : RoundItem) (rest : List RoundItem) (row : Row)
    → is_handle item ≡ false → ends_of v.scene past (occasion_of v.scene.core item) ≡ [] → v.items ≡ item ∷ rest → Plays settings v past exchanges → RowPlays settings exchanges v.scene.outside past rest row
    → Plays settings (begun v.scene row rest) (record past { occasion = occasion_of v.scene.core item; ends = ends_of v.scene past (occasion_of v.scene.core item) ++ past.ends }) exchanges
row-plays settings v past exchanges item rest row none ends e p r =
    subst (λ (ends : List HeardEnd). Plays settings (begun v.scene row rest) (record past { occasion = occasion_of v.scene.core item; ends = ends ++ past.ends }) exchanges) (sym ends) (record {
      peers = λ clear number terminal found linked uncut. (r.each number terminal found).peer linked uncut;
      unlinked = λ number terminal due found is. (r.each number terminal found).unlinked due is;
      linking = r.linking;
      heard = λ number terminal found connected. (r.each number terminal found).heard connected;
      calm = λ handles. p.calm (ap (list_any is_handle) e ∙ ap (λ b. b || list_any is_handle rest) none ∙ r.handles handles);
      uncharged = r.uncharged;
      served = r.served;
      heard_before = p.heard_before;
      falling = p.falling;
      linked_before = p.linked_before;
      ends = p.ends;
      made = λ number terminal found linked. (r.each number terminal found).made linked;
      places = p.places;
      honest = λ poi. honest (p.honest poi);
    })
  where
    honest : {poi : List ℕ} → IsHonestFor past poi (book_along (settings poi) poi (exchanges poi)) → IsHonestFor (record past { occasion = occasion_of v.scene.core item }) poi (book_along (settings poi) poi (exchanges poi))
    honest {poi} h = record {
      commanded = λ entry within. (let c = h.commanded entry within in record { poi_is = c.poi_is; command = c.command; sent = c.sent; command_poi = c.command_poi; cause_is = c.cause_is; place_is = c.place_is });
      caused = h.caused;
      linked = h.linked;
      ordered = h.ordered;
      numbered = h.numbered;
      true_ends = h.true_ends;
    }

-- what holds of one terminal where no call is owed
pub terminal-rests : (settings : List ℕ → Setting) (v : View) (past : Past) (exchanges : List ℕ → List PlacedExchange) (number : ℕ) (terminal : Terminal) → slice_get v.scene.core.terminals number ≡ Some terminal
    → is_broken v.scene.stage ≡ false → v.calls ≡ [] → Plays settings v past exchanges → TerminalPlays settings exchanges v.scene.outside past v.items [] number terminal
terminal-rests settings v past exchanges number terminal found clear none p = record {
  peer = λ linked uncut.
      subst (λ (calls : List OwedCall). IsPeer (ask_owed number calls) (settings terminal.pt.poi) (exchanges terminal.pt.poi) number v.items past.commands calls terminal) none
      (p.peers clear number terminal found linked (ap (cut_owed number) none));
  unlinked = λ due is. p.unlinked number terminal due found is;
  heard = λ connected. p.heard number terminal found connected;
  made = λ linked. p.made number terminal found linked;
}

-- what such an item begins with
pub plays-between : (settings : List ℕ → Setting) (v : View) (past : Past) (exchanges : List ℕ → List PlacedExchange) (item : RoundItem) (rest : List RoundItem) → is_handle item ≡ false → Begins v → v.items ≡ item ∷ rest → Plays settings v past exchanges
    → PlaysBetween settings exchanges v.scene past item rest
plays-between settings v past exchanges item rest none b e p = record {
  each = λ number terminal found.
      terminal-stays settings exchanges v.scene.outside past v.items rest [] number terminal terminal refl refl refl (ap (pending number) e ∙ pending-same item rest none number) refl
      (terminal-rests settings v past exchanges number terminal found (clear-where v.scene.stage is_round refl b.idle.round) b.idle.calls p);
  served = λ handles. subst ChargeNone e (p.served (ap (list_any is_handle) e ∙ ap (λ b. b || list_any is_handle rest) none ∙ handles));
}

-- what the row of an item leaves, by what it begins with
abbrev pub LeavesPlaying : RoundItem → Type 0
LeavesPlaying item =
    (settings : List ℕ → Setting) (exchanges : List ℕ → List PlacedExchange) (scene : Scene) (setup : Setup) (past : Past) (rest : List RoundItem)
    → PlaysBetween settings exchanges scene past item rest → IsInOrder (known_in scene setup) → IsReadItem setup item → RowPlays settings exchanges scene.outside past rest (row_of scene.outside.tills (known_in scene setup) item)

pub item-plays : (item : RoundItem) → is_handle item ≡ false → ((scene : Scene) (past : Past) → ends_of scene past (occasion_of scene.core item) ≡ []) → LeavesPlaying item → PlaysItem item
item-plays item none ends leaves settings log v past exchanges rest o next b e p =
    let k = round-setup v o.agrees.run b.idle.round in
    let between = plays-between settings v past exchanges item rest none b e p in
    let row = leaves settings exchanges v.scene k.setup past rest between (between-items log v o k (round-runs v.scene.stage b.idle.round) b.idle.calls) (first-was-read log v item rest o k e) in
    subst (λ (items : List RoundItem). Plays settings (after (record v { items = items }) Begin) (past_after (record v { items = items }) past Begin) exchanges) (sym e)
    (row-plays settings v past exchanges item rest (row_at v.scene item) none (ends v.scene past) e p (subst (RowPlays settings exchanges v.scene.outside past rest) (sym (row-is v.scene k item)) row))

-- ---- rows that leave each terminal as it was

-- no such call asks a terminal for anything, or charges a card
pub record IsPlain (calls : List OwedCall) : Type 0 where
  pub asks_none : (number : ℕ) → ask_owed number calls ≡ false
  pub charges_none : (number : ℕ) → charge_owed number calls ≡ false

pub none-plain : IsPlain []
none-plain = record { asks_none = λ number. refl; charges_none = λ number. refl }

pub replies-plain : (asker : Option ℕ) (reply : Option ReplyValue) → IsPlain (reply_calls_to asker reply)
replies-plain None reply = none-plain
replies-plain (Some till) None = none-plain
replies-plain (Some till) (Some reply) = record { asks_none = λ number. refl; charges_none = λ number. refl }

pub replies-link-none : (asker : Option ℕ) (reply : Option ReplyValue) (number : ℕ) → link_owed number (reply_calls_to asker reply) ≡ false
replies-link-none None reply number = refl
replies-link-none (Some till) None number = refl
replies-link-none (Some till) (Some reply) number = refl

-- each terminal is there as it was
pub same-so : (core : Core) (number : ℕ) (terminal : Terminal) → slice_get core.terminals number ≡ Some terminal → WasSo core number terminal
same-so core number terminal found = record { old = terminal; found = found; pt_is = refl; standing_is = refl; talk_is = refl }

-- so is it where a till is forgotten
gone-so : (core : Core) (till number : ℕ) (terminal : Terminal) → slice_get (core_without core till).terminals number ≡ Some terminal → WasSo core number terminal
gone-so core till number terminal found =
    let there = image-there (forgets_till till) core.terminals number terminal found in
    let same : forgets_till till there.0 ≡ terminal = same-some (forgets_till till there.0) terminal (sym (there-image (forgets_till till) core.terminals number there.0 there.1) ∙ found) in
    record { old = there.0; found = there.1; pt_is = ap (λ (t : Terminal). t.pt) same; standing_is = ap (λ (t : Terminal). t.standing) same; talk_is = ap (λ (t : Terminal). t.talk) same }

module _ (settings : List ℕ → Setting) (exchanges : List ℕ → List PlacedExchange) (scene : Scene) (past : Past) (item : RoundItem) (rest : List RoundItem) (between : PlaysBetween settings exchanges scene past item rest) where
  -- what the row of a terminal leaves
  abbrev Leaves : Row → Type 0
  Leaves row = RowPlays settings exchanges scene.outside past rest row

  -- no later item begins a command that may charge a card, where one handles what was said
  later-served : list_any is_handle rest ≡ true → ChargeNone rest
  later-served handles = later-charge-none item rest (between.served handles)

  -- a terminal that was there so
  pub so-plays : (items : List RoundItem) (calls : List OwedCall) (number : ℕ) (terminal : Terminal) → WasSo scene.core number terminal → pending number rest ≡ pending number items → ask_owed number calls ≡ false
      → TerminalPlays settings exchanges scene.outside past items calls number terminal
  so-plays items calls number terminal was same none =
      terminal-stays settings exchanges scene.outside past rest items calls number was.old terminal was.pt_is was.standing_is was.talk_is same none (between.each number was.old was.found)

  -- a row that leaves each so, and brings no item
  pub still-plays : (core : Core) (calls : List OwedCall) → ((number : ℕ) (terminal : Terminal) → slice_get core.terminals number ≡ Some terminal → WasSo scene.core number terminal) → IsPlain calls
      → ((number : ℕ) → link_owed number calls ≡ true → pending number rest ≡ []) → Leaves (becoming core calls)
  still-plays core calls so plain linking = record {
    each = λ number terminal found. so-plays rest calls number terminal (so number terminal found) refl (plain.asks_none number);
    linking = linking;
    handles = λ handles. handles;
    uncharged = λ handles number. plain.charges_none number;
    served = later-served;
  }

  -- one that changes nothing and links none
  pub quiet-plays : (calls : List OwedCall) → IsPlain calls → ((number : ℕ) → link_owed number calls ≡ false) → Leaves (becoming scene.core calls)
  quiet-plays calls plain none = still-plays scene.core calls (same-so scene.core) plain (λ number links. no-true (sym (none number) ∙ links))

  pub nothing-plays : Leaves (becoming scene.core [])
  nothing-plays = quiet-plays [] none-plain (λ number. refl)

  cut-till-plays : (till : ℕ) → Leaves (becoming scene.core (CutTill till ∷ []))
  cut-till-plays till = quiet-plays (CutTill till ∷ []) (record { asks_none = λ number. refl; charges_none = λ number. refl }) (λ number. refl)

  cut-pt-plays : (pt : ℕ) → Leaves (becoming scene.core (CutPt pt ∷ []))
  cut-pt-plays pt = quiet-plays (CutPt pt ∷ []) (record { asks_none = λ number. refl; charges_none = λ number. refl }) (λ number. refl)

  never-charges : (b : Bool) → ((b && false) || false) ≡ false
  never-charges true = refl
  never-charges false = refl

  sends : (pt : ℕ) (sending : Sending) → IsPlain (SendPt pt sending ∷ []) → Leaves (becoming scene.core (SendPt pt sending ∷ []))
  sends pt sending plain = quiet-plays (SendPt pt sending ∷ []) plain (λ number. refl)

  acknowledged : (pt : ℕ) → Leaves (becoming scene.core (SendPt pt Acknowledge ∷ []))
  acknowledged pt = sends pt Acknowledge (record { asks_none = λ number. refl; charges_none = λ number. never-charges (pt == number) })

  refused : (pt : ℕ) → Leaves (becoming scene.core (SendPt pt Refuse ∷ []))
  refused pt = sends pt Refuse (record { asks_none = λ number. refl; charges_none = λ number. never-charges (pt == number) })

  -- an acknowledgement or a refusal of what a terminal has said
  sending-plays : (pt : ℕ) (message : MessageValue) → Leaves (becoming scene.core (sending_calls pt (greeting message)))
  sending-plays pt Ack = nothing-plays
  sending-plays pt (Nack error_code) = nothing-plays
  sending-plays pt (Intermediate intermediate_status) = acknowledged pt
  sending-plays pt (Line text) = acknowledged pt
  sending-plays pt (Block objects) = acknowledged pt
  sending-plays pt (Status fields) = acknowledged pt
  sending-plays pt Completion = acknowledged pt
  sending-plays pt (Abort result_code) = acknowledged pt
  sending-plays pt Other = refused pt

  -- the link of a terminal that is due: nothing of it is handled any more
  link-pt-plays : (pt : ℕ) (terminal : Terminal) → slice_get scene.core.terminals pt ≡ Some terminal → is_due scene.outside.moment terminal.standing ≡ true → Leaves (becoming scene.core (LinkPt pt ∷ []))
  link-pt-plays pt terminal found due =
      still-plays scene.core (LinkPt pt ∷ []) (same-so scene.core) (record { asks_none = λ number. refl; charges_none = λ number. refl }) (λ number links. linking number (pt == number) refl links)
    where
      none_pending : (standing : Standing) → is_due scene.outside.moment standing ≡ true → terminal.standing ≡ standing → pending pt rest ≡ []
      none_pending (Unlinked at) is_due_then is = by ((between.each pt terminal found).unlinked at is).1
        where
          by : (pending pt rest ≡ []) ⊎ (is_due_by scene.outside.moment at ≡ false) → pending pt rest ≡ []
          by (inl none) = none
          by (inr later) = no-true (sym later ∙ is_due_then)
      none_pending Registering is_due_then is = no-true is_due_then
      none_pending Enquiring is_due_then is = no-true is_due_then
      none_pending (Ready last) is_due_then is = no-true is_due_then
      none_pending (Serving service last) is_due_then is = no-true is_due_then
      none_pending (Aside before reported) is_due_then is = no-true is_due_then

      linking : (number : ℕ) (test : Bool) → (pt == number) ≡ test → (test || false) ≡ true → pending number rest ≡ []
      linking number true e links = ap (λ n. pending n rest) (sym (eqb-true pt number e)) ∙ none_pending terminal.standing due refl
      linking number false e links = no-true links

  due-later : (moment : ℕ) → is_due_by moment (Some (moment + 5)) ≡ false
  due-later moment = by (nat_le (moment + 5) moment) refl
    where
      by : (test : Bool) → nat_le (moment + 5) moment ≡ test → test ≡ false
      by true e = absurd (let now = leb-true (moment + 5) moment e in omega (arith, now))
      by false e = refl

  -- a terminal loses its link
  unlinked-plays : (pt : ℕ) (terminal : Terminal) → slice_get scene.core.terminals pt ≡ Some terminal → (calls : List OwedCall) → IsPlain calls → ((number : ℕ) → link_owed number calls ≡ false)
      → Leaves (becoming (with_terminal scene.core pt (unlinked_terminal terminal scene.outside.moment)) calls)
  unlinked-plays pt terminal found calls plain links_none = record {
    each = each-in-place (λ number one. TerminalPlays settings exchanges scene.outside past rest calls number one) scene.core pt (unlinked_terminal terminal scene.outside.moment)
        (λ number one apart there. so-plays rest calls number one (same-so scene.core number one there) refl (plain.asks_none number))
        (record {
          peer = λ linked. no-true linked;
          unlinked = λ due is. (refl, inr (subst (λ (at : Option ℕ). is_due_by scene.outside.moment at ≡ false) (due_is due is) (due-later scene.outside.moment)));
          heard = (between.each pt terminal found).heard;
          made = λ linked. no-true linked;
        });
    linking = λ number links. no-true (sym (links_none number) ∙ links);
    handles = λ handles. handles;
    uncharged = λ handles number. plain.charges_none number;
    served = later-served;
  }
    where
      due_is : (due : Option ℕ) → Unlinked (Some (scene.outside.moment + 5)) ≡ Unlinked due → Some (scene.outside.moment + 5) ≡ due
      due_is due is = cc

-- ---- tills

pub crowded-plays : (till : ℕ) → PlaysItem (Crowded till)
crowded-plays till = item-plays (Crowded till) refl (λ scene past. refl) (λ settings exchanges scene setup past rest between order read. cut-till-plays settings exchanges scene past (Crowded till) rest between till)

pub message-plays : (till : ℕ) (bytes : List ℕ) → PlaysItem (MessageItem till bytes)
message-plays till bytes = item-plays (MessageItem till bytes) refl (λ scene past. refl) (λ settings exchanges scene setup past rest between order read. nothing-plays settings exchanges scene past (MessageItem till bytes) rest between)

pub unframed-plays : (till : ℕ) → PlaysItem (Unframed till)
unframed-plays till = item-plays (Unframed till) refl (λ scene past. refl) (λ settings exchanges scene setup past rest between order read.
    by-where (λ (row : Row). RowPlays settings exchanges scene.outside past rest row) (known_in scene setup) (owing (known_in scene setup) (CutTill till ∷ [])) (is_connected scene.outside.tills till)
    (nothing-plays settings exchanges scene past (Unframed till) rest between) (λ there. cut-till-plays settings exchanges scene past (Unframed till) rest between till))

pub gone-plays : (till : ℕ) → PlaysItem (Gone till)
gone-plays till = item-plays (Gone till) refl (λ scene past. refl) (λ settings exchanges scene setup past rest between order read.
    still-plays settings exchanges scene past (Gone till) rest between (core_without scene.core till) [] (gone-so scene.core till) none-plain (λ number links. no-true links))

-- the items bring nothing that a terminal has said
record BringsNoneSaid (rest items : List RoundItem) : Type 0 where
  pending_same : (number : ℕ) → pending number rest ≡ pending number (items ++ rest)
  handles : list_any is_handle (items ++ rest) ≡ true → list_any is_handle rest ≡ true

-- what a message of a till begins leads to a command, so that no later item handles what was said
asked-leaves : (till : ℕ) (as_read : ReadAs) (settings : List ℕ → Setting) (exchanges : List ℕ → List PlacedExchange) (scene : Scene) (setup : Setup) (past : Past) (rest : List RoundItem)
    → PlaysBetween settings exchanges scene past (Asked till as_read) rest → RowPlays settings exchanges scene.outside past rest (asked_row (known_in scene setup) till as_read)
asked-leaves till as_read settings exchanges scene setup past rest between =
    let known : Known = known_in scene setup in
    let brings : BringsNoneSaid rest (begun_by known till as_read) =
    form-begun (λ (items : List RoundItem). BringsNoneSaid rest items) known till (record { pending_same = λ number. refl; handles = λ handles. handles }) as_read
    (λ number header request is. record { pending_same = λ other. refl; handles = λ handles. handles }) (λ number header request is. record { pending_same = λ other. refl; handles = λ handles. handles }) in
    let reply : Option ReplyValue = reply_to known as_read in
    let plain : IsPlain (reply_calls_to (Some till) reply) = replies-plain (Some till) reply in
    record {
      each = λ number terminal found.
          so-plays settings exchanges scene past (Asked till as_read) rest between (begun_by known till as_read ++ rest) (reply_calls_to (Some till) reply) number terminal (same-so scene.core number terminal found) (brings.pending_same number)
          (plain.asks_none number);
      linking = λ number links. no-true (sym (replies-link-none (Some till) reply number) ∙ links);
      handles = brings.handles;
      uncharged = λ handles number. plain.charges_none number;
      served = λ handles. no-true (sym (between.served (brings.handles handles)).1);
    }

pub asked-plays : (till : ℕ) (as_read : ReadAs) → PlaysItem (Asked till as_read)
asked-plays till as_read = item-plays (Asked till as_read) refl (λ scene past. asked-ends-none scene past as_read) (λ settings exchanges scene setup past rest between order read.
    by-where (λ (row : Row). RowPlays settings exchanges scene.outside past rest row) (known_in scene setup) (asked_row (known_in scene setup) till as_read) (is_connected scene.outside.tills till)
    (nothing-plays settings exchanges scene past (Asked till as_read) rest between) (λ there. asked-leaves till as_read settings exchanges scene setup past rest between))

-- ---- terminals

greet-leaves : (pt : ℕ) (apdu : ApduValue) → LeavesPlaying (Greet pt apdu)
greet-leaves pt apdu settings exchanges scene setup past rest between order read = by_decoded (decode_pt_message apdu)
  where
    by_decoded : (decoded : Result MessageValue PtFault) → RowPlays settings exchanges scene.outside past rest (greet_decoded (known_in scene setup) pt decoded)
    by_decoded (Ok message) =
        each-linked (λ (row : Row). RowPlays settings exchanges scene.outside past rest row) (known_in scene setup) pt (λ terminal. owing (known_in scene setup) (sending_calls pt (greeting message)))
        (nothing-plays settings exchanges scene past (Greet pt apdu) rest between) (λ terminal found linked. sending-plays settings exchanges scene past (Greet pt apdu) rest between pt message)
    by_decoded (Err fault) =
        each-linked (λ (row : Row). RowPlays settings exchanges scene.outside past rest row) (known_in scene setup) pt (λ terminal. cutting (known_in scene setup) pt)
        (nothing-plays settings exchanges scene past (Greet pt apdu) rest between) (λ terminal found linked. cut-pt-plays settings exchanges scene past (Greet pt apdu) rest between pt)

pub greet-plays : (pt : ℕ) (apdu : ApduValue) → PlaysItem (Greet pt apdu)
greet-plays pt apdu = item-plays (Greet pt apdu) refl (λ scene past. refl) (greet-leaves pt apdu)

pub oversized-plays : (pt : ℕ) → PlaysItem (Oversized pt)
oversized-plays pt = item-plays (Oversized pt) refl (λ scene past. refl) (λ settings exchanges scene setup past rest between order read.
    each-linked (λ (row : Row). RowPlays settings exchanges scene.outside past rest row) (known_in scene setup) pt (λ terminal. cutting (known_in scene setup) pt)
    (nothing-plays settings exchanges scene past (Oversized pt) rest between) (λ terminal found linked. cut-pt-plays settings exchanges scene past (Oversized pt) rest between pt))

pub link-lost-plays : (pt : ℕ) → PlaysItem (LinkLost pt)
link-lost-plays pt = item-plays (LinkLost pt) refl (λ scene past. refl) (λ settings exchanges scene setup past rest between order read.
    each-terminal (λ (row : Row). RowPlays settings exchanges scene.outside past rest row) (known_in scene setup) pt (unlinks (known_in scene setup) pt)
    (nothing-plays settings exchanges scene past (LinkLost pt) rest between)
    (λ terminal found.
    unlinked-plays settings exchanges scene past (LinkLost pt) rest between pt terminal found (reply_calls_to terminal.asker (reply_to_lost terminal.standing)) (replies-plain terminal.asker (reply_to_lost terminal.standing))
    (replies-link-none terminal.asker (reply_to_lost terminal.standing))))

pub late-plays : (pt : ℕ) → PlaysItem (Late pt)
late-plays pt = item-plays (Late pt) refl (λ scene past. refl) (λ settings exchanges scene setup past rest between order read.
    each-terminal (λ (row : Row). RowPlays settings exchanges scene.outside past rest row) (known_in scene setup) pt
    (λ terminal. owing_where (is_late scene.outside.moment terminal.talk) (known_in scene setup) (cutting (known_in scene setup) pt))
    (nothing-plays settings exchanges scene past (Late pt) rest between)
    (λ terminal found.
    by-where (λ (row : Row). RowPlays settings exchanges scene.outside past rest row) (known_in scene setup) (cutting (known_in scene setup) pt) (is_late scene.outside.moment terminal.talk)
    (nothing-plays settings exchanges scene past (Late pt) rest between) (λ late. cut-pt-plays settings exchanges scene past (Late pt) rest between pt)))

pub due-plays : (pt : ℕ) → PlaysItem (Due pt)
due-plays pt = item-plays (Due pt) refl (λ scene past. refl) (λ settings exchanges scene setup past rest between order read.
    each-terminal (λ (row : Row). RowPlays settings exchanges scene.outside past rest row) (known_in scene setup) pt
    (λ terminal. owing_where (is_due scene.outside.moment terminal.standing) (known_in scene setup) (owing (known_in scene setup) (LinkPt pt ∷ [])))
    (nothing-plays settings exchanges scene past (Due pt) rest between)
    (λ terminal found.
    by-where (λ (row : Row). RowPlays settings exchanges scene.outside past rest row) (known_in scene setup) (owing (known_in scene setup) (LinkPt pt ∷ [])) (is_due scene.outside.moment terminal.standing)
    (nothing-plays settings exchanges scene past (Due pt) rest between) (λ due. link-pt-plays settings exchanges scene past (Due pt) rest between pt terminal found due)))

-- ---- the first item begins

-- as the first item begins
abbrev pub BeginPlays : Type 0
BeginPlays =
    (settings : List ℕ → Setting) (log : List Turn) (v : View) (past : Past) (exchanges : List ℕ → List PlacedExchange)
    → Ordered log v → Ordered log (after v Begin) → Begins v → Plays settings v past exchanges → Plays settings (after v Begin) (past_after v past Begin) exchanges

-- where each item keeps what holds, so does the beginning of the first
pub begin-plays : ((item : RoundItem) → PlaysItem item) → BeginPlays
begin-plays each settings log v past exchanges o next b p = by_items v.items refl
  where
    by_items : (items : List RoundItem) → v.items ≡ items → Plays settings (after v Begin) (past_after v past Begin) exchanges
    by_items [] e = no-true (sym (ap (may_begin v.scene) e) ∙ b.first)
    by_items (item ∷ rest) e = each item settings log v past exchanges rest o next b e p

-- each item does, where those do that handle what was said, that serve, and that look at what waits
pub each-item-plays : ((pt : ℕ) (apdu : ApduValue) → PlaysItem (Handle pt apdu)) → ((pt till : ℕ) (header : Header) (request : SaleRequest) → PlaysItem (Serve pt till header request))
    → ((pt till : ℕ) (header : Header) (request : SaleRequest) → PlaysItem (Queue pt till header request)) → ((pt : ℕ) → PlaysItem (NextWaiting pt)) → ((key : Key) → PlaysItem (Overdue key)) → (item : RoundItem) → PlaysItem item
each-item-plays handled served queued next overdue (Crowded till) = crowded-plays till
each-item-plays handled served queued next overdue (MessageItem till bytes) = message-plays till bytes
each-item-plays handled served queued next overdue (Asked till as_read) = asked-plays till as_read
each-item-plays handled served queued next overdue (Unframed till) = unframed-plays till
each-item-plays handled served queued next overdue (Gone till) = gone-plays till
each-item-plays handled served queued next overdue (Greet pt apdu) = greet-plays pt apdu
each-item-plays handled served queued next overdue (Handle pt apdu) = handled pt apdu
each-item-plays handled served queued next overdue (Serve pt till header request) = served pt till header request
each-item-plays handled served queued next overdue (Queue pt till header request) = queued pt till header request
each-item-plays handled served queued next overdue (NextWaiting pt) = next pt
each-item-plays handled served queued next overdue (Oversized pt) = oversized-plays pt
each-item-plays handled served queued next overdue (LinkLost pt) = link-lost-plays pt
each-item-plays handled served queued next overdue (Late pt) = late-plays pt
each-item-plays handled served queued next overdue (Overdue key) = overdue key
each-item-plays handled served queued next overdue (Due pt) = due-plays pt

-- ---- a message is read

-- as the first item, a message, is read
abbrev pub ReadPlays : Type 0
ReadPlays =
    (settings : List ℕ → Setting) (log : List Turn) (v : View) (past : Past) (exchanges : List ℕ → List PlacedExchange) (as_read : ReadAs)
    → Ordered log v → IsRead v as_read → Plays settings v past exchanges → Plays settings (after v (Read as_read)) (past_after v past (Read as_read)) exchanges

-- a list of items by what it handles and may lead to
record HasSame (items others : List RoundItem) : Type 0 where
  pending_same : (number : ℕ) → pending number items ≡ pending number others
  handles : list_any is_handle others ≡ list_any is_handle items
  charges : (one : ℕ) → list_any (brings_charge one) items ≡ list_any (brings_charge one) others

all-same : (items : List RoundItem) → HasSame items items
all-same items = record { pending_same = λ number. refl; handles = refl; charges = λ one. refl }

read-same : (as_read : ReadAs) (items : List RoundItem) → HasSame items (read_first as_read items)
read-same as_read [] = all-same []
read-same as_read (Crowded till ∷ items) = all-same (Crowded till ∷ items)
read-same as_read (MessageItem till bytes ∷ items) = record { pending_same = λ number. refl; handles = refl; charges = λ one. refl }
read-same as_read (Asked till other ∷ items) = all-same (Asked till other ∷ items)
read-same as_read (Unframed till ∷ items) = all-same (Unframed till ∷ items)
read-same as_read (Gone till ∷ items) = all-same (Gone till ∷ items)
read-same as_read (Greet pt apdu ∷ items) = all-same (Greet pt apdu ∷ items)
read-same as_read (Handle pt apdu ∷ items) = all-same (Handle pt apdu ∷ items)
read-same as_read (Serve pt till header request ∷ items) = all-same (Serve pt till header request ∷ items)
read-same as_read (Queue pt till header request ∷ items) = all-same (Queue pt till header request ∷ items)
read-same as_read (NextWaiting pt ∷ items) = all-same (NextWaiting pt ∷ items)
read-same as_read (Oversized pt ∷ items) = all-same (Oversized pt ∷ items)
read-same as_read (LinkLost pt ∷ items) = all-same (LinkLost pt ∷ items)
read-same as_read (Late pt ∷ items) = all-same (Late pt ∷ items)
read-same as_read (Overdue key ∷ items) = all-same (Overdue key ∷ items)
read-same as_read (Due pt ∷ items) = all-same (Due pt ∷ items)

pub read-plays : ReadPlays
read-plays settings log v past exchanges as_read o r p =
    let same : HasSame v.items (read_first as_read v.items) = read-same as_read v.items in
    let clear : is_broken v.scene.stage ≡ false = clear-where v.scene.stage is_round refl r.idle.round in
    let each : (number : ℕ) (terminal : Terminal) → slice_get v.scene.core.terminals number ≡ Some terminal
    → TerminalPlays settings exchanges v.scene.outside past (read_first as_read v.items) [] number terminal = λ number terminal found.
    terminal-stays settings exchanges v.scene.outside past v.items (read_first as_read v.items) [] number terminal terminal refl refl refl (same.pending_same number) refl
    (terminal-rests settings v past exchanges number terminal found clear r.idle.calls p) in
    record {
      peers = λ runs number terminal found linked uncut. (each number terminal found).peer linked uncut;
      unlinked = λ number terminal due found is. (each number terminal found).unlinked due is;
      linking = λ number links. no-true links;
      heard = λ number terminal found connected. (each number terminal found).heard connected;
      calm = λ handles. p.calm (sym same.handles ∙ handles);
      uncharged = λ handles number. refl;
      served = λ handles. (let none = p.served (sym same.handles ∙ handles) in (none.0, sym (same.charges none.0) ∙ none.1));
      heard_before = p.heard_before;
      falling = p.falling;
      linked_before = p.linked_before;
      ends = p.ends;
      made = λ number terminal found linked. (each number terminal found).made linked;
      places = p.places;
      honest = p.honest;
    }
