-- What holds along a lawful course of trace numbers holds after each turn, and after a message is read.
use Rattle.std.proofs.Common.{◌≡◌, ◌≤◌, ◌∙◌, ℕ, ◌+◌, Bool, true, false, List, [], ◌∷◌, ◌++◌, refl, sym, ap, subst, arith, inl, append-nil, length}
use Rattle.std.specs.Prelude.{ℤ, if◌then◌else◌, slice_get, Option, Some, None, option_to_list}
use Rattle.std.specs.List.{list_any}
use Rattle.gw_base.specs.declared.setup.Setup.{Setup}
use Rattle.gw_site.specs.Outside.{heard_on}
use Rattle.gw_site.specs.declared.turn.Turn.{Turn}
use Rattle.gw_site.specs.declared.turn.Turn.TheVariants.{Start, OpenFailed, Polled, Opened, HeardTill, Closed, HeardPt, Lost, Stopped, Linked, LinkFailed, SentTill, SentPt, CutTill, CutPt, Wrote, Synced, DiskFailed, Crash}
use Rattle.sale_frame.specs.Decode.{DecodedFrames, decode_after, decode_frames}
use Rattle.zvt_apdu.specs.DecodeStream.{DecodedApdus, decode_apdus}
use Rattle.jrn_log.specs.Decode.{has_gate}
use Rattle.jrn_record.specs.declared.records.Record.{Record}
use Rattle.gw_ledger.specs.History.{history}
use Rattle.gw_owes.specs.declared.terminal.Terminal.{Terminal}
use Rattle.gw_owes.specs.Calls.{OwedCall, Sync, records_kept}
use Rattle.gw_owes.specs.Core.{Core, new_core, new_terminal}
use Rattle.gw_owes.specs.Events.{till_opened_items, decoded_items, decoded_apdu_items}
use Rattle.gw_owes.specs.Items.{RoundItem, Crowded, Message, Asked, Unframed, Gone, Greet, Handle, Serve, Queue, NextWaiting, Oversized, LinkLost, Late, Overdue, Due}
use Rattle.gw_owes.specs.ReadAs.{ReadAs}
use Rattle.gw_owes.proofs.RecordLemmas.{LedgerLaws}
use Rattle.gw_owes.proofs.SetLemmas.{same-some}
use Rattle.gw_rules.specs.LedgerRules.{ledger_rules}
use Rattle.gw_rules.specs.Opening.{kept_of}
use Rattle.gw_rules.specs.RecordOrder.{records_coming}
use Rattle.gw_rules.specs.Scene.{records_of}
use Rattle.gw_rules.specs.Stage.{is_round}
use Rattle.gw_rules.specs.View.{View, Make, after_turn, at_first, later, read_first}
use Rattle.gw_rules.proofs.KeptLawLemmas.{holds}
use Rattle.gw_rules.proofs.OpensLemmas.{opens-all}
use Rattle.gw_rules.proofs.RecordOrderLemmas.{written-coming}
use Rattle.gw_rules.proofs.RecordRowLemmas.{first-later}
use Rattle.gw_rules.proofs.StageLemmas.{no-true}
use Rattle.gw_rules.proofs.TranscriptLogLemmas.{image-there, there-image}
use Rattle.gw_books.specs.Past.{MadeLink, Past, no_past, past_after, numbering_at}
use Rattle.gw_books.specs.Books.{BookedEntry}
use Rattle.gw_books.proofs.Holding.{charge_owed, is_handle}
use Rattle.gw_books.proofs.ListLemmas.{In}
use Rattle.gw_books.proofs.Numbering.{AreRecordsNumbered, AreStandingsNumbered, IsStandingNumbered, Numbered, ReadNumbers, TurnNumbers, handles_after_due, link_owed}
use Rattle.gw_books.proofs.TurnHoldsLemmas.{due-handles-none, handles_none, opened-handles-none, then-due, till-handles-none}
use Rattle.gw_books.proofs.CallNumberLemmas.{cut-pt-numbers, cut-till-numbers, link-failed-numbers, linked-numbers, sent-pt-numbers, sent-till-numbers}
use Rattle.gw_books.proofs.NumberStepLemmas.{charge-later, file-numbered, link-later, none-after-due, ordered-due, pt-dues-none, stays-numbered}

-- ---- events of the site, and polls

-- no call was owed and none is, and the same is kept and remembered
event-numbered : (v w : View) (past now : Past) (book : List BookedEntry) → Numbered v past book → now.commands ≡ past.commands → now.links ≡ past.links → now.place ≡ past.place + 1
    → v.calls ≡ [] → w.calls ≡ [] → w.scene.kept ≡ v.scene.kept → w.scene.flight ≡ v.scene.flight → w.scene.core ≡ v.scene.core → handles_after_due w.items ≡ false
    → (list_any is_handle w.items ≡ true → (link : MadeLink) → In link past.links → link.place ≤ now.heard) → Numbered w now book
event-numbered v w past now book n commands links place before none kept flight core ordered linked = stays-numbered v w past now book n (record {
  commands = commands;
  links = links;
  place = place;
  kept = subst (λ (records : List Record). AreRecordsNumbered book past.commands past.place records) (sym kept) n.kept;
  coming = subst (λ (records : List Record). AreRecordsNumbered book past.commands past.place records) (sym coming) n.coming;
  standings = subst (λ (c : Core). AreStandingsNumbered past book c) (sym core) n.standings;
  asked = λ number terminal found owed. no-true (sym (ap (charge_owed number) none) ∙ owed);
  ordered = ordered;
  linking = λ owed. no-true (sym (ap link_owed none) ∙ owed);
  linked = linked;
})
  where
    coming : records_coming w ≡ records_coming v
    coming =
        ap (λ (l : List Record). l ++ records_kept w.calls) (ap (λ (l : List Record). l ++ option_to_list w.scene.flight) kept ∙ ap (λ (f : Option Record). v.scene.kept ++ option_to_list f) flight)
        ∙ ap (λ (calls : List OwedCall). records_of v.scene ++ records_kept calls) (none ∙ sym before)

-- with items none of which handles an APDU
quiet-event : (v w : View) (past now : Past) (book : List BookedEntry) → Numbered v past book → now.commands ≡ past.commands → now.links ≡ past.links → now.place ≡ past.place + 1
    → v.calls ≡ [] → w.calls ≡ [] → w.scene.kept ≡ v.scene.kept → w.scene.flight ≡ v.scene.flight → w.scene.core ≡ v.scene.core → handles_none w.items → Numbered w now book
quiet-event v w past now book n commands links place before none kept flight core quiet =
    event-numbered v w past now book n commands links place before none kept flight core (none-after-due w.items quiet) (λ handles. no-true (sym quiet ∙ handles))

polled-numbers : (now : ℤ) → TurnNumbers (Polled now)
polled-numbers now log v past book o ok h n = quiet-event v (after_turn v (Polled now)) past (past_after v past (Make (Polled now))) book n refl refl refl ok.calls refl refl refl refl (due-handles-none v.scene.core)

opened-numbers : (till : ℕ) → TurnNumbers (Opened till)
opened-numbers till log v past book o ok h n =
    quiet-event v (after_turn v (Opened till)) past (past_after v past (Make (Opened till))) book n refl refl refl (o.owing.polled ok.0) refl refl refl refl
    (then-due (till_opened_items till v.scene.outside.tills) v.scene.core (opened-handles-none till v.scene.outside.tills))

heard-till-numbers : (till : ℕ) (bytes : List ℕ) → TurnNumbers (HeardTill till bytes)
heard-till-numbers till bytes log v past book o ok h n =
    let decoded : DecodedFrames = decode_after (decode_frames (heard_on v.scene.outside.tills till)).rest bytes in
    quiet-event v (after_turn v (HeardTill till bytes)) past (past_after v past (Make (HeardTill till bytes))) book n refl refl refl (o.owing.polled ok.0.polled) refl refl refl refl
    (then-due (decoded_items till decoded) v.scene.core (till-handles-none till decoded))

closed-numbers : (till : ℕ) → TurnNumbers (Closed till)
closed-numbers till log v past book o ok h n =
    quiet-event v (after_turn v (Closed till)) past (past_after v past (Make (Closed till))) book n refl refl refl (o.owing.polled ok.polled) refl refl refl refl (then-due (Gone till ∷ []) v.scene.core refl)

lost-numbers : (pt : ℕ) → TurnNumbers (Lost pt)
lost-numbers pt log v past book o ok h n =
    quiet-event v (after_turn v (Lost pt)) past (past_after v past (Make (Lost pt))) book n refl refl refl (o.owing.polled ok.polled) refl refl refl refl (then-due (LinkLost pt ∷ []) v.scene.core refl)

stopped-numbers : TurnNumbers Stopped
stopped-numbers log v past book o ok h n = quiet-event v (after_turn v Stopped) past (past_after v past (Make Stopped)) book n refl refl refl (o.owing.polled ok) refl refl refl refl refl

-- what is heard of a terminal is heard after each link was made
heard-pt-numbers : (pt : ℕ) (bytes : List ℕ) → TurnNumbers (HeardPt pt bytes)
heard-pt-numbers pt bytes log v past book o ok h n =
    let decoded : DecodedApdus = decode_apdus ((decode_apdus (heard_on v.scene.outside.links pt)).rest ++ bytes) in
    event-numbered v (after_turn v (HeardPt pt bytes)) past (past_after v past (Make (HeardPt pt bytes))) book n refl refl refl (o.owing.polled ok.0.polled) refl refl refl refl
    (ordered-due (decoded_apdu_items pt decoded) v.scene.core (pt-dues-none pt decoded)) (λ handles link within. let before = n.made link within in omega (arith, before))

-- ---- the disk

-- the first call was made, which is on the disk: the same is remembered, and the same records come
disk-numbered : (v w : View) (past now : Past) (book : List BookedEntry) → Numbered v past book → now.commands ≡ past.commands → now.links ≡ past.links → now.place ≡ past.place + 1 → now.heard ≡ past.heard
    → w.calls ≡ later v.calls → w.items ≡ v.items → w.scene.core ≡ v.scene.core → AreRecordsNumbered book past.commands past.place w.scene.kept → records_coming w ≡ records_coming v → Numbered w now book
disk-numbered v w past now book n commands links place heard calls items core kept coming = stays-numbered v w past now book n (record {
  commands = commands;
  links = links;
  place = place;
  kept = kept;
  coming = subst (λ (records : List Record). AreRecordsNumbered book past.commands past.place records) (sym coming) n.coming;
  standings = subst (λ (c : Core). AreStandingsNumbered past book c) (sym core) n.standings;
  asked = λ number terminal found owed.
      n.asked number terminal (ap (λ (c : Core). slice_get c.terminals number) (sym core) ∙ found) (charge-later number v.calls (ap (charge_owed number) (sym calls) ∙ owed));
  ordered = ap handles_after_due items ∙ n.ordered;
  linking = λ owed. ap (list_any is_handle) items ∙ n.linking (link-later v.calls (ap link_owed (sym calls) ∙ owed));
  linked = λ handles link within. subst (λ (hearing : ℕ). link.place ≤ hearing) (sym heard) (n.linked (ap (list_any is_handle) (sym items) ∙ handles) link within);
})

wrote-numbers : (offset : ℕ) (bytes : List ℕ) → TurnNumbers (Wrote offset bytes)
wrote-numbers offset bytes log v past book o ok h n = by_round (is_round v.scene.stage)
  where
    w : View
    w = after_turn v (Wrote offset bytes)

    by_round : (round : Bool) → Numbered w (record (if round then record past { deeds = past.occasion ∷ past.deeds } else past) { place = past.place + 1 }) book
    by_round true =
        disk-numbered v w past (record past { place = past.place + 1; deeds = past.occasion ∷ past.deeds }) book n refl refl refl refl refl refl refl n.kept
        (written-coming log v ok.0 (Wrote offset bytes) (holds ledger_rules log v o.keeps) ok.1 ok.2)
    by_round false =
        disk-numbered v w past (record past { place = past.place + 1 }) book n refl refl refl refl refl refl refl n.kept (written-coming log v ok.0 (Wrote offset bytes) (holds ledger_rules log v o.keeps) ok.1 ok.2)

synced-numbers : TurnNumbers Synced
synced-numbers log v past book o ok h n =
    let w : View = after_turn v Synced in
    let coming : records_coming w ≡ records_coming v =
    ap (λ (l : List Record). l ++ records_kept (later v.calls)) (append-nil (records_of v.scene)) ∙ ap (λ (l : List Record). records_of v.scene ++ l) (sym (ap records_kept (first-later v.calls Sync ok))) in
    disk-numbered v w past (record past { place = past.place + 1 }) book n refl refl refl refl refl refl refl (file-numbered log v past book o n) coming

-- ---- the ends of runs, and their beginning

-- what was owed is dropped
dropped-numbered : (v w : View) (past now : Past) (book : List BookedEntry) → Numbered v past book → now.commands ≡ past.commands → now.links ≡ past.links → now.place ≡ past.place + 1
    → ((number : ℕ) → charge_owed number w.calls ≡ false) → link_owed w.calls ≡ false → w.items ≡ [] → AreRecordsNumbered book past.commands past.place w.scene.kept
    → AreRecordsNumbered book past.commands past.place (records_coming w) → AreStandingsNumbered past book w.scene.core → Numbered w now book
dropped-numbered v w past now book n commands links place uncharged unlinked items kept coming standings = stays-numbered v w past now book n (record {
  commands = commands;
  links = links;
  place = place;
  kept = kept;
  coming = coming;
  standings = standings;
  asked = λ number terminal found owed. no-true (sym (uncharged number) ∙ owed);
  ordered = ap handles_after_due items;
  linking = λ owed. no-true (sym unlinked ∙ owed);
  linked = λ handles. no-true (sym (ap (list_any is_handle) items) ∙ handles);
})

no-terminal : {A : Type 0} (number : ℕ) (terminal : Terminal) → slice_get [] number ≡ Some terminal → A
no-terminal number terminal found = absurd (let n : None ≡ Some terminal = found in cc)

start-numbers : (setup : Setup) → TurnNumbers (Start setup)
start-numbers setup log v past book o ok h n =
    dropped-numbered v w past (past_after v past (Make (Start setup))) book n refl refl refl
    (λ number. opens-all (λ calls. charge_owed number calls ≡ false) refl refl setup v.scene.outside.file (records_of v.scene)) (opens-all (λ calls. link_owed calls ≡ false) refl refl setup v.scene.outside.file (records_of v.scene))
    refl n.kept (subst (λ (records : List Record). AreRecordsNumbered book past.commands past.place records) (sym coming) (file-numbered log v past book o n)) standings
  where
    w : View
    w = after_turn v (Start setup)

    none : records_kept w.calls ≡ []
    none = opens-all (λ calls. records_kept calls ≡ []) refl refl setup v.scene.outside.file (records_of v.scene)

    coming : records_coming w ≡ records_of v.scene
    coming = ap (λ (more : List Record). records_of v.scene ++ more) none ∙ append-nil (records_of v.scene)

    standings : AreStandingsNumbered past book (new_core setup)
    standings number terminal found =
        let was = image-there new_terminal setup.terminals number terminal found in
        subst (λ (t : Terminal). IsStandingNumbered past.links past.commands past.place book (numbering_at t.pt) t.standing) (same-some (new_terminal was.0) terminal (sym (there-image new_terminal setup.terminals number was.0 was.1) ∙ found)) tt

open-failed-numbers : TurnNumbers OpenFailed
open-failed-numbers log v past book o ok h n =
    let w : View = after_turn v OpenFailed in
    dropped-numbered v w past (past_after v past (Make OpenFailed)) book n refl refl refl (λ number. refl) refl refl n.kept
    (subst (λ (records : List Record). AreRecordsNumbered book past.commands past.place records) (sym (append-nil (records_of v.scene))) (file-numbered log v past book o n)) (λ number terminal found. no-terminal number terminal found)

crash-numbers : (file : List ℕ) → TurnNumbers (Crash file)
crash-numbers file log v past book o ok h n =
    dropped-numbered v w past (past_after v past (Make (Crash file))) book n refl refl refl (λ number. refl) refl refl (left (has_gate file (length v.scene.kept)))
    (subst (λ (records : List Record). AreRecordsNumbered book past.commands past.place records) (sym coming) (left (has_gate file (length v.scene.kept)))) (λ number terminal found. no-terminal number terminal found)
  where
    w : View
    w = after_turn v (Crash file)

    coming : records_coming w ≡ kept_of v.scene file
    coming = append-nil (kept_of v.scene file ++ []) ∙ append-nil (kept_of v.scene file)

    left : (gate : Bool) → AreRecordsNumbered book past.commands past.place (if gate then records_of v.scene else v.scene.kept)
    left true = file-numbered log v past book o n
    left false = n.kept

disk-failed-numbers : TurnNumbers DiskFailed
disk-failed-numbers log v past book o ok h n =
    let w : View = after_turn v DiskFailed in
    dropped-numbered v w past (past_after v past (Make DiskFailed)) book n refl refl refl (λ number. refl) refl refl n.kept
    (subst (λ (records : List Record). AreRecordsNumbered book past.commands past.place records) (sym (append-nil (records_of v.scene))) (file-numbered log v past book o n)) n.standings

-- ---- a message is read

-- what is read is no link, and nothing of a terminal to handle
read-handles : (as_read : ReadAs) (items : List RoundItem) → list_any is_handle (read_first as_read items) ≡ list_any is_handle items
read-handles as_read [] = refl
read-handles as_read (Crowded till ∷ items) = refl
read-handles as_read (Message till bytes ∷ items) = refl
read-handles as_read (Asked till other ∷ items) = refl
read-handles as_read (Unframed till ∷ items) = refl
read-handles as_read (Gone till ∷ items) = refl
read-handles as_read (Greet number apdu ∷ items) = refl
read-handles as_read (Handle number apdu ∷ items) = refl
read-handles as_read (Serve number till header request ∷ items) = refl
read-handles as_read (Queue number till header request ∷ items) = refl
read-handles as_read (NextWaiting number ∷ items) = refl
read-handles as_read (Oversized number ∷ items) = refl
read-handles as_read (LinkLost number ∷ items) = refl
read-handles as_read (Late number ∷ items) = refl
read-handles as_read (Overdue key ∷ items) = refl
read-handles as_read (Due number ∷ items) = refl

read-orders : (as_read : ReadAs) (items : List RoundItem) → handles_after_due (read_first as_read items) ≡ handles_after_due items
read-orders as_read [] = refl
read-orders as_read (Crowded till ∷ items) = refl
read-orders as_read (Message till bytes ∷ items) = refl
read-orders as_read (Asked till other ∷ items) = refl
read-orders as_read (Unframed till ∷ items) = refl
read-orders as_read (Gone till ∷ items) = refl
read-orders as_read (Greet number apdu ∷ items) = refl
read-orders as_read (Handle number apdu ∷ items) = refl
read-orders as_read (Serve number till header request ∷ items) = refl
read-orders as_read (Queue number till header request ∷ items) = refl
read-orders as_read (NextWaiting number ∷ items) = refl
read-orders as_read (Oversized number ∷ items) = refl
read-orders as_read (LinkLost number ∷ items) = refl
read-orders as_read (Late number ∷ items) = refl
read-orders as_read (Overdue key ∷ items) = refl
read-orders as_read (Due number ∷ items) = refl

pub read-numbers : ReadNumbers
read-numbers log v past book as_read o r h n = record {
  kept = n.kept;
  coming = subst (λ (calls : List OwedCall). AreRecordsNumbered book past.commands past.place (records_of v.scene ++ records_kept calls)) r.idle.calls n.coming;
  standings = n.standings;
  asked = λ number terminal found owed. no-true owed;
  made = n.made;
  ordered = read-orders as_read v.items ∙ n.ordered;
  linking = λ owed. no-true owed;
  linked = λ handles. n.linked (sym (read-handles as_read v.items) ∙ handles);
}

-- ---- before the first turn, and each turn

none-there : {A B : Type 0} (at : ℕ) (x : A) → slice_get [] at ≡ Some x → B
none-there at x found = absurd (let n : None ≡ Some x = found in cc)

-- of no records
no-records : (book : List BookedEntry) → AreRecordsNumbered book [] 0 []
unfolding history
no-records book = record { intents = λ slot intent there. absurd (let n : None ≡ Some intent = there in cc); last = λ numbering. inl refl }

pub first-numbered : (book : List BookedEntry) → Numbered at_first no_past book
first-numbered book = record {
  kept = no-records book;
  coming = no-records book;
  standings = λ number terminal found. none-there number terminal found;
  asked = λ number terminal found owed. no-true owed;
  made = λ link within. absurd within;
  ordered = refl;
  linking = λ owed. no-true owed;
  linked = λ handles. no-true handles;
}

pub turn-numbers : (laws : LedgerLaws) (turn : Turn) → TurnNumbers turn
turn-numbers laws (Start setup) = start-numbers setup
turn-numbers laws OpenFailed = open-failed-numbers
turn-numbers laws (Polled now) = polled-numbers now
turn-numbers laws (Opened till) = opened-numbers till
turn-numbers laws (HeardTill till bytes) = heard-till-numbers till bytes
turn-numbers laws (Closed till) = closed-numbers till
turn-numbers laws (HeardPt pt bytes) = heard-pt-numbers pt bytes
turn-numbers laws (Lost pt) = lost-numbers pt
turn-numbers laws Stopped = stopped-numbers
turn-numbers laws (Linked pt) = linked-numbers pt
turn-numbers laws (LinkFailed pt) = link-failed-numbers pt
turn-numbers laws (SentTill till bytes sent) = sent-till-numbers till bytes sent
turn-numbers laws (SentPt pt bytes sent) = sent-pt-numbers laws pt bytes sent
turn-numbers laws (CutTill till) = cut-till-numbers till
turn-numbers laws (CutPt pt) = cut-pt-numbers pt
turn-numbers laws (Wrote offset bytes) = wrote-numbers offset bytes
turn-numbers laws Synced = synced-numbers
turn-numbers laws DiskFailed = disk-failed-numbers
turn-numbers laws (Crash file) = crash-numbers file
