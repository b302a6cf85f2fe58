-- What is known is in order between items, along each lawful course; so each lawful log is one of a gateway that keeps its journal by the ledger's rules.
use Rattle.std.proofs.Common.{◌≡◌, ◌≢◌, ◌≤◌, ℕ, ◌+◌, ◌*◌, Bool, true, false, List, [], ◌∷◌, ◌++◌, length, refl, sym, ◌∙◌, ap, subst, arith, inl, inr, append_assoc, append-nil}
use Rattle.std.proofs.lemmas.Bool.{ltb-false}
use Rattle.std.proofs.lemmas.List.Elements.{All-nil, All-cons, All-head, All-tail, All-append}
use Rattle.std.specs.Prelude.{◌⊎◌, ◌||◌, nat_lt, All, map, slice_get, Option, Some, None, option_to_list}
use Rattle.gw_base.specs.Moment.{last_moment}
use Rattle.gw_base.specs.declared.setup.Setup.{Setup}
use Rattle.gw_site.specs.Outside.{Outside, heard_on, outside_of}
use Rattle.gw_site.specs.declared.turn.Turn.{Turn}
use Rattle.gw_site.specs.declared.turn.Turn.TheVariants.{Start, OpenFailed, Polled, Opened, HeardTill, Closed, HeardPt, Lost, Stopped, Linked, LinkFailed, SentTill, SentPt, CutTill, CutPt, Wrote, Synced, DiskFailed, Crash}
use Rattle.sale_frame.specs.Decode.{DecodedFrames, decode_after, decode_frames}
use Rattle.zvt_apdu.specs.DecodeStream.{DecodedApdus, decode_apdus}
use Rattle.jrn_record.specs.Grammar.{record_body}
use Rattle.jrn_record.specs.declared.records.Record.{Record}
use Rattle.jrn_log.proofs.SlotLemmas.{one_byte_slots, one_slots}
use Rattle.gw_ledger.specs.Fold.{AreFolded}
use Rattle.gw_ledger.specs.Sums.{open_count_of}
use Rattle.gw_owes.specs.Calls.{OwedCall, SendTill, SendPt, LinkPt, WriteBody, WriteGate, WriteFirstGate, Sync, write_turn, records_kept, CutTill as OwedCutTill, CutPt as OwedCutPt}
use Rattle.gw_owes.specs.Core.{Wait, Core, no_core, new_core}
use Rattle.gw_owes.specs.Days.{days_served}
use Rattle.gw_owes.specs.DeviceRequests.{greatest_device_number}
use Rattle.gw_owes.specs.Events.{till_opened_items, decoded_items, decoded_apdu_items, items_due}
use Rattle.gw_owes.specs.Items.{RoundItem, Gone, LinkLost}
use Rattle.gw_owes.specs.Links.{LinkEvent, LinkIsMade, LinkIsLost, link_row}
use Rattle.gw_owes.specs.ReadAs.{ReadAs}
use Rattle.gw_owes.specs.RecordLaws.{AreRecordsOf, IsTerminalInOrder, IsReadItem, AreOthersInOrder, HasRoom, IsNumbered, IsInOrder, LinkKeepsInOrder}
use Rattle.gw_owes.specs.Row.{Known, Row}
use Rattle.gw_owes.specs.Rows.{row_of}
use Rattle.gw_owes.specs.TerminalLaws.{settings_of}
use Rattle.gw_owes.specs.Terminals.{core_without}
use Rattle.gw_owes.specs.WaitingLaws.{AreWaitsInOrder}
use Rattle.gw_owes.specs.Waits.{slots_reserved}
use Rattle.gw_owes.specs.declared.terminal.Service.TheVariants.{Transaction, EndOfDay}
use Rattle.gw_owes.specs.declared.terminal.Standing.{Standing}
use Rattle.gw_owes.specs.declared.terminal.Standing.TheVariants.{Ready, Serving}
use Rattle.gw_owes.specs.declared.terminal.Terminal.{Terminal}
use Rattle.gw_owes.proofs.SetLemmas.{same-some}
use Rattle.gw_owes.proofs.WaitingFrameLemmas.{gone-keeps-waits, links-keep-waits, moments-keep-waits, new-has-none-waiting}
use Rattle.gw_rules.specs.JournalFiles.{is_on_disk, spare_disk, EachHasJournalFiles}
use Rattle.gw_rules.specs.KeptLaws.{KeepsAtMostOne, KeepsOn, KeepsJournal}
use Rattle.gw_rules.specs.Lawful.{first_call, AllowedTurn, may_begin, Begins, IsRead, IsCourse, turns_of, Stands}
use Rattle.gw_rules.specs.LedgerRules.{ledger_rules, no_open_key, EachLawfulKeepsJournal, EachLawfulHasKept, LawfulRefusedOnlyWithFewerSlots}
use Rattle.gw_rules.specs.Opening.{is_refused, opening}
use Rattle.gw_rules.specs.QueueLaws.{EachLogHasWaitsInOrder}
use Rattle.gw_rules.specs.RecordOrder.{records_coming, EachLogFolds, EachLogImageFolds, EachLogLeavesSlots, EachLogComesInOrder, EachItemWasRead, IsBetweenItems, EachLogIsInOrder, DayServedIsUnknown, ReadyHasNoneOpen, ServedIsOpen}
use Rattle.gw_rules.specs.Scene.{Scene, records_of, known_in, row_in, row_at, link_made_at, link_lost_at}
use Rattle.gw_rules.specs.Stage.{Stage, Resting, Opening, Looking, AtPoll, Handling, Over, Broken, busy, is_round, is_running, is_broken, stage_synced, stage_wrote}
use Rattle.gw_rules.specs.TranscriptLaws.{cuts_terminal, cut_owed}
use Rattle.gw_rules.specs.View.{View, Move, Begin, Read, Make, later, flight_after, after, after_turn, view_from, at_first}
use Rattle.gw_rules.proofs.KeptFileLemmas.{owned}
use Rattle.gw_rules.proofs.KeptLawLemmas.{each-keeps-journal-files, has-kept, holds, turn-goes-on}
use Rattle.gw_rules.proofs.KeptPhaseLemmas.{Body, BodySync, FirstGate, FirstSync, GateSync, Holds, LastSync, Mid, OpenGate, Phase, Rests, first-is, off-disk, rests-owing, round-runs, spares-both, spares-later, writes-on-disk}
use Rattle.gw_rules.proofs.KeptTurnLemmas.{idle-rests, no-more}
use Rattle.gw_rules.proofs.LedgerRuleLemmas.{each-image-folds, refused-only-with-fewer-slots}
use Rattle.gw_rules.proofs.LinkedLemmas.{Agrees, AreConfigured, Losing, Settled, call-setup, first-agrees, move-agrees, round-setup}
use Rattle.gw_rules.proofs.OpeningLemmas.{is_opening, synced-opening, wrote-opening}
use Rattle.gw_rules.proofs.OpensLemmas.{opens-all}
use Rattle.gw_rules.proofs.OwedLemmas.{call-last}
use Rattle.gw_rules.proofs.OwingLemmas.{IsOwing, clear-where, first-owing, move-owing, synced-broken, wrote-broken}
use Rattle.gw_rules.proofs.RecordRowLemmas.{OrderLaws, spares-none, coming-kept, later-none, writes-cut-none, last-within, last-fits, first-later, kept-folds, folds-at-once, read-due, read-till, read-pt, read-opened, first-read, made-brings-none, lost-brings-none, LeavesInOrder, forgotten-in-order, rows-in-order}
use Rattle.gw_rules.proofs.SetupLemmas.{HasSetup, setup-within-limits}
use Rattle.gw_rules.proofs.SpareLemmas.{KeepsOne, begin-keeps-one, lost-at-spares, made-at-spares}
use Rattle.gw_rules.proofs.StageLemmas.{no-call, no-true, not-true, round-busy, busy-broken}
use Rattle.gw_rules.proofs.TranscriptLogLemmas.{lost-at, made-at, not-number}
use Rattle.gw_rules.proofs.RoomLemmas.{moment-from, moment-is, no-fewer, sum-without, fewer-days, with-no-days, fewer-reserved, CountsStay, same-counts, stays-numbered, none-stays}

-- ---- what holds along a course

-- what the items that come have of tills was read, for the run's setup
abbrev pub AreRead : View → Type 0
AreRead v = (setup : Setup) → v.scene.setup ≡ Some setup → All (IsReadItem setup) v.items

-- while the run goes on a slot is left for the Outcome of each key that will be open, and those that are reserved for what is served or waits
abbrev pub LeavesSlots : View → Type 0
LeavesSlots v = (setup : Setup) → v.scene.setup ≡ Some setup → is_running v.scene.stage ≡ true → HasRoom setup.slots (records_coming v) v.scene.core

-- until a call on the disk fails the records that come have what each terminal's standing says, but of one whose cut is owed
abbrev pub ComesInOrder : View → Type 0
ComesInOrder v =
    is_broken v.scene.stage ≡ false → (pt : ℕ) (terminal : Terminal) → slice_get v.scene.core.terminals pt ≡ Some terminal → cut_owed pt v.calls ≡ false → IsTerminalInOrder (records_coming v) terminal

-- what is known then, for the run's setup
abbrev pub known_coming : View → Setup → Known
known_coming v setup = record { setup = setup; core = v.scene.core; kept = records_coming v; moment = v.scene.outside.moment }

-- until a call on the disk fails what waits is in order by the records that come
abbrev pub HasWaits : View → Type 0
HasWaits v = (setup : Setup) → v.scene.setup ≡ Some setup → is_broken v.scene.stage ≡ false → AreWaitsInOrder (known_coming v setup)

pub record Ordered (log : List Turn) (v : View) : Type 0 where
  pub agrees : Agrees v
  pub keeps : KeepsJournal ledger_rules log v
  pub owed : List OwedCall
  pub owing : IsOwing owed v
  pub read : AreRead v
  -- while a run opens its journal no record is kept
  pub quiet : is_opening v.scene.stage ≡ true → records_kept v.calls ≡ []
  -- and nothing is reserved
  pub no_days : is_opening v.scene.stage ≡ true → slots_reserved v.scene.core ≡ 0
  pub room : LeavesSlots v
  pub numbered : IsNumbered v.scene.core
  pub terminals : ComesInOrder v
  pub waits : HasWaits v

pub configured : (v : View) (setup : Setup) → Agrees v → v.scene.setup ≡ Some setup → settings_of v.scene.core ≡ setup.terminals
configured v setup a is = subst (λ o. AreConfigured o v.scene.core) is (by_links a.links)
  where
    by_links : Settled v ⊎ Losing v → AreConfigured v.scene.setup v.scene.core
    by_links (inl s) = s.settings
    by_links (inr l) = l.settings

-- between items what is known is in order
pub between-items : (log : List Turn) (v : View) → Ordered log v → (k : HasSetup v.scene) → is_running v.scene.stage ≡ true → v.calls ≡ [] → IsInOrder (known_in v.scene k.setup)
between-items log v o k running calls =
    let h : Holds (owned ledger_rules) log v = holds ledger_rules log v o.keeps in
    let coming : records_coming v ≡ v.scene.kept = coming-kept v (ap spare_disk calls) (idle-rests (owned ledger_rules) log v h running calls).is_open.no_flight in
    record {
      folded = kept-folds log v h;
      room = subst (λ l. HasRoom k.setup.slots l v.scene.core) coming (o.room k.setup k.setup_is running);
      numbered = o.numbered;
      of_setup = record { within = k.within; settings = configured v k.setup o.agrees k.setup_is };
      moment = moment-is v.scene.outside.moment (subst (λ (p : Outside). p.moment ≤ last_moment) (sym h.outside_is) (moment-from (outside_of []) log (omega arith)));
      terminals = λ pt terminal found. subst (λ l. IsTerminalInOrder l terminal) coming (o.terminals (clear-where v.scene.stage is_running refl running) pt terminal found (ap (cut_owed pt) calls));
    }

-- so is what waits
pub waits-between-items : (log : List Turn) (v : View) → Ordered log v → (k : HasSetup v.scene) → is_running v.scene.stage ≡ true → v.calls ≡ [] → AreWaitsInOrder (known_in v.scene k.setup)
waits-between-items log v o k running calls =
    let h : Holds (owned ledger_rules) log v = holds ledger_rules log v o.keeps in
    let coming : records_coming v ≡ v.scene.kept = coming-kept v (ap spare_disk calls) (idle-rests (owned ledger_rules) log v h running calls).is_open.no_flight in
    subst (λ (l : List Record). AreWaitsInOrder (record { setup = k.setup; core = v.scene.core; kept = l; moment = v.scene.outside.moment })) coming (o.waits k.setup k.setup_is (clear-where v.scene.stage is_running refl running))

-- ---- items that begin

-- what the first item has of a till was read
pub first-was-read : (log : List Turn) (v : View) (item : RoundItem) (rest : List RoundItem) → Ordered log v → (k : HasSetup v.scene) → v.items ≡ item ∷ rest → IsReadItem k.setup item
first-was-read log v item rest o k e = All-head (IsReadItem k.setup) item rest (subst (λ l. All (IsReadItem k.setup) l) e (o.read k.setup k.setup_is))

pub row-is : (scene : Scene) (k : HasSetup scene) (item : RoundItem) → row_at scene item ≡ row_of scene.outside.tills (known_in scene k.setup) item
row-is scene k item = ap (λ (s : Option Setup). row_in scene (λ known. row_of scene.outside.tills known item) s) k.setup_is

-- and what it brings
item-brings : OrderLaws → (log : List Turn) (v : View) (item : RoundItem) (rest : List RoundItem) → Ordered log v → (k : HasSetup v.scene) → Begins v → v.items ≡ item ∷ rest → All (IsReadItem k.setup) (row_at v.scene item).items
item-brings laws log v item rest o k b e =
    let i : IsInOrder (known_in v.scene k.setup) = between-items log v o k (round-runs v.scene.stage b.idle.round) b.idle.calls in
    subst (λ (row : Row). All (IsReadItem k.setup) row.items) (sym (row-is v.scene k item)) (laws.items v.scene.outside.tills (known_in v.scene k.setup) item i (first-was-read log v item rest o k e))

-- what the first item leaves, with the records of the scene
item-in-order : OrderLaws → (log : List Turn) (v : View) (item : RoundItem) (rest : List RoundItem) → Ordered log v → (k : HasSetup v.scene) → Begins v → v.items ≡ item ∷ rest → LeavesInOrder (known_in v.scene k.setup) (row_at v.scene item)
item-in-order laws log v item rest o k b e =
    let known : Known = known_in v.scene k.setup in
    let i : IsInOrder known = between-items log v o k (round-runs v.scene.stage b.idle.round) b.idle.calls in
    let w : AreWaitsInOrder known = waits-between-items log v o k (round-runs v.scene.stage b.idle.round) b.idle.calls in
    subst (LeavesInOrder known) (sym (row-is v.scene k item)) (rows-in-order laws v.scene.outside.tills known item i w (first-was-read log v item rest o k e))

-- so is what waits then
item-keeps-waits : OrderLaws → (log : List Turn) (v : View) (item : RoundItem) (rest : List RoundItem) → Ordered log v → (k : HasSetup v.scene) → Begins v → v.items ≡ item ∷ rest
    → AreWaitsInOrder (record (known_in v.scene k.setup) { core = (row_at v.scene item).core; kept = v.scene.kept ++ records_kept (row_at v.scene item).calls })
item-keeps-waits laws log v item rest o k b e =
    let known : Known = known_in v.scene k.setup in
    let i : IsInOrder known = between-items log v o k (round-runs v.scene.stage b.idle.round) b.idle.calls in
    let w : AreWaitsInOrder known = waits-between-items log v o k (round-runs v.scene.stage b.idle.round) b.idle.calls in
    subst (λ (row : Row). AreWaitsInOrder (record (known_in v.scene k.setup) { core = row.core; kept = v.scene.kept ++ records_kept row.calls })) (sym (row-is v.scene k item))
    (laws.waits v.scene.outside.tills known item i w (first-was-read log v item rest o k e))

-- ---- the journal

-- calls that keep a record in order are those of a gateway that keeps its journal
keeps-at-most-one : (scene : Scene) (k : HasSetup scene) (row : Row) → LeavesInOrder (known_in scene k.setup) row → KeepsOne scene.kept row.calls → KeepsAtMostOne ledger_rules scene row.calls
keeps-at-most-one scene k row l (inl spares) = inl spares
keeps-at-most-one scene k row l (inr n) =
    let keeps : records_kept row.calls ≡ n.the_record ∷ [] = ap records_kept n.calls_are ∙ ap (λ r. n.the_record ∷ r) (spares-none n.more n.spares) in
    let folded : AreFolded (scene.kept ++ n.the_record ∷ []) = subst (λ r. AreFolded (scene.kept ++ r)) keeps l.folded in
    inr (record {
      the_record = n.the_record;
      more = n.more;
      calls_are = n.calls_are;
      spares = n.spares;
      within = last-within scene.kept n.the_record folded.within;
      follows = last-fits [] scene.kept n.the_record folded.fit;
      room = record { setup = k.setup; setup_is = k.setup_is; room = sum-without _ _ (slots_reserved row.core) k.setup.slots (subst (λ r. HasRoom k.setup.slots (scene.kept ++ r) row.core) keeps l.room) };
    })

pub begin-ordered : OrderLaws → (log : List Turn) (v : View) → Ordered log v → Begins v → Ordered log (after v Begin)
begin-ordered laws log v o b = by_items v.items refl
  where
    by_items : (items : List RoundItem) → v.items ≡ items → Ordered log (after v Begin)
    by_items [] e = no-true (sym (ap (may_begin v.scene) e) ∙ b.first)
    by_items (item ∷ rest) e =
        let k = round-setup v o.agrees.run b.idle.round in
        let l = item-in-order laws log v item rest o k b e in
        let row : Row = row_at v.scene item in
        let h : Holds (owned ledger_rules) log v = holds ledger_rules log v o.keeps in
        let none : v.scene.flight ≡ None = (idle-rests (owned ledger_rules) log v h (round-runs v.scene.stage b.idle.round) b.idle.calls).is_open.no_flight in
        let next : View = after (record v { items = item ∷ rest }) Begin in
        let is : next ≡ after v Begin = ap (λ i. after (record v { items = i }) Begin) (sym e) in
        let coming : records_coming next ≡ v.scene.kept ++ records_kept row.calls = ap (λ r. r ++ records_kept row.calls) (no-more v.scene.kept v.scene.flight none) in
        let one : KeepsOne v.scene.kept row.calls = begin-keeps-one v.scene (item ∷ rest) in
        let keeps : KeepsJournal ledger_rules log next = KeepsOn.ItemBegins log v item rest row o.keeps b e (keeps-at-most-one v.scene k row l one) in
        let at : next.scene.stage ≡ Handling = round-busy v.scene.stage b.idle.round in
        record {
          agrees = move-agrees v Begin o.agrees b;
          keeps = subst (KeepsJournal ledger_rules log) is keeps;
          owed = _;
          owing = move-owing o.owed v Begin o.owing b;
          read = subst AreRead is (λ setup setup_is.
              let same : k.setup ≡ setup = same-some k.setup setup (sym k.setup_is ∙ setup_is) in
              subst (λ (s : Setup). All (IsReadItem s) (row.items ++ rest)) same
              (All-append (IsReadItem k.setup) row.items rest (item-brings laws log v item rest o k b e) (All-tail (IsReadItem k.setup) item rest (subst (λ i. All (IsReadItem k.setup) i) e (o.read k.setup k.setup_is)))));
          quiet = subst (λ (w : View). is_opening w.scene.stage ≡ true → records_kept w.calls ≡ []) is (λ opening. no-true (sym (ap is_opening at) ∙ opening));
          no_days = subst (λ (w : View). is_opening w.scene.stage ≡ true → slots_reserved w.scene.core ≡ 0) is (λ opening. no-true (sym (ap is_opening at) ∙ opening));
          room = subst LeavesSlots is (λ setup setup_is running.
              let same : k.setup ≡ setup = same-some k.setup setup (sym k.setup_is ∙ setup_is) in
              subst (λ (s : Setup). HasRoom s.slots (records_coming next) row.core) same (subst (λ r. HasRoom k.setup.slots r row.core) (sym coming) l.room));
          numbered = subst (λ (w : View). IsNumbered w.scene.core) is l.numbered;
          terminals = subst ComesInOrder is (λ clear pt terminal found no_cut. subst (λ r. IsTerminalInOrder r terminal) (sym coming) (l.terminals pt terminal found no_cut));
          waits = subst HasWaits is (λ setup setup_is clear.
              let same : k.setup ≡ setup = same-some k.setup setup (sym k.setup_is ∙ setup_is) in
              subst (λ (s : Setup). AreWaitsInOrder (record { setup = s; core = row.core; kept = records_coming next; moment = v.scene.outside.moment })) same
              (subst (λ (r : List Record). AreWaitsInOrder (record { setup = k.setup; core = row.core; kept = r; moment = v.scene.outside.moment })) (sym coming) (item-keeps-waits laws log v item rest o k b e)));
        }

-- once anything follows, a run opens its journal as before
busy-opening : (stage : Stage) → is_opening (busy stage) ≡ true → is_opening stage ≡ true
busy-opening Resting e = e
busy-opening (Opening refused) e = e
busy-opening (Looking refused) e = e
busy-opening AtPoll e = no-true e
busy-opening Handling e = e
busy-opening Over e = e
busy-opening Broken e = e

-- the same records come, and the same waits
same-waits : (v w : View) → HasWaits v → records_coming w ≡ records_coming v → w.scene.core ≡ v.scene.core → w.scene.setup ≡ v.scene.setup → (is_broken w.scene.stage ≡ false → is_broken v.scene.stage ≡ false) → HasWaits w
same-waits v w h coming core setup clear = λ run is w_clear.
    subst (λ (c : Core). AreWaitsInOrder (record { setup = run; core = c; kept = records_coming w; moment = w.scene.outside.moment })) (sym core)
    (subst (λ (l : List Record). AreWaitsInOrder (record { setup = run; core = v.scene.core; kept = l; moment = w.scene.outside.moment })) (sym coming)
    (moments-keep-waits (known_coming v run) w.scene.outside.moment (h run (sym setup ∙ is) (clear w_clear))))

-- ---- messages that are read

pub read-ordered : (log : List Turn) (v : View) (as_read : ReadAs) → Ordered log v → IsRead v as_read → Ordered log (after v (Read as_read))
read-ordered log v as_read o r =
    let coming : records_coming (after v (Read as_read)) ≡ records_coming v = ap (λ calls. records_of v.scene ++ records_kept calls) (sym r.idle.calls) in
    record {
      agrees = move-agrees v (Read as_read) o.agrees r;
      keeps = KeepsOn.MessageIsRead log v as_read o.keeps r;
      owed = _;
      owing = move-owing o.owed v (Read as_read) o.owing r;
      read = λ setup is. first-read setup as_read v.items r.bytes r.message r.reads (o.read setup is);
      quiet = λ opening. refl;
      no_days = λ opening. o.no_days (busy-opening v.scene.stage opening);
      room = λ setup setup_is running. subst (λ l. HasRoom setup.slots l v.scene.core) (sym coming) (o.room setup setup_is (round-runs v.scene.stage r.idle.round));
      numbered = o.numbered;
      terminals = λ clear pt terminal found no_cut.
          subst (λ l. IsTerminalInOrder l terminal) (sym coming) (o.terminals (clear-where v.scene.stage is_round refl r.idle.round) pt terminal found (ap (cut_owed pt) r.idle.calls));
      waits = same-waits v (after v (Read as_read)) o.waits coming refl refl (λ clear. clear-where v.scene.stage is_round refl r.idle.round);
    }

-- ---- turns

-- the same records come, and the same is remembered
same-terminals : (v w : View) → ComesInOrder v → records_coming w ≡ records_coming v → w.scene.core ≡ v.scene.core → (is_broken w.scene.stage ≡ false → is_broken v.scene.stage ≡ false)
    → ((pt : ℕ) → cut_owed pt w.calls ≡ false → cut_owed pt v.calls ≡ false) → ComesInOrder w
same-terminals v w t coming core clear cuts = λ w_clear pt terminal found no_cut.
    subst (λ l. IsTerminalInOrder l terminal) (sym coming) (t (clear w_clear) pt terminal (ap (λ (c : Core). slice_get c.terminals pt) (sym core) ∙ found) (cuts pt no_cut))

same-slots : (v w : View) → LeavesSlots v → records_coming w ≡ records_coming v → CountsStay v.scene.core w.scene.core → w.scene.setup ≡ v.scene.setup → (is_running w.scene.stage ≡ true → is_running v.scene.stage ≡ true) → LeavesSlots w
same-slots v w r coming counts setup_is running = λ setup is w_running.
    fewer-days setup.slots (records_coming w) v.scene.core w.scene.core counts.0 (subst (λ l. HasRoom setup.slots l v.scene.core) (sym coming) (r setup (sym setup_is ∙ is) (running w_running)))

-- what a turn leaves of the records, of what is remembered, and of the items
record Leaves (w : View) : Type 0 where
  read : AreRead w
  quiet : is_opening w.scene.stage ≡ true → records_kept w.calls ≡ []
  no_days : is_opening w.scene.stage ≡ true → slots_reserved w.scene.core ≡ 0
  room : LeavesSlots w
  numbered : IsNumbered w.scene.core
  terminals : ComesInOrder w
  waits : HasWaits w

-- no call was owed and none is, and the run went on
event-leaves : (log : List Turn) (v w : View) → Ordered log v → is_running v.scene.stage ≡ true → v.calls ≡ [] → w.calls ≡ [] → w.scene.kept ≡ v.scene.kept → w.scene.flight ≡ v.scene.flight → w.scene.core ≡ v.scene.core → w.scene.setup ≡ v.scene.setup
    → is_opening w.scene.stage ≡ false → ((setup : Setup) → All (IsReadItem setup) w.items) → Leaves w
event-leaves log v w o running before none kept flight core setup closed reads =
    let file : records_of w.scene ≡ records_of v.scene = ap (λ l. l ++ option_to_list w.scene.flight) kept ∙ ap (λ (f : Option Record). v.scene.kept ++ option_to_list f) flight in
    let coming : records_coming w ≡ records_coming v = ap (λ l. l ++ records_kept w.calls) file ∙ ap (λ calls. records_of v.scene ++ records_kept calls) (none ∙ sym before) in
    record {
      read = λ run is. reads run;
      quiet = λ opening. ap records_kept none;
      no_days = λ opening. no-true (sym closed ∙ opening);
      room = same-slots v w o.room coming (subst (CountsStay v.scene.core) (sym core) (same-counts v.scene.core)) setup (λ w_running. running);
      numbered = subst IsNumbered (sym core) o.numbered;
      terminals = same-terminals v w o.terminals coming core (λ w_clear. clear-where v.scene.stage is_running refl running) (λ pt no_cut. ap (cut_owed pt) before);
      waits = same-waits v w o.waits coming core setup (λ w_clear. clear-where v.scene.stage is_running refl running);
    }

pub busy-running : (stage : Stage) → is_running (busy stage) ≡ true → is_running stage ≡ true
busy-running Resting e = e
busy-running (Opening refused) e = e
busy-running (Looking refused) e = e
busy-running AtPoll e = e
busy-running Handling e = e
busy-running Over e = e
busy-running Broken e = e

-- a call was made that isn't on the disk, and none on the disk is owed then
call-leaves : (log : List Turn) (v w : View) (call : OwedCall) → Ordered log v → first_call v.calls ≡ Some call → is_on_disk call ≡ false → spare_disk w.calls ≡ true → w.scene.stage ≡ busy v.scene.stage → w.scene.kept ≡ v.scene.kept → w.scene.flight ≡ v.scene.flight
    → w.scene.setup ≡ v.scene.setup → w.items ≡ v.items → CountsStay v.scene.core w.scene.core → (records_coming w ≡ records_coming v → ComesInOrder w)
    → (records_coming w ≡ records_coming v → records_coming v ≡ v.scene.kept → HasWaits w) → Leaves w
call-leaves log v w call o next off spares stage kept flight setup items counts terminals waits =
    let h : Holds (owned ledger_rules) log v = holds ledger_rules log v o.keeps in
    let r = rests-owing (owned ledger_rules) log v.scene.kept v.scene.flight v.calls v.scene.stage call h.phase next off in
    let coming : records_coming w ≡ records_coming v = coming-kept w spares (flight ∙ r.is_open.no_flight) ∙ kept ∙ sym (coming-kept v r.spares r.is_open.no_flight) in
    record {
      read = λ run is. subst (λ l. All (IsReadItem run) l) (sym items) (o.read run (sym setup ∙ is));
      quiet = λ opening. spares-none w.calls spares;
      no_days = λ opening. none-stays v.scene.core w.scene.core counts (o.no_days (busy-opening v.scene.stage (sym (ap is_opening stage) ∙ opening)));
      numbered = stays-numbered v.scene.core w.scene.core counts o.numbered;
      room = same-slots v w o.room coming counts setup (λ w_running. busy-running v.scene.stage (sym (ap is_running stage) ∙ w_running));
      terminals = terminals coming;
      waits = waits coming (coming-kept v r.spares r.is_open.no_flight);
    }

-- a call that isn't on the disk is the last of those that spare it
pub call-spares : (log : List Turn) (v : View) (call : OwedCall) → Ordered log v → first_call v.calls ≡ Some call → is_on_disk call ≡ false → spare_disk (later v.calls) ≡ true
call-spares log v call o next off =
    let h : Holds (owned ledger_rules) log v = holds ledger_rules log v o.keeps in
    spares-later v.calls (rests-owing (owned ledger_rules) log v.scene.kept v.scene.flight v.calls v.scene.stage call h.phase next off).spares

-- where the first call cuts no terminal, the later ones cut those that all do
pub later-cuts : (pt : ℕ) (calls : List OwedCall) (call : OwedCall) → first_call calls ≡ Some call → cuts_terminal pt call ≡ false → cut_owed pt (later calls) ≡ false → cut_owed pt calls ≡ false
later-cuts pt calls call next none no_cut = ap (cut_owed pt) (first-later calls call next) ∙ ap (λ b. b || cut_owed pt (later calls)) none ∙ no_cut

-- the last call cuts no terminal
pub last-cuts : (pt : ℕ) (calls : List OwedCall) (call : OwedCall) → first_call calls ≡ Some call → later calls ≡ [] → cuts_terminal pt call ≡ false → cut_owed pt calls ≡ false
last-cuts pt calls call next last none = later-cuts pt calls call next none (ap (cut_owed pt) last)

pub stage-clear : (v w : View) → w.scene.stage ≡ busy v.scene.stage → is_broken w.scene.stage ≡ false → is_broken v.scene.stage ≡ false
stage-clear v w stage clear = sym (busy-broken v.scene.stage) ∙ sym (ap is_broken stage) ∙ clear

-- an event of a link, which the last call has brought
link-leaves : OrderLaws → (log : List Turn) (v w : View) (number : ℕ) (event : LinkEvent) (call : OwedCall) (k : HasSetup v.scene) → Ordered log v → first_call v.calls ≡ Some call → is_on_disk call ≡ false → later v.calls ≡ []
    → ((pt : ℕ) → pt ≢ number → cuts_terminal pt call ≡ false) → spare_disk w.calls ≡ true → w.scene.stage ≡ busy v.scene.stage → w.scene.kept ≡ v.scene.kept → w.scene.flight ≡ v.scene.flight
    → w.scene.setup ≡ v.scene.setup → w.items ≡ v.items → w.scene.core ≡ (link_row (known_in v.scene k.setup) number event).core → Leaves w
link-leaves laws log v w number event call k o next off last other spares stage kept flight setup items core =
    call-leaves log v w call o next off spares stage kept flight setup items (subst (CountsStay v.scene.core) (sym core) (reserved, stays.device_requests)) by_coming by_waits
  where
    h : Holds (owned ledger_rules) log v
    h = holds ledger_rules log v o.keeps

    r : Rests log v.scene.kept v.scene.flight v.calls
    r = rests-owing (owned ledger_rules) log v.scene.kept v.scene.flight v.calls v.scene.stage call h.phase next off

    now : records_coming v ≡ v.scene.kept
    now = coming-kept v r.spares r.is_open.no_flight

    stays : LinkKeepsInOrder (known_in v.scene k.setup) number (link_row (known_in v.scene k.setup) number event).core
    stays = laws.links (known_in v.scene k.setup) number event

    reserved : slots_reserved (link_row (known_in v.scene k.setup) number event).core ≤ slots_reserved v.scene.core
    reserved =
        fewer-reserved (days_served (link_row (known_in v.scene k.setup) number event).core.terminals) (days_served v.scene.core.terminals) (length (link_row (known_in v.scene k.setup) number event).core.waits) (length v.scene.core.waits) stays.days
        (subst (λ (waits : List Wait). length waits ≤ length v.scene.core.waits) (sym stays.waits) (no-fewer (length v.scene.core.waits)))

    by_waits : records_coming w ≡ records_coming v → records_coming v ≡ v.scene.kept → HasWaits w
    by_waits coming is_kept run is w_clear =
        let same : k.setup ≡ run = same-some k.setup run (sym k.setup_is ∙ sym setup ∙ is) in
        let before : AreWaitsInOrder (known_in v.scene k.setup) =
        subst (λ (l : List Record). AreWaitsInOrder (record { setup = k.setup; core = v.scene.core; kept = l; moment = v.scene.outside.moment })) is_kept (o.waits k.setup k.setup_is (stage-clear v w stage w_clear)) in
        let linked : AreWaitsInOrder (record (known_in v.scene k.setup) { core = (link_row (known_in v.scene k.setup) number event).core }) = links-keep-waits (known_in v.scene k.setup) number event before in
        let later : AreWaitsInOrder (record { setup = k.setup; core = (link_row (known_in v.scene k.setup) number event).core; kept = v.scene.kept; moment = w.scene.outside.moment }) = moments-keep-waits _ w.scene.outside.moment linked in
        subst (λ (s : Setup). AreWaitsInOrder (record { setup = s; core = w.scene.core; kept = records_coming w; moment = w.scene.outside.moment })) same
        (subst (λ (c : Core). AreWaitsInOrder (record { setup = k.setup; core = c; kept = records_coming w; moment = w.scene.outside.moment })) (sym core)
        (subst (λ (l : List Record). AreWaitsInOrder (record { setup = k.setup; core = (link_row (known_in v.scene k.setup) number event).core; kept = l; moment = w.scene.outside.moment })) (sym (coming ∙ is_kept)) later))

    by_coming : records_coming w ≡ records_coming v → ComesInOrder w
    by_coming coming clear pt terminal found no_cut =
        let others : AreOthersInOrder number v.scene.kept v.scene.core = λ one before differs there.
        subst (λ l. IsTerminalInOrder l before) now (o.terminals (stage-clear v w stage clear) one before there (last-cuts one v.calls call next last (other one differs))) in
        subst (λ l. IsTerminalInOrder l terminal) (sym (coming ∙ now))
        (stays.terminals others pt terminal (ap (λ (c : Core). slice_get c.terminals pt) (sym core) ∙ found))

-- ---- turns on the disk

-- where a gate is to be opened, no record is in flight
pub gate-flies-none : (log : List Turn) (v : View) (slot : ℕ) (the_record : Record) → Phase (owned ledger_rules) log v.scene.kept v.scene.flight v.calls v.scene.stage → first_call v.calls ≡ Some (WriteGate slot the_record) → v.scene.flight ≡ None
gate-flies-none log v slot the_record (inl c) f = no-call v.calls _ c.calls_are f
gate-flies-none log v slot the_record (inr (inl r)) f = r.is_open.no_flight
gate-flies-none log v slot the_record (inr (inr m)) f = by_step m.0
  where
    by_step : Mid (owned ledger_rules) log v.scene.kept v.scene.flight v.calls → v.scene.flight ≡ None
    by_step (FirstSync e) = absurd (let n : WriteGate slot the_record ≡ Sync = first-is v.calls _ Sync (WriteGate slot the_record) e f in cc)
    by_step (FirstGate g) = g.no_flight
    by_step (GateSync g) = g.no_flight
    by_step (Body a) = a.flight_is
    by_step (BodySync a) = a.flight_is
    by_step (OpenGate a) = a.flight_is
    by_step (LastSync a) = absurd (let n : WriteGate slot the_record ≡ Sync = first-is v.calls _ Sync (WriteGate slot the_record) a.calls_are f in cc)

-- the records once a write was made
abbrev pub after_write : View → List Record
after_write v = (v.scene.kept ++ option_to_list (flight_after v.calls v.scene.flight)) ++ records_kept (later v.calls)

pub written-coming : (log : List Turn) (v : View) (call : OwedCall) (turn : Turn) → Holds (owned ledger_rules) log v → first_call v.calls ≡ Some call → write_turn call ≡ Some turn → after_write v ≡ records_coming v
written-coming log v call turn h next writes = by_call call next writes
  where
    flying : (first : OwedCall) → first_call v.calls ≡ Some first → flight_after v.calls v.scene.flight ≡ flight_after (first ∷ later v.calls) v.scene.flight
    flying first f = ap (λ calls. flight_after calls v.scene.flight) (first-later v.calls first f)

    keeping : (first : OwedCall) → first_call v.calls ≡ Some first → records_kept v.calls ≡ records_kept (first ∷ later v.calls)
    keeping first f = ap records_kept (first-later v.calls first f)

    by_call : (call : OwedCall) → first_call v.calls ≡ Some call → write_turn call ≡ Some turn → after_write v ≡ records_coming v
    by_call (SendTill till reply) f w = absurd (let n : None ≡ Some turn = w in cc)
    by_call (SendPt pt sending) f w = absurd (let n : None ≡ Some turn = w in cc)
    by_call (OwedCutTill till) f w = absurd (let n : None ≡ Some turn = w in cc)
    by_call (OwedCutPt pt) f w = absurd (let n : None ≡ Some turn = w in cc)
    by_call (LinkPt pt) f w = absurd (let n : None ≡ Some turn = w in cc)
    by_call (WriteBody slot the_record) f w =
        ap (λ (r : Option Record). (v.scene.kept ++ option_to_list r) ++ records_kept (later v.calls)) (flying (WriteBody slot the_record) f) ∙ ap (λ l. records_of v.scene ++ l) (sym (keeping (WriteBody slot the_record) f))
    by_call (WriteGate slot the_record) f w =
        let none : v.scene.flight ≡ None = gate-flies-none log v slot the_record h.phase f in
        ap (λ (r : Option Record). (v.scene.kept ++ option_to_list r) ++ records_kept (later v.calls)) (flying (WriteGate slot the_record) f)
        ∙ append_assoc v.scene.kept (the_record ∷ []) (records_kept (later v.calls))
        ∙ ap (λ l. l ++ the_record ∷ records_kept (later v.calls)) (sym (no-more v.scene.kept v.scene.flight none))
        ∙ ap (λ l. records_of v.scene ++ l) (sym (keeping (WriteGate slot the_record) f))
    by_call WriteFirstGate f w =
        ap (λ (r : Option Record). (v.scene.kept ++ option_to_list r) ++ records_kept (later v.calls)) (flying WriteFirstGate f) ∙ ap (λ l. records_of v.scene ++ l) (sym (keeping WriteFirstGate f))
    by_call Sync f w = absurd (let n : None ≡ Some turn = w in cc)

map-none : (records : List Record) → map record_body records ≡ [] → records ≡ []
map-none [] e = refl
map-none (the_record ∷ records) e = absurd (let n : record_body the_record ∷ map record_body records ≡ [] = e in cc)

-- a write leaves the run going on as it was, but that of the first gate
pub wrote-running : (stage : Stage) → is_running (stage_wrote stage) ≡ true → (is_running stage ≡ true) ⊎ (is_opening stage ≡ true)
wrote-running Resting e = inl e
wrote-running (Opening refused) e = inl e
wrote-running (Looking refused) e = inr refl
wrote-running AtPoll e = inl e
wrote-running Handling e = inl e
wrote-running Over e = inl e
wrote-running Broken e = inl e

-- while a run opens its journal only the first gate is written, to a file without a record
pub opening-writes : (log : List Turn) (v : View) (call : OwedCall) (turn : Turn) → Ordered log v → first_call v.calls ≡ Some call → write_turn call ≡ Some turn → is_opening v.scene.stage ≡ true → records_coming v ≡ []
opening-writes log v call turn o next writes opening = by_phase h.phase
  where
    h : Holds (owned ledger_rules) log v
    h = holds ledger_rules log v o.keeps

    none : records_kept v.calls ≡ []
    none = o.quiet opening

    writes_sync : {A : Type 0} (rest : List OwedCall) → v.calls ≡ Sync ∷ rest → A
    writes_sync rest e = absurd (let n : None ≡ Some turn = ap write_turn (sym (first-is v.calls rest Sync call e next)) ∙ writes in cc)

    keeps_one : {A : Type 0} (the_record : Record) (more : List OwedCall) → records_kept v.calls ≡ the_record ∷ records_kept more → A
    keeps_one the_record more e = absurd (let n : [] ≡ the_record ∷ records_kept more = sym none ∙ e in cc)

    by_step : Mid (owned ledger_rules) log v.scene.kept v.scene.flight v.calls → records_coming v ≡ []
    by_step (FirstSync e) = writes_sync _ e
    by_step (FirstGate g) =
        let kept : v.scene.kept ≡ [] = map-none v.scene.kept (one_slots (outside_of g.base).file (map record_body v.scene.kept) [] g.slots (one_byte_slots (outside_of g.base).file g.few)) in
        ap (λ l. records_of v.scene ++ l) none ∙ append-nil (records_of v.scene) ∙ no-more v.scene.kept v.scene.flight g.no_flight ∙ kept
    by_step (GateSync g) = writes_sync _ g.calls_are
    by_step (Body a) = keeps_one a.the_record a.more (ap records_kept a.calls_are)
    by_step (BodySync a) = keeps_one a.the_record a.more (ap records_kept a.calls_are)
    by_step (OpenGate a) = keeps_one a.the_record a.more (ap records_kept a.calls_are)
    by_step (LastSync a) = writes_sync _ a.calls_are

    by_phase : Phase (owned ledger_rules) log v.scene.kept v.scene.flight v.calls v.scene.stage → records_coming v ≡ []
    by_phase (inl c) = no-call v.calls call c.calls_are next
    by_phase (inr (inl r)) = absurd (off-disk v.calls call r.spares next (writes-on-disk call turn writes))
    by_phase (inr (inr m)) = by_step m.0

-- where no record comes there are slots enough
none-leaves-slots : (records : List Record) (slots : ℕ) (core : Core) → records ≡ [] → slots_reserved core ≡ 0 → HasRoom slots records core
none-leaves-slots records slots core none no_days = with-no-days slots records core no_days (subst (λ l. length l + open_count_of l ≤ slots) (sym none) (let open_none = no_open_key in omega arith))

wrote-leaves : (log : List Turn) (v : View) (offset : ℕ) (bytes : List ℕ) → Ordered log v → AllowedTurn v (Wrote offset bytes) → Leaves (after_turn v (Wrote offset bytes))
wrote-leaves log v offset bytes o ok =
    let turn : Turn = Wrote offset bytes in
    let coming : records_coming (after_turn v turn) ≡ records_coming v = written-coming log v ok.0 turn (holds ledger_rules log v o.keeps) ok.1 ok.2 in
    record {
      read = o.read;
      quiet = λ opening. written_quiet (o.quiet (wrote-opening v.scene.stage opening));
      no_days = λ opening. o.no_days (wrote-opening v.scene.stage opening);
      numbered = o.numbered;
      room = λ setup is running. by_running setup is coming (wrote-running v.scene.stage running);
      terminals = same-terminals v (after_turn v turn) o.terminals coming refl (λ clear. sym (wrote-broken v.scene.stage) ∙ clear) (λ pt no_cut. later-cuts pt v.calls ok.0 ok.1 (writes-cut-none pt ok.0 turn ok.2) no_cut);
      waits = same-waits v (after_turn v turn) o.waits coming refl refl (λ clear. sym (wrote-broken v.scene.stage) ∙ clear);
    }
  where
    by_running : (setup : Setup) → v.scene.setup ≡ Some setup → records_coming (after_turn v (Wrote offset bytes)) ≡ records_coming v → (is_running v.scene.stage ≡ true) ⊎ (is_opening v.scene.stage ≡ true)
        → HasRoom setup.slots (records_coming (after_turn v (Wrote offset bytes))) v.scene.core
    by_running setup is coming (inl running) = subst (λ l. HasRoom setup.slots l v.scene.core) (sym coming) (o.room setup is running)
    by_running setup is coming (inr opening) =
        none-leaves-slots (records_coming (after_turn v (Wrote offset bytes))) setup.slots v.scene.core (coming ∙ opening-writes log v ok.0 (Wrote offset bytes) o ok.1 ok.2 opening) (o.no_days opening)

    written_quiet : records_kept v.calls ≡ [] → records_kept (later v.calls) ≡ []
    written_quiet none = later-none v.calls none

synced-running : (stage : Stage) → is_running (stage_synced stage) ≡ is_running stage
synced-running Resting = refl
synced-running (Opening refused) = refl
synced-running (Looking refused) = refl
synced-running AtPoll = refl
synced-running Handling = refl
synced-running Over = refl
synced-running Broken = refl

synced-leaves : (log : List Turn) (v : View) → Ordered log v → AllowedTurn v Synced → Leaves (after_turn v Synced)
synced-leaves log v o ok =
    let coming : records_coming (after_turn v Synced) ≡ records_coming v =
    ap (λ l. l ++ records_kept (later v.calls)) (append-nil (records_of v.scene)) ∙ ap (λ l. records_of v.scene ++ l) (sym (ap records_kept (first-later v.calls Sync ok))) in
    record {
      read = o.read;
      quiet = λ opening. later-none v.calls (o.quiet (synced-opening v.scene.stage opening));
      no_days = λ opening. o.no_days (synced-opening v.scene.stage opening);
      numbered = o.numbered;
      room = same-slots v (after_turn v Synced) o.room coming (same-counts v.scene.core) refl (λ running. sym (synced-running v.scene.stage) ∙ running);
      terminals = same-terminals v (after_turn v Synced) o.terminals coming refl (λ clear. sym (synced-broken v.scene.stage) ∙ clear) (λ pt no_cut. later-cuts pt v.calls Sync ok refl no_cut);
      waits = same-waits v (after_turn v Synced) o.waits coming refl refl (λ clear. sym (synced-broken v.scene.stage) ∙ clear);
    }

-- ---- the ends of runs, and their beginning

-- no terminal is remembered, and there is no run
nobody-leaves : (w : View) → w.scene.core ≡ no_core → w.scene.setup ≡ None → w.items ≡ [] → is_opening w.scene.stage ≡ false → Leaves w
nobody-leaves w nobody no_setup items closed = record {
  read = λ setup is. subst (λ l. All (IsReadItem setup) l) (sym items) (All-nil (IsReadItem setup));
  quiet = λ opening. no-true (sym closed ∙ opening);
  no_days = λ opening. no-true (sym closed ∙ opening);
  numbered = subst IsNumbered (sym nobody) (no-fewer-than-none greatest_device_number);
  room = λ setup is running. absurd (let n : None ≡ Some setup = sym no_setup ∙ is in cc);
  terminals = λ clear pt terminal found no_cut. absurd (none pt terminal (ap (λ (c : Core). slice_get c.terminals pt) (sym nobody) ∙ found));
  waits = λ setup is clear. absurd (let n : None ≡ Some setup = sym no_setup ∙ is in cc);
}
  where
    no-fewer-than-none : (count : ℕ) → 0 ≤ count
    no-fewer-than-none count = omega arith

    none : (pt : ℕ) (terminal : Terminal) → slice_get [] pt ≡ Some terminal → ⊥
    none pt terminal found = cc

-- a file that isn't refused leaves slots enough
taken-leaves-slots : (slots size : ℕ) (records : List Record) → is_refused slots size records ≡ false → length records + open_count_of records ≤ slots
taken-leaves-slots slots size records taken = by_long (nat_lt (256 * slots + 1) size) refl
  where
    by_needs : nat_lt slots (length records + open_count_of records) ≡ false → length records + open_count_of records ≤ slots
    by_needs e = ltb-false slots (length records + open_count_of records) e

    by_long : (long : Bool) → nat_lt (256 * slots + 1) size ≡ long → length records + open_count_of records ≤ slots
    by_long true is = absurd (let n : true ≡ false = sym (ap (λ test. test || nat_lt slots (length records + open_count_of records)) is) ∙ taken in cc)
    by_long false is = by_needs (sym (ap (λ test. test || nat_lt slots (length records + open_count_of records)) is) ∙ taken)

start-leaves : OrderLaws → (v : View) (setup : Setup) → Leaves (after_turn v (Start setup))
start-leaves laws v setup =
    let w : View = after_turn v (Start setup) in
    let none : records_kept w.calls ≡ [] = opens-all (λ calls. records_kept calls ≡ []) refl refl setup v.scene.outside.file (records_of v.scene) in
    let coming : records_coming w ≡ records_of v.scene = ap (λ l. records_of v.scene ++ l) none ∙ append-nil (records_of v.scene) in
    record {
      read = λ other is. All-nil (IsReadItem other);
      quiet = λ opening. none;
      no_days = λ opening. (laws.new setup (records_coming w)).1;
      numbered = first_number greatest_device_number;
      room = λ other is running.
          let same : setup ≡ other = same-some setup other is in
          subst (λ (s : Setup). HasRoom s.slots (records_coming w) (new_core setup)) same
          (with-no-days setup.slots (records_coming w) (new_core setup) (laws.new setup (records_coming w)).1
          (subst (λ l. length l + open_count_of l ≤ setup.slots) (sym coming) (taken-leaves-slots setup.slots (length v.scene.outside.file) (records_of v.scene) (not-true (opening setup v.scene.outside.file (records_of v.scene)).refused running))));
      terminals = λ clear pt terminal found no_cut. (laws.new setup (records_coming w)).0 pt terminal found;
      waits = λ other is clear.
          let same : setup ≡ other = same-some setup other is in
          subst (λ (s : Setup). AreWaitsInOrder (record { setup = s; core = new_core setup; kept = records_coming w; moment = w.scene.outside.moment })) same (new-has-none-waiting setup (records_coming w) w.scene.outside.moment);
    }
  where
    first_number : (count : ℕ) → 0 ≤ count
    first_number count = omega arith

-- a till that is gone leaves as many ends of day, and no more requests that wait
gone-counts : (laws : OrderLaws) (core : Core) (till : ℕ) → CountsStay core (core_without core till)
gone-counts laws core till = (
  fewer-reserved (days_served (core_without core till).terminals) (days_served core.terminals) (length (core_without core till).waits) (length core.waits)
      (subst (λ days. days ≤ days_served core.terminals) (sym (laws.gone core till).0) (no-fewer (days_served core.terminals))) (laws.gone core till).1,
  refl,
)

-- and what waits then is in order
gone-waits : (v w : View) (till : ℕ) → HasWaits v → records_coming w ≡ records_coming v → w.scene.core ≡ core_without v.scene.core till → w.scene.setup ≡ v.scene.setup → (is_broken w.scene.stage ≡ false → is_broken v.scene.stage ≡ false) → HasWaits w
gone-waits v w till h coming core setup clear = λ run is w_clear.
    subst (λ (c : Core). AreWaitsInOrder (record { setup = run; core = c; kept = records_coming w; moment = w.scene.outside.moment })) (sym core)
    (subst (λ (l : List Record). AreWaitsInOrder (record { setup = run; core = core_without v.scene.core till; kept = l; moment = w.scene.outside.moment })) (sym coming)
    (moments-keep-waits (record (known_coming v run) { core = core_without v.scene.core till }) w.scene.outside.moment (gone-keeps-waits (known_coming v run) till (h run (sym setup ∙ is) (clear w_clear)))))

-- ---- each turn

turn-leaves : OrderLaws → (log : List Turn) (v : View) (turn : Turn) → Ordered log v → AllowedTurn v turn → Leaves (after_turn v turn)
turn-leaves laws log v (Start setup) o ok = start-leaves laws v setup
turn-leaves laws log v OpenFailed o ok = nobody-leaves (after_turn v OpenFailed) refl refl refl refl
turn-leaves laws log v (Polled now) o ok = event-leaves log v (after_turn v (Polled now)) o ok.running ok.calls refl refl refl refl refl refl (λ setup. read-due setup v.scene.core)
turn-leaves laws log v (Opened till) o ok =
    event-leaves log v (after_turn v (Opened till)) o (ap is_running ok.0) (o.owing.polled ok.0) refl refl refl refl refl refl
    (λ setup. All-append (IsReadItem setup) (till_opened_items till v.scene.outside.tills) (items_due v.scene.core) (read-opened setup till v.scene.outside.tills) (read-due setup v.scene.core))
turn-leaves laws log v (HeardTill till bytes) o ok =
    let decoded : DecodedFrames = decode_after (decode_frames (heard_on v.scene.outside.tills till)).rest bytes in
    event-leaves log v (after_turn v (HeardTill till bytes)) o (ap is_running ok.0.polled) (o.owing.polled ok.0.polled) refl refl refl refl refl refl
    (λ setup. All-append (IsReadItem setup) (decoded_items till decoded) (items_due v.scene.core) (read-till setup till decoded) (read-due setup v.scene.core))
turn-leaves laws log v (Closed till) o ok =
    event-leaves log v (after_turn v (Closed till)) o (ap is_running ok.polled) (o.owing.polled ok.polled) refl refl refl refl refl refl (λ setup. All-cons (IsReadItem setup) (Gone till) (items_due v.scene.core) tt (read-due setup v.scene.core))
turn-leaves laws log v (HeardPt pt bytes) o ok =
    let decoded : DecodedApdus = decode_apdus ((decode_apdus (heard_on v.scene.outside.links pt)).rest ++ bytes) in
    event-leaves log v (after_turn v (HeardPt pt bytes)) o (ap is_running ok.0.polled) (o.owing.polled ok.0.polled) refl refl refl refl refl refl
    (λ setup. All-append (IsReadItem setup) (decoded_apdu_items pt decoded) (items_due v.scene.core) (read-pt setup pt decoded) (read-due setup v.scene.core))
turn-leaves laws log v (Lost pt) o ok =
    event-leaves log v (after_turn v (Lost pt)) o (ap is_running ok.polled) (o.owing.polled ok.polled) refl refl refl refl refl refl (λ setup. All-cons (IsReadItem setup) (LinkLost pt) (items_due v.scene.core) tt (read-due setup v.scene.core))
turn-leaves laws log v Stopped o ok = event-leaves log v (after_turn v Stopped) o (ap is_running ok) (o.owing.polled ok) refl refl refl refl refl refl (λ setup. All-nil (IsReadItem setup))
turn-leaves laws log v (Linked pt) o ok =
    let k = call-setup v (LinkPt pt) o.agrees.run ok in
    let spares = spares-both (link_made_at v.scene pt).calls (later v.calls) (made-at-spares v.scene pt) (call-spares log v (LinkPt pt) o ok refl) in
    link-leaves laws log v (after_turn v (Linked pt)) pt LinkIsMade (LinkPt pt) k o ok refl (call-last v.calls (LinkPt pt) (λ more. refl) ok o.agrees.ends) (λ one differs. refl) spares refl refl refl refl
    (ap (λ l. l ++ v.items) (made-brings-none v.scene pt)) (ap (λ (r : Row). r.core) (made-at v.scene pt k.setup k.setup_is))
turn-leaves laws log v (LinkFailed pt) o ok =
    let k = call-setup v (LinkPt pt) o.agrees.run ok in
    let spares = spares-both (link_lost_at v.scene pt).calls [] (lost-at-spares v.scene pt) refl in
    link-leaves laws log v (after_turn v (LinkFailed pt)) pt LinkIsLost (LinkPt pt) k o ok refl (call-last v.calls (LinkPt pt) (λ more. refl) ok o.agrees.ends) (λ one differs. refl) spares refl refl refl refl
    (ap (λ l. l ++ v.items) (lost-brings-none v.scene pt)) (ap (λ (r : Row). r.core) (lost-at v.scene pt k.setup k.setup_is))
turn-leaves laws log v (SentTill till bytes true) o ok =
    let w : View = after_turn v (SentTill till bytes true) in
    call-leaves log v w (SendTill till ok.0) o ok.1 refl (call-spares log v (SendTill till ok.0) o ok.1 refl) refl refl refl refl refl (same-counts v.scene.core)
    (λ coming. same-terminals v w o.terminals coming refl (stage-clear v w refl) (λ pt no_cut. later-cuts pt v.calls (SendTill till ok.0) ok.1 refl no_cut))
    (λ coming is_kept. same-waits v w o.waits coming refl refl (stage-clear v w refl))
turn-leaves laws log v (SentTill till bytes false) o ok =
    let w : View = after_turn v (SentTill till bytes false) in
    call-leaves log v w (SendTill till ok.0) o ok.1 refl refl refl refl refl refl refl (same-counts v.scene.core)
    (λ coming. same-terminals v w o.terminals coming refl (stage-clear v w refl)
    (λ pt no_cut. last-cuts pt v.calls (SendTill till ok.0) ok.1 (call-last v.calls (SendTill till ok.0) (λ more. refl) ok.1 o.agrees.ends) refl))
    (λ coming is_kept. same-waits v w o.waits coming refl refl (stage-clear v w refl))
turn-leaves laws log v (SentPt number bytes true) o ok =
    let w : View = after_turn v (SentPt number bytes true) in
    call-leaves log v w (SendPt number ok.0) o ok.1 refl (call-spares log v (SendPt number ok.0) o ok.1 refl) refl refl refl refl refl (same-counts v.scene.core)
    (λ coming. same-terminals v w o.terminals coming refl (stage-clear v w refl) (λ pt no_cut. later-cuts pt v.calls (SendPt number ok.0) ok.1 refl no_cut))
    (λ coming is_kept. same-waits v w o.waits coming refl refl (stage-clear v w refl))
turn-leaves laws log v (SentPt number bytes false) o ok =
    let w : View = after_turn v (SentPt number bytes false) in
    call-leaves log v w (SendPt number ok.0) o ok.1 refl refl refl refl refl refl refl (same-counts v.scene.core)
    (λ coming. same-terminals v w o.terminals coming refl (stage-clear v w refl)
    (λ pt no_cut. last-cuts pt v.calls (SendPt number ok.0) ok.1 (call-last v.calls (SendPt number ok.0) (λ more. refl) ok.1 o.agrees.ends) refl))
    (λ coming is_kept. same-waits v w o.waits coming refl refl (stage-clear v w refl))
turn-leaves laws log v (CutTill till) o ok =
    let w : View = after_turn v (CutTill till) in
    call-leaves log v w (OwedCutTill till) o ok refl (call-spares log v (OwedCutTill till) o ok refl) refl refl refl refl refl (gone-counts laws v.scene.core till)
    (λ coming clear pt terminal found no_cut.
    subst (λ l. IsTerminalInOrder l terminal) (sym coming)
    (forgotten-in-order (records_coming v) till v.scene.core pt terminal found (λ before there. o.terminals (stage-clear v w refl clear) pt before there (later-cuts pt v.calls (OwedCutTill till) ok refl no_cut))))
    (λ coming is_kept. gone-waits v w till o.waits coming refl refl (stage-clear v w refl))
turn-leaves laws log v (CutPt pt) o ok =
    let k = call-setup v (OwedCutPt pt) o.agrees.run ok in
    let spares = spares-both (link_lost_at v.scene pt).calls (later v.calls) (lost-at-spares v.scene pt) (call-spares log v (OwedCutPt pt) o ok refl) in
    link-leaves laws log v (after_turn v (CutPt pt)) pt LinkIsLost (OwedCutPt pt) k o ok refl (call-last v.calls (OwedCutPt pt) (λ more. refl) ok o.agrees.ends) (λ one differs. not-number pt one (λ same. differs (sym same))) spares refl refl refl refl
    (ap (λ l. l ++ v.items) (lost-brings-none v.scene pt)) (ap (λ (r : Row). r.core) (lost-at v.scene pt k.setup k.setup_is))
turn-leaves laws log v (Wrote offset bytes) o ok = wrote-leaves log v offset bytes o ok
turn-leaves laws log v Synced o ok = synced-leaves log v o ok
turn-leaves laws log v DiskFailed o ok = record {
  read = λ setup is. All-nil (IsReadItem setup);
  quiet = λ opening. no-true opening;
  no_days = λ opening. no-true opening;
  numbered = o.numbered;
  room = λ setup is running. no-true running;
  terminals = λ clear pt terminal found no_cut. no-true (sym clear);
  waits = λ setup is clear. no-true (sym clear);
}
turn-leaves laws log v (Crash file) o ok = nobody-leaves (after_turn v (Crash file)) refl refl refl refl

pub turn-ordered : OrderLaws → (log : List Turn) (v : View) (turn : Turn) → Ordered log v → AllowedTurn v turn → Ordered (log ++ turn ∷ []) (after_turn v turn)
turn-ordered laws log v turn o ok =
    let l = turn-leaves laws log v turn o ok in
    record {
      agrees = move-agrees v (Make turn) o.agrees ok;
      keeps = turn-goes-on ledger_rules log v turn o.keeps ok;
      owed = _;
      owing = move-owing o.owed v (Make turn) o.owing ok;
      read = l.read;
      quiet = l.quiet;
      no_days = l.no_days;
      room = l.room;
      numbered = l.numbered;
      terminals = l.terminals;
      waits = l.waits;
    }

-- ---- along a course

course-ordered : OrderLaws → (log : List Turn) (v : View) (moves : List Move) → Ordered log v → IsCourse v moves → Ordered (log ++ turns_of moves) (view_from v moves)
course-ordered laws log v [] o c = subst (λ l. Ordered l v) (sym (append-nil log)) o
course-ordered laws log v (Begin ∷ moves) o c = course-ordered laws log (after v Begin) moves (begin-ordered laws log v o c.0) c.1
course-ordered laws log v (Read as_read ∷ moves) o c = course-ordered laws log (after v (Read as_read)) moves (read-ordered log v as_read o c.0) c.1
course-ordered laws log v (Make turn ∷ moves) o c =
    subst (λ l. Ordered l (view_from (after_turn v turn) moves)) (append_assoc log (turn ∷ []) (turns_of moves)) (course-ordered laws (log ++ turn ∷ []) (after_turn v turn) moves (turn-ordered laws log v turn o c.0) c.1)

pub first-ordered : Ordered [] at_first
first-ordered =
    let l = nobody-leaves at_first refl refl refl refl in
    record { agrees = first-agrees; keeps = KeepsOn.NoMoves; owed = []; owing = first-owing; read = l.read; quiet = l.quiet; no_days = l.no_days; room = l.room; numbered = l.numbered; terminals = l.terminals; waits = l.waits }

pub log-ordered : OrderLaws → (log : List Turn) (v : View) → Stands log v → Ordered log v
log-ordered laws log v s = subst (λ w. Ordered log w) s.view_is (subst (λ l. Ordered l (view_from at_first s.course)) s.log_is (course-ordered laws [] at_first s.course first-ordered s.lawful))

-- ---- the laws

pub each-lawful-keeps-journal : OrderLaws → EachLawfulKeepsJournal
each-lawful-keeps-journal laws log v s = (log-ordered laws log v s).keeps

pub each-lawful-has-kept : OrderLaws → EachLawfulHasKept
each-lawful-has-kept laws log v s = has-kept ledger_rules log v (each-lawful-keeps-journal laws log v s)

pub each-has-journal-files : OrderLaws → EachHasJournalFiles
each-has-journal-files laws log (v, s) = each-keeps-journal-files ledger_rules log v (each-lawful-keeps-journal laws log v s)

pub lawful-refused-only-with-fewer-slots : OrderLaws → LawfulRefusedOnlyWithFewerSlots
lawful-refused-only-with-fewer-slots laws log v setup s = refused-only-with-fewer-slots log v setup (each-lawful-keeps-journal laws log v s)

pub each-log-folds : OrderLaws → EachLogFolds
each-log-folds laws log v s = folds-at-once log v (holds ledger_rules log v (each-lawful-keeps-journal laws log v s))

pub each-log-image-folds : OrderLaws → EachLogImageFolds
each-log-image-folds laws log v file bodies s = each-image-folds log v file bodies (each-lawful-keeps-journal laws log v s)

pub each-log-leaves-slots : OrderLaws → EachLogLeavesSlots
each-log-leaves-slots laws log v setup s = (log-ordered laws log v s).room setup

pub each-log-comes-in-order : OrderLaws → EachLogComesInOrder
each-log-comes-in-order laws log v pt terminal s clear = (log-ordered laws log v s).terminals clear pt terminal

pub each-item-was-read : OrderLaws → EachItemWasRead
each-item-was-read laws log v setup s = (log-ordered laws log v s).read setup

pub each-log-is-in-order : OrderLaws → EachLogIsInOrder
each-log-is-in-order laws log v setup s is between =
    let k : HasSetup v.scene = record { setup = setup; setup_is = is; within = setup-within-limits log v setup s is } in
    between-items log v (log-ordered laws log v s) k between.running between.calls

pub each-log-has-waits : OrderLaws → EachLogHasWaitsInOrder
each-log-has-waits laws log v setup s = (log-ordered laws log v s).waits setup

-- what a terminal's standing says is on record between items
between-records : OrderLaws → (log : List Turn) (v : View) (pt : ℕ) (terminal : Terminal) (standing : Standing) → Stands log v → IsBetweenItems v → slice_get v.scene.core.terminals pt ≡ Some terminal → terminal.standing ≡ standing
    → AreRecordsOf v.scene.kept terminal.pt.poi standing
between-records laws log v pt terminal standing s between found is =
    let o = log-ordered laws log v s in
    let h : Holds (owned ledger_rules) log v = holds ledger_rules log v o.keeps in
    let coming : records_coming v ≡ v.scene.kept = coming-kept v (ap spare_disk between.calls) (idle-rests (owned ledger_rules) log v h between.running between.calls).is_open.no_flight in
    let t = o.terminals (clear-where v.scene.stage is_running refl between.running) pt terminal found (ap (cut_owed pt) between.calls) in
    subst (λ l. AreRecordsOf l terminal.pt.poi standing) coming (subst (AreRecordsOf (records_coming v) terminal.pt.poi) is t.records)

pub ready-has-none-open : OrderLaws → ReadyHasNoneOpen
ready-has-none-open laws log v pt terminal last s between found is = between-records laws log v pt terminal (Ready last) s between found is

pub served-is-open : OrderLaws → ServedIsOpen
served-is-open laws log v pt terminal slot last s between found is = between-records laws log v pt terminal (Serving (Transaction slot) last) s between found is

pub day-served-is-unknown : OrderLaws → DayServedIsUnknown
day-served-is-unknown laws log v pt terminal header period last s between found is = between-records laws log v pt terminal (Serving (EndOfDay header period) last) s between found is
