-- What is kept along a log of a gateway that keeps a journal.
use Rattle.std.proofs.Common.{◌≡◌, ◌+◌, Bool, true, false, List, [], ◌∷◌, ◌++◌, length, refl, sym, ◌∙◌, ap, subst, arith, inl, inr, append_assoc, append-nil}
use Rattle.std.proofs.lemmas.List.{length-map}
use Rattle.std.specs.Prelude.{ℕ, map, Option, None, Some, option_to_list}
use Rattle.gw_base.specs.declared.setup.Setup.{Setup}
use Rattle.gw_site.specs.Outside.{Outside, outside_of}
use Rattle.gw_site.specs.declared.turn.Turn.{Turn}
use Rattle.gw_site.specs.declared.turn.Turn.TheVariants.{Start, OpenFailed, Polled, Opened, HeardTill, Closed, HeardPt, Lost, Stopped, Linked, LinkFailed, SentTill, SentPt, CutTill, CutPt, Wrote, Synced, DiskFailed, Crash}
use Rattle.jrn_record.specs.Grammar.{record_body}
use Rattle.jrn_record.specs.Limits.{IsRecord}
use Rattle.jrn_record.specs.declared.records.Record.{Record}
use Rattle.jrn_record.proofs.LawLemmas.{record_body-offsets}
use Rattle.jrn_log.specs.Foreign.{LeavesJournals, EndsClosed, append_turns}
use Rattle.jrn_log.specs.Journal.{IsAtRest}
use Rattle.jrn_log.specs.JournalLogs.{HasGateAfter, IsOpenWith}
use Rattle.jrn_log.specs.JournalTurns.{first_gate}
use Rattle.jrn_log.specs.Slots.{AreSlots}
use Rattle.jrn_log.proofs.ForeignLemmas.{append_leaves, file_can, stable_can}
use Rattle.jrn_log.proofs.SlotLemmas.{one_slots, push_length}
use Rattle.gw_owes.specs.Calls.{OwedCall}
use Rattle.gw_owes.specs.Items.{RoundItem}
use Rattle.gw_owes.specs.ReadAs.{ReadAs}
use Rattle.gw_owes.specs.Row.{Row}
use Rattle.gw_rules.specs.JournalFiles.{HasJournal, spare_disk, IsOpened}
use Rattle.gw_rules.specs.KeptLaws.{RecordRules, HasSlotFor, KeepsRecord, KeepsAtMostOne, opens_journal, KeepsOn, KeepsJournal, HasKept, EachKeepsFile, EachImageHasKept, NoneKeptIsLost, NeverTruncated, NeverBad, LongOnlyWithFewerSlots, FullOnlyWithFewerSlots, EachRoundHasJournal, EachStartOpensJournal, EachKeepsJournalFiles, HasFiles, HandedInKeepsFiles, OpeningKeepsFiles, KeepingKeepsFiles}
use Rattle.gw_rules.specs.Lawful.{AllowedTurn, Begins}
use Rattle.gw_rules.specs.Opening.{opening, opening_calls}
use Rattle.gw_rules.specs.Scene.{Scene, records_of}
use Rattle.gw_rules.specs.Stage.{Opening, AtPoll, is_round}
use Rattle.gw_rules.specs.View.{View, Read, begun, started, after, after_turn, at_first}
use Rattle.gw_rules.proofs.JournalLemmas.{opening-has-journal}
use Rattle.gw_rules.proofs.JournalStateLemmas.{state-first, state-leaves, state-open}
use Rattle.gw_rules.proofs.KeptFileLemmas.{Files, clean-files, Basis, owned, handed, InOrder, Had, HadWhere, order-more, order-none, FreeSlots, file-gate, free-none, kept-by-either, kept-by-more, kept-by-order, kept_by, none-truncated, one-byte-file, one-byte-files}
use Rattle.gw_rules.proofs.KeptPhaseLemmas.{Phase, RanWhere, Body, Facts, FirstSync, Holds, IsOfLog, busy-off-poll, owes_all, rests-sparing, round-runs}
use Rattle.gw_rules.proofs.KeptTurnLemmas.{idle-rests, no-more, outside-later, still-facts, turns}

-- ---- along a log of a gateway that keeps a journal

nothing-made : (basis : Basis) → Holds basis [] at_first
nothing-made basis = record {
  outside_is = refl;
  facts = record {
    files = one-byte-files [] [] (omega arith) refl;
    in_order = order-none basis;
    long = one-byte-file basis [] (omega arith);
    free = free-none basis [];
    all_free = free-none basis [];
    state = None;
    journal = state-first;
  };
  setup_is = tt;
  phase = inl (record { over = refl; calls_are = refl });
}

opening-off-poll : (refused : Bool) → Opening refused ≡ AtPoll → ⊥
opening-off-poll refused e = cc

-- a run has just begun with this setup
just-ran : (own : Bool) (log : List Turn) (setup : Setup) → RanWhere own setup (log ++ Start setup ∷ [])
just-ran true log setup = record { before = log; rest = []; log_is = refl }
just-ran false log setup = tt

run-begins : (basis : Basis) (log : List Turn) (v : View) (setup : Setup) (refused : Bool) → Holds basis log v → Holds basis (log ++ Start setup ∷ []) (started v.scene setup (opens_journal v.scene.outside.file refused))
run-begins basis log v setup refused h =
    let outside : (after_turn v (Start setup)).scene.outside ≡ outside_of (log ++ Start setup ∷ []) = outside-later v log (Start setup) h.outside_is in
    record {
      outside_is = outside;
      facts = still-facts basis log (Start setup) v.scene.kept v.scene.flight (λ o. (refl, refl, refl)) h.facts;
      setup_is = just-ran basis.own log setup;
      phase = inr (inr (FirstSync (ap (λ (o : Outside). opening_calls (length o.file)) outside), opening-off-poll refused));
    }

message-is-read : (basis : Basis) (log : List Turn) (v : View) (as_read : ReadAs) → Holds basis log v → is_round v.scene.stage ≡ true → v.calls ≡ [] → Holds basis log (after v (Read as_read))
message-is-read basis log v as_read h round e =
    let r = idle-rests basis log v h (round-runs v.scene.stage round) e in
    record { outside_is = h.outside_is; facts = h.facts; setup_is = h.setup_is; phase = inr (inl (record { is_open = r.is_open; spares = refl })) }

-- an item begins that owes no call on the disk
item-spares : (basis : Basis) (log : List Turn) (v : View) (row : Row) (items : List RoundItem) → Holds basis log v → Begins v → spare_disk row.calls ≡ true → Holds basis log (begun v.scene row items)
item-spares basis log v row items h b spares =
    let r = idle-rests basis log v h (round-runs v.scene.stage b.idle.round) b.idle.calls in
    record { outside_is = h.outside_is; facts = h.facts; setup_is = h.setup_is; phase = inr (inl (record { is_open = r.is_open; spares = spares })) }

-- the setup of the run has the slots that the records need with one more
room-free : (basis : Basis) (log : List Turn) (scene : Scene) (the_record : Record) → IsOfLog basis log scene.setup → HasSlotFor basis.rules scene the_record → FreeSlots basis log (scene.kept ++ the_record ∷ [])
room-free basis log scene the_record of_log room slots needs = by_own basis.own (subst (IsOfLog basis log) room.setup_is of_log)
  where
    by_own : (own : Bool) → RanWhere own room.setup log → HadWhere own slots log
    by_own true ran = record { setup = room.setup; ran = ran; more = let le = room.room in omega (arith, le, needs) }
    by_own false ran = tt

-- so a run had a slot for it
room-had : (basis : Basis) (log : List Turn) (scene : Scene) (the_record : Record) → IsOfLog basis log scene.setup → HasSlotFor basis.rules scene the_record → Had basis (length (map record_body scene.kept)) log
room-had basis log scene the_record of_log room = room-free basis log scene the_record of_log room (length (map record_body scene.kept))
    (let n : length (map record_body scene.kept) ≡ length scene.kept = length-map scene.kept record_body in let m : length (scene.kept ++ the_record ∷ []) ≡ length scene.kept + 1 = push_length scene.kept the_record in omega (arith, n, m))

-- and one that owes that a record is kept
item-keeps : (basis : Basis) (log : List Turn) (v : View) (row : Row) (items : List RoundItem) → Holds basis log v → Begins v → KeepsRecord basis.rules v.scene row.calls → Holds basis log (begun v.scene row items)
item-keeps basis log v row items h b k =
    let open_journal = (idle-rests basis log v h (round-runs v.scene.stage b.idle.round) b.idle.calls).is_open in
    let kept : InOrder basis v.scene.kept = subst (λ l. InOrder basis l) (no-more v.scene.kept v.scene.flight open_journal.no_flight) h.facts.in_order in
    let n : length v.scene.kept ≡ length (map record_body v.scene.kept) = sym (length-map v.scene.kept record_body) in
    record {
      outside_is = h.outside_is;
      facts = h.facts;
      setup_is = h.setup_is;
      phase = inr (inr (
        Body (record {
          base = log;
          the_record = k.the_record;
          more = k.more;
          journal = open_journal.journal;
          size = (record_body-offsets k.the_record k.within).0;
          in_order = order-more basis v.scene.kept k.the_record kept k.within k.follows;
          room = room-had basis log v.scene k.the_record h.setup_is k.room;
          free = room-free basis log v.scene k.the_record h.setup_is k.room;
          log_is = sym (append-nil log);
          calls_are = k.calls_are ∙ ap (λ slot. owes_all slot k.the_record ++ k.more) n;
          spares = k.spares;
          flight_is = open_journal.no_flight;
        }),
        busy-off-poll v.scene.stage,
      ));
    }

item-begins : (basis : Basis) (log : List Turn) (v : View) (row : Row) (items : List RoundItem) → Holds basis log v → Begins v → KeepsAtMostOne basis.rules v.scene row.calls → Holds basis log (begun v.scene row items)
item-begins basis log v row items h b (inl spares) = item-spares basis log v row items h b spares
item-begins basis log v row items h b (inr k) = item-keeps basis log v row items h b k

holds-on : (basis : Basis) (base : List Turn) (first : View) (log : List Turn) (v : View) → Holds basis base first → KeepsOn basis.rules base first log v → Holds basis log v
holds-on basis base first _ _ h KeepsOn.NoMoves = h
holds-on basis base first _ _ h (KeepsOn.RunBegins log v setup refused k ok) = run-begins basis log v setup refused (holds-on basis base first log v h k)
holds-on basis base first _ _ h (KeepsOn.TurnComes log v turn k ok other) = turns basis log v turn (holds-on basis base first log v h k) ok (λ setup e. absurd (other setup e))
holds-on basis base first _ _ h (KeepsOn.MessageIsRead log v as_read k ok) = message-is-read basis log v as_read (holds-on basis base first log v h k) ok.idle.round ok.idle.calls
holds-on basis base first _ _ h (KeepsOn.ItemBegins log v item items row k b is one) = item-begins basis log v row items (holds-on basis base first log v h k) b one

pub holds : (rules : RecordRules) (log : List Turn) (v : View) → KeepsJournal rules log v → Holds (owned rules) log v
holds rules log v k = holds-on (owned rules) [] at_first log v (nothing-made (owned rules)) k

-- ---- the records that are kept stay kept

-- these records are the first ones, and more after them
abbrev HasAll : List Record → List Record → Type 0
HasAll records first = (more : List Record) × (records ≡ first ++ more)

all-same : (records : List Record) → HasAll records records
all-same records = ([], sym (append-nil records))

all-later : (first between records : List Record) → HasAll between first → HasAll records between → HasAll records first
all-later first between records one other = (one.0 ++ other.0, other.1 ∙ ap (λ l. l ++ other.0) one.1 ∙ append_assoc first one.0 other.0)

turn-keeps : (v : View) (turn : Turn) → HasAll (after_turn v turn).scene.kept v.scene.kept
turn-keeps v (Start setup) = all-same v.scene.kept
turn-keeps v OpenFailed = all-same v.scene.kept
turn-keeps v (Polled now) = all-same v.scene.kept
turn-keeps v (Opened till) = all-same v.scene.kept
turn-keeps v (HeardTill till bytes) = all-same v.scene.kept
turn-keeps v (Closed till) = all-same v.scene.kept
turn-keeps v (HeardPt pt bytes) = all-same v.scene.kept
turn-keeps v (Lost pt) = all-same v.scene.kept
turn-keeps v Stopped = all-same v.scene.kept
turn-keeps v (Linked pt) = all-same v.scene.kept
turn-keeps v (LinkFailed pt) = all-same v.scene.kept
turn-keeps v (SentTill till bytes true) = all-same v.scene.kept
turn-keeps v (SentTill till bytes false) = all-same v.scene.kept
turn-keeps v (SentPt pt bytes true) = all-same v.scene.kept
turn-keeps v (SentPt pt bytes false) = all-same v.scene.kept
turn-keeps v (CutTill till) = all-same v.scene.kept
turn-keeps v (CutPt pt) = all-same v.scene.kept
turn-keeps v (Wrote offset bytes) = all-same v.scene.kept
turn-keeps v Synced = (option_to_list v.scene.flight, refl)
turn-keeps v DiskFailed = all-same v.scene.kept
turn-keeps v (Crash file) = kept-by-more v.scene.kept v.scene.flight file

keeps-later : (rules : RecordRules) (base : List Turn) (first : View) (log : List Turn) (v : View) → KeepsOn rules base first log v → HasAll v.scene.kept first.scene.kept
keeps-later rules base first _ _ KeepsOn.NoMoves = all-same first.scene.kept
keeps-later rules base first _ _ (KeepsOn.RunBegins log v setup refused k ok) = keeps-later rules base first log v k
keeps-later rules base first _ _ (KeepsOn.TurnComes log v turn k ok other) = all-later first.scene.kept v.scene.kept (after_turn v turn).scene.kept (keeps-later rules base first log v k) (turn-keeps v turn)
keeps-later rules base first _ _ (KeepsOn.MessageIsRead log v as_read k ok) = keeps-later rules base first log v k
keeps-later rules base first _ _ (KeepsOn.ItemBegins log v item items row k b is one) = keeps-later rules base first log v k

-- ---- one turn more

-- a turn that may come next is one of a gateway that keeps a journal
pub turn-goes-on : (rules : RecordRules) (log : List Turn) (v : View) (turn : Turn) → KeepsJournal rules log v → AllowedTurn v turn → KeepsJournal rules (log ++ turn ∷ []) (after_turn v turn)
turn-goes-on rules log v (Start setup) k ok = KeepsOn.RunBegins log v setup (opening setup v.scene.outside.file (records_of v.scene)).refused k ok
turn-goes-on rules log v OpenFailed k ok = KeepsOn.TurnComes log v OpenFailed k ok (λ setup e. cc)
turn-goes-on rules log v (Polled now) k ok = KeepsOn.TurnComes log v (Polled now) k ok (λ setup e. cc)
turn-goes-on rules log v (Opened till) k ok = KeepsOn.TurnComes log v (Opened till) k ok (λ setup e. cc)
turn-goes-on rules log v (HeardTill till bytes) k ok = KeepsOn.TurnComes log v (HeardTill till bytes) k ok (λ setup e. cc)
turn-goes-on rules log v (Closed till) k ok = KeepsOn.TurnComes log v (Closed till) k ok (λ setup e. cc)
turn-goes-on rules log v (HeardPt pt bytes) k ok = KeepsOn.TurnComes log v (HeardPt pt bytes) k ok (λ setup e. cc)
turn-goes-on rules log v (Lost pt) k ok = KeepsOn.TurnComes log v (Lost pt) k ok (λ setup e. cc)
turn-goes-on rules log v Stopped k ok = KeepsOn.TurnComes log v Stopped k ok (λ setup e. cc)
turn-goes-on rules log v (Linked pt) k ok = KeepsOn.TurnComes log v (Linked pt) k ok (λ setup e. cc)
turn-goes-on rules log v (LinkFailed pt) k ok = KeepsOn.TurnComes log v (LinkFailed pt) k ok (λ setup e. cc)
turn-goes-on rules log v (SentTill till bytes sent) k ok = KeepsOn.TurnComes log v (SentTill till bytes sent) k ok (λ setup e. cc)
turn-goes-on rules log v (SentPt pt bytes sent) k ok = KeepsOn.TurnComes log v (SentPt pt bytes sent) k ok (λ setup e. cc)
turn-goes-on rules log v (CutTill till) k ok = KeepsOn.TurnComes log v (CutTill till) k ok (λ setup e. cc)
turn-goes-on rules log v (CutPt pt) k ok = KeepsOn.TurnComes log v (CutPt pt) k ok (λ setup e. cc)
turn-goes-on rules log v (Wrote offset bytes) k ok = KeepsOn.TurnComes log v (Wrote offset bytes) k ok (λ setup e. cc)
turn-goes-on rules log v Synced k ok = KeepsOn.TurnComes log v Synced k ok (λ setup e. cc)
turn-goes-on rules log v DiskFailed k ok = KeepsOn.TurnComes log v DiskFailed k ok (λ setup e. cc)
turn-goes-on rules log v (Crash file) k ok = KeepsOn.TurnComes log v (Crash file) k ok (λ setup e. cc)

-- ---- the laws

-- what is kept, by the facts
facts-kept : (rules : RecordRules) (log : List Turn) (scene : Scene) → Facts (owned rules) log scene.kept scene.flight → HasKept rules log scene
facts-kept rules log scene f = record {
  file = record { stable = f.files.stable; file = f.files.file };
  images = f.files.images;
  truncated = λ file slot image truncated.
      let kept : List Record = kept_by scene.kept scene.flight file in
      none-truncated file (map record_body kept) (f.files.images file image) (subst (HasGateAfter file) (sym (length-map kept record_body)) (f.files.gates file image)) slot truncated;
  bad = λ file bodies image slots. record {
    records = kept_by scene.kept scene.flight file;
    bodies_are = one_slots file bodies (map record_body (kept_by scene.kept scene.flight file)) slots (f.files.images file image);
    in_order = kept-by-order (owned rules) scene.kept scene.flight file f.in_order;
  };
  long = λ file slots image too_long. f.long slots (let le = image.no_longer in omega (arith, le, too_long));
  full = λ file slots image needs. kept-by-either (FreeSlots (owned rules) log) scene.kept scene.flight file f.free f.all_free slots needs;
}

pub has-kept : (rules : RecordRules) (log : List Turn) (v : View) → KeepsJournal rules log v → HasKept rules log v.scene
has-kept rules log v k = facts-kept rules log v.scene (holds rules log v k).facts

pub each-keeps-file : EachKeepsFile
each-keeps-file rules log v k = (has-kept rules log v k).file

pub each-image-has-kept : EachImageHasKept
each-image-has-kept rules log v k = (has-kept rules log v k).images

pub none-kept-is-lost : NoneKeptIsLost
none-kept-is-lost rules before log first v file k on image =
    let f = (holds-on (owned rules) before first log v (holds rules before first k) on).facts in
    let all = all-later first.scene.kept v.scene.kept (kept_by v.scene.kept v.scene.flight file) (keeps-later rules before first log v on) (kept-by-more v.scene.kept v.scene.flight file) in
    (all.0, subst (λ l. AreSlots file (map record_body l)) all.1 (f.files.images file image))

pub never-truncated : NeverTruncated
never-truncated rules log v k = (has-kept rules log v k).truncated

pub never-bad : NeverBad
never-bad rules log v k = (has-kept rules log v k).bad

pub long-only-with-fewer-slots : LongOnlyWithFewerSlots
long-only-with-fewer-slots rules log v k = (has-kept rules log v k).long

pub full-only-with-fewer-slots : FullOnlyWithFewerSlots
full-only-with-fewer-slots rules log v k = (has-kept rules log v k).full

pub each-round-has-journal : EachRoundHasJournal
each-round-has-journal rules log v k round spares =
    let h = holds rules log v k in
    let r = rests-sparing (owned rules) log v.scene.kept v.scene.flight v.calls v.scene.stage h.phase (round-runs v.scene.stage round) spares in
    let journal = r.is_open.journal in
    let o = state-open log (map record_body v.scene.kept) journal in
    let n : length (map record_body v.scene.kept) ≡ length v.scene.kept = length-map v.scene.kept record_body in
    record {
      outside_is = h.outside_is;
      no_flight = r.is_open.no_flight;
      at_rest = subst (IsAtRest log) n o.at_rest;
      kept = o.kept;
      ends = subst (EndsClosed (outside_of log).file) n o.ends;
    }

pub each-start-opens-journal : EachStartOpensJournal
each-start-opens-journal rules log v setup k =
    let after : List Turn = log ++ Start setup ∷ [] in
    let next : View = after_turn v (Start setup) in
    let h : Holds (owned rules) after next = run-begins (owned rules) log v setup (opening setup v.scene.outside.file (records_of v.scene)).refused (holds rules log v k) in
    let file : v.scene.outside.file ≡ (outside_of after).file = ap (λ (o : Outside). o.file) h.outside_is in
    let calls : next.calls ≡ opening_calls (length (outside_of after).file) ++ [] = ap (λ f. opening_calls (length f)) file ∙ sym (append-nil _) in
    subst (λ f. IsOpened after next [] (Synced ∷ first_gate (length f))) (sym file)
    (opening-has-journal after next [] h.outside_is (state-leaves after h.facts.state h.facts.journal) h.facts.files.file (file-gate after next.scene.kept next.scene.flight h.facts.files) calls)

pub each-keeps-journal-files : EachKeepsJournalFiles
each-keeps-journal-files rules log v k =
    let f = (holds rules log v k).facts in
    let leaves = state-leaves log f.state f.journal in
    record { file = file_can log leaves; stable = stable_can log leaves; images = leaves }

-- ---- from a file that is handed in

handed-setup : (rules : RecordRules) (log : List Turn) (setup : Option Setup) → IsOfLog (handed rules) log setup
handed-setup rules log None = tt
handed-setup rules log (Some setup) = tt

-- what holds of such files
handed-facts : (rules : RecordRules) (log : List Turn) (kept : List Record) (flight : Option Record) → Files log kept flight → LeavesJournals log → Facts (handed rules) log kept flight
handed-facts rules log kept flight files leaves = record { files = files; in_order = tt; long = λ slots too_long. tt; free = λ slots needs. tt; all_free = λ slots needs. tt; state = None; journal = leaves }

handed-holds : (rules : RecordRules) (log : List Turn) (v : View) → HasFiles log v → Phase (handed rules) log v.scene.kept v.scene.flight v.calls v.scene.stage → Holds (handed rules) log v
handed-holds rules log v h phase = record {
  outside_is = h.outside_is;
  facts = handed-facts rules log v.scene.kept v.scene.flight (record { stable = h.kept.stable; file = h.kept.file; images = h.images; gates = h.none_truncated }) h.files.images;
  setup_is = handed-setup rules log v.scene.setup;
  phase = phase;
}

-- and what it gives
handed-files : (rules : RecordRules) (log : List Turn) (v : View) → Holds (handed rules) log v → HasFiles log v
handed-files rules log v h =
    let leaves = state-leaves log h.facts.state h.facts.journal in
    record {
      outside_is = h.outside_is;
      files = record { file = file_can log leaves; stable = stable_can log leaves; images = leaves };
      kept = record { stable = h.facts.files.stable; file = h.facts.files.file };
      images = h.facts.files.images;
      none_truncated = h.facts.files.gates;
    }

pub handed-in-keeps-files : HandedInKeepsFiles
handed-in-keeps-files rules base log first v h over calls on =
    handed-files rules log v (holds-on (handed rules) base first log v (handed-holds rules base first h (inl (record { over = over; calls_are = calls }))) on)

pub opening-keeps-files : OpeningKeepsFiles
opening-keeps-files rules base log first v h off_poll calls on = handed-files rules log v (holds-on (handed rules) base first log v (handed-holds rules base first h (inr (inr (FirstSync calls, off_poll)))) on)

-- the files of an open journal
open-files : (log : List Turn) (v : View) → HasJournal log v → Files log v.scene.kept v.scene.flight
open-files log v h = subst (λ r. Files log v.scene.kept r) (sym h.no_flight)
    (clean-files log (outside_of log) v.scene.kept refl h.at_rest.synced h.at_rest.clean h.kept (subst (λ f. HasGateAfter f (length v.scene.kept)) h.at_rest.synced (λ some. h.at_rest.gate)))

keeping-holds : (rules : RecordRules) (log : List Turn) (v : View) (the_record : Record) (calls : List OwedCall) → HasJournal log v → (v.scene.stage ≡ AtPoll → ⊥) → IsRecord the_record
    → v.calls ≡ owes_all (length v.scene.kept) the_record ++ calls → spare_disk calls ≡ true → Holds (handed rules) log v
keeping-holds rules log v the_record calls h off_poll within e spares =
    let bodies : List (List ℕ) = map record_body v.scene.kept in
    let n : length v.scene.kept ≡ length bodies = sym (length-map v.scene.kept record_body) in
    let size = (record_body-offsets the_record within).0 in
    let opens : IsOpenWith log bodies = record { at_rest = subst (IsAtRest log) n h.at_rest; kept = h.kept; ends = subst (EndsClosed (outside_of log).file) n h.ends } in
    let leaves : LeavesJournals log = subst LeavesJournals (append-nil log) (append_leaves log bodies (record_body the_record) [] (append_turns (length bodies) (record_body the_record)) opens.at_rest opens.kept opens.ends size refl) in
    record {
      outside_is = h.outside_is;
      facts = handed-facts rules log v.scene.kept v.scene.flight (open-files log v h) leaves;
      setup_is = handed-setup rules log v.scene.setup;
      phase = inr (inr (
        Body (record {
          base = log;
          the_record = the_record;
          more = calls;
          journal = (leaves, opens);
          size = size;
          in_order = tt;
          room = tt;
          free = λ slots needs. tt;
          log_is = sym (append-nil log);
          calls_are = e ∙ ap (λ slot. owes_all slot the_record ++ calls) n;
          spares = spares;
          flight_is = h.no_flight;
        }),
        off_poll,
      ));
    }

pub keeping-keeps-files : KeepingKeepsFiles
keeping-keeps-files rules base log first v the_record calls h off_poll within e spares on =
    handed-files rules log v (holds-on (handed rules) base first log v (keeping-holds rules base first the_record calls h off_poll within e spares) on)
