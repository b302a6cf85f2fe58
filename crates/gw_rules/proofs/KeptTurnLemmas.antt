-- What holds while records are kept holds after each turn.
use Rattle.std.proofs.Common.{◌≡◌, ℕ, ◌+◌, ◌*◌, ◌<◌, ◌≤◌, Bool, true, false, List, [], ◌∷◌, ◌++◌, length, refl, sym, ◌∙◌, ap, subst, arith, inl, inr, append_assoc, append-nil}
use Rattle.std.proofs.lemmas.Bool.{le-leb, leb-true}
use Rattle.std.proofs.lemmas.List.{length-map, map-append}
use Rattle.std.specs.Prelude.{nat_le, map, Option, Some, None, option_to_list}
use Rattle.gw_base.specs.declared.setup.Setup.{Setup}
use Rattle.gw_site.specs.Image.{Image}
use Rattle.gw_site.specs.Outside.{Outside, outside_after, outside_of}
use Rattle.gw_site.specs.declared.turn.Turn.{Turn}
use Rattle.gw_site.specs.declared.turn.Turn.TheVariants.{Start, OpenFailed, Polled, Opened, HeardTill, Closed, HeardPt, Lost, Stopped, Linked, LinkFailed, SentTill, SentPt, CutTill, CutPt, Wrote, Synced, DiskFailed, Crash}
use Rattle.gw_site.proofs.OutsideLemmas.{outside_of-append, outside_of_more}
use Rattle.jrn_record.specs.Grammar.{record_body}
use Rattle.jrn_record.specs.declared.records.Record.{Record}
use Rattle.jrn_log.specs.Foreign.{LeavesDisk, append_turns}
use Rattle.jrn_log.specs.JournalLogs.{HasGateAfter}
use Rattle.jrn_log.specs.JournalTurns.{body_write, gate_write, first_gate, first_gate_write}
use Rattle.jrn_log.proofs.AppendLemmas.{rest_of}
use Rattle.jrn_log.proofs.ImageLemmas.{Rest, after_body, after_gate, body_size}
use Rattle.jrn_log.proofs.SlotLemmas.{one_byte_slots, one_slots}
use Rattle.gw_owes.specs.Calls.{OwedCall, SendTill, SendPt, LinkPt, WriteBody, WriteGate, WriteFirstGate, Sync, write_turn, CutTill as OwedCutTill, CutPt as OwedCutPt}
use Rattle.gw_rules.specs.JournalFiles.{is_on_disk, spare_disk}
use Rattle.gw_rules.specs.Lawful.{first_call, AllowedTurn}
use Rattle.gw_rules.specs.Opening.{opening_calls}
use Rattle.gw_rules.specs.Scene.{link_made_at, link_lost_at}
use Rattle.gw_rules.specs.Stage.{AtPoll, is_running, stage_synced}
use Rattle.gw_rules.specs.View.{View, later, flight_after, after_turn}
use Rattle.gw_rules.proofs.CourseLemmas.{after-outside}
use Rattle.gw_rules.proofs.KeptFileLemmas.{Basis, InOrder, Had, FreeSlots, body-files, by-none, crashed-files, fewer-slots, file-gate, free-later, gate-files, kept-by-either, kept-by-order, kept_by, more-later, no-longer-file, one-byte-file, one-byte-files, ran-later, records_by, still-file, still-files, synced-files, write-bound, wrote-file}
use Rattle.gw_rules.proofs.SpareLemmas.{made-at-spares, lost-at-spares}
use Rattle.gw_rules.proofs.JournalStateLemmas.{JournalState, state-append, state-appended, state-failure, state-open, state-opened, state-opening, state-other}
use Rattle.gw_rules.proofs.StageLemmas.{no-call}
use Rattle.gw_rules.proofs.KeptPhaseLemmas.{Appending, RanWhere, Body, BodySync, Facts, FirstGate, FirstSync, GateSync, Gating, Holds, IsOfLog, IsOpen, LastSync, Mid, OpenGate, Phase, Rests, body_made, body_synced, first-is, gate_made, in_air, none_made, off-disk, on_ground, owes_all, owes_gate, owes_last, owes_sync, rests-owing, rests-polled, rests-sparing, spares-both, spares-later, synced-off-poll, writes-on-disk, wrote-off-poll}

-- ---- one turn more

later-setup : (basis : Basis) (log : List Turn) (turn : Turn) (setup : Option Setup) → IsOfLog basis log setup → IsOfLog basis (log ++ turn ∷ []) setup
later-setup basis log turn None h = tt
later-setup basis log turn (Some setup) h = by_own basis.own h
  where
    by_own : (own : Bool) → RanWhere own setup log → RanWhere own setup (log ++ turn ∷ [])
    by_own true h = ran-later log (turn ∷ []) setup h
    by_own false h = tt

pub outside-later : (v : View) (log : List Turn) (turn : Turn) → v.scene.outside ≡ outside_of log → (after_turn v turn).scene.outside ≡ outside_of (log ++ turn ∷ [])
outside-later v log turn e = after-outside v turn ∙ ap (λ (o : Outside). outside_after o turn) e ∙ sym (outside_of_more log turn)

-- a turn that leaves the disk as it is
pub still-facts : (basis : Basis) (log : List Turn) (turn : Turn) (kept : List Record) (flight : Option Record) → LeavesDisk turn → Facts basis log kept flight → Facts basis (log ++ turn ∷ []) kept flight
still-facts basis log turn kept flight disk f = record {
  files = still-files log turn kept flight disk f.files;
  in_order = f.in_order;
  long = no-longer-file basis log turn (let same : length (outside_of (log ++ turn ∷ [])).file ≡ length (outside_of log).file = ap length (still-file log turn disk) in omega (arith, same)) f.long;
  free = free-later basis log (turn ∷ []) kept f.free;
  all_free = free-later basis log (turn ∷ []) (records_by kept flight) f.all_free;
  state = f.state;
  journal = state-other log f.state turn f.journal disk;
}

-- and the records
moved-facts : (basis : Basis) (log : List Turn) (turn : Turn) (kept next_kept : List Record) (flight next_flight : Option Record) → LeavesDisk turn → next_kept ≡ kept → next_flight ≡ flight → Facts basis log kept flight
    → Facts basis (log ++ turn ∷ []) next_kept next_flight
moved-facts basis log turn kept next_kept flight next_flight disk same_kept same_flight f =
    subst (λ k. Facts basis (log ++ turn ∷ []) k next_flight) (sym same_kept) (subst (λ r. Facts basis (log ++ turn ∷ []) kept r) (sym same_flight) (still-facts basis log turn kept flight disk f))

-- the run goes on no more after such a turn
calms : (basis : Basis) (log : List Turn) (v : View) (turn : Turn) → Holds basis log v → LeavesDisk turn → (after_turn v turn).scene.kept ≡ v.scene.kept → (after_turn v turn).scene.flight ≡ v.scene.flight
    → IsOfLog basis (log ++ turn ∷ []) (after_turn v turn).scene.setup → is_running (after_turn v turn).scene.stage ≡ false → (after_turn v turn).calls ≡ [] → Holds basis (log ++ turn ∷ []) (after_turn v turn)
calms basis log v turn h disk kept flight setup over calls = record {
  outside_is = outside-later v log turn h.outside_is;
  facts = moved-facts basis log turn v.scene.kept (after_turn v turn).scene.kept v.scene.flight (after_turn v turn).scene.flight disk kept flight h.facts;
  setup_is = setup;
  phase = inl (record { over = over; calls_are = calls });
}

-- no call on the disk is owed before it nor after it
stays : (basis : Basis) (log : List Turn) (v : View) (turn : Turn) → Holds basis log v → Rests log v.scene.kept v.scene.flight v.calls → LeavesDisk turn
    → (after_turn v turn).scene.kept ≡ v.scene.kept → (after_turn v turn).scene.flight ≡ v.scene.flight → (after_turn v turn).scene.setup ≡ v.scene.setup → spare_disk (after_turn v turn).calls ≡ true → Holds basis (log ++ turn ∷ []) (after_turn v turn)
stays basis log v turn h r disk kept flight setup spares = record {
  outside_is = outside-later v log turn h.outside_is;
  facts = moved-facts basis log turn v.scene.kept (after_turn v turn).scene.kept v.scene.flight (after_turn v turn).scene.flight disk kept flight h.facts;
  setup_is = subst (IsOfLog basis (log ++ turn ∷ [])) (sym setup) (later-setup basis log turn v.scene.setup h.setup_is);
  phase = inr (inl (record { is_open = is_open; spares = spares }));
}
  where
    is_open : IsOpen (log ++ turn ∷ []) (after_turn v turn).scene.kept (after_turn v turn).scene.flight
    is_open = record {
      journal = subst (λ k. JournalState (log ++ turn ∷ []) (Some (map record_body k))) (sym kept) (state-other log (Some (map record_body v.scene.kept)) turn r.is_open.journal disk);
      no_flight = flight ∙ r.is_open.no_flight;
    }

-- the power has failed
crashes : (basis : Basis) (log : List Turn) (v : View) (file : List ℕ) → Holds basis log v → Image v.scene.outside file → Holds basis (log ++ Crash file ∷ []) (after_turn v (Crash file))
crashes basis log v file h is =
    let image : Image (outside_of log) file = subst (λ (o : Outside). Image o file) h.outside_is is in
    let kept : List Record = kept_by v.scene.kept v.scene.flight file in
    let free : FreeSlots basis (log ++ Crash file ∷ []) kept = free-later basis log (Crash file ∷ []) kept (kept-by-either (FreeSlots basis log) v.scene.kept v.scene.flight file h.facts.free h.facts.all_free) in
    record {
      outside_is = outside-later v log (Crash file) h.outside_is;
      facts = record {
        files = crashed-files log v.scene.kept v.scene.flight file h.facts.files image;
        in_order = by-none (λ l. InOrder basis l) kept (kept-by-order basis v.scene.kept v.scene.flight file h.facts.in_order);
        long = no-longer-file basis log (Crash file)
            (let same : length (outside_of (log ++ Crash file ∷ [])).file ≡ length file = ap (λ (o : Outside). length o.file) (outside_of_more log (Crash file)) in let le : length file ≤ length (outside_of log).file = image.no_longer in omega (arith, same, le)) h.facts.long;
        free = free;
        all_free = by-none (FreeSlots basis (log ++ Crash file ∷ [])) kept free;
        state = None;
        journal = state-failure log h.facts.state file h.facts.journal image;
      };
      setup_is = tt;
      phase = inl (record { over = refl; calls_are = refl });
    }

-- a sync
synced-facts : (basis : Basis) (log : List Turn) (kept : List Record) (flight : Option Record) (state : Option (List (List ℕ))) → Facts basis log kept flight → JournalState (log ++ Synced ∷ []) state
    → Facts basis (log ++ Synced ∷ []) (records_by kept flight) None
synced-facts basis log kept flight state f journal = record {
  files = synced-files log kept flight f.files;
  in_order = by-none (λ l. InOrder basis l) (records_by kept flight) f.in_order;
  long = no-longer-file basis log Synced (let same : length (outside_of (log ++ Synced ∷ [])).file ≡ length (outside_of log).file = ap (λ (o : Outside). length o.file) (outside_of_more log Synced) in omega (arith, same)) f.long;
  free = free-later basis log (Synced ∷ []) (records_by kept flight) f.all_free;
  all_free = by-none (FreeSlots basis (log ++ Synced ∷ [])) (records_by kept flight) (free-later basis log (Synced ∷ []) (records_by kept flight) f.all_free);
  state = state;
  journal = journal;
}

-- where no record is in flight, a sync keeps none
pub no-more : (kept : List Record) (flight : Option Record) → flight ≡ None → records_by kept flight ≡ kept
no-more kept flight e = ap (λ (r : Option Record). kept ++ option_to_list r) e ∙ append-nil kept

-- ---- an opening

synced-opening : (basis : Basis) (log : List Turn) (v : View) → Holds basis log v → v.calls ≡ opening_calls (length (outside_of log).file) → Holds basis (log ++ Synced ∷ []) (after_turn v Synced)
synced-opening basis log v h e = record {
  outside_is = outside-later v log Synced h.outside_is;
  facts = synced-facts basis log v.scene.kept v.scene.flight None h.facts (state-opening log h.facts.state [] (first_gate (length (outside_of log).file)) h.facts.journal refl);
  setup_is = later-setup basis log Synced v.scene.setup h.setup_is;
  phase = by_size (nat_le (length (outside_of log).file) 1) refl;
}
  where
    by_size : (test : Bool) → nat_le (length (outside_of log).file) 1 ≡ test → Phase basis (log ++ Synced ∷ []) (records_by v.scene.kept v.scene.flight) None (later v.calls) (stage_synced v.scene.stage)
    by_size true t = inr (inr (
      FirstGate (record {
        base = log;
        state = h.facts.state;
        journal = h.facts.journal;
        slots = h.facts.files.file;
        few = leb-true (length (outside_of log).file) 1 t;
        log_is = refl;
        calls_are = ap later e ∙ rw t refl;
        no_flight = refl;
      }),
      synced-off-poll v.scene.stage,
    ))
    by_size false t =
        let records : List Record = records_by v.scene.kept v.scene.flight in
        let gate : HasGateAfter (outside_of log).file (length (map record_body records)) = subst (HasGateAfter (outside_of log).file) (sym (length-map records record_body)) (file-gate log v.scene.kept v.scene.flight h.facts.files) in
        let none : first_gate (length (outside_of log).file) ≡ [] = rw t refl in
        let opened : JournalState (log ++ Synced ∷ []) (Some (map record_body records)) =
        subst (λ turns. JournalState (log ++ Synced ∷ turns) (Some (map record_body records))) none (state-opened log h.facts.state (map record_body records) h.facts.journal h.facts.files.file gate) in
        inr (inl (record { is_open = record { journal = opened; no_flight = refl }; spares = ap (λ l. spare_disk (later l)) e ∙ rw t refl }))

-- the turns by which a file of at most one byte gets its first gate
one-byte-gate : (file : List ℕ) → length file ≤ 1 → first_gate (length file) ≡ first_gate_write ∷ Synced ∷ []
one-byte-gate file few = rw (le-leb (length file) 1 few) refl

first-gate-written : (basis : Basis) (log : List Turn) (v : View) → Holds basis log v → Gating [] (WriteFirstGate ∷ Sync ∷ []) log v.scene.kept v.scene.flight v.calls
    → Holds basis (log ++ first_gate_write ∷ []) (after_turn v first_gate_write)
first-gate-written basis log v h g = record {
  outside_is = outside-later v log first_gate_write h.outside_is;
  facts = subst (λ r. Facts basis (log ++ first_gate_write ∷ []) v.scene.kept r) (sym flight) (record {
    files = one-byte-files (log ++ first_gate_write ∷ []) v.scene.kept few none;
    in_order = subst (λ r. InOrder basis (records_by v.scene.kept r)) g.no_flight h.facts.in_order;
    long = one-byte-file basis (log ++ first_gate_write ∷ []) few;
    free = free-later basis log (first_gate_write ∷ []) v.scene.kept h.facts.free;
    all_free = by-none (FreeSlots basis (log ++ first_gate_write ∷ [])) v.scene.kept (free-later basis log (first_gate_write ∷ []) v.scene.kept h.facts.free);
    state = None;
    journal = subst (λ l. JournalState l None) (sym log_is) (state-opening g.base g.state (first_gate_write ∷ []) (Synced ∷ []) g.journal (one-byte-gate (outside_of g.base).file g.few));
  });
  setup_is = later-setup basis log first_gate_write v.scene.setup h.setup_is;
  phase = inr (inr (
    GateSync (record {
      base = g.base;
      state = g.state;
      journal = g.journal;
      slots = g.slots;
      few = g.few;
      log_is = log_is;
      calls_are = ap later g.calls_are;
      no_flight = flight;
    }),
    wrote-off-poll v.scene.stage,
  ));
}
  where
    log_is : log ++ first_gate_write ∷ [] ≡ g.base ++ Synced ∷ first_gate_write ∷ []
    log_is = ap (λ l. l ++ first_gate_write ∷ []) g.log_is ∙ append_assoc g.base (Synced ∷ []) (first_gate_write ∷ [])

    flight : flight_after v.calls v.scene.flight ≡ None
    flight = ap (λ calls. flight_after calls v.scene.flight) g.calls_are ∙ g.no_flight

    none : map record_body v.scene.kept ≡ []
    none = one_slots (outside_of g.base).file (map record_body v.scene.kept) [] g.slots (one_byte_slots (outside_of g.base).file g.few)

    few : length (outside_of (log ++ first_gate_write ∷ [])).file ≤ 1
    few =
        let bound = write-bound (outside_of g.base).file 0 (0 ∷ []) 1 g.few (omega arith) in
        subst (λ (o : Outside). length o.file ≤ 1) (sym (ap outside_of log_is ∙ outside_of-append g.base (Synced ∷ first_gate_write ∷ []))) bound

first-gate-synced : (basis : Basis) (log : List Turn) (v : View) → Holds basis log v → Gating (first_gate_write ∷ []) (Sync ∷ []) log v.scene.kept v.scene.flight v.calls
    → Holds basis (log ++ Synced ∷ []) (after_turn v Synced)
first-gate-synced basis log v h g = record {
  outside_is = outside-later v log Synced h.outside_is;
  facts = synced-facts basis log v.scene.kept v.scene.flight (Some (map record_body v.scene.kept)) h.facts opened;
  setup_is = later-setup basis log Synced v.scene.setup h.setup_is;
  phase = inr (inl (record {
    is_open = record { journal = subst (λ k. JournalState (log ++ Synced ∷ []) (Some (map record_body k))) (sym (no-more v.scene.kept v.scene.flight g.no_flight)) opened; no_flight = refl };
    spares = ap (λ l. spare_disk (later l)) g.calls_are;
  }));
}
  where
    log_is : g.base ++ Synced ∷ first_gate (length (outside_of g.base).file) ≡ log ++ Synced ∷ []
    log_is =
        ap (λ turns. g.base ++ Synced ∷ turns) (one-byte-gate (outside_of g.base).file g.few)
        ∙ sym (ap (λ l. l ++ Synced ∷ []) g.log_is ∙ append_assoc g.base (Synced ∷ first_gate_write ∷ []) (Synced ∷ []))

    opened : JournalState (log ++ Synced ∷ []) (Some (map record_body v.scene.kept))
    opened = subst (λ l. JournalState l (Some (map record_body v.scene.kept))) log_is
        (state-opened g.base g.state (map record_body v.scene.kept) g.journal g.slots (λ some. absurd (let few = g.few in omega (arith, few, some))))

-- ---- an append

-- what the outside was before it
append-rest : (base : List Turn) (bodies : List (List ℕ)) → JournalState base (Some bodies) → Rest (outside_of base) bodies
append-rest base bodies journal = let o = state-open base bodies journal in rest_of base bodies o.at_rest o.kept

-- the log with the next turn of it
append-log : (made next_made : ℕ → List ℕ → List Turn) (owed : ℕ → Record → List OwedCall) (flying : Record → Option Record) (basis : Basis) (log : List Turn) (turn : Turn) (kept : List Record) (flight : Option Record) (calls : List OwedCall)
    → (a : Appending made owed flying basis log kept flight calls) → made (length (map record_body kept)) (record_body a.the_record) ++ turn ∷ [] ≡ next_made (length (map record_body kept)) (record_body a.the_record)
    → log ++ turn ∷ [] ≡ a.base ++ next_made (length (map record_body kept)) (record_body a.the_record)
append-log made next_made owed flying basis log turn kept flight calls a turns =
    ap (λ l. l ++ turn ∷ []) a.log_is ∙ append_assoc a.base (made (length (map record_body kept)) (record_body a.the_record)) (turn ∷ []) ∙ ap (λ l. a.base ++ l) turns

-- and what is left of it
append-on : (made next_made : ℕ → List ℕ → List Turn) (owed next_owed : ℕ → Record → List OwedCall) (flying next_flying : Record → Option Record) (basis : Basis) (log : List Turn) (turn : Turn) (kept : List Record) (flight next_flight : Option Record) (calls : List OwedCall)
    → (a : Appending made owed flying basis log kept flight calls) → made (length (map record_body kept)) (record_body a.the_record) ++ turn ∷ [] ≡ next_made (length (map record_body kept)) (record_body a.the_record)
    → later (owed (length (map record_body kept)) a.the_record ++ a.more) ≡ next_owed (length (map record_body kept)) a.the_record ++ a.more → next_flight ≡ next_flying a.the_record
    → Appending next_made next_owed next_flying basis (log ++ turn ∷ []) kept next_flight (later calls)
append-on made next_made owed next_owed flying next_flying basis log turn kept flight next_flight calls a turns left flight_is = record {
  base = a.base;
  the_record = a.the_record;
  more = a.more;
  journal = a.journal;
  size = a.size;
  in_order = a.in_order;
  room = more-later basis log (turn ∷ []) (length (map record_body kept)) a.room;
  free = free-later basis log (turn ∷ []) (kept ++ a.the_record ∷ []) a.free;
  log_is = append-log made next_made owed flying basis log turn kept flight calls a turns;
  calls_are = ap later a.calls_are ∙ left;
  spares = a.spares;
  flight_is = flight_is;
}

-- so much of it is the log of a journal
append-journal : (made left : ℕ → List ℕ → List Turn) (owed : ℕ → Record → List OwedCall) (flying : Record → Option Record) (basis : Basis) (log : List Turn) (kept : List Record) (flight : Option Record) (calls : List OwedCall)
    → (a : Appending made owed flying basis log kept flight calls)
    → append_turns (length (map record_body kept)) (record_body a.the_record) ≡ made (length (map record_body kept)) (record_body a.the_record) ++ left (length (map record_body kept)) (record_body a.the_record) → JournalState log None
append-journal made left owed flying basis log kept flight calls a parts =
    subst (λ l. JournalState l None) (sym a.log_is)
    (state-append a.base (map record_body kept) (record_body a.the_record) (made (length (map record_body kept)) (record_body a.the_record)) (left (length (map record_body kept)) (record_body a.the_record)) a.journal a.size parts)

abbrev left_sync : ℕ → List ℕ → List Turn
left_sync slot body = Synced ∷ gate_write slot ∷ Synced ∷ []

abbrev left_gate : ℕ → List ℕ → List Turn
left_gate slot body = gate_write slot ∷ Synced ∷ []

abbrev left_last : ℕ → List ℕ → List Turn
left_last slot body = Synced ∷ []

body-written : (basis : Basis) (log : List Turn) (v : View) → Holds basis log v → (a : Appending none_made owes_all on_ground basis log v.scene.kept v.scene.flight v.calls)
    → Holds basis (log ++ body_write (length (map record_body v.scene.kept)) (record_body a.the_record) ∷ []) (after_turn v (body_write (length (map record_body v.scene.kept)) (record_body a.the_record)))
body-written basis log v h a =
    let slot : ℕ = length (map record_body v.scene.kept) in
    let body : List ℕ = record_body a.the_record in
    let turn : Turn = body_write slot body in
    let flight : flight_after v.calls v.scene.flight ≡ None = ap (λ calls. flight_after calls v.scene.flight) a.calls_are ∙ a.flight_is in
    let next : Appending body_made owes_sync on_ground basis (log ++ turn ∷ []) v.scene.kept (flight_after v.calls v.scene.flight) (later v.calls) =
    append-on none_made body_made owes_all owes_sync on_ground on_ground basis log turn v.scene.kept v.scene.flight (flight_after v.calls v.scene.flight) v.calls a refl refl flight in
    let outside : outside_of (log ++ turn ∷ []) ≡ after_body (outside_of a.base) slot body =
    ap outside_of (append-log none_made body_made owes_all on_ground basis log turn v.scene.kept v.scene.flight v.calls a refl) ∙ outside_of-append a.base (turn ∷ []) in
    let within : (slots : ℕ) → 256 * slots + 1 < 256 * slot + 1 + length (body ++ 0 ∷ []) → Had basis slots log = λ slots lt. fewer-slots basis log slot slots (let size = body_size body a.size in omega (arith, lt, size)) a.room in
    record {
      outside_is = outside-later v log turn h.outside_is;
      facts = subst (λ r. Facts basis (log ++ turn ∷ []) v.scene.kept r) (sym flight) (record {
        files = body-files (log ++ turn ∷ []) (outside_of a.base) v.scene.kept body outside (append-rest a.base (map record_body v.scene.kept) a.journal);
        in_order = subst (λ r. InOrder basis (records_by v.scene.kept r)) a.flight_is h.facts.in_order;
        long = wrote-file basis log (256 * slot + 1) (body ++ 0 ∷ []) within h.facts.long;
        free = free-later basis log (turn ∷ []) v.scene.kept h.facts.free;
        all_free = by-none (FreeSlots basis (log ++ turn ∷ [])) v.scene.kept (free-later basis log (turn ∷ []) v.scene.kept h.facts.free);
        state = None;
        journal = append-journal body_made left_sync owes_sync on_ground basis (log ++ turn ∷ []) v.scene.kept (flight_after v.calls v.scene.flight) (later v.calls) next refl;
      });
      setup_is = later-setup basis log turn v.scene.setup h.setup_is;
      phase = inr (inr (BodySync next, wrote-off-poll v.scene.stage));
    }

body-is-synced : (basis : Basis) (log : List Turn) (v : View) → Holds basis log v → Appending body_made owes_sync on_ground basis log v.scene.kept v.scene.flight v.calls
    → Holds basis (log ++ Synced ∷ []) (after_turn v Synced)
body-is-synced basis log v h a =
    let next : Appending body_synced owes_gate on_ground basis (log ++ Synced ∷ []) v.scene.kept None (later v.calls) =
    append-on body_made body_synced owes_sync owes_gate on_ground on_ground basis log Synced v.scene.kept v.scene.flight None v.calls a refl refl refl in
    let same : records_by v.scene.kept v.scene.flight ≡ v.scene.kept = no-more v.scene.kept v.scene.flight a.flight_is in
    record {
      outside_is = outside-later v log Synced h.outside_is;
      facts = synced-facts basis log v.scene.kept v.scene.flight None h.facts (append-journal body_synced left_gate owes_gate on_ground basis (log ++ Synced ∷ []) v.scene.kept None (later v.calls) next refl);
      setup_is = later-setup basis log Synced v.scene.setup h.setup_is;
      phase = inr (inr (OpenGate (subst (λ k. Appending body_synced owes_gate on_ground basis (log ++ Synced ∷ []) k None (later v.calls)) (sym same) next), synced-off-poll v.scene.stage));
    }

gate-written : (basis : Basis) (log : List Turn) (v : View) → Holds basis log v → (a : Appending body_synced owes_gate on_ground basis log v.scene.kept v.scene.flight v.calls)
    → Holds basis (log ++ gate_write (length (map record_body v.scene.kept)) ∷ []) (after_turn v (gate_write (length (map record_body v.scene.kept))))
gate-written basis log v h a =
    let slot : ℕ = length (map record_body v.scene.kept) in
    let body : List ℕ = record_body a.the_record in
    let turn : Turn = gate_write slot in
    let flight : flight_after v.calls v.scene.flight ≡ Some a.the_record = ap (λ calls. flight_after calls v.scene.flight) a.calls_are in
    let next : Appending gate_made owes_last in_air basis (log ++ turn ∷ []) v.scene.kept (flight_after v.calls v.scene.flight) (later v.calls) =
    append-on body_synced gate_made owes_gate owes_last on_ground in_air basis log turn v.scene.kept v.scene.flight (flight_after v.calls v.scene.flight) v.calls a refl refl flight in
    let outside : outside_of (log ++ turn ∷ []) ≡ after_gate (outside_of a.base) slot body =
    ap outside_of (append-log body_synced gate_made owes_gate on_ground basis log turn v.scene.kept v.scene.flight v.calls a refl) ∙ outside_of-append a.base (gate_made slot body) in
    let gate : List ℕ = 165 ∷ [] in
    let within : (slots : ℕ) → 256 * slots + 1 < 256 * slot + length gate → Had basis slots log = λ slots lt. fewer-slots basis log slot slots (omega (arith, lt)) a.room in
    record {
      outside_is = outside-later v log turn h.outside_is;
      facts = subst (λ r. Facts basis (log ++ turn ∷ []) v.scene.kept r) (sym flight) (record {
        files = gate-files (log ++ turn ∷ []) (outside_of a.base) v.scene.kept a.the_record outside (append-rest a.base (map record_body v.scene.kept) a.journal) a.size;
        in_order = a.in_order;
        long = wrote-file basis log (256 * slot) gate within h.facts.long;
        free = free-later basis log (turn ∷ []) v.scene.kept h.facts.free;
        all_free = free-later basis log (turn ∷ []) (v.scene.kept ++ a.the_record ∷ []) a.free;
        state = None;
        journal = append-journal gate_made left_last owes_last in_air basis (log ++ turn ∷ []) v.scene.kept (flight_after v.calls v.scene.flight) (later v.calls) next refl;
      });
      setup_is = later-setup basis log turn v.scene.setup h.setup_is;
      phase = inr (inr (LastSync next, wrote-off-poll v.scene.stage));
    }

gate-is-synced : (basis : Basis) (log : List Turn) (v : View) → Holds basis log v → Appending gate_made owes_last in_air basis log v.scene.kept v.scene.flight v.calls
    → Holds basis (log ++ Synced ∷ []) (after_turn v Synced)
gate-is-synced basis log v h a =
    let bodies : List (List ℕ) = map record_body v.scene.kept in
    let body : List ℕ = record_body a.the_record in
    let same : records_by v.scene.kept v.scene.flight ≡ v.scene.kept ++ a.the_record ∷ [] = ap (λ (r : Option Record). v.scene.kept ++ option_to_list r) a.flight_is in
    let log_is : log ++ Synced ∷ [] ≡ a.base ++ append_turns (length bodies) body = ap (λ l. l ++ Synced ∷ []) a.log_is ∙ append_assoc a.base (gate_made (length bodies) body) (Synced ∷ []) in
    let bodies_are : bodies ++ body ∷ [] ≡ map record_body (records_by v.scene.kept v.scene.flight) = sym (ap (map record_body) same ∙ map-append record_body v.scene.kept (a.the_record ∷ [])) in
    let appended : JournalState (log ++ Synced ∷ []) (Some (map record_body (records_by v.scene.kept v.scene.flight))) =
    subst (λ b. JournalState (log ++ Synced ∷ []) (Some b)) bodies_are (subst (λ l. JournalState l (Some (bodies ++ body ∷ []))) (sym log_is) (state-appended a.base bodies body a.journal a.size)) in
    record {
      outside_is = outside-later v log Synced h.outside_is;
      facts = synced-facts basis log v.scene.kept v.scene.flight (Some (map record_body (records_by v.scene.kept v.scene.flight))) h.facts appended;
      setup_is = later-setup basis log Synced v.scene.setup h.setup_is;
      phase = inr (inl (record { is_open = record { journal = appended; no_flight = refl }; spares = ap (λ l. spare_disk (later l)) a.calls_are ∙ a.spares }));
    }

-- ---- each turn

some-same : (one other : Turn) → Some one ≡ Some other → other ≡ one
some-same one other e = cc

-- the turn of a write is that of the first call
write-of : (calls rest : List OwedCall) (first call : OwedCall) (turn : Turn) → calls ≡ first ∷ rest → first_call calls ≡ Some call → write_turn call ≡ Some turn → write_turn first ≡ Some turn
write-of calls rest first call turn e f w = ap write_turn (sym (first-is calls rest first call e f)) ∙ w

never-writes : {A : Type 0} (turn : Turn) → None ≡ Some turn → A
never-writes turn e = absurd (let n : None ≡ Some turn = e in cc)

writes : (basis : Basis) (log : List Turn) (v : View) (turn : Turn) (call : OwedCall) → Holds basis log v
    → Phase basis log v.scene.kept v.scene.flight v.calls v.scene.stage → first_call v.calls ≡ Some call → write_turn call ≡ Some turn → Holds basis (log ++ turn ∷ []) (after_turn v turn)
writes basis log v turn call h (inl c) f w = no-call v.calls call c.calls_are f
writes basis log v turn call h (inr (inl r)) f w = absurd (off-disk v.calls call r.spares f (writes-on-disk call turn w))
writes basis log v turn call h (inr (inr m)) f w = by_step m.0
  where
    by_step : Mid basis log v.scene.kept v.scene.flight v.calls → Holds basis (log ++ turn ∷ []) (after_turn v turn)
    by_step (FirstSync e) = never-writes turn (write-of v.calls _ Sync call turn e f w)
    by_step (FirstGate g) =
        let is : turn ≡ first_gate_write = some-same first_gate_write turn (write-of v.calls _ WriteFirstGate call turn g.calls_are f w) in
        subst (λ t. Holds basis (log ++ t ∷ []) (after_turn v t)) (sym is) (first-gate-written basis log v h g)
    by_step (GateSync g) = never-writes turn (write-of v.calls _ Sync call turn g.calls_are f w)
    by_step (Body a) =
        let slot : ℕ = length (map record_body v.scene.kept) in
        let is : turn ≡ body_write slot (record_body a.the_record) = some-same (body_write slot (record_body a.the_record)) turn (write-of v.calls _ (WriteBody slot a.the_record) call turn a.calls_are f w) in
        subst (λ t. Holds basis (log ++ t ∷ []) (after_turn v t)) (sym is) (body-written basis log v h a)
    by_step (BodySync a) = never-writes turn (write-of v.calls _ Sync call turn a.calls_are f w)
    by_step (OpenGate a) =
        let slot : ℕ = length (map record_body v.scene.kept) in
        let is : turn ≡ gate_write slot = some-same (gate_write slot) turn (write-of v.calls _ (WriteGate slot a.the_record) call turn a.calls_are f w) in
        subst (λ t. Holds basis (log ++ t ∷ []) (after_turn v t)) (sym is) (gate-written basis log v h a)
    by_step (LastSync a) = never-writes turn (write-of v.calls _ Sync call turn a.calls_are f w)

not-first-gate : {A : Type 0} → Sync ≡ WriteFirstGate → A
not-first-gate e = absurd (let n : Sync ≡ WriteFirstGate = e in cc)

not-body : {A : Type 0} (slot : ℕ) (the_record : Record) → Sync ≡ WriteBody slot the_record → A
not-body slot the_record e = absurd (let n : Sync ≡ WriteBody slot the_record = e in cc)

not-gate : {A : Type 0} (slot : ℕ) (the_record : Record) → Sync ≡ WriteGate slot the_record → A
not-gate slot the_record e = absurd (let n : Sync ≡ WriteGate slot the_record = e in cc)

syncs : (basis : Basis) (log : List Turn) (v : View) → Holds basis log v → Phase basis log v.scene.kept v.scene.flight v.calls v.scene.stage → first_call v.calls ≡ Some Sync
    → Holds basis (log ++ Synced ∷ []) (after_turn v Synced)
syncs basis log v h (inl c) f = no-call v.calls Sync c.calls_are f
syncs basis log v h (inr (inl r)) f = absurd (off-disk v.calls Sync r.spares f refl)
syncs basis log v h (inr (inr m)) f = by_step m.0
  where
    by_step : Mid basis log v.scene.kept v.scene.flight v.calls → Holds basis (log ++ Synced ∷ []) (after_turn v Synced)
    by_step (FirstSync e) = synced-opening basis log v h e
    by_step (FirstGate g) = not-first-gate (first-is v.calls _ WriteFirstGate Sync g.calls_are f)
    by_step (GateSync g) = first-gate-synced basis log v h g
    by_step (Body a) = not-body (length (map record_body v.scene.kept)) a.the_record (first-is v.calls _ (WriteBody (length (map record_body v.scene.kept)) a.the_record) Sync a.calls_are f)
    by_step (BodySync a) = body-is-synced basis log v h a
    by_step (OpenGate a) = not-gate (length (map record_body v.scene.kept)) a.the_record (first-is v.calls _ (WriteGate (length (map record_body v.scene.kept)) a.the_record) Sync a.calls_are f)
    by_step (LastSync a) = gate-is-synced basis log v h a

-- the phase of what holds
polled-rests : (basis : Basis) (log : List Turn) (v : View) → Holds basis log v → v.scene.stage ≡ AtPoll → Rests log v.scene.kept v.scene.flight v.calls
polled-rests basis log v h e = rests-polled basis log v.scene.kept v.scene.flight v.calls v.scene.stage h.phase e

owing-rests : (basis : Basis) (log : List Turn) (v : View) (call : OwedCall) → Holds basis log v → first_call v.calls ≡ Some call → is_on_disk call ≡ false → Rests log v.scene.kept v.scene.flight v.calls
owing-rests basis log v call h f off = rests-owing basis log v.scene.kept v.scene.flight v.calls v.scene.stage call h.phase f off

pub idle-rests : (basis : Basis) (log : List Turn) (v : View) → Holds basis log v → is_running v.scene.stage ≡ true → v.calls ≡ [] → Rests log v.scene.kept v.scene.flight v.calls
idle-rests basis log v h running e = rests-sparing basis log v.scene.kept v.scene.flight v.calls v.scene.stage h.phase running (ap spare_disk e)

-- what a start leads to is said by itself
pub turns : (basis : Basis) (log : List Turn) (v : View) (turn : Turn) → Holds basis log v → AllowedTurn v turn
    → ((setup : Setup) → turn ≡ Start setup → Holds basis (log ++ turn ∷ []) (after_turn v turn)) → Holds basis (log ++ turn ∷ []) (after_turn v turn)
turns basis log v (Start setup) h ok starts = starts setup refl
turns basis log v OpenFailed h ok starts = calms basis log v OpenFailed h (λ o. (refl, refl, refl)) refl refl tt refl refl
turns basis log v (Polled now) h ok starts = stays basis log v (Polled now) h (idle-rests basis log v h ok.running ok.calls) (λ o. (refl, refl, refl)) refl refl refl refl
turns basis log v (Opened till) h ok starts = stays basis log v (Opened till) h (polled-rests basis log v h ok.0) (λ o. (refl, refl, refl)) refl refl refl refl
turns basis log v (HeardTill till bytes) h ok starts = stays basis log v (HeardTill till bytes) h (polled-rests basis log v h ok.0.polled) (λ o. (refl, refl, refl)) refl refl refl refl
turns basis log v (Closed till) h ok starts = stays basis log v (Closed till) h (polled-rests basis log v h ok.polled) (λ o. (refl, refl, refl)) refl refl refl refl
turns basis log v (HeardPt pt bytes) h ok starts = stays basis log v (HeardPt pt bytes) h (polled-rests basis log v h ok.0.polled) (λ o. (refl, refl, refl)) refl refl refl refl
turns basis log v (Lost pt) h ok starts = stays basis log v (Lost pt) h (polled-rests basis log v h ok.polled) (λ o. (refl, refl, refl)) refl refl refl refl
turns basis log v Stopped h ok starts = calms basis log v Stopped h (λ o. (refl, refl, refl)) refl refl (later-setup basis log Stopped v.scene.setup h.setup_is) refl refl
turns basis log v (Linked pt) h ok starts =
    let r = owing-rests basis log v (LinkPt pt) h ok refl in
    stays basis log v (Linked pt) h r (λ o. (refl, refl, refl)) refl refl refl (spares-both (link_made_at v.scene pt).calls (later v.calls) (made-at-spares v.scene pt) (spares-later v.calls r.spares))
turns basis log v (LinkFailed pt) h ok starts =
    stays basis log v (LinkFailed pt) h (owing-rests basis log v (LinkPt pt) h ok refl) (λ o. (refl, refl, refl)) refl refl refl (spares-both (link_lost_at v.scene pt).calls [] (lost-at-spares v.scene pt) refl)
turns basis log v (SentTill till bytes true) h ok starts =
    let r = owing-rests basis log v (SendTill till ok.0) h ok.1 refl in
    stays basis log v (SentTill till bytes true) h r (λ o. (refl, refl, refl)) refl refl refl (spares-later v.calls r.spares)
turns basis log v (SentTill till bytes false) h ok starts =
    stays basis log v (SentTill till bytes false) h (owing-rests basis log v (SendTill till ok.0) h ok.1 refl) (λ o. (refl, refl, refl)) refl refl refl refl
turns basis log v (SentPt pt bytes true) h ok starts =
    let r = owing-rests basis log v (SendPt pt ok.0) h ok.1 refl in
    stays basis log v (SentPt pt bytes true) h r (λ o. (refl, refl, refl)) refl refl refl (spares-later v.calls r.spares)
turns basis log v (SentPt pt bytes false) h ok starts =
    stays basis log v (SentPt pt bytes false) h (owing-rests basis log v (SendPt pt ok.0) h ok.1 refl) (λ o. (refl, refl, refl)) refl refl refl refl
turns basis log v (CutTill till) h ok starts =
    let r = owing-rests basis log v (OwedCutTill till) h ok refl in
    stays basis log v (CutTill till) h r (λ o. (refl, refl, refl)) refl refl refl (spares-later v.calls r.spares)
turns basis log v (CutPt pt) h ok starts =
    let r = owing-rests basis log v (OwedCutPt pt) h ok refl in
    stays basis log v (CutPt pt) h r (λ o. (refl, refl, refl)) refl refl refl (spares-both (link_lost_at v.scene pt).calls (later v.calls) (lost-at-spares v.scene pt) (spares-later v.calls r.spares))
turns basis log v (Wrote offset bytes) h ok starts = writes basis log v (Wrote offset bytes) ok.0 h h.phase ok.1 ok.2
turns basis log v Synced h ok starts = syncs basis log v h h.phase ok
turns basis log v DiskFailed h ok starts = calms basis log v DiskFailed h (λ o. (refl, refl, refl)) refl refl (later-setup basis log DiskFailed v.scene.setup h.setup_is) refl refl
turns basis log v (Crash file) h ok starts = crashes basis log v file h ok.0
