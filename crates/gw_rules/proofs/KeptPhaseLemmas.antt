-- How far the calls on the disk are at each moment of a log along which records are kept, and what holds there.
use Rattle.std.proofs.Common.{◌≡◌, ℕ, ◌≤◌, Bool, true, false, List, [], ◌∷◌, ◌++◌, length, refl, sym, ◌∙◌, ap, inl, inr}
use Rattle.std.proofs.lemmas.Bool.{and_parts}
use Rattle.std.specs.Prelude.{◌⊎◌, not, map, Option, Some, None}
use Rattle.gw_base.specs.declared.setup.Setup.{Setup}
use Rattle.gw_site.specs.Outside.{outside_of}
use Rattle.gw_site.specs.declared.turn.Turn.{Turn}
use Rattle.gw_site.specs.declared.turn.Turn.TheVariants.{Synced}
use Rattle.jrn_record.specs.Grammar.{record_body}
use Rattle.jrn_record.specs.declared.records.Record.{Record}
use Rattle.jrn_log.specs.JournalTurns.{body_write, gate_write, first_gate_write}
use Rattle.jrn_log.specs.Slots.{AreSlots}
use Rattle.gw_owes.specs.Calls.{OwedCall, SendTill, SendPt, LinkPt, WriteBody, WriteGate, WriteFirstGate, Sync, write_turn, CutTill as OwedCutTill, CutPt as OwedCutPt}
use Rattle.gw_rules.specs.JournalFiles.{is_on_disk, spare_disk}
use Rattle.gw_rules.specs.KeptLaws.{RanWith}
use Rattle.gw_rules.specs.Lawful.{first_call}
use Rattle.gw_rules.specs.Opening.{opening_calls}
use Rattle.gw_rules.specs.Stage.{Stage, Resting, Opening, Looking, AtPoll, Handling, Over, Broken, busy, is_round, is_running, stage_synced, stage_wrote}
use Rattle.gw_rules.specs.View.{View, later}
use Rattle.gw_rules.proofs.KeptFileLemmas.{Basis, InOrder, Had, Files, FreeSlots, LongFile, records_by}
use Rattle.gw_rules.proofs.JournalStateLemmas.{JournalState}
use Rattle.gw_rules.proofs.StageLemmas.{no-true, no-call}

-- ---- calls

-- calls that spare the disk, one list after another
pub spares-both : (calls more : List OwedCall) → spare_disk calls ≡ true → spare_disk more ≡ true → spare_disk (calls ++ more) ≡ true
spares-both [] more h k = k
spares-both (call ∷ calls) more h k =
    let p = and_parts (not (is_on_disk call)) (spare_disk calls) h in
    rw (p.0, spares-both calls more p.1 k) refl

pub spares-later : (calls : List OwedCall) → spare_disk calls ≡ true → spare_disk (later calls) ≡ true
spares-later [] h = h
spares-later (call ∷ calls) h = (and_parts (not (is_on_disk call)) (spare_disk calls) h).1

-- the first of these calls
pub first-is : (calls rest : List OwedCall) (first call : OwedCall) → calls ≡ first ∷ rest → first_call calls ≡ Some call → call ≡ first
first-is calls rest first call e f = let n : Some first ≡ Some call = sym (ap first_call e) ∙ f in cc

-- it isn't on the disk where these calls spare it
pub off-disk : (calls : List OwedCall) (call : OwedCall) → spare_disk calls ≡ true → first_call calls ≡ Some call → is_on_disk call ≡ true → ⊥
off-disk [] call h f on = absurd (let n : None ≡ Some call = f in cc)
off-disk (first ∷ calls) call h f on =
    let same : first ≡ call = (let n : Some first ≡ Some call = f in cc) in
    no-true (sym (ap not (ap is_on_disk same ∙ on)) ∙ (and_parts (not (is_on_disk first)) (spare_disk calls) h).0)

-- the call of a write is on the disk
pub writes-on-disk : (call : OwedCall) (turn : Turn) → write_turn call ≡ Some turn → is_on_disk call ≡ true
writes-on-disk (SendTill till reply) turn e = absurd (let n : None ≡ Some turn = e in cc)
writes-on-disk (SendPt pt sending) turn e = absurd (let n : None ≡ Some turn = e in cc)
writes-on-disk (OwedCutTill till) turn e = absurd (let n : None ≡ Some turn = e in cc)
writes-on-disk (OwedCutPt pt) turn e = absurd (let n : None ≡ Some turn = e in cc)
writes-on-disk (LinkPt pt) turn e = absurd (let n : None ≡ Some turn = e in cc)
writes-on-disk (WriteBody slot the_record) turn e = refl
writes-on-disk (WriteGate slot the_record) turn e = refl
writes-on-disk WriteFirstGate turn e = refl
writes-on-disk Sync turn e = absurd (let n : None ≡ Some turn = e in cc)

-- ---- stages

-- the event of a poll comes after no other turn
pub busy-off-poll : (stage : Stage) → busy stage ≡ AtPoll → ⊥
busy-off-poll Resting e = cc
busy-off-poll (Opening refused) e = cc
busy-off-poll (Looking refused) e = cc
busy-off-poll AtPoll e = cc
busy-off-poll Handling e = cc
busy-off-poll Over e = cc
busy-off-poll Broken e = cc

pub synced-off-poll : (stage : Stage) → stage_synced stage ≡ AtPoll → ⊥
synced-off-poll Resting e = cc
synced-off-poll (Opening refused) e = cc
synced-off-poll (Looking refused) e = cc
synced-off-poll AtPoll e = cc
synced-off-poll Handling e = cc
synced-off-poll Over e = cc
synced-off-poll Broken e = cc

pub wrote-off-poll : (stage : Stage) → stage_wrote stage ≡ AtPoll → ⊥
wrote-off-poll Resting e = cc
wrote-off-poll (Opening refused) e = cc
wrote-off-poll (Looking refused) e = cc
wrote-off-poll AtPoll e = cc
wrote-off-poll Handling e = cc
wrote-off-poll Over e = cc
wrote-off-poll Broken e = cc

-- in a round the run goes on
pub round-runs : (stage : Stage) → is_round stage ≡ true → is_running stage ≡ true
round-runs Resting e = e
round-runs (Opening refused) e = no-true e
round-runs (Looking refused) e = no-true e
round-runs AtPoll e = e
round-runs Handling e = e
round-runs Over e = e
round-runs Broken e = e

-- ---- what holds at each moment

-- the files, the records and the log, by the records that are kept and the one in flight
pub record Facts (basis : Basis) (log : List Turn) (kept : List Record) (flight : Option Record) : Type 0 where
  pub files : Files log kept flight
  pub in_order : InOrder basis (records_by kept flight)
  pub long : LongFile basis log
  pub free : FreeSlots basis log kept
  pub all_free : FreeSlots basis log (records_by kept flight)
  pub state : Option (List (List ℕ))
  pub journal : JournalState log state

-- the run goes on no more, and nothing is owed
pub record Calm (calls : List OwedCall) (stage : Stage) : Type 0 where
  pub over : is_running stage ≡ false
  pub calls_are : calls ≡ []

-- the journal is open with these records
pub record IsOpen (log : List Turn) (kept : List Record) (flight : Option Record) : Type 0 where
  pub journal : JournalState log (Some (map record_body kept))
  pub no_flight : flight ≡ None

-- no call on the disk is owed, and the journal is open
pub record Rests (log : List Turn) (kept : List Record) (flight : Option Record) (calls : List OwedCall) : Type 0 where
  pub is_open : IsOpen log kept flight
  pub spares : spare_disk calls ≡ true

-- the first sync of an opening was made on a file of at most one byte, these turns after it, and these calls are left
pub record Gating (made : List Turn) (owed : List OwedCall) (log : List Turn) (kept : List Record) (flight : Option Record) (calls : List OwedCall) : Type 0 where
  pub base : List Turn
  pub state : Option (List (List ℕ))
  pub journal : JournalState base state
  pub slots : AreSlots (outside_of base).file (map record_body kept)
  pub few : length (outside_of base).file ≤ 1
  pub log_is : log ≡ base ++ Synced ∷ made
  pub calls_are : calls ≡ owed
  pub no_flight : flight ≡ None

-- so much of an append was made after a log with an open journal, and these calls are left of it
pub record Appending (made : ℕ → List ℕ → List Turn) (owed : ℕ → Record → List OwedCall) (flying : Record → Option Record) (basis : Basis) (log : List Turn) (kept : List Record) (flight : Option Record) (calls : List OwedCall) : Type 0 where
  pub base : List Turn
  pub the_record : Record
  pub more : List OwedCall
  pub journal : JournalState base (Some (map record_body kept))
  pub size : length (record_body the_record) ≡ 255
  pub in_order : InOrder basis (kept ++ the_record ∷ [])
  pub room : Had basis (length (map record_body kept)) log
  pub free : FreeSlots basis log (kept ++ the_record ∷ [])
  pub log_is : log ≡ base ++ made (length (map record_body kept)) (record_body the_record)
  pub calls_are : calls ≡ owed (length (map record_body kept)) the_record ++ more
  pub spares : spare_disk more ≡ true
  pub flight_is : flight ≡ flying the_record

abbrev pub none_made : ℕ → List ℕ → List Turn
none_made slot body = []

abbrev pub body_made : ℕ → List ℕ → List Turn
body_made slot body = body_write slot body ∷ []

abbrev pub body_synced : ℕ → List ℕ → List Turn
body_synced slot body = body_write slot body ∷ Synced ∷ []

abbrev pub gate_made : ℕ → List ℕ → List Turn
gate_made slot body = body_write slot body ∷ Synced ∷ gate_write slot ∷ []

abbrev pub owes_all : ℕ → Record → List OwedCall
owes_all slot the_record = WriteBody slot the_record ∷ Sync ∷ WriteGate slot the_record ∷ Sync ∷ []

abbrev pub owes_sync : ℕ → Record → List OwedCall
owes_sync slot the_record = Sync ∷ WriteGate slot the_record ∷ Sync ∷ []

abbrev pub owes_gate : ℕ → Record → List OwedCall
owes_gate slot the_record = WriteGate slot the_record ∷ Sync ∷ []

abbrev pub owes_last : ℕ → Record → List OwedCall
owes_last slot the_record = Sync ∷ []

abbrev pub on_ground : Record → Option Record
on_ground the_record = None

abbrev pub in_air : Record → Option Record
in_air the_record = Some the_record

-- how far the calls on the disk are
pub data Mid (basis : Basis) (log : List Turn) (kept : List Record) (flight : Option Record) (calls : List OwedCall) : Type 0 where
  FirstSync : calls ≡ opening_calls (length (outside_of log).file) → Mid basis log kept flight calls
  FirstGate : Gating [] (WriteFirstGate ∷ Sync ∷ []) log kept flight calls → Mid basis log kept flight calls
  GateSync : Gating (first_gate_write ∷ []) (Sync ∷ []) log kept flight calls → Mid basis log kept flight calls
  Body : Appending none_made owes_all on_ground basis log kept flight calls → Mid basis log kept flight calls
  BodySync : Appending body_made owes_sync on_ground basis log kept flight calls → Mid basis log kept flight calls
  OpenGate : Appending body_synced owes_gate on_ground basis log kept flight calls → Mid basis log kept flight calls
  LastSync : Appending gate_made owes_last in_air basis log kept flight calls → Mid basis log kept flight calls

abbrev pub Phase : Basis → List Turn → List Record → Option Record → List OwedCall → Stage → Type 0
Phase basis log kept flight calls stage = Calm calls stage ⊎ (Rests log kept flight calls ⊎ (Mid basis log kept flight calls × (stage ≡ AtPoll → ⊥)))

-- the run's setup is one with which a run of the log began, where the journal is its own
abbrev pub RanWhere : Bool → Setup → List Turn → Type 0
RanWhere true setup log = RanWith setup log
RanWhere false setup log = Unit {0}

abbrev pub IsOfLog : Basis → List Turn → Option Setup → Type 0
IsOfLog basis log None = Unit {0}
IsOfLog basis log (Some setup) = RanWhere basis.own setup log

pub record Holds (basis : Basis) (log : List Turn) (v : View) : Type 0 where
  pub outside_is : v.scene.outside ≡ outside_of log
  pub facts : Facts basis log v.scene.kept v.scene.flight
  pub setup_is : IsOfLog basis log v.scene.setup
  pub phase : Phase basis log v.scene.kept v.scene.flight v.calls v.scene.stage

-- ---- which phase it is

-- the first of the calls that are left is on the disk
record OwesDisk (calls : List OwedCall) : Type 0 where
  first : OwedCall
  rest : List OwedCall
  calls_are : calls ≡ first ∷ rest
  on_disk : is_on_disk first ≡ true

owes-disk : (basis : Basis) (log : List Turn) (kept : List Record) (flight : Option Record) (calls : List OwedCall) → Mid basis log kept flight calls → OwesDisk calls
owes-disk basis log kept flight calls (FirstSync e) = record { first = Sync; rest = later (opening_calls (length (outside_of log).file)); calls_are = e; on_disk = refl }
owes-disk basis log kept flight calls (FirstGate g) = record { first = WriteFirstGate; rest = Sync ∷ []; calls_are = g.calls_are; on_disk = refl }
owes-disk basis log kept flight calls (GateSync g) = record { first = Sync; rest = []; calls_are = g.calls_are; on_disk = refl }
owes-disk basis log kept flight calls (Body a) =
    record { first = WriteBody (length (map record_body kept)) a.the_record; rest = owes_sync (length (map record_body kept)) a.the_record ++ a.more; calls_are = a.calls_are; on_disk = refl }
owes-disk basis log kept flight calls (BodySync a) = record { first = Sync; rest = owes_gate (length (map record_body kept)) a.the_record ++ a.more; calls_are = a.calls_are; on_disk = refl }
owes-disk basis log kept flight calls (OpenGate a) =
    record { first = WriteGate (length (map record_body kept)) a.the_record; rest = owes_last (length (map record_body kept)) a.the_record ++ a.more; calls_are = a.calls_are; on_disk = refl }
owes-disk basis log kept flight calls (LastSync a) = record { first = Sync; rest = a.more; calls_are = a.calls_are; on_disk = refl }

-- right after a poll, no call on the disk is owed
pub rests-polled : (basis : Basis) (log : List Turn) (kept : List Record) (flight : Option Record) (calls : List OwedCall) (stage : Stage) → Phase basis log kept flight calls stage
    → stage ≡ AtPoll → Rests log kept flight calls
rests-polled basis log kept flight calls stage (inl c) e = no-true (sym c.over ∙ ap is_running e)
rests-polled basis log kept flight calls stage (inr (inl r)) e = r
rests-polled basis log kept flight calls stage (inr (inr m)) e = absurd (m.1 e)

-- nor where the next call isn't on it
pub rests-owing : (basis : Basis) (log : List Turn) (kept : List Record) (flight : Option Record) (calls : List OwedCall) (stage : Stage) (call : OwedCall) → Phase basis log kept flight calls stage
    → first_call calls ≡ Some call → is_on_disk call ≡ false → Rests log kept flight calls
rests-owing basis log kept flight calls stage call (inl c) f off = no-call calls call c.calls_are f
rests-owing basis log kept flight calls stage call (inr (inl r)) f off = r
rests-owing basis log kept flight calls stage call (inr (inr m)) f off =
    let d = owes-disk basis log kept flight calls m.0 in
    no-true (sym off ∙ ap is_on_disk (first-is calls d.rest d.first call d.calls_are f) ∙ d.on_disk)

-- nor where the run goes on and the calls spare it
pub rests-sparing : (basis : Basis) (log : List Turn) (kept : List Record) (flight : Option Record) (calls : List OwedCall) (stage : Stage) → Phase basis log kept flight calls stage
    → is_running stage ≡ true → spare_disk calls ≡ true → Rests log kept flight calls
rests-sparing basis log kept flight calls stage (inl c) e h = no-true (sym c.over ∙ e)
rests-sparing basis log kept flight calls stage (inr (inl r)) e h = r
rests-sparing basis log kept flight calls stage (inr (inr m)) e h =
    let d = owes-disk basis log kept flight calls m.0 in
    absurd (off-disk calls d.first h (ap first_call d.calls_are) d.on_disk)
