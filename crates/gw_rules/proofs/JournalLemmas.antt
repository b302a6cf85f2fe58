-- The files of the journal along courses: what law_files of jrn_log says is so after each turn.
use Rattle.std.proofs.Common.{◌≡◌, ℕ, Bool, true, false, List, [], ◌∷◌, ◌++◌, length, refl, sym, ◌∙◌, ap, subst, append_assoc, append-nil, length-append, ◌+◌, inl, inr}
use Rattle.std.proofs.lemmas.Bool.{and_parts, leb-true, ltb-true}
use Rattle.std.proofs.lemmas.List.{length-map, map-append}
use Rattle.std.specs.Prelude.{◌⊎◌, not, nat_le, if◌then◌else◌, map, Some, None, option_to_list}
use Rattle.gw_base.specs.declared.setup.Setup.{Setup}
use Rattle.gw_site.specs.Image.{Image}
use Rattle.gw_site.specs.Outside.{Outside, outside_after, outside_from, outside_of}
use Rattle.gw_site.specs.declared.turn.Turn.{Turn}
use Rattle.gw_site.specs.declared.turn.Turn.TheVariants.{Start, OpenFailed, Polled, Opened, HeardTill, Closed, HeardPt, Lost, Stopped, Linked, LinkFailed, SentTill, SentPt, CutTill, CutPt, Wrote, Synced, DiskFailed, Crash}
use Rattle.gw_site.proofs.ImageLemmas.{stable_image}
use Rattle.gw_site.proofs.OutsideLemmas.{outside_of-append}
use Rattle.jrn_record.specs.Grammar.{record_body}
use Rattle.jrn_record.specs.Limits.{IsRecord}
use Rattle.jrn_record.specs.declared.records.Record.{Record}
use Rattle.jrn_record.proofs.LawLemmas.{record_body-offsets}
use Rattle.jrn_log.specs.Foreign.{LeavesJournals, LeavesDisk, EndsClosed, append_turns}
use Rattle.jrn_log.specs.Journal.{IsAtRest, AreKept}
use Rattle.jrn_log.specs.JournalLogs.{HasGateAfter}
use Rattle.jrn_log.specs.JournalTurns.{body_write, gate_write, first_gate, first_gate_write}
use Rattle.jrn_log.specs.Slots.{AreSlots}
use Rattle.jrn_log.proofs.AppendLemmas.{append_rests}
use Rattle.jrn_log.proofs.DecodeLemmas.{decoded_are_slots}
use Rattle.jrn_log.proofs.ForeignLemmas.{append_closed, append_leaves, opening_closed, opening_leaves, crash_leaves, file_can, others_leave}
use Rattle.jrn_log.proofs.JournalLogLemmas.{opening_rests}
use Rattle.gw_owes.specs.Calls.{OwedCall, SendTill, SendPt, LinkPt, WriteBody, WriteGate, WriteFirstGate, Sync, keep_calls, write_turn, CutTill as OwedCutTill, CutPt as OwedCutPt}
use Rattle.gw_rules.specs.JournalFiles.{HasJournalFiles, is_on_disk, spare_disk, ItemsSpareDisk, OpeningLeavesJournalFiles, IsOpened, OpeningHasJournal, HasJournal, KeepingLeavesJournals, IsKept, KeepingHasJournal, journal_log, OpenedHasJournal, journal_view, kept_moves, KeptFileIsJournal}
use Rattle.gw_rules.specs.Lawful.{first_call, AllowedTurn, IsCourse, turns_of}
use Rattle.gw_rules.specs.Opening.{opening_calls}
use Rattle.gw_rules.specs.RowExample.{example_record, terminal_setup}
use Rattle.gw_rules.specs.Scene.{records_of, link_made_at, link_lost_at}
use Rattle.gw_rules.specs.View.{View, Move, Begin, Read, Make, later, after, after_turn, view_from, at_first}
use Rattle.gw_rules.proofs.CourseLemmas.{after-outside, begin-outside}
use Rattle.gw_rules.proofs.ExampleLemmas.{began-course}
use Rattle.gw_rules.proofs.RowExampleLemmas.{formed}
use Rattle.gw_rules.proofs.SpareLemmas.{made-at-spares, lost-at-spares}
use Rattle.gw_rules.proofs.StageLemmas.{no-true}

-- ---- calls

spare-append : (calls more : List OwedCall) → spare_disk calls ≡ true → spare_disk more ≡ true → spare_disk (calls ++ more) ≡ true
spare-append [] more h k = k
spare-append (call ∷ calls) more h k =
    let p = and_parts (not (is_on_disk call)) (spare_disk calls) h in
    rw (p.0, spare-append calls more p.1 k) refl

spare-later : (calls : List OwedCall) → spare_disk calls ≡ true → spare_disk (later calls) ≡ true
spare-later [] h = h
spare-later (call ∷ calls) h = (and_parts (not (is_on_disk call)) (spare_disk calls) h).1

-- the first of calls that spare the disk isn't on it
spare-first : (calls : List OwedCall) (call : OwedCall) → spare_disk calls ≡ true → first_call calls ≡ Some call → not (is_on_disk call) ≡ true
spare-first [] call h e = absurd (let n : None ≡ Some call = e in cc)
spare-first (first ∷ calls) call h e =
    let same : first ≡ call = (let n : Some first ≡ Some call = e in cc) in
    ap (λ c. not (is_on_disk c)) (sym same) ∙ (and_parts (not (is_on_disk first)) (spare_disk calls) h).0

-- a call that writes is on the disk
write-on-disk : (call : OwedCall) (turn : Turn) → write_turn call ≡ Some turn → not (is_on_disk call) ≡ true → ⊥
write-on-disk (SendTill till reply) turn e h = (let n : None ≡ Some turn = e in cc)
write-on-disk (SendPt pt sending) turn e h = (let n : None ≡ Some turn = e in cc)
write-on-disk (OwedCutTill till) turn e h = (let n : None ≡ Some turn = e in cc)
write-on-disk (OwedCutPt pt) turn e h = (let n : None ≡ Some turn = e in cc)
write-on-disk (LinkPt pt) turn e h = (let n : None ≡ Some turn = e in cc)
write-on-disk (WriteBody slot the_record) turn e h = no-true h
write-on-disk (WriteGate slot the_record) turn e h = no-true h
write-on-disk WriteFirstGate turn e h = no-true h
write-on-disk Sync turn e h = no-true h

-- ---- how far the keeping of a record is

-- so much of an append was made after a log at rest, and these calls are left of it
record IsKeeping (made left : ℕ → List ℕ → List Turn) (owed : ℕ → Record → List OwedCall) (log : List Turn) (calls : List OwedCall) : Type 0 where
  base : List Turn
  bodies : List (List ℕ)
  the_record : Record
  more : List OwedCall
  at_rest : IsAtRest base (length bodies)
  kept : AreKept base bodies
  ends : EndsClosed (outside_of base).file (length bodies)
  size : length (record_body the_record) ≡ 255
  parts : append_turns (length bodies) (record_body the_record) ≡ made (length bodies) (record_body the_record) ++ left (length bodies) (record_body the_record)
  log_is : log ≡ base ++ made (length bodies) (record_body the_record)
  calls_are : calls ≡ owed (length bodies) the_record ++ more
  spares : spare_disk more ≡ true

keeping-leaves : (made left : ℕ → List ℕ → List Turn) (owed : ℕ → Record → List OwedCall) (log : List Turn) (calls : List OwedCall) → IsKeeping made left owed log calls → LeavesJournals log
keeping-leaves made left owed log calls k =
    subst LeavesJournals (sym k.log_is) (append_leaves k.base k.bodies (record_body k.the_record) (made (length k.bodies) (record_body k.the_record)) (left (length k.bodies) (record_body k.the_record)) k.at_rest k.kept k.ends k.size k.parts)

abbrev made_none : ℕ → List ℕ → List Turn
made_none slot body = []

abbrev made_body : ℕ → List ℕ → List Turn
made_body slot body = body_write slot body ∷ []

abbrev made_sync : ℕ → List ℕ → List Turn
made_sync slot body = body_write slot body ∷ Synced ∷ []

abbrev made_gate : ℕ → List ℕ → List Turn
made_gate slot body = body_write slot body ∷ Synced ∷ gate_write slot ∷ []

abbrev left_all : ℕ → List ℕ → List Turn
left_all slot body = append_turns slot body

abbrev left_sync : ℕ → List ℕ → List Turn
left_sync slot body = Synced ∷ gate_write slot ∷ Synced ∷ []

abbrev left_gate : ℕ → List ℕ → List Turn
left_gate slot body = gate_write slot ∷ Synced ∷ []

abbrev left_last : ℕ → List ℕ → List Turn
left_last slot body = Synced ∷ []

abbrev owed_all : ℕ → Record → List OwedCall
owed_all slot the_record = WriteBody slot the_record ∷ Sync ∷ WriteGate slot the_record ∷ Sync ∷ []

abbrev owed_sync : ℕ → Record → List OwedCall
owed_sync slot the_record = Sync ∷ WriteGate slot the_record ∷ Sync ∷ []

abbrev owed_gate : ℕ → Record → List OwedCall
owed_gate slot the_record = WriteGate slot the_record ∷ Sync ∷ []

abbrev owed_last : ℕ → Record → List OwedCall
owed_last slot the_record = Sync ∷ []

-- no call on the disk is owed, and whatever a power failure leaves a journal can have left
record IsSpared (log : List Turn) (calls : List OwedCall) : Type 0 where
  spares : spare_disk calls ≡ true
  leaves : LeavesJournals log

abbrev AtBody : List Turn → List OwedCall → Type 0
AtBody log calls = IsKeeping made_none left_all owed_all log calls

abbrev AtFirstSync : List Turn → List OwedCall → Type 0
AtFirstSync log calls = IsKeeping made_body left_sync owed_sync log calls

abbrev AtGate : List Turn → List OwedCall → Type 0
AtGate log calls = IsKeeping made_sync left_gate owed_gate log calls

abbrev AtLastSync : List Turn → List OwedCall → Type 0
AtLastSync log calls = IsKeeping made_gate left_last owed_last log calls

-- a journal is to be opened
record AtOpening (log : List Turn) (calls : List OwedCall) : Type 0 where
  more : List OwedCall
  leaves : LeavesJournals log
  calls_are : calls ≡ opening_calls (length (outside_of log).file) ++ more
  spares : spare_disk more ≡ true

-- its first sync was made, these turns after it, and these calls are left
record IsGating (made left : List Turn) (owed : List OwedCall) (log : List Turn) (calls : List OwedCall) : Type 0 where
  base : List Turn
  more : List OwedCall
  leaves : LeavesJournals base
  parts : first_gate (length (outside_of base).file) ≡ made ++ left
  log_is : log ≡ base ++ Synced ∷ made
  calls_are : calls ≡ owed ++ more
  spares : spare_disk more ≡ true

abbrev AtFirstGate : List Turn → List OwedCall → Type 0
AtFirstGate log calls = IsGating [] (first_gate_write ∷ Synced ∷ []) (WriteFirstGate ∷ Sync ∷ []) log calls

abbrev AtGateSync : List Turn → List OwedCall → Type 0
AtGateSync log calls = IsGating (first_gate_write ∷ []) (Synced ∷ []) (Sync ∷ []) log calls

gating-leaves : (made left : List Turn) (owed : List OwedCall) (log : List Turn) (calls : List OwedCall) → IsGating made left owed log calls → LeavesJournals log
gating-leaves made left owed log calls g = subst LeavesJournals (sym g.log_is) (opening_leaves g.base made left (file_can g.base g.leaves) g.parts)

-- what is left of an opening
abbrev Opens : List Turn → List OwedCall → Type 0
Opens log calls = AtOpening log calls ⊎ (AtFirstGate log calls ⊎ AtGateSync log calls)

opens-leaves : (log : List Turn) (calls : List OwedCall) → Opens log calls → LeavesJournals log
opens-leaves log calls (inl a) = a.leaves
opens-leaves log calls (inr (inl g)) = gating-leaves [] (first_gate_write ∷ Synced ∷ []) (WriteFirstGate ∷ Sync ∷ []) log calls g
opens-leaves log calls (inr (inr g)) = gating-leaves (first_gate_write ∷ []) (Synced ∷ []) (Sync ∷ []) log calls g

-- what is left of an append
abbrev Appends : List Turn → List OwedCall → Type 0
Appends log calls = AtBody log calls ⊎ (AtFirstSync log calls ⊎ (AtGate log calls ⊎ AtLastSync log calls))

appends-leaves : (log : List Turn) (calls : List OwedCall) → Appends log calls → LeavesJournals log
appends-leaves log calls (inl k) = keeping-leaves made_none left_all owed_all log calls k
appends-leaves log calls (inr (inl k)) = keeping-leaves made_body left_sync owed_sync log calls k
appends-leaves log calls (inr (inr (inl k))) = keeping-leaves made_sync left_gate owed_gate log calls k
appends-leaves log calls (inr (inr (inr k))) = keeping-leaves made_gate left_last owed_last log calls k

-- no call on the disk is owed, or what is left of an opening, or of an append
abbrev Goes : List Turn → List OwedCall → Type 0
Goes log calls = IsSpared log calls ⊎ (Opens log calls ⊎ Appends log calls)

goes-leaves : (log : List Turn) (calls : List OwedCall) → Goes log calls → LeavesJournals log
goes-leaves log calls (inl s) = s.leaves
goes-leaves log calls (inr (inl o)) = opens-leaves log calls o
goes-leaves log calls (inr (inr k)) = appends-leaves log calls k

-- the first of these calls
next-is : (calls rest : List OwedCall) (first call : OwedCall) → calls ≡ first ∷ rest → first_call calls ≡ Some call → call ≡ first
next-is calls rest first call e f = let n : Some first ≡ Some call = sym (ap first_call e) ∙ f in cc

-- where the next call isn't on the disk, no call on the disk is owed
other-disk : (calls rest : List OwedCall) (first call : OwedCall) → calls ≡ first ∷ rest → is_on_disk first ≡ true → first_call calls ≡ Some call → is_on_disk call ≡ false → ⊥
other-disk calls rest first call e on f off = let n : false ≡ true = sym off ∙ ap is_on_disk (next-is calls rest first call e f) ∙ on in cc

goes-spares : (log : List Turn) (calls : List OwedCall) (call : OwedCall) → Goes log calls → first_call calls ≡ Some call → is_on_disk call ≡ false → spare_disk calls ≡ true
goes-spares log calls call (inl s) f off = s.spares
goes-spares log calls call (inr (inl (inl a))) f off = absurd (other-disk calls _ _ call a.calls_are refl f off)
goes-spares log calls call (inr (inl (inr (inl g)))) f off = absurd (other-disk calls _ _ call g.calls_are refl f off)
goes-spares log calls call (inr (inl (inr (inr g)))) f off = absurd (other-disk calls _ _ call g.calls_are refl f off)
goes-spares log calls call (inr (inr (inl k))) f off = absurd (other-disk calls _ _ call k.calls_are refl f off)
goes-spares log calls call (inr (inr (inr (inl k)))) f off = absurd (other-disk calls _ _ call k.calls_are refl f off)
goes-spares log calls call (inr (inr (inr (inr (inl k))))) f off = absurd (other-disk calls _ _ call k.calls_are refl f off)
goes-spares log calls call (inr (inr (inr (inr (inr k))))) f off = absurd (other-disk calls _ _ call k.calls_are refl f off)

-- ---- one turn more

still : (log : List Turn) (turn : Turn) (before calls : List OwedCall) → Goes log before → LeavesDisk turn → spare_disk calls ≡ true → Goes (log ++ turn ∷ []) calls
still log turn before calls g leaves spares = inl (record { spares = spares; leaves = others_leave log turn leaves (goes-leaves log before g) })

-- the keeping goes on by the turn of its next call
keeps-on : (made left next_made next_left : ℕ → List ℕ → List Turn) (owed next_owed : ℕ → Record → List OwedCall) (log : List Turn) (calls : List OwedCall) (turn : Turn)
    → (k : IsKeeping made left owed log calls) → made (length k.bodies) (record_body k.the_record) ++ turn ∷ [] ≡ next_made (length k.bodies) (record_body k.the_record)
    → append_turns (length k.bodies) (record_body k.the_record) ≡ next_made (length k.bodies) (record_body k.the_record) ++ next_left (length k.bodies) (record_body k.the_record)
    → later calls ≡ next_owed (length k.bodies) k.the_record ++ k.more → IsKeeping next_made next_left next_owed (log ++ turn ∷ []) (later calls)
keeps-on made left next_made next_left owed next_owed log calls turn k more parts calls_are = record {
  base = k.base;
  bodies = k.bodies;
  the_record = k.the_record;
  more = k.more;
  at_rest = k.at_rest;
  kept = k.kept;
  ends = k.ends;
  size = k.size;
  parts = parts;
  log_is = ap (λ l. l ++ turn ∷ []) k.log_is ∙ append_assoc k.base (made (length k.bodies) (record_body k.the_record)) (turn ∷ []) ∙ ap (λ l. k.base ++ l) more;
  calls_are = calls_are;
  spares = k.spares;
}

some-turn : (first turn : Turn) → Some first ≡ Some turn → turn ≡ first
some-turn first turn e = cc

-- the turn of a write is that of the first call
write-is : (calls rest : List OwedCall) (first call : OwedCall) (turn : Turn) → calls ≡ first ∷ rest → first_call calls ≡ Some call → write_turn call ≡ Some turn → write_turn first ≡ Some turn
write-is calls rest first call turn e f w = ap write_turn (sym (next-is calls rest first call e f)) ∙ w

no-write : (turn : Turn) → None ≡ Some turn → ⊥
no-write turn e = cc

wrote-opens : (log : List Turn) (calls : List OwedCall) (call : OwedCall) (turn : Turn) → Opens log calls → first_call calls ≡ Some call → write_turn call ≡ Some turn → Goes (log ++ turn ∷ []) (later calls)
wrote-opens log calls call turn (inl a) f w = absurd (no-write turn (write-is calls _ _ call turn a.calls_are f w))
wrote-opens log calls call turn (inr (inl g)) f w =
    let is : turn ≡ first_gate_write = some-turn _ turn (write-is calls _ _ call turn g.calls_are f w) in
    inr (inl (inr (inr (record {
      base = g.base;
      more = g.more;
      leaves = g.leaves;
      parts = g.parts;
      log_is = ap (λ l. l ++ turn ∷ []) g.log_is ∙ append_assoc g.base (Synced ∷ []) (turn ∷ []) ∙ ap (λ t. g.base ++ Synced ∷ t ∷ []) is;
      calls_are = ap later g.calls_are;
      spares = g.spares;
    }))))
wrote-opens log calls call turn (inr (inr g)) f w = absurd (no-write turn (write-is calls _ _ call turn g.calls_are f w))

wrote-keeps : (log : List Turn) (calls : List OwedCall) (call : OwedCall) (turn : Turn) → Appends log calls → first_call calls ≡ Some call → write_turn call ≡ Some turn → Goes (log ++ turn ∷ []) (later calls)
wrote-keeps log calls call turn (inl k) f w =
    let is : turn ≡ body_write (length k.bodies) (record_body k.the_record) = some-turn _ turn (write-is calls _ _ call turn k.calls_are f w) in
    inr (inr (inr (inl (keeps-on made_none left_all made_body left_sync owed_all owed_sync log calls turn k (ap (λ t. t ∷ []) is) refl (ap later k.calls_are)))))
wrote-keeps log calls call turn (inr (inl k)) f w = absurd (no-write turn (write-is calls _ _ call turn k.calls_are f w))
wrote-keeps log calls call turn (inr (inr (inl k))) f w =
    let is : turn ≡ gate_write (length k.bodies) = some-turn _ turn (write-is calls _ _ call turn k.calls_are f w) in
    inr (inr (inr (inr (inr (keeps-on made_sync left_gate made_gate left_last owed_gate owed_last log calls turn k (ap (λ t. body_write (length k.bodies) (record_body k.the_record) ∷ Synced ∷ t ∷ []) is) refl (ap later k.calls_are))))))
wrote-keeps log calls call turn (inr (inr (inr k))) f w = absurd (no-write turn (write-is calls _ _ call turn k.calls_are f w))

wrote-goes : (log : List Turn) (calls : List OwedCall) (call : OwedCall) (turn : Turn) → Goes log calls → first_call calls ≡ Some call → write_turn call ≡ Some turn → Goes (log ++ turn ∷ []) (later calls)
wrote-goes log calls call turn (inl s) f w = absurd (write-on-disk call turn w (spare-first calls call s.spares f))
wrote-goes log calls call turn (inr (inl o)) f w = wrote-opens log calls call turn o f w
wrote-goes log calls call turn (inr (inr k)) f w = wrote-keeps log calls call turn k f w

not-body : (slot : ℕ) (the_record : Record) → Sync ≡ WriteBody slot the_record → ⊥
not-body slot the_record e = cc

not-gate : (slot : ℕ) (the_record : Record) → Sync ≡ WriteGate slot the_record → ⊥
not-gate slot the_record e = cc

not-first-gate : Sync ≡ WriteFirstGate → ⊥
not-first-gate e = cc

-- after the first sync the first gate is owed where the file has at most one byte, and else no call on the disk is
synced-first : (log : List Turn) (calls : List OwedCall) → AtOpening log calls → Goes (log ++ Synced ∷ []) (later calls)
synced-first log calls a = by_size (nat_le (length (outside_of log).file) 1) refl
  where
    by_size : (test : Bool) → nat_le (length (outside_of log).file) 1 ≡ test → Goes (log ++ Synced ∷ []) (later calls)
    by_size true t = inr (inl (inr (inl (record {
      base = log;
      more = a.more;
      leaves = a.leaves;
      parts = rw t refl;
      log_is = refl;
      calls_are = ap later a.calls_are ∙ rw t refl;
      spares = a.spares;
    }))))
    by_size false t = inl (record {
      spares = ap (λ l. spare_disk (later l)) a.calls_are ∙ rw t a.spares;
      leaves = opening_leaves log [] [] (file_can log a.leaves) (rw t refl);
    })

synced-opens : (log : List Turn) (calls : List OwedCall) → Opens log calls → first_call calls ≡ Some Sync → Goes (log ++ Synced ∷ []) (later calls)
synced-opens log calls (inl a) f = synced-first log calls a
synced-opens log calls (inr (inl g)) f = absurd (not-first-gate (next-is calls _ _ Sync g.calls_are f))
synced-opens log calls (inr (inr g)) f = inl (record {
  spares = ap (λ l. spare_disk (later l)) g.calls_are ∙ g.spares;
  leaves = subst LeavesJournals (sym (ap (λ l. l ++ Synced ∷ []) g.log_is ∙ append_assoc g.base (Synced ∷ first_gate_write ∷ []) (Synced ∷ [])))
      (opening_leaves g.base (first_gate_write ∷ Synced ∷ []) [] (file_can g.base g.leaves) g.parts);
})

synced-keeps : (log : List Turn) (calls : List OwedCall) → Appends log calls → first_call calls ≡ Some Sync → Goes (log ++ Synced ∷ []) (later calls)
synced-keeps log calls (inl k) f = absurd (not-body _ _ (next-is calls _ _ Sync k.calls_are f))
synced-keeps log calls (inr (inl k)) f = inr (inr (inr (inr (inl (keeps-on made_body left_sync made_sync left_gate owed_sync owed_gate log calls Synced k refl refl (ap later k.calls_are))))))
synced-keeps log calls (inr (inr (inl k))) f = absurd (not-gate _ _ (next-is calls _ _ Sync k.calls_are f))
synced-keeps log calls (inr (inr (inr k))) f = inl (record {
  spares = ap (λ l. spare_disk (later l)) k.calls_are ∙ k.spares;
  leaves = subst LeavesJournals (sym (ap (λ l. l ++ Synced ∷ []) k.log_is ∙ append_assoc k.base (made_gate (length k.bodies) (record_body k.the_record)) (Synced ∷ [])))
      (append_leaves k.base k.bodies (record_body k.the_record) (append_turns (length k.bodies) (record_body k.the_record)) [] k.at_rest k.kept k.ends k.size refl);
})

synced-goes : (log : List Turn) (calls : List OwedCall) → Goes log calls → first_call calls ≡ Some Sync → Goes (log ++ Synced ∷ []) (later calls)
synced-goes log calls (inl s) f = no-true (spare-first calls Sync s.spares f)
synced-goes log calls (inr (inl o)) f = synced-opens log calls o f
synced-goes log calls (inr (inr k)) f = synced-keeps log calls k f

-- a run that begins is to open the journal
start-goes : (v : View) (log : List Turn) (setup : Setup) → v.scene.outside ≡ outside_of log → Goes log v.calls → Goes (log ++ Start setup ∷ []) (after_turn v (Start setup)).calls
start-goes v log setup e g = inr (inl (inl (record { more = []; leaves = leaves; calls_are = ap (λ file. opening_calls (length file)) same ∙ sym (append-nil _); spares = refl })))
  where
    leaves : LeavesJournals (log ++ Start setup ∷ [])
    leaves = others_leave log (Start setup) (λ o. (refl, refl, refl)) (goes-leaves log v.calls g)

    same : v.scene.outside.file ≡ (outside_of (log ++ Start setup ∷ [])).file
    same = ap (λ (o : Outside). o.file) e ∙ ap (λ (o : Outside). o.file) (sym (outside_of-append log (Start setup ∷ [])))

turn-goes : (v : View) (log : List Turn) (turn : Turn) → v.scene.outside ≡ outside_of log → Goes log v.calls → AllowedTurn v turn → Goes (log ++ turn ∷ []) (after_turn v turn).calls
turn-goes v log (Start setup) e g ok = start-goes v log setup e g
turn-goes v log OpenFailed e g ok = still log OpenFailed v.calls [] g (λ o. (refl, refl, refl)) refl
turn-goes v log (Polled now) e g ok = still log (Polled now) v.calls [] g (λ o. (refl, refl, refl)) refl
turn-goes v log (Opened till) e g ok = still log (Opened till) v.calls [] g (λ o. (refl, refl, refl)) refl
turn-goes v log (HeardTill till bytes) e g ok = still log (HeardTill till bytes) v.calls [] g (λ o. (refl, refl, refl)) refl
turn-goes v log (Closed till) e g ok = still log (Closed till) v.calls [] g (λ o. (refl, refl, refl)) refl
turn-goes v log (HeardPt pt bytes) e g ok = still log (HeardPt pt bytes) v.calls [] g (λ o. (refl, refl, refl)) refl
turn-goes v log (Lost pt) e g ok = still log (Lost pt) v.calls [] g (λ o. (refl, refl, refl)) refl
turn-goes v log Stopped e g ok = still log Stopped v.calls [] g (λ o. (refl, refl, refl)) refl
turn-goes v log (Linked pt) e g ok =
    still log (Linked pt) v.calls ((link_made_at v.scene pt).calls ++ later v.calls) g (λ o. (refl, refl, refl))
    (spare-append (link_made_at v.scene pt).calls (later v.calls) (made-at-spares v.scene pt) (spare-later v.calls (goes-spares log v.calls (LinkPt pt) g ok refl)))
turn-goes v log (LinkFailed pt) e g ok =
    still log (LinkFailed pt) v.calls ((link_lost_at v.scene pt).calls ++ []) g (λ o. (refl, refl, refl)) (spare-append (link_lost_at v.scene pt).calls [] (lost-at-spares v.scene pt) refl)
turn-goes v log (SentTill till bytes true) e g ok =
    still log (SentTill till bytes true) v.calls (later v.calls) g (λ o. (refl, refl, refl)) (spare-later v.calls (goes-spares log v.calls (SendTill till ok.0) g ok.1 refl))
turn-goes v log (SentTill till bytes false) e g ok = still log (SentTill till bytes false) v.calls (OwedCutTill till ∷ []) g (λ o. (refl, refl, refl)) refl
turn-goes v log (SentPt pt bytes true) e g ok =
    still log (SentPt pt bytes true) v.calls (later v.calls) g (λ o. (refl, refl, refl)) (spare-later v.calls (goes-spares log v.calls (SendPt pt ok.0) g ok.1 refl))
turn-goes v log (SentPt pt bytes false) e g ok = still log (SentPt pt bytes false) v.calls (OwedCutPt pt ∷ []) g (λ o. (refl, refl, refl)) refl
turn-goes v log (CutTill till) e g ok =
    still log (CutTill till) v.calls (later v.calls) g (λ o. (refl, refl, refl)) (spare-later v.calls (goes-spares log v.calls (OwedCutTill till) g ok refl))
turn-goes v log (CutPt pt) e g ok =
    still log (CutPt pt) v.calls ((link_lost_at v.scene pt).calls ++ later v.calls) g (λ o. (refl, refl, refl))
    (spare-append (link_lost_at v.scene pt).calls (later v.calls) (lost-at-spares v.scene pt) (spare-later v.calls (goes-spares log v.calls (OwedCutPt pt) g ok refl)))
turn-goes v log (Wrote offset bytes) e g ok = wrote-goes log v.calls ok.0 (Wrote offset bytes) g ok.1 ok.2
turn-goes v log Synced e g ok = synced-goes log v.calls g ok
turn-goes v log DiskFailed e g ok = still log DiskFailed v.calls [] g (λ o. (refl, refl, refl)) refl
turn-goes v log (Crash file) e g ok = inl (record { spares = refl; leaves = crash_leaves log file (goes-leaves log v.calls g) (subst (λ o. Image o file) e ok.0) })

-- ---- along a course

course-leaves : (v : View) (log : List Turn) (moves : List Move) → v.scene.outside ≡ outside_of log → Goes log v.calls → IsCourse v moves → ItemsSpareDisk v moves → LeavesJournals (log ++ turns_of moves)
course-leaves v log [] e g c spare = subst LeavesJournals (sym (append-nil log)) (goes-leaves log v.calls g)
course-leaves v log (Begin ∷ moves) e g c spare =
    course-leaves (after v Begin) log moves (begin-outside v.scene v.items ∙ e) (inl (record { spares = spare.0; leaves = goes-leaves log v.calls g })) c.1 spare.1
course-leaves v log (Read as_read ∷ moves) e g c spare = course-leaves (after v (Read as_read)) log moves e (inl (record { spares = refl; leaves = goes-leaves log v.calls g })) c.1 spare
course-leaves v log (Make turn ∷ moves) e g c spare =
    subst LeavesJournals (append_assoc log (turn ∷ []) (turns_of moves))
    (course-leaves (after_turn v turn) (log ++ turn ∷ []) moves (after-outside v turn ∙ ap (λ o. outside_after o turn) e ∙ sym (outside_of-append log (turn ∷ []))) (turn-goes v log turn e g c.0) c.1 spare)

has-files : (log : List Turn) → LeavesJournals log → HasJournalFiles log
has-files log leaves = record { file = file_can log leaves; stable = leaves (outside_of log).stable (stable_image log); images = leaves }

keeping-goes : (log : List Turn) (v : View) (the_record : Record) (calls : List OwedCall) → HasJournal log v → length (record_body the_record) ≡ 255 → v.calls ≡ owed_all (length v.scene.kept) the_record ++ calls → spare_disk calls ≡ true → Goes log v.calls
keeping-goes log v the_record calls h size e spares =
    let n : length v.scene.kept ≡ length (map record_body v.scene.kept) = sym (length-map v.scene.kept record_body) in
    inr (inr (inl (record {
      base = log;
      bodies = map record_body v.scene.kept;
      the_record = the_record;
      more = calls;
      at_rest = subst (IsAtRest log) n h.at_rest;
      kept = h.kept;
      ends = subst (EndsClosed (outside_of log).file) n h.ends;
      size = size;
      parts = refl;
      log_is = sym (append-nil log);
      calls_are = e ∙ ap (λ slot. owed_all slot the_record ++ calls) n;
      spares = spares;
    })))

pub keeping-leaves-journals : KeepingLeavesJournals
keeping-leaves-journals log v the_record calls moves h is e spares course spare =
    has-files (log ++ turns_of moves) (course-leaves v log moves h.outside_is (keeping-goes log v the_record calls h (record_body-offsets the_record is).0 e spares) course spare)

pub opening-leaves-journal-files : OpeningLeavesJournalFiles
opening-leaves-journal-files log v calls moves o leaves e spares course spare =
    has-files (log ++ turns_of moves) (course-leaves v log moves o (inr (inl (inl (record { more = calls; leaves = leaves; calls_are = e; spares = spares })))) course spare)

-- ---- a journal is opened

-- the view whose calls are these
abbrev owing_calls : View → List OwedCall → View
owing_calls v calls = record v { calls = calls }

-- the calls of an opening, with the first gate or without it
abbrev opening_owed : Bool → List OwedCall
opening_owed with_gate = Sync ∷ (if with_gate then WriteFirstGate ∷ Sync ∷ [] else [])

-- and its turns
abbrev opening_turns : Bool → List Turn
opening_turns with_gate = Synced ∷ (if with_gate then first_gate_write ∷ Synced ∷ [] else [])

-- the view before an opening
abbrev to_open : View → Bool → List OwedCall → View
to_open v with_gate calls = owing_calls v (opening_owed with_gate ++ calls)

-- and after it
abbrev opened_view : View → Bool → List OwedCall → View
opened_view v with_gate calls = view_from (to_open v with_gate calls) (map Make (opening_turns with_gate))

opening-course : (v : View) (with_gate : Bool) (calls : List OwedCall) → IsCourse (to_open v with_gate calls) (map Make (opening_turns with_gate))
opening-course v true calls = (refl, ((WriteFirstGate, refl, refl), (refl, tt)))
opening-course v false calls = (refl, tt)

opened-outside : (v : View) (with_gate : Bool) (calls : List OwedCall) → (opened_view v with_gate calls).scene.outside ≡ outside_from v.scene.outside (opening_turns with_gate)
opened-outside v true calls = refl
opened-outside v false calls = refl

opened-flight : (v : View) (with_gate : Bool) (calls : List OwedCall) → (opened_view v with_gate calls).scene.flight ≡ None
opened-flight v true calls = refl
opened-flight v false calls = refl

opened-kept : (v : View) (with_gate : Bool) (calls : List OwedCall) → (opened_view v with_gate calls).scene.kept ≡ records_of v.scene
opened-kept v true calls = append-nil (records_of v.scene)
opened-kept v false calls = refl

opened-calls : (v : View) (with_gate : Bool) (calls : List OwedCall) → (opened_view v with_gate calls).calls ≡ calls
opened-calls v true calls = refl
opened-calls v false calls = refl

-- the log is at rest with these records, and its file ends as between calls
record RestsWith (log : List Turn) (records : List Record) : Type 0 where
  pub at_rest : IsAtRest log (length records)
  pub kept : AreKept log (map record_body records)
  pub ends : EndsClosed (outside_of log).file (length records)

opening-rests : (log : List Turn) (records : List Record) → LeavesJournals log → AreSlots (outside_of log).file (map record_body records) → HasGateAfter (outside_of log).file (length records)
    → RestsWith (log ++ Synced ∷ first_gate (length (outside_of log).file)) records
opening-rests log records leaves slots gate =
    let n : length (map record_body records) ≡ length records = length-map records record_body in
    let after : List Turn = log ++ Synced ∷ first_gate (length (outside_of log).file) in
    let rests = opening_rests log (map record_body records) slots (subst (HasGateAfter (outside_of log).file) (sym n) gate) in
    record {
      at_rest = subst (IsAtRest after) n rests.0;
      kept = rests.1;
      ends = subst (EndsClosed (outside_of after).file) n (opening_closed log (map record_body records) (file_can log leaves) slots);
    }

opened-has : (log : List Turn) (v : View) (with_gate : Bool) (calls : List OwedCall) → v.scene.outside ≡ outside_of log → RestsWith (log ++ opening_turns with_gate) (records_of v.scene)
    → IsOpened log (to_open v with_gate calls) calls (opening_turns with_gate)
opened-has log v with_gate calls o r =
    let rests : RestsWith (log ++ opening_turns with_gate) (opened_view v with_gate calls).scene.kept = subst (RestsWith (log ++ opening_turns with_gate)) (sym (opened-kept v with_gate calls)) r in
    record {
      lawful = opening-course v with_gate calls;
      journal = record {
        outside_is = opened-outside v with_gate calls ∙ ap (λ b. outside_from b (opening_turns with_gate)) o ∙ sym (outside_of-append log (opening_turns with_gate));
        no_flight = opened-flight v with_gate calls;
        at_rest = rests.at_rest;
        kept = rests.kept;
        ends = rests.ends;
      };
      kept_is = opened-kept v with_gate calls;
      calls_are = opened-calls v with_gate calls;
    }

pub opening-has-journal : OpeningHasJournal
opening-has-journal log v calls o leaves slots gate e =
    let with_gate : Bool = nat_le (length (outside_of log).file) 1 in
    let same : to_open v with_gate calls ≡ v = ap (owing_calls v) (sym e) in
    subst (λ w. IsOpened log w calls (opening_turns with_gate)) same (opened-has log v with_gate calls o (opening-rests log (records_of v.scene) leaves slots gate))

-- ---- a record is kept

keeping-course : (v : View) (slot : ℕ) (the_record : Record) (calls : List OwedCall) → IsCourse (owing_calls v (keep_calls slot the_record ++ calls)) (map Make (append_turns slot (record_body the_record)))
keeping-course v slot the_record calls = ((WriteBody slot the_record, refl, refl), (refl, ((WriteGate slot the_record, refl, refl), (refl, tt))))

keeping-has : (log : List Turn) (v : View) (the_record : Record) (calls : List OwedCall) → HasJournal log v → IsRecord the_record
    → IsKept log (owing_calls v (keep_calls (length v.scene.kept) the_record ++ calls)) the_record calls (append_turns (length v.scene.kept) (record_body the_record))
keeping-has log v the_record calls h is =
    let n : length v.scene.kept ≡ length (map record_body v.scene.kept) = sym (length-map v.scene.kept record_body) in
    let size = (record_body-offsets the_record is).0 in
    let before : IsAtRest log (length (map record_body v.scene.kept)) = subst (IsAtRest log) n h.at_rest in
    let closed : EndsClosed (outside_of log).file (length (map record_body v.scene.kept)) = subst (EndsClosed (outside_of log).file) n h.ends in
    let rests = append_rests log (map record_body v.scene.kept) (record_body the_record) before h.kept size in
    let ends = append_closed log (map record_body v.scene.kept) (record_body the_record) before h.kept closed size in
    let turns : List Turn = append_turns (length v.scene.kept) (record_body the_record) in
    let all : List Record = v.scene.kept ++ the_record ∷ [] in
    let kept : (v.scene.kept ++ option_to_list v.scene.flight) ++ the_record ∷ [] ≡ all = rw h.no_flight (ap (λ l. l ++ the_record ∷ []) (append-nil v.scene.kept)) in
    let count : length (map record_body v.scene.kept) + 1 ≡ length all = sym (length-append v.scene.kept (the_record ∷ []) ∙ ap (λ k. k + 1) n) in
    let same : log ++ append_turns (length (map record_body v.scene.kept)) (record_body the_record) ≡ log ++ turns = ap (λ k. log ++ append_turns k (record_body the_record)) (sym n) in
    record {
      lawful = keeping-course v (length v.scene.kept) the_record calls;
      journal = record {
        outside_is = ap (λ o. outside_from o turns) h.outside_is ∙ sym (outside_of-append log turns);
        no_flight = refl;
        at_rest = rw kept (subst (λ l. IsAtRest l (length all)) same (subst (IsAtRest (log ++ append_turns (length (map record_body v.scene.kept)) (record_body the_record))) count rests.0));
        kept = rw kept (subst (λ l. AreKept l (map record_body all)) same (rw map-append rests.1));
        ends = rw kept (subst (λ l. EndsClosed (outside_of l).file (length all)) same (subst (EndsClosed (outside_of (log ++ append_turns (length (map record_body v.scene.kept)) (record_body the_record))).file) count ends));
      };
      kept_is = kept;
      calls_are = refl;
    }

pub keeping-has-journal : KeepingHasJournal
keeping-has-journal log v the_record calls h is e =
    let same : owing_calls v (keep_calls (length v.scene.kept) the_record ++ calls) ≡ v = ap (owing_calls v) (sym e) in
    subst (λ w. IsKept log w the_record calls (append_turns (length v.scene.kept) (record_body the_record))) same (keeping-has log v the_record calls h is)

-- ---- the closed example

journal-rests : IsAtRest journal_log 0
journal-rests = record { synced = refl; clean = refl; kept = ([], decoded_are_slots (0 ∷ []), refl); gate = ltb-true 0 1 refl; closed = λ e. (let h : 0 ≡ 165 = e in cc) }

has-journal : HasJournal journal_log journal_view
has-journal = record { outside_is = refl; no_flight = refl; at_rest = journal-rests; kept = decoded_are_slots (0 ∷ []); ends = record { bounded = leb-true 1 257 refl; closed = λ le. refl } }

kept-course : IsCourse journal_view kept_moves
kept-course = ((WriteBody 0 example_record, refl, refl), (refl, ((WriteGate 0 example_record, refl, refl), (refl, tt))))

pub kept-file-is-journal : KeptFileIsJournal
kept-file-is-journal = record {
  has_journal = has-journal;
  lawful = kept-course;
  kept_is = refl;
  file_is = refl;
  files = has-files (journal_log ++ turns_of kept_moves) (course-leaves journal_view journal_log kept_moves refl (keeping-goes journal_log journal_view example_record [] has-journal refl refl refl) kept-course tt);
}

pub opened-has-journal : OpenedHasJournal
opened-has-journal = record {
  lawful = record { turns = refl; lawful = began-course at_first terminal_setup refl formed refl };
  journal = record { outside_is = refl; no_flight = refl; at_rest = journal-rests; kept = decoded_are_slots (0 ∷ []); ends = record { bounded = leb-true 1 257 refl; closed = λ le. refl } };
}
