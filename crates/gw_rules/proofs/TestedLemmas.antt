-- A test of courses of a terminal: one that passes is lawful.
use Rattle.std.proofs.Common.{◌≡◌, ℕ, List, [], ◌∷◌, ◌++◌, take, refl, sym, ◌∙◌, ap, true, false, eqb-true}
use Rattle.std.proofs.lemmas.Bool.{and_parts, leb-true, ltb-true}
use Rattle.std.proofs.lemmas.List.{take-append-drop}
use Rattle.std.proofs.lemmas.Slice.Eq.{bytes_eq-Decides}
use Rattle.std.specs.Prelude.{Bool, ◌&&◌, ◌==◌, nat_le, nat_lt, bytes_eq, length, drop, Some}
use Rattle.gw_bytes.specs.Bytes.{IsPrefix}
use Rattle.gw_site.specs.Outside.{is_connected}
use Rattle.gw_site.specs.declared.turn.Turn.{Turn}
use Rattle.gw_site.specs.declared.turn.Turn.TheVariants.{Start, OpenFailed, Polled, Opened, HeardTill, Closed, HeardPt, Lost, Stopped, Linked, LinkFailed, SentTill, SentPt, CutTill, CutPt, Wrote, Synced, DiskFailed, Crash}
use Rattle.gw_owes.specs.Calls.{Sending, sending_bytes, OwedCall, SendTill, SendPt, LinkPt, WriteBody, WriteGate, WriteFirstGate, Sync, write_turn, CutTill as OwedCutTill, CutPt as OwedCutPt}
use Rattle.gw_rules.specs.Lawful.{IsChunk, first_call, may_begin, Allowed, AllowedTurn, IsCourse}
use Rattle.gw_rules.specs.Stage.{Stage, Resting, Opening, Looking, AtPoll, Handling, Over, Broken, is_round, is_running}
use Rattle.gw_rules.specs.View.{View, Move, Begin, Read, Make, after}
use Rattle.gw_rules.proofs.StageLemmas.{no-true}
use Rattle.gw_rules.proofs.TextLemmas.{each_passes, is_byte, bytes-tested}

-- ---- tests

abbrev is_empty : {A : Type 0} → List A → Bool
is_empty [] = true
is_empty (x ∷ xs) = false

abbrev is_at_poll : Stage → Bool
is_at_poll Resting = false
is_at_poll (Opening refused) = false
is_at_poll (Looking refused) = false
is_at_poll AtPoll = true
is_at_poll Handling = false
is_at_poll Over = false
is_at_poll Broken = false

-- the call is the link of this terminal
abbrev links_pt : ℕ → OwedCall → Bool
links_pt pt (SendTill till reply) = false
links_pt pt (SendPt other sending) = false
links_pt pt (OwedCutTill till) = false
links_pt pt (OwedCutPt other) = false
links_pt pt (LinkPt other) = other == pt
links_pt pt (WriteBody slot the_record) = false
links_pt pt (WriteGate slot the_record) = false
links_pt pt WriteFirstGate = false
links_pt pt Sync = false

-- the call is the cut of this terminal
abbrev cuts_pt : ℕ → OwedCall → Bool
cuts_pt pt (SendTill till reply) = false
cuts_pt pt (SendPt other sending) = false
cuts_pt pt (OwedCutTill till) = false
cuts_pt pt (OwedCutPt other) = other == pt
cuts_pt pt (LinkPt other) = false
cuts_pt pt (WriteBody slot the_record) = false
cuts_pt pt (WriteGate slot the_record) = false
cuts_pt pt WriteFirstGate = false
cuts_pt pt Sync = false

-- the call sends this terminal bytes that pass
abbrev sends_pt : ℕ → (List ℕ → Bool) → OwedCall → Bool
sends_pt pt passes (SendTill till reply) = false
sends_pt pt passes (SendPt other sending) = (other == pt) && passes (sending_bytes sending)
sends_pt pt passes (OwedCutTill till) = false
sends_pt pt passes (OwedCutPt other) = false
sends_pt pt passes (LinkPt other) = false
sends_pt pt passes (WriteBody slot the_record) = false
sends_pt pt passes (WriteGate slot the_record) = false
sends_pt pt passes WriteFirstGate = false
sends_pt pt passes Sync = false

-- the call writes the first gate, and so
abbrev writes_gate : ℕ → List ℕ → OwedCall → Bool
writes_gate offset bytes (SendTill till reply) = false
writes_gate offset bytes (SendPt other sending) = false
writes_gate offset bytes (OwedCutTill till) = false
writes_gate offset bytes (OwedCutPt other) = false
writes_gate offset bytes (LinkPt other) = false
writes_gate offset bytes (WriteBody slot the_record) = false
writes_gate offset bytes (WriteGate slot the_record) = false
writes_gate offset bytes WriteFirstGate = (offset == 0) && bytes_eq bytes (0 ∷ [])
writes_gate offset bytes Sync = false

-- the call is a sync
abbrev is_sync : OwedCall → Bool
is_sync (SendTill till reply) = false
is_sync (SendPt other sending) = false
is_sync (OwedCutTill till) = false
is_sync (OwedCutPt other) = false
is_sync (LinkPt other) = false
is_sync (WriteBody slot the_record) = false
is_sync (WriteGate slot the_record) = false
is_sync WriteFirstGate = false
is_sync Sync = true

abbrev first_passes : (OwedCall → Bool) → List OwedCall → Bool
first_passes passes [] = false
first_passes passes (call ∷ calls) = passes call

abbrev is_chunk : List ℕ → Bool
is_chunk chunk = nat_lt 0 (length chunk) && (nat_le (length chunk) 4096 && each_passes is_byte chunk)

-- the turn may come next; those of tills, of records, of starts and of failed calls on the disk are not tested
abbrev passes_turn : View → Turn → Bool
passes_turn v (Start setup) = false
passes_turn v OpenFailed = false
passes_turn v (Polled now) = is_running v.scene.stage && (is_empty v.calls && is_empty v.items)
passes_turn v (Opened till) = false
passes_turn v (HeardTill till bytes) = false
passes_turn v (Closed till) = false
passes_turn v (HeardPt pt bytes) = is_at_poll v.scene.stage && (is_connected v.scene.outside.links pt && is_chunk bytes)
passes_turn v (Lost pt) = false
passes_turn v Stopped = is_at_poll v.scene.stage
passes_turn v (Linked pt) = first_passes (links_pt pt) v.calls
passes_turn v (LinkFailed pt) = first_passes (links_pt pt) v.calls
passes_turn v (SentTill till bytes sent) = false
passes_turn v (SentPt pt bytes true) = first_passes (sends_pt pt (λ all. bytes_eq bytes all)) v.calls
passes_turn v (SentPt pt bytes false) = first_passes (sends_pt pt (λ all. bytes_eq bytes (take (length bytes) all))) v.calls
passes_turn v (CutTill till) = false
passes_turn v (CutPt pt) = first_passes (cuts_pt pt) v.calls
passes_turn v (Wrote offset bytes) = first_passes (writes_gate offset bytes) v.calls
passes_turn v Synced = first_passes is_sync v.calls
passes_turn v DiskFailed = false
passes_turn v (Crash file) = false

abbrev passes_move : View → Move → Bool
passes_move v Begin = is_round v.scene.stage && (is_empty v.calls && may_begin v.scene v.items)
passes_move v (Read as_read) = false
passes_move v (Make turn) = passes_turn v turn

-- each move of the course passes where it comes
abbrev pub passes_course : View → List Move → Bool
passes_course v [] = true
passes_course v (move ∷ moves) = passes_move v move && passes_course (after v move) moves

-- ---- what passes is allowed

empty-nil : {A : Type 0} (xs : List A) → is_empty xs ≡ true → xs ≡ []
empty-nil [] e = refl
empty-nil (x ∷ xs) e = no-true e

at-poll : (stage : Stage) → is_at_poll stage ≡ true → stage ≡ AtPoll
at-poll Resting e = no-true e
at-poll (Opening refused) e = no-true e
at-poll (Looking refused) e = no-true e
at-poll AtPoll e = refl
at-poll Handling e = no-true e
at-poll Over e = no-true e
at-poll Broken e = no-true e

link-first : (pt : ℕ) (calls : List OwedCall) → first_passes (links_pt pt) calls ≡ true → first_call calls ≡ Some (LinkPt pt)
link-first pt [] e = no-true e
link-first pt (SendTill till reply ∷ calls) e = no-true e
link-first pt (SendPt other sending ∷ calls) e = no-true e
link-first pt (OwedCutTill till ∷ calls) e = no-true e
link-first pt (OwedCutPt other ∷ calls) e = no-true e
link-first pt (LinkPt other ∷ calls) e = ap (λ n. Some (LinkPt n)) (eqb-true other pt e)
link-first pt (WriteBody slot the_record ∷ calls) e = no-true e
link-first pt (WriteGate slot the_record ∷ calls) e = no-true e
link-first pt (WriteFirstGate ∷ calls) e = no-true e
link-first pt (Sync ∷ calls) e = no-true e

cut-first : (pt : ℕ) (calls : List OwedCall) → first_passes (cuts_pt pt) calls ≡ true → first_call calls ≡ Some (OwedCutPt pt)
cut-first pt [] e = no-true e
cut-first pt (SendTill till reply ∷ calls) e = no-true e
cut-first pt (SendPt other sending ∷ calls) e = no-true e
cut-first pt (OwedCutTill till ∷ calls) e = no-true e
cut-first pt (OwedCutPt other ∷ calls) e = ap (λ n. Some (OwedCutPt n)) (eqb-true other pt e)
cut-first pt (LinkPt other ∷ calls) e = no-true e
cut-first pt (WriteBody slot the_record ∷ calls) e = no-true e
cut-first pt (WriteGate slot the_record ∷ calls) e = no-true e
cut-first pt (WriteFirstGate ∷ calls) e = no-true e
cut-first pt (Sync ∷ calls) e = no-true e

-- a send of bytes that pass is owed first
abbrev SendsFirst : ℕ → (List ℕ → Bool) → List OwedCall → Type 0
SendsFirst pt passes calls = (sending : Sending) × (first_call calls ≡ Some (SendPt pt sending)) × (passes (sending_bytes sending) ≡ true)

send-first : (pt : ℕ) (passes : List ℕ → Bool) (calls : List OwedCall) → first_passes (sends_pt pt passes) calls ≡ true → SendsFirst pt passes calls
send-first pt passes [] e = no-true e
send-first pt passes (SendTill till reply ∷ calls) e = no-true e
send-first pt passes (SendPt other sending ∷ calls) e =
    let p = and_parts (other == pt) (passes (sending_bytes sending)) e in
    (sending, ap (λ n. Some (SendPt n sending)) (eqb-true other pt p.0), p.1)
send-first pt passes (OwedCutTill till ∷ calls) e = no-true e
send-first pt passes (OwedCutPt other ∷ calls) e = no-true e
send-first pt passes (LinkPt other ∷ calls) e = no-true e
send-first pt passes (WriteBody slot the_record ∷ calls) e = no-true e
send-first pt passes (WriteGate slot the_record ∷ calls) e = no-true e
send-first pt passes (WriteFirstGate ∷ calls) e = no-true e
send-first pt passes (Sync ∷ calls) e = no-true e

-- the first call, which passes
abbrev PassesFirst : (OwedCall → Bool) → List OwedCall → Type 0
PassesFirst passes calls = (call : OwedCall) × (first_call calls ≡ Some call) × (passes call ≡ true)

passing-first : (passes : OwedCall → Bool) (calls : List OwedCall) → first_passes passes calls ≡ true → PassesFirst passes calls
passing-first passes [] e = no-true e
passing-first passes (call ∷ calls) e = (call, refl, e)

gate-call : (offset : ℕ) (bytes : List ℕ) (call : OwedCall) → writes_gate offset bytes call ≡ true → write_turn call ≡ Some (Wrote offset bytes)
gate-call offset bytes (SendTill till reply) e = no-true e
gate-call offset bytes (SendPt other sending) e = no-true e
gate-call offset bytes (OwedCutTill till) e = no-true e
gate-call offset bytes (OwedCutPt other) e = no-true e
gate-call offset bytes (LinkPt other) e = no-true e
gate-call offset bytes (WriteBody slot the_record) e = no-true e
gate-call offset bytes (WriteGate slot the_record) e = no-true e
gate-call offset bytes WriteFirstGate e =
    let p = and_parts (offset == 0) (bytes_eq bytes (0 ∷ [])) e in
    ap (λ l. Some (Wrote 0 l)) (sym ((bytes_eq-Decides bytes (0 ∷ [])).0 p.1)) ∙ ap (λ o. Some (Wrote o bytes)) (sym (eqb-true offset 0 p.0))
gate-call offset bytes Sync e = no-true e

sync-call : (call : OwedCall) → is_sync call ≡ true → call ≡ Sync
sync-call (SendTill till reply) e = no-true e
sync-call (SendPt other sending) e = no-true e
sync-call (OwedCutTill till) e = no-true e
sync-call (OwedCutPt other) e = no-true e
sync-call (LinkPt other) e = no-true e
sync-call (WriteBody slot the_record) e = no-true e
sync-call (WriteGate slot the_record) e = no-true e
sync-call WriteFirstGate e = no-true e
sync-call Sync e = refl

is-prefix : (bytes all : List ℕ) → bytes_eq bytes (take (length bytes) all) ≡ true → IsPrefix bytes all
is-prefix bytes all e = (drop (length bytes) all, sym (take-append-drop (length bytes) all) ∙ ap (λ l. l ++ drop (length bytes) all) (sym ((bytes_eq-Decides bytes (take (length bytes) all)).0 e)))

chunk-tested : (chunk : List ℕ) → is_chunk chunk ≡ true → IsChunk chunk
chunk-tested chunk e =
    let p = and_parts (nat_lt 0 (length chunk)) (nat_le (length chunk) 4096 && each_passes is_byte chunk) e in
    let q = and_parts (nat_le (length chunk) 4096) (each_passes is_byte chunk) p.1 in
    record { count = (ltb-true 0 (length chunk) p.0, leb-true (length chunk) 4096 q.0); bytes = bytes-tested chunk q.1 }

turn-tested : (v : View) (turn : Turn) → passes_turn v turn ≡ true → AllowedTurn v turn
turn-tested v (Start setup) e = no-true e
turn-tested v OpenFailed e = no-true e
turn-tested v (Polled now) e =
    let p = and_parts (is_running v.scene.stage) (is_empty v.calls && is_empty v.items) e in
    let q = and_parts (is_empty v.calls) (is_empty v.items) p.1 in
    record { running = p.0; calls = empty-nil v.calls q.0; items = empty-nil v.items q.1 }
turn-tested v (Opened till) e = no-true e
turn-tested v (HeardTill till bytes) e = no-true e
turn-tested v (Closed till) e = no-true e
turn-tested v (HeardPt pt bytes) e =
    let p = and_parts (is_at_poll v.scene.stage) (is_connected v.scene.outside.links pt && is_chunk bytes) e in
    let q = and_parts (is_connected v.scene.outside.links pt) (is_chunk bytes) p.1 in
    (record { polled = at-poll v.scene.stage p.0; connected_is = q.0 }, chunk-tested bytes q.1)
turn-tested v (Lost pt) e = no-true e
turn-tested v Stopped e = at-poll v.scene.stage e
turn-tested v (Linked pt) e = link-first pt v.calls e
turn-tested v (LinkFailed pt) e = link-first pt v.calls e
turn-tested v (SentTill till bytes true) e = no-true e
turn-tested v (SentTill till bytes false) e = no-true e
turn-tested v (SentPt pt bytes true) e =
    let s = send-first pt (λ all. bytes_eq bytes all) v.calls e in
    (s.0, s.1, (bytes_eq-Decides bytes (sending_bytes s.0)).0 s.2)
turn-tested v (SentPt pt bytes false) e =
    let s = send-first pt (λ all. bytes_eq bytes (take (length bytes) all)) v.calls e in
    (s.0, s.1, is-prefix bytes (sending_bytes s.0) s.2)
turn-tested v (CutTill till) e = no-true e
turn-tested v (CutPt pt) e = cut-first pt v.calls e
turn-tested v (Wrote offset bytes) e =
    let p = passing-first (writes_gate offset bytes) v.calls e in
    (p.0, p.1, gate-call offset bytes p.0 p.2)
turn-tested v Synced e =
    let p = passing-first is_sync v.calls e in
    p.1 ∙ ap Some (sync-call p.0 p.2)
turn-tested v DiskFailed e = no-true e
turn-tested v (Crash file) e = no-true e

move-tested : (v : View) (move : Move) → passes_move v move ≡ true → Allowed v move
move-tested v Begin e =
    let p = and_parts (is_round v.scene.stage) (is_empty v.calls && may_begin v.scene v.items) e in
    let q = and_parts (is_empty v.calls) (may_begin v.scene v.items) p.1 in
    record { idle = record { round = p.0; calls = empty-nil v.calls q.0 }; first = q.1 }
move-tested v (Read as_read) e = no-true e
move-tested v (Make turn) e = turn-tested v turn e

-- a course that passes is lawful
pub course-tested : (v : View) (moves : List Move) → passes_course v moves ≡ true → IsCourse v moves
course-tested v [] e = tt
course-tested v (move ∷ moves) e =
    let p = and_parts (passes_move v move) (passes_course (after v move) moves) e in
    (move-tested v move p.0, course-tested (after v move) moves p.1)
