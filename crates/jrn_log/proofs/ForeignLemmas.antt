-- The files that a journal can have left, at each turn of an opening and of an append.
use Rattle.std.proofs.Common.{◌≡◌, ℕ, ◌+◌, ◌*◌, ◌<◌, ◌≤◌, List, [], ◌∷◌, ◌++◌, length, get_or, refl, sym, ◌∙◌, ap, subst, arith, inl, inr, length-append, length-drop}
use Rattle.std.proofs.lemmas.List.{length-take, length-replicate}
use Rattle.std.proofs.lemmas.Grind.{same_number_lists}
use Rattle.std.proofs.lemmas.Bool.{cases_lt, lt-leb, le-leb}
use Rattle.gw_site.specs.Outside.{Outside, overwrite, outside_after, outside_from, outside_of}
use Rattle.gw_site.specs.Image.{Image, is_covered}
use Rattle.gw_site.specs.declared.turn.Turn.{Turn}
use Rattle.gw_site.specs.declared.turn.Turn.TheVariants.{Wrote, Synced, Crash}
use Rattle.gw_site.proofs.ImageLemmas.{file_image, stable_image}
use Rattle.gw_site.proofs.OutsideLemmas.{outside_of-append}
use Rattle.gw_site.proofs.OverwriteLemmas.{over_inside, over_above}
use Rattle.jrn_log.specs.Slots.{AreSlots}
use Rattle.jrn_log.specs.Journal.{IsAtRest, AreKept}
use Rattle.jrn_log.specs.JournalTurns.{gate_write, first_gate, FailedAppendTurns, FailedTurns}
use Rattle.jrn_log.specs.Foreign.{FitsSlots, CanBeJournal, LeavesJournals, LeavesDisk, EndsClosed, append_turns}
use Rattle.jrn_log.proofs.SlotLemmas.{one_slots, push_length, one_byte_slots}
use Rattle.jrn_log.proofs.PrefixLemmas.{AllPrefixes, prefix_holds}
use Rattle.jrn_log.proofs.AppendLemmas.{rest_of}
use Rattle.jrn_log.proofs.ImageLemmas.{Rest, HasBody, has_body, below_free, above_free, body_size, body_leaves, body_sync_rest, gate_leaves, gate_sync_rest, after_body, after_body_sync, after_gate, after_gate_sync}

-- where the bodies are known, the rule speaks of these
fits_known : (file : List ℕ) (bodies : List (List ℕ)) → AreSlots file bodies → FitsSlots (length file) (length bodies) (get_or file (256 * length bodies) 0) → CanBeJournal file
fits_known file bodies s f others t = subst (λ bodies. FitsSlots (length file) (length bodies) (get_or file (256 * length bodies) 0)) (one_slots file bodies others s t) f

-- a file that ends closed can be a journal's
pub closed_can : (file : List ℕ) (bodies : List (List ℕ)) → AreSlots file bodies → EndsClosed file (length bodies) → CanBeJournal file
closed_can file bodies s e = fits_known file bodies s (record { bounded = e.bounded; closed = λ lt. e.closed })

-- and so can one of at most one byte
one_byte_can : (file : List ℕ) → length file ≤ 1 → CanBeJournal file
one_byte_can file le bodies s = record { bounded = omega arith; closed = λ lt. absurd (omega arith) }

-- where nothing was written since the last sync, an image is the file
same_image : (o : Outside) (file : List ℕ) → o.file ≡ o.stable → o.written ≡ [] → Image o file → file ≡ o.stable
same_image o file synced clean image =
    let a = image.no_shorter in let b = image.no_longer in
    let e : length o.file ≡ length o.stable = ap length synced in
    same_number_lists file o.stable (omega arith) (λ i lt. image.kept i (omega arith) (rw clean refl))

rest_can : (o : Outside) (bodies : List (List ℕ)) → Rest o bodies → EndsClosed o.stable (length bodies) → (file : List ℕ) → Image o file → CanBeJournal file
rest_can o bodies r e file image = subst CanBeJournal (sym (same_image o file r.synced r.clean image)) (closed_can o.stable bodies r.slots e)

-- a write makes the file no longer than a bound on the file and on the write's end
over_bound : (file : List ℕ) (offset : ℕ) (bytes : List ℕ) (bound : ℕ) → length file ≤ bound → offset + length bytes ≤ bound → length (overwrite file offset bytes) ≤ bound
over_bound file offset bytes bound le reach = simp (length-append, length-take, length-replicate, length-drop) (omega arith)

-- the file with a body after its last gate
body_file : (o : Outside) (bodies : List (List ℕ)) (body : List ℕ) → Rest o bodies → length body ≡ 255 → HasBody o.stable (overwrite o.file (256 * length bodies + 1) (body ++ 0 ∷ [])) (256 * length bodies) body
body_file o bodies body r e = rw r.synced (has_body o.stable (256 * length bodies) body e)

body_bound : (o : Outside) (bodies : List (List ℕ)) (body : List ℕ) → Rest o bodies → length body ≡ 255 → EndsClosed o.stable (length bodies) → length (overwrite o.file (256 * length bodies + 1) (body ++ 0 ∷ [])) ≤ 256 * length bodies + 257
body_bound o bodies body r e c =
    let n : length o.file ≡ length o.stable = ap length r.synced in
    let bounded = c.bounded in
    over_bound o.file (256 * length bodies + 1) (body ++ 0 ∷ []) (256 * length bodies + 257) (omega arith) (omega (arith, body_size body e))

-- while the body is written
body_can : (o : Outside) (bodies : List (List ℕ)) (body : List ℕ) → Rest o bodies → length body ≡ 255 → EndsClosed o.stable (length bodies) → (file : List ℕ) → Image (after_body o (length bodies) body) file → CanBeJournal file
body_can o bodies body r e c file image = elim (body_leaves o bodies body [] r file image) [
  | inl s ↦ fits_known file bodies s fits
  | inr w ↦ absurd (none (w.0.0) (w.0.1) (w.0.2))
]
  where
    none : (first rest : List Turn) → [] ≡ first ++ gate_write (length bodies) ∷ rest → ⊥
    none [] rest e = cc
    none (turn ∷ first) rest e = cc

    kept : get_or file (256 * length bodies) 0 ≡ get_or o.stable (256 * length bodies) 0
    kept = image.kept (256 * length bodies) r.gate (rw (below_free (record { offset = 256 * length bodies + 1; size = length (body ++ 0 ∷ []) }) (256 * length bodies) (omega arith), r.clean) refl)

    fits : FitsSlots (length file) (length bodies) (get_or file (256 * length bodies) 0)
    fits =
        let bound = body_bound o bodies body r e c in
        let longer = image.no_longer in let shorter = image.no_shorter in
        record { bounded = omega arith; closed = λ lt le. kept ∙ c.closed (omega arith) }

-- once it is synced
body_closed : (o : Outside) (bodies : List (List ℕ)) (body : List ℕ) → Rest o bodies → length body ≡ 255 → EndsClosed o.stable (length bodies) → EndsClosed (after_body_sync o (length bodies) body).stable (length bodies)
body_closed o bodies body r e c =
    let bound = body_bound o bodies body r e c in
    let h = body_file o bodies body r e in
    let room = h.room in
    record { bounded = omega arith; closed = λ le. absurd (omega arith) }

-- while the gate is written
gate_can : (o : Outside) (bodies : List (List ℕ)) (body : List ℕ) → Rest o bodies → length body ≡ 255 → EndsClosed o.stable (length bodies) → (file : List ℕ) → Image (after_gate o (length bodies) body) file → CanBeJournal file
gate_can o bodies body r e c file image = elim (gate_leaves o bodies body (gate_write (length bodies) ∷ []) r e ([], [], refl) file image) [
  | inl s ↦ fits_known file bodies s old
  | inr w ↦ fits_known file (bodies ++ body ∷ []) w.1 new
]
  where
    size : length file ≡ 256 * length bodies + 257
    size =
        let bound = body_bound o bodies body r e c in
        let room = (body_file o bodies body r e).room in
        let gate = over_bound (after_body_sync o (length bodies) body).file (256 * length bodies) (165 ∷ []) (256 * length bodies + 257) bound (omega arith) in
        let longer = image.no_longer in let shorter = image.no_shorter in
        omega arith

    old : FitsSlots (length file) (length bodies) (get_or file (256 * length bodies) 0)
    old = record { bounded = omega (arith, size); closed = λ lt le. absurd (omega (arith, size)) }

    next : get_or file (256 * length bodies + 256) 0 ≡ 0
    next =
        let h = body_file o bodies body r e in
        image.kept (256 * length bodies + 256) h.room (rw (above_free (record { offset = 256 * length bodies; size = 1 }) (256 * length bodies + 256) (omega arith)) refl) ∙ h.next

    new : FitsSlots (length file) (length (bodies ++ body ∷ [])) (get_or file (256 * length (bodies ++ body ∷ [])) 0)
    new =
        let n = push_length bodies body in
        let next_gate : 256 * length (bodies ++ body ∷ []) ≡ 256 * length bodies + 256 = omega (arith, n) in
        record { bounded = omega (arith, size, n); closed = λ lt le. ap (λ k. get_or file k 0) next_gate ∙ next }

-- and once that is synced
gate_closed : (o : Outside) (bodies : List (List ℕ)) (body : List ℕ) → Rest o bodies → length body ≡ 255 → EndsClosed o.stable (length bodies) → EndsClosed (after_gate_sync o (length bodies) body).stable (length (bodies ++ body ∷ []))
gate_closed o bodies body r e c =
    let file = (after_body_sync o (length bodies) body).file in
    let h = body_file o bodies body r e in
    let n = push_length bodies body in
    let next_gate : 256 * length (bodies ++ body ∷ []) ≡ 256 * length bodies + 256 = omega (arith, n) in
    let bound = over_bound file (256 * length bodies) (165 ∷ []) (256 * length bodies + 257) (body_bound o bodies body r e c) (omega arith) in
    record {
      bounded = omega (arith, bound, n);
      closed = λ le. ap (λ k. get_or (overwrite file (256 * length bodies) (165 ∷ [])) k 0) next_gate ∙ over_above file (256 * length bodies) (165 ∷ []) (256 * length bodies + 256) (omega arith) ∙ h.next;
    }

-- after these turns a power failure leaves what a journal can have left
abbrev CanAfter : Outside → List Turn → Type 0
CanAfter o made = (file : List ℕ) → Image (outside_from o made) file → CanBeJournal file

append_prefixes : (o : Outside) (bodies : List (List ℕ)) (body : List ℕ) → Rest o bodies → length body ≡ 255 → EndsClosed o.stable (length bodies) → AllPrefixes (CanAfter o) (append_turns (length bodies) body)
append_prefixes o bodies body r e c = (
  rest_can o bodies r c,
  (
    body_can o bodies body r e c,
    (
      rest_can (after_body_sync o (length bodies) body) bodies (body_sync_rest o bodies body r e) (body_closed o bodies body r e c),
      (
        gate_can o bodies body r e c,
        rest_can (after_gate_sync o (length bodies) body) (bodies ++ body ∷ []) (gate_sync_rest o bodies body r e) (gate_closed o bodies body r e c),
      ),
    ),
  ),
)

stable_closed : (o : Outside) (bodies : List (List ℕ)) → Rest o bodies → EndsClosed o.file (length bodies) → EndsClosed o.stable (length bodies)
stable_closed o bodies r c = subst (λ file. EndsClosed file (length bodies)) r.synced c

pub append_leaves : (log : List Turn) (bodies : List (List ℕ)) (body : List ℕ) (made rest : List Turn) → IsAtRest log (length bodies) → AreKept log bodies → EndsClosed (outside_of log).file (length bodies) → length body ≡ 255 →
    append_turns (length bodies) body ≡ made ++ rest → LeavesJournals (log ++ made)
append_leaves log bodies body made rest r k c e parts file image =
    let o = outside_of log in
    let q = rest_of log bodies r k in
    prefix_holds (CanAfter o) (append_turns (length bodies) body) made rest (append_prefixes o bodies body q e (stable_closed o bodies q c)) parts file (rw outside_of-append at image)

pub append_closed : (log : List Turn) (bodies : List (List ℕ)) (body : List ℕ) → IsAtRest log (length bodies) → AreKept log bodies → EndsClosed (outside_of log).file (length bodies) → length body ≡ 255 →
    EndsClosed (outside_of (log ++ append_turns (length bodies) body)).file (length bodies + 1)
append_closed log bodies body r k c e =
    let o = outside_of log in
    let q = rest_of log bodies r k in
    let x = gate_closed o bodies body q e (stable_closed o bodies q c) in
    rw outside_of-append (subst (λ n. EndsClosed (after_gate_sync o (length bodies) body).stable n) (push_length bodies body) x)

-- an opening

one_byte_gate : (o : Outside) → length o.file ≤ 1 → length (overwrite o.file 0 (0 ∷ [])) ≤ 1
one_byte_gate o le = over_bound o.file 0 (0 ∷ []) 1 le (omega arith)

opening_prefixes : (o : Outside) → CanBeJournal o.file → AllPrefixes (CanAfter (outside_after o Synced)) (first_gate (length o.file))
opening_prefixes o c = elim (cases_lt 1 (length o.file)) [ inl lt ↦ long lt | inr le ↦ one_byte le ]
  where
    synced : CanAfter (outside_after o Synced) []
    synced file image = subst CanBeJournal (sym (same_image (outside_after o Synced) file refl refl image)) c

    long : 1 < length o.file → AllPrefixes (CanAfter (outside_after o Synced)) (first_gate (length o.file))
    long lt = let none : first_gate (length o.file) ≡ [] = rw (lt-leb (length o.file) 1 lt) refl in rw none synced

    one_byte : length o.file ≤ 1 → AllPrefixes (CanAfter (outside_after o Synced)) (first_gate (length o.file))
    one_byte le =
        let gate : first_gate (length o.file) ≡ Wrote 0 (0 ∷ []) ∷ Synced ∷ [] = rw (le-leb (length o.file) 1 le) refl in
        let n = one_byte_gate o le in
        rw gate (synced, (λ file image. let a = image.no_longer in one_byte_can file (omega arith), λ file image. let a = image.no_longer in one_byte_can file (omega arith)))

pub opening_leaves : (log made rest : List Turn) → CanBeJournal (outside_of log).file → first_gate (length (outside_of log).file) ≡ made ++ rest → LeavesJournals (log ++ Synced ∷ made)
opening_leaves log made rest c parts file image =
    let o = outside_of log in
    prefix_holds (CanAfter (outside_after o Synced)) (first_gate (length o.file)) made rest (opening_prefixes o c) parts file (rw outside_of-append at image)

after_first : (o : Outside) (bodies : List (List ℕ)) → CanBeJournal o.file → AreSlots o.file bodies → EndsClosed (outside_from (outside_after o Synced) (first_gate (length o.file))).file (length bodies)
after_first o bodies c s = elim (cases_lt 1 (length o.file)) [ inl lt ↦ long lt | inr le ↦ one_byte le ]
  where
    long : 1 < length o.file → EndsClosed (outside_from (outside_after o Synced) (first_gate (length o.file))).file (length bodies)
    long lt =
        let none : first_gate (length o.file) ≡ [] = rw (lt-leb (length o.file) 1 lt) refl in
        let f = c bodies s in
        let x : EndsClosed o.file (length bodies) = record { bounded = f.bounded; closed = λ le. f.closed lt le } in
        rw none x

    one_byte : length o.file ≤ 1 → EndsClosed (outside_from (outside_after o Synced) (first_gate (length o.file))).file (length bodies)
    one_byte le =
        let gate : first_gate (length o.file) ≡ Wrote 0 (0 ∷ []) ∷ Synced ∷ [] = rw (le-leb (length o.file) 1 le) refl in
        let none : bodies ≡ [] = one_slots o.file bodies [] s (one_byte_slots o.file le) in
        let n = one_byte_gate o le in
        let x : EndsClosed (overwrite o.file 0 (0 ∷ [])) 0 = record { bounded = omega (arith, n); closed = λ l. over_inside o.file 0 (0 ∷ []) 0 (omega arith) (omega arith) } in
        rw (gate, none) x

pub opening_closed : (log : List Turn) (bodies : List (List ℕ)) → CanBeJournal (outside_of log).file → AreSlots (outside_of log).file bodies →
    EndsClosed (outside_of (log ++ Synced ∷ first_gate (length (outside_of log).file))).file (length bodies)
opening_closed log bodies c s = rw outside_of-append (after_first (outside_of log) bodies c s)

pub beginning_leaves : LeavesJournals []
beginning_leaves file image = let a = image.no_longer in one_byte_can file (omega arith)

-- failures

failed_append_prefixes : (o : Outside) (bodies : List (List ℕ)) (body : List ℕ) (turns : List Turn) → Rest o bodies → length body ≡ 255 → EndsClosed o.stable (length bodies) → FailedAppendTurns (length bodies) body turns → AllPrefixes (CanAfter o) turns
failed_append_prefixes o bodies body turns r e c (inl parts) = rw parts (rest_can o bodies r c, (body_can o bodies body r e c, body_can o bodies body r e c))
failed_append_prefixes o bodies body turns r e c (inr parts) =
    rw parts (rest_can o bodies r c, (body_can o bodies body r e c, (rest_can (after_body_sync o (length bodies) body) bodies (body_sync_rest o bodies body r e) (body_closed o bodies body r e c), (gate_can o bodies body r e c, gate_can o bodies body r e c))))

pub failed_append_leaves : (log : List Turn) (bodies : List (List ℕ)) (body : List ℕ) (made rest : List Turn) → IsAtRest log (length bodies) → AreKept log bodies → EndsClosed (outside_of log).file (length bodies) → length body ≡ 255 →
    FailedAppendTurns (length bodies) body (made ++ rest) → LeavesJournals (log ++ made)
failed_append_leaves log bodies body made rest r k c e failed file image =
    let o = outside_of log in
    let q = rest_of log bodies r k in
    prefix_holds (CanAfter o) (made ++ rest) made rest (failed_append_prefixes o bodies body (made ++ rest) q e (stable_closed o bodies q c) failed) refl file (rw outside_of-append at image)

pub file_can : (log : List Turn) → LeavesJournals log → CanBeJournal (outside_of log).file
file_can log leaves = leaves (outside_of log).file (file_image log)

pub stable_can : (log : List Turn) → LeavesJournals log → CanBeJournal (outside_of log).stable
stable_can log leaves = leaves (outside_of log).stable (stable_image log)

synced_can : (o : Outside) → CanBeJournal o.file → CanAfter (outside_after o Synced) []
synced_can o c file image = subst CanBeJournal (sym (same_image (outside_after o Synced) file refl refl image)) c

failed_opening_prefixes : (o : Outside) (turns : List Turn) → CanAfter o [] → CanBeJournal o.file → FailedTurns o.file turns → AllPrefixes (CanAfter o) turns
failed_opening_prefixes o turns before c (inl parts) = rw parts (before, before)
failed_opening_prefixes o turns before c (inr (inl parts)) = rw parts (before, (synced_can o c, synced_can o c))
failed_opening_prefixes o turns before c (inr (inr parts)) =
    let n = one_byte_gate o parts.0 in
    let written : CanAfter o (Synced ∷ Wrote 0 (0 ∷ []) ∷ []) = λ file image. let a = image.no_longer in one_byte_can file (omega arith) in
    rw parts.1 (before, (synced_can o c, (written, written)))

pub failed_opening_leaves : (log made rest : List Turn) → LeavesJournals log → FailedTurns (outside_of log).file (made ++ rest) → LeavesJournals (log ++ made)
failed_opening_leaves log made rest leaves failed file image =
    let o = outside_of log in
    prefix_holds (CanAfter o) (made ++ rest) made rest (failed_opening_prefixes o (made ++ rest) leaves (file_can log leaves) failed) refl file (rw outside_of-append at image)

-- a power failure, and turns that leave the disk

pub crash_leaves : (log : List Turn) (file : List ℕ) → LeavesJournals log → Image (outside_of log) file → LeavesJournals (log ++ Crash file ∷ [])
crash_leaves log file leaves image other further =
    let left : Image (outside_after (outside_of log) (Crash file)) other = rw outside_of-append at further in
    subst CanBeJournal (sym (same_image (outside_after (outside_of log) (Crash file)) other refl refl left)) (leaves file image)

same_disk : (o p : Outside) (file : List ℕ) → p.file ≡ o.file → p.stable ≡ o.stable → p.written ≡ o.written → Image p file → Image o file
same_disk o p file f s w image = record {
  no_shorter = let a = image.no_shorter in omega (arith, ap length s);
  no_longer = let a = image.no_longer in omega (arith, ap length f);
  kept = λ offset lt free.
      image.kept offset (omega (arith, ap length s)) (ap (λ ranges. is_covered ranges offset) w ∙ free) ∙ ap (λ stable. get_or stable offset 0) s;
}

pub others_leave : (log : List Turn) (turn : Turn) → LeavesDisk turn → LeavesJournals log → LeavesJournals (log ++ turn ∷ [])
others_leave log turn still leaves file image =
    let o = outside_of log in
    let left : Image (outside_after o turn) file = rw outside_of-append at image in
    leaves file (same_disk o (outside_after o turn) file (still o).0 (still o).1 (still o).2 left)
