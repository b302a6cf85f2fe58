-- What an opening returns, adds and leaves.
use Rattle.std.proofs.Common.{◌≡◌, ℕ, ◌*◌, ◌<◌, ◌≤◌, List, [], ◌∷◌, ◌++◌, length, get_or, refl, sym, ◌∙◌, ap, subst, arith, inl, inr, length-append, length-drop, append_assoc}
use Rattle.std.proofs.lemmas.List.{length-take, length-replicate, append_cancel_left}
use Rattle.std.proofs.lemmas.Grind.{same_number_lists}
use Rattle.std.proofs.lemmas.Bool.{cases_lt, lt-leb, le-leb}
use Rattle.std.specs.Prelude.{◌⊎◌, Result, Ok, Err}
use Rattle.gw_site.specs.Outside.{Outside, overwrite, outside_after, outside_from, outside_of}
use Rattle.gw_site.specs.Image.{Image}
use Rattle.gw_site.specs.Observed.{Observed, IfObserved, Grows, GrowsBy, Added}
use Rattle.gw_site.specs.declared.turn.Turn.{Turn}
use Rattle.gw_site.specs.declared.turn.Turn.TheVariants.{Wrote, Synced, DiskFailed}
use Rattle.gw_site.proofs.OutsideLemmas.{outside_of-append}
use Rattle.gw_site.proofs.OverwriteLemmas.{over_inside}
use Rattle.jrn_log.specs.declared.fault.OpenFault.{OpenFault}
use Rattle.jrn_log.specs.declared.fault.OpenFault.TheVariants.{Disk, TooLong, Cut, Memory}
use Rattle.jrn_log.specs.Slots.{AreSlots, IsTruncatedSlot}
use Rattle.jrn_log.specs.Journal.{IsAtRest, AreKept}
use Rattle.jrn_log.specs.JournalTurns.{first_gate, FaultTurns, FailedTurns, OpeningTurns}
use Rattle.jrn_log.specs.Opening.{OpensWith, IsExactlyTooLong, IsExactlyTruncated}
use Rattle.jrn_log.specs.Images.{OpeningImages}
use Rattle.jrn_log.specs.inner.FileReader.{AreJournalBodies, IsFileFault, FaultTurnsAfterLength}
use Rattle.jrn_log.proofs.SlotLemmas.{end_closed, one_slots, one_byte_slots, past_closed}
use Rattle.jrn_log.proofs.PrefixLemmas.{AllPrefixes, prefix_holds}
use Rattle.jrn_log.proofs.SequenceLemmas.{added_prefix, added_whole, synced_same, grows-then, grows-by, observed_before, observed_same}
use Rattle.jrn_log.proofs.ImageLemmas.{Rest}
use Rattle.jrn_log.proofs.AppendLemmas.{at_rest}
use Rattle.jrn_log.proofs.AppendedLemmas.{RestsAt}

-- the turns

pub open_grows : (old mid new : Observed) (size : ℕ) → Grows old mid (λ turns. turns ≡ Synced ∷ []) → Grows mid new (λ turns. turns ≡ first_gate size) → Grows old new (λ turns. turns ≡ Synced ∷ first_gate size)
open_grows old mid new size x y = grows-then old mid new _ _ _ x y (λ p q e f. rw (e, f) refl)

pub open_turns : {T : Type 0} (opened : T) (old new : Observed) (size : ℕ) → IfObserved old (λ log. size ≡ length (outside_of log).file) → Grows old new (λ turns. turns ≡ Synced ∷ first_gate size) →
    GrowsBy Added old new (λ before. OpeningTurns (outside_of before).file (Ok opened))
open_turns opened old new size n x = grows-by old new _ _ x (λ log observed turns e. e ∙ ap (λ k. Synced ∷ first_gate k) (n log observed))

fault_turns : (file : List ℕ) (fault : OpenFault) (size : ℕ) (p q : List Turn) → size ≡ length file → p ≡ Synced ∷ [] → FaultTurnsAfterLength size fault q → FaultTurns file fault (p ++ q)
fault_turns file Disk size p q n e (inl f) = inr (inl (rw (e, f) refl))
fault_turns file Disk size p q n e (inr f) = inr (inr (omega (arith, n, f.0), rw (e, f.1) refl))
fault_turns file (TooLong count) size p q n e f = rw (e, f) refl
fault_turns file (Cut slot) size p q n e f = rw (e, f) refl
fault_turns file Memory size p q n e f = rw (e, f) refl

-- a fault's turns after a sync, whatever the file
abbrev SyncThen : OpenFault → ℕ → List Turn → Type 0
SyncThen fault size turns = (p : List Turn) × (q : List Turn) × (p ≡ Synced ∷ []) × FaultTurnsAfterLength size fault q × (turns ≡ p ++ q)

pub open_fails : (fault : OpenFault) (old mid new : Observed) (size : ℕ) → IfObserved old (λ log. size ≡ length (outside_of log).file) → Grows old mid (λ turns. turns ≡ Synced ∷ []) → Grows mid new (FaultTurnsAfterLength size fault) →
    GrowsBy Added old new (λ before. FaultTurns (outside_of before).file fault)
open_fails fault old mid new size n x y = grows-by old new (SyncThen fault size) _ (grows-then old mid new _ _ _ x y (λ p q e f. (p, q, e, f, refl)))
    (λ log observed turns t. rw t.4 (fault_turns (outside_of log).file fault size t.0 t.1 (n log observed) t.2 t.3))

-- the results

-- where the bodies of a file are known, and a gate follows them, it isn't truncated
not_truncated : (slots : ℕ) (file : List ℕ) (bodies : List (List ℕ)) → AreJournalBodies slots file bodies → (slot : ℕ) → IsTruncatedSlot file slot → ⊥
not_truncated slots file bodies s slot truncated =
    let lt : slot < length bodies = (s.slots_are.exactly slot).0 truncated.opened in
    let some = (truncated.opened slot (omega arith)).0 in
    let gate = s.gate some in
    let ends = truncated.ends in
    omega arith

pub ok_not_long : {T : Type 0} (slots : ℕ) (file : List ℕ) (bodies : List (List ℕ)) (opened : T) → AreJournalBodies slots file bodies → IsExactlyTooLong slots file (Ok opened)
ok_not_long slots file bodies opened s settled count = (λ e. absurd (cc), λ h. absurd (s.fits h.1))

pub ok_not_truncated : {T : Type 0} (slots : ℕ) (file : List ℕ) (bodies : List (List ℕ)) (opened : T) → AreJournalBodies slots file bodies → IsExactlyTruncated slots file (Ok opened)
ok_not_truncated slots file bodies opened s settled slot = (λ e. absurd (cc), λ h. absurd (not_truncated slots file bodies s slot h.1))

truncated_offset : (file : List ℕ) (slot : ℕ) → IsTruncatedSlot file slot → 256 * slot < length file
truncated_offset file slot truncated = elim (cases_lt (256 * slot) (length file)) [ inl lt ↦ lt | inr le ↦ absurd (past_closed file slot le (truncated.opened slot (omega arith))) ]

one_truncated : (file : List ℕ) (slot other : ℕ) → IsTruncatedSlot file slot → IsTruncatedSlot file other → slot ≡ other
one_truncated file slot other a b = omega (arith, a.ends, b.ends, truncated_offset file slot a, truncated_offset file other b)

pub fault_long : {T : Type 0} (slots : ℕ) (file : List ℕ) (fault : OpenFault) → IsFileFault slots file fault → IsExactlyTooLong {T = T} slots file (Err fault)
fault_long slots file Disk n settled count = absurd (settled tt)
fault_long slots file (TooLong size) n settled count = (λ e. (let h : size ≡ count = cc in sym h ∙ n.0, n.1), λ h. ap (λ k. Err (TooLong k)) (n.0 ∙ sym h.0))
fault_long slots file (Cut slot) n settled count = (λ e. absurd (cc), λ h. absurd (n.0 h.1))
fault_long slots file Memory n settled count = absurd (settled tt)

pub fault_truncated : {T : Type 0} (slots : ℕ) (file : List ℕ) (fault : OpenFault) → IsFileFault slots file fault → IsExactlyTruncated {T = T} slots file (Err fault)
fault_truncated slots file Disk n settled slot = absurd (settled tt)
fault_truncated slots file (TooLong size) n settled slot = (λ e. absurd (cc), λ h. absurd (h.0 n.1))
fault_truncated slots file (Cut offset) n settled slot = (λ e. (n.0, let h : offset ≡ slot = cc in subst (λ k. IsTruncatedSlot file k) h n.1), λ h. ap (λ k. Err (Cut k)) (one_truncated file offset slot n.1 h.1))
fault_truncated slots file Memory n settled slot = absurd (settled tt)

-- what is left

-- the file that got its first gate has one byte
one_byte_over : (file : List ℕ) → length file ≤ 1 → length (overwrite file 0 (0 ∷ [])) ≡ 1
one_byte_over file le = simp (length-append, length-take, length-replicate, length-drop) (omega arith)

first_closed : (file : List ℕ) → get_or (overwrite file 0 (0 ∷ [])) 0 0 ≡ 0
first_closed file = over_inside file 0 (0 ∷ []) 0 (omega arith) (omega arith)

long_rest : (o : Outside) (slots : ℕ) (bodies : List (List ℕ)) → AreJournalBodies slots o.file bodies → 1 < length o.file → Rest (outside_after o Synced) bodies
long_rest o slots bodies s some = record { synced = refl; clean = refl; slots = s.slots_are; gate = s.gate some; closed = λ q. end_closed o.file bodies s.slots_are (some, q) }

one_byte_rest : (o : Outside) → length o.file ≤ 1 → Rest (outside_from o (Synced ∷ Wrote 0 (0 ∷ []) ∷ Synced ∷ [])) []
one_byte_rest o le = record {
  synced = refl;
  clean = refl;
  slots = one_byte_slots (overwrite o.file 0 (0 ∷ [])) (let n = one_byte_over o.file le in omega (arith, n));
  gate = let n = one_byte_over o.file le in omega (arith, n);
  closed = λ q. let z = first_closed o.file in omega (arith, q, z);
}

no_bodies : (file : List ℕ) (bodies : List (List ℕ)) → AreSlots file bodies → length file ≤ 1 → bodies ≡ []
no_bodies file bodies s le = one_slots file bodies [] s (one_byte_slots file le)

pub opened_rest : (before after : List Turn) (slots size : ℕ) (bodies : List (List ℕ)) → after ≡ before ++ Synced ∷ first_gate size → size ≡ length (outside_of before).file → AreJournalBodies slots (outside_of before).file bodies → IsAtRest after (length bodies) × AreKept after bodies
opened_rest before after slots size bodies e n s = elim (cases_lt 1 size) [ inl lt ↦ long lt | inr le ↦ one_byte le ]
  where
    long : 1 < size → IsAtRest after (length bodies) × AreKept after bodies
    long lt =
        let none : first_gate size ≡ [] = rw (lt-leb size 1 lt) refl in
        let whole : after ≡ before ++ Synced ∷ [] = e ∙ ap (λ turns. before ++ Synced ∷ turns) none in
        at_rest after _ bodies (ap (λ log. outside_of log) whole ∙ outside_of-append before (Synced ∷ [])) (long_rest (outside_of before) slots bodies s (omega (arith, n)))

    one_byte : size ≤ 1 → IsAtRest after (length bodies) × AreKept after bodies
    one_byte le =
        let le' : length (outside_of before).file ≤ 1 = omega (arith, n) in
        let gate : first_gate size ≡ Wrote 0 (0 ∷ []) ∷ Synced ∷ [] = rw (le-leb size 1 le) refl in
        let whole : after ≡ before ++ Synced ∷ Wrote 0 (0 ∷ []) ∷ Synced ∷ [] = e ∙ ap (λ turns. before ++ Synced ∷ turns) gate in
        let x = at_rest after _ [] (ap (λ log. outside_of log) whole ∙ outside_of-append before (Synced ∷ Wrote 0 (0 ∷ []) ∷ Synced ∷ [])) (one_byte_rest (outside_of before) le') in
        subst (λ bs. IsAtRest after (length bs) × AreKept after bs) (sym (no_bodies (outside_of before).file bodies s.slots_are le')) x

pub opened_rests : (old new : Observed) (slots size : ℕ) (bodies : List (List ℕ)) → Grows old new (λ turns. turns ≡ Synced ∷ first_gate size) → IfObserved old (λ log. size ≡ length (outside_of log).file) → IfObserved old (λ log. AreJournalBodies slots (outside_of log).file bodies) → RestsAt (length bodies) new
opened_rests old new slots size bodies x n s lit after observed_after =
    let b = observed_before Added old new (λ before turns. turns ≡ Synced ∷ first_gate size) after x observed_after in
    let a = x.observed b.0 b.1 in
    let grown : after ≡ b.0 ++ Synced ∷ first_gate size = observed_same new after (b.0 ++ a.1) observed_after a.4 ∙ ap (λ xs. b.0 ++ xs) (added_whole old.dark new.dark a.0 a.1 a.3 lit ∙ a.2) in
    (opened_rest b.0 after slots size bodies grown (n b.0 b.1) (s b.0 b.1)).0

-- the images

-- after a sync, an image is the file
synced_image : (o : Outside) (file : List ℕ) → Image (outside_after o Synced) file → file ≡ o.file
synced_image o file image =
    let a = image.no_shorter in let b = image.no_longer in
    same_number_lists file o.file (omega arith) (λ i lt. image.kept i (omega arith) refl)

-- these turns leave the bodies, once the first of them was a sync
abbrev SyncLeaves : Outside → List (List ℕ) → List Turn → Type 0
SyncLeaves o bodies turns = (made : List Turn) → turns ≡ Synced ∷ made → (file : List ℕ) → Image (outside_from o turns) file → AreSlots file bodies

nothing_leaves : (o : Outside) (bodies : List (List ℕ)) → SyncLeaves o bodies []
nothing_leaves o bodies made e = absurd (let h : [] ≡ Synced ∷ made = e in cc)

sync_leaves : (o : Outside) (bodies : List (List ℕ)) → AreSlots o.file bodies → (file : List ℕ) → Image (outside_after o Synced) file → AreSlots file bodies
sync_leaves o bodies s file image = rw (synced_image o file image) s

one_byte_leaves : (o : Outside) (bodies : List (List ℕ)) → bodies ≡ [] → length o.file ≤ 1 → (file : List ℕ) → Image o file → AreSlots file bodies
one_byte_leaves o bodies none le file image = let a = image.no_longer in rw none (one_byte_slots file (omega arith))

failed_prefixes : (o : Outside) (bodies : List (List ℕ)) (turns : List Turn) → AreSlots o.file bodies → FailedTurns o.file turns → AllPrefixes (SyncLeaves o bodies) turns
failed_prefixes o bodies turns s (inl e) = rw e (nothing_leaves o bodies, λ made e. absurd (let h : DiskFailed ∷ [] ≡ Synced ∷ made = e in cc))
failed_prefixes o bodies turns s (inr (inl e)) = rw e (nothing_leaves o bodies, (λ made e. sync_leaves o bodies s, λ made e. sync_leaves o bodies s))
failed_prefixes o bodies turns s (inr (inr e)) =
    let none = no_bodies o.file bodies s e.0 in
    let le : length (overwrite o.file 0 (0 ∷ [])) ≤ 1 = (let n = one_byte_over o.file e.0 in omega (arith, n)) in
    rw e.1 (nothing_leaves o bodies, (λ made e. sync_leaves o bodies s, (λ made e. one_byte_leaves _ bodies none le, λ made e. one_byte_leaves _ bodies none le)))

synced_prefixes : (o : Outside) (bodies : List (List ℕ)) (turns : List Turn) → AreSlots o.file bodies → turns ≡ Synced ∷ [] → AllPrefixes (SyncLeaves o bodies) turns
synced_prefixes o bodies turns s e = rw e (nothing_leaves o bodies, λ made e. sync_leaves o bodies s)

gate_prefixes : (o : Outside) (bodies : List (List ℕ)) (turns : List Turn) → AreSlots o.file bodies → turns ≡ Synced ∷ first_gate (length o.file) → AllPrefixes (SyncLeaves o bodies) turns
gate_prefixes o bodies turns s e = elim (cases_lt 1 (length o.file)) [ inl lt ↦ long lt | inr le ↦ one_byte le ]
  where
    long : 1 < length o.file → AllPrefixes (SyncLeaves o bodies) turns
    long lt = let none : first_gate (length o.file) ≡ [] = rw (lt-leb (length o.file) 1 lt) refl in synced_prefixes o bodies turns s (e ∙ ap (λ turns. Synced ∷ turns) none)

    one_byte : length o.file ≤ 1 → AllPrefixes (SyncLeaves o bodies) turns
    one_byte le =
        let none = no_bodies o.file bodies s le in
        let gate : first_gate (length o.file) ≡ Wrote 0 (0 ∷ []) ∷ Synced ∷ [] = rw (le-leb (length o.file) 1 le) refl in
        let whole : turns ≡ Synced ∷ Wrote 0 (0 ∷ []) ∷ Synced ∷ [] = e ∙ ap (λ turns. Synced ∷ turns) gate in
        let le' : length (overwrite o.file 0 (0 ∷ [])) ≤ 1 = (let n = one_byte_over o.file le in omega (arith, n)) in
        rw whole (nothing_leaves o bodies, (λ made e. sync_leaves o bodies s, (λ made e. one_byte_leaves _ bodies none le', λ made e. one_byte_leaves _ bodies none le')))

opening_prefixes : {T : Type 0} (o : Outside) (bodies : List (List ℕ)) (result : Result T OpenFault) (turns : List Turn) → AreSlots o.file bodies → OpeningTurns o.file result turns → AllPrefixes (SyncLeaves o bodies) turns
opening_prefixes o bodies (Ok opened) turns s e = gate_prefixes o bodies turns s e
opening_prefixes o bodies (Err fault) turns s e = by_fault fault e
  where
    by_fault : (fault : OpenFault) → FaultTurns o.file fault turns → AllPrefixes (SyncLeaves o bodies) turns
    by_fault Disk e = failed_prefixes o bodies turns s e
    by_fault (TooLong count) e = synced_prefixes o bodies turns s e
    by_fault (Cut slot) e = synced_prefixes o bodies turns s e
    by_fault Memory e = synced_prefixes o bodies turns s e

pub opening_images : {T : Type 0} (result : Result T OpenFault) (old new : Observed) → GrowsBy Added old new (λ before. OpeningTurns (outside_of before).file result) →
    IfObserved old (λ before. IfObserved new (λ after. (bodies : List (List ℕ)) → AreSlots (outside_of before).file bodies → OpeningImages before after bodies))
opening_images result old new x before observed after observed_after bodies s made rest e file image =
    let a = x.observed before observed in
    let f = added_prefix old.dark new.dark a.0 a.1 a.3 in
    let grown : before ++ a.1 ≡ before ++ Synced ∷ (made ++ rest) = sym (observed_same new after (before ++ a.1) observed_after a.4) ∙ e in
    let same : a.1 ≡ Synced ∷ (made ++ rest) = append_cancel_left before a.1 (Synced ∷ (made ++ rest)) grown in
    let parts : a.0 ≡ (Synced ∷ made) ++ (rest ++ f.0) = f.1 ∙ ap (λ xs. xs ++ f.0) same ∙ ap (λ xs. Synced ∷ xs) (append_assoc made rest f.0) in
    prefix_holds (SyncLeaves (outside_of before) bodies) a.0 (Synced ∷ made) (rest ++ f.0) (opening_prefixes (outside_of before) bodies result a.0 s a.2) parts made refl file (rw outside_of-append at image)

-- what is known of the file after the sync was known before it
pub sized_before : (old mid : Observed) (size : ℕ) (Q : List ℕ → Type 0) → Grows old mid (λ turns. turns ≡ Synced ∷ []) → IfObserved old (λ log. size ≡ length (outside_of log).file) → IfObserved mid (λ log. size ≡ length (outside_of log).file → Q (outside_of log).file) →
    IfObserved old (λ log. Q (outside_of log).file)
sized_before old mid size Q x n h log e = synced_same old mid (λ file. size ≡ length file → Q file) x h log e (n log e)

-- and what is known of its size is known after the sync
pub sized_after : (old mid : Observed) (size : ℕ) → Grows old mid (λ turns. turns ≡ Synced ∷ []) → IfObserved old (λ log. size ≡ length (outside_of log).file) → IfObserved mid (λ log. size ≡ length (outside_of log).file)
sized_after old mid size x n between f =
    let b = observed_before Added old mid (λ before turns. turns ≡ Synced ∷ []) between x f in
    n b.0 b.1 ∙ synced_same old mid (λ file. length file ≡ length (outside_of between).file) x (λ log h. ap (λ log. length (outside_of log).file) (observed_same mid log between h f)) b.0 b.1

pub sync_fails : (old new : Observed) → Grows old new (λ turns. (turns ≡ DiskFailed ∷ []) ⊎ (turns ≡ Synced ∷ DiskFailed ∷ [])) → GrowsBy Added old new (λ before. FaultTurns (outside_of before).file Disk)
sync_fails old new x = grows-by old new _ _ x (λ log observed turns t. failed (outside_of log).file turns t)
  where
    failed : (file : List ℕ) (turns : List Turn) → (turns ≡ DiskFailed ∷ []) ⊎ (turns ≡ Synced ∷ DiskFailed ∷ []) → FaultTurns file Disk turns
    failed file turns (inl e) = inl e
    failed file turns (inr e) = inr (inl e)

pub opens_with : (slots size : ℕ) (file : List ℕ) (bodies same : List (List ℕ)) → same ≡ bodies → size ≡ length file → AreJournalBodies slots file bodies → OpensWith slots file (record { len = length same; slots = slots; opened = size }, bodies)
opens_with slots size file bodies same e n s = (s.slots_are, rw (e, n) refl)
