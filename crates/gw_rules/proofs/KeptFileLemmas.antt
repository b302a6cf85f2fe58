-- The files of a journal that is kept, and what a power failure leaves of them, after turns of each kind.
use Rattle.std.proofs.Common.{◌≡◌, ℕ, ◌+◌, ◌*◌, ◌<◌, ◌≤◌, Bool, true, false, List, [], ◌∷◌, ◌++◌, length, refl, sym, ◌∙◌, ap, subst, arith, inl, inr, append_assoc, append-nil, length-append, length-drop, eq-eqb, eqb-true}
use Rattle.std.proofs.lemmas.Bool.{and_parts, and_from, cases_lt, lt-ltb, ltb-true}
use Rattle.std.proofs.lemmas.Grind.{same_number_lists}
use Rattle.std.proofs.lemmas.List.{length-map, map-append, length-take, length-replicate}
use Rattle.std.specs.Prelude.{nat_lt, ◌==◌, if◌then◌else◌, map, slice_index, get_or, Option, Some, None, IsTrue, option_to_list}
use Rattle.gw_site.specs.Image.{Image, is_covered}
use Rattle.gw_site.specs.Outside.{Outside, overwrite, outside_after, outside_of}
use Rattle.gw_site.specs.declared.turn.Turn.{Turn}
use Rattle.gw_site.specs.declared.turn.Turn.TheVariants.{Start, Wrote, Synced, Crash}
use Rattle.gw_site.proofs.ImageLemmas.{file_image, stable_image}
use Rattle.gw_site.proofs.OutsideLemmas.{outside_of_more}
use Rattle.gw_base.specs.declared.setup.Setup.{Setup}
use Rattle.jrn_record.specs.Grammar.{record_body}
use Rattle.jrn_record.specs.Limits.{IsRecord}
use Rattle.jrn_record.specs.declared.records.Record.{Record}
use Rattle.jrn_log.specs.Decode.{has_gate}
use Rattle.jrn_log.specs.Foreign.{LeavesDisk}
use Rattle.jrn_log.specs.Images.{HasOldOrNew}
use Rattle.jrn_log.specs.JournalLogs.{HasGateAfter}
use Rattle.jrn_log.specs.JournalTurns.{gate_write}
use Rattle.jrn_log.specs.Slots.{AreSlots, HasGate, IsTruncatedSlot, IsFileTooLong}
use Rattle.jrn_log.proofs.ImageLemmas.{Rest, has_body, after_body, after_gate, body_leaves, body_sync_rest, gate_leaves, gate_sync_rest}
use Rattle.jrn_log.proofs.SlotLemmas.{end_closed, one_byte_slots, one_slots, push_length, slot_gate}
use Rattle.gw_rules.specs.KeptLaws.{RecordRules, AreInSequence, slots_needed, RanWith, HadMoreSlots}

-- ---- whose journal it is

-- The rules of the records, and whether the journal is this gateway's own from its first turn on. Of one that is handed in, nothing is known of the order of its records nor of the runs before.
pub record Basis : Type 0 where
  pub own : Bool
  pub rules : RecordRules

abbrev pub owned : RecordRules → Basis
owned rules = record { own = true; rules = rules }

abbrev pub handed : RecordRules → Basis
handed rules = record { own = false; rules = rules }

-- the records are in sequence, where the journal is its own
abbrev pub InOrderWhere : Bool → RecordRules → List Record → Type 0
InOrderWhere true rules records = AreInSequence rules [] records
InOrderWhere false rules records = Unit {0}

abbrev pub InOrder : Basis → List Record → Type 0
InOrder basis records = InOrderWhere basis.own basis.rules records

-- a run had more slots than these, where the journal is its own
abbrev pub HadWhere : Bool → ℕ → List Turn → Type 0
HadWhere true slots log = HadMoreSlots slots log
HadWhere false slots log = Unit {0}

abbrev pub Had : Basis → ℕ → List Turn → Type 0
Had basis slots log = HadWhere basis.own slots log

-- ---- records in order

-- so are the first of them
pub in-order-first : (rules : RecordRules) (before records more : List Record) → AreInSequence rules before (records ++ more) → AreInSequence rules before records
in-order-first rules before [] more h = tt
in-order-first rules before (the_record ∷ records) more h = (h.0, h.1, in-order-first rules (before ++ the_record ∷ []) records more h.2)

-- and they with one more
pub in-order-more : (rules : RecordRules) (before records : List Record) (the_record : Record) → AreInSequence rules before records → IsRecord the_record → IsTrue (rules.may_follow (before ++ records) the_record)
    → AreInSequence rules before (records ++ the_record ∷ [])
in-order-more rules before [] the_record h is follows = (is, subst (λ l. IsTrue (rules.may_follow l the_record)) (append-nil before) follows, tt)
in-order-more rules before (first ∷ records) the_record h is follows =
    (h.0, h.1, in-order-more rules (before ++ first ∷ []) records the_record h.2 is (subst (λ l. IsTrue (rules.may_follow l the_record)) (sym (append_assoc before (first ∷ []) records)) follows))

-- the same, of those that are in order
order-first : (basis : Basis) (records more : List Record) → InOrder basis (records ++ more) → InOrder basis records
order-first basis records more h = by_own basis.own h
  where
    by_own : (own : Bool) → InOrderWhere own basis.rules (records ++ more) → InOrderWhere own basis.rules records
    by_own true h = in-order-first basis.rules [] records more h
    by_own false h = tt

pub order-more : (basis : Basis) (records : List Record) (the_record : Record) → InOrder basis records → IsRecord the_record → IsTrue (basis.rules.may_follow records the_record) → InOrder basis (records ++ the_record ∷ [])
order-more basis records the_record h is follows = by_own basis.own h
  where
    by_own : (own : Bool) → InOrderWhere own basis.rules records → InOrderWhere own basis.rules (records ++ the_record ∷ [])
    by_own true h = in-order-more basis.rules [] records the_record h is follows
    by_own false h = tt

pub order-none : (basis : Basis) → InOrder basis []
order-none basis = by_own basis.own
  where
    by_own : (own : Bool) → InOrderWhere own basis.rules []
    by_own true = tt
    by_own false = tt

-- ---- gates

open-gate : (file : List ℕ) (slot : ℕ) → HasGate file slot → has_gate file slot ≡ true
open-gate file slot gate = and_from (nat_lt 1 (length file)) (slice_index file (256 * slot) == 165) (lt-ltb 1 (length file) gate.0) (eq-eqb (slice_index file (256 * slot)) 165 gate.1)

closed-gate : (file : List ℕ) (slot : ℕ) → (HasGate file slot → ⊥) → has_gate file slot ≡ false
closed-gate file slot closed = by_test (has_gate file slot) refl
  where
    by_test : (test : Bool) → has_gate file slot ≡ test → has_gate file slot ≡ false
    by_test false e = e
    by_test true e =
        let p = and_parts (nat_lt 1 (length file)) (slice_index file (256 * slot) == 165) e in
        absurd (closed (ltb-true 1 (length file) p.0, eqb-true (slice_index file (256 * slot)) 165 p.1))

-- ---- the records of a file

-- those of the file as it is
abbrev pub records_by : List Record → Option Record → List Record
records_by kept flight = kept ++ option_to_list flight

-- those that a power failure has left
abbrev pub kept_by : List Record → Option Record → List ℕ → List Record
kept_by kept flight file = if has_gate file (length kept) then kept ++ option_to_list flight else kept

kept-by-open : (kept : List Record) (flight : Option Record) (file : List ℕ) → has_gate file (length kept) ≡ true → kept_by kept flight file ≡ records_by kept flight
kept-by-open kept flight file e = ap (λ (test : Bool). if test then kept ++ option_to_list flight else kept) e

kept-by-closed : (kept : List Record) (flight : Option Record) (file : List ℕ) → has_gate file (length kept) ≡ false → kept_by kept flight file ≡ kept
kept-by-closed kept flight file e = ap (λ (test : Bool). if test then kept ++ option_to_list flight else kept) e

-- where none is in flight
kept-by-none : (kept : List Record) (file : List ℕ) → kept_by kept None file ≡ kept
kept-by-none kept file = by_test (has_gate file (length kept))
  where
    by_test : (test : Bool) → (if test then kept ++ [] else kept) ≡ kept
    by_test true = append-nil kept
    by_test false = refl

-- where one is, there is one more at most
kept-by-count : (kept : List Record) (the_record : Record) (file : List ℕ) → length (kept_by kept (Some the_record) file) ≤ length kept + 1
kept-by-count kept the_record file = by_test (has_gate file (length kept))
  where
    by_test : (test : Bool) → length (if test then kept ++ the_record ∷ [] else kept) ≤ length kept + 1
    by_test true = let n : length (kept ++ the_record ∷ []) ≡ length kept + 1 = push_length kept the_record in omega (arith, n)
    by_test false = omega arith

-- what is so of those of the file, and of those that are kept, is so of those that a power failure has left
pub kept-by-either : (P : List Record → Type 0) (kept : List Record) (flight : Option Record) (file : List ℕ) → P kept → P (records_by kept flight) → P (kept_by kept flight file)
kept-by-either P kept flight file h k = by_test (has_gate file (length kept))
  where
    by_test : (test : Bool) → P (if test then kept ++ option_to_list flight else kept)
    by_test true = k
    by_test false = h

-- and of those that are in order
pub kept-by-order : (basis : Basis) (kept : List Record) (flight : Option Record) (file : List ℕ) → InOrder basis (records_by kept flight) → InOrder basis (kept_by kept flight file)
kept-by-order basis kept flight file h = kept-by-either (λ l. InOrder basis l) kept flight file (order-first basis kept (option_to_list flight) h) h

-- where none is in flight, those of the file are those that are kept
pub by-none : (P : List Record → Type 0) (records : List Record) → P records → P (records_by records None)
by-none P records h = subst P (sym (append-nil records)) h

-- those that a power failure has left begin with those that are kept
pub kept-by-more : (kept : List Record) (flight : Option Record) (file : List ℕ) → (more : List Record) × (kept_by kept flight file ≡ kept ++ more)
kept-by-more kept flight file = kept-by-either (λ l. (more : List Record) × (l ≡ kept ++ more)) kept flight file ([], sym (append-nil kept)) (option_to_list flight, refl)

-- ---- the files

-- what the file, that of the last sync and each image have, by the records that are kept and the one in flight
pub record Files (log : List Turn) (kept : List Record) (flight : Option Record) : Type 0 where
  pub stable : AreSlots (outside_of log).stable (map record_body kept)
  pub file : AreSlots (outside_of log).file (map record_body (records_by kept flight))
  pub images : (image : List ℕ) → Image (outside_of log) image → AreSlots image (map record_body (kept_by kept flight image))
  pub gates : (image : List ℕ) → Image (outside_of log) image → HasGateAfter image (length (kept_by kept flight image))

-- where no record is in flight, what is so of each image is so of the files
files-of-images : (log : List Turn) (kept : List Record) → ((image : List ℕ) → Image (outside_of log) image → AreSlots image (map record_body kept))
    → ((image : List ℕ) → Image (outside_of log) image → HasGateAfter image (length kept)) → Files log kept None
files-of-images log kept slots gates = record {
  stable = slots (outside_of log).stable (stable_image log);
  file = subst (λ l. AreSlots (outside_of log).file (map record_body l)) (sym (append-nil kept)) (slots (outside_of log).file (file_image log));
  images = λ image is. subst (λ l. AreSlots image (map record_body l)) (sym (kept-by-none kept image)) (slots image is);
  gates = λ image is. subst (λ l. HasGateAfter image (length l)) (sym (kept-by-none kept image)) (gates image is);
}

-- where nothing was written since the last sync, an image is the file
clean-image : (o : Outside) (image : List ℕ) → o.file ≡ o.stable → o.written ≡ [] → Image o image → image ≡ o.stable
clean-image o image synced clean is =
    let a = is.no_shorter in let b = is.no_longer in
    let e : length o.file ≡ length o.stable = ap length synced in
    same_number_lists image o.stable (omega arith) (λ i lt. is.kept i (omega arith) (rw clean refl))

pub clean-files : (log : List Turn) (o : Outside) (kept : List Record) → outside_of log ≡ o → o.file ≡ o.stable → o.written ≡ [] → AreSlots o.stable (map record_body kept) → HasGateAfter o.stable (length kept) → Files log kept None
clean-files log o kept e synced clean slots gate = files-of-images log kept (λ image is. subst (λ f. AreSlots f (map record_body kept)) (sym (same image is)) slots) (λ image is. subst (λ f. HasGateAfter f (length kept)) (sym (same image is)) gate)
  where
    same : (image : List ℕ) → Image (outside_of log) image → image ≡ o.stable
    same image is = clean-image o image synced clean (subst (λ (p : Outside). Image p image) e is)

same-count : (file : List ℕ) (one other : List Record) → AreSlots file (map record_body one) → AreSlots file (map record_body other) → length one ≡ length other
same-count file one other a b = sym (length-map one record_body) ∙ ap length (one_slots file (map record_body one) (map record_body other) a b) ∙ length-map other record_body

-- the gate after the records of the file is in it
pub file-gate : (log : List Turn) (kept : List Record) (flight : Option Record) → Files log kept flight → HasGateAfter (outside_of log).file (length (records_by kept flight))
file-gate log kept flight f =
    let file : List ℕ = (outside_of log).file in
    let n : length (kept_by kept flight file) ≡ length (records_by kept flight) = same-count file (kept_by kept flight file) (records_by kept flight) (f.images file (file_image log)) f.file in
    subst (HasGateAfter file) n (f.gates file (file_image log))

-- a sync
pub synced-files : (log : List Turn) (kept : List Record) (flight : Option Record) → Files log kept flight → Files (log ++ Synced ∷ []) (records_by kept flight) None
synced-files log kept flight f = clean-files (log ++ Synced ∷ []) (outside_after (outside_of log) Synced) (records_by kept flight) (outside_of_more log Synced) refl refl f.file (file-gate log kept flight f)

-- a power failure
pub crashed-files : (log : List Turn) (kept : List Record) (flight : Option Record) (image : List ℕ) → Files log kept flight → Image (outside_of log) image → Files (log ++ Crash image ∷ []) (kept_by kept flight image) None
crashed-files log kept flight image f is =
    clean-files (log ++ Crash image ∷ []) (outside_after (outside_of log) (Crash image)) (kept_by kept flight image) (outside_of_more log (Crash image)) refl refl (f.images image is) (f.gates image is)

-- a turn that leaves the disk as it is
image-before : (o p : Outside) (image : List ℕ) → p.file ≡ o.file → p.stable ≡ o.stable → p.written ≡ o.written → Image p image → Image o image
image-before o p image f s w is = record {
  no_shorter = let a = is.no_shorter in omega (arith, ap length s);
  no_longer = let a = is.no_longer in omega (arith, ap length f);
  kept = λ offset lt free. is.kept offset (omega (arith, ap length s)) (ap (λ ranges. is_covered ranges offset) w ∙ free) ∙ ap (λ stable. get_or stable offset 0) s;
}

pub still-file : (log : List Turn) (turn : Turn) → LeavesDisk turn → (outside_of (log ++ turn ∷ [])).file ≡ (outside_of log).file
still-file log turn disk = ap (λ (p : Outside). p.file) (outside_of_more log turn) ∙ (disk (outside_of log)).0

pub still-files : (log : List Turn) (turn : Turn) (kept : List Record) (flight : Option Record) → LeavesDisk turn → Files log kept flight → Files (log ++ turn ∷ []) kept flight
still-files log turn kept flight disk f = record {
  stable = subst (λ s. AreSlots s (map record_body kept)) (sym stable) f.stable;
  file = subst (λ s. AreSlots s (map record_body (records_by kept flight))) (sym file) f.file;
  images = λ image is. f.images image (before image is);
  gates = λ image is. f.gates image (before image is);
}
  where
    file : (outside_of (log ++ turn ∷ [])).file ≡ (outside_of log).file
    file = still-file log turn disk

    stable : (outside_of (log ++ turn ∷ [])).stable ≡ (outside_of log).stable
    stable = ap (λ (p : Outside). p.stable) (outside_of_more log turn) ∙ (disk (outside_of log)).1

    before : (image : List ℕ) → Image (outside_of (log ++ turn ∷ [])) image → Image (outside_of log) image
    before image is = image-before (outside_of log) (outside_of (log ++ turn ∷ [])) image file stable (ap (λ (p : Outside). p.written) (outside_of_more log turn) ∙ (disk (outside_of log)).2) is

-- a file of at most one byte
pub one-byte-files : (log : List Turn) (kept : List Record) → length (outside_of log).file ≤ 1 → map record_body kept ≡ [] → Files log kept None
one-byte-files log kept few none = files-of-images log kept (λ image is. subst (AreSlots image) (sym none) (one_byte_slots image (size image is))) (λ image is some. absurd (let le = size image is in omega (arith, le, some)))
  where
    size : (image : List ℕ) → Image (outside_of log) image → length image ≤ 1
    size image is = let a = is.no_longer in omega (arith, a, few)

-- ---- a record that is written

-- where its gate wasn't written the file has the old slots
old-slots : (image : List ℕ) (bodies : List (List ℕ)) (body : List ℕ) → HasOldOrNew bodies body [] image → AreSlots image bodies
old-slots image bodies body (inl s) = s
old-slots image bodies body (inr w) = absurd (none w.0.0 w.0.1 w.0.2)
  where
    none : (first rest : List Turn) → [] ≡ first ++ gate_write (length bodies) ∷ rest → ⊥
    none [] rest e = cc
    none (turn ∷ first) rest e = cc

-- its body
pub body-files : (log : List Turn) (o : Outside) (kept : List Record) (body : List ℕ) → outside_of log ≡ after_body o (length (map record_body kept)) body → Rest o (map record_body kept) → Files log kept None
body-files log o kept body e r = files-of-images log kept slots gates
  where
    slots : (image : List ℕ) → Image (outside_of log) image → AreSlots image (map record_body kept)
    slots image is = old-slots image (map record_body kept) body (body_leaves o (map record_body kept) body [] r image (subst (λ (p : Outside). Image p image) e is))

    gates : (image : List ℕ) → Image (outside_of log) image → HasGateAfter image (length kept)
    gates image is some =
        let left : Image (after_body o (length (map record_body kept)) body) image = subst (λ (p : Outside). Image p image) e is in
        let longer : length o.stable ≤ length image = left.no_shorter in
        let n : length (map record_body kept) ≡ length kept = length-map kept record_body in
        let gate : 256 * length (map record_body kept) < length o.stable = r.gate in
        omega (arith, longer, n, gate)

-- its gate
pub gate-files : (log : List Turn) (o : Outside) (kept : List Record) (the_record : Record) → outside_of log ≡ after_gate o (length (map record_body kept)) (record_body the_record) → Rest o (map record_body kept)
    → length (record_body the_record) ≡ 255 → Files log kept (Some the_record)
gate-files log o kept the_record e r size = record {
  stable = subst (λ (p : Outside). AreSlots p.stable (map record_body kept)) (sym e) (body_sync_rest o (map record_body kept) (record_body the_record) r size).slots;
  file = subst (λ (p : Outside). AreSlots p.file (map record_body (kept ++ the_record ∷ []))) (sym e) (with_new (after_gate o (length (map record_body kept)) (record_body the_record)).file (gate_sync_rest o (map record_body kept) (record_body the_record) r size).slots);
  images = λ image is.
      by_gate image (gate_leaves o (map record_body kept) (record_body the_record) (gate_write (length (map record_body kept)) ∷ []) r size ([], [], refl) image (subst (λ (p : Outside). Image p image) e is));
  gates = gates;
}
  where
    with_new : (file : List ℕ) → AreSlots file (map record_body kept ++ record_body the_record ∷ []) → AreSlots file (map record_body (kept ++ the_record ∷ []))
    with_new file s = subst (AreSlots file) (sym (map-append record_body kept (the_record ∷ []))) s

    count : length (map record_body kept) ≡ length kept
    count = length-map kept record_body

    by_gate : (image : List ℕ) → HasOldOrNew (map record_body kept) (record_body the_record) (gate_write (length (map record_body kept)) ∷ []) image → AreSlots image (map record_body (kept_by kept (Some the_record) image))
    by_gate image (inl s) =
        let closed : HasGate image (length kept) → ⊥ = λ gate. end_closed image (map record_body kept) s (subst (HasGate image) (sym count) gate) in
        subst (λ l. AreSlots image (map record_body l)) (sym (kept-by-closed kept (Some the_record) image (closed-gate image (length kept) closed))) s
    by_gate image (inr w) =
        let bodies : List (List ℕ) = map record_body kept ++ record_body the_record ∷ [] in
        let n : length bodies ≡ length (map record_body kept) + 1 = push_length (map record_body kept) (record_body the_record) in
        let gate : HasGate image (length (map record_body kept)) = slot_gate image bodies w.1 (length (map record_body kept)) (omega (arith, n)) in
        subst (λ l. AreSlots image (map record_body l)) (sym (kept-by-open kept (Some the_record) image (open-gate image (length kept) (subst (HasGate image) count gate)))) (with_new image w.1)

    gates : (image : List ℕ) → Image (outside_of log) image → HasGateAfter image (length (kept_by kept (Some the_record) image))
    gates image is some =
        let slot : ℕ = length (map record_body kept) in
        let left : Image (after_gate o slot (record_body the_record)) image = subst (λ (p : Outside). Image p image) e is in
        let longer : length (overwrite o.file (256 * slot + 1) (record_body the_record ++ 0 ∷ [])) ≤ length image = left.no_shorter in
        let room : 256 * slot + 256 < length (overwrite o.file (256 * slot + 1) (record_body the_record ++ 0 ∷ [])) = (has_body o.file (256 * slot) (record_body the_record) size).room in
        let few : length (kept_by kept (Some the_record) image) ≤ length kept + 1 = kept-by-count kept the_record image in
        let n : slot ≡ length kept = count in
        omega (arith, longer, room, few, n)

-- ---- how long the file is

-- a setup with which a run began is one of the longer log too
pub ran-later : (log more : List Turn) (setup : Setup) → RanWith setup log → RanWith setup (log ++ more)
ran-later log more setup r = record { before = r.before; rest = r.rest ++ more; log_is = ap (λ l. l ++ more) r.log_is ∙ append_assoc r.before (Start setup ∷ r.rest) more }

pub more-later : (basis : Basis) (log more : List Turn) (slots : ℕ) → Had basis slots log → Had basis slots (log ++ more)
more-later basis log more slots h = by_own basis.own h
  where
    by_own : (own : Bool) → HadWhere own slots log → HadWhere own slots (log ++ more)
    by_own true h = record { setup = h.setup; ran = ran-later log more h.setup h.ran; more = h.more }
    by_own false h = tt

pub fewer-slots : (basis : Basis) (log : List Turn) (slots fewer : ℕ) → fewer ≤ slots → Had basis slots log → Had basis fewer log
fewer-slots basis log slots fewer le h = by_own basis.own h
  where
    by_own : (own : Bool) → HadWhere own slots log → HadWhere own fewer log
    by_own true h = record { setup = h.setup; ran = h.ran; more = let m = h.more in omega (arith, le, m) }
    by_own false h = tt

-- the file is too long for so many slots only where a run had more
abbrev pub LongFile : Basis → List Turn → Type 0
LongFile basis log = (slots : ℕ) → IsFileTooLong slots (outside_of log).file → Had basis slots log

-- where the file is no longer than before
pub no-longer-file : (basis : Basis) (log : List Turn) (turn : Turn) → length (outside_of (log ++ turn ∷ [])).file ≤ length (outside_of log).file → LongFile basis log → LongFile basis (log ++ turn ∷ [])
no-longer-file basis log turn le long slots too_long = more-later basis log (turn ∷ []) slots (long slots (omega (arith, le, too_long)))

pub one-byte-file : (basis : Basis) (log : List Turn) → length (outside_of log).file ≤ 1 → LongFile basis log
one-byte-file basis log few slots too_long = absurd (omega (arith, few, too_long))

-- a write makes the file no longer than a bound on the file and on the write's end
pub write-bound : (file : List ℕ) (offset : ℕ) (bytes : List ℕ) (bound : ℕ) → length file ≤ bound → offset + length bytes ≤ bound → length (overwrite file offset bytes) ≤ bound
write-bound file offset bytes bound le reach = simp (length-append, length-take, length-replicate, length-drop) (omega arith)

-- where the write ends within slots that a run had
pub wrote-file : (basis : Basis) (log : List Turn) (offset : ℕ) (bytes : List ℕ) → ((slots : ℕ) → 256 * slots + 1 < offset + length bytes → Had basis slots log) → LongFile basis log → LongFile basis (log ++ Wrote offset bytes ∷ [])
wrote-file basis log offset bytes within long slots too_long =
    more-later basis log (Wrote offset bytes ∷ []) slots (elim (cases_lt (256 * slots + 1) (length (outside_of log).file)) [ inl lt ↦ long slots lt | inr le ↦ elim (cases_lt (256 * slots + 1) (offset + length bytes)) [ inl lt ↦ within slots lt | inr reach ↦ absurd (beyond le reach) ] ])
  where
    size : length (outside_of (log ++ Wrote offset bytes ∷ [])).file ≡ length (overwrite (outside_of log).file offset bytes)
    size = ap (λ (p : Outside). length p.file) (outside_of_more log (Wrote offset bytes))

    beyond : length (outside_of log).file ≤ 256 * slots + 1 → offset + length bytes ≤ 256 * slots + 1 → ⊥
    beyond le reach =
        let bound = write-bound (outside_of log).file offset bytes (256 * slots + 1) le reach in
        let long_file : 256 * slots + 1 < length (outside_of (log ++ Wrote offset bytes ∷ [])).file = too_long in
        omega (arith, bound, long_file, size)

-- ---- how many slots records need

-- these records need more than so many slots only where a run had more
abbrev pub FreeSlots : Basis → List Turn → List Record → Type 0
FreeSlots basis log records = (slots : ℕ) → slots < slots_needed basis.rules records → Had basis slots log

pub free-later : (basis : Basis) (log more : List Turn) (records : List Record) → FreeSlots basis log records → FreeSlots basis (log ++ more) records
free-later basis log more records free slots needs = more-later basis log more slots (free slots needs)

-- no record needs a slot
pub free-none : (basis : Basis) (log : List Turn) → FreeSlots basis log []
free-none basis log slots needs = absurd (let none = basis.rules.none_open in let few : slots < 0 + basis.rules.open_keys [] = needs in omega (arith, none, few))

-- ---- no truncated slot

-- where the gate after its slots is in a file, none of them is truncated
pub none-truncated : (file : List ℕ) (bodies : List (List ℕ)) → AreSlots file bodies → HasGateAfter file (length bodies) → (slot : ℕ) → IsTruncatedSlot file slot → ⊥
none-truncated file bodies s after slot truncated =
    let lt : slot < length bodies = (s.exactly slot).0 truncated.opened in
    let some = (truncated.opened slot (omega arith)).0 in
    let gate = after some in
    let ends = truncated.ends in
    omega arith
