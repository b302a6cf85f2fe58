-- The opening of a run's records, by the file: a file has one list of records or one first bad slot, and each result says just what the file is.
use Rattle.std.proofs.Common.{◌≡◌, ◌∙◌, ℕ, zero, suc, ◌+◌, ◌*◌, ◌<◌, ◌≤◌, List, [], ◌∷◌, ◌++◌, length, map, take, slice_get, Some, IsTrue, refl, sym, ap, subst, arith, inl, inr}
use Rattle.std.specs.Prelude.{Result, Ok, Err, IfOk, All, min}
use Rattle.std.proofs.lemmas.Bool.{cases_lt}
use Rattle.std.proofs.lemmas.List.{append-nil, append_assoc, length-map, map-append, length-take}
use Rattle.jrn_record.specs.Grammar.{record_body}
use Rattle.jrn_record.specs.Limits.{IsRecord}
use Rattle.jrn_record.specs.declared.records.Record.{Record}
use Rattle.jrn_record.proofs.LawLemmas.{body_of-injective}
use Rattle.gw_site.specs.Observed.{Observed}
use Rattle.jrn_log.specs.Journal.{JournalValue, StandsFor}
use Rattle.jrn_log.specs.Opening.{IsExactlyTooLong, IsExactlyTruncated, OpensWith}
use Rattle.jrn_log.specs.Slots.{IsFileTooLong, IsTruncatedSlot}
use Rattle.jrn_log.specs.declared.fault.OpenFault.{OpenFault}
use Rattle.jrn_log.specs.declared.fault.OpenFault.TheVariants.{Disk as JournalDisk, TooLong as JournalTooLong, Cut as JournalCut, Memory as JournalMemory}
use Rattle.jrn_log.proofs.SlotLemmas.{one_slots, past_closed}
use Rattle.gw_ledger.specs.Fold.{AreBodiesOf, FitBy, IsFirstBad, fits}
use Rattle.gw_ledger.specs.Sums.{open_count_of}
use Rattle.gw_dispatch.specs.RecordsOpening.{HasRecords, HasWholeSlots, HoldsFile, IsBadSlot, IsCauseOf, IsExactlyBad, IsExactlyCut, IsExactlyRefused, IsFileRefused, IsFileTooFull, IsTooFull, LedgerGives, cause_of}
use Rattle.gw_dispatch.specs.declared.records.Records.{Records}
use Rattle.gw_dispatch.specs.declared.records.Unopened.{Unopened}
use Rattle.gw_dispatch.specs.declared.records.Unopened.TheVariants.{Disk, TooLong, Cut, BadRecord, Memory}

-- ---- bodies have one list of records

all-head : (first : Record) (records : List Record) → All IsRecord (first ∷ records) → IsRecord first
all-head first records all = all 0 first (omega arith)

all-tail : (first : Record) (records : List Record) → All IsRecord (first ∷ records) → All IsRecord records
all-tail first records all = λ k d lt. all (suc k) d (omega arith)

all-more : (first : Record) (records : List Record) → IsRecord first → All IsRecord records → All IsRecord (first ∷ records)
all-more first records here all zero d lt = here
all-more first records here all (suc k) d lt = all k d (omega arith)

pub one_records : (records others : List Record) → All IsRecord records → All IsRecord others → map record_body records ≡ map record_body others → records ≡ others
one_records [] [] h k e = refl
one_records [] (other ∷ others) h k e = absurd (let n : [] ≡ record_body other ∷ map record_body others = e in cc)
one_records (first ∷ records) [] h k e = absurd (let n : record_body first ∷ map record_body records ≡ [] = e in cc)
one_records (first ∷ records) (other ∷ others) h k e =
    let here : record_body first ≡ record_body other = cc in
    let rest : map record_body records ≡ map record_body others = cc in
    ap (λ r. r ∷ records) (body_of-injective first other (all-head first records h) (all-head other others k) here)
    ∙ ap (λ l. other ∷ l) (one_records records others (all-tail first records h) (all-tail other others k) rest)

pub one_bodies : (bodies : List (List ℕ)) (records others : List Record) → AreBodiesOf bodies records → AreBodiesOf bodies others → records ≡ others
one_bodies bodies records others h k = one_records records others h.folded.within k.folded.within (sym h.bodies_are ∙ k.bodies_are)

-- and a file has one
pub one_file_records : (file : List ℕ) (records others : List Record) → HasRecords file records → HasRecords file others → records ≡ others
one_file_records file records others h k = one_bodies h.bodies records others h.records_are (subst (λ bodies. AreBodiesOf bodies others) (one_slots file k.bodies h.bodies k.slots_are h.slots_are) k.records_are)

-- ---- the first bad slot

-- a list at one of its indices
record SplitAt {A : Type 0} (xs : List A) (index : ℕ) : Type 0 where
  first : List A
  here : A
  rest : List A
  list_is : xs ≡ first ++ here ∷ rest
  index_is : length first ≡ index

split-at : {A : Type 0} (xs : List A) (index : ℕ) → index < length xs → SplitAt xs index
split-at [] index inside = absurd (omega arith)
split-at (x ∷ xs) zero inside = record { first = []; here = x; rest = xs; list_is = refl; index_is = refl }
split-at (x ∷ xs) (suc index) inside =
    let s = split-at xs index (omega arith) in
    record { first = x ∷ s.first; here = s.here; rest = s.rest; list_is = ap (λ l. x ∷ l) s.list_is; index_is = ap suc s.index_is }

get-seam : {A : Type 0} (first : List A) (here : A) (rest : List A) → slice_get (first ++ here ∷ rest) (length first) ≡ Some here
get-seam [] here rest = refl
get-seam (x ∷ first) here rest = get-seam first here rest

take-seam : {A : Type 0} (first rest : List A) → take (length first) (first ++ rest) ≡ first
take-seam [] rest = refl
take-seam (x ∷ first) rest = ap (λ l. x ∷ l) (take-seam first rest)

fit-seam : (before first : List Record) (here : Record) (rest : List Record) → FitBy fits before (first ++ here ∷ rest) → IsTrue (fits (before ++ first) here)
fit-seam before [] here rest fit = subst (λ l. IsTrue (fits l here)) (sym (append-nil before)) fit.0
fit-seam before (x ∷ first) here rest fit = subst (λ l. IsTrue (fits l here)) (append_assoc before (x ∷ []) first) (fit-seam (before ++ x ∷ []) first here rest fit.1)

all-first : (first : List Record) (here : Record) (rest : List Record) → All IsRecord (first ++ here ∷ rest) → All IsRecord first × IsRecord here
all-first [] here rest all = (λ k d lt. absurd (omega arith), all-head here rest all)
all-first (x ∷ first) here rest all =
    let a = all-first first here rest (all-tail x (first ++ here ∷ rest) all) in
    (all-more x first (all-head x (first ++ here ∷ rest) all) a.0, a.1)

-- bodies of records that are folded have no bad slot
pub none_bad : (bodies : List (List ℕ)) (records : List Record) (slot : ℕ) → AreBodiesOf bodies records → IsFirstBad bodies slot → ⊥
none_bad bodies records slot h bad =
    let n : length records ≡ length bodies = sym (length-map records record_body) ∙ ap length (sym h.bodies_are) in
    let s = split-at records slot (omega (arith, n, bad.inside)) in
    let within = all-first s.first s.here s.rest (subst (All IsRecord) s.list_is h.folded.within) in
    let bodies_are : bodies ≡ map record_body s.first ++ record_body s.here ∷ map record_body s.rest = h.bodies_are ∙ ap (map record_body) s.list_is ∙ map-append record_body s.first (s.here ∷ s.rest) in
    let long : length (map record_body s.first) ≡ slot = length-map s.first record_body ∙ s.index_is in
    let taken : take slot bodies ≡ map record_body s.first =
    ap (take slot) bodies_are ∙ ap (λ k. take k (map record_body s.first ++ record_body s.here ∷ map record_body s.rest)) (sym long) ∙ take-seam (map record_body s.first) (record_body s.here ∷ map record_body s.rest) in
    let first_is : bad.records ≡ s.first = one_records bad.records s.first bad.before.folded.within within.0 (sym bad.before.bodies_are ∙ taken) in
    bad.none_fits s.here within.1
    (ap (λ l. slice_get l slot) bodies_are ∙ ap (λ k. slice_get (map record_body s.first ++ record_body s.here ∷ map record_body s.rest) k) (sym long) ∙ get-seam (map record_body s.first) (record_body s.here) (map record_body s.rest))
    (subst (λ l. IsTrue (fits l s.here)) (sym first_is) (fit-seam [] s.first s.here s.rest (subst (FitBy fits []) s.list_is h.folded.fit)))

take-less : {A : Type 0} (xs : List A) (few more : ℕ) → few < more → take few (take more xs) ≡ take few xs
take-less xs zero more lt = refl
take-less [] (suc few) zero lt = refl
take-less [] (suc few) (suc more) lt = refl
take-less (x ∷ xs) (suc few) zero lt = absurd (omega arith)
take-less (x ∷ xs) (suc few) (suc more) lt = ap (λ l. x ∷ l) (take-less xs few more (omega arith))

get-less : {A : Type 0} (xs : List A) (at more : ℕ) → at < more → slice_get (take more xs) at ≡ slice_get xs at
get-less xs at zero lt = absurd (omega arith)
get-less [] at (suc more) lt = refl
get-less (x ∷ xs) zero (suc more) lt = refl
get-less (x ∷ xs) (suc at) (suc more) lt = get-less xs at more (omega arith)

-- a slot before another that is the first bad one isn't
no-earlier : (bodies : List (List ℕ)) (slot later : ℕ) → slot < later → IsFirstBad bodies slot → IsFirstBad bodies later → ⊥
no-earlier bodies slot later lt a b = none_bad (take later bodies) b.records slot b.before (record {
  records = a.records;
  before = subst (λ l. AreBodiesOf l a.records) (sym (take-less bodies slot later lt)) a.before;
  inside = let n : length (take later bodies) ≡ min later (length bodies) = length-take later bodies in omega (arith, n, lt, b.inside);
  none_fits = λ the_record is found fit. a.none_fits the_record is (sym (get-less bodies slot later lt) ∙ found) fit;
})

pub one_bad : (bodies : List (List ℕ)) (slot other : ℕ) → IsFirstBad bodies slot → IsFirstBad bodies other → slot ≡ other
one_bad bodies slot other a b = elim (cases_lt slot other) [
  | inl lt ↦ absurd (no-earlier bodies slot other lt a b)
  | inr ge ↦ elim (cases_lt other slot) [
    | inl lt ↦ absurd (no-earlier bodies other slot lt b a)
    | inr le ↦ omega (arith, ge, le)
  ]
]

-- ---- truncated slots

truncated-offset : (file : List ℕ) (slot : ℕ) → IsTruncatedSlot file slot → 256 * slot < length file
truncated-offset file slot truncated = elim (cases_lt (256 * slot) (length file)) [ inl lt ↦ lt | inr le ↦ absurd (past_closed file slot le (truncated.opened slot (omega arith))) ]

pub one_cut : (file : List ℕ) (slot other : ℕ) → IsTruncatedSlot file slot → IsTruncatedSlot file other → slot ≡ other
one_cut file slot other a b = omega (arith, a.ends, b.ends, truncated-offset file slot a, truncated-offset file other b)

-- ---- what each result says of the file

-- what is opened is that of the file, which has room for what its records leave open
pub record HoldsRefusedNot (slots : ℕ) (file : List ℕ) (records : Records) : Type 0 where
  pub fits : IsFileTooLong slots file → ⊥
  pub holds : HoldsFile slots file records
  pub free : length records.ledger.records + open_count_of records.ledger.records ≤ slots

-- the cause, by the file
abbrev pub IsFileCause : ℕ → List ℕ → Unopened → Type 0
IsFileCause slots file Disk = Unit {0}
IsFileCause slots file (TooLong count) = (count ≡ length file) × IsFileRefused slots file
IsFileCause slots file (Cut slot) = (IsFileTooLong slots file → ⊥) × IsTruncatedSlot file slot
IsFileCause slots file (BadRecord slot) = (IsFileTooLong slots file → ⊥) × IsBadSlot file slot
IsFileCause slots file Memory = Unit {0}

-- the result, by the file
abbrev pub IsByFile : ℕ → List ℕ → Result Records Unopened → Type 0
IsByFile slots file (Ok records) = HoldsRefusedNot slots file records
IsByFile slots file (Err cause) = IsFileCause slots file cause

-- of a file without too many bytes, and with whole slots, nothing else is true
full-not : (slots : ℕ) (file : List ℕ) (records : List Record) → HasRecords file records → length records + open_count_of records ≤ slots → IsFileTooFull slots file → ⊥
full-not slots file records h free full =
    let same : records ≡ full.records = one_file_records file records full.records h full.has in
    let lt : slots < length records + open_count_of records = subst (λ l. slots < length l + open_count_of l) (sym same) full.full in
    omega (arith, lt, free)

-- a file with records has no bad slot
pub bad-not : (file : List ℕ) (records : List Record) (slot : ℕ) → HasRecords file records → IsBadSlot file slot → ⊥
bad-not file records slot h bad = none_bad h.bodies records slot h.records_are (subst (λ bodies. IsFirstBad bodies slot) (one_slots file bad.bodies h.bodies bad.slots_are h.slots_are) bad.first)

refused-ok : (slots : ℕ) (file : List ℕ) (records : Records) → HoldsRefusedNot slots file records → IsFileRefused slots file → ⊥
refused-ok slots file records h (inl long) = h.fits long
refused-ok slots file records h (inr full) = full-not slots file records.ledger.records h.holds.has h.free full

refused-cut : (slots : ℕ) (file : List ℕ) (slot : ℕ) → (IsFileTooLong slots file → ⊥) → IsTruncatedSlot file slot → IsFileRefused slots file → ⊥
refused-cut slots file slot fits cut (inl long) = fits long
refused-cut slots file slot fits cut (inr full) = full.has.whole slot cut

refused-bad : (slots : ℕ) (file : List ℕ) (slot : ℕ) → (IsFileTooLong slots file → ⊥) → IsBadSlot file slot → IsFileRefused slots file → ⊥
refused-bad slots file slot fits bad (inl long) = fits long
refused-bad slots file slot fits bad (inr full) = bad-not file full.records slot full.has bad

pub exactly_refused : (slots : ℕ) (file : List ℕ) (result : Result Records Unopened) → IsByFile slots file result → IsExactlyRefused slots file result
exactly_refused slots file (Ok records) h says count = (λ e. absurd (cc), λ r. absurd (refused-ok slots file records h r.1))
exactly_refused slots file (Err Disk) h says count = absurd (says tt)
exactly_refused slots file (Err (TooLong size)) h says count = (λ e. (let same : size ≡ count = cc in sym same ∙ h.0, h.1), λ r. ap (λ k. Err (TooLong k)) (h.0 ∙ sym r.0))
exactly_refused slots file (Err (Cut slot)) h says count = (λ e. absurd (cc), λ r. absurd (refused-cut slots file slot h.0 h.1 r.1))
exactly_refused slots file (Err (BadRecord slot)) h says count = (λ e. absurd (cc), λ r. absurd (refused-bad slots file slot h.0 h.1 r.1))
exactly_refused slots file (Err Memory) h says count = absurd (says tt)

pub exactly_cut : (slots : ℕ) (file : List ℕ) (result : Result Records Unopened) → IsByFile slots file result → IsExactlyCut slots file result
exactly_cut slots file (Ok records) h says slot = (λ e. absurd (cc), λ r. absurd (h.holds.has.whole slot r.1))
exactly_cut slots file (Err Disk) h says slot = absurd (says tt)
exactly_cut slots file (Err (TooLong size)) h says slot = (λ e. absurd (cc), λ r. absurd (refused-cut slots file slot r.0 r.1 h.1))
exactly_cut slots file (Err (Cut other)) h says slot = (λ e. (h.0, let same : other ≡ slot = cc in subst (IsTruncatedSlot file) same h.1), λ r. ap (λ k. Err (Cut k)) (one_cut file other slot h.1 r.1))
exactly_cut slots file (Err (BadRecord other)) h says slot = (λ e. absurd (cc), λ r. absurd (h.1.whole slot r.1))
exactly_cut slots file (Err Memory) h says slot = absurd (says tt)

one-bad-slot : (file : List ℕ) (slot other : ℕ) → IsBadSlot file slot → IsBadSlot file other → slot ≡ other
one-bad-slot file slot other a b = one_bad a.bodies slot other a.first (subst (λ bodies. IsFirstBad bodies other) (one_slots file b.bodies a.bodies b.slots_are a.slots_are) b.first)

pub exactly_bad : (slots : ℕ) (file : List ℕ) (result : Result Records Unopened) → IsByFile slots file result → IsExactlyBad slots file result
exactly_bad slots file (Ok records) h says slot = (λ e. absurd (cc), λ r. absurd (bad-not file records.ledger.records slot h.holds.has r.1))
exactly_bad slots file (Err Disk) h says slot = absurd (says tt)
exactly_bad slots file (Err (TooLong size)) h says slot = (λ e. absurd (cc), λ r. absurd (refused-bad slots file slot r.0 r.1 h.1))
exactly_bad slots file (Err (Cut other)) h says slot = (λ e. absurd (cc), λ r. absurd (r.1.whole other h.1))
exactly_bad slots file (Err (BadRecord other)) h says slot = (λ e. (h.0, let same : other ≡ slot = cc in subst (IsBadSlot file) same h.1), λ r. ap (λ k. Err (BadRecord k)) (one-bad-slot file other slot h.1 r.1))
exactly_bad slots file (Err Memory) h says slot = absurd (says tt)

-- ---- the result, by those of the journal and the ledger

ok-not-err : {T E : Type 0} (given : T) (fault : E) → Ok given ≡ Err fault → ⊥
ok-not-err given fault e = cc

-- the journal was not opened
pub by_journal : {T : Type 0} (slots : ℕ) (file : List ℕ) (fault : OpenFault) → IsExactlyTooLong {T = T} slots file (Err fault) → IsExactlyTruncated {T = T} slots file (Err fault) → IsByFile slots file (Err (cause_of fault))
by_journal slots file JournalDisk long cut = tt
by_journal slots file (JournalTooLong count) long cut = let h = (long (λ e. e) count).0 refl in (h.0, inl h.1)
by_journal slots file (JournalCut slot) long cut = (cut (λ e. e) slot).0 refl
by_journal slots file JournalMemory long cut = tt

-- it was opened with these bodies, and its ledger gives this
pub by_ledger : (slots : ℕ) (file : List ℕ) (journal : JournalValue) (bodies : List (List ℕ)) (result : Result Records Unopened) → OpensWith slots file (journal, bodies)
    → IsExactlyTooLong {T = JournalValue × List (List ℕ)} slots file (Ok (journal, bodies)) → IsExactlyTruncated {T = JournalValue × List (List ℕ)} slots file (Ok (journal, bodies)) → LedgerGives journal bodies result → IsByFile slots file result
by_ledger slots file journal bodies result opens long cut gives = by_result result gives
  where
    fit : IsFileTooLong slots file → ⊥
    fit too_long = ok-not-err (journal, bodies) (JournalTooLong (length file)) ((long tt (length file)).1 (refl, too_long))

    whole : HasWholeSlots file
    whole slot truncated = ok-not-err (journal, bodies) (JournalCut slot) ((cut tt slot).1 (fit, truncated))

    has : (records : List Record) → AreBodiesOf bodies records → HasRecords file records
    has records are = record { whole = whole; bodies = bodies; slots_are = opens.0; records_are = are }

    slots_is : journal.slots ≡ slots
    slots_is = ap (λ (j : JournalValue). j.slots) opens.1

    count_is : (records : List Record) → AreBodiesOf bodies records → length bodies ≡ length records
    count_is records are = ap length are.bodies_are ∙ length-map records record_body

    by_cause : (cause : Unopened) → IsCauseOf journal bodies cause → IsFileCause slots file cause
    by_cause Disk h = absurd h
    by_cause (TooLong count) h = (
      h.0 ∙ ap (λ (j : JournalValue). j.opened) opens.1,
      inr (record { records = h.1.0; has = has h.1.0 h.1.1; full = subst (λ k. IsTooFull k h.1.0) slots_is h.1.2 }),
    )
    by_cause (Cut slot) h = absurd h
    by_cause (BadRecord slot) h = (fit, record { whole = whole; bodies = bodies; slots_are = opens.0; first = h })
    by_cause Memory h = tt

    by_result : (result : Result Records Unopened) → LedgerGives journal bodies result → IsByFile slots file result
    by_result (Ok records) h = record {
      fits = fit;
      holds = record {
        has = has records.ledger.records h.records_are;
        journal_is = h.journal_is ∙ opens.1 ∙ ap (λ k. record { len = k; slots = slots; opened = length file }) (count_is records.ledger.records h.records_are);
      };
      free = subst (λ k. length records.ledger.records + open_count_of records.ledger.records ≤ k) slots_is h.free;
    }
    by_result (Err cause) h = by_cause cause h

pub state : (slots : ℕ) (file : List ℕ) (result : Result Records Unopened) → IsByFile slots file result → IfOk result (HoldsFile slots file)
state slots file (Ok records) h = h.holds
state slots file (Err cause) h = tt

-- the journal of what is opened is the one that was
pub stands_too : (journal : JournalValue) (observed : Observed) (bodies : List (List ℕ)) (result : Result Records Unopened) → LedgerGives journal bodies result → StandsFor journal observed → IfOk result (λ records. StandsFor records.journal observed)
stands_too journal observed bodies (Ok records) h stands = subst (λ j. StandsFor j observed) (sym h.journal_is) stands
stands_too journal observed bodies (Err cause) h stands = tt
