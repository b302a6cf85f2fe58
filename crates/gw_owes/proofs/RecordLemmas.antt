-- What one more record says of a terminal, and leaves of the others.
use Rattle.std.proofs.Common.{◌≡◌, ◌≢◌, ◌∙◌, ℕ, zero, suc, ◌<◌, ◌≤◌, eqb, leb, max, Bool, true, false, ◌&&◌, not, List, [], ◌∷◌, ◌++◌, length, Option, Some, None, is_some, IsTrue, slice_get, refl, sym, ap, subst, arith, append_assoc}
use Rattle.std.specs.Prelude.{if◌then◌else◌, option_and_then, option_map, pos}
use Rattle.std.specs.Ordering.{is_eq, nat_cmp}
use Rattle.std.specs.Cmp.Lexicographic.{slice_cmp}
use Rattle.std.specs.declared.cmp.Ordering.{Ordering}
use Rattle.std.specs.declared.cmp.Ordering.TheVariants.{Less, Equal, Greater}
use Rattle.std.proofs.lemmas.Bool.{and_parts, eqb-true, eqb-false, leb-true}
use Rattle.std.proofs.lemmas.Bool.Decides.{nat_tests}
use Rattle.std.proofs.lemmas.Cmp.{tied_itself, nat_list_cmp_total}
use Rattle.std.proofs.lemmas.List.{append-nil}
use Rattle.std.proofs.lemmas.List.Elements.{All-push}
use Rattle.std.proofs.lemmas.Map.Lookups.{exact_bytes}
use Rattle.std.proofs.lemmas.Option.{same_Some}
use Rattle.gw_base.specs.declared.currency.Currency.TheVariants.{Eur}
use Rattle.gw_base.specs.declared.key.Key.{Key}
use Rattle.gw_base.specs.Key.{key_cmp}
use Rattle.gw_base.proofs.KeyLemmas.{key_cmp-ties}
use Rattle.jrn_record.specs.Limits.{IsRecord}
use Rattle.jrn_record.specs.declared.records.How.TheVariants as hows
use Rattle.jrn_record.specs.declared.records.Intent.{Intent as TheIntent}
use Rattle.jrn_record.specs.declared.records.Outcome.{Outcome as TheOutcome}
use Rattle.jrn_record.specs.declared.records.Settled.{Settled as TheSettled}
use Rattle.jrn_record.specs.declared.records.Record.{Record}
use Rattle.jrn_record.specs.declared.records.Record.TheVariants.{Intent, Outcome, Settled}
use Rattle.gw_ledger.specs.declared.account.Account.{Account}
use Rattle.gw_ledger.specs.declared.entry.Entry.{Entry as TheEntry}
use Rattle.gw_ledger.specs.Accounts.{account_in, account_of, account_with, is_poi, last_number_of, open_slot, poi_of}
use Rattle.gw_ledger.specs.Fold.{AreFolded, FitBy, fits, fits_beside_key, found_by, found_of, has_fitting_original, is_unknown, open_entry}
use Rattle.gw_ledger.specs.History.{history, same_text}
use Rattle.gw_ledger.specs.Keys.{intent_key, is_key, record_key, same_key, slot_in, slot_of}
use Rattle.gw_ledger.specs.Laws.{NewestIsFirst, OpenSlotIsOpen, CountIsOfOpenSlots, EntriesAreWithin, NamedIsEntry, PaymentFits, ReversalFits, OutcomeFits, SettledFits, count_below, poi_at}
use Rattle.gw_ledger.specs.Slots.{as_intent, ended_at, ended_in, entry_at, entry_with, intent_at, is_open, is_outcome_of}
use Rattle.gw_ledger.specs.Sums.{one_if, open_count_of, open_in, open_with}

-- ---- what is known of the ledger

-- the ledger's laws
pub record LedgerLaws : Type 0 where
  pub newest : NewestIsFirst
  pub open_slots : OpenSlotIsOpen
  pub count : CountIsOfOpenSlots
  pub within : EntriesAreWithin
  pub named : NamedIsEntry
  pub payment : PaymentFits
  pub reversal : ReversalFits
  pub outcome : OutcomeFits
  pub settled : SettledFits

-- ---- texts

equal-ordering : (o : Ordering) → is_eq o ≡ true → o ≡ Equal
equal-ordering Less e = absurd cc
equal-ordering Equal e = refl
equal-ordering Greater e = absurd cc

-- texts that are the same
pub same-text-is : (a b : List ℕ) → same_text a b ≡ true → a ≡ b
same-text-is a b same = exact_bytes a b (equal-ordering (slice_cmp nat_cmp a b) same)

pub same-text-itself : (a : List ℕ) → same_text a a ≡ true
same-text-itself a = ap is_eq (tied_itself nat_list_cmp_total a)

-- texts that aren't
pub apart-texts : (a b : List ℕ) → a ≢ b → same_text a b ≡ false
apart-texts a b apart = by-test (same_text a b) refl
  where
    by-test : (test : Bool) → same_text a b ≡ test → same_text a b ≡ false
    by-test true is = absurd (apart (same-text-is a b is))
    by-test false is = is

-- ---- keys

-- a key that is the same as another
pub same-key-is : (key other : Key) → same_key key other ≡ true → key ≡ other
same-key-is key other same = (key_cmp-ties key other).0 (equal-ordering (key_cmp key other) same)

-- keys that aren't
pub apart-keys : (key other : Key) → key ≢ other → same_key key other ≡ false
apart-keys key other apart = by-test (same_key key other) refl
  where
    by-test : (test : Bool) → same_key key other ≡ test → same_key key other ≡ false
    by-test true is = absurd (apart (same-key-is key other is))
    by-test false is = is

-- whichever comes first
pub apart-keys-turned : (key other : Key) → same_key key other ≡ false → same_key other key ≡ false
apart-keys-turned key other apart =
    apart-keys other key (λ same. let is : same_key key other ≡ true = ap (λ (k : Key). same_key key k) same ∙ ap is_eq ((key_cmp-ties key key).1 refl) in absurd cc)

-- ---- lists

-- the last of a list
pub last-there : {A : Type 0} (all : List A) (last : A) → slice_get (all ++ last ∷ []) (length all) ≡ Some last
last-there [] last = refl
last-there (first ∷ all) last = last-there all last

-- what is there stays with more after it
pub still-there : {A : Type 0} (all more : List A) (at : ℕ) (one : A) → slice_get all at ≡ Some one → slice_get (all ++ more) at ≡ Some one
still-there [] more at one found = absurd cc
still-there (first ∷ all) more zero one found = found
still-there (first ∷ all) more (suc at) one found = still-there all more at one found

-- what is there is within
pub there-within : {A : Type 0} (all : List A) (at : ℕ) (one : A) → slice_get all at ≡ Some one → at < length all
there-within [] at one found = absurd cc
there-within (first ∷ all) zero one found = omega arith
there-within (first ∷ all) (suc at) one found = omega (arith, there-within all at one found)

-- ---- records that are folded

fit-more : (before rest : List Record) (next : Record) → FitBy fits before rest → IsTrue (fits (before ++ rest) next) → FitBy fits before (rest ++ next ∷ [])
fit-more before [] next fit fitting = (subst (λ records. IsTrue (fits records next)) (append-nil before) fitting, tt)
fit-more before (first ∷ rest) next fit fitting =
    (fit.0, fit-more (before ++ first ∷ []) rest next fit.1 (subst (λ records. IsTrue (fits records next)) (sym (append_assoc before (first ∷ []) rest)) fitting))

-- one more record that may come next
pub folded-more : (kept : List Record) (next : Record) → AreFolded kept → IsRecord next → IsTrue (fits kept next) → AreFolded (kept ++ next ∷ [])
folded-more kept next folded within fitting = record {
  within = All-push IsRecord kept next folded.within within;
  fit = fit-more [] kept next folded.fit fitting;
}

-- ---- a slot

pub intent-stays : (kept more : List Record) (slot : ℕ) (intent : TheIntent) → intent_at kept slot ≡ Some intent → intent_at (kept ++ more) slot ≡ Some intent
intent-stays kept more slot intent found = by-record (slice_get kept slot) refl found
  where
    by-record : (one : Option Record) → slice_get kept slot ≡ one → option_and_then as_intent one ≡ Some intent → intent_at (kept ++ more) slot ≡ Some intent
    by-record None is there = absurd cc
    by-record (Some one) is there = ap (option_and_then as_intent) (still-there kept more slot one is) ∙ there

pub intent-within : (kept : List Record) (slot : ℕ) (intent : TheIntent) → intent_at kept slot ≡ Some intent → slot < length kept
intent-within kept slot intent found = by-record (slice_get kept slot) refl found
  where
    by-record : (one : Option Record) → slice_get kept slot ≡ one → option_and_then as_intent one ≡ Some intent → slot < length kept
    by-record None is there = absurd cc
    by-record (Some one) is there = there-within kept slot one is

-- the entry of an Intent without an Outcome
abbrev pub open_entry_of : ℕ → TheIntent → TheEntry
open_entry_of slot intent = record { slot = slot; intent = intent; result = None }

-- the slot is the terminal's open one, and has this Intent
pub record IsOpenWith (kept : List Record) (poi : List ℕ) (slot : ℕ) (intent : TheIntent) : Type 0 where
  pub slot_is : open_slot kept poi ≡ Some slot
  pub intent_is : intent_at kept slot ≡ Some intent
  pub unended : ended_at kept slot ≡ None

-- its entry
pub entry-of-open : (kept : List Record) (poi : List ℕ) (slot : ℕ) (intent : TheIntent) → IsOpenWith kept poi slot intent → open_entry kept poi ≡ Some (open_entry_of slot intent)
entry-of-open kept poi slot intent opened =
    ap (option_and_then (entry_at kept)) opened.slot_is
    ∙ ap (λ (ended : Option ℕ). option_map (entry_with kept slot ended) (intent_at kept slot)) opened.unended
    ∙ ap (option_map (entry_with kept slot None)) opened.intent_is

-- the slot and the Intent of an entry
pub entry-parts : (kept : List Record) (slot : ℕ) (entry : TheEntry) → entry_at kept slot ≡ Some entry → (entry.slot ≡ slot) × (intent_at kept slot ≡ Some entry.intent)
entry-parts kept slot entry found = by-intent (intent_at kept slot) refl found
  where
    by-intent : (asked : Option TheIntent) → intent_at kept slot ≡ asked → option_map (entry_with kept slot (ended_at kept slot)) asked ≡ Some entry → (entry.slot ≡ slot) × (intent_at kept slot ≡ Some entry.intent)
    by-intent None is same = absurd cc
    by-intent (Some intent) is same =
        let one : entry_with kept slot (ended_at kept slot) intent ≡ entry = same_Some (entry_with kept slot (ended_at kept slot) intent) entry same in
        (sym (ap (λ (e : TheEntry). e.slot) one), is ∙ ap (λ (e : TheEntry). Some e.intent) one)

-- the two parts of a slot that is open
pub record IsUnended (kept : List Record) (slot : ℕ) : Type 0 where
  pub intent : TheIntent
  pub intent_is : intent_at kept slot ≡ Some intent
  pub unended : ended_at kept slot ≡ None

pub unended-parts : (kept : List Record) (slot : ℕ) → is_open kept slot ≡ true → IsUnended kept slot
unended-parts kept slot opened = by-parts (intent_at kept slot) (ended_at kept slot) refl refl opened
  where
    by-parts : (asked : Option TheIntent) (ended : Option ℕ) → intent_at kept slot ≡ asked → ended_at kept slot ≡ ended → (is_some asked && not (is_some ended)) ≡ true → IsUnended kept slot
    by-parts None ended is was both = absurd cc
    by-parts (Some intent) None is was both = record { intent = intent; intent_is = is; unended = was }
    by-parts (Some intent) (Some end) is was both = absurd cc

-- a number that passes a test is counted
passes-counted : (test : ℕ → Bool) (n at : ℕ) → at < n → test at ≡ true → 1 ≤ count_below test n
passes-counted test zero at lt passes = absurd (omega arith)
passes-counted test (suc n) at lt passes = by-last (eqb at n) refl (λ below. passes-counted test n at below passes)
  where
    by-last : (b : Bool) → eqb at n ≡ b → (at < n → 1 ≤ count_below test n) → 1 ≤ count_below test (suc n)
    by-last true same before =
        let one : one_if (test n) ≡ 1 = ap (λ (k : ℕ). one_if (test k)) (sym (eqb-true at n same)) ∙ ap one_if passes in
        omega (arith, one)
    by-last false apart before =
        let ne : at ≢ n = eqb-false at n apart in
        let counted : 1 ≤ count_below test n = before (omega (arith, ne)) in
        omega (arith, counted)

module _ (laws : LedgerLaws) (kept : List Record) (folded : AreFolded kept) where
  -- the open slot of a terminal is that of an Intent without an Outcome
  pub open-unended : (poi : List ℕ) (slot : ℕ) → open_slot kept poi ≡ Some slot → IsUnended kept slot
  open-unended poi slot is = unended-parts kept slot ((laws.open_slots kept folded poi slot).0 is).0

  -- the slot of a terminal's open entry
  pub open-parts : (poi : List ℕ) (slot : ℕ) (intent : TheIntent) → open_entry kept poi ≡ Some (open_entry_of slot intent) → IsOpenWith kept poi slot intent
  open-parts poi slot intent entry = by-slot (open_slot kept poi) refl entry
    where
      by-slot : (found : Option ℕ) → open_slot kept poi ≡ found → option_and_then (entry_at kept) found ≡ Some (open_entry_of slot intent) → IsOpenWith kept poi slot intent
      by-slot None is there = absurd cc
      by-slot (Some at) is there =
          let parts = entry-parts kept at (open_entry_of slot intent) there in
          let here : at ≡ slot = sym parts.0 in
          record {
            slot_is = is ∙ ap Some here;
            intent_is = ap (intent_at kept) (sym here) ∙ parts.1;
            unended = ap (ended_at kept) (sym here) ∙ (open-unended poi at is).unended;
          }

  -- without an open entry a terminal has no open slot
  pub none-open : (poi : List ℕ) → open_entry kept poi ≡ None → open_slot kept poi ≡ None
  none-open poi none = by-slot (open_slot kept poi) refl none
    where
      by-slot : (found : Option ℕ) → open_slot kept poi ≡ found → option_and_then (entry_at kept) found ≡ None → open_slot kept poi ≡ None
      by-slot None is lacks = is
      by-slot (Some slot) is lacks =
          let parts = open-unended poi slot is in
          let there : entry_at kept slot ≡ Some (entry_with kept slot (ended_at kept slot) parts.intent) = ap (option_map (entry_with kept slot (ended_at kept slot))) parts.intent_is in
          absurd cc

  -- the terminal of an open slot is that of its Intent
  pub open-poi : (poi : List ℕ) (slot : ℕ) (intent : TheIntent) → IsOpenWith kept poi slot intent → poi ≡ intent.poi
  open-poi poi slot intent opened =
      let mine : is_poi poi (poi_at kept slot) ≡ true = ((laws.open_slots kept folded poi slot).0 opened.slot_is).1 in
      same-text-is poi intent.poi (sym (ap (λ (asked : Option TheIntent). is_poi poi (option_map (λ (i : TheIntent). i.poi) asked)) opened.intent_is) ∙ mine)

  -- the open entry of a terminal has no Outcome
  pub open-without-outcome : (poi : List ℕ) (entry : TheEntry) → open_entry kept poi ≡ Some entry → open_entry kept poi ≡ Some (open_entry_of entry.slot entry.intent)
  open-without-outcome poi entry entry_is = by-slot (open_slot kept poi) refl entry_is
    where
      by-slot : (found : Option ℕ) → open_slot kept poi ≡ found → option_and_then (entry_at kept) found ≡ Some entry → open_entry kept poi ≡ Some (open_entry_of entry.slot entry.intent)
      by-slot None is there = absurd cc
      by-slot (Some at) is there =
          let parts = entry-parts kept at entry there in
          let here : at ≡ entry.slot = sym parts.0 in
          entry-of-open kept poi entry.slot entry.intent (record {
            slot_is = is ∙ ap Some here;
            intent_is = ap (intent_at kept) (sym here) ∙ parts.1;
            unended = ap (ended_at kept) (sym here) ∙ (open-unended poi at is).unended;
          })

  -- one is counted at least
  pub open-counted : (poi : List ℕ) (slot : ℕ) (intent : TheIntent) → IsOpenWith kept poi slot intent → 1 ≤ open_count_of kept
  open-counted poi slot intent opened =
      let here : is_open kept slot ≡ true = ((laws.open_slots kept folded poi slot).0 opened.slot_is).0 in
      let within : slot < length kept = intent-within kept slot intent opened.intent_is in
      subst (λ (n : ℕ). 1 ≤ n) (sym (laws.count kept folded)) (passes-counted (is_open kept) (length kept) slot within here)

  -- the slot is within
  pub open-within : (poi : List ℕ) (slot : ℕ) (intent : TheIntent) → IsOpenWith kept poi slot intent → slot < length kept
  open-within poi slot intent opened = intent-within kept slot intent opened.intent_is

-- ---- a key

-- a Settled that has this key
abbrev settled_with : Key → TheSettled
settled_with key = record { how = hows.Sale; sale = key.sale; poi = key.poi; service = key.service; currency = Eur; moment = pos 0 }

-- a key under which nothing is found is in no slot
pub key-in-none : (laws : LedgerLaws) (kept : List Record) → AreFolded kept → (key : Key) → found_of kept key ≡ None → slot_of kept key ≡ None
key-in-none laws kept folded key unknown =
    let fitting : fits kept (Settled (settled_with key)) ≡ true = laws.settled kept folded (settled_with key) unknown in
    by-slot (slot_of kept key) (and_parts (is_unknown kept key) true fitting).0
  where
    by-slot : (slot : Option ℕ) → not (is_some slot) ≡ true → slot ≡ None
    by-slot None none = refl
    by-slot (Some slot) none = absurd cc

-- nor is anything once one more record is kept that hasn't the key
pub still-unknown : (laws : LedgerLaws) (kept : List Record) (next : Record) → AreFolded kept → (key : Key) → is_key key (record_key next) ≡ false → found_of kept key ≡ None → found_of (kept ++ next ∷ []) key ≡ None
still-unknown laws kept next folded key apart unknown =
    let none : slot_of (kept ++ next ∷ []) key ≡ None =
    ap (slot_in key) (laws.newest kept next) ∙ ap (λ (b : Bool). if b then Some (length kept) else slot_of kept key) apart ∙ key-in-none laws kept folded key unknown in
    ap (option_and_then (λ (slot : ℕ). option_and_then (found_by (kept ++ next ∷ []) slot) (slice_get (kept ++ next ∷ []) slot))) none

-- ---- one more record

module _ (laws : LedgerLaws) (kept : List Record) (next : Record) where
  pub account-more : (poi : List ℕ) → account_of (kept ++ next ∷ []) poi ≡ (if is_poi poi (poi_of kept next) then account_with (length kept) next (account_of kept poi) else account_of kept poi)
  account-more poi = ap (account_in poi) (laws.newest kept next)

  pub own-account : (poi : List ℕ) → is_poi poi (poi_of kept next) ≡ true → account_of (kept ++ next ∷ []) poi ≡ account_with (length kept) next (account_of kept poi)
  own-account poi own = account-more poi ∙ ap (λ (b : Bool). if b then account_with (length kept) next (account_of kept poi) else account_of kept poi) own

  pub other-account : (poi : List ℕ) → is_poi poi (poi_of kept next) ≡ false → account_of (kept ++ next ∷ []) poi ≡ account_of kept poi
  other-account poi apart = account-more poi ∙ ap (λ (b : Bool). if b then account_with (length kept) next (account_of kept poi) else account_of kept poi) apart

  -- another terminal's open slot and last number stay
  pub other-slot : (poi : List ℕ) → is_poi poi (poi_of kept next) ≡ false → open_slot (kept ++ next ∷ []) poi ≡ open_slot kept poi
  other-slot poi apart = ap (λ (a : Account). a.unresolved) (other-account poi apart)

  pub other-number : (poi : List ℕ) → is_poi poi (poi_of kept next) ≡ false → last_number_of (kept ++ next ∷ []) poi ≡ last_number_of kept poi
  other-number poi apart = ap (λ (a : Account). a.trace) (other-account poi apart)

  -- the open slots are one more or one less
  pub count-more : open_count_of (kept ++ next ∷ []) ≡ open_with next (open_count_of kept)
  count-more = ap open_in (laws.newest kept next)

  -- a slot without an Outcome stays so, where this isn't its Outcome
  pub unended-stays : (slot : ℕ) → is_outcome_of slot next ≡ false → ended_at kept slot ≡ None → ended_at (kept ++ next ∷ []) slot ≡ None
  unended-stays slot apart unended =
      ap (ended_in slot) (laws.newest kept next)
      ∙ ap (λ (b : Bool). if eqb (length kept) slot then None else (if b then Some (length kept) else ended_at kept slot)) apart
      ∙ ap (λ (ended : Option ℕ). if eqb (length kept) slot then None else ended) unended
      ∙ by-test (eqb (length kept) slot)
    where
      by-test : (b : Bool) → ◌≡◌ {A = Option ℕ} (if b then None else None) None
      by-test true = refl
      by-test false = refl

  -- another terminal's open slot stays with its Intent
  pub other-open : AreFolded kept → (poi : List ℕ) (slot : ℕ) (intent : TheIntent) → is_poi poi (poi_of kept next) ≡ false → IsOpenWith kept poi slot intent → IsOpenWith (kept ++ next ∷ []) poi slot intent
  other-open folded poi slot intent apart opened = record {
    slot_is = other-slot poi apart ∙ opened.slot_is;
    intent_is = intent-stays kept (next ∷ []) slot intent opened.intent_is;
    unended = unended-stays slot (by-record next apart) opened.unended;
  }
    where
      by-record : (one : Record) → is_poi poi (poi_of kept one) ≡ false → is_outcome_of slot one ≡ false
      by-record (Intent intent) lacks = refl
      by-record (Outcome outcome) lacks = by-slot (eqb outcome.slot slot) refl
        where
          by-slot : (b : Bool) → eqb outcome.slot slot ≡ b → eqb outcome.slot slot ≡ false
          by-slot false is = is
          by-slot true is =
              let here : poi_of kept (Outcome outcome) ≡ Some intent.poi =
              ap (λ (at : ℕ). option_map (λ (i : TheIntent). i.poi) (intent_at kept at)) (eqb-true outcome.slot slot is) ∙ ap (option_map (λ (i : TheIntent). i.poi)) opened.intent_is in
              let mine : is_poi poi (poi_of kept (Outcome outcome)) ≡ true =
              ap (is_poi poi) here ∙ ap (same_text poi) (sym (open-poi laws kept folded poi slot intent opened)) ∙ same-text-itself poi in
              absurd cc
      by-record (Settled settled) lacks = refl

-- one more record leaves a terminal's open slot and its last trace number
pub record LeavesTerminal (kept : List Record) (next : Record) (poi : List ℕ) : Type 0 where
  pub slot_stays : open_slot (kept ++ next ∷ []) poi ≡ open_slot kept poi
  pub number_stays : last_number_of (kept ++ next ∷ []) poi ≡ last_number_of kept poi
  pub open_stays : (slot : ℕ) (intent : TheIntent) → IsOpenWith kept poi slot intent → IsOpenWith (kept ++ next ∷ []) poi slot intent

-- so does one of another terminal
pub other-leaves : (laws : LedgerLaws) (kept : List Record) (next : Record) (poi : List ℕ) → AreFolded kept → is_poi poi (poi_of kept next) ≡ false → LeavesTerminal kept next poi
other-leaves laws kept next poi folded apart = record {
  slot_stays = other-slot laws kept next poi apart;
  number_stays = other-number laws kept next poi apart;
  open_stays = λ slot intent opened. other-open laws kept next folded poi slot intent apart opened;
}

-- a Settled leaves an account with its open slot and its last number
record LeavesAccount (before after : Account) : Type 0 where
  slot_stays : after.unresolved ≡ before.unresolved
  number_stays : after.trace ≡ before.trace

settled-account : (laws : LedgerLaws) (kept : List Record) (settled : TheSettled) (poi : List ℕ) → LeavesAccount (account_of kept poi) (account_of (kept ++ Settled settled ∷ []) poi)
settled-account laws kept settled poi = by-poi (is_poi poi (Some settled.poi)) refl
  where
    by-poi : (b : Bool) → is_poi poi (Some settled.poi) ≡ b → LeavesAccount (account_of kept poi) (account_of (kept ++ Settled settled ∷ []) poi)
    by-poi true own =
        let after = own-account laws kept (Settled settled) poi own in
        record { slot_stays = ap (λ (a : Account). a.unresolved) after; number_stays = ap (λ (a : Account). a.trace) after }
    by-poi false apart =
        let after = other-account laws kept (Settled settled) poi apart in
        record { slot_stays = ap (λ (a : Account). a.unresolved) after; number_stays = ap (λ (a : Account). a.trace) after }

-- and a Settled of any
pub settled-leaves : (laws : LedgerLaws) (kept : List Record) (settled : TheSettled) (poi : List ℕ) → LeavesTerminal kept (Settled settled) poi
settled-leaves laws kept settled poi =
    let left = settled-account laws kept settled poi in
    record {
      slot_stays = left.slot_stays;
      number_stays = left.number_stays;
      open_stays = λ slot intent opened. record {
        slot_is = left.slot_stays ∙ opened.slot_is;
        intent_is = intent-stays kept (Settled settled ∷ []) slot intent opened.intent_is;
        unended = unended-stays laws kept (Settled settled) slot refl opened.unended;
      };
    }

-- the next record is an Intent of the terminal: it is its open entry
pub intent-opens : (laws : LedgerLaws) (kept : List Record) (intent : TheIntent) → IsOpenWith (kept ++ Intent intent ∷ []) intent.poi (length kept) intent
intent-opens laws kept intent = record {
  slot_is = ap (λ (a : Account). a.unresolved) (own-account laws kept (Intent intent) intent.poi (same-text-itself intent.poi));
  intent_is = ap (option_and_then as_intent) (last-there kept (Intent intent));
  unended = ap (ended_in (length kept)) (laws.newest kept (Intent intent)) ∙ by-length (length kept) (ended_at kept (length kept));
}
  where
    by-length : (n : ℕ) (ended : Option ℕ) → (if eqb n n then None else ended) ≡ None
    by-length n ended = let same : eqb n n ≡ true = grind (arith, nat_tests) in rw same refl

pub intent-number : (laws : LedgerLaws) (kept : List Record) (intent : TheIntent) → last_number_of (kept ++ Intent intent ∷ []) intent.poi ≡ max (last_number_of kept intent.poi) intent.before
intent-number laws kept intent = ap (λ (a : Account). a.trace) (own-account laws kept (Intent intent) intent.poi (same-text-itself intent.poi))

-- a slot is that of an Intent, whose number before isn't below the terminal's last one
record IsNotBelow (kept : List Record) (poi : List ℕ) (slot : ℕ) : Type 0 where
  intent : TheIntent
  intent_is : intent_at kept slot ≡ Some intent
  not_below : last_number_of kept poi ≤ intent.before

-- so it is of each terminal's open slot
abbrev AreOpenNotBelow : List Record → Type 0
AreOpenNotBelow kept = (poi : List ℕ) (slot : ℕ) → open_slot kept poi ≡ Some slot → IsNotBelow kept poi slot

no-records-not-below : AreOpenNotBelow []
unfolding history
no-records-not-below poi slot is = absurd cc

not-below-stays : (kept more : List Record) (poi : List ℕ) (slot : ℕ) → last_number_of (kept ++ more) poi ≡ last_number_of kept poi → IsNotBelow kept poi slot → IsNotBelow (kept ++ more) poi slot
not-below-stays kept more poi slot same has = record {
  intent = has.intent;
  intent_is = intent-stays kept more slot has.intent has.intent_is;
  not_below = subst (λ (n : ℕ). n ≤ has.intent.before) (sym same) has.not_below;
}

-- an Intent fits only where its number before isn't below its terminal's last one
fitting-before : (kept : List Record) (intent : TheIntent) → IsTrue (fits kept (Intent intent)) → last_number_of kept intent.poi ≤ intent.before
fitting-before kept intent fitting =
    let beside = and_parts (is_unknown kept (intent_key intent)) (fits_beside_key kept (Intent intent)) fitting in
    let numbered = and_parts (not (is_some (open_slot kept intent.poi)) && leb (last_number_of kept intent.poi) intent.before) (has_fitting_original kept intent intent.what) beside.1 in
    let tested = and_parts (not (is_some (open_slot kept intent.poi))) (leb (last_number_of kept intent.poi) intent.before) numbered.0 in
    leb-true (last_number_of kept intent.poi) intent.before tested.1

module _ (laws : LedgerLaws) where
  own-not-below : (kept : List Record) (next : Record) (poi : List ℕ) (slot : ℕ) → IsTrue (fits kept next) → AreOpenNotBelow kept → is_poi poi (poi_of kept next) ≡ true
      → open_slot (kept ++ next ∷ []) poi ≡ Some slot → IsNotBelow (kept ++ next ∷ []) poi slot
  own-not-below kept (Intent intent) poi slot fitting before own is =
      let account = own-account laws kept (Intent intent) poi own in
      let here : length kept ≡ slot = same_Some (length kept) slot (sym (ap (λ (a : Account). a.unresolved) account) ∙ is) in
      let number : last_number_of (kept ++ Intent intent ∷ []) poi ≡ max (last_number_of kept poi) intent.before = ap (λ (a : Account). a.trace) account in
      let risen : last_number_of kept poi ≤ intent.before = subst (λ (p : List ℕ). last_number_of kept p ≤ intent.before) (sym (same-text-is poi intent.poi own)) (fitting-before kept intent fitting) in
      record {
        intent = intent;
        intent_is = subst (λ (at : ℕ). intent_at (kept ++ Intent intent ∷ []) at ≡ Some intent) here (ap (option_and_then as_intent) (last-there kept (Intent intent)));
        not_below = omega arith;
      }
  own-not-below kept (Outcome outcome) poi slot fitting before own is =
      let closed : open_slot (kept ++ Outcome outcome ∷ []) poi ≡ None = ap (λ (a : Account). a.unresolved) (own-account laws kept (Outcome outcome) poi own) in
      absurd cc
  own-not-below kept (Settled settled) poi slot fitting before own is =
      let account = own-account laws kept (Settled settled) poi own in
      not-below-stays kept (Settled settled ∷ []) poi slot (ap (λ (a : Account). a.trace) account) (before poi slot (sym (ap (λ (a : Account). a.unresolved) account) ∙ is))

  not-below-more : (kept : List Record) (next : Record) → IsTrue (fits kept next) → AreOpenNotBelow kept → AreOpenNotBelow (kept ++ next ∷ [])
  not-below-more kept next fitting before poi slot is = by-poi (is_poi poi (poi_of kept next)) refl
    where
      by-poi : (b : Bool) → is_poi poi (poi_of kept next) ≡ b → IsNotBelow (kept ++ next ∷ []) poi slot
      by-poi true own = own-not-below kept next poi slot fitting before own is
      by-poi false apart = not-below-stays kept (next ∷ []) poi slot (other-number laws kept next poi apart) (before poi slot (sym (other-slot laws kept next poi apart) ∙ is))

  fit-not-below : (before rest : List Record) → FitBy fits before rest → AreOpenNotBelow before → AreOpenNotBelow (before ++ rest)
  fit-not-below before [] fit holds = subst AreOpenNotBelow (sym (append-nil before)) holds
  fit-not-below before (first ∷ rest) fit holds =
      subst AreOpenNotBelow (append_assoc before (first ∷ []) rest) (fit-not-below (before ++ first ∷ []) rest fit.1 (not-below-more before first fit.0 holds))

  -- the number before of a terminal's open entry isn't below its last one
  pub open-not-below : (kept : List Record) → AreFolded kept → (poi : List ℕ) (entry : TheEntry) → open_entry kept poi ≡ Some entry → last_number_of kept poi ≤ entry.intent.before
  open-not-below kept folded poi entry entry_is = by-slot (open_slot kept poi) refl entry_is
    where
      by-slot : (found : Option ℕ) → open_slot kept poi ≡ found → option_and_then (entry_at kept) found ≡ Some entry → last_number_of kept poi ≤ entry.intent.before
      by-slot None is there = absurd cc
      by-slot (Some at) is there =
          let parts = entry-parts kept at entry there in
          let has = fit-not-below [] kept folded.fit no-records-not-below poi at is in
          let same : has.intent ≡ entry.intent = same_Some has.intent entry.intent (sym has.intent_is ∙ parts.1) in
          subst (λ (intent : TheIntent). last_number_of kept poi ≤ intent.before) same has.not_below

-- the next record is the Outcome of the terminal's open entry: it has none any more
module _ (laws : LedgerLaws) (kept : List Record) (folded : AreFolded kept) (poi : List ℕ) (intent : TheIntent) (outcome : TheOutcome) (opened : IsOpenWith kept poi outcome.slot intent) where
  pub outcome-poi : poi_of kept (Outcome outcome) ≡ Some poi
  outcome-poi = ap (option_map (λ (i : TheIntent). i.poi)) opened.intent_is ∙ ap Some (sym (open-poi laws kept folded poi outcome.slot intent opened))

  own : is_poi poi (poi_of kept (Outcome outcome)) ≡ true
  own = ap (is_poi poi) outcome-poi ∙ same-text-itself poi

  pub outcome-closes : open_slot (kept ++ Outcome outcome ∷ []) poi ≡ None
  outcome-closes = ap (λ (a : Account). a.unresolved) (own-account laws kept (Outcome outcome) poi own)

  pub outcome-number : last_number_of (kept ++ Outcome outcome ∷ []) poi ≡ max (last_number_of kept poi) outcome.number
  outcome-number = ap (λ (a : Account). a.trace) (own-account laws kept (Outcome outcome) poi own)
