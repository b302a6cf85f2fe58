-- The entry that a text names at a terminal.
use Rattle.std.proofs.Common.{◌≡◌, ◌∙◌, ℕ, zero, suc, ◌<◌, ◌≤◌, ◌^◌, Bool, true, false, ◌&&◌, List, length, drop, Option, Some, None, is_some, refl, sym, ap, arith, inl, inr, length-drop}
use Rattle.std.specs.Prelude.{if◌then◌else◌, option_map}
use Rattle.std.specs.Fmt.{decimal}
use Rattle.std.proofs.lemmas.Bool.{cases_lt}
use Rattle.std.proofs.lemmas.Fmt.{decimal_injective, decimal_nonempty}
use Rattle.std.proofs.lemmas.Option.{same_Some}
use Rattle.gw_base.specs.Transaction.{transaction_text}
use Rattle.jrn_record.specs.declared.records.Record.{Record}
use Rattle.jrn_record.specs.declared.records.Intent.{Intent as TheIntent}
use Rattle.jrn_record.specs.declared.records.Outcome.{Outcome as TheOutcome}
use Rattle.gw_ledger.specs.declared.entry.Entry.{Entry}
use Rattle.gw_ledger.specs.Slots.{ended_at, entry_at, entry_with, intent_at}
use Rattle.gw_ledger.specs.History.{same_text}
use Rattle.gw_ledger.specs.Transaction.{is_named, is_text, named_below, named_of, text_of}
use Rattle.gw_ledger.proofs.FoldLemmas.{intent_inside}
use Rattle.gw_ledger.proofs.TieLemmas.{same_text-is}

both : (a b : Bool) → (a && b) ≡ true → (a ≡ true) × (b ≡ true)
both true true e = (refl, refl)
both true false e = cc
both false b e = cc

-- an entry has the slot at which it is
entry_slot : (records : List Record) (slot : ℕ) (entry : Entry) → entry_at records slot ≡ Some entry → entry.slot ≡ slot
entry_slot records slot entry found = by_intent (intent_at records slot) found
  where
    by_intent : (intent : Option TheIntent) → option_map (entry_with records slot (ended_at records slot)) intent ≡ Some entry → entry.slot ≡ slot
    by_intent None found = cc
    by_intent (Some intent) found = sym (ap (λ (e : Entry). e.slot) (same_Some (entry_with records slot (ended_at records slot) intent) entry found))

-- the text of an entry ends with its slot
text_end : (text : List ℕ) (slot : ℕ) (result : Option TheOutcome)
    → is_text text (option_map (λ (outcome : TheOutcome). transaction_text outcome.number outcome.receipt slot) result) ≡ true → drop 12 text ≡ decimal slot
unfolding transaction_text
text_end text slot None e = cc
text_end text slot (Some outcome) e = ap (drop 12) (same_text-is text (transaction_text outcome.number outcome.receipt slot) e)

-- a text that names the entry at a slot ends with that slot
named_end : (records : List Record) (poi text : List ℕ) (slot : ℕ) → is_named poi text (entry_at records slot) ≡ true → drop 12 text ≡ decimal slot
named_end records poi text slot named = by_entry (entry_at records slot) refl named
  where
    by_entry : (o : Option Entry) → entry_at records slot ≡ o → is_named poi text o ≡ true → drop 12 text ≡ decimal slot
    by_entry None found named = cc
    by_entry (Some entry) found named =
        text_end text entry.slot entry.result (both (same_text poi entry.intent.poi) (is_text text (text_of entry)) named).1
        ∙ ap decimal (entry_slot records slot entry found)

-- a text names only an entry of a record
named_inside : (records : List Record) (poi text : List ℕ) (slot : ℕ) → is_named poi text (entry_at records slot) ≡ true → slot < length records
named_inside records poi text slot named = intent_inside records slot (by_intent (intent_at records slot) named)
  where
    by_intent : (o : Option TheIntent) → is_named poi text (option_map (entry_with records slot (ended_at records slot)) o) ≡ true → is_some o ≡ true
    by_intent None named = cc
    by_intent (Some intent) named = refl

-- the entries that one text names are one
named_same : (records : List Record) → length records ≤ 1000000 → (poi text : List ℕ) (slot other : ℕ)
    → is_named poi text (entry_at records slot) ≡ true → is_named poi text (entry_at records other) ≡ true → slot ≡ other
named_same records few poi text slot other named too =
    decimal_injective slot other (omega (arith, named_inside records poi text slot named)) (omega (arith, named_inside records poi text other too))
    (sym (named_end records poi text slot named) ∙ named_end records poi text other too)

named_found : (records : List Record) → length records ≤ 1000000 → (poi text : List ℕ) (n slot : ℕ) → slot < n
    → is_named poi text (entry_at records slot) ≡ true → named_below records poi text n ≡ entry_at records slot
named_found records few poi text zero slot lt named = absurd (omega arith)
named_found records few poi text (suc n) slot lt named =
    by_test (is_named poi text (entry_at records n)) refl (λ below. named_found records few poi text n slot below named)
  where
    by_test : (b : Bool) → is_named poi text (entry_at records n) ≡ b → (slot < n → named_below records poi text n ≡ entry_at records slot)
        → (if b then entry_at records n else named_below records poi text n) ≡ entry_at records slot
    by_test true here rest = ap (entry_at records) (named_same records few poi text n slot here named)
    by_test false here rest = elim (cases_lt slot n) [
      | inl below ↦ rest below
      | inr above ↦
          let same : slot ≡ n = omega arith in
          let clash : true ≡ false = sym named ∙ ap (λ s. is_named poi text (entry_at records s)) same ∙ here in
          cc
    ]

-- the entry that the text names at a slot is the one that it names
pub named_is : (records : List Record) → length records ≤ 1000000 → (poi text : List ℕ) (slot : ℕ)
    → is_named poi text (entry_at records slot) ≡ true → named_of records poi text ≡ entry_at records slot
named_is records few poi text slot named =
    named_found records few poi text (length records) slot (named_inside records poi text slot named) named

-- what a text names is an entry at its slot
named_below_is : (records : List Record) (poi text : List ℕ) (n : ℕ) (entry : Entry) → named_below records poi text n ≡ Some entry
    → (entry_at records entry.slot ≡ Some entry) × (is_named poi text (Some entry) ≡ true)
named_below_is records poi text zero entry found = cc
named_below_is records poi text (suc n) entry found = by_test (is_named poi text (entry_at records n)) refl (λ below. named_below_is records poi text n entry below) found
  where
    by_test : (b : Bool) → is_named poi text (entry_at records n) ≡ b
        → (named_below records poi text n ≡ Some entry → (entry_at records entry.slot ≡ Some entry) × (is_named poi text (Some entry) ≡ true))
        → (if b then entry_at records n else named_below records poi text n) ≡ Some entry
        → (entry_at records entry.slot ≡ Some entry) × (is_named poi text (Some entry) ≡ true)
    by_test true here rest is = (
      ap (entry_at records) (entry_slot records n entry is) ∙ is,
      ap (is_named poi text) (sym is) ∙ here,
    )
    by_test false here rest below = rest below

pub named_is_entry : (records : List Record) (poi text : List ℕ) (entry : Entry) → named_of records poi text ≡ Some entry
    → (entry_at records entry.slot ≡ Some entry) × (is_named poi text (Some entry) ≡ true)
named_is_entry records poi text entry found = named_below_is records poi text (length records) entry found

named_nothing : (records : List Record) (poi text : List ℕ) (n : ℕ) → ((slot : ℕ) → slot < n → is_named poi text (entry_at records slot) ≡ true → ⊥)
    → named_below records poi text n ≡ None
named_nothing records poi text zero none = refl
named_nothing records poi text (suc n) none =
    by_test (is_named poi text (entry_at records n)) refl (named_nothing records poi text n (λ slot lt. none slot (omega arith)))
  where
    by_test : (b : Bool) → is_named poi text (entry_at records n) ≡ b → named_below records poi text n ≡ None
        → (if b then entry_at records n else named_below records poi text n) ≡ None
    by_test true here rest = absurd (none n (omega arith) here)
    by_test false here rest = rest

module _ (records : List Record) (few : length records ≤ 1000000) (poi text : List ℕ) (found : Option ℕ)
    (reads : (slot : ℕ) → slot < 2 ^ 32 → drop 12 text ≡ decimal slot → found ≡ Some slot) where
  found_at : (slot : ℕ) → is_named poi text (entry_at records slot) ≡ true → found ≡ Some slot
  found_at slot named = reads slot (omega (arith, named_inside records poi text slot named)) (named_end records poi text slot named)

  -- a text without a slot names no entry
  pub named_without_slot : found ≡ None → None ≡ named_of records poi text
  named_without_slot none =
      sym (named_nothing records poi text (length records) (λ slot lt named. let clash : None ≡ Some slot = sym none ∙ found_at slot named in cc))

  -- a text with a slot names the entry there, or none
  pub named_with_slot : (slot : ℕ) → found ≡ Some slot
      → (if is_named poi text (entry_at records slot) then entry_at records slot else None) ≡ named_of records poi text
  named_with_slot slot some = by_test (is_named poi text (entry_at records slot)) refl
    where
      by_test : (b : Bool) → is_named poi text (entry_at records slot) ≡ b → (if b then entry_at records slot else None) ≡ named_of records poi text
      by_test true here = sym (named_is records few poi text slot here)
      by_test false here = sym (named_nothing records poi text (length records) (λ other lt named.
          let same : slot ≡ other = same_Some slot other (sym some ∙ found_at other named) in
          let clash : true ≡ false = sym named ∙ ap (λ s. is_named poi text (entry_at records s)) (sym same) ∙ here in
          cc))

-- a text that ends before a slot ends with none
pub no_slot : (text : List ℕ) (slot : ℕ) → length text < 12 → slot < 2 ^ 32 → drop 12 text ≡ decimal slot → ⊥
no_slot text slot ends lt e = omega (arith, ap length e, length-drop 12 text, decimal_nonempty slot (omega arith))
