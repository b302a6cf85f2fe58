-- The first field that no record spells.
use Rattle.std.proofs.Common.{◌≡◌, ℕ, suc, ◌<◌, ◌≤◌, Bool, true, false, List, [], ◌∷◌, ◌==◌, drop, get_or, map, length, arith, sym, ◌∙◌, ap, subst, refl, Option, Some, None, Result, Err, MatchResult, pos}
use Rattle.std.proofs.lemmas.Bool.Decides.{nat_tests}
use Rattle.std.proofs.lemmas.Int.{ints}
use Rattle.std.proofs.lemmas.List.{get_or-drop, get_or-take}
use Rattle.std.proofs.lemmas.List.Elements.{All-cons, All-nil}
use Rattle.gw_base.specs.Ident.{IsIdent, IsPrintable}
use Rattle.gw_base.specs.Moment.{IsMoment}
use Rattle.gw_base.specs.declared.condition.Condition.{Condition}
use Rattle.gw_base.specs.declared.condition.Condition.TheVariants.{Refusal}
use Rattle.gw_base.specs.declared.currency.Currency.TheVariants.{Eur}
use Rattle.jrn_record.specs.Limits.{HasOriginal, HasReason, HasTillText, IsIntent, IsOutcome, IsRecord, IsSettled, IsPresentWithin}
use Rattle.jrn_record.specs.Grammar.{approval_code, deal_code, record_fields, intent_fields, outcome_fields, settled_fields}
use Rattle.jrn_record.specs.Table.{Agree, IsFirstRecordFault, FieldRange, field, body_field, intent_table, outcome_table, settled_table, table_at}
use Rattle.jrn_record.specs.declared.body_fields.RecordFault.{RecordFault}
use Rattle.jrn_record.specs.declared.records.Deal.{Deal}
use Rattle.jrn_record.specs.declared.records.Deal.TheVariants.{Payment, Reversal}
use Rattle.jrn_record.specs.declared.records.Intent.{Intent as TheIntent}
use Rattle.jrn_record.specs.declared.records.Outcome.{Outcome as TheOutcome}
use Rattle.jrn_record.specs.declared.records.Settled.{Settled as TheSettled}
use Rattle.jrn_record.specs.declared.records.Record.{Record}
use Rattle.jrn_record.specs.declared.records.Record.TheVariants.{Intent, Outcome, Settled}

-- ---- blank values, which fill the fields that were not read

abbrev pub blank : List ℕ
blank = 0x30 ∷ []

pub blank_is : (most : ℕ) → 1 ≤ most → IsIdent most blank
blank_is most room =
    (omega arith, omega arith, All-cons IsPrintable 0x30 [] (omega arith, omega arith) (All-nil IsPrintable))

abbrev pub blank_option : Deal → Option (List ℕ)
blank_option Payment = Some blank
blank_option Reversal = None

pub blank_option_is : (what : Deal) (most : ℕ) → 1 ≤ most → HasTillText what most (blank_option what)
blank_option_is Payment most room = blank_is most room
blank_option_is Reversal most room = tt

abbrev pub blank_original : Deal → Option ℕ
blank_original Payment = None
blank_original Reversal = Some 0

pub blank_original_is : (what : Deal) → HasOriginal what (blank_original what)
blank_original_is Payment = tt
blank_original_is Reversal = omega arith

abbrev pub blank_number : Bool → ℕ
blank_number true = 1
blank_number false = 0

pub blank_number_is : (present : Bool) (most : ℕ) → 1 ≤ most → IsPresentWithin present 1 most (blank_number present)
blank_number_is true most room = (omega arith, room)
blank_number_is false most room = refl

pub zero_number_is : (present : Bool) (most : ℕ) → IsPresentWithin present 0 most 0
zero_number_is true most = (omega arith, omega arith)
zero_number_is false most = refl

abbrev pub blank_reason : Bool → Option Condition
blank_reason true = None
blank_reason false = Some Refusal

pub blank_reason_is : (approved : Bool) → HasReason approved (blank_reason approved)
blank_reason_is true = tt
blank_reason_is false = omega arith

pub zero_moment : IsMoment (pos 0)
zero_moment = (omega (arith, ints), omega (arith, ints))

-- ---- one code, one kind

pub same_deal : (a b : Deal) (bytes : List ℕ) → deal_code a ∷ [] ≡ bytes → deal_code b ∷ [] ≡ bytes → a ≡ b
same_deal a b bytes e f = by_case a b (ap (λ code. get_or code 0 0) (e ∙ sym f))
  where
    by_case : (a b : Deal) → deal_code a ≡ deal_code b → a ≡ b
    by_case Payment Payment e = refl
    by_case Payment Reversal e = absurd (omega arith)
    by_case Reversal Payment e = absurd (omega arith)
    by_case Reversal Reversal e = refl

pub same_approval : (a b : Bool) (bytes : List ℕ) → approval_code a ∷ [] ≡ bytes → approval_code b ∷ [] ≡ bytes → a ≡ b
same_approval a b bytes e f = by_case a b (ap (λ code. get_or code 0 0) (e ∙ sym f))
  where
    by_case : (a b : Bool) → approval_code a ≡ approval_code b → a ≡ b
    by_case true true e = refl
    by_case true false e = absurd (omega arith)
    by_case false true e = absurd (omega arith)
    by_case false false e = refl

-- two first bytes that differ
pub first_differs : (a b : ℕ) (bytes : List ℕ) → (a ≡ b → ⊥) → a ∷ [] ≡ bytes → b ∷ [] ≡ bytes → ⊥
first_differs a b bytes other e f = other (ap (λ code. get_or code 0 0) (e ∙ sym f))

-- ---- what isn't spelled by an Intent is spelled by no record, and so on

pub intent_fault : (body : List ℕ) (count reported : ℕ) (draft : TheIntent) → count < 13
    → reported ≡ get_or (map (λ there. there.offset) intent_table) count 0
    → IsIntent draft → Agree count (intent_fields draft) intent_table body → 1 ∷ [] ≡ body_field body (field 0 1)
    → ((i : TheIntent) → IsIntent i → Agree (suc count) (intent_fields i) intent_table body → ⊥)
    → IsFirstRecordFault intent_table body reported
intent_fault body count reported draft inside offset is agrees first_byte none = record {
  count = count;
  inside = inside;
  offset = offset;
  spelled_before = (Intent draft, is, agrees);
  not_spelled = other;
}
  where
    other : (the_record : Record) → IsRecord the_record → Agree (suc count) (record_fields the_record) intent_table body → ⊥
    other (Intent i) is a = none i is a
    other (Outcome o) is a = first_differs 2 1 (body_field body (field 0 1)) (λ e. omega arith) a.0 first_byte
    other (Settled s) is a = first_differs 3 1 (body_field body (field 0 1)) (λ e. omega arith) a.0 first_byte

pub outcome_fault : (body : List ℕ) (count reported : ℕ) (draft : TheOutcome) → count < 9
    → reported ≡ get_or (map (λ there. there.offset) outcome_table) count 0
    → IsOutcome draft → Agree count (outcome_fields draft) outcome_table body → 2 ∷ [] ≡ body_field body (field 0 1)
    → ((o : TheOutcome) → IsOutcome o → Agree (suc count) (outcome_fields o) outcome_table body → ⊥)
    → IsFirstRecordFault outcome_table body reported
outcome_fault body count reported draft inside offset is agrees first_byte none = record {
  count = count;
  inside = inside;
  offset = offset;
  spelled_before = (Outcome draft, is, agrees);
  not_spelled = other;
}
  where
    other : (the_record : Record) → IsRecord the_record → Agree (suc count) (record_fields the_record) outcome_table body → ⊥
    other (Intent i) is a = first_differs 1 2 (body_field body (field 0 1)) (λ e. omega arith) a.0 first_byte
    other (Outcome o) is a = none o is a
    other (Settled s) is a = first_differs 3 2 (body_field body (field 0 1)) (λ e. omega arith) a.0 first_byte

pub settled_fault : (body : List ℕ) (count reported : ℕ) (draft : TheSettled) → count < 8
    → reported ≡ get_or (map (λ there. there.offset) settled_table) count 0
    → IsSettled draft → Agree count (settled_fields draft) settled_table body → 3 ∷ [] ≡ body_field body (field 0 1)
    → ((s : TheSettled) → IsSettled s → Agree (suc count) (settled_fields s) settled_table body → ⊥)
    → IsFirstRecordFault settled_table body reported
settled_fault body count reported draft inside offset is agrees first_byte none = record {
  count = count;
  inside = inside;
  offset = offset;
  spelled_before = (Settled draft, is, agrees);
  not_spelled = other;
}
  where
    other : (the_record : Record) → IsRecord the_record → Agree (suc count) (record_fields the_record) settled_table body → ⊥
    other (Intent i) is a = first_differs 1 3 (body_field body (field 0 1)) (λ e. omega arith) a.0 first_byte
    other (Outcome o) is a = first_differs 2 3 (body_field body (field 0 1)) (λ e. omega arith) a.0 first_byte
    other (Settled s) is a = none s is a

-- what the exit of a `?` hands on
pub exit : {V : Type 0} (result : Result V RecordFault) (e : RecordFault) (P : V → Type 0) (Q : RecordFault → Type 0)
    → (x : RecordFault) × (result ≡ Err x) × (x ≡ e) → Q e → MatchResult result P Q
exit {V} result e P Q (x, was, same) q =
    let R : Result V RecordFault → Type 0 = λ r. MatchResult r P Q in
    subst R (sym was) (subst Q (sym same) q)

abbrev blank_intent : TheIntent
blank_intent = record {
  what = Payment;
  sale = blank;
  poi = blank;
  service = blank;
  transaction = Some blank;
  stamp = Some blank;
  amount = 1;
  currency = Eur;
  before = 0;
  original = None;
  moment = pos 0;
}

blank_intent_is : IsIntent blank_intent
blank_intent_is = record {
  sale = blank_is 40 (omega arith);
  poi = blank_is 40 (omega arith);
  service = blank_is 10 (omega arith);
  transaction = blank_is 80 (omega arith);
  stamp = blank_is 35 (omega arith);
  amount = (omega arith, omega arith);
  before = omega arith;
  original = tt;
  moment = zero_moment;
}

-- a body whose first byte is that of no kind
pub no_kind : (body : List ℕ) → length body ≡ 255 → (get_or body 0 0 ≡ 1 → ⊥) → (get_or body 0 0 ≡ 2 → ⊥) → (get_or body 0 0 ≡ 3 → ⊥)
    → IsFirstRecordFault (table_at body) body 0
no_kind body len one two three =
    let outcome : (get_or body 0 0 == 2) ≡ false = not_equal (get_or body 0 0) 2 two in
    let settled : (get_or body 0 0 == 3) ≡ false = not_equal (get_or body 0 0) 3 three in
    let table : table_at body ≡ intent_table = rw (outcome, settled) refl in
    let P : List FieldRange → Type 0 = λ t. IsFirstRecordFault t body 0 in
    subst P (sym table) (record {
      count = 0;
      inside = omega arith;
      offset = refl;
      spelled_before = (Intent blank_intent, blank_intent_is, tt);
      not_spelled = none;
    })
  where
    not_equal : (a b : ℕ) → (a ≡ b → ⊥) → (a == b) ≡ false
    not_equal a b other = grind (arith, nat_tests)

    first : (byte : ℕ) → byte ∷ [] ≡ body_field body (field 0 1) → get_or body 0 0 ≡ byte
    first byte e = sym (ap (λ bytes. get_or bytes 0 0) e ∙ get_or-take 1 (drop 0 body) 0 0 (omega arith) ∙ get_or-drop 0 body 0 0)

    none : (the_record : Record) → IsRecord the_record → Agree 1 (record_fields the_record) intent_table body → ⊥
    none (Intent i) is a = one (first 1 a.0)
    none (Outcome o) is a = two (first 2 a.0)
    none (Settled s) is a = three (first 3 a.0)
