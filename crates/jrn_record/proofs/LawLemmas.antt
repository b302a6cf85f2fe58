-- Each field of a record is at its offset, and a body is that of one record.
use Rattle.std.proofs.Common.{◌≡◌, ℕ, suc, zero, ◌+◌, ◌-◌, ◌<◌, ◌≤◌, ◌^◌, ◌==◌, Bool, true, false, if◌then◌else◌, List, [], ◌∷◌, ◌++◌, length, take, drop, replicate, get_or, arith, sym, ◌∙◌, ap, subst, refl, length-append, append_assoc, inl, inr, Option, Some, None, ℤ, pos, negsuc, w32, w64}
use Rattle.std.proofs.Math.Seq.{drop-append_seam, take-append_seam}
use Rattle.std.proofs.lemmas.List.{length-replicate}
use Rattle.std.proofs.lemmas.Bool.{cases_lt}
use Rattle.std.specs.Prelude.{map, slice_index}
use Rattle.std.proofs.lemmas.Int.{ints}
use Rattle.std.proofs.lemmas.Nat.{from_be_bytes-to_be_bytes_4, from_be_bytes-to_be_bytes_8}
use Rattle.std.specs.Int.{from_be_bytes, to_be_bytes}
use Rattle.gw_base.specs.Bcd.{bcd_of, bcd_value}
use Rattle.gw_base.specs.Currency.{currency_number}
use Rattle.gw_base.specs.Moment.{IsMoment}
use Rattle.gw_base.specs.declared.condition.Condition.{Condition}
use Rattle.gw_base.specs.declared.condition.Condition.TheVariants.{Aborted, Busy, Cancel, InProgress, InsertedCard, InvalidCard, LoggedOut, MessageFormat, NotAllowed, NotFound, Refusal, UnavailableDevice, UnavailableService}
use Rattle.gw_base.specs.declared.currency.Currency.{Currency}
use Rattle.gw_base.specs.declared.currency.Currency.TheVariants.{Eur, Chf, Gbp, Usd, Dkk, Sek, Nok, Pln, Czk}
use Rattle.gw_base.proofs.BcdLemmas.{bcd_value-of, length-bcd_of}
use Rattle.jrn_record.specs.Limits.{HasOriginal, HasReason, HasTillText, IsIntent, IsOutcome, IsRecord, IsSettled, reason_code}
use Rattle.jrn_record.specs.Grammar.{record_body, condition_code, record_fields, how_code, intent_fields, joined, moment_field, option_field, original_code, outcome_fields, settled_fields, text_field}
use Rattle.jrn_record.specs.Table.{Agree, IsFirstRecordFault, FieldRange, field, intent_table, outcome_table, settled_table, table_at, table_of}
use Rattle.jrn_record.specs.declared.records.Deal.{Deal}
use Rattle.jrn_record.specs.declared.records.Deal.TheVariants.{Payment, Reversal}
use Rattle.jrn_record.specs.declared.records.How.{How}
use Rattle.jrn_record.specs.declared.records.How.TheVariants.{Sale, Acquirer}
use Rattle.jrn_record.specs.declared.records.Intent.{Intent as TheIntent}
use Rattle.jrn_record.specs.declared.records.Outcome.{Outcome as TheOutcome}
use Rattle.jrn_record.specs.declared.records.Settled.{Settled as TheSettled}
use Rattle.jrn_record.specs.declared.records.Record.{Record}
use Rattle.jrn_record.specs.declared.records.Record.TheVariants.{Intent, Outcome, Settled}
use Rattle.jrn_record.proofs.FieldLemmas.{text_field-injective, present_below}
use Rattle.jrn_record.proofs.ReadLemmas.{same_approval, same_deal}
use Rattle.jrn_record.proofs.BodyLemmas.{AreAdjacent}

-- ---- the fields are at their offsets

-- each field has the size of its table
abbrev HasSizes : List (List ℕ) → List FieldRange → Type 0
HasSizes [] [] = Unit {0}
HasSizes [] (there ∷ table) = ⊥
HasSizes (field ∷ spelled) [] = ⊥
HasSizes (field ∷ spelled) (there ∷ table) = (length field ≡ there.size) × HasSizes spelled table

-- fields of the right sizes, one after the other, are at their offsets
laid : (spelled : List (List ℕ)) (table : List FieldRange) (offset end : ℕ) (prefix : List ℕ) → HasSizes spelled table → AreAdjacent offset table end
    → length prefix ≡ offset → Agree (length table) spelled table (prefix ++ joined spelled) × (offset + length (joined spelled) ≡ end)
laid [] [] offset end prefix sizes adjacent len = (tt, omega (arith, adjacent))
laid [] (there ∷ table) offset end prefix sizes adjacent len = absurd sizes
laid (field ∷ spelled) [] offset end prefix sizes adjacent len = absurd sizes
laid (field ∷ spelled) (there ∷ table) offset end prefix sizes adjacent len =
    let next = laid spelled table (offset + there.size) end (prefix ++ field) sizes.1 adjacent.1
    (omega (arith, length-append prefix field, len, sizes.0)) in
    let body : (prefix ++ field) ++ joined spelled ≡ prefix ++ (field ++ joined spelled) = append_assoc prefix field (joined spelled) in
    let rest : drop there.offset (prefix ++ (field ++ joined spelled)) ≡ field ++ joined spelled =
    ap (λ offset. drop offset (prefix ++ (field ++ joined spelled))) (adjacent.0 ∙ sym len) ∙ drop-append_seam prefix (field ++ joined spelled) in
    let here : field ≡ take there.size (drop there.offset (prefix ++ (field ++ joined spelled))) =
    sym (ap (take there.size) rest ∙ ap (λ n. take n (field ++ joined spelled)) (sym sizes.0) ∙ take-append_seam field (joined spelled)) in (
      (here, subst (λ b. Agree (length table) spelled table b) body next.0),
      omega (arith, next.1, length-append field (joined spelled), sizes.0),
    )

length-text_field : (size : ℕ) (text : List ℕ) → length text < size → length (text_field size text) ≡ size
length-text_field size text fits =
    omega (arith, length-append text (replicate (size - 1 - length text) 0), length-replicate {A = ℕ} (size - 1 - length text) 0)

length-option_field : (what : Deal) (most : ℕ) (text : Option (List ℕ)) → HasTillText what most text → length (option_field (most + 1) text) ≡ most + 1
length-option_field Payment most None has = absurd has
length-option_field Payment most (Some text) has = length-text_field (most + 1) text (omega (arith, has.1))
length-option_field Reversal most None has = length-replicate (most + 1) 0
length-option_field Reversal most (Some text) has = absurd has

sizes_of : (the_record : Record) → IsRecord the_record → HasSizes (record_fields the_record) (table_of the_record)
sizes_of (Intent i) is = (
  refl,
  (
    refl,
    (
      length-text_field 41 i.sale (omega (arith, is.sale.1)),
      (
        length-text_field 41 i.poi (omega (arith, is.poi.1)),
        (
          length-text_field 11 i.service (omega (arith, is.service.1)),
          (
            length-option_field i.what 80 i.transaction is.transaction,
            (
              length-option_field i.what 35 i.stamp is.stamp,
              (
                length-bcd_of 6 i.amount,
                (
                  length-bcd_of 2 (currency_number i.currency),
                  (
                    length-bcd_of 3 i.before,
                    (refl, (refl, (length-replicate {A = ℕ} 20 0, tt))),
                  ),
                ),
              ),
            ),
          ),
        ),
      ),
    ),
  ),
)
sizes_of (Outcome o) is =
    (refl, (refl, (refl, (length-bcd_of 3 o.number, (length-bcd_of 2 o.receipt, (length-bcd_of 6 o.amount, (refl, (refl, (length-replicate {A = ℕ} 229 0, tt)))))))))
sizes_of (Settled s) is = (
  refl,
  (
    refl,
    (
      length-text_field 41 s.sale (omega (arith, is.sale.1)),
      (
        length-text_field 41 s.poi (omega (arith, is.poi.1)),
        (length-text_field 11 s.service (omega (arith, is.service.1)), (length-bcd_of 2 (currency_number s.currency), (refl, (length-replicate {A = ℕ} 150 0, tt)))),
      ),
    ),
  ),
)

adjacent_fields : (the_record : Record) → AreAdjacent 0 (table_of the_record) 255
adjacent_fields (Intent i) = (refl, (refl, (refl, (refl, (refl, (refl, (refl, (refl, (refl, (refl, (refl, (refl, (refl, refl)))))))))))))
adjacent_fields (Outcome o) = (refl, (refl, (refl, (refl, (refl, (refl, (refl, (refl, (refl, refl)))))))))
adjacent_fields (Settled s) = (refl, (refl, (refl, (refl, (refl, (refl, (refl, (refl, refl))))))))

pub record_body-offsets : (the_record : Record) → IsRecord the_record
    → (length (record_body the_record) ≡ 255) × Agree (length (table_of the_record)) (record_fields the_record) (table_of the_record) (record_body the_record)
record_body-offsets the_record is =
    let h = laid (record_fields the_record) (table_of the_record) 0 255 [] (sizes_of the_record is) (adjacent_fields the_record) refl in
    (omega (arith, h.1), h.0)

-- ---- one spelling, one value

option_same : (what : Deal) (most size : ℕ) (a b : Option (List ℕ)) → HasTillText what most a → HasTillText what most b
    → option_field size a ≡ option_field size b → a ≡ b
option_same Payment most size None b has too e = absurd has
option_same Payment most size (Some text) None has too e = absurd too
option_same Payment most size (Some text) (Some other) has too e = ap Some (text_field-injective size text other e)
option_same Reversal most size None None has too e = refl
option_same Reversal most size None (Some other) has too e = absurd too
option_same Reversal most size (Some text) b has too e = absurd has

original_same : (what : Deal) (a b : Option ℕ) → HasOriginal what a → HasOriginal what b
    → to_be_bytes w32 (original_code a) ≡ to_be_bytes w32 (original_code b) → a ≡ b
original_same Payment None None has too e = refl
original_same Payment None (Some other) has too e = absurd too
original_same Payment (Some slot) b has too e = absurd has
original_same Reversal None b has too e = absurd has
original_same Reversal (Some slot) None has too e = absurd too
original_same Reversal (Some slot) (Some other) has too e =
    ap Some (sym (from_be_bytes-to_be_bytes_4 slot has) ∙ ap (from_be_bytes w32) e ∙ from_be_bytes-to_be_bytes_4 other too)

bcd_same : (count a b : ℕ) → a < 100 ^ count → b < 100 ^ count → bcd_of count a ≡ bcd_of count b → a ≡ b
bcd_same count a b fits too e = sym (bcd_value-of count a fits).1 ∙ ap bcd_value e ∙ (bcd_value-of count b too).1

-- the currency of a number
currency_at : ℕ → Currency
currency_at number =
    if number == 978 then Eur else (if number == 756 then Chf else (if number == 826 then Gbp else (if number == 840 then Usd
    else (if number == 208 then Dkk else (if number == 752 then Sek else (if number == 578 then Nok else (if number == 985 then Pln else Czk)))))))

currency_at-number : (currency : Currency) → currency_at (currency_number currency) ≡ currency
unfolding currency_at
currency_at-number Eur = refl
currency_at-number Chf = refl
currency_at-number Gbp = refl
currency_at-number Usd = refl
currency_at-number Dkk = refl
currency_at-number Sek = refl
currency_at-number Nok = refl
currency_at-number Pln = refl
currency_at-number Czk = refl

number_fits : (currency : Currency) → currency_number currency < 100 ^ 2
number_fits Eur = omega arith
number_fits Chf = omega arith
number_fits Gbp = omega arith
number_fits Usd = omega arith
number_fits Dkk = omega arith
number_fits Sek = omega arith
number_fits Nok = omega arith
number_fits Pln = omega arith
number_fits Czk = omega arith

currency_same : (a b : Currency) → bcd_of 2 (currency_number a) ≡ bcd_of 2 (currency_number b) → a ≡ b
currency_same a b e =
    sym (currency_at-number a) ∙ ap currency_at (bcd_same 2 (currency_number a) (currency_number b) (number_fits a) (number_fits b) e) ∙ currency_at-number b

-- the reason of a code
reason_at : ℕ → Condition
reason_at code =
    if code == 1 then Aborted else (if code == 2 then Cancel else (if code == 3 then Refusal else (if code == 4 then InvalidCard
    else (if code == 5 then InsertedCard else (if code == 6 then UnavailableService else NotAllowed)))))

reason_at-code : (condition : Condition) → 1 ≤ reason_code condition → reason_at (reason_code condition) ≡ condition
unfolding reason_at
reason_at-code Aborted h = refl
reason_at-code Cancel h = refl
reason_at-code Refusal h = refl
reason_at-code InvalidCard h = refl
reason_at-code InsertedCard h = refl
reason_at-code UnavailableService h = refl
reason_at-code NotAllowed h = refl
reason_at-code Busy h = absurd (omega arith)
reason_at-code InProgress h = absurd (omega arith)
reason_at-code LoggedOut h = absurd (omega arith)
reason_at-code MessageFormat h = absurd (omega arith)
reason_at-code NotFound h = absurd (omega arith)
reason_at-code UnavailableDevice h = absurd (omega arith)

condition_same : (approved : Bool) (a b : Option Condition) → HasReason approved a → HasReason approved b
    → condition_code a ∷ [] ≡ condition_code b ∷ [] → a ≡ b
condition_same true None None has too e = refl
condition_same true None (Some other) has too e = absurd too
condition_same true (Some condition) b has too e = absurd has
condition_same false None b has too e = absurd has
condition_same false (Some condition) None has too e = absurd too
condition_same false (Some condition) (Some other) has too e =
    ap Some (sym (reason_at-code condition has) ∙ ap reason_at (ap (λ code. get_or code 0 0) e) ∙ reason_at-code other too)

moment_same : (a b : ℤ) → IsMoment a → IsMoment b → moment_field a ≡ moment_field b → a ≡ b
moment_same (pos a) (pos b) is too e =
    ap pos (sym (from_be_bytes-to_be_bytes_8 a (omega (arith, ints))) ∙ ap (from_be_bytes w64) e ∙ from_be_bytes-to_be_bytes_8 b (omega (arith, ints)))
moment_same (pos a) (negsuc b) is too e = absurd (omega (arith, ints))
moment_same (negsuc a) b is too e = absurd (omega (arith, ints))

how_same : (a b : How) → how_code a ∷ [] ≡ how_code b ∷ [] → a ≡ b
how_same a b e = by_case a b (ap (λ code. get_or code 0 0) e)
  where
    by_case : (a b : How) → how_code a ≡ how_code b → a ≡ b
    by_case Sale Sale e = refl
    by_case Sale Acquirer e = absurd (omega arith)
    by_case Acquirer Sale e = absurd (omega arith)
    by_case Acquirer Acquirer e = refl

-- ---- one body, one record

-- two lists of fields that agree with one body are equal, field by field
abbrev Same : List (List ℕ) → List (List ℕ) → Type 0
Same [] [] = Unit {0}
Same [] (g ∷ gs) = ⊥
Same (f ∷ fs) [] = ⊥
Same (f ∷ fs) (g ∷ gs) = (f ≡ g) × Same fs gs

agree_same : (spelled others : List (List ℕ)) (table : List FieldRange) (body : List ℕ) → length spelled ≡ length table → length others ≡ length table
    → Agree (length table) spelled table body → Agree (length table) others table body → Same spelled others
agree_same [] [] table body len too a b = tt
agree_same [] (g ∷ gs) table body len too a b = absurd (omega (arith, len, too))
agree_same (f ∷ fs) [] table body len too a b = absurd (omega (arith, len, too))
agree_same (f ∷ fs) (g ∷ gs) [] body len too a b = absurd (omega arith)
agree_same (f ∷ fs) (g ∷ gs) (there ∷ table) body len too a b =
    (a.0 ∙ sym b.0, agree_same fs gs table body (omega (arith, len)) (omega (arith, too)) a.1 b.1)

intent_same : (i j : TheIntent) → IsIntent i → IsIntent j → Same (intent_fields i) (intent_fields j) → i ≡ j
intent_same i j is too s =
    let what : i.what ≡ j.what = same_deal i.what j.what _ s.1.0 refl in
    let has : HasTillText i.what 80 j.transaction = subst (λ w. HasTillText w 80 j.transaction) (sym what) too.transaction in
    let stamped : HasTillText i.what 35 j.stamp = subst (λ w. HasTillText w 35 j.stamp) (sym what) too.stamp in
    let originals : HasOriginal i.what j.original = subst (λ w. HasOriginal w j.original) (sym what) too.original in
    let sale = text_field-injective 41 i.sale j.sale s.1.1.0 in
    let poi = text_field-injective 41 i.poi j.poi s.1.1.1.0 in
    let service = text_field-injective 11 i.service j.service s.1.1.1.1.0 in
    let transaction = option_same i.what 80 81 i.transaction j.transaction is.transaction has s.1.1.1.1.1.0 in
    let stamp = option_same i.what 35 36 i.stamp j.stamp is.stamp stamped s.1.1.1.1.1.1.0 in
    let amount = bcd_same 6 i.amount j.amount (omega (arith, is.amount)) (omega (arith, too.amount)) s.1.1.1.1.1.1.1.0 in
    let currency = currency_same i.currency j.currency s.1.1.1.1.1.1.1.1.0 in
    let before = bcd_same 3 i.before j.before (omega (arith, is.before)) (omega (arith, too.before)) s.1.1.1.1.1.1.1.1.1.0 in
    let original = original_same i.what i.original j.original is.original originals s.1.1.1.1.1.1.1.1.1.1.0 in
    let moment = moment_same i.moment j.moment is.moment too.moment s.1.1.1.1.1.1.1.1.1.1.1.0 in
    λ k. record {
      what = what k;
      sale = sale k;
      poi = poi k;
      service = service k;
      transaction = transaction k;
      stamp = stamp k;
      amount = amount k;
      currency = currency k;
      before = before k;
      original = original k;
      moment = moment k;
    }

outcome_same : (o p : TheOutcome) → IsOutcome o → IsOutcome p → Same (outcome_fields o) (outcome_fields p) → o ≡ p
outcome_same o p is too s =
    let approved : o.approved ≡ p.approved = same_approval o.approved p.approved _ s.1.0 refl in
    let slot = sym (from_be_bytes-to_be_bytes_4 o.slot is.slot) ∙ ap (from_be_bytes w32) s.1.1.0 ∙ from_be_bytes-to_be_bytes_4 p.slot too.slot in
    let trace = bcd_same 3 o.number p.number (present_below o.approved 1 999999 3 o.number (omega arith) is.number)
    (present_below p.approved 1 999999 3 p.number (omega arith) too.number) s.1.1.1.0 in
    let receipt = bcd_same 2 o.receipt p.receipt (present_below o.approved 0 9999 2 o.receipt (omega arith) is.receipt)
    (present_below p.approved 0 9999 2 p.receipt (omega arith) too.receipt) s.1.1.1.1.0 in
    let amount = bcd_same 6 o.amount p.amount (present_below o.approved 1 999999999999 6 o.amount (omega arith) is.amount)
    (present_below p.approved 1 999999999999 6 p.amount (omega arith) too.amount) s.1.1.1.1.1.0 in
    let has : HasReason o.approved p.condition = subst (λ a. HasReason a p.condition) (sym approved) too.condition in
    let condition = condition_same o.approved o.condition p.condition is.condition has s.1.1.1.1.1.1.0 in
    let moment = moment_same o.moment p.moment is.moment too.moment s.1.1.1.1.1.1.1.0 in
    λ k. record {
      approved = approved k;
      slot = slot k;
      number = trace k;
      receipt = receipt k;
      amount = amount k;
      condition = condition k;
      moment = moment k;
    }

settled_same : (s t : TheSettled) → IsSettled s → IsSettled t → Same (settled_fields s) (settled_fields t) → s ≡ t
settled_same s t is too a =
    let how = how_same s.how t.how a.1.0 in
    let sale = text_field-injective 41 s.sale t.sale a.1.1.0 in
    let poi = text_field-injective 41 s.poi t.poi a.1.1.1.0 in
    let service = text_field-injective 11 s.service t.service a.1.1.1.1.0 in
    let currency = currency_same s.currency t.currency a.1.1.1.1.1.0 in
    let moment = moment_same s.moment t.moment is.moment too.moment a.1.1.1.1.1.1.0 in
    λ k. record { how = how k; sale = sale k; poi = poi k; service = service k; currency = currency k; moment = moment k }

pub body_of-injective : (a b : Record) → IsRecord a → IsRecord b → record_body a ≡ record_body b → a ≡ b
body_of-injective (Intent i) (Intent j) is too e =
    ap Intent (intent_same i j is too (agree_same (intent_fields i) (intent_fields j) intent_table (record_body (Intent i)) refl refl
    (record_body-offsets (Intent i) is).1 (subst (λ body. Agree 13 (intent_fields j) intent_table body) (sym e) (record_body-offsets (Intent j) too).1)))
body_of-injective (Outcome o) (Outcome p) is too e =
    ap Outcome (outcome_same o p is too (agree_same (outcome_fields o) (outcome_fields p) outcome_table (record_body (Outcome o)) refl refl
    (record_body-offsets (Outcome o) is).1 (subst (λ body. Agree 9 (outcome_fields p) outcome_table body) (sym e) (record_body-offsets (Outcome p) too).1)))
body_of-injective (Settled s) (Settled t) is too e =
    ap Settled (settled_same s t is too (agree_same (settled_fields s) (settled_fields t) settled_table (record_body (Settled s)) refl refl
    (record_body-offsets (Settled s) is).1 (subst (λ body. Agree 8 (settled_fields t) settled_table body) (sym e) (record_body-offsets (Settled t) too).1)))
body_of-injective (Intent i) (Outcome p) is too e = let f : 1 ≡ 2 = ap (λ body. get_or body 0 0) e in absurd (omega (arith, f))
body_of-injective (Intent i) (Settled t) is too e = let f : 1 ≡ 3 = ap (λ body. get_or body 0 0) e in absurd (omega (arith, f))
body_of-injective (Outcome o) (Intent j) is too e = let f : 2 ≡ 1 = ap (λ body. get_or body 0 0) e in absurd (omega (arith, f))
body_of-injective (Outcome o) (Settled t) is too e = let f : 2 ≡ 3 = ap (λ body. get_or body 0 0) e in absurd (omega (arith, f))
body_of-injective (Settled s) (Intent j) is too e = let f : 3 ≡ 1 = ap (λ body. get_or body 0 0) e in absurd (omega (arith, f))
body_of-injective (Settled s) (Outcome p) is too e = let f : 3 ≡ 2 = ap (λ body. get_or body 0 0) e in absurd (omega (arith, f))

-- ---- a body with a fault is that of no record

agree_prefix : (count more : ℕ) (spelled : List (List ℕ)) (table : List FieldRange) (body : List ℕ) → count ≤ more
    → Agree more spelled table body → Agree count spelled table body
agree_prefix zero more spelled table body few a = tt
agree_prefix (suc count) zero spelled table body few a = absurd (omega arith)
agree_prefix (suc count) (suc more) [] table body few a = absurd a
agree_prefix (suc count) (suc more) (f ∷ fs) [] body few a = absurd a
agree_prefix (suc count) (suc more) (f ∷ fs) (there ∷ table) body few a = (a.0, agree_prefix count more fs table body (omega arith) a.1)

table_at-body : (the_record : Record) → table_at (record_body the_record) ≡ table_of the_record
table_at-body (Intent i) = refl
table_at-body (Outcome o) = refl
table_at-body (Settled s) = refl

pub fault-no_record : (body : List ℕ) (reported : ℕ) → IsFirstRecordFault (table_at body) body reported → (the_record : Record) → IsRecord the_record → body ≡ record_body the_record → ⊥
fault-no_record body reported fault the_record is e =
    let table : table_at body ≡ table_of the_record = ap table_at e ∙ table_at-body the_record in
    let whole : Agree (length (table_of the_record)) (record_fields the_record) (table_of the_record) body =
    subst (λ b. Agree (length (table_of the_record)) (record_fields the_record) (table_of the_record) b) (sym e) (record_body-offsets the_record is).1 in
    let same : Agree (length (table_at body)) (record_fields the_record) (table_at body) body =
    subst (λ t. Agree (length t) (record_fields the_record) t body) (sym table) whole in
    fault.not_spelled the_record is (agree_prefix (suc fault.count) (length (table_at body)) (record_fields the_record) (table_at body) body fault.inside same)

-- ---- a body has one first fault

-- the fields before a first fault are spelled, so another isn't among them
no_less : (table : List FieldRange) (body : List ℕ) (reported other : ℕ) (fault : IsFirstRecordFault table body reported) (later : IsFirstRecordFault table body other) → fault.count < later.count → ⊥
no_less table body reported other fault later less =
    let before = later.spelled_before in
    fault.not_spelled before.0 before.1 (agree_prefix (suc fault.count) later.count (record_fields before.0) table body (omega arith) before.2)

pub first_fault-one : (table : List FieldRange) (body : List ℕ) (reported other : ℕ) → IsFirstRecordFault table body reported → IsFirstRecordFault table body other → reported ≡ other
first_fault-one table body reported other fault later = fault.offset ∙ ap (λ count. slice_index (map (λ there. there.offset) table) count) same ∙ sym later.offset
  where
    same : fault.count ≡ later.count
    same = elim (cases_lt fault.count later.count) [
      | inl less ↦ absurd (no_less table body reported other fault later less)
      | inr le ↦ elim (cases_lt later.count fault.count) [
        | inl less ↦ absurd (no_less table body other reported later fault less)
        | inr ge ↦ omega arith
      ]
    ]
