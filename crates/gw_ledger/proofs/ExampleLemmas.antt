-- Identifiers by a test that computes, and that the examples are records that are folded.
use Rattle.std.proofs.Common.{◌≡◌, ℕ, ◌^◌, ◌<◌, ◌≤◌, leb, Bool, true, List, [], ◌∷◌, ◌++◌, length, pos, codes, IsTrue, refl, arith, lit<, lit≤}
use Rattle.std.proofs.lemmas.Int.{ints}
use Rattle.std.specs.Prelude.{◌&&◌, All}
use Rattle.std.proofs.lemmas.Bool.{leb-true, and_parts}
use Rattle.std.proofs.lemmas.List.Elements.{All-nil, All-cons}
use Rattle.gw_base.specs.Ident.{IsIdent, IsPrintable}
use Rattle.gw_base.specs.Limits.{IsAmount, IsTrace}
use Rattle.gw_base.specs.Moment.{IsMoment}
use Rattle.jrn_record.specs.Limits.{IsIntent, IsOutcome, IsRecord}
use Rattle.jrn_record.specs.declared.records.Record.{Record}
use Rattle.jrn_record.specs.declared.records.Record.TheVariants.{Intent, Outcome}
use Rattle.gw_ledger.specs.Example.{day_approval, day, day_payment, day_refusal, day_reversal, second}
use Rattle.gw_ledger.specs.Fold.{AreFolded, Fit, fits}
use Rattle.gw_ledger.specs.History.{history}
use Rattle.gw_ledger.specs.Laws.{IsEntryWithin}
use Rattle.gw_ledger.specs.Premises.{day_opened, fourth}
use Rattle.gw_ledger.specs.Reversals.{day_asked_again, day_refused, day_undone}
use Rattle.gw_ledger.proofs.RecordLemmas.{folded_push}

-- every byte is printable, as a test
abbrev are_printable : List ℕ → Bool
are_printable [] = true
are_printable (byte ∷ bytes) = leb 0x20 byte && (leb byte 0x7E && are_printable bytes)

-- bytes that the test passes are printable
printable : (bytes : List ℕ) → are_printable bytes ≡ true → All IsPrintable bytes
printable [] passed = All-nil IsPrintable
printable (byte ∷ bytes) passed =
    let parts = and_parts (leb 0x20 byte) (leb byte 0x7E && are_printable bytes) passed in
    let others = and_parts (leb byte 0x7E) (are_printable bytes) parts.1 in
    All-cons IsPrintable byte bytes (leb-true _ _ parts.0, leb-true _ _ others.0) (printable bytes others.1)

-- the text is an identifier, as a test
abbrev pub is_ident : ℕ → List ℕ → Bool
is_ident most bytes = leb 1 (length bytes) && (leb (length bytes) most && are_printable bytes)

-- a text that the test passes is an identifier
pub ident : (most : ℕ) (bytes : List ℕ) → is_ident most bytes ≡ true → IsIdent most bytes
ident most bytes passed =
    let parts = and_parts (leb 1 (length bytes)) (leb (length bytes) most && are_printable bytes) passed in
    let others = and_parts (leb (length bytes) most) (are_printable bytes) parts.1 in
    (leb-true _ _ parts.0, leb-true _ _ others.0, printable bytes others.1)

-- the first second of 1970 is a moment
example_moment : IsMoment (pos 0)
example_moment = (omega (arith, ints), omega (arith, ints))

-- the payments of the examples
payment_within : (service : List ℕ) (amount before : ℕ) → is_ident 10 service ≡ true → IsAmount amount → IsTrace before → IsIntent (day_payment (codes "A") service amount before)
payment_within service amount before is_service is_amount is_trace = record {
  sale = ident 40 (codes "S") refl;
  poi = ident 40 (codes "A") refl;
  service = ident 10 service is_service;
  transaction = ident 80 (codes "T") refl;
  stamp = ident 35 (codes "now") refl;
  amount = is_amount;
  before = is_trace;
  original = tt;
  moment = example_moment;
}

-- the reversals of the examples
reversal_of : (service : List ℕ) (payment amount before : ℕ) → is_ident 10 service ≡ true → payment < 2 ^ 32 → IsAmount amount → IsTrace before
    → IsIntent (day_reversal (codes "A") service payment amount before)
reversal_of service payment amount before is_service fits is_amount is_trace = record {
  sale = ident 40 (codes "S") refl;
  poi = ident 40 (codes "A") refl;
  service = ident 10 service is_service;
  transaction = tt;
  stamp = tt;
  amount = is_amount;
  before = is_trace;
  original = fits;
  moment = example_moment;
}

-- the day's reversal
reversal_within : IsIntent (day_reversal (codes "A") (codes "3") 0 1099 124)
reversal_within = reversal_of (codes "3") 0 1099 124 refl (lit< tt) (lit≤ tt, lit≤ tt) (lit≤ tt)

-- the approvals of the examples
approval_within : (slot trace amount : ℕ) → slot < 2 ^ 32 → (1 ≤ trace) × IsTrace trace → IsAmount amount → IsOutcome (day_approval slot trace amount)
approval_within slot trace amount fits is_trace is_amount = record {
  slot = fits;
  number = is_trace;
  receipt = (lit≤ tt, lit≤ tt);
  amount = is_amount;
  condition = tt;
  moment = example_moment;
}

second_payment_within : IsIntent (day_payment (codes "A") (codes "2") 500 123)
second_payment_within = payment_within (codes "2") 500 123 refl (lit≤ tt, lit≤ tt) (lit≤ tt)

second_approval_within : IsOutcome (day_approval 2 124 500)
second_approval_within = approval_within 2 124 500 (lit< tt) (lit≤ tt, lit≤ tt) (lit≤ tt, lit≤ tt)

-- the day's second payment
pub second_within : IsEntryWithin second
second_within = record { intent = second_payment_within; result = second_approval_within }

-- each record lies within its limits, one by one
abbrev EachWithin : List Record → Type 0
EachWithin [] = Unit {0}
EachWithin (the_record ∷ rest) = IsRecord the_record × EachWithin rest

all_within : (records : List Record) → EachWithin records → All IsRecord records
all_within [] each = All-nil IsRecord
all_within (the_record ∷ rest) each = All-cons IsRecord the_record rest each.0 (all_within rest each.1)

day_within : All IsRecord day
day_within = all_within day (
  payment_within (codes "1") 1099 0 refl (lit≤ tt, lit≤ tt) (lit≤ tt),
  (approval_within 0 123 1099 (lit< tt) (lit≤ tt, lit≤ tt) (lit≤ tt, lit≤ tt), (second_payment_within, (second_approval_within, (reversal_within, (approval_within 4 125 1099 (lit< tt) (lit≤ tt, lit≤ tt) (lit≤ tt, lit≤ tt), tt))))),
)

day_fits : Fit [] day
unfolding history
day_fits = (refl, (refl, (refl, (refl, (refl, (refl, tt))))))

-- the records of the day are folded
pub day_folded : AreFolded day
day_folded = record { within = day_within; fit = day_fits }

fourth_fits : IsTrue (fits day (Intent fourth))
unfolding history
fourth_fits = refl

-- and those of the day with one more payment
pub opened_folded : AreFolded day_opened
opened_folded = folded_push day (Intent fourth) day_folded (payment_within (codes "4") 100 125 refl (lit≤ tt, lit≤ tt) (lit≤ tt)) fourth_fits

first_fits : IsTrue (fits day (Intent (day_reversal (codes "A") (codes "4") 2 500 125)))
unfolding history
first_fits = refl

refusal_fits : IsTrue (fits (day ++ Intent (day_reversal (codes "A") (codes "4") 2 500 125) ∷ []) (Outcome (day_refusal 6)))
unfolding history
refusal_fits = refl

again_fits : IsTrue (fits day_refused (Intent (day_reversal (codes "A") (codes "5") 2 500 125)))
unfolding history
again_fits = refl

undone_fits : IsTrue (fits day_asked_again (Outcome (day_approval 8 126 500)))
unfolding history
undone_fits = refl

refusal_within : IsOutcome (day_refusal 6)
refusal_within = record { slot = lit< tt; number = refl; receipt = refl; amount = refl; condition = lit≤ tt; moment = example_moment }

-- the records of the day are folded with a reversal that is declined and one that is approved
pub undone_folded : AreFolded day_undone
undone_folded =
    let asked = folded_push day (Intent (day_reversal (codes "A") (codes "4") 2 500 125)) day_folded (reversal_of (codes "4") 2 500 125 refl (lit< tt) (lit≤ tt, lit≤ tt) (lit≤ tt)) first_fits in
    let declined = folded_push (day ++ Intent (day_reversal (codes "A") (codes "4") 2 500 125) ∷ []) (Outcome (day_refusal 6)) asked refusal_within refusal_fits in
    let again = folded_push day_refused (Intent (day_reversal (codes "A") (codes "5") 2 500 125)) declined (reversal_of (codes "5") 2 500 125 refl (lit< tt) (lit≤ tt, lit≤ tt) (lit≤ tt)) again_fits in
    folded_push day_asked_again (Outcome (day_approval 8 126 500)) again (approval_within 8 126 500 (lit< tt) (lit≤ tt, lit≤ tt) (lit≤ tt, lit≤ tt)) undone_fits
