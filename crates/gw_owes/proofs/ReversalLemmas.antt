-- What the steps say of a reversal that begins: its text names an entry of the terminal that may be reversed.
use Rattle.std.proofs.Common.{◌≡◌, ℕ, refl, sym, ◌∙◌, true, false}
use Rattle.std.proofs.lemmas.Bool.{and_parts, eqb-true, not-true, not-false}
use Rattle.std.specs.Prelude.{is_some, not, ◌&&◌, List, Option, Some, None}
use Rattle.sale_values.specs.declared.request.ReversalAsk.{ReversalAsk}
use Rattle.jrn_record.specs.declared.records.Deal.{Deal}
use Rattle.jrn_record.specs.declared.records.Deal.TheVariants as deals
use Rattle.jrn_record.specs.declared.records.Outcome.{Outcome as TheOutcome}
use Rattle.jrn_record.specs.declared.records.Record.{Record}
use Rattle.gw_ledger.specs.declared.entry.Entry.{Entry as TheEntry}
use Rattle.gw_ledger.specs.Accounts.{is_settled}
use Rattle.gw_ledger.specs.Slots.{is_reversible, is_reversed}
use Rattle.gw_owes.specs.Content.{is_same_amount}
use Rattle.gw_owes.specs.PaymentLaws.{IsReversible}
use Rattle.gw_owes.specs.Reversals.{original_of, is_whole_of, may_be_reversed, is_irreversible}

payment-is : (what : Deal) → is_reversible what ≡ true → what ≡ deals.Payment
payment-is deals.Payment asks = refl
payment-is deals.Reversal asks = absurd cc

some-same : (one other : ℕ) → Some one ≡ Some other → one ≡ other
some-same one other same = cc

whole-is : (asked : Option ℕ) (approved amount : ℕ) → is_same_amount asked approved ≡ true → asked ≡ Some amount → amount ≡ approved
whole-is None approved amount same is = absurd cc
whole-is (Some reversed) approved amount same is = sym (some-same reversed amount is) ∙ eqb-true reversed approved same

-- an entry that may be reversed has an approval
pub record HasApproval (kept : List Record) (reversal : ReversalAsk) (entry : TheEntry) : Type 0 where
  pub approval : TheOutcome
  pub reversible : IsReversible kept reversal entry approval

-- the same, by its Outcome
has-approval : (kept : List Record) (reversal : ReversalAsk) (entry : TheEntry) (result : Option TheOutcome) → entry.result ≡ result
    → ((is_reversible entry.intent.what && is_whole_of reversal.amount result) && (not (is_reversed kept entry.slot) && not (is_settled kept entry.slot))) ≡ true → HasApproval kept reversal entry
has-approval kept reversal entry None is may =
    let parts = and_parts (is_reversible entry.intent.what && false) (not (is_reversed kept entry.slot) && not (is_settled kept entry.slot)) may in
    let whole = and_parts (is_reversible entry.intent.what) false parts.0 in
    absurd (apart whole.1)
  where
    apart : false ≡ true → ⊥
    apart e = cc
has-approval kept reversal entry (Some approval) is may =
    let parts = and_parts (is_reversible entry.intent.what && is_whole_of reversal.amount (Some approval)) (not (is_reversed kept entry.slot) && not (is_settled kept entry.slot)) may in
    let payment = and_parts (is_reversible entry.intent.what) (is_whole_of reversal.amount (Some approval)) parts.0 in
    let whole = and_parts approval.approved (is_same_amount reversal.amount approval.amount) payment.1 in
    let left = and_parts (not (is_reversed kept entry.slot)) (not (is_settled kept entry.slot)) parts.1 in
    record {
      approval = approval;
      reversible = record {
        what = payment-is entry.intent.what payment.0;
        result = is;
        approved = whole.0;
        whole = λ amount asked. whole-is reversal.amount approval.amount amount whole.1 asked;
        not_reversed = not-true (is_reversed kept entry.slot) left.0;
        not_settled = not-true (is_settled kept entry.slot) left.1;
      };
    }

pub reversible-has : (kept : List Record) (reversal : ReversalAsk) (entry : TheEntry) → may_be_reversed kept reversal entry ≡ true → HasApproval kept reversal entry
reversible-has kept reversal entry may = has-approval kept reversal entry entry.result refl may

-- a reversal's text names an entry that may be reversed
pub record HasOriginal (kept : List Record) (poi : List ℕ) (reversal : ReversalAsk) : Type 0 where
  pub original : TheEntry
  pub named : original_of kept poi reversal ≡ Some original
  pub approval : TheOutcome
  pub reversible : IsReversible kept reversal original approval

-- by what the text names
has-original : (kept : List Record) (poi : List ℕ) (reversal : ReversalAsk) (found : Option TheEntry) → original_of kept poi reversal ≡ found → not (is_some found) ≡ false → is_irreversible kept reversal found ≡ false
    → HasOriginal kept poi reversal
has-original kept poi reversal None is some may = absurd cc
has-original kept poi reversal (Some original) is some may =
    let has = reversible-has kept reversal original (not-false (may_be_reversed kept reversal original) may) in
    record { original = original; named = is; approval = has.approval; reversible = has.reversible }

-- where no step says that it names none, or one that may not be reversed, it names one that may
pub names-original : (kept : List Record) (poi : List ℕ) (reversal : ReversalAsk) → not (is_some (original_of kept poi reversal)) ≡ false → is_irreversible kept reversal (original_of kept poi reversal) ≡ false
    → HasOriginal kept poi reversal
names-original kept poi reversal some may = has-original kept poi reversal (original_of kept poi reversal) refl some may
