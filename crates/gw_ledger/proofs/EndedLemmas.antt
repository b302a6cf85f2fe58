-- What the mark of an Intent's slot says: whether an Outcome of it fits, and whether it is settled or reversed.
use Rattle.std.proofs.Common.{◌≡◌, ◌∙◌, ◌<◌, ℕ, Bool, true, false, ◌&&◌, List, Option, Some, None, is_some, length, get_or, slice_get, refl, sym, ap}
use Rattle.std.specs.Prelude.{not, nat_lt}
use Rattle.std.proofs.lemmas.Option.{get_or_from_slice_get}
use Rattle.jrn_record.specs.declared.records.Intent.{Intent as TheIntent}
use Rattle.jrn_record.specs.declared.records.Outcome.{Outcome as TheOutcome}
use Rattle.jrn_record.specs.declared.records.Record.{Record}
use Rattle.jrn_record.specs.declared.records.Record.TheVariants.{Outcome}
use Rattle.gw_ledger.specs.declared.account.Account.{Account}
use Rattle.gw_ledger.specs.declared.tables.Mark.{Mark}
use Rattle.gw_ledger.specs.Accounts.{account_of, is_before_last_settled, is_settled}
use Rattle.gw_ledger.specs.Fold.{fits_beside_key, rises}
use Rattle.gw_ledger.specs.Slots.{is_reversible, ended_at, intent_at, is_reversed}
use Rattle.gw_ledger.specs.Tables.{mark_of}
use Rattle.gw_ledger.proofs.FoldLemmas.{intent_inside}

-- it is that of the records
pub mark_is : (records : List Record) (marks : List Mark) (slot : ℕ) (intent : TheIntent) (mark : Mark) → ((s : ℕ) → s < length records → slice_get marks s ≡ Some (mark_of records s))
    → intent_at records slot ≡ Some intent → mark ≡ get_or marks slot mark → mark ≡ mark_of records slot
mark_is records marks slot intent mark marks_are found at =
    let inside : slot < length records = intent_inside records slot (ap is_some found) in
    at ∙ get_or_from_slice_get marks slot (mark_of records slot) mark (marks_are slot inside)

-- so it says where the Outcome is
pub ended_is : (records : List Record) (marks : List Mark) (slot : ℕ) (intent : TheIntent) (mark : Mark) (ended : Option ℕ) → ((s : ℕ) → s < length records → slice_get marks s ≡ Some (mark_of records s))
    → intent_at records slot ≡ Some intent → mark ≡ get_or marks slot mark → ended ≡ mark.ended → ended ≡ ended_at records slot
ended_is records marks slot intent mark ended marks_are found at is = is ∙ ap (λ (m : Mark). m.ended) (mark_is records marks slot intent mark marks_are found at)

-- ---- an Outcome

module _ (records : List Record) (outcome : TheOutcome) (intent : TheIntent) (ended : Option ℕ) (found : intent_at records outcome.slot ≡ Some intent) (is : ended ≡ ended_at records outcome.slot) where
  fits_as : not (is_some ended) && rises outcome.approved outcome.number (Some intent) ≡ fits_beside_key records (Outcome outcome)
  fits_as = rw (found, is) refl

  fits_where : (has approved : Bool) → is_some ended ≡ has → outcome.approved ≡ approved → not has && rises approved outcome.number (Some intent) ≡ fits_beside_key records (Outcome outcome)
  fits_where has approved has_is approved_is =
      ap (λ b. not b && rises approved outcome.number (Some intent)) (sym has_is)
      ∙ ap (λ a. not (is_some ended) && rises a outcome.number (Some intent)) (sym approved_is)
      ∙ fits_as

  -- none fits what has one
  pub ended_misfits : is_some ended ≡ true → false ≡ fits_beside_key records (Outcome outcome)
  ended_misfits has = fits_where true outcome.approved has refl

  -- a decline of what has none fits
  pub decline_fits : is_some ended ≡ false → outcome.approved ≡ false → true ≡ fits_beside_key records (Outcome outcome)
  decline_fits has declined = fits_where false false has declined

  -- and an approval with a greater trace number
  pub approval_fits : is_some ended ≡ false → outcome.approved ≡ true → nat_lt intent.before outcome.number ≡ fits_beside_key records (Outcome outcome)
  approval_fits has approved = fits_where false true has approved

-- ---- whether it is settled or reversed

module _ (records : List Record) (slot : ℕ) (intent : TheIntent) (found : intent_at records slot ≡ Some intent) where
  -- a reversal isn't
  pub reversal_unsettled : is_reversible intent.what ≡ false → false ≡ is_settled records slot
  reversal_unsettled other = rw (found, other) refl

  settled_where : (payment : Bool) (ended : Option ℕ) → is_reversible intent.what ≡ payment → ended ≡ ended_at records slot → payment && is_before_last_settled records (Some intent) ended ≡ is_settled records slot
  settled_where payment ended is at =
      ap (λ b. b && is_before_last_settled records (Some intent) ended) (sym is)
      ∙ ap (λ e. is_reversible intent.what && is_before_last_settled records (Some intent) e) at
      ∙ rw found refl

  -- what is open isn't
  pub open_unsettled : None ≡ ended_at records slot → false ≡ is_settled records slot
  open_unsettled at = by_payment (is_reversible intent.what) refl
    where
      by_payment : (payment : Bool) → is_reversible intent.what ≡ payment → false ≡ is_settled records slot
      by_payment true is = settled_where true None is at
      by_payment false is = settled_where false None is at

  -- a payment is where its Outcome is before the last Settled of its terminal
  pub payment_settled : (at : ℕ) (account : Account) → is_reversible intent.what ≡ true → Some at ≡ ended_at records slot → account ≡ account_of records intent.poi → nat_lt at account.settled ≡ is_settled records slot
  payment_settled at account is ended account_is = ap (λ (a : Account). nat_lt at a.settled) account_is ∙ settled_where true (Some at) is ended

  -- a reversal isn't reversed
  pub reversal_unreversed : is_reversible intent.what ≡ false → false ≡ is_reversed records slot
  reversal_unreversed other = rw (found, other) refl

  -- a payment is where its mark says so
  pub payment_reversed : (mark : Mark) → is_reversible intent.what ≡ true → mark ≡ mark_of records slot → mark.reversed ≡ is_reversed records slot
  payment_reversed mark payment at = ap (λ (m : Mark). m.reversed) at ∙ rw (found, payment) refl
