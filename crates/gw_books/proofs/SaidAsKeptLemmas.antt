-- What is said of the end of a key that a report has resolved is its one Outcome: a key has one slot, and a slot one Outcome.
use Rattle.std.proofs.Common.{◌≡◌, ◌∙◌, ◌<◌, ℕ, Bool, true, false, List, [], ◌∷◌, ◌++◌, length, refl, sym, ap, subst, inl, inr, arith}
use Rattle.std.proofs.lemmas.Bool.{and_from}
use Rattle.std.proofs.lemmas.List.{length-append}
use Rattle.std.proofs.lemmas.Option.{same_Some}
use Rattle.std.specs.Prelude.{◌&&◌, not, if◌then◌else◌, IsTrue, Option, Some, None, option_and_then, option_map, slice_get}
use Rattle.gw_base.specs.Transaction.{transaction_text}
use Rattle.sale_values.specs.Money.{money_text}
use Rattle.jrn_record.specs.Limits.{IsRecord}
use Rattle.jrn_record.specs.declared.records.Intent.{Intent as TheIntent}
use Rattle.jrn_record.specs.declared.records.Outcome.{Outcome as TheOutcome}
use Rattle.jrn_record.specs.declared.records.Record.{Record}
use Rattle.jrn_record.specs.declared.records.Record.TheVariants.{Outcome}
use Rattle.gw_ledger.specs.declared.entry.Found.{Found}
use Rattle.gw_ledger.specs.declared.entry.Found.TheVariants.{Entry, Closed}
use Rattle.gw_ledger.specs.Fold.{AreFolded, fits_beside_key, found_of}
use Rattle.gw_ledger.specs.Keys.{intent_key, slot_of}
use Rattle.gw_ledger.specs.Slots.{as_outcome, ended_at, entry_with, intent_at, is_outcome_of, outcome_at}
use Rattle.gw_ledger.proofs.FoldLemmas.{along, open_parts}
use Rattle.gw_ledger.proofs.RecordLemmas.{folded_beside, get_push}
use Rattle.gw_ledger.proofs.TieLemmas.{eqb_same}
use Rattle.gw_owes.proofs.RecordLemmas.{LedgerLaws, intent-stays, intent-within, still-there, unended-parts}
use Rattle.gw_rules.specs.Lawful.{Stands}
use Rattle.gw_rules.specs.View.{View, at_first, view_from}
use Rattle.gw_rules.proofs.RecordOrderLemmas.{each-log-folds}
use Rattle.gw_rules.proofs.RecordRowLemmas.{OrderLaws}
use Rattle.gw_books.specs.Past.{MadePoll, Past, past_of}
use Rattle.gw_books.specs.Books.{BookedEntry, Honest}
use Rattle.gw_books.specs.Said.{Said, all_said}
use Rattle.gw_books.specs.Agrees.{is_success, is_transaction}
use Rattle.gw_books.specs.RecoveryLaws.{HasTrueOutcome, IsSaidAlong, SaidAsKept, SaysApproval, SaysOutcomeKept}
use Rattle.gw_books.proofs.HeadlineLemmas.{HoldsNumbered, holds-along}
use Rattle.gw_books.proofs.Holding.{IsFirstOf, IsSaidTrue, SaysOutcome, SaysSuccess}
use Rattle.gw_books.proofs.KeptReplyLemmas.{ended-more, ended-stays, entry-found}
use Rattle.gw_books.proofs.ListLemmas.{In}
use Rattle.gw_books.proofs.RecordMoreLemmas.{own-slot}
use Rattle.gw_books.proofs.RecordNumberLemmas.{folded-first}
use Rattle.gw_books.proofs.RecoveryLemmas.{end-there}
use Rattle.gw_books.proofs.TillLemmas.{at-in}

-- ---- one Outcome a slot

-- the Outcome at this place is the end of its slot
record IsOwnEnd (records : List Record) (at : ℕ) (outcome : TheOutcome) : Type 0 where
  within : outcome.slot < length records
  ended : ended_at records outcome.slot ≡ Some at

-- so is each
abbrev AreOwnEnds : List Record → Type 0
AreOwnEnds records = (at : ℕ) (outcome : TheOutcome) → slice_get records at ≡ Some (Outcome outcome) → IsOwnEnd records at outcome

within-more : (before : List Record) (next : Record) (slot : ℕ) → slot < length before → slot < length (before ++ next ∷ [])
within-more before next slot below = let longer = length-append before (next ∷ []) in omega (arith, below, longer)

own-end-step : (laws : LedgerLaws) (before : List Record) (next : Record) → AreOwnEnds before → IsRecord next → IsTrue (fits_beside_key before next) → AreOwnEnds (before ++ next ∷ [])
own-end-step laws before next ends within fitting at outcome found = elim (get_push before next at (Outcome outcome) found) [
  | inl earlier ↦ was (ends at outcome earlier.1)
  | inr last ↦ is-last last.0 last.1
]
  where
    was : IsOwnEnd before at outcome → IsOwnEnd (before ++ next ∷ []) at outcome
    was own = record { within = within-more before next outcome.slot own.within; ended = ended-stays laws before next outcome.slot own.within at fitting own.ended }

    is-last : at ≡ length before → next ≡ Outcome outcome → IsOwnEnd (before ++ next ∷ []) at outcome
    is-last place same =
        let opened = unended-parts before outcome.slot (open_parts before outcome (subst (λ (r : Record). IsTrue (fits_beside_key before r)) same fitting)) in
        let inside : outcome.slot < length before = intent-within before outcome.slot opened.intent opened.intent_is in
        let own : is_outcome_of outcome.slot next ≡ true = ap (is_outcome_of outcome.slot) same ∙ eqb_same outcome.slot in
        record {
          within = within-more before next outcome.slot inside;
          ended = ended-more laws before next outcome.slot inside ∙ (ap (λ (b : Bool). if b then Some (length before) else ended_at before outcome.slot) own ∙ ap Some (sym place));
        }

none-own-end : AreOwnEnds []
none-own-end at outcome found = absurd cc

-- so Outcomes of one slot are the same
one-outcome : (records : List Record) (at other : ℕ) (one two : TheOutcome) → AreOwnEnds records → slice_get records at ≡ Some (Outcome one) → slice_get records other ≡ Some (Outcome two) → one.slot ≡ two.slot → one ≡ two
one-outcome records at other one two ends found there same =
    let first : ended_at records one.slot ≡ Some at = (ends at one found).ended in
    let second : ended_at records two.slot ≡ Some other = (ends other two there).ended in
    let place : at ≡ other = same_Some at other (sym first ∙ (ap (ended_at records) same ∙ second)) in
    same_Some one two (ap (option_and_then as_outcome) (sym found ∙ (ap (slice_get records) place ∙ there)))

-- ---- the Outcome of an entry

-- the Outcome is on record, of this slot
record HasOutcomeOf (records : List Record) (slot : ℕ) (outcome : TheOutcome) : Type 0 where
  at : ℕ
  found : slice_get records at ≡ Some (Outcome outcome)
  slot_is : outcome.slot ≡ slot

abbrev result_found : Found → Option TheOutcome
result_found (Entry entry) = entry.result
result_found (Closed closed) = None

outcome-of-entry : (laws : LedgerLaws) (records : List Record) (slot : ℕ) (intent : TheIntent) (outcome : TheOutcome) → AreFolded records → intent_at records slot ≡ Some intent
    → found_of records (intent_key intent) ≡ Some (Entry (record { slot = slot; intent = intent; result = Some outcome })) → HasOutcomeOf records slot outcome
outcome-of-entry laws records slot intent outcome folded asked found =
    let own : found_of records (intent_key intent) ≡ Some (Entry (entry_with records slot (ended_at records slot) intent)) =
    entry-found laws records slot intent (entry_with records slot (ended_at records slot) intent) folded asked (ap (option_map (entry_with records slot (ended_at records slot))) asked) in
    by-end (ended_at records slot) refl (ap (option_and_then result_found) (sym own ∙ found))
  where
    by-end : (end : Option ℕ) → ended_at records slot ≡ end → option_and_then (outcome_at records) end ≡ Some outcome → HasOutcomeOf records slot outcome
    by-end None ended is = absurd cc
    by-end (Some at) ended is =
        let end = end-there records slot at folded ended in
        let same : end.outcome ≡ outcome = same_Some end.outcome outcome (sym (ap (option_and_then as_outcome) end.found) ∙ is) in
        record { at = at; found = end.found ∙ ap (λ (o : TheOutcome). Some (Outcome o)) same; slot_is = ap (λ (o : TheOutcome). o.slot) (sym same) ∙ end.slot_is }

-- ---- what is said

-- what the first of the records have, all of them have
record-of-first : (first records : List Record) (at : ℕ) (one : Record) → IsFirstOf first records → slice_get first at ≡ Some one → slice_get records at ≡ Some one
record-of-first first records at one own found = subst (λ (l : List Record). slice_get l at ≡ Some one) (sym own.1) (still-there first own.0 at one found)

intent-of-first : (first records : List Record) (slot : ℕ) (intent : TheIntent) → IsFirstOf first records → intent_at first slot ≡ Some intent → intent_at records slot ≡ Some intent
intent-of-first first records slot intent own found = subst (λ (l : List Record). intent_at l slot ≡ Some intent) (sym own.1) (intent-stays first own.0 slot intent found)

module _ (laws : LedgerLaws) (v : View) (past : Past) (book : List BookedEntry) (folded : AreFolded v.scene.kept) (both : HoldsNumbered v past book) (poll : MadePoll) (slot : ℕ) (intent : TheIntent) (made : In poll past.polls)
    (asked : intent_at poll.kept slot ≡ Some intent) (has : HasTrueOutcome past book poll.kept slot intent) (said : Said) (is_said : IsSaidAlong past said) (key_is : said.key ≡ intent_key intent) where
  -- the records of the poll, and those of the reply, are the first of those that are kept now
  kept-then : IsFirstOf poll.kept v.scene.kept
  kept-then = both.holds.kept_polled poll made

  within : In is_said.reply past.replies
  within = at-in past.replies is_said.sent is_said.reply is_said.reply_is

  kept-as-said : IsFirstOf is_said.reply.kept v.scene.kept
  kept-as-said = both.holds.replied is_said.reply within

  own : HasOutcomeOf poll.kept slot has.outcome
  own = outcome-of-entry laws poll.kept slot intent has.outcome (folded-first poll.kept kept-then.0 (subst AreFolded kept-then.1 folded)) asked has.found

  truth : IsSaidTrue is_said.reply.kept is_said.reply.waiting is_said.reply.occasion said
  truth = (both.holds.replies is_said.reply within).says is_said.message is_said.framed said (at-in (all_said is_said.message) is_said.number said is_said.says)

  -- what is said is of the Intent's slot
  same-slot : (approved : Bool) → (says : SaysOutcome is_said.reply.kept said approved) → says.outcome.slot ≡ slot
  same-slot approved says =
      let here : slot_of v.scene.kept (intent_key intent) ≡ Some slot = own-slot laws v.scene.kept slot intent folded (intent-of-first poll.kept v.scene.kept slot intent kept-then asked) in
      let there : slot_of v.scene.kept (intent_key says.intent) ≡ Some says.outcome.slot =
      own-slot laws v.scene.kept says.outcome.slot says.intent folded (intent-of-first is_said.reply.kept v.scene.kept says.outcome.slot says.intent kept-as-said says.intent_is) in
      same_Some says.outcome.slot slot (sym there ∙ (ap (slot_of v.scene.kept) (sym says.key_is ∙ key_is) ∙ here))

  same-outcome : (approved : Bool) → (says : SaysOutcome is_said.reply.kept said approved) → has.outcome ≡ says.outcome
  same-outcome approved says =
      one-outcome v.scene.kept own.at says.at has.outcome says.outcome (along AreOwnEnds (own-end-step laws) none-own-end v.scene.kept (folded_beside v.scene.kept folded))
      (record-of-first poll.kept v.scene.kept own.at (Outcome has.outcome) kept-then own.found) (record-of-first is_said.reply.kept v.scene.kept says.at (Outcome says.outcome) kept-as-said says.found)
      (own.slot_is ∙ sym (same-slot approved says))

  says-approval : SaysSuccess is_said.reply.kept said → SaysApproval said slot has.outcome
  says-approval success =
      let says = success.says in
      let same : has.outcome ≡ says.outcome = same-outcome true says in
      record {
        approved = ap (λ (o : TheOutcome). o.approved) same ∙ says.approved_is;
        transaction = success.transaction_is
            ∙ (ap (λ (n : ℕ). transaction_text says.outcome.number says.outcome.receipt n) (same-slot true says) ∙ ap (λ (o : TheOutcome). transaction_text o.number o.receipt slot) (sym same));
        amount = success.amount_is ∙ ap (λ (o : TheOutcome). money_text o.amount) (sym same);
      }

  says-decline : SaysOutcome is_said.reply.kept said false → has.outcome.approved ≡ false
  says-decline says = ap (λ (o : TheOutcome). o.approved) (same-outcome false says) ∙ says.approved_is

  pub says-kept : is_transaction said ≡ true → SaysOutcomeKept said slot has.outcome
  says-kept transaction = record {
    success = λ e. says-approval (truth.success (and_from (is_transaction said) (is_success said) transaction e));
    refusal = λ e. says-decline (truth.refusal (and_from (is_transaction said) (not (is_success said) && said.has_poi_data) transaction e));
  }

pub said-as-kept : OrderLaws → LedgerLaws → SaidAsKept
said-as-kept orders laws log past book poll link slot intent said has_past honest reported has is_said key_is transaction =
    let v : View = view_from at_first has_past.moves in
    let own : Honest (past_of has_past.moves) book = subst (λ (p : Past). Honest p book) has_past.past_is honest in
    let stands : Stands log v = record { course = has_past.moves; log_is = has_past.lean.turns_are; lawful = has_past.lean.lawful; view_is = refl } in
    let both : HoldsNumbered v past book = subst (λ (p : Past). HoldsNumbered v p book) (sym has_past.past_is) (holds-along orders laws book has_past.moves has_past.lean.lawful own) in
    says-kept laws v past book (each-log-folds orders log v stands).kept both poll slot intent (at-in past.polls reported.polled poll reported.poll_is) reported.intent_is has said is_said key_is transaction
