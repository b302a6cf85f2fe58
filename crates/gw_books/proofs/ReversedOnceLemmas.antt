-- A payment is reversed at most once along a lean course and a book that is honest for it, and only one that the book has.
use Rattle.std.proofs.Common.{◌≡◌, ◌∙◌, ℕ, zero, suc, Bool, true, false, List, [], ◌∷◌, refl, sym, ap, subst, inl, inr, eqb, eqb-true, eq-eqb}
use Rattle.std.proofs.lemmas.Option.{same_Some}
use Rattle.std.specs.Prelude.{slice_get, Option, Some, None, option_and_then, option_to_list}
use Rattle.gw_base.specs.declared.key.Key.{Key}
use Rattle.gw_site.specs.declared.turn.Turn.{Turn}
use Rattle.jrn_record.specs.declared.records.Intent.{Intent as TheIntent}
use Rattle.jrn_record.specs.declared.records.Outcome.{Outcome as TheOutcome}
use Rattle.gw_ledger.specs.declared.entry.Entry.{Entry as TheEntry}
use Rattle.gw_ledger.specs.Fold.{AreFolded}
use Rattle.gw_ledger.specs.Keys.{intent_key}
use Rattle.gw_ledger.specs.Laws.{HasApproval, IsOriginalOf}
use Rattle.gw_ledger.specs.Reversals.{IsDeclined, IsReversalOf, OriginalIsPayment, OthersAreDeclined}
use Rattle.gw_ledger.specs.Slots.{entry_at, intent_at}
use Rattle.gw_owes.specs.Calls.{records_kept}
use Rattle.gw_owes.proofs.RecordLemmas.{LedgerLaws, entry-parts}
use Rattle.gw_rules.specs.Laws.{IsLeanCourse}
use Rattle.gw_rules.specs.Scene.{records_of}
use Rattle.gw_rules.specs.View.{Move, view_from, at_first}
use Rattle.gw_rules.proofs.RecordRowLemmas.{OrderLaws}
use Rattle.gw_books.specs.Kinds.{booked_kind_of}
use Rattle.gw_books.specs.Past.{Past, past_of}
use Rattle.gw_books.specs.Books.{BookedEntry, Honest, is_caused}
use Rattle.gw_books.specs.Agrees.{entry_key, key_at_place}
use Rattle.gw_books.specs.ReversalLaws.{BookedReversedOnce, EntryIsAsAsked, IsBookedReversal, IsOfPaid, OnlyPaidIsReversed, kept_after}
use Rattle.gw_books.proofs.AgreeLemmas.{booked-apart, entry-kind}
use Rattle.gw_books.proofs.HeadlineLemmas.{holds-along, lean-folds}
use Rattle.gw_books.proofs.Holding.{AreKeyed, AreOutcomesTrue, BearsOut, Holds, IsApprovalTrue, IsDeclineTrue}
use Rattle.gw_books.proofs.KeyedLemmas.{AreApart, caused-for, key-sent}
use Rattle.gw_books.proofs.ListLemmas.{In, all-in}
use Rattle.gw_books.proofs.RecordMoreLemmas.{outcomes-of-first}
use Rattle.gw_books.proofs.ReplyTruthLemmas.{has-outcome}
use Rattle.gw_books.proofs.TillLemmas.{at-in, in-at}

-- of a list whose keys are apart one has the key
pub apart-one : {A : Type 0} (f : A → Option Key) (list : List A) → AreApart f list → (first second : ℕ) (x y : A) (key : Key) → slice_get list first ≡ Some x → slice_get list second ≡ Some y → f x ≡ Some key → f y ≡ Some key
    → first ≡ second
apart-one f [] apart first second x y key at also mine yours = absurd cc
apart-one f (one ∷ list) apart zero zero x y key at also mine yours = refl
apart-one f (one ∷ list) apart zero (suc second) x y key at also mine yours = absurd (apart.0 y (at-in list second y also) key (ap f (same_Some one x at) ∙ mine) yours)
apart-one f (one ∷ list) apart (suc first) zero x y key at also mine yours = absurd (apart.0 x (at-in list first x at) key (ap f (same_Some one y also) ∙ yours) mine)
apart-one f (one ∷ list) apart (suc first) (suc second) x y key at also mine yours = ap suc (apart-one f list apart.1 first second x y key at also mine yours)

module _ (orders : OrderLaws) (laws : LedgerLaws) (log : List Turn) (moves : List Move) (book : List BookedEntry) (lean : IsLeanCourse log moves) (honest : Honest (past_of moves) book) where
  abbrev past : Past
  past = past_of moves

  folded : AreFolded (kept_after moves)
  folded = lean-folds orders log moves lean

  along : Holds (view_from at_first moves) past book
  along = (holds-along orders laws book moves lean.lawful honest).holds

  keyed : AreKeyed (kept_after moves) past.place past.commands
  keyed = along.commands

  -- the Outcomes that are kept are true
  outcomes : AreOutcomesTrue past.commands book past.place (kept_after moves)
  outcomes =
      let scene = (view_from at_first moves).scene in
      outcomes-of-first past.commands book past.place scene.kept (option_to_list scene.flight)
      (outcomes-of-first past.commands book past.place (records_of scene) (records_kept (view_from at_first moves).calls) along.outcomes)

  caused : (entry : BookedEntry) → In entry book → is_caused past entry entry.cause ≡ true
  caused = all-in (λ (entry : BookedEntry). is_caused past entry entry.cause) book honest.caused

  entry-asked : (slot : ℕ) (entry : BookedEntry) (intent : TheIntent) → In entry book → intent_at (kept_after moves) slot ≡ Some intent → entry_key past entry ≡ Some (intent_key intent)
      → entry.kind ≡ booked_kind_of intent.what
  entry-asked slot entry intent within intent_is key_is =
      let sent = caused-for past entry (intent_key intent) key_is in
      entry-kind laws (kept_after moves) folded past keyed entry (caused entry within) sent.command sent.sent sent.cause_is slot intent intent_is sent.key_is

  -- the Outcome of an entry is borne out
  borne : (slot : ℕ) (entry : TheEntry) (outcome : TheOutcome) (approved : Bool) → entry_at (kept_after moves) slot ≡ Some entry → entry.result ≡ Some outcome → outcome.approved ≡ approved
      → BearsOut approved past.commands book past.place (intent_key entry.intent) outcome
  borne slot entry outcome approved is result approved_is =
      let has = has-outcome laws (kept_after moves) folded slot entry outcome is result in
      subst (λ b. BearsOut b past.commands book past.place (intent_key entry.intent) outcome) approved_is
      (outcomes has.at outcome entry.intent has.found (ap (intent_at (kept_after moves)) has.slot_is ∙ has.intent_is))

  -- a reversal that is booked isn't declined
  not-declined : (payment : ℕ) (entry : BookedEntry) → In entry book → (is : IsBookedReversal (kept_after moves) past payment entry) → IsDeclined is.reversal.result → ⊥
  not-declined payment entry within is declined = by-result is.reversal.result refl declined
    where
      by-result : (result : Option TheOutcome) → is.reversal.result ≡ result → IsDeclined result → ⊥
      by-result None result_is none = none
      by-result (Some outcome) result_is refused =
          let none : IsDeclineTrue past.commands book (intent_key is.reversal.intent) = borne is.reversal.slot is.reversal outcome false is.reverses.kept result_is refused in
          let sent = caused-for past entry (intent_key is.reversal.intent) is.key_is in
          let never : entry.approved ≡ false = none sent.command sent.sent sent.key_is entry within sent.cause_is in
          let clash : true ≡ false = sym is.approved ∙ never in
          cc

  reversed-once : OthersAreDeclined → (payment first second : ℕ) (one other : BookedEntry) → slice_get book first ≡ Some one → slice_get book second ≡ Some other
      → IsBookedReversal (kept_after moves) past payment one → IsBookedReversal (kept_after moves) past payment other → first ≡ second
  reversed-once others payment first second one other at also a b = by-slots (eqb a.reversal.slot b.reversal.slot) refl
    where
      by-slots : (same : Bool) → eqb a.reversal.slot b.reversal.slot ≡ same → first ≡ second
      by-slots true same =
          let slots : a.reversal.slot ≡ b.reversal.slot = eqb-true a.reversal.slot b.reversal.slot same in
          let reversals : a.reversal ≡ b.reversal = same_Some a.reversal b.reversal (sym a.reverses.kept ∙ ap (entry_at (kept_after moves)) slots ∙ b.reverses.kept) in
          apart-one (entry_key past) book (booked-apart (kept_after moves) past keyed book honest.caused honest.ordered) first second one other (intent_key b.reversal.intent) at also
          (a.key_is ∙ ap (λ (e : TheEntry). Some (intent_key e.intent)) reversals) b.key_is
      by-slots false apart = elim (others (kept_after moves) folded payment a.reversal b.reversal a.reverses b.reverses (λ same. absurd (apart-slots same))) [
        | inl declined ↦ absurd (not-declined payment one (at-in book first one at) a declined)
        | inr declined ↦ absurd (not-declined payment other (at-in book second other also) b declined)
      ]
        where
          apart-slots : a.reversal.slot ≡ b.reversal.slot → ⊥
          apart-slots same = let clash : true ≡ false = sym (eq-eqb a.reversal.slot b.reversal.slot same) ∙ apart in cc

  -- the payment that a reversal refers to is booked
  paid-booked : (payment : ℕ) (reversal original : TheEntry) → entry_at (kept_after moves) payment ≡ Some original → IsOriginalOf reversal.intent original → IsOfPaid (kept_after moves) past book payment reversal
  paid-booked payment reversal original kept is_original = by-result original.result refl is_original.approved
    where
      intent_is : intent_at (kept_after moves) payment ≡ Some original.intent
      intent_is = (entry-parts (kept_after moves) payment original kept).1

      by-result : (result : Option TheOutcome) → original.result ≡ result → HasApproval reversal.intent.amount result → IsOfPaid (kept_after moves) past book payment reversal
      by-result None result_is none = absurd none
      by-result (Some outcome) result_is approved =
          let key = intent_key original.intent in
          let bears : IsApprovalTrue past.commands book past.place key outcome = borne payment original outcome true kept result_is approved.0 in
          let booked = bears.booked in
          let found = in-at book booked.entry booked.within in
          let key_is : entry_key past booked.entry ≡ Some key =
          ap (option_and_then (key_at_place past.commands)) booked.caused ∙ (key-sent past.place past.commands keyed.falling bears.command bears.sent ∙ bears.key_is) in
          record {
            original = original;
            kept_is = kept;
            is_original = is_original;
            at = found.0;
            paid = booked.entry;
            found = found.1;
            key_is = key_is;
            approved = booked.approved;
            is_payment = entry-asked payment booked.entry original.intent booked.within intent_is key_is ∙ ap booked_kind_of is_original.what;
            whole = booked.amount ∙ approved.1;
          }

  only-paid : OriginalIsPayment → (payment : ℕ) (reversal : TheEntry) → IsReversalOf (kept_after moves) payment reversal → IsOfPaid (kept_after moves) past book payment reversal
  only-paid originals payment reversal is = let has = originals (kept_after moves) folded payment reversal is in paid-booked payment reversal has.original has.kept has.is_original

pub booked-reversed-once : OrderLaws → LedgerLaws → OthersAreDeclined → BookedReversedOnce
booked-reversed-once orders laws others log moves book payment first second one other lean honest at also a b = reversed-once orders laws log moves book lean honest others payment first second one other at also a b

pub only-paid-is-reversed : OrderLaws → LedgerLaws → OriginalIsPayment → OnlyPaidIsReversed
only-paid-is-reversed orders laws originals log moves book payment reversal lean honest is = only-paid orders laws log moves book lean honest originals payment reversal is

pub entry-is-as-asked : OrderLaws → LedgerLaws → EntryIsAsAsked
entry-is-as-asked orders laws log moves book at slot entry intent lean honest found intent_is key_is = entry-asked orders laws log moves book lean honest slot entry intent (at-in book at entry found) intent_is key_is
