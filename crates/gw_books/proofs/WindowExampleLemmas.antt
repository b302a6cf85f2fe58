-- Which records and books of the examples match, and which don't.
use Rattle.std.proofs.Common.{◌≡◌, ◌≤◌, ◌<◌, ℕ, zero, suc, true, false, List, [], ◌∷◌, Some, None, slice_get, refl, sym, ap, subst, arith}
use Rattle.std.proofs.lemmas.Option.{same_Some}
use Rattle.std.specs.List.{list_all}
use Rattle.zvt_apdu.specs.DecodeStream.{decode_apdus, decode_apdus_within}
use Rattle.zvt_msg.specs.MessageDecode.{decode_pt_message}
use Rattle.jrn_record.specs.declared.records.Intent.{Intent as TheIntent}
use Rattle.jrn_record.specs.declared.records.Outcome.{Outcome as TheOutcome}
use Rattle.jrn_record.specs.declared.records.Record.{Record}
use Rattle.jrn_record.specs.declared.records.Record.TheVariants.{Intent, Outcome}
use Rattle.gw_ledger.specs.History.{history}
use Rattle.gw_ledger.specs.Slots.{intent_at}
use Rattle.gw_owes.proofs.RecordLemmas.{LedgerLaws}
use Rattle.gw_rules.specs.Lawful.{turns_of}
use Rattle.gw_rules.proofs.RecordRowLemmas.{OrderLaws}
use Rattle.gw_books.specs.Kinds.{BookedReversal}
use Rattle.gw_books.specs.Past.{Numbering, is_numbering, numbering_of, Past, past_of}
use Rattle.gw_books.specs.Books.{BookedEntry, Honest}
use Rattle.gw_books.specs.Example.{kept_approval, kept_decline, paid_entry, payment_text, paying_intent, refused_course, refused_past}
use Rattle.gw_books.specs.RecoveryLaws.{is_as_asked}
use Rattle.gw_books.specs.ReversalExample.{paid_kept, reversed_book, reversed_course, reversed_entry, reversed_kept, reversed_past, reversing_intent}
use Rattle.gw_books.specs.ReversalLaws.{kept_after}
use Rattle.gw_books.specs.TillLaws.{declined_entry}
use Rattle.gw_books.specs.WindowExample.{ComingDoesNotMatch, RefusedMatches, ReversedMatches, UnmatchedBooks, WindowEnds, coming_entry, refused_kept}
use Rattle.gw_books.specs.Windows.{HasItsEntry, IsApprovedInWindow, IsNextIntent, Matches, is_caused_before}
use Rattle.gw_books.proofs.BrokenLemmas.{no-false}
use Rattle.gw_books.proofs.CourseLemmas.{refused-lean}
use Rattle.gw_books.proofs.ExampleLemmas.{refused-past}
use Rattle.gw_books.proofs.ReversalExampleLemmas.{reversed-honest, reversed-lean, reversed-past}
use Rattle.gw_books.proofs.WindowLemmas.{honest-matches}

-- ---- what matches

pub reversed-matches : OrderLaws → LedgerLaws → ReversedMatches
reversed-matches orders laws = record { premise = premise; matches = (honest-matches orders laws (turns_of reversed_course) reversed_course reversed_book reversed-lean honest premise).matches }
  where
    past_is : reversed_past ≡ past_of reversed_course
    past_is = sym reversed-past

    honest : Honest (past_of reversed_course) reversed_book
    honest = subst (λ (past : Past). Honest past reversed_book) past_is reversed-honest

    premise : list_all (is_caused_before (past_of reversed_course).place) reversed_book ≡ true
    premise = subst (λ (past : Past). list_all (is_caused_before past.place) reversed_book ≡ true) past_is refl

-- what is kept along the course of the declined payment
kept-refused : kept_after refused_course ≡ refused_kept
unfolding decode_apdus decode_apdus_within decode_pt_message history payment_text
kept-refused = refl

declined-honest : Honest refused_past (declined_entry ∷ [])
declined-honest = record { caused = refl; linked = refl; ordered = refl; numbered = refl; true_ends = refl }

pub refused-matches : OrderLaws → LedgerLaws → RefusedMatches
refused-matches orders laws =
    subst (λ (records : List Record). Matches records (declined_entry ∷ [])) kept-refused
    (honest-matches orders laws (turns_of refused_course) refused_course (declined_entry ∷ []) refused-lean (subst (λ (past : Past). Honest past (declined_entry ∷ [])) (sym refused-past) declined-honest)
    (subst (λ (past : Past). list_all (is_caused_before past.place) (declined_entry ∷ []) ≡ true) (sym refused-past) refl)).matches

-- ---- the window of a lone Intent

-- the window of the payment, which has no next Intent, has each number from 1 on
lone-window : (outcome : TheOutcome) (entry : BookedEntry) → entry.numbering ≡ numbering_of paying_intent → entry.approved ≡ true → 0 < entry.number → IsApprovedInWindow (Intent paying_intent ∷ Outcome outcome ∷ []) 0 paying_intent entry
lone-window outcome entry same approved above = record { numbering_is = same; approved = approved; inside = record { above = above; within = none } }
  where
    none : (next : ℕ) (other : TheIntent) → IsNextIntent (Intent paying_intent ∷ Outcome outcome ∷ []) 0 (numbering_of paying_intent) next other → entry.number ≤ other.before
    none zero other is = let follows = is.later in absurd (omega (arith, follows))
    none (suc zero) other is = let clash : None ≡ Some other = is.intent_is in absurd cc
    none (suc (suc next)) other is = let clash : None ≡ Some other = is.intent_is in absurd cc

-- ---- where windows end

-- the reversal is the next Intent after the payment
next-is : IsNextIntent reversed_kept 0 (numbering_of paying_intent) 2 reversing_intent
next-is = record { intent_is = refl; numbering_is = refl; later = omega arith; first = none }
  where
    none : (between : ℕ) (other : TheIntent) → 0 < between → between < 2 → intent_at reversed_kept between ≡ Some other → numbering_of other ≡ numbering_of paying_intent → ⊥
    none zero other follows until is same = absurd (omega (arith, follows))
    none (suc zero) other follows until is same = let clash : None ≡ Some other = is in cc
    none (suc (suc between)) other follows until is same = absurd (omega (arith, until))

-- after the reversal there is none
none-next : (next : ℕ) (other : TheIntent) → IsNextIntent reversed_kept 2 (numbering_of reversing_intent) next other → 124 ≤ other.before
none-next zero other is = let follows = is.later in absurd (omega (arith, follows))
none-next (suc zero) other is = let follows = is.later in absurd (omega (arith, follows))
none-next (suc (suc zero)) other is = let follows = is.later in absurd (omega (arith, follows))
none-next (suc (suc (suc zero))) other is = let clash : None ≡ Some other = is.intent_is in absurd cc
none-next (suc (suc (suc (suc next)))) other is = let clash : None ≡ Some other = is.intent_is in absurd cc

-- each Intent after the payment's is the reversal's
until-next : (next : ℕ) (other : TheIntent) → IsNextIntent reversed_kept 0 (numbering_of paying_intent) next other → 123 ≤ other.before
until-next zero other is = let follows = is.later in absurd (omega (arith, follows))
until-next (suc zero) other is = let clash : None ≡ Some other = is.intent_is in absurd cc
until-next (suc (suc zero)) other is = let before : 123 ≡ other.before = ap (λ (intent : TheIntent). intent.before) (same_Some reversing_intent other is.intent_is) in omega (arith, before)
until-next (suc (suc (suc zero))) other is = let clash : None ≡ Some other = is.intent_is in absurd cc
until-next (suc (suc (suc (suc next)))) other is = let clash : None ≡ Some other = is.intent_is in absurd cc

pub window-ends : WindowEnds
window-ends = record {
  lower = λ is. let above : 123 < 123 = is.above in omega (arith, above);
  first = record { above = omega arith; within = none-next };
  last = record { above = omega arith; within = until-next };
  upper = λ is. let below : 124 ≤ 123 = is.within 2 reversing_intent next-is in omega (arith, below);
}

-- ---- a command that is still to come

coming-honest : Honest refused_past (coming_entry ∷ [])
coming-honest = record { caused = refl; linked = refl; ordered = refl; numbered = refl; true_ends = refl }

coming-apart : ¬ Matches refused_kept (coming_entry ∷ [])
coming-apart matches = matches.declined 1 kept_decline paying_intent refl refl refl 0 coming_entry refl (lone-window kept_decline coming_entry refl refl (omega arith))

pub coming-does-not-match : ComingDoesNotMatch
coming-does-not-match = record {
  lean = refused-lean;
  honest = subst (λ (past : Past). Honest past (coming_entry ∷ [])) (sym refused-past) coming-honest;
  no_premise = subst (λ (past : Past). list_all (is_caused_before past.place) (coming_entry ∷ []) ≡ false) (sym refused-past) refl;
  apart = λ matches. coming-apart (subst (λ (records : List Record). Matches records (coming_entry ∷ [])) kept-refused matches);
}

-- ---- the entry of the approved payment

-- what the one entry of a book is like that matches the approved payment
record IsPaid (entry : BookedEntry) : Type 0 where
  approved : entry.approved ≡ true
  numbering : is_numbering entry.numbering (numbering_of paying_intent) ≡ true
  kind : is_as_asked paying_intent entry ≡ true
  number : entry.number ≡ 123
  receipt : entry.receipt ≡ 17
  amount : entry.amount ≡ 1099

only : (one other : BookedEntry) (at : ℕ) → slice_get (one ∷ []) at ≡ Some other → other ≡ one
only one other zero found = sym (same_Some one other found)
only one other (suc at) found = let clash : None ≡ Some other = found in absurd cc

its-entry : (entry : BookedEntry) → Matches paid_kept (entry ∷ []) → IsPaid entry
its-entry entry matches = subst IsPaid (only entry has.entry has.at has.found) (record {
  approved = has.in_window.approved;
  numbering = ap (λ (numbering : Numbering). is_numbering numbering (numbering_of paying_intent)) has.in_window.numbering_is;
  kind = has.kind;
  number = has.number;
  receipt = has.receipt;
  amount = has.amount;
})
  where
    has : HasItsEntry paid_kept (entry ∷ []) paying_intent kept_approval
    has = matches.approved 1 kept_approval paying_intent refl refl refl

-- ---- what doesn't match

unfolded : ¬ Matches (Outcome kept_approval ∷ []) []
unfolding history
unfolded matches = no-false matches.folded.fit.0

unbooked : ¬ Matches paid_kept []
unbooked matches =
    let has = matches.approved 1 kept_approval paying_intent refl refl refl in
    let clash : None ≡ Some has.entry = has.found in
    cc

two-in-window : ¬ Matches paid_kept reversed_book
two-in-window matches =
    let same : 0 ≡ 1 = matches.once 0 paying_intent 0 1 paid_entry reversed_entry refl refl refl (lone-window kept_approval paid_entry refl refl (omega arith)) (lone-window kept_approval reversed_entry refl refl (omega arith)) in
    omega (arith, same)

pub unmatched-books : UnmatchedBooks
unmatched-books = record {
  folded = unfolded;
  rises = λ matches. let falls : 124 < 123 = matches.rises 0 1 reversed_entry paid_entry (omega arith) refl refl refl in omega (arith, falls);
  falls = λ matches. let falls : 124 < 123 = matches.rises 0 1 (record declined_entry { number = 124 }) paid_entry (omega arith) refl refl refl in omega (arith, falls);
  same = λ matches. let above : 123 < 123 = matches.rises 0 1 declined_entry paid_entry (omega arith) refl refl refl in omega (arith, above);
  once = two-in-window;
  unbooked = unbooked;
  unapproved = λ matches. no-false (its-entry declined_entry matches).approved;
  terminal = λ matches. no-false (its-entry _ matches).numbering;
  kind = λ matches. no-false (its-entry _ matches).kind;
  number = λ matches. let clash = (its-entry _ matches).number in omega (arith, clash);
  receipt = λ matches. let clash = (its-entry _ matches).receipt in omega (arith, clash);
  amount = λ matches. let clash = (its-entry _ matches).amount in omega (arith, clash);
  declined = λ matches. matches.declined 1 kept_decline paying_intent refl refl refl 0 paid_entry refl (lone-window kept_decline paid_entry refl refl (omega arith));
  declined_kind = λ matches. matches.declined 1 kept_decline paying_intent refl refl refl 0 (record paid_entry { kind = BookedReversal }) refl (lone-window kept_decline (record paid_entry { kind = BookedReversal }) refl refl (omega arith));
}
