-- What a change of a mark leaves at each slot.
use Rattle.std.proofs.Common.{◌≡◌, ◌∙◌, ℕ, zero, suc, ◌<◌, ◌≤◌, eqb, Bool, true, false, ◌&&◌, ◌||◌, List, [], ◌∷◌, length, get_or, set, Option, Some, None, slice_get, refl, ap, arith}
use Rattle.std.proofs.lemmas.Bool.Decides.{nat_tests}
use Rattle.std.specs.Prelude.{option_map, if◌then◌else◌}
use Rattle.jrn_record.specs.declared.records.Outcome.{Outcome as TheOutcome}
use Rattle.gw_ledger.specs.declared.tables.Mark.{Mark}
use Rattle.gw_ledger.specs.Slots.{is_original}
use Rattle.gw_ledger.specs.Steps.{changed_at, ended_mark, marks_reversed, marks_with, reversed_mark}

eqb_suc : (a b : ℕ) → eqb (suc a) (suc b) ≡ eqb a b
eqb_suc a b = grind (arith, nat_tests)

eqb_past : (a : ℕ) → eqb (suc a) 0 ≡ false
eqb_past a = grind (arith, nat_tests)

eqb_zero : (a : ℕ) → eqb 0 (suc a) ≡ false
eqb_zero a = grind (arith, nat_tests)

pub set_is_changed : (change : Mark → Mark) (marks : List Mark) (slot : ℕ) (d : Mark) → slot < length marks
    → set marks slot (change (get_or marks slot d)) ≡ changed_at change slot marks
set_is_changed change [] slot d inside = absurd (omega arith)
set_is_changed change (mark ∷ marks) zero d inside = refl
set_is_changed change (mark ∷ marks) (suc slot) d inside = ap (λ rest. mark ∷ rest) (set_is_changed change marks slot d (omega arith))

pub past_is_changed : (change : Mark → Mark) (marks : List Mark) (slot : ℕ) → length marks ≤ slot → changed_at change slot marks ≡ marks
past_is_changed change [] slot past = refl
past_is_changed change (mark ∷ marks) zero past = absurd (omega arith)
past_is_changed change (mark ∷ marks) (suc slot) past = ap (λ rest. mark ∷ rest) (past_is_changed change marks slot (omega arith))

pub length-changed : (change : Mark → Mark) (slot : ℕ) (marks : List Mark) → length (changed_at change slot marks) ≡ length marks
length-changed change slot [] = refl
length-changed change zero (mark ∷ marks) = refl
length-changed change (suc slot) (mark ∷ marks) = ap suc (length-changed change slot marks)

pub length-reversed : (approved : Bool) (original : Option ℕ) (marks : List Mark) → length (marks_reversed approved original marks) ≡ length marks
length-reversed false original marks = refl
length-reversed true None marks = refl
length-reversed true (Some original) marks = length-changed reversed_mark original marks

-- the mark of a slot after an Outcome, where that is its own, or reverses it
abbrev pub after_mark : ℕ → Bool → Bool → Mark → Mark
after_mark at own undone mark = record { ended = if own then Some at else mark.ended; reversed = undone || mark.reversed }

get_ended : (at : ℕ) (slot : ℕ) (marks : List Mark) (j : ℕ)
    → slice_get (changed_at (ended_mark at) slot marks) j ≡ option_map (after_mark at (eqb slot j) false) (slice_get marks j)
get_ended at slot [] j = refl
get_ended at zero (mark ∷ marks) zero = refl
get_ended at zero (mark ∷ marks) (suc j) = rw (eqb_zero j) (kept (slice_get marks j))
  where
    kept : (found : Option Mark) → found ≡ option_map (after_mark at false false) found
    kept None = refl
    kept (Some mark) = refl
get_ended at (suc slot) (mark ∷ marks) zero = rw (eqb_past slot) refl
get_ended at (suc slot) (mark ∷ marks) (suc j) = get_ended at slot marks j ∙ rw (eqb_suc slot j) refl

get_reversed : (original : ℕ) (marks : List Mark) (j : ℕ)
    → slice_get (changed_at reversed_mark original marks) j ≡ option_map (after_mark 0 false (eqb original j)) (slice_get marks j)
get_reversed original [] j = refl
get_reversed zero (mark ∷ marks) zero = refl
get_reversed zero (mark ∷ marks) (suc j) = rw (eqb_zero j) (kept (slice_get marks j))
  where
    kept : (found : Option Mark) → found ≡ option_map (after_mark 0 false false) found
    kept None = refl
    kept (Some mark) = refl
get_reversed (suc original) (mark ∷ marks) zero = rw (eqb_past original) refl
get_reversed (suc original) (mark ∷ marks) (suc j) = get_reversed original marks j ∙ rw (eqb_suc original j) refl

joined : (at : ℕ) (own undone : Bool) (found : Option Mark)
    → option_map (after_mark 0 false undone) (option_map (after_mark at own false) found) ≡ option_map (after_mark at own undone) found
joined at own undone None = refl
joined at own undone (Some mark) = refl

get_undone : (at : ℕ) (approved : Bool) (original : Option ℕ) (slot : ℕ) (marks : List Mark) (j : ℕ)
    → slice_get (marks_reversed approved original (changed_at (ended_mark at) slot marks)) j
    ≡ option_map (after_mark at (eqb slot j) (approved && is_original j original)) (slice_get marks j)
get_undone at false original slot marks j = get_ended at slot marks j
get_undone at true None slot marks j = get_ended at slot marks j
get_undone at true (Some original) slot marks j =
    get_reversed original (changed_at (ended_mark at) slot marks) j
    ∙ ap (option_map (after_mark 0 false (eqb original j))) (get_ended at slot marks j)
    ∙ joined at (eqb slot j) (eqb original j) (slice_get marks j)

pub get_marked : (outcome : TheOutcome) (original : Option ℕ) (at : ℕ) (marks : List Mark) (j : ℕ)
    → slice_get (marks_with outcome original at marks) j
    ≡ option_map (after_mark at (eqb outcome.slot j) (outcome.approved && is_original j original)) (slice_get marks j)
get_marked outcome original at marks j = get_undone at outcome.approved original outcome.slot marks j

pub length-marked : (outcome : TheOutcome) (original : Option ℕ) (at : ℕ) (marks : List Mark) → length (marks_with outcome original at marks) ≡ length marks
length-marked outcome original at marks =
    length-reversed outcome.approved original (changed_at (ended_mark at) outcome.slot marks) ∙ length-changed (ended_mark at) outcome.slot marks
