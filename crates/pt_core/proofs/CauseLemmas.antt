-- Two entries have one cause only where a sending completes several requests.
use Rattle.std.proofs.Common.{◌≡◌, ℕ, zero, suc, ◌+◌, ◌≤◌, List, [], ◌∷◌, ◌++◌, length, Some, sym, ap, subst, ◌∙◌, arith, inl, inr}
use Rattle.std.specs.Prelude.{slice_get}
use Rattle.std.specs.List.{AllByRecursion}
use Rattle.std.proofs.lemmas.Bool.{cases_lt}
use Rattle.std.proofs.lemmas.List.{length-append}
use Rattle.zvt_apdu.specs.Grammar.{ApduValue}
use Rattle.pt_core.specs.History.{Setting, Chunk, all_handled, book_of}
use Rattle.pt_core.specs.Exchange.{Exchange, Sends, PlacedEntry, CompletesTwo, HasOwnCauses, HasTrueCause, met_of, placed_book}
use Rattle.pt_core.proofs.SplitLemmas.{Laws}
use Rattle.pt_core.proofs.PlaceLemmas.{true_causes}

-- what holds of each holds at an index
at_index : {X : Type 0} (P : X → Type 0) (xs : List X) (i : ℕ) (x : X) → slice_get xs i ≡ Some x → AllByRecursion P xs → P x
at_index P [] i x e all = absurd cc
at_index P (y ∷ xs) zero x e all = let same : y ≡ x = cc in subst P same all.0
at_index P (y ∷ xs) (suc i) x e all = at_index P xs i x e all.1

tail_of : {X : Type 0} (x y : X) (xs ys : List X) → x ∷ xs ≡ y ∷ ys → xs ≡ ys
tail_of x y xs ys e = cc

-- a list isn't its own rest
no_longer : {X : Type 0} (y : X) (ys a b : List X) → a ≡ y ∷ (ys ++ b) → length a ≡ length b → ⊥
no_longer {X} y ys a b e same = let long = ap (λ (l : List X). length l) e in omega (arith, long, same, length-append ys b)

-- two rests of one list that are equally long are the same
same_rest : {X : Type 0} (xs ys a b : List X) → xs ++ a ≡ ys ++ b → length a ≡ length b → a ≡ b
same_rest [] [] a b e same = e
same_rest [] (y ∷ ys) a b e same = absurd (no_longer y ys a b e same)
same_rest (x ∷ xs) [] a b e same = absurd (no_longer x xs b a (sym e) (sym same))
same_rest (x ∷ xs) (y ∷ ys) a b e same = same_rest xs ys a b (tail_of x y (xs ++ a) (ys ++ b) e) same

-- what a sending is, and the exchanges before it
sent_bytes : (one other : List ℕ) (before after : List Exchange) → Sends one ∷ before ≡ Sends other ∷ after → one ≡ other
sent_bytes one other before after e = cc

-- a request and those before it are no more than all
one_more : (first later : List ApduValue) (apdu : ApduValue) (all : List ApduValue) → all ≡ later ++ apdu ∷ first → length first + 1 ≤ length all
one_more first later apdu all e = let whole = ap (λ (l : List ApduValue). length l) e in omega (arith, whole, length-append later (apdu ∷ first))

-- two requests with different numbers of requests before them, both completed by what follows the first ones
two_of : (one other before all : ℕ) → (one ≡ other → ⊥) → before ≤ one → before ≤ other → one + 1 ≤ all → other + 1 ≤ all → before + 2 ≤ all
two_of one other before all apart first second third fourth =
    elim (cases_lt one other) [
      | inl less ↦ omega (arith, less, first, second, third, fourth)
      | inr more ↦
          elim (cases_lt other one) [
            | inl less ↦ omega (arith, less, first, second, third, fourth)
            | inr equal ↦ absurd (apart (omega (arith, more, equal)))
          ]
    ]

own_cause : (setting : Setting) (exchanges : List Exchange) (entry another : PlacedEntry) → HasTrueCause setting exchanges entry → HasTrueCause setting exchanges another
    → (entry.entry.number ≡ another.entry.number → ⊥) → entry.cause ≡ another.cause → CompletesTwo setting exchanges entry.cause
own_cause setting exchanges entry another here there apart shared =
    let level : length here.before ≡ length there.before = sym here.cause ∙ shared ∙ there.cause in
    let deep : length (Sends here.bytes ∷ here.before) ≡ length (Sends there.bytes ∷ there.before) = ap (λ (n : ℕ). suc n) level in
    let one_sending = same_rest here.after there.after (Sends here.bytes ∷ here.before) (Sends there.bytes ∷ there.before) (sym here.parts ∙ there.parts) deep in
    let bytes_are : there.bytes ≡ here.bytes = sym (sent_bytes here.bytes there.bytes here.before there.before one_sending) in
    let before_are : there.before ≡ here.before = sym (tail_of (Sends here.bytes) (Sends there.bytes) here.before there.before one_sending) in
    let start = all_handled setting (met_of here.before) in
    let all = all_handled setting (Chunk here.bytes ∷ met_of here.before) in
    let there_completed : all ≡ there.later ++ there.apdu ∷ there.first =
    sym (ap (λ (b : List ℕ). all_handled setting (Chunk b ∷ met_of here.before)) bytes_are) ∙ sym (ap (λ (x : List Exchange). all_handled setting (Chunk there.bytes ∷ met_of x)) before_are) ∙ there.completed in
    let not_before : length start ≤ length there.first = subst (λ (x : List Exchange). length (all_handled setting (met_of x)) ≤ length there.first) before_are there.not_before in
    let counted = one_more here.first here.later here.apdu all here.completed in
    let counted_there = one_more there.first there.later there.apdu all there_completed in
    let differ : length here.first ≡ length there.first → ⊥ = λ same.
    let e : here.apdu ∷ here.first ≡ there.apdu ∷ there.first =
    same_rest here.later there.later (here.apdu ∷ here.first) (there.apdu ∷ there.first) (sym here.completed ∙ there_completed) (ap (λ (n : ℕ). suc n) same) in
    apart (here.follows.number ∙ ap (λ (l : List ApduValue). length (book_of setting l) + 1) (tail_of here.apdu there.apdu here.first there.first e) ∙ sym there.follows.number) in
    record {
      after = here.after;
      bytes = here.bytes;
      before = here.before;
      parts = here.parts;
      position = here.cause;
      two = two_of (length here.first) (length there.first) (length start) (length all) differ here.not_before not_before counted counted_there;
    }

pub own_causes : Laws → (setting : Setting) (exchanges : List Exchange) → HasOwnCauses setting exchanges (placed_book setting exchanges)
own_causes laws setting exchanges one other entry another is is_other apart shared =
    let all = true_causes laws setting exchanges in
    let P = HasTrueCause setting exchanges in
    own_cause setting exchanges entry another (at_index P (placed_book setting exchanges) one entry is all) (at_index P (placed_book setting exchanges) other another is_other all) apart shared
