-- The entries of the book have their places and their causes.
use Rattle.std.proofs.Common.{◌≡◌, ℕ, ◌+◌, List, [], ◌∷◌, ◌++◌, length, drop, refl, sym, ap, subst, ◌∙◌, append-nil, arith}
use Rattle.std.specs.Prelude.{map}
use Rattle.std.specs.List.{AllByRecursion}
use Rattle.std.proofs.lemmas.List.{map-append}
use Rattle.std.proofs.Math.Seq.{drop-append_seam}
use Rattle.zvt_apdu.specs.Grammar.{ApduValue}
use Rattle.zvt_msg.specs.CommandDecode.{decode_command}
use Rattle.pt_core.specs.declared.book.BookEntry.{BookEntry}
use Rattle.pt_core.specs.Table.{entries_of}
use Rattle.pt_core.specs.History.{Setting, Met, NewLink, Chunk, all_handled, book_after, book_of, play_left, reaction_after}
use Rattle.pt_core.specs.Honest.{Books}
use Rattle.pt_core.specs.Exchange.{Exchange, Links, Sends, Hears, PlacedEntry, HasTrueCause, met_of, placed_at, placed_book}
use Rattle.pt_core.proofs.SplitLemmas.{Laws}
use Rattle.pt_core.proofs.HonestLemmas.{booked}
use Rattle.pt_core.proofs.GrowthLemmas.{IsAdded, added, all_added, book_added, chunk_follows, each, each_append}

-- ---- what a sending adds

abbrev new_entries : Setting → List Exchange → List ℕ → List BookEntry
new_entries setting exchanges bytes = drop (length (book_after setting (met_of exchanges))) (book_after setting (Chunk bytes ∷ met_of exchanges))

record Adds (setting : Setting) (exchanges : List Exchange) (bytes : List ℕ) : Type 0 where
  more : List ApduValue
  handled_is : all_handled setting (Chunk bytes ∷ met_of exchanges) ≡ more ++ all_handled setting (met_of exchanges)
  book_is : book_after setting (Chunk bytes ∷ met_of exchanges) ≡ book_after setting (met_of exchanges) ++ added setting more (all_handled setting (met_of exchanges))
  new_is : new_entries setting exchanges bytes ≡ added setting more (all_handled setting (met_of exchanges))

adds : Laws → (setting : Setting) (exchanges : List Exchange) (bytes : List ℕ) → Adds setting exchanges bytes
adds laws setting exchanges bytes =
    let before = all_handled setting (met_of exchanges) in
    let follows = chunk_follows laws setting (met_of exchanges) bytes in
    let book_is = ap (book_of setting) follows.1 ∙ book_added setting follows.0 before in
    record {
      more = follows.0;
      handled_is = follows.1;
      book_is = book_is;
      new_is = ap (λ (b : List BookEntry). drop (length (book_of setting before)) b) book_is ∙ drop-append_seam (book_of setting before) (added setting follows.0 before);
    }

-- ---- the cause of each entry

later_too : (setting : Setting) (what : Exchange) (exchanges : List Exchange) (placed : PlacedEntry) → HasTrueCause setting exchanges placed → HasTrueCause setting (what ∷ exchanges) placed
later_too setting what exchanges placed true_ = record {
  after = what ∷ true_.after;
  bytes = true_.bytes;
  before = true_.before;
  parts = ap (λ (l : List Exchange). what ∷ l) true_.parts;
  cause = true_.cause;
  place = true_.place;
  first = true_.first;
  apdu = true_.apdu;
  later = true_.later;
  completed = true_.completed;
  not_before = true_.not_before;
  booked = true_.booked;
  caused = true_.caused;
  follows = true_.follows;
}

abbrev placed : ℕ → BookEntry → PlacedEntry
placed position entry = record { cause = position; place = position + 1; entry = entry }

new_cause : (setting : Setting) (exchanges : List Exchange) (bytes : List ℕ) (more : List ApduValue)
    → all_handled setting (Chunk bytes ∷ met_of exchanges) ≡ more ++ all_handled setting (met_of exchanges)
    → (entry : BookEntry) → IsAdded setting more (all_handled setting (met_of exchanges)) entry → HasTrueCause setting (Sends bytes ∷ exchanges) (placed (length exchanges) entry)
new_cause setting exchanges bytes more handled_is entry is_added =
    let first = is_added.first in
    let apdu = is_added.apdu in
    let P : List BookEntry → Type 0 = λ e. Books (book_of setting first) (decode_command apdu) e in
    let books : Books (book_of setting first) (decode_command apdu) (entry ∷ []) =
    subst P is_added.booked (booked setting.none (play_left setting.plays first) (book_of setting first) apdu.class (decode_command apdu)) in
    record {
      after = [];
      bytes = bytes;
      before = exchanges;
      parts = refl;
      cause = refl;
      place = refl;
      first = first;
      apdu = apdu;
      later = is_added.later;
      completed = handled_is ∙ is_added.parts;
      not_before = is_added.not_before;
      booked = is_added.booked;
      caused = books.0;
      follows = books.1;
    }

each_placed : (P : PlacedEntry → Type 0) (position : ℕ) (entries : List BookEntry) → AllByRecursion (λ entry. P (placed position entry)) entries → AllByRecursion P (placed_at position entries)
each_placed P position [] all = tt
each_placed P position (entry ∷ entries) all = (all.0, each_placed P position entries all.1)

pub true_causes : Laws → (setting : Setting) (exchanges : List Exchange) → AllByRecursion (HasTrueCause setting exchanges) (placed_book setting exchanges)
true_causes laws setting [] = tt
true_causes laws setting (Links ∷ exchanges) =
    each (HasTrueCause setting exchanges) (HasTrueCause setting (Links ∷ exchanges)) (later_too setting Links exchanges) (placed_book setting exchanges) (true_causes laws setting exchanges)
true_causes laws setting (Hears bytes ∷ exchanges) =
    each (HasTrueCause setting exchanges) (HasTrueCause setting (Hears bytes ∷ exchanges)) (later_too setting (Hears bytes) exchanges) (placed_book setting exchanges) (true_causes laws setting exchanges)
true_causes laws setting (Sends bytes ∷ exchanges) =
    let P = HasTrueCause setting (Sends bytes ∷ exchanges) in
    let step = adds laws setting exchanges bytes in
    let before = all_handled setting (met_of exchanges) in
    let Q : List BookEntry → Type 0 = λ entries. AllByRecursion P (placed_at (length exchanges) entries) in
    each_append P (placed_book setting exchanges) (placed_at (length exchanges) (new_entries setting exchanges bytes))
    (each (HasTrueCause setting exchanges) P (later_too setting (Sends bytes) exchanges) (placed_book setting exchanges) (true_causes laws setting exchanges))
    (subst Q (sym step.new_is)
    (each_placed P (length exchanges) (added setting step.more before)
    (each (IsAdded setting step.more before) (λ entry. P (placed (length exchanges) entry)) (new_cause setting exchanges bytes step.more step.handled_is) (added setting step.more before) (all_added setting step.more before))))

-- ---- the entries are those of the book

entries_placed : (position : ℕ) (entries : List BookEntry) → map (λ (p : PlacedEntry). p.entry) (placed_at position entries) ≡ entries
entries_placed position [] = refl
entries_placed position (entry ∷ entries) = ap (λ (l : List BookEntry). entry ∷ l) (entries_placed position entries)

pub placed_entries : Laws → (setting : Setting) → book_after setting [] ≡ [] → ((met : List Met) → book_after setting (NewLink ∷ met) ≡ book_after setting met)
    → (exchanges : List Exchange) → map (λ (p : PlacedEntry). p.entry) (placed_book setting exchanges) ≡ book_after setting (met_of exchanges)
placed_entries laws setting empty link [] = sym empty
placed_entries laws setting empty link (Links ∷ exchanges) = placed_entries laws setting empty link exchanges ∙ sym (link (met_of exchanges))
placed_entries laws setting empty link (Hears bytes ∷ exchanges) = placed_entries laws setting empty link exchanges
placed_entries laws setting empty link (Sends bytes ∷ exchanges) =
    let step = adds laws setting exchanges bytes in
    let book = book_after setting (met_of exchanges) in
    let new = added setting step.more (all_handled setting (met_of exchanges)) in
    map-append (λ (p : PlacedEntry). p.entry) (placed_book setting exchanges) (placed_at (length exchanges) (new_entries setting exchanges bytes))
    ∙ ap (λ (l : List BookEntry). l ++ map (λ (p : PlacedEntry). p.entry) (placed_at (length exchanges) (new_entries setting exchanges bytes))) (placed_entries laws setting empty link exchanges)
    ∙ ap (λ (l : List BookEntry). book ++ l) (entries_placed (length exchanges) (new_entries setting exchanges bytes) ∙ step.new_is)
    ∙ sym step.book_is
