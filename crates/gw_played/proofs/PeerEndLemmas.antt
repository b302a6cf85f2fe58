-- What ends a dialogue with a played terminal is true of its book, where no command was sent since it was heard.
use Rattle.std.proofs.Common.{◌≡◌, ◌≤◌, ◌<◌, ◌∙◌, ℕ, suc, ◌-◌, Bool, true, false, ◌&&◌, ◌||◌, not, eqb, List, [], ◌∷◌, length, inl, inr, refl, sym, ap, subst, arith}
use Rattle.std.specs.Prelude.{◌⊎◌, bytes_eq, filter, map, nat_le, slice_get, if◌then◌else◌, Option, Some, None}
use Rattle.std.specs.List.{list_all, list_any, last_or}
use Rattle.std.specs.Option.{option_to_list}
use Rattle.std.proofs.lemmas.Bool.{eqb-true, le-leb}
use Rattle.std.proofs.lemmas.Bool.Decides.{nat_tests}
use Rattle.gw_base.specs.declared.figures.Figures.{Figures}
use Rattle.zvt_apdu.specs.Grammar.{ApduValue}
use Rattle.zvt_msg.specs.declared.command.Command.{Command}
use Rattle.zvt_msg.specs.CommandDecode.{decode_command}
use Rattle.zvt_talk.specs.declared.meaning.Heard.TheVariants as heard
use Rattle.pt_core.specs.declared.book.BookEntry.{BookEntry}
use Rattle.pt_core.specs.Book.{last_book_entry}
use Rattle.pt_core.specs.Ends.{IsReported, IsTrueEnd, entry_figures}
use Rattle.pt_core.specs.History.{Setting, book_after, book_of, play_left, reaction_after}
use Rattle.pt_core.specs.Honest.{Books}
use Rattle.pt_core.specs.Table.{entries_of}
use Rattle.pt_core.proofs.HonestLemmas.{booked}
use Rattle.gw_books.specs.Books.{BookedEntry, has_figures, is_caused_by, is_last_entry, is_over, is_true, was_booked}
use Rattle.gw_books.specs.Past.{SentCommand, Ending, Approved, Declined, Reported, HeardEnd, Past}
use Rattle.gw_books.proofs.ListLemmas.{In, all-from, any-from, bytes-itself, in-either}
use Rattle.gw_played.specs.Played.{PlacedExchange, book_along, placed_entry, played_numbering}
use Rattle.gw_played.proofs.Playing.{IsHonestFor, IsLastServed, PeerLaws, met_in}
use Rattle.gw_played.proofs.HonestGrowLemmas.{book-plain, in-map, plain_entry}

-- ---- tests

own-number : (n : ℕ) → eqb n n ≡ true
own-number n = grind (arith, nat_tests)

-- the cause of an entry
caused-by : (place : ℕ) (entry : BookedEntry) → is_caused_by place entry ≡ true → entry.cause ≡ Some place
caused-by place entry is = by-cause entry.cause is
  where
    by-cause : (cause : Option ℕ) → list_any (λ (one : ℕ). eqb one place) (option_to_list cause) ≡ true → cause ≡ Some place
    by-cause None is = absurd cc
    by-cause (Some one) is = by-test (eqb one place) refl is
      where
        by-test : (b : Bool) → eqb one place ≡ b → (b || false) ≡ true → Some one ≡ Some place
        by-test true same any = ap (λ (n : ℕ). Some n) (eqb-true one place same)
        by-test false same any = absurd cc

-- an entry with this cause is caused by it
has-cause : (place : ℕ) (entry : BookedEntry) → entry.cause ≡ Some place → is_caused_by place entry ≡ true
has-cause place entry is = ap (λ (cause : Option ℕ). list_any (λ (one : ℕ). eqb one place) (option_to_list cause)) is ∙ own
  where
    own : (eqb place place || false) ≡ true
    own = rw (own-number place) refl

-- ---- the entries of a book

-- what a request books is approved
books-approved : (book more : List BookEntry) (asked : Option Command) → Books book asked more → (entry : BookEntry) → In entry more → entry.approved ≡ true
books-approved book [] asked books entry within = absurd within
books-approved book (one ∷ []) asked books entry (inl same) = ap (λ (e : BookEntry). e.approved) same ∙ (books.1).approved
books-approved book (one ∷ []) asked books entry (inr within) = absurd within
books-approved book (one ∷ other ∷ more) asked books entry within = absurd books

pub reaction-approved : (setting : Setting) (before : List ApduValue) (apdu : ApduValue) (entry : BookEntry) → In entry (entries_of (reaction_after setting before apdu)) → entry.approved ≡ true
reaction-approved setting before apdu =
    books-approved (book_of setting before) (entries_of (reaction_after setting before apdu)) (decode_command apdu) (booked setting.none (play_left setting.plays before) (book_of setting before) apdu.class (decode_command apdu))

-- so is each entry
pub book-approved : (setting : Setting) (before : List ApduValue) (entry : BookEntry) → In entry (book_of setting before) → entry.approved ≡ true
book-approved setting [] entry within = absurd within
book-approved setting (apdu ∷ before) entry within = by-part (in-either entry (book_of setting before) (entries_of (reaction_after setting before apdu)) within) (book-approved setting before entry)
  where
    by-part : In entry (book_of setting before) ⊎ In entry (entries_of (reaction_after setting before apdu)) → (In entry (book_of setting before) → entry.approved ≡ true) → entry.approved ≡ true
    by-part (inl old) earlier = earlier old
    by-part (inr new) earlier = reaction-approved setting before apdu entry new

-- a list of which all pass is what passes
filter-whole : {A : Type 0} (test : A → Bool) (list : List A) → ((x : A) → In x list → test x ≡ true) → filter test list ≡ list
filter-whole test [] all = refl
filter-whole {A} test (x ∷ list) all = ap (λ (b : Bool). if b then x ∷ filter test list else filter test list) (all x (inl refl)) ∙ ap (λ (l : List A). x ∷ l) (filter-whole test list (λ y within. all y (inr within)))

-- the last entry, as it is in the terminal's book
record IsLast (first : BookedEntry) (book : List BookedEntry) : Type 0 where
  last : BookedEntry
  is : last_or (Some first) book ≡ Some last
  within : In last (first ∷ book)
  plain : slice_get (map plain_entry (first ∷ book)) (length (map plain_entry book)) ≡ Some (plain_entry last)

last-there : (first : BookedEntry) (book : List BookedEntry) → IsLast first book
last-there first [] = record { last = first; is = refl; within = inl refl; plain = refl }
last-there first (next ∷ book) = let later = last-there next book in record { last = later.last; is = later.is; within = inr later.within; plain = later.plain }

-- ---- what an end says

-- the entries were booked at the hearing
abbrev AllBooked : HeardEnd → List BookedEntry → Type 0
AllBooked end book = (entry : BookedEntry) → In entry book → was_booked end entry ≡ true

over : (book : List BookedEntry) (end : HeardEnd) (place : ℕ) → AllBooked end book → is_over book end place ≡ true
over book end place all = all-from (λ (entry : BookedEntry). not (is_caused_by place entry) || was_booked end entry) book (λ entry within. by-test (is_caused_by place entry) (was_booked end entry) (all entry within))
  where
    by-test : (caused was : Bool) → was ≡ true → (not caused || was) ≡ true
    by-test true was is = is
    by-test false was is = refl

all-true : (a b : Bool) → a ≡ true → b ≡ true → (a && b) ≡ true
all-true true b here there = there
all-true false b here there = absurd cc

figures-are : (figures : Figures) (entry : BookedEntry) → entry.approved ≡ true → figures ≡ entry_figures (plain_entry entry) → has_figures figures entry ≡ true
figures-are figures entry approved is =
    subst (λ (f : Figures). has_figures f entry ≡ true) (sym is)
    (all-true entry.approved (eqb entry.number entry.number && (eqb entry.receipt entry.receipt && eqb entry.amount entry.amount)) approved
    (all-true (eqb entry.number entry.number) (eqb entry.receipt entry.receipt && eqb entry.amount entry.amount) (own-number entry.number)
    (all-true (eqb entry.receipt entry.receipt) (eqb entry.amount entry.amount) (own-number entry.receipt) (own-number entry.amount))))

approval-is : (book : List BookedEntry) (end : HeardEnd) (place : ℕ) (figures : Figures) (entry : BookedEntry) → AllBooked end book → In entry book → entry.cause ≡ Some place → has_figures figures entry ≡ true
    → is_true book end (Approved place figures) ≡ true
approval-is book end place figures entry all within cause has =
    all-true (is_over book end place) (list_any (λ (one : BookedEntry). is_caused_by place one && has_figures figures one) book) (over book end place all)
    (any-from (λ (one : BookedEntry). is_caused_by place one && has_figures figures one) book entry within (all-true (is_caused_by place entry) (has_figures figures entry) (has-cause place entry cause) has))

decline-is : (book : List BookedEntry) (end : HeardEnd) (place : ℕ) → AllBooked end book → ((entry : BookedEntry) → In entry book → entry.cause ≡ Some place → ⊥) → is_true book end (Declined place None) ≡ true
decline-is book end place all none =
    all-true (is_over book end place) (list_all (λ (one : BookedEntry). not (is_caused_by place one && one.approved)) book && true) (over book end place all)
    (all-true (list_all (λ (one : BookedEntry). not (is_caused_by place one && one.approved)) book) true
    (all-from (λ (one : BookedEntry). not (is_caused_by place one && one.approved)) book (λ entry within. by-test entry (is_caused_by place entry) refl within)) refl)
  where
    by-test : (entry : BookedEntry) (b : Bool) → is_caused_by place entry ≡ b → In entry book → not (b && entry.approved) ≡ true
    by-test entry true is within = absurd (none entry within (caused-by place entry is))
    by-test entry false is within = refl

report-is : (book : List BookedEntry) (end : HeardEnd) (trace : ℕ) (figures : Option Figures) → AllBooked end book → ((entry : BookedEntry) → In entry book → entry.approved ≡ true)
    → IsReported (last_book_entry (map plain_entry book)) trace figures → is_true book end (Reported trace figures) ≡ true
report-is book end trace figures all approved reports =
    ap (λ (l : List BookedEntry). is_last_entry trace figures (last_or None l)) (filter-whole (was_booked end) book all) ∙ by-book book approved reports
  where
    by-book : (entries : List BookedEntry) → ((entry : BookedEntry) → In entry entries → entry.approved ≡ true) → IsReported (last_book_entry (map plain_entry entries)) trace figures
        → is_last_entry trace figures (last_or None entries) ≡ true
    by-book [] each (none, nothing) = ap (λ (n : ℕ). eqb n 0) none
    by-book (first ∷ entries) each said =
        let there = last-there first entries in
        let count : ℕ = length (map plain_entry entries) in
        let one_less : suc count - 1 ≡ count = omega arith in
        let found : last_book_entry (map plain_entry (first ∷ entries)) ≡ Some (plain_entry there.last) = ap (λ (n : ℕ). slice_get (map plain_entry (first ∷ entries)) n) one_less ∙ there.plain in
        let here : IsReported (Some (plain_entry there.last)) trace figures = subst (λ (o : Option BookEntry). IsReported o trace figures) found said in
        let P : Option Figures → Type 0 = λ f. is_last_entry trace f (last_or None (first ∷ entries)) ≡ true in
        let Q : Option BookedEntry → Type 0 = λ o. is_last_entry trace (Some (entry_figures (plain_entry there.last))) o ≡ true in
        subst P (sym here.1)
        (subst Q (sym there.is)
        (all-true (eqb there.last.number trace) (has_figures (entry_figures (plain_entry there.last)) there.last)
        (ap (λ (n : ℕ). eqb there.last.number n) here.0 ∙ own-number there.last.number)
        (figures-are (entry_figures (plain_entry there.last)) there.last (each there.last there.within) refl)))

-- ---- the ends of a played terminal

-- an end that is heard now
abbrev pub heard_now : Past → List ℕ → Ending → HeardEnd
heard_now past poi ending = record { place = past.heard; numbering = played_numbering poi; ending = ending }

module _ (laws : PeerLaws) (setting : Setting) (poi : List ℕ) (exchanges : List PlacedExchange) (past : Past) (honest : IsHonestFor past poi (book_along setting poi exchanges))
    (calm : (command : SentCommand) → In command past.commands → command.place < past.heard) where
  -- each entry was booked
  booked-now : (ending : Ending) → AllBooked (heard_now past poi ending) (book_along setting poi exchanges)
  booked-now ending entry within =
      let has = honest.commanded entry within in
      let before = calm has.command has.sent in
      let place = has.place_is in
      let placed : entry.place ≤ past.heard = omega (arith, before, place) in
      all-true (bytes_eq poi entry.numbering.poi) (nat_le entry.place past.heard) (ap (bytes_eq poi) has.poi_is ∙ bytes-itself poi) (le-leb entry.place past.heard placed)

  -- an approval
  pub approved-true : (before : List ApduValue) (apdu : ApduValue) (figures : Figures) (last : IsLastServed setting poi exchanges past.commands (entries_of (reaction_after setting before apdu)))
      → IsTrueEnd (book_of setting before) (entries_of (reaction_after setting before apdu)) (heard.Approved figures)
      → is_true (book_along setting poi exchanges) (heard_now past poi (Approved last.command.place figures)) (Approved last.command.place figures) ≡ true
  approved-true before apdu figures last (entry, books, is) =
      let within : In entry (entries_of (reaction_after setting before apdu)) = subst (λ (l : List BookEntry). In entry l) (sym books) (inl refl) in
      approval-is (book_along setting poi exchanges) (heard_now past poi (Approved last.command.place figures)) last.command.place figures (placed_entry poi last.command.place entry)
      (booked-now (Approved last.command.place figures)) (last.booked entry within) refl
      (figures-are figures (placed_entry poi last.command.place entry) (reaction-approved setting before apdu entry within) is)

  -- a decline
  pub declined-true : (before : List ApduValue) (apdu : ApduValue) (result_code : ℕ) (trace : Option ℕ) (last : IsLastServed setting poi exchanges past.commands (entries_of (reaction_after setting before apdu)))
      → IsTrueEnd (book_of setting before) (entries_of (reaction_after setting before apdu)) (heard.Declined result_code trace)
      → is_true (book_along setting poi exchanges) (heard_now past poi (Declined last.command.place trace)) (Declined last.command.place trace) ≡ true
  declined-true before apdu result_code trace last (books, none) =
      let P : Option ℕ → Type 0 = λ t. is_true (book_along setting poi exchanges) (heard_now past poi (Declined last.command.place t)) (Declined last.command.place t) ≡ true in
      subst P (sym none)
      (decline-is (book_along setting poi exchanges) (heard_now past poi (Declined last.command.place None)) last.command.place (booked-now (Declined last.command.place None))
      (λ entry within cause. let one = last.only entry within cause in subst (λ (l : List BookEntry). In one.0 l) books one.1))

  -- a report
  pub reported-true : (before : List ApduValue) (trace result_code : ℕ) (figures : Option Figures) (entries : List BookEntry) → book_after setting (met_in exchanges) ≡ book_of setting before
      → IsTrueEnd (book_of setting before) entries (heard.Told trace figures result_code)
      → is_true (book_along setting poi exchanges) (heard_now past poi (Reported trace figures)) (Reported trace figures) ≡ true
  reported-true before trace result_code figures entries same reports =
      let plain : map plain_entry (book_along setting poi exchanges) ≡ book_of setting before = book-plain laws setting poi exchanges ∙ same in
      report-is (book_along setting poi exchanges) (heard_now past poi (Reported trace figures)) trace figures (booked-now (Reported trace figures))
      (λ entry within. book-approved setting before (plain_entry entry) (subst (λ (l : List BookEntry). In (plain_entry entry) l) plain (in-map plain_entry (book_along setting poi exchanges) entry within)))
      (subst (λ (l : List BookEntry). IsReported (last_book_entry l) trace figures) (sym plain) reports)
