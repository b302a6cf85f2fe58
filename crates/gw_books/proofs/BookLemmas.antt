-- What a book that is honest has: the order of its entries, the commands that they are of, and what a report says of it.
use Rattle.std.proofs.Common.{◌≡◌, ◌∙◌, ℕ, ◌<◌, ◌≤◌, Bool, true, false, List, [], ◌∷◌, refl, sym, ap, subst, inl, inr, arith, eqb-true, eq-eqb, le-leb, leb-true, ltb-true}
use Rattle.std.proofs.lemmas.Bool.{and_from, and_parts, cases_lt, false≢true, or_left, true≢false}
use Rattle.std.specs.Prelude.{◌⊎◌, ◌==◌, ◌&&◌, ◌||◌, not, nat_lt, nat_le, bytes_eq, cond, filter, Option, Some, None}
use Rattle.std.specs.List.{list_any, list_all, last_or}
use Rattle.std.specs.Option.{option_to_list}
use Rattle.gw_base.specs.declared.figures.Figures.{Figures}
use Rattle.jrn_record.specs.declared.records.Intent.{Intent as TheIntent}
use Rattle.jrn_record.specs.declared.records.Record.{Record}
use Rattle.gw_ledger.specs.Accounts.{last_number_of}
use Rattle.gw_books.specs.Past.{Numbering, is_numbering, numbering_of, SentCommand, Reported, HeardEnd, Past}
use Rattle.gw_books.specs.Books.{BookedEntry, Honest, comes_before, has_figures, have_one_cause, is_cause, is_caused, is_caused_by, is_entry_number, is_last_entry, is_of_its_link, is_ordered, is_true, leaves_entry, was_booked, was_booked_in_numbering}
use Rattle.gw_books.proofs.ListLemmas.{In, all-in, all-from, any-in, bytes-are, bytes-itself, filter-in}
use Rattle.gw_books.proofs.Numbering.{WasSentAt, IsOfSent, HasNumberedEntry, IsBookedNumber, IsQuiet, IsReadyNumber, HasEntryBeforeAll, IsIntentNumbered, AreRecordsNumbered, IsLinkedSince}

-- ---- tests

-- a test fails, or leads to another one
leads : (a b : Bool) → (not a || b) ≡ true → a ≡ true → b ≡ true
leads true b e t = e
leads false b e t = absurd (false≢true t)

fails : (b : Bool) → not b ≡ true → b ≡ false
fails true e = absurd (false≢true e)
fails false e = refl

-- the command at the place of its cause caused an entry
pub is-caused : (place : ℕ) (entry : BookedEntry) → entry.cause ≡ Some place → is_caused_by place entry ≡ true
is-caused place entry is = ap (λ (cause : Option ℕ). list_any (λ (one : ℕ). one == place) (option_to_list cause)) is ∙ or_left (place == place) false (eq-eqb place place refl)

-- and no other did
pub caused-is : (place : ℕ) (entry : BookedEntry) → is_caused_by place entry ≡ true → entry.cause ≡ Some place
caused-is place entry e = by entry.cause e
  where
    by-test : (one : ℕ) (b : Bool) → (one == place) ≡ b → (b || false) ≡ true → Some one ≡ Some place
    by-test one true same f = ap (λ (n : ℕ). Some n) (eqb-true one place same)
    by-test one false same f = absurd (false≢true f)

    by : (cause : Option ℕ) → list_any (λ (one : ℕ). one == place) (option_to_list cause) ≡ true → cause ≡ Some place
    by None f = absurd (false≢true f)
    by (Some one) f = by-test one (one == place) refl f

-- numberings that pass for equal are
pub numbering-are : (one other : Numbering) → is_numbering one other ≡ true → one ≡ other
numbering-are one other same = ap (λ (poi : List ℕ). record { poi = poi }) (bytes-are one.poi other.poi same)

-- a numbering passes for equal to itself
pub numbering-itself : (one : Numbering) → is_numbering one one ≡ true
numbering-itself one = bytes-itself one.poi

-- an entry of the numbering by this place was in it at the hearing
pub was-booked-in-numbering : (end : HeardEnd) (entry : BookedEntry) → entry.numbering ≡ end.numbering → entry.place ≤ end.place → was_booked_in_numbering end entry ≡ true
was-booked-in-numbering end entry numbering_is placed =
    and_from (is_numbering end.numbering entry.numbering) (nat_le entry.place end.place) (ap (is_numbering end.numbering) numbering_is ∙ numbering-itself end.numbering) (le-leb entry.place end.place placed)

-- and each that was is one
pub numbered-is : (end : HeardEnd) (entry : BookedEntry) → was_booked_in_numbering end entry ≡ true → (entry.numbering ≡ end.numbering) × (entry.place ≤ end.place)
numbered-is end entry e =
    let parts = and_parts (is_numbering end.numbering entry.numbering) (nat_le entry.place end.place) e in
    (sym (numbering-are end.numbering entry.numbering parts.0), leb-true entry.place end.place parts.1)

-- each entry that was booked at the hearing is one of the terminal by this place
pub booked-is : (end : HeardEnd) (entry : BookedEntry) → was_booked end entry ≡ true → (entry.numbering.poi ≡ end.numbering.poi) × (entry.place ≤ end.place)
booked-is end entry e =
    let parts = and_parts (bytes_eq end.numbering.poi entry.numbering.poi) (nat_le entry.place end.place) e in
    (sym (bytes-are end.numbering.poi entry.numbering.poi parts.0), leb-true entry.place end.place parts.1)

-- ---- the order of entries

-- of two entries of a book, one comes before the other
pub ordered-either : (book : List BookedEntry) → is_ordered book ≡ true → (one other : BookedEntry) → In one book → In other book → (one ≡ other) ⊎ ((comes_before one other ≡ true) ⊎ (comes_before other one ≡ true))
ordered-either [] ordered one other here there = absurd here
ordered-either (entry ∷ book) ordered one other (inl here) (inl there) = inl (here ∙ sym there)
ordered-either (entry ∷ book) ordered one other (inl here) (inr there) =
    let first = (and_parts (list_all (comes_before entry) book) (is_ordered book) ordered).0 in
    inr (inl (subst (λ (e : BookedEntry). comes_before e other ≡ true) (sym here) (all-in (comes_before entry) book first other there)))
ordered-either (entry ∷ book) ordered one other (inr here) (inl there) =
    let first = (and_parts (list_all (comes_before entry) book) (is_ordered book) ordered).0 in
    inr (inr (subst (λ (e : BookedEntry). comes_before e one ≡ true) (sym there) (all-in (comes_before entry) book first one here)))
ordered-either (entry ∷ book) ordered one other (inr here) (inr there) = ordered-either book (and_parts (list_all (comes_before entry) book) (is_ordered book) ordered).1 one other here there

-- of entries of one terminal, what it says that one comes before the other
pub record Precedes (one other : BookedEntry) : Type 0 where
  pub place : one.place ≤ other.place
  pub number : one.numbering ≡ other.numbering → one.number < other.number
  pub causes : (cause : ℕ) → one.cause ≡ Some cause → other.cause ≡ Some cause → ⊥

pub precedes : (one other : BookedEntry) → one.numbering.poi ≡ other.numbering.poi → comes_before one other ≡ true → Precedes one other
precedes one other same before =
    let rises = leads (bytes_eq one.numbering.poi other.numbering.poi) (nat_le one.place other.place && ((not (is_numbering one.numbering other.numbering) || nat_lt one.number other.number) && not (have_one_cause one other))) before
    (ap (bytes_eq one.numbering.poi) (sym same) ∙ bytes-itself one.numbering.poi) in
    let places = and_parts (nat_le one.place other.place) ((not (is_numbering one.numbering other.numbering) || nat_lt one.number other.number) && not (have_one_cause one other)) rises in
    let numbers = and_parts (not (is_numbering one.numbering other.numbering) || nat_lt one.number other.number) (not (have_one_cause one other)) places.1 in
    record {
      place = leb-true one.place other.place places.0;
      number = λ together. ltb-true one.number other.number
          (leads (is_numbering one.numbering other.numbering) (nat_lt one.number other.number) numbers.0 (ap (is_numbering one.numbering) (sym together) ∙ numbering-itself one.numbering));
      causes = λ cause first second. true≢false (sym (shared cause first second) ∙ fails (have_one_cause one other) numbers.1);
    }
  where
    shared : (cause : ℕ) → one.cause ≡ Some cause → other.cause ≡ Some cause → have_one_cause one other ≡ true
    shared cause first second = ap (λ (own : Option ℕ). list_any (λ (p : ℕ). is_caused_by p other) (option_to_list own)) first ∙ or_left (is_caused_by cause other) false (is-caused cause other second)

pub either-precedes : (book : List BookedEntry) → is_ordered book ≡ true → (one other : BookedEntry) → In one book → In other book → one.numbering.poi ≡ other.numbering.poi → (one ≡ other) ⊎ (Precedes one other ⊎ Precedes other one)
either-precedes book ordered one other here there same = by (ordered-either book ordered one other here there)
  where
    by : (one ≡ other) ⊎ ((comes_before one other ≡ true) ⊎ (comes_before other one ≡ true)) → (one ≡ other) ⊎ (Precedes one other ⊎ Precedes other one)
    by (inl equal) = inl equal
    by (inr (inl before)) = inr (inl (precedes one other same before))
    by (inr (inr before)) = inr (inr (precedes other one (sym same) before))

-- entries of one numbering are of one terminal
pub one-poi : (one other : BookedEntry) → one.numbering ≡ other.numbering → one.numbering.poi ≡ other.numbering.poi
one-poi one other same = ap (λ (numbering : Numbering). numbering.poi) same

-- an earlier entry has a lower number
pub earlier-lower : (book : List BookedEntry) → is_ordered book ≡ true → (one other : BookedEntry) → In one book → In other book → one.numbering ≡ other.numbering → one.place < other.place → one.number < other.number
earlier-lower book ordered one other here there same earlier = by (either-precedes book ordered one other here there (one-poi one other same))
  where
    by : (one ≡ other) ⊎ (Precedes one other ⊎ Precedes other one) → one.number < other.number
    by (inl equal) = let h = ap (λ (e : BookedEntry). e.place) equal in absurd (omega (arith, h, earlier))
    by (inr (inl before)) = before.number same
    by (inr (inr before)) = let h = before.place in absurd (omega (arith, h, earlier))

-- one with a lower number isn't later
pub lower-earlier : (book : List BookedEntry) → is_ordered book ≡ true → (one other : BookedEntry) → In one book → In other book → one.numbering ≡ other.numbering → one.number < other.number → one.place ≤ other.place
lower-earlier book ordered one other here there same lower = by (either-precedes book ordered one other here there (one-poi one other same))
  where
    by : (one ≡ other) ⊎ (Precedes one other ⊎ Precedes other one) → one.place ≤ other.place
    by (inl equal) = let h = ap (λ (e : BookedEntry). e.number) equal in absurd (omega (arith, h, lower))
    by (inr (inl before)) = before.place
    by (inr (inr before)) = let h = before.number (sym same) in absurd (omega (arith, h, lower))

-- two with one number are one
pub same-number : (book : List BookedEntry) → is_ordered book ≡ true → (one other : BookedEntry) → In one book → In other book → one.numbering ≡ other.numbering → one.number ≡ other.number → one ≡ other
same-number book ordered one other here there same numbers = by (either-precedes book ordered one other here there (one-poi one other same))
  where
    by : (one ≡ other) ⊎ (Precedes one other ⊎ Precedes other one) → one ≡ other
    by (inl equal) = equal
    by (inr (inl before)) = let h = before.number same in absurd (omega (arith, h, numbers))
    by (inr (inr before)) = let h = before.number (sym same) in absurd (omega (arith, h, numbers))

-- two with one cause are one
pub one-caused : (book : List BookedEntry) → is_ordered book ≡ true → (one other : BookedEntry) → In one book → In other book → one.numbering.poi ≡ other.numbering.poi → (place : ℕ) → one.cause ≡ Some place → other.cause ≡ Some place → one ≡ other
one-caused book ordered one other here there same place first second = by (either-precedes book ordered one other here there same)
  where
    by : (one ≡ other) ⊎ (Precedes one other ⊎ Precedes other one) → one ≡ other
    by (inl equal) = equal
    by (inr (inl before)) = absurd (before.causes place first second)
    by (inr (inr before)) = absurd (before.causes place second first)

-- ---- entries and their commands

has-cause : (past : Past) (book : List BookedEntry) → Honest past book → (entry : BookedEntry) → In entry book → (cause : Option ℕ) → entry.cause ≡ cause → is_caused past entry cause ≡ true
has-cause past book honest entry within cause is =
    subst (λ (one : Option ℕ). is_caused past entry one ≡ true) is (all-in (λ (one : BookedEntry). is_caused past one one.cause) book honest.caused entry within)

-- an entry is later than its command
pub after-cause : (past : Past) (book : List BookedEntry) → Honest past book → (entry : BookedEntry) → In entry book → (place : ℕ) → entry.cause ≡ Some place → place < entry.place
after-cause past book honest entry within place is =
    ltb-true place entry.place (and_parts (nat_lt place entry.place) (nat_le past.place place || list_any (is_cause entry place) past.commands) (has-cause past book honest entry within (Some place) is)).0

-- one that has none is older than the log
pub uncaused-first : (past : Past) (book : List BookedEntry) → Honest past book → (entry : BookedEntry) → In entry book → entry.cause ≡ None → entry.place ≡ 0
uncaused-first past book honest entry within none = eqb-true entry.place 0 (has-cause past book honest entry within None none)

-- the command of an entry was sent, where its place is before the end
pub of-log : (past : Past) (book : List BookedEntry) → Honest past book → (entry : BookedEntry) → In entry book → ((place : ℕ) → entry.cause ≡ Some place → place < past.place) → IsOfSent past.commands entry
of-log past book honest entry within early place is =
    by (nat_le past.place place) refl (and_parts (nat_lt place entry.place) (nat_le past.place place || list_any (is_cause entry place) past.commands) (has-cause past book honest entry within (Some place) is)).1
  where
    found : (command : SentCommand) → In command past.commands → is_cause entry place command ≡ true → WasSentAt past.commands place entry.numbering
    found command sent e =
        let placed_at = and_parts (command.place == place) _ e in
        let whole = and_parts command.whole _ placed_at.1 in
        let to = and_parts (is_numbering command.numbering entry.numbering) _ whole.1 in
        record { command = command; sent = sent; place_is = eqb-true command.place place placed_at.0; numbering_is = numbering-are command.numbering entry.numbering to.0 }

    by : (b : Bool) → nat_le past.place place ≡ b → (b || list_any (is_cause entry place) past.commands) ≡ true → WasSentAt past.commands place entry.numbering
    by true late e =
        let h = leb-true past.place place late in
        let g = early place is in
        absurd (omega (arith, h, g))
    by false before e = let some = any-in (is_cause entry place) past.commands e in found some.0 some.1 some.2

-- so that of an entry that is placed by now
pub of-sent : (past : Past) (book : List BookedEntry) → Honest past book → (entry : BookedEntry) → In entry book → entry.place ≤ past.place → IsOfSent past.commands entry
of-sent past book honest entry within placed = of-log past book honest entry within (λ place is. let g = after-cause past book honest entry within place is in omega (arith, g, placed))

-- each trace number is from 1 on
pub numbered-within : (past : Past) (book : List BookedEntry) → Honest past book → (entry : BookedEntry) → In entry book → 1 ≤ entry.number
numbered-within past book honest entry within =
    leb-true 1 entry.number (and_parts (nat_le 1 entry.number) _ (all-in (λ (one : BookedEntry). nat_le 1 one.number && (nat_le one.number 999999 && nat_le one.receipt 9999)) book honest.numbered entry within)).0

-- a terminal that was linked after each command to it has booked by then what it books for them
pub quiet-since-link : (past : Past) (book : List BookedEntry) → Honest past book → (numbering : Numbering) → (since : IsLinkedSince past.links past.commands numbering) → IsQuiet book past.commands numbering since.link.place
quiet-since-link past book honest numbering since entry within same sent = by entry.cause refl
  where
    leaves : (place : ℕ) → entry.cause ≡ Some place → leaves_entry entry place since.link ≡ true
    leaves place is =
        let own = subst (λ (cause : Option ℕ). list_all (λ (one : ℕ). list_all (leaves_entry entry one) past.links) (option_to_list cause) ≡ true) is (all-in (is_of_its_link past) book honest.linked entry within) in
        all-in (leaves_entry entry place) past.links (and_parts (list_all (leaves_entry entry place) past.links) true own).0 since.link since.made

    by-link : (place : ℕ) → place < since.link.place → (b : Bool) → nat_lt since.link.place place ≡ b → (b || nat_le entry.place since.link.place) ≡ true → entry.place ≤ since.link.place
    by-link place earlier true late e = let h = ltb-true since.link.place place late in absurd (omega (arith, h, earlier))
    by-link place earlier false early e = leb-true entry.place since.link.place e

    by : (cause : Option ℕ) → entry.cause ≡ cause → entry.place ≤ since.link.place
    by None none = let first = uncaused-first past book honest entry within none in omega (arith, first)
    by (Some place) is =
        let was = sent place is in
        let h = since.later was.command was.sent (was.numbering_is ∙ same) in
        let g = was.place_is in
        let to_link = leads (is_numbering since.link.numbering entry.numbering) (nat_lt since.link.place place || nat_le entry.place since.link.place) (leaves place is) (ap (is_numbering since.link.numbering) (same ∙ sym since.numbering_is) ∙ numbering-itself since.link.numbering) in
        by-link place (omega (arith, g, h)) (nat_lt since.link.place place) refl to_link

-- ---- reports

-- the last entry that the terminal has by this place has this trace number, and is approved with the figures where there are any
pub record HasLastEntry (book : List BookedEntry) (numbering : Numbering) (place trace : ℕ) (figures : Option Figures) : Type 0 where
  pub entry : BookedEntry
  pub within : In entry book
  pub numbering_is : entry.numbering ≡ numbering
  pub placed : entry.place ≤ place
  pub number_is : entry.number ≡ trace
  pub declined : figures ≡ None → entry.approved ≡ false
  pub approved : (these : Figures) → figures ≡ Some these → has_figures these entry ≡ true
  pub last : (other : BookedEntry) → In other book → other.numbering ≡ numbering → other.place ≤ place → (other ≡ entry) ⊎ (comes_before other entry ≡ true)

-- it has none
pub record HasNoEntry (book : List BookedEntry) (numbering : Numbering) (place trace : ℕ) : Type 0 where
  pub trace_is : trace ≡ 0
  pub none : (other : BookedEntry) → In other book → other.numbering ≡ numbering → place < other.place

-- what is in a list and passes is left
in-filter : {A : Type 0} (test : A → Bool) (list : List A) (x : A) → In x list → test x ≡ true → In x (filter test list)
in-filter test [] x within e = absurd within
in-filter {A} test (y ∷ list) x within e = by (in-filter test list x) (test y) refl within
  where
    by : (In x list → test x ≡ true → In x (filter test list)) → (b : Bool) → test y ≡ b → In x (y ∷ list) → In x (cond b (y ∷ filter test list) (filter test list))
    by more true t (inl same) = inl same
    by more true t (inr there) = inr (more there e)
    by more false t (inl same) = absurd (true≢false (sym e ∙ ap test same ∙ t))
    by more false t (inr there) = more there e

-- what is left of a book that is in order is
ordered-filter : (test : BookedEntry → Bool) (book : List BookedEntry) → is_ordered book ≡ true → is_ordered (filter test book) ≡ true
ordered-filter test [] ordered = refl
ordered-filter test (entry ∷ book) ordered =
    let parts = and_parts (list_all (comes_before entry) book) (is_ordered book) ordered in
    by (ordered-filter test book parts.1) parts.0 (test entry)
  where
    by : is_ordered (filter test book) ≡ true → list_all (comes_before entry) book ≡ true → (b : Bool) → is_ordered (cond b (entry ∷ filter test book) (filter test book)) ≡ true
    by rest first true =
        and_from (list_all (comes_before entry) (filter test book)) (is_ordered (filter test book))
        (all-from (comes_before entry) (filter test book) (λ other left. all-in (comes_before entry) book first other (filter-in test book other left).0)) rest
    by rest first false = rest

-- the last entry
record IsLast (first : BookedEntry) (book : List BookedEntry) : Type 0 where
  last : BookedEntry
  is : last_or (Some first) book ≡ Some last
  within : In last (first ∷ book)
  others : (other : BookedEntry) → In other (first ∷ book) → (other ≡ last) ⊎ (comes_before other last ≡ true)

last-there : (first : BookedEntry) (book : List BookedEntry) → is_ordered (first ∷ book) ≡ true → IsLast first book
last-there first [] ordered = record { last = first; is = refl; within = inl refl; others = only }
  where
    only : (other : BookedEntry) → In other (first ∷ []) → (other ≡ first) ⊎ (comes_before other first ≡ true)
    only other (inl same) = inl same
    only other (inr there) = absurd there
last-there first (next ∷ book) ordered =
    let parts = and_parts (list_all (comes_before first) (next ∷ book)) (is_ordered (next ∷ book)) ordered in
    let later = last-there next book parts.1 in
    record { last = later.last; is = later.is; within = inr later.within; others = by later parts.0 }
  where
    by : (later : IsLast next book) → list_all (comes_before first) (next ∷ book) ≡ true → (other : BookedEntry) → In other (first ∷ next ∷ book) → (other ≡ later.last) ⊎ (comes_before other later.last ≡ true)
    by later all other (inl same) = inr (subst (λ (e : BookedEntry). comes_before e later.last ≡ true) (sym same) (all-in (comes_before first) (next ∷ book) all later.last later.within))
    by later all other (inr there) = later.others other there

-- what a report says of the last entry
reported-number : (trace : ℕ) (figures : Option Figures) (entry : BookedEntry) → is_last_entry trace figures (Some entry) ≡ true → entry.number ≡ trace
reported-number trace None entry e = eqb-true entry.number trace (and_parts (entry.number == trace) (not entry.approved) e).0
reported-number trace (Some figures) entry e = eqb-true entry.number trace (and_parts (entry.number == trace) (has_figures figures entry) e).0

reported-declined : (trace : ℕ) (entry : BookedEntry) → is_last_entry trace None (Some entry) ≡ true → entry.approved ≡ false
reported-declined trace entry e = fails entry.approved (and_parts (entry.number == trace) (not entry.approved) e).1

reported-approved : (trace : ℕ) (figures : Figures) (entry : BookedEntry) → is_last_entry trace (Some figures) (Some entry) ≡ true → has_figures figures entry ≡ true
reported-approved trace figures entry e = (and_parts (entry.number == trace) (has_figures figures entry) e).1

pub report-true : (past : Past) (book : List BookedEntry) (end : HeardEnd) (trace : ℕ) (figures : Option Figures) → Honest past book → is_true book end (Reported trace figures) ≡ true
    → HasLastEntry book end.numbering end.place trace figures ⊎ HasNoEntry book end.numbering end.place trace
report-true past book end trace figures honest e = by (filter (was_booked_in_numbering end) book) refl e
  where
    -- what was booked at the hearing is left
    left : (other : BookedEntry) → In other book → other.numbering ≡ end.numbering → other.place ≤ end.place → In other (filter (was_booked_in_numbering end) book)
    left other within numbering_is placed = in-filter (was_booked_in_numbering end) book other within (was-booked-in-numbering end other numbering_is placed)

    later : filter (was_booked_in_numbering end) book ≡ [] → (other : BookedEntry) → In other book → other.numbering ≡ end.numbering → (end.place < other.place) ⊎ (other.place ≤ end.place) → end.place < other.place
    later none other within numbering_is (inl after) = after
    later none other within numbering_is (inr placed) = absurd (subst (In other) none (left other within numbering_is placed))

    there : (first : BookedEntry) (rest : List BookedEntry) → filter (was_booked_in_numbering end) book ≡ first ∷ rest → is_last_entry trace figures (last_or (Some first) rest) ≡ true → HasLastEntry book end.numbering end.place trace figures
    there first rest some f =
        let found = last-there first rest (subst (λ (list : List BookedEntry). is_ordered list ≡ true) some (ordered-filter (was_booked_in_numbering end) book honest.ordered)) in
        let says = subst (λ (entry : Option BookedEntry). is_last_entry trace figures entry ≡ true) found.is f in
        let in_book = filter-in (was_booked_in_numbering end) book found.last (subst (In found.last) (sym some) found.within) in
        let booked = numbered-is end found.last in_book.1 in
        record {
          entry = found.last;
          within = in_book.0;
          numbering_is = booked.0;
          placed = booked.1;
          number_is = reported-number trace figures found.last says;
          declined = λ none. reported-declined trace found.last (subst (λ (these : Option Figures). is_last_entry trace these (Some found.last) ≡ true) none says);
          approved = λ these some_are. reported-approved trace these found.last (subst (λ (those : Option Figures). is_last_entry trace those (Some found.last) ≡ true) some_are says);
          last = λ other within numbering_is placed. found.others other (subst (In other) some (left other within numbering_is placed));
        }

    by : (list : List BookedEntry) → filter (was_booked_in_numbering end) book ≡ list → is_last_entry trace figures (last_or None list) ≡ true → HasLastEntry book end.numbering end.place trace figures ⊎ HasNoEntry book end.numbering end.place trace
    by [] none f = inr (record { trace_is = eqb-true trace 0 f; none = λ other within numbering_is. later none other within numbering_is (cases_lt end.place other.place) })
    by (first ∷ rest) some f = inl (there first rest some f)

-- no entry of the terminal by then has a greater trace number
pub reported-highest : (book : List BookedEntry) (numbering : Numbering) (place trace : ℕ) (figures : Option Figures) → HasLastEntry book numbering place trace figures ⊎ HasNoEntry book numbering place trace
    → (other : BookedEntry) → In other book → other.numbering ≡ numbering → other.place ≤ place → other.number ≤ trace
reported-highest book numbering place trace figures (inl has) other within numbering_is placed = by (has.last other within numbering_is placed)
  where
    by : (other ≡ has.entry) ⊎ (comes_before other has.entry ≡ true) → other.number ≤ trace
    by (inl same) =
        let h = ap (λ (e : BookedEntry). e.number) same in
        let g = has.number_is in
        omega (arith, h, g)
    by (inr before) =
        let same : other.numbering ≡ has.entry.numbering = numbering_is ∙ sym has.numbering_is in
        let rises = precedes other has.entry (one-poi other has.entry same) before in
        let h = rises.number same in
        let g = has.number_is in
        omega (arith, h, g)
reported-highest book numbering place trace figures (inr has) other within numbering_is placed = let h = has.none other within numbering_is in absurd (omega (arith, h, placed))

-- the trace number is 0, or that of an entry by then
pub reported-booked : (book : List BookedEntry) (numbering : Numbering) (place trace : ℕ) (figures : Option Figures) → HasLastEntry book numbering place trace figures ⊎ HasNoEntry book numbering place trace → IsBookedNumber book numbering place trace
reported-booked book numbering place trace figures (inl has) = inr (record { entry = has.entry; within = has.within; numbering_is = has.numbering_is; placed = has.placed; number_is = has.number_is })
reported-booked book numbering place trace figures (inr has) = inl has.trace_is

-- a trace number that an end brings is 0, or that of an entry at its hearing
pub booked-trace : (past : Past) (book : List BookedEntry) (end : HeardEnd) (trace : ℕ) → is_entry_number book end trace ≡ true → IsBookedNumber book end.numbering end.place trace
booked-trace past book end trace e = by (trace == 0) refl e
  where
    numbered : BookedEntry → Bool
    numbered entry = was_booked_in_numbering end entry && entry.number == trace

    found : (entry : BookedEntry) → In entry book → numbered entry ≡ true → HasNumberedEntry book end.numbering end.place trace
    found entry within f =
        let parts = and_parts (was_booked_in_numbering end entry) (entry.number == trace) f in
        let booked = numbered-is end entry parts.0 in
        record { entry = entry; within = within; numbering_is = booked.0; placed = booked.1; number_is = eqb-true entry.number trace parts.1 }

    by : (b : Bool) → (trace == 0) ≡ b → (b || list_any numbered book) ≡ true → IsBookedNumber book end.numbering end.place trace
    by true none f = inl (eqb-true trace 0 none)
    by false some f = let one = any-in numbered book f in inr (found one.0 one.1 one.2)

-- ---- one more command

-- an entry of a command that was sent is so after one more
pub of-sent-more : (new : SentCommand) (commands : List SentCommand) (entry : BookedEntry) → IsOfSent commands entry → IsOfSent (new ∷ commands) entry
of-sent-more new commands entry sent place is = let was = sent place is in record { command = was.command; sent = inr was.sent; place_is = was.place_is; numbering_is = was.numbering_is }

-- and was before one to another terminal
pub of-sent-less : (new : SentCommand) (commands : List SentCommand) (entry : BookedEntry) → (new.numbering ≡ entry.numbering → ⊥) → IsOfSent (new ∷ commands) entry → IsOfSent commands entry
of-sent-less new commands entry apart sent place is = let was = sent place is in by was.command was.sent was.place_is was.numbering_is
  where
    by : (command : SentCommand) → In command (new ∷ commands) → command.place ≡ place → command.numbering ≡ entry.numbering → WasSentAt commands place entry.numbering
    by command (inl same) place_is numbering_is = absurd (apart (ap (λ (one : SentCommand). one.numbering) (sym same) ∙ numbering_is))
    by command (inr within) place_is numbering_is = record { command = command; sent = within; place_is = place_is; numbering_is = numbering_is }

-- ---- later places

-- what is booked by a place is booked by each later one
pub numbered-later : (place later : ℕ) → place ≤ later → (book : List BookedEntry) (numbering : Numbering) (trace : ℕ) → HasNumberedEntry book numbering place trace → HasNumberedEntry book numbering later trace
numbered-later place later more book numbering trace has = record { entry = has.entry; within = has.within; numbering_is = has.numbering_is; placed = (let h = has.placed in omega (arith, h, more)); number_is = has.number_is }

pub booked-later : (place later : ℕ) → place ≤ later → (book : List BookedEntry) (numbering : Numbering) (trace : ℕ) → IsBookedNumber book numbering place trace → IsBookedNumber book numbering later trace
booked-later place later more book numbering trace (inl none) = inl none
booked-later place later more book numbering trace (inr has) = inr (numbered-later place later more book numbering trace has)

pub quiet-later : (place later : ℕ) → place ≤ later → (book : List BookedEntry) (commands : List SentCommand) (numbering : Numbering) → IsQuiet book commands numbering place → IsQuiet book commands numbering later
quiet-later place later more book commands numbering quiet entry within same sent = let h = quiet entry within same sent in omega (arith, h, more)

-- a terminal that is ready is so later
pub ready-later : (place later : ℕ) → place ≤ later → (book : List BookedEntry) (commands : List SentCommand) (numbering : Numbering) (last : ℕ) → IsReadyNumber book commands numbering place last → IsReadyNumber book commands numbering later last
ready-later place later more book commands numbering last ready = record { booked = booked-later place later more book numbering last ready.booked; greatest = ready.greatest; quiet = quiet-later place later more book commands numbering ready.quiet }

-- so is what holds of an Intent
pub intent-later : (place later : ℕ) → place ≤ later → (book : List BookedEntry) (commands : List SentCommand) (records : List Record) (slot : ℕ) (intent : TheIntent) → IsIntentNumbered book commands place records slot intent
    → IsIntentNumbered book commands later records slot intent
intent-later place later more book commands records slot intent numbered = record { sent_to = numbered.sent_to; base = by numbered.base; lower = numbered.lower; others = numbered.others }
  where
    by : (intent.before ≡ 0) ⊎ HasEntryBeforeAll book commands records (numbering_of intent) place slot intent.before → (intent.before ≡ 0) ⊎ HasEntryBeforeAll book commands records (numbering_of intent) later slot intent.before
    by (inl none) = inl none
    by (inr has) = inr (record {
      numbered = record { entry = has.numbered.entry; within = has.numbered.within; numbering_is = has.numbered.numbering_is; placed = (let h = has.numbered.placed in omega (arith, h, more)); number_is = has.numbered.number_is };
      earlier = has.earlier;
    })

-- and what holds of the records
pub records-later : (place later : ℕ) → place ≤ later → (book : List BookedEntry) (commands : List SentCommand) (records : List Record) → AreRecordsNumbered book commands place records → AreRecordsNumbered book commands later records
records-later place later more book commands records numbered = record {
  intents = λ slot intent there. intent-later place later more book commands records slot intent (numbered.intents slot intent there);
  last = λ numbering. booked-later place later more book numbering (last_number_of records numbering.poi) (numbered.last numbering);
}
