-- The book of one terminal stays honest for what has happened later, and grows with what is booked for a command.
use Rattle.std.proofs.Common.{◌≡◌, ◌∙◌, ℕ, ◌+◌, ◌<◌, ◌≤◌, Bool, true, false, List, [], ◌∷◌, ◌++◌, map, length, drop, refl, sym, ap, subst, inl, inr, arith, append-nil, le-leb, lt-ltb, leb-true, ltb-true, eqb-true, eq-eqb}
use Rattle.std.proofs.lemmas.Bool.{and_from, and_parts, false_from_ne_true, not_from_false, or_left, or_right}
use Rattle.std.proofs.lemmas.List.{length-append, map-append}
use Rattle.std.proofs.lemmas.List.Elements.{filter-append}
use Rattle.std.proofs.Math.Seq.{drop-append_seam}
use Rattle.std.specs.Prelude.{◌⊎◌, ◌==◌, ◌&&◌, ◌||◌, not, nat_lt, nat_le, bytes_eq, filter, if◌then◌else◌, Option, Some, None, option_to_list}
use Rattle.std.specs.List.{list_any, list_all, last_or}
use Rattle.gw_site.specs.declared.turn.Turn.{Turn}
use Rattle.gw_site.specs.declared.turn.Turn.TheVariants.{Start, OpenFailed, Polled, Opened, HeardTill, Closed, HeardPt, Lost, Stopped, Linked, LinkFailed, SentTill, SentPt, CutTill, CutPt, Wrote, Synced, DiskFailed, Crash}
use Rattle.pt_core.specs.declared.book.BookEntry.{BookEntry}
use Rattle.pt_core.specs.Book.{fits_status}
use Rattle.pt_core.specs.Exchange.{Exchange, Links, Sends, Hears, met_of}
use Rattle.pt_core.specs.History.{Setting, Met, NewLink, Chunk, all_handled, book_after, book_of, handled}
use Rattle.pt_core.specs.Honest.{AreEntriesNumbered}
use Rattle.pt_core.proofs.GrowthLemmas.{added, book_added, chunk_follows}
use Rattle.pt_core.proofs.HonestLemmas.{all_numbered}
use Rattle.pt_core.proofs.ReactionLemmas.{book_fits}
use Rattle.zvt_apdu.specs.DecodeStream.{DecodedApdus}
use Rattle.gw_rules.specs.Scene.{Scene}
use Rattle.gw_rules.specs.Stage.{is_round}
use Rattle.gw_rules.specs.View.{View, Move, Begin, Read, Make}
use Rattle.gw_books.proofs.AgreeLemmas.{same-kind}
use Rattle.gw_books.specs.Kinds.{BookedKind, BookedReversal, is_kind, kind_of_command}
use Rattle.gw_books.specs.Past.{SentCommand, MadeLink, Ending, Approved, Declined, Reported, HeardEnd, Past, past_after, with_turn, Numbering, is_numbering, numbering_of_number, with_sent_bytes}
use Rattle.gw_books.specs.Books.{BookedEntry, comes_before, has_figures, have_one_cause, is_cause, is_caused, is_caused_by, is_entry_number, is_last_entry, is_of_its_link, is_ordered, is_over, is_true, leaves_entry, was_booked}
use Rattle.gw_books.proofs.Holding.{AreFalling}
use Rattle.gw_books.proofs.KeyedLemmas.{sent-below}
use Rattle.gw_books.proofs.ListLemmas.{In, all-in, all-from, any-in, any-from, bytes-itself, in-either, in-first, in-second}
use Rattle.gw_played.specs.Played.{PlacedExchange, exchanges_in, exchanges_after, booked_by, placed_entry, book_along, done_by, kind_played}
use Rattle.gw_played.proofs.Playing.{is_numbered, HasCommand, IsHonestFor, IsOfCommand, PeerLaws, WasLinked, met_in}

-- ---- what is known of a past

-- the ends of a past are those of commands that were sent and of terminals that were linked
abbrev pub AreEnds : Past → Type 0
AreEnds past = (end : HeardEnd) → In end past.ends → IsOfCommand past.commands end.numbering.poi end.ending × WasLinked past.links end.numbering.poi × (end.place ≤ past.heard)

-- its links were made before its place
abbrev pub AreLinksBefore : Past → Type 0
AreLinksBefore past = (link : MadeLink) → In link past.links → link.place < past.place

-- what was done on a connection was done before a place
abbrev pub AreBefore : ℕ → List PlacedExchange → Type 0
AreBefore place exchanges = (one : PlacedExchange) → In one exchanges → one.place < place

-- ---- tests

alone : (b : Bool) → (b || false) ≡ true → b ≡ true
alone true e = refl
alone false e = cc

alone-too : (b : Bool) → (b && true) ≡ true → b ≡ true
alone-too true e = refl
alone-too false e = cc

-- the place of an entry's cause is the one that caused it
pub caused-place : (place own : ℕ) (entry : BookedEntry) → entry.cause ≡ Some own → is_caused_by place entry ≡ true → own ≡ place
caused-place place own entry is e =
    eqb-true own place (alone (own == place) (sym (ap (λ (cause : Option ℕ). list_any (λ one. one == place) (option_to_list cause)) is) ∙ e))

-- an entry isn't caused by another place than that of its cause
pub not-caused : (place own : ℕ) (entry : BookedEntry) → entry.cause ≡ Some own → (own ≡ place → ⊥) → is_caused_by place entry ≡ false
not-caused place own entry is apart = false_from_ne_true (is_caused_by place entry) (λ e. apart (caused-place place own entry is e))

-- an entry is caused by its cause
pub caused-itself : (own : ℕ) (entry : BookedEntry) → entry.cause ≡ Some own → is_caused_by own entry ≡ true
caused-itself own entry is =
    ap (λ (cause : Option ℕ). list_any (λ one. one == own) (option_to_list cause)) is ∙ or_left (own == own) false (eq-eqb own own refl)

-- an entry of the book is placed by then
pub entry-placed : (past : Past) (poi : List ℕ) (entry : BookedEntry) → AreFalling past.place past.commands → HasCommand past poi entry → entry.place ≤ past.place
entry-placed past poi entry falling has =
    let h = sent-below past.place past.commands falling has.command has.sent in
    let e = has.place_is in
    omega (arith, h, e)

-- ---- an end that is true of a book, and of one with more entries

-- each entry of the greater book that the end's command caused is in the book
abbrev pub IsOwn : List BookedEntry → List BookedEntry → Ending → Type 0
IsOwn book whole (Approved place figures) = (entry : BookedEntry) → In entry whole → is_caused_by place entry ≡ true → In entry book
IsOwn book whole (Declined place trace) = (entry : BookedEntry) → In entry whole → is_caused_by place entry ≡ true → In entry book
IsOwn book whole (Reported trace figures) = Unit {0}

over-within : (book whole : List BookedEntry) (end : HeardEnd) (place : ℕ) → ((entry : BookedEntry) → In entry whole → is_caused_by place entry ≡ true → In entry book) → is_over book end place ≡ true → is_over whole end place ≡ true
over-within book whole end place own over = all-from test whole (λ entry within. by entry within (is_caused_by place entry) refl)
  where
    test : BookedEntry → Bool
    test entry = not (is_caused_by place entry) || was_booked end entry

    by : (entry : BookedEntry) → In entry whole → (b : Bool) → is_caused_by place entry ≡ b → test entry ≡ true
    by entry within true e = all-in test book over entry (own entry within e)
    by entry within false e = or_left (not (is_caused_by place entry)) (was_booked end entry) (not_from_false (is_caused_by place entry) e)

any-within : (test : BookedEntry → Bool) (book whole : List BookedEntry) → ((entry : BookedEntry) → In entry book → In entry whole) → list_any test book ≡ true → list_any test whole ≡ true
any-within test book whole within e = let found = any-in test book e in any-from test whole found.0 (within found.0 found.1) found.2

unapproved-within : (book whole : List BookedEntry) (place : ℕ) → ((entry : BookedEntry) → In entry whole → is_caused_by place entry ≡ true → In entry book)
    → list_all (λ (entry : BookedEntry). not (is_caused_by place entry && entry.approved)) book ≡ true → list_all (λ (entry : BookedEntry). not (is_caused_by place entry && entry.approved)) whole ≡ true
unapproved-within book whole place own all = all-from test whole (λ entry within. by entry within (is_caused_by place entry) refl)
  where
    test : BookedEntry → Bool
    test entry = not (is_caused_by place entry && entry.approved)

    by : (entry : BookedEntry) → In entry whole → (b : Bool) → is_caused_by place entry ≡ b → test entry ≡ true
    by entry within true e = all-in test book all entry (own entry within e)
    by entry within false e = ap (λ (b : Bool). not (b && entry.approved)) e

number-within : (book whole : List BookedEntry) (end : HeardEnd) (trace : ℕ) → ((entry : BookedEntry) → In entry book → In entry whole) → is_entry_number book end trace ≡ true → is_entry_number whole end trace ≡ true
number-within book whole end trace within = by (trace == 0)
  where
    by : (b : Bool) → (b || list_any (λ (entry : BookedEntry). was_booked end entry && entry.number == trace) book) ≡ true
        → (b || list_any (λ (entry : BookedEntry). was_booked end entry && entry.number == trace) whole) ≡ true
    by true e = refl
    by false e = any-within (λ (entry : BookedEntry). was_booked end entry && entry.number == trace) book whole within e

numbers-within : (book whole : List BookedEntry) (end : HeardEnd) (trace : Option ℕ) → ((entry : BookedEntry) → In entry book → In entry whole)
    → list_all (is_entry_number book end) (option_to_list trace) ≡ true → list_all (is_entry_number whole end) (option_to_list trace) ≡ true
numbers-within book whole end None within e = refl
numbers-within book whole end (Some trace) within e =
    and_from (is_entry_number whole end trace) true (number-within book whole end trace within (alone-too (is_entry_number book end trace) e)) refl

-- what is true of a book is true of one with all its entries, where the others are none of the end's command, and none was booked at the hearing
pub true-within : (book whole : List BookedEntry) (end : HeardEnd) (ending : Ending) → ((entry : BookedEntry) → In entry book → In entry whole) → IsOwn book whole ending
    → filter (was_booked end) whole ≡ filter (was_booked end) book → is_true book end ending ≡ true → is_true whole end ending ≡ true
true-within book whole end (Approved place figures) within own same e =
    let figured : BookedEntry → Bool = λ entry. is_caused_by place entry && has_figures figures entry in
    let parts = and_parts (is_over book end place) (list_any figured book) e in
    and_from (is_over whole end place) (list_any figured whole) (over-within book whole end place own parts.0) (any-within figured book whole within parts.1)
true-within book whole end (Declined place trace) within own same e =
    let none : BookedEntry → Bool = λ entry. not (is_caused_by place entry && entry.approved) in
    let parts = and_parts (is_over book end place) (list_all none book && list_all (is_entry_number book end) (option_to_list trace)) e in
    let more = and_parts (list_all none book) (list_all (is_entry_number book end) (option_to_list trace)) parts.1 in
    and_from (is_over whole end place) (list_all none whole && list_all (is_entry_number whole end) (option_to_list trace))
    (over-within book whole end place own parts.0)
    (and_from (list_all none whole) (list_all (is_entry_number whole end) (option_to_list trace)) (unapproved-within book whole place own more.0) (numbers-within book whole end trace within more.1))
true-within book whole end (Reported trace figures) within own same e =
    ap (λ (list : List BookedEntry). is_last_entry trace figures (last_or None list)) same ∙ e

-- ---- what holds of a book holds later

-- the later past has the commands of the past, and its links, but for newer ones
record Follows (past later : Past) : Type 0 where
  place : past.place ≤ later.place
  commands : (command : SentCommand) → In command past.commands → In command later.commands
  links : (link : MadeLink) → In link later.links → In link past.links ⊎ (past.place ≤ link.place)

caused-later : (past later : Past) (poi : List ℕ) (entry : BookedEntry) → AreFalling past.place past.commands → Follows past later → HasCommand past poi entry
    → is_caused past entry entry.cause ≡ true → is_caused later entry entry.cause ≡ true
caused-later past later poi entry falling follows has e = subst (λ (cause : Option ℕ). is_caused later entry cause ≡ true) (sym has.cause_is) now
  where
    place : ℕ
    place = has.command.place

    found : (b : Bool) → nat_le past.place place ≡ b → (b || list_any (is_cause entry place) past.commands) ≡ true → list_any (is_cause entry place) later.commands ≡ true
    found true t f =
        let h = leb-true past.place place t in
        let g = sent-below past.place past.commands falling has.command has.sent in
        absurd (omega (arith, h, g))
    found false t f = let some = any-in (is_cause entry place) past.commands f in any-from (is_cause entry place) later.commands some.0 (follows.commands some.0 some.1) some.2

    now : is_caused later entry (Some place) ≡ true
    now =
        let parts = and_parts (nat_lt place entry.place) (nat_le past.place place || list_any (is_cause entry place) past.commands) (subst (λ (cause : Option ℕ). is_caused past entry cause ≡ true) has.cause_is e) in
        and_from (nat_lt place entry.place) (nat_le later.place place || list_any (is_cause entry place) later.commands) parts.0
        (or_right (nat_le later.place place) (list_any (is_cause entry place) later.commands) (found (nat_le past.place place) refl parts.1))

linked-later : (past later : Past) (poi : List ℕ) (entry : BookedEntry) → AreFalling past.place past.commands → Follows past later → HasCommand past poi entry
    → is_of_its_link past entry ≡ true → is_of_its_link later entry ≡ true
linked-later past later poi entry falling follows has = each entry.cause
  where
    of : (cause : ℕ) (link : MadeLink) → list_all (leaves_entry entry cause) past.links ≡ true → In link past.links ⊎ (past.place ≤ link.place) → leaves_entry entry cause link ≡ true
    of cause link all (inl within) = all-in (leaves_entry entry cause) past.links all link within
    of cause link all (inr h) =
        let g = entry-placed past poi entry falling has in
        or_right (not (is_numbering link.numbering entry.numbering)) (nat_lt link.place cause || nat_le entry.place link.place)
        (or_right (nat_lt link.place cause) (nat_le entry.place link.place) (le-leb entry.place link.place (omega (arith, h, g))))

    each : (cause : Option ℕ) → list_all (λ (one : ℕ). list_all (leaves_entry entry one) past.links) (option_to_list cause) ≡ true → list_all (λ (one : ℕ). list_all (leaves_entry entry one) later.links) (option_to_list cause) ≡ true
    each None e = refl
    each (Some cause) e =
        let all = alone-too (list_all (leaves_entry entry cause) past.links) e in
        and_from (list_all (leaves_entry entry cause) later.links) true (all-from (leaves_entry entry cause) later.links (λ link within. of cause link all (follows.links link within))) refl

commanded-later : (past later : Past) (poi : List ℕ) (entry : BookedEntry) → Follows past later → HasCommand past poi entry → HasCommand later poi entry
commanded-later past later poi entry follows has = record {
  poi_is = has.poi_is;
  command = has.command;
  sent = follows.commands has.command has.sent;
  command_poi = has.command_poi;
  cause_is = has.cause_is;
  place_is = has.place_is;
}

-- a book that is honest is so later, where each new end is true of it
honest-later : (past later : Past) (poi : List ℕ) (book : List BookedEntry) → AreFalling past.place past.commands → Follows past later
    → ((end : HeardEnd) → In end later.ends → In end past.ends ⊎ (end.numbering.poi ≡ poi → is_true book end end.ending ≡ true)) → IsHonestFor past poi book → IsHonestFor later poi book
honest-later past later poi book falling follows ends honest = record {
  commanded = λ entry within. commanded-later past later poi entry follows (honest.commanded entry within);
  caused = λ entry within. caused-later past later poi entry falling follows (honest.commanded entry within) (honest.caused entry within);
  linked = λ entry within. linked-later past later poi entry falling follows (honest.commanded entry within) (honest.linked entry within);
  ordered = honest.ordered;
  numbered = honest.numbered;
  true_ends = λ end within own. by end own (ends end within);
}
  where
    by : (end : HeardEnd) → end.numbering.poi ≡ poi → In end past.ends ⊎ (end.numbering.poi ≡ poi → is_true book end end.ending ≡ true) → is_true book end end.ending ≡ true
    by end own (inl old) = honest.true_ends end old own
    by end own (inr new) = new own

-- the place moves on, and nothing else does
pub honest-place : (past later : Past) (poi : List ℕ) (book : List BookedEntry) → AreFalling past.place past.commands → past.place ≤ later.place → later.commands ≡ past.commands → later.links ≡ past.links → later.ends ≡ past.ends
    → IsHonestFor past poi book → IsHonestFor later poi book
honest-place past later poi book falling place commands links ends =
    honest-later past later poi book falling
    (record { place = place; commands = λ command within. subst (In command) (sym commands) within; links = λ link within. inl (subst (In link) links within) })
    (λ end within. inl (subst (In end) ends within))

-- a terminal is linked
pub honest-link : (past later : Past) (poi : List ℕ) (book : List BookedEntry) (link : MadeLink) → AreFalling past.place past.commands → past.place ≤ later.place → later.commands ≡ past.commands
    → later.links ≡ link ∷ past.links → link.place ≡ past.place → later.ends ≡ past.ends → IsHonestFor past poi book → IsHonestFor later poi book
honest-link past later poi book link falling place commands links made ends =
    honest-later past later poi book falling
    (record { place = place; commands = λ command within. subst (In command) (sym commands) within; links = λ other within. by other (subst (In other) links within) })
    (λ end within. inl (subst (In end) ends within))
  where
    by : (other : MadeLink) → In other (link ∷ past.links) → In other past.links ⊎ (past.place ≤ other.place)
    by other (inl same) =
        let e : other.place ≡ link.place = ap (λ (one : MadeLink). one.place) same in
        inr (omega (arith, e, made))
    by other (inr within) = inl within

-- a command is sent for which this terminal books nothing
pub honest-other : (past later : Past) (poi : List ℕ) (book : List BookedEntry) (command : SentCommand) → AreFalling past.place past.commands → past.place ≤ later.place → later.commands ≡ command ∷ past.commands
    → later.links ≡ past.links → later.ends ≡ past.ends → IsHonestFor past poi book → IsHonestFor later poi book
honest-other past later poi book command falling place commands links ends =
    honest-later past later poi book falling
    (record { place = place; commands = λ one within. subst (In one) (sym commands) (inr within); links = λ link within. inl (subst (In link) links within) })
    (λ end within. inl (subst (In end) ends within))

-- ends are heard, each of them true of this terminal's book where it is its own
pub honest-ends : (past later : Past) (poi : List ℕ) (book : List BookedEntry) (new : List HeardEnd) → AreFalling past.place past.commands → past.place ≤ later.place → later.commands ≡ past.commands
    → later.links ≡ past.links → later.ends ≡ new ++ past.ends → ((end : HeardEnd) → In end new → end.numbering.poi ≡ poi → is_true book end end.ending ≡ true) → IsHonestFor past poi book → IsHonestFor later poi book
honest-ends past later poi book new falling place commands links ends true_ =
    honest-later past later poi book falling
    (record { place = place; commands = λ command within. subst (In command) (sym commands) within; links = λ link within. inl (subst (In link) links within) })
    (λ end within. by end (in-either end new past.ends (subst (In end) ends within)))
  where
    by : (end : HeardEnd) → In end new ⊎ In end past.ends → In end past.ends ⊎ (end.numbering.poi ≡ poi → is_true book end end.ending ≡ true)
    by end (inl first) = inr (true_ end first)
    by end (inr old) = inl old

-- ---- one entry more

-- books are in order together where each entry of the one comes before each of the other
pub ordered-both : (one other : List BookedEntry) → is_ordered one ≡ true → is_ordered other ≡ true → ((entry next : BookedEntry) → In entry one → In next other → comes_before entry next ≡ true) → is_ordered (one ++ other) ≡ true
ordered-both [] other first second before = second
ordered-both (entry ∷ one) other first second before =
    let parts = and_parts (list_all (comes_before entry) one) (is_ordered one) first in
    and_from (list_all (comes_before entry) (one ++ other)) (is_ordered (one ++ other))
    (all-from (comes_before entry) (one ++ other) (λ next within. by next parts.0 (in-either next one other within)))
    (ordered-both one other parts.1 second (λ earlier next within. before earlier next (inr within)))
  where
    by : (next : BookedEntry) → list_all (comes_before entry) one ≡ true → In next one ⊎ In next other → comes_before entry next ≡ true
    by next all (inl within) = all-in (comes_before entry) one all next within
    by next all (inr within) = before entry next (inl refl) within

-- what is needed of an entry that is booked
record IsNext (past : Past) (poi : List ℕ) (book : List BookedEntry) (entry : BookedEntry) : Type 0 where
  commanded : HasCommand past poi entry
  caused : is_caused past entry entry.cause ≡ true
  linked : is_of_its_link past entry ≡ true
  numbered : is_numbered entry ≡ true
  after : (one : BookedEntry) → In one book → comes_before one entry ≡ true
  -- of no end that was heard
  own : (end : HeardEnd) → In end past.ends → end.numbering.poi ≡ poi → IsOwn book (book ++ entry ∷ []) end.ending
  unheard : (end : HeardEnd) → In end past.ends → was_booked end entry ≡ false

unbooked : (book : List BookedEntry) (end : HeardEnd) (entry : BookedEntry) → was_booked end entry ≡ false → filter (was_booked end) (book ++ entry ∷ []) ≡ filter (was_booked end) book
unbooked book end entry e =
    filter-append (was_booked end) book (entry ∷ []) ∙ ap (λ (b : Bool). filter (was_booked end) book ++ (if b then entry ∷ [] else [])) e ∙ append-nil (filter (was_booked end) book)

one-more : (past : Past) (poi : List ℕ) (book : List BookedEntry) (entry : BookedEntry) → IsNext past poi book entry → IsHonestFor past poi book → IsHonestFor past poi (book ++ entry ∷ [])
one-more past poi book entry next honest = record {
  commanded = λ one within. each (HasCommand past poi) honest.commanded next.commanded one (in-either one book (entry ∷ []) within);
  caused = λ one within. each (λ (e : BookedEntry). is_caused past e e.cause ≡ true) honest.caused next.caused one (in-either one book (entry ∷ []) within);
  linked = λ one within. each (λ (e : BookedEntry). is_of_its_link past e ≡ true) honest.linked next.linked one (in-either one book (entry ∷ []) within);
  ordered = ordered-both book (entry ∷ []) honest.ordered refl (λ one other within last. before one other within last);
  numbered = λ one within. each (λ (e : BookedEntry). is_numbered e ≡ true) honest.numbered next.numbered one (in-either one book (entry ∷ []) within);
  true_ends = λ end within own.
      true-within book (book ++ entry ∷ []) end end.ending (λ one inside. in-first one book (entry ∷ []) inside) (next.own end within own) (unbooked book end entry (next.unheard end within)) (honest.true_ends end within own);
}
  where
    each : (P : BookedEntry → Type 0) → ((one : BookedEntry) → In one book → P one) → P entry → (one : BookedEntry) → In one book ⊎ In one (entry ∷ []) → P one
    each P old new one (inl within) = old one within
    each P old new one (inr (inl same)) = subst P (sym same) new
    each P old new one (inr (inr none)) = absurd none

    before : (one other : BookedEntry) → In one book → In other (entry ∷ []) → comes_before one other ≡ true
    before one other within (inl same) = subst (λ (e : BookedEntry). comes_before one e ≡ true) (sym same) (next.after one within)
    before one other within (inr none) = absurd none

-- ---- the numbers of a book

-- an entry without its place
abbrev pub plain_entry : BookedEntry → BookEntry
plain_entry entry = record { number = entry.number; receipt = entry.receipt; amount = entry.amount; reversal = is_kind BookedReversal entry.kind; approved = entry.approved }

pub in-map : {A B : Type 0} (f : A → B) (list : List A) (x : A) → In x list → In (f x) (map f list)
in-map f [] x within = absurd within
in-map f (y ∷ list) x (inl same) = inl (ap f same)
in-map f (y ∷ list) x (inr within) = inr (in-map f list x within)

plain-one : (poi : List ℕ) (place : ℕ) (entry : BookEntry) → plain_entry (placed_entry poi place entry) ≡ entry
plain-one poi place entry = ap (λ (reversal : Bool). record { number = entry.number; receipt = entry.receipt; amount = entry.amount; reversal = reversal; approved = entry.approved }) (by-kind entry.reversal)
  where
    by-kind : (reversal : Bool) → is_kind BookedReversal (kind_played reversal) ≡ reversal
    by-kind true = refl
    by-kind false = refl

plain-placed : (poi : List ℕ) (place : ℕ) (entries : List BookEntry) → map plain_entry (map (placed_entry poi place) entries) ≡ entries
plain-placed poi place [] = refl
plain-placed poi place (entry ∷ entries) = ap (λ (one : BookEntry). one ∷ map plain_entry (map (placed_entry poi place) entries)) (plain-one poi place entry) ∙ ap (λ (list : List BookEntry). entry ∷ list) (plain-placed poi place entries)

-- what is booked for a sending comes after the book before it
pub book-grows : (laws : PeerLaws) (setting : Setting) (exchanges : List Exchange) (bytes : List ℕ)
    → book_after setting (Chunk bytes ∷ met_of exchanges) ≡ book_after setting (met_of exchanges) ++ booked_by setting exchanges (Sends bytes)
book-grows laws setting exchanges bytes =
    let before = all_handled setting (met_of exchanges) in
    let follows = chunk_follows laws.all.stream setting (met_of exchanges) bytes in
    let new = added setting follows.0 before in
    let grown : book_after setting (Chunk bytes ∷ met_of exchanges) ≡ book_of setting before ++ new = ap (book_of setting) follows.1 ∙ book_added setting follows.0 before in
    let more : booked_by setting exchanges (Sends bytes) ≡ new = ap (λ (b : List BookEntry). drop (length (book_of setting before)) b) grown ∙ drop-append_seam (book_of setting before) new in
    grown ∙ ap (λ (list : List BookEntry). book_of setting before ++ list) (sym more)

-- a new link books nothing
pub link-books-none : (laws : PeerLaws) (setting : Setting) (met : List Met) → book_after setting (NewLink ∷ met) ≡ book_after setting met
link-books-none laws setting met =
    ap (λ (s : DecodedApdus). book_of setting (handled setting (all_handled setting met) s.apdus)) (laws.all.stream.incomplete [] refl)

first-book : (laws : PeerLaws) (setting : Setting) → book_after setting [] ≡ []
first-book laws setting = ap (λ (s : DecodedApdus). book_of setting (handled setting [] s.apdus)) (laws.all.stream.incomplete [] refl)

-- without places the book is that of the terminal
pub book-plain : (laws : PeerLaws) (setting : Setting) (poi : List ℕ) (exchanges : List PlacedExchange) → map plain_entry (book_along setting poi exchanges) ≡ book_after setting (met_in exchanges)
book-plain laws setting poi [] = sym (first-book laws setting)
book-plain laws setting poi (one ∷ exchanges) = by (book-plain laws setting poi exchanges) one.exchange
  where
    book : List BookedEntry
    book = book_along setting poi exchanges

    by : map plain_entry (book_along setting poi exchanges) ≡ book_after setting (met_in exchanges) → (exchange : Exchange)
        → map plain_entry (book ++ map (placed_entry poi one.place) (booked_by setting (exchanges_in exchanges) exchange)) ≡ book_after setting (met_of (exchange ∷ exchanges_in exchanges))
    by before Links = ap (map plain_entry) (append-nil book) ∙ before ∙ sym (link-books-none laws setting (met_in exchanges))
    by before (Sends bytes) =
        let entries = booked_by setting (exchanges_in exchanges) (Sends bytes) in
        map-append plain_entry book (map (placed_entry poi one.place) entries)
        ∙ ap (λ (list : List BookEntry). list ++ map plain_entry (map (placed_entry poi one.place) entries)) before
        ∙ ap (λ (list : List BookEntry). book_after setting (met_in exchanges) ++ list) (plain-placed poi one.place entries)
        ∙ sym (book-grows laws setting (exchanges_in exchanges) bytes)
    by before (Hears bytes) = ap (map plain_entry) (append-nil book) ∙ before

-- entries that are numbered one after another from a number on lie from it on, and before the next
numbers-between : (from : ℕ) (book : List BookEntry) (entry : BookEntry) → AreEntriesNumbered from book → In entry book → (from ≤ entry.number) × (entry.number < from + length book)
numbers-between from [] entry numbers within = absurd within
numbers-between from (first ∷ book) entry numbers (inl same) =
    let e : entry.number ≡ first.number = ap (λ (one : BookEntry). one.number) same in
    let h = numbers.0 in
    (omega (arith, e, h), omega (arith, e, h))
numbers-between from (first ∷ book) entry numbers (inr within) =
    let h = numbers-between (from + 1) book entry numbers.1 within in
    let low = h.0 in
    let high = h.1 in
    (omega (arith, low), omega (arith, high))

-- the last of them is numbered above the others
last-number : (from : ℕ) (book : List BookEntry) (last : BookEntry) → AreEntriesNumbered from (book ++ last ∷ []) → (last.number ≡ from + length book) × AreEntriesNumbered from book
last-number from [] last numbers = let h = numbers.0 in (omega (arith, h), tt)
last-number from (first ∷ book) last numbers =
    let more = last-number (from + 1) book last numbers.1 in
    let h = more.0 in
    (omega (arith, h), (numbers.0, more.1))

-- the numbers of a terminal's book rise
pub book-numbers : (laws : PeerLaws) (setting : Setting) (poi : List ℕ) (exchanges : List PlacedExchange) → AreEntriesNumbered 1 (map plain_entry (book_along setting poi exchanges))
book-numbers laws setting poi exchanges =
    subst (AreEntriesNumbered 1) (sym (book-plain laws setting poi exchanges)) (all_numbered setting (all_handled setting (met_in exchanges))).numbers

-- ---- a command is sent

-- where an exchange books nothing the book is as it was
pub book-still : (setting : Setting) (poi : List ℕ) (one : PlacedExchange) (exchanges : List PlacedExchange) → booked_by setting (exchanges_in exchanges) one.exchange ≡ []
    → book_along setting poi (one ∷ exchanges) ≡ book_along setting poi exchanges
book-still setting poi one exchanges none =
    ap (λ (entries : List BookEntry). book_along setting poi exchanges ++ map (placed_entry poi one.place) entries) none ∙ append-nil (book_along setting poi exchanges)

-- for a command a terminal books nothing, or one entry of its kind, where the command is whole
abbrev pub BooksOne : SentCommand → List BookEntry → Type 0
BooksOne command [] = Unit {0}
BooksOne command (entry ∷ []) = (command.whole ≡ true) × (command.kind ≡ kind_played entry.reversal)
BooksOne command (entry ∷ other ∷ entries) = ⊥

-- the sending of a command at the past's place
record Sending (past later : Past) (poi : List ℕ) (command : SentCommand) : Type 0 where
  falling : AreFalling past.place past.commands
  heard : past.heard ≤ past.place
  ends : AreEnds past
  links_before : AreLinksBefore past
  place : past.place + 1 ≤ later.place
  command_place : command.place ≡ past.place
  command_poi : command.numbering.poi ≡ poi
  commands_are : later.commands ≡ command ∷ past.commands
  links_are : later.links ≡ past.links
  ends_are : later.ends ≡ past.ends

-- the entry that is booked for it comes next
next-entry : (past later : Past) (poi : List ℕ) (command : SentCommand) (book : List BookedEntry) (entry : BookEntry) → Sending past later poi command → (command.whole ≡ true) × (command.kind ≡ kind_played entry.reversal)
    → ((one : BookedEntry) → In one book → one.number < entry.number) → (1 ≤ entry.number) × (entry.number ≤ 999999) × (entry.receipt ≤ 9999) → IsHonestFor past poi book → IsNext later poi book (placed_entry poi past.place entry)
next-entry past later poi command book entry sending kind below within honest = record {
  commanded = record {
    poi_is = refl;
    command = command;
    sent = sent;
    command_poi = sending.command_poi;
    cause_is = ap Some (sym sending.command_place);
    place_is = ap (λ n. n + 1) (sym sending.command_place);
  };
  caused =
      and_from (nat_lt past.place (past.place + 1)) (nat_le later.place past.place || list_any (is_cause new past.place) later.commands) (lt-ltb past.place (past.place + 1) (omega arith))
      (or_right (nat_le later.place past.place) (list_any (is_cause new past.place) later.commands) (any-from (is_cause new past.place) later.commands command sent is-own));
  linked = and_from (list_all (leaves_entry new past.place) later.links) true (all-from (leaves_entry new past.place) later.links (λ link inside. leaves link (subst (In link) sending.links_are inside))) refl;
  numbered =
      and_from (nat_le 1 entry.number) (nat_le entry.number 999999 && nat_le entry.receipt 9999) (le-leb 1 entry.number within.0)
      (and_from (nat_le entry.number 999999) (nat_le entry.receipt 9999) (le-leb entry.number 999999 within.1) (le-leb entry.receipt 9999 within.2));
  after = after;
  own = λ end inside owned. own end (subst (In end) sending.ends_are inside);
  unheard = λ end inside. unheard end (subst (In end) sending.ends_are inside);
}
  where
    new : BookedEntry
    new = placed_entry poi past.place entry

    sent : In command later.commands
    sent = subst (In command) (sym sending.commands_are) (inl refl)

    is-own : is_cause new past.place command ≡ true
    is-own =
        and_from (command.place == past.place) (command.whole && (bytes_eq command.numbering.poi poi && is_kind command.kind (kind_played entry.reversal))) (eq-eqb command.place past.place sending.command_place)
        (and_from command.whole (bytes_eq command.numbering.poi poi && is_kind command.kind (kind_played entry.reversal)) kind.0
        (and_from (bytes_eq command.numbering.poi poi) (is_kind command.kind (kind_played entry.reversal)) (ap (λ (p : List ℕ). bytes_eq p poi) sending.command_poi ∙ bytes-itself poi)
        (same-kind command.kind (kind_played entry.reversal) kind.1)))

    leaves : (link : MadeLink) → In link past.links → leaves_entry new past.place link ≡ true
    leaves link inside =
        or_right (not (is_numbering link.numbering new.numbering)) (nat_lt link.place past.place || nat_le (past.place + 1) link.place)
        (or_left (nat_lt link.place past.place) (nat_le (past.place + 1) link.place) (lt-ltb link.place past.place (sending.links_before link inside)))

    one-cause : (one : BookedEntry) → HasCommand past poi one → have_one_cause one new ≡ false
    one-cause one has =
        let h = sent-below past.place past.commands sending.falling has.command has.sent in
        ap (λ (cause : Option ℕ). list_any (λ place. is_caused_by place new) (option_to_list cause)) has.cause_is
        ∙ ap (λ (b : Bool). b || false) (not-caused has.command.place past.place new refl (λ e. omega (arith, h, e)))

    after : (one : BookedEntry) → In one book → comes_before one new ≡ true
    after one inside =
        let h = entry-placed past poi one sending.falling (honest.commanded one inside) in
        let rises : Bool = not (is_numbering one.numbering new.numbering) || nat_lt one.number entry.number in
        or_right (not (bytes_eq one.numbering.poi poi)) (nat_le one.place (past.place + 1) && (rises && not (have_one_cause one new)))
        (and_from (nat_le one.place (past.place + 1)) (rises && not (have_one_cause one new)) (le-leb one.place (past.place + 1) (omega (arith, h)))
        (and_from rises (not (have_one_cause one new)) (or_right (not (is_numbering one.numbering new.numbering)) (nat_lt one.number entry.number) (lt-ltb one.number entry.number (below one inside)))
        (not_from_false (have_one_cause one new) (one-cause one (honest.commanded one inside)))))

    unheard : (end : HeardEnd) → In end past.ends → was_booked end new ≡ false
    unheard end inside = false_from_ne_true (was_booked end new) (λ e.
        let h = leb-true (past.place + 1) end.place (and_parts (bytes_eq end.numbering.poi poi) (nat_le (past.place + 1) end.place) e).1 in
        let g = (sending.ends end inside).2 in
        let f = sending.heard in
        omega (arith, h, g, f))

    of-place : (place : ℕ) → place < past.place → (one : BookedEntry) → In one (book ++ new ∷ []) → is_caused_by place one ≡ true → In one book
    of-place place h one inside e = by (in-either one book (new ∷ []) inside)
      where
        by : In one book ⊎ In one (new ∷ []) → In one book
        by (inl old) = old
        by (inr (inl same)) =
            let is : past.place ≡ place = caused-place place past.place new refl (subst (λ (b : BookedEntry). is_caused_by place b ≡ true) same e) in
            absurd (omega (arith, h, is))
        by (inr (inr none)) = absurd none

    ending-own : (end : HeardEnd) (ending : Ending) → IsOfCommand past.commands end.numbering.poi ending → IsOwn book (book ++ new ∷ []) ending
    ending-own end (Approved place figures) of =
        let h = sent-below past.place past.commands sending.falling of.0 of.1 in
        let e = of.2 in
        of-place place (omega (arith, h, e))
    ending-own end (Declined place trace) of =
        let h = sent-below past.place past.commands sending.falling of.0 of.1 in
        let e = of.2 in
        of-place place (omega (arith, h, e))
    ending-own end (Reported trace figures) of = tt

    own : (end : HeardEnd) → In end past.ends → IsOwn book (book ++ new ∷ []) end.ending
    own end inside = ending-own end end.ending (sending.ends end inside).0

-- a command is sent to the terminal, which books for it
pub honest-command : (laws : PeerLaws) (setting : Setting) (poi : List ℕ) (past later : Past) (exchanges : List PlacedExchange) (bytes : List ℕ) (command : SentCommand) → AreFalling past.place past.commands
    → past.heard ≤ past.place → AreEnds past → AreLinksBefore past → past.place + 1 ≤ later.place → command.place ≡ past.place → command.numbering.poi ≡ poi → later.commands ≡ command ∷ past.commands → later.links ≡ past.links → later.ends ≡ past.ends
    → BooksOne command (booked_by setting (exchanges_in exchanges) (Sends bytes)) → IsHonestFor past poi (book_along setting poi exchanges)
    → IsHonestFor later poi (book_along setting poi (record { place = past.place; exchange = Sends bytes } ∷ exchanges))
honest-command laws setting poi past later exchanges bytes command falling heard ends links_before place command_place command_poi commands_are links_are ends_are books honest =
    by (booked_by setting (exchanges_in exchanges) (Sends bytes)) refl books
  where
    book : List BookedEntry
    book = book_along setting poi exchanges

    sending : Sending past later poi command
    sending = record {
      falling = falling;
      heard = heard;
      ends = ends;
      links_before = links_before;
      place = place;
      command_place = command_place;
      command_poi = command_poi;
      commands_are = commands_are;
      links_are = links_are;
      ends_are = ends_are;
    }

    still : IsHonestFor later poi book
    still = honest-other past later poi book command falling (omega (arith, place)) commands_are links_are ends_are honest

    grown : (entry : BookEntry) → booked_by setting (exchanges_in exchanges) (Sends bytes) ≡ entry ∷ [] → map plain_entry book ++ entry ∷ [] ≡ book_after setting (Chunk bytes ∷ met_in exchanges)
    grown entry is =
        ap (λ (list : List BookEntry). list ++ entry ∷ []) (book-plain laws setting poi exchanges) ∙ ap (λ (list : List BookEntry). book_after setting (met_in exchanges) ++ list) (sym is)
        ∙ sym (book-grows laws setting (exchanges_in exchanges) bytes)

    one : (entry : BookEntry) → booked_by setting (exchanges_in exchanges) (Sends bytes) ≡ entry ∷ [] → (command.whole ≡ true) × (command.kind ≡ kind_played entry.reversal) → IsHonestFor later poi (book ++ placed_entry poi past.place entry ∷ [])
    one entry is kind =
        let after = book_after setting (Chunk bytes ∷ met_in exchanges) in
        let numbered = all_numbered setting (all_handled setting (Chunk bytes ∷ met_in exchanges)) in
        let last = last-number 1 (map plain_entry book) entry (subst (AreEntriesNumbered 1) (sym (grown entry is)) numbered.numbers) in
        let number_is = last.0 in
        let few = numbered.few in
        let size : length (map plain_entry book) + 1 ≡ length after = sym (length-append (map plain_entry book) (entry ∷ [])) ∙ ap length (grown entry is) in
        let inside : In entry after = subst (In entry) (grown entry is) (in-second entry (map plain_entry book) (entry ∷ []) (inl refl)) in
        let fits = all-in fits_status after (book_fits laws.all.digits setting (all_handled setting (Chunk bytes ∷ met_in exchanges))) entry inside in
        let parts = and_parts (nat_lt entry.number 1000000) (nat_lt entry.receipt 10000 && nat_lt entry.amount 1000000000000) fits in
        let receipt = ltb-true entry.receipt 10000 (and_parts (nat_lt entry.receipt 10000) (nat_lt entry.amount 1000000000000) parts.1).0 in
        let below : (other : BookedEntry) → In other book → other.number < entry.number =
        λ other within. (let h = (numbers-between 1 (map plain_entry book) (plain_entry other) last.1 (in-map plain_entry book other within)).1 in omega (arith, h, number_is)) in
        one-more later poi book (placed_entry poi past.place entry)
        (next-entry past later poi command book entry sending kind below (omega (arith, number_is), omega (arith, number_is, few, size), omega (arith, receipt)) honest) still

    by : (entries : List BookEntry) → booked_by setting (exchanges_in exchanges) (Sends bytes) ≡ entries → BooksOne command entries → IsHonestFor later poi (book ++ map (placed_entry poi past.place) entries)
    by [] is books = subst (IsHonestFor later poi) (sym (append-nil book)) still
    by (entry ∷ []) is books = one entry is books
    by (entry ∷ other ∷ entries) is books = absurd books

-- ---- what each move keeps

-- commands fall, and are older than the place
pub falling-after : (v : View) (past : Past) (move : Move) → AreFalling past.place past.commands → AreFalling (past_after v past move).place (past_after v past move).commands
falling-after v past Begin falling = falling
falling-after v past (Read as_read) falling = falling
falling-after v past (Make turn) falling = of turn
  where
    later-on : (place : ℕ) (commands : List SentCommand) → AreFalling place commands → AreFalling (place + 1) commands
    later-on place [] falls = tt
    later-on place (command ∷ commands) falls = let h = falls.0 in (omega (arith, h), falls.1)

    same : AreFalling (past.place + 1) past.commands
    same = later-on past.place past.commands falling

    sent : (found : Option BookedKind) (scene : Scene) (numbering : Numbering) (bytes : List ℕ) → AreFalling (past.place + 1) (with_sent_bytes scene numbering bytes past found).commands
    sent (Some kind) scene numbering bytes = (omega arith, falling)
    sent None scene numbering bytes = same

    wrote : (b : Bool) → AreFalling (past.place + 1) (if b then record past { deeds = past.occasion ∷ past.deeds } else past).commands
    wrote true = same
    wrote false = same

    of : (turn : Turn) → AreFalling (past.place + 1) (with_turn v.scene past turn).commands
    of (Start setup) = same
    of OpenFailed = same
    of (Polled now) = same
    of (Opened till) = same
    of (HeardTill till bytes) = same
    of (Closed till) = same
    of (HeardPt pt bytes) = same
    of (Lost pt) = same
    of Stopped = same
    of (Linked pt) = same
    of (LinkFailed pt) = same
    of (SentTill till bytes ok) = same
    of (SentPt pt bytes ok) = sent (kind_of_command bytes) v.scene (numbering_of_number v.scene pt) bytes
    of (CutTill till) = same
    of (CutPt pt) = same
    of (Wrote offset bytes) = wrote (is_round v.scene.stage)
    of Synced = same
    of DiskFailed = same
    of (Crash file) = same

-- links are older than the place
pub linked-before-after : (v : View) (past : Past) (move : Move) → AreLinksBefore past → AreLinksBefore (past_after v past move)
linked-before-after v past Begin before = before
linked-before-after v past (Read as_read) before = before
linked-before-after v past (Make turn) before = of turn
  where
    same : (link : MadeLink) → In link past.links → link.place < past.place + 1
    same link within = let h = before link within in omega (arith, h)

    made : (link new : MadeLink) → new.place ≡ past.place → In link (new ∷ past.links) → link.place < past.place + 1
    made link new is (inl e) =
        let h : link.place ≡ new.place = ap (λ (one : MadeLink). one.place) e in
        omega (arith, h, is)
    made link new is (inr within) = same link within

    sent : (found : Option BookedKind) (scene : Scene) (numbering : Numbering) (bytes : List ℕ) (link : MadeLink) → In link (with_sent_bytes scene numbering bytes past found).links → link.place < past.place + 1
    sent (Some kind) scene numbering bytes = same
    sent None scene numbering bytes = same

    wrote : (b : Bool) (link : MadeLink) → In link (if b then record past { deeds = past.occasion ∷ past.deeds } else past).links → link.place < past.place + 1
    wrote true = same
    wrote false = same

    of : (turn : Turn) (link : MadeLink) → In link (with_turn v.scene past turn).links → link.place < past.place + 1
    of (Start setup) = same
    of OpenFailed = same
    of (Polled now) = same
    of (Opened till) = same
    of (HeardTill till bytes) = same
    of (Closed till) = same
    of (HeardPt pt bytes) = same
    of (Lost pt) = same
    of Stopped = same
    of (Linked pt) = λ link within. made link (record { place = past.place; numbering = numbering_of_number v.scene pt; records = length v.scene.kept }) refl within
    of (LinkFailed pt) = same
    of (SentTill till bytes ok) = same
    of (SentPt pt bytes ok) = sent (kind_of_command bytes) v.scene (numbering_of_number v.scene pt) bytes
    of (CutTill till) = same
    of (CutPt pt) = same
    of (Wrote offset bytes) = wrote (is_round v.scene.stage)
    of Synced = same
    of DiskFailed = same
    of (Crash file) = same

-- the last hearing isn't later than the place
pub heard-before-after : (v : View) (past : Past) (move : Move) → past.heard ≤ past.place → (past_after v past move).heard ≤ (past_after v past move).place
heard-before-after v past Begin before = before
heard-before-after v past (Read as_read) before = before
heard-before-after v past (Make turn) before = of turn
  where
    same : past.heard ≤ past.place + 1
    same = omega (arith, before)

    sent : (found : Option BookedKind) (scene : Scene) (numbering : Numbering) (bytes : List ℕ) → (with_sent_bytes scene numbering bytes past found).heard ≤ past.place + 1
    sent (Some kind) scene numbering bytes = same
    sent None scene numbering bytes = same

    wrote : (b : Bool) → (if b then record past { deeds = past.occasion ∷ past.deeds } else past).heard ≤ past.place + 1
    wrote true = same
    wrote false = same

    of : (turn : Turn) → (with_turn v.scene past turn).heard ≤ past.place + 1
    of (Start setup) = same
    of OpenFailed = same
    of (Polled now) = same
    of (Opened till) = same
    of (HeardTill till bytes) = same
    of (Closed till) = same
    of (HeardPt pt bytes) = omega arith
    of (Lost pt) = same
    of Stopped = same
    of (Linked pt) = same
    of (LinkFailed pt) = same
    of (SentTill till bytes ok) = same
    of (SentPt pt bytes ok) = sent (kind_of_command bytes) v.scene (numbering_of_number v.scene pt) bytes
    of (CutTill till) = same
    of (CutPt pt) = same
    of (Wrote offset bytes) = wrote (is_round v.scene.stage)
    of Synced = same
    of DiskFailed = same
    of (Crash file) = same

-- what was done on a connection was done before the place
pub places-after : (poi : List ℕ) (v : View) (past : Past) (exchanges : List PlacedExchange) (move : Move) → AreBefore past.place exchanges → AreBefore (past_after v past move).place (exchanges_after poi v past.place exchanges move)
places-after poi v past exchanges Begin before = before
places-after poi v past exchanges (Read as_read) before = before
places-after poi v past exchanges (Make turn) before = λ one within.
    by one (in-either one (map (λ (exchange : Exchange). let new : PlacedExchange = record { place = past.place; exchange = exchange } in new) (done_by v.scene poi turn)) exchanges within)
  where
    new-place : (one : PlacedExchange) (done : List Exchange) → In one (map (λ (exchange : Exchange). let new : PlacedExchange = record { place = past.place; exchange = exchange } in new) done) → one.place ≡ past.place
    new-place one [] inside = absurd inside
    new-place one (exchange ∷ done) (inl e) = ap (λ (o : PlacedExchange). o.place) e
    new-place one (exchange ∷ done) (inr inside) = new-place one done inside

    by : (one : PlacedExchange) → In one (map (λ (exchange : Exchange). let new : PlacedExchange = record { place = past.place; exchange = exchange } in new) (done_by v.scene poi turn)) ⊎ In one exchanges → one.place < past.place + 1
    by one (inl inside) = let h = new-place one (done_by v.scene poi turn) inside in omega (arith, h)
    by one (inr inside) = let h = before one inside in omega (arith, h)
