-- The books of all terminals are honest together, and what was heard by now was sent.
use Rattle.std.proofs.Common.{◌≡◌, ◌∙◌, ℕ, suc, Bool, true, false, List, [], ◌∷◌, ◌++◌, map, flat_map, refl, sym, ap, subst, inl, inr, append-nil}
use Rattle.std.proofs.lemmas.Bool.{not_from_false, or_left, or_parts}
use Rattle.std.proofs.lemmas.List.{map-append}
use Rattle.std.proofs.lemmas.List.Elements.{filter-append}
use Rattle.std.specs.Prelude.{◌⊎◌, ◌&&◌, ◌||◌, not, nat_lt, nat_le, bytes_eq, filter, if◌then◌else◌, slice_get, Some}
use Rattle.std.specs.List.{list_any, list_all}
use Rattle.pt_core.specs.Exchange.{Exchange, Links, Sends, Hears, HearsSent}
use Rattle.pt_core.specs.History.{Setting}
use Rattle.gw_rules.specs.View.{View, Move, Begin, Read, Make, after}
use Rattle.gw_books.specs.Past.{SentCommand, Ending, Approved, Declined, Reported, HeardEnd, Past, past_after, is_numbering}
use Rattle.gw_books.specs.Books.{BookedEntry, Honest, comes_before, have_one_cause, is_caused, is_caused_by, is_of_its_link, is_ordered, is_true, was_booked}
use Rattle.gw_books.proofs.Holding.{AreFalling}
use Rattle.gw_books.proofs.KeyedLemmas.{sent-same}
use Rattle.gw_books.proofs.ListLemmas.{In, all-from, any-in, bytes-are, in-either, in-first, in-second, none-in}
use Rattle.gw_played.specs.Played.{AreApart, HaveAllLinked, PlacedExchange, book_along, done_by, exchanges_after, exchanges_from, exchanges_in, place_then}
use Rattle.gw_played.proofs.HonestGrowLemmas.{AreEnds, IsOwn, caused-place, ordered-both, true-within}
use Rattle.gw_played.proofs.Playing.{is_numbered, IsHonestFor, IsOfCommand}

-- ---- lists

-- what is in a list is at a place of it
pub in-at : {A : Type 0} (list : List A) (x : A) → In x list → (at : ℕ) × (slice_get list at ≡ Some x)
in-at [] x within = absurd within
in-at (y ∷ list) x (inl same) = (0, ap Some (sym same))
in-at (y ∷ list) x (inr within) = let found = in-at list x within in (suc found.0, found.1)

-- ---- books of more terminals

module _ (book : List ℕ → List BookedEntry) where
  abbrev together : List (List ℕ) → List BookedEntry
  together pois = flat_map book pois

  -- an entry of them all is one of a terminal
  from-one : (pois : List (List ℕ)) (entry : BookedEntry) → In entry (together pois) → (poi : List ℕ) × In poi pois × In entry (book poi)
  from-one [] entry within = absurd within
  from-one (poi ∷ pois) entry within = by (from-one pois entry) (in-either entry (book poi) (together pois) within)
    where
      by : (In entry (together pois) → (other : List ℕ) × In other pois × In entry (book other)) → In entry (book poi) ⊎ In entry (together pois) → (other : List ℕ) × In other (poi ∷ pois) × In entry (book other)
      by more (inl first) = (poi, inl refl, first)
      by more (inr second) = let found = more second in (found.0, inr found.1, found.2)

  -- an entry of a terminal is one of them all
  to-all : (pois : List (List ℕ)) (poi : List ℕ) (entry : BookedEntry) → In poi pois → In entry (book poi) → In entry (together pois)
  to-all [] poi entry within of = absurd within
  to-all (first ∷ pois) poi entry (inl same) of = in-first entry (book first) (together pois) (subst (λ (p : List ℕ). In entry (book p)) same of)
  to-all (first ∷ pois) poi entry (inr within) of = in-second entry (book first) (together pois) (to-all pois poi entry within of)

  -- each holds of all
  of-all : (test : BookedEntry → Bool) → ((poi : List ℕ) (entry : BookedEntry) → In entry (book poi) → test entry ≡ true) → (pois : List (List ℕ)) → list_all test (together pois) ≡ true
  of-all test each pois = all-from test (together pois) (λ entry within. let found = from-one pois entry within in each found.0 entry found.2)

  module _ (own : (poi : List ℕ) (entry : BookedEntry) → In entry (book poi) → entry.numbering.poi ≡ poi) where
    -- entries of terminals whose POIIDs differ are in order as they are
    order-apart : (pois : List (List ℕ)) (poi : List ℕ) → list_any (bytes_eq poi) pois ≡ false → (entry next : BookedEntry) → In entry (book poi) → In next (together pois) → comes_before entry next ≡ true
    order-apart pois poi apart entry next first second =
        let found = from-one pois next second in
        let differ : bytes_eq entry.numbering.poi next.numbering.poi ≡ false =
        ap (λ (p : List ℕ). bytes_eq p next.numbering.poi) (own poi entry first) ∙ ap (λ (p : List ℕ). bytes_eq poi p) (own found.0 next found.2) ∙ none-in (bytes_eq poi) pois apart found.0 found.1 in
        or_left (not (bytes_eq entry.numbering.poi next.numbering.poi)) (nat_le entry.place next.place && ((not (is_numbering entry.numbering next.numbering) || nat_lt entry.number next.number) && not (have_one_cause entry next))) (not_from_false (bytes_eq entry.numbering.poi next.numbering.poi) differ)

    ordered-all : ((poi : List ℕ) → is_ordered (book poi) ≡ true) → (pois : List (List ℕ)) → AreApart pois → is_ordered (together pois) ≡ true
    ordered-all each [] apart = refl
    ordered-all each (poi ∷ pois) apart = ordered-both (book poi) (together pois) (each poi) (ordered-all each pois apart.1) (order-apart pois poi apart.0)

    -- none of another terminal was in the terminal's book at a hearing
    none-booked : (end : HeardEnd) (poi : List ℕ) → bytes_eq end.numbering.poi poi ≡ false → filter (was_booked end) (book poi) ≡ []
    none-booked end poi differ = none (book poi) (λ entry within. ap (λ (p : List ℕ). bytes_eq end.numbering.poi p && nat_le entry.place end.place) (own poi entry within) ∙ ap (λ (b : Bool). b && nat_le entry.place end.place) differ)
      where
        none : (list : List BookedEntry) → ((entry : BookedEntry) → In entry list → was_booked end entry ≡ false) → filter (was_booked end) list ≡ []
        none [] each = refl
        none (entry ∷ list) each =
            ap (λ (b : Bool). if b then entry ∷ filter (was_booked end) list else filter (was_booked end) list) (each entry (inl refl)) ∙ none list (λ other within. each other (inr within))

    none-of-these : (end : HeardEnd) (pois : List (List ℕ)) → list_any (bytes_eq end.numbering.poi) pois ≡ false → filter (was_booked end) (together pois) ≡ []
    none-of-these end [] apart = refl
    none-of-these end (poi ∷ pois) apart =
        let parts = or_parts (bytes_eq end.numbering.poi poi) (list_any (bytes_eq end.numbering.poi) pois) apart in
        filter-append (was_booked end) (book poi) (together pois)
        ∙ ap (λ (list : List BookedEntry). list ++ filter (was_booked end) (together pois)) (none-booked end poi parts.0)
        ∙ none-of-these end pois parts.1

    -- of all entries, those in the terminal's book at a hearing are the terminal's
    only-own : (end : HeardEnd) (pois : List (List ℕ)) → AreApart pois → list_any (bytes_eq end.numbering.poi) pois ≡ true → filter (was_booked end) (together pois) ≡ filter (was_booked end) (book end.numbering.poi)
    only-own end [] apart among = cc
    only-own end (poi ∷ pois) apart among =
        filter-append (was_booked end) (book poi) (together pois) ∙ by (only-own end pois apart.1) (bytes_eq end.numbering.poi poi) refl among
      where
        by : (list_any (bytes_eq end.numbering.poi) pois ≡ true → filter (was_booked end) (together pois) ≡ filter (was_booked end) (book end.numbering.poi)) → (b : Bool) → bytes_eq end.numbering.poi poi ≡ b → (b || list_any (bytes_eq end.numbering.poi) pois) ≡ true
            → filter (was_booked end) (book poi) ++ filter (was_booked end) (together pois) ≡ filter (was_booked end) (book end.numbering.poi)
        by more true e f =
            let same : end.numbering.poi ≡ poi = bytes-are end.numbering.poi poi e in
            ap (λ (list : List BookedEntry). filter (was_booked end) (book poi) ++ list) (none-of-these end pois (ap (λ (p : List ℕ). list_any (bytes_eq p) pois) same ∙ apart.0))
            ∙ append-nil (filter (was_booked end) (book poi)) ∙ ap (λ (p : List ℕ). filter (was_booked end) (book p)) (sym same)
        by more false e f = ap (λ (list : List BookedEntry). list ++ filter (was_booked end) (together pois)) (none-booked end poi e) ∙ more f

-- ---- the books of all terminals

-- where each terminal's book is honest, that of them all is
pub honest-together : (book : List ℕ → List BookedEntry) (pois : List (List ℕ)) (past : Past) → AreApart pois → HaveAllLinked pois past → AreFalling past.place past.commands → AreEnds past → ((poi : List ℕ) → IsHonestFor past poi (book poi))
    → Honest past (flat_map book pois)
honest-together book pois past apart linked falling ends honest = record {
  caused = of-all book (λ (entry : BookedEntry). is_caused past entry entry.cause) (λ poi. (honest poi).caused) pois;
  linked = of-all book (is_of_its_link past) (λ poi. (honest poi).linked) pois;
  ordered = ordered-all book own (λ poi. (honest poi).ordered) pois apart;
  numbered = of-all book is_numbered (λ poi. (honest poi).numbered) pois;
  true_ends = all-from (λ (end : HeardEnd). is_true (flat_map book pois) end end.ending) past.ends true-end;
}
  where
    own : (poi : List ℕ) (entry : BookedEntry) → In entry (book poi) → entry.numbering.poi ≡ poi
    own poi entry within = ((honest poi).commanded entry within).poi_is

    -- an entry that a command to a POIID caused is of its book
    of-command : (poi : List ℕ) (place : ℕ) (command : SentCommand) → In command past.commands → command.place ≡ place → command.numbering.poi ≡ poi → (entry : BookedEntry) → In entry (flat_map book pois)
        → is_caused_by place entry ≡ true → In entry (book poi)
    of-command poi place command sent at to entry within e =
        let found = from-one book pois entry within in
        let has = (honest found.0).commanded entry found.2 in
        let same : command ≡ has.command = sent-same past.place past.commands falling command has.command sent has.sent (at ∙ sym (caused-place place has.command.place entry has.cause_is e)) in
        let poi_is : found.0 ≡ poi = sym has.command_poi ∙ ap (λ (c : SentCommand). c.numbering.poi) (sym same) ∙ to in
        subst (λ (p : List ℕ). In entry (book p)) poi_is found.2

    own-ending : (end : HeardEnd) (ending : Ending) → IsOfCommand past.commands end.numbering.poi ending → IsOwn (book end.numbering.poi) (flat_map book pois) ending
    own-ending end (Approved place figures) of = of-command end.numbering.poi place of.0 of.1 of.2 of.3
    own-ending end (Declined place trace) of = of-command end.numbering.poi place of.0 of.1 of.2 of.3
    own-ending end (Reported trace figures) of = tt

    true-end : (end : HeardEnd) → In end past.ends → is_true (flat_map book pois) end end.ending ≡ true
    true-end end within =
        let known = ends end within in
        let made = known.1 in
        let at = in-at past.links made.0 made.1 in
        let among : list_any (bytes_eq end.numbering.poi) pois ≡ true = any-of end.numbering.poi made.0.numbering.poi made.2 (linked at.0 made.0 at.1) in
        let there = any-in (bytes_eq end.numbering.poi) pois among in
        let inside : In end.numbering.poi pois = subst (λ (p : List ℕ). In p pois) (sym (bytes-are end.numbering.poi there.0 there.2)) there.1 in
        true-within (book end.numbering.poi) (flat_map book pois) end end.ending (λ entry of. to-all book pois end.numbering.poi entry inside of) (own-ending end end.ending known.0) (only-own book own end pois apart among)
        ((honest end.numbering.poi).true_ends end within refl)
      where
        any-of : (poi other : List ℕ) → other ≡ poi → list_any (bytes_eq other) pois ≡ true → list_any (bytes_eq poi) pois ≡ true
        any-of poi other same e = ap (λ (p : List ℕ). list_any (bytes_eq p) pois) (sym same) ∙ e

pub honest-whole : (settings : List ℕ → Setting) (pois : List (List ℕ)) (past : Past) (exchanges : List ℕ → List PlacedExchange) → AreApart pois → HaveAllLinked pois past
    → AreFalling past.place past.commands → AreEnds past → ((poi : List ℕ) → IsHonestFor past poi (book_along (settings poi) poi (exchanges poi)))
    → Honest past (flat_map (λ poi. book_along (settings poi) poi (exchanges poi)) pois)
honest-whole settings pois past exchanges apart linked falling ends honest = honest-together (λ poi. book_along (settings poi) poi (exchanges poi)) pois past apart linked falling ends honest

-- ---- what is heard was sent

-- what was heard before is sent where all is
hears-first : (setting : Setting) (newer exchanges : List Exchange) → HearsSent setting (newer ++ exchanges) → HearsSent setting exchanges
hears-first setting [] exchanges hears = hears
hears-first setting (Links ∷ newer) exchanges hears = hears-first setting newer exchanges hears
hears-first setting (Sends bytes ∷ newer) exchanges hears = hears-first setting newer exchanges hears
hears-first setting (Hears bytes ∷ newer) exchanges hears = hears-first setting newer exchanges hears.1

-- so it is before a move
pub hears-before : (setting : Setting) (poi : List ℕ) (v : View) (place : ℕ) (exchanges : List PlacedExchange) (move : Move)
    → HearsSent setting (exchanges_in (exchanges_after poi v place exchanges move)) → HearsSent setting (exchanges_in exchanges)
hears-before setting poi v place exchanges Begin hears = hears
hears-before setting poi v place exchanges (Read as_read) hears = hears
hears-before setting poi v place exchanges (Make turn) hears =
    let new : List PlacedExchange = map (λ (exchange : Exchange). let one : PlacedExchange = record { place = place; exchange = exchange } in one) (done_by v.scene poi turn) in
    hears-first setting (exchanges_in new) (exchanges_in exchanges) (subst (HearsSent setting) (map-append (λ (one : PlacedExchange). one.exchange) new exchanges) hears)

-- so it is before moves
pub hears-back : (setting : Setting) (poi : List ℕ) (v : View) (place : ℕ) (exchanges : List PlacedExchange) (moves : List Move)
    → HearsSent setting (exchanges_in (exchanges_from poi v place exchanges moves)) → HearsSent setting (exchanges_in exchanges)
hears-back setting poi v place exchanges [] hears = hears
hears-back setting poi v place exchanges (move ∷ moves) hears =
    hears-before setting poi v place exchanges move (hears-back setting poi (after v move) (place_then place move) (exchanges_after poi v place exchanges move) moves hears)

-- ---- places

-- the place of a past is how many turns there were
pub place-is : (v : View) (past : Past) (move : Move) → (past_after v past move).place ≡ place_then past.place move
place-is v past Begin = refl
place-is v past (Read as_read) = refl
place-is v past (Make turn) = refl

-- what is done along moves, by the past after the first
pub exchanges-are : (poi : List ℕ) (v : View) (past : Past) (exchanges : List PlacedExchange) (move : Move) (moves : List Move)
    → exchanges_from poi v past.place exchanges (move ∷ moves) ≡ exchanges_from poi (after v move) (past_after v past move).place (exchanges_after poi v past.place exchanges move) moves
exchanges-are poi v past exchanges move moves =
    ap (λ (place : ℕ). exchanges_from poi (after v move) place (exchanges_after poi v past.place exchanges move) moves) (sym (place-is v past move))
