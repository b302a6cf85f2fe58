-- A played terminal is linked, or its connection is cut or could not be made: what holds along a course holds on.
use Rattle.std.proofs.Common.{◌≡◌, ◌≢◌, ◌≤◌, ◌<◌, ◌∙◌, ℕ, ◌+◌, ◌^◌, eqb-true, Bool, true, false, List, [], ◌∷◌, ◌++◌, length, refl, sym, ap, subst, arith, inl, inr, append-nil}
use Rattle.std.proofs.lemmas.Bool.{eq-eqb, false_from_ne_true, leb-true}
use Rattle.std.specs.Prelude.{◌⊎◌, ◌&&◌, ◌||◌, ◌==◌, nat_le, not, pos, bytes_eq, filter, slice_get, Option, Some, None}
use Rattle.std.specs.List.{list_any}
use Rattle.gw_base.specs.Currency.{currency_number}
use Rattle.gw_base.specs.Setup.{IsPt}
use Rattle.gw_base.specs.declared.currency.Currency.{Currency}
use Rattle.gw_base.specs.declared.currency.Currency.TheVariants.{Eur, Chf, Gbp, Usd, Dkk, Sek, Nok, Pln, Czk}
use Rattle.gw_site.specs.Outside.{Connection, is_connected, heard_on, new_connection, without}
use Rattle.gw_site.specs.declared.turn.Turn.{Turn}
use Rattle.gw_site.specs.declared.turn.Turn.TheVariants.{Linked, LinkFailed, CutPt}
use Rattle.zvt_talk.specs.declared.dialogue_kind.DialogueKind.TheVariants.{Registration}
use Rattle.pt_core.specs.Exchange.{Links, heard_on_link}
use Rattle.pt_core.specs.History.{Setting}
use Rattle.gw_owes.specs.Calls.{Ask, OwedCall, SendPt, LinkPt, CutPt as OwedCutPt}
use Rattle.gw_owes.specs.Core.{Core}
use Rattle.gw_owes.specs.Deadlines.{is_due_by}
use Rattle.gw_owes.specs.Items.{RoundItem}
use Rattle.gw_owes.specs.Links.{is_linked}
use Rattle.gw_owes.specs.Row.{Row}
use Rattle.gw_owes.specs.Terminals.{of_terminal, with_terminal, after_command, registration, registers, reply_calls_to, reply_to_lost, unlinked_terminal, unlinks}
use Rattle.gw_owes.specs.declared.terminal.Standing.TheVariants.{Unlinked, Registering}
use Rattle.gw_owes.specs.declared.terminal.Terminal.{Terminal}
use Rattle.gw_owes.proofs.SetLemmas.{others-stay, new-is-there, same-some}
use Rattle.gw_rules.specs.Lawful.{first_call}
use Rattle.gw_rules.specs.Scene.{Scene, known_in, link_made_at, link_lost_at}
use Rattle.gw_rules.specs.TranscriptLaws.{cuts_terminal}
use Rattle.gw_rules.specs.View.{View, called, later, by_row}
use Rattle.gw_rules.proofs.LinkedLemmas.{by-number, call-settled, call-setup, connected-removed, connected-other, connected-old}
use Rattle.gw_rules.proofs.LinkStateLemmas.{Absent, On, Off, state_in, state_of, EachFits}
use Rattle.gw_rules.proofs.RecordOrderLemmas.{Ordered, configured}
use Rattle.gw_rules.proofs.SetupLemmas.{HasSetup}
use Rattle.gw_rules.proofs.StageLemmas.{no-true}
use Rattle.gw_rules.proofs.TranscriptLogLemmas.{made-at, lost-at, not-number}
use Rattle.gw_books.specs.Past.{MadeLink, Past, numbering_of_number, poi_of_number}
use Rattle.gw_books.proofs.Holding.{is_handle}
use Rattle.gw_books.proofs.LastCallLemmas.{IsLast, is-last, last-cuts, past_then}
use Rattle.gw_books.proofs.ListLemmas.{In, bytes-itself}
use Rattle.gw_played.specs.Played.{PlacedExchange, exchanges_in, book_along}
use Rattle.gw_played.proofs.HonestGrowLemmas.{honest-place, honest-link}
use Rattle.gw_played.proofs.PeerSendLemmas.{new-link-quiet}
use Rattle.gw_played.proofs.Playing.{pending, IsQuiet, IsPeerIn, ask_owed, link_owed, IsToBeAsked, IsPeer, IsHonestFor, WasLinked, ChargeNone, Plays, PeerLaws, PlaysTurn}
use Rattle.gw_played.proofs.SentPtPlaysLemmas.{AreSpare, all-there, apart-pois, by-poi, done-other, done-own, done-places, done_at, falling-later, poi-is, pt-at, reply-spare}

-- ---- connections

-- what was heard on the others stays where one is gone, or is new
heard-other : (connections : List Connection) (other number : ℕ) → number ≢ other → heard_on (without connections other) number ≡ heard_on connections number
heard-other [] other number differs = refl
heard-other (connection ∷ connections) other number differs = by_tests (heard-other connections other number differs) (connection.number == other) (connection.number == number) refl refl
  where
    by_tests : heard_on (without connections other) number ≡ heard_on connections number → (one two : Bool) → (connection.number == other) ≡ one → (connection.number == number) ≡ two
        → heard_on (without (connection ∷ connections) other) number ≡ heard_on (connection ∷ connections) number
    by_tests h true true e f = absurd (differs (sym (eqb-true connection.number number f) ∙ eqb-true connection.number other e))
    by_tests h true false e f = rw (e, f) h
    by_tests h false true e f = rw (e, f) refl
    by_tests h false false e f = rw (e, f) h

heard-old : (connections : List Connection) (new number : ℕ) → number ≢ new → heard_on (connections ++ new_connection new ∷ []) number ≡ heard_on connections number
heard-old [] new number differs = rw (not-number new number (λ e. differs (sym e))) refl
heard-old (connection ∷ connections) new number differs = by_test (connection.number == number) refl (heard-old connections new number differs)
  where
    by_test : (test : Bool) → (connection.number == number) ≡ test → heard_on (connections ++ new_connection new ∷ []) number ≡ heard_on connections number
        → heard_on (connection ∷ (connections ++ new_connection new ∷ [])) number ≡ heard_on (connection ∷ connections) number
    by_test true e h = rw e refl
    by_test false e h = rw e h

-- nothing was heard on a new one
heard-new : (connections : List Connection) (number : ℕ) → heard_on (without connections number ++ new_connection number ∷ []) number ≡ []
heard-new [] number = rw (eq-eqb number number refl) refl
heard-new (connection ∷ connections) number = by_test (connection.number == number) refl (heard-new connections number)
  where
    by_test : (test : Bool) → (connection.number == number) ≡ test → heard_on (without connections number ++ new_connection number ∷ []) number ≡ [] → heard_on (without (connection ∷ connections) number ++ new_connection number ∷ []) number ≡ []
    by_test true e h = rw e h
    by_test false e h = rw (e, e) h

-- ---- a terminal without its link

-- what changes of the connections leaves each that is still there, with what was heard on it
abbrev StillThere : List Connection → List Connection → Type 0
StillThere old new = (number : ℕ) → is_connected new number ≡ true → (is_connected old number ≡ true) × (heard_on new number ≡ heard_on old number)

-- five seconds from now is later
due-later : (moment : ℕ) → is_due_by moment (Some (moment + 5)) ≡ false
due-later moment = false_from_ne_true (nat_le (moment + 5) moment) (λ e. let small : moment + 5 ≤ moment = leb-true (moment + 5) moment e in absurd (omega (arith, small)))

module _ (settings : List ℕ → Setting) (v : View) (past : Past) (exchanges : List ℕ → List PlacedExchange) (pt : ℕ) (call : OwedCall) (p : Plays settings v past exchanges) (last : IsLast v call) (old : Terminal) (found_old : slice_get v.scene.core.terminals pt ≡ Some old)
    (scene : Scene) (core_is : scene.core ≡ v.scene.core) (moment_is : scene.outside.moment ≡ v.scene.outside.moment) (still : StillThere v.scene.outside.links scene.outside.links)
    (uncut : (number : ℕ) → number ≢ pt → cuts_terminal number call ≡ false) (asks_none : (number : ℕ) → number ≢ pt → ask_owed number (call ∷ []) ≡ false) (lasting : List MadeLink) where
  abbrev gone : Terminal
  gone = unlinked_terminal old v.scene.outside.moment

  abbrev next_past : Past
  next_past = past_then past past.commands past.links lasting past.replies past.deeds

  -- that of the number is gone, and the others are as they were
  left-there : (number : ℕ) (terminal : Terminal) → slice_get (with_terminal v.scene.core pt gone).terminals number ≡ Some terminal → ((number ≡ pt) × (terminal ≡ gone)) ⊎ ((number ≢ pt) × (slice_get v.scene.core.terminals number ≡ Some terminal))
  left-there number terminal found = by-number number pt
      (λ same. inl (sym same, same-some terminal gone (sym found ∙ ap (slice_get (with_terminal v.scene.core pt gone).terminals) (sym same) ∙ new-is-there v.scene.core.terminals pt old gone found_old)))
      (λ differs. inr (differs, sym (others-stay v.scene.core.terminals pt number gone differs) ∙ found))

  lost-plays : (row : Row) (more : List OwedCall) → row.core ≡ with_terminal v.scene.core pt gone → row.items ≡ [] → AreSpare (row.calls ++ more) → Plays settings (by_row v scene row more) next_past exchanges
  lost-plays row more core items spare = record {
    peers = λ clear number terminal found linked no_cut. subst (λ (l : List RoundItem). IsPeer (ask_owed number (row.calls ++ more)) (settings terminal.pt.poi) (exchanges terminal.pt.poi) number l past.commands (row.calls ++ more) terminal) (sym same_items)
        (subst (λ (b : Bool). IsPeer b (settings terminal.pt.poi) (exchanges terminal.pt.poi) number v.items past.commands (row.calls ++ more) terminal) (sym (spare.asks number)) (peer number terminal (left-there number terminal (now number terminal found)) linked));
    unlinked = λ number terminal due found is. subst (λ (l : List RoundItem). (terminal.talk ≡ None) × ((pending number l ≡ []) ⊎ (is_due_by scene.outside.moment due ≡ false))) (sym same_items) (not_linked number terminal due (left-there number terminal (now number terminal found)) is);
    linking = λ number owed. no-true (sym (spare.links number) ∙ owed);
    heard = λ number terminal found connected. heard number terminal (left-there number terminal (now number terminal found)) connected;
    calm = λ handles. p.calm (sym (ap (list_any is_handle) same_items) ∙ handles);
    uncharged = λ handles number. spare.charges_none number;
    served = λ handles. subst ChargeNone (sym same_items) (p.served (sym (ap (list_any is_handle) same_items) ∙ handles));
    heard_before = let before = p.heard_before in omega (arith, before);
    falling = falling-later past.place past.commands p.falling;
    linked_before = λ link within. let before = p.linked_before link within in omega (arith, before);
    ends = p.ends;
    made = λ number terminal found linked. made number terminal (left-there number terminal (now number terminal found)) linked;
    places = λ poi one within. let before = p.places poi one within in omega (arith, before);
    honest = λ poi. honest-place past next_past poi (book_along (settings poi) poi (exchanges poi)) p.falling (omega arith) refl refl refl (p.honest poi);
  }
    where
      same_items : row.items ++ v.items ≡ v.items
      same_items = ap (λ (l : List RoundItem). l ++ v.items) items

      now : (number : ℕ) (terminal : Terminal) → slice_get row.core.terminals number ≡ Some terminal → slice_get (with_terminal v.scene.core pt gone).terminals number ≡ Some terminal
      now number terminal found = ap (λ (c : Core). slice_get c.terminals number) (sym core) ∙ found

      not_gone : {A : Type 0} (terminal : Terminal) → terminal ≡ gone → is_linked terminal.standing ≡ true → A
      not_gone terminal is linked = no-true (sym (ap (λ (u : Terminal). is_linked u.standing) is) ∙ linked)

      peer : (number : ℕ) (terminal : Terminal) → ((number ≡ pt) × (terminal ≡ gone)) ⊎ ((number ≢ pt) × (slice_get v.scene.core.terminals number ≡ Some terminal)) → is_linked terminal.standing ≡ true
          → IsPeerIn (settings terminal.pt.poi) terminal.pt.poi (exchanges terminal.pt.poi) number v.items past.commands terminal.talk terminal.standing
      peer number terminal (inl own) linked = not_gone terminal own.1 linked
      peer number terminal (inr other) linked =
          let none : ask_owed number v.calls ≡ false = ap (ask_owed number) last.calls_are ∙ asks_none number other.0 in
          subst (λ (b : Bool). IsPeer b (settings terminal.pt.poi) (exchanges terminal.pt.poi) number v.items past.commands v.calls terminal) none
          (p.peers last.clear number terminal other.1 linked (last-cuts v call number last (uncut number other.0)))

      not_linked : (number : ℕ) (terminal : Terminal) (due : Option ℕ) → ((number ≡ pt) × (terminal ≡ gone)) ⊎ ((number ≢ pt) × (slice_get v.scene.core.terminals number ≡ Some terminal)) → terminal.standing ≡ Unlinked due
          → (terminal.talk ≡ None) × ((pending number v.items ≡ []) ⊎ (is_due_by scene.outside.moment due ≡ false))
      not_linked number terminal due (inl own) is =
          let due_is : Some (v.scene.outside.moment + 5) ≡ due = let e : Unlinked (Some (v.scene.outside.moment + 5)) ≡ Unlinked due = sym (ap (λ (u : Terminal). u.standing) own.1) ∙ is in cc in
          (ap (λ (u : Terminal). u.talk) own.1, inr (ap (λ (d : Option ℕ). is_due_by scene.outside.moment d) (sym due_is) ∙ ap (λ (m : ℕ). is_due_by m (Some (v.scene.outside.moment + 5))) moment_is ∙ due-later v.scene.outside.moment))
      not_linked number terminal due (inr other) is =
          subst (λ (m : ℕ). (terminal.talk ≡ None) × ((pending number v.items ≡ []) ⊎ (is_due_by m due ≡ false))) (sym moment_is) (p.unlinked number terminal due other.1 is)

      heard : (number : ℕ) (terminal : Terminal) → ((number ≡ pt) × (terminal ≡ gone)) ⊎ ((number ≢ pt) × (slice_get v.scene.core.terminals number ≡ Some terminal)) → is_connected scene.outside.links number ≡ true
          → heard_on_link (exchanges_in (exchanges terminal.pt.poi)) ≡ heard_on scene.outside.links number
      heard number terminal (inl own) connected =
          let there = still number connected in
          subst (λ (poi : List ℕ). heard_on_link (exchanges_in (exchanges poi)) ≡ heard_on scene.outside.links number) (sym (ap (λ (u : Terminal). u.pt.poi) own.1))
          (p.heard number old (ap (slice_get v.scene.core.terminals) own.0 ∙ found_old) there.0 ∙ sym there.1)
      heard number terminal (inr other) connected = let there = still number connected in p.heard number terminal other.1 there.0 ∙ sym there.1

      made : (number : ℕ) (terminal : Terminal) → ((number ≡ pt) × (terminal ≡ gone)) ⊎ ((number ≢ pt) × (slice_get v.scene.core.terminals number ≡ Some terminal)) → is_linked terminal.standing ≡ true → WasLinked past.links terminal.pt.poi
      made number terminal (inl own) linked = not_gone terminal own.1 linked
      made number terminal (inr other) linked = p.made number terminal other.1 linked

-- the row of a link that is lost
record IsLostRow (v : View) (pt : ℕ) (old : Terminal) (row : Row) : Type 0 where
  core : row.core ≡ with_terminal v.scene.core pt (unlinked_terminal old v.scene.outside.moment)
  items : row.items ≡ []
  calls : row.calls ≡ reply_calls_to old.asker (reply_to_lost old.standing)

lost-row : (v : View) (k : HasSetup v.scene) (pt : ℕ) (old : Terminal) → slice_get v.scene.core.terminals pt ≡ Some old → IsLostRow v pt old (link_lost_at v.scene pt)
lost-row v k pt old found =
    let row_is : link_lost_at v.scene pt ≡ unlinks (known_in v.scene k.setup) pt old = lost-at v.scene pt k.setup k.setup_is ∙ ap (of_terminal (known_in v.scene k.setup) (unlinks (known_in v.scene k.setup) pt)) found in
    record { core = ap (λ (r : Row). r.core) row_is; items = ap (λ (r : Row). r.items) row_is; calls = ap (λ (r : Row). r.calls) row_is }

spare-calls : (v : View) (pt : ℕ) (old : Terminal) (row : Row) (more : List OwedCall) → IsLostRow v pt old row → more ≡ [] → AreSpare (row.calls ++ more)
spare-calls v pt old row more r none =
    subst AreSpare (sym (ap (λ (l : List OwedCall). row.calls ++ l) none ∙ append-nil row.calls ∙ r.calls)) (reply-spare old.asker (reply_to_lost old.standing))

-- a terminal whose link may be made or cut is there
number-there : (v : View) (pt : ℕ) → (state_in v.scene.core pt ≡ Absent → ⊥) → (terminal : Terminal) × (slice_get v.scene.core.terminals pt ≡ Some terminal)
number-there v pt there = by_found (slice_get v.scene.core.terminals pt) refl
  where
    by_found : (found : Option Terminal) → slice_get v.scene.core.terminals pt ≡ found → (terminal : Terminal) × (slice_get v.scene.core.terminals pt ≡ Some terminal)
    by_found None is = absurd (there (ap state_of is))
    by_found (Some terminal) is = (terminal, is)

to-link-there : (log : List Turn) (v : View) (pt : ℕ) → Ordered log v → v.calls ≡ LinkPt pt ∷ [] → (terminal : Terminal) × (slice_get v.scene.core.terminals pt ≡ Some terminal)
to-link-there log v pt o calls =
    let s = call-settled v (LinkPt pt) o.agrees (ap first_call calls) in
    let off = (subst (λ l. EachFits v.scene.outside.moment v.scene.core l) calls s.fits).0 in
    number-there v pt (λ absent. let n : Absent ≡ Off off.0 = sym absent ∙ off.1 in absurd cc)

to-cut-there : (log : List Turn) (v : View) (pt : ℕ) → Ordered log v → v.calls ≡ OwedCutPt pt ∷ [] → (terminal : Terminal) × (slice_get v.scene.core.terminals pt ≡ Some terminal)
to-cut-there log v pt o calls =
    let s = call-settled v (OwedCutPt pt) o.agrees (ap first_call calls) in
    let on = (subst (λ l. EachFits v.scene.outside.moment v.scene.core l) calls s.fits).0 in
    number-there v pt (λ absent. let n : Absent ≡ On = sym absent ∙ on in absurd cc)

-- the link could not be made
pub link-failed-plays : (laws : PeerLaws) (pt : ℕ) → PlaysTurn (LinkFailed pt)
link-failed-plays laws pt settings log v past exchanges o ok hears p =
    let last : IsLast v (LinkPt pt) = is-last log v (LinkPt pt) o ok refl (λ more. refl) in
    let there = to-link-there log v pt o last.calls_are in
    let k = call-setup v (LinkPt pt) o.agrees.run ok in
    let r : IsLostRow v pt there.0 (link_lost_at v.scene pt) = lost-row v k pt there.0 there.1 in
    lost-plays settings v past exchanges pt (LinkPt pt) p last there.0 there.1 (called v.scene (LinkFailed pt)) refl refl (λ number connected. (connected, refl)) (λ number differs. refl) (λ number differs. refl) past.lasting
    (link_lost_at v.scene pt) [] r.core r.items (spare-calls v pt there.0 (link_lost_at v.scene pt) [] r refl)

-- the connection is cut
pub cut-pt-plays : (laws : PeerLaws) (pt : ℕ) → PlaysTurn (CutPt pt)
cut-pt-plays laws pt settings log v past exchanges o ok hears p =
    let last : IsLast v (OwedCutPt pt) = is-last log v (OwedCutPt pt) o ok refl (λ more. refl) in
    let there = to-cut-there log v pt o last.calls_are in
    let k = call-setup v (OwedCutPt pt) o.agrees.run ok in
    let r : IsLostRow v pt there.0 (link_lost_at v.scene pt) = lost-row v k pt there.0 there.1 in
    lost-plays settings v past exchanges pt (OwedCutPt pt) p last there.0 there.1 (called v.scene (CutPt pt)) refl refl still (λ number differs. not-number pt number (λ same. differs (sym same))) (λ number differs. refl)
    (filter (λ (link : MadeLink). not (bytes_eq link.numbering.poi (poi_of_number v.scene pt))) past.lasting)
    (link_lost_at v.scene pt) (later v.calls) r.core r.items (spare-calls v pt there.0 (link_lost_at v.scene pt) (later v.calls) r last.none_later)
  where
    still : StillThere v.scene.outside.links (without v.scene.outside.links pt)
    still number connected = by-number number pt
        (λ same. no-true (sym (connected-removed v.scene.outside.links pt) ∙ ap (is_connected (without v.scene.outside.links pt)) same ∙ connected))
        (λ differs. (sym (connected-other v.scene.outside.links pt number differs) ∙ connected, heard-other v.scene.outside.links pt number differs))

-- ---- a terminal is linked

currency-small : (currency : Currency) → currency_number currency < 100 ^ 2
currency-small Eur = omega arith
currency-small Chf = omega arith
currency-small Gbp = omega arith
currency-small Usd = omega arith
currency-small Dkk = omega arith
currency-small Sek = omega arith
currency-small Nok = omega arith
currency-small Pln = omega arith
currency-small Czk = omega arith

-- the settings of a terminal lie within the limits
is-pt : (log : List Turn) (v : View) (k : HasSetup v.scene) (pt : ℕ) (terminal : Terminal) → Ordered log v → slice_get v.scene.core.terminals pt ≡ Some terminal → IsPt terminal.pt
is-pt log v k pt terminal o found = all-there IsPt k.setup.terminals pt terminal.pt k.within.each (pt-at v k.setup pt terminal (configured v k.setup o.agrees k.setup_is) found)

was-linked-more : (new : MadeLink) (links : List MadeLink) (poi : List ℕ) → WasLinked links poi → WasLinked (new ∷ links) poi
was-linked-more new links poi was = (was.0, inr was.1, was.2)

-- the terminal of the number is new, and the others are as they were
changed-there : (core : Core) (pt number : ℕ) (old new terminal : Terminal) → slice_get core.terminals pt ≡ Some old → slice_get (with_terminal core pt new).terminals number ≡ Some terminal
    → ((pt ≡ number) × (new ≡ terminal)) ⊎ ((number ≢ pt) × (slice_get core.terminals number ≡ Some terminal))
changed-there core pt number old new terminal found_old found = by-number number pt
    (λ same. inl (same, same-some new terminal (sym (new-is-there core.terminals pt old new found_old) ∙ ap (slice_get (with_terminal core pt new).terminals) same ∙ found)))
    (λ differs. inr (differs, sym (others-stay core.terminals pt number new differs) ∙ found))

module _ (laws : PeerLaws) (settings : List ℕ → Setting) (log : List Turn) (v : View) (past : Past) (exchanges : List ℕ → List PlacedExchange) (pt : ℕ) (o : Ordered log v) (p : Plays settings v past exchanges) (last : IsLast v (LinkPt pt))
    (old : Terminal) (found_old : slice_get v.scene.core.terminals pt ≡ Some old) (k : HasSetup v.scene) where
  abbrev registering : Terminal
  registering = after_command (record old { awaited = 0 }) (registration old.pt) Registering v.scene.outside.moment

  abbrev made_link : MadeLink
  made_link = record { place = past.place; numbering = numbering_of_number v.scene pt; records = length v.scene.kept }

  abbrev linked_past : Past
  linked_past = past_then past past.commands (made_link ∷ past.links) (made_link ∷ past.lasting) past.replies past.deeds

  abbrev Z : List ℕ → List PlacedExchange
  Z = done_at v.scene pt past.place Links exchanges

  abbrev linked_calls : List OwedCall
  linked_calls = SendPt pt (Ask (registration old.pt)) ∷ []

  abbrev new_links : List Connection
  new_links = without v.scene.outside.links pt ++ new_connection pt ∷ []

  linked-own : poi_of_number v.scene pt ≡ old.pt.poi
  linked-own = poi-is v.scene pt old found_old

  own-linked : Z old.pt.poi ≡ record { place = past.place; exchange = Links } ∷ exchanges old.pt.poi
  own-linked = done-own v.scene pt past.place Links exchanges old.pt.poi (ap (λ (poi : List ℕ). bytes_eq poi old.pt.poi) linked-own ∙ bytes-itself old.pt.poi)

  apart-linked : (number : ℕ) (terminal : Terminal) → number ≢ pt → slice_get v.scene.core.terminals number ≡ Some terminal → Z terminal.pt.poi ≡ exchanges terminal.pt.poi
  apart-linked number terminal differs found =
      done-other v.scene pt past.place Links exchanges terminal.pt.poi
      (ap (λ (poi : List ℕ). bytes_eq poi terminal.pt.poi) linked-own ∙ apart-pois log v k pt number old terminal o (λ same. differs (sym same)) found_old found)

  to-register : IsToBeAsked (settings old.pt.poi) (Z old.pt.poi) pt v.items linked_calls registering
  to-register =
      let limits : IsPt old.pt = is-pt log v k pt old o found_old in
      record {
        quiet = subst (λ (l : List PlacedExchange). IsQuiet (settings old.pt.poi) l pt v.items) (sym own-linked)
            (new-link-quiet laws.all (settings old.pt.poi) (exchanges old.pt.poi) pt v.items past.place (p.linking pt (ap (link_owed pt) last.calls_are ∙ ap (λ (b : Bool). b || false) (eq-eqb pt pt refl))));
        command = registration old.pt;
        owed = inl refl;
        digits = (limits.password.1, currency-small old.pt.currency);
        sizes = limits.password.0;
        of_standing = (old.pt.password, old.pt.config, currency_number old.pt.currency, refl);
        dialogue = record { dialogue_kind = Registration; none = old.pt.none; acknowledge_time = old.pt.answer; command_time = old.pt.command; sent = pos v.scene.outside.moment };
        begins = refl;
        talk_is = refl;
      }

  -- with the registration owed
  abbrev linked_view : Core → List OwedCall → List RoundItem → View
  linked_view core calls items = record { scene = record (called v.scene (Linked pt)) { core = core }; calls = calls; items = items }

  registers-plays : Plays settings (linked_view (with_terminal v.scene.core pt registering) linked_calls v.items) linked_past Z
  registers-plays = record {
    peers = λ clear number terminal found linked uncut. peer number terminal (changed-there v.scene.core pt number old registering terminal found_old found) linked;
    unlinked = λ number terminal due found is. not_linked number terminal due (changed-there v.scene.core pt number old registering terminal found_old found) is;
    linking = λ number owed. no-true owed;
    heard = λ number terminal found connected. heard number terminal (changed-there v.scene.core pt number old registering terminal found_old found) connected;
    calm = p.calm;
    uncharged = λ handles number. both-false (pt == number);
    served = p.served;
    heard_before = let before = p.heard_before in omega (arith, before);
    falling = falling-later past.place past.commands p.falling;
    linked_before = before;
    ends = λ end within. let e = p.ends end within in (e.0, was-linked-more made_link past.links end.numbering.poi e.1, e.2);
    made = λ number terminal found linked. made number terminal (changed-there v.scene.core pt number old registering terminal found_old found) linked;
    places = λ poi. done-places v.scene pt past.place Links exchanges poi (p.places poi);
    honest = λ poi. subst (IsHonestFor linked_past poi) (sym (same_book poi)) (honest-link past linked_past poi (book_along (settings poi) poi (exchanges poi)) made_link p.falling (omega arith) refl refl refl refl (p.honest poi));
  }
    where
      both-false : (b : Bool) → ((b && false) || false) ≡ false
      both-false true = refl
      both-false false = refl

      peer : (number : ℕ) (terminal : Terminal) → ((pt ≡ number) × (registering ≡ terminal)) ⊎ ((number ≢ pt) × (slice_get v.scene.core.terminals number ≡ Some terminal)) → is_linked terminal.standing ≡ true
          → IsPeer (ask_owed number linked_calls) (settings terminal.pt.poi) (Z terminal.pt.poi) number v.items past.commands linked_calls terminal
      peer number terminal (inl own) linked =
          subst (λ (u : Terminal). IsPeer (ask_owed number linked_calls) (settings u.pt.poi) (Z u.pt.poi) number v.items past.commands linked_calls u) own.1
          (subst (λ (n : ℕ). IsPeer (ask_owed n linked_calls) (settings old.pt.poi) (Z old.pt.poi) n v.items past.commands linked_calls registering) own.0
          (subst (λ (b : Bool). IsPeer b (settings old.pt.poi) (Z old.pt.poi) pt v.items past.commands linked_calls registering) (sym (ap (λ (b : Bool). (b && true) || false) (eq-eqb pt pt refl))) to-register))
      peer number terminal (inr other) linked =
          let none : ask_owed number v.calls ≡ false = ap (ask_owed number) last.calls_are in
          let before : IsPeerIn (settings terminal.pt.poi) terminal.pt.poi (exchanges terminal.pt.poi) number v.items past.commands terminal.talk terminal.standing =
          subst (λ (b : Bool). IsPeer b (settings terminal.pt.poi) (exchanges terminal.pt.poi) number v.items past.commands v.calls terminal) none
          (p.peers last.clear number terminal other.1 linked (last-cuts v (LinkPt pt) number last refl)) in
          subst (λ (b : Bool). IsPeer b (settings terminal.pt.poi) (Z terminal.pt.poi) number v.items past.commands linked_calls terminal) (sym (ap (λ (b : Bool). (b && true) || false) (not-number pt number (λ same. other.0 (sym same)))))
          (subst (λ (l : List PlacedExchange). IsPeerIn (settings terminal.pt.poi) terminal.pt.poi l number v.items past.commands terminal.talk terminal.standing) (sym (apart-linked number terminal other.0 other.1)) before)

      not_linked : (number : ℕ) (terminal : Terminal) (due : Option ℕ) → ((pt ≡ number) × (registering ≡ terminal)) ⊎ ((number ≢ pt) × (slice_get v.scene.core.terminals number ≡ Some terminal)) → terminal.standing ≡ Unlinked due
          → (terminal.talk ≡ None) × ((pending number v.items ≡ []) ⊎ (is_due_by v.scene.outside.moment due ≡ false))
      not_linked number terminal due (inl own) is = absurd (let n : Registering ≡ Unlinked due = ap (λ (u : Terminal). u.standing) own.1 ∙ is in cc)
      not_linked number terminal due (inr other) is = p.unlinked number terminal due other.1 is

      heard : (number : ℕ) (terminal : Terminal) → ((pt ≡ number) × (registering ≡ terminal)) ⊎ ((number ≢ pt) × (slice_get v.scene.core.terminals number ≡ Some terminal)) → is_connected new_links number ≡ true
          → heard_on_link (exchanges_in (Z terminal.pt.poi)) ≡ heard_on new_links number
      heard number terminal (inl own) connected =
          subst (λ (u : Terminal). heard_on_link (exchanges_in (Z u.pt.poi)) ≡ heard_on new_links number) own.1
          (ap (λ (l : List PlacedExchange). heard_on_link (exchanges_in l)) own-linked ∙ sym (heard-new v.scene.outside.links pt) ∙ ap (heard_on new_links) own.0)
      heard number terminal (inr other) connected =
          let rest : List Connection = without v.scene.outside.links pt in
          let was : is_connected v.scene.outside.links number ≡ true = sym (connected-old rest pt number other.0 ∙ connected-other v.scene.outside.links pt number other.0) ∙ connected in
          ap (λ (l : List PlacedExchange). heard_on_link (exchanges_in l)) (apart-linked number terminal other.0 other.1)
          ∙ p.heard number terminal other.1 was
          ∙ sym (heard-old rest pt number other.0 ∙ heard-other v.scene.outside.links pt number other.0)

      before : (link : MadeLink) → In link (made_link ∷ past.links) → link.place < past.place + 1
      before link (inl same) = let is : link.place ≡ past.place = ap (λ (l : MadeLink). l.place) same in omega (arith, is)
      before link (inr within) = let below = p.linked_before link within in omega (arith, below)

      made : (number : ℕ) (terminal : Terminal) → ((pt ≡ number) × (registering ≡ terminal)) ⊎ ((number ≢ pt) × (slice_get v.scene.core.terminals number ≡ Some terminal)) → is_linked terminal.standing ≡ true → WasLinked (made_link ∷ past.links) terminal.pt.poi
      made number terminal (inl own) linked = (made_link, inl refl, linked-own ∙ ap (λ (u : Terminal). u.pt.poi) own.1)
      made number terminal (inr other) linked = was-linked-more made_link past.links terminal.pt.poi (p.made number terminal other.1 linked)

      same_book : (poi : List ℕ) → book_along (settings poi) poi (Z poi) ≡ book_along (settings poi) poi (exchanges poi)
      same_book poi = by-poi v.scene pt poi
          (λ own. ap (book_along (settings poi) poi) (done-own v.scene pt past.place Links exchanges poi own) ∙ append-nil (book_along (settings poi) poi (exchanges poi)))
          (λ other. ap (book_along (settings poi) poi) (done-other v.scene pt past.place Links exchanges poi other))

  row-plays : (row : Row) (more : List OwedCall) → row.core ≡ with_terminal v.scene.core pt registering → row.items ≡ [] → row.calls ≡ linked_calls → more ≡ [] → Plays settings (by_row v (called v.scene (Linked pt)) row more) linked_past Z
  row-plays row more core items calls none =
      subst (λ (c : Core). Plays settings (linked_view c (row.calls ++ more) (row.items ++ v.items)) linked_past Z) (sym core)
      (subst (λ (l : List OwedCall). Plays settings (linked_view (with_terminal v.scene.core pt registering) l (row.items ++ v.items)) linked_past Z) (sym (ap (λ (l : List OwedCall). row.calls ++ l) none ∙ append-nil row.calls ∙ calls))
      (subst (λ (l : List RoundItem). Plays settings (linked_view (with_terminal v.scene.core pt registering) linked_calls (l ++ v.items)) linked_past Z) (sym items) registers-plays))

-- a terminal is linked
pub linked-plays : (laws : PeerLaws) (pt : ℕ) → PlaysTurn (Linked pt)
linked-plays laws pt settings log v past exchanges o ok hears p =
    let last : IsLast v (LinkPt pt) = is-last log v (LinkPt pt) o ok refl (λ more. refl) in
    let there = to-link-there log v pt o last.calls_are in
    let k = call-setup v (LinkPt pt) o.agrees.run ok in
    let row_is : link_made_at v.scene pt ≡ registers (known_in v.scene k.setup) pt there.0 =
    made-at v.scene pt k.setup k.setup_is ∙ ap (of_terminal (known_in v.scene k.setup) (registers (known_in v.scene k.setup) pt)) there.1 in
    row-plays laws settings log v past exchanges pt o p last there.0 there.1 k (link_made_at v.scene pt) (later v.calls) (ap (λ (r : Row). r.core) row_is) (ap (λ (r : Row). r.items) row_is) (ap (λ (r : Row). r.calls) row_is) last.none_later
