-- What a turn leaves of what holds of trace numbers: the order of items and links, the records that come, and the standings.
use Rattle.std.proofs.Common.{◌≡◌, ◌≤◌, ◌∙◌, ℕ, ◌+◌, Bool, true, false, List, [], ◌∷◌, ◌++◌, refl, sym, ap, subst, arith, inl, inr, append-nil, ◌≢◌, eqb}
use Rattle.std.proofs.lemmas.Bool.{or_from, or_parts, or_right, eqb-false, eqb-true}
use Rattle.std.specs.Prelude.{◌⊎◌, ◌&&◌, if◌then◌else◌, slice_get, Option, Some, None, option_to_list}
use Rattle.std.specs.List.{flat_map, list_any}
use Rattle.gw_site.specs.declared.turn.Turn.{Turn}
use Rattle.zvt_apdu.specs.DecodeStream.{DecodedApdus}
use Rattle.zvt_apdu.specs.Grammar.{ApduValue}
use Rattle.jrn_record.specs.declared.records.Record.{Record}
use Rattle.gw_owes.specs.declared.terminal.Service.TheVariants.{Transaction, EndOfDay, Display}
use Rattle.gw_owes.specs.declared.terminal.Standing.{Standing}
use Rattle.gw_owes.specs.declared.terminal.Standing.TheVariants.{Unlinked, Registering, Enquiring, Ready, Serving, Aside}
use Rattle.gw_owes.specs.declared.terminal.Terminal.{Terminal}
use Rattle.gw_owes.specs.Calls.{OwedCall, SendTill, SendPt, LinkPt, WriteBody, WriteGate, WriteFirstGate, Sync, CutTill as OwedCutTill, CutPt as OwedCutPt, records_kept}
use Rattle.gw_owes.specs.Core.{Core}
use Rattle.gw_owes.specs.Events.{apdu_items, decoded_apdu_items, is_oversized, items_due}
use Rattle.gw_owes.specs.Items.{RoundItem, Oversized}
use Rattle.gw_rules.specs.LedgerRules.{ledger_rules}
use Rattle.gw_rules.specs.RecordOrder.{records_coming}
use Rattle.gw_rules.specs.Scene.{records_of}
use Rattle.gw_rules.specs.View.{View, later}
use Rattle.gw_rules.proofs.KeptFileLemmas.{owned}
use Rattle.gw_rules.proofs.KeptLawLemmas.{holds}
use Rattle.gw_rules.proofs.KeptPhaseLemmas.{Body, BodySync, FirstGate, FirstSync, GateSync, Holds as KeptHolds, LastSync, Mid, OpenGate, Phase}
use Rattle.gw_rules.proofs.RecordOrderLemmas.{Ordered}
use Rattle.gw_rules.proofs.RecordRowLemmas.{spares-none}
use Rattle.gw_books.specs.Past.{MadeLink, SentCommand, Past, Numbering, numbering_at}
use Rattle.gw_books.specs.Books.{BookedEntry}
use Rattle.gw_books.proofs.BookLemmas.{quiet-later, ready-later, records-later}
use Rattle.gw_books.proofs.Holding.{charge_owed, charges_terminal, is_handle}
use Rattle.gw_books.proofs.ListLemmas.{In}
use Rattle.gw_books.proofs.Numbering.{AreRecordsNumbered, AreStandingsNumbered, IsLinkedSince, IsQuiet, IsStandingNumbered, Numbered, handles_after_due, is_due_item, link_owed, IsReadyNumber}
use Rattle.gw_books.proofs.TurnHoldsLemmas.{due-handles-none, handles_none}
use Rattle.zvt_apdu.specs.Decode.{decode_apdu}
use Rattle.gw_owes.specs.Terminals.{with_terminal}
use Rattle.gw_owes.proofs.SetLemmas.{new-is-there, others-stay, same-some}

-- ---- the order of items

abbrev dues_none : List RoundItem → Type 0
dues_none items = list_any is_due_item items ≡ false

-- where no APDU is to be handled none is after a link
pub none-after-due : (items : List RoundItem) → handles_none items → handles_after_due items ≡ false
none-after-due [] none = refl
none-after-due (item ∷ items) none =
    let parts = or_parts (is_handle item) (list_any is_handle items) none in
    or_from (is_due_item item && list_any is_handle items) (handles_after_due items) (by-due (is_due_item item) parts.1) (none-after-due items parts.1)
  where
    by-due : (due : Bool) → list_any is_handle items ≡ false → (due && list_any is_handle items) ≡ false
    by-due true is = is
    by-due false is = refl

-- where no link may come of the first items, and no APDU is to be handled in those after
pub ordered-append : (items more : List RoundItem) → dues_none items → handles_none more → handles_after_due (items ++ more) ≡ false
ordered-append [] more dues none = none-after-due more none
ordered-append (item ∷ items) more dues none =
    let parts = or_parts (is_due_item item) (list_any is_due_item items) dues in
    or_from (is_due_item item && list_any is_handle (items ++ more)) (handles_after_due (items ++ more)) (ap (λ (b : Bool). b && list_any is_handle (items ++ more)) parts.0) (ordered-append items more parts.1 none)

none-append : (test : RoundItem → Bool) (items more : List RoundItem) → list_any test items ≡ false → list_any test more ≡ false → list_any test (items ++ more) ≡ false
none-append test [] more h k = k
none-append test (item ∷ items) more h k =
    let parts = or_parts (test item) (list_any test items) h in
    or_from (test item) (list_any test (items ++ more)) parts.0 (none-append test items more parts.1 k)

apdus-dues-none : (pt : ℕ) (apdus : List ApduValue) → dues_none (flat_map (apdu_items pt) apdus)
apdus-dues-none pt [] = refl
apdus-dues-none pt (apdu ∷ apdus) = apdus-dues-none pt apdus

pub pt-dues-none : (pt : ℕ) (decoded : DecodedApdus) → dues_none (decoded_apdu_items pt decoded)
pt-dues-none pt decoded = none-append is_due_item (flat_map (apdu_items pt) decoded.apdus) _ (apdus-dues-none pt decoded.apdus) (by_test (is_oversized (decode_apdu decoded.rest)))
  where
    by_test : (test : Bool) → dues_none (if test then Oversized pt ∷ [] else [])
    by_test true = refl
    by_test false = refl

-- with what may be due after them
pub ordered-due : (items : List RoundItem) (core : Core) → dues_none items → handles_after_due (items ++ items_due core) ≡ false
ordered-due items core none = ordered-append items (items_due core) none (due-handles-none core)

-- ---- calls

-- a link among the later calls is one among all
pub link-later : (calls : List OwedCall) → link_owed (later calls) ≡ true → link_owed calls ≡ true
link-later [] owed = owed
link-later (SendTill till reply ∷ calls) owed = owed
link-later (SendPt pt sending ∷ calls) owed = owed
link-later (LinkPt pt ∷ calls) owed = refl
link-later (WriteBody slot the_record ∷ calls) owed = owed
link-later (WriteGate slot the_record ∷ calls) owed = owed
link-later (WriteFirstGate ∷ calls) owed = owed
link-later (Sync ∷ calls) owed = owed
link-later (OwedCutTill till ∷ calls) owed = owed
link-later (OwedCutPt pt ∷ calls) owed = owed

-- and so a command that may charge a card
pub charge-later : (number : ℕ) (calls : List OwedCall) → charge_owed number (later calls) ≡ true → charge_owed number calls ≡ true
charge-later number [] owed = owed
charge-later number (call ∷ calls) owed = or_right (charges_terminal number call) (charge_owed number calls) owed

-- ---- the records

-- no record is in flight, or none comes
flying-none : (log : List Turn) (v : View) → KeptHolds (owned ledger_rules) log v → (v.scene.flight ≡ None) ⊎ (records_kept v.calls ≡ [])
flying-none log v h = by_phase h.phase
  where
    opening_none : (small : Bool) → records_kept (Sync ∷ (if small then WriteFirstGate ∷ Sync ∷ [] else [])) ≡ []
    opening_none true = refl
    opening_none false = refl

    by_step : Mid (owned ledger_rules) log v.scene.kept v.scene.flight v.calls → (v.scene.flight ≡ None) ⊎ (records_kept v.calls ≡ [])
    by_step (FirstSync e) = inr (ap records_kept e ∙ opening_none _)
    by_step (FirstGate g) = inl g.no_flight
    by_step (GateSync g) = inl g.no_flight
    by_step (Body a) = inl a.flight_is
    by_step (BodySync a) = inl a.flight_is
    by_step (OpenGate a) = inl a.flight_is
    by_step (LastSync a) = inr (ap records_kept a.calls_are ∙ spares-none a.more a.spares)

    by_phase : Phase (owned ledger_rules) log v.scene.kept v.scene.flight v.calls v.scene.stage → (v.scene.flight ≡ None) ⊎ (records_kept v.calls ≡ [])
    by_phase (inl c) = inr (ap records_kept c.calls_are)
    by_phase (inr (inl r)) = inl r.is_open.no_flight
    by_phase (inr (inr m)) = by_step m.0

-- the numbers of the records with the one in flight
pub file-numbered : (log : List Turn) (v : View) (past : Past) (book : List BookedEntry) → Ordered log v → Numbered v past book → AreRecordsNumbered book past.commands past.place (records_of v.scene)
file-numbered log v past book o n = by_flight (flying-none log v (holds ledger_rules log v o.keeps))
  where
    by_flight : (v.scene.flight ≡ None) ⊎ (records_kept v.calls ≡ []) → AreRecordsNumbered book past.commands past.place (records_of v.scene)
    by_flight (inl none) = subst (λ (records : List Record). AreRecordsNumbered book past.commands past.place records) (sym (ap (λ (flight : Option Record). v.scene.kept ++ option_to_list flight) none ∙ append-nil v.scene.kept)) n.kept
    by_flight (inr none) =
        subst (λ (records : List Record). AreRecordsNumbered book past.commands past.place records) (ap (λ (more : List Record). records_of v.scene ++ more) none ∙ append-nil (records_of v.scene)) n.coming

-- ---- where no command is sent and no link is made

-- what a turn leaves of numbers
pub record Stays (v w : View) (past now : Past) (book : List BookedEntry) : Type 0 where
  pub commands : now.commands ≡ past.commands
  pub links : now.links ≡ past.links
  pub place : now.place ≡ past.place + 1
  pub kept : AreRecordsNumbered book past.commands past.place w.scene.kept
  pub coming : AreRecordsNumbered book past.commands past.place (records_coming w)
  pub standings : AreStandingsNumbered past book w.scene.core
  pub asked : (number : ℕ) (terminal : Terminal) → slice_get w.scene.core.terminals number ≡ Some terminal → charge_owed number w.calls ≡ true → IsQuiet book past.commands (numbering_at terminal.pt) past.place
  pub ordered : handles_after_due w.items ≡ false
  pub linking : link_owed w.calls ≡ true → list_any is_handle w.items ≡ false
  pub linked : list_any is_handle w.items ≡ true → (link : MadeLink) → In link past.links → link.place ≤ now.heard

-- a standing stays as it is numbered
pub standing-stays : (past now : Past) (book : List BookedEntry) (numbering : Numbering) (standing : Standing) → now.commands ≡ past.commands → now.links ≡ past.links → past.place ≤ now.place
    → IsStandingNumbered past.links past.commands past.place book numbering standing → IsStandingNumbered now.links now.commands now.place book numbering standing
standing-stays past now book numbering (Unlinked due) commands links places is = tt
standing-stays past now book numbering Registering commands links places is =
    subst (λ (all : List MadeLink). IsLinkedSince all now.commands numbering) (sym links) (subst (λ (sent : List SentCommand). IsLinkedSince past.links sent numbering) (sym commands) is)
standing-stays past now book numbering Enquiring commands links places is =
    subst (λ (all : List MadeLink). IsLinkedSince all now.commands numbering) (sym links) (subst (λ (sent : List SentCommand). IsLinkedSince past.links sent numbering) (sym commands) is)
standing-stays past now book numbering (Ready last) commands links places is =
    subst (λ (sent : List SentCommand). IsReadyNumber book sent numbering now.place last) (sym commands) (ready-later past.place now.place places book past.commands numbering last is)
standing-stays past now book numbering (Serving (Transaction slot) last) commands links places is = tt
standing-stays past now book numbering (Serving (EndOfDay header period) last) commands links places is =
    subst (λ (sent : List SentCommand). IsReadyNumber book sent numbering now.place last) (sym commands) (ready-later past.place now.place places book past.commands numbering last is)
standing-stays past now book numbering (Serving (Display header results) last) commands links places is =
    subst (λ (sent : List SentCommand). IsReadyNumber book sent numbering now.place last) (sym commands) (ready-later past.place now.place places book past.commands numbering last is)
standing-stays past now book numbering (Aside before reported) commands links places is = is

-- one terminal becomes another
pub standings-set : (past : Past) (book : List BookedEntry) (core : Core) (number : ℕ) (old new : Terminal) → slice_get core.terminals number ≡ Some old
    → ((other : ℕ) (terminal : Terminal) → other ≢ number → slice_get core.terminals other ≡ Some terminal → IsStandingNumbered past.links past.commands past.place book (numbering_at terminal.pt) terminal.standing)
    → IsStandingNumbered past.links past.commands past.place book (numbering_at new.pt) new.standing → AreStandingsNumbered past book (with_terminal core number new)
standings-set past book core number old new here others own other terminal found = by_test (eqb other number) refl
  where
    by_test : (b : Bool) → eqb other number ≡ b → IsStandingNumbered past.links past.commands past.place book (numbering_at terminal.pt) terminal.standing
    by_test true is =
        let there : slice_get (with_terminal core number new).terminals number ≡ Some terminal = subst (λ (at : ℕ). slice_get (with_terminal core number new).terminals at ≡ Some terminal) (eqb-true other number is) found in
        subst (λ (t : Terminal). IsStandingNumbered past.links past.commands past.place book (numbering_at t.pt) t.standing) (same-some new terminal (sym (new-is-there core.terminals number old new here) ∙ there)) own
    by_test false is = let apart = eqb-false other number is in others other terminal apart (sym (others-stay core.terminals number other new apart) ∙ found)

pub stays-numbered : (v w : View) (past now : Past) (book : List BookedEntry) → Numbered v past book → Stays v w past now book → Numbered w now book
stays-numbered v w past now book n s = record {
  kept = records-stay w.scene.kept s.kept;
  coming = records-stay (records_coming w) s.coming;
  standings = λ number terminal found. standing-stays past now book (numbering_at terminal.pt) terminal.standing s.commands s.links places (s.standings number terminal found);
  asked = λ number terminal found owed.
      subst (λ (sent : List SentCommand). IsQuiet book sent (numbering_at terminal.pt) now.place) (sym s.commands) (quiet-later past.place now.place places book past.commands (numbering_at terminal.pt) (s.asked number terminal found owed));
  made = λ link within. let before = n.made link (subst (λ (all : List MadeLink). In link all) s.links within) in let place = s.place in omega (arith, before, place);
  ordered = s.ordered;
  linking = s.linking;
  linked = λ handles link within. s.linked handles link (subst (λ (all : List MadeLink). In link all) s.links within);
}
  where
    places : past.place ≤ now.place
    places = let place = s.place in omega (arith, place)

    records-stay : (records : List Record) → AreRecordsNumbered book past.commands past.place records → AreRecordsNumbered book now.commands now.place records
    records-stay records is =
        subst (λ (sent : List SentCommand). AreRecordsNumbered book sent now.place records) (sym s.commands) (records-later past.place now.place places book past.commands records is)
