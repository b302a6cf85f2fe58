-- What a played terminal says: its book stays honest with the end that it brings, and its dialogue goes on, or all that it has sent was handled.
use Rattle.std.proofs.Common.{◌≡◌, ◌≢◌, ◌≤◌, ◌<◌, ◌∙◌, ℕ, zero, suc, Bool, true, false, eqb, leb, ltb, List, [], ◌∷◌, ◌++◌, length, inl, inr, refl, sym, ap, subst, arith, append-nil}
use Rattle.std.specs.Prelude.{◌⊎◌, pos, bytes_eq, if◌then◌else◌, map, slice_get, All, Option, Some, None, option_and_then, option_map, Result, Ok, Err}
use Rattle.std.specs.List.{flat_map, list_any}
use Rattle.std.specs.Option.{option_to_list}
use Rattle.std.proofs.lemmas.Bool.{eqb-false, eqb-true}
use Rattle.std.proofs.lemmas.List.Elements.{All-head, All-tail}
use Rattle.gw_base.specs.Setup.{IsPt}
use Rattle.gw_base.specs.declared.figures.Figures.{Figures}
use Rattle.gw_base.specs.declared.setup.Pt.{Pt}
use Rattle.gw_site.specs.Outside.{heard_on, is_connected}
use Rattle.sale_values.specs.declared.header.Header.{Header}
use Rattle.sale_values.specs.declared.names.Period.{Period}
use Rattle.sale_reply.specs.declared.reply.Shown.{Shown}
use Rattle.zvt_apdu.specs.Grammar.{ApduValue}
use Rattle.zvt_msg.specs.declared.command.Command.{Command}
use Rattle.zvt_msg.specs.declared.command.Command.TheVariants as commands
use Rattle.zvt_msg.specs.declared.fault.PtFault.{PtFault}
use Rattle.zvt_msg.specs.Message.{MessageValue}
use Rattle.zvt_msg.specs.MessageDecode.{decode_pt_message}
use Rattle.zvt_talk.specs.declared.dialogue_kind.DialogueKind.{DialogueKind}
use Rattle.zvt_talk.specs.declared.dialogue_kind.DialogueKind.TheVariants.{Registration, Enquiry, Payment, EndOfDay as EndOfDayDialogue, Display as DisplayDialogue}
use Rattle.zvt_talk.specs.declared.meaning.Heard.{Heard}
use Rattle.zvt_talk.specs.declared.meaning.Heard.TheVariants as heard
use Rattle.zvt_talk.specs.Came.{is_taken}
use Rattle.zvt_talk.specs.Dialogue.{dialogue_kind_of}
use Rattle.zvt_talk.specs.Talk.{TalkFacts}
use Rattle.pt_core.specs.declared.book.BookEntry.{BookEntry}
use Rattle.pt_core.specs.Ends.{IsTrueEnd}
use Rattle.pt_core.specs.Exchange.{heard_on_link}
use Rattle.pt_core.specs.History.{Setting, book_after, book_of, play_left, reaction_after}
use Rattle.pt_core.specs.Book.{last_book_entry}
use Rattle.pt_core.specs.Table.{by_command, enquiry, entries_of}
use Rattle.jrn_record.specs.declared.records.Record.TheVariants.{Outcome, Settled}
use Rattle.jrn_record.specs.declared.records.How.TheVariants as hows
use Rattle.gw_ledger.specs.Accounts.{last_number_of}
use Rattle.gw_ledger.specs.Fold.{open_entry}
use Rattle.jrn_record.specs.declared.records.Outcome.{Outcome as TheOutcome}
use Rattle.jrn_record.specs.declared.records.Settled.{Settled as TheSettled}
use Rattle.gw_ledger.specs.declared.entry.Entry.{Entry as TheEntry}
use Rattle.gw_owes.specs.declared.terminal.Service.TheVariants.{Transaction, EndOfDay, Display}
use Rattle.gw_owes.specs.declared.terminal.Standing.{Standing}
use Rattle.gw_owes.specs.declared.terminal.Standing.TheVariants.{Unlinked, Registering, Enquiring, Ready, Serving, Aside}
use Rattle.gw_owes.specs.declared.terminal.Terminal.{Terminal}
use Rattle.gw_owes.specs.Awaited.{one_more_awaited}
use Rattle.gw_owes.specs.Calls.{Ask, OwedCall, SendPt, CutPt, keep_calls}
use Rattle.gw_owes.specs.Core.{Core}
use Rattle.gw_owes.specs.Deadlines.{is_due_by}
use Rattle.gw_owes.specs.Displays.{serving_display}
use Rattle.gw_owes.specs.Handling.{consequence, enquires, enquiring, enquiry_command, handle_decoded, handle_message, meaning_at, meaning_for, registering, taken_as, taking}
use Rattle.gw_owes.specs.Items.{RoundItem, Handle}
use Rattle.gw_owes.specs.Links.{is_linked}
use Rattle.gw_owes.specs.Reconciliations.{reply_to_settled, serving_day, settle_calls, settled_of}
use Rattle.gw_owes.specs.RecordLaws.{IsInOrder}
use Rattle.gw_owes.specs.Reply.{ReplyValue}
use Rattle.gw_owes.specs.Reports.{Report, on_record, outcome_reported, report_against, report_row}
use Rattle.gw_owes.specs.Row.{Known, Row, becoming, owing_where}
use Rattle.gw_owes.specs.Serving.{at_rest, approved_outcome, approved_row, breaking, declined_outcome, declined_row, done_with, last_after_decline, reply_to_outcome, resolves, serving_transaction, staying, stops, was_stopped}
use Rattle.gw_owes.specs.Terminals.{after_command, of_terminal, reply_calls_to, terminal_at, terminal_becomes, with_terminal}
use Rattle.gw_owes.proofs.HandlingLemmas.{IsShown, taken-plain}
use Rattle.gw_owes.proofs.KeepingLemmas.{setting-there}
use Rattle.gw_owes.proofs.SetLemmas.{same-some}
use Rattle.gw_rules.specs.Scene.{known_in, row_at}
use Rattle.gw_rules.specs.Stage.{is_broken, is_round}
use Rattle.gw_rules.specs.TranscriptLaws.{cut_owed}
use Rattle.gw_rules.specs.View.{View, begin, begun}
use Rattle.gw_rules.proofs.KeptPhaseLemmas.{round-runs}
use Rattle.gw_rules.proofs.LinkedLemmas.{round-setup}
use Rattle.gw_rules.proofs.OwingLemmas.{clear-where}
use Rattle.gw_rules.proofs.RecordOrderLemmas.{between-items, row-is}
use Rattle.gw_rules.proofs.SetupLemmas.{HasSetup}
use Rattle.gw_books.specs.Books.{is_true}
use Rattle.gw_books.specs.Past.{Occasion, OfMessage, OfNothing, SentCommand, Ending, Approved, Declined, Reported, HeardEnd, Past, command_served, ending_with, ends_by, ends_of, first_occasion, occasion_decoded, served_in}
use Rattle.gw_books.proofs.FrameRowLemmas.{each-in-place}
use Rattle.gw_books.proofs.Holding.{is_handle}
use Rattle.gw_books.proofs.ListLemmas.{In, bytes-are, found-in, in-either}
use Rattle.gw_played.specs.Played.{PlacedExchange, book_along, exchanges_in}
use Rattle.gw_played.proofs.Playing.{IsLastServed, IsLeft, IsOfCommand, IsServing, IsTransacting, IsPeer, IsPeerIn, IsQuiet, IsTalking, PeerLaws, Plays, PlaysItem, WasLinked, ask_owed, ChargeNone, met_in, pending}
use Rattle.gw_played.proofs.HonestGrowLemmas.{honest-ends}
use Rattle.gw_played.proofs.PeerEndLemmas.{approved-true, declined-true, heard_now, reported-true}
use Rattle.gw_played.proofs.PeerFrameLemmas.{later-charge-none}
use Rattle.gw_played.proofs.PeerTalkLemmas.{GoesOn, IsAsked, MayEnd, kind-asked, same-kind}
use Rattle.gw_played.proofs.TakenMessageLemmas.{no-true, own-pending, other-pending, peer-stays, first-left, Goes, Stops, Talks, talks}
use Rattle.gw_played.proofs.HandleRowLemmas.{AreMild, neither, mild-none, mild-cut, mild-enquiry, mild-stop, mild-replies, mild-kept, asks-no-more, own-cut, own-enquiry, registering-on, enquiring-on, serving-on, day-on, display-on, on-unshown, end-unshown, none-ends, charge-asked, charge-ends}

-- ---- settings

-- what holds of all holds of each
all-there : {A : Type 0} (P : A → Type 0) (all : List A) (at : ℕ) (one : A) → All P all → slice_get all at ≡ Some one → P one
all-there P [] at one each found = absurd cc
all-there P (first ∷ rest) zero one each found = subst P (same-some first one found) (All-head P first rest each)
all-there P (first ∷ rest) (suc at) one each found = all-there P rest at one (All-tail P first rest each) found

-- the settings of each terminal lie within the limits
pub pt-within : (known : Known) (number : ℕ) (terminal : Terminal) → IsInOrder known → terminal_at known number ≡ Some terminal → IsPt terminal.pt
pt-within known number terminal order found =
    all-there IsPt known.setup.terminals number terminal.pt order.of_setup.within.each
    (subst (λ (pts : List Pt). slice_get pts number ≡ Some terminal.pt) order.of_setup.settings (setting-there known.core.terminals number terminal found))

-- ---- what a row leaves

module _ (laws : PeerLaws) (settings : List ℕ → Setting) (v : View) (past : Past) (exchanges : List ℕ → List PlacedExchange) (number : ℕ) (apdu : ApduValue) (rest : List RoundItem)
    (clear : is_broken v.scene.stage ≡ false) (items_are : v.items ≡ Handle number apdu ∷ rest) (calls_are : v.calls ≡ []) (plays : Plays settings v past exchanges) where
  -- how far each linked terminal was
  peer-was : (other : ℕ) (terminal : Terminal) → slice_get v.scene.core.terminals other ≡ Some terminal → is_linked terminal.standing ≡ true
      → IsPeerIn (settings terminal.pt.poi) terminal.pt.poi (exchanges terminal.pt.poi) other (Handle number apdu ∷ rest) past.commands terminal.talk terminal.standing
  peer-was other terminal found linked =
      let P : List OwedCall → Type 0 = λ calls. IsPeer (ask_owed other calls) (settings terminal.pt.poi) (exchanges terminal.pt.poi) other v.items past.commands calls terminal in
      let Q : List RoundItem → Type 0 = λ items. IsPeerIn (settings terminal.pt.poi) terminal.pt.poi (exchanges terminal.pt.poi) other items past.commands terminal.talk terminal.standing in
      let was : IsPeer false (settings terminal.pt.poi) (exchanges terminal.pt.poi) other v.items past.commands [] terminal = subst P calls_are (plays.peers clear other terminal found linked (ap (cut_owed other) calls_are)) in
      subst Q items_are was

  handles : list_any is_handle v.items ≡ true
  handles = ap (list_any is_handle) items_are

  calm-now : (command : SentCommand) → In command past.commands → command.place < past.heard
  calm-now = plays.calm handles

  -- the terminal of the item's number, as it is from here on
  record IsOwn (calls : List OwedCall) (terminal : Terminal) : Type 0 where
    old : Terminal
    here : slice_get v.scene.core.terminals number ≡ Some old
    settings_are : old.pt ≡ terminal.pt
    linked_before : is_linked terminal.standing ≡ true → is_linked old.standing ≡ true
    peer : is_linked terminal.standing ≡ true → cut_owed number calls ≡ false → IsPeer (ask_owed number calls) (settings terminal.pt.poi) (exchanges terminal.pt.poi) number rest past.commands calls terminal
    unlinked : (due : Option ℕ) → terminal.standing ≡ Unlinked due → (terminal.talk ≡ None) × ((pending number rest ≡ []) ⊎ (is_due_by v.scene.outside.moment due ≡ false))

  -- another one, which is as it was, or that one
  abbrev IsOnto : List OwedCall → ℕ → Terminal → Type 0
  IsOnto calls other terminal = ((other ≢ number) × (slice_get v.scene.core.terminals other ≡ Some terminal)) ⊎ ((other ≡ number) × IsOwn calls terminal)

  -- the new ends are sound
  abbrev AreSound : List HeardEnd → Type 0
  AreSound ends = (end : HeardEnd) → In end ends
      → (IsOfCommand past.commands end.numbering.poi end.ending × WasLinked past.links end.numbering.poi × (end.place ≤ past.heard)) × (is_true (book_along (settings end.numbering.poi) end.numbering.poi (exchanges end.numbering.poi)) end end.ending ≡ true)

  none-sound : AreSound []
  none-sound end within = absurd within

  -- what holds as the row is owed
  abbrev Leaves : Row → Occasion → List HeardEnd → Type 0
  Leaves row occasion ends = Plays settings (begun v.scene row rest) (record past { occasion = occasion; ends = ends ++ past.ends }) exchanges

  leaves : (core : Core) (calls : List OwedCall) (occasion : Occasion) (ends : List HeardEnd) → AreMild number calls → ((other : ℕ) (terminal : Terminal) → slice_get core.terminals other ≡ Some terminal → IsOnto calls other terminal) → AreSound ends
      → Leaves (becoming core calls) occasion ends
  leaves core calls occasion ends mild onto sound = record {
    peers = λ runs other terminal found linked uncut. peer-now other terminal (onto other terminal found) linked uncut;
    unlinked = λ other terminal due found is. unlinked-now other terminal due (onto other terminal found) is;
    linking = λ other owed. no-true (sym owed ∙ mild.links_none other);
    heard = λ other terminal found connected. heard-now other terminal (onto other terminal found) connected;
    calm = λ later. calm-now;
    uncharged = λ later other. mild.charges_none other;
    served = λ later. later-charge-none (Handle number apdu) rest (subst ChargeNone items_are (plays.served handles));
    heard_before = plays.heard_before;
    falling = plays.falling;
    linked_before = plays.linked_before;
    ends = λ end within. ends-now end (in-either end ends past.ends within);
    made = λ other terminal found linked. made-now other terminal (onto other terminal found) linked;
    places = plays.places;
    honest = λ poi. honest-ends past (record past { occasion = occasion; ends = ends ++ past.ends }) poi (book_along (settings poi) poi (exchanges poi)) ends plays.falling (omega arith) refl refl refl
        (λ end within same. subst (λ (p : List ℕ). is_true (book_along (settings p) p (exchanges p)) end end.ending ≡ true) same (sound end within).1) (plays.honest poi);
  }
    where
      peer-now : (other : ℕ) (terminal : Terminal) → IsOnto calls other terminal → is_linked terminal.standing ≡ true → cut_owed other calls ≡ false
          → IsPeer (ask_owed other calls) (settings terminal.pt.poi) (exchanges terminal.pt.poi) other rest past.commands calls terminal
      peer-now other terminal (inl (apart, found)) linked uncut =
          subst (λ (b : Bool). IsPeer b (settings terminal.pt.poi) (exchanges terminal.pt.poi) other rest past.commands calls terminal) (sym (mild.asks_others other apart))
          (peer-stays (settings terminal.pt.poi) (exchanges terminal.pt.poi) other (Handle number apdu ∷ rest) rest (other-pending number other apdu rest apart) terminal.pt.poi past.commands terminal.talk terminal.standing
          (peer-was other terminal found linked))
      peer-now other terminal (inr (same, own)) linked uncut =
          subst (λ (n : ℕ). IsPeer (ask_owed n calls) (settings terminal.pt.poi) (exchanges terminal.pt.poi) n rest past.commands calls terminal) (sym same)
          (own.peer linked (subst (λ (n : ℕ). cut_owed n calls ≡ false) same uncut))

      unlinked-now : (other : ℕ) (terminal : Terminal) (due : Option ℕ) → IsOnto calls other terminal → terminal.standing ≡ Unlinked due
          → (terminal.talk ≡ None) × ((pending other rest ≡ []) ⊎ (is_due_by v.scene.outside.moment due ≡ false))
      unlinked-now other terminal due (inl (apart, found)) is =
          let was = plays.unlinked other terminal due found is in
          let same : pending other v.items ≡ pending other rest = ap (pending other) items_are ∙ other-pending number other apdu rest apart in
          (was.0, subst (λ (l : List ApduValue). (l ≡ []) ⊎ (is_due_by v.scene.outside.moment due ≡ false)) same was.1)
      unlinked-now other terminal due (inr (same, own)) is =
          subst (λ (n : ℕ). (terminal.talk ≡ None) × ((pending n rest ≡ []) ⊎ (is_due_by v.scene.outside.moment due ≡ false))) (sym same) (own.unlinked due is)

      heard-now : (other : ℕ) (terminal : Terminal) → IsOnto calls other terminal → is_connected v.scene.outside.links other ≡ true
          → heard_on_link (exchanges_in (exchanges terminal.pt.poi)) ≡ heard_on v.scene.outside.links other
      heard-now other terminal (inl (apart, found)) connected = plays.heard other terminal found connected
      heard-now other terminal (inr (same, own)) connected =
          let P : ℕ → Type 0 = λ n. is_connected v.scene.outside.links n ≡ true → heard_on_link (exchanges_in (exchanges terminal.pt.poi)) ≡ heard_on v.scene.outside.links n in
          let Q : Pt → Type 0 = λ pt. is_connected v.scene.outside.links number ≡ true → heard_on_link (exchanges_in (exchanges pt.poi)) ≡ heard_on v.scene.outside.links number in
          subst P (sym same) (subst Q own.settings_are (plays.heard number own.old own.here)) connected

      made-now : (other : ℕ) (terminal : Terminal) → IsOnto calls other terminal → is_linked terminal.standing ≡ true → WasLinked past.links terminal.pt.poi
      made-now other terminal (inl (apart, found)) linked = plays.made other terminal found linked
      made-now other terminal (inr (same, own)) linked = subst (λ (pt : Pt). WasLinked past.links pt.poi) own.settings_are (plays.made number own.old own.here (own.linked_before linked))

      ends-now : (end : HeardEnd) → In end ends ⊎ In end past.ends → IsOfCommand past.commands end.numbering.poi end.ending × WasLinked past.links end.numbering.poi × (end.place ≤ past.heard)
      ends-now end (inl new) = (sound end new).0
      ends-now end (inr earlier) = plays.ends end earlier

  -- nothing is owed
  nothing-leaves : (occasion : Occasion)
      → ((terminal : Terminal) → slice_get v.scene.core.terminals number ≡ Some terminal → is_linked terminal.standing ≡ true
      → IsPeerIn (settings terminal.pt.poi) terminal.pt.poi (exchanges terminal.pt.poi) number rest past.commands terminal.talk terminal.standing)
      → Leaves (becoming v.scene.core []) occasion []
  nothing-leaves occasion peer = leaves v.scene.core [] occasion [] (mild-none number) (λ other terminal found. by-test other terminal found (eqb other number) refl) none-sound
    where
      own : (terminal : Terminal) → slice_get v.scene.core.terminals number ≡ Some terminal → IsOwn [] terminal
      own terminal found = record {
        old = terminal;
        here = found;
        settings_are = refl;
        linked_before = λ linked. linked;
        peer = λ linked uncut. peer terminal found linked;
        unlinked = λ due is. let was = plays.unlinked number terminal due found is in (was.0, by-due due was.1);
      }
        where
          by-due : (due : Option ℕ) → (pending number v.items ≡ []) ⊎ (is_due_by v.scene.outside.moment due ≡ false) → (pending number rest ≡ []) ⊎ (is_due_by v.scene.outside.moment due ≡ false)
          by-due due (inl none) = let some : apdu ∷ pending number rest ≡ [] = sym (own-pending number apdu rest) ∙ sym (ap (pending number) items_are) ∙ none in absurd cc
          by-due due (inr early) = inr early

      by-test : (other : ℕ) (terminal : Terminal) → slice_get v.scene.core.terminals other ≡ Some terminal → (b : Bool) → eqb other number ≡ b → IsOnto [] other terminal
      by-test other terminal found true is =
          let same : other ≡ number = eqb-true other number is in inr (same, own terminal (subst (λ (n : ℕ). slice_get v.scene.core.terminals n ≡ Some terminal) same found))
      by-test other terminal found false is = inl (eqb-false other number is, found)

  -- the terminal becomes another one that is linked
  becomes-leaves : (old new : Terminal) (calls : List OwedCall) (occasion : Occasion) (ends : List HeardEnd) → slice_get v.scene.core.terminals number ≡ Some old → is_linked old.standing ≡ true → old.pt ≡ new.pt → AreMild number calls
      → is_linked new.standing ≡ true → (cut_owed number calls ≡ false → IsPeer (ask_owed number calls) (settings new.pt.poi) (exchanges new.pt.poi) number rest past.commands calls new) → AreSound ends
      → Leaves (becoming (with_terminal v.scene.core number new) calls) occasion ends
  becomes-leaves old new calls occasion ends here linked same mild linked_now peer sound =
      leaves (with_terminal v.scene.core number new) calls occasion ends mild (each-in-place (IsOnto calls) v.scene.core number new (λ other terminal apart found. inl (apart, found)) (inr (refl, own))) sound
    where
      own : IsOwn calls new
      own = record {
        old = old;
        here = here;
        settings_are = same;
        linked_before = λ linked_new. linked;
        peer = λ linked_new uncut. peer uncut;
        unlinked = λ due is. no-true (sym linked_now ∙ ap is_linked is);
      }

  -- ---- a message of a linked terminal

  module _ (k : HasSetup v.scene) (order : IsInOrder (known_in v.scene k.setup)) (message : MessageValue) (decodes : decode_pt_message apdu ≡ Ok message)
      (old : Terminal) (here : slice_get v.scene.core.terminals number ≡ Some old) (linked : is_linked old.standing ≡ true) where
    abbrev known : Known
    known = known_in v.scene k.setup

    abbrev setting : Setting
    setting = settings old.pt.poi

    abbrev placed : List PlacedExchange
    placed = exchanges old.pt.poi

    -- the terminal once the message was taken
    abbrev now : Terminal
    now = taking old message known.moment

    -- what holds as the row is owed, with these ends
    abbrev Leaving : Row → List HeardEnd → Type 0
    Leaving row ends = Leaves row (OfMessage number message) ends

    -- the ends that a message brings which means this
    abbrev EndsIn : Standing → Heard → List HeardEnd
    EndsIn standing meant = map (λ (ending : Ending). heard_now past old.pt.poi ending) (option_to_list (ending_with (option_and_then (command_served past old.pt.poi) (served_in standing)) meant))

    -- one end
    one-sound : (ending : Ending) → IsOfCommand past.commands old.pt.poi ending → is_true (book_along setting old.pt.poi placed) (heard_now past old.pt.poi ending) ending ≡ true → AreSound (heard_now past old.pt.poi ending ∷ [])
    one-sound ending of_command true_of end (inl same) =
        let P : HeardEnd → Type 0 = λ e.
        (IsOfCommand past.commands e.numbering.poi e.ending × WasLinked past.links e.numbering.poi × (e.place ≤ past.heard)) × (is_true (book_along (settings e.numbering.poi) e.numbering.poi (exchanges e.numbering.poi)) e e.ending ≡ true) in
        let least : past.heard ≤ past.heard = omega arith in
        subst P (sym same) ((of_command, plays.made number old here linked, least), true_of)
    one-sound ending of_command true_of end (inr none) = absurd none

    -- the terminal stays as it has become
    stays : (standing : Standing) → old.standing ≡ standing → IsPeerIn setting old.pt.poi placed number rest past.commands now.talk standing → Leaving (staying known number now) []
    stays standing is peer =
        becomes-leaves old now [] (OfMessage number message) [] here linked refl (mild-none number) linked
        (λ uncut. subst (λ (s : Standing). IsPeerIn setting old.pt.poi placed number rest past.commands now.talk s) (sym is) peer) none-sound

    -- so it does as it is sent a stop
    stopped : (standing : Standing) → old.standing ≡ standing → IsPeerIn setting old.pt.poi placed number rest past.commands now.talk standing → Leaving (stops known number now) []
    stopped standing is peer =
        let calls : List OwedCall = SendPt number (Ask commands.Stop) ∷ [] in
        let new : Terminal = record now { awaited = one_more_awaited now.awaited } in
        becomes-leaves old new calls (OfMessage number message) [] here linked refl (mild-stop number) linked
        (λ uncut. subst (λ (b : Bool). IsPeer b setting placed number rest past.commands calls new) (sym (neither (eqb number number)))
        (subst (λ (s : Standing). IsPeerIn setting old.pt.poi placed number rest past.commands now.talk s) (sym is) peer)) none-sound

    -- the dialogue goes on
    goes-on : (standing : Standing) (meant : Heard) (row : Row) → old.standing ≡ standing → GoesOn meant → (row ≡ staying known number now) ⊎ (row ≡ stops known number now)
        → IsPeerIn setting old.pt.poi placed number rest past.commands now.talk standing → Leaving row (EndsIn standing meant)
    goes-on standing meant row is on same peer = subst (λ (ends : List HeardEnd). Leaving row ends) (sym none) (by-row same)
      where
        none : EndsIn standing meant ≡ []
        none =
            ap (λ (found : Option Ending). map (λ (ending : Ending). heard_now past old.pt.poi ending) (option_to_list found)) (none-ends (option_and_then (command_served past old.pt.poi) (served_in standing)) meant on)

        by-row : (row ≡ staying known number now) ⊎ (row ≡ stops known number now) → Leaving row []
        by-row (inl stay) = subst (λ (r : Row). Leaving r []) (sym stay) (stays standing is peer)
        by-row (inr stop) = subst (λ (r : Row). Leaving r []) (sym stop) (stopped standing is peer)

    -- its connection is cut
    breaks : (ends : List HeardEnd) → AreSound ends → Leaving (breaking known number now) ends
    breaks ends sound = becomes-leaves old now (CutPt number ∷ []) (OfMessage number message) ends here linked refl (mild-cut number) linked (λ uncut. no-true (sym (own-cut number) ∙ uncut)) sound

    -- its dialogue is over
    rests : (new : Terminal) (calls : List OwedCall) (ends : List HeardEnd) → old.pt ≡ new.pt → AreMild number calls → is_linked new.standing ≡ true → ask_owed number calls ≡ false
        → IsPeerIn (settings new.pt.poi) new.pt.poi (exchanges new.pt.poi) number rest past.commands new.talk new.standing → AreSound ends → Leaving (terminal_becomes known number new calls) ends
    rests new calls ends same mild linked_now unasked peer sound =
        becomes-leaves old new calls (OfMessage number message) ends here linked same mild linked_now
        (λ uncut. subst (λ (b : Bool). IsPeer b (settings new.pt.poi) (exchanges new.pt.poi) number rest past.commands calls new) (sym unasked) peer) sound

    -- a key is resolved: its Outcome is kept, and the till gets the reply
    resolved : (ready : ℕ) (outcome : TheOutcome) (ends : List HeardEnd) → AreSound ends → IsQuiet setting placed number rest → Leaving (resolves known number now (Ready ready) outcome) ends
    resolved ready outcome ends sound quiet =
        rests (done_with now (Ready ready)) (keep_calls (length known.kept) (Outcome outcome) ++ reply_calls_to now.asker (reply_to_outcome known.kept outcome.slot outcome)) ends refl
        (mild-kept number (length known.kept) (Outcome outcome) (reply_calls_to now.asker (reply_to_outcome known.kept outcome.slot outcome)) (mild-replies number now.asker (reply_to_outcome known.kept outcome.slot outcome)))
        refl (asks-no-more number now.asker (reply_to_outcome known.kept outcome.slot outcome)) quiet sound

    -- ---- a registration

    -- the terminal is enquired
    enquired : IsQuiet setting placed number rest → Leaving (enquires known number now) []
    enquired quiet =
        becomes-leaves old (after_command now (enquiry_command now.pt) Enquiring known.moment) (SendPt number (Ask (enquiry_command now.pt)) ∷ []) (OfMessage number message) [] here linked refl (mild-enquiry number old.pt) refl
        (λ uncut. subst (λ (b : Bool). IsPeer b setting placed number rest past.commands (SendPt number (Ask (enquiry_command now.pt)) ∷ []) (after_command now (enquiry_command now.pt) Enquiring known.moment)) (sym (own-enquiry number old.pt))
        (record {
          quiet = quiet;
          command = enquiry_command old.pt;
          owed = inl refl;
          digits = (pt-within known number old order here).password.1;
          sizes = (pt-within known number old order here).password.0;
          of_standing = (old.pt.password, refl);
          dialogue = record { dialogue_kind = Enquiry; none = old.pt.none; acknowledge_time = old.pt.answer; command_time = old.pt.command; sent = pos known.moment };
          begins = refl;
          talk_is = refl;
        }))
        none-sound

    registering-ends : (meant : Heard) → MayEnd Registration meant → IsQuiet setting placed number rest → Leaving (registering known number now meant) (EndsIn Registering meant)
    registering-ends (heard.Begun stop) may quiet = absurd may.0
    registering-ends (heard.Note intermediate_status) may quiet = absurd may.0
    registering-ends heard.Line may quiet = absurd may.0
    registering-ends heard.Block may quiet = absurd may.0
    registering-ends heard.Seen may quiet = absurd may.0
    registering-ends (heard.Approved figures) may quiet = absurd may.0
    registering-ends heard.Done may quiet = enquired quiet
    registering-ends (heard.Told reported approved result_code) may quiet = absurd may.0
    registering-ends (heard.Declined result_code reported) may quiet = breaks [] none-sound
    registering-ends heard.Unclear may quiet = breaks [] none-sound
    registering-ends heard.Stray may quiet = absurd may.0

    -- ---- an enquiry

    -- an enquiry books nothing
    books-none : (password : List ℕ) (t : IsTalking setting placed number (Handle number apdu ∷ rest) old.talk (commands.Enquire password)) → book_after setting (met_in placed) ≡ book_of setting t.before
    books-none password t = t.book_is ∙ ap (λ (l : List BookEntry). book_of setting t.before ++ l) none ∙ append-nil (book_of setting t.before)
      where
        by-last : (own : ℕ) (last : Option BookEntry) → entries_of (enquiry own last) ≡ []
        by-last own None = refl
        by-last own (Some entry) = refl

        none : entries_of (reaction_after setting t.before t.apdu) ≡ []
        none =
            ap (λ (o : Option Command). entries_of (by_command setting.none (play_left setting.plays t.before) (book_of setting t.before) t.apdu.class o)) t.spells
            ∙ by-last setting.none (last_book_entry (book_of setting t.before))

    -- a report: what is open is resolved, but where the trace number is below the one before
    reports : (report : Report) (ends : List HeardEnd) → AreSound ends → IsQuiet setting placed number rest → Leaving (report_row (on_record known.kept old.pt.poi) known number now report) ends
    reports report ends sound quiet = by-open (open_entry known.kept old.pt.poi)
      where
        aside : (least : ℕ) → Leaving (terminal_becomes known number (at_rest now (Aside least report.trace)) []) ends
        aside least = rests (at_rest now (Aside least report.trace)) [] ends refl (mild-none number) refl refl quiet sound

        by-last : (last : ℕ) (b : Bool) → Leaving (terminal_becomes known number (at_rest now (if b then Ready report.trace else Aside last report.trace)) []) ends
        by-last last true = rests (at_rest now (Ready report.trace)) [] ends refl (mild-none number) refl refl quiet sound
        by-last last false = aside last

        by-before : (entry : TheEntry) (b : Bool)
            → Leaving (if b then resolves known number now (Ready report.trace) (outcome_reported entry report known.moment) else terminal_becomes known number (at_rest now (Aside entry.intent.before report.trace)) []) ends
        by-before entry true = resolved report.trace (outcome_reported entry report known.moment) ends sound quiet
        by-before entry false = aside entry.intent.before

        by-open : (opened : Option TheEntry) → Leaving (report_against opened (last_number_of known.kept old.pt.poi) known number now report) ends
        by-open None = by-last (last_number_of known.kept old.pt.poi) (leb (last_number_of known.kept old.pt.poi) report.trace)
        by-open (Some entry) = by-before entry (leb entry.intent.before report.trace)

    enquiring-ends : (password : List ℕ) (t : IsTalking setting placed number (Handle number apdu ∷ rest) old.talk (commands.Enquire password)) (meant : Heard) → MayEnd Enquiry meant → IsQuiet setting placed number rest
        → IsTrueEnd (book_of setting t.before) (entries_of (reaction_after setting t.before t.apdu)) meant → Leaving (enquiring known number now meant) (EndsIn Enquiring meant)
    enquiring-ends password t (heard.Begun stop) may quiet true_of = absurd may.0
    enquiring-ends password t (heard.Note intermediate_status) may quiet true_of = absurd may.0
    enquiring-ends password t heard.Line may quiet true_of = absurd may.0
    enquiring-ends password t heard.Block may quiet true_of = absurd may.0
    enquiring-ends password t heard.Seen may quiet true_of = absurd may.0
    enquiring-ends password t (heard.Approved figures) may quiet true_of = absurd may.0
    enquiring-ends password t heard.Done may quiet true_of = absurd may.0
    enquiring-ends password t (heard.Told reported approved result_code) may quiet true_of =
        reports (record { trace = reported; approved = approved; result_code = result_code }) (heard_now past old.pt.poi (Reported reported approved) ∷ [])
        (one-sound (Reported reported approved) tt
        (reported-true laws setting old.pt.poi placed past (plays.honest old.pt.poi) calm-now t.before reported result_code approved (entries_of (reaction_after setting t.before t.apdu)) (books-none password t) true_of))
        quiet
    enquiring-ends password t (heard.Declined result_code reported) may quiet true_of = breaks [] none-sound
    enquiring-ends password t heard.Unclear may quiet true_of = breaks [] none-sound
    enquiring-ends password t heard.Stray may quiet true_of = absurd may.0

    -- ---- a payment or a reversal

    module _ (slot last : ℕ) (p : IsTransacting setting old.pt.poi placed number (Handle number apdu ∷ rest) past.commands old.talk) where
      -- the last command to the terminal
      command-is : (command : SentCommand) × In command past.commands × (command.place ≡ p.last.command.place) × (command.numbering.poi ≡ old.pt.poi)
      command-is =
          let found = found-in (λ (one : SentCommand). bytes_eq one.numbering.poi old.pt.poi) past.commands p.last.command p.last.last in
          (p.last.command, found.0, refl, bytes-are p.last.command.numbering.poi old.pt.poi found.1)

      -- the end of this command
      ends-are : (meant : Heard) (ending : Ending) → ending_with (Some p.last.command.place) meant ≡ Some ending → EndsIn (Serving (Transaction slot) last) meant ≡ heard_now past old.pt.poi ending ∷ []
      ends-are meant ending is =
          ap (λ (found : Option SentCommand). map (λ (one : Ending). heard_now past old.pt.poi one) (option_to_list (ending_with (option_map (λ (one : SentCommand). one.place) found) meant))) p.last.last
          ∙ ap (λ (found : Option Ending). map (λ (one : Ending). heard_now past old.pt.poi one) (option_to_list found)) is

      approved : (figures : Figures) → IsQuiet setting placed number rest → IsTrueEnd (book_of setting p.talking.before) (entries_of (reaction_after setting p.talking.before p.talking.apdu)) (heard.Approved figures)
          → Leaving (approved_row known number now slot last figures) (EndsIn (Serving (Transaction slot) last) (heard.Approved figures))
      approved figures quiet true_of =
          subst (Leaving (approved_row known number now slot last figures)) (sym (ends-are (heard.Approved figures) (Approved p.last.command.place figures) refl)) (by-test (ltb last figures.number))
        where
          sound : AreSound (heard_now past old.pt.poi (Approved p.last.command.place figures) ∷ [])
          sound = one-sound (Approved p.last.command.place figures) command-is
              (approved-true laws setting old.pt.poi placed past (plays.honest old.pt.poi) calm-now p.talking.before p.talking.apdu figures p.last true_of)

          by-test : (b : Bool) → Leaving (if b then resolves known number now (Ready figures.number) (approved_outcome slot figures known.moment) else terminal_becomes known number (at_rest now (Aside last figures.number)) [])
              (heard_now past old.pt.poi (Approved p.last.command.place figures) ∷ [])
          by-test true = resolved figures.number (approved_outcome slot figures known.moment) (heard_now past old.pt.poi (Approved p.last.command.place figures) ∷ []) sound quiet
          by-test false = rests (at_rest now (Aside last figures.number)) [] (heard_now past old.pt.poi (Approved p.last.command.place figures) ∷ []) refl (mild-none number) refl refl quiet sound

      declined : (result_code : ℕ) (trace : Option ℕ) → IsQuiet setting placed number rest
          → IsTrueEnd (book_of setting p.talking.before) (entries_of (reaction_after setting p.talking.before p.talking.apdu)) (heard.Declined result_code trace)
          → Leaving (declined_row known number now slot last result_code trace) (EndsIn (Serving (Transaction slot) last) (heard.Declined result_code trace))
      declined result_code trace quiet true_of =
          subst (Leaving (declined_row known number now slot last result_code trace)) (sym (ends-are (heard.Declined result_code trace) (Declined p.last.command.place trace) refl))
          (resolved (last_after_decline last trace) (declined_outcome slot result_code (was_stopped now.talk) known.moment) (heard_now past old.pt.poi (Declined p.last.command.place trace) ∷ [])
          (one-sound (Declined p.last.command.place trace) command-is
          (declined-true laws setting old.pt.poi placed past (plays.honest old.pt.poi) calm-now p.talking.before p.talking.apdu result_code trace p.last true_of))
          quiet)

      transacting-ends : (meant : Heard) → MayEnd Payment meant → IsQuiet setting placed number rest → IsTrueEnd (book_of setting p.talking.before) (entries_of (reaction_after setting p.talking.before p.talking.apdu)) meant
          → Leaving (serving_transaction known number now slot last meant) (EndsIn (Serving (Transaction slot) last) meant)
      transacting-ends (heard.Begun true) may quiet true_of = absurd may.0
      transacting-ends (heard.Begun false) may quiet true_of = absurd may.0
      transacting-ends (heard.Note intermediate_status) may quiet true_of = absurd may.0
      transacting-ends heard.Line may quiet true_of = absurd may.0
      transacting-ends heard.Block may quiet true_of = absurd may.0
      transacting-ends heard.Seen may quiet true_of = absurd may.0
      transacting-ends (heard.Approved figures) may quiet true_of = approved figures quiet true_of
      transacting-ends heard.Done may quiet true_of = absurd may.0
      transacting-ends (heard.Told reported approved result_code) may quiet true_of = absurd may.0
      transacting-ends (heard.Declined result_code reported) may quiet true_of = declined result_code reported quiet true_of
      transacting-ends heard.Unclear may quiet true_of = breaks [] none-sound
      transacting-ends heard.Stray may quiet true_of = absurd may.0

    -- ---- an end of day or a display

    -- it is over: its till gets the reply, and no command that may charge a card has ended
    replied : (last : ℕ) (reply : Option ReplyValue) → IsQuiet setting placed number rest → Leaving (terminal_becomes known number (done_with now (Ready last)) (reply_calls_to now.asker reply)) []
    replied last reply quiet = rests (done_with now (Ready last)) (reply_calls_to now.asker reply) [] refl (mild-replies number now.asker reply) refl (asks-no-more number now.asker reply) quiet none-sound

    -- so it is where its Settled is kept before
    settled : (last : ℕ) (the_settled : TheSettled) → IsQuiet setting placed number rest → Leaving (terminal_becomes known number (done_with now (Ready last)) (settle_calls known.kept now.asker the_settled)) []
    settled last the_settled quiet =
        rests (done_with now (Ready last)) (settle_calls known.kept now.asker the_settled) [] refl
        (mild-kept number (length known.kept) (Settled the_settled) (reply_calls_to now.asker (reply_to_settled known.kept the_settled)) (mild-replies number now.asker (reply_to_settled known.kept the_settled)))
        refl (asks-no-more number now.asker (reply_to_settled known.kept the_settled)) quiet none-sound

    day-ends : (last : ℕ) (header : Header) (period : Period) (meant : Heard) → MayEnd EndOfDayDialogue meant → IsQuiet setting placed number rest
        → Leaving (serving_day known number now last header meant) (EndsIn (Serving (EndOfDay header period) last) meant)
    day-ends last header period (heard.Begun stop) may quiet = absurd may.0
    day-ends last header period (heard.Note intermediate_status) may quiet = absurd may.0
    day-ends last header period heard.Line may quiet = absurd may.0
    day-ends last header period heard.Block may quiet = absurd may.0
    day-ends last header period heard.Seen may quiet = absurd may.0
    day-ends last header period (heard.Approved figures) may quiet = absurd may.0
    day-ends last header period heard.Done may quiet = settled last (settled_of hows.Acquirer header old.pt.currency known.moment) quiet
    day-ends last header period (heard.Told reported approved result_code) may quiet = absurd may.0
    day-ends last header period (heard.Declined result_code reported) may quiet = replied last _ quiet
    day-ends last header period heard.Unclear may quiet = breaks [] none-sound
    day-ends last header period heard.Stray may quiet = absurd may.0

    display-ends : (last : ℕ) (header : Header) (results : Option (List Shown)) (meant : Heard) → MayEnd DisplayDialogue meant → IsQuiet setting placed number rest
        → Leaving (serving_display known number now last header results meant) (EndsIn (Serving (Display header results) last) meant)
    display-ends last header results (heard.Begun stop) may quiet = absurd may.0
    display-ends last header results (heard.Note intermediate_status) may quiet = absurd may.0
    display-ends last header results heard.Line may quiet = absurd may.0
    display-ends last header results heard.Block may quiet = absurd may.0
    display-ends last header results heard.Seen may quiet = absurd may.0
    display-ends last header results (heard.Approved figures) may quiet = absurd may.0
    display-ends last header results heard.Done may quiet = replied last _ quiet
    display-ends last header results (heard.Told reported approved result_code) may quiet = absurd may.0
    display-ends last header results (heard.Declined result_code reported) may quiet = replied last _ quiet
    display-ends last header results heard.Unclear may quiet = breaks [] none-sound
    display-ends last header results heard.Stray may quiet = absurd may.0

    -- ---- in each standing

    -- the kind of a command's dialogue
    kind-of : (kind : DialogueKind) (asked : Command) (t : IsTalking setting placed number (Handle number apdu ∷ rest) old.talk asked) → dialogue_kind_of asked ≡ Some kind → (meant : Heard) → MayEnd t.dialogue.dialogue_kind meant → MayEnd kind meant
    kind-of kind asked t is meant may = subst (λ (one : DialogueKind). MayEnd one meant) (sym (same-kind kind t.dialogue.dialogue_kind (sym is ∙ t.begins))) may

    -- where the message is taken
    taken-leaves : (row : Row) (ends : List HeardEnd) → is_taken message ≡ true → Leaving row ends → Leaving (owing_where (is_taken message) known row) ends
    taken-leaves row ends is gives = subst (λ (b : Bool). Leaving (owing_where b known row) ends) (sym is) gives

    abbrev Said : (command : Command) → IsTalking setting placed number (Handle number apdu ∷ rest) old.talk command → Type 0
    Said command t = Talks laws setting placed number apdu rest message decodes old known.moment command t

    says : (command : Command) (t : IsTalking setting placed number (Handle number apdu ∷ rest) old.talk command) → IsAsked command → Said command t
    says command t asked = talks laws setting placed number apdu rest message decodes old known.moment command t asked

    registering-leaves : old.standing ≡ Registering → IsPeerIn setting old.pt.poi placed number (Handle number apdu ∷ rest) past.commands old.talk Registering
        → Leaving (owing_where (is_taken message) known (registering known number now (meaning_at old message))) (EndsIn Registering (meaning_at old message))
    registering-leaves is (password, config, currency, t) =
        let said = says (commands.Register password config currency) t tt in
        taken-leaves (registering known number now (meaning_at old message)) (EndsIn Registering (meaning_at old message)) said.taken
        (elim said.follows [
          | inl goes ↦ goes-on Registering (meaning_at old message) (registering known number now (meaning_at old message)) is goes.on (inl (registering-on known number now (meaning_at old message) goes.on)) (password, config, currency, goes.talking)
          | inr stops ↦ registering-ends (meaning_at old message) (kind-of Registration (commands.Register password config currency) t refl (meaning_at old message) stops.ends) stops.quiet
        ])

    enquiring-leaves : old.standing ≡ Enquiring → IsPeerIn setting old.pt.poi placed number (Handle number apdu ∷ rest) past.commands old.talk Enquiring
        → Leaving (owing_where (is_taken message) known (enquiring known number now (meaning_at old message))) (EndsIn Enquiring (meaning_at old message))
    enquiring-leaves is (password, t) =
        let said = says (commands.Enquire password) t tt in
        taken-leaves (enquiring known number now (meaning_at old message)) (EndsIn Enquiring (meaning_at old message)) said.taken
        (elim said.follows [
          | inl goes ↦ goes-on Enquiring (meaning_at old message) (enquiring known number now (meaning_at old message)) is goes.on (inl (enquiring-on known number now (meaning_at old message) goes.on)) (password, goes.talking)
          | inr stops ↦ enquiring-ends password t (meaning_at old message) (kind-of Enquiry (commands.Enquire password) t refl (meaning_at old message) stops.ends) stops.quiet stops.true_of
        ])

    transacting-leaves : (slot last : ℕ) → old.standing ≡ Serving (Transaction slot) last → IsTransacting setting old.pt.poi placed number (Handle number apdu ∷ rest) past.commands old.talk
        → Leaving (owing_where (is_taken message) known (serving_transaction known number now slot last (meaning_at old message))) (EndsIn (Serving (Transaction slot) last) (meaning_at old message))
    transacting-leaves slot last is p =
        let said = says p.command p.talking (charge-asked p.command p.charging) in
        taken-leaves (serving_transaction known number now slot last (meaning_at old message)) (EndsIn (Serving (Transaction slot) last) (meaning_at old message)) said.taken (by-follows said.follows)
      where
        by-follows : Goes laws setting placed number apdu rest message decodes old known.moment p.command p.talking ⊎ Stops laws setting placed number apdu rest message decodes old known.moment p.command p.talking
            → Leaving (serving_transaction known number now slot last (meaning_at old message)) (EndsIn (Serving (Transaction slot) last) (meaning_at old message))
        by-follows (inl goes) =
            let P : List ApduValue → Type 0 = λ before. IsLastServed setting old.pt.poi placed past.commands (entries_of (reaction_after setting before p.talking.apdu)) in
            let Q : ApduValue → Type 0 = λ one. IsLastServed setting old.pt.poi placed past.commands (entries_of (reaction_after setting goes.talking.before one)) in
            goes-on (Serving (Transaction slot) last) (meaning_at old message) (serving_transaction known number now slot last (meaning_at old message)) is goes.on (serving-on known number now slot last (meaning_at old message) goes.on)
            (record { command = p.command; charging = p.charging; talking = goes.talking; last = subst Q goes.apdu_is (subst P goes.before_is p.last) })
        by-follows (inr stops) =
            transacting-ends slot last p (meaning_at old message) (charge-ends p.command p.talking.dialogue.dialogue_kind (meaning_at old message) p.charging p.talking.begins stops.ends) stops.quiet stops.true_of

    -- where an end of day or a display is served, by what follows while it goes on and as it ends
    serving-leaves : (standing : Standing) (kind : DialogueKind) (follows : Heard → Row) → old.standing ≡ standing
        → (IsServing setting placed number rest now.talk kind → IsPeerIn setting old.pt.poi placed number rest past.commands now.talk standing)
        → ((meant : Heard) → GoesOn meant → (follows meant ≡ staying known number now) ⊎ (follows meant ≡ stops known number now))
        → ((meant : Heard) → MayEnd kind meant → IsQuiet setting placed number rest → Leaving (follows meant) (EndsIn standing meant)) → IsServing setting placed number (Handle number apdu ∷ rest) old.talk kind
        → Leaving (owing_where (is_taken message) known (follows (meaning_at old message))) (EndsIn standing (meaning_at old message))
    serving-leaves standing kind follows is peer on ends it =
        let said = says it.command it.talking (kind-asked it.command kind it.kind_is) in
        taken-leaves (follows (meaning_at old message)) (EndsIn standing (meaning_at old message)) said.taken
        (elim said.follows [
          | inl goes ↦ goes-on standing (meaning_at old message) (follows (meaning_at old message)) is goes.on (on (meaning_at old message) goes.on) (peer (record { command = it.command; kind_is = it.kind_is; talking = goes.talking }))
          | inr stops ↦ ends (meaning_at old message) (kind-of kind it.command it.talking it.kind_is (meaning_at old message) stops.ends) stops.quiet
        ])

    -- nothing is left to be handled where the terminal is quiet
    never-quiet : {A : Type 0} → IsQuiet setting placed number (Handle number apdu ∷ rest) → A
    never-quiet quiet = let first = first-left setting placed number apdu rest [] quiet.none_left in let e = first.left_is in absurd cc

    standing-leaves : (standing : Standing) → old.standing ≡ standing → is_linked standing ≡ true
        → IsPeerIn setting old.pt.poi placed number (Handle number apdu ∷ rest) past.commands old.talk standing
        → Leaving (owing_where (is_taken message) known (consequence known number now (meaning_at old message) standing)) (EndsIn standing (meaning_at old message))
    standing-leaves (Unlinked due) is links peer = no-true (sym links)
    standing-leaves Registering is links peer = registering-leaves is peer
    standing-leaves Enquiring is links peer = enquiring-leaves is peer
    standing-leaves (Ready last) is links peer = never-quiet peer
    standing-leaves (Serving (Transaction slot) last) is links peer = transacting-leaves slot last is peer
    standing-leaves (Serving (EndOfDay header period) last) is links peer =
        serving-leaves (Serving (EndOfDay header period) last) EndOfDayDialogue (λ meant. serving_day known number now last header meant) is (λ serves. serves) (day-on known number now last header) (day-ends last header period) peer
    standing-leaves (Serving (Display header results) last) is links peer =
        serving-leaves (Serving (Display header results) last) DisplayDialogue (λ meant. serving_display known number now last header results meant) is (λ serves. serves) (display-on known number now last header results) (display-ends last header results) peer
    standing-leaves (Aside before reported) is links peer = never-quiet peer

    -- what a played terminal says isn't shown or printed
    spoken-unshown : (asked : Command) (t : IsTalking setting placed number (Handle number apdu ∷ rest) old.talk asked) → IsAsked asked → IsShown (meaning_at old message) → ⊥
    spoken-unshown asked t is is_shown =
        let said = says asked t is in
        elim said.follows [
          | inl goes ↦ on-unshown (meaning_at old message) goes.on is_shown
          | inr stops ↦ end-unshown (meaning_at old message) stops.ends.1 is_shown
        ]

    never-shown : (standing : Standing) → is_linked standing ≡ true → IsPeerIn setting old.pt.poi placed number (Handle number apdu ∷ rest) past.commands old.talk standing → IsShown (meaning_at old message) → ⊥
    never-shown (Unlinked due) links peer = no-true (sym links)
    never-shown Registering links (password, config, currency, t) = spoken-unshown (commands.Register password config currency) t tt
    never-shown Enquiring links (password, t) = spoken-unshown (commands.Enquire password) t tt
    never-shown (Ready last) links peer = never-quiet peer
    never-shown (Serving (Transaction slot) last) links peer = spoken-unshown peer.command peer.talking (charge-asked peer.command peer.charging)
    never-shown (Serving (EndOfDay header period) last) links peer = spoken-unshown peer.command peer.talking (kind-asked peer.command EndOfDayDialogue peer.kind_is)
    never-shown (Serving (Display header results) last) links peer = spoken-unshown peer.command peer.talking (kind-asked peer.command DisplayDialogue peer.kind_is)
    never-shown (Aside before reported) links peer = never-quiet peer

    -- what a message leaves
    message-leaves : Leaving (handle_message known number old message) (ends_by past message old)
    message-leaves =
        subst (λ (row : Row). Leaving (owing_where (is_taken message) known row) (ends_by past message old))
        (sym (taken-plain known number now (meaning_at old message) message (never-shown old.standing linked (peer-was number old here linked))))
        (standing-leaves old.standing refl linked (peer-was number old here linked))

  -- ---- an APDU

  -- one that is no message comes of no played terminal
  fault-leaves : (fault : PtFault) → decode_pt_message apdu ≡ Err fault → (standing : Standing) (setting : Setting) (poi : List ℕ) (placed : List PlacedExchange) (talk : Option TalkFacts)
      → IsPeerIn setting poi placed number (Handle number apdu ∷ rest) past.commands talk standing → IsPeerIn setting poi placed number rest past.commands talk standing
  fault-leaves fault fails standing setting poi placed talk peer = by-standing standing peer
    where
      never : {A : Type 0} (left : List MessageValue) → IsLeft setting placed number (Handle number apdu ∷ rest) left → A
      never left it =
          let first = first-left setting placed number apdu rest left it in
          let e : (let r : Result MessageValue PtFault = Ok first.message in r) ≡ Err fault = sym first.decodes ∙ fails in
          absurd cc

      by-standing : (one : Standing) → IsPeerIn setting poi placed number (Handle number apdu ∷ rest) past.commands talk one → IsPeerIn setting poi placed number rest past.commands talk one
      by-standing (Unlinked due) it = tt
      by-standing Registering (password, config, currency, t) = never t.left t.is_left
      by-standing Enquiring (password, t) = never t.left t.is_left
      by-standing (Ready last) it = never [] it.none_left
      by-standing (Serving (Transaction slot) last) it = never it.talking.left it.talking.is_left
      by-standing (Serving (EndOfDay header period) last) it = never it.talking.left it.talking.is_left
      by-standing (Serving (Display header results) last) it = never it.talking.left it.talking.is_left
      by-standing (Aside before reported) it = never [] it.none_left

  -- what the item leaves
  apdu-leaves : (k : HasSetup v.scene) → IsInOrder (known_in v.scene k.setup) → (decoded : Result MessageValue PtFault) → decode_pt_message apdu ≡ decoded
      → Leaves (handle_decoded (known_in v.scene k.setup) number decoded) (occasion_decoded number decoded) (ends_of v.scene past (occasion_decoded number decoded))
  apdu-leaves k order (Err fault) fails =
      nothing-leaves OfNothing (λ terminal found linked. fault-leaves fault fails terminal.standing (settings terminal.pt.poi) terminal.pt.poi (exchanges terminal.pt.poi) terminal.talk (peer-was number terminal found linked))
  apdu-leaves k order (Ok message) decodes = by-found (slice_get v.scene.core.terminals number) refl
    where
      by-linked : (old : Terminal) → slice_get v.scene.core.terminals number ≡ Some old → (b : Bool) → is_linked old.standing ≡ b
          → Leaves (owing_where b (known_in v.scene k.setup) (handle_message (known_in v.scene k.setup) number old message)) (OfMessage number message) (ends_by past message old)
      by-linked old here true linked = message-leaves k order message decodes old here linked
      by-linked old here false unlinked =
          subst (Leaves (becoming v.scene.core []) (OfMessage number message)) (sym (none-by old here unlinked))
          (nothing-leaves (OfMessage number message) (λ terminal found linked. no-true (sym linked ∙ sym (ap (λ (t : Terminal). is_linked t.standing) (same-some old terminal (sym here ∙ found))) ∙ unlinked)))
        where
          by-standing : (one : Terminal) → (standing : Standing) → one.standing ≡ standing → is_linked standing ≡ false → slice_get v.scene.core.terminals number ≡ Some one → one.talk ≡ None
          by-standing one (Unlinked due) is off found = (plays.unlinked number one due found is).0
          by-standing one Registering is off found = no-true off
          by-standing one Enquiring is off found = no-true off
          by-standing one (Ready last) is off found = no-true off
          by-standing one (Serving service last) is off found = no-true off
          by-standing one (Aside before reported) is off found = no-true off

          none-by : (one : Terminal) → slice_get v.scene.core.terminals number ≡ Some one → is_linked one.standing ≡ false → ends_by past message one ≡ []
          none-by one found off =
              let talk : one.talk ≡ None = by-standing one one.standing refl off found in
              ap (λ (o : Option TalkFacts). map (λ (ending : Ending). heard_now past one.pt.poi ending)
              (option_to_list (ending_with (option_and_then (command_served past one.pt.poi) (served_in one.standing)) (meaning_for o (taken_as one.awaited message))))) talk

      by-found : (found : Option Terminal) → slice_get v.scene.core.terminals number ≡ found
          → Leaves (of_terminal (known_in v.scene k.setup) (λ terminal. owing_where (is_linked terminal.standing) (known_in v.scene k.setup) (handle_message (known_in v.scene k.setup) number terminal message)) found) (OfMessage number message)
          (flat_map (ends_by past message) (option_to_list found))
      by-found None none = nothing-leaves (OfMessage number message) (λ terminal found linked. let e : None ≡ Some terminal = sym none ∙ found in absurd cc)
      by-found (Some old) here =
          subst (Leaves (owing_where (is_linked old.standing) (known_in v.scene k.setup) (handle_message (known_in v.scene k.setup) number old message)) (OfMessage number message)) (sym (append-nil (ends_by past message old)))
          (by-linked old here (is_linked old.standing) refl)

-- what a terminal says keeps what holds along the course
pub handle-plays : (laws : PeerLaws) (number : ℕ) (apdu : ApduValue) → PlaysItem (Handle number apdu)
handle-plays laws number apdu settings log v past exchanges rest ordered next b items_are plays =
    let clear : is_broken v.scene.stage ≡ false = clear-where v.scene.stage is_round refl b.idle.round in
    let k = round-setup v ordered.agrees.run b.idle.round in
    let order : IsInOrder (known_in v.scene k.setup) = between-items log v ordered k (round-runs v.scene.stage b.idle.round) b.idle.calls in
    let gives = apdu-leaves laws settings v past exchanges number apdu rest clear items_are b.idle.calls plays k order (decode_pt_message apdu) refl in
    let row : Plays settings (begun v.scene (row_at v.scene (Handle number apdu)) rest) (record past { occasion = occasion_decoded number (decode_pt_message apdu); ends = ends_of v.scene past (occasion_decoded number (decode_pt_message apdu)) ++ past.ends }) exchanges =
    subst (λ (r : Row). Plays settings (begun v.scene r rest) (record past { occasion = occasion_decoded number (decode_pt_message apdu); ends = ends_of v.scene past (occasion_decoded number (decode_pt_message apdu)) ++ past.ends }) exchanges)
    (sym (row-is v.scene k (Handle number apdu))) gives in
    subst (λ (items : List RoundItem). Plays settings (begin v.scene items) (record past { occasion = first_occasion v.scene.core items; ends = ends_of v.scene past (first_occasion v.scene.core items) ++ past.ends }) exchanges) (sym items_are) row
