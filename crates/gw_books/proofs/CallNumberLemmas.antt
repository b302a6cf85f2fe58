-- A call that isn't on the disk is made, or it fails: what holds of trace numbers holds on. A command is sent, and a terminal is linked or isn't.
use Rattle.std.proofs.Common.{◌≡◌, ◌≤◌, ◌<◌, ◌∙◌, ℕ, ◌+◌, eqb, Bool, true, false, List, [], ◌∷◌, ◌++◌, refl, sym, ap, subst, arith, inl, inr, append-nil, length}
use Rattle.std.proofs.lemmas.Bool.{eqb-false, eqb-true}
use Rattle.std.proofs.lemmas.Bool.Decides.{nat_tests}
use Rattle.std.specs.Prelude.{◌⊎◌, ◌==◌, ◌&&◌, ◌||◌, bytes_eq, slice_get, Option, Some, None, is_some}
use Rattle.std.specs.List.{list_any}
use Rattle.gw_bytes.specs.Bytes.{IsPrefix}
use Rattle.gw_site.specs.declared.turn.Turn.{Turn}
use Rattle.gw_site.specs.declared.turn.Turn.TheVariants.{Linked, LinkFailed, SentTill, SentPt, CutTill, CutPt}
use Rattle.jrn_record.specs.declared.records.Intent.{Intent as TheIntent}
use Rattle.jrn_record.specs.declared.records.Record.{Record}
use Rattle.gw_ledger.specs.Accounts.{open_slot, last_number_of}
use Rattle.gw_ledger.specs.Fold.{AreFolded}
use Rattle.gw_ledger.specs.Keys.{intent_key, slot_of}
use Rattle.gw_ledger.specs.Slots.{intent_at}
use Rattle.gw_owes.specs.declared.terminal.Service.TheVariants.{Transaction, EndOfDay, Display}
use Rattle.gw_owes.specs.declared.terminal.Standing.{Standing}
use Rattle.gw_owes.specs.declared.terminal.Standing.TheVariants.{Unlinked, Registering, Enquiring, Ready, Serving, Aside}
use Rattle.gw_owes.specs.declared.terminal.Terminal.{Terminal}
use Rattle.gw_owes.specs.Calls.{Sending, OwedCall, SendTill, SendPt, LinkPt, CutTill as OwedCutTill, CutPt as OwedCutPt, sending_bytes}
use Rattle.gw_owes.specs.RecordLaws.{AreRecordsOf, IsServedOpen}
use Rattle.gw_owes.specs.Reply.{ReplyValue}
use Rattle.gw_owes.specs.Row.{Known, Row}
use Rattle.gw_owes.specs.Terminals.{terminal_at, of_terminal, registers, link_made, unlinked_terminal, unlinks, link_lost, reply_calls_to, reply_to_lost}
use Rattle.gw_owes.proofs.RecordLemmas.{LedgerLaws, open-parts}
use Rattle.gw_owes.proofs.SetLemmas.{same-some}
use Rattle.gw_rules.specs.JournalFiles.{spare_disk}
use Rattle.gw_rules.specs.Lawful.{first_call}
use Rattle.gw_rules.specs.LedgerRules.{ledger_rules}
use Rattle.gw_rules.specs.RecordOrder.{records_coming}
use Rattle.gw_rules.specs.Scene.{known_in, link_made_at, link_lost_at}
use Rattle.gw_rules.specs.View.{View, Make, after_turn, by_row, called, later}
use Rattle.gw_rules.proofs.KeptLawLemmas.{holds}
use Rattle.gw_rules.proofs.LinkedLemmas.{call-setup}
use Rattle.gw_rules.proofs.RecordOrderLemmas.{Ordered}
use Rattle.gw_rules.proofs.RecordRowLemmas.{kept-folds, lost-brings-none, made-brings-none}
use Rattle.gw_rules.proofs.SetupLemmas.{HasSetup}
use Rattle.gw_rules.proofs.SpareLemmas.{lost-at-spares, made-at-spares}
use Rattle.gw_rules.proofs.StageLemmas.{no-true}
use Rattle.gw_rules.proofs.TranscriptLogLemmas.{lost-at, made-at}
use Rattle.gw_books.specs.Kinds.{BookedKind, kind_of_command}
use Rattle.gw_books.specs.Books.{BookedEntry}
use Rattle.gw_books.specs.Past.{MadeLink, SentCommand, Past, past_after, with_sent_command, open_key, Numbering, numbering_at, numbering_of, numbering_of_number, with_sent_bytes}
use Rattle.gw_books.proofs.BookLemmas.{of-sent-less, ready-later, records-later, booked-later}
use Rattle.gw_books.proofs.CallHoldsLemmas.{apart-pois, command_sent, forgotten, numbering-there, served-key, to-be-asked, called_with}
use Rattle.gw_books.proofs.Holding.{Holds, charge_owed, is_handle, sending_charges, AreCallsSound, IsToBeAsked}
use Rattle.gw_books.proofs.KeyedLemmas.{sent-below}
use Rattle.gw_books.proofs.LastCallLemmas.{IsLast, is-last, same-coming, last-cuts}
use Rattle.gw_books.proofs.ListLemmas.{In, bytes-itself}
use Rattle.gw_books.proofs.Numbering.{AreRecordsNumbered, AreStandingsNumbered, HasEntryBeforeAll, IsEntryFrom, IsIntentNumbered, IsLinkedSince, IsOfSent, IsQuiet, IsSentFrom, IsStandingNumbered, Numbered, TurnNumbers, handles_after_due, link_owed, IsReadyNumber, WasSentAt}
use Rattle.gw_books.proofs.NumberStepLemmas.{standing-stays, standings-set, stays-numbered}
use Rattle.gw_books.proofs.RecordNumberLemmas.{open-is-last, open-numbering}
use Rattle.gw_books.proofs.RecordMoreLemmas.{own-slot}
use Rattle.gw_books.proofs.SentCommandLemmas.{charging}

-- ---- calls that aren't on the disk

own-number : (number : ℕ) → eqb number number ≡ true
own-number number = grind (arith, nat_tests)

-- such a call was made, or has failed: no command was sent with it and no link made
call-numbered : (v w : View) (past now : Past) (book : List BookedEntry) → Numbered v past book → now.commands ≡ past.commands → now.links ≡ past.links → now.place ≡ past.place + 1 → now.heard ≡ past.heard
    → link_owed w.calls ≡ false → ((number : ℕ) → charge_owed number w.calls ≡ false) → w.items ≡ v.items → w.scene.kept ≡ v.scene.kept → records_coming w ≡ records_coming v → AreStandingsNumbered past book w.scene.core
    → Numbered w now book
call-numbered v w past now book n commands links place heard unlinked uncharged items kept coming standings = stays-numbered v w past now book n (record {
  commands = commands;
  links = links;
  place = place;
  kept = subst (λ (records : List Record). AreRecordsNumbered book past.commands past.place records) (sym kept) n.kept;
  coming = subst (λ (records : List Record). AreRecordsNumbered book past.commands past.place records) (sym coming) n.coming;
  standings = standings;
  asked = λ number terminal found owed. no-true (sym (uncharged number) ∙ owed);
  ordered = ap handles_after_due items ∙ n.ordered;
  linking = λ owed. no-true (sym unlinked ∙ owed);
  linked = λ handles link within. subst (λ (hearing : ℕ). link.place ≤ hearing) (sym heard) (n.linked (ap (list_any is_handle) (sym items) ∙ handles) link within);
})

pub sent-till-numbers : (till : ℕ) (bytes : List ℕ) (sent : Bool) → TurnNumbers (SentTill till bytes sent)
sent-till-numbers till bytes true log v past book o ok h n =
    let last : IsLast v (SendTill till ok.0) = is-last log v (SendTill till ok.0) o ok.1 refl (λ more. refl) in
    let w : View = after_turn v (SentTill till bytes true) in
    call-numbered v w past (past_after v past (Make (SentTill till bytes true))) book n refl refl refl refl (ap link_owed last.none_later) (λ number. ap (charge_owed number) last.none_later) refl refl
    (same-coming v w (SendTill till ok.0) last (ap spare_disk last.none_later) refl refl) n.standings
sent-till-numbers till bytes false log v past book o ok h n =
    let last : IsLast v (SendTill till ok.0) = is-last log v (SendTill till ok.0) o ok.1 refl (λ more. refl) in
    let w : View = after_turn v (SentTill till bytes false) in
    call-numbered v w past (past_after v past (Make (SentTill till bytes false))) book n refl refl refl refl refl (λ number. refl) refl refl (same-coming v w (SendTill till ok.0) last refl refl refl) n.standings

pub cut-till-numbers : (till : ℕ) → TurnNumbers (CutTill till)
cut-till-numbers till log v past book o ok h n =
    let last : IsLast v (OwedCutTill till) = is-last log v (OwedCutTill till) o ok refl (λ more. refl) in
    let w : View = after_turn v (CutTill till) in
    call-numbered v w past (past_after v past (Make (CutTill till))) book n refl refl refl refl (ap link_owed last.none_later) (λ number. ap (charge_owed number) last.none_later) refl refl
    (same-coming v w (OwedCutTill till) last (ap spare_disk last.none_later) refl refl)
    (λ number terminal found.
    let old = forgotten v.scene.core till number terminal found in
    subst (λ (t : Terminal). IsStandingNumbered past.links past.commands past.place book (numbering_at t.pt) t.standing) old.2 (n.standings number old.0 old.1))

-- ---- a terminal's link

-- one that has lost its link
lost-standings : (past : Past) (book : List BookedEntry) (known : Known) (number : ℕ) → AreStandingsNumbered past book known.core → AreStandingsNumbered past book (link_lost known number).core
lost-standings past book known number all = by_found (terminal_at known number) refl
  where
    by_found : (found : Option Terminal) → terminal_at known number ≡ found → AreStandingsNumbered past book (of_terminal known (unlinks known number) found).core
    by_found None is = all
    by_found (Some terminal) is = standings-set past book known.core number terminal (unlinked_terminal terminal known.moment) is (λ other one apart found. all other one found) tt

-- the calls that a lost link owes are replies
replies-unlinked : (asker : Option ℕ) (reply : Option ReplyValue) → link_owed (reply_calls_to asker reply) ≡ false
replies-unlinked None reply = refl
replies-unlinked (Some till) None = refl
replies-unlinked (Some till) (Some reply) = refl

replies-uncharged : (number : ℕ) (asker : Option ℕ) (reply : Option ReplyValue) → charge_owed number (reply_calls_to asker reply) ≡ false
replies-uncharged number None reply = refl
replies-uncharged number (Some till) None = refl
replies-uncharged number (Some till) (Some reply) = refl

-- what a row of a link owes
record OwesNoLink (row : Row) : Type 0 where
  unlinked : link_owed row.calls ≡ false
  uncharged : (number : ℕ) → charge_owed number row.calls ≡ false

lost-owes : (known : Known) (number : ℕ) → OwesNoLink (link_lost known number)
lost-owes known number = by_found (terminal_at known number)
  where
    by_found : (found : Option Terminal) → OwesNoLink (of_terminal known (unlinks known number) found)
    by_found None = record { unlinked = refl; uncharged = λ other. refl }
    by_found (Some terminal) = record { unlinked = replies-unlinked terminal.asker (reply_to_lost terminal.standing); uncharged = λ other. replies-uncharged other terminal.asker (reply_to_lost terminal.standing) }

made-owes : (known : Known) (number : ℕ) → OwesNoLink (link_made known number)
made-owes known number = by_found (terminal_at known number)
  where
    by_found : (found : Option Terminal) → OwesNoLink (of_terminal known (registers known number) found)
    by_found None = record { unlinked = refl; uncharged = λ other. refl }
    by_found (Some terminal) = record { unlinked = refl; uncharged = λ other. by_own (number == other) }
      where
        by_own : (own : Bool) → ((own && false) || false) ≡ false
        by_own true = refl
        by_own false = refl

-- an event of a link by which none is made
unlink-numbered : (v : View) (past : Past) (book : List BookedEntry) (turn : Turn) (pt : ℕ) (call : OwedCall) (calls : List OwedCall) → HasSetup v.scene → IsLast v call → Numbered v past book → calls ≡ []
    → Numbered (by_row v (called v.scene turn) (link_lost_at v.scene pt) calls) (record past { place = past.place + 1 }) book
unlink-numbered v past book turn pt call calls k last n none =
    call-numbered v w past (record past { place = past.place + 1 }) book n refl refl refl refl (ap link_owed same ∙ owes.unlinked) (λ number. ap (charge_owed number) same ∙ owes.uncharged number)
    (ap (λ items. items ++ v.items) (lost-brings-none v.scene pt)) refl (same-coming v w call last (ap spare_disk same ∙ lost-at-spares v.scene pt) refl refl)
    (subst (λ (r : Row). AreStandingsNumbered past book r.core) (sym row_is) (lost-standings past book (known_in v.scene k.setup) pt n.standings))
  where
    row : Row
    row = link_lost_at v.scene pt

    w : View
    w = by_row v (called v.scene turn) row calls

    row_is : row ≡ link_lost (known_in v.scene k.setup) pt
    row_is = lost-at v.scene pt k.setup k.setup_is

    same : (row.calls ++ calls) ≡ row.calls
    same = ap (λ l. row.calls ++ l) none ∙ append-nil row.calls

    owes : OwesNoLink row
    owes = subst OwesNoLink (sym row_is) (lost-owes (known_in v.scene k.setup) pt)

pub link-failed-numbers : (pt : ℕ) → TurnNumbers (LinkFailed pt)
link-failed-numbers pt log v past book o ok h n =
    unlink-numbered v past book (LinkFailed pt) pt (LinkPt pt) [] (call-setup v (LinkPt pt) o.agrees.run ok) (is-last log v (LinkPt pt) o ok refl (λ more. refl)) n refl

pub cut-pt-numbers : (pt : ℕ) → TurnNumbers (CutPt pt)
cut-pt-numbers pt log v past book o ok h n =
    let last : IsLast v (OwedCutPt pt) = is-last log v (OwedCutPt pt) o ok refl (λ more. refl) in
    let u : Numbered (after_turn v (CutPt pt)) (record past { place = past.place + 1 }) book = unlink-numbered v past book (CutPt pt) pt (OwedCutPt pt) (later v.calls) (call-setup v (OwedCutPt pt) o.agrees.run ok) last n last.none_later in
    record { kept = u.kept; coming = u.coming; standings = λ number terminal found. standing-stays (record past { place = past.place + 1 }) (past_after v past (Make (CutPt pt))) book (numbering_at terminal.pt) terminal.standing refl refl (omega arith) (u.standings number terminal found); asked = u.asked; made = u.made; ordered = u.ordered; linking = u.linking; linked = u.linked }

-- with one more link each standing is as it was
standing-linked : (past : Past) (book : List BookedEntry) (link : MadeLink) (numbering : Numbering) (standing : Standing) → IsStandingNumbered past.links past.commands past.place book numbering standing
    → IsStandingNumbered (link ∷ past.links) past.commands past.place book numbering standing
standing-linked past book link numbering (Unlinked due) is = tt
standing-linked past book link numbering Registering is = record { link = is.link; made = inr is.made; numbering_is = is.numbering_is; later = is.later }
standing-linked past book link numbering Enquiring is = record { link = is.link; made = inr is.made; numbering_is = is.numbering_is; later = is.later }
standing-linked past book link numbering (Ready last) is = is
standing-linked past book link numbering (Serving service last) is = is
standing-linked past book link numbering (Aside before reported) is = is

-- a terminal is linked: it registers, after each command to it
pub linked-numbers : (pt : ℕ) → TurnNumbers (Linked pt)
linked-numbers pt log v past book o ok h n = record {
  kept = records-stay v.scene.kept n.kept;
  coming = subst (λ (records : List Record). AreRecordsNumbered book past.commands (past.place + 1) records) (sym coming) (records-stay (records_coming v) n.coming);
  standings = λ number terminal found.
      standing-stays linked_past (past_after v past (Make (Linked pt))) book (numbering_at terminal.pt) terminal.standing refl refl (omega arith) (subst (λ (r : Row). AreStandingsNumbered linked_past book r.core) (sym row_is) made_standings number terminal found);
  asked = λ number terminal found owed. no-true (sym (ap (charge_owed number) same ∙ owes.uncharged number) ∙ owed);
  made = made;
  ordered = ap handles_after_due items ∙ n.ordered;
  linking = λ owed. no-true (sym (ap link_owed same ∙ owes.unlinked) ∙ owed);
  linked = λ handles. no-true (sym (n.linking (ap link_owed last.calls_are)) ∙ ap (list_any is_handle) (sym items) ∙ handles);
}
  where
    call : OwedCall
    call = LinkPt pt

    last : IsLast v (LinkPt pt)
    last = is-last log v (LinkPt pt) o ok refl (λ more. refl)

    k : HasSetup v.scene
    k = call-setup v (LinkPt pt) o.agrees.run ok

    row : Row
    row = link_made_at v.scene pt

    w : View
    w = after_turn v (Linked pt)

    row_is : row ≡ link_made (known_in v.scene k.setup) pt
    row_is = made-at v.scene pt k.setup k.setup_is

    same : (row.calls ++ later v.calls) ≡ row.calls
    same = ap (λ l. row.calls ++ l) last.none_later ∙ append-nil row.calls

    items : w.items ≡ v.items
    items = ap (λ items. items ++ v.items) (made-brings-none v.scene pt)

    coming : records_coming w ≡ records_coming v
    coming = same-coming v w (LinkPt pt) last (ap spare_disk same ∙ made-at-spares v.scene pt) refl refl

    owes : OwesNoLink row
    owes = subst OwesNoLink (sym row_is) (made-owes (known_in v.scene k.setup) pt)

    new : MadeLink
    new = record { place = past.place; numbering = numbering_of_number v.scene pt; records = length v.scene.kept }

    linked_past : Past
    linked_past = record past { links = new ∷ past.links; lasting = new ∷ past.lasting }

    records-stay : (records : List Record) → AreRecordsNumbered book past.commands past.place records → AreRecordsNumbered book past.commands (past.place + 1) records
    records-stay records is = records-later past.place (past.place + 1) (omega arith) book past.commands records is

    made : (link : MadeLink) → In link (new ∷ past.links) → link.place < past.place + 1
    made link (inl is) = omega (arith, ap (λ (one : MadeLink). one.place) is)
    made link (inr within) = let before = n.made link within in omega (arith, before)

    made_standings : AreStandingsNumbered linked_past book (link_made (known_in v.scene k.setup) pt).core
    made_standings = by_found (terminal_at (known_in v.scene k.setup) pt) refl
      where
        others : (other : ℕ) (terminal : Terminal) → slice_get v.scene.core.terminals other ≡ Some terminal → IsStandingNumbered linked_past.links linked_past.commands linked_past.place book (numbering_at terminal.pt) terminal.standing
        others other terminal found = standing-linked past book new (numbering_at terminal.pt) terminal.standing (n.standings other terminal found)

        by_found : (found : Option Terminal) → terminal_at (known_in v.scene k.setup) pt ≡ found → AreStandingsNumbered linked_past book (of_terminal (known_in v.scene k.setup) (registers (known_in v.scene k.setup) pt) found).core
        by_found None is = others
        by_found (Some terminal) is = standings-set linked_past book v.scene.core pt terminal _ is (λ other one apart found. others other one found) (record {
          link = new;
          made = inl refl;
          numbering_is = numbering-there v.scene pt terminal is;
          later = λ command sent same. sent-below past.place past.commands h.commands.falling command sent;
        })

-- ---- a command that may charge a card is sent

-- the entry is that of the command just sent, or of one before
sent-splits : (sent : SentCommand) (commands : List SentCommand) (entry : BookedEntry) → IsOfSent (sent ∷ commands) entry → ((entry.cause ≡ Some sent.place) × (sent.numbering ≡ entry.numbering)) ⊎ IsOfSent commands entry
sent-splits sent commands entry of = by_cause entry.cause refl
  where
    by_cause : (cause : Option ℕ) → entry.cause ≡ cause → ((entry.cause ≡ Some sent.place) × (sent.numbering ≡ entry.numbering)) ⊎ IsOfSent commands entry
    by_cause None is = inr (λ place other. absurd (let n : None ≡ Some place = sym is ∙ other in cc))
    by_cause (Some cause) is = by_sent (of cause is)
      where
        by_where : (was : WasSentAt (sent ∷ commands) cause entry.numbering) → In was.command (sent ∷ commands) → ((entry.cause ≡ Some sent.place) × (sent.numbering ≡ entry.numbering)) ⊎ IsOfSent commands entry
        by_where was (inl same) =
            inl (is ∙ ap (λ (place : ℕ). Some place) (sym was.place_is ∙ ap (λ (one : SentCommand). one.place) same), ap (λ (one : SentCommand). one.numbering) (sym same) ∙ was.numbering_is)
        by_where was (inr within) = inr (λ place other.
            let here : cause ≡ place = same-some cause place (sym is ∙ other) in
            subst (λ (p : ℕ). WasSentAt commands p entry.numbering) here (record { command = was.command; sent = within; place_is = was.place_is; numbering_is = was.numbering_is }))

        by_sent : WasSentAt (sent ∷ commands) cause entry.numbering → ((entry.cause ≡ Some sent.place) × (sent.numbering ≡ entry.numbering)) ⊎ IsOfSent commands entry
        by_sent was = by_where was was.sent

-- the link of a terminal with another POIID was made after each command to it
linked-apart : (past : Past) (sent : SentCommand) (numbering : Numbering) → (sent.numbering.poi ≡ numbering.poi → ⊥) → IsLinkedSince past.links past.commands numbering → IsLinkedSince past.links (sent ∷ past.commands) numbering
linked-apart past sent numbering apart is = record { link = is.link; made = is.made; numbering_is = is.numbering_is; later = later_than }
  where
    later_than : (command : SentCommand) → In command (sent ∷ past.commands) → command.numbering ≡ numbering → command.place < is.link.place
    later_than command (inl same) here = absurd (apart (ap (λ (one : SentCommand). one.numbering.poi) (sym same) ∙ ap (λ (n : Numbering). n.poi) here))
    later_than command (inr within) here = is.later command within here

-- the number of a terminal with another POIID that is ready
ready-sent : (past now : Past) (book : List BookedEntry) (sent : SentCommand) (numbering : Numbering) (last : ℕ) → now.commands ≡ sent ∷ past.commands → past.place ≤ now.place → (sent.numbering.poi ≡ numbering.poi → ⊥)
    → IsReadyNumber book past.commands numbering past.place last → IsReadyNumber book now.commands numbering now.place last
ready-sent past now book sent numbering last commands places apart is = subst (λ (all : List SentCommand). IsReadyNumber book all numbering now.place last) (sym commands) (ready-later past.place now.place places book (sent ∷ past.commands) numbering last (record {
  booked = is.booked;
  greatest = λ entry within same of. is.greatest entry within same (of-sent-less sent past.commands entry (λ here. apart (ap (λ (n : Numbering). n.poi) (here ∙ same))) of);
  quiet = λ entry within same of. is.quiet entry within same (of-sent-less sent past.commands entry (λ here. apart (ap (λ (n : Numbering). n.poi) (here ∙ same))) of);
}))

-- the standing of a terminal with another POIID
standing-sent : (past now : Past) (book : List BookedEntry) (sent : SentCommand) (numbering : Numbering) (standing : Standing) → now.commands ≡ sent ∷ past.commands → now.links ≡ past.links → past.place ≤ now.place → (sent.numbering.poi ≡ numbering.poi → ⊥)
    → IsStandingNumbered past.links past.commands past.place book numbering standing → IsStandingNumbered now.links now.commands now.place book numbering standing
standing-sent past now book sent numbering (Unlinked due) commands links places apart is = tt
standing-sent past now book sent numbering Registering commands links places apart is =
    subst (λ (all : List MadeLink). IsLinkedSince all now.commands numbering) (sym links) (subst (λ (all : List SentCommand). IsLinkedSince past.links all numbering) (sym commands) (linked-apart past sent numbering apart is))
standing-sent past now book sent numbering Enquiring commands links places apart is =
    subst (λ (all : List MadeLink). IsLinkedSince all now.commands numbering) (sym links) (subst (λ (all : List SentCommand). IsLinkedSince past.links all numbering) (sym commands) (linked-apart past sent numbering apart is))
standing-sent past now book sent numbering (Ready last) commands links places apart is = ready-sent past now book sent numbering last commands places apart is
standing-sent past now book sent numbering (Serving (Transaction slot) last) commands links places apart is = tt
standing-sent past now book sent numbering (Serving (EndOfDay header period) last) commands links places apart is = ready-sent past now book sent numbering last commands places apart is
standing-sent past now book sent numbering (Serving (Display header results) last) commands links places apart is = ready-sent past now book sent numbering last commands places apart is
standing-sent past now book sent numbering (Aside before reported) commands links places apart is = is

-- an Intent, once a command was sent for the key that is open at its POIID, which was quiet: one of the Intent's terminal is for its key, or for that of a later one
intent-sent : (book : List BookedEntry) (sent : SentCommand) (commands : List SentCommand) (records : List Record) (slot : ℕ) (intent : TheIntent)
    → (sent.numbering.poi ≡ intent.poi → IsSentFrom records intent.poi slot sent) → (sent.key ≡ Some (intent_key intent) → sent.numbering ≡ numbering_of intent) → IsQuiet book commands sent.numbering sent.place
    → IsIntentNumbered book commands sent.place records slot intent → IsIntentNumbered book (sent ∷ commands) (sent.place + 1) records slot intent
intent-sent book sent commands records slot intent own back quiet is = record { sent_to = sent-to; base = base is.base; lower = lower; others = others }
  where
    sent-to : (command : SentCommand) → In command (sent ∷ commands) → command.key ≡ Some (intent_key intent) → command.numbering ≡ numbering_of intent
    sent-to command (inl same) for_key = ap (λ (one : SentCommand). one.numbering) same ∙ back (ap (λ (one : SentCommand). one.key) (sym same) ∙ for_key)
    sent-to command (inr within) for_key = is.sent_to command within for_key

    earlier : HasEntryBeforeAll book commands records (numbering_of intent) sent.place slot intent.before → HasEntryBeforeAll book (sent ∷ commands) records (numbering_of intent) (sent.place + 1) slot intent.before
    earlier e = record {
      numbered = record { entry = e.numbered.entry; within = e.numbered.within; numbering_is = e.numbered.numbering_is; placed = let placed = e.numbered.placed in omega (arith, placed); number_is = e.numbered.number_is };
      earlier = each;
    }
      where
        each : (command : SentCommand) → In command (sent ∷ commands) → IsSentFrom records intent.poi slot command → e.numbered.entry.place ≤ command.place
        each command (inl same) since = subst (λ (one : SentCommand). e.numbered.entry.place ≤ one.place) (sym same) e.numbered.placed
        each command (inr within) since = e.earlier command within since

    base : (intent.before ≡ 0) ⊎ HasEntryBeforeAll book commands records (numbering_of intent) sent.place slot intent.before → (intent.before ≡ 0) ⊎ HasEntryBeforeAll book (sent ∷ commands) records (numbering_of intent) (sent.place + 1) slot intent.before
    base (inl none) = inl none
    base (inr e) = inr (earlier e)

    -- the entry of the command just sent
    of-this : (entry : BookedEntry) → entry.numbering ≡ numbering_of intent → entry.cause ≡ Some sent.place → sent.numbering ≡ entry.numbering → IsEntryFrom (sent ∷ commands) records intent.poi slot entry
    of-this entry same cause here = record { command = sent; sent = inl refl; since = own (ap (λ (n : Numbering). n.poi) (here ∙ same)); caused = cause }

    -- and one of a command before
    of-those : (entry : BookedEntry) → IsEntryFrom commands records intent.poi slot entry → IsEntryFrom (sent ∷ commands) records intent.poi slot entry
    of-those entry from = record { command = from.command; sent = inr from.sent; since = from.since; caused = from.caused }

    lower : (entry : BookedEntry) → In entry book → entry.numbering ≡ numbering_of intent → IsOfSent (sent ∷ commands) entry → entry.approved ≡ true → (entry.number ≤ intent.before) ⊎ IsEntryFrom (sent ∷ commands) records intent.poi slot entry
    lower entry within same of approved = elim (sent-splits sent commands entry of) [
      | inl here ↦ inr (of-this entry same here.0 here.1)
      | inr there ↦ elim (is.lower entry within same there approved) [
        | inl low ↦ inl low
        | inr from ↦ inr (of-those entry from)
      ]
    ]

    others : (entry : BookedEntry) → In entry book → entry.numbering ≡ numbering_of intent → IsOfSent (sent ∷ commands) entry → (command : SentCommand) → In command (sent ∷ commands) → command.key ≡ Some (intent_key intent)
        → (entry.place ≤ command.place) ⊎ IsEntryFrom (sent ∷ commands) records intent.poi slot entry
    others entry within same of command sent_one for_key = elim (sent-splits sent commands entry of) [
      | inl here ↦ inr (of-this entry same here.0 here.1)
      | inr there ↦ by_command sent_one there
    ]
      where
        by_command : In command (sent ∷ commands) → IsOfSent commands entry → (entry.place ≤ command.place) ⊎ IsEntryFrom (sent ∷ commands) records intent.poi slot entry
        by_command (inl is_sent) there =
            let here : sent.numbering ≡ numbering_of intent = back (ap (λ (one : SentCommand). one.key) (sym is_sent) ∙ for_key) in
            inl (subst (λ (one : SentCommand). entry.place ≤ one.place) (sym is_sent) (quiet entry within (same ∙ sym here) there))
        by_command (inr was) there = elim (is.others entry within same there command was for_key) [
          | inl early ↦ inl early
          | inr from ↦ inr (of-those entry from)
        ]

module _ (laws : LedgerLaws) (log : List Turn) (v : View) (past : Past) (book : List BookedEntry) (turn : Turn) (calls : List OwedCall) (pt : ℕ) (sending : Sending) (bytes : List ℕ) (o : Ordered log v) (h : Holds v past book) (n : Numbered v past book)
    (next : first_call v.calls ≡ Some (SendPt pt sending)) (first : IsPrefix bytes (sending_bytes sending)) (spares : spare_disk calls ≡ true) (unlinked : link_owed calls ≡ false) (uncharged : (number : ℕ) → charge_owed number calls ≡ false) where
  last : IsLast v (SendPt pt sending)
  last = is-last log v (SendPt pt sending) o next refl (λ more. refl)

  abbrev after-send : View
  after-send = called_with v turn calls

  -- nothing that may charge a card is sent
  other-sent : Numbered after-send (record past { place = past.place + 1 }) book
  other-sent =
      call-numbered v after-send past (record past { place = past.place + 1 }) book n refl refl refl refl unlinked uncharged refl refl (same-coming v after-send (SendPt pt sending) last spares refl refl) n.standings

  charge-sent : (kind : BookedKind) → kind_of_command bytes ≡ Some kind → Numbered after-send (record (with_sent_command v.scene (numbering_of_number v.scene pt) bytes past kind) { place = past.place + 1 }) book
  charge-sent kind kind_is = record {
    kept = kept;
    coming = subst (λ (records : List Record). AreRecordsNumbered book (sent ∷ past.commands) (past.place + 1) records) (sym (same-coming v after-send (SendPt pt sending) last spares refl refl ∙ last.now)) kept;
    standings = standings;
    asked = λ number terminal found owed. no-true (sym (uncharged number) ∙ owed);
    made = λ link within. let before = n.made link within in omega (arith, before);
    ordered = n.ordered;
    linking = λ owed. no-true (sym unlinked ∙ owed);
    linked = n.linked;
  }
    where
      sent : SentCommand
      sent = command_sent v.scene past (numbering_of_number v.scene pt) bytes kind

      charges_card : sending_charges sending ≡ true
      charges_card = charging sending bytes first (ap (λ (found : Option BookedKind). is_some found) kind_is)

      asked : IsToBeAsked (records_coming v) v.scene.core past.commands pt
      asked = to-be-asked (records_coming v) v.scene.core past.commands pt sending charges_card (subst (λ l. AreCallsSound (records_coming v) v.scene.core past.commands past.occasion l) last.calls_are h.calls).0

      numbering_is : numbering_of_number v.scene pt ≡ numbering_at asked.terminal.pt
      numbering_is = numbering-there v.scene pt asked.terminal asked.found

      poi_is : (numbering_of_number v.scene pt).poi ≡ asked.terminal.pt.poi
      poi_is = ap (λ (n : Numbering). n.poi) numbering_is

      folded : AreFolded v.scene.kept
      folded = kept-folds log v (holds ledger_rules log v o.keeps)

      owed : charge_owed pt v.calls ≡ true
      owed = ap (charge_owed pt) last.calls_are ∙ by_own (pt == pt) (own-number pt) charges_card
        where
          by_own : (own : Bool) → own ≡ true → sending_charges sending ≡ true → ((own && sending_charges sending) || false) ≡ true
          by_own true is charged = ap (λ (b : Bool). b || false) charged
          by_own false is charged = no-true is

      quiet : IsQuiet book past.commands (numbering_of_number v.scene pt) past.place
      quiet = subst (λ (numbering : Numbering). IsQuiet book past.commands numbering past.place) (sym numbering_is) (n.asked pt asked.terminal asked.found owed)

      served : IsServedOpen v.scene.kept asked.terminal.pt.poi asked.last asked.slot
      served =
          let t = o.terminals last.clear pt asked.terminal asked.found (last-cuts v (SendPt pt sending) pt last refl) in
          subst (λ records. IsServedOpen records asked.terminal.pt.poi asked.last asked.slot) last.now (subst (λ (s : Standing). AreRecordsOf (records_coming v) asked.terminal.pt.poi s) asked.standing_is t.records)

      intent_kept : intent_at v.scene.kept asked.slot ≡ Some asked.intent
      intent_kept = subst (λ records. intent_at records asked.slot ≡ Some asked.intent) last.now asked.intent_is

      key_is : open_key v.scene.kept (numbering_of_number v.scene pt).poi ≡ Some (intent_key asked.intent)
      key_is = ap (open_key v.scene.kept) poi_is ∙ served-key laws v.scene.kept asked.terminal.pt.poi asked.slot asked.last asked.intent folded served intent_kept

      slot_is : open_slot v.scene.kept asked.terminal.pt.poi ≡ Some asked.slot
      slot_is = (open-parts laws v.scene.kept folded asked.terminal.pt.poi asked.slot served.intent served.is_open).slot_is

      asked_numbering : numbering_of asked.intent ≡ numbering_of_number v.scene pt
      asked_numbering = open-numbering laws v.scene.kept folded asked.terminal.pt asked.slot asked.intent slot_is intent_kept ∙ sym numbering_is

      -- the command is for the last Intent of its terminal
      own : (slot : ℕ) (intent : TheIntent) → intent_at v.scene.kept slot ≡ Some intent → (numbering_of_number v.scene pt).poi ≡ intent.poi → IsSentFrom v.scene.kept intent.poi slot sent
      own slot intent there same = record {
        at = asked.slot;
        intent = asked.intent;
        from = open-is-last laws v.scene.kept folded asked.terminal.pt.poi asked.slot slot intent slot_is there (sym same ∙ poi_is);
        intent_is = intent_kept;
        poi_is = ap (λ (n : Numbering). n.poi) asked_numbering ∙ same;
        key_is = key_is;
      }

      -- and for no other Intent
      back : (slot : ℕ) (intent : TheIntent) → intent_at v.scene.kept slot ≡ Some intent → open_key v.scene.kept (numbering_of_number v.scene pt).poi ≡ Some (intent_key intent) → numbering_of_number v.scene pt ≡ numbering_of intent
      back slot intent there for_key = sym asked_numbering ∙ ap numbering_of same
        where
          keys : intent_key asked.intent ≡ intent_key intent
          keys = same-some (intent_key asked.intent) (intent_key intent) (sym key_is ∙ for_key)

          slots : asked.slot ≡ slot
          slots = same-some asked.slot slot (sym (own-slot laws v.scene.kept asked.slot asked.intent folded intent_kept) ∙ ap (slot_of v.scene.kept) keys ∙ own-slot laws v.scene.kept slot intent folded there)

          same : asked.intent ≡ intent
          same = same-some asked.intent intent (sym intent_kept ∙ ap (intent_at v.scene.kept) slots ∙ there)

      kept : AreRecordsNumbered book (sent ∷ past.commands) (past.place + 1) v.scene.kept
      kept = record {
        intents = λ slot intent there. intent-sent book sent past.commands v.scene.kept slot intent (own slot intent there) (back slot intent there) quiet (n.kept.intents slot intent there);
        last = λ numbering. booked-later past.place (past.place + 1) (omega arith) book numbering (last_number_of v.scene.kept numbering.poi) (n.kept.last numbering);
      }

      next_past : Past
      next_past = record (with_sent_command v.scene (numbering_of_number v.scene pt) bytes past kind) { place = past.place + 1 }

      standings : AreStandingsNumbered next_past book v.scene.core
      standings number terminal found = by_number (eqb number pt) refl
        where
          by_number : (b : Bool) → eqb number pt ≡ b → IsStandingNumbered next_past.links next_past.commands next_past.place book (numbering_at terminal.pt) terminal.standing
          by_number true is =
              let there : slice_get v.scene.core.terminals pt ≡ Some terminal = subst (λ (at : ℕ). slice_get v.scene.core.terminals at ≡ Some terminal) (eqb-true number pt is) found in
              let same : asked.terminal ≡ terminal = same-some asked.terminal terminal (sym asked.found ∙ there) in
              subst (λ (t : Terminal). IsStandingNumbered next_past.links next_past.commands next_past.place book (numbering_at t.pt) t.standing) same (subst (λ (s : Standing). IsStandingNumbered next_past.links next_past.commands next_past.place book (numbering_at asked.terminal.pt) s) (sym asked.standing_is) tt)
          by_number false is =
              let differs = eqb-false number pt is in
              let k = call-setup v (SendPt pt sending) o.agrees.run next in
              let apart : bytes_eq asked.terminal.pt.poi terminal.pt.poi ≡ false = apart-pois log v k pt number asked.terminal terminal o (λ same. differs (sym same)) asked.found found in
              standing-sent past next_past book sent (numbering_at terminal.pt) terminal.standing refl refl (omega arith)
              (λ same. no-true (sym apart ∙ subst (λ (poi : List ℕ). bytes_eq asked.terminal.pt.poi poi ≡ true) (sym poi_is ∙ same) (bytes-itself asked.terminal.pt.poi))) (n.standings number terminal found)

  -- by the bytes that are sent
  pt-sent-numbered : Numbered after-send (record (with_sent_bytes v.scene (numbering_of_number v.scene pt) bytes past (kind_of_command bytes)) { place = past.place + 1 }) book
  pt-sent-numbered = by-kind (kind_of_command bytes) refl
    where
      by-kind : (found : Option BookedKind) → kind_of_command bytes ≡ found → Numbered after-send (record (with_sent_bytes v.scene (numbering_of_number v.scene pt) bytes past found) { place = past.place + 1 }) book
      by-kind None is = other-sent
      by-kind (Some kind) is = charge-sent kind is

pub sent-pt-numbers : (laws : LedgerLaws) (pt : ℕ) (bytes : List ℕ) (sent : Bool) → TurnNumbers (SentPt pt bytes sent)
sent-pt-numbers laws pt bytes true log v past book o ok h n =
    let none : later v.calls ≡ [] = IsLast.none_later (is-last log v (SendPt pt ok.0) o ok.1 refl (λ more. refl)) in
    pt-sent-numbered laws log v past book (SentPt pt bytes true) (later v.calls) pt ok.0 bytes o h n ok.1 ([], sym ok.2 ∙ sym (append-nil bytes)) (ap spare_disk none) (ap link_owed none) (λ number. ap (charge_owed number) none)
sent-pt-numbers laws pt bytes false log v past book o ok h n =
    pt-sent-numbered laws log v past book (SentPt pt bytes false) (OwedCutPt pt ∷ []) pt ok.0 bytes o h n ok.1 ok.2 refl refl (λ number. refl)
