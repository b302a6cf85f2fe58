-- The commands of the transcript of a terminal that is linked are those that the log says were sent to it since it was linked.
use Rattle.std.proofs.Common.{◌≡◌, ◌≢◌, ℕ, List, [], ◌∷◌, ◌++◌, refl, sym, ◌∙◌, ap, subst, true, false, inl, inr, eqb-true}
use Rattle.std.specs.Prelude.{Bool, ◌⊎◌, ◌==◌, if◌then◌else◌, Option, Some, None, Result, Ok, Err}
use Rattle.gw_base.specs.declared.setup.Setup.{Setup}
use Rattle.gw_site.specs.Outside.{Connection, is_connected, without, new_connection}
use Rattle.gw_site.specs.declared.turn.Turn.{Turn}
use Rattle.gw_site.specs.declared.turn.Turn.TheVariants.{Start, OpenFailed, Polled, Opened, HeardTill, Closed, HeardPt, Lost, Stopped, Linked, LinkFailed, SentTill, SentPt, CutTill, CutPt, Wrote, Synced, DiskFailed, Crash}
use Rattle.zvt_msg.specs.Message.{MessageValue}
use Rattle.zvt_msg.specs.MessageDecode.{decode_pt_message}
use Rattle.zvt_msg.specs.declared.fault.PtFault.{PtFault}
use Rattle.zvt_talk.specs.Came.{is_taken}
use Rattle.gw_owes.specs.Calls.{Sending, Ask, Acknowledge, Refuse, sending_bytes, OwedCall, LinkPt, SendPt as OwedSendPt}
use Rattle.gw_owes.specs.Items.{RoundItem, Crowded, Message, Asked, Unframed, Gone, Greet, Handle, Serve, Queue, NextWaiting, Oversized, LinkLost, Late, Overdue, Due}
use Rattle.gw_owes.specs.Links.{is_linked}
use Rattle.gw_owes.specs.Reports.{on_record, least_reported}
use Rattle.gw_owes.specs.Row.{Known}
use Rattle.gw_owes.specs.TerminalRows.{terminal_of, is_link_lost}
use Rattle.gw_owes.specs.Terminals.{terminal_at}
use Rattle.gw_owes.specs.Transcript.{Carried, Took, commanded, took_decoded, took_of, took_by, is_number}
use Rattle.gw_owes.specs.declared.terminal.Terminal.{Terminal}
use Rattle.gw_rules.specs.Lawful.{first_call, Begins, AllowedTurn, IsCourse, turns_of}
use Rattle.gw_rules.specs.Scene.{known_in}
use Rattle.gw_rules.specs.TranscriptLaws.{command_to, command_next, transcript_with, transcript_in, transcript_begun, transcript_made, transcript_from, with_command, sent_then, sent_from, spelled_commands, EachCommandWasSent}
use Rattle.gw_rules.specs.View.{View, Move, Begin, Read, Make, after, after_turn, view_from, at_first}
use Rattle.gw_rules.proofs.CourseLemmas.{begin-outside, stands-outside}
use Rattle.gw_rules.proofs.LinkStateLemmas.{apart}
use Rattle.gw_rules.proofs.LinkedLemmas.{Agrees, Settled, Losing, lose_none, is_on, first-agrees, move-agrees, call-settled, first-fits, by-number, connected-removed, connected-other, connected-old, connected-heard}
use Rattle.gw_rules.proofs.RowFormLemmas.{form-wished}
use Rattle.gw_rules.proofs.StageLemmas.{no-true}

-- ---- what an item takes or wishes is no command

took-none : (known : Known) (item : RoundItem) (transcript : List Carried) → spelled_commands (took_by known item ++ transcript) ≡ spelled_commands transcript
took-none known (Crowded till) transcript = refl
took-none known (Message till bytes) transcript = refl
took-none known (Asked till as_read) transcript = refl
took-none known (Unframed till) transcript = refl
took-none known (Gone till) transcript = refl
took-none known (Greet number apdu) transcript = refl
took-none known (Handle number apdu) transcript = by_terminal (terminal_at known number) (decode_pt_message apdu)
  where
    by_taken : (message : MessageValue) (last : ℕ) (taken : Bool) → spelled_commands ((if taken then Took message known.moment last ∷ [] else []) ++ transcript) ≡ spelled_commands transcript
    by_taken message last true = refl
    by_taken message last false = refl

    by_decoded : (last : ℕ) (decoded : Result MessageValue PtFault) → spelled_commands (took_decoded known.moment last decoded ++ transcript) ≡ spelled_commands transcript
    by_decoded last (Ok message) = by_taken message last (is_taken message)
    by_decoded last (Err fault) = refl

    by_linked : (last : ℕ) (linked : Bool) (decoded : Result MessageValue PtFault) → spelled_commands ((if linked then took_decoded known.moment last decoded else []) ++ transcript) ≡ spelled_commands transcript
    by_linked last true decoded = by_decoded last decoded
    by_linked last false decoded = refl

    by_terminal : (terminal : Option Terminal) (decoded : Result MessageValue PtFault) → spelled_commands (took_of known terminal decoded ++ transcript) ≡ spelled_commands transcript
    by_terminal None decoded = refl
    by_terminal (Some terminal) decoded = by_linked (least_reported (on_record known.kept terminal.pt.poi)) (is_linked terminal.standing) decoded
took-none known (Serve number till header request) transcript = form-wished (λ l. spelled_commands (l ++ transcript) ≡ spelled_commands transcript) known number header request refl refl
took-none known (Queue number till header request) transcript = refl
took-none known (NextWaiting number) transcript = refl
took-none known (Oversized number) transcript = refl
took-none known (LinkLost number) transcript = refl
took-none known (Late number) transcript = refl
took-none known (Overdue key) transcript = refl
took-none known (Due number) transcript = refl

-- ---- what holds along a course

-- while the terminal is linked, the commands of the transcript are those sent
abbrev AreSent : ℕ → List Carried → List (List ℕ) → View → Type 0
AreSent pt transcript sent v = is_connected v.scene.outside.links pt ≡ true → spelled_commands transcript ≡ sent

-- ---- items that begin

-- what the item leaves of the transcript, where it isn't the loss of this terminal's link
item-sent : (known : Known) (pt : ℕ) (item : RoundItem) (transcript : List Carried) → (item ≡ LinkLost pt → ⊥)
    → spelled_commands (if is_number pt (terminal_of item) then transcript_with known item transcript else transcript) ≡ spelled_commands transcript
item-sent known pt item transcript lasts = by_own (is_number pt (terminal_of item)) refl
  where
    by_item : (item : RoundItem) → (item ≡ LinkLost pt → ⊥) → is_number pt (terminal_of item) ≡ true → is_link_lost item ≡ false
    by_item (Crowded till) lasts e = refl
    by_item (Message till bytes) lasts e = refl
    by_item (Asked till as_read) lasts e = refl
    by_item (Unframed till) lasts e = refl
    by_item (Gone till) lasts e = refl
    by_item (Greet number apdu) lasts e = refl
    by_item (Handle number apdu) lasts e = refl
    by_item (Serve number till header request) lasts e = refl
    by_item (Queue number till header request) lasts e = refl
    by_item (NextWaiting number) lasts e = refl
    by_item (Oversized number) lasts e = refl
    by_item (LinkLost number) lasts e = absurd (lasts (ap LinkLost (eqb-true number pt e)))
    by_item (Late number) lasts e = refl
    by_item (Overdue key) lasts e = refl
    by_item (Due number) lasts e = refl

    by_own : (own : Bool) → is_number pt (terminal_of item) ≡ own → spelled_commands (if own then transcript_with known item transcript else transcript) ≡ spelled_commands transcript
    by_own true e = ap (λ (b : Bool). spelled_commands (if b then [] else took_by known item ++ transcript)) (by_item item lasts e) ∙ took-none known item transcript
    by_own false e = refl

-- the loss of a terminal's link is handled once the link is gone
loss-unlinked : (pt : ℕ) (v : View) (rest : List RoundItem) → Agrees v → v.items ≡ LinkLost pt ∷ rest → is_connected v.scene.outside.links pt ≡ false
loss-unlinked pt v rest a e = by_links a.links
  where
    by_links : Settled v ⊎ Losing v → is_connected v.scene.outside.links pt ≡ false
    by_links (inl s) = absurd (let n : false ≡ true = subst (λ l. lose_none l ≡ true) e s.none in cc)
    by_links (inr l) = subst (λ n. is_connected v.scene.outside.links n ≡ false) (let n : LinkLost l.pt ∷ l.rest ≡ LinkLost pt ∷ rest = sym l.items_are ∙ e in cc) l.own

begin-sent : (pt : ℕ) (transcript : List Carried) (sent : List (List ℕ)) (v : View) → Agrees v → Begins v → AreSent pt transcript sent v → AreSent pt (transcript_begun pt v.scene v.items transcript) sent (after v Begin)
begin-sent pt transcript sent v a b h linked = by_items v.items refl
  where
    there : is_connected v.scene.outside.links pt ≡ true
    there = ap (λ o. is_connected o.links pt) (sym (begin-outside v.scene v.items)) ∙ linked

    by_setup : (item : RoundItem) (setup : Option Setup) → (item ≡ LinkLost pt → ⊥) → spelled_commands (transcript_in pt v.scene item transcript setup) ≡ sent
    by_setup item None lasts = h there
    by_setup item (Some setup) lasts = item-sent (known_in v.scene setup) pt item transcript lasts ∙ h there

    by_items : (items : List RoundItem) → v.items ≡ items → spelled_commands (transcript_begun pt v.scene items transcript) ≡ sent
    by_items [] e = h there
    by_items (item ∷ rest) e = by_setup item v.scene.setup (λ lost. no-true (sym (loss-unlinked pt v rest a (e ∙ ap (λ i. i ∷ rest) lost)) ∙ there))

-- ---- turns

-- without a connection of this number the terminal was linked where it is
still-there : (links : List Connection) (number pt : ℕ) → is_connected (without links number) pt ≡ true → (pt ≢ number) × (is_connected links pt ≡ true)
still-there links number pt e = by-number pt number
    (λ same. no-true (sym (subst (λ n. is_connected (without links n) pt ≡ false) (sym same) (connected-removed links pt)) ∙ e))
    (λ differs. (differs, sym (connected-other links number pt differs) ∙ e))

other-test : (pt number : ℕ) → pt ≢ number → (number == pt) ≡ false
other-test pt number differs = by_test (number == pt) refl
  where
    by_test : (test : Bool) → (number == pt) ≡ test → test ≡ false
    by_test true e = absurd (differs (sym (eqb-true number pt e)))
    by_test false e = refl

linked-sent : (pt number : ℕ) (transcript : List Carried) (sent : List (List ℕ)) (links : List Connection) → (is_connected links pt ≡ true → spelled_commands transcript ≡ sent)
    → is_connected (without links number ++ new_connection number ∷ []) pt ≡ true → spelled_commands (if number == pt then [] else transcript) ≡ (if number == pt then [] else sent)
linked-sent pt number transcript sent links h linked = by_test (number == pt) refl
  where
    by_test : (test : Bool) → (number == pt) ≡ test → spelled_commands (if test then [] else transcript) ≡ (if test then [] else sent)
    by_test true e = refl
    by_test false e =
        let differs : pt ≢ number = (λ same. apart number pt e (sym same)) in
        h (sym (connected-other links number pt differs) ∙ sym (connected-old (without links number) number pt differs) ∙ linked)

-- what is sent to the terminal is a command where it is one that is owed
sending-sent : (moment : ℕ) (sending : Sending) (transcript : List Carried) (sent : List (List ℕ)) → spelled_commands transcript ≡ sent → spelled_commands (commanded moment sending ++ transcript) ≡ with_command (sending_bytes sending) sent
sending-sent moment (Ask command) transcript sent h = ap (λ l. sending_bytes (Ask command) ∷ l) h
sending-sent moment Acknowledge transcript sent h = h
sending-sent moment Refuse transcript sent h = h

sent-to : (pt number moment : ℕ) (calls : List OwedCall) (sending : Sending) (bytes : List ℕ) (transcript : List Carried) (sent : List (List ℕ)) → first_call calls ≡ Some (OwedSendPt number sending) → bytes ≡ sending_bytes sending
    → spelled_commands transcript ≡ sent → spelled_commands (command_next pt moment calls ++ transcript) ≡ (if number == pt then with_command bytes sent else sent)
sent-to pt number moment [] sending bytes transcript sent next is h = absurd (let n : None ≡ Some (OwedSendPt number sending) = next in cc)
sent-to pt number moment (call ∷ calls) sending bytes transcript sent next is h =
    let same : call ≡ OwedSendPt number sending = (let n : Some call ≡ Some (OwedSendPt number sending) = next in cc) in
    ap (λ c. spelled_commands (command_to pt moment c ++ transcript)) same ∙ by_test (number == pt)
  where
    by_test : (test : Bool) → spelled_commands ((if test then commanded moment sending else []) ++ transcript) ≡ (if test then with_command bytes sent else sent)
    by_test true = sending-sent moment sending transcript sent h ∙ ap (λ b. with_command b sent) (sym is)
    by_test false = h

-- a terminal whose link couldn't be made isn't linked
failed-sent : (pt number : ℕ) (transcript : List Carried) (sent : List (List ℕ)) (v : View) → Agrees v → first_call v.calls ≡ Some (LinkPt number) → AreSent pt transcript sent v
    → is_connected v.scene.outside.links pt ≡ true → spelled_commands (if number == pt then [] else transcript) ≡ sent
failed-sent pt number transcript sent v a next h linked =
    let s = call-settled v (LinkPt number) a next in
    let fit = first-fits v.scene.outside.moment v.scene.core v.calls (LinkPt number) s.fits next in
    let off : is_connected v.scene.outside.links number ≡ false = s.linked number ∙ ap is_on fit.1 in
    ap (λ (b : Bool). spelled_commands (if b then [] else transcript)) (other-test pt number (λ same. no-true (sym off ∙ subst (λ n. is_connected v.scene.outside.links n ≡ true) same linked))) ∙ h linked

cut-sent : (pt number : ℕ) (transcript : List Carried) (sent : List (List ℕ)) (v : View) → AreSent pt transcript sent v
    → is_connected (without v.scene.outside.links number) pt ≡ true → spelled_commands (if number == pt then [] else transcript) ≡ sent
cut-sent pt number transcript sent v h linked =
    let there = still-there v.scene.outside.links number pt linked in
    ap (λ (b : Bool). spelled_commands (if b then [] else transcript)) (other-test pt number there.0) ∙ h there.1

turn-sent : (pt : ℕ) (transcript : List Carried) (sent : List (List ℕ)) (v : View) (turn : Turn) → Agrees v → AllowedTurn v turn → AreSent pt transcript sent v → AreSent pt (transcript_made pt v turn transcript) (sent_then pt turn sent) (after_turn v turn)
turn-sent pt transcript sent v (Start setup) a ok h linked = no-true linked
turn-sent pt transcript sent v OpenFailed a ok h linked = no-true linked
turn-sent pt transcript sent v (Polled now) a ok h linked = h linked
turn-sent pt transcript sent v (Opened till) a ok h linked = h linked
turn-sent pt transcript sent v (HeardTill till bytes) a ok h linked = h linked
turn-sent pt transcript sent v (Closed till) a ok h linked = h linked
turn-sent pt transcript sent v (HeardPt number bytes) a ok h linked = h (sym (connected-heard v.scene.outside.links number pt bytes) ∙ linked)
turn-sent pt transcript sent v (Lost number) a ok h linked = h (still-there v.scene.outside.links number pt linked).1
turn-sent pt transcript sent v Stopped a ok h linked = h linked
turn-sent pt transcript sent v (Linked number) a ok h linked = linked-sent pt number transcript sent v.scene.outside.links h linked
turn-sent pt transcript sent v (LinkFailed number) a ok h linked = failed-sent pt number transcript sent v a ok h linked
turn-sent pt transcript sent v (SentTill till bytes true) a ok h linked = h linked
turn-sent pt transcript sent v (SentTill till bytes false) a ok h linked = h linked
turn-sent pt transcript sent v (SentPt number bytes true) a ok h linked = sent-to pt number v.scene.outside.moment v.calls ok.0 bytes transcript sent ok.1 ok.2 (h linked)
turn-sent pt transcript sent v (SentPt number bytes false) a ok h linked = h linked
turn-sent pt transcript sent v (CutTill till) a ok h linked = h linked
turn-sent pt transcript sent v (CutPt number) a ok h linked = cut-sent pt number transcript sent v h linked
turn-sent pt transcript sent v (Wrote offset bytes) a ok h linked = h linked
turn-sent pt transcript sent v Synced a ok h linked = h linked
turn-sent pt transcript sent v DiskFailed a ok h linked = h linked
turn-sent pt transcript sent v (Crash file) a ok h linked = no-true linked

-- ---- along a course

course-sent : (pt : ℕ) (transcript : List Carried) (sent : List (List ℕ)) (v : View) (moves : List Move) → Agrees v → IsCourse v moves → AreSent pt transcript sent v
    → AreSent pt (transcript_from pt v transcript moves) (sent_from pt sent (turns_of moves)) (view_from v moves)
course-sent pt transcript sent v [] a c h = h
course-sent pt transcript sent v (Begin ∷ moves) a c h = course-sent pt (transcript_begun pt v.scene v.items transcript) sent (after v Begin) moves (move-agrees v Begin a c.0) c.1 (begin-sent pt transcript sent v a c.0 h)
course-sent pt transcript sent v (Read as_read ∷ moves) a c h = course-sent pt transcript sent (after v (Read as_read)) moves (move-agrees v (Read as_read) a c.0) c.1 h
course-sent pt transcript sent v (Make turn ∷ moves) a c h =
    course-sent pt (transcript_made pt v turn transcript) (sent_then pt turn sent) (after_turn v turn) moves (move-agrees v (Make turn) a c.0) c.1 (turn-sent pt transcript sent v turn a c.0 h)

pub commands-sent : EachCommandWasSent
commands-sent log v s pt linked =
    let here : is_connected (view_from at_first s.course).scene.outside.links pt ≡ true = ap (λ (w : View). is_connected w.scene.outside.links pt) s.view_is ∙ ap (λ o. is_connected o.links pt) (stands-outside log v s) ∙ linked in
    course-sent pt [] [] at_first s.course first-agrees s.lawful (λ linked. refl) here ∙ ap (sent_from pt []) s.log_is
