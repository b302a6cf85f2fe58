-- A played terminal is sent something: what holds along a course holds on.
use Rattle.std.proofs.Common.{◌≡◌, ◌≢◌, ◌<◌, ◌∙◌, ℕ, zero, suc, ◌+◌, Bool, true, false, List, [], ◌∷◌, ◌++◌, length, refl, sym, ap, subst, arith, inl, inr, append-nil}
use Rattle.std.proofs.lemmas.Bool.{eq-eqb, false_from_ne_true}
use Rattle.std.proofs.lemmas.List.Elements.{All-head, All-tail}
use Rattle.std.specs.Prelude.{◌⊎◌, ◌&&◌, ◌||◌, nat_lt, if◌then◌else◌, is_some, bytes_eq, All, find, map, slice_get, Option, Some, None}
use Rattle.std.specs.List.{list_any}
use Rattle.gw_base.specs.Setup.{HaveDistinctPois}
use Rattle.gw_base.specs.declared.setup.Pt.{Pt}
use Rattle.gw_base.specs.declared.setup.Setup.{Setup}
use Rattle.gw_bytes.specs.Bytes.{IsPrefix}
use Rattle.gw_site.specs.declared.turn.Turn.{Turn}
use Rattle.gw_site.specs.declared.turn.Turn.TheVariants.{SentPt}
use Rattle.zvt_apdu.specs.DecodeStream.{DecodedApdus, decode_apdus}
use Rattle.zvt_apdu.specs.Grammar.{ApduValue}
use Rattle.zvt_msg.specs.CommandCanonical.{canonical_command, command_apdu}
use Rattle.zvt_msg.specs.CommandDecode.{decode_command}
use Rattle.zvt_msg.specs.CommandGrammar.{HasCommandDigits, HasCommandSizes}
use Rattle.zvt_msg.specs.declared.command.Command.{Command}
use Rattle.zvt_msg.specs.declared.command.Command.TheVariants as command
use Rattle.zvt_talk.specs.declared.dialogue_kind.DialogueKind.TheVariants.{EndOfDay as EndOfDayDialogue, Display as DisplayDialogue}
use Rattle.zvt_talk.specs.Dialogue.{Dialogue, dialogue_kind_of}
use Rattle.zvt_talk.specs.Talk.{TalkFacts, talk_after}
use Rattle.pt_core.specs.declared.book.BookEntry.{BookEntry}
use Rattle.pt_core.specs.Exchange.{Exchange, Sends, heard_on_link}
use Rattle.pt_core.specs.History.{Setting, all_handled, book_of, play_left, reaction_after}
use Rattle.pt_core.specs.Honest.{Books}
use Rattle.pt_core.specs.Table.{entries_of}
use Rattle.pt_core.proofs.HonestLemmas.{booked}
use Rattle.gw_owes.specs.Calls.{Sending, Ask, Acknowledge, Refuse, sending_bytes, OwedCall, SendPt, CutPt as OwedCutPt}
use Rattle.gw_owes.specs.Core.{Core}
use Rattle.gw_owes.specs.Items.{RoundItem}
use Rattle.gw_owes.specs.Links.{is_linked}
use Rattle.gw_owes.specs.Reply.{ReplyValue}
use Rattle.gw_owes.specs.TerminalLaws.{settings_of}
use Rattle.gw_owes.specs.Terminals.{reply_calls_to}
use Rattle.gw_owes.specs.declared.terminal.Service.TheVariants.{Transaction, EndOfDay, Display}
use Rattle.gw_owes.specs.declared.terminal.Standing.{Standing}
use Rattle.gw_owes.specs.declared.terminal.Standing.TheVariants.{Unlinked, Registering, Enquiring, Ready, Serving, Aside}
use Rattle.gw_owes.specs.declared.terminal.Terminal.{Terminal}
use Rattle.gw_owes.proofs.SetLemmas.{same-some}
use Rattle.gw_rules.specs.Lawful.{first_call}
use Rattle.gw_rules.specs.Scene.{Scene}
use Rattle.gw_rules.specs.TranscriptLaws.{cut_owed}
use Rattle.gw_rules.specs.View.{View, called, later}
use Rattle.gw_rules.proofs.LinkedLemmas.{by-number, call-settled, call-setup, Settled}
use Rattle.gw_rules.proofs.LinkStateLemmas.{Absent, On, state_in, state_of, on-linked, EachFits}
use Rattle.gw_rules.proofs.RecordOrderLemmas.{Ordered, configured}
use Rattle.gw_rules.proofs.SetupLemmas.{HasSetup}
use Rattle.gw_rules.proofs.StageLemmas.{no-true}
use Rattle.gw_rules.proofs.TranscriptLogLemmas.{there-image, not-number}
use Rattle.gw_books.specs.Kinds.{may_charge, BookedKind, BookedPayment, BookedReversal, kind_of_command}
use Rattle.gw_books.specs.Books.{BookedEntry}
use Rattle.gw_books.specs.Past.{Occasion, SentCommand, Ending, Approved, Declined, Reported, Past, poi_of_number, open_key, Numbering, numbering_of_number, with_sent_bytes}
use Rattle.gw_books.proofs.Holding.{AreFalling, charges, sending_charges, charge_owed, is_handle}
use Rattle.gw_books.proofs.KeyedLemmas.{sent-below}
use Rattle.gw_books.proofs.LastCallLemmas.{IsLast, is-last, last-cuts, past_then}
use Rattle.gw_books.proofs.ListLemmas.{In, bytes-are, bytes-itself, in-either, in-second}
use Rattle.gw_books.proofs.SentCommandLemmas.{charging, charged}
use Rattle.gw_played.specs.Played.{PlacedExchange, exchanges_in, booked_by, placed_entry, book_along, where_poi, kind_played}
use Rattle.gw_played.proofs.HonestGrowLemmas.{honest-place, honest-other, honest-command, BooksOne}
use Rattle.gw_played.proofs.PeerSendLemmas.{IsOneApdu, ChangesNothing, acknowledgement-is-one, acknowledgement-silent, asked-books, begins-transacting, begins-talking, book-stays, booked-none, command-is-one, command-spelled, one-decoded, part-books-none, part-of-one, peer-still, peer-waits, refusal-is-one, refusal-silent, sends, silent-changes-nothing, stop-is-one, stop-silent, IsSilentAt, acknowledgement, refusal}
use Rattle.gw_played.proofs.Playing.{met_in, WaitsForNone, IsQuiet, IsTalking, IsLastServed, IsTransacting, IsPeerIn, BeginsStanding, begins_dialogue, ask_owed, link_owed, IsToBeAsked, IsPeer, HasCommand, IsHonestFor, IsOfCommand, Plays, PeerLaws, PlaysTurn}
use Rattle.gw_books.proofs.CallHoldsLemmas.{numbering-there}

-- ---- lists

in-map : {A B : Type 0} (f : A → B) (list : List A) (x : A) → In x list → In (f x) (map f list)
in-map f [] x within = absurd within
in-map f (y ∷ list) x (inl same) = inl (ap f same)
in-map f (y ∷ list) x (inr within) = inr (in-map f list x within)

from-map : {A B : Type 0} (f : A → B) (list : List A) (y : B) → In y (map f list) → (x : A) × In x list × (y ≡ f x)
from-map f [] y within = absurd within
from-map f (x ∷ list) y (inl same) = (x, inl refl, same)
from-map f (x ∷ list) y (inr within) = let found = from-map f list y within in (found.0, inr found.1, found.2)

pub falling-later : (place : ℕ) (commands : List SentCommand) → AreFalling place commands → AreFalling (place + 1) commands
falling-later place [] f = tt
falling-later place (sent ∷ commands) f = let before = f.0 in (omega (arith, before), f.1)

-- ---- terminals have POIIDs of their own

pub all-there : {A : Type 0} → (P : A → Type 0) (all : List A) (at : ℕ) (one : A) → All P all → slice_get all at ≡ Some one → P one
all-there P [] at one each found = absurd cc
all-there P (first ∷ rest) zero one each found = subst P (same-some first one found) (All-head P first rest each)
all-there P (first ∷ rest) (suc at) one each found = all-there P rest at one (All-tail P first rest each) found

distinct-pois : (pts : List Pt) (one other : ℕ) (p q : Pt) → HaveDistinctPois pts → one ≢ other → slice_get pts one ≡ Some p → slice_get pts other ≡ Some q → p.poi ≡ q.poi → ⊥
distinct-pois [] one other p q distinct differs found there same = absurd cc
distinct-pois (pt ∷ pts) zero zero p q distinct differs found there same = differs refl
distinct-pois (pt ∷ pts) zero (suc other) p q distinct differs found there same =
    all-there (λ (x : Pt). pt.poi ≢ x.poi) pts other q distinct.0 there (ap (λ (x : Pt). x.poi) (same-some pt p found) ∙ same)
distinct-pois (pt ∷ pts) (suc one) zero p q distinct differs found there same =
    all-there (λ (x : Pt). pt.poi ≢ x.poi) pts one p distinct.0 found (ap (λ (x : Pt). x.poi) (same-some pt q there) ∙ sym same)
distinct-pois (pt ∷ pts) (suc one) (suc other) p q distinct differs found there same = distinct-pois pts one other p q distinct.1 (λ e. differs (ap suc e)) found there same

pub pt-at : (v : View) (setup : Setup) (number : ℕ) (terminal : Terminal) → settings_of v.scene.core ≡ setup.terminals → slice_get v.scene.core.terminals number ≡ Some terminal → slice_get setup.terminals number ≡ Some terminal.pt
pt-at v setup number terminal same found = ap (λ (pts : List Pt). slice_get pts number) (sym same) ∙ there-image (λ (terminal : Terminal). terminal.pt) v.scene.core.terminals number terminal found

-- so two terminals don't have the same
pub apart-pois : (log : List Turn) (v : View) (k : HasSetup v.scene) (one other : ℕ) (t u : Terminal) → Ordered log v → one ≢ other → slice_get v.scene.core.terminals one ≡ Some t → slice_get v.scene.core.terminals other ≡ Some u
    → bytes_eq t.pt.poi u.pt.poi ≡ false
apart-pois log v k one other t u o differs found there = by_test (bytes_eq t.pt.poi u.pt.poi) refl
  where
    same : settings_of v.scene.core ≡ k.setup.terminals
    same = configured v k.setup o.agrees k.setup_is

    by_test : (test : Bool) → bytes_eq t.pt.poi u.pt.poi ≡ test → bytes_eq t.pt.poi u.pt.poi ≡ false
    by_test true e = absurd (distinct-pois k.setup.terminals one other t.pt u.pt k.within.distinct differs (pt-at v k.setup one t same found) (pt-at v k.setup other u same there) (bytes-are t.pt.poi u.pt.poi e))
    by_test false e = e

-- the POIID of a terminal that is there
pub poi-is : (scene : Scene) (pt : ℕ) (terminal : Terminal) → slice_get scene.core.terminals pt ≡ Some terminal → poi_of_number scene pt ≡ terminal.pt.poi
poi-is scene pt terminal found = ap (λ (n : Numbering). n.poi) (numbering-there scene pt terminal found)

-- ---- what is owed after a call

-- a call alone passes a test where it does
alone : (test : Bool) → (test || false) ≡ test
alone true = refl
alone false = refl

-- the calls ask for nothing, and link and charge no terminal
pub record AreSpare (calls : List OwedCall) : Type 0 where
  pub asks : (number : ℕ) → ask_owed number calls ≡ false
  pub links : (number : ℕ) → link_owed number calls ≡ false
  pub charges_none : (number : ℕ) → charge_owed number calls ≡ false

none-spare : AreSpare []
none-spare = record { asks = λ number. refl; links = λ number. refl; charges_none = λ number. refl }

cut-spare : (pt : ℕ) → AreSpare (OwedCutPt pt ∷ [])
cut-spare pt = record { asks = λ number. refl; links = λ number. refl; charges_none = λ number. refl }

pub reply-spare : (asker : Option ℕ) (reply : Option ReplyValue) → AreSpare (reply_calls_to asker reply)
reply-spare None reply = none-spare
reply-spare (Some till) None = none-spare
reply-spare (Some till) (Some reply) = record { asks = λ number. refl; links = λ number. refl; charges_none = λ number. refl }

-- ---- more commands

-- an end is of a command that was sent, with more of them
ends-more : (new : SentCommand) (sent : List SentCommand) (poi : List ℕ) (ending : Ending) → IsOfCommand sent poi ending → IsOfCommand (new ∷ sent) poi ending
ends-more new sent poi (Approved place figures) is = (is.0, inr is.1, is.2, is.3)
ends-more new sent poi (Declined place trace) is = (is.0, inr is.1, is.2, is.3)
ends-more new sent poi (Reported trace figures) is = tt

-- a command to another POIID leaves a dialogue as far as it was
peer-other : (setting : Setting) (poi : List ℕ) (exchanges : List PlacedExchange) (number : ℕ) (items : List RoundItem) (new : SentCommand) (sent : List SentCommand) (talk : Option TalkFacts) (standing : Standing) → bytes_eq new.numbering.poi poi ≡ false
    → IsPeerIn setting poi exchanges number items sent talk standing → IsPeerIn setting poi exchanges number items (new ∷ sent) talk standing
peer-other setting poi exchanges number items new sent talk (Unlinked due) apart peer = tt
peer-other setting poi exchanges number items new sent talk Registering apart peer = peer
peer-other setting poi exchanges number items new sent talk Enquiring apart peer = peer
peer-other setting poi exchanges number items new sent talk (Ready last) apart peer = peer
peer-other setting poi exchanges number items new sent talk (Serving (Transaction slot) last) apart peer = record {
  command = peer.command;
  charging = peer.charging;
  talking = peer.talking;
  last = record {
    command = peer.last.command;
    last = ap (λ (b : Bool). if b then Some new else find (λ (one : SentCommand). bytes_eq one.numbering.poi poi) sent) apart ∙ peer.last.last;
    booked = peer.last.booked;
    only = peer.last.only;
  };
}
peer-other setting poi exchanges number items new sent talk (Serving (EndOfDay header period) last) apart peer = peer
peer-other setting poi exchanges number items new sent talk (Serving (Display header results) last) apart peer = peer
peer-other setting poi exchanges number items new sent talk (Aside before reported) apart peer = peer

-- ---- what a command books

-- what can't cause an entry books none
no-entry : (book entries : List BookEntry) (asked : Command) → charges asked ≡ false → Books book (Some asked) entries → entries ≡ []
no-entry book [] asked plain books = refl
no-entry book (entry ∷ []) (command.Register password config_byte currency) plain books = absurd books.0
no-entry book (entry ∷ []) (command.Authorise amount currency) plain books = no-true (sym plain)
no-entry book (entry ∷ []) (command.Reverse password receipt) plain books = no-true (sym plain)
no-entry book (entry ∷ []) (command.EndOfDay password) plain books = absurd books.0
no-entry book (entry ∷ []) (command.Enquire password) plain books = absurd books.0
no-entry book (entry ∷ []) command.Stop plain books = absurd books.0
no-entry book (entry ∷ []) (command.Show lines) plain books = absurd books.0
no-entry book (entry ∷ other ∷ more) asked plain books = absurd books

-- what may cause an entry books one at most, which is of its kind
one-entry : (book entries : List BookEntry) (asked : Command) (sent : SentCommand) → charges asked ≡ true → sent.whole ≡ true → Some sent.kind ≡ kind_of_command (canonical_command asked) → Books book (Some asked) entries → BooksOne sent entries
one-entry book [] asked sent charge whole kind books = tt
one-entry book (entry ∷ []) (command.Register password config_byte currency) sent charge whole kind books = no-true charge
one-entry book (entry ∷ []) (command.Authorise amount currency) sent charge whole kind books = (whole, same-some sent.kind BookedPayment kind ∙ ap kind_played (sym (books.0).0))
one-entry book (entry ∷ []) (command.Reverse password receipt) sent charge whole kind books = (whole, same-some sent.kind BookedReversal kind ∙ ap kind_played (sym (books.0).0))
one-entry book (entry ∷ []) (command.EndOfDay password) sent charge whole kind books = no-true charge
one-entry book (entry ∷ []) (command.Enquire password) sent charge whole kind books = no-true charge
one-entry book (entry ∷ []) command.Stop sent charge whole kind books = no-true charge
one-entry book (entry ∷ []) (command.Show lines) sent charge whole kind books = no-true charge
one-entry book (entry ∷ other ∷ more) asked sent charge whole kind books = absurd books

books-of : (setting : Setting) (before : List ApduValue) (apdu : ApduValue) (asked : Command) → decode_command apdu ≡ Some asked → Books (book_of setting before) (Some asked) (entries_of (reaction_after setting before apdu))
books-of setting before apdu asked spells =
    subst (λ (o : Option Command). Books (book_of setting before) o (entries_of (reaction_after setting before apdu))) spells
    (booked setting.none (play_left setting.plays before) (book_of setting before) apdu.class (decode_command apdu))

-- a command that was sent to the POIID and whose entries are just these
last-served : (setting : Setting) (poi : List ℕ) (place : ℕ) (bytes : List ℕ) (exchanges : List PlacedExchange) (new : SentCommand) (past : Past) (entries : List BookEntry) → new.place ≡ place → new.numbering.poi ≡ poi → past.place ≡ place → AreFalling place past.commands
    → booked_by setting (exchanges_in exchanges) (Sends bytes) ≡ entries → IsHonestFor past poi (book_along setting poi exchanges) → IsLastServed setting poi (sends place bytes exchanges) (new ∷ past.commands) entries
last-served setting poi place bytes exchanges new past entries place_is poi_is now falling books h = record {
  command = new;
  last = ap (λ (b : Bool). if b then Some new else find (λ (one : SentCommand). bytes_eq one.numbering.poi poi) past.commands) (ap (λ (p : List ℕ). bytes_eq p poi) poi_is ∙ bytes-itself poi);
  booked = λ entry within. subst (λ (p : ℕ). In (placed_entry poi p entry) (book_along setting poi (sends place bytes exchanges))) (sym place_is)
      (in-second (placed_entry poi place entry) (book_along setting poi exchanges) (map (placed_entry poi place) (booked_by setting (exchanges_in exchanges) (Sends bytes)))
      (in-map (placed_entry poi place) (booked_by setting (exchanges_in exchanges) (Sends bytes)) entry (subst (λ (l : List BookEntry). In entry l) (sym books) within)));
  only = λ entry within cause. by_part entry cause (in-either entry (book_along setting poi exchanges) (map (placed_entry poi place) (booked_by setting (exchanges_in exchanges) (Sends bytes))) within);
}
  where
    by_part : (entry : BookedEntry) → entry.cause ≡ Some new.place → In entry (book_along setting poi exchanges) ⊎ In entry (map (placed_entry poi place) (booked_by setting (exchanges_in exchanges) (Sends bytes)))
        → (one : BookEntry) × In one entries × (entry ≡ placed_entry poi new.place one)
    by_part entry cause (inl before) =
        let had : HasCommand past poi entry = h.commanded entry before in
        let same : had.command.place ≡ new.place = same-some had.command.place new.place (sym had.cause_is ∙ cause) in
        let below : had.command.place < place = sent-below place past.commands falling had.command had.sent in
        absurd (omega (arith, same, below, place_is))
    by_part entry cause (inr here) =
        let found = from-map (placed_entry poi place) (booked_by setting (exchanges_in exchanges) (Sends bytes)) entry here in
        (found.0, subst (λ (l : List BookEntry). In found.0 l) books found.1, found.2 ∙ ap (λ (p : ℕ). placed_entry poi p found.0) (sym place_is))

-- ---- a terminal is sent something

-- a terminal of this number is there, and is linked
record IsThere (core : Core) (pt : ℕ) : Type 0 where
  terminal : Terminal
  found : slice_get core.terminals pt ≡ Some terminal
  linked : is_linked terminal.standing ≡ true

-- what is sent something is linked
sent-there : (log : List Turn) (v : View) (pt : ℕ) (sending : Sending) → Ordered log v → v.calls ≡ SendPt pt sending ∷ [] → IsThere v.scene.core pt
sent-there log v pt sending o calls = by_found (slice_get v.scene.core.terminals pt) refl
  where
    s : Settled v
    s = call-settled v (SendPt pt sending) o.agrees (ap first_call calls)

    on : state_in v.scene.core pt ≡ On
    on = (subst (λ l. EachFits v.scene.outside.moment v.scene.core l) calls s.fits).0

    by_found : (found : Option Terminal) → slice_get v.scene.core.terminals pt ≡ found → IsThere v.scene.core pt
    by_found None is = absurd (let n : Absent ≡ On = sym (ap state_of is) ∙ on in cc)
    by_found (Some terminal) is = record { terminal = terminal; found = is; linked = on-linked terminal.standing terminal.talk (sym (ap state_of is) ∙ on) }

-- the terminal is about to be asked for this
record IsAsk (setting : Setting) (exchanges : List PlacedExchange) (number : ℕ) (items : List RoundItem) (terminal : Terminal) (sending : Sending) (asked : Command) : Type 0 where
  quiet : IsQuiet setting exchanges number items
  sending_is : sending ≡ Ask asked
  digits : HasCommandDigits asked
  sizes : HasCommandSizes asked
  dialogue : Dialogue
  begins : dialogue_kind_of asked ≡ Some dialogue.dialogue_kind
  talk_is : terminal.talk ≡ Some (talk_after dialogue [])

-- the terminal is sent an acknowledgement, a refusal or a stop, at which a played one is silent
record IsTakenInSilence (sending : Sending) : Type 0 where
  apdu : ApduValue
  one : IsOneApdu (sending_bytes sending) apdu
  silent : IsSilentAt apdu
  plain : sending_charges sending ≡ false

-- what the send leaves of the terminal's dialogue and of its book
record IsSentTo (setting : Setting) (number : ℕ) (items : List RoundItem) (terminal : Terminal) (whole : Type 0) (exchanges : List PlacedExchange) (commands : List SentCommand) (next : Past) : Type 0 where
  own : whole → IsPeerIn setting terminal.pt.poi exchanges number items commands terminal.talk terminal.standing
  honest : IsHonestFor next terminal.pt.poi (book_along setting terminal.pt.poi exchanges)

part-not-whole : (laws : PeerLaws) (bytes whole : List ℕ) (apdu : ApduValue) → IsOneApdu whole apdu → decode_apdus bytes ≡ record { apdus = []; rest = bytes } → bytes ≡ whole → ⊥
part-not-whole laws bytes whole apdu one part is =
    let e : [] ≡ apdu ∷ [] = ap (λ (d : DecodedApdus). d.apdus) (sym part ∙ ap decode_apdus is ∙ one-decoded laws.all.stream whole apdu one) in
    absurd cc

-- the command that begins no dialogue is a stop
stop-is : (asked : Command) → begins_dialogue asked ≡ false → asked ≡ command.Stop
stop-is (command.Register password config_byte currency) none = no-true (sym none)
stop-is (command.Authorise amount currency) none = no-true (sym none)
stop-is (command.Reverse password receipt) none = no-true (sym none)
stop-is (command.EndOfDay password) none = no-true (sym none)
stop-is (command.Enquire password) none = no-true (sym none)
stop-is command.Stop none = refl
stop-is (command.Show lines) none = no-true (sym none)

asked-first : (pt : ℕ) (asked : Command) (sending : Sending) → In (SendPt pt (Ask asked)) (SendPt pt sending ∷ []) → sending ≡ Ask asked
asked-first pt asked sending (inl same) = let e : SendPt pt (Ask asked) ≡ SendPt pt sending = same in cc
asked-first pt asked sending (inr none) = absurd none

-- the command that is sent with these bytes
abbrev command_sent : Scene → Past → Numbering → List ℕ → BookedKind → SentCommand
command_sent scene past numbering bytes kind = record { place = past.place; numbering = numbering; kind = kind; whole = nat_lt 0 (length (decode_apdus bytes).apdus); key = open_key scene.kept numbering.poi }

-- nothing may charge: the past's place alone is new
abbrev past_plain : Past → Past
past_plain past = past_then past past.commands past.links past.lasting past.replies past.deeds

-- a command was sent that may charge a card
abbrev past_charged : Past → SentCommand → Past
past_charged past new = past_then past (new ∷ past.commands) past.links past.lasting past.replies (past.occasion ∷ past.deeds)

-- what a dialogue is once its command was sent, which charges nothing
begun-plain : (setting : Setting) (poi : List ℕ) (exchanges : List PlacedExchange) (number : ℕ) (items : List RoundItem) (sent : List SentCommand) (talk : Option TalkFacts) (asked : Command) (standing : Standing) → charges asked ≡ false
    → BeginsStanding standing asked → IsTalking setting exchanges number items talk asked → IsPeerIn setting poi exchanges number items sent talk standing
begun-plain setting poi exchanges number items sent talk asked (Unlinked due) plain begins talking = absurd begins
begun-plain setting poi exchanges number items sent talk asked Registering plain begins talking = (begins.0, begins.1, begins.2, subst (IsTalking setting exchanges number items talk) begins.3 talking)
begun-plain setting poi exchanges number items sent talk asked Enquiring plain begins talking = (begins.0, subst (IsTalking setting exchanges number items talk) begins.1 talking)
begun-plain setting poi exchanges number items sent talk asked (Ready last) plain begins talking = absurd begins
begun-plain setting poi exchanges number items sent talk asked (Serving (Transaction slot) last) plain begins talking = no-true (sym plain ∙ begins)
begun-plain setting poi exchanges number items sent talk asked (Serving (EndOfDay header period) last) plain begins talking = record { command = asked; kind_is = begins; talking = talking }
begun-plain setting poi exchanges number items sent talk asked (Serving (Display header results) last) plain begins talking = record { command = asked; kind_is = begins; talking = talking }
begun-plain setting poi exchanges number items sent talk asked (Aside before reported) plain begins talking = absurd begins

-- the command of an end of day charges nothing
day-charges-none : (asked : Command) → dialogue_kind_of asked ≡ Some EndOfDayDialogue → charges asked ≡ false
day-charges-none (command.Register password config_byte currency) begins = refl
day-charges-none (command.Authorise amount currency) begins = absurd cc
day-charges-none (command.Reverse password receipt) begins = absurd cc
day-charges-none (command.EndOfDay password) begins = refl
day-charges-none (command.Enquire password) begins = refl
day-charges-none command.Stop begins = refl
day-charges-none (command.Show lines) begins = refl

-- nor does that of a display
display-charges-none : (asked : Command) → dialogue_kind_of asked ≡ Some DisplayDialogue → charges asked ≡ false
display-charges-none (command.Register password config_byte currency) begins = refl
display-charges-none (command.Authorise amount currency) begins = absurd cc
display-charges-none (command.Reverse password receipt) begins = absurd cc
display-charges-none (command.EndOfDay password) begins = refl
display-charges-none (command.Enquire password) begins = refl
display-charges-none command.Stop begins = refl
display-charges-none (command.Show lines) begins = refl

-- a command that charges is that of the payment or the reversal that is served
record IsCharge (asked : Command) (standing : Standing) : Type 0 where
  serves : (setting : Setting) (poi : List ℕ) (exchanges : List PlacedExchange) (number : ℕ) (items : List RoundItem) (sent : List SentCommand) (talk : Option TalkFacts)
      → IsTransacting setting poi exchanges number items sent talk → IsPeerIn setting poi exchanges number items sent talk standing

begun-charge : (asked : Command) (standing : Standing) → charges asked ≡ true → BeginsStanding standing asked → IsCharge asked standing
begun-charge asked (Unlinked due) charge begins = absurd begins
begun-charge asked Registering charge begins = no-true (sym (ap charges begins.3) ∙ charge)
begun-charge asked Enquiring charge begins = no-true (sym (ap charges begins.1) ∙ charge)
begun-charge asked (Ready last) charge begins = absurd begins
begun-charge asked (Serving (Transaction slot) last) charge begins = record { serves = λ setting poi exchanges number items sent talk transacting. transacting }
begun-charge asked (Serving (EndOfDay header period) last) charge begins = no-true (sym (day-charges-none asked begins) ∙ charge)
begun-charge asked (Serving (Display header results) last) charge begins = no-true (sym (display-charges-none asked begins) ∙ charge)
begun-charge asked (Aside before reported) charge begins = absurd begins

module _ (laws : PeerLaws) (settings : List ℕ → Setting) (log : List Turn) (v : View) (past : Past) (exchanges : List ℕ → List PlacedExchange) (pt : ℕ) (sending : Sending) (bytes : List ℕ) (o : Ordered log v) (p : Plays settings v past exchanges)
    (last : IsLast v (SendPt pt sending)) (t : IsThere v.scene.core pt) (first : IsPrefix bytes (sending_bytes sending)) where
  own-peer : IsPeer (ask_owed pt v.calls) (settings t.terminal.pt.poi) (exchanges t.terminal.pt.poi) pt v.items past.commands v.calls t.terminal
  own-peer = p.peers last.clear pt t.terminal t.found t.linked (last-cuts v (SendPt pt sending) pt last refl)

  -- the terminal is asked, or it is sent an acknowledgement, a refusal or a stop
  abbrev IsOfKind : Type 0
  IsOfKind = ((asked : Command) × IsAsk (settings t.terminal.pt.poi) (exchanges t.terminal.pt.poi) pt v.items t.terminal sending asked × BeginsStanding t.terminal.standing asked)
      ⊎ (IsTakenInSilence sending × IsPeerIn (settings t.terminal.pt.poi) t.terminal.pt.poi (exchanges t.terminal.pt.poi) pt v.items past.commands t.terminal.talk t.terminal.standing)

  kind-is : (one : Sending) → one ≡ sending → IsOfKind
  kind-is (Ask asked) e = by_begins (begins_dialogue asked) refl
    where
      owed : ask_owed pt v.calls ≡ begins_dialogue asked
      owed = ap (ask_owed pt) last.calls_are ∙ ap (λ (s : Sending). ask_owed pt (SendPt pt s ∷ [])) (sym e) ∙ ap (λ (b : Bool). (b && begins_dialogue asked) || false) (eq-eqb pt pt refl) ∙ alone (begins_dialogue asked)

      by_begins : (b : Bool) → begins_dialogue asked ≡ b → IsOfKind
      by_begins true begins =
          let to : IsToBeAsked (settings t.terminal.pt.poi) (exchanges t.terminal.pt.poi) pt v.items v.calls t.terminal =
          subst (λ (b : Bool). IsPeer b (settings t.terminal.pt.poi) (exchanges t.terminal.pt.poi) pt v.items past.commands v.calls t.terminal) (owed ∙ begins) own-peer in
          inl (
            to.command,
            record {
              quiet = to.quiet;
              sending_is = asked-first pt to.command sending (subst (λ (l : List OwedCall). In (SendPt pt (Ask to.command)) l) last.calls_are to.owed);
              digits = to.digits;
              sizes = to.sizes;
              dialogue = to.dialogue;
              begins = to.begins;
              talk_is = to.talk_is;
            },
            to.of_standing,
          )
      by_begins false begins =
          let is : Ask command.Stop ≡ sending = ap Ask (sym (stop-is asked begins)) ∙ e in
          inr (
            record { apdu = command_apdu command.Stop; one = subst (λ (s : Sending). IsOneApdu (sending_bytes s) (command_apdu command.Stop)) is stop-is-one; silent = stop-silent; plain = ap sending_charges (sym is) },
            subst (λ (b : Bool). IsPeer b (settings t.terminal.pt.poi) (exchanges t.terminal.pt.poi) pt v.items past.commands v.calls t.terminal) (owed ∙ begins) own-peer,
          )
  kind-is Acknowledge e =
      let owed : ask_owed pt v.calls ≡ false = ap (ask_owed pt) last.calls_are ∙ ap (λ (s : Sending). ask_owed pt (SendPt pt s ∷ [])) (sym e) in
      inr (
        record { apdu = acknowledgement; one = subst (λ (s : Sending). IsOneApdu (sending_bytes s) acknowledgement) e acknowledgement-is-one; silent = acknowledgement-silent; plain = ap sending_charges (sym e) },
        subst (λ (b : Bool). IsPeer b (settings t.terminal.pt.poi) (exchanges t.terminal.pt.poi) pt v.items past.commands v.calls t.terminal) owed own-peer,
      )
  kind-is Refuse e =
      let owed : ask_owed pt v.calls ≡ false = ap (ask_owed pt) last.calls_are ∙ ap (λ (s : Sending). ask_owed pt (SendPt pt s ∷ [])) (sym e) in
      inr (
        record { apdu = refusal; one = subst (λ (s : Sending). IsOneApdu (sending_bytes s) refusal) e refusal-is-one; silent = refusal-silent; plain = ap sending_charges (sym e) },
        subst (λ (b : Bool). IsPeer b (settings t.terminal.pt.poi) (exchanges t.terminal.pt.poi) pt v.items past.commands v.calls t.terminal) owed own-peer,
      )

  -- the terminal waits for no bytes before
  waits-for-none : IsOfKind → WaitsForNone (exchanges t.terminal.pt.poi)
  waits-for-none (inl asks) = (asks.1).quiet.waits
  waits-for-none (inr own) =
      peer-waits (settings t.terminal.pt.poi) t.terminal.pt.poi (exchanges t.terminal.pt.poi) pt v.items past.commands t.terminal.talk t.terminal.standing t.linked own.1

  -- where a first part alone was sent, it books nothing
  part-none : decode_apdus bytes ≡ record { apdus = []; rest = bytes } → booked_by (settings t.terminal.pt.poi) (exchanges_in (exchanges t.terminal.pt.poi)) (Sends bytes) ≡ []
  part-none part =
      let setting : Setting = settings t.terminal.pt.poi in
      let mine : List PlacedExchange = exchanges t.terminal.pt.poi in
      booked-none setting (exchanges_in mine) bytes (part-books-none laws.all.stream setting (met_in mine) bytes part (waits-for-none (kind-is sending refl)))

  -- where it books nothing, and no command is recorded, its book stays honest
  plain-honest : booked_by (settings t.terminal.pt.poi) (exchanges_in (exchanges t.terminal.pt.poi)) (Sends bytes) ≡ [] → IsHonestFor (past_plain past) t.terminal.pt.poi (book_along (settings t.terminal.pt.poi) t.terminal.pt.poi (sends past.place bytes (exchanges t.terminal.pt.poi)))
  plain-honest none =
      let poi : List ℕ = t.terminal.pt.poi in
      subst (IsHonestFor (past_plain past) poi) (sym (book-stays (settings poi) poi past.place bytes (exchanges poi) none))
      (honest-place past (past_plain past) poi (book_along (settings poi) poi (exchanges poi)) p.falling (omega arith) refl refl refl (p.honest poi))

  -- nothing that may charge a card was sent to it
  abbrev IsPlainSent : Type 0
  IsPlainSent = IsSentTo (settings t.terminal.pt.poi) pt v.items t.terminal (bytes ≡ sending_bytes sending) (sends past.place bytes (exchanges t.terminal.pt.poi)) past.commands (past_plain past)

  own-plain : may_charge bytes ≡ false → IsPlainSent
  own-plain plain = by_kind (kind-is sending refl)
    where
      by_silence : (a : IsTakenInSilence sending) → IsPeerIn (settings t.terminal.pt.poi) t.terminal.pt.poi (exchanges t.terminal.pt.poi) pt v.items past.commands t.terminal.talk t.terminal.standing
          → (bytes ≡ sending_bytes sending) ⊎ (decode_apdus bytes ≡ record { apdus = []; rest = bytes }) → IsPlainSent
      by_silence a peer (inl whole) =
          let c : ChangesNothing (settings t.terminal.pt.poi) (met_in (exchanges t.terminal.pt.poi)) bytes =
          silent-changes-nothing laws.all.stream (settings t.terminal.pt.poi) (met_in (exchanges t.terminal.pt.poi)) bytes a.apdu (subst (λ (b : List ℕ). IsOneApdu b a.apdu) (sym whole) a.one) a.silent (waits-for-none (kind-is sending refl)) in
          record {
            own = λ all. peer-still (settings t.terminal.pt.poi) t.terminal.pt.poi (exchanges t.terminal.pt.poi) pt v.items past.place bytes c past.commands t.terminal.talk t.terminal.standing peer;
            honest = plain-honest (booked-none (settings t.terminal.pt.poi) (exchanges_in (exchanges t.terminal.pt.poi)) bytes c.book_is);
          }
      by_silence a peer (inr part) = record { own = λ all. absurd (part-not-whole laws bytes (sending_bytes sending) a.apdu a.one part all); honest = plain-honest (part-none part) }

      by_ask : (asked : Command) (a : IsAsk (settings t.terminal.pt.poi) (exchanges t.terminal.pt.poi) pt v.items t.terminal sending asked) → BeginsStanding t.terminal.standing asked
          → (bytes ≡ canonical_command asked) ⊎ (decode_apdus bytes ≡ record { apdus = []; rest = bytes }) → IsPlainSent
      by_ask asked a begins (inl whole) =
          let uncharged : charges asked ≡ false = false_from_ne_true (charges asked) (λ charge. no-true (sym (ap may_charge (sym whole) ∙ plain) ∙ charged (Ask asked) charge)) in
          let none : booked_by (settings t.terminal.pt.poi) (exchanges_in (exchanges t.terminal.pt.poi)) (Sends bytes) ≡ [] =
          ap (λ (b : List ℕ). booked_by (settings t.terminal.pt.poi) (exchanges_in (exchanges t.terminal.pt.poi)) (Sends b)) whole
          ∙ asked-books laws (settings t.terminal.pt.poi) (exchanges t.terminal.pt.poi) pt v.items past.place asked a.quiet a.digits a.sizes
          ∙ no-entry (book_of (settings t.terminal.pt.poi) (all_handled (settings t.terminal.pt.poi) (met_in (exchanges t.terminal.pt.poi)))) (entries_of (reaction_after (settings t.terminal.pt.poi) (all_handled (settings t.terminal.pt.poi) (met_in (exchanges t.terminal.pt.poi))) (command_apdu asked))) asked uncharged (books-of (settings t.terminal.pt.poi) (all_handled (settings t.terminal.pt.poi) (met_in (exchanges t.terminal.pt.poi))) (command_apdu asked) asked (command-spelled laws asked a.digits a.sizes)) in
          record {
            own = λ all. begun-plain (settings t.terminal.pt.poi) t.terminal.pt.poi (sends past.place bytes (exchanges t.terminal.pt.poi)) pt v.items past.commands t.terminal.talk asked t.terminal.standing uncharged begins
                (subst (λ (b : List ℕ). IsTalking (settings t.terminal.pt.poi) (sends past.place b (exchanges t.terminal.pt.poi)) pt v.items t.terminal.talk asked) (sym whole)
                (begins-talking laws (settings t.terminal.pt.poi) (exchanges t.terminal.pt.poi) pt v.items past.place asked a.quiet a.digits a.sizes a.dialogue t.terminal.talk a.begins a.talk_is));
            honest = plain-honest none;
          }
      by_ask asked a begins (inr part) = record {
        own = λ all. absurd (part-not-whole laws bytes (canonical_command asked) (command_apdu asked) (command-is-one laws asked a.digits a.sizes) part (all ∙ ap sending_bytes a.sending_is));
        honest = plain-honest (part-none part);
      }

      by_kind : IsOfKind → IsPlainSent
      by_kind (inl asks) =
          by_ask asks.0 asks.1 asks.2 (part-of-one laws.all.stream bytes (canonical_command asks.0) (command_apdu asks.0) (command-is-one laws asks.0 (asks.1).digits (asks.1).sizes) (subst (λ (b : List ℕ). IsPrefix bytes b) (ap sending_bytes (asks.1).sending_is) first))
      by_kind (inr own) = by_silence own.0 own.1 (part-of-one laws.all.stream bytes (sending_bytes sending) (own.0).apdu (own.0).one first)

  -- the beginning of a command that may charge a card was sent to it
  abbrev new_command : BookedKind → SentCommand
  new_command kind = command_sent v.scene past (numbering_of_number v.scene pt) bytes kind

  abbrev IsChargeSent : BookedKind → Type 0
  IsChargeSent kind = IsSentTo (settings t.terminal.pt.poi) pt v.items t.terminal (bytes ≡ sending_bytes sending) (sends past.place bytes (exchanges t.terminal.pt.poi)) (new_command kind ∷ past.commands) (past_charged past (new_command kind))

  own-charged : (kind : BookedKind) → kind_of_command bytes ≡ Some kind → IsChargeSent kind
  own-charged kind kind_is = by_kind (kind-is sending refl)
    where
      poi_same : poi_of_number v.scene pt ≡ t.terminal.pt.poi
      poi_same = poi-is v.scene pt t.terminal t.found

      charges_card : sending_charges sending ≡ true
      charges_card = charging sending bytes first (ap (λ (found : Option BookedKind). is_some found) kind_is)

      honest_then : BooksOne (new_command kind) (booked_by (settings t.terminal.pt.poi) (exchanges_in (exchanges t.terminal.pt.poi)) (Sends bytes))
          → IsHonestFor (past_charged past (new_command kind)) t.terminal.pt.poi (book_along (settings t.terminal.pt.poi) t.terminal.pt.poi (sends past.place bytes (exchanges t.terminal.pt.poi)))
      honest_then books = honest-command laws (settings t.terminal.pt.poi) t.terminal.pt.poi past (past_charged past (new_command kind)) (exchanges t.terminal.pt.poi) bytes (new_command kind) p.falling p.heard_before p.ends p.linked_before (omega arith) refl poi_same refl refl refl books
          (p.honest t.terminal.pt.poi)

      by_ask : (asked : Command) → charges asked ≡ true → (a : IsAsk (settings t.terminal.pt.poi) (exchanges t.terminal.pt.poi) pt v.items t.terminal sending asked)
          → (IsTransacting (settings t.terminal.pt.poi) t.terminal.pt.poi (sends past.place bytes (exchanges t.terminal.pt.poi)) pt v.items ((new_command kind) ∷ past.commands) t.terminal.talk
          → IsPeerIn (settings t.terminal.pt.poi) t.terminal.pt.poi (sends past.place bytes (exchanges t.terminal.pt.poi)) pt v.items ((new_command kind) ∷ past.commands) t.terminal.talk t.terminal.standing)
          → (bytes ≡ canonical_command asked) ⊎ (decode_apdus bytes ≡ record { apdus = []; rest = bytes }) → IsChargeSent kind
      by_ask asked charges_it a serves (inl whole) =
          let setting : Setting = settings t.terminal.pt.poi in
          let mine : List PlacedExchange = exchanges t.terminal.pt.poi in
          let before : List ApduValue = all_handled setting (met_in mine) in
          let entries : List BookEntry = entries_of (reaction_after setting before (command_apdu asked)) in
          let all_books : booked_by setting (exchanges_in mine) (Sends (canonical_command asked)) ≡ entries = asked-books laws setting mine pt v.items past.place asked a.quiet a.digits a.sizes in
          let books : booked_by setting (exchanges_in mine) (Sends bytes) ≡ entries = ap (λ (b : List ℕ). booked_by setting (exchanges_in mine) (Sends b)) whole ∙ all_books in
          let whole_is : nat_lt 0 (length (decode_apdus bytes).apdus) ≡ true =
          ap (λ (d : DecodedApdus). nat_lt 0 (length d.apdus)) (ap decode_apdus whole ∙ one-decoded laws.all.stream (canonical_command asked) (command_apdu asked) (command-is-one laws asked a.digits a.sizes)) in
          let asked_kind : Some kind ≡ kind_of_command (canonical_command asked) = sym kind_is ∙ ap kind_of_command whole in
          record {
            own = λ all. serves (subst (λ (b : List ℕ). IsTransacting setting t.terminal.pt.poi (sends past.place b mine) pt v.items ((new_command kind) ∷ past.commands) t.terminal.talk) (sym whole)
                (begins-transacting laws setting t.terminal.pt.poi mine pt v.items past.place asked ((new_command kind) ∷ past.commands) a.dialogue t.terminal.talk charges_it a.quiet a.digits a.sizes a.begins a.talk_is
                (last-served setting t.terminal.pt.poi past.place (canonical_command asked) mine (new_command kind) past entries refl poi_same refl p.falling all_books (p.honest t.terminal.pt.poi))));
            honest = honest_then (subst (BooksOne (new_command kind)) (sym books) (one-entry (book_of setting before) entries asked (new_command kind) charges_it whole_is asked_kind (books-of setting before (command_apdu asked) asked (command-spelled laws asked a.digits a.sizes))));
          }
      by_ask asked charges_it a serves (inr part) = record {
        own = λ all. absurd (part-not-whole laws bytes (canonical_command asked) (command_apdu asked) (command-is-one laws asked a.digits a.sizes) part (all ∙ ap sending_bytes a.sending_is));
        honest = honest_then (subst (BooksOne (new_command kind)) (sym (part-none part)) tt);
      }

      by_charge : (asked : Command) → charges asked ≡ true → IsAsk (settings t.terminal.pt.poi) (exchanges t.terminal.pt.poi) pt v.items t.terminal sending asked → IsCharge asked t.terminal.standing → IsChargeSent kind
      by_charge asked charges_it a c =
          by_ask asked charges_it a (c.serves (settings t.terminal.pt.poi) t.terminal.pt.poi (sends past.place bytes (exchanges t.terminal.pt.poi)) pt v.items ((new_command kind) ∷ past.commands) t.terminal.talk)
          (part-of-one laws.all.stream bytes (canonical_command asked) (command_apdu asked) (command-is-one laws asked a.digits a.sizes) (subst (λ (b : List ℕ). IsPrefix bytes b) (ap sending_bytes a.sending_is) first))

      by_kind : IsOfKind → IsChargeSent kind
      by_kind (inl asks) =
          let charges_it : charges asks.0 ≡ true = sym (ap sending_charges (asks.1).sending_is) ∙ charges_card in
          by_charge asks.0 charges_it asks.1 (begun-charge asks.0 t.terminal.standing charges_it asks.2)
      by_kind (inr own) = no-true (sym (own.0).plain ∙ charges_card)

-- ---- what was done on the connections

-- this was done at a place on the connection of the terminal of this number
abbrev pub done_at : Scene → ℕ → ℕ → Exchange → (List ℕ → List PlacedExchange) → List ℕ → List PlacedExchange
done_at scene pt place what exchanges poi = map (λ (exchange : Exchange). let one : PlacedExchange = record { place = place; exchange = exchange } in one) (where_poi scene poi pt what) ++ exchanges poi

pub done-own : (scene : Scene) (pt place : ℕ) (what : Exchange) (exchanges : List ℕ → List PlacedExchange) (poi : List ℕ) → bytes_eq (poi_of_number scene pt) poi ≡ true → done_at scene pt place what exchanges poi ≡ record { place = place; exchange = what } ∷ exchanges poi
done-own scene pt place what exchanges poi e =
    ap (λ (b : Bool). map (λ (exchange : Exchange). let one : PlacedExchange = record { place = place; exchange = exchange } in one) (if b then what ∷ [] else []) ++ exchanges poi) e

pub done-other : (scene : Scene) (pt place : ℕ) (what : Exchange) (exchanges : List ℕ → List PlacedExchange) (poi : List ℕ) → bytes_eq (poi_of_number scene pt) poi ≡ false → done_at scene pt place what exchanges poi ≡ exchanges poi
done-other scene pt place what exchanges poi e =
    ap (λ (b : Bool). map (λ (exchange : Exchange). let one : PlacedExchange = record { place = place; exchange = exchange } in one) (if b then what ∷ [] else []) ++ exchanges poi) e

-- it is of the POIID or not
pub by-poi : {A : Type 0} (scene : Scene) (pt : ℕ) (poi : List ℕ) → (bytes_eq (poi_of_number scene pt) poi ≡ true → A) → (bytes_eq (poi_of_number scene pt) poi ≡ false → A) → A
by-poi {A} scene pt poi own other = by_test (bytes_eq (poi_of_number scene pt) poi) refl
  where
    by_test : (test : Bool) → bytes_eq (poi_of_number scene pt) poi ≡ test → A
    by_test true e = own e
    by_test false e = other e

pub done-places : (scene : Scene) (pt place : ℕ) (what : Exchange) (exchanges : List ℕ → List PlacedExchange) (poi : List ℕ) → ((one : PlacedExchange) → In one (exchanges poi) → one.place < place)
    → (one : PlacedExchange) → In one (done_at scene pt place what exchanges poi) → one.place < place + 1
done-places scene pt place what exchanges poi before one within = by-poi scene pt poi
    (λ own. first (subst (λ (l : List PlacedExchange). In one l) (done-own scene pt place what exchanges poi own) within))
    (λ other. let below : one.place < place = before one (subst (λ (l : List PlacedExchange). In one l) (done-other scene pt place what exchanges poi other) within) in omega (arith, below))
  where
    first : In one (record { place = place; exchange = what } ∷ exchanges poi) → one.place < place + 1
    first (inl same) = let is : one.place ≡ place = ap (λ (x : PlacedExchange). x.place) same in omega (arith, is)
    first (inr rest) = let below : one.place < place = before one rest in omega (arith, below)

-- ---- a send was made

-- the call was made, and these are owed
abbrev called_with : View → Turn → List OwedCall → View
called_with v turn calls = record v { scene = called v.scene turn; calls = calls }

module _ (settings : List ℕ → Setting) (log : List Turn) (v : View) (past : Past) (exchanges : List ℕ → List PlacedExchange) (pt : ℕ) (sending : Sending) (bytes : List ℕ) (o : Ordered log v) (p : Plays settings v past exchanges)
    (last : IsLast v (SendPt pt sending)) (t : IsThere v.scene.core pt) (sent : Bool) (calls : List OwedCall) (spare : AreSpare calls) (cut : (bytes ≡ sending_bytes sending) ⊎ (cut_owed pt calls ≡ true)) where
  abbrev Y : List ℕ → List PlacedExchange
  Y = done_at v.scene pt past.place (Sends bytes) exchanges

  -- a send to one terminal asks another nothing
  others-unasked : (number : ℕ) → pt ≢ number → ask_owed number v.calls ≡ false
  others-unasked number differs = ap (ask_owed number) last.calls_are ∙ by_sending sending
    where
      by_sending : (one : Sending) → ask_owed number (SendPt pt one ∷ []) ≡ false
      by_sending (Ask asked) = ap (λ (b : Bool). (b && begins_dialogue asked) || false) (not-number pt number differs)
      by_sending Acknowledge = refl
      by_sending Refuse = refl

  own-poi : poi_of_number v.scene pt ≡ t.terminal.pt.poi
  own-poi = poi-is v.scene pt t.terminal t.found

  own-done : Y t.terminal.pt.poi ≡ sends past.place bytes (exchanges t.terminal.pt.poi)
  own-done = done-own v.scene pt past.place (Sends bytes) exchanges t.terminal.pt.poi (ap (λ (poi : List ℕ). bytes_eq poi t.terminal.pt.poi) own-poi ∙ bytes-itself t.terminal.pt.poi)

  -- with what it leaves of the terminal, and of the others, what holds goes on
  sent-plays : (commands : List SentCommand) (deeds : List Occasion) → AreFalling (past.place + 1) commands
      → ((poi : List ℕ) (ending : Ending) → IsOfCommand past.commands poi ending → IsOfCommand commands poi ending)
      → (list_any is_handle v.items ≡ true → (one : SentCommand) → In one commands → one.place < past.heard)
      → ((poi : List ℕ) (number : ℕ) (talk : Option TalkFacts) (standing : Standing) → bytes_eq (poi_of_number v.scene pt) poi ≡ false → IsPeerIn (settings poi) poi (exchanges poi) number v.items past.commands talk standing
      → IsPeerIn (settings poi) poi (exchanges poi) number v.items commands talk standing)
      → ((poi : List ℕ) → bytes_eq (poi_of_number v.scene pt) poi ≡ false → IsHonestFor (past_then past commands past.links past.lasting past.replies deeds) poi (book_along (settings poi) poi (exchanges poi)))
      → IsSentTo (settings t.terminal.pt.poi) pt v.items t.terminal (bytes ≡ sending_bytes sending) (sends past.place bytes (exchanges t.terminal.pt.poi)) commands (past_then past commands past.links past.lasting past.replies deeds)
      → Plays settings (called_with v (SentPt pt bytes sent) calls) (past_then past commands past.links past.lasting past.replies deeds) Y
  sent-plays commands deeds falling ends calm others honest own = record {
    peers = λ clear number terminal found linked uncut. by-number number pt (λ same. own_peer number terminal found uncut same) (λ differs. other_peer number terminal found linked (λ same. differs (sym same)));
    unlinked = p.unlinked;
    linking = λ number owed. no-true (sym (spare.links number) ∙ owed);
    heard = λ number terminal found connected. heard_same terminal.pt.poi ∙ p.heard number terminal found connected;
    calm = calm;
    uncharged = λ handles number. spare.charges_none number;
    served = p.served;
    heard_before = let before = p.heard_before in omega (arith, before);
    falling = falling;
    linked_before = λ link within. let before = p.linked_before link within in omega (arith, before);
    ends = λ end within. let e = p.ends end within in (ends end.numbering.poi end.ending e.0, e.1, e.2);
    made = p.made;
    places = λ poi. done-places v.scene pt past.place (Sends bytes) exchanges poi (p.places poi);
    honest = λ poi. by-poi v.scene pt poi (own_honest poi) (λ other. subst (λ (l : List PlacedExchange). IsHonestFor next poi (book_along (settings poi) poi l)) (sym (done-other v.scene pt past.place (Sends bytes) exchanges poi other)) (honest poi other));
  }
    where
      next : Past
      next = past_then past commands past.links past.lasting past.replies deeds

      by_cut : (bytes ≡ sending_bytes sending) ⊎ (cut_owed pt calls ≡ true) → cut_owed pt calls ≡ false → bytes ≡ sending_bytes sending
      by_cut (inl whole) uncut = whole
      by_cut (inr owed) uncut = no-true (sym uncut ∙ owed)

      own_peer : (number : ℕ) (terminal : Terminal) → slice_get v.scene.core.terminals number ≡ Some terminal → cut_owed number calls ≡ false → pt ≡ number
          → IsPeer (ask_owed number calls) (settings terminal.pt.poi) (Y terminal.pt.poi) number v.items commands calls terminal
      own_peer number terminal found uncut same =
          let is : t.terminal ≡ terminal = same-some t.terminal terminal (sym t.found ∙ ap (slice_get v.scene.core.terminals) same ∙ found) in
          let whole : bytes ≡ sending_bytes sending = by_cut cut (ap (λ (n : ℕ). cut_owed n calls) same ∙ uncut) in
          subst (λ (u : Terminal). IsPeer (ask_owed number calls) (settings u.pt.poi) (Y u.pt.poi) number v.items commands calls u) is
          (subst (λ (n : ℕ). IsPeer (ask_owed n calls) (settings t.terminal.pt.poi) (Y t.terminal.pt.poi) n v.items commands calls t.terminal) same
          (subst (λ (b : Bool). IsPeer b (settings t.terminal.pt.poi) (Y t.terminal.pt.poi) pt v.items commands calls t.terminal) (sym (spare.asks pt))
          (subst (λ (l : List PlacedExchange). IsPeerIn (settings t.terminal.pt.poi) t.terminal.pt.poi l pt v.items commands t.terminal.talk t.terminal.standing) (sym own-done) (own.own whole))))

      other_peer : (number : ℕ) (terminal : Terminal) → slice_get v.scene.core.terminals number ≡ Some terminal → is_linked terminal.standing ≡ true → pt ≢ number
          → IsPeer (ask_owed number calls) (settings terminal.pt.poi) (Y terminal.pt.poi) number v.items commands calls terminal
      other_peer number terminal found linked differs =
          let k = call-setup v (SendPt pt sending) o.agrees.run (ap first_call last.calls_are) in
          let apart : bytes_eq (poi_of_number v.scene pt) terminal.pt.poi ≡ false = ap (λ (poi : List ℕ). bytes_eq poi terminal.pt.poi) own-poi ∙ apart-pois log v k pt number t.terminal terminal o differs t.found found in
          let before : IsPeerIn (settings terminal.pt.poi) terminal.pt.poi (exchanges terminal.pt.poi) number v.items past.commands terminal.talk terminal.standing =
          subst (λ (b : Bool). IsPeer b (settings terminal.pt.poi) (exchanges terminal.pt.poi) number v.items past.commands v.calls terminal) (others-unasked number differs)
          (p.peers last.clear number terminal found linked (last-cuts v (SendPt pt sending) number last refl)) in
          subst (λ (b : Bool). IsPeer b (settings terminal.pt.poi) (Y terminal.pt.poi) number v.items commands calls terminal) (sym (spare.asks number))
          (subst (λ (l : List PlacedExchange). IsPeerIn (settings terminal.pt.poi) terminal.pt.poi l number v.items commands terminal.talk terminal.standing) (sym (done-other v.scene pt past.place (Sends bytes) exchanges terminal.pt.poi apart))
          (others terminal.pt.poi number terminal.talk terminal.standing apart before))

      heard_same : (poi : List ℕ) → heard_on_link (exchanges_in (Y poi)) ≡ heard_on_link (exchanges_in (exchanges poi))
      heard_same poi = by-poi v.scene pt poi
          (λ own. ap (λ (l : List PlacedExchange). heard_on_link (exchanges_in l)) (done-own v.scene pt past.place (Sends bytes) exchanges poi own))
          (λ other. ap (λ (l : List PlacedExchange). heard_on_link (exchanges_in l)) (done-other v.scene pt past.place (Sends bytes) exchanges poi other))

      own_honest : (poi : List ℕ) → bytes_eq (poi_of_number v.scene pt) poi ≡ true → IsHonestFor next poi (book_along (settings poi) poi (Y poi))
      own_honest poi e =
          let is : t.terminal.pt.poi ≡ poi = sym own-poi ∙ bytes-are (poi_of_number v.scene pt) poi e in
          subst (λ (q : List ℕ). IsHonestFor next q (book_along (settings q) q (Y q))) is
          (subst (λ (l : List PlacedExchange). IsHonestFor next t.terminal.pt.poi (book_along (settings t.terminal.pt.poi) t.terminal.pt.poi l)) (sym own-done) own.honest)

-- by the bytes that are sent
sent-by-bytes : (laws : PeerLaws) (settings : List ℕ → Setting) (log : List Turn) (v : View) (past : Past) (exchanges : List ℕ → List PlacedExchange) (pt : ℕ) (sending : Sending) (bytes : List ℕ) → Ordered log v → Plays settings v past exchanges
    → first_call v.calls ≡ Some (SendPt pt sending) → IsPrefix bytes (sending_bytes sending) → (sent : Bool) (calls : List OwedCall) → AreSpare calls → (bytes ≡ sending_bytes sending) ⊎ (cut_owed pt calls ≡ true)
    → Plays settings (called_with v (SentPt pt bytes sent) calls) (record (with_sent_bytes v.scene (numbering_of_number v.scene pt) bytes past (kind_of_command bytes)) { place = past.place + 1 }) (done_at v.scene pt past.place (Sends bytes) exchanges)
sent-by-bytes laws settings log v past exchanges pt sending bytes o p next first sent calls spare cut = by-kind (kind_of_command bytes) refl
  where
    last : IsLast v (SendPt pt sending)
    last = is-last log v (SendPt pt sending) o next refl (λ more. refl)

    t : IsThere v.scene.core pt
    t = sent-there log v pt sending o last.calls_are

    -- no item handles what a terminal has said where a charge is owed
    no_charge : may_charge bytes ≡ true → list_any is_handle v.items ≡ true → ⊥
    no_charge charge handles =
        let owed : charge_owed pt v.calls ≡ true =
        ap (charge_owed pt) last.calls_are ∙ ap (λ (b : Bool). (b && sending_charges sending) || false) (eq-eqb pt pt refl) ∙ ap (λ (b : Bool). b || false) (charging sending bytes first charge) in
        no-true (sym (p.uncharged handles pt) ∙ owed)

    by-kind : (found : Option BookedKind) → kind_of_command bytes ≡ found
        → Plays settings (called_with v (SentPt pt bytes sent) calls) (record (with_sent_bytes v.scene (numbering_of_number v.scene pt) bytes past found) { place = past.place + 1 }) (done_at v.scene pt past.place (Sends bytes) exchanges)
    by-kind (Some kind) is_kind =
        let new : SentCommand = command_sent v.scene past (numbering_of_number v.scene pt) bytes kind in
        sent-plays settings log v past exchanges pt sending bytes o p last t sent calls spare cut (new ∷ past.commands) (past.occasion ∷ past.deeds) (omega arith, p.falling)
        (λ poi ending is. ends-more new past.commands poi ending is)
        (λ handles one within. absurd (no_charge (ap (λ (found : Option BookedKind). is_some found) is_kind) handles))
        (λ poi number talk standing apart peer. peer-other (settings poi) poi (exchanges poi) number v.items new past.commands talk standing apart peer)
        (λ poi apart. honest-other past (past_charged past new) poi (book_along (settings poi) poi (exchanges poi)) new p.falling (omega arith) refl refl refl (p.honest poi))
        (own-charged laws settings log v past exchanges pt sending bytes o p last t first kind is_kind)
    by-kind None is =
        sent-plays settings log v past exchanges pt sending bytes o p last t sent calls spare cut past.commands past.deeds (falling-later past.place past.commands p.falling)
        (λ poi ending is. is) p.calm (λ poi number talk standing apart peer. peer)
        (λ poi apart. honest-place past (past_plain past) poi (book_along (settings poi) poi (exchanges poi)) p.falling (omega arith) refl refl refl (p.honest poi))
        (own-plain laws settings log v past exchanges pt sending bytes o p last t first (ap (λ (found : Option BookedKind). is_some found) is))

-- a terminal is sent something, or a first part of it
pub sent-pt-plays : (laws : PeerLaws) (pt : ℕ) (bytes : List ℕ) (sent : Bool) → PlaysTurn (SentPt pt bytes sent)
sent-pt-plays laws pt bytes true settings log v past exchanges o ok hears p =
    let last : IsLast v (SendPt pt ok.0) = is-last log v (SendPt pt ok.0) o ok.1 refl (λ more. refl) in
    sent-by-bytes laws settings log v past exchanges pt ok.0 bytes o p ok.1 ([], sym ok.2 ∙ sym (append-nil bytes)) true (later v.calls) (subst AreSpare (sym last.none_later) none-spare) (inl ok.2)
sent-pt-plays laws pt bytes false settings log v past exchanges o ok hears p =
    sent-by-bytes laws settings log v past exchanges pt ok.0 bytes o p ok.1 ok.2 false (OwedCutPt pt ∷ []) (cut-spare pt) (inr (ap (λ (b : Bool). b || false) (eq-eqb pt pt refl)))
