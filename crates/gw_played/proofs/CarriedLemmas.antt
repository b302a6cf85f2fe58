-- How far the dialogue of a played terminal is, as items and exchanges change that bring nothing of it.
use Rattle.std.proofs.Common.{◌≡◌, ◌≢◌, ℕ, ◌+◌, Bool, true, false, List, [], ◌∷◌, ◌++◌, length, refl, sym, ◌∙◌, ap, subst, append-nil, eqb-true}
use Rattle.std.proofs.lemmas.Bool.{eq-eqb, or_from, or_parts}
use Rattle.std.specs.Prelude.{◌||◌, ◌==◌, not, if◌then◌else◌, is_some, map, nat_lt, Option}
use Rattle.std.specs.List.{flat_map, list_any}
use Rattle.gw_base.specs.declared.key.Key.{Key}
use Rattle.gw_site.specs.Outside.{Connection, is_connected, without, hears, heard_on}
use Rattle.sale_frame.specs.Decode.{DecodedFrames}
use Rattle.zvt_apdu.specs.Decode.{decode_apdu}
use Rattle.zvt_apdu.specs.DecodeStream.{DecodedApdus, decode_apdus}
use Rattle.zvt_apdu.specs.Grammar.{ApduValue}
use Rattle.zvt_msg.specs.declared.command.Command.{Command}
use Rattle.zvt_msg.specs.declared.command.Command.TheVariants as commands
use Rattle.zvt_msg.specs.Message.{MessageValue}
use Rattle.zvt_talk.specs.declared.dialogue_kind.DialogueKind.{DialogueKind}
use Rattle.zvt_talk.specs.declared.dialogue_kind.DialogueKind.TheVariants.{EndOfDay as EndOfDayDialogue, Display as DisplayDialogue}
use Rattle.zvt_talk.specs.Talk.{TalkFacts}
use Rattle.pt_core.specs.declared.book.BookEntry.{BookEntry}
use Rattle.pt_core.specs.Exchange.{heard_on_link}
use Rattle.pt_core.specs.History.{Setting, link_bytes, book_after, book_of, has_cut, reaction_after}
use Rattle.pt_core.specs.Table.{entries_of}
use Rattle.gw_owes.specs.declared.terminal.Service.TheVariants.{Transaction, EndOfDay, Display}
use Rattle.gw_owes.specs.declared.terminal.Standing.{Standing}
use Rattle.gw_owes.specs.declared.terminal.Standing.TheVariants.{Unlinked, Registering, Enquiring, Ready, Serving, Aside}
use Rattle.gw_owes.specs.declared.terminal.Terminal.{Terminal}
use Rattle.gw_owes.specs.Calls.{Ask, OwedCall, SendPt}
use Rattle.gw_owes.specs.Core.{Core, Wait}
use Rattle.gw_owes.specs.Events.{till_opened_items, has_bad_length, decoded_items, is_oversized, apdu_items, decoded_apdu_items, for_each_terminal, waits_by_deadline, items_due}
use Rattle.gw_owes.specs.Items.{RoundItem, Crowded, Message as MessageItem, Asked, Unframed, Gone, Greet, Handle, Serve, Queue, NextWaiting, Oversized, LinkLost, Late, Overdue, Due}
use Rattle.gw_rules.proofs.StageLemmas.{no-true}
use Rattle.gw_books.specs.Past.{SentCommand}
use Rattle.gw_books.proofs.Holding.{is_handle}
use Rattle.gw_books.proofs.ListLemmas.{In}
use Rattle.gw_played.specs.Played.{PlacedExchange, exchanges_in, placed_entry, book_along}
use Rattle.gw_played.proofs.Playing.{met_in, pending, AreMessages, IsLeft, IsQuiet, IsTalking, IsLastServed, IsTransacting, IsServing, IsPeerIn, begins_dialogue, IsPeer, brings_charge}

-- ---- items of which none handles what a terminal has said

pub none-pending : (number : ℕ) (items : List RoundItem) → list_any is_handle items ≡ false → pending number items ≡ []
none-pending number [] none = refl
none-pending number (Crowded till ∷ items) none = none-pending number items none
none-pending number (MessageItem till bytes ∷ items) none = none-pending number items none
none-pending number (Asked till as_read ∷ items) none = none-pending number items none
none-pending number (Unframed till ∷ items) none = none-pending number items none
none-pending number (Gone till ∷ items) none = none-pending number items none
none-pending number (Greet pt apdu ∷ items) none = none-pending number items none
none-pending number (Handle pt apdu ∷ items) none = no-true (sym none)
none-pending number (Serve pt till header request ∷ items) none = none-pending number items none
none-pending number (Queue pt till header request ∷ items) none = none-pending number items none
none-pending number (NextWaiting pt ∷ items) none = none-pending number items none
none-pending number (Oversized pt ∷ items) none = none-pending number items none
none-pending number (LinkLost pt ∷ items) none = none-pending number items none
none-pending number (Late pt ∷ items) none = none-pending number items none
none-pending number (Overdue key ∷ items) none = none-pending number items none
none-pending number (Due pt ∷ items) none = none-pending number items none

pub pending-append : (number : ℕ) (items more : List RoundItem) → pending number (items ++ more) ≡ pending number items ++ pending number more
pending-append number [] more = refl
pending-append number (Crowded till ∷ items) more = pending-append number items more
pending-append number (MessageItem till bytes ∷ items) more = pending-append number items more
pending-append number (Asked till as_read ∷ items) more = pending-append number items more
pending-append number (Unframed till ∷ items) more = pending-append number items more
pending-append number (Gone till ∷ items) more = pending-append number items more
pending-append number (Greet pt apdu ∷ items) more = pending-append number items more
pending-append number (Handle pt apdu ∷ items) more = by_test (pt == number) (pending-append number items more)
  where
    by_test : (test : Bool) → pending number (items ++ more) ≡ pending number items ++ pending number more
        → (if test then apdu ∷ pending number (items ++ more) else pending number (items ++ more)) ≡ (if test then apdu ∷ pending number items else pending number items) ++ pending number more
    by_test true e = ap (λ l. apdu ∷ l) e
    by_test false e = e
pending-append number (Serve pt till header request ∷ items) more = pending-append number items more
pending-append number (Queue pt till header request ∷ items) more = pending-append number items more
pending-append number (NextWaiting pt ∷ items) more = pending-append number items more
pending-append number (Oversized pt ∷ items) more = pending-append number items more
pending-append number (LinkLost pt ∷ items) more = pending-append number items more
pending-append number (Late pt ∷ items) more = pending-append number items more
pending-append number (Overdue key ∷ items) more = pending-append number items more
pending-append number (Due pt ∷ items) more = pending-append number items more

-- none of these items passes the test
abbrev none_pass : (RoundItem → Bool) → List RoundItem → Type 0
none_pass test items = list_any test items ≡ false

none-append : (test : RoundItem → Bool) (items more : List RoundItem) → none_pass test items → none_pass test more → none_pass test (items ++ more)
none-append test [] more h k = k
none-append test (item ∷ items) more h k =
    let parts = or_parts (test item) (list_any test items) h in
    or_from (test item) (list_any test (items ++ more)) parts.0 (none-append test items more parts.1 k)

none-each : (test : RoundItem → Bool) (number : ℕ) (item : ℕ → RoundItem) (terminals : List Terminal) → ((n : ℕ) → test (item n) ≡ false) → none_pass test (for_each_terminal number item terminals)
none-each test number item [] each = refl
none-each test number item (terminal ∷ terminals) each =
    or_from (test (item number)) (list_any test (for_each_terminal (number + 1) item terminals)) (each number) (none-each test (number + 1) item terminals each)

none-overdue : (test : RoundItem → Bool) (waits : List Wait) → ((key : Key) → test (Overdue key) ≡ false) → none_pass test (map (λ (wait : Wait). Overdue wait.key) waits)
none-overdue test [] each = refl
none-overdue test (wait ∷ waits) each = or_from (test (Overdue wait.key)) (list_any test (map (λ (w : Wait). Overdue w.key) waits)) (each wait.key) (none-overdue test waits each)

-- what may be due passes no test that none of its kinds passes
pub none-due : (test : RoundItem → Bool) (core : Core) → ((n : ℕ) → test (Late n) ≡ false) → ((key : Key) → test (Overdue key) ≡ false) → ((n : ℕ) → test (Due n) ≡ false) → list_any test (items_due core) ≡ false
none-due test core late overdue due =
    none-append test (for_each_terminal 0 Late core.terminals) (map (λ (wait : Wait). Overdue wait.key) (waits_by_deadline core.waits) ++ for_each_terminal 0 Due core.terminals) (none-each test 0 Late core.terminals late)
    (none-append test (map (λ (wait : Wait). Overdue wait.key) (waits_by_deadline core.waits)) (for_each_terminal 0 Due core.terminals) (none-overdue test (waits_by_deadline core.waits) overdue) (none-each test 0 Due core.terminals due))

pub due-handles-none : (core : Core) → list_any is_handle (items_due core) ≡ false
due-handles-none core = none-due is_handle core (λ n. refl) (λ key. refl) (λ n. refl)

-- with what may be due after them
pub then-due : (items : List RoundItem) (core : Core) → none_pass is_handle items → none_pass is_handle (items ++ items_due core)
then-due items core none = none-append is_handle items (items_due core) none (due-handles-none core)

pub opened-handles-none : (till : ℕ) (tills : List Connection) → none_pass is_handle (till_opened_items till tills)
opened-handles-none till tills = by_test (nat_lt (length tills) 64)
  where
    by_test : (test : Bool) → none_pass is_handle (if test then [] else Crowded till ∷ [])
    by_test true = refl
    by_test false = refl

none-messages : (till : ℕ) (payloads : List (List ℕ)) → none_pass is_handle (map (MessageItem till) payloads)
none-messages till [] = refl
none-messages till (payload ∷ payloads) = none-messages till payloads

pub till-handles-none : (till : ℕ) (decoded : DecodedFrames) → none_pass is_handle (decoded_items till decoded)
till-handles-none till decoded = none-append is_handle (map (MessageItem till) decoded.payloads) _ (none-messages till decoded.payloads) (by_test (has_bad_length decoded.rest))
  where
    by_test : (test : Bool) → none_pass is_handle (if test then Unframed till ∷ [] else [])
    by_test true = refl
    by_test false = refl

-- ---- the items of APDUs

oversized-pending : (number pt : ℕ) (test : Bool) → pending number (if test then Oversized pt ∷ [] else []) ≡ []
oversized-pending number pt true = refl
oversized-pending number pt false = refl

pub apdus-own : (number : ℕ) (apdus : List ApduValue) → pending number (flat_map (apdu_items number) apdus) ≡ apdus
apdus-own number [] = refl
apdus-own number (apdu ∷ apdus) = by_test (number == number) (eq-eqb number number refl) (apdus-own number apdus)
  where
    by_test : (test : Bool) → test ≡ true → pending number (flat_map (apdu_items number) apdus) ≡ apdus
        → (if test then apdu ∷ pending number (flat_map (apdu_items number) apdus) else pending number (flat_map (apdu_items number) apdus)) ≡ apdu ∷ apdus
    by_test true e h = ap (λ l. apdu ∷ l) h
    by_test false e h = no-true e

pub apdus-other : (number pt : ℕ) (apdus : List ApduValue) → (pt == number) ≡ false → pending number (flat_map (apdu_items pt) apdus) ≡ []
apdus-other number pt [] other = refl
apdus-other number pt (apdu ∷ apdus) other = by_test (pt == number) other (apdus-other number pt apdus other)
  where
    by_test : (test : Bool) → test ≡ false → pending number (flat_map (apdu_items pt) apdus) ≡ []
        → (if test then apdu ∷ pending number (flat_map (apdu_items pt) apdus) else pending number (flat_map (apdu_items pt) apdus)) ≡ []
    by_test true e h = no-true (sym e)
    by_test false e h = h

-- those that handle, before what may be due
pub decoded-pending : (number pt : ℕ) (decoded : DecodedApdus) (core : Core) → pending number (decoded_apdu_items pt decoded ++ items_due core) ≡ pending number (flat_map (apdu_items pt) decoded.apdus)
decoded-pending number pt decoded core =
    pending-append number (decoded_apdu_items pt decoded) (items_due core)
    ∙ ap (λ l. pending number (decoded_apdu_items pt decoded) ++ l) (none-pending number (items_due core) (due-handles-none core))
    ∙ append-nil (pending number (decoded_apdu_items pt decoded))
    ∙ pending-append number (flat_map (apdu_items pt) decoded.apdus) (if is_oversized (decode_apdu decoded.rest) then Oversized pt ∷ [] else [])
    ∙ ap (λ l. pending number (flat_map (apdu_items pt) decoded.apdus) ++ l) (oversized-pending number pt (is_oversized (decode_apdu decoded.rest)))
    ∙ append-nil (pending number (flat_map (apdu_items pt) decoded.apdus))

-- none of them brings a charge, since they handle what one terminal has said
apdus-bring-none : (pt : ℕ) (apdus : List ApduValue) → none_pass (brings_charge pt) (flat_map (apdu_items pt) apdus)
apdus-bring-none pt [] = refl
apdus-bring-none pt (apdu ∷ apdus) = by_test (pt == pt) (eq-eqb pt pt refl) (apdus-bring-none pt apdus)
  where
    by_test : (test : Bool) → test ≡ true → none_pass (brings_charge pt) (flat_map (apdu_items pt) apdus) → (not test || (not test || list_any (brings_charge pt) (flat_map (apdu_items pt) apdus))) ≡ false
    by_test true e h = h
    by_test false e h = no-true e

pub decoded-bring-none : (pt : ℕ) (decoded : DecodedApdus) (core : Core) → none_pass (brings_charge pt) (decoded_apdu_items pt decoded ++ items_due core)
decoded-bring-none pt decoded core =
    none-append (brings_charge pt) (decoded_apdu_items pt decoded) (items_due core)
    (none-append (brings_charge pt) (flat_map (apdu_items pt) decoded.apdus) (if is_oversized (decode_apdu decoded.rest) then Oversized pt ∷ [] else []) (apdus-bring-none pt decoded.apdus) (by_test (is_oversized (decode_apdu decoded.rest))))
    (none-due (brings_charge pt) core (λ n. refl) (λ key. refl) (λ n. refl))
  where
    by_test : (test : Bool) → none_pass (brings_charge pt) (if test then Oversized pt ∷ [] else [])
    by_test true = refl
    by_test false = refl

-- ---- what was heard on connections

pub heard-own : (connections : List Connection) (number : ℕ) (bytes : List ℕ) → is_connected connections number ≡ true → heard_on (hears connections number bytes) number ≡ heard_on connections number ++ bytes
heard-own [] number bytes there = no-true there
heard-own (connection ∷ connections) number bytes there = by_test (connection.number == number) refl (heard-own connections number bytes) there
  where
    by_test : (test : Bool) → (connection.number == number) ≡ test → (is_connected connections number ≡ true → heard_on (hears connections number bytes) number ≡ heard_on connections number ++ bytes)
        → (test || is_connected connections number) ≡ true → heard_on (hears (connection ∷ connections) number bytes) number ≡ heard_on (connection ∷ connections) number ++ bytes
    by_test true t h there = rw (t, t) refl
    by_test false t h there = rw (t, t) (h there)

pub heard-other : (connections : List Connection) (pt number : ℕ) (bytes : List ℕ) → pt ≢ number → heard_on (hears connections pt bytes) number ≡ heard_on connections number
heard-other [] pt number bytes differs = refl
heard-other (connection ∷ connections) pt number bytes differs = by_tests (connection.number == pt) (connection.number == number) refl refl (heard-other connections pt number bytes differs)
  where
    by_tests : (one two : Bool) → (connection.number == pt) ≡ one → (connection.number == number) ≡ two → heard_on (hears connections pt bytes) number ≡ heard_on connections number
        → heard_on (hears (connection ∷ connections) pt bytes) number ≡ heard_on (connection ∷ connections) number
    by_tests true true t u h = absurd (differs (sym (eqb-true connection.number pt t) ∙ eqb-true connection.number number u))
    by_tests true false t u h = rw (t, u) refl
    by_tests false true t u h = rw (t, u) refl
    by_tests false false t u h = rw (t, u) h

pub heard-left : (connections : List Connection) (pt number : ℕ) → pt ≢ number → heard_on (without connections pt) number ≡ heard_on connections number
heard-left [] pt number differs = refl
heard-left (connection ∷ connections) pt number differs = by_tests (connection.number == pt) (connection.number == number) refl refl (heard-left connections pt number differs)
  where
    by_tests : (one two : Bool) → (connection.number == pt) ≡ one → (connection.number == number) ≡ two → heard_on (without connections pt) number ≡ heard_on connections number
        → heard_on (without (connection ∷ connections) pt) number ≡ heard_on (connection ∷ connections) number
    by_tests true true t u h = absurd (differs (sym (eqb-true connection.number pt t) ∙ eqb-true connection.number number u))
    by_tests true false t u h = rw (t, u) h
    by_tests false true t u h = rw (t, u) refl
    by_tests false false t u h = rw (t, u) h

-- ---- how far a dialogue is, as exchanges and items change

-- a played terminal has met and booked the same, and what is left of it stays
pub record Carries (setting : Setting) (poi : List ℕ) (before now : List PlacedExchange) (number : ℕ) (items more : List RoundItem) : Type 0 where
  pub met : met_in now ≡ met_in before
  pub left : (left : List MessageValue) → IsLeft setting before number items left → IsLeft setting now number more left
  pub book : book_along setting poi now ≡ book_along setting poi before

-- nothing was exchanged, and the items handle the same of it
pub items-carry : (setting : Setting) (poi : List ℕ) (exchanges : List PlacedExchange) (number : ℕ) (items more : List RoundItem) → pending number more ≡ pending number items → Carries setting poi exchanges exchanges number items more
items-carry setting poi exchanges number items more same = record {
  met = refl;
  left = λ left l. record {
    unheard = l.unheard;
    stream = l.stream;
    are = subst (λ apdus. AreMessages (apdus ++ (decode_apdus ((decode_apdus (heard_on_link (exchanges_in exchanges))).rest ++ l.unheard)).apdus) left) (sym same) l.are;
  };
  book = refl;
}

module _ (setting : Setting) (poi : List ℕ) (before now : List PlacedExchange) (number : ℕ) (items more : List RoundItem) (c : Carries setting poi before now number items more) where
  pub quiet-carried : IsQuiet setting before number items → IsQuiet setting now number more
  quiet-carried q = record {
    none_left = c.left [] q.none_left;
    uncut = subst (λ met. has_cut setting met ≡ false) (sym c.met) q.uncut;
    waits = subst (λ met. (decode_apdus (link_bytes met)).rest ≡ []) (sym c.met) q.waits;
  }

  pub talking-carried : (talk : Option TalkFacts) (command : Command) → IsTalking setting before number items talk command → IsTalking setting now number more talk command
  talking-carried talk command t = record {
    apdu = t.apdu;
    before = t.before;
    spells = t.spells;
    book_is = subst (λ met. book_after setting met ≡ book_of setting t.before ++ entries_of (reaction_after setting t.before t.apdu)) (sym c.met) t.book_is;
    dialogue = t.dialogue;
    begins = t.begins;
    came = t.came;
    talk_is = t.talk_is;
    goes_on = t.goes_on;
    left = t.left;
    is_left = c.left t.left t.is_left;
    whole = t.whole;
    uncut = λ cutless. subst (λ met. has_cut setting met ≡ false) (sym c.met) (t.uncut cutless);
    waits = subst (λ met. (decode_apdus (link_bytes met)).rest ≡ []) (sym c.met) t.waits;
  }

  pub last-carried : (sent : List SentCommand) (entries : List BookEntry) → IsLastServed setting poi before sent entries → IsLastServed setting poi now sent entries
  last-carried sent entries l = record {
    command = l.command;
    last = l.last;
    booked = λ entry within. subst (λ book. In (placed_entry poi l.command.place entry) book) (sym c.book) (l.booked entry within);
    only = λ entry within cause. l.only entry (subst (λ book. In entry book) c.book within) cause;
  }

  pub transacting-carried : (sent : List SentCommand) (talk : Option TalkFacts) → IsTransacting setting poi before number items sent talk → IsTransacting setting poi now number more sent talk
  unfolding talking-carried
  transacting-carried sent talk p = record {
    command = p.command;
    charging = p.charging;
    talking = talking-carried talk p.command p.talking;
    last = last-carried sent (entries_of (reaction_after setting p.talking.before p.talking.apdu)) p.last;
  }

  pub serving-carried : (talk : Option TalkFacts) (dialogue_kind : DialogueKind) → IsServing setting before number items talk dialogue_kind → IsServing setting now number more talk dialogue_kind
  unfolding talking-carried
  serving-carried talk dialogue_kind p = record { command = p.command; kind_is = p.kind_is; talking = talking-carried talk p.command p.talking }

  pub peer-in-carried : (sent : List SentCommand) (talk : Option TalkFacts) (standing : Standing) → IsPeerIn setting poi before number items sent talk standing → IsPeerIn setting poi now number more sent talk standing
  peer-in-carried sent talk (Unlinked due) p = tt
  peer-in-carried sent talk Registering p = (p.0, p.1, p.2, talking-carried talk (commands.Register p.0 p.1 p.2) p.3)
  peer-in-carried sent talk Enquiring p = (p.0, talking-carried talk (commands.Enquire p.0) p.1)
  peer-in-carried sent talk (Ready last) p = quiet-carried p
  peer-in-carried sent talk (Serving (Transaction slot) last) p = transacting-carried sent talk p
  peer-in-carried sent talk (Serving (EndOfDay header period) last) p = serving-carried talk EndOfDayDialogue p
  peer-in-carried sent talk (Serving (Display header results) last) p = serving-carried talk DisplayDialogue p
  peer-in-carried sent talk (Aside before_it reported) p = quiet-carried p

-- the terminal, with another till that asked
abbrev pub asked_by : Terminal → Option ℕ → Terminal
asked_by terminal asker = record terminal { asker = asker }

-- what holds of a terminal holds of it still, whatever till has asked, where the asks that were owed are owed still
pub peer-carried : (setting : Setting) (before now : List PlacedExchange) (number : ℕ) (items more : List RoundItem) (sent : List SentCommand) (calls owed : List OwedCall) (terminal : Terminal) (asker : Option ℕ) (asks : Bool)
    → Carries setting terminal.pt.poi before now number items more → ((command : Command) → begins_dialogue command ≡ true → In (SendPt number (Ask command)) calls → In (SendPt number (Ask command)) owed)
    → IsPeer asks setting before number items sent calls terminal → IsPeer asks setting now number more sent owed (asked_by terminal asker)
peer-carried setting before now number items more sent calls owed terminal asker true c stays p = record {
  quiet = quiet-carried setting terminal.pt.poi before now number items more c p.quiet;
  command = p.command;
  owed = stays p.command (ap is_some p.begins) p.owed;
  digits = p.digits;
  sizes = p.sizes;
  of_standing = p.of_standing;
  dialogue = p.dialogue;
  begins = p.begins;
  talk_is = p.talk_is;
}
peer-carried setting before now number items more sent calls owed terminal asker false c stays p =
    peer-in-carried setting terminal.pt.poi before now number items more c sent terminal.talk terminal.standing p
