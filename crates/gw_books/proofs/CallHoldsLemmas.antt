-- A call that isn't on the disk is made, or it fails: what holds along a course holds on. A till or a terminal is sent something, a connection is cut, and a terminal is linked or isn't.
use Rattle.std.proofs.Common.{◌≡◌, ◌≢◌, ◌≤◌, ◌<◌, ◌∙◌, ℕ, zero, suc, ◌+◌, Bool, true, false, List, [], ◌∷◌, ◌++◌, length, refl, sym, ap, subst, arith, inl, inr, append-nil}
use Rattle.std.proofs.lemmas.Bool.{and_from, and_parts, false_from_ne_true, ltb-true}
use Rattle.std.proofs.lemmas.List.Elements.{All-head, All-tail}
use Rattle.std.specs.Prelude.{◌&&◌, ◌||◌, ◌==◌, nat_lt, not, if◌then◌else◌, bytes_eq, All, filter, find, slice_get, Option, Some, None, unwrap_or, is_some}
use Rattle.std.specs.List.{list_any, list_all}
use Rattle.std.specs.Option.{option_map}
use Rattle.gw_base.specs.Setup.{HaveDistinctPois}
use Rattle.gw_base.specs.declared.key.Key.{Key}
use Rattle.gw_base.specs.declared.setup.Pt.{Pt}
use Rattle.gw_base.specs.declared.setup.Setup.{Setup}
use Rattle.gw_bytes.specs.Bytes.{IsPrefix}
use Rattle.gw_site.specs.declared.turn.Turn.{Turn}
use Rattle.gw_site.specs.declared.turn.Turn.TheVariants.{Linked, LinkFailed, SentTill, SentPt, CutTill, CutPt}
use Rattle.json_text.specs.Tree.{Tree}
use Rattle.zvt_apdu.specs.DecodeStream.{decode_apdus}
use Rattle.zvt_msg.specs.declared.command.Command.TheVariants as command
use Rattle.jrn_record.specs.declared.records.Intent.{Intent as TheIntent}
use Rattle.jrn_record.specs.declared.records.Record.{Record}
use Rattle.gw_ledger.specs.declared.entry.Entry.{Entry}
use Rattle.gw_ledger.specs.Fold.{AreFolded}
use Rattle.gw_ledger.specs.Keys.{intent_key}
use Rattle.gw_ledger.specs.Slots.{intent_at}
use Rattle.gw_owes.specs.Calls.{Sending, Ask, Acknowledge, Refuse, sending_bytes, OwedCall, SendTill, SendPt, LinkPt, CutTill as OwedCutTill, CutPt as OwedCutPt}
use Rattle.gw_owes.specs.Core.{Core}
use Rattle.gw_owes.specs.Dialogues.{AllHaveDialogues, HasItsDialogue}
use Rattle.gw_owes.specs.Links.{LinkEvent, LinkIsMade, LinkIsLost, link_row}
use Rattle.gw_owes.specs.RecordLaws.{AreRecordsOf, IsServedOpen}
use Rattle.gw_owes.specs.Reply.{ReplyValue, reply_value_bytes}
use Rattle.gw_owes.specs.Row.{Known, Row}
use Rattle.gw_owes.specs.TerminalLaws.{settings_of}
use Rattle.gw_owes.specs.Terminals.{terminal_at, of_terminal, with_terminal, registers, link_made, reply_calls_to, reply_to_lost, unlinked_terminal, unlinks, link_lost, forgets_till, core_without}
use Rattle.gw_owes.specs.declared.terminal.Service.TheVariants.{Transaction, EndOfDay, Display}
use Rattle.gw_owes.specs.declared.terminal.Standing.{Standing}
use Rattle.gw_owes.specs.declared.terminal.Standing.TheVariants.{Unlinked, Registering, Enquiring, Ready, Serving, Aside}
use Rattle.gw_owes.specs.declared.terminal.Terminal.{Terminal}
use Rattle.gw_owes.proofs.DialogueLemmas.{links-give}
use Rattle.gw_owes.proofs.RecordLemmas.{LedgerLaws, open-parts}
use Rattle.gw_owes.proofs.SetLemmas.{others-stay, new-is-there, same-some, same-stays}
use Rattle.gw_rules.specs.JournalFiles.{spare_disk}
use Rattle.gw_rules.specs.Lawful.{first_call}
use Rattle.gw_rules.specs.LedgerRules.{ledger_rules}
use Rattle.gw_rules.specs.RecordOrder.{records_coming}
use Rattle.gw_rules.specs.Scene.{Scene, known_in, link_made_at, link_lost_at}
use Rattle.gw_rules.specs.TranscriptLaws.{cuts_terminal, cut_owed}
use Rattle.gw_rules.specs.View.{View, called, later, by_row, after_turn}
use Rattle.gw_rules.proofs.KeptLawLemmas.{holds}
use Rattle.gw_rules.proofs.LinkedLemmas.{by-number, call-settled, call-setup, first-fits, Settled}
use Rattle.gw_rules.proofs.LinkStateLemmas.{Absent, Off, state_of, without-settings}
use Rattle.gw_rules.proofs.RecordOrderLemmas.{Ordered, configured}
use Rattle.gw_rules.proofs.RecordRowLemmas.{kept-folds, made-brings-none, lost-brings-none}
use Rattle.gw_rules.proofs.SetupLemmas.{HasSetup}
use Rattle.gw_rules.proofs.SpareLemmas.{lost-at-spares, made-at-spares}
use Rattle.gw_rules.proofs.StageLemmas.{no-true}
use Rattle.gw_rules.proofs.TranscriptLogLemmas.{image-there, there-image, lost-at, made-at, not-number}
use Rattle.jrn_record.specs.declared.records.Deal.{Deal}
use Rattle.gw_books.specs.Kinds.{BookedKind, kind_of_command, booked_kind_of, may_charge}
use Rattle.gw_books.specs.Agrees.{is_accepted, is_inside, is_report}
use Rattle.gw_books.specs.Books.{BookedEntry}
use Rattle.gw_books.specs.Past.{Occasion, SentCommand, MadeLink, HeardEnd, SentReply, Past, poi_of_number, open_key, waiting_keys, with_reply, with_sent_command, Numbering, numbering_at, numbering_of_number, with_sent_bytes}
use Rattle.gw_books.specs.Said.{Said, all_said, IsFramed}
use Rattle.gw_books.proofs.Holding.{AreOutcomesTrue, AreKeyed, HasAcceptedKey, IsAskedAs, IsFirstOf, IsUnsent, IsSaidTrue, IsSentTrue, IsToBeAsked, IsReplySound, IsSendingSound, AreCallsSound, sending_charges, charge_owed, charges_terminal, deed_owed, IsServingSound, IsRepliable, AreRepliable, is_report_after, IsOfTerminal, IsLinkSound, TurnHolds, Holds}
use Rattle.gw_books.proofs.LastCallLemmas.{IsLast, is-last, last-cuts, last-charges, same-coming, link-rests, terminal-stays, rest-sound, past_then, holds-on, keyed-later}
use Rattle.gw_books.proofs.ListLemmas.{In, any-in, bytes-are, bytes-itself, filter-in}
use Rattle.gw_books.proofs.RecordMoreLemmas.{IsUnended, accepted-intent, first-itself, outcomes-later, outcomes-sent, unended-first}
use Rattle.gw_books.proofs.RecordNumberLemmas.{open-key-unended}
use Rattle.gw_books.proofs.SentBytesLemmas.{sent-says}
use Rattle.gw_books.proofs.ServedReplyLemmas.{lost-sound, replies-no-deed, replies-sound}
use Rattle.gw_books.proofs.SentCommandLemmas.{charging, charged, kind-sent, kind_of_sending}

-- ---- what is owed after a call

-- the calls reply nothing, ask for nothing, and are no deeds
record AreQuiet (calls : List OwedCall) : Type 0 where
  sound : (records : List Record) (core : Core) (commands : List SentCommand) (occasion : Occasion) → AreCallsSound records core commands occasion calls
  no_deed : deed_owed calls ≡ false
  spares : spare_disk calls ≡ true

none-quiet : AreQuiet []
none-quiet = record { sound = λ records core commands occasion. tt; no_deed = refl; spares = refl }

cut-till-quiet : (till : ℕ) → AreQuiet (OwedCutTill till ∷ [])
cut-till-quiet till = record { sound = λ records core commands occasion. (tt, tt); no_deed = refl; spares = refl }

cut-pt-quiet : (pt : ℕ) → AreQuiet (OwedCutPt pt ∷ [])
cut-pt-quiet pt = record { sound = λ records core commands occasion. (tt, tt); no_deed = refl; spares = refl }

-- the call was made, and these are owed
abbrev pub called_with : View → Turn → List OwedCall → View
called_with v turn calls = record v { scene = called v.scene turn; calls = calls }

-- the Outcomes that come stay true
outcomes-then : (v : View) (past : Past) (book : List BookedEntry) → Holds v past book → AreOutcomesTrue past.commands book (past.place + 1) (records_coming v)
outcomes-then v past book h = outcomes-later past.commands book past.place (past.place + 1) (records_coming v) (omega arith) h.outcomes

-- ---- a till is sent something

till-sent : (log : List Turn) (v : View) (past : Past) (book : List BookedEntry) (turn : Turn) (calls : List OwedCall) (till : ℕ) (reply : ReplyValue) (bytes : List ℕ) → Ordered log v → Holds v past book
    → first_call v.calls ≡ Some (SendTill till reply) → IsPrefix bytes (reply_value_bytes reply) → AreQuiet calls → Holds (called_with v turn calls) (record (with_reply v.scene bytes past) { place = past.place + 1 }) book
till-sent log v past book turn calls till reply bytes o h next first quiet =
    holds-on v w past book past.commands past.links past.lasting (new ∷ past.replies) past.deeds h (record {
      kept = refl;
      coming = same-coming v w call last quiet.spares refl refl;
      items = refl;
      commands = keyed-later v.scene.kept past.place past.commands h.commands;
      outcomes = outcomes-then v past book h;
      calls = quiet.sound (records_coming v) v.scene.core past.commands past.occasion;
      serving = λ number terminal found no_charge no_cut. h.serving last.clear number terminal found (last-charges v call number last refl) (last-cuts v call number last refl);
      repliable = h.repliable;
      dialogues = λ number terminal found no_cut. h.dialogues last.clear number terminal found (last-cuts v call number last refl);
      no_deed = quiet.no_deed;
      deeds = h.deeds;
      links = λ link within.
          let l = h.links last.clear link within in
          rest-sound (records_coming v) v.scene.core v.scene.core calls past next_past link refl (omega arith) refl (link-rests (records_coming v) v.scene.core v.calls past link l (last-cuts v call l.of_terminal.number last refl));
      replies = sent;
      replied = replied;
    })
  where
    call : OwedCall
    call = SendTill till reply

    last : IsLast v (SendTill till reply)
    last = is-last log v (SendTill till reply) o next refl (λ more. refl)

    w : View
    w = called_with v turn calls

    new : SentReply
    new = record { place = past.place; bytes = bytes; occasion = past.occasion; kept = v.scene.kept; waiting = waiting_keys v.scene.core }

    next_past : Past
    next_past = past_then past past.commands past.links past.lasting (new ∷ past.replies) past.deeds

    sound : IsReplySound (records_coming v) (waiting_keys v.scene.core) past.occasion reply
    sound = (subst (λ l. AreCallsSound (records_coming v) v.scene.core past.commands past.occasion l) last.calls_are h.calls).0

    true_now : (message : Tree) → IsFramed bytes message → (said : Said) → In said (all_said message) → IsSaidTrue v.scene.kept (waiting_keys v.scene.core) past.occasion said
    true_now message framed said within =
        subst (λ records. IsSaidTrue records (waiting_keys v.scene.core) past.occasion said) last.now (sound.says said (subst (λ l. In said l) (sent-says reply bytes message sound.within first framed) within))

    new_true : IsSentTrue past.commands book new
    new_true = record { outcomes = subst (λ records. AreOutcomesTrue past.commands book past.place records) last.now h.outcomes; says = true_now }

    sent : (one : SentReply) → In one (new ∷ past.replies) → IsSentTrue past.commands book one
    sent one (inl is) = subst (λ r. IsSentTrue past.commands book r) (sym is) new_true
    sent one (inr within) = h.replies one within

    replied : (one : SentReply) → In one (new ∷ past.replies) → IsFirstOf one.kept v.scene.kept
    replied one (inl is) = subst (λ (r : SentReply). IsFirstOf r.kept v.scene.kept) (sym is) (first-itself v.scene.kept)
    replied one (inr within) = h.replied one within

pub sent-till-holds : (till : ℕ) (bytes : List ℕ) (sent : Bool) → TurnHolds (SentTill till bytes sent)
sent-till-holds till bytes true log v past book o ok h =
    let last = is-last log v (SendTill till ok.0) o ok.1 refl (λ more. refl) in
    till-sent log v past book (SentTill till bytes true) (later v.calls) till ok.0 bytes o h ok.1 ([], sym ok.2 ∙ sym (append-nil bytes)) (subst AreQuiet (sym last.none_later) none-quiet)
sent-till-holds till bytes false log v past book o ok h = till-sent log v past book (SentTill till bytes false) (OwedCutTill till ∷ []) till ok.0 bytes o h ok.1 ok.2 (cut-till-quiet till)

-- ---- the connection of a till is cut

-- a terminal of which a till is forgotten
pub forgotten : (core : Core) (till number : ℕ) (terminal : Terminal) → slice_get (core_without core till).terminals number ≡ Some terminal → (old : Terminal) × (slice_get core.terminals number ≡ Some old) × (forgets_till till old ≡ terminal)
forgotten core till number terminal found =
    let there = image-there (forgets_till till) core.terminals number terminal found in
    (there.0, there.1, same-some (forgets_till till there.0) terminal (sym (there-image (forgets_till till) core.terminals number there.0 there.1) ∙ found))

pub cut-till-holds : (till : ℕ) → TurnHolds (CutTill till)
cut-till-holds till log v past book o ok h =
    holds-on v w past book past.commands past.links past.lasting past.replies past.deeds h (record {
      kept = refl;
      coming = same-coming v w call last quiet.spares refl refl;
      items = refl;
      commands = keyed-later v.scene.kept past.place past.commands h.commands;
      outcomes = outcomes-then v past book h;
      calls = quiet.sound (records_coming v) w.scene.core past.commands past.occasion;
      serving = λ number terminal found no_charge no_cut.
          let old = forgotten v.scene.core till number terminal found in
          subst (λ (t : Terminal). IsServingSound (records_coming v) past.commands t.pt.poi t.standing) old.2 (h.serving last.clear number old.0 old.1 (last-charges v call number last refl) (last-cuts v call number last refl));
      repliable = λ number terminal found. let old = forgotten v.scene.core till number terminal found in subst (λ (t : Terminal). IsRepliable t.standing) old.2 (h.repliable number old.0 old.1);
      dialogues = λ number terminal found no_cut.
          let old = forgotten v.scene.core till number terminal found in
          subst HasItsDialogue old.2 (h.dialogues last.clear number old.0 old.1 (last-cuts v call number last refl));
      no_deed = quiet.no_deed;
      deeds = h.deeds;
      links = λ link within.
          let l = h.links last.clear link within in
          rest-sound (records_coming v) v.scene.core w.scene.core w.calls past next_past link (without-settings till v.scene.core.terminals) (omega arith) refl
          (link-rests (records_coming v) v.scene.core v.calls past link l (last-cuts v call l.of_terminal.number last refl));
      replies = h.replies;
      replied = h.replied;
    })
  where
    call : OwedCall
    call = OwedCutTill till

    last : IsLast v (OwedCutTill till)
    last = is-last log v (OwedCutTill till) o ok refl (λ more. refl)

    w : View
    w = after_turn v (CutTill till)

    quiet : AreQuiet (later v.calls)
    quiet = subst AreQuiet (sym last.none_later) none-quiet

    next_past : Past
    next_past = past_then past past.commands past.links past.lasting past.replies past.deeds

-- ---- terminals have POIIDs of their own

all-there : {A : Type 0} → (P : A → Type 0) (all : List A) (at : ℕ) (one : A) → All P all → slice_get all at ≡ Some one → P one
all-there P [] at one each found = absurd cc
all-there P (first ∷ rest) zero one each found = subst P (same-some first one found) (All-head P first rest each)
all-there P (first ∷ rest) (suc at) one each found = all-there P rest at one (All-tail P first rest each) found

distinct-pois : (pts : List Pt) (one other : ℕ) (p q : Pt) → HaveDistinctPois pts → one ≢ other → slice_get pts one ≡ Some p → slice_get pts other ≡ Some q → p.poi ≡ q.poi → ⊥
distinct-pois [] one other p q distinct differs found there same = absurd cc
distinct-pois (pt ∷ pts) zero zero p q distinct differs found there same = differs refl
distinct-pois (pt ∷ pts) zero (suc other) p q distinct differs found there same =
    all-there (λ (x : Pt). pt.poi ≢ x.poi) pts other q distinct.0 there (ap (λ (x : Pt). x.poi) (same-some pt p found) ∙ same)
distinct-pois (pt ∷ pts) (suc one) zero p q distinct differs found there same =
    all-there (λ (x : Pt). pt.poi ≢ x.poi) pts one p distinct.0 found (ap (λ (x : Pt). x.poi) (same-some pt q there) ∙ sym same)
distinct-pois (pt ∷ pts) (suc one) (suc other) p q distinct differs found there same = distinct-pois pts one other p q distinct.1 (λ e. differs (ap suc e)) found there same

-- so two terminals don't have the same
pub apart-pois : (log : List Turn) (v : View) (k : HasSetup v.scene) (one other : ℕ) (t u : Terminal) → Ordered log v → one ≢ other → slice_get v.scene.core.terminals one ≡ Some t → slice_get v.scene.core.terminals other ≡ Some u
    → bytes_eq t.pt.poi u.pt.poi ≡ false
apart-pois log v k one other t u o differs found there = by_test (bytes_eq t.pt.poi u.pt.poi) refl
  where
    settings : settings_of v.scene.core ≡ k.setup.terminals
    settings = configured v k.setup o.agrees k.setup_is

    pt_at : (number : ℕ) (terminal : Terminal) → slice_get v.scene.core.terminals number ≡ Some terminal → slice_get k.setup.terminals number ≡ Some terminal.pt
    pt_at number terminal is = ap (λ (pts : List Pt). slice_get pts number) (sym settings) ∙ there-image (λ (terminal : Terminal). terminal.pt) v.scene.core.terminals number terminal is

    by_test : (test : Bool) → bytes_eq t.pt.poi u.pt.poi ≡ test → bytes_eq t.pt.poi u.pt.poi ≡ false
    by_test true same = absurd (distinct-pois k.setup.terminals one other t.pt u.pt k.within.distinct differs (pt_at one t found) (pt_at other u there) (bytes-are t.pt.poi u.pt.poi same))
    by_test false is = is

-- ---- a terminal is sent something

-- a command that may charge a card asks for an Intent for whose key none was sent
pub to-be-asked : (records : List Record) (core : Core) (commands : List SentCommand) (number : ℕ) (sending : Sending) → sending_charges sending ≡ true → IsSendingSound records core commands number sending → IsToBeAsked records core commands number
to-be-asked records core commands number (Ask (command.Register password config_byte currency)) e sound = no-true e
to-be-asked records core commands number (Ask (command.Authorise amount currency)) e sound = sound.0
to-be-asked records core commands number (Ask (command.Reverse password receipt)) e sound = sound.0
to-be-asked records core commands number (Ask (command.EndOfDay password)) e sound = no-true e
to-be-asked records core commands number (Ask (command.Enquire password)) e sound = no-true e
to-be-asked records core commands number (Ask command.Stop) e sound = no-true e
to-be-asked records core commands number (Ask (command.Show lines)) e sound = no-true e
to-be-asked records core commands number Acknowledge e sound = no-true e
to-be-asked records core commands number Refuse e sound = no-true e

-- it is of the kind that the Intent asks for
asked-kind : (records : List Record) (core : Core) (commands : List SentCommand) (number : ℕ) (sending : Sending) (e : sending_charges sending ≡ true) (sound : IsSendingSound records core commands number sending)
    → kind_of_sending sending ≡ Some (booked_kind_of (to-be-asked records core commands number sending e sound).intent.what)
unfolding to-be-asked
asked-kind records core commands number (Ask (command.Register password config_byte currency)) e sound = no-true e
asked-kind records core commands number (Ask (command.Authorise amount currency)) e sound = sym (ap (λ (what : Deal). Some (booked_kind_of what)) sound.1)
asked-kind records core commands number (Ask (command.Reverse password receipt)) e sound = sym (ap (λ (what : Deal). Some (booked_kind_of what)) sound.1)
asked-kind records core commands number (Ask (command.EndOfDay password)) e sound = no-true e
asked-kind records core commands number (Ask (command.Enquire password)) e sound = no-true e
asked-kind records core commands number (Ask command.Stop) e sound = no-true e
asked-kind records core commands number (Ask (command.Show lines)) e sound = no-true e
asked-kind records core commands number Acknowledge e sound = no-true e
asked-kind records core commands number Refuse e sound = no-true e

-- one more command, for a key for which none was sent
keyed-sent : (kept : List Record) (sent : SentCommand) (commands : List SentCommand) (key : Key) → AreKeyed kept sent.place commands → sent.key ≡ Some key → is_accepted kept key ≡ true → IsAskedAs kept key sent.kind → IsUnsent commands key
    → AreKeyed kept (sent.place + 1) (sent ∷ commands)
keyed-sent kept sent commands key k is accepted asked unsent = record { falling = (omega arith, k.falling); accepted = each; once = once }
  where
    each : (one : SentCommand) → In one (sent ∷ commands) → HasAcceptedKey kept one
    each one (inl same) = record {
      key = key;
      key_is = ap (λ (c : SentCommand). c.key) same ∙ is;
      accepted = accepted;
      asked = subst (λ (c : SentCommand). IsAskedAs kept key c.kind) (sym same) asked;
    }
    each one (inr within) = k.accepted one within

    own : (one : SentCommand) (other : Key) → one ≡ sent → one.key ≡ Some other → other ≡ key
    own one other same one_is = same-some other key (sym one_is ∙ ap (λ (c : SentCommand). c.key) same ∙ is)

    once : (one other : SentCommand) (found : Key) → In one (sent ∷ commands) → In other (sent ∷ commands) → one.key ≡ Some found → other.key ≡ Some found → one ≡ other
    once one other found (inl a) (inl b) one_is other_is = a ∙ sym b
    once one other found (inl a) (inr b) one_is other_is = absurd (unsent other b (other_is ∙ ap Some (own one found a one_is)))
    once one other found (inr a) (inl b) one_is other_is = absurd (unsent one a (one_is ∙ ap Some (own other found b other_is)))
    once one other found (inr a) (inr b) one_is other_is = k.once one other found a b one_is other_is

-- a terminal of another POIID serves as it did
serving-past : (records : List Record) (sent : SentCommand) (commands : List SentCommand) (poi : List ℕ) (standing : Standing) → bytes_eq sent.numbering.poi poi ≡ false → IsServingSound records commands poi standing → IsServingSound records (sent ∷ commands) poi standing
serving-past records sent commands poi (Unlinked due) apart sound = tt
serving-past records sent commands poi Registering apart sound = tt
serving-past records sent commands poi Enquiring apart sound = tt
serving-past records sent commands poi (Ready last) apart sound = tt
serving-past records sent commands poi (Serving (Transaction slot) last) apart sound = λ intent found.
    let s = sound intent found in
    record { command = s.command; last = ap (λ (b : Bool). if b then Some sent else find (λ (command : SentCommand). bytes_eq command.numbering.poi poi) commands) apart ∙ s.last; key_is = s.key_is }
serving-past records sent commands poi (Serving (EndOfDay header period) last) apart sound = tt
serving-past records sent commands poi (Serving (Display header outputs) last) apart sound = tt
serving-past records sent commands poi (Aside before reported) apart sound = tt

-- what a terminal serves is what is open there
pub served-key : (laws : LedgerLaws) (records : List Record) (poi : List ℕ) (slot last : ℕ) (intent : TheIntent) → AreFolded records → IsServedOpen records poi last slot → intent_at records slot ≡ Some intent → open_key records poi ≡ Some (intent_key intent)
served-key laws records poi slot last intent folded served found =
    let parts = open-parts laws records folded poi slot served.intent served.is_open in
    let same : served.intent ≡ intent = same-some served.intent intent (sym parts.intent_is ∙ found) in
    ap (option_map (λ (entry : Entry). intent_key entry.intent)) served.is_open ∙ ap (λ (i : TheIntent). Some (intent_key i)) same

-- the numbering of a terminal that is there
pub numbering-there : (scene : Scene) (number : ℕ) (terminal : Terminal) → slice_get scene.core.terminals number ≡ Some terminal → numbering_of_number scene number ≡ numbering_at terminal.pt
numbering-there scene number terminal found = ap (λ (t : Option Terminal). unwrap_or (option_map (λ (one : Terminal). numbering_at one.pt) t) (record { poi = [] })) found

-- the command that is sent with these bytes
abbrev pub command_sent : Scene → Past → Numbering → List ℕ → BookedKind → SentCommand
command_sent scene past numbering bytes kind = record { place = past.place; numbering = numbering; kind = kind; whole = nat_lt 0 (length (decode_apdus bytes).apdus); key = open_key scene.kept numbering.poi }

module _ (laws : LedgerLaws) (log : List Turn) (v : View) (past : Past) (book : List BookedEntry) (turn : Turn) (calls : List OwedCall) (pt : ℕ) (sending : Sending) (bytes : List ℕ) (o : Ordered log v) (h : Holds v past book)
    (next : first_call v.calls ≡ Some (SendPt pt sending)) (first : IsPrefix bytes (sending_bytes sending)) (quiet : AreQuiet calls) where
  pt-last : IsLast v (SendPt pt sending)
  pt-last = is-last log v (SendPt pt sending) o next refl (λ more. refl)

  -- a send to one terminal owes another none
  others-uncharged : (number : ℕ) → pt ≢ number → charge_owed number v.calls ≡ false
  others-uncharged number differs = last-charges v (SendPt pt sending) number pt-last (ap (λ (b : Bool). b && sending_charges sending) (not-number pt number differs))

  -- nothing that may charge a card is sent: of the past no more than its place is new
  pt-sent-other : ((number : ℕ) → cut_owed number calls ≡ false → charge_owed number v.calls ≡ false) → Holds (called_with v turn calls) (record past { place = past.place + 1 }) book
  pt-sent-other uncharged =
      let last = pt-last in
      let call : OwedCall = SendPt pt sending in
      let w : View = called_with v turn calls in
      holds-on v w past book past.commands past.links past.lasting past.replies past.deeds h (record {
        kept = refl;
        coming = same-coming v w call last quiet.spares refl refl;
        items = refl;
        commands = keyed-later v.scene.kept past.place past.commands h.commands;
        outcomes = outcomes-then v past book h;
        calls = quiet.sound (records_coming v) v.scene.core past.commands past.occasion;
        serving = λ number terminal found no_charge no_cut. h.serving last.clear number terminal found (uncharged number no_cut) (last-cuts v call number last refl);
        repliable = h.repliable;
        dialogues = λ number terminal found no_cut. h.dialogues last.clear number terminal found (last-cuts v call number last refl);
        no_deed = quiet.no_deed;
        deeds = h.deeds;
        links = λ link within.
            let l = h.links last.clear link within in
            rest-sound (records_coming v) v.scene.core v.scene.core calls past (record past { place = past.place + 1 }) link refl (omega arith) refl
            (link-rests (records_coming v) v.scene.core v.calls past link l (last-cuts v call l.of_terminal.number last refl));
        replies = h.replies;
        replied = h.replied;
      })

  -- the beginning of a command that may charge a card is sent
  pt-sent-charge : (kind : BookedKind) → kind_of_command bytes ≡ Some kind → Holds (called_with v turn calls) (record (with_sent_command v.scene (numbering_of_number v.scene pt) bytes past kind) { place = past.place + 1 }) book
  pt-sent-charge kind kind_is =
      holds-on v w past book (sent ∷ past.commands) past.links past.lasting past.replies (past.occasion ∷ past.deeds) h (record {
        kept = refl;
        coming = same-coming v w call last quiet.spares refl refl;
        items = refl;
        commands = keyed-sent v.scene.kept sent past.commands (intent_key asked.intent) h.commands key_is accepted asked_as asked.unsent;
        outcomes = outcomes-sent sent past.commands book (past.place + 1) (records_coming v) (intent_key asked.intent) key_is (subst (λ records. IsUnended records (intent_key asked.intent)) (sym last.now) unended)
            (outcomes-then v past book h);
        calls = quiet.sound (records_coming v) v.scene.core (sent ∷ past.commands) past.occasion;
        serving = λ number terminal found no_charge no_cut. by-number number pt (λ same. own number terminal found (sym same)) (λ differs. other number terminal found differs);
        repliable = h.repliable;
        dialogues = λ number terminal found no_cut. h.dialogues last.clear number terminal found (last-cuts v call number last refl);
        no_deed = quiet.no_deed;
        deeds = and_from (is_inside past.occasion) (list_all is_inside past.deeds) (h.inside last.round owed) h.deeds;
        links = λ link within.
            let l = h.links last.clear link within in
            rest-sound (records_coming v) v.scene.core v.scene.core calls past next_past link refl (omega arith) refl (link-rests (records_coming v) v.scene.core v.calls past link l (last-cuts v call l.of_terminal.number last refl));
        replies = λ reply within.
            let r = h.replies reply within in
            record { outcomes = outcomes-sent sent past.commands book reply.place reply.kept (intent_key asked.intent) key_is (unended_then reply (h.replied reply within)) r.outcomes; says = r.says };
        replied = h.replied;
      })
    where
      call : OwedCall
      call = SendPt pt sending

      last : IsLast v (SendPt pt sending)
      last = pt-last

      w : View
      w = called_with v turn calls

      sent : SentCommand
      sent = command_sent v.scene past (numbering_of_number v.scene pt) bytes kind

      next_past : Past
      next_past = past_then past (sent ∷ past.commands) past.links past.lasting past.replies (past.occasion ∷ past.deeds)

      charges_card : sending_charges sending ≡ true
      charges_card = charging sending bytes first (ap (λ (found : Option BookedKind). is_some found) kind_is)

      owed : deed_owed v.calls ≡ true
      owed = ap deed_owed last.calls_are ∙ ap (λ (b : Bool). b || false) charges_card

      sound : IsSendingSound (records_coming v) v.scene.core past.commands pt sending
      sound = (subst (λ l. AreCallsSound (records_coming v) v.scene.core past.commands past.occasion l) last.calls_are h.calls).0

      asked : IsToBeAsked (records_coming v) v.scene.core past.commands pt
      asked = to-be-asked (records_coming v) v.scene.core past.commands pt sending charges_card sound

      poi_is : (numbering_of_number v.scene pt).poi ≡ asked.terminal.pt.poi
      poi_is = ap (λ (numbering : Numbering). numbering.poi) (numbering-there v.scene pt asked.terminal asked.found)

      kept_folds : AreFolded v.scene.kept
      kept_folds = kept-folds log v (holds ledger_rules log v o.keeps)

      intent_kept : intent_at v.scene.kept asked.slot ≡ Some asked.intent
      intent_kept = subst (λ records. intent_at records asked.slot ≡ Some asked.intent) last.now asked.intent_is

      served : IsServedOpen v.scene.kept asked.terminal.pt.poi asked.last asked.slot
      served =
          let t = o.terminals last.clear pt asked.terminal asked.found (last-cuts v (SendPt pt sending) pt last refl) in
          subst (λ records. IsServedOpen records asked.terminal.pt.poi asked.last asked.slot) last.now (subst (λ (s : Standing). AreRecordsOf (records_coming v) asked.terminal.pt.poi s) asked.standing_is t.records)

      key_is : open_key v.scene.kept (numbering_of_number v.scene pt).poi ≡ Some (intent_key asked.intent)
      key_is = ap (open_key v.scene.kept) poi_is ∙ served-key laws v.scene.kept asked.terminal.pt.poi asked.slot asked.last asked.intent kept_folds served intent_kept

      -- it has no Outcome, nor had it one as a reply was sent
      unended : IsUnended v.scene.kept (intent_key asked.intent)
      unended at outcome other found other_is =
          let opened = open-parts laws v.scene.kept kept_folds asked.terminal.pt.poi asked.slot served.intent served.is_open in
          open-key-unended laws v.scene.kept kept_folds asked.terminal.pt.poi asked.slot asked.intent opened.slot_is intent_kept at outcome other found other_is

      unended_then : (reply : SentReply) → IsFirstOf reply.kept v.scene.kept → IsUnended reply.kept (intent_key asked.intent)
      unended_then reply first_kept = unended-first reply.kept first_kept.0 (intent_key asked.intent) (subst (λ records. IsUnended records (intent_key asked.intent)) first_kept.1 unended)

      asked_as : IsAskedAs v.scene.kept (intent_key asked.intent) sent.kind
      asked_as = record {
        slot = asked.slot;
        intent = asked.intent;
        intent_is = intent_kept;
        own = refl;
        kind_is = same-some kind (booked_kind_of asked.intent.what) (sym (kind-sent sending bytes kind first kind_is) ∙ asked-kind (records_coming v) v.scene.core past.commands pt sending charges_card sound);
      }

      accepted : is_accepted v.scene.kept (intent_key asked.intent) ≡ true
      accepted = accepted-intent laws v.scene.kept asked.slot asked.intent kept_folds intent_kept

      own : (number : ℕ) (terminal : Terminal) → slice_get v.scene.core.terminals number ≡ Some terminal → number ≡ pt → IsServingSound (records_coming v) (sent ∷ past.commands) terminal.pt.poi terminal.standing
      own number terminal found same =
          let is : asked.terminal ≡ terminal = same-some asked.terminal terminal (sym asked.found ∙ ap (slice_get v.scene.core.terminals) (sym same) ∙ found) in
          let here : bytes_eq (numbering_of_number v.scene pt).poi asked.terminal.pt.poi ≡ true = ap (λ (poi : List ℕ). bytes_eq poi asked.terminal.pt.poi) poi_is ∙ bytes-itself asked.terminal.pt.poi in
          subst (λ (t : Terminal). IsServingSound (records_coming v) (sent ∷ past.commands) t.pt.poi t.standing) is
          (subst (λ (s : Standing). IsServingSound (records_coming v) (sent ∷ past.commands) asked.terminal.pt.poi s) (sym asked.standing_is) (λ intent intent_is.
          let one : asked.intent ≡ intent = same-some asked.intent intent (sym asked.intent_is ∙ intent_is) in
          record { command = sent; last = ap (λ (b : Bool). if b then Some sent else find (λ (command : SentCommand). bytes_eq command.numbering.poi asked.terminal.pt.poi) past.commands) here; key_is = key_is ∙ ap (λ (i : TheIntent). Some (intent_key i)) one }))

      other : (number : ℕ) (terminal : Terminal) → slice_get v.scene.core.terminals number ≡ Some terminal → number ≢ pt → IsServingSound (records_coming v) (sent ∷ past.commands) terminal.pt.poi terminal.standing
      other number terminal found differs =
          let k = call-setup v (SendPt pt sending) o.agrees.run next in
          let apart : bytes_eq asked.terminal.pt.poi terminal.pt.poi ≡ false = apart-pois log v k pt number asked.terminal terminal o (λ same. differs (sym same)) asked.found found in
          serving-past (records_coming v) sent past.commands terminal.pt.poi terminal.standing (ap (λ (poi : List ℕ). bytes_eq poi terminal.pt.poi) poi_is ∙ apart)
          (h.serving last.clear number terminal found (others-uncharged number (λ same. differs (sym same))) (last-cuts v (SendPt pt sending) number last refl))

  -- by the bytes that are sent
  pt-sent : (may_charge bytes ≡ false → (number : ℕ) → cut_owed number calls ≡ false → charge_owed number v.calls ≡ false)
      → Holds (called_with v turn calls) (record (with_sent_bytes v.scene (numbering_of_number v.scene pt) bytes past (kind_of_command bytes)) { place = past.place + 1 }) book
  pt-sent uncharged = by-kind (kind_of_command bytes) refl
    where
      by-kind : (found : Option BookedKind) → kind_of_command bytes ≡ found → Holds (called_with v turn calls) (record (with_sent_bytes v.scene (numbering_of_number v.scene pt) bytes past found) { place = past.place + 1 }) book
      by-kind None is = pt-sent-other (uncharged (ap (λ (found : Option BookedKind). is_some found) is))
      by-kind (Some kind) is = pt-sent-charge kind is

pub sent-pt-holds : (laws : LedgerLaws) (pt : ℕ) (bytes : List ℕ) (sent : Bool) → TurnHolds (SentPt pt bytes sent)
sent-pt-holds laws pt bytes true log v past book o ok h =
    pt-sent laws log v past book (SentPt pt bytes true) (later v.calls) pt ok.0 bytes o h ok.1 ([], sym ok.2 ∙ sym (append-nil bytes)) (subst AreQuiet (sym last.none_later) none-quiet) uncharged
  where
    last : IsLast v (SendPt pt ok.0)
    last = is-last log v (SendPt pt ok.0) o ok.1 refl (λ more. refl)

    both_not : (own charge : Bool) → charge ≡ false → (own && charge) ≡ false
    both_not true charge e = e
    both_not false charge e = refl

    uncharged : may_charge bytes ≡ false → (number : ℕ) → cut_owed number (later v.calls) ≡ false → charge_owed number v.calls ≡ false
    uncharged none number no_cut =
        let never : sending_charges ok.0 ≡ false = false_from_ne_true (sending_charges ok.0) (λ e. no-true (sym none ∙ ap may_charge ok.2 ∙ charged ok.0 e)) in
        last-charges v (SendPt pt ok.0) number last (both_not (pt == number) (sending_charges ok.0) never)
sent-pt-holds laws pt bytes false log v past book o ok h = pt-sent laws log v past book (SentPt pt bytes false) (OwedCutPt pt ∷ []) pt ok.0 bytes o h ok.1 ok.2 (cut-pt-quiet pt) (λ none number no_cut. uncharged number no_cut)
  where
    last : IsLast v (SendPt pt ok.0)
    last = is-last log v (SendPt pt ok.0) o ok.1 refl (λ more. refl)

    by_own : (own charge : Bool) → (own || false) ≡ false → (own && charge) ≡ false
    by_own true charge e = absurd (let n : true ≡ false = e in cc)
    by_own false charge e = refl

    uncharged : (number : ℕ) → cut_owed number (OwedCutPt pt ∷ []) ≡ false → charge_owed number v.calls ≡ false
    uncharged number no_cut = last-charges v (SendPt pt ok.0) number last (by_own (pt == number) (sending_charges ok.0) no_cut)

-- ---- rows of links

-- it isn't linked, or registers
abbrev ServesNone : Standing → Type 0
ServesNone (Unlinked due) = Unit {0}
ServesNone Registering = Unit {0}
ServesNone Enquiring = ⊥
ServesNone (Ready last) = ⊥
ServesNone (Serving service last) = ⊥
ServesNone (Aside before reported) = ⊥

none-serving : (records : List Record) (commands : List SentCommand) (poi : List ℕ) (standing : Standing) → ServesNone standing → IsServingSound records commands poi standing
none-serving records commands poi (Unlinked due) none = tt
none-serving records commands poi Registering none = tt
none-serving records commands poi Enquiring none = absurd none
none-serving records commands poi (Ready last) none = absurd none
none-serving records commands poi (Serving service last) none = absurd none
none-serving records commands poi (Aside before reported) none = absurd none

none-repliable : (standing : Standing) → ServesNone standing → IsRepliable standing
none-repliable (Unlinked due) none = tt
none-repliable Registering none = tt
none-repliable Enquiring none = absurd none
none-repliable (Ready last) none = absurd none
none-repliable (Serving service last) none = absurd none
none-repliable (Aside before reported) none = absurd none

-- the row changes the terminal of this number alone, which serves nothing then, and owes no deed
record Relinks (core : Core) (number : ℕ) (row : Row) : Type 0 where
  others : (other : ℕ) → other ≢ number → slice_get row.core.terminals other ≡ slice_get core.terminals other
  own : (terminal : Terminal) → slice_get row.core.terminals number ≡ Some terminal → ServesNone terminal.standing
  settings : settings_of row.core ≡ settings_of core
  sound : (records : List Record) (commands : List SentCommand) (occasion : Occasion) → AreCallsSound records row.core commands occasion row.calls
  no_deed : deed_owed row.calls ≡ false

-- where there is none of this number
absent-relinks : (known : Known) (number : ℕ) (row : Terminal → Row) → terminal_at known number ≡ None → Relinks known.core number (of_terminal known row None)
absent-relinks known number row none = record {
  others = λ other differs. refl;
  own = λ terminal found. absurd (let n : None ≡ Some terminal = sym none ∙ found in cc);
  settings = refl;
  sound = λ records commands occasion. tt;
  no_deed = refl;
}

-- where it becomes this one
becomes-relinks : (known : Known) (number : ℕ) (old new : Terminal) (calls : List OwedCall) → terminal_at known number ≡ Some old → new.pt ≡ old.pt → ServesNone new.standing
    → ((records : List Record) (commands : List SentCommand) (occasion : Occasion) → AreCallsSound records (with_terminal known.core number new) commands occasion calls) → deed_owed calls ≡ false
    → Relinks known.core number (record { core = with_terminal known.core number new; calls = calls; items = [] })
becomes-relinks known number old new calls found same none sound no_deed = record {
  others = λ other differs. others-stay known.core.terminals number other new differs;
  own = λ terminal there. subst (λ (t : Terminal). ServesNone t.standing) (same-some new terminal (sym (new-is-there known.core.terminals number old new found) ∙ there)) none;
  settings = same-stays (λ (terminal : Terminal). terminal.pt) known.core.terminals number old new found same;
  sound = sound;
  no_deed = no_deed;
}

made-relinks : (known : Known) (number : ℕ) → Relinks known.core number (link_made known number)
made-relinks known number = by_found (terminal_at known number) refl
  where
    by_found : (found : Option Terminal) → terminal_at known number ≡ found → Relinks known.core number (of_terminal known (registers known number) found)
    by_found None is = absent-relinks known number (registers known number) is
    by_found (Some terminal) is = becomes-relinks known number terminal _ _ is refl tt (λ records commands occasion. (tt, tt)) refl

lost-relinks : (known : Known) (number : ℕ) → AreRepliable known.core → Relinks known.core number (link_lost known number)
lost-relinks known number repliable = by_found (terminal_at known number) refl
  where
    by_found : (found : Option Terminal) → terminal_at known number ≡ found → Relinks known.core number (of_terminal known (unlinks known number) found)
    by_found None is = absent-relinks known number (unlinks known number) is
    by_found (Some terminal) is =
        let core : Core = with_terminal known.core number (unlinked_terminal terminal known.moment) in
        becomes-relinks known number terminal (unlinked_terminal terminal known.moment) (reply_calls_to terminal.asker (reply_to_lost terminal.standing)) is refl tt
        (λ records commands occasion.
        replies-sound records core commands occasion terminal.asker (reply_to_lost terminal.standing) (λ own replies. lost-sound records (waiting_keys core) occasion terminal.standing own (repliable number terminal is) replies))
        (replies-no-deed terminal.asker (reply_to_lost terminal.standing))

-- ---- a terminal's link

-- a row of an event of the terminal's link
record IsLinkRow (v : View) (pt : ℕ) (row : Row) : Type 0 where
  relinks : Relinks v.scene.core pt row
  dialogues : AllHaveDialogues row.core
  spares : spare_disk row.calls ≡ true
  brings_none : row.items ≡ []

-- a call that cuts no other terminal leaves each its dialogue after an event of its own terminal's link
event-dialogues : (v : View) (past : Past) (book : List BookedEntry) (call : OwedCall) (setup : Setup) (pt : ℕ) (event : LinkEvent) → IsLast v call → Holds v past book → ((number : ℕ) → number ≢ pt → cuts_terminal number call ≡ false)
    → AllHaveDialogues (link_row (known_in v.scene setup) pt event).core
event-dialogues v past book call setup pt event last h cuts =
    links-give (known_in v.scene setup) pt event (λ number terminal differs found. h.dialogues last.clear number terminal found (last-cuts v call number last (cuts number differs)))

lost-row : (v : View) (past : Past) (book : List BookedEntry) (call : OwedCall) (pt : ℕ) → HasSetup v.scene → IsLast v call → Holds v past book → ((number : ℕ) → number ≢ pt → cuts_terminal number call ≡ false) → IsLinkRow v pt (link_lost_at v.scene pt)
lost-row v past book call pt k last h cuts =
    let row_is : link_lost_at v.scene pt ≡ link_lost (known_in v.scene k.setup) pt = lost-at v.scene pt k.setup k.setup_is in
    record {
      relinks = subst (Relinks v.scene.core pt) (sym row_is) (lost-relinks (known_in v.scene k.setup) pt h.repliable);
      dialogues = subst (λ (r : Row). AllHaveDialogues r.core) (sym row_is) (event-dialogues v past book call k.setup pt LinkIsLost last h cuts);
      spares = lost-at-spares v.scene pt;
      brings_none = lost-brings-none v.scene pt;
    }

made-row : (v : View) (past : Past) (book : List BookedEntry) (call : OwedCall) (pt : ℕ) → HasSetup v.scene → IsLast v call → Holds v past book → ((number : ℕ) → number ≢ pt → cuts_terminal number call ≡ false) → IsLinkRow v pt (link_made_at v.scene pt)
made-row v past book call pt k last h cuts =
    let row_is : link_made_at v.scene pt ≡ link_made (known_in v.scene k.setup) pt = made-at v.scene pt k.setup k.setup_is in
    record {
      relinks = subst (Relinks v.scene.core pt) (sym row_is) (made-relinks (known_in v.scene k.setup) pt);
      dialogues = subst (λ (r : Row). AllHaveDialogues r.core) (sym row_is) (event-dialogues v past book call k.setup pt LinkIsMade last h cuts);
      spares = made-at-spares v.scene pt;
      brings_none = made-brings-none v.scene pt;
    }

-- what holds goes on holding, by the links that last then
link-holds : (v : View) (past : Past) (book : List BookedEntry) (turn : Turn) (pt : ℕ) (call : OwedCall) (row : Row) (calls : List OwedCall) (links lasting : List MadeLink) → IsLast v call → Holds v past book → IsLinkRow v pt row → calls ≡ []
    → ((number : ℕ) → number ≢ pt → cuts_terminal number call ≡ false) → ((number : ℕ) → charges_terminal number call ≡ false)
    → ((link : MadeLink) → In link lasting → IsLinkSound (records_coming v) row.core (row.calls ++ calls) (past_then past past.commands links lasting past.replies past.deeds) link)
    → Holds (by_row v (called v.scene turn) row calls) (past_then past past.commands links lasting past.replies past.deeds) book
link-holds v past book turn pt call row calls links lasting last h r none cuts charges sound =
    holds-on v w past book past.commands links lasting past.replies past.deeds h (record {
      kept = refl;
      coming = same-coming v w call last (ap spare_disk same ∙ r.spares) refl refl;
      items = ap (λ items. items ++ v.items) r.brings_none;
      commands = keyed-later v.scene.kept past.place past.commands h.commands;
      outcomes = outcomes-then v past book h;
      calls = subst (λ l. AreCallsSound (records_coming v) row.core past.commands past.occasion l) (sym same) (r.relinks.sound (records_coming v) past.commands past.occasion);
      serving = λ number terminal found no_charge no_cut. by-number number pt (λ is. own number terminal found (sym is)) (λ differs. other number terminal found differs);
      repliable = λ number terminal found. by-number number pt
          (λ is. none-repliable terminal.standing (r.relinks.own terminal (ap (slice_get row.core.terminals) is ∙ found)))
          (λ differs. h.repliable number terminal (sym (r.relinks.others number differs) ∙ found));
      dialogues = λ number terminal found no_cut. r.dialogues number terminal found;
      no_deed = ap deed_owed same ∙ r.relinks.no_deed;
      deeds = h.deeds;
      links = sound;
      replies = h.replies;
      replied = h.replied;
    })
  where
    w : View
    w = by_row v (called v.scene turn) row calls

    same : (row.calls ++ calls) ≡ row.calls
    same = ap (λ l. row.calls ++ l) none ∙ append-nil row.calls

    own : (number : ℕ) (terminal : Terminal) → slice_get row.core.terminals number ≡ Some terminal → number ≡ pt → IsServingSound (records_coming v) past.commands terminal.pt.poi terminal.standing
    own number terminal found is = none-serving (records_coming v) past.commands terminal.pt.poi terminal.standing (r.relinks.own terminal (ap (slice_get row.core.terminals) (sym is) ∙ found))

    other : (number : ℕ) (terminal : Terminal) → slice_get row.core.terminals number ≡ Some terminal → number ≢ pt → IsServingSound (records_coming v) past.commands terminal.pt.poi terminal.standing
    other number terminal found differs = h.serving last.clear number terminal (sym (r.relinks.others number differs) ∙ found) (last-charges v call number last (charges number)) (last-cuts v call number last (cuts number differs))

-- a link whose terminal the call doesn't cut
link-stays : (v : View) (past next : Past) (pt : ℕ) (call : OwedCall) (row : Row) (calls : List OwedCall) (link : MadeLink) → IsLast v call → IsLinkRow v pt row → past.place ≤ next.place → next.ends ≡ past.ends
    → (l : IsLinkSound (records_coming v) v.scene.core v.calls past link) → cuts_terminal l.of_terminal.number call ≡ false → IsLinkSound (records_coming v) row.core (row.calls ++ calls) next link
link-stays v past next pt call row calls link last r places ends l uncut =
    rest-sound (records_coming v) v.scene.core row.core (row.calls ++ calls) past next link r.relinks.settings places ends (link-rests (records_coming v) v.scene.core v.calls past link l (last-cuts v call l.of_terminal.number last uncut))

pub link-failed-holds : (pt : ℕ) → TurnHolds (LinkFailed pt)
link-failed-holds pt log v past book o ok h =
    link-holds v past book (LinkFailed pt) pt (LinkPt pt) (link_lost_at v.scene pt) [] past.links past.lasting last h row refl (λ number differs. refl) (λ number. refl)
    (λ link within. link-stays v past next_past pt (LinkPt pt) (link_lost_at v.scene pt) [] link last row (omega arith) refl (h.links last.clear link within) refl)
  where
    last : IsLast v (LinkPt pt)
    last = is-last log v (LinkPt pt) o ok refl (λ more. refl)

    row : IsLinkRow v pt (link_lost_at v.scene pt)
    row = lost-row v past book (LinkPt pt) pt (call-setup v (LinkPt pt) o.agrees.run ok) last h (λ number differs. refl)

    next_past : Past
    next_past = past_then past past.commands past.links past.lasting past.replies past.deeds

-- the connection of a terminal is cut: its links last no longer, and each other is of another terminal
pub cut-pt-holds : (pt : ℕ) → TurnHolds (CutPt pt)
cut-pt-holds pt log v past book o ok h =
    link-holds v past book (CutPt pt) pt call (link_lost_at v.scene pt) (later v.calls) past.links lasting last h row last.none_later cuts (λ number. refl) sound
  where
    call : OwedCall
    call = OwedCutPt pt

    last : IsLast v (OwedCutPt pt)
    last = is-last log v (OwedCutPt pt) o ok refl (λ more. refl)

    cuts : (number : ℕ) → number ≢ pt → cuts_terminal number (OwedCutPt pt) ≡ false
    cuts number differs = not-number pt number (λ same. differs (sym same))

    row : IsLinkRow v pt (link_lost_at v.scene pt)
    row = lost-row v past book (OwedCutPt pt) pt (call-setup v (OwedCutPt pt) o.agrees.run ok) last h cuts

    is_other : MadeLink → Bool
    is_other = λ link. not (bytes_eq link.numbering.poi (poi_of_number v.scene pt))

    lasting : List MadeLink
    lasting = filter is_other past.lasting

    next_past : Past
    next_past = past_then past past.commands past.links lasting past.replies past.deeds

    -- the link of the terminal that is cut has its POIID
    own : (link : MadeLink) → (t : IsOfTerminal v.scene.core link) → t.number ≡ pt → is_other link ≡ true → ⊥
    own link t same others =
        let found : slice_get v.scene.core.terminals pt ≡ Some t.terminal = ap (slice_get v.scene.core.terminals) (sym same) ∙ t.found in
        let poi_is : poi_of_number v.scene pt ≡ link.numbering.poi = ap (λ (numbering : Numbering). numbering.poi) (numbering-there v.scene pt t.terminal found) ∙ t.poi_is in
        no-true (sym (ap not (ap (bytes_eq link.numbering.poi) poi_is ∙ bytes-itself link.numbering.poi)) ∙ others)

    sound : (link : MadeLink) → In link lasting → IsLinkSound (records_coming v) (link_lost_at v.scene pt).core ((link_lost_at v.scene pt).calls ++ later v.calls) next_past link
    sound link within =
        let there = filter-in is_other past.lasting link within in
        let l = h.links last.clear link there.0 in
        link-stays v past next_past pt (OwedCutPt pt) (link_lost_at v.scene pt) (later v.calls) link last row (omega arith) refl l (cuts l.of_terminal.number (λ same. own link l.of_terminal same there.1))

-- ---- a terminal is linked

-- a terminal is linked that is there
pub linked-there : (log : List Turn) (v : View) (pt : ℕ) → Ordered log v → first_call v.calls ≡ Some (LinkPt pt) → (terminal : Terminal) × (slice_get v.scene.core.terminals pt ≡ Some terminal)
linked-there log v pt o next = by_found (slice_get v.scene.core.terminals pt) refl
  where
    s : Settled v
    s = call-settled v (LinkPt pt) o.agrees next

    by_found : (found : Option Terminal) → slice_get v.scene.core.terminals pt ≡ found → (terminal : Terminal) × (slice_get v.scene.core.terminals pt ≡ Some terminal)
    by_found None is =
        let fit = first-fits v.scene.outside.moment v.scene.core v.calls (LinkPt pt) s.fits next in
        absurd (let n : Absent ≡ Off fit.0 = sym (ap state_of is) ∙ fit.1 in cc)
    by_found (Some terminal) is = (terminal, is)

-- no end was heard after a link that is made now
none-after : (past : Past) (book : List BookedEntry) (v : View) (link : MadeLink) → Holds v past book → link.place ≡ past.place → list_any (is_report_after link) past.ends ≡ true → ⊥
none-after past book v link h now reports =
    let one = any-in (is_report_after link) past.ends reports in
    let end : HeardEnd = one.0 in
    let parts = and_parts (is_report end.ending) (bytes_eq end.numbering.poi link.numbering.poi && nat_lt link.place end.place) one.2 in
    let after_link : link.place < end.place = ltb-true link.place end.place (and_parts (bytes_eq end.numbering.poi link.numbering.poi) (nat_lt link.place end.place) parts.1).1 in
    let before : end.place ≤ past.heard = h.ended end one.1 in
    let heard : past.heard ≤ past.place = h.heard in
    absurd (omega (arith, after_link, before, heard, now))

pub linked-holds : (pt : ℕ) → TurnHolds (Linked pt)
linked-holds pt log v past book o ok h =
    link-holds v past book (Linked pt) pt (LinkPt pt) (link_made_at v.scene pt) (later v.calls) (new ∷ past.links) (new ∷ past.lasting) last h row last.none_later (λ number differs. refl) (λ number. refl) sound
  where
    last : IsLast v (LinkPt pt)
    last = is-last log v (LinkPt pt) o ok refl (λ more. refl)

    row : IsLinkRow v pt (link_made_at v.scene pt)
    row = made-row v past book (LinkPt pt) pt (call-setup v (LinkPt pt) o.agrees.run ok) last h (λ number differs. refl)

    new : MadeLink
    new = record { place = past.place; numbering = numbering_of_number v.scene pt; records = length v.scene.kept }

    next_past : Past
    next_past = past_then past past.commands (new ∷ past.links) (new ∷ past.lasting) past.replies past.deeds

    there : (terminal : Terminal) × (slice_get v.scene.core.terminals pt ≡ Some terminal)
    there = linked-there log v pt o ok

    of_terminal : IsOfTerminal v.scene.core new
    of_terminal = record { number = pt; terminal = there.0; found = there.1; poi_is = sym (ap (λ (numbering : Numbering). numbering.poi) (numbering-there v.scene pt there.0 there.1)) }

    new_sound : IsLinkSound (records_coming v) (link_made_at v.scene pt).core ((link_made_at v.scene pt).calls ++ later v.calls) next_past new
    new_sound = record {
      of_terminal = terminal-stays v.scene.core (link_made_at v.scene pt).core new row.relinks.settings of_terminal;
      before = omega arith;
      records_before = let count : length (records_coming v) ≡ length v.scene.kept = ap (λ records. length records) last.now in omega (arith, count);
      resolved = λ reports. absurd (none-after past book v new h refl reports);
    }

    sound : (link : MadeLink) → In link (new ∷ past.lasting) → IsLinkSound (records_coming v) (link_made_at v.scene pt).core ((link_made_at v.scene pt).calls ++ later v.calls) next_past link
    sound link (inl is) = subst (IsLinkSound (records_coming v) (link_made_at v.scene pt).core ((link_made_at v.scene pt).calls ++ later v.calls) next_past) (sym is) new_sound
    sound link (inr within) = link-stays v past next_past pt (LinkPt pt) (link_made_at v.scene pt) (later v.calls) link last row (omega arith) refl (h.links last.clear link within) refl
