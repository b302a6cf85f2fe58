-- A terminal to which the bytes that begin a round bring the end of its dialogue: it is handed it before the next poll.
use Rattle.std.proofs.Common.{◌≡◌, ℕ, List, [], ◌∷◌, ◌++◌, refl, sym, ◌∙◌, ap, subst, true, false, inl, inr, append_assoc}
use Rattle.std.proofs.lemmas.Bool.{and_parts}
use Rattle.std.specs.Prelude.{Bool, ◌⊎◌, ◌+◌, ◌&&◌, not, map, if◌then◌else◌, slice_get, Option, Some, None, Ok}
use Rattle.std.specs.List.{flat_map}
use Rattle.std.specs.Option.{option_map}
use Rattle.gw_base.specs.declared.setup.Pt.{Pt}
use Rattle.gw_base.specs.declared.setup.Setup.{Setup}
use Rattle.gw_bytes.specs.Bytes.{AreBytes}
use Rattle.gw_site.specs.Outside.{Outside, heard_on}
use Rattle.gw_site.specs.Sorts.{is_sort_of_round, sort_of}
use Rattle.gw_site.specs.declared.turn.Turn.{Turn}
use Rattle.gw_site.specs.declared.turn.Turn.TheVariants.{Start, OpenFailed, Polled, Opened, HeardTill, Closed, HeardPt, Lost, Stopped, Linked, LinkFailed, SentTill, SentPt, CutTill, CutPt, Wrote, Synced, DiskFailed, Crash}
use Rattle.zvt_apdu.specs.Decode.{decode_apdu}
use Rattle.zvt_apdu.specs.DecodeStream.{DecodedApdus, decode_apdus}
use Rattle.zvt_apdu.specs.Grammar.{ApduValue}
use Rattle.zvt_msg.specs.Message.{MessageValue}
use Rattle.zvt_msg.specs.MessageDecode.{decode_pt_message}
use Rattle.zvt_talk.specs.Came.{is_taken}
use Rattle.zvt_talk.specs.Talk.{is_end}
use Rattle.zvt_talk.specs.declared.meaning.Heard.{Heard}
use Rattle.jrn_record.specs.declared.records.Record.{Record}
use Rattle.gw_owes.specs.Calls.{OwedCall, SendTill, SendPt, LinkPt, WriteBody, WriteGate, WriteFirstGate, Sync, write_turn, CutTill as OwedCutTill, CutPt as OwedCutPt}
use Rattle.gw_owes.specs.Core.{Core, Wait}
use Rattle.gw_owes.specs.Events.{is_oversized, apdu_items, decoded_apdu_items, for_each_terminal, waits_by_deadline, items_due}
use Rattle.gw_owes.specs.DeviceRequests.{key_served}
use Rattle.gw_owes.specs.Handling.{meaning_at, taking, consequence, handle_row}
use Rattle.gw_owes.specs.Items.{RoundItem, Crowded, Message, Asked, Unframed, Gone, Greet, Handle, Serve, Queue, NextWaiting, Oversized, LinkLost, Late, Overdue, Due}
use Rattle.gw_owes.specs.Links.{is_linked}
use Rattle.gw_owes.specs.ReadAs.{ReadAs}
use Rattle.gw_owes.specs.Row.{Known, Row, owing_nothing, owing_where}
use Rattle.gw_owes.specs.Steps.{is_ready_standing}
use Rattle.gw_owes.specs.Rows.{row_of}
use Rattle.gw_owes.specs.Serving.{staying}
use Rattle.gw_owes.specs.declared.terminal.Standing.{Standing}
use Rattle.gw_owes.specs.declared.terminal.Terminal.{Terminal}
use Rattle.gw_owes.proofs.ApduLemmas.{pt-bytes-give}
use Rattle.gw_owes.proofs.HandlingLemmas.{handled-is, taken-keyless}
use Rattle.gw_owes.proofs.SetLemmas.{new-is-there}
use Rattle.gw_rules.specs.Lawful.{Begins, IsRead, AllowedTurn, Stands}
use Rattle.gw_rules.specs.DialogueLaws.{with_message, EndsWith, EndsAlong}
use Rattle.gw_rules.specs.JournalFiles.{is_on_disk, spare_disk}
use Rattle.gw_rules.specs.LinkLaws.{EndsLink, HasSaid}
use Rattle.gw_rules.specs.Scene.{known_in, row_in, row_at, link_made_at, link_lost_at}
use Rattle.gw_rules.specs.Stage.{Handling, busy, stage_wrote, stage_synced}
use Rattle.gw_rules.specs.View.{View, Move, Begin, Read, later, read_first, after, after_turn, at_first}
use Rattle.gw_rules.proofs.CourseLemmas.{begin-outside, begin-stage, after-outside, stands-outside}
use Rattle.gw_rules.proofs.CutLemmas.{is_dead}
use Rattle.gw_rules.proofs.HeardLemmas.{heard-bytes, bytes-append, stands-bytes}
use Rattle.gw_rules.proofs.KeptLemmas.{kept_in, without_asker, changes, at-kept, made-kept, lost-kept, without-kept, other-number, by-equal, BeginsFirst, begins-first, left-alone}
use Rattle.gw_rules.proofs.KeptPhaseLemmas.{spares-both, spares-later, off-disk}
use Rattle.gw_rules.proofs.LinkStateLemmas.{On, state_of, state_in, may_begin_some, may_bring_more, is_message, is_look, all_look, each-look, next-unready, loses}
use Rattle.gw_rules.proofs.LinkedLemmas.{Agrees, Settled, OrLost, lose_none, settled-turn, begin-agrees, event-settled, read-settled, call-setup, made-at-turns, lost-at-turns, turn-agrees, move-agrees, course-agrees, first-agrees, round-setup}
use Rattle.gw_rules.proofs.OutsideCutLemmas.{no-link, same-rest}
use Rattle.gw_rules.proofs.RoundLemmas.{turn-moment}
use Rattle.gw_rules.proofs.SetupLemmas.{HasSetup}
use Rattle.gw_rules.proofs.SilenceLemmas.{found-kept}
use Rattle.gw_rules.proofs.SpareLemmas.{greet-spares, made-at-spares, lost-at-spares}
use Rattle.gw_rules.proofs.StageLemmas.{no-true, not-true, handling-not-polled, round-busy}

-- ---- what is to come

-- these items of the terminal, begun one after the other at this moment, hand its dialogue such an end
abbrev pub WillEnd : (Heard → Type 0) → ℕ → ℕ → Terminal → List RoundItem → Type 0
WillEnd IsSuch pt moment terminal [] = ⊥
WillEnd IsSuch pt moment terminal (Crowded till ∷ items) = ⊥
WillEnd IsSuch pt moment terminal (Message till bytes ∷ items) = ⊥
WillEnd IsSuch pt moment terminal (Asked till as_read ∷ items) = ⊥
WillEnd IsSuch pt moment terminal (Unframed till ∷ items) = ⊥
WillEnd IsSuch pt moment terminal (Gone till ∷ items) = ⊥
WillEnd IsSuch pt moment terminal (Greet other apdu ∷ items) = WillEnd IsSuch pt moment terminal items
WillEnd IsSuch pt moment terminal (Handle other apdu ∷ items) =
    (other ≡ pt) × (message : MessageValue) × (decode_pt_message apdu ≡ Ok message)
    × (IsSuch (meaning_at terminal message) ⊎ ((is_end (meaning_at terminal message) ≡ false) × WillEnd IsSuch pt moment (with_message terminal message moment) items))
WillEnd IsSuch pt moment terminal (Serve other till header request ∷ items) = ⊥
WillEnd IsSuch pt moment terminal (Queue other till header request ∷ items) = ⊥
WillEnd IsSuch pt moment terminal (NextWaiting other ∷ items) = (other ≡ pt) × WillEnd IsSuch pt moment terminal items
WillEnd IsSuch pt moment terminal (Oversized other ∷ items) = ⊥
WillEnd IsSuch pt moment terminal (LinkLost other ∷ items) = ⊥
WillEnd IsSuch pt moment terminal (Late other ∷ items) = ⊥
WillEnd IsSuch pt moment terminal (Overdue key ∷ items) = ⊥
WillEnd IsSuch pt moment terminal (Due other ∷ items) = ⊥

-- the till that asked makes no difference
ends-kept : (IsSuch : Heard → Type 0) (terminal : Terminal) (moment : ℕ) (apdus : List ApduValue) → EndsWith IsSuch terminal moment apdus → EndsWith IsSuch (without_asker terminal) moment apdus
ends-kept IsSuch terminal moment [] none = absurd none
ends-kept IsSuch terminal moment (apdu ∷ apdus) (message, is, inl such) = (message, is, inl such)
ends-kept IsSuch terminal moment (apdu ∷ apdus) (message, is, inr (goes, more)) =
    (message, is, inr (goes, subst (λ t. EndsWith IsSuch t moment apdus) (by_taken (is_taken message)) (ends-kept IsSuch (with_message terminal message moment) moment apdus more)))
  where
    by_taken : (test : Bool) → without_asker (if test then taking terminal message moment else terminal) ≡ (if test then taking (without_asker terminal) message moment else without_asker terminal)
    by_taken true = refl
    by_taken false = refl

-- nor back
pub ends-own : (IsSuch : Heard → Type 0) (terminal : Terminal) (moment : ℕ) (apdus : List ApduValue) → EndsWith IsSuch (without_asker terminal) moment apdus → EndsWith IsSuch terminal moment apdus
ends-own IsSuch terminal moment [] none = absurd none
ends-own IsSuch terminal moment (apdu ∷ apdus) (message, is, inl such) = (message, is, inl such)
ends-own IsSuch terminal moment (apdu ∷ apdus) (message, is, inr (goes, more)) =
    (message, is, inr (goes, ends-own IsSuch (with_message terminal message moment) moment apdus (subst (λ t. EndsWith IsSuch t moment apdus) (by_taken (is_taken message)) more)))
  where
    by_taken : (test : Bool) → (if test then taking (without_asker terminal) message moment else without_asker terminal) ≡ without_asker (if test then taking terminal message moment else terminal)
    by_taken true = refl
    by_taken false = refl

apdus-end : (IsSuch : Heard → Type 0) (pt moment : ℕ) (terminal : Terminal) (apdus : List ApduValue) (rest : List RoundItem) → EndsWith IsSuch terminal moment apdus → WillEnd IsSuch pt moment terminal (flat_map (apdu_items pt) apdus ++ rest)
apdus-end IsSuch pt moment terminal [] rest none = absurd none
apdus-end IsSuch pt moment terminal (apdu ∷ apdus) rest (message, is, inl such) = (refl, message, is, inl such)
apdus-end IsSuch pt moment terminal (apdu ∷ apdus) rest (message, is, inr (goes, more)) = (refl, message, is, inr (goes, (refl, apdus-end IsSuch pt moment (with_message terminal message moment) apdus rest more)))

read-ends : (IsSuch : Heard → Type 0) (pt moment : ℕ) (terminal : Terminal) (as_read : ReadAs) (items : List RoundItem) → WillEnd IsSuch pt moment terminal items → WillEnd IsSuch pt moment terminal (read_first as_read items)
read-ends IsSuch pt moment terminal as_read [] h = h
read-ends IsSuch pt moment terminal as_read (Crowded till ∷ items) h = h
read-ends IsSuch pt moment terminal as_read (Message till bytes ∷ items) h = absurd h
read-ends IsSuch pt moment terminal as_read (Asked till other ∷ items) h = h
read-ends IsSuch pt moment terminal as_read (Unframed till ∷ items) h = h
read-ends IsSuch pt moment terminal as_read (Gone till ∷ items) h = h
read-ends IsSuch pt moment terminal as_read (Greet other apdu ∷ items) h = h
read-ends IsSuch pt moment terminal as_read (Handle other apdu ∷ items) h = h
read-ends IsSuch pt moment terminal as_read (Serve other till header request ∷ items) h = h
read-ends IsSuch pt moment terminal as_read (Queue other till header request ∷ items) h = h
read-ends IsSuch pt moment terminal as_read (NextWaiting other ∷ items) h = h
read-ends IsSuch pt moment terminal as_read (Oversized other ∷ items) h = h
read-ends IsSuch pt moment terminal as_read (LinkLost other ∷ items) h = h
read-ends IsSuch pt moment terminal as_read (Late other ∷ items) h = h
read-ends IsSuch pt moment terminal as_read (Overdue key ∷ items) h = h
read-ends IsSuch pt moment terminal as_read (Due other ∷ items) h = h

-- ---- items of no till's message

-- the item is a message of a till, or begins to serve one
abbrev pub asks : RoundItem → Bool
asks (Crowded till) = false
asks (Message till bytes) = true
asks (Asked till as_read) = true
asks (Unframed till) = false
asks (Gone till) = false
asks (Greet other apdu) = false
asks (Handle other apdu) = false
asks (Serve other till header request) = true
asks (Queue other till header request) = false
asks (NextWaiting other) = false
asks (Oversized other) = false
asks (LinkLost other) = false
asks (Late other) = false
asks (Overdue key) = false
asks (Due other) = false

abbrev pub ask_none : List RoundItem → Bool
ask_none [] = true
ask_none (item ∷ items) = not (asks item) && ask_none items

pub ask-none-append : (items more : List RoundItem) → ask_none items ≡ true → ask_none more ≡ true → ask_none (items ++ more) ≡ true
ask-none-append [] more h k = k
ask-none-append (item ∷ items) more h k =
    let p = and_parts (not (asks item)) (ask_none items) h in
    rw (p.0, ask-none-append items more p.1 k) refl

ask-none-each : (number : ℕ) (item : ℕ → RoundItem) (terminals : List Terminal) → ((n : ℕ) → asks (item n) ≡ false) → ask_none (for_each_terminal number item terminals) ≡ true
ask-none-each number item [] never = refl
ask-none-each number item (terminal ∷ terminals) never = rw (never number, ask-none-each (number + 1) item terminals never) refl

ask-none-overdue : (waits : List Wait) → ask_none (map (λ (wait : Wait). Overdue wait.key) waits) ≡ true
ask-none-overdue [] = refl
ask-none-overdue (wait ∷ waits) = ask-none-overdue waits

ask-none-due : (core : Core) → ask_none (items_due core) ≡ true
ask-none-due core =
    ask-none-append (for_each_terminal 0 Late core.terminals) (map (λ (wait : Wait). Overdue wait.key) (waits_by_deadline core.waits) ++ for_each_terminal 0 Due core.terminals) (ask-none-each 0 Late core.terminals (λ n. refl))
    (ask-none-append (map (λ (wait : Wait). Overdue wait.key) (waits_by_deadline core.waits)) (for_each_terminal 0 Due core.terminals) (ask-none-overdue (waits_by_deadline core.waits)) (ask-none-each 0 Due core.terminals (λ n. refl)))

ask-none-apdus : (pt : ℕ) (apdus : List ApduValue) → ask_none (flat_map (apdu_items pt) apdus) ≡ true
ask-none-apdus pt [] = refl
ask-none-apdus pt (apdu ∷ apdus) = ask-none-apdus pt apdus

ask-none-last : (pt : ℕ) (test : Bool) → ask_none (if test then Oversized pt ∷ [] else []) ≡ true
ask-none-last pt true = refl
ask-none-last pt false = refl

-- bytes of a terminal bring none, nor does what may be due after them
pub bytes-ask-none : (pt : ℕ) (decoded : DecodedApdus) (core : Core) → ask_none (decoded_apdu_items pt decoded ++ items_due core) ≡ true
bytes-ask-none pt decoded core =
    ask-none-append (decoded_apdu_items pt decoded) (items_due core)
    (ask-none-append (flat_map (apdu_items pt) decoded.apdus) _ (ask-none-apdus pt decoded.apdus) (ask-none-last pt (is_oversized (decode_apdu decoded.rest)))) (ask-none-due core)

-- so the item that begins adds none
asks-asked : (item : RoundItem) → asks item ≡ false → is_message item ≡ false
asks-asked (Crowded till) e = refl
asks-asked (Message till bytes) e = refl
asks-asked (Asked till as_read) e = no-true (sym e)
asks-asked (Unframed till) e = refl
asks-asked (Gone till) e = refl
asks-asked (Greet other apdu) e = refl
asks-asked (Handle other apdu) e = refl
asks-asked (Serve other till header request) e = refl
asks-asked (Queue other till header request) e = refl
asks-asked (NextWaiting other) e = refl
asks-asked (Oversized other) e = refl
asks-asked (LinkLost other) e = refl
asks-asked (Late other) e = refl
asks-asked (Overdue key) e = refl
asks-asked (Due other) e = refl

look-asks-none : (items : List RoundItem) → all_look items ≡ true → ask_none items ≡ true
look-asks-none [] e = refl
look-asks-none (item ∷ items) e =
    let p = and_parts (is_look item) (all_look items) e in
    rw (each-look (λ i. asks i ≡ false) item p.0 (λ number. refl), look-asks-none items p.1) refl

-- where none is to come, the item that begins is of none, and so are those that come then
pub record BeginsAlone (v : View) (first : BeginsFirst v) : Type 0 where
  pub none : asks first.item ≡ false
  pub rest : ask_none first.rest ≡ true
  pub left : ask_none (after v Begin).items ≡ true

pub begins-alone : (v : View) (first : BeginsFirst v) → ask_none v.items ≡ true → BeginsAlone v first
begins-alone v first none =
    let p = and_parts (not (asks first.item)) (ask_none first.rest) (subst (λ l. ask_none l ≡ true) first.items_are none) in
    let own = not-true (asks first.item) p.0 in
    record { none = own; rest = p.1; left = ap ask_none first.left ∙ ask-none-append first.new first.rest (look-asks-none first.new (first.looks (asks-asked first.item own))) p.1 }

pub read-asks-none : (as_read : ReadAs) (items : List RoundItem) → ask_none items ≡ true → ask_none (read_first as_read items) ≡ true
read-asks-none as_read [] h = h
read-asks-none as_read (Crowded till ∷ items) h = h
read-asks-none as_read (Message till bytes ∷ items) h = no-true h
read-asks-none as_read (Asked till other ∷ items) h = h
read-asks-none as_read (Unframed till ∷ items) h = h
read-asks-none as_read (Gone till ∷ items) h = h
read-asks-none as_read (Greet other apdu ∷ items) h = h
read-asks-none as_read (Handle other apdu ∷ items) h = h
read-asks-none as_read (Serve other till header request ∷ items) h = h
read-asks-none as_read (Queue other till header request ∷ items) h = h
read-asks-none as_read (NextWaiting other ∷ items) h = h
read-asks-none as_read (Oversized other ∷ items) h = h
read-asks-none as_read (LinkLost other ∷ items) h = h
read-asks-none as_read (Late other ∷ items) h = h
read-asks-none as_read (Overdue key ∷ items) h = h
read-asks-none as_read (Due other ∷ items) h = h

-- ---- turns without calls on the disk

-- no call on the disk is owed, and these records are kept
pub record SparesDisk (records : List Record) (v : View) : Type 0 where
  pub kept_is : v.scene.kept ≡ records
  pub none : spare_disk v.calls ≡ true

write-on-disk : (call : OwedCall) (turn : Turn) → write_turn call ≡ Some turn → is_on_disk call ≡ true
write-on-disk (SendTill till reply) turn e = absurd (let n : None ≡ Some turn = e in cc)
write-on-disk (SendPt pt sending) turn e = absurd (let n : None ≡ Some turn = e in cc)
write-on-disk (OwedCutTill till) turn e = absurd (let n : None ≡ Some turn = e in cc)
write-on-disk (OwedCutPt pt) turn e = absurd (let n : None ≡ Some turn = e in cc)
write-on-disk (LinkPt pt) turn e = absurd (let n : None ≡ Some turn = e in cc)
write-on-disk (WriteBody slot the_record) turn e = refl
write-on-disk (WriteGate slot the_record) turn e = refl
write-on-disk WriteFirstGate turn e = refl
write-on-disk Sync turn e = absurd (let n : None ≡ Some turn = e in cc)

-- so it stays with each turn of the round
pub spares-turn : (records : List Record) (v : View) (turn : Turn) → SparesDisk records v → AllowedTurn v turn → is_sort_of_round (sort_of turn) ≡ true → SparesDisk records (after_turn v turn)
spares-turn records v turn s ok e = by_turn turn ok e
  where
    same : (w : View) → w.scene.kept ≡ v.scene.kept → spare_disk w.calls ≡ true → SparesDisk records w
    same w kept none = record { kept_is = kept ∙ s.kept_is; none = none }

    by_turn : (turn : Turn) → AllowedTurn v turn → is_sort_of_round (sort_of turn) ≡ true → SparesDisk records (after_turn v turn)
    by_turn (Start setup) ok e = no-true e
    by_turn OpenFailed ok e = no-true e
    by_turn (Polled now) ok e = no-true e
    by_turn (Opened till) ok e = same (after_turn v (Opened till)) refl refl
    by_turn (HeardTill till bytes) ok e = same (after_turn v (HeardTill till bytes)) refl refl
    by_turn (Closed till) ok e = same (after_turn v (Closed till)) refl refl
    by_turn (HeardPt other bytes) ok e = same (after_turn v (HeardPt other bytes)) refl refl
    by_turn (Lost other) ok e = same (after_turn v (Lost other)) refl refl
    by_turn Stopped ok e = same (after_turn v Stopped) refl refl
    by_turn (Linked other) ok e = same (after_turn v (Linked other)) refl (spares-both (link_made_at v.scene other).calls (later v.calls) (made-at-spares v.scene other) (spares-later v.calls s.none))
    by_turn (LinkFailed other) ok e = same (after_turn v (LinkFailed other)) refl (spares-both (link_lost_at v.scene other).calls [] (lost-at-spares v.scene other) refl)
    by_turn (SentTill till bytes true) ok e = same (after_turn v (SentTill till bytes true)) refl (spares-later v.calls s.none)
    by_turn (SentTill till bytes false) ok e = same (after_turn v (SentTill till bytes false)) refl refl
    by_turn (SentPt other bytes true) ok e = same (after_turn v (SentPt other bytes true)) refl (spares-later v.calls s.none)
    by_turn (SentPt other bytes false) ok e = same (after_turn v (SentPt other bytes false)) refl refl
    by_turn (CutTill till) ok e = same (after_turn v (CutTill till)) refl (spares-later v.calls s.none)
    by_turn (CutPt other) ok e = same (after_turn v (CutPt other)) refl (spares-both (link_lost_at v.scene other).calls (later v.calls) (lost-at-spares v.scene other) (spares-later v.calls s.none))
    by_turn (Wrote offset bytes) ok e = absurd (off-disk v.calls ok.0 s.none ok.1 (write-on-disk ok.0 (Wrote offset bytes) ok.2))
    by_turn Synced ok e = absurd (off-disk v.calls Sync s.none ok refl)
    by_turn DiskFailed ok e = same (after_turn v DiskFailed) refl refl
    by_turn (Crash file) ok e = no-true e

-- ---- in the round

-- where the dialogue of this standing goes on, a message leaves the terminal as it has become
pub record GoesOnIn (standing : Standing) : Type 0 where
  pub unready : is_ready_standing standing ≡ false
  pub linked : is_linked standing ≡ true
  pub on : (terminal : Terminal) → terminal.standing ≡ standing → state_of (Some terminal) ≡ On
  pub stays : (known : Known) (pt : ℕ) (terminal : Terminal) (meant : Heard) → is_end meant ≡ false → consequence known pt terminal meant standing ≡ staying known pt terminal
  pub keyless : (kept : List Record) → key_served kept standing ≡ None

-- in the round this is kept of the terminal, whose dialogue will be handed such an end; no call on the disk and no message of a till comes before it
pub record Pending (IsSuch : Heard → Type 0) (standing : Standing) (settings : Pt) (records : List Record) (pt moment : ℕ) (v : View) : Type 0 where
  pub agrees : Agrees v
  pub settled : Settled v
  pub stage : v.scene.stage ≡ Handling
  pub moment_is : v.scene.outside.moment ≡ moment
  pub terminal : Terminal
  pub kept : kept_in v.scene.core pt ≡ Some terminal
  pub standing_is : terminal.standing ≡ standing
  pub settings_are : terminal.pt ≡ settings
  pub spares : SparesDisk records v
  pub none : ask_none v.items ≡ true
  pub will : WillEnd IsSuch pt moment terminal v.items

-- the item that began handed it that end
pub record Ended (IsSuch : Heard → Type 0) (standing : Standing) (settings : Pt) (records : List Record) (pt moment : ℕ) (w : View) : Type 0 where
  pub agrees : Agrees w
  pub settled : Settled w
  pub stage : w.scene.stage ≡ Handling
  pub moment_is : w.scene.outside.moment ≡ moment
  pub known : Known
  pub own : Terminal
  pub found : slice_get known.core.terminals pt ≡ Some own
  pub standing_is : own.standing ≡ standing
  pub settings_are : own.pt ≡ settings
  pub apdu : ApduValue
  pub message : MessageValue
  pub decoded : decode_pt_message apdu ≡ Ok message
  pub means : IsSuch (meaning_at own message)
  pub core_is : w.scene.core ≡ (handle_row known pt apdu).core
  pub calls_are : w.calls ≡ (handle_row known pt apdu).calls
  pub kept_is : known.kept ≡ records
  pub none : ask_none w.items ≡ true

-- the row of a message with which its dialogue goes on
message-row : (standing : Standing) → GoesOnIn standing → (known : Known) (pt : ℕ) (apdu : ApduValue) (own : Terminal) (message : MessageValue) → slice_get known.core.terminals pt ≡ Some own → own.standing ≡ standing → decode_pt_message apdu ≡ Ok message
    → is_end (meaning_at own message) ≡ false → handle_row known pt apdu ≡ owing_where (is_taken message) known (staying known pt (taking own message known.moment))
message-row standing goes_on known pt apdu own message found standing_is is goes =
    handled-is known pt apdu own message found (ap is_linked standing_is ∙ goes_on.linked) is
    ∙ ap (owing_where (is_taken message) known) (taken-keyless known pt taken (meaning_at own message) message (ap (key_served known.kept) standing_is ∙ goes_on.keyless known.kept) ∙ row_is)
  where
    taken : Terminal
    taken = taking own message known.moment

    row_is : consequence known pt taken (meaning_at own message) own.standing ≡ staying known pt taken
    row_is = ap (consequence known pt taken (meaning_at own message)) standing_is ∙ goes_on.stays known pt taken (meaning_at own message) goes

-- what it leaves
taken-kept : (known : Known) (pt : ℕ) (own : Terminal) (message : MessageValue) (test : Bool) → slice_get known.core.terminals pt ≡ Some own
    → kept_in (owing_where test known (staying known pt (taking own message known.moment))).core pt ≡ Some (if test then taking (without_asker own) message known.moment else without_asker own)
taken-kept known pt own message true found = ap (option_map without_asker) (new-is-there known.core.terminals pt own (taking own message known.moment) found)
taken-kept known pt own message false found = ap (option_map without_asker) found

taken-owes : (known : Known) (pt : ℕ) (terminal : Terminal) (test : Bool) → (owing_where test known (staying known pt terminal)).calls ≡ []
taken-owes known pt terminal true = refl
taken-owes known pt terminal false = refl

pub begin-pending : (IsSuch : Heard → Type 0) (standing : Standing) (settings : Pt) (records : List Record) (pt moment : ℕ) (v : View) → GoesOnIn standing → Pending IsSuch standing settings records pt moment v → Begins v
    → Pending IsSuch standing settings records pt moment (after v Begin) ⊎ Ended IsSuch standing settings records pt moment (after v Begin)
begin-pending IsSuch standing settings records pt moment v goes_on p b = by_item first.item core calls none (left-alone v first) items (subst (WillEnd IsSuch pt moment p.terminal) first.items_are p.will)
  where
    w : View
    w = after v Begin

    first : BeginsFirst v
    first = begins-first v p.agrees b

    run : HasSetup v.scene
    run = round-setup v p.agrees.run b.idle.round

    known : Known
    known = known_in v.scene run.setup

    none : loses first.item ≡ false
    none = not-true (loses first.item) (and_parts (not (loses first.item)) (lose_none first.rest) (subst (λ l. lose_none l ≡ true) first.items_are p.settled.none)).0

    core : w.scene.core ≡ (row_at v.scene first.item).core
    core = ap (λ l. (after (record v { items = l }) Begin).scene.core) first.items_are

    calls : w.calls ≡ (row_at v.scene first.item).calls
    calls = ap (λ l. (after (record v { items = l }) Begin).calls) first.items_are

    items : w.items ≡ (row_at v.scene first.item).items ++ first.rest
    items = ap (λ l. (after (record v { items = l }) Begin).items) first.items_are

    row_is : (item : RoundItem) → row_at v.scene item ≡ row_of v.scene.outside.tills known item
    row_is item = ap (λ (o : Option Setup). row_in v.scene (λ known. row_of v.scene.outside.tills known item) o) run.setup_is

    agrees : Agrees w
    agrees = move-agrees v Begin p.agrees b

    settled : Settled w
    settled = (begin-agrees v p.agrees b).1

    stage : w.scene.stage ≡ Handling
    stage = begin-stage v.scene v.items ∙ round-busy v.scene.stage b.idle.round

    moment_is : w.scene.outside.moment ≡ moment
    moment_is = ap (λ (o : Outside). o.moment) (begin-outside v.scene v.items) ∙ p.moment_is

    alone : BeginsAlone v first
    alone = begins-alone v first p.none

    kept_is : w.scene.kept ≡ records
    kept_is = ap (λ l. (after (record v { items = l }) Begin).scene.kept) first.items_are ∙ p.spares.kept_is

    pending : (terminal : Terminal) → kept_in w.scene.core pt ≡ Some terminal → terminal.standing ≡ standing → terminal.pt ≡ settings → spare_disk w.calls ≡ true → w.items ≡ first.rest → WillEnd IsSuch pt moment terminal first.rest → Pending IsSuch standing settings records pt moment w
    pending terminal kept is are spares rest will = record {
      agrees = agrees;
      settled = settled;
      stage = stage;
      moment_is = moment_is;
      terminal = terminal;
      kept = kept;
      standing_is = is;
      settings_are = are;
      spares = record { kept_is = kept_is; none = spares };
      none = alone.left;
      will = subst (WillEnd IsSuch pt moment terminal) (sym rest) will;
    }

    Next : Type 0
    Next = Pending IsSuch standing settings records pt moment w ⊎ Ended IsSuch standing settings records pt moment w

    same : (item : RoundItem) → w.scene.core ≡ (row_at v.scene item).core → may_begin_some item ≡ false → changes pt item ≡ false → spare_disk w.calls ≡ true → w.items ≡ first.rest → WillEnd IsSuch pt moment p.terminal first.rest → Next
    same item core serves unchanged spares rest will = inl (pending p.terminal (ap (λ c. kept_in c pt) core ∙ at-kept v.scene item pt serves unchanged ∙ p.kept) p.standing_is p.settings_are spares rest will)

    found : (own : Terminal) × (slice_get known.core.terminals pt ≡ Some own) × (without_asker own ≡ p.terminal)
    found = found-kept (slice_get v.scene.core.terminals pt) p.terminal p.kept

    own_standing : found.0.standing ≡ standing
    own_standing = ap (λ (t : Terminal). t.standing) found.2 ∙ p.standing_is

    handle : (apdu : ApduValue) → w.scene.core ≡ (handle_row known pt apdu).core → w.calls ≡ (handle_row known pt apdu).calls → w.items ≡ first.rest → WillEnd IsSuch pt moment p.terminal (Handle pt apdu ∷ first.rest) → Next
    handle apdu core calls rest (is, message, decoded, inl such) = inr (record {
      agrees = agrees;
      settled = settled;
      stage = stage;
      moment_is = moment_is;
      known = known;
      own = found.0;
      found = found.1;
      standing_is = own_standing;
      settings_are = ap (λ (t : Terminal). t.pt) found.2 ∙ p.settings_are;
      apdu = apdu;
      message = message;
      decoded = decoded;
      means = subst (λ (t : Terminal). IsSuch (meaning_at t message)) (sym found.2) such;
      core_is = core;
      calls_are = calls;
      kept_is = p.spares.kept_is;
      none = alone.left;
    })
    handle apdu core calls rest (is, message, decoded, inr (goes, more)) =
        let own_goes : is_end (meaning_at found.0 message) ≡ false = ap (λ (t : Terminal). is_end (meaning_at t message)) found.2 ∙ goes in
        let row : handle_row known pt apdu ≡ owing_where (is_taken message) known (staying known pt (taking found.0 message known.moment)) = message-row standing goes_on known pt apdu found.0 message found.1 own_standing decoded own_goes in
        let none : w.calls ≡ [] = calls ∙ ap (λ (r : Row). r.calls) row ∙ taken-owes known pt (taking found.0 message known.moment) (is_taken message) in
        let next : kept_in (handle_row known pt apdu).core pt ≡ Some (with_message p.terminal message moment) =
        ap (λ (r : Row). kept_in r.core pt) row ∙ taken-kept known pt found.0 message (is_taken message) found.1 ∙ ap (λ (t : Terminal). Some (with_message t message known.moment)) found.2 ∙ ap (λ m. Some (with_message p.terminal message m)) p.moment_is in
        inl (pending (with_message p.terminal message moment) (ap (λ c. kept_in c pt) core ∙ next) (still (is_taken message)) (still_pt (is_taken message)) (ap spare_disk none) rest more)
      where
        still : (test : Bool) → (if test then taking p.terminal message moment else p.terminal).standing ≡ standing
        still true = p.standing_is
        still false = p.standing_is

        still_pt : (test : Bool) → (if test then taking p.terminal message moment else p.terminal).pt ≡ settings
        still_pt true = p.settings_are
        still_pt false = p.settings_are

    by_item : (item : RoundItem) → w.scene.core ≡ (row_at v.scene item).core → w.calls ≡ (row_at v.scene item).calls → loses item ≡ false → (may_bring_more item ≡ false → w.items ≡ first.rest) → w.items ≡ (row_at v.scene item).items ++ first.rest → WillEnd IsSuch pt moment p.terminal (item ∷ first.rest) → Next
    by_item (Crowded till) core calls none alone items will = absurd will
    by_item (Message till bytes) core calls none alone items will = absurd will
    by_item (Asked till as_read) core calls none alone items will = absurd will
    by_item (Unframed till) core calls none alone items will = absurd will
    by_item (Gone till) core calls none alone items will = absurd will
    by_item (Greet other apdu) core calls none alone items will =
        same (Greet other apdu) core refl refl (ap spare_disk (calls ∙ ap (λ (r : Row). r.calls) (row_is (Greet other apdu))) ∙ greet-spares known other (decode_pt_message apdu)) (alone refl) will
    by_item (Handle other apdu) core calls none alone items will =
        let row : row_at v.scene (Handle other apdu) ≡ handle_row known pt apdu = ap (λ n. row_at v.scene (Handle n apdu)) will.0 ∙ row_is (Handle pt apdu) in
        handle apdu (core ∙ ap (λ (r : Row). r.core) row) (calls ∙ ap (λ (r : Row). r.calls) row) (alone refl) (refl, will.1, will.2, will.3)
    by_item (Serve other till header request) core calls none alone items will = absurd will
    by_item (Queue other till header request) core calls none alone items will = absurd will
    by_item (NextWaiting other) core calls none alone items will =
        let row : row_at v.scene (NextWaiting other) ≡ owing_nothing known =
        ap (λ n. row_at v.scene (NextWaiting n)) will.0 ∙ row_is (NextWaiting pt) ∙ next-unready known pt found.0 found.1 (ap is_ready_standing own_standing ∙ goes_on.unready) in
        inl (pending p.terminal (ap (λ c. kept_in c pt) (core ∙ ap (λ (r : Row). r.core) row) ∙ p.kept) p.standing_is p.settings_are (ap spare_disk (calls ∙ ap (λ (r : Row). r.calls) row)) (items ∙ ap (λ (r : Row). r.items ++ first.rest) row) will.1)
    by_item (Oversized other) core calls none alone items will = absurd will
    by_item (LinkLost other) core calls none alone items will = absurd will
    by_item (Late other) core calls none alone items will = absurd will
    by_item (Overdue key) core calls none alone items will = absurd will
    by_item (Due other) core calls none alone items will = absurd will

-- ---- turns

-- a turn of the round that isn't of this terminal's link leaves the terminal as it was
pub turn-core : (v : View) (turn : Turn) (pt : ℕ) → Agrees v → state_in v.scene.core pt ≡ On → Settled v → AllowedTurn v turn → is_sort_of_round (sort_of turn) ≡ true → (EndsLink pt turn → ⊥) → kept_in (after_turn v turn).scene.core pt ≡ kept_in v.scene.core pt
turn-core v (Start setup) pt a on s ok e lasts = no-true e
turn-core v OpenFailed pt a on s ok e lasts = no-true e
turn-core v (Polled now) pt a on s ok e lasts = no-true e
turn-core v (Opened till) pt a on s ok e lasts = refl
turn-core v (HeardTill till bytes) pt a on s ok e lasts = refl
turn-core v (Closed till) pt a on s ok e lasts = refl
turn-core v (HeardPt other bytes) pt a on s ok e lasts = refl
turn-core v (Lost other) pt a on s ok e lasts = refl
turn-core v Stopped pt a on s ok e lasts = refl
turn-core v (Linked other) pt a on s ok e lasts = by-equal pt other (λ is. no-link other v s (ap (state_in v.scene.core) is ∙ on) ok) (λ differs. made-kept v.scene other pt (other-number pt other differs))
turn-core v (LinkFailed other) pt a on s ok e lasts = by-equal pt other (λ is. absurd (lasts (inr (inr (ap LinkFailed is))))) (λ differs. lost-kept v.scene other pt (other-number pt other differs))
turn-core v (SentTill till bytes true) pt a on s ok e lasts = refl
turn-core v (SentTill till bytes false) pt a on s ok e lasts = refl
turn-core v (SentPt other bytes true) pt a on s ok e lasts = refl
turn-core v (SentPt other bytes false) pt a on s ok e lasts = refl
turn-core v (CutTill till) pt a on s ok e lasts = without-kept till v.scene.core.terminals pt
turn-core v (CutPt other) pt a on s ok e lasts = by-equal pt other (λ is. absurd (lasts (inr (inl (ap CutPt is))))) (λ differs. lost-kept v.scene other pt (other-number pt other differs))
turn-core v (Wrote offset bytes) pt a on s ok e lasts = refl
turn-core v Synced pt a on s ok e lasts = refl
turn-core v DiskFailed pt a on s ok e lasts = refl
turn-core v (Crash file) pt a on s ok e lasts = no-true e

-- and the items that are to come, or the run has ended
abbrev pub SameItems : View → Turn → Type 0
SameItems v turn = (((after_turn v turn).items ≡ v.items) × ((after_turn v turn).scene.stage ≡ Handling)) ⊎ (is_dead (after_turn v turn).scene.stage ≡ true)

pub turn-items : (v : View) (turn : Turn) → Agrees v → v.scene.stage ≡ Handling → AllowedTurn v turn → is_sort_of_round (sort_of turn) ≡ true → SameItems v turn
turn-items v (Start setup) a at ok e = no-true e
turn-items v OpenFailed a at ok e = no-true e
turn-items v (Polled now) a at ok e = no-true e
turn-items v (Opened till) a at ok e = handling-not-polled (sym at ∙ ok.0)
turn-items v (HeardTill till bytes) a at ok e = handling-not-polled (sym at ∙ ok.0.polled)
turn-items v (Closed till) a at ok e = handling-not-polled (sym at ∙ ok.polled)
turn-items v (HeardPt other bytes) a at ok e = handling-not-polled (sym at ∙ ok.0.polled)
turn-items v (Lost other) a at ok e = handling-not-polled (sym at ∙ ok.polled)
turn-items v Stopped a at ok e = handling-not-polled (sym at ∙ ok)
turn-items v (Linked other) a at ok e = let known = call-setup v (LinkPt other) a.run ok in inl (ap (λ l. l ++ v.items) (made-at-turns v.scene other known.setup known.setup_is).items, ap busy at)
turn-items v (LinkFailed other) a at ok e = let known = call-setup v (LinkPt other) a.run ok in inl (ap (λ l. l ++ v.items) (lost-at-turns v.scene other known.setup known.setup_is).items, ap busy at)
turn-items v (SentTill till bytes true) a at ok e = inl (refl, ap busy at)
turn-items v (SentTill till bytes false) a at ok e = inl (refl, ap busy at)
turn-items v (SentPt other bytes true) a at ok e = inl (refl, ap busy at)
turn-items v (SentPt other bytes false) a at ok e = inl (refl, ap busy at)
turn-items v (CutTill till) a at ok e = inl (refl, ap busy at)
turn-items v (CutPt other) a at ok e = let known = call-setup v (OwedCutPt other) a.run ok in inl (ap (λ l. l ++ v.items) (lost-at-turns v.scene other known.setup known.setup_is).items, ap busy at)
turn-items v (Wrote offset bytes) a at ok e = inl (refl, ap stage_wrote at)
turn-items v Synced a at ok e = inl (refl, ap stage_synced at)
turn-items v DiskFailed a at ok e = inr refl
turn-items v (Crash file) a at ok e = no-true e

-- a terminal that is ready or being enquired is linked
pub kept-linked : (core : Core) (pt : ℕ) (terminal : Terminal) → kept_in core pt ≡ Some terminal → state_of (Some terminal) ≡ On → state_in core pt ≡ On
kept-linked core pt terminal kept on = by_found (slice_get core.terminals pt) kept
  where
    by_found : (found : Option Terminal) → option_map without_asker found ≡ Some terminal → state_of found ≡ On
    by_found None e = absurd (let n : None ≡ Some terminal = e in cc)
    by_found (Some own) e = let same : without_asker own ≡ terminal = (let n : Some (without_asker own) ≡ Some terminal = e in cc) in ap (λ (t : Terminal). state_of (Some t)) same ∙ on

-- no link is lost within the round
pub round-settled : (v : View) (turn : Turn) → Agrees v → Settled v → v.scene.stage ≡ Handling → AllowedTurn v turn → Settled (after_turn v turn)
round-settled v turn a s at ok = by_turn (settled-turn v turn a.run a.ends s ok)
  where
    by_turn : Settled (after_turn v turn) ⊎ OrLost v turn → Settled (after_turn v turn)
    by_turn (inl settled) = settled
    by_turn (inr lost) = let allowed : AllowedTurn v (Lost lost.0) = subst (AllowedTurn v) lost.1 ok in handling-not-polled (sym at ∙ allowed.polled)

-- a turn of the round, unless the terminal's link ends with it
pub turn-pending : (IsSuch : Heard → Type 0) (standing : Standing) (settings : Pt) (records : List Record) (pt moment : ℕ) (v : View) (turn : Turn) → GoesOnIn standing → Pending IsSuch standing settings records pt moment v → AllowedTurn v turn → is_sort_of_round (sort_of turn) ≡ true → (EndsLink pt turn → ⊥)
    → Pending IsSuch standing settings records pt moment (after_turn v turn) ⊎ (is_dead (after_turn v turn).scene.stage ≡ true)
turn-pending IsSuch standing settings records pt moment v turn goes_on p ok e lasts = by_items (turn-items v turn p.agrees p.stage ok e)
  where
    core : kept_in (after_turn v turn).scene.core pt ≡ kept_in v.scene.core pt
    core = turn-core v turn pt p.agrees (kept-linked v.scene.core pt p.terminal p.kept (goes_on.on p.terminal p.standing_is)) p.settled ok e lasts

    by_items : SameItems v turn → Pending IsSuch standing settings records pt moment (after_turn v turn) ⊎ (is_dead (after_turn v turn).scene.stage ≡ true)
    by_items (inr dead) = inr dead
    by_items (inl (items, at)) = inl (record {
      agrees = turn-agrees v turn p.agrees ok;
      settled = round-settled v turn p.agrees p.settled p.stage ok;
      stage = at;
      moment_is = ap (λ (o : Outside). o.moment) (after-outside v turn) ∙ turn-moment v.scene.outside turn e ∙ p.moment_is;
      terminal = p.terminal;
      kept = core ∙ p.kept;
      standing_is = p.standing_is;
      settings_are = p.settings_are;
      spares = spares-turn records v turn p.spares ok e;
      none = ap ask_none items ∙ p.none;
      will = subst (WillEnd IsSuch pt moment p.terminal) (sym items) p.will;
    })

-- a message that is read
pub read-pending : (IsSuch : Heard → Type 0) (standing : Standing) (settings : Pt) (records : List Record) (pt moment : ℕ) (v : View) (as_read : ReadAs) → Pending IsSuch standing settings records pt moment v → IsRead v as_read → Pending IsSuch standing settings records pt moment (after v (Read as_read))
read-pending IsSuch standing settings records pt moment v as_read p r = record {
  agrees = move-agrees v (Read as_read) p.agrees r;
  settled = read-settled v as_read p.settled;
  stage = round-busy v.scene.stage r.idle.round;
  moment_is = p.moment_is;
  terminal = p.terminal;
  kept = p.kept;
  standing_is = p.standing_is;
  settings_are = p.settings_are;
  spares = record { kept_is = p.spares.kept_is; none = refl };
  none = read-asks-none as_read v.items p.none;
  will = read-ends IsSuch pt moment p.terminal as_read v.items p.will;
}

-- ---- as the bytes come

stands-agrees : (log : List Turn) (v : View) → Stands log v → Agrees v
stands-agrees log v s = subst Agrees s.view_is (course-agrees at_first s.course first-agrees s.lawful)

pub heard-pending : (IsSuch : Heard → Type 0) (standing : Standing) (log : List Turn) (v : View) (moves : List Move) (pt : ℕ) (terminal : Terminal) (e : EndsAlong IsSuch log v moves pt terminal standing)
    → Pending IsSuch standing terminal.pt v.scene.kept pt v.scene.outside.moment (after_turn v (HeardPt pt e.chunk))
heard-pending IsSuch standing log v moves pt terminal e =
    let o = sym (stands-outside log v e.before) in
    let agrees = stands-agrees log v e.before in
    let ok : AllowedTurn v (HeardPt pt e.chunk) = e.lawful.0 in
    let heard : List ℕ = heard_on v.scene.outside.links pt in
    let said = subst (λ (p : Outside). HasSaid p pt e.chunk e.new e.left) o e.said in
    let small : AreBytes (heard ++ e.chunk) = bytes-append heard e.chunk (heard-bytes v.scene.outside.links pt (stands-bytes log v e.before).links) ok.1.bytes in
    let brings = pt-bytes-give pt heard e.chunk said.before (said.before ++ e.new) said.rest e.left small said.spelled said.all in
    let same : e.new ≡ brings.new = same-rest said.before e.new brings.new brings.completed in
    let moment : ℕ = v.scene.outside.moment in
    let kept : Terminal = without_asker terminal in
    let ends : EndsWith IsSuch kept moment brings.new =
    subst (λ l. EndsWith IsSuch kept moment l) same (ends-kept IsSuch terminal moment e.new (subst (λ (p : Outside). EndsWith IsSuch terminal p.moment e.new) o e.ends)) in
    let will : WillEnd IsSuch pt moment kept ((flat_map (apdu_items pt) brings.new ++ brings.last) ++ items_due v.scene.core) =
    subst (WillEnd IsSuch pt moment kept) (sym (append_assoc (flat_map (apdu_items pt) brings.new) brings.last (items_due v.scene.core))) (apdus-end IsSuch pt moment kept brings.new (brings.last ++ items_due v.scene.core) ends) in
    record {
      agrees = turn-agrees v (HeardPt pt e.chunk) agrees ok;
      settled = by_turn e.chunk (settled-turn v (HeardPt pt e.chunk) agrees.run agrees.ends (event-settled v agrees ok.0.polled) ok);
      stage = refl;
      moment_is = refl;
      terminal = kept;
      kept = ap (option_map without_asker) e.found;
      standing_is = e.standing_is;
      settings_are = refl;
      spares = record { kept_is = refl; none = refl };
      none = bytes-ask-none pt (decode_apdus ((decode_apdus heard).rest ++ e.chunk)) v.scene.core;
      will = subst (λ l. WillEnd IsSuch pt moment kept (l ++ items_due v.scene.core)) (sym brings.items_are) will;
    }
  where
    by_turn : (chunk : List ℕ) → Settled (after_turn v (HeardPt pt chunk)) ⊎ OrLost v (HeardPt pt chunk) → Settled (after_turn v (HeardPt pt chunk))
    by_turn chunk (inl s) = s
    by_turn chunk (inr lost) = absurd (let n : HeardPt pt chunk ≡ Lost lost.0 = lost.1 in cc)
