-- An APDU outside the grammar, and bytes that begin one above the limit, change nothing but the link of their terminal, and owe the till of what it has served its reply.
use Rattle.std.proofs.Common.{◌≡◌, ◌≢◌, ℕ, List, [], ◌∷◌, ◌++◌, refl, sym, ◌∙◌, ap, subst, true, false, inl, inr, append_assoc, append-nil}
use Rattle.std.specs.Prelude.{Bool, ℤ, ◌+◌, ◌⊎◌, if◌then◌else◌, slice_get, Option, Some, None, Err}
use Rattle.std.specs.List.{flat_map}
use Rattle.gw_base.specs.declared.setup.Setup.{Setup}
use Rattle.gw_bytes.specs.Bytes.{AreBytes}
use Rattle.gw_site.specs.Outside.{Connection, is_connected, heard_on}
use Rattle.gw_site.specs.Sorts.{AreOfRound, is_sort_of_round, sort_of}
use Rattle.gw_site.specs.declared.turn.Turn.{Turn}
use Rattle.gw_site.specs.declared.turn.Turn.TheVariants.{Start, OpenFailed, Polled, Opened, HeardTill, Closed, HeardPt, Lost, Stopped, Linked, LinkFailed, SentTill, SentPt, CutTill, CutPt, Wrote, Synced, DiskFailed, Crash}
use Rattle.zvt_apdu.specs.Grammar.{ApduValue}
use Rattle.zvt_apdu.specs.Decode.{decode_apdu}
use Rattle.zvt_apdu.specs.DecodeStream.{DecodedApdus, decode_apdus}
use Rattle.zvt_msg.specs.MessageDecode.{decode_pt_message}
use Rattle.zvt_msg.specs.declared.fault.PtFault.{PtFault}
use Rattle.zvt_talk.specs.Talk.{TalkFacts}
use Rattle.gw_owes.specs.Calls.{OwedCall, CutPt as OwedCutPt}
use Rattle.gw_owes.specs.Events.{is_oversized, apdu_items, decoded_apdu_items, pt_bytes_items, items_due}
use Rattle.gw_owes.specs.Greeting.{greet_decoded, outside_row}
use Rattle.gw_owes.specs.Items.{RoundItem, Crowded, Message, Asked, Unframed, Gone, Greet, Handle, Serve, Queue, NextWaiting, Oversized, LinkLost, Late, Overdue, Due}
use Rattle.gw_owes.specs.Links.{is_linked, cutting}
use Rattle.gw_owes.specs.ReadAs.{ReadAs}
use Rattle.gw_owes.specs.Row.{Known, owing_nothing, becoming}
use Rattle.gw_owes.specs.Rows.{row_of}
use Rattle.gw_owes.specs.Steps.{is_ready_standing}
use Rattle.gw_owes.specs.TerminalLaws.{IsOwedNothing}
use Rattle.gw_owes.specs.Terminals.{terminal_at, of_terminal, reply_to_lost, unlinked_terminal, unlinks, link_lost}
use Rattle.gw_owes.specs.WaitingRows.{next_waiting_row}
use Rattle.gw_owes.specs.declared.terminal.Standing.{Standing}
use Rattle.gw_owes.specs.declared.terminal.Standing.TheVariants.{Unlinked, Registering, Enquiring, Ready, Serving, Aside}
use Rattle.gw_owes.specs.declared.terminal.Terminal.{Terminal}
use Rattle.gw_owes.proofs.ApduLemmas.{pt-bytes-give}
use Rattle.gw_owes.proofs.HandlingLemmas.{linked-row}
use Rattle.gw_owes.proofs.SetLemmas.{new-is-there, alone-set}
use Rattle.gw_owes.proofs.TerminalLemmas.{unlinked-owes-nothing, absent-owes-nothing}
use Rattle.gw_rules.specs.Lawful.{first_message, may_begin, Begins, AllowedTurn, IsCourse, turns_of, Stands}
use Rattle.gw_rules.specs.LinkLaws.{HasSaid}
use Rattle.gw_rules.specs.OutsideLaws.{IsOfBytes, AreOfBytes, idle_with, HasCourseTo, HasCourse, link_cut, calls_of_loss, CutsLink, ChangesNothing, IsAlone, after_greeting, OutsideIsAlone, TooLongIsAlone}
use Rattle.gw_rules.specs.Scene.{Scene, known_in, row_in, row_at, link_lost_at}
use Rattle.gw_rules.specs.Stage.{Stage, Handling, busy, is_round, is_looking}
use Rattle.gw_rules.specs.View.{View, Move, Begin, Read, Make, begun, begin, by_row, called, read_first, after, after_turn, view_from, at_first}
use Rattle.gw_rules.proofs.CourseLemmas.{begin-stage, course-append, stands-more, turns_of-append, view_from-append}
use Rattle.gw_rules.proofs.CutLemmas.{is_dead, dead-round, dead-running, dead-turn, none-among}
use Rattle.gw_rules.proofs.HeardLemmas.{heard-bytes, bytes-append, stands-bytes}
use Rattle.gw_rules.proofs.KeptLemmas.{begins-first}
use Rattle.gw_rules.proofs.LinkStateLemmas.{next-unready, state_of, standing_state}
use Rattle.gw_rules.proofs.LinkedLemmas.{Agrees, Settled, Losing, is_on, round-setup, course-agrees, move-agrees, turn-agrees}
use Rattle.gw_rules.proofs.OutsideCutLemmas.{cut-is, cut-makes, same-rest}
use Rattle.gw_rules.proofs.PendingLemmas.{SameItems, turn-items}
use Rattle.gw_rules.proofs.PrefixLemmas.{Along}
use Rattle.gw_rules.proofs.SetupLemmas.{HasSetup}
use Rattle.gw_rules.proofs.SplitLemmas.{SplitAt, split-log, split-agrees, split-outside, split-stands}
use Rattle.gw_rules.proofs.StageLemmas.{no-true, no-call, handling-not-polled}
use Rattle.gw_rules.proofs.LossLemmas.{IsUnlinkedIn, owing_then, pays}
use Rattle.gw_rules.proofs.UnlawfulLemmas.{take-owed, begin-next}

-- ---- items of a terminal's bytes

of-append : (pt : ℕ) (items more : List RoundItem) → AreOfBytes pt items → AreOfBytes pt more → AreOfBytes pt (items ++ more)
of-append pt [] more h k = k
of-append pt (item ∷ items) more h k = (h.0, of-append pt items more h.1 k)

of-rest : (pt : ℕ) (items more : List RoundItem) → AreOfBytes pt (items ++ more) → AreOfBytes pt more
of-rest pt [] more h = h
of-rest pt (item ∷ items) more h = of-rest pt items more h.1

of-apdus : (pt : ℕ) (apdus : List ApduValue) → AreOfBytes pt (flat_map (apdu_items pt) apdus)
of-apdus pt [] = tt
of-apdus pt (apdu ∷ apdus) = (refl, (refl, (refl, of-apdus pt apdus)))

of-last : (pt : ℕ) (test : Bool) → AreOfBytes pt (if test then Oversized pt ∷ [] else [])
of-last pt true = (refl, tt)
of-last pt false = tt

bytes-bring : (pt : ℕ) (decoded : DecodedApdus) → AreOfBytes pt (decoded_apdu_items pt decoded)
bytes-bring pt decoded = of-append pt (flat_map (apdu_items pt) decoded.apdus) _ (of-apdus pt decoded.apdus) (of-last pt (is_oversized (decode_apdu decoded.rest)))

-- each may begin where it is the first
of-begins : (pt : ℕ) (scene : Scene) (item : RoundItem) (items : List RoundItem) → IsOfBytes pt item → may_begin scene (item ∷ items) ≡ true
of-begins pt scene (Crowded till) items is = absurd is
of-begins pt scene (Message till bytes) items is = absurd is
of-begins pt scene (Asked till as_read) items is = absurd is
of-begins pt scene (Unframed till) items is = absurd is
of-begins pt scene (Gone till) items is = absurd is
of-begins pt scene (Greet number apdu) items is = refl
of-begins pt scene (Handle number apdu) items is = refl
of-begins pt scene (Serve number till header request) items is = absurd is
of-begins pt scene (Queue number till header request) items is = absurd is
of-begins pt scene (NextWaiting number) items is = refl
of-begins pt scene (Oversized number) items is = refl
of-begins pt scene (LinkLost number) items is = absurd is
of-begins pt scene (Late number) items is = absurd is
of-begins pt scene (Overdue key) items is = absurd is
of-begins pt scene (Due number) items is = absurd is

-- nothing is owed for what a terminal says, and nothing begins that waits for it
record OwesNothing (known : Known) (pt : ℕ) (apdu : ApduValue) : Type 0 where
  said : IsOwedNothing known pt apdu
  next : next_waiting_row known pt ≡ owing_nothing known

unlinked-owes : (known : Known) (pt : ℕ) (terminal : Terminal) (due : Option ℕ) (apdu : ApduValue) → terminal_at known pt ≡ Some terminal → terminal.standing ≡ Unlinked due → OwesNothing known pt apdu
unlinked-owes known pt terminal due apdu found is = record { said = unlinked-owes-nothing known pt terminal due apdu found is; next = next-unready known pt terminal found (ap is_ready_standing is) }

absent-owes : (known : Known) (pt : ℕ) (apdu : ApduValue) → terminal_at known pt ≡ None → OwesNothing known pt apdu
absent-owes known pt apdu none = record { said = absent-owes-nothing known pt apdu none; next = rw none refl }

-- each owes nothing of a terminal of which nothing is owed for any APDU
of-nothing : (tills : List Connection) (known : Known) (pt : ℕ) (item : RoundItem) → IsOfBytes pt item → ((apdu : ApduValue) → OwesNothing known pt apdu) → row_of tills known item ≡ owing_nothing known
of-nothing tills known pt (Crowded till) is none = absurd is
of-nothing tills known pt (Message till bytes) is none = absurd is
of-nothing tills known pt (Asked till as_read) is none = absurd is
of-nothing tills known pt (Unframed till) is none = absurd is
of-nothing tills known pt (Gone till) is none = absurd is
of-nothing tills known pt (Greet number apdu) is none = subst (λ n. row_of tills known (Greet n apdu) ≡ owing_nothing known) (sym is) (none apdu).said.greeted
of-nothing tills known pt (Handle number apdu) is none = subst (λ n. row_of tills known (Handle n apdu) ≡ owing_nothing known) (sym is) (none apdu).said.handled
of-nothing tills known pt (Serve number till header request) is none = absurd is
of-nothing tills known pt (Queue number till header request) is none = absurd is
of-nothing tills known pt (NextWaiting number) is none = subst (λ n. row_of tills known (NextWaiting n) ≡ owing_nothing known) (sym is) (none (record { class = 0; instr = 0; body = [] })).next
of-nothing tills known pt (Oversized number) is none = subst (λ n. row_of tills known (Oversized n) ≡ owing_nothing known) (sym is) (none (record { class = 0; instr = 0; body = [] })).said.oversized
of-nothing tills known pt (LinkLost number) is none = absurd is
of-nothing tills known pt (Late number) is none = absurd is
of-nothing tills known pt (Overdue key) is none = absurd is
of-nothing tills known pt (Due number) is none = absurd is

-- ---- items that begin

abbrev with_stage : Scene → List OwedCall → List RoundItem → Stage → View
with_stage scene calls items stage = record { scene = record scene { stage = stage }; calls = calls; items = items }

-- where the row changes nothing that is remembered, these calls are owed, and nothing else changes
pub begun-is : (scene : Scene) (setup : Setup) (item : RoundItem) (items : List RoundItem) (calls : List OwedCall) → scene.setup ≡ Some setup → scene.stage ≡ Handling → row_of scene.outside.tills (known_in scene setup) item ≡ becoming scene.core calls
    → begun scene (row_at scene item) items ≡ record { scene = scene; calls = calls; items = items }
begun-is scene setup item items calls is at row =
    let row_is : row_at scene item ≡ becoming scene.core calls = ap (row_in scene (λ known. row_of scene.outside.tills known item)) is ∙ row in
    ap (λ r. begun scene r items) row_is ∙ ap (with_stage scene calls items) (ap busy at ∙ sym at)

-- an item of a terminal of which nothing is owed changes nothing
passed-is : (pt : ℕ) (scene : Scene) (setup : Setup) (item : RoundItem) (items : List RoundItem) → scene.setup ≡ Some setup → scene.stage ≡ Handling → ((apdu : ApduValue) → OwesNothing (known_in scene setup) pt apdu) → IsOfBytes pt item
    → after (idle_with scene (item ∷ items)) Begin ≡ idle_with scene items
passed-is pt scene setup item items is at none of = begun-is scene setup item items [] is at (of-nothing scene.outside.tills (known_in scene setup) pt item of none)

-- such items are passed
passes : (pt : ℕ) (scene : Scene) (setup : Setup) (own due : List RoundItem) → scene.setup ≡ Some setup → scene.stage ≡ Handling → ((apdu : ApduValue) → OwesNothing (known_in scene setup) pt apdu) → AreOfBytes pt own
    → HasCourseTo (idle_with scene (own ++ due)) [] (idle_with scene due)
passes pt scene setup [] due is at none are = record { moves = []; turns_are = refl; lawful = tt; ends = refl }
passes pt scene setup (item ∷ own) due is at none are =
    let begins : Begins (idle_with scene (item ∷ (own ++ due))) = record { idle = record { round = ap is_round at; calls = refl }; first = of-begins pt scene item (own ++ due) are.0 } in
    let passed = passed-is pt scene setup item (own ++ due) is at none are.0 in
    let more = passes pt scene setup own due is at none are.1 in
    record {
      moves = Begin ∷ more.moves;
      turns_are = more.turns_are;
      lawful = (begins, subst (λ w. IsCourse w more.moves) (sym passed) more.lawful);
      ends = ap (λ w. view_from w more.moves) passed ∙ more.ends;
    }

-- where no call is owed once the event has come, no turn of the round comes
none-made : {A : Type 0} (v : View) (turn : Turn) → v.scene.stage ≡ Handling → v.calls ≡ [] → AllowedTurn v turn → is_sort_of_round (sort_of turn) ≡ true → A
none-made v (Start setup) at calls ok e = no-true e
none-made v OpenFailed at calls ok e = no-true e
none-made v (Polled now) at calls ok e = no-true e
none-made v (Opened till) at calls ok e = handling-not-polled (sym at ∙ ok.0)
none-made v (HeardTill till bytes) at calls ok e = handling-not-polled (sym at ∙ ok.0.polled)
none-made v (Closed till) at calls ok e = handling-not-polled (sym at ∙ ok.polled)
none-made v (HeardPt pt bytes) at calls ok e = handling-not-polled (sym at ∙ ok.0.polled)
none-made v (Lost pt) at calls ok e = handling-not-polled (sym at ∙ ok.polled)
none-made v Stopped at calls ok e = handling-not-polled (sym at ∙ ok)
none-made v (Linked pt) at calls ok e = no-call v.calls _ calls ok
none-made v (LinkFailed pt) at calls ok e = no-call v.calls _ calls ok
none-made v (SentTill till bytes true) at calls ok e = no-call v.calls _ calls ok.1
none-made v (SentTill till bytes false) at calls ok e = no-call v.calls _ calls ok.1
none-made v (SentPt pt bytes true) at calls ok e = no-call v.calls _ calls ok.1
none-made v (SentPt pt bytes false) at calls ok e = no-call v.calls _ calls ok.1
none-made v (CutTill till) at calls ok e = no-call v.calls _ calls ok
none-made v (CutPt pt) at calls ok e = no-call v.calls _ calls ok
none-made v (Wrote offset bytes) at calls ok e = no-call v.calls _ calls ok.1
none-made v Synced at calls ok e = no-call v.calls _ calls ok
none-made v DiskFailed at calls (inl next) e = no-call v.calls _ calls next
none-made v DiskFailed at calls (inr looking) e = no-true (sym (ap is_looking at) ∙ looking)
none-made v (Crash file) at calls ok e = no-true e

-- so the first item begins before the next turn
begins-next : (v : View) (item : RoundItem) (items : List RoundItem) (turns : List Turn) (now : ℤ) (rest : List Turn) → v.scene.stage ≡ Handling → v.calls ≡ [] → v.items ≡ item ∷ items → may_begin v.scene v.items ≡ true → AreOfRound turns
    → Along v (turns ++ Polled now ∷ rest) → Along (after v Begin) (turns ++ Polled now ∷ rest)
begins-next v item items [] now rest at calls e begins round along = begin-next v (Polled now) rest begins (λ ok. absurd (let n : [] ≡ item ∷ items = sym ok.items ∙ e in cc)) along
begins-next v item items (turn ∷ turns) now rest at calls e begins round along = begin-next v turn (turns ++ Polled now ∷ rest) begins (λ ok. none-made v turn at calls ok round.0) along

-- and a lawful course passes such items
passes-on : (pt : ℕ) (scene : Scene) (setup : Setup) (own due : List RoundItem) (turns : List Turn) (now : ℤ) (rest : List Turn) → scene.setup ≡ Some setup → scene.stage ≡ Handling → ((apdu : ApduValue) → OwesNothing (known_in scene setup) pt apdu) → AreOfBytes pt own → AreOfRound turns
    → Along (idle_with scene (own ++ due)) (turns ++ Polled now ∷ rest) → HasCourse (idle_with scene due) (turns ++ Polled now ∷ rest)
passes-on pt scene setup [] due turns now rest is at none are round along = (view_from (idle_with scene due) along.moves, record { moves = along.moves; turns_are = along.turns_are; lawful = along.lawful; ends = refl })
passes-on pt scene setup (item ∷ own) due turns now rest is at none are round along =
    let begun = begins-next (idle_with scene (item ∷ (own ++ due))) item (own ++ due) turns now rest at refl refl (of-begins pt scene item (own ++ due) are.0) round along in
    passes-on pt scene setup own due turns now rest is at none are.1 round (subst (λ w. Along w (turns ++ Polled now ∷ rest)) (passed-is pt scene setup item (own ++ due) is at none are.0) begun)

-- ---- up to an item

-- a message that is read stays the first, and those after it are left
pub read-rest : (as_read : ReadAs) (item : RoundItem) (items : List RoundItem) → (first : RoundItem) × (read_first as_read (item ∷ items) ≡ first ∷ items)
read-rest as_read (Crowded till) items = (Crowded till, refl)
read-rest as_read (Message till bytes) items = (Asked till as_read, refl)
read-rest as_read (Asked till other) items = (Asked till other, refl)
read-rest as_read (Unframed till) items = (Unframed till, refl)
read-rest as_read (Gone till) items = (Gone till, refl)
read-rest as_read (Greet number apdu) items = (Greet number apdu, refl)
read-rest as_read (Handle number apdu) items = (Handle number apdu, refl)
read-rest as_read (Serve number till header request) items = (Serve number till header request, refl)
read-rest as_read (Queue number till header request) items = (Queue number till header request, refl)
read-rest as_read (NextWaiting number) items = (NextWaiting number, refl)
read-rest as_read (Oversized number) items = (Oversized number, refl)
read-rest as_read (LinkLost number) items = (LinkLost number, refl)
read-rest as_read (Late number) items = (Late number, refl)
read-rest as_read (Overdue key) items = (Overdue key, refl)
read-rest as_read (Due number) items = (Due number, refl)

-- a course leads to where the item begins, and goes on from there
pub record Reaches (v : View) (item : RoundItem) (items : List RoundItem) (inside rest : List Turn) : Type 0 where
  pub first : List Turn
  pub second : List Turn
  pub inside_is : inside ≡ first ++ second
  pub moves : List Move
  pub turns_are : turns_of moves ≡ first
  pub lawful : IsCourse v moves
  pub begins : Begins (view_from v moves)
  pub items_are : (view_from v moves).items ≡ item ∷ items
  pub stage : (view_from v moves).scene.stage ≡ Handling
  pub onward : Along (after (view_from v moves) Begin) (second ++ rest)

-- a run that has ended in the round is polled no more
pub never-polled : {A : Type 0} (now : ℤ) (rest : List Turn) (v : View) (moves : List Move) (inside : List Turn) → is_dead v.scene.stage ≡ true → IsCourse v moves → turns_of moves ≡ inside ++ Polled now ∷ rest → AreOfRound inside → A
never-polled now rest v [] [] dead c t r = absurd (let n : [] ≡ Polled now ∷ rest = t in cc)
never-polled now rest v [] (turn ∷ inside) dead c t r = absurd (let n : [] ≡ turn ∷ (inside ++ Polled now ∷ rest) = t in cc)
never-polled now rest v (Begin ∷ moves) inside dead c t r = dead-round v.scene.stage dead c.0.idle.round
never-polled now rest v (Read as_read ∷ moves) inside dead c t r = dead-round v.scene.stage dead c.0.idle.round
never-polled now rest v (Make turn ∷ moves) [] dead c t r =
    let heads : turn ≡ Polled now = (let n : turn ∷ turns_of moves ≡ Polled now ∷ rest = t in cc) in
    let ok : AllowedTurn v (Polled now) = subst (AllowedTurn v) heads c.0 in
    dead-running v.scene.stage dead ok.running
never-polled now rest v (Make turn ∷ moves) (other ∷ inside) dead c t r =
    let heads : turn ≡ other = (let n : turn ∷ turns_of moves ≡ other ∷ (inside ++ Polled now ∷ rest) = t in cc) in
    let tails : turns_of moves ≡ inside ++ Polled now ∷ rest = (let n : turn ∷ turns_of moves ≡ other ∷ (inside ++ Polled now ∷ rest) = t in cc) in
    never-polled now rest (after_turn v turn) moves inside (dead-turn v turn dead c.0 (ap (λ t. is_sort_of_round (sort_of t)) heads ∙ r.0)) c.1 tails r.1

-- an item that is no message of a till begins before the next poll, and those after it are left
pub reaches : (item : RoundItem) (items : List RoundItem) (now : ℤ) (rest : List Turn) → first_message (item ∷ items) ≡ None → (v : View) (moves : List Move) (inside : List Turn) (before : List RoundItem) → Agrees v → v.scene.stage ≡ Handling
    → v.items ≡ before ++ item ∷ items → IsCourse v moves → turns_of moves ≡ inside ++ Polled now ∷ rest → AreOfRound inside → Reaches v item items inside (Polled now ∷ rest)
reaches item items now rest no_message v [] [] before a at e c t r = absurd (let n : [] ≡ Polled now ∷ rest = t in cc)
reaches item items now rest no_message v [] (turn ∷ inside) before a at e c t r = absurd (let n : [] ≡ turn ∷ (inside ++ Polled now ∷ rest) = t in cc)
reaches item items now rest no_message v (Begin ∷ moves) inside [] a at e c t r =
    record { first = []; second = inside; inside_is = refl; moves = []; turns_are = refl; lawful = tt; begins = c.0; items_are = e; stage = at; onward = record { moves = moves; turns_are = t; lawful = c.1 } }
reaches item items now rest no_message v (Begin ∷ moves) inside (x ∷ before) a at e c t r =
    let f = begins-first v a c.0 in
    let tails : f.rest ≡ before ++ item ∷ items = (let n : f.item ∷ f.rest ≡ x ∷ (before ++ item ∷ items) = sym f.items_are ∙ e in cc) in
    let m = reaches item items now rest no_message (after v Begin) moves inside (f.new ++ before) (move-agrees v Begin a c.0) (begin-stage v.scene v.items ∙ ap busy at) (f.left ∙ ap (λ l. f.new ++ l) tails ∙ sym (append_assoc f.new before (item ∷ items))) c.1 t r in
    record { first = m.first; second = m.second; inside_is = m.inside_is; moves = Begin ∷ m.moves; turns_are = m.turns_are; lawful = (c.0, m.lawful); begins = m.begins; items_are = m.items_are; stage = m.stage; onward = m.onward }
reaches item items now rest no_message v (Read as_read ∷ moves) inside [] a at e c t r = absurd (let n : None ≡ Some c.0.bytes = sym no_message ∙ sym (ap first_message e) ∙ c.0.message in cc)
reaches item items now rest no_message v (Read as_read ∷ moves) inside (x ∷ before) a at e c t r =
    let read = read-rest as_read x (before ++ item ∷ items) in
    let m = reaches item items now rest no_message (after v (Read as_read)) moves inside (read.0 ∷ before) (move-agrees v (Read as_read) a c.0) (ap busy at) (ap (read_first as_read) e ∙ read.1) c.1 t r in
    record { first = m.first; second = m.second; inside_is = m.inside_is; moves = Read as_read ∷ m.moves; turns_are = m.turns_are; lawful = (c.0, m.lawful); begins = m.begins; items_are = m.items_are; stage = m.stage; onward = m.onward }
reaches item items now rest no_message v (Make turn ∷ moves) [] before a at e c t r =
    let heads : turn ≡ Polled now = (let n : turn ∷ turns_of moves ≡ Polled now ∷ rest = t in cc) in
    let ok : AllowedTurn v (Polled now) = subst (AllowedTurn v) heads c.0 in
    none-among item v.items (before, items, e) ok.items
reaches item items now rest no_message v (Make turn ∷ moves) (other ∷ inside) before a at e c t r =
    let heads : turn ≡ other = (let n : turn ∷ turns_of moves ≡ other ∷ (inside ++ Polled now ∷ rest) = t in cc) in
    let tails : turns_of moves ≡ inside ++ Polled now ∷ rest = (let n : turn ∷ turns_of moves ≡ other ∷ (inside ++ Polled now ∷ rest) = t in cc) in
    let sort : is_sort_of_round (sort_of turn) ≡ true = ap (λ t. is_sort_of_round (sort_of t)) heads ∙ r.0 in
    by_items heads tails (λ same stage. reaches item items now rest no_message (after_turn v turn) moves inside before (turn-agrees v turn a c.0) stage (same ∙ e) c.1 tails r.1) (turn-items v turn a at c.0 sort)
  where
    by_items : turn ≡ other → turns_of moves ≡ inside ++ Polled now ∷ rest
        → ((after_turn v turn).items ≡ v.items → (after_turn v turn).scene.stage ≡ Handling → Reaches (after_turn v turn) item items inside (Polled now ∷ rest)) → SameItems v turn → Reaches v item items (other ∷ inside) (Polled now ∷ rest)
    by_items heads tails more (inr dead) = never-polled now rest (after_turn v turn) moves inside dead c.1 tails r.1
    by_items heads tails more (inl (same, stage)) =
        let m = more same stage in
        record {
          first = other ∷ m.first;
          second = m.second;
          inside_is = ap (λ l. other ∷ l) m.inside_is;
          moves = Make turn ∷ m.moves;
          turns_are = ap (λ t. t ∷ turns_of m.moves) heads ∙ ap (λ l. other ∷ l) m.turns_are;
          lawful = (c.0, m.lawful);
          begins = m.begins;
          items_are = m.items_are;
          stage = m.stage;
          onward = m.onward;
        }

-- ---- the cut

-- an item that cuts its terminal
record IsOutsideItem (pt : ℕ) (item : RoundItem) : Type 0 where
  rows : (tills : List Connection) (known : Known) → row_of tills known item ≡ outside_row known pt
  of_bytes : IsOfBytes pt item
  no_message : (items : List RoundItem) → first_message (item ∷ items) ≡ None
  keeps_link : (number : ℕ) → item ≢ LinkLost number

greet-outside : (pt : ℕ) (apdu : ApduValue) (fault : PtFault) → decode_pt_message apdu ≡ Err fault → IsOutsideItem pt (Greet pt apdu)
greet-outside pt apdu fault is = record {
  rows = λ tills known. ap (greet_decoded known pt) is;
  of_bytes = refl;
  no_message = λ items. refl;
  keeps_link = λ number e. cc;
}

oversized-outside : (pt : ℕ) → IsOutsideItem pt (Oversized pt)
oversized-outside pt = record { rows = λ tills known. refl; of_bytes = refl; no_message = λ items. refl; keeps_link = λ number e. cc }

-- with the cut its terminal is unlinked, and what its loss owes is owed
cut-is-made : (scene : Scene) (setup : Setup) (pt : ℕ) (terminal : Terminal) (items : List RoundItem) → scene.setup ≡ Some setup → scene.stage ≡ Handling → slice_get scene.core.terminals pt ≡ Some terminal
    → after_turn (record { scene = scene; calls = OwedCutPt pt ∷ []; items = items }) (CutPt pt) ≡ owing_then (link_cut scene pt terminal) (calls_of_loss terminal) items
cut-is-made scene setup pt terminal items is at found =
    let known : Known = known_in scene setup in
    let row_is : link_lost_at scene pt ≡ unlinks known pt terminal = ap (row_in scene (λ known. link_lost known pt)) is ∙ ap (of_terminal known (unlinks known pt)) found in
    ap (λ row. by_row (record { scene = scene; calls = OwedCutPt pt ∷ []; items = items }) (called scene (CutPt pt)) row []) row_is
    ∙ ap (λ l. with_stage (link_cut scene pt terminal) l items (busy scene.stage)) (append-nil (calls_of_loss terminal)) ∙ ap (with_stage (link_cut scene pt terminal) (calls_of_loss terminal) items) (ap busy at ∙ sym at)

pub round-rest : (first second : List Turn) → AreOfRound (first ++ second) → AreOfRound second
round-rest [] second h = h
round-rest (turn ∷ first) second h = round-rest first second h.1

-- ---- where the item begins

linked-on : (standing : Standing) (talk : Option TalkFacts) → is_linked standing ≡ true → is_on (standing_state standing talk) ≡ true
linked-on (Unlinked due) talk e = no-true e
linked-on Registering talk e = refl
linked-on Enquiring talk e = refl
linked-on (Ready last) talk e = refl
linked-on (Serving service last) talk e = refl
linked-on (Aside before reported) talk e = refl

unlinked-off : (standing : Standing) (talk : Option TalkFacts) → is_linked standing ≡ false → (due : Option ℕ) × (standing ≡ Unlinked due) × (is_on (standing_state standing talk) ≡ false)
unlinked-off (Unlinked due) None e = (due, refl, refl)
unlinked-off (Unlinked due) (Some talk) e = (due, refl, refl)
unlinked-off Registering talk e = no-true (sym e)
unlinked-off Enquiring talk e = no-true (sym e)
unlinked-off (Ready last) talk e = no-true (sym e)
unlinked-off (Serving service last) talk e = no-true (sym e)
unlinked-off (Aside before reported) talk e = no-true (sym e)

-- a view in which no call is owed
rest-is : (v : View) (items : List RoundItem) → v.calls ≡ [] → v.items ≡ items → v ≡ idle_with v.scene items
rest-is v items calls e = ap (λ (c : List OwedCall). record v { calls = c }) calls ∙ ap (idle_with v.scene) e

changes-alone : (second rest : List Turn) (pt : ℕ) (now : ℤ) (v : View) (item : RoundItem) (own due : List RoundItem) → Agrees v → Settled v → IsOutsideItem pt item → AreOfBytes pt own → Begins v → v.scene.stage ≡ Handling
    → v.items ≡ item ∷ (own ++ due) → Along (after v Begin) (second ++ Polled now ∷ rest) → AreOfRound second → CutsLink second (Polled now ∷ rest) pt v due ⊎ ChangesNothing second (Polled now ∷ rest) pt v due
changes-alone second rest pt now v item own due a settled is own_are begins at items_are onward round = by_found (slice_get v.scene.core.terminals pt) refl
  where
    has : HasSetup v.scene
    has = round-setup v a.run begins.idle.round

    known : Known
    known = known_in v.scene has.setup

    first_view : View
    first_view = idle_with v.scene (item ∷ (own ++ due))

    v_is : v ≡ first_view
    v_is = rest-is v (item ∷ (own ++ due)) begins.idle.calls items_are

    rest_turns : List Turn
    rest_turns = Polled now ∷ rest

    nothing : is_connected v.scene.outside.links pt ≡ false → ((apdu : ApduValue) → OwesNothing known pt apdu) → ChangesNothing second rest_turns pt v due
    nothing off none =
        let begun : after v Begin ≡ idle_with v.scene (own ++ due) = ap (λ w. after w Begin) v_is ∙ passed-is pt v.scene has.setup item (own ++ due) has.setup_is at none is.of_bytes in
        record {
          unlinked = off;
          leads = subst (λ w. HasCourseTo w [] (idle_with v.scene due)) (sym v_is) (passes pt v.scene has.setup (item ∷ own) due has.setup_is at none (is.of_bytes, own_are));
          goes_on = passes-on pt v.scene has.setup own due second now rest has.setup_is at none own_are round (subst (λ w. Along w (second ++ rest_turns)) begun onward);
        }

    cut : (terminal : Terminal) → slice_get v.scene.core.terminals pt ≡ Some terminal → is_linked terminal.standing ≡ true → CutsLink second rest_turns pt v due
    cut terminal found linked = by_second second onward round
      where
        on : is_connected v.scene.outside.links pt ≡ true
        on = settled.linked pt ∙ ap (λ (t : Option Terminal). is_on (state_of t)) found ∙ linked-on terminal.standing terminal.talk linked

        owing : View
        owing = record { scene = v.scene; calls = OwedCutPt pt ∷ []; items = own ++ due }

        owes : after v Begin ≡ owing
        owes =
            ap (begin v.scene) items_are
            ∙ begun-is v.scene has.setup item (own ++ due) (OwedCutPt pt ∷ []) has.setup_is at (is.rows v.scene.outside.tills known ∙ linked-row known pt (λ terminal. cutting known pt) terminal found linked)

        scene : Scene
        scene = link_cut v.scene pt terminal

        lost : View
        lost = owing_then scene (calls_of_loss terminal) (own ++ due)

        made : after_turn owing (CutPt pt) ≡ lost
        made = cut-is-made v.scene has.setup pt terminal (own ++ due) has.setup_is at found

        unlinked : IsUnlinkedIn scene pt
        unlinked = (unlinked_terminal terminal v.scene.outside.moment, Some (v.scene.outside.moment + 5), new-is-there v.scene.core.terminals pt terminal (unlinked_terminal terminal v.scene.outside.moment) found, refl)

        -- the cut is the next turn, and then its till gets the reply
        replied : (later : List Turn) → AllowedTurn owing (CutPt pt) → AreOfRound later → Along lost (later ++ rest_turns) → CutsLink (CutPt pt ∷ later) rest_turns pt v due
        replied later ok round onward =
            let p = pays terminal.asker (reply_to_lost terminal.standing) scene (own ++ due) later now rest at round onward in
            let there = p.stays pt unlinked in
            let setup_is : p.last.setup ≡ Some has.setup = p.setup_is ∙ has.setup_is in
            let none : (apdu : ApduValue) → OwesNothing (known_in p.last has.setup) pt apdu = λ apdu. unlinked-owes (known_in p.last has.setup) pt there.0 there.1 apdu there.2 there.3 in
            let more = passes pt p.last has.setup own due setup_is p.stage_is none own_are in
            let moves : List Move = p.moves ++ more.moves in
            record {
              linked = on;
              terminal = terminal;
              found = found;
              alone = alone-set pt v.scene.core terminal (unlinked_terminal terminal v.scene.outside.moment) found refl;
              reply_turns = p.reply_turns;
              later = p.later;
              turns_are = ap (λ l. CutPt pt ∷ l) p.turns_are;
              scene = p.last;
              paid = p.paid;
              leads = record {
                moves = Begin ∷ Make (CutPt pt) ∷ moves;
                turns_are = ap (λ l. CutPt pt ∷ l) (turns_of-append p.moves more.moves ∙ ap (λ l. l ++ turns_of more.moves) p.moves_are ∙ ap (λ l. p.reply_turns ++ l) more.turns_are ∙ append-nil p.reply_turns);
                lawful =
                    (begins, subst (λ w. IsCourse w (Make (CutPt pt) ∷ moves)) (sym owes) (ok, subst (λ w. IsCourse w moves) (sym made) (course-append lost p.moves more.moves p.lawful (subst (λ w. IsCourse w more.moves) (sym p.ends) more.lawful))));
                ends =
                    ap (λ w. view_from w (Make (CutPt pt) ∷ moves)) owes ∙ ap (λ w. view_from w moves) made ∙ view_from-append lost p.moves more.moves ∙ ap (λ w. view_from w more.moves) p.ends ∙ more.ends;
              };
              goes_on = passes-on pt p.last has.setup own due p.later now rest setup_is p.stage_is none own_are p.round p.onward;
            }

        by_second : (turns : List Turn) → Along (after v Begin) (turns ++ Polled now ∷ rest) → AreOfRound turns → CutsLink turns rest_turns pt v due
        by_second [] along round =
            let next = take-owed owing (OwedCutPt pt) (Polled now) rest refl (subst (λ w. Along w (Polled now ∷ rest)) owes along) in
            absurd (let n : OwedCutPt pt ∷ [] ≡ [] = next.0.calls in cc)
        by_second (turn ∷ later) along round =
            let next = take-owed owing (OwedCutPt pt) turn (later ++ Polled now ∷ rest) refl (subst (λ w. Along w (turn ∷ (later ++ Polled now ∷ rest))) owes along) in
            let same : turn ≡ CutPt pt = cut-is pt turn (cut-makes pt owing turn at refl next.0 round.0) in
            let onward : Along lost (later ++ rest_turns) = subst (λ w. Along w (later ++ rest_turns)) made (subst (λ t. Along (after_turn owing t) (later ++ rest_turns)) same next.1) in
            subst (λ t. CutsLink (t ∷ later) rest_turns pt v due) (sym same) (replied later (subst (AllowedTurn owing) same next.0) round.1 onward)

    by_standing : (terminal : Terminal) → slice_get v.scene.core.terminals pt ≡ Some terminal → (test : Bool) → is_linked terminal.standing ≡ test → CutsLink second rest_turns pt v due ⊎ ChangesNothing second rest_turns pt v due
    by_standing terminal found true linked = inl (cut terminal found linked)
    by_standing terminal found false unlinked =
        let off = unlinked-off terminal.standing terminal.talk unlinked in
        inr (nothing (settled.linked pt ∙ ap (λ (t : Option Terminal). is_on (state_of t)) found ∙ off.2) (λ apdu. unlinked-owes known pt terminal off.0 apdu found off.1))

    by_found : (found : Option Terminal) → slice_get v.scene.core.terminals pt ≡ found → CutsLink second rest_turns pt v due ⊎ ChangesNothing second rest_turns pt v due
    by_found None e = inr (nothing (settled.linked pt ∙ ap (λ (t : Option Terminal). is_on (state_of t)) e) (λ apdu. absent-owes known pt apdu e))
    by_found (Some terminal) e = by_standing terminal e (is_linked terminal.standing) refl

-- ---- the laws

-- an item of the bytes that cuts its terminal
item-is-alone : (before inside rest : List Turn) (pt : ℕ) (chunk : List ℕ) (now : ℤ) (item : RoundItem) (earlier next last : List RoundItem) (x : SplitAt at_first before (HeardPt pt chunk) (inside ++ Polled now ∷ rest)) → IsOutsideItem pt item
    → pt_bytes_items pt (heard_on (view_from at_first x.first).scene.outside.links pt) chunk ≡ earlier ++ item ∷ (next ++ last) → AreOfRound inside → IsAlone (before ++ HeardPt pt chunk ∷ []) inside (Polled now ∷ rest) pt item next
item-is-alone before inside rest pt chunk now item earlier next last x is e round = record {
  first = r.first;
  second = r.second;
  inside_is = r.inside_is;
  view = z;
  along = stands;
  begins = r.begins;
  last = last;
  last_are = of-rest pt next last own_are;
  core = v.scene.core;
  items_are = r.items_are;
  changes = changes-alone r.second rest pt now z item own due agrees (settled agrees.links) is own_are r.begins r.stage r.items_are r.onward (round-rest r.first r.second (subst AreOfRound r.inside_is round));
}
  where
    v : View
    v = view_from at_first x.first

    own : List RoundItem
    own = next ++ last

    log : List Turn
    log = before ++ HeardPt pt chunk ∷ []

    u : View
    u = after_turn v (HeardPt pt chunk)

    due : List RoundItem
    due = items_due v.scene.core

    own_are : AreOfBytes pt own
    own_are =
        let all : AreOfBytes pt (earlier ++ item ∷ own) = subst (AreOfBytes pt) e (bytes-bring pt (decode_apdus ((decode_apdus (heard_on v.scene.outside.links pt)).rest ++ chunk))) in
        (of-rest pt earlier (item ∷ own) all).1

    u_agrees : Agrees u
    u_agrees = turn-agrees v (HeardPt pt chunk) (split-agrees before (HeardPt pt chunk) (inside ++ Polled now ∷ rest) x) x.allowed

    r : Reaches u item (own ++ due) inside (Polled now ∷ rest)
    r = reaches item (own ++ due) now rest (is.no_message (own ++ due)) u x.onward.moves inside earlier u_agrees refl (ap (λ l. l ++ due) e ∙ append_assoc earlier (item ∷ own) due) x.onward.lawful x.onward.turns_are round

    z : View
    z = view_from u r.moves

    u_stands : Stands log u
    u_stands = stands-more before v (Make (HeardPt pt chunk) ∷ []) (split-stands before (HeardPt pt chunk) (inside ++ Polled now ∷ rest) x) (x.allowed, tt)

    stands : Stands (log ++ r.first) z
    stands = subst (λ l. Stands (log ++ l) z) r.turns_are (stands-more log u r.moves u_stands r.lawful)

    agrees : Agrees z
    agrees = course-agrees u r.moves u_agrees r.lawful

    settled : Settled z ⊎ Losing z → Settled z
    settled (inl s) = s
    settled (inr l) = absurd (is.keeps_link l.pt (let n : item ∷ (own ++ due) ≡ LinkLost l.pt ∷ l.rest = sym r.items_are ∙ l.items_are in cc))

-- the items of APDUs, split at the first item of one
apdus-split : (pt : ℕ) (earlier : List ApduValue) (apdu : ApduValue) (later : List ApduValue) → flat_map (apdu_items pt) (earlier ++ apdu ∷ later) ≡ flat_map (apdu_items pt) earlier ++ Greet pt apdu ∷ after_greeting pt apdu later
apdus-split pt [] apdu later = refl
apdus-split pt (x ∷ earlier) apdu later = ap (λ l. apdu_items pt x ++ l) (apdus-split pt earlier apdu later)

bytes-split : (pt : ℕ) (all : List RoundItem) (new : List ApduValue) (last : List RoundItem) (earlier : List ApduValue) (apdu : ApduValue) (later : List ApduValue) → all ≡ flat_map (apdu_items pt) new ++ last → earlier ++ apdu ∷ later ≡ new
    → all ≡ flat_map (apdu_items pt) earlier ++ Greet pt apdu ∷ (after_greeting pt apdu later ++ last)
bytes-split pt all new last earlier apdu later e same =
    e ∙ ap (λ l. flat_map (apdu_items pt) l ++ last) (sym same) ∙ ap (λ l. l ++ last) (apdus-split pt earlier apdu later) ∙ append_assoc (flat_map (apdu_items pt) earlier) (Greet pt apdu ∷ after_greeting pt apdu later) last

rest-split : (pt : ℕ) (all : List RoundItem) (new : List ApduValue) (last : List RoundItem) → all ≡ flat_map (apdu_items pt) new ++ last → last ≡ Oversized pt ∷ [] → all ≡ flat_map (apdu_items pt) new ++ Oversized pt ∷ []
rest-split pt all new last e is = e ∙ ap (λ l. flat_map (apdu_items pt) new ++ l) is

pub outside-is-alone : OutsideIsAlone
outside-is-alone before inside rest pt chunk now earlier later apdu left fault lawful round said is =
    let x = split-log before (HeardPt pt chunk) (inside ++ Polled now ∷ rest) lawful in
    let v = view_from at_first x.first in
    let o = split-outside before (HeardPt pt chunk) (inside ++ Polled now ∷ rest) x in
    let heard : List ℕ = heard_on v.scene.outside.links pt in
    let small : AreBytes (heard ++ chunk) = bytes-append heard chunk (heard-bytes v.scene.outside.links pt (stands-bytes before v (split-stands before (HeardPt pt chunk) (inside ++ Polled now ∷ rest) x)).links) x.allowed.1.bytes in
    let here = subst (λ o. HasSaid o pt chunk (earlier ++ apdu ∷ later) left) (sym o) said in
    let brings = pt-bytes-give pt heard chunk here.before (here.before ++ (earlier ++ apdu ∷ later)) here.rest left small here.spelled here.all in
    let same : earlier ++ apdu ∷ later ≡ brings.new = same-rest here.before (earlier ++ apdu ∷ later) brings.new brings.completed in
    let next : List RoundItem = after_greeting pt apdu later in
    let items = bytes-split pt (pt_bytes_items pt heard chunk) brings.new brings.last earlier apdu later brings.items_are same in
    item-is-alone before inside rest pt chunk now (Greet pt apdu) (flat_map (apdu_items pt) earlier) next brings.last x (greet-outside pt apdu fault is) items round

pub too-long-is-alone : TooLongIsAlone
too-long-is-alone before inside rest pt chunk now new left length lawful round said long =
    let x = split-log before (HeardPt pt chunk) (inside ++ Polled now ∷ rest) lawful in
    let v = view_from at_first x.first in
    let o = split-outside before (HeardPt pt chunk) (inside ++ Polled now ∷ rest) x in
    let heard : List ℕ = heard_on v.scene.outside.links pt in
    let small : AreBytes (heard ++ chunk) = bytes-append heard chunk (heard-bytes v.scene.outside.links pt (stands-bytes before v (split-stands before (HeardPt pt chunk) (inside ++ Polled now ∷ rest) x)).links) x.allowed.1.bytes in
    let here = subst (λ o. HasSaid o pt chunk new left) (sym o) said in
    let brings = pt-bytes-give pt heard chunk here.before (here.before ++ new) here.rest left small here.spelled here.all in
    let items = rest-split pt (pt_bytes_items pt heard chunk) brings.new brings.last brings.items_are (brings.too_long length long) in
    item-is-alone before inside rest pt chunk now (Oversized pt) (flat_map (apdu_items pt) brings.new) [] [] x (oversized-outside pt) items round
