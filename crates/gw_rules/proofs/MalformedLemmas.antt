-- Malformed bytes change no books: those of a till bring it its reply or its cut and nothing else, and those of a terminal its cut.
use Rattle.std.proofs.Common.{◌≡◌, ◌≢◌, ℕ, List, [], ◌∷◌, ◌++◌, refl, sym, ◌∙◌, ap, subst, true, false, inl, inr, append_assoc, append-nil}
use Rattle.std.proofs.lemmas.List.{map-append}
use Rattle.std.specs.Prelude.{Bool, ℤ, ◌⊎◌, map, slice_get, Option, Some, None}
use Rattle.gw_base.specs.declared.setup.Setup.{Setup}
use Rattle.gw_bytes.specs.Bytes.{AreBytes, IsPrefix}
use Rattle.gw_site.specs.Outside.{Connection, heard_on, is_connected}
use Rattle.gw_site.specs.Sorts.{AreOfRound, is_sort_of_round, sort_of}
use Rattle.gw_site.specs.declared.turn.Turn.{Turn}
use Rattle.gw_site.specs.declared.turn.Turn.TheVariants.{Start, OpenFailed, Polled, Opened, HeardTill, Closed, HeardPt, Lost, Stopped, Linked, LinkFailed, SentTill, SentPt, CutTill, CutPt, Wrote, Synced, DiskFailed, Crash}
use Rattle.gw_ledger.specs.Accounts.{last_number_of}
use Rattle.gw_ledger.specs.Fold.{found_of}
use Rattle.sale_frame.specs.Grammar.{IsFrameRest}
use Rattle.zvt_talk.specs.Talk.{TalkFacts}
use Rattle.gw_owes.specs.Calls.{OwedCall, SendTill, SendPt, LinkPt, Sync, write_turn, CutTill as OwedCutTill, CutPt as OwedCutPt}
use Rattle.gw_owes.specs.Core.{Core, Wait}
use Rattle.gw_owes.specs.Events.{items_due, till_bytes_items}
use Rattle.gw_owes.specs.Greeting.{greet_decoded, outside_row}
use Rattle.gw_owes.specs.Items.{RoundItem, Crowded, Message, Asked, Unframed, Gone, Greet, Handle, Serve, Queue, NextWaiting, Oversized, LinkLost, Late, Overdue, Due}
use Rattle.gw_owes.specs.Laws.{BringsFrames}
use Rattle.gw_owes.specs.Links.{is_linked, cutting}
use Rattle.gw_owes.specs.ReadAs.{ReadAs, IsReadAs, Request, Silent, NoMessage, NoJson}
use Rattle.gw_owes.specs.Reply.{ReplyValue, reply_value_bytes}
use Rattle.gw_owes.specs.Row.{Known, Row, becoming, owing, owing_nothing, owing_where}
use Rattle.gw_owes.specs.Rows.{asked_row, row_of}
use Rattle.gw_owes.specs.Terminals.{of_terminal, reply_calls_to, reply_to_lost, unlinks, link_lost}
use Rattle.gw_owes.specs.declared.terminal.Standing.{Standing}
use Rattle.gw_owes.specs.declared.terminal.Standing.TheVariants.{Unlinked, Registering, Enquiring, Ready, Serving, Aside}
use Rattle.gw_owes.specs.declared.terminal.Terminal.{Terminal}
use Rattle.gw_owes.proofs.FrameLemmas.{till-bytes-give}
use Rattle.gw_owes.proofs.HandlingLemmas.{linked-row}
use Rattle.gw_owes.proofs.ReadLemmas.{reads-one}
use Rattle.gw_rules.specs.Lawful.{AllowedTurn, Begins, IsCourse, IsNext, Stands, first_message, may_begin, turns_of}
use Rattle.gw_rules.specs.MalformedLaws.{AllWait, AreAfterMessage, AreOfItem, ChangesNoBooks, Disconnected, EachApduChangesNoBooks, EachCrowdedLeavesOthers, EachFrameChangesNoBooks, EachMessageChangesNoBooks, EachOfGoneTillLeavesOthers, EachTerminalItemLeavesOthers, EachTillItemLeavesOthers, EachTooLongChangesNoBooks, HasFramed, IsCutAlone, IsItemCourse, ItemLeavesOthers, LeavesBooks, LeavesOthers, LeavesQueues, LinkEnds, MessageChangesNoBooks, OwnLeave, Replied, TerminalChangesNoBooks, TerminalOutcome, TillOutcome, Unreplied, WasCut, WasGone}
use Rattle.gw_rules.specs.OutsideLaws.{ArePaid, ChangesNothing, CutsLink, IsAlone, calls_of_loss, idle_with, link_cut, till_gone}
use Rattle.gw_rules.specs.QueueLaws.{IsReadOutside}
use Rattle.gw_rules.specs.Scene.{Scene, known_in, link_lost_at, row_at, row_in}
use Rattle.gw_rules.specs.Stage.{Handling, busy, is_looking}
use Rattle.gw_rules.specs.View.{View, Move, Begin, Read, Make, after, after_turn, at_first, at_item, begin, begun, by_row, called, read_first, view_from}
use Rattle.gw_rules.proofs.AloneLemmas.{Reaches, begun-is, never-polled, outside-is-alone, reaches, read-rest, round-rest, too-long-is-alone}
use Rattle.gw_rules.proofs.CourseLemmas.{begin-stage, stands-more}
use Rattle.gw_rules.proofs.CutLemmas.{none-among}
use Rattle.gw_rules.proofs.HeardLemmas.{heard-bytes, bytes-append, stands-bytes}
use Rattle.gw_rules.proofs.KeptLemmas.{begins-first}
use Rattle.gw_rules.proofs.LinkLawLemmas.{same-call}
use Rattle.gw_rules.proofs.LinkStateLemmas.{standing_state, state_of}
use Rattle.gw_rules.proofs.LinkedLemmas.{Agrees, Losing, Settled, course-agrees, first-agrees, is_on, move-agrees, round-setup, turn-agrees}
use Rattle.gw_rules.proofs.LossLemmas.{at_stage, owing_then, pays, till-cut-next}
use Rattle.gw_rules.proofs.OutsideCutLemmas.{cut-is, cut-makes, in-owes}
use Rattle.gw_rules.proofs.PendingLemmas.{SameItems, turn-items}
use Rattle.gw_rules.proofs.PrefixLemmas.{Along}
use Rattle.gw_rules.proofs.SetupLemmas.{HasSetup}
use Rattle.gw_rules.proofs.SplitLemmas.{SplitAt, split-agrees, split-log, split-outside, split-stands}
use Rattle.gw_rules.proofs.StageLemmas.{handling-not-polled, no-call, no-true, not-true, round-busy}
use Rattle.gw_rules.proofs.UnlawfulLemmas.{take-owed}

-- ---- the books

books-by : (before after : Scene) → after.kept ≡ before.kept → after.flight ≡ before.flight → after.outside.file ≡ before.outside.file → after.outside.stable ≡ before.outside.stable → after.outside.written ≡ before.outside.written → LeavesBooks before after
books-by before after kept flight file stable ranges =
    record { kept = kept; flight = flight; keys = λ key. ap (λ records. found_of records key) kept; numbers = λ poi. ap (λ records. last_number_of records poi) kept; file = file; stable = stable; ranges = ranges }

same-books : (scene : Scene) → LeavesBooks scene scene
same-books scene = record { kept = refl; flight = refl; keys = λ key. refl; numbers = λ poi. refl; file = refl; stable = refl; ranges = refl }

gone-books : (scene : Scene) (till : ℕ) → LeavesBooks scene (till_gone scene till)
gone-books scene till = record { kept = refl; flight = refl; keys = λ key. refl; numbers = λ poi. refl; file = refl; stable = refl; ranges = refl }

cut-books : (scene : Scene) (pt : ℕ) (terminal : Terminal) → LeavesBooks scene (link_cut scene pt terminal)
cut-books scene pt terminal = record { kept = refl; flight = refl; keys = λ key. refl; numbers = λ poi. refl; file = refl; stable = refl; ranges = refl }

cut-gone-books : (scene : Scene) (pt : ℕ) (terminal : Terminal) (till : ℕ) → LeavesBooks scene (till_gone (link_cut scene pt terminal) till)
cut-gone-books scene pt terminal till = record { kept = refl; flight = refl; keys = λ key. refl; numbers = λ poi. refl; file = refl; stable = refl; ranges = refl }

-- ---- what a terminal's bytes change

paid-books : (scene : Scene) (pt : ℕ) (terminal : Terminal) (calls : List OwedCall) (turns : List Turn) (last : Scene) → ArePaid calls turns (link_cut scene pt terminal) last → LeavesBooks scene last
paid-books scene pt terminal calls turns last (inl none) = subst (LeavesBooks scene) (sym none.after_is) (cut-books scene pt terminal)
paid-books scene pt terminal calls turns last (inr (inl whole)) = subst (LeavesBooks scene) (sym whole.after_is) (cut-books scene pt terminal)
paid-books scene pt terminal calls turns last (inr (inr failed)) = subst (LeavesBooks scene) (sym failed.after_is) (cut-gone-books scene pt terminal failed.till)

paid-queues : (scene : Scene) (pt : ℕ) (terminal : Terminal) (calls : List OwedCall) (turns : List Turn) (last : Scene) → ArePaid calls turns (link_cut scene pt terminal) last → LeavesQueues (CutPt pt ∷ turns) scene.core.waits last.core.waits
paid-queues scene pt terminal calls turns last (inl none) = AllWait (ap (λ (s : Scene). s.core.waits) none.after_is)
paid-queues scene pt terminal calls turns last (inr (inl whole)) = AllWait (ap (λ (s : Scene). s.core.waits) whole.after_is)
paid-queues scene pt terminal calls turns last (inr (inr failed)) =
    OwnLeave failed.till (CutPt pt ∷ SentTill failed.till failed.bytes false ∷ [], [], ap (λ l. CutPt pt ∷ l) failed.turns_are) (ap (λ (s : Scene). s.core.waits) failed.after_is)

alone-changes-no-books : (log inside rest : List Turn) (pt : ℕ) (item : RoundItem) (next : List RoundItem) → IsAlone log inside rest pt item next → TerminalChangesNoBooks log inside rest pt item next
alone-changes-no-books log inside rest pt item next alone = record { last = alone.last; last_are = alone.last_are; core = alone.core; handled = by_changes alone.changes }
  where
    due : List RoundItem
    due = items_due alone.core

    scene : Scene
    scene = alone.view.scene

    by_changes : CutsLink alone.second rest pt alone.view due ⊎ ChangesNothing alone.second rest pt alone.view due → ChangesNoBooks log inside rest item ((next ++ alone.last) ++ due) due (TerminalOutcome pt)
    by_changes (inl cut) = record {
      first = alone.first;
      own = CutPt pt ∷ cut.reply_turns;
      later = cut.later;
      inside_is = alone.inside_is ∙ ap (λ l. alone.first ++ l) cut.turns_are;
      view = alone.view;
      along = alone.along;
      begins = alone.begins;
      items_are = alone.items_are;
      scene = cut.scene;
      comes = LinkEnds cut.terminal cut.reply_turns cut.linked cut.found refl cut.paid;
      books = paid-books scene pt cut.terminal (calls_of_loss cut.terminal) cut.reply_turns cut.scene cut.paid;
      queues = paid-queues scene pt cut.terminal (calls_of_loss cut.terminal) cut.reply_turns cut.scene cut.paid;
      leads = cut.leads;
      goes_on = cut.goes_on;
    }
    by_changes (inr none) = record {
      first = alone.first;
      own = [];
      later = alone.second;
      inside_is = alone.inside_is;
      view = alone.view;
      along = alone.along;
      begins = alone.begins;
      items_are = alone.items_are;
      scene = scene;
      comes = WasCut none.unlinked refl refl;
      books = same-books scene;
      queues = AllWait refl;
      leads = none.leads;
      goes_on = none.goes_on;
    }

pub each-apdu-changes-no-books : EachApduChangesNoBooks
each-apdu-changes-no-books before inside rest pt chunk now earlier later apdu left fault lawful round said is =
    alone-changes-no-books _ inside (Polled now ∷ rest) pt _ _ (outside-is-alone before inside rest pt chunk now earlier later apdu left fault lawful round said is)

pub each-too-long-changes-no-books : EachTooLongChangesNoBooks
each-too-long-changes-no-books before inside rest pt chunk now new left length lawful round said long =
    alone-changes-no-books _ inside (Polled now ∷ rest) pt _ _ (too-long-is-alone before inside rest pt chunk now new left length lawful round said long)

-- ---- up to a message

-- a course leads to where the message begins: it was read, or its till isn't there
abbrev ReachesMessage : View → ℕ → List ℕ → ReadAs → List RoundItem → List Turn → List Turn → Type 0
ReachesMessage v till payload as_read items inside rest = Reaches v (Asked till as_read) items inside rest ⊎ Reaches v (Message till payload) items inside rest

-- after one move more
reaches-begin : (v : View) (item : RoundItem) (items : List RoundItem) (inside rest : List Turn) → Begins v → Reaches (after v Begin) item items inside rest → Reaches v item items inside rest
reaches-begin v item items inside rest ok m =
    record { first = m.first; second = m.second; inside_is = m.inside_is; moves = Begin ∷ m.moves; turns_are = m.turns_are; lawful = (ok, m.lawful); begins = m.begins; items_are = m.items_are; stage = m.stage; onward = m.onward }

reaches-read : (v : View) (read : ReadAs) (item : RoundItem) (items : List RoundItem) (inside rest : List Turn) → IsCourse v (Read read ∷ []) → Reaches (after v (Read read)) item items inside rest → Reaches v item items inside rest
reaches-read v read item items inside rest ok m =
    record { first = m.first; second = m.second; inside_is = m.inside_is; moves = Read read ∷ m.moves; turns_are = m.turns_are; lawful = (ok.0, m.lawful); begins = m.begins; items_are = m.items_are; stage = m.stage; onward = m.onward }

reaches-turn : (v : View) (turn other : Turn) (item : RoundItem) (items : List RoundItem) (inside rest : List Turn) → AllowedTurn v turn → turn ≡ other → Reaches (after_turn v turn) item items inside rest → Reaches v item items (other ∷ inside) rest
reaches-turn v turn other item items inside rest ok heads m = record {
  first = other ∷ m.first;
  second = m.second;
  inside_is = ap (λ l. other ∷ l) m.inside_is;
  moves = Make turn ∷ m.moves;
  turns_are = ap (λ t. t ∷ turns_of m.moves) heads ∙ ap (λ l. other ∷ l) m.turns_are;
  lawful = (ok, m.lawful);
  begins = m.begins;
  items_are = m.items_are;
  stage = m.stage;
  onward = m.onward;
}

either : {A B C D : Type 0} → (A → C) → (B → D) → A ⊎ B → C ⊎ D
either f g (inl a) = inl (f a)
either f g (inr b) = inr (g b)

-- a message begins before the next poll, and the items after it are left
reaches-message : (till : ℕ) (payload : List ℕ) (as_read : ReadAs) (items : List RoundItem) (now : ℤ) (rest : List Turn) → IsReadAs payload as_read → (v : View) (moves : List Move) (inside : List Turn) (before : List RoundItem) → Agrees v → v.scene.stage ≡ Handling
    → v.items ≡ before ++ Message till payload ∷ items → IsCourse v moves → turns_of moves ≡ inside ++ Polled now ∷ rest → AreOfRound inside → ReachesMessage v till payload as_read items inside (Polled now ∷ rest)
reaches-message till payload as_read items now rest reads v [] [] before a at e c t r = absurd (let n : [] ≡ Polled now ∷ rest = t in cc)
reaches-message till payload as_read items now rest reads v [] (turn ∷ inside) before a at e c t r = absurd (let n : [] ≡ turn ∷ (inside ++ Polled now ∷ rest) = t in cc)
reaches-message till payload as_read items now rest reads v (Begin ∷ moves) inside [] a at e c t r =
    inr (record { first = []; second = inside; inside_is = refl; moves = []; turns_are = refl; lawful = tt; begins = c.0; items_are = e; stage = at; onward = record { moves = moves; turns_are = t; lawful = c.1 } })
reaches-message till payload as_read items now rest reads v (Begin ∷ moves) inside (x ∷ before) a at e c t r =
    let f = begins-first v a c.0 in
    let tails : f.rest ≡ before ++ Message till payload ∷ items = (let n : f.item ∷ f.rest ≡ x ∷ (before ++ Message till payload ∷ items) = sym f.items_are ∙ e in cc) in
    either (reaches-begin v (Asked till as_read) items inside (Polled now ∷ rest) c.0) (reaches-begin v (Message till payload) items inside (Polled now ∷ rest) c.0)
    (reaches-message till payload as_read items now rest reads (after v Begin) moves inside (f.new ++ before) (move-agrees v Begin a c.0) (begin-stage v.scene v.items ∙ ap busy at) (f.left ∙ ap (λ l. f.new ++ l) tails ∙ sym (append_assoc f.new before (Message till payload ∷ items))) c.1 t r)
reaches-message till payload as_read items now rest reads v (Read read ∷ moves) inside [] a at e c t r =
    let same : c.0.bytes ≡ payload = (let n : Some c.0.bytes ≡ Some payload = sym c.0.message ∙ ap first_message e in cc) in
    let one : read ≡ as_read = reads-one payload read as_read (subst (λ b. IsReadAs b read) same c.0.reads) reads in
    let left : (after v (Read read)).items ≡ Asked till as_read ∷ items = ap (read_first read) e ∙ ap (λ read. Asked till read ∷ items) one in
    inl (reaches-read v read (Asked till as_read) items inside (Polled now ∷ rest) (c.0, tt) (reaches (Asked till as_read) items now rest refl (after v (Read read)) moves inside [] (move-agrees v (Read read) a c.0) (ap busy at) left c.1 t r))
reaches-message till payload as_read items now rest reads v (Read read ∷ moves) inside (x ∷ before) a at e c t r =
    let first = read-rest read x (before ++ Message till payload ∷ items) in
    either (reaches-read v read (Asked till as_read) items inside (Polled now ∷ rest) (c.0, tt)) (reaches-read v read (Message till payload) items inside (Polled now ∷ rest) (c.0, tt))
    (reaches-message till payload as_read items now rest reads (after v (Read read)) moves inside (first.0 ∷ before) (move-agrees v (Read read) a c.0) (ap busy at) (ap (read_first read) e ∙ first.1) c.1 t r)
reaches-message till payload as_read items now rest reads v (Make turn ∷ moves) [] before a at e c t r =
    let heads : turn ≡ Polled now = (let n : turn ∷ turns_of moves ≡ Polled now ∷ rest = t in cc) in
    let ok : AllowedTurn v (Polled now) = subst (AllowedTurn v) heads c.0 in
    none-among (Message till payload) v.items (before, items, e) ok.items
reaches-message till payload as_read items now rest reads v (Make turn ∷ moves) (other ∷ inside) before a at e c t r =
    let heads : turn ≡ other = (let n : turn ∷ turns_of moves ≡ other ∷ (inside ++ Polled now ∷ rest) = t in cc) in
    let tails : turns_of moves ≡ inside ++ Polled now ∷ rest = (let n : turn ∷ turns_of moves ≡ other ∷ (inside ++ Polled now ∷ rest) = t in cc) in
    let sort : is_sort_of_round (sort_of turn) ≡ true = ap (λ t. is_sort_of_round (sort_of t)) heads ∙ r.0 in
    by_items heads tails (λ same stage. reaches-message till payload as_read items now rest reads (after_turn v turn) moves inside before (turn-agrees v turn a c.0) stage (same ∙ e) c.1 tails r.1) (turn-items v turn a at c.0 sort)
  where
    by_items : turn ≡ other → turns_of moves ≡ inside ++ Polled now ∷ rest
        → ((after_turn v turn).items ≡ v.items → (after_turn v turn).scene.stage ≡ Handling → ReachesMessage (after_turn v turn) till payload as_read items inside (Polled now ∷ rest)) → SameItems v turn → ReachesMessage v till payload as_read items (other ∷ inside) (Polled now ∷ rest)
    by_items heads tails more (inr dead) = never-polled now rest (after_turn v turn) moves inside dead c.1 tails r.1
    by_items heads tails more (inl (same, stage)) =
        either (reaches-turn v turn other (Asked till as_read) items inside (Polled now ∷ rest) c.0 heads) (reaches-turn v turn other (Message till payload) items inside (Polled now ∷ rest) c.0 heads) (more same stage)

-- ---- what an item of a till owes

-- a message outside owes its till its reply, where that is there, and changes nothing
asked-is : (tills : List Connection) (known : Known) (till : ℕ) (as_read : ReadAs) → IsReadOutside as_read → is_connected tills till ≡ true → (reply : ReplyValue) × (row_of tills known (Asked till as_read) ≡ becoming known.core (SendTill till reply ∷ []))
asked-is tills known till (Request header request) is there = absurd is
asked-is tills known till Silent is there = absurd is
asked-is tills known till (NoMessage fault) is there = (_, ap (λ b. owing_where b known (asked_row known till (NoMessage fault))) there)
asked-is tills known till (NoJson fault) is there = (_, ap (λ b. owing_where b known (asked_row known till (NoJson fault))) there)

-- the item of which this row is owed in this view
record Owes (v : View) (item : RoundItem) (items : List RoundItem) (calls : List OwedCall) (second rest : List Turn) : Type 0 where
  begun_is : after v Begin ≡ owing_then v.scene calls items
  calls_are : (row_at v.scene item).calls ≡ calls
  onward : Along (owing_then v.scene calls items) (second ++ rest)

owes-row : (v : View) (item : RoundItem) (items : List RoundItem) (calls : List OwedCall) (second rest : List Turn) (has : HasSetup v.scene) → v.items ≡ item ∷ items → v.scene.stage ≡ Handling → row_of v.scene.outside.tills (known_in v.scene has.setup) item ≡ becoming v.scene.core calls
    → Along (after v Begin) (second ++ rest) → Owes v item items calls second rest
owes-row v item items calls second rest has e at row onward =
    let begun : after v Begin ≡ owing_then v.scene calls items = ap (begin v.scene) e ∙ begun-is v.scene has.setup item items calls has.setup_is at row in
    record { begun_is = begun; calls_are = in-owes v.scene has.setup item calls has.setup_is (ap (λ (r : Row). r.calls) row); onward = subst (λ w. Along w (second ++ rest)) begun onward }

-- where the calls that are owed are made in these moves, the item changes no books
handled : (log inside rest : List Turn) (item : RoundItem) (items : List RoundItem) (calls : List OwedCall) (first own later : List Turn) (v : View) (scene : Scene) (moves : List Move) (Comes : List Turn → Scene → Scene → Type 0) → inside ≡ first ++ (own ++ later) → Stands (log ++ first) v → Begins v → v.items ≡ item ∷ items
    → after v Begin ≡ owing_then v.scene calls items → turns_of moves ≡ own → IsCourse (owing_then v.scene calls items) moves → view_from (owing_then v.scene calls items) moves ≡ idle_with scene items → Along (idle_with scene items) (later ++ rest)
    → Comes own v.scene scene → LeavesBooks v.scene scene → LeavesQueues own v.scene.core.waits scene.core.waits → ChangesNoBooks log inside rest item items items Comes
handled log inside rest item items calls first own later v scene moves Comes inside_is stands begins items_are begun turns_are lawful ends onward comes books queues = record {
  first = first;
  own = own;
  later = later;
  inside_is = inside_is;
  view = v;
  along = stands;
  begins = begins;
  items_are = items_are;
  scene = scene;
  comes = comes;
  books = books;
  queues = queues;
  leads = record { moves = Begin ∷ moves; turns_are = turns_are; lawful = (begins, subst (λ w. IsCourse w moves) (sym begun) lawful); ends = ap (λ w. view_from w moves) begun ∙ ends };
  goes_on = (view_from (idle_with scene items) onward.moves, record { moves = onward.moves; turns_are = onward.turns_are; lawful = onward.lawful; ends = refl });
}

-- ---- its till

-- nothing is owed to a till that is gone
gone-handled : (log inside rest : List Turn) (till : ℕ) (item : RoundItem) (items : List RoundItem) (first second : List Turn) (v : View) → inside ≡ first ++ second → Stands (log ++ first) v → Begins v → v.items ≡ item ∷ items → is_connected v.scene.outside.tills till ≡ false
    → Owes v item items [] second rest → ChangesNoBooks log inside rest item items items (TillOutcome till item)
gone-handled log inside rest till item items first second v inside_is stands begins items_are gone owes =
    handled log inside rest item items [] first [] second v v.scene [] (TillOutcome till item) inside_is stands begins items_are owes.begun_is refl tt refl owes.onward
    (WasGone gone owes.calls_are refl refl) (same-books v.scene) (AllWait refl)

-- one that is there is sent its reply, or cut where the send fails
replied-outcome : (till : ℕ) (item : RoundItem) (reply : ReplyValue) (turns : List Turn) (before last : Scene) → is_connected before.outside.tills till ≡ true → (row_at before item).calls ≡ SendTill till reply ∷ [] → ArePaid (SendTill till reply ∷ []) turns before last → TillOutcome till item turns before last
replied-outcome till item reply turns before last there calls (inl none) = absurd (let n : SendTill till reply ∷ [] ≡ [] = none.calls_are in cc)
replied-outcome till item reply turns before last there calls (inr (inl whole)) =
    let n : SendTill till reply ∷ [] ≡ SendTill whole.till whole.reply ∷ [] = whole.calls_are in
    let tills : whole.till ≡ till = cc in
    let replies : whole.reply ≡ reply = cc in
    Replied reply there calls (whole.turns_are ∙ ap (λ t. SentTill t (reply_value_bytes whole.reply) true ∷ []) tills ∙ ap (λ r. SentTill till (reply_value_bytes r) true ∷ []) replies) whole.after_is
replied-outcome till item reply turns before last there calls (inr (inr failed)) =
    let n : SendTill till reply ∷ [] ≡ SendTill failed.till failed.reply ∷ [] = failed.calls_are in
    let tills : failed.till ≡ till = cc in
    let replies : failed.reply ≡ reply = cc in
    Unreplied reply failed.bytes there calls (subst (λ r. IsPrefix failed.bytes (reply_value_bytes r)) replies failed.sent) (failed.turns_are ∙ ap (λ t. SentTill t failed.bytes false ∷ CutTill t ∷ []) tills) (failed.after_is ∙ ap (till_gone before) tills)

replied-books : (scene : Scene) (calls : List OwedCall) (turns : List Turn) (last : Scene) → ArePaid calls turns scene last → LeavesBooks scene last
replied-books scene calls turns last (inl none) = subst (LeavesBooks scene) (sym none.after_is) (same-books scene)
replied-books scene calls turns last (inr (inl whole)) = subst (LeavesBooks scene) (sym whole.after_is) (same-books scene)
replied-books scene calls turns last (inr (inr failed)) = subst (LeavesBooks scene) (sym failed.after_is) (gone-books scene failed.till)

replied-queues : (scene : Scene) (calls : List OwedCall) (turns : List Turn) (last : Scene) → ArePaid calls turns scene last → LeavesQueues turns scene.core.waits last.core.waits
replied-queues scene calls turns last (inl none) = AllWait (ap (λ (s : Scene). s.core.waits) none.after_is)
replied-queues scene calls turns last (inr (inl whole)) = AllWait (ap (λ (s : Scene). s.core.waits) whole.after_is)
replied-queues scene calls turns last (inr (inr failed)) = OwnLeave failed.till (SentTill failed.till failed.bytes false ∷ [], [], failed.turns_are) (ap (λ (s : Scene). s.core.waits) failed.after_is)

replied-handled : (log inside rest : List Turn) (till : ℕ) (now : ℤ) (item : RoundItem) (items : List RoundItem) (reply : ReplyValue) (first second : List Turn) (v : View) → inside ≡ first ++ second → Stands (log ++ first) v → Begins v → v.items ≡ item ∷ items → v.scene.stage ≡ Handling → AreOfRound second
    → is_connected v.scene.outside.tills till ≡ true → Owes v item items (SendTill till reply ∷ []) second (Polled now ∷ rest) → ChangesNoBooks log inside (Polled now ∷ rest) item items items (TillOutcome till item)
replied-handled log inside rest till now item items reply first second v inside_is stands begins items_are at round there owes =
    let p = pays (Some till) (Some reply) v.scene items second now rest at round owes.onward in
    handled log inside (Polled now ∷ rest) item items (SendTill till reply ∷ []) first p.reply_turns p.later v p.last p.moves (TillOutcome till item) (inside_is ∙ ap (λ l. first ++ l) p.turns_are) stands begins items_are owes.begun_is p.moves_are p.lawful p.ends p.onward
    (replied-outcome till item reply p.reply_turns v.scene p.last there owes.calls_are p.paid) (replied-books v.scene _ p.reply_turns p.last p.paid) (replied-queues v.scene _ p.reply_turns p.last p.paid)

-- one whose cut is owed is cut
cut-handled : (log inside rest : List Turn) (till : ℕ) (now : ℤ) (item : RoundItem) (items : List RoundItem) (first second : List Turn) (v : View) → inside ≡ first ++ second → Stands (log ++ first) v → Begins v → v.items ≡ item ∷ items → v.scene.stage ≡ Handling → AreOfRound second
    → is_connected v.scene.outside.tills till ≡ true → Owes v item items (OwedCutTill till ∷ []) second (Polled now ∷ rest) → ChangesNoBooks log inside (Polled now ∷ rest) item items items (TillOutcome till item)
cut-handled log inside rest till now item items first [] v inside_is stands begins items_are at round there owes =
    let next = take-owed (owing_then v.scene (OwedCutTill till ∷ []) items) (OwedCutTill till) (Polled now) rest refl owes.onward in
    absurd (let n : OwedCutTill till ∷ [] ≡ [] = next.0.calls in cc)
cut-handled log inside rest till now item items first (turn ∷ later) v inside_is stands begins items_are at round there owes =
    let owing : View = owing_then v.scene (OwedCutTill till ∷ []) items in
    let next = take-owed owing (OwedCutTill till) turn (later ++ Polled now ∷ rest) refl owes.onward in
    let same : turn ≡ CutTill till = till-cut-next till owing turn at refl next.0 round.0 in
    let made : after_turn owing (CutTill till) ≡ idle_with (till_gone v.scene till) items = ap (at_stage (till_gone v.scene till) [] items) (ap busy at ∙ sym at) in
    handled log inside (Polled now ∷ rest) item items (OwedCutTill till ∷ []) first (CutTill till ∷ []) later v (till_gone v.scene till) (Make (CutTill till) ∷ []) (TillOutcome till item) (inside_is ∙ ap (λ t. first ++ t ∷ later) same) stands begins items_are owes.begun_is refl
    (subst (AllowedTurn owing) same next.0, tt) made (subst (λ w. Along w (later ++ Polled now ∷ rest)) made (subst (λ t. Along (after_turn owing t) (later ++ Polled now ∷ rest)) same next.1))
    (Disconnected there owes.calls_are refl refl) (gone-books v.scene till) (OwnLeave till ([], [], refl) refl)

-- ---- one item, at any place

-- where a call was made once the event has come, it was owed; and where it sends a till a reply, this is its turn
record IsMade (v : View) (turn : Turn) : Type 0 where
  call : OwedCall
  next : IsNext v call
  sends : (till : ℕ) (reply : ReplyValue) → call ≡ SendTill till reply → (turn ≡ SentTill till (reply_value_bytes reply) true) ⊎ ((bytes : List ℕ) × IsPrefix bytes (reply_value_bytes reply) × (turn ≡ SentTill till bytes false))

call-made : (v : View) (turn : Turn) → v.scene.stage ≡ Handling → AllowedTurn v turn → is_sort_of_round (sort_of turn) ≡ true → IsMade v turn
call-made v (Start setup) at ok e = no-true e
call-made v OpenFailed at ok e = no-true e
call-made v (Polled now) at ok e = no-true e
call-made v (Opened other) at ok e = handling-not-polled (sym at ∙ ok.0)
call-made v (HeardTill other bytes) at ok e = handling-not-polled (sym at ∙ ok.0.polled)
call-made v (Closed other) at ok e = handling-not-polled (sym at ∙ ok.polled)
call-made v (HeardPt other bytes) at ok e = handling-not-polled (sym at ∙ ok.0.polled)
call-made v (Lost other) at ok e = handling-not-polled (sym at ∙ ok.polled)
call-made v Stopped at ok e = handling-not-polled (sym at ∙ ok)
call-made v (Linked other) at ok e = record { call = LinkPt other; next = ok; sends = λ till reply n. cc }
call-made v (LinkFailed other) at ok e = record { call = LinkPt other; next = ok; sends = λ till reply n. cc }
call-made v (SentTill other bytes true) at ok e = record {
  call = SendTill other ok.0;
  next = ok.1;
  sends = λ till reply n.
      let number : other ≡ till = cc in
      let same : ok.0 ≡ reply = cc in
      inl (ap (λ t. SentTill t bytes true) number ∙ ap (λ l. SentTill till l true) (ok.2 ∙ ap reply_value_bytes same));
}
call-made v (SentTill other bytes false) at ok e = record {
  call = SendTill other ok.0;
  next = ok.1;
  sends = λ till reply n.
      let number : other ≡ till = cc in
      let same : ok.0 ≡ reply = cc in
      inr (bytes, subst (λ r. IsPrefix bytes (reply_value_bytes r)) same ok.2, ap (λ t. SentTill t bytes false) number);
}
call-made v (SentPt other bytes true) at ok e = record { call = SendPt other ok.0; next = ok.1; sends = λ till reply n. cc }
call-made v (SentPt other bytes false) at ok e = record { call = SendPt other ok.0; next = ok.1; sends = λ till reply n. cc }
call-made v (CutTill other) at ok e = record { call = OwedCutTill other; next = ok; sends = λ till reply n. cc }
call-made v (CutPt other) at ok e = record { call = OwedCutPt other; next = ok; sends = λ till reply n. cc }
call-made v (Wrote offset bytes) at ok e = record { call = ok.0; next = ok.1; sends = λ till reply n. absurd (let none : None ≡ Some (Wrote offset bytes) = sym (ap write_turn n) ∙ ok.2 in cc) }
call-made v Synced at ok e = record { call = Sync; next = ok; sends = λ till reply n. cc }
call-made v DiskFailed at (inl next) e = record { call = Sync; next = next; sends = λ till reply n. cc }
call-made v DiskFailed at (inr looking) e = no-true (sym (ap is_looking at) ∙ looking)
call-made v (Crash file) at ok e = no-true e

-- where none is owed, no move of the item is left
none-left : (scene : Scene) (items : List RoundItem) (moves : List Move) → scene.stage ≡ Handling → IsCourse (idle_with scene items) moves → AreOfItem moves → moves ≡ []
none-left scene items [] at c o = refl
none-left scene items (Begin ∷ moves) at c o = absurd o
none-left scene items (Read as_read ∷ moves) at c o = absurd o
none-left scene items (Make turn ∷ moves) at c o = let made = call-made (idle_with scene items) turn at c.0 o.0 in no-call [] made.call refl made.next

-- where it was owed none, none has come
idle-leaves : (scene : Scene) (items : List RoundItem) (moves : List Move) (Comes : List Turn → Scene → Scene → Type 0) → scene.stage ≡ Handling → IsCourse (idle_with scene items) moves → AreOfItem moves → Comes [] scene scene
    → LeavesOthers scene items (turns_of moves) (view_from (idle_with scene items) moves) Comes
idle-leaves scene items moves Comes at c o comes =
    subst (λ m. LeavesOthers scene items (turns_of m) (view_from (idle_with scene items) m) Comes) (sym (none-left scene items moves at c o))
    (record { books = same-books scene; queues = AllWait refl; items_are = refl; comes = λ calls. comes })

-- where the cut of a till is owed, it has come or not
cut-made : (till : ℕ) (scene : Scene) (items : List RoundItem) → scene.stage ≡ Handling → after_turn (owing_then scene (OwedCutTill till ∷ []) items) (CutTill till) ≡ idle_with (till_gone scene till) items
cut-made till scene items at = ap (at_stage (till_gone scene till) [] items) (ap busy at ∙ sym at)

cut-left : (till : ℕ) (scene : Scene) (items : List RoundItem) (moves : List Move) → scene.stage ≡ Handling → IsCourse (owing_then scene (OwedCutTill till ∷ []) items) moves → AreOfItem moves → (moves ≡ []) ⊎ (moves ≡ Make (CutTill till) ∷ [])
cut-left till scene items [] at c o = inl refl
cut-left till scene items (Begin ∷ moves) at c o = absurd o
cut-left till scene items (Read as_read ∷ moves) at c o = absurd o
cut-left till scene items (Make turn ∷ moves) at c o =
    let owing : View = owing_then scene (OwedCutTill till ∷ []) items in
    let same : turn ≡ CutTill till = till-cut-next till owing turn at refl c.0 o.0 in
    let onward : IsCourse (idle_with (till_gone scene till) items) moves = subst (λ w. IsCourse w moves) (cut-made till scene items at) (subst (λ t. IsCourse (after_turn owing t) moves) same c.1) in
    inr (ap (λ t. Make t ∷ moves) same ∙ ap (λ m. Make (CutTill till) ∷ m) (none-left (till_gone scene till) items moves at onward o.1))

-- the scene once a call was made
scene-of : (v w : View) → v ≡ w → v.scene ≡ w.scene
scene-of v w e = ap (λ (u : View). u.scene) e

cut-leaves : (till : ℕ) (scene : Scene) (items : List RoundItem) (moves : List Move) (Comes : List Turn → Scene → Scene → Type 0) → scene.stage ≡ Handling → IsCourse (owing_then scene (OwedCutTill till ∷ []) items) moves → AreOfItem moves
    → ((after : Scene) → after ≡ till_gone scene till → Comes (CutTill till ∷ []) scene after) → LeavesOthers scene items (turns_of moves) (view_from (owing_then scene (OwedCutTill till ∷ []) items) moves) Comes
cut-leaves till scene items moves Comes at c o comes = by_moves (cut-left till scene items moves at c o)
  where
    owing : View
    owing = owing_then scene (OwedCutTill till ∷ []) items

    by_moves : (moves ≡ []) ⊎ (moves ≡ Make (CutTill till) ∷ []) → LeavesOthers scene items (turns_of moves) (view_from owing moves) Comes
    by_moves (inl none) =
        subst (λ m. LeavesOthers scene items (turns_of m) (view_from owing m) Comes) (sym none)
        (record { books = same-books scene; queues = AllWait refl; items_are = refl; comes = λ calls. absurd (let n : OwedCutTill till ∷ [] ≡ [] = calls in cc) })
    by_moves (inr cut) =
        subst (λ m. LeavesOthers scene items (turns_of m) (view_from owing m) Comes) (sym cut)
        (record { books = books-by scene _ refl refl refl refl refl; queues = OwnLeave till ([], [], refl) refl; items_are = refl; comes = λ calls. comes _ (scene-of _ _ (cut-made till scene items at)) })

-- where a reply is owed, it was sent, or couldn't be, and then its till was cut or not
abbrev ReplyMoves : ℕ → ReplyValue → List Move → Type 0
ReplyMoves till reply moves =
    (moves ≡ []) ⊎ ((moves ≡ Make (SentTill till (reply_value_bytes reply) true) ∷ [])
    ⊎ ((bytes : List ℕ) × IsPrefix bytes (reply_value_bytes reply) × ((moves ≡ Make (SentTill till bytes false) ∷ []) ⊎ (moves ≡ Make (SentTill till bytes false) ∷ Make (CutTill till) ∷ []))))

reply-left : (till : ℕ) (reply : ReplyValue) (scene : Scene) (items : List RoundItem) (moves : List Move) → scene.stage ≡ Handling → IsCourse (owing_then scene (SendTill till reply ∷ []) items) moves → AreOfItem moves → ReplyMoves till reply moves
reply-left till reply scene items [] at c o = inl refl
reply-left till reply scene items (Begin ∷ moves) at c o = absurd o
reply-left till reply scene items (Read as_read ∷ moves) at c o = absurd o
reply-left till reply scene items (Make turn ∷ moves) at c o = by_turn (made.sends till reply (same-call (SendTill till reply ∷ []) made.call (SendTill till reply) made.next refl))
  where
    owing : View
    owing = owing_then scene (SendTill till reply ∷ []) items

    made : IsMade owing turn
    made = call-made owing turn at c.0 o.0

    onward : (sent : Turn) (w : View) → turn ≡ sent → after_turn owing sent ≡ w → IsCourse w moves
    onward sent w is e = subst (λ w. IsCourse w moves) e (subst (λ t. IsCourse (after_turn owing t) moves) is c.1)

    by_cut : (bytes : List ℕ) → turn ≡ SentTill till bytes false → (moves ≡ []) ⊎ (moves ≡ Make (CutTill till) ∷ []) → (Make turn ∷ moves ≡ Make (SentTill till bytes false) ∷ []) ⊎ (Make turn ∷ moves ≡ Make (SentTill till bytes false) ∷ Make (CutTill till) ∷ [])
    by_cut bytes is (inl none) = inl (ap (λ t. Make t ∷ moves) is ∙ ap (λ m. Make (SentTill till bytes false) ∷ m) none)
    by_cut bytes is (inr cut) = inr (ap (λ t. Make t ∷ moves) is ∙ ap (λ m. Make (SentTill till bytes false) ∷ m) cut)

    by_turn : (turn ≡ SentTill till (reply_value_bytes reply) true) ⊎ ((bytes : List ℕ) × IsPrefix bytes (reply_value_bytes reply) × (turn ≡ SentTill till bytes false)) → ReplyMoves till reply (Make turn ∷ moves)
    by_turn (inl is) =
        let sent : Turn = SentTill till (reply_value_bytes reply) true in
        let none = none-left scene items moves at (onward sent (idle_with scene items) is (ap (at_stage scene [] items) (ap busy at ∙ sym at))) o.1 in
        inr (inl (ap (λ t. Make t ∷ moves) is ∙ ap (λ m. Make sent ∷ m) none))
    by_turn (inr (bytes, prefix, is)) =
        let cutting : View = owing_then scene (OwedCutTill till ∷ []) items in
        let left = cut-left till scene items moves at (onward (SentTill till bytes false) cutting is (ap (at_stage scene (OwedCutTill till ∷ []) items) (ap busy at ∙ sym at))) o.1 in
        inr (inr (bytes, prefix, by_cut bytes is left))

reply-leaves : (till : ℕ) (reply : ReplyValue) (scene : Scene) (items : List RoundItem) (moves : List Move) → scene.stage ≡ Handling → IsCourse (owing_then scene (SendTill till reply ∷ []) items) moves → AreOfItem moves
    → LeavesOthers scene items (turns_of moves) (view_from (owing_then scene (SendTill till reply ∷ []) items) moves) (ArePaid (SendTill till reply ∷ []))
reply-leaves till reply scene items moves at c o = by_moves (reply-left till reply scene items moves at c o)
  where
    owing : View
    owing = owing_then scene (SendTill till reply ∷ []) items

    Leaves : List Move → Type 0
    Leaves m = LeavesOthers scene items (turns_of m) (view_from owing m) (ArePaid (SendTill till reply ∷ []))

    by_cut : (bytes : List ℕ) → IsPrefix bytes (reply_value_bytes reply) → (moves ≡ Make (SentTill till bytes false) ∷ []) ⊎ (moves ≡ Make (SentTill till bytes false) ∷ Make (CutTill till) ∷ []) → Leaves moves
    by_cut bytes prefix (inl failed) = subst Leaves (sym failed) (record {
      books = books-by scene _ refl refl refl refl refl;
      queues = AllWait refl;
      items_are = refl;
      comes = λ calls. absurd (let n : OwedCutTill till ∷ [] ≡ [] = calls in cc);
    })
    by_cut bytes prefix (inr cut) = subst Leaves (sym cut) (record {
      books = books-by scene _ refl refl refl refl refl;
      queues = OwnLeave till (SentTill till bytes false ∷ [], [], refl) refl;
      items_are = refl;
      comes = λ calls. inr (inr (record {
        till = till;
        reply = reply;
        calls_are = refl;
        bytes = bytes;
        sent = prefix;
        turns_are = refl;
        after_is = ap (λ s. record (till_gone scene till) { stage = s }) (ap (λ s. busy (busy s)) at ∙ sym at);
      }));
    })

    by_moves : ReplyMoves till reply moves → Leaves moves
    by_moves (inl none) = subst Leaves (sym none) (record { books = same-books scene; queues = AllWait refl; items_are = refl; comes = λ calls. absurd (let n : SendTill till reply ∷ [] ≡ [] = calls in cc) })
    by_moves (inr (inl whole)) = subst Leaves (sym whole) (record {
      books = books-by scene _ refl refl refl refl refl;
      queues = AllWait refl;
      items_are = refl;
      comes = λ calls. inr (inl (record { till = till; reply = reply; calls_are = refl; turns_are = refl; after_is = ap (λ s. record scene { stage = s }) (ap busy at ∙ sym at) }));
    })
    by_moves (inr (inr (bytes, prefix, moves_are))) = by_cut bytes prefix moves_are

paid-leaves : (asker : Option ℕ) (reply : Option ReplyValue) (scene : Scene) (items : List RoundItem) (moves : List Move) → scene.stage ≡ Handling → IsCourse (owing_then scene (reply_calls_to asker reply) items) moves → AreOfItem moves
    → LeavesOthers scene items (turns_of moves) (view_from (owing_then scene (reply_calls_to asker reply) items) moves) (ArePaid (reply_calls_to asker reply))
paid-leaves None reply scene items moves at c o = idle-leaves scene items moves (ArePaid []) at c o (inl (record { calls_are = refl; turns_are = refl; after_is = refl }))
paid-leaves (Some till) None scene items moves at c o = idle-leaves scene items moves (ArePaid []) at c o (inl (record { calls_are = refl; turns_are = refl; after_is = refl }))
paid-leaves (Some till) (Some reply) scene items moves at c o = reply-leaves till reply scene items moves at c o

-- where an outcome is another
leaves-as : (scene : Scene) (items : List RoundItem) (turns : List Turn) (v : View) (Comes Other : List Turn → Scene → Scene → Type 0) → ((after : Scene) → Comes turns scene after → Other turns scene after) → LeavesOthers scene items turns v Comes → LeavesOthers scene items turns v Other
leaves-as scene items turns v Comes Other other leaves = record { books = leaves.books; queues = leaves.queues; items_are = leaves.items_are; comes = λ calls. other v.scene (leaves.comes calls) }

-- the item has begun, and these calls are owed of it
record HasBegun (v : View) (item : RoundItem) (items : List RoundItem) (moves : List Move) (calls : List OwedCall) : Type 0 where
  begun_is : after v Begin ≡ owing_then (at_item v.scene) calls items
  stage : (at_item v.scene).stage ≡ Handling
  calls_are : (row_at (at_item v.scene) item).calls ≡ calls
  onward : IsCourse (owing_then (at_item v.scene) calls items) moves

has-begun : (log : List Turn) (v : View) (item : RoundItem) (items : List RoundItem) (moves : List Move) (calls : List OwedCall) (has : HasSetup v.scene) → IsItemCourse log v item items moves → row_of v.scene.outside.tills (known_in v.scene has.setup) item ≡ becoming v.scene.core calls
    → HasBegun v item items moves calls
has-begun log v item items moves calls has h row =
    let row_is : row_at v.scene item ≡ becoming v.scene.core calls = ap (row_in v.scene (λ known. row_of v.scene.outside.tills known item)) has.setup_is ∙ row in
    let begun_is : after v Begin ≡ owing_then (at_item v.scene) calls items = ap (begin v.scene) h.items_are ∙ ap (λ r. begun v.scene r items) row_is in
    record { begun_is = begun_is; stage = round-busy v.scene.stage h.begins.idle.round; calls_are = ap (λ (r : Row). r.calls) row_is; onward = subst (λ w. IsCourse w moves) begun_is h.lawful }

item-leaves : (v : View) (item : RoundItem) (items : List RoundItem) (moves : List Move) (calls : List OwedCall) (Comes : List Turn → Scene → Scene → Type 0) → HasBegun v item items moves calls
    → LeavesOthers (at_item v.scene) items (turns_of moves) (view_from (owing_then (at_item v.scene) calls items) moves) Comes → ItemLeavesOthers v items moves Comes
item-leaves v item items moves calls Comes b leaves = subst (λ w. LeavesOthers (at_item v.scene) items (turns_of moves) (view_from w moves) Comes) (sym b.begun_is) leaves

stands-agrees : (log : List Turn) (v : View) → Stands log v → Agrees v
stands-agrees log v s = subst Agrees s.view_is (course-agrees at_first s.course first-agrees s.lawful)

item-setup : (log : List Turn) (v : View) (item : RoundItem) (items : List RoundItem) (moves : List Move) → IsItemCourse log v item items moves → HasSetup v.scene
item-setup log v item items moves h = round-setup v (stands-agrees log v h.along).run h.begins.idle.round

-- of a till
asked-leaves : (log : List Turn) (v : View) (till : ℕ) (as_read : ReadAs) (items : List RoundItem) (moves : List Move) → IsItemCourse log v (Asked till as_read) items moves → IsReadOutside as_read → ItemLeavesOthers v items moves (TillOutcome till (Asked till as_read))
asked-leaves log v till as_read items moves h outside = by_there (is_connected v.scene.outside.tills till) refl
  where
    item : RoundItem
    item = Asked till as_read

    has : HasSetup v.scene
    has = item-setup log v item items moves h

    known : Known
    known = known_in v.scene has.setup

    by_there : (there : Bool) → is_connected v.scene.outside.tills till ≡ there → ItemLeavesOthers v items moves (TillOutcome till item)
    by_there true there =
        let row = asked-is v.scene.outside.tills known till as_read outside there in
        let calls : List OwedCall = SendTill till row.0 ∷ [] in
        let b = has-begun log v item items moves calls has h row.1 in
        item-leaves v item items moves calls (TillOutcome till item) b
        (leaves-as (at_item v.scene) items (turns_of moves) (view_from (owing_then (at_item v.scene) calls items) moves) (ArePaid calls) (TillOutcome till item) (λ after paid. replied-outcome till item row.0 (turns_of moves) (at_item v.scene) after there b.calls_are paid)
        (reply-leaves till row.0 (at_item v.scene) items moves b.stage b.onward h.of_item))
    by_there false gone =
        let b = has-begun log v item items moves [] has h (ap (λ b. owing_where b known (asked_row known till as_read)) gone) in
        item-leaves v item items moves [] (TillOutcome till item) b (idle-leaves (at_item v.scene) items moves (TillOutcome till item) b.stage b.onward h.of_item (WasGone gone b.calls_are refl refl))

unframed-leaves : (log : List Turn) (v : View) (till : ℕ) (items : List RoundItem) (moves : List Move) → IsItemCourse log v (Unframed till) items moves → ItemLeavesOthers v items moves (TillOutcome till (Unframed till))
unframed-leaves log v till items moves h = by_there (is_connected v.scene.outside.tills till) refl
  where
    item : RoundItem
    item = Unframed till

    has : HasSetup v.scene
    has = item-setup log v item items moves h

    known : Known
    known = known_in v.scene has.setup

    calls : List OwedCall
    calls = OwedCutTill till ∷ []

    by_there : (there : Bool) → is_connected v.scene.outside.tills till ≡ there → ItemLeavesOthers v items moves (TillOutcome till item)
    by_there true there =
        let b = has-begun log v item items moves calls has h (ap (λ b. owing_where b known (owing known calls)) there) in
        item-leaves v item items moves calls (TillOutcome till item) b (cut-leaves till (at_item v.scene) items moves (TillOutcome till item) b.stage b.onward h.of_item (λ after is. Disconnected there b.calls_are refl is))
    by_there false gone =
        let b = has-begun log v item items moves [] has h (ap (λ b. owing_where b known (owing known calls)) gone) in
        item-leaves v item items moves [] (TillOutcome till item) b (idle-leaves (at_item v.scene) items moves (TillOutcome till item) b.stage b.onward h.of_item (WasGone gone b.calls_are refl refl))

pub each-till-item-leaves-others : EachTillItemLeavesOthers
each-till-item-leaves-others log v till (Crowded number) items moves h of outside = absurd of
each-till-item-leaves-others log v till (Message number bytes) items moves h of outside = absurd outside
each-till-item-leaves-others log v till (Asked number as_read) items moves h of outside = subst (λ t. ItemLeavesOthers v items moves (TillOutcome t (Asked number as_read))) of (asked-leaves log v number as_read items moves h outside)
each-till-item-leaves-others log v till (Unframed number) items moves h of outside = subst (λ t. ItemLeavesOthers v items moves (TillOutcome t (Unframed number))) of (unframed-leaves log v number items moves h)
each-till-item-leaves-others log v till (Gone number) items moves h of outside = absurd of
each-till-item-leaves-others log v till (Greet pt apdu) items moves h of outside = absurd of
each-till-item-leaves-others log v till (Handle pt apdu) items moves h of outside = absurd of
each-till-item-leaves-others log v till (Serve pt number header request) items moves h of outside = absurd of
each-till-item-leaves-others log v till (Queue pt number header request) items moves h of outside = absurd of
each-till-item-leaves-others log v till (NextWaiting pt) items moves h of outside = absurd of
each-till-item-leaves-others log v till (Oversized pt) items moves h of outside = absurd of
each-till-item-leaves-others log v till (LinkLost pt) items moves h of outside = absurd of
each-till-item-leaves-others log v till (Late pt) items moves h of outside = absurd of
each-till-item-leaves-others log v till (Overdue key) items moves h of outside = absurd of
each-till-item-leaves-others log v till (Due pt) items moves h of outside = absurd of

pub each-of-gone-till-leaves-others : EachOfGoneTillLeavesOthers
each-of-gone-till-leaves-others log v till bytes items moves h =
    let item : RoundItem = Message till bytes in
    let gone : is_connected v.scene.outside.tills till ≡ false = not-true (is_connected v.scene.outside.tills till) (sym (ap (may_begin v.scene) h.items_are) ∙ h.begins.first) in
    let b = has-begun log v item items moves [] (item-setup log v item items moves h) h refl in
    item-leaves v item items moves [] (TillOutcome till item) b (idle-leaves (at_item v.scene) items moves (TillOutcome till item) b.stage b.onward h.of_item (WasGone gone b.calls_are refl refl))

pub each-crowded-leaves-others : EachCrowdedLeavesOthers
each-crowded-leaves-others log v till items moves h =
    let calls : List OwedCall = OwedCutTill till ∷ [] in
    let b = has-begun log v (Crowded till) items moves calls (item-setup log v (Crowded till) items moves h) h refl in
    item-leaves v (Crowded till) items moves calls (IsCutAlone till) b (cut-leaves till (at_item v.scene) items moves (IsCutAlone till) b.stage b.onward h.of_item (λ after is. record { turns_are = refl; after_is = is }))

-- of a terminal
on-where-linked : (standing : Standing) (talk : Option TalkFacts) → is_on (standing_state standing talk) ≡ is_linked standing
on-where-linked (Unlinked due) None = refl
on-where-linked (Unlinked due) (Some talk) = refl
on-where-linked Registering talk = refl
on-where-linked Enquiring talk = refl
on-where-linked (Ready last) talk = refl
on-where-linked (Serving service last) talk = refl
on-where-linked (Aside before reported) talk = refl

-- with the cut its terminal is unlinked, and what its loss owes is owed
loss-made : (scene : Scene) (setup : Setup) (pt : ℕ) (terminal : Terminal) (items : List RoundItem) → scene.setup ≡ Some setup → scene.stage ≡ Handling → slice_get scene.core.terminals pt ≡ Some terminal
    → after_turn (owing_then scene (OwedCutPt pt ∷ []) items) (CutPt pt) ≡ owing_then (link_cut scene pt terminal) (calls_of_loss terminal) items
loss-made scene setup pt terminal items is at found =
    let known : Known = known_in scene setup in
    let row_is : link_lost_at scene pt ≡ unlinks known pt terminal = ap (row_in scene (λ known. link_lost known pt)) is ∙ ap (of_terminal known (unlinks known pt)) found in
    ap (λ row. by_row (owing_then scene (OwedCutPt pt ∷ []) items) (called scene (CutPt pt)) row []) row_is ∙ ap (λ l. at_stage (link_cut scene pt terminal) l items (busy scene.stage)) (append-nil (calls_of_loss terminal))
    ∙ ap (at_stage (link_cut scene pt terminal) (calls_of_loss terminal) items) (ap busy at ∙ sym at)

books-then : (one other last : Scene) → LeavesBooks one other → LeavesBooks other last → LeavesBooks one last
books-then one other last a b = books-by one last (b.kept ∙ a.kept) (b.flight ∙ a.flight) (b.file ∙ a.file) (b.stable ∙ a.stable) (b.ranges ∙ a.ranges)

queues-then : (turn : Turn) (turns : List Turn) (before after : List Wait) → LeavesQueues turns before after → LeavesQueues (turn ∷ turns) before after
queues-then turn turns before after (AllWait same) = AllWait same
queues-then turn turns before after (OwnLeave till cut own) = OwnLeave till (turn ∷ cut.0, cut.1, ap (λ l. turn ∷ l) cut.2) own

loss-leaves : (scene : Scene) (setup : Setup) (pt : ℕ) (terminal : Terminal) (items : List RoundItem) (moves : List Move) → scene.setup ≡ Some setup → scene.stage ≡ Handling → is_connected scene.outside.links pt ≡ true → slice_get scene.core.terminals pt ≡ Some terminal
    → IsCourse (owing_then scene (OwedCutPt pt ∷ []) items) moves → AreOfItem moves → LeavesOthers scene items (turns_of moves) (view_from (owing_then scene (OwedCutPt pt ∷ []) items) moves) (TerminalOutcome pt)
loss-leaves scene setup pt terminal items [] is at on found c o = record { books = same-books scene; queues = AllWait refl; items_are = refl; comes = λ calls. absurd (let n : OwedCutPt pt ∷ [] ≡ [] = calls in cc) }
loss-leaves scene setup pt terminal items (Begin ∷ moves) is at on found c o = absurd o
loss-leaves scene setup pt terminal items (Read as_read ∷ moves) is at on found c o = absurd o
loss-leaves scene setup pt terminal items (Make turn ∷ moves) is at on found c o =
    subst (λ t. LeavesOthers scene items (t ∷ turns_of moves) (view_from (after_turn owing t) moves) (TerminalOutcome pt)) (sym same) (subst (λ w. LeavesOthers scene items (CutPt pt ∷ turns_of moves) (view_from w moves) (TerminalOutcome pt)) (sym made) (record {
      books = books-then scene cut _ (cut-books scene pt terminal) paid.books;
      queues = queues-then (CutPt pt) (turns_of moves) _ _ paid.queues;
      items_are = paid.items_are;
      comes = λ calls. LinkEnds terminal (turns_of moves) on found refl (paid.comes calls);
    }))
  where
    owing : View
    owing = owing_then scene (OwedCutPt pt ∷ []) items

    cut : Scene
    cut = link_cut scene pt terminal

    same : turn ≡ CutPt pt
    same = cut-is pt turn (cut-makes pt owing turn at refl c.0 o.0)

    made : after_turn owing (CutPt pt) ≡ owing_then cut (calls_of_loss terminal) items
    made = loss-made scene setup pt terminal items is at found

    paid : LeavesOthers cut items (turns_of moves) (view_from (owing_then cut (calls_of_loss terminal) items) moves) (ArePaid (calls_of_loss terminal))
    paid = paid-leaves terminal.asker (reply_to_lost terminal.standing) cut items moves at (subst (λ w. IsCourse w moves) made (subst (λ t. IsCourse (after_turn owing t) moves) same c.1)) o.1

-- its link isn't lost and unhandled
item-settled : (log : List Turn) (v : View) (item : RoundItem) (items : List RoundItem) (moves : List Move) → IsItemCourse log v item items moves → ((number : ℕ) → item ≢ LinkLost number) → Settled v
item-settled log v item items moves h other = by_links (stands-agrees log v h.along).links
  where
    by_links : Settled v ⊎ Losing v → Settled v
    by_links (inl s) = s
    by_links (inr l) = absurd (other l.pt (let n : item ∷ items ≡ LinkLost l.pt ∷ l.rest = sym h.items_are ∙ l.items_are in cc))

outside-leaves : (log : List Turn) (v : View) (pt : ℕ) (item : RoundItem) (items : List RoundItem) (moves : List Move) → IsItemCourse log v item items moves → ((number : ℕ) → item ≢ LinkLost number) → ((tills : List Connection) (known : Known) → row_of tills known item ≡ outside_row known pt)
    → ItemLeavesOthers v items moves (TerminalOutcome pt)
outside-leaves log v pt item items moves h other rows = by_found (slice_get v.scene.core.terminals pt) refl
  where
    has : HasSetup v.scene
    has = item-setup log v item items moves h

    known : Known
    known = known_in v.scene has.setup

    settled : Settled v
    settled = item-settled log v item items moves h other

    row : row_of v.scene.outside.tills known item ≡ outside_row known pt
    row = rows v.scene.outside.tills known

    nothing : outside_row known pt ≡ owing_nothing known → is_connected v.scene.outside.links pt ≡ false → ItemLeavesOthers v items moves (TerminalOutcome pt)
    nothing none off =
        let b = has-begun log v item items moves [] has h (row ∙ none) in
        item-leaves v item items moves [] (TerminalOutcome pt) b (idle-leaves (at_item v.scene) items moves (TerminalOutcome pt) b.stage b.onward h.of_item (WasCut off refl refl))

    linked_is : (terminal : Terminal) → slice_get v.scene.core.terminals pt ≡ Some terminal → is_connected v.scene.outside.links pt ≡ is_linked terminal.standing
    linked_is terminal found =
        settled.linked pt ∙ ap (λ (t : Option Terminal). is_on (state_of t)) found ∙ on-where-linked terminal.standing terminal.talk

    by_linked : (terminal : Terminal) → slice_get v.scene.core.terminals pt ≡ Some terminal → (linked : Bool) → is_linked terminal.standing ≡ linked → ItemLeavesOthers v items moves (TerminalOutcome pt)
    by_linked terminal found true linked =
        let calls : List OwedCall = OwedCutPt pt ∷ [] in
        let b = has-begun log v item items moves calls has h (row ∙ linked-row known pt (λ terminal. cutting known pt) terminal found linked) in
        item-leaves v item items moves calls (TerminalOutcome pt) b (loss-leaves (at_item v.scene) has.setup pt terminal items moves has.setup_is b.stage (linked_is terminal found ∙ linked) found b.onward h.of_item)
    by_linked terminal found false unlinked =
        nothing (ap (of_terminal known (λ terminal. owing_where (is_linked terminal.standing) known (cutting known pt))) found ∙ ap (λ b. owing_where b known (cutting known pt)) unlinked) (linked_is terminal found ∙ unlinked)

    by_found : (found : Option Terminal) → slice_get v.scene.core.terminals pt ≡ found → ItemLeavesOthers v items moves (TerminalOutcome pt)
    by_found None none =
        nothing (ap (of_terminal known (λ terminal. owing_where (is_linked terminal.standing) known (cutting known pt))) none) (settled.linked pt ∙ ap (λ (t : Option Terminal). is_on (state_of t)) none)
    by_found (Some terminal) found = by_linked terminal found (is_linked terminal.standing) refl

pub each-terminal-item-leaves-others : EachTerminalItemLeavesOthers
each-terminal-item-leaves-others log v pt (Crowded till) items moves h of outside = absurd of
each-terminal-item-leaves-others log v pt (Message till bytes) items moves h of outside = absurd of
each-terminal-item-leaves-others log v pt (Asked till as_read) items moves h of outside = absurd of
each-terminal-item-leaves-others log v pt (Unframed till) items moves h of outside = absurd of
each-terminal-item-leaves-others log v pt (Gone till) items moves h of outside = absurd of
each-terminal-item-leaves-others log v pt (Greet number apdu) items moves h of outside =
    subst (λ n. ItemLeavesOthers v items moves (TerminalOutcome n)) of (outside-leaves log v number (Greet number apdu) items moves h (λ other e. cc) (λ tills known. ap (greet_decoded known number) outside.1))
each-terminal-item-leaves-others log v pt (Handle number apdu) items moves h of outside = absurd outside
each-terminal-item-leaves-others log v pt (Serve number till header request) items moves h of outside = absurd of
each-terminal-item-leaves-others log v pt (Queue number till header request) items moves h of outside = absurd of
each-terminal-item-leaves-others log v pt (NextWaiting number) items moves h of outside = absurd outside
each-terminal-item-leaves-others log v pt (Oversized number) items moves h of outside =
    subst (λ n. ItemLeavesOthers v items moves (TerminalOutcome n)) of (outside-leaves log v number (Oversized number) items moves h (λ other e. cc) (λ tills known. refl))
each-terminal-item-leaves-others log v pt (LinkLost number) items moves h of outside = absurd of
each-terminal-item-leaves-others log v pt (Late number) items moves h of outside = absurd of
each-terminal-item-leaves-others log v pt (Overdue key) items moves h of outside = absurd of
each-terminal-item-leaves-others log v pt (Due number) items moves h of outside = absurd of

-- ---- the laws

-- a till's bytes at a place of a lawful log
record Place (before inside rest : List Turn) (till : ℕ) (chunk : List ℕ) (now : ℤ) : Type 0 where
  course : SplitAt at_first before (HeardTill till chunk) (inside ++ Polled now ∷ rest)
  round : AreOfRound inside

abbrev place-view : (before inside rest : List Turn) (till : ℕ) (chunk : List ℕ) (now : ℤ) → Place before inside rest till chunk now → View
place-view before inside rest till chunk now place = view_from at_first place.course.first

abbrev heard-view : (before inside rest : List Turn) (till : ℕ) (chunk : List ℕ) (now : ℤ) → Place before inside rest till chunk now → View
heard-view before inside rest till chunk now place = after_turn (place-view before inside rest till chunk now place) (HeardTill till chunk)

-- where an item of the bytes begins
record ItemBegins (before inside rest : List Turn) (till : ℕ) (chunk : List ℕ) (now : ℤ) (item : RoundItem) (items : List RoundItem) : Type 0 where
  first : List Turn
  second : List Turn
  inside_is : inside ≡ first ++ second
  view : View
  stands : Stands ((before ++ HeardTill till chunk ∷ []) ++ first) view
  begins : Begins view
  items_are : view.items ≡ item ∷ items
  stage : view.scene.stage ≡ Handling
  onward : Along (after view Begin) (second ++ Polled now ∷ rest)
  round : AreOfRound second
  has : HasSetup view.scene

heard-agrees : (before inside rest : List Turn) (till : ℕ) (chunk : List ℕ) (now : ℤ) (place : Place before inside rest till chunk now) → Agrees (heard-view before inside rest till chunk now place)
heard-agrees before inside rest till chunk now place =
    turn-agrees (place-view before inside rest till chunk now place) (HeardTill till chunk) (split-agrees before (HeardTill till chunk) (inside ++ Polled now ∷ rest) place.course) place.course.allowed

item-begins : (before inside rest : List Turn) (till : ℕ) (chunk : List ℕ) (now : ℤ) (item : RoundItem) (items : List RoundItem) (place : Place before inside rest till chunk now) → Reaches (heard-view before inside rest till chunk now place) item items inside (Polled now ∷ rest) → ItemBegins before inside rest till chunk now item items
item-begins before inside rest till chunk now item items place r = record {
  first = r.first;
  second = r.second;
  inside_is = r.inside_is;
  view = view_from u r.moves;
  stands = subst (λ l. Stands (log ++ l) (view_from u r.moves)) r.turns_are (stands-more log u r.moves u_stands r.lawful);
  begins = r.begins;
  items_are = r.items_are;
  stage = r.stage;
  onward = r.onward;
  round = round-rest r.first r.second (subst AreOfRound r.inside_is place.round);
  has = round-setup (view_from u r.moves) (course-agrees u r.moves (heard-agrees before inside rest till chunk now place) r.lawful).run r.begins.idle.round;
}
  where
    log : List Turn
    log = before ++ HeardTill till chunk ∷ []

    u : View
    u = heard-view before inside rest till chunk now place

    u_stands : Stands log u
    u_stands = stands-more before (place-view before inside rest till chunk now place) (Make (HeardTill till chunk) ∷ []) (split-stands before (HeardTill till chunk) (inside ++ Polled now ∷ rest) place.course) (place.course.allowed, tt)

same-rest : (first one other : List (List ℕ)) → first ++ one ≡ first ++ other → one ≡ other
same-rest [] one other e = e
same-rest (x ∷ first) one other e = same-rest first one other (let n : x ∷ (first ++ one) ≡ x ∷ (first ++ other) = e in cc)

abbrev heard-items : (before inside rest : List Turn) (till : ℕ) (chunk : List ℕ) (now : ℤ) → Place before inside rest till chunk now → List RoundItem
heard-items before inside rest till chunk now place = till_bytes_items till (heard_on (place-view before inside rest till chunk now place).scene.outside.tills till) chunk

brings-frames : (before inside rest : List Turn) (till : ℕ) (chunk : List ℕ) (now : ℤ) (new : List (List ℕ)) (left : List ℕ) (place : Place before inside rest till chunk now) (said : HasFramed (place-view before inside rest till chunk now place).scene.outside till chunk new left)
    → BringsFrames till said.before (said.before ++ new) said.rest left (heard-items before inside rest till chunk now place)
brings-frames before inside rest till chunk now new left place said =
    let v = place-view before inside rest till chunk now place in
    let heard : List ℕ = heard_on v.scene.outside.tills till in
    let small : AreBytes (heard ++ chunk) = bytes-append heard chunk (heard-bytes v.scene.outside.tills till (stands-bytes before v (split-stands before (HeardTill till chunk) (inside ++ Polled now ∷ rest) place.course)).tills) place.course.allowed.1.bytes in
    till-bytes-give till heard chunk said.before (said.before ++ new) said.rest left small said.spelled said.all

-- the items of messages, split at one
messages-split : (till : ℕ) (earlier : List (List ℕ)) (payload : List ℕ) (later : List (List ℕ)) (last : List RoundItem) → map (Message till) (earlier ++ payload ∷ later) ++ last ≡ map (Message till) earlier ++ Message till payload ∷ (map (Message till) later ++ last)
messages-split till earlier payload later last = ap (λ l. l ++ last) (map-append (Message till) earlier (payload ∷ later)) ∙ append_assoc (map (Message till) earlier) (Message till payload ∷ map (Message till) later) last

message-alone : (before inside rest : List Turn) (till : ℕ) (chunk : List ℕ) (now : ℤ) (payload : List ℕ) (as_read : ReadAs) (later : List (List ℕ)) (items : List RoundItem) (place : Place before inside rest till chunk now) → IsReadOutside as_read → AreAfterMessage till later items
    → ReachesMessage (heard-view before inside rest till chunk now place) till payload as_read items inside (Polled now ∷ rest) → MessageChangesNoBooks (before ++ HeardTill till chunk ∷ []) inside (Polled now ∷ rest) till payload as_read later
message-alone before inside rest till chunk now payload as_read later items place outside after_is (inl asked) =
    record { item = Asked till as_read; item_is = inl refl; items = items; after = after_is; handled = by_there (is_connected f.view.scene.outside.tills till) refl }
  where
    log : List Turn
    log = before ++ HeardTill till chunk ∷ []

    f : ItemBegins before inside rest till chunk now (Asked till as_read) items
    f = item-begins before inside rest till chunk now (Asked till as_read) items place asked

    known : Known
    known = known_in f.view.scene f.has.setup

    by_there : (there : Bool) → is_connected f.view.scene.outside.tills till ≡ there → ChangesNoBooks log inside (Polled now ∷ rest) (Asked till as_read) items items (TillOutcome till (Asked till as_read))
    by_there true there =
        let row = asked-is f.view.scene.outside.tills known till as_read outside there in
        replied-handled log inside rest till now (Asked till as_read) items row.0 f.first f.second f.view f.inside_is f.stands f.begins f.items_are f.stage f.round there
        (owes-row f.view (Asked till as_read) items (SendTill till row.0 ∷ []) f.second (Polled now ∷ rest) f.has f.items_are f.stage row.1 f.onward)
    by_there false gone =
        gone-handled log inside (Polled now ∷ rest) till (Asked till as_read) items f.first f.second f.view f.inside_is f.stands f.begins f.items_are gone
        (owes-row f.view (Asked till as_read) items [] f.second (Polled now ∷ rest) f.has f.items_are f.stage (ap (λ b. owing_where b known (asked_row known till as_read)) gone) f.onward)
message-alone before inside rest till chunk now payload as_read later items place outside after_is (inr unread) =
    record {
      item = Message till payload;
      item_is = inr refl;
      items = items;
      after = after_is;
      handled =
          gone-handled (before ++ HeardTill till chunk ∷ []) inside (Polled now ∷ rest) till (Message till payload) items f.first f.second f.view f.inside_is f.stands f.begins f.items_are gone
          (owes-row f.view (Message till payload) items [] f.second (Polled now ∷ rest) f.has f.items_are f.stage refl f.onward);
    }
  where
    f : ItemBegins before inside rest till chunk now (Message till payload) items
    f = item-begins before inside rest till chunk now (Message till payload) items place unread

    gone : is_connected f.view.scene.outside.tills till ≡ false
    gone = not-true (is_connected f.view.scene.outside.tills till) (sym (ap (may_begin f.view.scene) f.items_are) ∙ f.begins.first)

pub each-message-changes-no-books : EachMessageChangesNoBooks
each-message-changes-no-books before inside rest till chunk now earlier later payload left as_read lawful round said reads outside =
    message-alone before inside rest till chunk now payload as_read later items place outside (record { last = brings.last; last_are = last_are (there.all).ended; core = core; items_are = refl })
    (reaches-message till payload as_read items now rest reads (heard-view before inside rest till chunk now place) place.course.onward.moves inside (map (Message till) earlier) (heard-agrees before inside rest till chunk now place) refl brought place.course.onward.lawful place.course.onward.turns_are round)
  where
    place : Place before inside rest till chunk now
    place = record { course = split-log before (HeardTill till chunk) (inside ++ Polled now ∷ rest) lawful; round = round }

    core : Core
    core = (place-view before inside rest till chunk now place).scene.core

    there : HasFramed (place-view before inside rest till chunk now place).scene.outside till chunk (earlier ++ payload ∷ later) left
    there = subst (λ o. HasFramed o till chunk (earlier ++ payload ∷ later) left) (sym (split-outside before (HeardTill till chunk) (inside ++ Polled now ∷ rest) place.course)) said

    brings : BringsFrames till there.before (there.before ++ (earlier ++ payload ∷ later)) there.rest left (heard-items before inside rest till chunk now place)
    brings = brings-frames before inside rest till chunk now (earlier ++ payload ∷ later) left place there

    items : List RoundItem
    items = (map (Message till) later ++ brings.last) ++ items_due core

    last_are : IsFrameRest left → (brings.last ≡ []) ⊎ (brings.last ≡ Unframed till ∷ [])
    last_are (inl incomplete) = inl (brings.incomplete incomplete)
    last_are (inr bad) = inr (brings.bad bad)

    same : earlier ++ payload ∷ later ≡ brings.new
    same = same-rest there.before (earlier ++ payload ∷ later) brings.new brings.completed

    brought : (heard-view before inside rest till chunk now place).items ≡ map (Message till) earlier ++ Message till payload ∷ items
    brought =
        ap (λ l. l ++ items_due core) (brings.items_are ∙ ap (λ l. map (Message till) l ++ brings.last) (sym same) ∙ messages-split till earlier payload later brings.last)
        ∙ append_assoc (map (Message till) earlier) (Message till payload ∷ (map (Message till) later ++ brings.last)) (items_due core)

frame-alone : (before inside rest : List Turn) (till : ℕ) (chunk : List ℕ) (now : ℤ) (items : List RoundItem) (f : ItemBegins before inside rest till chunk now (Unframed till) items)
    → ChangesNoBooks (before ++ HeardTill till chunk ∷ []) inside (Polled now ∷ rest) (Unframed till) items items (TillOutcome till (Unframed till))
frame-alone before inside rest till chunk now items f = by_there (is_connected f.view.scene.outside.tills till) refl
  where
    log : List Turn
    log = before ++ HeardTill till chunk ∷ []

    known : Known
    known = known_in f.view.scene f.has.setup

    by_there : (there : Bool) → is_connected f.view.scene.outside.tills till ≡ there → ChangesNoBooks log inside (Polled now ∷ rest) (Unframed till) items items (TillOutcome till (Unframed till))
    by_there true there =
        cut-handled log inside rest till now (Unframed till) items f.first f.second f.view f.inside_is f.stands f.begins f.items_are f.stage f.round there
        (owes-row f.view (Unframed till) items (OwedCutTill till ∷ []) f.second (Polled now ∷ rest) f.has f.items_are f.stage (ap (λ b. owing_where b known (owing known (OwedCutTill till ∷ []))) there) f.onward)
    by_there false gone =
        gone-handled log inside (Polled now ∷ rest) till (Unframed till) items f.first f.second f.view f.inside_is f.stands f.begins f.items_are gone
        (owes-row f.view (Unframed till) items [] f.second (Polled now ∷ rest) f.has f.items_are f.stage (ap (λ b. owing_where b known (owing known (OwedCutTill till ∷ []))) gone) f.onward)

pub each-frame-changes-no-books : EachFrameChangesNoBooks
each-frame-changes-no-books before inside rest till chunk now new left lawful round said bad =
    record { core = core; handled = frame-alone before inside rest till chunk now (items_due core) (item-begins before inside rest till chunk now (Unframed till) (items_due core) place reached) }
  where
    place : Place before inside rest till chunk now
    place = record { course = split-log before (HeardTill till chunk) (inside ++ Polled now ∷ rest) lawful; round = round }

    core : Core
    core = (place-view before inside rest till chunk now place).scene.core

    there : HasFramed (place-view before inside rest till chunk now place).scene.outside till chunk new left
    there = subst (λ o. HasFramed o till chunk new left) (sym (split-outside before (HeardTill till chunk) (inside ++ Polled now ∷ rest) place.course)) said

    brings : BringsFrames till there.before (there.before ++ new) there.rest left (heard-items before inside rest till chunk now place)
    brings = brings-frames before inside rest till chunk now new left place there

    brought : (heard-view before inside rest till chunk now place).items ≡ map (Message till) brings.new ++ Unframed till ∷ items_due core
    brought = ap (λ l. l ++ items_due core) (brings.items_are ∙ ap (λ l. map (Message till) brings.new ++ l) (brings.bad bad)) ∙ append_assoc (map (Message till) brings.new) (Unframed till ∷ []) (items_due core)

    reached : Reaches (heard-view before inside rest till chunk now place) (Unframed till) (items_due core) inside (Polled now ∷ rest)
    reached = reaches (Unframed till) (items_due core) now rest refl (heard-view before inside rest till chunk now place) place.course.onward.moves inside (map (Message till) brings.new) (heard-agrees before inside rest till chunk now place) refl brought place.course.onward.lawful place.course.onward.turns_are round
