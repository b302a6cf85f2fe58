-- What is owed over a round.
use Rattle.std.proofs.Common.{◌≡◌, ℕ, zero, suc, ◌+◌, ◌<◌, ◌≤◌, List, [], ◌∷◌, ◌++◌, length, get_or, refl, sym, ◌∙◌, ap, subst, arith, inl, inr}
use Rattle.std.specs.Prelude.{ℤ, map, true, false, Some, None, Result, Ok, Err, option_map, slice_get, slice_set, take, unwrap_or}
use Rattle.std.proofs.lemmas.Bool.{lt-ltb, le-ltb}
use Rattle.std.proofs.lemmas.List.{length-map}
use Rattle.gw_base.specs.declared.setup.Pt.{Pt}
use Rattle.gw_base.specs.declared.key.Key.{Key}
use Rattle.gw_base.specs.declared.setup.Setup.{Setup}
use Rattle.gw_site.specs.Outside.{Outside, Connection, outside_after, is_connected, heard_on, without, new_connection}
use Rattle.gw_site.specs.declared.turn.Turn.TheVariants.{Polled, Opened, HeardTill, Closed, HeardPt, Lost, CutTill as TillCut}
use Rattle.gw_site.specs.declared.site.What.{What}
use Rattle.gw_site.specs.declared.site.What.TheVariants.{TillOpened, TillBytes, TillClosed, PtBytes, PtClosed, Nothing, Stopped as StopEvent}
use Rattle.gw_site.specs.Observed.{Observed, Grows, IsStep}
use Rattle.gw_site.specs.Steps.{CutTillCall}
use Rattle.gw_site.specs.Turns.{IsTurn}
use Rattle.jrn_record.specs.declared.records.Record.{Record}
use Rattle.sale_frame.specs.Decode.{DecodedFrames, decode_frames}
use Rattle.sale_frame.specs.Grammar.{IsIncompleteFrame}
use Rattle.gw_owes.specs.Calls.{CutTill}
use Rattle.gw_owes.specs.Core.{Core, Wait, new_core, new_terminal}
use Rattle.gw_owes.specs.Events.{decoded_items, till_bytes_items, till_opened_items, pt_bytes_items, for_each_terminal, waits_by_deadline, items_due}
use Rattle.gw_owes.specs.Items.{RoundItem, Crowded, Gone as GoneItem, LinkLost, Late, Overdue, Due}
use Rattle.gw_owes.specs.Row.{Known}
use Rattle.gw_owes.specs.Terminals.{core_without, forgets_till}
use Rattle.gw_owes.specs.declared.terminal.Terminal.{Terminal}
use Rattle.gw_owes.proofs.FrameLemmas.{incomplete-waits, reading-chunk, reading-waiting, rest-chunk}
use Rattle.gw_rules.specs.Lawful.{IsIdle}
use Rattle.gw_rules.specs.Scene.{Scene}
use Rattle.gw_rules.specs.Stage.{Stage, Resting, Opening, Looking, AtPoll, Handling, Over, Broken, is_broken, is_round, is_running}
use Rattle.gw_rules.specs.View.{View, polled, at_event, at_first, till_cut}
use Rattle.gw_rules.specs.Triple.{Triple, Owing, AtEvent}
use Rattle.gw_rules.proofs.TripleLemmas.{triple-refl, triple-then, triple-weaker, triple-after, triple-before, triple-frame, triple-some}
use Rattle.gw_rules.proofs.CallLemmas.{cut-till-triple}
use Rattle.gw_dispatch.specs.RunState.{gateway_of}
use Rattle.gw_dispatch.specs.MidRound.{AllHear, AreHeard, AreLinked, AreReady, HeldRound, MidRound, due_items, each_terminal, is_linked_in, keys_waiting, overdue_items}
use Rattle.gw_dispatch.specs.Round.{HoldsTills, IsIn, InRound, known_at}
use Rattle.gw_dispatch.specs.Serving.{AfterFault, AfterTill, held_without, items_of}
use Rattle.gw_dispatch.specs.RecordsOpening.{HasOpened, LacksMemory}
use Rattle.gw_dispatch.specs.Rounds.{HasStopped, MatchesOutside, IsHeldRun, IsBetweenRounds, IsPolled, IsRunOpened, BeforeChunk, BeforeOpen, BeforePtBytes, BeforePtEnd, due_in, known_by}
use Rattle.gw_dispatch.specs.RunEnd.{EndedBy, KeptBy}
use Rattle.gw_dispatch.specs.Tills.{AreBelow, OthersStillHold, AreWaiting, bytes_held, others, rank, reader_of, rested, till_of}
use Rattle.gw_dispatch.specs.declared.engine.Dispatch.{Dispatch}
use Rattle.gw_dispatch.specs.declared.engine.Ended.{Ended}
use Rattle.gw_dispatch.specs.declared.engine.Ended.TheVariants.{Done}
use Rattle.gw_dispatch.specs.declared.fault.TurnFault.{TurnFault}
use Rattle.gw_dispatch.specs.declared.records.Records.{Records}
use Rattle.gw_dispatch.specs.declared.run_state.RunState.{RunState}
use Rattle.gw_dispatch.specs.declared.tills.Till.{Till}
use Rattle.gw_dispatch.proofs.ReaderLemmas.{IsAt, rank-rested, reader-rested, rested-others, rested-push, till-at}
use Rattle.gw_dispatch.proofs.ServeLemmas.{waiting-items}
use Rattle.gw_dispatch.proofs.TillLemmas.{rank-held-none, rank-held-open, found, others-held, below-hears, below-without, below-push, below-closed, below-up, without-new, held-push, length-held}
use Rattle.gw_dispatch.proofs.EngineLemmas.{some-scene, begin-first, cut-in, known_without, round-idle}
use Rattle.gw_dispatch.proofs.FitLemmas.{Fit, are-heard, fit-heard, heard_by, hears-at}

never : (s : Observed) (P Q : View → Type 0) → ((v : View) → P v → ⊥) → Triple s s P Q
never s P Q no_way = triple-weaker s s P P P Q (λ v p. p) (λ v p. absurd (no_way v p)) (triple-refl s P)

-- ---- memory

-- memory was refused, and no call was made
pub no-memory : (s : Observed) (P Q : View → Type 0) → ((v : View) → P v → Q v) → Triple s s P Q
no-memory s P Q holds = triple-after s s P P Q (triple-refl s P) holds

-- no call is owed as a chunk of a till comes
pub chunk-idle : (setup : Setup) (dispatch : Dispatch) (polls : ℕ) (now : ℤ) (till : ℕ) (chunk : List ℕ) (v : View) → BeforeChunk setup dispatch polls now till chunk v → IsIdle v
chunk-idle setup dispatch polls now till chunk v p = let b = p.1 in round-idle _ _ _ _ v b.round

-- nor as a till opens
pub open-idle : (setup : Setup) (dispatch : Dispatch) (polls : ℕ) (now : ℤ) (till : ℕ) (v : View) → BeforeOpen setup dispatch polls now till v → IsIdle v
open-idle setup dispatch polls now till v p = let b = p.1 in round-idle _ _ _ _ v b.round

round-clear : (stage : Stage) → is_round stage ≡ true → is_broken stage ≡ false
round-clear Resting e = refl
round-clear (Opening refused) e = refl
round-clear (Looking refused) e = refl
round-clear AtPoll e = refl
round-clear Handling e = refl
round-clear Over e = refl
round-clear Broken e = absurd cc

running-clear : (stage : Stage) → is_running stage ≡ true → is_broken stage ≡ false
running-clear Resting e = refl
running-clear (Opening refused) e = refl
running-clear (Looking refused) e = refl
running-clear AtPoll e = refl
running-clear Handling e = refl
running-clear Over e = refl
running-clear Broken e = absurd cc

-- a round in which no call is owed may end the run so
pub idle-lacks : (v : View) → IsIdle v → LacksMemory v
idle-lacks v idle = record { clear = round-clear v.scene.stage idle.round; calls = λ e. idle.calls }

-- so may a run whose opening is done
pub opened-lacks : (setup : Setup) (records : Records) (v : View) → HasOpened setup records v → LacksMemory v
opened-lacks setup records v h = lacks h.opened
  where
    lacks : IsRunOpened setup v → LacksMemory v
    lacks (scene, is, n) = subst LacksMemory (sym is) (record { clear = running-clear scene.stage n.running; calls = λ e. refl })

-- ---- the terminals that are remembered

due-each : (item : ℕ → RoundItem) (number : ℕ) (terminals : List Terminal) → for_each_terminal number item terminals ≡ each_terminal number (length terminals) item
due-each item number [] = refl
due-each item number (terminal ∷ terminals) = ap (λ items. item number ∷ items) (due-each item (number + 1) terminals)

overdue-each : (waits : List Wait) → map (λ (wait : Wait). Overdue wait.key) waits ≡ overdue_items (map (λ (wait : Wait). wait.key) waits)
overdue-each [] = refl
overdue-each (wait ∷ waits) = ap (λ items. Overdue wait.key ∷ items) (overdue-each waits)

-- what may be due goes by the count of the terminals, and the keys of the requests that wait
due-are : (core : Core) → items_due core ≡ due_items (length core.terminals) (keys_waiting core)
due-are core =
    ap (λ late. late ++ (map (λ (wait : Wait). Overdue wait.key) (waits_by_deadline core.waits) ++ for_each_terminal 0 Due core.terminals)) (due-each Late 0 core.terminals)
    ∙ ap (λ overdue. each_terminal 0 (length core.terminals) Late ++ (overdue ++ for_each_terminal 0 Due core.terminals)) (overdue-each (waits_by_deadline core.waits))
    ∙ ap (λ due. each_terminal 0 (length core.terminals) Late ++ (overdue_items (keys_waiting core) ++ due)) (due-each Due 0 core.terminals)

-- a till that is forgotten changes no link
linked-forgotten : (till : ℕ) (terminals : List Terminal) (number : ℕ) → is_linked_in (slice_get (map (forgets_till till) terminals) number) ≡ is_linked_in (slice_get terminals number)
linked-forgotten till [] number = refl
linked-forgotten till (terminal ∷ terminals) zero = refl
linked-forgotten till (terminal ∷ terminals) (suc number) = linked-forgotten till terminals number

pub linked-without : (core : Core) (till : ℕ) (o after : Outside) → after.links ≡ o.links → AreLinked core o → AreLinked (core_without core till) after
linked-without core till o after same linked number = ap (λ links. is_connected links number) same ∙ linked number ∙ sym (linked-forgotten till core.terminals number)

-- as a run begins none is linked
linked-new : (pts : List Pt) (number : ℕ) → false ≡ is_linked_in (slice_get (map new_terminal pts) number)
linked-new [] number = refl
linked-new (pt ∷ pts) zero = refl
linked-new (pt ∷ pts) (suc number) = linked-new pts number

pub linked-within : (terminals : List Terminal) (number : ℕ) → length terminals ≤ number → is_linked_in (slice_get terminals number) ≡ false
linked-within [] number le = refl
linked-within (terminal ∷ terminals) zero le = absurd (omega (arith, le))
linked-within (terminal ∷ terminals) (suc number) le = linked-within terminals number (omega (arith, le))

-- where a terminal isn't linked the log has no link of it
no-link : (core : Core) (o : Outside) (number : ℕ) → AreLinked core o → is_connected o.links number ≡ true → is_linked_in (slice_get core.terminals number) ≡ false → ⊥
no-link core o number linked connected unlinked = let h : false ≡ true = sym unlinked ∙ sym (linked number) ∙ connected in cc

-- ---- what was handled

-- what the event has brought was handled, and what may be due comes; this is held
abbrev pub HandledWith : Setup → Core → List Record → List (List ℕ) → List Till → ℕ → ℤ → View → Type 0
HandledWith setup core kept readers tills polls now v = (keys : List Key) × MidRound setup core kept tills polls now (AllHear readers) [] (due_items (length core.terminals) keys) v

-- once a till was forgotten
handled-without : (setup : Setup) (kept : List Record) (tills : List Till) (polls : ℕ) (now : ℤ) (core new_core : Core) (readers new_readers : List (List ℕ)) (till : ℕ) → new_core ≡ core_without core till → new_readers ≡ readers → (keys : List Key) →
    (v : View) → MidRound setup (core_without core till) kept tills polls now (AllHear readers) [] (due_items (length core.terminals) keys) v → HandledWith setup new_core kept new_readers tills polls now v
handled-without setup kept tills polls now core new_core readers new_readers till forgot same keys v h =
    subst (λ c. HandledWith setup c kept new_readers tills polls now v) (sym forgot)
    (subst (λ r. HandledWith setup (core_without core till) kept r tills polls now v) (sym same)
    (keys, subst (λ count. MidRound setup (core_without core till) kept tills polls now (AllHear readers) [] (due_items count keys) v) (sym (length-map core.terminals (forgets_till till))) h))

-- ---- a chunk

-- an outside is wanted where the site is dark
no_outside : Outside
no_outside = at_first.scene.outside

-- a till that isn't held sends nothing
pub chunk-unheld : (s : Observed) (setup : Setup) (dispatch : Dispatch) (polls : ℕ) (now : ℤ) (number : ℕ) (chunk : List ℕ) (Q : View → Type 0) → rank number dispatch.tills.list.items ≡ None → Triple s s (BeforeChunk setup dispatch polls now number chunk) Q
chunk-unheld s setup dispatch polls now number chunk Q none = never s _ Q (λ v p.
    let b = p.1 in
    let h : false ≡ true = sym (rank-held-none p.0.tills number (ap (rank number) (sym b.matches.tills_are.tills_are) ∙ rank-rested number dispatch.tills.list.items ∙ none)) ∙ b.connected in absurd cc)

-- what is held hears what its readers hold, where as many terminals are there
hear-again : (setup : Setup) (core : Core) (kept : List Record) (tills : List Till) (polls : ℕ) (now : ℤ) (readers : List (List ℕ)) (o : Outside) (items : List RoundItem) (v : View) → length readers ≡ length core.terminals → Fit readers (heard_by readers o) →
    MidRound setup core kept tills polls now (AreHeard (heard_by readers o)) [] items v → MidRound setup core kept tills polls now (AllHear readers) [] items v
hear-again setup core kept tills polls now readers o items v count fits q = record {
  outside = q.outside;
  round = q.round;
  tills_are = q.tills_are;
  linked = q.linked;
  also = λ pt there. hears-at readers (heard_by readers o) core q.outside pt count q.linked q.also (fits pt) there;
}

-- what serves the till's bytes
abbrev pub Serves : Observed → Observed → RunState → RunState → List Till → List Till → ℤ → ℕ → Result (Unit {0}) TurnFault → Type 0
Serves a b old new tills left now number result = (setup : Setup) (polls : ℕ) (heard : ℕ → List ℕ) (items : List RoundItem) → gateway_of setup ≡ old.gateway →
    Triple a b (HeldRound setup old tills polls now (AreHeard heard) [] (items_of number tills ++ items)) (AfterTill result setup new left polls now (AreHeard heard) number items)

-- the till of this number, whose reader has been fed a chunk
module _ (dispatch : Dispatch) (number at : ℕ) (chunk : List ℕ) (till : Till) (ranked : rank number dispatch.tills.list.items ≡ Some at) (is : till ≡ get_or dispatch.tills.list.items at till) where
  abbrev held : List Till
  held = dispatch.tills.list.items

  abbrev pub fed : List Till
  fed = slice_set held at (record till { reader = till.reader ++ chunk })

  there-at : IsAt number held at till
  there-at = till-at number held at till ranked

  number-at : till.number ≡ number
  number-at = let there = there-at in ap (λ (t : Till). t.number) is ∙ there.number_is

  reader-at : reader_of number held ≡ Some till.reader
  reader-at = let there = there-at in there.reader ∙ ap (λ (t : Till). Some t.reader) (sym is)

  pub fed-bytes : bytes_held number fed ≡ till.reader ++ chunk
  fed-bytes = let there = there-at in ap (λ r. unwrap_or r []) (there.set_here (record till { reader = till.reader ++ chunk }) number-at)

  pub fed-others : OthersStillHold number held fed
  fed-others = let there = there-at in λ other apart. inl (there.set_apart (record till { reader = till.reader ++ chunk }) number-at other apart)

  -- it held the rest of what its connection had heard
  held-rest : AreWaiting held → (o : Outside) → HoldsTills held o → till.reader ≡ (decode_frames (heard_on o.tills number)).rest
  held-rest waiting o holds =
      let found_is = found o.tills number at chunk (ap (rank number) (sym holds.tills_are) ∙ rank-rested number held ∙ ranked) in
      let there : IsAt number (map till_of o.tills) at till = till-at number (map till_of o.tills) at till (ap (rank number) (sym holds.tills_are) ∙ rank-rested number held ∙ ranked) in
      let waits : IsIncompleteFrame till.reader = subst (λ r. IsIncompleteFrame (unwrap_or r [])) reader-at (waiting number) in
      let one : Some (decode_frames till.reader).rest ≡ Some (decode_frames (heard_on o.tills number)).rest =
      sym (reader-rested number held ∙ ap (option_map (λ bytes. (decode_frames bytes).rest)) reader-at) ∙ ap (reader_of number) holds.tills_are ∙ there.reader ∙ ap (λ (t : Till). Some t.reader) (found_is.till till) in
      let same : (decode_frames till.reader).rest ≡ (decode_frames (heard_on o.tills number)).rest = cc in
      ap (λ (r : DecodedFrames). r.rest) (sym (reading-waiting till.reader (incomplete-waits till.reader waits))) ∙ same

  -- and holds what is still to be taken of what it has heard now
  fed-holds : AreWaiting held → (o : Outside) → HoldsTills held o → HoldsTills fed (outside_after o (HeardTill number chunk))
  fed-holds waiting o holds =
      let found_is = found o.tills number at chunk (ap (rank number) (sym holds.tills_are) ∙ rank-rested number held ∙ ranked) in
      let there = there-at in
      record {
        tills_are =
            there.rests (record till { reader = till.reader ++ chunk })
            ∙ ap (λ t. slice_set t at (rested (record till { reader = till.reader ++ chunk }))) holds.tills_are
            ∙ ap (λ n. slice_set (map till_of o.tills) at (record { number = n; reader = (decode_frames (till.reader ++ chunk)).rest })) number-at
            ∙ ap (λ r. slice_set (map till_of o.tills) at (record { number = number; reader = r })) (ap (λ r. (decode_frames (r ++ chunk)).rest) (held-rest waiting o holds) ∙ sym (rest-chunk (heard_on o.tills number) chunk))
            ∙ found_is.more;
        below = below-hears o.next_till o.tills number chunk holds.below;
      }

  fed-items : AreWaiting held → (o : Outside) → HoldsTills held o → till_bytes_items number (heard_on o.tills number) chunk ≡ items_of number fed
  fed-items waiting o holds =
      ap (decoded_items number) (sym (reading-chunk (heard_on o.tills number) chunk)) ∙ ap (λ r. decoded_items number (decode_frames (r ++ chunk))) (sym (held-rest waiting o holds)) ∙ ap (λ bytes. decoded_items number (decode_frames bytes)) (sym fed-bytes)

  -- the bytes of a till that is held
  chunk-held : (a b : Observed) (setup : Setup) (new : RunState) (left : List Till) (polls : ℕ) (now : ℤ) (result : Result (Unit {0}) TurnFault) (Q : View → Type 0) → AreReady dispatch.state.core dispatch.readers.items → AreWaiting held → gateway_of setup ≡ dispatch.state.gateway →
      Serves a b dispatch.state new fed left now number result →
      ((o : Outside) → Fit dispatch.readers.items (heard_by dispatch.readers.items o) → (v : View) → AfterTill result setup new left polls now (AreHeard (heard_by dispatch.readers.items o)) number (due_in dispatch) v → Q v) →
      Triple a b (BeforeChunk setup dispatch polls now number chunk) Q
  chunk-held a b setup new left polls now result Q ready waiting named served finish =
      triple-before a b _ _ _ open-up
      (triple-some a b (λ (o : Outside) v. Waits o v × Fit dispatch.readers.items (heard_by dispatch.readers.items o)) Q no_outside
      (λ o. triple-after a b _ _ _ (triple-frame a b _ _ (Fit dispatch.readers.items (heard_by dispatch.readers.items o)) (served setup polls (heard_by dispatch.readers.items o) (due_in dispatch) named)) (λ v q. finish o q.1 v q.0)))
    where
      Waits : Outside → View → Type 0
      Waits o v = HeldRound setup dispatch.state fed polls now (AreHeard (heard_by dispatch.readers.items o)) [] (items_of number fed ++ due_in dispatch) v

      open-up : (v : View) → BeforeChunk setup dispatch polls now number chunk v → (o : Outside) × (Waits o v × Fit dispatch.readers.items (heard_by dispatch.readers.items o))
      open-up v (o, b) = (
        o,
        (
          record {
            outside = outside_after o (HeardTill number chunk);
            round = subst (λ list. InRound (known_by setup dispatch now) polls (outside_after o (HeardTill number chunk)) (list ++ due_in dispatch) v) (fed-items waiting o b.matches.tills_are) b.round;
            tills_are = fed-holds waiting o b.matches.tills_are;
            linked = b.matches.linked;
            also = are-heard dispatch.readers.items o;
          },
          fit-heard dispatch.readers.items o ready.waits b.matches.hear,
        ),
      )

  -- once they were served
  pub chunk-served : (a b : Observed) (setup : Setup) (new : RunState) (left : List Till) (polls : ℕ) (now : ℤ) (done : Unit {0}) → AreReady dispatch.state.core dispatch.readers.items → AreWaiting held → gateway_of setup ≡ dispatch.state.gateway →
      length new.core.terminals ≡ length dispatch.state.core.terminals → IsIncompleteFrame (bytes_held number left) → Serves a b dispatch.state new fed left now number (Ok done) →
      Triple a b (BeforeChunk setup dispatch polls now number chunk) (HandledWith setup new.core new.records.ledger.records dispatch.readers.items left polls now)
  chunk-served a b setup new left polls now done ready waiting named count waits served = chunk-held a b setup new left polls now (Ok done) _ ready waiting named served (λ o fits v q. (
    keys_waiting dispatch.state.core,
    subst (λ count. MidRound setup new.core new.records.ledger.records left polls now (AllHear dispatch.readers.items) [] (due_items count (keys_waiting dispatch.state.core)) v) (sym count)
        (hear-again setup new.core new.records.ledger.records left polls now dispatch.readers.items o (due_in dispatch) v (ready.count ∙ sym count) fits
        (waiting-items setup new.core new.records.ledger.records left polls now (AreHeard (heard_by dispatch.readers.items o)) number (due_in dispatch) v waits q)),
  ))

  -- after a fault
  pub chunk-failed : (a b : Observed) (setup : Setup) (new : RunState) (left : List Till) (polls : ℕ) (now : ℤ) (fault : TurnFault) → AreReady dispatch.state.core dispatch.readers.items → AreWaiting held → gateway_of setup ≡ dispatch.state.gateway →
      Serves a b dispatch.state new fed left now number (Err fault) → Triple a b (BeforeChunk setup dispatch polls now number chunk) (AfterFault fault)
  chunk-failed a b setup new left polls now fault ready waiting named served = chunk-held a b setup new left polls now (Err fault) _ ready waiting named served (λ o fits v q. q)

-- ---- a till opens

-- a till that is held already doesn't open
pub open-held : (s : Observed) (setup : Setup) (dispatch : Dispatch) (polls : ℕ) (now : ℤ) (number at : ℕ) (Q : View → Type 0) → rank number dispatch.tills.list.items ≡ Some at → Triple s s (BeforeOpen setup dispatch polls now number) Q
open-held s setup dispatch polls now number at Q ranked = never s _ Q (λ v p.
    let o = p.0 in
    let b = p.1 in
    let h : false ≡ true = sym (below-closed o.next_till number o.tills b.matches.tills_are.below b.above) ∙ rank-held-open o.tills number at (ap (rank number) (sym b.matches.tills_are.tills_are) ∙ rank-rested number dispatch.tills.list.items ∙ ranked) in absurd cc)

items-few : (number : ℕ) (connections : List Connection) → length connections < 64 → till_opened_items number connections ≡ []
items-few number connections lt = rw (lt-ltb (length connections) 64 lt) refl

items-many : (number : ℕ) (connections : List Connection) → 64 ≤ length connections → till_opened_items number connections ≡ Crowded number ∷ []
items-many number connections le = rw (le-ltb (length connections) 64 le) refl

-- a till opens
pub open-taken : (s : Observed) (setup : Setup) (dispatch : Dispatch) (new : List Till) (polls : ℕ) (now : ℤ) (number : ℕ) → length dispatch.tills.list.items < 64 → new ≡ dispatch.tills.list.items ++ record { number = number; reader = [] } ∷ [] →
    Triple s s (BeforeOpen setup dispatch polls now number) (HandledWith setup dispatch.state.core dispatch.state.records.ledger.records dispatch.readers.items new polls now)
open-taken s setup dispatch new polls now number few is = triple-after s s _ _ _ (triple-refl s (BeforeOpen setup dispatch polls now number)) (λ v p.
    let o = p.0 in
    let b = p.1 in
    let l : length o.tills < 64 = (let k : length dispatch.tills.list.items ≡ length o.tills = sym (length-map dispatch.tills.list.items rested) ∙ ap length b.matches.tills_are.tills_are ∙ length-held o.tills in omega arith) in (
      keys_waiting dispatch.state.core,
      record {
        outside = outside_after o (Opened number);
        round = subst (λ list. InRound (known_by setup dispatch now) polls (outside_after o (Opened number)) (list ++ due_in dispatch) v) (items-few number o.tills l) b.round;
        tills_are = record {
          tills_are = ap (map rested) is ∙ rested-push dispatch.tills.list.items (record { number = number; reader = [] }) ∙ ap (λ t. t ++ record { number = number; reader = [] } ∷ []) b.matches.tills_are.tills_are ∙ sym (held-push o.tills number);
          below = below-push o.next_till number o.tills b.matches.tills_are.below b.above;
        };
        linked = b.matches.linked;
        also = b.matches.hear;
      },
    ))

-- a till that opens while as many are there as may be is cut, and forgotten
pub open-crowded : (a b : Observed) (setup : Setup) (dispatch : Dispatch) (new_core : Core) (new_readers : List (List ℕ)) (polls : ℕ) (now : ℤ) (number : ℕ) → 64 ≤ length dispatch.tills.list.items →
    new_core ≡ core_without dispatch.state.core number → new_readers ≡ dispatch.readers.items → Grows a b (IsTurn (TillCut number)) → IsStep a b (CutTillCall number) →
    Triple a b (BeforeOpen setup dispatch polls now number) (HandledWith setup new_core dispatch.state.records.ledger.records new_readers dispatch.tills.list.items polls now)
open-crowded a b setup dispatch new_core new_readers polls now number many forgot same grows step =
    triple-before a b _ _ _ open-up
    (triple-some a b (λ (o : Outside) v. InRound knows polls (after o) (Crowded number ∷ due_in dispatch) v × IsFull o) (HandledWith setup new_core dispatch.state.records.ledger.records new_readers dispatch.tills.list.items polls now) no_outside
    (λ o. triple-after a b _ _ _ (triple-frame a b _ _ (IsFull o) (triple-then a a b _ _ _
    (begin-first a knows polls (after o) (Crowded number) (due_in dispatch) dispatch.state.core (CutTill number ∷ []) (record { begins = λ scene e. refl; row = refl }))
    (some-scene a b knows polls (after o) (CutTill number ∷ []) (due_in dispatch) (InRound (known_without knows number) polls (outside_after (after o) (TillCut number)) (due_in dispatch)) (λ scene.
    triple-after a b _ _ _ (triple-frame a b _ _ (IsIn knows polls (after o) scene) (cut-till-triple scene (due_in dispatch) a b number grows step)) (λ v q. (till_cut scene number, q.0, cut-in knows polls (after o) number scene q.1))))))
    (λ v q. closed o v q.0 q.1)))
  where
    knows : Known
    knows = known_by setup dispatch now

    after : Outside → Outside
    after o = outside_after o (Opened number)

    IsFull : Outside → Type 0
    IsFull o = MatchesOutside dispatch o × (o.next_till ≤ number)

    open-up : (v : View) → BeforeOpen setup dispatch polls now number v → (o : Outside) × (InRound knows polls (after o) (Crowded number ∷ due_in dispatch) v × IsFull o)
    open-up v (o, b) =
        let l : 64 ≤ length o.tills = (let k : length dispatch.tills.list.items ≡ length o.tills = sym (length-map dispatch.tills.list.items rested) ∙ ap length b.matches.tills_are.tills_are ∙ length-held o.tills in omega arith) in
        (o, (subst (λ list. InRound knows polls (after o) (list ++ due_in dispatch) v) (items-many number o.tills l) b.round, (b.matches, b.above)))

    closed : (o : Outside) (v : View) → InRound (known_without knows number) polls (outside_after (after o) (TillCut number)) (due_in dispatch) v → IsFull o → HandledWith setup new_core dispatch.state.records.ledger.records new_readers dispatch.tills.list.items polls now v
    closed o v q full =
        let unchanged : without (o.tills ++ new_connection number ∷ []) number ≡ o.tills = without-new o.tills number (below-closed o.next_till number o.tills full.0.tills_are.below full.1) in
        handled-without setup dispatch.state.records.ledger.records dispatch.tills.list.items polls now dispatch.state.core new_core dispatch.readers.items new_readers number forgot same (keys_waiting dispatch.state.core) v (record {
          outside = outside_after (after o) (TillCut number);
          round = q;
          tills_are = record {
            tills_are = full.0.tills_are.tills_are ∙ ap (map till_of) (sym unchanged);
            below = rw unchanged (below-up o.next_till (number + 1) o.tills full.0.tills_are.below (omega (arith, full.1)));
          };
          linked = linked-without dispatch.state.core number o (outside_after (after o) (TillCut number)) refl full.0.linked;
          also = full.0.hear;
        })

-- ---- a terminal

-- a terminal that isn't linked sends nothing
pub pt-unheld : (s : Observed) (setup : Setup) (dispatch : Dispatch) (polls : ℕ) (now : ℤ) (pt : ℕ) (chunk : List ℕ) (Q : View → Type 0) → is_linked_in (slice_get dispatch.state.core.terminals pt) ≡ false → Triple s s (BeforePtBytes setup dispatch polls now pt chunk) Q
pt-unheld s setup dispatch polls now pt chunk Q unlinked = never s _ Q (λ v p. no-link dispatch.state.core p.0 pt p.1.linked p.1.connected unlinked)

-- nor does it close its connection
pub pt-unheld-end : (s : Observed) (setup : Setup) (dispatch : Dispatch) (polls : ℕ) (now : ℤ) (pt : ℕ) (Q : View → Type 0) → is_linked_in (slice_get dispatch.state.core.terminals pt) ≡ false → Triple s s (BeforePtEnd setup dispatch polls now pt) Q
pt-unheld-end s setup dispatch polls now pt Q unlinked = never s _ Q (λ v p. no-link dispatch.state.core p.0 pt p.1.linked p.1.connected unlinked)

-- what is handled of a terminal leaves as many terminals, so that the same may be due
pub pt-handled : (a b : Observed) (P : View → Type 0) (setup : Setup) (core new_core : Core) (kept : List Record) (readers : List (List ℕ)) (tills : List Till) (polls : ℕ) (now : ℤ) → length new_core.terminals ≡ length core.terminals → (keys : List Key) →
    Triple a b P (MidRound setup new_core kept tills polls now (AllHear readers) [] (due_items (length core.terminals) keys)) → Triple a b P (HandledWith setup new_core kept readers tills polls now)
pt-handled a b P setup core new_core kept readers tills polls now count keys k = triple-after a b _ _ _ k (λ v q. (keys, subst (λ n. MidRound setup new_core kept tills polls now (AllHear readers) [] (due_items n keys) v) (sym count) q))

-- ---- a poll

-- a poll between two rounds
pub rest-polled : (a b : Observed) (setup : Setup) (dispatch : Dispatch) (polls : ℕ) (now : ℤ) (what : What) (buf : List ℕ) →
    ((scene : Scene) → Triple a b (λ v. Owing scene [] [] v × (is_running scene.stage ≡ true)) (AtEvent scene now what buf)) → Triple a b (IsBetweenRounds setup dispatch polls) (IsPolled setup dispatch polls now what buf)
rest-polled a b setup dispatch polls now what buf polls_keep =
    triple-before a b _ _ _ (λ v p. (p.0, ((p.1, p.2.running), p.2)))
    (triple-some a b (λ scene v. (Owing scene [] [] v × (is_running scene.stage ≡ true)) × IsHeldRun setup dispatch polls scene) _ at_first.scene
    (λ scene. triple-after a b _ _ _ (triple-frame a b _ _ (IsHeldRun setup dispatch polls scene) (polls_keep scene)) (λ v q. (scene, q.0, q.1))))

-- an event of this kind, once it came
pub at-what : (s : Observed) (setup : Setup) (dispatch : Dispatch) (polls : ℕ) (now : ℤ) (what kind : What) (buf : List ℕ) (Q : View → Type 0) → what ≡ kind →
    ((scene : Scene) → IsHeldRun setup dispatch polls scene → (v : View) → AtEvent scene now kind buf v → Q v) → Triple s s (IsPolled setup dispatch polls now what buf) Q
at-what s setup dispatch polls now what kind buf Q e finish =
    triple-after s s _ _ _ (triple-refl s (IsPolled setup dispatch polls now what buf)) (λ v p. finish p.0 p.2 v (subst (λ w. AtEvent p.0 now w buf v) e p.1))

-- what is known once a poll came
known-polled : (setup : Setup) (dispatch : Dispatch) (polls : ℕ) (now : ℤ) (scene : Scene) → IsHeldRun setup dispatch polls scene → known_at setup scene.core scene.kept now ≡ known_by setup dispatch now
known-polled setup dispatch polls now scene k = ap (λ core. known_at setup core scene.kept now) k.core_is ∙ ap (λ kept. known_at setup dispatch.state.core kept now) k.kept_is

-- a poll changes nothing of what is held
matches-polled : (dispatch : Dispatch) (scene : Scene) (now : ℤ) → MatchesOutside dispatch scene.outside → MatchesOutside dispatch (outside_after scene.outside (Polled now))
matches-polled dispatch scene now h = record { tills_are = record { tills_are = h.tills_are.tills_are; below = h.tills_are.below }; linked = h.linked; hear = h.hear }

-- what may be due after an event
due-event : (setup : Setup) (dispatch : Dispatch) (polls : ℕ) (scene : Scene) → IsHeldRun setup dispatch polls scene → items_due scene.core ≡ due_in dispatch
due-event setup dispatch polls scene k = due-are scene.core ∙ ap (λ (core : Core). due_items (length core.terminals) (keys_waiting core)) k.core_is

-- nothing came
pub rest-nothing : (buf : List ℕ) (setup : Setup) (dispatch : Dispatch) (polls : ℕ) (now : ℤ) (scene : Scene) → IsHeldRun setup dispatch polls scene → (v : View) → AtEvent scene now Nothing buf v →
    HandledWith setup dispatch.state.core dispatch.state.records.ledger.records dispatch.readers.items dispatch.tills.list.items (polls + 1) now v
rest-nothing buf setup dispatch polls now scene k v q =
    let matches = matches-polled dispatch scene now k.matches in (
      keys_waiting dispatch.state.core,
      record {
        outside = outside_after scene.outside (Polled now);
        round = (
          polled scene (Polled now),
          subst (λ due. Owing (polled scene (Polled now)) [] due v) (due-event setup dispatch polls scene k) q.0,
          record { setup_is = k.setup_is; known_is = known-polled setup dispatch polls now scene k; flight = k.flight; round = refl; polls_are = ap (λ n. n + 1) k.polls_are; outside_is = refl },
        );
        tills_are = matches.tills_are;
        linked = matches.linked;
        also = matches.hear;
      },
    )

pub rest-pt-bytes : (pt count : ℕ) (buf : List ℕ) (setup : Setup) (dispatch : Dispatch) (polls : ℕ) (now : ℤ) (scene : Scene) → IsHeldRun setup dispatch polls scene → (v : View) → AtEvent scene now (PtBytes pt count) buf v →
    BeforePtBytes setup dispatch (polls + 1) now pt (take count buf) v
rest-pt-bytes pt count buf setup dispatch polls now scene k v q =
    let matches = matches-polled dispatch scene now k.matches in
    let after = at_event (polled scene (Polled now)) (HeardPt pt (take count buf)) in (
      outside_after scene.outside (Polled now),
      record { tills_are = matches.tills_are; linked = matches.linked; hear = matches.hear; connected = q.1 },
      (
        after,
        subst (λ due. Owing after [] (pt_bytes_items pt (heard_on scene.outside.links pt) (take count buf) ++ due) v) (due-event setup dispatch polls scene k) q.0,
        record { setup_is = k.setup_is; known_is = known-polled setup dispatch polls now scene k; flight = k.flight; round = refl; polls_are = ap (λ n. n + 1) k.polls_are; outside_is = refl },
      ),
    )

pub rest-pt-closed : (pt : ℕ) (buf : List ℕ) (setup : Setup) (dispatch : Dispatch) (polls : ℕ) (now : ℤ) (scene : Scene) → IsHeldRun setup dispatch polls scene → (v : View) → AtEvent scene now (PtClosed pt) buf v →
    BeforePtEnd setup dispatch (polls + 1) now pt v
rest-pt-closed pt buf setup dispatch polls now scene k v q =
    let matches = matches-polled dispatch scene now k.matches in
    let after = at_event (polled scene (Polled now)) (Lost pt) in (
      outside_after scene.outside (Polled now),
      record { tills_are = matches.tills_are; linked = matches.linked; hear = matches.hear; connected = q.1 },
      (
        after,
        subst (λ due. Owing after [] (LinkLost pt ∷ due) v) (due-event setup dispatch polls scene k) q.0,
        record { setup_is = k.setup_is; known_is = known-polled setup dispatch polls now scene k; flight = k.flight; round = refl; polls_are = ap (λ n. n + 1) k.polls_are; outside_is = refl },
      ),
    )

pub rest-stopped : (buf : List ℕ) (setup : Setup) (dispatch : Dispatch) (polls : ℕ) (now : ℤ) (scene : Scene) → IsHeldRun setup dispatch polls scene → (v : View) → AtEvent scene now StopEvent buf v → HasStopped dispatch v
rest-stopped buf setup dispatch polls now scene k v q = record { over = ap (λ (w : View). w.scene.stage) q.0; kept = ap (λ (w : View). w.scene.kept) q.0 ∙ k.kept_is }

pub rest-opened : (number : ℕ) (buf : List ℕ) (setup : Setup) (dispatch : Dispatch) (polls : ℕ) (now : ℤ) (scene : Scene) → IsHeldRun setup dispatch polls scene → (v : View) → AtEvent scene now (TillOpened number) buf v →
    BeforeOpen setup dispatch (polls + 1) now number v
rest-opened number buf setup dispatch polls now scene k v q =
    let after = at_event (polled scene (Polled now)) (Opened number) in (
      outside_after scene.outside (Polled now),
      record {
        round = (
          after,
          subst (λ due. Owing after [] (till_opened_items number scene.outside.tills ++ due) v) (due-event setup dispatch polls scene k) q.0,
          record { setup_is = k.setup_is; known_is = known-polled setup dispatch polls now scene k; flight = k.flight; round = refl; polls_are = ap (λ n. n + 1) k.polls_are; outside_is = refl },
        );
        matches = matches-polled dispatch scene now k.matches;
        above = q.1;
      },
    )

pub rest-heard : (number count : ℕ) (buf : List ℕ) (setup : Setup) (dispatch : Dispatch) (polls : ℕ) (now : ℤ) (scene : Scene) → IsHeldRun setup dispatch polls scene → (v : View) → AtEvent scene now (TillBytes number count) buf v →
    BeforeChunk setup dispatch (polls + 1) now number (take count buf) v
rest-heard number count buf setup dispatch polls now scene k v q =
    let after = at_event (polled scene (Polled now)) (HeardTill number (take count buf)) in (
      outside_after scene.outside (Polled now),
      record {
        round = (
          after,
          subst (λ due. Owing after [] (till_bytes_items number (heard_on scene.outside.tills number) (take count buf) ++ due) v) (due-event setup dispatch polls scene k) q.0,
          record { setup_is = k.setup_is; known_is = known-polled setup dispatch polls now scene k; flight = k.flight; round = refl; polls_are = ap (λ n. n + 1) k.polls_are; outside_is = refl },
        );
        matches = matches-polled dispatch scene now k.matches;
        connected = q.1;
      },
    )

-- a till has closed its connection, and is forgotten
rest-closed : (s : Observed) (number : ℕ) (buf : List ℕ) (setup : Setup) (dispatch : Dispatch) (new : List Till) (new_core : Core) (new_readers : List (List ℕ)) (polls : ℕ) (now : ℤ) (what : What) → what ≡ TillClosed number →
    new ≡ others dispatch.tills.list.items number → new_core ≡ core_without dispatch.state.core number → new_readers ≡ dispatch.readers.items →
    Triple s s (IsPolled setup dispatch polls now what buf) (HandledWith setup new_core dispatch.state.records.ledger.records new_readers new (polls + 1) now)
rest-closed s number buf setup dispatch new new_core new_readers polls now what e is forgot same =
    triple-then s s s _ _ _ (at-what s setup dispatch polls now what (TillClosed number) buf Closes e closes)
    (triple-some s s (λ (o : Outside) v. InRound knows (polls + 1) (after o) (GoneItem number ∷ due_in dispatch) v × MatchesOutside dispatch o) (HandledWith setup new_core dispatch.state.records.ledger.records new_readers new (polls + 1) now) no_outside
    (λ o. triple-after s s _ _ _ (triple-frame s s _ _ (MatchesOutside dispatch o)
    (begin-first s knows (polls + 1) (after o) (GoneItem number) (due_in dispatch) (core_without dispatch.state.core number) [] (record { begins = λ scene e. refl; row = refl })))
    (λ v q. handled-without setup dispatch.state.records.ledger.records new (polls + 1) now dispatch.state.core new_core dispatch.readers.items new_readers number forgot same (keys_waiting dispatch.state.core) v (record {
      outside = after o;
      round = q.0;
      tills_are = record {
        tills_are = ap (map rested) is ∙ rested-others dispatch.tills.list.items number ∙ ap (λ t. others t number) q.1.tills_are.tills_are ∙ others-held o.tills number;
        below = below-without o.next_till o.tills number q.1.tills_are.below;
      };
      linked = linked-without dispatch.state.core number o (after o) refl q.1.linked;
      also = q.1.hear;
    }))))
  where
    knows : Known
    knows = known_by setup dispatch now

    after : Outside → Outside
    after o = outside_after o (Closed number)

    Closes : View → Type 0
    Closes v = (o : Outside) × (InRound knows (polls + 1) (after o) (GoneItem number ∷ due_in dispatch) v × MatchesOutside dispatch o)

    closes : (scene : Scene) → IsHeldRun setup dispatch polls scene → (v : View) → AtEvent scene now (TillClosed number) buf v → Closes v
    closes scene k v q = (
      outside_after scene.outside (Polled now),
      (
        (
          at_event (polled scene (Polled now)) (Closed number),
          subst (λ due. Owing (at_event (polled scene (Polled now)) (Closed number)) [] (GoneItem number ∷ due) v) (due-event setup dispatch polls scene k) q.0,
          record { setup_is = k.setup_is; known_is = known-polled setup dispatch polls now scene k; flight = k.flight; round = refl; polls_are = ap (λ n. n + 1) k.polls_are; outside_is = refl },
        ),
        matches-polled dispatch scene now k.matches,
      ),
    )

-- so it is with what is held then
pub rest-forgotten : (s : Observed) (number : ℕ) (buf : List ℕ) (setup : Setup) (dispatch after : Dispatch) (polls : ℕ) (now : ℤ) (what : What) → what ≡ TillClosed number →
    after.tills.list.items ≡ others dispatch.tills.list.items number → after.state ≡ held_without dispatch.state number → after.readers.items ≡ dispatch.readers.items →
    Triple s s (IsPolled setup dispatch polls now what buf) (HandledWith setup after.state.core after.state.records.ledger.records after.readers.items after.tills.list.items (polls + 1) now)
rest-forgotten s number buf setup dispatch after polls now what e is forgot same =
    subst (λ (h : RunState). Triple s s (IsPolled setup dispatch polls now what buf) (HandledWith setup h.core h.records.ledger.records after.readers.items after.tills.list.items (polls + 1) now)) (sym forgot)
    (rest-closed s number buf setup dispatch after.tills.list.items (core_without dispatch.state.core number) after.readers.items polls now what e is refl same)

-- ---- the end of a round

round-running : (s : Stage) → is_round s ≡ true → is_running s ≡ true
round-running Resting r = absurd (let h : false ≡ true = r in cc)
round-running (Opening refused) r = absurd (let h : false ≡ true = r in cc)
round-running (Looking refused) r = absurd (let h : false ≡ true = r in cc)
round-running AtPoll r = refl
round-running Handling r = refl
round-running Over r = absurd (let h : false ≡ true = r in cc)
round-running Broken r = absurd (let h : false ≡ true = r in cc)

-- once what may be due was handled the round is over
pub handled-rest : (setup : Setup) (dispatch : Dispatch) (polls : ℕ) (now : ℤ) (v : View) → MidRound setup dispatch.state.core dispatch.state.records.ledger.records dispatch.tills.list.items polls now (AllHear dispatch.readers.items) [] [] v → IsBetweenRounds setup dispatch polls v
handled-rest setup dispatch polls now v h =
    let scene = h.round.0 in
    let f = h.round.2 in (
      scene,
      h.round.1,
      record {
        setup_is = f.setup_is;
        running = round-running scene.stage f.round;
        polls_are = f.polls_are;
        core_is = ap (λ (k : Known). k.core) f.known_is;
        kept_is = ap (λ (k : Known). k.kept) f.known_is;
        flight = f.flight;
        matches = subst (MatchesOutside dispatch) (sym f.outside_is) (record { tills_are = h.tills_are; linked = h.linked; hear = h.also });
      },
    )

-- ---- a run

-- a run whose opening is done
pub opened-rest : (setup : Setup) (dispatch : Dispatch) → dispatch.tills.list.items ≡ [] → dispatch.state.core ≡ new_core setup → (v : View) → HasOpened setup dispatch.state.records v → IsBetweenRounds setup dispatch 0 v
opened-rest setup dispatch none new v h = let (scene, is, f) = h.opened in (
  scene,
  is,
  record {
    setup_is = f.setup_is;
    running = f.running;
    polls_are = f.polls;
    core_is = f.core_is ∙ sym new;
    kept_is = ap (λ (w : View). w.scene.kept) (sym is) ∙ h.kept;
    flight = f.flight;
    matches = record {
      tills_are = record { tills_are = ap (map rested) none ∙ ap (map till_of) (sym f.tills); below = subst (AreBelow scene.outside.next_till) (sym f.tills) tt };
      linked = λ number. ap (λ links. is_connected links number) f.links ∙ linked-new setup.terminals number ∙ ap (λ (core : Core). is_linked_in (slice_get core.terminals number)) (sym new);
      hear = λ number connected. absurd (let h : false ≡ true = sym (ap (λ links. is_connected links number) f.links) ∙ connected in cc);
    };
  },
)

pub all-polled : (setup : Setup) (dispatch : Dispatch) (made most : ℕ) (v : View) → made ≡ most → IsBetweenRounds setup dispatch made v → KeptBy Done dispatch.state.records.ledger.records most v
all-polled setup dispatch made most v e (scene, is, k) = record {
  ended_by = inr (record { running = rw is k.running; calls = ap (λ (w : View). w.calls) is; items = ap (λ (w : View). w.items) is; polls = ap (λ (w : View). w.scene.polls) is ∙ k.polls_are ∙ e });
  kept = λ done. ap (λ (w : View). w.scene.kept) is ∙ k.kept_is;
}

-- the stop was polled
pub stop-kept : (dispatch : Dispatch) (most : ℕ) (v : View) → HasStopped dispatch v → KeptBy Done dispatch.state.records.ledger.records most v
stop-kept dispatch most v stopped = record { ended_by = inl stopped.over; kept = λ done. stopped.kept }

-- nothing is said of what is kept where the rounds aren't done
pub undone-kept : (ended : Ended) (records : List Record) (most : ℕ) (v : View) → (ended ≡ Done → ⊥) → EndedBy ended most v → KeptBy ended records most v
undone-kept ended records most v undone by = record { ended_by = by; kept = λ done. absurd (undone done) }
