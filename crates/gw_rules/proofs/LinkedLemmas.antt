-- Along each lawful course a terminal is remembered as linked exactly where the log has its link, but from the loss of a link until that is handled; and what is owed to terminals fits that.
use Rattle.std.proofs.Common.{◌≡◌, ◌≢◌, ℕ, zero, suc, List, [], ◌∷◌, ◌++◌, refl, sym, ◌∙◌, ap, subst, true, false, inl, inr, eqb-true, append-nil}
use Rattle.std.proofs.lemmas.Bool.{and_parts, eq-eqb}
use Rattle.std.specs.Prelude.{Bool, ◌⊎◌, ◌+◌, ◌==◌, ◌&&◌, ◌||◌, not, nat_lt, if◌then◌else◌, map, length, slice_get, Option, Some, None}
use Rattle.std.specs.List.{flat_map}
use Rattle.gw_base.specs.declared.setup.Pt.{Pt}
use Rattle.gw_base.specs.declared.setup.Setup.{Setup}
use Rattle.gw_site.specs.Outside.{Connection, is_connected, without, hears, heard_on, new_connection}
use Rattle.gw_site.specs.Sorts.{is_sort_of_round, sort_of}
use Rattle.gw_site.specs.declared.turn.Turn.{Turn}
use Rattle.gw_site.specs.declared.turn.Turn.TheVariants.{Start, OpenFailed, Polled, Opened, HeardTill, Closed, HeardPt, Lost, Stopped, Linked, LinkFailed, SentTill, SentPt, CutTill, CutPt, Wrote, Synced, DiskFailed, Crash}
use Rattle.sale_frame.specs.Decode.{DecodedFrames, decode_after, decode_frames}
use Rattle.zvt_apdu.specs.Decode.{decode_apdu}
use Rattle.zvt_apdu.specs.DecodeStream.{DecodedApdus, decode_apdus}
use Rattle.zvt_apdu.specs.Grammar.{ApduValue}
use Rattle.gw_owes.specs.Calls.{OwedCall, SendPt, LinkPt, CutPt as OwedCutPt}
use Rattle.gw_owes.specs.Core.{Core, Wait, new_core, new_terminal}
use Rattle.gw_owes.specs.Events.{till_opened_items, has_bad_length, decoded_items, is_oversized, apdu_items, decoded_apdu_items, for_each_terminal, waits_by_deadline, items_due}
use Rattle.gw_owes.specs.Items.{RoundItem, Crowded, Message, Asked, Unframed, Gone, Greet, Handle, Serve, Queue, NextWaiting, Oversized, LinkLost, Late, Overdue, Due}
use Rattle.gw_owes.specs.Laws.{ends_in_one}
use Rattle.gw_owes.specs.ReadAs.{ReadAs}
use Rattle.gw_owes.specs.Row.{Row}
use Rattle.gw_owes.specs.Rows.{row_of}
use Rattle.gw_owes.specs.TerminalLaws.{settings_of}
use Rattle.gw_owes.specs.Terminals.{link_made, link_lost, core_without}
use Rattle.gw_owes.specs.declared.terminal.Terminal.{Terminal}
use Rattle.gw_rules.specs.Lawful.{first_call, may_begin, first_message, Begins, IsRead, Allowed, AllowedTurn, IsCourse}
use Rattle.gw_rules.specs.Scene.{Scene, records_of, known_in, row_in, row_at, link_made_at, link_lost_at}
use Rattle.gw_rules.specs.Stage.{AtPoll, Handling, is_round, is_looking}
use Rattle.gw_rules.specs.View.{View, Move, Begin, Read, Make, later, read_first, after, after_turn, view_from, at_first}
use Rattle.gw_rules.proofs.LinkStateLemmas.{LinkState, Absent, On, Off, Odd, state_of, state_in, state_then, EachFits, Fits, fits-same, KeepsLinks, LeavesLinks, Turns, may_bring_more, may_follow, each-following, all_follow, loses, alone-keep, rows-keep, made-turns, lost-turns, without-states, without-settings, apart}
use Rattle.gw_rules.proofs.OpensLemmas.{opens-fit}
use Rattle.gw_rules.proofs.OwedLemmas.{begin-ends, turn-ends, call-last}
use Rattle.gw_rules.proofs.SetupLemmas.{HasSetup, IsInRun, first-run, begin-run, read-run, turn-run}
use Rattle.gw_rules.proofs.StageLemmas.{no-true, no-call, not-true, handling-not-polled}

-- ---- connections

pub connected-removed : (connections : List Connection) (number : ℕ) → is_connected (without connections number) number ≡ false
connected-removed [] number = refl
connected-removed (connection ∷ connections) number = by_test (connection.number == number) refl (connected-removed connections number)
  where
    by_test : (test : Bool) → (connection.number == number) ≡ test → is_connected (without connections number) number ≡ false → is_connected (without (connection ∷ connections) number) number ≡ false
    by_test true t h = rw t h
    by_test false t h = rw (t, t) h

pub connected-other : (connections : List Connection) (other number : ℕ) → number ≢ other → is_connected (without connections other) number ≡ is_connected connections number
connected-other [] other number differs = refl
connected-other (connection ∷ connections) other number differs = by_tests (connected-other connections other number differs) (connection.number == other) (connection.number == number) refl refl
  where
    by_tests : is_connected (without connections other) number ≡ is_connected connections number → (one two : Bool) → (connection.number == other) ≡ one → (connection.number == number) ≡ two
        → is_connected (without (connection ∷ connections) other) number ≡ is_connected (connection ∷ connections) number
    by_tests h true true t u = absurd (differs (sym (eqb-true connection.number number u) ∙ eqb-true connection.number other t))
    by_tests h true false t u = rw (t, u) h
    by_tests h false true t u = rw (t, u) refl
    by_tests h false false t u = rw (t, u) h

connected-new : (connections : List Connection) (number : ℕ) → is_connected (connections ++ new_connection number ∷ []) number ≡ true
connected-new [] number = rw (eq-eqb number number refl) refl
connected-new (connection ∷ connections) number = by_test (connection.number == number) refl (connected-new connections number)
  where
    by_test : (test : Bool) → (connection.number == number) ≡ test → is_connected (connections ++ new_connection number ∷ []) number ≡ true → is_connected (connection ∷ (connections ++ new_connection number ∷ [])) number ≡ true
    by_test true t h = rw t refl
    by_test false t h = rw t h

other-false : (one other : ℕ) → one ≢ other → (one == other) ≡ false
other-false one other differs = by_test (one == other) refl
  where
    by_test : (test : Bool) → (one == other) ≡ test → test ≡ false
    by_test true t = absurd (differs (eqb-true one other t))
    by_test false t = refl

pub connected-old : (connections : List Connection) (new number : ℕ) → number ≢ new → is_connected (connections ++ new_connection new ∷ []) number ≡ is_connected connections number
connected-old [] new number differs = rw (other-false new number (λ e. differs (sym e))) refl
connected-old (connection ∷ connections) new number differs = by_test (connection.number == number) refl (connected-old connections new number differs)
  where
    by_test : (test : Bool) → (connection.number == number) ≡ test → is_connected (connections ++ new_connection new ∷ []) number ≡ is_connected connections number
        → is_connected (connection ∷ (connections ++ new_connection new ∷ [])) number ≡ is_connected (connection ∷ connections) number
    by_test true t h = rw t refl
    by_test false t h = rw t h

pub connected-heard : (connections : List Connection) (heard number : ℕ) (bytes : List ℕ) → is_connected (hears connections heard bytes) number ≡ is_connected connections number
connected-heard [] heard number bytes = refl
connected-heard (connection ∷ connections) heard number bytes = by_test (connection.number == heard) refl (connected-heard connections heard number bytes)
  where
    by_test : (test : Bool) → (connection.number == heard) ≡ test → is_connected (hears connections heard bytes) number ≡ is_connected connections number
        → is_connected (hears (connection ∷ connections) heard bytes) number ≡ is_connected (connection ∷ connections) number
    by_test true t h = rw t refl
    by_test false t h = rw t (ap (λ b. (connection.number == number) || b) h)

-- ---- items that lose no link

abbrev pub lose_none : List RoundItem → Bool
lose_none [] = true
lose_none (item ∷ items) = not (loses item) && lose_none items

follow-stays : (item : RoundItem) → may_follow item ≡ true → loses item ≡ false
follow-stays item e = each-following (λ i. loses i ≡ false) item e (λ number till header request. refl) (λ number till header request. refl) (λ number. refl)

none-append : (items more : List RoundItem) → lose_none items ≡ true → lose_none more ≡ true → lose_none (items ++ more) ≡ true
none-append [] more h k = k
none-append (item ∷ items) more h k =
    let p = and_parts (not (loses item)) (lose_none items) h in
    rw (p.0, none-append items more p.1 k) refl

-- those that may come next after one that begins
follow-lose-none : (items : List RoundItem) → all_follow items ≡ true → lose_none items ≡ true
follow-lose-none [] e = refl
follow-lose-none (item ∷ items) e =
    let p = and_parts (may_follow item) (all_follow items) e in
    rw (follow-stays item p.0, follow-lose-none items p.1) refl

none-each : (number : ℕ) (item : ℕ → RoundItem) (terminals : List Terminal) → ((n : ℕ) → loses (item n) ≡ false) → lose_none (for_each_terminal number item terminals) ≡ true
none-each number item [] never = refl
none-each number item (terminal ∷ terminals) never = rw (never number, none-each (number + 1) item terminals never) refl

none-overdue : (waits : List Wait) → lose_none (map (λ (wait : Wait). Overdue wait.key) waits) ≡ true
none-overdue [] = refl
none-overdue (wait ∷ waits) = none-overdue waits

none-due : (core : Core) → lose_none (items_due core) ≡ true
none-due core =
    none-append (for_each_terminal 0 Late core.terminals) (map (λ (wait : Wait). Overdue wait.key) (waits_by_deadline core.waits) ++ for_each_terminal 0 Due core.terminals) (none-each 0 Late core.terminals (λ n. refl))
    (none-append (map (λ (wait : Wait). Overdue wait.key) (waits_by_deadline core.waits)) (for_each_terminal 0 Due core.terminals) (none-overdue (waits_by_deadline core.waits)) (none-each 0 Due core.terminals (λ n. refl)))

none-opened : (till : ℕ) (tills : List Connection) → lose_none (till_opened_items till tills) ≡ true
none-opened till tills = by_test (nat_lt (length tills) 64)
  where
    by_test : (test : Bool) → lose_none (if test then [] else Crowded till ∷ []) ≡ true
    by_test true = refl
    by_test false = refl

none-messages : (till : ℕ) (payloads : List (List ℕ)) → lose_none (map (Message till) payloads) ≡ true
none-messages till [] = refl
none-messages till (payload ∷ payloads) = none-messages till payloads

none-where : (test : Bool) (item : RoundItem) → loses item ≡ false → lose_none (if test then item ∷ [] else []) ≡ true
none-where true item never = rw never refl
none-where false item never = refl

none-till : (till : ℕ) (decoded : DecodedFrames) → lose_none (decoded_items till decoded) ≡ true
none-till till decoded = none-append (map (Message till) decoded.payloads) _ (none-messages till decoded.payloads) (none-where (has_bad_length decoded.rest) (Unframed till) refl)

none-apdus : (pt : ℕ) (apdus : List ApduValue) → lose_none (flat_map (apdu_items pt) apdus) ≡ true
none-apdus pt [] = refl
none-apdus pt (apdu ∷ apdus) = none-apdus pt apdus

none-pt : (pt : ℕ) (decoded : DecodedApdus) → lose_none (decoded_apdu_items pt decoded) ≡ true
none-pt pt decoded = none-append (flat_map (apdu_items pt) decoded.apdus) _ (none-apdus pt decoded.apdus) (none-where (is_oversized (decode_apdu decoded.rest)) (Oversized pt) refl)

-- ---- what holds along a course

abbrev pub is_on : LinkState → Bool
is_on Absent = false
is_on On = true
is_on (Off due) = false
is_on Odd = false

-- the terminals have the setup's settings
abbrev pub AreConfigured : Option Setup → Core → Type 0
AreConfigured None core = Unit {0}
AreConfigured (Some setup) core = settings_of core ≡ setup.terminals

-- no link was lost that wasn't handled
pub record Settled (v : View) : Type 0 where
  pub linked : (number : ℕ) → is_connected v.scene.outside.links number ≡ is_on (state_in v.scene.core number)
  pub even : (number : ℕ) → state_in v.scene.core number ≢ Odd
  pub settings : AreConfigured v.scene.setup v.scene.core
  pub fits : EachFits v.scene.outside.moment v.scene.core v.calls
  pub none : lose_none v.items ≡ true

-- the link of this terminal was lost, which is handled next
pub record Losing (v : View) : Type 0 where
  pub pt : ℕ
  pub rest : List RoundItem
  pub items_are : v.items ≡ LinkLost pt ∷ rest
  pub none : lose_none rest ≡ true
  pub stage : v.scene.stage ≡ Handling
  pub calls_are : v.calls ≡ []
  pub own : is_connected v.scene.outside.links pt ≡ false
  pub others : (number : ℕ) → number ≢ pt → is_connected v.scene.outside.links number ≡ is_on (state_in v.scene.core number)
  pub even : (number : ℕ) → state_in v.scene.core number ≢ Odd
  pub settings : AreConfigured v.scene.setup v.scene.core

-- one of both, and what is owed ends in one call that isn't on the disk
pub record Agrees (v : View) : Type 0 where
  pub run : IsInRun v
  pub ends : ends_in_one v.calls ≡ true
  pub links : Settled v ⊎ Losing v

-- ---- rows

configured-same : (setup : Option Setup) (core other : Core) → settings_of other ≡ settings_of core → AreConfigured setup core → AreConfigured setup other
configured-same None core other same h = tt
configured-same (Some setup) core other same h = same ∙ h

pub round-setup : (v : View) → IsInRun v → is_round v.scene.stage ≡ true → HasSetup v.scene
round-setup v (inl h) e = h
round-setup v (inr r) e = no-true (sym (ap is_round r.resting) ∙ e)

pub call-setup : (v : View) (call : OwedCall) → IsInRun v → first_call v.calls ≡ Some call → HasSetup v.scene
call-setup v call (inl h) e = h
call-setup v call (inr r) e = no-call v.calls call r.calls e

pub at-keeps : (scene : Scene) (item : RoundItem) (setup : Setup) → scene.setup ≡ Some setup → ((number : ℕ) → state_in scene.core number ≢ Odd) → loses item ≡ false → LeavesLinks scene.outside.moment scene.core (row_at scene item)
at-keeps scene item setup is even never =
    subst (λ (s : Option Setup). LeavesLinks scene.outside.moment scene.core (row_in scene (λ known. row_of scene.outside.tills known item) s)) (sym is) (rows-keep scene.outside.tills (known_in scene setup) item even never)

-- and a row that is neither of a message nor of a look at what waits brings no item
pub at-keeps-alone : (scene : Scene) (item : RoundItem) (setup : Setup) → scene.setup ≡ Some setup → ((number : ℕ) → state_in scene.core number ≢ Odd) → loses item ≡ false → may_bring_more item ≡ false → KeepsLinks scene.outside.moment scene.core (row_at scene item)
at-keeps-alone scene item setup is even never asked =
    subst (λ (s : Option Setup). KeepsLinks scene.outside.moment scene.core (row_in scene (λ known. row_of scene.outside.tills known item) s)) (sym is) (alone-keep scene.outside.tills (known_in scene setup) item even never asked)

pub made-at-turns : (scene : Scene) (pt : ℕ) (setup : Setup) → scene.setup ≡ Some setup → Turns scene.core pt On (link_made_at scene pt)
made-at-turns scene pt setup is = subst (λ (s : Option Setup). Turns scene.core pt On (row_in scene (λ known. link_made known pt) s)) (sym is) (made-turns (known_in scene setup) pt)

pub lost-at-turns : (scene : Scene) (pt : ℕ) (setup : Setup) → scene.setup ≡ Some setup → Turns scene.core pt (Off (Some (scene.outside.moment + 5))) (link_lost_at scene pt)
lost-at-turns scene pt setup is =
    subst (λ (s : Option Setup). Turns scene.core pt (Off (Some (scene.outside.moment + 5))) (row_in scene (λ known. link_lost known pt) s)) (sym is) (lost-turns (known_in scene setup) pt)

off-then : (due : Option ℕ) (old : LinkState) → is_on (state_then (Off due) old) ≡ false
off-then due Absent = refl
off-then due On = refl
off-then due (Off other) = refl
off-then due Odd = refl

never-odd : (new old : LinkState) → new ≢ Odd → old ≢ Odd → state_then new old ≢ Odd
never-odd new Absent n o = o
never-odd new On n o = n
never-odd new (Off due) n o = n
never-odd new Odd n o = n

off-odd : (due : Option ℕ) → Off due ≢ Odd
off-odd due e = cc

on-odd : On ≢ Odd
on-odd e = cc

-- what a row turns that takes one terminal to another state
turns-even : (core : Core) (pt : ℕ) (new : LinkState) (row : Row) → Turns core pt new row → new ≢ Odd → ((number : ℕ) → state_in core number ≢ Odd) → (number : ℕ) → state_in row.core number ≢ Odd
turns-even core pt new row t n even number = by_test (number == pt) refl
  where
    by_test : (test : Bool) → (number == pt) ≡ test → state_in row.core number ≢ Odd
    by_test true e odd = never-odd new (state_in core pt) n (even pt) (sym t.own ∙ ap (state_in row.core) (sym (eqb-true number pt e)) ∙ odd)
    by_test false e odd = even number (sym (t.others number (apart number pt e)) ∙ odd)

-- where a terminal is linked by the log exactly when it is after the row, and the others are as they were, each is
turns-linked : (links old : List Connection) (core : Core) (pt : ℕ) (new : LinkState) (row : Row) → Turns core pt new row → is_connected links pt ≡ is_on (state_then new (state_in core pt))
    → ((number : ℕ) → number ≢ pt → is_connected links number ≡ is_connected old number) → ((number : ℕ) → number ≢ pt → is_connected old number ≡ is_on (state_in core number)) → (number : ℕ) → is_connected links number ≡ is_on (state_in row.core number)
turns-linked links old core pt new row t own same others number = by_test (number == pt) refl
  where
    by_test : (test : Bool) → (number == pt) ≡ test → is_connected links number ≡ is_on (state_in row.core number)
    by_test true e =
        let is : pt ≡ number = sym (eqb-true number pt e) in
        subst (λ n. is_connected links n ≡ is_on (state_in row.core n)) is (own ∙ sym (ap is_on t.own))
    by_test false e = let d = apart number pt e in same number d ∙ others number d ∙ sym (ap is_on (t.others number d))

-- ---- items that begin

begin-settled : (v : View) → IsInRun v → Settled v → Begins v → Settled (after v Begin)
begin-settled v run s b = by_items v.items refl
  where
    by_items : (items : List RoundItem) → v.items ≡ items → Settled (after v Begin)
    by_items [] e = no-true (sym (ap (may_begin v.scene) e) ∙ b.first)
    by_items (item ∷ rest) e =
        let known = round-setup v run b.idle.round in
        let none : lose_none (item ∷ rest) ≡ true = subst (λ l. lose_none l ≡ true) e s.none in
        let p = and_parts (not (loses item)) (lose_none rest) none in
        let k = at-keeps v.scene item known.setup known.setup_is s.even (not-true (loses item) p.0) in
        subst (λ l. Settled (after (record v { items = l }) Begin)) (sym e) (record {
          linked = λ number. s.linked number ∙ sym (ap is_on (k.states number));
          even = λ number odd. s.even number (sym (k.states number) ∙ odd);
          settings = configured-same v.scene.setup v.scene.core (row_at v.scene item).core k.settings s.settings;
          fits = k.fits;
          none = none-append (row_at v.scene item).items rest (follow-lose-none (row_at v.scene item).items k.items) p.1;
        })

begin-losing : (v : View) → IsInRun v → Losing v → Begins v → Settled (after v Begin)
begin-losing v run l b =
    let known = round-setup v run b.idle.round in
    let t = lost-at-turns v.scene l.pt known.setup known.setup_is in
    subst (λ i. Settled (after (record v { items = i }) Begin)) (sym l.items_are) (record {
      linked = turns-linked v.scene.outside.links v.scene.outside.links v.scene.core l.pt _ (row_at v.scene (LinkLost l.pt)) t (l.own ∙ sym (off-then _ (state_in v.scene.core l.pt))) (λ number d. refl) l.others;
      even = turns-even v.scene.core l.pt _ (row_at v.scene (LinkLost l.pt)) t (off-odd _) l.even;
      settings = configured-same v.scene.setup v.scene.core (row_at v.scene (LinkLost l.pt)).core t.settings l.settings;
      fits = t.fits v.scene.outside.moment;
      none = ap (λ i. lose_none (i ++ l.rest)) t.items ∙ l.none;
    })

-- ---- messages that are read

none-read : (as_read : ReadAs) (items : List RoundItem) → lose_none items ≡ true → lose_none (read_first as_read items) ≡ true
none-read as_read [] e = e
none-read as_read (Crowded till ∷ items) e = e
none-read as_read (Message till bytes ∷ items) e = e
none-read as_read (Asked till other ∷ items) e = e
none-read as_read (Unframed till ∷ items) e = e
none-read as_read (Gone till ∷ items) e = e
none-read as_read (Greet pt apdu ∷ items) e = e
none-read as_read (Handle pt apdu ∷ items) e = e
none-read as_read (Serve pt till header request ∷ items) e = e
none-read as_read (Queue pt till header request ∷ items) e = e
none-read as_read (NextWaiting pt ∷ items) e = e
none-read as_read (Oversized pt ∷ items) e = e
none-read as_read (LinkLost pt ∷ items) e = e
none-read as_read (Late pt ∷ items) e = e
none-read as_read (Overdue key ∷ items) e = e
none-read as_read (Due pt ∷ items) e = e

pub read-settled : (v : View) (as_read : ReadAs) → Settled v → Settled (after v (Read as_read))
read-settled v as_read s = record { linked = s.linked; even = s.even; settings = s.settings; fits = tt; none = none-read as_read v.items s.none }

pub read-losing : {A : Type 0} (v : View) (as_read : ReadAs) → Losing v → IsRead v as_read → A
read-losing v as_read l r = absurd (let n : None ≡ Some r.bytes = sym (ap first_message l.items_are) ∙ r.message in cc)

-- ---- turns

-- with the same core and the same links, calls that fit, and items that lose none
same-settled : (v w : View) → Settled v → w.scene.core ≡ v.scene.core → w.scene.setup ≡ v.scene.setup → ((number : ℕ) → is_connected w.scene.outside.links number ≡ is_connected v.scene.outside.links number) → EachFits w.scene.outside.moment v.scene.core w.calls → lose_none w.items ≡ true → Settled w
same-settled v w s core setup links fits none = record {
  linked = λ number. links number ∙ s.linked number ∙ ap (λ c. is_on (state_in c number)) (sym core);
  even = λ number odd. s.even number (ap (λ c. state_in c number) (sym core) ∙ odd);
  settings = subst (λ o. AreConfigured o w.scene.core) (sym setup) (subst (AreConfigured v.scene.setup) (sym core) s.settings);
  fits = subst (λ c. EachFits w.scene.outside.moment c w.calls) (sym core) fits;
  none = none;
}

later-fits : (moment : ℕ) (core : Core) (calls : List OwedCall) → EachFits moment core calls → EachFits moment core (later calls)
later-fits moment core [] h = tt
later-fits moment core (call ∷ calls) h = h.1

pub first-fits : (moment : ℕ) (core : Core) (calls : List OwedCall) (call : OwedCall) → EachFits moment core calls → first_call calls ≡ Some call → Fits moment core call
first-fits moment core [] call h e = absurd (let n : None ≡ Some call = e in cc)
first-fits moment core (first ∷ calls) call h e = subst (Fits moment core) (let n : Some first ≡ Some call = e in cc) h.0

pub new-state : (pts : List Pt) (number : ℕ) → (state_of (slice_get (map new_terminal pts) number) ≡ Absent) ⊎ (state_of (slice_get (map new_terminal pts) number) ≡ Off None)
new-state [] number = inl refl
new-state (pt ∷ pts) zero = inr refl
new-state (pt ∷ pts) (suc number) = new-state pts number

new-settings : (pts : List Pt) → map (λ (terminal : Terminal). terminal.pt) (map new_terminal pts) ≡ pts
new-settings [] = refl
new-settings (pt ∷ pts) = ap (λ l. pt ∷ l) (new-settings pts)

start-settled : (v : View) (setup : Setup) → Settled (after_turn v (Start setup))
start-settled v setup = record {
  linked = λ number. by_state number (new-state setup.terminals number);
  even = λ number odd. by_odd number (new-state setup.terminals number) odd;
  settings = new-settings setup.terminals;
  fits = opens-fit 0 (new_core setup) setup v.scene.outside.file (records_of v.scene);
  none = refl;
}
  where
    by_state : (number : ℕ) → (state_in (new_core setup) number ≡ Absent) ⊎ (state_in (new_core setup) number ≡ Off None) → false ≡ is_on (state_in (new_core setup) number)
    by_state number (inl e) = sym (ap is_on e)
    by_state number (inr e) = sym (ap is_on e)

    by_odd : (number : ℕ) → (state_in (new_core setup) number ≡ Absent) ⊎ (state_in (new_core setup) number ≡ Off None) → state_in (new_core setup) number ≢ Odd
    by_odd number (inl e) odd = absurd (let n : Absent ≡ Odd = sym e ∙ odd in cc)
    by_odd number (inr e) odd = absurd (let n : Off None ≡ Odd = sym e ∙ odd in cc)

not-opened-settled : (v : View) → Settled (after_turn v OpenFailed)
not-opened-settled v = record { linked = λ number. refl; even = λ number odd. cc; settings = tt; fits = tt; none = refl }

crashed-settled : (v : View) (file : List ℕ) → Settled (after_turn v (Crash file))
crashed-settled v file = record { linked = λ number. refl; even = λ number odd. cc; settings = tt; fits = tt; none = refl }

made-settled : (v : View) (pt : ℕ) → IsInRun v → ends_in_one v.calls ≡ true → Settled v → AllowedTurn v (Linked pt) → Settled (after_turn v (Linked pt))
made-settled v pt run ends s ok =
    let known = call-setup v (LinkPt pt) run ok in
    let row : Row = link_made_at v.scene pt in
    let t = made-at-turns v.scene pt known.setup known.setup_is in
    let old : List Connection = v.scene.outside.links in
    let fit = first-fits v.scene.outside.moment v.scene.core v.calls (LinkPt pt) s.fits ok in
    record {
      linked = turns-linked (without old pt ++ new_connection pt ∷ []) old v.scene.core pt On row t (connected-new (without old pt) pt ∙ sym (ap (λ state. is_on (state_then On state)) fit.1))
          (λ number d. connected-old (without old pt) pt number d ∙ connected-other old pt number d) (λ number d. s.linked number);
      even = turns-even v.scene.core pt On row t on-odd s.even;
      settings = configured-same v.scene.setup v.scene.core row.core t.settings s.settings;
      fits = subst (λ l. EachFits v.scene.outside.moment row.core (row.calls ++ l)) (sym (call-last v.calls (LinkPt pt) (λ more. refl) ok ends)) (subst (EachFits v.scene.outside.moment row.core) (sym (append-nil row.calls)) (t.fits v.scene.outside.moment));
      none = ap (λ l. lose_none (l ++ v.items)) t.items ∙ s.none;
    }

failed-settled : (v : View) (pt : ℕ) → IsInRun v → Settled v → AllowedTurn v (LinkFailed pt) → Settled (after_turn v (LinkFailed pt))
failed-settled v pt run s ok =
    let known = call-setup v (LinkPt pt) run ok in
    let row : Row = link_lost_at v.scene pt in
    let t = lost-at-turns v.scene pt known.setup known.setup_is in
    let fit = first-fits v.scene.outside.moment v.scene.core v.calls (LinkPt pt) s.fits ok in
    record {
      linked = turns-linked v.scene.outside.links v.scene.outside.links v.scene.core pt _ row t (s.linked pt ∙ ap is_on fit.1 ∙ sym (off-then _ (state_in v.scene.core pt))) (λ number d. refl) (λ number d. s.linked number);
      even = turns-even v.scene.core pt _ row t (off-odd _) s.even;
      settings = configured-same v.scene.setup v.scene.core row.core t.settings s.settings;
      fits = subst (EachFits v.scene.outside.moment row.core) (sym (append-nil row.calls)) (t.fits v.scene.outside.moment);
      none = ap (λ l. lose_none (l ++ v.items)) t.items ∙ s.none;
    }

cut-settled : (v : View) (pt : ℕ) → IsInRun v → ends_in_one v.calls ≡ true → Settled v → AllowedTurn v (CutPt pt) → Settled (after_turn v (CutPt pt))
cut-settled v pt run ends s ok =
    let known = call-setup v (OwedCutPt pt) run ok in
    let row : Row = link_lost_at v.scene pt in
    let t = lost-at-turns v.scene pt known.setup known.setup_is in
    let old : List Connection = v.scene.outside.links in
    record {
      linked = turns-linked (without old pt) old v.scene.core pt _ row t (connected-removed old pt ∙ sym (off-then _ (state_in v.scene.core pt))) (λ number d. connected-other old pt number d) (λ number d. s.linked number);
      even = turns-even v.scene.core pt _ row t (off-odd _) s.even;
      settings = configured-same v.scene.setup v.scene.core row.core t.settings s.settings;
      fits = subst (λ l. EachFits v.scene.outside.moment row.core (row.calls ++ l)) (sym (call-last v.calls (OwedCutPt pt) (λ more. refl) ok ends)) (subst (EachFits v.scene.outside.moment row.core) (sym (append-nil row.calls)) (t.fits v.scene.outside.moment));
      none = ap (λ l. lose_none (l ++ v.items)) t.items ∙ s.none;
    }

till-cut-settled : (v : View) (till : ℕ) → Settled v → Settled (after_turn v (CutTill till))
till-cut-settled v till s =
    let same : (number : ℕ) → state_in (core_without v.scene.core till) number ≡ state_in v.scene.core number = without-states till v.scene.core.terminals in
    record {
      linked = λ number. s.linked number ∙ sym (ap is_on (same number));
      even = λ number odd. s.even number (sym (same number) ∙ odd);
      settings = configured-same v.scene.setup v.scene.core (core_without v.scene.core till) (without-settings till v.scene.core.terminals) s.settings;
      fits = fits-same v.scene.outside.moment v.scene.core (core_without v.scene.core till) (later v.calls) same (later-fits v.scene.outside.moment v.scene.core v.calls s.fits);
      none = s.none;
    }

lost-losing : (v : View) (pt : ℕ) → Settled v → Losing (after_turn v (Lost pt))
lost-losing v pt s = record {
  pt = pt;
  rest = items_due v.scene.core;
  items_are = refl;
  none = none-due v.scene.core;
  stage = refl;
  calls_are = refl;
  own = connected-removed v.scene.outside.links pt;
  others = λ number d. connected-other v.scene.outside.links pt number d ∙ s.linked number;
  even = s.even;
  settings = s.settings;
}

-- what a turn leaves: a link is lost with no other than the turn that says so
abbrev pub OrLost : View → Turn → Type 0
OrLost v turn = (pt : ℕ) × (turn ≡ Lost pt) × (l : Losing (after_turn v turn)) × (l.pt ≡ pt)

pub settled-turn : (v : View) (turn : Turn) → IsInRun v → ends_in_one v.calls ≡ true → Settled v → AllowedTurn v turn → Settled (after_turn v turn) ⊎ OrLost v turn
unfolding lost-losing
settled-turn v (Start setup) run ends s ok = inl (start-settled v setup)
settled-turn v OpenFailed run ends s ok = inl (not-opened-settled v)
settled-turn v (Polled now) run ends s ok = inl (same-settled v (after_turn v (Polled now)) s refl refl (λ number. refl) tt (none-due v.scene.core))
settled-turn v (Opened till) run ends s ok =
    inl (same-settled v (after_turn v (Opened till)) s refl refl (λ number. refl) tt (none-append (till_opened_items till v.scene.outside.tills) _ (none-opened till v.scene.outside.tills) (none-due v.scene.core)))
settled-turn v (HeardTill till bytes) run ends s ok =
    let decoded : DecodedFrames = decode_after (decode_frames (heard_on v.scene.outside.tills till)).rest bytes in
    inl (same-settled v (after_turn v (HeardTill till bytes)) s refl refl (λ number. refl) tt (none-append (decoded_items till decoded) _ (none-till till decoded) (none-due v.scene.core)))
settled-turn v (Closed till) run ends s ok = inl (same-settled v (after_turn v (Closed till)) s refl refl (λ number. refl) tt (none-due v.scene.core))
settled-turn v (HeardPt pt bytes) run ends s ok =
    let decoded : DecodedApdus = decode_apdus ((decode_apdus (heard_on v.scene.outside.links pt)).rest ++ bytes) in
    inl (same-settled v (after_turn v (HeardPt pt bytes)) s refl refl (λ number. connected-heard v.scene.outside.links pt number bytes) tt (none-append (decoded_apdu_items pt decoded) _ (none-pt pt decoded) (none-due v.scene.core)))
settled-turn v (Lost pt) run ends s ok = inr (pt, refl, lost-losing v pt s, refl)
settled-turn v Stopped run ends s ok = inl (same-settled v (after_turn v Stopped) s refl refl (λ number. refl) tt refl)
settled-turn v (Linked pt) run ends s ok = inl (made-settled v pt run ends s ok)
settled-turn v (LinkFailed pt) run ends s ok = inl (failed-settled v pt run s ok)
settled-turn v (SentTill till bytes true) run ends s ok = inl (same-settled v (after_turn v (SentTill till bytes true)) s refl refl (λ number. refl) (later-fits v.scene.outside.moment v.scene.core v.calls s.fits) s.none)
settled-turn v (SentTill till bytes false) run ends s ok = inl (same-settled v (after_turn v (SentTill till bytes false)) s refl refl (λ number. refl) (tt, tt) s.none)
settled-turn v (SentPt pt bytes true) run ends s ok = inl (same-settled v (after_turn v (SentPt pt bytes true)) s refl refl (λ number. refl) (later-fits v.scene.outside.moment v.scene.core v.calls s.fits) s.none)
settled-turn v (SentPt pt bytes false) run ends s ok =
    inl (same-settled v (after_turn v (SentPt pt bytes false)) s refl refl (λ number. refl) (first-fits v.scene.outside.moment v.scene.core v.calls (SendPt pt ok.0) s.fits ok.1, tt) s.none)
settled-turn v (CutTill till) run ends s ok = inl (till-cut-settled v till s)
settled-turn v (CutPt pt) run ends s ok = inl (cut-settled v pt run ends s ok)
settled-turn v (Wrote offset bytes) run ends s ok = inl (same-settled v (after_turn v (Wrote offset bytes)) s refl refl (λ number. refl) (later-fits v.scene.outside.moment v.scene.core v.calls s.fits) s.none)
settled-turn v Synced run ends s ok = inl (same-settled v (after_turn v Synced) s refl refl (λ number. refl) (later-fits v.scene.outside.moment v.scene.core v.calls s.fits) s.none)
settled-turn v DiskFailed run ends s ok = inl (same-settled v (after_turn v DiskFailed) s refl refl (λ number. refl) tt refl)
settled-turn v (Crash file) run ends s ok = inl (crashed-settled v file)

losing-event : {A : Type 0} (v : View) → Losing v → v.scene.stage ≡ AtPoll → A
losing-event v l e = handling-not-polled (sym l.stage ∙ e)

losing-call : {A : Type 0} (v : View) (call : OwedCall) → Losing v → first_call v.calls ≡ Some call → A
losing-call v call l e = no-call v.calls call l.calls_are e

-- nothing comes before the loss is handled but the end of the run
losing-turn : (v : View) (turn : Turn) → Losing v → AllowedTurn v turn → Settled (after_turn v turn)
losing-turn v (Start setup) l ok = start-settled v setup
losing-turn v OpenFailed l ok = not-opened-settled v
losing-turn v (Polled now) l ok = absurd (let n : [] ≡ LinkLost l.pt ∷ l.rest = sym ok.items ∙ l.items_are in cc)
losing-turn v (Opened till) l ok = losing-event v l ok.0
losing-turn v (HeardTill till bytes) l ok = losing-event v l ok.0.polled
losing-turn v (Closed till) l ok = losing-event v l ok.polled
losing-turn v (HeardPt pt bytes) l ok = losing-event v l ok.0.polled
losing-turn v (Lost pt) l ok = losing-event v l ok.polled
losing-turn v Stopped l ok = losing-event v l ok
losing-turn v (Linked pt) l ok = losing-call v _ l ok
losing-turn v (LinkFailed pt) l ok = losing-call v _ l ok
losing-turn v (SentTill till bytes true) l ok = losing-call v _ l ok.1
losing-turn v (SentTill till bytes false) l ok = losing-call v _ l ok.1
losing-turn v (SentPt pt bytes true) l ok = losing-call v _ l ok.1
losing-turn v (SentPt pt bytes false) l ok = losing-call v _ l ok.1
losing-turn v (CutTill till) l ok = losing-call v _ l ok
losing-turn v (CutPt pt) l ok = losing-call v _ l ok
losing-turn v (Wrote offset bytes) l ok = losing-call v _ l ok.1
losing-turn v Synced l ok = losing-call v _ l ok
losing-turn v DiskFailed l (inl next) = losing-call v _ l next
losing-turn v DiskFailed l (inr looking) = no-true (sym (ap is_looking l.stage) ∙ looking)
losing-turn v (Crash file) l ok = crashed-settled v file

-- in the round no turn comes before it
pub losing-round : {A : Type 0} (v : View) (turn : Turn) → Losing v → AllowedTurn v turn → is_sort_of_round (sort_of turn) ≡ true → A
losing-round v (Start setup) l ok e = no-true e
losing-round v OpenFailed l ok e = no-true e
losing-round v (Polled now) l ok e = no-true e
losing-round v (Opened till) l ok e = losing-event v l ok.0
losing-round v (HeardTill till bytes) l ok e = losing-event v l ok.0.polled
losing-round v (Closed till) l ok e = losing-event v l ok.polled
losing-round v (HeardPt pt bytes) l ok e = losing-event v l ok.0.polled
losing-round v (Lost pt) l ok e = losing-event v l ok.polled
losing-round v Stopped l ok e = losing-event v l ok
losing-round v (Linked pt) l ok e = losing-call v _ l ok
losing-round v (LinkFailed pt) l ok e = losing-call v _ l ok
losing-round v (SentTill till bytes true) l ok e = losing-call v _ l ok.1
losing-round v (SentTill till bytes false) l ok e = losing-call v _ l ok.1
losing-round v (SentPt pt bytes true) l ok e = losing-call v _ l ok.1
losing-round v (SentPt pt bytes false) l ok e = losing-call v _ l ok.1
losing-round v (CutTill till) l ok e = losing-call v _ l ok
losing-round v (CutPt pt) l ok e = losing-call v _ l ok
losing-round v (Wrote offset bytes) l ok e = losing-call v _ l ok.1
losing-round v Synced l ok e = losing-call v _ l ok
losing-round v DiskFailed l (inl next) e = losing-call v _ l next
losing-round v DiskFailed l (inr looking) e = no-true (sym (ap is_looking l.stage) ∙ looking)
losing-round v (Crash file) l ok e = no-true e

-- ---- the state of one terminal

-- where no loss waits, an item that begins leaves each terminal linked, or due, as it was
pub begin-state-settled : (v : View) → IsInRun v → Settled v → Begins v → (number : ℕ) → state_in (after v Begin).scene.core number ≡ state_in v.scene.core number
begin-state-settled v run s b number = by_items v.items refl
  where
    by_items : (items : List RoundItem) → v.items ≡ items → state_in (after v Begin).scene.core number ≡ state_in v.scene.core number
    by_items [] e = no-true (sym (ap (may_begin v.scene) e) ∙ b.first)
    by_items (item ∷ rest) e =
        let known = round-setup v run b.idle.round in
        let none : lose_none (item ∷ rest) ≡ true = subst (λ l. lose_none l ≡ true) e s.none in
        let k = at-keeps v.scene item known.setup known.setup_is s.even (not-true (loses item) (and_parts (not (loses item)) (lose_none rest) none).0) in
        subst (λ l. state_in (after (record v { items = l }) Begin).scene.core number ≡ state_in v.scene.core number) (sym e) (k.states number)

-- and the loss of a link each other one
pub begin-state-losing : (v : View) → IsInRun v → (l : Losing v) → Begins v → (number : ℕ) → number ≢ l.pt → state_in (after v Begin).scene.core number ≡ state_in v.scene.core number
begin-state-losing v run l b number differs =
    let known = round-setup v run b.idle.round in
    let t = lost-at-turns v.scene l.pt known.setup known.setup_is in
    subst (λ i. state_in (after (record v { items = i }) Begin).scene.core number ≡ state_in v.scene.core number) (sym l.items_are) (t.others number differs)

-- the turn is of this terminal's link
abbrev pub IsOfLink : ℕ → Turn → Type 0
IsOfLink pt turn = (turn ≡ Linked pt) ⊎ ((turn ≡ LinkFailed pt) ⊎ (turn ≡ CutPt pt))

pub by-number : {A : Type 0} (pt other : ℕ) → (other ≡ pt → A) → (pt ≢ other → A) → A
by-number {A} pt other same differs = by_test (other == pt) refl
  where
    by_test : (test : Bool) → (other == pt) ≡ test → A
    by_test true e = same (eqb-true other pt e)
    by_test false e = differs (λ is. apart other pt e (sym is))

-- a turn of a round that isn't of this terminal's link leaves it linked, or due, as it was
pub turn-state : (v : View) (turn : Turn) (pt : ℕ) → IsInRun v → AllowedTurn v turn → is_sort_of_round (sort_of turn) ≡ true → IsOfLink pt turn ⊎ (state_in (after_turn v turn).scene.core pt ≡ state_in v.scene.core pt)
turn-state v (Start setup) pt run ok e = no-true e
turn-state v OpenFailed pt run ok e = no-true e
turn-state v (Polled now) pt run ok e = no-true e
turn-state v (Opened till) pt run ok e = inr refl
turn-state v (HeardTill till bytes) pt run ok e = inr refl
turn-state v (Closed till) pt run ok e = inr refl
turn-state v (HeardPt other bytes) pt run ok e = inr refl
turn-state v (Lost other) pt run ok e = inr refl
turn-state v Stopped pt run ok e = inr refl
turn-state v (Linked other) pt run ok e = by-number pt other (λ same. inl (inl (ap Linked same))) (λ differs. let k = call-setup v (LinkPt other) run ok in inr ((made-at-turns v.scene other k.setup k.setup_is).others pt differs))
turn-state v (LinkFailed other) pt run ok e = by-number pt other (λ same. inl (inr (inl (ap LinkFailed same)))) (λ differs. let k = call-setup v (LinkPt other) run ok in inr ((lost-at-turns v.scene other k.setup k.setup_is).others pt differs))
turn-state v (SentTill till bytes true) pt run ok e = inr refl
turn-state v (SentTill till bytes false) pt run ok e = inr refl
turn-state v (SentPt other bytes true) pt run ok e = inr refl
turn-state v (SentPt other bytes false) pt run ok e = inr refl
turn-state v (CutTill till) pt run ok e = inr (without-states till v.scene.core.terminals pt)
turn-state v (CutPt other) pt run ok e = by-number pt other (λ same. inl (inr (inr (ap CutPt same)))) (λ differs. let k = call-setup v (OwedCutPt other) run ok in inr ((lost-at-turns v.scene other k.setup k.setup_is).others pt differs))
turn-state v (Wrote offset bytes) pt run ok e = inr refl
turn-state v Synced pt run ok e = inr refl
turn-state v DiskFailed pt run ok e = inr refl
turn-state v (Crash file) pt run ok e = no-true e

-- ---- along a course

pub turn-agrees : (v : View) (turn : Turn) → Agrees v → AllowedTurn v turn → Agrees (after_turn v turn)
turn-agrees v turn a ok = record { run = turn-run v turn a.run ok; ends = turn-ends v turn a.ends ok; links = by_links a.links }
  where
    by_links : Settled v ⊎ Losing v → Settled (after_turn v turn) ⊎ Losing (after_turn v turn)
    by_links (inl s) = by_turn (settled-turn v turn a.run a.ends s ok)
      where
        by_turn : Settled (after_turn v turn) ⊎ OrLost v turn → Settled (after_turn v turn) ⊎ Losing (after_turn v turn)
        by_turn (inl s) = inl s
        by_turn (inr lost) = inr lost.2
    by_links (inr l) = inl (losing-turn v turn l ok)

-- an item that begins leaves none that was lost and isn't handled
pub begin-agrees : (v : View) → Agrees v → Begins v → IsInRun (after v Begin) × Settled (after v Begin)
begin-agrees v a b = (begin-run v a.run b.idle.round, by_links a.links)
  where
    by_links : Settled v ⊎ Losing v → Settled (after v Begin)
    by_links (inl s) = begin-settled v a.run s b
    by_links (inr l) = begin-losing v a.run l b

pub move-agrees : (v : View) (move : Move) → Agrees v → Allowed v move → Agrees (after v move)
move-agrees v Begin a ok = let b = begin-agrees v a ok in record { run = b.0; ends = begin-ends v.scene v.items; links = inl b.1 }
move-agrees v (Read as_read) a ok = record { run = read-run v as_read a.run ok.idle.round; ends = refl; links = by_links a.links }
  where
    by_links : Settled v ⊎ Losing v → Settled (after v (Read as_read)) ⊎ Losing (after v (Read as_read))
    by_links (inl s) = inl (read-settled v as_read s)
    by_links (inr l) = read-losing v as_read l ok
move-agrees v (Make turn) a ok = turn-agrees v turn a ok

pub first-agrees : Agrees at_first
first-agrees = record { run = first-run; ends = refl; links = inl (record { linked = λ number. refl; even = λ number odd. cc; settings = tt; fits = tt; none = refl }) }

pub course-agrees : (v : View) (moves : List Move) → Agrees v → IsCourse v moves → Agrees (view_from v moves)
course-agrees v [] a c = a
course-agrees v (move ∷ moves) a c = course-agrees (after v move) moves (move-agrees v move a c.0) c.1

-- where a call is owed, no loss of a link waits
pub call-settled : (v : View) (call : OwedCall) → Agrees v → first_call v.calls ≡ Some call → Settled v
call-settled v call a e = by_links a.links
  where
    by_links : Settled v ⊎ Losing v → Settled v
    by_links (inl s) = s
    by_links (inr l) = losing-call v call l e

-- nor where an event may come, or a poll
pub event-settled : (v : View) → Agrees v → v.scene.stage ≡ AtPoll → Settled v
event-settled v a e = by_links a.links
  where
    by_links : Settled v ⊎ Losing v → Settled v
    by_links (inl s) = s
    by_links (inr l) = losing-event v l e

pub polled-settled : (v : View) → Agrees v → v.items ≡ [] → Settled v
polled-settled v a e = by_links a.links
  where
    by_links : Settled v ⊎ Losing v → Settled v
    by_links (inl s) = s
    by_links (inr l) = absurd (let n : [] ≡ LinkLost l.pt ∷ l.rest = sym e ∙ l.items_are in cc)
