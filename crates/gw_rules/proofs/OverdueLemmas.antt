-- Along each lawful course the deadline of each request that waits is still to come, or is looked at before the next poll.
use Rattle.std.proofs.Common.{◌≡◌, ◌≢◌, ◌≤◌, ℕ, ◌+◌, zero, suc, List, [], ◌∷◌, ◌++◌, refl, sym, ◌∙◌, ap, subst, true, false, inl, inr, arith}
use Rattle.std.proofs.lemmas.Bool.{not-true, not-false}
use Rattle.std.proofs.lemmas.Bool.Decides.{nat_tests}
use Rattle.std.specs.Prelude.{Bool, pos, int_lt, ◌⊎◌, ◌==◌, not, if◌then◌else◌, map, filter, fold, slice_get, Option, Some, None}
use Rattle.gw_base.specs.declared.condition.Condition.TheVariants.{Aborted}
use Rattle.gw_base.specs.declared.key.Key.{Key}
use Rattle.gw_base.specs.declared.setup.Setup.{Setup}
use Rattle.gw_site.specs.Outside.{Connection, is_connected, heard_on}
use Rattle.gw_site.specs.declared.turn.Turn.{Turn}
use Rattle.gw_site.specs.declared.turn.Turn.TheVariants.{Start, OpenFailed, Polled, Opened, HeardTill, Closed, HeardPt, Lost, Stopped, Linked, LinkFailed, SentTill, SentPt, CutTill, CutPt, Wrote, Synced, DiskFailed, Crash}
use Rattle.sale_values.specs.declared.header.Header.{Header}
use Rattle.sale_values.specs.declared.request.SaleRequest.{SaleRequest}
use Rattle.gw_ledger.specs.Keys.{same_key}
use Rattle.gw_owes.specs.Calls.{LinkPt, CutPt as OwedCutPt, CutTill as OwedCutTill}
use Rattle.gw_owes.specs.Core.{Core, Wait}
use Rattle.gw_owes.specs.Events.{till_opened_items, till_bytes_items, pt_bytes_items, among_waits, for_each_terminal, items_due, waits_by_deadline}
use Rattle.gw_owes.specs.Items.{RoundItem, Crowded, Message, Asked, Unframed, Gone, Greet, Handle, Serve, Queue, NextWaiting, Oversized, LinkLost, Late, Overdue, Due}
use Rattle.gw_owes.specs.Links.{LinkIsMade, LinkIsLost}
use Rattle.gw_owes.specs.ReadAs.{ReadAs}
use Rattle.gw_owes.specs.Row.{Known, Row, owing, owing_where}
use Rattle.gw_owes.specs.Rows.{asked_row, row_of}
use Rattle.gw_owes.specs.Terminals.{link_made, link_lost}
use Rattle.gw_owes.specs.WaitingRows.{is_overdue, next_waiting_row, of_waiting, overdue_row, queue_row, taken_out, wait_of}
use Rattle.gw_owes.specs.Waits.{waiting_with}
use Rattle.gw_owes.proofs.NextLemmas.{each-next, each-queued}
use Rattle.gw_owes.proofs.RecordLemmas.{same-key-is}
use Rattle.gw_owes.proofs.TerminalLemmas.{link-leaves-waits, row-leaves-waits}
use Rattle.gw_owes.proofs.WaitingListLemmas.{WaitOnce, left-there, none-under, pushed-there, same-key-itself, waits-under}
use Rattle.gw_rules.specs.Lawful.{AllowedTurn, Begins, IsRead, IsCourse, Stands}
use Rattle.gw_rules.specs.QueueLaws.{EachLogHasWaitsInOrder, NoneIsOverdue}
use Rattle.gw_rules.specs.Scene.{known_in, row_in, link_made_at, link_lost_at}
use Rattle.gw_rules.specs.Stage.{is_round}
use Rattle.gw_rules.specs.View.{View, Move, Begin, Read, Make, read_first, after, after_turn, view_from, at_first}
use Rattle.gw_rules.proofs.CourseLemmas.{begin-outside, stands-more}
use Rattle.gw_rules.proofs.CutLemmas.{IsAmong, has-after, has-before, none-among, is_dead, dead-busy}
use Rattle.gw_rules.proofs.DayLogLemmas.{stands-agree}
use Rattle.gw_rules.proofs.KeptLemmas.{BeginsFirst, begins-first}
use Rattle.gw_rules.proofs.KeptPhaseLemmas.{round-runs}
use Rattle.gw_rules.proofs.LinkedLemmas.{Agrees, call-setup, round-setup}
use Rattle.gw_rules.proofs.OwingLemmas.{clear-where}
use Rattle.gw_rules.proofs.ReadyQueueLemmas.{alive-before, round-alive, synced-dies, wrote-dies}
use Rattle.gw_rules.proofs.RecordRowLemmas.{lost-brings-none, made-brings-none}
use Rattle.gw_rules.proofs.SetupLemmas.{HasSetup}
use Rattle.gw_rules.proofs.StageLemmas.{no-true}

-- ---- what waits

-- the deadline is still to come at this moment, or its key is among those whose deadlines are to be looked at
abbrev WillIn : ℕ → List RoundItem → Wait → Type 0
WillIn moment items wait = (int_lt (pos moment) wait.deadline ≡ true) ⊎ IsAmong (Overdue wait.key) items

-- so it is of each of these
abbrev AllWill : ℕ → List RoundItem → List Wait → Type 0
AllWill moment items waits = (at : ℕ) (wait : Wait) → slice_get waits at ≡ Some wait → WillIn moment items wait

none-will : (moment : ℕ) (items : List RoundItem) → AllWill moment items []
none-will moment items at wait found = absurd cc

left-will : (moment : ℕ) (items : List RoundItem) (keeps : Wait → Bool) (waits : List Wait) → AllWill moment items waits → AllWill moment items (filter keeps waits)
left-will moment items keeps waits all at wait found = let left = left-there keeps waits at wait found in all left.place wait left.there

same-will : (moment : ℕ) (items : List RoundItem) (waits more : List Wait) → more ≡ waits → AllWill moment items waits → AllWill moment items more
same-will moment items waits more same all = subst (AllWill moment items) (sym same) all

-- ---- what is due

-- the request is among these
abbrev IsOneOf : Wait → List Wait → Type 0
IsOneOf wait [] = ⊥
IsOneOf wait (other ∷ waits) = (other ≡ wait) ⊎ IsOneOf wait waits

has-at : (waits : List Wait) (at : ℕ) (wait : Wait) → slice_get waits at ≡ Some wait → IsOneOf wait waits
has-at [] at wait found = absurd cc
has-at (other ∷ waits) zero wait found = inl (let n : Some other ≡ Some wait = found in cc)
has-at (other ∷ waits) (suc at) wait found = inr (has-at waits at wait found)

has-new : (waits : List Wait) (wait : Wait) → IsOneOf wait (among_waits waits wait)
has-new [] wait = inl refl
has-new (other ∷ waits) wait = by_test (int_lt wait.deadline other.deadline) (has-new waits wait)
  where
    by_test : (test : Bool) → IsOneOf wait (among_waits waits wait) → IsOneOf wait (if test then wait ∷ other ∷ waits else other ∷ among_waits waits wait)
    by_test true more = inl refl
    by_test false more = inr more

has-old : (waits : List Wait) (new wait : Wait) → IsOneOf wait waits → IsOneOf wait (among_waits waits new)
has-old [] new wait h = absurd h
has-old (other ∷ waits) new wait h = by_test (int_lt new.deadline other.deadline) (λ more. has-old waits new wait more) h
  where
    by_test : (test : Bool) → (IsOneOf wait waits → IsOneOf wait (among_waits waits new)) → IsOneOf wait (other ∷ waits) → IsOneOf wait (if test then new ∷ other ∷ waits else other ∷ among_waits waits new)
    by_test true more h = inr h
    by_test false more (inl same) = inl same
    by_test false more (inr there) = inr (more there)

has-fold : (before waits : List Wait) (wait : Wait) → IsOneOf wait before ⊎ IsOneOf wait waits → IsOneOf wait (fold among_waits before waits)
has-fold before [] wait (inl h) = h
has-fold before [] wait (inr h) = absurd h
has-fold before (other ∷ waits) wait (inl h) = has-fold (among_waits before other) waits wait (inl (has-old before other wait h))
has-fold before (other ∷ waits) wait (inr (inl same)) = has-fold (among_waits before other) waits wait (inl (subst (λ (w : Wait). IsOneOf w (among_waits before other)) same (has-new before other)))
has-fold before (other ∷ waits) wait (inr (inr there)) = has-fold (among_waits before other) waits wait (inr there)

has-item : (waits : List Wait) (wait : Wait) → IsOneOf wait waits → IsAmong (Overdue wait.key) (map (λ (w : Wait). Overdue w.key) waits)
has-item [] wait h = absurd h
has-item (other ∷ waits) wait (inl same) = ([], map (λ (w : Wait). Overdue w.key) waits, ap (λ (w : Wait). Overdue w.key ∷ map (λ (w : Wait). Overdue w.key) waits) same)
has-item (other ∷ waits) wait (inr there) = has-after (Overdue wait.key) (Overdue other.key ∷ []) (map (λ (w : Wait). Overdue w.key) waits) (has-item waits wait there)

-- of each that waits the deadline is looked at after what an event brings
due-will : (moment : ℕ) (brings : List RoundItem) (core : Core) → AllWill moment (brings ++ items_due core) core.waits
due-will moment brings core at wait found =
    inr (has-after (Overdue wait.key) brings (items_due core)
    (has-after (Overdue wait.key) (for_each_terminal 0 Late core.terminals) (map (λ (w : Wait). Overdue w.key) (waits_by_deadline core.waits) ++ for_each_terminal 0 Due core.terminals)
    (has-before (Overdue wait.key) (map (λ (w : Wait). Overdue w.key) (waits_by_deadline core.waits)) (for_each_terminal 0 Due core.terminals) (has-item (waits_by_deadline core.waits) wait (has-fold [] core.waits wait (inr (has-at core.waits at wait found)))))))

-- ---- rows

-- after the first of these come the others
among-rest : (one item : RoundItem) (items : List RoundItem) → one ≢ item → IsAmong one (item ∷ items) → IsAmong one items
among-rest one item items differs ([], rest, e) = absurd (differs (let n : item ∷ items ≡ one ∷ rest = e in cc))
among-rest one item items differs (x ∷ first, rest, e) = (first, rest, let n : item ∷ items ≡ x ∷ (first ++ one ∷ rest) = e in cc)

where-waits : (test : Bool) (known : Known) (row : Row) → row.core.waits ≡ known.core.waits → (owing_where test known row).core.waits ≡ known.core.waits
where-waits true known row same = same
where-waits false known row same = refl

-- a deadline that is set now is still to come
pos-later : (moment more : ℕ) → 1 ≤ more → int_lt (pos moment) (pos (moment + more)) ≡ true
pos-later moment more some = grind (arith, nat_tests)

module _ (tills : List Connection) (known : Known) (rest items : List RoundItem) (more : (item : RoundItem) → IsAmong item rest → IsAmong item items) where
  -- where no deadline is looked at with the first item
  passed : (item : RoundItem) → ((key : Key) → Overdue key ≢ item) → AllWill known.moment (item ∷ rest) known.core.waits → AllWill known.moment items known.core.waits
  passed item differs all at wait found = by_will (all at wait found)
    where
      by_will : WillIn known.moment (item ∷ rest) wait → WillIn known.moment items wait
      by_will (inl later) = inl later
      by_will (inr among) = inr (more (Overdue wait.key) (among-rest (Overdue wait.key) item rest (differs wait.key) among))

  queue-will : (pt till : ℕ) (header : Header) (request : SaleRequest) → 1 ≤ known.setup.wait → AllWill known.moment items known.core.waits → AllWill known.moment items (queue_row known pt till header request).core.waits
  queue-will pt till header request least all = each-queued (λ (row : Row). AllWill known.moment items row.core.waits) known pt till header request (record {
    none = all;
    joins = λ terminal key at. pushed-there (WillIn known.moment items) known.core.waits (wait_of known pt till header request key) all (inl (pos-later known.moment known.setup.wait least));
    taken = λ wait at. left-will known.moment items (λ (other : Wait). not (same_key wait.key other.key)) known.core.waits all;
  })

  next-will : (pt : ℕ) → AllWill known.moment items known.core.waits → AllWill known.moment items (next_waiting_row known pt).core.waits
  next-will pt all = each-next (λ (row : Row). AllWill known.moment items row.core.waits) known pt (record {
    none = all;
    refused = λ terminal last wait condition first is. left-will known.moment items (λ (other : Wait). not (same_key wait.key other.key)) known.core.waits all;
    begins = λ terminal last wait asking at. left-will known.moment items (λ (other : Wait). not (same_key wait.key other.key)) known.core.waits all;
    day = λ terminal last wait at. left-will known.moment items (λ (other : Wait). not (same_key wait.key other.key)) known.core.waits all;
    left = λ terminal last wait first. left-will known.moment items (λ (other : Wait). not (same_key wait.key other.key)) known.core.waits all;
  })

  -- the deadline of what waits under this key is looked at: it is taken out, or its deadline is still to come
  overdue-will : (key : Key) → WaitOnce known.core.waits → AllWill known.moment (Overdue key ∷ rest) known.core.waits → AllWill known.moment items (overdue_row known key).core.waits
  overdue-will key order all = by_found (waiting_with key known.core.waits) refl
    where
      row : Option Wait → Row
      row found = of_waiting known (λ wait. owing_where (is_overdue known.moment wait) known (taken_out known Aborted wait)) found

      others : (wait : Wait) → (same_key key wait.key ≡ true → WillIn known.moment items wait) → WillIn known.moment (Overdue key ∷ rest) wait → WillIn known.moment items wait
      others wait own (inl later) = inl later
      others wait own (inr ([], left, e)) =
          let same : key ≡ wait.key = (let n : Overdue key ∷ rest ≡ Overdue wait.key ∷ left = e in cc) in
          own (subst (λ k. same_key key k ≡ true) same (same-key-itself key))
      others wait own (inr (x ∷ first, left, e)) = inr (more (Overdue wait.key) (first, left, let n : Overdue key ∷ rest ≡ x ∷ (first ++ Overdue wait.key ∷ left) = e in cc))

      by_test : (found : Wait) → waiting_with key known.core.waits ≡ Some found → (test : Bool) → is_overdue known.moment found ≡ test → AllWill known.moment items (owing_where test known (taken_out known Aborted found)).core.waits
      by_test found is true e at wait there =
          let left = left-there (λ (other : Wait). not (same_key found.key other.key)) known.core.waits at wait there in
          let under = waits-under key known.core.waits found is in
          let key_is : key ≡ found.key = same-key-is key found.key under.same in
          others wait (λ same. no-true (sym (not-true (same_key found.key wait.key) left.passes) ∙ subst (λ k. same_key k wait.key ≡ true) key_is same)) (all left.place wait left.there)
      by_test found is false e at wait there =
          let under = waits-under key known.core.waits found is in
          let key_is : key ≡ found.key = same-key-is key found.key under.same in
          others wait (λ same.
          let one : under.place ≡ at = order under.place at found wait under.there there (subst (λ k. same_key k wait.key ≡ true) key_is same) in
          let it : found ≡ wait = (let n : Some found ≡ Some wait = sym under.there ∙ ap (slice_get known.core.waits) one ∙ there in cc) in
          inl (not-false (int_lt (pos known.moment) wait.deadline) (subst (λ (w : Wait). is_overdue known.moment w ≡ false) it e))) (all at wait there)

      by_found : (found : Option Wait) → waiting_with key known.core.waits ≡ found → AllWill known.moment items (overdue_row known key).core.waits
      by_found None is = subst (λ (found : Option Wait). AllWill known.moment items (row found).core.waits) (sym is)
          (λ at wait there. others wait (λ same. no-true (sym (none-under key known.core.waits is at wait there) ∙ same)) (all at wait there))
      by_found (Some found) is = subst (λ (found : Option Wait). AllWill known.moment items (row found).core.waits) (sym is) (by_test found is (is_overdue known.moment found) refl)

  rows-will : (item : RoundItem) → 1 ≤ known.setup.wait → WaitOnce known.core.waits → AllWill known.moment (item ∷ rest) known.core.waits → AllWill known.moment items (row_of tills known item).core.waits
  rows-will (Crowded till) least order all = passed (Crowded till) (λ key e. cc) all
  rows-will (Message till bytes) least order all = passed (Message till bytes) (λ key e. cc) all
  rows-will (Asked till as_read) least order all =
      same-will known.moment items known.core.waits (row_of tills known (Asked till as_read)).core.waits (where-waits (is_connected tills till) known (asked_row known till as_read) refl) (passed (Asked till as_read) (λ key e. cc) all)
  rows-will (Unframed till) least order all =
      same-will known.moment items known.core.waits (row_of tills known (Unframed till)).core.waits (where-waits (is_connected tills till) known (owing known (OwedCutTill till ∷ [])) refl) (passed (Unframed till) (λ key e. cc) all)
  rows-will (Gone till) least order all = left-will known.moment items (λ (wait : Wait). not (wait.till == till)) known.core.waits (passed (Gone till) (λ key e. cc) all)
  rows-will (Greet pt apdu) least order all = same-will known.moment items known.core.waits (row_of tills known (Greet pt apdu)).core.waits (row-leaves-waits known (Greet pt apdu) refl) (passed (Greet pt apdu) (λ key e. cc) all)
  rows-will (Handle pt apdu) least order all = same-will known.moment items known.core.waits (row_of tills known (Handle pt apdu)).core.waits (row-leaves-waits known (Handle pt apdu) refl) (passed (Handle pt apdu) (λ key e. cc) all)
  rows-will (Serve pt till header request) least order all = same-will known.moment items known.core.waits (row_of tills known (Serve pt till header request)).core.waits (row-leaves-waits known (Serve pt till header request) refl) (passed (Serve pt till header request) (λ key e. cc) all)
  rows-will (Queue pt till header request) least order all = queue-will pt till header request least (passed (Queue pt till header request) (λ key e. cc) all)
  rows-will (NextWaiting pt) least order all = next-will pt (passed (NextWaiting pt) (λ key e. cc) all)
  rows-will (Oversized pt) least order all = same-will known.moment items known.core.waits (row_of tills known (Oversized pt)).core.waits (row-leaves-waits known (Oversized pt) refl) (passed (Oversized pt) (λ key e. cc) all)
  rows-will (LinkLost pt) least order all = same-will known.moment items known.core.waits (row_of tills known (LinkLost pt)).core.waits (row-leaves-waits known (LinkLost pt) refl) (passed (LinkLost pt) (λ key e. cc) all)
  rows-will (Late pt) least order all = same-will known.moment items known.core.waits (row_of tills known (Late pt)).core.waits (row-leaves-waits known (Late pt) refl) (passed (Late pt) (λ key e. cc) all)
  rows-will (Overdue key) least order all = overdue-will key order all
  rows-will (Due pt) least order all = same-will known.moment items known.core.waits (row_of tills known (Due pt)).core.waits (row-leaves-waits known (Due pt) refl) (passed (Due pt) (λ key e. cc) all)

-- ---- what holds along a course

-- until the run ends
abbrev Overdues : View → Type 0
Overdues v = is_dead v.scene.stage ≡ false → AllWill v.scene.outside.moment v.items v.scene.core.waits

begin-overdues : EachLogHasWaitsInOrder → (log : List Turn) (v : View) → Stands log v → Overdues v → Begins v → Overdues (after v Begin)
begin-overdues waits log v s o b alive =
    subst (λ m. AllWill m (after v Begin).items (after v Begin).scene.core.waits) (sym (ap (λ o. o.moment) (begin-outside v.scene v.items)))
    (same-will v.scene.outside.moment (after v Begin).items (row_of v.scene.outside.tills known first.item).core.waits (after v Begin).scene.core.waits (ap (λ (c : Core). c.waits) core_is)
    (rows-will v.scene.outside.tills known first.rest (after v Begin).items more first.item k.within.wait.0 order
    (subst (λ l. AllWill v.scene.outside.moment l v.scene.core.waits) first.items_are (o (round-alive v.scene.stage (round-runs v.scene.stage b.idle.round))))))
  where
    agrees : Agrees v
    agrees = stands-agree log v s

    first : BeginsFirst v
    first = begins-first v agrees b

    k : HasSetup v.scene
    k = round-setup v agrees.run b.idle.round

    known : Known
    known = known_in v.scene k.setup

    core_is : (after v Begin).scene.core ≡ (row_of v.scene.outside.tills known first.item).core
    core_is =
        ap (λ l. (after (record v { items = l }) Begin).scene.core) first.items_are ∙ ap (λ (o : Option Setup). (row_in v.scene (λ known. row_of v.scene.outside.tills known first.item) o).core) k.setup_is

    more : (item : RoundItem) → IsAmong item first.rest → IsAmong item (after v Begin).items
    more item among = subst (IsAmong item) (sym first.left) (has-after item first.new first.rest among)

    order : WaitOnce known.core.waits
    order = (waits log v k.setup s k.setup_is (clear-where v.scene.stage is_round refl b.idle.round)).once

-- ---- turns

-- a turn that isn't an event leaves the moment and the items as they were, and lets no more wait
keep-overdues : (v w : View) → Overdues v → (is_dead v.scene.stage ≡ true → is_dead w.scene.stage ≡ true) → w.scene.outside.moment ≡ v.scene.outside.moment → w.items ≡ v.items
    → ((moment : ℕ) (items : List RoundItem) → AllWill moment items v.scene.core.waits → AllWill moment items w.scene.core.waits) → Overdues w
keep-overdues v w o dies moment items fewer alive =
    subst (λ m. AllWill m w.items w.scene.core.waits) (sym moment) (subst (λ l. AllWill v.scene.outside.moment l w.scene.core.waits) (sym items) (fewer v.scene.outside.moment v.items (o (alive-before v.scene.stage w.scene.stage dies alive))))

linked-overdues : (v : View) (pt : ℕ) → Agrees v → Overdues v → AllowedTurn v (Linked pt) → Overdues (after_turn v (Linked pt))
linked-overdues v pt a o ok =
    let k = call-setup v (LinkPt pt) a.run ok in
    let core : (link_made_at v.scene pt).core ≡ (link_made (known_in v.scene k.setup) pt).core = ap (λ (o : Option Setup). (row_in v.scene (λ known. link_made known pt) o).core) k.setup_is in
    keep-overdues v (after_turn v (Linked pt)) o (dead-busy v.scene.stage) refl (ap (λ l. l ++ v.items) (made-brings-none v.scene pt))
    (λ moment items all. same-will moment items v.scene.core.waits (link_made_at v.scene pt).core.waits (ap (λ (c : Core). c.waits) core ∙ link-leaves-waits (known_in v.scene k.setup) pt LinkIsMade) all)

lost-overdues : (v w : View) (pt : ℕ) → Overdues v → (k : HasSetup v.scene) → (is_dead v.scene.stage ≡ true → is_dead w.scene.stage ≡ true) → w.scene.outside.moment ≡ v.scene.outside.moment → w.scene.core ≡ (link_lost_at v.scene pt).core
    → w.items ≡ (link_lost_at v.scene pt).items ++ v.items → Overdues w
lost-overdues v w pt o k dies moment is_core items =
    let core : w.scene.core ≡ (link_lost (known_in v.scene k.setup) pt).core = is_core ∙ ap (λ (o : Option Setup). (row_in v.scene (λ known. link_lost known pt) o).core) k.setup_is in
    keep-overdues v w o dies moment (items ∙ ap (λ l. l ++ v.items) (lost-brings-none v.scene pt))
    (λ at_moment items all. same-will at_moment items v.scene.core.waits w.scene.core.waits (ap (λ (c : Core). c.waits) core ∙ link-leaves-waits (known_in v.scene k.setup) pt LinkIsLost) all)

turn-overdues : (v : View) (turn : Turn) → Agrees v → Overdues v → AllowedTurn v turn → Overdues (after_turn v turn)
turn-overdues v (Start setup) a o ok alive = none-will _ _
turn-overdues v OpenFailed a o ok alive = none-will _ _
turn-overdues v (Polled now) a o ok alive = due-will (after_turn v (Polled now)).scene.outside.moment [] v.scene.core
turn-overdues v (Opened till) a o ok alive = due-will (after_turn v (Opened till)).scene.outside.moment (till_opened_items till v.scene.outside.tills) v.scene.core
turn-overdues v (HeardTill till bytes) a o ok alive = due-will (after_turn v (HeardTill till bytes)).scene.outside.moment (till_bytes_items till (heard_on v.scene.outside.tills till) bytes) v.scene.core
turn-overdues v (Closed till) a o ok alive = due-will (after_turn v (Closed till)).scene.outside.moment (Gone till ∷ []) v.scene.core
turn-overdues v (HeardPt pt bytes) a o ok alive = due-will (after_turn v (HeardPt pt bytes)).scene.outside.moment (pt_bytes_items pt (heard_on v.scene.outside.links pt) bytes) v.scene.core
turn-overdues v (Lost pt) a o ok alive = due-will (after_turn v (Lost pt)).scene.outside.moment (LinkLost pt ∷ []) v.scene.core
turn-overdues v Stopped a o ok alive = no-true (sym alive)
turn-overdues v (Linked pt) a o ok alive = linked-overdues v pt a o ok alive
turn-overdues v (LinkFailed pt) a o ok alive = lost-overdues v (after_turn v (LinkFailed pt)) pt o (call-setup v (LinkPt pt) a.run ok) (dead-busy v.scene.stage) refl refl refl alive
turn-overdues v (SentTill till bytes true) a o ok alive = keep-overdues v (after_turn v (SentTill till bytes true)) o (dead-busy v.scene.stage) refl refl (λ moment items all. all) alive
turn-overdues v (SentTill till bytes false) a o ok alive = keep-overdues v (after_turn v (SentTill till bytes false)) o (dead-busy v.scene.stage) refl refl (λ moment items all. all) alive
turn-overdues v (SentPt pt bytes true) a o ok alive = keep-overdues v (after_turn v (SentPt pt bytes true)) o (dead-busy v.scene.stage) refl refl (λ moment items all. all) alive
turn-overdues v (SentPt pt bytes false) a o ok alive = keep-overdues v (after_turn v (SentPt pt bytes false)) o (dead-busy v.scene.stage) refl refl (λ moment items all. all) alive
turn-overdues v (CutTill till) a o ok alive =
    keep-overdues v (after_turn v (CutTill till)) o (dead-busy v.scene.stage) refl refl (λ moment items all. left-will moment items (λ (wait : Wait). not (wait.till == till)) v.scene.core.waits all) alive
turn-overdues v (CutPt pt) a o ok alive = lost-overdues v (after_turn v (CutPt pt)) pt o (call-setup v (OwedCutPt pt) a.run ok) (dead-busy v.scene.stage) refl refl refl alive
turn-overdues v (Wrote offset bytes) a o ok alive = keep-overdues v (after_turn v (Wrote offset bytes)) o (wrote-dies v.scene.stage) refl refl (λ moment items all. all) alive
turn-overdues v Synced a o ok alive = keep-overdues v (after_turn v Synced) o (synced-dies v.scene.stage) refl refl (λ moment items all. all) alive
turn-overdues v DiskFailed a o ok alive = no-true (sym alive)
turn-overdues v (Crash file) a o ok alive = none-will _ _

-- a message that is read is no deadline
read-among : (key : Key) (as_read : ReadAs) (items : List RoundItem) → IsAmong (Overdue key) items → IsAmong (Overdue key) (read_first as_read items)
read-among key as_read [] h = h
read-among key as_read (Message till bytes ∷ items) ([], rest, e) = absurd (let n : Message till bytes ∷ items ≡ Overdue key ∷ rest = e in cc)
read-among key as_read (Message till bytes ∷ items) (x ∷ before, rest, e) =
    let tails : items ≡ before ++ Overdue key ∷ rest = (let n : Message till bytes ∷ items ≡ x ∷ (before ++ Overdue key ∷ rest) = e in cc) in
    (Asked till as_read ∷ before, rest, ap (λ l. Asked till as_read ∷ l) tails)
read-among key as_read (Crowded till ∷ items) h = h
read-among key as_read (Asked till other ∷ items) h = h
read-among key as_read (Unframed till ∷ items) h = h
read-among key as_read (Gone till ∷ items) h = h
read-among key as_read (Greet pt apdu ∷ items) h = h
read-among key as_read (Handle pt apdu ∷ items) h = h
read-among key as_read (Serve pt till header request ∷ items) h = h
read-among key as_read (Queue pt till header request ∷ items) h = h
read-among key as_read (NextWaiting pt ∷ items) h = h
read-among key as_read (Oversized pt ∷ items) h = h
read-among key as_read (LinkLost pt ∷ items) h = h
read-among key as_read (Late pt ∷ items) h = h
read-among key as_read (Overdue other ∷ items) h = h
read-among key as_read (Due pt ∷ items) h = h

read-overdues : (v : View) (as_read : ReadAs) → Overdues v → IsRead v as_read → Overdues (after v (Read as_read))
read-overdues v as_read o r alive at wait found = by_will (o (round-alive v.scene.stage (round-runs v.scene.stage r.idle.round)) at wait found)
  where
    by_will : WillIn v.scene.outside.moment v.items wait → WillIn v.scene.outside.moment (read_first as_read v.items) wait
    by_will (inl later) = inl later
    by_will (inr among) = inr (read-among wait.key as_read v.items among)

-- ---- along a course

moves-overdues : EachLogHasWaitsInOrder → (log : List Turn) (v : View) (moves : List Move) → Stands log v → Overdues v → IsCourse v moves → Overdues (view_from v moves)
moves-overdues waits log v [] s o c = o
moves-overdues waits log v (Begin ∷ moves) s o c = moves-overdues waits (log ++ []) (after v Begin) moves (stands-more log v (Begin ∷ []) s (c.0, tt)) (begin-overdues waits log v s o c.0) c.1
moves-overdues waits log v (Read as_read ∷ moves) s o c = moves-overdues waits (log ++ []) (after v (Read as_read)) moves (stands-more log v (Read as_read ∷ []) s (c.0, tt)) (read-overdues v as_read o c.0) c.1
moves-overdues waits log v (Make turn ∷ moves) s o c = moves-overdues waits (log ++ turn ∷ []) (after_turn v turn) moves (stands-more log v (Make turn ∷ []) s (c.0, tt)) (turn-overdues v turn (stands-agree log v s) o c.0) c.1

log-overdues : EachLogHasWaitsInOrder → (log : List Turn) (v : View) → Stands log v → Overdues v
log-overdues waits log v s = subst Overdues s.view_is (moves-overdues waits [] at_first s.course (record { course = []; log_is = refl; lawful = tt; view_is = refl }) (λ alive. none-will _ _) s.lawful)

pub none-is-overdue : EachLogHasWaitsInOrder → NoneIsOverdue
none-is-overdue waits log v at wait s may found = by_will (log-overdues waits log v s (round-alive v.scene.stage may.running) at wait found)
  where
    by_will : WillIn v.scene.outside.moment v.items wait → is_overdue v.scene.outside.moment wait ≡ false
    by_will (inl later) = ap not later
    by_will (inr among) = none-among (Overdue wait.key) v.items among may.items
