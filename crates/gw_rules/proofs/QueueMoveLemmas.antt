-- How a terminal's queue changes with each move.
use Rattle.std.proofs.Common.{◌≡◌, ℕ, suc, Bool, true, false, not, cond, eqb, List, [], ◌∷◌, ◌++◌, refl, sym, ap, ◌∙◌, subst, inl, inr, append-nil}
use Rattle.std.proofs.lemmas.Bool.{eqb-true}
use Rattle.std.proofs.lemmas.Option.{same_Some}
use Rattle.std.specs.Prelude.{◌⊎◌, filter, slice_get, Option, Some, None}
use Rattle.gw_base.specs.declared.condition.Condition.TheVariants.{Aborted}
use Rattle.gw_base.specs.declared.key.Key.{Key}
use Rattle.gw_base.specs.declared.setup.Setup.{Setup}
use Rattle.gw_site.specs.Outside.{is_connected}
use Rattle.gw_site.specs.Sorts.{is_between}
use Rattle.gw_site.specs.declared.turn.Turn.{Turn}
use Rattle.gw_site.specs.declared.turn.Turn.TheVariants.{Start, OpenFailed, Polled, Opened, HeardTill, Closed, HeardPt, Lost, Stopped, Linked, LinkFailed, SentTill, SentPt, CutTill, CutPt, Wrote, Synced, DiskFailed, Crash}
use Rattle.sale_values.specs.declared.header.Header.{Header}
use Rattle.sale_values.specs.declared.request.Reference.{Reference}
use Rattle.sale_values.specs.declared.request.SaleRequest.{SaleRequest}
use Rattle.sale_values.specs.declared.request.SaleRequest.TheVariants as requests
use Rattle.sale_values.specs.Key.{key_of}
use Rattle.gw_ledger.specs.Keys.{same_key}
use Rattle.gw_owes.specs.Calls.{CutTill as OwedCutTill}
use Rattle.gw_owes.specs.Core.{Wait}
use Rattle.gw_owes.specs.Items.{RoundItem, Crowded, Message, Asked, Unframed, Gone, Greet, Handle, Serve, Queue, NextWaiting, Oversized, LinkLost, Late, Overdue, Due}
use Rattle.gw_owes.specs.Links.{LinkEvent, LinkIsMade, LinkIsLost, link_row}
use Rattle.gw_owes.specs.ReadAs.{ReadAs}
use Rattle.gw_owes.specs.Row.{Known, Row, owing, owing_where}
use Rattle.gw_owes.specs.Rows.{row_of, asked_row}
use Rattle.gw_owes.specs.declared.terminal.Terminal.{Terminal}
use Rattle.gw_owes.specs.TerminalRows.{terminal_row}
use Rattle.gw_owes.specs.WaitingRows.{is_overdue, of_waiting, overdue_row, queue_row, taken_out, wait_of}
use Rattle.gw_owes.specs.Waits.{core_without_wait, first_waiting, queue_of, waiting_with}
use Rattle.gw_owes.proofs.HandlingLemmas.{by-where}
use Rattle.gw_owes.proofs.NextLemmas.{AbortsWaiting, WaitsFirst, each-next, each-queued}
use Rattle.gw_owes.proofs.NextOrderLemmas.{IsThere, first-there}
use Rattle.gw_owes.proofs.RecordLemmas.{same-key-is}
use Rattle.gw_owes.proofs.TerminalLemmas.{link-leaves-waits, row-leaves-waits}
use Rattle.gw_owes.proofs.WaitingListLemmas.{WaitOnce, left-there, queue-pushed, waits-under}
use Rattle.gw_rules.specs.Lawful.{may_begin, Begins, Stands}
use Rattle.gw_rules.specs.QueueLaws.{EachLogHasWaitsInOrder, EachMoveChangesQueues, QueueChange, Stays, Joins, FirstLeaves, AbortedLeaves, OverdueLeaves, TillLeaves, RunEnds, BeginsWith, NoneEnds, keys_due, queue_in, without_key, not_of_till}
use Rattle.gw_rules.specs.Scene.{Scene, known_in, row_in}
use Rattle.gw_rules.specs.Stage.{Stage, Resting, Opening, Looking, AtPoll, Handling, Over, Broken, is_broken, is_round}
use Rattle.gw_rules.specs.View.{View, Begin, Read, Make, after, after_turn, begin}
use Rattle.gw_rules.proofs.DayLogLemmas.{stands-agree}
use Rattle.gw_rules.proofs.LinkStateLemmas.{apart}
use Rattle.gw_rules.proofs.LinkedLemmas.{round-setup}
use Rattle.gw_rules.proofs.StageLemmas.{no-true}

-- ---- lists

-- two tests may be made in either order
filter-turned : (one other : Wait → Bool) (all : List Wait) → filter one (filter other all) ≡ filter other (filter one all)
filter-turned one other [] = refl
filter-turned one other (wait ∷ all) = by-tests (one wait) (other wait) refl refl (filter-turned one other all)
  where
    some : List Wait
    some = filter one all

    other_some : List Wait
    other_some = filter other all

    by-tests : (a b : Bool) → one wait ≡ a → other wait ≡ b → filter one (filter other all) ≡ filter other (filter one all)
        → filter one (cond b (wait ∷ other_some) other_some) ≡ filter other (cond a (wait ∷ some) some)
    by-tests true true e f same = ap (λ (b : Bool). cond b (wait ∷ filter one other_some) (filter one other_some)) e ∙ (ap (λ (l : List Wait). wait ∷ l) same ∙ sym (ap (λ (b : Bool). cond b (wait ∷ filter other some) (filter other some)) f))
    by-tests true false e f same = same ∙ sym (ap (λ (b : Bool). cond b (wait ∷ filter other some) (filter other some)) f)
    by-tests false true e f same = ap (λ (b : Bool). cond b (wait ∷ filter one other_some) (filter one other_some)) e ∙ same
    by-tests false false e f same = same

-- where each passes all are left
filter-all : (test : Wait → Bool) (all : List Wait) → ((at : ℕ) (wait : Wait) → slice_get all at ≡ Some wait → test wait ≡ true) → filter test all ≡ all
filter-all test [] passes = refl
filter-all test (wait ∷ all) passes =
    ap (λ (b : Bool). cond b (wait ∷ filter test all) (filter test all)) (passes 0 wait refl) ∙ ap (λ (l : List Wait). wait ∷ l) (filter-all test all (λ at one there. passes (suc at) one there))

-- the queue of a terminal without this key
queue-without : (number : ℕ) (key : Key) (waits : List Wait) → queue_of number (filter (λ (wait : Wait). not (same_key key wait.key)) waits) ≡ without_key key (queue_of number waits)
queue-without number key waits = filter-turned (λ (wait : Wait). eqb wait.pt number) (λ (wait : Wait). not (same_key key wait.key)) waits

queue-not-of : (number till : ℕ) (waits : List Wait) → queue_of number (filter (λ (wait : Wait). not (eqb wait.till till)) waits) ≡ not_of_till till (queue_of number waits)
queue-not-of number till waits = filter-turned (λ (wait : Wait). eqb wait.pt number) (λ (wait : Wait). not (eqb wait.till till)) waits

-- no request has the key of one that waits for another terminal
other-queue : (waits : List Wait) (pt number : ℕ) (wait : Wait) → WaitOnce waits → (at : ℕ) → slice_get waits at ≡ Some wait → wait.pt ≡ pt → (pt ≡ number → ⊥) → without_key wait.key (queue_of number waits) ≡ queue_of number waits
other-queue waits pt number wait once at there is apart = filter-all (λ (other : Wait). not (same_key wait.key other.key)) (queue_of number waits) passes
  where
    passes : (place : ℕ) (other : Wait) → slice_get (queue_of number waits) place ≡ Some other → not (same_key wait.key other.key) ≡ true
    passes place other found = by-test (same_key wait.key other.key) refl
      where
        by-test : (same : Bool) → same_key wait.key other.key ≡ same → not same ≡ true
        by-test false e = refl
        by-test true e =
            let left = left-there (λ (w : Wait). eqb w.pt number) waits place other found in
            let places : at ≡ left.place = once at left.place wait other there left.there e in
            let same : wait ≡ other = same_Some wait other (sym there ∙ (ap (slice_get waits) places ∙ left.there)) in
            absurd (apart (sym is ∙ (ap (λ (w : Wait). w.pt) same ∙ eqb-true other.pt number left.passes)))

-- ---- requests that come to their end

-- the key that a request aborts
abbrev abort_key : Header → SaleRequest → Option Key
abort_key header requests.Login = None
abort_key header requests.Logout = None
abort_key header (requests.Payment payment) = None
abort_key header (requests.Reversal reversal) = None
abort_key header (requests.Abort reference) = Some (key_of header reference)
abort_key header (requests.Status reference) = None
abort_key header (requests.Reconciliation period) = None
abort_key header (requests.Display outputs) = None
abort_key header (requests.Print qualifier) = None
abort_key header requests.Diagnosis = None

-- the key that an item aborts
abbrev key_aborted : RoundItem → Option Key
key_aborted (Crowded till) = None
key_aborted (Message till bytes) = None
key_aborted (Asked till as_read) = None
key_aborted (Unframed till) = None
key_aborted (Gone till) = None
key_aborted (Greet pt apdu) = None
key_aborted (Handle pt apdu) = None
key_aborted (Serve pt till header request) = None
key_aborted (Queue pt till header request) = abort_key header request
key_aborted (NextWaiting pt) = None
key_aborted (Oversized pt) = None
key_aborted (LinkLost pt) = None
key_aborted (Late pt) = None
key_aborted (Overdue key) = None
key_aborted (Due pt) = None

-- the item is of a till that is gone
abbrev is_of_gone : RoundItem → Bool
is_of_gone (Crowded till) = false
is_of_gone (Message till bytes) = false
is_of_gone (Asked till as_read) = false
is_of_gone (Unframed till) = false
is_of_gone (Gone till) = true
is_of_gone (Greet pt apdu) = false
is_of_gone (Handle pt apdu) = false
is_of_gone (Serve pt till header request) = false
is_of_gone (Queue pt till header request) = false
is_of_gone (NextWaiting pt) = false
is_of_gone (Oversized pt) = false
is_of_gone (LinkLost pt) = false
is_of_gone (Late pt) = false
is_of_gone (Overdue key) = false
is_of_gone (Due pt) = false

module _ (v : View) (item : RoundItem) (rest : List RoundItem) (items_are : v.items ≡ item ∷ rest) where
  begins-is : (other : RoundItem) → BeginsWith v Begin other → item ≡ other
  begins-is other begins = let both : item ∷ rest ≡ other ∷ begins.rest = sym items_are ∙ begins.items_are in cc

  -- by the key that the item aborts, that whose deadline it looks at, and whether it is of a till that is gone
  item-ends-none : ((key : Key) → key_aborted item ≡ Some key → waiting_with key v.scene.core.waits ≡ None)
      → ((wait : Wait) → keys_due (item ∷ []) ≡ wait.key ∷ [] → waiting_with wait.key v.scene.core.waits ≡ Some wait → is_overdue v.scene.outside.moment wait ≡ false) → is_of_gone item ≡ false → NoneEnds v Begin
  item-ends-none aborted early gone = record {
    aborted = λ named till header reference begins. aborted (key_of header reference) (ap key_aborted (begins-is (Queue named till header (requests.Abort reference)) begins));
    overdue = λ wait begins found. early wait (ap (λ (i : RoundItem). keys_due (i ∷ [])) (begins-is (Overdue wait.key) begins)) found;
    there = still-there;
    goes_on = λ turn is. absurd (let both : Begin ≡ Make turn = is in cc);
  }
    where
      still-there : (till : ℕ) → BeginsWith v Begin (Gone till) ⊎ (Begin ≡ Make (CutTill till)) → ⊥
      still-there till (inl begins) = no-true (sym gone ∙ ap is_of_gone (begins-is (Gone till) begins))
      still-there till (inr is) = absurd (let both : Begin ≡ Make (CutTill till) = is in cc)

  -- it is none of these
  plain-ends-none : (other : RoundItem) → item ≡ other → key_aborted other ≡ None → keys_due (other ∷ []) ≡ [] → is_of_gone other ≡ false → NoneEnds v Begin
  plain-ends-none other is none undue there =
      item-ends-none (λ key aborted. absurd (let both : None ≡ Some key = sym (ap key_aborted is ∙ none) ∙ aborted in cc))
      (λ wait due found. absurd (let both : [] ≡ wait.key ∷ [] = sym (ap (λ (i : RoundItem). keys_due (i ∷ [])) is ∙ undue) ∙ due in cc)) (ap is_of_gone is ∙ there)

  -- nothing waits under the key that it aborts
  abort-ends-none : (pt till : ℕ) (header : Header) (reference : Reference) → item ≡ Queue pt till header (requests.Abort reference) → waiting_with (key_of header reference) v.scene.core.waits ≡ None → NoneEnds v Begin
  abort-ends-none pt till header reference is none =
      item-ends-none (λ key aborted. subst (λ (k : Key). waiting_with k v.scene.core.waits ≡ None) (same_Some (key_of header reference) key (sym (ap key_aborted is) ∙ aborted)) none)
      (λ wait due found. absurd (let both : [] ≡ wait.key ∷ [] = sym (ap (λ (i : RoundItem). keys_due (i ∷ [])) is) ∙ due in cc)) (ap is_of_gone is)

  -- what waits under the key that it looks at has time yet
  early-ends-none : (key : Key) → item ≡ Overdue key → ((wait : Wait) → waiting_with key v.scene.core.waits ≡ Some wait → is_overdue v.scene.outside.moment wait ≡ false) → NoneEnds v Begin
  early-ends-none key is early =
      item-ends-none (λ other aborted. absurd (let both : None ≡ Some other = sym (ap key_aborted is) ∙ aborted in cc))
      (λ wait due found. early wait (subst (λ (k : Key). waiting_with k v.scene.core.waits ≡ Some wait) (sym (same-key wait due)) found)) (ap is_of_gone is)
    where
      same-key : (wait : Wait) → keys_due (item ∷ []) ≡ wait.key ∷ [] → key ≡ wait.key
      same-key wait due = let both : key ∷ [] ≡ wait.key ∷ [] = sym (ap (λ (i : RoundItem). keys_due (i ∷ [])) is) ∙ due in cc

-- a turn that cuts no till goes on
turn-ends-none : (v : View) (turn : Turn) → ((till : ℕ) → turn ≡ CutTill till → ⊥) → is_between turn ≡ false → NoneEnds v (Make turn)
turn-ends-none v turn uncut between = record {
  aborted = λ named till header reference begins. absurd (not-begun (Queue named till header (requests.Abort reference)) begins);
  overdue = λ wait begins found. absurd (not-begun (Overdue wait.key) begins);
  there = still-there;
  goes_on = λ other is. subst (λ (t : Turn). is_between t ≡ false) (same-turn other is) between;
}
  where
    not-begun : (item : RoundItem) → BeginsWith v (Make turn) item → ⊥
    not-begun item begins = absurd (let both : Make turn ≡ Begin = begins.move_is in cc)

    same-turn : (other : Turn) → Make turn ≡ Make other → turn ≡ other
    same-turn other is = let both : Make turn ≡ Make other = is in cc

    still-there : (till : ℕ) → BeginsWith v (Make turn) (Gone till) ⊎ (Make turn ≡ Make (CutTill till)) → ⊥
    still-there till (inl begins) = not-begun (Gone till) begins
    still-there till (inr is) = uncut till (same-turn (CutTill till) is)

-- so does what is read
read-ends-none : (v : View) (as_read : ReadAs) → NoneEnds v (Read as_read)
read-ends-none v as_read = record {
  aborted = λ named till header reference begins. absurd (not-begun (Queue named till header (requests.Abort reference)) begins);
  overdue = λ wait begins found. absurd (not-begun (Overdue wait.key) begins);
  there = still-there;
  goes_on = λ turn is. absurd (let both : Read as_read ≡ Make turn = is in cc);
}
  where
    not-begun : (item : RoundItem) → BeginsWith v (Read as_read) item → ⊥
    not-begun item begins = absurd (let both : Read as_read ≡ Begin = begins.move_is in cc)

    still-there : (till : ℕ) → BeginsWith v (Read as_read) (Gone till) ⊎ (Read as_read ≡ Make (CutTill till)) → ⊥
    still-there till (inl begins) = not-begun (Gone till) begins
    still-there till (inr is) = absurd (let both : Read as_read ≡ Make (CutTill till) = is in cc)

-- ---- an item that begins

module _ (v : View) (setup : Setup) (item : RoundItem) (rest : List RoundItem) (items_are : v.items ≡ item ∷ rest) (number : ℕ) where
  abbrev known : Known
  known = known_in v.scene setup

  abbrev Changes : Row → Type 0
  Changes row = QueueChange v Begin number (queue_in v number) (queue_of number row.core.waits)

  -- nothing is changed by an item that aborts nothing, looks at no deadline and is of no till that is gone
  plain : (other : RoundItem) → item ≡ other → key_aborted other ≡ None → keys_due (other ∷ []) ≡ [] → is_of_gone other ≡ false → NoneEnds v Begin
  plain = plain-ends-none v item rest items_are

  same-changes : (row : Row) → NoneEnds v Begin → row.core.waits ≡ v.scene.core.waits → Changes row
  same-changes row none same = Stays none (ap (queue_of number) same)

  first-is : (other : RoundItem) → item ≡ other → BeginsWith v Begin other
  first-is other same = record { move_is = refl; rest = rest; items_are = items_are ∙ ap (λ (i : RoundItem). i ∷ rest) same }

  -- one joins
  joins-changes : (pt till : ℕ) (header : Header) (request : SaleRequest) (key : Key) → item ≡ Queue pt till header request → NoneEnds v Begin
      → QueueChange v Begin number (queue_in v number) (queue_of number (v.scene.core.waits ++ wait_of known pt till header request key ∷ []))
  joins-changes pt till header request key is none = by-number (eqb pt number) refl
    where
      new : Wait
      new = wait_of known pt till header request key

      by-number : (same : Bool) → eqb pt number ≡ same → QueueChange v Begin number (queue_in v number) (queue_of number (v.scene.core.waits ++ new ∷ []))
      by-number true e =
          Joins new (first-is (Queue number till header request) (is ∙ ap (λ (n : ℕ). Queue n till header request) (eqb-true pt number e)))
          (queue-pushed number v.scene.core.waits new ∙ ap (λ (b : Bool). queue_in v number ++ cond b (new ∷ []) []) e)
      by-number false e =
          Stays none (queue-pushed number v.scene.core.waits new ∙ (ap (λ (b : Bool). queue_in v number ++ cond b (new ∷ []) []) e ∙ append-nil (queue_in v number)))

  -- one is aborted
  aborted-changes : (pt till : ℕ) (header : Header) (request : SaleRequest) (wait : Wait) → item ≡ Queue pt till header request → AbortsWaiting known header request wait
      → QueueChange v Begin number (queue_in v number) (queue_of number (core_without_wait v.scene.core wait.key).waits)
  aborted-changes pt till header request wait is at =
      let under = waits-under (key_of header at.reference) v.scene.core.waits wait at.waits_is in
      let key_is : key_of header at.reference ≡ wait.key = same-key-is (key_of header at.reference) wait.key under.same in
      AbortedLeaves pt till header at.reference (first-is (Queue pt till header (requests.Abort at.reference)) (is ∙ ap (Queue pt till header) at.request_is))
      (queue-without number wait.key v.scene.core.waits ∙ ap (λ (k : Key). without_key k (queue_in v number)) (sym key_is))

  -- the first is begun or refused
  first-changes : WaitOnce v.scene.core.waits → (pt : ℕ) (wait : Wait) → item ≡ NextWaiting pt → (terminal : Terminal) (last : ℕ) → WaitsFirst known pt terminal last wait
      → QueueChange v Begin number (queue_in v number) (queue_of number (core_without_wait v.scene.core wait.key).waits)
  first-changes order pt wait is terminal last first = by-number (eqb pt number) refl
    where
      there : IsThere v.scene.core.waits pt wait
      there = first-there pt v.scene.core.waits wait first.first_is

      by-number : (same : Bool) → eqb pt number ≡ same → QueueChange v Begin number (queue_in v number) (queue_of number (core_without_wait v.scene.core wait.key).waits)
      by-number true e =
          let number_is : pt ≡ number = eqb-true pt number e in
          FirstLeaves wait (first-is (NextWaiting number) (is ∙ ap NextWaiting number_is))
          (sym (ap (λ (n : ℕ). first_waiting (queue_of n v.scene.core.waits)) number_is) ∙ first.first_is) (queue-without number wait.key v.scene.core.waits)
      by-number false e =
          Stays (plain (NextWaiting pt) is refl refl refl) (queue-without number wait.key v.scene.core.waits
          ∙ other-queue v.scene.core.waits pt number wait order there.at there.there there.number_is (apart pt number e))

  -- one is overdue
  overdue-changes : (key : Key) (wait : Wait) → item ≡ Overdue key → waiting_with key v.scene.core.waits ≡ Some wait → is_overdue v.scene.outside.moment wait ≡ true
      → QueueChange v Begin number (queue_in v number) (queue_of number (core_without_wait v.scene.core wait.key).waits)
  overdue-changes key wait is waits overdue =
      let under = waits-under key v.scene.core.waits wait waits in
      let key_is : key ≡ wait.key = same-key-is key wait.key under.same in
      OverdueLeaves wait (first-is (Overdue wait.key) (is ∙ ap Overdue key_is)) (subst (λ (k : Key). waiting_with k v.scene.core.waits ≡ Some wait) key_is waits) overdue (queue-without number wait.key v.scene.core.waits)

  -- a request that aborts nothing
  request-changes : (pt till : ℕ) (header : Header) (request : SaleRequest) → item ≡ Queue pt till header request → abort_key header request ≡ None → Changes (queue_row known pt till header request)
  request-changes pt till header request is aborts =
      let none : NoneEnds v Begin = plain (Queue pt till header request) is aborts refl refl in
      each-queued Changes known pt till header request (record {
        none = Stays none refl;
        joins = λ terminal key at. joins-changes pt till header request key is none;
        taken = λ wait at. aborted-changes pt till header request wait is at;
      })

  -- an Abort, by what waits under its key
  abort-changes : (pt till : ℕ) (header : Header) (reference : Reference) → item ≡ Queue pt till header (requests.Abort reference) → Changes (queue_row known pt till header (requests.Abort reference))
  abort-changes pt till header reference is = by-found (waiting_with (key_of header reference) v.scene.core.waits) refl
    where
      by-found : (found : Option Wait) → waiting_with (key_of header reference) v.scene.core.waits ≡ found → Changes (of_waiting known (taken_out known Aborted) found)
      by-found None none = Stays (abort-ends-none v item rest items_are pt till header reference is none) refl
      by-found (Some wait) some = aborted-changes pt till header (requests.Abort reference) wait is (record { reference = reference; request_is = refl; waits_is = some })

  queue-changes : (pt till : ℕ) (header : Header) (request : SaleRequest) → item ≡ Queue pt till header request → Changes (queue_row known pt till header request)
  queue-changes pt till header requests.Login is = request-changes pt till header requests.Login is refl
  queue-changes pt till header requests.Logout is = request-changes pt till header requests.Logout is refl
  queue-changes pt till header (requests.Payment payment) is = request-changes pt till header (requests.Payment payment) is refl
  queue-changes pt till header (requests.Reversal reversal) is = request-changes pt till header (requests.Reversal reversal) is refl
  queue-changes pt till header (requests.Abort reference) is = abort-changes pt till header reference is
  queue-changes pt till header (requests.Status reference) is = request-changes pt till header (requests.Status reference) is refl
  queue-changes pt till header (requests.Reconciliation period) is = request-changes pt till header (requests.Reconciliation period) is refl
  queue-changes pt till header (requests.Display outputs) is = request-changes pt till header (requests.Display outputs) is refl
  queue-changes pt till header (requests.Print qualifier) is = request-changes pt till header (requests.Print qualifier) is refl
  queue-changes pt till header requests.Diagnosis is = request-changes pt till header requests.Diagnosis is refl

  -- a deadline, by what waits under its key
  deadline-changes : (key : Key) → item ≡ Overdue key → Changes (overdue_row known key)
  deadline-changes key is = by-found (waiting_with key v.scene.core.waits) refl
    where
      by-due : (wait : Wait) → waiting_with key v.scene.core.waits ≡ Some wait → (due : Bool) → is_overdue v.scene.outside.moment wait ≡ due → Changes (owing_where due known (taken_out known Aborted wait))
      by-due wait some true due = overdue-changes key wait is some due
      by-due wait some false early =
          Stays (early-ends-none v item rest items_are key is (λ other found. subst (λ (w : Wait). is_overdue v.scene.outside.moment w ≡ false) (same_Some wait other (sym some ∙ found)) early)) refl

      by-found : (found : Option Wait) → waiting_with key v.scene.core.waits ≡ found
          → Changes (of_waiting known (λ (wait : Wait). owing_where (is_overdue v.scene.outside.moment wait) known (taken_out known Aborted wait)) found)
      by-found None none = Stays (early-ends-none v item rest items_are key is (λ other found. absurd (let both : None ≡ Some other = sym none ∙ found in cc))) refl
      by-found (Some wait) some = by-due wait some (is_overdue v.scene.outside.moment wait) refl

  item-changes : WaitOnce v.scene.core.waits → (other : RoundItem) → item ≡ other → Changes (row_of v.scene.outside.tills known other)
  item-changes order (Crowded till) is = Stays (plain (Crowded till) is refl refl refl) refl
  item-changes order (Message till bytes) is = Stays (plain (Message till bytes) is refl refl refl) refl
  item-changes order (Asked till as_read) is = by-where Changes known (asked_row known till as_read) (is_connected v.scene.outside.tills till) (Stays (plain (Asked till as_read) is refl refl refl) refl) (λ there. Stays (plain (Asked till as_read) is refl refl refl) refl)
  item-changes order (Unframed till) is = by-where Changes known (owing known (OwedCutTill till ∷ [])) (is_connected v.scene.outside.tills till) (Stays (plain (Unframed till) is refl refl refl) refl) (λ there. Stays (plain (Unframed till) is refl refl refl) refl)
  item-changes order (Gone till) is = TillLeaves till (inl (first-is (Gone till) is)) (queue-not-of number till v.scene.core.waits)
  item-changes order (Greet pt apdu) is = same-changes (terminal_row known (Greet pt apdu)) (plain (Greet pt apdu) is refl refl refl) (row-leaves-waits known (Greet pt apdu) refl)
  item-changes order (Handle pt apdu) is = same-changes (terminal_row known (Handle pt apdu)) (plain (Handle pt apdu) is refl refl refl) (row-leaves-waits known (Handle pt apdu) refl)
  item-changes order (Serve pt till header request) is = same-changes (terminal_row known (Serve pt till header request)) (plain (Serve pt till header request) is refl refl refl) (row-leaves-waits known (Serve pt till header request) refl)
  item-changes order (Queue pt till header request) is = queue-changes pt till header request is
  item-changes order (NextWaiting pt) is = each-next Changes known pt (record {
    none = Stays (plain (NextWaiting pt) is refl refl refl) refl;
    refused = λ terminal last wait condition first refused. first-changes order pt wait is terminal last first;
    begins = λ terminal last wait asking at. first-changes order pt wait is terminal last at.first;
    day = λ terminal last wait at. first-changes order pt wait is terminal last at.first;
    left = λ terminal last wait first. first-changes order pt wait is terminal last first;
  })
  item-changes order (Oversized pt) is = same-changes (terminal_row known (Oversized pt)) (plain (Oversized pt) is refl refl refl) (row-leaves-waits known (Oversized pt) refl)
  item-changes order (LinkLost pt) is = same-changes (terminal_row known (LinkLost pt)) (plain (LinkLost pt) is refl refl refl) (row-leaves-waits known (LinkLost pt) refl)
  item-changes order (Late pt) is = same-changes (terminal_row known (Late pt)) (plain (Late pt) is refl refl refl) (row-leaves-waits known (Late pt) refl)
  item-changes order (Overdue key) is = deadline-changes key is
  item-changes order (Due pt) is = same-changes (terminal_row known (Due pt)) (plain (Due pt) is refl refl refl) (row-leaves-waits known (Due pt) refl)

-- a round isn't broken
round-unbroken : (stage : Stage) → is_round stage ≡ true → is_broken stage ≡ false
round-unbroken Resting e = refl
round-unbroken (Opening refused) e = refl
round-unbroken (Looking refused) e = refl
round-unbroken AtPoll e = refl
round-unbroken Handling e = refl
round-unbroken Over e = refl
round-unbroken Broken e = no-true e

begin-changes : EachLogHasWaitsInOrder → (log : List Turn) (v : View) (number : ℕ) → Stands log v → Begins v → QueueChange v Begin number (queue_in v number) (queue_in (after v Begin) number)
begin-changes ordered log v number stands begins = by-items v.items refl
  where
    by-items : (items : List RoundItem) → v.items ≡ items → QueueChange v Begin number (queue_in v number) (queue_in (after v Begin) number)
    by-items [] e = no-true (sym (ap (may_begin v.scene) e) ∙ begins.first)
    by-items (item ∷ rest) e =
        let has = round-setup v (stands-agree log v stands).run begins.idle.round in
        let were = ordered log v has.setup stands has.setup_is (round-unbroken v.scene.stage begins.idle.round) in
        subst (λ (l : List RoundItem). QueueChange v Begin number (queue_in v number) (queue_of number (begin v.scene l).scene.core.waits)) (sym e)
        (subst (λ (s : Option Setup). QueueChange v Begin number (queue_in v number) (queue_of number (row_in v.scene (λ known. row_of v.scene.outside.tills known item) s).core.waits)) (sym has.setup_is)
        (item-changes v has.setup item rest e number were.once item refl))

-- ---- a turn

link-same : (scene : Scene) (pt : ℕ) (event : LinkEvent) (setup : Option Setup) → (row_in scene (λ known. link_row known pt event) setup).core.waits ≡ scene.core.waits
link-same scene pt event None = refl
link-same scene pt event (Some setup) = link-leaves-waits (known_in scene setup) pt event

turn-changes : (v : View) (turn : Turn) (number : ℕ) → QueueChange v (Make turn) number (queue_in v number) (queue_in (after_turn v turn) number)
turn-changes v (Start setup) number = RunEnds (Start setup) refl refl refl
turn-changes v OpenFailed number = RunEnds OpenFailed refl refl refl
turn-changes v (Polled now) number = Stays (turn-ends-none v (Polled now) (λ other is. absurd cc) refl) refl
turn-changes v (Opened till) number = Stays (turn-ends-none v (Opened till) (λ other is. absurd cc) refl) refl
turn-changes v (HeardTill till bytes) number = Stays (turn-ends-none v (HeardTill till bytes) (λ other is. absurd cc) refl) refl
turn-changes v (Closed till) number = Stays (turn-ends-none v (Closed till) (λ other is. absurd cc) refl) refl
turn-changes v (HeardPt pt bytes) number = Stays (turn-ends-none v (HeardPt pt bytes) (λ other is. absurd cc) refl) refl
turn-changes v (Lost pt) number = Stays (turn-ends-none v (Lost pt) (λ other is. absurd cc) refl) refl
turn-changes v Stopped number = Stays (turn-ends-none v Stopped (λ other is. absurd cc) refl) refl
turn-changes v (Linked pt) number = Stays (turn-ends-none v (Linked pt) (λ other is. absurd cc) refl) (ap (queue_of number) (link-same v.scene pt LinkIsMade v.scene.setup))
turn-changes v (LinkFailed pt) number = Stays (turn-ends-none v (LinkFailed pt) (λ other is. absurd cc) refl) (ap (queue_of number) (link-same v.scene pt LinkIsLost v.scene.setup))
turn-changes v (SentTill till bytes true) number = Stays (turn-ends-none v (SentTill till bytes true) (λ other is. absurd cc) refl) refl
turn-changes v (SentTill till bytes false) number = Stays (turn-ends-none v (SentTill till bytes false) (λ other is. absurd cc) refl) refl
turn-changes v (SentPt pt bytes true) number = Stays (turn-ends-none v (SentPt pt bytes true) (λ other is. absurd cc) refl) refl
turn-changes v (SentPt pt bytes false) number = Stays (turn-ends-none v (SentPt pt bytes false) (λ other is. absurd cc) refl) refl
turn-changes v (CutTill till) number = TillLeaves till (inr refl) (queue-not-of number till v.scene.core.waits)
turn-changes v (CutPt pt) number = Stays (turn-ends-none v (CutPt pt) (λ other is. absurd cc) refl) (ap (queue_of number) (link-same v.scene pt LinkIsLost v.scene.setup))
turn-changes v (Wrote offset bytes) number = Stays (turn-ends-none v (Wrote offset bytes) (λ other is. absurd cc) refl) refl
turn-changes v Synced number = Stays (turn-ends-none v Synced (λ other is. absurd cc) refl) refl
turn-changes v DiskFailed number = Stays (turn-ends-none v DiskFailed (λ other is. absurd cc) refl) refl
turn-changes v (Crash file) number = RunEnds (Crash file) refl refl refl

pub each-move-changes : EachLogHasWaitsInOrder → EachMoveChangesQueues
each-move-changes ordered log v Begin number stands allowed = begin-changes ordered log v number stands allowed
each-move-changes ordered log v (Read as_read) number stands allowed = Stays (read-ends-none v as_read) refl
each-move-changes ordered log v (Make turn) number stands allowed = turn-changes v turn number
