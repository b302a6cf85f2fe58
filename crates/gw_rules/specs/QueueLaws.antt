-- Laws of lawful logs on the requests that wait: each terminal's queue is first in, first out, the earliest deadline comes first, and nothing waits of a till that is gone.
use Rattle.std.specs.Prelude.{◌≡◌, ◌⊎◌, ℕ, ℤ, ◌==◌, int_lt, nat_lt, not, ◌&&◌, Bool, true, false, if◌then◌else◌, List, [], ◌∷◌, ◌++◌, length, drop, map, filter, slice_get, option_to_list, Some, None, Err}
use Rattle.gw_base.specs.declared.key.Key.{Key}
use Rattle.gw_base.specs.declared.setup.Setup.{Setup}
use Rattle.gw_site.specs.Sorts.{Poll, Event, is_between, sort_of}
use Rattle.gw_site.specs.declared.turn.Turn.{Turn}
use Rattle.gw_site.specs.declared.turn.Turn.TheVariants.{Stopped, CutTill, DiskFailed}
use Rattle.sale_values.specs.declared.header.Header.{Header}
use Rattle.sale_values.specs.declared.request.Reference.{Reference}
use Rattle.sale_values.specs.declared.request.SaleRequest.TheVariants as requests
use Rattle.sale_values.specs.Key.{key_of}
use Rattle.zvt_msg.specs.MessageDecode.{decode_pt_message}
use Rattle.zvt_msg.specs.declared.fault.PtFault.{PtFault}
use Rattle.gw_ledger.specs.Keys.{same_key}
use Rattle.gw_owes.specs.Core.{Wait}
use Rattle.gw_owes.specs.Events.{waits_by_deadline}
use Rattle.gw_owes.specs.Items.{RoundItem, Crowded, Message, Asked, Unframed, Gone, Greet, Handle, Serve, Queue, NextWaiting, Oversized, LinkLost, Late, Overdue, Due}
use Rattle.gw_owes.specs.ReadAs.{ReadAs, Request, Silent, NoMessage, NoJson}
use Rattle.gw_owes.specs.WaitingLaws.{AreWaitsInOrder}
use Rattle.gw_owes.specs.WaitingRows.{is_overdue}
use Rattle.gw_owes.specs.Waits.{first_waiting, queue_of, waiting_with}
use Rattle.gw_owes.specs.declared.terminal.Standing.TheVariants.{Ready}
use Rattle.gw_owes.specs.declared.terminal.Terminal.{Terminal}
use Rattle.gw_rules.specs.Lawful.{Allowed, Begins, IsCourse, MayPoll, Stands}
use Rattle.gw_rules.specs.RecordOrder.{records_coming}
use Rattle.gw_rules.specs.Stage.{is_broken}
use Rattle.gw_rules.specs.TillLaws.{IsLeaving, is_there_after}
use Rattle.gw_rules.specs.View.{View, Move, Begin, Read, Make, after, at_item, view_from}

-- ---- what waits

-- the requests that wait for the terminal of this number, in the order in which they came
abbrev pub queue_in : View → ℕ → List Wait
queue_in v number = queue_of number v.scene.core.waits

-- after a lawful log what waits is in order, by the records that are kept once what is owed at once is made, until a call on the disk fails
abbrev pub EachLogHasWaitsInOrder : Type 0
EachLogHasWaitsInOrder =
    (log : List Turn) (v : View) (setup : Setup) → Stands log v → v.scene.setup ≡ Some setup → is_broken v.scene.stage ≡ false
    → AreWaitsInOrder (record { setup = setup; core = v.scene.core; kept = records_coming v; moment = v.scene.outside.moment })

-- and the till of each request that waits is there, or has just closed its connection
abbrev pub EachWaitingIsThere : Type 0
EachWaitingIsThere = (log : List Turn) (v : View) (at : ℕ) (wait : Wait) → Stands log v → slice_get v.scene.core.waits at ≡ Some wait → (is_there_after log wait.till ≡ true) ⊎ IsLeaving v wait.till

-- ---- how a queue changes

-- the first item begins, and it is this
pub record BeginsWith (v : View) (move : Move) (item : RoundItem) : Type 0 where
  pub move_is : move ≡ Begin
  pub rest : List RoundItem
  pub items_are : v.items ≡ item ∷ rest

-- these without that of this key
abbrev pub without_key : Key → List Wait → List Wait
without_key key waits = filter (λ (wait : Wait). not (same_key key wait.key)) waits

-- these without those of this till
abbrev pub not_of_till : ℕ → List Wait → List Wait
not_of_till till waits = filter (λ (wait : Wait). not (wait.till == till)) waits

-- with this move no request comes to its end: none waits under a key that a till aborts, of none that is looked at has the deadline come, no till is gone or cut, and no run begins or ends
pub record NoneEnds (v : View) (move : Move) : Type 0 where
  pub aborted : (named till : ℕ) (header : Header) (reference : Reference) → BeginsWith v move (Queue named till header (requests.Abort reference)) → waiting_with (key_of header reference) v.scene.core.waits ≡ None
  pub overdue : (wait : Wait) → BeginsWith v move (Overdue wait.key) → waiting_with wait.key v.scene.core.waits ≡ Some wait → is_overdue v.scene.outside.moment wait ≡ false
  pub there : (till : ℕ) → BeginsWith v move (Gone till) ⊎ (move ≡ Make (CutTill till)) → ⊥
  pub goes_on : (turn : Turn) → move ≡ Make turn → is_between turn ≡ false

-- how a terminal's queue changes with a move
pub data QueueChange (v : View) (move : Move) (number : ℕ) (old new : List Wait) : Type 0 where
  -- it stays as it is, and no request comes to its end
  Stays : NoneEnds v move → new ≡ old → QueueChange v move number old new
  -- a request of a till joins it, as the last
  Joins : (wait : Wait) → BeginsWith v move (Queue number wait.till wait.header wait.request) → new ≡ old ++ wait ∷ [] → QueueChange v move number old new
  -- the first of them, which came before the others, is begun or refused
  FirstLeaves : (wait : Wait) → BeginsWith v move (NextWaiting number) → first_waiting old ≡ Some wait → new ≡ without_key wait.key old → QueueChange v move number old new
  -- the one that a till's Abort names leaves it
  AbortedLeaves : (named till : ℕ) (header : Header) (reference : Reference) → BeginsWith v move (Queue named till header (requests.Abort reference)) → new ≡ without_key (key_of header reference) old → QueueChange v move number old new
  -- the one leaves it whose deadline has come, and which waits under the key that is looked at
  OverdueLeaves : (wait : Wait) → BeginsWith v move (Overdue wait.key) → waiting_with wait.key v.scene.core.waits ≡ Some wait → is_overdue v.scene.outside.moment wait ≡ true → new ≡ without_key wait.key old → QueueChange v move number old new
  -- those of a till leave it that has closed its connection, or was cut
  TillLeaves : (till : ℕ) → BeginsWith v move (Gone till) ⊎ (move ≡ Make (CutTill till)) → new ≡ not_of_till till old → QueueChange v move number old new
  -- a run begins or ends, and nothing waits
  RunEnds : (turn : Turn) → move ≡ Make turn → is_between turn ≡ true → new ≡ [] → QueueChange v move number old new

-- along a lawful course each queue changes in one of these ways
abbrev pub EachMoveChangesQueues : Type 0
EachMoveChangesQueues = (log : List Turn) (v : View) (move : Move) (number : ℕ) → Stands log v → Allowed v move → QueueChange v move number (queue_in v number) (queue_in (after v move) number)

-- ---- first in, first out

-- the requests that join a queue with a move: those that are new at its end
abbrev pub joining : ℕ → View → Move → List Wait
joining number v move = drop (length (queue_in v number)) (queue_in (after v move) number)

-- the item looks at the first that waits for this terminal
abbrev pub looks_at_next : ℕ → List RoundItem → Bool
looks_at_next number [] = false
looks_at_next number (Crowded till ∷ items) = false
looks_at_next number (Message till bytes ∷ items) = false
looks_at_next number (Asked till as_read ∷ items) = false
looks_at_next number (Unframed till ∷ items) = false
looks_at_next number (Gone till ∷ items) = false
looks_at_next number (Greet pt apdu ∷ items) = false
looks_at_next number (Handle pt apdu ∷ items) = false
looks_at_next number (Serve pt till header request ∷ items) = false
looks_at_next number (Queue pt till header request ∷ items) = false
looks_at_next number (NextWaiting pt ∷ items) = pt == number
looks_at_next number (Oversized pt ∷ items) = false
looks_at_next number (LinkLost pt ∷ items) = false
looks_at_next number (Late pt ∷ items) = false
looks_at_next number (Overdue key ∷ items) = false
looks_at_next number (Due pt ∷ items) = false

-- the first of these, where there are fewer then
abbrev pub first_gone : List Wait → List Wait → List Wait
first_gone old new = if nat_lt (length new) (length old) then option_to_list (first_waiting old) else []

-- the request of a queue that is begun or refused with a move, where one is
abbrev pub leaving_first : ℕ → View → Move → List Wait
leaving_first number v Begin = if looks_at_next number v.items then first_gone (queue_in v number) (queue_in (after v Begin) number) else []
leaving_first number v (Read as_read) = []
leaving_first number v (Make turn) = []

-- the same of more moves
abbrev pub joined_in : ℕ → View → List Move → List Wait
joined_in number v [] = []
joined_in number v (move ∷ moves) = joining number v move ++ joined_in number (after v move) moves

abbrev pub begun_in : ℕ → View → List Move → List Wait
begun_in number v [] = []
begun_in number v (move ∷ moves) = leaving_first number v move ++ begun_in number (after v move) moves

-- the first list is the second, but for some that were left out
abbrev pub IsPartOf : List Wait → List Wait → Type 0
IsPartOf part [] = part ≡ []
IsPartOf part (wait ∷ all) = IsPartOf part all ⊎ ((rest : List Wait) × (part ≡ wait ∷ rest) × IsPartOf rest all)

-- along a lawful course the requests that are begun or refused at the beginning of a terminal's queue, in this order, and then those that wait for it, come in the order in which they joined it
abbrev pub EachQueueIsFirstInFirstOut : Type 0
EachQueueIsFirstInFirstOut =
    (log : List Turn) (v : View) (moves : List Move) (number : ℕ) → Stands log v → IsCourse v moves
    → IsPartOf (begun_in number v moves ++ queue_in (view_from v moves) number) (queue_in v number ++ joined_in number v moves)

-- and none overtakes them: where the next poll may come, nobody waits for a terminal that is ready
abbrev pub ReadyHasNoQueue : Type 0
ReadyHasNoQueue =
    (log : List Turn) (v : View) (number : ℕ) (terminal : Terminal) (last : ℕ) → Stands log v → MayPoll v → slice_get v.scene.core.terminals number ≡ Some terminal → terminal.standing ≡ Ready last → queue_in v number ≡ []

-- ---- deadlines

-- this deadline is later than none of these
abbrev pub ComesFirst : ℤ → List Wait → Type 0
ComesFirst deadline [] = Unit {0}
ComesFirst deadline (wait ∷ waits) = (int_lt wait.deadline deadline ≡ false) × ComesFirst deadline waits

-- the deadline of none of these is later than that of one after it
abbrev pub AreByDeadline : List Wait → Type 0
AreByDeadline [] = Unit {0}
AreByDeadline (wait ∷ waits) = ComesFirst wait.deadline waits × AreByDeadline waits

-- those of this deadline
abbrev pub with_deadline : ℤ → List Wait → List Wait
with_deadline deadline waits = filter (λ (wait : Wait). not (int_lt wait.deadline deadline) && not (int_lt deadline wait.deadline)) waits

-- the requests that wait, in the order in which their deadlines are looked at: the earliest first, and those of one deadline as they came
pub record IsDueOrder (waits due : List Wait) : Type 0 where
  pub by_deadline : AreByDeadline due
  pub as_accepted : (deadline : ℤ) → with_deadline deadline due ≡ with_deadline deadline waits

-- the keys whose deadlines are still to be looked at in a round
abbrev pub keys_due : List RoundItem → List Key
keys_due [] = []
keys_due (Crowded till ∷ items) = keys_due items
keys_due (Message till bytes ∷ items) = keys_due items
keys_due (Asked till as_read ∷ items) = keys_due items
keys_due (Unframed till ∷ items) = keys_due items
keys_due (Gone till ∷ items) = keys_due items
keys_due (Greet pt apdu ∷ items) = keys_due items
keys_due (Handle pt apdu ∷ items) = keys_due items
keys_due (Serve pt till header request ∷ items) = keys_due items
keys_due (Queue pt till header request ∷ items) = keys_due items
keys_due (NextWaiting pt ∷ items) = keys_due items
keys_due (Oversized pt ∷ items) = keys_due items
keys_due (LinkLost pt ∷ items) = keys_due items
keys_due (Late pt ∷ items) = keys_due items
keys_due (Overdue key ∷ items) = key ∷ keys_due items
keys_due (Due pt ∷ items) = keys_due items

-- how they change with a move
pub data DueChange (v : View) (move : Move) (old new : List Key) : Type 0 where
  -- none of them is looked at
  NoneLooked : new ≡ old → DueChange v move old new
  -- the first of them is
  FirstLooked : (key : Key) → BeginsWith v move (Overdue key) → old ≡ key ∷ new → DueChange v move old new
  -- with a poll, and with its event, come those of the requests that wait, in the order of their deadlines
  RoundBrings : (turn : Turn) → move ≡ Make turn → (sort_of turn ≡ Poll) ⊎ (sort_of turn ≡ Event) → new ≡ map (λ (wait : Wait). wait.key) (waits_by_deadline v.scene.core.waits) → DueChange v move old new
  -- the run ends, or another begins
  RoundEnds : (turn : Turn) → move ≡ Make turn → (is_between turn ≡ true) ⊎ ((turn ≡ Stopped) ⊎ (turn ≡ DiskFailed)) → new ≡ [] → DueChange v move old new

-- those that wait come in that order
abbrev pub EachQueueIsDueInOrder : Type 0
EachQueueIsDueInOrder = (waits : List Wait) → IsDueOrder waits (waits_by_deadline waits)

-- along a lawful course their deadlines are looked at so
abbrev pub EachMoveLooksInOrder : Type 0
EachMoveLooksInOrder = (log : List Turn) (v : View) (move : Move) → Stands log v → Allowed v move → DueChange v move (keys_due v.items) (keys_due (after v move).items)

-- and where the next poll may come, nothing waits whose deadline has come
abbrev pub NoneIsOverdue : Type 0
NoneIsOverdue = (log : List Turn) (v : View) (at : ℕ) (wait : Wait) → Stands log v → MayPoll v → slice_get v.scene.core.waits at ≡ Some wait → is_overdue v.scene.outside.moment wait ≡ false

-- ---- outside items

-- a till's bytes are no message
abbrev pub IsReadOutside : ReadAs → Type 0
IsReadOutside (Request header request) = ⊥
IsReadOutside Silent = ⊥
IsReadOutside (NoMessage fault) = Unit {0}
IsReadOutside (NoJson fault) = Unit {0}

-- the item is of bytes that are outside: of a till more than may be, or bytes of one that begin no frame or are no message, or of a terminal that are no message or begin an APDU above the limit
abbrev pub IsOfOutside : RoundItem → Type 0
IsOfOutside (Crowded till) = Unit {0}
IsOfOutside (Message till bytes) = ⊥
IsOfOutside (Asked till as_read) = IsReadOutside as_read
IsOfOutside (Unframed till) = Unit {0}
IsOfOutside (Gone till) = ⊥
IsOfOutside (Greet pt apdu) = (fault : PtFault) × (decode_pt_message apdu ≡ Err fault)
IsOfOutside (Handle pt apdu) = ⊥
IsOfOutside (Serve pt till header request) = ⊥
IsOfOutside (Queue pt till header request) = ⊥
IsOfOutside (NextWaiting pt) = ⊥
IsOfOutside (Oversized pt) = Unit {0}
IsOfOutside (LinkLost pt) = ⊥
IsOfOutside (Late pt) = ⊥
IsOfOutside (Overdue key) = ⊥
IsOfOutside (Due pt) = ⊥

-- as it begins all is as it was, each queue among it: what it owes may cut a till, whose requests then wait no longer, or a terminal, whose queue stays
abbrev pub OutsideLeavesQueues : Type 0
OutsideLeavesQueues = (log : List Turn) (v : View) (item : RoundItem) (rest : List RoundItem) → Stands log v → Begins v → v.items ≡ item ∷ rest → IsOfOutside item → (after v Begin).scene ≡ at_item v.scene
