-- Laws of the till of what a terminal serves: which one it is, how long it stays it, and that what is owed goes to it.
use Rattle.std.specs.Prelude.{◌≡◌, ◌≢◌, ◌⊎◌, ℕ, Bool, true, false, List, [], ◌∷◌, codes, slice_get, Option, Some, None}
use Rattle.std.specs.Option.{option_map}
use Rattle.gw_site.specs.Outside.{Connection}
use Rattle.sale_values.specs.declared.header.Header.{Header}
use Rattle.sale_values.specs.declared.request.SaleRequest.{SaleRequest}
use Rattle.gw_owes.specs.declared.terminal.Service.{Service}
use Rattle.gw_owes.specs.declared.terminal.Standing.TheVariants.{Unlinked, Ready, Serving}
use Rattle.gw_owes.specs.declared.terminal.Terminal.{Terminal}
use Rattle.gw_owes.specs.Calls.{OwedCall, SendTill, SendPt, CutTill, CutPt, LinkPt, WriteBody, WriteGate, WriteFirstGate, Sync}
use Rattle.gw_owes.specs.Core.{Wait, Core}
use Rattle.gw_owes.specs.Items.{RoundItem, Crowded, Message, Asked, Unframed, Gone, Greet, Handle, Serve, Queue, NextWaiting, Oversized, LinkLost, Late, Overdue, Due}
use Rattle.gw_owes.specs.Links.{LinkEvent, LinkIsLost, link_row}
use Rattle.gw_owes.specs.PaymentExample.{Since, since_item, since_linked, since_payment, since_ready, since_sent}
use Rattle.gw_owes.specs.Row.{Known}
use Rattle.gw_owes.specs.Rows.{row_of}
use Rattle.gw_owes.specs.TerminalExample.{abort, ack, status_0A}
use Rattle.gw_owes.specs.TerminalLaws.{HasNoTrace}
use Rattle.gw_owes.specs.TerminalRows.{terminal_of}
use Rattle.gw_owes.specs.Terminals.{terminal_at, core_without}
use Rattle.gw_owes.specs.Waits.{queue_of, first_waiting}

-- ---- whose it is

-- the terminal of this number has the till that it had before, or none as before, and serves nothing that it didn't serve before
pub record KeepsTill (core : Core) (number : ℕ) (new : Terminal) : Type 0 where
  pub old : Terminal
  pub found : slice_get core.terminals number ≡ Some old
  pub same : new.asker ≡ old.asker
  pub served : (service : Service) (last : ℕ) → new.standing ≡ Serving service last → old.standing ≡ Serving service last

-- why what a terminal serves is over: it is ready, or its link is lost while it serves an end of day or a display
abbrev pub IsOver : Terminal → Terminal → Type 0
IsOver old new =
    ((last : ℕ) × (new.standing ≡ Ready last))
    ⊎ ((service : Service) × (last : ℕ) × (due : Option ℕ) × (old.standing ≡ Serving service last) × HasNoTrace service × (new.standing ≡ Unlinked due))

-- it has none any more, since what it served is over
pub record NeedsNoTill (core : Core) (number : ℕ) (new : Terminal) : Type 0 where
  pub old : Terminal
  pub found : slice_get core.terminals number ≡ Some old
  pub none : new.asker ≡ None
  pub over : IsOver old new

-- the item is that the terminal begins to serve a request of this till
pub record ServesRequestOf (item : RoundItem) (number till : ℕ) : Type 0 where
  pub header : Header
  pub request : SaleRequest
  pub item_is : item ≡ Serve number till header request

-- the item is that the first request is begun or refused that waits for the terminal, which is this till's
pub record TakesFirstOf (core : Core) (item : RoundItem) (number till : ℕ) : Type 0 where
  pub wait : Wait
  pub item_is : item ≡ NextWaiting number
  pub first_is : first_waiting (queue_of number core.waits) ≡ Some wait
  pub till_is : wait.till ≡ till

-- so the item is about a request of this till, which comes now or has waited
abbrev pub IsAboutRequestOf : Core → RoundItem → ℕ → ℕ → Type 0
IsAboutRequestOf core item number till = ServesRequestOf item number till ⊎ TakesFirstOf core item number till

-- it was ready, and begins to serve what this till asks, whose request the item is about
pub record BeginsFor (core : Core) (item : RoundItem) (number : ℕ) (new : Terminal) : Type 0 where
  pub old : Terminal
  pub last : ℕ
  pub found : slice_get core.terminals number ≡ Some old
  pub ready : old.standing ≡ Ready last
  pub till : ℕ
  pub asked : IsAboutRequestOf core item number till
  pub for_till : new.asker ≡ Some till

-- the item says that a till is gone
abbrev pub is_till_gone : RoundItem → Bool
is_till_gone (Crowded till) = false
is_till_gone (Message till bytes) = false
is_till_gone (Asked till as_read) = false
is_till_gone (Unframed till) = false
is_till_gone (Gone till) = true
is_till_gone (Greet number apdu) = false
is_till_gone (Handle number apdu) = false
is_till_gone (Serve number till header request) = false
is_till_gone (Queue number till header request) = false
is_till_gone (NextWaiting number) = false
is_till_gone (Oversized number) = false
is_till_gone (LinkLost number) = false
is_till_gone (Late number) = false
is_till_gone (Overdue key) = false
is_till_gone (Due number) = false

-- after each item but that a till is gone, each terminal keeps its till, or needs none, or begins for one
abbrev pub EachItemKeepsTill : Type 0
EachItemKeepsTill =
    (tills : List Connection) (known : Known) (item : RoundItem) (number : ℕ) (new : Terminal) → is_till_gone item ≡ false → slice_get (row_of tills known item).core.terminals number ≡ Some new
    → KeepsTill known.core number new ⊎ (NeedsNoTill known.core number new ⊎ BeginsFor known.core item number new)

-- so what a terminal serves before and after such an item, it serves for the same till
abbrev pub EachServedKeepsTill : Type 0
EachServedKeepsTill =
    (tills : List Connection) (known : Known) (item : RoundItem) (number : ℕ) (old new : Terminal) (service other : Service) (last later : ℕ) → is_till_gone item ≡ false → terminal_at known number ≡ Some old
    → old.standing ≡ Serving service last → slice_get (row_of tills known item).core.terminals number ≡ Some new → new.standing ≡ Serving other later → new.asker ≡ old.asker

-- after each event of a link each terminal keeps its till, or needs none
abbrev pub EachLinkKeepsTill : Type 0
EachLinkKeepsTill =
    (known : Known) (at : ℕ) (event : LinkEvent) (number : ℕ) (new : Terminal) → slice_get (link_row known at event).core.terminals number ≡ Some new
    → KeepsTill known.core number new ⊎ NeedsNoTill known.core number new

-- once a till is gone, each terminal that had it has none, and each other the one that it had, whose standing stays
pub record ForgetsTill (till : ℕ) (old new : Terminal) : Type 0 where
  pub own : old.asker ≡ Some till → new.asker ≡ None
  pub other : old.asker ≢ Some till → new.asker ≡ old.asker
  pub standing : new.standing ≡ old.standing

-- the terminal of this number is there afterwards too
pub record IsForgottenAt (core : Core) (till number : ℕ) (old : Terminal) : Type 0 where
  pub new : Terminal
  pub found : slice_get (core_without core till).terminals number ≡ Some new
  pub forgets : ForgetsTill till old new

-- so each terminal, whatever is remembered
abbrev pub EachGoneIsForgotten : Type 0
EachGoneIsForgotten = (core : Core) (till number : ℕ) (old : Terminal) → slice_get core.terminals number ≡ Some old → IsForgottenAt core till number old

-- and that is what the item leaves
abbrev pub GoneLeavesRest : Type 0
GoneLeavesRest = (tills : List Connection) (known : Known) (till : ℕ) → (row_of tills known (Gone till)).core ≡ core_without known.core till

-- ---- what it gets

-- the tills that these calls send anything, in order
abbrev pub tills_sent : List OwedCall → List ℕ
tills_sent [] = []
tills_sent (SendTill till reply ∷ calls) = till ∷ tills_sent calls
tills_sent (SendPt number sending ∷ calls) = tills_sent calls
tills_sent (CutTill till ∷ calls) = tills_sent calls
tills_sent (CutPt number ∷ calls) = tills_sent calls
tills_sent (LinkPt number ∷ calls) = tills_sent calls
tills_sent (WriteBody slot the_record ∷ calls) = tills_sent calls
tills_sent (WriteGate slot the_record ∷ calls) = tills_sent calls
tills_sent (WriteFirstGate ∷ calls) = tills_sent calls
tills_sent (Sync ∷ calls) = tills_sent calls

-- these calls send one till something: the terminal's
pub record SendsItsTill (known : Known) (number : ℕ) (calls : List OwedCall) : Type 0 where
  pub terminal : Terminal
  pub found : terminal_at known number ≡ Some terminal
  pub till : ℕ
  pub asker_is : terminal.asker ≡ Some till
  pub sent : tills_sent calls ≡ till ∷ []

-- or the one whose request the item is about
pub record SendsAsking (core : Core) (item : RoundItem) (number : ℕ) (calls : List OwedCall) : Type 0 where
  pub till : ℕ
  pub asked : IsAboutRequestOf core item number till
  pub sent : tills_sent calls ≡ till ∷ []

-- what an item of a terminal owes any till goes to one of these two
abbrev pub EachSendIsToIts : Type 0
EachSendIsToIts =
    (tills : List Connection) (known : Known) (item : RoundItem) (number : ℕ) → terminal_of item ≡ Some number
    → (tills_sent (row_of tills known item).calls ≡ []) ⊎ (SendsItsTill known number (row_of tills known item).calls ⊎ SendsAsking known.core item number (row_of tills known item).calls)

-- and what an event of its link owes goes to the terminal's till
abbrev pub EachLinkSendsIts : Type 0
EachLinkSendsIts = (known : Known) (number : ℕ) (event : LinkEvent) → (tills_sent (link_row known number event).calls ≡ []) ⊎ SendsItsTill known number (link_row known number event).calls

-- ---- examples

-- the till of what the terminal serves, where it is there
abbrev pub asker_since : Since → Option (Option ℕ)
asker_since since = option_map (λ (terminal : Terminal). terminal.asker) (slice_get since.known.core.terminals 0)

-- till 2 asks for a payment, which its terminal serves and has acknowledged
abbrev pub since_second : Since
since_second = since_sent ack (since_payment 2 (codes "1") 1099 (since_ready 0))

-- it stays that of till 2 while till 1 asks for another, and is gone; what the terminal shows goes to till 2; nobody's is it once till 2 is gone, and then nothing goes to any till
pub record ExampleTill : Type 0 where
  pub begins : asker_since since_second ≡ Some (Some 2)
  pub beside : asker_since (since_payment 1 (codes "2") 500 since_second) ≡ Some (Some 2)
  pub other_gone : asker_since (since_item since_second (Gone 1)) ≡ Some (Some 2)
  pub gone : asker_since (since_item since_second (Gone 2)) ≡ Some None
  pub over : asker_since (since_sent (abort 0x6C) since_second) ≡ Some None
  pub lost : asker_since (since_linked LinkIsLost since_second) ≡ Some (Some 2)
  pub status : tills_sent (since_sent status_0A (since_payment 1 (codes "2") 500 since_second)).calls ≡ 1 ∷ 2 ∷ []
  pub reply : tills_sent (since_sent (abort 0x6C) since_second).calls ≡ 2 ∷ []
  pub none : tills_sent (since_sent (abort 0x6C) (since_sent status_0A (since_item since_second (Gone 2)))).calls ≡ []
