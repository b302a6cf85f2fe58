-- What a row leaves to tills, where the till of what each terminal serves, and of each request that waits, is there: so is each that it owes anything.
use Rattle.std.proofs.Common.{◌≡◌, ◌≢◌, ℕ, zero, suc, List, [], ◌∷◌, ◌++◌, refl, sym, ◌∙◌, ap, subst, true, false, inl, inr}
use Rattle.std.specs.Prelude.{Bool, ◌⊎◌, ◌==◌, not, if◌then◌else◌, filter, slice_get, Option, Some, None}
use Rattle.gw_base.specs.declared.key.Key.{Key}
use Rattle.gw_base.specs.declared.setup.Setup.{Setup}
use Rattle.gw_site.specs.Outside.{Connection, is_connected, hears, new_connection}
use Rattle.sale_values.specs.declared.header.Header.{Header}
use Rattle.sale_values.specs.declared.request.SaleRequest.{SaleRequest}
use Rattle.sale_values.specs.Key.{key_of}
use Rattle.gw_ledger.specs.Keys.{same_key}
use Rattle.gw_owes.specs.AskerLaws.{IsAboutRequestOf, KeepsTill, NeedsNoTill, BeginsFor, SendsItsTill, SendsAsking, is_till_gone, tills_sent}
use Rattle.gw_owes.specs.Calls.{OwedCall, SendTill, SendPt, LinkPt, WriteBody, WriteGate, WriteFirstGate, Sync, CutTill as OwedCutTill, CutPt as OwedCutPt}
use Rattle.gw_owes.specs.Core.{Core, Wait}
use Rattle.gw_owes.specs.Items.{RoundItem, Crowded, Message, Asked, Unframed, Gone, Greet, Handle, Serve, Queue, NextWaiting, Oversized, LinkLost, Late, Overdue, Due}
use Rattle.gw_owes.specs.Links.{LinkEvent, LinkIsMade, LinkIsLost, link_row}
use Rattle.gw_owes.specs.Reply.{ReplyValue}
use Rattle.gw_owes.specs.Requests.{reply_to}
use Rattle.gw_owes.specs.Row.{Known, Row, owing, owing_where}
use Rattle.gw_owes.specs.Rows.{asked_row, row_of}
use Rattle.gw_owes.specs.Terminals.{link_made, link_lost, reply_calls_to}
use Rattle.gw_owes.specs.WaitingRows.{next_waiting_row, overdue_row, queue_row, wait_of}
use Rattle.gw_owes.specs.Waits.{core_without_wait, first_waiting, queue_of, waiting_with}
use Rattle.gw_owes.specs.declared.terminal.Terminal.{Terminal}
use Rattle.gw_owes.proofs.AskerLemmas.{each-item-keeps-till, each-link-keeps-till, each-link-sends-its, each-send-to-its}
use Rattle.gw_owes.proofs.NextLemmas.{each-next, each-overdue, each-queued}
use Rattle.gw_owes.proofs.TerminalLemmas.{link-leaves-waits, row-leaves-waits}
use Rattle.gw_rules.specs.Lawful.{first_call}
use Rattle.gw_rules.specs.Scene.{Scene, known_in, row_in}
use Rattle.gw_rules.specs.TillLaws.{AreThere}
use Rattle.gw_rules.specs.View.{later}
use Rattle.gw_rules.proofs.LinkStateLemmas.{apart}
use Rattle.gw_rules.proofs.LinkedLemmas.{connected-heard}
use Rattle.gw_rules.proofs.StageLemmas.{no-true}

-- ---- connections

-- the till is among these
abbrev pub IsThere : List Connection → ℕ → Type 0
IsThere tills till = is_connected tills till ≡ true

pub there-new : (tills : List Connection) (new till : ℕ) → IsThere tills till → IsThere (tills ++ new_connection new ∷ []) till
there-new [] new till e = no-true e
there-new (connection ∷ tills) new till e = by_test (connection.number == till) refl e (there-new tills new till)
  where
    by_test : (test : Bool) → (connection.number == till) ≡ test → IsThere (connection ∷ tills) till → (IsThere tills till → IsThere (tills ++ new_connection new ∷ []) till) → IsThere (connection ∷ (tills ++ new_connection new ∷ [])) till
    by_test true t e more = rw t refl
    by_test false t e more =
        let same : is_connected (connection ∷ tills) till ≡ is_connected tills till = rw t refl in
        rw t (more (sym same ∙ e))

pub there-heard : (tills : List Connection) (heard till : ℕ) (bytes : List ℕ) → IsThere tills till → IsThere (hears tills heard bytes) till
there-heard tills heard till bytes e = connected-heard tills heard till bytes ∙ e

-- ---- the tills of terminals, and those that are sent something

-- the till of each terminal that has one is such
abbrev pub AskersAre : (ℕ → Type 0) → Core → Type 0
AskersAre Is core = (number : ℕ) (terminal : Terminal) (till : ℕ) → slice_get core.terminals number ≡ Some terminal → terminal.asker ≡ Some till → Is till

-- so is that of each request that waits
abbrev pub WaitsAre : (ℕ → Type 0) → List Wait → Type 0
WaitsAre Is [] = Unit {0}
WaitsAre Is (wait ∷ waits) = Is wait.till × WaitsAre Is waits

pub waits-append : (Is : ℕ → Type 0) (waits : List Wait) (wait : Wait) → WaitsAre Is waits → Is wait.till → WaitsAre Is (waits ++ wait ∷ [])
waits-append Is [] wait h is = (is, tt)
waits-append Is (other ∷ waits) wait h is = (h.0, waits-append Is waits wait h.1 is)

pub waits-but : (Is : ℕ → Type 0) (keeps : Wait → Bool) (waits : List Wait) → WaitsAre Is waits → WaitsAre Is (filter keeps waits)
waits-but Is keeps [] h = tt
waits-but Is keeps (wait ∷ waits) h = by_test (keeps wait) refl (waits-but Is keeps waits h.1)
  where
    by_test : (test : Bool) → keeps wait ≡ test → WaitsAre Is (filter keeps waits) → WaitsAre Is (filter keeps (wait ∷ waits))
    by_test true e more = rw e (h.0, more)
    by_test false e more = rw e more

pub waits-other : (Is Other : ℕ → Type 0) (waits : List Wait) → ((till : ℕ) → Is till → Other till) → WaitsAre Is waits → WaitsAre Other waits
waits-other Is Other [] each h = tt
waits-other Is Other (wait ∷ waits) each h = (each wait.till h.0, waits-other Is Other waits each h.1)

pub waits-found : (Is : ℕ → Type 0) (key : Key) (waits : List Wait) (wait : Wait) → WaitsAre Is waits → waiting_with key waits ≡ Some wait → Is wait.till
waits-found Is key [] wait h e = absurd (let n : None ≡ Some wait = e in cc)
waits-found Is key (other ∷ waits) wait h e = by_test (same_key key other.key) refl (waits-found Is key waits wait h.1)
  where
    by_test : (test : Bool) → same_key key other.key ≡ test → (waiting_with key waits ≡ Some wait → Is wait.till) → Is wait.till
    by_test true t more =
        let n : Some other ≡ Some wait = sym (ap (λ b. if b then Some other else waiting_with key waits) t) ∙ e in
        let same : other ≡ wait = cc in
        subst (λ (w : Wait). Is w.till) same h.0
    by_test false t more = more (sym (ap (λ b. if b then Some other else waiting_with key waits) t) ∙ e)

pub waits-first : (Is : ℕ → Type 0) (waits : List Wait) (wait : Wait) → WaitsAre Is waits → first_waiting waits ≡ Some wait → Is wait.till
waits-first Is [] wait h e = absurd (let n : None ≡ Some wait = e in cc)
waits-first Is (other ∷ waits) wait h e = let same : other ≡ wait = (let n : Some other ≡ Some wait = e in cc) in subst (λ (w : Wait). Is w.till) same h.0

-- without those of a till, each is such but that one
pub waits-without : (Is Other : ℕ → Type 0) (gone : ℕ) (waits : List Wait) → ((till : ℕ) → till ≢ gone → Is till → Other till) → WaitsAre Is waits → WaitsAre Other (filter (λ (wait : Wait). not (wait.till == gone)) waits)
waits-without Is Other gone [] each h = tt
waits-without Is Other gone (wait ∷ waits) each h = by_test (wait.till == gone) refl (waits-without Is Other gone waits each h.1)
  where
    by_test : (test : Bool) → (wait.till == gone) ≡ test → WaitsAre Other (filter (λ (wait : Wait). not (wait.till == gone)) waits) → WaitsAre Other (filter (λ (wait : Wait). not (wait.till == gone)) (wait ∷ waits))
    by_test true e more = rw e more
    by_test false e more = rw e (each wait.till (apart wait.till gone e) h.0, more)

pub waits-at : (Is : ℕ → Type 0) (waits : List Wait) (at : ℕ) (wait : Wait) → WaitsAre Is waits → slice_get waits at ≡ Some wait → Is wait.till
waits-at Is [] at wait h e = absurd (let n : None ≡ Some wait = e in cc)
waits-at Is (other ∷ waits) zero wait h e = let same : other ≡ wait = (let n : Some other ≡ Some wait = e in cc) in subst (λ (w : Wait). Is w.till) same h.0
waits-at Is (other ∷ waits) (suc at) wait h e = waits-at Is waits at wait h.1 e

pub no-asker : {A : Type 0} (asker : Option ℕ) (till : ℕ) → asker ≡ None → asker ≡ Some till → A
no-asker asker till none is = absurd (let n : None ≡ Some till = sym none ∙ is in cc)

-- with these tills there, each that the row leaves to a terminal, or owes anything, is there
pub record RowIsThere (tills : List Connection) (row : Row) : Type 0 where
  pub askers : AskersAre (IsThere tills) row.core
  pub waits : WaitsAre (IsThere tills) row.core.waits
  pub sends : AreThere tills (tills_sent row.calls)

pub sends-append : (tills : List Connection) (calls more : List OwedCall) → AreThere tills (tills_sent calls) → AreThere tills (tills_sent more) → AreThere tills (tills_sent (calls ++ more))
sends-append tills [] more h k = k
sends-append tills (SendTill till reply ∷ calls) more h k = (h.0, sends-append tills calls more h.1 k)
sends-append tills (SendPt pt sending ∷ calls) more h k = sends-append tills calls more h k
sends-append tills (OwedCutTill till ∷ calls) more h k = sends-append tills calls more h k
sends-append tills (OwedCutPt pt ∷ calls) more h k = sends-append tills calls more h k
sends-append tills (LinkPt pt ∷ calls) more h k = sends-append tills calls more h k
sends-append tills (WriteBody slot the_record ∷ calls) more h k = sends-append tills calls more h k
sends-append tills (WriteGate slot the_record ∷ calls) more h k = sends-append tills calls more h k
sends-append tills (WriteFirstGate ∷ calls) more h k = sends-append tills calls more h k
sends-append tills (Sync ∷ calls) more h k = sends-append tills calls more h k

pub later-there : (tills : List Connection) (calls : List OwedCall) → AreThere tills (tills_sent calls) → AreThere tills (tills_sent (later calls))
later-there tills [] h = h
later-there tills (SendTill till reply ∷ calls) h = h.1
later-there tills (SendPt pt sending ∷ calls) h = h
later-there tills (OwedCutTill till ∷ calls) h = h
later-there tills (OwedCutPt pt ∷ calls) h = h
later-there tills (LinkPt pt ∷ calls) h = h
later-there tills (WriteBody slot the_record ∷ calls) h = h
later-there tills (WriteGate slot the_record ∷ calls) h = h
later-there tills (WriteFirstGate ∷ calls) h = h
later-there tills (Sync ∷ calls) h = h

-- the till of the first call is
pub first-there : (tills : List Connection) (calls : List OwedCall) (till : ℕ) (reply : ReplyValue) → AreThere tills (tills_sent calls) → first_call calls ≡ Some (SendTill till reply) → IsThere tills till
first-there tills [] till reply h e = absurd (let n : None ≡ Some (SendTill till reply) = e in cc)
first-there tills (call ∷ calls) till reply h e =
    let same : call ≡ SendTill till reply = (let n : Some call ≡ Some (SendTill till reply) = e in cc) in
    (subst (λ c. AreThere tills (tills_sent (c ∷ calls))) same h).0

-- ---- rows

pub none-there : (tills : List Connection) (calls : List OwedCall) → tills_sent calls ≡ [] → AreThere tills (tills_sent calls)
none-there tills calls none = subst (AreThere tills) (sym none) tt

pub one-there : (tills : List Connection) (calls : List OwedCall) (till : ℕ) → tills_sent calls ≡ till ∷ [] → IsThere tills till → AreThere tills (tills_sent calls)
one-there tills calls till one there = subst (AreThere tills) (sym one) (there, tt)

pub link-there : (tills : List Connection) (known : Known) (at : ℕ) (event : LinkEvent) → AskersAre (IsThere tills) known.core → WaitsAre (IsThere tills) known.core.waits → RowIsThere tills (link_row known at event)
link-there tills known at event h w = record {
  waits = subst (WaitsAre (IsThere tills)) (sym (link-leaves-waits known at event)) w;
  askers = λ number new till found is. by_kept number new till is (each-link-keeps-till known at event number new found);
  sends = by_sent (each-link-sends-its known at event);
}
  where
    by_kept : (number : ℕ) (new : Terminal) (till : ℕ) → new.asker ≡ Some till → KeepsTill known.core number new ⊎ NeedsNoTill known.core number new → IsThere tills till
    by_kept number new till is (inl keeps) = h number keeps.old till keeps.found (sym keeps.same ∙ is)
    by_kept number new till is (inr needs) = no-asker new.asker till needs.none is

    by_sent : (tills_sent (link_row known at event).calls ≡ []) ⊎ SendsItsTill known at (link_row known at event).calls → AreThere tills (tills_sent (link_row known at event).calls)
    by_sent (inl none) = none-there tills (link_row known at event).calls none
    by_sent (inr its) = one-there tills (link_row known at event).calls its.till its.sent (h at its.terminal its.till its.found its.asker_is)

pub made-there : (tills : List Connection) (scene : Scene) (pt : ℕ) (setup : Option Setup) → AskersAre (IsThere tills) scene.core → WaitsAre (IsThere tills) scene.core.waits → RowIsThere tills (row_in scene (λ known. link_made known pt) setup)
made-there tills scene pt None h w = record { askers = h; waits = w; sends = tt }
made-there tills scene pt (Some setup) h w = link-there tills (known_in scene setup) pt LinkIsMade h w

pub lost-there : (tills : List Connection) (scene : Scene) (pt : ℕ) (setup : Option Setup) → AskersAre (IsThere tills) scene.core → WaitsAre (IsThere tills) scene.core.waits → RowIsThere tills (row_in scene (λ known. link_lost known pt) setup)
lost-there tills scene pt None h w = record { askers = h; waits = w; sends = tt }
lost-there tills scene pt (Some setup) h w = link-there tills (known_in scene setup) pt LinkIsLost h w

-- the item begins to serve a request, or lets it join or leave those that wait
abbrev pub IsOfRequest : RoundItem → ℕ → ℕ → Header → SaleRequest → Type 0
IsOfRequest item number till header request = (item ≡ Serve number till header request) ⊎ (item ≡ Queue number till header request)

-- so it does of a till that is there
abbrev pub ServesThere : List Connection → RoundItem → Type 0
ServesThere tills item = (number till : ℕ) (header : Header) (request : SaleRequest) → IsOfRequest item number till header request → IsThere tills till

pub reply-there : (tills : List Connection) (till : ℕ) (reply : Option ReplyValue) → IsThere tills till → AreThere tills (tills_sent (reply_calls_to (Some till) reply))
reply-there tills till None there = tt
reply-there tills till (Some reply) there = (there, tt)

-- the till of what a terminal is to serve is there
pub asked-till : (tills : List Connection) (known : Known) (item : RoundItem) (number till : ℕ) → ServesThere tills item → WaitsAre (IsThere tills) known.core.waits → IsAboutRequestOf known.core item number till → IsThere tills till
asked-till tills known item number till serves w (inl served) = serves number till served.header served.request (inl served.item_is)
asked-till tills known item number till serves w (inr taken) =
    subst (IsThere tills) taken.till_is (waits-first (IsThere tills) (queue_of number known.core.waits) taken.wait (waits-but (IsThere tills) (λ (wait : Wait). wait.pt == number) known.core.waits w) taken.first_is)

pub item-sends : (tills : List Connection) (known : Known) (item : RoundItem) (number : ℕ) → ServesThere tills item → AskersAre (IsThere tills) known.core → WaitsAre (IsThere tills) known.core.waits
    → (tills_sent (row_of tills known item).calls ≡ []) ⊎ (SendsItsTill known number (row_of tills known item).calls ⊎ SendsAsking known.core item number (row_of tills known item).calls) → AreThere tills (tills_sent (row_of tills known item).calls)
item-sends tills known item number serves h w (inl none) = none-there tills (row_of tills known item).calls none
item-sends tills known item number serves h w (inr (inl its)) = one-there tills (row_of tills known item).calls its.till its.sent (h number its.terminal its.till its.found its.asker_is)
item-sends tills known item number serves h w (inr (inr asking)) = one-there tills (row_of tills known item).calls asking.till asking.sent (asked-till tills known item number asking.till serves w asking.asked)

-- what waits joins, or leaves
pub queue-there : (tills : List Connection) (known : Known) (number till : ℕ) (header : Header) (request : SaleRequest) → IsThere tills till → WaitsAre (IsThere tills) known.core.waits
    → WaitsAre (IsThere tills) (queue_row known number till header request).core.waits × AreThere tills (tills_sent (queue_row known number till header request).calls)
queue-there tills known number till header request there w =
    each-queued (λ (row : Row). WaitsAre (IsThere tills) row.core.waits × AreThere tills (tills_sent row.calls)) known number till header request (record {
      none = (w, tt);
      joins = λ terminal key at. (waits-append (IsThere tills) known.core.waits (wait_of known number till header request key) w there, tt);
      taken = λ wait at. (waits-but (IsThere tills) (λ (other : Wait). not (same_key wait.key other.key)) known.core.waits w, (waits-found (IsThere tills) (key_of header at.reference) known.core.waits wait w at.waits_is, tt));
    })

pub overdue-there : (tills : List Connection) (known : Known) (key : Key) → WaitsAre (IsThere tills) known.core.waits → WaitsAre (IsThere tills) (overdue_row known key).core.waits × AreThere tills (tills_sent (overdue_row known key).calls)
overdue-there tills known key w =
    each-overdue (λ (row : Row). WaitsAre (IsThere tills) row.core.waits × AreThere tills (tills_sent row.calls)) known key (record {
      none = (w, tt);
      taken = λ wait is overdue. (waits-but (IsThere tills) (λ (other : Wait). not (same_key wait.key other.key)) known.core.waits w, (waits-found (IsThere tills) key known.core.waits wait w is, tt));
    })

pub next-there : (tills : List Connection) (known : Known) (number : ℕ) → WaitsAre (IsThere tills) known.core.waits → WaitsAre (IsThere tills) (next_waiting_row known number).core.waits
next-there tills known number w =
    each-next (λ (row : Row). WaitsAre (IsThere tills) row.core.waits) known number (record {
      none = w;
      refused = λ terminal last wait condition first is. without wait;
      begins = λ terminal last wait asking at. without wait;
      day = λ terminal last wait at. without wait;
      left = λ terminal last wait first. without wait;
    })
  where
    without : (wait : Wait) → WaitsAre (IsThere tills) (core_without_wait known.core wait.key).waits
    without wait = waits-but (IsThere tills) (λ (other : Wait). not (same_key wait.key other.key)) known.core.waits w

pub row-sends : (tills : List Connection) (known : Known) (item : RoundItem) → ServesThere tills item → AskersAre (IsThere tills) known.core → WaitsAre (IsThere tills) known.core.waits → AreThere tills (tills_sent (row_of tills known item).calls)
row-sends tills known (Crowded till) serves h w = tt
row-sends tills known (Message till bytes) serves h w = tt
row-sends tills known (Asked till as_read) serves h w = by_test (is_connected tills till) refl
  where
    by_test : (test : Bool) → is_connected tills till ≡ test → AreThere tills (tills_sent (owing_where test known (asked_row known till as_read)).calls)
    by_test true there = reply-there tills till (reply_to known as_read) there
    by_test false gone = tt
row-sends tills known (Unframed till) serves h w = by_test (is_connected tills till)
  where
    by_test : (test : Bool) → AreThere tills (tills_sent (owing_where test known (owing known (OwedCutTill till ∷ []))).calls)
    by_test true = tt
    by_test false = tt
row-sends tills known (Gone till) serves h w = tt
row-sends tills known (Greet number apdu) serves h w = item-sends tills known (Greet number apdu) number serves h w (each-send-to-its tills known (Greet number apdu) number refl)
row-sends tills known (Handle number apdu) serves h w = item-sends tills known (Handle number apdu) number serves h w (each-send-to-its tills known (Handle number apdu) number refl)
row-sends tills known (Serve number till header request) serves h w = item-sends tills known (Serve number till header request) number serves h w (each-send-to-its tills known (Serve number till header request) number refl)
row-sends tills known (Queue number till header request) serves h w = (queue-there tills known number till header request (serves number till header request (inr refl)) w).1
row-sends tills known (NextWaiting number) serves h w = item-sends tills known (NextWaiting number) number serves h w (each-send-to-its tills known (NextWaiting number) number refl)
row-sends tills known (Oversized number) serves h w = item-sends tills known (Oversized number) number serves h w (each-send-to-its tills known (Oversized number) number refl)
row-sends tills known (LinkLost number) serves h w = item-sends tills known (LinkLost number) number serves h w (each-send-to-its tills known (LinkLost number) number refl)
row-sends tills known (Late number) serves h w = item-sends tills known (Late number) number serves h w (each-send-to-its tills known (Late number) number refl)
row-sends tills known (Overdue key) serves h w = (overdue-there tills known key w).1
row-sends tills known (Due number) serves h w = item-sends tills known (Due number) number serves h w (each-send-to-its tills known (Due number) number refl)

pub where-waits : (test : Bool) (known : Known) (row : Row) → row.core.waits ≡ known.core.waits → (owing_where test known row).core.waits ≡ known.core.waits
where-waits true known row same = same
where-waits false known row same = refl

pub row-waits : (tills : List Connection) (known : Known) (item : RoundItem) → is_till_gone item ≡ false → ServesThere tills item → WaitsAre (IsThere tills) known.core.waits → WaitsAre (IsThere tills) (row_of tills known item).core.waits
row-waits tills known (Crowded till) stays serves w = w
row-waits tills known (Message till bytes) stays serves w = w
row-waits tills known (Asked till as_read) stays serves w = subst (WaitsAre (IsThere tills)) (sym (where-waits (is_connected tills till) known (asked_row known till as_read) refl)) w
row-waits tills known (Unframed till) stays serves w = subst (WaitsAre (IsThere tills)) (sym (where-waits (is_connected tills till) known (owing known (OwedCutTill till ∷ [])) refl)) w
row-waits tills known (Gone till) stays serves w = no-true (sym stays)
row-waits tills known (Greet number apdu) stays serves w = subst (WaitsAre (IsThere tills)) (sym (row-leaves-waits known (Greet number apdu) refl)) w
row-waits tills known (Handle number apdu) stays serves w = subst (WaitsAre (IsThere tills)) (sym (row-leaves-waits known (Handle number apdu) refl)) w
row-waits tills known (Serve number till header request) stays serves w = subst (WaitsAre (IsThere tills)) (sym (row-leaves-waits known (Serve number till header request) refl)) w
row-waits tills known (Queue number till header request) stays serves w = (queue-there tills known number till header request (serves number till header request (inr refl)) w).0
row-waits tills known (NextWaiting number) stays serves w = next-there tills known number w
row-waits tills known (Oversized number) stays serves w = subst (WaitsAre (IsThere tills)) (sym (row-leaves-waits known (Oversized number) refl)) w
row-waits tills known (LinkLost number) stays serves w = subst (WaitsAre (IsThere tills)) (sym (row-leaves-waits known (LinkLost number) refl)) w
row-waits tills known (Late number) stays serves w = subst (WaitsAre (IsThere tills)) (sym (row-leaves-waits known (Late number) refl)) w
row-waits tills known (Overdue key) stays serves w = (overdue-there tills known key w).0
row-waits tills known (Due number) stays serves w = subst (WaitsAre (IsThere tills)) (sym (row-leaves-waits known (Due number) refl)) w

-- each item but that a till is gone
pub row-there : (tills : List Connection) (known : Known) (item : RoundItem) → is_till_gone item ≡ false → ServesThere tills item → AskersAre (IsThere tills) known.core → WaitsAre (IsThere tills) known.core.waits → RowIsThere tills (row_of tills known item)
row-there tills known item stays serves h w = record {
  waits = row-waits tills known item stays serves w;
  askers = λ number new till found is. by_kept number new till is (each-item-keeps-till tills known item number new stays found);
  sends = row-sends tills known item serves h w;
}
  where
    by_kept : (number : ℕ) (new : Terminal) (till : ℕ) → new.asker ≡ Some till → KeepsTill known.core number new ⊎ (NeedsNoTill known.core number new ⊎ BeginsFor known.core item number new) → IsThere tills till
    by_kept number new till is (inl keeps) = h number keeps.old till keeps.found (sym keeps.same ∙ is)
    by_kept number new till is (inr (inl needs)) = no-asker new.asker till needs.none is
    by_kept number new till is (inr (inr begins)) =
        let same : begins.till ≡ till = (let n : Some begins.till ≡ Some till = sym begins.for_till ∙ is in cc) in
        subst (IsThere tills) same (asked-till tills known item number begins.till serves w begins.asked)
