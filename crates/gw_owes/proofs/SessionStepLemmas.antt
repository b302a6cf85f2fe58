-- Lemmas of who is logged out along a run: what keeps the pairs, and what the last Login or Logout says.
use Rattle.std.proofs.Common.{◌≡◌, ◌⊎◌, ℕ, suc, ◌≤◌, inl, inr, Bool, true, false, List, [], ◌∷◌, ◌++◌, length, refl, sym, ◌∙◌, ap, subst, arith}
use Rattle.std.proofs.lemmas.Bool.{and_cases, and_parts, leb-false}
use Rattle.std.proofs.lemmas.List.{length-append}
use Rattle.std.proofs.lemmas.Slice.Eq.{bytes_eq-Decides}
use Rattle.std.specs.Prelude.{bytes_eq, nat_le, not, unwrap_or, ◌&&◌, if◌then◌else◌, Option, Some, None}
use Rattle.gw_site.specs.Outside.{is_connected}
use Rattle.sale_values.specs.declared.header.Header.{Header}
use Rattle.sale_values.specs.declared.request.SaleRequest.{SaleRequest}
use Rattle.sale_values.specs.declared.request.SaleRequest.TheVariants as requests
use Rattle.gw_owes.specs.declared.terminal.LoggedOut.{LoggedOut}
use Rattle.gw_owes.specs.Calls.{CutTill}
use Rattle.gw_owes.specs.Core.{Core}
use Rattle.gw_owes.specs.Items.{RoundItem, Crowded, Message, Asked, Unframed, Gone, Greet, Handle, Serve, Queue, NextWaiting, Oversized, LinkLost, Late, Overdue, Due}
use Rattle.gw_owes.specs.Links.{LinkIsMade, LinkHasFailed, LinkIsLost, link_row}
use Rattle.gw_owes.specs.Row.{Known, Row, owing}
use Rattle.gw_owes.specs.Rows.{asked_row}
use Rattle.gw_owes.specs.SessionLaws.{EachLinkKeepsPairs, EachOtherItemKeepsPairs, EachStepFollowsLast, EachStepKeepsFew, item_logs_out, last_logs_out, logs_out, sends_success, serves_session, step_logs_out}
use Rattle.gw_owes.specs.Sessions.{has_pair, is_logged_out, is_one_too_many, is_pair, is_session, logged_in_after, most_logged_out, pairs_after}
use Rattle.gw_owes.specs.TerminalLaws.{owes_cut}
use Rattle.gw_owes.specs.TerminalRows.{terminal_of, terminal_row}
use Rattle.gw_owes.specs.Terminals.{registers, unlinks}
use Rattle.gw_owes.specs.Transcript.{TerminalStep, HandlesItem, ChangesLink, ChangesWaits, StepAt, core_after, core_along, core_with_cut, known_after, known_before, known_new}
use Rattle.gw_owes.specs.WaitingRows.{next_waiting_row}
use Rattle.gw_owes.proofs.HandlingLemmas.{by-where, consequence-becomes, each-handled, each-terminal}
use Rattle.gw_owes.proofs.NextLemmas.{each-next, each-overdue, each-queued}
use Rattle.gw_owes.proofs.PaymentLemmas.{each-served}
use Rattle.gw_owes.proofs.SessionLemmas.{after-other, each-session, logged-in-own, logged-out-own}
use Rattle.gw_owes.proofs.TerminalLemmas.{due-same, greeting-changes-nothing, late-same, oversized-same}

-- the row leaves the pairs as they are
abbrev KeepsPairs : Known → Row → Type 0
KeepsPairs known row = row.core.logged_out ≡ known.core.logged_out

lost-keeps : (known : Known) (number : ℕ) → KeepsPairs known (link_row known number LinkIsLost)
lost-keeps known number = each-terminal (KeepsPairs known) known number (unlinks known number) refl (λ terminal found. refl)

pub link-keeps : EachLinkKeepsPairs
link-keeps known number LinkIsMade = each-terminal (KeepsPairs known) known number (registers known number) refl (λ terminal found. refl)
link-keeps known number LinkHasFailed = lost-keeps known number
link-keeps known number LinkIsLost = lost-keeps known number

next-keeps : (known : Known) (number : ℕ) → KeepsPairs known (next_waiting_row known number)
next-keeps known number = each-next (KeepsPairs known) known number (record {
  none = refl;
  refused = λ terminal last wait condition first refused. refl;
  begins = λ terminal last wait asking at. refl;
  day = λ terminal last wait at. refl;
  left = λ terminal last wait first. refl;
})

item-keeps : (known : Known) (item : RoundItem) → serves_session item ≡ false → KeepsPairs known (terminal_row known item)
item-keeps known (Crowded till) other = refl
item-keeps known (Message till bytes) other = refl
item-keeps known (Asked till as_read) other = refl
item-keeps known (Unframed till) other = refl
item-keeps known (Gone till) other = refl
item-keeps known (Greet number apdu) other = ap (λ (core : Core). core.logged_out) (greeting-changes-nothing known number apdu)
item-keeps known (Handle number apdu) other =
    each-handled (KeepsPairs known) known number apdu refl
    (λ terminal message found linked is taken. let becomes = consequence-becomes known number _ _ terminal.standing linked in ap (λ (row : Row). row.core.logged_out) becomes.row_is)
    (λ terminal message found linked is taken at stays. refl)
item-keeps known (Serve number till header request) other =
    each-served (KeepsPairs known) known number till header request (record {
      none = refl;
      begins = λ terminal last asking at. refl;
      sent = λ terminal talk at may. refl;
      wished = λ terminal talk at may. refl;
      session = λ success. let e : false ≡ true = sym other ∙ success.session_is in absurd cc;
      settles = λ terminal at. refl;
      day = λ terminal last at. refl;
      displays = λ terminal last outputs command at. refl;
    })
item-keeps known (Queue number till header request) other = refl
item-keeps known (NextWaiting number) other = next-keeps known number
item-keeps known (Oversized number) other = ap (λ (core : Core). core.logged_out) (oversized-same known number)
item-keeps known (LinkLost number) other = lost-keeps known number
item-keeps known (Late number) other = ap (λ (core : Core). core.logged_out) (late-same known number)
item-keeps known (Overdue key) other = refl
item-keeps known (Due number) other = ap (λ (core : Core). core.logged_out) (due-same known number)

pub each-other-item-keeps : EachOtherItemKeepsPairs
each-other-item-keeps tills known (Crowded till) other = refl
each-other-item-keeps tills known (Message till bytes) other = refl
each-other-item-keeps tills known (Asked till as_read) other = by-where (KeepsPairs known) known (asked_row known till as_read) (is_connected tills till) refl (λ there. refl)
each-other-item-keeps tills known (Unframed till) other = by-where (KeepsPairs known) known (owing known (CutTill till ∷ [])) (is_connected tills till) refl (λ there. refl)
each-other-item-keeps tills known (Gone till) other = refl
each-other-item-keeps tills known (Greet number apdu) other = item-keeps known (Greet number apdu) other
each-other-item-keeps tills known (Handle number apdu) other = item-keeps known (Handle number apdu) other
each-other-item-keeps tills known (Serve number till header request) other = item-keeps known (Serve number till header request) other
each-other-item-keeps tills known (Queue number till header request) other =
    each-queued (KeepsPairs known) known number till header request (record { none = refl; joins = λ terminal key at. refl; taken = λ wait at. refl })
each-other-item-keeps tills known (NextWaiting number) other = next-keeps known number
each-other-item-keeps tills known (Oversized number) other = item-keeps known (Oversized number) other
each-other-item-keeps tills known (LinkLost number) other = item-keeps known (LinkLost number) other
each-other-item-keeps tills known (Late number) other = item-keeps known (Late number) other
each-other-item-keeps tills known (Overdue key) other = each-overdue (KeepsPairs known) known key (record { none = refl; taken = λ wait waits overdue. refl })
each-other-item-keeps tills known (Due number) other = item-keeps known (Due number) other

-- the cut that a row owes leaves the pairs as they are
cut-keeps : (known : Known) (row : Row) (number : Option ℕ) → (core_with_cut known row number).logged_out ≡ row.core.logged_out
cut-keeps known row None = refl
cut-keeps known row (Some number) = by-cut (owes_cut row.calls)
  where
    by-cut : (cuts : Bool) → (if cuts then (link_row (record known { core = row.core }) number LinkIsLost).core else row.core).logged_out ≡ row.core.logged_out
    by-cut true = link-keeps (record known { core = row.core }) number LinkIsLost
    by-cut false = refl

-- ---- the last Login or Logout

-- the row leaves this pair logged out as its item says, where it gives a Success, and else as it was
abbrev FollowsItem : List ℕ → List ℕ → Known → RoundItem → Row → Type 0
FollowsItem sale poi known item row = has_pair row.core.logged_out sale poi ≡ unwrap_or (if sends_success row.calls then item_logs_out sale poi item else None) (has_pair known.core.logged_out sale poi)

either-none : {A : Type 0} → (b : Bool) (before : A) → unwrap_or (if b then None else None) before ≡ before
either-none true before = refl
either-none false before = refl

-- an item that says nothing of this pair, whose row keeps the pairs, is followed
keeps-follows : (sale poi : List ℕ) (known : Known) (item : RoundItem) → item_logs_out sale poi item ≡ None → KeepsPairs known (terminal_row known item) → FollowsItem sale poi known item (terminal_row known item)
keeps-follows sale poi known item none keeps =
    ap (λ (pairs : List LoggedOut). has_pair pairs sale poi) keeps
    ∙ sym (ap (λ (out : Option Bool). unwrap_or (if sends_success (terminal_row known item).calls then out else None) (has_pair known.core.logged_out sale poi)) none ∙ either-none (sends_success (terminal_row known item).calls) (has_pair known.core.logged_out sale poi))

-- of the same pair a request says what it leaves
own-says : (core : Core) (header : Header) (request : SaleRequest) (before : Bool) → is_session request ≡ true → has_pair (pairs_after core header request) header.sale header.poi ≡ unwrap_or (logs_out request) before
own-says core header requests.Login before is = logged-in-own core.logged_out header.sale header.poi
own-says core header requests.Logout before is = logged-out-own core.logged_out header.sale header.poi
own-says core header (requests.Payment ask) before is = absurd cc
own-says core header (requests.Reversal ask) before is = absurd cc
own-says core header (requests.Abort reference) before is = absurd cc
own-says core header (requests.Status reference) before is = absurd cc
own-says core header (requests.Reconciliation period) before is = absurd cc
own-says core header (requests.Display outputs) before is = absurd cc
own-says core header (requests.Print qualifier) before is = absurd cc
own-says core header requests.Diagnosis before is = absurd cc

-- another request says nothing
none-says : (sale poi : List ℕ) (header : Header) (request : SaleRequest) → is_session request ≡ false → (if bytes_eq header.sale sale && bytes_eq header.poi poi then logs_out request else None) ≡ None
none-says sale poi header request other = by-test (bytes_eq header.sale sale && bytes_eq header.poi poi)
  where
    none : (r : SaleRequest) → is_session r ≡ false → logs_out r ≡ None
    none requests.Login e = absurd cc
    none requests.Logout e = absurd cc
    none (requests.Payment ask) e = refl
    none (requests.Reversal ask) e = refl
    none (requests.Abort reference) e = refl
    none (requests.Status reference) e = refl
    none (requests.Reconciliation period) e = refl
    none (requests.Display outputs) e = refl
    none (requests.Print qualifier) e = refl
    none requests.Diagnosis e = refl

    by-test : (same : Bool) → (if same then logs_out request else None) ≡ None
    by-test true = none request other
    by-test false = refl

-- one that succeeds follows what it says
success-follows : (sale poi : List ℕ) (core : Core) (header : Header) (request : SaleRequest) → is_session request ≡ true
    → has_pair (pairs_after core header request) sale poi ≡ unwrap_or (if bytes_eq header.sale sale && bytes_eq header.poi poi then logs_out request else None) (has_pair core.logged_out sale poi)
success-follows sale poi core header request is = by-test (bytes_eq header.sale sale && bytes_eq header.poi poi) refl
  where
    apart : (bytes_eq header.sale sale && bytes_eq header.poi poi) ≡ false → sale ≡ header.sale → poi ≡ header.poi → ⊥
    apart e same_sale same_poi = by-parts (and_cases (bytes_eq header.sale sale) (bytes_eq header.poi poi) e)
      where
        by-parts : (bytes_eq header.sale sale ≡ false) ⊎ (bytes_eq header.poi poi ≡ false) → ⊥
        by-parts (inl other) = let e : false ≡ true = sym other ∙ (bytes_eq-Decides header.sale sale).1 (sym same_sale) in cc
        by-parts (inr other) = let e : false ≡ true = sym other ∙ (bytes_eq-Decides header.poi poi).1 (sym same_poi) in cc

    by-test : (same : Bool) → (bytes_eq header.sale sale && bytes_eq header.poi poi) ≡ same
        → has_pair (pairs_after core header request) sale poi ≡ unwrap_or (if same then logs_out request else None) (has_pair core.logged_out sale poi)
    by-test true e =
        let p = and_parts (bytes_eq header.sale sale) (bytes_eq header.poi poi) e in
        ap (has_pair (pairs_after core header request) sale) (sym ((bytes_eq-Decides header.poi poi).0 p.1))
        ∙ (ap (λ (s : List ℕ). has_pair (pairs_after core header request) s header.poi) (sym ((bytes_eq-Decides header.sale sale).0 p.0)) ∙ own-says core header request (has_pair core.logged_out sale poi) is)
    by-test false e = after-other core header request sale poi (apart e)

item-follows : (sale poi : List ℕ) (known : Known) (item : RoundItem) → FollowsItem sale poi known item (terminal_row known item)
item-follows sale poi known (Crowded till) = refl
item-follows sale poi known (Message till bytes) = refl
item-follows sale poi known (Asked till as_read) = refl
item-follows sale poi known (Unframed till) = refl
item-follows sale poi known (Gone till) = refl
item-follows sale poi known (Greet number apdu) = keeps-follows sale poi known (Greet number apdu) refl (item-keeps known (Greet number apdu) refl)
item-follows sale poi known (Handle number apdu) = keeps-follows sale poi known (Handle number apdu) refl (item-keeps known (Handle number apdu) refl)
item-follows sale poi known (Serve number till header request) = by-session (is_session request) refl
  where
    by-session : (session : Bool) → is_session request ≡ session → FollowsItem sale poi known (Serve number till header request) (terminal_row known (Serve number till header request))
    by-session true is =
        each-session (FollowsItem sale poi known (Serve number till header request)) known number till header request is refl (λ few. success-follows sale poi known.core header request is)
    by-session false other = keeps-follows sale poi known (Serve number till header request) (none-says sale poi header request other) (item-keeps known (Serve number till header request) other)
item-follows sale poi known (Queue number till header request) = refl
item-follows sale poi known (NextWaiting number) = keeps-follows sale poi known (NextWaiting number) refl (item-keeps known (NextWaiting number) refl)
item-follows sale poi known (Oversized number) = keeps-follows sale poi known (Oversized number) refl (item-keeps known (Oversized number) refl)
item-follows sale poi known (LinkLost number) = keeps-follows sale poi known (LinkLost number) refl (item-keeps known (LinkLost number) refl)
item-follows sale poi known (Late number) = keeps-follows sale poi known (Late number) refl (item-keeps known (Late number) refl)
item-follows sale poi known (Overdue key) = refl
item-follows sale poi known (Due number) = keeps-follows sale poi known (Due number) refl (item-keeps known (Due number) refl)

step-follows : (sale poi : List ℕ) (known : Known) (step : TerminalStep) → is_logged_out (core_after known step) sale poi ≡ unwrap_or (step_logs_out sale poi known step) (is_logged_out known.core sale poi)
step-follows sale poi known (HandlesItem item) =
    ap (λ (pairs : List LoggedOut). has_pair pairs sale poi) (cut-keeps known (terminal_row known item) (terminal_of item)) ∙ item-follows sale poi known item
step-follows sale poi known (ChangesLink number event) = ap (λ (pairs : List LoggedOut). has_pair pairs sale poi) (link-keeps known number event)
step-follows sale poi known (ChangesWaits waits) = refl

along-follows : (sale poi : List ℕ) (known : Known) (steps : List StepAt) (before : Bool) → is_logged_out known.core sale poi ≡ before
    → is_logged_out (core_along known steps) sale poi ≡ last_logs_out sale poi known before steps
along-follows sale poi known [] before is = is
along-follows sale poi known (first ∷ rest) before is =
    along-follows sale poi (known_after known first) rest (unwrap_or (step_logs_out sale poi (known_before known first) first.step) before)
    (step-follows sale poi (known_before known first) first.step ∙ ap (unwrap_or (step_logs_out sale poi (known_before known first) first.step)) is)

pub each-step-follows-last : EachStepFollowsLast
each-step-follows-last setup kept steps sale poi = along-follows sale poi (known_new setup kept) steps false refl

-- ---- how many pairs

filtered-few : (sale poi : List ℕ) (pairs : List LoggedOut) → length (logged_in_after pairs sale poi) ≤ length pairs
filtered-few sale poi [] = omega arith
filtered-few sale poi (first ∷ rest) = by-test (filtered-few sale poi rest) (is_pair sale poi first)
  where
    by-test : length (logged_in_after rest sale poi) ≤ length rest → (own : Bool) → length (if not own then first ∷ logged_in_after rest sale poi else logged_in_after rest sale poi) ≤ suc (length rest)
    by-test later true = omega (arith, later)
    by-test later false = omega (arith, later)

-- where it isn't one too many, no more pairs are than may be
after-few : (core : Core) (header : Header) (request : SaleRequest) → is_one_too_many core header request ≡ false → length core.logged_out ≤ most_logged_out → length (pairs_after core header request) ≤ most_logged_out
after-few core header requests.Login one few = omega (arith, few, filtered-few header.sale header.poi core.logged_out)
after-few core header requests.Logout one few = by-test (has_pair core.logged_out header.sale header.poi) (and_cases (not (has_pair core.logged_out header.sale header.poi)) (nat_le most_logged_out (length core.logged_out)) one)
  where
    new : List LoggedOut
    new = record { sale = header.sale; poi = header.poi } ∷ []

    by-test : (there : Bool) → (not there ≡ false) ⊎ (nat_le most_logged_out (length core.logged_out) ≡ false) → length (if there then core.logged_out else core.logged_out ++ new) ≤ most_logged_out
    by-test true one = few
    by-test false (inl e) = absurd cc
    by-test false (inr e) = let less = leb-false most_logged_out (length core.logged_out) e in omega (arith, less, length-append core.logged_out new)
after-few core header (requests.Payment ask) one few = few
after-few core header (requests.Reversal ask) one few = few
after-few core header (requests.Abort reference) one few = few
after-few core header (requests.Status reference) one few = few
after-few core header (requests.Reconciliation period) one few = few
after-few core header (requests.Display outputs) one few = few
after-few core header (requests.Print qualifier) one few = few
after-few core header requests.Diagnosis one few = few

item-few : (known : Known) (item : RoundItem) → length known.core.logged_out ≤ most_logged_out → (other : Bool) → serves_session item ≡ other → length (terminal_row known item).core.logged_out ≤ most_logged_out
item-few known item few false other = subst (λ (pairs : List LoggedOut). length pairs ≤ most_logged_out) (sym (item-keeps known item other)) few
item-few known (Crowded till) few true is = few
item-few known (Message till bytes) few true is = few
item-few known (Asked till as_read) few true is = few
item-few known (Unframed till) few true is = few
item-few known (Gone till) few true is = few
item-few known (Greet number apdu) few true is = absurd cc
item-few known (Handle number apdu) few true is = absurd cc
item-few known (Serve number till header request) few true is =
    each-session (λ (row : Row). length row.core.logged_out ≤ most_logged_out) known number till header request is few (λ one. after-few known.core header request one few)
item-few known (Queue number till header request) few true is = absurd cc
item-few known (NextWaiting number) few true is = absurd cc
item-few known (Oversized number) few true is = absurd cc
item-few known (LinkLost number) few true is = absurd cc
item-few known (Late number) few true is = absurd cc
item-few known (Overdue key) few true is = few
item-few known (Due number) few true is = absurd cc

step-few : (known : Known) (step : TerminalStep) → length known.core.logged_out ≤ most_logged_out → length (core_after known step).logged_out ≤ most_logged_out
step-few known (HandlesItem item) few =
    subst (λ (pairs : List LoggedOut). length pairs ≤ most_logged_out) (sym (cut-keeps known (terminal_row known item) (terminal_of item))) (item-few known item few (serves_session item) refl)
step-few known (ChangesLink number event) few = subst (λ (pairs : List LoggedOut). length pairs ≤ most_logged_out) (sym (link-keeps known number event)) few
step-few known (ChangesWaits waits) few = few

along-few : (known : Known) (steps : List StepAt) → length known.core.logged_out ≤ most_logged_out → length (core_along known steps).logged_out ≤ most_logged_out
along-few known [] few = few
along-few known (first ∷ rest) few = along-few (known_after known first) rest (step-few (known_before known first) first.step few)

pub each-step-keeps-few : EachStepKeepsFew
each-step-keeps-few setup kept steps = along-few (known_new setup kept) steps (omega arith)
