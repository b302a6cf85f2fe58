-- Lemmas of Login and Logout: who is logged out after one, and what one gets.
use Rattle.std.proofs.Common.{◌≡◌, ℕ, Bool, true, false, List, [], ◌∷◌, ◌++◌, length, refl, sym, ◌∙◌, ap, subst}
use Rattle.std.proofs.lemmas.Bool.{and_from, and_parts, false_from_ne_true, le-leb, leb-true, not_from_false, or_from, or_right}
use Rattle.std.proofs.lemmas.List.Folds.{list_any-append}
use Rattle.std.proofs.lemmas.Slice.Eq.{bytes_eq-Decides}
use Rattle.std.specs.Prelude.{bytes_eq, not, ◌||◌, if◌then◌else◌, Option, Some, None}
use Rattle.gw_base.specs.declared.condition.Condition.TheVariants.{UnavailableService}
use Rattle.gw_site.specs.Outside.{Connection, is_connected}
use Rattle.sale_values.specs.declared.header.Header.{Header}
use Rattle.sale_values.specs.declared.request.SaleRequest.{SaleRequest}
use Rattle.sale_values.specs.declared.request.SaleRequest.TheVariants as requests
use Rattle.gw_owes.specs.declared.terminal.LoggedOut.{LoggedOut}
use Rattle.gw_owes.specs.declared.terminal.Terminal.{Terminal}
use Rattle.gw_owes.specs.Core.{Core}
use Rattle.gw_owes.specs.Diagnosis.{NamedTerminal, named_terminal}
use Rattle.gw_owes.specs.Items.{Asked}
use Rattle.gw_owes.specs.Payments.{serve_row}
use Rattle.gw_owes.specs.ReadAs.{Request}
use Rattle.gw_owes.specs.Row.{Known, Row, owing_nothing, owing_where}
use Rattle.gw_owes.specs.Rows.{asked_row, row_of}
use Rattle.gw_owes.specs.SessionLaws.{IsOneTooMany, SessionSucceeds, EachSessionIsReplied, EachServedSessionSucceeds, EachOtherPairStays}
use Rattle.gw_owes.specs.SessionRows.{session_reply, session_items, session_row, session_succeeds}
use Rattle.gw_owes.specs.Sessions.{is_pair, has_pair, is_logged_out, logged_out_after, logged_in_after, is_session, most_logged_out, is_one_too_many, pairs_after}
use Rattle.gw_owes.specs.Steps.{StepResult, Fails, Begins, is_beginning, reply_of_result, items_of_result}
use Rattle.gw_owes.specs.Terminals.{terminal_at, of_terminal, reply_calls_to}
use Rattle.gw_owes.proofs.PaymentLemmas.{session-served}

-- ---- pairs

-- a pair is what it is of
same-pair : (sale poi : List ℕ) → is_pair sale poi (record { sale = sale; poi = poi }) ≡ true
same-pair sale poi = and_from (bytes_eq sale sale) (bytes_eq poi poi) ((bytes_eq-Decides sale sale).1 refl) ((bytes_eq-Decides poi poi).1 refl)

-- a pair of these is of no others
pub other-pair : (sale poi other there : List ℕ) (pair : LoggedOut) → (other ≡ sale → there ≡ poi → ⊥) → is_pair sale poi pair ≡ true → is_pair other there pair ≡ false
other-pair sale poi other there pair apart is =
    false_from_ne_true (is_pair other there pair) (λ both.
    let p = and_parts (bytes_eq pair.sale sale) (bytes_eq pair.poi poi) is in
    let q = and_parts (bytes_eq pair.sale other) (bytes_eq pair.poi there) both in
    apart (sym ((bytes_eq-Decides pair.sale other).0 q.0) ∙ (bytes_eq-Decides pair.sale sale).0 p.0) (sym ((bytes_eq-Decides pair.poi there).0 q.1) ∙ (bytes_eq-Decides pair.poi poi).0 p.1))

-- after its Logout it is there
pub logged-out-own : (pairs : List LoggedOut) (sale poi : List ℕ) → has_pair (logged_out_after pairs sale poi) sale poi ≡ true
logged-out-own pairs sale poi = by-test (has_pair pairs sale poi) refl
  where
    new : List LoggedOut
    new = record { sale = sale; poi = poi } ∷ []

    by-test : (there : Bool) → has_pair pairs sale poi ≡ there → has_pair (if there then pairs else pairs ++ new) sale poi ≡ true
    by-test true is = is
    by-test false is = list_any-append (is_pair sale poi) pairs new ∙ or_right (has_pair pairs sale poi) _ (ap (λ b. b || false) (same-pair sale poi))

-- and others are there as before
pub logged-out-other : (pairs : List LoggedOut) (sale poi other there : List ℕ) → (other ≡ sale → there ≡ poi → ⊥) → has_pair (logged_out_after pairs sale poi) other there ≡ has_pair pairs other there
logged-out-other pairs sale poi other there apart = by-test (has_pair pairs sale poi)
  where
    new : List LoggedOut
    new = record { sale = sale; poi = poi } ∷ []

    or-none : (b : Bool) → (b || false) ≡ b
    or-none true = refl
    or-none false = refl

    by-test : (known : Bool) → has_pair (if known then pairs else pairs ++ new) other there ≡ has_pair pairs other there
    by-test true = refl
    by-test false =
        list_any-append (is_pair other there) pairs new
        ∙ (ap (λ b. has_pair pairs other there || (b || false)) (other-pair sale poi other there (record { sale = sale; poi = poi }) apart (same-pair sale poi)) ∙ or-none (has_pair pairs other there))

-- after its Login it isn't there
pub logged-in-own : (pairs : List LoggedOut) (sale poi : List ℕ) → has_pair (logged_in_after pairs sale poi) sale poi ≡ false
logged-in-own [] sale poi = refl
logged-in-own (first ∷ rest) sale poi = by-test (logged-in-own rest sale poi) (is_pair sale poi first) refl
  where
    by-test : has_pair (logged_in_after rest sale poi) sale poi ≡ false → (own : Bool) → is_pair sale poi first ≡ own
        → has_pair (if not own then first ∷ logged_in_after rest sale poi else logged_in_after rest sale poi) sale poi ≡ false
    by-test later true is = later
    by-test later false is = or_from (is_pair sale poi first) _ is later

-- and others are there as before
pub logged-in-other : (pairs : List LoggedOut) (sale poi other there : List ℕ) → (other ≡ sale → there ≡ poi → ⊥) → has_pair (logged_in_after pairs sale poi) other there ≡ has_pair pairs other there
logged-in-other [] sale poi other there apart = refl
logged-in-other (first ∷ rest) sale poi other there apart = by-test (logged-in-other rest sale poi other there apart) (is_pair sale poi first) refl
  where
    by-test : has_pair (logged_in_after rest sale poi) other there ≡ has_pair rest other there → (own : Bool) → is_pair sale poi first ≡ own
        → has_pair (if not own then first ∷ logged_in_after rest sale poi else logged_in_after rest sale poi) other there ≡ (is_pair other there first || has_pair rest other there)
    by-test later true is = later ∙ sym (ap (λ b. b || has_pair rest other there) (other-pair sale poi other there first apart is))
    by-test later false is = ap (λ b. is_pair other there first || b) later

-- ---- one too many

from-not : (b : Bool) → not b ≡ true → b ≡ false
from-not true e = cc
from-not false e = refl

-- a request that is one too many is so by its definition
pub is-too-many : (core : Core) (header : Header) (request : SaleRequest) → IsOneTooMany core header request → is_one_too_many core header request ≡ true
is-too-many core header request one =
    subst (λ (r : SaleRequest). is_one_too_many core header r ≡ true) (sym one.logout)
    (and_from (not (is_logged_out core header.sale header.poi)) _ (not_from_false (is_logged_out core header.sale header.poi) one.new_pair) (le-leb most_logged_out (length core.logged_out) one.full))

-- and one that isn't, isn't
pub none-too-many : (core : Core) (header : Header) (request : SaleRequest) → (IsOneTooMany core header request → ⊥) → is_one_too_many core header request ≡ false
none-too-many core header requests.Login none = refl
none-too-many core header requests.Logout none =
    false_from_ne_true (is_one_too_many core header requests.Logout) (λ both.
    let p = and_parts (not (is_logged_out core header.sale header.poi)) _ both in
    none (record { logout = refl; new_pair = from-not (is_logged_out core header.sale header.poi) p.0; full = leb-true most_logged_out (length core.logged_out) p.1 }))
none-too-many core header (requests.Payment ask) none = refl
none-too-many core header (requests.Reversal ask) none = refl
none-too-many core header (requests.Abort reference) none = refl
none-too-many core header (requests.Status reference) none = refl
none-too-many core header (requests.Reconciliation period) none = refl
none-too-many core header (requests.Display outputs) none = refl
none-too-many core header (requests.Print qualifier) none = refl
none-too-many core header requests.Diagnosis none = refl

-- ---- what one gets

-- what a Login or a Logout owes as it is read, by the terminal that is named
abbrev asked_session : Known → ℕ → Header → SaleRequest → Option NamedTerminal → Row
asked_session known till header request named =
    record { core = known.core; calls = reply_calls_to (Some till) (session_reply known header request named); items = session_items known till header request named }

-- the row of one, of a till that is there
asked-is : (tills : List Connection) (known : Known) (till : ℕ) (header : Header) (request : SaleRequest) (named : Option NamedTerminal) → is_connected tills till ≡ true → is_session request ≡ true
    → named_terminal known.core header.poi ≡ named → row_of tills known (Asked till (Request header request)) ≡ asked_session known till header request named
asked-is tills known till header requests.Login named there is named_is =
    ap (λ b. owing_where b known (asked_row known till (Request header requests.Login))) there ∙ ap (asked_session known till header requests.Login) named_is
asked-is tills known till header requests.Logout named there is named_is =
    ap (λ b. owing_where b known (asked_row known till (Request header requests.Logout))) there ∙ ap (asked_session known till header requests.Logout) named_is
asked-is tills known till header (requests.Payment ask) named there is named_is = absurd cc
asked-is tills known till header (requests.Reversal ask) named there is named_is = absurd cc
asked-is tills known till header (requests.Abort reference) named there is named_is = absurd cc
asked-is tills known till header (requests.Status reference) named there is named_is = absurd cc
asked-is tills known till header (requests.Reconciliation period) named there is named_is = absurd cc
asked-is tills known till header (requests.Display outputs) named there is named_is = absurd cc
asked-is tills known till header (requests.Print qualifier) named there is named_is = absurd cc
asked-is tills known till header requests.Diagnosis named there is named_is = absurd cc

-- what it owes at a terminal that is named, by its steps' result
abbrev asked_result : Known → ℕ → Header → SaleRequest → NamedTerminal → Bool → Row
asked_result known till header request named too_many =
    let result : StepResult = if too_many then Fails UnavailableService else Begins in
    record { core = known.core; calls = reply_calls_to (Some till) (reply_of_result known.kept header result); items = items_of_result till header request (Some named) result }

pub each-session-is-replied : EachSessionIsReplied
each-session-is-replied tills known till header request there is = record {
  unconfigured = λ none. let row = asked-is tills known till header request None there is none in record { reply = ap (λ (r : Row). r.calls) row; none_more = ap (λ (r : Row). r.items) row };
  too_many = λ named named_is one.
      let row = at named named_is true (is-too-many known.core header request one) in record { reply = ap (λ (r : Row). r.calls) row; none_more = ap (λ (r : Row). r.items) row };
  served = λ named named_is none.
      let row = at named named_is false (none-too-many known.core header request none) in record { items_are = ap (λ (r : Row). r.items) row; no_reply = ap (λ (r : Row). r.calls) row };
}
  where
    at : (named : NamedTerminal) → named_terminal known.core header.poi ≡ Some named → (too_many : Bool) → is_one_too_many known.core header request ≡ too_many
        → row_of tills known (Asked till (Request header request)) ≡ asked_result known till header request named too_many
    at named named_is too_many e = asked-is tills known till header request (Some named) there is named_is ∙ ap (asked_result known till header request named) e

-- ---- what one that is served leaves

-- what holds of nothing owed, and of one that succeeds, holds of the row of a Login or a Logout
pub each-session : (P : Row → Type 0) (known : Known) (number till : ℕ) (header : Header) (request : SaleRequest) → is_session request ≡ true → P (owing_nothing known)
    → (is_one_too_many known.core header request ≡ false → P (session_succeeds known till header request)) → P (serve_row known number till header request)
each-session P known number till header request is none some = by-request request is refl
  where
    not-beginning : (too_many : Bool) → is_beginning (if too_many then Fails UnavailableService else Begins) ≡ true → too_many ≡ false
    not-beginning true e = cc
    not-beginning false e = refl

    at : P (of_terminal known (session_row known number till header request) (terminal_at known number))
    at = session-served P known number till header request is none (λ begins. some (not-beginning (is_one_too_many known.core header request) begins.begins_is))

    by-request : (asked : SaleRequest) → is_session asked ≡ true → request ≡ asked → P (serve_row known number till header asked)
    by-request requests.Login is same = subst (λ (r : SaleRequest). P (of_terminal known (session_row known number till header r) (terminal_at known number))) same at
    by-request requests.Logout is same = subst (λ (r : SaleRequest). P (of_terminal known (session_row known number till header r) (terminal_at known number))) same at
    by-request (requests.Payment ask) is same = absurd cc
    by-request (requests.Reversal ask) is same = absurd cc
    by-request (requests.Abort reference) is same = absurd cc
    by-request (requests.Status reference) is same = absurd cc
    by-request (requests.Reconciliation period) is same = absurd cc
    by-request (requests.Display outputs) is same = absurd cc
    by-request (requests.Print qualifier) is same = absurd cc
    by-request requests.Diagnosis is same = absurd cc

-- the row of one that isn't one too many, at a terminal that is there
serve-is : (known : Known) (number till : ℕ) (header : Header) (request : SaleRequest) (terminal : Terminal) → is_session request ≡ true → terminal_at known number ≡ Some terminal
    → is_one_too_many known.core header request ≡ false → serve_row known number till header request ≡ session_succeeds known till header request
serve-is known number till header requests.Login terminal is found few =
    ap (of_terminal known (session_row known number till header requests.Login)) found
serve-is known number till header requests.Logout terminal is found few =
    ap (of_terminal known (session_row known number till header requests.Logout)) found
    ∙ ap (λ (too_many : Bool). owing_where (is_beginning (if too_many then Fails UnavailableService else Begins)) known (session_succeeds known till header requests.Logout)) few
serve-is known number till header (requests.Payment ask) terminal is found few = absurd cc
serve-is known number till header (requests.Reversal ask) terminal is found few = absurd cc
serve-is known number till header (requests.Abort reference) terminal is found few = absurd cc
serve-is known number till header (requests.Status reference) terminal is found few = absurd cc
serve-is known number till header (requests.Reconciliation period) terminal is found few = absurd cc
serve-is known number till header (requests.Display outputs) terminal is found few = absurd cc
serve-is known number till header (requests.Print qualifier) terminal is found few = absurd cc
serve-is known number till header requests.Diagnosis terminal is found few = absurd cc

pub each-served-session-succeeds : EachServedSessionSucceeds
each-served-session-succeeds tills known number till header request terminal is found none =
    subst (SessionSucceeds known till header request) (sym (serve-is known number till header request terminal is found (none-too-many known.core header request none))) (record {
      reply = refl;
      none_more = refl;
      logged_out = λ same. subst (λ (r : SaleRequest). has_pair (pairs_after known.core header r) header.sale header.poi ≡ true) (sym same) (logged-out-own known.core.logged_out header.sale header.poi);
      logged_in = λ same. subst (λ (r : SaleRequest). has_pair (pairs_after known.core header r) header.sale header.poi ≡ false) (sym same) (logged-in-own known.core.logged_out header.sale header.poi);
      others_stay = refl;
    })

-- the pairs after a request, of another pair
pub after-other : (core : Core) (header : Header) (request : SaleRequest) (sale poi : List ℕ) → (sale ≡ header.sale → poi ≡ header.poi → ⊥) → has_pair (pairs_after core header request) sale poi ≡ is_logged_out core sale poi
after-other core header requests.Login sale poi apart = logged-in-other core.logged_out header.sale header.poi sale poi apart
after-other core header requests.Logout sale poi apart = logged-out-other core.logged_out header.sale header.poi sale poi apart
after-other core header (requests.Payment ask) sale poi apart = refl
after-other core header (requests.Reversal ask) sale poi apart = refl
after-other core header (requests.Abort reference) sale poi apart = refl
after-other core header (requests.Status reference) sale poi apart = refl
after-other core header (requests.Reconciliation period) sale poi apart = refl
after-other core header (requests.Display outputs) sale poi apart = refl
after-other core header (requests.Print qualifier) sale poi apart = refl
after-other core header requests.Diagnosis sale poi apart = refl

pub each-other-pair-stays : EachOtherPairStays
each-other-pair-stays tills known number till header request sale poi is apart =
    each-session (λ (row : Row). is_logged_out row.core sale poi ≡ is_logged_out known.core sale poi) known number till header request is refl (λ few. after-other known.core header request sale poi apart)
