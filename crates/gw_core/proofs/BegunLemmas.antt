-- What a request of a till begins: a session or a service at the terminal that is named, or a stop at the one that serves the key of an Abort.
use Rattle.std.proofs.Common.{◌≡◌, ℕ, List, [], ◌∷◌, refl, ap}
use Rattle.std.specs.Prelude.{Bool, true, false, if◌then◌else◌, Option, Some, None}
use Rattle.jrn_record.specs.declared.records.Record.{Record}
use Rattle.sale_values.specs.Key.{key_of}
use Rattle.sale_values.specs.declared.header.Header.{Header}
use Rattle.sale_values.specs.declared.request.Output.{Output}
use Rattle.sale_values.specs.declared.request.Reference.{Reference}
use Rattle.sale_values.specs.declared.request.SaleRequest.{SaleRequest}
use Rattle.sale_values.specs.declared.request.SaleRequest.TheVariants as requests
use Rattle.gw_owes.specs.Diagnosis.{NamedTerminal, named_terminal}
use Rattle.gw_owes.specs.Displays.{display_items, display_result}
use Rattle.gw_owes.specs.Items.{Serve, Queue}
use Rattle.gw_owes.specs.ReadAs.{Request}
use Rattle.gw_owes.specs.Core.{Wait}
use Rattle.gw_owes.specs.Requests.{abort_items, begun_by}
use Rattle.gw_owes.specs.Row.{Known}
use Rattle.gw_owes.specs.SessionRows.{session_items, session_result}
use Rattle.gw_owes.specs.Steps.{StepResult, KeptReply, Fails, Begins, Waits, step_result, items_of_result}
use Rattle.gw_owes.specs.Stops.{serves_key, stop_items_at}
use Rattle.gw_owes.specs.Waits.{waiting_with}
use Rattle.gw_owes.specs.declared.terminal.Terminal.{Terminal}

-- what a session or a service begins is its request, at the terminal that is named
pub record ServesNamed (header own : Header) (request begun : SaleRequest) (pt : ℕ) (named : Option NamedTerminal) (result : StepResult) : Type 0 where
  pub same_header : own ≡ header
  pub same_request : request ≡ begun
  pub terminal : Terminal
  pub named_is : named ≡ Some (record { number = pt; terminal = terminal })
  pub result_is : result ≡ Begins

pub serves-named : (till pt : ℕ) (header own : Header) (request begun : SaleRequest) (named : Option NamedTerminal) (result : StepResult) → items_of_result till own request named result ≡ Serve pt till header begun ∷ []
    → ServesNamed header own request begun pt named result
serves-named till pt header own request begun None result is = absurd cc
serves-named till pt header own request begun (Some named) KeptReply is = absurd cc
serves-named till pt header own request begun (Some named) (Fails condition) is = absurd cc
serves-named till pt header own request begun (Some named) Waits is = absurd cc
serves-named till pt header own request begun (Some named) Begins is =
    let number_is : named.number ≡ pt = cc in
    record {
      same_header = cc;
      same_request = cc;
      terminal = named.terminal;
      named_is = ap (λ (n : ℕ). Some (record { number = n; terminal = named.terminal })) number_is;
      result_is = refl;
    }

-- what an Abort begins is the stop at the terminal that is named, which serves the key
pub record StopsNamed (kept : List Record) (header own : Header) (reference : Reference) (begun : SaleRequest) (pt : ℕ) (named : Option NamedTerminal) : Type 0 where
  pub same_header : own ≡ header
  pub same_request : requests.Abort reference ≡ begun
  pub terminal : Terminal
  pub named_is : named ≡ Some (record { number = pt; terminal = terminal })
  pub serves : serves_key kept (key_of own reference) terminal ≡ true

pub stops-named : (known : Known) (till pt : ℕ) (header own : Header) (reference : Reference) (begun : SaleRequest) (named : Option NamedTerminal) → stop_items_at known till own reference named ≡ Serve pt till header begun ∷ []
    → StopsNamed known.kept header own reference begun pt named
stops-named known till pt header own reference begun None is = absurd cc
stops-named known till pt header own reference begun (Some named) is = by-test (serves_key known.kept (key_of own reference) named.terminal) refl is
  where
    by-test : (test : Bool) → serves_key known.kept (key_of own reference) named.terminal ≡ test → (if test then Serve named.number till own (requests.Abort reference) ∷ [] else []) ≡ Serve pt till header begun ∷ []
        → StopsNamed known.kept header own reference begun pt (Some named)
    by-test false serves is = absurd cc
    by-test true serves is =
        let number_is : named.number ≡ pt = cc in
        record {
          same_header = cc;
          same_request = cc;
          terminal = named.terminal;
          named_is = ap (λ (n : ℕ). Some (record { number = n; terminal = named.terminal })) number_is;
          serves = serves;
        }

-- what joins those that wait is its request, for the terminal that is named
pub record QueuesNamed (header own : Header) (request queued : SaleRequest) (pt : ℕ) (named : Option NamedTerminal) (result : StepResult) : Type 0 where
  pub same_header : own ≡ header
  pub same_request : request ≡ queued
  pub terminal : Terminal
  pub named_is : named ≡ Some (record { number = pt; terminal = terminal })
  pub result_is : result ≡ Waits

pub queues-named : (till pt : ℕ) (header own : Header) (request queued : SaleRequest) (named : Option NamedTerminal) (result : StepResult) → items_of_result till own request named result ≡ Queue pt till header queued ∷ []
    → QueuesNamed header own request queued pt named result
queues-named till pt header own request queued None result is = absurd cc
queues-named till pt header own request queued (Some named) KeptReply is = absurd cc
queues-named till pt header own request queued (Some named) (Fails condition) is = absurd cc
queues-named till pt header own request queued (Some named) Begins is = absurd cc
queues-named till pt header own request queued (Some named) Waits is =
    let number_is : named.number ≡ pt = cc in
    record {
      same_header = cc;
      same_request = cc;
      terminal = named.terminal;
      named_is = ap (λ (n : ℕ). Some (record { number = n; terminal = named.terminal })) number_is;
      result_is = refl;
    }

-- an Abort that begins at a terminal is the stop there: nothing waits under its key
pub stop-of-abort : (known : Known) (till pt : ℕ) (header own : Header) (reference : Reference) (begun : SaleRequest) (waiting : Option Wait) → abort_items known till own reference waiting ≡ Serve pt till header begun ∷ []
    → stop_items_at known till own reference (named_terminal known.core (key_of own reference).poi) ≡ Serve pt till header begun ∷ []
stop-of-abort known till pt header own reference begun None is = is
stop-of-abort known till pt header own reference begun (Some wait) is = absurd cc

-- what begins is the request of the message, with its header
pub record IsSameRequest (header own : Header) (request begun : SaleRequest) : Type 0 where
  pub header_is : own ≡ header
  pub request_is : request ≡ begun

same-service : (known : Known) (till pt : ℕ) (header own : Header) (request begun : SaleRequest) → items_of_result till own request (named_terminal known.core own.poi) (step_result known own request (named_terminal known.core own.poi)) ≡ Serve pt till header begun ∷ []
    → IsSameRequest header own request begun
same-service known till pt header own request begun is =
    let serves = serves-named till pt header own request begun (named_terminal known.core own.poi) (step_result known own request (named_terminal known.core own.poi)) is in
    record { header_is = serves.same_header; request_is = serves.same_request }

same-session : (known : Known) (till pt : ℕ) (header own : Header) (request begun : SaleRequest) → session_items known till own request (named_terminal known.core own.poi) ≡ Serve pt till header begun ∷ []
    → IsSameRequest header own request begun
same-session known till pt header own request begun is =
    let serves = serves-named till pt header own request begun (named_terminal known.core own.poi) (session_result known own request (named_terminal known.core own.poi)) is in
    record { header_is = serves.same_header; request_is = serves.same_request }

same-display : (known : Known) (till pt : ℕ) (header own : Header) (outputs : List Output) (begun : SaleRequest) → display_items till own outputs (named_terminal known.core own.poi) ≡ Serve pt till header begun ∷ []
    → IsSameRequest header own (requests.Display outputs) begun
same-display known till pt header own outputs begun is =
    let serves = serves-named till pt header own (requests.Display outputs) begun (named_terminal known.core own.poi) (display_result outputs (named_terminal known.core own.poi)) is in
    record { header_is = serves.same_header; request_is = serves.same_request }

pub same-begun : (known : Known) (till pt : ℕ) (header own : Header) (request begun : SaleRequest) → begun_by known till (Request own request) ≡ Serve pt till header begun ∷ [] → IsSameRequest header own request begun
same-begun known till pt header own requests.Login begun is = same-session known till pt header own requests.Login begun is
same-begun known till pt header own requests.Logout begun is = same-session known till pt header own requests.Logout begun is
same-begun known till pt header own (requests.Payment ask) begun is = same-service known till pt header own (requests.Payment ask) begun is
same-begun known till pt header own (requests.Reversal ask) begun is = same-service known till pt header own (requests.Reversal ask) begun is
same-begun known till pt header own (requests.Abort reference) begun is =
    let stops = stops-named known till pt header own reference begun (named_terminal known.core (key_of own reference).poi)
    (stop-of-abort known till pt header own reference begun (waiting_with (key_of own reference) known.core.waits) is) in
    record { header_is = stops.same_header; request_is = stops.same_request }
same-begun known till pt header own (requests.Status reference) begun is = absurd cc
same-begun known till pt header own (requests.Reconciliation period) begun is = same-service known till pt header own (requests.Reconciliation period) begun is
same-begun known till pt header own (requests.Display outputs) begun is = same-display known till pt header own outputs begun is
same-begun known till pt header own (requests.Print qualifier) begun is = absurd cc
same-begun known till pt header own requests.Diagnosis begun is = absurd cc

-- so it is of what waits, or takes one out
same-queued-service : (known : Known) (till pt : ℕ) (header own : Header) (request queued : SaleRequest) → items_of_result till own request (named_terminal known.core own.poi) (step_result known own request (named_terminal known.core own.poi)) ≡ Queue pt till header queued ∷ []
    → IsSameRequest header own request queued
same-queued-service known till pt header own request queued is =
    let queues = queues-named till pt header own request queued (named_terminal known.core own.poi) (step_result known own request (named_terminal known.core own.poi)) is in
    record { header_is = queues.same_header; request_is = queues.same_request }

-- an Abort that takes one out
abort-queued : (known : Known) (till pt : ℕ) (header own : Header) (reference : Reference) (queued : SaleRequest) (waiting : Option Wait) → abort_items known till own reference waiting ≡ Queue pt till header queued ∷ []
    → IsSameRequest header own (requests.Abort reference) queued
abort-queued known till pt header own reference queued None is = by-named (named_terminal known.core (key_of own reference).poi) is
  where
    by-named : (named : Option NamedTerminal) → stop_items_at known till own reference named ≡ Queue pt till header queued ∷ [] → IsSameRequest header own (requests.Abort reference) queued
    by-named None is = absurd cc
    by-named (Some named) is = by-test (serves_key known.kept (key_of own reference) named.terminal) is
      where
        by-test : (test : Bool) → (if test then Serve named.number till own (requests.Abort reference) ∷ [] else []) ≡ Queue pt till header queued ∷ [] → IsSameRequest header own (requests.Abort reference) queued
        by-test true is = absurd cc
        by-test false is = absurd cc
abort-queued known till pt header own reference queued (Some wait) is = record { header_is = cc; request_is = cc }

pub same-queued : (known : Known) (till pt : ℕ) (header own : Header) (request queued : SaleRequest) → begun_by known till (Request own request) ≡ Queue pt till header queued ∷ [] → IsSameRequest header own request queued
same-queued known till pt header own requests.Login queued is =
    let queues = queues-named till pt header own requests.Login queued (named_terminal known.core own.poi) (session_result known own requests.Login (named_terminal known.core own.poi)) is in
    record { header_is = queues.same_header; request_is = queues.same_request }
same-queued known till pt header own requests.Logout queued is =
    let queues = queues-named till pt header own requests.Logout queued (named_terminal known.core own.poi) (session_result known own requests.Logout (named_terminal known.core own.poi)) is in
    record { header_is = queues.same_header; request_is = queues.same_request }
same-queued known till pt header own (requests.Payment ask) queued is = same-queued-service known till pt header own (requests.Payment ask) queued is
same-queued known till pt header own (requests.Reversal ask) queued is = same-queued-service known till pt header own (requests.Reversal ask) queued is
same-queued known till pt header own (requests.Abort reference) queued is = abort-queued known till pt header own reference queued (waiting_with (key_of own reference) known.core.waits) is
same-queued known till pt header own (requests.Status reference) queued is = absurd cc
same-queued known till pt header own (requests.Reconciliation period) queued is = same-queued-service known till pt header own (requests.Reconciliation period) queued is
same-queued known till pt header own (requests.Display outputs) queued is =
    let queues = queues-named till pt header own (requests.Display outputs) queued (named_terminal known.core own.poi) (display_result outputs (named_terminal known.core own.poi)) is in
    record { header_is = queues.same_header; request_is = queues.same_request }
same-queued known till pt header own (requests.Print qualifier) queued is = absurd cc
same-queued known till pt header own requests.Diagnosis queued is = absurd cc
