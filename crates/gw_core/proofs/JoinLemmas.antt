-- A request that joins those that wait for a terminal, and an Abort that takes one of them out: what they are given for, and their row.
use Rattle.std.proofs.Common.{◌≡◌, ◌≢◌, ◌∙◌, ℕ, Bool, true, false, not, List, [], ◌∷◌, refl, sym, ap, subst}
use Rattle.std.specs.Prelude.{is_some, Option, Some, None, if◌then◌else◌}
use Rattle.std.proofs.lemmas.Bool.{or_parts}
use Rattle.gw_base.specs.declared.condition.Condition.TheVariants.{Busy, UnavailableDevice, UnavailableService}
use Rattle.gw_base.specs.declared.key.Key.{Key}
use Rattle.jrn_record.specs.declared.records.Record.{Record}
use Rattle.sale_values.specs.declared.header.Header.{Header}
use Rattle.sale_values.specs.declared.request.SaleRequest.{SaleRequest}
use Rattle.sale_values.specs.declared.request.SaleRequest.TheVariants as requests
use Rattle.xlate.specs.Display.{show}
use Rattle.gw_owes.specs.Core.{Core as CoreValue, Wait}
use Rattle.gw_owes.specs.Days.{is_day_key}
use Rattle.gw_owes.specs.Diagnosis.{NamedTerminal, named_terminal}
use Rattle.gw_owes.specs.Displays.{display_result}
use Rattle.gw_owes.specs.Items.{Queue}
use Rattle.gw_owes.specs.KeptReplies.{own_key}
use Rattle.gw_owes.specs.ReadAs.{Request}
use Rattle.gw_owes.specs.Requests.{begun_by}
use Rattle.gw_owes.specs.Row.{Known, Row, owing_where}
use Rattle.gw_owes.specs.SessionRows.{session_result}
use Rattle.gw_owes.specs.Sessions.{is_one_too_many}
use Rattle.gw_owes.specs.Steps.{StepResult, Fails, Begins, Waits, is_ready, is_unavailable, is_waiting_result, items_of_result, step_result}
use Rattle.gw_owes.specs.Terminals.{of_terminal, terminal_at}
use Rattle.gw_owes.specs.WaitingRows.{abort_row, joins_row, queue_row, waits_under}
use Rattle.gw_owes.specs.Waits.{waiting_for}
use Rattle.gw_owes.proofs.PaymentLemmas.{waits-steps}
use Rattle.gw_core.specs.Beginning.{key_aborted}
use Rattle.gw_core.specs.IsRow.{IsRow, alone, known_with}
use Rattle.gw_core.specs.ReplyOf.{QueuesAt}
use Rattle.gw_core.specs.declared.act.Act.{Act}
use Rattle.gw_core.specs.declared.gateway.Gateway.{Gateway}
use Rattle.gw_core.proofs.BegunLemmas.{QueuesNamed, queues-named}
use Rattle.gw_core.proofs.NamedLemmas.{named-there}

-- ---- an Abort

-- its row is that of the key which it names
pub abort-queue-row : (known : Known) (number till : ℕ) (header : Header) (request : SaleRequest) (key : Key) → key_aborted header request ≡ Some key → queue_row known number till header request ≡ abort_row known key
abort-queue-row known number till header requests.Login key is = absurd cc
abort-queue-row known number till header requests.Logout key is = absurd cc
abort-queue-row known number till header (requests.Payment payment) key is = absurd cc
abort-queue-row known number till header (requests.Reversal reversal) key is = absurd cc
abort-queue-row known number till header (requests.Abort reference) key is = ap (abort_row known) cc
abort-queue-row known number till header (requests.Status reference) key is = absurd cc
abort-queue-row known number till header (requests.Reconciliation period) key is = absurd cc
abort-queue-row known number till header (requests.Display outputs) key is = absurd cc
abort-queue-row known number till header (requests.Print qualifier) key is = absurd cc
abort-queue-row known number till header requests.Diagnosis key is = absurd cc

-- so it is of what is known, where the code has found the key
pub aborted-row : (known : Known) (kept : List Record) (core : CoreValue) (number till : ℕ) (header : Header) (request : SaleRequest) (key : Key) (new : CoreValue) (wanted : Option Act) → known.kept ≡ kept → known.core ≡ core → key_aborted header request ≡ Some key
    → IsRow kept (abort_row (known_with known.setup kept core known.moment) key) new (alone wanted) → IsRow kept (queue_row known number till header request) new (alone wanted)
aborted-row known kept core number till header request key new wanted kept_is core_is names row =
    subst (λ (r : Row). IsRow kept r new (alone wanted)) (sym (abort-queue-row known number till header request key names))
    (subst (λ (k : List Record). IsRow kept (abort_row (known_with known.setup k known.core known.moment) key) new (alone wanted)) (sym kept_is)
    (subst (λ (c : CoreValue). IsRow kept (abort_row (known_with known.setup kept c known.moment) key) new (alone wanted)) (sym core_is) row))

-- ---- a request that joins

-- its key doesn't wait, and its row is that it waits under its key
pub record Joins (known : Known) (number : ℕ) (header : Header) (request : SaleRequest) : Type 0 where
  pub unknown : waiting_for known.core header ≡ None
  pub row : (till : ℕ) → queue_row known number till header request ≡ waits_under known number till header request (own_key header)

none-there : (found : Option Wait) → is_some found ≡ false → found ≡ None
none-there None none = refl
none-there (Some wait) none = absurd cc

no-session-waits : (unnamed many : Bool) → (if unnamed then Fails UnavailableDevice else (if many then Fails UnavailableService else Begins)) ≢ Waits
no-session-waits true many is = absurd cc
no-session-waits false true is = absurd cc
no-session-waits false false is = absurd cc

no-display-waits : (unnamed none unavailable ready : Bool)
    → (if unnamed then Fails UnavailableDevice else (if none then Fails UnavailableDevice else (if unavailable then Fails UnavailableDevice else (if ready then Begins else Fails Busy)))) ≢ Waits
no-display-waits true none unavailable ready is = absurd cc
no-display-waits false true unavailable ready is = absurd cc
no-display-waits false false true ready is = absurd cc
no-display-waits false false false true is = absurd cc
no-display-waits false false false false is = absurd cc

-- a request whose steps say that it waits, at the terminal that is named
module _ (known : Known) (number : ℕ) (header : Header) (request : SaleRequest) (queues : QueuesNamed header header request request number (named_terminal known.core header.poi) (step_result known header request (named_terminal known.core header.poi))) where
  abbrev named : Option NamedTerminal
  named = Some (record { number = number; terminal = queues.terminal })

  waits-there : step_result known header request named ≡ Waits
  waits-there = ap (step_result known header request) (sym queues.named_is) ∙ queues.result_is

  unknown-there : waiting_for known.core header ≡ None
  unknown-there =
      let steps = waits-steps known header request named (ap is_waiting_result waits-there) in
      none-there (waiting_for known.core header) (or_parts (is_day_key header named) (is_some (waiting_for known.core header)) steps.not_pending).1

  row-there : (till : ℕ) → of_terminal known (joins_row known number till header request) (terminal_at known number) ≡ waits_under known number till header request (own_key header)
  row-there till =
      ap (of_terminal known (joins_row known number till header request)) (named-there known.core header.poi number queues.terminal queues.named_is)
      ∙ ap (λ (result : StepResult). owing_where (is_waiting_result result) known (waits_under known number till header request (own_key header))) waits-there

service-joins : (known : Known) (number : ℕ) (header : Header) (request : SaleRequest) → ((till : ℕ) → queue_row known number till header request ≡ of_terminal known (joins_row known number till header request) (terminal_at known number))
    → ((till : ℕ) → items_of_result till header request (named_terminal known.core header.poi) (step_result known header request (named_terminal known.core header.poi)) ≡ Queue number till header request ∷ []) → Joins known number header request
service-joins known number header request row is =
    let queues = queues-named 0 number header header request request (named_terminal known.core header.poi) (step_result known header request (named_terminal known.core header.poi)) (is 0) in
    record { unknown = unknown-there known number header request queues; row = λ till. row till ∙ row-there known number header request queues till }

pub request-joins : (known : Known) (number : ℕ) (header : Header) (request : SaleRequest) → key_aborted header request ≡ None → ((till : ℕ) → begun_by known till (Request header request) ≡ Queue number till header request ∷ []) → Joins known number header request
request-joins known number header requests.Login none is =
    let queues = queues-named 0 number header header requests.Login requests.Login (named_terminal known.core header.poi) (session_result known header requests.Login (named_terminal known.core header.poi)) (is 0) in
    absurd (no-session-waits (not (is_some (named_terminal known.core header.poi))) (is_one_too_many known.core header requests.Login) queues.result_is)
request-joins known number header requests.Logout none is =
    let queues = queues-named 0 number header header requests.Logout requests.Logout (named_terminal known.core header.poi) (session_result known header requests.Logout (named_terminal known.core header.poi)) (is 0) in
    absurd (no-session-waits (not (is_some (named_terminal known.core header.poi))) (is_one_too_many known.core header requests.Logout) queues.result_is)
request-joins known number header (requests.Payment payment) none is = service-joins known number header (requests.Payment payment) (λ till. refl) is
request-joins known number header (requests.Reversal reversal) none is = service-joins known number header (requests.Reversal reversal) (λ till. refl) is
request-joins known number header (requests.Abort reference) none is = absurd cc
request-joins known number header (requests.Status reference) none is = let no = is 0 in absurd cc
request-joins known number header (requests.Reconciliation period) none is = service-joins known number header (requests.Reconciliation period) (λ till. refl) is
request-joins known number header (requests.Display outputs) none is =
    let queues = queues-named 0 number header header (requests.Display outputs) (requests.Display outputs) (named_terminal known.core header.poi) (display_result outputs (named_terminal known.core header.poi)) (is 0) in
    absurd (no-display-waits (not (is_some (named_terminal known.core header.poi))) (not (is_some (show outputs))) (is_unavailable (named_terminal known.core header.poi)) (is_ready (named_terminal known.core header.poi)) queues.result_is)
request-joins known number header (requests.Print qualifier) none is = let no = is 0 in absurd cc
request-joins known number header requests.Diagnosis none is = let no = is 0 in absurd cc

-- what a gateway with this setup of its own knows, whatever else is in its setup
abbrev pub some_known : Gateway → List Record → CoreValue → ℕ → Known
some_known gateway kept core moment = record {
  setup = record { name = gateway.name; listen = []; journal = []; line = gateway.line; wait = gateway.wait; slots = gateway.slots; terminals = [] };
  core = core;
  kept = kept;
  moment = moment;
}

-- the key of a request that is given to join doesn't wait
pub given-unknown : (gateway : Gateway) (kept : List Record) (core : CoreValue) (moment number : ℕ) (header : Header) (request : SaleRequest) → QueuesAt gateway kept core moment number header request → key_aborted header request ≡ None
    → waiting_for core header ≡ None
given-unknown gateway kept core moment number header request queues none =
    (request-joins (some_known gateway kept core moment) number header request none
    (λ till. queues.queues (some_known gateway kept core moment) (record { name_is = refl; slots_is = refl; line_is = refl; wait_is = refl; kept_is = refl; core_is = refl; moment_is = refl }) till)).unknown

-- what joins under a key owes nothing
pub joined-row : (known : Known) (kept : List Record) (number till : ℕ) (header : Header) (request : SaleRequest) (own : Option Key) (new : CoreValue) → new ≡ (waits_under known number till header request own).core
    → IsRow kept (waits_under known number till header request own) new (alone None)
joined-row known kept number till header request None new is = record { core_is = is; calls_are = refl; items_are = refl }
joined-row known kept number till header request (Some key) new is = record { core_is = is; calls_are = refl; items_are = refl }
