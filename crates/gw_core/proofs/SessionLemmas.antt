-- A Login or a Logout: what is given to it is given to its request, and where it begins its row is that of a success.
use Rattle.std.proofs.Common.{◌≡◌, ℕ, List, [], ◌∷◌, refl, sym, ◌∙◌, ap, subst}
use Rattle.std.specs.Prelude.{slice_get, Bool, true, false, if◌then◌else◌, Option, Some, None}
use Rattle.gw_base.specs.declared.condition.Condition.{Condition}
use Rattle.gw_base.specs.declared.condition.Condition.TheVariants.{UnavailableService}
use Rattle.gw_base.specs.declared.setup.Setup.{Setup}
use Rattle.jrn_record.specs.declared.records.Record.{Record}
use Rattle.sale_values.specs.declared.header.Header.{Header}
use Rattle.sale_values.specs.declared.request.SaleRequest.{SaleRequest}
use Rattle.sale_values.specs.declared.request.SaleRequest.TheVariants as requests
use Rattle.sale_reply.specs.declared.reply.SaleReply.{SaleReply}
use Rattle.gw_owes.specs.Core.{Core as CoreValue}
use Rattle.gw_owes.specs.Diagnosis.{NamedTerminal, named_terminal}
use Rattle.gw_owes.specs.Items.{Serve}
use Rattle.gw_owes.specs.Payments.{serve_row}
use Rattle.gw_owes.specs.ReadAs.{Request}
use Rattle.gw_owes.specs.Replies.{failure_reply}
use Rattle.gw_owes.specs.Requests.{begun_by}
use Rattle.gw_owes.specs.Row.{Known, Row, owing_where}
use Rattle.gw_owes.specs.SessionRows.{session_items, session_result, session_row, session_succeeds}
use Rattle.gw_owes.specs.Sessions.{is_one_too_many, is_session}
use Rattle.gw_owes.specs.Steps.{StepResult, Fails, Begins, is_beginning, items_of_result, reply_of_result}
use Rattle.gw_owes.specs.Terminals.{of_terminal}
use Rattle.gw_owes.specs.declared.terminal.Terminal.{Terminal}
use Rattle.gw_core.specs.IsRow.{IsRow, known_with}
use Rattle.gw_core.specs.ReplyOf.{ArePrepared, AreSameReplies, BeginsAt, IsGivenFor, IsGivenToSession, IsKnownAt, IsSameReply}
use Rattle.gw_core.specs.declared.act.Acts.{Acts}
use Rattle.gw_core.specs.declared.gateway.Gateway.{Gateway}
use Rattle.gw_core.specs.declared.till.Given.{Given}
use Rattle.gw_core.specs.declared.till.Given.TheVariants as given
use Rattle.gw_core.proofs.BeginLemmas.{begins-own, known-is, known_kept}
use Rattle.gw_core.proofs.BegunLemmas.{ServesNamed, serves-named}
use Rattle.gw_core.proofs.GivenLemmas.{none-begins}
use Rattle.gw_core.proofs.NamedLemmas.{named-there}

-- where it is refused, its refusal is given
pub session-refused : (known : Known) (header : Header) (request : SaleRequest) (named : Option NamedTerminal) (condition : Condition) (reply : SaleReply) → session_result known header request named ≡ Fails condition
    → IsSameReply reply (failure_reply header condition) → IsGivenToSession known header request named (given.Reply reply)
session-refused known header request named condition reply fails same = record {
  reply = subst (λ (result : StepResult). AreSameReplies (Some reply) (reply_of_result known.kept header result)) (sym fails) same;
  begun = λ till. ap (items_of_result till header request named) fails ∙ none-begins till header request named condition;
  prepared = tt;
}

-- where it begins, that is
pub session-begun : (known : Known) (header : Header) (request : SaleRequest) (named : Option NamedTerminal) (pt : ℕ) (terminal : Terminal) → is_session request ≡ true → named ≡ Some (record { number = pt; terminal = terminal })
    → session_result known header request named ≡ Begins → IsGivenToSession known header request named (given.Begins pt header request None)
session-begun known header request named pt terminal session named_is begins = record {
  reply = subst (λ (result : StepResult). AreSameReplies None (reply_of_result known.kept header result)) (sym begins) tt;
  begun = λ till. ap (items_of_result till header request named) begins ∙ ap (λ (n : Option NamedTerminal). items_of_result till header request n Begins) named_is;
  prepared = none-prepared request session;
}
  where
    none-prepared : (request : SaleRequest) → is_session request ≡ true → ArePrepared request None
    none-prepared requests.Login session = tt
    none-prepared requests.Logout session = tt
    none-prepared (requests.Payment ask) session = tt
    none-prepared (requests.Reversal ask) session = tt
    none-prepared (requests.Abort reference) session = tt
    none-prepared (requests.Status reference) session = tt
    none-prepared (requests.Reconciliation period) session = tt
    none-prepared (requests.Display outputs) session = absurd cc
    none-prepared (requests.Print qualifier) session = tt
    none-prepared requests.Diagnosis session = tt

-- what is given to a Login or a Logout is given to the request that it is
pub given-session : (known : Known) (header : Header) (request : SaleRequest) (wanted : Given) → is_session request ≡ true → IsGivenToSession known header request (named_terminal known.core header.poi) wanted → IsGivenFor known (Request header request) wanted
given-session known header requests.Login wanted session is = record { reply = is.reply; begun = is.begun; prepared = is.prepared }
given-session known header requests.Logout wanted session is = record { reply = is.reply; begun = is.begun; prepared = is.prepared }
given-session known header (requests.Payment ask) wanted session is = absurd cc
given-session known header (requests.Reversal ask) wanted session is = absurd cc
given-session known header (requests.Abort reference) wanted session is = absurd cc
given-session known header (requests.Status reference) wanted session is = absurd cc
given-session known header (requests.Reconciliation period) wanted session is = absurd cc
given-session known header (requests.Display outputs) wanted session is = absurd cc
given-session known header (requests.Print qualifier) wanted session is = absurd cc
given-session known header requests.Diagnosis wanted session is = absurd cc

-- the terminal of this number is there, and the steps let it begin there
record SessionBegins (known : Known) (pt : ℕ) (header : Header) (request : SaleRequest) : Type 0 where
  terminal : Terminal
  found : slice_get known.core.terminals pt ≡ Some terminal
  begins : session_result known header request (Some (record { number = pt; terminal = terminal })) ≡ Begins

session-begins : (known : Known) (pt : ℕ) (header : Header) (request : SaleRequest) → session_items known 0 header request (named_terminal known.core header.poi) ≡ Serve pt 0 header request ∷ [] → SessionBegins known pt header request
session-begins known pt header request begun =
    let serves : ServesNamed header header request request pt (named_terminal known.core header.poi) (session_result known header request (named_terminal known.core header.poi)) =
    serves-named 0 pt header header request request (named_terminal known.core header.poi) (session_result known header request (named_terminal known.core header.poi)) begun in
    record {
      terminal = serves.terminal;
      found = named-there known.core header.poi pt serves.terminal serves.named_is;
      begins = ap (session_result known header request) (sym serves.named_is) ∙ serves.result_is;
    }

session-of : (known : Known) (pt : ℕ) (header : Header) (request : SaleRequest) → is_session request ≡ true → begun_by known 0 (Request header request) ≡ Serve pt 0 header request ∷ [] → SessionBegins known pt header request
session-of known pt header requests.Login session begun = session-begins known pt header requests.Login begun
session-of known pt header requests.Logout session begun = session-begins known pt header requests.Logout begun
session-of known pt header (requests.Payment ask) session begun = absurd cc
session-of known pt header (requests.Reversal ask) session begun = absurd cc
session-of known pt header (requests.Abort reference) session begun = absurd cc
session-of known pt header (requests.Status reference) session begun = absurd cc
session-of known pt header (requests.Reconciliation period) session begun = absurd cc
session-of known pt header (requests.Display outputs) session begun = absurd cc
session-of known pt header (requests.Print qualifier) session begun = absurd cc
session-of known pt header requests.Diagnosis session begun = absurd cc

-- so it isn't one too many
not-too-many : (known : Known) (pt : ℕ) (header : Header) (request : SaleRequest) → SessionBegins known pt header request → is_one_too_many known.core header request ≡ false
not-too-many known pt header request begin = by-test (is_one_too_many known.core header request) refl begin.begins
  where
    by-test : (test : Bool) → is_one_too_many known.core header request ≡ test → (if test then Fails UnavailableService else Begins) ≡ Begins → is_one_too_many known.core header request ≡ false
    by-test true is begins = absurd cc
    by-test false is begins = is

-- and its row is that of a success
succeeds : (known : Known) (pt till : ℕ) (header : Header) (request : SaleRequest) → SessionBegins known pt header request
    → of_terminal known (session_row known pt till header request) (slice_get known.core.terminals pt) ≡ session_succeeds known till header request
succeeds known pt till header request begin =
    ap (of_terminal known (session_row known pt till header request)) begin.found
    ∙ ap (λ (result : StepResult). owing_where (is_beginning result) known (session_succeeds known till header request)) begin.begins

row-of : (known : Known) (pt till : ℕ) (header : Header) (request : SaleRequest) → is_session request ≡ true → SessionBegins known pt header request → serve_row known pt till header request ≡ session_succeeds known till header request
row-of known pt till header requests.Login session begin = succeeds known pt till header requests.Login begin
row-of known pt till header requests.Logout session begin = succeeds known pt till header requests.Logout begin
row-of known pt till header (requests.Payment ask) session begin = absurd cc
row-of known pt till header (requests.Reversal ask) session begin = absurd cc
row-of known pt till header (requests.Abort reference) session begin = absurd cc
row-of known pt till header (requests.Status reference) session begin = absurd cc
row-of known pt till header (requests.Reconciliation period) session begin = absurd cc
row-of known pt till header (requests.Display outputs) session begin = absurd cc
row-of known pt till header (requests.Print qualifier) session begin = absurd cc
row-of known pt till header requests.Diagnosis session begin = absurd cc

module _ (gateway : Gateway) (kept : List Record) (core : CoreValue) (moment pt : ℕ) (header : Header) (request : SaleRequest) (session : is_session request ≡ true)
    (at : BeginsAt gateway kept core moment pt header request) where
  -- one that begins isn't one too many
  pub session-room : is_one_too_many core header request ≡ false
  session-room =
      let own : Known = known_kept gateway kept core moment in
      not-too-many own pt header request (session-of own pt header request session (begins-own gateway kept core moment pt header request at))

  -- and what it leaves and owes is what its row says
  pub session-row : (till : ℕ) (new : CoreValue) (acts : Acts) → ((setup : Setup) → IsRow kept (session_succeeds (known_with setup kept core moment) till header request) new acts)
      → (known : Known) → IsKnownAt gateway kept core moment known → IsRow kept (serve_row known pt till header request) new acts
  session-row till new acts begun known is =
      let row = row-of known pt till header request session (session-of known pt header request session (at.begins known is 0)) in
      subst (λ (r : Row). IsRow kept r new acts) (sym row)
      (subst (λ (k : Known). IsRow kept (session_succeeds k till header request) new acts) (known-is gateway kept core moment pt header known is) (begun known.setup))
