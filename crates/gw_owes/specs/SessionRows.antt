-- A Login and a Logout: their steps, in their order, and what one that succeeds leaves and owes.
use Rattle.std.specs.Prelude.{ℕ, is_some, not, List, [], ◌∷◌, Option, Some}
use Rattle.gw_base.specs.declared.condition.Condition.TheVariants.{UnavailableDevice, UnavailableService}
use Rattle.sale_values.specs.declared.header.Header.{Header}
use Rattle.sale_values.specs.declared.request.SaleRequest.{SaleRequest}
use Rattle.gw_owes.specs.declared.terminal.Terminal.{Terminal}
use Rattle.gw_owes.specs.Calls.{SendTill}
use Rattle.gw_owes.specs.Diagnosis.{NamedTerminal}
use Rattle.gw_owes.specs.Items.{RoundItem}
use Rattle.gw_owes.specs.Reply.{ReplyValue, Plain}
use Rattle.gw_owes.specs.Replies.{header_of_reply, success}
use Rattle.gw_owes.specs.Row.{Known, Row, owing_where, becoming}
use Rattle.gw_owes.specs.Sessions.{is_one_too_many, pairs_after}
use Rattle.gw_owes.specs.Steps.{StepResult, RequestStep, Fails, Begins, first_result, reply_of_result, is_beginning, items_of_result}

-- ---- the steps

-- the steps of a Login or a Logout, by the terminal that its POIID names
abbrev pub session_steps : Known → Header → SaleRequest → Option NamedTerminal → List RequestStep
session_steps known header request named =
    record { applies = not (is_some named); result = Fails UnavailableDevice }
    ∷ record { applies = is_one_too_many known.core header request; result = Fails UnavailableService }
    ∷ []

-- the result of these steps: where none applies, it succeeds at the terminal that is named
abbrev pub session_result : Known → Header → SaleRequest → Option NamedTerminal → StepResult
session_result known header request named = first_result Begins (session_steps known header request named)

-- the reply to a Login or a Logout that fails; one that succeeds gets its own as it is served
abbrev pub session_reply : Known → Header → SaleRequest → Option NamedTerminal → Option ReplyValue
session_reply known header request named = reply_of_result known.kept header (session_result known header request named)

-- what a Login or a Logout of a till begins
abbrev pub session_items : Known → ℕ → Header → SaleRequest → Option NamedTerminal → List RoundItem
session_items known till header request named = items_of_result till header request named (session_result known header request named)

-- ---- the row

-- a Success in a response object alone
abbrev pub success_reply : Header → ReplyValue
success_reply header = Plain (header_of_reply header) success

-- what a Login or a Logout that succeeds leaves and owes: who is logged out from here on, and its Success
abbrev pub session_succeeds : Known → ℕ → Header → SaleRequest → Row
session_succeeds known till header request = becoming (record known.core { logged_out = pairs_after known.core header request }) (SendTill till (success_reply header) ∷ [])

-- what a Login or a Logout leaves and owes at the terminal of this number, where its steps let it succeed there
abbrev pub session_row : Known → ℕ → ℕ → Header → SaleRequest → Terminal → Row
session_row known number till header request terminal =
    owing_where (is_beginning (session_result known header request (Some (record { number = number; terminal = terminal })))) known (session_succeeds known till header request)
