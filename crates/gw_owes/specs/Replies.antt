-- The replies that refuse: a Failure, a Reject, and what a body or a message of another form gets.
use Rattle.std.specs.Prelude.{ℕ, pos, Bool, bytes_eq, if◌then◌else◌, List, [], ◌∷◌, map, Option, Some, None, option_map, codes}
use Rattle.std.specs.List.{list_any}
use Rattle.gw_base.specs.declared.condition.Condition.{Condition}
use Rattle.gw_base.specs.declared.condition.Condition.TheVariants.{MessageFormat, UnavailableService}
use Rattle.sale_values.specs.declared.fault.SaleFault.{SaleFault}
use Rattle.sale_values.specs.declared.fault.SaleFault.TheVariants.{NoHeader, Missing, Wrong, Unserved}
use Rattle.sale_values.specs.declared.header.Header.{Header}
use Rattle.sale_values.specs.declared.names.Class.TheVariants as classes
use Rattle.sale_values.specs.declared.names.Kind.TheVariants as kinds
use Rattle.sale_values.specs.declared.request.Output.{Output}
use Rattle.sale_reply.specs.declared.reply.Detail.{Detail}
use Rattle.sale_reply.specs.declared.reply.Detail.TheVariants as details
use Rattle.sale_reply.specs.declared.reply.Shown.{Shown}
use Rattle.sale_reply.specs.declared.reply.Verdict.{Verdict}
use Rattle.gw_owes.specs.Reply.{ReplyValue, Plain, Display, Print, Reject}

-- ---- headers and results

-- the replies to Display and Print have class Device and the request's DeviceID, those to every other category class Service and none
abbrev pub has_device_class : List ℕ → Bool
has_device_class category = list_any (bytes_eq category) (codes "Display" ∷ codes "Print" ∷ [])

-- the header of the reply to a request with this header
abbrev pub header_of_reply : Header → Header
header_of_reply header = record {
  class = if has_device_class header.category then classes.Device else classes.Service;
  category = header.category;
  kind = kinds.Response;
  service = header.service;
  device = if has_device_class header.category then header.device else None;
  sale = header.sale;
  poi = header.poi;
}

-- a Success
abbrev pub success : Verdict
success = record { condition = None; path = None }

-- a Failure for this reason
abbrev pub failure : Condition → Verdict
failure condition = record { condition = Some condition; path = None }

-- a Failure for the form of the member at this path
abbrev pub format_failure : List ℕ → Verdict
format_failure path = record { condition = Some MessageFormat; path = Some path }

-- a Failure in a response object alone
abbrev pub failure_reply : Header → Condition → ReplyValue
failure_reply header condition = Plain (header_of_reply header) (failure condition)

-- the result of an output for which a Display is refused
abbrev pub output_refused : Condition → Output → Shown
output_refused condition output = record { device = output.device; qualify = output.qualify; verdict = failure condition }

-- some output asks for a response
abbrev pub is_response_required : List Output → Bool
is_response_required outputs = list_any (λ (output : Output). output.required) outputs

-- the results of a Display in which no output is shown, for this reason; none where no output asks for a response
abbrev pub refused_results : Condition → List Output → Option (List Shown)
refused_results condition outputs = if is_response_required outputs then Some (map (output_refused condition) outputs) else None

-- the reply to a Display with these results, where there are any
abbrev pub display_reply : Header → Option (List Shown) → Option ReplyValue
display_reply header results = option_map (Display (header_of_reply header)) results

-- the reply to a Display that is refused, which each of its outputs has as its result; none where no output asks for a response
abbrev pub display_refusal : Condition → Header → List Output → Option ReplyValue
display_refusal condition header outputs = display_reply header (refused_results condition outputs)

-- the result of a Display with a member of another form at this path: one output stands for all
abbrev pub malformed_output : List ℕ → Shown
malformed_output path = record { device = codes "CustomerDisplay"; qualify = codes "Display"; verdict = format_failure path }

-- ---- bytes that are no request

-- the reply to a body in which the member at this path is absent or of another form, by the category
abbrev pub reply_to_malformed : ℕ → Header → List ℕ → ReplyValue
reply_to_malformed moment header path =
    if bytes_eq header.category (codes "Abort") then Reject header.sale header.poi (pos moment) (details.Body path) else
    (if bytes_eq header.category (codes "Display") then Display (header_of_reply header) (malformed_output path ∷ []) else
    (if bytes_eq header.category (codes "Print") then Print (header_of_reply header) (codes "Document") (format_failure path) else
    Plain (header_of_reply header) (format_failure path)))

-- the event that a message without a readable header is rejected, under the gateway's name
abbrev pub reject_event : List ℕ → ℕ → Detail → ReplyValue
reject_event name moment detail = Reject (codes "0") name (pos moment) detail

-- the reply to JSON that is no message, by its first fault
abbrev pub reply_to_fault : List ℕ → ℕ → SaleFault → ReplyValue
reply_to_fault name moment (NoHeader path) = reject_event name moment (details.Header path)
reply_to_fault name moment (Missing header path) = reply_to_malformed moment header path
reply_to_fault name moment (Wrong header path) = reply_to_malformed moment header path
reply_to_fault name moment (Unserved header) = failure_reply header UnavailableService
