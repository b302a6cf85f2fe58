-- What the records have under a key: the kept reply, or a request that is still open.
use Rattle.std.specs.Prelude.{Bool, true, false, is_some, not, List, Option, Some, None, option_map, option_and_then}
use Rattle.gw_base.specs.declared.condition.Condition.TheVariants.{InProgress, NotFound}
use Rattle.gw_base.specs.declared.key.Key.{Key}
use Rattle.sale_values.specs.declared.header.Header.{Header}
use Rattle.sale_values.specs.declared.request.Reference.{Reference}
use Rattle.sale_values.specs.Key.{key_of}
use Rattle.sale_reply.specs.declared.reply.Told.{Told as ResultBody}
use Rattle.jrn_record.specs.declared.records.Record.{Record}
use Rattle.gw_ledger.specs.declared.entry.Found.{Found}
use Rattle.gw_ledger.specs.declared.entry.Found.TheVariants.{Entry}
use Rattle.gw_ledger.specs.Fold.{found_of, last_entry}
use Rattle.xlate.specs.Reply.{header_of, result_body_of}
use Rattle.gw_owes.specs.Reply.{ReplyValue, Finished, Repeated}
use Rattle.gw_owes.specs.Replies.{header_of_reply, failure_reply}

-- the key of a request with this header; one without a ServiceID has none
abbrev pub own_key : Header → Option Key
own_key header = option_map (λ service. record { sale = header.sale; poi = header.poi; service = service }) header.service

-- what the records have under the key of a request
abbrev pub found_for : List Record → Header → Option Found
found_for kept header = option_and_then (found_of kept) (own_key header)

-- it is finished: it has a reply
abbrev pub is_finished : Found → Bool
is_finished found = is_some (result_body_of found)

-- the reply to what is finished, the same each time
abbrev pub kept_reply : Found → Option ReplyValue
kept_reply found = option_map (Finished (header_of found)) (result_body_of found)

-- ---- a TransactionStatus

-- what a TransactionStatus asks about: what its reference names; without one the last payment or reversal of its SaleID and POIID
abbrev pub found_by_status : List Record → Header → Option Reference → Option Found
found_by_status kept header None = option_map Entry (last_entry kept header.sale header.poi)
found_by_status kept header (Some reference) = found_of kept (key_of header reference)

-- the reply that repeats this one, or that it is still open
abbrev pub repeated_reply : Header → Found → Option ResultBody → ReplyValue
repeated_reply header found None = failure_reply header InProgress
repeated_reply header found (Some body) = Repeated (header_of_reply header) (header_of found) body

-- the reply to a TransactionStatus, by what was found
abbrev pub status_reply : Header → Option Found → ReplyValue
status_reply header None = failure_reply header NotFound
status_reply header (Some found) = repeated_reply header found (result_body_of found)

-- the same where the end of day of its key may be served: then it is in progress, unless it is found
abbrev pub status_reply_at : Header → Option Found → Bool → ReplyValue
status_reply_at header (Some found) served = status_reply header (Some found)
status_reply_at header None true = failure_reply header InProgress
status_reply_at header None false = status_reply header None

-- ---- an Abort

-- it is open
abbrev pub is_open_found : Option Found → Bool
is_open_found None = false
is_open_found (Some found) = not (is_finished found)

-- the key that an Abort names is open
abbrev pub is_open_key : List Record → Header → Reference → Bool
is_open_key kept header reference = is_open_found (found_of kept (key_of header reference))
