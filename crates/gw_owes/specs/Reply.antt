-- What a till is sent, as plain data.
use Rattle.std.specs.Prelude.{ℕ, ℤ, List}
use Rattle.json_text.specs.Tree.{Tree}
use Rattle.json_text.specs.Canonical.{canonical}
use Rattle.sale_frame.specs.Grammar.{frame}
use Rattle.sale_values.specs.declared.header.Header.{Header as MessageHeader}
use Rattle.sale_reply.specs.declared.reply.Detail.{Detail}
use Rattle.sale_reply.specs.declared.reply.GlobalStatus.{GlobalStatus}
use Rattle.sale_reply.specs.declared.reply.Shown.{Shown}
use Rattle.sale_reply.specs.declared.reply.Told.{Told as ResultBody}
use Rattle.sale_reply.specs.declared.reply.Verdict.{Verdict}
use Rattle.sale_reply.specs.Reply.{response_tree, device_request, plain_body, verdict_tree, result_body, status_body, diagnosis_body, display_body, print_body, display_request_body, print_request_body, event_tree}

-- a reply, a device request or an event
pub data ReplyValue : Type 0 where
  -- a response object alone
  Plain : MessageHeader → Verdict → ReplyValue
  -- the result body of a finished request
  Finished : MessageHeader → ResultBody → ReplyValue
  -- a result body again, with the header that it had
  Repeated : MessageHeader → MessageHeader → ResultBody → ReplyValue
  -- whether the terminal can be used
  Diagnosis : MessageHeader → GlobalStatus → ReplyValue
  -- the results of the outputs of a Display
  Display : MessageHeader → List Shown → ReplyValue
  -- the result of a Print, under its qualifier
  Print : MessageHeader → List ℕ → Verdict → ReplyValue
  -- a device request that shows an intermediate status
  DisplayRequest : MessageHeader → ℕ → ReplyValue
  -- a device request that prints lines of a terminal
  PrintRequest : MessageHeader → List (List ℕ) → ReplyValue
  -- the event that a message was rejected: SaleID, POIID, moment and why
  Reject : List ℕ → List ℕ → ℤ → Detail → ReplyValue

-- the message as a tree
abbrev pub reply_value_tree : ReplyValue → Tree
reply_value_tree (Plain header verdict) = response_tree header (plain_body (verdict_tree verdict))
reply_value_tree (Finished header result) = response_tree header (result_body result)
reply_value_tree (Repeated header repeated result) = response_tree header (status_body repeated (result_body result))
reply_value_tree (Diagnosis header status) = response_tree header (diagnosis_body status)
reply_value_tree (Display header outputs) = response_tree header (display_body outputs)
reply_value_tree (Print header qualifier verdict) = response_tree header (print_body qualifier verdict)
reply_value_tree (DisplayRequest header code) = device_request header (display_request_body code)
reply_value_tree (PrintRequest header lines) = device_request header (print_request_body lines)
reply_value_tree (Reject sale poi moment detail) = event_tree sale poi moment detail

-- the bytes that are sent: the frame of the message's canonical spelling
abbrev pub reply_value_bytes : ReplyValue → List ℕ
reply_value_bytes reply = frame (canonical (reply_value_tree reply))
