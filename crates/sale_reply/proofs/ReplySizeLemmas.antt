-- How long every message within the limits is at most.
use Rattle.std.proofs.Common.{ℕ, ◌+◌, ◌≤◌, List, [], ◌∷◌, ◌++◌, length, arith, lit≤, codes, ℤ}
use Rattle.std.specs.Prelude.{map}
use Rattle.gw_base.specs.Ident.{IsIdent}
use Rattle.json_text.specs.Tree.{Tree}
use Rattle.json_text.specs.Canonical.{canonical}
use Rattle.sale_values.specs.declared.header.Header.{Header}
use Rattle.sale_reply.specs.declared.reply.SaleReply.{SaleReply}
use Rattle.sale_reply.specs.declared.reply.SaleReply.TheVariants as reply
use Rattle.sale_reply.specs.declared.reply.Detail.{Detail}
use Rattle.sale_reply.specs.Limits.{IsDetailWithinLimits, IsHeaderWithinLimits, IsWithinLimits}
use Rattle.sale_reply.specs.inner.CanonicalMembers.{message_prefix}
use Rattle.sale_reply.specs.Reply.{message_tree, plain_body, verdict_tree, result_body, status_body, diagnosis_body, display_body, print_body, display_request_body, event_body, event_header, event_tree, print_request_body, tree_of}
use Rattle.sale_reply.proofs.CanonicalLemmas.{prefix_parts, message_parts, status_parts}
use Rattle.sale_reply.proofs.LimitLemmas.{event_header_within}
use Rattle.sale_reply.proofs.SizeLemmas.{IsAtMost, within, same_size, sized, both, known, first_name_size, next_name_size}
use Rattle.sale_reply.proofs.BodySizeLemmas.{StampSizes, ident_size, header_size, success_size, result_body_size, diagnosis_size, print_size, plain_size, display_size}
use Rattle.sale_reply.proofs.RequestSizeLemmas.{paper_size, show_size, event_body_size}

-- the category, and what the message is
name_size : (h : Header) (suffix : List ℕ) → IsHeaderWithinLimits h → length suffix ≤ 12 → IsAtMost (h.category ++ suffix) 52
name_size h suffix is fits = both (ident_size h.category is.category) (sized suffix 12 fits)

message_size : (envelope : List ℕ) (h : Header) (suffix : List ℕ) (body : Tree) {most : ℕ} → length envelope ≤ 20 → length suffix ≤ 12
    → IsHeaderWithinLimits h → IsAtMost (canonical body) most → IsAtMost (canonical (message_tree envelope h suffix body)) (3000 + most)
message_size envelope h suffix body {most} e s is size =
    let prefix : IsAtMost (message_prefix envelope h suffix) 2900 = within 2900 (same_size (prefix_parts envelope h suffix)
    (both (known (123 ∷ [])) (both (first_name_size (sized envelope 20 e)) (both (known (123 ∷ []))
    (both (first_name_size (known (codes "MessageHeader"))) (both (header_size h is) (next_name_size (name_size h suffix is s)))))))) (lit≤ tt) in
    let all = same_size (message_parts envelope h suffix body) (both prefix (both size (known (125 ∷ 125 ∷ [])))) in
    within (3000 + most) all (omega arith)

status_size : (h : Header) (told : Tree) → IsHeaderWithinLimits h → IsAtMost (canonical told) 6000 → IsAtMost (canonical (status_body h told)) 15000
status_size h told is size = within 15000 (same_size (status_parts h told)
    (both (known (123 ∷ [])) (both (first_name_size (known (codes "Response"))) (both success_size
    (both (next_name_size (known (codes "RepeatedMessageResponse"))) (both (known (123 ∷ []))
    (both (first_name_size (known (codes "MessageHeader"))) (both (header_size h is)
    (both (next_name_size (known (codes "RepeatedResponseMessageBody"))) (both (known (123 ∷ []))
    (both (first_name_size (name_size h (codes "Response") is (lit≤ tt))) (both size (known (125 ∷ 125 ∷ 125 ∷ [])))))))))))))) (lit≤ tt)

response_size : (h : Header) (body : Tree) {most : ℕ} → IsHeaderWithinLimits h → IsAtMost (canonical body) most
    → IsAtMost (canonical (message_tree (codes "SaleToPOIResponse") h (codes "Response") body)) (3000 + most)
response_size h body is size = message_size (codes "SaleToPOIResponse") h (codes "Response") body (lit≤ tt) (lit≤ tt) is size

request_size : (h : Header) (body : Tree) {most : ℕ} → IsHeaderWithinLimits h → IsAtMost (canonical body) most
    → IsAtMost (canonical (message_tree (codes "SaleToPOIRequest") h (codes "Request") body)) (3000 + most)
request_size h body is size = message_size (codes "SaleToPOIRequest") h (codes "Request") body (lit≤ tt) (lit≤ tt) is size

event_size : StampSizes → (sale poi : List ℕ) (moment : ℤ) (detail : Detail) → IsIdent 40 sale → IsIdent 40 poi → IsDetailWithinLimits detail
    → IsAtMost (canonical (event_tree sale poi moment detail)) 5000
event_size stamps sale poi moment detail s p is =
    message_size (codes "SaleToPOIRequest") (event_header sale poi) (codes "Notification") (event_body moment detail) (lit≤ tt) (lit≤ tt)
    (event_header_within sale poi s p) (event_body_size stamps moment detail is)

pub reply_size : StampSizes → (r : SaleReply) → IsWithinLimits r → IsAtMost (canonical (tree_of r)) 65536
reply_size stamps (reply.Plain h verdict) is = within 65536 (response_size h (plain_body (verdict_tree verdict)) is.0 (plain_size verdict is.1)) (lit≤ tt)
reply_size stamps (reply.Told h told) is = within 65536 (response_size h (result_body told) is.0 (result_body_size stamps told is.1)) (lit≤ tt)
reply_size stamps (reply.Status h repeated told) is =
    within 65536 (response_size h (status_body repeated (result_body told)) is.0 (status_size repeated (result_body told) is.1 (result_body_size stamps told is.2))) (lit≤ tt)
reply_size stamps (reply.Diagnosis h status) is = within 65536 (response_size h (diagnosis_body status) is (diagnosis_size status)) (lit≤ tt)
reply_size stamps (reply.Display h outputs) is = within 65536 (response_size h (display_body outputs) is.0 (display_size outputs is.2 is.1)) (lit≤ tt)
reply_size stamps (reply.Print h qualifier verdict) is = within 65536 (response_size h (print_body qualifier verdict) is.0 (print_size qualifier verdict is.1 is.2)) (lit≤ tt)
reply_size stamps (reply.DisplayRequest h code) is = within 65536 (request_size h (display_request_body code) is.0 (show_size code)) (lit≤ tt)
reply_size stamps (reply.PrintRequest h lines) is = within 65536 (request_size h (print_request_body (map (λ line. line.now) lines.now)) is.0 (paper_size lines.now is.1 is.2)) (lit≤ tt)
reply_size stamps (reply.Reject sale poi moment detail) is = within 65536 (event_size stamps sale poi moment detail is.0 is.1 is.2) (lit≤ tt)
