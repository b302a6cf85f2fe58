-- The kept reply, and the one that repeats it.
use Rattle.std.proofs.Common.{◌≡◌, refl, ap}
use Rattle.std.specs.Prelude.{Option, Some, None, option_map, IfSome, Bool, true, false, if◌then◌else◌}
use Rattle.gw_base.specs.Ident.{IsIdent}
use Rattle.gw_ledger.specs.declared.entry.Found.{Found}
use Rattle.sale_values.specs.declared.header.Header.{Header}
use Rattle.sale_reply.specs.declared.reply.SaleReply.{SaleReply}
use Rattle.sale_reply.specs.declared.reply.SaleReply.TheVariants.{Told}
use Rattle.sale_reply.specs.declared.reply.Told.{Told as ResultBody}
use Rattle.sale_reply.specs.Limits.{IsHeaderWithinLimits, IsWithinLimits}
use Rattle.sale_reply.specs.Reply.{response_tree, result_body, status_body, tree_of}
use Rattle.xlate.specs.Reply.{header_of, reply_for, result_body_of}
use Rattle.gw_owes.specs.KeptReplies.{kept_reply, repeated_reply}
use Rattle.gw_owes.specs.Replies.{has_device_class, header_of_reply}
use Rattle.gw_owes.specs.Reply.{Finished, reply_value_tree}
use Rattle.gw_core.specs.ReplyOf.{AreSameReplies}

-- the reply to what is finished is its kept one
pub kept-is : (found : Found) (reply : SaleReply) → reply_for found ≡ Some reply → IsWithinLimits reply → AreSameReplies (Some reply) (kept_reply found)
kept-is found reply is within = by_body (result_body_of found) is
  where
    by_body : (body : Option ResultBody) → option_map (Told (header_of found)) body ≡ Some reply → AreSameReplies (Some reply) (option_map (Finished (header_of found)) body)
    by_body None is = absurd cc
    by_body (Some body) is = let same : reply ≡ Told (header_of found) body = cc in (ap tree_of same, λ _. within)

-- and so is the one that is repeated
pub repeated-is : (header : Header) (found : Found) (repeated : Header) (body : ResultBody) → reply_for found ≡ Some (Told repeated body)
    → response_tree (header_of_reply header) (status_body repeated (result_body body)) ≡ reply_value_tree (repeated_reply header found (result_body_of found))
repeated-is header found repeated body is = by_body (result_body_of found) is
  where
    by_body : (own : Option ResultBody) → option_map (Told (header_of found)) own ≡ Some (Told repeated body)
        → response_tree (header_of_reply header) (status_body repeated (result_body body)) ≡ reply_value_tree (repeated_reply header found own)
    by_body None is = absurd cc
    by_body (Some own) is =
        let headers : repeated ≡ header_of found = cc in
        let bodies : body ≡ own = cc in
        rw (headers, bodies) refl

-- the header of a reply lies within its limits where that of the request does
pub reply-header-within : (header : Header) → IsHeaderWithinLimits header → IsHeaderWithinLimits (header_of_reply header)
reply-header-within header within = record {
  category = within.category;
  service = within.service;
  device = by_class (has_device_class header.category);
  sale = within.sale;
  poi = within.poi;
}
  where
    by_class : (is_device : Bool) → IfSome (if is_device then header.device else None) (λ id. IsIdent 10 id)
    by_class true = within.device
    by_class false = tt
