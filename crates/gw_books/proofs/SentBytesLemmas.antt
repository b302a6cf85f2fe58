-- What a message in the bytes that were sent of a reply says: what the reply says.
use Rattle.std.proofs.Common.{◌≡◌, ℕ, ◌<◌, ◌^◌, List, [], ◌∷◌, ◌++◌, length, take, drop, refl, ◌∙◌, ap, subst, arith, length-append, append-nil}
use Rattle.gw_bytes.specs.Bytes.{IsPrefix}
use Rattle.json_text.specs.Tree.{Tree}
use Rattle.json_text.specs.Canonical.{canonical}
use Rattle.json_text.proofs.CanonicalLemmas.{spellable_written}
use Rattle.sale_frame.specs.Grammar.{frame}
use Rattle.sale_frame.proofs.FrameLemmas.{one_length}
use Rattle.gw_owes.specs.Reply.{ReplyValue, reply_value_tree, reply_value_bytes}
use Rattle.gw_books.specs.Said.{all_said, IsFramed}
use Rattle.gw_books.specs.SaidLaws.{said_by_reply}
use Rattle.gw_books.proofs.Holding.{IsReplyWithin}
use Rattle.gw_books.proofs.MessageLemmas.{one-message}
use Rattle.gw_books.proofs.SaidLemmas.{each-reply-says}

no-more : (rest : List ℕ) → length rest ≡ 0 → rest ≡ []
no-more [] none = refl
no-more (byte ∷ rest) none = absurd (omega (arith, none))

-- no frame begins with another one, where the text's length fits its frame
whole-text : (text other rest : List ℕ) → length text < 2 ^ 32 → frame text ≡ frame other ++ rest → text ≡ other
whole-text text other rest small e =
    let tails : text ≡ other ++ rest = ap (drop 4) e in
    let sizes : length text ≡ length (other ++ rest) = ap length tails in
    let fewer : length other < 2 ^ 32 = omega (arith, sizes, small, length-append other rest) in
    let same : length text ≡ length other = one_length (frame text) (length text) (length other) (small, refl) (fewer, ap (take 4) e) in
    let none : length rest ≡ 0 = omega (arith, sizes, same, length-append other rest) in
    tails ∙ (ap (λ (more : List ℕ). other ++ more) (no-more rest none) ∙ append-nil other)

-- a reply within its limits is framed
pub own-frame : (reply : ReplyValue) → IsReplyWithin reply → IsFramed (reply_value_bytes reply) (reply_value_tree reply)
own-frame reply within = record {
  text = canonical (reply_value_tree reply);
  framed = refl;
  spelled = spellable_written (reply_value_tree reply) within.spellable;
}

-- the one message in all bytes of a reply says what the reply says
bytes-say : (reply : ReplyValue) (message : Tree) → IsReplyWithin reply → IsFramed (reply_value_bytes reply) message → all_said message ≡ said_by_reply reply
bytes-say reply message within framed =
    ap all_said (one-message (reply_value_bytes reply) message (reply_value_tree reply) framed (own-frame reply within)) ∙ each-reply-says reply

-- what is framed in the first bytes of a reply is framed in all of them
framed-whole : (reply : ReplyValue) (bytes : List ℕ) (message : Tree) → IsReplyWithin reply → IsPrefix bytes (reply_value_bytes reply) → IsFramed bytes message → IsFramed (reply_value_bytes reply) message
framed-whole reply bytes message within begins framed =
    let begun : reply_value_bytes reply ≡ frame framed.text ++ begins.0 = begins.1 ∙ ap (λ (first : List ℕ). first ++ begins.0) framed.framed in
    record {
      text = framed.text;
      framed = ap frame (whole-text (canonical (reply_value_tree reply)) framed.text begins.0 within.small begun);
      spelled = framed.spelled;
    }

-- a message in the first bytes of a reply says what the reply says
pub sent-says : (reply : ReplyValue) (bytes : List ℕ) (message : Tree) → IsReplyWithin reply → IsPrefix bytes (reply_value_bytes reply) → IsFramed bytes message → all_said message ≡ said_by_reply reply
sent-says reply bytes message within begins framed = bytes-say reply message within (framed-whole reply bytes message within begins framed)

-- and so does one in all of them
pub sent-says-whole : (reply : ReplyValue) (bytes : List ℕ) (message : Tree) → IsReplyWithin reply → bytes ≡ reply_value_bytes reply → IsFramed bytes message → all_said message ≡ said_by_reply reply
sent-says-whole reply bytes message within is framed = bytes-say reply message within (subst (λ (all : List ℕ). IsFramed all message) is framed)
