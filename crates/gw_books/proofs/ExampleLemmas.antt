-- The examples: what has happened, and what is sent for the payment.
use Rattle.std.proofs.Common.{◌≡◌, Bool, true, List, [], ◌∷◌, refl, sym, subst, arith}
use Rattle.std.proofs.lemmas.List.Elements.{All-from_recursion}
use Rattle.std.specs.Prelude.{All, codes}
use Rattle.std.specs.List.{list_all, AllByRecursion}
use Rattle.json_text.specs.Tree.{Tree}
use Rattle.zvt_apdu.specs.DecodeStream.{decode_apdus, decode_apdus_within}
use Rattle.zvt_msg.specs.MessageDecode.{decode_pt_message}
use Rattle.sale_reply.specs.Limits.{IsHeaderWithinLimits, IsToldWithinLimits}
use Rattle.sale_reply.specs.declared.reply.SaleReply.TheVariants as reply
use Rattle.gw_ledger.specs.History.{history}
use Rattle.gw_owes.specs.Reply.{reply_value_tree}
use Rattle.gw_owes.specs.Replies.{header_of_reply}
use Rattle.gw_rules.proofs.TextLemmas.{ident-tested}
use Rattle.gw_books.specs.Past.{SentReply, Past, past_of}
use Rattle.gw_books.specs.Books.{BookedEntry}
use Rattle.gw_books.specs.Said.{Said, all_said, IsFramed}
use Rattle.gw_books.specs.Agrees.{EachSaid}
use Rattle.gw_books.specs.Example.{payment_text, paying_header, paid_result_body, paid_reply, sent_success, refused_result, refusal_reply, sent_refusal, refused_course, refused_past}
use Rattle.gw_books.proofs.MessageLemmas.{reply-framed, one-message}

-- ---- what is sent

-- a test of what is said
abbrev pub Agreement : Type 0
Agreement = Past → List BookedEntry → SentReply → Said → Bool

-- a reply, by its message, says only what agrees
pub record SaysSo (agrees : Agreement) (past : Past) (book : List BookedEntry) (sent : SentReply) : Type 0 where
  pub message : Tree
  pub framed : IsFramed sent.bytes message
  pub passes : list_all (agrees past book sent) (all_said message) ≡ true

each-says : (agrees : Agreement) (past : Past) (book : List BookedEntry) (sent : List SentReply) → AllByRecursion (SaysSo agrees past book) sent
    → All (λ (one : SentReply). (message : Tree) → IsFramed one.bytes message → list_all (agrees past book one) (all_said message) ≡ true) sent
each-says agrees past book sent each = All-from_recursion _ sent (by_recursion sent each)
  where
    by_recursion : (sent : List SentReply) → AllByRecursion (SaysSo agrees past book) sent → AllByRecursion (λ (one : SentReply). (message : Tree) → IsFramed one.bytes message → list_all (agrees past book one) (all_said message) ≡ true) sent
    by_recursion [] each = tt
    by_recursion (one ∷ sent) each = ((λ message framed. subst (λ x. list_all (agrees past book one) (all_said x) ≡ true) (one-message one.bytes each.0.message message each.0.framed framed) each.0.passes), by_recursion sent each.1)

-- these are the replies, and each says only what agrees
pub each-agrees : (agrees : Agreement) (past : Past) (book : List BookedEntry) (sent : List SentReply) → past.replies ≡ sent → AllByRecursion (SaysSo agrees past book) sent → EachSaid agrees past book
each-agrees agrees past book sent e each = subst (All (λ (one : SentReply). (message : Tree) → IsFramed one.bytes message → list_all (agrees past book one) (all_said message) ≡ true)) (sym e) (each-says agrees past book sent each)

-- ---- what has happened

pub refused-past : past_of refused_course ≡ refused_past
unfolding decode_apdus decode_apdus_within decode_pt_message history payment_text
refused-past = refl

-- ---- what is sent for the payment

pub header-within : IsHeaderWithinLimits (header_of_reply paying_header)
header-within = record { category = ident-tested 40 (codes "Payment") refl; service = ident-tested 10 (codes "7") refl; device = tt; sale = ident-tested 40 (codes "S1") refl; poi = ident-tested 40 (codes "T1") refl }

pub approved-within : IsToldWithinLimits paid_result_body
approved-within = (ident-tested 80 (codes "X1") refl, ident-tested 35 (codes "2026-11-27T12:00:00Z") refl, record { six_digits = omega arith; four_digits = omega arith; slot_fits = omega arith }, omega arith)

pub success-framed : IsFramed sent_success.bytes (reply_value_tree paid_reply)
success-framed = reply-framed paid_reply (reply.Told (header_of_reply paying_header) paid_result_body) refl (header-within, approved-within)

pub refusal-framed : IsFramed sent_refusal.bytes (reply_value_tree refusal_reply)
refusal-framed = reply-framed refusal_reply (reply.Told (header_of_reply paying_header) refused_result) refl (header-within, (ident-tested 80 (codes "X1") refl, ident-tested 35 (codes "2026-11-27T12:00:00Z") refl, record { six_digits = omega arith; four_digits = omega arith; slot_fits = omega arith }))
