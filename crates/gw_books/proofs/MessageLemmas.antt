-- What bytes that are sent to a till say: one message, that of the reply.
use Rattle.std.proofs.Common.{◌≡◌, ℕ, List, drop, refl, sym, ◌∙◌, ap, subst}
use Rattle.gw_base.proofs.MomentLemmas.{stamp_of-plain}
use Rattle.json_text.specs.Tree.{Tree}
use Rattle.json_text.specs.Canonical.{canonical}
use Rattle.json_text.specs.Grammar.{Spells}
use Rattle.json_text.specs.Spellable.{IsSpellable}
use Rattle.json_text.proofs.CanonicalLemmas.{spellable_written}
use Rattle.json_text.proofs.UniqueLemmas.{same_tree}
use Rattle.sale_frame.specs.Grammar.{frame}
use Rattle.sale_reply.specs.Limits.{IsWithinLimits}
use Rattle.sale_reply.specs.Reply.{tree_of}
use Rattle.sale_reply.specs.declared.reply.SaleReply.{SaleReply}
use Rattle.sale_reply.proofs.SpellableLemmas.{StampsPrintable, reply_spellable}
use Rattle.gw_owes.specs.Reply.{ReplyValue, reply_value_tree, reply_value_bytes}
use Rattle.gw_books.specs.Said.{IsFramed}

stamps : StampsPrintable
stamps now = (stamp_of-plain now).1

-- a reply within its limits is framed
pub reply-framed : (reply : ReplyValue) (value : SaleReply) → reply_value_tree reply ≡ tree_of value → IsWithinLimits value → IsFramed (reply_value_bytes reply) (reply_value_tree reply)
reply-framed reply value e within = record {
  text = canonical (reply_value_tree reply);
  framed = refl;
  spelled = spellable_written (reply_value_tree reply) (subst IsSpellable (sym e) (reply_spellable stamps value within));
}

one-text : (a b : List ℕ) → frame a ≡ frame b → a ≡ b
one-text a b e = ap (drop 4) e

-- bytes are the frame of one message at most
pub one-message : (bytes : List ℕ) (one other : Tree) → IsFramed bytes one → IsFramed bytes other → one ≡ other
one-message bytes one other t u = same_tree one other u.text (subst (Spells one) (one-text t.text u.text (sym t.framed ∙ u.framed)) t.spelled) u.spelled
