-- The end of a payment: its row, and the reply to its till.
use Rattle.std.proofs.Common.{◌≡◌, ◌<◌, ℕ, List, [], ◌++◌, refl, ap, subst}
use Rattle.std.specs.Prelude.{Bool, if◌then◌else◌, IfSome, Option, Some, None, option_and_then}
use Rattle.std.proofs.lemmas.Bool.{lt-ltb}
use Rattle.gw_base.specs.declared.figures.Figures.{Figures}
use Rattle.jrn_record.specs.declared.records.Outcome.{Outcome}
use Rattle.jrn_record.specs.declared.records.Record.{Record}
use Rattle.gw_ledger.specs.declared.entry.Entry.{Entry as TheEntry}
use Rattle.gw_ledger.specs.declared.entry.Found.TheVariants.{Entry}
use Rattle.gw_ledger.specs.Slots.{entry_at}
use Rattle.sale_reply.specs.declared.reply.SaleReply.{SaleReply}
use Rattle.sale_reply.specs.Limits.{HasUnlimitedParts, IsWithinLimits}
use Rattle.xlate.specs.Reply.{reply_for}
use Rattle.gw_owes.specs.declared.terminal.Standing.TheVariants.{Ready, Aside}
use Rattle.gw_owes.specs.declared.terminal.Terminal.{Terminal}
use Rattle.gw_owes.specs.Calls.{OwedCall}
use Rattle.gw_owes.specs.KeptReplies.{kept_reply}
use Rattle.gw_owes.specs.Reply.{ReplyValue}
use Rattle.gw_owes.specs.Row.{Known}
use Rattle.gw_owes.specs.Serving.{at_rest, approved_outcome, approved_row, reply_to_outcome, resolves}
use Rattle.gw_owes.specs.Terminals.{reply_calls_to, terminal_becomes}
use Rattle.gw_core.specs.declared.act.Act.TheVariants.{SendTill}
use Rattle.gw_core.specs.IsRow.{AreCallsWith}
use Rattle.gw_core.specs.ReplyOf.{AreSameReplies}
use Rattle.gw_core.proofs.KeptLemmas.{kept-is}

-- the reply to an entry that has its Outcome is the one that is owed
pub outcome-replied : (kept : List Record) (slot : ℕ) (entry : TheEntry) (outcome : Outcome) (reply : SaleReply) → Some entry ≡ entry_at kept slot
    → reply_for (Entry (record entry { result = Some outcome })) ≡ Some reply → IsWithinLimits reply → AreSameReplies (Some reply) (reply_to_outcome kept slot outcome)
outcome-replied kept slot entry outcome reply found is within =
    subst (λ (o : Option TheEntry). AreSameReplies (Some reply) (option_and_then (λ (e : TheEntry). kept_reply (Entry (record e { result = Some outcome }))) o)) found
    (kept-is (Entry (record entry { result = Some outcome })) reply is within)

-- the reply that is owed is sent after these calls
pub reply-sent : (before : List OwedCall) (till : ℕ) (given : SaleReply) (owed : Option ReplyValue) → AreSameReplies (Some given) owed
    → AreCallsWith before (Some (SendTill till given)) (before ++ reply_calls_to (Some till) owed)
reply-sent before till given None same = absurd same
reply-sent before till given (Some reply) same = (reply, same, refl)

-- a reply that is the one owed lies within the limits where its types don't see to it
pub owed-limited : (given : Option SaleReply) (owed : Option ReplyValue) → AreSameReplies given owed → IfSome given (λ (reply : SaleReply). HasUnlimitedParts reply → IsWithinLimits reply)
owed-limited None owed same = tt
owed-limited (Some given) None same = absurd same
owed-limited (Some given) (Some reply) same = same.1

-- a payment is approved with a trace number above the number before
pub approval-believed : (known : Known) (number : ℕ) (terminal : Terminal) (slot last : ℕ) (figures : Figures) → last < figures.number
    → approved_row known number terminal slot last figures ≡ resolves known number terminal (Ready figures.number) (approved_outcome slot figures known.moment)
approval-believed known number terminal slot last figures above =
    ap (λ (b : Bool). if b then resolves known number terminal (Ready figures.number) (approved_outcome slot figures known.moment) else terminal_becomes known number (at_rest terminal (Aside last figures.number)) [])
    (lt-ltb last figures.number above)
