-- A Display: the verdict of the customer's display, and what is given.
use Rattle.std.proofs.Common.{◌≡◌, ◌≤◌, ◌<◌, ◌+◌, ℕ, suc, Bool, true, false, List, [], ◌∷◌, length, refl, sym, ◌∙◌, ap, subst, cond, arith}
use Rattle.std.specs.Prelude.{position, not, nat_lt, Option, Some, None, Result, Ok, Err, IfOk}
use Rattle.std.specs.List.{prefix_len}
use Rattle.std.proofs.lemmas.Bool.{ltb-false, ltb-true}
use Rattle.std.specs.declared.alloc.AllocError.{AllocError}
use Rattle.sale_values.specs.declared.header.Header.{Header}
use Rattle.sale_values.specs.declared.request.Output.{Output}
use Rattle.sale_values.specs.declared.request.SaleRequest.TheVariants as requests
use Rattle.sale_reply.specs.Outputs.{with_verdict_at}
use Rattle.sale_reply.specs.declared.reply.SaleReply.{SaleReply}
use Rattle.sale_reply.specs.declared.reply.Shown.{Shown}
use Rattle.sale_reply.specs.declared.reply.Verdict.{Verdict}
use Rattle.gw_base.specs.declared.condition.Condition.{Condition}
use Rattle.gw_base.specs.declared.condition.Condition.TheVariants.{UnavailableDevice}
use Rattle.xlate.specs.Display.{show}
use Rattle.zvt_msg.specs.declared.command.Command.{Command}
use Rattle.gw_owes.specs.Core.{Core as CoreValue}
use Rattle.gw_owes.specs.Diagnosis.{NamedTerminal, named_terminal}
use Rattle.gw_owes.specs.Displays.{display_result, is_customer_result, reply_of_display, shows_in, with_customer_verdict}
use Rattle.gw_owes.specs.ReadAs.{Request}
use Rattle.gw_owes.specs.Replies.{display_refusal, refused_results}
use Rattle.gw_owes.specs.Row.{Known}
use Rattle.gw_owes.specs.Steps.{StepResult, Begins, Fails, items_of_result}
use Rattle.gw_owes.specs.Terminals.{after_command, with_terminal}
use Rattle.gw_owes.specs.declared.terminal.Service.TheVariants.{Display}
use Rattle.gw_owes.specs.declared.terminal.Standing.TheVariants.{Ready, Serving}
use Rattle.gw_owes.specs.declared.terminal.Terminal.{Terminal}
use Rattle.gw_core.specs.declared.act.Act.{Act}
use Rattle.gw_core.specs.declared.act.Act.TheVariants as act
use Rattle.gw_core.specs.IsRow.{IsRow, alone}
use Rattle.gw_core.specs.ReplyOf.{AreSameReplies, IsGivenFor, IsGivenPrepared, IsGivenToDisplay, items_given, reply_given}
use Rattle.gw_core.specs.declared.till.Given.{Given}
use Rattle.gw_core.specs.declared.till.Given.TheVariants as given
use Rattle.gw_core.proofs.GivenLemmas.{none-begins}

-- ---- the verdict of the customer's display

-- how many results come before that of the first output for the customer's display
abbrev before_customer : List Shown → ℕ
before_customer results = prefix_len (λ (shown : Shown). not (is_customer_result shown)) results

at-customer : (verdict : Verdict) (results : List Shown) (index : ℕ) → index ≡ before_customer results → index < length results → with_verdict_at results index verdict ≡ with_customer_verdict verdict results
at-customer verdict [] index is inside = absurd (omega arith)
at-customer verdict (shown ∷ others) index is inside = by-test (λ index is inside. at-customer verdict others index is inside) (is_customer_result shown) refl is
  where
    by-test : ((index : ℕ) → index ≡ before_customer others → index < length others → with_verdict_at others index verdict ≡ with_customer_verdict verdict others)
        → (test : Bool) → is_customer_result shown ≡ test → index ≡ cond (not test) (1 + before_customer others) 0 → with_verdict_at (shown ∷ others) index verdict ≡ with_customer_verdict verdict (shown ∷ others)
    by-test rest true test first =
        ap (λ at. with_verdict_at (shown ∷ others) at verdict) first
        ∙ sym (ap (λ (b : Bool). cond b (record shown { verdict = verdict } ∷ others) (shown ∷ with_customer_verdict verdict others)) test)
    by-test rest false test later =
        let next : index ≡ suc (before_customer others) = omega (arith, later) in
        ap (λ at. with_verdict_at (shown ∷ others) at verdict) next
        ∙ ap (λ list. shown ∷ list) (rest (before_customer others) refl (omega (arith, next, inside)))
        ∙ sym (ap (λ (b : Bool). cond b (record shown { verdict = verdict } ∷ others) (shown ∷ with_customer_verdict verdict others)) test)

no-customer : (verdict : Verdict) (results : List Shown) → length results ≤ before_customer results → with_customer_verdict verdict results ≡ results
no-customer verdict [] past = refl
no-customer verdict (shown ∷ others) past = by-test (λ past. no-customer verdict others past) (is_customer_result shown) refl past
  where
    by-test : (length others ≤ before_customer others → with_customer_verdict verdict others ≡ others) → (test : Bool) → is_customer_result shown ≡ test → length (shown ∷ others) ≤ cond (not test) (1 + before_customer others) 0 → with_customer_verdict verdict (shown ∷ others) ≡ shown ∷ others
    by-test rest true test past = absurd (omega arith)
    by-test rest false test past =
        ap (λ (b : Bool). cond b (record shown { verdict = verdict } ∷ others) (shown ∷ with_customer_verdict verdict others)) test
        ∙ ap (λ list. shown ∷ list) (rest (omega (arith, past)))

-- where there is one, it has the verdict
pub customer-there : (verdict : Verdict) (results : List Shown) (index : ℕ) → position is_customer_result results ≡ Some index → with_verdict_at results index verdict ≡ with_customer_verdict verdict results
customer-there verdict results index is = by-test (nat_lt (before_customer results) (length results)) refl is
  where
    by-test : (test : Bool) → nat_lt (before_customer results) (length results) ≡ test → cond test (Some (before_customer results)) None ≡ Some index → with_verdict_at results index verdict ≡ with_customer_verdict verdict results
    by-test true inside is =
        let index_is : index ≡ before_customer results = cc in
        at-customer verdict results index index_is (subst (λ at. at < length results) (sym index_is) (ltb-true (before_customer results) (length results) inside))
    by-test false past is = absurd cc

-- and where there is none, none has
pub customer-none : (verdict : Verdict) (results : List Shown) → position is_customer_result results ≡ None → with_customer_verdict verdict results ≡ results
customer-none verdict results is = by-test (nat_lt (before_customer results) (length results)) refl is
  where
    by-test : (test : Bool) → nat_lt (before_customer results) (length results) ≡ test → cond test (Some (before_customer results)) None ≡ None → with_customer_verdict verdict results ≡ results
    by-test true inside is = absurd cc
    by-test false past is = no-customer verdict results (ltb-false (before_customer results) (length results) past)

-- ---- what begins

-- a terminal that is ready is asked to show the outputs
pub display-begins : (known : Known) (pt till : ℕ) (header : Header) (outputs : List Output) (terminal asked : Terminal) (last : ℕ) (command : Command) (results : Option (List Shown)) (wanted : Act) → terminal.standing ≡ Ready last
    → Some command ≡ show outputs → results ≡ refused_results UnavailableDevice outputs → asked ≡ after_command terminal command (Serving (Display header results) last) known.moment → wanted ≡ act.SendPt pt command
    → IsRow known.kept (shows_in known pt till header outputs terminal terminal.standing) (with_terminal known.core pt (record asked { asker = Some till })) (alone (Some wanted))
display-begins known pt till header outputs terminal asked last command results wanted ready shown prepared asked_is wanted_is =
    rw (ready, ← shown, wanted_is) (record {
      core_is = ap (λ (t : Terminal). with_terminal known.core pt (record t { asker = Some till }))
          (asked_is ∙ ap (λ (r : Option (List Shown)). after_command terminal command (Serving (Display header r) last) known.moment) prepared);
      calls_are = refl;
      items_are = refl;
    })

-- ---- what is given

-- where it is refused, its refusal is given
pub display-refused : (header : Header) (outputs : List Output) (named : Option NamedTerminal) (condition : Condition) (wanted : Given) (reply : Option SaleReply) → display_result outputs named ≡ Fails condition
    → AreSameReplies reply (display_refusal condition header outputs) → reply_given wanted ≡ reply → ((till : ℕ) → items_given till wanted ≡ []) → IsGivenPrepared wanted → IsGivenToDisplay header outputs named wanted
display-refused header outputs named condition wanted reply fails same given_is nothing prepared = record {
  reply = subst (λ (given : Option SaleReply). AreSameReplies given (reply_of_display header outputs (display_result outputs named))) (sym given_is)
      (subst (λ (result : StepResult). AreSameReplies reply (reply_of_display header outputs result)) (sym fails) same);
  begun = λ till. ap (items_of_result till header (requests.Display outputs) named) fails ∙ none-begins till header (requests.Display outputs) named condition ∙ sym (nothing till);
  prepared = prepared;
}

-- where it begins, that is, with its results
pub display-begun : (header : Header) (outputs : List Output) (named : Option NamedTerminal) (pt : ℕ) (terminal : Terminal) (results : Option (List Shown)) → named ≡ Some (record { number = pt; terminal = terminal })
    → display_result outputs named ≡ Begins → results ≡ refused_results UnavailableDevice outputs → IsGivenToDisplay header outputs named (given.Begins pt header (requests.Display outputs) results)
display-begun header outputs named pt terminal results named_is begins prepared = record {
  reply = subst (λ (result : StepResult). AreSameReplies None (reply_of_display header outputs result)) (sym begins) tt;
  begun = λ till. ap (items_of_result till header (requests.Display outputs) named) begins ∙ ap (λ (n : Option NamedTerminal). items_of_result till header (requests.Display outputs) n Begins) named_is;
  prepared = prepared;
}

-- what is given to a Display is given to its request
pub given-display : (known : Known) (core : CoreValue) (header : Header) (outputs : List Output) (result : Result Given AllocError) → known.core ≡ core → IfOk result (IsGivenToDisplay header outputs (named_terminal core header.poi))
    → IfOk result (IsGivenFor known (Request header (requests.Display outputs)))
given-display known core header outputs (Ok wanted) core_is is =
    let own : IsGivenToDisplay header outputs (named_terminal known.core header.poi) wanted = subst (λ (c : CoreValue). IsGivenToDisplay header outputs (named_terminal c header.poi) wanted) (sym core_is) is in
    record { reply = own.reply; begun = own.begun; prepared = own.prepared }
given-display known core header outputs (Err refused) core_is is = tt
