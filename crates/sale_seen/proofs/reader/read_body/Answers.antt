-- Proof of the contract of `read_body`.
use Rattle.std.proofs.Common.{◌∙◌, ap, refl, subst, sym, Option, option_map}
use Rattle.std.specs.Option.{option_and_then}
use Rattle.json_text.specs.Tree.{string_of}
use Rattle.json_text.specs.ValueOf.{value_of}
use Rattle.sale_seen.specs.ReplyMembers.{OutcomeValue, amount_text_in, outcome_in, response_of, transaction_in}
use Rattle.sale_seen.specs.Grammar.{FindsMember, IsAmountMember, IsTransactionText}
use Rattle.sale_seen.proofs.reader.read_body.Goals as goal

pub returns-in-Some-result_of : goal.returns-in-Some-result_of
returns-in-Some-result_of c =
    let body = value_of c.in-Some.body.now in
    let outcome = c.find_outcome-within.ensures ∙ ap (λ k. outcome_in k body) c.as_bytes-in-Some-result_of.ensures.value in
    let T : Option OutcomeValue → Type 0 = λ o. FindsMember (IsTransactionText (option_and_then transaction_in o)) (option_map (λ text. text.items) c.transaction.result) in
    let M : Option OutcomeValue → Type 0 = λ o. FindsMember (IsAmountMember (option_and_then amount_text_in o)) c.units.result in
    λ message envelope headed. (
      envelope,
      value_of c.args.object.now,
      c.args.header.now,
      body,
      record {
        headed = headed;
        body_is = sym (c.in-Some.ensures ∙ ap (λ k. response_of k (value_of c.args.object.now)) c.as_bytes.ensures.value);
        category = refl;
        result = ap (option_and_then string_of) (sym c.in-Some-find.ensures) ∙ c.in-Some-result_of.ensures;
        condition = c.condition.ensures;
        transaction = subst T outcome c.transaction.ensures;
        minor = subst M outcome c.units.ensures;
      },
    )
