-- Proof of the contract of `read_header`.
use Rattle.std.proofs.Common.{◌∙◌, ap, inl, refl, sym}
use Rattle.json_text.specs.Tree.{get_of}
use Rattle.json_text.specs.ValueOf.{value_of}
use Rattle.sale_msg.specs.Grammar.{IsHeaded, IsHeadless}
use Rattle.sale_msg.proofs.MessageLemmas.{ok_part, err_part}
use Rattle.sale_msg.proofs.header.read_header.Goals as goal

pub returns-in-Some : goal.returns-in-Some
returns-in-Some c =
    let m = value_of c.args.tree.now in
    let outcome = c.header_under.ensures m (ap (λ name. get_of name m) (sym c.as_bytes.ensures.value) ∙ sym c.in-Some.ensures.value) in
    record {
      ok = ok_part c.header_under.result (λ headed. IsHeaded m headed.envelope (value_of headed.body.now) headed.header) (IsHeadless m) outcome;
      err = err_part c.header_under.result (λ headed. IsHeaded m headed.envelope (value_of headed.body.now) headed.header) (IsHeadless m) outcome;
    }

pub returns-in-Some-get : goal.returns-in-Some-get
returns-in-Some-get c =
    let m = value_of c.args.tree.now in
    let none = ap (λ name. get_of name m) (sym c.as_bytes.ensures.value) ∙ sym c.in-None.ensures.value in
    let some = ap (λ name. get_of name m) (sym c.as_bytes-in-None.ensures.value) ∙ sym c.in-Some-get.ensures.value in
    let outcome = c.header_under-in-Some-get.ensures m (none, some) in
    record {
      ok = ok_part c.header_under-in-Some-get.result (λ headed. IsHeaded m headed.envelope (value_of headed.body.now) headed.header) (IsHeadless m) outcome;
      err = err_part c.header_under-in-Some-get.result (λ headed. IsHeaded m headed.envelope (value_of headed.body.now) headed.header) (IsHeadless m) outcome;
    }

pub returns-in-None-get-clause-err : goal.returns-in-None-get-clause-err
returns-in-None-get-clause-err c =
    let m = value_of c.args.tree.now in
    let request = ap (λ name. get_of name m) (sym c.as_bytes.ensures.value) ∙ sym c.in-None.ensures.value in
    let response = ap (λ name. get_of name m) (sym c.as_bytes-in-None.ensures.value) ∙ sym c.in-None-get.ensures.value in
    (c.reported_path.result, inl (record { request = request; response = response }, c.reported_path.ensures), refl)
