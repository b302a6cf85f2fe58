-- Proof of the contract of `find`.
use Rattle.std.proofs.Common.{sym, ap, arith, ◌∙◌}
use Rattle.std.specs.Option.{option_and_then}
use Rattle.json_text.specs.ValueOf.{value_of}
use Rattle.sale_msg.specs.Path.{tree_at}
use Rattle.sale_msg.proofs.PathLemmas.{rest_shorter, value_at_none, value_at_some}
use Rattle.sale_msg.proofs.path.+find.Goals as goal

pub find-requires : goal.find-requires
find-requires t c =
    let shorter = rest_shorter c.args.path.now c.in-Some.name c.in-Some.rest c.in-Some.ensures.cases in (omega (arith, shorter), tt)

pub returns-in-None : goal.returns-in-None
returns-in-None t c =
    rw (value_at_none c.args.path.now (value_of c.args.tree.now) c.in-None.ensures.cases) (rw c.as_bytes.ensures.value at c.get.ensures.value)

pub returns-in-None-get : goal.returns-in-None-get
returns-in-None-get t c =
    let step = value_at_some c.args.path.now (value_of c.args.tree.now) c.in-Some.name c.in-Some.rest c.in-Some.ensures.cases in
    let got = rw c.as_bytes-in-Some.ensures.value at c.in-None-get.ensures.value in
    sym (step ∙ ap (option_and_then (tree_at c.in-Some.rest.now)) (sym got))

pub returns-in-Some-get : goal.returns-in-Some-get
returns-in-Some-get t c =
    let step = value_at_some c.args.path.now (value_of c.args.tree.now) c.in-Some.name c.in-Some.rest c.in-Some.ensures.cases in
    let got = rw c.as_bytes-in-Some.ensures.value at c.in-Some-get.ensures.value in
    c.find.ensures ∙ sym (step ∙ ap (option_and_then (tree_at c.in-Some.rest.now)) (sym got))
