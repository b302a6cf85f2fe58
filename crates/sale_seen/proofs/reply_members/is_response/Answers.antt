-- Proof of the contract of `is_response`.
use Rattle.std.proofs.Common.{◌∙◌, ◌++◌, None, Some, ap, bytes_eq, codes, sym}
use Rattle.std.proofs.lemmas.Slice.Eq.{strip_prefix_is}
use Rattle.std.proofs.lemmas.Bool.Decides.{Decides-eqb}
use Rattle.sale_seen.proofs.NameLemmas.{prefix_eq, not_eq}
use Rattle.sale_seen.proofs.reply_members.is_response.Goals as goal

pub returns-in-None : goal.returns-in-None
returns-in-None c =
    let other = strip_prefix_is Decides-eqb c.args.name.now c.args.category.now None c.in-None.ensures.cases in
    sym (not_eq c.args.name.now (c.args.category.now ++ codes "Response") (other (codes "Response")))

pub returns-in-Some : goal.returns-in-Some
returns-in-Some c =
    let whole = strip_prefix_is Decides-eqb c.args.name.now c.args.category.now (Some c.in-Some.rest) c.in-Some.ensures.cases in
    let suffix = codes "Response" in
    c.eq.ensures
    ∙ ap (bytes_eq c.in-Some.rest.now) c.as_slice.ensures
    ∙ sym (ap (λ n. bytes_eq n (c.args.category.now ++ suffix)) whole ∙ prefix_eq c.args.category.now c.in-Some.rest.now suffix)
