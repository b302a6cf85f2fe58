-- Proof of the contract of `result_path`.
use Rattle.std.proofs.Common.{◌≡◌, ◌∙◌, ap, subst, sym, arith}
use Rattle.gw_base.specs.Ident.{IsIdent}
use Rattle.sale_seen.specs.Fault.{result_path}
use Rattle.sale_seen.proofs.IdentLemmas.{result_path_ident}
use Rattle.sale_seen.proofs.reader.result_path.Goals as goal

pub known-requires : goal.known-requires
known-requires c =
    let text : c.as_slice.result.now ≡ result_path c.args.category.now =
    c.as_slice.ensures.value ∙ c.path_text.ensures ∙ ap result_path c.as_bytes.ensures.value in
    (omega arith, subst (IsIdent 100) (sym text) (result_path_ident c.args.category.now c.as_bytes.ensures.ident))
