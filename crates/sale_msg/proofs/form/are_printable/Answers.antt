-- Proof of the contract of `are_printable`.
use Rattle.std.proofs.Common.{◌↔◌, All, IsTrue, subst, arith, refl}
use Rattle.std.proofs.lemmas.List.{take_all}
use Rattle.std.proofs.lemmas.List.Elements.{All-nil}
use Rattle.gw_base.specs.Ident.{IsPrintable}
use Rattle.sale_msg.proofs.FormLemmas.{one_more}
use Rattle.sale_msg.proofs.form.are_printable.Goals as goal

pub loop-byte-init : goal.loop-byte-init
loop-byte-init c = (λ t. All-nil IsPrintable, λ all. refl)

pub loop-byte-preserved : goal.loop-byte-preserved
loop-byte-preserved c =
    one_more IsPrintable c.args.text.now c.loop-byte.byte-index 0 _ _ c.loop-byte-test.true c.loop-byte.invariant c.is_printable-printable.ensures

pub returns : goal.returns
returns c =
    subst (λ bytes. IsTrue c.loop-byte.printable ↔ All IsPrintable bytes) (take_all c.loop-byte.byte-index c.args.text.now (omega arith)) c.loop-byte.invariant
