-- Proof of the contract of `are_printable`.
use Rattle.std.proofs.Common.{◌+◌, take, sym, ap, ◌∙◌, arith}
use Rattle.std.proofs.lemmas.List.{take_all}
use Rattle.std.proofs.lemmas.List.Folds.{list_all_more}
use Rattle.std.specs.List.{list_all}
use Rattle.std.specs.Prelude.{◌&&◌}
use Rattle.gw_script.specs.LogText.{is_space_or_visible}
use Rattle.gw_run.proofs.text.are_printable.Goals as goal

pub loop-byte-preserved : goal.loop-byte-preserved
loop-byte-preserved c =
    let bytes = c.args.bytes.now in
    let index = c.loop-byte.byte-index in
    ap (λ so_far. so_far && c.is_space_or_visible-printable.result) c.loop-byte.invariant
    ∙ ap (λ last. list_all is_space_or_visible (take index bytes) && last) c.is_space_or_visible-printable.ensures
    ∙ sym (list_all_more is_space_or_visible bytes index 0 c.loop-byte-test.true)

pub returns : goal.returns
returns c = c.loop-byte.invariant ∙ ap (list_all is_space_or_visible) (take_all c.loop-byte.byte-index c.args.bytes.now (omega arith))
