-- Proof of the contract of `add_block`.
use Rattle.std.proofs.Common.{◌++◌, ◌∙◌, ap, arith}
use Rattle.zvt_msg.specs.BlockDecode.{decode_block_lines}
use Rattle.gw_dispatch.proofs.PrintLemmas.{all-added, bytes_of_texts, one-added, room-left}
use Rattle.gw_dispatch.proofs.printing.add_block.Goals as goal

pub loop-text-init : goal.loop-text-init
loop-text-init c = ap (λ items. bytes_of_texts items ++ c.over-rest.result) c.requires.none ∙ c.over-rest.ensures.computes

pub push-requires : goal.push-requires
push-requires c = (omega arith, room-left c.loop-text.texts.items c.in-Some.text.now c.loop-text.rest c.next.new.self (decode_block_lines c.args.block.now) 400 c.loop-text.invariant c.in-Some.ensures.steps c.requires.few)

pub loop-text-preserved : goal.loop-text-preserved
loop-text-preserved c =
    ap (λ items. bytes_of_texts items ++ c.next.new.self) c.push.ensures.items ∙ one-added c.loop-text.texts.items c.in-Some.text c.loop-text.rest c.next.new.self (decode_block_lines c.args.block.now) c.loop-text.invariant c.in-Some.ensures.steps

pub returns : goal.returns
returns c = all-added c.loop-text.texts.items c.loop-text.rest (decode_block_lines c.args.block.now) c.loop-text.invariant c.in_default.ensures.steps.0
