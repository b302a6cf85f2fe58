-- Proof of the contract of `printable_message`.
use Rattle.std.proofs.Common.{◌∙◌, sym, ap}
use Rattle.std.specs.Prelude.{Some}
use Rattle.gw_run.proofs.TextLemmas.{printable_from}
use Rattle.gw_run.proofs.text.printable_message.Goals as goal

pub returns-then-are_printable : goal.returns-then-are_printable
returns-then-are_printable c =
    ap Some c.printable_str.ensures ∙ printable_from c.args.bytes.now c.in_ok-message.message.now c.in_ok-message.ensures.payload (sym c.if-are_printable.ensures)
