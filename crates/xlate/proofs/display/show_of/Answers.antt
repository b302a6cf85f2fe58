-- Proof of the contract of `show_of`.
use Rattle.std.proofs.Common.{◌≡◌, ◌∙◌, Some, ap, sym}
use Rattle.std.specs.Option.{option_copied}
use Rattle.xlate.specs.Display.{customer_output}
use Rattle.xlate.proofs.DisplayLemmas.{same_lines}
use Rattle.xlate.proofs.display.show_of.Goals as goal

pub returns-in-Some : goal.returns-in-Some
returns-in-Some c =
    let first : customer_output c.args.outputs.now ≡ Some c.in-Some.output.now =
    ap customer_output (sym c.as_slice.ensures) ∙ sym c.customer_output.ensures ∙ ap option_copied c.in-Some.is in
    rw first (ap Some (same_lines c.display_lines.result _ c.display_lines.ensures))
