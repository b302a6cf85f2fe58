-- Proof of the contract of `display_lines`.
use Rattle.std.proofs.Common.{◌∙◌, map, take, ap, sym}
use Rattle.std.proofs.lemmas.Iterator.{YieldsList-from_slice, YieldsList-from_take}
use Rattle.std.proofs.lemmas.Iterator.Consumers.{YieldsList-end}
use Rattle.std.proofs.lemmas.Simd.{map-map}
use Rattle.xlate.specs.Display.{display_line}
use Rattle.xlate.proofs.display.display_lines.Goals as goal

pub returns-in-None : goal.returns-in-None
returns-in-None c =
    let t = YieldsList-end (YieldsList-from_take 8 (YieldsList-from_slice c.as_slice.result.now cc) cc)
    c.loop-text.yielded _ c.loop-text.yielded_by _ _ c.in-None.is c.next.ensures.steps in
    rw c.in-Some.is
    (c.loop-text.invariant ∙ sym (map-map display_line _ c.loop-text.yielded) ∙ ap (map display_line) t.0
    ∙ ap (λ texts. map display_line (take 8 texts)) c.as_slice.ensures)
