-- Proof of the contract of `display_line`.
use Rattle.std.proofs.Common.{◌∙◌, map, ap, sym}
use Rattle.std.proofs.lemmas.Iterator.{YieldsList-from_chars, YieldsList-from_take}
use Rattle.std.proofs.lemmas.Iterator.Consumers.{YieldsList-end}
use Rattle.std.proofs.lemmas.List.{map-id}
use Rattle.gw_base.specs.Text437.{byte_of}
use Rattle.xlate.proofs.display.display_line.Goals as goal

pub returns : goal.returns
returns c =
    let t = YieldsList-end (YieldsList-from_take 40 (YieldsList-from_chars c.args.text.now c.utf8.text cc) cc)
    c.loop-c.yielded _ c.loop-c.yielded_by _ _ c.in-None.is c.next.ensures.steps in
    c.loop-c.invariant ∙ ap (map byte_of) (sym (map-id c.loop-c.yielded) ∙ t.0)
