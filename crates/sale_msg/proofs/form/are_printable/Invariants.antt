-- What the loop of `are_printable` keeps.
use Rattle.std.proofs.Common.{◌↔◌, All, IsTrue, take}
use Rattle.gw_base.specs.Ident.{IsPrintable}
use Rattle.sale_msg.proofs.form.are_printable.Given as goal

abbrev pub invariant-loop-byte : goal.invariant-loop-byte
invariant-loop-byte l = IsTrue l.printable ↔ All IsPrintable (take l.byte-index l.text)
