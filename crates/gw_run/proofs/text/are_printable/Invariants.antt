-- What the loop of `are_printable` keeps.
use Rattle.std.proofs.Common.{◌≡◌, take}
use Rattle.std.specs.List.{list_all}
use Rattle.gw_script.specs.LogText.{is_space_or_visible}
use Rattle.gw_run.proofs.text.are_printable.Given as goal

abbrev pub invariant-loop-byte : goal.invariant-loop-byte
invariant-loop-byte l = l.printable ≡ list_all is_space_or_visible (take l.byte-index l.bytes)
