-- What the loop of `display_lines` keeps.
use Rattle.std.proofs.Common.{◌≡◌, ℕ, map}
use Rattle.arrayvec.specs.ArrayVec.{ArrayVec}
use Rattle.xlate.specs.Display.{display_line}
use Rattle.xlate.proofs.display.display_lines.Given as goal

-- the lines of the texts so far
abbrev pub invariant-loop-text : goal.invariant-loop-text
invariant-loop-text l = map (λ (line : ArrayVec ℕ). line.items) l.lines.items ≡ map (λ text. display_line text.now) l.yielded
