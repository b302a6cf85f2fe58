-- What the loop of `slices` keeps.
use Rattle.std.proofs.Common.{◌≡◌, map, take}
use Rattle.gw_run.proofs.words.slices.Given as goal

abbrev pub invariant-loop-word : goal.invariant-loop-word
invariant-loop-word l = map (λ word. word.now) l.list.items ≡ take l.word-index l.words
