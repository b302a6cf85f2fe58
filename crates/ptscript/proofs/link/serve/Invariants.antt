-- Each turn of `serve` is one fewer.
use Rattle.ptscript.proofs.link.serve.Given as goal

abbrev pub decreases-loop-listener : goal.decreases-loop-listener
decreases-loop-listener g l = l.played.turns
