-- The results of the outputs of a Display, of which one gets another verdict.
use Rattle.std.specs.Prelude.{ℕ, zero, suc, List, [], ◌∷◌}
use Rattle.sale_reply.specs.declared.reply.Shown.{Shown}
use Rattle.sale_reply.specs.declared.reply.Verdict.{Verdict}

-- the result of an output, with this verdict
abbrev pub with_verdict : Verdict → Shown → Shown
with_verdict verdict shown = record shown { verdict = verdict }

-- the results of which the one at this index has this verdict
abbrev pub with_verdict_at : List Shown → ℕ → Verdict → List Shown
with_verdict_at [] index verdict = []
with_verdict_at (first ∷ others) zero verdict = with_verdict verdict first ∷ others
with_verdict_at (first ∷ others) (suc index) verdict = first ∷ with_verdict_at others index verdict
