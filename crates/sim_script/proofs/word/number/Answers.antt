-- Proof of the contract of `number`.
use Rattle.std.proofs.Common.{◌∙◌, sym, lit<, arith}
use Rattle.std.proofs.lemmas.Bool.Decides.{not_from_Decides}
use Rattle.std.proofs.lemmas.Str.Pattern.{starts_char}
use Rattle.sim_script.proofs.NumberLemmas.{number_parsed}
use Rattle.sim_script.proofs.word.number.Goals as goal
use Rattle.sim_script.proofs.word.number.Goals.{then-word-gt1, else-word-gt1}

pub returns : goal.returns
returns c =
    c.ok.ensures.value ∙ number_parsed c.args.word.now c.parse.result c.parse.ensures.value.0
    (not_from_Decides c.starts_with.result (starts_char 43 c.args.word.now c.starts_with.result c.starts_with.ensures.cases (lit< tt) (lit< tt)) c.if-starts_with.false)
    (λ long. elim c.if-word-gt1.branch [
      | then-word-gt1 w ↦ not_from_Decides w.starts_with-then-word-gt1.result (starts_char 48 c.args.word.now w.starts_with-then-word-gt1.result w.starts_with-then-word-gt1.ensures.cases (lit< tt) (lit< tt)) (sym w.value-is ∙ c.if-starts_with-2.false)
      | else-word-gt1 w ↦ absurd (omega arith)
    ])
