-- Closed examples of what words ask for, and of words that are refused.
use Rattle.std.specs.Prelude.{◌≡◌, ℕ, List, [], ◌∷◌, Some, codes}
use Rattle.gw_run.specs.Words.{AreRefused, order_of}
use Rattle.gw_run.specs.declared.words.Mode.{Mode}
use Rattle.gw_run.specs.declared.words.Mode.TheVariants.{Serve, Replay, Drill}

-- the words ask for this mode, and for so many polls
abbrev pub AskFor : List (List ℕ) → Mode → ℕ → Type 0
AskFor words mode polls = order_of words ≡ Some (record { mode = mode; polls = polls })

-- words that are accepted
pub record AcceptedExamples : Type 0 where
  pub serve : AskFor (codes "serve" ∷ []) Serve 18446744073709551615
  pub replay : AskFor (codes "replay" ∷ []) Replay 18446744073709551615
  pub turns : AskFor (codes "serve" ∷ codes "--turns" ∷ codes "5" ∷ []) Serve 5
  pub before : AskFor (codes "--turns=0" ∷ codes "serve" ∷ []) Serve 0
  pub plus : AskFor (codes "serve" ∷ codes "--turns" ∷ codes "+5" ∷ []) Serve 5
  pub zeros : AskFor (codes "serve" ∷ codes "--turns" ∷ codes "007" ∷ []) Serve 7
  pub drill : AskFor (codes "drill" ∷ []) (Drill 1 100) 18446744073709551615
  pub numbers : AskFor (codes "drill" ∷ codes "--from" ∷ codes "7" ∷ codes "--payments" ∷ codes "0" ∷ []) (Drill 7 0) 18446744073709551615
  pub others : AskFor (codes "replay" ∷ codes "--from" ∷ codes "9" ∷ codes "--payments" ∷ codes "10000" ∷ []) Replay 18446744073709551615

-- words that are refused
pub record RefusedExamples : Type 0 where
  pub none : AreRefused []
  pub two : AreRefused (codes "replay" ∷ codes "replay" ∷ [])
  pub other : AreRefused (codes "Serve" ∷ [])
  pub more : AreRefused (codes "drill" ∷ codes "--payments" ∷ codes "10001" ∷ [])
  pub twice : AreRefused (codes "serve" ∷ codes "--turns" ∷ codes "5" ∷ codes "--turns" ∷ codes "6" ∷ [])
  pub negative : AreRefused (codes "serve" ∷ codes "--turns=-5" ∷ [])
  pub large : AreRefused (codes "serve" ∷ codes "--turns" ∷ codes "18446744073709551616" ∷ [])
  pub valueless : AreRefused (codes "serve" ∷ codes "--turns" ∷ [])
  pub unknown : AreRefused (codes "serve" ∷ codes "--port" ∷ codes "7" ∷ [])
  pub help : AreRefused (codes "--help" ∷ [])
  pub payments : AreRefused (codes "serve" ∷ codes "--payments" ∷ codes "10001" ∷ [])
