-- The outside after a log and more turns.
use Rattle.std.proofs.Common.{◌≡◌, List, [], ◌∷◌, ◌++◌, refl}
use Rattle.gw_site.specs.Outside.{Outside, outside_after, outside_from, outside_of, nothing_yet}
use Rattle.gw_site.specs.declared.turn.Turn.{Turn}

pub outside_from-append : (o : Outside) (xs ys : List Turn) → outside_from o (xs ++ ys) ≡ outside_from (outside_from o xs) ys
outside_from-append o [] ys = refl
outside_from-append o (x ∷ xs) ys = outside_from-append (outside_after o x) xs ys

pub outside_of-append : (xs ys : List Turn) → outside_of (xs ++ ys) ≡ outside_from (outside_of xs) ys
outside_of-append xs ys = outside_from-append nothing_yet xs ys

pub outside_of_more : (log : List Turn) (turn : Turn) → outside_of (log ++ turn ∷ []) ≡ outside_after (outside_of log) turn
outside_of_more log turn = outside_of-append log (turn ∷ [])
