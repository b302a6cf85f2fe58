-- What the next turn of a log is, by what is owed and by what may begin.
use Rattle.std.proofs.Common.{◌≡◌, true, List, [], ◌∷◌, sym, ◌∙◌, subst}
use Rattle.std.specs.Prelude.{Some}
use Rattle.gw_site.specs.declared.turn.Turn.{Turn}
use Rattle.gw_owes.specs.Calls.{OwedCall}
use Rattle.gw_rules.specs.Lawful.{first_call, may_begin, AllowedTurn, IsCourse, turns_of}
use Rattle.gw_rules.specs.View.{View, Move, Begin, Read, Make, after, after_turn}
use Rattle.gw_rules.proofs.PrefixLemmas.{Along}
use Rattle.gw_rules.proofs.StageLemmas.{no-true, no-call}

-- ---- which move comes next

-- the rest of a course whose first turn is made now
pub split-make : (v : View) (first turn : Turn) (moves : List Move) (turns : List Turn) → first ∷ turns_of moves ≡ turn ∷ turns → AllowedTurn v first → IsCourse (after_turn v first) moves → AllowedTurn v turn × Along (after_turn v turn) turns
split-make v first turn moves turns e ok course =
    let heads : first ≡ turn = cc in
    let tails : turns_of moves ≡ turns = cc in
    (subst (AllowedTurn v) heads ok, record { moves = moves; turns_are = tails; lawful = subst (λ t. IsCourse (after_turn v t) moves) heads course })

-- where a call is owed, the next turn is made
pub take-owed : (v : View) (call : OwedCall) (turn : Turn) (turns : List Turn) → first_call v.calls ≡ Some call → Along v (turn ∷ turns) → AllowedTurn v turn × Along (after_turn v turn) turns
take-owed v call turn turns next x = by_moves x.moves x.turns_are x.lawful
  where
    by_moves : (moves : List Move) → turns_of moves ≡ turn ∷ turns → IsCourse v moves → AllowedTurn v turn × Along (after_turn v turn) turns
    by_moves [] e h = absurd (let n : [] ≡ turn ∷ turns = e in cc)
    by_moves (Begin ∷ moves) e h = no-call v.calls call h.0.idle.calls next
    by_moves (Read as_read ∷ moves) e h = no-call v.calls call h.0.idle.calls next
    by_moves (Make first ∷ moves) e h = split-make v first turn moves turns e h.0 h.1

-- where an item may begin and the next turn may not come, the item begins
pub begin-next : (v : View) (turn : Turn) (turns : List Turn) → may_begin v.scene v.items ≡ true → (AllowedTurn v turn → ⊥) → Along v (turn ∷ turns) → Along (after v Begin) (turn ∷ turns)
begin-next v turn turns begins refused x = by_moves x.moves x.turns_are x.lawful
  where
    by_moves : (moves : List Move) → turns_of moves ≡ turn ∷ turns → IsCourse v moves → Along (after v Begin) (turn ∷ turns)
    by_moves [] e h = absurd (let n : [] ≡ turn ∷ turns = e in cc)
    by_moves (Begin ∷ moves) e h = record { moves = moves; turns_are = e; lawful = h.1 }
    by_moves (Read as_read ∷ moves) e h = no-true (sym h.0.waits ∙ begins)
    by_moves (Make first ∷ moves) e h = absurd (refused (split-make v first turn moves turns e h.0 h.1).0)
