-- Each terminal's queue is first in, first out.
use Rattle.std.proofs.Common.{◌≡◌, ℕ, ◌<◌, ◌≤◌, Bool, true, false, not, cond, List, [], ◌∷◌, ◌++◌, length, drop, refl, sym, ap, ◌∙◌, subst, arith, inl, inr, append-nil, append_assoc}
use Rattle.std.proofs.lemmas.Bool.{eq-eqb}
use Rattle.std.proofs.lemmas.Bool.Decides.{nat_tests}
use Rattle.std.proofs.lemmas.List.{drop_all}
use Rattle.std.proofs.lemmas.Option.{same_Some}
use Rattle.std.specs.Prelude.{filter, if◌then◌else◌, nat_lt, option_to_list, Some}
use Rattle.gw_site.specs.declared.turn.Turn.{Turn}
use Rattle.gw_site.specs.declared.turn.Turn.TheVariants.{CutTill}
use Rattle.gw_ledger.specs.Keys.{same_key}
use Rattle.gw_owes.specs.Core.{Wait}
use Rattle.gw_owes.specs.Items.{RoundItem, Gone, Queue, Overdue}
use Rattle.gw_owes.specs.Waits.{first_waiting}
use Rattle.gw_owes.proofs.NextOrderLemmas.{few-pass}
use Rattle.gw_owes.proofs.WaitingListLemmas.{same-key-itself}
use Rattle.gw_rules.specs.Lawful.{IsCourse, Stands, turns_of}
use Rattle.gw_rules.specs.QueueLaws.{EachMoveChangesQueues, EachQueueIsFirstInFirstOut, BeginsWith, IsPartOf, QueueChange, Stays, Joins, FirstLeaves, AbortedLeaves, OverdueLeaves, TillLeaves, RunEnds, begun_in, first_gone, joined_in, joining, leaving_first, looks_at_next, queue_in, without_key}
use Rattle.gw_rules.specs.View.{View, Move, Begin, Read, Make, after, view_from}
use Rattle.gw_rules.proofs.CourseLemmas.{stands-more}
use Rattle.gw_rules.proofs.QueueListLemmas.{part-after, part-back, part-filter, part-none, part-same, part-through}

-- ---- one move

not-less : (n : ℕ) → nat_lt n n ≡ false
not-less n = grind (arith, nat_tests)

less : (a b : ℕ) → a < b → nat_lt a b ≡ true
less a b is = grind (arith, nat_tests)

drop-few : (n : ℕ) (all : List Wait) → length all ≤ n → drop n all ≡ []
drop-few n all few = drop_all n all few

drop-last : (all : List Wait) (wait : Wait) → drop (length all) (all ++ wait ∷ []) ≡ wait ∷ []
drop-last [] wait = refl
drop-last (one ∷ all) wait = drop-last all wait

-- what was begun of a queue that changes so, with those that are left of it, is a part of it with those that joined
abbrev IsInOrder : List Wait → List Wait → List Wait → Type 0
IsInOrder leaving old new = IsPartOf (leaving ++ new) (old ++ drop (length old) new)

-- none was begun of one that only lost some
lost-in-order : (test : Wait → Bool) (old new : List Wait) → new ≡ filter test old → IsInOrder [] old new
lost-in-order test old new is =
    subst (λ (l : List Wait). IsPartOf l (old ++ drop (length old) l)) (sym is)
    (subst (λ (l : List Wait). IsPartOf (filter test old) (old ++ l)) (sym (drop-few (length old) (filter test old) (few-pass test old))) (subst (IsPartOf (filter test old)) (sym (append-nil old)) (part-filter test old)))

-- nor of one that stays
stays-in-order : (old new : List Wait) → new ≡ old → IsInOrder [] old new
stays-in-order old new is =
    subst (λ (l : List Wait). IsPartOf l (old ++ drop (length old) l)) (sym is)
    (subst (λ (l : List Wait). IsPartOf old (old ++ l)) (sym (drop-few (length old) old (omega arith))) (subst (IsPartOf old) (sym (append-nil old)) (part-same old)))

joins-in-order : (old new : List Wait) (wait : Wait) → new ≡ old ++ wait ∷ [] → IsInOrder [] old new
joins-in-order old new wait is =
    subst (λ (l : List Wait). IsPartOf l (old ++ drop (length old) l)) (sym is) (subst (λ (l : List Wait). IsPartOf (old ++ wait ∷ []) (old ++ l)) (sym (drop-last old wait)) (part-same (old ++ wait ∷ [])))

-- the first leaves
first-in-order : (old new : List Wait) (wait : Wait) → first_waiting old ≡ Some wait → new ≡ without_key wait.key old → IsInOrder (first_gone old new) old new
first-in-order [] new wait first is = absurd cc
first-in-order (one ∷ others) new wait first is =
    let same : one ≡ wait = same_Some one wait first in
    let left : new ≡ filter (λ (other : Wait). not (same_key one.key other.key)) others =
    is ∙ (sym (ap (λ (w : Wait). without_key w.key (one ∷ others)) same)
    ∙ ap (λ (b : Bool). cond (not b) (one ∷ filter (λ (other : Wait). not (same_key one.key other.key)) others) (filter (λ (other : Wait). not (same_key one.key other.key)) others)) (same-key-itself one.key)) in
    let few : length new ≤ length others = subst (λ (l : List Wait). length l ≤ length others) (sym left) (few-pass (λ (other : Wait). not (same_key one.key other.key)) others) in
    let gone : first_gone (one ∷ others) new ≡ one ∷ [] = ap (λ (b : Bool). if b then one ∷ [] else []) (less (length new) (length (one ∷ others)) (omega (arith, few))) in
    subst (λ (l : List Wait). IsPartOf (l ++ new) (one ∷ others ++ drop (length (one ∷ others)) new)) (sym gone)
    (subst (λ (l : List Wait). IsPartOf (one ∷ new) (one ∷ others ++ l)) (sym (drop-few (length (one ∷ others)) new (omega (arith, few))))
    (inr (new, refl, subst (IsPartOf new) (sym (append-nil others)) (subst (λ (l : List Wait). IsPartOf l others) (sym left) (part-filter (λ (other : Wait). not (same_key one.key other.key)) others)))))

-- where the first item isn't a look at what waits for this terminal, none leaves so
module _ (number : ℕ) (v : View) where
  looks-false : (items : List RoundItem) (old new : List Wait) → looks_at_next number items ≡ false → (if looks_at_next number items then first_gone old new else []) ≡ []
  looks-false items old new none = ap (λ (b : Bool). if b then first_gone old new else []) none

  gone-none : (move : Move) (item : RoundItem) → BeginsWith v move item → ((rest : List RoundItem) → looks_at_next number (item ∷ rest) ≡ false) → leaving_first number v move ≡ []
  gone-none move item begins none =
      ap (leaving_first number v) begins.move_is ∙ looks-false v.items (queue_in v number) (queue_in (after v Begin) number) (ap (looks_at_next number) begins.items_are ∙ none begins.rest)

  same-none : (move : Move) → queue_in (after v move) number ≡ queue_in v number → leaving_first number v move ≡ []
  same-none Begin same = by-test (looks_at_next number v.items)
    where
      by-test : (looks : Bool) → (if looks then first_gone (queue_in v number) (queue_in (after v Begin) number) else []) ≡ []
      by-test true = ap (λ (l : List Wait). first_gone (queue_in v number) l) same ∙ ap (λ (b : Bool). if b then option_to_list (first_waiting (queue_in v number)) else []) (not-less (length (queue_in v number)))
      by-test false = refl
  same-none (Read as_read) same = refl
  same-none (Make turn) same = refl

  made-none : (move : Move) (turn : Turn) → move ≡ Make turn → leaving_first number v move ≡ []
  made-none move turn is = ap (leaving_first number v) is

  -- along one move
  abbrev MoveInOrder : Move → Type 0
  MoveInOrder move = IsInOrder (leaving_first number v move) (queue_in v number) (queue_in (after v move) number)

  in-order-none : (move : Move) → leaving_first number v move ≡ [] → IsInOrder [] (queue_in v number) (queue_in (after v move) number) → MoveInOrder move
  in-order-none move none is = subst (λ (l : List Wait). IsInOrder l (queue_in v number) (queue_in (after v move) number)) (sym none) is

  move-in-order : (move : Move) → QueueChange v move number (queue_in v number) (queue_in (after v move) number) → MoveInOrder move
  move-in-order move (Stays none same) = in-order-none move (same-none move same) (stays-in-order _ _ same)
  move-in-order move (Joins wait begins new) =
      in-order-none move (gone-none move (Queue number wait.till wait.header wait.request) begins (λ rest. refl)) (joins-in-order _ _ wait new)
  move-in-order move (FirstLeaves wait begins first new) =
      subst (λ (m : Move). IsInOrder (leaving_first number v m) (queue_in v number) (queue_in (after v m) number)) (sym begins.move_is)
      (subst (λ (l : List Wait). IsInOrder l (queue_in v number) (queue_in (after v Begin) number))
      (sym (ap (λ (b : Bool). if b then first_gone (queue_in v number) (queue_in (after v Begin) number) else []) (ap (looks_at_next number) begins.items_are ∙ eq-eqb number number refl)))
      (first-in-order (queue_in v number) (queue_in (after v Begin) number) wait first (sym (ap (λ (m : Move). queue_in (after v m) number) begins.move_is) ∙ new)))
  move-in-order move (AbortedLeaves named till header reference begins new) =
      in-order-none move (gone-none move (Queue named till header _) begins (λ rest. refl)) (lost-in-order _ _ _ new)
  move-in-order move (OverdueLeaves wait begins waits overdue new) = in-order-none move (gone-none move (Overdue wait.key) begins (λ rest. refl)) (lost-in-order _ _ _ new)
  move-in-order move (TillLeaves till (inl begins) new) = in-order-none move (gone-none move (Gone till) begins (λ rest. refl)) (lost-in-order _ _ _ new)
  move-in-order move (TillLeaves till (inr cut) new) = in-order-none move (made-none move (CutTill till) cut) (lost-in-order _ _ _ new)
  move-in-order move (RunEnds turn made between new) =
      in-order-none move (made-none move turn made) (subst (λ (l : List Wait). IsPartOf l (queue_in v number ++ drop (length (queue_in v number)) l)) (sym new) (part-none _))

-- ---- along a course

fifo-from : EachMoveChangesQueues → (log : List Turn) (v : View) (moves : List Move) (number : ℕ) → Stands log v → IsCourse v moves
    → IsPartOf (begun_in number v moves ++ queue_in (view_from v moves) number) (queue_in v number ++ joined_in number v moves)
fifo-from changes log v [] number stands course = subst (IsPartOf (queue_in v number)) (sym (append-nil (queue_in v number))) (part-same (queue_in v number))
fifo-from changes log v (move ∷ moves) number stands course =
    let later = fifo-from changes (log ++ turns_of (move ∷ [])) (after v move) moves number (stands-more log v (move ∷ []) stands (course.0, tt)) course.1 in
    let first = move-in-order number v move (changes log v move number stands course.0) in
    let leaving : List Wait = leaving_first number v move in
    let begun : List Wait = begun_in number (after v move) moves in
    let last : List Wait = queue_in (view_from (after v move) moves) number in
    let joined : List Wait = joined_in number (after v move) moves in
    subst (λ (l : List Wait). IsPartOf l (queue_in v number ++ (joining number v move ++ joined))) (sym (append_assoc leaving begun last))
    (part-through (leaving ++ (begun ++ last)) ((leaving ++ queue_in (after v move) number) ++ joined) (queue_in v number ++ (joining number v move ++ joined))
    (subst (IsPartOf (leaving ++ (begun ++ last))) (sym (append_assoc leaving (queue_in (after v move) number) joined)) (part-after leaving (begun ++ last) (queue_in (after v move) number ++ joined) later))
    (subst (IsPartOf ((leaving ++ queue_in (after v move) number) ++ joined)) (append_assoc (queue_in v number) (joining number v move) joined)
    (part-back (leaving ++ queue_in (after v move) number) (queue_in v number ++ joining number v move) joined first)))

pub queue-first-in-first-out : EachMoveChangesQueues → EachQueueIsFirstInFirstOut
queue-first-in-first-out changes log v moves number stands course = fifo-from changes log v moves number stands course
