-- Courses one after another, and the outside along a course.
use Rattle.std.proofs.Common.{◌≡◌, List, [], ◌∷◌, ◌++◌, refl, sym, ◌∙◌, ap}
use Rattle.std.specs.Prelude.{true, false, map}
use Rattle.gw_site.specs.Outside.{outside_after, outside_from, outside_of}
use Rattle.gw_site.specs.declared.turn.Turn.{Turn}
use Rattle.gw_site.specs.declared.turn.Turn.TheVariants.{Start, OpenFailed, Polled, Opened, HeardTill, Closed, HeardPt, Lost, Stopped, Linked, LinkFailed, SentTill, SentPt, CutTill, CutPt, Wrote, Synced, DiskFailed, Crash}
use Rattle.gw_owes.specs.Items.{RoundItem}
use Rattle.gw_rules.specs.Lawful.{IsCourse, turns_of, Stands}
use Rattle.gw_rules.specs.Scene.{Scene}
use Rattle.gw_rules.specs.Stage.{busy}
use Rattle.gw_site.specs.Sorts.{IsQuiet}
use Rattle.gw_rules.specs.View.{View, Move, Begin, Read, Make, begin, after, after_turn, view_from, at_first}

pub view_from-append : (v : View) (xs ys : List Move) → view_from v (xs ++ ys) ≡ view_from (view_from v xs) ys
view_from-append v [] ys = refl
view_from-append v (x ∷ xs) ys = view_from-append (after v x) xs ys

pub course-append : (v : View) (xs ys : List Move) → IsCourse v xs → IsCourse (view_from v xs) ys → IsCourse v (xs ++ ys)
course-append v [] ys h k = k
course-append v (x ∷ xs) ys h k = (h.0, course-append (after v x) xs ys h.1 k)

pub course-prefix : (v : View) (xs ys : List Move) → IsCourse v (xs ++ ys) → IsCourse v xs
course-prefix v [] ys h = tt
course-prefix v (x ∷ xs) ys h = (h.0, course-prefix (after v x) xs ys h.1)

pub turns_of-append : (xs ys : List Move) → turns_of (xs ++ ys) ≡ turns_of xs ++ turns_of ys
turns_of-append [] ys = refl
turns_of-append (Begin ∷ xs) ys = turns_of-append xs ys
turns_of-append (Read as_read ∷ xs) ys = turns_of-append xs ys
turns_of-append (Make turn ∷ xs) ys = ap (λ l. turn ∷ l) (turns_of-append xs ys)

-- the course that makes these turns alone
abbrev pub makes : List Turn → List Move
makes turns = map Make turns

pub turns_of-makes : (turns : List Turn) → turns_of (makes turns) ≡ turns
turns_of-makes [] = refl
turns_of-makes (turn ∷ turns) = ap (λ l. turn ∷ l) (turns_of-makes turns)

pub makes-append : (xs ys : List Turn) → makes (xs ++ ys) ≡ makes xs ++ makes ys
makes-append [] ys = refl
makes-append (x ∷ xs) ys = ap (λ l. Make x ∷ l) (makes-append xs ys)

pub quiet-append : (xs ys : List Turn) → IsQuiet xs → IsQuiet ys → IsQuiet (xs ++ ys)
quiet-append [] ys h k = k
quiet-append (x ∷ xs) ys h k = (h.0, quiet-append xs ys h.1 k)

pub quiet-prefix : (xs ys : List Turn) → IsQuiet (xs ++ ys) → IsQuiet xs
quiet-prefix [] ys h = tt
quiet-prefix (x ∷ xs) ys h = (h.0, quiet-prefix xs ys h.1)

-- a lawful log goes on by more allowed moves
pub stands-more : (log : List Turn) (v : View) (moves : List Move) → Stands log v → IsCourse v moves → Stands (log ++ turns_of moves) (view_from v moves)
stands-more log v moves s h = record {
  course = s.course ++ moves;
  log_is = turns_of-append s.course moves ∙ ap (λ l. l ++ turns_of moves) s.log_is;
  lawful = course-append at_first s.course moves s.lawful (rw s.view_is h);
  view_is = view_from-append at_first s.course moves ∙ ap (λ w. view_from w moves) s.view_is;
}

-- an item that begins leaves the outside as it is
pub begin-outside : (scene : Scene) (items : List RoundItem) → (begin scene items).scene.outside ≡ scene.outside
begin-outside scene [] = refl
begin-outside scene (item ∷ items) = refl

-- and the poll has brought nothing more
pub begin-stage : (scene : Scene) (items : List RoundItem) → (begin scene items).scene.stage ≡ busy scene.stage
begin-stage scene [] = refl
begin-stage scene (item ∷ items) = refl

-- the outside of the view moves with each turn
pub after-outside : (v : View) (turn : Turn) → (after_turn v turn).scene.outside ≡ outside_after v.scene.outside turn
after-outside v (Start setup) = refl
after-outside v OpenFailed = refl
after-outside v (Polled now) = refl
after-outside v (Opened till) = refl
after-outside v (HeardTill till bytes) = refl
after-outside v (Closed till) = refl
after-outside v (HeardPt pt bytes) = refl
after-outside v (Lost pt) = refl
after-outside v Stopped = refl
after-outside v (Linked pt) = refl
after-outside v (LinkFailed pt) = refl
after-outside v (SentTill till bytes true) = refl
after-outside v (SentTill till bytes false) = refl
after-outside v (SentPt pt bytes true) = refl
after-outside v (SentPt pt bytes false) = refl
after-outside v (CutTill till) = refl
after-outside v (CutPt pt) = refl
after-outside v (Wrote offset bytes) = refl
after-outside v Synced = refl
after-outside v DiskFailed = refl
after-outside v (Crash file) = refl

pub outside_from-moves : (v : View) (moves : List Move) → (view_from v moves).scene.outside ≡ outside_from v.scene.outside (turns_of moves)
outside_from-moves v [] = refl
outside_from-moves v (Begin ∷ moves) = outside_from-moves (after v Begin) moves ∙ ap (λ o. outside_from o (turns_of moves)) (begin-outside v.scene v.items)
outside_from-moves v (Read as_read ∷ moves) = outside_from-moves (after v (Read as_read)) moves
outside_from-moves v (Make turn ∷ moves) = outside_from-moves (after_turn v turn) moves ∙ ap (λ o. outside_from o (turns_of moves)) (after-outside v turn)

-- the outside of a log is that of its view
pub stands-outside : (log : List Turn) (v : View) → Stands log v → v.scene.outside ≡ outside_of log
stands-outside log v s = ap (λ (w : View). w.scene.outside) (sym s.view_is) ∙ outside_from-moves at_first s.course ∙ ap outside_of s.log_is
