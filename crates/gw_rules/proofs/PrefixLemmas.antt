-- Prefixes of lawful logs, and what may follow one.
use Rattle.std.proofs.Common.{◌≡◌, List, [], ◌∷◌, ◌++◌, refl, sym, ◌∙◌, ap, subst}
use Rattle.gw_site.specs.Image.{Image}
use Rattle.gw_site.specs.declared.turn.Turn.{Turn}
use Rattle.gw_site.specs.declared.turn.Turn.TheVariants.{Start, Crash}
use Rattle.gw_rules.specs.Laws.{RestartIsLawful, PrefixIsLawful}
use Rattle.gw_rules.specs.Lawful.{IsCourse, turns_of, IsLawful}
use Rattle.gw_rules.specs.View.{View, Move, Begin, Read, Make, after, view_from, at_first}
use Rattle.gw_rules.proofs.CourseLemmas.{stands-more, stands-outside}

-- a course along these turns
pub record Along (v : View) (turns : List Turn) : Type 0 where
  pub moves : List Move
  pub turns_are : turns_of moves ≡ turns
  pub lawful : IsCourse v moves

-- the course up to the end of a prefix
along-prefix : (v : View) (moves : List Move) (prefix rest : List Turn) → turns_of moves ≡ prefix ++ rest → IsCourse v moves → Along v prefix
along-prefix v moves [] rest e h = record { moves = []; turns_are = refl; lawful = tt }
along-prefix v [] (turn ∷ prefix) rest e h = absurd (let n : [] ≡ turn ∷ (prefix ++ rest) = e in cc)
along-prefix v (Begin ∷ moves) (turn ∷ prefix) rest e h =
    let x = along-prefix (after v Begin) moves (turn ∷ prefix) rest e h.1 in
    record { moves = Begin ∷ x.moves; turns_are = x.turns_are; lawful = (h.0, x.lawful) }
along-prefix v (Read as_read ∷ moves) (turn ∷ prefix) rest e h =
    let x = along-prefix (after v (Read as_read)) moves (turn ∷ prefix) rest e h.1 in
    record { moves = Read as_read ∷ x.moves; turns_are = x.turns_are; lawful = (h.0, x.lawful) }
along-prefix v (Make first ∷ moves) (turn ∷ prefix) rest e h =
    let heads : first ≡ turn = (let n : first ∷ turns_of moves ≡ turn ∷ (prefix ++ rest) = e in cc) in
    let tails : turns_of moves ≡ prefix ++ rest = (let n : first ∷ turns_of moves ≡ turn ∷ (prefix ++ rest) = e in cc) in
    let x = along-prefix (after v (Make first)) moves prefix rest tails h.1 in
    record { moves = Make first ∷ x.moves; turns_are = ap (λ t. t ∷ turns_of x.moves) heads ∙ ap (λ l. turn ∷ l) x.turns_are; lawful = (h.0, x.lawful) }

-- the course of a lawful log
pub along : (log : List Turn) → IsLawful log → Along at_first log
along log (v, s) = record { moves = s.course; turns_are = s.log_is; lawful = s.lawful }

-- a log along which there is a course is lawful
pub lawful-along : (log : List Turn) (moves : List Move) → turns_of moves ≡ log → IsCourse at_first moves → IsLawful log
lawful-along log moves e h = (view_from at_first moves, record { course = moves; log_is = e; lawful = h; view_is = refl })

pub prefix-lawful : PrefixIsLawful
prefix-lawful prefix log f (v, s) =
    let x = along-prefix at_first s.course prefix f.0 (s.log_is ∙ f.1) s.lawful in
    lawful-along prefix x.moves x.turns_are x.lawful

pub restart-lawful : RestartIsLawful
restart-lawful log file setup (v, s) image bytes formed = (
  view_from v (Make (Crash file) ∷ Make (Start setup) ∷ []),
  stands-more log v (Make (Crash file) ∷ Make (Start setup) ∷ []) s ((subst (λ o. Image o file) (sym (stands-outside log v s)) image, bytes), ((refl, formed), tt)),
)
