-- A lawful course, split where it makes a turn.
use Rattle.std.proofs.Common.{◌≡◌, List, [], ◌∷◌, ◌++◌, refl, ◌∙◌, ap, subst, true, false}
use Rattle.gw_site.specs.Outside.{outside_of}
use Rattle.gw_site.specs.Sorts.{IsQuiet, is_between}
use Rattle.gw_site.specs.declared.turn.Turn.{Turn}
use Rattle.gw_site.specs.declared.turn.Turn.TheVariants.{Start, OpenFailed, Polled, Opened, HeardTill, Closed, HeardPt, Lost, Stopped, Linked, LinkFailed, SentTill, SentPt, CutTill, CutPt, Wrote, Synced, DiskFailed, Crash}
use Rattle.gw_rules.specs.Lawful.{AllowedTurn, IsCourse, turns_of, IsLawful, Stands}
use Rattle.gw_rules.specs.View.{View, Move, Begin, Read, Make, after, after_turn, view_from, at_first}
use Rattle.gw_rules.proofs.CourseLemmas.{stands-outside}
use Rattle.gw_rules.proofs.LinkedLemmas.{Agrees, first-agrees, course-agrees}
use Rattle.gw_rules.proofs.PrefixLemmas.{Along, along}
use Rattle.gw_rules.proofs.SetupLemmas.{begin-setup}

-- the course up to a turn, which is allowed there, and the course after it
pub record SplitAt (v : View) (before : List Turn) (turn : Turn) (rest : List Turn) : Type 0 where
  pub first : List Move
  pub first_are : turns_of first ≡ before
  pub lawful : IsCourse v first
  pub allowed : AllowedTurn (view_from v first) turn
  pub onward : Along (after_turn (view_from v first) turn) rest

pub split-at : (v : View) (moves : List Move) (before : List Turn) (turn : Turn) (rest : List Turn) → turns_of moves ≡ before ++ turn ∷ rest → IsCourse v moves → SplitAt v before turn rest
split-at v [] [] turn rest e h = absurd (let n : [] ≡ turn ∷ rest = e in cc)
split-at v [] (other ∷ before) turn rest e h = absurd (let n : [] ≡ other ∷ (before ++ turn ∷ rest) = e in cc)
split-at v (Begin ∷ moves) before turn rest e h =
    let x = split-at (after v Begin) moves before turn rest e h.1 in
    record { first = Begin ∷ x.first; first_are = x.first_are; lawful = (h.0, x.lawful); allowed = x.allowed; onward = x.onward }
split-at v (Read as_read ∷ moves) before turn rest e h =
    let x = split-at (after v (Read as_read)) moves before turn rest e h.1 in
    record { first = Read as_read ∷ x.first; first_are = x.first_are; lawful = (h.0, x.lawful); allowed = x.allowed; onward = x.onward }
split-at v (Make made ∷ moves) [] turn rest e h =
    let heads : made ≡ turn = (let n : made ∷ turns_of moves ≡ turn ∷ rest = e in cc) in
    let tails : turns_of moves ≡ rest = (let n : made ∷ turns_of moves ≡ turn ∷ rest = e in cc) in
    record {
      first = [];
      first_are = refl;
      lawful = tt;
      allowed = subst (AllowedTurn v) heads h.0;
      onward = record { moves = moves; turns_are = tails; lawful = subst (λ t. IsCourse (after_turn v t) moves) heads h.1 };
    }
split-at v (Make made ∷ moves) (other ∷ before) turn rest e h =
    let heads : made ≡ other = (let n : made ∷ turns_of moves ≡ other ∷ (before ++ turn ∷ rest) = e in cc) in
    let tails : turns_of moves ≡ before ++ turn ∷ rest = (let n : made ∷ turns_of moves ≡ other ∷ (before ++ turn ∷ rest) = e in cc) in
    let x = split-at (after v (Make made)) moves before turn rest tails h.1 in
    record { first = Make made ∷ x.first; first_are = ap (λ t. t ∷ turns_of x.first) heads ∙ ap (λ l. other ∷ l) x.first_are; lawful = (h.0, x.lawful); allowed = x.allowed; onward = x.onward }

-- that of a lawful log
pub split-log : (before : List Turn) (turn : Turn) (rest : List Turn) → IsLawful (before ++ turn ∷ rest) → SplitAt at_first before turn rest
split-log before turn rest lawful = let x = along (before ++ turn ∷ rest) lawful in split-at at_first x.moves before turn rest x.turns_are x.lawful

-- the view before the turn
pub split-stands : (before : List Turn) (turn : Turn) (rest : List Turn) (x : SplitAt at_first before turn rest) → Stands before (view_from at_first x.first)
split-stands before turn rest x = record { course = x.first; log_is = x.first_are; lawful = x.lawful; view_is = refl }

pub split-agrees : (before : List Turn) (turn : Turn) (rest : List Turn) (x : SplitAt at_first before turn rest) → Agrees (view_from at_first x.first)
split-agrees before turn rest x = course-agrees at_first x.first first-agrees x.lawful

pub split-outside : (before : List Turn) (turn : Turn) (rest : List Turn) (x : SplitAt at_first before turn rest) → (view_from at_first x.first).scene.outside ≡ outside_of before
split-outside before turn rest x = stands-outside before (view_from at_first x.first) (split-stands before turn rest x)

-- ---- the setup of a run

turn-setup : (v : View) (turn : Turn) → is_between turn ≡ false → (after_turn v turn).scene.setup ≡ v.scene.setup
turn-setup v (Start setup) e = absurd (let n : true ≡ false = e in cc)
turn-setup v OpenFailed e = absurd (let n : true ≡ false = e in cc)
turn-setup v (Polled now) e = refl
turn-setup v (Opened till) e = refl
turn-setup v (HeardTill till bytes) e = refl
turn-setup v (Closed till) e = refl
turn-setup v (HeardPt pt bytes) e = refl
turn-setup v (Lost pt) e = refl
turn-setup v Stopped e = refl
turn-setup v (Linked pt) e = refl
turn-setup v (LinkFailed pt) e = refl
turn-setup v (SentTill till bytes true) e = refl
turn-setup v (SentTill till bytes false) e = refl
turn-setup v (SentPt pt bytes true) e = refl
turn-setup v (SentPt pt bytes false) e = refl
turn-setup v (CutTill till) e = refl
turn-setup v (CutPt pt) e = refl
turn-setup v (Wrote offset bytes) e = refl
turn-setup v Synced e = refl
turn-setup v DiskFailed e = refl
turn-setup v (Crash file) e = absurd (let n : true ≡ false = e in cc)

-- it stays while no run begins
pub moves-setup : (v : View) (moves : List Move) → IsQuiet (turns_of moves) → (view_from v moves).scene.setup ≡ v.scene.setup
moves-setup v [] q = refl
moves-setup v (Begin ∷ moves) q = moves-setup (after v Begin) moves q ∙ begin-setup v.scene v.items
moves-setup v (Read as_read ∷ moves) q = moves-setup (after v (Read as_read)) moves q
moves-setup v (Make turn ∷ moves) q = moves-setup (after_turn v turn) moves q.1 ∙ turn-setup v turn q.0
