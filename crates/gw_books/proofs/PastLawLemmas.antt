-- A lawful log has one past, and a book that is honest for it is honest for that of each prefix.
use Rattle.std.proofs.Common.{◌≡◌, true, not, List, [], ◌∷◌, ◌++◌, refl, sym, ap, subst, ◌∙◌}
use Rattle.gw_site.specs.declared.turn.Turn.{Turn}
use Rattle.gw_site.specs.Sorts.{is_between}
use Rattle.gw_rules.specs.Laws.{IsLeanCourse, HasOneLeanCourse}
use Rattle.gw_rules.specs.Lawful.{IsCourse, turns_of}
use Rattle.gw_rules.specs.Lean.{goes_on, IsLean}
use Rattle.gw_rules.specs.View.{View, Move, Begin, Read, Make, after, at_first}
use Rattle.gw_rules.proofs.LeanLemmas.{each-has-one-lean-course}
use Rattle.gw_rules.proofs.PrefixLemmas.{lawful-along}
use Rattle.gw_books.specs.Past.{Past, no_past, past_of}
use Rattle.gw_books.specs.Books.{Honest}
use Rattle.gw_books.specs.PastLaws.{HasOnePast, EachHasOnePast, HonestForPrefix}
use Rattle.gw_books.proofs.HonestLemmas.{honest-first}

one-past : (log : List Turn) → HasOneLeanCourse log → HasOnePast log
one-past log course = record {
  past = past_of course.moves;
  has = record { moves = course.moves; lean = course.is_course; past_is = refl };
  one = λ other has. has.past_is ∙ ap past_of (course.one has.moves has.lean);
}

pub each-has-one-past : EachHasOnePast
each-has-one-past log lawful = one-past log (each-has-one-lean-course log lawful)

-- ---- prefixes

-- whether a lean course goes on is said by its first turn
goes-by : (moves : List Move) (turn : Turn) (rest : List Turn) → turns_of moves ≡ turn ∷ rest → goes_on moves ≡ not (is_between turn)
goes-by [] turn rest e = absurd (let n : [] ≡ turn ∷ rest = e in cc)
goes-by (Begin ∷ moves) turn rest e = goes-by moves turn rest e
goes-by (Read as_read ∷ moves) turn rest e = goes-by moves turn rest e
goes-by (Make first ∷ moves) turn rest e =
    let heads : first ≡ turn = (let n : first ∷ turns_of moves ≡ turn ∷ rest = e in cc) in
    ap (λ t. not (is_between t)) heads

-- the first moves of a lean course, up to the end of a prefix of its turns
record First (v : View) (moves : List Move) (prefix : List Turn) : Type 0 where
  first : List Move
  more : List Move
  moves_are : moves ≡ first ++ more
  turns_are : turns_of first ≡ prefix
  lawful : IsCourse v first
  lean : IsLean first

first-moves : (v : View) (moves : List Move) (prefix rest : List Turn) → turns_of moves ≡ prefix ++ rest → IsCourse v moves → IsLean moves → First v moves prefix
first-moves v moves [] rest e h lean = record { first = []; more = moves; moves_are = refl; turns_are = refl; lawful = tt; lean = tt }
first-moves v [] (turn ∷ prefix) rest e h lean = absurd (let n : [] ≡ turn ∷ (prefix ++ rest) = e in cc)
first-moves v (Begin ∷ moves) (turn ∷ prefix) rest e h lean =
    let x = first-moves (after v Begin) moves (turn ∷ prefix) rest e h.1 lean.1 in
    let goes : goes_on x.first ≡ true = goes-by x.first turn prefix x.turns_are ∙ (sym (goes-by moves turn (prefix ++ rest) e) ∙ lean.0) in
    record { first = Begin ∷ x.first; more = x.more; moves_are = ap (λ l. Begin ∷ l) x.moves_are; turns_are = x.turns_are; lawful = (h.0, x.lawful); lean = (goes, x.lean) }
first-moves v (Read as_read ∷ moves) (turn ∷ prefix) rest e h lean =
    let x = first-moves (after v (Read as_read)) moves (turn ∷ prefix) rest e h.1 lean.1 in
    let goes : goes_on x.first ≡ true = goes-by x.first turn prefix x.turns_are ∙ (sym (goes-by moves turn (prefix ++ rest) e) ∙ lean.0) in
    record { first = Read as_read ∷ x.first; more = x.more; moves_are = ap (λ l. Read as_read ∷ l) x.moves_are; turns_are = x.turns_are; lawful = (h.0, x.lawful); lean = (goes, x.lean) }
first-moves v (Make made ∷ moves) (turn ∷ prefix) rest e h lean =
    let heads : made ≡ turn = (let n : made ∷ turns_of moves ≡ turn ∷ (prefix ++ rest) = e in cc) in
    let tails : turns_of moves ≡ prefix ++ rest = (let n : made ∷ turns_of moves ≡ turn ∷ (prefix ++ rest) = e in cc) in
    let x = first-moves (after v (Make made)) moves prefix rest tails h.1 lean in
    record {
      first = Make made ∷ x.first;
      more = x.more;
      moves_are = ap (λ l. Make made ∷ l) x.moves_are;
      turns_are = ap (λ t. t ∷ turns_of x.first) heads ∙ ap (λ l. turn ∷ l) x.turns_are;
      lawful = (h.0, x.lawful);
      lean = x.lean;
    }

-- two lean courses along a log are the same
same-course : (log : List Turn) (one other : List Move) → IsLeanCourse log one → IsLeanCourse log other → one ≡ other
same-course log one other a b =
    let only = each-has-one-lean-course log (lawful-along log one a.turns_are a.lawful) in
    only.one one a ∙ sym (only.one other b)

pub honest-for-prefix : HonestForPrefix
honest-for-prefix prefix log earlier past book begins before has honest =
    let x = first-moves at_first has.moves prefix begins.0 (has.lean.turns_are ∙ begins.1) has.lean.lawful has.lean.lean in
    let same : x.first ≡ before.moves = same-course prefix x.first before.moves (record { turns_are = x.turns_are; lawful = x.lawful; lean = x.lean }) before.lean in
    let own : Honest (past_of (x.first ++ x.more)) book = subst (λ (p : Past). Honest p book) (has.past_is ∙ ap past_of x.moves_are) honest in
    subst (λ (p : Past). Honest p book) (ap past_of same ∙ sym before.past_is) (honest-first at_first no_past x.first x.more book own)
