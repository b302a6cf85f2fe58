-- A course along which an honest book doesn't agree, and what refutes agreement.
use Rattle.std.proofs.Common.{◌≡◌, Bool, true, false, List, ◌∷◌, refl, sym, subst, ◌∙◌, arith}
use Rattle.std.specs.Prelude.{All}
use Rattle.std.specs.List.{list_all}
use Rattle.json_text.specs.Tree.{Tree}
use Rattle.gw_rules.specs.View.{Move}
use Rattle.gw_books.specs.Agrees.{EachSaid, Agrees}
use Rattle.gw_books.specs.Books.{BookedEntry, Honest}
use Rattle.gw_books.specs.BrokenLaws.{BreaksAgreement, NotLawful}
use Rattle.gw_books.specs.Headline.{HonestAgrees}
use Rattle.gw_books.specs.Past.{SentReply, Past, past_of}
use Rattle.gw_books.specs.Said.{all_said, IsFramed}
use Rattle.gw_books.proofs.ExampleLemmas.{Agreement}

pub no-false : false ≡ true → ⊥
no-false e = cc

-- what computes to false isn't true
pub not-true : (test : Bool) → test ≡ false → test ≡ true → ⊥
not-true test f e = no-false (sym f ∙ e)

-- along a course with this past, an honest book that doesn't agree breaks it
pub breaks-by : (course : List Move) (past : Past) (book : List BookedEntry) → past_of course ≡ past → Honest past book → ¬ Agrees past book → BreaksAgreement course book
breaks-by course past book e honest disagrees = record { honest = subst (λ (one : Past). Honest one book) (sym e) honest; disagrees = λ agrees. disagrees (subst (λ (one : Past). Agrees one book) e agrees) }

-- what an honest book breaks is the lean course of no log
pub not-lawful : HonestAgrees → NotLawful
not-lawful headline log course book lean breaks = breaks.disagrees (headline log (past_of course) book (record { moves = course; lean = lean; past_is = refl }) breaks.honest)

-- what the last reply says doesn't agree
pub last-refused : (agrees : Agreement) (past : Past) (book : List BookedEntry) (sent : SentReply) (rest : List SentReply) (message : Tree) → past.replies ≡ sent ∷ rest → IsFramed sent.bytes message
    → list_all (agrees past book sent) (all_said message) ≡ false → EachSaid agrees past book → ⊥
last-refused agrees past book sent rest message e framed f each =
    not-true (list_all (agrees past book sent) (all_said message)) f
    ((subst (All (λ (one : SentReply). (m : Tree) → IsFramed one.bytes m → list_all (agrees past book one) (all_said m) ≡ true)) e each) 0 sent (omega arith) message framed)
