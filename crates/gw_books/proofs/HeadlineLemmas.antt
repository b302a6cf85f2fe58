-- Along a lawful course an honest book agrees: what holds before the first move holds after each.
use Rattle.std.proofs.Common.{List, [], ◌∷◌, ◌++◌, refl, sym, subst}
use Rattle.gw_site.specs.declared.turn.Turn.{Turn}
use Rattle.gw_site.specs.declared.turn.Turn.TheVariants.{Start, OpenFailed, Polled, Opened, HeardTill, Closed, HeardPt, Lost, Stopped, Linked, LinkFailed, SentTill, SentPt, CutTill, CutPt, Wrote, Synced, DiskFailed, Crash}
use Rattle.gw_owes.specs.Items.{RoundItem, Crowded, Message, Asked, Unframed, Gone, Greet, Handle, Serve, Queue, NextWaiting, Oversized, LinkLost, Late, Overdue, Due}
use Rattle.gw_owes.proofs.RecordLemmas.{LedgerLaws}
use Rattle.gw_ledger.specs.Fold.{AreFolded}
use Rattle.gw_rules.specs.Laws.{IsLeanCourse}
use Rattle.gw_rules.specs.Lawful.{IsCourse, Stands}
use Rattle.gw_rules.specs.View.{View, Move, Begin, Read, Make, after, view_from, at_first}
use Rattle.gw_rules.proofs.CourseLemmas.{stands-more}
use Rattle.gw_rules.proofs.PrefixLemmas.{prefix-lawful}
use Rattle.gw_rules.proofs.RecordOrderLemmas.{Ordered, begin-ordered, each-log-folds, read-ordered, turn-ordered, first-ordered}
use Rattle.gw_rules.proofs.RecordRowLemmas.{OrderLaws}
use Rattle.gw_books.specs.Past.{Past, no_past, past_after, past_from, past_of}
use Rattle.gw_books.specs.Books.{BookedEntry, Honest}
use Rattle.gw_books.specs.Agrees.{Agrees}
use Rattle.gw_books.specs.Headline.{HonestAgrees}
use Rattle.gw_books.specs.PastLaws.{EachLogAgrees}
use Rattle.gw_books.proofs.AgreeLemmas.{holds-agrees}
use Rattle.gw_books.proofs.BeginHoldsLemmas.{begin-holds, first-holds, read-holds}
use Rattle.gw_books.proofs.CallHoldsLemmas.{cut-pt-holds, cut-till-holds, link-failed-holds, linked-holds, sent-pt-holds, sent-till-holds}
use Rattle.gw_books.proofs.HandleLemmas.{handle-holds}
use Rattle.gw_books.proofs.HandleNumberLemmas.{handle-numbers}
use Rattle.gw_books.proofs.HandledLemmas.{IsItemHandled, first-handled, first-stands, stands-begun, stands-read}
use Rattle.gw_books.proofs.Holding.{Holds, TurnHolds}
use Rattle.gw_books.proofs.HonestLemmas.{honest-back}
use Rattle.gw_books.proofs.Numbering.{Numbered, RowHolds, RowNumbers}
use Rattle.gw_books.proofs.PastLawLemmas.{each-has-one-past}
use Rattle.gw_books.proofs.QuietRowLemmas.{asked-holds, crowded-holds, due-holds, gone-holds, greet-holds, late-holds, link-lost-holds, message-holds, oversized-holds, unframed-holds}
use Rattle.gw_books.proofs.RowNumberLemmas.{begin-numbers, row-numbers}
use Rattle.gw_books.proofs.ServeLemmas.{serve-holds}
use Rattle.gw_books.proofs.WaitingRowLemmas.{next-waiting-holds, overdue-holds, queue-holds}
use Rattle.gw_books.proofs.TurnHoldsLemmas.{closed-holds, crash-holds, disk-failed-holds, heard-pt-holds, heard-till-holds, lost-holds, open-failed-holds, opened-holds, polled-holds, start-holds, stopped-holds, synced-holds, wrote-holds}
use Rattle.gw_books.proofs.TurnNumberLemmas.{first-numbered, read-numbers, turn-numbers}

-- ---- each step

-- each item's row
row-holds : LedgerLaws → (item : RoundItem) → IsItemHandled item → RowHolds item
row-holds laws (Crowded till) handled = crowded-holds till
row-holds laws (Message till bytes) handled = message-holds till bytes
row-holds laws (Asked till as_read) handled = asked-holds laws till as_read
row-holds laws (Unframed till) handled = unframed-holds till
row-holds laws (Gone till) handled = gone-holds till
row-holds laws (Greet number apdu) handled = greet-holds number apdu
row-holds laws (Handle number apdu) handled = handle-holds laws number apdu handled
row-holds laws (Serve number till header request) handled = serve-holds laws number till header request
row-holds laws (Queue number till header request) handled = queue-holds number till header request
row-holds laws (NextWaiting number) handled = next-waiting-holds laws number
row-holds laws (Oversized number) handled = oversized-holds number
row-holds laws (LinkLost number) handled = link-lost-holds number
row-holds laws (Late number) handled = late-holds number
row-holds laws (Overdue key) handled = overdue-holds key
row-holds laws (Due number) handled = due-holds number

-- and its trace numbers
numbers-of : LedgerLaws → (item : RoundItem) → RowNumbers item
numbers-of laws (Crowded till) = row-numbers laws (Crowded till) refl
numbers-of laws (Message till bytes) = row-numbers laws (Message till bytes) refl
numbers-of laws (Asked till as_read) = row-numbers laws (Asked till as_read) refl
numbers-of laws (Unframed till) = row-numbers laws (Unframed till) refl
numbers-of laws (Gone till) = row-numbers laws (Gone till) refl
numbers-of laws (Greet number apdu) = row-numbers laws (Greet number apdu) refl
numbers-of laws (Handle number apdu) = handle-numbers laws number apdu
numbers-of laws (Serve number till header request) = row-numbers laws (Serve number till header request) refl
numbers-of laws (Queue number till header request) = row-numbers laws (Queue number till header request) refl
numbers-of laws (NextWaiting number) = row-numbers laws (NextWaiting number) refl
numbers-of laws (Oversized number) = row-numbers laws (Oversized number) refl
numbers-of laws (LinkLost number) = row-numbers laws (LinkLost number) refl
numbers-of laws (Late number) = row-numbers laws (Late number) refl
numbers-of laws (Overdue key) = row-numbers laws (Overdue key) refl
numbers-of laws (Due number) = row-numbers laws (Due number) refl

-- each turn
turn-holds : LedgerLaws → (turn : Turn) → TurnHolds turn
turn-holds laws (Start setup) = start-holds setup
turn-holds laws OpenFailed = open-failed-holds
turn-holds laws (Polled now) = polled-holds now
turn-holds laws (Opened till) = opened-holds till
turn-holds laws (HeardTill till bytes) = heard-till-holds till bytes
turn-holds laws (Closed till) = closed-holds till
turn-holds laws (HeardPt pt bytes) = heard-pt-holds pt bytes
turn-holds laws (Lost pt) = lost-holds pt
turn-holds laws Stopped = stopped-holds
turn-holds laws (Linked pt) = linked-holds pt
turn-holds laws (LinkFailed pt) = link-failed-holds pt
turn-holds laws (SentTill till bytes sent) = sent-till-holds till bytes sent
turn-holds laws (SentPt pt bytes sent) = sent-pt-holds laws pt bytes sent
turn-holds laws (CutTill till) = cut-till-holds till
turn-holds laws (CutPt pt) = cut-pt-holds pt
turn-holds laws (Wrote offset bytes) = wrote-holds offset bytes
turn-holds laws Synced = synced-holds laws
turn-holds laws DiskFailed = disk-failed-holds
turn-holds laws (Crash file) = crash-holds laws file

-- ---- along a course

-- what holds after moves of a lawful course, and of the trace numbers
pub record HoldsNumbered (v : View) (past : Past) (book : List BookedEntry) : Type 0 where
  pub holds : Holds v past book
  pub numbers : Numbered v past book

module _ (orders : OrderLaws) (laws : LedgerLaws) (book : List BookedEntry) where
  -- what holds before moves of a lawful course holds after them
  course-both : (log : List Turn) (v : View) (past : Past) (moves : List Move) → Stands log v → Ordered log v → IsCourse v moves → Holds v past book → Numbered v past book → Honest (past_from v past moves) book
      → HoldsNumbered (view_from v moves) (past_from v past moves) book
  course-both log v past [] s o c holds numbers honest = record { holds = holds; numbers = numbers }
  course-both log v past (Begin ∷ moves) s o c holds numbers honest =
      let now : Honest (past_after v past Begin) book = honest-back (after v Begin) (past_after v past Begin) moves book honest in
      course-both log (after v Begin) (past_after v past Begin) moves (stands-begun log v s c.0) (begin-ordered orders log v o c.0) c.1
      (begin-holds (row-holds laws) log v past book o c.0 (λ item rest is. first-handled log v item rest s is) holds numbers now)
      (begin-numbers (row-holds laws) (numbers-of laws) log v past book o c.0 (λ item rest is. first-handled log v item rest s is) holds numbers now) honest
  course-both log v past (Read as_read ∷ moves) s o c holds numbers honest =
      course-both log (after v (Read as_read)) (past_after v past (Read as_read)) moves (stands-read log v as_read s c.0) (read-ordered log v as_read o c.0) c.1 (read-holds log v past book as_read o c.0 holds)
      (read-numbers log v past book as_read o c.0 holds numbers) honest
  course-both log v past (Make turn ∷ moves) s o c holds numbers honest =
      course-both (log ++ turn ∷ []) (after v (Make turn)) (past_after v past (Make turn)) moves (stands-more log v (Make turn ∷ []) s (c.0, tt)) (turn-ordered orders log v turn o c.0) c.1 (turn-holds laws turn log v past book o c.0 holds)
      (turn-numbers laws turn log v past book o c.0 holds numbers) honest

  -- so it does from the first turn on
  pub holds-along : (moves : List Move) → IsCourse at_first moves → Honest (past_of moves) book → HoldsNumbered (view_from at_first moves) (past_of moves) book
  holds-along moves lawful honest = course-both [] at_first no_past moves first-stands first-ordered lawful (first-holds book) (first-numbered book) honest

-- the records that are kept after a lean course may come each after those before it
pub lean-folds : OrderLaws → (log : List Turn) (moves : List Move) → IsLeanCourse log moves → AreFolded (view_from at_first moves).scene.kept
lean-folds orders log moves lean = (each-log-folds orders log (view_from at_first moves) (record { course = moves; log_is = lean.turns_are; lawful = lean.lawful; view_is = refl })).kept

-- ---- the headline

pub headline : OrderLaws → LedgerLaws → HonestAgrees
headline orders laws log past book has honest = subst (λ (p : Past). Agrees p book) (sym has.past_is) agrees
  where
    own : Honest (past_of has.moves) book
    own = subst (λ (p : Past). Honest p book) has.past_is honest

    agrees : Agrees (past_of has.moves) book
    agrees = holds-agrees laws (view_from at_first has.moves) (past_of has.moves) book (lean-folds orders log has.moves has.lean) (holds-along orders laws book has.moves has.lean.lawful own).holds own

-- so it is of each prefix of a lawful log
pub each-log-agrees : OrderLaws → LedgerLaws → EachLogAgrees
each-log-agrees orders laws log lawful prefix h =
    let one = each-has-one-past prefix (prefix-lawful prefix log h lawful) in
    (one.past, one.has, λ book honest. headline orders laws prefix one.past book one.has honest)
