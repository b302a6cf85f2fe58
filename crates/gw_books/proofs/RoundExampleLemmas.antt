-- The premises of the laws of rounds hold along the courses of the examples.
use Rattle.std.proofs.Common.{◌≡◌, List, [], ◌∷◌, ◌++◌, refl, sym, subst, arith}
use Rattle.std.specs.Prelude.{pos, Some}
use Rattle.gw_site.specs.Sorts.{AreOfRound}
use Rattle.gw_site.specs.declared.turn.Turn.TheVariants.{Polled}
use Rattle.zvt_apdu.specs.DecodeStream.{decode_apdus, decode_apdus_within}
use Rattle.zvt_bmp.specs.Decode.{decode_field_value, decode_status_field, decode_status_within, decode_status}
use Rattle.zvt_msg.specs.Message.{Abort, Completion}
use Rattle.zvt_msg.specs.MessageDecode.{decode_pt_message}
use Rattle.gw_ledger.specs.History.{history}
use Rattle.gw_rules.specs.Lawful.{MayPoll, IsCourse, turns_of}
use Rattle.gw_rules.specs.View.{View, Move, Make, after, view_from, at_first}
use Rattle.gw_rules.proofs.CourseLemmas.{course-append, course-prefix, view_from-append}
use Rattle.gw_books.specs.Example.{payment_text, opened_moves, asked_moves, asked_course, heard_moves, heard_course, beginning_moves, completing_moves, completed_course, replying_moves, aborting_moves, abort_heard_course, refusing_moves, PaidRoundIsAsked, PaidRoundIsSaid, RefusedRoundIsSaid}
use Rattle.gw_books.specs.RoundLaws.{EndsRound}
use Rattle.gw_books.proofs.CourseLemmas.{asked-lawful, asking-lawful, declining-lawful, paying-lawful}
use Rattle.gw_books.proofs.PaymentTextLemmas.{payment-reads}

-- ---- parts of courses

pub course-rest : (v : View) (xs ys : List Move) → IsCourse v (xs ++ ys) → IsCourse (view_from v xs) ys
course-rest v [] ys c = c
course-rest v (move ∷ xs) ys c = course-rest (after v move) xs ys c.1

-- a lawful course goes on with these moves, and then may come a poll
pub ends-round : (course moves : List Move) → IsCourse at_first course → IsCourse (view_from at_first course) moves → AreOfRound (turns_of moves) → MayPoll (view_from (view_from at_first course) moves) → EndsRound (turns_of course) (view_from at_first course) moves
ends-round course moves before lawful round may = record {
  before = record { course = course; log_is = refl; lawful = before; view_is = refl };
  lawful = lawful;
  round = round;
  may_poll = may;
}

-- the last move of a course is the next poll
abbrev polled_last : List Move
polled_last = Make (Polled (pos 6)) ∷ []

-- after the payment was asked a course goes on with these moves, then with these of a round, and then with a poll
later-round : (moves more : List Move) → IsCourse (view_from at_first asked_course) (moves ++ (more ++ polled_last)) → AreOfRound (turns_of more) → EndsRound (turns_of (asked_course ++ moves)) (view_from at_first (asked_course ++ moves)) more
later-round moves more lawful round =
    let here : View = view_from (view_from at_first asked_course) moves in
    let rest : IsCourse here (more ++ polled_last) = course-rest (view_from at_first asked_course) moves (more ++ polled_last) lawful in
    let same : here ≡ view_from at_first (asked_course ++ moves) = sym (view_from-append at_first asked_course moves) in
    ends-round (asked_course ++ moves) more (course-append at_first asked_course moves asked-lawful (course-prefix (view_from at_first asked_course) moves (more ++ polled_last) lawful))
    (subst (λ w. IsCourse w more) same (course-prefix here more polled_last rest)) round (subst (λ w. MayPoll (view_from w more)) same (course-rest here more polled_last rest).0)

-- ---- the examples

asked-round : EndsRound (turns_of heard_course) (view_from at_first heard_course) beginning_moves
asked-round =
    ends-round heard_course beginning_moves (course-append at_first opened_moves heard_moves (course-prefix at_first opened_moves asked_moves asked-lawful) (asking-lawful.0, (asking-lawful.1.0, tt)))
    (subst (λ w. IsCourse w beginning_moves) (sym (view_from-append at_first opened_moves heard_moves)) asking-lawful.1.1) (refl, (refl, (refl, (refl, (refl, tt)))))
    (subst MayPoll (view_from-append at_first heard_course beginning_moves) paying-lawful.0)

said-round : EndsRound (turns_of completed_course) (view_from at_first completed_course) replying_moves
said-round = later-round completing_moves replying_moves paying-lawful (refl, (refl, (refl, (refl, (refl, tt)))))

refused-round : EndsRound (turns_of abort_heard_course) (view_from at_first abort_heard_course) refusing_moves
refused-round = later-round aborting_moves refusing_moves declining-lawful (refl, (refl, (refl, (refl, (refl, tt)))))

pub paid-round-is-asked : PaidRoundIsAsked
unfolding decode_apdus decode_apdus_within decode_pt_message history payment_text
paid-round-is-asked = record {
  ends = asked-round;
  next = record { setup_is = refl; stage = refl; calls = refl; rest = _; items = refl };
  there = refl;
  reads = payment-reads;
  named = _;
  named_is = refl;
  ready = refl;
  begins = refl;
}

pub paid-round-is-said : PaidRoundIsSaid
unfolding decode_apdus decode_apdus_within decode_pt_message decode_status decode_status_within decode_status_field decode_field_value history payment_text
paid-round-is-said = record {
  ends = said-round;
  next = record { setup_is = refl; stage = refl; calls = refl; rest = _; items = refl };
  terminal = _;
  means = record { found = refl; standing_is = refl; message = Completion; decoded = refl; means = refl };
  above = omega arith;
}

pub refused-round-is-said : RefusedRoundIsSaid
unfolding decode_apdus decode_apdus_within decode_pt_message history payment_text
refused-round-is-said = record {
  ends = refused-round;
  next = record { setup_is = refl; stage = refl; calls = refl; rest = _; items = refl };
  terminal = _;
  means = record { found = refl; standing_is = refl; message = Abort (Some 0x6C); decoded = refl; means = refl };
}
