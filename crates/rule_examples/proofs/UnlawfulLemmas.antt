-- The example logs that aren't lawful.
use Rattle.std.proofs.Common.{◌≡◌, ℕ, ◌≤◌, Bool, true, false, List, [], ◌∷◌, ◌++◌, take, refl, sym, ◌∙◌, ap, subst, arith, inl, inr}
use Rattle.std.proofs.lemmas.Bool.{and_parts}
use Rattle.std.specs.Prelude.{ℤ, pos, ◌&&◌, ◌+◌, length, Some, None}
use Rattle.gw_site.specs.Image.{Image}
use Rattle.gw_site.specs.Outside.{outside_of}
use Rattle.gw_site.specs.declared.turn.Turn.{Turn}
use Rattle.gw_site.specs.declared.turn.Turn.TheVariants.{Polled, HeardTill, SentTill, Synced, DiskFailed, Crash}
use Rattle.sale_frame.specs.Grammar.{frame}
use Rattle.jrn_log.specs.JournalTurns.{first_gate_write}
use Rattle.gw_ledger.specs.History.{history}
use Rattle.gw_owes.specs.Calls.{OwedCall, SendTill, WriteFirstGate, Sync, CutTill as OwedCutTill}
use Rattle.gw_owes.specs.Items.{RoundItem}
use Rattle.gw_owes.specs.ReadAs.{ReadAs, IsReadAs}
use Rattle.gw_owes.proofs.ReadLemmas.{reads-one}
use Rattle.gw_rules.specs.Example.{example_setup, status_request, status_reply_bytes, status_asked, not_found, asked_log, opening_view, first_file, began, began_moves}
use Rattle.rule_examples.specs.Example.{opened_log, UnaskedReply, PollBeforeReply, PollBeforeCut, PollWhileCrowded, CrashLeavesNoOther, NothingToLookAt, NothingToLookAtLater, PollEndsLooking, GateEndsLooking, gated_view}
use Rattle.gw_rules.specs.Lawful.{first_call, may_begin, first_message, AllowedTurn, IsCourse, turns_of, IsLawful}
use Rattle.gw_rules.specs.Stage.{is_looking}
use Rattle.gw_rules.specs.View.{View, Move, Begin, Read, Make, after, after_turn, view_from, at_first}
use Rattle.gw_rules.proofs.CourseLemmas.{makes, stands-outside}
use Rattle.gw_rules.proofs.ExampleLemmas.{began-course, heard_view, replying_view}
use Rattle.rule_examples.proofs.ExampleLemmas.{asked-lawful, full_log, full_view, full-lawful, failing-lawful}
use Rattle.gw_rules.proofs.PrefixLemmas.{Along, along, lawful-along, prefix-lawful}
use Rattle.gw_rules.proofs.StageLemmas.{no-true, no-call}
use Rattle.gw_rules.proofs.TextLemmas.{request-read, setup-formed}
use Rattle.gw_rules.proofs.UnlawfulLemmas.{split-make, take-owed, begin-next}

-- ---- which move comes next

-- where no item waits, the next turn is made
pub take-next : (v : View) (turn : Turn) (turns : List Turn) → v.items ≡ [] → Along v (turn ∷ turns) → AllowedTurn v turn × Along (after_turn v turn) turns
take-next v turn turns none x = by_moves x.moves x.turns_are x.lawful
  where
    by_moves : (moves : List Move) → turns_of moves ≡ turn ∷ turns → IsCourse v moves → AllowedTurn v turn × Along (after_turn v turn) turns
    by_moves [] e h = absurd (let n : [] ≡ turn ∷ turns = e in cc)
    by_moves (Begin ∷ moves) e h = no-true (sym (ap (may_begin v.scene) none) ∙ h.0.first)
    by_moves (Read as_read ∷ moves) e h = absurd (let n : None ≡ Some h.0.bytes = sym (ap first_message none) ∙ h.0.message in cc)
    by_moves (Make first ∷ moves) e h = split-make v first turn moves turns e h.0 h.1

-- where a message waits that is read so and the next turn may not come, it is read so
read-next : (v : View) (bytes : List ℕ) (as_read : ReadAs) (turn : Turn) (turns : List Turn) → may_begin v.scene v.items ≡ false → first_message v.items ≡ Some bytes → IsReadAs bytes as_read → (AllowedTurn v turn → ⊥) → Along v (turn ∷ turns) → Along (after v (Read as_read)) (turn ∷ turns)
read-next v bytes as_read turn turns waits message reads refused x = by_moves x.moves x.turns_are x.lawful
  where
    by_moves : (moves : List Move) → turns_of moves ≡ turn ∷ turns → IsCourse v moves → Along (after v (Read as_read)) (turn ∷ turns)
    by_moves [] e h = absurd (let n : [] ≡ turn ∷ turns = e in cc)
    by_moves (Begin ∷ moves) e h = no-true (sym waits ∙ h.0.first)
    by_moves (Read other ∷ moves) e h =
        let same_bytes : h.0.bytes ≡ bytes = (let n : Some h.0.bytes ≡ Some bytes = sym h.0.message ∙ message in cc) in
        let same : other ≡ as_read = reads-one bytes other as_read (subst (λ b. IsReadAs b other) same_bytes h.0.reads) reads in
        record { moves = moves; turns_are = e; lawful = subst (λ r. IsCourse (after v (Read r)) moves) same h.1 }
    by_moves (Make first ∷ moves) e h = absurd (refused (split-make v first turn moves turns e h.0 h.1).0)

-- no item waits before each of these turns
abbrev no_elements : List RoundItem → Bool
no_elements [] = true
no_elements (item ∷ items) = false

abbrev waits_for_none : View → List Turn → Bool
waits_for_none v [] = true
waits_for_none v (turn ∷ turns) = no_elements v.items && waits_for_none (after_turn v turn) turns

empty-items : (items : List RoundItem) → no_elements items ≡ true → items ≡ []
empty-items [] e = refl
empty-items (item ∷ items) e = no-true e

take-all : (v : View) (turns rest : List Turn) → waits_for_none v turns ≡ true → Along v (turns ++ rest) → Along (view_from v (makes turns)) rest
take-all v [] rest e x = x
take-all v (turn ∷ turns) rest e x =
    let p = and_parts (no_elements v.items) (waits_for_none (after_turn v turn) turns) e in
    take-all (after_turn v turn) turns rest p.1 (take-next v turn (turns ++ rest) (empty-items v.items p.0) x).1

-- ---- polls and replies

-- no reply is the next call where none is owed
no-send : (v : View) (till : ℕ) (bytes : List ℕ) (sent : Bool) → v.calls ≡ [] → AllowedTurn v (SentTill till bytes sent) → ⊥
no-send v till bytes true none ok = no-call v.calls (SendTill till ok.0) none ok.1
no-send v till bytes false none ok = no-call v.calls (SendTill till ok.0) none ok.1

-- no poll where something is owed
pub no-poll-call : (v : View) (now : ℤ) (call : OwedCall) → first_call v.calls ≡ Some call → AllowedTurn v (Polled now) → ⊥
no-poll-call v now call next ok = no-call v.calls call ok.calls next

no-poll-message : (v : View) (now : ℤ) (bytes : List ℕ) → first_message v.items ≡ Some bytes → AllowedTurn v (Polled now) → ⊥
no-poll-message v now bytes message ok = let n : None ≡ Some bytes = sym (ap first_message ok.items) ∙ message in cc

pub no-poll-item : (v : View) (now : ℤ) → may_begin v.scene v.items ≡ true → AllowedTurn v (Polled now) → ⊥
no-poll-item v now begins ok = no-true (sym (ap (may_begin v.scene) ok.items) ∙ begins)

opened-along : (turns : List Turn) → IsLawful (opened_log ++ turns) → Along (view_from at_first (makes opened_log)) turns
opened-along turns lawful = take-all at_first opened_log turns refl (along (opened_log ++ turns) lawful)

pub unasked-reply : UnaskedReply
unasked-reply = record {
  before = prefix-lawful opened_log asked_log (Polled (pos 0) ∷ HeardTill 1 (frame status_request) ∷ [], refl) asked-lawful;
  with_turn = λ lawful.
      let v = view_from at_first (makes opened_log) in
      let next = take-next v (SentTill 1 (frame status_reply_bytes) true) [] refl (opened-along (SentTill 1 (frame status_reply_bytes) true ∷ []) lawful) in
      no-send v 1 (frame status_reply_bytes) true refl next.0;
}

asked-along : (turn : Turn) (turns : List Turn) → IsLawful (asked_log ++ turn ∷ turns) → Along (heard_view (frame status_request)) (turn ∷ turns)
asked-along turn turns lawful = take-all at_first asked_log (turn ∷ turns) refl (along (asked_log ++ turn ∷ turns) lawful)

abbrev asked_view : View
asked_view = after (heard_view (frame status_request)) (Read status_asked)

-- the request waits, is read and begins
request-waits : may_begin (heard_view (frame status_request)).scene (heard_view (frame status_request)).items ≡ false
unfolding status_request
request-waits = refl

request-first : first_message (heard_view (frame status_request)).items ≡ Some status_request
unfolding status_request
request-first = refl

request-begins : may_begin asked_view.scene asked_view.items ≡ true
unfolding status_request
request-begins = refl

reply-owed : first_call replying_view.calls ≡ Some (SendTill 1 not_found)
unfolding status_request history
reply-owed = refl

pub poll-before-reply : PollBeforeReply
poll-before-reply = record {
  before = asked-lawful;
  with_turn = λ lawful.
      let turn = Polled (pos 0) in
      let v = heard_view (frame status_request) in
      let read = read-next v status_request status_asked turn [] request-waits request-first request-read (no-poll-message v (pos 0) status_request request-first) (asked-along turn [] lawful) in
      let begun = begin-next asked_view turn [] request-begins (no-poll-item asked_view (pos 0) request-begins) read in
      no-poll-call replying_view (pos 0) (SendTill 1 not_found) reply-owed (take-owed replying_view (SendTill 1 not_found) turn [] reply-owed begun).0;
}

-- ---- a failed send

abbrev failed_turn : Turn
failed_turn = SentTill 1 (take 5 (frame status_reply_bytes)) false

pub poll-before-cut : PollBeforeCut
poll-before-cut = record {
  before = failing-lawful;
  with_turn = λ lawful.
      let turns = Polled (pos 0) ∷ [] in
      let v = heard_view (frame status_request) in
      let read = read-next v status_request status_asked failed_turn turns request-waits request-first request-read (no-send v 1 (take 5 (frame status_reply_bytes)) false refl) (asked-along failed_turn turns lawful) in
      let begun = begin-next asked_view failed_turn turns request-begins (no-send asked_view 1 (take 5 (frame status_reply_bytes)) false refl) read in
      let sent = take-owed replying_view (SendTill 1 not_found) failed_turn turns reply-owed begun in
      let w = after_turn replying_view failed_turn in
      no-poll-call w (pos 0) (OwedCutTill 1) refl (take-owed w (OwedCutTill 1) (Polled (pos 0)) [] refl sent.1).0;
}

-- ---- too many tills

pub poll-while-crowded : PollWhileCrowded
poll-while-crowded = record {
  before = full-lawful;
  with_turn = λ lawful.
      let turn = Polled (pos 0) in
      let waits = take-all at_first full_log (turn ∷ []) refl (along (full_log ++ turn ∷ []) lawful) in
      let begun = begin-next full_view turn [] refl (no-poll-item full_view (pos 0) refl) waits in
      let w = after full_view Begin in
      no-poll-call w (pos 0) (OwedCutTill 65) refl (take-owed w (OwedCutTill 65) turn [] refl begun).0;
}

-- ---- power failures and the disk

-- the course up to the last turn, which is allowed there
record UpToLast (v : View) (log : List Turn) (turn : Turn) : Type 0 where
  moves : List Move
  turns_are : turns_of moves ≡ log
  lawful : IsCourse v moves
  allowed : AllowedTurn (view_from v moves) turn

up-to-last : (v : View) (moves : List Move) (log : List Turn) (turn : Turn) → turns_of moves ≡ log ++ turn ∷ [] → IsCourse v moves → UpToLast v log turn
up-to-last v [] [] turn e h = absurd (let n : [] ≡ turn ∷ [] = e in cc)
up-to-last v [] (other ∷ log) turn e h = absurd (let n : [] ≡ other ∷ (log ++ turn ∷ []) = e in cc)
up-to-last v (Begin ∷ moves) log turn e h =
    let x = up-to-last (after v Begin) moves log turn e h.1 in
    record { moves = Begin ∷ x.moves; turns_are = x.turns_are; lawful = (h.0, x.lawful); allowed = x.allowed }
up-to-last v (Read as_read ∷ moves) log turn e h =
    let x = up-to-last (after v (Read as_read)) moves log turn e h.1 in
    record { moves = Read as_read ∷ x.moves; turns_are = x.turns_are; lawful = (h.0, x.lawful); allowed = x.allowed }
up-to-last v (Make first ∷ moves) [] turn e h =
    let heads : first ≡ turn = (let n : first ∷ turns_of moves ≡ turn ∷ [] = e in cc) in
    record { moves = []; turns_are = refl; lawful = tt; allowed = subst (AllowedTurn v) heads h.0 }
up-to-last v (Make first ∷ moves) (other ∷ log) turn e h =
    let heads : first ≡ other = (let n : first ∷ turns_of moves ≡ other ∷ (log ++ turn ∷ []) = e in cc) in
    let tails : turns_of moves ≡ log ++ turn ∷ [] = (let n : first ∷ turns_of moves ≡ other ∷ (log ++ turn ∷ []) = e in cc) in
    let x = up-to-last (after v (Make first)) moves log turn tails h.1 in
    record { moves = Make first ∷ x.moves; turns_are = ap (λ t. t ∷ turns_of x.moves) heads ∙ ap (λ l. other ∷ l) x.turns_are; lawful = (h.0, x.lawful); allowed = x.allowed }

-- a power failure leaves an image of the log before it
crash-image : (log : List Turn) (file : List ℕ) → IsLawful (log ++ Crash file ∷ []) → Image (outside_of log) file
crash-image log file (v, s) =
    let x = up-to-last at_first s.course log (Crash file) s.log_is s.lawful in
    subst (λ o. Image o file) (stands-outside log (view_from at_first x.moves) (record { course = x.moves; log_is = x.turns_are; lawful = x.lawful; view_is = refl })) x.allowed.0

pub crash-leaves-no-other : CrashLeavesNoOther
crash-leaves-no-other = record { before = asked-lawful; with_turn = λ lawful. not_longer (length first_file) (crash-image asked_log (first_file ++ 165 ∷ []) lawful).no_longer }
  where
    not_longer : (size : ℕ) → size + 1 ≤ size → ⊥
    not_longer size longer = omega arith

-- no call on the disk fails where none is owed and no file is looked at
no-disk : (v : View) → v.calls ≡ [] → is_looking v.scene.stage ≡ false → AllowedTurn v DiskFailed → ⊥
no-disk v none idle (inl next) = no-call v.calls Sync none next
no-disk v none idle (inr looking) = no-true (sym idle ∙ looking)

pub poll-ends-looking : PollEndsLooking
poll-ends-looking = record {
  polled = record { running = refl; calls = refl; items = refl };
  no_look = no-disk (after_turn (after_turn gated_view Synced) (Polled (pos 0))) refl refl;
}

pub gate-ends-looking : GateEndsLooking
gate-ends-looking = record {
  wrote = (WriteFirstGate, refl, refl);
  stage_is = refl;
  no_look = no-disk (after_turn (after_turn (after_turn opening_view Synced) first_gate_write) Synced) refl refl;
}

pub nothing-to-look-at : NothingToLookAt
nothing-to-look-at = record {
  before = lawful-along (began example_setup) (began_moves example_setup) refl (began-course at_first example_setup refl setup-formed refl);
  with_turn = λ lawful.
      let v = view_from at_first (began_moves example_setup) in
      no-disk v refl refl (take-next v DiskFailed [] refl (take-all at_first (began example_setup) (DiskFailed ∷ []) refl (along (began example_setup ++ DiskFailed ∷ []) lawful))).0;
}

pub nothing-to-look-at-later : NothingToLookAtLater
nothing-to-look-at-later = record {
  before = prefix-lawful opened_log asked_log (Polled (pos 0) ∷ HeardTill 1 (frame status_request) ∷ [], refl) asked-lawful;
  with_turn = λ lawful. let v = view_from at_first (makes opened_log) in no-disk v refl refl (take-next v DiskFailed [] refl (opened-along (DiskFailed ∷ []) lawful)).0;
}
