-- The example logs that are lawful.
use Rattle.std.proofs.Common.{◌≡◌, ℕ, Bool, true, false, List, [], ◌∷◌, ◌++◌, take, drop, refl, sym, ◌∙◌, ap, arith, inl, inr}
use Rattle.std.proofs.lemmas.Bool.{and_parts, leb-true}
use Rattle.std.proofs.lemmas.List.{take-append-drop}
use Rattle.std.specs.Prelude.{pos, nat_le, ◌&&◌}
use Rattle.gw_site.proofs.ImageLemmas.{file_image}
use Rattle.gw_site.specs.declared.turn.Turn.{Turn}
use Rattle.gw_site.specs.declared.turn.Turn.TheVariants.{Start, OpenFailed, Polled, Opened, HeardTill, Closed, HeardPt, Lost, Stopped, Linked, LinkFailed, SentTill, SentPt, CutTill, CutPt, Wrote, Synced, DiskFailed, Crash}
use Rattle.sale_frame.specs.Grammar.{frame}
use Rattle.gw_ledger.specs.History.{history}
use Rattle.gw_owes.specs.Calls.{OwedCall}
use Rattle.gw_owes.specs.Items.{RoundItem}
use Rattle.gw_owes.specs.ReadAs.{Silent}
use Rattle.gw_rules.specs.Example.{example_setup, status_request, status_reply_bytes, status_asked, not_found, heard_log, asked_log, first_file, began, began_moves}
use Rattle.rule_examples.specs.Example.{silent_message, failed_send_log, tills_open, crowded_log, FailedSendIsLawful, SilentIsLawful, BadFrameIsLawful, CrowdedIsLawful, RestartedIsLawful, CrashedIsLawful, LooksMayFail, RefusedIsNotPolled, DiskFailureEnds, NoRunWhereNotOpened}
use Rattle.gw_rules.specs.Lawful.{AllowedTurn, IsCourse, IsChunk, turns_of, IsLawful}
use Rattle.gw_rules.specs.Stage.{Stage, Resting, Opening, Looking, AtPoll, Handling, Over, Broken, is_running}
use Rattle.gw_rules.specs.View.{View, Move, Begin, Read, Make, after_turn, view_from, at_first}
use Rattle.gw_rules.proofs.CourseLemmas.{makes, turns_of-makes, turns_of-append, course-append}
use Rattle.gw_rules.proofs.PrefixLemmas.{lawful-along, prefix-lawful}
use Rattle.gw_rules.proofs.StageLemmas.{no-true}
use Rattle.gw_rules.proofs.TextLemmas.{bytes-tested, request-read, reply-bytes, setup-formed}
use Rattle.rule_examples.proofs.TextLemmas.{silent-read, few-formed}
use Rattle.gw_rules.proofs.ExampleLemmas.{began-course, heard_view, heard-course, request-chunk, reading_moves, replying_view, reading-course}

-- ---- a till has opened and said these bytes

-- and the log goes on
pub lawful-after : (bytes : List ℕ) (moves : List Move) → IsChunk bytes → IsCourse (heard_view bytes) moves → IsLawful (heard_log bytes ++ turns_of moves)
lawful-after bytes moves chunk course =
    lawful-along (heard_log bytes ++ turns_of moves) (makes (heard_log bytes) ++ moves) (turns_of-append (makes (heard_log bytes)) moves ∙ ap (λ l. l ++ turns_of moves) (turns_of-makes (heard_log bytes)))
    (course-append at_first (makes (heard_log bytes)) moves (heard-course bytes chunk) course)

pub asked-lawful : IsLawful asked_log
asked-lawful = lawful-after (frame status_request) [] request-chunk tt

-- ---- the request is read, and begins

abbrev failed_moves : List Move
failed_moves = Make (SentTill 1 (take 5 (frame status_reply_bytes)) false) ∷ Make (CutTill 1) ∷ Make (Polled (pos 0)) ∷ Make Stopped ∷ []

failed-course : IsCourse replying_view failed_moves
unfolding status_request history
failed-course = (
  (not_found, refl, (drop 5 (frame status_reply_bytes), sym reply-bytes ∙ sym (take-append-drop 5 (frame status_reply_bytes)))),
  (refl, (record { running = refl; calls = refl; items = refl }, (refl, tt))),
)

pub failed-send-lawful : FailedSendIsLawful
failed-send-lawful = lawful-after (frame status_request) (reading_moves ++ failed_moves) request-chunk (course-append (heard_view (frame status_request)) reading_moves failed_moves reading-course failed-course)

-- the log up to that send
pub failing-lawful : IsLawful (asked_log ++ SentTill 1 (take 5 (frame status_reply_bytes)) false ∷ [])
failing-lawful = prefix-lawful (asked_log ++ SentTill 1 (take 5 (frame status_reply_bytes)) false ∷ []) failed_send_log (CutTill 1 ∷ Polled (pos 0) ∷ Stopped ∷ [], refl) failed-send-lawful

-- ---- a silent message

silent-chunk : IsChunk (frame silent_message)
unfolding silent_message
silent-chunk = record { count = (omega arith, omega arith); bytes = bytes-tested (frame silent_message) refl }

silent-course : IsCourse (heard_view (frame silent_message)) (Read Silent ∷ Begin ∷ Make (Polled (pos 0)) ∷ Make Stopped ∷ [])
unfolding silent_message
silent-course = (
  record { idle = record { round = refl; calls = refl }; waits = refl; bytes = silent_message; message = refl; reads = silent-read },
  (record { idle = record { round = refl; calls = refl }; first = refl }, (record { running = refl; calls = refl; items = refl }, (refl, tt))),
)

pub silent-lawful : SilentIsLawful
silent-lawful = lawful-after (frame silent_message) (Read Silent ∷ Begin ∷ Make (Polled (pos 0)) ∷ Make Stopped ∷ []) silent-chunk silent-course

-- ---- a bad frame after a good one

abbrev bad_bytes : List ℕ
bad_bytes = frame status_request ++ 0 ∷ 0 ∷ 0 ∷ 0 ∷ []

bad-chunk : IsChunk bad_bytes
unfolding status_request
bad-chunk = record { count = (omega arith, omega arith); bytes = bytes-tested bad_bytes refl }

abbrev bad_moves : List Move
bad_moves = Read status_asked ∷ Begin ∷ Make (SentTill 1 (frame status_reply_bytes) true) ∷ Begin ∷ Make (CutTill 1) ∷ Make (Polled (pos 0)) ∷ Make Stopped ∷ []

bad-course : IsCourse (heard_view bad_bytes) bad_moves
unfolding status_request history
bad-course = (
  record { idle = record { round = refl; calls = refl }; waits = refl; bytes = status_request; message = refl; reads = request-read },
  (
    record { idle = record { round = refl; calls = refl }; first = refl },
    (
      (not_found, refl, reply-bytes),
      (record { idle = record { round = refl; calls = refl }; first = refl }, (refl, (record { running = refl; calls = refl; items = refl }, (refl, tt)))),
    ),
  ),
)

pub bad-frame-lawful : BadFrameIsLawful
bad-frame-lawful = lawful-after bad_bytes bad_moves bad-chunk bad-course

-- ---- runs

restart-course : (bytes : List ℕ) → IsCourse (heard_view bytes) (makes (began example_setup ++ Polled (pos 0) ∷ Opened 1 ∷ Polled (pos 0) ∷ Stopped ∷ []))
restart-course bytes =
    course-append (heard_view bytes) (began_moves example_setup) (makes (Polled (pos 0) ∷ Opened 1 ∷ Polled (pos 0) ∷ Stopped ∷ [])) (began-course (heard_view bytes) example_setup refl setup-formed refl)
    (record { running = refl; calls = refl; items = refl }, ((refl, omega arith), (record { running = refl; calls = refl; items = refl }, (refl, tt))))

pub restarted-lawful : RestartedIsLawful
restarted-lawful = lawful-after (frame status_request) (makes (began example_setup ++ Polled (pos 0) ∷ Opened 1 ∷ Polled (pos 0) ∷ Stopped ∷ [])) request-chunk (restart-course (frame status_request))

abbrev crashed_view : View
crashed_view = after_turn (heard_view (frame status_request)) (Crash first_file)

crash-course : IsCourse (heard_view (frame status_request)) (makes (Crash first_file ∷ (began example_setup ++ Polled (pos 0) ∷ Stopped ∷ [])))
crash-course = (
  (file_image asked_log, bytes-tested first_file refl),
  course-append crashed_view (began_moves example_setup) (makes (Polled (pos 0) ∷ Stopped ∷ [])) (began-course crashed_view example_setup refl setup-formed refl) (record { running = refl; calls = refl; items = refl }, (refl, tt)),
)

pub crashed-lawful : CrashedIsLawful
crashed-lawful = lawful-after (frame status_request) (makes (Crash first_file ∷ (began example_setup ++ Polled (pos 0) ∷ Stopped ∷ []))) request-chunk crash-course

-- ---- the disk

pub looks-may-fail : LooksMayFail
looks-may-fail = (record { synced = refl; at_sync = inl refl; looking = inr refl }, record { synced = refl; at_sync = inl refl; looking = inr refl })

pub refused-not-polled : RefusedIsNotPolled
unfolding history
refused-not-polled = record { lawful = ((refl, few-formed), (refl, tt)); no_poll = λ ok. no-true ok.running }

pub disk-failure-ends : DiskFailureEnds
disk-failure-ends = record { start = λ ok. no-true (sym ok.0); open_failed = λ ok. no-true (sym ok); poll = λ ok. no-true ok.running }

pub no-run-where-not-opened : NoRunWhereNotOpened
no-run-where-not-opened ok = no-true ok.running

-- ---- too many tills: whether polls and openings are allowed is tested by computing

abbrev owes_nothing : List OwedCall → List RoundItem → Bool
owes_nothing [] [] = true
owes_nothing [] (item ∷ items) = false
owes_nothing (call ∷ calls) [] = false
owes_nothing (call ∷ calls) (item ∷ items) = false

abbrev is_at_poll : Stage → Bool
is_at_poll Resting = false
is_at_poll (Opening refused) = false
is_at_poll (Looking refused) = false
is_at_poll AtPoll = true
is_at_poll Handling = false
is_at_poll Over = false
is_at_poll Broken = false

abbrev may_make : View → Turn → Bool
may_make v (Start setup) = false
may_make v OpenFailed = false
may_make v (Polled now) = is_running v.scene.stage && owes_nothing v.calls v.items
may_make v (Opened till) = is_at_poll v.scene.stage && nat_le v.scene.outside.next_till till
may_make v (HeardTill till bytes) = false
may_make v (Closed till) = false
may_make v (HeardPt pt bytes) = false
may_make v (Lost pt) = false
may_make v Stopped = false
may_make v (Linked pt) = false
may_make v (LinkFailed pt) = false
may_make v (SentTill till bytes sent) = false
may_make v (SentPt pt bytes sent) = false
may_make v (CutTill till) = false
may_make v (CutPt pt) = false
may_make v (Wrote offset bytes) = false
may_make v Synced = false
may_make v DiskFailed = false
may_make v (Crash file) = false

abbrev pub may_make_all : View → List Turn → Bool
may_make_all v [] = true
may_make_all v (turn ∷ turns) = may_make v turn && may_make_all (after_turn v turn) turns

at-poll : (stage : Stage) → is_at_poll stage ≡ true → stage ≡ AtPoll
at-poll Resting e = no-true e
at-poll (Opening refused) e = no-true e
at-poll (Looking refused) e = no-true e
at-poll AtPoll e = refl
at-poll Handling e = no-true e
at-poll Over e = no-true e
at-poll Broken e = no-true e

owed-nothing : (calls : List OwedCall) (items : List RoundItem) → owes_nothing calls items ≡ true → (calls ≡ []) × (items ≡ [])
owed-nothing [] [] e = (refl, refl)
owed-nothing [] (item ∷ items) e = no-true e
owed-nothing (call ∷ calls) [] e = no-true e
owed-nothing (call ∷ calls) (item ∷ items) e = no-true e

made-allowed : (v : View) (turn : Turn) → may_make v turn ≡ true → AllowedTurn v turn
made-allowed v (Start setup) e = no-true e
made-allowed v OpenFailed e = no-true e
made-allowed v (Polled now) e =
    let p = and_parts (is_running v.scene.stage) (owes_nothing v.calls v.items) e in
    let q = owed-nothing v.calls v.items p.1 in
    record { running = p.0; calls = q.0; items = q.1 }
made-allowed v (Opened till) e =
    let p = and_parts (is_at_poll v.scene.stage) (nat_le v.scene.outside.next_till till) e in
    (at-poll v.scene.stage p.0, leb-true v.scene.outside.next_till till p.1)
made-allowed v (HeardTill till bytes) e = no-true e
made-allowed v (Closed till) e = no-true e
made-allowed v (HeardPt pt bytes) e = no-true e
made-allowed v (Lost pt) e = no-true e
made-allowed v Stopped e = no-true e
made-allowed v (Linked pt) e = no-true e
made-allowed v (LinkFailed pt) e = no-true e
made-allowed v (SentTill till bytes sent) e = no-true e
made-allowed v (SentPt pt bytes sent) e = no-true e
made-allowed v (CutTill till) e = no-true e
made-allowed v (CutPt pt) e = no-true e
made-allowed v (Wrote offset bytes) e = no-true e
made-allowed v Synced e = no-true e
made-allowed v DiskFailed e = no-true e
made-allowed v (Crash file) e = no-true e

made-course : (v : View) (turns : List Turn) → may_make_all v turns ≡ true → IsCourse v (makes turns)
made-course v [] e = tt
made-course v (turn ∷ turns) e =
    let p = and_parts (may_make v turn) (may_make_all (after_turn v turn) turns) e in
    (made-allowed v turn p.0, made-course (after_turn v turn) turns p.1)

abbrev pub full_log : List Turn
full_log = began example_setup ++ tills_open 1 65

abbrev pub full_view : View
full_view = view_from at_first (makes full_log)

pub full-course : IsCourse at_first (makes full_log)
full-course =
    course-append at_first (began_moves example_setup) (makes (tills_open 1 65)) (began-course at_first example_setup refl setup-formed refl) (made-course (view_from at_first (began_moves example_setup)) (tills_open 1 65) refl)

abbrev crowded_moves : List Move
crowded_moves = Begin ∷ Make (CutTill 65) ∷ Make (Polled (pos 0)) ∷ Make Stopped ∷ []

crowded-course : IsCourse full_view crowded_moves
crowded-course = (record { idle = record { round = refl; calls = refl }; first = refl }, (refl, (record { running = refl; calls = refl; items = refl }, (refl, tt))))

pub crowded-lawful : CrowdedIsLawful
crowded-lawful = lawful-along crowded_log (makes full_log ++ crowded_moves) refl (course-append at_first (makes full_log) crowded_moves full-course crowded-course)

pub full-lawful : IsLawful full_log
full-lawful = lawful-along full_log (makes full_log) (turns_of-makes full_log) full-course
