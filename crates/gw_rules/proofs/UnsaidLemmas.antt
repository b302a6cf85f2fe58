-- A terminal that says no whole APDU stays as it is, and is cut at its deadline.
use Rattle.std.proofs.Common.{◌≡◌, ◌≢◌, ℕ, List, [], ◌∷◌, ◌++◌, refl, sym, ◌∙◌, ap, subst, true, false, inl, inr, eqb-true}
use Rattle.std.proofs.lemmas.Bool.{eq-eqb}
use Rattle.std.specs.Prelude.{Bool, ◌==◌, Option, Some, None}
use Rattle.std.specs.List.{flat_map}
use Rattle.std.specs.Option.{option_map}
use Rattle.gw_base.specs.Moment.{moment_of}
use Rattle.gw_bytes.specs.Bytes.{AreBytes}
use Rattle.gw_site.specs.Outside.{Outside, heard_on}
use Rattle.gw_site.specs.Sorts.{IsQuiet, is_between}
use Rattle.gw_site.specs.declared.turn.Turn.{Turn}
use Rattle.gw_site.specs.declared.turn.Turn.TheVariants.{Start, OpenFailed, Polled, Opened, HeardTill, Closed, HeardPt, Lost, Stopped, Linked, LinkFailed, SentTill, SentPt, CutTill, CutPt, Wrote, Synced, DiskFailed, Crash}
use Rattle.zvt_talk.specs.Talk.{TalkFacts}
use Rattle.gw_owes.specs.Events.{apdu_items, pt_bytes_items, items_due}
use Rattle.gw_owes.specs.TerminalLaws.{HasDialogueOnlyIn}
use Rattle.gw_owes.specs.Steps.{is_ready_standing}
use Rattle.gw_owes.specs.declared.terminal.Standing.{Standing}
use Rattle.gw_owes.specs.declared.terminal.Standing.TheVariants.{Unlinked, Registering, Enquiring, Ready, Serving, Aside}
use Rattle.gw_owes.specs.declared.terminal.Terminal.{Terminal}
use Rattle.gw_owes.proofs.ApduLemmas.{pt-bytes-give}
use Rattle.gw_rules.specs.LinkLaws.{EndsNone, IsOfTerminal}
use Rattle.gw_rules.specs.Lawful.{AllowedTurn, IsCourse, turns_of, Stands}
use Rattle.gw_rules.specs.SilenceLaws.{CompletesNone, CompleteNone, IsNotLostIn, SilentDialogueIsCut}
use Rattle.gw_rules.specs.View.{View, Move, Begin, Read, Make, after, after_turn, view_from, at_first}
use Rattle.gw_rules.proofs.CourseLemmas.{course-append, turns_of-append, begin-outside, after-outside, stands-more, stands-outside, view_from-append}
use Rattle.gw_rules.proofs.HeardLemmas.{HeardBytes, heard-bytes, bytes-append, turn-bytes, begin-bytes, stands-bytes}
use Rattle.gw_rules.proofs.KeptLemmas.{KeptHere, kept-here, without_asker, lasting, change_none, due-change-none, begin-kept, read-kept, turn-kept}
use Rattle.gw_rules.proofs.LinkStateLemmas.{On, standing_state}
use Rattle.gw_rules.proofs.LinkedLemmas.{Agrees, move-agrees, course-agrees, first-agrees}
use Rattle.gw_rules.proofs.OutsideCutLemmas.{same-rest}
use Rattle.gw_rules.proofs.SilenceLemmas.{StaysBy, only-lasting, late-lasting, stays-before-poll}
use Rattle.gw_rules.proofs.StageLemmas.{no-true}

-- ---- bytes that complete nothing

-- they bring no item
none-brought : (v : View) (pt : ℕ) (chunk : List ℕ) → HeardBytes v.scene.outside → AllowedTurn v (HeardPt pt chunk) → CompletesNone v.scene.outside pt chunk → pt_bytes_items pt (heard_on v.scene.outside.links pt) chunk ≡ []
none-brought v pt chunk bytes ok (left, said, incomplete) =
    let heard : List ℕ = heard_on v.scene.outside.links pt in
    let small : AreBytes (heard ++ chunk) = bytes-append heard chunk (heard-bytes v.scene.outside.links pt bytes.links) ok.1.bytes in
    let brings = pt-bytes-give pt heard chunk said.before (said.before ++ []) said.rest left small said.spelled said.all in
    let same : [] ≡ brings.new = same-rest said.before [] brings.new brings.completed in
    brings.items_are ∙ ap (λ apdus. flat_map (apdu_items pt) apdus ++ brings.last) (sym same) ∙ brings.incomplete incomplete

-- the turn brings bytes of the terminal
abbrev brings_bytes : ℕ → Turn → Bool
brings_bytes pt (Start setup) = false
brings_bytes pt OpenFailed = false
brings_bytes pt (Polled now) = false
brings_bytes pt (Opened till) = false
brings_bytes pt (HeardTill till bytes) = false
brings_bytes pt (Closed till) = false
brings_bytes pt (HeardPt other bytes) = other == pt
brings_bytes pt (Lost other) = false
brings_bytes pt Stopped = false
brings_bytes pt (Linked other) = false
brings_bytes pt (LinkFailed other) = false
brings_bytes pt (SentTill till bytes sent) = false
brings_bytes pt (SentPt other bytes sent) = false
brings_bytes pt (CutTill till) = false
brings_bytes pt (CutPt other) = false
brings_bytes pt (Wrote offset bytes) = false
brings_bytes pt Synced = false
brings_bytes pt DiskFailed = false
brings_bytes pt (Crash file) = false

bytes-are : (pt : ℕ) (turn : Turn) → brings_bytes pt turn ≡ true → (chunk : List ℕ) × (turn ≡ HeardPt pt chunk)
bytes-are pt (Start setup) e = no-true e
bytes-are pt OpenFailed e = no-true e
bytes-are pt (Polled now) e = no-true e
bytes-are pt (Opened till) e = no-true e
bytes-are pt (HeardTill till bytes) e = no-true e
bytes-are pt (Closed till) e = no-true e
bytes-are pt (HeardPt other bytes) e = (bytes, ap (λ n. HeardPt n bytes) (eqb-true other pt e))
bytes-are pt (Lost other) e = no-true e
bytes-are pt Stopped e = no-true e
bytes-are pt (Linked other) e = no-true e
bytes-are pt (LinkFailed other) e = no-true e
bytes-are pt (SentTill till bytes sent) e = no-true e
bytes-are pt (SentPt other bytes sent) e = no-true e
bytes-are pt (CutTill till) e = no-true e
bytes-are pt (CutPt other) e = no-true e
bytes-are pt (Wrote offset bytes) e = no-true e
bytes-are pt Synced e = no-true e
bytes-are pt DiskFailed e = no-true e
bytes-are pt (Crash file) e = no-true e

not-of-terminal : (pt : ℕ) (turn : Turn) → brings_bytes pt turn ≡ false → turn ≢ Lost pt → IsOfTerminal pt turn → ⊥
not-of-terminal pt turn e unlost (inl (bytes, is)) = no-true (sym e ∙ ap (brings_bytes pt) is ∙ eq-eqb pt pt refl)
not-of-terminal pt turn e unlost (inr lost) = unlost lost

-- ---- along a course

turn-unsaid : (pt : ℕ) (terminal : Terminal) (v : View) (turn : Turn) → Agrees v → HeardBytes v.scene.outside → KeptHere pt terminal v → AllowedTurn v turn → is_between turn ≡ false → ((chunk : List ℕ) → turn ≡ HeardPt pt chunk → CompletesNone v.scene.outside pt chunk) → turn ≢ Lost pt → turn ≢ CutPt pt
    → KeptHere pt terminal (after_turn v turn)
turn-unsaid pt terminal v turn a bytes k ok quiet none unlost uncut = by_test (brings_bytes pt turn) refl
  where
    with_bytes : (chunk : List ℕ) → AllowedTurn v (HeardPt pt chunk) → CompletesNone v.scene.outside pt chunk → KeptHere pt terminal (after_turn v (HeardPt pt chunk))
    with_bytes chunk ok none = record {
      kept = k.kept;
      linked = k.linked;
      unready = k.unready;
      items = ap (λ l. change_none pt (l ++ items_due v.scene.core)) (none-brought v pt chunk bytes ok none) ∙ due-change-none pt v.scene.core;
      heard_is = refl;
    }

    by_test : (test : Bool) → brings_bytes pt turn ≡ test → KeptHere pt terminal (after_turn v turn)
    by_test true e =
        let is = bytes-are pt turn e in
        subst (λ t. KeptHere pt terminal (after_turn v t)) (sym is.1) (with_bytes is.0 (subst (AllowedTurn v) is.1 ok) (none is.0 is.1))
    by_test false e =
        kept-here pt terminal (heard_on v.scene.outside.links pt) (after_turn v turn) (turn-kept pt terminal (heard_on v.scene.outside.links pt) v turn a k ok quiet (not-of-terminal pt turn e unlost) uncut)

pub moves-unsaid : (pt : ℕ) (terminal : Terminal) (v : View) (moves : List Move) → Agrees v → HeardBytes v.scene.outside → KeptHere pt terminal v → IsCourse v moves → IsQuiet (turns_of moves) → CompleteNone v.scene.outside pt (turns_of moves) → EndsNone pt (turns_of moves)
    → KeptHere pt terminal (view_from v moves)
moves-unsaid pt terminal v [] a bytes k c quiet none lasts = k
moves-unsaid pt terminal v (Begin ∷ moves) a bytes k c quiet none lasts =
    moves-unsaid pt terminal (after v Begin) moves (move-agrees v Begin a c.0) (begin-bytes v bytes) (kept-here pt terminal (heard_on v.scene.outside.links pt) (after v Begin) (begin-kept pt terminal (heard_on v.scene.outside.links pt) v a k c.0)) c.1 quiet
    (subst (λ (o : Outside). CompleteNone o pt (turns_of moves)) (sym (begin-outside v.scene v.items)) none) lasts
moves-unsaid pt terminal v (Read as_read ∷ moves) a bytes k c quiet none lasts =
    moves-unsaid pt terminal (after v (Read as_read)) moves (move-agrees v (Read as_read) a c.0) bytes (read-kept pt terminal (heard_on v.scene.outside.links pt) v as_read k) c.1 quiet none lasts
moves-unsaid pt terminal v (Make turn ∷ moves) a bytes k c quiet none lasts =
    moves-unsaid pt terminal (after_turn v turn) moves (move-agrees v (Make turn) a c.0) (turn-bytes v turn bytes c.0) (turn-unsaid pt terminal v turn a bytes k c.0 quiet.0 none.0 (λ lost. lasts.0 (inl lost)) (λ cut. lasts.0 (inr (inl cut)))) c.1 quiet.1
    (subst (λ (o : Outside). CompleteNone o pt (turns_of moves)) (sym (after-outside v turn)) none.1) lasts.1

-- ---- in a round

-- it completes no APDU in these turns, and its link isn't lost
pub record SaysNone (pt : ℕ) (v : View) (turns : List Turn) : Type 0 where
  pub bytes : HeardBytes v.scene.outside
  pub none : CompleteNone v.scene.outside pt turns
  pub unlost : IsNotLostIn pt turns

pub says-none-stays : (pt : ℕ) (terminal : Terminal) → StaysBy pt terminal (SaysNone pt)
says-none-stays pt terminal = record {
  begins = λ v turns s b.
      record { bytes = begin-bytes v s.bytes; none = subst (λ (o : Outside). CompleteNone o pt turns) (sym (begin-outside v.scene v.items)) s.none; unlost = s.unlost };
  reads = λ v as_read turns s. record { bytes = s.bytes; none = s.none; unlost = s.unlost };
  turns = λ v turn turns s a k ok quiet uncut. (
    turn-unsaid pt terminal v turn a s.bytes k ok quiet s.none.0 s.unlost.0 uncut,
    record { bytes = turn-bytes v turn s.bytes ok; none = subst (λ (o : Outside). CompleteNone o pt turns) (sym (after-outside v turn)) s.none.1; unlost = s.unlost.1 },
  );
}

-- ---- the law

course-rest : (v : View) (xs ys : List Move) → IsCourse v (xs ++ ys) → IsCourse v xs × IsCourse (view_from v xs) ys
course-rest v [] ys h = (tt, h)
course-rest v (x ∷ xs) ys h = let rest = course-rest (after v x) xs ys h.1 in ((h.0, rest.0), rest.1)

-- a terminal with a dialogue is linked, and not ready
talking-on : (standing : Standing) (talk : Option TalkFacts) (facts : TalkFacts) → HasDialogueOnlyIn standing talk → talk ≡ Some facts → (standing_state standing talk ≡ On) × (is_ready_standing standing ≡ false)
talking-on (Unlinked due) talk facts none is = absurd (let n : None ≡ Some facts = sym none ∙ is in cc)
talking-on Registering talk facts has is = (refl, refl)
talking-on Enquiring talk facts has is = (refl, refl)
talking-on (Ready last) talk facts none is = absurd (let n : None ≡ Some facts = sym none ∙ is in cc)
talking-on (Serving service last) talk facts has is = (refl, refl)
talking-on (Aside before reported) talk facts none is = absurd (let n : None ≡ Some facts = sym none ∙ is in cc)

pub silent-dialogue-is-cut : SilentDialogueIsCut
silent-dialogue-is-cut log v first second now pt s =
    let agrees : Agrees v = subst Agrees s.before.view_is (course-agrees at_first s.before.course first-agrees s.before.lawful) in
    let o = sym (stands-outside log v s.before) in
    let terminal : Terminal = lasting s.terminal in
    let only = only-lasting s.terminal s.standing_has in
    let late = late-lasting s.terminal (moment_of now) (s.facts, s.talk_is, s.late) in
    let on = talking-on terminal.standing terminal.talk late.0 only late.1 in
    let kept : KeptHere pt terminal v = record {
      kept = ap (λ found. option_map lasting (option_map without_asker found)) s.found;
      linked = on.0;
      unready = on.1;
      items = ap (change_none pt) s.may_poll.items;
      heard_is = refl;
    } in
    let course = course-rest v first (Make (Polled now) ∷ second) s.lawful in
    let w : View = view_from v first in
    let silent : KeptHere pt terminal w =
    moves-unsaid pt terminal v first agrees (stands-bytes log v s.before) kept course.0 s.silent.quiet (subst (λ (p : Outside). CompleteNone p pt (turns_of first)) o s.silent.completes_none) s.silent.lasts in
    let polled : View = after_turn w (Polled now) in
    let stands : Stands (log ++ turns_of first ++ Polled now ∷ []) polled = stands-more (log ++ turns_of first) w (Make (Polled now) ∷ []) (stands-more log v first s.before course.0) (course.1.0, tt) in
    let says : SaysNone pt polled (turns_of second) =
    record { bytes = stands-bytes (log ++ turns_of first ++ Polled now ∷ []) polled stands; none = subst (λ (p : Outside). CompleteNone p pt (turns_of second)) (sym (stands-outside _ polled stands)) s.completes_none; unlost = s.unlost } in
    let ends = subst (λ u. AllowedTurn u (Polled now)) (view_from-append v first (Make (Polled now) ∷ second)) s.ends in
    let onward = course-append polled second (Make (Polled now) ∷ []) course.1.1 (ends, tt) in
    stays-before-poll pt terminal (SaysNone pt) now now (turns_of second) [] w (says-none-stays pt terminal) (course-agrees v first agrees course.0) silent course.1.0 says
    (record { moves = second ++ Make (Polled now) ∷ []; turns_are = turns_of-append second (Make (Polled now) ∷ []); lawful = onward }) s.round
    only late
