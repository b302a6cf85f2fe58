-- A script has one log at most: where the power is there, one call alone is due, but that the file may be read once more, which leaves nothing; and where it has failed, what begins before it is there again makes no difference.
use Rattle.std.proofs.Common.{◌≡◌, ℕ, zero, suc, ◌+◌, ◌≤◌, length, List, [], ◌∷◌, ◌++◌, refl, sym, ◌∙◌, ap, subst, inl, inr, true, false, arith, append-nil}
use Rattle.std.specs.Prelude.{◌⊎◌, Bool, Option, Some, None, if◌then◌else◌, map, Ok}
use Rattle.gw_base.specs.declared.setup.Setup.{Setup}
use Rattle.gw_site.specs.Outside.{outside_of}
use Rattle.gw_site.specs.Steps.{ImageKind, SiteCall, ReadCall, SiteStep, Made, PowerBack, TakenStep}
use Rattle.gw_site.specs.declared.turn.Turn.{Turn}
use Rattle.gw_site.specs.declared.turn.Turn.TheVariants.{DiskFailed, Crash}
use Rattle.gw_script.specs.site.Calls.{call_turns, play_from}
use Rattle.gw_script.specs.site.Drill.{drill_begins}
use Rattle.gw_script.specs.site.Hazards.{crash_file}
use Rattle.gw_script.specs.site.Playing as playing
use Rattle.gw_script.specs.site.Playing.{Play, begins, restarted}
use Rattle.gw_script.specs.site.ScriptLine.{Script, setup_of}
use Rattle.gw_script.specs.site.StepTurns.{place_after_step, power_turns, turns_by, with_those_after}
use Rattle.gw_script.proofs.site.QuietLemmas.{on_or_off}
use Rattle.gw_owes.specs.Calls.{site_call}
use Rattle.gw_owes.specs.Items.{RoundItem}
use Rattle.gw_owes.specs.ReadAs.{ReadAs, IsReadAs}
use Rattle.gw_owes.proofs.ReadLemmas.{reads-one}
use Rattle.gw_drill.specs.DrillBooks.{drill_setup}
use Rattle.gw_rules.specs.Acts.{Act, ToBegin, ToRead, ToTake, Look, Unopened, Unmeasured, Measured, Looked, IsDueCall, IsMeasuring, IsOwedCall, IsReading, look_after_step, moves_of}
use Rattle.gw_rules.specs.Lawful.{Begins, IsIdle, IsRead, first_message, may_begin, turns_of}
use Rattle.gw_rules.specs.Scene.{Scene}
use Rattle.gw_rules.specs.Stage.{is_looking}
use Rattle.gw_rules.specs.View.{View, Begin, Read, Make, after, after_turn, at_first, begin, crashed, idle, view_from}
use Rattle.gw_rules.proofs.CourseLemmas.{begin-stage}
use Rattle.gw_rules.proofs.StageLemmas.{looking-not-round, no-call, no-true, round-busy}
use Rattle.gw_run.specs.Drill.{IsDrillLog}
use Rattle.gw_run.specs.Laws.{OneDrillLog, OneLog, LogHasScript}
use Rattle.gw_run.specs.ScriptLog.{IsEnded, IsLogOf}
use Rattle.gw_script.specs.site.Decode.{script_of}
use Rattle.gw_run.proofs.OneLogKeptLemmas.{Kept, kept-after, kept-round, kept-unopened}
use Rattle.gw_run.proofs.OneLogStepLemmas.{EndsAt, Goes, IsCallStep, ends-at, first-call, first-step, goes-begin, goes-on, goes-read, rests-idle, to-read-looks, turns-before}

-- ---- the acts after a step

-- the acts go on, and nothing may come after them
record GoesOn (own : Setup) (v : View) (look : Look) (past : List Turn) (p : Play) (acts : List Act) : Type 0 where
  goes : Goes own v look past p acts
  ends : EndsAt own v look acts

-- so they do after a step with these turns
abbrev After : Setup → View → Look → List Turn → Play → List Act → SiteStep → List Turn → Type 0
After own v look past p acts step turns = GoesOn own (view_from v (map Make turns)) (look_after_step own v look step) (past ++ turns) (place_after_step past p step) acts

after-step : (own : Setup) (v : View) (look : Look) (past : List Turn) (p : Play) (taken : TakenStep) (acts : List Act) → GoesOn own v look past p (ToTake taken ∷ acts) → After own v look past p acts taken.step taken.turns
after-step own v look past p taken acts g = record { goes = goes-on own v look past p taken acts g.goes; ends = g.ends }

after-same : (own : Setup) (v : View) (look : Look) (past : List Turn) (p : Play) (acts : List Act) (step other : SiteStep) (turns made : List Turn) → step ≡ other → turns ≡ made → After own v look past p acts step turns → After own v look past p acts other made
after-same own v look past p acts step other turns made e f x = subst (λ s. After own v look past p acts s made) e (subst (After own v look past p acts step) f x)

-- ---- where the power has failed

-- the power is there again after these acts, with the file that is left, and then they go on
record AfterPower (own : Setup) (v : View) (past : List Turn) (p : Play) (kind : ImageKind) (acts : List Act) : Type 0 where
  later : List Act
  shorter : suc (length later) ≤ length acts
  log_is : turns_of (moves_of acts) ≡ Crash (crash_file kind (outside_of past)) ∷ turns_of (moves_of later)
  goes : GoesOn own (after_turn v (Crash (crash_file kind (outside_of past)))) Unopened (past ++ Crash (crash_file kind (outside_of past)) ∷ []) (restarted p) later

begin-crash : (scene : Scene) (items : List RoundItem) (file : List ℕ) → crashed (begin scene items).scene file ≡ crashed scene file
begin-crash scene [] file = refl
begin-crash scene (item ∷ items) file = refl

power-waits : (past : List Turn) (p : Play) (kind : ImageKind) → p.off ≡ Some kind → turns_by past p (PowerBack ∷ []) ≡ [] → ⊥
power-waits past p kind off e =
    let h : with_those_after (Some (Crash (crash_file kind (outside_of past)) ∷ [])) (λ turns. []) ≡ [] = sym (ap (λ o. with_those_after (power_turns (outside_of past) o) (λ turns. [])) off) ∙ e in
    let k : (Crash (crash_file kind (outside_of past)) ∷ []) ∷ [] ≡ [] = h in
    cc

one-kind : (kind other : ImageKind) → Some kind ≡ Some other → kind ≡ other
one-kind kind other e = cc

to-power : (own : Setup) (acts : List Act) (v : View) (look : Look) (past : List Turn) (p : Play) (kind : ImageKind) → p.off ≡ Some kind → GoesOn own v look past p acts → AfterPower own v past p kind acts
to-power own [] v look past p kind off g = absurd (power-waits past p kind off g.goes.turns)
to-power own (ToBegin ∷ acts) v look past p kind off g =
    let x = to-power own acts (after v Begin) look past p kind off (record { goes = goes-begin own v look past p acts g.goes; ends = g.ends }) in
    let file = crash_file kind (outside_of past) in
    let s = x.shorter in
    record {
      later = x.later;
      shorter = omega (arith, s);
      log_is = x.log_is;
      goes = subst (λ scene. GoesOn own (idle scene) Unopened (past ++ Crash file ∷ []) (restarted p) x.later) (begin-crash v.scene v.items file) x.goes;
    }
to-power own (ToRead as_read ∷ acts) v look past p kind off g =
    let x = to-power own acts (after v (Read as_read)) look past p kind off (record { goes = goes-read own v look past p as_read acts g.goes; ends = g.ends }) in
    let s = x.shorter in
    record { later = x.later; shorter = omega (arith, s); log_is = x.log_is; goes = x.goes }
to-power own (ToTake taken ∷ acts) v look past p kind off g = elim (first-step own v look past p taken acts g.goes) [
  | inl s ↦ on_or_off p kind s.fits.0.power off
  | inr s ↦ (
      let same : s.kind ≡ kind = one-kind s.kind kind (sym s.off ∙ off) in
      let made : taken.turns ≡ Crash (crash_file kind (outside_of past)) ∷ [] = s.turns_are ∙ ap (λ k. Crash (crash_file k (outside_of past)) ∷ []) same in
      record {
        later = acts;
        shorter = omega arith;
        log_is = turns-before taken.turns (moves_of acts) ∙ ap (λ t. t ++ turns_of (moves_of acts)) made;
        goes = after-same own v look past p acts taken.step PowerBack taken.turns (Crash (crash_file kind (outside_of past)) ∷ []) s.step_is made (after-step own v look past p taken acts g);
      })
]

-- ---- where an item may begin

-- an item may begin or be read
record Waits (v : View) : Type 0 where
  idle : IsIdle v
  some : v.items ≡ [] → ⊥

begins-waits : (v : View) → Begins v → Waits v
begins-waits v b = record { idle = b.idle; some = λ e. (let h : false ≡ true = sym (ap (may_begin v.scene) e) ∙ b.first in cc) }

read-waits : (v : View) (as_read : ReadAs) → IsRead v as_read → Waits v
read-waits v as_read r = record { idle = r.idle; some = λ e. (let h : None ≡ Some r.bytes = sym (ap first_message e) ∙ r.message in cc) }

waits-owed : (v : View) (call : SiteCall) → Waits v → IsOwedCall v call → ⊥
waits-owed v call w (inl (owed, next, is)) = no-call v.calls owed w.idle.calls next
waits-owed v call w (inr (may, is)) = w.some may.items

waits-reading : (slots : ℕ) (v : View) (call : SiteCall) → Waits v → IsReading slots v call → ⊥
waits-reading slots v call w r = looking-not-round v.scene.stage (to-read-looks slots v r.to_read) w.idle.round

waits-measuring : (v : View) (call : SiteCall) → Waits v → (looks : Bool) → is_looking v.scene.stage ≡ looks → IsMeasuring looks v call → ⊥
waits-measuring v call w true e due = looking-not-round v.scene.stage e w.idle.round
waits-measuring v call w false e due = waits-owed v call w due

-- no call is due then
waits-due : (own : Setup) (v : View) (look : Look) (p : Play) (call : SiteCall) → Kept own v look p → Waits v → IsDueCall own v look call → ⊥
waits-due own v Unopened p call kept w due = no-true (sym (kept.unopened refl) ∙ w.idle.round)
waits-due own v Unmeasured p call kept w due = waits-measuring v call w (is_looking v.scene.stage) refl due
waits-due own v Measured p call kept w due = waits-reading own.slots v call w due
waits-due own v Looked p call kept w (inl due) = waits-owed v call w due
waits-due own v Looked p call kept w (inr due) = waits-reading own.slots v call w due

begin-kept : (own : Setup) (v : View) (look : Look) (p : Play) → Kept own v look p → IsIdle v → Kept own (after v Begin) look p
begin-kept own v look p kept idle = kept-round own v (after v Begin) look p idle.round (begin-stage v.scene v.items ∙ round-busy v.scene.stage idle.round) kept

read-kept : (own : Setup) (v : View) (look : Look) (p : Play) (as_read : ReadAs) → Kept own v look p → IsIdle v → Kept own (after v (Read as_read)) look p
read-kept own v look p as_read kept idle = kept-round own v (after v (Read as_read)) look p idle.round (round-busy v.scene.stage idle.round) kept

-- a message is read in one way
one-message : (bytes other : List ℕ) → Some bytes ≡ Some other → bytes ≡ other
one-message bytes other e = cc

one-reading : (v : View) (a b : ReadAs) → IsRead v a → IsRead v b → a ≡ b
one-reading v a b x y =
    let same = one-message y.bytes x.bytes (sym y.message ∙ x.message) in
    reads-one x.bytes a b x.reads (subst (λ bytes. IsReadAs bytes b) same y.reads)

-- ---- two calls that are due

-- the file was looked at, and is read once more
record IsExtraRead (own : Setup) (v : View) (look : Look) (call : SiteCall) : Type 0 where
  looked : look ≡ Looked
  reading : IsReading own.slots v call

-- they are the same, or both read the file, or one does and the other is owed
abbrev Pair : Setup → View → Look → SiteCall → SiteCall → Type 0
Pair own v look a b = (a ≡ b) ⊎ ((IsReading own.slots v a × IsReading own.slots v b) ⊎ (IsExtraRead own v look a ⊎ IsExtraRead own v look b))

one-owed : (v : View) (a b : SiteCall) → IsOwedCall v a → IsOwedCall v b → a ≡ b
one-owed v a b (inl (x, next, is)) (inl (y, other, it)) =
    let h : Some x ≡ Some y = sym next ∙ other in
    let same : x ≡ y = cc in
    is ∙ ap site_call same ∙ sym it
one-owed v a b (inl (x, next, is)) (inr (may, it)) = no-call v.calls x may.calls next
one-owed v a b (inr (may, is)) (inl (y, other, it)) = no-call v.calls y may.calls other
one-owed v a b (inr (may, is)) (inr (other, it)) = is ∙ sym it

one-measuring : (v : View) (a b : SiteCall) (looks : Bool) → IsMeasuring looks v a → IsMeasuring looks v b → a ≡ b
one-measuring v a b true x y = x ∙ sym y
one-measuring v a b false x y = one-owed v a b x y

pair : (own : Setup) (v : View) (look : Look) (a b : SiteCall) → IsDueCall own v look a → IsDueCall own v look b → Pair own v look a b
pair own v Unopened a b x y = inl (x ∙ sym y)
pair own v Unmeasured a b x y = inl (one-measuring v a b (is_looking v.scene.stage) x y)
pair own v Measured a b x y = inr (inl (x, y))
pair own v Looked a b (inl x) (inl y) = inl (one-owed v a b x y)
pair own v Looked a b (inl x) (inr y) = inr (inr (inr (record { looked = refl; reading = y })))
pair own v Looked a b (inr x) (inl y) = inr (inr (inl (record { looked = refl; reading = x })))
pair own v Looked a b (inr x) (inr y) = inr (inl (x, y))

-- a read of a file that was looked at leaves all as it is
record Skips (own : Setup) (v : View) (look : Look) (past : List Turn) (p : Play) (taken : TakenStep) (acts : List Act) : Type 0 where
  goes : GoesOn own v look past p acts
  log_is : turns_of (moves_of (ToTake taken ∷ acts)) ≡ turns_of (moves_of acts)

skip-read : (own : Setup) (v : View) (look : Look) (past : List Turn) (p : Play) (taken : TakenStep) (acts : List Act) (s : IsCallStep own v look past p taken.step taken.turns) → Kept own v look p → GoesOn own v look past p (ToTake taken ∷ acts) → IsExtraRead own v look s.call → Skips own v look past p taken acts
skip-read own v look past p taken acts s kept g r =
    let no_failure : p.hazard.fail_read ≡ false = kept.read r.looked s.fits.0.power r.reading.to_read in
    let call_is : s.call ≡ ReadCall r.reading.offset r.reading.size = r.reading.call_is in
    let made : taken.turns ≡ (if p.hazard.fail_read then DiskFailed ∷ [] else []) = s.fits.1 ∙ ap (call_turns (outside_of past) p) call_is in
    let there = after-same own v look past p acts taken.step (Made (ReadCall r.reading.offset r.reading.size)) taken.turns (if p.hazard.fail_read then DiskFailed ∷ [] else []) (s.step_is ∙ ap Made call_is) made (after-step own v look past p taken acts g) in
    let plain : GoesOn own v Looked (past ++ []) p acts =
    subst (λ fails. GoesOn own (view_from v (map Make (if fails then DiskFailed ∷ [] else []))) Looked (past ++ (if fails then DiskFailed ∷ [] else [])) (play_from (outside_of past) playing.Read p (if fails then DiskFailed ∷ [] else [])) acts) no_failure there in
    record {
      goes = subst (λ l. GoesOn own v l past p acts) (sym r.looked) (subst (λ log. GoesOn own v Looked log p acts) (append-nil past) plain);
      log_is = turns-before taken.turns (moves_of acts) ∙ ap (λ t. t ++ turns_of (moves_of acts)) (made ∙ ap (λ fails. if fails then DiskFailed ∷ [] else []) no_failure);
    }

-- after calls that both read the file all is the same
after-reads : (own : Setup) (v : View) (look : Look) (past : List Turn) (p : Play) (acts : List Act) (a b : SiteCall) → IsReading own.slots v a → IsReading own.slots v b →
    (call_turns (outside_of past) p a ≡ call_turns (outside_of past) p b) × (After own v look past p acts (Made b) (call_turns (outside_of past) p b) → After own v look past p acts (Made a) (call_turns (outside_of past) p a))
after-reads own v look past p acts a b x y =
    subst (λ call. (call_turns (outside_of past) p call ≡ call_turns (outside_of past) p b) × (After own v look past p acts (Made b) (call_turns (outside_of past) p b) → After own v look past p acts (Made call) (call_turns (outside_of past) p call))) (sym x.call_is)
    (subst (λ call. (call_turns (outside_of past) p (ReadCall x.offset x.size) ≡ call_turns (outside_of past) p call) × (After own v look past p acts (Made call) (call_turns (outside_of past) p call) → After own v look past p acts (Made (ReadCall x.offset x.size)) (call_turns (outside_of past) p (ReadCall x.offset x.size)))) (sym y.call_is)
    (refl, λ there. there))

-- ---- one log

-- two lists of acts from one place on, with no more acts than this in both, have one log
abbrev Claim : ℕ → Type 0
Claim n = (own : Setup) (v : View) (look : Look) (past : List Turn) (p : Play) (xs ys : List Act) → length xs + length ys ≤ n → Kept own v look p → GoesOn own v look past p xs → GoesOn own v look past p ys → turns_of (moves_of xs) ≡ turns_of (moves_of ys)

-- two steps that make the same call
same-call : (n : ℕ) → Claim n → (own : Setup) (v : View) (look : Look) (past : List Turn) (p : Play) (xs ys : List Act) (call : SiteCall) (made : List Turn) → length xs + length ys ≤ n → Kept own v look p → p.due ≡ [] → p.off ≡ None → IsDueCall own v look call → made ≡ call_turns (outside_of past) p call
    → After own v look past p xs (Made call) (call_turns (outside_of past) p call) → After own v look past p ys (Made call) (call_turns (outside_of past) p call) → made ++ turns_of (moves_of xs) ≡ made ++ turns_of (moves_of ys)
same-call n again own v look past p xs ys call made size kept none on due is x y =
    ap (λ l. made ++ l) (again own _ _ _ _ xs ys size (kept-after own v look (outside_of past) p call kept none on due) x y)

calls-same : (n : ℕ) → Claim n → (own : Setup) (v : View) (look : Look) (past : List Turn) (p : Play) (one : TakenStep) (xs : List Act) (two : TakenStep) (ys : List Act) → suc (length xs) + suc (length ys) ≤ suc n → Kept own v look p → p.off ≡ None
    → GoesOn own v look past p (ToTake one ∷ xs) → GoesOn own v look past p (ToTake two ∷ ys) → turns_of (moves_of (ToTake one ∷ xs)) ≡ turns_of (moves_of (ToTake two ∷ ys))
calls-same n again own v look past p one xs two ys size kept on g h = by_pair (pair own v look s.call t.call s.due t.due)
  where
    s : IsCallStep own v look past p one.step one.turns
    s = first-call own v look past p one xs on g.goes

    t : IsCallStep own v look past p two.step two.turns
    t = first-call own v look past p two ys on h.goes

    after_one : After own v look past p xs (Made s.call) (call_turns (outside_of past) p s.call)
    after_one = after-same own v look past p xs one.step (Made s.call) one.turns (call_turns (outside_of past) p s.call) s.step_is s.fits.1 (after-step own v look past p one xs g)

    after_two : After own v look past p ys (Made t.call) (call_turns (outside_of past) p t.call)
    after_two = after-same own v look past p ys two.step (Made t.call) two.turns (call_turns (outside_of past) p t.call) t.step_is t.fits.1 (after-step own v look past p two ys h)

    joined : one.turns ≡ two.turns → After own v look past p ys (Made s.call) (call_turns (outside_of past) p s.call) → turns_of (moves_of (ToTake one ∷ xs)) ≡ turns_of (moves_of (ToTake two ∷ ys))
    joined same there =
        turns-before one.turns (moves_of xs)
        ∙ same-call n again own v look past p xs ys s.call one.turns (omega (arith, size)) kept s.fits.0.no_event on s.due s.fits.1 after_one there
        ∙ ap (λ made. made ++ turns_of (moves_of ys)) same
        ∙ sym (turns-before two.turns (moves_of ys))

    by_pair : Pair own v look s.call t.call → turns_of (moves_of (ToTake one ∷ xs)) ≡ turns_of (moves_of (ToTake two ∷ ys))
    by_pair (inl e) = joined (s.fits.1 ∙ ap (call_turns (outside_of past) p) e ∙ sym t.fits.1) (subst (λ call. After own v look past p ys (Made call) (call_turns (outside_of past) p call)) (sym e) after_two)
    by_pair (inr (inl (x, y))) =
        let same = after-reads own v look past p ys s.call t.call x y in
        joined (s.fits.1 ∙ same.0 ∙ sym t.fits.1) (same.1 after_two)
    by_pair (inr (inr (inl x))) =
        let skip = skip-read own v look past p one xs s kept g x in
        skip.log_is ∙ again own v look past p xs (ToTake two ∷ ys) (omega (arith, size)) kept skip.goes h
    by_pair (inr (inr (inr y))) =
        let skip = skip-read own v look past p two ys t kept h y in
        again own v look past p (ToTake one ∷ xs) ys (omega (arith, size)) kept g skip.goes ∙ sym skip.log_is

-- while the power is there
on-same : (n : ℕ) → Claim n → (own : Setup) (v : View) (look : Look) (past : List Turn) (p : Play) (xs ys : List Act) → length xs + length ys ≤ suc n → Kept own v look p → p.off ≡ None → GoesOn own v look past p xs → GoesOn own v look past p ys → turns_of (moves_of xs) ≡ turns_of (moves_of ys)
on-same n again own v look past p [] [] size kept on g h = refl
on-same n again own v look past p [] (ToBegin ∷ ys) size kept on g h = absurd (rests-idle own v look g.ends h.goes.lawful.0.idle)
on-same n again own v look past p [] (ToRead b ∷ ys) size kept on g h = absurd (rests-idle own v look g.ends h.goes.lawful.0.idle)
on-same n again own v look past p [] (ToTake two ∷ ys) size kept on g h = let t = first-call own v look past p two ys on h.goes in absurd (g.ends.none t.call t.due)
on-same n again own v look past p (ToBegin ∷ xs) [] size kept on g h = absurd (rests-idle own v look h.ends g.goes.lawful.0.idle)
on-same n again own v look past p (ToRead a ∷ xs) [] size kept on g h = absurd (rests-idle own v look h.ends g.goes.lawful.0.idle)
on-same n again own v look past p (ToTake one ∷ xs) [] size kept on g h = let s = first-call own v look past p one xs on g.goes in absurd (h.ends.none s.call s.due)
on-same n again own v look past p (ToBegin ∷ xs) (ToBegin ∷ ys) size kept on g h =
    again own (after v Begin) look past p xs ys (omega (arith, size)) (begin-kept own v look p kept g.goes.lawful.0.idle)
    (record { goes = goes-begin own v look past p xs g.goes; ends = g.ends }) (record { goes = goes-begin own v look past p ys h.goes; ends = h.ends })
on-same n again own v look past p (ToBegin ∷ xs) (ToRead b ∷ ys) size kept on g h = no-true (sym h.goes.lawful.0.waits ∙ g.goes.lawful.0.first)
on-same n again own v look past p (ToRead a ∷ xs) (ToBegin ∷ ys) size kept on g h = no-true (sym g.goes.lawful.0.waits ∙ h.goes.lawful.0.first)
on-same n again own v look past p (ToRead a ∷ xs) (ToRead b ∷ ys) size kept on g h =
    let same = one-reading v b a h.goes.lawful.0 g.goes.lawful.0 in
    let y : GoesOn own (after v (Read b)) look past p ys = record { goes = goes-read own v look past p b ys h.goes; ends = h.ends } in
    again own (after v (Read a)) look past p xs ys (omega (arith, size)) (read-kept own v look p a kept g.goes.lawful.0.idle)
    (record { goes = goes-read own v look past p a xs g.goes; ends = g.ends }) (subst (λ r. GoesOn own (after v (Read r)) look past p ys) same y)
on-same n again own v look past p (ToBegin ∷ xs) (ToTake two ∷ ys) size kept on g h =
    let t = first-call own v look past p two ys on h.goes in absurd (waits-due own v look p t.call kept (begins-waits v g.goes.lawful.0) t.due)
on-same n again own v look past p (ToRead a ∷ xs) (ToTake two ∷ ys) size kept on g h =
    let t = first-call own v look past p two ys on h.goes in absurd (waits-due own v look p t.call kept (read-waits v a g.goes.lawful.0) t.due)
on-same n again own v look past p (ToTake one ∷ xs) (ToBegin ∷ ys) size kept on g h =
    let s = first-call own v look past p one xs on g.goes in absurd (waits-due own v look p s.call kept (begins-waits v h.goes.lawful.0) s.due)
on-same n again own v look past p (ToTake one ∷ xs) (ToRead b ∷ ys) size kept on g h =
    let s = first-call own v look past p one xs on g.goes in absurd (waits-due own v look p s.call kept (read-waits v b h.goes.lawful.0) s.due)
on-same n again own v look past p (ToTake one ∷ xs) (ToTake two ∷ ys) size kept on g h = calls-same n again own v look past p one xs two ys size kept on g h

by-power : (n : ℕ) → Claim n → (own : Setup) (v : View) (look : Look) (past : List Turn) (p : Play) (xs ys : List Act) → length xs + length ys ≤ suc n → Kept own v look p → (off : Option ImageKind) → p.off ≡ off → GoesOn own v look past p xs → GoesOn own v look past p ys → turns_of (moves_of xs) ≡ turns_of (moves_of ys)
by-power n again own v look past p xs ys size kept None on g h = on-same n again own v look past p xs ys size kept on g h
by-power n again own v look past p xs ys size kept (Some kind) off g h =
    let x = to-power own xs v look past p kind off g in
    let y = to-power own ys v look past p kind off h in
    let a = x.shorter in
    let b = y.shorter in
    x.log_is
    ∙ ap (λ l. Crash (crash_file kind (outside_of past)) ∷ l) (again own _ Unopened _ (restarted p) x.later y.later (omega (arith, size, a, b)) (kept-unopened own _ (restarted p) refl) x.goes y.goes)
    ∙ sym y.log_is

same-log : (n : ℕ) → Claim n
same-log zero own v look past p [] [] size kept g h = refl
same-log zero own v look past p [] (act ∷ ys) size kept g h = absurd (omega (arith, size))
same-log zero own v look past p (act ∷ xs) ys size kept g h = absurd (omega (arith, size))
same-log (suc n) own v look past p xs ys size kept g h = by-power n (same-log n) own v look past p xs ys size kept p.off refl g h

-- ---- the law

-- two scripts of one text are the same
pub one-script : (text : List ℕ) (script other : Script) → script_of text ≡ Ok script → script_of text ≡ Ok other → script ≡ other
one-script text script other e f = let h : Ok script ≡ Ok other = sym e ∙ f in cc

-- the acts of a whole log, with this setup and from this place on
record IsWhole (own : Setup) (first : Play) (log : List Turn) : Type 0 where
  acts : List Act
  goes : GoesOn own at_first Unopened [] first acts
  log_is : turns_of (moves_of acts) ≡ log

whole-same : (own : Setup) (first : Play) (log other : List Turn) → IsWhole own first log → IsWhole own first other → log ≡ other
whole-same own first log other x y =
    sym x.log_is
    ∙ same-log (length x.acts + length y.acts) own at_first Unopened [] first x.acts y.acts (omega arith) (kept-unopened own at_first first refl) x.goes y.goes
    ∙ y.log_is

whole : (text : List ℕ) (log : List Turn) (x : IsLogOf text log) → IsWhole (setup_of x.script.given) (begins x.script.lines) log
whole text log x =
    let own = setup_of x.script.given in
    let goes : Goes own at_first Unopened [] (begins x.script.lines) x.acts = record { lawful = x.done.lawful; due = x.done.due; turns = x.power } in
    record {
      acts = x.acts;
      goes = record { goes = goes; ends = ends-at own x.acts at_first Unopened [] (begins x.script.lines) goes (subst IsEnded (sym x.done.log_is) x.ends) };
      log_is = x.done.log_is;
    }

pub one-log : OneLog
one-log text log other x y =
    let same = one-script text y.script x.script y.script_is x.script_is in
    whole-same (setup_of x.script.given) (begins x.script.lines) log other (whole text log x) (subst (λ (script : Script). IsWhole (setup_of script.given) (begins script.lines) other) same (whole text other y))

drill-whole : (from payments : ℕ) (log : List Turn) → IsDrillLog from payments log → IsWhole drill_setup (drill_begins from payments) log
drill-whole from payments log x =
    let goes : Goes drill_setup at_first Unopened [] (drill_begins from payments) x.acts = record { lawful = x.done.lawful; due = x.done.due; turns = x.power } in
    record {
      acts = x.acts;
      goes = record { goes = goes; ends = ends-at drill_setup x.acts at_first Unopened [] (drill_begins from payments) goes (subst IsEnded (sym x.done.log_is) (inl x.ends)) };
      log_is = x.done.log_is;
    }

pub one-drill-log : OneDrillLog
one-drill-log from payments log other x y = whole-same drill_setup (drill_begins from payments) log other (drill-whole from payments log x) (drill-whole from payments other y)

pub log-has-script : LogHasScript
log-has-script text log x = (x.script, x.script_is)
