-- As a terminal is linked, nothing that was heard of it before is left to be handled.
use Rattle.std.proofs.Common.{◌≡◌, ℕ, ◌+◌, List, [], ◌∷◌, ◌++◌, refl, sym, ◌∙◌, ap, subst, true, false, inl, inr, arith}
use Rattle.std.proofs.lemmas.Bool.{and_parts, leb-true}
use Rattle.std.specs.Prelude.{Bool, ◌⊎◌, not, nat_le, Option, Some, None}
use Rattle.gw_site.specs.Outside.{Outside, is_connected, heard_on}
use Rattle.gw_site.specs.declared.turn.Turn.{Turn}
use Rattle.gw_site.specs.declared.turn.Turn.TheVariants.{Start, OpenFailed, Polled, Opened, HeardTill, Closed, HeardPt, Lost, Stopped, Linked, LinkFailed, SentTill, SentPt, CutTill, CutPt, Wrote, Synced, DiskFailed, Crash}
use Rattle.sale_frame.specs.Decode.{DecodedFrames, decode_after, decode_frames}
use Rattle.zvt_apdu.specs.DecodeStream.{DecodedApdus, decode_apdus}
use Rattle.gw_owes.specs.Calls.{LinkPt, CutPt as OwedCutPt}
use Rattle.gw_owes.specs.Deadlines.{is_due_by}
use Rattle.gw_owes.specs.ReadAs.{ReadAs}
use Rattle.gw_owes.specs.Row.{Row}
use Rattle.gw_rules.specs.Lawful.{Begins, AllowedTurn, IsCourse}
use Rattle.gw_rules.specs.Scene.{link_made_at, link_lost_at}
use Rattle.gw_rules.specs.Stage.{AtPoll}
use Rattle.gw_rules.specs.View.{View, Move, Begin, Read, Make, after, after_turn, view_from}
use Rattle.gw_rules.proofs.CourseLemmas.{begin-outside}
use Rattle.gw_rules.proofs.KeptLemmas.{changes, change_none, due-change-none, opened-none, till-none, other-none, begins-first, change-none-append, read-none, follow-change-none, by-equal}
use Rattle.gw_rules.proofs.LinkStateLemmas.{LinkState, On, Off, state_in, state_then, without-states}
use Rattle.gw_rules.proofs.LinkedLemmas.{Agrees, Settled, Losing, begin-state-settled, begin-state-losing, by-number, call-setup, event-settled, first-fits, lost-at-turns, made-at-turns, move-agrees, round-setup}
use Rattle.gw_rules.proofs.OutsideCutLemmas.{on-by}
use Rattle.gw_rules.proofs.RestLemmas.{then-due, then-none, then-on}
use Rattle.gw_rules.proofs.SetupLemmas.{HasSetup}

-- the terminal isn't due at this moment
abbrev pub IsNotDue : ℕ → LinkState → Type 0
IsNotDue moment state = (due : Option ℕ) → state ≡ Off due → is_due_by moment due ≡ false

-- no item is left that may change what is remembered of the terminal, or it isn't due
abbrev pub IsFree : ℕ → View → Type 0
IsFree pt v = (change_none pt v.items ≡ true) ⊎ IsNotDue v.scene.outside.moment (state_in v.scene.core pt)

on-not-due : (moment : ℕ) (state : LinkState) → state ≡ On → IsNotDue moment state
on-not-due moment state on due off = absurd (let n : On ≡ Off due = sym on ∙ off in cc)

later-not-due : (moment : ℕ) → nat_le (moment + 5) moment ≡ false
later-not-due moment = by_test (nat_le (moment + 5) moment) refl
  where
    by_test : (test : Bool) → nat_le (moment + 5) moment ≡ test → nat_le (moment + 5) moment ≡ false
    by_test true e = absurd (let n = leb-true (moment + 5) moment e in omega (arith, n))
    by_test false e = e

-- once its link has ended
ended-not-due : (moment : ℕ) (old state : LinkState) → state ≡ state_then (Off (Some (moment + 5))) old → IsNotDue moment state
ended-not-due moment old state is None off = then-none (moment + 5) old (sym is ∙ off)
ended-not-due moment old state is (Some due) off = ap (λ d. nat_le d moment) (then-due moment due old (sym is ∙ off)) ∙ later-not-due moment

made-not-due : (moment : ℕ) (old state : LinkState) → state ≡ state_then On old → IsNotDue moment state
made-not-due moment old state is due off = then-on due old (sym is ∙ off)

begin-free : (pt : ℕ) (v : View) → Agrees v → IsFree pt v → Begins v → IsFree pt (after v Begin)
begin-free pt v a (inl none) b =
    let first = begins-first v a b in
    let all : change_none pt (first.item ∷ first.rest) ≡ true = subst (λ l. change_none pt l ≡ true) first.items_are none in
    inl (ap (change_none pt) first.left ∙ change-none-append pt first.new first.rest (follow-change-none pt first.new first.new_is) (and_parts (not (changes pt first.item)) (change_none pt first.rest) all).1)
begin-free pt v a (inr not) b = inr (subst (λ (o : Outside). IsNotDue o.moment (state_in (after v Begin).scene.core pt)) (sym (begin-outside v.scene v.items)) (by_links a.links))
  where
    by_links : Settled v ⊎ Losing v → IsNotDue v.scene.outside.moment (state_in (after v Begin).scene.core pt)
    by_links (inl s) = subst (IsNotDue v.scene.outside.moment) (sym (begin-state-settled v a.run s b pt)) not
    by_links (inr l) = by-number pt l.pt own (λ differs. subst (IsNotDue v.scene.outside.moment) (sym (begin-state-losing v a.run l b pt differs)) not)
      where
        own : l.pt ≡ pt → IsNotDue v.scene.outside.moment (state_in (after v Begin).scene.core pt)
        own same =
            let known = round-setup v a.run b.idle.round in
            let t = lost-at-turns v.scene l.pt known.setup known.setup_is in
            let begun : state_in (after v Begin).scene.core l.pt ≡ state_in (link_lost_at v.scene l.pt).core l.pt = ap (λ i. state_in (after (record v { items = i }) Begin).scene.core l.pt) l.items_are in
            subst (λ n. IsNotDue v.scene.outside.moment (state_in (after v Begin).scene.core n)) same (ended-not-due v.scene.outside.moment (state_in v.scene.core l.pt) (state_in (after v Begin).scene.core l.pt) (begun ∙ t.own))

read-free : (pt : ℕ) (v : View) (as_read : ReadAs) → IsFree pt v → IsFree pt (after v (Read as_read))
read-free pt v as_read (inl none) = inl (read-none pt as_read v.items none)
read-free pt v as_read (inr not) = inr not

turn-free : (pt : ℕ) (v : View) (turn : Turn) → Agrees v → IsFree pt v → AllowedTurn v turn → IsFree pt (after_turn v turn)
turn-free pt v turn a free ok = by_turn turn ok
  where
    event_on : (other : ℕ) → other ≡ pt → v.scene.stage ≡ AtPoll → is_connected v.scene.outside.links other ≡ true → IsNotDue v.scene.outside.moment (state_in v.scene.core pt)
    event_on other same at there =
        let s = event-settled v a at in
        on-not-due v.scene.outside.moment (state_in v.scene.core pt) (on-by (state_in v.scene.core pt) (sym (s.linked pt) ∙ subst (λ n. is_connected v.scene.outside.links n ≡ true) same there))

    more_free : (w : View) (row : Row) → w.items ≡ row.items ++ v.items → row.items ≡ [] → state_in w.scene.core pt ≡ state_in v.scene.core pt → w.scene.outside.moment ≡ v.scene.outside.moment → IsFree pt w
    more_free w row items none state moment = by_free free
      where
        by_free : IsFree pt v → IsFree pt w
        by_free (inl all) = inl (ap (change_none pt) (items ∙ ap (λ l. l ++ v.items) none) ∙ all)
        by_free (inr not) = inr (subst (λ m. IsNotDue m (state_in w.scene.core pt)) (sym moment) (subst (IsNotDue v.scene.outside.moment) (sym state) not))

    same : (w : View) → w.items ≡ v.items → state_in w.scene.core pt ≡ state_in v.scene.core pt → w.scene.outside.moment ≡ v.scene.outside.moment → IsFree pt w
    same w items state moment = by_free free
      where
        by_free : IsFree pt v → IsFree pt w
        by_free (inl all) = inl (ap (change_none pt) items ∙ all)
        by_free (inr not) = inr (subst (λ m. IsNotDue m (state_in w.scene.core pt)) (sym moment) (subst (IsNotDue v.scene.outside.moment) (sym state) not))

    linked : (other : ℕ) → AllowedTurn v (Linked other) → IsFree pt (after_turn v (Linked other))
    linked other ok =
        let known = call-setup v (LinkPt other) a.run ok in
        let t = made-at-turns v.scene other known.setup known.setup_is in
        by-number pt other
        (λ is. inr (subst (λ n. IsNotDue v.scene.outside.moment (state_in (link_made_at v.scene other).core n)) is (made-not-due v.scene.outside.moment (state_in v.scene.core other) (state_in (link_made_at v.scene other).core other) t.own)))
        (λ differs. more_free (after_turn v (Linked other)) (link_made_at v.scene other) refl t.items (t.others pt differs) refl)

    ended : (other : ℕ) (w : View) → HasSetup v.scene → w.items ≡ (link_lost_at v.scene other).items ++ v.items → w.scene.core ≡ (link_lost_at v.scene other).core → w.scene.outside.moment ≡ v.scene.outside.moment → IsFree pt w
    ended other w known items core moment =
        let t = lost-at-turns v.scene other known.setup known.setup_is in
        by-number pt other
        (λ is. inr (subst (λ m. IsNotDue m (state_in w.scene.core pt)) (sym moment) (subst (λ n. IsNotDue v.scene.outside.moment (state_in w.scene.core n)) is
        (ended-not-due v.scene.outside.moment (state_in v.scene.core other) (state_in w.scene.core other) (ap (λ c. state_in c other) core ∙ t.own)))))
        (λ differs. more_free w (link_lost_at v.scene other) items t.items (ap (λ c. state_in c pt) core ∙ t.others pt differs) moment)

    by_turn : (turn : Turn) → AllowedTurn v turn → IsFree pt (after_turn v turn)
    by_turn (Start setup) ok = inl refl
    by_turn OpenFailed ok = inl refl
    by_turn (Polled now) ok = inl (due-change-none pt v.scene.core)
    by_turn (Opened till) ok = inl (opened-none pt till v.scene.outside.tills v.scene.core)
    by_turn (HeardTill till bytes) ok =
        let decoded : DecodedFrames = decode_after (decode_frames (heard_on v.scene.outside.tills till)).rest bytes in
        inl (till-none pt till decoded v.scene.core)
    by_turn (Closed till) ok = inl (due-change-none pt v.scene.core)
    by_turn (HeardPt other bytes) ok = by-equal pt other
        (λ is. inr (event_on other is ok.0.polled ok.0.connected_is))
        (λ differs. let decoded : DecodedApdus = decode_apdus ((decode_apdus (heard_on v.scene.outside.links other)).rest ++ bytes) in inl (other-none pt other decoded v.scene.core differs))
    by_turn (Lost other) ok = by-equal pt other
        (λ is. inr (event_on other is ok.polled ok.connected_is))
        (λ differs. inl (rw (differs, due-change-none pt v.scene.core) refl))
    by_turn Stopped ok = inl refl
    by_turn (Linked other) ok = linked other ok
    by_turn (LinkFailed other) ok = ended other (after_turn v (LinkFailed other)) (call-setup v (LinkPt other) a.run ok) refl refl refl
    by_turn (SentTill till bytes true) ok = same (after_turn v (SentTill till bytes true)) refl refl refl
    by_turn (SentTill till bytes false) ok = same (after_turn v (SentTill till bytes false)) refl refl refl
    by_turn (SentPt other bytes true) ok = same (after_turn v (SentPt other bytes true)) refl refl refl
    by_turn (SentPt other bytes false) ok = same (after_turn v (SentPt other bytes false)) refl refl refl
    by_turn (CutTill till) ok = same (after_turn v (CutTill till)) refl (without-states till v.scene.core.terminals pt) refl
    by_turn (CutPt other) ok = ended other (after_turn v (CutPt other)) (call-setup v (OwedCutPt other) a.run ok) refl refl refl
    by_turn (Wrote offset bytes) ok = same (after_turn v (Wrote offset bytes)) refl refl refl
    by_turn Synced ok = same (after_turn v Synced) refl refl refl
    by_turn DiskFailed ok = inl refl
    by_turn (Crash file) ok = inl refl

course-free : (pt : ℕ) (v : View) (moves : List Move) → Agrees v → IsFree pt v → IsCourse v moves → IsFree pt (view_from v moves)
course-free pt v [] a free c = free
course-free pt v (Begin ∷ moves) a free c = course-free pt (after v Begin) moves (move-agrees v Begin a c.0) (begin-free pt v a free c.0) c.1
course-free pt v (Read as_read ∷ moves) a free c = course-free pt (after v (Read as_read)) moves (move-agrees v (Read as_read) a c.0) (read-free pt v as_read free) c.1
course-free pt v (Make turn ∷ moves) a free c = course-free pt (after_turn v turn) moves (move-agrees v (Make turn) a c.0) (turn-free pt v turn a free c.0) c.1

-- along a course from the start of a run to where the terminal is linked
pub linked-free : (pt : ℕ) (v : View) (moves : List Move) → Agrees v → v.items ≡ [] → IsCourse v moves → AllowedTurn (view_from v moves) (Linked pt) → Settled (view_from v moves) → change_none pt (view_from v moves).items ≡ true
linked-free pt v moves a none c ok s = by_free (course-free pt v moves a (inl (ap (change_none pt) none)) c)
  where
    by_free : IsFree pt (view_from v moves) → change_none pt (view_from v moves).items ≡ true
    by_free (inl all) = all
    by_free (inr not) =
        let u = view_from v moves in
        let fit = first-fits u.scene.outside.moment u.scene.core u.calls (LinkPt pt) s.fits ok in
        absurd (let n : false ≡ true = sym (not fit.0 fit.1) ∙ fit.2 in cc)
