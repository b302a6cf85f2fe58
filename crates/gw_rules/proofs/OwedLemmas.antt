-- What is owed at once is calls on the disk, and then one other call at most.
use Rattle.std.proofs.Common.{◌≡◌, ℕ, List, [], ◌∷◌, ◌++◌, refl, sym, ◌∙◌, ap, subst, true, false, append-nil}
use Rattle.std.specs.Prelude.{Option, Some, None}
use Rattle.gw_base.specs.declared.setup.Setup.{Setup}
use Rattle.gw_site.specs.declared.turn.Turn.{Turn}
use Rattle.gw_site.specs.declared.turn.Turn.TheVariants.{Start, OpenFailed, Polled, Opened, HeardTill, Closed, HeardPt, Lost, Stopped, Linked, LinkFailed, SentTill, SentPt, CutTill, CutPt, Wrote, Synced, DiskFailed, Crash}
use Rattle.gw_owes.specs.Calls.{OwedCall, SendTill, SendPt, LinkPt, WriteBody, WriteGate, WriteFirstGate, Sync, CutTill as OwedCutTill, CutPt as OwedCutPt}
use Rattle.gw_owes.specs.Items.{RoundItem}
use Rattle.gw_owes.specs.Laws.{owes_none, ends_in_one, EndsInOne}
use Rattle.gw_owes.specs.Row.{Known, Row}
use Rattle.gw_owes.specs.Rows.{row_of}
use Rattle.gw_owes.specs.Terminals.{link_made, link_lost}
use Rattle.gw_owes.proofs.RowEndLemmas.{rows-end}
use Rattle.gw_owes.proofs.RowLemmas.{links-end}
use Rattle.gw_rules.specs.Laws.{CallsEndInOne}
use Rattle.gw_rules.specs.Lawful.{first_call, AllowedTurn, IsCourse}
use Rattle.gw_rules.specs.Scene.{Scene, records_of, row_in, row_at, link_made_at, link_lost_at}
use Rattle.gw_rules.specs.View.{View, Move, Begin, Read, Make, begin, later, after, after_turn, view_from, at_first}
use Rattle.gw_rules.proofs.OpensLemmas.{opens-end}
use Rattle.gw_rules.proofs.StageLemmas.{no-true}

-- ---- rows in a scene

in-ends : (scene : Scene) (row : Known → Row) (setup : Option Setup) → ((known : Known) → EndsInOne (row known)) → EndsInOne (row_in scene row setup)
in-ends scene row None each = refl
in-ends scene row (Some setup) each = each _

at-ends : (scene : Scene) (item : RoundItem) → EndsInOne (row_at scene item)
at-ends scene item = in-ends scene (λ known. row_of scene.outside.tills known item) scene.setup (λ known. rows-end scene.outside.tills known item)

made-ends : (scene : Scene) (pt : ℕ) → EndsInOne (link_made_at scene pt)
made-ends scene pt = in-ends scene (λ known. link_made known pt) scene.setup (λ known. (links-end known pt).made)

lost-ends : (scene : Scene) (pt : ℕ) → EndsInOne (link_lost_at scene pt)
lost-ends scene pt = in-ends scene (λ known. link_lost known pt) scene.setup (λ known. (links-end known pt).lost)

-- ---- along a course

none-ends : (calls : List OwedCall) → owes_none calls ≡ true → ends_in_one calls ≡ true
none-ends [] e = refl
none-ends (call ∷ calls) e = no-true e

later-ends : (calls : List OwedCall) → ends_in_one calls ≡ true → ends_in_one (later calls) ≡ true
later-ends [] e = refl
later-ends (SendTill till reply ∷ calls) e = none-ends calls e
later-ends (SendPt pt sending ∷ calls) e = none-ends calls e
later-ends (OwedCutTill till ∷ calls) e = none-ends calls e
later-ends (OwedCutPt pt ∷ calls) e = none-ends calls e
later-ends (LinkPt pt ∷ calls) e = none-ends calls e
later-ends (WriteBody slot the_record ∷ calls) e = e
later-ends (WriteGate slot the_record ∷ calls) e = e
later-ends (WriteFirstGate ∷ calls) e = e
later-ends (Sync ∷ calls) e = e

none-empty : (calls : List OwedCall) → owes_none calls ≡ true → calls ≡ []
none-empty [] e = refl
none-empty (call ∷ calls) e = no-true e

-- a call that is no call on the disk is the last
pub call-last : (calls : List OwedCall) (call : OwedCall) → ((more : List OwedCall) → ends_in_one (call ∷ more) ≡ owes_none more) → first_call calls ≡ Some call → ends_in_one calls ≡ true → later calls ≡ []
call-last [] call is f e = absurd (let n : None ≡ Some call = f in cc)
call-last (first ∷ calls) call is f e =
    let same : first ≡ call = (let n : Some first ≡ Some call = f in cc) in
    none-empty calls (sym (is calls) ∙ subst (λ c. ends_in_one (c ∷ calls) ≡ true) same e)

row-then : (calls more : List OwedCall) → more ≡ [] → ends_in_one calls ≡ true → ends_in_one (calls ++ more) ≡ true
row-then calls more none e = subst (λ l. ends_in_one (calls ++ l) ≡ true) (sym none) (ap ends_in_one (append-nil calls) ∙ e)

pub turn-ends : (v : View) (turn : Turn) → ends_in_one v.calls ≡ true → AllowedTurn v turn → ends_in_one (after_turn v turn).calls ≡ true
turn-ends v (Start setup) e ok = opens-end setup v.scene.outside.file (records_of v.scene)
turn-ends v OpenFailed e ok = refl
turn-ends v (Polled now) e ok = refl
turn-ends v (Opened till) e ok = refl
turn-ends v (HeardTill till bytes) e ok = refl
turn-ends v (Closed till) e ok = refl
turn-ends v (HeardPt pt bytes) e ok = refl
turn-ends v (Lost pt) e ok = refl
turn-ends v Stopped e ok = refl
turn-ends v (Linked pt) e ok = row-then (link_made_at v.scene pt).calls (later v.calls) (call-last v.calls (LinkPt pt) (λ more. refl) ok e) (made-ends v.scene pt)
turn-ends v (LinkFailed pt) e ok = row-then (link_lost_at v.scene pt).calls [] refl (lost-ends v.scene pt)
turn-ends v (SentTill till bytes true) e ok = later-ends v.calls e
turn-ends v (SentTill till bytes false) e ok = refl
turn-ends v (SentPt pt bytes true) e ok = later-ends v.calls e
turn-ends v (SentPt pt bytes false) e ok = refl
turn-ends v (CutTill till) e ok = later-ends v.calls e
turn-ends v (CutPt pt) e ok = row-then (link_lost_at v.scene pt).calls (later v.calls) (call-last v.calls (OwedCutPt pt) (λ more. refl) ok e) (lost-ends v.scene pt)
turn-ends v (Wrote offset bytes) e ok = later-ends v.calls e
turn-ends v Synced e ok = later-ends v.calls e
turn-ends v DiskFailed e ok = refl
turn-ends v (Crash file) e ok = refl

pub begin-ends : (scene : Scene) (items : List RoundItem) → ends_in_one (begin scene items).calls ≡ true
begin-ends scene [] = refl
begin-ends scene (item ∷ items) = at-ends scene item

course-ends : (v : View) (moves : List Move) → ends_in_one v.calls ≡ true → IsCourse v moves → ends_in_one (view_from v moves).calls ≡ true
course-ends v [] e h = e
course-ends v (Begin ∷ moves) e h = course-ends (after v Begin) moves (begin-ends v.scene v.items) h.1
course-ends v (Read as_read ∷ moves) e h = course-ends (after v (Read as_read)) moves refl h.1
course-ends v (Make turn ∷ moves) e h = course-ends (after_turn v turn) moves (turn-ends v turn e h.0) h.1

pub calls-end-in-one : CallsEndInOne
calls-end-in-one log v s = subst (λ (w : View). ends_in_one w.calls ≡ true) s.view_is (course-ends at_first s.course refl s.lawful)
