-- Runs: what opening adds, and what follows it.
use Rattle.std.proofs.Common.{◌≡◌, List, [], ◌∷◌, ◌++◌, refl, sym, ◌∙◌, ap, subst, append_assoc, inl, inr}
use Rattle.std.specs.Prelude.{Bool, true, false, Some, Ok, Err}
use Rattle.gw_base.specs.Setup.{IsSetup}
use Rattle.gw_base.specs.declared.setup.Setup.{Setup}
use Rattle.gw_site.specs.Observed.{Observed, GrowsWhole, AddedWhole, IsStep, TakesCall}
use Rattle.gw_site.specs.Steps.{SiteCall, OpenCall, Made}
use Rattle.gw_site.specs.Turns.{OpenTurns}
use Rattle.gw_site.specs.declared.turn.Turn.{Turn}
use Rattle.gw_site.specs.declared.turn.Turn.TheVariants.{Start, OpenFailed, Crash}
use Rattle.gw_rules.specs.Acts.{Act, ToTake, AreDue, AreDueTo, IsDone, Look, Unopened, Unmeasured, Looked}
use Rattle.gw_rules.specs.Lawful.{IsCourse, turns_of, Stands, IsClear}
use Rattle.gw_rules.specs.Stage.{Resting}
use Rattle.gw_rules.specs.Triple.{Triple, TripleBy, RanBy, RunTriple, RunTripleBy, IsDueFromOpening, IsStarted, IsBegun, IsRun, JustBegun}
use Rattle.gw_site.specs.Sorts.{IsQuiet}
use Rattle.gw_rules.specs.View.{View, view_from, after_turn}
use Rattle.gw_rules.proofs.ActLemmas.{IsDueFrom, Joins, done-by, done-none, done-rests, done-step, done-then, join-due, join-to, owed-due}
use Rattle.gw_rules.proofs.CourseLemmas.{course-append, makes, quiet-append, stands-more, stands-outside, turns_of-append, turns_of-makes, view_from-append}
use Rattle.gw_rules.proofs.TripleLemmas.{triple-due}

-- ---- the opening of the site

-- a call of a site whose turns are allowed, and have this shape
pub record RunLeads (turns : List Turn) (v : View) (Shape : List Turn → Type 0) (Q : View → Type 0) : Type 0 where
  pub lawful : IsCourse v (makes turns)
  pub shape : Shape turns
  pub some : turns ≡ [] → ⊥
  pub owed : Q (view_from v (makes turns))

-- the call is due as the first, whatever its turns, and so is nothing on a dark site
pub record IsDueFirst (Due : Bool → View → List Act → Type 0) (call : SiteCall) : Type 0 where
  pub alone : (dark : Bool) (v : View) (turns : List Turn) → Due dark v (ToTake (record { step = Made call; turns = turns }) ∷ [])
  pub none : (v : View) → Due true v []

nothing-ran : {Due : Bool → View → List Act → Type 0} (old : Observed) (before : List Turn) (v : View) (new : Observed) (Shape : List Turn → Type 0) (Q : View → Type 0) →
    new.dark ≡ true → new.log ≡ Some (before ++ []) → Shape [] → IsDone (Due new.dark) old.plan new.plan v [] → RanBy Due old before v new Shape Q
nothing-ran old before v new Shape Q n_is l shape done = record {
  moves = [];
  log_is = l;
  lawful = tt;
  shape = shape;
  done = done;
  none = λ e. n_is;
  owed = λ e. absurd (let h : true ≡ false = sym n_is ∙ e in cc);
}

all-ran : {Due : Bool → View → List Act → Type 0} (old : Observed) (before turns : List Turn) (v : View) (new : Observed) (Shape : List Turn → Type 0) (Q : View → Type 0) →
    new.log ≡ Some (before ++ turns) → IsDone (Due new.dark) old.plan new.plan v (makes turns) → RunLeads turns v Shape Q → RanBy Due old before v new Shape Q
all-ran old before turns v new Shape Q l done x = record {
  moves = makes turns;
  log_is = l ∙ ap (λ turns. Some (before ++ turns)) (sym (turns_of-makes turns));
  lawful = x.lawful;
  shape = subst Shape (sym (turns_of-makes turns)) x.shape;
  done = done;
  none = λ e. absurd (x.some (sym (turns_of-makes turns) ∙ e));
  owed = λ e. x.owed;
}

ran-by : {Due : Bool → View → List Act → Type 0} (old : Observed) (before turns added : List Turn) (v : View) (new : Observed) (call : SiteCall) (Shape : List Turn → Type 0) (Q : View → Type 0) (d n : Bool) → new.dark ≡ n →
    AddedWhole d n turns added → old.log ≡ Some before → new.log ≡ Some (before ++ added) → TakesCall d old new call → IsDueFirst Due call → Shape [] → RunLeads turns v Shape Q → RanBy Due old before v new Shape Q
ran-by {Due = Due} old before turns added v new call Shape Q true true n_is a o l taken first none x =
    nothing-ran old before v new Shape Q n_is (rw a at l) none (done-none (Due new.dark) old.plan new.plan v (subst (λ dark. Due dark v []) (sym n_is) (first.none v)) taken)
ran-by {Due = Due} old before turns added v new call Shape Q true false n_is a o l taken first none x = absurd a
ran-by {Due = Due} old before turns added v new call Shape Q false true n_is (inl a) o l taken first none x =
    let l2 : new.log ≡ Some (before ++ []) = rw a at l in
    nothing-ran old before v new Shape Q n_is l2 none (done-step (Due new.dark) old.plan new.plan v (Made call) [] (first.alone new.dark v []) (taken before [] o l2))
ran-by {Due = Due} old before turns added v new call Shape Q false true n_is (inr a) o l taken first none x =
    let l2 : new.log ≡ Some (before ++ turns) = rw a at l in
    all-ran old before turns v new Shape Q l2 (done-step (Due new.dark) old.plan new.plan v (Made call) turns (first.alone new.dark v turns) (taken before turns o l2)) x
ran-by {Due = Due} old before turns added v new call Shape Q false false n_is a o l taken first none x =
    let l2 : new.log ≡ Some (before ++ turns) = rw a at l in
    all-ran old before turns v new Shape Q l2 (done-step (Due new.dark) old.plan new.plan v (Made call) turns (first.alone new.dark v turns) (taken before turns o l2)) x

open-runs : {Due : Bool → View → List Act → Type 0} (old new : Observed) (call : SiteCall) (Call : List Turn → List Turn → Type 0) (Shape : List Turn → Type 0) (Q : View → Type 0) → GrowsWhole old new Call → IsStep old new call → IsDueFirst Due call → Shape [] →
    ((before turns : List Turn) (v : View) → Stands before v → IsClear v → Call before turns → RunLeads turns v Shape Q) → RunTripleBy Due old new Shape Q
open-runs old new call Call Shape Q grows taken first none step = record {
  observed = λ before v e stands clear.
      let x = grows.observed before e in
      ran-by old before x.0 x.1 v new call Shape Q old.dark new.dark refl x.3 e x.4 taken first none (step before x.0 v stands clear x.2);
  unobserved = grows.unobserved;
  origin = grows.origin;
}

started-leads : (E : Type 0) (setup : Setup) → IsSetup setup → (before turns : List Turn) (v : View) → Stands before v → IsClear v → OpenTurns {E = E} setup (Ok tt) before turns → RunLeads turns v (IsBegun setup) (JustBegun setup)
started-leads E setup formed before turns v stands clear (inl e) = subst (λ turns. RunLeads turns v (IsBegun setup) (JustBegun setup)) (sym e) (record {
  lawful = ((clear, formed), tt);
  shape = inr ([], tt, inl refl);
  some = λ n. absurd (let h : Start setup ∷ [] ≡ [] = n in cc);
  owed = ((after_turn v (Start setup)).scene, refl, record { setup_is = refl; stage = refl; tills = refl; links = refl; polls = refl; core_is = refl });
})
started-leads E setup formed before turns v stands clear (inr x) =
    let v2 = after_turn v (Crash x.0) in
    subst (λ turns. RunLeads turns v (IsBegun setup) (JustBegun setup)) (sym x.3) (record {
      lawful = ((rw (stands-outside before v stands) x.1, x.2), ((refl, formed), tt));
      shape = inr ([], tt, inr (x.0, refl));
      some = λ n. absurd (let h : Crash x.0 ∷ Start setup ∷ [] ≡ [] = n in cc);
      owed = ((after_turn v2 (Start setup)).scene, refl, record { setup_is = refl; stage = refl; tills = refl; links = refl; polls = refl; core_is = refl });
    })

-- a run begins: its site is opened, and the file is to be measured
pub opened-runs : (E : Type 0) (setup : Setup) (old new : Observed) → IsSetup setup → GrowsWhole old new (OpenTurns {E = E} setup (Ok tt)) → IsStep old new (OpenCall setup) → RunTripleBy (AreDueTo setup Unopened Unmeasured) old new (IsBegun setup) (JustBegun setup)
opened-runs E setup old new formed grows taken = open-runs old new (OpenCall setup) _ _ _ grows taken first (inl refl) (λ before turns v stands clear call. started-leads E setup formed before turns v stands clear call)
  where
    first : IsDueFirst (AreDueTo setup Unopened Unmeasured) (OpenCall setup)
    first = record { alone = λ dark v turns. record { due = (refl, tt); ends = λ e. refl }; none = λ v. record { due = tt; ends = λ e. absurd (let h : true ≡ false = e in cc) } }

-- a run doesn't begin
pub failed-runs : {E : Type 0} (f : E) (setup : Setup) (old new : Observed) → GrowsWhole old new (OpenTurns setup (Err f)) → IsStep old new (OpenCall setup) → RunTriple setup old new (IsRun setup) (λ v. v.scene.stage ≡ Resting)
failed-runs f setup old new grows taken = open-runs old new (OpenCall setup) _ _ _ grows taken first (inl refl) (λ before turns v stands clear call. subst (λ turns. RunLeads turns v (IsRun setup) (λ v. v.scene.stage ≡ Resting)) (sym call) (record {
  lawful = (clear, tt);
  shape = inr (inl refl);
  some = λ n. absurd (let h : OpenFailed ∷ [] ≡ [] = n in cc);
  owed = refl;
}))
  where
    first : IsDueFirst (IsDueFromOpening setup) (OpenCall setup)
    first = record { alone = λ dark v turns. (refl, tt); none = λ v. tt }

-- ---- a run that has begun goes on

begun-more : (setup : Setup) (turns more : List Turn) → IsStarted setup turns → IsQuiet more → IsStarted setup (turns ++ more)
begun-more setup turns more (run, quiet, inl e) q = (run ++ more, quiet-append run more quiet q, inl (ap (λ t. t ++ more) e))
begun-more setup turns more (run, quiet, inr x) q = (run ++ more, quiet-append run more quiet q, inr (x.0, ap (λ t. t ++ more) x.1))

some-turns : (setup : Setup) (turns more : List Turn) → IsStarted setup turns → turns ++ more ≡ [] → ⊥
some-turns setup turns more (run, quiet, inl f) e = let h : Start setup ∷ (run ++ more) ≡ [] = ap (λ t. t ++ more) (sym f) ∙ e in absurd cc
some-turns setup turns more (run, quiet, inr x) e = let h : Crash x.0 ∷ (Start setup ∷ run ++ more) ≡ [] = ap (λ t. t ++ more) (sym x.1) ∙ e in absurd cc

-- where the site isn't dark it has begun
has-started : (setup : Setup) (turns : List Turn) → (turns ≡ [] → ⊥) → IsBegun setup turns → IsStarted setup turns
has-started setup turns some (inl e) = absurd (some e)
has-started setup turns some (inr s) = s

ran-then : {First Then Both : Bool → View → List Act → Type 0} (a b c : Observed) (setup : Setup) (Q R : View → Type 0) → Joins First Then Both → (d : Bool) → b.dark ≡ d → (before : List Turn) (v : View) → Stands before v →
    RanBy First a before v b (IsBegun setup) Q → TripleBy Then b c Q R → RanBy Both a before v c (IsBegun setup) R
ran-then {First = First} {Then = Then} {Both = Both} a b c setup Q R join true dark before v stands x k =
    let over = k.stays dark in
    record {
      moves = x.moves;
      log_is = k.still dark ∙ x.log_is;
      lawful = x.lawful;
      shape = x.shape;
      done = done-rests (First b.dark) (Both c.dark) a.plan b.plan c.plan v x.moves (λ acts due. subst (λ dark. Both dark v acts) (sym over) (join.dark v acts (subst (λ dark. First dark v acts) dark due))) x.done (k.rests dark);
      none = λ e. over;
      owed = λ e. absurd (let h : true ≡ false = sym over ∙ e in cc);
    }
ran-then {First = First} {Then = Then} {Both = Both} a b c setup Q R join false lit before v stands x k =
    let y = k.observed (before ++ turns_of x.moves) (view_from v x.moves) x.log_is (stands-more before v x.moves stands x.lawful) x.owed in
    let both : turns_of (x.moves ++ y.moves) ≡ turns_of x.moves ++ turns_of y.moves = turns_of-append x.moves y.moves in
    let s = has-started setup (turns_of x.moves) (λ e. absurd (let h : true ≡ false = sym (x.none e) ∙ lit in cc)) x.shape in
    record {
      moves = x.moves ++ y.moves;
      log_is = y.log_is ∙ ap Some (append_assoc before (turns_of x.moves) (turns_of y.moves)) ∙ ap (λ turns. Some (before ++ turns)) (sym both);
      lawful = course-append v x.moves y.moves x.lawful y.lawful;
      shape = inr (subst (IsStarted setup) (sym both) (begun-more setup (turns_of x.moves) (turns_of y.moves) s y.quiet));
      done = done-then (First b.dark) (Then c.dark) (Both c.dark) a.plan b.plan c.plan v x.moves y.moves (λ first more f m. join.lit c.dark v first more (subst (λ dark. First dark v first) lit f) m) x.done y.done;
      none = λ e. absurd (some-turns setup (turns_of x.moves) (turns_of y.moves) s (sym both ∙ e));
      owed = λ d. rw view_from-append (y.owed d);
    }

-- a run that has begun goes on by more calls, by what is due in each part
pub runs-then-by : {First Then Both : Bool → View → List Act → Type 0} (a b c : Observed) (setup : Setup) (Q R : View → Type 0) → Joins First Then Both → RunTripleBy First a b (IsBegun setup) Q → TripleBy Then b c Q R → RunTripleBy Both a c (IsBegun setup) R
runs-then-by a b c setup Q R join x k = record {
  observed = λ before v e stands clear. ran-then a b c setup Q R join b.dark refl before v stands (x.observed before v e stands clear) k;
  unobserved = λ e. k.unobserved (x.unobserved e);
  origin = k.origin ∙ x.origin;
}

-- up to one look, and then from it on up to another
pub runs-then-to : (a b c : Observed) (own : Setup) (first mid last : Look) (Q R : View → Type 0) → RunTripleBy (AreDueTo own first mid) a b (IsBegun own) Q → TripleBy (AreDueTo own mid last) b c Q R → RunTripleBy (AreDueTo own first last) a c (IsBegun own) R
runs-then-to a b c own first mid last Q R x k = runs-then-by a b c own Q R (join-to own first mid last) x k

-- up to one look, and then from it on
pub runs-then-due : (a b c : Observed) (own : Setup) (first mid : Look) (Q R : View → Type 0) → RunTripleBy (AreDueTo own first mid) a b (IsBegun own) Q → TripleBy (λ dark v acts. AreDue own v mid acts) b c Q R → RunTripleBy (λ dark v acts. AreDue own v first acts) a c (IsBegun own) R
runs-then-due a b c own first mid Q R x k = runs-then-by a b c own Q R (join-due own first mid) x k

-- once no more need be looked at, it goes on by what is owed
pub runs-then : (a b c : Observed) (own : Setup) (Q R : View → Type 0) → RunTripleBy (AreDueTo own Unopened Looked) a b (IsBegun own) Q → Triple b c Q R → RunTriple own a c (IsBegun own) R
runs-then a b c own Q R x k = runs-then-due a b c own Unopened Looked Q R x (triple-due _ (IsDueFrom own Looked) b c Q R (λ dark v acts h. owed-due own v acts h) k)

-- ---- weaker runs

-- what is done is due from the first look on, wherever it ends
pub runs-due : (own : Setup) (first last : Look) (a b : Observed) (Shape : List Turn → Type 0) (Q : View → Type 0) → RunTripleBy (AreDueTo own first last) a b Shape Q → RunTripleBy (λ dark v acts. AreDue own v first acts) a b Shape Q
runs-due own first last a b Shape Q x = record {
  observed = λ before v e stands clear.
      let r = x.observed before v e stands clear in
      record { moves = r.moves; log_is = r.log_is; lawful = r.lawful; shape = r.shape; done = done-by (AreDueTo own first last b.dark) (IsDueFrom own first b.dark) a.plan b.plan v r.moves (λ acts h. h.due) r.done; none = r.none; owed = r.owed };
  unobserved = x.unobserved;
  origin = x.origin;
}

begun_run : (setup : Setup) (turns : List Turn) → IsBegun setup turns → IsRun setup turns
begun_run setup turns (inl e) = inl e
begun_run setup turns (inr s) = inr (inr s)

-- a run that has begun is a run
pub begun-runs : {Due : Bool → View → List Act → Type 0} (a b : Observed) (setup : Setup) (Q R : View → Type 0) → ((v : View) → Q v → R v) → RunTripleBy Due a b (IsBegun setup) Q → RunTripleBy Due a b (IsRun setup) R
begun-runs a b setup Q R f x = record {
  observed = λ before v e stands clear.
      let r = x.observed before v e stands clear in
      record { moves = r.moves; log_is = r.log_is; lawful = r.lawful; shape = begun_run setup (turns_of r.moves) r.shape; done = r.done; none = r.none; owed = λ d. f (view_from v r.moves) (r.owed d) };
  unobserved = x.unobserved;
  origin = x.origin;
}
