-- The triple: one call after the other, weaker conditions, facts that stay, and what a single call keeps.
use Rattle.std.proofs.Common.{◌≡◌, List, [], ◌∷◌, ◌++◌, refl, sym, ◌∙◌, ap, subst, append_assoc, append-nil}
use Rattle.std.specs.Prelude.{ℕ, Bool, true, false, not, Option, Some, None}
use Rattle.gw_base.specs.declared.setup.Setup.{Setup}
use Rattle.gw_site.specs.Observed.{Observed, Grows, Added, IsStep, TakesCall}
use Rattle.gw_site.specs.Steps.{Plan, SiteCall, Made, Takes}
use Rattle.gw_site.specs.Outside.{is_connected}
use Rattle.gw_site.specs.declared.turn.Turn.{Turn}
use Rattle.gw_owes.specs.Items.{RoundItem, Message, Asked}
use Rattle.gw_owes.specs.ReadAs.{ReadAs, IsReadAs}
use Rattle.gw_rules.specs.Acts.{Act, ToBegin, ToRead, ToTake, AreDueTo, AreOwed, IsDone, IsOwedCall, Look, Looked}
use Rattle.gw_rules.specs.Lawful.{may_begin, Allowed, IsCourse, turns_of, Stands}
use Rattle.gw_rules.specs.Scene.{Scene, row_at}
use Rattle.gw_rules.specs.Stage.{is_round}
use Rattle.gw_rules.specs.Triple.{Extends, ExtendsBy, IsOwedBy, Triple, TripleBy, Owing}
use Rattle.gw_site.specs.Sorts.{IsQuiet}
use Rattle.gw_rules.specs.View.{View, Move, Begin, Read, Make, after, view_from, begun, at_item}
use Rattle.gw_rules.proofs.ActLemmas.{Joins, done-by, done-none, done-rests, done-step, done-then, join-to, owed-append, owed-due-to, taken-none, taken-then}
use Rattle.gw_rules.proofs.CourseLemmas.{view_from-append, course-append, course-prefix, turns_of-append, makes, turns_of-makes, makes-append, quiet-append, quiet-prefix, stands-more}

-- the call is due in a view, whatever its turns; and what it may do is lawful from there on, and leads to Q
pub record LeadsBy (Due : Bool → View → List Act → Type 0) (call : SiteCall) (Call : List Turn → Type 0) (v : View) (Q : View → Type 0) : Type 0 where
  pub due : (dark : Bool) (turns : List Turn) → Due dark v (ToTake (record { step = Made call; turns = turns }) ∷ [])
  pub each : (turns : List Turn) → Call turns → IsCourse v (makes turns) × IsQuiet turns × Q (view_from v (makes turns))

-- so it does, and the call is owed there
pub record Leads (call : SiteCall) (Call : List Turn → Type 0) (v : View) (Q : View → Type 0) : Type 0 where
  pub call_is_owed : IsOwedCall v call
  pub each : (turns : List Turn) → Call turns → IsCourse v (makes turns) × IsQuiet turns × Q (view_from v (makes turns))

pub nothing-extends : {Due : Bool → View → List Act → Type 0} (old : Observed) (before : List Turn) (v : View) (new : Observed) (Q : View → Type 0) → Due new.dark v [] → new.log ≡ Some before → Takes old.plan new.plan [] → (new.dark ≡ false → Q v) → ExtendsBy Due old before v new Q
nothing-extends {Due = Due} old before v new Q due l rests q = record { moves = []; log_is = rw append-nil l; lawful = tt; quiet = tt; done = done-none (Due new.dark) old.plan new.plan v due rests; owed = q }

pub triple-refl : (s : Observed) (P : View → Type 0) → Triple s s P P
triple-refl s P = record {
  observed = λ before v e stands p. nothing-extends s before v s P tt e (taken-none s.plan) p;
  unobserved = λ e. e;
  stays = λ e. e;
  still = λ e. refl;
  rests = λ e. taken-none s.plan;
  origin = refl;
}

-- ---- one call after the other

extends-then : {First Then Both : Bool → View → List Act → Type 0} (a b c : Observed) (P Q R : View → Type 0) → Joins First Then Both → (d : Bool) → b.dark ≡ d → (before : List Turn) (v : View) → Stands before v →
    ExtendsBy First a before v b Q → TripleBy Then b c Q R → ExtendsBy Both a before v c R
extends-then {First = First} {Then = Then} {Both = Both} a b c P Q R join true dark before v stands x k =
    let over = k.stays dark in
    record {
      moves = x.moves;
      log_is = k.still dark ∙ x.log_is;
      lawful = x.lawful;
      quiet = x.quiet;
      done = done-rests (First b.dark) (Both c.dark) a.plan b.plan c.plan v x.moves (λ acts due. subst (λ dark. Both dark v acts) (sym over) (join.dark v acts (subst (λ dark. First dark v acts) dark due))) x.done (k.rests dark);
      owed = λ e. absurd (let h : true ≡ false = sym over ∙ e in cc);
    }
extends-then {First = First} {Then = Then} {Both = Both} a b c P Q R join false lit before v stands x k =
    let y = k.observed (before ++ turns_of x.moves) (view_from v x.moves) x.log_is (stands-more before v x.moves stands x.lawful) x.owed in
    let e : before ++ turns_of (x.moves ++ y.moves) ≡ (before ++ turns_of x.moves) ++ turns_of y.moves = rw turns_of-append (sym (append_assoc before (turns_of x.moves) (turns_of y.moves))) in
    record {
      moves = x.moves ++ y.moves;
      log_is = y.log_is ∙ ap Some (sym e);
      lawful = course-append v x.moves y.moves x.lawful y.lawful;
      quiet = rw turns_of-append (quiet-append (turns_of x.moves) (turns_of y.moves) x.quiet y.quiet);
      done = done-then (First b.dark) (Then c.dark) (Both c.dark) a.plan b.plan c.plan v x.moves y.moves (λ first more f m. join.lit c.dark v first more (subst (λ dark. First dark v first) lit f) m) x.done y.done;
      owed = λ d. rw view_from-append (y.owed d);
    }

-- one part after the other, by what is due in each
pub triples-then : {First Then Both : Bool → View → List Act → Type 0} (a b c : Observed) (P Q R : View → Type 0) → Joins First Then Both → TripleBy First a b P Q → TripleBy Then b c Q R → TripleBy Both a c P R
triples-then a b c P Q R join x y = record {
  observed = λ before v e stands p. extends-then a b c P Q R join b.dark refl before v stands (x.observed before v e stands p) y;
  unobserved = λ e. y.unobserved (x.unobserved e);
  stays = λ e. y.stays (x.stays e);
  still = λ e. y.still (x.stays e) ∙ x.still e;
  rests = λ e. taken-then a.plan b.plan c.plan [] [] (x.rests e) (y.rests (x.stays e));
  origin = y.origin ∙ x.origin;
}

pub join-owed : Joins IsOwedBy IsOwedBy IsOwedBy
join-owed = record { lit = λ dark v first more f m. owed-append v first more f m; dark = λ v acts h. h }

pub triple-then : (a b c : Observed) (P Q R : View → Type 0) → Triple a b P Q → Triple b c Q R → Triple a c P R
triple-then a b c P Q R x y = triples-then a b c P Q R join-owed x y

-- up to one look, and then from it on
pub triple-then-to : (a b c : Observed) (own : Setup) (first mid last : Look) (P Q R : View → Type 0) → TripleBy (AreDueTo own first mid) a b P Q → TripleBy (AreDueTo own mid last) b c Q R → TripleBy (AreDueTo own first last) a c P R
triple-then-to a b c own first mid last P Q R x y = triples-then a b c P Q R (join-to own first mid last) x y

-- ---- weaker triples

-- what is done is due in a weaker sense
pub triple-due : (Due Then : Bool → View → List Act → Type 0) (a b : Observed) (P Q : View → Type 0) → ((dark : Bool) (v : View) (acts : List Act) → Due dark v acts → Then dark v acts) → TripleBy Due a b P Q → TripleBy Then a b P Q
triple-due Due Then a b P Q f k = record {
  observed = λ before v e stands p.
      let x = k.observed before v e stands p in
      record { moves = x.moves; log_is = x.log_is; lawful = x.lawful; quiet = x.quiet; done = done-by (Due b.dark) (Then b.dark) a.plan b.plan v x.moves (f b.dark v) x.done; owed = x.owed };
  unobserved = k.unobserved;
  stays = k.stays;
  still = k.still;
  rests = k.rests;
  origin = k.origin;
}

-- what is owed is due where no more need be looked at
pub owed-to : (own : Setup) (a b : Observed) (P Q : View → Type 0) → Triple a b P Q → TripleBy (AreDueTo own Looked Looked) a b P Q
owed-to own a b P Q x = triple-due IsOwedBy (AreDueTo own Looked Looked) a b P Q (owed-due-to own) x

pub triple-weaker : {Due : Bool → View → List Act → Type 0} (a b : Observed) (P' P Q Q' : View → Type 0) → ((v : View) → P' v → P v) → ((v : View) → Q v → Q' v) → TripleBy Due a b P Q → TripleBy Due a b P' Q'
triple-weaker a b P' P Q Q' f g k = record {
  observed = λ before v e stands p.
      let x = k.observed before v e stands (λ d. f v (p d)) in
      record { moves = x.moves; log_is = x.log_is; lawful = x.lawful; quiet = x.quiet; done = x.done; owed = λ d. g (view_from v x.moves) (x.owed d) };
  unobserved = k.unobserved;
  stays = k.stays;
  still = k.still;
  rests = k.rests;
  origin = k.origin;
}

pub triple-after : {Due : Bool → View → List Act → Type 0} (a b : Observed) (P Q R : View → Type 0) → TripleBy Due a b P Q → ((v : View) → Q v → R v) → TripleBy Due a b P R
triple-after a b P Q R x f = triple-weaker a b P P Q R (λ v p. p) f x

pub triple-before : {Due : Bool → View → List Act → Type 0} (a b : Observed) (P' P Q : View → Type 0) → ((v : View) → P' v → P v) → TripleBy Due a b P Q → TripleBy Due a b P' Q
triple-before a b P' P Q f x = triple-weaker a b P' P Q Q f (λ v q. q) x

lit-before : (d : Bool) (a b : Observed) → a.dark ≡ d → (a.dark ≡ true → b.dark ≡ true) → b.dark ≡ false → a.dark ≡ false
lit-before false a b e stays lit = e
lit-before true a b e stays lit = absurd (let h : true ≡ false = sym (stays e) ∙ lit in cc)

-- a fact that was there stays
pub triple-frame : {Due : Bool → View → List Act → Type 0} (a b : Observed) (P Q : View → Type 0) (A : Type 0) → TripleBy Due a b P Q → TripleBy Due a b (λ v. P v × A) (λ v. Q v × A)
triple-frame a b P Q A k = record {
  observed = λ before v e stands p.
      let x = k.observed before v e stands (λ d. (p d).0) in
      record { moves = x.moves; log_is = x.log_is; lawful = x.lawful; quiet = x.quiet; done = x.done; owed = λ d. (x.owed d, (p (lit-before a.dark a b refl k.stays d)).1) };
  unobserved = k.unobserved;
  stays = k.stays;
  still = k.still;
  rests = k.rests;
  origin = k.origin;
}

some-observed : {W : Type 0} (a b : Observed) (P : W → View → Type 0) (Q : View → Type 0) → (w : W) → ((w : W) → Triple a b (P w) Q) → (d : Bool) → a.dark ≡ d →
    (before : List Turn) (v : View) → a.log ≡ Some before → Stands before v → (a.dark ≡ false → (w : W) × P w v) → Extends a before v b Q
some-observed a b P Q w k false d before v e stands p = (k (p d).0).observed before v e stands (λ lit. (p d).1)
some-observed a b P Q w k true d before v e stands p = (k w).observed before v e stands (λ f. absurd (let h : true ≡ false = sym d ∙ f in cc))

-- for some value, where it holds for each; a value is wanted for a dark site
pub triple-some : {W : Type 0} (a b : Observed) (P : W → View → Type 0) (Q : View → Type 0) → (w : W) → ((w : W) → Triple a b (P w) Q) → Triple a b (λ v. (w : W) × P w v) Q
triple-some a b P Q w k = record {
  observed = λ before v e stands p. some-observed a b P Q w k a.dark refl before v e stands p;
  unobserved = (k w).unobserved;
  stays = (k w).stays;
  still = (k w).still;
  rests = (k w).rests;
  origin = (k w).origin;
}

-- ---- a call

-- what the call adds, by whether the site was dark before and is dark after it
extends-by : {Due : Bool → View → List Act → Type 0} (old : Observed) (before turns added : List Turn) (v : View) (new : Observed) (call : SiteCall) (Q : View → Type 0) (d n : Bool) → new.dark ≡ n → Added d n turns added → old.log ≡ Some before → new.log ≡ Some (before ++ added) →
    TakesCall d old new call → Due true v [] → (d ≡ false → (dark : Bool) (turns : List Turn) → Due dark v (ToTake (record { step = Made call; turns = turns }) ∷ [])) → (d ≡ false → IsCourse v (makes turns) × IsQuiet turns × Q (view_from v (makes turns))) → ExtendsBy Due old before v new Q
extends-by {Due = Due} old before turns added v new call Q true true n_is a o l taken none due step = nothing-extends old before v new Q (subst (λ dark. Due dark v []) (sym n_is) none) (l ∙ ap (λ t. Some (before ++ t)) a ∙ ap Some (append-nil before)) taken (λ e. absurd (let h : true ≡ false = sym n_is ∙ e in cc))
extends-by {Due = Due} old before turns added v new call Q true false n_is a o l taken none due step = absurd a
extends-by {Due = Due} old before turns added v new call Q false true n_is a o l taken none due step =
    let s = step refl in
    let e : makes turns ≡ makes added ++ makes a.0 = ap makes a.1 ∙ makes-append added a.0 in
    record {
      moves = makes added;
      log_is = rw turns_of-makes l;
      lawful = course-prefix v (makes added) (makes a.0) (rw e at s.0);
      quiet = rw turns_of-makes (quiet-prefix added a.0 (rw a.1 at s.1));
      done = done-step (Due new.dark) old.plan new.plan v (Made call) added (due refl new.dark added) (taken before added o l);
      owed = λ e. absurd (let h : true ≡ false = sym n_is ∙ e in cc);
    }
extends-by {Due = Due} old before turns added v new call Q false false n_is a o l taken none due step =
    let s = step refl in
    let all : new.log ≡ Some (before ++ turns) = l ∙ ap (λ t. Some (before ++ t)) a in
    record {
      moves = makes turns;
      log_is = rw turns_of-makes all;
      lawful = s.0;
      quiet = rw turns_of-makes s.1;
      done = done-step (Due new.dark) old.plan new.plan v (Made call) turns (due refl new.dark turns) (taken before turns o all);
      owed = λ e. s.2;
    }

still-by : (before : List Turn) (old new : Observed) → old.log ≡ Some before → (d n : Bool) → (turns added : List Turn) → d ≡ true → Added d n turns added → new.log ≡ Some (before ++ added) → new.log ≡ old.log
still-by before old new e true true turns added t a l = rw (e, l, a, append-nil) refl
still-by before old new e true false turns added t a l = absurd a
still-by before old new e false n turns added t a l = absurd (cc)

grows-still : (old new : Observed) (Call : List Turn → Type 0) → Grows old new Call → (o : Option (List Turn)) → old.log ≡ o → old.dark ≡ true → new.log ≡ old.log
grows-still old new Call grows None e d = grows.unobserved e ∙ sym e
grows-still old new Call grows (Some before) e d = let x = grows.observed before e in still-by before old new e old.dark new.dark x.0 x.1 d x.3 x.4

-- a single call of a site that is due, where each of its turns is allowed
pub call-triple-by : {Due : Bool → View → List Act → Type 0} (old new : Observed) (Call : List Turn → Type 0) (P Q : View → Type 0) → ((v : View) → Due true v []) → Grows old new Call → (call : SiteCall) → IsStep old new call →
    ((before : List Turn) (v : View) → old.log ≡ Some before → Stands before v → P v → LeadsBy Due call Call v Q) → TripleBy Due old new P Q
call-triple-by old new Call P Q none grows call taken step = record {
  observed = λ before v e stands p.
      let x = grows.observed before e in
      let leads = λ (d : old.dark ≡ false). step before v e stands (p d) in
      extends-by old before x.0 x.1 v new call Q old.dark new.dark refl x.3 e x.4 taken (none v) (λ d. (leads d).due) (λ d. (leads d).each x.0 x.2);
  unobserved = grows.unobserved;
  stays = grows.stays;
  still = λ d. grows-still old new Call grows old.log refl d;
  rests = λ d. subst (λ dark. TakesCall dark old new call) d taken;
  origin = grows.origin;
}

-- a single call of a site that is owed, where each of its turns is allowed
pub call-triple : (old new : Observed) (Call : List Turn → Type 0) (P Q : View → Type 0) → Grows old new Call → (call : SiteCall) → IsStep old new call →
    ((before : List Turn) (v : View) → old.log ≡ Some before → Stands before v → P v → Leads call Call v Q) → Triple old new P Q
call-triple old new Call P Q grows call taken step = call-triple-by old new Call P Q (λ v. tt) grows call taken
    (λ before v e stands p. let x = step before v e stands p in record { due = λ dark turns. (x.call_is_owed, tt); each = x.each })

-- ---- moves that make no call

quiet-done : (plan : Option Plan) (v : View) (move : Move) → turns_of (move ∷ []) ≡ [] → IsDone (AreOwed) plan plan v (move ∷ [])
quiet-done plan v Begin none = record { acts = ToBegin ∷ []; moves_are = refl; due = (tt, tt); taken = taken-none plan }
quiet-done plan v (Read as_read) none = record { acts = ToRead as_read ∷ []; moves_are = refl; due = (tt, tt); taken = taken-none plan }
quiet-done plan v (Make turn) none = absurd (let h : turn ∷ [] ≡ [] = none in cc)

quiet-observed : (s : Observed) (P : View → Type 0) (move : Move) (Q : View → Type 0) → ((v : View) → P v → Allowed v move × Q (after v move)) → turns_of (move ∷ []) ≡ [] →
    (d : Bool) → s.dark ≡ d → (before : List Turn) (v : View) → s.log ≡ Some before → (s.dark ≡ false → P v) → Extends s before v s Q
quiet-observed s P move Q step none true d before v e p = nothing-extends s before v s Q tt e (taken-none s.plan) (λ f. absurd (let h : true ≡ false = sym d ∙ f in cc))
quiet-observed s P move Q step none false d before v e p =
    let b = step v (p d) in
    record { moves = move ∷ []; log_is = rw none (rw append-nil e); lawful = (b.0, tt); quiet = rw none tt; done = quiet-done s.plan v move none; owed = λ f. b.1 }

-- a move that makes no turn
pub quiet-triple : (s : Observed) (P : View → Type 0) (move : Move) (Q : View → Type 0) → ((v : View) → P v → Allowed v move × Q (after v move)) → turns_of (move ∷ []) ≡ [] → Triple s s P Q
quiet-triple s P move Q step none = record {
  observed = λ before v e stands p. quiet-observed s P move Q step none s.dark refl before v e p;
  unobserved = λ e. e;
  stays = λ e. e;
  still = λ e. refl;
  rests = λ e. taken-none s.plan;
  origin = refl;
}

-- the first item begins: its row is owed
pub begin-triple : (s : Observed) (scene : Scene) (item : RoundItem) (items : List RoundItem) → is_round scene.stage ≡ true → may_begin scene (item ∷ items) ≡ true →
    Triple s s (Owing scene [] (item ∷ items)) (λ v. v ≡ begun scene (row_at scene item) items)
begin-triple s scene item items round first = quiet-triple s (Owing scene [] (item ∷ items)) Begin (λ v. v ≡ begun scene (row_at scene item) items) step refl
  where
    step : (v : View) → Owing scene [] (item ∷ items) v → Allowed v Begin × (after v Begin ≡ begun scene (row_at scene item) items)
    step v e = subst (λ w. Allowed w Begin × (after w Begin ≡ begun scene (row_at scene item) items)) (sym e) (record { idle = record { round = round; calls = refl }; first = first }, refl)

-- a message of a till that is there is read
pub read-triple : (s : Observed) (scene : Scene) (till : ℕ) (bytes : List ℕ) (as_read : ReadAs) (items : List RoundItem) → is_round scene.stage ≡ true → is_connected scene.outside.tills till ≡ true → IsReadAs bytes as_read →
    Triple s s (Owing scene [] (Message till bytes ∷ items)) (Owing (at_item scene) [] (Asked till as_read ∷ items))
read-triple s scene till bytes as_read items round there reads = quiet-triple s (Owing scene [] (Message till bytes ∷ items)) (Read as_read) (Owing (at_item scene) [] (Asked till as_read ∷ items)) step refl
  where
    step : (v : View) → Owing scene [] (Message till bytes ∷ items) v → Allowed v (Read as_read) × Owing (at_item scene) [] (Asked till as_read ∷ items) (after v (Read as_read))
    step v e = subst (λ w. Allowed w (Read as_read) × Owing (at_item scene) [] (Asked till as_read ∷ items) (after w (Read as_read))) (sym e)
        (record { idle = record { round = round; calls = refl }; waits = ap not there; bytes = bytes; message = refl; reads = reads }, refl)
