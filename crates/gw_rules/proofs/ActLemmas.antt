-- Acts one after another: their moves, their steps, and what is due along them.
use Rattle.std.proofs.Common.{◌≡◌, List, [], ◌∷◌, ◌++◌, refl, sym, ◌∙◌, ap, subst, append_assoc, append-nil, inl, inr}
use Rattle.std.specs.Prelude.{Bool, true, false, Option, map}
use Rattle.std.proofs.lemmas.List.{map-append}
use Rattle.gw_base.specs.declared.setup.Setup.{Setup}
use Rattle.gw_site.specs.Steps.{Plan, SiteStep, Made, PowerBack, StopAfter, Holding, TakenStep, Takes, steps_of, turns_of_steps, log_of_parts}
use Rattle.gw_site.specs.declared.turn.Turn.{Turn}
use Rattle.gw_owes.specs.Calls.{OwedCall, SendTill, SendPt, CutTill, CutPt, LinkPt, WriteBody, WriteGate, WriteFirstGate, Sync, site_call}
use Rattle.gw_rules.specs.Acts.{Act, ToBegin, ToRead, ToTake, AreDue, AreDueTo, AreOwed, IsDone, IsDueAct, IsDueStep, IsOwedAct, IsOwedStep, Look, Looked, after_act, look_after, look_after_call, look_after_step, look_from, moves_of, taken_of}
use Rattle.gw_rules.specs.Lawful.{turns_of}
use Rattle.gw_rules.specs.View.{View, Move, Begin, Read, after, view_from}
use Rattle.gw_rules.proofs.CourseLemmas.{makes, makes-append, turns_of-append, turns_of-makes, view_from-append}

-- ---- the moves and the steps of acts

pub moves_of-append : (xs ys : List Act) → moves_of (xs ++ ys) ≡ moves_of xs ++ moves_of ys
moves_of-append [] ys = refl
moves_of-append (ToBegin ∷ xs) ys = ap (λ l. Begin ∷ l) (moves_of-append xs ys)
moves_of-append (ToRead as_read ∷ xs) ys = ap (λ l. Read as_read ∷ l) (moves_of-append xs ys)
moves_of-append (ToTake taken ∷ xs) ys = ap (λ l. makes taken.turns ++ l) (moves_of-append xs ys) ∙ sym (append_assoc (makes taken.turns) (moves_of xs) (moves_of ys))

pub taken_of-append : (xs ys : List Act) → taken_of (xs ++ ys) ≡ taken_of xs ++ taken_of ys
taken_of-append [] ys = refl
taken_of-append (ToBegin ∷ xs) ys = taken_of-append xs ys
taken_of-append (ToRead as_read ∷ xs) ys = taken_of-append xs ys
taken_of-append (ToTake taken ∷ xs) ys = ap (λ l. taken ∷ l) (taken_of-append xs ys)

-- the view after the moves of acts, one act at a time
pub view_from-act : (v : View) (act : Act) (acts : List Act) → view_from v (moves_of (act ∷ acts)) ≡ view_from (after_act v act) (moves_of acts)
view_from-act v ToBegin acts = refl
view_from-act v (ToRead as_read) acts = refl
view_from-act v (ToTake taken) acts = view_from-append v (makes taken.turns) (moves_of acts)

-- the turns of acts are those of their steps
pub turns-of-acts : (acts : List Act) → turns_of (moves_of acts) ≡ log_of_parts (turns_of_steps (taken_of acts))
turns-of-acts [] = refl
turns-of-acts (ToBegin ∷ acts) = turns-of-acts acts
turns-of-acts (ToRead as_read ∷ acts) = turns-of-acts acts
turns-of-acts (ToTake taken ∷ acts) =
    turns_of-append (makes taken.turns) (moves_of acts) ∙ ap (λ t. t ++ turns_of (moves_of acts)) (turns_of-makes taken.turns) ∙ ap (λ t. taken.turns ++ t) (turns-of-acts acts)

-- ---- what is due along acts

pub owed-append : (v : View) (xs ys : List Act) → AreOwed v xs → AreOwed (view_from v (moves_of xs)) ys → AreOwed v (xs ++ ys)
owed-append v [] ys h k = k
owed-append v (x ∷ xs) ys h k = (h.0, owed-append (after_act v x) xs ys h.1 (subst (λ w. AreOwed w ys) (view_from-act v x xs) k))

pub look_from-append : (own : Setup) (v : View) (look : Look) (xs ys : List Act) → look_from own v look (xs ++ ys) ≡ look_from own (view_from v (moves_of xs)) (look_from own v look xs) ys
look_from-append own v look [] ys = refl
look_from-append own v look (x ∷ xs) ys =
    look_from-append own (after_act v x) (look_after own v look x) xs ys ∙ ap (λ w. look_from own w (look_from own (after_act v x) (look_after own v look x) xs) ys) (sym (view_from-act v x xs))

pub due-append : (own : Setup) (v : View) (look : Look) (xs ys : List Act) → AreDue own v look xs → AreDue own (view_from v (moves_of xs)) (look_from own v look xs) ys → AreDue own v look (xs ++ ys)
due-append own v look [] ys h k = k
due-append own v look (x ∷ xs) ys h k =
    (h.0, due-append own (after_act v x) (look_after own v look x) xs ys h.1 (subst (λ w. AreDue own w (look_from own (after_act v x) (look_after own v look x) xs) ys) (view_from-act v x xs) k))

-- ---- owed acts are due where no more need be looked at, and no more is looked at then

owed-stays-call : (own : Setup) (v : View) (owed : OwedCall) → look_after_call own v Looked (site_call owed) ≡ Looked
owed-stays-call own v (SendTill till reply) = refl
owed-stays-call own v (SendPt pt sending) = refl
owed-stays-call own v (CutTill till) = refl
owed-stays-call own v (CutPt pt) = refl
owed-stays-call own v (LinkPt pt) = refl
owed-stays-call own v (WriteBody slot the_record) = refl
owed-stays-call own v (WriteGate slot the_record) = refl
owed-stays-call own v WriteFirstGate = refl
owed-stays-call own v Sync = refl

owed-stays-step : (own : Setup) (v : View) (step : SiteStep) → IsOwedStep v step → look_after_step own v Looked step ≡ Looked
owed-stays-step own v (Made call) (inl (owed, next, e)) = ap (look_after_call own v Looked) e ∙ owed-stays-call own v owed
owed-stays-step own v (Made call) (inr (may, e)) = ap (look_after_call own v Looked) e
owed-stays-step own v PowerBack h = absurd h
owed-stays-step own v (StopAfter calls kind) h = absurd h
owed-stays-step own v (Holding file) h = absurd h

owed-stays-act : (own : Setup) (v : View) (act : Act) → IsOwedAct v act → look_after own v Looked act ≡ Looked
owed-stays-act own v ToBegin h = refl
owed-stays-act own v (ToRead as_read) h = refl
owed-stays-act own v (ToTake taken) h = owed-stays-step own v taken.step h

owed-due-step : (own : Setup) (v : View) (step : SiteStep) → IsOwedStep v step → IsDueStep own v Looked step
owed-due-step own v (Made call) h = inl h
owed-due-step own v PowerBack h = tt
owed-due-step own v (StopAfter calls kind) h = h
owed-due-step own v (Holding file) h = h

owed-due-act : (own : Setup) (v : View) (act : Act) → IsOwedAct v act → IsDueAct own v Looked act
owed-due-act own v ToBegin h = tt
owed-due-act own v (ToRead as_read) h = tt
owed-due-act own v (ToTake taken) h = owed-due-step own v taken.step h

pub owed-looked : (own : Setup) (v : View) (acts : List Act) → AreOwed v acts → look_from own v Looked acts ≡ Looked
owed-looked own v [] h = refl
owed-looked own v (act ∷ acts) h = ap (λ look. look_from own (after_act v act) look acts) (owed-stays-act own v act h.0) ∙ owed-looked own (after_act v act) acts h.1

pub owed-due : (own : Setup) (v : View) (acts : List Act) → AreOwed v acts → AreDue own v Looked acts
owed-due own v [] h = tt
owed-due own v (act ∷ acts) h = (owed-due-act own v act h.0, subst (λ look. AreDue own (after_act v act) look acts) (sym (owed-stays-act own v act h.0)) (owed-due own (after_act v act) acts h.1))

-- owed acts are due where no more need be looked at, and lead no further
pub owed-due-to : (own : Setup) (dark : Bool) (v : View) (acts : List Act) → AreOwed v acts → AreDueTo own Looked Looked dark v acts
owed-due-to own dark v acts h = record { due = owed-due own v acts h; ends = λ e. owed-looked own v acts h }

-- ---- steps that were taken one after another

pub taken-none : (plan : Option Plan) → Takes plan plan []
taken-none plan later e = (later, e, λ more. refl)

pub taken-then : (a b c : Option Plan) (xs ys : List TakenStep) → Takes a b xs → Takes b c ys → Takes a c (xs ++ ys)
taken-then a b c xs ys h k later e =
    let y = k later e in
    let x = h y.0 y.1 in
    (x.0, x.1, λ more. all_taken x.0 y.0 later x.2 y.2 more)
  where
    all_taken : (first mid later : Plan) → ((more : List SiteStep) → first (steps_of xs ++ more) ≡ turns_of_steps xs ++ mid more) → ((more : List SiteStep) → mid (steps_of ys ++ more) ≡ turns_of_steps ys ++ later more) →
        (more : List SiteStep) → first (steps_of (xs ++ ys) ++ more) ≡ turns_of_steps (xs ++ ys) ++ later more
    all_taken first mid later f g more =
        ap (λ steps. first (steps ++ more)) (map-append (λ (one : TakenStep). one.step) xs ys)
        ∙ ap first (append_assoc (steps_of xs) (steps_of ys) more)
        ∙ f (steps_of ys ++ more)
        ∙ ap (λ parts. turns_of_steps xs ++ parts) (g more)
        ∙ sym (append_assoc (turns_of_steps xs) (turns_of_steps ys) (later more))
        ∙ ap (λ parts. parts ++ later more) (sym (map-append (λ (one : TakenStep). one.turns) xs ys))

-- ---- what is done along moves, one part after another

-- nothing is done
pub done-none : (Due : View → List Act → Type 0) (before after : Option Plan) (v : View) → Due v [] → Takes before after [] → IsDone Due before after v []
done-none Due before after v due taken = record { acts = []; moves_are = refl; due = due; taken = taken }

-- by something that is due no less
pub done-by : (Due Then : View → List Act → Type 0) (before after : Option Plan) (v : View) (moves : List Move) → ((acts : List Act) → Due v acts → Then v acts) → IsDone Due before after v moves → IsDone Then before after v moves
done-by Due Then before after v moves f x = record { acts = x.acts; moves_are = x.moves_are; due = f x.acts x.due; taken = x.taken }

-- the site takes one step
pub done-step : (Due : View → List Act → Type 0) (before after : Option Plan) (v : View) (step : SiteStep) (turns : List Turn) → Due v (ToTake (record { step = step; turns = turns }) ∷ []) → Takes before after (record { step = step; turns = turns } ∷ []) → IsDone Due before after v (makes turns)
done-step Due before after v step turns due taken = record { acts = ToTake (record { step = step; turns = turns }) ∷ []; moves_are = append-nil (makes turns); due = due; taken = taken }

-- the acts by which the site takes these steps
abbrev pub acts_of : List TakenStep → List Act
acts_of taken = map ToTake taken

pub moves_of-steps : (taken : List TakenStep) → moves_of (acts_of taken) ≡ makes (log_of_parts (turns_of_steps taken))
moves_of-steps [] = refl
moves_of-steps (one ∷ taken) = ap (λ l. makes one.turns ++ l) (moves_of-steps taken) ∙ sym (makes-append one.turns (log_of_parts (turns_of_steps taken)))

pub taken_of-steps : (taken : List TakenStep) → taken_of (acts_of taken) ≡ taken
taken_of-steps [] = refl
taken_of-steps (one ∷ taken) = ap (λ l. one ∷ l) (taken_of-steps taken)

-- the site takes steps, and nothing begins or is read between them
pub done-steps : (Due : View → List Act → Type 0) (before after : Option Plan) (v : View) (taken : List TakenStep) → Due v (acts_of taken) → Takes before after taken → IsDone Due before after v (makes (log_of_parts (turns_of_steps taken)))
done-steps Due before after v taken due takes = record { acts = acts_of taken; moves_are = moves_of-steps taken; due = due; taken = subst (Takes before after) (sym (taken_of-steps taken)) takes }

-- the site rests after it
pub done-rests : (Due Then : View → List Act → Type 0) (a b c : Option Plan) (v : View) (moves : List Move) → ((acts : List Act) → Due v acts → Then v acts) → IsDone Due a b v moves → Takes b c [] → IsDone Then a c v moves
done-rests Due Then a b c v moves f x rests = record {
  acts = x.acts;
  moves_are = x.moves_are;
  due = f x.acts x.due;
  taken = subst (Takes a c) (append-nil (taken_of x.acts)) (taken-then a b c (taken_of x.acts) [] x.taken rests);
}

-- one after the other
pub done-then : (First Then Both : View → List Act → Type 0) (a b c : Option Plan) (v : View) (xs ys : List Move) →
    ((first more : List Act) → First v first → Then (view_from v (moves_of first)) more → Both v (first ++ more)) → IsDone First a b v xs → IsDone Then b c (view_from v xs) ys → IsDone Both a c v (xs ++ ys)
done-then First Then Both a b c v xs ys join x y = record {
  acts = x.acts ++ y.acts;
  moves_are = moves_of-append x.acts y.acts ∙ ap (λ l. l ++ moves_of y.acts) x.moves_are ∙ ap (λ l. xs ++ l) y.moves_are;
  due = join x.acts y.acts x.due (subst (λ moves. Then (view_from v moves) y.acts) (sym x.moves_are) y.due);
  taken = subst (Takes a c) (sym (taken_of-append x.acts y.acts)) (taken-then a b c (taken_of x.acts) (taken_of y.acts) x.taken y.taken);
}

-- ---- parts that follow each other

-- what is due in one part, and then in another, is due in both; where the site is dark after the first the other does nothing
pub record Joins (First Then Both : Bool → View → List Act → Type 0) : Type 0 where
  pub lit : (dark : Bool) (v : View) (first more : List Act) → First false v first → Then dark (view_from v (moves_of first)) more → Both dark v (first ++ more)
  pub dark : (v : View) (acts : List Act) → First true v acts → Both true v acts

-- each step is due, from this look on
abbrev pub IsDueFrom : Setup → Look → Bool → View → List Act → Type 0
IsDueFrom own first dark v acts = AreDue own v first acts

pub join-to : (own : Setup) (first mid last : Look) → Joins (AreDueTo own first mid) (AreDueTo own mid last) (AreDueTo own first last)
join-to own first mid last = record {
  lit = λ dark v xs ys x y. record {
    due = due-append own v first xs ys x.due (subst (λ look. AreDue own (view_from v (moves_of xs)) look ys) (sym (x.ends refl)) y.due);
    ends = λ e. look_from-append own v first xs ys ∙ ap (λ look. look_from own (view_from v (moves_of xs)) look ys) (x.ends refl) ∙ y.ends e;
  };
  dark = λ v acts x. record { due = x.due; ends = λ e. absurd (let h : true ≡ false = e in cc) };
}

pub join-due : (own : Setup) (first mid : Look) → Joins (AreDueTo own first mid) (IsDueFrom own mid) (IsDueFrom own first)
join-due own first mid = record {
  lit = λ dark v xs ys x y. due-append own v first xs ys x.due (subst (λ look. AreDue own (view_from v (moves_of xs)) look ys) (sym (x.ends refl)) y);
  dark = λ v acts x. x.due;
}
