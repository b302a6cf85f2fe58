-- A gateway that does one thing after each past does one thing in all.
use Rattle.std.proofs.Common.{◌≡◌, List, [], ◌∷◌, ◌++◌, refl, sym, ◌∙◌, ap, subst, append-nil, append_assoc}
use Rattle.std.specs.Prelude.{Option, Some, None}
use Rattle.gw_site.specs.declared.turn.Turn.{Turn}
use Rattle.gw_site.specs.Steps.{SiteStep}
use Rattle.gw_script.specs.site.Calls.{PlaysBy}
use Rattle.gw_script.specs.site.Callers.{OneLogOfCaller}
use Rattle.gw_script.specs.site.Playing.{begins}
use Rattle.gw_script.specs.site.ScriptLine.{PlayedLine}
use Rattle.gw_script.proofs.site.CallLemmas.{leads_by_part, one-log-of-calls}

-- the steps before others have a log
steps_play : (lines : List PlayedLine) (steps before more : List SiteStep) (log : List Turn) → steps ≡ before ++ more → PlaysBy lines steps log → (past : List Turn) × PlaysBy lines before past
steps_play lines steps before more log is plays =
    let (after, leads) = subst (λ s. PlaysBy lines s log) is plays in
    let (past, middle, part) = leads_by_part before [] (begins lines) more log after leads in
    (past, (middle, part))

some_step : (a b : SiteStep) → Some a ≡ Some b → a ≡ b
some_step a b e = cc

-- what a gateway may do next, or that it may do no more, by the steps so far and their log
abbrev pub MayDo : Type 1
MayDo = List SiteStep → List Turn → Option SiteStep → Type 0

-- it may do one thing at most
abbrev pub DoesOneThing : MayDo → Type 0
DoesOneThing may = (steps : List SiteStep) (log : List Turn) (first other : Option SiteStep) → may steps log first → may steps log other → first ≡ other

-- the gateway has done this with a site that plays these lines, and does no more
pub record HasDone (may : MayDo) (lines : List PlayedLine) (steps : List SiteStep) (log : List Turn) : Type 0 where
  plays : PlaysBy lines steps log
  each : (before : List SiteStep) (step : SiteStep) (rest : List SiteStep) (past : List Turn) → steps ≡ before ++ step ∷ rest → PlaysBy lines before past → may before past (Some step)
  ends : may steps log None

-- it doesn't end where it goes on
no_end : (may : MayDo) (lines : List PlayedLine) (steps others : List SiteStep) (log other : List Turn) → DoesOneThing may → HasDone may lines steps log → HasDone may lines others other → (before : List SiteStep) (step : SiteStep) (rest : List SiteStep) →
    steps ≡ before ++ [] → others ≡ before ++ step ∷ rest → ⊥
no_end may lines steps others log other one first second before step rest e f =
    let same : steps ≡ before = e ∙ append-nil before in
    let goes = second.each before step rest log f (subst (λ s. PlaysBy lines s log) same first.plays) in
    let h : Some step ≡ None = one before log (Some step) None goes (subst (λ s. may s log None) same first.ends) in
    cc

module _ (may : MayDo) (lines : List PlayedLine) (steps others : List SiteStep) (log other : List Turn) (one : DoesOneThing may) (first : HasDone may lines steps log) (second : HasDone may lines others other) where
  -- what comes after what both have done is the same
  same_rest : (before rest left : List SiteStep) → steps ≡ before ++ rest → others ≡ before ++ left → rest ≡ left
  same_rest before [] [] e f = refl
  same_rest before [] (step ∷ left) e f = absurd (no_end may lines steps others log other one first second before step left e f)
  same_rest before (step ∷ rest) [] e f = absurd (no_end may lines others steps other log one second first before step rest f e)
  same_rest before (step ∷ rest) (next ∷ left) e f =
      let (past, plays) = steps_play lines steps before (step ∷ rest) log e first.plays in
      let same : step ≡ next = some_step step next (one before past (Some step) (Some next) (first.each before step rest past e plays) (second.each before next left past f plays)) in
      let more = same_rest (before ++ step ∷ []) rest left (e ∙ sym (append_assoc before (step ∷ []) rest)) (f ∙ ap (λ s. before ++ s ∷ left) (sym same) ∙ sym (append_assoc before (step ∷ []) left)) in
      ap (λ s. s ∷ rest) same ∙ ap (λ s. next ∷ s) more

  -- what it may do need not be given as a function
  pub one-done : (steps ≡ others) × (log ≡ other)
  one-done =
      let same : steps ≡ others = same_rest [] steps others refl refl in
      (same, one-log-of-calls lines others log other (subst (λ s. PlaysBy lines s log) same first.plays) second.plays)

pub one-log-of-caller : OneLogOfCaller
one-log-of-caller caller lines steps others log other first second =
    one-done (λ s l next. caller s l ≡ next) lines steps others log other (λ s l next last e f. sym e ∙ f) (record { plays = first.plays; each = first.each; ends = first.ends }) (record { plays = second.plays; each = second.each; ends = second.ends })
