-- A gateway that does one thing after each past has one log of a script, whatever calls and power failures there are.
use Rattle.std.specs.Prelude.{◌≡◌, List, ◌∷◌, ◌++◌, Option, Some, None}
use Rattle.gw_site.specs.declared.turn.Turn.{Turn}
use Rattle.gw_site.specs.Steps.{SiteStep}
use Rattle.gw_script.specs.site.Calls.{PlaysBy}
use Rattle.gw_script.specs.site.ScriptLine.{PlayedLine}

-- what a gateway does next, or that it does no more, by the steps so far and their log: they determine what each of its calls has returned
abbrev pub Caller : Type 0
Caller = List SiteStep → List Turn → Option SiteStep

-- the gateway has done this with a site that plays these lines, and does no more
pub record IsDoneBy (caller : Caller) (lines : List PlayedLine) (steps : List SiteStep) (log : List Turn) : Type 0 where
  pub plays : PlaysBy lines steps log
  -- each step is what it does after those before it, with their log
  pub each : (before : List SiteStep) (step : SiteStep) (rest : List SiteStep) (past : List Turn) → steps ≡ before ++ step ∷ rest → PlaysBy lines before past → caller before past ≡ Some step
  pub ends : caller steps log ≡ None

-- a gateway does one thing in all with the lines of a script, with one log
abbrev pub OneLogOfCaller : Type 0
OneLogOfCaller = (caller : Caller) (lines : List PlayedLine) (steps others : List SiteStep) (log other : List Turn) → IsDoneBy caller lines steps log → IsDoneBy caller lines others other → (steps ≡ others) × (log ≡ other)
