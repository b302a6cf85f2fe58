-- What happens to a site, step by step, and how its steps lead from what further steps would have before them to what they would have after them.
use Rattle.std.specs.Prelude.{◌≡◌, ℕ, List, [], ◌∷◌, ◌++◌, Option, Some, map}
use Rattle.gw_base.specs.declared.setup.Setup.{Setup}
use Rattle.gw_site.specs.declared.turn.Turn.{Turn}

-- ---- steps

-- a call on the site, and what is handed to it
pub data SiteCall : Type 0 where
  -- a run is to begin with this setup
  OpenCall : Setup → SiteCall
  PollCall : SiteCall
  -- these bytes are to be sent to this till
  SendTillCall : ℕ → List ℕ → SiteCall
  -- these bytes are to be sent to this terminal
  SendPtCall : ℕ → List ℕ → SiteCall
  -- this terminal is to be linked
  LinkCall : ℕ → SiteCall
  CutTillCall : ℕ → SiteCall
  CutPtCall : ℕ → SiteCall
  -- the file's length is asked
  LengthCall : SiteCall
  -- so many bytes of the file from an offset on are asked
  ReadCall : ℕ → ℕ → SiteCall
  -- these bytes are to be written at an offset
  WriteCall : ℕ → List ℕ → SiteCall
  SyncCall : SiteCall

-- what a power failure leaves of the file
pub data ImageKind : Type 0 where
  -- the file of the last sync
  Old : ImageKind
  -- the file with all writes
  New : ImageKind
  -- the file with all writes, with this byte wherever one was written since the last sync
  Junk : ℕ → ImageKind

-- what happens to a site
pub data SiteStep : Type 0 where
  -- the gateway makes this call
  Made : SiteCall → SiteStep
  -- the power, which has failed, is there again
  PowerBack : SiteStep
  -- beside what is played the power is set to fail after so many more calls, and to leave this
  StopAfter : ℕ → ImageKind → SiteStep
  -- beside what is played, before the first turn, this file is put on the disk, as if a power failure had left it
  Holding : List ℕ → SiteStep

-- a step that was taken, and its turns
pub record TakenStep : Type 0 where
  pub step : SiteStep
  pub turns : List Turn

-- the steps alone
abbrev pub steps_of : List TakenStep → List SiteStep
steps_of taken = map (λ (one : TakenStep). one.step) taken

-- the turns of each
abbrev pub turns_of_steps : List TakenStep → List (List Turn)
turns_of_steps taken = map (λ (one : TakenStep). one.turns) taken

-- the log whose parts these are
abbrev pub log_of_parts : List (List Turn) → List Turn
log_of_parts [] = []
log_of_parts (turns ∷ parts) = turns ++ log_of_parts parts

-- the turns of each of further steps, for as long as they can be taken
abbrev pub Plan : Type 0
Plan = List SiteStep → List (List Turn)

-- these steps were taken: where it is known which turns further steps have after them, it was before, and these steps have these turns
abbrev pub Takes : Option Plan → Option Plan → List TakenStep → Type 0
Takes before after taken = (later : Plan) → after ≡ Some later → (plan : Plan) × (before ≡ Some plan) × ((more : List SiteStep) → plan (steps_of taken ++ more) ≡ turns_of_steps taken ++ later more)
