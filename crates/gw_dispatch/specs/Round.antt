-- What is owed as the loop goes through a round.
use Rattle.std.specs.Prelude.{◌≡◌, ℕ, ℤ, Bool, true, false, List, [], ◌∷◌, map, Some, None}
use Rattle.gw_base.specs.Moment.{moment_of}
use Rattle.gw_base.specs.declared.setup.Setup.{Setup}
use Rattle.gw_site.specs.Outside.{Outside}
use Rattle.jrn_record.specs.declared.records.Record.{Record}
use Rattle.gw_owes.specs.Calls.{CutTill, OwedCall}
use Rattle.gw_owes.specs.Core.{Core}
use Rattle.gw_owes.specs.Items.{RoundItem}
use Rattle.gw_owes.specs.Row.{Known}
use Rattle.gw_owes.specs.Terminals.{core_without}
use Rattle.gw_rules.specs.Scene.{Scene, known_in}
use Rattle.gw_rules.specs.Stage.{is_round}
use Rattle.gw_rules.specs.Triple.{Owing}
use Rattle.gw_rules.specs.View.{View}
use Rattle.gw_dispatch.specs.Tills.{rested, till_of, AreBelow}
use Rattle.gw_dispatch.specs.declared.tills.Till.{Till}

-- ---- a round

-- Inner: in a round, this is known, no record is in flight, so many polls were made, and this is the outside
pub record IsIn (known : Known) (polls : ℕ) (o : Outside) (scene : Scene) : Type 0 where
  pub setup_is : scene.setup ≡ Some known.setup
  pub known_is : known_in scene known.setup ≡ known
  pub flight : scene.flight ≡ None
  pub round : is_round scene.stage ≡ true
  pub polls_are : scene.polls ≡ polls
  pub outside_is : scene.outside ≡ o

-- Inner: these calls are owed in a round, and then these items come
abbrev pub Pending : Known → ℕ → Outside → List OwedCall → List RoundItem → View → Type 0
Pending known polls o calls items v = (scene : Scene) × Owing scene calls items v × IsIn known polls o scene

-- Inner: no call is owed in a round, and these items come
abbrev pub InRound : Known → ℕ → Outside → List RoundItem → View → Type 0
InRound known polls o items v = Pending known polls o [] items v

-- Inner: what is known, with this remembered in place of what was
abbrev pub with_core : Known → Core → Known
with_core known core = record known { core = core }

-- Inner: what is known once this till is gone
abbrev pub known_without : Known → ℕ → Known
known_without known till = with_core known (core_without known.core till)

-- ---- a reply

-- Inner: what is owed after a send to a till: nothing where it went, and else the cut of its connection
abbrev pub calls_after_send : Bool → ℕ → List OwedCall
calls_after_send true till = []
calls_after_send false till = CutTill till ∷ []

-- ---- what the loop holds

-- the loop holds the tills that are there, each with a reader that holds what is still to be taken of what was heard
pub record HoldsTills (tills : List Till) (o : Outside) : Type 0 where
  pub tills_are : map rested tills ≡ map till_of o.tills
  pub below : AreBelow o.next_till o.tills

-- Inner: what is known in a run with this setup at this moment, when this is remembered and kept
abbrev pub known_at : Setup → Core → List Record → ℤ → Known
known_at setup core kept now = record { setup = setup; core = core; kept = kept; moment = moment_of now }
