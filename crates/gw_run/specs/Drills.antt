-- Inner: what was done with the site of a drill.
use Rattle.std.specs.Prelude.{◌≡◌, ◌⊎◌, ℕ, List, false, true, is_some}
use Rattle.gw_bytes.specs.Bytes.{IsPrefix}
use Rattle.gw_script.specs.site.Drill.{drill_origin, drill_turns}
use Rattle.gw_script.specs.site.Peers.{book_of_peer}
use Rattle.gw_drill.specs.DrillBooks.{drill_setup}
use Rattle.sim_site.specs.Sites.{log_of, place_of, sim_observed}
use Rattle.sim_site.specs.declared.site.SimSite.{SimSite}
use Rattle.gw_dispatch.specs.declared.engine.Ended.TheVariants.{NoMemory}
use Rattle.gw_dispatch.specs.declared.engine.TalliedEnd.{TalliedEnd}
use Rattle.gw_drill.specs.declared.counts.Counts.{Counts}
use Rattle.gw_run.specs.Drill.{drill_text}
use Rattle.gw_run.specs.PlayedRuns.{HasTallied}
use Rattle.gw_run.specs.Top.{tail_of}
use Rattle.gw_run.specs.declared.ending.Ending.{Ending}
use Rattle.gw_run.specs.declared.ending.Ending.TheVariants.{Played, Memory, OutputFailed}

-- Inner: the runs over the site of the drill with these two numbers have ended so; the site is dark only where memory was refused
pub record HasRunDrill (from payments : ℕ) (end : TalliedEnd) (site : SimSite) : Type 0 where
  pub ran : HasTallied drill_setup (drill_turns from payments) end (sim_observed site) (log_of site)
  pub lit : (end.ended ≡ NoMemory → ⊥) → (sim_observed site).dark ≡ false
  pub origin_is : (sim_observed site).origin ≡ drill_origin from payments

-- Inner: so it is of some drill
abbrev pub IsRunDrill : TalliedEnd → SimSite → Type 0
IsRunDrill end site = (from : ℕ) × (payments : ℕ) × HasRunDrill from payments end site

-- Inner: the terminal of this number is played
abbrev pub IsPlayedAt : SimSite → ℕ → Type 0
IsPlayedAt site pt = is_some (book_of_peer (place_of site).peers pt) ≡ true

-- Inner: an end that a drill may have
abbrev pub IsDrillEnd : Ending → Type 0
IsDrillEnd ending = (ending ≡ Played) ⊎ ((ending ≡ Memory) ⊎ (ending ≡ OutputFailed))

-- Inner: what is written of counts, by the end that is reported: all of it, or the lines of an end without memory, or a prefix of either
abbrev pub CountsWritten : Counts → Ending → List ℕ → Type 0
CountsWritten counts ending added =
    ((ending ≡ Played) × (added ≡ drill_text counts))
    ⊎ (((ending ≡ Memory) × (added ≡ tail_of Memory))
    ⊎ ((ending ≡ OutputFailed) × (IsPrefix added (drill_text counts) ⊎ IsPrefix added (tail_of Memory))))
