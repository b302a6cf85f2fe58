-- What fail and power lines have armed, as the play of a script sees it.
use Rattle.std.specs.Prelude.{ℕ, Bool, Option, option_map}
use Rattle.std.specs.BTreeMap.{BTreeMap, get}
use Rattle.std.specs.BTreeSet.{BTreeSet, contains}
use Rattle.std.specs.Ordering.{nat_cmp}
use Rattle.gw_script.specs.site.Hazards.{Armed, Hazard}
use Rattle.sim_script.specs.Values.{image_value}
use Rattle.sim_site.specs.declared.hazard.Armed.{Armed as HeldArmed}
use Rattle.sim_site.specs.declared.hazard.Hazard.{Hazard as HeldHazard}

-- failing links, by the terminal's number
abbrev pub links_value : BTreeSet ℕ → ℕ → Bool
links_value links pt = contains nat_cmp links pt

-- failing sends, by the connection's number
abbrev pub sends_value : BTreeMap ℕ ℕ → ℕ → Option ℕ
sends_value sends number = get nat_cmp sends number

-- when the power fails
abbrev pub armed_value : HeldArmed → Armed
armed_value armed = record { calls = armed.calls; kind = image_value armed.kind }

-- what is armed
abbrev pub hazard_value : HeldHazard → Hazard
hazard_value hazard = record {
  fail_open = hazard.open;
  fail_links = links_value hazard.links;
  fail_tills = sends_value hazard.tills;
  fail_pts = sends_value hazard.pts;
  fail_write = hazard.write;
  fail_sync = hazard.sync;
  fail_length = hazard.length;
  fail_read = hazard.read;
  power = option_map armed_value hazard.power;
}
