-- When a site is dark.
use Rattle.std.specs.Prelude.{Bool, ◌||◌, is_some}
use Rattle.sim_site.specs.declared.played.Played.{Played}

-- nothing is appended any more: the log could not grow, or the power has failed
abbrev pub is_dark : Played → Bool
is_dark played = played.short || is_some played.place.off
