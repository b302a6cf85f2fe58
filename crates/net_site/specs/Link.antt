-- Whether a link is up.
use Rattle.std.specs.Prelude.{Bool, true, false}
use Rattle.net_site.specs.declared.links.Link.{Link}
use Rattle.net_site.specs.declared.links.Link.TheVariants.{Down, Making, Up}

-- bytes come and go on the link; not while it is being made
abbrev pub is_up : Link → Bool
is_up Down = false
is_up (Making stream begun) = false
is_up (Up stream) = true
