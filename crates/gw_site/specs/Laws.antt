-- Laws of the images of a log.
use Rattle.std.specs.Prelude.{ℕ, List}
use Rattle.gw_site.specs.declared.turn.Turn.{Turn}
use Rattle.gw_site.specs.Outside.{outside_of}
use Rattle.gw_site.specs.Image.{Image, junked}

-- after every log, a power failure may leave the file of the last sync
abbrev pub StableIsImage : Type 0
StableIsImage = (log : List Turn) → Image (outside_of log) (outside_of log).stable

-- after every log, it may leave the file with all writes
abbrev pub FileIsImage : Type 0
FileIsImage = (log : List Turn) → Image (outside_of log) (outside_of log).file

-- after every log, it may leave the file with any one byte over all that was written since the last sync
abbrev pub JunkIsImage : Type 0
JunkIsImage = (junk : ℕ) (log : List Turn) → Image (outside_of log) (junked junk (outside_of log))
