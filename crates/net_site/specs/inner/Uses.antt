-- Inner: a call on the disk alone.
use Rattle.std.specs.Prelude.{◌≡◌, Result, Ok, Err}
use Rattle.net_site.specs.Holding.{DiskState, IsUsable, failed_disk}

-- Ok only where the file is open and no call on it has failed before, and after a failure the disk has failed
abbrev pub IsUseOf : {T E : Type 0} → DiskState → DiskState → Result T E → Type 0
IsUseOf old new (Ok done) = IsUsable old × (new ≡ old)
IsUseOf old new (Err failed) = new ≡ failed_disk old
