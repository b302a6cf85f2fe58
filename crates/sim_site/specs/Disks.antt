-- Inner: the disk that a site holds is that of its log.
use Rattle.std.specs.Prelude.{◌≡◌, ℕ, false, get_or}
use Rattle.gw_site.specs.Image.{is_covered}
use Rattle.gw_site.specs.Outside.{Outside}
use Rattle.sim_site.specs.Ranges.{ranges_value}
use Rattle.sim_site.specs.declared.disk.Disk.{Disk}

-- this is the disk of this outside
pub record HasDisk (o : Outside) (disk : Disk) : Type 0 where
  pub file : o.file ≡ disk.file.items
  pub stable : o.stable ≡ disk.stable.items
  pub ranges : o.written ≡ ranges_value disk.written.items
  -- the file equals that of the last sync, and holds zeros past its end, where no write covered it since
  pub kept : (offset : ℕ) → is_covered o.written offset ≡ false → get_or o.file offset 0 ≡ get_or o.stable offset 0
