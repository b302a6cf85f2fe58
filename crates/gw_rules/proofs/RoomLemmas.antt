-- How many slots are enough for what is reserved, and the moments of a log.
use Rattle.std.proofs.Common.{◌≡◌, ◌≤◌, ℕ, ◌+◌, ◌*◌, List, [], ◌∷◌, length, refl, sym, subst, arith}
use Rattle.std.proofs.lemmas.Int.{ints}
use Rattle.std.specs.Prelude.{pos}
use Rattle.gw_base.specs.Moment.{IsMoment, last_moment}
use Rattle.gw_base.proofs.MomentLemmas.{moment_of_bound}
use Rattle.gw_site.specs.Outside.{Outside, outside_after, outside_from}
use Rattle.gw_site.specs.declared.turn.Turn.{Turn}
use Rattle.gw_site.specs.declared.turn.Turn.TheVariants.{Start, OpenFailed, Polled, Opened, HeardTill, Closed, HeardPt, Lost, Stopped, Linked, LinkFailed, SentTill, SentPt, CutTill, CutPt, Wrote, Synced, DiskFailed, Crash}
use Rattle.jrn_record.specs.declared.records.Record.{Record}
use Rattle.gw_ledger.specs.Sums.{open_count_of}
use Rattle.gw_owes.specs.Core.{Core}
use Rattle.gw_owes.specs.DeviceRequests.{greatest_device_number}
use Rattle.gw_owes.specs.RecordLaws.{HasRoom, IsNumbered}
use Rattle.gw_owes.specs.Waits.{slots_reserved}

-- ---- moments

pub moment-after : (o : Outside) (turn : Turn) → o.moment ≤ last_moment → (outside_after o turn).moment ≤ last_moment
moment-after o (Start setup) h = omega arith
moment-after o OpenFailed h = omega arith
moment-after o (Polled now) h = moment_of_bound now
moment-after o (Opened till) h = h
moment-after o (HeardTill till bytes) h = h
moment-after o (Closed till) h = h
moment-after o (HeardPt pt bytes) h = h
moment-after o (Lost pt) h = h
moment-after o Stopped h = h
moment-after o (Linked pt) h = h
moment-after o (LinkFailed pt) h = h
moment-after o (SentTill till bytes ok) h = h
moment-after o (SentPt pt bytes ok) h = h
moment-after o (CutTill till) h = h
moment-after o (CutPt pt) h = h
moment-after o (Wrote offset bytes) h = h
moment-after o Synced h = h
moment-after o DiskFailed h = h
moment-after o (Crash file) h = omega arith

pub moment-from : (o : Outside) (turns : List Turn) → o.moment ≤ last_moment → (outside_from o turns).moment ≤ last_moment
moment-from o [] h = h
moment-from o (turn ∷ turns) h = moment-from (outside_after o turn) turns (moment-after o turn h)

pub moment-is : (moment : ℕ) → moment ≤ last_moment → IsMoment (pos moment)
moment-is moment h = (omega (arith, ints), omega (arith, ints))

-- ---- slots

pub no-fewer : (count : ℕ) → count ≤ count
no-fewer count = omega arith

pub sum-falls : (records keys days fewer slots : ℕ) → fewer ≤ days → records + (keys + days) ≤ slots → records + (keys + fewer) ≤ slots
sum-falls records keys days fewer slots falls room = omega arith

pub sum-without : (records keys days slots : ℕ) → records + (keys + days) ≤ slots → records + keys ≤ slots
sum-without records keys days slots room = omega arith

pub sum-with-none : (records keys days slots : ℕ) → days ≡ 0 → records + keys ≤ slots → records + (keys + days) ≤ slots
sum-with-none records keys days slots none room = omega arith

-- where fewer slots are reserved, as many are enough
pub fewer-days : (slots : ℕ) (records : List Record) (core new : Core) → slots_reserved new ≤ slots_reserved core → HasRoom slots records core → HasRoom slots records new
fewer-days slots records core new falls room = sum-falls (length records) (open_count_of records) (slots_reserved core) (slots_reserved new) slots falls room

-- where none is reserved
pub with-no-days : (slots : ℕ) (records : List Record) (core : Core) → slots_reserved core ≡ 0 → length records + open_count_of records ≤ slots → HasRoom slots records core
with-no-days slots records core none room = sum-with-none (length records) (open_count_of records) (slots_reserved core) slots none room

-- with no more ends of day that are served, and no more requests that wait, no more is reserved
pub fewer-reserved : (days before waits more : ℕ) → days ≤ before → waits ≤ more → days + 2 * waits ≤ before + 2 * more
fewer-reserved days before waits more falls fewer = omega arith

-- no more is reserved, and nothing is requested of a device
abbrev pub CountsStay : Core → Core → Type 0
CountsStay core new = (slots_reserved new ≤ slots_reserved core) × (new.device_requests ≡ core.device_requests)

pub same-counts : (core : Core) → CountsStay core core
same-counts core = (no-fewer (slots_reserved core), refl)

pub stays-numbered : (core new : Core) → CountsStay core new → IsNumbered core → IsNumbered new
stays-numbered core new counts numbered = subst (λ number. number ≤ greatest_device_number) (sym counts.1) numbered

pub none-stays : (core new : Core) → CountsStay core new → slots_reserved core ≡ 0 → slots_reserved new ≡ 0
none-stays core new counts none = at-most-none (slots_reserved new) (subst (λ days. slots_reserved new ≤ days) none counts.0)
  where
    at-most-none : (days : ℕ) → days ≤ 0 → days ≡ 0
    at-most-none days h = omega arith
