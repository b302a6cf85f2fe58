-- What fail and power lines have armed: which calls fail, and when the power fails.
use Rattle.std.specs.Prelude.{ℕ, Bool, true, false, min, ◌==◌, if◌then◌else◌, List, Option, Some, None, take}
use Rattle.gw_site.specs.Image.{junked}
use Rattle.gw_site.specs.Outside.{Outside, is_connected}
use Rattle.gw_site.specs.Steps.{ImageKind, Old, New, Junk}
use Rattle.gw_script.specs.site.ScriptLine.{Failing, FailOpen, FailLink, FailSendTill, FailSendPt, FailWrite, FailSync, FailLength, FailRead}

-- the power fails after so many more calls, at least one, and leaves this
pub record Armed : Type 0 where
  pub calls : ℕ
  pub kind : ImageKind

-- the next calls of these kinds fail
pub record Hazard : Type 0 where
  pub fail_open : Bool
  -- by the terminal's number
  pub fail_links : ℕ → Bool
  -- by the connection's number, how many bytes it takes at most
  pub fail_tills : ℕ → Option ℕ
  pub fail_pts : ℕ → Option ℕ
  pub fail_write : Bool
  pub fail_sync : Bool
  pub fail_length : Bool
  pub fail_read : Bool
  pub power : Option Armed

-- no call fails
abbrev pub no_hazard : Hazard
no_hazard = record { fail_open = false; fail_links = λ _. false; fail_tills = λ _. None; fail_pts = λ _. None; fail_write = false; fail_sync = false; fail_length = false; fail_read = false; power = None }

-- the lesser of these numbers, where there are two
abbrev pub least : Option ℕ → ℕ → ℕ
least None most = most
least (Some other) most = min other most

-- with one more fail line for the link of this terminal
abbrev pub links_with : (ℕ → Bool) → ℕ → ℕ → Bool
links_with links pt = λ other. if other == pt then true else links other

-- with one more fail line for sends on the connection of this number: of two lines for it the lesser number holds
abbrev pub sends_with : (ℕ → Option ℕ) → ℕ → ℕ → ℕ → Option ℕ
sends_with sends number most = λ other. if other == number then Some (least (sends number) most) else sends other

-- with one more fail line
abbrev pub armed : Failing → Hazard → Hazard
armed FailOpen h = record h { fail_open = true }
armed (FailLink pt) h = record h { fail_links = links_with h.fail_links pt }
armed (FailSendTill till most) h = record h { fail_tills = sends_with h.fail_tills till most }
armed (FailSendPt pt most) h = record h { fail_pts = sends_with h.fail_pts pt most }
armed FailWrite h = record h { fail_write = true }
armed FailSync h = record h { fail_sync = true }
armed FailLength h = record h { fail_length = true }
armed FailRead h = record h { fail_read = true }

-- the fail line isn't skipped: the till or link whose sends it names is open
abbrev pub is_reached : Outside → Failing → Bool
is_reached o FailOpen = true
is_reached o (FailLink pt) = true
is_reached o (FailSendTill till most) = is_connected o.tills till
is_reached o (FailSendPt pt most) = is_connected o.links pt
is_reached o FailWrite = true
is_reached o FailSync = true
is_reached o FailLength = true
is_reached o FailRead = true

-- the link of this terminal fails
abbrev pub is_failing : (ℕ → Bool) → ℕ → Bool
is_failing links pt = links pt

-- all fail lines for the link of this terminal are used up
abbrev pub links_without : (ℕ → Bool) → ℕ → ℕ → Bool
links_without links pt = λ other. if other == pt then false else links other

-- how many bytes the next send on the connection of this number takes, where it fails: the least number of all lines for it
abbrev pub takes_most : (ℕ → Option ℕ) → ℕ → Option ℕ
takes_most sends number = sends number

-- what the next send takes of these bytes: all, or where it fails the first so many
abbrev pub sent_of : Option ℕ → List ℕ → List ℕ
sent_of None bytes = bytes
sent_of (Some most) bytes = take most bytes

-- all fail lines for sends on the connection of this number are used up
abbrev pub sends_without : (ℕ → Option ℕ) → ℕ → ℕ → Option ℕ
sends_without sends number = λ other. if other == number then None else sends other

-- what a power failure keeps: a failing open, length or read still waits for its call, and everything else is forgotten
abbrev pub kept_by_crash : Hazard → Hazard
kept_by_crash h = record no_hazard { fail_open = h.fail_open; fail_length = h.fail_length; fail_read = h.fail_read }

-- the file that a power failure leaves
abbrev pub crash_file : ImageKind → Outside → List ℕ
crash_file Old o = o.stable
crash_file New o = o.file
crash_file (Junk byte) o = junked byte o
