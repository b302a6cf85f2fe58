-- A terminal's connection: whether there is one, its cut, and what an attempt to make it and its loss leave and owe.
use Rattle.std.specs.Prelude.{ℕ, Bool, true, false, [], ◌∷◌}
use Rattle.gw_owes.specs.Calls.{CutPt}
use Rattle.gw_owes.specs.declared.terminal.Standing.{Standing}
use Rattle.gw_owes.specs.declared.terminal.Standing.TheVariants.{Unlinked, Registering, Enquiring, Ready, Serving, Aside}
use Rattle.gw_owes.specs.declared.terminal.Terminal.{Terminal}
use Rattle.gw_owes.specs.Row.{Known, Row, owing, owing_where}
use Rattle.gw_owes.specs.Terminals.{terminal_at, of_terminal, link_made, link_lost}

-- ---- terminals that are linked

-- a terminal of this standing has a connection
abbrev pub is_linked : Standing → Bool
is_linked (Unlinked due) = false
is_linked Registering = true
is_linked Enquiring = true
is_linked (Ready last) = true
is_linked (Serving service last) = true
is_linked (Aside before reported) = true

-- what is owed of the terminal of this number, where there is one and it is linked
abbrev pub of_linked : Known → ℕ → (Terminal → Row) → Row
of_linked known number row = of_terminal known (λ terminal. owing_where (is_linked terminal.standing) known (row terminal)) (terminal_at known number)

-- the terminal's connection is cut; with the cut its link is lost
abbrev pub cutting : Known → ℕ → Row
cutting known number = owing known (CutPt number ∷ [])

-- ---- links that are made, and links that aren't

-- what became of a terminal's link
pub data LinkEvent : Type 0 where
  -- it is made
  LinkIsMade : LinkEvent
  -- it could not be made
  LinkHasFailed : LinkEvent
  -- it is lost: the terminal has closed it, or it was cut
  LinkIsLost : LinkEvent

-- What an event of its link leaves of a terminal, and owes. A terminal whose link could not be made serves nothing, so that as after a loss it is due in five seconds, and no more.
abbrev pub link_row : Known → ℕ → LinkEvent → Row
link_row known number LinkIsMade = link_made known number
link_row known number LinkHasFailed = link_lost known number
link_row known number LinkIsLost = link_lost known number
