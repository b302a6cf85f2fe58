-- The ledger in which `take` counts its steps.
use Rattle.gw_links.proofs.lines.Lines.take.Given as goal

abbrev pub ghosts-take_with : goal.ghosts-take_with
ghosts-take_with a = record { name = a.blank.name; parts = a.blank.parts }
