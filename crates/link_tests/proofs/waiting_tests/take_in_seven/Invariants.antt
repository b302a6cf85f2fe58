-- The ledger in which `take_in_seven` counts its steps.
use Rattle.link_tests.proofs.waiting_tests.take_in_seven.Given as goal

abbrev pub ghosts-take_counting : goal.ghosts-take_counting
ghosts-take_counting a = record { name = a.blank.name; parts = a.blank.parts }
