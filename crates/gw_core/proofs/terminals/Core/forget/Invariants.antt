-- The ledger in which `forget` counts its steps.
use Rattle.gw_core.proofs.terminals.Core.forget.Given as goal

abbrev pub ghosts-forget_with : goal.ghosts-forget_with
ghosts-forget_with a = record { name = a.blank.name; parts = a.blank.parts }
