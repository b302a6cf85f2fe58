-- Proof of the contract of `mode_in`.
use Rattle.std.proofs.Common.{◌∙◌, ap}
use Rattle.std.specs.Prelude.{codes, option_and_then}
use Rattle.clap.specs.Matches.{found_of}
use Rattle.clap.proofs.WalkLemmas.{first_value-rows}
use Rattle.gw_run.specs.Words.{mode_of}
use Rattle.gw_run.proofs.words.mode_in.Goals as goal

pub returns-in-Some : goal.returns-in-Some
returns-in-Some c = c.mode_of.ensures ∙ ap (option_and_then (mode_of c.args.from c.args.payments)) ((rw c.in-Some.is at c.get_str.ensures) ∙ first_value-rows (found_of c.args.matches.now) (codes "mode"))

pub returns-in-None : goal.returns-in-None
returns-in-None c = ap (option_and_then (mode_of c.args.from c.args.payments)) ((rw c.in-None.is at c.get_str.ensures) ∙ first_value-rows (found_of c.args.matches.now) (codes "mode"))
