-- Proof of the contract of `number_in`.
use Rattle.std.specs.Str.Parse.{ExplainsUnsignedError, HasUnsignedDigitsIfOk, ParsesUnsigned}
use Rattle.clap.specs.Matches.{found_of}
use Rattle.gw_run.proofs.WordsLemmas.{option-read}
use Rattle.gw_run.proofs.words.number_in.Goals as goal

pub returns : goal.returns
returns c = option-read _ (λ text result. ParsesUnsigned 64 10 text result × ExplainsUnsignedError 10 text result × HasUnsignedDigitsIfOk text result) (λ text result gives. gives.0) (found_of c.args.matches.now) c.args.name.now c.get_one.result c.get_one.ensures.none c.get_one.ensures.value
