-- Proof of the contract of `entry_of`.
use Rattle.std.proofs.Common.{refl}
use Rattle.std.proofs.lemmas.Str.{is_utf8-from_IsUtf8}
use Rattle.sim_script.proofs.LineLemmas.{not_utf8}
use Rattle.sim_script.proofs.reader.entry_of.Goals as goal

pub returns-in-Ok : goal.returns-in-Ok
returns-in-Ok c = rw (is_utf8-from_IsUtf8 c.args.text.now c.in-Ok.ensures.cases.1, ← c.in-Ok.ensures.cases.0) c.spelled.ensures

pub returns-in-Err : goal.returns-in-Err
returns-in-Err c = rw (not_utf8 c.args.text.now c.in-Err.ensures.cases.0) refl
