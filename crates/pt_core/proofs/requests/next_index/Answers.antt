-- The plays from the next index on are those that are left without the first.
use Rattle.std.proofs.Common.{sym}
use Rattle.std.proofs.lemmas.List.{drop-drop}
use Rattle.pt_core.proofs.requests.next_index.Goals as goal

pub returns-then-used-len : goal.returns-then-used-len
returns-then-used-len c = sym (drop-drop 1 c.args.used c.args.plays.now.items)
