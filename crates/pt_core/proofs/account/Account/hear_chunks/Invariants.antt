-- The invariant of the loop over chunks.
use Rattle.std.proofs.Common.{◌≡◌, ◌+◌, ◌*◌, ◌≤◌, ◌++◌, length, vec_len, vec_capacity}
use Rattle.zvt_apdu.specs.Decode.{DecodedApdu, decode_apdu}
use Rattle.pt_core.specs.inner.Results.{account_value}
use Rattle.pt_core.proofs.ProgressLemmas.{Progress}
use Rattle.pt_core.proofs.account.Account.hear_chunks.Given as goal

-- what was served, and room for what is to come
abbrev pub invariant-chunks : goal.invariant-chunks
invariant-chunks l =
    Progress (account_value l.initial.self) (l.initial.reader ++ l.initial.rest) l.initial.out.items (account_value l.self) (l.reader ++ l.rest) l.out.items
    × (decode_apdu l.reader ≡ DecodedApdu.Incomplete)
    × (vec_len l.out + 32 * length l.rest ≤ vec_capacity l.out)
    × (vec_len l.self.entries + length l.rest ≤ vec_capacity l.self.entries)
    × (l.self.none ≡ l.initial.self.none)
    × (l.self.plays ≡ l.initial.self.plays)

-- a chunk that was heard leaves fewer bytes
abbrev pub decreases-chunks : goal.decreases-chunks
decreases-chunks l = length l.rest
