-- The invariant of the loop over the requests that wait whole.
use Rattle.std.proofs.Common.{◌≡◌, ◌+◌, ◌*◌, ◌≤◌, length, vec_len, vec_capacity}
use Rattle.pt_core.specs.inner.Results.{account_value}
use Rattle.pt_core.proofs.SplitLemmas.{count_of}
use Rattle.pt_core.proofs.ProgressLemmas.{Progress}
use Rattle.pt_core.proofs.account.Account.serve_all.Given as goal

-- what was served, and room for what is to come
abbrev pub invariant-requests : goal.invariant-requests
invariant-requests l =
    Progress (account_value l.initial.self) l.initial.reader l.initial.out.items (account_value l.self) l.reader l.out.items
    × (vec_len l.out + 32 * count_of l.reader ≤ vec_len l.initial.out + 32 * count_of l.initial.reader)
    × (vec_capacity l.initial.out ≤ vec_capacity l.out)
    × (vec_len l.self.entries + count_of l.reader ≤ vec_len l.initial.self.entries + count_of l.initial.reader)
    × (vec_capacity l.initial.self.entries ≤ vec_capacity l.self.entries)
    × (l.self.none ≡ l.initial.self.none)
    × (l.self.plays ≡ l.initial.self.plays)

-- a request that was given leaves fewer bytes
abbrev pub decreases-requests : goal.decreases-requests
decreases-requests l = length l.reader
