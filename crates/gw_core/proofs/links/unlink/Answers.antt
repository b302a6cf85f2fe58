-- Proof of the contract of `unlink`.
use Rattle.std.proofs.Common.{◌≡◌, ◌+◌, subst, refl, rules, tests, []}
use Rattle.std.specs.Prelude.{Some}
use Rattle.gw_base.specs.Moment.{moment_of}
use Rattle.gw_owes.specs.Terminals.{reply_to_lost}
use Rattle.gw_owes.specs.declared.terminal.Standing.{Standing}
use Rattle.gw_owes.specs.declared.terminal.Standing.TheVariants.{Unlinked}
use Rattle.gw_core.specs.ReplyOf.{AreSameReplies}
use Rattle.gw_core.proofs.ServingLemmas.{owed-limited}
use Rattle.gw_core.proofs.links.unlink.Goals as goal

pub send_to-requires : goal.send_to-requires
send_to-requires c = owed-limited c.reply_to_lost.result (reply_to_lost c.replace-standing.result) c.reply_to_lost.ensures

pub returns-clause-row : goal.returns-clause-row
returns-clause-row c = λ setup kept core pt.
    let standing_is : c.replace-standing.new.dest ≡ Unlinked (Some (moment_of c.args.now + 5)) = search (rules, tests) in
    record {
      core_is = rw (standing_is, c.asker_of_lost-terminal.ensures) refl;
      calls_are = c.send_to.ensures.calls [] (reply_to_lost c.args.terminal.now.standing)
          (subst (λ (standing : Standing). AreSameReplies c.reply_to_lost.result (reply_to_lost standing)) c.replace-standing.ensures.value c.reply_to_lost.ensures);
      items_are = refl;
    }
