-- Inner: the program's outcome as plain data.
use Rattle.json_text.specs.ValueOf.{value_of}
use Rattle.sale_seen.specs.ReplyMembers.{OutcomeValue}
use Rattle.sale_seen.specs.declared.reply_members.Outcome.{Outcome}

-- the outcome, its category a list and its body a tree
abbrev pub outcome_value : Outcome → OutcomeValue
outcome_value outcome = record { category = outcome.category.now; body = value_of outcome.body.now }
