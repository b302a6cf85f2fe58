-- Proof of the contract of `read_setup`.
use Rattle.std.proofs.Common.{◌∙◌, sym}
use Rattle.toml.specs.View.{table_view}
use Rattle.gw_config.proofs.LimitLemmas.{within_limits}
use Rattle.gw_config.proofs.OffsetLemmas.{reported, reported_inside}
use Rattle.gw_config.proofs.document.read_setup.Goals as goal

pub returns-clause-limits : goal.returns-clause-limits
returns-clause-limits c = within_limits (table_view c.in_ok-table.table) c.read_document.result _ c.read_document.ensures

pub returns-clause-fault : goal.returns-clause-fault
returns-clause-fault c = reported c.args.bytes.now _ _ c.read_document.result (sym c.is_too_long.ensures ∙ c.if-is_too_long.false) c.in_ok-table.ensures.table c.read_document.ensures

pub returns-clause-offset : goal.returns-clause-offset
returns-clause-offset c = reported_inside c.args.bytes.now (table_view c.in_ok-table.table) _ c.read_document.result c.read_document.ensures
