-- The text of the second end of day of the example logs, and what it is read as.
use Rattle.std.proofs.Common.{◌≡◌, true, [], refl, sym, subst, arith, inl}
use Rattle.std.proofs.lemmas.List.Elements.{All-from_recursion}
use Rattle.std.specs.Prelude.{codes}
use Rattle.std.specs.Str.{is_utf8, chars}
use lib.Utf8.{encode}
use Rattle.json_text.specs.Tree.{Tree}
use Rattle.json_text.specs.Grammar.{Spells}
use Rattle.json_text.specs.Canonical.{canonical}
use Rattle.json_text.proofs.CanonicalLemmas.{spellable_written}
use Rattle.sale_frame.specs.Grammar.{frame}
use Rattle.sale_values.specs.declared.names.Period.TheVariants.{AcquirerReconciliation}
use Rattle.sale_values.specs.declared.names.Class.TheVariants.{Service}
use Rattle.sale_values.specs.declared.request.Incoming.TheVariants as incoming
use Rattle.sale_values.specs.declared.request.SaleRequest.TheVariants as requests
use Rattle.sale_msg.specs.declared.category.Category.TheVariants as categories
use Rattle.sale_msg.specs.Canonical.{body_object, request_tree}
use Rattle.sale_msg.specs.Path.{tree_at}
use Rattle.sale_msg.specs.Table.{rows_of}
use Rattle.sale_msg.specs.Flaw.{IsMet, AreMet}
use Rattle.sale_msg.specs.Grammar.{IsTillMessage, HeaderHolds, Asks}
use Rattle.gw_owes.specs.ReadAs.{IsReadAs}
use Rattle.gw_rules.specs.Lawful.{IsChunk}
use Rattle.gw_rules.proofs.TextLemmas.{bytes-tested, ident-tested, letters-tested, is_spellable, spellable-tree}
use Rattle.rule_examples.specs.OutsideItemExample.{asked_next_day, next_day_header, next_day_request}

pub next-day-chunk : IsChunk (frame next_day_request)
unfolding next_day_request
next-day-chunk = record { count = (omega arith, omega arith); bytes = bytes-tested (frame next_day_request) refl }

-- ---- its spelling

abbrev next_day_body : Tree
next_day_body = body_object next_day_header (requests.Reconciliation AcquirerReconciliation)

abbrev next_day_tree : Tree
next_day_tree = request_tree next_day_header (requests.Reconciliation AcquirerReconciliation)

next-day-canonical : next_day_request ≡ canonical next_day_tree
unfolding next_day_request
next-day-canonical = refl

next-day-spellable : is_spellable 0 next_day_tree ≡ true
unfolding is_utf8 chars encode
next-day-spellable = refl

next-day-spelled : Spells next_day_tree next_day_request
next-day-spelled = subst (Spells next_day_tree) (sym next-day-canonical) (spellable_written next_day_tree (spellable-tree 0 next_day_tree next-day-spellable))

-- ---- what it is read as

header-holds : HeaderHolds next_day_body next_day_header
unfolding tree_at
header-holds = record { class = refl; category = refl; message_type = refl; service = refl; device = refl; sale = refl; poi = refl }

body-met : AreMet (rows_of categories.Reconciliation) next_day_body
unfolding IsMet tree_at
body-met = (ident-tested 10 (codes "3") refl, (refl, ((AcquirerReconciliation, refl), tt)))

asks-for : Asks next_day_body (requests.Reconciliation AcquirerReconciliation)
unfolding tree_at
asks-for = refl

next-day-message : IsTillMessage next_day_tree (incoming.Request next_day_header (requests.Reconciliation AcquirerReconciliation))
unfolding IsMet tree_at
next-day-message = (
  next_day_body,
  record {
    request_of = record {
      under = refl;
      header_is = record {
        members = (
          refl,
          (
            (codes "0", refl),
            (
              (Service, refl),
              (
                (omega arith, omega arith, letters-tested (codes "Reconciliation") refl),
                (inl refl, (ident-tested 10 (codes "3") refl, (tt, (ident-tested 40 (codes "S1") refl, (ident-tested 40 (codes "T1") refl, tt))))),
              ),
            ),
          ),
        );
        values = header-holds;
      };
      message_type = refl;
    };
    category = refl;
    members = record { members = body-met; parts = All-from_recursion _ [] tt };
    asks = asks-for;
  },
)

-- the end of day is read as it is meant
pub next-day-read : IsReadAs next_day_request asked_next_day
next-day-read = record { tree = next_day_tree; spelled = next-day-spelled; read = next-day-message }
