-- The text of the end of day of the example logs, and what it is read as.
use Rattle.std.proofs.Common.{◌≡◌, true, [], refl, sym, subst, arith, inl}
use Rattle.std.proofs.lemmas.List.Elements.{All-from_recursion}
use Rattle.std.specs.Prelude.{codes}
use Rattle.std.specs.Str.{is_utf8, chars}
use lib.Utf8.{encode}
use Rattle.json_text.specs.Tree.{Tree}
use Rattle.json_text.specs.Grammar.{Spells}
use Rattle.json_text.specs.Canonical.{canonical}
use Rattle.json_text.proofs.CanonicalLemmas.{spellable_written}
use Rattle.sale_frame.specs.Grammar.{frame}
use Rattle.sale_values.specs.declared.names.Period.TheVariants.{AcquirerReconciliation}
use Rattle.sale_values.specs.declared.names.Class.TheVariants.{Service}
use Rattle.sale_values.specs.declared.request.Incoming.TheVariants as incoming
use Rattle.sale_values.specs.declared.request.SaleRequest.TheVariants as requests
use Rattle.sale_msg.specs.declared.category.Category.TheVariants as categories
use Rattle.sale_msg.specs.Canonical.{body_object, request_tree}
use Rattle.sale_msg.specs.Path.{tree_at}
use Rattle.sale_msg.specs.Table.{rows_of}
use Rattle.sale_msg.specs.Flaw.{IsMet, AreMet}
use Rattle.sale_msg.specs.Grammar.{IsTillMessage, HeaderHolds, Asks}
use Rattle.gw_owes.specs.ReadAs.{IsReadAs}
use Rattle.gw_rules.specs.Lawful.{IsChunk}
use Rattle.gw_rules.specs.DayLogExample.{day_request, day_header, asked_day}
use Rattle.gw_rules.proofs.TextLemmas.{bytes-tested, ident-tested, letters-tested, is_spellable, spellable-tree}

pub day-chunk : IsChunk (frame day_request)
unfolding day_request
day-chunk = record { count = (omega arith, omega arith); bytes = bytes-tested (frame day_request) refl }

-- ---- its spelling

abbrev day_body : Tree
day_body = body_object day_header (requests.Reconciliation AcquirerReconciliation)

abbrev day_tree : Tree
day_tree = request_tree day_header (requests.Reconciliation AcquirerReconciliation)

day-canonical : day_request ≡ canonical day_tree
unfolding day_request
day-canonical = refl

day-spellable : is_spellable 0 day_tree ≡ true
unfolding is_utf8 chars encode
day-spellable = refl

day-spelled : Spells day_tree day_request
day-spelled = subst (Spells day_tree) (sym day-canonical) (spellable_written day_tree (spellable-tree 0 day_tree day-spellable))

-- ---- what it is read as

header-holds : HeaderHolds day_body day_header
unfolding tree_at
header-holds = record { class = refl; category = refl; message_type = refl; service = refl; device = refl; sale = refl; poi = refl }

body-met : AreMet (rows_of categories.Reconciliation) day_body
unfolding IsMet tree_at
body-met = (ident-tested 10 (codes "2") refl, (refl, ((AcquirerReconciliation, refl), tt)))

asks-for : Asks day_body (requests.Reconciliation AcquirerReconciliation)
unfolding tree_at
asks-for = refl

day-message : IsTillMessage day_tree (incoming.Request day_header (requests.Reconciliation AcquirerReconciliation))
unfolding IsMet tree_at
day-message = (
  day_body,
  record {
    request_of = record {
      under = refl;
      header_is = record {
        members = (
          refl,
          (
            (codes "0", refl),
            (
              (Service, refl),
              (
                (omega arith, omega arith, letters-tested (codes "Reconciliation") refl),
                (inl refl, (ident-tested 10 (codes "2") refl, (tt, (ident-tested 40 (codes "S1") refl, (ident-tested 40 (codes "T1") refl, tt))))),
              ),
            ),
          ),
        );
        values = header-holds;
      };
      message_type = refl;
    };
    category = refl;
    members = record { members = body-met; parts = All-from_recursion _ [] tt };
    asks = asks-for;
  },
)

-- the end of day is read as it is meant
pub day-read : IsReadAs day_request asked_day
day-read = record { tree = day_tree; spelled = day-spelled; read = day-message }
