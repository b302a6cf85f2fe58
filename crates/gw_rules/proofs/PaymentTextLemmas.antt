-- The text of the payment of the example logs, and what it is read as.
use Rattle.std.proofs.Common.{◌≡◌, true, [], refl, sym, subst, arith, inl}
use Rattle.std.proofs.lemmas.List.Elements.{All-from_recursion}
use Rattle.std.specs.Prelude.{codes, All}
use Rattle.std.specs.Fmt.{digits}
use Rattle.std.specs.Str.{is_utf8, chars}
use lib.Utf8.{encode}
use Rattle.json_text.specs.Tree.{Tree}
use Rattle.json_text.specs.Grammar.{Spells}
use Rattle.json_text.specs.Canonical.{canonical}
use Rattle.json_text.proofs.CanonicalLemmas.{spellable_written}
use Rattle.sale_frame.specs.Grammar.{frame}
use Rattle.sale_values.specs.Money.{money_text}
use Rattle.sale_values.specs.declared.header.Header.{Header}
use Rattle.sale_values.specs.declared.names.Class.TheVariants.{Service}
use Rattle.sale_values.specs.declared.request.Incoming.TheVariants as incoming
use Rattle.sale_values.specs.declared.request.SaleRequest.TheVariants as requests
use Rattle.sale_values.proofs.MoneyLemmas.{money_again}
use Rattle.sale_msg.specs.declared.category.Category.TheVariants as categories
use Rattle.sale_msg.specs.Canonical.{body_object, request_tree}
use Rattle.sale_msg.specs.Path.{tree_at}
use Rattle.sale_msg.specs.Table.{rows_of}
use Rattle.sale_msg.specs.Flaw.{IsMet, AreMet}
use Rattle.sale_msg.specs.Form.{IsCapital}
use Rattle.sale_msg.specs.Grammar.{IsTillMessage, HeaderHolds, Asks}
use Rattle.sale_msg.proofs.MoneyLemmas.{money_is_amount}
use Rattle.gw_owes.specs.PaymentExample.{till_header, ask_of}
use Rattle.gw_owes.specs.ReadAs.{IsReadAs}
use Rattle.gw_rules.specs.Lawful.{IsChunk}
use Rattle.gw_rules.specs.PaymentLogExample.{payment_request, asked_payment}
use Rattle.gw_rules.proofs.TextLemmas.{bytes-tested, ident-tested, letters-tested, is_spellable, spellable-tree}

pub payment-chunk : IsChunk (frame payment_request)
unfolding payment_request
payment-chunk = record { count = (omega arith, omega arith); bytes = bytes-tested (frame payment_request) refl }

-- ---- its spelling

abbrev paid_header : Header
paid_header = till_header (codes "Payment") (codes "1")

abbrev paid_body : Tree
paid_body = body_object paid_header (requests.Payment (ask_of 1099))

abbrev paid_tree : Tree
paid_tree = request_tree paid_header (requests.Payment (ask_of 1099))

payment-canonical : payment_request ≡ canonical paid_tree
unfolding payment_request money_text digits
payment-canonical = refl

payment-spellable : is_spellable 0 paid_tree ≡ true
unfolding is_utf8 chars encode money_text digits
payment-spellable = refl

payment-spelled : Spells paid_tree payment_request
payment-spelled = subst (Spells paid_tree) (sym payment-canonical) (spellable_written paid_tree (spellable-tree 0 paid_tree payment-spellable))

-- ---- what it is read as

header-holds : HeaderHolds paid_body paid_header
unfolding tree_at
header-holds = record { class = refl; category = refl; message_type = refl; service = refl; device = refl; sale = refl; poi = refl }

currency-capitals : All IsCapital (codes "EUR")
currency-capitals = All-from_recursion IsCapital (codes "EUR") ((omega arith, omega arith), ((omega arith, omega arith), ((omega arith, omega arith), tt)))

body-met : AreMet (rows_of categories.Payment) paid_body
unfolding IsMet tree_at
body-met = (
  ident-tested 10 (codes "1") refl,
  (refl, (refl, (refl, (ident-tested 80 (codes "27908") refl, (ident-tested 35 (codes "2025-03-07T10:11:04+00:00") refl, (refl, (refl, ((refl, currency-capitals), (money_is_amount 1099 (omega arith, omega arith), (refl, (tt, tt))))))))))),
)

asks-for : Asks paid_body (requests.Payment (ask_of 1099))
unfolding tree_at
asks-for = record { transaction = refl; stamp = refl; currency = refl; amount = money_again 1099 (omega arith, omega arith); payment_type = refl }

payment-message : IsTillMessage paid_tree (incoming.Request paid_header (requests.Payment (ask_of 1099)))
unfolding IsMet tree_at
payment-message = (
  paid_body,
  record {
    request_of = record {
      under = refl;
      header_is = record {
        members = (
          refl,
          (
            (codes "0", refl),
            (
              (Service, refl),
              (
                (omega arith, omega arith, letters-tested (codes "Payment") refl),
                (inl refl, (ident-tested 10 (codes "1") refl, (tt, (ident-tested 40 (codes "S1") refl, (ident-tested 40 (codes "T1") refl, tt))))),
              ),
            ),
          ),
        );
        values = header-holds;
      };
      message_type = refl;
    };
    category = refl;
    members = record { members = body-met; parts = All-from_recursion _ [] tt };
    asks = asks-for;
  },
)

-- the payment is read as it is meant
pub payment-read : IsReadAs payment_request asked_payment
payment-read = record { tree = paid_tree; spelled = payment-spelled; read = payment-message }
