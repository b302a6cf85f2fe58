-- The till's reversal and its Abort of the examples, and what they are read as.
use Rattle.std.proofs.Common.{◌≡◌, true, ℕ, List, [], refl, sym, subst, arith, inl, inr}
use Rattle.std.proofs.lemmas.List.Elements.{All-from_recursion}
use Rattle.std.specs.Prelude.{codes, All, None}
use Rattle.std.specs.Str.{is_utf8, chars}
use lib.Utf8.{encode}
use Rattle.gw_base.specs.Ident.{IsIdent}
use Rattle.json_text.specs.Tree.{Tree}
use Rattle.json_text.specs.Grammar.{Spells}
use Rattle.json_text.specs.Canonical.{canonical}
use Rattle.json_text.proofs.CanonicalLemmas.{spellable_written}
use Rattle.sale_values.specs.declared.names.Class.TheVariants as classes
use Rattle.sale_values.specs.declared.request.Incoming.TheVariants as incoming
use Rattle.sale_values.specs.declared.request.ReversalAsk.{ReversalAsk}
use Rattle.sale_values.specs.declared.request.SaleRequest.TheVariants as requests
use Rattle.sale_msg.specs.declared.category.Category.TheVariants as categories
use Rattle.sale_msg.specs.Canonical.{body_object, request_tree}
use Rattle.sale_msg.specs.Form.{IsLetter}
use Rattle.sale_msg.specs.Path.{tree_at}
use Rattle.sale_msg.specs.Table.{rows_of, part_rows}
use Rattle.sale_msg.specs.Flaw.{IsMet, AreMet}
use Rattle.sale_msg.specs.Grammar.{IsTillMessage, HeaderHolds, Asks, parts_of}
use Rattle.gw_owes.specs.ReadAs.{IsReadAs, Request}
use Rattle.gw_rules.proofs.TextLemmas.{ident-tested}
use Rattle.gw_books.specs.ReversalExample.{abort_read, abort_reference, abort_text, aborting_header, reversal_ask, reversal_read, reversal_text, reversing_header}
use Rattle.gw_books.proofs.PaymentTextLemmas.{is_spellable, spellable-tree}

-- ---- a reversal

reversal-letters : All IsLetter (codes "Reversal")
reversal-letters = All-from_recursion IsLetter (codes "Reversal") (
  inl (omega arith, omega arith),
  (
    inr (omega arith, omega arith),
    (
      inr (omega arith, omega arith),
      (inr (omega arith, omega arith), (inr (omega arith, omega arith), (inr (omega arith, omega arith), (inr (omega arith, omega arith), (inr (omega arith, omega arith), tt))))),
    ),
  ),
)

-- what asks for it, of the payment with this text
abbrev pub asked_of : List ℕ → ReversalAsk
asked_of transaction = record { transaction = transaction; amount = None }

module _ (transaction : List ℕ) (ident : IsIdent 80 transaction) where
  abbrev reversal_body : Tree
  reversal_body = body_object reversing_header (requests.Reversal (asked_of transaction))

  reversal-header : HeaderHolds reversal_body reversing_header
  unfolding tree_at
  reversal-header = record { class = refl; category = refl; message_type = refl; service = refl; device = refl; sale = refl; poi = refl }

  reversal-met : AreMet (rows_of categories.Reversal) reversal_body
  unfolding IsMet tree_at
  reversal-met = (ident-tested 10 (codes "8") refl, (refl, (refl, (refl, (ident, (tt, (tt, tt)))))))

  reversal-parts : All (AreMet (part_rows categories.Reversal)) (parts_of categories.Reversal reversal_body)
  reversal-parts = All-from_recursion (AreMet (part_rows categories.Reversal)) [] tt

  reversal-asks : Asks reversal_body (requests.Reversal (asked_of transaction))
  unfolding tree_at
  reversal-asks = record { transaction = refl; amount = refl }

  reversal-message : IsTillMessage (request_tree reversing_header (requests.Reversal (asked_of transaction))) (incoming.Request reversing_header (requests.Reversal (asked_of transaction)))
  unfolding IsMet tree_at
  reversal-message = (
    reversal_body,
    record {
      request_of = record {
        under = refl;
        header_is = record {
          members = (
            refl,
            (
              (codes "0", refl),
              (
                (classes.Service, refl),
                (
                  (omega arith, omega arith, reversal-letters),
                  (inl refl, (ident-tested 10 (codes "8") refl, (tt, (ident-tested 40 (codes "S1") refl, (ident-tested 40 (codes "T1") refl, tt))))),
                ),
              ),
            ),
          );
          values = reversal-header;
        };
        message_type = refl;
      };
      category = refl;
      members = record { members = reversal-met; parts = reversal-parts };
      asks = reversal-asks;
    },
  )

-- its canonical text is read as it is meant
pub reversal-reads-as : (transaction text : List ℕ) → IsIdent 80 transaction → (let tree = request_tree reversing_header (requests.Reversal (asked_of transaction)) in text ≡ canonical tree → is_spellable 0 tree ≡ true
    → IsReadAs text (Request reversing_header (requests.Reversal (asked_of transaction))))
reversal-reads-as transaction text ident canonical_is spellable =
    let tree : Tree = request_tree reversing_header (requests.Reversal (asked_of transaction)) in
    record { tree = tree; spelled = subst (Spells tree) (sym canonical_is) (spellable_written tree (spellable-tree 0 tree spellable)); read = reversal-message transaction ident }

reversal-canonical : reversal_text ≡ canonical (request_tree reversing_header (requests.Reversal reversal_ask))
unfolding reversal_text
reversal-canonical = refl

reversal-spellable : is_spellable 0 (request_tree reversing_header (requests.Reversal reversal_ask)) ≡ true
unfolding is_utf8 chars encode
reversal-spellable = refl

-- so is that of the examples
pub reversal-reads : IsReadAs reversal_text reversal_read
reversal-reads = reversal-reads-as (codes "000123-0017-0") reversal_text (ident-tested 80 (codes "000123-0017-0") refl) reversal-canonical reversal-spellable

-- ---- the Abort

abbrev abort_tree : Tree
abort_tree = request_tree aborting_header (requests.Abort abort_reference)

abbrev abort_body : Tree
abort_body = body_object aborting_header (requests.Abort abort_reference)

abort-canonical : abort_text ≡ canonical abort_tree
unfolding abort_text
abort-canonical = refl

abort-spellable : is_spellable 0 abort_tree ≡ true
unfolding is_utf8 chars encode
abort-spellable = refl

abort-spelled : Spells abort_tree abort_text
abort-spelled = subst (Spells abort_tree) (sym abort-canonical) (spellable_written abort_tree (spellable-tree 0 abort_tree abort-spellable))

abort-header : HeaderHolds abort_body aborting_header
unfolding tree_at
abort-header = record { class = refl; category = refl; message_type = refl; service = refl; device = refl; sale = refl; poi = refl }

abort-letters : All IsLetter (codes "Abort")
abort-letters = All-from_recursion IsLetter (codes "Abort") (
  inl (omega arith, omega arith),
  (inr (omega arith, omega arith), (inr (omega arith, omega arith), (inr (omega arith, omega arith), (inr (omega arith, omega arith), tt)))),
)

abort-met : AreMet (rows_of categories.Abort) abort_body
unfolding IsMet tree_at
abort-met = (ident-tested 10 (codes "9") refl, (refl, (refl, (ident-tested 10 (codes "7") refl, (tt, (tt, (tt, tt)))))))

abort-parts : All (AreMet (part_rows categories.Abort)) (parts_of categories.Abort abort_body)
abort-parts = All-from_recursion (AreMet (part_rows categories.Abort)) [] tt

abort-asks : Asks abort_body (requests.Abort abort_reference)
unfolding tree_at
abort-asks = (_, refl, record { service = refl; sale = refl; poi = refl })

abort-message : IsTillMessage abort_tree (incoming.Request aborting_header (requests.Abort abort_reference))
unfolding IsMet tree_at
abort-message = (
  abort_body,
  record {
    request_of = record {
      under = refl;
      header_is = record {
        members = (
          refl,
          (
            (codes "0", refl),
            (
              (classes.Service, refl),
              (
                (omega arith, omega arith, abort-letters),
                (inl refl, (ident-tested 10 (codes "9") refl, (tt, (ident-tested 40 (codes "S1") refl, (ident-tested 40 (codes "T1") refl, tt))))),
              ),
            ),
          ),
        );
        values = abort-header;
      };
      message_type = refl;
    };
    category = refl;
    members = record { members = abort-met; parts = abort-parts };
    asks = abort-asks;
  },
)

-- the Abort is read as it is meant
pub abort-reads : IsReadAs abort_text abort_read
abort-reads = record { tree = abort_tree; spelled = abort-spelled; read = abort-message }
