-- The till's payment of the examples, and what it is read as.
use Rattle.std.proofs.Common.{◌≡◌, ℕ, suc, Bool, true, false, List, [], ◌∷◌, refl, sym, subst, arith, inl, inr}
use Rattle.std.proofs.lemmas.Bool.{and_parts, ltb-true}
use Rattle.std.proofs.lemmas.List.Elements.{All-from_recursion}
use Rattle.std.proofs.lemmas.Slice.Eq.{bytes_eq-Decides}
use Rattle.std.proofs.lemmas.Str.{IsUtf8-from_is_utf8}
use Rattle.std.specs.Fmt.{digits}
use Rattle.std.specs.Prelude.{nat_lt, ◌&&◌, not, bytes_eq, codes, All}
use Rattle.std.specs.Str.{is_utf8, chars}
use lib.Utf8.{encode}
use Rattle.gw_base.specs.Amount.{minor_units}
use Rattle.json_text.specs.Number.{IsNumberText}
use Rattle.json_text.specs.Tree.{Tree, null, boolean, number, string, array, object, Members, no_members, member, names}
use Rattle.json_text.specs.Grammar.{Spells, IsNew, AreDistinct}
use Rattle.json_text.specs.Spellable.{IsSpellableAt, HaveSpellable}
use Rattle.json_text.specs.Canonical.{canonical}
use Rattle.json_text.proofs.CanonicalLemmas.{spellable_written}
use Rattle.sale_values.specs.Money.{money_text}
use Rattle.sale_values.specs.declared.names.Class.TheVariants as classes
use Rattle.sale_values.specs.declared.request.Incoming.TheVariants as incoming
use Rattle.sale_values.specs.declared.request.SaleRequest.TheVariants as requests
use Rattle.sale_msg.specs.declared.category.Category.TheVariants as categories
use Rattle.sale_msg.specs.Canonical.{body_object, request_tree}
use Rattle.sale_msg.specs.Form.{IsCapital, IsLetter}
use Rattle.sale_msg.specs.Path.{tree_at}
use Rattle.sale_msg.specs.Table.{rows_of, part_rows}
use Rattle.sale_msg.specs.Flaw.{IsMet, AreMet}
use Rattle.sale_msg.specs.Grammar.{IsTillMessage, HeaderHolds, Asks, parts_of}
use Rattle.sale_msg.proofs.MoneyLemmas.{money_is_amount}
use Rattle.gw_owes.specs.ReadAs.{IsReadAs}
use Rattle.gw_rules.proofs.StageLemmas.{no-true}
use Rattle.gw_rules.proofs.TextLemmas.{ident-tested}
use Rattle.gw_books.specs.Example.{payment_text, paying_header, payment_ask, payment_read}

-- ---- a tree of objects, texts and the one amount is tested by computing

abbrev lacks_name : List ℕ → List (List ℕ) → Bool
lacks_name name [] = true
lacks_name name (other ∷ names) = not (bytes_eq name other) && lacks_name name names

abbrev are_distinct : List (List ℕ) → Bool
are_distinct [] = true
are_distinct (name ∷ names) = lacks_name name names && are_distinct names

abbrev mutual
  pub is_spellable : ℕ → Tree → Bool
  is_spellable d null = false
  is_spellable d (boolean b) = false
  is_spellable d (number text) = bytes_eq text (codes "10.99")
  is_spellable d (string text) = is_utf8 text
  is_spellable d (array xs) = false
  is_spellable d (object members) = nat_lt d 32 && (are_distinct (names members) && have_spellable (suc d) members)

  have_spellable : ℕ → Members → Bool
  have_spellable d no_members = true
  have_spellable d (member name value more) = is_utf8 name && (is_spellable d value && have_spellable d more)

other-name : (name other : List ℕ) → not (bytes_eq name other) ≡ true → name ≡ other → ⊥
other-name name other h e = no-true (subst (λ b. not b ≡ true) ((bytes_eq-Decides name other).1 e) h)

lacks-name : (name : List ℕ) (others : List (List ℕ)) → lacks_name name others ≡ true → IsNew name others
lacks-name name [] e = tt
lacks-name name (other ∷ others) e = let p = and_parts (not (bytes_eq name other)) (lacks_name name others) e in (other-name name other p.0, lacks-name name others p.1)

are-distinct : (list : List (List ℕ)) → are_distinct list ≡ true → AreDistinct list
are-distinct [] e = tt
are-distinct (name ∷ list) e = let p = and_parts (lacks_name name list) (are_distinct list) e in (lacks-name name list p.0, are-distinct list p.1)

amount-number : IsNumberText (codes "10.99")
amount-number = inl (record {
  int = codes "10";
  rest = codes ".99";
  parts = refl;
  int_is = inr (omega arith, omega arith, ((omega arith, omega arith), tt));
  rest_is = record { frac = codes ".99"; exp = []; parts = refl; frac_is = (refl, ((omega arith, omega arith), ((omega arith, omega arith), tt))); exp_is = tt };
})

mutual
  pub spellable-tree : (d : ℕ) (tree : Tree) → is_spellable d tree ≡ true → IsSpellableAt d tree
  spellable-tree d null e = tt
  spellable-tree d (boolean b) e = tt
  spellable-tree d (number text) e = subst IsNumberText (sym ((bytes_eq-Decides text (codes "10.99")).0 e)) amount-number
  spellable-tree d (string text) e = IsUtf8-from_is_utf8 text e
  spellable-tree d (array xs) e = no-true e
  spellable-tree d (object members) e =
      let p = and_parts (nat_lt d 32) _ e in
      let q = and_parts (are_distinct (names members)) (have_spellable (suc d) members) p.1 in
      (ltb-true d 32 p.0, are-distinct (names members) q.0, spellable-members (suc d) members q.1)

  spellable-members : (d : ℕ) (members : Members) → have_spellable d members ≡ true → HaveSpellable d members
  spellable-members d no_members e = tt
  spellable-members d (member name value more) e =
      let p = and_parts (is_utf8 name) _ e in
      let q = and_parts (is_spellable d value) (have_spellable d more) p.1 in
      (IsUtf8-from_is_utf8 name p.0, spellable-tree d value q.0, spellable-members d more q.1)

-- ---- the payment

abbrev payment_tree : Tree
payment_tree = request_tree paying_header (requests.Payment payment_ask)

abbrev payment_body : Tree
payment_body = body_object paying_header (requests.Payment payment_ask)

payment-canonical : payment_text ≡ canonical payment_tree
unfolding payment_text money_text digits
payment-canonical = refl

payment-spellable : is_spellable 0 payment_tree ≡ true
unfolding is_utf8 chars encode money_text digits
payment-spellable = refl

payment-spelled : Spells payment_tree payment_text
payment-spelled = subst (Spells payment_tree) (sym payment-canonical) (spellable_written payment_tree (spellable-tree 0 payment_tree payment-spellable))

header-holds : HeaderHolds payment_body paying_header
unfolding tree_at
header-holds = record { class = refl; category = refl; message_type = refl; service = refl; device = refl; sale = refl; poi = refl }

euro : All IsCapital (codes "EUR")
euro = All-from_recursion IsCapital (codes "EUR") ((omega arith, omega arith), ((omega arith, omega arith), ((omega arith, omega arith), tt)))

category-letters : All IsLetter (codes "Payment")
category-letters = All-from_recursion IsLetter (codes "Payment") (
  inl (omega arith, omega arith),
  (
    inr (omega arith, omega arith),
    (inr (omega arith, omega arith), (inr (omega arith, omega arith), (inr (omega arith, omega arith), (inr (omega arith, omega arith), (inr (omega arith, omega arith), tt))))),
  ),
)

body-met : AreMet (rows_of categories.Payment) payment_body
unfolding IsMet tree_at
body-met = (
  ident-tested 10 (codes "7") refl,
  (
    refl,
    (
      refl,
      (
        refl,
        (
          ident-tested 80 (codes "X1") refl,
          (ident-tested 35 (codes "2026-11-27T12:00:00Z") refl, (refl, (refl, ((refl, euro), (money_is_amount 1099 (omega arith, omega arith), (tt, (tt, tt))))))),
        ),
      ),
    ),
  ),
)

part-met : All (AreMet (part_rows categories.Payment)) (parts_of categories.Payment payment_body)
part-met = All-from_recursion (AreMet (part_rows categories.Payment)) [] tt

asks-for : Asks payment_body (requests.Payment payment_ask)
unfolding tree_at minor_units money_text digits
asks-for = record { transaction = refl; stamp = refl; currency = refl; amount = refl; payment_type = refl }

payment-message : IsTillMessage payment_tree (incoming.Request paying_header (requests.Payment payment_ask))
unfolding IsMet tree_at
payment-message = (
  payment_body,
  record {
    request_of = record {
      under = refl;
      header_is = record {
        members = (
          refl,
          (
            (codes "0", refl),
            (
              (classes.Service, refl),
              (
                (omega arith, omega arith, category-letters),
                (inl refl, (ident-tested 10 (codes "7") refl, (tt, (ident-tested 40 (codes "S1") refl, (ident-tested 40 (codes "T1") refl, tt))))),
              ),
            ),
          ),
        );
        values = header-holds;
      };
      message_type = refl;
    };
    category = refl;
    members = record { members = body-met; parts = part-met };
    asks = asks-for;
  },
)

-- the payment is read as it is meant
pub payment-reads : IsReadAs payment_text payment_read
payment-reads = record { tree = payment_tree; spelled = payment-spelled; read = payment-message }
