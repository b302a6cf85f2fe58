-- The texts of the examples, and what they are read as.
use Rattle.std.proofs.Common.{◌≡◌, true, refl, sym, subst, arith, inl}
use Rattle.std.specs.Prelude.{codes, Some}
use Rattle.std.specs.Str.{is_utf8, chars}
use lib.Utf8.{encode}
use Rattle.gw_base.specs.Setup.{IsSetup}
use Rattle.json_text.specs.Tree.{Tree, object, no_members}
use Rattle.json_text.specs.Grammar.{Spells}
use Rattle.json_text.specs.Canonical.{canonical}
use Rattle.json_text.proofs.CanonicalLemmas.{spellable_written}
use Rattle.sale_values.specs.declared.header.Header.{Header}
use Rattle.sale_values.specs.declared.names.Class.TheVariants.{Device}
use Rattle.sale_values.specs.declared.names.Kind.TheVariants.{Response}
use Rattle.sale_values.specs.declared.request.Incoming.TheVariants as incoming
use Rattle.sale_values.specs.MemberShapes.{text_member, only}
use Rattle.sale_msg.specs.declared.table.Envelope.TheVariants as envelopes
use Rattle.sale_msg.specs.Path.{tree_at}
use Rattle.sale_msg.specs.Flaw.{IsMet}
use Rattle.sale_msg.specs.Grammar.{IsTillMessage, HeaderHolds}
use Rattle.gw_owes.specs.ReadAs.{IsReadAs, Silent}
use Rattle.rule_examples.specs.Example.{few_setup, silent_message}
use Rattle.gw_rules.proofs.TextLemmas.{ident-tested, letters-tested, is_spellable, spellable-tree, setup-formed}

-- ---- the silent message

abbrev silent_body : Tree
silent_body = only (codes "MessageHeader") (object
    (text_member (codes "ProtocolVersion") (codes "3.0")
    (text_member (codes "MessageClass") (codes "Device")
    (text_member (codes "MessageCategory") (codes "Display")
    (text_member (codes "MessageType") (codes "Response")
    (text_member (codes "ServiceID") (codes "1")
    (text_member (codes "DeviceID") (codes "1")
    (text_member (codes "SaleID") (codes "S1")
    (text_member (codes "POIID") (codes "T1") no_members)))))))))

abbrev silent_tree : Tree
silent_tree = only (codes "SaleToPOIResponse") silent_body

silent-canonical : silent_message ≡ canonical silent_tree
unfolding silent_message
silent-canonical = refl

silent-spellable : is_spellable 0 silent_tree ≡ true
unfolding is_utf8 chars encode
silent-spellable = refl

silent-spelled : Spells silent_tree silent_message
silent-spelled = subst (Spells silent_tree) (sym silent-canonical) (spellable_written silent_tree (spellable-tree 0 silent_tree silent-spellable))

abbrev silent_header : Header
silent_header = record { class = Device; category = codes "Display"; kind = Response; service = Some (codes "1"); device = Some (codes "1"); sale = codes "S1"; poi = codes "T1" }

silent-holds : HeaderHolds silent_body silent_header
unfolding tree_at
silent-holds = record { class = refl; category = refl; message_type = refl; service = refl; device = refl; sale = refl; poi = refl }

silent-is : IsTillMessage silent_tree incoming.Silent
unfolding IsMet tree_at
silent-is = (
  envelopes.Response,
  silent_body,
  silent_header,
  record {
    under = (refl, refl);
    header_is = record {
      members = (
        refl,
        (
          (codes "0", refl),
          (
            (Device, refl),
            (
              (omega arith, omega arith, letters-tested (codes "Display") refl),
              (
                (Response, refl),
                (ident-tested 10 (codes "1") refl, (ident-tested 10 (codes "1") refl, (ident-tested 40 (codes "S1") refl, (ident-tested 40 (codes "T1") refl, tt)))),
              ),
            ),
          ),
        ),
      );
      values = silent-holds;
    };
    silent = inl refl;
  },
)

-- it is read as silent
pub silent-read : IsReadAs silent_message Silent
silent-read = record { tree = silent_tree; spelled = silent-spelled; read = silent-is }

-- ---- the setup

pub few-formed : IsSetup few_setup
few-formed = record { name = setup-formed.name; line = setup-formed.line; wait = setup-formed.wait; slots = (omega arith, omega arith); count = setup-formed.count; each = setup-formed.each; distinct = tt }
