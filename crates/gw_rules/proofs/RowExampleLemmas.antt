-- The setup with a terminal is well formed.
use Rattle.std.proofs.Common.{[], ◌∷◌, refl, arith}
use Rattle.std.proofs.lemmas.List.Elements.{All-from_recursion}
use Rattle.gw_base.proofs.BcdLemmas.{passes_bcd}
use Rattle.gw_base.specs.Setup.{IsPt, IsSetup}
use Rattle.gw_rules.specs.RowExample.{example_pt, terminal_setup}
use Rattle.gw_rules.proofs.TextLemmas.{ident-tested, setup-formed}

-- ---- a terminal

pub pt-formed : IsPt example_pt
pt-formed = record {
  poi = ident-tested 40 example_pt.poi refl;
  password = (refl, passes_bcd example_pt.password refl);
  config = omega arith;
  none = omega arith;
  answer = (omega arith, omega arith);
  command = (omega arith, omega arith);
}

pub formed : IsSetup terminal_setup
formed = record {
  name = setup-formed.name;
  line = setup-formed.line;
  wait = setup-formed.wait;
  slots = setup-formed.slots;
  count = omega arith;
  each = All-from_recursion IsPt (example_pt ∷ []) (pt-formed, tt);
  distinct = (All-from_recursion _ [] tt, tt);
}
