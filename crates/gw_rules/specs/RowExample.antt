-- What examples of courses share: the setup with a terminal, where its link is owed, and the turns that keep a record.
use Rattle.std.specs.Prelude.{ℕ, pos, List, [], ◌∷◌, ◌++◌, slice_get, Option, Some, None, codes}
use Rattle.std.specs.Option.{option_map}
use Rattle.gw_base.specs.declared.currency.Currency.TheVariants.{Eur}
use Rattle.gw_base.specs.declared.setup.Pt.{Pt}
use Rattle.gw_base.specs.declared.setup.Setup.{Setup}
use Rattle.gw_site.specs.declared.turn.Turn.TheVariants.{Polled, Wrote, Synced}
use Rattle.jrn_record.specs.declared.records.Deal.TheVariants.{Payment}
use Rattle.jrn_record.specs.declared.records.Record.{Record}
use Rattle.jrn_record.specs.declared.records.Record.TheVariants.{Intent}
use Rattle.jrn_record.specs.Grammar.{record_body}
use Rattle.gw_owes.specs.declared.terminal.Standing.{Standing}
use Rattle.gw_owes.specs.declared.terminal.Terminal.{Terminal}
use Rattle.gw_owes.specs.Calls.{keep_calls}
use Rattle.gw_rules.specs.Example.{example_setup, began_moves}
use Rattle.gw_rules.specs.View.{View, Move, Begin, Make, view_from, at_first}

-- ---- a terminal

-- one terminal
abbrev pub example_pt : Pt
example_pt = record { poi = codes "T1"; address = []; password = 0x12 ∷ 0x34 ∷ 0x56 ∷ []; currency = Eur; config = 0xBA; none = 0x64; answer = 5; command = 60 }

-- a gateway with it
abbrev pub terminal_setup : Setup
terminal_setup = record example_setup { terminals = example_pt ∷ [] }

-- the first poll was made, and the terminal's link is owed
abbrev pub link_view : View
link_view = view_from at_first (began_moves terminal_setup ++ Make (Polled (pos 0)) ∷ Begin ∷ Begin ∷ [])

-- the terminal
abbrev pub first_terminal : View → Option Terminal
first_terminal v = slice_get v.scene.core.terminals 0

-- the standing of the terminal
abbrev pub first_standing : View → Option Standing
first_standing v = option_map (λ (terminal : Terminal). terminal.standing) (first_terminal v)

-- the registration
abbrev pub register_bytes : List ℕ
register_bytes = 0x06 ∷ 0x00 ∷ 0x06 ∷ 0x12 ∷ 0x34 ∷ 0x56 ∷ 0xBA ∷ 0x09 ∷ 0x78 ∷ []

-- ---- a record

-- a payment is about to be asked of a terminal
abbrev pub example_record : Record
example_record = Intent (record {
  what = Payment;
  sale = codes "S1";
  poi = codes "T1";
  service = codes "7";
  transaction = Some (codes "X1");
  stamp = Some (codes "2026-11-27T12:00:00Z");
  amount = 1099;
  currency = Eur;
  before = 0;
  original = None;
  moment = pos 4;
})

-- it is to be kept in the first slot
abbrev pub keep_view : View
keep_view = record link_view { calls = keep_calls 0 example_record }

-- its body and its gate are written
abbrev pub gate_moves : List Move
gate_moves = Make (Wrote 1 (record_body example_record ++ 0 ∷ [])) ∷ Make Synced ∷ Make (Wrote 0 (165 ∷ [])) ∷ []
