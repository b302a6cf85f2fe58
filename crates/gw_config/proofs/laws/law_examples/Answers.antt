-- The examples, by computing.
use Rattle.std.proofs.Common.{[], ◌∷◌, codes, refl}
use Rattle.std.specs.Fmt.{digits}
use Rattle.std.specs.Str.{chars, is_utf8}
use Rattle.toml.specs.Data.{string}
use Rattle.gw_config.specs.Example.{usual_keys, least_keys}
use Rattle.gw_config.proofs.laws.law_examples.Goals as goal

pub returns-clause-setups : goal.returns-clause-setups
returns-clause-setups c = record {
  usual = record {
    listen = refl;
    journal = refl;
    name = refl;
    line = refl;
    wait = refl;
    slots = refl;
    terminals = (usual_keys (string (codes "T1")) ∷ [], refl, (record { poi = refl; address = refl; currency = refl; password = refl; config = refl; none = refl; answer = refl; command = refl }, tt));
  };
  usual_faultless = refl;
  least = record {
    listen = refl;
    journal = refl;
    name = refl;
    line = refl;
    wait = refl;
    slots = refl;
    terminals = (least_keys ∷ [], refl, (record { poi = refl; address = refl; currency = refl; password = refl; config = refl; none = refl; answer = refl; command = refl }, tt));
  };
  least_faultless = refl;
}

pub returns-clause-first_faults : goal.returns-clause-first_faults
unfolding is_utf8 chars
returns-clause-first_faults c = record {
  no_text = refl;
  empty = refl;
  no_terminal = refl;
  second_terminal = refl;
  one_poi = refl;
  poi_before_unknown = refl;
  unknown = refl;
  unknown_of_terminal = refl;
  document_before_terminals = refl;
}

pub returns-clause-unknown_keys : goal.returns-clause-unknown_keys
returns-clause-unknown_keys c = record { of_two = refl; of_document = refl; of_terminals = refl }

pub returns-clause-sizes : goal.returns-clause-sizes
returns-clause-sizes c = record { one_more = λ bytes is. rw is refl; at_the_limit = λ bytes is. rw is refl }

pub returns-clause-lines : goal.returns-clause-lines
unfolding digits
returns-clause-lines c = record { long = refl; not_toml = refl; missing = refl; wrong = refl; twice = refl }
