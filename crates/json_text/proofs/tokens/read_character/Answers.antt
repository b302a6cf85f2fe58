-- Proof of the contract of `read_character`.
use Rattle.std.proofs.Common.{refl}
use Rattle.json_text.proofs.ProgressLemmas.{refused_at, ok_as, err_as}
use Rattle.json_text.proofs.TokenLemmas.{character_first, character_begins, no_character}
use Rattle.json_text.proofs.tokens.read_character.Goals as goal

pub returns-in-Whole-clause-read : goal.returns-in-Whole-clause-read
returns-in-Whole-clause-read c = record { reads = λ text. character_first c.args.bytes.now c.args.offset.now _ _ text c.requires.there refl c.requires.open c.in-Whole.ensures }

pub returns-in-Next-clause-read : goal.returns-in-Next-clause-read
returns-in-Next-clause-read c =
    ok_as c.rest_of_character.result c.rest_of_character.ensures.read
    (λ x h. record {
      reads = λ text. (record {
        comes = λ role st r g. h.comes role text st r (character_begins c.args.bytes.now c.args.offset.now _ c.in-Next.begun role text st c.requires.there refl c.requires.open c.in-Next.ensures r g);
      });
    })

pub returns-in-Next-clause-refused : goal.returns-in-Next-clause-refused
returns-in-Next-clause-refused c =
    err_as c.rest_of_character.result c.rest_of_character.ensures.refused
    (λ x h. record {
      refuses = λ text. (record {
        refuses = λ role st r g. h.refuses role text st r (character_begins c.args.bytes.now c.args.offset.now _ c.in-Next.begun role text st c.requires.there refl c.requires.open c.in-Next.ensures r g);
      });
    })

pub returns-in-Wrong-clause-refused : goal.returns-in-Wrong-clause-refused
returns-in-Wrong-clause-refused c = record {
  refuses = λ text. (record {
    refuses = λ role st r g. refused_at c.args.bytes.now _ c.args.offset.now _ c.fault.ensures (no_character c.args.bytes.now c.args.offset.now _ _ role text st c.requires.there refl c.requires.open c.in-Wrong.ensures c.fault_between.ensures g);
  });
}
