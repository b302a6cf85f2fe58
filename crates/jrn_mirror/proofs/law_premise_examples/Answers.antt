-- Proof of the contract of `law_premise_examples`.
use Rattle.std.proofs.Common.{refl, arith}
use Rattle.jrn_mirror.proofs.law_premise_examples.Goals as goal

pub returns-clause-copied : goal.returns-clause-copied
returns-clause-copied c = (
  tt,
  (
    (refl, λ a b. refl),
    (
      (refl, λ a b. refl),
      (
        ((omega arith, tt), record { unsynced = record { first = refl; second = refl }; whole = refl }),
        (
          ((refl, record { no_shorter = omega arith; no_longer = omega arith; kept = λ index lt un. absurd (omega (arith, lt)) }, (omega arith, tt)), (refl, record { no_shorter = omega arith; no_longer = omega arith; kept = λ index lt un. absurd (omega (arith, lt)) }, tt)),
          (
            tt,
            (
              ((omega arith, tt), record { there = refl; other = refl; longer = omega arith; copy = record { some = omega arith; few = omega arith; part = refl; within = omega arith; differs = λ index le lt past. absurd (omega (arith, past)) } }),
              ((refl, λ a b. refl), ((refl, λ a b. refl), tt)),
            ),
          ),
        ),
      ),
    ),
  ),
)
