-- Proof of the contract of `law_site_plays`.
use Rattle.std.proofs.Common.{◌≡◌, refl, arith, true, false, [], ◌∷◌}
use Rattle.std.specs.Prelude.{Some, None}
use Rattle.gw_site.specs.declared.turn.Turn.TheVariants.{Opened, Stopped}
use Rattle.gw_site.specs.Steps.{Junk, New, Old}
use Rattle.gw_script.specs.site.Example.{NumbersRise, PowerFailsNoLater, SyncMustFail}
use Rattle.gw_script.specs.site.Playing.{Length, Sync, Write}
use Rattle.gw_script.proofs.law_site_plays.Goals as goal

pub returns-clause-two : goal.returns-clause-two
returns-clause-two c = (
  _,
  (
    Sync,
    (record { no_event = refl; no_failure = refl; power = refl }, refl),
    (
      Sync,
      record { no_event = refl; no_failure = refl; power = refl },
      (
        Sync,
        (record { no_event = refl; no_failure = refl; power = refl }, refl),
        (
          Sync,
          (record { no_event = refl; no_failure = refl; power = refl }, refl, refl),
          (
            Sync,
            (record { no_event = refl; no_failure = refl; power = refl }, refl, refl),
            (
              Sync,
              refl,
              (
                Sync,
                record { no_event = refl; no_failure = refl; power = refl },
                (
                  Sync,
                  record { no_event = refl; no_failure = refl; power = refl },
                  (
                    Sync,
                    record { kind = Junk 165; no_event = refl; no_failure = refl; off = refl; file_is = refl },
                    (
                      Sync,
                      (record { no_event = refl; no_failure = refl; power = refl }, refl),
                      (
                        Sync,
                        (record { no_event = refl; no_failure = refl; power = refl }, refl, refl),
                        (
                          Sync,
                          refl,
                          (
                            Sync,
                            (record { no_event = refl; no_failure = refl; power = refl }, refl, refl),
                            (
                              Sync,
                              refl,
                              refl,
                            ),
                          ),
                        ),
                      ),
                    ),
                  ),
                ),
              ),
            ),
          ),
        ),
      ),
    ),
  ),
)

pub returns-clause-at_once : goal.returns-clause-at_once
returns-clause-at_once c = (
  _,
  (
    Sync,
    (record { no_event = refl; no_failure = refl; power = refl }, refl),
    (
      Sync,
      record { no_event = refl; no_failure = refl; power = refl },
      (
        Sync,
        record { kind = Old; no_event = refl; no_failure = refl; off = refl; file_is = refl },
        (
          Sync,
          (record { no_event = refl; no_failure = refl; power = refl }, refl),
          (
            Sync,
            (record { no_event = refl; no_failure = refl; power = refl }, refl, refl),
            (
              Sync,
              record { no_event = refl; no_failure = refl; power = refl },
              (
                Sync,
                record { kind = New; no_event = refl; no_failure = refl; off = refl; file_is = refl },
                (
                  Sync,
                  (record { no_event = refl; no_failure = refl; power = refl }, refl),
                  (
                    Sync,
                    (record { no_event = refl; no_failure = refl; power = refl }, refl, refl),
                    (
                      Sync,
                      refl,
                      refl,
                    ),
                  ),
                ),
              ),
            ),
          ),
        ),
      ),
    ),
  ),
)

pub returns-clause-sends : goal.returns-clause-sends
returns-clause-sends c = (
  _,
  (
    Sync,
    (record { no_event = refl; no_failure = refl; power = refl }, refl),
    (
      Sync,
      (record { no_event = refl; no_failure = refl; power = refl }, refl, refl),
      (
        Sync,
        refl,
        (
          Sync,
          (record { no_event = refl; no_failure = refl; power = refl }, refl, refl),
          (
            Sync,
            (record { no_event = refl; no_failure = refl; power = refl }, omega arith),
            (
              Sync,
              (record { no_event = refl; no_failure = refl; power = refl }, tt),
              (
                Sync,
                record { no_event = refl; no_failure = refl; power = refl },
                (
                  Sync,
                  (record { no_event = refl; no_failure = refl; power = refl }, refl, refl),
                  (
                    Sync,
                    refl,
                    refl,
                  ),
                ),
              ),
            ),
          ),
        ),
      ),
    ),
  ),
)

pub returns-clause-early : goal.returns-clause-early
returns-clause-early c = (
  _,
  (
    Sync,
    (record { no_event = refl; no_failure = refl; power = refl }, refl),
    (
      Sync,
      (record { no_event = refl; no_failure = refl; power = refl }, refl),
      (
        Sync,
        (record { no_event = refl; no_failure = refl; power = refl }, refl),
        (
          Length,
          (record { no_event = refl; no_failure = refl; power = refl }, refl),
          (
            Sync,
            (record { no_event = refl; no_failure = refl; power = refl }, refl),
            (
              Sync,
              (record { no_event = refl; no_failure = refl; power = refl }, refl, refl),
              (
                Sync,
                (record { no_event = refl; no_failure = refl; power = refl }, refl),
                (
                  Sync,
                  record { kind = New; no_event = refl; no_failure = refl; off = refl; file_is = refl },
                  (
                    Sync,
                    (record { no_event = refl; no_failure = refl; power = refl }, refl),
                    (
                      Sync,
                      (record { no_event = refl; no_failure = refl; power = refl }, refl),
                      (
                        Sync,
                        (record { no_event = refl; no_failure = refl; power = refl }, refl, refl),
                        (
                          Length,
                          (record { no_event = refl; no_failure = refl; power = refl }, refl),
                          refl,
                        ),
                      ),
                    ),
                  ),
                ),
              ),
            ),
          ),
        ),
      ),
    ),
  ),
)

pub returns-clause-writes : goal.returns-clause-writes
returns-clause-writes c = (
  _,
  (
    Sync,
    (record { no_event = refl; no_failure = refl; power = refl }, refl),
    (
      Sync,
      (record { no_event = refl; no_failure = refl; power = refl }, refl, refl),
      (
        Sync,
        (record { no_event = refl; no_failure = refl; power = refl }, refl),
        (
          Sync,
          record { no_event = refl; no_failure = refl; power = refl },
          (
            Write,
            (refl, refl),
            (
              Sync,
              record { kind = New; no_event = refl; no_failure = refl; off = refl; file_is = refl },
              (
                Sync,
                (record { no_event = refl; no_failure = refl; power = refl }, refl),
                (
                  Sync,
                  (record { no_event = refl; no_failure = refl; power = refl }, refl, refl),
                  (
                    Sync,
                    refl,
                    refl,
                  ),
                ),
              ),
            ),
          ),
        ),
      ),
    ),
  ),
)

sync_must_fail : SyncMustFail
sync_must_fail (play, (a, start, (b, polled, (c, synced, rest)))) = let e : true ≡ false = synced.1 in cc

pub returns-clause-sync : goal.returns-clause-sync
returns-clause-sync c = sync_must_fail

power_no_later : PowerFailsNoLater
power_no_later (play, (a, start, (b, polled, (c, synced, (d, later, rest))))) = let e : Some New ≡ None = later.0.power in cc

pub returns-clause-power : goal.returns-clause-power
returns-clause-power c = power_no_later

numbers_rise : NumbersRise
numbers_rise (play, (a, start, (b, polled, (c, opened, (d, polled_again, (e, lower, rest)))))) = let h : Stopped ∷ [] ≡ Opened 1 ∷ [] = lower in cc

pub returns-clause-numbers : goal.returns-clause-numbers
returns-clause-numbers c = numbers_rise
