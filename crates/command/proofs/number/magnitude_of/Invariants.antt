-- What the digits passed say, and those to come, is what all say; so few digits stay below 10 to the 19th.
use Rattle.std.proofs.Common.{◌≡◌, ◌^◌, ◌<◌, drop}
use Rattle.command.specs.Numbers.{magnitude_from}
use Rattle.command.proofs.number.magnitude_of.Given as goal

abbrev pub invariant-loop-digit : goal.invariant-loop-digit
invariant-loop-digit l =
    record {
      small : l.value < 10 ^ l.digit-index;
      same : magnitude_from 0 l.digits ≡ magnitude_from l.value (drop l.digit-index l.digits);
    }
