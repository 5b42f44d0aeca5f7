-- The loop of `text::put_decimal`: what is left of the number stands before the digits from `first` on.
use Rattle.std.proofs.Common.{◌≡◌, ◌^◌, ◌<◌, ◌++◌, length, drop}
use Rattle.text.specs.Texts.{digits_of, decimal_of}
use Rattle.text.proofs.put_decimal.Given as goal

abbrev pub invariant-loop-rest : goal.invariant-loop-rest
invariant-loop-rest l =
    ((l.first < 20) × (length l.places ≡ 20))
    × ((l.rest < 10 ^ l.first) × (digits_of l.first l.rest ++ drop l.first l.places ≡ decimal_of l.fn.n))

abbrev pub decreases-loop-rest : goal.decreases-loop-rest
decreases-loop-rest l = l.rest
