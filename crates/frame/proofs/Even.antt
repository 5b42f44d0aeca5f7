-- A parameter of an even type adds nothing to what the walk has seen. Assumes nothing.
use mathlib.Core.Path.{◌≡◌, refl}
use mathlib.Core.Bool.{false}
use Prim.Native.Nat.{ℕ, ◌%◌}
use native.Mathlib.Omega.{arith}
use lib.Dec.{eqb}
use borrow.Author.Tests.{ne_eqb}
use Rattle.parameter.specs.Types.{esp_info, locator_set, seq, ack, echo_request_signed, echo_response_signed, refused_type}
use Rattle.frame.specs.declared.Survey.{Survey}
use Rattle.frame.specs.Turn.{noted}

-- it is none of the odd types
not_odd : (kind type : ℕ) → kind % 2 ≡ 0 → type % 2 ≡ 1 → eqb kind type ≡ false
not_odd kind type h t = ne_eqb kind type (λ e. omega arith)

-- "Another even type is stepped over"
not_refused : (kind : ℕ) → kind % 2 ≡ 0 → refused_type kind ≡ false
unfolding refused_type
not_refused kind h = rw h

pub even_passed : (seen : Survey) (kind body len : ℕ) → kind % 2 ≡ 0 → seen ≡ noted seen kind body len
even_passed seen kind body len h =
    rw (not_refused kind h, not_odd kind esp_info h refl, not_odd kind locator_set h refl, not_odd kind seq h refl, not_odd kind ack h refl, not_odd kind echo_request_signed h refl, not_odd kind echo_response_signed h refl)
