-- A tick after a long silence, which has more ageings than can be computed. Assumes nothing.
use mathlib.Core.Path.{◌≡◌, ◌∙◌, ap}
use mathlib.Core.Bool.{false}
use mathlib.Core.List.{List}
use Prim.Native.Nat.{ℕ, ◌-◌, ◌*◌, ◌≤◌, ◌<◌}
use lib.ListN.{length}
use native.Mathlib.Omega.{arith}
use borrow.Author.Tests.{le-ltb, lt-leb}
use Rattle.credit.specs.Credit.{credit_limit}
use Rattle.credit.specs.Clock.{time_limit, ageing_interval, last_ageing}
use Rattle.credit.specs.Lasting.{lasting_within, lasting}
use Rattle.credit.proofs.Ageing.{silence}
use Rattle.slots.specs.Rules.{expire_all, resend_all}
use Rattle.resend.specs.Resends.{tick_room}
use Rattle.association.specs.Form.{refusal0, with_clock}
use Rattle.association.specs.declared.Association.{Association}
use Rattle.association.proofs.Sound.{sound}
use Rattle.clock.specs.Ticks.{handled, tick_of}

-- the association after a tick that leaves no credit
abbrev pub silenced : Association → (time : ℕ) → Association
silenced a time = with_clock a time (last_ageing a.aged time) 0 (resend_all time (expire_all time a.slots))

-- a tick on an association that refusal 0 does not refuse leaves no credit where as many intervals have passed as the limit lasts
pub after_silence : (a : Association) (time : ℕ) (buffer : List ℕ) → refusal0 a ≡ false → tick_room ≤ length buffer → a.time ≤ time → time < time_limit →
    lasting credit_limit * ageing_interval ≤ time - a.aged → (tick_of a time buffer).association ≡ silenced a time
unfolding handled
after_silence a time buffer p r h k l =
    let s = sound a p in
    let none = silence credit_limit a.aged time a.credit s.credit l in
    let early = le-ltb time a.time h in
    let within = lt-leb time_limit time k in
    let room = le-ltb (length buffer) tick_room r in
    rw (p, room, early, within, none)

-- a tick at 2^40 - 1, the last time that is accepted, where the last ageing is at time 0: of its 219,902,325,555 ageings the 93rd leaves nothing, and the last is now
pub longest : (a : Association) (buffer : List ℕ) → refusal0 a ≡ false → tick_room ≤ length buffer → a.aged ≡ 0 →
    (tick_of a (time_limit - 1) buffer).association
    ≡ with_clock a (time_limit - 1) (time_limit - 1) 0 (resend_all (time_limit - 1) (expire_all (time_limit - 1) a.slots))
unfolding lasting_within
longest a buffer p r z =
    let s = sound a p in
    let t = s.time in
    after_silence a (time_limit - 1) buffer p r (omega arith) (omega arith) (omega arith)
    ∙ ap (λ (n : ℕ). with_clock a (time_limit - 1) n 0 (resend_all (time_limit - 1) (expire_all (time_limit - 1) a.slots))) (omega arith)
