-- Laws of ledgers: what is granted comes from what was held and what arrived, and ageing leaves seven eighths. They know nothing of the calls.
-- Assumes nothing.
use mathlib.Core.Path.{◌≡◌, refl}
use mathlib.Core.List.{List, [], ◌∷◌, ◌++◌}
use Prim.Native.Nat.{ℕ, zero, suc, ◌+◌, ◌-◌, ◌*◌, ◌^◌, ◌≤◌, ◌<◌}
use lib.ListN.{replicate}
use native.Mathlib.Nat.{mul-le-mul_left, pow-succ', le_trans}
use native.Mathlib.Omega.{arith}
use Rattle.credit.specs.Clock.{aged_once, aged_by}
use Rattle.credit.proofs.Ageing.{aged_once_lem}
use Rattle.history.specs.Ledger.{Entry, arrived, granted, ageing, booked, held, arrived_in, granted_in, ageings_in, NoArrival}

-- a grant finds the credit higher than its size
abbrev Covered : (credit : ℕ) → Entry → Type 0
Covered c (arrived size) = Unit {0}
Covered c (granted size) = size < c
Covered c ageing = Unit {0}

-- every grant does
unfoldable pub Funded : (credit : ℕ) → List Entry → Type 0
Funded c [] = Unit {0}
Funded c (e ∷ es) = Covered c e × Funded (booked c e) es

-- ---- a ledger in two parts
pub held_append : (c : ℕ) (es fs : List Entry) → held c (es ++ fs) ≡ held (held c es) fs
unfolding held
held_append c [] fs = refl
held_append c (e ∷ es) fs = held_append (booked c e) es fs

pub funded_join : (c : ℕ) (es fs : List Entry) → Funded c es → Funded (held c es) fs → Funded c (es ++ fs)
unfolding held Funded
funded_join c [] fs p q = q
funded_join c (e ∷ es) fs p q = (p.0, funded_join (booked c e) es fs p.1 q)

pub funded_split : (c : ℕ) (es fs : List Entry) → Funded c (es ++ fs) → Funded c es × Funded (held c es) fs
unfolding held Funded
funded_split c [] fs p = (tt, p)
funded_split c (e ∷ es) fs p = let r = funded_split (booked c e) es fs p.1 in ((p.0, r.0), r.1)

-- ---- ageings by themselves
pub ageings_held : (k c : ℕ) → held c (replicate k ageing) ≡ aged_by k c
unfolding held aged_by
ageings_held zero c = refl
ageings_held (suc k) c = ageings_held k (aged_once c)

pub ageings_funded : (k c : ℕ) → Funded c (replicate k ageing)
unfolding Funded
ageings_funded zero c = tt
ageings_funded (suc k) c = (tt, ageings_funded k (aged_once c))

-- ---- sums
-- what is granted and what is left come from what was held and what arrived
pub conserved : (c : ℕ) (es : List Entry) → Funded c es → granted_in es + held c es ≤ c + arrived_in es
unfolding held arrived_in granted_in Funded
conserved c [] p = omega arith
conserved c (arrived size ∷ es) p = let r = conserved (booked c (arrived size)) es p.1 in omega arith
conserved c (granted size ∷ es) p = let r = conserved (booked c (granted size)) es p.1 in let h = p.0 in omega arith
conserved c (ageing ∷ es) p = let r = conserved (booked c ageing) es p.1 in omega arith

none_arrived : (es : List Entry) → NoArrival es → arrived_in es ≡ 0
unfolding arrived_in NoArrival
none_arrived [] p = refl
none_arrived (arrived size ∷ es) p = absurd p
none_arrived (granted size ∷ es) p = none_arrived es p
none_arrived (ageing ∷ es) p = none_arrived es p

decay_step : (p h q c t : ℕ) → p * h ≤ t * q → 8 * q ≤ 7 * c → (8 * p) * h ≤ (7 * t) * c
decay_step p h q c t r s = omega (arith, mul-le-mul_left 8 r, mul-le-mul_left t s)

powers : (b k : ℕ) → b ^ (1 + k) ≡ b * b ^ k
powers b k = let e : 1 + k ≡ suc k = omega arith in rw e (pow-succ' b k)

-- "with no accepted arrival among them", k ageings leave at most 7^k/8^k of the credit
decay : (c : ℕ) (es : List Entry) → NoArrival es → 8 ^ ageings_in es * held c es ≤ 7 ^ ageings_in es * c
unfolding held ageings_in NoArrival
decay c [] p = omega arith
decay c (arrived size ∷ es) p = absurd p
decay c (granted size ∷ es) p = le_trans (decay (c - size) es p) (mul-le-mul_left (7 ^ ageings_in es) (omega arith))
decay c (ageing ∷ es) p =
    rw (powers 8 (ageings_in es), powers 7 (ageings_in es))
    (decay_step (8 ^ ageings_in es) (held (aged_once c) es) (aged_once c) c (7 ^ ageings_in es) (decay (aged_once c) es p) (aged_once_lem c))

-- and so bound what is granted after them
pub faded : (c : ℕ) (among since rest : List Entry) → Funded c (among ++ (since ++ rest)) → NoArrival among → NoArrival since →
    8 ^ ageings_in among * granted_in since ≤ 7 ^ ageings_in among * c
faded c among since rest p q r =
    let f = funded_split c among (since ++ rest) p in
    let g = funded_split (held c among) since rest f.1 in
    let s = conserved (held c among) since g.0 in
    let z = none_arrived since r in
    le_trans (mul-le-mul_left (8 ^ ageings_in among) (omega arith)) (decay c among q)
