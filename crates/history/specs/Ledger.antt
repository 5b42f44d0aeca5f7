-- What calls do to the credit, as entries of a ledger that is read off the history.
use Rattle.std.specs.Prelude.{ℕ, ◌+◌, ◌-◌, cond, List, [], ◌∷◌, ◌++◌, replicate}
use Rattle.slot.specs.Found.{status_at, is_unverified, found_as}
use Rattle.credit.specs.Credit.{credited}
use Rattle.credit.specs.Clock.{ageings, aged_once, last_ageing}
use Rattle.association.specs.declared.Association.{Association}
use Rattle.history.specs.Calls.{Call, message, arrival, send, tick, announce, Answered, refused_by, done, repeated, granted_to, is_accepted, Step}

-- an accepted arrival, a grant to UNVERIFIED, an ageing
pub data Entry : Type 0 where
  arrived : (size : ℕ) → Entry
  granted : (size : ℕ) → Entry
  ageing : Entry

-- ---- from the history to the ledger
-- "Granted to UNVERIFIED: the size of a granted send that finds the address it picks UNVERIFIED."
abbrev pub grant_of : (found : Association) → (size : ℕ) → Answered → List Entry
grant_of found size (refused_by r) = []
grant_of found size done = []
grant_of found size repeated = []
grant_of found size (granted_to n) = cond (found_as is_unverified (status_at n found.slots)) (granted size ∷ []) []

-- the entries of a call, by what it found and answered and the time of the last ageing before it. "Ageings: those that accepted ticks make by the
-- clock rule"
abbrev pub entries_of : (last : ℕ) → (found : Association) → Call → Answered → List Entry
entries_of last found (message packet authentic nonces eight buffer) r = []
entries_of last found (arrival size) r = cond (is_accepted r) (arrived size ∷ []) []
entries_of last found (send size) r = grant_of found size r
entries_of last found (tick time buffer) r = cond (is_accepted r) (replicate (ageings last time) ageing) []
entries_of last found (announce list count inbound keymat buffer) r = []

-- the time of the last ageing after a call: it moves by the clock rule and "the accepted ticks' times"
abbrev pub last_of : (last : ℕ) → Call → Answered → ℕ
last_of last (message packet authentic nonces eight buffer) r = last
last_of last (arrival size) r = last
last_of last (send size) r = last
last_of last (tick time buffer) r = cond (is_accepted r) (last_ageing last time) last
last_of last (announce list count inbound keymat buffer) r = last

-- the ledger of a history, "reckoned from the time of last ageing held at the sequence's beginning"
unfoldable pub ledger : (last : ℕ) → List Step → List Entry
ledger last [] = []
ledger last (s ∷ ss) = entries_of last s.found s.call s.answered ++ ledger (last_of last s.call s.answered) ss

-- ---- sums over a ledger
-- "An accepted arrival adds its size, stopping at the limit; a grant to UNVERIFIED takes its size off; an ageing turns c into floor(7c / 8)."
abbrev pub booked : (credit : ℕ) → Entry → ℕ
booked c (arrived size) = credited c size
booked c (granted size) = c - size
booked c ageing = aged_once c

-- the credit after these entries
unfoldable pub held : (credit : ℕ) → List Entry → ℕ
held c [] = c
held c (e ∷ es) = held (booked c e) es

-- "Credit held: 0 at the beginning."
abbrev pub credit_held : List Entry → ℕ
credit_held es = held 0 es

-- the bytes of accepted arrivals
unfoldable pub arrived_in : List Entry → ℕ
arrived_in [] = 0
arrived_in (arrived size ∷ es) = size + arrived_in es
arrived_in (granted size ∷ es) = arrived_in es
arrived_in (ageing ∷ es) = arrived_in es

-- the bytes granted to UNVERIFIED
unfoldable pub granted_in : List Entry → ℕ
granted_in [] = 0
granted_in (arrived size ∷ es) = granted_in es
granted_in (granted size ∷ es) = size + granted_in es
granted_in (ageing ∷ es) = granted_in es

-- the number of ageings
unfoldable pub ageings_in : List Entry → ℕ
ageings_in [] = 0
ageings_in (arrived size ∷ es) = ageings_in es
ageings_in (granted size ∷ es) = ageings_in es
ageings_in (ageing ∷ es) = 1 + ageings_in es

-- "with no accepted arrival among them"
unfoldable pub NoArrival : List Entry → Type 0
NoArrival [] = Unit {0}
NoArrival (arrived size ∷ es) = ⊥
NoArrival (granted size ∷ es) = NoArrival es
NoArrival (ageing ∷ es) = NoArrival es
