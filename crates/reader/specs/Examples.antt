-- Worked examples, computed from the definitions.
use Rattle.std.specs.Prelude.{ℕ, ◌+◌, ◌≡◌, refl, List, [], ◌∷◌, ◌++◌, map, replicate, None, Ok, Err}
use Rattle.std.specs.Borrow.{Bor}
use Rattle.refusal.specs.Table.{refusal}
use Rattle.octets.specs.Records.{records}
use Rattle.parameter.specs.Types.{wrong_length}
use Rattle.frame.specs.Parameters.{falls}
use Rattle.reader.specs.Readers.{Step, found, advanced_of, fresh, stepped_of}
use Rattle.reader.specs.Through.{answers, after, well_formed, answers_to, answers_of}

-- SEQ, ACK, SEQ with a wrong length, and the first four bytes of an ACK; a packet has them after its header, which a reader does not judge
abbrev seq : List ℕ
seq = 1 ∷ 129 ∷ 0 ∷ 4 ∷ 0 ∷ 0 ∷ 0 ∷ 7 ∷ []

abbrev ack : List ℕ
ack = 1 ∷ 193 ∷ 0 ∷ 4 ∷ 0 ∷ 0 ∷ 0 ∷ 7 ∷ []

abbrev long_seq : List ℕ
long_seq = 1 ∷ 129 ∷ 0 ∷ 5 ∷ 0 ∷ 0 ∷ 0 ∷ 7 ∷ []

abbrev torn_ack : List ℕ
torn_ack = 1 ∷ 193 ∷ 0 ∷ 4 ∷ []

abbrev packet : List ℕ → List ℕ
packet parameters = replicate 40 0 ++ parameters

-- a parameter of four bytes, by its type and its place
abbrev four : (kind at : ℕ) → Step
four kind at = found (record { kind = kind; len = 4; body = at; next = 4 + at })

-- packets, and what a new reader of each answers, step by step
abbrev packets : List (List ℕ)
packets =
    replicate 39 0
    ∷ packet []
    ∷ packet (seq ++ ack)
    ∷ packet (ack ++ ack)
    ∷ packet (ack ++ seq)
    ∷ packet (seq ++ (long_seq ++ ack))
    ∷ packet (seq ++ torn_ack)
    ∷ packet (replicate 8 0)
    ∷ []

abbrev answered : List (List Step)
answered =
    -- a packet shorter than the header, and one without parameters: the end
    (Ok None ∷ [])
    ∷ (Ok None ∷ [])
    -- each parameter in order, and the end; types may be equal
    ∷ (four 385 44 ∷ four 449 52 ∷ Ok None ∷ [])
    ∷ (four 449 44 ∷ four 449 52 ∷ Ok None ∷ [])
    -- a type that falls, a wrong length, a parameter past the end: what stands before it, and the refusal
    ∷ (four 449 44 ∷ Err (refusal 3) ∷ [])
    ∷ (four 385 44 ∷ Err (refusal 3) ∷ [])
    ∷ (four 385 44 ∷ Err (refusal 3) ∷ [])
    -- the first parameter falls below none, also where its type is 0
    ∷ (found (record { kind = 0; len = 0; body = 44; next = 48 }) ∷ Ok None ∷ [])
    ∷ []

-- a reference to a packet, in the memory that r points to
abbrev holding : Bor (List ℕ) → List ℕ → Bor (List ℕ)
holding r s = record r { now = s }

-- whatever memory holds the packet
through : (r : Bor (List ℕ)) → map (λ (s : List ℕ). answers 56 (fresh (holding r s))) packets ≡ answered
unfolding answers advanced_of wrong_length
through r = refl

-- stepped once, and at most so many times more
at_most : (r : Bor (List ℕ)) → map (λ (steps : ℕ). answers steps (fresh (holding r (packet (seq ++ ack))))) (0 ∷ 1 ∷ 2 ∷ 3 ∷ [])
    ≡ (four 385 44 ∷ [])
    ∷ (four 385 44 ∷ four 449 52 ∷ [])
    ∷ (four 385 44 ∷ four 449 52 ∷ Ok None ∷ [])
    ∷ (four 385 44 ∷ four 449 52 ∷ Ok None ∷ [])
    ∷ []
unfolding answers advanced_of wrong_length
at_most r = refl

-- and what the packet's parameters call for is the same
called_for : map answers_of packets ≡ answered
unfolding answers_to well_formed records falls wrong_length
called_for = refl

-- past its last answer a reader stays where it is, and answers the same
stays : (r : Bor (List ℕ)) → ((stepped_of (after 9 (fresh (holding r (packet (seq ++ ack)))))).step ≡ Ok None)
    × ((stepped_of (after 9 (fresh (holding r (packet (ack ++ seq)))))).step ≡ Err (refusal 3))
unfolding after advanced_of wrong_length
stays r = (refl, refl)
