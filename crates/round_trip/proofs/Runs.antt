-- Parameters that stand one after another behind a header are the packet's parameters, in order. Assumes nothing.
use Prim.Native.Nat.{ℕ, ◌+◌, ◌-◌, ◌≤◌}
use mathlib.Core.Path.{◌≡◌, refl, sym, ap, ◌∙◌}
use mathlib.Core.List.{List, [], ◌∷◌, ◌++◌, append_assoc}
use lib.ListN.{length, length-append}
use native.Mathlib.Omega.{arith}
use Rattle.octets.specs.Records.{records}
use Rattle.octets.proofs.Runs.{records_more, records_none}
use Rattle.parameter.specs.declared.Parameter.{Parameter}
use Rattle.parameter.specs.Parameters.{takes, parameter_at}
use Rattle.frame.specs.Header.{header_size}
use Rattle.frame.specs.Parameters.{parameters}
use Rattle.round_trip.specs.Each.{Each}
use Rattle.round_trip.specs.Wire.{WireParameter, wire_bytes, wires_bytes, Whole}
use Rattle.round_trip.proofs.Wire.{Stands, placed_at, wire_length, parameter_read}

-- the parameters as they are read, the first at `at`
unfoldable pub placed : (at : ℕ) → List WireParameter → List Parameter
placed at [] = []
placed at (p ∷ ps) = placed_at at p ∷ placed (at + takes (length p.body)) ps

-- each stands in s, one after another, the first at `at`
unfoldable pub EachStands : List ℕ → (at : ℕ) → List WireParameter → Type 0
EachStands s at [] = Unit {0}
EachStands s at (p ∷ ps) = Stands s at p × EachStands s (at + takes (length p.body)) ps

each_stands : (s : List ℕ) (at : ℕ) (ps : List WireParameter) (before : List ℕ) → s ≡ before ++ wires_bytes ps → at ≡ length before → Each Whole ps
    → EachStands s at ps
unfolding wires_bytes Each EachStands
each_stands s at [] before e l w = tt
each_stands s at (p ∷ ps) before e l w =
    let next : s ≡ (before ++ wire_bytes p) ++ wires_bytes ps = e ∙ sym (append_assoc before (wire_bytes p) (wires_bytes ps)) in
    let there : at + takes (length p.body) ≡ length (before ++ wire_bytes p) = rw (length-append before (wire_bytes p), wire_length p w.0, l) in
    let here : Stands s at p = record { before = before; after = wires_bytes ps; bytes = e; place = l } in
    (here, each_stands s (at + takes (length p.body)) ps (before ++ wire_bytes p) next there w.1)

-- the bytes that they take
pub wires_length : (p : WireParameter) (ps : List WireParameter) → Whole p → length (wires_bytes (p ∷ ps)) ≡ takes (length p.body) + length (wires_bytes ps)
unfolding wires_bytes
wires_length p ps w = rw (length-append (wire_bytes p) (wires_bytes ps), wire_length p w)

-- the run over bytes that end with them
pub run_read : (s : List ℕ) (at : ℕ) (ps : List WireParameter) (steps : ℕ) → EachStands s at ps → Each Whole ps → length s ≡ at + length (wires_bytes ps)
    → length s - at ≤ steps → records (parameter_at s) (λ (p : Parameter). p.next) (length s) steps at ≡ placed at ps
unfolding Each EachStands placed
run_read s at [] steps h w e n = records_none (parameter_at s) (λ (p : Parameter). p.next) (length s) steps at (unfold wires_bytes in (omega arith))
run_read s at (p ∷ ps) steps h w e n =
    let size = wires_length p ps w.0 in
    let next : ℕ = at + takes (length p.body) in
    records_more (parameter_at s) (λ (p : Parameter). p.next) (length s) steps at (omega arith) n
    ∙ ap (λ (x : Parameter). x ∷ records (parameter_at s) (λ (p : Parameter). p.next) (length s) (steps - 1) x.next) (parameter_read s at p h.0 w.0)
    ∙ ap (λ (xs : List Parameter). placed_at at p ∷ xs) (run_read s next ps (steps - 1) h.1 w.1 (omega arith) (omega arith))

-- the parameters of a packet
module _ (header : List ℕ) (ps : List WireParameter) (long : length header ≡ header_size) (whole : Each Whole ps) where
  pub packet_stands : EachStands (header ++ wires_bytes ps) header_size ps
  packet_stands = each_stands (header ++ wires_bytes ps) header_size ps header refl (sym long) whole

  pub packet_parameters : parameters (header ++ wires_bytes ps) ≡ placed header_size ps
  packet_parameters =
      let size = length-append header (wires_bytes ps) in
      run_read (header ++ wires_bytes ps) header_size ps (length (header ++ wires_bytes ps)) packet_stands whole (omega arith) (omega arith)
