use Rattle.std.proofs.Common.{◌≡◌, ℤ, pos, neg_ℤ, Ok, sym, ap, to_z, of_z, ◌∙◌, length, w64, arith}
use Rattle.std.specs.Int.{w128}
use Rattle.std.proofs.lemmas.Int.{ints}
use Rattle.grid_graph.specs.Layouts.{IsPosition}
use Rattle.grid_graph.specs.Limits.{max_number}
use Rattle.text_scan.specs.Faults.{fault_place}
use Rattle.text_scan.specs.Parts.{◌>>=◌, refused_as}
use Rattle.text_scan.specs.Reading.{Reading, next_number, next_place, past_blanks, past_number, left}
use Rattle.text_scan.proofs.Ranges.{front_is_within}
use Rattle.route_text.proofs.parts.coordinate.Goals as goal

-- a position fits a number of 64 bits
position_fits : (z : ℤ) → IsPosition z → to_z w64 (of_z w64 (to_z w128 (of_z w128 z))) ≡ z
position_fits z near = omega (arith, ints, near.low, near.high)

-- the number that was read, and its range
number_read : (lo hi z : ℤ) (r : Reading) → lo ≡ neg_ℤ (pos max_number) → hi ≡ pos max_number → Ok z ≡ next_number (to_z w128 (of_z w128 lo)) (to_z w128 (of_z w128 hi)) r →
    (next_number (neg_ℤ (pos max_number)) (pos max_number) r ≡ Ok z) × IsPosition z
number_read lo hi z r low high answer =
    let read : next_number (neg_ℤ (pos max_number)) (pos max_number) r ≡ Ok z = sym (rw (low, high) at answer) in
    let within = front_is_within (neg_ℤ (pos max_number)) (pos max_number) z (length r.text) (next_place r) (left (past_blanks r)) read in
    (read, record { low = within.0; high = within.1 })

pub returns-clause-number : goal.returns-clause-number
returns-clause-number c =
    let z = c.in_ok-value.value in
    let h = number_read c.from.result c.from-2.result z c.args.scanner.now c.from.ensures c.from-2.ensures c.in_ok-value.ensures.answer in
    rw (position_fits z h.1) (ap (λ answer. refused_as fault_place answer >>= λ number. Ok (number, past_number c.args.scanner.now)) h.0 ∙ ap (λ (r : Reading). Ok (z, r)) (sym c.digits.ensures.passed))

pub returns-clause-range : goal.returns-clause-range
returns-clause-range c =
    let z = c.in_ok-value.value in
    let h = number_read c.from.result c.from-2.result z c.args.scanner.now c.from.ensures c.from-2.ensures c.in_ok-value.ensures.answer in
    rw (position_fits z h.1) h.1
