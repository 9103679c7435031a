-- Histories: a reading more, and those of parts side by side.
use Rattle.std.proofs.Common.{◌≡◌, ◌≢◌, ℕ, ◌+◌, ◌-◌, ◌*◌, ◌%◌, ◌≤◌, ◌<◌, List, ◌++◌, ap, arith}
use Rattle.std.proofs.lemmas.List.{append-nil}
use Rattle.load_core.specs.declared.loaded.Loaded.{Loaded}
use Rattle.price_workers.specs.Readings.{loads_of_reading}
use Rattle.sharing_runs.specs.Parts.{part_start, nets_per_reading}
use Rattle.routing_passes.specs.Histories.{stretches, nets_history, part_history, parts_history}
use Rattle.even_parts.proofs.PartStarts.{part_start-le}
use Rattle.routing_passes.proofs.Ranges.{flat_map-more, flat_map-split, flat_map-same, until, until-below, until-from}

-- the readings of nets are those at the positions of these nets
nets_history-same : (f g : ℕ → List ℕ) (start nets : ℕ) → ((k : ℕ) → start ≤ k → k < start + nets → f k ≡ g k)
    → nets_history f start nets ≡ nets_history g start nets
nets_history-same f g start nets same =
    flat_map-same (λ i. loads_of_reading (f (start + i * nets_per_reading)))
    (λ i. loads_of_reading (g (start + i * nets_per_reading))) 0 (stretches nets)
    (λ i low high. ap loads_of_reading (same (start + i * nets_per_reading) (omega arith) (omega (arith, high))))

-- up to a net more, with which a stretch begins
pub nets_history-begins : (read : ℕ → List ℕ) (start k : ℕ) (now : List ℕ) → start ≤ k → (k - start) % nets_per_reading ≡ 0
    → nets_history (until k read (λ j. now)) start (k + 1 - start) ≡ nets_history read start (k - start) ++ loads_of_reading now
nets_history-begins read start k now low begins =
    let new : ℕ → List ℕ = until k read (λ j. now) in
    let more : stretches (k + 1 - start) ≡ stretches (k - start) + 1 = omega (arith, begins, low) in
    let place : start + (0 + stretches (k - start)) * nets_per_reading ≡ k = omega (arith, begins, low) in
    let before : nets_history new start (k - start) ≡ nets_history read start (k - start) = nets_history-same new read start
    (k - start) (λ j from end. until-below k read (λ i. now) j (omega (arith, end, low))) in
    rw (more, flat_map-more, place, until-from k read (λ j. now) k (omega arith), before)

-- up to a net more in the middle of a stretch
pub nets_history-goes_on : (read : ℕ → List ℕ) (start k : ℕ) → start ≤ k → (k - start) % nets_per_reading ≢ 0
    → nets_history read start (k + 1 - start) ≡ nets_history read start (k - start)
nets_history-goes_on read start k low midway =
    let same : stretches (k + 1 - start) ≡ stretches (k - start) = omega (arith, midway, low) in
    rw same

-- the parts of some workers and those behind them
pub parts_history-append : (workers nets : ℕ) (f g : ℕ → List ℕ) (first middle last : ℕ) → 0 < workers → first ≤ middle
    → middle ≤ last
    → parts_history workers nets (until (part_start workers nets middle) f g) first (last - first)
    ≡ parts_history workers nets f first (middle - first) ++ parts_history workers nets g middle (last - middle)
parts_history-append workers nets f g first middle last some low high =
    let m : ℕ = part_start workers nets middle in
    let both : ℕ → List ℕ = until m f g in
    let part : (ℕ → List ℕ) → ℕ → List Loaded = part_history workers nets in
    let rises = λ (v w : ℕ) (order : v ≤ w). part_start-le workers nets v w some order in
    let before : (w : ℕ) → first ≤ w → w < first + (middle - first) → part both w ≡ part f w =
    λ w from end. nets_history-same both f (part_start workers nets w) _ (λ k here short. until-below m f g k
    (omega (arith, short, rises w (w + 1) (omega arith), rises (w + 1) middle (omega (arith, end, low))))) in
    let behind : (w : ℕ) → middle ≤ w → w < middle + (last - middle) → part both w ≡ part g w =
    λ w from end. nets_history-same both g (part_start workers nets w) _ (λ k here short. until-from m f g k
    (omega (arith, here, rises middle w from))) in
    let long : last - first ≡ (middle - first) + (last - middle) = omega (arith, low, high) in
    let seam : first + (middle - first) ≡ middle = omega (arith, low) in
    rw (long, flat_map-split, seam, flat_map-same _ _ _ _ before, flat_map-same _ _ _ _ behind)

-- the part of one worker
pub parts_history-one : (workers nets : ℕ) (f : ℕ → List ℕ) (worker : ℕ)
    → parts_history workers nets f worker 1 ≡ part_history workers nets f worker
parts_history-one workers nets f worker = append-nil (part_history workers nets f worker)
