use Rattle.std.proofs.Common.{◌≡◌, ◌<◌, ℕ, length, get_or}
use Rattle.label_search.specs.Finding.{unset}
use Rattle.label_search.proofs.found.clear_stamps.Given as goal

abbrev pub invariant-loop-each : goal.invariant-loop-each
invariant-loop-each l = record {
  length : length l.slots ≡ length l.initial.slots;
  cleared : (v : ℕ) → v < l.each-index → (get_or l.slots v unset).stamp ≡ 0;
}
