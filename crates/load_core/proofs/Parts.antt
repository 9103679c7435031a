-- What a split may give.
use Rattle.std.proofs.Common.{ℕ, ◌-◌, ◌≤◌, replicate, arith}
use Rattle.std.proofs.lemmas.List.{length-replicate}
use Rattle.load_core.specs.declared.party.Party.{Party}
use Rattle.load_core.specs.Parties.{IsPart, share_at}
use Rattle.load_core.proofs.Entries.{zeros}

-- nothing of any word, where what the party has still fits the rest of its allotment
pub nothing_is_part : (words : ℕ) (p : Party) (allot : ℕ) → allot ≤ p.allot → ((k : ℕ) → share_at k p ≤ p.allot - allot) → IsPart words p allot (replicate words 0)
nothing_is_part words p allot enough fits = record {
  long = length-replicate {A = ℕ} words 0;
  enough = enough;
  had = λ k. omega (arith, zeros words k);
  fits = λ k. omega (arith, zeros words k);
  rest = λ k. omega (arith, zeros words k, fits k);
}
