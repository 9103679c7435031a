use Rattle.std.proofs.Common.{ℕ, ◌<◌, ◌≤◌, ◌-◌, get_or}
use Rattle.load_core.proofs.party.Party.may_give.Given as goal

abbrev pub invariant-loop-at : goal.invariant-loop-at
invariant-loop-at l = record {
  had : (k : ℕ) → k < l.at → get_or l.given k 0 ≤ get_or l.self.shares k 0;
  fits : (k : ℕ) → k < l.at → get_or l.given k 0 ≤ l.allot;
  rest : (k : ℕ) → k < l.at → get_or l.self.shares k 0 - get_or l.given k 0 ≤ l.left;
}
