use Rattle.std.proofs.Common.{ℕ, ◌≤◌, subst, sym}
use Rattle.std.specs.Option.{IfSome}
use Rattle.label_search.specs.Held.{IsHeld}
use Rattle.label_search.proofs.row.Row.key.Goals as goal

pub returns-clause-only : goal.returns-clause-only
returns-clause-only c = subst (λ (n : ℕ). IfSome c.key.result (λ key. (k : ℕ) → IsHeld c.args.self.now.heap n k → key ≤ k)) c.in_ok-index.ensures.some.0 c.key.ensures.only

pub returns-clause-none : goal.returns-clause-none
returns-clause-none c = λ none key waits. c.key.ensures.none none key (subst (λ i. IsHeld c.args.self.now.heap i key) (sym c.in_ok-index.ensures.some.0) waits)
