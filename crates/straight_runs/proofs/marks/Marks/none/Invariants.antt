use Rattle.std.proofs.Common.{◌≡◌}
use Rattle.std.specs.List.{All}
use Rattle.straight_runs.proofs.marks.Marks.none.Given as goal

-- no word has a bit
abbrev pub invariant-loop : goal.invariant-loop
invariant-loop l = All (λ row. All (λ word. word ≡ 0) row.items) l.rows.items
