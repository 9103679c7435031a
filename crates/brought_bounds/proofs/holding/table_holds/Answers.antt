use Rattle.std.proofs.Common.{◌≡◌, ◌-◌, length, All, refl, ◌∙◌, subst, arith}
use Rattle.steiner_tables.specs.Masks.{all_but_root}
use Rattle.steiner_tables.proofs.Roots.{holds_at_root}
use Rattle.brought_bounds.specs.TableWords.{table_number, IsRow, IsTable}
use Rattle.brought_bounds.proofs.Held.{held, power_small}
use Rattle.brought_bounds.proofs.holding.table_holds.Goals as goal

pub returns-then-not-rows_rise-clause-holds : goal.returns-then-not-rows_rise-clause-holds
returns-then-not-rows_rise-clause-holds g c =
    let long : length c.args.table.now.rows ≡ all_but_root c.args.terminals.now =
    (c.if-not-are.ensures.0 refl).0 ∙ c.all_but_root-last.ensures in (
      λ no. absurd (cc no),
      λ is. c.if-not-rows_rise.ensures.1
          (λ mask some low. is.holds.steps mask some (omega (arith, low, c.all_but_root-last.ensures))),
    )

pub splits_hold-requires-clause-few : goal.splits_hold-requires-clause-few
splits_hold-requires-clause-few g c =
    let long : length c.args.table.now.rows ≡ all_but_root c.args.terminals.now =
    (c.if-not-are.ensures.0 refl).0 ∙ c.all_but_root-last.ensures in
    omega (arith, long, power_small (length c.args.terminals.now - 1) (omega (arith, c.requires.few)))

pub returns-clause-holds : goal.returns-clause-holds
returns-clause-holds g c =
    let s = c.args.size in
    let pieces = g.W.Weights.pieces c.args.weights.now in
    let terminals = c.args.terminals.now in
    let rows = c.args.table.now.rows in
    let are = c.if-not-are.ensures.0 refl in
    let long : length rows ≡ all_but_root terminals = are.0 ∙ c.all_but_root-last.ensures in
    let table : IsTable s terminals rows = record
    { each = long; filled = subst (λ n. All (IsRow n) rows) c.vertices.ensures are.1 } in (
      λ sure. held s pieces terminals rows table
          (λ mask some low. c.if-not-rows_rise.ensures.0 refl mask some (omega (arith, low, long, c.all_but_root-last.ensures)))
          (c.if-not-are_own.ensures.0 refl) (c.splits_hold.ensures.0 sure),
      λ is. c.splits_hold.ensures.1 (λ one other some low others high mask v parts within inside. is.holds.splits one other mask
          v parts (omega (arith, within, long)) inside),
    )

pub returns-clause-bound : goal.returns-clause-bound
returns-clause-bound g c holding_is two root at set is joins =
    let holding = (returns-clause-holds g c).0 holding_is in
    holds_at_root c.args.size (g.W.Weights.pieces c.args.weights.now) c.args.terminals.now
    (table_number c.args.table.now.rows) set root holding.holds two at is joins
