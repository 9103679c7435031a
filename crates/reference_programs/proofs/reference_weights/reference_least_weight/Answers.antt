use Rattle.std.proofs.Common.{◌≡◌, ℕ, List, [], Option, MatchOption, sym, ◌∙◌, subst}
use Rattle.grid_base.specs.declared.piece.Piece.{Piece}
use Rattle.grid_base.specs.Walks.{InVertices}
use Rattle.label_search.specs.Sets.{IsLeastWeight, AreApart}
use Rattle.reference_programs.specs.LeastSets.{IsLeastBeside}
use Rattle.reference_programs.proofs.LeastSets.{least_weight, none_joins}
use Rattle.reference_programs.proofs.reference_weights.reference_least_weight.Goals as goal
use Rattle.reference_programs.proofs.reference_weights.reference_least_weight.Goals.{then-least-lt-APART, else-least-lt-APART}

pub returns : goal.returns
returns c =
    let s = c.args.size in
    let pieces = c.args.pieces.now in
    let T = InVertices c.args.terminals.now in
    let P : Option ℕ → Type 0 = λ o. MatchOption o (AreApart s pieces T) (λ least. IsLeastWeight s pieces T least) in
    let none : c.as_slice.result.now ≡ [] = c.as_slice.ensures.value ∙ c.new-chosen.ensures.items in
    let least : IsLeastBeside s [] pieces T c.in_ok-least.least =
    subst (λ (ps : List Piece). IsLeastBeside s ps pieces T c.in_ok-least.least) none c.in_ok-least.ensures in
    elim c.if-least-lt-APART.branch [
      | then-least-lt-APART w ↦ subst P (sym w.result-is)
          (least_weight s pieces T c.in_ok-least.least least w.if-least-lt-APART.true)
      | else-least-lt-APART w ↦ subst P (sym w.result-is)
          (none_joins s pieces T c.in_ok-least.least c.requires.inside c.requires.light least w.if-least-lt-APART.false)
    ]
