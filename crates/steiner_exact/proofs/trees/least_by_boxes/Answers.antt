use Rattle.std.proofs.Common.{All, sym, ◌∙◌, subst, arith}
use Rattle.grid_base.specs.declared.size.Size.{Size}
use Rattle.grid_base.specs.declared.vertex.Vertex.{Vertex}
use Rattle.grid_base.specs.Numbers.{IsVertex}
use Rattle.steiner_exact.proofs.Attempts.{few_masks}
use Rattle.steiner_exact.proofs.trees.least_by_boxes.Goals as goal

pub new-family-requires-clause-terminals : goal.new-family-requires-clause-terminals
new-family-requires-clause-terminals g c =
    subst (λ (x : Size). All (λ (v : Vertex). IsVertex x v.0) c.args.terminals.now) (sym (c.size.ensures ∙ c.tree_guess.ensures.size ∙ c.requires.size)) c.requires.terminals

pub least_at_root-requires-clause-room : goal.least_at_root-requires-clause-room
least_at_root-requires-clause-room g c = omega (arith, few_masks c.args.terminals.now c.requires.few, c.requires.room, c.tree_guess.ensures.masks)
