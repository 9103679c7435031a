use Rattle.std.proofs.Common.{All, [], get_or, refl, sym, ◌∙◌, subst, arith}
use Rattle.std.proofs.lemmas.List.Elements.{All-nil, All-push, All-get_or}
use Rattle.grid_base.specs.declared.size.Size.{Size}
use Rattle.grid_base.specs.declared.vertex.Vertex.{Vertex}
use Rattle.grid_base.specs.Numbers.{IsVertex}
use Rattle.steiner_exact.proofs.guess.tree_guess.Goals as goal

pub loop-init : goal.loop-init
loop-init g c =
    let terminals = c.args.terminals.now in
    let P : Vertex → Type 0 = λ v. IsVertex (g.W.Weights.size c.args.weights.now) v.0 in
    let first : Vertex = get_or terminals 0 (record { 0 = 0 }) in
    record {
      limit = omega arith;
      size = refl;
      masks = refl;
      tree = subst (All P) (sym (rw c.new-tree.ensures.items at c.in_ok-push.ensures.items))
          (All-push P [] first (All-nil P) (All-get_or P terminals 0 (record { 0 = 0 }) (omega (arith, c.requires.some)) c.requires.terminals));
    }

pub next_nearest-next-requires-clause-terminals : goal.next_nearest-next-requires-clause-terminals
next_nearest-next-requires-clause-terminals g c =
    subst (λ (x : Size). All (λ (v : Vertex). IsVertex x v.0) c.args.terminals.now) (sym (c.size-size.ensures ∙ c.loop.invariant.size ∙ c.requires.size)) c.requires.terminals

pub fork_of-fork-requires-clause-next : goal.fork_of-fork-requires-clause-next
fork_of-fork-requires-clause-next g c =
    subst (λ (x : Size). IsVertex x (get_or c.args.terminals.now c.next_nearest-next.result (record { 0 = 0 })).0) (sym (c.size-size.ensures ∙ c.loop.invariant.size ∙ c.requires.size))
    (All-get_or (λ (v : Vertex). IsVertex (g.W.Weights.size c.args.weights.now) v.0) c.args.terminals.now c.next_nearest-next.result (record { 0 = 0 }) c.next_nearest-next.ensures c.requires.terminals)

pub join-requires-clause-fork : goal.join-requires-clause-fork
join-requires-clause-fork g c =
    subst (λ (x : Size). IsVertex x c.fork_of-fork.result.0) (c.size-size.ensures ∙ c.loop.invariant.size ∙ c.requires.size) c.fork_of-fork.ensures

pub join-requires-clause-goal : goal.join-requires-clause-goal
join-requires-clause-goal g c =
    All-get_or (λ (v : Vertex). IsVertex (g.W.Weights.size c.args.weights.now) v.0) c.args.terminals.now c.next_nearest-next.result (record { 0 = 0 }) c.next_nearest-next.ensures c.requires.terminals
