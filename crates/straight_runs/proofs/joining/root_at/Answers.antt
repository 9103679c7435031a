use Rattle.std.proofs.Common.{◌∙◌}
use Rattle.grid_base.specs.Walks.{InPieces}
use Rattle.grid_base.proofs.Walks.{WalkBetween-sym, WalkBetween-trans}
use Rattle.straight_runs.specs.Runs.{pieces_of}
use Rattle.straight_runs.specs.Touching.{first_of}
use Rattle.straight_runs.proofs.Chained.{walk_joined, walk_to, walk_up}
use Rattle.straight_runs.proofs.joining.root_at.Goals as goal

pub returns-clause-groups : goal.returns-clause-groups
returns-clause-groups c = record {
  long = c.root.ensures.long ∙ c.requires.groups.long;
  chained = λ i within. walk_joined c.args.size (pieces_of c.args.size c.args.runs.now) (first_of c.args.runs.now) _
      (walk_up c.args.size (pieces_of c.args.size c.args.runs.now) (first_of c.args.runs.now) c.args.groups.now.parents.items c.requires.groups.chained)
      i _ (c.root.ensures.stay i within);
}

pub returns-clause-walk : goal.returns-clause-walk
returns-clause-walk c =
    let s = c.args.size in
    let runs = c.args.runs.now in
    let F = InPieces (pieces_of s runs) in
    let at = first_of runs in
    WalkBetween-trans s F (at c.root.result) (at c.in_ok-i.i) c.args.v.0
    (WalkBetween-sym s F (at c.in_ok-i.i) (at c.root.result) (walk_joined s (pieces_of s runs) at _ (walk_up s (pieces_of s runs) at c.args.groups.now.parents.items c.requires.groups.chained) c.in_ok-i.i c.root.result c.root.ensures.joined))
    (walk_to s runs c.in_ok-i.i c.args.v.0 c.requires.runs c.in_ok-i.ensures.0 c.in_ok-i.ensures.1)
