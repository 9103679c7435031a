use Rattle.std.proofs.Common.{◌∙◌}
use Rattle.straight_runs.specs.Runs.{pieces_of}
use Rattle.straight_runs.specs.Touching.{IsRunWith, first_of}
use Rattle.straight_runs.proofs.Chained.{walk_joined, walk_over, walk_up_or}
use Rattle.straight_runs.proofs.linking.link.Goals as goal

pub returns : goal.returns
returns c =
    let s = c.args.size in
    let runs = c.args.runs.now in
    let one : IsRunWith s runs c.args.at.0 c.args.one.run = c.is_at.ensures c.if-not-is_at.false in
    let other : IsRunWith s runs c.args.at.0 c.args.other.run = c.is_at-else-not-is_at.ensures c.if-not-is_at-2.false in
    record {
      long = c.unite.ensures.long ∙ c.requires.groups.long;
      chained = λ i within. walk_joined s (pieces_of s runs) (first_of runs) _
          (walk_up_or s (pieces_of s runs) (first_of runs) c.args.groups.now.parents.items c.args.one.run c.args.other.run
          (walk_over s runs c.args.one.run c.args.other.run c.args.at.0 c.requires.runs one.0 other.0 one.1 other.1)
          c.requires.groups.chained) i _ (c.unite.ensures.stay i within);
    }
