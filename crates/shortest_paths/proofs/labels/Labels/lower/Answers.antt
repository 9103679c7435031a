use Rattle.std.proofs.Common.{refl, arith}
use Rattle.label_search.proofs.Finding.{still_found}
use Rattle.shortest_paths.proofs.labels.Labels.lower.Goals as goal

pub returns : goal.returns
returns c =
    let l = c.lower.ensures in
    record {
      go_on = record { size = l.found.size; masks = refl; first = λ vertices count first. still_found vertices count c.args.self.now.row.found c.lower.new.self.found first l.found };
      number = l.number;
      others = l.others;
      less = omega (arith, c.requires.less, l.number, l.total, l.count);
      placed = l.placed;
      kept = l.kept;
      only = l.only;
    }
