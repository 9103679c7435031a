use Rattle.std.proofs.Common.{ap, ◌∙◌}
use Rattle.shortest_paths.specs.LabelWords.{label_of}
use Rattle.label_search.specs.Stamped.{far}
use Rattle.steiner_tables.specs.Tables.{answer_at}
use Rattle.steiner_tables.proofs.Roots.{root_mask}
use Rattle.steiner_exact.specs.Roots.{root_of}
use Rattle.steiner_exact.proofs.root_label.root_label.Goals as goal

pub label-requires-clause-some : goal.label-requires-clause-some
label-requires-clause-some c = rw c.all_but_root_of.ensures (root_mask c.args.terminals.now c.requires.two).0

pub returns : goal.returns
returns c = c.label.ensures ∙ ap (λ m. answer_at far (label_of c.args.labels.now m (root_of c.args.terminals.now).0)) c.all_but_root_of.ensures
