use Rattle.load_table.proofs.ShortValues.{found-zeros}
use Rattle.load_table.proofs.found.Found.zeros.Goals as goal

pub returns : goal.returns
returns c = record { zeros = found-zeros c.args.words _ _ (c.in_ok-short.ensures.items_if_clones_equal (λ y same. same)) }
