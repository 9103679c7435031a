use Rattle.std.proofs.Common.{◌≡◌, ℕ, ◌<◌, List, length, get_or, refl, sym, ◌∙◌, ap}
use Rattle.std.proofs.lemmas.Option.{same_Some, slice_get_read}
use Rattle.grid_base.specs.Lists.{At}
use Rattle.grid_graph.specs.declared.net_spec.NetSpec.{NetSpec}

read_net : (nets xs : List NetSpec) (place : ℕ) (n m : NetSpec) → xs ≡ nets → place < length nets → n ≡ get_or xs place n → At nets place m → n ≡ m
read_net nets xs place n m same below is at = same_Some _ _ (sym (slice_get_read nets _ place n refl below (is ∙ ap (λ ys. get_or ys place n) same)) ∙ at)
