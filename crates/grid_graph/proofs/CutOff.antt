-- The first net without a ground is one, and so is its first terminal that isn't joined.
use Rattle.std.proofs.Common.{◌≡◌, ℕ, ◌<◌, List, sym, ◌∙◌, subst, ⊎_elim, arith}
use Rattle.std.proofs.lemmas.Bool.{cases_lt}
use Rattle.std.proofs.lemmas.Option.{same_Some}
use Rattle.grid_graph.specs.declared.grid.Grid.{Grid}
use Rattle.grid_graph.specs.declared.ground.Ground.TheVariants.{WithChoked}
use Rattle.grid_graph.specs.declared.net_spec.NetSpec.{NetSpec}
use Rattle.grid_graph.specs.Grounds.{JoinsTerminals, IsCutOff, IsFirstCutOff}
use Rattle.grid_base.specs.Lists.{At}
use Rattle.grid_graph.proofs.Grounds.{at_place}

-- two numbers of which neither is below the other
neither_below : (m n : ℕ) → ¬ (m < n) → ¬ (n < m) → m ≡ n
neither_below m n not_below not_above =
    ⊎_elim (λ below. absurd (not_below below))
    (λ from. ⊎_elim (λ above. absurd (not_above above)) (λ to. omega arith) (cases_lt n m))
    (cases_lt m n)

-- the first terminal that isn't joined is not before another such
not_before : (g : Grid) (n : NetSpec) (id id' t t' : ℕ) → IsCutOff g n id t → IsCutOff g n id' t' → ¬ (t < t')
not_before g n id id' t t' one other below =
    let first = at_place n.terminals 0 (omega (arith, one.exists)) in
    let last = at_place n.terminals t one.exists in
    one.unjoined first.0 last.0 first.1 last.1 (other.joined t first.0 last.0 below first.1 last.1)

-- a net that is cut off has one id and one first terminal that isn't joined
pub cut_off-once : (g : Grid) (n : NetSpec) (id id' t t' : ℕ) → IsCutOff g n id t → IsCutOff g n id' t' → (id ≡ id') × (t ≡ t')
cut_off-once g n id id' t t' one other = (
  one.named ∙ sym other.named,
  neither_below t t' (not_before g n id id' t t' one other) (not_before g n id' id t' t other one),
)

-- the first net that is cut off is not before another such
no_earlier_net : (g : Grid) (nets : List NetSpec) (id id' t t' : ℕ) (one : IsFirstCutOff g nets id t) (other : IsFirstCutOff g nets id' t') → ¬ (one.place < other.place)
no_earlier_net g nets id id' t t' one other below = one.cut_off.apart (other.earlier one.place one.net below one.stands)

-- the first net without a ground is one, and its first terminal that isn't joined is one
pub first_cut_off-once : (g : Grid) (nets : List NetSpec) (id id' t t' : ℕ) → IsFirstCutOff g nets id t → IsFirstCutOff g nets id' t' → (id ≡ id') × (t ≡ t')
first_cut_off-once g nets id id' t t' one other =
    let place : one.place ≡ other.place = neither_below one.place other.place (no_earlier_net g nets id id' t t' one other) (no_earlier_net g nets id' id t' t other one) in
    let net : other.net ≡ one.net = same_Some other.net one.net (sym other.stands ∙ subst (λ (k : ℕ). At nets k one.net) place one.stands) in
    cut_off-once g one.net id id' t t' one.cut_off (subst (λ (n : NetSpec). IsCutOff g n id' t') net other.cut_off)

-- a net without a ground is none that is joined
pub cut_off-unreachable : (g : Grid) (nets : List NetSpec) (id t : ℕ) → IsFirstCutOff g nets id t → ((k : ℕ) (n : NetSpec) → At nets k n → JoinsTerminals g WithChoked n.terminals) → ⊥
cut_off-unreachable g nets id t cut all = cut.cut_off.apart (all cut.place cut.net cut.stands)
