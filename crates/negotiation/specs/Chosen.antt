-- What is chosen of a list.
use Rattle.std.specs.Prelude.{ℕ, ◌≡◌, ◌⊎◌, List, [], ◌∷◌}

-- those numbers of a list that have a property, all of them, in their order
abbrev pub AreChosen : (ℕ → Type 0) → List ℕ → List ℕ → Type 0
AreChosen Wanted [] chosen = chosen ≡ []
AreChosen Wanted (n ∷ all) chosen =
    ((rest : List ℕ) × (chosen ≡ n ∷ rest) × Wanted n × AreChosen Wanted all rest) ⊎ (¬ Wanted n × AreChosen Wanted all chosen)
