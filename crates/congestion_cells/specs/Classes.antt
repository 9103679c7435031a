-- Classes of load/capacity.
use Rattle.std.specs.Prelude.{ℕ, ◌*◌, Bool, List, [], ◌∷◌, ltb}
use Rattle.std.specs.List.{count_by}

-- the borders between the classes, in percent
abbrev pub borders : List ℕ
borders = 0 ∷ 25 ∷ 50 ∷ 75 ∷ 100 ∷ 105 ∷ 110 ∷ 120 ∷ 135 ∷ 150 ∷ 200 ∷ []

-- a load is more than so many percent of a capacity. Any load is more than any percent of none.
abbrev pub is_above : ℕ → ℕ → ℕ → Bool
is_above load capacity percent = ltb (capacity * percent) (load * 100)

-- the class of a load on a capacity: how many borders it is above. Class 0 is no load.
abbrev pub class_of : ℕ → ℕ → ℕ
class_of load capacity = count_by (is_above load capacity) borders
