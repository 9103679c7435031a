-- Lists that grow by blank items.
use Rattle.std.specs.Prelude.{ℕ, ◌+◌, ◌-◌, List, ◌++◌, length, replicate}

-- the list with blank items behind it, so that it has this index; a longer one as it is
abbrev pub padded : {X : Type 0} → List X → ℕ → X → List X
padded xs i blank = xs ++ replicate (i + 1 - length xs) blank
