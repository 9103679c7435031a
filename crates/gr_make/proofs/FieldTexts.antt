-- Lines that end in numbers.
use Rattle.std.proofs.Common.{ℕ, List, ◌∷◌, ◌++◌, map, flat_map, codes}
use Rattle.std.specs.Prelude.{decimal}
use Rattle.std.proofs.lemmas.List.Folds.{flat_map-map}
use Rattle.gr_desk.specs.Pens.{PenTold, Puts}
use Rattle.gr_desk.proofs.Pens.{puts-then}
use Rattle.gr_make.specs.MadeText.{line_text}

-- a word, numbers each behind a space, and a line feed are a line
pub puts-line : {a b c d : PenTold} (word : List ℕ) (numbers : List ℕ) →
    Puts a b word → Puts b c (flat_map (λ n. codes " " ++ decimal n) numbers) → Puts c d (codes "\n") →
    Puts a d (line_text (word ∷ map decimal numbers))
puts-line word numbers first others end =
    rw (flat_map-map (λ (other : List ℕ). codes " " ++ other) decimal numbers) (puts-then (puts-then first others) end)
