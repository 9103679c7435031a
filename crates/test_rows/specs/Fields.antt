-- The fields of a row, the words of a field, and the texts of fields.
use Rattle.std.specs.Prelude.{◌≡◌, ◌==◌, ◌++◌, ℕ, List, codes, decimal}
use Rattle.std.specs.List.{before_first, after_first}
use Rattle.grid_base.specs.declared.piece.Piece.{Piece}
use Rattle.grid_base.specs.declared.piece.Piece.TheVariants.{Edge, Via}

-- what stands before the first bar of a row
abbrev pub first_field : List ℕ → List ℕ
first_field row = before_first (λ b. b == 124) row

-- what stands behind it
abbrev pub other_fields : List ℕ → List ℕ
other_fields row = after_first (λ b. b == 124) row

-- what stands before the first blank of a field
abbrev pub first_word : List ℕ → List ℕ
first_word field = before_first (λ b. b == 32) field

-- what stands behind it
abbrev pub other_words : List ℕ → List ℕ
other_words field = after_first (λ b. b == 32) field

-- the row is parted into these fields
abbrev pub AreTwoFields : List ℕ → List ℕ → List ℕ → Type 0
AreTwoFields row a b = (a ≡ first_field row) × (b ≡ other_fields row)

abbrev pub AreThreeFields : List ℕ → List ℕ → List ℕ → List ℕ → Type 0
AreThreeFields row a b c = (a ≡ first_field row) × AreTwoFields (other_fields row) b c

abbrev pub AreFourFields : List ℕ → List ℕ → List ℕ → List ℕ → List ℕ → Type 0
AreFourFields row a b c d = (a ≡ first_field row) × AreThreeFields (other_fields row) b c d

abbrev pub AreFiveFields : List ℕ → List ℕ → List ℕ → List ℕ → List ℕ → List ℕ → Type 0
AreFiveFields row a b c d e = (a ≡ first_field row) × AreFourFields (other_fields row) b c d e

-- an edge or a via as a word
abbrev pub piece_word : Piece → List ℕ
piece_word (Edge e) = codes "e" ++ decimal e.0
piece_word (Via v) = codes "v" ++ decimal v.0
