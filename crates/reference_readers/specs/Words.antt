-- Words, and what stands between blanks.
use Rattle.std.specs.Prelude.{ℕ, ◌+◌, List, [], ◌∷◌, ◌++◌, length}
use Rattle.text_scan.specs.Tokens.{Token}
use Rattle.reference_readers.specs.declared.word.Word.{Word}

-- the word as a token
abbrev pub token_of : Word → Token
token_of word = record { place = word.place; bytes = word.bytes.items }

-- the part as a token at this place; none where it is empty
abbrev pub part_as_token : ℕ → List ℕ → List Token
part_as_token place [] = []
part_as_token place (b ∷ bs) = record { place = place; bytes = b ∷ bs } ∷ []

-- the parts that are not empty, where the first stands at this place and a blank between each two
abbrev pub words_of : ℕ → List (List ℕ) → List Token
words_of place [] = []
words_of place (part ∷ parts) = part_as_token place part ++ words_of (place + length part + 1) parts
