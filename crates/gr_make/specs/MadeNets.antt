-- The nets of a generated design. Each net is drawn from the words of the seed behind those of the nets before it.
use Rattle.std.specs.Prelude.{ℕ, zero, suc, ◌+◌, ◌*◌, ◌%◌, List, map}
use Rattle.std.specs.List.{range_with_len}
use Rattle.gr_make.specs.declared.shape.Shape.{Shape}
use Rattle.gr_make.specs.RandomWords.{random_word}

-- a net: its number, which is its id, and its pins, each with x and y
pub record MadeNet : Type 0 where
  pub number : ℕ
  pub pins : List (ℕ × ℕ)

-- the width and the height of a tile
abbrev pub tile_side : ℕ
tile_side = 10

-- how many pins a net has whose words begin at a place: two to seven
abbrev pub pin_count : ℕ → ℕ → ℕ
pin_count seed place = 2 + random_word seed place % 6

-- the pin of two words: somewhere on the grid
abbrev pub made_pin : ℕ → Shape → ℕ → ℕ × ℕ
made_pin seed shape place =
    (random_word seed place % (tile_side * shape.cols), random_word seed (place + 1) % (tile_side * shape.rows))

-- so many pins, one after another
abbrev pub made_pins : ℕ → Shape → ℕ → ℕ → List (ℕ × ℕ)
made_pins seed shape place count = map (λ i. made_pin seed shape (place + 2 * i)) (range_with_len 0 count)

-- the net whose words begin at a place: one for how many pins it has, and two for each of them
abbrev pub made_net : ℕ → Shape → ℕ → ℕ → MadeNet
made_net seed shape place number = record { number = number; pins = made_pins seed shape (place + 1) (pin_count seed place) }

-- how many words the first so many nets use together
abbrev pub net_words : ℕ → ℕ → ℕ
net_words seed zero = 0
net_words seed (suc nets) = net_words seed nets + (1 + 2 * pin_count seed (net_words seed nets))

-- all nets
abbrev pub made_nets : ℕ → Shape → List MadeNet
made_nets seed shape = map (λ k. made_net seed shape (net_words seed k) k) (range_with_len 0 shape.nets)
