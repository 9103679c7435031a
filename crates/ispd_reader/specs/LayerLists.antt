-- The lists of the text that have a number per layer.
use Rattle.std.specs.Prelude.{ℕ, ◌==◌, nat_lt, if◌then◌else◌}
use Rattle.ispd_reader.specs.declared.layer_list.LayerList.{LayerList}
use Rattle.ispd_reader.specs.declared.layer_list.LayerList.TheVariants.{Vertical, Horizontal, Widths, Spacings, Vias}
use Rattle.design_tokens.specs.declared.wanted.Wanted.{Wanted}
use Rattle.design_tokens.specs.declared.wanted.Wanted.TheVariants as wanted

-- the first of the two words before its numbers
abbrev pub first_word : LayerList → Wanted
first_word Vertical = wanted.Vertical
first_word Horizontal = wanted.Horizontal
first_word Widths = wanted.Minimum
first_word Spacings = wanted.Minimum
first_word Vias = wanted.Via

-- the second one
abbrev pub second_word : LayerList → Wanted
second_word Vertical = wanted.Capacity
second_word Horizontal = wanted.Capacity
second_word Widths = wanted.Width
second_word Spacings = wanted.Spacing
second_word Vias = wanted.Spacing

-- how many lists come before it
abbrev pub lists_before : LayerList → ℕ
lists_before Vertical = 0
lists_before Horizontal = 1
lists_before Widths = 2
lists_before Spacings = 3
lists_before Vias = 4

-- how many numbers of a list are read where so many of another one are, and each list has as many as there are layers
abbrev pub count_of : LayerList → LayerList → ℕ → ℕ → ℕ
count_of list now layers done =
    if nat_lt (lists_before list) (lists_before now) then layers
    else if lists_before list == lists_before now then done
    else 0
