-- What vias add to a way.
use Rattle.std.specs.Prelude.{ℕ, Bool, true, false, ◌+◌, ◌*◌, ◌%◌, min}
use Rattle.layer_ways.specs.declared.rests.Rests.{Rests}

-- what a way weighs that has to run along these axes
abbrev pub rest_along : Rests → Bool → Bool → ℕ
rest_along rests false false = rests.upright
rest_along rests true false = rests.along_x
rest_along rests false true = rests.along_y
rest_along rests true true = rests.along_both

-- so much more from every other tile
abbrev pub rests_with : Rests → ℕ → Rests
rests_with rests more = record {
  upright = rests.upright;
  along_x = min (rests.along_x + more) 4294967295;
  along_y = min (rests.along_y + more) 4294967295;
  along_both = min (rests.along_both + more) 4294967295;
}

-- the least of both
abbrev pub least_rests : Rests → Rests → Rests
least_rests a b = record {
  upright = min a.upright b.upright;
  along_x = min a.along_x b.along_x;
  along_y = min a.along_y b.along_y;
  along_both = min a.along_both b.along_both;
}

-- no rest
abbrev pub no_rests : Rests
no_rests = record { upright = 0; along_x = 0; along_y = 0; along_both = 0 }

-- the place of two layers in a table of pairs
abbrev pub pair_number : ℕ → ℕ → ℕ → ℕ
pair_number layers from to = (from * layers % 18446744073709551616 + to) % 18446744073709551616
