-- The words of the format.
use Rattle.std.specs.Prelude.{ℕ, List, codes}
use Rattle.design_tokens.specs.declared.wanted.Wanted.{Wanted}
use Rattle.design_tokens.specs.declared.wanted.Wanted.TheVariants.{Grid, Vertical, Horizontal, Capacity, Minimum, Width, Spacing, Via, Num, Net, Number, Name}

-- a word, byte by byte
abbrev pub spelling : Wanted → List ℕ
spelling Grid = codes "grid"
spelling Vertical = codes "vertical"
spelling Horizontal = codes "horizontal"
spelling Capacity = codes "capacity"
spelling Minimum = codes "minimum"
spelling Width = codes "width"
spelling Spacing = codes "spacing"
spelling Via = codes "via"
spelling Num = codes "num"
spelling Net = codes "net"
spelling Number = codes "number"
spelling Name = codes "name"
