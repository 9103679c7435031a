-- Tiles by number.
use Rattle.std.specs.Prelude.{ℕ, ◌+◌, ◌*◌, ◌%◌}
use Rattle.net_search.specs.declared.bound.Bound.{Bound}
use Rattle.net_search.specs.declared.site.Site.{Site}

-- the number of the tile of a site
abbrev pub tile_of : Bound → Site → ℕ
tile_of bound site = (site.row * bound.cols % 4294967296 + site.col) % 4294967296
