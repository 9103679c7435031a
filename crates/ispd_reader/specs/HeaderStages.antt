-- What is left to be read of what stands before the nets, at each of its tokens.
use Rattle.std.specs.Prelude.{ℕ, Bool, true, nat_lt, IsTrue, ℤ, pos, Result, Ok, Err, IfOk}
use Rattle.grid_base.specs.Numbers.{layers}
use Rattle.grid_graph.specs.Layouts.{IsPosition, IsTileSize}
use Rattle.design_tokens.specs.declared.cut_token.CutToken.{CutToken}
use Rattle.ispd_reader.specs.declared.header_stage.HeaderStage.{HeaderStage}
use Rattle.ispd_reader.specs.declared.header_stage.HeaderStage.TheVariants.{Size, List, Tiles}
use Rattle.ispd_reader.specs.declared.header_stage.SizeStage.{SizeStage}
use Rattle.ispd_reader.specs.declared.header_stage.SizeStage.TheVariants.{Grid, Cols, Rows, Layers}
use Rattle.ispd_reader.specs.declared.header_stage.ListStage.{ListStage}
use Rattle.ispd_reader.specs.declared.header_stage.ListStage.TheVariants.{FirstWord, SecondWord, Value}
use Rattle.ispd_reader.specs.declared.header_stage.LayoutStage.{LayoutStage}
use Rattle.ispd_reader.specs.declared.header_stage.LayoutStage.TheVariants.{Left, Lower, Width, Height}
use Rattle.design_tokens.specs.declared.input_error.InputError.{InputError}
use Rattle.ispd_reader.specs.declared.layer_list.LayerList.{LayerList}
use Rattle.ispd_reader.specs.declared.layer_list.LayerList.TheVariants.{Vertical, Vias}
use Rattle.ispd_reader.specs.declared.layer_lists.LayerLists.{LayerLists}
use Rattle.design_tokens.specs.declared.wanted.Wanted.{Wanted}
use Rattle.design_tokens.specs.declared.wanted.Wanted.TheVariants as wanted
use Rattle.ispd_reader.specs.LayerLists.{first_word, second_word}
use Rattle.design_tokens.specs.Parsing.{Reading, InputRead}
use Rattle.ispd_reader.specs.Header.{Extent, Header, extent_at, origin_at}
use Rattle.ispd_reader.specs.HeaderTails.{cols_left, rows_left, layers_left, list_left, second_left, values_left, lower_left, height_left, with_extent, with_origin, with_tile, from_tile}
use Rattle.ispd_reader.specs.LayersRead.{AreRead, header_with}
use Rattle.design_tokens.specs.Steps.{LeavesNext, RefusesNext}

-- the size
abbrev pub size_left : SizeStage → Reading → InputRead Extent
size_left Grid r = extent_at r
size_left Cols r = cols_left r
size_left (Rows cols) r = rows_left cols.value r
size_left (Layers cols rows) r = layers_left cols.value rows.value r

-- a list and all behind it
abbrev pub from_list : LayerList → ListStage → Header → Reading → InputRead Header
from_list list FirstWord so_far r = list_left list so_far r
from_list list SecondWord so_far r = second_left list so_far r
from_list list (Value done) so_far r = values_left list so_far done r

-- where the tiles lie
abbrev pub tiles_left : LayoutStage → Header → Reading → InputRead Header
tiles_left Left so_far r = with_origin so_far (origin_at r)
tiles_left (Lower x) so_far r = with_origin so_far (lower_left x r)
tiles_left (Width origin) so_far r = from_tile (record so_far { origin = origin }) r
tiles_left (Height origin width) so_far r = with_tile (record so_far { origin = origin }) (height_left width r)

-- all that is left, and the whole then
abbrev pub stage_left : HeaderStage → LayerLists → Reading → InputRead Header
stage_left (Size stage) read r = with_extent (size_left stage r)
stage_left (List size list stage) read r = from_list list stage (header_with size read) r
stage_left (Tiles size stage) read r = tiles_left stage (header_with size read) r

-- the word, or number, that is next
abbrev pub wanted_at : HeaderStage → Wanted
wanted_at (Size Grid) = wanted.Grid
wanted_at (List size list FirstWord) = first_word list
wanted_at (List size list SecondWord) = second_word list
wanted_at stage = wanted.Number

-- how many layers there are, where that is known
abbrev layers_at : HeaderStage → ℕ
layers_at (Size stage) = 0
layers_at (List size list stage) = layers size
layers_at (Tiles size stage) = layers size

-- the list that is read, or is the last one that was
abbrev list_at : HeaderStage → LayerList
list_at (Size stage) = Vertical
list_at (List size list stage) = list
list_at (Tiles size stage) = Vias

-- how many of a list's numbers were read
abbrev values_read : ListStage → ℕ
values_read FirstWord = 0
values_read SecondWord = 0
values_read (Value done) = done

-- how many of that list's numbers were read
abbrev done_at : HeaderStage → ℕ
done_at (Size stage) = 0
done_at (List size list stage) = values_read stage
done_at (Tiles size stage) = layers size

-- another number of the list is to be read, where one is next
abbrev has_next : HeaderStage → Bool
has_next (List size list (Value done)) = nat_lt done (layers size)
has_next stage = true

-- the corner, as far as it was read
abbrev origin_read : HeaderStage → ℤ × ℤ
origin_read (Tiles size (Lower x)) = (x, pos 0)
origin_read (Tiles size (Width origin)) = origin
origin_read (Tiles size (Height origin width)) = origin
origin_read stage = (pos 0, pos 0)

-- the width of a tile, where it was read
abbrev width_read : HeaderStage → ℤ
width_read (Tiles size (Height origin width)) = width
width_read stage = pos 1

-- what was read up to a stage keeps the limits
pub record IsStage (stage : HeaderStage) (read : LayerLists) : Type 0 where
  pub lists : AreRead (layers_at stage) (list_at stage) (done_at stage) read
  pub next : IsTrue (has_next stage)
  pub left : IsPosition (origin_read stage).0
  pub lower : IsPosition (origin_read stage).1
  pub width : IsTileSize (width_read stage)

-- a token was taken at a stage, and this is the next one; or it is refused
abbrev pub TakesStage : CutToken → Result HeaderStage InputError → HeaderStage → Type 0
TakesStage c (Ok new) old = (read : LayerLists) → IsStage old read → LeavesNext c (stage_left old read) (stage_left new read)
TakesStage c (Err e) old = (read : LayerLists) → RefusesNext c e (stage_left old read)

-- where a token was taken, what was read keeps the limits at the next stage
abbrev pub KeepsLimits : Result HeaderStage InputError → HeaderStage → Type 0
KeepsLimits result old = IfOk result (λ new. (read : LayerLists) → IsStage old read → IsStage new read)
