-- The text of guides: for each net its name and id, and its rectangles one a line, in parentheses.
use Rattle.std.specs.Prelude.{ℕ, List, ◌++◌, flat_map, codes, decimal}
use Rattle.std.specs.Fmt.{signed_decimal}
use Rattle.guide_text.specs.declared.guide.Guide.{Guide}
use Rattle.guide_text.specs.declared.rect.Rect.{Rect}

-- a rectangle on a line of its own: x and y of its lower-left corner, x and y of its upper right one, and its layer
abbrev pub rect_text : Rect → List ℕ
rect_text rect =
    signed_decimal rect.x1 ++ codes " " ++ signed_decimal rect.y1 ++ codes " " ++ signed_decimal rect.x2
    ++ codes " " ++ signed_decimal rect.y2 ++ codes " " ++ signed_decimal rect.layer ++ codes "\n"

-- the guide of one net: name and id, then its rectangles between parentheses, each on a line
abbrev pub guide_text : Guide → List ℕ
guide_text guide =
    guide.name ++ codes " " ++ decimal guide.id ++ codes "\n(\n" ++ flat_map rect_text guide.rects ++ codes ")\n"

-- the guides one after another
abbrev pub guides_text : List Guide → List ℕ
guides_text guides = flat_map guide_text guides
