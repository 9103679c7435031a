-- Guides whose text is read back.
use Rattle.std.specs.Prelude.{◌≤◌, All, IsTrue, ℤ, pos, neg_ℤ, ◌≤ℤ◌}
use Rattle.grid_graph.specs.Limits.{max_id}
use Rattle.text_scan.specs.Tokens.{is_word}
use Rattle.guide_text.specs.declared.guide.Guide.{Guide}
use Rattle.guide_text.specs.declared.rect.Rect.{Rect}
use Rattle.guide_text.specs.ReadGuides.{max_border}

-- a number of a rectangle, within its limits
pub record IsBorder (x : ℤ) : Type 0 where
  pub low : neg_ℤ (pos max_border) ≤ℤ x
  pub high : x ≤ℤ pos max_border

-- all numbers of a rectangle are within their limits
pub record IsRectInRange (rect : Rect) : Type 0 where
  pub x1 : IsBorder rect.x1
  pub y1 : IsBorder rect.y1
  pub x2 : IsBorder rect.x2
  pub y2 : IsBorder rect.y2
  pub layer : IsBorder rect.layer

-- a guide that a text can hold: its name is a token, and its numbers are within their limits
pub record IsGuideInRange (guide : Guide) : Type 0 where
  pub name : IsTrue (is_word guide.name)
  pub id : guide.id ≤ max_id
  pub rects : All IsRectInRange guide.rects
