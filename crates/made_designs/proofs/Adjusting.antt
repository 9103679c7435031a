-- Reading the adjustments of a generated design.
use Rattle.std.proofs.Common.{◌≡◌, ℕ, ◌+◌, ◌-◌, ◌<◌, ◌≤◌, ◌==◌, true, false, min, List, [], ◌∷◌, ◌++◌, length, All, refl, ap, ◌∙◌, arith, eq-eqb, ne_eqb, pos}
use Rattle.std.specs.Prelude.{decimal, map, flat_map, Some}
use Rattle.grid_base.specs.declared.place.Place.{Place}
use Rattle.grid_base.specs.Numbers.{distance}
use Rattle.grid_graph.specs.Limits.{max_capacity}
use Rattle.text_scan.specs.Reading.{Reading, tokens_left, past_blanks}
use Rattle.text_scan.specs.Tokens.{Token}
use Rattle.text_scan.proofs.Reading.{tokens_past_blanks}
use Rattle.gr_make.specs.declared.shape.Shape.{Shape}
use Rattle.gr_make.specs.MadeAdjustments.{MadeAdjustment}
use Rattle.gr_make.specs.MadeText.{adjustment_line}
use Rattle.gr_make.specs.Shapes.{IsShape}
use Rattle.design_tokens.specs.declared.input_fault.InputFault.TheVariants.{CapacityLimit, NetLimit}
use Rattle.ispd_reader.specs.Adjustments.{place_in, edge_between, step_between, tile_place_at, adjustment_at, adjustments_at}
use Rattle.ispd_reader.specs.Limits.{max_adjustments}
use Rattle.text_scan.proofs.Ranges.{within_is}
use Rattle.made_designs.specs.MadeContents.{made_extent, adjustment_made}
use Rattle.made_designs.proofs.LineWords.{words_of, words_left}
use Rattle.made_designs.proofs.Parts.{parts_read}
use Rattle.made_designs.proofs.Tokens.{Reads, reads-then, ReadsNumber, number_read, within_read}

-- the edge goes from a tile of the grid to the next column, and its level is a capacity of the format
pub record IsMadeAdjustment (shape : Shape) (a : MadeAdjustment) : Type 0 where
  pub col : a.col + 1 < shape.cols
  pub row : a.row < shape.rows
  pub level : a.level < 8

-- a tile of the first layer
abbrev tile_at : ℕ → ℕ → Place
tile_at col row = record { col = col; row = row; layer = 0 }

place_made : (shape : Shape) → IsShape shape → (col row : ℕ) → col < shape.cols → row < shape.rows → place_in (made_extent shape) (pos col) (pos row) (pos 1) ≡ Some (tile_at col row)
unfolding place_in
place_made shape is col row in_cols in_rows =
    rw (
      within_is 0 (shape.cols - 1) col (omega arith) (omega (arith, in_cols)),
      within_is 0 (shape.rows - 1) row (omega arith) (omega (arith, in_rows)),
      within_is 1 shape.layers 1 (omega arith) (omega (arith, is.some_layers)),
    ) refl

-- a tile is read, with some place of its last number
record ReadsTile (shape : Shape) (col row : ℕ) (r : Reading) (others : List (List ℕ)) : Type 0 where
  pub place : ℕ
  pub read : Reads (tile_place_at (made_extent shape) r) (Some (tile_at col row), place) others

tile_of_numbers : (shape : Shape) → IsShape shape → (col row : ℕ) → col < shape.cols → row < shape.rows → (r : Reading) (behind_col behind_row others : List (List ℕ)) →
    (first : ReadsNumber r col behind_col) (second : ReadsNumber first.read.after row behind_row) → ReadsNumber second.read.after 1 others → ReadsTile shape col row r others
unfolding tile_place_at
tile_of_numbers shape is col row in_cols in_rows r behind_col behind_row others first second third = record {
  place = third.place;
  read = record {
    after = third.read.after;
    reads = rw (first.read.reads, second.read.reads, third.read.reads, place_made shape is col row in_cols in_rows) refl;
    leaves = third.read.leaves;
  };
}

tile_read : (shape : Shape) → IsShape shape → (col row : ℕ) → col < shape.cols → row < shape.rows → (r : Reading) (others : List (List ℕ)) → words_left r ≡ decimal col ∷ decimal row ∷ decimal 1 ∷ others →
    ReadsTile shape col row r others
tile_read shape is col row in_cols in_rows r others here =
    let first = number_read col r (decimal row ∷ decimal 1 ∷ others) (omega (arith, in_cols, is.few_cols)) here in
    let second = number_read row first.read.after (decimal 1 ∷ others) (omega (arith, in_rows, is.few_rows)) first.read.leaves in
    tile_of_numbers shape is col row in_cols in_rows r (decimal row ∷ decimal 1 ∷ others) (decimal 1 ∷ others) others first second
    (number_read 1 second.read.after others (omega arith) second.read.leaves)

-- the edge between a tile and that of the next column
step_made : (shape : Shape) (a : MadeAdjustment) → step_between (made_extent shape) (Some (tile_at a.col a.row)) (Some (tile_at (a.col + 1) a.row)) ≡ Some (adjustment_made shape a).edge
unfolding edge_between
step_made shape a =
    let apart : (distance (tile_at a.col a.row) (tile_at (a.col + 1) a.row) == 1) ≡ true = eq-eqb (distance (tile_at a.col a.row) (tile_at (a.col + 1) a.row)) 1 (omega arith) in
    let least : min a.col (a.col + 1) ≡ a.col = omega arith in
    rw (apart, eq-eqb a.row a.row refl, least) refl

-- an adjustment is read
adjustment_read : (shape : Shape) → IsShape shape → (a : MadeAdjustment) → IsMadeAdjustment shape a → (i : ℕ) (r : Reading) (others : List (List ℕ)) → words_left r ≡ adjustment_line a ++ others →
    Reads (adjustment_at (made_extent shape) i r) (adjustment_made shape a) others
unfolding adjustment_at
adjustment_read shape is a fits i r others here =
    reads-then _ (tile_read shape is a.col a.row (omega (arith, fits.col)) fits.row r _ here).read (λ r1 here1.
    reads-then _ (tile_read shape is (a.col + 1) a.row fits.col fits.row r1 _ here1).read (λ r2 here2.
    rw (step_made shape a) (
    reads-then _ (within_read 0 max_capacity a.level CapacityLimit r2 others (omega arith) (omega (arith, fits.level)) (omega (arith, fits.level)) here2) (λ r3 here3.
    record { after = r3; reads = refl; leaves = here3 }))))

-- where a word is left, tokens are
some_tokens : (tokens : List Token) (word : List ℕ) (words : List (List ℕ)) → words_of tokens ≡ word ∷ words → (length tokens == 0) ≡ false
some_tokens [] word words same = absurd (cc)
some_tokens (t ∷ ts) word words same = ne_eqb (length (t ∷ ts)) 0 (λ e. omega arith)

-- how many adjustments, and the adjustments
pub adjustments_read : (shape : Shape) → IsShape shape → (adjustments : List MadeAdjustment) → All (IsMadeAdjustment shape) adjustments → length adjustments ≤ max_adjustments →
    (r : Reading) (others : List (List ℕ)) → words_left r ≡ decimal (length adjustments) ∷ (flat_map adjustment_line adjustments ++ others) →
    Reads (adjustments_at (made_extent shape) r) (map (adjustment_made shape) adjustments) others
unfolding adjustments_at
adjustments_read shape is adjustments fit few r others here =
    let behind : words_left (past_blanks r) ≡ decimal (length adjustments) ∷ (flat_map adjustment_line adjustments ++ others) = ap words_of (tokens_past_blanks r) ∙ here in
    rw (some_tokens (tokens_left r) _ _ here) (
    reads-then _ (within_read 0 max_adjustments (length adjustments) NetLimit (past_blanks r) _ (omega arith) few (omega (arith, few)) behind) (λ r1 here1.
    parts_read (adjustment_at (made_extent shape)) (IsMadeAdjustment shape) adjustment_line (adjustment_made shape) (λ a fits. adjustment_read shape is a fits) adjustments fit 0 r1 others here1))
