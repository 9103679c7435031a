-- The lines of a generated design: each has at most ten words of at most eleven bytes.
use Rattle.std.proofs.Common.{◌≡◌, ℕ, ◌+◌, ◌*◌, ◌<◌, ◌≤◌, ◌^◌, true, not, nat_lt, List, [], ◌∷◌, ◌++◌, length, All, refl, arith, length-append, lt-ltb}
use Rattle.std.specs.Prelude.{codes, decimal, map, flat_map}
use Rattle.std.specs.List.{AllByRecursion, list_all, range_with_len}
use Rattle.std.proofs.lemmas.Bool.{and_parts}
use Rattle.std.proofs.lemmas.Fmt.{length-decimal-le_wide}
use Rattle.std.proofs.lemmas.List.{length-map}
use Rattle.std.proofs.lemmas.List.Elements.{All-nil, All-cons, All-head, All-tail, All-append, All-map}
use Rattle.std.proofs.lemmas.List.FromFn.{length-map-range_with_len}
use Rattle.text_scan.specs.Tokens.{is_blank, is_word}
use Rattle.gr_make.specs.declared.shape.Shape.{Shape}
use Rattle.gr_make.specs.MadeAdjustments.{MadeAdjustment}
use Rattle.gr_make.specs.MadeNets.{MadeNet, tile_side}
use Rattle.gr_make.specs.MadeText.{vertical_level, horizontal_level, per_layer, heading_lines, pin_line, net_lines, adjustment_line}
use Rattle.gr_make.specs.Shapes.{IsShape, max_made_nets}
use Rattle.made_designs.proofs.Adjusting.{IsMadeAdjustment}
use Rattle.made_designs.proofs.Heading.{vertical_low, horizontal_low}
use Rattle.made_designs.proofs.Layers.{All-each}
use Rattle.made_designs.proofs.Nets.{HasPinsOnGrid, AreNumberedFrom}
use Rattle.made_designs.proofs.Pins.{IsOnGrid}
use Rattle.made_designs.proofs.Tokens.{printed_is_word}

-- a word of at most eleven bytes
pub record IsShortWord (word : List ℕ) : Type 0 where
  pub is : is_word word ≡ true
  pub short : length word ≤ 11

-- at most ten of them
pub record IsShortLine (line : List (List ℕ)) : Type 0 where
  pub words : All IsShortWord line
  pub few : length line ≤ 10

-- what holds of each element by the list holds of all
all_of : {X : Type 0} (P : X → Type 0) (xs : List X) → AllByRecursion P xs → All P xs
all_of P [] each = All-nil P
all_of P (x ∷ xs) each = All-cons P x xs each.0 (all_of P xs each.1)

-- a number of at most ten digits
number_word : (n : ℕ) → n < 10 ^ 10 → IsShortWord (decimal n)
number_word n below =
    let few : length (decimal n) ≤ 10 = length-decimal-le_wide 10 n (omega arith) below (omega (arith, below)) in
    record { is = printed_is_word n (omega (arith, below)); short = omega (arith, few) }

-- the name of a net
name_word : (n : ℕ) → n < 10 ^ 10 → IsShortWord (codes "n" ++ decimal n)
name_word n below =
    let few : length (decimal n) ≤ 10 = length-decimal-le_wide 10 n (omega arith) below (omega (arith, below)) in
    let plain = (and_parts (nat_lt 0 (length (decimal n))) (list_all (λ b. not (is_blank b)) (decimal n)) (printed_is_word n (omega (arith, below)))).1 in
    record { is = rw (lt-ltb 0 (length (110 ∷ decimal n)) (omega arith)) plain; short = omega (arith, few) }

-- a number of at most 8 for each layer, behind two words
layers_line : (shape : Shape) → IsShape shape → (number : ℕ → ℕ) → ((layer : ℕ) → number layer ≤ 8) → (one two : List ℕ) → IsShortWord one → IsShortWord two →
    IsShortLine (one ∷ two ∷ per_layer shape number)
layers_line shape is number low one two is_one is_two =
    let layers = range_with_len 1 shape.layers in
    let numbers = All-map IsShortWord (λ (layer : ℕ). decimal (number layer)) layers (All-each (λ layer. IsShortWord (decimal (number layer))) (λ layer. number_word (number layer) (omega (arith, low layer))) layers) in
    let long : length (per_layer shape number) ≡ shape.layers = length-map-range_with_len (λ layer. decimal (number layer)) 1 shape.layers in
    record {
      words = All-cons IsShortWord one (two ∷ per_layer shape number) is_one (All-cons IsShortWord two (per_layer shape number) is_two numbers);
      few = omega (arith, long, is.few_layers);
    }

-- a fixed word
fixed : (word : List ℕ) → is_word word ≡ true → length word ≤ 11 → IsShortWord word
fixed word is short = record { is = is; short = short }

short_line : (line : List (List ℕ)) → AllByRecursion IsShortWord line → length line ≤ 10 → IsShortLine line
short_line line words few = record { words = all_of IsShortWord line words; few = few }

-- the lines before the nets
pub heading_short : (shape : Shape) → IsShape shape → All IsShortLine (heading_lines shape)
heading_short shape is =
    let grid = fixed (codes "grid") refl (omega arith) in
    let vertical = fixed (codes "vertical") refl (omega arith) in
    let horizontal = fixed (codes "horizontal") refl (omega arith) in
    let capacity = fixed (codes "capacity") refl (omega arith) in
    let minimum = fixed (codes "minimum") refl (omega arith) in
    let width = fixed (codes "width") refl (omega arith) in
    let spacing = fixed (codes "spacing") refl (omega arith) in
    let via = fixed (codes "via") refl (omega arith) in
    let num = fixed (codes "num") refl (omega arith) in
    let net = fixed (codes "net") refl (omega arith) in
    let corner = number_word 0 (omega arith) in
    let side = number_word tile_side (omega arith) in
    let cols = number_word shape.cols (omega (arith, is.few_cols)) in
    let rows = number_word shape.rows (omega (arith, is.few_rows)) in
    let layers = number_word shape.layers (omega (arith, is.few_layers)) in
    let nets = number_word shape.nets (omega (arith, is.few_nets)) in
    let one : (layer : ℕ) → 1 ≤ 8 = λ layer. omega arith in
    let ones = layers_line shape is (λ layer. 1) one in
    let size_line = short_line (codes "grid" ∷ decimal shape.cols ∷ decimal shape.rows ∷ decimal shape.layers ∷ []) (grid, (cols, (rows, (layers, tt)))) (omega arith) in
    let along_y = layers_line shape is vertical_level vertical_low (codes "vertical") (codes "capacity") vertical capacity in
    let along_x = layers_line shape is horizontal_level horizontal_low (codes "horizontal") (codes "capacity") horizontal capacity in
    let widths = ones (codes "minimum") (codes "width") minimum width in
    let spacings = ones (codes "minimum") (codes "spacing") minimum spacing in
    let vias = ones (codes "via") (codes "spacing") via spacing in
    let tile = short_line (decimal 0 ∷ decimal 0 ∷ decimal tile_side ∷ decimal tile_side ∷ []) (corner, (corner, (side, (side, tt)))) (omega arith) in
    let count = short_line (codes "num" ∷ codes "net" ∷ decimal shape.nets ∷ []) (num, (net, (nets, tt))) (omega arith) in
    all_of IsShortLine (heading_lines shape) (size_line, (along_y, (along_x, (widths, (spacings, (vias, (tile, (count, tt))))))))

pin_short : (shape : Shape) → IsShape shape → (pin : ℕ × ℕ) → IsOnGrid shape pin → IsShortLine (pin_line pin)
pin_short shape is pin on =
    let x = number_word pin.0 (omega (arith, on.x, is.few_cols)) in
    let y = number_word pin.1 (omega (arith, on.y, is.few_rows)) in
    short_line (pin_line pin) (x, (y, (number_word 1 (omega arith), tt))) (omega arith)

pins_short : (shape : Shape) → IsShape shape → (pins : List (ℕ × ℕ)) → All (IsOnGrid shape) pins → All IsShortLine (map pin_line pins)
pins_short shape is [] on = All-nil IsShortLine
pins_short shape is (pin ∷ pins) on =
    All-cons IsShortLine (pin_line pin) (map pin_line pins) (pin_short shape is pin (All-head (IsOnGrid shape) pin pins on)) (pins_short shape is pins (All-tail (IsOnGrid shape) pin pins on))

net_short : (shape : Shape) → IsShape shape → (net : MadeNet) → HasPinsOnGrid shape net → net.number < max_made_nets → All IsShortLine (net_lines net)
net_short shape is net has low =
    let name = name_word net.number (omega (arith, low)) in
    let id = number_word net.number (omega (arith, low)) in
    let count = number_word (length net.pins) (omega (arith, has.few)) in
    let first = short_line ((codes "n" ++ decimal net.number) ∷ decimal net.number ∷ decimal (length net.pins) ∷ decimal 1 ∷ []) (name, (id, (count, (number_word 1 (omega arith), tt)))) (omega arith) in
    All-cons IsShortLine _ (map pin_line net.pins) first (pins_short shape is net.pins has.inside)

-- the lines of the nets, of which there are at most eight for each
pub record AreShortNets (nets : List MadeNet) : Type 0 where
  pub lines : All IsShortLine (flat_map net_lines nets)
  pub few : length (flat_map net_lines nets) ≤ 8 * length nets

pub nets_short : (shape : Shape) → IsShape shape → (nets : List MadeNet) (first : ℕ) → AreNumberedFrom shape first nets → first + length nets ≤ max_made_nets → AreShortNets nets
nets_short shape is [] first are few = record { lines = All-nil IsShortLine; few = omega arith }
nets_short shape is (net ∷ nets) first are few =
    let one = net_short shape is net are.1 (omega (arith, are.0, few)) in
    let more = nets_short shape is nets (first + 1) are.2 (omega (arith, few)) in
    record {
      lines = All-append IsShortLine (net_lines net) (flat_map net_lines nets) one more.lines;
      few = omega (arith, length-append (net_lines net) (flat_map net_lines nets), length-map net.pins pin_line, (are.1).few, more.few);
    }

-- the lines of the adjustments
adjustment_short : (shape : Shape) → IsShape shape → (a : MadeAdjustment) → IsMadeAdjustment shape a → IsShortLine (adjustment_line a)
adjustment_short shape is a fits =
    let col = number_word a.col (omega (arith, fits.col, is.few_cols)) in
    let next = number_word (a.col + 1) (omega (arith, fits.col, is.few_cols)) in
    let row = number_word a.row (omega (arith, fits.row, is.few_rows)) in
    let layer = number_word 1 (omega arith) in
    short_line (adjustment_line a) (col, (row, (layer, (next, (row, (layer, (number_word a.level (omega (arith, fits.level)), tt))))))) (omega arith)

pub adjustments_short : (shape : Shape) → IsShape shape → (adjustments : List MadeAdjustment) → All (IsMadeAdjustment shape) adjustments → All IsShortLine (map adjustment_line adjustments)
adjustments_short shape is [] fit = All-nil IsShortLine
adjustments_short shape is (a ∷ adjustments) fit =
    All-cons IsShortLine (adjustment_line a) (map adjustment_line adjustments)
    (adjustment_short shape is a (All-head (IsMadeAdjustment shape) a adjustments fit))
    (adjustments_short shape is adjustments (All-tail (IsMadeAdjustment shape) a adjustments fit))

-- the line of a count
pub count_short : (count : ℕ) → count < 10 ^ 10 → IsShortLine (decimal count ∷ [])
count_short count few = short_line (decimal count ∷ []) (number_word count few, tt) (omega arith)
