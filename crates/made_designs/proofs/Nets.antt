-- Reading the nets of a generated design.
use Rattle.std.proofs.Common.{◌≡◌, ℕ, zero, suc, ◌+◌, ◌-◌, ◌*◌, ◌<◌, ◌≤◌, ◌==◌, ◌||◌, Bool, false, max, fold, List, [], ◌∷◌, ◌++◌, length, All, refl, ◌∙◌, arith, append_assoc, ne_eqb}
use Rattle.std.specs.Prelude.{codes, decimal, map, flat_map}
use Rattle.std.specs.List.{range_with_len}
use Rattle.text_scan.specs.Reading.{Reading}
use Rattle.grid_graph.specs.Limits.{max_id, max_demand, max_nets, max_pins}
use Rattle.gr_make.specs.declared.shape.Shape.{Shape}
use Rattle.gr_make.specs.MadeNets.{MadeNet}
use Rattle.gr_make.specs.MadeText.{pin_line}
use Rattle.gr_make.specs.Shapes.{IsShape, max_made_nets}
use Rattle.design_tokens.specs.declared.input_fault.InputFault.TheVariants.{WidthLimit, NetLimit}
use Rattle.design_tokens.specs.declared.wanted.Wanted.TheVariants as wanted
use Rattle.ispd_reader.specs.Nets.{widest_spacing, id_at, net_width_at, net_at, more_nets_at, nets_at}
use Rattle.text_scan.proofs.Ranges.{within_is}
use Rattle.made_designs.specs.MadeContents.{for_layers, made_header, net_made}
use Rattle.made_designs.proofs.LineWords.{words_left}
use Rattle.made_designs.proofs.Pins.{IsOnGrid, pins_read}
use Rattle.made_designs.proofs.Tokens.{Reads, reads-then, word_read, name_read, number_read, within_read}

-- at most seven pins, each on the grid
pub record HasPinsOnGrid (shape : Shape) (net : MadeNet) : Type 0 where
  pub few : length net.pins ≤ 7
  pub inside : All (IsOnGrid shape) net.pins

-- nets with numbers from this one on
abbrev pub AreNumberedFrom : Shape → ℕ → List MadeNet → Type 0
AreNumberedFrom shape first [] = Unit {0}
AreNumberedFrom shape first (net ∷ nets) = (net.number ≡ first) × HasPinsOnGrid shape net × AreNumberedFrom shape (first + 1) nets

-- the words of a net
abbrev pub words_of_net : MadeNet → List (List ℕ)
words_of_net net = (codes "n" ++ decimal net.number) ∷ decimal net.number ∷ decimal (length net.pins) ∷ decimal 1 ∷ flat_map pin_line net.pins

-- an id that no net before has
id_read : (taken : ℕ → Bool) (id : ℕ) (r : Reading) (words : List (List ℕ)) → id ≤ max_made_nets → taken id ≡ false → words_left r ≡ decimal id ∷ words → Reads (id_at taken r) id words
unfolding id_at
id_read taken id r words few free here =
    let number = number_read id r words (omega (arith, few)) here in
    record {
      after = number.read.after;
      reads = rw (number.read.reads, within_is 0 max_id id (omega arith) (omega (arith, few)), free) refl;
      leaves = number.read.leaves;
    }

widest_from : (first n widest : ℕ) → fold max widest (map (λ (layer : ℕ). 1) (range_with_len first n)) ≤ max widest 1
widest_from first zero widest = omega arith
widest_from first (suc n) widest = omega (arith, widest_from (first + 1) n (max widest 1))

-- a wire width of 1
width_read : (shape : Shape) (r : Reading) (words : List (List ℕ)) → words_left r ≡ decimal 1 ∷ words → Reads (net_width_at (made_header shape) r) 1 words
width_read shape r words here =
    let spacing = widest_spacing (for_layers shape (λ layer. 1)) in
    within_read 0 (max_demand - spacing) 1 WidthLimit r words (omega arith) (omega (arith, widest_from 1 shape.layers 0)) (omega arith) here

-- a net behind nets of smaller numbers, which have at most seven pins each
net_read : (shape : Shape) → IsShape shape → (net : MadeNet) → HasPinsOnGrid shape net → net.number < max_made_nets → (taken : ℕ → Bool) → taken net.number ≡ false → (pins : ℕ) → pins ≤ 7 * net.number →
    (r : Reading) (others : List (List ℕ)) → words_left r ≡ words_of_net net ++ others → Reads (net_at (made_header shape) taken pins r) (net_made shape net, pins + length net.pins) others
unfolding net_at
net_read shape is net has low taken free pins few r others here =
    reads-then _ (name_read (codes "n" ++ decimal net.number) r _ here) (λ r1 here1.
    reads-then _ (id_read taken net.number r1 _ (omega (arith, low)) free here1) (λ r2 here2.
    reads-then _ (within_read 0 (max_pins - pins) (length net.pins) NetLimit r2 _ (omega arith) (omega (arith, has.few, few, low)) (omega (arith, has.few)) here2) (λ r3 here3.
    reads-then _ (width_read shape r3 _ here3) (λ r4 here4.
    reads-then _ (pins_read shape is net.number net.pins has.inside r4 others here4) (λ r5 here5.
    record { after = r5; reads = refl; leaves = here5 })))))

-- an id is still free behind a net of a smaller number
still_free : (taken : ℕ → Bool) (first number q : ℕ) → number ≡ first → first + 1 ≤ q → taken q ≡ false → (q == number || taken q) ≡ false
still_free taken first number q same above free = rw (ne_eqb q number (λ e. omega arith), free) refl

-- nets one after another
more_nets_read : (shape : Shape) → IsShape shape → (nets : List MadeNet) (first : ℕ) → AreNumberedFrom shape first nets → first + length nets ≤ max_made_nets →
    (taken : ℕ → Bool) → ((q : ℕ) → first ≤ q → taken q ≡ false) → (pins : ℕ) → pins ≤ 7 * first →
    (r : Reading) (others : List (List ℕ)) → words_left r ≡ flat_map words_of_net nets ++ others → Reads (more_nets_at (made_header shape) taken pins (length nets) r) (map (net_made shape) nets) others
unfolding more_nets_at
more_nets_read shape is [] first are few taken free pins low r others here = record { after = r; reads = refl; leaves = here }
more_nets_read shape is (net ∷ nets) first are few taken free pins low r others here =
    let number : net.number ≡ first = are.0 in
    let free_here : taken net.number ≡ false = free net.number (omega arith) in
    reads-then _ (net_read shape is net are.1 (omega (arith, few, number)) taken free_here pins (omega (arith, low, number)) r _ (here ∙ append_assoc (words_of_net net) (flat_map words_of_net nets) others)) (λ r1 here1.
    reads-then _ (more_nets_read shape is nets (first + 1) are.2 (omega (arith, few)) (λ id. id == net.number || taken id)
    (λ q above. still_free taken first net.number q number above (free q (omega (arith, above)))) (pins + length net.pins) (omega (arith, low, (are.1).few)) r1 others here1) (λ r2 here2.
    record { after = r2; reads = refl; leaves = here2 }))

-- how many nets, and the nets
pub nets_read : (shape : Shape) → IsShape shape → (nets : List MadeNet) → AreNumberedFrom shape 0 nets → length nets ≡ shape.nets →
    (r : Reading) (others : List (List ℕ)) → words_left r ≡ codes "num" ∷ codes "net" ∷ decimal shape.nets ∷ (flat_map words_of_net nets ++ others) →
    Reads (nets_at (made_header shape) r) (map (net_made shape) nets) others
unfolding nets_at
nets_read shape is nets are long r others here =
    reads-then _ (word_read wanted.Num r _ here) (λ r1 here1.
    reads-then _ (word_read wanted.Net r1 _ here1) (λ r2 here2.
    reads-then _ (within_read 0 max_nets shape.nets NetLimit r2 _ (omega arith) (omega (arith, is.few_nets)) (omega (arith, is.few_nets)) here2) (λ r3 here3.
    rw (← long) (more_nets_read shape is nets 0 are (omega (arith, long, is.few_nets)) (λ _. false) (λ q above. refl) 0 (omega arith) r3 others here3))))
