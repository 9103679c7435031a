-- Reading the numbers of the layers of a generated design.
use Rattle.std.proofs.Common.{◌≡◌, ℕ, zero, suc, ◌+◌, ◌≤◌, List, [], ◌∷◌, ◌++◌, length, get_or, All, refl, sym, ap, ◌∙◌, arith, pos}
use Rattle.std.specs.Prelude.{decimal, map}
use Rattle.std.specs.List.{range_with_len}
use Rattle.std.proofs.lemmas.List.Concat.{flat_map_single}
use Rattle.std.proofs.lemmas.List.Elements.{All-nil, All-cons}
use Rattle.std.proofs.lemmas.List.FromFn.{length-range_with_len}
use Rattle.text_scan.specs.Parts.{parts_at}
use Rattle.text_scan.specs.Reading.{Reading}
use Rattle.text_scan.specs.declared.number.Number.{Number}
use Rattle.grid_graph.specs.Limits.{max_number}
use Rattle.gr_make.specs.declared.shape.Shape.{Shape}
use Rattle.gr_make.specs.MadeText.{per_layer}
use Rattle.ispd_reader.specs.Numbers.{number_at}
use Rattle.ispd_reader.specs.Parsing.{InputRead}
use Rattle.made_designs.specs.MadeContents.{for_layers}
use Rattle.made_designs.proofs.LineWords.{words_left}
use Rattle.made_designs.proofs.Parts.{parts_read}
use Rattle.made_designs.proofs.Tokens.{Reads, number_read}

-- what holds of each number holds of those of a list
pub All-each : (P : ℕ → Type 0) → ((n : ℕ) → P n) → (xs : List ℕ) → All P xs
All-each P each [] = All-nil P
All-each P each (x ∷ xs) = All-cons P x xs (each x) (All-each P each xs)

-- the numbers of a line are read, one for each layer
pub layers_read : (shape : Shape) (part : ℕ → Reading → InputRead ℕ) (number : ℕ → ℕ) →
    ((layer i : ℕ) (r : Reading) (others : List (List ℕ)) → words_left r ≡ decimal (number layer) ∷ others → Reads (part i r) (number layer) others) →
    (r : Reading) (others : List (List ℕ)) → words_left r ≡ per_layer shape number ++ others → Reads (parts_at part 0 shape.layers r) (for_layers shape number) others
layers_read shape part number each r others here =
    let layers = range_with_len 1 shape.layers in
    let words : ℕ → List (List ℕ) = λ layer. decimal (number layer) ∷ [] in
    let single = ap (λ (found : List (List ℕ)). found ++ others) (sym (flat_map_single (λ layer. decimal (number layer)) layers)) in
    let read = parts_read part (λ layer. Unit {0}) words number (λ layer fits i r1 more here1. each layer i r1 more here1) layers (All-each _ (λ n. tt) layers) 0 r others (here ∙ single) in
    rw length-range_with_len at read

-- numbers whose values are not used
pub unused_read : (number : ℕ → ℕ) → ((layer : ℕ) → number layer ≤ max_number) → (layers : List ℕ) (i : ℕ) (r : Reading) (others : List (List ℕ)) →
    words_left r ≡ map (λ layer. decimal (number layer)) layers ++ others → (values : List Number) × Reads (parts_at (λ _. number_at) i (length layers) r) values others
unused_read number below [] i r others here = ([], record { after = r; reads = refl; leaves = here })
unused_read number below (layer ∷ layers) i r others here =
    let first = number_read (number layer) r (map (λ l. decimal (number l)) layers ++ others) (below layer) here in
    let more = unused_read number below layers (i + 1) first.read.after others first.read.leaves in (
      record { value = pos (number layer); at = first.place } ∷ more.0,
      record { after = more.1.after; reads = rw (first.read.reads, more.1.reads) refl; leaves = more.1.leaves },
    )

-- no number of a list is above the limit of all
pub index_of_layers : (number : ℕ → ℕ) (limit : ℕ) → ((layer : ℕ) → number layer ≤ limit) → (first n i : ℕ) → get_or (map number (range_with_len first n)) i 0 ≤ limit
index_of_layers number limit below first zero i = omega arith
index_of_layers number limit below first (suc n) zero = below first
index_of_layers number limit below first (suc n) (suc i) = index_of_layers number limit below (first + 1) n i
