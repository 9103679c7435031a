-- The pieces of a rising list with their weights are a set.
use Rattle.std.proofs.Common.{◌≡◌, ℕ, suc, ◌+◌, ◌<◌, ◌≤◌, List, [], ◌∷◌, ◌++◌, length, take, get_or, map, option_map, sym, ◌∙◌, ap, subst, arith}
use Rattle.std.specs.List.{Contains}
use Rattle.std.proofs.Math.Seq.{take-suc}
use Rattle.std.proofs.lemmas.List.{length-map}
use Rattle.std.proofs.lemmas.List.Elements.{Contains-get_or}
use Rattle.std.proofs.lemmas.List.Sums.{sum_by-cons, sum_by-append}
use Rattle.std.proofs.lemmas.Option.{slice_get-map, slice_get-get_or, get_or_from_slice_get}
use Rattle.grid_base.specs.declared.piece.Piece.{Piece}
use Rattle.grid_base.specs.declared.piece.Piece.TheVariants.{Via}
use Rattle.grid_base.specs.Lists.{At, HasNoRepeats}
use Rattle.grid_graph.specs.Weighed.{Weighs, IsAllowed, NoPieceTwice}
use Rattle.grid_graph.proofs.Weighed.{weighed, weighs_no_more, member_of_tree}
use Rattle.steiner_span.specs.Growths.{AreLight}
use Rattle.label_search.specs.Sets.{IsSetOf, weight}
use Rattle.tree_set.specs.Order.{IsRising}
use Rattle.tree_set.proofs.Order.{rising_once}

-- the pieces of a rising list with their weights
pub record IsTreeSet (pieces : List (Piece × ℕ)) (tree : List Piece) : Type 0 where
  pub set : List (Piece × ℕ)
  pub of : map (λ x. x.0) set ≡ tree
  pub is_set : IsSetOf pieces set

pub tree_set : (pieces : List (Piece × ℕ)) (tree : List Piece) → IsRising tree → ((p : Piece) → Contains tree p → IsAllowed pieces p) → IsTreeSet pieces tree
tree_set pieces tree rising allowed =
    let own = weighed pieces tree allowed in
    record {
      set = own.0;
      of = own.1.of;
      is_set = record { allowed = own.1.allowed; once = subst (λ (ps : List Piece). HasNoRepeats ps) (sym own.1.of) (rising_once tree rising) };
    }

-- they weigh no more than a set that has them all
pub within_light : (pieces set : List (Piece × ℕ)) (grown : List Piece) (limit : ℕ) → NoPieceTwice pieces → IsSetOf pieces set → AreLight pieces grown limit → ((x : Piece × ℕ) → Contains set x → Contains grown x.0) → weight set ≤ limit
within_light pieces set grown limit once is light within =
    omega (
      arith,
      light.light,
      weighs_no_more pieces set light.set once is.once is.allowed light.is_set.allowed (λ x at. light.listed x.0 (within x at)),
    )

-- a tree whose pieces are in a light list weighs no more than the limit
pub total_within : (pieces : List (Piece × ℕ)) (tree grown : List Piece) (total limit : ℕ) → NoPieceTwice pieces → (own : IsTreeSet pieces tree) → total ≡ weight own.set → ((p : Piece) → Contains tree p → Contains grown p) → AreLight pieces grown limit → total ≤ limit
total_within pieces tree grown total limit once own sum within light =
    omega (
      arith,
      sum,
      within_light pieces own.set grown limit once own.is_set light (λ x at. within x.0 (member_of_tree own.set tree x own.of at)),
    )

nothing : Piece × ℕ
nothing = (Via (record { 0 = 0 }), 0)

-- how much more one piece more of a set weighs
pub record HasNext (pieces set : List (Piece × ℕ)) (tree : List Piece) (n k : ℕ) : Type 0 where
  pub more : weight (take (n + 1) set) ≡ weight (take n set) + k
  pub weighs : (d : Piece) → Weighs pieces (get_or tree n d) k

pub has_next : (pieces set : List (Piece × ℕ)) (tree : List Piece) (n : ℕ) → map (λ x. x.0) set ≡ tree → IsSetOf pieces set → n < length tree → (k : ℕ) × HasNext pieces set tree n k
has_next pieces set tree n of is low =
    let inside : n < length set = omega (arith, low, ap length of, length-map set (λ (x : Piece × ℕ). x.0)) in
    let x : Piece × ℕ = get_or set n nothing in
    let at : At (map (λ (y : Piece × ℕ). y.0) set) n x.0 = slice_get-map (λ (y : Piece × ℕ). y.0) set n ∙ ap (option_map (λ (y : Piece × ℕ). y.0)) (slice_get-get_or set n nothing inside) in
    let after : n + 1 ≡ suc n = omega arith in
    let first : weight (take (n + 1) set) ≡ weight (take n set ++ x ∷ []) = ap (λ m. weight (take m set)) after ∙ ap weight (take-suc set n nothing inside) in
    let second : weight (take n set ++ x ∷ []) ≡ weight (take n set) + weight (x ∷ []) = sum_by-append (λ (y : Piece × ℕ). y.1) (take n set) (x ∷ []) in
    let third : weight (x ∷ []) ≡ x.1 + 0 = sum_by-cons (λ (y : Piece × ℕ). y.1) x [] in (
      x.1,
      record {
        more = omega (arith, first, second, third);
        weighs = λ d.
            let same : x.0 ≡ get_or tree n d = sym (get_or_from_slice_get (map (λ (y : Piece × ℕ). y.0) set) n x.0 d at) ∙ ap (λ (ps : List Piece). get_or ps n d) of in
            subst (λ q. Weighs pieces q x.1) same (is.allowed x (Contains-get_or set n nothing inside));
      },
    )
