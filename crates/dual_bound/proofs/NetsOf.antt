-- The nets of a design and their grounds, by place.
use Rattle.std.proofs.Common.{◌≡◌, ℕ, suc, ◌<◌, All, List, [], ◌∷◌, length, get_or, Some, refl, sym, ◌∙◌, ap, arith}
use Rattle.std.specs.List.{AllZip}
use Rattle.std.proofs.lemmas.Option.{slice_get-get_or}
use Rattle.grid_base.specs.Lists.{At}
use Rattle.grid_base.proofs.Lists.{AllZip-at}
use Rattle.grid_base.specs.Numbers.{IsVertex}
use Rattle.grid_graph.specs.declared.design.Design.{Design}
use Rattle.grid_graph.specs.declared.grid.Grid.{Grid}
use Rattle.grid_graph.specs.declared.ground.Ground.{Ground}
use Rattle.grid_graph.specs.declared.net_spec.NetSpec.{NetSpec}
use Rattle.grid_graph.specs.Grounds.{IsGround, AreGrounds}
use Rattle.grid_graph.specs.Grids.{size_of, IsNetWidth}

pub AllZip-length : {X Y : Type 0} (R : X → Y → Type 0) (xs : List X) (ys : List Y) → AllZip R xs ys → length ys ≡ length xs
AllZip-length R [] [] all = refl
AllZip-length R [] (b ∷ ys) all = absurd all
AllZip-length R (a ∷ xs) [] all = absurd all
AllZip-length R (a ∷ xs) (b ∷ ys) all = ap suc (AllZip-length R xs ys all.1)

pub net_width : (d : Design) (k : ℕ) (n : NetSpec) → At d.nets k n → IsNetWidth d.grid n.width
net_width d k n at = (d.limits.net k n at).width

pub net_vertices : (d : Design) (k : ℕ) (n : NetSpec) → At d.nets k n → All (λ v. IsVertex (size_of d.grid) v.0) n.terminals
net_vertices d k n at = λ i v low. (d.limits.net k n at).vertices i (get_or n.terminals i v) (slice_get-get_or n.terminals i v low)

pub all_widths : (d : Design) → All (λ (n : NetSpec). IsNetWidth d.grid n.width) d.nets
all_widths d = λ k n low. net_width d k (get_or d.nets k n) (slice_get-get_or d.nets k n low)

-- a net that was read at a place stands there
pub net_stands : (nets list : List NetSpec) (k : ℕ) (n : NetSpec) → list ≡ nets → k < length nets → n ≡ get_or list k n → At nets k n
net_stands nets list k n same within is = slice_get-get_or nets k n within ∙ ap Some (sym (is ∙ ap (λ (ns : List NetSpec). get_or ns k n) same))

-- and has the ground of that place
pub net_ground : (g : Grid) (nets : List NetSpec) (grounds : List Ground) (k : ℕ) (n : NetSpec) (d : Ground) → AreGrounds g nets grounds → k < length nets → At nets k n
    → IsGround g n.terminals (get_or grounds k d)
net_ground g nets grounds k n d are within at =
    let R : NetSpec → Ground → Type 0 = λ m found. IsGround g m.terminals found in
    AllZip-at R nets grounds k n (get_or grounds k d) are at (slice_get-get_or grounds k d (omega (arith, within, AllZip-length R nets grounds are)))
