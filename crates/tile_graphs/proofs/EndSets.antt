-- Sets of ends, counted place by place.
use Rattle.std.proofs.Common.{ℕ, ◌≡◌, ◌≢◌, ◌+◌, ◌-◌, ◌*◌, ◌^◌, ◌<◌, ◌≤◌, List, [], ◌∷◌, length, get_or, drop, length-drop, min, refl, sym, ap, ◌∙◌, suc, add-one, arith, lit<}
use Rattle.std.proofs.Math.Dec.{eqb}
use Rattle.std.proofs.Math.Nat.{mul-le-mul_left, pow-le-pow_right, pow-suc}
use Rattle.std.proofs.lemmas.Nat.{pow_pos}
use Rattle.std.proofs.Math.Seq.{drop-cons}
use Rattle.std.proofs.lemmas.Bool.{cond_both, ne_eqb}
use Rattle.tile_graphs.specs.Bundles.{ends_before_none, no_end, sets_of_ends}

-- behind a node there are as many more
pub ends_before_none-cons : (node : ℕ) (nodes : List ℕ) → node ≢ no_end → ends_before_none (node ∷ nodes) ≡ suc (ends_before_none nodes)
ends_before_none-cons node nodes other = rw (ne_eqb node no_end other) refl

-- at most all nodes stand there
pub ends_before_none-length : (nodes : List ℕ) → ends_before_none nodes ≤ length nodes
ends_before_none-length [] = omega arith
ends_before_none-length (node ∷ nodes) = cond_both (eqb node no_end) 0 (suc (ends_before_none nodes)) (λ n. n ≤ suc (length nodes))
    (λ _. omega arith) (λ _. omega (arith, ends_before_none-length nodes))

-- eight nodes have few sets
pub sets-few : (nodes : List ℕ) → length nodes ≡ 8 → sets_of_ends nodes ≤ 128
sets-few nodes eight =
    let few : ends_before_none (drop 1 nodes) ≤ 7 = omega (arith, ends_before_none-length (drop 1 nodes), length-drop 1 nodes) in
    pow-le-pow_right {n = 2} (lit< tt) few

-- one node doubles the sets
pub sets-doubled : (nodes : List ℕ) (place d sets next all : ℕ) → place < length nodes → get_or nodes place d ≢ no_end → all ≤ 128
    → sets * 2 ^ ends_before_none (drop place nodes) ≡ all → next ≡ min (sets * 2) (2 ^ 32 - 1)
    → next * 2 ^ ends_before_none (drop (place + 1) nodes) ≡ all
sets-doubled nodes place d sets next all below other small is step =
    let k = ends_before_none (drop (suc place) nodes) in
    let e : ends_before_none (drop place nodes) ≡ suc k =
    ap ends_before_none (drop-cons nodes place d below) ∙ ends_before_none-cons (get_or nodes place d) (drop (suc place) nodes) other in
    let p : 2 ^ ends_before_none (drop place nodes) ≡ 2 ^ k * 2 = ap (λ n. 2 ^ n) e ∙ pow-suc 2 k in
    let whole : sets * (2 ^ k * 2) ≡ all = ap (λ n. sets * n) (sym p) ∙ is in
    let low : sets * 1 ≤ sets * 2 ^ k = mul-le-mul_left sets (omega (arith, pow_pos k)) in
    let double : next ≡ sets * 2 = omega (arith, whole, low, step, small) in
    rw (add-one place) (ap (λ n. n * 2 ^ k) double ∙ omega (arith, whole))
