-- Sums of radii, and what terminals have together at a vertex.
use Rattle.std.proofs.Common.{◌≡◌, ◌≢◌, ℕ, zero, suc, ◌+◌, ◌-◌, ◌*◌, ◌<◌, ◌≤◌, min, slice_index, replicate, refl, sym, ◌∙◌, ap, ⊎_elim, arith, add-one}
use Rattle.std.proofs.Math.Nat.{mul-add}
use Rattle.std.proofs.lemmas.Bool.{cases_eq, cases_lt}
use Rattle.std.proofs.lemmas.Bool.Decides.{nat_tests}
use Rattle.std.proofs.lemmas.List.{get_or-replicate, get_or_past, length-replicate}
use Rattle.steiner_tables.specs.Masks.{few_terminals, bit}
use Rattle.steiner_tables.proofs.Masks.{bit-small}
use Rattle.terminal_balls.specs.Balls.{Balls, share, shares_of, shares, radii_sum}

in_two : (x r m : ℕ) → m ≤ r → x * m + x * (r - m) ≡ x * r
in_two x r m low = sym (mul-add x m (r - m)) ∙ ap (λ y. x * y) (omega (arith, low))

-- elsewhere a terminal has its radius
share-elsewhere : (b : Balls) (place v : ℕ) → b.owner v ≢ place → share b place v ≡ b.radius place
share-elsewhere b place v other = grind (arith, nat_tests)

share-within : (b : Balls) (place v : ℕ) → b.owner v ≡ place → share b place v ≡ min (b.radius place) (b.number v)
share-within b place v same = grind (arith, nat_tests)

-- below the owner's place all have their radii
shares-below : (b : Balls) (mask v n : ℕ) → n ≤ b.owner v → shares_of b mask v n ≡ radii_sum b.radius mask n
unfolding shares_of radii_sum
shares-below b mask v zero low = refl
shares-below b mask v (suc n) low =
    let before = shares-below b mask v n (omega (arith, low)) in
    let here : share b n v ≡ b.radius n = share-elsewhere b n v (omega (arith, low)) in
    let both : bit mask n * share b n v ≡ bit mask n * b.radius n = ap (λ x. bit mask n * x) here in
    omega (arith, before, both)

-- what the owner lacks of its radius is all that is lacking
pub shares-past : (b : Balls) (mask v n : ℕ) → b.owner v < n
    → shares_of b mask v n + bit mask (b.owner v) * (b.radius (b.owner v) - min (b.radius (b.owner v)) (b.number v))
    ≡ radii_sum b.radius mask n
unfolding shares_of radii_sum
shares-past b mask v zero low = absurd (omega (arith, low))
shares-past b mask v (suc n) low = ⊎_elim
    (λ here.
    let before = shares-below b mask v n (omega (arith, here)) in
    let share_here : bit mask n * share b n v ≡ bit mask n * min (b.radius n) (b.number v) =
    ap (λ x. bit mask n * x) (share-within b n v here) in
    let lacks = ap (λ k. bit mask k * (b.radius k - min (b.radius k) (b.number v))) here in
    let whole = in_two (bit mask n) (b.radius n) (min (b.radius n) (b.number v)) (omega arith) in
    omega (arith, before, share_here, lacks, whole))
    (λ other.
    let before = shares-past b mask v n (omega (arith, low, other)) in
    let share_here : bit mask n * share b n v ≡ bit mask n * b.radius n =
    ap (λ x. bit mask n * x) (share-elsewhere b n v other) in
    omega (arith, before, share_here))
    (cases_eq (b.owner v) n)

-- one more place of a mask
pub sum_more : (radius : ℕ → ℕ) (mask n sum : ℕ) → sum ≡ radii_sum radius mask n
    → (bit mask n ≡ 1 → sum + radius n ≡ radii_sum radius mask (n + 1)) × (bit mask n ≡ 0 → sum ≡ radii_sum radius mask (n + 1))
unfolding radii_sum
sum_more radius mask n sum is =
    let step : radii_sum radius mask (n + 1) ≡ radii_sum radius mask n + bit mask n * radius n = rw add-one refl in (
      λ one. let here = ap (λ x. x * radius n) one in omega (arith, is, here, step),
      λ none. let here = ap (λ x. x * radius n) none in omega (arith, is, here, step),
    )

-- where no terminal has a radius
pub no_sum : (radius : ℕ → ℕ) (mask n : ℕ) → ((place : ℕ) → radius place ≡ 0) → radii_sum radius mask n ≡ 0
unfolding radii_sum
no_sum radius mask zero none = refl
no_sum radius mask (suc n) none =
    let before = no_sum radius mask n none in
    let here : bit mask n * radius n ≡ bit mask n * 0 = ap (λ x. bit mask n * x) (none n) in
    omega (arith, before, here)

-- a list of zeros
pub zeros : (n place : ℕ) → slice_index (replicate n 0) place ≡ 0
zeros n place = ⊎_elim
    (λ low. get_or-replicate n place 0 0 low)
    (λ past. get_or_past (replicate n 0) place 0 (omega (arith, past, length-replicate {A = ℕ} n 0)))
    (cases_lt place n)

-- what the terminals of a mask have together, where the sum of their radii and the owner are known
pub record IsWhole (b : Balls) (mask v owner whole : ℕ) : Type 0 where
  pub without : bit mask owner ≡ 0 → whole ≡ shares b mask v
  pub less : bit mask owner ≢ 0 → b.radius owner - min (b.radius owner) (b.number v) ≤ whole
  pub with : bit mask owner ≢ 0 → whole - (b.radius owner - min (b.radius owner) (b.number v)) ≡ shares b mask v
  pub none : whole ≡ 0 → 0 ≡ shares b mask v

pub is_whole : (b : Balls) (mask v owner whole : ℕ) → owner ≡ b.owner v → b.owner v < few_terminals
    → whole ≡ radii_sum b.radius mask few_terminals → IsWhole b mask v owner whole
is_whole b mask v owner whole same few is =
    let lacking = b.radius owner - min (b.radius owner) (b.number v) in
    let all : shares b mask v + bit mask owner * lacking ≡ radii_sum b.radius mask few_terminals =
    ap (λ k. shares b mask v + bit mask k * (b.radius k - min (b.radius k) (b.number v))) same ∙ shares-past b mask v 5 few in
    let one : bit mask owner ≢ 0 → shares b mask v + lacking ≡ whole =
    (λ has. let bit_is : bit mask owner ≡ 1 = omega (arith, has, bit-small mask owner) in
    let product : bit mask owner * lacking ≡ 1 * lacking = ap (λ x. x * lacking) bit_is in omega (arith, all, product, is)) in
    record {
      without = λ out. let product : bit mask owner * lacking ≡ 0 * lacking = ap (λ x. x * lacking) out in omega (arith, all, product, is);
      less = λ has. omega (arith, one has);
      with = λ has. omega (arith, one has);
      none = λ nothing. omega (arith, all, is, nothing);
    }
