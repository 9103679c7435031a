-- Parts with a number that are read one after another, as a loop does.
use Rattle.std.proofs.Common.{◌≡◌, ℕ, zero, suc, ◌-◌, ◌+◌, ◌≤◌, ◌<◌, List, [], ◌∷◌, ◌++◌, length, Option, Some, Ok, Err, slice_get, refl, sym, ap, ◌∙◌, subst, arith}
use Rattle.std.proofs.lemmas.List.{append-nil}
use Rattle.std.proofs.lemmas.Option.{same_Some}
use Rattle.text_scan.specs.Parts.{Read, ◌>>=◌, Refuses, parts_at}
use Rattle.text_scan.proofs.Parts.{with_parts, with_parts-none, with_parts-one, parts_of_ok, same_value, Refuses-with}

-- no part was read yet
pub begins : {A L F : Type 0} (part : ℕ → L → Read L F A) (count : ℕ) (left : L) → with_parts [] (parts_at part 0 (count - 0) left) ≡ parts_at part 0 count left
begins part count left = let k : count - 0 ≡ count = omega arith in rw k (with_parts-none (parts_at part 0 count left))

-- one more part was read
pub goes_on : {A L F : Type 0} (part : ℕ → L → Read L F A) (before : List A) (count i : ℕ) (left : L) (x : A) (after : L) (total : Read L F (List A)) →
    i < count → part i left ≡ Ok (x, after) → with_parts before (parts_at part i (count - i) left) ≡ total → with_parts (before ++ x ∷ []) (parts_at part (i + 1) (count - (i + 1)) after) ≡ total
goes_on part before count i left x after total lt h so_far =
    let k : count - i ≡ suc (count - (i + 1)) = omega arith in
    let more = parts_at part (i + 1) (count - (i + 1)) after in
    let one : parts_at part i (count - i) left ≡ (more >>= λ more. Ok (x ∷ more.0, more.1)) = rw (k, h) refl in
    sym (with_parts-one before x more) ∙ sym (ap (with_parts before) one) ∙ so_far

-- the next part was refused
pub ends : {A E L F : Type 0} (refusal_of : E → Option F) (part : ℕ → L → Read L F A) (e : E) (before : List A) (count i : ℕ) (left : L) (total : Read L F (List A)) →
    i < count → Refuses refusal_of e (part i left) → with_parts before (parts_at part i (count - i) left) ≡ total → Refuses refusal_of e total
ends refusal_of part e before count i left total lt refused so_far =
    Refuses-with refusal_of e (part i left) total (λ refusal h.
    let k : count - i ≡ suc (count - (i + 1)) = omega arith in
    let one : parts_at part i (count - i) left ≡ Err refusal = rw (k, h) refl in
    sym so_far ∙ ap (with_parts before) one) refused

-- all parts were read
pub is_done : {A L F : Type 0} (part : ℕ → L → Read L F A) (before : List A) (count i : ℕ) (left : L) (total : Read L F (List A)) →
    count ≤ i → with_parts before (parts_at part i (count - i) left) ≡ total → total ≡ Ok (before, left)
is_done {A} part before count i left total le so_far =
    let k : count - i ≡ 0 = omega arith in
    let none : parts_at part i (count - i) left ≡ Ok ([], left) = rw k refl in
    sym so_far ∙ ap (with_parts before) none ∙ ap (λ (xs : List A). Ok (xs, left)) (append-nil before)

-- ---- parts whose values are not used

-- what is left behind them
abbrev pub left_behind : {A L F : Type 0} → Read L F (List A) → Read L F (Unit {0})
left_behind read = read >>= λ unused. Ok (tt, unused.1)

left_behind-one : {A L F : Type 0} (x : A) (more : Read L F (List A)) → left_behind (more >>= λ more. Ok (x ∷ more.0, more.1)) ≡ left_behind more
left_behind-one x (Ok read) = refl
left_behind-one x (Err refusal) = refl

-- one more of them was read
pub passes_on : {A L F : Type 0} (part : ℕ → L → Read L F A) (count i : ℕ) (left : L) (x : A) (after : L) (total : Read L F (Unit {0})) →
    i < count → part i left ≡ Ok (x, after) → left_behind (parts_at part i (count - i) left) ≡ total → left_behind (parts_at part (i + 1) (count - (i + 1)) after) ≡ total
passes_on part count i left x after total lt h so_far =
    let k : count - i ≡ suc (count - (i + 1)) = omega arith in
    let more = parts_at part (i + 1) (count - (i + 1)) after in
    let one : parts_at part i (count - i) left ≡ (more >>= λ more. Ok (x ∷ more.0, more.1)) = rw (k, h) refl in
    sym (left_behind-one x more) ∙ sym (ap left_behind one) ∙ so_far

-- ---- what holds of all parts

-- of the first element and of those behind it
first_or_later : {A : Type 0} (P : ℕ → A → Type 0) (i : ℕ) (y : A) (ys : List A) → P i y → ((j : ℕ) (x : A) → slice_get ys j ≡ Some x → P (i + 1 + j) x) → (j : ℕ) (x : A) → slice_get (y ∷ ys) j ≡ Some x → P (i + j) x
first_or_later {A} P i y ys first later zero x at =
    let k : i + 0 ≡ i = omega arith in
    rw k (subst (P i) (same_Some _ _ at) first)
first_or_later {A} P i y ys first later (suc j) x at = let k : i + suc j ≡ i + 1 + j = omega arith in rw k (later j x at)

-- there are as many as were asked for, and what holds of each value by its number holds of all
pub parts_keep : {A L F : Type 0} (part : ℕ → L → Read L F A) (P : ℕ → A → Type 0) → ((i : ℕ) (left : L) (x : A) (after : L) → part i left ≡ Ok (x, after) → P i x) →
    (i n : ℕ) (left : L) (xs : List A) (after : L) → parts_at part i n left ≡ Ok (xs, after) → ((j : ℕ) (x : A) → slice_get xs j ≡ Some x → P (i + j) x) × (length xs ≡ n)
parts_keep {A} part P keeps i zero left xs after h =
    let none : [] ≡ xs = same_value [] xs left after h in
    (λ j x at_j. absurd (let at_none : slice_get [] j ≡ Some x = subst (λ (ys : List A). slice_get ys j ≡ Some x) (sym none) at_j in cc), sym (ap length none))
parts_keep {A} part P keeps i (suc n) left xs after h =
    let a = parts_of_ok (part i left) (λ one. parts_at part (i + 1) n one.1 >>= λ more. Ok (one.0 ∷ more.0, more.1)) (xs, after) h in
    let b = parts_of_ok (parts_at part (i + 1) n a.0.1) (λ more. Ok (a.0.0 ∷ more.0, more.1)) (xs, after) a.2 in
    let whole : a.0.0 ∷ b.0.0 ≡ xs = same_value (a.0.0 ∷ b.0.0) xs b.0.1 after b.2 in
    let rec = parts_keep part P keeps (i + 1) n a.0.1 b.0.0 b.0.1 b.1 in
    let each : (j : ℕ) (x : A) → slice_get (a.0.0 ∷ b.0.0) j ≡ Some x → P (i + j) x = first_or_later P i a.0.0 b.0.0 (keeps i left a.0.0 a.0.1 a.1) rec.0 in
    (λ j x at_j. each j x (subst (λ (ys : List A). slice_get ys j ≡ Some x) (sym whole) at_j), omega (arith, rec.1, ap length whole))
