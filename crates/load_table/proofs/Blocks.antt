-- Putting the values of a block in a list, one after another.
use Rattle.std.proofs.Common.{◌≡◌, ℕ, ◌+◌, ◌-◌, ◌<◌, ◌≤◌, List, length, slice_index, slice_set, refl, sym, ◌∙◌, subst, arith, below_more, ⊎_elim}
use Rattle.std.proofs.lemmas.Bool.{cases_lt}
use Rattle.std.proofs.lemmas.List.{ext_get_or, get_or-set_other, get_or-set_same, length-set}
use Rattle.load_table.specs.Blocks.{ArePut}

-- no value was put
pub put_none : (first : ℕ) (values list : List ℕ) → ArePut first 0 values list list
put_none first values list = record {
  long = refl;
  before = λ w low. refl;
  here = λ k none. absurd (omega (arith, none));
  behind = λ w high. refl;
}

-- one value more: the ones before it are the same
pub put_next : (first k n : ℕ) (values then old new : List ℕ) → ArePut first k values old new → first + k < length new
    → ((j : ℕ) → j < k → slice_index then j ≡ slice_index values j) → slice_index then k ≡ n → ArePut first (k + 1) then old (slice_set new (first + k) n)
put_next first k n values then old new put within same is =
    let set : List ℕ = slice_set new (first + k) n in
    record {
      long = length-set new (first + k) n ∙ put.long;
      before = λ w low. get_or-set_other new (first + k) w n 0 (λ at. omega (arith, low, at)) ∙ put.before w low;
      here = λ j early. below_more (λ w. slice_index set (first + w) ≡ slice_index then w) k
          (λ w under. get_or-set_other new (first + k) (first + w) n 0 (λ at. omega (arith, under, at)) ∙ put.here w under ∙ sym (same w under))
          (get_or-set_same new (first + k) n 0 within ∙ sym is) j early;
      behind = λ w high. get_or-set_other new (first + k) w n 0 (λ at. omega (arith, high, at)) ∙ put.behind w (omega (arith, high));
    }

-- two lists are alike where those that are put hold the same at each word
alike : (first count : ℕ) (values old one other : List ℕ) → ArePut first count values old one → length other ≡ length old → ((w : ℕ) → w < first → slice_index other w ≡ slice_index old w)
    → ((k : ℕ) → k < count → slice_index other (first + k) ≡ slice_index values k) → ((w : ℕ) → first + count ≤ w → slice_index other w ≡ slice_index old w) → one ≡ other
alike first count values old one other put long before here behind =
    ext_get_or 0 one other (put.long ∙ sym long)
    (λ w inside. ⊎_elim
    (λ (low : w < first). put.before w low ∙ sym (before w low))
    (λ (from : first ≤ w). ⊎_elim
    (λ (early : w < first + count).
    let k : ℕ = w - first in
    let is : first + k ≡ w = omega (arith, from) in
    subst (λ (v : ℕ). slice_index one v ≡ slice_index other v) is (put.here k (omega (arith, early, is)) ∙ sym (here k (omega (arith, early, is)))))
    (λ (high : first + count ≤ w). put.behind w high ∙ sym (behind w high))
    (cases_lt w (first + count)))
    (cases_lt w first))

-- the values of a block put in a list make one list
pub put_alike : (first count : ℕ) (values old one other : List ℕ) → ArePut first count values old one → ArePut first count values old other → one ≡ other
put_alike first count values old one other put then = alike first count values old one other put then.long then.before then.here then.behind

-- values that stood there already change nothing
pub put_same : (first count : ℕ) (values old new : List ℕ) → ArePut first count values old new → ((k : ℕ) → k < count → slice_index old (first + k) ≡ slice_index values k) → new ≡ old
put_same first count values old new put same = alike first count values old new old put refl (λ w low. refl) same (λ w high. refl)
