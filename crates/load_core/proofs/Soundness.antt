-- What keeps words and parties sound: a change of one party with its words, a split, and a join.
use Rattle.std.proofs.Common.{◌≡◌, ◌≢◌, ℕ, ◌+◌, ◌-◌, ◌<◌, ◌≤◌, List, [], ◌∷◌, ◌++◌, length, set, get_or, true, false, refl, sym, ap, ⊎_elim, arith, get_or-set_same, get_or-set_other}
use Rattle.std.specs.Prelude.{All, sum_by}
use Rattle.std.proofs.lemmas.Bool.{cases_eq, both_ways}
use Rattle.std.proofs.lemmas.List.{length-set}
use Rattle.std.proofs.lemmas.List.Elements.{All-head, All-tail, All-set, All-push}
use Rattle.std.proofs.lemmas.List.Sums.{sum_by-cons, sum_by-set, sum_by_push, get_or-le-sum_by}
use Rattle.load_core.specs.declared.party.Party.{Party}
use Rattle.load_core.specs.Parties.{share_at, whole_allotment, nobody, added, taken, loaded, kept_after_split, split_off, joined, IsPart}
use Rattle.load_core.specs.Soundness.{IsSound, HasNothing, IsCloseTo}
use Rattle.load_core.proofs.Entries.{get_or-minus, get_or-plus}

-- a sum is at most another where each of its terms is
pub sum-le : (f g : Party → ℕ) (parties : List Party) → All (λ p. f p ≤ g p) parties → sum_by f parties ≤ sum_by g parties
sum-le f g [] h = omega arith
sum-le f g (p ∷ ps) h =
    omega (arith, sum_by-cons f p ps, sum_by-cons g p ps, All-head (λ p. f p ≤ g p) p ps h, sum-le f g ps (All-tail (λ p. f p ≤ g p) p ps h))

-- no word is above the whole allotment
pub word-le : (words : List ℕ) (parties : List Party) (k : ℕ) → IsSound words parties → get_or words k 0 ≤ whole_allotment
word-le words parties k s =
    let each : All (λ p. share_at k p ≤ p.allot) parties = λ i d low. s.within i d low k in
    omega (arith, s.sums k, s.whole, sum-le (share_at k) (λ (p : Party). p.allot) parties each)

-- what two parties have together is at most what all have
pub two-le : (f : Party → ℕ) (parties : List Party) (i j : ℕ) → f nobody ≡ 0 → i < length parties → j < length parties
    → f (get_or (set parties j nobody) i nobody) + f (get_or parties j nobody) ≤ sum_by f parties
two-le f parties i j none low low' =
    let others = set parties j nobody in
    omega (arith, none, sum_by-set f parties j nobody nobody low', get_or-le-sum_by f others i nobody (omega (arith, length-set parties j nobody)))

-- what a party can find in a word
pub close : (words : List ℕ) (parties : List Party) (i k : ℕ) → i < length parties → IsSound words parties
    → IsCloseTo (get_or parties i nobody) k (get_or words k 0)
close words parties i k low s =
    let others = set parties i nobody in
    let each : All (λ p. share_at k p ≤ p.allot) parties = λ j d in'. s.within j d in' k in
    let shares = sum_by-set (share_at k) parties i nobody nobody low in
    let allots = sum_by-set (λ (p : Party). p.allot) parties i nobody nobody low in
    let most = sum-le (share_at k) (λ (p : Party). p.allot) others (All-set (λ p. share_at k p ≤ p.allot) parties i nobody (omega arith) each) in
    record {
      least = omega (arith, s.sums k, get_or-le-sum_by (share_at k) parties i nobody low);
      most = omega (arith, s.sums k, s.whole, shares, allots, most);
    }

-- where the share and an amount fit the allotment, the word and the amount fit the whole
pub room-in-word : (words : List ℕ) (parties : List Party) (i k amount : ℕ) → i < length parties → IsSound words parties
    → share_at k (get_or parties i nobody) + amount ≤ (get_or parties i nobody).allot → get_or words k 0 + amount ≤ whole_allotment
room-in-word words parties i k amount low s room =
    omega (arith, room, s.whole, (close words parties i k low s).most, get_or-le-sum_by (λ (p : Party). p.allot) parties i nobody low)

-- a live party in the place of another with the same allotment, where the words move with its shares
pub sound-changed : (words words' : List ℕ) (parties : List Party) (i : ℕ) (q : Party) → i < length parties → q.live ≡ true
    → q.allot ≡ (get_or parties i nobody).allot → ((k : ℕ) → share_at k q ≤ q.allot)
    → ((k : ℕ) → get_or words' k 0 + share_at k (get_or parties i nobody) ≡ get_or words k 0 + share_at k q)
    → IsSound words parties → IsSound words' (set parties i q)
sound-changed words words' parties i q low live allot within moved s = record {
  sums = λ k. omega (arith, s.sums k, moved k, sum_by-set (share_at k) parties i q nobody low);
  within = All-set (λ p. (k : ℕ) → share_at k p ≤ p.allot) parties i q within s.within;
  whole = omega (arith, s.whole, allot, sum_by-set (λ (p : Party). p.allot) parties i q nobody low);
  idle = All-set (λ p. p.live ≡ false → HasNothing p) parties i q (λ dead. absurd (both_ways q.live dead live)) s.idle;
}

pub sound-added : (words : List ℕ) (parties : List Party) (i word amount : ℕ) → i < length parties → (get_or parties i nobody).live ≡ true
    → word < length words → word < length (get_or parties i nobody).shares
    → share_at word (get_or parties i nobody) + amount ≤ (get_or parties i nobody).allot
    → IsSound words parties → IsSound (set words word (get_or words word 0 + amount)) (set parties i (added (get_or parties i nobody) word amount))
sound-added words parties i word amount low live exists wide room s =
    let p = get_or parties i nobody in
    sound-changed words (set words word (get_or words word 0 + amount)) parties i (added p word amount) low live refl
    (λ k. ⊎_elim
    (λ (e : k ≡ word). rw (e, get_or-set_same p.shares word (get_or p.shares word 0 + amount) 0 wide) room)
    (λ (n : k ≢ word). rw (get_or-set_other p.shares word k (get_or p.shares word 0 + amount) 0 n) (s.within i nobody low k))
    (cases_eq k word))
    (λ k. ⊎_elim
    (λ (e : k ≡ word). rw (e, get_or-set_same p.shares word (get_or p.shares word 0 + amount) 0 wide, get_or-set_same words word (get_or words word 0 + amount) 0 exists) (omega arith))
    (λ (n : k ≢ word). rw (get_or-set_other p.shares word k (get_or p.shares word 0 + amount) 0 n, get_or-set_other words word k (get_or words word 0 + amount) 0 n) refl)
    (cases_eq k word))
    s

pub sound-taken : (words : List ℕ) (parties : List Party) (i word amount : ℕ) → i < length parties → (get_or parties i nobody).live ≡ true
    → word < length words → word < length (get_or parties i nobody).shares
    → amount ≤ share_at word (get_or parties i nobody)
    → IsSound words parties → IsSound (set words word (get_or words word 0 - amount)) (set parties i (taken (get_or parties i nobody) word amount))
sound-taken words parties i word amount low live exists wide had s =
    let p = get_or parties i nobody in
    let least = (close words parties i word low s).least in
    sound-changed words (set words word (get_or words word 0 - amount)) parties i (taken p word amount) low live refl
    (λ k. ⊎_elim
    (λ (e : k ≡ word). rw (e, get_or-set_same p.shares word (get_or p.shares word 0 - amount) 0 wide) (omega (arith, s.within i nobody low word)))
    (λ (n : k ≢ word). rw (get_or-set_other p.shares word k (get_or p.shares word 0 - amount) 0 n) (s.within i nobody low k))
    (cases_eq k word))
    (λ k. ⊎_elim
    (λ (e : k ≡ word). rw (e, get_or-set_same p.shares word (get_or p.shares word 0 - amount) 0 wide, get_or-set_same words word (get_or words word 0 - amount) 0 exists) (omega (arith, least, had)))
    (λ (n : k ≢ word). rw (get_or-set_other p.shares word k (get_or p.shares word 0 - amount) 0 n, get_or-set_other words word k (get_or words word 0 - amount) 0 n) refl)
    (cases_eq k word))
    s

pub sound-loaded : (words : List ℕ) (parties : List Party) (i word value : ℕ) → i < length parties → (get_or parties i nobody).live ≡ true
    → IsSound words parties → IsSound words (set parties i (loaded (get_or parties i nobody) word value))
sound-loaded words parties i word value low live s =
    sound-changed words words parties i (loaded (get_or parties i nobody) word value) low live refl (λ k. s.within i nobody low k) (λ k. refl) s

pub sound-split : (words : List ℕ) (parties : List Party) (i allot : ℕ) (given : List ℕ) → i < length parties → (get_or parties i nobody).live ≡ true
    → IsPart (length words) (get_or parties i nobody) allot given
    → IsSound words parties → IsSound words (set parties i (kept_after_split (get_or parties i nobody) allot given) ++ split_off allot given ∷ [])
sound-split words parties i allot given low live part s =
    let p = get_or parties i nobody in
    let kept = kept_after_split p allot given in
    let new = split_off allot given in
    let rest : (k : ℕ) → share_at k kept ≡ share_at k p - get_or given k 0 = get_or-minus p.shares given in
    record {
      sums = λ k. omega (arith, s.sums k, rest k, part.had k, sum_by-set (share_at k) parties i kept nobody low, sum_by_push (share_at k) (set parties i kept) new);
      within = All-push (λ p. (k : ℕ) → share_at k p ≤ p.allot) (set parties i kept) new
          (All-set (λ p. (k : ℕ) → share_at k p ≤ p.allot) parties i kept (λ k. omega (arith, rest k, part.rest k)) s.within)
          part.fits;
      whole = omega (arith, s.whole, part.enough, sum_by-set (λ (p : Party). p.allot) parties i kept nobody low, sum_by_push (λ (p : Party). p.allot) (set parties i kept) new);
      idle = All-push (λ p. p.live ≡ false → HasNothing p) (set parties i kept) new
          (All-set (λ p. p.live ≡ false → HasNothing p) parties i kept (λ dead. absurd (both_ways p.live dead live)) s.idle)
          (λ dead. absurd (both_ways true dead refl));
    }

-- whoever has nothing takes the place of the party that was joined into another
pub sound-joined : (words : List ℕ) (parties : List Party) (into from : ℕ) (gone : Party) → into < length parties → from < length parties → into ≢ from
    → (get_or parties into nobody).live ≡ true → HasNothing gone
    → IsSound words parties → IsSound words (set (set parties into (joined (get_or parties into nobody) (get_or parties from nobody))) from gone)
sound-joined words parties into from gone low low' two live nothing s =
    let p = get_or parties into nobody in
    let q = get_or parties from nobody in
    let both = joined p q in
    let first = set parties into both in
    let apart : from ≢ into = λ e. two (sym e) in
    let still : get_or first from nobody ≡ q = get_or-set_other parties into from both nobody apart in
    let in' : from < length first = omega (arith, length-set parties into both) in
    let summed : (k : ℕ) → share_at k both ≡ share_at k p + share_at k q = get_or-plus p.shares q.shares in
    record {
      sums = λ k. omega (arith, s.sums k, summed k, nothing.shares k, ap (share_at k) still, sum_by-set (share_at k) parties into both nobody low, sum_by-set (share_at k) first from gone nobody in');
      within = All-set (λ p. (k : ℕ) → share_at k p ≤ p.allot) first from gone (λ k. omega (arith, nothing.shares k))
          (All-set (λ p. (k : ℕ) → share_at k p ≤ p.allot) parties into both (λ k. omega (arith, summed k, s.within into nobody low k, s.within from nobody low' k)) s.within);
      whole = omega (arith, s.whole, nothing.allot, ap (λ (p : Party). p.allot) still, sum_by-set (λ (p : Party). p.allot) parties into both nobody low, sum_by-set (λ (p : Party). p.allot) first from gone nobody in');
      idle = All-set (λ p. p.live ≡ false → HasNothing p) first from gone (λ dead. nothing)
          (All-set (λ p. p.live ≡ false → HasNothing p) parties into both (λ dead. absurd (both_ways p.live dead live)) s.idle);
    }
