-- What each step of a share keeps, whatever the words and the other shares are.
use Rattle.std.proofs.Common.{◌≡◌, ℕ, zero, suc, ◌+◌, ◌-◌, ◌%◌, ◌^◌, ◌<◌, ◌≤◌, List, [], ◌∷◌, ◌++◌, length, set, get_or, true, refl, sym, ◌∙◌, subst, arith, get_or-set_other}
use Rattle.std.proofs.lemmas.List.{length-set, set-get_or}
use Rattle.std.proofs.lemmas.List.Sums.{get_or-le-sum_by}
use mathlib.Core.Option.{some, some-injective, some-ne-none}
use lib.ListN.{get_elem?}
use Rattle.atomic_table.specs.Table.{Allows, Splits, Joins, keeps}
use Rattle.atomic_table.proofs.Lists.{set_again}
use Rattle.load_core.specs.declared.party.Party.{Party}
use Rattle.load_core.specs.Parties.{share_at, whole_allotment, nobody, added, taken, loaded, kept_after_split, split_off, joined, IsPart}
use Rattle.load_core.specs.Soundness.{IsSound, HasNothing, IsCloseTo}
use Rattle.load_table.specs.Tables.{IsSoundTable}
use Rattle.load_core.proofs.Soundness.{close, word-le, room-in-word, sound-added, sound-taken, sound-loaded, sound-split, sound-joined}

-- what stands at a place
at-place : {X : Type 0} (xs : List X) (i : ℕ) (x d : X) → get_elem? xs i ≡ some x → (i < length xs) × (get_or xs i d ≡ x)
at-place [] i x d e = absurd (some-ne-none x (sym e))
at-place (y ∷ ys) zero x d e = (omega arith, some-injective y x e)
at-place (y ∷ ys) (suc i) x d e = let rest = at-place ys i x d e in (omega (arith, rest.0), rest.1)

-- no party has more than the whole allotment
allot-le : (words : List ℕ) (parties : List Party) (i : ℕ) → i < length parties → IsSound words parties → (get_or parties i nobody).allot ≤ whole_allotment
allot-le words parties i low s = omega (arith, s.whole, get_or-le-sum_by (λ (p : Party). p.allot) parties i nobody low)

pub adds : (n slots id i k : ℕ) (v : Party) → i < n → v.live ≡ true → i < length v.shares → share_at i v + k ≤ v.allot
    → Allows (IsSoundTable n) slots id (v, []) i (λ m. (m + k) % 2 ^ 64) (λ m now. now ≡ (added v i k, []))
adds n slots id i k v exists live wide room s b homes at bound =
    let there = at-place s.views id v nobody at in
    let in' : i < length s.words = omega (arith, b.0) in
    let small : get_or s.words i 0 + k ≤ whole_allotment = subst (λ (p : Party). share_at i p + k ≤ p.allot → get_or s.words i 0 + k ≤ whole_allotment) there.1
    (room-in-word s.words s.views id i k there.0 b.1) room in
    let value : (get_or s.words i 0 + k) % 2 ^ 64 ≡ get_or s.words i 0 + k = omega (arith, small) in
    let sound = subst (λ (p : Party). p.live ≡ true → i < length p.shares → share_at i p + k ≤ p.allot → IsSound (set s.words i (get_or s.words i 0 + k)) (set s.views id (added p i k))) there.1
    (λ l w r. sound-added s.words s.views id i k there.0 l in' w r b.1) live wide room in
    (added v i k, keeps, tt, (length-set s.words i _ ∙ b.0, rw value sound), refl)

pub takes : (n slots id i k : ℕ) (v : Party) → i < n → v.live ≡ true → i < length v.shares → k ≤ share_at i v
    → Allows (IsSoundTable n) slots id (v, []) i (λ m. (m + (2 ^ 64 - k)) % 2 ^ 64) (λ m now. now ≡ (taken v i k, []))
takes n slots id i k v exists live wide had s b homes at bound =
    let there = at-place s.views id v nobody at in
    let in' : i < length s.words = omega (arith, b.0) in
    let least : share_at i v ≤ get_or s.words i 0 = subst (λ (p : Party). share_at i p ≤ get_or s.words i 0) there.1 (close s.words s.views id i there.0 b.1).least in
    let value : (get_or s.words i 0 + (2 ^ 64 - k)) % 2 ^ 64 ≡ get_or s.words i 0 - k = omega (arith, least, had, word-le s.words s.views i b.1) in
    let sound = subst (λ (p : Party). p.live ≡ true → i < length p.shares → k ≤ share_at i p → IsSound (set s.words i (get_or s.words i 0 - k)) (set s.views id (taken p i k))) there.1
    (λ l w h. sound-taken s.words s.views id i k there.0 l in' w h b.1) live wide had in
    (taken v i k, keeps, tt, (length-set s.words i _ ∙ b.0, rw value sound), refl)

pub loads : (n slots id i : ℕ) (v : Party) → v.live ≡ true
    → Allows (IsSoundTable n) slots id (v, []) i (λ m. m) (λ m now. (now ≡ (loaded v i m, [])) × IsCloseTo v i m)
loads n slots id i v live s b homes at bound =
    let there = at-place s.views id v nobody at in
    let m = get_or s.words i 0 in
    let near = subst (λ (p : Party). IsCloseTo p i m) there.1 (close s.words s.views id i there.0 b.1) in
    let sound = subst (λ (p : Party). p.live ≡ true → IsSound s.words (set s.views id (loaded p i m))) there.1
    (λ l. sound-loaded s.words s.views id i m there.0 l b.1) live in
    (loaded v i m, keeps, tt, rw (set-get_or s.words i 0) (b.0, sound), (refl, near))

pub looks : (n slots id : ℕ) (v : Party) (held : List (ℕ × ℕ))
    → Allows (IsSoundTable n) slots id (v, held) 0 (λ m. m) (λ m now. (now ≡ (v, held)) × (v.allot ≤ whole_allotment))
looks n slots id v held s b homes at bound =
    let there = at-place s.views id v nobody at in
    (v, keeps, tt, rw (set-get_or s.words 0 0, set_again s.views id v at) b, (refl, subst (λ (p : Party). p.allot ≤ whole_allotment) there.1 (allot-le s.words s.views id there.0 b.1)))

pub splits : (n id allot : ℕ) (given : List ℕ) (v : Party) → v.live ≡ true → IsPart n v allot given
    → Splits (IsSoundTable n) id v (kept_after_split v allot given) (split_off allot given)
splits n id allot given v live part s b at =
    let there = at-place s.views id v nobody at in (
      b.0,
      subst (λ (p : Party). p.live ≡ true → IsPart (length s.words) p allot given → IsSound s.words (set s.views id (kept_after_split p allot given) ++ split_off allot given ∷ [])) there.1
          (λ l q. sound-split s.words s.views id allot given there.0 l q b.1) live (rw b.0 part),
    )

-- nobody has anything
nothing : HasNothing nobody
nothing = record { allot = refl; shares = λ k. refl }

pub joins : (n id other : ℕ) (v w : Party) → v.live ≡ true
    → Joins (IsSoundTable n) id v other w (joined v w) nobody
joins n id other v w live s b at apart there =
    let one = at-place s.views id v nobody at in
    let two = at-place (set s.views id (joined v w)) other w nobody there in
    let low : other < length s.views = omega (arith, two.0, length-set s.views id (joined v w)) in
    let found : get_or s.views other nobody ≡ w = sym (get_or-set_other s.views id other (joined v w) nobody apart) ∙ two.1 in (
      b.0,
      subst (λ (q : Party). IsSound s.words (set (set s.views id (joined v q)) other nobody)) found
          (subst (λ (p : Party). p.live ≡ true → IsSound s.words (set (set s.views id (joined p (get_or s.views other nobody))) other nobody)) one.1
          (λ l. sound-joined s.words s.views id other nobody one.0 low (λ e. apart (sym e)) l nothing b.1) live),
    )
