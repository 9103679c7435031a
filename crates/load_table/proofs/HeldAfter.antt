-- What a share holds after a split and after a join.
use Rattle.std.proofs.Common.{◌≡◌, ℕ, ◌+◌, ◌-◌, ◌≤◌, List, ◌++◌, length, take, drop, ap, ◌∙◌, sym, arith}
use Rattle.std.proofs.Math.Seq.{take-append_seam}
use Rattle.atomic_table.specs.Seated.{TableId}
use Rattle.atomic_table.specs.Table.{Me}
use Rattle.load_core.specs.declared.party.Party.{Party}
use Rattle.load_core.specs.Parties.{whole_allotment, kept_after_split, joined, IsPart}
use Rattle.load_core.specs.Entries.{minus, plus}
use Rattle.load_core.proofs.Entries.{get_or-minus, get_or-plus, length-minus, length-plus}
use Rattle.load_table.specs.Holdings.{IsHolding}

-- a whole list was written over another
pub written : (n : ℕ) (xs ys : List ℕ) → n ≡ length xs → take n (xs ++ drop (length xs) ys) ≡ xs
written n xs ys e = ap (λ k. take k (xs ++ drop (length xs) ys)) e ∙ take-append_seam xs (drop (length xs) ys)

pub held-split : (table : TableId) (me : Me ℕ Party) (a allot : ℕ) (shares last given : List ℕ) → IsHolding table me a shares last → IsPart table.words me.0 allot given
    → IsHolding table (kept_after_split me.0 allot given, me.1) (a - allot) (minus shares given) last
held-split table me a allot shares last given h part = record {
  free = h.free;
  share = record {
    live = h.share.live;
    wide = record { shares = length-minus me.0.shares given ∙ h.share.wide.shares; last = h.share.wide.last };
    within = λ k. omega (arith, get_or-minus me.0.shares given k, part.rest k);
    whole = omega (arith, h.share.whole);
  };
  allotted = ap (λ k. k - allot) h.allotted;
  shared = ap (λ xs. minus xs given) h.shared;
  found = h.found;
}

-- two shares of a table have as many entries
pub same-long : (table : TableId) (me other : Me ℕ Party) (a b : ℕ) (shares last shares' last' : List ℕ) → IsHolding table me a shares last → IsHolding table other b shares' last'
    → length shares ≡ length shares'
same-long table me other a b shares last shares' last' h h' = ap length (sym h.shared) ∙ h.share.wide.shares ∙ sym h'.share.wide.shares ∙ ap length h'.shared

pub held-joined : (table : TableId) (me other : Me ℕ Party) (a b : ℕ) (shares last shares' last' : List ℕ) → IsHolding table me a shares last → IsHolding table other b shares' last'
    → (joined me.0 other.0).allot ≤ whole_allotment → IsHolding table (joined me.0 other.0, me.1) (a + b) (plus shares shares') last
held-joined table me other a b shares last shares' last' h h' most = record {
  free = h.free;
  share = record {
    live = h.share.live;
    wide = record { shares = length-plus me.0.shares other.0.shares (h.share.wide.shares ∙ sym h'.share.wide.shares) ∙ h.share.wide.shares; last = h.share.wide.last };
    within = λ k. omega (arith, get_or-plus me.0.shares other.0.shares k, h.share.within k, h'.share.within k);
    whole = most;
  };
  allotted = omega (arith, h.allotted, h'.allotted);
  shared = ap (λ xs. plus xs other.0.shares) h.shared ∙ ap (λ ys. plus shares ys) h'.shared;
  found = h.found;
}
