-- Each rectangle and each guide takes a byte of the text at least.
use Rattle.std.proofs.Common.{◌≡◌, ℕ, ◌+◌, ◌≤◌, true, false, List, [], ◌∷◌, length, refl, ⊎_elim, arith, ℤ, pos, neg_ℤ, Result, Ok, Err}
use Rattle.std.specs.Prelude.{codes}
use Rattle.std.specs.Str.{bytes_eq}
use Rattle.std.proofs.lemmas.Bool.{cases_Bool}
use Rattle.grid_graph.specs.Limits.{max_id}
use Rattle.text_scan.specs.Tokens.{Token}
use Rattle.text_scan.specs.Parts.{◌>>=◌, refused_as}
use Rattle.text_scan.specs.Reading.{Reading, left, tokens_left, first_number, is_next, past_blanks, past_token}
use Rattle.text_scan.specs.declared.number.Number.{Number}
use Rattle.text_scan.specs.declared.number_fault.NumberFault.{NumberFault}
use Rattle.text_scan.proofs.Bounds.{Takes, takes-then, takes_some, takes_behind, parts_take}
use Rattle.text_scan.proofs.Blanks.{past_blanks-left, past_token-takes}
use Rattle.text_scan.specs.Faults.{fault_place}
use Rattle.guide_text.specs.ReadGuides.{guide_token_at, guide_number_at, guide_mark_at, border_at, rect_at, guide_at, max_border}

token_takes : (r : Reading) → Takes 1 r (guide_token_at r)
token_takes r = at (tokens_left r) refl
  where
    at : (ts : List Token) → tokens_left r ≡ ts → Takes 1 r (guide_token_at r)
    at [] none = rw none tt
    at (t ∷ ts) first = let takes = past_token-takes r t ts first in rw first (rw first at takes)

number_answered : (answer : Result Number NumberFault) (r after : Reading) → length (left after) + 1 ≤ length (left r) → Takes 1 r (refused_as fault_place answer >>= λ number. Ok (number.value, after))
number_answered (Ok number) r after takes = takes
number_answered (Err fault) r after takes = tt

number_takes : (lo hi : ℤ) (r : Reading) → Takes 1 r (guide_number_at lo hi r)
number_takes lo hi r = at (tokens_left r) refl
  where
    at : (ts : List Token) → tokens_left r ≡ ts → Takes 1 r (guide_number_at lo hi r)
    at [] none = rw none tt
    at (t ∷ ts) first = number_answered (first_number lo hi r) r (past_token r) (past_token-takes r t ts first)

mark_takes : (mark : List ℕ) (r : Reading) → Takes 1 r (guide_mark_at mark r)
unfolding guide_mark_at
mark_takes mark r = takes-then 1 r _ _ (token_takes r) (λ a. ⊎_elim
    (λ (same : bytes_eq a.0.bytes mark ≡ true). rw same (omega arith))
    (λ (other : bytes_eq a.0.bytes mark ≡ false). rw other tt)
    (cases_Bool (bytes_eq a.0.bytes mark)))

border_takes : (r : Reading) → Takes 1 r (border_at r)
border_takes r = number_takes (neg_ℤ (pos max_border)) (pos max_border) r

rect_takes : (r : Reading) → Takes 1 r (rect_at r)
unfolding rect_at
rect_takes r =
    takes-then 1 r _ _ (border_takes r) (λ a.
    takes-then 0 a.1 _ _ (takes_some a.1 _ (border_takes a.1)) (λ b.
    takes-then 0 b.1 _ _ (takes_some b.1 _ (border_takes b.1)) (λ c.
    takes-then 0 c.1 _ _ (takes_some c.1 _ (border_takes c.1)) (λ d.
    takes-then 0 d.1 _ _ (takes_some d.1 _ (border_takes d.1)) (λ e. omega arith)))))

pub next_rect_takes : (r : Reading) → Takes 1 r (rect_at (past_blanks r))
next_rect_takes r = takes_behind r (past_blanks r) _ (past_blanks-left r) (rect_takes (past_blanks r))

guide_takes : (r : Reading) → Takes 1 r (guide_at r)
unfolding guide_at
guide_takes r =
    takes-then 1 r _ _ (token_takes r) (λ a.
    takes-then 0 a.1 _ _ (takes_some a.1 _ (number_takes (pos 0) (pos max_id) a.1)) (λ b.
    takes-then 0 b.1 _ _ (takes_some b.1 _ (mark_takes (codes "(") b.1)) (λ c.
    takes-then 0 c.1 _ _ (parts_take (is_next 41) past_blanks rect_at next_rect_takes past_blanks-left _ c.1) (λ d.
    takes-then 0 d.1 _ _ (takes_some d.1 _ (mark_takes (codes ")") d.1)) (λ e. omega arith)))))

pub next_guide_takes : (r : Reading) → Takes 1 r (guide_at (past_blanks r))
next_guide_takes r = takes_behind r (past_blanks r) _ (past_blanks-left r) (guide_takes (past_blanks r))
