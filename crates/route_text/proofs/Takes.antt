-- Each segment and each block takes a byte of the text at least.
use Rattle.std.proofs.Common.{◌≡◌, ℕ, true, false, List, [], ◌∷◌, refl, ⊎_elim, arith, ℤ, pos, neg_ℤ}
use Rattle.std.proofs.lemmas.Bool.{cases_Bool}
use Rattle.grid_graph.specs.Limits.{max_id, max_number}
use Rattle.text_scan.specs.Tokens.{Token}
use Rattle.text_scan.specs.Reading.{Reading, tokens_left, first_number, next_number, next_byte, is_next, past_blanks, past_token, past_number, past_byte}
use Rattle.text_scan.proofs.Bounds.{Takes, answer_takes, takes-then, takes_some, takes_behind, parts_take}
use Rattle.text_scan.proofs.Blanks.{past_blanks-left, past_byte-left, past_byte-takes, past_number-left, past_token-left, past_token-takes}
use Rattle.text_scan.specs.Faults.{fault_place}
use Rattle.route_text.specs.Blocks.{mark_at, coordinate_at, token_number_at, point_at, segment_at, begins_number, further_at, block_name_at, block_at}

mark_takes : (b : ℕ) (r : Reading) → Takes 1 r (mark_at b r)
mark_takes b r = ⊎_elim
    (λ (found : is_next b r ≡ true). rw found (past_byte-takes b r found))
    (λ (other : is_next b r ≡ false). rw other tt)
    (cases_Bool (is_next b r))

coordinate_takes : (r : Reading) → Takes 0 r (coordinate_at r)
coordinate_takes r = answer_takes fault_place (next_number (neg_ℤ (pos max_number)) (pos max_number) r) (λ z. z) r (past_number r) (past_number-left r)

token_number_takes : (lo hi : ℤ) (r : Reading) → Takes 0 r (token_number_at lo hi r)
token_number_takes lo hi r = answer_takes fault_place (first_number lo hi r) (λ number. number.value) r (past_token r) (past_token-left r)

point_takes : (r : Reading) → Takes 1 r (point_at r)
unfolding point_at
point_takes r =
    takes-then 1 r _ _ (mark_takes 40 r) (λ a.
    takes-then 0 a.1 _ _ (coordinate_takes a.1) (λ b.
    takes-then 0 b.1 _ _ (takes_some b.1 _ (mark_takes 44 b.1)) (λ c.
    takes-then 0 c.1 _ _ (coordinate_takes c.1) (λ d.
    takes-then 0 d.1 _ _ (takes_some d.1 _ (mark_takes 44 d.1)) (λ e.
    takes-then 0 e.1 _ _ (coordinate_takes e.1) (λ f.
    takes-then 0 f.1 _ _ (takes_some f.1 _ (mark_takes 41 f.1)) (λ g. omega arith)))))))

segment_takes : (r : Reading) → Takes 1 r (segment_at r)
unfolding segment_at
segment_takes r =
    takes-then 1 r _ _ (point_takes r) (λ a.
    takes-then 0 a.1 _ _ (takes_some a.1 _ (mark_takes 45 a.1)) (λ b.
    takes-then 0 b.1 _ _ (takes_some b.1 _ (point_takes b.1)) (λ c. omega arith)))

pub next_segment_takes : (r : Reading) → Takes 1 r (segment_at (past_byte 33 r))
next_segment_takes r = takes_behind r (past_byte 33 r) _ (past_byte-left 33 r) (segment_takes (past_byte 33 r))

further_takes : (r : Reading) → Takes 0 r (further_at r)
unfolding further_at
further_takes r = ⊎_elim
    (λ (follows : begins_number (next_byte r) ≡ true). rw follows
    (takes-then 0 r _ _ (token_number_takes (neg_ℤ (pos max_number)) (pos max_number) r) (λ a. omega arith)))
    (λ (other : begins_number (next_byte r) ≡ false). rw other (omega (arith, past_blanks-left r)))
    (cases_Bool (begins_number (next_byte r)))

name_takes : (r : Reading) → Takes 1 r (block_name_at r)
name_takes r = at (tokens_left r) refl
  where
    at : (ts : List Token) → tokens_left r ≡ ts → Takes 1 r (block_name_at r)
    at [] none = rw none tt
    at (t ∷ ts) first = let takes = past_token-takes r t ts first in rw first (rw first at takes)

block_takes : (r : Reading) → Takes 1 r (block_at r)
unfolding block_at
block_takes r =
    takes-then 1 r _ _ (name_takes r) (λ a.
    takes-then 0 a.1 _ _ (token_number_takes (pos 0) (pos max_id) a.1) (λ b.
    takes-then 0 b.1 _ _ (further_takes b.1) (λ c.
    takes-then 0 c.1 _ _ (parts_take (is_next 33) (past_byte 33) segment_at next_segment_takes (past_byte-left 33) _ c.1) (λ d. omega arith))))

pub next_block_takes : (r : Reading) → Takes 1 r (block_at (past_blanks r))
next_block_takes r = takes_behind r (past_blanks r) _ (past_blanks-left r) (block_takes (past_blanks r))
