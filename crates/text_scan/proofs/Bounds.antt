-- How many bytes reading a part takes, and parts up to an end, of which each takes one at least.
use Rattle.std.proofs.Common.{◌≡◌, ℕ, zero, suc, ◌+◌, ◌-◌, ◌<◌, ◌≤◌, Bool, true, false, List, [], ◌∷◌, ◌++◌, length, Result, Ok, Err, refl, sym, ap, ◌∙◌, ⊎_elim, arith, length-drop}
use Rattle.std.specs.Prelude.{IfOk}
use Rattle.std.proofs.lemmas.Bool.{cases_Bool}
use Rattle.std.proofs.lemmas.List.{append-nil}
use Rattle.text_scan.specs.Parts.{Read, ◌>>=◌, refused_as}
use Rattle.text_scan.specs.Reading.{Reading, left, past}
use Rattle.text_scan.specs.Until.{parts_within, parts_until}
use Rattle.text_scan.proofs.Parts.{with_parts, with_parts-none, with_parts-one}

-- where the part is read, it takes n bytes at least
abbrev pub Takes : {A F : Type 0} → ℕ → Reading → Read Reading F A → Type 0
Takes n r read = IfOk read (λ x. length (left x.1) + n ≤ length (left r))

-- one part, and then what takes none back
pub takes-then : {A B F : Type 0} (n : ℕ) (r : Reading) (read : Read Reading F A) (f : A × Reading → Read Reading F B) →
    Takes n r read → ((x : A × Reading) → Takes 0 x.1 (f x)) → Takes n r (read >>= f)
takes-then {B = B} {F = F} n r (Ok x) f first then = at (f x) (then x)
  where
    at : (read : Read Reading F B) → Takes 0 x.1 read → Takes n r read
    at (Ok y) more = omega (arith, first, more)
    at (Err refusal) more = tt
takes-then n r (Err refusal) f first then = tt

-- what takes a byte takes none back
pub takes_some : {A F : Type 0} (r : Reading) (read : Read Reading F A) → Takes 1 r read → Takes 0 r read
takes_some r (Ok x) takes = omega (arith, takes)
takes_some r (Err refusal) takes = tt

-- a part that is read behind what was passed over
pub takes_behind : {A F : Type 0} (r after : Reading) (read : Read Reading F A) → length (left after) ≤ length (left r) → Takes 1 after read → Takes 1 r read
takes_behind r after (Ok x) few takes = omega (arith, few, takes)
takes_behind r after (Err refusal) few takes = tt

-- an answer with what is left behind it, in other words
pub answer_takes : {A B F G : Type 0} (other : F → G) (answer : Result B F) (value : B → A) (r after : Reading) → length (left after) ≤ length (left r) →
    Takes 0 r (refused_as other answer >>= λ x. Ok (value x, after))
answer_takes other (Ok x) value r after few = omega (arith, few)
answer_takes other (Err refusal) value r after few = tt

-- after n more bytes so many fewer are left
pub left-past : (n : ℕ) (r : Reading) → length (left (past n r)) ≡ length (left r) - n
left-past n r = omega (arith, length-drop (r.place + n) r.text, length-drop r.place r.text)

module _ {A F : Type 0} (ended : Reading → Bool) (looked : Reading → Reading) (part : Reading → Read Reading F A)
    (takes : (r : Reading) → Takes 1 r (part (looked r))) where
  -- a part, and the parts behind it as they are read
  abbrev parts_behind : (Reading → Read Reading F (List A)) → Read Reading F A → Read Reading F (List A)
  parts_behind behind read = read >>= λ (one : A × Reading). behind one.1 >>= λ (more : List A × Reading). Ok (one.0 ∷ more.0, more.1)

  same_behind : (r : Reading) (f g : Reading → Read Reading F (List A)) (read : Read Reading F A) → Takes 1 r read → ((after : Reading) → length (left after) < length (left r) → f after ≡ g after) →
      parts_behind f read ≡ parts_behind g read
  same_behind r f g (Ok one) few same = ap (λ read. read >>= λ (more : List A × Reading). Ok (one.0 ∷ more.0, more.1)) (same one.1 (omega (arith, few)))
  same_behind r f g (Err refusal) few same = refl

  -- any bound above the number of bytes that are left reads the same
  pub same_parts : (n m : ℕ) (r : Reading) → length (left r) < n → length (left r) < m → parts_within ended looked part n r ≡ parts_within ended looked part m r
  unfolding parts_within
  same_parts zero m r under above = absurd (omega (arith, under))
  same_parts (suc n) zero r under above = absurd (omega (arith, above))
  same_parts (suc n) (suc m) r under above = ⊎_elim
      (λ (over : ended r ≡ true). rw over refl)
      (λ (more : ended r ≡ false). rw more (same_behind r (parts_within ended looked part n) (parts_within ended looked part m) (part (looked r)) (takes r)
      (λ after fewer. same_parts n m after (omega (arith, under, fewer)) (omega (arith, above, fewer)))))
      (cases_Bool (ended r))

  -- where no more parts follow
  pub parts-none : (r : Reading) → ended r ≡ true → parts_until ended looked part r ≡ Ok ([], looked r)
  unfolding parts_within
  parts-none r over = rw over refl

  -- where one more follows
  pub parts-one : (r : Reading) → ended r ≡ false → parts_until ended looked part r ≡ parts_behind (parts_until ended looked part) (part (looked r))
  unfolding parts_within
  parts-one r more = rw more (same_behind r (parts_within ended looked part (length (left r))) (parts_until ended looked part) (part (looked r)) (takes r)
      (λ after fewer. same_parts (length (left r)) (suc (length (left after))) after fewer (omega arith)))

  -- all parts together take none back
  pub parts_take : ((r : Reading) → length (left (looked r)) ≤ length (left r)) → (n : ℕ) (r : Reading) → Takes 0 r (parts_within ended looked part n r)
  unfolding parts_within
  parts_take back zero r = omega arith
  parts_take back (suc n) r = ⊎_elim
      (λ (over : ended r ≡ true). rw over (omega (arith, back r)))
      (λ (more : ended r ≡ false). rw more (takes-then 0 r (part (looked r)) _ (takes_some r (part (looked r)) (takes r))
      (λ one. takes-then 0 one.1 (parts_within ended looked part n one.1) _ (parts_take back n one.1) (λ rest. omega arith))))
      (cases_Bool (ended r))

  -- these parts were read since the start, and this is left
  pub record AreParts (start r : Reading) (before : List A) : Type 0 where
    pub whole : with_parts before (parts_until ended looked part r) ≡ parts_until ended looked part start

  pub no_parts : (start : Reading) → AreParts start start []
  no_parts start = record { whole = with_parts-none (parts_until ended looked part start) }

  -- one more
  pub one_more_part : {start r after : Reading} {before : List A} {one : A} → AreParts start r before → ended r ≡ false → part (looked r) ≡ Ok (one, after) → AreParts start after (before ++ one ∷ [])
  one_more_part {start} {r} {after} {before} {one} so_far more read =
      let next = parts-one r more ∙ ap (parts_behind (parts_until ended looked part)) read in
      record { whole = sym (with_parts-one before one (parts_until ended looked part after)) ∙ sym (ap (with_parts before) next) ∙ so_far.whole }

  -- the next is refused
  pub part_refused : {start r : Reading} {before : List A} {refusal : F} → AreParts start r before → ended r ≡ false → part (looked r) ≡ Err refusal → parts_until ended looked part start ≡ Err refusal
  part_refused {r = r} {before = before} so_far more refused =
      let next = parts-one r more ∙ ap (parts_behind (parts_until ended looked part)) refused in
      sym so_far.whole ∙ ap (with_parts before) next

  -- no more follow
  pub parts_ended : {start r : Reading} {before : List A} → AreParts start r before → ended r ≡ true → parts_until ended looked part start ≡ Ok (before, looked r)
  parts_ended {start} {r} {before} so_far over =
      sym so_far.whole ∙ ap (with_parts before) (parts-none r over) ∙ ap (λ (xs : List A). Ok (xs, looked r)) (append-nil before)
