use Rattle.std.proofs.Common.{ℕ, ◌<◌, ◌+◌, List, ◌∷◌, length, drop, get_or, ◌∙◌, ap, sym, subst, add-one, drop-cons}
use Rattle.std.proofs.lemmas.List.{drop_all}
use Rattle.gr_desk.specs.Pens.{PenTold, Puts, pen_told}
use Rattle.gr_desk.proofs.Pens.{puts-refl, puts-then}
use Rattle.congestion_picture.specs.Heads.{allowed_byte, escaped_behind, escaped_byte}
use Rattle.congestion_picture.proofs.head.put_escaped.Goals as goal

-- a byte is put, and then those behind it
byte_first : {a b c : PenTold} (before last : ℕ) (name : List ℕ) (i d : ℕ) → i < length name → Puts a b (escaped_byte (allowed_byte before last (get_or name i d))) →
    Puts b c (escaped_behind last (get_or name i d) (drop (i + 1) name)) → Puts a c (escaped_behind before last (drop i name))
byte_first {a = a} {c = c} before last name i d below one others =
    let left = drop-cons name i d below ∙ ap (λ rest. get_or name i d ∷ rest) (ap (λ n. drop n name) (sym (add-one i))) in
    subst (λ bytes. Puts a c (escaped_behind before last bytes)) (sym left) (puts-then one others)

pub loop-byte-preserved : goal.loop-byte-preserved
loop-byte-preserved g c = record {
  same_desk = c.put_escaped_byte.ensures.same_desk ∙ c.loop-byte.invariant.same_desk;
  puts = λ later others. c.loop-byte.invariant.puts later (byte_first c.loop-byte.before c.loop-byte.last c.args.name.now c.loop-byte.byte-index _ c.loop-byte-test.true (rw c.byte_behind.ensures.value at c.put_escaped_byte.ensures.puts) others);
}

pub returns-clause-puts : goal.returns-clause-puts
returns-clause-puts g c =
    let none = drop_all c.loop-byte.byte-index c.args.name.now c.loop-byte-test.false in
    c.loop-byte.invariant.puts _ (rw none (puts-refl (pen_told g.D.Desk.told c.loop-byte.pen)))
