-- What is put with a pen in turns, and what is written of it.
use Rattle.std.proofs.Common.{◌≡◌, ℕ, ◌+◌, ◌<◌, ◌≤◌, true, false, List, [], ◌∷◌, ◌++◌, length, take, drop, get_or, flat_map, refl, sym, ◌∙◌, ap, subst, append_assoc, Ok, Err, arith}
use Rattle.std.specs.Prelude.{Result, OnOk, OnErr, is_err}
use Rattle.std.proofs.lemmas.List.{append-nil, take-append-drop, take_more, take_all}
use Rattle.std.proofs.lemmas.Grind.{flat_map-append}
use Rattle.std.proofs.Math.Seq.{take-append_seam, take-append-add}
use Rattle.gr_desk.specs.declared.port.Port.{Port}
use Rattle.gr_desk.specs.Told.{Told}
use Rattle.gr_desk.specs.Runs.{Adds, AddsPart}
use Rattle.gr_desk.specs.Causes.{Rose}
use Rattle.gr_desk.proofs.Runs.{adds-refl, adds-then}
use Rattle.gr_desk.specs.Pens.{PenTold, IsPut, IsHeldBack, IsPartlyPut, Puts, Ends}

-- nothing is put
pub puts-refl : (p : PenTold) → Puts p p []
puts-refl p = record { port = refl; follows = λ start text put. rw append-nil put }

-- with a new pen nothing was put
pub put-nothing : (start : Told) (p : PenTold) → p.told ≡ start → p.held ≡ [] → p.failed ≡ false → IsPut start p []
put-nothing start p told empty well = (
  λ _. ([], rw told (adds-refl start p.port), rw empty refl, ap (λ (t : Told). t.out_faults) told),
  λ (failed : p.failed ≡ true). cc,
)

-- bytes are put in two turns
pub puts-then : {a b c : PenTold} {xs ys : List ℕ} → Puts a b xs → Puts b c ys → Puts a c (xs ++ ys)
puts-then {a = a} {b = b} {c = c} {xs = xs} {ys = ys} h k = record {
  port = k.port ∙ h.port;
  follows = λ start text put. subst (IsPut start c) (append_assoc text xs ys) (k.follows start (text ++ xs) (h.follows start text put));
}

-- a loop puts the text of one more element
pub puts-more : {A : Type 0} {a b c : PenTold} (text : A → List ℕ) (ps : List A) (i : ℕ) (d : A) → i < length ps →
    Puts a b (flat_map text (take i ps)) → Puts b c (text (get_or ps i d)) → Puts a c (flat_map text (take (i + 1) ps))
puts-more {a = a} {b = b} {c = c} text ps i d below before one =
    let more : flat_map text (take (i + 1) ps) ≡ flat_map text (take i ps) ++ text (get_or ps i d) =
    ap (flat_map text) (take_more ps i d below) ∙ flat_map-append text (take i ps) (get_or ps i d ∷ [])
    ∙ ap (λ last. flat_map text (take i ps) ++ last) (append-nil (text (get_or ps i d)))
    in
    rw more (puts-then before one)

-- a loop has put the text of all elements
pub puts-whole : {A : Type 0} {a b : PenTold} (text : A → List ℕ) (ps : List A) (i : ℕ) → length ps ≤ i → Puts a b (flat_map text (take i ps)) → Puts a b (flat_map text ps)
puts-whole {a = a} {b = b} text ps i whole puts = subst (λ qs. Puts a b (flat_map text qs)) (take_all i ps whole) puts

-- a count that rose since later rose since earlier
pub rose-earlier : (a b c : ℕ) → a ≤ b → Rose b c → Rose a c
rose-earlier a b c early rose = omega (arith, early, rose)

-- what is cut off stays so, whatever is put behind it
cut_off-more : (start : Told) (p q : PenTold) (text bytes : List ℕ) → q.port ≡ p.port → q.told ≡ p.told → IsPartlyPut start p text → IsPartlyPut start q (text ++ bytes)
cut_off-more start p q text bytes same_port same_told cut = (
  cut.0,
  cut.1 ++ bytes,
  rw (same_port, same_told) cut.2,
  ap (λ l. l ++ bytes) cut.3 ∙ append_assoc cut.0 cut.1 bytes,
  rw same_told cut.4,
)

-- bytes are held back behind others
pub puts-held : (p q : PenTold) (bytes : List ℕ) → q ≡ record p { held = p.held ++ bytes } → Puts p q bytes
puts-held p q bytes is = rw is (record {
  port = refl;
  follows = λ start text put. (
    λ well. let h = put.0 well in (h.0, h.1, ap (λ l. l ++ bytes) h.2 ∙ append_assoc h.0 p.held bytes, h.3),
    λ failed. cut_off-more start p (record p { held = p.held ++ bytes }) text bytes refl refl (put.1 failed),
  );
})

-- after a failure bytes go nowhere
pub puts-nowhere : (p q : PenTold) (bytes : List ℕ) → p.failed ≡ true → q.failed ≡ true → q.port ≡ p.port → q.told ≡ p.told → Puts p q bytes
puts-nowhere p q bytes failed still_failed same_port same_told = record {
  port = same_port;
  follows = λ start text put. (
    λ (well : q.failed ≡ false). cc,
    λ _. cut_off-more start p q text bytes same_port same_told (put.1 failed),
  );
}

-- what is written with nothing before it
pub ends-written_at_once : {T E : Type 0} (start now : Told) (port : Port) (text : List ℕ) (r : Result T E) → OnOk r (Adds start now port text) → OnErr r (AddsPart start now port text)
    → OnErr r (Rose start.out_faults now.out_faults) → OnOk r (now.out_faults ≡ start.out_faults) → Ends start now port text r
ends-written_at_once start now port text (Ok x) all part cause quiet = record { all = all; part = tt; cause = tt; quiet = quiet }
ends-written_at_once start now port text (Err e) all part cause quiet = record { all = tt; part = (part.0, part.2); cause = cause; quiet = tt }

-- what a text that is written behind another one makes of both
pub ends-behind : {T E : Type 0} (start mid now : Told) (port : Port) (out rest : List ℕ) (r : Result T E) → Adds start mid port out → mid.out_faults ≡ start.out_faults → Ends mid now port rest r → Ends start now port (out ++ rest) r
ends-behind start mid now port out rest (Ok x) before same ends = record {
  all = adds-then start mid now port out rest before ends.all;
  part = ends.part;
  cause = ends.cause;
  quiet = ends.quiet ∙ same;
}
ends-behind start mid now port out rest (Err e) before same ends = record {
  all = ends.all;
  part = (length out + ends.part.0, rw take-append-add (adds-then start mid now port out (take ends.part.0 rest) before ends.part.1));
  cause = rose-earlier _ _ _ before.later ends.cause;
  quiet = ends.quiet;
}

ends-written : {T E : Type 0} (start : Told) (p q : PenTold) (text bytes : List ℕ) (r : Result T E) → q.port ≡ p.port → q.failed ≡ is_err r → q.held ≡ [] → IsHeldBack start p text → Ends p.told q.told p.port (p.held ++ bytes) r → IsPut start q (text ++ bytes)
ends-written start p q text bytes (Ok x) same_port failed empty back ends =
    let all = adds-then start p.told q.told p.port back.0 (p.held ++ bytes) back.1 ends.all in (
      λ _. (text ++ bytes, rw same_port (subst (λ l. Adds start q.told p.port l) (sym (append_assoc back.0 p.held bytes) ∙ ap (λ l. l ++ bytes) (sym back.2)) all), rw empty (sym (append-nil (text ++ bytes))), ends.quiet ∙ back.3),
      λ (broken : q.failed ≡ true). cc,
    )
ends-written start p q text bytes (Err e) same_port failed empty back ends =
    let whole : text ++ bytes ≡ back.0 ++ (p.held ++ bytes) = ap (λ l. l ++ bytes) back.2 ∙ append_assoc back.0 p.held bytes in
    let n = ends.part.0 in (
      λ (well : q.failed ≡ false). cc,
      λ _. (
        back.0 ++ take n (p.held ++ bytes),
        drop n (p.held ++ bytes),
        rw same_port (adds-then start p.told q.told p.port back.0 (take n (p.held ++ bytes)) back.1 ends.part.1),
        whole ∙ ap (λ l. back.0 ++ l) (sym (take-append-drop n (p.held ++ bytes))) ∙ sym (append_assoc back.0 (take n (p.held ++ bytes)) (drop n (p.held ++ bytes))),
        rose-earlier _ _ _ back.1.later ends.cause,
      ),
    )

-- bytes are written, and nothing is held back any more
pub puts-written : {T E : Type 0} (p q : PenTold) (bytes : List ℕ) (r : Result T E) → p.failed ≡ false → q.port ≡ p.port → q.failed ≡ is_err r → q.held ≡ [] → Ends p.told q.told p.port (p.held ++ bytes) r → Puts p q bytes
puts-written p q bytes r well same_port failed empty ends = record {
  port = same_port;
  follows = λ start text put. ends-written start p q text bytes r same_port failed empty (put.0 well) ends;
}

-- a text that was cut off ends with a failure
pub ends-cut_off : {T E : Type 0} (start : Told) (p : PenTold) (text : List ℕ) (e : E) → IsPartlyPut start p text → Ends {T = T} start p.told p.port text (Err e)
ends-cut_off start p text e cut = record {
  all = tt;
  part = (length cut.0, subst (Adds start p.told p.port) (sym (ap (take (length cut.0)) cut.3 ∙ take-append_seam cut.0 cut.1)) cut.2);
  cause = cut.4;
  quiet = tt;
}

-- a text that was put with a new pen ends as the pen's last write does
pub ends-put : {T E : Type 0} (start now : Told) (port : Port) (new full : PenTold) (text : List ℕ) (r : Result T E) → new.told ≡ start → new.port ≡ port → new.held ≡ [] → new.failed ≡ false → Puts new full text →
    ((from : Told) (whole : List ℕ) → IsPut from full whole → Ends from now full.port whole r) → Ends start now port text r
ends-put start now port new full text r told same_port empty well puts finish =
    rw (← same_port, ← puts.port) (finish start text (puts.follows start [] (put-nothing start new told empty well)))
