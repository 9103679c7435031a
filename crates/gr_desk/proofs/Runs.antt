-- Calls after one another: what two runs make together, and what one call is as a run.
use Rattle.std.proofs.Common.{◌≡◌, ◌≤◌, ◌+◌, ◌-◌, List, [], ℕ, ◌++◌, ◌∙◌, refl, ap, sym, append_assoc, Some, None, Ok, Bool, take, drop, length, arith, length-drop}
use Rattle.std.proofs.Math.Seq.{take-add}
use Rattle.std.proofs.lemmas.List.{take_all, append-nil}
use Rattle.std.specs.declared.option.Option.{Option}
use Rattle.std.specs.Io.KnownBytes.{Appends, Consumes, Keeps}
use Rattle.gr_desk.specs.declared.port.Port.{Port}
use Rattle.gr_desk.specs.Told.{Told, PortTold}
use Rattle.gr_desk.specs.Calls.{KeepsOthers, Strays, IsOrderlyRead, IsOrderlyWrite, Reads, Writes}
use Rattle.gr_desk.specs.Runs.{MayStray, Takes, Adds}

-- bytes appended in two turns
appends-then : (a b c : Option (List ℕ)) (xs ys : List ℕ) → Appends a b xs → Appends b c ys → Appends a c (xs ++ ys)
appends-then None b c xs ys h k = tt
appends-then (Some x) None c xs ys h k = absurd h
appends-then (Some x) (Some y) None xs ys h k = absurd k
appends-then (Some x) (Some y) (Some z) xs ys h k = k ∙ ap (λ l. l ++ ys) h ∙ append_assoc x xs ys

-- bytes consumed in two turns
consumes-then : (a b c : Option (List ℕ)) (xs ys : List ℕ) → Consumes a b xs → Consumes b c ys → Consumes a c (xs ++ ys)
consumes-then None b c xs ys h k = tt
consumes-then (Some x) None c xs ys h k = absurd h
consumes-then (Some x) (Some y) None xs ys h k = absurd k
consumes-then (Some x) (Some y) (Some z) xs ys h k = h ∙ ap (λ l. xs ++ l) k ∙ sym (append_assoc xs ys z)

-- known bytes that stay are appended to by nothing
appends-nothing : (a b : Option (List ℕ)) → Keeps a b → Appends a b []
appends-nothing None b k = tt
appends-nothing (Some x) None k = absurd k
appends-nothing (Some x) (Some y) k = k ∙ sym (append-nil x)

keeps_itself : (a : Option (List ℕ)) → Keeps a a
keeps_itself None = tt
keeps_itself (Some x) = refl

-- what no call at a port changes stays over two runs
keeps_others-then : (a b c : Told) (port : Port) → KeepsOthers a b port → KeepsOthers b c port → KeepsOthers a c port
keeps_others-then a b c port h k = record {
  files = k.files ∙ h.files;
  ports = λ p other. k.ports p other ∙ h.ports p other;
}

-- the flag over one call, and over two runs whose calls are in order together
may_stray-call : {P : Type 0} {a b : Option Bool} → Strays P a b → MayStray P a b
may_stray-call h = record { kept = h.kept; stays = h.stays }

may_stray-then : (P Q : Type 0) (a b c : Option Bool) → (P → Q) → MayStray P a b → MayStray Q b c → MayStray P a c
may_stray-then P Q a b c same h k = record {
  kept = λ orderly. k.kept (same orderly) ∙ h.kept orderly;
  stays = λ set. k.stays (h.stays set);
}

-- two runs of reads
pub takes-then : (a b c : Told) (port : Port) (xs ys : List ℕ) → Takes a b port xs → Takes b c port ys → Takes a c port (xs ++ ys)
takes-then a b c port xs ys h k = record {
  taken = consumes-then _ _ _ xs ys h.taken k.taken;
  only = k.only ∙ ap (λ (p : PortTold). record p { rest = (c.ports port).rest }) h.only;
  others = keeps_others-then a b c port h.others k.others;
  stray = may_stray-then (IsOrderlyRead a port) (IsOrderlyRead b port) _ _ _ (λ (orderly : IsOrderlyRead a port). record { input = orderly.input; ready = ap (λ (p : PortTold). p.state) h.only ∙ orderly.ready }) h.stray k.stray;
  later = omega (arith, h.later, k.later);
  still = k.still ∙ h.still;
}

-- a read that gave n bytes
pub takes-read : {E : Type 0} (a b : Told) (port : Port) (n : ℕ) (buf : List ℕ) → Reads {E = E} a b port (Ok n) buf → Takes a b port (take n buf)
takes-read a b port n buf h = record {
  taken = h.bytes.0;
  only = h.only;
  others = h.others;
  stray = may_stray-call h.stray;
  later = h.cause.later;
  still = h.still;
}

-- no write
pub adds-refl : (t : Told) (port : Port) → Adds t t port []
adds-refl t port = record {
  added = appends-nothing _ _ (keeps_itself (t.ports port).written);
  only = refl;
  others = record { files = refl; ports = λ p other. refl };
  stray = record { kept = λ orderly. refl; stays = λ set. set };
  later = omega arith;
  still = refl;
}

-- two runs of writes
pub adds-then : (a b c : Told) (port : Port) (xs ys : List ℕ) → Adds a b port xs → Adds b c port ys → Adds a c port (xs ++ ys)
adds-then a b c port xs ys h k = record {
  added = appends-then _ _ _ xs ys h.added k.added;
  only = k.only ∙ ap (λ (p : PortTold). record p { written = (c.ports port).written }) h.only;
  others = keeps_others-then a b c port h.others k.others;
  stray = may_stray-then (IsOrderlyWrite a port) (IsOrderlyWrite b port) _ _ _ (λ (orderly : IsOrderlyWrite a port). λ other. ((orderly other).0, ap (λ (p : PortTold). p.state) h.only ∙ (orderly other).1)) h.stray k.stray;
  later = omega (arith, h.later, k.later);
  still = k.still ∙ h.still;
}

-- a write that took n bytes
pub adds-write : {E : Type 0} (a b : Told) (port : Port) (n : ℕ) (bytes : List ℕ) → Writes {E = E} a b port (Ok n) bytes → Adds a b port (take n bytes)
adds-write a b port n bytes h = record {
  added = h.appended;
  only = h.only;
  others = h.others;
  stray = may_stray-call h.stray;
  later = h.cause.later;
  still = h.still;
}

-- what one more write of n bytes makes of the bytes up to `at`
pub one-more : (at n : ℕ) (bs : List ℕ) → take at bs ++ take n (take (length bs - at) (drop at bs)) ≡ take (at + n) bs
one-more at n bs =
    let rest : length (drop at bs) ≤ length bs - at = omega (arith, length-drop at bs) in
    ap (λ l. take at bs ++ take n l) (take_all (length bs - at) (drop at bs) rest) ∙ sym (take-add at n bs)
