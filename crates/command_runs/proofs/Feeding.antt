-- What is so between two pieces that a reader is fed.
use Rattle.std.proofs.Common.{◌≡◌, ◌+◌, ◌≤◌, ◌<◌, ℕ, List, [], ◌++◌, length, length-append, length-take, take, ◌-◌, ◌∙◌, Ok, Err, arith, refl, subst, append-nil}
use Rattle.std.proofs.KnownBytes.{Consumes-kept, Consumes-nil}
use Rattle.std.proofs.lemmas.List.{take-append-le}
use Rattle.gr_desk.specs.declared.port.Port.TheVariants.{In}
use Rattle.gr_desk.specs.Calls.{Reads}
use Rattle.gr_desk.specs.Runs.{Takes, TakesSome}
use Rattle.gr_desk.specs.Told.{Told}
use Rattle.gr_desk.proofs.Runs.{takes-then, takes-read}
use Rattle.ispd_reader.specs.declared.reader.Reader.{Reader}
use Rattle.ispd_reader.specs.Limits.{max_bytes}
use Rattle.ispd_reader.specs.Readers.{HasRead}
use Rattle.command_runs.specs.FedReaders.{IsFed}

-- the bytes that were read were fed, so many may still be read until there are too many, and no read failed
pub record IsFedSoFar (before after : Told) (reader : Reader) (left : ℕ) : Type 0 where
  pub fed : IsFed before after reader
  pub counted : length fed.bytes + left ≡ max_bytes + 1
  pub quiet : after.in_faults ≡ before.in_faults

takes-nothing : (a : Told) → Takes a a In []
takes-nothing a = record {
  taken = Consumes-nil (a.ports In).rest;
  only = refl;
  others = record { files = refl; ports = λ p other. refl };
  stray = record { kept = λ orderly. refl; stays = λ set. set };
  later = omega arith;
  still = refl;
}

-- before the first one
pub fed-nothing : (a : Told) (reader : Reader) → HasRead reader [] → IsFedSoFar a a reader (max_bytes + 1)
fed-nothing a reader read = record {
  fed = record { bytes = []; taken = takes-nothing a; read = read };
  counted = refl;
  quiet = refl;
}

-- one that was read and fed
pub fed-piece : {E : Type 0} (a b c : Told) (reader fed : Reader) (left count : ℕ) (room behind : List ℕ) → IsFedSoFar a b reader left
    → Reads {E = E} b c In (Ok count) room → count ≤ length room → count ≤ left
    → ((text : List ℕ) → HasRead reader text → HasRead fed (text ++ take count (room ++ behind))) → IsFedSoFar a c fed (left - count)
fed-piece a b c reader fed left count room behind before reads whole within feeds = record {
  fed = record {
    bytes = before.fed.bytes ++ take count room;
    taken = takes-then a b c In before.fed.bytes (take count room) before.fed.taken (takes-read b c In count room reads);
    read = rw (take-append-le count room behind whole) at (feeds before.fed.bytes before.fed.read);
  };
  counted = simp (length-append, length-take) (omega (arith, before.counted));
  quiet = reads.cause.quiet ∙ before.quiet;
}

-- one that was read, and at which memory was wanting
pub taken-piece : {E : Type 0} (a b c : Told) (reader : Reader) (left count : ℕ) (room : List ℕ) → IsFedSoFar a b reader left
    → Reads {E = E} b c In (Ok count) room → count ≤ left → TakesSome a c In (max_bytes + 1)
taken-piece a b c reader left count room before reads within = (
  before.fed.bytes ++ take count room,
  takes-then a b c In before.fed.bytes (take count room) before.fed.taken (takes-read b c In count room reads),
  simp (length-append, length-take) (omega (arith, before.counted)),
)

-- a read that fails takes nothing
takes-failed : {E : Type 0} (a b : Told) (e : E) (room : List ℕ) → Reads {E = E} a b In (Err e) room → Takes a b In []
takes-failed a b e room h = record {
  taken = Consumes-kept (a.ports In).rest (a.ports In).rest (b.ports In).rest [] (Consumes-nil (a.ports In).rest) h.bytes;
  only = h.only;
  others = h.others;
  stray = record { kept = h.stray.kept; stays = h.stray.stays };
  later = h.cause.later;
  still = h.still;
}

-- one that could not be read
pub taken-failed : {E : Type 0} (a b c : Told) (reader : Reader) (left : ℕ) (e : E) (room : List ℕ) → IsFedSoFar a b reader left → 0 < left
    → Reads {E = E} b c In (Err e) room → TakesSome a c In max_bytes
taken-failed a b c reader left e room before some reads = (
  before.fed.bytes ++ [],
  takes-then a b c In before.fed.bytes [] before.fed.taken (takes-failed b c e room reads),
  simp length-append (omega (arith, before.counted, some)),
)

-- the end was read
pub fed-ended : {E : Type 0} (a b c : Told) (reader : Reader) (left count : ℕ) (room : List ℕ) → IsFedSoFar a b reader left → count ≡ 0
    → Reads {E = E} b c In (Ok count) room → IsFed a c reader
fed-ended a b c reader left count room before none reads = record {
  bytes = before.fed.bytes;
  taken = subst (λ bytes. Takes a c In bytes) (append-nil before.fed.bytes) (takes-then a b c In before.fed.bytes [] before.fed.taken (rw none at (takes-read b c In count room reads)));
  read = before.fed.read;
}
