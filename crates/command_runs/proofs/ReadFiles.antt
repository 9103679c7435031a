-- Files that are read one after another.
use Rattle.std.proofs.Common.{◌≡◌, ◌≢◌, ◌<◌, ◌≤◌, ◌+◌, ℕ, List, [], ◌∷◌, ◌++◌, length, Contains, Some, None, Ok, Err, IsOk, IsErr, IsErrAnd, true, false, refl, sym, ◌∙◌, ap, subst, arith, lit<, lt-ltb, length-append, inl, inr}
use Rattle.std.specs.Prelude.{IsTrue, Option, option_map, Result, is_err}
use Rattle.std.specs.Io.KnownBytes.{Consumes}
use Rattle.gr_desk.specs.declared.port.Port.{Port}
use Rattle.gr_desk.specs.declared.port.Port.TheVariants.{In, RoutesIn, CertIn, EditsIn, RoutesOut, CertOut, DesignOut, GuideOut, MapOut, Report}
use Rattle.gr_desk.specs.declared.state.State.{State}
use Rattle.gr_desk.specs.declared.state.State.TheVariants.{Ready, Refused}
use Rattle.gr_desk.specs.Calls.{Opens, IsOrderlyRead}
use Rattle.gr_desk.specs.Ports.{is_input}
use Rattle.gr_desk.specs.Runs.{Takes}
use Rattle.gr_desk.specs.Told.{Told, PortTold}
use Rattle.grid_base.proofs.Lists.{Contains-rest}
use Rattle.command_runs.specs.declared.refusal.Refusal.{Refusal}
use Rattle.command_runs.specs.declared.refusal.Refusal.TheVariants.{Unread, NoMemory}
use Rattle.ispd_reader.specs.Limits.{max_bytes}
use Rattle.command_runs.specs.Refusals.{AreUnopened, IsAcceptedAt, IsRefusedAt, IsCause, IsCauseAt}
use Rattle.command_runs.specs.Sources.{Source, IfTold, ports_of, AreOrderlyOpens}
use Rattle.command_runs.specs.Steps.{IsRefusedFor, OnlyReads, ReadsFile, ReadsSources, too_long_at}
use Rattle.command_runs.proofs.Causes.{accepted-both, accepted-since, cause-alone, cause_at-of_text, cause-behind, cause-early, cause-read, cause-unbegun}
use Rattle.command_runs.proofs.Bytes.{has-either}
use Rattle.command_runs.proofs.Traces.{only_of, ports-first, ports-later, ports-either}

-- a step that does nothing
pub reads-nothing : (sources : List Source) (a : Told) → OnlyReads sources a a
reads-nothing sources a = record {
  files = refl;
  inputs = λ p at. refl;
  others = λ p apart. refl;
  in_order = λ _. refl;
  later = omega arith;
  still = refl;
}

-- the ports of the first files are none of those behind them
abbrev pub AreApart : List Source → List Source → Type 0
AreApart first later = (p : Port) → Contains (ports_of first) p → ¬ Contains (ports_of later) p

-- the files behind those that were read are unopened
unopened-after : (first later : List Source) (a b : Told) → AreApart first later → OnlyReads first a b → AreUnopened later a b
unopened-after first later a b apart reads p at = reads.others p (λ here. apart p here at)

-- what the desk expects of unopened files stays
opens-after : (later : List Source) (a b : Told) → AreUnopened later a b → AreOrderlyOpens a later → AreOrderlyOpens b later
opens-after [] a b kept opens = tt
opens-after (t ∷ later) a b kept opens =
    let same : b.ports t.port ≡ a.ports t.port = kept t.port (0, omega arith, refl) in (
      record {
        input = opens.0.input;
        fresh = ap (λ (p : PortTold). p.state) same ∙ opens.0.fresh;
        expected = ap (λ (p : PortTold). p.expected) same ∙ opens.0.expected;
      },
      opens-after later a b (λ p at. kept p (Contains-rest t.port (ports_of later) p at)) opens.1,
    )

opens-parts : (first later : List Source) (a : Told) → AreOrderlyOpens a (first ++ later) → AreOrderlyOpens a first × AreOrderlyOpens a later
opens-parts [] later a opens = (tt, opens)
opens-parts (s ∷ first) later a opens = let parts = opens-parts first later a opens.1 in ((opens.0, parts.0), parts.1)

-- files, and then others at other ports
reads-then : (first later : List Source) (a b c : Told) → AreApart first later → OnlyReads first a b → OnlyReads later b c → OnlyReads (first ++ later) a c
reads-then first later a b c apart reads more =
    let unopened : AreUnopened later a b = unopened-after first later a b apart reads in
    record {
      files = more.files ∙ reads.files;
      inputs = λ p at. elim (ports-either first later p at) [
        | inl in_first ↦
            let same : c.ports p ≡ b.ports p = more.others p (apart p in_first) in
            rw same (reads.inputs p in_first)
        | inr in_later ↦
            subst (λ (x : PortTold). c.ports p ≡ record x { rest = (c.ports p).rest; state = (c.ports p).state }) (unopened p in_later) (more.inputs p in_later)
      ];
      others = λ p unread. more.others p (λ at. unread (ports-later first later p at)) ∙ reads.others p (λ at. unread (ports-first first later p at));
      in_order = λ orderly.
          let parts = opens-parts first later a orderly in
          more.in_order (opens-after later a b unopened parts.1) ∙ reads.in_order parts.0;
      later = omega (arith, reads.later, more.later);
      still = more.still ∙ reads.still;
    }

-- ---- one file

-- a port at which what is left and the state are whatever they are now
as_read : (x y : PortTold) (rest : Option (List ℕ)) (state : Option State) → y ≡ record x { rest = rest; state = state } → y ≡ record x { rest = y.rest; state = y.state }
as_read x y rest state h = rw h refl

-- an open that failed read nothing
pub reads-open_failed : {T E : Type 0} (a b : Told) (port : Port) (name : List ℕ) (r : Result T E) → Opens a b port name r → IsErr r → OnlyReads (record { port = port; name = name } ∷ []) a b
reads-open_failed a b port name (Ok v) opens failed = cc
reads-open_failed a b port name (Err e) opens failed = record {
  files = opens.others.files;
  inputs = λ p at. subst (λ (q : Port). b.ports q ≡ record (a.ports q) { rest = (b.ports q).rest; state = (b.ports q).state }) (sym (only_of p port at))
      (as_read (a.ports port) (b.ports port) (a.ports port).rest (option_map (λ (_ : State). Refused) (a.ports port).state) opens.err);
  others = λ p apart. opens.others.ports p (λ is. apart (0, lit< tt, sym is));
  in_order = λ orderly. opens.stray.kept orderly.0;
  later = opens.cause.later;
  still = opens.still;
}

-- a file that was opened, and of which some bytes were read
pub reads-taken : {T E : Type 0} (a b c : Told) (port : Port) (name bytes : List ℕ) (r : Result T E) → Opens a b port name r → IsOk r → Takes b c port bytes → OnlyReads (record { port = port; name = name } ∷ []) a c
reads-taken a b c port name bytes (Err e) opens done takes = cc
reads-taken a b c port name bytes (Ok v) opens done takes =
    let read : c.ports port ≡ record (a.ports port) { rest = (c.ports port).rest; state = option_map (λ (_ : State). Ready) (a.ports port).state } =
    subst (λ (x : PortTold). c.ports port ≡ record x { rest = (c.ports port).rest }) opens.ok takes.only in
    record {
      files = takes.others.files ∙ opens.others.files;
      inputs = λ p at. subst (λ (q : Port). c.ports q ≡ record (a.ports q) { rest = (c.ports q).rest; state = (c.ports q).state }) (sym (only_of p port at))
          (as_read (a.ports port) (c.ports port) (c.ports port).rest (option_map (λ (_ : State). Ready) (a.ports port).state) read);
      others = λ p apart.
          let other : p ≢ port = λ is. apart (0, lit< tt, sym is) in
          takes.others.ports p other ∙ opens.others.ports p other;
      in_order = λ orderly.
          let ready : IsOrderlyRead b port = record {
            input = orderly.0.input;
            ready = ap (λ (x : PortTold). x.state) opens.ok ∙ ap (option_map (λ (_ : State). Ready)) orderly.0.fresh;
          } in
          takes.stray.kept ready ∙ opens.stray.kept orderly.0;
      later = omega (arith, opens.cause.later, takes.later);
      still = takes.still ∙ opens.still;
    }

-- the bytes that were read are from the front of those under the name
longer : (x : List ℕ) (rest : Option (List ℕ)) (bytes : List ℕ) → Consumes (Some x) rest bytes → length bytes ≤ length x
longer x None bytes h = absurd h
longer x (Some y) bytes h = let long = ap length h ∙ length-append bytes y in omega (arith, long)

pub taken_of_file : {T E : Type 0} (a b c : Told) (port : Port) (name bytes under : List ℕ) (r : Result T E) → Opens a b port name r → IsOk r → Takes b c port bytes
    → a.files name ≡ Some under → length bytes ≤ length under
taken_of_file a b c port name bytes under (Err e) opens done takes told = cc
taken_of_file a b c port name bytes under (Ok v) opens done takes told =
    let rest : (b.ports port).rest ≡ Some under = ap (λ (x : PortTold). x.rest) opens.ok ∙ told in
    longer under (c.ports port).rest bytes (subst (λ (x : Option (List ℕ)). Consumes x (c.ports port).rest bytes) rest takes.taken)

-- a text of too many bytes is refused for that
too_long-refused : (port : Port) (text : List ℕ) → IsTrue (is_input port) → max_bytes < length text → IsRefusedAt port text (too_long_at port)
too_long-refused In text input long = rw (lt-ltb max_bytes (length text) long) refl
too_long-refused RoutesIn text input long = rw (lt-ltb max_bytes (length text) long) refl
too_long-refused CertIn text input long = rw (lt-ltb max_bytes (length text) long) refl
too_long-refused EditsIn text input long = rw (lt-ltb max_bytes (length text) long) refl
too_long-refused RoutesOut text input long = cc
too_long-refused CertOut text input long = cc
too_long-refused DesignOut text input long = cc
too_long-refused GuideOut text input long = cc
too_long-refused MapOut text input long = cc
too_long-refused Report text input long = cc

too_long-cause : (port : Port) (name text : List ℕ) (a b : Told) → IsTrue (is_input port) → max_bytes < length text
    → IfTold a.files name (λ told. max_bytes < length told) → IsCauseAt (record { port = port; name = name }) a b (too_long_at port)
too_long-cause In name text a b input long told = has-either a.files name (λ bytes. IsRefusedAt In bytes (too_long_at In)) text
    (too_long-refused In text input long) (λ bytes under. too_long-refused In bytes input (told bytes under))
too_long-cause RoutesIn name text a b input long told = has-either a.files name (λ bytes. IsRefusedAt RoutesIn bytes (too_long_at RoutesIn))
    text (too_long-refused RoutesIn text input long) (λ bytes under. too_long-refused RoutesIn bytes input (told bytes under))
too_long-cause CertIn name text a b input long told = has-either a.files name (λ bytes. IsRefusedAt CertIn bytes (too_long_at CertIn)) text
    (too_long-refused CertIn text input long) (λ bytes under. too_long-refused CertIn bytes input (told bytes under))
too_long-cause EditsIn name text a b input long told = has-either a.files name (λ bytes. IsRefusedAt EditsIn bytes (too_long_at EditsIn)) text
    (too_long-refused EditsIn text input long) (λ bytes under. too_long-refused EditsIn bytes input (told bytes under))
too_long-cause RoutesOut name text a b input long told = cc
too_long-cause CertOut name text a b input long told = cc
too_long-cause DesignOut name text a b input long told = cc
too_long-cause GuideOut name text a b input long told = cc
too_long-cause MapOut name text a b input long told = cc
too_long-cause Report name text a b input long told = cc

-- ---- one file is read

-- an open that failed
pub file-unopened : {T E U : Type 0} (a b : Told) (port : Port) (name : List ℕ) (r : Result T E) → Opens a b port name r → is_err r ≡ true
    → ReadsFile {T = U} (record { port = port; name = name }) a b (Err Unread)
file-unopened a b port name (Ok v) opens failed = cc
file-unopened a b port name (Err e) opens failed = record {
  refused = λ q is. let same : Unread ≡ q = cc in subst (IsCauseAt (record { port = port; name = name }) a b) same opens.cause.failed;
  reads = reads-open_failed a b port name (Err e) opens refl;
  quiet = λ not. absurd (not refl);
}

-- a file that was read whole
pub file-read : {T E U : Type 0} (a b c : Told) (port : Port) (name bytes : List ℕ) (r : Result T E) (u : U) → Opens a b port name r → is_err r ≡ false → Takes b c port bytes
    → c.in_faults ≡ b.in_faults → ReadsFile {T = U} (record { port = port; name = name }) a c (Ok u)
file-read a b c port name bytes (Err e) u opens done takes calm = cc
file-read a b c port name bytes (Ok v) u opens done takes calm = record {
  refused = λ q is. cc;
  reads = reads-taken a b c port name bytes (Ok v) opens refl takes;
  quiet = λ _. calm ∙ opens.cause.quiet;
}

-- a file of too many bytes
pub file-too_long : {T E U : Type 0} (a b c : Told) (port : Port) (name bytes : List ℕ) (r : Result T E) → IsTrue (is_input port) → Opens a b port name r → is_err r ≡ false
    → Takes b c port bytes → length bytes ≡ max_bytes + 1 → c.in_faults ≡ b.in_faults
    → ReadsFile {T = U} (record { port = port; name = name }) a c (Err (too_long_at port))
file-too_long a b c port name bytes (Err e) input opens done takes many calm = cc
file-too_long a b c port name bytes (Ok v) input opens done takes many calm =
    let long : IfTold a.files name (λ told. max_bytes < length told) =
    λ told under. omega (arith, many, taken_of_file a b c port name bytes told (Ok v) opens refl takes under) in
    record {
      refused = λ q is. let same : too_long_at port ≡ q = cc in subst (IsCauseAt (record { port = port; name = name }) a c) same (too_long-cause port name bytes a c input (omega (arith, many)) long);
      reads = reads-taken a b c port name bytes (Ok v) opens refl takes;
      quiet = λ _. calm ∙ opens.cause.quiet;
    }

-- ---- the steps of a run that reads files

-- an error that is this one
pub error_of : {T : Type 0} (x : Result T Refusal) (e : Refusal) → IsErrAnd x (λ y. y ≡ e) → x ≡ Err e
error_of (Ok v) e is = absurd is
error_of (Err y) e is = ap (λ (z : Refusal). Err z) is

-- no file is read
pub reads-none : {T : Type 0} (a : Told) (v : T) → ReadsSources [] a a (Ok v)
reads-none a v = record { refused = λ q is. cc; accepted = λ _. tt; reads = reads-nothing [] a; quiet = λ _. refl }

-- memory was wanting before the first file was opened
pub reads-unbegun : {T : Type 0} (sources : List Source) (a : Told) (r : Refusal) → r ≡ NoMemory → ReadsSources {T = T} sources a a (Err r)
reads-unbegun sources a r memory = record {
  refused = λ q is. let same : NoMemory ≡ q = cc in subst (IsCause sources a a) same (cause-unbegun sources a);
  accepted = λ ok. cc;
  reads = reads-nothing sources a;
  quiet = λ _. refl;
}

-- a file that could not be read
pub file-failed : {T : Type 0} {s : Source} {a b : Told} {e : Refusal} (r : Result T Refusal) → r ≡ Err e → ReadsFile s a b r
    → ReadsSources (s ∷ []) a b r
file-failed {s = s} {a = a} {b = b} r failed read = record {
  refused = λ q is. cause-alone s a b q (read.refused q is);
  accepted = λ ok. let wrong = rw failed at ok in cc;
  reads = read.reads;
  quiet = read.quiet;
}

-- and one that was: its text is refused or accepted
pub file-text : {T U : Type 0} {s : Source} {a b : Told} {v : T} (text : List ℕ) (x : Result U Refusal) → ReadsFile s a b (Ok v)
    → IfTold a.files s.name (λ told. text ≡ told) → ((q : Refusal) → x ≡ Err q → IsRefusedFor s.port text q)
    → (IsOk x → IsAcceptedAt s.port text) → ReadsSources (s ∷ []) a b x
file-text {s = s} {a = a} {b = b} text x read same refused accepted = record {
  refused = λ q is. cause-alone s a b q (cause_at-of_text s text a b q same (refused q is));
  accepted = λ ok. (record { bytes = text; is_so = accepted ok; are_told = same }, tt);
  reads = read.reads;
  quiet = λ _. read.quiet (λ h. cc);
}

-- one whose text is refused for this
pub file-refused : {T U : Type 0} {s : Source} {a b : Told} {v : T} (text : List ℕ) (x : Result U Refusal) (r : Refusal)
    → ReadsFile s a b (Ok v) → IfTold a.files s.name (λ told. text ≡ told) → IsErrAnd x (λ y. y ≡ r) → IsRefusedFor s.port text r
    → ReadsSources (s ∷ []) a b x
file-refused {s = s} text x r read same answered for =
    let is_error : x ≡ Err r = error_of x r answered in
    file-text text x read same (λ q is. (let which : r ≡ q = cc in subst (IsRefusedFor s.port text) which for))
    (λ ok. (let wrong = rw is_error at ok in cc))

-- a step that is refused as what it calls
pub sources-failed : {T U : Type 0} {sources : List Source} {a b : Told} {r : Result T Refusal} (x : Result U Refusal) (e : Refusal)
    → r ≡ Err e → IsErrAnd x (λ y. y ≡ e) → ReadsSources sources a b r → ReadsSources sources a b x
sources-failed {r = r} x e failed answered read =
    let is_error : x ≡ Err e = error_of x e answered in
    record {
      refused = λ q is. let same : r ≡ Err q = cc in read.refused q same;
      accepted = λ ok. let wrong = rw is_error at ok in cc;
      reads = read.reads;
      quiet = λ not. read.quiet (λ unread. let same : x ≡ Err Unread = cc in not same);
    }

-- one that goes on with what was read
pub sources-passed : {T U : Type 0} {sources : List Source} {a b : Told} {v : T} (u : U) → ReadsSources sources a b (Ok v)
    → ReadsSources sources a b (Ok u)
sources-passed u read = record {
  refused = λ q is. cc;
  accepted = λ _. read.accepted refl;
  reads = read.reads;
  quiet = λ _. read.quiet (λ unread. cc);
}

-- memory was wanting behind the last file
pub sources-memory : {T : Type 0} {sources : List Source} {a b : Told} {v : T} → ReadsSources sources a b (Ok v)
    → ReadsSources {T = T} sources a b (Err NoMemory)
sources-memory {sources = sources} {a = a} {b = b} read = record {
  refused = λ q is. let same : NoMemory ≡ q = cc in subst (IsCause sources a b) same (cause-read sources a b (read.accepted refl));
  accepted = λ ok. cc;
  reads = read.reads;
  quiet = λ _. read.quiet (λ unread. cc);
}

-- the first files were refused
pub sources-early : {T : Type 0} (first later : List Source) {a b : Told} {e : Refusal} (r : Result T Refusal) → AreApart first later
    → r ≡ Err e → ReadsSources first a b r → ReadsSources (first ++ later) a b r
sources-early first later {a = a} {b = b} r apart failed read = record {
  refused = λ q is. cause-early first later a b q (unopened-after first later a b apart read.reads) (read.refused q is);
  accepted = λ ok. let wrong = rw failed at ok in cc;
  reads = reads-then first later a b b apart read.reads (reads-nothing later b);
  quiet = read.quiet;
}

-- the first files were accepted, and others follow
pub sources-then : {T U : Type 0} (first later : List Source) {a b c : Told} {v : T} (x : Result U Refusal) → AreApart first later
    → ReadsSources first a b (Ok v) → ReadsSources later b c x → ReadsSources (first ++ later) a c x
sources-then first later {a = a} {b = b} {c = c} x apart read more =
    let calm : b.in_faults ≡ a.in_faults = read.quiet (λ unread. cc) in
    record {
      refused = λ q is. cause-behind first later a b c q (read.accepted refl) read.reads.files calm
          (unopened-after first later a b apart read.reads) (more.refused q is);
      accepted = λ ok. accepted-both a.files first later (read.accepted refl)
          (accepted-since a.files b.files later read.reads.files (more.accepted ok));
      reads = reads-then first later a b c apart read.reads more.reads;
      quiet = λ not. more.quiet not ∙ calm;
    }
