-- Files that are created and written.
use Rattle.std.proofs.Common.{◌≡◌, ℕ, List, take, sym, ◌∙◌, ap, subst, arith, inl, inr, IsErr, Ok, Err}
use Rattle.std.specs.Prelude.{Result, Some, option_map}
use Rattle.std.specs.Io.KnownBytes.{Appends}
use Rattle.gr_desk.specs.declared.port.Port.{Port}
use Rattle.gr_desk.specs.declared.state.State.{State}
use Rattle.gr_desk.specs.declared.state.State.TheVariants.{Fresh, Ready}
use Rattle.gr_desk.specs.Calls.{Creates, created, IsOrderlyCreate, IsOrderlyWrite}
use Rattle.gr_desk.specs.Causes.{Rose}
use Rattle.gr_desk.specs.Pens.{Ends}
use Rattle.gr_desk.specs.Runs.{Adds}
use Rattle.gr_desk.specs.Told.{Told, PortTold}
use Rattle.command_runs.specs.Outputs.{HasFile, HasPart, Makes}
use Rattle.command_runs.specs.Traces.{but_for_output}
use Rattle.command_runs.proofs.Traces.{but_for_output-of}

-- a port where a file was created in order may be written to
orderly-created : (a b : Told) (port : Port) (name : List ℕ) → IsOrderlyCreate a port name → b.ports port ≡ created (a.ports port) name → IsOrderlyWrite b port
orderly-created a b port name orderly made apart =
    (orderly.output, ap (λ (p : PortTold). p.state) made ∙ ap (option_map (λ (_ : State). Ready)) orderly.fresh)

-- what was written to a file that was just created
file-of : (a b c : Told) (port : Port) (name text : List ℕ) → b.ports port ≡ created (a.ports port) name → Adds b c port text → HasFile (a.ports port) (c.ports port) name text
file-of a b c port name text made adds = record {
  only = subst (λ (p : PortTold). c.ports port ≡ record p { written = (c.ports port).written }) made adds.only;
  written = subst (λ (p : PortTold). Appends p.written (c.ports port).written text) made adds.added;
}

-- a file that was created, and whose text was then written or cut off
pub makes-written : {S F T E : Type 0} (a b c : Told) (port : Port) (name text : List ℕ) (made : Result S F) (s : S) (r : Result T E)
    → Creates a b port name made → made ≡ Ok s → Ends b c port text r → Makes a c port name text r
makes-written a b c port name text (Err f) s r creates ok ends = cc
makes-written a b c port name text (Ok x) s (Ok v) creates ok ends =
    let adds = ends.all in
    record {
      all = file-of a b c port name text creates.ok adds;
      part = tt;
      others = record {
        files = adds.others.files ∙ creates.others.files;
        ports = λ p apart. adds.others.ports p apart ∙ creates.others.ports p apart;
      };
      stray = record {
        kept = λ orderly. adds.stray.kept (orderly-created a b port name orderly creates.ok) ∙ creates.stray.kept orderly;
        stays = λ is. adds.stray.stays (creates.stray.stays is);
      };
      cause = record {
        later = omega (arith, creates.cause.later, adds.later);
        failed = tt;
        quiet = ends.quiet ∙ creates.cause.quiet;
      };
      still = adds.still ∙ creates.still;
    }
makes-written a b c port name text (Ok x) s (Err e) creates ok ends =
    let part = ends.part in
    let adds = part.1 in
    record {
      all = tt;
      part = inr (part.0, file-of a b c port name (take part.0 text) creates.ok adds);
      others = record {
        files = adds.others.files ∙ creates.others.files;
        ports = λ p apart. adds.others.ports p apart ∙ creates.others.ports p apart;
      };
      stray = record {
        kept = λ orderly. adds.stray.kept (orderly-created a b port name orderly creates.ok) ∙ creates.stray.kept orderly;
        stays = λ is. adds.stray.stays (creates.stray.stays is);
      };
      cause = record {
        later = omega (arith, creates.cause.later, adds.later);
        failed = subst (λ (n : ℕ). Rose n c.out_faults) creates.cause.quiet ends.cause;
        quiet = tt;
      };
      still = adds.still ∙ creates.still;
    }

-- a file that could not be created
pub makes-refused : {S F T E : Type 0} (a c : Told) (port : Port) (name text : List ℕ) (made : Result S F) (f : F) (r : Result T E)
    → Creates a c port name made → made ≡ Err f → IsErr r → Makes a c port name text r
makes-refused a c port name text (Ok s) f r creates failed is = cc
makes-refused a c port name text made f (Ok v) creates failed is = cc
makes-refused a c port name text (Err x) f (Err e) creates failed is = record {
  all = tt;
  part = inl creates.err;
  others = creates.others;
  stray = record { kept = creates.stray.kept; stays = creates.stray.stays };
  cause = record { later = creates.cause.later; failed = creates.cause.failed; quiet = tt };
  still = creates.still;
}

-- a file is created in order where it would have been before another port was touched
pub still_orderly : (a b : Told) (port : Port) (name : List ℕ) → b.ports port ≡ a.ports port → IsOrderlyCreate a port name → IsOrderlyCreate b port name
still_orderly a b port name same orderly = record {
  output = orderly.output;
  fresh = subst (λ (p : PortTold). p.state ≡ Some Fresh) (sym same) orderly.fresh;
  expected = subst (λ (p : PortTold). p.expected ≡ Some (Some name)) (sym same) orderly.expected;
}

-- a port where a file was made keeps what no create and no write changes
pub file-keeps : (x y : PortTold) (name text : List ℕ) → HasFile x y name text → y ≡ but_for_output x y
file-keeps x y name text file = but_for_output-of x y (ap (λ (p : PortTold). p.rest) file.only) (ap (λ (p : PortTold). p.expected) file.only)

-- so does one where a part was made
pub part-keeps : (x y : PortTold) (name text : List ℕ) → HasPart x y name text → y ≡ but_for_output x y
part-keeps x y name text (inl is) = but_for_output-of x y (ap (λ (p : PortTold). p.rest) is) (ap (λ (p : PortTold). p.expected) is)
part-keeps x y name text (inr (n, file)) = file-keeps x y name (take n text) file
