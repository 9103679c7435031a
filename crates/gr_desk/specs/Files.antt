-- Named bytes in memory: what stands under a name, and what is left of it to be read.
use Rattle.std.specs.Prelude.{ℕ, List, [], drop, slice_get, position, bytes_eq, string_bytes, unwrap_or, option_map, String, Vec}
use Rattle.std.specs.declared.option.Option.{Option}
use Rattle.std.specs.declared.alloc.Global.{Global}
use Rattle.gr_desk.specs.declared.reading.Reading.{Reading}

-- a name and its bytes
abbrev pub File : Type 0
File = String Global × Vec ℕ Global

-- the bytes of the file of that number
abbrev pub bytes_at : List File → ℕ → List ℕ
bytes_at files i = unwrap_or (option_map (λ (f : File). f.1.items) (slice_get files i)) []

-- the number of the first file of that name
abbrev pub file_number : List File → List ℕ → Option ℕ
file_number files name = position (λ f. bytes_eq (string_bytes f.0) name) files

-- the bytes under a name
abbrev pub bytes_under : List File → List ℕ → Option (List ℕ)
bytes_under files name = option_map (bytes_at files) (file_number files name)

-- what is left to be read of a file
abbrev pub left_of : List File → Reading → List ℕ
left_of files r = drop r.at (unwrap_or (option_map (bytes_at files) r.file) [])
