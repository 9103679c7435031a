-- How the program is called.
use Rattle.std.specs.Prelude.{ℕ, List, codes}

-- what is said where the words are no command
abbrev pub reroute_usage : List ℕ
reroute_usage = codes "refused 2\nusage: reroute IN [ROUTES] NEW\n"
