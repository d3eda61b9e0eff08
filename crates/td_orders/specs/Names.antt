-- Names of files in a folder.
use Rattle.std.specs.Prelude.{ℕ, ◌==◌, nat_lt, not, ◌&&◌, ◌||◌, Bool, List, codes}
use Rattle.std.specs.List.{list_all}
use Rattle.std.specs.Str.{bytes_eq}

-- a printable ASCII character, but a blank and `/`
abbrev pub is_plain : ℕ → Bool
is_plain b = nat_lt 32 b && (nat_lt b 127 && not (b == 47))

-- A PLAIN NAME: such characters, and neither `.` nor `..`; so it is of a file in the folder itself
abbrev pub is_plain_name : List ℕ → Bool
is_plain_name name = list_all is_plain name && not (bytes_eq name (codes ".") || bytes_eq name (codes ".."))
