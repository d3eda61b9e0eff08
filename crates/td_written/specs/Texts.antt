-- The text of a file.
use Rattle.std.specs.Prelude.{ℕ, nat_lt, if◌then◌else◌, List, map}

-- a byte, or `?` for one above 127
abbrev pub ascii : ℕ → ℕ
ascii byte = if nat_lt byte 128 then byte else 63

-- the text of a file's bytes
abbrev pub text_in : List ℕ → List ℕ
text_in bytes = map ascii bytes
