-- A text in which a DEL stands in the place of each byte above 127.
use Rattle.std.specs.Prelude.{ℕ, if◌then◌else◌, List, map}
use Rattle.std.specs.Char.{is_ascii}

abbrev pub narrow : ℕ → ℕ
narrow b = if is_ascii b then b else 127

abbrev pub narrowed : List ℕ → List ℕ
narrowed bytes = map narrow bytes
