-- Facts about the three words (acked, done, kept) of a watch.
use Rattle.std.specs.Prelude.{ℕ, ◌≤◌, List, slice_index}

-- up to which epoch all is acknowledged
abbrev pub acked : List ℕ → ℕ
acked words = slice_index words 0

-- up to which epoch all is computed and collected
abbrev pub done : List ℕ → ℕ
done words = slice_index words 1

-- up to which epoch the last checkpoint reaches
abbrev pub kept : List ℕ → ℕ
kept words = slice_index words 2

-- what is kept is done, and what is done is acknowledged
abbrev pub KeepsOrder : List ℕ → Type 0
KeepsOrder words = (kept words ≤ done words) × (done words ≤ acked words)

-- no word of the first is above the same word of the second: the form in which contracts say it
abbrev pub IsAtMost : List ℕ → List ℕ → Type 0
IsAtMost first second =
    (acked first ≤ acked second) × (done first ≤ done second) × (kept first ≤ kept second)
