-- Where the parts of a disk lie: two heads, two slots and a ring of cells, each a region with its gate byte behind it.
use Rattle.std.specs.Prelude.{ℕ, ◌+◌, ◌*◌, Bool, ◌&&◌, nat_le}
use Rattle.td_gate.specs.declared.region.Region.{Region}

-- how many records a cell holds (M), how many cells there are (N), and how many states a slot holds (K)
pub record Sizes : Type 0 where
  pub m : ℕ
  pub n : ℕ
  pub k : ℕ

-- each keeps its limit
abbrev pub is_shape : Sizes → Bool
is_shape s = nat_le 1 s.m && nat_le s.m 65536 && (nat_le 1 s.n && nat_le s.n 65536) && (nat_le 1 s.k && nat_le s.k 1048576)

-- how many bytes a head's payload has
abbrev pub head_len : ℕ
head_len = 4128

abbrev pub head_a : Region
head_a = record { at = 0; len = head_len }

abbrev pub head_b : Region
head_b = record { at = 4129; len = head_len }

-- head A for side 0, head B for side 1
abbrev pub head : ℕ → Region
head side = record { at = 4129 * side; len = head_len }

-- where the slots begin
abbrev pub slots_at : ℕ
slots_at = 8258

-- where the cells begin
abbrev pub cells_at : Sizes → ℕ
cells_at s = 8308 + 64 * s.k

-- how many bytes a disk has
abbrev pub size_of : Sizes → ℕ
size_of s = cells_at s + s.n * (25 + 24 * s.m)
