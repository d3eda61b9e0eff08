-- Members as numbers in the same order: what number stands for which member.
use Rattle.std.specs.Prelude.{ℕ, ℤ, pos, ◌+◌, ◌*◌, ◌/◌, ◌%◌, ◌^◌, ◌-ℤ◌}
use Rattle.td_stamp.specs.declared.values.Rec.{Rec}
use Rattle.td_stamp.specs.declared.values.Arrival.{Arrival}
use Rattle.td_stamp.specs.declared.values.Entry.{Entry}
use Rattle.td_stamp.specs.declared.values.Output.{Output}

-- values from -2^31 on, in the low 32 bits
abbrev pub val_of : ℕ → ℤ
val_of n = pos (n % 2 ^ 32) -ℤ pos (2 ^ 31)

-- records: the key, then the value
abbrev pub rec_of_number : ℕ → Rec
rec_of_number n = record { key = n / 2 ^ 32; val = val_of n }

-- arrivals: the key, then the port in 4 bits, then the value
abbrev pub arrival_of_number : ℕ → Arrival
arrival_of_number n = record { key = n / 2 ^ 32 / 16; item = record { port = n / 2 ^ 32 % 16; val = val_of n } }

-- records at a vertex: its place in a block of 16 vertices, then the key in 28 bits, then the value
abbrev pub vertex_of_number : ℕ → ℕ → ℕ
vertex_of_number first n = first / 16 * 16 + n / 2 ^ 32 / 2 ^ 28

abbrev pub placed_rec_of_number : ℕ → Rec
placed_rec_of_number n = record { key = n / 2 ^ 32 % 2 ^ 28; val = val_of n }

-- entries and outputs, of vertices of the same block as the first one's
abbrev pub entry_of_number : Entry → ℕ → Entry
entry_of_number first n = record { input = vertex_of_number first.input n; rec = placed_rec_of_number n }

abbrev pub output_of_number : Output → ℕ → Output
output_of_number first n = record { vertex = vertex_of_number first.vertex n; rec = placed_rec_of_number n }
