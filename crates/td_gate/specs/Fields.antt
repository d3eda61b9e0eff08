-- What payloads spell. Numbers are big endian, and an i64 is in two's complement.
use Rattle.std.specs.Prelude.{ℕ, zero, suc, ℤ, ◌<◌, ◌^◌, Bool, true, ◌&&◌, ◌==◌, nat_le, List, [], ◌∷◌, ◌++◌, drop}
use Rattle.std.specs.Int.{cast_signed, cast_unsigned, w64}
use Rattle.byteorder.specs.Endian.{big_bytes, big_number}
use Rattle.td_gate.specs.declared.fields.Front.{Front}

-- the number in the n bytes from a place on
unfoldable pub number_at : ℕ → ℕ → List ℕ → ℕ
number_at n at bytes = big_number n (drop at bytes)

-- the n bytes of a number
unfoldable pub number_bytes : ℕ → ℕ → List ℕ
number_bytes n x = big_bytes n x

-- the signed number in the 8 bytes from a place on
abbrev pub signed_at : ℕ → List ℕ → ℤ
signed_at at bytes = cast_signed w64 (number_at 8 at bytes)

abbrev pub signed_bytes : ℤ → List ℕ
signed_bytes z = number_bytes 8 (cast_unsigned w64 z)

-- the front of a list of entries: the epoch, a request number (0 for none), how many entries follow, and zeros
abbrev pub front_bytes : Front → List ℕ
front_bytes f = number_bytes 8 f.epoch ++ (number_bytes 8 f.request ++ (number_bytes 4 f.count ++ number_bytes 4 f.zeros))

abbrev pub front_in : List ℕ → Front
front_in bytes = record { epoch = number_at 8 0 bytes; request = number_at 8 8 bytes; count = number_at 4 16 bytes; zeros = number_at 4 20 bytes }

-- how many bytes a front has
abbrev pub front_len : ℕ
front_len = 24

-- the fields fit
pub record FitsFront (f : Front) : Type 0 where
  pub epoch : f.epoch < 2 ^ 64
  pub request : f.request < 2 ^ 64
  pub count : f.count < 2 ^ 32
  pub zeros : f.zeros < 2 ^ 32

-- the front of an epoch with this request number and so many entries
abbrev pub front_of : ℕ → ℕ → ℕ → Front
front_of epoch request count = record { epoch = epoch; request = request; count = count; zeros = 0 }

-- the zero field is 0, and there are at most so many entries
abbrev pub is_plain : ℕ → Front → Bool
is_plain most f = (f.zeros == 0) && nat_le f.count most

-- the first n of the entries that follow one another, each of so many bytes
abbrev pub each_in : {X : Type 0} → (List ℕ → X) → ℕ → ℕ → List ℕ → List X
each_in read size zero bytes = []
each_in read size (suc n) bytes = read bytes ∷ each_in read size n (drop size bytes)

-- each element stands so to the next
abbrev pub is_chain : {X : Type 0} → (X → X → Bool) → List X → Bool
is_chain test [] = true
is_chain test (x ∷ []) = true
is_chain test (x ∷ y ∷ rest) = test x y && is_chain test (y ∷ rest)
