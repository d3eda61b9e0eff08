-- What was written is read back. The crates above rest on it: another crate's `proofs` are closed to them.
use Rattle.std.proofs.Common.{◌≡◌, ℕ, suc, ◌+◌, ◌*◌, ◌<◌, ◌≤◌, ◌^◌, mul-zero, mul-suc, ℤ, pos, negsuc, FitsSigned, List, [], ◌∷◌, ◌++◌, length, take, drop, refl, sym, ap, ◌∙◌, arith}
use Rattle.std.specs.Prelude.{flat_map}
use Rattle.std.specs.Int.{cast_signed, cast_unsigned, w64}
use Rattle.std.proofs.lemmas.List.{append_assoc, drop_at, drop-drop, length-append}
use Rattle.std.proofs.lemmas.Int.{to_z-of_z}
use Rattle.byteorder.specs.Endian.{big_number}
use Rattle.byteorder.specs.Numbers.{big_from-take, big_number-reads_back, length-bytes_high_first}
use Rattle.td_gate.specs.declared.fields.Front.{Front}
use Rattle.td_gate.specs.Fields.{FitsFront, front_bytes, front_in, front_len, number_at, number_bytes, signed_at, signed_bytes, each_in}

-- a number behind a first part
pub number_behind : (n at x : ℕ) (p rest : List ℕ) → length p ≡ at → x < 256 ^ n → number_at n at (p ++ (number_bytes n x ++ rest)) ≡ x
unfolding number_at number_bytes
number_behind n at x p rest size fits = ap (big_number n) (drop_at p (number_bytes n x ++ rest) at size) ∙ big_number-reads_back n x rest fits

pub length_bytes : (n x : ℕ) → length (number_bytes n x) ≡ n
unfolding number_bytes
length_bytes n x = length-bytes_high_first n x

-- the bits of a signed number are below 2 ^ 64
pub bits_fit : (z : ℤ) → FitsSigned w64 z → cast_unsigned w64 z < 256 ^ 8
bits_fit (pos n) fits = let h = fits.sfits in omega arith
bits_fit (negsuc n) fits = omega arith

pub signed_behind : (at : ℕ) (z : ℤ) (p rest : List ℕ) → length p ≡ at → FitsSigned w64 z → signed_at at (p ++ (signed_bytes z ++ rest)) ≡ z
signed_behind at z p rest size fits =
    ap (cast_signed w64) (number_behind 8 at (cast_unsigned w64 z) p rest size (bits_fit z fits)) ∙ to_z-of_z w64 z fits

four_parts : (a b c d rest : List ℕ) → (a ++ (b ++ (c ++ d))) ++ rest ≡ a ++ (b ++ (c ++ (d ++ rest)))
four_parts a b c d rest = simp append_assoc

pub front_size : (f : Front) → length (front_bytes f) ≡ front_len
front_size f =
    let a = number_bytes 8 f.epoch in
    let b = number_bytes 8 f.request in
    let c = number_bytes 4 f.count in
    let d = number_bytes 4 f.zeros in
    sizes a b c d (length_bytes 8 f.epoch) (length_bytes 8 f.request) (length_bytes 4 f.count) (length_bytes 4 f.zeros)
  where
    sizes : (a b c d : List ℕ) → length a ≡ 8 → length b ≡ 8 → length c ≡ 4 → length d ≡ 4 → length (a ++ (b ++ (c ++ d))) ≡ 24
    sizes a b c d ea eb ec ed = omega (arith, length-append a (b ++ (c ++ d)), length-append b (c ++ d), length-append c d)

pub front_past : (f : Front) (rest : List ℕ) → drop front_len (front_bytes f ++ rest) ≡ rest
front_past f rest = drop_at (front_bytes f) rest front_len (front_size f)

-- four numbers in a row, each with its own bytes
four_numbers : (x y z w : ℕ) (a b c d bytes rest : List ℕ) → a ≡ number_bytes 8 x → b ≡ number_bytes 8 y → c ≡ number_bytes 4 z → d ≡ number_bytes 4 w
    → x < 256 ^ 8 → y < 256 ^ 8 → z < 256 ^ 4 → w < 256 ^ 4
    → (number_at 8 0 ((a ++ (b ++ (c ++ d))) ++ rest) ≡ x) × (number_at 8 8 ((a ++ (b ++ (c ++ d))) ++ rest) ≡ y)
    × (number_at 4 16 ((a ++ (b ++ (c ++ d))) ++ rest) ≡ z) × (number_at 4 20 ((a ++ (b ++ (c ++ d))) ++ rest) ≡ w)
four_numbers x y z w a b c d bytes rest ea eb ec ed fx fy fz fw =
    let la : length a ≡ 8 = ap length ea ∙ length_bytes 8 x in
    let lb : length b ≡ 8 = ap length eb ∙ length_bytes 8 y in
    let lc : length c ≡ 4 = ap length ec ∙ length_bytes 4 z in
    let lab : length (a ++ b) ≡ 16 = length-append a b ∙ omega arith in
    let labc : length ((a ++ b) ++ c) ≡ 20 = length-append (a ++ b) c ∙ omega arith in
    let whole = four_parts a b c d rest in (
      ap (number_at 8 0) (whole ∙ ap (λ (l : List ℕ). l ++ (b ++ (c ++ (d ++ rest)))) ea) ∙ number_behind 8 0 x [] (b ++ (c ++ (d ++ rest))) refl fx,
      ap (number_at 8 8) (whole ∙ ap (λ (l : List ℕ). a ++ (l ++ (c ++ (d ++ rest)))) eb) ∙ number_behind 8 8 y a (c ++ (d ++ rest)) la fy,
      ap (number_at 4 16) (whole ∙ sym (append_assoc a b (c ++ (d ++ rest))) ∙ ap (λ (l : List ℕ). (a ++ b) ++ (l ++ (d ++ rest))) ec) ∙ number_behind 4 16 z (a ++ b) (d ++ rest) lab fz,
      ap (number_at 4 20) (whole ∙ sym (append_assoc a b (c ++ (d ++ rest))) ∙ sym (append_assoc (a ++ b) c (d ++ rest)) ∙ ap (λ (l : List ℕ). ((a ++ b) ++ c) ++ (l ++ rest)) ed) ∙ number_behind 4 20 w ((a ++ b) ++ c) rest labc fw,
    )

pub front_back : (f : Front) (rest : List ℕ) → FitsFront f → front_in (front_bytes f ++ rest) ≡ f
front_back f rest fits =
    let each = four_numbers f.epoch f.request f.count f.zeros (number_bytes 8 f.epoch) (number_bytes 8 f.request) (number_bytes 4 f.count) (number_bytes 4 f.zeros) rest rest refl refl refl refl fits.epoch fits.request fits.count fits.zeros in
    λ i. record { epoch = each.0 i; request = each.1 i; count = each.2 i; zeros = each.3 i }

-- Each of a list is such.
abbrev pub Each : {X : Type 0} → (X → Type 0) → List X → Type 0
Each P [] = Unit {0}
Each P (x ∷ xs) = P x × Each P xs

-- entries in a row, of which each is read back
pub each_back : {X : Type 0} (write : X → List ℕ) (read : List ℕ → X) (size : ℕ) (Fits : X → Type 0) → ((x : X) (rest : List ℕ) → Fits x → read (write x ++ rest) ≡ x) → ((x : X) → length (write x) ≡ size)
    → (xs : List X) (rest : List ℕ) → Each Fits xs → each_in read size (length xs) (flat_map write xs ++ rest) ≡ xs
each_back write read size Fits back sizes [] rest fits = refl
each_back write read size Fits back sizes (x ∷ xs) rest fits =
    let whole : flat_map write (x ∷ xs) ++ rest ≡ write x ++ (flat_map write xs ++ rest) = append_assoc (write x) (flat_map write xs) rest in
    let first : read (flat_map write (x ∷ xs) ++ rest) ≡ x = ap read whole ∙ back x (flat_map write xs ++ rest) fits.0 in
    let past : drop size (flat_map write (x ∷ xs) ++ rest) ≡ flat_map write xs ++ rest = ap (drop size) whole ∙ drop_at (write x) (flat_map write xs ++ rest) size (sizes x) in
    ap (λ y. y ∷ each_in read size (length xs) (drop size (flat_map write (x ∷ xs) ++ rest))) first
    ∙ ap (λ ys. x ∷ ys) (ap (each_in read size (length xs)) past ∙ each_back write read size Fits back sizes xs rest fits.1)

pub each_size : {X : Type 0} (write : X → List ℕ) (size : ℕ) → ((x : X) → length (write x) ≡ size) → (xs : List X) → length (flat_map write xs) ≡ size * length xs
each_size write size sizes [] = sym (mul-zero size)
each_size write size sizes (x ∷ xs) = length-append (write x) (flat_map write xs) ∙ ap (λ n. n + length (flat_map write xs)) (sizes x) ∙ ap (λ n. size + n) (each_size write size sizes xs) ∙ more size (length xs)
  where
    more : (a b : ℕ) → a + a * b ≡ a * suc b
    more a b = omega (arith, mul-suc a b)

pub each_push : {X : Type 0} (P : X → Type 0) (xs : List X) (x : X) → Each P xs → P x → Each P (xs ++ x ∷ [])
each_push P [] x all one = (one, tt)
each_push P (y ∷ ys) x all one = (all.0, each_push P ys x all.1 one)

-- a first part that is passed over
pub passed_over : (at more : ℕ) (p rest : List ℕ) → length p ≡ at → drop (at + more) (p ++ rest) ≡ drop more rest
passed_over at more p rest size = sym (drop-drop more at (p ++ rest)) ∙ ap (drop more) (drop_at p rest at size)

pub number_past : (n at more : ℕ) (p rest : List ℕ) → length p ≡ at → number_at n (at + more) (p ++ rest) ≡ number_at n more rest
unfolding number_at
number_past n at more p rest size = ap (big_number n) (passed_over at more p rest size)

pub number_first : (n x : ℕ) (rest : List ℕ) → x < 256 ^ n → number_at n 0 (number_bytes n x ++ rest) ≡ x
number_first n x rest fits = number_behind n 0 x [] rest refl fits

-- a number behind what was dropped
pub number_dropped : (n at more : ℕ) (bytes : List ℕ) → number_at n more (drop at bytes) ≡ number_at n (at + more) bytes
unfolding number_at
number_dropped n at more bytes = ap (big_number n) (drop-drop more at bytes)

-- a number at the front of a first part
pub number_taken : (n more : ℕ) (bytes : List ℕ) → n ≤ more → number_at n 0 (take more bytes) ≡ number_at n 0 bytes
unfolding number_at
number_taken n more bytes le = big_from-take 0 n more bytes (omega (arith, le))
