-- Cells that lie one after another, up to the ring's end.
use Rattle.std.proofs.Common.{◌≡◌, ◌⊎◌, inl, inr, ⊎_elim, ℕ, zero, suc, ◌+◌, ◌-◌, ◌*◌, ◌%◌, ◌<◌, ◌≤◌, ◌≢◌, min, List, length, take, drop, sym, ap, ◌∙◌, subst, arith, length-drop}
use Rattle.std.proofs.Math.Nat.{add-mul, mod-add-mod, mod-eq_of_lt, mod_self, mul-le-mul_right, suc-mul}
use Rattle.std.proofs.lemmas.Bool.{cases_lt}
use Rattle.std.proofs.lemmas.List.{drop-drop, drop-take, length-take-le, take-take, take_rest}
use Rattle.td_disk.specs.Disk.{DiskState, ImagesFollow, TimePasses, bytes_at, SameOutside}
use Rattle.td_gate.specs.CrashSafe.{CrashSafe}
use Rattle.td_gate.specs.declared.region.Region.{Region}
use Rattle.td_journal.specs.declared.journal.Journal.{Journal}
use Rattle.td_journal.specs.Cell.{cell_of, cell_len, ring_len}
use Rattle.td_store.specs.group.Groups.{ChangesCells, HasPieces, IsBeside}
use Rattle.td_store.proofs.group.Moments.{HasClock, in_turn, one_call}
use Rattle.td_store.proofs.group.Places.{CellsApart, range_beside, epochs_apart_too, no_change, then_change}
use Rattle.td_store.proofs.group.Ready.{wider}

-- the cell of a later epoch
next_place : (n e k : ℕ) → e % n + k < n → (e + k) % n ≡ e % n + k
next_place n e k room = sym (mod-add-mod e n k) ∙ mod-eq_of_lt room

neighbour : (j : Journal) (e n k : ℕ) → k < n → e % j.n + n ≤ j.n → (cell_of j (e + k)).at ≡ (cell_of j e).at + k * (cell_len j.m + 1)
neighbour j e n k lt room =
    let place = next_place j.n e k (omega (arith, lt, room)) in
    ap (λ i. j.at + i * (cell_len j.m + 1)) place ∙ sum j.at (e % j.n) k (cell_len j.m + 1)
  where
    sum : (a r k size : ℕ) → a + (r + k) * size ≡ a + r * size + k * size
    sum a r k size = let both = add-mul r k size in omega (arith, both)

-- what lies beside each of them lies before the first or behind the last
outside : (at size n i : ℕ) → ((k : ℕ) → k < n → (i < at + k * size) ⊎ (at + k * size + size ≤ i)) → (i < at) ⊎ (at + n * size ≤ i)
outside at size zero i beside = elim (cases_lt i at) [
  | inl low ↦ inl low
  | inr high ↦ inr (omega (arith, high))
]
outside at size (suc n) i beside = ⊎_elim
    (λ low. inl low)
    (λ high. ⊎_elim
    (λ low. absurd (omega (arith, low, high)))
    (λ past. let more : suc n * size ≡ n * size + size = suc-mul n size in inr (omega (arith, past, more)))
    (beside n (omega arith)))
    (outside at size n i (λ k lt. beside k (omega (arith, lt))))

-- ONE WRITE for a run of cells changes these alone
run_changes : (j : Journal) (e n : ℕ) (d c : List ℕ) → e % j.n + n ≤ j.n → SameOutside (cell_of j e).at (n * (cell_len j.m + 1)) d c → ChangesCells j e n d c
run_changes j e n d c room f = record {
  size = f.size;
  each = λ i beside. ⊎_elim (f.before i) (f.after i)
      (outside (cell_of j e).at (cell_len j.m + 1) n i
      (λ k lt. let place = neighbour j e n k lt room in ⊎_elim (λ low. inl (omega (arith, low, place))) (λ high. inr (omega (arith, high, place))) (beside k lt)));
}

pub run_step : (j : Journal) (e n : ℕ) (r : Region) (len : ℕ) (d c : List ℕ) → e % j.n + n ≤ j.n → r ≡ cell_of j e → len ≡ n * (cell_len j.m + 1) → SameOutside r.at len d c → ChangesCells j e n d c
run_step j e n r len d c room is long f =
    run_changes j e n d c room (subst (λ (l : ℕ). SameOutside (cell_of j e).at l d c) long (subst (λ (q : Region). SameOutside q.at len d c) is f))

-- bytes within bytes
within : (at a n len : ℕ) (l : List ℕ) → a + n ≤ len → bytes_at a n (bytes_at at len l) ≡ bytes_at (at + a) n l
within at a n len l room =
    part a n len (drop at l) room ∙ ap (take n) (drop-drop a at l)
  where
    part : (a n len : ℕ) (l : List ℕ) → a + n ≤ len → take n (drop a (take len l)) ≡ take n (drop a l)
    part a n len l room =
        let rest : a + (len - a) ≡ len = omega (arith, room) in
        ap (λ k. take n (drop a (take k l))) (sym rest) ∙ ap (take n) (drop-take a (len - a) l) ∙ take-take n (len - a) (drop a l) (omega (arith, room))

-- how far a run goes
pub run_room : (j : Journal) (e n : ℕ) → e % j.n + n ≤ j.n → (cell_of j e).at + n * (cell_len j.m + 1) ≤ j.at + ring_len j.m j.n
run_room j e n room =
    let size = cell_len j.m + 1 in
    let both : (e % j.n + n) * size ≡ (e % j.n) * size + n * size = add-mul (e % j.n) n size in
    let most : (e % j.n + n) * size ≤ j.n * size = mul-le-mul_right size room in
    omega (arith, both, most)

pub run_long : (n size found : ℕ) (bytes : List ℕ) → found ≡ size → n * size ≤ length bytes → length (take (n * found) bytes) ≡ n * size
run_long n size found bytes is whole = ap (λ s. length (take (n * s) bytes)) is ∙ length-take-le (n * size) bytes whole

pub run_safe : (j : Journal) (e n : ℕ) (r : Region) (len : ℕ) (old new : DiskState) → e % j.n + n ≤ j.n → r ≡ cell_of j e → len ≡ n * (cell_len j.m + 1)
    → HasClock old → TimePasses old new → ImagesFollow (SameOutside r.at len) old new → CrashSafe (ChangesCells j e n) old new
run_safe j e n r len old new room is long clock time wrote = one_call (ChangesCells j e n) old new clock (no_change j e n) time
    (λ c now. let from = wrote c now in (from.0, from.1, run_step j e n r len from.0 c room is long from.2))

-- each of them has its piece
run_pieces : (j : Journal) (e n : ℕ) (c bytes : List ℕ) → e % j.n + n ≤ j.n
    → bytes_at (cell_of j e).at (n * (cell_len j.m + 1)) c ≡ take (n * (cell_len j.m + 1)) bytes → HasPieces j c e n bytes
run_pieces j e n c bytes room written k lt =
    let size = cell_len j.m + 1 in
    let most : k * size + size ≤ n * size = inside k n size lt in
    ap (λ at. bytes_at at size c) (neighbour j e n k lt room)
    ∙ sym (within (cell_of j e).at (k * size) size (n * size) c most)
    ∙ ap (bytes_at (k * size) size) written
    ∙ within 0 (k * size) size (n * size) bytes most ∙ ap (λ at. bytes_at at size bytes) (none (k * size))
  where
    none : (a : ℕ) → 0 + a ≡ a
    none a = omega arith

    inside : (k n size : ℕ) → k < n → k * size + size ≤ n * size
    inside k n size lt =
        let step : suc k * size ≤ n * size = mul-le-mul_right size lt in
        let more : suc k * size ≡ k * size + size = suc-mul k size in
        omega (arith, step, more)

pub run_written : (j : Journal) (e n : ℕ) (r : Region) (len found : ℕ) (c bytes : List ℕ) → e % j.n + n ≤ j.n → r ≡ cell_of j e → len ≡ n * (cell_len j.m + 1) → found ≡ cell_len j.m + 1
    → bytes_at r.at len c ≡ take (n * found) bytes → HasPieces j c e n bytes
run_written j e n r len found c bytes room is long size written = run_pieces j e n c bytes room
    (ap (λ (q : Region). bytes_at q.at (n * (cell_len j.m + 1)) c) (sym is) ∙ ap (λ k. bytes_at r.at k c) (sym long) ∙ written ∙ ap (λ k. take (n * k) bytes) size)

-- TWO RUNS, one behind the other
pub second_run : (j : Journal) (e here rest n : ℕ) (d c : List ℕ) → here + rest ≡ n → ChangesCells j (e + here) rest d c → ChangesCells j e n d c
second_run j e here rest n d c sum changes = record {
  size = changes.size;
  each = λ i beside. changes.each i (λ k lt. let place : e + (here + k) ≡ e + here + k = omega arith in
      subst (λ f. IsBeside (cell_of j f) i) place (beside (here + k) (omega (arith, lt, sum))));
}

pub both_runs : (j : Journal) (e here rest n : ℕ) (d m c : List ℕ) → here + rest ≡ n → ChangesCells j e here d m → ChangesCells j (e + here) rest m c → ChangesCells j e n d c
both_runs j e here rest n d m c sum one two = then_change j e n d m c (wider j e here n d m (omega (arith, sum)) one) (second_run j e here rest n m c sum two)

pub both_safe : (j : Journal) (e here rest n : ℕ) (old mid new : DiskState) → here + rest ≡ n → HasClock mid
    → CrashSafe (ChangesCells j e here) old mid → CrashSafe (ChangesCells j (e + here) rest) mid new → CrashSafe (ChangesCells j e n) old new
both_safe j e here rest n old mid new sum clock one two = in_turn (ChangesCells j e here) (ChangesCells j (e + here) rest) (ChangesCells j e n) old mid new clock one two
    (λ d c first. wider j e here n d c (omega (arith, sum)) first)
    (λ d m c first second. both_runs j e here rest n d m c sum first second)

-- the pieces of the first run stay
pub runs_joined : CellsApart → (j : Journal) (e here rest n : ℕ) (d c bytes : List ℕ) → here + rest ≡ n → n ≤ j.n → HasPieces j d e here bytes
    → ChangesCells j (e + here) rest d c → HasPieces j c (e + here) rest (drop (here * (cell_len j.m + 1)) bytes) → HasPieces j c e n bytes
runs_joined apart j e here rest n d c bytes sum room before changes after k lt = elim (cases_lt k here) [
  | inl low ↦
      range_beside j (e + here) rest (cell_of j (e + k)) (cell_len j.m + 1) d c (omega arith) changes
      (λ q less. epochs_apart_too apart j (e + k) (e + here + q) (omega (arith, low)) (omega (arith, less, room, sum)))
      ∙ before k low
  | inr high ↦
      let q : ℕ = k - here in
      let is : here + q ≡ k = omega (arith, high) in
      let place : e + here + q ≡ e + k = omega (arith, is) in
      let size = cell_len j.m + 1 in
      ap (λ f. bytes_at (cell_of j f).at size c) (sym place) ∙ after q (omega (arith, is, lt, sum))
      ∙ ap (take size) (drop-drop (q * size) (here * size) bytes)
      ∙ ap (λ at. bytes_at at size bytes) (sym (add-mul here q size) ∙ ap (λ n. n * size) is)
]

-- how far the first run goes
pub to_the_end : (e n end count here : ℕ) → end + e % n ≡ n → here ≡ min count end → e % n + here ≤ n
to_the_end e n end count here ends is = omega (arith, ends, is)

pub behind_the_end : (e n end count here : ℕ) → 0 < n → end + e % n ≡ n → here ≡ min count end → here ≢ count → count ≤ n → (e + here) % n + (count - here) ≤ n
behind_the_end e n end count here some ends is short few =
    let here_is : here ≡ end = omega (arith, is, short) in
    let around : (e + here) % n ≡ 0 =
    ap (λ k. (e + k) % n) here_is ∙ sym (mod-add-mod e n end) ∙ ap (λ k. k % n) (whole (e % n) end n ends) ∙ mod_self n in
    omega (arith, around, few)
  where
    whole : (r end n : ℕ) → end + r ≡ n → r + end ≡ n
    whole r end n ends = omega (arith, ends)

pub short_enough : (here n size found long : ℕ) → here ≤ n → found ≡ size → long ≡ n * size → here * found ≤ long
short_enough here n size found long le is whole =
    let most : here * size ≤ n * size = mul-le-mul_right size le in
    subst (λ k. here * k ≤ long) (sym is) (omega (arith, most, whole))

pub rest_long : (here n size found : ℕ) (bytes : List ℕ) → here ≤ n → found ≡ size → length bytes ≡ n * size → (n - here) * size ≤ length (take (length bytes - here * found) (drop (here * found) bytes))
rest_long here n size found bytes le is whole =
    let both : (here + (n - here)) * size ≡ here * size + (n - here) * size = add-mul here (n - here) size in
    let all : here + (n - here) ≡ n = omega (arith, le) in
    let sum : n * size ≡ here * size + (n - here) * size = ap (λ k. k * size) (sym all) ∙ both in
    let long : length (take (length bytes - here * found) (drop (here * found) bytes)) ≡ length bytes - here * size =
    ap length (take_rest bytes (here * found)) ∙ length-drop (here * found) bytes ∙ ap (λ k. length bytes - here * k) is in
    omega (arith, sum, long, whole)
