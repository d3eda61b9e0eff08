-- What is written into the cells of a group, piece by piece.
use Rattle.std.proofs.Common.{◌≡◌, ℕ, zero, suc, ◌+◌, ◌*◌, ◌<◌, ◌≤◌, ◌^◌, List, [], ◌∷◌, ◌++◌, length, take, drop, get_or, Some, refl, sym, ap, ◌∙◌, subst, arith}
use Rattle.std.proofs.Math.Nat.{suc-mul}
use Rattle.std.proofs.lemmas.Bool.Decides.{nat_tests}
use Rattle.std.proofs.lemmas.List.{append-nil, append_assoc, drop_at, take_at, drop-drop, length-append, get_or-take, get_or-drop}
use Rattle.std.proofs.lemmas.Grind.{common_steps}
use Rattle.td_disk.specs.Disk.{bytes_at}
use Rattle.td_gate.specs.declared.region.Region.{Region}
use Rattle.td_gate.specs.Region.{gate_of, opened}
use Rattle.td_gate.specs.Reading.{Each}
use Rattle.td_journal.specs.declared.journal.Journal.{Journal}
use Rattle.td_journal.specs.declared.payload.Submitted.{Submitted}
use Rattle.td_journal.specs.Cell.{cell_of, cell_len, cell_bytes, FitsEntry}
use Rattle.td_store.specs.group.Groups.{payloads, gated, AllFew, AllFit, HasPieces, Hold}

-- one epoch more
pub gated_more : (m e : ℕ) (xs : List Submitted) (x : Submitted) → gated m e (xs ++ x ∷ []) ≡ gated m e xs ++ (cell_bytes m (e + length xs) x.request x.batch ++ 165 ∷ [])
gated_more m e [] x =
    let here : e ≡ e + 0 = omega arith in
    append-nil (cell_bytes m e x.request x.batch ++ 165 ∷ []) ∙ ap (λ (f : ℕ). cell_bytes m f x.request x.batch ++ 165 ∷ []) here
gated_more m e (y ∷ ys) x =
    let here : suc e + length ys ≡ e + suc (length ys) = omega arith in
    ap (λ (l : List ℕ). (cell_bytes m e y.request y.batch ++ 165 ∷ []) ++ l) (gated_more m (suc e) ys x ∙ ap (λ (f : ℕ). gated m (suc e) ys ++ (cell_bytes m f x.request x.batch ++ 165 ∷ [])) here)
    ∙ sym (append_assoc (cell_bytes m e y.request y.batch ++ 165 ∷ []) (gated m (suc e) ys) (cell_bytes m (e + suc (length ys)) x.request x.batch ++ 165 ∷ []))

pub fit_more : (xs : List Submitted) (x : Submitted) → AllFit xs → Each FitsEntry x.batch × (x.request < 2 ^ 64) → AllFit (xs ++ x ∷ [])
fit_more [] x all one = (one, tt)
fit_more (y ∷ ys) x all one = (all.0, fit_more ys x all.1 one)

pub few_at : (m : ℕ) (xs : List Submitted) (i : ℕ) (x : Submitted) → i < length xs → AllFew m xs → length (get_or xs i x).batch ≤ m
few_at m [] i x lt all = absurd (omega (arith, lt))
few_at m (y ∷ ys) zero x lt all = all.0
few_at m (y ∷ ys) (suc i) x lt all = few_at m ys i x (omega (arith, lt)) all.1

-- a cell with an open gate behind its payload
last_byte : (payload : List ℕ) → get_or (payload ++ 165 ∷ []) (length payload) 0 ≡ 165
last_byte [] = refl
last_byte (b ∷ bs) = last_byte bs

take_take : (n : ℕ) (l : List ℕ) → take n (take (n + 1) l) ≡ take n l
take_take n l = grind (arith, common_steps)

pub opened_open : (r : Region) (c : List ℕ) → gate_of r c ≡ 165 → opened r c ≡ Some (bytes_at r.at r.len c)
opened_open r c is = grind (arith, nat_tests)

open_cell : (r : Region) (payload c : List ℕ) → length payload ≡ r.len → bytes_at r.at (r.len + 1) c ≡ payload ++ 165 ∷ [] → opened r c ≡ Some payload
open_cell r payload c size is =
    let last : get_or (payload ++ 165 ∷ []) r.len 0 ≡ 165 = ap (λ n. get_or (payload ++ 165 ∷ []) n 0) (sym size) ∙ last_byte payload in
    let gate : gate_of r c ≡ 165 =
    sym (get_or-drop r.at c r.len 0) ∙ sym (get_or-take (r.len + 1) (drop r.at c) r.len 0 (omega arith)) ∙ ap (λ (l : List ℕ). get_or l r.len 0) is ∙ last in
    let front : bytes_at r.at r.len c ≡ payload = sym (take_take r.len (drop r.at c)) ∙ ap (take r.len) is ∙ take_at payload (165 ∷ []) r.len size in
    opened_open r c gate ∙ ap (λ (l : List ℕ). Some l) front

-- the first piece, and those behind it
first_piece : (p rest : List ℕ) (size : ℕ) → length p ≡ size → bytes_at (0 * size) size (p ++ rest) ≡ p
first_piece p rest size long =
    let none : 0 * size ≡ 0 = omega arith in
    ap (λ n. take size (drop n (p ++ rest))) none ∙ take_at p rest size long

later_piece : (p rest : List ℕ) (size k : ℕ) → length p ≡ size → bytes_at (suc k * size) size (p ++ rest) ≡ bytes_at (k * size) size rest
later_piece p rest size k long =
    let more : suc k * size ≡ size + k * size = suc-mul k size ∙ omega arith in
    ap (λ n. take size (drop n (p ++ rest))) more ∙ ap (take size) (sym (drop-drop (k * size) size (p ++ rest)) ∙ ap (drop (k * size)) (drop_at p rest size long))

-- WHAT THE CELLS HOLD once all pieces are written
pub held : (j : Journal) (c : List ℕ) (e : ℕ) (xs : List Submitted)
    → AllFew j.m xs → ((x : Submitted) (f : ℕ) → length x.batch ≤ j.m → length (cell_bytes j.m f x.request x.batch) ≡ cell_len j.m)
    → HasPieces j c e (length xs) (gated j.m e xs) → Hold j c e (payloads j.m e xs)
held j c e [] few sizes pieces = tt
held j c e (x ∷ xs) few sizes pieces =
    let p = cell_bytes j.m e x.request x.batch in
    let size = sizes x e few.0 in
    let long : length (p ++ 165 ∷ []) ≡ cell_len j.m + 1 = length-append p (165 ∷ []) ∙ ap (λ n. n + 1) size in
    let here : e + 0 ≡ e = omega arith in
    let first = pieces 0 (omega arith) ∙ first_piece (p ++ 165 ∷ []) (gated j.m (suc e) xs) (cell_len j.m + 1) long in (
      subst (λ (f : ℕ). opened (cell_of j f) c ≡ Some p) here (open_cell (cell_of j (e + 0)) p c size first),
      held j c (suc e) xs few.1 sizes
          (λ k lt. let there : e + suc k ≡ suc e + k = omega arith in
          ap (λ (f : ℕ). bytes_at (cell_of j f).at (cell_len j.m + 1) c) (sym there) ∙ pieces (suc k) (omega (arith, lt)) ∙ later_piece (p ++ 165 ∷ []) (gated j.m (suc e) xs) (cell_len j.m + 1) k long),
    )

-- and how many bytes there are
pub gated_size : (m e : ℕ) (xs : List Submitted) → AllFew m xs → ((x : Submitted) (f : ℕ) → length x.batch ≤ m → length (cell_bytes m f x.request x.batch) ≡ cell_len m) → length (gated m e xs) ≡ length xs * (cell_len m + 1)
gated_size m e [] few sizes = omega arith
gated_size m e (x ∷ xs) few sizes =
    let p = cell_bytes m e x.request x.batch in
    let long : length (p ++ 165 ∷ []) ≡ cell_len m + 1 = length-append p (165 ∷ []) ∙ ap (λ n. n + 1) (sizes x e few.0) in
    let rest = gated_size m (suc e) xs few.1 sizes in
    let more : suc (length xs) * (cell_len m + 1) ≡ length xs * (cell_len m + 1) + (cell_len m + 1) = suc-mul (length xs) (cell_len m + 1) in
    let sum = length-append (p ++ 165 ∷ []) (gated m (suc e) xs) in
    omega (arith, long, rest, more, sum)
