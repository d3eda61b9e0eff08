-- Proofs that a record of calls keeps the laws of a disk. They stand in specs/ since an `impl` takes its laws from here: nothing in this file has to be
-- believed.
use Rattle.std.proofs.Common.{◌≡◌, ℕ, ◌+◌, ◌-◌, ◌<◌, ◌≤◌, List, [], ◌∷◌, ◌++◌, length, get_or, take, drop, refl, sym, ◌∙◌, ap, subst}
use Rattle.std.proofs.Common.{arith, inl, inr, length-append, length-drop}
use Rattle.std.proofs.lemmas.Bool.{cases_lt}
use Rattle.std.proofs.lemmas.Bool.Decides.{nat_tests}
use Rattle.std.proofs.lemmas.List.{take_all, take_at, drop_at, take-append-le, length-take-le}
use Rattle.std.proofs.lemmas.List.{get_or_append_left, get_or-append_right, get_or-take, get_or-drop}
use Rattle.td_disk.specs.Disk.{bytes_at, SameOutside, TimePasses}
use Rattle.td_disk.specs.declared.memory.Call.{Call}
use Rattle.td_disk.specs.declared.memory.Call.TheVariants.{Write, Sync}
use Rattle.td_disk.specs.Record.{Contents, overwritten, after_call, replay, synced, MayLeave, IsImage, IsImageSince, state_after}

same_refl : (at n : ℕ) (c : List ℕ) → SameOutside at n c c
same_refl at n c = record { size = refl; before = λ i l. refl; after = λ i l. refl }

fits : (at : ℕ) (bytes image : List ℕ) → at + length bytes ≤ length image
    → overwritten at bytes image ≡ take at image ++ (bytes ++ drop (at + length bytes) image)
fits at bytes image le = grind (arith, nat_tests)

misses : (at : ℕ) (bytes image : List ℕ) → length image < at + length bytes → overwritten at bytes image ≡ image
misses at bytes image lt = grind (arith, nat_tests)

pasted : (at : ℕ) (bytes image : List ℕ) → at + length bytes ≤ length image
    → SameOutside at (length bytes) image (take at image ++ (bytes ++ drop (at + length bytes) image))
pasted at bytes image le =
    let front : length (take at image) ≡ at = length-take-le at image (omega arith) in
    record {
      size =
          let rest = drop (at + length bytes) image in
          omega (arith, front, length-append (take at image) (bytes ++ rest), length-append bytes rest, length-drop (at + length bytes) image);
      before = λ i l. get_or_append_left (take at image) (bytes ++ drop (at + length bytes) image) 0 i (omega (arith, front)) ∙ get_or-take at image i 0 l;
      after = λ i l.
          get_or-append_right (take at image) (bytes ++ drop (at + length bytes) image) at i 0 front (omega arith)
          ∙ get_or-append_right bytes (drop (at + length bytes) image) (length bytes) (i - at) 0 refl (omega arith)
          ∙ get_or-drop (at + length bytes) image ((i - at) - length bytes) 0
          ∙ ap (λ (j : ℕ). get_or image j 0) (omega arith);
    }

pub overwritten_outside : (at : ℕ) (bytes image : List ℕ) → SameOutside at (length bytes) image (overwritten at bytes image)
overwritten_outside at bytes image = elim (cases_lt (length image) (at + length bytes)) [
  | inl lt ↦ subst (λ (l : List ℕ). SameOutside at (length bytes) image l) (sym (misses at bytes image lt)) (same_refl at (length bytes) image)
  | inr le ↦ subst (λ (l : List ℕ). SameOutside at (length bytes) image l) (sym (fits at bytes image le)) (pasted at bytes image le)
]

pub overwritten_inside : (at : ℕ) (bytes image : List ℕ) → at + length bytes ≤ length image → bytes_at at (length bytes) (overwritten at bytes image) ≡ bytes
overwritten_inside at bytes image le =
    ap (λ (l : List ℕ). bytes_at at (length bytes) l) (fits at bytes image le)
    ∙ ap (λ (l : List ℕ). take (length bytes) l) (drop_at (take at image) (bytes ++ drop (at + length bytes) image) at (length-take-le at image (omega arith)))
    ∙ take_at bytes (drop (at + length bytes) image) (length bytes) refl

-- what is read is an image
pub reads : (k : Contents) (calls : List Call) → IsImage k k.bytes → IsImage (replay k calls) (replay k calls).bytes
reads k [] is = is
reads k (Write at bytes ∷ calls) is = reads (after_call k (Write at bytes)) calls (k.bytes, is, overwritten_outside at bytes.items k.bytes)
reads k (Sync ∷ calls) is = reads (after_call k Sync) calls refl

-- An image has the size of what is read.
image_length : (durable : List ℕ) (pending : List (ℕ × ℕ)) (c : List ℕ) → MayLeave durable pending c → length c ≡ length durable
image_length durable [] c is = ap length is
image_length durable (range ∷ earlier) c is = is.2.size ∙ image_length durable earlier is.0 is.1

pub sizes : (k : Contents) (calls : List Call) → length k.durable ≡ length k.bytes → length (replay k calls).durable ≡ length (replay k calls).bytes
sizes k [] is = is
sizes k (Write at bytes ∷ calls) is = sizes (after_call k (Write at bytes)) calls (is ∙ sym (overwritten_outside at bytes.items k.bytes).size)
sizes k (Sync ∷ calls) is = sizes (after_call k Sync) calls refl

pub image_size : (start : List ℕ) (calls : List Call) (c : List ℕ)
    → IsImage (replay (synced start) calls) c → length c ≡ length (replay (synced start) calls).bytes
image_size start calls c is = let k = replay (synced start) calls in image_length k.durable k.pending c is ∙ sizes (synced start) calls refl

-- one call more
pub replay_push : (k : Contents) (calls : List Call) (call : Call) → replay k (calls ++ call ∷ []) ≡ after_call (replay k calls) call
replay_push k [] call = refl
replay_push k (c ∷ calls) call = replay_push (after_call k c) calls call

at_end : (start : List ℕ) (calls : List Call) (n : ℕ) (c : List ℕ) → length calls ≤ n
    → IsImage (replay (synced start) (take n calls)) c → IsImage (replay (synced start) calls) c
at_end start calls n c le is = subst (λ (cs : List Call). IsImage (replay (synced start) cs) c) (take_all n calls le) is

pub counts : (start : List ℕ) (calls : List Call) (t : ℕ) (c : List ℕ) → t ≤ length calls
    → IsImage (replay (synced start) calls) c → IsImageSince start calls t c
counts start calls t c le is =
    let all = sym (take_all (length calls) calls (omega arith)) in
    (length calls, le, omega arith, subst (λ (cs : List Call). IsImage (replay (synced start) cs) c) all is)

pub only : (start : List ℕ) (calls : List Call) (c : List ℕ) → IsImageSince start calls (length calls) c → IsImage (replay (synced start) calls) c
only start calls c left = at_end start calls left.0 c left.1 left.3

module _ (start : List ℕ) (calls : List Call) (call : Call) where
  abbrev more : List Call
  more = calls ++ call ∷ []

  longer : length more ≡ length calls + 1
  longer = length-append calls (call ∷ [])

  abbrev leaves : List ℕ → List Call → Type 0
  leaves c cs = IsImage (replay (synced start) cs) c

  -- Up to a number of calls both records are the same.
  same_until : (n : ℕ) → n ≤ length calls → take n more ≡ take n calls
  same_until n le = take-append-le n calls (call ∷ []) le

  pub time_passes : TimePasses (state_after start calls) (state_after start more)
  time_passes = record {
    later = omega (arith, longer);
    nothing_else = λ t c le left. elim (cases_lt (length calls) left.0) [
      | inr within ↦ inl (left.0, left.1, within, subst (leaves c) (same_until left.0 within) left.3)
      | inl past ↦ inr (at_end start more left.0 c (omega (arith, longer)) left.3)
    ];
    keeps = λ t c le left. (left.0, left.1, omega (arith, left.2, longer), subst (leaves c) (sym (same_until left.0 left.2)) left.3);
  }
