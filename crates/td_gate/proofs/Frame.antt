-- What puts into some regions leave of the others.
use Rattle.std.proofs.Common.{◌≡◌, inl, inr, ⊎_elim, ℕ, ◌+◌, List, [], ◌∷◌, ◌++◌, length, get_or, Some, None, if◌then◌else◌, ◌==◌, refl, sym, subst, ◌∙◌, ap, arith}
use Rattle.td_disk.specs.Disk.{DiskState, bytes_at, SameOutside, ImagesFollow, IsDurable}
use Rattle.td_gate.specs.CrashSafe.{CrashSafe}
use Rattle.td_gate.specs.declared.region.Region.{Region}
use Rattle.td_gate.specs.Region.{gate_of, opened, SameWithin, IsSettled, IsOpen, Closes, Fills, Opens, Puts}
use Rattle.td_gate.specs.Regions.{Apart, ApartFromAll, KeepsRegion, Put, PutsDone, PutsInTurn}
use Rattle.td_gate.proofs.CrashSafety.{HasClock, at_the_end, one_then, weaker_step}
use Rattle.td_gate.proofs.Images.{bytes_same, same_outside_refl}

-- the same bytes in a region of an image of the same size
pub record SameRegion (s : Region) (d c : List ℕ) : Type 0 where
  pub size : length c ≡ length d
  pub within : SameWithin s.at (s.len + 1) d c

pub same_region_refl : (s : Region) (d c : List ℕ) → c ≡ d → SameRegion s d c
same_region_refl s d c is = record { size = ap length is; within = record { each = λ i low high. ap (λ (l : List ℕ). get_or l i 0) is } }

pub same_region_trans : (s : Region) (d e c : List ℕ) → SameRegion s d e → SameRegion s e c → SameRegion s d c
same_region_trans s d e c one two = record { size = two.size ∙ one.size; within = record { each = λ i low high. two.within.each i low high ∙ one.within.each i low high } }

-- no byte of one region is a byte of the other
pub same_elsewhere : (r s : Region) (d c : List ℕ) → Apart r s → SameOutside r.at (r.len + 1) d c → SameRegion s d c
same_elsewhere r s d c apart f = record {
  size = f.size;
  within = record { each = λ i low high. ⊎_elim (λ below. f.after i (omega arith)) (λ above. f.before i (omega arith)) apart };
}

pub opened_same : (s : Region) (d c : List ℕ) → SameRegion s d c → opened s c ≡ opened s d
opened_same s d c f =
    let gate : gate_of s c ≡ gate_of s d = f.within.each (s.at + s.len) (omega arith) (omega arith) in
    let bytes : bytes_at s.at s.len c ≡ bytes_at s.at s.len d = bytes_same s.at s.len d c f.size (λ i low high. f.within.each i low (omega arith)) in
    ap (λ (g : ℕ). if g == 165 then Some (bytes_at s.at s.len c) else None) gate ∙ ap (λ (l : List ℕ). if gate_of s d == 165 then Some l else None) bytes

-- a put elsewhere
pub put_elsewhere : (r s : Region) (payload d c : List ℕ) → Apart r s → Puts r payload d c → opened s c ≡ opened s d
put_elsewhere r s payload d c apart put = opened_same s d c (same_elsewhere r s d c apart put.others)

-- puts elsewhere
pub in_turn_same : (puts : List Put) (s : Region) (d c : List ℕ) → ApartFromAll s puts → PutsInTurn puts d c → SameRegion s d c
in_turn_same [] s d c apart is = same_region_refl s d c is
in_turn_same (put ∷ rest) s d c apart (inl begun) = same_elsewhere put.region s d c apart.0 begun.others
in_turn_same (put ∷ rest) s d c apart (inr done) =
    same_region_trans s d done.0 c (same_elsewhere put.region s d done.0 apart.0 done.1.others) (in_turn_same rest s done.0 c apart.1 done.2)

pub puts_elsewhere : (puts : List Put) (s : Region) (d c : List ℕ) → ApartFromAll s puts → PutsInTurn puts d c → opened s c ≡ opened s d
puts_elsewhere puts s d c apart step = opened_same s d c (in_turn_same puts s d c apart step)

-- where a region is settled, each image has what is read
pub opened_settled : (r : Region) (state : DiskState) (c : List ℕ) → length c ≡ length state.bytes → IsSettled r state → state.images c → opened r c ≡ opened r state.bytes
opened_settled r state c size settled image = opened_same r state.bytes c (record { size = size; within = settled c image })

-- where one image is left, each region is settled
pub durable_settled : (state : DiskState) (r : Region) → IsDurable state → IsSettled r state
durable_settled state r durable c image = record { each = λ i low high. ap (λ (l : List ℕ). get_or l i 0) (durable c image) }

-- calls that leave a settled region alone
pub region_kept : (step : List ℕ → List ℕ → Type 0) (s : Region) (old new : DiskState) → ((d c : List ℕ) → step d c → SameRegion s d c)
    → ((c : List ℕ) → old.images c → length c ≡ length old.bytes) → HasClock new → new.images new.bytes → IsSettled s old → CrashSafe step old new → KeepsRegion s old new
region_kept step s old new alone sizes clock read settled safe =
    let follows = at_the_end step old new clock safe in
    let from_read = follows new.bytes read in
    let each : (c : List ℕ) → new.since old.moment c → opened s c ≡ opened s old.bytes = λ c left.
    let from = safe.each c left in
    opened_same s from.0 c (alone from.0 c from.2) ∙ opened_settled s old from.0 (sizes from.0 from.1) settled from.1 in
    record {
      settled = λ c now.
          let from = follows c now in
          record {
            each = λ i low high.
                (alone from.0 c from.2).within.each i low high ∙ (settled from.0 from.1).each i low high
                ∙ sym ((settled from_read.0 from_read.1).each i low high) ∙ sym ((alone from_read.0 new.bytes from_read.2).within.each i low high);
          };
      read = each new.bytes (clock.counts_now old.moment new.bytes safe.later read);
      each = each;
    }

puts_nothing : (put : Put) (d c : List ℕ) → c ≡ d → Puts put.region put.payload d c
puts_nothing put d c is = subst (λ (l : List ℕ). Puts put.region put.payload d l) (sym is) (record { others = same_outside_refl put.region.at (put.region.len + 1) d; region = inl refl })

-- puts that have not begun
none_in_turn : (puts : List Put) (d c : List ℕ) → c ≡ d → PutsInTurn puts d c
none_in_turn [] d c is = is
none_in_turn (put ∷ rest) d c is = inl (puts_nothing put d c is)

-- puts of which the later ones have not begun
first_in_turn : (puts more : List Put) (d c : List ℕ) → PutsInTurn puts d c → PutsInTurn (puts ++ more) d c
first_in_turn [] more d c is = none_in_turn more d c is
first_in_turn (put ∷ rest) more d c (inl begun) = inl begun
first_in_turn (put ∷ rest) more d c (inr done) = inr (done.0, done.1, first_in_turn rest more done.0 c done.2)

-- puts of which the first ones are done
later_in_turn : (puts more : List Put) (d e c : List ℕ) → PutsDone puts d e → PutsInTurn more e c → PutsInTurn (puts ++ more) d c
later_in_turn [] more d e c is begun = subst (λ (l : List ℕ). PutsInTurn more l c) is begun
later_in_turn (put ∷ rest) more d e c done begun = inr (done.0, done.1, later_in_turn rest more done.0 e c done.2 begun)

-- puts that are all done
all_done : (puts more : List Put) (d e c : List ℕ) → PutsDone puts d e → PutsDone more e c → PutsDone (puts ++ more) d c
all_done [] more d e c is done = subst (λ (l : List ℕ). PutsDone more l c) is done
all_done (put ∷ rest) more d e c before done = (before.0, before.1, all_done rest more before.0 e c before.2 done)

-- one sequence of puts and then another
pub puts_then : (puts more : List Put) (old mid new : DiskState) → CrashSafe (PutsInTurn puts) old mid → ImagesFollow (PutsDone puts) old mid
    → CrashSafe (PutsInTurn more) mid new → CrashSafe (PutsInTurn (puts ++ more)) old new
puts_then puts more old mid new one follows two =
    one_then (PutsInTurn puts) (PutsDone puts) (PutsInTurn more) (PutsInTurn (puts ++ more)) old mid new one follows two
    (first_in_turn puts more) (later_in_turn puts more)

pub puts_then_done : (puts more : List Put) (old mid new : DiskState) → ImagesFollow (PutsDone puts) old mid → ImagesFollow (PutsDone more) mid new → ImagesFollow (PutsDone (puts ++ more)) old new
puts_then_done puts more old mid new one two c now =
    let last = two c now in
    let from = one last.0 last.1 in
    (from.0, from.1, all_done puts more from.0 last.0 c from.2 last.2)

-- one put
pub one_in_turn : (put : Put) (old new : DiskState) → CrashSafe (Puts put.region put.payload) old new → CrashSafe (PutsInTurn (put ∷ [])) old new
one_in_turn put old new one = weaker_step (Puts put.region put.payload) (PutsInTurn (put ∷ [])) old new one (λ d c image step. inl step)

pub one_done : (put : Put) (old new : DiskState) → HasClock new → CrashSafe (Puts put.region put.payload) old new → IsOpen put.region put.payload new → ImagesFollow (PutsDone (put ∷ [])) old new
one_done put old new clock one is_open c now =
    let last = at_the_end (Puts put.region put.payload) old new clock one c now in
    (last.0, last.1, (c, record { others = last.2.others; region = is_open.each c now }, refl))

-- a step of a put is a put
pub closes_put : (r : Region) (payload : List ℕ) (old new : DiskState) → CrashSafe (Closes r) old new → CrashSafe (Puts r payload) old new
closes_put r payload old new one = weaker_step (Closes r) (Puts r payload) old new one
    (λ d c image step. record { others = step.others; region = ⊎_elim (λ same. inl same) (λ none. inr (inl none)) step.region })

pub fills_put : (r : Region) (payload : List ℕ) (old new : DiskState) → CrashSafe (Fills r) old new → CrashSafe (Puts r payload) old new
fills_put r payload old new one = weaker_step (Fills r) (Puts r payload) old new one
    (λ d c image step. record { others = step.others; region = inr (inl step.region) })

pub opens_put : (r : Region) (payload : List ℕ) (old new : DiskState) → CrashSafe (Opens r payload) old new → CrashSafe (Puts r payload) old new
opens_put r payload old new one = weaker_step (Opens r payload) (Puts r payload) old new one
    (λ d c image step. record { others = step.others; region = inr step.region })
