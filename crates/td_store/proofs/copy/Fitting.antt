-- Where there is no fault there is room.
use Rattle.std.proofs.Common.{◌≡◌, if◌then◌else◌, ℕ, ◌+◌, ◌≤◌, nat_lt, Bool, true, false, List, [], ◌∷◌, length, refl, Option, Some, None}
use Rattle.std.specs.Prelude.{All}
use Rattle.std.proofs.lemmas.Bool.{ltb-false}
use Rattle.std.proofs.lemmas.List.Elements.{All-nil, All-cons}
use Rattle.td_head.specs.Layout.{Sizes}
use Rattle.td_journal.specs.declared.payload.Submitted.{Submitted}
use Rattle.td_store.specs.standing.Standing.{Standing}
use Rattle.td_store.specs.declared.copy.error.CopyError.{CopyError}
use Rattle.td_store.specs.declared.copy.error.CopyError.TheVariants.{TooManyKeys, Full, TooManyRecords}
use Rattle.td_store.specs.copy.Room.{large_epoch, room_fault, HasRoomFor}

-- of a test and what comes after it
passed : (b : Bool) (e : CopyError) (rest : Option CopyError) → (if b then Some e else rest) ≡ None → (b ≡ false) × (rest ≡ None)
passed true e rest none = absurd cc
passed false e rest none = (refl, none)

none_large : (m e : ℕ) (w : List Submitted) → large_epoch m e w ≡ None → All (λ x. length x.batch ≤ m) w
none_large m e [] none = All-nil (λ (x : Submitted). length x.batch ≤ m)
none_large m e (x ∷ w) none =
    let parts = passed (nat_lt m (length x.batch)) (TooManyRecords e (length x.batch) m) (large_epoch m (e + 1) w) none in
    All-cons (λ (y : Submitted). length y.batch ≤ m) x w (ltb-false m (length x.batch) parts.0) (none_large m (e + 1) w parts.1)

pub has_room : (sizes : Sizes) (s : Standing) → room_fault sizes s ≡ None → HasRoomFor sizes s
has_room sizes s none =
    let rest = large_epoch sizes.m (s.epoch + 1) s.submitted in
    let more = if nat_lt sizes.n (length s.submitted) then Some (Full (length s.submitted) sizes.n) else rest in
    let one = passed (nat_lt sizes.k (length s.states)) (TooManyKeys (length s.states) sizes.k) more none in
    let two = passed (nat_lt sizes.n (length s.submitted)) (Full (length s.submitted) sizes.n) rest one.1 in
    record { states = ltb-false sizes.k (length s.states) one.0; epochs = ltb-false sizes.n (length s.submitted) two.0; records = none_large sizes.m (s.epoch + 1) s.submitted two.1 }
