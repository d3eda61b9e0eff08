-- Where no refusal of a submit holds.
use Rattle.std.proofs.Common.{◌≡◌, ◌==◌, ℕ, ◌+◌, ◌^◌, ◌<◌, ◌≤◌, Bool, true, false, ◌&&◌, ◌||◌, not, nat_lt, nat_le, List, [], ◌∷◌, length, refl, sym, ◌∙◌, arith}
use Rattle.std.specs.Prelude.{Option, Some, None, if◌then◌else◌}
use Rattle.std.proofs.lemmas.Bool.{ltb-false, leb-false, lt-ltb}
use Rattle.td_stamp.specs.declared.values.Entry.{Entry}
use Rattle.td_machine.specs.Steps.{accepts}
use Rattle.td_store.specs.declared.standing.error.KeeperError.{KeeperError}
use Rattle.td_store.specs.declared.standing.error.KeeperError.TheVariants.{Broken, NoSuchInput, TooManyRecords, Epochs, Full, Device, OldVersion}
use Rattle.td_journal.specs.declared.payload.Submitted.{Submitted}
use Rattle.td_store.specs.group.Groups.{AreFresh, may_follow}
use Rattle.td_store.specs.standing.Standing.{Standing, last_epoch, last_request}
use Rattle.td_keeper.specs.declared.submit_all.GroupError.{GroupError}
use Rattle.td_keeper.specs.declared.submit_all.GroupError.TheVariants.{Repeated, Keeper}
use Rattle.td_keeper.specs.Keeping.{Keeping}
use Rattle.td_keeper.specs.Refused.{submit_refusal, group_refusal, has_number, all_accepted, all_few}

pub record IsAccepted {D : Type 0} (k : Keeping D) (batch : List Entry) : Type 0 where
  pub whole : k.broken ≡ false
  pub named : accepts k.plan batch ≡ true
  pub few : length batch ≤ k.head.shape.m
  pub small : last_epoch k.standing + 1 < 2 ^ 63
  pub room : length k.standing.submitted < k.head.shape.n

-- the first of five
abbrev pub first : Bool → Bool → Bool → Bool → Bool → Option KeeperError
first a b c d e = if a then Some Broken else (if b then Some NoSuchInput else (if c then Some TooManyRecords else (if d then Some Epochs else (if e then Some Full else None))))

none_of : (a b c d e : Bool) → first a b c d e ≡ None → (a ≡ false) × (b ≡ false) × (c ≡ false) × (d ≡ false) × (e ≡ false)
none_of true b c d e is = absurd cc
none_of false true c d e is = absurd cc
none_of false false true d e is = absurd cc
none_of false false false true e is = absurd cc
none_of false false false false true is = absurd cc
none_of false false false false false is = (refl, refl, refl, refl, refl)

holds : (b : Bool) → not b ≡ false → b ≡ true
holds true is = refl
holds false is = absurd cc

pub accepted : {D : Type 0} (k : Keeping D) (batch : List Entry) → submit_refusal k batch ≡ None → IsAccepted k batch
accepted k batch is =
    let n = none_of k.broken (not (accepts k.plan batch)) (nat_lt k.head.shape.m (length batch)) (nat_le (2 ^ 63) (last_epoch k.standing + 1)) (nat_le k.head.shape.n (length k.standing.submitted)) is in
    record {
      whole = n.0;
      named = holds (accepts k.plan batch) n.1;
      few = omega (arith, ltb-false k.head.shape.m (length batch) n.2);
      small = omega (arith, leb-false (2 ^ 63) (last_epoch k.standing + 1) n.3);
      room = omega (arith, leb-false k.head.shape.n (length k.standing.submitted) n.4);
    }

-- the device is none of them
none_is_device : (a b c d e : Bool) → first a b c d e ≡ Some Device → ⊥
none_is_device true b c d e is = absurd cc
none_is_device false true c d e is = absurd cc
none_is_device false false true d e is = absurd cc
none_is_device false false false true e is = absurd cc
none_is_device false false false false true is = absurd cc
none_is_device false false false false false is = absurd cc

pub never_device : {D : Type 0} (k : Keeping D) (batch : List Entry) → submit_refusal k batch ≡ Some Device → ⊥
never_device k batch is = none_is_device k.broken (not (accepts k.plan batch)) (nat_lt k.head.shape.m (length batch)) (nat_le (2 ^ 63) (last_epoch k.standing + 1)) (nat_le k.head.shape.n (length k.standing.submitted)) is

-- A GROUP: the first of seven
abbrev choose : Bool → Bool → Bool → Bool → Bool → Bool → Bool → Option GroupError
choose a b c d e f g =
    if a then Some (Keeper Broken) else (if b then Some (Keeper OldVersion) else (if c then Some Repeated else (if d then Some (Keeper NoSuchInput)
    else (if e then Some (Keeper TooManyRecords) else (if f then Some (Keeper Epochs) else (if g then Some (Keeper Full) else None))))))

none_of_all : (a b c d e f g : Bool) → choose a b c d e f g ≡ None → (a ≡ false) × (b ≡ false) × (c ≡ false)
none_of_all true b c d e f g is = absurd cc
none_of_all false true c d e f g is = absurd cc
none_of_all false false true d e f g is = absurd cc
none_of_all false false false true e f g is = absurd cc
none_of_all false false false false true f g is = absurd cc
none_of_all false false false false false true g is = absurd cc
none_of_all false false false false false false true is = absurd cc
none_of_all false false false false false false false is = (refl, refl, refl)

device_of_all : (a b c d e f g : Bool) → choose a b c d e f g ≡ Some (Keeper Device) → ⊥
device_of_all true b c d e f g is = absurd cc
device_of_all false true c d e f g is = absurd cc
device_of_all false false true d e f g is = absurd cc
device_of_all false false false true e f g is = absurd cc
device_of_all false false false false true f g is = absurd cc
device_of_all false false false false false true g is = absurd cc
device_of_all false false false false false false true is = absurd cc
device_of_all false false false false false false false is = absurd cc

pub group_never_device : {D : Type 0} (k : Keeping D) (group : List Submitted) → group_refusal k group ≡ Some (Keeper Device) → ⊥
group_never_device k group is =
    device_of_all k.broken (has_number group && nat_lt k.head.version 2) (not (may_follow (Some (last_request k.standing)) group)) (not (all_accepted k.plan group)) (not (all_few k.head.shape.m group))
    (nat_le (2 ^ 63) (last_epoch k.standing + length group)) (nat_lt k.head.shape.n (length k.standing.submitted + length group)) is

-- without numbers it may stand in either version
unnumbered : (group : List Submitted) → has_number group ≡ false → may_follow None group ≡ true
unnumbered [] is = refl
unnumbered (x ∷ xs) is = by (x.request == 0) is (unnumbered xs)
  where
    by : (b : Bool) → (not b || has_number xs) ≡ false → (has_number xs ≡ false → may_follow None xs ≡ true) → (b && may_follow None xs) ≡ true
    by true none rest = rest none
    by false none rest = absurd (let no : true ≡ false = none in cc)

no_number : (a b : Bool) → b ≡ true → (a && b) ≡ false → a ≡ false
no_number true b is none = absurd (let no : true ≡ false = sym is ∙ none in cc)
no_number false b is none = refl

fresh_of : (version : ℕ) (s : Standing) (group : List Submitted) → (has_number group && nat_lt version 2) ≡ false → may_follow (Some (last_request s)) group ≡ true → AreFresh version s group
fresh_of version s group numbers rises = by (nat_le 2 version) refl
  where
    by : (b : Bool) → nat_le 2 version ≡ b → may_follow (elim b [ true ↦ Some (last_request s) | false ↦ None ]) group ≡ true
    by true is = rises
    by false is = let low : version < 2 = omega (arith, leb-false 2 version is) in unnumbered group (no_number (has_number group) (nat_lt version 2) (lt-ltb version 2 low) numbers)

-- a group that is not refused
pub group_fresh : {D : Type 0} (k : Keeping D) (group : List Submitted) → group_refusal k group ≡ None → AreFresh k.head.version k.standing group
group_fresh k group is =
    let n = none_of_all k.broken (has_number group && nat_lt k.head.version 2) (not (may_follow (Some (last_request k.standing)) group)) (not (all_accepted k.plan group)) (not (all_few k.head.shape.m group))
    (nat_le (2 ^ 63) (last_epoch k.standing + length group)) (nat_lt k.head.shape.n (length k.standing.submitted + length group)) is in
    fresh_of k.head.version k.standing group n.1 (holds (may_follow (Some (last_request k.standing)) group) n.2)
