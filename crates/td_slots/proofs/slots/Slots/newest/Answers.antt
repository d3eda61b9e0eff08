use Rattle.std.proofs.Common.{arith, ◌≡◌, ℕ, Bool, false, ◌<◌, ◌≤◌, ◌^◌, true, nat_lt, ◌&&◌, List, Option, Some, None, sym, ap, ◌∙◌, subst, Ok}
use Rattle.std.specs.Prelude.{Vec}
use Rattle.std.specs.declared.alloc.Global.{Global}
use Rattle.std.proofs.lemmas.Bool.{and_parts, ltb-true}
use Rattle.td_gate.specs.declared.fields.Front.{Front}
use Rattle.td_gate.specs.Fields.{front_in, is_plain}
use Rattle.td_gate.specs.Region.{opened, payload_of}
use Rattle.td_slots.specs.Slot.{slot, is_last, is_front, are_states, is_slot, states_in}
use Rattle.td_slots.specs.Newest.{newest, newest_in}
use Rattle.td_slots.specs.Parsed.{IsValid, newer_of, chosen_of, second_payload_if}
use Rattle.td_slots.proofs.Reading.{Valid, HasPick, has_newer, picked, both_read}
use Rattle.td_slots.proofs.slots.Slots.newest.Goals as goal

-- a payload that was read and is valid
valid_of : (version : ℕ) (folds : List ℕ) (k : ℕ) (o : Option (Vec ℕ Global)) → IsValid version folds k o → Valid version folds k (payload_of o)
valid_of version folds k None valid = tt
valid_of version folds k (Some v) valid = valid

-- so is the one that was chosen
chosen : (version : ℕ) (folds : List ℕ) (k : ℕ) (a b : Option (Vec ℕ Global)) (o : Option (ℕ × Vec ℕ Global)) (side : ℕ) (v : Vec ℕ Global)
    → IsValid version folds k a → IsValid version folds k b → chosen_of o ≡ newer_of (payload_of a) (payload_of b) → o ≡ Some (side, v) → is_slot version folds k v.items ≡ true
chosen version folds k a b o side v va vb newer is =
    let P : List ℕ → Type 0 = λ bytes. is_slot version folds k bytes ≡ true in
    subst (HasPick P) (sym newer ∙ ap chosen_of is) (has_newer P (payload_of a) (payload_of b) (valid_of version folds k a va) (valid_of version folds k b vb))

-- the one that was chosen stands in slot 0 or 1
abbrev side_of : Option (ℕ × List ℕ) → ℕ
side_of None = 0
side_of (Some pick) = pick.0

low_if : (b : Bool) (p q : List ℕ) → (second_payload_if b p q).0 ≤ 1
low_if true p q = omega arith
low_if false p q = omega arith

low_side : (a b : Option (List ℕ)) → side_of (newer_of a b) ≤ 1
low_side None None = omega arith
low_side (Some p) None = omega arith
low_side None (Some q) = omega arith
low_side (Some p) (Some q) = low_if (nat_lt (front_in p).epoch (front_in q).epoch) p q

parts : (version : ℕ) (folds : List ℕ) (k : ℕ) (bytes : List ℕ) → is_slot version folds k bytes ≡ true
    → ((front_in bytes).epoch < 2 ^ 63) × (is_last version (front_in bytes).request ≡ true) × (are_states folds (states_in bytes) ≡ true)
parts version folds k bytes valid =
    let f = front_in bytes in
    let both = and_parts (is_front version k f) (are_states folds (states_in bytes)) valid in
    let epoch = and_parts (nat_lt f.epoch (2 ^ 63)) (is_last version f.request && is_plain k f) both.0 in
    let last = and_parts (is_last version f.request) (is_plain k f) epoch.1 in
    (ltb-true f.epoch (2 ^ 63) epoch.0, last.0, both.1)

pub states_of-requires-clause-valid : goal.states_of-requires-clause-valid
states_of-requires-clause-valid g c =
    let folds = c.args.folds.now in
    let k = c.args.self.now.k in
    let p = c.in-Some.payload in
    let valid = chosen c.args.version folds k c.in_ok-first.first c.in_ok-second.second c.newer.result c.in-Some.slot p c.in_ok-first.ensures.valid c.in_ok-second.ensures.valid c.newer.ensures c.in-Some.is in
    ap (λ (bytes : List ℕ). are_states folds (states_in bytes)) c.deref-2.ensures.value ∙ (parts c.args.version folds k p.items valid).2

pub returns-clause-may_be : goal.returns-clause-may_be
returns-clause-may_be g c =
    let folds = c.args.folds.now in
    let k = c.args.self.now.k in
    let p = c.in-Some.payload in
    let valid = chosen c.args.version folds k c.in_ok-first.first c.in_ok-second.second c.newer.result c.in-Some.slot p c.in_ok-first.ensures.valid c.in_ok-second.ensures.valid c.newer.ensures c.in-Some.is in
    record {
      slot = subst (λ (o : Option (ℕ × List ℕ)). side_of o ≤ 1) (sym c.newer.ensures ∙ ap chosen_of c.in-Some.is) (low_side (payload_of c.in_ok-first.first) (payload_of c.in_ok-second.second));
      small = subst (λ (n : ℕ). n < 2 ^ 63) (sym (ap (λ (f : Front). f.epoch) (c.read-front.ensures ∙ ap front_in c.deref.ensures.value))) (parts c.args.version folds k p.items valid).0;
      last = ap (λ (f : Front). is_last c.args.version f.request) (c.read-front.ensures ∙ ap front_in c.deref.ensures.value) ∙ (parts c.args.version folds k p.items valid).1;
      states = ap (are_states folds) (c.in_ok-states_of.ensures ∙ ap states_in c.deref-2.ensures.value) ∙ (parts c.args.version folds k p.items valid).2;
    }

pub returns-clause-told : goal.returns-clause-told
returns-clause-told g c lawful =
    let view = g.D.Disk.view in
    let version = c.args.version in
    let folds = c.args.folds.now in
    let s = c.args.self.now in
    let a = c.in_ok-first.first in
    let b = c.in_ok-second.second in
    let p = c.in-Some.payload in
    let image = (view c.args.device.now).state.bytes in
    let still = c.in_ok-first.ensures.read.lawful.0 lawful in
    let second : payload_of b ≡ opened (slot s 1) image = c.in_ok-second.ensures.found still ∙ ap (opened (slot s 1)) (c.in_ok-first.ensures.read.same lawful) in
    let read : newest version folds s image ≡ picked (newer_of (payload_of a) (payload_of b)) =
    (λ i. newest_in version folds s.k (sym (c.in_ok-first.ensures.found lawful) i) (sym second i))
    ∙ both_read version folds s.k (payload_of a) (payload_of b) (valid_of version folds s.k a c.in_ok-first.ensures.valid) (valid_of version folds s.k b c.in_ok-second.ensures.valid) in
    let epoch : (front_in p.items).epoch ≡ c.read-front.result.epoch = sym (ap (λ (f : Front). f.epoch) (c.read-front.ensures ∙ ap front_in c.deref.ensures.value)) in
    let last : (front_in p.items).request ≡ c.read-front.result.request = sym (ap (λ (f : Front). f.request) (c.read-front.ensures ∙ ap front_in c.deref.ensures.value)) in
    let states : states_in p.items ≡ c.in_ok-states_of.field-0 = sym (c.in_ok-states_of.ensures ∙ ap states_in c.deref-2.ensures.value) in
    read ∙ ap picked (sym c.newer.ensures ∙ ap chosen_of c.in-Some.is)
    ∙ (λ i. Ok (record { slot = c.in-Some.slot; epoch = epoch i; last = last i; states = states i }))

pub returns-in_default-clause-read : goal.returns-in_default-clause-read
returns-in_default-clause-read g c = c.reads_in_turn.ensures.read _ _ _ c.in_ok-first.ensures.read c.in_ok-second.ensures.read

pub returns-clause-read : goal.returns-clause-read
returns-clause-read g c = c.reads_in_turn.ensures.read _ _ _ c.in_ok-first.ensures.read c.in_ok-second.ensures.read
