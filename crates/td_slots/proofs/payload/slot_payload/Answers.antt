use Rattle.std.proofs.Common.{◌≡◌, ℕ, ◌+◌, ◌-◌, ◌*◌, ◌≤◌, List, ◌++◌, length, take, replicate, flat_map, ap, ◌∙◌, arith, append_assoc, length-append}
use Rattle.std.proofs.lemmas.List.{take_all}
use Rattle.td_stamp.specs.declared.values.State.{State}
use Rattle.td_gate.specs.Fields.{number_bytes}
use Rattle.td_gate.specs.Reading.{length_bytes, each_size}
use Rattle.td_slots.specs.Slot.{state_bytes}
use Rattle.td_slots.proofs.ReadBack.{state_size}
use Rattle.td_slots.proofs.payload.slot_payload.Goals as goal

assembled : (m : ℕ) (x : List ((ℕ × ℕ) × State)) (a b c d t u : List ℕ) (len v : ℕ) → length a ≡ 8 → length b ≡ 8 → length c ≡ 4 → length d ≡ 4 → length x ≤ m
    → t ≡ (a ++ (b ++ (c ++ d))) ++ flat_map state_bytes x → len ≡ 24 + 32 * m → v ≡ length t → u ≡ take len t ++ replicate (len - v) 0
    → u ≡ (a ++ (b ++ (c ++ d))) ++ (flat_map state_bytes x ++ replicate (32 * (m - length x)) 0)
assembled m x a b c d t u len v la lb lc ld few is long whole resized =
    let entries : length (flat_map state_bytes x) ≡ 32 * length x = each_size state_bytes 32 state_size x in
    let size : length t ≡ 24 + 32 * length x = ap length is ∙ omega (arith, length-append (a ++ (b ++ (c ++ d))) (flat_map state_bytes x), length-append a (b ++ (c ++ d)), length-append b (c ++ d), length-append c d, la, lb, lc, ld, entries) in
    let all : take len t ≡ t = take_all len t (omega (arith, size, long, few)) in
    let rest : len - v ≡ 32 * (m - length x) = omega (arith, size, long, whole, few) in
    resized ∙ ap (λ (l : List ℕ). l ++ replicate (len - v) 0) (all ∙ is) ∙ ap (λ (n : ℕ). ((a ++ (b ++ (c ++ d))) ++ flat_map state_bytes x) ++ replicate n 0) rest
    ∙ append_assoc (a ++ (b ++ (c ++ d))) (flat_map state_bytes x) (replicate (32 * (m - length x)) 0)

pub returns-clause-ok : goal.returns-clause-ok
returns-clause-ok c =
    let x = c.args.states.now in
    let a = number_bytes 8 c.args.epoch in
    let b = number_bytes 8 c.args.last in
    let n = number_bytes 4 (length x) in
    let z = number_bytes 4 0 in
    let t = c.push_states.new.payload.items in
    let front : c.push.new.payload.items ≡ a ++ (b ++ (n ++ z)) =
    c.in_ok-push.ensures ∙ ap (λ (l : List ℕ). l ++ (a ++ (b ++ (number_bytes 4 c.len.result ++ z)))) c.in_ok-payload.ensures.items ∙ ap (λ (k : ℕ). a ++ (b ++ (number_bytes 4 k ++ z))) c.len.ensures in
    let is : t ≡ (a ++ (b ++ (n ++ z))) ++ flat_map state_bytes x = c.in_ok-push_states.ensures.ok ∙ ap (λ (l : List ℕ). l ++ flat_map state_bytes x) front in
    assembled c.args.k x a b n z t c.resize.new.self.items (24 + 32 * c.args.k) c.push_states.new.payload.len
    (length_bytes 8 c.args.epoch) (length_bytes 8 c.args.last) (length_bytes 4 (length x)) (length_bytes 4 0) c.requires.few
    is (omega arith) (omega (arith, c.push_states.new.payload.ok.0)) c.in_ok-resize.ensures.items
