use Rattle.std.proofs.Common.{◌≡◌, ℕ, ◌+◌, ◌-◌, ◌≤◌, List, [], ◌++◌, length, take, replicate, codes, ap, ◌∙◌, arith, append_assoc, length-append}
use Rattle.std.proofs.lemmas.List.{take_all}
use Rattle.td_gate.specs.Fields.{number_bytes}
use Rattle.td_gate.specs.Reading.{length_bytes}
use Rattle.td_head.proofs.put.head_payload.Goals as goal

in_turn : (o t v g m n k l x p q r s e f h w : List ℕ) → o ≡ [] → p ≡ o ++ t → q ≡ p ++ v → r ≡ q ++ g → s ≡ r ++ m → e ≡ s ++ n → f ≡ e ++ k → h ≡ f ++ l → w ≡ h ++ x
    → w ≡ t ++ (v ++ (g ++ (m ++ (n ++ (k ++ (l ++ x))))))
in_turn o t v g m n k l x p q r s e f h w none a b c d i j y z =
    z ∙ ap (λ (a : List ℕ). a ++ x) (y ∙ ap (λ (a : List ℕ). a ++ l) (j ∙ ap (λ (a : List ℕ). a ++ k) (i ∙ ap (λ (a : List ℕ). a ++ n) (d ∙ ap (λ (a : List ℕ). a ++ m)
    (c ∙ ap (λ (a : List ℕ). a ++ g) (b ∙ ap (λ (a : List ℕ). a ++ v) (a ∙ ap (λ (a : List ℕ). a ++ t) none))))))) ∙ simp append_assoc

assembled : (t v g m n k l x w u : List ℕ) (z : ℕ) → length t ≡ 4 → length v ≡ 4 → length g ≡ 8 → length m ≡ 4 → length n ≡ 4 → length k ≡ 4 → length l ≡ 4 → length x ≤ 4096
    → w ≡ t ++ (v ++ (g ++ (m ++ (n ++ (k ++ (l ++ x)))))) → z ≡ length w → u ≡ take 4128 w ++ replicate (4128 - z) 0
    → u ≡ t ++ (v ++ (g ++ (m ++ (n ++ (k ++ (l ++ (x ++ replicate (4096 - length x) 0)))))))
assembled t v g m n k l x w u z et ev eg em en ek el few is long resized =
    let size : length w ≡ 32 + length x = ap length is ∙ omega (
      arith,
      et,
      ev,
      eg,
      em,
      en,
      ek,
      el,
      length-append t (v ++ (g ++ (m ++ (n ++ (k ++ (l ++ x)))))),
      length-append v (g ++ (m ++ (n ++ (k ++ (l ++ x))))),
      length-append g (m ++ (n ++ (k ++ (l ++ x)))),
      length-append m (n ++ (k ++ (l ++ x))),
      length-append n (k ++ (l ++ x)),
      length-append k (l ++ x),
      length-append l x,
    ) in
    let all : take 4128 w ≡ w = take_all 4128 w (omega (arith, size, few)) in
    let rest : 4128 - z ≡ 4096 - length x = omega (arith, size, long, few) in
    resized ∙ ap (λ (a : List ℕ). a ++ replicate (4128 - z) 0) (all ∙ is) ∙ ap (λ (i : ℕ). (t ++ (v ++ (g ++ (m ++ (n ++ (k ++ (l ++ x))))))) ++ replicate i 0) rest
    ∙ simp append_assoc

pub returns : goal.returns
returns c =
    let s = c.args.shape in
    let x = c.args.text.now in
    let t = codes "TDFL" in
    let v = number_bytes 4 2 in
    let g = number_bytes 8 c.args.generation in
    let m = number_bytes 4 s.m in
    let n = number_bytes 4 s.n in
    let k = number_bytes 4 s.k in
    let l = number_bytes 4 (length x) in
    let w = c.extend_from_slice-2.new.self.items in
    let is : w ≡ t ++ (v ++ (g ++ (m ++ (n ++ (k ++ (l ++ x)))))) =
    in_turn c.in_ok-payload.payload.items t v g m n k l x c.extend_from_slice.new.self.items c.push_u32.new.payload.items c.push_u64.new.payload.items c.push_u32-2.new.payload.items
    c.push_u32-3.new.payload.items c.push_u32-4.new.payload.items c.push_u32-5.new.payload.items w
    c.in_ok-payload.ensures.items c.in_ok-extend_from_slice.ensures.items c.in_ok-push_u32.ensures c.in_ok-push_u64.ensures
    (c.in_ok-push_u32-2.ensures ∙ ap (λ (i : ℕ). c.push_u64.new.payload.items ++ number_bytes 4 i) c.records.ensures)
    (c.in_ok-push_u32-3.ensures ∙ ap (λ (i : ℕ). c.push_u32-2.new.payload.items ++ number_bytes 4 i) c.cells.ensures)
    (c.in_ok-push_u32-4.ensures ∙ ap (λ (i : ℕ). c.push_u32-3.new.payload.items ++ number_bytes 4 i) c.states.ensures)
    c.in_ok-push_u32-5.ensures
    (c.in_ok-extend_from_slice-2.ensures.items ∙ ap (λ (a : List ℕ). c.push_u32-5.new.payload.items ++ a) c.as_bytes.ensures.value) in
    record {
      ok = assembled t v g m n k l x w c.resize.new.self.items c.extend_from_slice-2.new.self.len (let four : length t ≡ 4 = omega arith in four)
          (length_bytes 4 2) (length_bytes 8 c.args.generation) (length_bytes 4 s.m) (length_bytes 4 s.n) (length_bytes 4 s.k) (length_bytes 4 (length x)) c.requires.few is
          (omega (arith, c.extend_from_slice-2.new.self.ok.0)) c.in_ok-resize.ensures.items;
    }
