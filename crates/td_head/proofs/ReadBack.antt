-- What is written into a head is read back.
use Rattle.std.proofs.Common.{◌≡◌, ℕ, ◌+◌, ◌-◌, ◌<◌, ◌≤◌, ◌^◌, true, nat_le, ◌&&◌, List, ◌++◌, length, take, drop, replicate, codes, Some, refl, ap, ◌∙◌, arith}
use Rattle.std.proofs.lemmas.List.{take_at, length-append, length-replicate}
use Rattle.std.proofs.lemmas.Bool.{and_parts, leb-true}
use Rattle.td_gate.specs.Fields.{number_at, number_bytes}
use Rattle.td_gate.specs.Reading.{length_bytes, passed_over, number_past, number_first}
use Rattle.td_head.specs.Layout.{Sizes, is_shape, head_len}
use Rattle.td_head.specs.Head.{Fields, head_bytes, fields_in, candidate}

module _ (t v g m n k l rest : List ℕ) (et : length t ≡ 4) (ev : length v ≡ 4) (eg : length g ≡ 8) (em : length m ≡ 4) (en : length n ≡ 4) (ek : length k ≡ 4) (el : length l ≡ 4) where
  abbrev all : List ℕ
  all = t ++ (v ++ (g ++ (m ++ (n ++ (k ++ (l ++ rest))))))

  at_version : number_at 4 4 all ≡ number_at 4 0 (v ++ (g ++ (m ++ (n ++ (k ++ (l ++ rest))))))
  at_version = number_past 4 4 0 t (v ++ (g ++ (m ++ (n ++ (k ++ (l ++ rest)))))) et

  at_generation : number_at 8 8 all ≡ number_at 8 0 (g ++ (m ++ (n ++ (k ++ (l ++ rest)))))
  at_generation = number_past 8 4 4 t (v ++ (g ++ (m ++ (n ++ (k ++ (l ++ rest)))))) et ∙ number_past 8 4 0 v (g ++ (m ++ (n ++ (k ++ (l ++ rest))))) ev

  after_16 : (more : ℕ) → number_at 4 (16 + more) all ≡ number_at 4 more (m ++ (n ++ (k ++ (l ++ rest))))
  after_16 more =
      let a : 16 + more ≡ 4 + (12 + more) = omega arith in
      let b : 12 + more ≡ 4 + (8 + more) = omega arith in
      ap (λ (i : ℕ). number_at 4 i all) a ∙ number_past 4 4 (12 + more) t (v ++ (g ++ (m ++ (n ++ (k ++ (l ++ rest)))))) et
      ∙ ap (λ (i : ℕ). number_at 4 i (v ++ (g ++ (m ++ (n ++ (k ++ (l ++ rest))))))) b ∙ number_past 4 4 (8 + more) v (g ++ (m ++ (n ++ (k ++ (l ++ rest))))) ev
      ∙ number_past 4 8 more g (m ++ (n ++ (k ++ (l ++ rest)))) eg

  at_n : number_at 4 20 all ≡ number_at 4 0 (n ++ (k ++ (l ++ rest)))
  at_n = after_16 4 ∙ number_past 4 4 0 m (n ++ (k ++ (l ++ rest))) em

  at_k : number_at 4 24 all ≡ number_at 4 0 (k ++ (l ++ rest))
  at_k = after_16 8 ∙ number_past 4 4 4 m (n ++ (k ++ (l ++ rest))) em ∙ number_past 4 4 0 n (k ++ (l ++ rest)) en

  at_len : number_at 4 28 all ≡ number_at 4 0 (l ++ rest)
  at_len = after_16 12 ∙ number_past 4 4 8 m (n ++ (k ++ (l ++ rest))) em ∙ number_past 4 4 4 n (k ++ (l ++ rest)) en ∙ number_past 4 4 0 k (l ++ rest) ek

  after_32 : drop 32 all ≡ rest
  after_32 = passed_over 4 28 t (v ++ (g ++ (m ++ (n ++ (k ++ (l ++ rest)))))) et ∙ passed_over 4 24 v (g ++ (m ++ (n ++ (k ++ (l ++ rest))))) ev
      ∙ passed_over 8 16 g (m ++ (n ++ (k ++ (l ++ rest)))) eg ∙ passed_over 4 12 m (n ++ (k ++ (l ++ rest))) em
      ∙ passed_over 4 8 n (k ++ (l ++ rest)) en ∙ passed_over 4 4 k (l ++ rest) ek ∙ passed_over 4 0 l rest el

  all_size : length all ≡ 32 + length rest
  all_size = omega (
    arith,
    et,
    ev,
    eg,
    em,
    en,
    ek,
    el,
    length-append t (v ++ (g ++ (m ++ (n ++ (k ++ (l ++ rest)))))),
    length-append v (g ++ (m ++ (n ++ (k ++ (l ++ rest))))),
    length-append g (m ++ (n ++ (k ++ (l ++ rest)))),
    length-append m (n ++ (k ++ (l ++ rest))),
    length-append n (k ++ (l ++ rest)),
    length-append k (l ++ rest),
    length-append l rest,
  )

-- limits of a shape
limits : (s : Sizes) → is_shape s ≡ true → (s.m < 2 ^ 32) × (s.n < 2 ^ 32) × (s.k < 2 ^ 32)
limits s is =
    let one = and_parts (nat_le 1 s.m && nat_le s.m 65536 && (nat_le 1 s.n && nat_le s.n 65536)) (nat_le 1 s.k && nat_le s.k 1048576) is in
    let two = and_parts (nat_le 1 s.m && nat_le s.m 65536) (nat_le 1 s.n && nat_le s.n 65536) one.0 in
    let m = leb-true s.m 65536 (and_parts (nat_le 1 s.m) (nat_le s.m 65536) two.0).1 in
    let n = leb-true s.n 65536 (and_parts (nat_le 1 s.n) (nat_le s.n 65536) two.1).1 in
    let k = leb-true s.k 1048576 (and_parts (nat_le 1 s.k) (nat_le s.k 1048576) one.1).1 in
    (omega (arith, m), omega (arith, n), omega (arith, k))

pub head_size : (v g : ℕ) (sizes : Sizes) (text : List ℕ) → length text ≤ 4096 → length (head_bytes v g sizes text) ≡ head_len
head_size v g sizes text few =
    let tail = text ++ replicate (4096 - length text) 0 in
    let tag_size : length (codes "TDFL") ≡ 4 = refl in
    all_size (codes "TDFL") (number_bytes 4 v) (number_bytes 8 g) (number_bytes 4 sizes.m) (number_bytes 4 sizes.n) (number_bytes 4 sizes.k) (number_bytes 4 (length text)) tail
    tag_size (length_bytes 4 v) (length_bytes 8 g) (length_bytes 4 sizes.m) (length_bytes 4 sizes.n) (length_bytes 4 sizes.k) (length_bytes 4 (length text))
    ∙ omega (arith, few, length-append text (replicate (4096 - length text) 0), length-replicate {A = ℕ} (4096 - length text) 0)

module _ (side number generation : ℕ) (sizes : Sizes) (text : List ℕ) (num : number < 2 ^ 32) (gen : generation < 2 ^ 64) (shape : is_shape sizes ≡ true) (few : length text ≤ 4096) where
  abbrev tail : List ℕ
  tail = text ++ replicate (4096 - length text) 0

  tag_size : length (codes "TDFL") ≡ 4
  tag_size = refl

  pub fields_back : fields_in side (head_bytes number generation sizes text) ≡ record { side = side; version = number; generation = generation; sizes = sizes; text_len = length text; text = text }
  fields_back =
      let t = codes "TDFL" in
      let v = number_bytes 4 number in
      let g = number_bytes 8 generation in
      let m = number_bytes 4 sizes.m in
      let n = number_bytes 4 sizes.n in
      let k = number_bytes 4 sizes.k in
      let l = number_bytes 4 (length text) in
      let ev = length_bytes 4 number in
      let eg = length_bytes 8 generation in
      let em = length_bytes 4 sizes.m in
      let en = length_bytes 4 sizes.n in
      let ek = length_bytes 4 sizes.k in
      let el = length_bytes 4 (length text) in
      let fit = limits sizes shape in
      let version : number_at 4 4 (head_bytes number generation sizes text) ≡ number = at_version t v g m n k l tail tag_size ev eg em en ek el ∙ number_first 4 number (g ++ (m ++ (n ++ (k ++ (l ++ tail))))) num in
      let gens : number_at 8 8 (head_bytes number generation sizes text) ≡ generation = at_generation t v g m n k l tail tag_size ev eg em en ek el ∙ number_first 8 generation (m ++ (n ++ (k ++ (l ++ tail)))) gen in
      let ms : number_at 4 16 (head_bytes number generation sizes text) ≡ sizes.m = after_16 t v g m n k l tail tag_size ev eg em en ek el 0 ∙ number_first 4 sizes.m (n ++ (k ++ (l ++ tail))) fit.0 in
      let ns : number_at 4 20 (head_bytes number generation sizes text) ≡ sizes.n = at_n t v g m n k l tail tag_size ev eg em en ek el ∙ number_first 4 sizes.n (k ++ (l ++ tail)) fit.1 in
      let ks : number_at 4 24 (head_bytes number generation sizes text) ≡ sizes.k = at_k t v g m n k l tail tag_size ev eg em en ek el ∙ number_first 4 sizes.k (l ++ tail) fit.2 in
      let ls : number_at 4 28 (head_bytes number generation sizes text) ≡ length text = at_len t v g m n k l tail tag_size ev eg em en ek el ∙ number_first 4 (length text) tail (omega (arith, few)) in
      let texts : take (number_at 4 28 (head_bytes number generation sizes text)) (drop 32 (head_bytes number generation sizes text)) ≡ text =
      ap (λ (i : ℕ). take i (drop 32 (head_bytes number generation sizes text))) ls ∙ ap (take (length text)) (after_32 t v g m n k l tail tag_size ev eg em en ek el) ∙ take_at text (replicate (4096 - length text) 0) (length text) refl in
      λ i. record { side = side; version = version i; generation = gens i; sizes = record { m = ms i; n = ns i; k = ks i }; text_len = ls i; text = texts i }

  pub candidate_back : candidate side (Some (head_bytes number generation sizes text)) ≡ Some (record { side = side; version = number; generation = generation; sizes = sizes; text_len = length text; text = text })
  candidate_back = ap (λ (f : Fields). Some f) fields_back
