-- Runs whose records stand in one list, one run's behind the other's.
use Rattle.std.proofs.Common.{◌≡◌, ℕ, zero, suc, ◌+◌, ◌-◌, ◌<◌, ◌≤◌, ◌⊎◌, inl, inr, min, List, [], ◌∷◌, ◌++◌, map, length, get_or, set, take, drop, refl, sym, ap, ◌∙◌, subst, arith, append_assoc, length-take, length-drop, length-append}
use Rattle.std.proofs.lemmas.List.{drop-take, take-take, drop-drop, take_all, take_at, drop_at, take-append-le, drop-append-le, take-append-drop, length-take-le, map_push}
use Rattle.std.specs.List.{remove}
use Rattle.td_shard.specs.declared.runs.Numbered.{Numbered}
use Rattle.td_shard.specs.declared.runs.Run.{Run}
use Rattle.td_shard.specs.Runs.{Part, part, InOrder, changed_at, without_front, with_more}

cons_same : {X : Type 0} {x y : X} {xs ys : List X} → x ≡ y → xs ≡ ys → x ∷ xs ≡ y ∷ ys
cons_same p q = λ i. p i ∷ q i

-- LISTS
split : (m n : ℕ) → (m ≤ n) ⊎ (n ≤ m)
split zero n = inl (omega arith)
split (suc m) zero = inr (omega arith)
split (suc m) (suc n) = elim (split m n) [ inl h ↦ inl (omega (arith, h)) | inr h ↦ inr (omega (arith, h)) ]

module _ {X : Type 0} where
  -- what lies in the first n is known by these
  pub front_rows : (a m n : ℕ) (xs ys : List X) → a + m ≤ n → take n xs ≡ take n ys → take m (drop a xs) ≡ take m (drop a ys)
  front_rows a m n xs ys h e =
      sym (drop-take a m xs) ∙ (ap (drop a) (sym (take-take (a + m) n xs h) ∙ (ap (take (a + m)) e ∙ take-take (a + m) n ys h)) ∙ drop-take a m ys)

  -- and what lies behind these by what is there
  later : (s t f g : ℕ) (xs ys : List X) → s ≤ f → t ≤ f → f ≤ g → drop (f - s) xs ≡ drop (f - t) ys → drop (g - s) xs ≡ drop (g - t) ys
  later s t f g xs ys hs ht h e =
      let xs_at : f - s + (g - f) ≡ g - s = omega (arith, hs, h) in
      let ys_at : f - t + (g - f) ≡ g - t = omega (arith, ht, h) in
      ap (λ n. drop n xs) (sym xs_at) ∙ (sym (drop-drop (g - f) (f - s) xs) ∙ (ap (drop (g - f)) e ∙ (drop-drop (g - f) (f - t) ys ∙ ap (λ n. drop n ys) ys_at)))

  take_both-by : (m n : ℕ) (xs : List X) → (m ≤ n) ⊎ (n ≤ m) → take m (take n xs) ≡ take (min n m) xs
  take_both-by m n xs (inl h) = let least : min n m ≡ m = omega (arith, h) in take-take m n xs h ∙ ap (λ i. take i xs) (sym least)
  take_both-by m n xs (inr h) =
      let least : min n m ≡ n = omega (arith, h) in
      take_all m (take n xs) (omega (arith, h, length-take n xs)) ∙ ap (λ i. take i xs) (sym least)

  pub take_both : (m n : ℕ) (xs : List X) → take m (take n xs) ≡ take (min n m) xs
  take_both m n xs = take_both-by m n xs (split m n)

  -- one of them before the others
  abbrev pub brought : ℕ → List X → List X
  brought i xs = take 1 (drop i xs) ++ remove xs i

  pub length-brought : (i : ℕ) (xs : List X) → i < length xs → length (brought i xs) ≡ length xs
  length-brought i xs h =
      let one : length (take 1 (drop i xs)) ≡ 1 = omega (arith, h, length-take 1 (drop i xs), length-drop i xs) in
      let front : length (take i xs) ≡ i = omega (arith, h, length-take i xs) in
      omega (arith, h, one, front, length-drop (suc i) xs, length-append (take i xs) (drop (suc i) xs), length-append (take 1 (drop i xs)) (remove xs i))

  pub brought-append : (i : ℕ) (xs ys : List X) → i < length xs → brought i (xs ++ ys) ≡ brought i xs ++ ys
  brought-append i xs ys h =
      let one : take 1 (drop i (xs ++ ys)) ≡ take 1 (drop i xs) = ap (take 1) (drop-append-le i xs ys (omega (arith, h))) ∙ take-append-le 1 (drop i xs) ys (omega (arith, h, length-drop i xs)) in
      let front : take i (xs ++ ys) ≡ take i xs = take-append-le i xs ys (omega (arith, h)) in
      let back : drop (suc i) (xs ++ ys) ≡ drop (suc i) xs ++ ys = drop-append-le (suc i) xs ys (omega (arith, h)) in
      ap (λ l. l ++ remove (xs ++ ys) i) one
      ∙ (ap (λ l. take 1 (drop i xs) ++ (l ++ drop (suc i) (xs ++ ys))) front
      ∙ (ap (λ l. take 1 (drop i xs) ++ (take i xs ++ l)) back
      ∙ (ap (λ l. take 1 (drop i xs) ++ l) (sym (append_assoc (take i xs) (drop (suc i) xs) ys))
      ∙ sym (append_assoc (take 1 (drop i xs)) (remove xs i) ys))))

  -- a list with one of those from a place on, fewer than n of them, before the others of these
  pub record Brought (to n offset : ℕ) (old new : List X) : Type 0 where
    pub size : length new ≡ length old
    pub front : take to new ≡ take to old
    pub back : drop (to + n) new ≡ drop (to + n) old
    pub mid : take n (drop to new) ≡ brought offset (take n (drop to old))

  pub is_brought : (to n offset : ℕ) (old new : List X) → offset < n → to + n ≤ length old → new ≡ take to old ++ brought offset (drop to old) → Brought to n offset old new
  is_brought to n offset old new h fits e =
      let rest = drop to old in
      let zs = take n rest in
      let ws = drop n rest in
      let size : length zs ≡ n = length-take-le n rest (omega (arith, fits, length-drop to old)) in
      let before : length (take to old) ≡ to = length-take-le to old (omega (arith, fits)) in
      let within : offset < length zs = omega (arith, h, size) in
      let parted : brought offset rest ≡ brought offset zs ++ ws = ap (brought offset) (sym (take-append-drop n rest)) ∙ brought-append offset zs ws within in
      let long : length (brought offset zs) ≡ n = length-brought offset zs within ∙ size in
      let behind : drop to new ≡ brought offset zs ++ ws = ap (drop to) e ∙ (drop_at (take to old) (brought offset rest) to before ∙ parted) in
      record {
        size = omega (arith, fits, before, ap length e, length-append (take to old) (brought offset rest), length-brought offset rest (omega (arith, h, fits, length-drop to old)), length-drop to old);
        front = ap (take to) e ∙ take_at (take to old) (brought offset rest) to before;
        back = sym (drop-drop n to new) ∙ (ap (drop n) behind ∙ (drop_at (brought offset zs) ws n long ∙ drop-drop n to old));
        mid = ap (take n) behind ∙ take_at (brought offset zs) ws n long;
      }

-- RUNS IN ORDER
pub in_order-le : (f e : ℕ) (rs : List Run) → InOrder f rs e → f ≤ e
in_order-le f e [] h = h
in_order-le f e (r ∷ rs) h = let g = in_order-le r.end e rs h.2 in omega (arith, g, h.0, h.1)

pub lower : (f g e : ℕ) (rs : List Run) → f ≤ g → InOrder g rs e → InOrder f rs e
lower f g e [] low h = omega (arith, low, h)
lower f g e (r ∷ rs) low h = (omega (arith, low, h.0), h.1, h.2)

-- where the records of a run stand
pub record Stands (f e : ℕ) (r : Run) : Type 0 where
  pub low : f ≤ r.at
  pub some : r.at ≤ r.end
  pub high : r.end ≤ e

pub stands : (f e : ℕ) (rs : List Run) (i : ℕ) (r d : Run) → i < length rs → r ≡ get_or rs i d → InOrder f rs e → Stands f e r
stands f e [] i r d h at l = absurd (omega (arith, h))
stands f e (t ∷ rs) zero r d h at l = subst (Stands f e) (sym at) (record { low = l.0; some = l.1; high = in_order-le t.end e rs l.2 })
stands f e (t ∷ rs) (suc i) r d h at l =
    let s = stands t.end e rs i r d (omega (arith, h)) at l.2 in
    record { low = omega (arith, l.0, l.1, s.low); some = s.some; high = s.high }

pub order-rest : (f e : ℕ) (rs : List Run) → InOrder f rs e → InOrder f (drop 1 rs) e
order-rest f e [] h = h
order-rest f e (r ∷ rs) h = lower f r.end e rs (omega (arith, h.0, h.1)) h.2

pub order-push : (f e g : ℕ) (rs : List Run) (r : Run) → e ≤ r.at → r.at ≤ r.end → r.end ≤ g → InOrder f rs e → InOrder f (rs ++ r ∷ []) g
order-push f e g [] r low some high h = (omega (arith, h, low), some, high)
order-push f e g (t ∷ rs) r low some high h = (h.0, h.1, order-push t.end e g rs r low some high h.2)

-- a run whose end stays may begin later
pub order-set : (f e : ℕ) (rs : List Run) (i : ℕ) (r s d : Run) → i < length rs → r ≡ get_or rs i d → r.at ≤ s.at → s.at ≤ s.end → s.end ≡ r.end → InOrder f rs e → InOrder f (set rs i s) e
order-set f e [] i r s d h at low some high l = l
order-set f e (t ∷ rs) zero r s d h at low some high l =
    let begin : r.at ≡ t.at = ap (λ (x : Run). x.at) at in
    let end : s.end ≡ t.end = high ∙ ap (λ (x : Run). x.end) at in
    (omega (arith, l.0, low, begin), some, subst (λ n. InOrder n rs e) (sym end) l.2)
order-set f e (t ∷ rs) (suc i) r s d h at low some high l = (l.0, l.1, order-set t.end e rs i r s d (omega (arith, h)) at low some high l.2)

-- the last run may end later
pub order-grow : (f e g : ℕ) (rs : List Run) (i : ℕ) (r s d : Run) → suc i ≡ length rs → r ≡ get_or rs i d → r.at ≡ s.at → s.at ≤ s.end → s.end ≤ g → InOrder f rs e → InOrder f (set rs i s) g
order-grow f e g [] i r s d h at same some high l = absurd (omega (arith, h))
order-grow f e g (t ∷ []) zero r s d h at same some high l = (let begin : r.at ≡ t.at = ap (λ (x : Run). x.at) at in omega (arith, l.0, same, begin), some, high)
order-grow f e g (t ∷ u ∷ rs) zero r s d h at same some high l = absurd (omega (arith, h))
order-grow f e g (t ∷ rs) (suc i) r s d h at same some high l = (l.0, l.1, order-grow t.end e g rs i r s d (omega (arith, h)) at same some high l.2)

-- THEIR RECORDS
part_same : (s t : ℕ) (xs ys : List Numbered) (r : Run) → take (r.end - r.at) (drop (r.at - s) xs) ≡ take (r.end - r.at) (drop (r.at - t) ys) → part s xs r ≡ part t ys r
part_same s t xs ys r e = ap (λ (l : List Numbered). record { lane = r.lane; base = r.base; ahead = r.ahead; recs = l }) e

-- records that stand before others
pub before : (s f e n : ℕ) (rs : List Run) (xs ys : List Numbered) → s ≤ f → e ≤ s + n → InOrder f rs e → take n xs ≡ take n ys → map (part s xs) rs ≡ map (part s ys) rs
before s f e n [] xs ys hs he l same = refl
before s f e n (r ∷ rs) xs ys hs he l same =
    let high = in_order-le r.end e rs l.2 in
    cons_same (part_same s s xs ys r (front_rows (r.at - s) (r.end - r.at) n xs ys (omega (arith, hs, he, high, l.0, l.1)) same))
    (before s r.end e n rs xs ys (omega (arith, hs, l.0, l.1)) he l.2 same)

-- and behind them
pub after : (s t f e : ℕ) (rs : List Run) (xs ys : List Numbered) → s ≤ f → t ≤ f → InOrder f rs e → drop (f - s) xs ≡ drop (f - t) ys → map (part s xs) rs ≡ map (part t ys) rs
after s t f e [] xs ys hs ht l same = refl
after s t f e (r ∷ rs) xs ys hs ht l same =
    cons_same (part_same s t xs ys r (ap (take (r.end - r.at)) (later s t f r.at xs ys hs ht l.0 same)))
    (after s t r.end e rs xs ys (omega (arith, hs, l.0, l.1)) (omega (arith, ht, l.0, l.1)) l.2 (later s t f r.end xs ys hs ht (omega (arith, l.0, l.1)) same))

-- how many wait
pub length-part : (s f : ℕ) (xs : List Numbered) (r : Run) → s ≤ f → Stands f (s + length xs) r → length (part s xs r).recs ≡ r.end - r.at
length-part s f xs r hs h = length-take-le (r.end - r.at) (drop (r.at - s) xs) (omega (arith, hs, h.low, h.some, h.high, length-drop (r.at - s) xs))

-- one more run
pub pushed : (s : ℕ) (rs : List Run) (xs new : List Numbered) (r : Run) → InOrder s rs (s + length xs) → r.at ≡ s + length xs → r.end ≡ r.at + length new
    → map (part s (xs ++ new)) (rs ++ r ∷ []) ≡ map (part s xs) rs ++ record { lane = r.lane; base = r.base; ahead = r.ahead; recs = new } ∷ []
pushed s rs xs new r l begin end =
    let at : r.at - s ≡ length xs = omega (arith, begin) in
    let many : r.end - r.at ≡ length new = omega (arith, end) in
    let old : map (part s (xs ++ new)) rs ≡ map (part s xs) rs = before s s (s + length xs) (length xs) rs (xs ++ new) xs (omega arith) (omega arith) l (take-append-le (length xs) xs new (omega arith)) in
    let its : take (r.end - r.at) (drop (r.at - s) (xs ++ new)) ≡ new = ap (λ n. take n (drop (r.at - s) (xs ++ new))) many ∙ (ap (λ n. take (length new) (drop n (xs ++ new))) at ∙ (ap (take (length new)) (drop_at xs new (length xs) refl) ∙ take_all (length new) new (omega arith))) in
    map_push (part s (xs ++ new)) rs r
    ∙ (ap (λ l. l ++ part s (xs ++ new) r ∷ []) old
    ∙ ap (λ (l : List Numbered). map (part s xs) rs ++ record { lane = r.lane; base = r.base; ahead = r.ahead; recs = l } ∷ []) its)

-- records that no run has are let go
pub trimmed : (s n : ℕ) (rs : List Run) (xs : List Numbered) (e : ℕ) → InOrder (s + n) rs e → map (part (s + n) (drop n xs)) rs ≡ map (part s xs) rs
trimmed s n rs xs e l =
    let none : s + n - (s + n) ≡ 0 = omega arith in
    let some : s + n - s ≡ n = omega arith in
    after (s + n) s (s + n) e rs (drop n xs) xs (omega arith) (omega arith) l (ap (λ i. drop i (drop n xs)) none ∙ ap (λ i. drop i xs) (sym some))

-- A RUN THAT IS CHANGED
pub changed : (g : Run → Part) (f : Part → Part) (rs : List Run) (i : ℕ) (r s d : Run) → i < length rs → r ≡ get_or rs i d → g s ≡ f (g r) → map g (set rs i s) ≡ changed_at f i (map g rs)
changed g f [] i r s d h at e = refl
changed g f (t ∷ rs) zero r s d h at e = cons_same (e ∙ ap (λ x. f (g x)) at) refl
changed g f (t ∷ rs) (suc i) r s d h at e = cons_same refl (changed g f rs i r s d (omega (arith, h)) at e)

-- a run that begins later has lost its first records
pub advanced : (s f e n : ℕ) (xs : List Numbered) (r : Run) → s ≤ f → Stands f e r → n ≤ r.end - r.at → part s xs (record r { at = r.at + n }) ≡ without_front n (part s xs r)
advanced s f e n xs r hs h few =
    let rest = r.end - (r.at + n) in
    let many : n + rest ≡ r.end - r.at = omega (arith, few, h.some) in
    let at : r.at - s + n ≡ r.at + n - s = omega (arith, hs, h.low) in
    let its : take rest (drop (r.at + n - s) xs) ≡ drop n (take (r.end - r.at) (drop (r.at - s) xs)) =
    ap (λ i. take rest (drop i xs)) (sym at) ∙ (ap (take rest) (sym (drop-drop n (r.at - s) xs)) ∙ (sym (drop-take n rest (drop (r.at - s) xs)) ∙ ap (λ i. drop n (take i (drop (r.at - s) xs))) many)) in
    ap (λ (l : List Numbered). record { lane = r.lane; base = r.base; ahead = r.ahead; recs = l }) its

-- the last run with more records behind its others
pub grown : (s : ℕ) (rs : List Run) (xs new : List Numbered) (i e : ℕ) (r d : Run) → InOrder s rs (s + length xs) → suc i ≡ length rs → r ≡ get_or rs i d → s ≤ r.at → r.at ≤ r.end → r.end ≡ s + length xs → e ≡ r.end + length new
    → map (part s (xs ++ new)) (set rs i (record r { end = e })) ≡ changed_at (with_more new) i (map (part s xs) rs)
grown s rs xs new i e r d l h at low some high end =
    let ys = xs ++ new in
    let n = r.at - s in
    let m = r.end - r.at in
    let zs = drop n xs in
    let long : length zs ≡ m = omega (arith, length-drop n xs, low, some, high) in
    let behind : drop n ys ≡ zs ++ new = drop-append-le n xs new (omega (arith, low, some, high)) in
    let all : take (e - r.at) (drop n ys) ≡ zs ++ new = ap (take (e - r.at)) behind ∙ take_all (e - r.at) (zs ++ new) (omega (arith, long, end, some, length-append zs new)) in
    let its : take m (drop n ys) ≡ zs = ap (take m) behind ∙ take_at zs new m long in
    let more : take (e - r.at) (drop n ys) ≡ take m (drop n ys) ++ new = all ∙ ap (λ l. l ++ new) (sym its) in
    let old : map (part s ys) rs ≡ map (part s xs) rs = before s s (s + length xs) (length xs) rs ys xs (omega arith) (omega arith) l (take-append-le (length xs) xs new (omega arith)) in
    changed (part s ys) (with_more new) rs i r (record r { end = e }) d (omega (arith, h)) at (ap (λ (l : List Numbered). record { lane = r.lane; base = r.base; ahead = r.ahead; recs = l }) more)
    ∙ ap (changed_at (with_more new) i) old

-- a run whose records are moved among themselves
pub moved_within : (s f e i : ℕ) (g : Part → Part) (rs : List Run) (xs ys : List Numbered) (r d : Run) → s ≤ f → i < length rs → r ≡ get_or rs i d → InOrder f rs e
    → take (r.at - s) ys ≡ take (r.at - s) xs → drop (r.end - s) ys ≡ drop (r.end - s) xs → part s ys r ≡ g (part s xs r) → map (part s ys) rs ≡ changed_at g i (map (part s xs) rs)
moved_within s f e i g [] xs ys r d hs h at l front back its = refl
moved_within s f e zero g (t ∷ rs) xs ys r d hs h at l front back its =
    let end : r.end ≡ t.end = ap (λ (x : Run). x.end) at in
    cons_same (ap (part s ys) (sym at) ∙ (its ∙ ap (λ x. g (part s xs x)) at))
    (after s s t.end e rs ys xs (omega (arith, hs, l.0, l.1)) (omega (arith, hs, l.0, l.1)) l.2 (subst (λ n. drop (n - s) ys ≡ drop (n - s) xs) end back))
moved_within s f e (suc i) g (t ∷ rs) xs ys r d hs h at l front back its =
    let where_r = stands t.end e rs i r d (omega (arith, h)) at l.2 in
    cons_same (part_same s s ys xs t (front_rows (t.at - s) (t.end - t.at) (r.at - s) ys xs (omega (arith, hs, l.0, l.1, where_r.low)) front))
    (moved_within s t.end e i g rs xs ys r d (omega (arith, hs, l.0, l.1)) (omega (arith, h)) at l.2 front back its)

-- what is read of a run
pub read-part : (s f : ℕ) (xs : List Numbered) (r : Run) (from to many room : ℕ) → s ≤ f → Stands f (s + length xs) r → from ≤ to → to ≤ r.end - r.at → many ≡ min (to - from) room
    → take many (drop (r.at - s + from) xs) ≡ take room (take (to - from) (drop from (part s xs r).recs))
read-part s f xs r from to many room hs h range within few =
    let ys = drop (r.at - s) xs in
    let n = r.end - r.at in
    ap (λ i. take i (drop (r.at - s + from) xs)) few
    ∙ (ap (take (min (to - from) room)) (sym (drop-drop from (r.at - s) xs))
    ∙ (sym (take_both room (to - from) (drop from ys))
    ∙ ap (take room) (front_rows from (to - from) n ys (take n ys) (omega (arith, range, within)) (sym (take-take n n ys (omega arith))))))
