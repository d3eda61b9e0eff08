-- Of two effects of paths between the same vertices, the one that comes first gives the times that are not later.
use Rattle.std.proofs.Common.{◌≡◌, ℕ, suc, zero, ◌+◌, ◌-◌, ◌<◌, ◌≤◌, ◌⊎◌, inl, inr, List, [], ◌∷◌, ◌++◌, length, drop, refl, sym, ap, ◌∙◌, subst, arith, append_assoc, length-append, length-drop}
use Rattle.std.proofs.lemmas.List.{drop-append-le}
use Rattle.std.specs.declared.cmp.Ordering.{Ordering}
use Rattle.std.specs.declared.cmp.Ordering.TheVariants.{Less, Equal, Greater}
use Rattle.std.specs.Ordering.{nat_cmp, ordering_then, MatchOrdering}
use Rattle.std.specs.Cmp.{ranks}
use Rattle.td_stamp.specs.Time.{raised, counters_cmp, AreEarlier, AreNotLater}
use Rattle.td_reach.specs.Summaries.{Effect, apply, effect_cmp}
use Rattle.td_reach.proofs.Order.{OrderLaws, outer_first, inner_next}
use Rattle.td_reach.proofs.Effects.{whole_drop}
use Rattle.td_reach.proofs.Rise.{Walk, block_rule, raised-length}
use Rattle.td_reach.proofs.Shapes.{Shape, Shape-length}

-- PARTS OF LISTS
pub record Parted (n : ℕ) (xs : List ℕ) : Type 0 where
  pub front : List ℕ
  pub at : ℕ
  pub rest : List ℕ
  pub whole : xs ≡ front ++ at ∷ rest
  pub long : length front ≡ n

pub parted : (n : ℕ) (xs : List ℕ) → n < length xs → Parted n xs
parted n [] h = absurd (omega (arith, h))
parted zero (x ∷ xs) h = record { front = []; at = x; rest = xs; whole = refl; long = refl }
parted (suc n) (x ∷ xs) h =
    let r : Parted n xs = parted n xs (omega (arith, h)) in
    record { front = x ∷ r.front; at = r.at; rest = r.rest; whole = ap (λ l. x ∷ l) r.whole; long = ap suc r.long }

none : (xs : List ℕ) → length xs ≡ 0 → xs ≡ []
none [] h = refl
none (x ∷ xs) h = absurd (omega (arith, h))

-- only the innermost is raised
raised_head : (n : ℕ) (xs : List ℕ) (y : ℕ) (w : List ℕ) → raised n (xs ++ y ∷ w) ≡ raised n (xs ++ y ∷ []) ++ w
raised_head n [] y w = refl
raised_head n (x ∷ xs) y w = ap (λ l. (x + n) ∷ l) (sym (append_assoc xs (y ∷ []) w))

-- ONE THAT DROPS FEWER, between u in the loops p, g and outer, and v in the loops q, g and outer: by the block rule the other raises a
-- counter further out
module _ (Reads : ℕ → ℕ → Type 0) where
  drops_fewer : (u v g : ℕ) (p q outer : List ℕ) (s t : Effect) → s.drops ≤ length p → t.drops ≡ length p + 1 → length t.fresh ≡ length q + 1 → length s.fresh + length p ≡ length q + s.drops
      → ((cs : List ℕ) → length cs ≡ length (p ++ g ∷ outer) → Walk Reads u (p ++ g ∷ outer) cs v (q ++ g ∷ outer) (apply t cs))
      → (inner w : List ℕ) (y : ℕ) → length inner ≡ length p → length w ≡ length outer → AreEarlier (apply s (inner ++ y ∷ w)) (apply t (inner ++ y ∷ w))
  drops_fewer u v g p q outer s t a b c d walks inner w y e f =
      subst (λ l. AreEarlier l (apply t (inner ++ y ∷ w))) (sym s_is) (subst (λ l. AreEarlier (x ++ w) l) (sym (t_is inner w y e))
      (outer_first x t.fresh w (raised t.adds w) x_long rises_further))
    where
      z : Parted (length q) t.fresh
      z = parted (length q) t.fresh (omega (arith, c))

      no_rest : z.rest ≡ []
      no_rest = none z.rest (omega (arith, c, z.long, ap length z.whole, length-append z.front (z.at ∷ z.rest)))

      fresh_is : t.fresh ≡ z.front ++ z.at ∷ []
      fresh_is = z.whole ∙ ap (λ l. z.front ++ z.at ∷ l) no_rest

      t_is : (inner w : List ℕ) (y : ℕ) → length inner ≡ length p → apply t (inner ++ y ∷ w) ≡ t.fresh ++ raised t.adds w
      t_is inner w y e =
          ap (λ l. t.fresh ++ raised t.adds l) (ap (drop t.drops) (sym (append_assoc inner (y ∷ []) w)) ∙ whole_drop t.drops (inner ++ y ∷ []) w (omega (arith, b, e, length-append inner (y ∷ []))))

      t_ends : (inner w : List ℕ) (y : ℕ) → length inner ≡ length p → apply t (inner ++ y ∷ w) ≡ z.front ++ z.at ∷ raised t.adds w
      t_ends inner w y e = t_is inner w y e ∙ (ap (λ l. l ++ raised t.adds w) fresh_is ∙ append_assoc z.front (z.at ∷ []) (raised t.adds w))

      deep : (inner w : List ℕ) (y : ℕ) → length inner ≡ length p → length w ≡ length outer → length (inner ++ y ∷ w) ≡ length (p ++ g ∷ outer)
      deep inner w y e f = length-append inner (y ∷ w) ∙ ((λ i. e i + suc (f i)) ∙ sym (length-append p (g ∷ outer)))

      rises_further : AreEarlier w (raised t.adds w)
      rises_further = block_rule Reads u v g t.adds z.at p q outer z.front z.long
          (λ inner w y e f. subst (λ l. Walk Reads u (p ++ g ∷ outer) (inner ++ y ∷ w) v (q ++ g ∷ outer) l) (t_ends inner w y e) (walks (inner ++ y ∷ w) (deep inner w y e f))) w f

      x : List ℕ
      x = s.fresh ++ raised s.adds (drop s.drops inner ++ y ∷ [])

      s_is : apply s (inner ++ y ∷ w) ≡ x ++ w
      s_is =
          ap (λ l. s.fresh ++ raised s.adds l) (drop-append-le s.drops inner (y ∷ w) (omega (arith, a, e)))
          ∙ (ap (λ l. s.fresh ++ l) (raised_head s.adds (drop s.drops inner) y w) ∙ sym (append_assoc s.fresh (raised s.adds (drop s.drops inner ++ y ∷ [])) w))

      x_long : length x ≡ length t.fresh
      x_long =
          length-append s.fresh (raised s.adds (drop s.drops inner ++ y ∷ []))
          ∙ (ap (λ n. length s.fresh + n) (raised-length s.adds (drop s.drops inner ++ y ∷ []) ∙ (length-append (drop s.drops inner) (y ∷ []) ∙ ap (λ n. n + 1) (length-drop s.drops inner)))
          ∙ omega (arith, a, b, c, d, e))

  -- an effect of walks
  pub record Leads (u v : ℕ) (fs hs : List ℕ) (s : Effect) : Type 0 where
    pub shape : Shape s fs hs
    pub walks : (cs : List ℕ) → length cs ≡ length fs → Walk Reads u fs cs v hs (apply s cs)

  pub fewer_drops : (u v : ℕ) (fs hs : List ℕ) (s t : Effect) → Leads u v fs hs s → Leads u v fs hs t → s.drops < t.drops → (cs : List ℕ) → length cs ≡ length fs → AreEarlier (apply s cs) (apply t cs)
  fewer_drops u v fs hs s t k m less cs e =
      subst (λ l. AreEarlier (apply s l) (apply t l)) (sym c.whole)
      (drops_fewer u v l.at l.front q l.rest s t (omega (arith, less, l.long)) (omega (arith, less, l.long)) fresh_long s_long walks c.front c.rest c.at (c.long ∙ sym l.long) rest_long)
    where
      l : Parted (t.drops - 1) fs
      l = parted (t.drops - 1) fs (omega (arith, less, m.shape.within))

      c : Parted (t.drops - 1) cs
      c = parted (t.drops - 1) cs (omega (arith, less, e, m.shape.within))

      q : List ℕ
      q = k.shape.entered ++ drop s.drops l.front

      hs_is : hs ≡ q ++ l.at ∷ l.rest
      hs_is =
          k.shape.loops_are ∙ (ap (λ x. k.shape.entered ++ x) (ap (drop s.drops) l.whole ∙ drop-append-le s.drops l.front (l.at ∷ l.rest) (omega (arith, less, l.long)))
          ∙ sym (append_assoc k.shape.entered (drop s.drops l.front) (l.at ∷ l.rest)))

      fs_long : length fs ≡ length l.front + suc (length l.rest)
      fs_long = ap length l.whole ∙ length-append l.front (l.at ∷ l.rest)

      cs_long : length cs ≡ length c.front + suc (length c.rest)
      cs_long = ap length c.whole ∙ length-append c.front (c.at ∷ c.rest)

      rest_long : length c.rest ≡ length l.rest
      rest_long = omega (arith, fs_long, cs_long, e, c.long, l.long)

      q_long : length q ≡ length s.fresh + (length l.front - s.drops)
      q_long = length-append k.shape.entered (drop s.drops l.front) ∙ (λ i. k.shape.as_many i + length-drop s.drops l.front i)

      hs_long : length hs ≡ length q + suc (length l.rest)
      hs_long = ap length hs_is ∙ length-append q (l.at ∷ l.rest)

      fresh_long : length t.fresh ≡ length q + 1
      fresh_long = omega (arith, hs_long, Shape-length t fs hs m.shape, fs_long, l.long, less)

      s_long : length s.fresh + length l.front ≡ length q + s.drops
      s_long = omega (arith, q_long, l.long, less)

      walks : (cs : List ℕ) → length cs ≡ length (l.front ++ l.at ∷ l.rest) → Walk Reads u (l.front ++ l.at ∷ l.rest) cs v (q ++ l.at ∷ l.rest) (apply t cs)
      walks cs e = subst (λ x. Walk Reads u x cs v (q ++ l.at ∷ l.rest) (apply t cs)) l.whole (subst (λ x. Walk Reads u fs cs v x (apply t cs)) hs_is (m.walks cs (e ∙ sym (ap length l.whole))))

  -- the same number dropped
  fewer_adds : (a b : ℕ) (f g w : List ℕ) → length f ≡ length g → a < b → (b ≡ 0) ⊎ (0 < length w) → AreEarlier (f ++ raised a w) (g ++ raised b w)
  fewer_adds a b f g w e h (inl z) = absurd (omega (arith, h, z))
  fewer_adds a b f g [] e h (inr z) = absurd (omega (arith, z))
  fewer_adds a b f g (k ∷ w) e h (inr z) = outer_first f g _ _ e (inr (refl, omega (arith, h)))

  -- how two effects compare
  abbrev pub Compared : Effect → Effect → List ℕ → Ordering → Type 0
  Compared s t cs o = MatchOrdering o (AreNotLater (apply s cs) (apply t cs)) (AreNotLater (apply s cs) (apply t cs)) (AreNotLater (apply t cs) (apply s cs))

  same_drops : (s t : Effect) (cs : List ℕ) → s.drops ≡ t.drops → length s.fresh ≡ length t.fresh → (s.adds ≡ 0) ⊎ (0 < length (drop s.drops cs)) → (t.adds ≡ 0) ⊎ (0 < length (drop t.drops cs))
      → (o : Ordering) → MatchOrdering o (s.adds < t.adds) (s.adds ≡ t.adds) (t.adds < s.adds)
      → (r : Ordering) → MatchOrdering r (AreEarlier s.fresh t.fresh) (s.fresh ≡ t.fresh) (AreEarlier t.fresh s.fresh)
      → Compared s t cs (ordering_then o r)
  same_drops s t cs d l a b Less h r m = inl (subst (λ n. AreEarlier (s.fresh ++ raised s.adds (drop n cs)) (apply t cs)) (sym d) (fewer_adds s.adds t.adds s.fresh t.fresh (drop t.drops cs) l h b))
  same_drops s t cs d l a b Greater h r m = inl (subst (λ n. AreEarlier (t.fresh ++ raised t.adds (drop n cs)) (apply s cs)) d (fewer_adds t.adds s.adds t.fresh s.fresh (drop s.drops cs) (sym l) h a))
  same_drops s t cs d l a b Equal h Less m = inl (subst (λ w. AreEarlier (apply s cs) (t.fresh ++ w)) (λ i. raised (h i) (drop (d i) cs)) (inner_next s.fresh t.fresh (raised s.adds (drop s.drops cs)) m))
  same_drops s t cs d l a b Equal h Equal m = inr (λ i. m i ++ raised (h i) (drop (d i) cs))
  same_drops s t cs d l a b Equal h Greater m =
      inl (subst (λ w. AreEarlier (t.fresh ++ w) (apply s cs)) (λ i. raised (h i) (drop (d i) cs)) (inner_next t.fresh s.fresh (raised s.adds (drop s.drops cs)) m))

  module _ (laws : OrderLaws) where
    by_drops : (u v : ℕ) (fs hs : List ℕ) (s t : Effect) → Leads u v fs hs s → Leads u v fs hs t → (cs : List ℕ) → length cs ≡ length fs
        → (o : Ordering) → MatchOrdering o (s.drops < t.drops) (s.drops ≡ t.drops) (t.drops < s.drops)
        → Compared s t cs (ordering_then o (ordering_then (nat_cmp s.adds t.adds) (counters_cmp s.fresh t.fresh)))
    by_drops u v fs hs s t k m cs e Less h = inl (fewer_drops u v fs hs s t k m h cs e)
    by_drops u v fs hs s t k m cs e Greater h = inl (fewer_drops u v fs hs t s m k h cs e)
    by_drops u v fs hs s t k m cs e Equal h = same_drops s t cs h as_long (inside s k.shape.inside) (inside t m.shape.inside) (nat_cmp s.adds t.adds) (ranks s.adds t.adds) (counters_cmp s.fresh t.fresh) (laws.compared s.fresh t.fresh as_long)
      where
        as_long : length s.fresh ≡ length t.fresh
        as_long = omega (arith, Shape-length s fs hs k.shape, Shape-length t fs hs m.shape, h, k.shape.within, m.shape.within)

        inside : (s : Effect) → (s.adds ≡ 0) ⊎ (s.drops < length fs) → (s.adds ≡ 0) ⊎ (0 < length (drop s.drops cs))
        inside s (inl z) = inl z
        inside s (inr z) = inr (omega (arith, z, e, length-drop s.drops cs))

    pub compared : (u v : ℕ) (fs hs : List ℕ) (s t : Effect) → Leads u v fs hs s → Leads u v fs hs t → (cs : List ℕ) → length cs ≡ length fs → Compared s t cs (effect_cmp s t)
    compared u v fs hs s t k m cs e = by_drops u v fs hs s t k m cs e (nat_cmp s.drops t.drops) (ranks s.drops t.drops)
