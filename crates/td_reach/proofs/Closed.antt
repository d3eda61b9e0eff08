-- The table is closed: each effect in it is that of a path, and no path gives an earlier time than the effect in the table.
use Rattle.std.proofs.Common.{◌≡◌, ℕ, zero, suc, ◌+◌, inl, inr, Bool, true, false, ◌==◌, List, [], ◌∷◌, ◌++◌, refl, ap, sym, ◌∙◌, subst, arith, eq-eqb, eqb-true}
use Rattle.std.specs.Prelude.{Option, None, Some, ◌&&◌, ◌||◌, if◌then◌else◌}
use Rattle.std.specs.List.{list_any, slice_get}
use Rattle.std.specs.declared.cmp.Ordering.{Ordering}
use Rattle.std.specs.declared.cmp.Ordering.TheVariants.{Less, Equal, Greater}
use Rattle.std.specs.Ordering.{is_le}
use Rattle.td_stamp.specs.Time.{AreNotLater}
use Rattle.td_plan.specs.declared.vertex.Edge.{Edge}
use Rattle.td_plan.specs.Lines.{Line}
use Rattle.td_plan.specs.Blocks.{edges, kind_at}
use Rattle.td_plan.specs.Faults.{IsPlan}
use Rattle.td_reach.specs.Summaries.{Effect, apply, nothing, and_then, effect_cmp, effect_by}
use Rattle.td_reach.specs.Tables.{first_of_two, better, through, is_joined, first_entry, is_kept, entry}
use Rattle.td_reach.proofs.Order.{OrderLaws, apply-AreNotLater}
use Rattle.td_reach.proofs.Effects.{raised-zero, and_then-apply}
use Rattle.td_reach.proofs.Rise.{Walk}
use Rattle.td_reach.proofs.Shapes.{Shape, and_then-Shape}
use Rattle.td_reach.proofs.Compare.{Leads, Compared, compared}
use Rattle.td_reach.proofs.Lawful.{IsIn, both, neither}
use Rattle.td_reach.proofs.Split.{Passes, along, AllBelow, Splits, splits}
use Rattle.td_reach.proofs.Graph.{Joins, effect_from, goes_over, reads, Fits, steps, step-Fits, path_walk, path-Fits, cycles}

pub any_in : {X : Type 0} (f : X → Bool) (xs : List X) → list_any f xs ≡ true → (x : X) × IsIn xs x × (f x ≡ true)
any_in f [] h = absurd (cc)
any_in {X = X} f (x ∷ xs) h = by (λ h. any_in f xs h) (f x) refl h
  where
    by : (list_any f xs ≡ true → (y : X) × IsIn xs y × (f y ≡ true)) → (b : Bool) → f x ≡ b → (b || list_any f xs) ≡ true → (y : X) × IsIn (x ∷ xs) y × (f y ≡ true)
    by more true e h = (x, (0, refl), e)
    by more false e h = let r = more h in (r.0, (suc r.1.0, r.1.1), r.2)

pub in_any : {X : Type 0} (f : X → Bool) (xs : List X) (i : ℕ) (x : X) → slice_get xs i ≡ Some x → f x ≡ true → list_any f xs ≡ true
in_any f [] i x at h = absurd (cc)
in_any f (y ∷ xs) zero x at h = let e : y ≡ x = cc in ap (λ b. b || list_any f xs) (ap f e ∙ h)
in_any f (y ∷ xs) (suc i) x at h = ap (λ b. f y || b) (in_any f xs i x at h) ∙ or_true (f y)
  where
    or_true : (b : Bool) → (b || true) ≡ true
    or_true true = refl
    or_true false = refl

pub other_way : (a b : ℕ) → (a == b) ≡ false → (b == a) ≡ false
other_way a b h = by (b == a) refl
  where
    by : (c : Bool) → (b == a) ≡ c → (b == a) ≡ false
    by false e = e
    by true e = absurd (let s : b ≡ a = eqb-true b a e in let t : (a == b) ≡ true = eq-eqb a b (sym s) in cc)

-- of the first of two effects
pub either_one : (P : Effect → Type 0) (s t : Effect) → P s → P t → P (first_of_two s t)
either_one P s t p q = by (is_le (effect_cmp s t))
  where
    by : (b : Bool) → P (if b then s else t)
    by true = p
    by false = q

-- an effect that there is, and that gives no later time than this
pub record Covers (o : Option Effect) (cs limit : List ℕ) : Type 0 where
  pub effect : Effect
  pub is : o ≡ Some effect
  pub early : AreNotLater (apply effect cs) limit

module _ (plan : List Line) (lawful : IsPlan plan) where
  abbrev pub Path : ℕ → List ℕ → ℕ → Type 0
  Path u xs v = Passes (Joins plan) (goes_over plan) u xs v

  abbrev pub turned_along : ℕ → List ℕ → List ℕ → List ℕ
  turned_along u xs cs = along (Joins plan) (goes_over plan) u xs cs

  -- EFFECTS OF PATHS
  pub record IsEffect (u v : ℕ) (s : Effect) : Type 0 where
    pub between : List ℕ
    pub path : Path u between v
    pub same : (cs : List ℕ) → apply s cs ≡ turned_along u between cs
    pub shape : Shape s (reads plan u) (reads plan v)

  leads : (u v : ℕ) (s : Effect) → IsEffect u v s → Leads (λ w x. Joins plan x w) u v (reads plan u) (reads plan v) s
  leads u v s k = record { shape = k.shape; walks = λ cs e. subst (λ ds. Walk (λ w x. Joins plan x w) u (reads plan u) cs v (reads plan v) ds) (sym (k.same cs)) (path_walk plan lawful k.between u v cs k.path e) }

  pub joined_paths : (xs : List ℕ) (ys : List ℕ) (u k v : ℕ) → Path u xs k → Path k ys v → Path u (xs ++ k ∷ ys) v
  joined_paths [] ys u k v p q = (p, q)
  joined_paths (x ∷ xs) ys u k v p q = (p.0, joined_paths xs ys x k v p.1 q)

  pub along_both : (xs : List ℕ) (ys : List ℕ) (u k : ℕ) (cs : List ℕ) → turned_along u (xs ++ k ∷ ys) cs ≡ turned_along k ys (turned_along u xs cs)
  along_both [] ys u k cs = refl
  along_both (x ∷ xs) ys u k cs = along_both xs ys x k (goes_over plan u cs)

  pub of_edge : (u v : ℕ) → Joins plan u v → IsEffect u v (effect_from plan u)
  of_edge u v j = record { between = []; path = j; same = λ cs. refl; shape = (steps plan lawful u v j).shape }

  pub composed : (u k v : ℕ) (s t : Effect) → IsEffect u k s → IsEffect k v t → IsEffect u v (and_then s t)
  composed u k v s t a b = record {
    between = a.between ++ k ∷ b.between;
    path = joined_paths a.between b.between u k v a.path b.path;
    same = λ cs. and_then-apply s t cs ∙ (ap (apply t) (a.same cs) ∙ (b.same (turned_along u a.between cs) ∙ sym (along_both a.between b.between u k cs)));
    shape = and_then-Shape s t (reads plan u) (reads plan k) (reads plan v) a.shape b.shape;
  }

  -- EDGES
  joins_from : (u v : ℕ) → is_joined (edges plan) u v ≡ true → Joins plan u v
  joins_from u v h =
      let r = any_in (λ (e : Edge). (e.source == u) && (e.reader == v)) (edges plan) h in
      let b = both (r.0.source == u) (r.0.reader == v) r.2 in
      (r.0, r.1, eqb-true r.0.source u b.0, eqb-true r.0.reader v b.1)

  joins_is : (u v : ℕ) → Joins plan u v → is_joined (edges plan) u v ≡ true
  joins_is u v j =
      in_any (λ (e : Edge). (e.source == u) && (e.reader == v)) (edges plan) j.1.0 j.0 j.1.1 ((λ i. (eq-eqb j.0.source u j.2 i) && (j.0.reader == v)) ∙ eq-eqb j.0.reader v j.3)

  -- EACH EFFECT IN THE TABLE IS THAT OF A PATH
  pub to_itself : (k u : ℕ) → entry plan k u u ≡ Some nothing
  to_itself zero u = ap (λ b. if b then Some nothing else (if is_joined (edges plan) u u then Some (effect_by (kind_at plan u)) else None)) (eq-eqb u u refl)
  to_itself (suc k) u =
      ap (λ b. if (b || ((u == k) || (u == k))) then entry plan k u u else better (entry plan k u u) (through (entry plan k u k) (entry plan k k u))) (eq-eqb u u refl) ∙ to_itself k u

  better_is : (P : Effect → Type 0) (a b : Option Effect) (s : Effect) → ((s : Effect) → a ≡ Some s → P s) → ((s : Effect) → b ≡ Some s → P s) → better a b ≡ Some s → P s
  better_is P None b s p q h = q s h
  better_is P (Some t) None s p q h = p s h
  better_is P (Some t) (Some r) s p q h = let e : first_of_two t r ≡ s = cc in subst P e (either_one P t r (p t refl) (q r refl))

  through_is : (P : Effect → Type 0) (a b : Option Effect) (s : Effect) → ((s t : Effect) → a ≡ Some s → b ≡ Some t → P (and_then s t)) → through a b ≡ Some s → P s
  through_is P None b s p h = absurd (cc)
  through_is P (Some t) None s p h = absurd (cc)
  through_is P (Some t) (Some r) s p h = let e : and_then t r ≡ s = cc in subst P e (p t r refl refl)

  first_is : (u v : ℕ) (s : Effect) (b c : Bool) → is_joined (edges plan) u v ≡ c → b ≡ false → (if b then Some nothing else (if c then Some (effect_by (kind_at plan u)) else None)) ≡ Some s → IsEffect u v s
  first_is u v s true c j e h = absurd (cc)
  first_is u v s false true j e h = let same : effect_by (kind_at plan u) ≡ s = cc in subst (IsEffect u v) same (of_edge u v (joins_from u v j))
  first_is u v s false false j e h = absurd (cc)

  pub sound : (k u v : ℕ) (s : Effect) → (u == v) ≡ false → entry plan k u v ≡ Some s → IsEffect u v s
  sound zero u v s apart h = first_is u v s (u == v) (is_joined (edges plan) u v) refl apart h
  sound (suc k) u v s apart h = by (is_kept k u v) refl h (λ t. sound k u v t apart) (λ t no. sound k u k t no) (λ t no. sound k k v t no)
    where
      by : (b : Bool) → is_kept k u v ≡ b → (if b then entry plan k u v else better (entry plan k u v) (through (entry plan k u k) (entry plan k k v))) ≡ Some s
          → ((t : Effect) → entry plan k u v ≡ Some t → IsEffect u v t) → ((t : Effect) → (u == k) ≡ false → entry plan k u k ≡ Some t → IsEffect u k t)
          → ((t : Effect) → (k == v) ≡ false → entry plan k k v ≡ Some t → IsEffect k v t) → IsEffect u v s
      by true kept h p q r = p s h
      by false kept h p q r =
          let no = neither (u == k) (v == k) (neither (u == v) ((u == k) || (v == k)) kept).1 in
          better_is (IsEffect u v) (entry plan k u v) (through (entry plan k u k) (entry plan k k v)) s p
          (λ t h. through_is (IsEffect u v) (entry plan k u k) (entry plan k k v) t (λ a b x y. composed u k v a b (q a no.0 x) (r b (other_way v k no.1) y)) h) h

  -- NO PATH GIVES AN EARLIER TIME
  module _ (laws : OrderLaws) where
    -- the first of two gives no later time than either
    pub not_later : (u v : ℕ) (s t : Effect) → IsEffect u v s → IsEffect u v t → (cs : List ℕ) → Fits plan u cs
        → AreNotLater (apply (first_of_two s t) cs) (apply s cs) × AreNotLater (apply (first_of_two s t) cs) (apply t cs)
    not_later u v s t a b cs e = by (effect_cmp s t) (compared (λ w x. Joins plan x w) laws u v (reads plan u) (reads plan v) s t (leads u v s a) (leads u v t b) cs e)
      where
        by : (o : Ordering) → Compared (λ w x. Joins plan x w) s t cs o → AreNotLater (apply (if is_le o then s else t) cs) (apply s cs) × AreNotLater (apply (if is_le o then s else t) cs) (apply t cs)
        by Less m = (inr refl, m)
        by Equal m = (inr refl, m)
        by Greater m = (m, inr refl)

    covers_itself : (k u : ℕ) (xs cs : List ℕ) → Fits plan u cs → Path u xs u → Covers (entry plan k u u) cs (turned_along u xs cs)
    covers_itself k u xs cs e p = record { effect = nothing; is = to_itself k u; early = subst (λ ds. AreNotLater ds (turned_along u xs cs)) (sym (raised-zero cs)) (cycles plan lawful u xs cs p e) }

    first_covers : (u v : ℕ) (cs : List ℕ) → Joins plan u v → (u == v) ≡ false → Covers (first_entry plan u v) cs (goes_over plan u cs)
    first_covers u v cs j apart = record {
      effect = effect_by (kind_at plan u);
      is = (λ i. if apart i then Some nothing else (if is_joined (edges plan) u v then Some (effect_by (kind_at plan u)) else None)) ∙ (λ i. if joins_is u v j i then Some (effect_by (kind_at plan u)) else None);
      early = inr refl;
    }

    later : (o : Option Effect) (cs limit more : List ℕ) → AreNotLater limit more → Covers o cs limit → Covers o cs more
    later o cs limit more h c = record { effect = c.effect; is = c.is; early = laws.transitive (apply c.effect cs) limit more c.early h }

    -- the better of two covers what either does
    better_covers_first : (u v : ℕ) (a b : Option Effect) (cs limit : List ℕ) → Fits plan u cs → ((s : Effect) → a ≡ Some s → IsEffect u v s) → ((s : Effect) → b ≡ Some s → IsEffect u v s) → Covers a cs limit → Covers (better a b) cs limit
    better_covers_first u v None b cs limit e p q c = absurd (let h = c.is in cc)
    better_covers_first u v (Some s) None cs limit e p q c = c
    better_covers_first u v (Some s) (Some t) cs limit e p q c =
        let same : s ≡ c.effect = by c.is in
        record { effect = first_of_two s t; is = refl; early = laws.transitive (apply (first_of_two s t) cs) (apply s cs) limit (not_later u v s t (p s refl) (q t refl) cs e).0 (subst (λ r. AreNotLater (apply r cs) limit) (sym same) c.early) }
      where
        by : {r : Effect} → Some s ≡ Some r → s ≡ r
        by h = cc

    better_covers_second : (u v : ℕ) (a b : Option Effect) (cs limit : List ℕ) → Fits plan u cs → ((s : Effect) → a ≡ Some s → IsEffect u v s) → ((s : Effect) → b ≡ Some s → IsEffect u v s) → Covers b cs limit → Covers (better a b) cs limit
    better_covers_second u v None b cs limit e p q c = c
    better_covers_second u v (Some s) None cs limit e p q c = absurd (let h = c.is in cc)
    better_covers_second u v (Some s) (Some t) cs limit e p q c =
        let same : t ≡ c.effect = by c.is in
        record { effect = first_of_two s t; is = refl; early = laws.transitive (apply (first_of_two s t) cs) (apply t cs) limit (not_later u v s t (p s refl) (q t refl) cs e).1 (subst (λ r. AreNotLater (apply r cs) limit) (sym same) c.early) }
      where
        by : {r : Effect} → Some t ≡ Some r → t ≡ r
        by h = cc

    pub through_covers : (a b : Option Effect) (cs ds limit : List ℕ) → Covers a cs ds → Covers b ds limit → Covers (through a b) cs limit
    through_covers None b cs ds limit c d = absurd (let h = c.is in cc)
    through_covers (Some s) None cs ds limit c d = absurd (let h = d.is in cc)
    through_covers (Some s) (Some t) cs ds limit c d =
        let x : s ≡ c.effect = by c.is in
        let y : t ≡ d.effect = by d.is in
        let first : AreNotLater (apply s cs) ds = subst (λ r. AreNotLater (apply r cs) ds) (sym x) c.early in
        let second : AreNotLater (apply t ds) limit = subst (λ r. AreNotLater (apply r ds) limit) (sym y) d.early in
        record { effect = and_then s t; is = refl; early = subst (λ es. AreNotLater es limit) (sym (and_then-apply s t cs)) (laws.transitive (apply t (apply s cs)) (apply t ds) limit (apply-AreNotLater t (apply s cs) ds first) second) }
      where
        by : {q r : Effect} → Some q ≡ Some r → q ≡ r
        by h = cc

    -- a later time stays later along a path
    along_keeps : (xs : List ℕ) (u : ℕ) (s t : List ℕ) → AreNotLater s t → AreNotLater (turned_along u xs s) (turned_along u xs t)
    along_keeps [] u s t h = apply-AreNotLater (effect_from plan u) s t h
    along_keeps (x ∷ xs) u s t h = along_keeps xs x (goes_over plan u s) (goes_over plan u t) (apply-AreNotLater (effect_from plan u) s t h)

    abbrev SplitsAt : ℕ → ℕ → ℕ → List ℕ → List ℕ → Type 0
    SplitsAt n u v t limit =
        Splits (Joins plan) (goes_over plan) laws (Fits plan) (λ u w cs j e. step-Fits plan lawful u w cs j e) (λ u s t h. apply-AreNotLater (effect_from plan u) s t h) (λ u xs cs p e. cycles plan lawful u xs cs p e) n u v t limit

    split_path : (xs : List ℕ) (n u v : ℕ) (t : List ℕ) → Fits plan u t → Path u xs v → AllBelow (Joins plan) (goes_over plan) (n + 1) xs → SplitsAt n u v t (turned_along u xs t)
    split_path = splits (Joins plan) (goes_over plan) laws (Fits plan) (λ u w cs j e. step-Fits plan lawful u w cs j e) (λ u s t h. apply-AreNotLater (effect_from plan u) s t h) (λ u xs cs p e. cycles plan lawful u xs cs p e)

    abbrev pub Covering : ℕ → Type 0
    Covering k = (u v : ℕ) (xs cs : List ℕ) → Fits plan u cs → Path u xs v → AllBelow (Joins plan) (goes_over plan) k xs → Covers (entry plan k u v) cs (turned_along u xs cs)

    covers_first : Covering 0
    covers_first u v [] cs e p b = by (u == v) refl
      where
        by : (b : Bool) → (u == v) ≡ b → Covers (first_entry plan u v) cs (goes_over plan u cs)
        by false apart = first_covers u v cs p apart
        by true same = let at : u ≡ v = eqb-true u v same in
            subst (λ w. Covers (first_entry plan u w) cs (goes_over plan u cs)) at (covers_itself 0 u [] cs e (subst (λ w. Joins plan u w) (sym at) p))
    covers_first u v (x ∷ xs) cs e p b = absurd (omega (arith, b.0))

    -- one round more
    module _ (k u v : ℕ) (apart : (u == v) ≡ false) (cs : List ℕ) (e : Fits plan u cs) (before : Covering k) where
      through_effect : is_kept k u v ≡ false → (t : Effect) → through (entry plan k u k) (entry plan k k v) ≡ Some t → IsEffect u v t
      through_effect kept t h =
          let no = neither (u == k) (v == k) (neither (u == v) ((u == k) || (v == k)) kept).1 in
          through_is (IsEffect u v) (entry plan k u k) (entry plan k k v) t (λ a b x y. composed u k v a b (sound k u k a no.0 x) (sound k k v b (other_way v k no.1) y)) h

      still_covers : (limit : List ℕ) → Covers (entry plan k u v) cs limit → Covers (entry plan (suc k) u v) cs limit
      still_covers limit c = by (is_kept k u v) refl
        where
          by : (b : Bool) → is_kept k u v ≡ b → Covers (if b then entry plan k u v else better (entry plan k u v) (through (entry plan k u k) (entry plan k k v))) cs limit
          by true kept = c
          by false kept = better_covers_first u v (entry plan k u v) (through (entry plan k u k) (entry plan k k v)) cs limit e (λ t h. sound k u v t apart h) (through_effect kept) c

      now_covers : (limit : List ℕ) → (u == k) ≡ false → (v == k) ≡ false → Covers (through (entry plan k u k) (entry plan k k v)) cs limit → Covers (entry plan (suc k) u v) cs limit
      now_covers limit f g c =
          let kept : is_kept k u v ≡ false = λ i. apart i || (f i || g i) in
          subst (λ b. Covers (if b then entry plan k u v else better (entry plan k u v) (through (entry plan k u k) (entry plan k k v))) cs limit) (sym kept)
          (better_covers_second u v (entry plan k u v) (through (entry plan k u k) (entry plan k k v)) cs limit e (λ t h. sound k u v t apart h) (through_effect kept) c)

      covers_split : (limit : List ℕ) → SplitsAt k u v cs limit → Covers (entry plan (suc k) u v) cs limit
      covers_split limit (inl r) = still_covers limit (later (entry plan k u v) cs (turned_along u r.0 cs) limit r.3 (before u v r.0 cs e r.1 r.2))
      covers_split limit (inr r) = by (u == k) refl (v == k) refl
        where
          by : (b : Bool) → (u == k) ≡ b → (c : Bool) → (v == k) ≡ c → Covers (entry plan (suc k) u v) cs limit
          by true same c g =
              let at : u ≡ k = eqb-true u k same in
              let cycle : Path u r.0 u = subst (λ w. Path u r.0 w) (sym at) r.2 in
              let rest : Path u r.1 v = subst (λ w. Path w r.1 v) (sym at) r.4 in
              let bound : AreNotLater (turned_along u r.1 (turned_along u r.0 cs)) limit = subst (λ w. AreNotLater (turned_along w r.1 (turned_along u r.0 cs)) limit) (sym at) r.6 in
              still_covers limit (later (entry plan k u v) cs (turned_along u r.1 cs) limit
              (laws.transitive (turned_along u r.1 cs) (turned_along u r.1 (turned_along u r.0 cs)) limit (along_keeps r.1 u cs (turned_along u r.0 cs) (cycles plan lawful u r.0 cs cycle e)) bound)
              (before u v r.1 cs e rest r.5))
          by false f true same =
              let at : v ≡ k = eqb-true v k same in
              let start : Path u r.0 v = subst (λ w. Path u r.0 w) (sym at) r.2 in
              let cycle : Path v r.1 v = subst (λ w. Path w r.1 v) (sym at) r.4 in
              let bound : AreNotLater (turned_along v r.1 (turned_along u r.0 cs)) limit = subst (λ w. AreNotLater (turned_along w r.1 (turned_along u r.0 cs)) limit) (sym at) r.6 in
              still_covers limit (later (entry plan k u v) cs (turned_along u r.0 cs) limit
              (laws.transitive (turned_along u r.0 cs) (turned_along v r.1 (turned_along u r.0 cs)) limit (cycles plan lawful v r.1 (turned_along u r.0 cs) cycle (path-Fits plan lawful r.0 u v cs start e)) bound)
              (before u v r.0 cs e start r.3))
          by false f false g =
              now_covers limit f g (later (through (entry plan k u k) (entry plan k k v)) cs (turned_along k r.1 (turned_along u r.0 cs)) limit r.6
              (through_covers (entry plan k u k) (entry plan k k v) cs (turned_along u r.0 cs) (turned_along k r.1 (turned_along u r.0 cs))
              (before u k r.0 cs e r.2 r.3) (before k v r.1 (turned_along u r.0 cs) (path-Fits plan lawful r.0 u k cs r.2 e) r.4 r.5)))

    covers_next : (k : ℕ) → Covering k → Covering (suc k)
    covers_next k before u v xs cs e p b = by (u == v) refl
      where
        by : (c : Bool) → (u == v) ≡ c → Covers (entry plan (suc k) u v) cs (turned_along u xs cs)
        by true same =
            let at : u ≡ v = eqb-true u v same in
            subst (λ w. Covers (entry plan (suc k) u w) cs (turned_along u xs cs)) at (covers_itself (suc k) u xs cs e (subst (λ w. Path u xs w) (sym at) p))
        by false apart =
            let more : suc k ≡ k + 1 = omega arith in
            covers_split k u v apart cs e before (turned_along u xs cs) (split_path xs k u v cs e p (subst (λ n. AllBelow (Joins plan) (goes_over plan) n xs) more b))

    pub covers : (k : ℕ) → Covering k
    covers zero = covers_first
    covers (suc k) = covers_next k (covers k)
