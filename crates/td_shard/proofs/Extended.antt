-- The last run, with more records of its lane.
use Rattle.std.proofs.Common.{◌≡◌, ℕ, zero, suc, ◌+◌, ◌-◌, ◌<◌, ◌≤◌, inl, inr, Bool, true, false, List, [], ◌∷◌, ◌++◌, map, length, get_or, refl, sym, ap, ◌∙◌, subst, arith, append_assoc, append-nil, length-append}
use Rattle.std.specs.List.{AllByRecursion}
use Rattle.std.proofs.lemmas.List.{map-append}
use Rattle.td_stamp.specs.declared.values.Rec.{Rec}
use Rattle.td_shard.specs.declared.runs.Lane.{Lane}
use Rattle.td_shard.specs.declared.runs.Numbered.{Numbered}
use Rattle.td_shard.specs.Runs.{Part, Parts, its, all_of, on_lane, numbered, lane_eq, last_on, AreLinked, FrontWaits, AreAppended, IsUpTo, AreUpTo, IsOlder, AreOlder, AreGrouped, changed_at, with_more}
use Rattle.td_shard.proofs.InOneList.{length-numbered}
use Rattle.td_shard.proofs.TakenUp.{linked-changed_at, last-changed_at}

-- numbers from one on
pub numbered_from : (n : ℕ) (rs : List Rec) (b : ℕ) → b ≤ n → AllByRecursion (λ r. b ≤ r.number) (numbered n rs)
numbered_from n [] b l = tt
numbered_from n (r ∷ rs) b l = (l, numbered_from (n + 1) rs b (omega (arith, l)))

pub numbered_below : (n : ℕ) (rs : List Rec) (b : ℕ) → n + length rs ≤ b → AllByRecursion (λ r. r.number < b) (numbered n rs)
numbered_below n [] b l = tt
numbered_below n (r ∷ rs) b l = (omega (arith, l), numbered_below (n + 1) rs b (omega (arith, l)))

all_append : (P : Numbered → Type 0) (xs ys : List Numbered) → AllByRecursion P xs → AllByRecursion P ys → AllByRecursion P (xs ++ ys)
all_append P [] ys h j = j
all_append P (x ∷ xs) ys h j = (h.0, all_append P xs ys h.1 j)

messages-more : (ps : List Part) (i : ℕ) (k : Lane) (new : List Numbered) (d : Part) → suc i ≡ length ps → (get_or ps i d).lane ≡ k → all_of (changed_at (with_more new) i ps) ≡ all_of ps ++ map (on_lane k) new
messages-more [] i k new d h e = absurd (omega (arith, h))
messages-more (p ∷ []) zero k new d h e =
    append-nil (its (with_more new p)) ∙ (map-append (on_lane p.lane) p.recs new
    ∙ (ap (λ (l : Lane). its p ++ map (on_lane l) new) e
    ∙ ap (λ l. l ++ map (on_lane k) new) (sym (append-nil (its p)))))
messages-more (p ∷ q ∷ ps) zero k new d h e = absurd (omega (arith, h))
messages-more (p ∷ ps) (suc i) k new d h e =
    ap (λ l. its p ++ l) (messages-more ps i k new d (omega (arith, h)) e) ∙ sym (append_assoc (its p) (all_of ps) (map (on_lane k) new))

front-more : (ps : List Part) (i : ℕ) (new : List Numbered) → 0 < length new → FrontWaits ps → FrontWaits (changed_at (with_more new) i ps)
front-more [] i new h f = f
front-more (p ∷ ps) zero new h f = omega (arith, h, length-append p.recs new)
front-more (p ∷ ps) (suc i) new h f = f

all-more : (P : Part → Type 0) (new : List Numbered) → ((p : Part) → P p → P (with_more new p)) → (i : ℕ) (ps : List Part) → AllByRecursion P ps → AllByRecursion P (changed_at (with_more new) i ps)
all-more P new still i [] h = tt
all-more P new still zero (p ∷ ps) h = (still p h.0, h.1)
all-more P new still (suc i) (p ∷ ps) h = (h.0, all-more P new still i ps h.1)

older-more : (n : ℕ) (ps : List Part) (i : ℕ) (new : List Numbered) → AllByRecursion (λ r. r.number < n) new → AreOlder n ps → AreOlder n (changed_at (with_more new) i ps)
older-more n ps i new b h = all-more (IsOlder n) new (λ p it. (it.0, all_append (λ r. r.number < n) p.recs new it.1 b)) i ps h

grouped-more : (n : ℕ) (ps : List Part) (i : ℕ) (new : List Numbered) → suc i ≡ length ps → AllByRecursion (λ r. n ≤ r.number) new → AreUpTo n ps → AreGrouped ps → AreGrouped (changed_at (with_more new) i ps)
grouped-more n [] i new e from u h = tt
grouped-more n (p ∷ []) zero new e from u h = (all_append (λ r. p.base ≤ r.number) p.recs new h.0 (reach new from (low u.0)), tt, tt)
  where
    low : IsUpTo n p → p.base ≤ n
    low (inl same) = omega (arith, same)
    low (inr older) = let below = older.0 in omega (arith, below)

    reach : (rs : List Numbered) → AllByRecursion (λ r. n ≤ r.number) rs → p.base ≤ n → AllByRecursion (λ r. p.base ≤ r.number) rs
    reach [] f l = tt
    reach (r ∷ rs) f l = let here = f.0 in (omega (arith, here, l), reach rs f.1 l)
grouped-more n (p ∷ q ∷ ps) zero new e from u h = absurd (omega (arith, e))
grouped-more n (p ∷ ps) (suc i) new e from u h = (h.0, all-more (λ q. IsUpTo q.base p) new (λ q it. it) i ps h.1, grouped-more n ps i new (omega (arith, e)) from u.1 h.2)

-- what becomes of the runs, where b says whether the last was extended
pub record IsExtended (k : Lane) (n : ℕ) (new : List Rec) (old now : Parts) (b : Bool) : Type 0 where
  pub linked : AreLinked lane_eq now.parts
  pub lasts : (q : Lane) → last_on lane_eq q now.parts ≡ last_on lane_eq q old.parts
  pub appended : b ≡ true → AreAppended n (length new) (map (on_lane k) (numbered n new)) old now

pub extended : (k : Lane) (n : ℕ) (new : List Rec) (old now : Parts) (b : Bool) (d : Part) → 0 < length new → AreLinked lane_eq old.parts → (b ≡ false → now ≡ old) → (b ≡ true → 0 < length old.parts)
    → (b ≡ true → (e : Part) → (get_or old.parts (length old.parts - 1) e).lane ≡ k)
    → (b ≡ true → now ≡ record { first = old.first; parts = changed_at (with_more (numbered n new)) (length old.parts - 1) old.parts; runs = old.runs - 1; room = old.room - length new }) → IsExtended k n new old now b
extended k n new old now false d h l same some lane more =
    subst (λ v. IsExtended k n new old v false) (sym (same refl)) (record { linked = l; lasts = λ q. refl; appended = λ t. absurd (cc) })
extended k n new old now true d h l same some lane more =
    let i = length old.parts - 1 in
    let all = numbered n new in
    let last : suc i ≡ length old.parts = omega (arith, some refl) in
    subst (λ v. IsExtended k n new old v true) (sym (more refl)) (record {
      linked = linked-changed_at (with_more all) (λ x. refl) lane_eq (λ x. refl) i old.parts l;
      lasts = λ q. last-changed_at (with_more all) (λ x. refl) lane_eq q i old.parts;
      appended = λ t. record {
        all = messages-more old.parts i k all d last (lane refl d);
        first = refl;
        front = front-more old.parts i all (omega (arith, h, length-numbered n new));
        grouped = λ u g. grouped-more n old.parts i all last (numbered_from n new n (omega arith)) u g;
        older = λ o. older-more (n + length new) old.parts i all (numbered_below n new (n + length new) (omega arith)) o;
      };
    })
