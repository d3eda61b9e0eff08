-- The versions of each place are kept as they are to be: there are some, in order.
use Rattle.std.proofs.Common.{◌≡◌, ◌≢◌, ◌↔◌, ℕ, Bool, true, false, cond, List, [], ◌∷◌, ◌++◌, filter, Some, refl, ap, sym, ◌∙◌, subst}
use Rattle.std.specs.Option.{option_map}
use Rattle.std.specs.Map.{lookup, set_value, remove_entry}
use Rattle.std.specs.Map.Calls.{RetainsPairs}
use Rattle.std.specs.BTreeMap.{is_at}
use Rattle.std.specs.List.{AllByRecursion}
use Rattle.std.specs.List.Sorted.{IsPermutation}
use Rattle.std.proofs.lemmas.List.Elements.{All-from_recursion, recursion_from_All}
use Rattle.std.proofs.lemmas.List.Sorted.{IsPermutation-map, All-permutation}
use Rattle.std.specs.declared.cmp.Ordering.{Ordering}
use Rattle.std.specs.declared.cmp.Ordering.TheVariants.{Less, Equal, Greater}
use Rattle.td_stamp.specs.Orders.{state_key_cmp}
use Rattle.td_stamp.specs.Bag.{bag_insert}
use Rattle.td_stamp.specs.Rises.{Rises}
use Rattle.td_shard.specs.declared.versions.Version.{Version}
use Rattle.td_shard.specs.Versions.{VersionList, AreVersions, AreKept, version_cmp}
use Rattle.td_shard.proofs.LeftOrders.{version_total}
use Rattle.td_shard.proofs.Rising.{rises-filter, rises-inserted}
use Rattle.td_shard.proofs.Viewed.{seen, lookup-seen, remove-seen}
use Rattle.td_shard.proofs.KeptVersions.{told, told-as_before, told-written}

-- they are with one more
some-inserted : (v : Version) (vs : List Version) → bag_insert version_cmp v vs ≢ []
some-inserted v [] e = cc
some-inserted v (w ∷ vs) e = by (version_cmp v w) e
  where
    by : (o : Ordering) → ◌≡◌ {A = List Version} (elim o [ Greater ↦ w ∷ bag_insert version_cmp v vs | _ ↦ v ∷ w ∷ vs ]) [] → ⊥
    by Less f = cc
    by Equal f = cc
    by Greater f = cc

pub kept-more : (v : Version) (vs : List Version) → AreVersions vs → AreVersions (bag_insert version_cmp v vs)
kept-more v vs h = (some-inserted v vs, rises-inserted version_cmp version_total v vs h.1)

-- those that are found
kept-found : (test : ℕ × ℕ → Bool) (es : VersionList) (w : List Version) → AreKept es → lookup test es ≡ Some w → AreVersions w
kept-found test [] w h e = cc
kept-found test (d ∷ es) w h e = by (test d.0) e (kept-found test es w h.1)
  where
    by : (b : Bool) → cond b (Some d.1) (lookup test es) ≡ Some w → (lookup test es ≡ Some w → AreVersions w) → AreVersions w
    by true f rest = let same : d.1 ≡ w = cc in subst AreVersions same h.0
    by false f rest = rest f

kept-set : (test : ℕ × ℕ → Bool) (es : VersionList) (w : List Version) → AreVersions w → AreKept es → AreKept (set_value test es w)
kept-set test [] w n h = tt
kept-set test (e ∷ es) w n h = by (test e.0) (kept-set test es w n h.1)
  where
    by : (b : Bool) → AreKept (set_value test es w) → AreKept (cond b ((e.0, w) ∷ es) (e ∷ set_value test es w))
    by true r = (n, h.1)
    by false r = (h.0, r)

-- in any order of the places
HasVersions : (ℕ × ℕ) × List Version → Type 0
HasVersions e = AreVersions e.1

to_each : (es : VersionList) → AreKept es → AllByRecursion HasVersions es
unfolding HasVersions
to_each [] h = tt
to_each (e ∷ es) h = (h.0, to_each es h.1)

from_each : (es : VersionList) → AllByRecursion HasVersions es → AreKept es
unfolding HasVersions
from_each [] h = tt
from_each (e ∷ es) h = (h.0, from_each es h.1)

kept-moved : (es fs : VersionList) → IsPermutation es fs → AreKept es → AreKept fs
kept-moved es fs moved h = from_each fs (recursion_from_All HasVersions fs (All-permutation HasVersions es fs moved (All-from_recursion HasVersions es (to_each es h))))

kept-removed : (test : ℕ × ℕ → Bool) (es : VersionList) (w : List Version) → AreKept es → AreKept (remove_entry test (set_value test es w))
kept-removed test [] w h = tt
kept-removed test (e ∷ es) w h = by (test e.0) refl (kept-removed test es w h.1)
  where
    by : (b : Bool) → test e.0 ≡ b → AreKept (remove_entry test (set_value test es w)) → AreKept (remove_entry test (cond b ((e.0, w) ∷ es) (e ∷ set_value test es w)))
    by true f r = subst (λ b. AreKept (cond b es ((e.0, w) ∷ remove_entry test es))) (sym f) h.1
    by false f r = subst (λ b. AreKept (cond b (set_value test es w) (e ∷ remove_entry test (set_value test es w)))) (sym f) (h.0, r)

-- those of one entry among all
pub kept-among : {V : Type 0} (f : V → List Version) (es before after : List ((ℕ × ℕ) × V)) (k : ℕ × ℕ) (v : V) → AreKept (told f es) → es ≡ before ++ (k, v) ∷ after → AreVersions (f v)
kept-among {V} f es before after k v h e = in-middle before (subst (λ l. AreKept (told f l)) e h)
  where
    in-middle : (ds : List ((ℕ × ℕ) × V)) → AreKept (told f (ds ++ (k, v) ∷ after)) → AreVersions (f v)
    in-middle [] g = g.0
    in-middle (d ∷ ds) g = in-middle ds g.1

module _ {V : Type 0} (f : V → List Version) (place : ℕ × ℕ) (es es2 : List ((ℕ × ℕ) × V)) (had : AreKept (told f es)) where
  -- those of a place
  pub kept-here : (x : V) → Some x ≡ lookup (is_at (state_key_cmp place)) es → AreVersions (f x)
  kept-here x e = kept-found (is_at (state_key_cmp place)) (told f es) (f x) had (lookup-seen f (is_at (state_key_cmp place)) es ∙ ap (option_map f) (sym e))

  -- the same versions are written back
  pub kept-before : (x y : V) → Some x ≡ lookup (is_at (state_key_cmp place)) es → es2 ≡ set_value (is_at (state_key_cmp place)) es y → f y ≡ f x → AreKept (told f es2)
  kept-before x y e g h = subst AreKept (sym (told-as_before f place es es2 x y e g h)) had

  -- some are written back
  pub kept-written : (y : V) → es2 ≡ set_value (is_at (state_key_cmp place)) es y → AreVersions (f y) → AreKept (told f es2)
  kept-written y g n = subst AreKept (sym (told-written f place es es2 y g)) (kept-set (is_at (state_key_cmp place)) (told f es) (f y) n had)

  -- a place is put in with some
  pub kept-put : (y : V) → IsPermutation ((place, y) ∷ es) es2 → AreVersions (f y) → AreKept (told f es2)
  kept-put y g n = kept-moved (told f ((place, y) ∷ es)) (told f es2) (IsPermutation-map (seen f) ((place, y) ∷ es) es2 g) (n, had)

  -- a place without any is taken out
  pub kept-out : (y : V) (es3 : List ((ℕ × ℕ) × V)) → es2 ≡ set_value (is_at (state_key_cmp place)) es y → IsPermutation (remove_entry (is_at (state_key_cmp place)) es2) es3 → AreKept (told f es3)
  kept-out y es3 g r =
      kept-moved (told f (remove_entry (is_at (state_key_cmp place)) es2)) (told f es3) (IsPermutation-map (seen f) (remove_entry (is_at (state_key_cmp place)) es2) es3 r)
      (subst AreKept (sym (sym (remove-seen f (is_at (state_key_cmp place)) es2) ∙ ap (remove_entry (is_at (state_key_cmp place))) (told-written f place es es2 y g)))
      (kept-removed (is_at (state_key_cmp place)) (told f es) (f y) had))

module _ {V F : Type 0} (f : V → List Version) (T : F → (ℕ × ℕ) → V → Bool → V → F → Type 0) (call : F) (p : Version → Bool)
    (calls : (k : ℕ × ℕ) (v : V) (b : Bool) (w : V) (after : F) → T call k v b w after → (f w ≡ filter p (f v)) × ((b ≡ true) ↔ (f w ≢ [])) × (after ≡ call)) where
  -- what passes a test stays, and only places with some
  pub kept-let_go : (es kept : List ((ℕ × ℕ) × V)) → AreKept (told f es) → RetainsPairs T call es kept → AreKept (told f kept)
  kept-let_go [] kept had r = subst (λ l. AreKept (told f l)) (sym r) tt
  kept-let_go (e ∷ es) kept had (b, w, after, rest, t, more, is) =
      let c = calls e.0 e.1 b w after t in
      let later = kept-let_go es rest had.1 (subst (λ g. RetainsPairs T g es rest) c.2 more) in
      let rises : Rises version_cmp (f w) = subst (Rises version_cmp) (sym c.0) (rises-filter version_cmp p (f e.1) had.0.1) in
      subst (λ l. AreKept (told f l)) (sym is) (by rises b refl c.1 later)
    where
      by : Rises version_cmp (f w) → (a : Bool) → b ≡ a → (b ≡ true) ↔ (f w ≢ []) → AreKept (told f rest) → AreKept (told f (cond a ((e.0, w) ∷ rest) rest))
      by rises true g some later = ((some.0 g, rises), later)
      by rises false g some later = later
