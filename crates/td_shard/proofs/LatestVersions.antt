-- The last version of a place, as the map of all versions has it.
use Rattle.std.proofs.Common.{◌≡◌, ℕ, ◌||◌, List, [], ◌∷◌, map, filter, nat_le, Option, Some, None, Bool, true, false, cond, refl, sym, ap, ◌∙◌, subst}
use Rattle.std.specs.Option.{option_map}
use Rattle.std.specs.Map.{keys_of, lookup}
use Rattle.std.specs.BTreeMap.{is_at}
use Rattle.std.specs.List.{AllByRecursion, IsDistinct}
use Rattle.std.specs.Ordering.{eq_by_cmp, is_eq}
use Rattle.td_stamp.specs.Bag.{has}
use Rattle.td_stamp.specs.Orders.{state_key_cmp}
use Rattle.td_stamp.specs.BagLaws.{BagLaws}
use Rattle.td_stamp.specs.States.{same_place, state_of}
use Rattle.td_machine.specs.declared.records.StateLeft.{StateLeft}
use Rattle.td_machine.specs.State.{left_cmp, with_left}
use Rattle.td_shard.specs.declared.versions.Version.{Version}
use Rattle.td_shard.specs.Versions.{left_in, latest, up_to, version_or, IsLatestAt}
use Rattle.td_shard.proofs.Viewed.{seen, lookup-seen, keys-seen}
use Rattle.td_shard.proofs.LeftBags.{found_by_order}
use Rattle.td_shard.proofs.LeftStates.{state_there, latest_at}

none_at : {V : Type 0} (p : ℕ × ℕ) (es : List ((ℕ × ℕ) × V)) → has state_key_cmp p (keys_of es) ≡ false → None ≡ lookup (is_at (state_key_cmp p)) es
none_at p [] h = refl
none_at {V} p (e ∷ es) h = by (is_eq (state_key_cmp p e.0)) h (none_at p es)
  where
    by : (b : Bool) → (b || has state_key_cmp p (keys_of es)) ≡ false → (has state_key_cmp p (keys_of es) ≡ false → None ≡ lookup (is_at (state_key_cmp p)) es)
        → None ≡ cond b (Some e.1) (lookup (is_at (state_key_cmp p)) es)
    by true n rest = cc
    by false n rest = rest n

module _ {V : Type 0} (f : V → List Version) (es : List ((ℕ × ℕ) × V)) (epoch : ℕ) (left : List StateLeft)
    (laws : BagLaws left_cmp) (apart : IsDistinct (eq_by_cmp state_key_cmp) (keys_of es)) (is : left_in (map (seen f) es) ≡ left) where
  -- by what the map has for the place
  pub by_look : (p : ℕ × ℕ) (o : Option V) → o ≡ lookup (is_at (state_key_cmp p)) es → IsLatestAt epoch left p (latest_at epoch (option_map f o))
  by_look p o e states ordered =
      ap (λ l. state_of (with_left states (filter (λ x. nat_le x.epoch epoch) l)) p.0 p.1) (sym is)
      ∙ (state_there laws epoch p (map (seen f) es) states (subst (IsDistinct (eq_by_cmp state_key_cmp)) (sym (keys-seen f es)) apart) ordered
      ∙ ap (λ l. version_or (latest_at epoch l) (state_of states p.0 p.1)) (lookup-seen f (is_at (state_key_cmp p)) es ∙ ap (option_map f) (sym e)))

  -- and of some of the map, each
  pub each_latest : (some : List ((ℕ × ℕ) × V)) → AllByRecursion (λ (e : (ℕ × ℕ) × V). lookup (same_place e.0) es ≡ Some e.1) some
      → AllByRecursion (λ (e : (ℕ × ℕ) × Option Version). IsLatestAt epoch left e.0 e.1) (map (λ e. (e.0, latest (up_to epoch (f e.1)))) some)
  each_latest [] h = tt
  each_latest (e ∷ some) h = (by_look e.0 (Some e.1) (found_by_order e.0 es (Some e.1) (sym h.0)), each_latest some h.1)

keys_told : {V W : Type 0} (g : (ℕ × ℕ) × V → W) (es : List ((ℕ × ℕ) × V)) → keys_of (map (λ e. (e.0, g e)) es) ≡ keys_of es
keys_told g [] = refl
keys_told g (e ∷ es) = ap (λ l. e.0 ∷ l) (keys_told g es)

-- a place that is none of the map's has no last version
pub no_version : {V : Type 0} (f : V → List Version) (p : ℕ × ℕ) (epoch : ℕ) (es : List ((ℕ × ℕ) × V))
    → has state_key_cmp p (keys_of (map (λ e. (e.0, latest (up_to epoch (f e.1)))) es)) ≡ false → None ≡ lookup (is_at (state_key_cmp p)) es
no_version f p epoch es h = none_at p es (sym (ap (has state_key_cmp p) (keys_told (λ e. latest (up_to epoch (f e.1))) es)) ∙ h)
