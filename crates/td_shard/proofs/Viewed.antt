-- What is done to a map is done to the list as which contracts see it.
use Rattle.std.proofs.Common.{◌≡◌, Bool, true, false, cond, List, [], ◌∷◌, map, Option, Some, None, refl, ap, ◌∙◌}
use Rattle.std.specs.declared.cmp.Ordering.{Ordering}
use Rattle.std.specs.declared.cmp.Ordering.TheVariants.{Less, Equal, Greater}
use Rattle.std.specs.Ordering.{match_ordering}
use Rattle.std.specs.Option.{option_map, is_some}
use Rattle.std.specs.Map.{lookup, remove_entry, set_value}
use Rattle.std.specs.BTreeMap.{insert_entry}

module _ {K X Y : Type 0} (f : X → Y) where
  -- an entry as it is seen
  abbrev pub seen : K × X → K × Y
  seen e = (e.0, f e.1)

  lookup-by : (k : K) (b : Bool) (x : X) (o : Option X) (p : Option Y) → p ≡ option_map f o → cond b (Some (f x)) p ≡ option_map f (cond b (Some x) o)
  lookup-by k true x o p e = refl
  lookup-by k false x o p e = e

  pub lookup-seen : (test : K → Bool) (es : List (K × X)) → lookup test (map seen es) ≡ option_map f (lookup test es)
  lookup-seen test [] = refl
  lookup-seen test (e ∷ es) = lookup-by e.0 (test e.0) e.1 (lookup test es) (lookup test (map seen es)) (lookup-seen test es)

  if-seen : (b : Bool) (xs ys : List (K × X)) (vs ws : List (K × Y)) → vs ≡ map seen xs → ws ≡ map seen ys → cond b vs ws ≡ map seen (cond b xs ys)
  if-seen true xs ys vs ws e g = e
  if-seen false xs ys vs ws e g = g

  pub set-seen : (test : K → Bool) (es : List (K × X)) (x : X) → set_value test (map seen es) (f x) ≡ map seen (set_value test es x)
  set-seen test [] x = refl
  set-seen test (e ∷ es) x = if-seen (test e.0) ((e.0, x) ∷ es) (e ∷ set_value test es x) ((e.0, f x) ∷ map seen es) (seen e ∷ set_value test (map seen es) (f x)) refl (ap (λ l. seen e ∷ l) (set-seen test es x))

  pub remove-seen : (test : K → Bool) (es : List (K × X)) → remove_entry test (map seen es) ≡ map seen (remove_entry test es)
  remove-seen test [] = refl
  remove-seen test (e ∷ es) = if-seen (test e.0) es (e ∷ remove_entry test es) (map seen es) (seen e ∷ remove_entry test (map seen es)) refl (ap (λ l. seen e ∷ l) (remove-seen test es))

  order-seen : (o : Ordering) (xs ys zs : List (K × X)) (us vs ws : List (K × Y)) → us ≡ map seen xs → vs ≡ map seen ys → ws ≡ map seen zs → match_ordering o us vs ws ≡ map seen (match_ordering o xs ys zs)
  order-seen Less xs ys zs us vs ws e g h = e
  order-seen Equal xs ys zs us vs ws e g h = g
  order-seen Greater xs ys zs us vs ws e g h = h

  pub insert-seen : (cmp : K → K → Ordering) (es : List (K × X)) (k : K) (x : X) → insert_entry cmp (map seen es) k (f x) ≡ map seen (insert_entry cmp es k x)
  insert-seen cmp [] k x = refl
  insert-seen cmp (e ∷ es) k x =
      order-seen (cmp k e.0) ((k, x) ∷ e ∷ es) ((e.0, x) ∷ es) (e ∷ insert_entry cmp es k x) ((k, f x) ∷ seen e ∷ map seen es) ((e.0, f x) ∷ map seen es) (seen e ∷ insert_entry cmp (map seen es) k (f x))
      refl refl (ap (λ l. seen e ∷ l) (insert-seen cmp es k x))

  pub keys-seen : (es : List (K × X)) → map (λ e. e.0) (map seen es) ≡ map (λ e. e.0) es
  keys-seen [] = refl
  keys-seen (e ∷ es) = ap (λ l. e.0 ∷ l) (keys-seen es)

  pub some-seen : (test : K → Bool) (es : List (K × X)) → is_some (lookup test (map seen es)) ≡ is_some (lookup test es)
  some-seen test es = ap is_some (lookup-seen test es) ∙ some (lookup test es)
    where
      some : (o : Option X) → is_some (option_map f o) ≡ is_some o
      some None = refl
      some (Some x) = refl
