-- A command that grows by each item of a list in turn.
use Rattle.std.proofs.Common.{◌≡◌, ◌∙◌, sym, ap, ap₂, ℕ, ◌+◌, ◌<◌, List, ◌∷◌, ◌++◌, map, length, drop, get_or}
use Rattle.std.specs.List.{fold}
use Rattle.std.proofs.lemmas.List.{at_drop_more, map-append}
use Rattle.std.proofs.lemmas.List.Sums.{fold-append}
use Rattle.clap.specs.Words.{App, with_subcommand}
use Rattle.td_words.specs.Command.{Subcommand, leaf_shape}

-- once it has grown by an item, the items after that one make of it what they made of it before, with that item
module _ {X Y : Type 0} (add : App → Y → App) (made_of : X → Y) (all_made_of : List X → List Y) (in_turn : (x : X) (xs : List X) → all_made_of (x ∷ xs) ≡ made_of x ∷ all_made_of xs) where
  pub grown : (xs : List X) (i : ℕ) (default : X) (before after whole : App) (y : Y) → i < length xs → after ≡ add before y → y ≡ made_of (get_or xs i default)
      → fold add before (all_made_of (drop i xs)) ≡ whole → fold add after (all_made_of (drop (i + 1) xs)) ≡ whole
  grown xs i default before after whole y within is at rest =
      let left = drop (i + 1) xs in
      ap (λ a. fold add a (all_made_of left)) (is ∙ ap (add before) at) ∙ sym (ap (fold add before) (in_turn (get_or xs i default) left)) ∙ sym (at_drop_more (λ l. fold add before (all_made_of l)) xs i default within) ∙ rest

-- a command with the subcommands of a list, which is known, more than one that is known
pub with_known : (before after app : App) (list known : List Subcommand) → after ≡ fold with_subcommand before (map leaf_shape list) → list ≡ known → before ≡ app → after ≡ fold with_subcommand app (map leaf_shape known)
with_known before after app list known is list_is before_is = is ∙ ap₂ (λ a l. fold with_subcommand a (map leaf_shape l)) before_is list_is

-- two lists in turn are the list of both
then : (app : App) (x y : List Subcommand) → fold with_subcommand (fold with_subcommand app (map leaf_shape x)) (map leaf_shape y) ≡ fold with_subcommand app (map leaf_shape (x ++ y))
then app x y = sym (fold-append with_subcommand app (map leaf_shape x) (map leaf_shape y)) ∙ ap (fold with_subcommand app) (sym (map-append leaf_shape x y))

pub in_parts : (app : App) (w x y z : List Subcommand) → fold with_subcommand (fold with_subcommand (fold with_subcommand (fold with_subcommand app (map leaf_shape w)) (map leaf_shape x)) (map leaf_shape y)) (map leaf_shape z)
    ≡ fold with_subcommand app (map leaf_shape (w ++ x ++ y ++ z))
in_parts app w x y z =
    ap (λ a. fold with_subcommand (fold with_subcommand a (map leaf_shape y)) (map leaf_shape z)) (then app w x) ∙ ap (λ a. fold with_subcommand a (map leaf_shape z)) (then app (w ++ x) y) ∙ then app (w ++ x ++ y) z
