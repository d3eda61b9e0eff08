-- Texts that are printed piece by piece.
use Rattle.std.proofs.Common.{◌≡◌, ◌++◌, ap, ◌∙◌}
use Rattle.std.proofs.lemmas.List.{append_assoc}
use Rattle.td_picture.specs.Words.{Text}

-- a piece and one after it
pub two : (a b c x y : Text) → b ≡ a ++ x → c ≡ b ++ y → c ≡ a ++ (x ++ y)
two a b c x y first next = next ∙ ap (λ (r : Text). r ++ y) first ∙ append_assoc a x y

pub three : (a b c d x y z : Text) → b ≡ a ++ x → c ≡ b ++ y → d ≡ c ++ z → d ≡ a ++ (x ++ (y ++ z))
three a b c d x y z first next last = two a b d x (y ++ z) first (two b c d y z next last)
