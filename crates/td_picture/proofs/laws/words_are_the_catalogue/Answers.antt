use Rattle.std.proofs.Common.{◌≡◌, false, refl, sym, ◌∙◌}
use Rattle.std.specs.Prelude.{is_some}
use Rattle.td_plan.specs.declared.vertex.Kind.{Kind}
use Rattle.td_plan.specs.declared.vertex.Kind.TheVariants.{Map, Group, Fold}
use Rattle.td_catalogue.specs.Shelves.{in_catalogue}
use Rattle.td_picture.specs.Words.{map_rows, group_rows, fold_rows, words_of, told_of, unknown}
use Rattle.td_picture.proofs.Codes.{maps, groups, folds}
use Rattle.td_picture.proofs.Rows.{has_words, told_unknown, no_words}
use Rattle.td_picture.proofs.laws.words_are_the_catalogue.Goals as goal

words : (kind : Kind) → is_some (words_of kind) ≡ in_catalogue kind
words (Map code) = has_words map_rows code ∙ maps code
words (Group code) = has_words group_rows code ∙ groups code
words (Fold code) = has_words fold_rows code ∙ folds code
words _ = refl

pub returns-clause-words : goal.returns-clause-words
returns-clause-words c = words

no_closure : (kind : Kind) → told_of kind ≡ unknown → in_catalogue kind ≡ false
no_closure (Map code) told = sym (words (Map code)) ∙ told_unknown map_rows code refl told
no_closure (Group code) told = sym (words (Group code)) ∙ told_unknown group_rows code refl told
no_closure (Fold code) told = sym (words (Fold code)) ∙ told_unknown fold_rows code refl told
no_closure _ told = refl

pub returns-clause-unknown : goal.returns-clause-unknown
returns-clause-unknown c kind = (no_closure kind, λ none. no_words (words_of kind) (words kind ∙ none))
