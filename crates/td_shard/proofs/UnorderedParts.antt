-- The states after an epoch at places of a base, and then at those with last versions, one after another.
use Rattle.std.proofs.Common.{◌≡◌, ℕ, List, [], ◌∷◌, ◌++◌, Option, Some, None, sym, ap, ◌∙◌, subst}
use Rattle.std.specs.Map.{keys_of}
use Rattle.td_stamp.specs.declared.values.State.{State}
use Rattle.td_stamp.specs.States.{StateList, state_of}
use Rattle.td_machine.specs.declared.records.StateLeft.{StateLeft}
use Rattle.td_shard.specs.declared.versions.Version.{Version}
use Rattle.td_shard.specs.After.{states_after, entries_at, AreParts}
use Rattle.td_shard.specs.Versions.{version_or, IsLatestAt}
use Rattle.td_shard.proofs.EntriesAt.{first_found, none_found}

module _ (epoch : ℕ) (base : StateList) (left : List StateLeft) where
  abbrev after : StateList
  after = states_after epoch base left

  abbrev pub Places : Type 0
  Places = List ((ℕ × ℕ) × Option Version)

  abbrev pub at_parts : StateList → Places → StateList
  at_parts kept latest = entries_at after (keys_of kept ++ keys_of latest)

  -- ---- at the first place of the base

  module _ (place : ℕ × ℕ) (one : State) (kept rest : StateList) (latest : Places) (is : kept ≡ (place, one) ∷ rest) (parts : AreParts epoch base left kept latest) where
    abbrev first_parts : AreParts epoch base left ((place, one) ∷ rest) latest
    first_parts = subst (λ l. AreParts epoch base left l latest) is parts

    pub rest_kept : AreParts epoch base left rest latest
    rest_kept = (first_parts.0, first_parts.1.1, first_parts.2)

    module _ (version : Option Version) (told : IsLatestAt epoch left place version) (found : Option State) (found_is : found ≡ version_or version (Some one)) where
      there : state_of after place.0 place.1 ≡ found
      there = told base first_parts.0 ∙ (ap (version_or version) first_parts.1.0 ∙ sym found_is)

      pub kept_found : (s : State) → found ≡ Some s → at_parts kept latest ≡ (place, s) ∷ at_parts rest latest
      kept_found s e = ap (λ l. at_parts l latest) is ∙ first_found after place (keys_of rest ++ keys_of latest) s (there ∙ e)

      pub none_kept : found ≡ None → at_parts rest latest ≡ at_parts kept latest
      none_kept e = sym (ap (λ l. at_parts l latest) is ∙ none_found after place (keys_of rest ++ keys_of latest) (there ∙ e))

  -- ---- and behind those, at the first one with a last version

  module _ (place : ℕ × ℕ) (version : Option Version) (kept : StateList) (latest rest : Places) (is : latest ≡ (place, version) ∷ rest) (passed : kept ≡ []) (parts : AreParts epoch base left kept latest) where
    abbrev left_parts : AreParts epoch base left kept ((place, version) ∷ rest)
    left_parts = subst (AreParts epoch base left kept) is parts

    pub rest_left : AreParts epoch base left kept rest
    rest_left = (left_parts.0, left_parts.1, left_parts.2.1)

    module _ (found : Option State) (found_is : found ≡ version_or version (state_of base place.0 place.1)) where
      here : state_of after place.0 place.1 ≡ found
      here = left_parts.2.0 base left_parts.0 ∙ sym found_is

      pub left_found : (s : State) → found ≡ Some s → at_parts kept latest ≡ (place, s) ∷ at_parts kept rest
      left_found s e =
          (λ i. at_parts (passed i) (is i)) ∙ (first_found after place (keys_of rest) s (here ∙ e) ∙ ap (λ l. (place, s) ∷ at_parts l rest) (sym passed))

      pub none_left : found ≡ None → at_parts kept rest ≡ at_parts kept latest
      none_left e = ap (λ l. at_parts l rest) passed ∙ sym ((λ i. at_parts (passed i) (is i)) ∙ none_found after place (keys_of rest) (here ∙ e))
