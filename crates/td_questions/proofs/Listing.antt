-- The states of a vertex from a key on, as they are listed one by one.
use Rattle.std.proofs.Common.{◌≡◌, ℕ, ◌==◌, ◌&&◌, true, false, cond, [], ◌∷◌, ◌++◌, nat_le, Option, ap, sym, ◌∙◌, append_assoc}
use Rattle.td_stamp.specs.States.{StateList}
use Rattle.td_questions.specs.Asked.{Entry, at_most, kept_from}

module _ (count : Option ℕ) (vertex from : ℕ) where
  -- what is listed, with what is still to be
  abbrev pub with_rest : StateList → StateList → StateList
  with_rest listed states = at_most count (listed ++ kept_from vertex from states)

  pub one_listed : (e : Entry) (states listed new : StateList) → (e.0.0 == vertex && nat_le from e.0.1) ≡ true → new ≡ listed ++ e ∷ [] → with_rest new states ≡ with_rest listed (e ∷ states)
  one_listed e states listed new t is =
      ap (λ l. with_rest l states) is
      ∙ (ap (at_most count) (append_assoc listed (e ∷ []) (kept_from vertex from states))
      ∙ sym (ap (λ b. at_most count (listed ++ cond b (e ∷ kept_from vertex from states) (kept_from vertex from states))) t))

  pub none_listed : (e : Entry) (states listed : StateList) → (e.0.0 == vertex && nat_le from e.0.1) ≡ false → with_rest listed states ≡ with_rest listed (e ∷ states)
  none_listed e states listed t = sym (ap (λ b. at_most count (listed ++ cond b (e ∷ kept_from vertex from states) (kept_from vertex from states))) t)
