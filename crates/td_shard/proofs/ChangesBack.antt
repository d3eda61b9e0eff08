-- Changes of states that are taken back, the last first.
use Rattle.std.proofs.Common.{◌≡◌, ℕ, Bool, true, false, cond, List, [], ◌∷◌, ◌++◌, Option, Some, None, refl, ap, sym, ◌∙◌, subst}
use Rattle.std.specs.Prelude.{is_some}
use Rattle.std.specs.declared.cmp.Ordering.{Ordering}
use Rattle.std.specs.declared.cmp.Ordering.TheVariants.{Less, Equal, Greater}
use Rattle.std.specs.Ordering.{is_eq}
use Rattle.td_stamp.specs.declared.values.State.{State}
use Rattle.td_stamp.specs.Orders.{state_key_cmp}
use Rattle.td_stamp.specs.ProvedOrders.{state_key_apart}
use Rattle.td_stamp.specs.States.{StateList, state_of, with_state, AreStates}
use Rattle.td_batch.specs.Meaning.{with_kept}
use Rattle.td_shard.specs.declared.versions.Version.{Version}
use Rattle.td_shard.specs.Versions.{set_there, with_version, with_change_back, with_changes_back}
use Rattle.td_shard.proofs.KeptStates.{kept_keeps, look_kept_same, look_kept_other, states_in_order, same_states}

-- what a last version that sets a state does
pub set_version : (states : StateList) (place : ℕ × ℕ) (version : Version) (state : State) → version.state ≡ Some state
    → with_version states place (set_there (Some version)) ≡ with_state states place.0 place.1 state
set_version states place version state e =
    ap (λ o. with_version states place (cond (is_some o) (Some version) None)) e ∙ ap (with_kept states place.0 place.1) e

-- the last is taken back first
pub last_back : (states : StateList) (es : List ((ℕ × ℕ) × Option State)) (e : (ℕ × ℕ) × Option State) → with_changes_back states (es ++ e ∷ []) ≡ with_changes_back (with_change_back states e) es
last_back states [] e = refl
last_back states (x ∷ es) e = ap (λ s. with_change_back s x) (last_back states es e)

-- a state that is set, and then what was kept before: the same states
set_and_back : (states : StateList) (place : ℕ × ℕ) (state : State) (was : Option State) → AreStates states → state_of states place.0 place.1 ≡ was
    → with_kept (with_kept states place.0 place.1 (Some state)) place.0 place.1 was ≡ states
set_and_back states place state was h e =
    let ordered = states_in_order states h in
    let set = with_kept states place.0 place.1 (Some state) in
    let set_ordered = kept_keeps states place.0 place.1 (Some state) ordered in
    same_states (with_kept set place.0 place.1 was) states (kept_keeps set place.0 place.1 was set_ordered) ordered (λ q. by q (state_key_cmp q place) refl)
  where
    by : (q : ℕ × ℕ) (o : Ordering) → state_key_cmp q place ≡ o
        → state_of (with_kept (with_kept states place.0 place.1 (Some state)) place.0 place.1 was) q.0 q.1 ≡ state_of states q.0 q.1
    by q Equal f =
        let here : q ≡ place = state_key_apart q place f in
        (λ i. state_of (with_kept (with_kept states place.0 place.1 (Some state)) place.0 place.1 was) (here i).0 (here i).1)
        ∙ (look_kept_same (with_kept states place.0 place.1 (Some state)) place.0 place.1 was (kept_keeps states place.0 place.1 (Some state) (states_in_order states h))
        ∙ (sym e ∙ (λ i. state_of states (sym here i).0 (sym here i).1)))
    by q Less f =
        look_kept_other (with_kept states place.0 place.1 (Some state)) q.0 q.1 place.0 place.1 was (ap is_eq f) ∙ look_kept_other states q.0 q.1 place.0 place.1 (Some state) (ap is_eq f)
    by q Greater f =
        look_kept_other (with_kept states place.0 place.1 (Some state)) q.0 q.1 place.0 place.1 was (ap is_eq f) ∙ look_kept_other states q.0 q.1 place.0 place.1 (Some state) (ap is_eq f)

one_back : (states : StateList) (place : ℕ × ℕ) (state : State) (was : Option State) → AreStates states → state_of states place.0 place.1 ≡ was
    → with_change_back (with_state states place.0 place.1 state) (place, was) ≡ states
one_back states place state None h e = set_and_back states place state None h e
one_back states place state (Some was) h e =
    let set = with_state states place.0 place.1 state in
    let there : is_some (state_of set place.0 place.1) ≡ true = ap is_some (look_kept_same states place.0 place.1 (Some state) (states_in_order states h)) in
    ap (λ b. cond b (with_state set place.0 place.1 was) set) there ∙ set_and_back states place state (Some was) h e

-- one change more, and all taken back
pub one_more_back : (states : StateList) (place : ℕ × ℕ) (state : State) (was : Option State) (before : List ((ℕ × ℕ) × Option State)) → AreStates states → was ≡ state_of states place.0 place.1
    → with_changes_back (with_state states place.0 place.1 state) (before ++ (place, was) ∷ []) ≡ with_changes_back states before
one_more_back states place state was before h e =
    last_back (with_state states place.0 place.1 state) before (place, was) ∙ ap (λ s. with_changes_back s before) (one_back states place state was h (sym e))
