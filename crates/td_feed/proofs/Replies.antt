-- Which refusals of a keeper's are its replies.
use Rattle.std.proofs.Common.{◌≡◌, ◌⊎◌, inl, inr, true, false, List, [], ◌∷◌, refl, sym, ap, ◌∙◌, subst}
use Rattle.td_store.specs.declared.standing.error.KeeperError.{KeeperError}
use Rattle.td_store.specs.declared.standing.error.KeeperError.TheVariants as error
use Rattle.td_keeper.specs.declared.command.Reply.{Reply}
use Rattle.td_keeper.specs.declared.command.Reply.TheVariants.{Submitted, SubmittedAs, SubmittedAll, Released, Settled, Collected, Out, CutTaken, Answered, Written, Closed, Refused, RefusedAll}
use Rattle.td_keeper.specs.declared.submit_all.GroupError.TheVariants as group
use Rattle.td_core.specs.declared.error.HallError.TheVariants as hall
use Rattle.td_pool.specs.declared.error.PoolError.{PoolError}
use Rattle.td_pool.specs.declared.error.PoolError.TheVariants as pool
use Rattle.td_console.specs.declared.faults.Fault.{Fault}
use Rattle.td_console.specs.declared.faults.Fault.TheVariants.{Keeper, Memory}
use Rattle.td_console.specs.Refusals.{keeper_fault}
use Rattle.td_orders.specs.Scripts.{is_of_lines, is_of_reader}
use Rattle.td_feed.specs.Carried.{is_refused}
use Rattle.td_feed.specs.Fed.{pool_fault}
use Rattle.td_feed.specs.Said.{fault_in, IsNoReply, IsOfReplies}

-- want of memory is none
pub of_memory : (rs : List Reply) → IsOfReplies Memory rs
of_memory rs e is = absurd (let no = is in cc)

pub for_memory : (f : Fault) → f ≡ Memory → (rs : List Reply) → IsOfReplies f rs
for_memory f is rs = subst (λ (d : Fault). IsOfReplies d rs) (sym is) (of_memory rs)

-- a last epoch is none
pub of_epochs : (rs : List Reply) → IsOfReplies (Keeper error.Epochs) rs
of_epochs rs e is = inl (inr (inl (let same = is in cc)))

pub of_opened : {T : Type 0} (f : Fault) → (f ≡ Memory) ⊎ ((f ≡ Keeper error.Epochs) × T) → (rs : List Reply) → IsOfReplies f rs
of_opened f (inl memory) rs = for_memory f memory rs
of_opened f (inr epochs) rs = subst (λ (d : Fault). IsOfReplies d rs) (sym epochs.0) (of_epochs rs)

-- the error of a keeper's refusal
keeper_is : (e d : KeeperError) → keeper_fault e ≡ Keeper d → e ≡ d
keeper_is error.Memory d is = absurd (let no = is in cc)
keeper_is e d is = let same = is in cc

-- a reply's is it
pub of_reply : (f : Fault) (r : Reply) → is_refused r ≡ true → f ≡ fault_in r → IsOfReplies f (r ∷ [])
of_reply f (Refused e b) refused is = λ d same. inr (inl (keeper_is e d (sym is ∙ same)))
of_reply f (RefusedAll (group.Keeper e) xs) refused is = λ d same. inr (inl (keeper_is e d (sym is ∙ same)))
of_reply f (RefusedAll group.Repeated xs) refused is = λ d same. absurd (let no : fault_in (RefusedAll group.Repeated xs) ≡ Keeper d = sym is ∙ same in cc)
of_reply f (Submitted n) refused is = absurd (let no : false ≡ true = refused in cc)
of_reply f (SubmittedAs n) refused is = absurd (let no : false ≡ true = refused in cc)
of_reply f (SubmittedAll n m) refused is = absurd (let no : false ≡ true = refused in cc)
of_reply f (Released n) refused is = absurd (let no : false ≡ true = refused in cc)
of_reply f Settled refused is = absurd (let no : false ≡ true = refused in cc)
of_reply f (Collected n) refused is = absurd (let no : false ≡ true = refused in cc)
of_reply f (Out o) refused is = absurd (let no : false ≡ true = refused in cc)
of_reply f (CutTaken n) refused is = absurd (let no : false ≡ true = refused in cc)
of_reply f (Written w) refused is = absurd (let no : false ≡ true = refused in cc)
of_reply f (Answered m ys) refused is = absurd (let no : false ≡ true = refused in cc)
of_reply f Closed refused is = absurd (let no : false ≡ true = refused in cc)

-- a worker's is none
pub of_pool_error : (p : PoolError) (rs : List Reply) → IsOfReplies (pool_fault p) rs
of_pool_error (pool.NoCall vertex code) rs e is = absurd (let no = is in cc)
of_pool_error pool.Memory rs e is = absurd (let no = is in cc)
of_pool_error (pool.Hall hall.Memory) rs e is = absurd (let no = is in cc)
of_pool_error (pool.Hall hall.Spent) rs e is = absurd (let no = is in cc)
of_pool_error _ rs e is = inl (inr (inr (let same = is in cc)))

-- nor is a reader's
too_many : (e : KeeperError) → is_of_reader (Keeper e) ≡ true → IsNoReply e
too_many error.TooManyRecords is = inl refl
too_many _ is = absurd (let no : false ≡ true = is in cc)

pub of_reader_error : (f : Fault) → is_of_reader f ≡ true → (rs : List Reply) → IsOfReplies f rs
of_reader_error f reader rs e is = inl (too_many e (ap is_of_reader (sym is) ∙ reader))

pub of_lines_error : (f : Fault) → is_of_lines f ≡ true → (rs : List Reply) → IsOfReplies f rs
of_lines_error f lines rs e is = absurd (let no : is_of_lines (Keeper e) ≡ true = ap is_of_lines (sym is) ∙ lines in cc)
